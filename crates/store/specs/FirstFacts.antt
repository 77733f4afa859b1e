-- The first index at which a test fails.
use Rattle.std.specs.Prelude.{◌≡◌, ℕ, zero, suc, ◌+◌, ◌-◌, ◌<◌, ◌≤◌, Bool, true, false, cond, not, ◌⊎◌, is_some, Some, None, Option, refl}
use Rattle.std.proofs.Common.{sym, ap, subst, ◌∙◌, inl, inr, ⊎_elim, zero-add, suc-add, add-one, arith}
use Rattle.std.proofs.lemmas.Bool.{cases_eq, cases_lt, not-false}
use Rattle.store.specs.First.{first_bad, or_else, all_pass, some_pass, failing, passing}

pub none_zero : (p : ℕ → Bool) → first_bad p 0 ≡ None
unfolding first_bad
none_zero p = refl

pub none_more : (p : ℕ → Bool) (n : ℕ) → first_bad p n ≡ None → p n ≡ true → first_bad p (n + 1) ≡ None
unfolding first_bad
none_more p n h e = rw (add-one, h, e) refl

-- once found, it stays the first
found_later : (p : ℕ → Bool) (n k i : ℕ) → first_bad p n ≡ Some i → first_bad p (k + n) ≡ Some i
unfolding first_bad
found_later p n zero i h = rw zero-add h
found_later p n (suc k) i h = rw (suc-add, found_later p n k i h) refl

found_here : (p : ℕ → Bool) (i : ℕ) → first_bad p i ≡ None → p i ≡ false → first_bad p (suc i) ≡ Some i
unfolding first_bad
found_here p i h e = rw (h, e) refl

pub found : (p : ℕ → Bool) (n i : ℕ) → first_bad p i ≡ None → p i ≡ false → i < n → first_bad p n ≡ Some i
found p n i h e lt =
    let k : (n - suc i) + suc i ≡ n = omega arith in
    subst (λ m. first_bad p m ≡ Some i) k (found_later p (suc i) (n - suc i) i (found_here p i h e))

parts : (o : Option ℕ) (b : Bool) (m : ℕ) → or_else o (cond b None (Some m)) ≡ None → (o ≡ None) × (b ≡ true)
parts None true m h = (refl, refl)
parts None false m h = let z : ◌≡◌ {A = ℕ} 0 1 = cc in absurd (omega arith)
parts (Some i) b m h = let z : ◌≡◌ {A = ℕ} 0 1 = cc in absurd (omega arith)

-- none fails: each passes
pub none_all : (p : ℕ → Bool) (n : ℕ) → first_bad p n ≡ None → (k : ℕ) → k < n → p k ≡ true
unfolding first_bad
none_all p zero h k lt = absurd (omega arith)
none_all p (suc n) h k lt =
    let q : (first_bad p n ≡ None) × (p n ≡ true) = parts (first_bad p n) (p n) n h in
    ⊎_elim (λ e. subst (λ m. p m ≡ true) (sym e) q.1) (λ ne. none_all p n q.0 k (omega arith)) (cases_eq k n)

pub all_none : (p : ℕ → Bool) (n : ℕ) → ((k : ℕ) → k < n → p k ≡ true) → first_bad p n ≡ None
unfolding first_bad
all_none p zero h = refl
all_none p (suc n) h = rw (all_none p n (λ k lt. h k (omega arith)), h n (omega arith)) refl

pub all_pass_none : (p : ℕ → Bool) (n : ℕ) → first_bad p n ≡ None → all_pass p n ≡ true
unfolding all_pass
all_pass_none p n h = rw h refl

pub all_pass_found : (p : ℕ → Bool) (n i : ℕ) → first_bad p i ≡ None → p i ≡ false → i < n → all_pass p n ≡ false
unfolding all_pass
all_pass_found p n i h e lt = rw (found p n i h e lt) refl

pub some_pass_none : (p : ℕ → Bool) (n : ℕ) → first_bad (failing p) n ≡ None → some_pass p n ≡ false
unfolding some_pass
some_pass_none p n h = rw h refl

pub some_pass_found : (p : ℕ → Bool) (n i : ℕ) → first_bad (failing p) i ≡ None → p i ≡ true → i < n → some_pass p n ≡ true
unfolding some_pass
some_pass_found p n i h e lt = rw (found (failing p) n i h (ap not e) lt) refl

same_end : (j n : ℕ) → j ≤ n → n ≤ j → j ≡ n
same_end j n a b = omega arith

-- the loop reached the end
pub none_end : (p : ℕ → Bool) (n j : ℕ) → first_bad p j ≡ None → j ≤ n → n ≤ j → first_bad p n ≡ None
none_end p n j h a b = subst (λ m. first_bad p m ≡ None) (same_end j n a b) h

pub all_pass_end : (p : ℕ → Bool) (n j : ℕ) → first_bad p j ≡ None → j ≤ n → n ≤ j → all_pass p n ≡ true
all_pass_end p n j h a b = all_pass_none p n (none_end p n j h a b)

pub some_pass_end : (p : ℕ → Bool) (n j : ℕ) → first_bad (failing p) j ≡ None → j ≤ n → n ≤ j → some_pass p n ≡ false
some_pass_end p n j h a b = some_pass_none p n (none_end (failing p) n j h a b)

not_some : (o : Option ℕ) → not (is_some o) ≡ true → o ≡ None
not_some None h = refl
not_some (Some x) h = let z : ◌≡◌ {A = ℕ} 0 1 = cc in absurd (omega arith)

pub all_pass_all : (p : ℕ → Bool) (n : ℕ) → all_pass p n ≡ true → (k : ℕ) → k < n → p k ≡ true
unfolding all_pass
all_pass_all p n h = none_all p n (not_some (first_bad p n) h)

halves : (o : Option ℕ) (b : Bool) (m i : ℕ) → or_else o (cond b None (Some m)) ≡ Some i → (o ≡ Some i) ⊎ (m ≡ i)
halves None true m i h = let z : ◌≡◌ {A = ℕ} 0 1 = cc in absurd (omega arith)
halves None false m i h = inr (cc)
halves (Some k) b m i h = inl h

-- what is found is in range
pub found_within : (p : ℕ → Bool) (n i : ℕ) → first_bad p n ≡ Some i → i < n
unfolding first_bad
found_within p zero i h = let z : ◌≡◌ {A = ℕ} 0 1 = cc in absurd (omega arith)
found_within p (suc n) i h =
    ⊎_elim (λ e. let r : i < n = found_within p n i e in omega arith) (λ e. omega arith) (halves (first_bad p n) (p n) n i h)

fails : (o : Option ℕ) (b : Bool) (m i : ℕ) → or_else o (cond b None (Some m)) ≡ Some i → (o ≡ Some i) ⊎ ((m ≡ i) × (b ≡ false))
fails None true m i h = let z : ◌≡◌ {A = ℕ} 0 1 = cc in absurd (omega arith)
fails None false m i h = inr ((cc), refl)
fails (Some k) b m i h = inl h

-- what is found fails
pub found_fails : (p : ℕ → Bool) (n i : ℕ) → first_bad p n ≡ Some i → p i ≡ false
unfolding first_bad
found_fails p zero i h = let z : ◌≡◌ {A = ℕ} 0 1 = cc in absurd (omega arith)
found_fails p (suc n) i h = ⊎_elim (λ e. found_fails p n i e) (λ e. subst (λ m. p m ≡ false) e.0 e.1) (fails (first_bad p n) (p n) n i h)

-- how many pass, one index at a time
pub passing_zero : (p : ℕ → Bool) → passing p 0 ≡ 0
unfolding passing
passing_zero p = refl

pub passing_yes : (p : ℕ → Bool) (n : ℕ) → p n ≡ true → passing p (n + 1) ≡ passing p n + 1
unfolding passing
passing_yes p n e = rw (add-one, e) (omega arith)

pub passing_no : (p : ℕ → Bool) (n : ℕ) → p n ≡ false → passing p (n + 1) ≡ passing p n
unfolding passing
passing_no p n e = rw (add-one, e) refl

pub passing_end : (p : ℕ → Bool) (n j k : ℕ) → k ≡ passing p j → j ≤ n → n ≤ j → k ≡ passing p n
passing_end p n j k h a b = h ∙ ap (passing p) (same_end j n a b)

-- an index that passes stops the search for one
some_of : (p : ℕ → Bool) (n i : ℕ) → i < n → p i ≡ true → (o : Option ℕ) → first_bad (failing p) n ≡ o → (j : ℕ) × (o ≡ Some j)
some_of p n i lt e None h = let f = none_all (failing p) n h i lt in let z : ◌≡◌ {A = ℕ} 0 1 = cc in absurd (omega arith)
some_of p n i lt e (Some j) h = (j, refl)

some_to : (p : ℕ → Bool) (n i : ℕ) → i < n → p i ≡ true → (o : Option ℕ) → first_bad (failing p) n ≡ o → is_some o ≡ true
some_to p n i lt e o h = ap is_some (some_of p n i lt e o h).1

some_from : (p : ℕ → Bool) (n : ℕ) (o : Option ℕ) → first_bad (failing p) n ≡ o → is_some o ≡ true → (i : ℕ) × (i < n) × (p i ≡ true)
some_from p n None h e = let z : ◌≡◌ {A = ℕ} 0 1 = cc in absurd (omega arith)
some_from p n (Some j) h e = (j, found_within (failing p) n j h, not-false (p j) (found_fails (failing p) n j h))

-- some index passes: one that does
pub some_pass_some : (p : ℕ → Bool) (n : ℕ) → some_pass p n ≡ true → (i : ℕ) × (i < n) × (p i ≡ true)
unfolding some_pass
some_pass_some p n h = some_from p n (first_bad (failing p) n) refl h

pub some_pass_from : (p : ℕ → Bool) (n i : ℕ) → i < n → p i ≡ true → some_pass p n ≡ true
unfolding some_pass
some_pass_from p n i lt e = some_to p n i lt e (first_bad (failing p) n) refl

pub passing_some : (p : ℕ → Bool) (n i : ℕ) → i < n → p i ≡ true → 1 ≤ passing p n
unfolding passing
passing_some p zero i lt e = absurd (omega arith)
passing_some p (suc n) i lt e =
    ⊎_elim
    (λ same. let here : p n ≡ true = subst (λ m. p m ≡ true) same e in rw here (omega arith))
    (λ other. let h = passing_some p n i (omega arith) e in elim (p n) as (λ b. 1 ≤ cond b (suc (passing p n)) (passing p n)) [ true ↦ omega arith | false ↦ h ])
    (cases_eq i n)

passing_two : (p : ℕ → Bool) (n i j : ℕ) → i < j → j < n → p i ≡ true → p j ≡ true → 2 ≤ passing p n
unfolding passing
passing_two p zero i j lt h a b = absurd (omega arith)
passing_two p (suc n) i j lt h a b =
    ⊎_elim
    (λ same. let here : p n ≡ true = subst (λ m. p m ≡ true) same b in let k = passing_some p n i (omega arith) a in rw here (omega arith))
    (λ other. let k = passing_two p n i j lt (omega arith) a b in elim (p n) as (λ v. 2 ≤ cond v (suc (passing p n)) (passing p n)) [ true ↦ omega arith | false ↦ k ])
    (cases_eq j n)

-- where just one passes, it is the first
pub only_one : (p : ℕ → Bool) (n i : ℕ) → passing p n ≡ 1 → i < n → p i ≡ true → first_bad (failing p) n ≡ Some i
only_one p n i one lt e =
    let s = some_of p n i lt e (first_bad (failing p) n) refl in
    let j = s.0 in
    let lj = found_within (failing p) n j s.1 in
    let ej : p j ≡ true = not-false (p j) (found_fails (failing p) n j s.1) in
    let same : j ≡ i =
    ⊎_elim
    (λ h. let z = passing_two p n j i h lt ej e in absurd (omega arith))
    (λ h. ⊎_elim (λ k. let z = passing_two p n i j k lj e ej in absurd (omega arith)) (λ k. omega arith) (cases_lt i j))
    (cases_lt j i) in
    s.1 ∙ ap Some same

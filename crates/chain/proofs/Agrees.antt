-- Plain facts of links and clocks, and the tests of examination: both ways.
use Rattle.std.proofs.Common.{◌≡◌, ℕ, ◌<◌, ◌≤◌, true, not, ◌||◌, eqb, leb, ◌≢◌, ◌⊎◌, length, Some, None, Option, sym, refl, ap, ◌∙◌, subst, inl, inr, ⊎_elim, arith}
use Rattle.std.proofs.lemmas.Bool.{and_parts, and_from, or_cases, cases_eq, eq-eqb, ne_eqb, eqb-true, le-leb, leb-true, lt-ltb}
use Rattle.store.specs.declared.records.RunRecord.{RunRecord}
use Rattle.store.specs.Clocks.{end_of, is_clear, is_clear_at, comes_after_at, run_follows_at}
use Rattle.store.specs.First.{all_pass, some_pass}
use Rattle.store.specs.FirstFacts.{all_none, all_pass_none, all_pass_all, some_pass_some, some_pass_from}
use Rattle.store.specs.Ranges.{in_use}
use Rattle.store.specs.Records.{Store, run_at, list_at}
use Rattle.links.specs.Links.{holds_one, is_recorded, run_agrees_at}
use Rattle.links.specs.Walks.{is, same, left_agrees, right_agrees, is_reached, start_agrees}
use Rattle.document.specs.Sound.{Linked}
use Rattle.chain.proofs.Chains.{or_left, or_right}
use Rattle.chain.proofs.Reached.{Near, reached_from}

is_from : (o : Option ℕ) (i : ℕ) → o ≡ Some i → is o i ≡ true
is_from o i h = rw h (eq-eqb i i refl)

same_from : (a b : Option ℕ) → a ≡ b → same a b ≡ true
same_from a b h = subst (λ (x : Option ℕ). same a x ≡ true) h (self a)
  where
    self : (o : Option ℕ) → same o o ≡ true
    self None = refl
    self (Some i) = eq-eqb i i refl

pub in_use_from : (o : Option ℕ) (n : ℕ) → ((j : ℕ) → o ≡ Some j → j < n) → in_use o n ≡ true
in_use_from None n h = refl
in_use_from (Some j) n h = lt-ltb j n (h j refl)

module _ (s : Store) (lk : Linked s) where
  left_from : (i : ℕ) → i < length s.runs → (o : Option ℕ) → (run_at s i).left ≡ o → left_agrees s i o ≡ true
  left_from i lt None e = refl
  left_from i lt (Some j) e = let t = lk.to_left i j lt e in and_from (is (run_at s j).right i) (same (run_at s j).list (run_at s i).list) (is_from (run_at s j).right i t.1) (same_from (run_at s j).list (run_at s i).list t.2)

  right_from : (i : ℕ) → i < length s.runs → (o : Option ℕ) → (run_at s i).right ≡ o → right_agrees s i o ≡ true
  right_from i lt None e = refl
  right_from i lt (Some j) e = let t = lk.to_right i j lt e in and_from (is (run_at s j).left i) (same (run_at s j).list (run_at s i).list) (is_from (run_at s j).left i t.1) (same_from (run_at s j).list (run_at s i).list t.2)

  -- a run agrees with its neighbours and its list; that it holds one list if it is of kind 7, and has a client's record, is told
  pub run_agrees_from : Near s → (i : ℕ) → i < length s.runs → holds_one s (run_at s i) ≡ true → is_recorded s (run_at s i).id.client ≡ true → run_agrees_at s i ≡ true
  run_agrees_from nr i lt h r =
      and_from (left_agrees s i (run_at s i).left) _ (left_from i lt (run_at s i).left refl)
      (and_from (right_agrees s i (run_at s i).right) _ (right_from i lt (run_at s i).right refl)
      (and_from (is_reached s i (run_at s i).list) _ (reached_from s lk nr i lt (run_at s i).list refl)
      (and_from (holds_one s (run_at s i)) (is_recorded s (run_at s i).id.client) h r)))

  pub start_from : (l : ℕ) → l < length s.lists → (o : Option ℕ) → (list_at s l).start ≡ o → start_agrees s l o ≡ true
  start_from l lt None e = refl
  start_from l lt (Some i) e = let t = lk.start_of l i lt e in rw t.1 (is_from (run_at s i).list l t.2)

-- what a run that agrees has
pub record Agreeing (s : Store) (i : ℕ) : Type 0 where
  pub reached : is_reached s i (run_at s i).list ≡ true
  pub holds : holds_one s (run_at s i) ≡ true
  pub recorded : is_recorded s (run_at s i).id.client ≡ true

pub agreeing : (s : Store) (i : ℕ) → run_agrees_at s i ≡ true → Agreeing s i
agreeing s i h =
    let a = and_parts (left_agrees s i (run_at s i).left) _ h in
    let b = and_parts (right_agrees s i (run_at s i).right) _ a.1 in
    let c = and_parts (is_reached s i (run_at s i).list) _ b.1 in
    let d = and_parts (holds_one s (run_at s i)) _ c.1 in
    record { reached = c.0; holds = d.0; recorded = d.1 }

-- two runs share no unit
abbrev pub Clear : RunRecord → RunRecord → Type 0
Clear a b = a.id.client ≡ b.id.client → (end_of a ≤ b.id.clock) ⊎ (end_of b ≤ a.id.clock)

-- a clock is 0, or a run of the client ends there
abbrev pub Ending : Store → ℕ → ℕ → Type 0
Ending s c k = (k ≡ 0) ⊎ ((j : ℕ) × (j < length s.runs) × ((run_at s j).id.client ≡ c) × (end_of (run_at s j) ≡ k))

-- how the runs of clients follow one another
pub record Followed (s : Store) : Type 0 where
  pub clear : (i j : ℕ) → i < length s.runs → j < length s.runs → i ≢ j → Clear (run_at s i) (run_at s j)
  pub begun : (i : ℕ) → i < length s.runs → Ending s (run_at s i).id.client (run_at s i).id.clock

clear_from : (i j : ℕ) (a b : RunRecord) → (i ≢ j → Clear a b) → (eqb i j || is_clear a b) ≡ true
clear_from i j a b h =
    ⊎_elim
    (λ e. or_left (eqb i j) (is_clear a b) (eq-eqb i j e))
    (λ ne. or_right (eqb i j) (is_clear a b)
    (⊎_elim
    (λ e. or_right (not (eqb a.id.client b.id.client)) (leb (end_of a) b.id.clock || leb (end_of b) a.id.clock)
    (⊎_elim (λ q. or_left (leb (end_of a) b.id.clock) (leb (end_of b) a.id.clock) (le-leb (end_of a) b.id.clock q)) (λ q. or_right (leb (end_of a) b.id.clock) (leb (end_of b) a.id.clock) (le-leb (end_of b) a.id.clock q)) (h ne e)))
    (λ nc. or_left (not (eqb a.id.client b.id.client)) (leb (end_of a) b.id.clock || leb (end_of b) a.id.clock) (ap not (ne_eqb a.id.client b.id.client nc)))
    (cases_eq a.id.client b.id.client)))
    (cases_eq i j)

clear_to : (i j : ℕ) (a b : RunRecord) → (eqb i j || is_clear a b) ≡ true → i ≢ j → Clear a b
clear_to i j a b h ne e =
    ⊎_elim
    (λ q. absurd (ne (eqb-true i j q)))
    (λ c.
    ⊎_elim
    (λ n. let z : not true ≡ true = ap not (sym (eq-eqb a.id.client b.id.client e)) ∙ n in let y : ◌≡◌ {A = ℕ} 0 1 = cc in absurd (omega arith))
    (λ k. ⊎_elim (λ p. inl (leb-true (end_of a) b.id.clock p)) (λ p. inr (leb-true (end_of b) a.id.clock p)) (or_cases (leb (end_of a) b.id.clock) (leb (end_of b) a.id.clock) k))
    (or_cases (not (eqb a.id.client b.id.client)) (leb (end_of a) b.id.clock || leb (end_of b) a.id.clock) c))
    (or_cases (eqb i j) (is_clear a b) h)

pub follows_from : (s : Store) → Followed s → (i : ℕ) → i < length s.runs → run_follows_at s i ≡ true
follows_from s f i lt =
    let n : ℕ = length s.runs in
    let r : RunRecord = run_at s i in
    let a : all_pass (is_clear_at s i) n ≡ true = all_pass_none (is_clear_at s i) n (all_none (is_clear_at s i) n (λ j lj. clear_from i j r (run_at s j) (λ ne. f.clear i j lt lj ne))) in
    and_from (all_pass (is_clear_at s i) n) (eqb r.id.clock 0 || some_pass (comes_after_at s i) n) a
    (⊎_elim
    (λ h. or_left (eqb r.id.clock 0) (some_pass (comes_after_at s i) n) (eq-eqb r.id.clock 0 h))
    (λ h. or_right (eqb r.id.clock 0) (some_pass (comes_after_at s i) n) (some_pass_from (comes_after_at s i) n h.0 h.1 (and_from (eqb r.id.client (run_at s h.0).id.client) (eqb (end_of (run_at s h.0)) r.id.clock) (eq-eqb r.id.client (run_at s h.0).id.client (sym h.2)) (eq-eqb (end_of (run_at s h.0)) r.id.clock h.3))))
    (f.begun i lt))

pub followed : (s : Store) → ((i : ℕ) → i < length s.runs → run_follows_at s i ≡ true) → Followed s
followed s h =
    record {
      clear = λ i j li lj ne. clear_to i j (run_at s i) (run_at s j) (all_pass_all (is_clear_at s i) (length s.runs) (parts i li).0 j lj) ne;
      begun = λ i li. begun_of i li;
    }
  where
    parts : (i : ℕ) → i < length s.runs → (all_pass (is_clear_at s i) (length s.runs) ≡ true) × ((eqb (run_at s i).id.clock 0 || some_pass (comes_after_at s i) (length s.runs)) ≡ true)
    parts i li = and_parts (all_pass (is_clear_at s i) (length s.runs)) (eqb (run_at s i).id.clock 0 || some_pass (comes_after_at s i) (length s.runs)) (h i li)

    begun_of : (i : ℕ) → i < length s.runs → Ending s (run_at s i).id.client (run_at s i).id.clock
    begun_of i li =
        ⊎_elim
        (λ e. inl (eqb-true (run_at s i).id.clock 0 e))
        (λ e.
        let x = some_pass_some (comes_after_at s i) (length s.runs) e in
        let b = and_parts (eqb (run_at s i).id.client (run_at s x.0).id.client) (eqb (end_of (run_at s x.0)) (run_at s i).id.clock) x.2 in
        inr (x.0, x.1, sym (eqb-true (run_at s i).id.client (run_at s x.0).id.client b.0), eqb-true (end_of (run_at s x.0)) (run_at s i).id.clock b.1))
        (or_cases (eqb (run_at s i).id.clock 0) (some_pass (comes_after_at s i) (length s.runs)) (parts i li).1)

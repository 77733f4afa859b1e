-- The words for tests by index, where a chain over a list asks each element.
use Rattle.std.specs.Prelude.{◌≡◌, ℕ, zero, suc, ◌+◌, ◌<◌, ◌≤◌, Bool, true, false, cond, not, ◌&&◌, ◌||◌, is_some, Some, None, Option, List, length, take, filter, position, count_by, slice_index_or, refl}
use Rattle.std.specs.Fn.{Called, CalledAt}
use Rattle.std.specs.Iterator.{YieldsThen, Drains}
use Rattle.std.specs.List.{FoldsTo, list_any, list_all, position_or_len, enumerate_from}
use Rattle.std.specs.Bool.{⊤}
use Rattle.std.specs.Option.{MatchOption}
use Rattle.std.specs.declared.ops.Range.{Range}
use denote.Param.Members.{Mut}
use denote.Ref.{Bor}
use Rattle.std.proofs.Common.{sym, ap, subst, ◌∙◌, ⊎_elim, zero-add, add-one, arith}
use Rattle.std.proofs.iter.Yields.{nat_range_steps}
use Rattle.std.proofs.lemmas.Bool.{cases_lt, cases_Bool, not-true, not-false, lt-ltb, le-ltb}
use Rattle.std.proofs.lemmas.Iterator.{YieldsList, first_from_Range}
use Rattle.std.proofs.lemmas.Iterator.Consumers.{count_from_yields_List}
use Rattle.std.proofs.lemmas.Iterator.Search.{all_from_yields_List, any_from_yields_List, position_from_yields_List}
use Rattle.std.proofs.lemmas.List.{take_all}
use Rattle.std.proofs.lemmas.List.Folds.{list_any_more, list_all_more}
use Rattle.std.proofs.lemmas.List.FromFn.{length-enumerate_from, get_or-enumerate_from}
use Rattle.std.proofs.lemmas.List.Sums.{length-filter, prefix_len_passes, prefix_len_stops, count_by_more_no, count_by_more_yes}
use Rattle.store.specs.First.{first_bad, or_else, all_pass, some_pass, failing, passing}
use Rattle.store.specs.FirstFacts.{all_none, found, passing_zero, passing_yes, passing_no}

-- tests that agree below n fail there alike
first_same : (p q : ℕ → Bool) (n : ℕ) → ((k : ℕ) → k < n → p k ≡ q k) → first_bad p n ≡ first_bad q n
unfolding first_bad
first_same p q zero h = refl
first_same p q (suc n) h = rw (first_same p q n (λ k lt. h k (omega arith)), h n (omega arith)) refl

all_same : (p q : ℕ → Bool) (n : ℕ) → ((k : ℕ) → k < n → p k ≡ q k) → all_pass p n ≡ all_pass q n
unfolding all_pass
all_same p q n h = ap (λ o. not (is_some o)) (first_same p q n h)

all_more : (p : ℕ → Bool) (n : ℕ) → all_pass p (n + 1) ≡ (all_pass p n && p n)
unfolding all_pass first_bad
all_more p n = rw add-one (elim (first_bad p n) as (λ o. not (is_some (or_else o (cond (p n) None (Some n)))) ≡ (not (is_some o) && p n)) [ None ↦ elim (p n) as (λ b. not (is_some (or_else None (cond b None (Some n)))) ≡ b) [ true ↦ refl | false ↦ refl ] | Some i ↦ refl ])

some_more : (p : ℕ → Bool) (n : ℕ) → some_pass p (n + 1) ≡ (some_pass p n || p n)
unfolding some_pass first_bad
some_more p n = rw add-one (elim (first_bad (failing p) n) as (λ o. is_some (or_else o (cond (not (p n)) None (Some n))) ≡ (is_some o || p n)) [ None ↦ elim (p n) as (λ b. is_some (or_else None (cond (not b) None (Some n))) ≡ b) [ true ↦ refl | false ↦ refl ] | Some i ↦ refl ])

all_zero : (p : ℕ → Bool) → true ≡ all_pass p 0
unfolding all_pass first_bad
all_zero p = refl

some_zero : (p : ℕ → Bool) → false ≡ some_pass p 0
unfolding some_pass first_bad
some_zero p = refl

module _ {X : Type 0} (test : X → Bool) (d : X) (xs : List X) where
  -- the test at an index
  abbrev at : ℕ → Bool
  at i = test (slice_index_or xs i d)

  -- whether the first n elements of a list pass
  pub all_front : (n : ℕ) → n ≤ length xs → list_all test (take n xs) ≡ all_pass (λ i. test (slice_index_or xs i d)) n
  all_front zero h = all_zero at
  all_front (suc n) h = subst (λ m. list_all test (take m xs) ≡ all_pass at m) (add-one n) (list_all_more test xs n d (omega arith) ∙ ap (λ b. b && at n) (all_front n (omega arith)) ∙ sym (all_more at n))

  -- whether all elements of a list pass
  all_is : list_all test xs ≡ all_pass at (length xs)
  all_is = ap (list_all test) (sym (take_all (length xs) xs (omega arith))) ∙ all_front (length xs) (omega arith)

  some_front : (n : ℕ) → n ≤ length xs → list_any test (take n xs) ≡ some_pass at n
  some_front zero h = some_zero at
  some_front (suc n) h = subst (λ m. list_any test (take m xs) ≡ some_pass at m) (add-one n) (list_any_more test xs n d (omega arith) ∙ ap (λ b. b || at n) (some_front n (omega arith)) ∙ sym (some_more at n))

  -- whether some element of a list passes
  some_is : list_any test xs ≡ some_pass at (length xs)
  some_is = ap (list_any test) (sym (take_all (length xs) xs (omega arith))) ∙ some_front (length xs) (omega arith)

  passing_front : (n : ℕ) → n ≤ length xs → count_by test (take n xs) ≡ passing at n
  passing_front zero h = sym (passing_zero at)
  passing_front (suc n) h =
      let so_far = passing_front n (omega arith) in
      subst (λ m. count_by test (take m xs) ≡ passing at m) (add-one n)
      (⊎_elim
      (λ e. count_by_more_yes test xs n d (omega arith) e ∙ ap (λ (k : ℕ). k + 1) so_far ∙ sym (passing_yes at n e))
      (λ e. count_by_more_no test xs n d (omega arith) e ∙ so_far ∙ sym (passing_no at n e))
      (cases_Bool (at n)))

  -- how many elements of a list pass
  passing_is : count_by test xs ≡ passing at (length xs)
  passing_is = ap (count_by test) (sym (take_all (length xs) xs (omega arith))) ∙ passing_front (length xs) (omega arith)

  passes : (k : ℕ) → k < position_or_len (λ x. not (test x)) xs → at k ≡ true
  passes k lt = not-false (at k) (not-true (not (at k)) (prefix_len_passes (λ x. not (not (test x))) xs k d lt))

  fails : position_or_len (λ x. not (test x)) xs < length xs → at (position_or_len (λ x. not (test x)) xs) ≡ false
  fails lt =
      let m = position_or_len (λ x. not (test x)) xs in
      not-true (at m) (not-false (not (at m)) (prefix_len_stops (λ x. not (not (test x))) xs d lt))

  -- the first element of a list that fails
  first_is : position (λ x. not (test x)) xs ≡ first_bad at (length xs)
  first_is =
      let m = position_or_len (λ x. not (test x)) xs in
      ⊎_elim
      (λ lt. rw (lt-ltb m (length xs) lt) (sym (found at (length xs) m (all_none at m passes) (fails lt) lt)))
      (λ le. rw (le-ltb m (length xs) le) (sym (all_none at (length xs) (λ k lt. passes k (omega arith)))))
      (cases_lt m (length xs))

-- a test of elements with their numbers
at_numbered : {X : Type 0} (test : ℕ × X → Bool) (d : X) (xs : List X) (k : ℕ) → k < length xs → test (slice_index_or (enumerate_from 0 xs) k (0, d)) ≡ test (k, slice_index_or xs k d)
at_numbered test d xs k lt = ap test (get_or-enumerate_from 0 xs k (0, d) lt) ∙ ap (λ (n : ℕ). test (n, slice_index_or xs k d)) (zero-add k)

module _ {S A B F : Type 0} {steps : S → Option A → S → Type 0} {v : A → B} {g : Mut F (A × Unit {0}) Bool} {s : S} where
  -- `position` of what fails, over the list xs
  pub first_position : (test : B → Bool) (d : B) (xs : List B) (u : S) (f : F) (r : Option ℕ) → (ys : List A) × (o : Option A) × (j : F) × YieldsThen steps s ys o u × FoldsTo (λ p x q. Called g p (x, tt) false q) f ys j × MatchOption o (r ≡ None) (λ x. (r ≡ Some (length ys)) × ((h : F) × Called g j (x, tt) true h)) → YieldsList steps v s xs → ((x : A) (b : Bool) (q : F) → Called g f (x, tt) b q → (q ≡ f) × (b ≡ not (test (v x)))) → r ≡ first_bad (λ i. test (slice_index_or xs i d)) (length xs)
  first_position test d xs u f r ran y k = position_from_yields_List (λ x. not (test x)) u f r ran y k ∙ first_is test d xs

  -- `any` over the list xs
  pub some_any : (test : B → Bool) (d : B) (xs : List B) (u : S) (f : F) (r : Bool) → (ys : List A) × (o : Option A) × (j : F) × YieldsThen steps s ys o u × FoldsTo (λ p x q. Called g p (x, tt) false q) f ys j × MatchOption o (r ≡ false) (λ x. (r ≡ true) × ((h : F) × Called g j (x, tt) true h)) → YieldsList steps v s xs → ((x : A) (b : Bool) (q : F) → Called g f (x, tt) b q → (q ≡ f) × (b ≡ test (v x))) → r ≡ some_pass (λ i. test (slice_index_or xs i d)) (length xs)
  some_any test d xs u f r ran y k = any_from_yields_List test u f r ran y k ∙ some_is test d xs

  -- `all` over the first n elements of the list xs
  pub all_taken : (test : B → Bool) (d : B) (xs : List B) (n : ℕ) → n ≤ length xs → (u : S) (f : F) (r : Bool) → (ys : List A) × (o : Option A) × (j : F) × YieldsThen steps s ys o u × FoldsTo (λ p x q. Called g p (x, tt) true q) f ys j × MatchOption o (r ≡ true) (λ x. (r ≡ false) × ((h : F) × Called g j (x, tt) false h)) → YieldsList steps v s (take n xs) → ((x : A) (b : Bool) (q : F) → Called g f (x, tt) b q → (q ≡ f) × (b ≡ test (v x))) → r ≡ all_pass (λ i. test (slice_index_or xs i d)) n
  all_taken test d xs n le u f r ran y k = all_from_yields_List test u f r ran y k ∙ all_front test d xs n le

module _ {S A X F : Type 0} {steps : S → Option A → S → Type 0} {v : A → ℕ × X} {g : Mut F (A × Unit {0}) Bool} {s : S} where
  -- `all` over the list xs with its numbers
  pub all_numbered : (test : ℕ × X → Bool) (d : X) (xs : List X) (u : S) (f : F) (r : Bool) → (ys : List A) × (o : Option A) × (j : F) × YieldsThen steps s ys o u × FoldsTo (λ p x q. Called g p (x, tt) true q) f ys j × MatchOption o (r ≡ true) (λ x. (r ≡ false) × ((h : F) × Called g j (x, tt) false h)) → YieldsList steps v s (enumerate_from 0 xs) → ((x : A) (b : Bool) (q : F) → Called g f (x, tt) b q → (q ≡ f) × (b ≡ test (v x))) → r ≡ all_pass (λ i. test (i, slice_index_or xs i d)) (length xs)
  all_numbered test d xs u f r ran y k =
      all_from_yields_List test u f r ran y k
      ∙ all_is test (0, d) (enumerate_from 0 xs)
      ∙ ap (all_pass (at test (0, d) (enumerate_from 0 xs))) (length-enumerate_from 0 xs)
      ∙ all_same _ _ (length xs) (at_numbered test d xs)

-- how many a filter of the list xs passes on
pub passing_count : {S A B : Type 0} {steps : S → Option A → S → Type 0} {v : A → B} (test : B → Bool) (d : B) (xs : List B) (s : S) (r : ℕ) → ((ys : List A) × Drains steps s ys × (r ≡ length ys)) → YieldsList steps v s (filter test xs) → r ≡ passing (λ i. test (slice_index_or xs i d)) (length xs)
passing_count test d xs s r ran y = count_from_yields_List s r ran y ∙ length-filter test xs ∙ passing_is test d xs

first_number : (p : ℕ → Bool) (n : ℕ) (r : Option ℕ) → MatchOption r ((k : ℕ) → 0 ≤ k → k < n → p k ≡ true) (λ i. (0 ≤ i) × (i < n) × (p i ≡ false) × ((k : ℕ) → 0 ≤ k → k < i → p k ≡ true)) → r ≡ first_bad p n
first_number p n None h = sym (all_none p n (λ k lt. h k (omega arith) lt))
first_number p n (Some i) h = sym (found p n i (all_none p i (λ k lt. h.3 k (omega arith) lt)) h.2 h.1)

-- `find` of the first number below n that fails
pub first_find : {F : Type 0} {g : Mut F (Bor ℕ × Unit {0}) Bool} {s : Range ℕ} (p : ℕ → Bool) (n : ℕ) → s ≡ record { start = 0; end = n } → (u : Range ℕ) (f : F) (r : Option ℕ) → (ys : List ℕ) × (j : F) × YieldsThen nat_range_steps s ys r u × FoldsTo (λ p x q. CalledAt g p x false q) f ys j × MatchOption r ⊤ (λ x. (h : F) × CalledAt g j x true h) → ((x : ℕ) (b : Bool) (q : F) → CalledAt g f x b q → (q ≡ f) × (b ≡ not (p x))) → r ≡ first_bad p n
first_find {F} {g} {s} p n e u f r ran k =
    let h = first_from_Range s u f r (λ i. p i ≡ false) (λ i. p i ≡ true) ran (λ x q c. not-true (p x) (sym (k x true q c).1)) (λ x q c. ((k x false q c).0, not-false (p x) (sym (k x false q c).1))) in
    first_number p n r (subst (λ (t : Range ℕ). MatchOption r ((k : ℕ) → t.start ≤ k → k < t.end → p k ≡ true) (λ i. (t.start ≤ i) × (i < t.end) × (p i ≡ false) × ((k : ℕ) → t.start ≤ k → k < i → p k ≡ true))) e h)

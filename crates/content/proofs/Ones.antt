-- A sum of ones: how many elements of a list pass a test.
use Rattle.std.proofs.Common.{◌≡◌, ℕ, zero, suc, ◌+◌, ◌≤◌, Bool, true, false, cond, List, length, take, slice_index_or, sym, ap, subst, ◌∙◌, ⊎_elim, add-one, arith}
use Rattle.std.specs.Int.{from_bool}
use Rattle.std.specs.Prelude.{sum_by}
use Rattle.std.proofs.lemmas.Bool.{cases_Bool}
use Rattle.std.proofs.lemmas.List.{take_all}
use Rattle.std.proofs.lemmas.List.Sums.{sum_by_more}
use Rattle.store.specs.First.{passing}
use Rattle.store.specs.FirstFacts.{passing_zero, passing_yes, passing_no}

passing_few : (p : ℕ → Bool) (n : ℕ) → passing p n ≤ n
unfolding passing
passing_few p zero = omega arith
passing_few p (suc n) = let h = passing_few p n in elim (p n) as (λ b. cond b (suc (passing p n)) (passing p n) ≤ suc n) [ true ↦ omega arith | false ↦ omega arith ]

module _ {X : Type 0} (test : X → Bool) (d : X) (xs : List X) where
  front : (n : ℕ) → n ≤ length xs → sum_by (λ x. from_bool (test x)) (take n xs) ≡ passing (λ i. test (slice_index_or xs i d)) n
  front zero h = sym (passing_zero _)
  front (suc n) h =
      let p : ℕ → Bool = λ i. test (slice_index_or xs i d) in
      let so_far = front n (omega arith) in
      let more = sum_by_more (λ x. from_bool (test x)) xs n d (omega arith) in
      subst (λ m. sum_by (λ x. from_bool (test x)) (take m xs) ≡ passing p m) (add-one n)
      (⊎_elim
      (λ e. more ∙ ap (λ b. sum_by (λ x. from_bool (test x)) (take n xs) + from_bool b) e ∙ ap (λ k. k + 1) so_far ∙ sym (passing_yes p n e))
      (λ e. more ∙ ap (λ b. sum_by (λ x. from_bool (test x)) (take n xs) + from_bool b) e ∙ ap (λ k. k + 0) so_far ∙ (omega (arith, passing_no p n e)))
      (cases_Bool (p n)))

  -- the ones over the whole list
  pub ones_passing : sum_by (λ x. from_bool (test x)) xs ≡ passing (λ i. test (slice_index_or xs i d)) (length xs)
  ones_passing = ap (sum_by (λ x. from_bool (test x))) (sym (take_all (length xs) xs (omega arith))) ∙ front (length xs) (omega arith)

  -- they are no more than the list is long
  pub ones_few : sum_by (λ x. from_bool (test x)) xs ≤ length xs
  ones_few = let few = passing_few (λ i. test (slice_index_or xs i d)) (length xs) in omega (arith, ones_passing, few)

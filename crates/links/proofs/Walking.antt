-- The walk to the right, by the calls that the chain of steps makes.
use Rattle.std.proofs.Common.{◌≡◌, ℕ, zero, suc, ◌+◌, ◌<◌, ◌==◌, Bool, true, false, List, [], ◌∷◌, Option, Some, None, refl, sym, subst, ap, ◌∙◌, arith}
use Rattle.std.specs.Prelude.{MatchOption}
use Rattle.std.specs.Fn.{Called, CalledAt}
use Rattle.std.specs.Iterator.{YieldsThen}
use Rattle.std.specs.Iterator.Adapters.{take_source, take_count, take_steps, successors_next, successors_callee, successors_steps}
use Rattle.std.specs.declared.iter.Take.{Take}
use Rattle.std.specs.declared.iter.Successors.{Successors}
use Rattle.std.specs.List.{FoldsTo}
use denote.Param.Members.{Mut}
use denote.Ref.{Bor}
use Rattle.store.specs.Records.{Store, run_at}
use Rattle.links.specs.Walks.{meets}

module _ (s : Store) (i : ℕ) where
  pub meets_none : (n : ℕ) → meets s i None n ≡ false
  unfolding meets
  meets_none n = refl

  meets_out : (at : Option ℕ) → meets s i at zero ≡ false
  unfolding meets
  meets_out None = refl
  meets_out (Some j) = refl

  meets_here : (j n : ℕ) → true ≡ (j == i) → meets s i (Some j) (suc n) ≡ true
  unfolding meets
  meets_here j n e = rw (sym e)

  meets_on : (j n : ℕ) → false ≡ (j == i) → meets s i (Some j) (suc n) ≡ meets s i (run_at s j).right n
  unfolding meets
  meets_on j n e = rw (sym e)

  module _ {F H : Type 0} {g : Mut F (Bor ℕ × Unit {0}) (Option ℕ)} {h : Mut H (ℕ × Unit {0}) Bool} (f : F) (test : H)
      (right : (x : ℕ) (o : Option ℕ) (q : F) → CalledAt g f x o q → (q ≡ f) × (o ≡ (run_at s x).right))
      (here : (x : ℕ) (b : Bool) (q : H) → Called h test (x, tt) b q → (q ≡ test) × (b ≡ (x == i))) where
    pub met : (ys : List ℕ) (n : ℕ) (at o : Option ℕ) (t u : Take (Successors ℕ F)) (j : H) (r : Bool) → take_count t ≡ n → successors_next (take_source t) ≡ at → successors_callee (take_source t) ≡ f → YieldsThen (take_steps (successors_steps g)) t ys o u → FoldsTo (λ p x q. Called h p (x, tt) false q) test ys j → MatchOption o (r ≡ false) (λ x. (r ≡ true) × ((q : H) × Called h j (x, tt) true q)) → r ≡ meets s i at n
    met [] zero at None t u j r en ea ef y k m = m ∙ sym (meets_out at)
    met [] (suc n) at None t u j r en ea ef y k m =
        let pos : 0 < take_count t = omega (arith, en) in
        let c = subst (λ (a : Take (Successors ℕ F)). 0 < take_count a → successors_steps g (take_source a) None (take_source u)) (sym y.1) y.2 pos in
        m ∙ sym (ap (λ (a : Option ℕ). meets s i a (suc n)) (sym ea ∙ sym c.0) ∙ meets_none (suc n))
    met [] zero at (Some x) t u j r en ea ef y k m =
        let a : take_count u + 1 ≡ take_count t = y.2.1 ∙ ap (λ (a : Take (Successors ℕ F)). take_count a) (sym y.1) in
        absurd (omega (arith, a, en))
    met [] (suc n) at (Some x) t u j r en ea ef y k m =
        let c : Some x ≡ at = y.2.0.0 ∙ ap (λ (a : Take (Successors ℕ F)). successors_next (take_source a)) (sym y.1) ∙ ea in
        let b = here x true _ (subst (λ (p : H). Called h p (x, tt) true m.1.0) (sym k) m.1.1) in
        m.0 ∙ sym (ap (λ (a : Option ℕ). meets s i a (suc n)) (sym c) ∙ meets_here x n b.1)
    met (x ∷ ys) zero at o t u j r en ea ef y k m =
        let a = y.1.1.1 in
        absurd (omega (arith, a, en))
    met (x ∷ ys) (suc n) at o t u j r en ea ef y k m =
        let c : Some x ≡ at = y.1.1.0.0 ∙ ea in
        let b = here x false _ k.1 in
        let e = right x _ _ (subst (λ (p : F). CalledAt g p x (successors_next (take_source y.1.0)) (successors_callee (take_source y.1.0))) ef y.1.1.0.1) in
        let a = y.1.1.1 in
        let less : take_count y.1.0 ≡ n = omega (arith, a, en) in
        met ys n (run_at s x).right o y.1.0 u j r less e.1 e.0 (y.0, y.1.2, y.2) (subst (λ (p : H). FoldsTo (λ p x q. Called h p (x, tt) false q) p ys j) b.0 k.2) m
        ∙ sym (ap (λ (a : Option ℕ). meets s i a (suc n)) (sym c) ∙ meets_on x n b.1)

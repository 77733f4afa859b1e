-- The runs of a list have the list's units.
use Rattle.std.proofs.Common.{◌≡◌, ℕ, zero, suc, ◌+◌, ◌≤◌, List, [], ◌∷◌, ◌++◌, take, drop, Some, Option, sym, refl, ap, ◌∙◌, add-zero, arith, take-append-drop, drop-cons, drop-drop}
use mathlib.Core.List.{map-append}
use Rattle.std.proofs.lemmas.List.{drop_all}
use Rattle.block.specs.declared.ids.Id.{Id}
use Rattle.block.specs.Units.{Meaning, Stretch, RunOf, UnitOf, unit_at, no_unit}
use Rattle.reader.specs.declared.reader.Description.{Description}
use Rattle.reader.specs.Answers.{described}
use Rattle.iter.specs.Bare.{Bare}
use Rattle.iter.specs.Runs.{RunsFrom}
use Rattle.iter.specs.Between.{ids_from, run_ids, unit_ids}
use Rattle.iter.proofs.Chains.{described_some}
use Rattle.iter.proofs.Clocks.{same_id}

module _ (m : Meaning) (t : Stretch) (run : RunOf m t) where
  ids_run : (k n : ℕ) → k + n ≤ t.count → ids_from (described m t) k n ≡ unit_ids (take n (drop (t.from + k) (m.units t.list)))
  ids_run k zero h = refl
  ids_run k (suc n) h =
      let us = m.units t.list in
      let next : t.from + suc k ≡ suc (t.from + k) = omega arith in
      let first : record { client = (unit_at m t.list t.from).id.client; clock = (unit_at m t.list t.from).id.clock + k } ≡ (unit_at m t.list (t.from + k)).id = same_id _ _ (sym (run.client k (omega arith))) (sym (run.clock k (omega arith))) in
      ap (λ (x : Id). x ∷ ids_from (described m t) (suc k) n) first
      ∙ ap (λ (xs : List Id). (unit_at m t.list (t.from + k)).id ∷ xs) (ids_run (suc k) n (omega arith) ∙ ap (λ (j : ℕ). unit_ids (take n (drop j us))) next)
      ∙ ap (λ (xs : List UnitOf). unit_ids (take (suc n) xs)) (sym (drop-cons us (t.from + k) no_unit (omega (arith, run.within))))

module _ {P : Type 0} (m : Meaning) (st : P → Option Stretch) (settled : (p : P) (t : Stretch) → st p ≡ Some t → RunOf m t) where
  pub list_ids : (l i : ℕ) (ws : List (Bare P)) → RunsFrom m st l i ws → run_ids ws ≡ unit_ids (drop i (m.units l))
  list_ids l i [] e = ap unit_ids (sym (drop_all i (m.units l) (omega arith)))
  list_ids l i (w ∷ ws) ((n, e), desc, rest) =
      let us = m.units l in
      let (t, f, about) = described_some m (st w.place) w.about desc in
      let stretch : t ≡ record { list = l; from = i; count = n } = cc in
      let is : w.about ≡ described m (record { list = l; from = i; count = n }) = about ∙ ap (described m) stretch in
      let len : w.about.len ≡ n = ap (λ (x : Description). x.len) is in
      let here : ids_from w.about 0 w.about.len ≡ unit_ids (take n (drop i us)) =
      ap (λ (x : Description). ids_from x 0 x.len) is ∙ ids_run m (record { list = l; from = i; count = n }) (settled w.place _ e) 0 n (omega arith) ∙ ap (λ (j : ℕ). unit_ids (take n (drop j us))) (add-zero i) in
      let later : run_ids ws ≡ unit_ids (drop n (drop i us)) = list_ids l (i + w.about.len) ws rest ∙ ap (λ (j : ℕ). unit_ids (drop (i + j) us)) len ∙ ap unit_ids (sym (drop-drop n i us)) in
      ap (λ (xs : List Id). xs ++ run_ids ws) here ∙ ap (λ (xs : List Id). unit_ids (take n (drop i us)) ++ xs) later
      ∙ sym (map-append (λ (u : UnitOf). u.id) (take n (drop i us)) (drop n (drop i us))) ∙ ap unit_ids (take-append-drop n (drop i us))

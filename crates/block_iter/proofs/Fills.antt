-- One run read, whole or in part, and slots that are filled run by run.
use Rattle.std.proofs.Common.{◌≡◌, ℕ, ◌+◌, ◌-◌, ◌<◌, ◌≤◌, true, List, [], ◌++◌, map, length, take, drop, Some, None, Option, sym, refl, ap, ◌∙◌, subst, inl, inr, arith, length-drop, length-take, take_all, take-add}
use mathlib.Core.List.{map-append}
use lib.Seq.{take-append-add, take-append-le}
use borrow.Rule.Slice.PartMut.{put_mid, post_of}
use Rattle.std.proofs.lemmas.Bool.{and_parts, cases_Bool, cond-true, cond-false}
use Rattle.std.proofs.lemmas.Slice.{drop-append-drop}
use Rattle.block.specs.declared.kind.Kind.{Kind}
use Rattle.block.specs.declared.slot.Slot.{Slot}
use Rattle.block.specs.Kinds.{is_counted}
use Rattle.block.specs.Units.{UnitOf, Worth, Meaning, Stretch, RunOf, unit_at, visible}
use Rattle.block.specs.Values.{facet}
use Rattle.block.proofs.Seen.{run_take}
use Rattle.reader.specs.Answers.{Reads, valued, units_from}
use Rattle.block_iter.specs.Walks.{Sees, Stepped, Shows, Took, visible_in}
use Rattle.block_iter.proofs.Steps.{sees_at, walk_more}

pub put_front : (slots part : List Slot) (used k n : ℕ) → used ≤ length slots → n ≤ length part → take (used + n) (put_mid used k slots part) ≡ take used slots ++ take n part
put_front slots part used k n h f =
    let rest = post_of used k slots in
    let at : length (take used slots) ≡ used = simp length-take (omega arith) in
    subst (λ (i : ℕ). take (i + n) (take used slots ++ (part ++ rest)) ≡ take used slots ++ take n part) at
    (take-append-add (take used slots) (part ++ rest) n ∙ ap (λ (xs : List Slot). take used slots ++ xs) (take-append-le n part rest f))

pub shows_both : (shown : Slot → Option (Kind × Worth)) (a b : List Slot) (us ws : List UnitOf) → Shows shown a us → Shows shown b ws → Shows shown (a ++ b) (us ++ ws)
shows_both shown a b us ws x y =
    let f : UnitOf → Option (Kind × Worth) = λ u. Some (facet u) in
    map-append shown a b ∙ ap (λ (zs : List (Option (Kind × Worth))). zs ++ map shown b) x ∙ ap (λ (zs : List (Option (Kind × Worth))). map f us ++ zs) y ∙ sym (map-append f us ws)

module _ {P : Type 0} (m : Meaning) (st : P → Option Stretch) (settled : (p : P) (t : Stretch) → st p ≡ Some t → RunOf m t) (shown : Slot → Option (Kind × Worth)) where
  module _ (p : P) (rel : ℕ) (slots part : List Slot) (k n : ℕ) (long : length part ≡ length (take k slots)) (reads : Reads m shown (st p) rel (take k slots) part n) (most : k ≤ length slots) where
    part_is : length part ≡ k
    part_is = long ∙ simp length-take (omega (arith, most))

    -- the units that were read are those that come next
    shows_at : (t : Stretch) → st p ≡ Some t → visible (unit_at m t.list t.from) ≡ true → k ≤ t.count - rel → (l : ℕ) (vs : List UnitOf) → Sees m st l (Some p) rel vs → Shows shown part (take k vs)
    shows_at t e v few l vs s =
        let (a, b, d) = sees_at m st settled p t l rel vs e s in
        let counted : is_counted (unit_at m t.list t.from).kind ≡ true = (and_parts (unit_at m t.list t.from).live (is_counted (unit_at m t.list t.from).kind) v).1 in
        let here : valued m (st p) rel ≡ t.count - rel = ap (λ (o : Option Stretch). valued m o rel) e ∙ cond-true (is_counted (unit_at m t.list t.from).kind) (t.count - rel) 0 counted in
        let all : n ≡ k = omega (arith, reads.many, here, part_is, long) in
        let same : take k vs ≡ take k (drop (t.from + rel) (m.units t.list)) = ap (take k) d ∙ run_take m t (settled p t e) rel k (omega arith) v in
        ap (map shown) (sym (take_all n part (omega (arith, part_is, all))))
        ∙ reads.values
        ∙ ap (λ (i : ℕ). map (λ u. Some (facet u)) (take i (units_from m (st p) rel))) all
        ∙ ap (λ (o : Option Stretch). map (λ u. Some (facet u)) (take k (units_from m o rel))) e
        ∙ ap (map (λ u. Some (facet u))) (sym same)

    shows_next : (o : Option Stretch) → st p ≡ o → 0 < k → k ≤ visible_in m o - rel → (l : ℕ) (vs : List UnitOf) → Sees m st l (Some p) rel vs → Shows shown part (take k vs)
    shows_next None e some few l vs s = absurd (omega arith)
    shows_next (Some t) e some few l vs s =
        elim (cases_Bool (visible (unit_at m t.list t.from))) [
          | inl v ↦ shows_at t e v (omega (arith, cond-true _ t.count 0 v)) l vs s
          | inr v ↦ absurd (omega (arith, cond-false _ t.count 0 v))
        ]

    pub took : (q : Option P) (into : ℕ) → Stepped m st p rel (length slots) q into k → 0 < k → k ≤ visible_in m (st p) - rel → Took m st shown p rel slots (part ++ drop k slots) q into k
    took q into s some few = record {
      stepped = s;
      values = λ l vs w.
          let front : take k (part ++ drop k slots) ≡ part = take-append-le k part (drop k slots) (omega (arith, part_is)) ∙ take_all k part (omega (arith, part_is)) in
          ap (map shown) front ∙ shows_next (st p) refl some few l vs w;
      rest = drop-append-drop k slots part k (omega arith) part_is;
    }

  -- one turn of a fill: used slots were filled before it, and n more by it
  pub fill_more : (slots before part : List Slot) (used k n : ℕ) (place : Option P) (p : P) (rel : ℕ) (q : Option P) (into : ℕ) → place ≡ Some p → Took m st shown p rel before part q into n → used ≤ length slots → length part ≡ length before → (l : ℕ) (vs : List UnitOf) → Shows shown (take used slots) (take used vs) × Sees m st l place rel (drop used vs) → Shows shown (take (used + n) (put_mid used k slots part)) (take (used + n) vs) × Sees m st l q into (drop (used + n) vs)
  fill_more slots before part used k n place p rel q into e took h long l vs (f, w) =
      let here : Sees m st l (Some p) rel (drop used vs) = subst (λ (o : Option P). Sees m st l o rel (drop used vs)) e w in
      let few = took.stepped.fewer in
      let front : take (used + n) (put_mid used k slots part) ≡ take used slots ++ take n part = put_front slots part used k n h (omega arith) in
      let both : Shows shown (take used slots ++ take n part) (take used vs ++ take n (drop used vs)) = shows_both shown _ _ _ _ f (took.values l (drop used vs) here) in
      (ap (map shown) front ∙ both ∙ ap (map (λ u. Some (facet u))) (sym (take-add used n vs)), walk_more m st settled place p e rel (length before) q into n took.stepped l used (used + n) vs refl w)

  -- a fill that ran out of runs has come to the end of the units
  pub fill_out : (place : Option P) → place ≡ None → (used rel l : ℕ) (vs : List UnitOf) → Sees m st l place rel (drop used vs) → length vs ≤ used
  fill_out place e used rel l vs w =
      let gone : drop used vs ≡ [] = subst (λ (o : Option P). Sees m st l o rel (drop used vs)) e w in
      omega (arith, simp length-drop at (ap length gone))

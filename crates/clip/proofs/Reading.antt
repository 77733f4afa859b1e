-- The values that a clip reads are those of the run below, up to the end of its shown part.
use Rattle.std.proofs.Common.{◌≡◌, ℕ, ◌+◌, ◌-◌, ◌<◌, ◌≤◌, min, Bool, true, false, cond, List, ◌++◌, map, length, get_or, take, drop, Some, None, Option, sym, refl, ap, ◌∙◌, subst, inl, inr, add_assoc, arith}
use Rattle.std.proofs.lemmas.List.{length-take, length-drop, get_or-take, get_or-drop, ext_get_or, take-append-le, drop-append-le, take-append-drop}
use Rattle.std.proofs.lemmas.Bool.{cases_lt}
use Rattle.block.specs.declared.kind.Kind.{Kind}
use Rattle.block.specs.declared.slot.Slot.{Slot}
use Rattle.block.specs.Kinds.{is_counted}
use Rattle.block.specs.Units.{Meaning, Stretch, UnitOf, Worth, RunOf, no_unit, unit_at}
use Rattle.block.specs.Values.{facet}
use Rattle.reader.specs.Answers.{Reads, valued, units_from}
use Rattle.clip.specs.Clipped.{clipped, place_of, shown_part, moved, cut, left_of}
use Rattle.clip.specs.RunFacts.{first_at, moved_at, moved_run, cut_some, cut_none}

-- what stands in a stretch of a list
part_at : (xs : List UnitOf) (a r i : ℕ) → i < r → get_or (take r (drop a xs)) i no_unit ≡ get_or xs (a + i) no_unit
part_at xs a r i h = get_or-take r (drop a xs) i no_unit h ∙ get_or-drop a xs i no_unit

part_length : (xs : List UnitOf) (a r : ℕ) → a + r ≤ length xs → length (take r (drop a xs)) ≡ r
part_length xs a r h = omega (arith, length-take r (drop a xs), length-drop a xs)

module _ (limit : ℕ → ℕ) (m : Meaning) where
  -- a run's shown units are the same units in the clip and below
  same_units : (t : Stretch) → RunOf m t → (k r : ℕ) → r ≤ shown_part limit m t - k → take r (units_from (clipped limit m) (Some (moved limit m t)) k) ≡ take r (units_from m (Some t) k)
  same_units t run k r h =
      elim (cases_lt 0 r) [
        | inl some ↦
            (let part : k + r ≤ shown_part limit m t = omega arith in
            let inside = (moved_run limit m t run (omega arith)).within in
            let up = part_length ((clipped limit m).units t.list) (place_of limit m t.list t.from + k) r (omega arith) in
            let down = part_length (m.units t.list) (t.from + k) r (omega (arith, run.within)) in
            ext_get_or no_unit _ _ (up ∙ sym down)
            (λ i g.
            let lt : i < r = omega arith in
            part_at ((clipped limit m).units t.list) (place_of limit m t.list t.from + k) r i lt ∙
            ap (λ x. unit_at (clipped limit m) t.list x) (add_assoc (place_of limit m t.list t.from) k i) ∙
            moved_at limit m t run (k + i) (omega arith) ∙
            ap (λ x. unit_at m t.list x) (sym (add_assoc t.from k i)) ∙
            sym (part_at (m.units t.list) (t.from + k) r i lt)))
        | inr none ↦ (let z : r ≡ 0 = omega arith in subst (λ x. take x (units_from (clipped limit m) (Some (moved limit m t)) k) ≡ take x (units_from m (Some t) k)) (sym z) refl)
      ]

  -- how many values there are, and which, under the clip
  record Shown (o : Option Stretch) (k n r : ℕ) : Type 0 where
    many : r ≡ min (valued (clipped limit m) (cut limit m o) k) n
    units : take r (units_from (clipped limit m) (cut limit m o) k) ≡ take r (units_from m o k)

  none_shown : (o : Option Stretch) (k n r : ℕ) → cut limit m o ≡ None → r ≡ 0 → Shown o k n r
  none_shown o k n r e z = record {
    many = (let zero : r ≡ min 0 n = omega arith in zero ∙ ap (λ x. min (valued (clipped limit m) x k) n) (sym e));
    units = subst (λ x. take x (units_from (clipped limit m) (cut limit m o) k) ≡ take x (units_from m o k)) (sym z) refl;
  }

  shown_at : (t : Stretch) → RunOf m t → (k n r : ℕ) → r ≡ min (valued m (Some t) k) (min n (shown_part limit m t - k)) → Shown (Some t) k n r
  shown_at t run k n r e =
      elim (cases_lt 0 (shown_part limit m t)) [
        | inl h ↦
            (let c = cut_some limit m (Some t) t refl h in
            let fewer : (b : Bool) → min (cond b (t.count - k) 0) (min n (shown_part limit m t - k)) ≡ min (cond b (shown_part limit m t - k) 0) n = λ b. elim b as (λ b. min (cond b (t.count - k) 0) (min n (shown_part limit m t - k)) ≡ min (cond b (shown_part limit m t - k) 0) n) [ true ↦ omega arith | false ↦ omega arith ] in
            record {
              many = e ∙ fewer (is_counted (unit_at m t.list t.from).kind) ∙ ap (λ (x : UnitOf). min (cond (is_counted x.kind) (shown_part limit m t - k) 0) n) (sym (first_at limit m t run h)) ∙ ap (λ x. min (valued (clipped limit m) x k) n) (sym c);
              units = ap (λ x. take r (units_from (clipped limit m) x k)) c ∙ same_units t run k r (omega arith);
            })
        | inr h ↦ none_shown (Some t) k n r (cut_none limit m (Some t) t refl h) (omega arith)
      ]

  shown_of : (o : Option Stretch) → ((t : Stretch) → o ≡ Some t → RunOf m t) → (k n r : ℕ) → r ≡ min (valued m o k) (min n (left_of limit m o k)) → Shown o k n r
  shown_of None runs k n r e = none_shown None k n r refl (omega arith)
  shown_of (Some t) runs k n r e = shown_at t (runs t refl) k n r e

  pub reads : (shown : Slot → Option (Kind × Worth)) (o : Option Stretch) → ((t : Stretch) → o ≡ Some t → RunOf m t) → (k n r : ℕ) (before part : List Slot) → n ≡ min (length before) (left_of limit m o k) → length part ≡ length (take n before) → Reads m shown o k (take n before) part r → Reads (clipped limit m) shown (cut limit m o) k before (part ++ drop n before) r
  reads shown o runs k n r before part e same f =
      let long = length-take n before in
      let is = shown_of o runs k (length before) r (omega (arith, f.many)) in
      let fits : r ≤ length (take n before) = omega (arith, f.many) in
      let fit : r ≤ length part = omega arith in
      record {
        many = is.many;
        values = ap (map shown) (take-append-le r part (drop n before) fit) ∙ f.values ∙ ap (map (λ u. Some (facet u))) (sym is.units);
        rest = drop-append-le r part (drop n before) fit ∙ ap (λ xs. xs ++ drop n before) f.rest ∙ sym (drop-append-le r (take n before) (drop n before) fits) ∙ ap (drop r) (take-append-drop n before);
      }

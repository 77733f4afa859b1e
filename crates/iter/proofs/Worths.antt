-- The visible units of a part of a run.
use Rattle.std.proofs.Common.{◌≡◌, ℕ, zero, suc, ◌+◌, ◌-◌, ◌<◌, ◌≤◌, min, Bool, true, false, ◌&&◌, cond, List, [], ◌∷◌, length, get_or, take, drop, Some, None, Option, sym, refl, ap, ◌∙◌, subst, inl, inr, add-zero, add_assoc, arith, get_or-drop, drop-cons}
use Rattle.std.proofs.lemmas.Bool.{cases_lt, and_parts}
use Rattle.block.specs.declared.kind.Kind.{Kind}
use Rattle.block.specs.declared.slot.Slot.{Slot}
use Rattle.block.specs.Kinds.{is_counted}
use Rattle.block.specs.Values.{facet}
use Rattle.block.specs.Units.{Worth, UnitOf, Meaning, Stretch, RunOf, unit_at, no_unit, visible, seen}
use Rattle.block.proofs.Seen.{run_visible}
use Rattle.reader.specs.declared.reader.Description.{Description}
use Rattle.reader.specs.Answers.{Described, Valued}
use Rattle.iter.specs.declared.slice.ItemSlice.{ItemSlice}
use Rattle.iter.specs.Yields.{seen_in, FirstValue}
use Rattle.iter.proofs.Chains.{described_some}

hidden_front : (us : List UnitOf) (n : ℕ) → ((j : ℕ) → j < n → visible (get_or us j no_unit) ≡ false) → seen (take n us) ≡ []
hidden_front us zero h = refl
hidden_front [] (suc n) h = refl
hidden_front (u ∷ us) (suc n) h =
    subst (λ (b : Bool). cond b (u ∷ seen (take n us)) (seen (take n us)) ≡ []) (sym (h 0 (omega arith)))
    (hidden_front us n (λ j l. h (suc j) (omega arith)))

-- the first n units of which one is visible
visible_front : (us : List UnitOf) (i n : ℕ) → i < length us → visible (get_or us i no_unit) ≡ true → seen (take (suc n) (drop i us)) ≡ get_or us i no_unit ∷ seen (take n (drop (suc i) us))
visible_front us i n h v =
    subst (λ (xs : List UnitOf). seen (take (suc n) xs) ≡ get_or us i no_unit ∷ seen (take n (drop (suc i) us))) (sym (drop-cons us i no_unit h))
    (subst (λ (b : Bool). cond b (get_or us i no_unit ∷ seen (take n (drop (suc i) us))) (seen (take n (drop (suc i) us))) ≡ get_or us i no_unit ∷ seen (take n (drop (suc i) us))) (sym v) refl)

module _ (m : Meaning) (t : Stretch) (run : RunOf m t) (start end : ℕ) where
  pub hidden_part : visible (unit_at m t.list t.from) ≡ false → seen_in m (Some t) start end ≡ []
  hidden_part v =
      hidden_front (drop (t.from + start) (m.units t.list)) (min (end + 1) t.count - start)
      (λ j l. ap visible (get_or-drop (t.from + start) (m.units t.list) j no_unit ∙ ap (unit_at m t.list) (add_assoc t.from start j)) ∙ run_visible m t run (start + j) (omega arith) ∙ v)

  pub past_part : t.count ≤ start → seen_in m (Some t) start end ≡ []
  past_part h =
      let n : min (end + 1) t.count - start ≡ 0 = omega arith in
      ap (λ (k : ℕ). seen (take k (drop (t.from + start) (m.units t.list)))) n

  pub visible_part : visible (unit_at m t.list t.from) ≡ true → start ≤ end → start < t.count → seen_in m (Some t) start end ≡ unit_at m t.list (t.from + start) ∷ seen_in m (Some t) (start + 1) end
  visible_part v o h =
      let n : min (end + 1) t.count - start ≡ suc (min (end + 1) t.count - (start + 1)) = omega arith in
      let i : suc (t.from + start) ≡ t.from + (start + 1) = omega arith in
      let us = m.units t.list in
      ap (λ (k : ℕ). seen (take k (drop (t.from + start) us))) n
      ∙ visible_front us (t.from + start) (min (end + 1) t.count - (start + 1)) (omega (arith, run.within)) (run_visible m t run start h ∙ v)
      ∙ ap (λ (k : ℕ). unit_at m t.list (t.from + start) ∷ seen (take (min (end + 1) t.count - (start + 1)) (drop k us))) i

  -- what the reader answers at the start of a visible part
  module _ (shown : Slot → Option (Kind × Worth)) (shows : visible (unit_at m t.list t.from) ≡ true) where
    counted : is_counted (unit_at m t.list t.from).kind ≡ true
    counted = (and_parts (unit_at m t.list t.from).live (is_counted (unit_at m t.list t.from).kind) shows).1

    pub none_valued : Valued m shown (Some t) start None → seen_in m (Some t) start end ≡ []
    none_valued h =
        elim (cases_lt start t.count) [
          | inr far ↦ past_part far
          | inl near ↦ (let (s, is, value) = h.some (rw counted (omega arith)) in let z : ◌≡◌ {A = ℕ} 0 1 = cc in absurd (omega arith))
        ]

    pub some_valued : (x : Slot) → start ≤ end → Valued m shown (Some t) start (Some x) → (u : UnitOf) × (shown x ≡ Some (facet u)) × (seen_in m (Some t) start end ≡ u ∷ seen_in m (Some t) (start + 1) end)
    some_valued x o h =
        elim (cases_lt start t.count) [
          | inr far ↦ (let is = h.none (rw counted (omega arith)) in let z : ◌≡◌ {A = ℕ} 0 1 = cc in absurd (omega arith))
          | inl near ↦
              (let (s, is, value) = h.some (rw counted (omega arith)) in
              let same : x ≡ s = cc in
              let at : get_or (drop (t.from + start) (m.units t.list)) 0 no_unit ≡ unit_at m t.list (t.from + start) = get_or-drop (t.from + start) (m.units t.list) 0 no_unit ∙ ap (unit_at m t.list) (add-zero (t.from + start)) in
              (unit_at m t.list (t.from + start), ap shown same ∙ value ∙ ap (λ (u : UnitOf). Some (facet u)) at, visible_part shows o near))
        ]

-- the same, by what the reader says of the run
module _ {P : Type 0} (m : Meaning) (st : P → Option Stretch) (settled : (p : P) (t : Stretch) → st p ≡ Some t → RunOf m t) (shown : Slot → Option (Kind × Worth)) (s : ItemSlice P) (d : Description) (desc : Described m (st s.run.place) (Some d)) where
  abbrev shows : Description → Bool
  shows x = x.live && is_counted x.kind

  pub hidden_value : shows d ≡ false → FirstValue m st shown s None
  hidden_value hidden =
      let (t, e, q) = described_some m (st s.run.place) d desc in
      rw e (hidden_part m t (settled s.run.place t e) s.start s.end (sym (ap shows q) ∙ hidden))

  pub shown_value : shows d ≡ true → (r : Option Slot) → Valued m shown (st s.run.place) s.start r → FirstValue m st shown s r
  shown_value is None h =
      let (t, e, q) = described_some m (st s.run.place) d desc in
      subst (λ (o : Option Stretch). seen_in m o s.start s.end ≡ []) (sym e) (none_valued m t (settled s.run.place t e) s.start s.end shown (sym (ap shows q) ∙ is) (subst (λ (o : Option Stretch). Valued m shown o s.start None) e h))
  shown_value is (Some x) h =
      let (t, e, q) = described_some m (st s.run.place) d desc in
      subst (λ (o : Option Stretch). (u : UnitOf) × (shown x ≡ Some (facet u)) × (seen_in m o s.start s.end ≡ u ∷ seen_in m o (s.start + 1) s.end)) (sym e)
      (some_valued m t (settled s.run.place t e) s.start s.end shown (sym (ap shows q) ∙ is) x s.ordered (subst (λ (o : Option Stretch). Valued m shown o s.start (Some x)) e h))

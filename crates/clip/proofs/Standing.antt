-- A hidden holder counts as dead.
use Rattle.std.proofs.Common.{◌≡◌, ℕ, Bool, true, false, ◌&&◌, ltb, Some, None, Option, sym, refl, ap, ◌∙◌, inl, inr}
use Rattle.std.proofs.lemmas.Bool.{cases_lt, lt-ltb, le-ltb, and_right}
use Rattle.block.specs.declared.ids.Id.{Id}
use Rattle.block.specs.Kept.{kept_at, spot_below}
use Rattle.block.specs.Lookup.{where_is, live_at, held_up}
use Rattle.block.specs.Units.{Meaning, UnitOf, Lawful, unit_at, no_unit}
use Rattle.block.proofs.Lookups.{where_some, where_none, where_at, not_there}
use Rattle.clip.specs.Clipped.{shown_by, clipped, place_of}
use Rattle.clip.specs.ClippedFacts.{unit_from, clipped_lawful}
use Rattle.clip.specs.Holders.{holder_shown, HiddenIsDead}
use Rattle.clip.proofs.Finding.{found_hidden}

and_true : (b : Bool) → (b && true) ≡ b
and_true true = refl
and_true false = refl

module _ (limit : ℕ → ℕ) (m : Meaning) (law : Lawful m) where
  live_shown : (h : Id) (o : Option (ℕ × ℕ)) → where_is m h ≡ o → live_at (clipped limit m) (where_is (clipped limit m) h) ≡ (live_at m o && ltb h.clock (limit h.client))
  live_shown h None e =
      ap (live_at (clipped limit m))
      (not_there (clipped limit m) h (clipped_lawful limit m law)
      (λ l i s.
      let a = unit_from limit m l i s.0 in
      where_none m h law e l a.0 (a.1, sym (ap (λ (x : UnitOf). x.id) a.4) ∙ s.1)))
  live_shown h (Some at) e =
      let s = (where_some m h at e).1 in
      elim (cases_lt h.clock (limit h.client)) [
        | inl lt ↦
            (let shown : shown_by limit (unit_at m at.0 at.1) ≡ true = ap (λ (x : Id). ltb x.clock (limit x.client)) s.1 ∙ lt-ltb _ _ lt in
            let inside = spot_below (shown_by limit) (m.units at.0) at.1 no_unit s.0 shown in
            let same : unit_at (clipped limit m) at.0 (place_of limit m at.0 at.1) ≡ unit_at m at.0 at.1 = kept_at (shown_by limit) (m.units at.0) at.1 no_unit s.0 shown in
            let there = where_at (clipped limit m) h (clipped_lawful limit m law) at.0 (place_of limit m at.0 at.1) (inside, ap (λ (x : UnitOf). x.id) same ∙ s.1) in
            ap (live_at (clipped limit m)) there ∙ ap (λ (x : UnitOf). x.live) same ∙ sym (ap (λ b. (unit_at m at.0 at.1).live && b) (lt-ltb _ _ lt) ∙ and_true (unit_at m at.0 at.1).live))
        | inr ge ↦ ap (live_at (clipped limit m)) (not_there (clipped limit m) h (clipped_lawful limit m law) (λ l i s. found_hidden limit m h ge l i s.0 s.1)) ∙ sym (and_right _ _ (le-ltb _ _ ge))
      ]

  held_shown : (o : Option Id) → held_up (clipped limit m) o ≡ (held_up m o && holder_shown limit o)
  held_shown None = refl
  held_shown (Some h) = live_shown h (where_is m h) refl

pub hidden_is_dead : HiddenIsDead
hidden_is_dead limit m law l = held_shown limit m law (m.holder l)

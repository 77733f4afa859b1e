-- What no history changes.
use Rattle.std.proofs.Common.{◌≡◌, ℕ, zero, suc, ◌+◌, ◌<◌, List, [], ◌∷◌, ◌++◌, map, length, get_or, sym, refl, ap, ◌∙◌, subst, inl, inr, arith, length-append}
use Rattle.std.proofs.lemmas.List.{get_or-append-add}
use Rattle.std.proofs.lemmas.Bool.{cases_eq}
use Rattle.block.specs.declared.ids.Id.{Id}
use Rattle.block.specs.Units.{Meaning, UnitOf, no_unit}
use Rattle.history.specs.Events.{Event, link, tombstone, redo, nothing, dead, redone_as, Step}
use Rattle.history.specs.Lasting.{Ages, Lasts, UnitsLast}

ages_same : (u : UnitOf) → Ages u u
ages_same u = record { id = refl; kind = refl; worth = refl; dead = λ h. h; redone = λ h. h }

ages_on : (u v w : UnitOf) → Ages u v → Ages v w → Ages u w
ages_on u v w a b = record { id = b.id ∙ a.id; kind = b.kind ∙ a.kind; worth = b.worth ∙ a.worth; dead = λ h. b.dead (a.dead h); redone = λ h. a.redone (b.redone h) }

ages_dead : (u : UnitOf) → Ages u (dead u)
ages_dead u = record { id = refl; kind = refl; worth = refl; dead = λ h. refl; redone = λ h. h }

ages_redone : (s : Id) (u : UnitOf) → Ages u (redone_as s u)
ages_redone s u = record { id = refl; kind = refl; worth = refl; dead = λ h. h; redone = λ h. absurd (let z : ◌≡◌ {A = ℕ} 0 1 = cc in omega arith) }

lasts_same : (us : List UnitOf) → Lasts us us
lasts_same us = record { place = λ i. i; there = λ i h. h; order = λ i k h. h; ages = λ i h. ages_same (get_or us i no_unit) }

lasts_on : (us vs ws : List UnitOf) → Lasts us vs → Lasts vs ws → Lasts us ws
lasts_on us vs ws a b =
    record {
      place = λ i. b.place (a.place i);
      there = λ i h. b.there (a.place i) (a.there i h);
      order = λ i k h. b.order (a.place i) (a.place k) (a.order i k h);
      ages = λ i h. ages_on _ _ _ (a.ages i h) (b.ages (a.place i) (a.there i h));
    }

-- behind other units
lasts_behind : (new us : List UnitOf) → Lasts us (new ++ us)
lasts_behind new us =
    record {
      place = λ i. length new + i;
      there = λ i h. omega (arith, length-append new us);
      order = λ i k h. omega arith;
      ages = λ i h. subst (λ (v : UnitOf). Ages (get_or us i no_unit) v) (sym (get_or-append-add new us i no_unit)) (ages_same (get_or us i no_unit));
    }

-- with one unit more in front
module _ (u v : UnitOf) (us vs : List UnitOf) (g : Ages u v) (r : Lasts us vs) where
  abbrev later : ℕ → ℕ
  later zero = zero
  later (suc i) = suc (r.place i)

  later_there : (i : ℕ) → i < length (u ∷ us) → later i < length (v ∷ vs)
  later_there zero h = omega arith
  later_there (suc i) h = omega (arith, r.there i (omega arith))

  later_order : (i k : ℕ) → i < k → later i < later k
  later_order zero zero h = absurd (omega arith)
  later_order zero (suc k) h = omega arith
  later_order (suc i) zero h = absurd (omega arith)
  later_order (suc i) (suc k) h = omega (arith, r.order i k (omega arith))

  later_ages : (i : ℕ) → i < length (u ∷ us) → Ages (get_or (u ∷ us) i no_unit) (get_or (v ∷ vs) (later i) no_unit)
  later_ages zero h = g
  later_ages (suc i) h = r.ages i (omega arith)

  lasts_cons : Lasts (u ∷ us) (v ∷ vs)
  lasts_cons = record { place = later; there = later_there; order = later_order; ages = later_ages }

lasts_front : (xs us vs : List UnitOf) → Lasts us vs → Lasts (xs ++ us) (xs ++ vs)
lasts_front [] us vs r = r
lasts_front (x ∷ xs) us vs r = lasts_cons x x (xs ++ us) (xs ++ vs) (ages_same x) (lasts_front xs us vs r)

lasts_map : (f : UnitOf → UnitOf) → ((u : UnitOf) → Ages u (f u)) → (hs ys : List UnitOf) → Lasts (hs ++ ys) (map f hs ++ ys)
lasts_map f g [] ys = lasts_same ys
lasts_map f g (h ∷ hs) ys = lasts_cons h (f h) (hs ++ ys) (map f hs ++ ys) (g h) (lasts_map f g hs ys)

-- between equal lists
lasts_as : (us vs was is : List UnitOf) → us ≡ was → vs ≡ is → Lasts was is → Lasts us vs
lasts_as us vs was is e f r = subst (λ (x : List UnitOf). Lasts x vs) (sym e) (subst (λ (y : List UnitOf). Lasts was y) (sym f) r)

module _ (m n : Meaning) (l : ℕ) where
  lasts_turned : (k : ℕ) (was is : List UnitOf) → m.units k ≡ was → n.units k ≡ is → ((j : ℕ) → (j ≡ k → ⊥) → n.units j ≡ m.units j) → Lasts was is → Lasts (m.units l) (n.units l)
  lasts_turned k was is u v w r =
      elim (cases_eq l k) [
        | inl e ↦ lasts_as _ _ was is (ap m.units e ∙ u) (ap n.units e ∙ v) r
        | inr ne ↦ lasts_as _ _ (m.units l) (m.units l) refl (w l ne) (lasts_same (m.units l))
      ]

  -- over one edit
  step_lasts : (e : Event) → Step m e n → Lasts (m.units l) (n.units l)
  step_lasts (link k x new y) (u, v, w) = lasts_turned k _ _ u v w (lasts_front x y (new ++ y) (lasts_behind new y))
  step_lasts (tombstone k x h y) (u, v, w) = lasts_turned k _ _ u v w (lasts_front x (h ++ y) (map dead h ++ y) (lasts_map dead ages_dead h y))
  step_lasts (redo s k x h y) (u, v, w) = lasts_turned k _ _ u v w (lasts_front x (h ++ y) (map (redone_as s) h ++ y) (lasts_map (redone_as s) (ages_redone s) h y))
  step_lasts nothing w = lasts_as _ _ (m.units l) (m.units l) refl (w l) (lasts_same (m.units l))

pub units_last : UnitsLast
units_last m o [] l (law, e) = lasts_as _ _ (m.units l) (m.units l) refl (ap (λ (x : Meaning). x.units l) (sym e)) (lasts_same (m.units l))
units_last m o (e ∷ es) l (n, law, s, h) = lasts_on (m.units l) (n.units l) (o.units l) (step_lasts m n l e s) (units_last n o es l h)

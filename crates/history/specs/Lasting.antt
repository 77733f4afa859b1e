-- What no history changes.
use Rattle.std.specs.Prelude.{◌≡◌, ℕ, ◌<◌, false, List, length, None, slice_index_or}
use Rattle.block.specs.Units.{Meaning, UnitOf, no_unit}
use Rattle.history.specs.Events.{Event, History}

-- what becomes of a unit: its id, kind and worth stay; if it is dead it stays dead, if it is redone it stays redone
pub record Ages (u v : UnitOf) : Type 0 where
  pub id : v.id ≡ u.id
  pub kind : v.kind ≡ u.kind
  pub worth : v.worth ≡ u.worth
  pub dead : u.live ≡ false → v.live ≡ false
  pub redone : v.redone ≡ None → u.redone ≡ None

-- each of these units is now one of those, at its place, and their order is the same
pub record Lasts (us vs : List UnitOf) : Type 0 where
  pub place : ℕ → ℕ
  pub there : (i : ℕ) → i < length us → place i < length vs
  pub order : (i k : ℕ) → i < k → place i < place k
  pub ages : (i : ℕ) → i < length us → Ages (slice_index_or us i no_unit) (slice_index_or vs (place i) no_unit)

-- so it is with the units of every list over every history
abbrev pub UnitsLast : Type 0
UnitsLast = (m o : Meaning) (es : List Event) (l : ℕ) → History m es o → Lasts (m.units l) (o.units l)

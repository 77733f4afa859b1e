-- What edits do to the units of a document.
use Rattle.std.specs.Prelude.{◌≡◌, ℕ, false, List, [], ◌∷◌, ◌++◌, map, Some, ◌≢◌}
use Rattle.block.specs.declared.ids.Id.{Id}
use Rattle.block.specs.Units.{Meaning, UnitOf, Lawful}

-- an accepted edit, by the list that it touches and that list's units: those left of the part, the part, those right of it
pub data Event : Type 0 where
  link : (list : ℕ) (left new right : List UnitOf) → Event
  tombstone : (list : ℕ) (left hit right : List UnitOf) → Event
  redo : (successor : Id) (list : ℕ) (left hit right : List UnitOf) → Event
  -- a cut, or an edit that is refused
  nothing : Event

-- a unit that is made dead
abbrev pub dead : UnitOf → UnitOf
dead u = record { id = u.id; kind = u.kind; live = false; worth = u.worth; redone = u.redone }

-- a unit that is given a successor
abbrev pub redone_as : Id → UnitOf → UnitOf
redone_as s u = record { id = u.id; kind = u.kind; live = u.live; worth = u.worth; redone = Some s }

-- the units of list l were these and are those; those of the other lists stay
abbrev pub Turns : Meaning → Meaning → ℕ → List UnitOf → List UnitOf → Type 0
Turns m n l was is = (m.units l ≡ was) × (n.units l ≡ is) × ((k : ℕ) → (k ≢ l) → n.units k ≡ m.units k)

-- one edit leads from m to n
abbrev pub Step : Meaning → Event → Meaning → Type 0
Step m (link l left new right) n = Turns m n l (left ++ right) (left ++ (new ++ right))
Step m (tombstone l left hit right) n = Turns m n l (left ++ (hit ++ right)) (left ++ (map dead hit ++ right))
Step m (redo s l left hit right) n = Turns m n l (left ++ (hit ++ right)) (left ++ (map (redone_as s) hit ++ right))
Step m nothing n = (l : ℕ) → n.units l ≡ m.units l

-- these edits, one after another, lead from m to o; each document on the way is lawful
abbrev pub History : Meaning → List Event → Meaning → Type 0
History m [] o = Lawful m × (m ≡ o)
History m (e ∷ es) o = (n : Meaning) × Lawful m × Step m e n × History n es o

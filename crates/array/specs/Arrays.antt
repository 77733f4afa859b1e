-- A list as an array of values: those of its visible units, counted from 0.
use Rattle.std.specs.Prelude.{◌≡◌, ℕ, zero, suc, ◌+◌, min, List, [], ◌∷◌, length, map, drop, Some, None, Option}
use Rattle.block.specs.declared.kind.Kind.{Kind}
use Rattle.block.specs.declared.slot.Slot.{Slot}
use Rattle.block.specs.declared.slot.Value.{Value}
use Rattle.block.specs.Units.{Meaning, Stretch, UnitOf, Worth}
use Rattle.block.specs.Values.{facet}
use Rattle.reader.specs.Answers.{faces}
use Rattle.array.specs.declared.array.ArrayIter.{ArrayIter}
use Rattle.block_iter.specs.Cursors.{Cursor, Sound, visible_of}

-- what element i shows; none from the length on
abbrev pub element : List UnitOf → ℕ → Option (Kind × Worth)
element [] i = None
element (u ∷ us) zero = Some (facet u)
element (u ∷ us) (suc i) = element us i

-- what the elements show that a cursor has still to come to
abbrev pub elements_left : {R P : Type 0} → (R → Meaning) → Cursor R P → List (Kind × Worth)
elements_left meaning c = map facet (drop c.index (visible_of meaning c))

abbrev pub values_left : {R P : Type 0} → (R → Meaning) → ArrayIter R P → List (Kind × Worth)
values_left meaning s = elements_left (λ r. meaning r.now) s.inner

-- the slot of element i
abbrev pub SlotOf : (Slot → Option (Kind × Worth)) → Option (Kind × Worth) → Option Slot → Type 0
SlotOf shown e None = e ≡ None
SlotOf shown e (Some s) = e ≡ shown s

-- the next element, and a cursor behind it; at the end none, and the cursor stays
pub record Yields {R P : Type 0} (meaning : R → Meaning) (stretch : R → P → Option Stretch) (c : Cursor R P) (r : Option Value) (d : Cursor R P) : Type 0 where
  pub value : faces r ≡ element (visible_of meaning c) c.index
  pub index : d.index ≡ min (c.index + 1) (length (visible_of meaning c))
  pub sound : Sound meaning stretch d

-- How the index of a mark on a unit moves through a history, and under clips.
use Rattle.std.specs.Prelude.{◌≡◌, ℕ, ◌+◌, Bool, true, false, cond, not, List, ◌++◌, length, take, is_some, Some, None, Ok, Err, sum_by, filter, Option, Result}
use Rattle.block.specs.declared.fault.Fault.{Fault}
use Rattle.block.specs.declared.fault.Code.TheVariants.{NotKnown}
use Rattle.block.specs.declared.fault.Spot.TheVariants as spots
use Rattle.block.specs.declared.ids.Id.{Id}
use Rattle.block.specs.Units.{Meaning, UnitOf, seen}
use Rattle.block.specs.Lookup.{index_of, redone_of, upheld}
use Rattle.sticky_index.specs.declared.index.Assoc.{Assoc}
use Rattle.sticky_index.specs.declared.index.IndexScope.TheVariants.{Relative}
use Rattle.sticky_index.specs.declared.index.Offset.{Offset}
use Rattle.sticky_index.specs.Marks.{on, stop, reach, refusal, offset_of}
use Rattle.history.specs.Events.{Event, link, tombstone, redo, nothing, History}
use Rattle.history.specs.Piles.{under, shows}

-- one of these units has this id
abbrev pub has : Id → List UnitOf → Bool
has id us = is_some (index_of id us)

-- the units left of a mark on the unit at this index; all of them if it is none of them
abbrev pub left_from : Assoc → List UnitOf → Option ℕ → List UnitOf
left_from a us None = us
left_from a us (Some i) = take (reach a i) us

-- the units left of a mark on the unit with this id: with Before that unit too
abbrev pub left_of : Assoc → Id → List UnitOf → List UnitOf
left_of a id us = left_from a us (index_of id us)

-- how many units an edit links left of the unit with this id, of those that are visible then
abbrev pub linked_by : Id → Event → ℕ
linked_by id (link l left new right) = cond (has id right) (length (seen new)) 0
linked_by id (tombstone l left hit right) = 0
linked_by id (redo s l left hit right) = 0
linked_by id nothing = 0

-- how many units left of a mark on it an edit makes dead, of those that are visible then
abbrev pub lost_by : Assoc → Id → Event → ℕ
lost_by a id (link l left new right) = 0
lost_by a id (tombstone l left hit right) = cond (has id (hit ++ right)) (length (seen (left_of a id hit))) 0
lost_by a id (redo s l left hit right) = 0
lost_by a id nothing = 0

-- over a whole history
abbrev pub linked : Id → List Event → ℕ
linked id es = sum_by (linked_by id) es

-- over a whole history
abbrev pub lost : Assoc → Id → List Event → ℕ
lost a id es = sum_by (lost_by a id) es

-- how many of the visible units left of a mark on it a clip hides
abbrev pub hidden : List (ℕ → ℕ) → Assoc → Id → List UnitOf → ℕ
hidden limits a id us = length (filter (λ u. not (shows limits u.id)) (seen (left_of a id us)))

-- edits lead from m to o; before them the mark stood at r, in a list that was upheld; after them that list is upheld under the clips, and
-- the unit has no successor
pub record Lives (m : Meaning) (es : List Event) (o : Meaning) (limits : List (ℕ → ℕ)) (id : Id) (a : Assoc) (r : Offset) : Type 0 where
  pub edits : History m es o
  pub stood : offset_of 0 m (on (Relative id) a) ≡ Ok r
  pub was_upheld : upheld m r.list ≡ true
  pub is_upheld : upheld (under limits o) r.list ≡ true
  pub not_redone : redone_of o id ≡ None

-- the mark stands in the same list; its index with what was lost and is hidden is the index at which it stood with what was linked
abbrev pub Moved : List Event → Meaning → List (ℕ → ℕ) → Id → Assoc → Offset → Result Offset Fault → Type 0
Moved es o limits id a r answer = (i : ℕ) × (answer ≡ Ok (stop r.list a i)) × (i + lost a id es + hidden limits a id (o.units r.list) ≡ r.index + linked id es)

-- the answer for a mark on a unit under clips: the unit is not known if a clip hides it; else the mark has moved with any history
pub record Moves (o : Meaning) (limits : List (ℕ → ℕ)) (id : Id) (a : Assoc) (answer : Result Offset Fault) : Type 0 where
  pub refused : shows limits id ≡ false → answer ≡ Err (refusal NotKnown (spots.Unit id))
  pub stands : shows limits id ≡ true → (m : Meaning) (es : List Event) (r : Offset) → Lives m es o limits id a r → Moved es o limits id a r answer

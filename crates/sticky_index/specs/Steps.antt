-- What the steps of a mark's way answer.
use Rattle.std.specs.Prelude.{◌≡◌, ℕ, ◌+◌, ◌<◌, cond, length, take, Some, None, Ok, Err, Option, Result, slice_index_or}
use Rattle.block.specs.declared.ids.Id.{Id}
use Rattle.block.specs.declared.fault.Fault.{Fault}
use Rattle.block.specs.declared.fault.Code.TheVariants.{NotListed}
use Rattle.block.specs.declared.fault.Spot.TheVariants as spots
use Rattle.block.specs.Units.{Meaning, Stretch, unit_at, no_unit, visible, seen}
use Rattle.block.specs.Values.{facet}
use Rattle.block.specs.Lookup.{where_is}
use Rattle.reader.specs.Answers.{Onward, described}
use Rattle.sticky_index.specs.declared.index.Assoc.{Assoc}
use Rattle.sticky_index.specs.declared.index.Offset.{Offset}
use Rattle.sticky_index.specs.declared.seat.Seat.{Seat}
use Rattle.sticky_index.specs.declared.walk.End.{End}
use Rattle.sticky_index.specs.Marks.{refusal, stop, last_id, index_at, held_in}

-- this seat is that of unit at .1 of list at .0
pub record Sits {P : Type 0} (m : Meaning) (st : P → Option Stretch) (seat : Seat P) (at : ℕ × ℕ) : Type 0 where
  pub covers : Stretch
  pub place : st seat.place ≡ Some covers
  pub offset : seat.offset < covers.count
  pub index : at ≡ (covers.list, covers.from + seat.offset)
  pub id : seat.id ≡ (unit_at m at.0 at.1).id
  pub run : seat.run ≡ described m covers

-- the unit with this id; none exactly if no list has it
abbrev pub Looked : {P : Type 0} → Meaning → (P → Option Stretch) → Id → Result (Seat P) Fault → Type 0
Looked m st id (Ok seat) = (at : ℕ × ℕ) × (where_is m id ≡ Some at) × Sits m st seat at
Looked m st id (Err e) = (where_is m id ≡ None) × (e ≡ refusal NotListed (spots.Unit id))

-- the unit that was to be found, or the fault
abbrev pub Leads : {P : Type 0} → Meaning → (P → Option Stretch) → Result (ℕ × ℕ) Fault → Result (Seat P) Fault → Type 0
Leads m st answer (Ok seat) = (at : ℕ × ℕ) × (answer ≡ Ok at) × Sits m st seat at
Leads m st answer (Err e) = answer ≡ Err e

-- the seat is that of some unit
abbrev pub Seated : {P : Type 0} → Meaning → (P → Option Stretch) → Seat P → Type 0
Seated m st seat = (at : ℕ × ℕ) × Sits m st seat at

-- the place is not foreign
abbrev pub Somewhere : {P : Type 0} → (P → Option Stretch) → P → Type 0
Somewhere st p = (t : Stretch) × (st p ≡ Some t)

-- how many visible units a run has
abbrev pub run_adds : Meaning → Option Stretch → ℕ
run_adds m None = 0
run_adds m (Some t) = cond (visible (unit_at m t.list t.from)) t.count 0

-- how many visible units stand left of the run at a place
abbrev pub LeftOf : {P : Type 0} → Meaning → (P → Option Stretch) → P → ℕ → Type 0
LeftOf m st p r = (t : Stretch) → st p ≡ Some t → r ≡ length (seen (take t.from (m.units t.list)))

-- where a mark on the unit of this seat stands
abbrev pub Indexed : {P : Type 0} → Meaning → (P → Option Stretch) → Seat P → Assoc → Offset → Type 0
Indexed m st seat a r = (at : ℕ × ℕ) → Sits m st seat at → r ≡ stop at.0 a (index_at m a at)

-- the list that the unit of this seat holds
abbrev pub Holds : {P : Type 0} → Meaning → (P → Option Stretch) → Seat P → Option ℕ → Type 0
Holds m st seat r = (at : ℕ × ℕ) → Sits m st seat at → r ≡ held_in (facet (unit_at m at.0 at.1))

-- what a walk to visible unit k of a list answers: that unit, or where it stopped past the list's end
abbrev pub Ended : Meaning → ℕ → ℕ → Result Id End → Type 0
Ended m l k (Ok id) = (k < length (seen (m.units l))) × (id ≡ (slice_index_or (seen (m.units l)) k no_unit).id)
Ended m l k (Err end) = (length (seen (m.units l)) + end.left ≡ k) × (end.last ≡ last_id (m.units l) (length (m.units l)))

-- the same of each list that begins at this place
abbrev pub Walked : {P : Type 0} → Meaning → (P → Option Stretch) → Option P → ℕ → Result Id End → Type 0
Walked m st start k r = (l : ℕ) → Onward m st l 0 start → Ended m l k r

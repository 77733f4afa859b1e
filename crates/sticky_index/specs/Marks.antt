-- On what a mark at an index rests, and at which index a mark stands.
use Rattle.std.specs.Prelude.{ℕ, zero, suc, cond, List, length, take, Some, None, Ok, Err, Option, Result, ◌==◌, nat_lt, slice_index_or}
use Rattle.block.specs.declared.ids.Id.{Id}
use Rattle.block.specs.declared.fault.Fault.{Fault}
use Rattle.block.specs.declared.fault.Code.{Code}
use Rattle.block.specs.declared.fault.Code.TheVariants.{NoSuchList, BeyondLength, NotKnown, NotListed, TooManyRedone}
use Rattle.block.specs.declared.fault.Part.TheVariants.{Mark}
use Rattle.block.specs.declared.fault.Spot.{Spot}
use Rattle.block.specs.declared.fault.Spot.TheVariants as spots
use Rattle.block.specs.declared.kind.Kind.{Kind}
use Rattle.block.specs.Kinds.{number_of}
use Rattle.block.specs.Units.{Meaning, UnitOf, Worth, bytes, nested, unit_at, no_unit, seen}
use Rattle.block.specs.Values.{facet}
use Rattle.block.specs.Lookup.{where_is, upheld}
use Rattle.reader.specs.Answers.{no_list}
use Rattle.sticky_index.specs.declared.index.Assoc.{Assoc}
use Rattle.sticky_index.specs.declared.index.Assoc.TheVariants.{Before, After}
use Rattle.sticky_index.specs.declared.index.IndexScope.{IndexScope}
use Rattle.sticky_index.specs.declared.index.IndexScope.TheVariants.{Relative, Nested, Root}
use Rattle.sticky_index.specs.declared.index.StickyIndex.{StickyIndex}
use Rattle.sticky_index.specs.declared.index.Offset.{Offset}

-- a mark's own refusal
abbrev pub refusal : Code → Spot → Fault
refusal code spot = record { code = code; part = Mark; spot = spot; clips = 0 }

-- this answer if the list is there, else the reader's own refusal, with the clips that it passed
abbrev pub if_there : {X : Type 0} → ℕ → Meaning → ℕ → Result X Fault → Result X Fault
if_there layers m l answer = cond (nat_lt l m.lists) answer (Err (no_list layers l))

-- a mark, by what it rests on and its lean
abbrev pub on : IndexScope → Assoc → StickyIndex
on scope a = record { scope = scope; assoc = a }

-- where a mark with this lean stands: after the first i visible units of list l
abbrev pub stop : ℕ → Assoc → ℕ → Offset
stop l a i = record { list = l; index = i; assoc = a }

-- On what a mark rests.

-- on a list: a root by its number, any other by its holder
abbrev pub list_scope : ℕ → Option Id → IndexScope
list_scope l None = Root l
list_scope l (Some h) = Nested h

-- the last of the first n units, dead or not
abbrev pub last_id : List UnitOf → ℕ → Option Id
last_id us zero = None
last_id us (suc i) = Some (slice_index_or us i no_unit).id

-- on the last unit of a list, or on the list if it has none
abbrev pub last_scope : ℕ → Option Id → Option Id → IndexScope
last_scope l holder None = list_scope l holder
last_scope l holder (Some id) = Relative id

-- on visible unit k
abbrev pub visible_scope : List UnitOf → ℕ → IndexScope
visible_scope us k = Relative (slice_index_or (seen us) k no_unit).id

-- there is no such index
abbrev pub beyond : ℕ → Result StickyIndex Fault
beyond l = Err (refusal BeyondLength (spots.List l))

-- Before rests at 0 on the list, at k + 1 on visible unit k, and one past the length on the last unit; After rests at k on visible unit k
abbrev pub rest_in : ℕ → Option Id → List UnitOf → ℕ → Assoc → Result StickyIndex Fault
rest_in l holder us zero Before = Ok (on (list_scope l holder) Before)
rest_in l holder us (suc k) Before = cond (nat_lt k (length (seen us))) (Ok (on (visible_scope us k) Before)) (cond (k == length (seen us)) (Ok (on (last_scope l holder (last_id us (length us))) Before)) (beyond l))
rest_in l holder us k After = cond (nat_lt k (length (seen us))) (Ok (on (visible_scope us k) After)) (beyond l)

-- the mark at index k of list l
abbrev pub rest_of : ℕ → Meaning → ℕ → ℕ → Assoc → Result StickyIndex Fault
rest_of layers m l k a = if_there layers m l (rest_in l (m.holder l) (m.units l) k a)

-- the mark that rests on list l
abbrev pub list_mark : ℕ → Meaning → ℕ → Assoc → Result StickyIndex Fault
list_mark layers m l a = if_there layers m l (Ok (on (list_scope l (m.holder l)) a))

-- Where a mark stands.

-- a unit that was found; if it has a successor, what that leads to
abbrev pub onto : (Id → Result (ℕ × ℕ) Fault) → ℕ × ℕ → Option Id → Result (ℕ × ℕ) Fault
onto more at None = Ok at
onto more at (Some next) = more next

-- the same of a look-up, which may find none
abbrev pub landing : Meaning → (Id → Result (ℕ × ℕ) Fault) → Id → Option (ℕ × ℕ) → Result (ℕ × ℕ) Fault
landing m more id None = Err (refusal NotListed (spots.Unit id))
landing m more id (Some at) = onto more at (unit_at m at.0 at.1).redone

-- the list and the index of the unit with this id, or of its successor, and so on; n successors at most
unfoldable pub follow : Meaning → ℕ → Id → Result (ℕ × ℕ) Fault
follow m zero id = landing m (λ next. Err (refusal TooManyRedone (spots.Unit id))) id (where_is m id)
follow m (suc n) id = landing m (follow m n) id (where_is m id)

-- the unit to which a mark's id leads, if its clock is known
abbrev pub found : Meaning → Id → Result (ℕ × ℕ) Fault
found m id = cond (nat_lt id.clock (m.known id.client)) (follow m 64 id) (Err (refusal NotKnown (spots.Unit id)))

-- how many units of its list stand left of a mark on the unit at index i: with Before that unit too
abbrev pub reach : Assoc → ℕ → ℕ
reach Before i = suc i
reach After i = i

-- the number of visible units left of it, or 0 if the holder of its list is dead or hidden
abbrev pub index_at : Meaning → Assoc → ℕ × ℕ → ℕ
index_at m a at = cond (upheld m at.0) (length (seen (take (reach a at.1) (m.units at.0)))) 0

-- where a mark on the unit found stands
abbrev pub unit_stop : Meaning → Assoc → Result (ℕ × ℕ) Fault → Result Offset Fault
unit_stop m a (Ok at) = Ok (stop at.0 a (index_at m a at))
unit_stop m a (Err e) = Err e

-- the end of a list for After, its start for Before
abbrev pub edge : Meaning → ℕ → Assoc → Offset
edge m l After = stop l After (length (seen (m.units l)))
edge m l Before = stop l Before 0

-- where a mark on a list stands
abbrev pub list_stop : ℕ → Meaning → ℕ → Assoc → Result Offset Fault
list_stop layers m l a = if_there layers m l (Ok (edge m l a))

-- the list that a unit holds, if it is of kind 7
abbrev pub held_in : Kind × Worth → Option ℕ
held_in (kind, bytes bs) = None
held_in (kind, nested l) = cond (number_of kind == 7) (Some l) None

-- where a mark on the list of the unit that was looked up last stands
abbrev pub held_stop : ℕ → Meaning → Id → Assoc → Option ℕ → Result Offset Fault
held_stop layers m last a None = Err (refusal NotListed (spots.Unit last))
held_stop layers m last a (Some l) = list_stop layers m l a

-- where a mark on the list that the unit found holds stands
abbrev pub nested_stop : ℕ → Meaning → Assoc → Result (ℕ × ℕ) Fault → Result Offset Fault
nested_stop layers m a (Ok at) = held_stop layers m (unit_at m at.0 at.1).id a (held_in (facet (unit_at m at.0 at.1)))
nested_stop layers m a (Err e) = Err e

-- where a mark on a root stands; a list that has a holder is none
abbrev pub root_stop : Meaning → ℕ → Assoc → Option Id → Result Offset Fault
root_stop m l a None = Ok (edge m l a)
root_stop m l a (Some h) = Err (refusal NoSuchList (spots.List l))

-- by what the mark rests on
abbrev pub scope_stop : ℕ → Meaning → Assoc → IndexScope → Result Offset Fault
scope_stop layers m a (Relative id) = unit_stop m a (found m id)
scope_stop layers m a (Nested id) = nested_stop layers m a (found m id)
scope_stop layers m a (Root l) = if_there layers m l (root_stop m l a (m.holder l))

-- where a mark stands, or why it stands nowhere
abbrev pub offset_of : ℕ → Meaning → StickyIndex → Result Offset Fault
offset_of layers m mark = scope_stop layers m mark.assoc mark.scope

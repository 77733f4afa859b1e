-- What an edit of a run does to the units of its list.
use Rattle.std.specs.Prelude.{ℕ, ◌+◌, List, take, drop, Ok, Err, Result}
use Rattle.std.specs.Option.{unwrap_or}
use Rattle.block.specs.Units.{UnitOf}
use Rattle.block.specs.declared.fault.Fault.{Fault}
use Rattle.block.specs.declared.ids.Id.{Id}
use Rattle.store.specs.Records.{Store, run_at}
use Rattle.document.specs.Meaning.{units_of, units_in, offset}
use Rattle.history.specs.Events.{Event, tombstone, redo, nothing}

-- the list of run i, and how many of its units stand left of the run
abbrev pub list_of : Store → ℕ → ℕ
list_of s i = unwrap_or (run_at s i).list 0

abbrev pub from_of : Store → ℕ → ℕ
from_of s i = unwrap_or (offset s i) 0

-- the list's units left and right of the run
abbrev pub left_of : Store → ℕ → List UnitOf
left_of s i = take (from_of s i) (units_in s (list_of s i))

abbrev pub right_of : Store → ℕ → List UnitOf
right_of s i = drop (from_of s i + (run_at s i).len) (units_in s (list_of s i))

-- the run dies
abbrev pub death : Store → ℕ → Event
death s i = tombstone (list_of s i) (left_of s i) (units_of s (run_at s i)) (right_of s i)

-- the run gets a successor
abbrev pub renewal : Id → Store → ℕ → Event
renewal next s i = redo next (list_of s i) (left_of s i) (units_of s (run_at s i)) (right_of s i)

-- what an edit does at the run that was found; a refused edit does nothing
abbrev pub happened : (Store → ℕ → Event) → Store → Result ℕ Fault → Event
happened event s (Ok i) = event s i
happened event s (Err f) = nothing

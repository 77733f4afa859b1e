-- What an edit looks for before it changes anything, and how it refuses.
use Rattle.std.specs.Prelude.{◌≡◌, ℕ, Bool, cond, not, ◌&&◌, is_some, Some, None, Ok, Err, Option, Result, nat_lt, position}
use Rattle.std.specs.Option.{ok_or}
use Rattle.block.specs.declared.fault.Code.{Code}
use Rattle.block.specs.declared.fault.Code.TheVariants.{OutOfRange, NotKnown, NotListed, Misplaced}
use Rattle.block.specs.declared.fault.Fault.{Fault}
use Rattle.block.specs.declared.fault.Part.TheVariants as parts
use Rattle.block.specs.declared.fault.Spot.{Spot}
use Rattle.block.specs.declared.fault.Spot.TheVariants.{Nowhere, Unit}
use Rattle.block.specs.declared.ids.Id.{Id}
use Rattle.store.specs.declared.records.RunRecord.{RunRecord}
use Rattle.store.specs.declared.records.View.{View}
use Rattle.store.specs.declared.tables.Tables.{Tables}
use Rattle.store.specs.Limits.{is_counted, used}
use Rattle.store.specs.Records.{Store, held, run_at}
use Rattle.store.specs.Refusals.{fault_at}
use Rattle.document.specs.Examined.{examined}
use Rattle.document.specs.Finds.{has}
use Rattle.document.specs.Meaning.{clock_in}

abbrev pub fault_of : Code → Spot → Fault
fault_of code spot = record { code = code; part = parts.Edit; spot = spot; clips = 0 }

-- the fault that examination finds: a count out of range, else the first of the records
abbrev pub table_fault : Tables → Option Fault
table_fault t = cond (is_counted t) (examined (used t)) (Some (fault_at OutOfRange Nowhere))

-- the tables pass and lend their records in use, or the fault is told
abbrev pub Passed : Tables → Result View Fault → Type 0
Passed t (Ok v) = (table_fault t ≡ None) × (held v ≡ used t)
Passed t (Err f) = table_fault t ≡ Some f

-- the run is in a list and has the unit
abbrev pub lists_unit : Id → RunRecord → Bool
lists_unit id r = is_some r.list && has id r

-- the run of a list that has the unit
abbrev pub listed_run : Store → Id → Option ℕ
listed_run s id = position (lists_unit id) s.runs

-- that run, or why there is none: its clock is not known, or no list has it
abbrev pub placed : Store → Id → Result ℕ Fault
placed s id = cond (nat_lt id.clock (clock_in s.clients id.client)) (ok_or (listed_run s id) (fault_of NotListed (Unit id))) (Err (fault_of NotKnown (Unit id)))

abbrev pub unless : {A : Type 0} → Option Fault → Result A Fault → Result A Fault
unless (Some f) r = Err f
unless None r = r

-- the run that an edit of a unit touches, or the first fault that is met
abbrev pub aimed : Tables → Id → Result ℕ Fault
aimed t id = unless (table_fault t) (placed (used t) id)

abbrev pub and_then : Result ℕ Fault → (ℕ → Result ℕ Fault) → Result ℕ Fault
and_then (Ok i) k = k i
and_then (Err f) k = Err f

-- a dead run without a successor
abbrev pub can_be_redone : RunRecord → Bool
can_be_redone r = not r.live && not (is_some r.redone)

abbrev pub unless_misplaced : Store → Id → ℕ → Result ℕ Fault
unless_misplaced s id i = cond (can_be_redone (run_at s i)) (Ok i) (Err (fault_of Misplaced (Unit id)))

-- the run that gets a successor, or why it does not: the unit is looked for first, then the successor
abbrev pub redo_placed : Store → Id → Id → Result ℕ Fault
redo_placed s id next = and_then (placed s id) (λ i. and_then (placed s next) (λ j. unless_misplaced s id i))

abbrev pub redo_aimed : Tables → Id → Id → Result ℕ Fault
redo_aimed t id next = unless (table_fault t) (redo_placed (used t) id next)

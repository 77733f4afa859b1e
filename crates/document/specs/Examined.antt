-- Examination: the passes in their order, and the first record that fails.
use Rattle.std.specs.Prelude.{ℕ, Bool, cond, not, length, is_some, Some, None, Ok, Err, Option, Result}
use Rattle.std.specs.Option.{option_or}
use Rattle.block.specs.declared.fault.Code.{Code}
use Rattle.block.specs.declared.fault.Code.TheVariants.{OutOfRange, Overlap, Disagreement, Content}
use Rattle.block.specs.declared.fault.Fault.{Fault}
use Rattle.block.specs.declared.fault.Spot.{Spot}
use Rattle.block.specs.declared.fault.Spot.TheVariants.{Nowhere, RunRecord, ListRecord, ClientRecord, EntryRecord, Byte}
use Rattle.store.specs.Clocks.{run_follows_at}
use Rattle.store.specs.First.{first_bad}
use Rattle.store.specs.Limits.{counts_fit}
use Rattle.store.specs.Ranges.{run_fits_at, list_fits_at, client_fits_at, entry_fits_at}
use Rattle.store.specs.Records.{Store}
use Rattle.store.specs.Refusals.{fault_at}
use Rattle.links.specs.Links.{run_agrees_at, list_agrees_at, client_agrees_at}
use Rattle.content.specs.Content.{run_filled_at, entry_serves_at, byte_serves_at}

-- a fault at the first record that fails, else what comes after
abbrev pub report : Code → (ℕ → Spot) → Option ℕ → Option Fault → Option Fault
report code spot None rest = rest
report code spot (Some i) rest = Some (fault_at code (spot i))

-- more records or bytes in use than a document may have
abbrev pub crowded : Store → Option Fault
crowded s = cond (counts_fit s) None (Some (fault_at OutOfRange Nowhere))

-- fault 1: a field is out of range
abbrev pub out_of_range : Store → Option Fault
out_of_range s =
    report OutOfRange RunRecord (first_bad (run_fits_at s) (length s.runs))
    (report OutOfRange ListRecord (first_bad (list_fits_at s) (length s.lists))
    (report OutOfRange ClientRecord (first_bad (client_fits_at s) (length s.clients))
    (report OutOfRange EntryRecord (first_bad (entry_fits_at s) (length s.entries)) None)))

-- fault 2: runs of one client overlap or leave a gap
abbrev pub overlapping : Store → Option Fault
overlapping s = report Overlap RunRecord (first_bad (run_follows_at s) (length s.runs)) None

-- fault 3: records disagree
abbrev pub disagreeing : Store → Option Fault
disagreeing s =
    report Disagreement RunRecord (first_bad (run_agrees_at s) (length s.runs))
    (report Disagreement ListRecord (first_bad (list_agrees_at s) (length s.lists))
    (report Disagreement ClientRecord (first_bad (client_agrees_at s) (length s.clients)) None))

-- fault 4: content does not match
abbrev pub misfilled : Store → Option Fault
misfilled s =
    report Content RunRecord (first_bad (run_filled_at s) (length s.runs))
    (report Content EntryRecord (first_bad (entry_serves_at s) (length s.entries))
    (report Content Byte (first_bad (byte_serves_at s) (length s.bytes)) None))

-- the first failing record of the first failing pass
unfoldable pub examined : Store → Option Fault
examined s = option_or (crowded s) (option_or (out_of_range s) (option_or (overlapping s) (option_or (disagreeing s) (misfilled s))))

-- no fault is found
unfoldable pub accepts : Store → Bool
accepts s = not (is_some (examined s))

-- refused by a fault, if there is one
abbrev pub unless_fault : Option Fault → Result (Unit {0}) Fault
unless_fault (Some f) = Err f
unless_fault None = Ok tt

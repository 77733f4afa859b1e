-- What an edit leaves.
use Rattle.std.specs.Prelude.{ℕ, ◌-◌, false, List, Some, None, Ok, Err, Option, Result, slice_index_or, slice_set}
use Rattle.block.specs.declared.fault.Fault.{Fault}
use Rattle.block.specs.declared.ids.Id.{Id}
use Rattle.store.specs.declared.records.ListRecord.{ListRecord}
use Rattle.store.specs.declared.records.RunRecord.{RunRecord}
use Rattle.store.specs.declared.tables.Tables.{Tables}
use Rattle.store.specs.Records.{Store, run_at, no_list}
use Rattle.links.specs.Lengths.{weight}

-- what tables hold: all their records, in use or not, and the counts
pub record Contents : Type 0 where
  pub all : Store
  pub run_count : ℕ
  pub list_count : ℕ
  pub client_count : ℕ
  pub entry_count : ℕ
  pub byte_count : ℕ

abbrev pub all_of : Tables → Contents
all_of t = record { all = record { runs = t.runs.records.now; lists = t.lists.records.now; clients = t.clients.records.now; entries = t.entries.records.now; bytes = t.bytes.records.now }; run_count = t.runs.count; list_count = t.lists.count; client_count = t.clients.count; entry_count = t.entries.count; byte_count = t.bytes.count }

-- the records after an edit of those before, and the same counts
abbrev pub with_all : Contents → Store → Contents
with_all c s = record c { all = s }

-- a run's record and the lists' records, replaced
abbrev pub replaced : Store → ℕ → RunRecord → List ListRecord → Store
replaced s i r hs = record s { runs = slice_set s.runs i r; lists = hs }

-- a run that is made dead
abbrev pub killed : RunRecord → RunRecord
killed r = record r { live = false }

abbrev pub shorter : ListRecord → ℕ → ListRecord
shorter h n = record h { len = h.len - n }

-- a list's stored length, lowered
abbrev pub lowered : List ListRecord → Option ℕ → ℕ → List ListRecord
lowered hs None n = hs
lowered hs (Some l) n = slice_set hs l (shorter (slice_index_or hs l no_list) n)

-- run i is dead, and its list has its visible units no more
abbrev pub tombstoned : Store → ℕ → Store
tombstoned s i = replaced s i (killed (run_at s i)) (lowered s.lists (run_at s i).list (weight (run_at s i)))

-- a run that is given a successor
abbrev pub succeeded : Id → RunRecord → RunRecord
succeeded next r = record r { redone = Some next }

-- run i has this successor
abbrev pub redone_by : Id → Store → ℕ → Store
redone_by next s i = replaced s i (succeeded next (run_at s i)) s.lists

-- the tables after an edit at the run that was found; a refused edit changes nothing
abbrev pub edited : (Store → ℕ → Store) → Contents → Result ℕ Fault → Contents
edited edit c (Ok i) = with_all c (edit c.all i)
edited edit c (Err f) = c

-- an edit answers nothing but its fault
abbrev pub answer : Result ℕ Fault → Result (Unit {0}) Fault
answer (Ok i) = Ok tt
answer (Err f) = Err f

-- Which numbers a record may hold.
use Rattle.std.specs.Prelude.{ℕ, ◌+◌, ◌^◌, Bool, true, cond, not, ◌&&◌, length, is_some, Some, None, Option, ◌==◌, nat_le, nat_lt}
use Rattle.block.specs.declared.ids.Id.{Id}
use Rattle.store.specs.declared.records.RunRecord.{RunRecord}
use Rattle.store.specs.declared.records.ListRecord.{ListRecord}
use Rattle.store.specs.declared.records.EntryRecord.{EntryRecord}
use Rattle.store.specs.Kinds.{kind_of, stands_apart, is_single, entries_of}
use Rattle.store.specs.Records.{Store, run_at, list_at, client_at, entry_at}
use Rattle.store.specs.First.{all_pass}

-- a number that may name a client
abbrev pub is_client : ℕ → Bool
is_client c = nat_lt c (2 ^ 53)

-- a clock that may be known
abbrev pub is_clock : ℕ → Bool
is_clock k = nat_le k 2147483647

-- none, or the number of a record in use
abbrev pub in_use : Option ℕ → ℕ → Bool
in_use None n = true
in_use (Some i) n = nat_lt i n

-- none, or an id whose client may be one
abbrev pub id_fits : Option Id → Bool
id_fits None = true
id_fits (Some id) = is_client id.client

-- the client, kind, length and clocks of a run
abbrev pub numbers_fit : RunRecord → Bool
numbers_fit r = is_client r.id.client && (nat_le r.kind 10 && (nat_lt 0 r.len && is_clock (r.id.clock + r.len)))

-- what a run names is there: its neighbours, its list, and the client of its successor
abbrev pub names_fit : Store → RunRecord → Bool
names_fit s r = in_use r.left (length s.runs) && (in_use r.right (length s.runs) && (in_use r.list (length s.lists) && id_fits r.redone))

-- a run with content names an entry in use; one without may name the end of the entries
abbrev pub entry_fits : Store → RunRecord → Bool
entry_fits s r = cond (entries_of (kind_of r.kind) r.len == 0) (nat_le r.entry (length s.entries)) (nat_lt r.entry (length s.entries))

-- a collected or skipped run has no list and no neighbours, any other has a list
abbrev pub is_placed : RunRecord → Bool
is_placed r = cond (stands_apart (kind_of r.kind)) (not (is_some r.list) && (not (is_some r.left) && not (is_some r.right))) (is_some r.list)

-- a run of a kind that has one unit has one
abbrev pub length_fits : RunRecord → Bool
length_fits r = cond (is_single (kind_of r.kind)) (r.len == 1) true

-- each number of a run is in range
abbrev pub run_fits : Store → RunRecord → Bool
run_fits s r = numbers_fit r && (names_fit s r && (entry_fits s r && (is_placed r && length_fits r)))

-- the same of run i
abbrev pub run_fits_at : Store → ℕ → Bool
run_fits_at s i = run_fits s (run_at s i)

-- a list starts at a run in use, its holder's client may be one, and its length is a number of 32 bits
abbrev pub list_fits : Store → ListRecord → Bool
list_fits s h = in_use h.start (length s.runs) && (id_fits h.holder && nat_lt h.len (2 ^ 32))

-- the same of list l
abbrev pub list_fits_at : Store → ℕ → Bool
list_fits_at s l = list_fits s (list_at s l)

-- client record j is of another client than record i
abbrev pub other_client : Store → ℕ → ℕ → Bool
other_client s i j = not ((client_at s j).client == (client_at s i).client)

-- no earlier record has this client
abbrev pub client_fits_at : Store → ℕ → Bool
client_fits_at s i = is_client (client_at s i).client && (is_clock (client_at s i).known && all_pass (other_client s i) i)

-- the bytes of an entry are in use
abbrev pub entry_inside : Store → EntryRecord → Bool
entry_inside s e = nat_le (e.start + e.len) (length s.bytes)

-- the same of entry i
abbrev pub entry_fits_at : Store → ℕ → Bool
entry_fits_at s i = entry_inside s (entry_at s i)

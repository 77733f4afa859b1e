-- Whether the content of a run fits its kind and length, and whom an entry and a byte serve.
use Rattle.std.specs.Prelude.{ℕ, ◌+◌, Bool, true, false, cond, ◌&&◌, length, Ok, Err, Result, ◌==◌, nat_le, nat_lt}
use Rattle.store.specs.declared.records.EntryRecord.{EntryRecord}
use Rattle.store.specs.declared.records.RunRecord.{RunRecord}
use Rattle.store.specs.First.{passing}
use Rattle.store.specs.Kinds.{kind_of, entries_of}
use Rattle.store.specs.Records.{Store, run_at, entry_at, bytes_of}
use Rattle.utf8.specs.Reading.{counted}
use Rattle.utf8.specs.Table.{basic_char}

-- how many entries a run has
abbrev pub entries_in : RunRecord → ℕ
entries_in r = entries_of (kind_of r.kind) r.len

-- a run of kind 4
abbrev pub is_text : RunRecord → Bool
is_text r = r.kind == 4

-- the count came out, as this number
abbrev pub is_count : Result ℕ ℕ → ℕ → Bool
is_count (Ok k) n = k == n
is_count (Err p) n = false

-- the bytes are a text of just so many characters, none above U+FFFF
abbrev pub spells : Store → RunRecord → Bool
spells s r = is_count (counted basic_char (bytes_of s (entry_at s r.entry))) r.len

-- the entries of a run are there, and a text has a character for each unit
abbrev pub run_filled : Store → RunRecord → Bool
run_filled s r = nat_le (r.entry + entries_in r) (length s.entries) && cond (is_text r) (spells s r) true

-- the same of run i
abbrev pub run_filled_at : Store → ℕ → Bool
run_filled_at s i = run_filled s (run_at s i)

-- the run has this entry
abbrev pub has_entry : RunRecord → ℕ → Bool
has_entry r e = nat_le r.entry e && nat_lt e (r.entry + entries_in r)

-- run i has this entry
abbrev pub has_entry_at : Store → ℕ → ℕ → Bool
has_entry_at s e i = has_entry (run_at s i) e

-- an entry serves just one run
abbrev pub entry_serves_at : Store → ℕ → Bool
entry_serves_at s e = passing (has_entry_at s e) (length s.runs) == 1

-- the entry has this byte
abbrev pub has_byte : EntryRecord → ℕ → Bool
has_byte e b = nat_le e.start b && nat_lt b (e.start + e.len)

-- entry e has this byte
abbrev pub has_byte_at : Store → ℕ → ℕ → Bool
has_byte_at s b e = has_byte (entry_at s e) b

-- a byte serves just one entry
abbrev pub byte_serves_at : Store → ℕ → Bool
byte_serves_at s b = passing (has_byte_at s b) (length s.entries) == 1

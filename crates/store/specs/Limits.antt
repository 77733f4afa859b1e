-- How many records of each table, and how many bytes, may be in use.
use Rattle.std.specs.Prelude.{◌≡◌, ℕ, Bool, true, false, ◌&&◌, length, take, Ok, Err, Result, nat_le}
use Rattle.block.specs.declared.fault.Code.TheVariants.{OutOfRange}
use Rattle.block.specs.declared.fault.Fault.{Fault}
use Rattle.block.specs.declared.fault.Spot.TheVariants.{Nowhere}
use Rattle.store.specs.declared.records.View.{View}
use Rattle.store.specs.declared.tables.Tables.{Tables}
use Rattle.store.specs.Records.{Store, held}
use Rattle.store.specs.Refusals.{fault_at}

-- no table has more records in use than a document may have
abbrev pub counts_fit : Store → Bool
counts_fit s = nat_le (length s.runs) 4096 && (nat_le (length s.lists) 256 && (nat_le (length s.clients) 64 && (nat_le (length s.entries) 8192 && nat_le (length s.bytes) 65536)))

-- a count is within its table and its limit
abbrev pub count_fits : ℕ → ℕ → ℕ → Bool
count_fits count room limit = nat_le count room && nat_le count limit

-- each count is within its table and its limit
abbrev pub is_counted : Tables → Bool
is_counted t = count_fits t.runs.count (length t.runs.records.now) 4096 && (count_fits t.lists.count (length t.lists.records.now) 256 && (count_fits t.clients.count (length t.clients.records.now) 64 && (count_fits t.entries.count (length t.entries.records.now) 8192 && count_fits t.bytes.count (length t.bytes.records.now) 65536)))

-- the records in use
abbrev pub used : Tables → Store
used t = record { runs = take t.runs.count t.runs.records.now; lists = take t.lists.count t.lists.records.now; clients = take t.clients.count t.clients.records.now; entries = take t.entries.count t.entries.records.now; bytes = take t.bytes.count t.bytes.records.now }

-- the records in use are lent, or a count is out of range
abbrev pub Lent : Tables → Result View Fault → Type 0
Lent t (Ok v) = (is_counted t ≡ true) × (held v ≡ used t)
Lent t (Err f) = (is_counted t ≡ false) × (f ≡ fault_at OutOfRange Nowhere)

-- Where the run with a unit is.
use Rattle.std.specs.Prelude.{◌≡◌, ℕ, ◌<◌, ◌≤◌, Bool, true, false, ◌&&◌, length, is_some, Some, None, Option, ◌==◌, nat_lt, position}
use Rattle.block.specs.Ids.{offset_in}
use Rattle.block.specs.declared.ids.Id.{Id}
use Rattle.store.specs.declared.records.RunRecord.{RunRecord}
use Rattle.store.specs.Clocks.{end_of}
use Rattle.store.specs.Records.{Store, run_at}

-- the run has the unit
abbrev pub has : Id → RunRecord → Bool
has id r = is_some (offset_in id r.id r.len)

-- the first run that has the unit
abbrev pub find_run : Store → Id → Option ℕ
find_run s id = position (has id) s.runs

-- a listed run of the client that reaches past the clock
abbrev pub is_due : ℕ → ℕ → RunRecord → Bool
is_due c k r = is_some r.list && (r.id.client == c && nat_lt k (end_of r))

-- the client's listed run at the clock, or the next one after it: it is due, and none that is due begins before it
abbrev pub Due : Store → ℕ → ℕ → Option ℕ → Type 0
Due s c k None = (i : ℕ) → i < length s.runs → is_due c k (run_at s i) ≡ false
Due s c k (Some p) = (p < length s.runs) × (is_due c k (run_at s p) ≡ true) × ((i : ℕ) → i < length s.runs → is_due c k (run_at s i) ≡ true → (run_at s p).id.clock ≤ (run_at s i).id.clock)

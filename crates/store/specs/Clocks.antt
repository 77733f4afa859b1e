-- How the runs of one client follow one another.
use Rattle.std.specs.Prelude.{ℕ, ◌+◌, Bool, not, ◌&&◌, ◌||◌, length, ◌==◌, nat_le}
use Rattle.store.specs.declared.records.RunRecord.{RunRecord}
use Rattle.store.specs.First.{all_pass, some_pass}
use Rattle.store.specs.Records.{Store, run_at}

-- the clock after a run's last unit
abbrev pub end_of : RunRecord → ℕ
end_of r = r.id.clock + r.len

-- two runs share no unit
abbrev pub is_clear : RunRecord → RunRecord → Bool
is_clear a b = not (a.id.client == b.id.client) || (nat_le (end_of a) b.id.clock || nat_le (end_of b) a.id.clock)

-- run i shares no unit with another run j
abbrev pub is_clear_at : Store → ℕ → ℕ → Bool
is_clear_at s i j = i == j || is_clear (run_at s i) (run_at s j)

-- the first run begins where the second ends
abbrev pub comes_after : RunRecord → RunRecord → Bool
comes_after a b = a.id.client == b.id.client && end_of b == a.id.clock

-- run i begins where run j ends
abbrev pub comes_after_at : Store → ℕ → ℕ → Bool
comes_after_at s i j = comes_after (run_at s i) (run_at s j)

-- a run overlaps no other of its client, and begins at 0 or at another's end
abbrev pub run_follows_at : Store → ℕ → Bool
run_follows_at s i = all_pass (is_clear_at s i) (length s.runs) && ((run_at s i).id.clock == 0 || some_pass (comes_after_at s i) (length s.runs))

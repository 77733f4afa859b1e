-- How many visible units a list has, and where the runs of a client end.
use Rattle.std.specs.Prelude.{ℕ, zero, suc, ◌+◌, cond, ◌&&◌, ◌==◌, nat_lt}
use Rattle.block.specs.Kinds.{is_counted}
use Rattle.store.specs.declared.records.RunRecord.{RunRecord}
use Rattle.store.specs.Clocks.{end_of}
use Rattle.store.specs.Kinds.{kind_of}
use Rattle.store.specs.Records.{Store, run_at}
use Rattle.links.specs.Walks.{is}

-- the visible units of a run
abbrev pub weight : RunRecord → ℕ
weight r = cond (r.live && is_counted (kind_of r.kind)) r.len 0

-- what a run adds to the length of a list
abbrev pub share : ℕ → RunRecord → ℕ
share l r = cond (is r.list l) (weight r) 0

-- the visible units of a list in the first n runs
unfoldable pub visible_sum : Store → ℕ → ℕ → ℕ
visible_sum s l zero = 0
visible_sum s l (suc n) = visible_sum s l n + share l (run_at s n)

-- a clock, or the end of a run of the client where that is later
abbrev pub later : ℕ → ℕ → RunRecord → ℕ
later c k r = cond (r.id.client == c && nat_lt k (end_of r)) (end_of r) k

-- the clock after a client's last unit in the first n runs
unfoldable pub last_end : Store → ℕ → ℕ → ℕ
last_end s c zero = 0
last_end s c (suc n) = later c (last_end s c n) (run_at s n)

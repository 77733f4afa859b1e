use Rattle.std.proofs.Common.{ℕ, ◌+◌, ◌-◌, ◌≤◌, List, length, take, drop}
use Rattle.block.specs.Units.{UnitOf}
use Rattle.block_iter.specs.Walks.{Sees, Shows, to_go}
use Rattle.block_iter.proofs.position.Position.fill.Given as goal

abbrev pub invariant-loop-used : goal.invariant-loop-used
invariant-loop-used g l =
    (l.used ≤ length l.slots)
    × ((k : ℕ) (vs : List UnitOf) → Sees (g.R.Reader.meaning l.reader) (g.R.Reader.stretch l.reader) k l.fn.self.place l.fn.self.rel vs →
    Shows (g.R.Reader.shown l.reader) (take l.used l.slots) (take l.used vs) × Sees (g.R.Reader.meaning l.reader) (g.R.Reader.stretch l.reader) k l.at.place l.at.rel (drop l.used vs))

abbrev pub decreases-loop-used : goal.decreases-loop-used
decreases-loop-used g l = to_go (g.R.Reader.meaning l.reader) (g.R.Reader.stretch l.reader) l.at.place + (length l.initial.slots - l.used)

use Rattle.std.proofs.Common.{ℕ, ◌+◌, ◌-◌, ◌≤◌, List, drop}
use Rattle.block.specs.Units.{UnitOf}
use Rattle.block_iter.specs.Walks.{Sees, to_go}
use Rattle.block_iter.proofs.position.Position.walk.Given as goal

abbrev pub invariant-loop-left : goal.invariant-loop-left
invariant-loop-left g l =
    (l.left ≤ l.count)
    × ((k : ℕ) (vs : List UnitOf) → Sees (g.R.Reader.meaning l.reader) (g.R.Reader.stretch l.reader) k l.fn.self.place l.fn.self.rel vs → Sees (g.R.Reader.meaning l.reader) (g.R.Reader.stretch l.reader) k l.at.place l.at.rel (drop (l.count - l.left) vs))

abbrev pub decreases-loop-left : goal.decreases-loop-left
decreases-loop-left g l = to_go (g.R.Reader.meaning l.reader) (g.R.Reader.stretch l.reader) l.at.place + l.left

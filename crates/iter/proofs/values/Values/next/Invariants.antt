use Rattle.std.proofs.Common.{◌≡◌}
use Rattle.iter.specs.Ranges.{Course}
use Rattle.iter.specs.Yields.{Still}
use Rattle.iter.proofs.values.Values.next.Given as goal

abbrev pub invariant-loop-value : goal.invariant-loop-value
invariant-loop-value g l =
    (l.self.reader ≡ l.initial.self.reader)
    × ((c : Course _) → g.I.Slices.coming l.initial.self.iter c → Still (g.R.Reader.meaning l.initial.self.reader) (g.R.Reader.stretch l.initial.self.reader) g.I.Slices.coming l.initial.self.current c l.self.iter l.self.current)

abbrev pub decreases-loop-value : goal.decreases-loop-value
decreases-loop-value g l = g.I.Slices.left l.self.iter

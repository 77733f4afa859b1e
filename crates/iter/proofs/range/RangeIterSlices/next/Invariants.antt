use Rattle.std.proofs.Common.{◌≤◌}
use Rattle.iter.specs.Ranges.{Course}
use Rattle.iter.specs.Steps.{Coming}
use Rattle.iter.proofs.range.RangeIterSlices.next.Given as goal

abbrev pub invariant-loop-self : goal.invariant-loop-self
invariant-loop-self g l =
    (g.S.Source.left l.self.iter ≤ g.S.Source.left l.initial.self.iter)
    × ((c : Course _) → Coming g.S.Source.ahead l.initial.self c → Coming g.S.Source.ahead l.self c)

abbrev pub decreases-loop-self : goal.decreases-loop-self
decreases-loop-self g l = g.S.Source.left l.self.iter

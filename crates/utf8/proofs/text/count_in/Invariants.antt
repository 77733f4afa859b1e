use Rattle.std.proofs.Common.{◌-◌, length}
use Rattle.utf8.specs.Rows.{rows}
use Rattle.utf8.proofs.Steps.{Sofar}
use Rattle.utf8.proofs.text.count_in.Given as goal

abbrev pub invariant-loop-at : goal.invariant-loop-at
invariant-loop-at l = Sofar (rows l.planes) l.text l.at l.count

abbrev pub decreases-loop-at : goal.decreases-loop-at
decreases-loop-at l = length l.text - l.at

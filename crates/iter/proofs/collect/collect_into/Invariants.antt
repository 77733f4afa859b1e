use Rattle.iter.specs.Ranges.{Course}
use Rattle.iter.specs.Collects.{Holds}
use Rattle.iter.proofs.collect.collect_into.Given as goal

abbrev pub invariant-loop-used : goal.invariant-loop-used
invariant-loop-used g l = (c : Course _) → g.I.Slices.coming l.initial.iter c → Holds g.I.Slices.coming c l.initial.out l.out l.used l.iter

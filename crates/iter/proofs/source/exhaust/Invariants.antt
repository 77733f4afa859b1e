use Rattle.std.proofs.Common.{List, map}
use Rattle.iter.specs.declared.run.Run.{Run}
use Rattle.iter.specs.Bare.{bare}
use Rattle.iter.proofs.source.exhaust.Given as goal

abbrev pub invariant-loop-run : goal.invariant-loop-run
invariant-loop-run g l =
    g.S.Source.certain l.initial.source → g.S.Source.certain l.source × ((vs : List (Run _)) → g.S.Source.ahead l.source (map bare vs) → (ws : List (Run _)) × g.S.Source.ahead l.initial.source (map bare ws))

abbrev pub decreases-loop-run : goal.decreases-loop-run
decreases-loop-run g l = g.S.Source.left l.source

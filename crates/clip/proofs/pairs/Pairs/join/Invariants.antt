use Rattle.clip.specs.Made.{pairs_of}
use Rattle.clip.proofs.Joining.{Partly}
use Rattle.clip.proofs.pairs.Pairs.join.Given as goal

abbrev pub invariant-loop-p : goal.invariant-loop-p
invariant-loop-p l = Partly l.p-items l.theirs l.p-index (pairs_of l.both)

use Rattle.std.proofs.Common.{refl}
use Rattle.block_iter.proofs.Steps.{opened}
use Rattle.block_iter.proofs.block_iter.BlockIter.open.Goals as goal

pub invariant_of-result : goal.invariant_of-result
invariant_of-result g c = opened _ _ g.R.Reader.settled c.args.reader c.args.list _ _ c.in-Ok.ensures.1 c.in-Ok-first.ensures.1

pub returns : goal.returns
returns g c = (c.in-Ok.ensures.0, refl, refl, refl, opened _ _ g.R.Reader.settled c.args.reader c.args.list _ _ c.in-Ok.ensures.1 c.in-Ok-first.ensures.1)

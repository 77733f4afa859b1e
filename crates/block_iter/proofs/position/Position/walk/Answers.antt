use Rattle.std.proofs.Common.{arith}
use Rattle.block_iter.proofs.Steps.{walk_more}
use Rattle.block_iter.proofs.position.Position.walk.Goals as goal

pub loop-left-preserved : goal.loop-left-preserved
loop-left-preserved g c =
    let s = c.step-next.ensures.passed in
    let few = s.fewer in (
      omega (arith, c.loop-left.invariant.0),
      λ k vs w. walk_more _ _ (g.R.Reader.settled c.args.reader.now) _ _ c.in-Some.is _ _ _ _ _ s k _ _ vs (omega (arith, c.loop-left.invariant.0)) (c.loop-left.invariant.1 k vs w),
    )

use Rattle.std.proofs.Common.{arith}
use Rattle.block_iter.proofs.Fills.{took}
use Rattle.block_iter.proofs.position.Position.read.Goals as goal

pub returns : goal.returns
returns g c =
    let step = c.step-passed.ensures in
    took _ _ (g.R.Reader.settled c.args.reader.now) _ c.args.place c.args.self.rel c.args.slots.now c.read-n.new.slots _ _ c.read-n.auto.slots c.read-n.ensures step.passed.fewer _ _ step.passed (omega (arith, c.if-passed-eq0.false)) step.most

use Rattle.std.proofs.Common.{arith, length-take}
use Rattle.sample.proofs.Runs.{read_more}
use Rattle.sample.proofs.sample.SampleReader.read.Goals as goal

pub loop-i-preserved : goal.loop-i-preserved
loop-i-preserved c =
    let few = length-take c.min-many.result c.args.slots.now in
    read_more c.args.place c.args.offset c.loop-i.i c.loop-i.slot-items c.slot_at.result c.slot_at.ensures (omega arith) (omega arith) c.loop-i.invariant

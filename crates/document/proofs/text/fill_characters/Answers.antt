use Rattle.std.proofs.Common.{◌<◌, length, arith}
use Rattle.document.proofs.Walked.{here, stepped}
use Rattle.document.proofs.text.fill_characters.Goals as goal

pub loop-slot-preserved : goal.loop-slot-preserved
loop-slot-preserved c =
    let lt : c.loop-slot.slot-index < length c.args.slots.now = omega (arith, c.loop-slot-test.true, c.loop-slot.auto.slots) in
    stepped c.args.text.now c.args.start c.args.from (length c.args.slots.now) c.requires.spelled c.requires.room.0 c.loop-slot.slot-index c.loop-slot.at c.length_here-len.result _ c.loop-slot.slots (omega (arith, c.loop-slot-test.true)) c.loop-slot.invariant (here c.args.text.now c.args.start c.args.from (length c.args.slots.now) c.requires.spelled c.requires.room.0 c.loop-slot.slot-index c.loop-slot.at c.length_here-len.result lt c.loop-slot.invariant.1 c.length_here-len.ensures)

pub overflow_cast-slot : goal.overflow_cast-slot
overflow_cast-slot c =
    let lt : c.loop-slot.slot-index < length c.args.slots.now = omega (arith, c.loop-slot-test.true, c.loop-slot.auto.slots) in
    omega (arith, (here c.args.text.now c.args.start c.args.from (length c.args.slots.now) c.requires.spelled c.requires.room.0 c.loop-slot.slot-index c.loop-slot.at c.length_here-len.result lt c.loop-slot.invariant.1 c.length_here-len.ensures).inside, c.requires.room.1)

pub overflow_add-slot : goal.overflow_add-slot
overflow_add-slot c =
    let lt : c.loop-slot.slot-index < length c.args.slots.now = omega (arith, c.loop-slot-test.true, c.loop-slot.auto.slots) in
    omega (arith, (here c.args.text.now c.args.start c.args.from (length c.args.slots.now) c.requires.spelled c.requires.room.0 c.loop-slot.slot-index c.loop-slot.at c.length_here-len.result lt c.loop-slot.invariant.1 c.length_here-len.ensures).inside, c.requires.room.1)

pub overflow_cast-slot-in-loop-slot : goal.overflow_cast-slot-in-loop-slot
overflow_cast-slot-in-loop-slot c =
    let lt : c.loop-slot.slot-index < length c.args.slots.now = omega (arith, c.loop-slot-test.true, c.loop-slot.auto.slots) in
    omega (arith, (here c.args.text.now c.args.start c.args.from (length c.args.slots.now) c.requires.spelled c.requires.room.0 c.loop-slot.slot-index c.loop-slot.at c.length_here-len.result lt c.loop-slot.invariant.1 c.length_here-len.ensures).inside, c.requires.room.1)

pub overflow_add-at : goal.overflow_add-at
overflow_add-at c =
    let lt : c.loop-slot.slot-index < length c.args.slots.now = omega (arith, c.loop-slot-test.true, c.loop-slot.auto.slots) in
    omega (arith, (here c.args.text.now c.args.start c.args.from (length c.args.slots.now) c.requires.spelled c.requires.room.0 c.loop-slot.slot-index c.loop-slot.at c.length_here-len.result lt c.loop-slot.invariant.1 c.length_here-len.ensures).inside, c.requires.room.1)

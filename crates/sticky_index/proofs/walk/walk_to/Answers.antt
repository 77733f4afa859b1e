use Rattle.std.proofs.Common.{subst}
use Rattle.reader.specs.Answers.{Onward}
use Rattle.sticky_index.proofs.Walks.{on_unit, on_last, on_end, on_none}
use Rattle.sticky_index.proofs.walk.walk_to.Goals as goal

pub returns-in_default-describe : goal.returns-in_default-describe
returns-in_default-describe g c k b =
    let s = c.args.reader.now in
    let st = g.R.Reader.stretch s in
    let m = g.R.Reader.meaning s in
    let i = c.loop-at.invariant k b in
    absurd (on_none m st (g.R.Reader.lawful s) (g.R.Reader.settled s) c.in-Some.p k i.0 _ (subst (Onward m st k i.0) c.in-Some.is i.1) c.describe.ensures c.in_default-describe.is)

pub returns-then-left-n : goal.returns-then-left-n
returns-then-left-n g c k b =
    let s = c.args.reader.now in
    let st = g.R.Reader.stretch s in
    let m = g.R.Reader.meaning s in
    let i = c.loop-at.invariant k b in
    on_unit m st (g.R.Reader.lawful s) (g.R.Reader.settled s) c.in-Some.p c.in-Some-describe.run' k i.0 c.loop-at.left c.args.index c.visible_len-n.result c.unit_of.result
    (subst (Onward m st k i.0) c.in-Some.is i.1) c.in-Some-describe.ensures i.2 c.visible_len-n.ensures c.if-left-n.true c.unit_of.ensures

pub loop-at-preserved : goal.loop-at-preserved
loop-at-preserved g c k b =
    let s = c.args.reader.now in
    let st = g.R.Reader.stretch s in
    let m = g.R.Reader.meaning s in
    let i = c.loop-at.invariant k b in
    on_last m st (g.R.Reader.lawful s) (g.R.Reader.settled s) c.in-Some.p c.in-Some-describe.run' k i.0 c.loop-at.left c.args.index c.visible_len-n.result c.unit_of-in-Some.result c.right-at.result
    (subst (Onward m st k i.0) c.in-Some.is i.1) c.in-Some-describe.ensures i.2 c.visible_len-n.ensures c.if-left-n.false c.unit_of-in-Some.ensures c.right-at.ensures

pub returns : goal.returns
returns g c k b =
    let s = c.args.reader.now in
    let st = g.R.Reader.stretch s in
    let m = g.R.Reader.meaning s in
    let i = c.loop-at.invariant k b in
    on_end m st (g.R.Reader.lawful s) (g.R.Reader.settled s) k i.0 c.loop-at.left c.args.index c.loop-at.last (subst (Onward m st k i.0) c.in_default.is i.1) i.2 i.3

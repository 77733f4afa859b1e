use Rattle.std.proofs.Common.{◌≡◌, ◌≤◌, length, rules, arith, length-drop, length-take}
use borrow.Rule.Slice.PartMut.{same_len_mid}
use Rattle.block_iter.proofs.Fills.{fill_more, fill_out}
use Rattle.block_iter.proofs.position.Position.fill.Goals as goal

pub loop-used-preserved : goal.loop-used-preserved
loop-used-preserved g c =
    let (most, inv) = c.loop-used.invariant in
    let took = c.read-next.ensures in
    let few = simp (length-take, length-drop) at took.stepped.fewer in
    let long = same_len_mid c.loop-used.used _ c.loop-used.slots c.read-next.new.slots c.read-next.auto.slots in (
      omega arith,
      λ k vs w. fill_more _ _ (g.R.Reader.settled c.args.reader.now) _ c.loop-used.slots _ c.read-next.new.slots c.loop-used.used _ _ _ _ _ _ _ c.in-Some.is took most c.read-next.auto.slots k vs (inv k vs w),
    )

pub returns-in_default : goal.returns-in_default
returns-in_default g c l vs w room =
    let law = g.R.Reader.settled c.args.reader.now in
    let (most, inv) = c.loop-used.invariant in
    let here = inv l vs w in
    let out : length vs ≤ c.loop-used.used = fill_out _ _ law (g.R.Reader.shown c.args.reader.now) _ c.in_default.is _ _ l vs here.1 in
    let all : c.loop-used.used ≡ length c.loop-used.slots = omega arith in
    search rules

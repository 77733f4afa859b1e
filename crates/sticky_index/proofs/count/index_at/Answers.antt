use Rattle.std.proofs.Common.{sym, ◌∙◌, arith}
use Rattle.sticky_index.proofs.Counts.{index_fits, index_here}
use Rattle.sticky_index.proofs.count.index_at.Goals as goal

pub overflow_add-index : goal.overflow_add-index
overflow_add-index g c =
    let s = c.args.reader.now in
    omega (arith, index_fits _ _ (g.R.Reader.lawful s) (g.R.Reader.settled s) c.args.seat c.args.assoc _ _ c.visible_before-n.ensures c.reached-here.ensures c.requires)

pub returns-then-is_upheld : goal.returns-then-is_upheld
returns-then-is_upheld g c =
    let s = c.args.reader.now in
    index_here _ _ (g.R.Reader.lawful s) (g.R.Reader.settled s) c.args.seat c.args.assoc _ _ c.visible_before-n.ensures c.reached-here.ensures (sym c.is_upheld.ensures ∙ c.if-is_upheld.true)

use Rattle.std.proofs.Common.{sym, ◌∙◌}
use Rattle.iter.proofs.Worths.{hidden_value, shown_value}
use Rattle.iter.proofs.unit.first_value.Goals as goal

pub returns-then-is_visible : goal.returns-then-is_visible
returns-then-is_visible g c = shown_value _ _ (g.R.Reader.settled c.args.reader.now) _ c.args.slice _ c.in_ok-run.ensures (sym c.is_visible.ensures ∙ c.if-is_visible.true) c.value.result c.value.ensures

pub returns-else-is_visible : goal.returns-else-is_visible
returns-else-is_visible g c = hidden_value _ _ (g.R.Reader.settled c.args.reader.now) (g.R.Reader.shown c.args.reader.now) c.args.slice _ c.in_ok-run.ensures (sym c.is_visible.ensures ∙ c.if-is_visible.false)

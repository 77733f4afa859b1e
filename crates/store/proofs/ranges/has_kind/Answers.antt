use Rattle.std.proofs.Common.{◌∙◌}
use Rattle.store.proofs.Numbers.{kind_ok}
use Rattle.store.proofs.ranges.has_kind.Goals as goal

pub returns : goal.returns
returns c = c.is_ok.ensures.value ∙ kind_ok c.args.run.kind _ c.try_from.ensures

use Rattle.std.proofs.Common.{◌∙◌}
use Rattle.store.proofs.Numbers.{kind_from}
use Rattle.store.proofs.records.RunRecord.kind.Goals as goal

pub returns : goal.returns
returns c = c.unwrap_or.ensures ∙ kind_from c.args.self.kind _ c.try_from.ensures

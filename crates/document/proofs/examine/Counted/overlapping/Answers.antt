use Rattle.store.specs.Records.{held}
use Rattle.document.proofs.Few.{few, found_small}
use Rattle.document.proofs.examine.Counted.overlapping.Goals as goal

pub report-requires-clause-small : goal.report-requires-clause-small
report-requires-clause-small c = found_small _ _ _ c.first_overlap.ensures (few (held c.args.self.now.view.now) c.args.self.now.counts).runs

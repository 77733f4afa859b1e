use Rattle.store.specs.Records.{held}
use Rattle.document.proofs.Few.{few, found_small}
use Rattle.document.proofs.examine.Counted.disagreeing.Goals as goal

pub report-requires-clause-small : goal.report-requires-clause-small
report-requires-clause-small c = found_small _ _ _ c.first_run.ensures (few (held c.args.self.now.view.now) c.args.self.now.counts).runs

pub report-requires-2-clause-small : goal.report-requires-2-clause-small
report-requires-2-clause-small c = found_small _ _ _ c.first_list.ensures (few (held c.args.self.now.view.now) c.args.self.now.counts).lists

pub report-requires-3-clause-small : goal.report-requires-3-clause-small
report-requires-3-clause-small c = found_small _ _ _ c.first_client.ensures (few (held c.args.self.now.view.now) c.args.self.now.counts).clients

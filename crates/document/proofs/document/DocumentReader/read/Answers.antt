use Rattle.std.proofs.Common.{length, ap, ◌∙◌}
use Rattle.store.specs.declared.records.RunRecord.{RunRecord}
use Rattle.store.specs.Records.{held}
use Rattle.document.specs.PassingFacts.{passing_from}
use Rattle.document.specs.Slots.{count_from}
use Rattle.document.proofs.Readings.{read_is}
use Rattle.document.proofs.document.DocumentReader.read.Goals as goal

pub returns : goal.returns
returns c = read_is (held c.args.self.now.view.now) (passing_from (held c.args.self.now.view.now) c.args.self.now.shape) c.args.place c.args.offset c.count_from-n.result _ _ (c.count_from-n.ensures ∙ ap (λ (r : RunRecord). count_from r c.args.offset (length c.args.slots.now)) c.run.ensures) c.fill.ensures

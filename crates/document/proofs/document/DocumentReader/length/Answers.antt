use Rattle.std.proofs.Common.{ap, sym, ◌∙◌}
use Rattle.store.specs.declared.records.ListRecord.{ListRecord}
use Rattle.store.specs.Records.{held}
use Rattle.document.specs.LengthFacts.{counted_is}
use Rattle.document.specs.SoundFacts.{sound_from}
use Rattle.document.proofs.document.DocumentReader.length.Goals as goal

pub returns : goal.returns
returns c =
    let s = (sound_from (held c.args.self.now.view.now) c.args.self.now.shape) in
    let lt = c.in_ok-record_of.ensures.0 in
    (lt, ap (λ (r : ListRecord). r.len) c.in_ok-record_of.ensures.1 ∙ s.stored c.args.list lt ∙ sym (counted_is (held c.args.self.now.view.now) s c.args.list lt))

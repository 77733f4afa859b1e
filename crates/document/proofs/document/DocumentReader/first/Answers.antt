use Rattle.std.proofs.Common.{ap, sym}
use Rattle.store.specs.declared.records.ListRecord.{ListRecord}
use Rattle.store.specs.Records.{held}
use Rattle.document.specs.LawFacts.{leftmost_is}
use Rattle.document.specs.SoundFacts.{sound_from}
use Rattle.document.proofs.document.DocumentReader.first.Goals as goal

pub returns : goal.returns
returns c =
    (c.in_ok-record_of.ensures.0, leftmost_is (held c.args.self.now.view.now) (sound_from (held c.args.self.now.view.now) c.args.self.now.shape) c.args.list c.in_ok-record_of.ensures.0 c.in_ok-record_of.field-0.start (ap (λ (r : ListRecord). r.start) (sym c.in_ok-record_of.ensures.1)))

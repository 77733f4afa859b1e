use Rattle.std.proofs.Common.{subst, sym}
use Rattle.reader.specs.Answers.{Right}
use Rattle.store.specs.declared.records.RunRecord.{RunRecord}
use Rattle.store.specs.Records.{held, no_run}
use Rattle.document.specs.FindFacts.{got}
use Rattle.document.specs.Meaning.{meaning_of, stretch_of}
use Rattle.document.specs.ReadingFacts.{right_is}
use Rattle.document.specs.SoundFacts.{sound_from}
use Rattle.document.proofs.document.DocumentReader.right.Goals as goal

pub returns : goal.returns
returns c =
    let g = got c.args.self.now.view.now.runs.now c.args.place c.in_ok-get.field-0.now no_run c.in_ok-get.ensures.lookup.0 c.in_ok-get.ensures.lookup.1 in
    subst (λ (r : RunRecord). Right (meaning_of (held c.args.self.now.view.now)) (stretch_of (held c.args.self.now.view.now)) c.args.place r.right) (sym g.1) (right_is (held c.args.self.now.view.now) (sound_from (held c.args.self.now.view.now) c.args.self.now.shape) c.args.place g.0)

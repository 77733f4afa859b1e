use Rattle.std.proofs.Common.{Some, ap, subst, sym, ◌∙◌}
use Rattle.reader.specs.Answers.{Described}
use Rattle.store.specs.Kinds.{kind_of}
use Rattle.store.specs.declared.records.RunRecord.{RunRecord}
use Rattle.store.specs.Records.{held, no_run}
use Rattle.document.specs.FindFacts.{got}
use Rattle.document.specs.Meaning.{meaning_of, stretch_of}
use Rattle.document.specs.ReadingFacts.{described_is}
use Rattle.document.specs.SoundFacts.{sound_from}
use Rattle.document.proofs.document.DocumentReader.describe.Goals as goal

pub returns : goal.returns
returns c =
    let g = got c.args.self.now.view.now.runs.now c.args.place c.in_ok-run.run'.now no_run c.in_ok-run.ensures.lookup.0 c.in_ok-run.ensures.lookup.1 in
    subst (λ (r : RunRecord). Described (meaning_of (held c.args.self.now.view.now)) (stretch_of (held c.args.self.now.view.now) c.args.place) (Some (record { id = r.id; len = r.len; kind = c.kind.result; live = r.live; list = c.in_ok-list.list; redone = r.redone }))) (sym g.1)
    (described_is (held c.args.self.now.view.now) (sound_from (held c.args.self.now.view.now) c.args.self.now.shape) c.args.place c.in_ok-list.list c.kind.result g.0 (ap (λ (r : RunRecord). r.list) (sym g.1) ∙ c.in_ok-list.was) (c.kind.ensures ∙ ap (λ (r : RunRecord). kind_of r.kind) g.1))

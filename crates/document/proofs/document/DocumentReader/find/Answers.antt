use Rattle.std.proofs.Common.{ℕ, ◌-◌, Some, Option, sym, ap, ◌∙◌, subst, arith}
use Rattle.reader.specs.Answers.{Found}
use Rattle.store.specs.declared.records.RunRecord.{RunRecord}
use Rattle.store.specs.Records.{held}
use Rattle.document.specs.LawFacts.{found_none, found_has, found_apart, found_some}
use Rattle.document.specs.Meaning.{meaning_of, stretch_of}
use Rattle.document.specs.PassingFacts.{passing_from}
use Rattle.document.specs.SoundFacts.{sound_from}
use Rattle.document.proofs.Few.{few}
use Rattle.document.proofs.document.DocumentReader.find.Goals as goal

pub returns-in_err-place : goal.returns-in_err-place
returns-in_err-place c = subst (λ (o : Option (ℕ × ℕ)). Found (meaning_of (held c.args.self.now.view.now)) (stretch_of (held c.args.self.now.view.now)) c.args.id o) (sym c.from_residual.ensures) (found_none (held c.args.self.now.view.now) (sound_from (held c.args.self.now.view.now) c.args.self.now.shape) c.args.id (sym c.in_err-place.ensures))

pub returns-in_err-run : goal.returns-in_err-run
returns-in_err-run c = subst (λ (o : Option (ℕ × ℕ)). Found (meaning_of (held c.args.self.now.view.now)) (stretch_of (held c.args.self.now.view.now)) c.args.id o) (sym c.from_residual-in_err-run.ensures) (found_apart (held c.args.self.now.view.now) (sound_from (held c.args.self.now.view.now) c.args.self.now.shape) c.args.id c.in_ok-place.place (sym c.in_ok-place.ensures) (ap (λ (r : RunRecord). r.list) (sym c.run-run.ensures) ∙ c.in_err-run.was))

pub overflow_cast-result : goal.overflow_cast-result
overflow_cast-result c = omega (arith, (found_has (held c.args.self.now.view.now) (sound_from (held c.args.self.now.view.now) c.args.self.now.shape) c.args.id c.in_ok-place.place (sym c.in_ok-place.ensures)).0, (few (held c.args.self.now.view.now) (passing_from (held c.args.self.now.view.now) c.args.self.now.shape).counts).runs)

pub overflow_sub-result : goal.overflow_sub-result
overflow_sub-result c = omega (arith, (found_has (held c.args.self.now.view.now) (sound_from (held c.args.self.now.view.now) c.args.self.now.shape) c.args.id c.in_ok-place.place (sym c.in_ok-place.ensures)).1.from, ap (λ (r : RunRecord). r.id.clock) c.run-run.ensures)

pub returns : goal.returns
returns c =
    subst (λ (r : RunRecord). Found (meaning_of (held c.args.self.now.view.now)) (stretch_of (held c.args.self.now.view.now)) c.args.id (Some (c.in_ok-place.place, c.args.id.clock - r.id.clock))) (sym c.run-run.ensures)
    (found_some (held c.args.self.now.view.now) (sound_from (held c.args.self.now.view.now) c.args.self.now.shape) c.args.id c.in_ok-place.place c.in_ok-run.field-0 (sym c.in_ok-place.ensures) (ap (λ (r : RunRecord). r.list) (sym c.run-run.ensures) ∙ c.in_ok-run.was))

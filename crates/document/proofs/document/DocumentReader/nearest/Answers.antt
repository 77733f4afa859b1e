use Rattle.std.proofs.Common.{ℕ, Option, sym, subst, arith}
use Rattle.reader.specs.Answers.{Nearest}
use Rattle.store.specs.Records.{held}
use Rattle.document.specs.Meaning.{meaning_of, stretch_of}
use Rattle.document.specs.PassingFacts.{passing_from}
use Rattle.document.specs.SoundFacts.{sound_from}
use Rattle.document.proofs.Few.{few}
use Rattle.document.proofs.Nearest.{nearest_none, nearest_some}
use Rattle.document.proofs.document.DocumentReader.nearest.Goals as goal

pub returns-in_err-due_run : goal.returns-in_err-due_run
returns-in_err-due_run c = subst (λ (o : Option ℕ). Nearest (meaning_of (held c.args.self.now.view.now)) (stretch_of (held c.args.self.now.view.now)) c.args.client c.args.clock o) (sym c.from_residual.ensures) (nearest_none (held c.args.self.now.view.now) (sound_from (held c.args.self.now.view.now) c.args.self.now.shape) c.args.client c.args.clock c.in_err-due_run.ensures)

pub overflow_cast-result : goal.overflow_cast-result
overflow_cast-result c = omega (arith, c.in_ok-due_run.ensures.0, (few (held c.args.self.now.view.now) (passing_from (held c.args.self.now.view.now) c.args.self.now.shape).counts).runs)

pub returns : goal.returns
returns c = nearest_some (held c.args.self.now.view.now) (sound_from (held c.args.self.now.view.now) c.args.self.now.shape) c.args.client c.args.clock c.in_ok-due_run.field-0 c.in_ok-due_run.ensures

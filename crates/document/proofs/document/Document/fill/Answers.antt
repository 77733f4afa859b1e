use Rattle.std.proofs.Common.{length, sym, ap, ◌∙◌, arith}
use Rattle.store.specs.declared.records.RunRecord.{RunRecord}
use Rattle.store.specs.First.{first_bad, failing}
use Rattle.store.specs.Kinds.{kind_of}
use Rattle.store.specs.Records.{held}
use Rattle.links.specs.Links.{held_by_at}
use Rattle.document.specs.PassingFacts.{passing_from}
use Rattle.document.proofs.Few.{few, found_below}
use Rattle.document.proofs.Filling.{in_use}
use Rattle.document.proofs.Shown.{holds_some}
use Rattle.document.proofs.document.Document.fill.Goals as goal

pub overflow_cast-l : goal.overflow_cast-l
overflow_cast-l c = omega (arith, found_below _ _ c.in-Some.l c.in-Some.ensures (few (held c.args.self.now.view.now) (passing_from (held c.args.self.now.view.now) c.args.self.now.shape).counts).lists)

pub returns-in_default : goal.returns-in_default
returns-in_default c =
    absurd
    (holds_some (held c.args.self.now.view.now) (passing_from (held c.args.self.now.view.now) c.args.self.now.shape) c.args.place (in_use (held c.args.self.now.view.now) c.args.place c.args.offset (length c.args.slots.now) _ c.requires (λ z. grind (arith, z, c.is_empty.ensures, c.if-is_empty.false)))
    (sym (c.in-List.ensures ∙ ap (λ (r : RunRecord). kind_of r.kind) c.run-run.ensures))
    (ap (λ (r : RunRecord). first_bad (failing (held_by_at (held c.args.self.now.view.now) r.id)) (length (held c.args.self.now.view.now).lists)) (sym c.run-run.ensures) ∙ sym c.in_default.ensures))

use Rattle.std.proofs.Common.{ap, ◌∙◌}
use Rattle.array.proofs.Elements.{yields_none, yields_some}
use Rattle.array.proofs.array.ArrayIterIterator.next.Goals as goal

pub returns-in_err-slot-clause-next : goal.returns-in_err-slot-clause-next
returns-in_err-slot-clause-next g c = yields_none (λ s. g.R.Reader.meaning s.now) (λ s. g.R.Reader.stretch s.now) (λ s. g.R.Reader.shown s.now) _ _ _ c.from_residual.ensures c.in_err-slot.ensures.next

pub returns-clause-next : goal.returns-clause-next
returns-clause-next g c = yields_some (λ s. g.R.Reader.meaning s.now) (λ s. g.R.Reader.stretch s.now) (λ s. g.R.Reader.shown s.now) _ _ c.in_ok-slot.slot _ (c.show.ensures ∙ ap (λ s. g.R.Reader.shown s.now c.in_ok-slot.slot) c.reader-reader.ensures) c.in_ok-slot.ensures.next

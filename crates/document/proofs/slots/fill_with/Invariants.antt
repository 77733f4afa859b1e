use Rattle.document.specs.Slots.{Written}
use Rattle.document.proofs.slots.fill_with.Given as goal

abbrev pub invariant-loop-k : goal.invariant-loop-k
invariant-loop-k g l = Written (goal.F-post g l.slot) l.k l.initial.slots l.slots

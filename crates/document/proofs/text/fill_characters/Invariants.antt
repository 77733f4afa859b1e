use Rattle.std.proofs.Common.{length}
use Rattle.document.proofs.Walked.{Walked}
use Rattle.document.proofs.text.fill_characters.Given as goal

abbrev pub invariant-loop-slot : goal.invariant-loop-slot
invariant-loop-slot l = Walked l.text l.start l.from (length l.initial.slots) l.slot-index l.at l.initial.slots l.slots

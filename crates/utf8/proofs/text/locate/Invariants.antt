use Rattle.utf8.specs.Table.{utf8_char}
use Rattle.utf8.proofs.Steps.{Sofar}
use Rattle.utf8.proofs.text.locate.Given as goal

abbrev pub invariant-loop : goal.invariant-loop
invariant-loop l = Sofar utf8_char l.text l.at l.counter

use Rattle.store.specs.Records.{held}
use Rattle.document.specs.PassingFacts.{accepts_none}
use Rattle.document.proofs.Verdicts.{no_fault_from}
use Rattle.document.proofs.document.Document.examine.Goals as goal

pub invariant_of-result : goal.invariant_of-result
invariant_of-result c = record { shape = accepts_none (held c.args.view.now) (no_fault_from _ c.in_ok-verdict.ensures) }

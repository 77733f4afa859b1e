-- Tables whose records pass their tests have no fault.
use Rattle.std.proofs.Common.{◌≡◌, ℕ, None, Option, refl}
use Rattle.std.proofs.lemmas.Bool.{cond-true}
use Rattle.std.specs.Option.{option_or}
use Rattle.block.specs.declared.fault.Code.{Code}
use Rattle.block.specs.declared.fault.Fault.{Fault}
use Rattle.block.specs.declared.fault.Spot.{Spot}
use Rattle.store.specs.FirstFacts.{all_none}
use Rattle.store.specs.Limits.{counts_fit}
use Rattle.store.specs.Records.{Store}
use Rattle.document.specs.Examined.{report, crowded, out_of_range, overlapping, disagreeing, misfilled, examined}
use Rattle.document.specs.PassingFacts.{Passing}

either_from : (a b : Option Fault) → a ≡ None → b ≡ None → option_or a b ≡ None
either_from a b e f = rw e f

report_from : (k : Code) (t : ℕ → Spot) (o : Option ℕ) (rest : Option Fault) → o ≡ None → rest ≡ None → report k t o rest ≡ None
report_from k t o rest e f = rw e f

pub no_fault : (s : Store) → Passing s → examined s ≡ None
unfolding examined
no_fault s p =
    either_from (crowded s) _ (cond-true (counts_fit s) _ _ p.counts)
    (either_from (out_of_range s) _ (report_from _ _ _ _ (all_none _ _ p.run_fits) (report_from _ _ _ _ (all_none _ _ p.list_fits) (report_from _ _ _ _ (all_none _ _ p.client_fits) (report_from _ _ _ _ (all_none _ _ p.entry_fits) refl))))
    (either_from (overlapping s) _ (report_from _ _ _ _ (all_none _ _ p.run_follows) refl)
    (either_from (disagreeing s) (misfilled s) (report_from _ _ _ _ (all_none _ _ p.run_agrees) (report_from _ _ _ _ (all_none _ _ p.list_agrees) (report_from _ _ _ _ (all_none _ _ p.client_agrees) refl)))
    (report_from _ _ _ _ (all_none _ _ p.run_filled) (report_from _ _ _ _ (all_none _ _ p.entry_serves) (report_from _ _ _ _ (all_none _ _ p.byte_serves) refl))))))

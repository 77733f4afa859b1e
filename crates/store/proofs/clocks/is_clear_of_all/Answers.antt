use Rattle.std.proofs.Common.{rules, tests, ℕ, ◌||◌, ◌==◌}
use Rattle.std.proofs.lemmas.Iterator.{YieldsList-from_slice}
use Rattle.std.proofs.lemmas.Iterator.Consumers.{YieldsList-from_enumerate}
use Rattle.store.specs.declared.records.RunRecord.{RunRecord}
use Rattle.store.specs.FirstLists.{all_numbered}
use Rattle.store.specs.Records.{held, no_run, run_at}
use Rattle.store.specs.Clocks.{is_clear}
use Rattle.store.proofs.clocks.is_clear_of_all.Goals as goal

pub returns : goal.returns
returns c =
    let s = held c.args.view.now in
    all_numbered (λ (e : ℕ × RunRecord). c.args.i == e.0 || is_clear (run_at s c.args.i) e.1) no_run s.runs _ _ _ c.all.ensures.ran (YieldsList-from_enumerate (YieldsList-from_slice _ (cc)) (cc)) (λ x b q k. search (rules, tests))

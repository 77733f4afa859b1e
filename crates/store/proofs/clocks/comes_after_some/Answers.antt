use Rattle.std.proofs.Common.{rules, tests}
use Rattle.std.proofs.lemmas.Iterator.{YieldsList-from_slice}
use Rattle.store.specs.FirstLists.{some_any}
use Rattle.store.specs.Records.{held, no_run, run_at}
use Rattle.store.specs.Clocks.{comes_after}
use Rattle.store.proofs.clocks.comes_after_some.Goals as goal

pub returns : goal.returns
returns c =
    let s = held c.args.view.now in
    some_any (comes_after (run_at s c.args.i)) no_run s.runs _ _ _ c.any.ensures.ran (YieldsList-from_slice _ (cc)) (λ x b q k. search (rules, tests))

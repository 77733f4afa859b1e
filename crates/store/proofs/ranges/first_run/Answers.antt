use Rattle.std.proofs.Common.{rules, tests}
use Rattle.std.proofs.lemmas.Iterator.{YieldsList-from_slice}
use Rattle.store.specs.FirstLists.{first_position}
use Rattle.store.specs.Records.{held, no_run}
use Rattle.store.specs.Ranges.{run_fits}
use Rattle.store.proofs.ranges.first_run.Goals as goal

pub returns : goal.returns
returns c =
    let s = held c.args.view.now in
    first_position (run_fits s) no_run s.runs _ _ _ c.position.ensures.ran (YieldsList-from_slice _ (cc)) (λ x b q k. search (rules, tests))

use Rattle.std.proofs.Common.{rules, tests}
use Rattle.std.proofs.lemmas.Iterator.{YieldsList-from_slice}
use Rattle.store.specs.declared.records.RunRecord.{RunRecord}
use Rattle.store.specs.FirstLists.{some_any}
use Rattle.store.specs.Records.{held, no_run}
use Rattle.links.specs.Links.{is_holder}
use Rattle.links.proofs.holders.some_holds.Goals as goal

pub returns : goal.returns
returns c =
    let s = held c.args.view.now in
    some_any (λ (r : RunRecord). is_holder r c.args.id) no_run s.runs _ _ _ c.any.ensures.ran (YieldsList-from_slice _ (cc)) (λ x b q k. search (rules, tests))

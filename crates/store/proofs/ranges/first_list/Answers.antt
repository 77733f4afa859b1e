use Rattle.std.proofs.Common.{rules, tests}
use Rattle.std.proofs.lemmas.Iterator.{YieldsList-from_slice}
use Rattle.store.specs.FirstLists.{first_position}
use Rattle.store.specs.Records.{held, no_list}
use Rattle.store.specs.Ranges.{list_fits}
use Rattle.store.proofs.ranges.first_list.Goals as goal

pub returns : goal.returns
returns c =
    let s = held c.args.view.now in
    first_position (list_fits s) no_list s.lists _ _ _ c.position.ensures.ran (YieldsList-from_slice _ (cc)) (λ x b q k. search (rules, tests))

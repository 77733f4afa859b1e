use Rattle.std.proofs.Common.{rules, tests, ◌==◌}
use Rattle.std.proofs.lemmas.Iterator.{YieldsList-from_slice}
use Rattle.store.specs.declared.records.ClientRecord.{ClientRecord}
use Rattle.store.specs.FirstLists.{some_any}
use Rattle.store.specs.Records.{held, no_client}
use Rattle.links.proofs.agree.is_recorded.Goals as goal

pub returns : goal.returns
returns c =
    let s = held c.args.view.now in
    some_any (λ (r : ClientRecord). r.client == c.args.client) no_client s.clients _ _ _ c.any.ensures.ran (YieldsList-from_slice _ (cc)) (λ x b q k. search (rules, tests))

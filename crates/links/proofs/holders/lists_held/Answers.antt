use Rattle.std.proofs.Common.{rules, tests}
use Rattle.std.proofs.lemmas.Iterator.{YieldsList-from_slice}
use Rattle.std.proofs.lemmas.Iterator.Consumers.{YieldsList-from_filter}
use Rattle.store.specs.declared.records.ListRecord.{ListRecord}
use Rattle.store.specs.FirstLists.{passing_count}
use Rattle.store.specs.Records.{held, no_list}
use Rattle.links.specs.Links.{is_id}
use Rattle.links.proofs.holders.lists_held.Goals as goal

pub returns : goal.returns
returns c =
    let s = held c.args.view.now in
    passing_count (λ (l : ListRecord). is_id l.holder c.args.id) no_list s.lists c.filter.result _ c.count.ensures.ran
    (YieldsList-from_filter _ _ (YieldsList-from_slice s.lists (cc)) c.filter.ensures.closure (λ x b q k. search (rules, tests)))

use Rattle.std.proofs.Common.{rules, tests, not}
use Rattle.std.proofs.lemmas.Iterator.{YieldsList-from_slice}
use Rattle.store.specs.declared.records.ListRecord.{ListRecord}
use Rattle.store.specs.FirstLists.{first_position}
use Rattle.store.specs.Records.{held, no_list}
use Rattle.links.specs.Links.{is_id}
use Rattle.links.proofs.holders.list_held.Goals as goal

pub returns : goal.returns
returns c =
    let s = held c.args.view.now in
    first_position (λ (l : ListRecord). not (is_id l.holder c.args.id)) no_list s.lists _ _ _ c.position.ensures.ran (YieldsList-from_slice _ (cc)) (λ x b q k. search (rules, tests))

use Rattle.std.proofs.Common.{rules, tests, not, ◌==◌, arith}
use Rattle.std.proofs.lemmas.Iterator.{YieldsList-from_slice}
use Rattle.store.specs.declared.records.ClientRecord.{ClientRecord}
use Rattle.store.specs.FirstLists.{all_taken}
use Rattle.store.specs.Records.{held, no_client, client_at}
use Rattle.store.proofs.ranges.is_new.Goals as goal

pub returns : goal.returns
returns c =
    let s = held c.args.view.now in
    all_taken (λ (r : ClientRecord). not (r.client == (client_at s c.args.i).client)) no_client s.clients c.args.i (omega arith) _ _ _ c.all.ensures.ran (YieldsList-from_slice _ (cc)) (λ x b q k. search (rules, tests))

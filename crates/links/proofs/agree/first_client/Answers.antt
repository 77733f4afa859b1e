use Rattle.std.proofs.Common.{rules, tests}
use Rattle.std.proofs.lemmas.Iterator.{YieldsList-from_slice}
use Rattle.store.specs.FirstLists.{first_position}
use Rattle.store.specs.Records.{held, no_client}
use Rattle.links.specs.Links.{client_agrees}
use Rattle.links.proofs.agree.first_client.Goals as goal

pub returns : goal.returns
returns c =
    let s = held c.args.view.now in
    first_position (client_agrees s) no_client s.clients _ _ _ c.position.ensures.ran (YieldsList-from_slice _ (cc)) (λ x b q k. search (rules, tests))

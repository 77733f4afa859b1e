use Rattle.std.proofs.Common.{rules, tests, refl}
use Rattle.store.specs.FirstLists.{first_find}
use Rattle.store.specs.Records.{held}
use Rattle.links.specs.Links.{list_agrees_at}
use Rattle.links.proofs.agree.first_list.Goals as goal

pub returns : goal.returns
returns c = first_find (list_agrees_at (held c.args.view.now)) _ refl _ _ _ c.find.ensures.ran (λ x b q k. search (rules, tests))

use Rattle.std.proofs.Common.{rules, tests, refl}
use Rattle.store.specs.FirstLists.{first_find}
use Rattle.store.specs.Records.{held}
use Rattle.store.specs.Ranges.{client_fits_at}
use Rattle.store.proofs.ranges.first_client.Goals as goal

pub returns : goal.returns
returns c = first_find (client_fits_at (held c.args.view.now)) _ refl _ _ _ c.find.ensures.ran (λ x b q k. search (rules, tests))

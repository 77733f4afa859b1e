use Rattle.std.proofs.Common.{rules, tests, refl}
use Rattle.store.specs.FirstLists.{first_find}
use Rattle.store.specs.Records.{held}
use Rattle.content.specs.Content.{byte_serves_at}
use Rattle.content.proofs.serve.first_byte.Goals as goal

pub returns : goal.returns
returns c = first_find (byte_serves_at (held c.args.view.now)) _ refl _ _ _ c.find.ensures.ran (λ x b q k. search (rules, tests))

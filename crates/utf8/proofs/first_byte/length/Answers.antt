use Rattle.std.proofs.Common.{rules}
use Rattle.utf8.proofs.Lengths.{begun}
use Rattle.utf8.proofs.first_byte.length.Goals as goal

pub returns-clause-means : goal.returns-clause-means
returns-clause-means c = begun c.args.first _ (search rules)

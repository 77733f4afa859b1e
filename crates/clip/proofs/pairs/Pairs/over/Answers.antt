use Rattle.std.proofs.Common.{refl}
use Rattle.clip.proofs.Standing.{hidden_is_dead}
use Rattle.clip.proofs.pairs.Pairs.over.Goals as goal

pub returns : goal.returns
returns g c = record { below = refl; pairs = refl; holders = hidden_is_dead }

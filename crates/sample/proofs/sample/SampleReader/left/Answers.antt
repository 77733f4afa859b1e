use Rattle.std.proofs.Common.{Some, refl}
use Rattle.sample.specs.declared.sample.Run.TheVariants.{Ab, Bold, Xy, Nest}
use Rattle.sample.proofs.Runs.{left_from}
use Rattle.sample.proofs.sample.SampleReader.left.Goals as goal

pub returns-in-Bold : goal.returns-in-Bold
returns-in-Bold c = left_from (Some Ab) c.in-Bold.is (0, 2, refl, refl)

pub returns-in-Xy : goal.returns-in-Xy
returns-in-Xy c = left_from (Some Bold) c.in-Xy.is (2, 1, refl, refl)

pub returns-in-Nest : goal.returns-in-Nest
returns-in-Nest c = left_from (Some Xy) c.in-Nest.is (3, 2, refl, refl)

pub returns-in-C : goal.returns-in-C
returns-in-C c = left_from (Some Nest) c.in-C.is (5, 1, refl, refl)

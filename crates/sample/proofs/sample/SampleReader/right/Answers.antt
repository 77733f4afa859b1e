use Rattle.std.proofs.Common.{Some, refl}
use Rattle.sample.specs.declared.sample.Run.TheVariants.{Bold, Xy, Nest, C}
use Rattle.sample.proofs.Runs.{right_from}
use Rattle.sample.proofs.sample.SampleReader.right.Goals as goal

pub returns-in-Ab : goal.returns-in-Ab
returns-in-Ab c = right_from (Some Bold) c.in-Ab.is (1, refl)

pub returns-in-Bold : goal.returns-in-Bold
returns-in-Bold c = right_from (Some Xy) c.in-Bold.is (2, refl)

pub returns-in-Xy : goal.returns-in-Xy
returns-in-Xy c = right_from (Some Nest) c.in-Xy.is (1, refl)

pub returns-in-Nest : goal.returns-in-Nest
returns-in-Nest c = right_from (Some C) c.in-Nest.is (1, refl)

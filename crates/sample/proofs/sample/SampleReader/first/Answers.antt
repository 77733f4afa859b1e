use Rattle.std.proofs.Common.{ℕ, Some, Option, sym, ap, arith}
use Rattle.block.specs.Units.{Stretch}
use Rattle.sample.proofs.sample.SampleReader.first.Goals as goal

abbrev front : ℕ → ℕ → Option Stretch
front n l = Some (record { list = l; from = 0; count = n })

pub returns-in-0 : goal.returns-in-0
returns-in-0 c = (omega arith, (2, ap (front 2) (sym c.in-0.is)))

pub returns-in-1 : goal.returns-in-1
returns-in-1 c = (omega arith, (1, ap (front 1) (sym c.in-1.is)))

use Rattle.std.proofs.Common.{◌≡◌, map, take, Some}
use Rattle.block.specs.Values.{facet}
use Rattle.reader.specs.Answers.{units_from}
use Rattle.sample.specs.Sample.{sample, shows, span}
use Rattle.sample.proofs.sample.SampleReader.read.Given as goal

-- the slots below `i` show the run's units from the offset on
abbrev pub invariant-loop-i : goal.invariant-loop-i
invariant-loop-i l = map shows (take l.i l.slot-items) ≡ map (λ u. Some (facet u)) (take l.i (units_from sample (Some (span l.place)) l.offset))

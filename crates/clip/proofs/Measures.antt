-- How far a walk has still to go.
use Rattle.std.proofs.Common.{ℕ, suc, ◌-◌, length, Some, None, Option}
use Rattle.block.specs.Units.{Meaning, Stretch}
use Rattle.clip.specs.declared.walk.Way.{Way}
use Rattle.clip.specs.declared.walk.Way.TheVariants as ways

-- to the right: the units from the run on
abbrev pub ahead : Meaning → Option Stretch → ℕ
ahead m None = 0
ahead m (Some t) = length (m.units t.list) - t.from

-- to the left: the units before the run
abbrev pub behind : Option Stretch → ℕ
behind None = 0
behind (Some t) = suc t.from

abbrev pub left : Way → Meaning → Option Stretch → ℕ
left ways.Left m o = behind o
left ways.Right m o = ahead m o

abbrev pub to_go : {P : Type 0} → Way → Meaning → (P → Option Stretch) → Option P → ℕ
to_go way m stretch None = 0
to_go way m stretch (Some q) = suc (left way m (stretch q))

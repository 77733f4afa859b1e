-- A walk over the runs below that goes on to what the clip shows.
use Rattle.std.specs.Prelude.{ℕ, Option}
use Rattle.block.specs.Units.{Meaning, Stretch}
use Rattle.reader.specs.Answers.{Onward, Backward, Right, Left}
use Rattle.clip.specs.declared.walk.Way.{Way}
use Rattle.clip.specs.declared.walk.Way.TheVariants as ways
use Rattle.clip.specs.Clipped.{clipped, cut, place_of}

-- what stands on this side of an index of a list
abbrev pub Beside : {P : Type 0} → Way → Meaning → (P → Option Stretch) → ℕ → ℕ → Option P → Type 0
Beside ways.Left m st l i r = Backward st l i r
Beside ways.Right m st l i r = Onward m st l i r

-- a run's neighbour on this side
abbrev pub NextTo : {P : Type 0} → Way → Meaning → (P → Option Stretch) → P → Option P → Type 0
NextTo ways.Left m st p r = Left m st p r
NextTo ways.Right m st p r = Right m st p r

-- from what stands below beside an index to what stands in the clip beside that index's place
abbrev pub Skips : {P : Type 0} → Way → (ℕ → ℕ) → Meaning → (P → Option Stretch) → Option P → Option P → Type 0
Skips way limit m st a r = (l i : ℕ) → Beside way m st l i a → Beside way (clipped limit m) (λ p. cut limit m (st p)) l (place_of limit m l i) r

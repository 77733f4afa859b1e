-- A table of pairs, and what making one answers.
use Rattle.std.specs.Prelude.{◌≡◌, ℕ, ◌<◌, true, cond, List, length, take, Ok, Err, Result}
use Rattle.block.specs.declared.fault.Fault.{Fault}
use Rattle.block.specs.declared.fault.Code.TheVariants.{OutOfRange, LimitPassed}
use Rattle.block.specs.declared.fault.Part.TheVariants as parts
use Rattle.block.specs.declared.fault.Spot.TheVariants.{Nowhere}
use Rattle.clip.specs.declared.pair.Pair.{Pair}
use Rattle.clip.specs.declared.pairs.Pairs.{Pairs}
use Rattle.clip.specs.Pairing.{limit_in, sound}

-- the pairs of a table
abbrev pub pairs_of : Pairs → List Pair
pairs_of ps = take ps.count ps.pairs

-- the clock from which a table hides the units of a client
abbrev pub limit_of : Pairs → ℕ → ℕ
limit_of ps c = limit_in (pairs_of ps) c

-- the refusal of a pair out of range, or of a client twice
abbrev pub bad_pair : Fault
bad_pair = record { code = OutOfRange; part = parts.Clip; spot = Nowhere; clips = 0 }

-- the refusal of more than 64 pairs
abbrev pub many_pairs : Fault
many_pairs = record { code = LimitPassed; part = parts.Clip; spot = Nowhere; clips = 0 }

-- the pairs as given; or a refusal, of a bad pair before that of too many
abbrev pub Made : List Pair → Result Pairs Fault → Type 0
Made xs (Ok ps) = (sound xs ≡ true) × (pairs_of ps ≡ xs)
Made xs (Err e) = (e ≡ cond (sound xs) many_pairs bad_pair) × (sound xs ≡ true → 64 < length xs)

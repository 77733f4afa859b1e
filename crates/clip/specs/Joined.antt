-- Two tables of pairs as one.
use Rattle.std.specs.Prelude.{◌≡◌, ℕ, min, cond, List, [], ◌∷◌}
use Rattle.block.specs.Units.{Meaning}
use Rattle.clip.specs.declared.pair.Pair.{Pair}
use Rattle.clip.specs.declared.pairs.Pairs.{Pairs}
use Rattle.clip.specs.Clipped.{clipped}
use Rattle.clip.specs.Made.{pairs_of, limit_of}
use Rattle.clip.specs.Pairing.{limit_in, listed}

-- the lesser of the clocks that two limits give a client
abbrev pub lesser : (ℕ → ℕ) → (ℕ → ℕ) → ℕ → ℕ
lesser a b c = min (a c) (b c)

-- a clip over a clip shows, of every document, what one clip with the lesser clocks shows
abbrev pub OneClip : Type 0
OneClip = (a b : ℕ → ℕ) (m : Meaning) → clipped a (clipped b m) ≡ clipped (lesser a b) m

-- the pairs of one list whose clients the other has too, each with the lesser of the two clocks
abbrev pub joined : List Pair → List Pair → List Pair
joined [] qs = []
joined (p ∷ ps) qs = cond (listed p.client qs) (record { client = p.client; clock = min p.clock (limit_in qs p.client) } ∷ joined ps qs) (joined ps qs)

-- what joining two tables gives
pub record Joined (a b r : Pairs) : Type 0 where
  pub pairs : pairs_of r ≡ joined (pairs_of a) (pairs_of b)
  -- a client's clock is the lesser of its two
  pub clocks : (c : ℕ) → limit_of r c ≡ min (limit_of a c) (limit_of b c)
  -- a clip of it shows, of every document, what the two clips show as a pile, in either order
  pub piled : (m : Meaning) → clipped (limit_of r) m ≡ clipped (limit_of a) (clipped (limit_of b) m)
  pub turned : (m : Meaning) → clipped (limit_of r) m ≡ clipped (limit_of b) (clipped (limit_of a) m)

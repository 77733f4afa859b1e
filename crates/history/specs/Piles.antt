-- A document under a pile of clips.
use Rattle.std.specs.Prelude.{ℕ, Bool, true, ◌&&◌, List, [], ◌∷◌, Some, None, Option, nat_lt}
use Rattle.block.specs.declared.ids.Id.{Id}
use Rattle.block.specs.Units.{Meaning}
use Rattle.clip.specs.declared.pairs.Pairs.{Pairs}
use Rattle.clip.specs.Clipped.{clipped}
use Rattle.clip.specs.Made.{limit_of}

-- a document under the clips with these limits, the topmost first
abbrev pub under : List (ℕ → ℕ) → Meaning → Meaning
under [] m = m
under (limit ∷ limits) m = clipped limit (under limits m)

-- no clip hides the unit with this id
abbrev pub shows : List (ℕ → ℕ) → Id → Bool
shows [] id = true
shows (limit ∷ limits) id = shows limits id && nat_lt id.clock (limit id.client)

-- a document under the clip of a table, or as it is
abbrev pub laid : Option Pairs → Meaning → Meaning
laid None m = m
laid (Some table) m = clipped (limit_of table) m

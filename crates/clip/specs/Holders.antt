-- Which lists stand under a clip.
use Rattle.std.specs.Prelude.{◌≡◌, ℕ, Bool, true, ◌&&◌, Some, None, Option, nat_lt}
use Rattle.block.specs.declared.ids.Id.{Id}
use Rattle.block.specs.Lookup.{upheld}
use Rattle.block.specs.Units.{Meaning, Lawful}
use Rattle.clip.specs.Clipped.{clipped}

-- the list is a root, or the clock of its holder is below the limit
abbrev pub holder_shown : (ℕ → ℕ) → Option Id → Bool
holder_shown limit None = true
holder_shown limit (Some h) = nat_lt h.clock (limit h.client)

-- a list stands under a clip if it stands below and its holder is not hidden: a hidden holder counts as dead
abbrev pub HiddenIsDead : Type 0
HiddenIsDead = (limit : ℕ → ℕ) (m : Meaning) → Lawful m → (l : ℕ) → upheld (clipped limit m) l ≡ (upheld m l && holder_shown limit (m.holder l))

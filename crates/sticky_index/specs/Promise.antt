-- What is promised of a mark that is made and then resolved.
use Rattle.std.specs.Prelude.{◌≡◌, ℕ, ◌+◌, ◌<◌, ◌≤◌, min, true, length, None, Ok, Err, Result}
use Rattle.block.specs.declared.fault.Fault.{Fault}
use Rattle.block.specs.declared.fault.Code.TheVariants.{BeyondLength}
use Rattle.block.specs.declared.fault.Spot.TheVariants as spots
use Rattle.block.specs.Units.{Meaning, unit_at, seen}
use Rattle.block.specs.Lookup.{standing}
use Rattle.sticky_index.specs.declared.index.Assoc.{Assoc}
use Rattle.sticky_index.specs.declared.index.Assoc.TheVariants.{Before, After}
use Rattle.sticky_index.specs.declared.index.StickyIndex.{StickyIndex}
use Rattle.sticky_index.specs.declared.index.Offset.{Offset}
use Rattle.sticky_index.specs.Marks.{refusal, stop, rest_of, offset_of}

-- a mark with where it stands, if it stands somewhere
abbrev pub with_offset : StickyIndex → Result Offset Fault → Result (StickyIndex × Offset) Fault
with_offset mark (Ok offset) = Ok (mark, offset)
with_offset mark (Err e) = Err e

-- what comes of making a mark and resolving it at once
abbrev pub resolved : ℕ → Meaning → Result StickyIndex Fault → Result (StickyIndex × Offset) Fault
resolved layers m (Ok mark) = with_offset mark (offset_of layers m mark)
resolved layers m (Err e) = Err e

-- a list that is there and stands, and none of its units is redone
pub record Steady (m : Meaning) (l : ℕ) : Type 0 where
  pub there : l < m.lists
  pub stands : standing m l ≡ true
  pub plain : (i : ℕ) → i < length (m.units l) → (unit_at m l i).redone ≡ None

-- a mark with this lean has a place at index k among n visible units
abbrev pub Fits : Assoc → ℕ → ℕ → Type 0
Fits After k n = k < n
Fits Before k n = k ≤ n + 1

-- a mark that fits rests where `rest_of` says and stands at the lesser of k and n; any other is beyond the length
pub record Stays (layers : ℕ) (m : Meaning) (l k : ℕ) (a : Assoc) (r : Result (StickyIndex × Offset) Fault) : Type 0 where
  pub accepted : Fits a k (length (seen (m.units l))) → (mark : StickyIndex) × (rest_of layers m l k a ≡ Ok mark) × (r ≡ Ok (mark, stop l a (min k (length (seen (m.units l))))))
  pub refused : (Fits a k (length (seen (m.units l))) → ⊥) → r ≡ Err (refusal BeyondLength (spots.List l))

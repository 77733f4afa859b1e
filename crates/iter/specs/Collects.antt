-- Slices written into a buffer.
use Rattle.std.specs.Prelude.{◌≡◌, ℕ, ◌<◌, ◌≤◌, List, ◌++◌, map, length, take, drop, Some, Ok, Err, Option, Result}
use Rattle.std.specs.Option.{option_map}
use Rattle.block.specs.declared.fault.Fault.{Fault}
use Rattle.iter.specs.declared.slice.ItemSlice.{ItemSlice}
use Rattle.iter.specs.Ranges.{Course, Piece, piece_of, over}

-- the first n places of the buffer have the first slices that come, its other places stay, and the other slices come to t
pub record Holds {I P : Type 0} (coming : I → Course P → Type 0) (c : Course P) (before out : List (Option (ItemSlice P))) (n : ℕ) (t : I) : Type 0 where
  pub came : List (Piece P)
  pub later : Course P
  pub comes : coming t later
  pub held : map (option_map piece_of) (take n out) ≡ map Some came
  pub rest : drop n out ≡ drop n before
  pub many : length came ≡ n
  pub slices : c.slices ≡ came ++ later.slices
  pub fault : c.fault ≡ later.fault

-- as many slices came as there are, or as there are places; a refusal comes after the last
abbrev pub Collected : {I P : Type 0} → (I → Course P → Type 0) → Course P → List (Option (ItemSlice P)) → List (Option (ItemSlice P)) → Result ℕ Fault → I → Type 0
Collected coming c before out (Ok n) t = (n ≤ length out) × (h : Holds coming c before out n t) × (n < length out → h.later ≡ over)
Collected coming c before out (Err f) t = (n : ℕ) × (n < length out) × (map (option_map piece_of) (take n out) ≡ map Some c.slices) × (drop n out ≡ drop n before) × (c.fault ≡ Some f) × coming t over

-- What a range still gives, and what one step of it answers.
use Rattle.std.specs.Prelude.{◌≡◌, List, None, Ok, Option, Result}
use Rattle.block.specs.declared.fault.Fault.{Fault}
use Rattle.iter.specs.Bare.{Bare}
use Rattle.iter.specs.declared.slice.ItemSlice.{ItemSlice}
use Rattle.iter.specs.declared.range.RangeIter.{RangeIter}
use Rattle.iter.specs.Ranges.{Course, Answers, course, over}

-- what a range gives if these runs are ahead of its source
abbrev pub gives : {S P : Type 0} → RangeIter S P → List (Bare P) → Course P
gives s ws = course s.state s.start s.end ws

-- what a range gives of the runs that are ahead of its source
abbrev pub Coming : {S P : Type 0} → (S → List (Bare P) → Type 0) → RangeIter S P → Course P → Type 0
Coming ahead s c = (ws : List (Bare _)) × ahead s.iter ws × (c ≡ gives s ws)

-- the answer is the first of what comes, and the rest of it comes to t
pub record Told {S P : Type 0} (coming : S → Course P → Type 0) (c : Course P) (r : Result (Option (ItemSlice P)) Fault) (t : S) : Type 0 where
  pub later : Course P
  pub comes : coming t later
  pub answer : Answers c r later
  pub ends : r ≡ Ok None → later ≡ over

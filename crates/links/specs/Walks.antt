-- Neighbours that agree, and the walk to the right from a list's start.
use Rattle.std.specs.Prelude.{ℕ, zero, suc, Bool, true, false, not, ◌&&◌, ◌||◌, length, is_some, Some, None, Option, ◌==◌}
use Rattle.store.specs.declared.records.RunRecord.{RunRecord}
use Rattle.store.specs.Records.{Store, run_at, list_at}

-- this number and no other
abbrev pub is : Option ℕ → ℕ → Bool
is None i = false
is (Some j) i = j == i

-- both none, or one number
abbrev pub same : Option ℕ → Option ℕ → Bool
same None o = not (is_some o)
same (Some i) o = is o i

-- a neighbour names the run on that side of its own, and is in its list
abbrev pub neighbour_agrees : (RunRecord → Option ℕ) → Store → ℕ → Option ℕ → Bool
neighbour_agrees side s i None = true
neighbour_agrees side s i (Some j) = is (side (run_at s j)) i && same (run_at s j).list (run_at s i).list

-- a left neighbour names the run as its right one, and is in its list
abbrev pub left_agrees : Store → ℕ → Option ℕ → Bool
left_agrees s i o = neighbour_agrees (λ r. r.right) s i o

-- a right neighbour names the run as its left one, and is in its list
abbrev pub right_agrees : Store → ℕ → Option ℕ → Bool
right_agrees s i o = neighbour_agrees (λ r. r.left) s i o

-- a walk to the right, of so many runs at most, meets run i
unfoldable pub meets : Store → ℕ → Option ℕ → ℕ → Bool
meets s i None n = false
meets s i (Some j) zero = false
meets s i (Some j) (suc n) = j == i || meets s i (run_at s j).right n

-- a run of a list is met from the list's start
abbrev pub is_reached : Store → ℕ → Option ℕ → Bool
is_reached s i None = true
is_reached s i (Some l) = meets s i (list_at s l).start (length s.runs)

-- a list starts at a run of its own that has no left neighbour
abbrev pub start_agrees : Store → ℕ → Option ℕ → Bool
start_agrees s l None = true
start_agrees s l (Some i) = not (is_some (run_at s i).left) && is (run_at s i).list l

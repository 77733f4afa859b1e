-- The units between two marks.
use Rattle.std.specs.Prelude.{◌≡◌, ℕ, zero, suc, ◌+◌, ◌-◌, cond, List, [], ◌∷◌, ◌++◌, map, None}
use Rattle.block.specs.declared.ids.Id.{Id}
use Rattle.block.specs.Lookup.{same_id}
use Rattle.block.specs.Units.{UnitOf}
use Rattle.reader.specs.declared.reader.Description.{Description}
use Rattle.sticky_index.specs.declared.index.Assoc.{Assoc}
use Rattle.sticky_index.specs.declared.index.Assoc.TheVariants.{Before, After}
use Rattle.sticky_index.specs.declared.index.IndexScope.{IndexScope}
use Rattle.sticky_index.specs.declared.index.IndexScope.TheVariants.{Relative, Nested, Root}
use Rattle.sticky_index.specs.declared.index.StickyIndex.{StickyIndex}
use Rattle.iter.specs.Bare.{Bare}
use Rattle.iter.specs.Cuts.{id_in}
use Rattle.iter.specs.Ranges.{Piece, Course}

-- n units of a run from offset k on
abbrev pub ids_from : Description → ℕ → ℕ → List Id
ids_from run k zero = []
ids_from run k (suc n) = id_in run k ∷ ids_from run (suc k) n

-- the ids of units
abbrev pub unit_ids : List UnitOf → List Id
unit_ids us = map (λ u. u.id) us

-- the units of runs, and of slices, in order
abbrev pub run_ids : {P : Type 0} → List (Bare P) → List Id
run_ids [] = []
run_ids (w ∷ ws) = ids_from w.about 0 w.about.len ++ run_ids ws

abbrev pub slice_ids : {P : Type 0} → List (Piece P) → List Id
slice_ids [] = []
slice_ids (p ∷ ps) = ids_from p.run p.start ((p.end + 1) - p.start) ++ slice_ids ps

-- the units from an edge on, where x is the unit at the edge and xs are those after it
abbrev pub with_first : Assoc → Id → List Id → List Id
with_first Before x xs = x ∷ xs
with_first After x xs = xs

abbrev pub from_unit : Assoc → Id → List Id → List Id
from_unit lean id [] = []
from_unit lean id (x ∷ xs) = cond (same_id x id) (with_first lean x xs) (from_unit lean id xs)

-- the units up to an edge
abbrev pub with_last : Assoc → Id → List Id
with_last Before x = []
with_last After x = x ∷ []

abbrev pub up_to_unit : Assoc → Id → List Id → List Id
up_to_unit lean id [] = []
up_to_unit lean id (x ∷ xs) = cond (same_id x id) (with_last lean x) (x ∷ up_to_unit lean id xs)

-- the units from a mark on, and up to a mark; a mark on a list is no edge
abbrev pub from_mark : Assoc → IndexScope → List Id → List Id
from_mark lean (Relative id) xs = from_unit lean id xs
from_mark lean (Nested id) xs = xs
from_mark lean (Root l) xs = xs

abbrev pub up_to_mark : Assoc → IndexScope → List Id → List Id
up_to_mark lean (Relative id) xs = up_to_unit lean id xs
up_to_mark lean (Nested id) xs = xs
up_to_mark lean (Root l) xs = xs

-- unless it is refused, a range over runs has exactly the units between its marks
abbrev pub Between : {P : Type 0} → StickyIndex → StickyIndex → List (Bare P) → Course P → Type 0
Between start end ws c = c.fault ≡ None → slice_ids c.slices ≡ up_to_mark end.assoc end.scope (from_mark start.assoc start.scope (run_ids ws))

-- A small document, and what the definitions say of it.
use Rattle.std.specs.Prelude.{◌≡◌, ℕ, zero, suc, true, cond, List, [], ◌∷◌, ◌++◌, length, None, Ok, Err, ◌==◌}
use Rattle.block.specs.declared.ids.Id.{Id}
use Rattle.block.specs.declared.call.Call.TheVariants.{Read}
use Rattle.block.specs.declared.fault.Code.TheVariants.{BeyondLength, NotKnown}
use Rattle.block.specs.declared.fault.Spot.TheVariants as spots
use Rattle.block.specs.declared.kind.Kind.TheVariants.{Text}
use Rattle.block.specs.Units.{Meaning, UnitOf, bytes, seen}
use Rattle.block.specs.Plain.{plain_run, too_far}
use Rattle.clip.specs.declared.pair.Pair.{Pair}
use Rattle.clip.specs.Pairing.{limit_in}
use Rattle.clip.specs.Clipped.{clipped}
use Rattle.sticky_index.specs.declared.index.Assoc.{Assoc}
use Rattle.sticky_index.specs.declared.index.Assoc.TheVariants.{Before, After}
use Rattle.sticky_index.specs.declared.index.IndexScope.TheVariants.{Relative, Root}
use Rattle.sticky_index.specs.declared.index.StickyIndex.{StickyIndex}
use Rattle.sticky_index.specs.Marks.{on, stop, refusal, rest_of, offset_of}
use Rattle.history.specs.Events.{dead}

abbrev pub unit : ℕ → ℕ → Id
unit c k = record { client = c; clock = k }

-- one live character, by its byte
abbrev pub letter : ℕ → ℕ → ℕ → UnitOf
letter c k b = record { id = unit c k; kind = Text; live = true; worth = bytes (b ∷ []); redone = None }

abbrev pub a : UnitOf
a = letter 5 0 97

abbrev pub b : UnitOf
b = letter 5 1 98

abbrev pub c : UnitOf
c = letter 5 2 99

abbrev pub xy : List UnitOf
xy = dead (letter 9 0 88) ∷ dead (letter 9 1 89) ∷ []

-- one root with these units
abbrev pub only : List UnitOf → ℕ → List UnitOf
only us zero = us
only us (suc l) = []

abbrev pub page : List UnitOf → Meaning
page us = record { lists = 1; units = only us; holder = λ _. None; known = λ client. cond (client == 5) 3 (cond (client == 9) 2 0) }

-- root 0 holds "ab" (client 5, clock 0, live), "XY" (client 9, clock 0, dead) and "c" (client 5, clock 2, live)
abbrev pub small : Meaning
small = page (a ∷ b ∷ [] ++ xy ++ c ∷ [])

-- the same after "ab" was made dead
abbrev pub shorter : Meaning
shorter = page (dead a ∷ dead b ∷ [] ++ xy ++ c ∷ [])

abbrev pub under : List Pair → Meaning
under pairs = clipped (limit_in pairs) small

abbrev pub pair : ℕ → ℕ → Pair
pair client clock = record { client = client; clock = clock }

-- a mark on a unit
abbrev pub mark : ℕ → ℕ → Assoc → StickyIndex
mark c k lean = on (Relative (unit c k)) lean

pub record Table : Type 0 where
  -- where marks rest, and where they resolve to
  pub after_0 : rest_of 0 small 0 0 After ≡ Ok (mark 5 0 After)
  pub after_2 : rest_of 0 small 0 2 After ≡ Ok (mark 5 2 After)
  pub after_3 : rest_of 0 small 0 3 After ≡ Err (refusal BeyondLength (spots.List 0))
  pub before_0 : rest_of 0 small 0 0 Before ≡ Ok (on (Root 0) Before)
  pub before_0_is : offset_of 0 small (on (Root 0) Before) ≡ Ok (stop 0 Before 0)
  pub before_4 : rest_of 0 small 0 4 Before ≡ Ok (mark 5 2 Before)
  pub before_4_is : offset_of 0 small (mark 5 2 Before) ≡ Ok (stop 0 Before 3)
  pub before_5 : rest_of 0 small 0 5 Before ≡ Err (refusal BeyondLength (spots.List 0))
  -- a mark on a dead unit
  pub dead_after : offset_of 0 small (mark 9 1 After) ≡ Ok (stop 0 After 2)
  pub dead_before : offset_of 0 small (mark 9 1 Before) ≡ Ok (stop 0 Before 2)
  -- under the clip 5:2, 9:2 and under the clip 9:2
  pub clipped_away : offset_of 1 (under (pair 5 2 ∷ pair 9 2 ∷ [])) (mark 5 2 After) ≡ Err (refusal NotKnown (spots.Unit (unit 5 2)))
  pub clipped_length : length (seen ((under (pair 5 2 ∷ pair 9 2 ∷ [])).units 0)) ≡ 2
  pub clipped_five : offset_of 1 (under (pair 9 2 ∷ [])) (mark 9 1 Before) ≡ Ok (stop 0 Before 0)
  -- after a tombstone of "ab"
  pub after_tombstone : offset_of 0 shorter (mark 5 2 After) ≡ Ok (stop 0 After 0)
  -- read 3, and read 4
  pub read_3 : (plain_run 0 (seen (small.units 0)) (Read 3 ∷ [])).shown ≡ a ∷ b ∷ c ∷ []
  pub read_4 : (plain_run 0 (seen (small.units 0)) (Read 4 ∷ [])).outcomes ≡ Err (too_far 0) ∷ []

-- The plain cursor: it is fed the visible units of a list and a list of calls, and nothing else.
use Rattle.std.specs.Prelude.{ℕ, ◌+◌, cond, List, [], ◌∷◌, ◌++◌, length, take, drop, fold, Ok, Err, Result, nat_lt}
use Rattle.block.specs.declared.call.Call.{Call}
use Rattle.block.specs.declared.call.Call.TheVariants.{Skip, Read}
use Rattle.block.specs.declared.fault.Fault.{Fault}
use Rattle.block.specs.declared.fault.Code.TheVariants.{BeyondLength}
use Rattle.block.specs.declared.fault.Part.TheVariants.{Cursor}
use Rattle.block.specs.declared.fault.Spot.TheVariants as spots
use Rattle.block.specs.Units.{UnitOf}

-- what it has answered, its index, the units that it has passed, and those that its reads have shown
pub record Plain : Type 0 where
  pub outcomes : List (Result (Unit {0}) Fault)
  pub index : ℕ
  pub passed : List UnitOf
  pub shown : List UnitOf

abbrev pub plain_start : Plain
plain_start = record { outcomes = []; index = 0; passed = []; shown = [] }

-- the refusal of a call that goes beyond the length of list l
abbrev pub too_far : ℕ → Fault
too_far l = record { code = BeyondLength; part = Cursor; spot = spots.List l; clips = 0 }

-- how many units a call asks for
abbrev pub asked : Call → ℕ
asked (Skip n) = n
asked (Read n) = n

-- how many slots a call fills if it is accepted
abbrev pub filled : Call → ℕ
filled (Skip n) = 0
filled (Read n) = n

-- which of the units that a call passes it shows
abbrev pub shown_by : Call → List UnitOf → List UnitOf
shown_by (Skip n) us = []
shown_by (Read n) us = us

-- the next n units at an index
abbrev pub next_units : List UnitOf → ℕ → ℕ → List UnitOf
next_units vs i n = take n (drop i vs)

abbrev pub refuse : ℕ → Plain → Plain
refuse l s = record { outcomes = s.outcomes ++ (Err (too_far l) ∷ []); index = s.index; passed = s.passed; shown = s.shown }

abbrev pub accept : List UnitOf → Plain → Call → Plain
accept vs s c = record { outcomes = s.outcomes ++ (Ok tt ∷ []); index = s.index + asked c; passed = s.passed ++ next_units vs s.index (asked c); shown = s.shown ++ shown_by c (next_units vs s.index (asked c)) }

-- one call: refused if it goes beyond the visible units, and then nothing changes
abbrev pub plain_call : ℕ → List UnitOf → Plain → Call → Plain
plain_call l vs s c = cond (nat_lt (length vs) (s.index + asked c)) (refuse l s) (accept vs s c)

-- any calls, one after the other, on list l with the visible units vs
abbrev pub plain_run : ℕ → List UnitOf → List Call → Plain
plain_run l vs cs = fold (plain_call l vs) plain_start cs

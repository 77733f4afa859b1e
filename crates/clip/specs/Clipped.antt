-- What a clip shows of the document below it.
use Rattle.std.specs.Prelude.{ℕ, ◌+◌, ◌-◌, min, Bool, cond, Some, None, filter, Option, nat_lt}
use Rattle.block.specs.Units.{Meaning, Stretch, UnitOf, unit_at, visible}
use Rattle.block.specs.Kept.{spot}
use Rattle.block.specs.declared.fault.Fault.{Fault}

-- a unit is shown if its clock is below its client's limit
abbrev pub shown_by : (ℕ → ℕ) → UnitOf → Bool
shown_by limit u = nat_lt u.id.clock (limit u.id.client)

-- the document without its hidden units; a client is known up to the lesser of the two clocks
abbrev pub clipped : (ℕ → ℕ) → Meaning → Meaning
clipped limit m = record { lists = m.lists; units = λ l. filter (shown_by limit) (m.units l); holder = m.holder; known = λ c. min (m.known c) (limit c) }

-- how many of the first i units of a list are shown
abbrev pub place_of : (ℕ → ℕ) → Meaning → ℕ → ℕ → ℕ
place_of limit m l i = spot (shown_by limit) (m.units l) i

-- how many units of a run are shown: those before the limit
abbrev pub shown_part : (ℕ → ℕ) → Meaning → Stretch → ℕ
shown_part limit m t = min t.count (limit (unit_at m t.list t.from).id.client - (unit_at m t.list t.from).id.clock)

-- the stretch of the clip's list that the shown part of a run covers
abbrev pub moved : (ℕ → ℕ) → Meaning → Stretch → Stretch
moved limit m t = record { list = t.list; from = place_of limit m t.list t.from; count = shown_part limit m t }

-- the stretch that a place covers under a clip; none if its run is hidden whole
abbrev pub cut : (ℕ → ℕ) → Meaning → Option Stretch → Option Stretch
cut limit m None = None
cut limit m (Some t) = cond (nat_lt 0 (shown_part limit m t)) (Some (moved limit m t)) None

-- how many visible units of a run are shown
abbrev pub adds_of : (ℕ → ℕ) → Meaning → Option Stretch → ℕ
adds_of limit m None = 0
adds_of limit m (Some t) = cond (visible (unit_at m t.list t.from)) (shown_part limit m t) 0

-- how many units of a run are shown from an offset on
abbrev pub left_of : (ℕ → ℕ) → Meaning → Option Stretch → ℕ → ℕ
left_of limit m None k = 0
left_of limit m (Some t) k = shown_part limit m t - k

-- a refusal that has passed one clip more
abbrev pub raise : Fault → Fault
raise e = record { code = e.code; part = e.part; spot = e.spot; clips = min (e.clips + 1) 255 }

-- What is still to come at a place, and what a walk over runs leaves of it.
use Rattle.std.specs.Prelude.{◌≡◌, ℕ, suc, ◌+◌, ◌-◌, ◌<◌, ◌≤◌, List, [], map, length, take, drop, Some, None, Option, if◌then◌else◌}
use Rattle.block.specs.declared.kind.Kind.{Kind}
use Rattle.block.specs.declared.slot.Slot.{Slot}
use Rattle.block.specs.Units.{Meaning, Stretch, UnitOf, Worth, unit_at, visible, seen}
use Rattle.block.specs.Values.{facet}

-- vs are the visible units of list l that are still to come, rel units into the run at a place; no place: none come
abbrev pub Sees : {P : Type 0} → Meaning → (P → Option Stretch) → ℕ → Option P → ℕ → List UnitOf → Type 0
Sees m st l None rel vs = vs ≡ []
Sees m st l (Some p) rel vs = (t : Stretch) × (st p ≡ Some t) × (t.list ≡ l) × (rel < t.count) × (vs ≡ seen (drop (t.from + rel) (m.units t.list)))

-- how many visible units a run has
abbrev pub visible_in : Meaning → Option Stretch → ℕ
visible_in m None = 0
visible_in m (Some t) = if visible (unit_at m t.list t.from) then t.count else 0

-- how far it is at most from a place to the end of its list
abbrev pub span_left : Meaning → Option Stretch → ℕ
span_left m None = 1
span_left m (Some t) = suc (length (m.units t.list) - t.from)

abbrev pub to_go : {P : Type 0} → Meaning → (P → Option Stretch) → Option P → ℕ
to_go m st None = 0
to_go m st (Some p) = span_left m (st p)

-- one run was passed, whole or in part: k of at most `left` visible units, and the walk came nearer to its end
pub record Stepped {P : Type 0} (m : Meaning) (st : P → Option Stretch) (p : P) (rel left : ℕ) (q : Option P) (into k : ℕ) : Type 0 where
  pub fewer : k ≤ left
  pub passed : (l : ℕ) (vs : List UnitOf) → Sees m st l (Some p) rel vs → Sees m st l q into (drop k vs)
  pub nearer : 0 < left → to_go m st q + (left - k) < to_go m st (Some p) + left

-- k visible units were passed
abbrev pub Walked : {P : Type 0} → Meaning → (P → Option Stretch) → Option P → ℕ → ℕ → Option P → ℕ → Type 0
Walked m st place rel k q into = (l : ℕ) (vs : List UnitOf) → Sees m st l place rel vs → Sees m st l q into (drop k vs)

-- the slots show these units
abbrev pub Shows : (Slot → Option (Kind × Worth)) → List Slot → List UnitOf → Type 0
Shows shown slots us = map shown slots ≡ map (λ u. Some (facet u)) us

-- one run was read: the first k slots show what was passed, and the other slots stay
pub record Took {P : Type 0} (m : Meaning) (st : P → Option Stretch) (shown : Slot → Option (Kind × Worth)) (p : P) (rel : ℕ) (before after : List Slot) (q : Option P) (into k : ℕ) : Type 0 where
  pub stepped : Stepped m st p rel (length before) q into k
  pub values : (l : ℕ) (vs : List UnitOf) → Sees m st l (Some p) rel vs → Shows shown (take k after) (take k vs)
  pub rest : drop k after ≡ drop k before

-- where there are enough units to come, the slots show the next ones
abbrev pub Filled : {P : Type 0} → Meaning → (P → Option Stretch) → (Slot → Option (Kind × Worth)) → Option P → ℕ → List Slot → Option P → ℕ → Type 0
Filled m st shown place rel slots q into = (l : ℕ) (vs : List UnitOf) → Sees m st l place rel vs → length slots ≤ length vs → Shows shown slots (take (length slots) vs) × Sees m st l q into (drop (length slots) vs)

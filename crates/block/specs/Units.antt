-- What a document means: for each list its units from left to right, the holders, and the known clocks.
use Rattle.std.specs.Prelude.{◌≡◌, ℕ, ◌+◌, ◌^◌, ◌<◌, ◌≤◌, Bool, false, ◌&&◌, List, [], length, Some, None, filter, Option, slice_index_or}
use Rattle.block.specs.declared.ids.Id.{Id}
use Rattle.block.specs.declared.kind.Kind.{Kind}
use Rattle.block.specs.declared.kind.Kind.TheVariants as kinds
use Rattle.block.specs.Kinds.{is_counted}

-- what a unit is worth: its bytes, or for a unit of kind 7 the list that it holds
pub data Worth : Type 0 where
  bytes : List ℕ → Worth
  nested : ℕ → Worth

-- one clock of one client
pub record UnitOf : Type 0 where
  pub id : Id
  pub kind : Kind
  pub live : Bool
  pub worth : Worth
  pub redone : Option Id

-- how many lists there are, the units of each from left to right, the unit that holds it (none: a root),
-- and for each client the clock up to which its units are known
pub record Meaning : Type 0 where
  pub lists : ℕ
  pub units : ℕ → List UnitOf
  pub holder : ℕ → Option Id
  pub known : ℕ → ℕ

abbrev pub visible : UnitOf → Bool
visible u = u.live && is_counted u.kind

-- the visible units, in order
abbrev pub seen : List UnitOf → List UnitOf
seen us = filter visible us

-- what `unit_at` gives past a list's end
abbrev pub no_unit : UnitOf
no_unit = record { id = record { client = 0; clock = 0 }; kind = kinds.Gc; live = false; worth = bytes []; redone = None }

abbrev pub unit_at : Meaning → ℕ → ℕ → UnitOf
unit_at m l i = slice_index_or (m.units l) i no_unit

-- the laws of every meaning
pub record Lawful (m : Meaning) : Type 0 where
  -- there are no units in a list that is not there
  pub beyond : (l : ℕ) → m.lists ≤ l → m.units l ≡ []
  -- sums of clocks and of lengths fit 32 bits
  pub small : (c : ℕ) → m.known c < 2 ^ 32
  pub few : (l : ℕ) → length (seen (m.units l)) < 2 ^ 32
  -- no id stands twice, in one list or in two
  pub once : (l i k j : ℕ) → i < length (m.units l) → j < length (m.units k) → (unit_at m l i).id ≡ (unit_at m k j).id → (l ≡ k) × (i ≡ j)
  -- a unit of a list is known
  pub below : (l i : ℕ) → i < length (m.units l) → (unit_at m l i).id.clock < m.known (unit_at m l i).id.client
  -- a holder that is a unit of a list is of kind 7 and is worth the list that it holds
  pub holds : (l k i : ℕ) → i < length (m.units k) → m.holder l ≡ Some (unit_at m k i).id → ((unit_at m k i).kind ≡ kinds.List) × ((unit_at m k i).worth ≡ nested l)

-- a stretch of a list: the list, the index of its first unit, how many units it has
pub record Stretch : Type 0 where
  pub list : ℕ
  pub from : ℕ
  pub count : ℕ

-- a run covers a stretch that is not empty, lies within its list, and is uniform
pub record RunOf (m : Meaning) (s : Stretch) : Type 0 where
  pub some : 0 < s.count
  pub within : s.from + s.count ≤ length (m.units s.list)
  pub client : (k : ℕ) → k < s.count → (unit_at m s.list (s.from + k)).id.client ≡ (unit_at m s.list s.from).id.client
  pub clock : (k : ℕ) → k < s.count → (unit_at m s.list (s.from + k)).id.clock ≡ (unit_at m s.list s.from).id.clock + k
  pub kind : (k : ℕ) → k < s.count → (unit_at m s.list (s.from + k)).kind ≡ (unit_at m s.list s.from).kind
  pub live : (k : ℕ) → k < s.count → (unit_at m s.list (s.from + k)).live ≡ (unit_at m s.list s.from).live
  pub redone : (k : ℕ) → k < s.count → (unit_at m s.list (s.from + k)).redone ≡ (unit_at m s.list s.from).redone

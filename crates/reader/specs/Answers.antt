-- What a reader answers, by its meaning and by the stretches of its places.
use Rattle.std.specs.Prelude.{◌≡◌, ℕ, ◌+◌, ◌-◌, ◌<◌, ◌≤◌, min, cond, List, [], map, length, take, drop, Some, None, Ok, Err, Option, Result, ◌≢◌, slice_index_or}
use Rattle.block.specs.declared.ids.Id.{Id}
use Rattle.block.specs.declared.kind.Kind.{Kind}
use Rattle.block.specs.declared.fault.Fault.{Fault}
use Rattle.block.specs.declared.fault.Code.TheVariants.{NoSuchList}
use Rattle.block.specs.declared.fault.Part.TheVariants.{Tables}
use Rattle.block.specs.declared.fault.Spot.TheVariants as spots
use Rattle.block.specs.declared.slot.Slot.{Slot}
use Rattle.block.specs.declared.slot.Value.{Value}
use Rattle.block.specs.Kinds.{is_counted}
use Rattle.block.specs.Units.{Meaning, Stretch, UnitOf, Worth, no_unit, unit_at, seen}
use Rattle.block.specs.Values.{facet, face}
use Rattle.reader.specs.declared.reader.Description.{Description}

-- the refusal of a list that is not there, with the clips that it passed
abbrev pub no_list : ℕ → ℕ → Fault
no_list layers l = record { code = NoSuchList; part = Tables; spot = spots.List l; clips = min layers 255 }

-- the stretch at this place begins at index i of list l, or ends there
abbrev pub Begins : {P : Type 0} → (P → Option Stretch) → P → ℕ → ℕ → Type 0
Begins stretch p l i = (n : ℕ) × (stretch p ≡ Some (record { list = l; from = i; count = n }))

abbrev pub Ends : {P : Type 0} → (P → Option Stretch) → P → ℕ → ℕ → Type 0
Ends stretch p l i = (f : ℕ) × (n : ℕ) × (stretch p ≡ Some (record { list = l; from = f; count = n })) × (f + n ≡ i)

-- what stands to the right of index i of list l: the run that begins there, or nothing at the list's end
abbrev pub Onward : {P : Type 0} → Meaning → (P → Option Stretch) → ℕ → ℕ → Option P → Type 0
Onward m stretch l i None = i ≡ length (m.units l)
Onward m stretch l i (Some q) = Begins stretch q l i

-- what stands to the left of index i of list l: the run that ends there, or nothing at the list's start
abbrev pub Backward : {P : Type 0} → (P → Option Stretch) → ℕ → ℕ → Option P → Type 0
Backward stretch l i None = i ≡ 0
Backward stretch l i (Some q) = Ends stretch q l i

-- the leftmost run of a list
abbrev pub First : {P : Type 0} → Meaning → (P → Option Stretch) → ℕ → ℕ → Result (Option P) Fault → Type 0
First m stretch layers l (Ok o) = (l < m.lists) × Onward m stretch l 0 o
First m stretch layers l (Err e) = (m.lists ≤ l) × (e ≡ no_list layers l)

-- a run's neighbours
abbrev pub Right : {P : Type 0} → Meaning → (P → Option Stretch) → P → Option P → Type 0
Right m stretch p r = (stretch p ≡ None → r ≡ None) × ((t : Stretch) → stretch p ≡ Some t → Onward m stretch t.list (t.from + t.count) r)

abbrev pub Left : {P : Type 0} → Meaning → (P → Option Stretch) → P → Option P → Type 0
Left m stretch p r = (stretch p ≡ None → r ≡ None) × ((t : Stretch) → stretch p ≡ Some t → Backward stretch t.list t.from r)

-- what is said of a run
abbrev pub described : Meaning → Stretch → Description
described m t = record { id = (unit_at m t.list t.from).id; len = t.count; kind = (unit_at m t.list t.from).kind; live = (unit_at m t.list t.from).live; list = t.list; redone = (unit_at m t.list t.from).redone }

abbrev pub Described : Meaning → Option Stretch → Option Description → Type 0
Described m None r = r ≡ None
Described m (Some t) r = r ≡ Some (described m t)

-- the run and the offset in it that hold an id; none exactly if no list has it
abbrev pub Found : {P : Type 0} → Meaning → (P → Option Stretch) → Id → Option (P × ℕ) → Type 0
Found m stretch id None = (l i : ℕ) → i < length (m.units l) → (unit_at m l i).id ≢ id
Found m stretch id (Some r) = (t : Stretch) × (stretch r.0 ≡ Some t) × (r.1 < t.count) × ((unit_at m t.list (t.from + r.1)).id ≡ id)

-- a client's unit that stands in a list, at a clock or later
abbrev pub Later : Meaning → ℕ → ℕ → ℕ → ℕ → Type 0
Later m client clock l i = (i < length (m.units l)) × ((unit_at m l i).id.client ≡ client) × (clock ≤ (unit_at m l i).id.clock)

-- the client's listed run at a clock, or the next one after it; none exactly if it has none
abbrev pub Nearest : {P : Type 0} → Meaning → (P → Option Stretch) → ℕ → ℕ → Option P → Type 0
Nearest m stretch client clock None = (l i : ℕ) → Later m client clock l i → ⊥
Nearest m stretch client clock (Some p) = (t : Stretch) × (stretch p ≡ Some t) × ((unit_at m t.list t.from).id.client ≡ client) × (clock < (unit_at m t.list t.from).id.clock + t.count) × ((l i : ℕ) → Later m client clock l i → (unit_at m t.list t.from).id.clock ≤ (unit_at m l i).id.clock)

-- a list's length, and its holder
abbrev pub Counted : Meaning → ℕ → ℕ → Result ℕ Fault → Type 0
Counted m layers l (Ok n) = (l < m.lists) × (n ≡ length (seen (m.units l)))
Counted m layers l (Err e) = (m.lists ≤ l) × (e ≡ no_list layers l)

abbrev pub Held : Meaning → ℕ → ℕ → Result (Option Id) Fault → Type 0
Held m layers l (Ok o) = (l < m.lists) × (o ≡ m.holder l)
Held m layers l (Err e) = (m.lists ≤ l) × (e ≡ no_list layers l)

-- how many values a run has from an offset on: one a unit if its kind is counted, else none
abbrev pub valued : Meaning → Option Stretch → ℕ → ℕ
valued m None k = 0
valued m (Some t) k = cond (is_counted (unit_at m t.list t.from).kind) (t.count - k) 0

-- the units of a run from an offset on
abbrev pub units_from : Meaning → Option Stretch → ℕ → List UnitOf
units_from m None k = []
units_from m (Some t) k = drop (t.from + k) (m.units t.list)

-- the first slots show the run's units from the offset on, as many as there are values and slots; the other slots stay
pub record Reads (m : Meaning) (shown : Slot → Option (Kind × Worth)) (run : Option Stretch) (offset : ℕ) (before after : List Slot) (r : ℕ) : Type 0 where
  pub many : r ≡ min (valued m run offset) (length before)
  pub values : map shown (take r after) ≡ map (λ u. Some (facet u)) (take r (units_from m run offset))
  pub rest : drop r after ≡ drop r before

-- the value at an offset, none exactly if the run has none there
pub record Valued (m : Meaning) (shown : Slot → Option (Kind × Worth)) (run : Option Stretch) (offset : ℕ) (r : Option Slot) : Type 0 where
  pub none : valued m run offset ≡ 0 → r ≡ None
  pub some : 0 < valued m run offset → (s : Slot) × (r ≡ Some s) × (shown s ≡ Some (facet (slice_index_or (units_from m run offset) 0 no_unit)))

-- a slot shown as a value
abbrev pub faces : Option Value → Option (Kind × Worth)
faces None = None
faces (Some v) = Some (face v)

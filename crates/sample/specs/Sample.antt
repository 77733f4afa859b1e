-- The sample document: the units of its two lists, its runs, and what its slots show.
use Rattle.std.specs.Prelude.{◌≡◌, ℕ, zero, suc, ◌+◌, ◌<◌, ◌≤◌, true, false, cond, List, [], ◌∷◌, take, drop, Some, None, Option, ◌==◌, nat_lt}
use Rattle.block.specs.declared.ids.Id.{Id}
use Rattle.block.specs.declared.kind.Kind.{Kind}
use Rattle.block.specs.declared.kind.Kind.TheVariants as kinds
use Rattle.block.specs.declared.slot.Slot.{Slot}
use Rattle.block.specs.declared.slot.Slot.TheVariants as slots
use Rattle.block.specs.Units.{Meaning, Stretch, UnitOf, Worth, bytes, nested, unit_at}
use Rattle.block.specs.Values.{part_of}
use Rattle.reader.specs.declared.reader.Description.{Description}
use Rattle.sample.specs.declared.sample.Run.{Run}
use Rattle.sample.specs.declared.sample.Run.TheVariants.{Ab, Bold, Xy, Nest, C, Inner}

abbrev pub ident : ℕ → ℕ → Id
ident client clock = record { client = client; clock = clock }

-- a live unit, and a dead letter whose successor is the first unit
abbrev pub alive : ℕ → ℕ → Kind → Worth → UnitOf
alive client clock k w = record { id = ident client clock; kind = k; live = true; worth = w; redone = None }

abbrev pub dead : ℕ → ℕ → List ℕ → UnitOf
dead client clock b = record { id = ident client clock; kind = kinds.Text; live = false; worth = bytes b; redone = Some (ident 5 0) }

abbrev pub root : List UnitOf
root =
    alive 5 0 kinds.Text (bytes (97 ∷ []))
    ∷ alive 5 1 kinds.Text (bytes (98 ∷ []))
    ∷ alive 5 3 kinds.Format (bytes [])
    ∷ dead 9 0 (88 ∷ [])
    ∷ dead 9 1 (89 ∷ [])
    ∷ alive 9 2 kinds.List (nested 1)
    ∷ alive 5 2 kinds.Text (bytes (99 ∷ []))
    ∷ []

abbrev pub inner : List UnitOf
inner = alive 7 0 kinds.Text (bytes (195 ∷ 169 ∷ [])) ∷ []

abbrev pub units_of : ℕ → List UnitOf
units_of zero = root
units_of (suc zero) = inner
units_of (suc (suc l)) = []

abbrev pub holder_of : ℕ → Option Id
holder_of zero = None
holder_of (suc zero) = Some (ident 9 2)
holder_of (suc (suc l)) = None

abbrev pub known_of : ℕ → ℕ
known_of client = cond (client == 5) 4 (cond (client == 7) 1 (cond (client == 9) 3 0))

abbrev pub sample : Meaning
sample = record { lists = 2; units = units_of; holder = holder_of; known = known_of }

-- the stretch of each run, the id of its first unit, and how many values it has
abbrev pub span : Run → Stretch
span Ab = record { list = 0; from = 0; count = 2 }
span Bold = record { list = 0; from = 2; count = 1 }
span Xy = record { list = 0; from = 3; count = 2 }
span Nest = record { list = 0; from = 5; count = 1 }
span C = record { list = 0; from = 6; count = 1 }
span Inner = record { list = 1; from = 0; count = 1 }

abbrev pub start_of : Run → Id
start_of p = (unit_at sample (span p).list (span p).from).id

abbrev pub width : Run → ℕ
width Ab = 2
width Bold = 0
width Xy = 2
width Nest = 1
width C = 1
width Inner = 1

-- what is said of a live run
abbrev pub told : ℕ → ℕ → ℕ → Kind → ℕ → Description
told client clock n k l = record { id = ident client clock; len = n; kind = k; live = true; list = l; redone = None }

-- the run with a client's unit at a clock, and the offset in it; none exactly from the known clock on
abbrev pub Stands : ℕ → ℕ → Option (Run × ℕ) → Type 0
Stands client clock None = known_of client ≤ clock
Stands client clock (Some r) = (r.1 < (span r.0).count) × ((start_of r.0).client ≡ client) × ((start_of r.0).clock + r.1 ≡ clock)

abbrev pub content : List ℕ
content = 97 ∷ 98 ∷ 88 ∷ 89 ∷ 99 ∷ 195 ∷ 169 ∷ []

-- the slot of the unit at an offset of a run
abbrev pub slot_for : Run → ℕ → Slot
slot_for Ab k = slots.Content kinds.Text k 1
slot_for Bold k = slots.Empty
slot_for Xy k = slots.Content kinds.Text (2 + k) 1
slot_for Nest k = slots.List 1
slot_for C k = slots.Content kinds.Text 4 1
slot_for Inner k = slots.Content kinds.Text 5 2

-- what a slot shows: a part of the content, or a list that is there
abbrev pub shows : Slot → Option (Kind × Worth)
shows slots.Empty = None
shows (slots.Content k start len) = cond (nat_lt 7 (start + len)) None (part_of k (take len (drop start content)))
shows (slots.List l) = cond (nat_lt l 2) (Some (kinds.List, nested l)) None

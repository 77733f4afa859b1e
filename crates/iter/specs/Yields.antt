-- The visible units of slices, one after another.
use Rattle.std.specs.Prelude.{◌≡◌, ℕ, ◌+◌, ◌-◌, min, List, [], ◌∷◌, ◌++◌, take, drop, Some, None, Ok, Err, Option, Result}
use Rattle.block.specs.declared.fault.Fault.{Fault}
use Rattle.block.specs.declared.kind.Kind.{Kind}
use Rattle.block.specs.declared.slot.Slot.{Slot}
use Rattle.block.specs.Units.{Meaning, Stretch, UnitOf, Worth, seen}
use Rattle.block.specs.Values.{facet}
use Rattle.iter.specs.declared.slice.ItemSlice.{ItemSlice}
use Rattle.iter.specs.Ranges.{Course, Piece, piece_of}

-- the visible units of a run from one offset to another, both included; a foreign run has none
abbrev pub seen_in : Meaning → Option Stretch → ℕ → ℕ → List UnitOf
seen_in m None start end = []
seen_in m (Some t) start end = seen (take (min (end + 1) t.count - start) (drop (t.from + start) (m.units t.list)))

abbrev pub seen_of : {P : Type 0} → Meaning → (P → Option Stretch) → Piece P → List UnitOf
seen_of m st p = seen_in m (st p.place) p.start p.end

abbrev pub seen_all : {P : Type 0} → Meaning → (P → Option Stretch) → List (Piece P) → List UnitOf
seen_all m st [] = []
seen_all m st (p ∷ ps) = seen_of m st p ++ seen_all m st ps

-- the visible units of a slice that was begun
abbrev pub seen_held : {P : Type 0} → Meaning → (P → Option Stretch) → Option (ItemSlice P) → List UnitOf
seen_held m st None = []
seen_held m st (Some s) = seen_of m st (piece_of s)

-- the value of a slice's first visible unit, which is the slice's first; none if it has none
abbrev pub FirstValue : {P : Type 0} → Meaning → (P → Option Stretch) → (Slot → Option (Kind × Worth)) → ItemSlice P → Option Slot → Type 0
FirstValue m st shown s None = seen_of m st (piece_of s) ≡ []
FirstValue m st shown s (Some x) = (u : UnitOf) × (shown x ≡ Some (facet u)) × (seen_of m st (piece_of s) ≡ u ∷ seen_in m (st s.run.place) (s.start + 1) s.end)

-- the value of the first of the units us, and the others
abbrev pub FirstOf : (Slot → Option (Kind × Worth)) → List UnitOf → Option Slot → List UnitOf → Type 0
FirstOf shown us None vs = (us ≡ []) × (vs ≡ [])
FirstOf shown us (Some x) vs = (u : UnitOf) × (shown x ≡ Some (facet u)) × (us ≡ u ∷ vs)

-- the answer is the value of the first of the visible units us, and vs are the others; where there are none, it is how the slices end
abbrev pub GivesValue : (Slot → Option (Kind × Worth)) → List UnitOf → Option Fault → Result (Option Slot) Fault → List UnitOf → Option Fault → Type 0
GivesValue shown us f (Ok (Some x)) vs g = FirstOf shown us (Some x) vs × (f ≡ g)
GivesValue shown us f (Ok None) vs g = FirstOf shown us None vs × (f ≡ None) × (g ≡ None)
GivesValue shown us f (Err e) vs g = FirstOf shown us None vs × (f ≡ Some e) × (g ≡ None)

-- the visible units that come: those of the slice that was begun, and those of the slices that come
abbrev pub units_coming : {P : Type 0} → Meaning → (P → Option Stretch) → Option (ItemSlice P) → Course P → List UnitOf
units_coming m st current c = seen_held m st current ++ seen_all m st c.slices

-- the values that came with the slices c come with slices of i still
abbrev pub Still : {I P : Type 0} → Meaning → (P → Option Stretch) → (I → Course P → Type 0) → Option (ItemSlice P) → Course P → I → Option (ItemSlice P) → Type 0
Still m st coming current c i now-current = (d : Course _) × coming i d × (units_coming m st current c ≡ units_coming m st now-current d) × (c.fault ≡ d.fault)

-- one step through values, where the slices c come
pub record Yields {I P : Type 0} (m : Meaning) (st : P → Option Stretch) (shown : Slot → Option (Kind × Worth)) (coming : I → Course P → Type 0) (current : Option (ItemSlice P)) (c : Course P) (r : Result (Option Slot) Fault) (t : I) (then-current : Option (ItemSlice P)) : Type 0 where
  pub later : Course P
  pub comes : coming t later
  pub value : GivesValue shown (units_coming m st current c) c.fault r (units_coming m st then-current later) later.fault

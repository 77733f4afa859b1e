-- The slices of the runs between two marks, and how a range ends.
use Rattle.std.specs.Prelude.{◌≡◌, ℕ, ◌+◌, ◌-◌, cond, List, [], ◌∷◌, Some, None, Ok, Err, Option, Result, nat_lt}
use Rattle.std.specs.Option.{option_map}
use Rattle.block.specs.declared.ids.Id.{Id}
use Rattle.block.specs.Ids.{offset_in}
use Rattle.block.specs.declared.fault.Fault.{Fault}
use Rattle.block.specs.declared.fault.Code.TheVariants.{Backwards}
use Rattle.block.specs.declared.fault.Part.TheVariants.{Range}
use Rattle.block.specs.declared.fault.Spot.TheVariants as spots
use Rattle.reader.specs.declared.reader.Description.{Description}
use Rattle.sticky_index.specs.declared.index.Assoc.{Assoc}
use Rattle.sticky_index.specs.declared.index.Assoc.TheVariants.{Before, After}
use Rattle.sticky_index.specs.declared.index.IndexScope.{IndexScope}
use Rattle.sticky_index.specs.declared.index.IndexScope.TheVariants.{Relative, Nested, Root}
use Rattle.sticky_index.specs.declared.index.StickyIndex.{StickyIndex}
use Rattle.iter.specs.Bare.{Bare}
use Rattle.iter.specs.declared.slice.ItemSlice.{ItemSlice}
use Rattle.iter.specs.declared.state.RangeIterState.{RangeIterState}
use Rattle.iter.specs.declared.state.RangeIterState.TheVariants.{Opened, InRange, Closed}

-- a part of a run: its units from one offset to another, both included
pub record Piece (P : Type 0) : Type 0 where
  pub place : P
  pub run : Description
  pub start : ℕ
  pub end : ℕ

abbrev pub piece_of : {P : Type 0} → ItemSlice P → Piece P
piece_of s = record { place = s.run.place; run = s.run.about; start = s.start; end = s.end }

-- what a range gives: slices, and in the end perhaps a refusal
pub record Course (P : Type 0) : Type 0 where
  pub slices : List (Piece P)
  pub fault : Option Fault

abbrev pub over : {P : Type 0} → Course P
over = record { slices = []; fault = None }

abbrev pub broken : {P : Type 0} → Fault → Course P
broken f = record { slices = []; fault = Some f }

abbrev pub put : {P : Type 0} → Piece P → Course P → Course P
put p c = record { slices = p ∷ c.slices; fault = c.fault }

-- the refusal of an end that stands before the start
abbrev pub backwards : Id → Fault
backwards id = record { code = Backwards; part = Range; spot = spots.Unit id; clips = 0 }

-- how many units of a run stand before an edge at the unit with this offset
abbrev pub edge : Assoc → ℕ → ℕ
edge Before k = k
edge After k = k + 1

-- the unit of a mark and its offset in a run, if the run has it; a mark on a list is no edge
abbrev pub met : Description → IndexScope → Option (Id × ℕ)
met run (Relative id) = option_map (λ k. (id, k)) (offset_in id run.id run.len)
met run (Nested id) = None
met run (Root l) = None

-- the offset at which a range starts, if it starts in this run; without an edge it starts in the first
abbrev pub first_in : Description → Assoc → IndexScope → Option ℕ
first_in run lean (Relative id) = option_map (edge lean) (offset_in id run.id run.len)
first_in run lean (Nested id) = Some 0
first_in run lean (Root l) = Some 0

-- the units of a run from offset k up to offset z, which is excluded, and then what comes later
abbrev pub part : {P : Type 0} → Bare P → ℕ → ℕ → Course P → Course P
part w k z later = cond (nat_lt k z) (put (record { place = w.place; run = w.about; start = k; end = z - 1 }) later) later

-- what comes from offset k of a run on, where the end's unit and its offset in the run are given
abbrev pub cut_at : {P : Type 0} → Bare P → ℕ → Assoc → Option (Id × ℕ) → Course P → Course P
cut_at w k lean None later = part w k w.about.len later
cut_at w k lean (Some (id, at)) later = cond (nat_lt at k) (broken (backwards id)) (part w k (edge lean at) over)

abbrev pub cut : {P : Type 0} → Bare P → ℕ → StickyIndex → Course P → Course P
cut w k end later = cut_at w k end.assoc (met w.about end.scope) later

-- what comes from a run on: nothing of it before the range starts
abbrev pub enter : {P : Type 0} → Option ℕ → Bare P → StickyIndex → Course P → Course P → Course P
enter None w end passed later = passed
enter (Some k) w end passed later = cut w k end later

-- what a range gives of the runs that are still to come
abbrev pub course : {P : Type 0} → RangeIterState → StickyIndex → StickyIndex → List (Bare P) → Course P
course Opened start end [] = over
course Opened start end (w ∷ ws) = enter (first_in w.about start.assoc start.scope) w end (course Opened start end ws) (course InRange start end ws)
course InRange start end [] = over
course InRange start end (w ∷ ws) = cut w 0 end (course InRange start end ws)
course Closed start end ws = over

-- an answer and what comes after it: nothing, a slice, or a refusal, after which nothing comes
abbrev pub Answers : {P : Type 0} → Course P → Result (Option (ItemSlice P)) Fault → Course P → Type 0
Answers c (Ok None) later = c ≡ later
Answers c (Ok (Some s)) later = c ≡ put (piece_of s) later
Answers c (Err f) later = (c ≡ broken f) × (later ≡ over)

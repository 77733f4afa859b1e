-- What a cursor over a reader stands for, and what one call of it answers.
use Rattle.std.specs.Prelude.{◌≡◌, ℕ, ◌+◌, ◌<◌, ◌≤◌, cond, List, length, drop, Some, None, Ok, Err, Option, Result, nat_lt, slice_index_or}
use Rattle.block.specs.declared.fault.Fault.{Fault}
use Rattle.block.specs.declared.kind.Kind.{Kind}
use Rattle.block.specs.declared.slot.Slot.{Slot}
use Rattle.block.specs.Units.{Meaning, Stretch, UnitOf, Worth, no_unit, seen}
use Rattle.block.specs.Values.{facet}
use Rattle.block.specs.Plain.{too_far, next_units}
use Rattle.reader.specs.Answers.{no_list}
use Rattle.block_iter.specs.Walks.{Sees, Shows}

-- what a contract sees of a cursor: its reader, the list and its length, the place where it stands, rel units into the
-- run there, and how many visible units it has passed
pub record Cursor (R P : Type 0) : Type 0 where
  pub reader : R
  pub list : ℕ
  pub len : ℕ
  pub place : Option P
  pub rel : ℕ
  pub index : ℕ

abbrev pub cursor : {R P : Type 0} → R → ℕ → ℕ → Option P → ℕ → ℕ → Cursor R P
cursor r l n p rel i = record { reader = r; list = l; len = n; place = p; rel = rel; index = i }

-- the plain cursor's answer to a call for n units at index i of the visible units vs of list l, and its index then
abbrev pub answer : ℕ → List UnitOf → ℕ → ℕ → Result (Unit {0}) Fault
answer l vs i n = cond (nat_lt (length vs) (i + n)) (Err (too_far l)) (Ok tt)

abbrev pub index_after : List UnitOf → ℕ → ℕ → ℕ
index_after vs i n = cond (nat_lt (length vs) (i + n)) i (i + n)

-- the visible units of a cursor's list
abbrev pub visible_of : {R P : Type 0} → (R → Meaning) → Cursor R P → List UnitOf
visible_of meaning c = seen ((meaning c.reader).units c.list)

-- a cursor's length is its list's, its index is within it, and at its place come the visible units from the index on
pub record Sound {R P : Type 0} (meaning : R → Meaning) (stretch : R → P → Option Stretch) (c : Cursor R P) : Type 0 where
  pub counted : c.len ≡ length (visible_of meaning c)
  pub inside : c.index ≤ c.len
  pub ahead : Sees (meaning c.reader) (stretch c.reader) c.list c.place c.rel (drop c.index (visible_of meaning c))

-- the reader, the list and its length are the same
pub record Same {R P : Type 0} (c d : Cursor R P) : Type 0 where
  pub reader : d.reader ≡ c.reader
  pub list : d.list ≡ c.list
  pub len : d.len ≡ c.len

-- what an opening answers: a sound cursor at index 0 over the reader and the list, or the reader with its own refusal of a list that is not there
abbrev pub Opened : {R P : Type 0} → (R → Meaning) → (R → P → Option Stretch) → (R → ℕ) → R → ℕ → Result (Cursor R P) (R × Fault) → Type 0
Opened meaning stretch layers r l (Ok c) = (l < (meaning r).lists) × (c.reader ≡ r) × (c.list ≡ l) × (c.index ≡ 0) × Sound meaning stretch c
Opened meaning stretch layers r l (Err e) = ((meaning r).lists ≤ l) × (e.0 ≡ r) × (e.1 ≡ no_list (layers r) l)

-- a call for n units: the plain cursor's answer and index, and a sound cursor after it
pub record Moved {R P : Type 0} (meaning : R → Meaning) (stretch : R → P → Option Stretch) (c : Cursor R P) (n : ℕ) (r : Result (Unit {0}) Fault) (d : Cursor R P) : Type 0 where
  pub answer_is : r ≡ answer c.list (visible_of meaning c) c.index n
  pub index_is : d.index ≡ index_after (visible_of meaning c) c.index n
  pub sound : Sound meaning stretch d

-- the slots show the next units, as many as there are slots
abbrev pub ShowsNext : {R P : Type 0} → (R → Meaning) → (R → Slot → Option (Kind × Worth)) → Cursor R P → List Slot → Type 0
ShowsNext meaning shown c slots = Shows (shown c.reader) slots (next_units (visible_of meaning c) c.index (length slots))

-- the next value: none at the end, and then nothing changes; else what the visible unit at the index shows
abbrev pub Next : {R P : Type 0} → (R → Meaning) → (R → P → Option Stretch) → (R → Slot → Option (Kind × Worth)) → Cursor R P → Option Slot → Cursor R P → Type 0
Next meaning stretch shown c None d = (c.index ≡ length (visible_of meaning c)) × (d ≡ c) × Sound meaning stretch d
Next meaning stretch shown c (Some s) d = (c.index < length (visible_of meaning c)) × (shown c.reader s ≡ Some (facet (slice_index_or (visible_of meaning c) c.index no_unit))) × (d.index ≡ c.index + 1) × Sound meaning stretch d

-- The slot of a unit, and what a slot shows.
use Rattle.std.specs.Prelude.{◌≡◌, ℕ, ◌+◌, ◌-◌, ◌<◌, min, cond, List, [], length, take, drop, Some, None, Option, nat_le, nat_lt, slice_index_or}
use Rattle.block.specs.Kinds.{is_counted}
use Rattle.block.specs.Units.{Worth, nested}
use Rattle.block.specs.Values.{part_of}
use Rattle.block.specs.declared.kind.Kind.{Kind}
use Rattle.block.specs.declared.kind.Kind.TheVariants as kinds
use Rattle.block.specs.declared.slot.Slot.{Slot}
use Rattle.block.specs.declared.slot.Slot.TheVariants as slots
use Rattle.store.specs.declared.records.RunRecord.{RunRecord}
use Rattle.store.specs.Kinds.{kind_of}
use Rattle.store.specs.Records.{Store, entry_at, bytes_of}
use Rattle.document.specs.Meaning.{list_held}
use Rattle.utf8.specs.Reading.{characters, together}
use Rattle.utf8.specs.Table.{utf8_char}

-- a slot shows the bytes that it names, or the list; none where there are no such bytes, or no such list
abbrev pub shown_in : Store → Slot → Option (Kind × Worth)
shown_in s slots.Empty = None
shown_in s (slots.Content kind start len) = cond (nat_le (start + len) (length s.bytes)) (part_of kind (take len (drop start s.bytes))) None
shown_in s (slots.List l) = cond (nat_lt l (length s.lists)) (Some (kinds.List, nested l)) None

-- the slot of an entry
abbrev pub entry_slot : Store → Kind → ℕ → Slot
entry_slot s kind e = slots.Content kind (entry_at s e).start (entry_at s e).len

-- where a character begins, counted in bytes
abbrev pub place_of : List (List ℕ) → ℕ → ℕ
place_of cs k = length (together (take k cs))

-- the slot of character k of a text that begins at this byte
abbrev pub text_slot : ℕ → List (List ℕ) → ℕ → Slot
text_slot start cs k = slots.Content kinds.Text (start + place_of cs k) (length (slice_index_or cs k []))

-- one byte of a text
abbrev pub byte_slot : ℕ → ℕ → Slot
byte_slot start k = slots.Content kinds.Text (start + k) 1

-- the slot of unit k of a run
abbrev pub slot_of : Store → Kind → RunRecord → ℕ → Slot
slot_of s kinds.Gc r k = slots.Empty
slot_of s kinds.Deleted r k = slots.Empty
slot_of s kinds.Json r k = entry_slot s kinds.Json (r.entry + k)
slot_of s kinds.Binary r k = entry_slot s kinds.Binary (r.entry + k)
slot_of s kinds.Text r k = text_slot (entry_at s r.entry).start (characters utf8_char (bytes_of s (entry_at s r.entry))) k
slot_of s kinds.Embed r k = entry_slot s kinds.Embed (r.entry + k)
slot_of s kinds.Format r k = slots.Empty
slot_of s kinds.List r k = slots.List (list_held s r.id)
slot_of s kinds.Any r k = entry_slot s kinds.Any (r.entry + k)
slot_of s kinds.Doc r k = entry_slot s kinds.Doc (r.entry + k)
slot_of s kinds.Skip r k = slots.Empty

-- how many values a run has from an offset on, as far as there is room
abbrev pub count_from : RunRecord → ℕ → ℕ → ℕ
count_from r offset room = min (cond (is_counted (kind_of r.kind)) (r.len - offset) 0) room

-- each of the first n slots is one that its number allows
pub record Written (allows : ℕ → Slot → Type 0) (n : ℕ) (before after : List Slot) : Type 0 where
  pub written : (k : ℕ) → k < n → allows k (slice_index_or after k slots.Empty)
  pub long : length after ≡ length before

-- the slots are these
abbrev pub Filled : (ℕ → Slot) → List Slot → List Slot → Type 0
Filled f before after = Written (λ k v. v ≡ f k) (length before) before after

-- The planner's question: where is a mark, and which steps follow?
use Rattle.std.specs.Prelude.{◌≡◌, ℕ, ◌-◌, min, List, length, take, drop, Ok, Err, Option, Result}
use Rattle.block.specs.declared.fault.Fault.{Fault}
use Rattle.block.specs.declared.kind.Kind.{Kind}
use Rattle.block.specs.declared.slot.Slot.{Slot}
use Rattle.block.specs.Units.{Meaning, UnitOf, Worth, seen}
use Rattle.block.specs.Plain.{next_units}
use Rattle.block_iter.specs.Walks.{Shows}
use Rattle.sticky_index.specs.declared.index.StickyIndex.{StickyIndex}
use Rattle.sticky_index.specs.Marks.{offset_of}
use Rattle.planner.specs.declared.planner.Steps.{Steps}

-- the first slots show the visible units from index i on, as many as there are, up to the buffer; the other slots stay
pub record ReadFrom (shown : Slot → Option (Kind × Worth)) (vs : List UnitOf) (i : ℕ) (before after : List Slot) (read : ℕ) : Type 0 where
  pub many : read ≡ min (length before) (length vs - i)
  pub values : Shows shown (take read after) (next_units vs i read)
  pub rest : drop read after ≡ drop read before

-- the mark's offset with the steps that follow it, or the fault of a mark that is lost, and then the slots stay
abbrev pub Follows : ℕ → Meaning → (Slot → Option (Kind × Worth)) → StickyIndex → List Slot → List Slot → Result Steps Fault → Type 0
Follows layers m shown mark before after (Ok s) = (offset_of layers m mark ≡ Ok s.at) × ReadFrom shown (seen (m.units s.at.list)) s.at.index before after s.read
Follows layers m shown mark before after (Err e) = (offset_of layers m mark ≡ Err e) × (after ≡ before)

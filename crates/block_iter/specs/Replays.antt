-- What any calls of a cursor leave, by the plain cursor.
use Rattle.std.specs.Prelude.{◌≡◌, ℕ, ◌+◌, ◌≤◌, cond, List, [], ◌∷◌, ◌++◌, length, take, drop, Some, None, Ok, Err, Option, Result, nat_lt}
use Rattle.std.specs.Result.{result_unwrap_or}
use Rattle.block.specs.declared.call.Call.{Call}
use Rattle.block.specs.declared.call.Call.TheVariants.{Skip, Read}
use Rattle.block.specs.declared.fault.Fault.{Fault}
use Rattle.block.specs.declared.kind.Kind.{Kind}
use Rattle.block.specs.declared.slot.Slot.{Slot}
use Rattle.block.specs.Units.{Meaning, UnitOf, Worth, seen}
use Rattle.block.specs.Plain.{Plain, asked, filled, plain_call, plain_run}
use Rattle.reader.specs.Answers.{no_list}
use Rattle.block_iter.specs.declared.replay.Replayed.{Replayed}
use Rattle.block_iter.specs.declared.replay.Refusal.{Refusal}
use Rattle.block_iter.specs.declared.replay.Refusal.TheVariants.{Refused, FewOutcomes, FewSlots}
use Rattle.block_iter.specs.Walks.{Shows}
use Rattle.block_iter.specs.Cursors.{Cursor, visible_of}

-- the outcome of a call that filled so many slots or was refused
abbrev pub outcome_of : Result ℕ Fault → Result (Unit {0}) Fault
outcome_of (Ok n) = Ok tt
outcome_of (Err e) = Err e

-- a cursor with the slots that were filled so far is where a plain cursor is
pub record Matches {R P : Type 0} (shown : R → Slot → Option (Kind × Worth)) (s : Plain) (c : Cursor R P) (slots : List Slot) : Type 0 where
  pub index : c.index ≡ s.index
  pub values : Shows (shown c.reader) slots s.shown

-- one call in numbers, on a list of len visible units: the index, and how many slots are filled, after it
abbrev pub counted : ℕ → ℕ × ℕ → Call → ℕ × ℕ
counted len t call = cond (nat_lt len (t.0 + asked call)) t (t.0 + asked call, t.1 + filled call)

-- there are slots for what a call reads
abbrev pub Room : {R P : Type 0} → (R → Meaning) → Cursor R P → Call → ℕ → Type 0
Room meaning c (Skip n) room = Unit {0}
Room meaning c (Read n) room = c.index + n ≤ length (visible_of meaning c) → n ≤ room

-- a fresh cursor, with room for the outcomes of all calls and for what they read
pub record Ready {R P : Type 0} (meaning : R → Meaning) (c : Cursor R P) (calls : List Call) (outs room : ℕ) : Type 0 where
  pub fresh : c.index ≡ 0
  pub each : length calls ≤ outs
  pub enough : length (plain_run c.list (visible_of meaning c) calls).shown ≤ room

-- one call goes as the plain cursor's: the slots that it fills come after those that were filled before it
abbrev pub Performed : {R P : Type 0} → (R → Meaning) → (R → Slot → Option (Kind × Worth)) → Cursor R P → Call → Result ℕ Fault → Cursor R P → List Slot → Type 0
Performed meaning shown c call r d after =
    (s : Plain) (slots : List Slot) → Matches shown s c slots →
    ((plain_call c.list (visible_of meaning c) s call).outcomes ≡ s.outcomes ++ (outcome_of r ∷ [])) × Matches shown (plain_call c.list (visible_of meaning c) s call) d (slots ++ take (result_unwrap_or r 0) after)

-- what all calls leave: the plain cursor's outcomes, index and shown units; it has passed the first visible units,
-- each once, as many as its index `at`; outcomes and slots that were not used stay
pub record Played (vs : List UnitOf) (l : ℕ) (shown : Slot → Option (Kind × Worth)) (calls : List Call) (outs outs-after : List (Result (Unit {0}) Fault)) (slots slots-after : List Slot) (at used : ℕ) : Type 0 where
  pub outcomes : take (length calls) outs-after ≡ (plain_run l vs calls).outcomes
  pub index : at ≡ (plain_run l vs calls).index
  pub passed : (plain_run l vs calls).passed ≡ take at vs
  pub many : used ≡ length (plain_run l vs calls).shown
  pub values : Shows shown (take used slots-after) (plain_run l vs calls).shown
  pub other_outcomes : drop (length calls) outs-after ≡ drop (length calls) outs
  pub other_slots : drop used slots-after ≡ drop used slots

-- the buffer that is too small for these calls, if one is, with the places that they need
abbrev pub too_small : ℕ → List UnitOf → List Call → ℕ → ℕ → Option Refusal
too_small l vs calls outs room =
    cond (nat_lt outs (length calls)) (Some (FewOutcomes (length calls)))
    (cond (nat_lt room (length (plain_run l vs calls).shown)) (Some (FewSlots (length (plain_run l vs calls).shown))) None)

-- what a cursor that was just opened answers to calls: a buffer is too small, and then nothing changes; or all calls were made
abbrev pub Plays : List UnitOf → ℕ → (Slot → Option (Kind × Worth)) → List Call → List (Result (Unit {0}) Fault) → List (Result (Unit {0}) Fault) → List Slot → List Slot → Result Replayed Refusal → Type 0
Plays vs l shown calls outs outs-after slots slots-after (Ok p) = (too_small l vs calls (length outs) (length slots) ≡ None) × Played vs l shown calls outs outs-after slots slots-after p.index p.used
Plays vs l shown calls outs outs-after slots slots-after (Err e) = (too_small l vs calls (length outs) (length slots) ≡ Some e) × (outs-after ≡ outs) × (slots-after ≡ slots)

-- why no call is made, if so: the list is not there, or a buffer is too small
abbrev pub refusal : Meaning → ℕ → ℕ → List Call → ℕ → ℕ → Option Refusal
refusal m layers l calls outs room = cond (nat_lt l m.lists) (too_small l (seen (m.units l)) calls outs room) (Some (Refused (no_list layers l)))

-- what a replay answers: refused before the first call, and then nothing changes; or all calls were made
abbrev pub Replays : Meaning → (Slot → Option (Kind × Worth)) → ℕ → ℕ → List Call → List (Result (Unit {0}) Fault) → List (Result (Unit {0}) Fault) → List Slot → List Slot → Result Replayed Refusal → Type 0
Replays m shown layers l calls outs outs-after slots slots-after (Ok p) = (refusal m layers l calls (length outs) (length slots) ≡ None) × Played (seen (m.units l)) l shown calls outs outs-after slots slots-after p.index p.used
Replays m shown layers l calls outs outs-after slots slots-after (Err e) = (refusal m layers l calls (length outs) (length slots) ≡ Some e) × (outs-after ≡ outs) × (slots-after ≡ slots)

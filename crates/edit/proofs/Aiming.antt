-- An edit that is not refused has found its run.
use Rattle.std.proofs.Common.{◌≡◌, ℕ, ◌<◌, Bool, true, false, cond, ltb, length, is_some, Some, None, Ok, Err, Option, Result, sym, refl, ap, ◌∙◌}
use Rattle.std.proofs.lemmas.Bool.{and_parts}
use Rattle.std.proofs.lemmas.List.Quantifiers.{position-Some}
use Rattle.std.specs.Option.{ok_or}
use Rattle.block.specs.declared.fault.Fault.{Fault}
use Rattle.block.specs.declared.ids.Id.{Id}
use Rattle.store.specs.declared.tables.Tables.{Tables}
use Rattle.store.specs.Limits.{used}
use Rattle.store.specs.Records.{Store, run_at, no_run}
use Rattle.document.specs.Finds.{has}
use Rattle.document.specs.Meaning.{clock_in}
use Rattle.edit.specs.Aims.{table_fault, lists_unit, listed_run, placed, unless, aimed, and_then, can_be_redone, unless_misplaced, redo_placed, redo_aimed}

unless_ok : (o : Option Fault) (r : Result ℕ Fault) (i : ℕ) → Ok i ≡ unless o r → (o ≡ None) × (r ≡ Ok i)
unless_ok None r i h = (refl, sym h)
unless_ok (Some f) r i h = cc

listed_ok : (o : Option ℕ) (f : Fault) (i : ℕ) → ok_or o f ≡ Ok i → o ≡ Some i
listed_ok None f i h = cc
listed_ok (Some j) f i h = let e : j ≡ i = cc in ap Some e

same_ok : (j i : ℕ) → ◌≡◌ {A = Result ℕ Fault} (Ok j) (Ok i) → j ≡ i
same_ok j i h = cc

cond_ok : (b : Bool) (r : Result ℕ Fault) (f : Fault) (i : ℕ) → cond b r (Err f) ≡ Ok i → r ≡ Ok i
cond_ok true r f i h = h
cond_ok false r f i h = cc

pub record Placed (s : Store) (id : Id) (i : ℕ) : Type 0 where
  pub within : i < length s.runs
  pub listed : is_some (run_at s i).list ≡ true
  pub there : has id (run_at s i) ≡ true

pub placed_ok : (s : Store) (id : Id) (i : ℕ) → placed s id ≡ Ok i → Placed s id i
placed_ok s id i h =
    let e : listed_run s id ≡ Some i = listed_ok (listed_run s id) _ i (cond_ok (ltb id.clock (clock_in s.clients id.client)) _ _ i h) in
    let f = position-Some (lists_unit id) s.runs i no_run e in
    let p = and_parts (is_some (run_at s i).list) (has id (run_at s i)) f.1 in
    record { within = f.0; listed = p.0; there = p.1 }

pub record Aimed (t : Tables) (id : Id) (i : ℕ) : Type 0 where
  pub examined : table_fault t ≡ None
  pub at : Placed (used t) id i

pub aimed_ok : (t : Tables) (id : Id) (i : ℕ) → Ok i ≡ aimed t id → Aimed t id i
aimed_ok t id i h =
    let p = unless_ok (table_fault t) (placed (used t) id) i h in
    record { examined = p.0; at = placed_ok (used t) id i p.1 }

and_then_ok : (r : Result ℕ Fault) (k : ℕ → Result ℕ Fault) (i : ℕ) → and_then r k ≡ Ok i → (j : ℕ) × (r ≡ Ok j) × (k j ≡ Ok i)
and_then_ok (Ok j) k i h = (j, refl, h)
and_then_ok (Err f) k i h = cc

-- the run and that of its successor
pub record RedoAimed (t : Tables) (id next : Id) (i : ℕ) : Type 0 where
  pub examined : table_fault t ≡ None
  pub at : Placed (used t) id i
  pub next_run : ℕ
  pub next_at : Placed (used t) next next_run

pub redo_aimed_ok : (t : Tables) (id next : Id) (i : ℕ) → Ok i ≡ redo_aimed t id next → RedoAimed t id next i
redo_aimed_ok t id next i h =
    let p = unless_ok (table_fault t) (redo_placed (used t) id next) i h in
    let a = and_then_ok (placed (used t) id) (λ i. and_then (placed (used t) next) (λ j. unless_misplaced (used t) id i)) i p.1 in
    let b = and_then_ok (placed (used t) next) (λ j. unless_misplaced (used t) id a.0) i a.2 in
    let e : a.0 ≡ i = same_ok a.0 i (cond_ok (can_be_redone (run_at (used t) a.0)) (Ok a.0) _ i b.2) in
    record { examined = p.0; at = placed_ok (used t) id i (a.1 ∙ ap Ok e); next_run = b.0; next_at = placed_ok (used t) next b.0 b.1 }

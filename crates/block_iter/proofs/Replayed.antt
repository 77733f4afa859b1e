-- Many calls of a cursor, one after the other: b is the cursor at their start, c and d those before and after call i.
use Rattle.std.proofs.Common.{◌≡◌, ℕ, ◌+◌, ◌-◌, ◌<◌, ◌≤◌, ltb, List, [], ◌∷◌, ◌++◌, length, get_or, take, drop, set, Some, None, Option, Result, sym, refl, ap, ◌∙◌, subst, inl, inr, arith, take_all, drop-drop, drop-set-lt, length-take}
use lib.Seq.{drop-append-add, drop-append-le}
use borrow.Rule.Slice.PartMut.{mid_of, post_of, put_mid, put_same}
use Rattle.std.specs.Result.{result_unwrap_or}
use Rattle.std.proofs.lemmas.List.{length-map, take_more_set}
use Rattle.std.proofs.lemmas.List.Sums.{fold_more}
use Rattle.std.proofs.lemmas.Bool.{cases_Bool, ltb-false, cond-true, cond-false}
use Rattle.block.specs.declared.call.Call.{Call}
use Rattle.block.specs.declared.call.Call.TheVariants.{Skip, Read}
use Rattle.block.specs.declared.fault.Fault.{Fault}
use Rattle.block.specs.declared.kind.Kind.{Kind}
use Rattle.block.specs.declared.slot.Slot.{Slot}
use Rattle.block.specs.Units.{Meaning, UnitOf, Worth}
use Rattle.block.specs.Plain.{Plain, plain_call, plain_start, plain_run}
use Rattle.block.proofs.Plains.{counts_accepted, run_passes, shown_so_far}
use Rattle.block_iter.specs.Walks.{Shows}
use Rattle.block_iter.specs.Cursors.{Cursor, Same, visible_of}
use Rattle.block_iter.specs.declared.replay.Refusal.TheVariants.{FewOutcomes, FewSlots}
use Rattle.block_iter.specs.Replays.{Matches, Room, Performed, Played, outcome_of, too_small}
use Rattle.block_iter.proofs.Moves.{same_visible}
use Rattle.block_iter.proofs.Fills.{put_front}

-- what stays behind an index stays behind a later one
stays_behind : {X : Type 0} (xs ys : List X) (i k : ℕ) → i ≤ k → drop i xs ≡ drop i ys → drop k xs ≡ drop k ys
stays_behind xs ys i k h e =
    let n : i + (k - i) ≡ k = omega arith in
    let f : (zs : List _) → drop (k - i) (drop i zs) ≡ drop k zs = λ zs. drop-drop (k - i) i zs ∙ ap (λ (j : ℕ). drop j zs) n in
    sym (f xs) ∙ ap (drop (k - i)) e ∙ f ys

pub set_behind : {X : Type 0} (xs ys : List X) (i : ℕ) (x : X) → drop i xs ≡ drop i ys → drop (i + 1) (set xs i x) ≡ drop (i + 1) ys
set_behind xs ys i x e = drop-set-lt (i + 1) xs i x (omega arith) ∙ stays_behind xs ys i (i + 1) (omega arith) e

-- slots that show units are as many
used_shown : (shown : Slot → Option (Kind × Worth)) (slots : List Slot) (used : ℕ) (us : List UnitOf) → used ≤ length slots → Shows shown (take used slots) us → used ≡ length us
used_shown shown slots used us most e = let n = simp (length-map, length-take) at (ap length e) in omega (arith, most, n)

-- what stands behind the first n of a part that was put back
behind_put : (slots part : List Slot) (used k n : ℕ) → used ≤ length slots → n ≤ length part → drop (used + n) (put_mid used k slots part) ≡ drop n part ++ post_of used k slots
behind_put slots part used k n h f =
    let rest = post_of used k slots in
    let at : length (take used slots) ≡ used = simp length-take (omega arith) in
    subst (λ (i : ℕ). drop (i + n) (take used slots ++ (part ++ rest)) ≡ drop n part ++ rest) at
    (drop-append-add (take used slots) (part ++ rest) n ∙ drop-append-le n part rest f)

module _ {R P : Type 0} (meaning : R → Meaning) (shown : R → Slot → Option (Kind × Worth)) (b c d : Cursor R P) (same : Same b c) (calls : List Call) (i : ℕ) (none : Call) (h : i < length calls) where
  next_state : plain_call c.list (visible_of meaning c) (plain_run b.list (visible_of meaning b) (take i calls)) (get_or calls i none) ≡ plain_run b.list (visible_of meaning b) (take (i + 1) calls)
  next_state =
      let s = plain_run b.list (visible_of meaning b) (take i calls) in
      ap (λ (l : ℕ). plain_call l (visible_of meaning c) s (get_or calls i none)) same.list
      ∙ ap (λ (vs : List UnitOf). plain_call b.list vs s (get_or calls i none)) (same_visible meaning b c same)
      ∙ sym (fold_more (plain_call b.list (visible_of meaning b)) plain_start calls i none h)

  module _ (slots : List Slot) (used : ℕ) (most : used ≤ length slots) (match : Matches shown (plain_run b.list (visible_of meaning b) (take i calls)) c (take used slots)) where
    room_at : length (plain_run b.list (visible_of meaning b) calls).shown ≤ length slots → (room : ℕ) → used + room ≡ length slots → (x : Call) → get_or calls i none ≡ x → Room meaning c x room
    room_at enough room left (Skip n) e = tt
    room_at enough room left (Read n) e = λ fits.
        let s = plain_run b.list (visible_of meaning b) (take i calls) in
        let at = match.index in
        let many = used_shown (shown c.reader) slots used s.shown most match.values in
        let more = (counts_accepted c.list (visible_of meaning c) s (Read n) (omega arith)).1 in
        let then = ap (λ (x : Plain). length x.shown) (ap (λ (x : Call). plain_call c.list (visible_of meaning c) s x) (sym e) ∙ next_state) in
        omega (arith, shown_so_far b.list (visible_of meaning b) calls (i + 1))

    -- there is room for call i
    pub room_for : length (plain_run b.list (visible_of meaning b) calls).shown ≤ length slots → (room : ℕ) → used + room ≡ length slots → Room meaning c (get_or calls i none) room
    room_for enough room left = room_at enough room left (get_or calls i none) refl

    module _ (r : Result ℕ Fault) (k : ℕ) (after : List Slot) (long : length after ≡ length (mid_of used k slots)) (few : result_unwrap_or r 0 ≤ length (mid_of used k slots)) (done : Performed meaning shown c (get_or calls i none) r d after) where
      pub matches_more : Matches shown (plain_run b.list (visible_of meaning b) (take (i + 1) calls)) d (take (used + result_unwrap_or r 0) (put_mid used k slots after))
      matches_more =
          let n = result_unwrap_or r 0 in
          let s = plain_run b.list (visible_of meaning b) (take i calls) in
          let front : take (used + n) (put_mid used k slots after) ≡ take used slots ++ take n after = put_front slots after used k n most (omega arith) in
          subst (λ (s : Plain). Matches shown s d (take (used + n) (put_mid used k slots after))) next_state
          (subst (λ (filled : List Slot). Matches shown (plain_call c.list (visible_of meaning c) s (get_or calls i none)) d filled) (sym front) (done s (take used slots) match).1)

      pub outcomes_more : (outcomes : List (Result (Unit {0}) Fault)) → i < length outcomes → take i outcomes ≡ (plain_run b.list (visible_of meaning b) (take i calls)).outcomes → take (i + 1) (set outcomes i (outcome_of r)) ≡ (plain_run b.list (visible_of meaning b) (take (i + 1) calls)).outcomes
      outcomes_more outcomes k e =
          take_more_set outcomes i (outcome_of r) k
          ∙ ap (λ (os : List (Result (Unit {0}) Fault)). os ++ (outcome_of r ∷ [])) e
          ∙ sym (done (plain_run b.list (visible_of meaning b) (take i calls)) (take used slots) match).0
          ∙ ap (λ (s : Plain). s.outcomes) next_state

      pub slots_behind : (start : List Slot) → drop (result_unwrap_or r 0) after ≡ drop (result_unwrap_or r 0) (mid_of used k slots) → drop used slots ≡ drop used start → drop (used + result_unwrap_or r 0) (put_mid used k slots after) ≡ drop (used + result_unwrap_or r 0) start
      slots_behind start rest e =
          let n = result_unwrap_or r 0 in
          behind_put slots after used k n most (omega arith)
          ∙ ap (λ (xs : List Slot). xs ++ post_of used k slots) rest
          ∙ sym (behind_put slots (mid_of used k slots) used k n most few)
          ∙ ap (drop (used + n)) (put_same used k slots)
          ∙ stays_behind slots start used (used + n) (omega arith) e

-- all calls are made
pub all_played : {R P : Type 0} (meaning : R → Meaning) (shown : R → Slot → Option (Kind × Worth)) (b c : Cursor R P) (same : Same b c) (calls : List Call) (i : ℕ) (outs outs-after : List (Result (Unit {0}) Fault)) (slots slots-after : List Slot) (used : ℕ) → length calls ≡ i → used ≤ length slots-after → Matches shown (plain_run b.list (visible_of meaning b) (take i calls)) c (take used slots-after) → take i outs-after ≡ (plain_run b.list (visible_of meaning b) (take i calls)).outcomes → drop i outs-after ≡ drop i outs → drop used slots-after ≡ drop used slots → Played (visible_of meaning b) b.list (shown b.reader) calls outs outs-after slots slots-after c.index used
all_played meaning shown b c same calls i outs outs-after slots slots-after used end most match outcomes others rest =
    let vs = visible_of meaning b in
    let all : take i calls ≡ calls = take_all i calls (omega arith) in
    let S : Plain → Type 0 = λ s. Matches shown s c (take used slots-after) in
    let m : Matches shown (plain_run b.list vs calls) c (take used slots-after) = subst (λ (cs : List Call). S (plain_run b.list vs cs)) all match in
    record {
      outcomes = ap (λ (k : ℕ). take k outs-after) end ∙ outcomes ∙ ap (λ (cs : List Call). (plain_run b.list vs cs).outcomes) all;
      index = m.index;
      passed = (run_passes b.list vs calls).1 ∙ ap (λ (k : ℕ). take k vs) (sym m.index);
      many = used_shown (shown c.reader) slots-after used (plain_run b.list vs calls).shown most m.values;
      values = subst (λ (r : _). Shows (shown r) (take used slots-after) (plain_run b.list vs calls).shown) same.reader m.values;
      other_outcomes = ap (λ (k : ℕ). drop k outs-after) end ∙ others ∙ ap (λ (k : ℕ). drop k outs) (sym end);
      other_slots = rest;
    }

-- the buffers are large enough
pub large_enough : (l : ℕ) (vs : List UnitOf) (calls : List Call) (outs room : ℕ) → too_small l vs calls outs room ≡ None → (length calls ≤ outs) × (length (plain_run l vs calls).shown ≤ room)
large_enough l vs calls outs room e =
    elim (cases_Bool (ltb outs (length calls))) [
      | inl t ↦ (let no : Some (FewOutcomes (length calls)) ≡ None = sym (cond-true _ _ _ t) ∙ e in let z : ◌≡◌ {A = ℕ} 0 1 = cc in absurd (omega arith))
      | inr f ↦
          (let rest = sym (cond-false _ _ _ f) ∙ e in
          elim (cases_Bool (ltb room (length (plain_run l vs calls).shown))) [
            | inl t ↦ (let no : Some (FewSlots (length (plain_run l vs calls).shown)) ≡ None = sym (cond-true _ _ _ t) ∙ rest in let z : ◌≡◌ {A = ℕ} 0 1 = cc in absurd (omega arith))
            | inr h ↦ (ltb-false _ _ f, ltb-false _ _ h)
          ])
    ]

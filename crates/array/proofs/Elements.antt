-- The elements of an array, by what a cursor answers.
use Rattle.std.proofs.Common.{◌≡◌, ℕ, zero, suc, ◌<◌, ◌≤◌, List, [], ◌∷◌, length, get_or, Some, None, Ok, Err, Option, Result, sym, refl, ap, ◌∙◌, subst, arith}
use Rattle.std.specs.Result.{result_ok}
use Rattle.block.specs.declared.fault.Fault.{Fault}
use Rattle.block.specs.declared.kind.Kind.{Kind}
use Rattle.block.specs.declared.slot.Slot.{Slot}
use Rattle.block.specs.declared.slot.Value.{Value}
use Rattle.block.specs.Units.{Meaning, Stretch, UnitOf, Worth, no_unit, seen}
use Rattle.block.specs.Values.{facet}
use Rattle.reader.specs.Answers.{faces}
use Rattle.block_iter.specs.Cursors.{Cursor, Opened, Same, Moved, Next, visible_of}
use Rattle.block_iter.proofs.Moves.{allowed, denied, accepted_index, same_visible}
use Rattle.array.specs.Arrays.{element, SlotOf, Yields}

element_there : (vs : List UnitOf) (i : ℕ) → i < length vs → element vs i ≡ Some (facet (get_or vs i no_unit))
element_there [] i h = absurd (omega arith)
element_there (v ∷ vs) zero h = refl
element_there (v ∷ vs) (suc i) h = element_there vs i (omega arith)

element_gone : (vs : List UnitOf) (i : ℕ) → length vs ≤ i → element vs i ≡ None
element_gone [] i h = refl
element_gone (v ∷ vs) zero h = absurd (omega arith)
element_gone (v ∷ vs) (suc i) h = element_gone vs i (omega arith)

module _ {R P : Type 0} (meaning : R → Meaning) (stretch : R → P → Option Stretch) (shown : R → Slot → Option (Kind × Worth)) where
  pub yields_none : (c d : Cursor R P) (r : Option Value) → r ≡ None → Next meaning stretch shown c None d → Yields meaning stretch c r d
  yields_none c d r is (end, same, sound) = record {
    value = ap faces is ∙ sym (element_gone (visible_of meaning c) c.index (omega arith));
    index = ap (λ (x : Cursor R P). x.index) same ∙ omega arith;
    sound = sound;
  }

  pub yields_some : (c d : Cursor R P) (s : Slot) (r : Option Value) → faces r ≡ shown c.reader s → Next meaning stretch shown c (Some s) d → Yields meaning stretch c r d
  yields_some c d s r shows (below, value, there, sound) = record {
    value = shows ∙ value ∙ sym (element_there (visible_of meaning c) c.index below);
    index = omega arith;
    sound = sound;
  }

  -- element i of list l of reader r, by the cursor b that was opened there, c after a skip of i, and the next value then
  module _ (layers : R → ℕ) (r : R) (l i : ℕ) (o : Result (Cursor R P) (R × Fault)) (opening : Opened meaning stretch layers r l o) (b c d : Cursor R P) (there : result_ok o ≡ Some b) (same : Same b c) (skipped : Result (Unit {0}) Fault) (moved : Moved meaning stretch b i skipped c) where
    opened_at : (o : Result (Cursor R P) (R × Fault)) → result_ok o ≡ Some b → Opened meaning stretch layers r l o → (b.reader ≡ r) × (b.list ≡ l) × (b.index ≡ 0)
    opened_at (Ok x) is (inside, reader, list, fresh, sound) =
        let e : x ≡ b = cc in
        subst (λ (y : Cursor R P). (y.reader ≡ r) × (y.list ≡ l) × (y.index ≡ 0)) e (reader, list, fresh)
    opened_at (Err e) is h = let z : ◌≡◌ {A = ℕ} 0 1 = cc in absurd (omega arith)

    visible_is : visible_of meaning b ≡ seen ((meaning r).units l)
    visible_is =
        let (reader, list, fresh) = opened_at o there opening in
        ap (λ (x : R). seen ((meaning x).units b.list)) reader ∙ ap (λ (k : ℕ). seen ((meaning r).units k)) list

    beyond : (x : Result (Unit {0}) Fault) → skipped ≡ x → result_ok x ≡ None → length (seen ((meaning r).units l)) ≤ i
    beyond (Ok tt) e is = let z : ◌≡◌ {A = ℕ} 0 1 = cc in absurd (omega arith)
    beyond (Err x) e is =
        let (reader, list, fresh) = opened_at o there opening in
        let far = (denied b.list (visible_of meaning b) b.index i x (sym e ∙ moved.answer_is)).0 in
        omega (arith, ap length visible_is)

    pub skip_refused : result_ok skipped ≡ None → element (seen ((meaning r).units l)) i ≡ None
    skip_refused is = element_gone (seen ((meaning r).units l)) i (beyond skipped refl is)

    next_is : (s : Option Slot) → c.index ≡ i → visible_of meaning c ≡ seen ((meaning r).units l) → c.reader ≡ r → Next meaning stretch shown c s d → SlotOf (shown r) (element (seen ((meaning r).units l)) i) s
    next_is None at vs rd (end, stays, sound) = element_gone (seen ((meaning r).units l)) i (omega (arith, ap length vs))
    next_is (Some s) at vs rd (below, value, beside, after) =
        let here : element (visible_of meaning c) c.index ≡ shown c.reader s = element_there (visible_of meaning c) c.index below ∙ sym value in
        ap (λ (us : List UnitOf). element us i) (sym vs) ∙ ap (element (visible_of meaning c)) (sym at) ∙ here ∙ ap (λ (x : R). shown x s) rd

    within : (x : Result (Unit {0}) Fault) → skipped ≡ x → result_ok x ≡ Some tt → c.index ≡ i
    within (Ok tt) e is =
        let (reader, list, fresh) = opened_at o there opening in
        let room = allowed b.list (visible_of meaning b) b.index i (sym e ∙ moved.answer_is) in
        omega (arith, accepted_index (visible_of meaning b) b.index c.index i room refl moved.index_is)
    within (Err x) e is = let z : ◌≡◌ {A = ℕ} 0 1 = cc in absurd (omega arith)

    pub skip_accepted : result_ok skipped ≡ Some tt → (s : Option Slot) → Next meaning stretch shown c s d → SlotOf (shown r) (element (seen ((meaning r).units l)) i) s
    skip_accepted is s next = next_is s (within skipped refl is) (same_visible meaning b c same ∙ visible_is) (same.reader ∙ (opened_at o there opening).0) next

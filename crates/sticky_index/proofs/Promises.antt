-- A mark that is made and resolved stands where it was made.
use Rattle.std.proofs.Common.{◌≡◌, ℕ, zero, suc, ◌<◌, min, true, false, not, length, get_or, is_some, Some, None, Ok, Err, Option, Result, sym, refl, ap, ◌∙◌, subst, inl, inr, add-one, arith}
use Rattle.std.proofs.lemmas.Bool.{cases_lt, and_parts, cond-true, cond-false, lt-ltb, le-ltb, eq-eqb, ne_eqb, both_ways}
use Rattle.block.specs.declared.ids.Id.{Id}
use Rattle.block.specs.declared.fault.Fault.{Fault}
use Rattle.block.specs.declared.fault.Code.TheVariants.{BeyondLength}
use Rattle.block.specs.declared.fault.Spot.TheVariants as spots
use Rattle.block.specs.declared.kind.Kind.TheVariants as kinds
use Rattle.block.specs.Units.{Meaning, Lawful, UnitOf, Worth, unit_at, no_unit, visible, seen}
use Rattle.block.specs.Kept.{kept_at, kept_from, spot_shown, spot_all}
use Rattle.block.specs.Lookup.{where_is, live_at, redone_at, held_up, upheld, not_redone}
use Rattle.block.proofs.Lookups.{where_at, where_some}
use Rattle.sticky_index.specs.declared.index.Assoc.{Assoc}
use Rattle.sticky_index.specs.declared.index.Assoc.TheVariants.{Before, After}
use Rattle.sticky_index.specs.declared.index.IndexScope.TheVariants.{Relative, Nested}
use Rattle.sticky_index.specs.declared.index.StickyIndex.{StickyIndex}
use Rattle.sticky_index.specs.declared.index.Offset.{Offset}
use Rattle.sticky_index.specs.Marks.{refusal, if_there, on, stop, list_scope, last_id, last_scope, visible_scope, rest_of, onto, landing, follow, found, reach, index_at, unit_stop, held_in, held_stop, nested_stop, root_stop, offset_of}
use Rattle.sticky_index.specs.Promise.{with_offset, resolved, Steady, Fits, Stays}
use Rattle.sticky_index.proofs.Counts.{count}

-- a unit that is not redone is where its id is found
pub follow_here : (m : Meaning) (n : ℕ) (id : Id) (at : ℕ × ℕ) → where_is m id ≡ Some at → (unit_at m at.0 at.1).redone ≡ None → follow m n id ≡ Ok at
unfolding follow
follow_here m zero id at w e = ap (landing m _ id) w ∙ ap (onto _ at) e
follow_here m (suc n) id at w e = ap (landing m (follow m n) id) w ∙ ap (onto (follow m n) at) e

pub found_here : (m : Meaning) → Lawful m → (id : Id) (l i : ℕ) → i < length (m.units l) → (unit_at m l i).id ≡ id → (unit_at m l i).redone ≡ None → found m id ≡ Ok (l, i)
found_here m law id l i h e plain =
    cond-true _ _ _ (lt-ltb _ _ (subst (λ (x : Id). x.clock < m.known x.client) e (law.below l i h))) ∙ follow_here m 64 id (l, i) (where_at m id law l i (h, e)) plain

-- where a mark stands whose unit is not redone
pub unit_mark_any : (layers : ℕ) (m : Meaning) → Lawful m → (id : Id) (a : Assoc) (l i : ℕ) → i < length (m.units l) → (unit_at m l i).id ≡ id → (unit_at m l i).redone ≡ None → offset_of layers m (on (Relative id) a) ≡ Ok (stop l a (index_at m a (l, i)))
unit_mark_any layers m law id a l i h e plain = ap (unit_stop m a) (found_here m law id l i h e plain)

pub unit_mark : (layers : ℕ) (m : Meaning) → Lawful m → (id : Id) (a : Assoc) (l i : ℕ) → i < length (m.units l) → (unit_at m l i).id ≡ id → (unit_at m l i).redone ≡ None → upheld m l ≡ true → offset_of layers m (on (Relative id) a) ≡ Ok (stop l a (count m l (reach a i)))
unit_mark layers m law id a l i h e plain s = unit_mark_any layers m law id a l i h e plain ∙ ap (λ (x : ℕ). Ok (stop l a x)) (cond-true _ _ _ s)

none_left : (o : Option Id) → not (is_some o) ≡ true → o ≡ None
none_left None e = refl
none_left (Some id) e = absurd (both_ways false refl e)

module _ (layers : ℕ) (m : Meaning) (law : Lawful m) (l : ℕ) (ok : Steady m l) where
  here : {X : Type 0} (answer : Result X Fault) → if_there layers m l answer ≡ answer
  here answer = cond-true _ _ _ (lt-ltb _ _ ok.there)

  parts : (upheld m l ≡ true) × (not_redone m (m.holder l) ≡ true)
  parts = and_parts (upheld m l) (not_redone m (m.holder l)) ok.stands

  holder_at : (h : Id) (o : Option (ℕ × ℕ)) → m.holder l ≡ Some h → where_is m h ≡ o → live_at m o ≡ true → redone_at m o ≡ None → offset_of layers m (on (Nested h) Before) ≡ Ok (stop l Before 0)
  holder_at h None e w live plain = absurd (both_ways false refl live)
  holder_at h (Some at) e w live plain =
      let s = (where_some m h at w).1 in
      let r = law.holds l at.0 at.1 s.0 (e ∙ ap Some (sym s.1)) in
      let held : held_in ((unit_at m at.0 at.1).kind, (unit_at m at.0 at.1).worth) ≡ Some l = ap (λ k. held_in (k, (unit_at m at.0 at.1).worth)) r.0 ∙ ap (λ (x : Worth). held_in (kinds.List, x)) r.1 in
      ap (nested_stop layers m Before) (found_here m law h at.0 at.1 s.0 s.1 plain) ∙ ap (held_stop layers m (unit_at m at.0 at.1).id Before) held ∙ here _

  list_mark_o : (o : Option Id) → m.holder l ≡ o → offset_of layers m (on (list_scope l o) Before) ≡ Ok (stop l Before 0)
  list_mark_o None e = here _ ∙ ap (root_stop m l Before) e
  list_mark_o (Some h) e = holder_at h (where_is m h) e refl (ap (held_up m) (sym e) ∙ parts.0) (none_left _ (ap (not_redone m) (sym e) ∙ parts.1))

  list_stays : offset_of layers m (on (list_scope l (m.holder l)) Before) ≡ Ok (stop l Before 0)
  list_stays = list_mark_o (m.holder l) refl

  -- the count at the unit of visible index k
  at_visible : (a : Assoc) (k i : ℕ) → i < length (m.units l) → visible (unit_at m l i) ≡ true → count m l i ≡ k → count m l (reach a i) ≡ reach a k
  at_visible Before k i h v e = ap (count m l) (sym (add-one i)) ∙ spot_shown visible (m.units l) i no_unit h v ∙ omega arith
  at_visible After k i h v e = e

  visible_stays : (a : Assoc) (k : ℕ) → k < length (seen (m.units l)) → offset_of layers m (on (visible_scope (m.units l) k) a) ≡ Ok (stop l a (reach a k))
  visible_stays a k h =
      let us = m.units l in
      let f = kept_from visible us k no_unit h in
      let i = f.0 in
      let same : get_or (seen us) k no_unit ≡ unit_at m l i = ap (λ (x : ℕ). get_or (seen us) x no_unit) (sym f.3) ∙ kept_at visible us i no_unit f.1 f.2 in
      unit_mark layers m law _ a l i f.1 (ap (λ (u : UnitOf). u.id) (sym same)) (ok.plain i f.1) parts.0 ∙ ap (λ (x : ℕ). Ok (stop l a x)) (at_visible a k i f.1 f.2 f.3)

  last_stays : (i : ℕ) → i ≡ length (m.units l) → offset_of layers m (on (last_scope l (m.holder l) (last_id (m.units l) i)) Before) ≡ Ok (stop l Before (length (seen (m.units l))))
  last_stays zero e =
      let z : count m l 0 ≡ length (seen (m.units l)) = ap (count m l) e ∙ spot_all visible (m.units l) in
      list_stays ∙ ap (λ (x : ℕ). Ok (stop l Before x)) z
  last_stays (suc i) e =
      let z : count m l (suc i) ≡ length (seen (m.units l)) = ap (count m l) e ∙ spot_all visible (m.units l) in
      unit_mark layers m law _ Before l i (omega arith) refl (ok.plain i (omega arith)) parts.0 ∙ ap (λ (x : ℕ). Ok (stop l Before x)) z

  -- a mark that fits is made, and stands at the lesser of k and n
  abbrev Made : Assoc → ℕ → Type 0
  Made a k = (mark : StickyIndex) × (rest_of layers m l k a ≡ Ok mark) × (offset_of layers m mark ≡ Ok (stop l a (min k (length (seen (m.units l))))))

  stands_at : (a : Assoc) (x y : ℕ) → x ≡ y → ◌≡◌ {A = Result Offset Fault} (Ok (stop l a x)) (Ok (stop l a y))
  stands_at a x y e = ap (λ (z : ℕ). Ok (stop l a z)) e

  made : (a : Assoc) (k : ℕ) → Fits a k (length (seen (m.units l))) → Made a k
  made Before zero f = (on (list_scope l (m.holder l)) Before, here _, list_stays ∙ stands_at Before _ _ (omega arith))
  made Before (suc k) f =
      elim (cases_lt k (length (seen (m.units l)))) [
        | inl h ↦ (on (visible_scope (m.units l) k) Before, here _ ∙ cond-true _ _ _ (lt-ltb _ _ h), visible_stays Before k h ∙ stands_at Before _ _ (omega arith))
        | inr h ↦ (on (last_scope l (m.holder l) (last_id (m.units l) (length (m.units l)))) Before, here _ ∙ cond-false _ _ _ (le-ltb _ _ h) ∙ cond-true _ _ _ (eq-eqb k (length (seen (m.units l))) (omega arith)), last_stays (length (m.units l)) refl ∙ stands_at Before _ _ (omega arith))
      ]
  made After k f = (on (visible_scope (m.units l) k) After, here _ ∙ cond-true _ _ _ (lt-ltb _ _ f), visible_stays After k f ∙ stands_at After _ _ (omega arith))

  not_made : (a : Assoc) (k : ℕ) → (Fits a k (length (seen (m.units l))) → ⊥) → rest_of layers m l k a ≡ Err (refusal BeyondLength (spots.List l))
  not_made Before zero f = absurd (f (omega arith))
  not_made Before (suc k) f =
      elim (cases_lt (length (seen (m.units l))) k) [
        | inl h ↦ (let far : k ≡ length (seen (m.units l)) → ⊥ = λ e. omega arith in
            here _ ∙ cond-false _ _ _ (le-ltb k (length (seen (m.units l))) (omega arith)) ∙ cond-false _ _ _ (ne_eqb _ _ far))
        | inr h ↦ absurd (f (omega arith))
      ]
  not_made After k f = elim (cases_lt k (length (seen (m.units l)))) [ inl h ↦ absurd (f h) | inr h ↦ here _ ∙ cond-false _ _ _ (le-ltb _ _ h) ]

  pub stays : (k : ℕ) (a : Assoc) (r : Result (StickyIndex × Offset) Fault) → r ≡ resolved layers m (rest_of layers m l k a) → Stays layers m l k a r
  stays k a r p =
      record {
        accepted = λ f. let (mark, e, q) = made a k f in (mark, e, p ∙ ap (resolved layers m) e ∙ ap (with_offset mark) q);
        refused = λ f. p ∙ ap (resolved layers m) (not_made a k f);
      }

-- How a mark on a unit moves.
use Rattle.std.proofs.Common.{◌≡◌, ℕ, zero, suc, ◌<◌, Bool, true, false, cond, ltb, List, length, take, Some, None, Ok, Err, filter, Option, Result, sym, refl, ap, ◌∙◌, subst, arith}
use Rattle.std.proofs.lemmas.Bool.{cond-true, cond-false, le-ltb}
use Rattle.block.specs.declared.ids.Id.{Id}
use Rattle.block.specs.declared.fault.Fault.{Fault}
use Rattle.block.specs.declared.fault.Code.TheVariants.{NotKnown, NotListed}
use Rattle.block.specs.declared.fault.Spot.TheVariants as spots
use Rattle.block.specs.Units.{Meaning, Lawful, UnitOf, unit_at, visible, seen}
use Rattle.block.specs.Lookup.{same_id, where_is, redone_at, upheld}
use Rattle.block.proofs.Lookups.{same_id_is, where_at, where_some}
use Rattle.sticky_index.specs.declared.index.Assoc.{Assoc}
use Rattle.sticky_index.specs.declared.index.IndexScope.TheVariants.{Relative}
use Rattle.sticky_index.specs.declared.index.Offset.{Offset}
use Rattle.sticky_index.specs.Marks.{refusal, on, stop, landing, follow, reach, index_at, unit_stop, offset_of}
use Rattle.sticky_index.proofs.Promises.{unit_mark, unit_mark_any}
use Rattle.history.specs.Events.{Event, History}
use Rattle.history.specs.Moves.{has, left_of, Lives, Moved, Moves}
use Rattle.history.specs.Piles.{under, shows}
use Rattle.history.proofs.Lefts.{redone_in, left, place, has_at}
use Rattle.history.proofs.Steps.{passes, ends_lawful, starts_lawful}
use Rattle.history.proofs.Clips.{shown_under, under_units, under_lawful, under_unknown, has_kept, redone_kept, left_kept, kept_split}

-- a mark that stands somewhere rests on a listed unit
follow_lost : (m : Meaning) (n : ℕ) (id : Id) → where_is m id ≡ None → follow m n id ≡ Err (refusal NotListed (spots.Unit id))
unfolding follow
follow_lost m zero id w = ap (landing m _ id) w
follow_lost m (suc n) id w = ap (landing m (follow m n) id) w

no_stop : (m : Meaning) (a : Assoc) (b : Bool) (e f : Fault) (x : Result (ℕ × ℕ) Fault) (r : Offset) → x ≡ Err e → unit_stop m a (cond b x (Err f)) ≡ Ok r → ⊥
no_stop m a true e f x r w q =
    let s : Err e ≡ Ok r = sym (ap (unit_stop m a) w) ∙ q in
    let z : ◌≡◌ {A = ℕ} 0 1 = cc in
    omega arith
no_stop m a false e f x r w q = let z : ◌≡◌ {A = ℕ} 0 1 = cc in omega arith

listed_o : (m : Meaning) (id : Id) (a : Assoc) (r : Offset) → offset_of 0 m (on (Relative id) a) ≡ Ok r → (o : Option (ℕ × ℕ)) → where_is m id ≡ o → (at : ℕ × ℕ) × (where_is m id ≡ Some at)
listed_o m id a r e None w = absurd (no_stop m a (ltb id.clock (m.known id.client)) (refusal NotListed (spots.Unit id)) (refusal NotKnown (spots.Unit id)) (follow m 64 id) r (follow_lost m 64 id w) e)
listed_o m id a r e (Some at) w = (at, w)

listed : (m : Meaning) (id : Id) (a : Assoc) (r : Offset) → offset_of 0 m (on (Relative id) a) ≡ Ok r → (at : ℕ × ℕ) × (where_is m id ≡ Some at)
listed m id a r e = listed_o m id a r e (where_is m id) refl

-- how many visible units left of a mark on it the clips show
abbrev shown_left : List (ℕ → ℕ) → Assoc → Id → List UnitOf → ℕ
shown_left limits a id us = length (seen (filter (shown_under limits) (left_of a id us)))

-- a mark on a unit that is shown and not redone, under clips
under_clips : (layers : ℕ) (limits : List (ℕ → ℕ)) (o : Meaning) → Lawful o → (id : Id) (a : Assoc) (l : ℕ) → has id (o.units l) ≡ true → redone_in id (o.units l) ≡ None → upheld (under limits o) l ≡ true → shows limits id ≡ true → offset_of layers (under limits o) (on (Relative id) a) ≡ Ok (stop l a (shown_left limits a id (o.units l)))
under_clips layers limits o law id a l here plain stands s =
    let keeps = λ (u : UnitOf) (q : same_id u.id id ≡ true). ap (shows limits) (same_id_is u.id id q) ∙ s in
    let u = under_units limits o l in
    let here2 : has id ((under limits o).units l) ≡ true = ap (has id) u ∙ has_kept id (shown_under limits) keeps (o.units l) ∙ here in
    let plain2 : redone_in id ((under limits o).units l) ≡ None = ap (redone_in id) u ∙ redone_kept id (shown_under limits) keeps (o.units l) ∙ plain in
    let (j, lt, e, r, t) = place id ((under limits o).units l) here2 in
    let n : length (seen (take (reach a j) ((under limits o).units l))) ≡ shown_left limits a id (o.units l) = ap (λ (us : List UnitOf). length (seen us)) (t a ∙ ap (left_of a id) u ∙ left_kept id (shown_under limits) keeps a (o.units l)) in
    unit_mark layers (under limits o) (under_lawful limits o law) id a l j lt e (r ∙ plain2) stands ∙ ap (λ (x : ℕ). Ok (stop l a x)) n

module _ (layers : ℕ) (m o : Meaning) (es : List Event) (limits : List (ℕ → ℕ)) (id : Id) (a : Assoc) (shown : shows limits id ≡ true) where
  abbrev Gone : Offset → Type 0
  Gone r = Moved es o limits id a r (offset_of layers (under limits o) (on (Relative id) a))

  moved_at : (l : ℕ) → History m es o → has id (m.units l) ≡ true → redone_in id (o.units l) ≡ None → upheld (under limits o) l ≡ true → Gone (stop l a (left a id (m.units l)))
  moved_at l hist here plain stands =
      let (here2, c, r) = passes m o es id a l hist here in
      let k = kept_split (shown_under limits) visible (left_of a id (o.units l)) in
      (shown_left limits a id (o.units l), under_clips layers limits o (ends_lawful m o es hist) id a l here2 plain stands shown, omega arith)

  moves_from : (l i : ℕ) (r : Offset) → i < length (m.units l) → (unit_at m l i).id ≡ id → Lives m es o limits id a r → Gone r
  moves_from l i0 r lt0 e0 lives =
      let hist = lives.edits in
      let law = starts_lawful m o es hist in
      let law2 = ends_lawful m o es hist in
      let here : has id (m.units l) ≡ true = has_at id (m.units l) i0 lt0 e0 in
      let (here2, c, back) = passes m o es id a l hist here in
      let (j, lt2, e2, r2, t2) = place id (o.units l) here2 in
      let at : where_is o id ≡ Some (l, j) = where_at o id law2 l j (lt2, e2) in
      let plain : redone_in id (o.units l) ≡ None = sym r2 ∙ sym (ap (redone_at o) at) ∙ lives.not_redone in
      let (i, lt, e, r1, t) = place id (m.units l) here in
      let first : offset_of 0 m (on (Relative id) a) ≡ Ok (stop l a (index_at m a (l, i))) = unit_mark_any 0 m law id a l i lt e (r1 ∙ back plain) in
      let both : Ok r ≡ Ok (stop l a (index_at m a (l, i))) = sym lives.stood ∙ first in
      let same : r ≡ stop l a (index_at m a (l, i)) = cc in
      let list : r.list ≡ l = ap (λ (x : Offset). x.list) same in
      let index : index_at m a (l, i) ≡ left a id (m.units l) = cond-true _ _ _ (ap (upheld m) (sym list) ∙ lives.was_upheld) ∙ ap (λ (us : List UnitOf). length (seen us)) (t a) in
      let is : r ≡ stop l a (left a id (m.units l)) = same ∙ ap (stop l a) index in
      subst Gone (sym is) (moved_at l hist here plain (ap (upheld (under limits o)) (sym list) ∙ lives.is_upheld))

  moves : (r : Offset) → Lives m es o limits id a r → Gone r
  moves r lives =
      let (at, w) = listed m id a r lives.stood in
      let s = (where_some m id at w).1 in
      moves_from at.0 at.1 r s.0 s.1 lives

pub marks_move : (layers : ℕ) (o : Meaning) (limits : List (ℕ → ℕ)) (id : Id) (a : Assoc) → Moves o limits id a (offset_of layers (under limits o) (on (Relative id) a))
marks_move layers o limits id a =
    record {
      refused = λ h. ap (unit_stop (under limits o) a) (cond-false _ _ _ (le-ltb _ _ (under_unknown limits o id h)));
      stands = λ s m es r lives. moves layers m o es limits id a s r lives;
    }

-- a document that is the pile
pub pile_moves : (layers : ℕ) (d o : Meaning) (limits : List (ℕ → ℕ)) (id : Id) (a : Assoc) (answer : Result Offset Fault) → d ≡ under limits o → answer ≡ offset_of layers d (on (Relative id) a) → Moves o limits id a answer
pile_moves layers d o limits id a answer e q =
    subst (Moves o limits id a) (sym (q ∙ ap (λ (x : Meaning). offset_of layers x (on (Relative id) a)) e)) (marks_move layers o limits id a)

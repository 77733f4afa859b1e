-- The units left of one, in lists that are put together.
use Rattle.std.proofs.Common.{◌≡◌, ℕ, zero, suc, ◌+◌, ◌<◌, true, false, cond, List, [], ◌∷◌, ◌++◌, map, length, get_or, take, is_some, Some, None, Option, sym, refl, ap, ◌∙◌, inl, inr, arith, length-append}
use Rattle.std.proofs.lemmas.List.Elements.{filter-append}
use Rattle.std.proofs.lemmas.List.{take-map}
use Rattle.std.proofs.lemmas.Bool.{cases_Bool, cond-true, cond-false, both_ways}
use Rattle.block.specs.declared.ids.Id.{Id}
use Rattle.block.specs.Units.{UnitOf, no_unit, visible, seen}
use Rattle.block.specs.Lookup.{same_id, one_on, index_of}
use Rattle.block.proofs.Lookups.{same_id_is, same_id_from}
use Rattle.sticky_index.specs.declared.index.Assoc.{Assoc}
use Rattle.sticky_index.specs.declared.index.Assoc.TheVariants.{Before, After}
use Rattle.sticky_index.specs.Marks.{reach}
use Rattle.history.specs.Events.{dead, redone_as}
use Rattle.history.specs.Moves.{has, left_from, left_of}

-- the successor of the unit with this id
abbrev pub redone_in : Id → List UnitOf → Option Id
redone_in id [] = None
redone_in id (u ∷ us) = cond (same_id u.id id) u.redone (redone_in id us)

-- how many visible units are left of a mark on it
abbrev pub left : Assoc → Id → List UnitOf → ℕ
left a id us = length (seen (left_of a id us))

-- the unit itself, with Before
abbrev pub own : Assoc → UnitOf → List UnitOf
own a u = take (reach a 0) (u ∷ [])

one_on_is : (o : Option ℕ) → is_some (one_on o) ≡ is_some o
one_on_is None = refl
one_on_is (Some i) = refl

take_own : (a : Assoc) (u : UnitOf) (us : List UnitOf) → take (reach a 0) (u ∷ us) ≡ own a u
take_own Before u us = refl
take_own After u us = refl

take_later : (a : Assoc) (i : ℕ) (u : UnitOf) (us : List UnitOf) → take (reach a (suc i)) (u ∷ us) ≡ u ∷ take (reach a i) us
take_later Before i u us = refl
take_later After i u us = refl

from_later : (a : Assoc) (u : UnitOf) (us : List UnitOf) (o : Option ℕ) → left_from a (u ∷ us) (one_on o) ≡ u ∷ left_from a us o
from_later a u us None = refl
from_later a u us (Some i) = take_later a i u us

-- the first unit has the id, or it has not
module _ (id : Id) (x : UnitOf) (xs : List UnitOf) where
  pub has_here : same_id x.id id ≡ true → has id (x ∷ xs) ≡ true
  has_here e = ap is_some (cond-true _ _ _ e)

  pub has_later : same_id x.id id ≡ false → has id (x ∷ xs) ≡ has id xs
  has_later e = ap is_some (cond-false _ _ _ e) ∙ one_on_is (index_of id xs)

  pub left_here : (a : Assoc) → same_id x.id id ≡ true → left_of a id (x ∷ xs) ≡ own a x
  left_here a e = ap (left_from a (x ∷ xs)) (cond-true _ _ _ e) ∙ take_own a x xs

  pub left_later : (a : Assoc) → same_id x.id id ≡ false → left_of a id (x ∷ xs) ≡ x ∷ left_of a id xs
  left_later a e = ap (left_from a (x ∷ xs)) (cond-false _ _ _ e) ∙ from_later a x xs (index_of id xs)

module _ (id : Id) where
  pub has_in : (xs ys : List UnitOf) → has id xs ≡ true → has id (xs ++ ys) ≡ true
  has_in [] ys h = absurd (both_ways false refl h)
  has_in (x ∷ xs) ys h =
      elim (cases_Bool (same_id x.id id)) [
        | inl e ↦ has_here id x (xs ++ ys) e
        | inr e ↦ has_later id x (xs ++ ys) e ∙ has_in xs ys (sym (has_later id x xs e) ∙ h)
      ]

  pub has_out : (xs ys : List UnitOf) → has id xs ≡ false → has id (xs ++ ys) ≡ has id ys
  has_out [] ys h = refl
  has_out (x ∷ xs) ys h =
      elim (cases_Bool (same_id x.id id)) [
        | inl e ↦ absurd (both_ways _ h (has_here id x xs e))
        | inr e ↦ has_later id x (xs ++ ys) e ∙ has_out xs ys (sym (has_later id x xs e) ∙ h)
      ]

  pub left_of_in : (a : Assoc) (xs ys : List UnitOf) → has id xs ≡ true → left_of a id (xs ++ ys) ≡ left_of a id xs
  left_of_in a [] ys h = absurd (both_ways false refl h)
  left_of_in a (x ∷ xs) ys h =
      elim (cases_Bool (same_id x.id id)) [
        | inl e ↦ left_here id x (xs ++ ys) a e ∙ sym (left_here id x xs a e)
        | inr e ↦ left_later id x (xs ++ ys) a e ∙ ap (λ (zs : List UnitOf). x ∷ zs) (left_of_in a xs ys (sym (has_later id x xs e) ∙ h)) ∙ sym (left_later id x xs a e)
      ]

  pub left_of_out : (a : Assoc) (xs ys : List UnitOf) → has id xs ≡ false → left_of a id (xs ++ ys) ≡ xs ++ left_of a id ys
  left_of_out a [] ys h = refl
  left_of_out a (x ∷ xs) ys h =
      elim (cases_Bool (same_id x.id id)) [
        | inl e ↦ absurd (both_ways _ h (has_here id x xs e))
        | inr e ↦ left_later id x (xs ++ ys) a e ∙ ap (λ (zs : List UnitOf). x ∷ zs) (left_of_out a xs ys (sym (has_later id x xs e) ∙ h))
      ]

  from_none : (a : Assoc) (xs : List UnitOf) (o : Option ℕ) → is_some o ≡ false → left_from a xs o ≡ xs
  from_none a xs None h = refl
  from_none a xs (Some i) h = absurd (both_ways true h refl)

  pub redone_in_in : (xs ys : List UnitOf) → has id xs ≡ true → redone_in id (xs ++ ys) ≡ redone_in id xs
  redone_in_in [] ys h = absurd (both_ways false refl h)
  redone_in_in (x ∷ xs) ys h =
      elim (cases_Bool (same_id x.id id)) [
        | inl e ↦ cond-true _ _ _ e ∙ sym (cond-true _ _ _ e)
        | inr e ↦ cond-false _ _ _ e ∙ redone_in_in xs ys (sym (has_later id x xs e) ∙ h) ∙ sym (cond-false _ _ _ e)
      ]

  pub redone_in_out : (xs ys : List UnitOf) → has id xs ≡ false → redone_in id (xs ++ ys) ≡ redone_in id ys
  redone_in_out [] ys h = refl
  redone_in_out (x ∷ xs) ys h =
      elim (cases_Bool (same_id x.id id)) [
        | inl e ↦ absurd (both_ways _ h (has_here id x xs e))
        | inr e ↦ cond-false _ _ _ e ∙ redone_in_out xs ys (sym (has_later id x xs e) ∙ h)
      ]

  pub left_in : (a : Assoc) (xs ys : List UnitOf) → has id xs ≡ true → left a id (xs ++ ys) ≡ left a id xs
  left_in a xs ys h = ap (λ (us : List UnitOf). length (seen us)) (left_of_in a xs ys h)

  pub left_out : (a : Assoc) (xs ys : List UnitOf) → has id xs ≡ false → left a id (xs ++ ys) ≡ length (seen xs) + left a id ys
  left_out a xs ys h = ap (λ (us : List UnitOf). length (seen us)) (left_of_out a xs ys h) ∙ ap length (filter-append visible xs (left_of a id ys)) ∙ length-append (seen xs) (seen (left_of a id ys))

  pub left_none : (a : Assoc) (xs : List UnitOf) → has id xs ≡ false → left a id xs ≡ length (seen xs)
  left_none a xs h = ap (λ (us : List UnitOf). length (seen us)) (from_none a xs (index_of id xs) h)

  -- a change of units that leaves their ids
  module _ (f : UnitOf → UnitOf) (same : (u : UnitOf) → (f u).id ≡ u.id) where
    index_map : (xs : List UnitOf) → index_of id (map f xs) ≡ index_of id xs
    index_map [] = refl
    index_map (x ∷ xs) = ap (λ (i : Id). cond (same_id i id) (Some 0) (one_on (index_of id (map f xs)))) (same x) ∙ ap (λ (o : Option ℕ). cond (same_id x.id id) (Some 0) (one_on o)) (index_map xs)

    from_map : (a : Assoc) (xs : List UnitOf) (o : Option ℕ) → left_from a (map f xs) o ≡ map f (left_from a xs o)
    from_map a xs None = refl
    from_map a xs (Some i) = take-map f (reach a i) xs

    pub has_map : (xs : List UnitOf) → has id (map f xs) ≡ has id xs
    has_map xs = ap is_some (index_map xs)

    pub left_map : (a : Assoc) (xs : List UnitOf) → left_of a id (map f xs) ≡ map f (left_of a id xs)
    left_map a xs = ap (left_from a (map f xs)) (index_map xs) ∙ from_map a xs (index_of id xs)

  -- where it stands
  abbrev pub Place : List UnitOf → Type 0
  Place us = (i : ℕ) × (i < length us) × ((get_or us i no_unit).id ≡ id) × ((get_or us i no_unit).redone ≡ redone_in id us) × ((a : Assoc) → take (reach a i) us ≡ left_of a id us)

  pub place : (us : List UnitOf) → has id us ≡ true → Place us
  place [] h = absurd (both_ways false refl h)
  place (x ∷ xs) h =
      elim (cases_Bool (same_id x.id id)) [
        | inl e ↦ (0, omega arith, same_id_is _ _ e, sym (cond-true _ _ _ e), λ a. take_own a x xs ∙ sym (left_here id x xs a e))
        | inr e ↦
            (let (i, lt, q, r, t) = place xs (sym (has_later id x xs e) ∙ h) in
            (suc i, omega arith, q, r ∙ sym (cond-false _ _ _ e), λ a. take_later a i x xs ∙ ap (λ (zs : List UnitOf). x ∷ zs) (t a) ∙ sym (left_later id x xs a e)))
      ]

  pub has_at : (us : List UnitOf) (i : ℕ) → i < length us → (get_or us i no_unit).id ≡ id → has id us ≡ true
  has_at [] i h e = absurd (omega arith)
  has_at (x ∷ xs) zero h e = has_here id x xs (same_id_from _ _ e)
  has_at (x ∷ xs) (suc i) h e =
      elim (cases_Bool (same_id x.id id)) [
        | inl s ↦ has_here id x xs s
        | inr s ↦ has_later id x xs s ∙ has_at xs i (omega arith) e
      ]

-- units that die are not seen any more
pub dead_none : (xs : List UnitOf) → length (seen (map dead xs)) ≡ 0
dead_none [] = refl
dead_none (x ∷ xs) = dead_none xs

pub left_dead : (a : Assoc) (id : Id) (xs : List UnitOf) → left a id (map dead xs) ≡ 0
left_dead a id xs = ap (λ (us : List UnitOf). length (seen us)) (left_map id dead (λ u. refl) a xs) ∙ dead_none (left_of a id xs)

pub dead_redone : (id : Id) (xs : List UnitOf) → redone_in id (map dead xs) ≡ redone_in id xs
dead_redone id [] = refl
dead_redone id (x ∷ xs) = ap (λ (o : Option Id). cond (same_id x.id id) x.redone o) (dead_redone id xs)

-- a successor changes nothing that is seen
pub again_none : (s : Id) (xs : List UnitOf) → length (seen (map (redone_as s) xs)) ≡ length (seen xs)
again_none s [] = refl
again_none s (x ∷ xs) =
    let ih = again_none s xs in
    elim (visible x) as (λ b. length (cond b (redone_as s x ∷ seen (map (redone_as s) xs)) (seen (map (redone_as s) xs))) ≡ length (cond b (x ∷ seen xs) (seen xs))) [ true ↦ ap suc ih | false ↦ ih ]

pub left_again : (s : Id) (a : Assoc) (id : Id) (xs : List UnitOf) → left a id (map (redone_as s) xs) ≡ left a id xs
left_again s a id xs = ap (λ (us : List UnitOf). length (seen us)) (left_map id (redone_as s) (λ u. refl) a xs) ∙ again_none s (left_of a id xs)

pub redone_again : (s : Id) (id : Id) (xs : List UnitOf) → has id xs ≡ true → redone_in id (map (redone_as s) xs) ≡ Some s
redone_again s id [] h = absurd (both_ways false refl h)
redone_again s id (x ∷ xs) h =
    elim (cases_Bool (same_id x.id id)) [
      | inl e ↦ cond-true _ _ _ e
      | inr e ↦ cond-false _ _ _ e ∙ redone_again s id xs (sym (has_later id x xs e) ∙ h)
    ]

-- What a pile of clips leaves.
use Rattle.std.proofs.Common.{◌≡◌, ℕ, ◌+◌, ◌≤◌, Bool, true, false, cond, not, ◌&&◌, ltb, List, [], ◌∷◌, ◌++◌, map, length, Some, filter, Option, sym, refl, ap, ◌∙◌, inl, inr, arith}
use Rattle.std.proofs.lemmas.List.{map-append}
use Rattle.std.proofs.lemmas.Bool.{cases_Bool, cond-true, cond-false, ltb-false, and_cases, both_ways}
use Rattle.block.specs.declared.ids.Id.{Id}
use Rattle.block.specs.Units.{Meaning, Lawful, UnitOf}
use Rattle.block.specs.Kept.{kept_twice}
use Rattle.block.specs.Lookup.{same_id}
use Rattle.clip.specs.declared.pairs.Pairs.{Pairs}
use Rattle.clip.specs.Clipped.{shown_by, clipped}
use Rattle.clip.specs.ClippedFacts.{clipped_lawful}
use Rattle.clip.specs.Joined.{Joined}
use Rattle.clip.specs.Made.{limit_of}
use Rattle.sticky_index.specs.declared.index.Assoc.{Assoc}
use Rattle.sticky_index.specs.declared.index.Assoc.TheVariants.{Before, After}
use Rattle.history.specs.Moves.{has, left_of}
use Rattle.history.specs.Piles.{under, shows, laid}
use Rattle.history.proofs.Lefts.{redone_in, own, has_here, has_later, left_here, left_later}

abbrev pub shown_under : List (ℕ → ℕ) → UnitOf → Bool
shown_under limits u = shows limits u.id

kept_all : (us : List UnitOf) → us ≡ filter (shown_under []) us
kept_all [] = refl
kept_all (u ∷ us) = ap (λ (vs : List UnitOf). u ∷ vs) (kept_all us)

pub under_units : (limits : List (ℕ → ℕ)) (m : Meaning) (l : ℕ) → (under limits m).units l ≡ filter (shown_under limits) (m.units l)
under_units [] m l = kept_all (m.units l)
under_units (f ∷ fs) m l = ap (filter (shown_by f)) (under_units fs m l) ∙ kept_twice (shown_under fs) (shown_by f) (m.units l)

pub under_lawful : (limits : List (ℕ → ℕ)) (m : Meaning) → Lawful m → Lawful (under limits m)
under_lawful [] m law = law
under_lawful (f ∷ fs) m law = clipped_lawful f (under fs m) (under_lawful fs m law)

-- a hidden unit is not known
pub under_unknown : (limits : List (ℕ → ℕ)) (m : Meaning) (id : Id) → shows limits id ≡ false → (under limits m).known id.client ≤ id.clock
under_unknown [] m id h = absurd (both_ways true h refl)
under_unknown (f ∷ fs) m id h =
    elim (and_cases (shows fs id) (ltb id.clock (f id.client)) h) [
      | inl e ↦ (let k : (under fs m).known id.client ≤ id.clock = under_unknown fs m id e in omega arith)
      | inr e ↦ (let k : f id.client ≤ id.clock = ltb-false _ _ e in omega arith)
    ]

-- one clip more at the bottom of a pile
pub under_more : (limits : List (ℕ → ℕ)) (f : ℕ → ℕ) (m : Meaning) → under (limits ++ f ∷ []) m ≡ under limits (clipped f m)
under_more [] f m = refl
under_more (g ∷ gs) f m = ap (clipped g) (under_more gs f m)

-- a table shows what a pile shows
abbrev pub ShowsPile : Option Pairs → List (ℕ → ℕ) → Type 0
ShowsPile all limits = (m : Meaning) → laid all m ≡ under limits m

-- one clip alone
pub pile_first : (c : Pairs) → ShowsPile (Some c) (map limit_of (c ∷ []))
pile_first c m = refl

-- a table of a pile, joined with the clip that stands below
pub pile_more : (cs : List Pairs) (all c both : Pairs) → Joined all c both → ShowsPile (Some all) (map limit_of cs) → ShowsPile (Some both) (map limit_of (cs ++ c ∷ []))
pile_more cs all c both j h m =
    j.piled m ∙ h (clipped (limit_of c) m) ∙ sym (under_more (map limit_of cs) (limit_of c) m) ∙ ap (λ (fs : List (ℕ → ℕ)). under fs m) (sym (map-append limit_of cs (c ∷ [])))

-- a filter that keeps the unit with this id
module _ (id : Id) (p : UnitOf → Bool) (keeps : (u : UnitOf) → same_id u.id id ≡ true → p u ≡ true) where
  pub has_kept : (us : List UnitOf) → has id (filter p us) ≡ has id us
  has_kept [] = refl
  has_kept (u ∷ us) =
      elim (cases_Bool (same_id u.id id)) [
        | inl e ↦ ap (has id) (cond-true _ _ _ (keeps u e)) ∙ has_here id u (filter p us) e ∙ sym (has_here id u us e)
        | inr e ↦ elim (cases_Bool (p u)) [
          | inl k ↦ ap (has id) (cond-true _ _ _ k) ∙ has_later id u (filter p us) e ∙ has_kept us ∙ sym (has_later id u us e)
          | inr k ↦ ap (has id) (cond-false _ _ _ k) ∙ has_kept us ∙ sym (has_later id u us e)
        ]
      ]

  pub redone_kept : (us : List UnitOf) → redone_in id (filter p us) ≡ redone_in id us
  redone_kept [] = refl
  redone_kept (u ∷ us) =
      elim (cases_Bool (same_id u.id id)) [
        | inl e ↦ ap (redone_in id) (cond-true _ _ _ (keeps u e)) ∙ cond-true _ _ _ e ∙ sym (cond-true _ _ _ e)
        | inr e ↦ elim (cases_Bool (p u)) [
          | inl k ↦ ap (redone_in id) (cond-true _ _ _ k) ∙ cond-false _ _ _ e ∙ redone_kept us ∙ sym (cond-false _ _ _ e)
          | inr k ↦ ap (redone_in id) (cond-false _ _ _ k) ∙ redone_kept us ∙ sym (cond-false _ _ _ e)
        ]
      ]

  own_kept : (a : Assoc) (u : UnitOf) → p u ≡ true → own a u ≡ filter p (own a u)
  own_kept Before u k = sym (cond-true _ _ _ k)
  own_kept After u k = refl

  pub left_kept : (a : Assoc) (us : List UnitOf) → left_of a id (filter p us) ≡ filter p (left_of a id us)
  left_kept a [] = refl
  left_kept a (u ∷ us) =
      elim (cases_Bool (same_id u.id id)) [
        | inl e ↦ ap (left_of a id) (cond-true _ _ _ (keeps u e)) ∙ left_here id u (filter p us) a e ∙ own_kept a u (keeps u e) ∙ ap (filter p) (sym (left_here id u us a e))
        | inr e ↦ elim (cases_Bool (p u)) [
          | inl k ↦ ap (left_of a id) (cond-true _ _ _ k) ∙ left_later id u (filter p us) a e ∙ ap (λ (vs : List UnitOf). u ∷ vs) (left_kept a us) ∙ sym (cond-true _ _ _ k) ∙ ap (filter p) (sym (left_later id u us a e))
          | inr k ↦ ap (left_of a id) (cond-false _ _ _ k) ∙ left_kept a us ∙ sym (cond-false _ _ _ k) ∙ ap (filter p) (sym (left_later id u us a e))
        ]
      ]

-- of what passes q, a part passes p and the rest does not
split_both : (p q : UnitOf → Bool) (xs : List UnitOf) → length (filter q (filter p xs)) + length (filter (λ u. q u && not (p u)) xs) ≡ length (filter q xs)
split_both p q [] = refl
split_both p q (x ∷ xs) =
    let ih : length (filter q (filter p xs)) + length (filter (λ u. q u && not (p u)) xs) ≡ length (filter q xs) = split_both p q xs in
    elim (p x) as (λ b. length (filter q (cond b (x ∷ filter p xs) (filter p xs))) + length (cond (q x && not b) (x ∷ filter (λ u. q u && not (p u)) xs) (filter (λ u. q u && not (p u)) xs)) ≡ length (cond (q x) (x ∷ filter q xs) (filter q xs))) [
      | true ↦ (elim (q x) as (λ c. length (cond c (x ∷ filter q (filter p xs)) (filter q (filter p xs))) + length (cond (c && false) (x ∷ filter (λ u. q u && not (p u)) xs) (filter (λ u. q u && not (p u)) xs)) ≡ length (cond c (x ∷ filter q xs) (filter q xs))) [ true ↦ omega arith | false ↦ ih ])
      | false ↦ (elim (q x) as (λ c. length (filter q (filter p xs)) + length (cond (c && true) (x ∷ filter (λ u. q u && not (p u)) xs) (filter (λ u. q u && not (p u)) xs)) ≡ length (cond c (x ∷ filter q xs) (filter q xs))) [ true ↦ omega arith | false ↦ ih ])
    ]

pub kept_split : (p q : UnitOf → Bool) (xs : List UnitOf) → length (filter q (filter p xs)) + length (filter (λ u. not (p u)) (filter q xs)) ≡ length (filter q xs)
kept_split p q xs = ap (λ (ys : List UnitOf). length (filter q (filter p xs)) + length ys) (kept_twice q (λ u. not (p u)) xs) ∙ split_both p q xs

-- What one edit does to the units left of a unit, and what a history does.
use Rattle.std.proofs.Common.{◌≡◌, ℕ, ◌+◌, Bool, true, false, cond, ◌⊎◌, List, [], ◌∷◌, ◌++◌, map, length, get_or, Some, None, Option, sym, refl, ap, ◌∙◌, subst, inl, inr, append_assoc, arith, length-append}
use Rattle.std.proofs.lemmas.List.Sums.{sum_by-cons}
use Rattle.std.proofs.lemmas.List.{get_or_append_left, get_or-append-add}
use Rattle.std.proofs.lemmas.Bool.{cases_Bool, cases_eq, cond-true, cond-false, both_ways}
use Rattle.block.specs.declared.ids.Id.{Id}
use Rattle.block.specs.Units.{Meaning, Lawful, UnitOf, no_unit, unit_at, seen}
use Rattle.sticky_index.specs.declared.index.Assoc.{Assoc}
use Rattle.history.specs.Events.{Event, link, tombstone, redo, nothing, dead, redone_as, Step, History}
use Rattle.history.specs.Moves.{has, linked_by, lost_by, linked, lost}
use Rattle.history.proofs.Lefts.{redone_in, left, has_in, has_out, has_map, redone_in_in, redone_in_out, left_in, left_out, left_none, place, left_dead, dead_none, dead_redone, again_none, left_again, redone_again}

module _ (m : Meaning) (law : Lawful m) (id : Id) where
  -- a unit stands in one list, and once
  pub one_list : (l k : ℕ) → has id (m.units l) ≡ true → has id (m.units k) ≡ true → l ≡ k
  one_list l k h g =
      let (i, a, b, c, d) = place id (m.units l) h in
      let (j, e, f, p, q) = place id (m.units k) g in
      (law.once l i k j a e (b ∙ sym f)).0

  pub apart : (l : ℕ) (xs ys : List UnitOf) → m.units l ≡ xs ++ ys → has id xs ≡ true → has id ys ≡ true → ⊥
  apart l xs ys u h g =
      let (i, a, b, c, d) = place id xs h in
      let (j, e, f, p, q) = place id ys g in
      let n : length (m.units l) ≡ length xs + length ys = ap length u ∙ length-append xs ys in
      let first : (unit_at m l i).id ≡ id = ap (λ (us : List UnitOf). (get_or us i no_unit).id) u ∙ ap (λ (x : UnitOf). x.id) (get_or_append_left xs ys no_unit i a) ∙ b in
      let second : (unit_at m l (length xs + j)).id ≡ id = ap (λ (us : List UnitOf). (get_or us (length xs + j) no_unit).id) u ∙ ap (λ (x : UnitOf). x.id) (get_or-append-add xs ys j no_unit) ∙ f in
      let same : i ≡ length xs + j = (law.once l i l (length xs + j) (omega arith) (omega arith) (first ∙ sym second)).1 in
      omega arith

not_so : (b : Bool) → (b ≡ true → ⊥) → b ≡ false
not_so true h = absurd (h refl)
not_so false h = refl

-- units where a part h became a part g
module _ (id : Id) (a : Assoc) (x h g y us vs : List UnitOf) where
  pub record InLeft : Type 0 where
    pub at : has id x ≡ true
    pub count : left a id vs ≡ left a id us
    pub redone : redone_in id vs ≡ redone_in id us

  pub record InPart : Type 0 where
    pub not_left : has id x ≡ false
    pub at : has id h ≡ true
    pub was : left a id us ≡ length (seen x) + left a id h
    pub is : left a id vs ≡ length (seen x) + left a id g
    pub redone_was : redone_in id us ≡ redone_in id h
    pub redone_is : redone_in id vs ≡ redone_in id g

  pub record InRight : Type 0 where
    pub not_left : has id x ≡ false
    pub not_part : has id h ≡ false
    pub at : has id y ≡ true
    pub was : left a id us ≡ length (seen x) + (length (seen h) + left a id y)
    pub is : left a id vs ≡ length (seen x) + (length (seen g) + left a id y)
    pub redone : redone_in id vs ≡ redone_in id us

  pub turned : us ≡ x ++ (h ++ y) → vs ≡ x ++ (g ++ y) → has id us ≡ true → has id g ≡ has id h → (has id vs ≡ true) × (InLeft ⊎ (InPart ⊎ InRight))
  turned u v here same =
      elim (cases_Bool (has id x)) [
        | inl e ↦ (
          ap (has id) v ∙ has_in id x (g ++ y) e,
          inl (record {
            at = e;
            count = ap (left a id) v ∙ left_in id a x (g ++ y) e ∙ sym (ap (left a id) u ∙ left_in id a x (h ++ y) e);
            redone = ap (redone_in id) v ∙ redone_in_in id x (g ++ y) e ∙ sym (ap (redone_in id) u ∙ redone_in_in id x (h ++ y) e);
          }),
        )
        | inr e ↦ elim (cases_Bool (has id h)) [
          | inl p ↦ (
            ap (has id) v ∙ has_out id x (g ++ y) e ∙ has_in id g y (same ∙ p),
            inr (inl (record {
              not_left = e;
              at = p;
              was = ap (left a id) u ∙ left_out id a x (h ++ y) e ∙ ap (λ (n : ℕ). length (seen x) + n) (left_in id a h y p);
              is = ap (left a id) v ∙ left_out id a x (g ++ y) e ∙ ap (λ (n : ℕ). length (seen x) + n) (left_in id a g y (same ∙ p));
              redone_was = ap (redone_in id) u ∙ redone_in_out id x (h ++ y) e ∙ redone_in_in id h y p;
              redone_is = ap (redone_in id) v ∙ redone_in_out id x (g ++ y) e ∙ redone_in_in id g y (same ∙ p);
            })),
          )
          | inr p ↦
              (let r : has id y ≡ true = sym (has_out id h y p) ∙ sym (has_out id x (h ++ y) e) ∙ sym (ap (has id) u) ∙ here in (
                ap (has id) v ∙ has_out id x (g ++ y) e ∙ has_out id g y (same ∙ p) ∙ r,
                inr (inr (record {
                  not_left = e;
                  not_part = p;
                  at = r;
                  was = ap (left a id) u ∙ left_out id a x (h ++ y) e ∙ ap (λ (n : ℕ). length (seen x) + n) (left_out id a h y p);
                  is = ap (left a id) v ∙ left_out id a x (g ++ y) e ∙ ap (λ (n : ℕ). length (seen x) + n) (left_out id a g y (same ∙ p));
                  redone = ap (redone_in id) v ∙ redone_in_out id x (g ++ y) e ∙ redone_in_out id g y (same ∙ p) ∙ sym (ap (redone_in id) u ∙ redone_in_out id x (h ++ y) e ∙ redone_in_out id h y p);
                })),
              ))
        ]
      ]

-- it still stands in its list; the visible units left of it changed by what was linked and what was lost; it was redone before only if it is now
abbrev pub Passed : Id → Assoc → List UnitOf → List UnitOf → ℕ → ℕ → Type 0
Passed id a us vs fewer more = (has id vs ≡ true) × (left a id vs + fewer ≡ left a id us + more) × (redone_in id vs ≡ None → redone_in id us ≡ None)

passed_still : (id : Id) (a : Assoc) (us vs : List UnitOf) (fewer more : ℕ) → vs ≡ us → has id us ≡ true → fewer ≡ 0 → more ≡ 0 → Passed id a us vs fewer more
passed_still id a us vs fewer more e h p q = (ap (has id) e ∙ h, (let c = ap (left a id) e in omega arith), λ r. sym (ap (redone_in id) e) ∙ r)

module _ (m n : Meaning) (law : Lawful m) (law2 : Lawful n) (id : Id) (a : Assoc) (l : ℕ) (here : has id (m.units l) ≡ true) where
  -- in another list nothing is linked or lost
  elsewhere : (k : ℕ) (x y : List UnitOf) → (l ≡ k → ⊥) → m.units k ≡ x ++ y → has id y ≡ false
  elsewhere k x y ne u = not_so (has id y) (λ h. ne (one_list m law id l k here (ap (has id) u ∙ tail x h)))
    where
      tail : (x : List UnitOf) → has id y ≡ true → has id (x ++ y) ≡ true
      tail x h = elim (cases_Bool (has id x)) [ inl e ↦ has_in id x y e | inr e ↦ has_out id x y e ∙ h ]

  passed_link : (x new y : List UnitOf) → m.units l ≡ x ++ y → n.units l ≡ x ++ (new ++ y) → Passed id a (m.units l) (n.units l) 0 (cond (has id y) (length (seen new)) 0)
  passed_link x new y u v =
      elim (cases_Bool (has id x)) [
        | inl e ↦
            (let none : has id y ≡ false = not_so _ (apart m law id l x y u e) in
            let p : cond (has id y) (length (seen new)) 0 ≡ 0 = cond-false _ _ _ none in
            let w : left a id (n.units l) ≡ left a id (m.units l) = ap (left a id) v ∙ left_in id a x (new ++ y) e ∙ sym (ap (left a id) u ∙ left_in id a x y e) in
            let r : redone_in id (n.units l) ≡ redone_in id (m.units l) = ap (redone_in id) v ∙ redone_in_in id x (new ++ y) e ∙ sym (ap (redone_in id) u ∙ redone_in_in id x y e) in
            (ap (has id) v ∙ has_in id x (new ++ y) e, omega arith, λ q. sym r ∙ q))
        | inr e ↦
            (let in-y : has id y ≡ true = sym (has_out id x y e) ∙ sym (ap (has id) u) ∙ here in
            let fresh : has id new ≡ false = not_so _ (λ h. apart n law2 id l (x ++ new) y (v ∙ sym (append_assoc x new y)) (has_out id x new e ∙ h) in-y) in
            let (h2, side) = turned id a x [] new y (m.units l) (n.units l) u v here fresh in
            elim side [
              | inl s ↦ absurd (both_ways _ e s.at)
              | inr rest ↦ elim rest [
                | inl s ↦ absurd (both_ways false refl s.at)
                | inr s ↦ (let p : cond (has id y) (length (seen new)) 0 ≡ length (seen new) = cond-true _ _ _ in-y in (h2, omega (arith, s.was, s.is), λ q. sym s.redone ∙ q))
              ]
            ])
      ]

  passed_dead : (x h y : List UnitOf) → m.units l ≡ x ++ (h ++ y) → n.units l ≡ x ++ (map dead h ++ y) → Passed id a (m.units l) (n.units l) (cond (has id (h ++ y)) (left a id h) 0) 0
  passed_dead x h y u v =
      let (h2, side) = turned id a x h (map dead h) y (m.units l) (n.units l) u v here (has_map id dead (λ w. refl) h) in
      elim side [
        | inl s ↦
            (let none : has id (h ++ y) ≡ false = not_so _ (apart m law id l x (h ++ y) u s.at) in
            let p : cond (has id (h ++ y)) (left a id h) 0 ≡ 0 = cond-false _ _ _ none in
            (h2, omega (arith, s.count), λ q. sym s.redone ∙ q))
        | inr rest ↦ elim rest [
          | inl s ↦
              (let p : cond (has id (h ++ y)) (left a id h) 0 ≡ left a id h = cond-true _ _ _ (has_in id h y s.at) in
              (h2, omega (arith, s.was, s.is, left_dead a id h), λ q. s.redone_was ∙ sym (dead_redone id h) ∙ sym s.redone_is ∙ q))
          | inr s ↦
              (let p : cond (has id (h ++ y)) (left a id h) 0 ≡ left a id h = cond-true _ _ _ (has_out id h y s.not_part ∙ s.at) in
              (h2, omega (arith, s.was, s.is, dead_none h, left_none id a h s.not_part), λ q. sym s.redone ∙ q))
        ]
      ]

  passed_redo : (z : Id) (x h y : List UnitOf) → m.units l ≡ x ++ (h ++ y) → n.units l ≡ x ++ (map (redone_as z) h ++ y) → Passed id a (m.units l) (n.units l) 0 0
  passed_redo z x h y u v =
      let (h2, side) = turned id a x h (map (redone_as z) h) y (m.units l) (n.units l) u v here (has_map id (redone_as z) (λ w. refl) h) in
      elim side [
        | inl s ↦ (h2, omega (arith, s.count), λ q. sym s.redone ∙ q)
        | inr rest ↦ elim rest [
          | inl s ↦ (h2, omega (arith, s.was, s.is, left_again z a id h), λ q. absurd (let e : ◌≡◌ {A = Option Id} (Some z) None = sym (redone_again z id h s.at) ∙ sym s.redone_is ∙ q in let zz : ◌≡◌ {A = ℕ} 0 1 = cc in omega arith))
          | inr s ↦ (h2, omega (arith, s.was, s.is, again_none z h), λ q. sym s.redone ∙ q)
        ]
      ]

  -- one edit
  pub passed : (e : Event) → Step m e n → Passed id a (m.units l) (n.units l) (lost_by a id e) (linked_by id e)
  passed (link k x new y) (u, v, w) =
      elim (cases_eq l k) [
        | inl e ↦ passed_link x new y (ap m.units e ∙ u) (ap n.units e ∙ v)
        | inr ne ↦ passed_still id a (m.units l) (n.units l) _ _ (w l ne) here refl (cond-false _ _ _ (elsewhere k x y ne u))
      ]
  passed (tombstone k x h y) (u, v, w) =
      elim (cases_eq l k) [
        | inl e ↦ passed_dead x h y (ap m.units e ∙ u) (ap n.units e ∙ v)
        | inr ne ↦ passed_still id a (m.units l) (n.units l) _ _ (w l ne) here (cond-false _ _ _ (elsewhere k x (h ++ y) ne u)) refl
      ]
  passed (redo z k x h y) (u, v, w) =
      elim (cases_eq l k) [
        | inl e ↦ passed_redo z x h y (ap m.units e ∙ u) (ap n.units e ∙ v)
        | inr ne ↦ passed_still id a (m.units l) (n.units l) 0 0 (w l ne) here refl refl
      ]
  passed nothing w = passed_still id a (m.units l) (n.units l) 0 0 (w l) here refl refl

pub ends_lawful : (m o : Meaning) (es : List Event) → History m es o → Lawful o
ends_lawful m o [] (law, e) = subst Lawful e law
ends_lawful m o (e ∷ es) (n, law, s, h) = ends_lawful n o es h

pub starts_lawful : (m o : Meaning) (es : List Event) → History m es o → Lawful m
starts_lawful m o [] (law, e) = law
starts_lawful m o (e ∷ es) (n, law, s, h) = law

-- a whole history
pub passes : (m o : Meaning) (es : List Event) (id : Id) (a : Assoc) (l : ℕ) → History m es o → has id (m.units l) ≡ true → Passed id a (m.units l) (o.units l) (lost a id es) (linked id es)
passes m o [] id a l (law, e) here = passed_still id a (m.units l) (o.units l) 0 0 (ap (λ (x : Meaning). x.units l) (sym e)) here refl refl
passes m o (e ∷ es) id a l (n, law, s, h) here =
    let (h1, c1, r1) = passed m n law (starts_lawful n o es h) id a l here e s in
    let (h2, c2, r2) = passes n o es id a l h h1 in
    let p = sum_by-cons (lost_by a id) e es in
    let q = sum_by-cons (linked_by id) e es in
    (h2, omega arith, λ r. r1 (r2 r))

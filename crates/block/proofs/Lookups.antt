-- What a look-up finds.
use Rattle.std.proofs.Common.{◌≡◌, ℕ, zero, suc, ◌<◌, true, false, eqb, List, [], ◌∷◌, length, get_or, Some, None, Option, sym, refl, ap, ◌∙◌, subst, inl, inr, arith}
use Rattle.std.proofs.lemmas.Bool.{eqb-true, eq-eqb, and_parts, and_from, cases_Bool, cases_eq, cases_lt, cond-true, cond-false, both_ways}
use Rattle.block.specs.declared.ids.Id.{Id}
use Rattle.block.specs.Units.{Meaning, UnitOf, Lawful, unit_at, no_unit}
use Rattle.block.specs.Lookup.{same_id, one_on, index_of, or_below, found_below, where_is}

pub same_id_is : (a b : Id) → same_id a b ≡ true → a ≡ b
same_id_is a b e =
    let p = and_parts (eqb a.client b.client) (eqb a.clock b.clock) e in
    let x : a.client ≡ b.client = eqb-true _ _ p.0 in
    let y : a.clock ≡ b.clock = eqb-true _ _ p.1 in
    ap (λ (k : ℕ). record { client = k; clock = a.clock }) x ∙ ap (λ (k : ℕ). record { client = b.client; clock = k }) y

pub same_id_refl : (a : Id) → same_id a a ≡ true
same_id_refl a = and_from _ _ (eq-eqb a.client a.client refl) (eq-eqb a.clock a.clock refl)

pub same_id_from : (a b : Id) → a ≡ b → same_id a b ≡ true
same_id_from a b e = subst (λ (x : Id). same_id a x ≡ true) e (same_id_refl a)

abbrev pub At : Id → List UnitOf → ℕ → Type 0
At id us i = (i < length us) × ((get_or us i no_unit).id ≡ id)

one_on_some : (o : Option ℕ) (i : ℕ) → one_on o ≡ Some i → (j : ℕ) × (o ≡ Some j) × (i ≡ suc j)
one_on_some None i e = let z : ◌≡◌ {A = ℕ} 0 1 = cc in absurd (omega arith)
one_on_some (Some j) i e = (j, refl, cc)

one_on_none : (o : Option ℕ) → one_on o ≡ None → o ≡ None
one_on_none None e = refl
one_on_none (Some j) e = let z : ◌≡◌ {A = ℕ} 0 1 = cc in absurd (omega arith)

pub index_some : (id : Id) (us : List UnitOf) (i : ℕ) → index_of id us ≡ Some i → At id us i
index_some id [] i e = let z : ◌≡◌ {A = ℕ} 0 1 = cc in absurd (omega arith)
index_some id (u ∷ us) i e =
    elim (cases_Bool (same_id u.id id)) [
      | inl s ↦
          (let f : ◌≡◌ {A = Option ℕ} (Some 0) (Some i) = sym (cond-true _ _ _ s) ∙ e in
          let z : 0 ≡ i = cc in
          subst (λ (k : ℕ). At id (u ∷ us) k) z (omega arith, same_id_is _ _ s))
      | inr s ↦
          (let f : one_on (index_of id us) ≡ Some i = sym (cond-false _ _ _ s) ∙ e in
          let (j, g, h) = one_on_some _ i f in
          let r = index_some id us j g in
          subst (λ (k : ℕ). At id (u ∷ us) k) (sym h) (omega (arith, r.0), r.1))
    ]

index_later : (id : Id) (u : UnitOf) (us : List UnitOf) (i : ℕ) → same_id u.id id ≡ false → ((j : ℕ) → At id us j → ⊥) → At id (u ∷ us) i → ⊥
index_later id u us zero s h a = both_ways _ s (same_id_from _ _ a.1)
index_later id u us (suc i) s h a = h i (omega (arith, a.0), a.1)

pub index_none : (id : Id) (us : List UnitOf) (i : ℕ) → index_of id us ≡ None → At id us i → ⊥
index_none id [] i e a = omega arith
index_none id (u ∷ us) i e a =
    elim (cases_Bool (same_id u.id id)) [
      | inl s ↦ (let f : ◌≡◌ {A = Option ℕ} (Some 0) None = sym (cond-true _ _ _ s) ∙ e in let z : ◌≡◌ {A = ℕ} 0 1 = cc in omega arith)
      | inr s ↦ index_later id u us i s (λ j b. index_none id us j (one_on_none _ (sym (cond-false _ _ _ s) ∙ e)) b) a
    ]

abbrev pub Stands : Meaning → Id → ℕ → ℕ → Type 0
Stands m id l i = (i < length (m.units l)) × ((unit_at m l i).id ≡ id)

module _ (m : Meaning) (id : Id) where
  below_some_at : (l : ℕ) (at : ℕ × ℕ) (o : Option ℕ) (below : Option (ℕ × ℕ)) → index_of id (m.units l) ≡ o → (below ≡ Some at → (at.0 < l) × Stands m id at.0 at.1) → or_below l o below ≡ Some at → (at.0 < suc l) × Stands m id at.0 at.1
  below_some_at l at None below q h e = let s = h e in (omega (arith, s.0), s.1)
  below_some_at l at (Some i) below q h e =
      let p : (l, i) ≡ at = cc in
      subst (λ (x : ℕ × ℕ). (x.0 < suc l) × Stands m id x.0 x.1) p (omega arith, index_some id (m.units l) i q)

  below_some : (n : ℕ) (at : ℕ × ℕ) → found_below m id n ≡ Some at → (at.0 < n) × Stands m id at.0 at.1
  below_some zero at e = let z : ◌≡◌ {A = ℕ} 0 1 = cc in absurd (omega arith)
  below_some (suc l) at e = below_some_at l at (index_of id (m.units l)) (found_below m id l) refl (below_some l at) e

  below_none_at : (k l i : ℕ) (o : Option ℕ) (below : Option (ℕ × ℕ)) → index_of id (m.units k) ≡ o → (below ≡ None → l < k → Stands m id l i → ⊥) → or_below k o below ≡ None → l < suc k → Stands m id l i → ⊥
  below_none_at k l i None below q f e h s =
      elim (cases_eq l k) [
        | inl same ↦ index_none id (m.units k) i q (subst (λ (x : ℕ). Stands m id x i) same s)
        | inr other ↦ elim (cases_lt l k) [ inl lt ↦ f e lt s | inr ge ↦ other (omega arith) ]
      ]
  below_none_at k l i (Some j) below q f e h s = let z : ◌≡◌ {A = ℕ} 0 1 = cc in omega arith

  below_none : (n l i : ℕ) → found_below m id n ≡ None → l < n → Stands m id l i → ⊥
  below_none zero l i e h s = omega arith
  below_none (suc k) l i e h s = below_none_at k l i (index_of id (m.units k)) (found_below m id k) refl (below_none k l i) e h s

  pub where_some : (at : ℕ × ℕ) → where_is m id ≡ Some at → (at.0 < m.lists) × Stands m id at.0 at.1
  where_some at e = below_some m.lists at e

  module _ (law : Lawful m) where
    pub list_there : (l i : ℕ) → Stands m id l i → l < m.lists
    list_there l i s = elim (cases_lt l m.lists) [ inl h ↦ h | inr h ↦ (let e = ap length (law.beyond l h) in absurd (omega (arith, s.0))) ]

    pub where_none : where_is m id ≡ None → (l i : ℕ) → Stands m id l i → ⊥
    where_none e l i s = below_none m.lists l i e (list_there l i s) s

    where_at_o : (l i : ℕ) → Stands m id l i → (o : Option (ℕ × ℕ)) → where_is m id ≡ o → where_is m id ≡ Some (l, i)
    where_at_o l i s None e = absurd (where_none e l i s)
    where_at_o l i s (Some at) e =
        let r = (where_some at e).1 in
        let o = law.once at.0 at.1 l i r.0 s.0 (r.1 ∙ sym s.1) in
        let a = o.0 in
        let b = o.1 in
        let p : ◌≡◌ {A = ℕ × ℕ} at (l, i) = ap (λ (k : ℕ). (k, at.1)) a ∙ ap (λ (k : ℕ). (l, k)) b in
        e ∙ ap Some p

    pub where_at : (l i : ℕ) → Stands m id l i → where_is m id ≡ Some (l, i)
    where_at l i s = where_at_o l i s (where_is m id) refl

    not_there_o : ((l i : ℕ) → Stands m id l i → ⊥) → (o : Option (ℕ × ℕ)) → where_is m id ≡ o → where_is m id ≡ None
    not_there_o h None e = e
    not_there_o h (Some at) e = absurd (h at.0 at.1 (where_some at e).1)

    pub not_there : ((l i : ℕ) → Stands m id l i → ⊥) → where_is m id ≡ None
    not_there h = not_there_o h (where_is m id) refl

-- Where a mark stands, there is a list, and the index is within its length.
use Rattle.std.proofs.Common.{◌≡◌, ℕ, zero, suc, ◌+◌, ◌<◌, ◌≤◌, true, false, cond, ltb, List, length, take, Some, None, Ok, Err, Option, Result, sym, refl, ap, ◌∙◌, subst, inl, inr, arith}
use Rattle.std.proofs.lemmas.List.{take_all}
use Rattle.std.proofs.lemmas.Bool.{cases_Bool, ltb-true, cond-true, cond-false}
use Rattle.block.specs.declared.ids.Id.{Id}
use Rattle.block.specs.declared.fault.Fault.{Fault}
use Rattle.block.specs.Units.{Meaning, UnitOf, unit_at, visible, seen}
use Rattle.block.specs.Values.{facet}
use Rattle.block.specs.Kept.{spot_mono}
use Rattle.block.specs.Lookup.{where_is, upheld}
use Rattle.block.proofs.Lookups.{where_some}
use Rattle.sticky_index.specs.declared.index.Assoc.{Assoc}
use Rattle.sticky_index.specs.declared.index.Assoc.TheVariants.{Before, After}
use Rattle.sticky_index.specs.declared.index.IndexScope.{IndexScope}
use Rattle.sticky_index.specs.declared.index.IndexScope.TheVariants.{Relative, Nested, Root}
use Rattle.sticky_index.specs.declared.index.StickyIndex.{StickyIndex}
use Rattle.sticky_index.specs.declared.index.Offset.{Offset}
use Rattle.sticky_index.specs.Marks.{offset_of, scope_stop, unit_stop, nested_stop, held_stop, root_stop, edge, index_at, reach, found, follow, landing, onto, if_there, held_in, stop}

never : {X : Type 0} (x : X) (e : Fault) → Err e ≡ Ok x → ⊥
never x e p = let z : ◌≡◌ {A = ℕ} 0 1 = cc in omega arith

module _ (layers : ℕ) (m : Meaning) where
  -- a list that is there, and an index within its length
  abbrev pub Within : Offset → Type 0
  Within o = (o.list < m.lists) × (o.index ≤ length (seen (m.units o.list)))

  onto_there : (more : Id → Result (ℕ × ℕ) Fault) (at at' : ℕ × ℕ) (o : Option Id) → at'.0 < m.lists → ((id : Id) → more id ≡ Ok at → at.0 < m.lists) → onto more at' o ≡ Ok at → at.0 < m.lists
  onto_there more at at' None h f e = let same : at' ≡ at = cc in subst (λ (x : ℕ × ℕ). x.0 < m.lists) same h
  onto_there more at at' (Some next) h f e = f next e

  landing_there : (more : Id → Result (ℕ × ℕ) Fault) (at : ℕ × ℕ) (id : Id) (o : Option (ℕ × ℕ)) → where_is m id ≡ o → ((next : Id) → more next ≡ Ok at → at.0 < m.lists) → landing m more id o ≡ Ok at → at.0 < m.lists
  landing_there more at id None w f e = absurd (never at _ e)
  landing_there more at id (Some at') w f e = onto_there more at at' (unit_at m at'.0 at'.1).redone (where_some m id at' w).0 f e

  follow_there : (n : ℕ) (id : Id) (at : ℕ × ℕ) → follow m n id ≡ Ok at → at.0 < m.lists
  unfolding follow
  follow_there zero id at e = landing_there _ at id (where_is m id) refl (λ next p. absurd (never at _ p)) e
  follow_there (suc n) id at e = landing_there (follow m n) at id (where_is m id) refl (λ next p. follow_there n next at p) e

  found_there : (id : Id) (at : ℕ × ℕ) → found m id ≡ Ok at → at.0 < m.lists
  found_there id at e =
      elim (cases_Bool (ltb id.clock (m.known id.client))) [
        | inl t ↦ follow_there 64 id at (sym (cond-true _ _ _ t) ∙ e)
        | inr f ↦ absurd (never at _ (sym (cond-false _ _ _ f) ∙ e))
      ]

  few_left : (us : List UnitOf) (i : ℕ) → length (seen (take i us)) ≤ length (seen us)
  few_left us i =
      let all = ap (λ (xs : List UnitOf). length (seen xs)) (take_all (i + length us) us (omega arith)) in
      omega (arith, spot_mono visible us i (i + length us) (omega arith))

  index_within : (a : Assoc) (at : ℕ × ℕ) → index_at m a at ≤ length (seen (m.units at.0))
  index_within a at =
      elim (upheld m at.0) as (λ b. cond b (length (seen (take (reach a at.1) (m.units at.0)))) 0 ≤ length (seen (m.units at.0))) [ true ↦ few_left (m.units at.0) (reach a at.1) | false ↦ omega arith ]

  unit_within : (a : Assoc) (o : Offset) (r : Result (ℕ × ℕ) Fault) → ((at : ℕ × ℕ) → r ≡ Ok at → at.0 < m.lists) → unit_stop m a r ≡ Ok o → Within o
  unit_within a o (Ok at) h e =
      let same : stop at.0 a (index_at m a at) ≡ o = cc in
      subst Within same (h at refl, index_within a at)
  unit_within a o (Err x) h e = absurd (never o _ e)

  edge_within : (l : ℕ) (a : Assoc) → l < m.lists → Within (edge m l a)
  edge_within l After h = (h, omega arith)
  edge_within l Before h = (h, omega arith)

  there_within : (l : ℕ) (o : Offset) (r : Result Offset Fault) → (l < m.lists → r ≡ Ok o → Within o) → if_there layers m l r ≡ Ok o → Within o
  there_within l o r h e =
      elim (cases_Bool (ltb l m.lists)) [
        | inl t ↦ h (ltb-true _ _ t) (sym (cond-true _ _ _ t) ∙ e)
        | inr f ↦ absurd (never o _ (sym (cond-false _ _ _ f) ∙ e))
      ]

  edge_is : (l : ℕ) (a : Assoc) (o : Offset) → l < m.lists → ◌≡◌ {A = Result Offset Fault} (Ok (edge m l a)) (Ok o) → Within o
  edge_is l a o h e = let same : edge m l a ≡ o = cc in subst Within same (edge_within l a h)

  held_within : (a : Assoc) (o : Offset) (last : Id) (h : Option ℕ) → held_stop layers m last a h ≡ Ok o → Within o
  held_within a o last None e = absurd (never o _ e)
  held_within a o last (Some l) e = there_within l o (Ok (edge m l a)) (edge_is l a o) e

  nested_within : (a : Assoc) (o : Offset) (r : Result (ℕ × ℕ) Fault) → nested_stop layers m a r ≡ Ok o → Within o
  nested_within a o (Ok at) e = held_within a o (unit_at m at.0 at.1).id (held_in (facet (unit_at m at.0 at.1))) e
  nested_within a o (Err x) e = absurd (never o _ e)

  root_within : (l : ℕ) (a : Assoc) (o : Offset) (h : Option Id) → l < m.lists → root_stop m l a h ≡ Ok o → Within o
  root_within l a o None h e = edge_is l a o h e
  root_within l a o (Some x) h e = absurd (never o _ e)

  scope_within : (a : Assoc) (o : Offset) (s : IndexScope) → scope_stop layers m a s ≡ Ok o → Within o
  scope_within a o (Relative id) e = unit_within a o (found m id) (found_there id) e
  scope_within a o (Nested id) e = nested_within a o (found m id) e
  scope_within a o (Root l) e = there_within l o (root_stop m l a (m.holder l)) (root_within l a o (m.holder l)) e

  pub offset_within : (mark : StickyIndex) (o : Offset) → offset_of layers m mark ≡ Ok o → Within o
  offset_within mark o e = scope_within mark.assoc o mark.scope e

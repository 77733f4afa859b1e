-- One run passed, whole or in part.
use Rattle.std.proofs.Common.{◌≡◌, ℕ, ◌+◌, ◌-◌, ◌<◌, ◌≤◌, true, false, List, length, drop, Some, None, Option, sym, refl, ap, ◌∙◌, subst, inl, inr, add-zero, arith, drop-drop}
use Rattle.std.proofs.lemmas.Bool.{cases_Bool, cond-true, cond-false}
use Rattle.std.proofs.lemmas.List.{drop_all}
use Rattle.block.specs.Units.{UnitOf, Meaning, Stretch, RunOf, unit_at, visible, seen}
use Rattle.block.proofs.Seen.{run_drop, run_hidden}
use Rattle.reader.specs.Answers.{Onward, Right}
use Rattle.block_iter.specs.Cursors.{Sound, cursor}
use Rattle.block_iter.specs.Walks.{Sees, Stepped, visible_in, to_go}

module _ {P : Type 0} (m : Meaning) (st : P → Option Stretch) (settled : (p : P) (t : Stretch) → st p ≡ Some t → RunOf m t) where
  -- what stands at an index of a list
  pub onward_sees : (l i : ℕ) (r : Option P) → Onward m st l i r → Sees m st l r 0 (seen (drop i (m.units l)))
  onward_sees l i None h = ap seen (drop_all i (m.units l) (omega arith))
  onward_sees l i (Some q) h = (
    record { list = l; from = i; count = h.0 },
    h.1,
    refl,
    (settled q _ h.1).some,
    ap (λ (k : ℕ). seen (drop k (m.units l))) (sym (add-zero i)),
  )

  pub onward_nearer : (t : Stretch) (p : P) (r : Option P) → st p ≡ Some t → Onward m st t.list (t.from + t.count) r → to_go m st r < to_go m st (Some p)
  onward_nearer t p None e h = rw e (omega arith)
  onward_nearer t p (Some q) e h =
      let run = settled p t e in
      rw (e, h.1) (omega (arith, run.some, run.within))

  pub sees_at : (p : P) (t : Stretch) (l rel : ℕ) (vs : List UnitOf) → st p ≡ Some t → Sees m st l (Some p) rel vs → (t.list ≡ l) × (rel < t.count) × (vs ≡ seen (drop (t.from + rel) (m.units t.list)))
  sees_at p t l rel vs e (u, f, a, b, d) =
      let same : u ≡ t = cc in
      subst (λ (u : Stretch). (u.list ≡ l) × (rel < u.count) × (vs ≡ seen (drop (u.from + rel) (m.units u.list)))) same (a, b, d)

  -- nothing is to come at a place that the reader does not know
  never_at : (p : P) → st p ≡ None → (l : ℕ) {rel : ℕ} (vs : List UnitOf) → Sees m st l (Some p) rel vs → ⊥
  never_at p e l vs (t, f, a, b, d) = let no : Some t ≡ None = sym f ∙ e in let z : ◌≡◌ {A = ℕ} 0 1 = cc in omega arith

  sees_onward : (t : Stretch) (r : Option P) (l : ℕ) (vs : List UnitOf) → Onward m st t.list (t.from + t.count) r → t.list ≡ l → vs ≡ seen (drop (t.from + t.count) (m.units t.list)) → Sees m st l r 0 vs
  sees_onward t r l vs h e v =
      subst (λ (k : ℕ). Sees m st k r 0 vs) e (subst (λ (w : List UnitOf). Sees m st t.list r 0 w) (sym v) (onward_sees t.list (t.from + t.count) r h))

  module _ (p : P) (t : Stretch) (e : st p ≡ Some t) (rel left : ℕ) where
    pub step_inside : visible (unit_at m t.list t.from) ≡ true → left < t.count - rel → Stepped m st p rel left (Some p) (rel + left) left
    step_inside v h = record {
      fewer = omega arith;
      passed = λ l vs s.
          let (a, b, d) = sees_at p t l rel vs e s in
          (t, e, a, omega arith, ap (drop left) d ∙ run_drop m t (settled p t e) rel left (omega arith) v);
      nearer = λ k. omega arith;
    }

    pub step_over : visible (unit_at m t.list t.from) ≡ true → t.count - rel ≤ left → (r : Option P) → Onward m st t.list (t.from + t.count) r → Stepped m st p rel left r 0 (t.count - rel)
    step_over v h r right = record {
      fewer = h;
      passed = λ l vs s.
          let (a, b, d) = sees_at p t l rel vs e s in
          let k : rel + (t.count - rel) ≡ t.count = omega arith in
          let w : drop (t.count - rel) (seen (drop (t.from + rel) (m.units t.list))) ≡ seen (drop (t.from + (rel + (t.count - rel))) (m.units t.list)) = run_drop m t (settled p t e) rel (t.count - rel) (omega arith) v in
          sees_onward t r l _ right a (rw (d, w, k) refl);
      nearer = λ k. let f = onward_nearer t p r e right in omega arith;
    }

    pub step_past : visible (unit_at m t.list t.from) ≡ false → (r : Option P) → Onward m st t.list (t.from + t.count) r → Stepped m st p rel left r 0 0
    step_past v r right = record {
      fewer = omega arith;
      passed = λ l vs s.
          let (a, b, d) = sees_at p t l rel vs e s in
          let k : rel + (t.count - rel) ≡ t.count = omega arith in
          let w : seen (drop (t.from + rel) (m.units t.list)) ≡ seen (drop (t.from + (rel + (t.count - rel))) (m.units t.list)) = run_hidden m t (settled p t e) rel (t.count - rel) (omega arith) v in
          sees_onward t r l _ right a (rw (d, w, k) refl);
      nearer = λ k. let f = onward_nearer t p r e right in omega arith;
    }

  -- the same, by how many visible units the run has
  module _ (p : P) (rel left : ℕ) where
    inside_at : (o : Option Stretch) → st p ≡ o → left < visible_in m o - rel → Stepped m st p rel left (Some p) (rel + left) left
    inside_at None e h = absurd (omega arith)
    inside_at (Some t) e h =
        elim (cases_Bool (visible (unit_at m t.list t.from))) [
          | inl v ↦ step_inside p t e rel left v (omega (arith, cond-true _ t.count 0 v))
          | inr v ↦ absurd (omega (arith, cond-false _ t.count 0 v))
        ]

    over_at : (o : Option Stretch) → st p ≡ o → visible_in m o - rel ≤ left → (r : Option P) → Right m st p r → Stepped m st p rel left r 0 (visible_in m o - rel)
    over_at None e h r right =
        let n : visible_in m None - rel ≡ 0 = omega arith in
        subst (λ (k : ℕ). Stepped m st p rel left r 0 k) (sym n) (subst (λ (q : Option P). Stepped m st p rel left q 0 0) (sym (right.0 e)) (record {
          fewer = omega arith;
          passed = λ l vs s. absurd (never_at p e l vs s);
          nearer = λ k. rw e (omega arith);
        }))
    over_at (Some t) e h r right =
        elim (cases_Bool (visible (unit_at m t.list t.from))) [
          | inl v ↦
              (let n : visible_in m (Some t) - rel ≡ t.count - rel = ap (λ (k : ℕ). k - rel) (cond-true _ t.count 0 v) in
              subst (λ (k : ℕ). Stepped m st p rel left r 0 k) (sym n) (step_over p t e rel left v (omega (arith, n)) r (right.1 t e)))
          | inr v ↦
              (let n : visible_in m (Some t) - rel ≡ 0 = omega (arith, cond-false _ t.count 0 v) in
              subst (λ (k : ℕ). Stepped m st p rel left r 0 k) (sym n) (step_past p t e rel left v r (right.1 t e)))
        ]

    module _ (here : ℕ) (here-is : here ≡ visible_in m (st p) - rel) where
      pub steps_inside : left < here → Stepped m st p rel left (Some p) (rel + left) left
      steps_inside h = inside_at (st p) refl (omega (arith, here-is))

      pub steps_over : here ≤ left → (r : Option P) → Right m st p r → Stepped m st p rel left r 0 here
      steps_over h r right = subst (λ (k : ℕ). Stepped m st p rel left r 0 k) (sym here-is) (over_at (st p) refl (omega (arith, here-is)) r right)

  pub sees_drop : (l : ℕ) (place : Option P) (rel i k : ℕ) (vs : List UnitOf) → i ≡ k → Sees m st l place rel (drop i vs) → Sees m st l place rel (drop k vs)
  sees_drop l place rel i k vs e w = subst (λ (n : ℕ). Sees m st l place rel (drop n vs)) e w

  -- one turn of a walk: done units were passed before it, and k more by it
  pub walk_more : (place : Option P) (p : P) → place ≡ Some p → (rel left : ℕ) (q : Option P) (into k : ℕ) → Stepped m st p rel left q into k → (l done now-done : ℕ) (vs : List UnitOf) → done + k ≡ now-done → Sees m st l place rel (drop done vs) → Sees m st l q into (drop now-done vs)
  walk_more place p e rel left q into k s l done now-done vs n w =
      sees_drop l q into (done + k) now-done vs n
      (subst (λ (xs : List UnitOf). Sees m st l q into xs) (drop-drop k done vs)
      (s.passed l _ (subst (λ (o : Option P). Sees m st l o rel (drop done vs)) e w)))

-- a cursor at the start of its list
pub opened : {R P : Type 0} (meaning : R → Meaning) (stretch : R → P → Option Stretch) (settled : (r : R) (p : P) (t : Stretch) → stretch r p ≡ Some t → RunOf (meaning r) t) (r : R) (l len : ℕ) (o : Option P) → len ≡ length (seen ((meaning r).units l)) → Onward (meaning r) (stretch r) l 0 o → Sound meaning stretch (cursor r l len o 0 0)
opened meaning stretch settled r l len o n h = record { counted = n; inside = omega arith; ahead = onward_sees (meaning r) (stretch r) (settled r) l 0 o h }

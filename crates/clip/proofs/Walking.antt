-- A walk below and the walk of the clip.
use Rattle.std.proofs.Common.{◌≡◌, ℕ, suc, ◌+◌, ◌-◌, ◌<◌, true, false, length, is_some, Some, None, Ok, Err, Option, Result, sym, refl, ap, ◌∙◌, subst, inl, inr, arith}
use Rattle.std.proofs.lemmas.Bool.{cases_lt}
use Rattle.std.specs.Result.{MatchResult, IsErrAnd}
use Rattle.block.specs.declared.fault.Fault.{Fault}
use Rattle.block.specs.Units.{Meaning, Stretch}
use Rattle.reader.specs.Answers.{Begins, Ends, Onward, Backward, First, Right, Left}
use Rattle.clip.specs.Clipped.{clipped, place_of, shown_part, cut}
use Rattle.clip.specs.declared.walk.Way.{Way}
use Rattle.clip.specs.declared.walk.Way.TheVariants as ways
use Rattle.clip.specs.Walks.{Beside, NextTo, Skips}
use Rattle.clip.proofs.Measures.{to_go, ahead}
use Rattle.clip.specs.RunFacts.{RunsOf, moved_end, cut_some, cut_none, cut_from}

module _ (limit : ℕ → ℕ) (m : Meaning) where
  -- a run shows something, or nothing
  pub part_some : (o : Option Stretch) (t : Stretch) → o ≡ Some t → is_some (cut limit m o) ≡ true → 0 < shown_part limit m t
  part_some o t e s =
      elim (cases_lt 0 (shown_part limit m t)) [
        | inl h ↦ h
        | inr h ↦ absurd (let x : is_some (cut limit m o) ≡ false = ap is_some (cut_none limit m o t e h) in let z : true ≡ false = cc in let y : ◌≡◌ {A = ℕ} 0 1 = cc in omega arith)
      ]

  pub part_none : (o : Option Stretch) (t : Stretch) → o ≡ Some t → is_some (cut limit m o) ≡ false → shown_part limit m t ≡ 0
  part_none o t e s =
      elim (cases_lt 0 (shown_part limit m t)) [
        | inl h ↦ absurd (let x : is_some (cut limit m o) ≡ true = ap is_some (cut_some limit m o t e h) in let z : true ≡ false = cc in let y : ◌≡◌ {A = ℕ} 0 1 = cc in omega arith)
        | inr h ↦ omega arith
      ]

-- the leftmost run, through `map_err`
pub first_ok : {P : Type 0} (m : Meaning) (st : P → Option Stretch) (layers l : ℕ) (first raised : Result (Option P) Fault) (a : Option P) (E : Fault → Fault → Type 0) → First m st layers l first → MatchResult first (λ x. raised ≡ Ok x) (λ e. IsErrAnd raised (E e)) → raised ≡ Ok a → (l < m.lists) × Onward m st l 0 a
first_ok m st layers l (Ok x) raised a E f e q = (let same : x ≡ a = cc in (f.0, subst (Onward m st l 0) same f.1))
first_ok m st layers l (Err x) raised a E f e q = absurd (subst (λ w. IsErrAnd w (E x)) q e)

module _ {P : Type 0} (limit : ℕ → ℕ) (m : Meaning) (st : P → Option Stretch) (runs : RunsOf m st) where
  on_found : (p : P) (l e : ℕ) → Begins st p l e → is_some (cut limit m (st p)) ≡ true → Begins (λ q. cut limit m (st q)) p l (place_of limit m l e)
  on_found p l e b s = (_, cut_some limit m (st p) _ b.1 (part_some limit m (st p) _ b.1 s))

  on_hidden : (p : P) (l e : ℕ) (r : Option P) → Begins st p l e → is_some (cut limit m (st p)) ≡ false → Right m st p r → (f : ℕ) × Onward m st l f r × (place_of limit m l f ≡ place_of limit m l e)
  on_hidden p l e r b s a =
      let t : Stretch = record { list = l; from = e; count = b.0 } in
      (e + b.0, a.1 t b.1, omega (arith, moved_end limit m t (runs p t b.1), part_none limit m (st p) t b.1 s))

  less_at : (p : P) (o : Option Stretch) (r : Option P) → st p ≡ o → Right m st p r → to_go ways.Right m st r < suc (ahead m o)
  less_at p o None e a = omega arith
  less_at p None (Some q) e a = absurd (let x = a.0 e in let z : ◌≡◌ {A = ℕ} 0 1 = cc in omega arith)
  less_at p (Some t) (Some q) e a =
      let b = a.1 t e in
      let run = runs p t e in
      let is : ahead m (st q) ≡ length (m.units t.list) - (t.from + t.count) = ap (ahead m) b.1 in
      omega (arith, run.some, run.within)

  pub on_less : (p : P) (r : Option P) → Right m st p r → to_go ways.Right m st r < to_go ways.Right m st (Some p)
  on_less p r a = less_at p (st p) r refl a

  back_found : (p : P) (l e : ℕ) → Ends st p l e → is_some (cut limit m (st p)) ≡ true → Ends (λ q. cut limit m (st q)) p l (place_of limit m l e)
  back_found p l e b s =
      let t : Stretch = record { list = l; from = b.0; count = b.1 } in
      (_, _, cut_some limit m (st p) t b.2 (part_some limit m (st p) t b.2 s), sym (moved_end limit m t (runs p t b.2)) ∙ ap (place_of limit m l) b.3)

  back_hidden : (p : P) (l e : ℕ) (r : Option P) → Ends st p l e → is_some (cut limit m (st p)) ≡ false → Left m st p r → (f : ℕ) × Backward st l f r × (place_of limit m l f ≡ place_of limit m l e)
  back_hidden p l e r b s a =
      let t : Stretch = record { list = l; from = b.0; count = b.1 } in
      let q : place_of limit m l (b.0 + b.1) ≡ place_of limit m l e = ap (place_of limit m l) b.3 in
      (b.0, a.1 t b.2, omega (arith, moved_end limit m t (runs p t b.2), part_none limit m (st p) t b.2 s))

  -- what is found and what is passed, whichever way the walk goes
  pub walk_found : (way : Way) (p : P) (l e : ℕ) → Beside way m st l e (Some p) → is_some (cut limit m (st p)) ≡ true → Beside way (clipped limit m) (λ q. cut limit m (st q)) l (place_of limit m l e) (Some p)
  walk_found ways.Left = back_found
  walk_found ways.Right = on_found

  pub walk_hidden : (way : Way) (p : P) (l e : ℕ) (r : Option P) → Beside way m st l e (Some p) → is_some (cut limit m (st p)) ≡ false → NextTo way m st p r → (f : ℕ) × Beside way m st l f r × (place_of limit m l f ≡ place_of limit m l e)
  walk_hidden ways.Left = back_hidden
  walk_hidden ways.Right = on_hidden

  right_from : (p : P) (a r : Option P) → is_some (cut limit m (st p)) ≡ true → Right m st p a → Skips ways.Right limit m st a r → Right (clipped limit m) (λ q. cut limit m (st q)) p r
  right_from p a r s b k = (
    (λ e. absurd (let x : is_some (cut limit m (st p)) ≡ false = ap is_some e in let z : true ≡ false = cc in let y : ◌≡◌ {A = ℕ} 0 1 = cc in omega arith)),
    (λ u e.
        let c = cut_from limit m (st p) u e in
        let t = c.0 in
        let at = k t.list (t.from + t.count) (b.1 t c.1) in
        subst (λ v. Onward (clipped limit m) (λ q. cut limit m (st q)) v.list (v.from + v.count) r) c.3
        (subst (λ f. Onward (clipped limit m) (λ q. cut limit m (st q)) t.list f r) (moved_end limit m t (runs p t c.1)) at)),
  )

  left_from : (p : P) (a r : Option P) → is_some (cut limit m (st p)) ≡ true → Left m st p a → Skips ways.Left limit m st a r → Left (clipped limit m) (λ q. cut limit m (st q)) p r
  left_from p a r s b k = (
    (λ e. absurd (let x : is_some (cut limit m (st p)) ≡ false = ap is_some e in let z : true ≡ false = cc in let y : ◌≡◌ {A = ℕ} 0 1 = cc in omega arith)),
    (λ u e.
        let c = cut_from limit m (st p) u e in
        let t = c.0 in
        subst (λ v. Backward (λ q. cut limit m (st q)) v.list v.from r) c.3 (k t.list t.from (b.1 t c.1))),
  )

  pub walk_past : (way : Way) (p : P) (a r : Option P) → is_some (cut limit m (st p)) ≡ true → NextTo way m st p a → Skips way limit m st a r → NextTo way (clipped limit m) (λ q. cut limit m (st q)) p r
  walk_past ways.Left = left_from
  walk_past ways.Right = right_from

  -- the leftmost run below, and from there the first that is shown
  pub on_first : (layers l : ℕ) (first raised : Result (Option P) Fault) (a r : Option P) (E : Fault → Fault → Type 0) → First m st layers l first → MatchResult first (λ x. raised ≡ Ok x) (λ e. IsErrAnd raised (E e)) → raised ≡ Ok a → Skips ways.Right limit m st a r → First (clipped limit m) (λ q. cut limit m (st q)) (layers + 1) l (Ok r)
  on_first layers l first raised a r E f e q k = (let o = first_ok m st layers l first raised a E f e q in (o.0, k l 0 o.1))

-- How many visible units a clip shows.
use Rattle.std.proofs.Common.{◌≡◌, ℕ, ◌+◌, ◌-◌, ◌<◌, ◌≤◌, Bool, true, false, cond, ◌&&◌, List, length, Some, None, filter, Option, sym, refl, ap, ◌∙◌, subst, inl, inr, arith}
use Rattle.std.proofs.lemmas.Bool.{cases_lt, cases_Bool, lt-ltb, le-ltb, and_from, and_left, and_right, cond-true, cond-false}
use Rattle.std.specs.Option.{MatchOption}
use Rattle.block.specs.Kinds.{is_counted}
use Rattle.block.specs.Units.{Meaning, Stretch, UnitOf, RunOf, unit_at, no_unit, visible, seen}
use Rattle.reader.specs.Answers.{Described, described, Right, Begins, Onward}
use Rattle.reader.specs.declared.reader.Description.{Description}
use Rattle.clip.specs.Clipped.{shown_by, clipped, shown_part, moved, cut, adds_of}
use Rattle.block.specs.Kept.{spot, spot_mono, spot_all, spot_kept, spot_dropped, kept_twice, kept_fewer}
use Rattle.clip.specs.RunFacts.{RunsOf, part_shown, rest_hidden, first_at}

pub seen_is : (xs : List UnitOf) → seen xs ≡ filter visible xs
seen_is xs = refl

abbrev pub both : (ℕ → ℕ) → UnitOf → Bool
both limit u = shown_by limit u && visible u

-- the visible units that are shown among the first e units of a list
abbrev pub counted : (ℕ → ℕ) → Meaning → ℕ → ℕ → ℕ
counted limit m l e = spot (both limit) (m.units l) e

module _ (limit : ℕ → ℕ) (m : Meaning) where
  pub counted_all : (l e : ℕ) → e ≡ length (m.units l) → counted limit m l e ≡ length (seen ((clipped limit m).units l))
  counted_all l e q = ap (counted limit m l) q ∙ spot_all (both limit) (m.units l) ∙ sym (ap length (seen_is ((clipped limit m).units l) ∙ kept_twice (shown_by limit) visible (m.units l)))

  pub counted_fits : (l e : ℕ) → e ≤ length (m.units l) → counted limit m l e ≤ length (seen (m.units l))
  counted_fits l e h =
      let a = spot_mono (both limit) (m.units l) e (length (m.units l)) h in
      let b = spot_all (both limit) (m.units l) in
      let d = kept_fewer (shown_by limit) visible (m.units l) in
      let f = ap length (seen_is (m.units l)) in
      omega arith

  module _ (t : Stretch) (run : RunOf m t) where
    pub visible_in : (k : ℕ) → k < t.count → visible (unit_at m t.list (t.from + k)) ≡ visible (unit_at m t.list t.from)
    visible_in k h = rw (run.live k h, run.kind k h)

    pub count_run : counted limit m t.list (t.from + t.count) ≡ counted limit m t.list t.from + adds_of limit m (Some t)
    count_run =
        let s : ℕ = shown_part limit m t in
        let us = m.units t.list in
        let v = visible (unit_at m t.list t.from) in
        elim (cases_Bool (visible (unit_at m t.list t.from))) [
          | inl e ↦
              (let front : counted limit m t.list (t.from + s) ≡ counted limit m t.list t.from + s =
              spot_kept (both limit) (m.units t.list) t.from s no_unit (omega (arith, run.within)) (λ k h. and_from _ _ (part_shown limit m t run k h) (visible_in k (omega arith) ∙ e)) in
              let back : counted limit m t.list ((t.from + s) + (t.count - s)) ≡ counted limit m t.list (t.from + s) =
              spot_dropped (both limit) (m.units t.list) (t.from + s) (t.count - s) no_unit (omega (arith, run.within))
              (λ j g. ap (λ i. both limit (unit_at m t.list i)) (omega arith) ∙ and_left _ _ (rest_hidden limit m t run (s + j) (omega arith) (omega arith))) in
              let ends : counted limit m t.list (t.from + t.count) ≡ counted limit m t.list ((t.from + s) + (t.count - s)) = ap (counted limit m t.list) (omega arith) in
              ends ∙ back ∙ front ∙ ap (λ x. counted limit m t.list t.from + x) (sym (cond-true _ _ _ e)))
          | inr e ↦
              (let all : counted limit m t.list (t.from + t.count) ≡ counted limit m t.list t.from =
              spot_dropped (both limit) (m.units t.list) t.from t.count no_unit run.within (λ k h. and_right _ _ (visible_in k h ∙ e)) in
              omega (arith, cond-false _ (shown_part limit m t) 0 e))
        ]

  adds_some : (o : Option Stretch) (d : Description) → ((t : Stretch) → o ≡ Some t → RunOf m t) → Described (clipped limit m) (cut limit m o) (Some d) → cond (d.live && is_counted d.kind) d.len 0 ≡ adds_of limit m o
  adds_some None d runs e = absurd (let z : ◌≡◌ {A = ℕ} 0 1 = cc in omega arith)
  adds_some (Some t) d runs e =
      elim (cases_lt 0 (shown_part limit m t)) [
        | inl h ↦
            (let x = subst (λ b. Described (clipped limit m) (cond b (Some (moved limit m t)) None) (Some d)) (lt-ltb 0 _ h) e in
            let q : d ≡ described (clipped limit m) (moved limit m t) = cc in
            ap (λ (y : Description). cond (y.live && is_counted y.kind) y.len 0) q ∙ ap (λ (y : UnitOf). cond (visible y) (shown_part limit m t) 0) (first_at limit m t (runs t refl) h))
        | inr h ↦ absurd (let x = subst (λ b. Described (clipped limit m) (cond b (Some (moved limit m t)) None) (Some d)) (le-ltb 0 _ h) e in let z : ◌≡◌ {A = ℕ} 0 1 = cc in omega arith)
      ]

  adds_none : (o : Option Stretch) → Described (clipped limit m) (cut limit m o) None → adds_of limit m o ≡ 0
  adds_none None e = refl
  adds_none (Some t) e =
      elim (cases_lt 0 (shown_part limit m t)) [
        | inl h ↦ absurd (let x = subst (λ b. Described (clipped limit m) (cond b (Some (moved limit m t)) None) None) (lt-ltb 0 _ h) e in let z : ◌≡◌ {A = ℕ} 0 1 = cc in omega arith)
        | inr h ↦ elim (visible (unit_at m t.list t.from)) as (λ b. cond b (shown_part limit m t) 0 ≡ 0) [ true ↦ omega arith | false ↦ refl ]
      ]

  pub adds : (o : Option Stretch) (d : Option Description) (n : ℕ) → ((t : Stretch) → o ≡ Some t → RunOf m t) → Described (clipped limit m) (cut limit m o) d → MatchOption d (n ≡ 0) (λ d. n ≡ cond (d.live && is_counted d.kind) d.len 0) → n ≡ adds_of limit m o
  adds o None n runs e h = h ∙ sym (adds_none o e)
  adds o (Some d) n runs e h = h ∙ adds_some o d runs e

-- a step of the walk
pub count_step : {P : Type 0} (limit : ℕ → ℕ) (m : Meaning) (st : P → Option Stretch) (runs : RunsOf m st) (p : P) (l e n : ℕ) (r : Option P) → Begins st p l e → n ≡ counted limit m l e → Right m st p r → (f : ℕ) × Onward m st l f r × (n + adds_of limit m (st p) ≡ counted limit m l f) × (f ≤ length (m.units l))
count_step limit m st runs p l e n r b q a =
    let t : Stretch = record { list = l; from = e; count = b.0 } in
    let run = runs p t b.1 in
    let more : adds_of limit m (st p) ≡ adds_of limit m (Some t) = ap (adds_of limit m) b.1 in
    (e + b.0, a.1 t b.1, omega (arith, more, q, count_run limit m t run), run.within)

pub count_fits : {P : Type 0} (limit : ℕ → ℕ) (m : Meaning) (st : P → Option Stretch) (runs : RunsOf m st) (p : P) (l e n : ℕ) → Begins st p l e → n ≡ counted limit m l e → n + adds_of limit m (st p) ≤ length (seen (m.units l))
count_fits limit m st runs p l e n b q =
    let t : Stretch = record { list = l; from = e; count = b.0 } in
    let run = runs p t b.1 in
    let more : adds_of limit m (st p) ≡ adds_of limit m (Some t) = ap (adds_of limit m) b.1 in
    omega (arith, more, q, count_run limit m t run, counted_fits limit m l (e + b.0) run.within)

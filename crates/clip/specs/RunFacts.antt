-- What a clip does to runs.
use Rattle.std.specs.Prelude.{◌≡◌, ℕ, ◌+◌, ◌-◌, ◌<◌, ◌≤◌, true, false, cond, length, Some, None, Option, nat_lt, refl}
use Rattle.std.proofs.Common.{sym, ap, subst, ◌∙◌, inl, inr, arith}
use Rattle.std.proofs.lemmas.Bool.{lt-ltb, le-ltb, cases_lt}
use Rattle.block.specs.Units.{Meaning, Stretch, RunOf, unit_at, no_unit}
use Rattle.clip.specs.Clipped.{shown_by, clipped, place_of, shown_part, moved, cut}
use Rattle.block.specs.Kept.{spot_mono, kept_at, spot_all, spot_kept, spot_dropped}

-- each place covers a run, or nothing
abbrev pub RunsOf : {P : Type 0} → Meaning → (P → Option Stretch) → Type 0
RunsOf {P} m st = (p : P) (t : Stretch) → st p ≡ Some t → RunOf m t

module _ (limit : ℕ → ℕ) (m : Meaning) (t : Stretch) (run : RunOf m t) where
  pub shown_in : (k : ℕ) → k < t.count → shown_by limit (unit_at m t.list (t.from + k)) ≡ nat_lt ((unit_at m t.list t.from).id.clock + k) (limit (unit_at m t.list t.from).id.client)
  shown_in k h = rw (run.client k h, run.clock k h)

  pub part_shown : (k : ℕ) → k < shown_part limit m t → shown_by limit (unit_at m t.list (t.from + k)) ≡ true
  part_shown k h = shown_in k (omega arith) ∙ lt-ltb _ _ (omega arith)

  pub rest_hidden : (k : ℕ) → shown_part limit m t ≤ k → k < t.count → shown_by limit (unit_at m t.list (t.from + k)) ≡ false
  rest_hidden k h g = shown_in k g ∙ le-ltb _ _ (omega arith)

  pub moved_by : (k : ℕ) → k ≤ shown_part limit m t → place_of limit m t.list (t.from + k) ≡ place_of limit m t.list t.from + k
  moved_by k h = spot_kept (shown_by limit) (m.units t.list) t.from k no_unit (omega (arith, run.within)) (λ j g. part_shown j (omega arith))

  pub moved_end : place_of limit m t.list (t.from + t.count) ≡ place_of limit m t.list t.from + shown_part limit m t
  moved_end =
      let s : ℕ = shown_part limit m t in
      let e : (t.from + s) + (t.count - s) ≡ t.from + t.count = omega arith in
      let rest = spot_dropped (shown_by limit) (m.units t.list) (t.from + s) (t.count - s) no_unit (omega (arith, run.within))
      (λ j g. ap (λ i. shown_by limit (unit_at m t.list i)) (omega arith) ∙ rest_hidden (s + j) (omega arith) (omega arith)) in
      ap (place_of limit m t.list) (sym e) ∙ rest ∙ moved_by s (omega arith)

  pub moved_at : (k : ℕ) → k < shown_part limit m t → unit_at (clipped limit m) t.list (place_of limit m t.list t.from + k) ≡ unit_at m t.list (t.from + k)
  moved_at k h =
      ap (λ i. unit_at (clipped limit m) t.list i) (sym (moved_by k (omega arith))) ∙
      kept_at (shown_by limit) (m.units t.list) (t.from + k) no_unit (omega (arith, run.within)) (part_shown k h)

  pub first_at : 0 < shown_part limit m t → unit_at (clipped limit m) t.list (place_of limit m t.list t.from) ≡ unit_at m t.list t.from
  first_at h = kept_at (shown_by limit) (m.units t.list) t.from no_unit (omega (arith, run.within)) (lt-ltb _ _ (omega arith))

  -- the shown part of a run is a run
  pub moved_run : 0 < shown_part limit m t → RunOf (clipped limit m) (moved limit m t)
  moved_run h =
      let u = first_at h in
      record {
        some = h;
        within = (let a = moved_end in let b = spot_mono (shown_by limit) (m.units t.list) (t.from + t.count) (length (m.units t.list)) run.within in omega (arith, spot_all (shown_by limit) (m.units t.list)));
        client = λ k g. ap (λ x. x.id.client) (moved_at k g) ∙ run.client k (omega arith) ∙ sym (ap (λ x. x.id.client) u);
        clock = λ k g. ap (λ x. x.id.clock) (moved_at k g) ∙ run.clock k (omega arith) ∙ sym (ap (λ x. x.id.clock + k) u);
        kind = λ k g. ap (λ x. x.kind) (moved_at k g) ∙ run.kind k (omega arith) ∙ sym (ap (λ x. x.kind) u);
        live = λ k g. ap (λ x. x.live) (moved_at k g) ∙ run.live k (omega arith) ∙ sym (ap (λ x. x.live) u);
        redone = λ k g. ap (λ x. x.redone) (moved_at k g) ∙ run.redone k (omega arith) ∙ sym (ap (λ x. x.redone) u);
      }

-- a stretch of the clip comes from one below
pub cut_from : (limit : ℕ → ℕ) (m : Meaning) (o : Option Stretch) (u : Stretch) → cut limit m o ≡ Some u → (t : Stretch) × (o ≡ Some t) × (0 < shown_part limit m t) × (moved limit m t ≡ u)
cut_from limit m None u e = absurd (let z : ◌≡◌ {A = ℕ} 0 1 = cc in omega arith)
cut_from limit m (Some t) u e =
    elim (cases_lt 0 (shown_part limit m t)) [
      | inl h ↦ (t, refl, h, (let x : Some (moved limit m t) ≡ Some u = subst (λ b. cond b (Some (moved limit m t)) None ≡ Some u) (lt-ltb 0 _ h) e in cc))
      | inr h ↦ absurd (let x : None ≡ Some u = subst (λ b. cond b (Some (moved limit m t)) None ≡ Some u) (le-ltb 0 _ h) e in let z : ◌≡◌ {A = ℕ} 0 1 = cc in omega arith)
    ]

pub cut_some : (limit : ℕ → ℕ) (m : Meaning) (o : Option Stretch) (t : Stretch) → o ≡ Some t → 0 < shown_part limit m t → cut limit m o ≡ Some (moved limit m t)
cut_some limit m o t e h = ap (cut limit m) e ∙ ap (λ b. cond b (Some (moved limit m t)) None) (lt-ltb 0 _ h)

pub cut_none : (limit : ℕ → ℕ) (m : Meaning) (o : Option Stretch) (t : Stretch) → o ≡ Some t → shown_part limit m t ≤ 0 → cut limit m o ≡ None
cut_none limit m o t e h = ap (cut limit m) e ∙ ap (λ b. cond b (Some (moved limit m t)) None) (le-ltb 0 _ h)

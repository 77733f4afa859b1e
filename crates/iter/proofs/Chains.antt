-- The runs of a list from left to right.
use Rattle.std.proofs.Common.{◌≡◌, ℕ, ◌+◌, ◌-◌, ◌<◌, ◌≤◌, List, [], ◌∷◌, Some, None, Option, sym, refl, ap, ◌∙◌, subst, arith}
use Rattle.block.specs.Units.{Meaning, Lawful, Stretch, RunOf, unit_at}
use Rattle.reader.specs.declared.reader.Description.{Description}
use Rattle.reader.specs.Answers.{Onward, Described, described}
use Rattle.iter.specs.declared.run.Run.{Run}
use Rattle.iter.specs.Bare.{Bare, bare}
use Rattle.iter.specs.Runs.{RunsFrom, FromHere, FromStretch, Taken}

pub described_some : (m : Meaning) (o : Option Stretch) (d : Description) → Described m o (Some d) → (t : Stretch) × (o ≡ Some t) × (d ≡ described m t)
described_some m None d h = let z : ◌≡◌ {A = ℕ} 0 1 = cc in absurd (omega arith)
described_some m (Some t) d h = (t, refl, cc)

pub same_bare : {P : Type 0} (v w : Bare P) → v.place ≡ w.place → v.about ≡ w.about → v ≡ w
same_bare v w place about = ap (λ (x : _). record { place = x; about = v.about }) place ∙ ap (λ (x : Description). record { place = w.place; about = x }) about

module _ {P : Type 0} (m : Meaning) (st : P → Option Stretch) (settled : (p : P) (t : Stretch) → st p ≡ Some t → RunOf m t) where
  -- a run's clocks are known
  pub run_known : Lawful m → (p : P) (d : Description) → Described m (st p) (Some d) → (0 < d.len) × (d.id.clock + d.len ≤ m.known d.id.client)
  run_known lawful p d desc =
      let (t, e, q) = described_some m (st p) d desc in
      let run = settled p t e in
      let clock = run.clock (t.count - 1) (omega (arith, run.some)) in
      let client = run.client (t.count - 1) (omega (arith, run.some)) in
      let last = lawful.below t.list (t.from + (t.count - 1)) (omega (arith, run.some, run.within)) in
      let below : (unit_at m t.list (t.from + (t.count - 1))).id.clock < m.known (unit_at m t.list t.from).id.client = subst (λ (k : ℕ). (unit_at m t.list (t.from + (t.count - 1))).id.clock < m.known k) client last in
      subst (λ (x : Description). (0 < x.len) × (x.id.clock + x.len ≤ m.known x.id.client)) (sym q) (run.some, omega (arith, run.some))

  -- what stands at an index, and the runs from there on
  pub onward_here : (l i : ℕ) (q : Option P) (ws : List (Bare P)) → Onward m st l i q → RunsFrom m st l i ws → FromHere m st q ws
  onward_here l i None [] h r = refl
  onward_here l i None (w ∷ ws) h r =
      let run = settled w.place _ r.0.1 in
      absurd (omega (arith, run.some, run.within))
  onward_here l i (Some q) ws h r = subst (λ (o : Option Stretch). FromStretch m st o ws) (sym h.1) r

  pub here_onward : (l i : ℕ) (q : Option P) (ws : List (Bare P)) → Onward m st l i q → FromHere m st q ws → RunsFrom m st l i ws
  here_onward l i None ws h r = subst (λ (xs : List (Bare P)). RunsFrom m st l i xs) (sym r) h
  here_onward l i (Some q) ws h r = subst (λ (o : Option Stretch). FromStretch m st o ws) h.1 r

  -- the run at a place, put before the runs to its right
  pub first_given : (v : Bare P) (t : Stretch) → st v.place ≡ Some t → v.about ≡ described m t → Described m (st v.place) (Some v.about) → (q : Option P) → Onward m st t.list (t.from + t.count) q → (ws : List (Bare P)) → FromHere m st q ws → (o : Option P) → o ≡ Some v.place → FromHere m st o (v ∷ ws)
  first_given v t e dd desc q right ws r o is =
      let rest : RunsFrom m st t.list (t.from + v.about.len) ws = subst (λ (n : ℕ). RunsFrom m st t.list (t.from + n) ws) (sym (ap (λ (x : Description). x.len) dd)) (here_onward t.list (t.from + t.count) q ws right r) in
      subst (λ (x : Option P). FromHere m st x (v ∷ ws)) (sym is) (subst (λ (x : Option Stretch). FromStretch m st x (v ∷ ws)) (sym e) ((t.count, e), desc, rest))

  module _ (faithful : (p q : P) (t u : Stretch) → st p ≡ Some t → st q ≡ Some u → t.list ≡ u.list → t.from ≡ u.from → p ≡ q) where
    -- the run at a place is the first of the runs from there on
    pub first_run : (v : Run P) (t : Stretch) → st v.place ≡ Some t → v.about ≡ described m t → (q : Option P) → Onward m st t.list (t.from + t.count) q → {S : Type 0} (ahead : S → List (Bare P) → Type 0) (s s' : S) → ((vs : List (Bare P)) → FromHere m st q vs → ahead s' vs) → (ws : List (Bare P)) → RunsFrom m st t.list t.from ws → Taken ahead s ws (Some v) s'
    first_run v t e dd q right ahead s s' next [] r =
        let run = settled v.place t e in
        absurd (omega (arith, run.some, run.within))
    first_run v t e dd q right ahead s s' next (w ∷ ws) (begins, desc, rest) =
        let same : w.place ≡ v.place = faithful w.place v.place _ t begins.1 e refl refl in
        let (u, f, about) = described_some m (st w.place) w.about desc in
        let stretch : u ≡ t = cc in
        let whole : w.about ≡ v.about = cc in
        let count : w.about.len ≡ t.count = ap (λ (x : Description). x.len) (whole ∙ dd) in
        (ap Some (same_bare (bare v) w (sym same) (sym whole)), next ws (onward_here t.list (t.from + t.count) q ws right (subst (λ (n : ℕ). RunsFrom m st t.list (t.from + n) ws) count rest)))

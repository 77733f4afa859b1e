-- The next run of a client that a clip shows.
use Rattle.std.proofs.Common.{◌≡◌, ℕ, ◌+◌, ◌<◌, ◌≤◌, true, false, is_some, Some, None, Option, sym, ap, ◌∙◌, subst, inl, inr, arith}
use Rattle.std.specs.Bool.{then_some}
use Rattle.std.specs.Option.{MatchOption}
use Rattle.std.proofs.lemmas.Bool.{cases_Bool}
use Rattle.block.specs.Units.{Meaning, Stretch, UnitOf, unit_at}
use Rattle.reader.specs.Answers.{Later, Nearest}
use Rattle.clip.specs.Clipped.{clipped, shown_part, moved, cut}
use Rattle.clip.specs.RunFacts.{RunsOf, first_at, cut_some}
use Rattle.clip.specs.ClippedFacts.{unit_from}
use Rattle.clip.proofs.Walking.{part_some, part_none}

module _ {P : Type 0} (limit : ℕ → ℕ) (m : Meaning) (st : P → Option Stretch) (runs : RunsOf m st) (client clock : ℕ) where
  -- a later unit that is shown is a later unit below, before the limit
  later_from : (l i : ℕ) → Later (clipped limit m) client clock l i → (j : ℕ) × Later m client clock l j × ((unit_at m l j).id.clock < limit client) × (unit_at (clipped limit m) l i ≡ unit_at m l j)
  later_from l i h =
      let a = unit_from limit m l i h.0 in
      let same : (unit_at m l a.0).id.client ≡ client = sym (ap (λ (x : UnitOf). x.id.client) a.4) ∙ h.1 in
      let at : clock ≤ (unit_at m l a.0).id.clock = subst (λ (x : UnitOf). clock ≤ x.id.clock) a.4 h.2 in
      (a.0, (a.1, same, at), subst (λ (x : ℕ). (unit_at m l a.0).id.clock < limit x) same a.2, a.4)

  pub nearest_past : limit client ≤ clock → Nearest (clipped limit m) (λ p. cut limit m (st p)) client clock None
  nearest_past h = λ l i later. let a = later_from l i later in omega (arith, a.1.2, a.2)

  nearest_none : Nearest m st client clock None → Nearest (clipped limit m) (λ p. cut limit m (st p)) client clock None
  nearest_none f = λ l i later. let a = later_from l i later in f l a.0 a.1

  nearest_shown : (p : P) → clock < limit client → Nearest m st client clock (Some p) → is_some (cut limit m (st p)) ≡ true → Nearest (clipped limit m) (λ q. cut limit m (st q)) client clock (Some p)
  nearest_shown p h f s =
      let t = f.0 in
      let part = part_some limit m (st p) t f.1 s in
      let first = first_at limit m t (runs p t f.1) part in
      let end : clock < (unit_at m t.list t.from).id.clock + shown_part limit m t = omega (arith, f.3, ap limit f.2) in (
        moved limit m t,
        cut_some limit m (st p) t f.1 part,
        ap (λ (x : UnitOf). x.id.client) first ∙ f.2,
        subst (λ (x : UnitOf). clock < x.id.clock + shown_part limit m t) (sym first) end,
        λ l i later.
            let a = later_from l i later in
            let least = f.4 l a.0 a.1 in
            omega (arith, ap (λ (x : UnitOf). x.id.clock) first, ap (λ (x : UnitOf). x.id.clock) a.3),
      )

  nearest_hidden : (p : P) → Nearest m st client clock (Some p) → is_some (cut limit m (st p)) ≡ false → Nearest (clipped limit m) (λ q. cut limit m (st q)) client clock None
  nearest_hidden p f s = λ l i later.
      let t = f.0 in
      let a = later_from l i later in
      let least = f.4 l a.0 a.1 in
      omega (arith, part_none limit m (st p) t f.1 s, (runs p t f.1).some, ap limit f.2, a.2)

  -- what is nearest below, kept if its run is shown
  pub nearest : (o r : Option P) → clock < limit client → Nearest m st client clock o → MatchOption o (r ≡ None) (λ p. r ≡ then_some (is_some (cut limit m (st p))) p) → Nearest (clipped limit m) (λ p. cut limit m (st p)) client clock r
  nearest None r h f e = subst (Nearest (clipped limit m) (λ p. cut limit m (st p)) client clock) (sym e) (nearest_none f)
  nearest (Some p) r h f e =
      elim (cases_Bool (is_some (cut limit m (st p)))) [
        | inl s ↦ subst (Nearest (clipped limit m) (λ q. cut limit m (st q)) client clock) (sym (e ∙ ap (λ b. then_some b p) s)) (nearest_shown p h f s)
        | inr s ↦ subst (Nearest (clipped limit m) (λ q. cut limit m (st q)) client clock) (sym (e ∙ ap (λ b. then_some b p) s)) (nearest_hidden p f s)
      ]

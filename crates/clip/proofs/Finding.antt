-- What a clip finds.
use Rattle.std.proofs.Common.{◌≡◌, ℕ, ◌<◌, ◌≤◌, ltb, length, Some, None, Option, sym, ap, ◌∙◌, subst, inl, inr, arith}
use Rattle.std.specs.Bool.{then_some}
use Rattle.std.specs.Option.{MatchOption}
use Rattle.std.proofs.lemmas.Bool.{cases_lt, lt-ltb, le-ltb}
use Rattle.block.specs.declared.ids.Id.{Id}
use Rattle.block.specs.Units.{Meaning, Stretch, unit_at}
use Rattle.reader.specs.Answers.{Found}
use Rattle.clip.specs.Clipped.{clipped, shown_part, moved, cut}
use Rattle.clip.specs.RunFacts.{RunsOf, moved_at, cut_some}
use Rattle.clip.specs.ClippedFacts.{unit_from}

module _ (limit : ℕ → ℕ) (m : Meaning) where
  pub found_hidden : (id : Id) → limit id.client ≤ id.clock → (l i : ℕ) → i < length ((clipped limit m).units l) → (unit_at (clipped limit m) l i).id ≡ id → ⊥
  found_hidden id h l i lt e =
      let a = unit_from limit m l i lt in
      let q : (unit_at m l a.0).id ≡ id = sym (ap (λ x. x.id) a.4) ∙ e in
      let s = subst (λ (x : Id). x.clock < limit x.client) q a.2 in
      omega arith

module _ {P : Type 0} (limit : ℕ → ℕ) (m : Meaning) (st : P → Option Stretch) (runs : RunsOf m st) where
  found_none : (id : Id) → Found m st id None → Found (clipped limit m) (λ p. cut limit m (st p)) id None
  found_none id f = λ l i lt e. let a = unit_from limit m l i lt in f l a.0 a.1 (sym (ap (λ x. x.id) a.4) ∙ e)

  found_shown : (id : Id) (r : P × ℕ) → Found m st id (Some r) → id.clock < limit id.client → Found (clipped limit m) (λ p. cut limit m (st p)) id (Some r)
  found_shown id r f h =
      let t = f.0 in
      let run = runs r.0 t f.1 in
      let h2 = subst (λ (x : Id). x.clock < limit x.client) (sym f.3) h in
      let h3 = rw (run.clock r.1 f.2, run.client r.1 f.2) at h2 in
      let part : r.1 < shown_part limit m t = omega (arith, f.2, h3) in
      (moved limit m t, cut_some limit m (st r.0) t f.1 (omega arith), part, ap (λ x. x.id) (moved_at limit m t run r.1 part) ∙ f.3)

  -- what is found below, kept if its clock is before the limit
  pub found : (id : Id) (o r : Option (P × ℕ)) → Found m st id o → MatchOption o (r ≡ None) (λ x. r ≡ then_some (ltb id.clock (limit id.client)) x) → Found (clipped limit m) (λ p. cut limit m (st p)) id r
  found id None r f e = subst (Found (clipped limit m) (λ p. cut limit m (st p)) id) (sym e) (found_none id f)
  found id (Some x) r f e =
      elim (cases_lt id.clock (limit id.client)) [
        | inl h ↦ subst (Found (clipped limit m) (λ p. cut limit m (st p)) id) (sym (e ∙ ap (λ b. then_some b x) (lt-ltb _ _ h))) (found_shown id x f h)
        | inr h ↦ subst (Found (clipped limit m) (λ p. cut limit m (st p)) id) (sym (e ∙ ap (λ b. then_some b x) (le-ltb _ _ h))) (found_hidden limit m id h)
      ]

-- What a clip says of a run.
use Rattle.std.proofs.Common.{◌≡◌, ℕ, ◌-◌, ◌<◌, min, cond, Some, None, Option, sym, refl, ap, subst, arith}
use Rattle.std.proofs.lemmas.Bool.{lt-ltb}
use Rattle.block.specs.Units.{Meaning, Stretch, UnitOf, RunOf, unit_at}
use Rattle.reader.specs.Answers.{Described, described}
use Rattle.reader.specs.declared.reader.Description.{Description}
use Rattle.clip.specs.Clipped.{clipped, shown_part, moved, cut}
use Rattle.clip.specs.RunFacts.{first_at}

abbrev pub shorter : (ℕ → ℕ) → Description → Description
shorter limit d = record { id = d.id; len = min d.len (limit d.id.client - d.id.clock); kind = d.kind; live = d.live; list = d.list; redone = d.redone }

module _ (limit : ℕ → ℕ) (m : Meaning) where
  said_at : (t : Stretch) → RunOf m t → (unit_at m t.list t.from).id.clock < limit (unit_at m t.list t.from).id.client → Described (clipped limit m) (cut limit m (Some t)) (Some (shorter limit (described m t)))
  said_at t run h =
      let part : 0 < shown_part limit m t = omega (arith, run.some) in
      subst (λ b. Described (clipped limit m) (cond b (Some (moved limit m t)) None) (Some (shorter limit (described m t)))) (sym (lt-ltb 0 _ part))
      (ap (λ (x : UnitOf). Some (record { id = x.id; len = shown_part limit m t; kind = x.kind; live = x.live; list = t.list; redone = x.redone })) (sym (first_at limit m t run part)))

  pub said_some : (o : Option Stretch) (d : Description) → ((t : Stretch) → o ≡ Some t → RunOf m t) → Described m o (Some d) → d.id.clock < limit d.id.client → Described (clipped limit m) (cut limit m o) (Some (shorter limit d))
  said_some None d runs e h = absurd (let z : ◌≡◌ {A = ℕ} 0 1 = cc in omega arith)
  said_some (Some t) d runs e h =
      let q : described m t ≡ d = cc in
      subst (λ x. x.id.clock < limit x.id.client → Described (clipped limit m) (cut limit m (Some t)) (Some (shorter limit x))) q (said_at t (runs t refl)) h

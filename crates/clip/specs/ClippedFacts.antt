-- What a clip shows is a document: its laws, its runs, its places.
use Rattle.std.specs.Prelude.{◌≡◌, ℕ, ◌+◌, ◌<◌, ◌≤◌, min, true, length, Some, filter, Option}
use Rattle.std.proofs.Common.{sym, ap, subst, ◌∙◌, arith}
use Rattle.std.proofs.lemmas.Bool.{ltb-true, lt-ltb}
use Rattle.block.specs.Units.{Meaning, Stretch, UnitOf, Lawful, RunOf, unit_at, no_unit, visible}
use Rattle.clip.specs.Clipped.{shown_by, clipped, place_of, cut}
use Rattle.block.specs.Kept.{kept_at, kept_from, spot_same, kept_twice, kept_fewer}
use Rattle.clip.specs.RunFacts.{RunsOf, moved_run, cut_from}

module _ (limit : ℕ → ℕ) (m : Meaning) where
  pub unit_from : (l i : ℕ) → i < length ((clipped limit m).units l) → (j : ℕ) × (j < length (m.units l)) × ((unit_at m l j).id.clock < limit (unit_at m l j).id.client) × (place_of limit m l j ≡ i) × (unit_at (clipped limit m) l i ≡ unit_at m l j)
  unit_from l i h =
      let k = kept_from (shown_by limit) (m.units l) i no_unit h in
      (k.0, k.1, ltb-true _ _ k.2, k.3, ap (λ x. unit_at (clipped limit m) l x) (sym k.3) ∙ kept_at (shown_by limit) (m.units l) k.0 no_unit k.1 k.2)

  pub clipped_lawful : Lawful m → Lawful (clipped limit m)
  clipped_lawful law = record {
    beyond = λ l h. ap (filter (shown_by limit)) (law.beyond l h);
    small = λ c. omega (arith, law.small c);
    few = λ l. omega (arith, law.few l, ap length (kept_twice (shown_by limit) visible (m.units l)), kept_fewer (shown_by limit) visible (m.units l));
    once = λ l i k j hi hj e.
        let a = unit_from l i hi in
        let b = unit_from k j hj in
        let same : (unit_at m l a.0).id ≡ (unit_at m k b.0).id = sym (ap (λ x. x.id) a.4) ∙ e ∙ ap (λ x. x.id) b.4 in
        let o = law.once l a.0 k b.0 a.1 b.1 same in
        let o0 = o.0 in let o1 = o.1 in let a3 = a.3 in let b3 = b.3 in
        let two : place_of limit m l a.0 ≡ place_of limit m k b.0 = ap (λ x. place_of limit m x a.0) o0 ∙ ap (place_of limit m k) o1 in
        (o0, sym a3 ∙ two ∙ b3);
    below = λ l i h.
        let a = unit_from l i h in
        subst (λ (x : UnitOf). x.id.clock < min (m.known x.id.client) (limit x.id.client)) (sym a.4) (omega (arith, a.2, law.below l a.0 a.1));
    holds = λ l k i h e.
        let a = unit_from k i h in
        let r = law.holds l k a.0 a.1 (e ∙ ap (λ (x : UnitOf). Some x.id) a.4) in
        (ap (λ x. x.kind) a.4 ∙ r.0, ap (λ x. x.worth) a.4 ∙ r.1);
  }

module _ {P : Type 0} (limit : ℕ → ℕ) (m : Meaning) (st : P → Option Stretch) (runs : RunsOf m st) where
  pub clipped_settled : (p : P) (u : Stretch) → cut limit m (st p) ≡ Some u → RunOf (clipped limit m) u
  clipped_settled p u e =
      let c = cut_from limit m (st p) u e in
      subst (RunOf (clipped limit m)) c.3 (moved_run limit m c.0 (runs p c.0 c.1) c.2)

  pub clipped_faithful : ((p q : P) (t u : Stretch) → st p ≡ Some t → st q ≡ Some u → t.list ≡ u.list → t.from ≡ u.from → p ≡ q) → (p q : P) (t u : Stretch) → cut limit m (st p) ≡ Some t → cut limit m (st q) ≡ Some u → t.list ≡ u.list → t.from ≡ u.from → p ≡ q
  clipped_faithful law p q t u e f g h =
      let a = cut_from limit m (st p) t e in
      let b = cut_from limit m (st q) u f in
      let v = a.0 in
      let w = b.0 in
      let lists : v.list ≡ w.list = ap (λ x. x.list) a.3 ∙ g ∙ sym (ap (λ x. x.list) b.3) in
      let froms : place_of limit m v.list v.from ≡ place_of limit m w.list w.from = ap (λ x. x.from) a.3 ∙ h ∙ sym (ap (λ x. x.from) b.3) in
      let froms2 : place_of limit m v.list v.from ≡ place_of limit m v.list w.from = froms ∙ ap (λ x. place_of limit m x w.from) (sym lists) in
      let rv = runs p v a.1 in
      let rw2 = runs q w b.1 in
      let within2 = subst (λ x. w.from + w.count ≤ length (m.units x)) (sym lists) rw2.within in
      let shown2 = subst (λ x. shown_by limit (unit_at m x w.from) ≡ true) (sym lists) (lt-ltb _ _ (omega (arith, b.2))) in
      law p q v w a.1 b.1 lists
      (spot_same (shown_by limit) (m.units v.list) v.from w.from no_unit (omega (arith, rv.within, a.2)) (omega (arith, within2, b.2)) (lt-ltb _ _ (omega (arith, a.2))) shown2 froms2)

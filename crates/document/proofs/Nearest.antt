-- A client's run that comes next.
use Rattle.std.proofs.Common.{◌≡◌, ℕ, ◌+◌, ◌<◌, ◌≤◌, true, false, eqb, ltb, length, is_some, Some, None, Option, sym, refl, ap, ◌∙◌, arith}
use Rattle.std.proofs.lemmas.Bool.{and_parts, and_from, eqb-true, eq-eqb, ltb-true, lt-ltb, both_ways}
use Rattle.std.specs.Option.{MatchOption}
use Rattle.block.specs.Units.{UnitOf, unit_at}
use Rattle.reader.specs.Answers.{Later, Nearest}
use Rattle.store.specs.Clocks.{end_of}
use Rattle.store.specs.Records.{Store, run_at, list_at}
use Rattle.document.specs.LawFacts.{spread, unit_is, listed_is}
use Rattle.document.specs.Meaning.{meaning_of, offset, stretch_of}
use Rattle.document.specs.ReadingFacts.{some_is, span, stretched_some, first_unit}
use Rattle.document.specs.Sound.{Sound}
use Rattle.document.specs.Finds.{is_due, Due}

pub record IsDue (d : Store) (c k p : ℕ) : Type 0 where
  pub list : ℕ
  pub listed : (run_at d p).list ≡ Some list
  pub client : (run_at d p).id.client ≡ c
  pub past : k < end_of (run_at d p)

due_is : (d : Store) (c k p : ℕ) → is_due c k (run_at d p) ≡ true → IsDue d c k p
due_is d c k p t =
    let a = and_parts (is_some (run_at d p).list) _ t in
    let b = and_parts (eqb (run_at d p).id.client c) (ltb k (end_of (run_at d p))) a.1 in
    let l = some_is (run_at d p).list a.0 in
    record { list = l.0; listed = l.1; client = eqb-true _ _ b.0; past = ltb-true _ _ b.1 }

-- by cases, what is said of the run that is due first
pub due_from : (d : Store) (c k : ℕ) (r : Option ℕ) → MatchOption r ((i : ℕ) → i < length d.runs → is_due c k (run_at d i) ≡ false) (λ p. (p < length d.runs) × (is_due c k (run_at d p) ≡ true) × ((i : ℕ) → i < length d.runs → is_due c k (run_at d i) ≡ true → (run_at d p).id.clock ≤ (run_at d i).id.clock)) → Due d c k r
due_from d c k None h = h
due_from d c k (Some p) h = h

module _ (d : Store) (s : Sound d) (c k : ℕ) where
  -- a unit of a list at the clock or later is of a run that is due
  due_unit : (l i : ℕ) → Later (meaning_of d) c k l i → (q : ℕ) × (q < length d.runs) × (is_due c k (run_at d q) ≡ true) × ((run_at d q).id.clock ≤ (unit_at (meaning_of d) l i).id.clock)
  due_unit l i h =
      let o = spread d s l i (listed_is d s l i h.0) h.0 (list_at d l).start refl in
      let u = unit_is d s l i o in
      let a : (unit_at (meaning_of d) l i).id.clock ≡ (run_at d o.p).id.clock + o.k = ap (λ (u : UnitOf). u.id.clock) u in
      let b : (run_at d o.p).id.client ≡ c = sym (ap (λ (u : UnitOf). u.id.client) u) ∙ h.1 in
      let e = o.inside in
      let g = h.2 in
      (o.p, o.stands.below, and_from _ _ (ap is_some o.stands.list) (and_from _ _ (eq-eqb _ _ b) (lt-ltb _ _ (omega (arith, a, e, g)))), omega (arith, a))

  pub nearest_none : Due d c k None → Nearest (meaning_of d) (stretch_of d) c k None
  nearest_none none l i h = let u = due_unit l i h in both_ways _ (none u.0 u.1) u.2

  pub nearest_some : (p : ℕ) → Due d c k (Some p) → Nearest (meaning_of d) (stretch_of d) c k (Some p)
  nearest_some p b =
      let r = due_is d c k p b.1 in
      let x = some_is (offset d p) (s.links.reached p b.0) in
      let u = first_unit d s p r.list x.0 b.0 r.listed x.1 in
      let uc : (unit_at (meaning_of d) r.list x.0).id.client ≡ (run_at d p).id.client = ap (λ (u : UnitOf). u.id.client) u in
      let ck : (unit_at (meaning_of d) r.list x.0).id.clock ≡ (run_at d p).id.clock + 0 = ap (λ (u : UnitOf). u.id.clock) u in (
        span r.list x.0 (run_at d p).len,
        stretched_some (run_at d p).list (offset d p) (run_at d p).len r.list x.0 r.listed x.1,
        uc ∙ r.client,
        (let past = r.past in omega (arith, ck, past)),
        (λ l i h. let v = due_unit l i h in let le = b.2 v.0 v.1 v.2 in let w = v.3 in omega (arith, ck, le, w)),
      )

-- The sample document is lawful, and its places are its runs.
use Rattle.std.specs.Prelude.{◌≡◌, ℕ, zero, suc, ◌+◌, ◌^◌, ◌<◌, ◌≤◌, cond, [], length, Some, ◌==◌, refl}
use Rattle.std.proofs.Common.{sym, ap, subst, ◌∙◌, arith}
use Rattle.std.proofs.lemmas.Bool.{cond_both}
use Rattle.block.specs.declared.ids.Id.{Id}
use Rattle.block.specs.declared.kind.Kind.TheVariants as kinds
use Rattle.block.specs.Units.{Lawful, Stretch, RunOf, UnitOf, unit_at, nested, seen}
use Rattle.sample.specs.declared.sample.Run.{Run}
use Rattle.sample.specs.declared.sample.Run.TheVariants.{Ab, Bold, Xy, Nest, C, Inner}
use Rattle.sample.specs.Sample.{sample, units_of, holder_of, known_of, span}

-- where an id stands: its list and its index there
by_5 : ℕ → ℕ × ℕ
by_5 zero = (0, 0)
by_5 (suc zero) = (0, 1)
by_5 (suc (suc zero)) = (0, 6)
by_5 (suc (suc (suc k))) = (0, 2)

by_9 : ℕ → ℕ × ℕ
by_9 zero = (0, 3)
by_9 (suc zero) = (0, 4)
by_9 (suc (suc k)) = (0, 5)

home : Id → ℕ × ℕ
home id = cond (id.client == 5) (by_5 id.clock) (cond (id.client == 9) (by_9 id.clock) (1, 0))

back : (l i : ℕ) → i < length (units_of l) → home (unit_at sample l i).id ≡ (l, i)
unfolding home by_5 by_9
back zero zero h = refl
back zero (suc zero) h = refl
back zero (suc (suc zero)) h = refl
back zero (suc (suc (suc zero))) h = refl
back zero (suc (suc (suc (suc zero)))) h = refl
back zero (suc (suc (suc (suc (suc zero))))) h = refl
back zero (suc (suc (suc (suc (suc (suc zero)))))) h = refl
back zero (suc (suc (suc (suc (suc (suc (suc i))))))) h = absurd (omega arith)
back (suc zero) zero h = refl
back (suc zero) (suc i) h = absurd (omega arith)
back (suc (suc l)) i h = absurd (omega arith)

once : (l i k j : ℕ) → i < length (units_of l) → j < length (units_of k) → (unit_at sample l i).id ≡ (unit_at sample k j).id → (l ≡ k) × (i ≡ j)
once l i k j h g e =
    let q : (l, i) ≡ (k, j) = sym (back l i h) ∙ ap home e ∙ back k j g in
    (ap (λ (x : ℕ × ℕ). x.0) q, ap (λ (x : ℕ × ℕ). x.1) q)

pub below : (l i : ℕ) → i < length (units_of l) → (unit_at sample l i).id.clock < known_of (unit_at sample l i).id.client
below zero zero h = omega arith
below zero (suc zero) h = omega arith
below zero (suc (suc zero)) h = omega arith
below zero (suc (suc (suc zero))) h = omega arith
below zero (suc (suc (suc (suc zero)))) h = omega arith
below zero (suc (suc (suc (suc (suc zero))))) h = omega arith
below zero (suc (suc (suc (suc (suc (suc zero)))))) h = omega arith
below zero (suc (suc (suc (suc (suc (suc (suc i))))))) h = absurd (omega arith)
below (suc zero) zero h = omega arith
below (suc zero) (suc i) h = absurd (omega arith)
below (suc (suc l)) i h = absurd (omega arith)

beyond : (l : ℕ) → 2 ≤ l → units_of l ≡ []
beyond zero h = absurd (omega arith)
beyond (suc zero) h = absurd (omega arith)
beyond (suc (suc l)) h = refl

few : (l : ℕ) → length (seen (units_of l)) < 2 ^ 32
few zero = omega arith
few (suc zero) = omega arith
few (suc (suc l)) = omega arith

small : (client : ℕ) → known_of client < 2 ^ 32
small client =
    let P : ℕ → Type 0 = λ n. n < 2 ^ 32 in
    cond_both (client == 5) 4 _ P (λ _. omega arith) (λ _. cond_both (client == 7) 1 _ P (λ _. omega arith) (λ _. cond_both (client == 9) 3 0 P (λ _. omega arith) (λ _. omega arith)))

holds : (l k i : ℕ) → i < length (units_of k) → holder_of l ≡ Some (unit_at sample k i).id → ((unit_at sample k i).kind ≡ kinds.List) × ((unit_at sample k i).worth ≡ nested l)
holds zero k i h e = absurd (let z : ◌≡◌ {A = ℕ} 0 1 = cc in omega arith)
holds (suc zero) k i h e =
    let same : (unit_at sample 0 5).id ≡ (unit_at sample k i).id = cc in
    let at = once 0 5 k i (omega arith) h same in
    let q : unit_at sample k i ≡ unit_at sample 0 5 = ap (λ (x : ℕ). unit_at sample x i) (sym at.0) ∙ ap (unit_at sample 0) (sym at.1) in
    (ap (λ (u : UnitOf). u.kind) q, ap (λ (u : UnitOf). u.worth) q)
holds (suc (suc l)) k i h e = absurd (let z : ◌≡◌ {A = ℕ} 0 1 = cc in omega arith)

pub sample_lawful : Lawful sample
sample_lawful = record { beyond = beyond; small = small; few = few; once = once; below = below; holds = holds }

-- one unit is a run, and so are two that agree
single : (l f : ℕ) → f < length (units_of l) → RunOf sample (record { list = l; from = f; count = 1 })
single l f h =
    let at : (k : ℕ) → k < 1 → unit_at sample l (f + k) ≡ unit_at sample l f = λ k g. ap (unit_at sample l) (omega arith) in
    record {
      some = omega arith;
      within = omega arith;
      client = λ k g. ap (λ (u : UnitOf). u.id.client) (at k g);
      clock = λ k g. ap (λ (u : UnitOf). u.id.clock) (at k g) ∙ omega arith;
      kind = λ k g. ap (λ (u : UnitOf). u.kind) (at k g);
      live = λ k g. ap (λ (u : UnitOf). u.live) (at k g);
      redone = λ k g. ap (λ (u : UnitOf). u.redone) (at k g);
    }

by_two : (P : ℕ → Type 0) → P 0 → P 1 → (k : ℕ) → k < 2 → P k
by_two P a b zero h = a
by_two P a b (suc zero) h = b
by_two P a b (suc (suc k)) h = absurd (omega arith)

pub run_of : (p : Run) → RunOf sample (span p)
run_of Ab =
    record {
      some = omega arith;
      within = omega arith;
      client = by_two _ refl refl;
      clock = by_two _ refl refl;
      kind = by_two _ refl refl;
      live = by_two _ refl refl;
      redone = by_two _ refl refl;
    }
run_of Bold = single 0 2 (omega arith)
run_of Xy =
    record {
      some = omega arith;
      within = omega arith;
      client = by_two _ refl refl;
      clock = by_two _ refl refl;
      kind = by_two _ refl refl;
      live = by_two _ refl refl;
      redone = by_two _ refl refl;
    }
run_of Nest = single 0 5 (omega arith)
run_of C = single 0 6 (omega arith)
run_of Inner = single 1 0 (omega arith)

pub sample_settled : (p : Run) (t : Stretch) → Some (span p) ≡ Some t → RunOf sample t
sample_settled p t e = let q : span p ≡ t = cc in subst (RunOf sample) q (run_of p)

-- the run that begins at an index of a list
root_run : ℕ → Run
root_run zero = Ab
root_run (suc zero) = Ab
root_run (suc (suc zero)) = Bold
root_run (suc (suc (suc zero))) = Xy
root_run (suc (suc (suc (suc zero)))) = Xy
root_run (suc (suc (suc (suc (suc zero))))) = Nest
root_run (suc (suc (suc (suc (suc (suc i)))))) = C

begun : ℕ → ℕ → Run
begun zero i = root_run i
begun (suc l) i = Inner

begins : (p : Run) → begun (span p).list (span p).from ≡ p
unfolding begun root_run
begins Ab = refl
begins Bold = refl
begins Xy = refl
begins Nest = refl
begins C = refl
begins Inner = refl

pub sample_faithful : (p q : Run) (t u : Stretch) → Some (span p) ≡ Some t → Some (span q) ≡ Some u → t.list ≡ u.list → t.from ≡ u.from → p ≡ q
sample_faithful p q t u e f g h =
    let a : span p ≡ t = cc in
    let b : span q ≡ u = cc in
    let l : (span p).list ≡ (span q).list = ap (λ (x : Stretch). x.list) a ∙ g ∙ sym (ap (λ (x : Stretch). x.list) b) in
    let i : (span p).from ≡ (span q).from = ap (λ (x : Stretch). x.from) a ∙ h ∙ sym (ap (λ (x : Stretch). x.from) b) in
    sym (begins p) ∙ ap (λ (x : ℕ). begun x (span p).from) l ∙ ap (begun (span q).list) i ∙ begins q

-- A run that is met from its list's start is found again by a walk to the left.
use Rattle.std.specs.Prelude.{◌≡◌, ℕ, zero, suc, ◌+◌, ◌<◌, true, false, ◌⊎◌, length, is_some, Some, None, Option, ◌==◌, ◌≢◌, refl}
use Rattle.std.proofs.Common.{sym, ap, subst, ◌∙◌, inl, inr, ⊎_elim, arith}
use Rattle.std.proofs.lemmas.Bool.{eqb-true, or_cases}
use Rattle.store.specs.Records.{Store, run_at}
use Rattle.links.specs.Walks.{meets}
use Rattle.document.specs.Meaning.{plus, upto}
use Rattle.document.specs.WalkFacts.{upto_more}

no_truth : {B : Type 0} → false ≡ true → B
no_truth h = cc

-- right neighbours are runs in use that name the run as their left one
abbrev pub ToRight : Store → Type 0
ToRight d = (i j : ℕ) → i < length d.runs → (run_at d i).right ≡ Some j → (j < length d.runs) × ((run_at d j).left ≡ Some i) × ((run_at d j).list ≡ (run_at d i).list)

meets_none : (d : Store) (i n : ℕ) → meets d i None n ≢ true
unfolding meets
meets_none d i n h = no_truth h

-- the run itself, or the walk goes on
pub record GoesOn (d : Store) (i j n : ℕ) : Type 0 where
  pub next : ℕ
  pub right : (run_at d j).right ≡ Some next
  pub met : meets d i (Some next) n ≡ true

goes_on : (d : Store) (i j n : ℕ) (o : Option ℕ) → (run_at d j).right ≡ o → meets d i o n ≡ true → GoesOn d i j n
goes_on d i j n None e h = absurd (meets_none d i n h)
goes_on d i j n (Some q) e h = record { next = q; right = e; met = h }

one_step : (d : Store) (i j n : ℕ) → meets d i (Some j) (suc n) ≡ true → (j ≡ i) ⊎ GoesOn d i j n
unfolding meets
one_step d i j n h =
    ⊎_elim
    (λ e. inl (eqb-true j i e))
    (λ m. inr (goes_on d i j n (run_at d j).right refl m))
    (or_cases (j == i) (meets d i (run_at d j).right n) h)

no_steps : (d : Store) (i j : ℕ) → meets d i (Some j) zero ≢ true
unfolding meets
no_steps d i j h = no_truth h

upto_later : (d : Store) (o : Option ℕ) (f x k : ℕ) → upto d o f ≡ Some x → upto d o (f + k) ≡ Some x
upto_later d o f x zero h = let e : f + 0 ≡ f = omega arith in rw e h
upto_later d o f x (suc k) h = let e : f + suc k ≡ suc (f + k) = omega arith in rw e (upto_more d o (f + k) x (upto_later d o f x k h))

upto_left : (d : Store) (j q f x : ℕ) → (run_at d q).left ≡ Some j → upto d (run_at d j).left f ≡ Some x → upto d (run_at d q).left (suc f) ≡ Some (x + (run_at d j).len)
unfolding upto
upto_left d j q f x e h = ap (λ (o : Option ℕ). upto d o (suc f)) e ∙ ap (plus (run_at d j).len) h

module _ (d : Store) (to_right : ToRight d) (i : ℕ) where
  pub met : (n j f x : ℕ) → j < length d.runs → upto d (run_at d j).left f ≡ Some x → meets d i (Some j) n ≡ true → is_some (upto d (run_at d i).left (f + n)) ≡ true
  met zero j f x lt h m = absurd (no_steps d i j m)
  met (suc n) j f x lt h m =
      ⊎_elim
      (λ e. ap is_some (ap (λ (k : ℕ). upto d (run_at d k).left (f + suc n)) (sym e) ∙ upto_later d (run_at d j).left f x (suc n) h))
      (λ g.
      let t = to_right j g.next lt g.right in
      let e : suc f + n ≡ f + suc n = omega arith in
      subst (λ (k : ℕ). is_some (upto d (run_at d i).left k) ≡ true) e (met n g.next (suc f) (x + (run_at d j).len) t.0 (upto_left d j g.next f x t.1 h) g.met))
      (one_step d i j n m)

  pub first_or_left : (n j : ℕ) → j < length d.runs → meets d i (Some j) n ≡ true → (j ≡ i) ⊎ ((k : ℕ) × ((run_at d i).left ≡ Some k))
  first_or_left zero j lt m = absurd (no_steps d i j m)
  first_or_left (suc n) j lt m =
      ⊎_elim
      inl
      (λ g.
      let t = to_right j g.next lt g.right in
      ⊎_elim (λ e. inr (j, ap (λ (k : ℕ). (run_at d k).left) (sym e) ∙ t.1)) inr (first_or_left n g.next t.0 g.met))
      (one_step d i j n m)

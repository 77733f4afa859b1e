-- One run's record replaced: the other runs, and the sums of visible units.
use Rattle.std.proofs.Common.{◌≡◌, ℕ, zero, suc, ◌+◌, ◌<◌, ◌≤◌, ◌≢◌, List, length, sym, refl, ap, ◌∙◌, subst, ⊎_elim, arith, get_or-set_other, get_or-set_same}
use Rattle.std.proofs.lemmas.Bool.{cases_eq}
use Rattle.store.specs.declared.records.ListRecord.{ListRecord}
use Rattle.store.specs.declared.records.RunRecord.{RunRecord}
use Rattle.store.specs.Records.{Store, run_at, no_run}
use Rattle.links.specs.Lengths.{share, visible_sum}
use Rattle.edit.specs.Edits.{replaced}

module _ (s : Store) (i : ℕ) (r : RunRecord) (hs : List ListRecord) (lt : i < length s.runs) where
  pub run_there : run_at (replaced s i r hs) i ≡ r
  run_there = get_or-set_same s.runs i r no_run lt

  pub run_other : (k : ℕ) → k ≢ i → run_at (replaced s i r hs) k ≡ run_at s k
  run_other k ne = get_or-set_other s.runs i k r no_run ne

  -- what every run keeps
  pub each_run : {X : Type 0} (f : RunRecord → X) → f r ≡ f (run_at s i) → (k : ℕ) → f (run_at (replaced s i r hs) k) ≡ f (run_at s k)
  each_run f e k =
      ⊎_elim
      (λ q. subst (λ m. f (run_at (replaced s i r hs) m) ≡ f (run_at s m)) (sym q) (ap f run_there ∙ e))
      (λ ne. ap f (run_other k ne))
      (cases_eq k i)

  sum_before : (l k : ℕ) → k ≤ i → visible_sum (replaced s i r hs) l k ≡ visible_sum s l k
  unfolding visible_sum
  sum_before l zero h = refl
  sum_before l (suc k) h =
      let ne : k ≢ i = omega arith in
      let e = sum_before l k (omega arith) in
      let f : share l (run_at (replaced s i r hs) k) ≡ share l (run_at s k) = ap (share l) (run_other k ne) in
      omega (arith, e, f)

  pub sum_after : (l k : ℕ) → i < k → visible_sum (replaced s i r hs) l k + share l (run_at s i) ≡ visible_sum s l k + share l r
  unfolding visible_sum
  sum_after l zero h = absurd (omega arith)
  sum_after l (suc k) h =
      ⊎_elim
      (λ q.
      let a = sum_before l k (omega arith) in
      let b : share l (run_at (replaced s i r hs) k) ≡ share l r = ap (λ m. share l (run_at (replaced s i r hs) m)) q ∙ ap (share l) run_there in
      let c : share l (run_at s k) ≡ share l (run_at s i) = ap (λ m. share l (run_at s m)) q in
      omega (arith, a, b, c))
      (λ ne.
      let a = sum_after l k (omega arith) in
      let b : share l (run_at (replaced s i r hs) k) ≡ share l (run_at s k) = ap (share l) (run_other k ne) in
      omega (arith, a, b))
      (cases_eq k i)

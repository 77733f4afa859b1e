-- Each run of a list is met from the list's start, also after a record was put into the chain.
use Rattle.std.proofs.Common.{◌≡◌, ℕ, zero, suc, ◌+◌, ◌<◌, ◌≤◌, true, false, eqb, length, Some, None, Option, sym, refl, ap, ◌∙◌, subst, ⊎_elim, arith}
use Rattle.std.proofs.lemmas.Bool.{eq-eqb, eqb-true, or_cases}
use Rattle.store.specs.Records.{Store, run_at, list_at}
use Rattle.links.specs.Walks.{meets, is_reached}
use Rattle.document.specs.Sound.{Linked}
use Rattle.chain.specs.Chains.{Ends, Inserted}
use Rattle.chain.proofs.Chains.{some_same, ends_on, ends_back, ends_same, ends_none, not_zero, or_right, depth, depth_ends, new_ends, ends_after, new_or_old, linked_after}

meets_here : (s : Store) (i n : ℕ) → meets s i (Some i) (suc n) ≡ true
unfolding meets
meets_here s i n = rw (eq-eqb i i refl) refl

meets_on : (s : Store) (t j : ℕ) (o : Option ℕ) (n : ℕ) → (run_at s j).right ≡ o → meets s t o n ≡ true → meets s t (Some j) (suc n) ≡ true
unfolding meets
meets_on s t j o n e h = or_right (eqb j t) (meets s t (run_at s j).right n) (ap (λ (x : Option ℕ). meets s t x n) e ∙ h)

no_truth : {B : Type 0} → false ≡ true → B
no_truth h = cc

meets_more : (s : Store) (t : ℕ) (o : Option ℕ) (n k : ℕ) → meets s t o n ≡ true → n ≤ k → meets s t o k ≡ true
unfolding meets
meets_more s t None n k h le = no_truth h
meets_more s t (Some j) zero k h le = no_truth h
meets_more s t (Some j) (suc n) zero h le = absurd (omega arith)
meets_more s t (Some j) (suc n) (suc k) h le =
    ⊎_elim
    (λ e. rw e refl)
    (λ m. or_right (eqb j t) (meets s t (run_at s j).right k) (meets_more s t (run_at s j).right n k m (omega arith)))
    (or_cases (eqb j t) (meets s t (run_at s j).right n) h)

-- the walk to the left from a run that was met takes no more steps than it took to meet it
met_ends : (s : Store) → Linked s → (t n : ℕ) (o : Option ℕ) (f : ℕ) → ((j : ℕ) → o ≡ Some j → (j < length s.runs) × Ends s (Some j) (suc f)) → meets s t o n ≡ true → (k : ℕ) × (k ≤ f + n) × Ends s (Some t) k
unfolding meets
met_ends s lk t n None f w h = no_truth h
met_ends s lk t zero (Some j) f w h = no_truth h
met_ends s lk t (suc n) (Some j) f w h =
    let here = w j refl in
    ⊎_elim
    (λ e. (suc f, omega arith, subst (λ m. Ends s (Some m) (suc f)) (eqb-true j t e) here.1))
    (λ m.
    let r = met_ends s lk t n (run_at s j).right (suc f) (λ i e. let x = lk.to_right j i here.0 e in (x.0, ends_on s i (suc f) (Some j) x.1 here.1)) m in
    (r.0, (let b = r.1 in omega (arith, b)), r.2))
    (or_cases (eqb j t) (meets s t (run_at s j).right n) h)

-- each run of a list is at most as many steps from its left end as there are runs
abbrev pub Near : Store → Type 0
Near s = (i l : ℕ) → i < length s.runs → (run_at s i).list ≡ Some l → (k : ℕ) × (k ≤ length s.runs) × Ends s (Some i) k

pub near_from : (s : Store) → Linked s → ((i l : ℕ) → i < length s.runs → (run_at s i).list ≡ Some l → l < length s.lists) → ((i : ℕ) → i < length s.runs → is_reached s i (run_at s i).list ≡ true) → Near s
near_from s lk listed met i l lt li =
    let m : meets s i (list_at s l).start (length s.runs) ≡ true = subst (λ (o : Option ℕ). is_reached s i o ≡ true) li (met i lt) in
    let r = met_ends s lk i (length s.runs) (list_at s l).start 0 (λ j e. let x = lk.start_of l j (listed i l lt li) e in (x.0, ends_on s j 0 None x.1 (ends_none s))) m in
    (r.0, (let b = r.1 in omega (arith, b)), r.2)

module _ (s : Store) (lk : Linked s) (l t : ℕ) where
  -- the walk from the start comes to a run after as many steps as the walk from it to the left takes
  from_start : (k i n : ℕ) (o : Option ℕ) → (run_at s i).left ≡ o → i < length s.runs → (run_at s i).list ≡ Some l → Ends s o k → meets s t (Some i) n ≡ true → meets s t (list_at s l).start (k + n) ≡ true
  from_start zero i n None e lt li h m = let q : 0 + n ≡ n = omega arith in rw q (ap (λ (x : Option ℕ). meets s t x n) (lk.begins i l lt e li) ∙ m)
  from_start (suc k) i n None e lt li h m = let z = ends_same s None (suc k) 0 h (ends_none s) in absurd (omega (arith, z))
  from_start zero i n (Some j) e lt li h m = not_zero s j h
  from_start (suc k) i n (Some j) e lt li h m =
      let x = lk.to_left i j lt e in
      let q : k + suc n ≡ suc k + n = omega arith in
      subst (λ y. meets s t (list_at s l).start y ≡ true) q (from_start k j (suc n) (run_at s j).left refl x.0 (x.2 ∙ li) (ends_back s j k (run_at s j).left refl h) (meets_on s t j (Some i) n x.1 m))

reached_in : (s : Store) → Linked s → (i l k : ℕ) → i < length s.runs → (run_at s i).list ≡ Some l → Ends s (Some i) k → k ≤ length s.runs → meets s i (list_at s l).start (length s.runs) ≡ true
reached_in s lk i l zero lt li h le = not_zero s i h
reached_in s lk i l (suc k) lt li h le = meets_more s i (list_at s l).start (k + 1) (length s.runs) (from_start s lk l i k i 1 (run_at s i).left refl lt li (ends_back s i k (run_at s i).left refl h) (meets_here s i 0)) (omega arith)

pub reached_from : (s : Store) → Linked s → Near s → (i : ℕ) → i < length s.runs → (o : Option ℕ) → (run_at s i).list ≡ o → is_reached s i o ≡ true
reached_from s lk nr i lt None e = refl
reached_from s lk nr i lt (Some l) e = let r = nr i l lt e in reached_in s lk i l r.0 lt e r.2 r.1

module _ (s s' : Store) (l : ℕ) (p q : Option ℕ) (lk : Linked s) (ins : Inserted s s' l p q) (nr : Near s) where
  depth_near : (o : Option ℕ) → p ≡ o → depth s s' l p q lk ins ≤ length s.runs
  depth_near None e = let z = ends_same s p (depth s s' l p q lk ins) 0 (depth_ends s s' l p q lk ins) (subst (λ (o : Option ℕ). Ends s o 0) (sym e) (ends_none s)) in omega (arith, z)
  depth_near (Some i) e =
      let a = ins.place i e in
      let r = nr i l a.0 a.1 in
      let b = r.1 in
      let z = ends_same s p (depth s s' l p q lk ins) r.0 (depth_ends s s' l p q lk ins) (subst (λ (o : Option ℕ). Ends s o r.0) (sym e) r.2) in
      omega (arith, z, b)

  pub near_after : Near s'
  near_after i k lt li =
      let e = ins.long in
      ⊎_elim
      (λ h.
      let b = depth_near p refl in
      (suc (depth s s' l p q lk ins), omega (arith, e, b), subst (λ m. Ends s' (Some m) (suc (depth s s' l p q lk ins))) (sym h) (new_ends s s' l p q lk ins)))
      (λ lo.
      let r = nr i k lo (sym (ins.lists i lo) ∙ li) in
      let a = ends_after s s' l p q lk ins (Some i) r.0 (λ j h. subst (λ m. m < length s.runs) (some_same h) lo) r.2 in
      let b = r.1 in
      let c = a.1 in
      (a.0, omega (arith, e, b, c), a.2))
      (new_or_old s s' l p q lk ins i lt)

  -- each run is met from its list's start
  pub meets_after : (i : ℕ) → i < length s'.runs → is_reached s' i (run_at s' i).list ≡ true
  meets_after i lt = reached_from s' (linked_after s s' l p q lk ins) near_after i lt (run_at s' i).list refl

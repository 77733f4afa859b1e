-- The sums over runs, one run at a time.
use Rattle.std.proofs.Common.{◌≡◌, ℕ, zero, suc, ◌+◌, ◌<◌, ◌≤◌, ◌==◌, Bool, true, false, cond, List, [], ◌∷◌, length, take, map, max, min, Option, eqb, sym, refl, ap, ◌∙◌, subst, inl, inr, ⊎_elim, add-one, arith}
use Rattle.std.proofs.lemmas.Bool.{eq-eqb, ne_eqb, cases_eq, cases_lt, lt-ltb, le-ltb}
use Rattle.std.proofs.lemmas.Iterator.Adapters.{option_map_id}
use Rattle.std.proofs.lemmas.List.{take_all}
use Rattle.std.proofs.lemmas.List.Sums.{fold_more}
use Rattle.std.specs.List.{filter, fold, reduce}
use Rattle.std.specs.Option.{option_map, unwrap_or}
use Rattle.store.specs.declared.records.RunRecord.{RunRecord}
use Rattle.store.specs.Clocks.{end_of}
use Rattle.store.specs.Records.{Store, run_at, no_run}
use Rattle.links.specs.Lengths.{share, visible_sum, later, last_end}

module _ (s : Store) (l : ℕ) where
  pub sum_none : visible_sum s l 0 ≡ 0
  unfolding visible_sum
  sum_none = refl

  pub sum_more : (n : ℕ) → visible_sum s l (n + 1) ≡ visible_sum s l n + share l (run_at s n)
  unfolding visible_sum
  sum_more n = rw add-one refl

  -- the sum that stays at top once it reaches it
  sum_front : (top n : ℕ) → n ≤ length s.runs → fold (λ k r. min (k + share l r) top) 0 (take n s.runs) ≡ min (visible_sum s l n) top
  sum_front top zero h = let e = sum_none in omega (arith, e)
  sum_front top (suc n) h =
      let f : ℕ → RunRecord → ℕ = λ k r. min (k + share l r) top in
      let a = fold_more f 0 s.runs n no_run (omega arith) in
      let b = sum_front top n (omega arith) in
      let m = sum_more n in
      subst (λ m. fold f 0 (take m s.runs) ≡ min (visible_sum s l m) top) (add-one n) (omega (arith, a, b, m))

  -- such a sum is a number below top just where the whole sum is
  pub sum_is : (top len k : ℕ) → len < top → k ≡ fold (λ j r. min (j + share l r) top) 0 s.runs → eqb k len ≡ eqb len (visible_sum s l (length s.runs))
  sum_is top len k lt h =
      let n = length s.runs in
      let e : k ≡ min (visible_sum s l n) top =
      h ∙ ap (fold (λ j r. min (j + share l r) top) 0) (sym (take_all n s.runs (omega arith))) ∙ sum_front top n (omega arith) in
      elim (cases_eq k len) [
        | inl z ↦ eq-eqb k len z ∙ sym (eq-eqb len (visible_sum s l n) (omega (arith, e, z, lt)))
        | inr nz ↦ ne_eqb k len nz ∙ sym (ne_eqb len (visible_sum s l n) (λ z. nz (omega (arith, e, z, lt))))
      ]

  last_none : last_end s l 0 ≡ 0
  unfolding last_end
  last_none = refl

  last_more : (n : ℕ) → last_end s l (n + 1) ≡ later l (last_end s l n) (run_at s n)
  unfolding last_end
  last_more n = rw add-one refl

  last_front : (n : ℕ) → n ≤ length s.runs → fold (later l) 0 (take n s.runs) ≡ last_end s l n
  last_front zero h = sym last_none
  last_front (suc n) h =
      subst (λ m. fold (later l) 0 (take m s.runs) ≡ last_end s l m) (add-one n)
      (fold_more (later l) 0 s.runs n no_run (omega arith) ∙ ap (λ (k : ℕ). later l k (run_at s n)) (last_front n (omega arith)) ∙ sym (last_more n))

-- the runs of a client
of_client : ℕ → RunRecord → Bool
of_client c r = r.id.client == c

later_max : (c k : ℕ) (r : RunRecord) → of_client c r ≡ true → later c k r ≡ max k (end_of r)
unfolding of_client
later_max c k r e =
    rw e
    (⊎_elim
    (λ lt. let m : max k (end_of r) ≡ end_of r = omega arith in rw (lt-ltb k (end_of r) lt, m) refl)
    (λ le. let m : max k (end_of r) ≡ k = omega arith in rw (le-ltb k (end_of r) le, m) refl)
    (cases_lt k (end_of r)))

later_same : (c k : ℕ) (r : RunRecord) → of_client c r ≡ false → later c k r ≡ k
unfolding of_client
later_same c k r e = rw e refl

later_by : (c k : ℕ) (r : RunRecord) (rs : List RunRecord) (b : Bool) → of_client c r ≡ b → fold max k (map end_of (cond b (r ∷ rs) rs)) ≡ fold max (later c k r) (map end_of rs)
later_by c k r rs true e = ap (λ (m : ℕ). fold max m (map end_of rs)) (sym (later_max c k r e))
later_by c k r rs false e = ap (λ (m : ℕ). fold max m (map end_of rs)) (sym (later_same c k r e))

latest : (c k : ℕ) (rs : List RunRecord) → fold max k (map end_of (filter (of_client c) rs)) ≡ fold (later c) k rs
latest c k [] = refl
latest c k (r ∷ rs) = later_by c k r (filter (of_client c) rs) (of_client c r) refl ∙ latest c (later c k r) rs

reduced : (ks : List ℕ) → unwrap_or (reduce max ks) 0 ≡ fold max 0 ks
reduced [] = refl
reduced (k ∷ ks) = let e : max 0 k ≡ k = omega arith in rw e refl

-- the greatest end of the client's runs, 0 without runs
pub last_max : (s : Store) (c : ℕ) (o : Option ℕ) → option_map (λ x. x) o ≡ reduce max (map end_of (filter (λ (r : RunRecord). r.id.client == c) s.runs)) → unwrap_or o 0 ≡ last_end s c (length s.runs)
unfolding of_client
last_max s c o h =
    let n = length s.runs in
    ap (λ (p : Option ℕ). unwrap_or p 0) (sym (option_map_id o) ∙ h)
    ∙ reduced (map end_of (filter (of_client c) s.runs))
    ∙ latest c 0 s.runs
    ∙ ap (fold (later c) 0) (sym (take_all n s.runs (omega arith)))
    ∙ last_front s c n (omega arith)

-- The visible units of a list, by index and by walk.
use Rattle.std.specs.Prelude.{◌≡◌, ℕ, zero, suc, ◌+◌, ◌-◌, ◌<◌, ◌≤◌, Bool, true, false, cond, ◌&&◌, List, [], ◌++◌, map, length, get_or, drop, is_some, Some, None, Option, ◌==◌, nat_le, slice_index_or}
use Rattle.std.proofs.Math.Path.{refl, sym, ap}
use Rattle.std.proofs.Common.{subst, ◌∙◌, append_assoc, add-zero, zero-add, suc-add, arith, length-append}
use Rattle.std.proofs.Math.Logic.{⊎_elim}
use Rattle.std.proofs.Math.Seq.{drop-append_seam}
use Rattle.std.specs.List.{range_with_len}
use Rattle.std.specs.Option.{unwrap_or}
use Rattle.std.proofs.lemmas.Bool.{cases_eq, cases_lt, cases_Bool, eqb-true, eq-eqb, ne_eqb, le-leb, lt-leb, cond-true, cond-false}
use Rattle.std.proofs.lemmas.List.{drop_all}
use Rattle.block.specs.Kinds.{is_counted}
use Rattle.block.specs.Units.{UnitOf, no_unit, seen}
use Rattle.block.specs.declared.ids.Id.{Id}
use Rattle.store.specs.declared.records.RunRecord.{RunRecord}
use Rattle.store.specs.Kinds.{kind_of}
use Rattle.store.specs.Records.{Store, run_at, list_at}
use Rattle.links.specs.Lengths.{weight, share, visible_sum}
use Rattle.links.specs.Walks.{is}
use Rattle.document.specs.Meaning.{unit_of, units_of, spell, units_in, upto, offset}
use Rattle.document.specs.Sound.{Sound}
use Rattle.document.specs.WalkFacts.{upto_step, length_units}
use Rattle.document.specs.ReadingFacts.{Around, around, unit_in}

-- sums over the indices below a number
sum_below : (ℕ → ℕ) → ℕ → ℕ
sum_below f zero = 0
sum_below f (suc k) = sum_below f k + f k

sum_same : (f g : ℕ → ℕ) (k : ℕ) → ((i : ℕ) → i < k → f i ≡ g i) → sum_below f k ≡ sum_below g k
unfolding sum_below
sum_same f g zero h = refl
sum_same f g (suc k) h = let a = sum_same f g k (λ i lt. h i (omega arith)) in let b = h k (omega arith) in cc

sum_add : (f g : ℕ → ℕ) (k : ℕ) → sum_below (λ i. f i + g i) k ≡ sum_below f k + sum_below g k
unfolding sum_below
sum_add f g zero = refl
sum_add f g (suc k) = let a = sum_add f g k in omega (arith, a)

sum_zero : (f : ℕ → ℕ) (k : ℕ) → ((i : ℕ) → i < k → f i ≡ 0) → sum_below f k ≡ 0
unfolding sum_below
sum_zero f zero h = refl
sum_zero f (suc k) h = let a = sum_zero f k (λ i lt. h i (omega arith)) in let b = h k (omega arith) in omega (arith, a, b)

abbrev only : ℕ → ℕ → ℕ → ℕ
only p w i = cond (i == p) w 0

sum_only : (p w k : ℕ) → p < k → sum_below (only p w) k ≡ w
unfolding sum_below
sum_only p w zero lt = absurd (omega arith)
sum_only p w (suc k) lt =
    ⊎_elim
    (λ e.
    let a : sum_below (only p w) k ≡ 0 = sum_zero (only p w) k (λ i l. cond-false (i == p) w 0 (ne_eqb i p (λ q. omega arith))) in
    let b : only p w k ≡ w = cond-true (k == p) w 0 (eq-eqb k p e) in
    omega (arith, a, b))
    (λ ne.
    let a : sum_below (only p w) k ≡ w = sum_only p w k (omega arith) in
    let b : only p w k ≡ 0 = cond-false (k == p) w 0 (ne_eqb k p ne) in
    omega (arith, a, b))
    (cases_eq k p)

-- the visible units of what a run spells
seen_true : (d : Store) (r : RunRecord) (a n : ℕ) (rest : List UnitOf) → (r.live && is_counted (kind_of r.kind)) ≡ true → length (seen (map (unit_of d r) (range_with_len a n) ++ rest)) ≡ n + length (seen rest)
seen_true d r a zero rest h = sym (zero-add (length (seen rest)))
seen_true d r a (suc n) rest h = rw h (ap suc (seen_true d r (a + 1) n rest h) ∙ sym (suc-add n (length (seen rest))))

seen_false : (d : Store) (r : RunRecord) (a n : ℕ) (rest : List UnitOf) → (r.live && is_counted (kind_of r.kind)) ≡ false → length (seen (map (unit_of d r) (range_with_len a n) ++ rest)) ≡ length (seen rest)
seen_false d r a zero rest h = refl
seen_false d r a (suc n) rest h = rw h (seen_false d r (a + 1) n rest h)

seen_run : (d : Store) (r : RunRecord) (rest : List UnitOf) → length (seen (units_of d r ++ rest)) ≡ weight r + length (seen rest)
seen_run d r rest =
    ⊎_elim
    (λ h. seen_true d r 0 r.len rest h ∙ ap (λ n. n + length (seen rest)) (sym (cond-true (r.live && is_counted (kind_of r.kind)) r.len 0 h)))
    (λ h. seen_false d r 0 r.len rest h ∙ sym (zero-add (length (seen rest))) ∙ ap (λ n. n + length (seen rest)) (sym (cond-false (r.live && is_counted (kind_of r.kind)) r.len 0 h)))
    (cases_Bool (r.live && is_counted (kind_of r.kind)))

drop_append_at : {X : Type 0} (xs ys : List X) (n : ℕ) → length xs ≡ n → drop n (xs ++ ys) ≡ ys
drop_append_at xs ys n e = subst (λ k. drop k (xs ++ ys) ≡ ys) e (drop-append_seam xs ys)

some_is : (o : Option ℕ) → is_some o ≡ true → (x : ℕ) × (o ≡ Some x)
some_is None h = cc
some_is (Some x) h = (x, refl)

some_same : (a b : ℕ) → ◌≡◌ {A = Option ℕ} (Some a) (Some b) → a ≡ b
some_same a b h = cc

is_true : (o : Option ℕ) (i : ℕ) → is o i ≡ true → o ≡ Some i
is_true None i h = cc
is_true (Some j) i h = ap Some (eqb-true j i h)

no_both : {X : Type 0} (b : Bool) → b ≡ false → b ≡ true → X
no_both b f t = cc

-- what is spelled from a run on, as what is left of its list
module _ (d : Store) (s : Sound d) where
  -- a unit is of one run alone
  pub same_run : (p q k j : ℕ) → p < length d.runs → q < length d.runs → k < (run_at d p).len → j < (run_at d q).len → (unit_of d (run_at d p) k).id ≡ (unit_of d (run_at d q) j).id → p ≡ q
  same_run p q k j lp lq lk lj e =
      let a : (run_at d p).id.client ≡ (run_at d q).id.client = ap (λ (i : Id). i.client) e in
      let b : (run_at d p).id.clock + k ≡ (run_at d q).id.clock + j = ap (λ (i : Id). i.clock) e in
      ⊎_elim (λ same. same) (λ far. ⊎_elim (λ h. absurd (omega (arith, b, h))) (λ h. absurd (omega (arith, b, h))) far) (s.clear p q lp lq a)

  module _ (l : ℕ) where
    abbrev pub U : List UnitOf
    U = units_in d l

    -- a run of the list, with its offset
    pub record Stands (p x : ℕ) : Type 0 where
      pub below : p < length d.runs
      pub list : (run_at d p).list ≡ Some l
      pub from : offset d p ≡ Some x

    pub near : (p x : ℕ) → Stands p x → Around d p l x
    near p x h = around d s.links p l x h.below h.list h.from

    -- two runs of a list do not cross
    pub apart : (p x i y : ℕ) → Stands p x → Stands i y → x ≤ y → y < x + (run_at d p).len → i ≡ p
    apart p x i y hp hi le lt =
        let k : ℕ = y - x in
        let e : x + k ≡ y = omega arith in
        let a : get_or U y no_unit ≡ unit_of d (run_at d p) k = subst (λ m. slice_index_or U m no_unit ≡ unit_of d (run_at d p) k) e (unit_in d p l x k (near p x hp) (omega arith)) in
        let b : get_or U y no_unit ≡ unit_of d (run_at d i) 0 = subst (λ m. slice_index_or U m no_unit ≡ unit_of d (run_at d i) 0) (add-zero y) (unit_in d i l y 0 (near i y hi) (s.some i hi.below)) in
        same_run i p 0 k hi.below hp.below (s.some i hi.below) (omega arith) (ap (λ (u : UnitOf). u.id) (sym b ∙ a))

    pub long_U : (p x : ℕ) → Stands p x → x + (run_at d p).len ≤ length U
    long_U p x h =
        let a = near p x h in
        let e : length U ≡ x + ((run_at d p).len + length (spell d (run_at d p).right a.fuel)) = ap length a.spelled ∙ simp (length-append, a.long, length_units) in
        omega (arith, e)

    drop_here : (p x : ℕ) (h : Stands p x) → drop x U ≡ units_of d (run_at d p) ++ drop (x + (run_at d p).len) U
    drop_here p x h =
        let a = near p x h in
        let post : List UnitOf = spell d (run_at d p).right a.fuel in
        let b : drop x U ≡ units_of d (run_at d p) ++ post = ap (drop x) a.spelled ∙ drop_append_at a.before (units_of d (run_at d p) ++ post) x a.long in
        let c : drop (x + (run_at d p).len) U ≡ post = ap (drop (x + (run_at d p).len)) (a.spelled ∙ sym (append_assoc a.before (units_of d (run_at d p)) post)) ∙ drop_append_at (a.before ++ units_of d (run_at d p)) post (x + (run_at d p).len) (length-append a.before (units_of d (run_at d p)) ∙ simp (a.long, length_units)) in
        b ∙ ap (λ (us : List UnitOf). units_of d (run_at d p) ++ us) (sym c)

    -- what the runs at an offset and beyond add
    abbrev part : ℕ → ℕ → ℕ
    part x i = cond (nat_le x (unwrap_or (offset d i) 0)) (share l (run_at d i)) 0

    part_none : (x i : ℕ) → is (run_at d i).list l ≡ false → part x i ≡ 0
    part_none x i h =
        let e : share l (run_at d i) ≡ 0 = cond-false (is (run_at d i).list l) (weight (run_at d i)) 0 h in
        rw e (elim (nat_le x (unwrap_or (offset d i) 0)) as (λ b. ◌≡◌ {A = ℕ} (cond b 0 0) 0) [ true ↦ refl | false ↦ refl ])

    stands : (i : ℕ) → i < length d.runs → is (run_at d i).list l ≡ true → (y : ℕ) × Stands i y
    stands i lt h =
        let o = some_is (offset d i) (s.links.reached i lt) in
        (o.0, record { below = lt; list = is_true (run_at d i).list l h; from = o.1 })

    part_some : (x i y : ℕ) → Stands i y → part x i ≡ cond (nat_le x y) (weight (run_at d i)) 0
    part_some x i y h =
        let a : share l (run_at d i) ≡ weight (run_at d i) = cond-true (is (run_at d i).list l) (weight (run_at d i)) 0 (rw h.list (eq-eqb l l refl)) in
        let b : unwrap_or (offset d i) 0 ≡ y = ap (λ (o : Option ℕ). unwrap_or o 0) h.from in
        ap (λ n. cond (nat_le x n) (share l (run_at d i)) 0) b ∙ ap (λ n. cond (nat_le x y) n 0) a

    split_part : (p x : ℕ) → Stands p x → (i : ℕ) → i < length d.runs → part x i ≡ only p (weight (run_at d p)) i + part (x + (run_at d p).len) i
    split_part p x h i lt =
        ⊎_elim
        (λ t.
        let st = stands i lt t in
        let y : ℕ = st.0 in
        let w : ℕ = weight (run_at d i) in
        let a : part x i ≡ cond (nat_le x y) w 0 = part_some x i y st.1 in
        let b : part (x + (run_at d p).len) i ≡ cond (nat_le (x + (run_at d p).len) y) w 0 = part_some (x + (run_at d p).len) i y st.1 in
        let pos : 0 < (run_at d p).len = s.some p h.below in
        ⊎_elim
        (λ e.
        let yx : y ≡ x = some_same y x (sym st.1.from ∙ ap (offset d) e ∙ h.from) in
        let c : only p (weight (run_at d p)) i ≡ weight (run_at d p) = cond-true (i == p) (weight (run_at d p)) 0 (eq-eqb i p e) in
        let wd : w ≡ weight (run_at d p) = ap (λ m. weight (run_at d m)) e in
        let f : cond (nat_le x y) w 0 ≡ w = cond-true (nat_le x y) w 0 (le-leb x y (omega arith)) in
        let g : cond (nat_le (x + (run_at d p).len) y) w 0 ≡ 0 = cond-false (nat_le (x + (run_at d p).len) y) w 0 (lt-leb (x + (run_at d p).len) y (omega arith)) in
        omega (arith, a, b, c, wd, f, g))
        (λ ne.
        let c : only p (weight (run_at d p)) i ≡ 0 = cond-false (i == p) (weight (run_at d p)) 0 (ne_eqb i p ne) in
        let f : cond (nat_le x y) w 0 ≡ cond (nat_le (x + (run_at d p).len) y) w 0 =
        ⊎_elim
        (λ u. cond-false (nat_le x y) w 0 (lt-leb x y u) ∙ sym (cond-false (nat_le (x + (run_at d p).len) y) w 0 (lt-leb (x + (run_at d p).len) y (omega arith))))
        (λ u.
        ⊎_elim
        (λ v. absurd (ne (apart p x i y h st.1 u v)))
        (λ v. cond-true (nat_le x y) w 0 (le-leb x y u) ∙ sym (cond-true (nat_le (x + (run_at d p).len) y) w 0 (le-leb (x + (run_at d p).len) y v)))
        (cases_lt y (x + (run_at d p).len)))
        (cases_lt y x) in
        omega (arith, a, b, c, f))
        (cases_eq i p))
        (λ f.
        let a = part_none x i f in
        let b = part_none (x + (run_at d p).len) i f in
        let ne : i ≡ p → ⊥ = λ e. no_both (is (run_at d i).list l) f (rw (ap (λ m. (run_at d m).list) e ∙ h.list) (eq-eqb l l refl)) in
        let c : only p (weight (run_at d p)) i ≡ 0 = cond-false (i == p) (weight (run_at d p)) 0 (ne_eqb i p ne) in
        omega (arith, a, b, c))
        (cases_Bool (is (run_at d i).list l))

    total : ℕ → ℕ
    total x = sum_below (part x) (length d.runs)

    total_step : (p x : ℕ) → Stands p x → total x ≡ weight (run_at d p) + total (x + (run_at d p).len)
    unfolding total
    total_step p x h =
        sum_same (part x) (λ i. only p (weight (run_at d p)) i + part (x + (run_at d p).len) i) (length d.runs) (split_part p x h)
        ∙ sum_add (only p (weight (run_at d p))) (part (x + (run_at d p).len)) (length d.runs)
        ∙ ap (λ n. n + sum_below (part (x + (run_at d p).len)) (length d.runs)) (sum_only p (weight (run_at d p)) (length d.runs) h.below)

    -- nothing stands past the end
    total_end : (x : ℕ) → length U ≤ x → total x ≡ 0
    unfolding total
    total_end x le =
        sum_zero (part x) (length d.runs)
        (λ i lt.
        ⊎_elim
        (λ t.
        let st = stands i lt t in
        let q = long_U i st.0 st.1 in
        let pos = s.some i lt in
        part_some x i st.0 st.1 ∙ cond-false (nat_le x st.0) (weight (run_at d i)) 0 (lt-leb x st.0 (omega (arith, q, pos))))
        (λ f. part_none x i f)
        (cases_Bool (is (run_at d i).list l)))

    -- the run that follows, where the list goes on
    pub next_at : (p x : ℕ) → Stands p x → x + (run_at d p).len < length U → (o : Option ℕ) → (run_at d p).right ≡ o → (q : ℕ) × Stands q (x + (run_at d p).len)
    unfolding spell
    next_at p x h lt None e =
        let a = near p x h in
        let sp : U ≡ a.before ++ (units_of d (run_at d p) ++ []) = a.spelled ∙ ap (λ (o : Option ℕ). a.before ++ (units_of d (run_at d p) ++ spell d o a.fuel)) e in
        let le : length U ≡ x + ((run_at d p).len + 0) = ap length sp ∙ simp (length-append, a.long, length_units) in
        absurd (omega (arith, le, lt))
    next_at p x h lt (Some q) e =
        let t = s.links.to_right p q h.below e in
        let y = some_is (offset d q) (s.links.reached q t.0) in
        let u : upto d (Some p) (length d.runs) ≡ Some y.0 = ap (λ (o : Option ℕ). upto d o (length d.runs)) (sym t.1) ∙ y.1 in
        let v = upto_step d p (length d.runs) y.0 u in
        let same : v.0 ≡ x = some_same v.0 x (sym v.1 ∙ h.from) in
        (q, record { below = t.0; list = t.2 ∙ h.list; from = y.1 ∙ ap Some (v.2 ∙ ap (λ n. n + (run_at d p).len) same) })

    seen_from : (m p x : ℕ) → Stands p x → length U ≤ x + m → length (seen (drop x U)) ≡ total x
    seen_from zero p x h le = let a = long_U p x h in let b = s.some p h.below in absurd (omega (arith, a, b, le))
    seen_from (suc m) p x h le =
        let b = s.some p h.below in
        let e : length (seen (drop x U)) ≡ weight (run_at d p) + length (seen (drop (x + (run_at d p).len) U)) = ap (λ (us : List UnitOf). length (seen us)) (drop_here p x h) ∙ seen_run d (run_at d p) (drop (x + (run_at d p).len) U) in
        let f : length (seen (drop (x + (run_at d p).len) U)) ≡ total (x + (run_at d p).len) =
        ⊎_elim
        (λ lt. let n = next_at p x h lt (run_at d p).right refl in seen_from m n.0 (x + (run_at d p).len) n.1 (omega (arith, b, le)))
        (λ ge. ap (λ (us : List UnitOf). length (seen us)) (drop_all (x + (run_at d p).len) U ge) ∙ sym (total_end (x + (run_at d p).len) ge))
        (cases_lt (x + (run_at d p).len) (length U)) in
        e ∙ ap (λ n. weight (run_at d p) + n) f ∙ sym (total_step p x h)

    sum_is : (k : ℕ) → visible_sum d l k ≡ sum_below (part 0) k
    unfolding visible_sum sum_below
    sum_is zero = refl
    sum_is (suc k) =
        let a = sum_is k in
        let b : part 0 k ≡ share l (run_at d k) = cond-true (nat_le 0 (unwrap_or (offset d k) 0)) (share l (run_at d k)) 0 (le-leb 0 (unwrap_or (offset d k) 0) (omega arith)) in
        omega (arith, a, b)

    seen_at : l < length d.lists → (o : Option ℕ) → (list_at d l).start ≡ o → length (seen U) ≡ total 0
    unfolding spell upto
    seen_at lt None e =
        let u : U ≡ [] = ap (λ (o : Option ℕ). spell d o (suc (length d.runs))) e in
        ap (λ (us : List UnitOf). length (seen us)) u ∙ sym (total_end 0 (let n : length U ≡ 0 = ap length u in omega (arith, n)))
    seen_at lt (Some p) e =
        let t = s.links.start_of l p lt e in
        let o : offset d p ≡ Some 0 = ap (λ (o : Option ℕ). upto d o (length d.runs)) t.1 in
        seen_from (length U) p 0 (record { below = t.0; list = t.2; from = o }) (omega arith)

    pub counted_is : l < length d.lists → length (seen U) ≡ visible_sum d l (length d.runs)
    unfolding total
    counted_is lt = seen_at lt (list_at d l).start refl ∙ sym (sum_is (length d.runs))

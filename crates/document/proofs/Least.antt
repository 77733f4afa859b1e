-- The number with the least key, of those that a chain of iterators gives.
use Rattle.std.proofs.Common.{◌≡◌, ℕ, zero, suc, ◌+◌, ◌<◌, ◌≤◌, ◌⊎◌, Bool, true, false, List, [], ◌∷◌, Some, None, Option, Ordering, Less, Equal, Greater, sym, refl, ap, ◌∙◌, subst, inl, inr, ⊎_elim, arith, map-id}
use Rattle.std.proofs.lemmas.Bool.{cases_Bool, cases_eq, cond-true, cond-false}
use Rattle.std.proofs.lemmas.Cmp.{ranked}
use Rattle.std.proofs.lemmas.Iterator.{YieldsList}
use Rattle.std.proofs.iter.Yields.{gives_Drains}
use Rattle.std.specs.Fn.{CalledAt}
use Rattle.std.specs.Iterator.{Drains, KeyTurn, PicksMinByKey}
use Rattle.std.specs.List.{FoldsTo, filter, range_with_len}
use Rattle.std.specs.Option.{MatchOption}
use Rattle.std.specs.Ordering.{MatchOrdering, nat_cmp, min_by_ordering}
use denote.Param.Members.{Mut}
use denote.Ref.{Bor}

-- y is one of the numbers
abbrev pub In : ℕ → List ℕ → Type 0
In y [] = ⊥
In y (x ∷ xs) = (y ≡ x) ⊎ In y xs

in_range : (n a y : ℕ) → In y (range_with_len a n) → y < a + n
in_range zero a y h = absurd h
in_range (suc n) a y h = ⊎_elim (λ e. omega (arith, e)) (λ i. let lt = in_range n (a + 1) y i in omega (arith, lt)) h

range_has : (n a y : ℕ) → a ≤ y → y < a + n → In y (range_with_len a n)
range_has zero a y le lt = absurd (omega arith)
range_has (suc n) a y le lt = ⊎_elim (λ e. inl e) (λ ne. inr (range_has n (a + 1) y (omega arith) (omega arith))) (cases_eq y a)

module _ (t : ℕ → Bool) where
  in_filter : (xs : List ℕ) (y : ℕ) → In y (filter t xs) → (t y ≡ true) × In y xs
  in_filter [] y h = absurd h
  in_filter (x ∷ xs) y h =
      ⊎_elim
      (λ e.
      ⊎_elim
      (λ same. (ap t same ∙ e, inl same))
      (λ rest. let r = in_filter xs y rest in (r.0, inr r.1))
      (subst (In y) (cond-true (t x) (x ∷ filter t xs) (filter t xs) e) h))
      (λ e. let r = in_filter xs y (subst (In y) (cond-false (t x) (x ∷ filter t xs) (filter t xs) e) h) in (r.0, inr r.1))
      (cases_Bool (t x))

  filter_has : (xs : List ℕ) (y : ℕ) → t y ≡ true → In y xs → In y (filter t xs)
  filter_has [] y h i = absurd i
  filter_has (x ∷ xs) y h i =
      ⊎_elim
      (λ e. subst (In y) (sym (cond-true (t x) (x ∷ filter t xs) (filter t xs) e)) (⊎_elim (λ same. inl same) (λ rest. inr (filter_has xs y h rest)) i))
      (λ e. subst (In y) (sym (cond-false (t x) (x ∷ filter t xs) (filter t xs) e)) (⊎_elim (λ same. let z : true ≡ false = sym h ∙ ap t same ∙ e in cc) (λ rest. filter_has xs y h rest) i))
      (cases_Bool (t x))

items_from_yields : {S : Type 0} (steps : S → Option ℕ → S → Type 0) (s : S) (xs all : List ℕ) → Drains steps s xs → YieldsList steps (λ x. x) s all → xs ≡ all
items_from_yields steps s xs all d e = sym (map-id xs) ∙ gives_Drains steps (λ x. x) xs all s e.runs d

module _ {F : Type 0} (g : Mut F (Bor ℕ × Unit {0}) ℕ) (f : F) (key : ℕ → ℕ) (tells : (x k : ℕ) (q : F) → CalledAt g f x k q → (q ≡ f) × (k ≡ key x)) where
  -- y is one of the numbers, and none has a lesser key
  abbrev pub Least : ℕ → List ℕ → Type 0
  Least y xs = In y xs × ((i : ℕ) → In i xs → key y ≤ key i)

  first_stays : (y x z : ℕ) (xs : List ℕ) → key x ≤ key z → Least y (x ∷ xs) → Least y (x ∷ (z ∷ xs))
  first_stays y x z xs le h = (
    ⊎_elim (λ e. inl e) (λ r. inr (inr r)) h.0,
    (λ i m. ⊎_elim (λ e. h.1 i (inl e)) (λ r. ⊎_elim (λ e. let a = h.1 x (inl refl) in let b = ap key e in omega (arith, a, b, le)) (λ r. h.1 i (inr r)) r) m),
  )

  next_wins : (y x z : ℕ) (xs : List ℕ) → key z < key x → Least y (z ∷ xs) → Least y (x ∷ (z ∷ xs))
  next_wins y x z xs lt h = (
    inr h.0,
    (λ i m. ⊎_elim (λ e. let a = h.1 z (inl refl) in let b = ap key e in omega (arith, a, b, lt)) (λ r. h.1 i r) m),
  )

  turn : (q x z : ℕ) (xs : List ℕ) (p j : ℕ × ℕ) (k : ℕ) (o : Ordering) → p.0 ≡ key x → p.1 ≡ x → k ≡ key z → MatchOrdering o (p.0 < k) (p.0 ≡ k) (k < p.0) → j.0 ≡ min_by_ordering o p.0 k → j.1 ≡ min_by_ordering o p.1 z → ((w : ℕ) → j.0 ≡ key w → j.1 ≡ w → Least q (w ∷ xs)) → Least q (x ∷ (z ∷ xs))
  turn q x z xs p j k Less b c d lt s w rest = first_stays q x z xs (omega (arith, b, d, lt)) (rest x (s ∙ b) (w ∙ c))
  turn q x z xs p j k Equal b c d eq s w rest = first_stays q x z xs (omega (arith, b, d, eq)) (rest x (s ∙ b) (w ∙ c))
  turn q x z xs p j k Greater b c d gt s w rest = next_wins q x z xs (omega (arith, b, d, gt)) (rest z (s ∙ d) w)

  least : (xs : List ℕ) (x : ℕ) (p q : (F × ℕ) × ℕ) → p.0.0 ≡ f → p.0.1 ≡ key x → p.1 ≡ x → FoldsTo {P = (F × ℕ) × ℕ} (KeyTurn min_by_ordering min_by_ordering g nat_cmp) p xs q → Least q.1 (x ∷ xs)
  least [] x p q a b c h = let e : q.1 ≡ x = ap (λ (s : (F × ℕ) × ℕ). s.1) (sym h) ∙ c in (inl e, (λ i m. ⊎_elim (λ s. let u = ap key s in let v = ap key e in omega (arith, u, v)) (λ r. absurd r) m))
  least (z ∷ xs) x p q a b c h =
      let t = h.1 in
      let called = tells z t.0 h.0.0.0 (subst (λ (m : F). CalledAt g m z t.0 h.0.0.0) a t.2) in
      turn q.1 x z xs (p.0.1, p.1) (h.0.0.1, h.0.1) t.0 t.1 b c called.1 (ranked p.0.1 t.0 t.1 (sym t.3)) t.4 t.5 (λ w s e. least xs w h.0 q called.0 s e h.2)

  -- what `min_by_key` found, or there was nothing
  pub least_of : {S : Type 0} {steps : S → Option ℕ → S → Type 0} (s : S) (all : List ℕ) (r : Option ℕ) → PicksMinByKey steps g nat_cmp s f r → YieldsList steps (λ x. x) s all → MatchOption r (all ≡ []) (λ y. Least y all)
  least_of {steps = steps} s all None h e = sym (items_from_yields steps s [] all h e)
  least_of {steps = steps} s all (Some y) h e =
      let told = tells h.0 h.2 h.3 h.6 in
      subst (Least y) (items_from_yields steps s (h.0 ∷ h.1) all h.5 e) (least h.1 h.0 ((h.3, h.2), h.0) (h.4, y) told.0 told.1 refl h.7)

-- the due runs of a list, and the one of them that begins first
pub first_of : (t : ℕ → Bool) (key : ℕ → ℕ) (n : ℕ) (r : Option ℕ) → MatchOption r (filter t (range_with_len 0 n) ≡ []) (λ y. In y (filter t (range_with_len 0 n)) × ((i : ℕ) → In i (filter t (range_with_len 0 n)) → key y ≤ key i)) → MatchOption r ((i : ℕ) → i < n → t i ≡ false) (λ p. (p < n) × (t p ≡ true) × ((i : ℕ) → i < n → t i ≡ true → key p ≤ key i))
first_of t key n None h = λ i lt. ⊎_elim (λ e. absurd (subst (In i) h (filter_has t (range_with_len 0 n) i e (range_has n 0 i (omega arith) (omega arith))))) (λ e. e) (cases_Bool (t i))
first_of t key n (Some p) h =
    let f = in_filter t (range_with_len 0 n) p h.0 in
    let lt = in_range n 0 p f.1 in
    (omega (arith, lt), f.0, (λ i li ti. h.1 i (filter_has t (range_with_len 0 n) i ti (range_has n 0 i (omega arith) (omega arith)))))

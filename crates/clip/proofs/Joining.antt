-- What joined pairs say of each client, and that they are sound.
use Rattle.std.proofs.Common.{◌≡◌, ℕ, ◌+◌, ◌^◌, ◌<◌, ◌≤◌, min, true, false, cond, ◌||◌, eqb, ltb, List, [], ◌∷◌, ◌++◌, length, get_or, drop, sym, refl, ap, ◌∙◌, inl, inr, append_assoc, arith, length-append}
use mathlib.Core.Path.{fun_ext}
use Rattle.std.proofs.lemmas.List.{at_drop_more, at_drop_all, append-nil}
use Rattle.std.proofs.lemmas.Bool.{cases_Bool, cond-true, cond-false, eqb-true, ltb-true, lt-ltb, and_parts, and_from, not-true, not_from_false, both_ways}
use Rattle.clip.specs.declared.pair.Pair.{Pair}
use Rattle.clip.specs.declared.pairs.Pairs.{Pairs}
use Rattle.clip.specs.Clipped.{clipped}
use Rattle.clip.specs.Pairing.{limit_in, in_range, listed, sound}
use Rattle.clip.specs.Made.{pairs_of, limit_of}
use Rattle.clip.specs.Joined.{joined, Joined}
use Rattle.clip.proofs.Piles.{one_clip}

-- a pair with the lesser of its clock and the other list's
abbrev pub lower : List Pair → Pair → Pair
lower qs p = record { client = p.client; clock = min p.clock (limit_in qs p.client) }

-- a client without a pair has 0
unlisted : (c : ℕ) (qs : List Pair) → listed c qs ≡ false → limit_in qs c ≡ 0
unlisted c [] e = refl
unlisted c (q ∷ qs) e =
    elim (cases_Bool (eqb q.client c)) [
      | inl s ↦ absurd (both_ways _ e (ap (λ b. b || listed c qs) s))
      | inr s ↦ cond-false _ _ _ s ∙ unlisted c qs (sym (ap (λ b. b || listed c qs) s) ∙ e)
    ]

limit_more : (p : Pair) (ps qs : List Pair) (c : ℕ) → limit_in (joined ps qs) c ≡ min (limit_in ps c) (limit_in qs c) → limit_in (joined (p ∷ ps) qs) c ≡ min (limit_in (p ∷ ps) c) (limit_in qs c)
limit_more p ps qs c ih =
    elim (cases_Bool (listed p.client qs)) [
      | inl s ↦ ap (λ xs. limit_in xs c) (cond-true _ (lower qs p ∷ joined ps qs) (joined ps qs) s) ∙ elim (cases_Bool (eqb p.client c)) [
        | inl t ↦ cond-true _ _ _ t ∙ ap (λ x. min p.clock (limit_in qs x)) (eqb-true _ _ t) ∙ ap (λ x. min x (limit_in qs c)) (sym (cond-true _ _ _ t))
        | inr t ↦ cond-false _ _ _ t ∙ ih ∙ ap (λ x. min x (limit_in qs c)) (sym (cond-false _ _ _ t))
      ]
      | inr s ↦ ap (λ xs. limit_in xs c) (cond-false _ (lower qs p ∷ joined ps qs) (joined ps qs) s) ∙ ih ∙ elim (cases_Bool (eqb p.client c)) [
        | inl t ↦ (let z = ap (limit_in qs) (sym (eqb-true _ _ t)) ∙ unlisted p.client qs s in omega arith)
        | inr t ↦ ap (λ x. min x (limit_in qs c)) (sym (cond-false _ _ _ t))
      ]
    ]

pub limit_joined : (ps qs : List Pair) (c : ℕ) → limit_in (joined ps qs) c ≡ min (limit_in ps c) (limit_in qs c)
limit_joined [] qs c = omega arith
limit_joined (p ∷ ps) qs c = limit_more p ps qs c (limit_joined ps qs c)

listed_joined : (c : ℕ) (ps qs : List Pair) → listed c ps ≡ false → listed c (joined ps qs) ≡ false
listed_joined c [] qs e = refl
listed_joined c (p ∷ ps) qs e =
    elim (cases_Bool (eqb p.client c)) [
      | inl s ↦ absurd (both_ways _ e (ap (λ b. b || listed c ps) s))
      | inr s ↦
          (let ih = listed_joined c ps qs (sym (ap (λ b. b || listed c ps) s) ∙ e) in
          elim (listed p.client qs) as (λ b. listed c (cond b (lower qs p ∷ joined ps qs) (joined ps qs)) ≡ false) [ true ↦ ap (λ b. b || listed c (joined ps qs)) s ∙ ih | false ↦ ih ])
    ]

lower_in_range : (qs : List Pair) (p : Pair) → in_range p ≡ true → in_range (lower qs p) ≡ true
lower_in_range qs p e =
    let both = and_parts (ltb p.client (2 ^ 53)) (ltb p.clock (2 ^ 31)) e in
    let low : min p.clock (limit_in qs p.client) < 2 ^ 31 = omega (arith, ltb-true _ _ both.1) in
    and_from _ _ both.0 (lt-ltb _ _ low)

pub sound_joined : (ps qs : List Pair) → sound ps ≡ true → sound (joined ps qs) ≡ true
sound_joined [] qs e = refl
sound_joined (p ∷ ps) qs e =
    let all = and_parts _ _ e in
    let here = and_parts _ _ all.0 in
    let ih = sound_joined ps qs all.1 in
    let head = and_from _ _ (lower_in_range qs p here.0) (not_from_false _ (listed_joined p.client ps qs (not-true _ here.1))) in
    elim (listed p.client qs) as (λ b. sound (cond b (lower qs p ∷ joined ps qs) (joined ps qs)) ≡ true) [ true ↦ and_from _ _ head ih | false ↦ ih ]

-- a table of the joined pairs is the join
pub joins : (a b r : Pairs) → pairs_of r ≡ joined (pairs_of a) (pairs_of b) → Joined a b r
joins a b r e =
    let clocks : (c : ℕ) → limit_of r c ≡ min (limit_of a c) (limit_of b c) = λ c. ap (λ ps. limit_in ps c) e ∙ limit_joined (pairs_of a) (pairs_of b) c in
    let other : (c : ℕ) → limit_of r c ≡ min (limit_of b c) (limit_of a c) = λ c. (let x = clocks c in omega arith) in
    record {
      pairs = e;
      clocks = clocks;
      piled = λ m. ap (λ (f : ℕ → ℕ). clipped f m) (fun_ext clocks) ∙ sym (one_clip (limit_of a) (limit_of b) m);
      turned = λ m. ap (λ (f : ℕ → ℕ). clipped f m) (fun_ext other) ∙ sym (one_clip (limit_of b) (limit_of a) m);
    }

listed_front : (c : ℕ) (xs ys : List Pair) → listed c (xs ++ ys) ≡ false → listed c xs ≡ false
listed_front c [] ys e = refl
listed_front c (x ∷ xs) ys e =
    elim (cases_Bool (eqb x.client c)) [
      | inl s ↦ absurd (both_ways _ e (ap (λ b. b || listed c (xs ++ ys)) s))
      | inr s ↦ ap (λ b. b || listed c xs) s ∙ listed_front c xs ys (sym (ap (λ b. b || listed c (xs ++ ys)) s) ∙ e)
    ]

sound_front : (xs ys : List Pair) → sound (xs ++ ys) ≡ true → sound xs ≡ true
sound_front [] ys e = refl
sound_front (x ∷ xs) ys e =
    let all = and_parts _ _ e in
    let here = and_parts _ _ all.0 in
    and_from _ _ (and_from _ _ here.0 (not_from_false _ (listed_front x.client xs ys (not-true _ here.1)))) (sound_front xs ys all.1)

-- of the first i pairs these are kept, and the join of the others is to come
abbrev pub Partly : List Pair → List Pair → ℕ → List Pair → Type 0
Partly ps qs i r = (length r ≤ i) × (r ++ joined (drop i ps) qs ≡ joined ps qs)

module _ (ps qs r : List Pair) (i : ℕ) (d : Pair) (inside : i < length ps) (inv : Partly ps qs i r) where
  turn_kept : listed (get_or ps i d).client qs ≡ true → Partly ps qs (i + 1) (r ++ lower qs (get_or ps i d) ∷ [])
  turn_kept s =
      let p : Pair = get_or ps i d in
      let next : joined (drop i ps) qs ≡ lower qs p ∷ joined (drop (i + 1) ps) qs = at_drop_more (λ xs. joined xs qs) ps i d inside ∙ cond-true _ _ _ s in
      (omega (arith, inv.0, length-append r (lower qs p ∷ [])), append_assoc r (lower qs p ∷ []) (joined (drop (i + 1) ps) qs) ∙ ap (λ xs. r ++ xs) (sym next) ∙ inv.1)

  pub turn_sound : listed (get_or ps i d).client qs ≡ true → sound ps ≡ true → sound (r ++ lower qs (get_or ps i d) ∷ []) ≡ true
  turn_sound s e = sound_front (r ++ lower qs (get_or ps i d) ∷ []) (joined (drop (i + 1) ps) qs) (ap sound (turn_kept s).1 ∙ sound_joined ps qs e)

pub turns_end : (ps qs r : List Pair) (i : ℕ) → length ps ≤ i → Partly ps qs i r → r ≡ joined ps qs
turns_end ps qs r i h inv = sym (append-nil r) ∙ ap (λ xs. r ++ xs) (sym (at_drop_all (λ xs. joined xs qs) ps i h)) ∙ inv.1

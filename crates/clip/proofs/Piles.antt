-- A clip over a clip is one clip with the lesser clocks.
use Rattle.std.proofs.Common.{◌≡◌, ℕ, min, Bool, ◌&&◌, ltb, List, filter, sym, ap, ◌∙◌, inl, inr, arith}
use mathlib.Core.Path.{fun_ext}
use Rattle.std.proofs.lemmas.Bool.{cases_lt, lt-ltb, le-ltb, and_from, and_left, and_right}
use Rattle.block.specs.Kept.{kept_twice}
use Rattle.block.specs.Units.{UnitOf}
use Rattle.clip.specs.Clipped.{shown_by}
use Rattle.clip.specs.Joined.{OneClip, lesser}

-- below both is below the lesser
both_below : (x a b : ℕ) → (ltb x b && ltb x a) ≡ ltb x (min a b)
both_below x a b =
    elim (cases_lt x a) [
      | inl p ↦ elim (cases_lt x b) [
        | inl q ↦ and_from _ _ (lt-ltb x b q) (lt-ltb x a p) ∙ sym (lt-ltb x (min a b) (omega arith))
        | inr q ↦ and_left _ _ (le-ltb x b q) ∙ sym (le-ltb x (min a b) (omega arith))
      ]
      | inr p ↦ and_right _ _ (le-ltb x a p) ∙ sym (le-ltb x (min a b) (omega arith))
    ]

pub one_clip : OneClip
one_clip a b m =
    let units : (l : ℕ) → filter (shown_by a) (filter (shown_by b) (m.units l)) ≡ filter (shown_by (lesser a b)) (m.units l) =
    λ l. kept_twice (shown_by b) (shown_by a) (m.units l) ∙ ap (λ (p : UnitOf → Bool). filter p (m.units l)) (fun_ext (λ (u : UnitOf). both_below u.id.clock (a u.id.client) (b u.id.client))) in
    let known : (c : ℕ) → min (min (m.known c) (b c)) (a c) ≡ min (m.known c) (min (a c) (b c)) = λ c. omega arith in
    ap (λ (f : ℕ → List UnitOf). record { lists = m.lists; units = f; holder = m.holder; known = λ c. min (min (m.known c) (b c)) (a c) }) (fun_ext units) ∙
    ap (λ (f : ℕ → ℕ). record { lists = m.lists; units = λ l. filter (shown_by (lesser a b)) (m.units l); holder = m.holder; known = f }) (fun_ext known)

-- What a list holds at an index, and a list of which no element passes a test.
use Rattle.std.specs.Prelude.{◌≡◌, ℕ, ◌<◌, Bool, true, false, cond, List, length, get_or, Some, None, nat_lt, position, refl}
use Rattle.std.specs.List.{position_or_len}
use Rattle.std.proofs.Common.{sym, ◌∙◌, ⊎_elim, arith}
use Rattle.std.proofs.lemmas.Bool.{cases_lt, lt-ltb, ltb-true}
use Rattle.std.proofs.lemmas.List.{get_or_default}
use Rattle.std.proofs.lemmas.List.Sums.{fails_before_first}

not_below : (b : Bool) (i : ℕ) → cond b (Some i) None ≡ None → b ≡ false
not_below true i h = cc
not_below false i h = refl

pub position_fails : {X : Type 0} (p : X → Bool) (xs : List X) (d : X) → position p xs ≡ None → (k : ℕ) → k < length xs → p (get_or xs k d) ≡ false
position_fails p xs d h k lt =
    let e = not_below (nat_lt (position_or_len p xs) (length xs)) (position_or_len p xs) h in
    ⊎_elim
    (λ below. let z : true ≡ false = sym (lt-ltb _ _ below) ∙ e in cc)
    (λ ge. fails_before_first p xs k d (omega (arith, ge, lt)))
    (cases_lt (position_or_len p xs) (length xs))

-- what was read at an index, whatever stands for the elements past the end
pub got : {X : Type 0} (xs : List X) (i : ℕ) (x d : X) → true ≡ nat_lt i (length xs) → x ≡ get_or xs i x → (i < length xs) × (x ≡ get_or xs i d)
got xs i x d t e = let lt = ltb-true _ _ (sym t) in (lt, e ∙ get_or_default xs i x d lt)

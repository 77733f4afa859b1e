-- What the count of a client number's leading zero bits says.
use Rattle.std.proofs.Common.{◌≡◌, ℕ, ◌^◌, ◌<◌, ◌≤◌, ltb, leb, sym, ◌∙◌, inl, inr, arith, pow_mono}
use lib.Count.{count_leading_zeros, leading_length}
use Rattle.std.proofs.lemmas.Bool.{cases_lt, le-leb, lt-leb, lt-ltb, le-ltb}

pub zeros_below : (a : ℕ) → a < 2 ^ 64 → leb 11 (count_leading_zeros 64 a) ≡ ltb a (2 ^ 53)
zeros_below a h =
    let (m, all, below, least) = leading_length 64 a h in
    elim (cases_lt (count_leading_zeros 64 a) 11) [
      | inl few ↦
          (let up : 2 ^ 54 ≤ 2 ^ m = (let le : 54 ≤ m = omega arith in pow_mono le) in
          lt-leb 11 (count_leading_zeros 64 a) few ∙ sym (le-ltb a (2 ^ 53) (omega arith)))
      | inr many ↦
          (let down : 2 ^ m ≤ 2 ^ 53 = (let le : m ≤ 53 = omega arith in pow_mono le) in
          le-leb 11 (count_leading_zeros 64 a) many ∙ sym (lt-ltb a (2 ^ 53) (omega arith)))
    ]

-- The characters of the table and Unicode's scalar values: the numbers below 0x110000 that are no surrogates.
use Rattle.std.specs.Prelude.{◌≡◌, ℕ, ◌<◌, true, List}
use Rattle.std.proofs.Math.Utf8.{scalar, encode}
use Rattle.utf8.specs.Table.{Row, is_character}

pub record Encoded (limit : ℕ) (bs : List ℕ) : Type 0 where
  pub code : ℕ
  pub below : code < limit
  pub sound : scalar code ≡ true
  pub is : encode code ≡ bs

-- these rows have the encodings of the scalar values below the limit, and nothing else
pub record Encodings (rows : List Row) (limit : ℕ) : Type 0 where
  pub each : (c : ℕ) → scalar c ≡ true → c < limit → is_character rows (encode c) ≡ true
  pub only : (bs : List ℕ) → is_character rows bs ≡ true → Encoded limit bs

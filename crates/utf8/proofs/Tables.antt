-- The rows of the table begin with different bytes, so a first byte settles the row.
use Rattle.std.proofs.Common.{◌≡◌, ℕ, ◌≤◌, Bool, true, false, cond, ◌&&◌, ◌||◌, ltb, List, [], ◌∷◌, Some, None, Option, refl, subst, arith}
use Rattle.std.proofs.lemmas.Bool.{false≢true, ltb-true, leb-true, lt-leb, and_parts, and_left, or_from}
use Rattle.utf8.specs.declared.byte_range.ByteRange.{ByteRange}
use Rattle.utf8.specs.declared.planes.Planes.{Planes}
use Rattle.utf8.specs.declared.planes.Planes.TheVariants.{All, Basic}
use Rattle.utf8.specs.Table.{Row, within, fits, is_character}
use Rattle.utf8.specs.Rows.{rest_of, rows}

-- each row begins past n
abbrev above : ℕ → List Row → Bool
above n [] = true
above n ([] ∷ t) = false
above n ((r ∷ row) ∷ t) = ltb n r.low && above n t

abbrev ordered : List Row → Bool
ordered [] = true
ordered ([] ∷ t) = false
ordered ((r ∷ row) ∷ t) = above r.high t && ordered t

abbrev pub fits_rest : Option Row → List ℕ → Bool
fits_rest None bs = false
fits_rest (Some row) bs = fits row bs

none_above : (t : List Row) (n b : ℕ) (bs : List ℕ) → above n t ≡ true → b ≤ n → is_character t (b ∷ bs) ≡ false
unfolding is_character
none_above [] n b bs h k = refl
none_above ([] ∷ t) n b bs h k = absurd (false≢true h)
none_above ((r ∷ row) ∷ t) n b bs h k =
    let parts = and_parts _ _ h in
    let low = ltb-true n r.low parts.0 in
    let out : within r b ≡ false = and_left _ _ (lt-leb r.low b (omega arith)) in
    or_from _ _ (and_left _ _ out) (none_above t n b bs parts.1 k)

or_none : (x y : Bool) → y ≡ false → (x || y) ≡ x
or_none true y e = refl
or_none false y e = e

first_row : (t : List Row) (r : ByteRange) (row : Row) (b : ℕ) (bs : List ℕ) (v : Bool) → within r b ≡ v → above r.high t ≡ true →
    is_character t (b ∷ bs) ≡ fits_rest (rest_of t b) bs →
    ((v && fits row bs) || is_character t (b ∷ bs)) ≡ fits_rest (cond v (Some row) (rest_of t b)) bs
first_row t r row b bs true e far ih = or_none _ _ (none_above t r.high b bs far (leb-true b r.high (and_parts _ _ e).1))
first_row t r row b bs false e far ih = ih

by_first : (t : List Row) → ordered t ≡ true → (b : ℕ) (bs : List ℕ) → is_character t (b ∷ bs) ≡ fits_rest (rest_of t b) bs
unfolding is_character
by_first [] h b bs = refl
by_first ([] ∷ t) h b bs = absurd (false≢true h)
by_first ((r ∷ row) ∷ t) h b bs =
    first_row t r row b bs (within r b) refl (and_parts _ _ h).0 (by_first t (and_parts _ _ h).1 b bs)

-- no range of a row is empty
abbrev pub inhabited : Row → Bool
inhabited [] = true
inhabited (r ∷ row) = within r r.low && inhabited row

abbrev all_inhabited : List Row → Bool
all_inhabited [] = true
all_inhabited ([] ∷ t) = all_inhabited t
all_inhabited ((r ∷ row) ∷ t) = inhabited row && all_inhabited t

picked : (v : Bool) (row other : Row) (o : Option Row) → inhabited row ≡ true → (o ≡ Some other → inhabited other ≡ true) →
    cond v (Some row) o ≡ Some other → inhabited other ≡ true
picked true row other o here ih e = let same : row ≡ other = cc in subst (λ x. inhabited x ≡ true) same here
picked false row other o here ih e = ih e

rest_inhabited : (t : List Row) → all_inhabited t ≡ true → (b : ℕ) (row : Row) → rest_of t b ≡ Some row → inhabited row ≡ true
rest_inhabited [] h b row e = let z : ◌≡◌ {A = ℕ} 0 1 = cc in absurd (omega arith)
rest_inhabited ([] ∷ t) h b row e = rest_inhabited t h b row e
rest_inhabited ((r ∷ first) ∷ t) h b row e =
    picked (within r b) first row (rest_of t b) (and_parts _ _ h).0 (rest_inhabited t (and_parts _ _ h).1 b row) e

-- what the proofs take from the table
pub record Sound (t : List Row) : Type 0 where
  pub none : is_character t [] ≡ false
  pub some : is_character t (0 ∷ []) ≡ true
  pub first : (b : ℕ) (bs : List ℕ) → is_character t (b ∷ bs) ≡ fits_rest (rest_of t b) bs
  pub filled : (b : ℕ) (row : Row) → rest_of t b ≡ Some row → inhabited row ≡ true

pub sound : (planes : Planes) → Sound (rows planes)
unfolding is_character
sound All = record { none = refl; some = refl; first = by_first (rows All) refl; filled = rest_inhabited (rows All) refl }
sound Basic = record { none = refl; some = refl; first = by_first (rows Basic) refl; filled = rest_inhabited (rows Basic) refl }

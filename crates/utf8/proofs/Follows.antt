-- Following a row byte by byte.
use Rattle.std.proofs.Common.{◌≡◌, ℕ, suc, ◌+◌, ◌<◌, ◌≤◌, Bool, true, false, cond, List, [], ◌∷◌, ◌++◌, length, take, Ok, Err, sym, refl, ap, ◌∙◌, add-zero, arith}
use Rattle.std.proofs.lemmas.Bool.{false≢true, cond-true, cond-false, and_parts, and_from}
use Rattle.utf8.specs.declared.byte_range.ByteRange.{ByteRange}
use Rattle.utf8.specs.Table.{Row, within, fits}
use Rattle.utf8.specs.Reading.{follow}
use Rattle.utf8.proofs.Tables.{inhabited}

-- what fits a row is followed to its end, whatever comes after it
pub follow_fits : (row : Row) (c rest : List ℕ) (n : ℕ) → fits row c ≡ true → follow row n (c ++ rest) ≡ Ok (n + length c)
follow_fits [] [] rest n h = ap Ok (sym (add-zero n))
follow_fits [] (b ∷ c) rest n h = absurd (false≢true h)
follow_fits (r ∷ row) [] rest n h = absurd (false≢true h)
follow_fits (r ∷ row) (b ∷ c) rest n h =
    let e : suc n + length c ≡ n + suc (length c) = omega arith in
    let parts = and_parts _ _ h in
    cond-true _ _ _ parts.0 ∙ follow_fits row c rest (suc n) parts.1 ∙ ap Ok e

pub record Followed (row : Row) (n : ℕ) (bs : List ℕ) (m : ℕ) : Type 0 where
  pub fit : fits row (take (length row) bs) ≡ true
  pub is : m ≡ n + length row
  pub inside : length row ≤ length bs

followed_by : (r : ByteRange) (row : Row) (n b : ℕ) (bs : List ℕ) (m : ℕ) (v : Bool) → within r b ≡ v →
    (follow row (suc n) bs ≡ Ok m → Followed row (suc n) bs m) → cond v (follow row (suc n) bs) (Err n) ≡ Ok m → Followed (r ∷ row) n (b ∷ bs) m
followed_by r row n b bs m true w ih e =
    let f = ih e in
    record { fit = and_from _ _ w f.fit; is = omega (arith, f.is); inside = omega (arith, f.inside) }
followed_by r row n b bs m false w ih e = let z : ◌≡◌ {A = ℕ} 0 1 = cc in absurd (omega arith)

pub followed : (row : Row) (n : ℕ) (bs : List ℕ) (m : ℕ) → follow row n bs ≡ Ok m → Followed row n bs m
followed [] n bs m e =
    let same : n ≡ m = cc in
    record { fit = refl; is = omega arith; inside = omega arith }
followed (r ∷ row) n [] m e = let z : ◌≡◌ {A = ℕ} 0 1 = cc in absurd (omega arith)
followed (r ∷ row) n (b ∷ bs) m e = followed_by r row n b bs m (within r b) refl (followed row (suc n) bs m) e

-- the least bytes of a row
abbrev pub lows : Row → List ℕ
lows [] = []
lows (r ∷ row) = r.low ∷ lows row

pub fits_lows : (row : Row) → inhabited row ≡ true → fits row (lows row) ≡ true
fits_lows [] h = refl
fits_lows (r ∷ row) h = and_from _ _ (and_parts _ _ h).0 (fits_lows row (and_parts _ _ h).1)

-- `good` further bytes lie in their ranges and could go on, and the next one settles the refusal
pub record Broken (row : Row) (n : ℕ) (bs : List ℕ) (m : ℕ) : Type 0 where
  pub good : ℕ
  pub is : m ≡ n + good
  pub inside : good ≤ length bs
  pub more : List ℕ
  pub goes : fits row (take good bs ++ more) ≡ true
  pub stays : (ys : List ℕ) → good < length bs → follow row n (take (suc good) bs ++ ys) ≡ Err m

broken_by : (r : ByteRange) (row : Row) (n b : ℕ) (bs : List ℕ) (m : ℕ) (v : Bool) → within r b ≡ v → inhabited (r ∷ row) ≡ true →
    (follow row (suc n) bs ≡ Err m → Broken row (suc n) bs m) → cond v (follow row (suc n) bs) (Err n) ≡ Err m → Broken (r ∷ row) n (b ∷ bs) m
broken_by r row n b bs m true w full ih e =
    let f = ih e in
    record {
      good = suc f.good;
      is = omega (arith, f.is);
      inside = omega (arith, f.inside);
      more = f.more;
      goes = and_from _ _ w f.goes;
      stays = λ ys h. cond-true _ _ _ w ∙ f.stays ys (omega arith);
    }
broken_by r row n b bs m false w full ih e =
    let same : n ≡ m = cc in
    record {
      good = 0;
      is = omega arith;
      inside = omega arith;
      more = lows (r ∷ row);
      goes = fits_lows (r ∷ row) full;
      stays = λ ys h. cond-false _ _ _ w ∙ ap Err same;
    }

pub broken : (row : Row) (n : ℕ) (bs : List ℕ) (m : ℕ) → inhabited row ≡ true → follow row n bs ≡ Err m → Broken row n bs m
broken [] n bs m full e = let z : ◌≡◌ {A = ℕ} 0 1 = cc in absurd (omega arith)
broken (r ∷ row) n [] m full e =
    let same : n ≡ m = cc in
    record {
      good = 0;
      is = omega arith;
      inside = omega arith;
      more = lows (r ∷ row);
      goes = fits_lows (r ∷ row) full;
      stays = λ ys h. absurd (omega arith);
    }
broken (r ∷ row) n (b ∷ bs) m full e =
    broken_by r row n b bs m (within r b) refl full (broken row (suc n) bs m (and_parts _ _ full).1) e

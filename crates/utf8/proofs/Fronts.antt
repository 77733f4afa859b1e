-- One character at the front of some bytes.
use Rattle.std.proofs.Common.{◌≡◌, ℕ, ◌+◌, ◌-◌, ◌<◌, ◌≤◌, ◌≢◌, suc, min, Bool, true, false, cond, List, [], ◌∷◌, zip, length, get_or, take, drop, take_while, Some, None, Ok, Err, Result, sym, refl, ap, ◌∙◌, add-zero, arith}
use Rattle.std.proofs.lemmas.List.{at_drop_more, at_drop_all, take_all, length-drop}
use Rattle.std.proofs.lemmas.List.Folds.{length-prefix_len}
use Rattle.std.specs.List.{prefix_len}
use Rattle.utf8.specs.Table.{Row, within}
use Rattle.utf8.specs.Rows.{rest_of}
use Rattle.utf8.specs.Reading.{follow, follow_row, front, placed, character_at}

pub nothing : (rows : List Row) (bs : List ℕ) (p : ℕ) → length bs ≤ p → Err (length bs) ≡ character_at rows bs p
unfolding front character_at
nothing rows bs p h =
    let e : min p (length bs) + 0 ≡ length bs = omega arith in
    sym (at_drop_all (λ r. placed (min p (length bs)) (front rows r)) bs p h ∙ ap Err e)

-- where the answer for what follows p is known
pub placed_at : (rows : List Row) (bs : List ℕ) (p : ℕ) (r : Result ℕ ℕ) → p < length bs → front rows (drop p bs) ≡ r → placed p r ≡ character_at rows bs p
unfolding character_at
placed_at rows bs p r h e =
    let m : min p (length bs) ≡ p = omega arith in
    sym ((λ i. placed (m i) (front rows (drop p bs))) ∙ ap (placed p) e)

pub front_at : (rows : List Row) (bs : List ℕ) (p : ℕ) → p < length bs → front rows (drop p bs) ≡ follow_row (rest_of rows (get_or bs p 0)) (drop (p + 1) bs)
unfolding front
front_at rows bs p h = at_drop_more (front rows) bs p 0 h

-- how many bytes, from the first on, lie in the ranges at their places
abbrev pub fit : Row → List ℕ → ℕ
fit row bs = prefix_len (λ x. within x.0 x.1) (zip row bs)

pub fit_inside : (row : Row) (bs : List ℕ) → fit row bs ≤ length bs
fit_inside [] bs = omega arith
fit_inside (r ∷ row) [] = omega arith
fit_inside (r ∷ row) (b ∷ bs) = inside_by (fit row bs) (length bs) (within r b) (fit_inside row bs)
  where
    inside_by : (k n : ℕ) (v : Bool) → k ≤ n → cond v (1 + k) 0 ≤ suc n
    inside_by k n true h = omega arith
    inside_by k n false h = omega arith

-- as `fitting` counts them, in the bytes from p on
pub fitting_is : (row : Row) (bs : List ℕ) (p k : ℕ) → k ≡ length (take_while (λ x. within x.0 x.1) (zip row (take (length bs - p) (drop p bs)))) → k ≡ fit row (drop p bs)
fitting_is row bs p k e =
    let rest : take (length bs - p) (drop p bs) ≡ drop p bs = take_all (length bs - p) (drop p bs) (let many = length-drop p bs in omega arith) in
    e ∙ length-prefix_len (λ x. within x.0 x.1) (zip row (take (length bs - p) (drop p bs))) ∙ ap (fit row) rest

-- each byte of the character lies in its range
pub follow_all : (row : Row) (bs : List ℕ) (n : ℕ) → fit row bs ≡ length row → follow row n bs ≡ Ok (n + length row)
follow_all [] bs n h = ap Ok (sym (add-zero n))
follow_all (r ∷ row) [] n h = absurd (omega arith)
follow_all (r ∷ row) (b ∷ bs) n h = all_by (within r b) (follow_all row bs (suc n)) h
  where
    all_by : (v : Bool) → (fit row bs ≡ length row → follow row (suc n) bs ≡ Ok (suc n + length row)) → cond v (1 + fit row bs) 0 ≡ suc (length row) →
        cond v (follow row (suc n) bs) (Err n) ≡ Ok (n + suc (length row))
    all_by true ih e =
        let shift : suc n + length row ≡ n + suc (length row) = omega arith in
        ih (omega arith) ∙ ap Ok shift
    all_by false ih e = absurd (omega arith)

-- the first that does not, or that is missing
pub follow_stop : (row : Row) (bs : List ℕ) (n : ℕ) → fit row bs ≢ length row → follow row n bs ≡ Err (n + fit row bs)
follow_stop [] bs n h = absurd (h refl)
follow_stop (r ∷ row) [] n h = ap Err (sym (add-zero n))
follow_stop (r ∷ row) (b ∷ bs) n h = stop_by (within r b) (follow_stop row bs (suc n)) h
  where
    stop_by : (v : Bool) → (fit row bs ≢ length row → follow row (suc n) bs ≡ Err (suc n + fit row bs)) → cond v (1 + fit row bs) 0 ≢ suc (length row) →
        cond v (follow row (suc n) bs) (Err n) ≡ Err (n + cond v (1 + fit row bs) 0)
    stop_by true ih e =
        let shift : suc n + fit row bs ≡ n + (1 + fit row bs) = omega arith in
        ih (λ same. e (omega arith)) ∙ ap Err shift
    stop_by false ih e = ap Err (sym (add-zero n))

pub no_character : (rows : List Row) (bs : List ℕ) (p : ℕ) → p < length bs → None ≡ rest_of rows (get_or bs p 0) → Err p ≡ character_at rows bs p
no_character rows bs p h e =
    ap Err (sym (add-zero p)) ∙ placed_at rows bs p (Err 0) h (front_at rows bs p h ∙ ap (λ o. follow_row o (drop (p + 1) bs)) (sym e))

pub found : (rows : List Row) (bs : List ℕ) (p : ℕ) (row : Row) (r : Result ℕ ℕ) → p < length bs → Some row ≡ rest_of rows (get_or bs p 0) →
    follow row 1 (drop (p + 1) bs) ≡ r → placed p r ≡ character_at rows bs p
found rows bs p row r h e f = placed_at rows bs p r h (front_at rows bs p h ∙ ap (λ o. follow_row o (drop (p + 1) bs)) (sym e) ∙ f)

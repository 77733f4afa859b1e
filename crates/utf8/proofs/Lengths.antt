-- How many bytes the characters of a row have.
use Rattle.std.proofs.Common.{◌≡◌, ℕ, suc, ◌≤◌, Bool, true, false, ◌&&◌, ◌||◌, leb, List, [], ◌∷◌, ◌++◌, length, Some, None, Option, sym, refl, ap, ◌∙◌, subst, arith}
use Rattle.std.proofs.lemmas.Bool.{false≢true, and_parts, leb-true, le-leb, lt-leb}
use Rattle.std.specs.Option.{option_map}
use Rattle.utf8.specs.declared.planes.Planes.TheVariants.{All}
use Rattle.utf8.specs.Table.{Row, utf8_char, basic_char, utf8_4, fits, is_character}
use Rattle.utf8.specs.Rows.{rest_of, length_from}
use Rattle.utf8.specs.Texts.{Begun, Short}
use Rattle.utf8.proofs.Tables.{sound, fits_rest}
use Rattle.utf8.proofs.Follows.{lows, fits_lows}

fits_length : (row : Row) (c : List ℕ) → fits row c ≡ true → length c ≡ length row
fits_length [] [] h = refl
fits_length [] (b ∷ c) h = absurd (false≢true h)
fits_length (r ∷ row) [] h = absurd (false≢true h)
fits_length (r ∷ row) (b ∷ c) h = ap suc (fits_length row c (and_parts _ _ h).1)

begun_row : (b : ℕ) (o : Option Row) → rest_of utf8_char b ≡ o → Begun b (option_map (λ row. suc (length row)) o)
begun_row b None e = λ bs h. false≢true (sym (ap (λ o. fits_rest o bs) e) ∙ sym ((sound All).first b bs) ∙ h)
begun_row b (Some row) e = (
  (lows row, (sound All).first b (lows row) ∙ ap (λ o. fits_rest o (lows row)) e ∙ fits_lows row ((sound All).filled b row e)),
  λ bs h. ap suc (fits_length row bs (sym (ap (λ o. fits_rest o bs) e) ∙ sym ((sound All).first b bs) ∙ h)),
)

pub begun : (b : ℕ) (r : Option ℕ) → r ≡ length_from utf8_char b → Begun b r
begun b r e = subst (Begun b) (sym e) (begun_row b (rest_of utf8_char b) refl)

-- each row has at most, or at least, n bytes
abbrev at_most : ℕ → List Row → Bool
at_most n [] = true
at_most n (row ∷ t) = leb (length row) n && at_most n t

abbrev at_least : ℕ → List Row → Bool
at_least n [] = true
at_least n (row ∷ t) = leb n (length row) && at_least n t

pub or_split : (x y : Bool) (P : Type 0) → (x || y) ≡ true → (x ≡ true → P) → (y ≡ true → P) → P
or_split true y P h f g = f refl
or_split false y P h f g = g h

most : (t : List Row) (n : ℕ) (c : List ℕ) → at_most n t ≡ true → is_character t c ≡ true → length c ≤ n
unfolding is_character
most [] n c h k = absurd (false≢true k)
most (row ∷ t) n c h k =
    let parts = and_parts (leb (length row) n) (at_most n t) h in
    or_split (fits row c) (is_character t c) (length c ≤ n) k
    (λ f. let few = leb-true (length row) n parts.0 in let long = fits_length row c f in omega arith)
    (λ f. most t n c parts.1 f)

least : (t : List Row) (n : ℕ) (c : List ℕ) → at_least n t ≡ true → is_character t c ≡ true → n ≤ length c
unfolding is_character
least [] n c h k = absurd (false≢true k)
least (row ∷ t) n c h k =
    let parts = and_parts (leb n (length row)) (at_least n t) h in
    or_split (fits row c) (is_character t c) (n ≤ length c) k
    (λ f. let few = leb-true n (length row) parts.0 in let long = fits_length row c f in omega arith)
    (λ f. least t n c parts.1 f)

pub is_character_append : (t u : List Row) (c : List ℕ) → is_character (t ++ u) c ≡ (is_character t c || is_character u c)
unfolding is_character
is_character_append [] u c = refl
is_character_append (row ∷ t) u c = ap (λ x. fits row c || x) (is_character_append t u c) ∙ or_assoc (fits row c) (is_character t c) (is_character u c)
  where
    or_assoc : (x y z : Bool) → (x || (y || z)) ≡ ((x || y) || z)
    or_assoc true y z = refl
    or_assoc false y z = refl

sorted_out : (x y v : Bool) → (x ≡ true → v ≡ true) → (y ≡ true → v ≡ false) → x ≡ ((x || y) && v)
sorted_out true y v f g = sym (f refl)
sorted_out false true v f g = sym (g refl)
sorted_out false false v f g = refl

pub short : Short
unfolding is_character
short c =
    sorted_out (is_character basic_char c) (is_character utf8_4 c) (leb (length c) 3)
    (λ h. let few = most basic_char 3 c refl h in le-leb (length c) 3 (omega arith))
    (λ h. let many = least utf8_4 4 c refl h in lt-leb (length c) 3 (omega arith))
    ∙ ap (λ x. x && leb (length c) 3) (sym (is_character_append basic_char utf8_4 c))

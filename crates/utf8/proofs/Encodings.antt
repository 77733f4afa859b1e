-- The table has the encodings of the scalar values, and nothing else.
use Rattle.std.proofs.Common.{◌≡◌, ℕ, ◌+◌, ◌-◌, ◌*◌, ◌/◌, ◌<◌, ◌≤◌, true, ◌⊎◌, List, [], ◌∷◌, sym, refl, ap, ◌∙◌, subst, inl, inr, ⊎_elim, arith}
use lib.Utf8.{scalar, scalar_cases, low_scalar, encode, next}
use Rattle.std.proofs.lemmas.Bool.{false≢true, and_parts, and_from, le-leb, leb-true, lt-ltb, le-ltb, cond-true, cond-false, cases_lt, or_left, or_right}
use Rattle.utf8.specs.declared.byte_range.ByteRange.{ByteRange}
use Rattle.utf8.specs.Table.{Row, ◌to◌, tail, utf8_4, utf8_char, basic_char, within, fits, is_character}
use Rattle.utf8.specs.Scalars.{Encoded, Encodings}
use Rattle.utf8.proofs.Lengths.{or_split, is_character_append}

here : (row : Row) (t : List Row) (bs : List ℕ) → fits row bs ≡ true → is_character (row ∷ t) bs ≡ true
unfolding is_character
here row t bs h = or_left (fits row bs) (is_character t bs) h

there : (row : Row) (t : List Row) (bs : List ℕ) → is_character t bs ≡ true → is_character (row ∷ t) bs ≡ true
unfolding is_character
there row t bs h = or_right (fits row bs) (is_character t bs) h

inside : (r : ByteRange) (b : ℕ) → r.low ≤ b → b ≤ r.high → within r b ≡ true
inside r b l h = and_from _ _ (le-leb r.low b l) (le-leb b r.high h)

one : (c : ℕ) → c < 128 → encode c ≡ c ∷ []
unfolding encode
one c h = cond-true _ _ _ (lt-ltb c 128 h)

two : (c : ℕ) → 128 ≤ c → c < 2048 → encode c ≡ (192 + c / 64) ∷ next c ∷ []
unfolding encode
two c l h = cond-false _ _ _ (le-ltb c 128 l) ∙ cond-true _ _ _ (lt-ltb c 2048 h)

three : (c : ℕ) → 2048 ≤ c → c < 65536 → encode c ≡ (224 + c / 4096) ∷ next (c / 64) ∷ next c ∷ []
unfolding encode
three c l h = cond-false _ _ _ (le-ltb c 128 (omega arith)) ∙ cond-false _ _ _ (le-ltb c 2048 l) ∙ cond-true _ _ _ (lt-ltb c 65536 h)

four : (c : ℕ) → 65536 ≤ c → encode c ≡ (240 + c / 262144) ∷ next (c / 4096) ∷ next (c / 64) ∷ next c ∷ []
unfolding encode
four c l = cond-false _ _ _ (le-ltb c 128 (omega arith)) ∙ cond-false _ _ _ (le-ltb c 2048 (omega arith)) ∙ cond-false _ _ _ (le-ltb c 65536 l)

in_tail : (n : ℕ) → within tail (next n) ≡ true
in_tail n = inside tail (next n) (omega arith) (omega arith)

fits_1 : (r : ByteRange) (x : ℕ) → within r x ≡ true → fits (r ∷ []) (x ∷ []) ≡ true
fits_1 r x h = and_from _ _ h refl

fits_2 : (r s : ByteRange) (x y : ℕ) → within r x ≡ true → within s y ≡ true → fits (r ∷ s ∷ []) (x ∷ y ∷ []) ≡ true
fits_2 r s x y h k = and_from _ _ h (fits_1 s y k)

fits_3 : (r s t : ByteRange) (x y z : ℕ) → within r x ≡ true → within s y ≡ true → within t z ≡ true → fits (r ∷ s ∷ t ∷ []) (x ∷ y ∷ z ∷ []) ≡ true
fits_3 r s t x y z h k l = and_from _ _ h (fits_2 s t y z k l)

three_in : (c : ℕ) → 2048 ≤ c → c < 65536 → (c < 55296) ⊎ ((57344 ≤ c) × (c < 1114112)) →
    is_character basic_char ((224 + c / 4096) ∷ next (c / 64) ∷ next c ∷ []) ≡ true
three_in c l h s =
    let x = 224 + c / 4096 in
    let y = next (c / 64) in
    let row = λ (r t : ByteRange) (f : within r x ≡ true) (g : within t y ≡ true). fits_3 r t tail x y (next c) f g (in_tail c) in
    there _ _ _ (there _ _ _ (⊎_elim
    (λ a. here _ _ _ (row (0xE0 to 0xE0) (0xA0 to 0xBF) (inside (0xE0 to 0xE0) x (omega arith) (omega arith)) (inside (0xA0 to 0xBF) y (omega arith) (omega arith))))
    (λ a. there _ _ _ (⊎_elim
    (λ b. here _ _ _ (row (0xE1 to 0xEC) tail (inside (0xE1 to 0xEC) x (omega arith) (omega arith)) (in_tail (c / 64))))
    (λ b. there _ _ _ (⊎_elim
    (λ d. here _ _ _ (row (0xED to 0xED) (0x80 to 0x9F) (inside (0xED to 0xED) x (omega arith) (omega arith)) (inside (0x80 to 0x9F) y (omega arith) (omega arith))))
    (λ d. there _ _ _ (here _ _ _ (row (0xEE to 0xEF) tail (inside (0xEE to 0xEF) x (omega arith) (omega arith)) (in_tail (c / 64)))))
    s))
    (cases_lt c 53248)))
    (cases_lt c 4096)))

fits_4 : (r s t u : ByteRange) (x y z w : ℕ) → within r x ≡ true → within s y ≡ true → within t z ≡ true → within u w ≡ true →
    fits (r ∷ s ∷ t ∷ u ∷ []) (x ∷ y ∷ z ∷ w ∷ []) ≡ true
fits_4 r s t u x y z w h k l m = and_from _ _ h (fits_3 s t u y z w k l m)

four_in : (c : ℕ) → 65536 ≤ c → c < 1114112 →
    is_character utf8_4 ((240 + c / 262144) ∷ next (c / 4096) ∷ next (c / 64) ∷ next c ∷ []) ≡ true
four_in c l h =
    let x = 240 + c / 262144 in
    let y = next (c / 4096) in
    let row = λ (r t : ByteRange) (f : within r x ≡ true) (g : within t y ≡ true). fits_4 r t tail tail x y (next (c / 64)) (next c) f g (in_tail (c / 64)) (in_tail c) in
    ⊎_elim
    (λ a. here _ _ _ (row (0xF0 to 0xF0) (0x90 to 0xBF) (inside (0xF0 to 0xF0) x (omega arith) (omega arith)) (inside (0x90 to 0xBF) y (omega arith) (omega arith))))
    (λ a. there _ _ _ (⊎_elim
    (λ b. here _ _ _ (row (0xF1 to 0xF3) tail (inside (0xF1 to 0xF3) x (omega arith) (omega arith)) (in_tail (c / 4096))))
    (λ b. there _ _ _ (here _ _ _ (row (0xF4 to 0xF4) (0x80 to 0x8F) (inside (0xF4 to 0xF4) x (omega arith) (omega arith)) (inside (0x80 to 0x8F) y (omega arith) (omega arith)))))
    (cases_lt c 1048576)))
    (cases_lt c 262144)

basic_each : (c : ℕ) → scalar c ≡ true → c < 65536 → is_character basic_char (encode c) ≡ true
basic_each c s h =
    let P = λ (bs : List ℕ). is_character basic_char bs ≡ true in
    ⊎_elim
    (λ a. subst P (sym (one c a)) (here _ _ _ (fits_1 (0x00 to 0x7F) c (inside (0x00 to 0x7F) c (omega arith) (omega arith)))))
    (λ a. ⊎_elim
    (λ b. subst P (sym (two c a b))
    (there _ _ _ (here _ _ _ (fits_2 (0xC2 to 0xDF) tail (192 + c / 64) (next c) (inside (0xC2 to 0xDF) (192 + c / 64) (omega arith) (omega arith)) (in_tail c)))))
    (λ b. subst P (sym (three c b h)) (three_in c b h (scalar_cases c s)))
    (cases_lt c 2048))
    (cases_lt c 128)

four_each : (c : ℕ) → scalar c ≡ true → 65536 ≤ c → is_character utf8_4 (encode c) ≡ true
four_each c s h =
    let top : c < 1114112 = ⊎_elim (λ a. omega arith) (λ a. a.1) (scalar_cases c s) in
    subst (λ bs. is_character utf8_4 bs ≡ true) (sym (four c h)) (four_in c h top)

bounds : (r : ByteRange) (b : ℕ) → within r b ≡ true → (r.low ≤ b) × (b ≤ r.high)
bounds r b h = let p = and_parts _ _ h in (leb-true r.low b p.0, leb-true b r.high p.1)

abbrev In : ByteRange → ℕ → Type 0
In r b = (r.low ≤ b) × (b ≤ r.high)

split_1 : (r : ByteRange) (P : List ℕ → Type 0) (bs : List ℕ) → fits (r ∷ []) bs ≡ true → ((x : ℕ) → In r x → P (x ∷ [])) → P bs
split_1 r P [] h f = absurd (false≢true h)
split_1 r P (x ∷ []) h f = f x (bounds r x (and_parts _ _ h).0)
split_1 r P (x ∷ y ∷ bs) h f = absurd (false≢true (and_parts _ _ h).1)

split_2 : (r s : ByteRange) (P : List ℕ → Type 0) (bs : List ℕ) → fits (r ∷ s ∷ []) bs ≡ true → ((x y : ℕ) → In r x → In s y → P (x ∷ y ∷ [])) → P bs
split_2 r s P [] h f = absurd (false≢true h)
split_2 r s P (x ∷ bs) h f =
    let p = and_parts _ _ h in
    split_1 s (λ l. P (x ∷ l)) bs p.1 (λ y. f x y (bounds r x p.0))

split_3 : (r s t : ByteRange) (P : List ℕ → Type 0) (bs : List ℕ) → fits (r ∷ s ∷ t ∷ []) bs ≡ true →
    ((x y z : ℕ) → In r x → In s y → In t z → P (x ∷ y ∷ z ∷ [])) → P bs
split_3 r s t P [] h f = absurd (false≢true h)
split_3 r s t P (x ∷ bs) h f =
    let p = and_parts _ _ h in
    split_2 s t (λ l. P (x ∷ l)) bs p.1 (λ y z. f x y z (bounds r x p.0))

split_4 : (r s t u : ByteRange) (P : List ℕ → Type 0) (bs : List ℕ) → fits (r ∷ s ∷ t ∷ u ∷ []) bs ≡ true →
    ((x y z w : ℕ) → In r x → In s y → In t z → In u w → P (x ∷ y ∷ z ∷ w ∷ [])) → P bs
split_4 r s t u P [] h f = absurd (false≢true h)
split_4 r s t u P (x ∷ bs) h f =
    let p = and_parts _ _ h in
    split_3 s t u (λ l. P (x ∷ l)) bs p.1 (λ y z w. f x y z w (bounds r x p.0))

high_scalar : (c : ℕ) → 57344 ≤ c → c < 1114112 → scalar c ≡ true
high_scalar c l h = cond-false _ _ _ (le-ltb c 55296 (omega arith)) ∙ and_from _ _ (le-leb 57344 c l) (lt-ltb c 1114112 h)

from_2 : (x y : ℕ) → In (0xC2 to 0xDF) x → In tail y → Encoded 65536 (x ∷ y ∷ [])
from_2 x y h k =
    let c = (x - 192) * 64 + (y - 128) in
    let p : 192 + c / 64 ≡ x = omega arith in
    let q : next c ≡ y = omega arith in
    record { code = c; below = omega arith; sound = low_scalar c (omega arith); is = two c (omega arith) (omega arith) ∙ (λ i. p i ∷ q i ∷ []) }

from_3 : (x y z : ℕ) → In (0xE0 to 0xEF) x → In tail y → In tail z →
    32 ≤ (x - 224) * 64 + (y - 128) → ((x - 224) * 64 + (y - 128) < 864) ⊎ (896 ≤ (x - 224) * 64 + (y - 128)) → Encoded 65536 (x ∷ y ∷ z ∷ [])
from_3 x y z h k l low s =
    let c = (x - 224) * 4096 + (y - 128) * 64 + (z - 128) in
    let p : 224 + c / 4096 ≡ x = omega arith in
    let q : next (c / 64) ≡ y = omega arith in
    let r : next c ≡ z = omega arith in
    record {
      code = c;
      below = omega arith;
      sound = ⊎_elim (λ a. low_scalar c (omega arith)) (λ a. high_scalar c (omega arith) (omega arith)) s;
      is = three c (omega arith) (omega arith) ∙ (λ i. p i ∷ q i ∷ r i ∷ []);
    }

from_4 : (x y z w : ℕ) → In (0xF0 to 0xF4) x → In tail y → In tail z → In tail w →
    16 ≤ (x - 240) * 64 + (y - 128) → (x - 240) * 64 + (y - 128) < 272 → Encoded 1114112 (x ∷ y ∷ z ∷ w ∷ [])
from_4 x y z w h k l m low high =
    let c = (x - 240) * 262144 + (y - 128) * 4096 + (z - 128) * 64 + (w - 128) in
    let p : 240 + c / 262144 ≡ x = omega arith in
    let q : next (c / 4096) ≡ y = omega arith in
    let e : c / 64 ≡ (x - 240) * 4096 + (y - 128) * 64 + (z - 128) = omega arith in
    let n : next ((x - 240) * 4096 + (y - 128) * 64 + (z - 128)) ≡ z = omega arith in
    let r : next (c / 64) ≡ z = ap next e ∙ n in
    let t : next c ≡ w = omega arith in
    record {
      code = c;
      below = omega arith;
      sound = high_scalar c (omega arith) (omega arith);
      is = four c (omega arith) ∙ (λ i. p i ∷ q i ∷ r i ∷ t i ∷ []);
    }

split_row : (row : Row) (t : List Row) (bs : List ℕ) (P : Type 0) → is_character (row ∷ t) bs ≡ true → (fits row bs ≡ true → P) → (is_character t bs ≡ true → P) → P
unfolding is_character
split_row row t bs P h f g = or_split (fits row bs) (is_character t bs) P h f g

no_row : (bs : List ℕ) → is_character [] bs ≡ true → ⊥
unfolding is_character
no_row bs h = false≢true h

basic_only : (bs : List ℕ) → is_character basic_char bs ≡ true → Encoded 65536 bs
basic_only bs h =
    let E = Encoded 65536 in
    split_row _ _ bs (E bs) h
    (λ f. split_1 (0x00 to 0x7F) E bs f (λ x a. record { code = x; below = omega arith; sound = low_scalar x (omega arith); is = one x (omega arith) }))
    (λ h1. split_row _ _ bs (E bs) h1
    (λ f. split_2 (0xC2 to 0xDF) tail E bs f from_2)
    (λ h2. split_row _ _ bs (E bs) h2
    (λ f. split_3 (0xE0 to 0xE0) (0xA0 to 0xBF) tail E bs f (λ x y z a b c. from_3 x y z (omega arith, omega arith) (omega arith, omega arith) c (omega arith) (inl (omega arith))))
    (λ h3. split_row _ _ bs (E bs) h3
    (λ f. split_3 (0xE1 to 0xEC) tail tail E bs f (λ x y z a b c. from_3 x y z (omega arith, omega arith) b c (omega arith) (inl (omega arith))))
    (λ h4. split_row _ _ bs (E bs) h4
    (λ f. split_3 (0xED to 0xED) (0x80 to 0x9F) tail E bs f (λ x y z a b c. from_3 x y z (omega arith, omega arith) (omega arith, omega arith) c (omega arith) (inl (omega arith))))
    (λ h5. split_row _ _ bs (E bs) h5
    (λ f. split_3 (0xEE to 0xEF) tail tail E bs f (λ x y z a b c. from_3 x y z (omega arith, omega arith) b c (omega arith) (inr (omega arith))))
    (λ h6. absurd (no_row bs h6)))))))

four_only : (bs : List ℕ) → is_character utf8_4 bs ≡ true → Encoded 1114112 bs
four_only bs h =
    let E = Encoded 1114112 in
    split_row _ _ bs (E bs) h
    (λ f. split_4 (0xF0 to 0xF0) (0x90 to 0xBF) tail tail E bs f (λ x y z w a b c d. from_4 x y z w (omega arith, omega arith) (omega arith, omega arith) c d (omega arith) (omega arith)))
    (λ h1. split_row _ _ bs (E bs) h1
    (λ f. split_4 (0xF1 to 0xF3) tail tail tail E bs f (λ x y z w a b c d. from_4 x y z w (omega arith, omega arith) b c d (omega arith) (omega arith)))
    (λ h2. split_row _ _ bs (E bs) h2
    (λ f. split_4 (0xF4 to 0xF4) (0x80 to 0x8F) tail tail E bs f (λ x y z w a b c d. from_4 x y z w (omega arith, omega arith) (omega arith, omega arith) c d (omega arith) (omega arith)))
    (λ h3. absurd (no_row bs h3))))

wider : (bs : List ℕ) → Encoded 65536 bs → Encoded 1114112 bs
wider bs e = record { code = e.code; below = omega (arith, e.below); sound = e.sound; is = e.is }

pub basic_encodings : Encodings basic_char 65536
basic_encodings = record { each = basic_each; only = basic_only }

pub all_encodings : Encodings utf8_char 1114112
all_encodings = record {
  each = λ c s h.
      is_character_append basic_char utf8_4 (encode c)
      ∙ ⊎_elim (λ a. or_left _ _ (basic_each c s a)) (λ a. or_right _ _ (four_each c s a)) (cases_lt c 65536);
  only = λ bs h.
      or_split (is_character basic_char bs) (is_character utf8_4 bs) (Encoded 1114112 bs)
      (sym (is_character_append basic_char utf8_4 bs) ∙ h) (λ a. wider bs (basic_only bs a)) (four_only bs);
}

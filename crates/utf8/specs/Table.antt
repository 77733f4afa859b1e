-- The table of RFC 3629, section 4, and what a character is.
use Rattle.std.specs.Prelude.{ℕ, Bool, true, false, ◌&&◌, ◌||◌, List, [], ◌∷◌, ◌++◌, nat_le}
use Rattle.utf8.specs.declared.byte_range.ByteRange.{ByteRange}

infixl 20 ◌to◌
abbrev pub ◌to◌ : ℕ → ℕ → ByteRange
low to high = record { low = low; high = high }

-- a row has a range for each byte of a character
abbrev pub Row : Type 0
Row = List ByteRange

abbrev pub tail : ByteRange
tail = 0x80 to 0xBF

abbrev pub utf8_1 : List Row
utf8_1 = ((0x00 to 0x7F) ∷ []) ∷ []

abbrev pub utf8_2 : List Row
utf8_2 = ((0xC2 to 0xDF) ∷ tail ∷ []) ∷ []

abbrev pub utf8_3 : List Row
utf8_3 =
    ((0xE0 to 0xE0) ∷ (0xA0 to 0xBF) ∷ tail ∷ [])
    ∷ ((0xE1 to 0xEC) ∷ tail ∷ tail ∷ [])
    ∷ ((0xED to 0xED) ∷ (0x80 to 0x9F) ∷ tail ∷ [])
    ∷ ((0xEE to 0xEF) ∷ tail ∷ tail ∷ [])
    ∷ []

abbrev pub utf8_4 : List Row
utf8_4 =
    ((0xF0 to 0xF0) ∷ (0x90 to 0xBF) ∷ tail ∷ tail ∷ [])
    ∷ ((0xF1 to 0xF3) ∷ tail ∷ tail ∷ tail ∷ [])
    ∷ ((0xF4 to 0xF4) ∷ (0x80 to 0x8F) ∷ tail ∷ tail ∷ [])
    ∷ []

abbrev pub utf8_char : List Row
utf8_char = utf8_1 ++ (utf8_2 ++ (utf8_3 ++ utf8_4))

-- the characters up to U+FFFF have at most three bytes
abbrev pub basic_char : List Row
basic_char = utf8_1 ++ (utf8_2 ++ utf8_3)

abbrev pub within : ByteRange → ℕ → Bool
within range b = nat_le range.low b && nat_le b range.high

-- a byte in each range, and no more
abbrev pub fits : Row → List ℕ → Bool
fits [] [] = true
fits [] (b ∷ bs) = false
fits (range ∷ row) [] = false
fits (range ∷ row) (b ∷ bs) = within range b && fits row bs

-- these bytes are one character of these rows
unfoldable pub is_character : List Row → List ℕ → Bool
is_character [] bs = false
is_character (row ∷ rows) bs = fits row bs || is_character rows bs

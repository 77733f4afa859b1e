-- What a text is, and what an answer about one says.
use Rattle.std.specs.Prelude.{◌≡◌, ℕ, suc, ◌+◌, ◌<◌, ◌≤◌, min, true, ◌&&◌, List, [], ◌∷◌, ◌++◌, length, take, drop, Some, None, Ok, Err, Option, Result, ◌≢◌, nat_le}
use Rattle.utf8.specs.Table.{Row, utf8_char, basic_char, is_character}
use Rattle.utf8.specs.Reading.{together, counted}

-- what a first byte says: some character begins with it, and all that do have n bytes; or none does
abbrev pub Begun : ℕ → Option ℕ → Type 0
Begun b (Some n) =
    ((bs : List ℕ) × (is_character utf8_char (b ∷ bs) ≡ true)) × ((bs : List ℕ) → is_character utf8_char (b ∷ bs) ≡ true → length (b ∷ bs) ≡ n)
Begun b None = (bs : List ℕ) → is_character utf8_char (b ∷ bs) ≢ true

-- the basic characters are those of one to three bytes
abbrev pub Short : Type 0
Short = (c : List ℕ) → is_character basic_char c ≡ (is_character utf8_char c && nat_le (length c) 3)

abbrev pub AllCharacters : List Row → List (List ℕ) → Type 0
AllCharacters rows [] = Unit {0}
AllCharacters rows (c ∷ cs) = (is_character rows c ≡ true) × AllCharacters rows cs

-- these characters, in order, are these bytes
pub record Spelled (rows : List Row) (cs : List (List ℕ)) (bs : List ℕ) : Type 0 where
  pub each : AllCharacters rows cs
  pub whole : together cs ≡ bs

abbrev pub Text : List Row → List ℕ → Type 0
Text rows bs = (cs : List (List ℕ)) × Spelled rows cs bs

-- a character, and then any bytes
pub record Headed (rows : List Row) (bs : List ℕ) : Type 0 where
  pub first : List ℕ
  pub others : List ℕ
  pub sound : is_character rows first ≡ true
  pub whole : first ++ others ≡ bs

-- The first byte that is wrong stands at p: what comes before it can go on to be a `Good` one, and with this byte it cannot.
-- At the end of the bytes, they are cut short.
pub record Refused (Good : List ℕ → Type 0) (bs : List ℕ) (p : ℕ) : Type 0 where
  pub inside : p ≤ length bs
  pub open_ended : (more : List ℕ) × Good (take p bs ++ more)
  pub wrong : p < length bs → (more : List ℕ) → Good (take (suc p) bs ++ more) → ⊥
  pub unfinished : p ≡ length bs → Good bs → ⊥

abbrev pub Measured : List Row → List ℕ → ℕ → Result ℕ ℕ → Type 0
Measured rows bs offset (Ok n) = (is_character rows (take n (drop offset bs)) ≡ true) × (offset + n ≤ length bs)
Measured rows bs offset (Err p) = (n : ℕ) × (p ≡ min offset (length bs) + n) × Refused (Headed rows) (drop offset bs) n

abbrev pub Counted : List Row → List ℕ → Result ℕ ℕ → Type 0
Counted rows bs (Ok n) = (cs : List (List ℕ)) × Spelled rows cs bs × (length cs ≡ n)
Counted rows bs (Err p) = Refused (Text rows) bs p

-- no other characters are the same bytes
abbrev pub Unique : List Row → List ℕ → Type 0
Unique rows bs = (cs ds : List (List ℕ)) → Spelled rows cs bs → Spelled rows ds bs → cs ≡ ds

-- a text that follows on this one adds its characters
abbrev pub Sums : List Row → List ℕ → Type 0
Sums rows bs = (more : List ℕ) (m n : ℕ) → counted rows bs ≡ Ok m → counted rows more ≡ Ok n → counted rows (bs ++ more) ≡ Ok (m + n)

-- k characters, and then one of n bytes at this offset
pub record Lies (rows : List Row) (bs : List ℕ) (k offset n : ℕ) : Type 0 where
  pub before : List (List ℕ)
  pub spelled : Spelled rows before (take offset bs)
  pub many : length before ≡ k
  pub character : is_character rows (take n (drop offset bs)) ≡ true
  pub inside : offset + n ≤ length bs

abbrev pub Located : List Row → List ℕ → ℕ → Option (ℕ × ℕ) → Type 0
Located rows bs k (Some at) = Lies rows bs k at.0 at.1
Located rows bs k None = (offset n : ℕ) → Lies rows bs k offset n → ⊥

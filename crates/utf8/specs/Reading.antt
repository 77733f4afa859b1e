-- Reading a text from its start: which characters stand there, and which byte is the first that is wrong.
use Rattle.std.specs.Prelude.{ℕ, zero, suc, pred, ◌+◌, min, cond, List, [], ◌∷◌, length, take, drop, Some, None, Ok, Err, Option, Result, ◌==◌, nat_lt, slice_index_or}
use Rattle.std.specs.List.{flat_map}
use Rattle.utf8.specs.Table.{Row, within}
use Rattle.utf8.specs.Rows.{rest_of}

-- n bytes of a character are read: how many it has, if each further byte lies in its range;
-- else how many come before the byte that does not, or that is missing
abbrev pub follow : Row → ℕ → List ℕ → Result ℕ ℕ
follow [] n bs = Ok n
follow (range ∷ row) n [] = Err n
follow (range ∷ row) n (b ∷ bs) = cond (within range b) (follow row (suc n) bs) (Err n)

abbrev pub follow_row : Option Row → List ℕ → Result ℕ ℕ
follow_row None bs = Err 0
follow_row (Some row) bs = follow row 1 bs

-- the length of the character that these bytes begin with, or how many bytes come before the wrong one
unfoldable pub front : List Row → List ℕ → Result ℕ ℕ
front rows [] = Err 0
front rows (b ∷ bs) = follow_row (rest_of rows b) bs

-- a refusal's place, where the bytes that were read begin at p
abbrev pub placed : ℕ → Result ℕ ℕ → Result ℕ ℕ
placed p (Ok n) = Ok n
placed p (Err n) = Err (p + n)

-- the length of the character at this offset, or the offset of the byte that is wrong there;
-- that is the text's length where the text ends too early
unfoldable pub character_at : List Row → List ℕ → ℕ → Result ℕ ℕ
character_at rows bs offset = placed (min offset (length bs)) (front rows (drop offset bs))

abbrev pub grown : Result ℕ ℕ → List ℕ → (ℕ → List (List ℕ)) → List (List ℕ)
grown (Ok n) bs others = take n bs ∷ others n
grown (Err n) bs others = []

-- the characters after the first `skip` bytes
unfoldable pub characters_after : List Row → ℕ → List ℕ → List (List ℕ)
characters_after rows skip [] = []
characters_after rows (suc skip) (b ∷ bs) = characters_after rows skip bs
characters_after rows zero (b ∷ bs) = grown (front rows (b ∷ bs)) (b ∷ bs) (λ n. characters_after rows (pred n) bs)

-- the characters that stand one after another from the start, as far as the bytes are a text
abbrev pub characters : List Row → List ℕ → List (List ℕ)
characters rows bs = characters_after rows 0 bs

-- all characters together
abbrev pub together : List (List ℕ) → List ℕ
together cs = flat_map (λ c. c) cs

-- how many bytes those characters have
abbrev pub reach : List Row → List ℕ → ℕ
reach rows bs = length (together (characters rows bs))

-- how many characters the text has; where they do not reach its end, what is wrong with the next one
unfoldable pub counted : List Row → List ℕ → Result ℕ ℕ
counted rows bs = cond (reach rows bs == length bs) (Ok (length (characters rows bs))) (character_at rows bs (reach rows bs))

-- the offset and the length of character k of these
abbrev pub place_in : List (List ℕ) → ℕ → Option (ℕ × ℕ)
place_in cs k = cond (nat_lt k (length cs)) (Some (length (together (take k cs)), length (slice_index_or cs k []))) None

unfoldable pub located : List Row → List ℕ → ℕ → Option (ℕ × ℕ)
located rows bs k = place_in (characters rows bs) k

-- The row of a first byte.
use Rattle.std.specs.Prelude.{ℕ, suc, cond, List, [], ◌∷◌, length, Some, None, Option}
use Rattle.std.specs.Option.{option_map}
use Rattle.utf8.specs.declared.planes.Planes.{Planes}
use Rattle.utf8.specs.declared.planes.Planes.TheVariants.{All, Basic}
use Rattle.utf8.specs.Table.{Row, within, utf8_char, basic_char}

abbrev pub rows : Planes → List Row
rows All = utf8_char
rows Basic = basic_char

-- the ranges of the bytes that follow this first byte
abbrev pub rest_of : List Row → ℕ → Option Row
rest_of [] b = None
rest_of ([] ∷ rows) b = rest_of rows b
rest_of ((range ∷ row) ∷ rows) b = cond (within range b) (Some row) (rest_of rows b)

-- how many bytes a character has that begins with this byte
abbrev pub length_from : List Row → ℕ → Option ℕ
length_from rows b = option_map (λ row. suc (length row)) (rest_of rows b)

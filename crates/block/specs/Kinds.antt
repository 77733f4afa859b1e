-- The kinds of units.
use Rattle.std.specs.Prelude.{ℕ, Bool, true, false, codes}
use mathlib.Core.List as words
use Rattle.block.specs.declared.kind.Kind.{Kind}
use Rattle.block.specs.declared.kind.Kind.TheVariants.{Gc, Deleted, Json, Binary, Text, Embed, Format, List, Any, Doc, Skip}

-- the number that a store gives each kind
abbrev pub number_of : Kind → ℕ
number_of Gc = 0
number_of Deleted = 1
number_of Json = 2
number_of Binary = 3
number_of Text = 4
number_of Embed = 5
number_of Format = 6
number_of List = 7
number_of Any = 8
number_of Doc = 9
number_of Skip = 10

-- the kinds whose live units count towards the length of their list
abbrev pub is_counted : Kind → Bool
is_counted Gc = false
is_counted Deleted = false
is_counted Json = true
is_counted Binary = true
is_counted Text = true
is_counted Embed = true
is_counted Format = false
is_counted List = true
is_counted Any = true
is_counted Doc = true
is_counted Skip = false

-- the kind's name, for people
abbrev pub name_of : Kind → words.List ℕ
name_of Gc = codes "collected"
name_of Deleted = codes "deleted"
name_of Json = codes "JSON"
name_of Binary = codes "binary"
name_of Text = codes "text"
name_of Embed = codes "embed"
name_of Format = codes "format"
name_of List = codes "list"
name_of Any = codes "any"
name_of Doc = codes "document"
name_of Skip = codes "skip"

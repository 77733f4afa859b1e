-- What the kind of a run asks of its record.
use Rattle.std.specs.Prelude.{ℕ, Bool, true, false, cond, ◌==◌}
use Rattle.block.specs.declared.kind.Kind.{Kind}
use Rattle.block.specs.declared.kind.Kind.TheVariants.{Gc, Deleted, Json, Binary, Text, Embed, Format, List, Any, Doc, Skip}

-- the kind that a number stands for; numbers past all kinds are taken for the last
abbrev pub kind_of : ℕ → Kind
kind_of k = cond (k == 0) Gc (cond (k == 1) Deleted (cond (k == 2) Json (cond (k == 3) Binary (cond (k == 4) Text (cond (k == 5) Embed (cond (k == 6) Format (cond (k == 7) List (cond (k == 8) Any (cond (k == 9) Doc Skip)))))))))

-- collected and skipped runs belong to no list
abbrev pub stands_apart : Kind → Bool
stands_apart Gc = true
stands_apart Deleted = false
stands_apart Json = false
stands_apart Binary = false
stands_apart Text = false
stands_apart Embed = false
stands_apart Format = false
stands_apart List = false
stands_apart Any = false
stands_apart Doc = false
stands_apart Skip = true

-- a run of this kind has one unit
abbrev pub is_single : Kind → Bool
is_single Gc = false
is_single Deleted = false
is_single Json = false
is_single Binary = true
is_single Text = false
is_single Embed = true
is_single Format = true
is_single List = true
is_single Any = false
is_single Doc = true
is_single Skip = false

-- how many entries of the content a run of this kind and length has
abbrev pub entries_of : Kind → ℕ → ℕ
entries_of Gc n = 0
entries_of Deleted n = 0
entries_of Json n = n
entries_of Binary n = 1
entries_of Text n = 1
entries_of Embed n = 1
entries_of Format n = 1
entries_of List n = 0
entries_of Any n = n
entries_of Doc n = 1
entries_of Skip n = 0

-- What examined tables mean: each list's runs from left to right, unit by unit.
use Rattle.std.specs.Prelude.{ℕ, zero, suc, ◌+◌, List, [], ◌++◌, map, length, Some, None, Option, ◌==◌, slice_index_or}
use Rattle.std.specs.List.{find, range_with_len}
use Rattle.std.specs.Option.{option_map, unwrap_or}
use Rattle.block.specs.Units.{Meaning, Stretch, UnitOf, Worth, bytes, nested}
use Rattle.block.specs.declared.ids.Id.{Id}
use Rattle.block.specs.declared.kind.Kind.{Kind}
use Rattle.block.specs.declared.kind.Kind.TheVariants as kinds
use Rattle.store.specs.declared.records.ClientRecord.{ClientRecord}
use Rattle.store.specs.declared.records.RunRecord.{RunRecord}
use Rattle.store.specs.First.{first_bad, failing}
use Rattle.store.specs.Kinds.{kind_of}
use Rattle.store.specs.Records.{Store, run_at, list_at, entry_at, bytes_of}
use Rattle.links.specs.Links.{held_by_at}
use Rattle.utf8.specs.Reading.{characters}
use Rattle.utf8.specs.Table.{utf8_char}

-- the list that a unit holds
abbrev pub list_held : Store → Id → ℕ
list_held s id = unwrap_or (first_bad (failing (held_by_at s id)) (length s.lists)) 0

-- the bytes of an entry, and of a character of one
abbrev pub entry_worth : Store → ℕ → Worth
entry_worth s e = bytes (bytes_of s (entry_at s e))

-- character k of an entry
abbrev pub character_worth : Store → ℕ → ℕ → Worth
character_worth s e k = bytes (slice_index_or (characters utf8_char (bytes_of s (entry_at s e))) k [])

-- what unit k of a run is worth: JSON and any have an entry a unit, text a character, a list the list that it holds
abbrev pub worth_of : Store → Kind → RunRecord → ℕ → Worth
worth_of s kinds.Gc r k = bytes []
worth_of s kinds.Deleted r k = bytes []
worth_of s kinds.Json r k = entry_worth s (r.entry + k)
worth_of s kinds.Binary r k = entry_worth s r.entry
worth_of s kinds.Text r k = character_worth s r.entry k
worth_of s kinds.Embed r k = entry_worth s r.entry
worth_of s kinds.Format r k = entry_worth s r.entry
worth_of s kinds.List r k = nested (list_held s r.id)
worth_of s kinds.Any r k = entry_worth s (r.entry + k)
worth_of s kinds.Doc r k = entry_worth s r.entry
worth_of s kinds.Skip r k = bytes []

-- unit k of a run
abbrev pub unit_of : Store → RunRecord → ℕ → UnitOf
unit_of s r k = record { id = record { client = r.id.client; clock = r.id.clock + k }; kind = kind_of r.kind; live = r.live; worth = worth_of s (kind_of r.kind) r k; redone = r.redone }

-- the units of a run
abbrev pub units_of : Store → RunRecord → List UnitOf
units_of s r = map (unit_of s r) (range_with_len 0 r.len)

-- the units from a run on, by a walk to the right of so many runs at most
unfoldable pub spell : Store → Option ℕ → ℕ → List UnitOf
spell s None n = []
spell s (Some i) zero = []
spell s (Some i) (suc n) = units_of s (run_at s i) ++ spell s (run_at s i).right n

-- the units of a list
abbrev pub units_in : Store → ℕ → List UnitOf
units_in s l = spell s (list_at s l).start (suc (length s.runs))

-- the known clock of a client: that of its record, else 0
unfoldable pub clock_in : List ClientRecord → ℕ → ℕ
clock_in rs c = unwrap_or (option_map (λ (r : ClientRecord). r.known) (find (λ (r : ClientRecord). r.client == c) rs)) 0

-- what the tables mean
abbrev pub meaning_of : Store → Meaning
meaning_of s = record { lists = length s.lists; units = units_in s; holder = λ l. (list_at s l).holder; known = clock_in s.clients }

-- so many more, if there is a number
abbrev pub plus : ℕ → Option ℕ → Option ℕ
plus k None = None
plus k (Some x) = Some (x + k)

-- how many units stand up to a run and with it, by a walk to the left of so many runs at most
unfoldable pub upto : Store → Option ℕ → ℕ → Option ℕ
upto s None n = Some 0
upto s (Some j) zero = None
upto s (Some j) (suc n) = plus (run_at s j).len (upto s (run_at s j).left n)

-- how many units stand left of a run in its list
abbrev pub offset : Store → ℕ → Option ℕ
offset s i = upto s (run_at s i).left (length s.runs)

-- a stretch, where the list and the offset are known
abbrev pub stretched : Option ℕ → Option ℕ → ℕ → Option Stretch
stretched (Some l) (Some x) n = Some (record { list = l; from = x; count = n })
stretched (Some l) None n = None
stretched None o n = None

-- the stretch of the run with a number; a run past those in use has no list
abbrev pub stretch_of : Store → ℕ → Option Stretch
stretch_of s i = stretched (run_at s i).list (offset s i) (run_at s i).len

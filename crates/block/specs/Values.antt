-- What a unit shows a reader: its kind and what it is worth.
use Rattle.std.specs.Prelude.{ℕ, Some, None, Option}
use mathlib.Core.List as words
use Rattle.block.specs.declared.kind.Kind.{Kind}
use Rattle.block.specs.declared.kind.Kind.TheVariants as kinds
use Rattle.block.specs.declared.slot.Value.{Value}
use Rattle.block.specs.declared.slot.Value.TheVariants as values
use Rattle.block.specs.Units.{UnitOf, Worth, bytes, nested}

abbrev pub facet : UnitOf → Kind × Worth
facet u = (u.kind, u.worth)

abbrev pub face : Value → Kind × Worth
face (values.Json b) = (kinds.Json, bytes b.now)
face (values.Binary b) = (kinds.Binary, bytes b.now)
face (values.Text b) = (kinds.Text, bytes b.now)
face (values.Embed b) = (kinds.Embed, bytes b.now)
face (values.Any b) = (kinds.Any, bytes b.now)
face (values.Doc b) = (kinds.Doc, bytes b.now)
face (values.List l) = (kinds.List, nested l)

-- bytes as a value of a kind; none for a kind that has no bytes
abbrev pub part_of : Kind → words.List ℕ → Option (Kind × Worth)
part_of kinds.Gc b = None
part_of kinds.Deleted b = None
part_of kinds.Json b = Some (kinds.Json, bytes b)
part_of kinds.Binary b = Some (kinds.Binary, bytes b)
part_of kinds.Text b = Some (kinds.Text, bytes b)
part_of kinds.Embed b = Some (kinds.Embed, bytes b)
part_of kinds.Format b = None
part_of kinds.List b = None
part_of kinds.Any b = Some (kinds.Any, bytes b)
part_of kinds.Doc b = Some (kinds.Doc, bytes b)
part_of kinds.Skip b = None

-- Where a unit stands among others of its client, and how its id is written.
use Rattle.std.specs.Prelude.{ℕ, ◌+◌, ◌-◌, cond, ◌&&◌, List, ◌++◌, Some, None, Option, ◌==◌, nat_le, nat_lt, codes}
use Rattle.std.specs.Fmt.{decimal}
use Rattle.block.specs.declared.ids.Id.{Id}

-- how far a unit stands behind the first of n units of one client with consecutive clocks; none if it is not one of them
abbrev pub offset_in : Id → Id → ℕ → Option ℕ
offset_in id first n = cond (first.client == id.client && (nat_le first.clock id.clock && nat_lt id.clock (first.clock + n))) (Some (id.clock - first.clock)) None

-- an id, for people: its client and its clock
abbrev pub id_text : Id → List ℕ
id_text id = decimal id.client ++ (codes ":" ++ decimal id.clock)

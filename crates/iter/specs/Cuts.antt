-- Parts of a run: which there are, and which units they have.
use Rattle.std.specs.Prelude.{ℕ, ◌+◌, ◌^◌, Bool, ◌&&◌, ◌==◌, nat_le, nat_lt}
use Rattle.block.specs.declared.ids.Id.{Id}
use Rattle.reader.specs.declared.reader.Description.{Description}

-- the units from one offset to another, both included, are a part of a run whose clocks fit 32 bits
abbrev pub is_part : Description → ℕ → ℕ → Bool
is_part run start end = nat_le start end && (nat_lt end run.len && nat_le (run.id.clock + run.len) (2 ^ 32))

-- the id of the unit at an offset of a run
abbrev pub id_in : Description → ℕ → Id
id_in run k = record { client = run.id.client; clock = run.id.clock + k }

-- the unit with this id stands in the run from one offset to another, both included
abbrev pub has_id : Description → ℕ → ℕ → Id → Bool
has_id run start end id = run.id.client == id.client && (nat_le (run.id.clock + start) id.clock && nat_le id.clock (run.id.clock + end))

-- Whether records agree with one another.
use Rattle.std.specs.Prelude.{ℕ, Bool, true, false, cond, ◌&&◌, length, Some, None, Option, ◌==◌}
use Rattle.block.specs.Lookup.{same_id}
use Rattle.block.specs.declared.ids.Id.{Id}
use Rattle.store.specs.declared.records.ClientRecord.{ClientRecord}
use Rattle.store.specs.declared.records.RunRecord.{RunRecord}
use Rattle.store.specs.First.{some_pass, passing}
use Rattle.store.specs.Records.{Store, run_at, list_at, client_at}
use Rattle.links.specs.Lengths.{visible_sum, last_end}
use Rattle.links.specs.Walks.{left_agrees, right_agrees, is_reached, start_agrees}

-- a run of kind 7, whose unit holds a list
abbrev pub is_list : RunRecord → Bool
is_list r = r.kind == 7

-- this id and no other
abbrev pub is_id : Option Id → Id → Bool
is_id None id = false
is_id (Some h) id = same_id h id

-- the list is held by this unit
abbrev pub held_by_at : Store → Id → ℕ → Bool
held_by_at s id l = is_id (list_at s l).holder id

-- a unit of kind 7 holds just one list
abbrev pub holds_one : Store → RunRecord → Bool
holds_one s r = cond (is_list r) (passing (held_by_at s r.id) (length s.lists) == 1) true

-- client record i is of this client
abbrev pub is_client_at : Store → ℕ → ℕ → Bool
is_client_at s c i = (client_at s i).client == c

-- the client of a run has a record
abbrev pub is_recorded : Store → ℕ → Bool
is_recorded s c = some_pass (is_client_at s c) (length s.clients)

-- run i agrees with its neighbours, its list, the list that it holds and its client
abbrev pub run_agrees_at : Store → ℕ → Bool
run_agrees_at s i = left_agrees s i (run_at s i).left && (right_agrees s i (run_at s i).right && (is_reached s i (run_at s i).list && (holds_one s (run_at s i) && is_recorded s (run_at s i).id.client)))

-- the run is the unit of kind 7 with this id
abbrev pub is_holder : RunRecord → Id → Bool
is_holder r h = is_list r && same_id r.id h

-- run i is that unit
abbrev pub is_holder_at : Store → Id → ℕ → Bool
is_holder_at s h i = is_holder (run_at s i) h

-- a list's holder is a unit of kind 7
abbrev pub holder_agrees : Store → Option Id → Bool
holder_agrees s None = true
holder_agrees s (Some h) = some_pass (is_holder_at s h) (length s.runs)

-- list l agrees with its start, its holder and its runs
abbrev pub list_agrees_at : Store → ℕ → Bool
list_agrees_at s l = start_agrees s l (list_at s l).start && (holder_agrees s (list_at s l).holder && (list_at s l).len == visible_sum s l (length s.runs))

-- a known clock is the end of the client's last run, 0 without runs
abbrev pub client_agrees : Store → ClientRecord → Bool
client_agrees s c = c.known == last_end s c.client (length s.runs)

-- the same of client record i
abbrev pub client_agrees_at : Store → ℕ → Bool
client_agrees_at s i = client_agrees s (client_at s i)

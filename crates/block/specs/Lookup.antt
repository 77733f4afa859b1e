-- Where a document has the unit with an id.
use Rattle.std.specs.Prelude.{ℕ, zero, suc, Bool, true, false, cond, not, ◌&&◌, List, [], ◌∷◌, is_some, Some, None, Option, ◌==◌}
use Rattle.block.specs.declared.ids.Id.{Id}
use Rattle.block.specs.Units.{Meaning, UnitOf, unit_at}

abbrev pub same_id : Id → Id → Bool
same_id a b = a.client == b.client && a.clock == b.clock

abbrev pub one_on : Option ℕ → Option ℕ
one_on None = None
one_on (Some i) = Some (suc i)

-- the index of the first unit with this id
abbrev pub index_of : Id → List UnitOf → Option ℕ
index_of id [] = None
index_of id (u ∷ us) = cond (same_id u.id id) (Some 0) (one_on (index_of id us))

abbrev pub or_below : ℕ → Option ℕ → Option (ℕ × ℕ) → Option (ℕ × ℕ)
or_below l None r = r
or_below l (Some i) r = Some (l, i)

-- the list and the index of the unit with this id, among the first n lists
abbrev pub found_below : Meaning → Id → ℕ → Option (ℕ × ℕ)
found_below m id zero = None
found_below m id (suc l) = or_below l (index_of id (m.units l)) (found_below m id l)

abbrev pub where_is : Meaning → Id → Option (ℕ × ℕ)
where_is m id = found_below m id m.lists

abbrev pub redone_at : Meaning → Option (ℕ × ℕ) → Option Id
redone_at m None = None
redone_at m (Some at) = (unit_at m at.0 at.1).redone

-- the successor of the unit with this id, if it stands in a list and has one
abbrev pub redone_of : Meaning → Id → Option Id
redone_of m id = redone_at m (where_is m id)

abbrev pub live_at : Meaning → Option (ℕ × ℕ) → Bool
live_at m None = false
live_at m (Some at) = (unit_at m at.0 at.1).live

abbrev pub held_up : Meaning → Option Id → Bool
held_up m None = true
held_up m (Some h) = live_at m (where_is m h)

-- the list is a root, or its holder is a listed unit that lives
abbrev pub upheld : Meaning → ℕ → Bool
upheld m l = held_up m (m.holder l)

-- there is no holder, or it has no successor
abbrev pub not_redone : Meaning → Option Id → Bool
not_redone m None = true
not_redone m (Some h) = not (is_some (redone_of m h))

-- the list is upheld, and its holder has no successor
abbrev pub standing : Meaning → ℕ → Bool
standing m l = upheld m l && not_redone m (m.holder l)

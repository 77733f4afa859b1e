-- Walks counted in steps, and a record that is put into a chain.
use Rattle.std.specs.Prelude.{◌≡◌, ℕ, zero, suc, ◌<◌, ◌≤◌, List, [], ◌++◌, length, Some, None, Option, ◌≢◌}
use Rattle.block.specs.Units.{UnitOf}
use Rattle.store.specs.Records.{Store, run_at, list_at}
use Rattle.document.specs.Meaning.{units_of}

-- the walk to the left ends after just so many steps
unfoldable pub Ends : Store → Option ℕ → ℕ → Type 0
Ends d None zero = Unit {0}
Ends d None (suc k) = ⊥
Ends d (Some j) zero = ⊥
Ends d (Some j) (suc k) = Ends d (run_at d j).left k

-- what is spelled up to a run and with it, by a walk to the left
unfoldable pub spell_left : Store → Option ℕ → ℕ → List UnitOf
spell_left d None k = []
spell_left d (Some j) zero = []
spell_left d (Some j) (suc k) = spell_left d (run_at d j).left k ++ units_of d (run_at d j)

-- what stands right of a place in list l: of a run, or of the list's left end
abbrev pub next : Store → ℕ → Option ℕ → Option ℕ
next d l None = (list_at d l).start
next d l (Some p) = (run_at d p).right

-- none, or a run of list l
abbrev pub InList : Store → ℕ → Option ℕ → Type 0
InList d l o = (i : ℕ) → o ≡ Some i → (i < length d.runs) × ((run_at d i).list ≡ Some l)

-- a new last record is put into list l, right of p and left of q; of the other records the links that do not meet it stay
pub record Inserted (d d' : Store) (l : ℕ) (p q : Option ℕ) : Type 0 where
  pub long : length d'.runs ≡ suc (length d.runs)
  pub taller : length d.lists ≤ length d'.lists
  pub of_list : l < length d.lists
  pub place : InList d l p
  pub follower : q ≡ next d l p
  pub lists : (i : ℕ) → i < length d.runs → (run_at d' i).list ≡ (run_at d i).list
  pub left_there : (i : ℕ) → q ≡ Some i → (run_at d' i).left ≡ Some (length d.runs)
  pub left_else : (i : ℕ) → i < length d.runs → (q ≢ Some i) → (run_at d' i).left ≡ (run_at d i).left
  pub right_there : (i : ℕ) → p ≡ Some i → (run_at d' i).right ≡ Some (length d.runs)
  pub right_else : (i : ℕ) → i < length d.runs → (p ≢ Some i) → (run_at d' i).right ≡ (run_at d i).right
  pub start_there : p ≡ None → (list_at d' l).start ≡ Some (length d.runs)
  pub start_else : (k : ℕ) → ((p ≡ None) × (k ≡ l) → ⊥) → (list_at d' k).start ≡ (list_at d k).start
  pub new_left : (run_at d' (length d.runs)).left ≡ p
  pub new_right : (run_at d' (length d.runs)).right ≡ q
  pub new_list : (run_at d' (length d.runs)).list ≡ Some l

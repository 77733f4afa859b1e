-- A run's record that is put between two others.
use Rattle.std.specs.Prelude.{◌≡◌, ℕ, ◌<◌, List, [], ◌∷◌, ◌++◌, length, Some, None, Option, slice_index_or, slice_set}
use Rattle.store.specs.declared.records.RunRecord.{RunRecord}
use Rattle.store.specs.Records.{no_run}

-- one record changed, if there is one
abbrev pub at : (RunRecord → RunRecord) → List RunRecord → Option ℕ → List RunRecord
at f rs None = rs
at f rs (Some i) = slice_set rs i (f (slice_index_or rs i no_run))

-- a run whose right neighbour is run n
abbrev pub rightward : ℕ → RunRecord → RunRecord
rightward n r = record r { right = Some n }

-- a run whose left neighbour is run n
abbrev pub leftward : ℕ → RunRecord → RunRecord
leftward n r = record r { left = Some n }

-- record n is this run, and the runs p and q name it as their neighbour
abbrev pub joined : List RunRecord → ℕ → RunRecord → Option ℕ → Option ℕ → List RunRecord
joined rs n r p q = at (leftward n) (at (rightward n) (slice_set rs n r) p) q

-- a new last record between the runs p and q
abbrev pub appended : List RunRecord → RunRecord → Option ℕ → Option ℕ → List RunRecord
appended rs r p q = at (leftward (length rs)) (at (rightward (length rs)) (rs ++ (r ∷ [])) p) q

-- none, or a number below n
abbrev pub Below : Option ℕ → ℕ → Type 0
Below o n = (i : ℕ) → o ≡ Some i → i < n

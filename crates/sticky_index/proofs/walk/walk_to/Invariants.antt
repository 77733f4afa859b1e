use Rattle.std.proofs.Common.{◌≡◌, ℕ, ◌+◌}
use Rattle.reader.specs.Answers.{Onward}
use Rattle.sticky_index.specs.Marks.{last_id}
use Rattle.sticky_index.proofs.Counts.{count}
use Rattle.sticky_index.proofs.Walks.{to_go}
use Rattle.sticky_index.proofs.walk.walk_to.Given as goal

abbrev pub invariant-loop-at : goal.invariant-loop-at
invariant-loop-at g l =
    let m = g.R.Reader.meaning l.reader in
    let st = g.R.Reader.stretch l.reader in
    (k : ℕ) → Onward m st k 0 l.initial.at → (e : ℕ) × Onward m st k e l.at × (count m k e + l.left ≡ l.initial.left) × (l.last ≡ last_id (m.units k) e)

abbrev pub decreases-loop-at : goal.decreases-loop-at
decreases-loop-at g l = to_go (g.R.Reader.meaning l.reader) (g.R.Reader.stretch l.reader) (g.R.Reader.lawful l.reader) (g.R.Reader.settled l.reader) l.at

use Rattle.std.proofs.Common.{◌≡◌, ℕ, ◌+◌}
use Rattle.reader.specs.Answers.{Backward}
use Rattle.sticky_index.proofs.Counts.{count, to_start}
use Rattle.sticky_index.proofs.count.visible_before.Given as goal

abbrev pub invariant-loop-at : goal.invariant-loop-at
invariant-loop-at g l =
    let m = g.R.Reader.meaning l.reader in
    let st = g.R.Reader.stretch l.reader in
    (k f : ℕ) → Backward st k f l.initial.at → (e : ℕ) × Backward st k e l.at × (l.n + count m k e ≡ count m k f)

abbrev pub decreases-loop-at : goal.decreases-loop-at
decreases-loop-at g l = to_start (g.R.Reader.meaning l.reader) (g.R.Reader.stretch l.reader) (g.R.Reader.settled l.reader) l.at

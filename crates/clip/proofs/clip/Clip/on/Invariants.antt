use Rattle.std.proofs.Common.{◌≡◌, ℕ}
use Rattle.clip.specs.Made.{limit_of}
use Rattle.clip.specs.Clipped.{place_of}
use Rattle.clip.specs.Walks.{Beside}
use Rattle.clip.proofs.Measures.{to_go}
use Rattle.clip.proofs.clip.Clip.on.Given as goal

abbrev pub invariant-loop-at : goal.invariant-loop-at
invariant-loop-at g l =
    let m = g.R.Reader.meaning l.self.below in
    let st = g.R.Reader.stretch l.self.below in
    (i e : ℕ) → Beside l.way m st i e l.initial.at → (f : ℕ) × Beside l.way m st i f l.at × (place_of (limit_of l.self.pairs) m i f ≡ place_of (limit_of l.self.pairs) m i e)

abbrev pub decreases-loop-at : goal.decreases-loop-at
decreases-loop-at g l = to_go l.way (g.R.Reader.meaning l.self.below) (g.R.Reader.stretch l.self.below) l.at

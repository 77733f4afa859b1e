use Rattle.std.proofs.Common.{◌≡◌, ℕ}
use Rattle.clip.specs.declared.walk.Way.TheVariants as ways
use Rattle.clip.specs.Made.{limit_of}
use Rattle.reader.specs.Answers.{Onward}
use Rattle.clip.proofs.Measures.{to_go}
use Rattle.clip.proofs.Counts.{counted}
use Rattle.clip.proofs.clip.Clip.counted.Given as goal

abbrev pub invariant-loop-at : goal.invariant-loop-at
invariant-loop-at g l =
    let m = g.R.Reader.meaning l.self.below in
    (e : ℕ) × Onward m (g.R.Reader.stretch l.self.below) l.list e l.at × (l.n ≡ counted (limit_of l.self.pairs) m l.list e)

abbrev pub decreases-loop-at : goal.decreases-loop-at
decreases-loop-at g l = to_go ways.Right (g.R.Reader.meaning l.self.below) (g.R.Reader.stretch l.self.below) l.at

use Rattle.clip.specs.Made.{limit_of}
use Rattle.clip.proofs.Walking.{on_first}
use Rattle.clip.proofs.answers.ClipReader.first.Goals as goal

pub returns : goal.returns
returns g c =
    let s = c.args.self.now in
    on_first (limit_of s.pairs) (g.R.Reader.meaning s.below) (g.R.Reader.stretch s.below) (g.R.Reader.settled s.below) (g.R.Reader.layers s.below) c.args.list c.first.result c.map_err.result c.in_ok-start.start c.on.result _ c.first.ensures c.map_err.ensures.cases c.in_ok-start.was c.on.ensures

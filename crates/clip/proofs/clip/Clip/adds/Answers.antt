use Rattle.std.proofs.Common.{rules}
use Rattle.clip.specs.Made.{limit_of}
use Rattle.clip.proofs.Counts.{adds}
use Rattle.clip.proofs.clip.Clip.adds.Goals as goal

pub returns : goal.returns
returns g c =
    let s = c.args.self.now in
    adds (limit_of s.pairs) (g.R.Reader.meaning s.below) (g.R.Reader.stretch s.below c.args.place) c.said.result c.map_or.result (g.R.Reader.settled s.below c.args.place) c.said.ensures (search rules)

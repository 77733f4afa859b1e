use Rattle.std.proofs.Common.{rules}
use Rattle.clip.specs.Made.{limit_of}
use Rattle.clip.proofs.Finding.{found}
use Rattle.clip.proofs.answers.ClipReader.find.Goals as goal

pub returns : goal.returns
returns g c =
    let s = c.args.self.now in
    found (limit_of s.pairs) (g.R.Reader.meaning s.below) (g.R.Reader.stretch s.below) (g.R.Reader.settled s.below) c.args.id c.find.result c.filter.result c.find.ensures (search rules)

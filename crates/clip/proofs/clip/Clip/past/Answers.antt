use Rattle.std.proofs.Common.{sym, ◌∙◌}
use Rattle.clip.specs.Made.{limit_of}
use Rattle.clip.proofs.Walking.{walk_past}
use Rattle.clip.proofs.clip.Clip.past.Goals as goal

pub returns : goal.returns
returns g c =
    let s = c.args.self.now in
    walk_past (limit_of s.pairs) (g.R.Reader.meaning s.below) (g.R.Reader.stretch s.below) (g.R.Reader.settled s.below) c.args.way c.args.place c.next_to.result c.on.result (sym c.shows.ensures ∙ c.if-not-shows.false) c.next_to.ensures c.on.ensures

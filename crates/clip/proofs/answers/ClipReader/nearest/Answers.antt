use Rattle.std.proofs.Common.{rules, ◌<◌, ◌≤◌, subst}
use Rattle.clip.specs.Made.{limit_of}
use Rattle.clip.proofs.Nearing.{nearest_past, nearest}
use Rattle.clip.proofs.answers.ClipReader.nearest.Goals as goal

pub returns-then-limit-clock : goal.returns-then-limit-clock
returns-then-limit-clock g c =
    let s = c.args.self.now in
    nearest_past (limit_of s.pairs) (g.R.Reader.meaning s.below) (g.R.Reader.stretch s.below) (g.R.Reader.settled s.below) c.args.client c.args.clock (subst (λ x. x ≤ c.args.clock) c.limit.ensures c.if-limit-clock.true)

pub returns : goal.returns
returns g c =
    let s = c.args.self.now in
    nearest (limit_of s.pairs) (g.R.Reader.meaning s.below) (g.R.Reader.stretch s.below) (g.R.Reader.settled s.below) c.args.client c.args.clock c.nearest.result c.filter.result (subst (λ x. c.args.clock < x) c.limit.ensures c.if-limit-clock.false) c.nearest.ensures (search rules)

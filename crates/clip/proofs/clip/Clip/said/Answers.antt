use Rattle.std.proofs.Common.{◌≡◌, ◌-◌, ◌<◌, min, Some, sym, ap, ◌∙◌, subst}
use Rattle.reader.specs.Answers.{Described}
use Rattle.clip.specs.Made.{limit_of}
use Rattle.clip.specs.Clipped.{clipped, cut}
use Rattle.clip.proofs.Saying.{said_some}
use Rattle.clip.proofs.clip.Clip.said.Goals as goal

pub returns : goal.returns
returns g c =
    let s = c.args.self.now in
    let m = g.R.Reader.meaning s.below in
    let limit = limit_of s.pairs in
    let run = c.in_ok-run.run' in
    let len : min run.len (limit run.id.client - run.id.clock) ≡ c.min-len.result = ap (λ x. min run.len (x - run.id.clock)) (sym c.limit-limit.ensures) ∙ sym c.min-len.ensures in
    subst (λ n. Described (clipped limit m) (cut limit m (g.R.Reader.stretch s.below c.args.place)) (Some (record { id = run.id; len = n; kind = run.kind; live = run.live; list = run.list; redone = run.redone }))) len
    (said_some limit m (g.R.Reader.stretch s.below c.args.place) run (g.R.Reader.settled s.below c.args.place) c.in_ok-run.ensures (subst (λ x. run.id.clock < x) c.limit-limit.ensures c.if-limit-run.false))

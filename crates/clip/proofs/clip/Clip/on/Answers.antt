use Rattle.std.proofs.Common.{Some, sym, ◌∙◌, subst}
use Rattle.clip.specs.Made.{limit_of}
use Rattle.clip.specs.Clipped.{clipped, cut}
use Rattle.clip.specs.Walks.{Beside}
use Rattle.clip.proofs.Walking.{walk_found, walk_hidden}
use Rattle.clip.proofs.clip.Clip.on.Goals as goal

pub returns-then-shows : goal.returns-then-shows
returns-then-shows g c = λ l e o.
    let s = c.args.self.now in
    let m = g.R.Reader.meaning s.below in
    let st = g.R.Reader.stretch s.below in
    let k = c.loop-at.invariant l e o in
    let b = subst (Beside c.args.way m st l k.0) c.in-Some.is k.1 in
    subst (λ x. Beside c.args.way (clipped (limit_of s.pairs) m) (λ q. cut (limit_of s.pairs) m (st q)) l x (Some c.in-Some.p)) k.2
    (walk_found (limit_of s.pairs) m st (g.R.Reader.settled s.below) c.args.way c.in-Some.p l k.0 b (sym c.if-shows.ensures))

pub loop-at-preserved : goal.loop-at-preserved
loop-at-preserved g c = λ l e o.
    let s = c.args.self.now in
    let m = g.R.Reader.meaning s.below in
    let st = g.R.Reader.stretch s.below in
    let k = c.loop-at.invariant l e o in
    let b = subst (Beside c.args.way m st l k.0) c.in-Some.is k.1 in
    let n = walk_hidden (limit_of s.pairs) m st (g.R.Reader.settled s.below) c.args.way c.in-Some.p l k.0 c.next_to-at.result b (sym c.if-shows.ensures) c.next_to-at.ensures in
    (n.0, n.1, n.2 ∙ k.2)

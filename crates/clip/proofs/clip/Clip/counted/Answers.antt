use Rattle.std.proofs.Common.{◌+◌, ◌<◌, sym, refl, ap, ◌∙◌, subst, arith}
use Rattle.clip.specs.declared.walk.Way.TheVariants as ways
use Rattle.clip.specs.Made.{limit_of}
use Rattle.reader.specs.Answers.{Onward}
use Rattle.clip.proofs.Measures.{to_go}
use Rattle.clip.proofs.Walking.{on_less, first_ok}
use Rattle.clip.proofs.Counts.{counted_all, count_fits, count_step}
use Rattle.clip.proofs.clip.Clip.counted.Goals as goal

pub loop-at-init : goal.loop-at-init
loop-at-init g c =
    let s = c.args.self.now in
    let f = first_ok (g.R.Reader.meaning s.below) (g.R.Reader.stretch s.below) (g.R.Reader.layers s.below) c.args.list c.first.result c.map_err.result c.in_ok-at.at _ c.first.ensures c.map_err.ensures.cases c.in_ok-at.was in
    (0, f.1, refl)

pub overflow_add-n : goal.overflow_add-n
overflow_add-n g c =
    let s = c.args.self.now in
    let m = g.R.Reader.meaning s.below in
    let st = g.R.Reader.stretch s.below in
    let k = c.loop-at.invariant in
    let b = subst (Onward m st c.args.list k.0) c.in-Some.is k.1 in
    let f = count_fits (limit_of s.pairs) m st (g.R.Reader.settled s.below) c.in-Some.p c.args.list k.0 c.loop-at.n b k.2 in
    omega (arith, f, c.adds-n.ensures, (g.R.Reader.lawful s.below).few c.args.list)

pub loop-at-smaller : goal.loop-at-smaller
loop-at-smaller g c =
    let s = c.args.self.now in
    let m = g.R.Reader.meaning s.below in
    let st = g.R.Reader.stretch s.below in
    subst (λ x. to_go ways.Right m st c.right-at.result < to_go ways.Right m st x) (sym c.in-Some.is)
    (on_less (limit_of s.pairs) m st (g.R.Reader.settled s.below) c.in-Some.p c.right-at.result c.right-at.ensures)

pub loop-at-preserved : goal.loop-at-preserved
loop-at-preserved g c =
    let s = c.args.self.now in
    let m = g.R.Reader.meaning s.below in
    let st = g.R.Reader.stretch s.below in
    let k = c.loop-at.invariant in
    let b = subst (Onward m st c.args.list k.0) c.in-Some.is k.1 in
    let n = count_step (limit_of s.pairs) m st (g.R.Reader.settled s.below) c.in-Some.p c.args.list k.0 c.loop-at.n c.right-at.result b k.2 c.right-at.ensures in
    (n.0, n.1, ap (λ x. c.loop-at.n + x) c.adds-n.ensures ∙ n.2)

pub returns : goal.returns
returns g c =
    let s = c.args.self.now in
    let m = g.R.Reader.meaning s.below in
    let st = g.R.Reader.stretch s.below in
    let k = c.loop-at.invariant in
    let b = subst (Onward m st c.args.list k.0) c.in_default.is k.1 in
    let f = first_ok m st (g.R.Reader.layers s.below) c.args.list c.first.result c.map_err.result c.in_ok-at.at _ c.first.ensures c.map_err.ensures.cases c.in_ok-at.was in
    (f.0, k.2 ∙ counted_all (limit_of s.pairs) m c.args.list k.0 b)

use Rattle.std.proofs.Common.{◌≡◌, ◌+◌, ap, ◌∙◌, subst, arith}
use Rattle.reader.specs.Answers.{Backward}
use Rattle.sticky_index.proofs.Counts.{count, count_fits, back_step, back_fits}
use Rattle.sticky_index.proofs.count.visible_before.Goals as goal

pub loop-at-init : goal.loop-at-init
loop-at-init g c k f b = (f, b, omega arith)

pub overflow_add-n : goal.overflow_add-n
overflow_add-n g c =
    let s = c.args.reader.now in
    let m = g.R.Reader.meaning s in
    let st = g.R.Reader.stretch s in
    let law = g.R.Reader.lawful s in
    let t = c.requires.0 in
    let k = c.loop-at.invariant t.list t.from (c.left-at.ensures.1 t c.requires.1) in
    let b = subst (Backward st t.list k.0) c.in-Some.is k.1 in
    let w = back_fits m st (g.R.Reader.settled s) c.in-Some.p t.list k.0 c.loop-at.n _ b k.2 in
    let run = g.R.Reader.settled s c.args.place t c.requires.1 in
    let fits = count_fits m law t.list t.from (omega (arith, run.within)) in
    let few = law.few t.list in
    omega (arith, c.visible_at-n.ensures, w)

pub loop-at-preserved : goal.loop-at-preserved
loop-at-preserved g c k f b0 =
    let s = c.args.reader.now in
    let m = g.R.Reader.meaning s in
    let st = g.R.Reader.stretch s in
    let i = c.loop-at.invariant k f b0 in
    let b = subst (Backward st k i.0) c.in-Some.is i.1 in
    let w = back_step m st (g.R.Reader.settled s) c.in-Some.p k i.0 c.loop-at.n _ _ b i.2 c.left-at-in-Some.ensures in
    (w.0, w.1, ap (λ x. (c.loop-at.n + x) + count m k w.0) c.visible_at-n.ensures ∙ w.2)

pub returns : goal.returns
returns g c t e =
    let s = c.args.reader.now in
    let m = g.R.Reader.meaning s in
    let st = g.R.Reader.stretch s in
    let i = c.loop-at.invariant t.list t.from (c.left-at.ensures.1 t e) in
    let z : i.0 ≡ 0 = subst (Backward st t.list i.0) c.in_default.is i.1 in
    let n : count m t.list i.0 ≡ 0 = ap (count m t.list) z in
    omega (arith, i.2, n)

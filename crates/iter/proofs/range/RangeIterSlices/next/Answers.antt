use Rattle.std.proofs.Common.{Ok, Err, sym, ap, ◌∙◌, subst, arith, rules}
use Rattle.std.proofs.lemmas.Result.{err_from_is_err_and}
use Rattle.iter.specs.Steps.{Told, Coming}
use Rattle.iter.proofs.Passes.{told_closed, told_out, passed, told_some, told_err}
use Rattle.iter.proofs.range.RangeIterSlices.next.Goals as goal

pub loop-self-preserved : goal.loop-self-preserved
loop-self-preserved g c =
    let (fewer, inv) = c.loop-self.invariant in
    let kept = c.meet.ensures.kept in
    let left = ap g.S.Source.left kept in
    (omega (arith, c.in-Some.ensures.nearer), passed g.S.Source.ahead c.args.self.now c.loop-self.self c.meet.new.self c.next.new.self c.in-Some.run' c.meet.result inv c.in-Some.ensures.taken kept c.meet.ensures.answers (c.in_ok-slice.was ∙ ap Ok c.in_default-2.is))

pub returns-in-Some-2-clause-told : goal.returns-in-Some-2-clause-told
returns-in-Some-2-clause-told g c =
    told_some g.S.Source.ahead c.args.self.now c.loop-self.self c.meet.new.self c.next.new.self c.in-Some.run' c.meet.result c.loop-self.invariant.1 c.in-Some.ensures.taken c.meet.ensures.kept c.meet.ensures.answers c.in-Some-2.slice
    (c.in_ok-slice.was ∙ ap Ok c.in-Some-2.is)

pub returns-in_default-clause-told : goal.returns-in_default-clause-told
returns-in_default-clause-told g c = told_out g.S.Source.ahead c.args.self.now c.loop-self.self c.loop-self.invariant.1 c.next.new.self c.in_default.ensures.taken

pub returns-in_err-slice-clause-told : goal.returns-in_err-slice-clause-told
returns-in_err-slice-clause-told g c d h =
    let p = err_from_is_err_and c.from_residual.result c.from_residual.ensures.1 in
    subst (λ r. Told (Coming g.S.Source.ahead) d r c.meet.new.self) (sym (p.1 ∙ ap Err p.2))
    (told_err g.S.Source.ahead c.args.self.now c.loop-self.self c.meet.new.self c.next.new.self c.in-Some.run' c.meet.result c.loop-self.invariant.1 c.in-Some.ensures.taken c.meet.ensures.kept c.meet.ensures.answers _ c.in_err-slice.was d h)

pub returns-clause-told : goal.returns-clause-told
returns-clause-told g c = told_closed g.S.Source.ahead c.args.self.now c.loop-self.self c.loop-self.invariant.1 (search rules)

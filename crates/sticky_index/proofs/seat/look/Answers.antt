use Rattle.std.proofs.Common.{Err, sym, ap, ◌∙◌, subst}
use Rattle.std.specs.Result.{result_ok}
use Rattle.std.proofs.lemmas.Result.{err_from_is_err_and}
use Rattle.reader.specs.Answers.{Found, Described}
use Rattle.sticky_index.specs.Steps.{Looked}
use Rattle.sticky_index.proofs.Finds.{look_lost, looked}
use Rattle.sticky_index.proofs.seat.look.Goals as goal

pub returns-in_err-place : goal.returns-in_err-place
returns-in_err-place g c =
    let s = c.args.reader.now in
    let m = g.R.Reader.meaning s in
    let st = g.R.Reader.stretch s in
    let l = look_lost m st (g.R.Reader.lawful s) (g.R.Reader.settled s) c.args.id c.find.result c.ok_or.result c.new-lost.result c.in_err-place.field-0.0 c.find.ensures c.ok_or.ensures.value c.in_err-place.was in
    let p = err_from_is_err_and c.from_residual.result c.from_residual.ensures.1 in
    subst (Looked m st c.args.id) (sym (p.1 ∙ ap Err p.2)) (l.0, l.1 ∙ c.new-lost.ensures)

pub returns : goal.returns
returns g c =
    let s = c.args.reader.now in
    let m = g.R.Reader.meaning s in
    let st = g.R.Reader.stretch s in
    looked m st (g.R.Reader.lawful s) (g.R.Reader.settled s) c.args.id c.in_ok-place.place c.in_ok-place.offset c.in_ok-run.run'
    (subst (Found m st c.args.id) (c.ok_or.ensures.ok_part ∙ ap result_ok c.in_ok-place.was) c.find.ensures)
    (subst (Described m (st c.in_ok-place.place)) (c.ok_or-2.ensures.ok_part ∙ ap result_ok c.in_ok-run.was) c.describe.ensures)

use Rattle.std.proofs.Common.{Err, ap, ◌∙◌}
use Rattle.std.proofs.lemmas.Result.{err_from_is_err_and}
use Rattle.store.specs.declared.records.View.{View}
use Rattle.store.specs.Records.{held}
use Rattle.document.specs.Examined.{out_of_range, overlapping, disagreeing, misfilled, unless_fault}
use Rattle.document.proofs.Verdicts.{too_many, in_first, in_second, in_third, in_fourth}
use Rattle.document.proofs.examine.verdict.Goals as goal

pub returns-in_err-counted : goal.returns-in_err-counted
returns-in_err-counted c = let p = err_from_is_err_and c.from_residual.result c.from_residual.ensures.1 in p.1 ∙ ap Err p.2 ∙ too_many (held c.args.view.now) c.in_err-counted.field-0.0 c.in_err-counted.ensures

pub returns-in_err-out_of_range : goal.returns-in_err-out_of_range
returns-in_err-out_of_range c = let p = err_from_is_err_and c.from_residual-in_err-out_of_range.result c.from_residual-in_err-out_of_range.ensures.1 in p.1 ∙ ap Err p.2 ∙ in_first (held c.args.view.now) c.in_ok-counted.ensures.0 _ (c.in_err-out_of_range.ensures ∙ ap (λ (v : View). unless_fault (out_of_range (held v))) c.in_ok-counted.ensures.1)

pub returns-in_err-overlapping : goal.returns-in_err-overlapping
returns-in_err-overlapping c = let p = err_from_is_err_and c.from_residual-in_err-overlapping.result c.from_residual-in_err-overlapping.ensures.1 in p.1 ∙ ap Err p.2 ∙ in_second (held c.args.view.now) c.in_ok-counted.ensures.0 (c.in_ok-out_of_range.ensures ∙ ap (λ (v : View). unless_fault (out_of_range (held v))) c.in_ok-counted.ensures.1) _ (c.in_err-overlapping.ensures ∙ ap (λ (v : View). unless_fault (overlapping (held v))) c.in_ok-counted.ensures.1)

pub returns-in_err-disagreeing : goal.returns-in_err-disagreeing
returns-in_err-disagreeing c = let p = err_from_is_err_and c.from_residual-in_err-disagreeing.result c.from_residual-in_err-disagreeing.ensures.1 in p.1 ∙ ap Err p.2 ∙ in_third (held c.args.view.now) c.in_ok-counted.ensures.0 (c.in_ok-out_of_range.ensures ∙ ap (λ (v : View). unless_fault (out_of_range (held v))) c.in_ok-counted.ensures.1) (c.in_ok-overlapping.ensures ∙ ap (λ (v : View). unless_fault (overlapping (held v))) c.in_ok-counted.ensures.1) _ (c.in_err-disagreeing.ensures ∙ ap (λ (v : View). unless_fault (disagreeing (held v))) c.in_ok-counted.ensures.1)

pub returns : goal.returns
returns c = in_fourth (held c.args.view.now) c.in_ok-counted.ensures.0 (c.in_ok-out_of_range.ensures ∙ ap (λ (v : View). unless_fault (out_of_range (held v))) c.in_ok-counted.ensures.1) (c.in_ok-overlapping.ensures ∙ ap (λ (v : View). unless_fault (overlapping (held v))) c.in_ok-counted.ensures.1) c.misfilled.result (c.in_ok-disagreeing.ensures ∙ ap (λ (v : View). unless_fault (disagreeing (held v))) c.in_ok-counted.ensures.1) (c.misfilled.ensures ∙ ap (λ (v : View). unless_fault (misfilled (held v))) c.in_ok-counted.ensures.1)

use Rattle.std.proofs.Common.{sym, ◌∙◌, subst, arith}
use Rattle.utf8.specs.declared.planes.Planes.TheVariants.{All}
use Rattle.utf8.specs.Table.{utf8_char}
use Rattle.utf8.specs.Texts.{Located}
use Rattle.utf8.proofs.Steps.{kept_ok, kept_none, ends, one_more, found_value, found_means, none_value, none_means}
use Rattle.utf8.proofs.text.locate.Goals as goal

pub overflow_add-at : goal.overflow_add-at
overflow_add-at c =
    let is = kept_ok c.measure.result c.in_ok-at.field-0 c.in_ok-at.ensures.value in
    omega (arith, ends All c.args.text.now c.loop.at _ (sym is ∙ c.measure.ensures))

pub loop-preserved : goal.loop-preserved
loop-preserved c =
    let is = kept_ok c.measure.result c.in_ok-at.field-0 c.in_ok-at.ensures.value in
    one_more All c.args.text.now c.loop.at _ c.loop.counter c.loop.invariant (sym is ∙ c.measure.ensures)

pub returns-in_err-at : goal.returns-in_err-at
returns-in_err-at c =
    let (place, is) = kept_none c.measure.result c.in_err-at.ensures.value in
    let wrong = sym is ∙ c.measure.ensures in
    let none = c.from_residual.ensures in record {
      value = none ∙ none_value All c.args.text.now c.loop.at place c.loop.counter c.args.index c.loop.invariant wrong (omega arith);
      means = subst (Located utf8_char c.args.text.now c.args.index) (sym none) (none_means All c.args.text.now c.loop.at place c.loop.counter c.args.index c.loop.invariant wrong (omega arith));
    }

pub returns-in_err-length : goal.returns-in_err-length
returns-in_err-length c =
    let (place, is) = kept_none c.measure-2.result c.in_err-length.ensures.value in
    let wrong = sym is ∙ c.measure-2.ensures in
    let none = c.from_residual-in_err-length.ensures in record {
      value = none ∙ none_value All c.args.text.now c.loop.at place c.loop.counter c.args.index c.loop.invariant wrong (omega arith);
      means = subst (Located utf8_char c.args.text.now c.args.index) (sym none) (none_means All c.args.text.now c.loop.at place c.loop.counter c.args.index c.loop.invariant wrong (omega arith));
    }

pub returns : goal.returns
returns c =
    let is = sym (kept_ok c.measure-2.result c.in_ok-length.length c.in_ok-length.ensures.value) ∙ c.measure-2.ensures in record {
      value = found_value All c.args.text.now c.loop.at _ c.loop.counter c.args.index c.loop.invariant is (omega arith);
      means = found_means All c.args.text.now c.loop.at _ c.loop.counter c.args.index c.loop.invariant is (omega arith);
    }

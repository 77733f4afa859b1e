use Rattle.std.proofs.Common.{Err, ap, ◌∙◌, arith}
use Rattle.std.proofs.lemmas.Result.{err_from_is_err_and}
use Rattle.utf8.specs.Rows.{rows}
use Rattle.utf8.proofs.Tables.{sound}
use Rattle.utf8.proofs.Laws.{sums}
use Rattle.utf8.proofs.Spellings.{unique}
use Rattle.utf8.proofs.Steps.{ends, some, one_more, count_value, count_means, stop_value, stop_means}
use Rattle.utf8.proofs.text.count_in.Goals as goal

pub returns-in_err-at : goal.returns-in_err-at
returns-in_err-at c =
    let p = err_from_is_err_and c.from_residual.result c.from_residual.ensures.1 in
    let is = p.1 ∙ ap Err p.2 in record {
      value = stop_value c.args.planes c.args.text.now c.loop-at.at _ c.loop-at.count _ c.loop-at.invariant c.loop-at-test.true c.in_err-at.ensures is;
      means = stop_means c.args.planes c.args.text.now c.loop-at.at _ c.loop-at.count _ c.loop-at.invariant c.loop-at-test.true c.in_err-at.ensures is;
      unique = unique (rows c.args.planes) (sound c.args.planes) c.args.text.now;
      sums = sums (rows c.args.planes) (sound c.args.planes) c.args.text.now;
    }

pub overflow_add-at : goal.overflow_add-at
overflow_add-at c = omega (arith, ends c.args.planes c.args.text.now c.loop-at.at _ c.in_ok-at.ensures)

pub loop-at-smaller : goal.loop-at-smaller
loop-at-smaller c =
    omega (
      arith,
      ends c.args.planes c.args.text.now c.loop-at.at _ c.in_ok-at.ensures,
      some c.args.planes c.args.text.now c.loop-at.at _ c.in_ok-at.ensures,
    )

pub loop-at-preserved : goal.loop-at-preserved
loop-at-preserved c = one_more c.args.planes c.args.text.now c.loop-at.at _ c.loop-at.count c.loop-at.invariant c.in_ok-at.ensures

pub returns : goal.returns
returns c = record {
  value = count_value c.args.planes c.args.text.now c.loop-at.at _ c.loop-at.invariant c.loop-at-test.false;
  means = count_means c.args.planes c.args.text.now c.loop-at.at _ c.loop-at.invariant c.loop-at-test.false;
  unique = unique (rows c.args.planes) (sound c.args.planes) c.args.text.now;
  sums = sums (rows c.args.planes) (sound c.args.planes) c.args.text.now;
}

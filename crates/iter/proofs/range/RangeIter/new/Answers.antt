use Rattle.iter.proofs.Spans.{opened_ids}
use Rattle.iter.proofs.range.RangeIter.new.Goals as goal

pub returns-clause-between : goal.returns-clause-between
returns-clause-between g c = opened_ids c.args.start c.args.end

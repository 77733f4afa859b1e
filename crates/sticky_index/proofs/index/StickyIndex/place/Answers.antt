use Rattle.std.proofs.Common.{rules}
use Rattle.sticky_index.proofs.Promises.{stays}
use Rattle.sticky_index.proofs.index.StickyIndex.place.Goals as goal

pub returns-in_err-mark-clause-stays : goal.returns-in_err-mark-clause-stays
returns-in_err-mark-clause-stays g c ok =
    let s = c.args.reader.now in
    stays (g.R.Reader.layers s) (g.R.Reader.meaning s) (g.R.Reader.lawful s) c.args.list ok c.args.index c.args.assoc _ (search rules)

pub returns-in_err-offset-clause-stays : goal.returns-in_err-offset-clause-stays
returns-in_err-offset-clause-stays g c ok =
    let s = c.args.reader.now in
    stays (g.R.Reader.layers s) (g.R.Reader.meaning s) (g.R.Reader.lawful s) c.args.list ok c.args.index c.args.assoc _ (search rules)

pub returns-clause-stays : goal.returns-clause-stays
returns-clause-stays g c ok =
    let s = c.args.reader.now in
    stays (g.R.Reader.layers s) (g.R.Reader.meaning s) (g.R.Reader.lawful s) c.args.list ok c.args.index c.args.assoc _ (search rules)

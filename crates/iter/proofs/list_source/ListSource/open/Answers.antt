use Rattle.std.proofs.Common.{refl}
use Rattle.iter.proofs.Chains.{onward_here, here_onward}
use Rattle.iter.proofs.Covers.{list_ids}
use Rattle.iter.proofs.list_source.ListSource.open.Goals as goal

pub returns-in-Err-clause-units : goal.returns-in-Err-clause-units
returns-in-Err-clause-units g c = list_ids _ _ (g.R.Reader.settled c.args.reader) c.args.list 0

pub returns-in-Ok-clause-units : goal.returns-in-Ok-clause-units
returns-in-Ok-clause-units g c = list_ids _ _ (g.R.Reader.settled c.args.reader) c.args.list 0

pub returns-in-Ok-clause-opens : goal.returns-in-Ok-clause-opens
returns-in-Ok-clause-opens g c =
    let (there, onward) = c.in-Ok.ensures in
    let settled = g.R.Reader.settled c.args.reader in
    (there, refl, λ ws. onward_here _ _ settled c.args.list 0 _ ws onward, λ ws. here_onward _ _ settled c.args.list 0 _ ws onward)

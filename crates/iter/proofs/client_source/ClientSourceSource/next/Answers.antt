use Rattle.std.proofs.Common.{arith}
use Rattle.iter.proofs.Chains.{run_known}
use Rattle.iter.proofs.Clocks.{first_by_clock}
use Rattle.iter.proofs.client_source.ClientSourceSource.next.Goals as goal

pub overflow_add-self : goal.overflow_add-self
overflow_add-self g c =
    let reader = c.args.self.now.reader in
    let (some, known) = run_known (g.R.Reader.meaning reader) (g.R.Reader.stretch reader) (g.R.Reader.settled reader) (g.R.Reader.lawful reader) _ _ c.in_ok-about.ensures in
    omega (arith, (g.R.Reader.lawful reader).small c.in_ok-about.about.id.client)

pub returns-clause-taken : goal.returns-clause-taken
returns-clause-taken g c ws h =
    let reader = c.args.self.now.reader in
    first_by_clock (g.R.Reader.meaning reader) (g.R.Reader.stretch reader) (g.R.Reader.lawful reader) (g.R.Reader.settled reader) c.args.self.now.client c.args.self.now.clock _ c.in_ok-place.ensures c.in_ok-about.ensures _ _ _ h.0 (λ vs a. (h.0, a)) ws h.1

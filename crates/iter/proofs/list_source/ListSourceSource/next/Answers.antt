use Rattle.std.proofs.Common.{Option, subst}
use Rattle.block.specs.Units.{Stretch}
use Rattle.iter.specs.Runs.{FromHere, FromStretch}
use Rattle.iter.proofs.Chains.{described_some, first_run, first_given}
use Rattle.iter.proofs.list_source.ListSourceSource.next.Goals as goal

pub returns-clause-taken : goal.returns-clause-taken
returns-clause-taken g c ws h =
    let reader = c.args.self.now.reader in
    let m = g.R.Reader.meaning reader in
    let st = g.R.Reader.stretch reader in
    let (t, e, q) = described_some m (st c.in_ok-place.place) c.in_ok-about.about c.in_ok-about.ensures in
    first_run m st (g.R.Reader.settled reader) (g.R.Reader.faithful reader) _ t e q c.right-self.result (c.right-self.ensures.1 t e) _ _ _ (λ vs a. a) ws
    (subst (λ (o : Option Stretch). FromStretch m st o ws) e (subst (λ (o : Option _). FromHere m st o ws) c.in_ok-place.was h))

pub returns-clause-given : goal.returns-clause-given
returns-clause-given g c =
    let reader = c.args.self.now.reader in
    let (t, e, q) = described_some (g.R.Reader.meaning reader) (g.R.Reader.stretch reader c.in_ok-place.place) c.in_ok-about.about c.in_ok-about.ensures in
    (λ x. x, λ ws h. first_given (g.R.Reader.meaning reader) (g.R.Reader.stretch reader) (g.R.Reader.settled reader) _ t e q c.in_ok-about.ensures c.right-self.result (c.right-self.ensures.1 t e) ws h c.args.self.now.at c.in_ok-place.was)

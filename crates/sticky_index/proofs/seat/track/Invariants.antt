use Rattle.std.proofs.Common.{◌≡◌, ◌-◌, Ok}
use Rattle.sticky_index.specs.Marks.{follow}
use Rattle.sticky_index.specs.Steps.{Looked}
use Rattle.sticky_index.proofs.seat.track.Given as goal

abbrev pub invariant-loop : goal.invariant-loop
invariant-loop g l =
    let m = g.R.Reader.meaning l.reader in
    Looked m (g.R.Reader.stretch l.reader) l.seat.id (Ok l.seat) × (follow m (64 - l.counter) l.seat.id ≡ follow m 64 l.initial.seat.id)

use Rattle.std.proofs.Common.{◌≡◌, length}
use Rattle.clip.specs.Pairing.{sound}
use Rattle.clip.proofs.made.is_sound.Given as goal

abbrev pub invariant-loop-p : goal.invariant-loop-p
invariant-loop-p l = sound l.rest ≡ sound l.pairs

abbrev pub decreases-loop-p : goal.decreases-loop-p
decreases-loop-p l = length l.rest

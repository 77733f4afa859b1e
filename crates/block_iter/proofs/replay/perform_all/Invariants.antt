use Rattle.std.proofs.Common.{◌≡◌, ◌≤◌, length, take, drop}
use Rattle.block.specs.Plain.{plain_run}
use Rattle.block_iter.specs.Cursors.{Same, visible_of}
use Rattle.block_iter.specs.Replays.{Matches}
use Rattle.block_iter.proofs.replay.perform_all.Given as goal

abbrev pub invariant-loop-i : goal.invariant-loop-i
invariant-loop-i g l =
    let run = plain_run l.initial.cursor.list (visible_of g.R.Reader.meaning l.initial.cursor) (take l.i l.calls) in
    Same l.initial.cursor l.cursor
    × (l.used ≤ length l.slots)
    × Matches g.R.Reader.shown run l.cursor (take l.used l.slots)
    × (take l.i l.outcomes ≡ run.outcomes)
    × (drop l.i l.outcomes ≡ drop l.i l.initial.outcomes)
    × (drop l.used l.slots ≡ drop l.used l.initial.slots)

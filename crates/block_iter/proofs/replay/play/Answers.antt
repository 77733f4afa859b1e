use Rattle.block_iter.proofs.Replayed.{large_enough}
use Rattle.block_iter.proofs.replay.play.Goals as goal

pub perform_all-used-requires : goal.perform_all-used-requires
perform_all-used-requires g c =
    let room = large_enough _ _ c.args.calls.now _ _ (c.in_ok-room_for.ensures c.args.cursor.now.list _ c.len.ensures.counted) in
    record { fresh = c.requires; each = room.0; enough = room.1 }

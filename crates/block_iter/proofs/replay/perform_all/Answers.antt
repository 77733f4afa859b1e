use Rattle.std.proofs.Common.{◌≡◌, ◌+◌, ◌-◌, length, drop, ◌∙◌, rules, arith, length-drop, length-take, length-take-le}
use borrow.Rule.Slice.PartMut.{mid_of, same_len_mid}
use Rattle.block_iter.specs.Replays.{outcome_of}
use Rattle.block_iter.proofs.Replayed.{room_for, matches_more, outcomes_more, slots_behind, set_behind, all_played}
use Rattle.block_iter.proofs.replay.perform_all.Goals as goal

pub perform-filled-requires : goal.perform-filled-requires
perform-filled-requires g c =
    let (same, most, match, outs, others, rest) = c.loop-i.invariant in
    let left : c.loop-i.used + length (mid_of c.loop-i.used (length c.loop-i.slots - c.loop-i.used) c.loop-i.slots) ≡ length c.loop-i.slots = simp (length-take, length-drop) (omega (arith, most)) in
    room_for g.R.Reader.meaning g.R.Reader.shown c.args.cursor.now c.loop-i.cursor c.loop-i.cursor same c.args.calls.now c.loop-i.i _ c.loop-i-test.true c.loop-i.slots c.loop-i.used most match (omega (arith, c.requires.enough)) _ left

pub loop-i-preserved : goal.loop-i-preserved
loop-i-preserved g c =
    let (same, most, match, outs, others, rest) = c.loop-i.invariant in
    let done = c.perform-filled.ensures in
    let after = c.perform-filled.new.slots in
    let k = length c.loop-i.slots - c.loop-i.used in
    let part = length-take-le k (drop c.loop-i.used c.loop-i.slots) (omega (arith, length-drop c.loop-i.used c.loop-i.slots)) in
    let long = same_len_mid c.loop-i.used k c.loop-i.slots after c.perform-filled.auto.slots in
    let outcome : c.map.result ≡ outcome_of c.perform-filled.result = search rules in
    rw (outcome, c.unwrap_or-used.ensures) (
      record { reader = done.same.reader ∙ same.reader; list = done.same.list ∙ same.list; len = done.same.len ∙ same.len },
      omega (arith, most, done.most, part, long),
      matches_more g.R.Reader.meaning g.R.Reader.shown c.args.cursor.now c.loop-i.cursor c.perform-filled.new.cursor same c.args.calls.now c.loop-i.i _ c.loop-i-test.true c.loop-i.slots c.loop-i.used most match _ k after c.perform-filled.auto.slots done.most done.plain,
      outcomes_more g.R.Reader.meaning g.R.Reader.shown c.args.cursor.now c.loop-i.cursor c.perform-filled.new.cursor same c.args.calls.now c.loop-i.i _ c.loop-i-test.true c.loop-i.slots c.loop-i.used most match _ k after c.perform-filled.auto.slots done.most done.plain c.loop-i.outcomes (omega (arith, c.requires.each)) outs,
      set_behind c.loop-i.outcomes c.args.outcomes.now c.loop-i.i _ others,
      slots_behind g.R.Reader.meaning g.R.Reader.shown c.args.cursor.now c.loop-i.cursor c.perform-filled.new.cursor same c.args.calls.now c.loop-i.i _ c.loop-i-test.true c.loop-i.slots c.loop-i.used most match _ k after c.perform-filled.auto.slots done.most done.plain c.args.slots.now done.rest rest,
    )

pub returns-clause-played : goal.returns-clause-played
returns-clause-played g c =
    let (same, most, match, outs, others, rest) = c.loop-i.invariant in
    all_played g.R.Reader.meaning g.R.Reader.shown c.args.cursor.now c.loop-i.cursor same c.args.calls.now c.loop-i.i c.args.outcomes.now c.loop-i.outcomes c.args.slots.now c.loop-i.slots c.loop-i.used (omega arith) most match outs others rest

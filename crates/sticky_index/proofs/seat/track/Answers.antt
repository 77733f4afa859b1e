use Rattle.std.proofs.Common.{◌≡◌, ℕ, suc, ◌+◌, ◌-◌, Ok, Err, sym, refl, ap, ◌∙◌, subst, arith}
use Rattle.std.proofs.lemmas.Result.{err_from_is_err_and}
use Rattle.block.specs.declared.ids.Id.{Id}
use Rattle.sticky_index.specs.Marks.{follow}
use Rattle.sticky_index.specs.Steps.{Looked}
use Rattle.sticky_index.proofs.Finds.{seat_id, so_far, turn_on, turn_lost, turn_done, turn_over}
use Rattle.sticky_index.proofs.seat.track.Goals as goal

pub returns-in_err-seat : goal.returns-in_err-seat
returns-in_err-seat g c =
    let s = c.args.reader.now in
    let p = err_from_is_err_and c.from_residual.result c.from_residual.ensures.1 in
    rw (p.1, p.2) (turn_lost _ _ (g.R.Reader.lawful s) (g.R.Reader.settled s) 64 c.args.id _ c.in_err-seat.ensures)

pub loop-init : goal.loop-init
loop-init g c =
    let s = c.args.reader.now in
    let m = g.R.Reader.meaning s in
    let st = g.R.Reader.stretch s in
    let seat = c.in_ok-seat.seat in
    let here = c.in_ok-seat.ensures in
    (subst (λ (x : Id). Looked m st x (Ok seat)) (sym (seat_id m st (g.R.Reader.lawful s) (g.R.Reader.settled s) c.args.id seat here)) here, refl)

pub returns-in_default : goal.returns-in_default
returns-in_default g c =
    let s = c.args.reader.now in
    let law = g.R.Reader.lawful s in
    let settled = g.R.Reader.settled s in
    let far = so_far _ _ law settled c.args.id c.in_ok-seat.seat _ _ c.in_ok-seat.ensures c.loop.invariant.1 in
    let r = turn_done _ _ law settled (64 - c.loop.counter) c.loop.seat c.loop.invariant.0 c.in_default.is in
    (r.0, far ∙ r.1, r.2)

pub returns-in_err-seat-2 : goal.returns-in_err-seat-2
returns-in_err-seat-2 g c =
    let s = c.args.reader.now in
    let m = g.R.Reader.meaning s in
    let law = g.R.Reader.lawful s in
    let settled = g.R.Reader.settled s in
    let far = so_far _ _ law settled c.args.id c.in_ok-seat.seat _ _ c.in_ok-seat.ensures c.loop.invariant.1 in
    let n : suc (64 - (c.loop.counter + 1)) ≡ 64 - c.loop.counter = omega arith in
    let on = turn_on _ _ law settled (64 - (c.loop.counter + 1)) c.loop.seat c.in-Some.next c.loop.invariant.0 c.in-Some.is ∙ ap (λ (k : ℕ). follow m k c.loop.seat.id) n in
    let lost = turn_lost _ _ law settled (64 - (c.loop.counter + 1)) c.in-Some.next _ c.in_err-seat-2.ensures in
    let p = err_from_is_err_and c.from_residual-in_err-seat-2.result c.from_residual-in_err-seat-2.ensures.1 in
    rw (p.1, p.2) (far ∙ sym on ∙ lost)

pub loop-preserved : goal.loop-preserved
loop-preserved g c =
    let s = c.args.reader.now in
    let m = g.R.Reader.meaning s in
    let st = g.R.Reader.stretch s in
    let law = g.R.Reader.lawful s in
    let settled = g.R.Reader.settled s in
    let seat = c.in_ok-seat-2.seat in
    let here = c.in_ok-seat-2.ensures in
    let same : seat.id ≡ c.in-Some.next = seat_id m st law settled c.in-Some.next seat here in
    let n : suc (64 - (c.loop.counter + 1)) ≡ 64 - c.loop.counter = omega arith in
    let on = turn_on _ _ law settled (64 - (c.loop.counter + 1)) c.loop.seat c.in-Some.next c.loop.invariant.0 c.in-Some.is ∙ ap (λ (k : ℕ). follow m k c.loop.seat.id) n in
    (subst (λ (x : Id). Looked m st x (Ok seat)) (sym same) here, ap (follow m (64 - (c.loop.counter + 1))) same ∙ on ∙ c.loop.invariant.1)

pub returns-in-None : goal.returns-in-None
returns-in-None g c =
    let s = c.args.reader.now in
    let law = g.R.Reader.lawful s in
    let settled = g.R.Reader.settled s in
    let far = so_far _ _ law settled c.args.id c.in_ok-seat.seat _ _ c.in_ok-seat.ensures c.loop.invariant.1 in
    let r = turn_done _ _ law settled (64 - c.loop.counter) c.loop.seat c.loop.invariant.0 c.in-None.is in
    (r.0, far ∙ r.1, r.2)

pub returns-in-Some-redone : goal.returns-in-Some-redone
returns-in-Some-redone g c =
    let s = c.args.reader.now in
    let m = g.R.Reader.meaning s in
    let law = g.R.Reader.lawful s in
    let settled = g.R.Reader.settled s in
    let far = so_far _ _ law settled c.args.id c.in_ok-seat.seat _ _ c.in_ok-seat.ensures c.loop.invariant.1 in
    let n : 64 - c.loop.counter ≡ 0 = omega arith in
    let over = turn_over _ _ law settled c.loop.seat c.in-Some-redone.field-0 c.loop.invariant.0 c.in-Some-redone.is in
    far ∙ ap (λ (k : ℕ). follow m k c.loop.seat.id) n ∙ over ∙ ap Err (sym c.new.ensures)

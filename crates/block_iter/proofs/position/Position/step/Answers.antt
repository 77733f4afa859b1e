use Rattle.std.proofs.Common.{ap, ◌∙◌, ◌-◌, arith}
use Rattle.block_iter.proofs.Steps.{steps_inside, steps_over}
use Rattle.block_iter.proofs.position.Position.step.Goals as goal

pub returns-then-left-here : goal.returns-then-left-here
returns-then-left-here g c =
    let here = c.saturating_sub-here.ensures ∙ ap (λ k. k - c.args.self.rel) c.visible_at.ensures in
    record { most = omega (arith, here); passed = steps_inside _ _ (g.R.Reader.settled c.args.reader.now) c.args.place c.args.self.rel c.args.left _ here c.if-left-here.true }

pub returns : goal.returns
returns g c =
    let here = c.saturating_sub-here.ensures ∙ ap (λ k. k - c.args.self.rel) c.visible_at.ensures in
    record { most = omega (arith, here); passed = steps_over _ _ (g.R.Reader.settled c.args.reader.now) c.args.place c.args.self.rel c.args.left _ here c.if-left-here.false _ c.right.ensures }

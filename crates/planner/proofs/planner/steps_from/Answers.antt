use Rattle.std.proofs.Common.{sym, ◌∙◌, rules, arith}
use Rattle.std.proofs.lemmas.Grind.{common_steps}
use Rattle.planner.proofs.Within.{offset_within}
use Rattle.planner.proofs.planner.steps_from.Goals as goal

pub returns-in_err-cursor : goal.returns-in_err-cursor
returns-in_err-cursor g c =
    let within = offset_within _ _ c.args.mark c.in_ok-at.at (sym c.get_offset.ensures ∙ c.in_ok-at.was) in
    search rules

pub returns-in_err-try_forward : goal.returns-in_err-try_forward
returns-in_err-try_forward g c =
    let within = offset_within _ _ c.args.mark c.in_ok-at.at (sym c.get_offset.ensures ∙ c.in_ok-at.was) in
    grind (arith, common_steps)

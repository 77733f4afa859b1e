use Rattle.std.proofs.Common.{[], ◌∷◌, map, sym, subst}
use Rattle.iter.specs.Bare.{bare}
use Rattle.iter.proofs.source.exhaust.Goals as goal

pub loop-run-preserved : goal.loop-run-preserved
loop-run-preserved g c h =
    let (sure, back) = c.loop-run.invariant h in
    let given = c.in-Some.ensures.given in
    (given.0 sure, λ vs a. back (c.in-Some._run ∷ vs) (given.1 (map bare vs) a))

pub returns : goal.returns
returns g c h =
    let (sure, back) = c.loop-run.invariant h in
    let none = c.in_default.ensures.given sure in
    (back [] none, subst (λ s. g.S.Source.ahead s []) (sym (c.in_default.ensures.taken [] none).1) none)

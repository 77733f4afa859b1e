use Rattle.std.proofs.Common.{rules, tests, ap, ◌∙◌}
use Rattle.std.specs.Iterator.Adapters.{successors_next, successors_callee}
use Rattle.store.specs.Records.{held}
use Rattle.links.proofs.Walking.{met}
use Rattle.links.proofs.walks.meets.Goals as goal

pub returns : goal.returns
returns c =
    let r = c.any.ensures.ran in
    let source = c.take.ensures.source in
    met (held c.args.view.now) c.args.i _ _ (λ x o q k. search (rules, tests)) (λ x b q k. search (rules, tests)) r.0 _ c.args.start r.1 c.take.result _ r.2 _ c.take.ensures.count (ap successors_next source ∙ c.successors.ensures.item) (ap successors_callee source ∙ c.successors.ensures.closure) r.3 r.4 r.5

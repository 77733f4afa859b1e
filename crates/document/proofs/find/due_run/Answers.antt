use Rattle.std.proofs.Common.{length, rules, tests}
use Rattle.std.proofs.lemmas.Iterator.{YieldsList-from_range}
use Rattle.std.proofs.lemmas.Iterator.Consumers.{YieldsList-from_filter}
use Rattle.store.specs.Records.{held, run_at}
use Rattle.document.specs.Finds.{is_due}
use Rattle.document.proofs.Least.{least_of, first_of}
use Rattle.document.proofs.Nearest.{due_from}
use Rattle.document.proofs.find.due_run.Goals as goal

pub returns : goal.returns
returns c =
    due_from (held c.args.view.now) c.args.client c.args.clock c.min_by_key.result
    (first_of (λ i. is_due c.args.client c.args.clock (run_at (held c.args.view.now) i)) (λ i. (run_at (held c.args.view.now) i).id.clock) (length (held c.args.view.now).runs) c.min_by_key.result
    (least_of _ _ (λ i. (run_at (held c.args.view.now) i).id.clock) (λ x k q h. search rules) _ _ c.min_by_key.result c.min_by_key.ensures.ran
    (YieldsList-from_filter _ (λ i. is_due c.args.client c.args.clock (run_at (held c.args.view.now) i)) (YieldsList-from_range 0 (length (held c.args.view.now).runs) (length (held c.args.view.now).runs) (cc) (search rules)) c.filter.ensures.closure (λ x b q h. search (rules, tests)))))

use Rattle.std.proofs.Common.{rules, tests, ◌==◌, ◌∙◌}
use Rattle.std.proofs.lemmas.Iterator.{YieldsList-from_slice, YieldsList-from_map}
use Rattle.std.proofs.lemmas.Iterator.Consumers.{YieldsList-from_filter, YieldsList-at, max_from_yields_List}
use Rattle.store.specs.declared.records.RunRecord.{RunRecord}
use Rattle.store.specs.Clocks.{end_of}
use Rattle.store.specs.Records.{held}
use Rattle.links.proofs.Sums.{last_max}
use Rattle.links.proofs.lengths.last_end.Goals as goal

pub returns : goal.returns
returns c =
    let s = held c.args.view.now in
    c.unwrap_or.ensures
    ∙ last_max s c.args.client _
    (max_from_yields_List c.map.result _ c.max.ensures.ran
    (YieldsList-from_map _ end_of
    (YieldsList-at c.map.ensures.source
    (YieldsList-from_filter _ (λ (r : RunRecord). r.id.client == c.args.client) (YieldsList-from_slice s.runs (cc)) c.filter.ensures.closure (λ x b q k. search (rules, tests))))
    c.map.ensures.closure (λ x r q k. search (rules, tests))))

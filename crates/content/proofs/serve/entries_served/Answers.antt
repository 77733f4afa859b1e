use Rattle.std.proofs.Common.{rules, tests, arith, ◌∙◌}
use Rattle.std.specs.Int.{from_bool}
use Rattle.std.proofs.lemmas.Iterator.{YieldsList-from_slice, YieldsList-from_map}
use Rattle.std.proofs.lemmas.Iterator.Consumers.{sum_by_from_yields_List, fits_by_from_yields_list}
use Rattle.store.specs.declared.records.EntryRecord.{EntryRecord}
use Rattle.store.specs.Records.{held, no_entry}
use Rattle.content.specs.Content.{has_byte}
use Rattle.content.proofs.Ones.{ones_passing, ones_few}
use Rattle.content.proofs.serve.entries_served.Goals as goal

pub sum-requires-clause-fits : goal.sum-requires-clause-fits
sum-requires-clause-fits c =
    let s = held c.args.view.now in
    let few = ones_few (λ (r : EntryRecord). has_byte r c.args.b) no_entry s.entries in
    fits_by_from_yields_list (λ (r : EntryRecord). from_bool (has_byte r c.args.b)) s.entries c.map.result _
    (YieldsList-from_map _ _ (YieldsList-from_slice s.entries (cc)) c.map.ensures.closure (λ x r q k. search (rules, tests)))
    (omega (arith, few))

pub returns : goal.returns
returns c =
    let s = held c.args.view.now in
    sum_by_from_yields_List (λ (r : EntryRecord). from_bool (has_byte r c.args.b)) s.entries c.map.result _ c.sum.ensures.ran
    (YieldsList-from_map _ _ (YieldsList-from_slice s.entries (cc)) c.map.ensures.closure (λ x r q k. search (rules, tests)))
    ∙ ones_passing (λ (r : EntryRecord). has_byte r c.args.b) no_entry s.entries

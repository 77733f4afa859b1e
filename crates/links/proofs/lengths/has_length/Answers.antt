use Rattle.std.proofs.Common.{rules, tests, ◌+◌, ◌-◌, ◌^◌, ℕ, min, arith}
use Rattle.std.proofs.lemmas.Iterator.{YieldsList-from_slice}
use Rattle.std.proofs.lemmas.Iterator.Consumers.{fold_from_yields_List}
use Rattle.store.specs.declared.records.RunRecord.{RunRecord}
use Rattle.store.specs.Records.{held}
use Rattle.links.specs.Lengths.{share}
use Rattle.links.proofs.Sums.{sum_is}
use Rattle.links.proofs.lengths.has_length.Goals as goal

pub returns : goal.returns
returns c =
    let s = held c.args.view.now in
    sum_is s c.args.l (2 ^ 64 - 1) c.args.len _ (omega arith)
    (fold_from_yields_List _ (λ (k : ℕ) (r : RunRecord). min (k + share c.args.l r) (2 ^ 64 - 1)) 0 _ c.fold-sum.ensures.ran (YieldsList-from_slice s.runs (cc)) (λ a x b q k. search (rules, tests)))

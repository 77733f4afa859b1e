use Rattle.std.proofs.Common.{List, ap, ◌∙◌, rules}
use Rattle.store.specs.declared.records.RunRecord.{RunRecord}
use Rattle.chain.specs.Joins.{at, rightward, leftward}
use Rattle.chain.proofs.join.join.Goals as goal

pub returns : goal.returns
returns c =
    c.change-3.ensures (leftward c.args.n) (λ r s p. search rules)
    ∙ ap (λ (rs : List RunRecord). at (leftward c.args.n) rs c.args.right) (c.change-2.ensures (rightward c.args.n) (λ r s p. search rules)
    ∙ ap (λ (rs : List RunRecord). at (rightward c.args.n) rs c.args.left) (c.change.ensures (λ _. c.args.run) (λ r s p. search rules)))

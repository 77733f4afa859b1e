use Rattle.std.proofs.Common.{◌+◌, rules}
use Rattle.store.specs.Records.{held}
use Rattle.document.specs.Slots.{entry_slot}
use Rattle.document.proofs.Fills.{filled_by}
use Rattle.document.proofs.fill.fill_entries.Goals as goal

pub returns : goal.returns
returns c = filled_by _ (λ k. entry_slot (held c.args.view.now) c.args.kind (c.args.first + k)) _ _ c.fill_with.ensures (λ k v lt p. search rules)

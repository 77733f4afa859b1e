use Rattle.std.proofs.Common.{rules}
use Rattle.document.specs.Slots.{byte_slot}
use Rattle.document.proofs.Fills.{filled_by}
use Rattle.document.proofs.text.fill_bytes.Goals as goal

pub returns : goal.returns
returns c = filled_by _ (byte_slot c.args.start) _ _ c.fill_with.ensures (λ k v lt p. search rules)

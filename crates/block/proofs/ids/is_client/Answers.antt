use Rattle.std.proofs.Common.{arith}
use Rattle.block.proofs.Clients.{zeros_below}
use Rattle.block.proofs.ids.is_client.Goals as goal

pub returns : goal.returns
returns c = zeros_below c.args.number (omega arith)

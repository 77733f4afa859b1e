use Rattle.std.proofs.Common.{rules}
use Rattle.utf8.specs.Table.{utf8_char}
use Rattle.document.proofs.Texts.{place_given}
use Rattle.document.proofs.text.place_of.Goals as goal

pub returns : goal.returns
returns c = place_given utf8_char c.args.text.now c.args.index c.locate.result c.map_or.result c.locate.ensures.value c.map_or.ensures (λ at g. search rules)

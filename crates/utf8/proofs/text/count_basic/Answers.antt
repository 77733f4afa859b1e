use Rattle.utf8.proofs.Encodings.{basic_encodings}
use Rattle.utf8.proofs.Lengths.{short}
use Rattle.utf8.proofs.text.count_basic.Goals as goal

pub returns-clause-short : goal.returns-clause-short
returns-clause-short c = short

pub returns-clause-encodings : goal.returns-clause-encodings
returns-clause-encodings c = basic_encodings

use Rattle.utf8.specs.declared.planes.Planes.TheVariants.{All}
use Rattle.utf8.proofs.Encodings.{all_encodings}
use Rattle.utf8.proofs.Steps.{measured}
use Rattle.utf8.proofs.character.length_at.Goals as goal

pub returns-clause-means : goal.returns-clause-means
returns-clause-means c = measured All c.args.text.now c.args.at _ c.measure.ensures

pub returns-clause-encodings : goal.returns-clause-encodings
returns-clause-encodings c = all_encodings

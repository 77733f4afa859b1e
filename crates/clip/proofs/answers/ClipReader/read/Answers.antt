use Rattle.std.proofs.Common.{min, length, ap, ◌∙◌}
use Rattle.clip.specs.Made.{limit_of}
use Rattle.clip.proofs.Reading.{reads}
use Rattle.clip.proofs.answers.ClipReader.read.Goals as goal

pub returns : goal.returns
returns g c =
    let s = c.args.self.now in
    reads (limit_of s.pairs) (g.R.Reader.meaning s.below) (g.R.Reader.shown s.below) (g.R.Reader.stretch s.below c.args.place) (g.R.Reader.settled s.below c.args.place) c.args.offset c.min-count.result c.read.result c.args.slots.now c.read.new.slots (c.min-count.ensures ∙ ap (min (length c.args.slots.now)) c.left_from-left.ensures) c.read.auto.slots c.read.ensures

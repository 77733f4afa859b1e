use Rattle.std.proofs.Common.{refl}
use Rattle.sticky_index.specs.Marks.{follow}
use Rattle.examples.proofs.table_stands.Goals as goal

pub returns : goal.returns
unfolding follow
returns c = record {
  after_0 = refl;
  after_2 = refl;
  after_3 = refl;
  before_0 = refl;
  before_0_is = refl;
  before_4 = refl;
  before_4_is = refl;
  before_5 = refl;
  dead_after = refl;
  dead_before = refl;
  clipped_away = refl;
  clipped_length = refl;
  clipped_five = refl;
  after_tombstone = refl;
  read_3 = refl;
  read_4 = refl;
}

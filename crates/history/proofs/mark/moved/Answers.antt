use Rattle.std.proofs.Common.{◌≡◌}
use Rattle.sticky_index.specs.Marks.{on, offset_of}
use Rattle.sticky_index.specs.declared.index.IndexScope.TheVariants.{Relative}
use Rattle.history.proofs.Ageing.{units_last}
use Rattle.history.proofs.Theorem.{pile_moves}
use Rattle.history.proofs.mark.moved.Goals as goal

pub returns : goal.returns
returns g c =
    let layers = g.R.Reader.layers c.args.reader.now in
    let m = g.R.Reader.meaning c.args.reader.now in
    let resolves : c.get_offset.result ≡ offset_of layers m (on (Relative c.args.id) c.args.assoc) = cc in
    record {
      resolves = resolves;
      moves = λ o limits e. pile_moves layers m o limits c.args.id c.args.assoc _ e resolves;
      lasts = units_last;
    }

use Rattle.std.proofs.Common.{sym, arith}
use Rattle.std.proofs.lemmas.List.{length-take-le}
use Rattle.clip.proofs.tests.too_many_pairs_come_after_a_bad_one.Goals as goal

pub slice_bounds-new-end : goal.slice_bounds-new-end
slice_bounds-new-end g c = sym (length-take-le 64 c.from_fn-many.result (omega (arith, c.from_fn-many.ensures.items.long)))

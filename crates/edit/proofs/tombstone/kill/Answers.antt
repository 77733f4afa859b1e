use Rattle.std.proofs.Common.{arith}
use Rattle.edit.specs.Edits.{all_of}
use Rattle.edit.proofs.Uses.{can_lower}
use Rattle.edit.proofs.tombstone.kill.Goals as goal

pub overflow_cast-tables : goal.overflow_cast-tables
overflow_cast-tables c = let q = can_lower (all_of c.args.tables.now) c.requires.examined c.args.i c.requires.within c.in-Some.l c.in-Some.is in let h = q.2 in omega (arith, h)

pub offset_bounds-tables-l : goal.offset_bounds-tables-l
offset_bounds-tables-l c = let q = can_lower (all_of c.args.tables.now) c.requires.examined c.args.i c.requires.within c.in-Some.l c.in-Some.is in let h = q.2 in omega (arith, h)

pub bounds-tables-l : goal.bounds-tables-l
bounds-tables-l c = (can_lower (all_of c.args.tables.now) c.requires.examined c.args.i c.requires.within c.in-Some.l c.in-Some.is).0

pub overflow_sub-tables : goal.overflow_sub-tables
overflow_sub-tables c = let q = can_lower (all_of c.args.tables.now) c.requires.examined c.args.i c.requires.within c.in-Some.l c.in-Some.is in let h = q.1 in let w = c.visible_len.ensures in omega (arith, h, w)

pub bounds-tables-l-in-Some : goal.bounds-tables-l-in-Some
bounds-tables-l-in-Some c = (can_lower (all_of c.args.tables.now) c.requires.examined c.args.i c.requires.within c.in-Some.l c.in-Some.is).0

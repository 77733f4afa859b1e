use Rattle.std.proofs.Common.{ap, ◌∙◌}
use Rattle.edit.specs.Aims.{redo_aimed}
use Rattle.edit.specs.Edits.{Contents, all_of, redone_by}
use Rattle.edit.specs.Happenings.{renewal}
use Rattle.edit.proofs.Aiming.{redo_aimed_ok}
use Rattle.edit.proofs.Happening.{edit_step}
use Rattle.edit.proofs.Renewals.{renewed_used, renewed_fault, renewed_step}
use Rattle.edit.proofs.Uses.{used_of, fault_in, passes, in_room}
use Rattle.edit.proofs.redo.redo.Goals as goal

pub renew-requires : goal.renew-requires
renew-requires c = let a = redo_aimed_ok c.args.tables.now c.args.id c.args.successor c.in_ok-i.i c.in_ok-i.ensures in in_room (all_of c.args.tables.now) a.examined c.in_ok-i.i a.at.within

pub returns-clause-examined : goal.returns-clause-examined
returns-clause-examined c = λ _. let a = redo_aimed_ok c.args.tables.now c.args.id c.args.successor c.in_ok-i.i c.in_ok-i.ensures in ap fault_in c.renew.ensures ∙ renewed_fault (all_of c.args.tables.now) a.examined c.in_ok-i.i a.at.within c.args.successor a.next_run a.next_at

pub returns-clause-step : goal.returns-clause-step
returns-clause-step c =
    let a = redo_aimed_ok c.args.tables.now c.args.id c.args.successor c.in_ok-i.i c.in_ok-i.ensures in
    let t : Contents = all_of c.args.tables.now in
    edit_step (redone_by c.args.successor) (renewal c.args.successor) t (all_of c.renew.new.tables) c.in_ok-i.i (redo_aimed c.args.tables.now c.args.id c.args.successor) c.in_ok-i.ensures c.renew.ensures (renewed_used t a.examined c.in_ok-i.i a.at.within c.args.successor a.next_run a.next_at) (renewed_step (used_of t) (passes t a.examined) c.in_ok-i.i a.at.within c.args.successor a.next_run a.next_at a.at.listed)

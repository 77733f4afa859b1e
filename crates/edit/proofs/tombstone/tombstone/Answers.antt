use Rattle.std.proofs.Common.{ap, ◌∙◌}
use Rattle.edit.specs.Aims.{aimed}
use Rattle.edit.specs.Edits.{Contents, all_of, tombstoned}
use Rattle.edit.specs.Happenings.{death}
use Rattle.edit.proofs.Aiming.{aimed_ok}
use Rattle.edit.proofs.Ends.{death_step, again_still}
use Rattle.edit.proofs.Happening.{edit_step}
use Rattle.edit.proofs.Uses.{used_of, fault_in, passes, dead_used, dead_fault}
use Rattle.edit.proofs.tombstone.tombstone.Goals as goal

pub returns-clause-again : goal.returns-clause-again
returns-clause-again c = λ j f live. let a = aimed_ok c.args.tables.now c.args.id c.in_ok-i.i c.in_ok-i.ensures in c.kill.ensures ∙ again_still (all_of c.args.tables.now) a.examined c.in_ok-i.i a.at.within (aimed c.args.tables.now c.args.id) c.in_ok-i.ensures j f live

pub returns-clause-examined : goal.returns-clause-examined
returns-clause-examined c = λ _. let a = aimed_ok c.args.tables.now c.args.id c.in_ok-i.i c.in_ok-i.ensures in ap fault_in c.kill.ensures ∙ dead_fault (all_of c.args.tables.now) a.examined c.in_ok-i.i a.at.within

pub returns-clause-step : goal.returns-clause-step
returns-clause-step c =
    let a = aimed_ok c.args.tables.now c.args.id c.in_ok-i.i c.in_ok-i.ensures in
    let t : Contents = all_of c.args.tables.now in
    edit_step tombstoned death t (all_of c.kill.new.tables) c.in_ok-i.i (aimed c.args.tables.now c.args.id) c.in_ok-i.ensures c.kill.ensures (dead_used t a.examined c.in_ok-i.i a.at.within) (death_step (used_of t) (passes t a.examined) c.in_ok-i.i a.at.within a.at.listed)

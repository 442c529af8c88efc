use Rattle.std.proofs.Common.{refl, ap, ◌∙◌}
use Rattle.afs_num.specs.declared.types.Node.TheVariants.{Admin}
use Rattle.afs_schedule.specs.Schedules.{tasks_of}
use Rattle.afs_admins.proofs.Seated.{first_admin}
use Rattle.afs_admins.proofs.admins.AdminSeat.new.Goals as goal

pub returns : goal.returns
returns c = first_admin c.args.script.now c.args.admin _ c.requires.script c.new.ensures.node c.new.ensures.state refl (c.in_ok-of.ensures ∙ ap (tasks_of (Admin c.args.admin)) c.as_slice.ensures) refl

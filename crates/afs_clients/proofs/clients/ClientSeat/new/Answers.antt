use Rattle.std.proofs.Common.{refl, ap, ◌∙◌}
use Rattle.afs_num.specs.declared.types.Node.TheVariants.{Client}
use Rattle.afs_schedule.specs.Schedules.{tasks_of}
use Rattle.afs_clients.proofs.Shortened.{first_client}
use Rattle.afs_clients.proofs.clients.ClientSeat.new.Goals as goal

pub returns : goal.returns
returns c = first_client c.args.script.now c.args.client _ c.requires.script c.in_ok-manager.ensures.node c.in_ok-manager.ensures.state refl (c.in_ok-of.ensures ∙ ap (tasks_of (Client c.args.client)) c.as_slice.ensures) refl

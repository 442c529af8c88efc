use Rattle.std.proofs.Common.{ap, sym, ◌∙◌}
use Rattle.afs_cell.specs.Since.{whole}
use Rattle.afs_cell.specs.Worlds.{WorldState}
use Rattle.afs_cell.proofs.Going.{is_world}
use Rattle.afs_cell.proofs.NextSince.{within_whole}
use Rattle.afs_cell.proofs.world.World.step.Goals as goal

pub is_full-requires : goal.is_full-requires
is_full-requires g c = within_whole g.D.Disk.limit c.requires.world.before c.args.self.now c.requires.world.is c.requires.world.world.safe

pub play_event-requires-clause-safe : goal.play_event-requires-clause-safe
play_event-requires-clause-safe g c = record { before = c.requires.world.before; is = c.requires.world.is; safe = c.requires.world.world.safe }

pub returns-clause-world : goal.returns-clause-world
returns-clause-world g c = λ before is world.
    is_world g.D.Disk.seen g.D.Disk.may_leave g.D.Disk.faults g.D.Disk.limit c.args.self.now.script _ (whole before c.args.self.now) (whole before c.play_event.new.self) c.play_event.result
    (sym (ap (λ (w : WorldState g.row.D.Denot). w.is_lost) c.self.view_is) ∙ c.if-self.false) world (c.play_event.ensures.plays.stepped before is world.safe)

pub returns-clause-steps : goal.returns-clause-steps
returns-clause-steps g c = λ before is world. (c.play_event.ensures.plays.stepped before is world.safe).steps

pub returns-clause-counts : goal.returns-clause-counts
returns-clause-counts g c = (c.play_event.ensures.plays.stepped c.requires.world.before c.requires.world.is c.requires.world.world.safe).counts

pub returns-clause-keeps : goal.returns-clause-keeps
returns-clause-keeps g c = c.play_event.ensures.plays.keeps

pub returns-clause-tells : goal.returns-clause-tells
returns-clause-tells g c = (c.play_event.ensures.plays.stepped c.requires.world.before c.requires.world.is c.requires.world.world.safe).tells

pub returns-clause-clock : goal.returns-clause-clock
returns-clause-clock g c = c.play_event.ensures.plays.clock

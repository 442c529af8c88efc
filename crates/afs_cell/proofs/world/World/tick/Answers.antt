use Rattle.std.proofs.Common.{ap, ◌+◌}
use Rattle.afs_cell.specs.Worlds.{WorldState}
use Rattle.afs_cell.proofs.Since.{keeps_ticked, ticked_since}
use Rattle.afs_cell.proofs.world.World.tick.Goals as goal

pub returns-clause-stepped : goal.returns-clause-stepped
returns-clause-stepped g c =
    ticked_since g.D.Disk.seen g.D.Disk.may_leave g.D.Disk.faults g.D.Disk.limit c.args.ticks c.args.self.now _ c.in_ok-note.ensures _
    (ap (λ (w : WorldState g.row.D.Denot). record w { clock = w.clock + c.args.ticks }) c.self.view_is) c.requires.some c.requires.going c.requires.few c.requires.within

pub returns-clause-keeps : goal.returns-clause-keeps
returns-clause-keeps g c =
    keeps_ticked c.args.ticks c.args.self.now _ _ c.in_ok-note.ensures (ap (λ (w : WorldState g.row.D.Denot). record w { clock = w.clock + c.args.ticks }) c.self.view_is)

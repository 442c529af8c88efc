use Rattle.std.proofs.Common.{◌+◌, ◌-◌, length}
use Rattle.afs_cell.specs.Worlds.{most_history_entries, AllTell}
use Rattle.afs_cell.specs.Counted.{CountsOn}
use Rattle.afs_cell.proofs.made.play.Given as goal

abbrev pub invariant-loop-world : goal.invariant-loop-world
invariant-loop-world g l = CountsOn g.D.Disk.seen g.D.Disk.may_leave g.D.Disk.faults g.D.Disk.limit l.fn.world.script (AllTell g.D.Disk.seen l.fn.world) l.world l.schedule l.counts

abbrev pub decreases-loop-world : goal.decreases-loop-world
decreases-loop-world g l = most_history_entries - (l.world.gone.entries + length l.world.history)

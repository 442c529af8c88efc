use Rattle.std.proofs.Common.{◌+◌, ◌-◌, length}
use Rattle.afs_cell.specs.Worlds.{most_history_entries, AllTell}
use Rattle.afs_cell.specs.Writing.{PlaysOn}
use Rattle.afs_cell.proofs.writing.play.Given as goal

abbrev pub invariant-loop-sink : goal.invariant-loop-sink
invariant-loop-sink g l =
    PlaysOn g.D.Disk.seen g.D.Disk.may_leave g.D.Disk.faults g.D.Disk.limit l.fn.world.script l.wire (AllTell g.D.Disk.seen l.fn.world) (g.K.Sink.held l.fn.sink) (g.K.Sink.held l.sink) (g.K.Sink.faults l.fn.sink) (g.K.Sink.faults l.sink) l.world l.schedule l.written

abbrev pub decreases-loop-sink : goal.decreases-loop-sink
decreases-loop-sink g l = most_history_entries - (l.world.gone.entries + length l.world.history)

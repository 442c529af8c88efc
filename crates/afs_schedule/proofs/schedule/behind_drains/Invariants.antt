use Rattle.std.proofs.Common.{◌≡◌, None, length}
use Rattle.afs_schedule.specs.Schedules.{next_event}
use Rattle.afs_schedule.proofs.schedule.behind_drains.Given as goal

abbrev pub invariant-loop-rest : goal.invariant-loop-rest
invariant-loop-rest l = next_event None l.left ≡ next_event None l.events

abbrev pub decreases-loop-rest : goal.decreases-loop-rest
decreases-loop-rest l = length l.left

use Rattle.std.proofs.Common.{◌≡◌, flat_map, take}
use Rattle.afs_generate.specs.Generated.{played}
use Rattle.afs_generate.proofs.generate.schedule.Given as goal

abbrev pub invariant-loop-task : goal.invariant-loop-task
invariant-loop-task l = l.events ≡ flat_map played (take l.task-index l.tasks)

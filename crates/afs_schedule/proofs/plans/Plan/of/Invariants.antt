use Rattle.std.proofs.Common.{◌≡◌, ◌++◌, drop, map}
use Rattle.afs_schedule.specs.Schedules.{tasks_of}
use Rattle.afs_schedule.proofs.plans.Plan.of.Given as goal

abbrev pub invariant-loop-task : goal.invariant-loop-task
invariant-loop-task l = map (λ t. t.now) l.own.items ++ tasks_of l.node (drop l.task-index l.tasks) ≡ tasks_of l.fn.node l.fn.tasks

use Rattle.std.proofs.Common.{◌≡◌, drop}
use Rattle.spec_rows.specs.Callbacks.{ends_all}
use Rattle.afs_callbacks.proofs.hearing.settle_all.Given as goal

abbrev pub invariant-loop-owed : goal.invariant-loop-owed
invariant-loop-owed l = ends_all (drop l.owed-index l.breaks) l.promises ≡ ends_all l.breaks l.fn.promises

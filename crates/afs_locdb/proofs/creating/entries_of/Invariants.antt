use Rattle.std.proofs.Common.{◌≡◌, ◌++◌, drop}
use Rattle.spec_records.specs.LocDurable.{lines_listed}
use Rattle.afs_locdb.proofs.creating.entries_of.Given as goal

abbrev pub invariant-loop-line : goal.invariant-loop-line
invariant-loop-line l = l.entries ++ lines_listed (drop l.line-index l.volumes) ≡ lines_listed l.volumes

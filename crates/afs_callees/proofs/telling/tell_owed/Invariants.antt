use Rattle.std.proofs.Common.{◌≡◌, ◌++◌, map, take}
use Rattle.spec_rows.specs.Callbacks.{owe_line}
use Rattle.afs_callees.proofs.telling.tell_owed.Given as goal

abbrev pub invariant-loop-owed : goal.invariant-loop-owed
invariant-loop-owed l = l.lines ≡ l.fn.lines ++ map (owe_line l.server) (take l.owed-index l.breaks)

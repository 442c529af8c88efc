use Rattle.std.proofs.Common.{◌≡◌, ◌++◌, map, take}
use Rattle.spec_rows.specs.Callbacks.{quit_line}
use Rattle.afs_callees.proofs.telling.tell_quit.Given as goal

abbrev pub invariant-loop-owed : goal.invariant-loop-owed
invariant-loop-owed l = l.lines ≡ l.fn.lines ++ map (quit_line l.server l.client) (take l.owed-index l.breaks)

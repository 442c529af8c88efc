use Rattle.std.proofs.Common.{◌≡◌, drop}
use Rattle.std.specs.List.{All}
use Rattle.afs_server_parts.specs.Turning.{breaks_left, IsBreakToNode}
use Rattle.afs_server_parts.proofs.owed.end_breaks.Given as goal

abbrev pub invariant-loop-one : goal.invariant-loop-one
invariant-loop-one l = record {
  left : breaks_left (drop l.one-index l.breaks) l.owed.items ≡ breaks_left l.breaks l.fn.owed.items;
  nodes : All IsBreakToNode l.fn.owed.items → All IsBreakToNode l.owed.items;
}

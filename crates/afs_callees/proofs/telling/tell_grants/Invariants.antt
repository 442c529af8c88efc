use Rattle.std.proofs.Common.{◌≡◌, ◌++◌, map, take}
use Rattle.afs_callees.specs.Telling.{grant_line}
use Rattle.afs_callees.proofs.telling.tell_grants.Given as goal

abbrev pub invariant-loop-grant : goal.invariant-loop-grant
invariant-loop-grant l = l.lines ≡ l.fn.lines ++ map (grant_line l.server l.client l.expiry) (take l.grant-index l.grants)

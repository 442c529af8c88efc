use Rattle.std.proofs.Common.{◌≡◌, ◌++◌, drop}
use Rattle.indexmap.specs.IndexMap.{get}
use Rattle.afs_promise.specs.Gathered.{found_by}
use Rattle.afs_promise.specs.Granting.{same_holding}
use Rattle.afs_promise.proofs.by_client.found_by.Given as goal

abbrev pub invariant-loop-client : goal.invariant-loop-client
invariant-loop-client l = l.found.items ++ found_by (get same_holding l.latest) l.except l.fid (drop l.client-index l.clients) ≡ found_by (get same_holding l.latest) l.except l.fid l.clients

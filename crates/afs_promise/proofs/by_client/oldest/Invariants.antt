use Rattle.std.proofs.Common.{◌≡◌, None, drop}
use Rattle.indexmap.specs.IndexMap.{get}
use Rattle.afs_promise.specs.Granting.{same_holding, oldest}
use Rattle.afs_promise.proofs.by_client.oldest.Given as goal

abbrev pub invariant-loop-client : goal.invariant-loop-client
invariant-loop-client l = oldest (get same_holding l.latest) l.except l.fid l.best (drop l.client-index l.clients) ≡ oldest (get same_holding l.latest) l.except l.fid None l.clients

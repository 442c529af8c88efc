use Rattle.std.proofs.Common.{◌≡◌, ◌++◌, ◌≤◌, drop}
use Rattle.std.specs.Vec.{vec_capacity}
use Rattle.indexmap.specs.IndexMap.{get}
use Rattle.afs_promise.specs.Granting.{same_holding, held_on}
use Rattle.afs_promise.proofs.log.gather.Given as goal

abbrev pub invariant-loop-grant : goal.invariant-loop-grant
invariant-loop-grant l = record {
  grants : l.gone.items ++ held_on (get same_holding l.latest) l.volume (drop l.grant-index l.log) ≡ l.fn.gone.items ++ held_on (get same_holding l.latest) l.volume l.log;
  capacity : vec_capacity l.fn.gone ≤ vec_capacity l.gone;
}

use Rattle.std.proofs.Common.{◌≡◌, drop}
use Rattle.afs_promise.proofs.Volumes.{without_all}
use Rattle.afs_promise.proofs.grants.Grants.take_volume.Given as goal

abbrev pub invariant-loop-grant : goal.invariant-loop-grant
invariant-loop-grant l = record {
  rest : without_all (drop l.grant-index l.grant-items) l.self.promises ≡ without_all l.grant-items l.initial.self.promises;
  room : l.self.room ≡ l.initial.self.room;
}

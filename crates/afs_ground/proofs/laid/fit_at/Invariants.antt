use Rattle.std.proofs.Common.{◌≡◌, drop, nat_le}
use Rattle.afs_ground.specs.Grounds.{sizes_at}
use Rattle.afs_ground.proofs.laid.fit_at.Given as goal

abbrev pub invariant-loop-laid : goal.invariant-loop-laid
invariant-loop-laid l = nat_le (sizes_at l.server (drop l.laid-index l.volumes)) l.left ≡ nat_le (sizes_at l.server l.volumes) l.room

use Rattle.std.proofs.Common.{◌≡◌, drop, nat_le}
use Rattle.afs_ground.specs.Grounds.{names_size}
use Rattle.afs_ground.proofs.laid.names_fit.Given as goal

abbrev pub invariant-loop-laid : goal.invariant-loop-laid
invariant-loop-laid l = nat_le (names_size (drop l.laid-index l.volumes)) l.left ≡ nat_le (names_size l.volumes) l.room

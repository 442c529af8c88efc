use Rattle.std.proofs.Common.{arith}
use Rattle.afs_wire.proofs.Forward.{came_forward}
use Rattle.afs_wire.proofs.wire.bring_forward.Goals as goal

pub returns-clause-front : goal.returns-clause-front
returns-clause-front c = came_forward c.args.parcels.now c.loop-i.parcels c.args.first c.loop-i.i c.requires c.loop-i.invariant.len (omega (arith, c.loop-i-test.false)) c.loop-i.invariant.front

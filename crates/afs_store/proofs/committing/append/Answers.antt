use Rattle.std.proofs.Common.{arith, rules}
use Rattle.afs_store.proofs.committing.append.Goals as goal

pub unreachable-requires : goal.unreachable-requires
unreachable-requires g c =
    let room = c.requires.room c.requires.open in
    let full = (c.append.ensures.full c.in-Err-Full.field-0-0 c.in-Err-Full.field-0-1).0 (search rules) in
    omega (arith, room.0, full.1, full.2, full.3)

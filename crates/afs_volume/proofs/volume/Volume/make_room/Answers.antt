use Rattle.std.proofs.Common.{◌∙◌, arith}
use Rattle.afs_volume.proofs.volume.Volume.make_room.Goals as goal

pub invariant_of-self : goal.invariant_of-self
invariant_of-self c =
    let v = c.args.self.now in
    rw c.room_for.ensures.table (record { fits = v.fits; readable = v.readable; listed = λ n. c.room_for.ensures.same n ∙ v.listed n; counted = v.counted; sound = v.sound })

pub returns-clause-kept : goal.returns-clause-kept
returns-clause-kept c n h =
    let vnodes = c.room_for.ensures.kept in
    let dirs = c.room_for.ensures.dirs_kept in
    let before = h.vnodes in
    let names = h.dirs in
    record { vnodes = omega (arith, vnodes, before); dirs = omega (arith, dirs, names) }

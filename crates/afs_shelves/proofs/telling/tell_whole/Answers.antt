use Rattle.std.proofs.Common.{◌≤◌, length, rules}
use Rattle.afs_shelves.proofs.Told.{whole_told}
use Rattle.afs_shelves.proofs.telling.tell_whole.Goals as goal

pub returns-clause-told : goal.returns-clause-told
returns-clause-told c =
    let v = c.args.shelf.now.volume in
    let end : length v.vnodes.table ≤ c.loop-place.place = search rules in
    whole_told c.args.server v.head.id c.loop-place.place v.vnodes.table c.args.lines.now c.loop-place.lines c.loop-place.invariant.told end

use Rattle.std.proofs.Common.{◌≡◌, ◌≤◌, Some, slice_get, subst, sym, rules}
use Rattle.std.proofs.Common.{ℕ}
use Rattle.afs_volume.specs.Assembling.{IsReadablePlace}
use Rattle.afs_volume.specs.Seen.{IsReadable}
use Rattle.afs_volume.proofs.Taken.{few_blocks}
use Rattle.afs_volume.proofs.assembling.blocks_in_place.Goals as goal

pub blocks_of-requires : goal.blocks_of-requires
blocks_of-requires c =
    let there : slice_get c.args.vnodes.now.table c.args.place ≡ Some (c.in-Some.x.now.vnode, c.in-Some.x.now) = search rules in
    subst IsReadablePlace there c.requires

pub returns-in-Some-clause-few : goal.returns-in-Some-clause-few
returns-in-Some-clause-few c =
    let there : slice_get c.args.vnodes.now.table c.args.place ≡ Some (c.in-Some.x.now.vnode, c.in-Some.x.now) = search rules in
    let read : IsReadable c.in-Some.x.now = subst IsReadablePlace there c.requires in
    subst (λ (n : ℕ). n ≤ 2048) (sym c.blocks_of.ensures.value) (few_blocks c.in-Some.x.now read (search rules))

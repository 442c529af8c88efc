use Rattle.std.proofs.Common.{◌≡◌, Some, slice_get, rules}
use Rattle.afs_shelves.specs.Shelving.{shelved}
use Rattle.afs_volstore.proofs.store.VolStore.volume_at.Goals as goal

pub returns-in-Some-clause-some : goal.returns-in-Some-clause-some
returns-in-Some-clause-some g c =
    let s = c.in-Some.shelf.now in
    let there : slice_get c.args.self.now.durable.volumes c.args.place ≡ Some (s.volume.head.id, shelved s) = search rules in
    (s.is_new, there)

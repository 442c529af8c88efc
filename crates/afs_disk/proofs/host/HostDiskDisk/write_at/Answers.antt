use Rattle.std.proofs.Common.{length, sym, subst}
use Rattle.afs_disk.specs.declared.host.HostDisk.{HostDisk}
use Rattle.afs_disk.specs.Hosts.{host_leaves}
use Rattle.afs_disk.proofs.Painting.{torn_same}
use Rattle.afs_disk.proofs.host.HostDiskDisk.write_at.Goals as goal

pub returns-in-Memory-clause-crash : goal.returns-in-Memory-clause-crash
returns-in-Memory-clause-crash c = λ x left.
    let from = c.write_at.ensures.crash x left in
    (from.0, subst (λ (d : HostDisk). host_leaves d from.0) (sym c.in-Memory.is) from.1, from.2)

pub returns-in-File-clause-crash : goal.returns-in-File-clause-crash
returns-in-File-clause-crash c = λ x left. (x, subst (λ (d : HostDisk). host_leaves d x) (sym c.in-File.is) tt, torn_same c.args.at (length c.args.bytes.now) x)

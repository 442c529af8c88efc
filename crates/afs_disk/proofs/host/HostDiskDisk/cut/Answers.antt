use Rattle.std.proofs.Common.{sym, subst}
use Rattle.afs_disk.specs.declared.host.HostDisk.{HostDisk}
use Rattle.afs_disk.specs.Hosts.{host_leaves}
use Rattle.afs_disk.proofs.Painting.{cut_same}
use Rattle.afs_disk.proofs.host.HostDiskDisk.cut.Goals as goal

pub returns-in-Memory-clause-crash : goal.returns-in-Memory-clause-crash
returns-in-Memory-clause-crash c = λ x left.
    let from = c.cut.ensures.crash x left in
    (from.0, subst (λ (d : HostDisk). host_leaves d from.0) (sym c.in-Memory.is) from.1, from.2)

pub returns-in-File-clause-crash : goal.returns-in-File-clause-crash
returns-in-File-clause-crash c = λ x left. (x, subst (λ (d : HostDisk). host_leaves d x) (sym c.in-File.is) tt, cut_same c.args.len x)

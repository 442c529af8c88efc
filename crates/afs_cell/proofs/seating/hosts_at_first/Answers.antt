use Rattle.std.proofs.Common.{arith, ap, sym, ◌∙◌, List, length}
use Rattle.afs_disk.specs.declared.disks.Lent.{Lent}
use Rattle.afs_cell.proofs.FirstHosts.{are_first, comes_first, first_refused, later_refused}
use Rattle.afs_cell.proofs.seating.hosts_at_first.Goals as goal

pub take_first-node-requires : goal.take_first-node-requires
take_first-node-requires g c =
    let all = ap (λ (ls : List (Lent g.row.D.Denot)). length ls) c.into_vec-disks.ensures in
    record { some = omega (arith, all, c.requires.all) }

pub database_at_first-requires-clause-capacity : goal.database_at_first-requires-clause-capacity
database_at_first-requires-clause-capacity g c =
    let first = comes_first g.D.Disk.seen g.D.Disk.may_leave g.D.Disk.faults g.D.Disk.limit c.args.script.now c.args.disks c.into_vec-disks.result.items c.take_first-node.result c.take_first-node.new.disks.items c.requires.disks c.requires.all c.into_vec-disks.ensures c.take_first-node.ensures.items in
    first.room

pub servers_at_first-requires-clause-disks : goal.servers_at_first-requires-clause-disks
servers_at_first-requires-clause-disks g c =
    let first = comes_first g.D.Disk.seen g.D.Disk.may_leave g.D.Disk.faults g.D.Disk.limit c.args.script.now c.args.disks c.into_vec-disks.result.items c.take_first-node.result c.take_first-node.new.disks.items c.requires.disks c.requires.all c.into_vec-disks.ensures c.take_first-node.ensures.items in
    first.others

pub servers_at_first-requires-clause-all : goal.servers_at_first-requires-clause-all
servers_at_first-requires-clause-all g c =
    let first = comes_first g.D.Disk.seen g.D.Disk.may_leave g.D.Disk.faults g.D.Disk.limit c.args.script.now c.args.disks c.into_vec-disks.result.items c.take_first-node.result c.take_first-node.new.disks.items c.requires.disks c.requires.all c.into_vec-disks.ensures c.take_first-node.ensures.items in
    first.count

pub returns-in-Err-clause-back : goal.returns-in-Err-clause-back
returns-in-Err-clause-back g c =
    let first = comes_first g.D.Disk.seen g.D.Disk.may_leave g.D.Disk.faults g.D.Disk.limit c.args.script.now c.args.disks c.into_vec-disks.result.items c.take_first-node.result c.take_first-node.new.disks.items c.requires.disks c.requires.all c.into_vec-disks.ensures c.take_first-node.ensures.items in
    (first_refused g.D.Disk.seen g.D.Disk.may_leave g.D.Disk.faults g.D.Disk.limit c.args.script.now c.args.disks c.take_first-node.result c.take_first-node.new.disks.items c.from_vec.result c.in-Err.fault c.in-Err.disk first c.in-Err.ensures.err (c.from_vec.ensures ∙ c.put_first.ensures)).lent

pub returns-in-Err-clause-cause : goal.returns-in-Err-clause-cause
returns-in-Err-clause-cause g c =
    let first = comes_first g.D.Disk.seen g.D.Disk.may_leave g.D.Disk.faults g.D.Disk.limit c.args.script.now c.args.disks c.into_vec-disks.result.items c.take_first-node.result c.take_first-node.new.disks.items c.requires.disks c.requires.all c.into_vec-disks.ensures c.take_first-node.ensures.items in
    (first_refused g.D.Disk.seen g.D.Disk.may_leave g.D.Disk.faults g.D.Disk.limit c.args.script.now c.args.disks c.take_first-node.result c.take_first-node.new.disks.items c.from_vec.result c.in-Err.fault c.in-Err.disk first c.in-Err.ensures.err (c.from_vec.ensures ∙ c.put_first.ensures)).refused

pub returns-in-Err-clause-left : goal.returns-in-Err-clause-left
returns-in-Err-clause-left g c =
    let first = comes_first g.D.Disk.seen g.D.Disk.may_leave g.D.Disk.faults g.D.Disk.limit c.args.script.now c.args.disks c.into_vec-disks.result.items c.take_first-node.result c.take_first-node.new.disks.items c.requires.disks c.requires.all c.into_vec-disks.ensures c.take_first-node.ensures.items in
    (first_refused g.D.Disk.seen g.D.Disk.may_leave g.D.Disk.faults g.D.Disk.limit c.args.script.now c.args.disks c.take_first-node.result c.take_first-node.new.disks.items c.from_vec.result c.in-Err.fault c.in-Err.disk first c.in-Err.ensures.err (c.from_vec.ensures ∙ c.put_first.ensures)).left

pub returns-in-Err-servers_at_first-clause-cause : goal.returns-in-Err-servers_at_first-clause-cause
returns-in-Err-servers_at_first-clause-cause g c =
    let first = comes_first g.D.Disk.seen g.D.Disk.may_leave g.D.Disk.faults g.D.Disk.limit c.args.script.now c.args.disks c.into_vec-disks.result.items c.take_first-node.result c.take_first-node.new.disks.items c.requires.disks c.requires.all c.into_vec-disks.ensures c.take_first-node.ensures.items in
    (later_refused g.D.Disk.seen g.D.Disk.may_leave g.D.Disk.faults g.D.Disk.limit c.args.script.now c.args.disks c.take_first-node.result c.take_first-node.new.disks.items c.from_vec-in-Err-servers_at_first.result c.in-Err-servers_at_first.back.items c.in-Err-servers_at_first.fault c.in-Ok.database c.into_disk.result first c.in-Ok.ensures.ok c.into_disk.ensures.value
    c.in-Err-servers_at_first.ensures.back c.in-Err-servers_at_first.ensures.cause c.in-Err-servers_at_first.ensures.left (c.from_vec-in-Err-servers_at_first.ensures ∙ c.put_first-in-Err-servers_at_first.ensures)).refused

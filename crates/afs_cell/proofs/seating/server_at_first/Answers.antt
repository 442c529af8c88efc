use Rattle.std.proofs.Common.{ap, sym, ◌∙◌, arith}
use Rattle.afs_disk.specs.Fuses.{Fused}
use Rattle.afs_volstore.specs.Stores.{Store}
use Rattle.afs_cell.proofs.FirstStores.{first_is_node, first_server, node_serves, unseated_with}
use Rattle.afs_cell.proofs.seating.server_at_first.Goals as goal

pub new-requires-clause-node : goal.new-requires-clause-node
new-requires-clause-node g c = first_is_node g.D.Disk.seen g.D.Disk.may_leave g.D.Disk.faults g.D.Disk.limit c.args.script.now c.args.server c.requires.script c.args.disk c.in_ok-store.store c.requires.server.0 c.requires.server.1 c.in_ok-store.ensures.ok

pub over-requires-clause-serves : goal.over-requires-clause-serves
over-requires-clause-serves g c =
    node_serves g.D.Disk.seen g.D.Disk.may_leave g.D.Disk.faults g.D.Disk.limit c.args.script.now c.args.server c.requires.script c.args.disk c.in_ok-store.store c.in-Ok.memory c.requires.server.0 c.requires.server.1 c.in_ok-store.ensures.ok c.in-Ok.ensures.file c.in-Ok.ensures.volumes

pub returns-in-Ok-clause-ok : goal.returns-in-Ok-clause-ok
returns-in-Ok-clause-ok g c =
    first_server g.D.Disk.seen g.D.Disk.may_leave g.D.Disk.faults g.D.Disk.limit c.args.script.now c.args.server c.args.disk c.in_ok-store.store c.in-Ok.memory c.over.result c.in_ok-store.ensures.ok c.in-Ok.ensures.file c.in-Ok.ensures.vol c.over.ensures.value c.over.ensures.can_run

pub returns-in-Err-clause-err : goal.returns-in-Err-clause-err
returns-in-Err-clause-err g c =
    unseated_with g.D.Disk.seen g.D.Disk.may_leave g.D.Disk.faults g.D.Disk.limit c.args.script.now c.args.server c.args.disk c.in_ok-store.store c.in_ok-store.ensures.ok c.into_inner.result (c.into_inner.ensures ∙ ap (λ (f : Fused g.row.D.Denot). f.disk) c.into_disk.ensures)

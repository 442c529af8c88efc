use Rattle.std.proofs.Common.{◌≡◌, refl, subst}
use Rattle.spec_model.specs.Messages.{received_by}
use Rattle.afs_num.specs.declared.messages.Received.{Received}
use Rattle.spec_volrows.specs.FileRow.{file_decides}
use Rattle.afs_server.specs.Handling.{calls_served, decided_then, holds_seen, server_seen, turned_then}
use Rattle.afs_server.specs.Putting.{Took}
use Rattle.afs_saving.proofs.Still.{out_of_memory}
use Rattle.afs_server.proofs.Taken.{wants_took}
use Rattle.afs_server.proofs.server.FileServer.take_bytes.Goals as goal

pub returns : goal.returns
returns g c =
    let s = c.args.store.now in
    let old = c.args.self.now in
    let value : c.in_ok-received.received ≡ received_by calls_served c.args.bytes.now = c.in_ok-received.ensures.value in
    subst (λ (m : Received). let d = file_decides s.node (holds_seen s) (server_seen old s) c.args.now m in Took g.D.Disk c.args.now d (turned_then old s c.args.now d m) old c.take.new.self s c.take.new.store c.take.result)
    value c.take.ensures

pub returns-in_err-received : goal.returns-in_err-received
returns-in_err-received g c =
    let s = c.args.store.now in
    let old = c.args.self.now in
    let d = decided_then old s c.args.now c.args.bytes.now in
    wants_took g.D.Disk c.args.now d (turned_then old s c.args.now d (received_by calls_served c.args.bytes.now)) old old s s c.from_residual.result (out_of_memory c.from_residual.result c.from_residual.ensures.1) (refl, refl)

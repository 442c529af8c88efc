use Rattle.std.proofs.Common.{refl}
use Rattle.spec_volrows.specs.FileRow.{file_called}
use Rattle.afs_server.specs.Handling.{holds_seen, server_seen, turn_then}
use Rattle.afs_saving.proofs.Still.{out_of_memory}
use Rattle.afs_server.proofs.Taken.{wants_took}
use Rattle.afs_server.proofs.server.FileServer.take_call.Goals as goal

pub take_decided-requires-clause-decided : goal.take_decided-requires-clause-decided
take_decided-requires-clause-decided g c = (file_called c.args.store.now.node (holds_seen c.args.store.now) (server_seen c.args.self.now c.args.store.now) c.args.now c.args.head.now c.args.received.now, c.in_ok-decided.ensures)

pub returns : goal.returns
returns g c = c.take_decided.ensures (file_called c.args.store.now.node (holds_seen c.args.store.now) (server_seen c.args.self.now c.args.store.now) c.args.now c.args.head.now c.args.received.now) c.in_ok-decided.ensures.decision.decides

pub returns-in_err-decided : goal.returns-in_err-decided
returns-in_err-decided g c =
    let s = c.args.store.now in
    let old = c.args.self.now in
    let d = file_called s.node (holds_seen s) (server_seen old s) c.args.now c.args.head.now c.args.received.now in
    wants_took g.D.Disk c.args.now d (turn_then old s c.args.now d) old old s s c.from_residual.result (out_of_memory c.from_residual.result c.from_residual.ensures.1) (refl, refl)

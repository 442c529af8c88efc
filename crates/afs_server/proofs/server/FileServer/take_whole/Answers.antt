use Rattle.spec_rows.specs.Callbacks as row
use Rattle.spec_rows.specs.ServerRow.{Decision}
use Rattle.afs_server.specs.Handling.{holds_seen, server_seen}
use Rattle.afs_server.specs.Putting.{Took}
use Rattle.afs_server.specs.Seen.{backs_seen}
use Rattle.afs_server.proofs.Taken.{in_call}
use Rattle.afs_server.proofs.server.FileServer.take_whole.Goals as goal

pub returns-in-Call : goal.returns-in-Call
returns-in-Call g c =
    let s = c.args.store.now in
    let old = c.args.self.now in
    in_call (λ (d : Decision) (t : row.CallbackStep). Took g.D.Disk c.args.now d t old c.take_call.new.self s c.take_call.new.store c.take_call.result) s.node (holds_seen s) (server_seen old s) c.args.now (row.expired c.args.now (backs_seen old s.drawn)) c.args.received.now c.args.message.now c.in-Call.user c.in-Call.call c.requires.whole c.in-Call.is c.take_call.ensures

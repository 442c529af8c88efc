use Rattle.spec_rows.specs.Callbacks as row
use Rattle.spec_rows.specs.ServerRow.{Decision}
use Rattle.afs_server.specs.Handling.{holds_seen, server_seen}
use Rattle.afs_server.specs.Putting.{Took}
use Rattle.afs_server.specs.Seen.{backs_seen}
use Rattle.afs_server.proofs.Taken.{in_unreadable, in_unserved}
use Rattle.afs_server.proofs.server.FileServer.take.Goals as goal

pub returns-in-Unserved : goal.returns-in-Unserved
returns-in-Unserved g c =
    let s = c.args.store.now in
    let old = c.args.self.now in
    in_unserved (λ (d : Decision) (t : row.CallbackStep). Took g.D.Disk c.args.now d t old c.take_call.new.self s c.take_call.new.store c.take_call.result) s.node (holds_seen s) (server_seen old s) c.args.now (row.expired c.args.now (backs_seen old s.drawn)) c.args.received.now c.in-Unserved.head c.in-Unserved.is c.take_call.ensures

pub returns-in-Unreadable : goal.returns-in-Unreadable
returns-in-Unreadable g c =
    let s = c.args.store.now in
    let old = c.args.self.now in
    in_unreadable (λ (d : Decision) (t : row.CallbackStep). Took g.D.Disk c.args.now d t old c.take_call-in-Unreadable.new.self s c.take_call-in-Unreadable.new.store c.take_call-in-Unreadable.result) s.node (holds_seen s) (server_seen old s) c.args.now (row.expired c.args.now (backs_seen old s.drawn)) c.args.received.now c.in-Unreadable.head c.in-Unreadable.is c.take_call-in-Unreadable.ensures

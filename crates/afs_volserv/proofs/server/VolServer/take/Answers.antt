use Rattle.spec_volrows.specs.VolSteps.{VolDecision, VolTurn}
use Rattle.afs_volserv.specs.Handling.{backs_then, TookVolumes}
use Rattle.afs_volserv.specs.Seen.{durable_seen, vol_seen}
use Rattle.afs_volserv.proofs.Taken.{in_unreadable, in_unserved}
use Rattle.afs_sharing.specs.Lasting.{lasting_of}
use Rattle.afs_volserv.proofs.server.VolServer.take.Goals as goal

pub returns-in-Unserved : goal.returns-in-Unserved
returns-in-Unserved g c =
    let s = c.args.store.now in
    let k = c.args.callbacks.now in
    let old = c.args.self.now in
    in_unserved (λ (d : VolDecision) (t : VolTurn). TookVolumes g.D.Disk d t old c.take_call.new.self k c.take_call.new.callbacks s c.take_call.new.store c.take_call.result) s.node (lasting_of s.durable) (durable_seen s) (vol_seen old) (backs_then k s c.args.now) c.args.received.now c.in-Unserved.head c.in-Unserved.is c.take_call.ensures

pub returns-in-Unreadable : goal.returns-in-Unreadable
returns-in-Unreadable g c =
    let s = c.args.store.now in
    let k = c.args.callbacks.now in
    let old = c.args.self.now in
    in_unreadable (λ (d : VolDecision) (t : VolTurn). TookVolumes g.D.Disk d t old c.take_call-in-Unreadable.new.self k c.take_call-in-Unreadable.new.callbacks s c.take_call-in-Unreadable.new.store c.take_call-in-Unreadable.result) s.node (lasting_of s.durable) (durable_seen s) (vol_seen old) (backs_then k s c.args.now) c.args.received.now c.in-Unreadable.head c.in-Unreadable.is c.take_call-in-Unreadable.ensures

use Rattle.afs_volanswers.specs.Deciding.{full_then}
use Rattle.afs_volserv.specs.Seen.{durable_seen, vol_seen}
use Rattle.afs_volserv.proofs.server.VolServer.take_decided.Goals as goal

pub returns-then-leaves_disk : goal.returns-then-leaves_disk
returns-then-leaves_disk g c = c.take_answered.ensures (full_then (durable_seen c.args.store.now) (vol_seen c.args.self.now) c.args.head.now c.args.received.now)

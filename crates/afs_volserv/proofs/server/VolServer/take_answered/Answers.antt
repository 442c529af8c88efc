use Rattle.afs_saving.proofs.Still.{out_of_memory}
use Rattle.afs_volanswers.specs.Deciding.{decision_of}
use Rattle.afs_volserv.specs.Handling.{vol_turn_then}
use Rattle.afs_volserv.specs.Seen.{durable_seen, vol_seen}
use Rattle.afs_volserv.proofs.Taken.{none_recorded, steps_took, wants_took}
use Rattle.afs_volserv.proofs.server.VolServer.take_answered.Goals as goal

pub returns : goal.returns
returns g c full =
    let s = c.args.store.now in
    let k = c.args.callbacks.now in
    let old = c.args.self.now in
    let d = decision_of (durable_seen s) (vol_seen old) c.args.head.now full c.args.decided in
    let none = none_recorded (durable_seen s) (vol_seen old) c.args.head.now full c.args.decided c.requires.leaves in
    steps_took g.D.Disk d (vol_turn_then old k s c.args.now d) old c.answer_decided.new.self k c.answer_decided.new.callbacks s c.answer_decided.new.store c.in_ok-outs.outs none (c.in_ok-outs.ensures full)

pub returns-in_err-outs : goal.returns-in_err-outs
returns-in_err-outs g c full =
    let s = c.args.store.now in
    let k = c.args.callbacks.now in
    let old = c.args.self.now in
    let d = decision_of (durable_seen s) (vol_seen old) c.args.head.now full c.args.decided in
    wants_took g.D.Disk d (vol_turn_then old k s c.args.now d) old c.answer_decided.new.self k c.answer_decided.new.callbacks s c.answer_decided.new.store c.from_residual.result (out_of_memory c.from_residual.result c.from_residual.ensures.1) (c.in_err-outs.ensures full)

use Rattle.std.proofs.Common.{refl, subst}
use Rattle.afs_saving.proofs.Still.{out_of_memory}
use Rattle.spec_volrows.specs.VolSteps.{vol_called, VolDecision}
use Rattle.afs_volserv.specs.Handling.{vol_turn_then, TookVolumes}
use Rattle.afs_volserv.specs.Seen.{durable_seen, vol_seen}
use Rattle.afs_volserv.proofs.Taken.{wants_took}
use Rattle.afs_volserv.proofs.server.VolServer.take_call.Goals as goal

pub returns : goal.returns
returns g c =
    let s = c.args.store.now in
    let k = c.args.callbacks.now in
    let old = c.args.self.now in
    subst (λ (d : VolDecision). TookVolumes g.D.Disk d (vol_turn_then old k s c.args.now d) old c.take_decided.new.self k c.take_decided.new.callbacks s c.take_decided.new.store c.take_decided.result)
    c.in_ok-decided.ensures.decides c.take_decided.ensures

pub returns-in_err-decided : goal.returns-in_err-decided
returns-in_err-decided g c =
    let s = c.args.store.now in
    let k = c.args.callbacks.now in
    let old = c.args.self.now in
    let d = vol_called s.node (durable_seen s) (vol_seen old) c.args.head.now c.args.received.now in
    wants_took g.D.Disk d (vol_turn_then old k s c.args.now d) old old k k s s c.from_residual.result (out_of_memory c.from_residual.result c.from_residual.ensures.1) (refl, (refl, refl))

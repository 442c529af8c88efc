use Rattle.std.proofs.Common.{refl}
use Rattle.afs_saving.proofs.Still.{out_of_memory}
use Rattle.spec_volrows.specs.VolSteps.{drops}
use Rattle.afs_volserv.specs.Handling.{vol_noticed_then}
use Rattle.afs_volserv.proofs.Taken.{steps_took, wants_took}
use Rattle.afs_volserv.proofs.server.VolServer.take_notice.Goals as goal

pub returns : goal.returns
returns g c =
    let s = c.args.store.now in
    let k = c.args.callbacks.now in
    let old = c.args.self.now in
    steps_took g.D.Disk drops (vol_noticed_then old k s c.args.now c.args.head.now) old c.hear_notice.new.self k c.hear_notice.new.callbacks s c.hear_notice.new.store c.in_ok-outs.outs refl c.in_ok-outs.ensures

pub returns-in_err-outs : goal.returns-in_err-outs
returns-in_err-outs g c =
    let s = c.args.store.now in
    let k = c.args.callbacks.now in
    let old = c.args.self.now in
    wants_took g.D.Disk drops (vol_noticed_then old k s c.args.now c.args.head.now) old c.hear_notice.new.self k c.hear_notice.new.callbacks s c.hear_notice.new.store c.from_residual.result (out_of_memory c.from_residual.result c.from_residual.ensures.1) c.in_err-outs.ensures

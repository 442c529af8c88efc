use Rattle.std.proofs.Common.{refl, subst}
use Rattle.afs_num.specs.declared.messages.Received.{Received}
use Rattle.afs_saving.proofs.Still.{out_of_memory}
use Rattle.afs_volserv.specs.Handling.{vol_decided, vol_decided_then, vol_turned_by, vol_turned_then, TookVolumes}
use Rattle.afs_volserv.proofs.Taken.{wants_took}
use Rattle.afs_volserv.proofs.server.VolServer.take_bytes.Goals as goal

pub returns : goal.returns
returns g c =
    let s = c.args.store.now in
    let k = c.args.callbacks.now in
    let old = c.args.self.now in
    subst (λ (m : Received). TookVolumes g.D.Disk (vol_decided old s m) (vol_turned_by old k s c.args.now m) old c.take.new.self k c.take.new.callbacks s c.take.new.store c.take.result)
    c.in_ok-received.ensures.value c.take.ensures

pub returns-in_err-received : goal.returns-in_err-received
returns-in_err-received g c =
    let s = c.args.store.now in
    let k = c.args.callbacks.now in
    let old = c.args.self.now in
    wants_took g.D.Disk (vol_decided_then old s c.args.bytes.now) (vol_turned_then old k s c.args.now c.args.bytes.now) old old k k s s c.from_residual.result (out_of_memory c.from_residual.result c.from_residual.ensures.1) (refl, (refl, refl))

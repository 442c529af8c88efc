use Rattle.afs_volserv.specs.Handling.{vol_decided_then, vol_turned_then}
use Rattle.afs_volserv.specs.Seen.{durable_seen}
use Rattle.afs_volserv.proofs.Taken.{called_so, done_so, draws_so, handles_so, left_down, order_so, some_down, store_so, told_so, prepared_so}
use Rattle.afs_volserv.proofs.server.VolServer.handle.Goals as goal

pub returns-clause-step : goal.returns-clause-step
returns-clause-step g c =
    let s = c.args.store.now in
    let k = c.args.callbacks.now in
    let old = c.args.self.now in
    handles_so (vol_decided_then old s c.args.bytes.now) (vol_turned_then old k s c.args.now c.args.bytes.now) old c.take_bytes.new.self k c.take_bytes.new.callbacks s c.take_bytes.new.store c.take_bytes.result c.take_bytes.ensures.does

pub returns-clause-order : goal.returns-clause-order
returns-clause-order g c =
    let s = c.args.store.now in
    let k = c.args.callbacks.now in
    let old = c.args.self.now in
    order_so (vol_decided_then old s c.args.bytes.now) (vol_turned_then old k s c.args.now c.args.bytes.now) old c.take_bytes.new.self k c.take_bytes.new.callbacks s c.take_bytes.new.store c.take_bytes.result c.take_bytes.ensures.does

pub returns-clause-draws : goal.returns-clause-draws
returns-clause-draws g c =
    let s = c.args.store.now in
    let k = c.args.callbacks.now in
    let old = c.args.self.now in
    draws_so (vol_decided_then old s c.args.bytes.now) (vol_turned_then old k s c.args.now c.args.bytes.now) old c.take_bytes.new.self k c.take_bytes.new.callbacks s c.take_bytes.new.store c.take_bytes.result c.take_bytes.ensures.does

pub returns-clause-store : goal.returns-clause-store
returns-clause-store g c =
    let s = c.args.store.now in
    let k = c.args.callbacks.now in
    let old = c.args.self.now in
    store_so (vol_decided_then old s c.args.bytes.now) (vol_turned_then old k s c.args.now c.args.bytes.now) old c.take_bytes.new.self k c.take_bytes.new.callbacks s c.take_bytes.new.store c.take_bytes.result c.take_bytes.ensures.does

pub returns-clause-kept : goal.returns-clause-kept
returns-clause-kept g c =
    let s = c.args.store.now in
    let k = c.args.callbacks.now in
    let old = c.args.self.now in
    done_so (vol_decided_then old s c.args.bytes.now) (vol_turned_then old k s c.args.now c.args.bytes.now) old c.take_bytes.new.self k c.take_bytes.new.callbacks s c.take_bytes.new.store c.take_bytes.result c.take_bytes.ensures.does

pub returns-clause-prepared : goal.returns-clause-prepared
returns-clause-prepared g c =
    let s = c.args.store.now in
    let k = c.args.callbacks.now in
    let old = c.args.self.now in
    prepared_so (vol_decided_then old s c.args.bytes.now) (vol_turned_then old k s c.args.now c.args.bytes.now) old c.take_bytes.new.self k c.take_bytes.new.callbacks s c.take_bytes.new.store c.take_bytes.result c.take_bytes.ensures.does

pub returns-clause-down : goal.returns-clause-down
returns-clause-down g c =
    let s = c.args.store.now in
    let k = c.args.callbacks.now in
    let old = c.args.self.now in
    some_down (vol_decided_then old s c.args.bytes.now) (vol_turned_then old k s c.args.now c.args.bytes.now) old c.take_bytes.new.self k c.take_bytes.new.callbacks s c.take_bytes.new.store c.take_bytes.result c.take_bytes.ensures.does

pub returns-clause-interrupted : goal.returns-clause-interrupted
returns-clause-interrupted g c =
    let s = c.args.store.now in
    let k = c.args.callbacks.now in
    let old = c.args.self.now in
    left_down (vol_decided_then old s c.args.bytes.now) (vol_turned_then old k s c.args.now c.args.bytes.now) old c.take_bytes.new.self k c.take_bytes.new.callbacks s c.take_bytes.new.store c.take_bytes.result c.take_bytes.ensures.does

pub returns-clause-effects : goal.returns-clause-effects
returns-clause-effects g c =
    let s = c.args.store.now in
    let k = c.args.callbacks.now in
    let old = c.args.self.now in
    told_so (vol_decided_then old s c.args.bytes.now) (vol_turned_then old k s c.args.now c.args.bytes.now) old c.take_bytes.new.self k c.take_bytes.new.callbacks s c.take_bytes.new.store c.take_bytes.result c.take_bytes.ensures.does

pub returns-clause-told : goal.returns-clause-told
returns-clause-told g c = c.take_bytes.ensures.disk.told

pub returns-clause-quiet : goal.returns-clause-quiet
returns-clause-quiet g c = c.take_bytes.ensures.disk.quiet

pub returns-clause-any_moment : goal.returns-clause-any_moment
returns-clause-any_moment g c = c.take_bytes.ensures.disk.any_moment

pub returns-clause-reached : goal.returns-clause-reached
returns-clause-reached g c = c.take_bytes.ensures.disk.reached

pub returns-clause-left : goal.returns-clause-left
returns-clause-left g c = c.take_bytes.ensures.disk.left

pub returns-clause-fits : goal.returns-clause-fits
returns-clause-fits g c = c.take_bytes.ensures.disk.fits

pub returns-clause-most : goal.returns-clause-most
returns-clause-most g c = c.take_bytes.ensures.disk.most

pub returns-clause-limit : goal.returns-clause-limit
returns-clause-limit g c = c.take_bytes.ensures.disk.limited

pub returns-clause-ran : goal.returns-clause-ran
returns-clause-ran g c = c.take_bytes.ensures.disk.ran

pub returns-clause-setting : goal.returns-clause-setting
returns-clause-setting g c = c.take_bytes.ensures.disk.set

pub returns-clause-calls : goal.returns-clause-calls
returns-clause-calls g c =
    let s = c.args.store.now in
    called_so s.durable (durable_seen s) (vol_decided_then c.args.self.now s c.args.bytes.now) c.take_bytes.result _ _ c.take_bytes.ensures.disk.called

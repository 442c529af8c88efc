use Rattle.std.proofs.Common.{refl}
use Rattle.afs_saving.proofs.Still.{out_of_memory}
use Rattle.spec_volrows.specs.VolSteps.{written}
use Rattle.afs_volserv.proofs.Taken.{wants_took}
use Rattle.afs_volserv.proofs.Written.{can_put, planned_taken, same_prepared, serves_still, took, wanting}
use Rattle.afs_volanswers.specs.Deciding.{deed_of, full_for}
use Rattle.afs_volserv.specs.Handling.{vol_turn_then}
use Rattle.afs_volserv.specs.Seen.{durable_seen, vol_seen}
use Rattle.afs_volserv.proofs.server.VolServer.save.Goals as goal

pub prepare-requires-clause-taken : goal.prepare-requires-clause-taken
prepare-requires-clause-taken g c =
    planned_taken c.args.now c.args.head.now c.args.saving c.args.self.now c.args.callbacks.now c.args.store.now c.in_ok-planned.planned c.in_ok-planned.ensures.planned c.requires.can

pub put_or_answer-requires-clause-serves : goal.put_or_answer-requires-clause-serves
put_or_answer-requires-clause-serves g c =
    let s = c.args.store.now in
    let mid = c.prepare.new.store in
    serves_still c.args.self.now c.args.callbacks.now s mid (same_prepared c.in_ok-planned.planned.rec s mid c.in_ok-room.room c.in_ok-room.ensures.prepares) c.requires.serves

pub put_or_answer-requires-clause-can : goal.put_or_answer-requires-clause-can
put_or_answer-requires-clause-can g c =
    let s = c.args.store.now in
    let mid = c.prepare.new.store in
    let p = c.in_ok-planned.planned in
    let asks = c.requires in
    can_put c.args.self.now c.args.callbacks.now s mid (same_prepared p.rec s mid c.in_ok-room.room c.in_ok-room.ensures.prepares) c.args.now c.args.head.now c.args.saving p c.in_ok-planned.ensures.planned
    asks.serves asks.draws asks.room asks.up asks.runs asks.can

pub returns-in_err-planned : goal.returns-in_err-planned
returns-in_err-planned g c =
    let s = c.args.store.now in
    let k = c.args.callbacks.now in
    let old = c.args.self.now in
    let head = c.args.head.now in
    let d = written (durable_seen s) head (deed_of s.durable.boot head c.args.saving) (full_for (durable_seen s) (vol_seen old) head c.args.call.now) in
    wants_took g.D.Disk d (vol_turn_then old k s c.args.now d) old old k k s s c.from_residual.result (out_of_memory c.from_residual.result c.from_residual.ensures.1) (refl, (refl, refl))

pub returns-in_err-room : goal.returns-in_err-room
returns-in_err-room g c =
    let s = c.args.store.now in
    let k = c.args.callbacks.now in
    let old = c.args.self.now in
    let head = c.args.head.now in
    let d = written (durable_seen s) head (deed_of s.durable.boot head c.args.saving) (full_for (durable_seen s) (vol_seen old) head c.args.call.now) in
    let is = out_of_memory c.from_residual-in_err-room.result c.from_residual-in_err-room.ensures.1 in
    let room = c.in_err-room.ensures in
    wanting g.D.Disk d (vol_turn_then old k s c.args.now d) old k s c.prepare.new.store c.from_residual-in_err-room.result is room.prepares room.disk room.counts

pub returns : goal.returns
returns g c =
    let s = c.args.store.now in
    let mid = c.prepare.new.store in
    let p = c.in_ok-planned.planned in
    let room = c.in_ok-room.ensures in
    let put = c.put_or_answer in
    let asks = c.requires in
    took g.D.Disk c.args.now c.args.head.now c.args.call.now c.args.saving c.args.self.now put.new.self c.args.callbacks.now put.new.callbacks s mid put.new.store p c.in_ok-planned.ensures.planned
    put.result c.in_ok-room.room room.room room.prepares room.disk room.counts asks.serves asks.beside asks.can asks.head.0
    put.ensures.puts put.ensures.words put.ensures.disk put.ensures.full put.ensures.up

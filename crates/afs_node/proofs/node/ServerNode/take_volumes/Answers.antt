use Rattle.std.specs.Prelude.{◌∷◌, [], OnOk}
use Rattle.std.proofs.Common.{refl, sym, subst}
use Rattle.afs_callbacks.specs.States.{CallbackState}
use Rattle.spec_history.specs.declared.lines.Line.TheVariants as lines
use Rattle.afs_server.specs.Handling.{server_seen}
use Rattle.afs_server.specs.Seen.{callbacks_of}
use Rattle.afs_volserv.specs.Handling.{vol_decided_then, vol_record, vol_turned_then, DrawsFew, HandlesVolumes, StaysInOrder}
use Rattle.afs_volserv.specs.Seen.{durable_seen, CanDraw, CanRelease, StandsBeside}
use Rattle.afs_node.proofs.Answered.{on_map, volume_called, volume_steps, volume_takes}
use Rattle.afs_node.proofs.Serving.{stands_beside, with_callbacks}
use Rattle.afs_node.proofs.Stepped.{volume_leaves, volume_took}
use Rattle.afs_node.proofs.node.ServerNode.take_volumes.Goals as goal

pub handle-requires-clause-beside : goal.handle-requires-clause-beside
handle-requires-clause-beside g c = subst (λ (l : CallbackState). StandsBeside l c.args.store.now) (sym c.callbacks_mut.ensures.value) (stands_beside c.args.self.now c.args.store.now c.requires.serves)

pub handle-requires-clause-draws : goal.handle-requires-clause-draws
handle-requires-clause-draws g c = subst CanDraw (sym c.callbacks_mut.ensures.value) (record { breaks = c.requires.draws.breaks })

pub returns-clause-step : goal.returns-clause-step
returns-clause-step g c = λ place.
    let m = c.args.self.now in
    let s = c.args.store.now in
    let n = c.handle.new.self in
    let k = c.handle.new.callbacks in
    let t = c.handle.new.store in
    volume_takes m s c.args.now c.args.bytes.now c.requires.other place (record { file = with_callbacks m.file k; vol = n }) t c.handle.result
    (volume_took (vol_turned_then m.vol (callbacks_of m.file) s c.args.now c.args.bytes.now) (lines.Given place ∷ []) m n k s t c.handle.result
    (subst (λ (l : CallbackState). HandlesVolumes (vol_turned_then m.vol l s c.args.now c.args.bytes.now) m.vol n l k s t c.handle.result) c.callbacks_mut.ensures.value c.handle.ensures.step))

pub returns-clause-release : goal.returns-clause-release
returns-clause-release g c =
    on_map c.handle.result (StaysInOrder c.args.self.now.vol c.handle.new.self c.handle.new.callbacks c.handle.new.store) (CanRelease c.handle.new.self) (λ order. order.release c.requires.room.0) c.handle.ensures.order

pub returns-clause-leaves : goal.returns-clause-leaves
returns-clause-leaves g c =
    let m = c.args.self.now in
    let s = c.args.store.now in
    let n = c.handle.new.self in
    let k = c.handle.new.callbacks in
    let t = c.handle.new.store in
    let e = c.handle.ensures in
    let decided = vol_decided_then m.vol s c.args.bytes.now in
    volume_steps m s c.args.now c.args.bytes.now c.requires.other g.D.Disk (record { file = with_callbacks m.file k; vol = n }) t c.handle.result (record {
      leaves = volume_leaves (vol_record decided) m n k s t c.handle.result c.requires.serves e.order (subst (λ (l : CallbackState). OnOk c.handle.result (DrawsFew l k s t)) c.callbacks_mut.ensures.value e.draws) e.store e.kept;
      down = e.down;
      interrupted = λ down r is d takes. e.interrupted down r is d takes (server_seen m.file s) refl;
      effects = λ r written ls. e.effects r written (server_seen m.file s) refl ls;
      prepared = e.prepared;
      called = e.calls;
      disk = record {
        told = e.told;
        quiet = e.quiet;
        any_moment = e.any_moment;
        reached = e.reached;
        left = e.left;
        fits = e.fits;
        most = e.most;
        limited = e.limit;
        called = volume_called g.D.Disk s.durable (durable_seen s) decided s.disk t.disk c.handle.result e.calls;
        ran = e.ran;
        set = e.setting;
      };
    })

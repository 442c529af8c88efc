use Rattle.std.proofs.Common.{◌≡◌, ◌<◌, ◌+◌, ◌++◌, ◌∙◌, length, Some, None, ap, sym, subst}
use Rattle.std.specs.Prelude.{Result, Ok}
use Rattle.spec_history.specs.declared.lines.Outs.{Outs}
use Rattle.spec_breaks.specs.Promises.{expired}
use Rattle.spec_model.specs.Calls.{call_seated}
use Rattle.spec_records.specs.Durable.{Durable}
use Rattle.spec_volrows.specs.VolRow.{holds_of}
use Rattle.spec_volrows.specs.VolSteps.{withdraws_from}
use Rattle.afs_callbacks.specs.States.{CallbackState}
use Rattle.afs_server_parts.specs.declared.faults.NodeFault.{NodeFault}
use Rattle.afs_saving.proofs.Still.{handed_up, with_fault, with_value}
use Rattle.afs_volstore.specs.Stores.{Store}
use Rattle.afs_volserv.specs.Saving.{held_or_none}
use Rattle.afs_volserv.specs.Seen.{VolMemory}
use Rattle.afs_volserv.proofs.Room.{room_of, still_released}
use Rattle.afs_volstore.specs.VolumeFold.{volume_fold}
use Rattle.afs_sharing.specs.Stores.{OnDisk}
use Rattle.afs_volserv.proofs.server.VolServer.put.Goals as goal

pub returns-in_err-commit-clause-disk : goal.returns-in_err-commit-clause-disk
returns-in_err-commit-clause-disk g c =
    let s = c.args.store.now in
    let is = handed_up c.from_residual-in_err-commit.result c.in_err-commit.field-0.0 c.from_residual-in_err-commit.ensures.1 in
    subst (λ (r : Result Outs NodeFault). OnDisk g.D.Disk (Some c.args.planned.rec) s.durable s.disk c.commit.new.store.disk r) (sym is)
    (with_fault volume_fold g.D.Disk (Some c.args.planned.rec) s.durable s.disk c.commit.new.store.disk c.in_err-commit.field-0.0 (c.in_err-commit.ensures.disk c.args.planned.rec c.requires.prepared))

pub returns-clause-disk : goal.returns-clause-disk
returns-clause-disk g c =
    let s = c.args.store.now in
    let p = c.args.planned in
    let disk = ap (λ (u : Store g.row.D.Denot). u.disk) c.keep-parcels.ensures.store ∙ ap (λ (u : Store g.row.D.Denot). u.disk) c.hold_instead.ensures.rest in
    let told = c.in_ok-commit.ensures.disk p.rec c.requires.prepared in
    let outs : Outs = record { parcels = c.keep-parcels.result.parcels; lines = c.args.lines } in
    subst (λ (x : g.row.D.Denot). OnDisk g.D.Disk (Some p.rec) s.durable s.disk x (Ok outs)) (sym disk)
    (with_value volume_fold g.D.Disk (Some p.rec) s.durable s.disk c.commit.new.store.disk tt outs told)

pub returns-clause-puts : goal.returns-clause-puts
returns-clause-puts g c =
    let p = c.args.planned in
    let s = c.args.store.now in
    let k = c.args.callbacks.now in
    let head = c.args.head.now in
    let now = c.args.now in
    let waiting = c.self.inside.held in
    let mid = c.commit.new.store in
    let h = c.hold_instead.new.store in
    let u = c.keep-parcels.new.store in
    let parts = c.into_rest-reply.ensures in
    let seen = c.self.view_is in
    let commits = c.in_ok-commit.ensures.commits p.rec c.requires.prepared in
    let kept : u ≡ record h { drawn = c.into_rest-reply.result.2.last } = c.keep-parcels.ensures.store in
    let held : h ≡ record mid { holds = h.holds } = c.hold_instead.ensures.rest in
    let durable : u.durable ≡ mid.durable = ap (λ (t : Store g.row.D.Denot). t.durable) kept ∙ ap (λ (t : Store g.row.D.Denot). t.durable) held in
    let disk : u.disk ≡ mid.disk = ap (λ (t : Store g.row.D.Denot). t.disk) kept ∙ ap (λ (t : Store g.row.D.Denot). t.disk) held in
    let holds : u.holds ≡ h.holds = ap (λ (t : Store g.row.D.Denot). t.holds) kept in
    let boot = c.answer.ensures.boot ∙ (c.in_ok-reserve.ensures.boot ∙ ap (λ (m : VolMemory). m.boot) seen) in
    let reserved = c.in_ok-reserve.ensures.seats ∙ ap (λ (m : VolMemory). m.seats) seen in
    let seats = c.answer.ensures.seats ∙ (λ i. call_seated (record { caller = (c.key.ensures i).node; epoch = (c.key.ensures i).epoch; number = (c.key.ensures i).number; reply = Some (parts i).0 }) (reserved i)) in
    let replies = c.hold_one.ensures.held ∙ (λ i. (seen i).held ++ held_or_none (parts i).1) in
    let withdrawn = ap (λ (x : CallbackState). x.lists) c.withdraw_on.ensures ∙ (λ i. withdraws_from (parts i).3 (expired now k.lists)) in
    let outs : c.keep-parcels.result ≡ p.ended.outs = c.keep-parcels.ensures.outs ∙ (λ i. (parts i).2.outs) in
    let new = room_of c.hold_one.new.held in (
      record {
        memory = λ i. record { boot = boot i; seats = seats i; transactions = (parts i).4.table; last = (parts i).4.last; callees = (seen i).callees; held = replies i; room = new };
        release = still_released waiting c.hold_one.new.held c.into_rest-reply.result.1 c.hold_one.ensures.held c.hold_one.ensures.out c.hold_one.ensures.on
            (subst (λ (m : VolMemory). length m.held < m.room) (sym seen) c.requires.can.room.0);
      },
      (
        c.keep-parcels.ensures.callbacks ∙ (λ i. record { lists = withdrawn i; callees = (parts i).2.callees.items; held = (parts i).2.held }),
        (
          record {
            store =
                kept
                ∙ ((λ i. record (held i) { drawn = (parts i).2.last })
                ∙ ((λ i. record (commits.0 i) { drawn = p.ended.last; holds = h.holds })
                ∙ (λ i. record s { durable = sym durable i; disk = sym disk i; prepared = None; count = s.count + 1; drawn = p.ended.last; holds = sym holds i })));
            holds = (λ i. (holds i).table) ∙ (c.hold_instead.ensures.holds ∙ (λ i. holds_of (parts i).4.table));
            folds = commits.1 ∙ ap (λ (d : Durable). Some d) (sym durable);
          },
          λ i. record { parcels = (outs i).parcels; lines = c.args.lines },
        ),
      ),
    )

use Rattle.std.proofs.Common.{ℕ, ◌≡◌, ◌≤◌, ◌<◌, ◌+◌, length, arith, refl, ap, sym, subst, ◌∙◌}
use Rattle.std.specs.List.{All, AllByRecursion}
use Rattle.std.specs.Prelude.{Result, Err, map}
use Rattle.spec_history.specs.declared.lines.Outs.{Outs}
use Rattle.afs_num.specs.declared.records.RecordBody.{RecordBody}
use Rattle.afs_num.specs.declared.records.StoreRecord.{StoreRecord}
use Rattle.afs_num.specs.declared.types.Node.{Node}
use Rattle.afs_server_parts.specs.declared.turns.Stand.{Stand}
use Rattle.afs_num.specs.declared.volumes.Change.{Change}
use Rattle.spec_records.specs.Durable.{Durable}
use Rattle.spec_rows.specs.Callbacks as row
use Rattle.spec_rows.specs.ServerRow.{roomed}
use Rattle.spec_breaks.specs.Promises.{lasting}
use Rattle.afs_callbacks.specs.States.{CallbackState, IsPromiseToNode}
use Rattle.afs_server.specs.Handling.{record_decided, server_seen, turn_then}
use Rattle.afs_callbacks.specs.Answering.{reply_told}
use Rattle.afs_callbacks.specs.Saving.{change_kept, fids_granted, hits_each, new_grants}
use Rattle.afs_server.specs.Seen.{Serves}
use Rattle.afs_server_parts.specs.declared.faults.NodeFault.{NodeFault}
use Rattle.afs_server_parts.specs.declared.faults.NodeFault.TheVariants as nodes
use Rattle.afs_memory.specs.Named.{IsNamed}
use Rattle.afs_volstore.specs.Stores.{Store}
use Rattle.afs_volume.specs.Listed.{listed_as}
use Rattle.afs_volume.specs.Seen.{IsReadable}
use Rattle.afs_server.proofs.Roomed.{disk_all}
use Rattle.afs_server.proofs.Making.{to_nodes}
use Rattle.afs_server.proofs.Saves.{does_all, is_besides, is_taken, planned_as, wanting, was_prepared}
use Rattle.afs_saving.proofs.Still.{is_still, out_of_memory}
use Rattle.afs_callbacks.proofs.Planned.{answer_drawn}
use Rattle.afs_callbacks.proofs.Withdrawn.{few_granted}
use Rattle.afs_server.proofs.server.FileServer.save.Goals as goal
use Rattle.afs_server.proofs.Taken.{wants_took}
use Rattle.afs_volstore.specs.VolumeFold.{volume_fold}
use Rattle.afs_sharing.specs.Stores.{OnDisk}

pub plan_change-requires-clause-nodes : goal.plan_change-requires-clause-nodes
plan_change-requires-clause-nodes g c = to_nodes c.args.store.now c.args.self.now c.stand.result c.callbacks.result.now c.stand.ensures c.callbacks.ensures c.requires.can.serves

pub plan_change-requires-clause-promised : goal.plan_change-requires-clause-promised
plan_change-requires-clause-promised g c = subst (λ (k : CallbackState). All IsPromiseToNode k.lists.promises) (sym c.callbacks.ensures) c.requires.can.serves.promises

pub plan_change-requires-clause-draws : goal.plan_change-requires-clause-draws
plan_change-requires-clause-draws g c = subst (λ (k : CallbackState). k.lists.last_owed + length k.lists.promises < 4000000000) (sym c.callbacks.ensures) c.requires.can.draws.breaks

pub prepare-requires-clause-fits : goal.prepare-requires-clause-fits
prepare-requires-clause-fits g c = c.in_ok-planned.ensures.fits

pub prepare-requires-clause-taken : goal.prepare-requires-clause-taken
prepare-requires-clause-taken g c =
    let made = c.requires.made in
    let plan = c.in_ok-planned.ensures in
    is_taken c.args.id c.args.now c.args.head.now made.0 c.args.change c.in_ok-planned.planned.kept c.args.store.now.durable c.in_ok-planned.planned.rec made.1.0 made.1.1 (plan.rec ∙ ap (λ (x : Change). change_kept c.args.head.now c.args.id x c.in_ok-planned.planned.kept) c.into_parts-change.ensures.change)

pub prepare-requires-clause-named : goal.prepare-requires-clause-named
prepare-requires-clause-named g c =
    let p = c.in_ok-planned.planned in
    let x = c.into_parts-change.result.0 in
    let names = c.into_parts-change.result.1 in
    let body : p.rec.body ≡ (change_kept c.args.head.now c.args.id x p.kept).body = ap (λ (r : StoreRecord). r.body) c.in_ok-planned.ensures.rec in
    let named : names ≡ map listed_as x.vnodes = c.into_parts-change.ensures.names ∙ ap (λ (y : Change). map listed_as y.vnodes) (sym c.into_parts-change.ensures.change) in
    let readable : AllByRecursion IsReadable x.vnodes = subst (λ (y : Change). AllByRecursion IsReadable y.vnodes) (sym c.into_parts-change.ensures.change) c.into_parts-change.ensures.readable in
    subst (λ (b : RecordBody). IsNamed b names) (sym body) (named, readable)

pub put_or_refuse-requires-clause-serves : goal.put_or_refuse-requires-clause-serves
put_or_refuse-requires-clause-serves g c =
    let mid = c.prepare.new.store in
    let besides = is_besides c.in_ok-planned.planned.rec c.args.store.now mid c.in_ok-room.room c.in_ok-room.ensures.prepares in
    subst (λ (d : Durable). Serves mid.node c.args.self.now d) (sym besides.1.0) (subst (λ (n : Node). Serves n c.args.self.now c.args.store.now.durable) (sym besides.0) c.requires.can.serves)

pub put_or_refuse-requires-clause-can : goal.put_or_refuse-requires-clause-can
put_or_refuse-requires-clause-can g c =
    let s = c.args.store.now in
    let p = c.in_ok-planned.planned in
    let made = c.in_ok-planned.ensures in
    let besides = is_besides p.rec s c.prepare.new.store c.in_ok-room.room c.in_ok-room.ensures.prepares in
    let long = ap length (made.granted ∙ ap (λ (x : Change). fids_granted (new_grants x.reply)) c.into_parts-change.ensures.change) in
    let few = few_granted c.args.change.reply in
    let draws = c.requires.can.draws.breaks in
    let plan = planned_as s c.args.now c.args.head.now c.args.id c.into_parts-change.result.0 c.args.change c.args.self.now p c.stand.result c.callbacks.result.now c.into_parts-change.ensures.change c.stand.ensures c.callbacks.ensures made in
    record {
      runs = c.requires.runs;
      draws = omega (arith, long, few, draws);
      withdraws = made.withdrawn ∙ ap (λ (k : CallbackState). hits_each c.args.head.now.from p.changed (lasting c.args.now k.lists.promises)) c.callbacks.ensures;
      drawn = subst (λ (n : ℕ). n ≤ p.ended.last) (ap (λ (x : Stand). x.last) c.stand.ensures ∙ sym besides.1.1.0) (answer_drawn _ _ _ _ _ _ _ _ made.replied);
      spelling = (reply_told s.durable.boot c.args.head.now (c.args.now + 7200) c.args.change.reply, plan.replied.kept);
      up = besides.1.1.1 ∙ c.requires.can.up;
      fits = made.fits;
      soon = c.requires.can.soon;
    }

pub put_or_refuse-requires-clause-prepared : goal.put_or_refuse-requires-clause-prepared
put_or_refuse-requires-clause-prepared g c =
    λ has. ap (λ (u : Store g.row.D.Denot). u.prepared) (was_prepared c.in_ok-planned.planned.rec c.args.store.now c.prepare.new.store c.in_ok-room.room has c.in_ok-room.ensures.prepares)

pub returns-in_err-planned : goal.returns-in_err-planned
returns-in_err-planned g c k there made =
    let s = c.args.store.now in
    let m = c.args.self.now in
    let d = roomed (server_seen m s) c.args.now c.args.head.now k in
    wants_took g.D.Disk c.args.now d (turn_then m s c.args.now d) m m s s c.from_residual.result (out_of_memory c.from_residual.result c.from_residual.ensures.1) (refl, refl)

pub returns-in_err-room : goal.returns-in_err-room
returns-in_err-room g c k there made =
    let s = c.args.store.now in
    let m = c.args.self.now in
    let mid = c.prepare.new.store in
    let d = roomed (server_seen m s) c.args.now c.args.head.now k in
    let decided = record_decided s.durable.boot c.args.now d in
    let is = out_of_memory c.from_residual-in_err-room.result c.from_residual-in_err-room.ensures.1 in
    record {
      does = wanting c.args.now d (turn_then m s c.args.now d) m s mid c.from_residual-in_err-room.result is c.in_err-room.ensures.prepares;
      disk =
          subst (λ (r : Result Outs NodeFault). OnDisk g.D.Disk decided s.durable s.disk mid.disk r) (sym is)
          (is_still volume_fold g.D.Disk decided s.durable s.disk mid.disk (Err nodes.OutOfMemory) tt c.in_err-room.ensures.disk c.in_err-room.ensures.counts);
    }

pub returns : goal.returns
returns g c k there made =
    let s = c.args.store.now in
    let m = c.args.self.now in
    let p = c.in_ok-planned.planned in
    let plan = planned_as s c.args.now c.args.head.now c.args.id c.into_parts-change.result.0 c.args.change m p c.stand.result c.callbacks.result.now c.into_parts-change.ensures.change c.stand.ensures c.callbacks.ensures c.in_ok-planned.ensures in
    let mid = c.prepare.new.store in
    let node = c.requires.head.0 in
    let room = c.in_ok-room.ensures in
    let put = c.put_or_refuse.ensures in
    record {
      does =
          does_all c.args.now c.args.id c.args.head.now k c.args.change m c.put_or_refuse.new.self s mid c.put_or_refuse.new.store p
          c.put_or_refuse.result c.in_ok-room.room room.room room.prepares there c.requires.can.soon made node c.requires.can.serves plan put.puts put.answers put.up;
      disk =
          disk_all g.D.Disk c.args.now c.args.id c.args.head.now k c.args.change m c.put_or_refuse.new.self s mid c.put_or_refuse.new.store p
          c.put_or_refuse.result c.in_ok-room.room room.room room.prepares room.disk room.counts made plan put.disk put.answers put.up;
    }

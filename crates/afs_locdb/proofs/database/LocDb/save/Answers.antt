use Rattle.std.proofs.Common.{◌≡◌, true, Option, Some, refl, sym, ap, subst, ◌∙◌}
use Rattle.std.specs.Prelude.{pos, Result, Err, IsSome}
use Rattle.spec_history.specs.declared.lines.Outs.{Outs}
use Rattle.spec_records.specs.LocDurable.{can_do, loc_folded, LocDurable}
use Rattle.spec_records.specs.LocRecords.{LocRecord}
use Rattle.spec_rows.specs.LocRow.{roomed}
use Rattle.spec_rows.specs.ServerRow.{refusal}
use Rattle.afs_locdb.specs.Handling.{loc_record_decided}
use Rattle.afs_locdb.specs.Saving.{IsChangeOf, LocStoreOf, OnDisk, Puts}
use Rattle.afs_locdb.specs.Handling.{Answers}
use Rattle.afs_locdb.specs.Seen.{loc_seen, lasting_of, Database, IsInBoot}
use Rattle.afs_server_parts.specs.declared.faults.NodeFault.{NodeFault}
use Rattle.afs_server_parts.specs.declared.faults.NodeFault.TheVariants as nodes
use Rattle.afs_locdb.proofs.Kept.{known_to_nodes}
use Rattle.afs_locdb.proofs.OnDisks.{disk_all}
use Rattle.afs_locdb.proofs.Saved.{can, folds}
use Rattle.afs_locdb.proofs.Saves.{does_all, in_store, is_besides, placed_in, wanting, was_prepared}
use Rattle.afs_saving.proofs.Still.{is_still, out_of_memory, same_counts, same_disk}
use Rattle.afs_locstore.specs.LocFold.{loc_fold}
use Rattle.afs_locdb.proofs.database.LocDb.save.Goals as goal

pub prepare-requires-clause-taken : goal.prepare-requires-clause-taken
prepare-requires-clause-taken g c =
    let d = c.args.self.now.store.durable in
    let made = c.requires.made in
    let done = can made.0 made.1.0 (lasting_of d) c.args.head.now c.args.change made.1.1 c.is_in_order.ensures.keyed c.requires.head.0 in
    subst (λ (r : LocRecord). IsSome (loc_folded r d)) (sym c.in_ok-planned.ensures.rec_is) (subst (λ (o : Option LocDurable). IsSome o) (sym (folds c.args.head.now c.args.change d done)) refl)

pub put_or_refuse-requires-clause-serves : goal.put_or_refuse-requires-clause-serves
put_or_refuse-requires-clause-serves g c =
    let mid = c.prepare.new.self in
    let besides = is_besides c.in_ok-planned.planned.rec c.args.self.now.store mid.store c.in_ok-room.room c.in_ok-room.ensures.prepares in
    record {
      boot = c.prepare.ensures.callers.0 ∙ (c.requires.serves.boot ∙ ap (λ (d : LocDurable). d.boot) (sym besides.1.0));
      node = besides.0 ∙ c.requires.serves.node;
    }

pub put_or_refuse-requires-clause-runs : goal.put_or_refuse-requires-clause-runs
put_or_refuse-requires-clause-runs g c = rw c.prepare.ensures.callers.1 c.requires.runs

pub put_or_refuse-requires-clause-up : goal.put_or_refuse-requires-clause-up
put_or_refuse-requires-clause-up g c =
    let besides = is_besides c.in_ok-planned.planned.rec c.args.self.now.store c.prepare.new.self.store c.in_ok-room.room c.in_ok-room.ensures.prepares in
    besides.1.1 ∙ c.requires.up

pub put_or_refuse-requires-clause-prepared : goal.put_or_refuse-requires-clause-prepared
put_or_refuse-requires-clause-prepared g c =
    λ has. ap (λ (u : LocStoreOf g.row.D.Denot). u.prepared) (was_prepared c.in_ok-planned.planned.rec c.args.self.now.store c.prepare.new.self.store c.in_ok-room.room has c.in_ok-room.ensures.prepares)

pub put_or_refuse-requires-clause-fits : goal.put_or_refuse-requires-clause-fits
put_or_refuse-requires-clause-fits g c = c.in_ok-planned.ensures.fits

pub returns-in_err-planned-clause-does : goal.returns-in_err-planned-clause-does
returns-in_err-planned-clause-does g c =
    let b = c.args.self.now in
    wanting (roomed (loc_seen b) c.args.head.now c.args.change) b b b.store c.from_residual.result (out_of_memory c.from_residual.result c.from_residual.ensures.1) refl refl

pub returns-in_err-planned-clause-disk : goal.returns-in_err-planned-clause-disk
returns-in_err-planned-clause-disk g c =
    let s = c.args.self.now.store in
    let decided = loc_record_decided s.durable.boot (roomed (loc_seen c.args.self.now) c.args.head.now c.args.change) in
    subst (λ (r : Result Outs NodeFault). OnDisk g.D.Disk decided s.durable s.disk s.disk r) (sym (out_of_memory c.from_residual.result c.from_residual.ensures.1))
    (is_still loc_fold g.D.Disk decided s.durable s.disk s.disk (Err nodes.OutOfMemory) tt (same_disk g.D.Disk s.disk) (same_counts g.D.Disk s.disk))

pub returns-in_err-room-clause-does : goal.returns-in_err-room-clause-does
returns-in_err-room-clause-does g c =
    let b = c.args.self.now in
    let mid = c.prepare.new.self in
    wanting (roomed (loc_seen b) c.args.head.now c.args.change) b mid mid.store c.from_residual-in_err-room.result (out_of_memory c.from_residual-in_err-room.result c.from_residual-in_err-room.ensures.1) c.in_err-room.ensures.prepares
    (placed_in b mid c.prepare.ensures.callers.0 c.prepare.ensures.callers.1)

pub returns-in_err-room-clause-disk : goal.returns-in_err-room-clause-disk
returns-in_err-room-clause-disk g c =
    let s = c.args.self.now.store in
    let mid = c.prepare.new.self.store in
    let decided = loc_record_decided s.durable.boot (roomed (loc_seen c.args.self.now) c.args.head.now c.args.change) in
    subst (λ (r : Result Outs NodeFault). OnDisk g.D.Disk decided s.durable s.disk mid.disk r) (sym (out_of_memory c.from_residual-in_err-room.result c.from_residual-in_err-room.ensures.1))
    (is_still loc_fold g.D.Disk decided s.durable s.disk mid.disk (Err nodes.OutOfMemory) tt c.in_err-room.ensures.disk c.in_err-room.ensures.counts)

pub returns-clause-does : goal.returns-clause-does
returns-clause-does g c =
    let b = c.args.self.now in
    let d = b.store.durable in
    let mid = c.prepare.new.self in
    let made = c.requires.made in
    let done = can made.0 made.1.0 (lasting_of d) c.args.head.now c.args.change made.1.1 c.is_in_order.ensures.keyed c.requires.head.0 in
    let in_place = placed_in b mid c.prepare.ensures.callers.0 c.prepare.ensures.callers.1 in
    let put = c.put_or_refuse.ensures in
    does_all c.args.head.now c.args.change b c.put_or_refuse.new.self mid.store c.in_ok-planned.planned c.put_or_refuse.result c.in_ok-room.room c.in_ok-room.ensures.room c.in_ok-room.ensures.prepares c.in_ok-planned.ensures done c.requires.head.0
    (known_to_nodes d.kept c.is_in_order.ensures.nodes) c.requires.serves
    (λ has. subst (λ (x : Database g.row.D.Denot). Puts c.args.head.now c.in_ok-planned.planned x c.put_or_refuse.new.self c.put_or_refuse.result) in_place (put.puts has))
    (λ lacks. subst (λ (x : Database g.row.D.Denot). Answers c.args.head.now (refusal c.prepare.new.self.store.durable.boot c.args.head.now (pos 108)) x c.put_or_refuse.new.self c.put_or_refuse.result) in_place (put.answers lacks)) put.still

pub returns-clause-disk : goal.returns-clause-disk
returns-clause-disk g c =
    let b = c.args.self.now in
    let mid = c.prepare.new.self in
    let in_place = placed_in b mid c.prepare.ensures.callers.0 c.prepare.ensures.callers.1 in
    let put = c.put_or_refuse.ensures in
    disk_all g.D.Disk c.args.head.now c.args.change b c.put_or_refuse.new.self mid.store c.in_ok-planned.planned c.put_or_refuse.result c.in_ok-room.room c.in_ok-room.ensures.room c.in_ok-room.ensures.prepares c.in_ok-room.ensures.disk c.in_ok-room.ensures.counts
    c.in_ok-planned.ensures put.disk (λ lacks. subst (λ (x : Database g.row.D.Denot). Answers c.args.head.now (refusal c.prepare.new.self.store.durable.boot c.args.head.now (pos 108)) x c.put_or_refuse.new.self c.put_or_refuse.result) in_place (put.answers lacks)) put.still

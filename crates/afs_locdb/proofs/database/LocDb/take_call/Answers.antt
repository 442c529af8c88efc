use Rattle.std.proofs.Common.{refl, sym, subst}
use Rattle.std.specs.Prelude.{Result, Err}
use Rattle.spec_rows.specs.LocRow.{called, LocDecision}
use Rattle.afs_locdb.specs.Handling.{loc_record_decided}
use Rattle.afs_locdb.specs.Saving.{DoesAll, OnDisk}
use Rattle.afs_locdb.specs.Seen.{loc_seen}
use Rattle.afs_saving.proofs.Still.{out_of_memory}
use Rattle.afs_locdb.proofs.Wholly.{none_made, wanting_disk}
use Rattle.afs_locdb.proofs.database.LocDb.take_call.Goals as goal

pub returns-clause-does : goal.returns-clause-does
returns-clause-does g c = subst (λ (d : LocDecision). DoesAll d c.args.self.now c.take_decided.new.self c.take_decided.result) c.in_ok-decided.ensures.decides c.take_decided.ensures.does

pub returns-clause-disk : goal.returns-clause-disk
returns-clause-disk g c =
    let s = c.args.self.now.store in
    subst (λ (d : LocDecision). OnDisk g.D.Disk (loc_record_decided s.durable.boot d) s.durable s.disk c.take_decided.new.self.store.disk c.take_decided.result) c.in_ok-decided.ensures.decides c.take_decided.ensures.disk

pub returns-in_err-decided-clause-does : goal.returns-in_err-decided-clause-does
returns-in_err-decided-clause-does g c = none_made (called (loc_seen c.args.self.now) c.args.head.now c.args.received.now) c.args.self.now c.args.self.now c.from_residual.result (out_of_memory c.from_residual.result c.from_residual.ensures.1) refl

pub returns-in_err-decided-clause-disk : goal.returns-in_err-decided-clause-disk
returns-in_err-decided-clause-disk g c =
    let b = c.args.self.now in
    wanting_disk g.D.Disk (loc_record_decided b.store.durable.boot (called (loc_seen b) c.args.head.now c.args.received.now)) b b c.from_residual.result (out_of_memory c.from_residual.result c.from_residual.ensures.1) refl

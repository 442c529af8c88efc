use Rattle.std.proofs.Common.{refl, subst}
use Rattle.std.specs.Prelude.{Result, Err}
use Rattle.afs_num.specs.declared.messages.Received.{Received}
use Rattle.spec_rows.specs.LocRow.{loc_decides}
use Rattle.afs_locdb.specs.Handling.{loc_decided_then, loc_record_decided, loc_record_then}
use Rattle.afs_locdb.specs.Saving.{DoesAll, OnDisk}
use Rattle.afs_locdb.specs.Seen.{loc_seen}
use Rattle.afs_saving.proofs.Still.{out_of_memory}
use Rattle.afs_locdb.proofs.Wholly.{none_made, wanting_disk}
use Rattle.afs_locdb.proofs.database.LocDb.take_bytes.Goals as goal

pub returns-clause-does : goal.returns-clause-does
returns-clause-does g c = subst (λ (m : Received). DoesAll (loc_decides (loc_seen c.args.self.now) m) c.args.self.now c.take.new.self c.take.result) c.in_ok-received.ensures.value c.take.ensures.does

pub returns-clause-disk : goal.returns-clause-disk
returns-clause-disk g c =
    let s = c.args.self.now.store in
    subst (λ (m : Received). OnDisk g.D.Disk (loc_record_decided s.durable.boot (loc_decides (loc_seen c.args.self.now) m)) s.durable s.disk c.take.new.self.store.disk c.take.result) c.in_ok-received.ensures.value c.take.ensures.disk

pub returns-in_err-received-clause-does : goal.returns-in_err-received-clause-does
returns-in_err-received-clause-does g c = none_made (loc_decided_then c.args.self.now c.args.bytes.now) c.args.self.now c.args.self.now c.from_residual.result (out_of_memory c.from_residual.result c.from_residual.ensures.1) refl

pub returns-in_err-received-clause-disk : goal.returns-in_err-received-clause-disk
returns-in_err-received-clause-disk g c = wanting_disk g.D.Disk (loc_record_then c.args.self.now c.args.bytes.now) c.args.self.now c.args.self.now c.from_residual.result (out_of_memory c.from_residual.result c.from_residual.ensures.1) refl

use Rattle.std.proofs.Common.{subst}
use Rattle.spec_rows.specs.LocRow.{LocDecision}
use Rattle.afs_locdb.specs.Handling.{loc_record_decided}
use Rattle.afs_locdb.specs.Saving.{DoesAll, OnDisk}
use Rattle.afs_locdb.specs.Seen.{loc_seen}
use Rattle.afs_locdb.proofs.Wholly.{in_call}
use Rattle.afs_locdb.proofs.database.LocDb.take_whole.Goals as goal

pub returns-in-Call-clause-does : goal.returns-in-Call-clause-does
returns-in-Call-clause-does g c =
    subst (λ (d : LocDecision). DoesAll d c.args.self.now c.take_call.new.self c.take_call.result) (in_call (loc_seen c.args.self.now) c.args.received.now c.args.message.now c.in-Call.user c.in-Call.call c.requires.whole c.in-Call.is) c.take_call.ensures.does

pub returns-in-Call-clause-disk : goal.returns-in-Call-clause-disk
returns-in-Call-clause-disk g c =
    let s = c.args.self.now.store in
    subst (λ (d : LocDecision). OnDisk g.D.Disk (loc_record_decided s.durable.boot d) s.durable s.disk c.take_call.new.self.store.disk c.take_call.result)
    (in_call (loc_seen c.args.self.now) c.args.received.now c.args.message.now c.in-Call.user c.in-Call.call c.requires.whole c.in-Call.is) c.take_call.ensures.disk

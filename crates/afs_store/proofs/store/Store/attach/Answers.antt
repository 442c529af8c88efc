use Rattle.std.proofs.Common.{◌≡◌, ◌∙◌, ap, sym, subst}
use Rattle.afs_journal.specs.Records.{journal_bytes, whole_records}
use Rattle.afs_store.specs.Rereading.{IsTakenUp}
use Rattle.afs_store.specs.Stores.{StoreOf}
use Rattle.afs_store.proofs.Attached.{are_begun, counted_taken_up}
use Rattle.afs_store.proofs.FoldsOn.{some_is}
use Rattle.afs_store.proofs.Reread.{attached_so, refused_so, rests_so}
use Rattle.afs_store.proofs.store.Store.attach.Goals as goal

pub made-requires-clause-counted : goal.made-requires-clause-counted
made-requires-clause-counted g c =
    let j = c.in_ok-journal.journal in
    let e = c.in_ok-journal.ensures in
    counted_taken_up j.count j.found (g.D.Disk.seen c.args.disk) (g.D.Disk.seen j.disk) (g.D.Disk.may_leave j.disk) e.counts.0 e.found e.at_rest e.told.0

pub made-requires-clause-rests : goal.made-requires-clause-rests
made-requires-clause-rests g c =
    let e = c.in_ok-journal.ensures in
    rests_so g.S.Fold.fold g.D.Disk.seen g.D.Disk.may_leave g.D.Disk.faults g.D.Disk.own_faults g.D.Disk.calls g.D.Disk.setting g.D.Disk.limit c.args.node c.args.disk c.in_ok-journal.journal
    (record { found = e.found; at_rest = e.at_rest; told = e.told.0; counted = e.counts.0; open_is = e.counts.1.1; passed = e.ok.1; quiet = e.quiet; rests = e.rests; same_limit = e.limit })

pub returns-in-Ok-clause-disk : goal.returns-in-Ok-clause-disk
returns-in-Ok-clause-disk g c =
    let e = c.in_ok-journal.ensures in
    subst (λ (x : g.row.D.Denot). IsTakenUp g.D.Disk.seen g.D.Disk.may_leave g.D.Disk.moment g.D.Disk.left_since g.D.Disk.faults g.D.Disk.own_faults g.D.Disk.calls g.D.Disk.setting g.D.Disk.limit c.args.disk x)
    (sym (ap (λ (s : StoreOf g.row.D.Denot g.row.R.Denot g.row.T.Denot). s.disk) c.in-Ok.ensures.made.rest)) (record { told = e.told; any_moment = e.any_moment; taken = e.ok.0; same_limit = e.limit })

pub returns-in-Ok-clause-attached : goal.returns-in-Ok-clause-attached
returns-in-Ok-clause-attached g c =
    let e = c.in_ok-journal.ensures in
    attached_so g.S.Fold.fold g.D.Disk.seen g.D.Disk.may_leave g.D.Disk.faults g.D.Disk.own_faults g.D.Disk.calls g.D.Disk.setting g.D.Disk.limit c.args.node c.args.disk c.in_ok-journal.journal
    (record { found = e.found; at_rest = e.at_rest; told = e.told.0; counted = e.counts.0; open_is = e.counts.1.1; passed = e.ok.1; quiet = e.quiet; rests = e.rests; same_limit = e.limit }) c.in-Ok.store c.in-Ok.ensures.made

pub returns-in-Ok-clause-lines : goal.returns-in-Ok-clause-lines
returns-in-Ok-clause-lines g c = λ bytes at.
    let j = c.in_ok-journal.journal in
    let e = c.in_ok-journal.ensures in
    are_begun g.S.Fold.fold c.args.node c.args.told (g.D.Disk.limit c.args.disk) j.count (whole_records bytes) j.found c.is_told-wanted.result c.in-Ok.lines (e.found bytes at) e.counts.0 c.is_told-wanted.ensures c.in-Ok.ensures.lines

pub returns-in-Ok-clause-quiet : goal.returns-in-Ok-clause-quiet
returns-in-Ok-clause-quiet g c =
    subst (λ (x : g.row.D.Denot). (g.D.Disk.faults x ≡ g.D.Disk.faults c.args.disk) × (g.D.Disk.own_faults x ≡ g.D.Disk.own_faults c.args.disk))
    (sym (ap (λ (s : StoreOf g.row.D.Denot g.row.R.Denot g.row.T.Denot). s.disk) c.in-Ok.ensures.made.rest)) c.in_ok-journal.ensures.quiet

pub returns-in-Err-clause-disk : goal.returns-in-Err-clause-disk
returns-in-Err-clause-disk g c =
    let e = c.in_ok-journal.ensures in
    subst (λ (x : g.row.D.Denot). IsTakenUp g.D.Disk.seen g.D.Disk.may_leave g.D.Disk.moment g.D.Disk.left_since g.D.Disk.faults g.D.Disk.own_faults g.D.Disk.calls g.D.Disk.setting g.D.Disk.limit c.args.disk x)
    (sym c.in-Err.ensures.made.disk_is) (record { told = e.told; any_moment = e.any_moment; taken = e.ok.0; same_limit = e.limit })

pub returns-in-Err-clause-attached : goal.returns-in-Err-clause-attached
returns-in-Err-clause-attached g c =
    let e = c.in_ok-journal.ensures in
    refused_so g.S.Fold.fold g.D.Disk.seen g.D.Disk.may_leave g.D.Disk.faults g.D.Disk.own_faults g.D.Disk.calls g.D.Disk.setting g.D.Disk.limit c.args.node c.args.disk c.in_ok-journal.journal
    (record { found = e.found; at_rest = e.at_rest; told = e.told.0; counted = e.counts.0; open_is = e.counts.1.1; passed = e.ok.1; quiet = e.quiet; rests = e.rests; same_limit = e.limit }) c.in-Err.refused c.in-Err.ensures.made

-- what a read gives of a journal at rest are its records
pub returns-in-Err-clause-reads : goal.returns-in-Err-clause-reads
returns-in-Err-clause-reads g c = λ bytes now told held.
    let rest = c.in_ok-journal.ensures.at_rest bytes told in
    let is = some_is now (journal_bytes (whole_records bytes)) (sym held ∙ (ap g.D.Disk.seen c.in-Err.ensures.made.disk_is ∙ rest.now)) in
    ap whole_records is ∙ rest.stands

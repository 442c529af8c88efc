use Rattle.std.proofs.Common.{ℕ, subst, sym}
use Rattle.afs_store.specs.Rereading.{IsTakenUp}
use Rattle.afs_store.specs.Stores.{IsKept}
use Rattle.afs_store.proofs.Attached.{counted_taken_up, kept_again}
use Rattle.afs_store.proofs.Reread.{comes_so, disk_is, quiet_so, rests_so}
use Rattle.afs_store.proofs.rereading.again.Goals as goal

pub remade-requires-clause-counted : goal.remade-requires-clause-counted
remade-requires-clause-counted g c =
    let j = c.in_ok-journal.journal in
    let e = c.in_ok-journal.ensures in
    counted_taken_up j.count j.found (g.D.Disk.seen c.args.disk) (g.D.Disk.seen j.disk) (g.D.Disk.may_leave j.disk) e.counts.0 e.found e.at_rest e.told.0

pub remade-requires-clause-rests : goal.remade-requires-clause-rests
remade-requires-clause-rests g c =
    let e = c.in_ok-journal.ensures in
    rests_so g.S.Fold.fold g.D.Disk.seen g.D.Disk.may_leave g.D.Disk.faults g.D.Disk.own_faults g.D.Disk.calls g.D.Disk.setting g.D.Disk.limit c.args.node c.args.disk c.in_ok-journal.journal
    (record { found = e.found; at_rest = e.at_rest; told = e.told.0; counted = e.counts.0; open_is = e.counts.1.1; passed = e.ok.1; quiet = e.quiet; rests = e.rests; same_limit = e.limit })

pub remade-requires-clause-kept : goal.remade-requires-clause-kept
remade-requires-clause-kept g c =
    let j = c.in_ok-journal.journal in
    let e = c.in_ok-journal.ensures in
    let parts = g.S.Fold.fold.held c.args.state in
    subst (λ (n : ℕ). IsKept g.S.Fold.fold (g.S.Fold.fold.placed c.args.len n parts) (g.D.Disk.seen j.disk) (g.D.Disk.may_leave j.disk)) (sym e.limit)
    (kept_again g.S.Fold.fold (g.S.Fold.fold.placed c.args.len (g.D.Disk.limit c.args.disk) parts) (g.D.Disk.seen c.args.disk) (g.D.Disk.seen j.disk) (g.D.Disk.may_leave j.disk) (g.D.Disk.may_leave c.args.disk) c.requires.kept e.at_rest e.told.0)

pub returns-clause-disk : goal.returns-clause-disk
returns-clause-disk g c =
    let d = c.args.disk in
    let e = c.in_ok-journal.ensures in
    subst (λ (x : g.row.D.Denot). IsTakenUp g.D.Disk.seen g.D.Disk.may_leave g.D.Disk.moment g.D.Disk.left_since g.D.Disk.faults g.D.Disk.own_faults g.D.Disk.calls g.D.Disk.setting g.D.Disk.limit d x)
    (sym
    (disk_is g.S.Fold.fold g.D.Disk.seen g.D.Disk.may_leave g.D.Disk.faults g.D.Disk.own_faults g.D.Disk.calls g.D.Disk.setting g.D.Disk.limit c.args.node d c.in_ok-journal.journal
    (record { found = e.found; at_rest = e.at_rest; told = e.told.0; counted = e.counts.0; open_is = e.counts.1.1; passed = e.ok.1; quiet = e.quiet; rests = e.rests; same_limit = e.limit })
    c.remade.result c.remade.ensures))
    (record { told = e.told; any_moment = e.any_moment; taken = e.ok.0; same_limit = e.limit })

pub returns-clause-attached : goal.returns-clause-attached
returns-clause-attached g c =
    let e = c.in_ok-journal.ensures in
    comes_so g.S.Fold.fold g.D.Disk.seen g.D.Disk.may_leave g.D.Disk.faults g.D.Disk.own_faults g.D.Disk.calls g.D.Disk.setting g.D.Disk.limit c.args.node c.args.disk c.in_ok-journal.journal
    (record { found = e.found; at_rest = e.at_rest; told = e.told.0; counted = e.counts.0; open_is = e.counts.1.1; passed = e.ok.1; quiet = e.quiet; rests = e.rests; same_limit = e.limit })
    c.remade.result c.remade.ensures

pub returns-clause-quiet : goal.returns-clause-quiet
returns-clause-quiet g c =
    let e = c.in_ok-journal.ensures in
    quiet_so g.S.Fold.fold g.D.Disk.seen g.D.Disk.may_leave g.D.Disk.faults g.D.Disk.own_faults g.D.Disk.calls g.D.Disk.setting g.D.Disk.limit c.args.node c.args.disk c.in_ok-journal.journal
    (record { found = e.found; at_rest = e.at_rest; told = e.told.0; counted = e.counts.0; open_is = e.counts.1.1; passed = e.ok.1; quiet = e.quiet; rests = e.rests; same_limit = e.limit })
    c.remade.result c.remade.ensures

use Rattle.std.proofs.Common.{subst, sym}
use Rattle.afs_final.specs.Reading.{IsRead}
use Rattle.afs_final.specs.declared.reading.Left.{Left}
use Rattle.afs_volstore.specs.Stores.{Store}
use Rattle.afs_final.proofs.Found.{refused_so}
use Rattle.afs_final.proofs.reading.read_store.Goals as goal

pub returns-in-Ok-clause-read : goal.returns-in-Ok-clause-read
returns-in-Ok-clause-read g c =
    let up = c.in-Ok.ensures.disk in
    let is = c.in-Ok.ensures.attached in
    let quiet = c.in-Ok.ensures.quiet in
    record { is = record { before = is.stands; after = is.kept.stands; capacity = is.capacity; quiet = quiet.0 }; never_falls = up.taken.never_falls; told = up.told }

pub returns-in-Err-clause-read : goal.returns-in-Err-clause-read
returns-in-Err-clause-read g c =
    let up = c.in-Err.ensures.disk in
    let is = c.in-Err.ensures.attached in
    let d = c.args.store.disk.disk in
    subst (λ (left : Left (Store g.row.D.Denot) g.row.D.Denot). IsRead g.D.Disk.seen g.D.Disk.faults g.D.Disk.limit d left) (sym c.refused.ensures)
    (refused_so g.D.Disk.seen g.D.Disk.faults g.D.Disk.limit d c.in-Err.disk (g.D.Disk.setting d) (g.D.Disk.calls c.in-Err.disk) (g.D.Disk.own_faults d) (g.D.Disk.own_faults c.in-Err.disk) c.in-Err.refusal is.refusal up.taken.never_falls up.told is.caused is.bad)

use Rattle.std.proofs.Common.{ap, is_some, subst, sym}
use Rattle.afs_final.specs.Reading.{IsRead}
use Rattle.afs_final.specs.declared.reading.Left.{Left}
use Rattle.afs_volstore.specs.Stores.{Store}
use Rattle.afs_final.proofs.Found.{refused_so}
use Rattle.afs_final.proofs.reading.read_disk.Goals as goal

pub returns-in-Ok : goal.returns-in-Ok
returns-in-Ok g c =
    let e = c.in-Ok.ensures in
    record {
      is = record { before = e.stands; after = λ bytes at. (e.kept (e.told.0 (ap is_some at))).stands bytes at; capacity = e.capacity; quiet = e.quiet.0 };
      never_falls = e.ok.0.never_falls;
      told = e.told;
    }

pub returns-in-Err : goal.returns-in-Err
returns-in-Err g c =
    let e = c.in-Err.ensures in
    let d = c.args.disk in
    subst (λ (left : Left (Store g.row.D.Denot) g.row.D.Denot). IsRead g.D.Disk.seen g.D.Disk.faults g.D.Disk.limit d left) (sym c.refused.ensures)
    (refused_so g.D.Disk.seen g.D.Disk.faults g.D.Disk.limit d c.in-Err.disk (g.D.Disk.setting d) (g.D.Disk.calls c.in-Err.disk) (g.D.Disk.own_faults d) (g.D.Disk.own_faults c.in-Err.disk) c.in-Err.refusal e.refusals e.err.0.never_falls e.told e.err.1 e.bad)

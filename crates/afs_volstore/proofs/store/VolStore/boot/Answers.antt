use Rattle.std.proofs.Common.{◌≡◌, ◌+◌, ℕ, List, Some, subst}
use Rattle.afs_disk.specs.Disk.{LeavesOnly}
use Rattle.afs_journal.specs.Records.{whole_records}
use Rattle.afs_journal.proofs.Moments.{begins}
use Rattle.spec_records.specs.Changes.{boot_record}
use Rattle.afs_store.proofs.Kept.{left_now}
use Rattle.afs_volstore.specs.Stores.{LeftAround, Store}
use Rattle.afs_volstore.specs.VolumeFold.{volume_fold}
use Rattle.afs_volstore.proofs.store.VolStore.boot.Goals as goal

-- memory was wanting for the lines: no device call was made
pub returns-in-Err-clause-any_moment : goal.returns-in-Err-clause-any_moment
returns-in-Err-clause-any_moment g c = λ bytes told.
    let s = c.args.self.now in
    let rec = boot_record (s.durable.boot + 1) in
    begins g.D.Disk.moment g.D.Disk.left_since s.disk (LeftAround (whole_records bytes) rec s.durable)
    (λ b left. left_now volume_fold rec s.durable (g.D.Disk.seen s.disk) (g.D.Disk.may_leave s.disk) bytes c.vanished.ensures.kept told b (g.met.D.Disk.just_now s.disk b left))

pub returns-clause-any_moment : goal.returns-clause-any_moment
returns-clause-any_moment g c =
    subst
    (λ (s : Store g.row.D.Denot). (bytes : List ℕ) → g.D.Disk.seen s.disk ≡ Some bytes → LeavesOnly g.D.Disk.moment g.D.Disk.left_since s.disk c.boot.new.self.disk (LeftAround (whole_records bytes) (boot_record (s.durable.boot + 1)) s.durable))
    c.self.view_is c.boot.ensures.any_moment

pub returns-in_err-boot-clause-any_moment : goal.returns-in_err-boot-clause-any_moment
returns-in_err-boot-clause-any_moment g c =
    subst
    (λ (s : Store g.row.D.Denot). (bytes : List ℕ) → g.D.Disk.seen s.disk ≡ Some bytes → LeavesOnly g.D.Disk.moment g.D.Disk.left_since s.disk c.boot.new.self.disk (LeftAround (whole_records bytes) (boot_record (s.durable.boot + 1)) s.durable))
    c.self.view_is c.boot.ensures.any_moment

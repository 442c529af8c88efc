use Rattle.std.proofs.Common.{◌≡◌, ℕ, List, Some, false, subst}
use Rattle.afs_num.specs.declared.records.StoreRecord.{StoreRecord}
use Rattle.afs_disk.specs.Disk.{LeavesOnly}
use Rattle.afs_journal.specs.Records.{whole_records}
use Rattle.afs_volstore.specs.Stores.{LeftAround, Store}
use Rattle.afs_volstore.proofs.store.VolStore.commit.Goals as goal

pub returns-clause-any_moment : goal.returns-clause-any_moment
returns-clause-any_moment g c =
    subst
    (λ (s : Store g.row.D.Denot). s.closed ≡ false → (r : StoreRecord) → s.prepared ≡ Some r → (bytes : List ℕ) → g.D.Disk.seen s.disk ≡ Some bytes → LeavesOnly g.D.Disk.moment g.D.Disk.left_since s.disk c.commit.new.self.disk (LeftAround (whole_records bytes) r s.durable))
    c.self.view_is c.commit.ensures.any_moment

-- A disk that is taken up anew, under a server's store that is there.
use Rattle.std.specs.Prelude.{ℕ, List, Option, Result, Ok, Err}
use Rattle.afs_num.specs.declared.types.Node.{Node}
use Rattle.afs_num.specs.declared.faults.StoreFault.{StoreFault}
use Rattle.afs_disk.specs.Disk.{Setting}
use Rattle.spec_fold.specs.Fold.{first_bad}
use Rattle.spec_records.specs.Durable.{Durable}
use Rattle.afs_store.specs.Rereading as taken
use Rattle.afs_volstore.specs.Stands.{StandsForVolumes}
use Rattle.afs_volstore.specs.Stores.{recorded, Store}
pub use Rattle.afs_store.specs.Rereading.{IsTakenUp}

-- the disk of the store that was made of it, or the one that was handed back
abbrev pub disk_after : {D : Type 0} → Result (Store D) (StoreFault × D) → D
disk_after (Ok s) = s.disk
disk_after (Err e) = e.1

-- A store over it: at rest with the records that it told, of which this is made; a journal at rest is synced and read, and nothing more.
abbrev pub IsAttached : {D : Type 0} → (D → Option (List ℕ)) → (D → List ℕ → Type 0) → (D → ℕ) → (D → Setting) → (D → ℕ) → Node → D → Store D → Type 0
IsAttached seen may_leave calls setting limit node disk s = taken.IsAttached StandsForVolumes (λ (d : Durable). d.capacity) seen may_leave calls setting limit node disk (recorded s)

-- A refusal: the disk failed, memory was wanting, or this record can't be taken.
abbrev pub IsRefused : {D : Type 0} → (D → Option (List ℕ)) → (D → ℕ) → (D → ℕ) → (D → ℕ) → (D → Setting) → (D → ℕ) → D → (StoreFault × D) → Type 0
IsRefused seen faults own_faults calls setting limit disk e = taken.IsRefused first_bad seen faults own_faults calls setting limit disk e

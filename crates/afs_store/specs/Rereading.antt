-- A disk that is taken up, and a store that is made of it.
use Rattle.std.specs.Prelude.{◌≡◌, ◌+◌, ◌↔◌, ℕ, List, false, None, Option, Some, Result, Ok, Err, length, IsSome}
use Rattle.afs_num.specs.declared.types.Node.{Node}
use Rattle.afs_num.specs.declared.faults.StoreFault.{StoreFault}
use Rattle.afs_num.specs.declared.faults.StoreFault.TheVariants as fault
use Rattle.afs_disk.specs.Disk.{LeavesOnly, PassesAll, Setting}
use Rattle.afs_journal.specs.Log.{IsJournal, Log, Rests, StandsAsBefore, TakesUpDisk}
use Rattle.afs_journal.specs.Records.{whole_records}
use Rattle.afs_store.specs.Opening.{IsAttachFault, IsFoldFault}
use Rattle.afs_store.specs.Stores.{IsCaused, Keeps, StoreOf}

-- ---- the disk

-- that of the store that was made of it, or the one that was handed back
abbrev pub disk_after : {D R T : Type 0} → Result (StoreOf D R T) (StoreFault × D) → D
disk_after (Ok s) = s.disk
disk_after (Err e) = e.1

-- What taking it up does to a disk: it tells as before, a crash at any moment leaves records that one before might have left, and it makes
-- few device calls.
pub record IsTakenUp {D : Type 0} (seen : D → Option (List ℕ)) (may_leave : D → List ℕ → Type 0) (moment : D → ℕ) (left_since : D → ℕ → List ℕ → Type 0) (faults own_faults calls : D → ℕ) (setting : D → Setting) (limit : D → ℕ) (old new : D) : Type 0 where
  pub told : IsSome (seen new) ↔ IsSome (seen old)
  pub any_moment : (bytes : List ℕ) → seen old ≡ Some bytes → LeavesOnly moment left_since old new (StandsAsBefore (may_leave old))
  pub taken : TakesUpDisk faults own_faults calls setting old new
  pub same_limit : limit new ≡ limit old

-- ---- what came of it

-- A store over it: at rest with the records that it told, of which this is made; a journal at rest is synced and read, and nothing more.
pub record IsAttached {D R T : Type 0} (Standing : List ℕ → T → Type 0) (sized : T → ℕ) (seen : D → Option (List ℕ)) (may_leave : D → List ℕ → Type 0) (calls : D → ℕ) (setting : D → Setting) (limit : D → ℕ) (node : Node) (disk : D) (s : StoreOf D R T) : Type 0 where
  pub stands : (bytes : List ℕ) → seen disk ≡ Some bytes → Standing bytes s.durable
  pub at_rest : (bytes : List ℕ) → seen disk ≡ Some bytes → IsJournal (whole_records bytes) (seen s.disk) (may_leave s.disk)
  pub count : (bytes : List ℕ) → seen disk ≡ Some bytes → s.count ≡ length (whole_records bytes)
  pub rest : s ≡ record { durable = s.durable; disk = s.disk; node = node; prepared = None; closed = false; count = s.count; drawn = 0 }
  pub capacity : sized s.durable ≡ limit disk
  pub kept : Keeps (λ bytes. Standing bytes s.durable) (seen s.disk) (may_leave s.disk)
  pub passed : PassesAll (setting disk) (calls disk) (calls s.disk)
  pub rests : (bytes : List ℕ) → seen disk ≡ Some bytes → Rests bytes → calls s.disk ≡ calls disk + 2

-- A refusal: the disk failed, memory was wanting, or this record can't be taken.
pub record IsRefused {D : Type 0} (first : ℕ → List (List ℕ) → Option ℕ) (seen : D → Option (List ℕ)) (faults own_faults calls : D → ℕ) (setting : D → Setting) (limit : D → ℕ) (disk : D) (e : StoreFault × D) : Type 0 where
  pub refusal : IsAttachFault e.0
  pub bad : (n : ℕ) → e.0 ≡ fault.BadRecord n → (bytes : List ℕ) → seen disk ≡ Some bytes → first (limit disk) (whole_records bytes) ≡ Some n
  pub caused : IsCaused (setting disk) (calls e.1) (faults disk) (faults e.1) (own_faults disk) (own_faults e.1) e.0

-- ---- a journal that was taken up

-- a store over it, with what its records make
pub record IsMade {D R T : Type 0} (Standing : List ℕ → T → Type 0) (sized : T → ℕ) (seen : D → Option (List ℕ)) (may_leave : D → List ℕ → Type 0) (limit : D → ℕ) (node : Node) (log : Log D) (s : StoreOf D R T) : Type 0 where
  pub rest : s ≡ record { durable = s.durable; disk = log.disk; node = node; prepared = None; closed = log.closed; count = log.count; drawn = 0 }
  pub capacity : sized s.durable ≡ limit log.disk
  pub kept : Keeps (λ bytes. Standing bytes s.durable) (seen log.disk) (may_leave log.disk)

-- no store can be made
pub record IsNotMade {D : Type 0} (first : ℕ → List (List ℕ) → Option ℕ) (log : Log D) (e : StoreFault × D) : Type 0 where
  pub refusal : IsFoldFault e.0
  pub disk_is : e.1 ≡ log.disk
  pub bad : (n : ℕ) → e.0 ≡ fault.BadRecord n → (capacity : ℕ) → first capacity log.found ≡ Some n

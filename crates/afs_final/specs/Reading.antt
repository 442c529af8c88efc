-- What is found on the disks of the servers at the end of a run.
use Rattle.std.specs.Prelude.{◌≡◌, ◌≤◌, ◌↔◌, ℕ, List, [], ◌∷◌, Option, Some, None, IsSome}
use Rattle.afs_num.specs.declared.faults.StoreFault.{StoreFault}
use Rattle.afs_num.specs.declared.faults.StoreFault.TheVariants as store
use Rattle.afs_disk.specs.Disk.{Rose}
use Rattle.afs_disk.specs.declared.bank.LendFault.{LendFault}
use Rattle.afs_disk.specs.declared.bank.LendFault.TheVariants as faults
use Rattle.afs_disk.specs.declared.disks.Lent.{Lent}
use Rattle.spec_records.specs.Durable.{nothing_on, Durable}
use Rattle.afs_volstore.specs.Stands.{StandsForVolumes}
use Rattle.afs_volstore.specs.Stores.{Store}
use Rattle.afs_final.specs.declared.reading.Left.{Left}
use Rattle.afs_final.specs.declared.reading.Left.TheVariants as left

-- the disk behind what was found on it
abbrev pub kept_disk : {D : Type 0} → Left (Store D) D → D
kept_disk {D} (left.Kept s) = s.disk
kept_disk {D} (left.Bad disk) = disk
kept_disk {D} (left.Failed disk) = disk
kept_disk {D} (left.Unread disk) = disk

-- what it keeps; nothing, where that can't be told
abbrev pub part : {D : Type 0} → Left (Store D) D → Durable
part {D} (left.Kept s) = s.durable
part {D} (left.Bad disk) = nothing_on 0
part {D} (left.Failed disk) = nothing_on 0
part {D} (left.Unread disk) = nothing_on 0

-- a disk of which no store could be made, by the reason
abbrev pub refused : {S D : Type 0} → StoreFault → D → Left S D
refused {S} {D} (store.BadRecord number) disk = left.Bad disk
refused {S} {D} store.OutOfMemory disk = left.Unread disk
refused {S} {D} (store.Full used capacity) disk = left.Failed disk
refused {S} {D} store.Failed disk = left.Failed disk
refused {S} {D} store.Closed disk = left.Failed disk

-- The bytes that the disk told stand for this, and its bytes stand for it still. It didn't fail.
pub record IsOfDisk {D : Type 0} (seen : D → Option (List ℕ)) (faults limit : D → ℕ) (disk : D) (s : Store D) : Type 0 where
  pub before : (bytes : List ℕ) → seen disk ≡ Some bytes → StandsForVolumes bytes s.durable
  pub after : (bytes : List ℕ) → seen s.disk ≡ Some bytes → StandsForVolumes bytes s.durable
  pub capacity : s.durable.capacity ≡ limit disk
  pub quiet : faults s.disk ≡ faults disk

-- What the disk keeps was found; or it has a record that can't be taken, which a disk that stands for something has not; or it failed; or
-- memory ran out. Where it failed its count of faults rose, and else it didn't.
abbrev pub IsFound : {D : Type 0} → (D → Option (List ℕ)) → (D → ℕ) → (D → ℕ) → D → Left (Store D) D → Type 0
IsFound {D} seen faults limit disk (left.Kept s) = IsOfDisk seen faults limit disk s
IsFound {D} seen faults limit disk (left.Bad d) = (faults d ≡ faults disk) × ((bytes : List ℕ) → seen disk ≡ Some bytes → (p : Durable) → p.capacity ≡ limit disk → StandsForVolumes bytes p → ⊥)
IsFound {D} seen faults limit disk (left.Failed d) = Rose (faults disk) (faults d)
IsFound {D} seen faults limit disk (left.Unread d) = faults d ≡ faults disk

pub record IsRead {D : Type 0} (seen : D → Option (List ℕ)) (faults limit : D → ℕ) (disk : D) (found : Left (Store D) D) : Type 0 where
  pub is : IsFound seen faults limit disk found
  pub never_falls : faults disk ≤ faults (kept_disk found)
  pub told : IsSome (seen (kept_disk found)) ↔ IsSome (seen disk)

-- each disk was read
abbrev pub AreFound : {D : Type 0} → (D → Option (List ℕ)) → (D → ℕ) → (D → ℕ) → List (Lent D) → List (Left (Store D) D) → Type 0
AreFound {D} seen faults limit [] [] = Unit {0}
AreFound {D} seen faults limit [] (f ∷ fs) = ⊥
AreFound {D} seen faults limit (l ∷ ls) [] = ⊥
AreFound {D} seen faults limit (l ∷ ls) (f ∷ fs) = IsRead seen faults limit l.disk f × AreFound seen faults limit ls fs

-- memory was wanting for one disk: where one of the others failed, that counts
abbrev pub or_memory : Option LendFault → LendFault
or_memory None = faults.OutOfMemory
or_memory (Some faults.Failed) = faults.Failed
or_memory (Some faults.OutOfMemory) = faults.OutOfMemory

-- why what the disks keep can't be told: one of them failed; or none did, and memory was wanting for what one of them holds
abbrev pub fault_in : {D : Type 0} → List (Left (Store D) D) → Option LendFault
fault_in {D} [] = None
fault_in {D} (left.Kept s ∷ fs) = fault_in fs
fault_in {D} (left.Bad d ∷ fs) = fault_in fs
fault_in {D} (left.Failed d ∷ fs) = Some faults.Failed
fault_in {D} (left.Unread d ∷ fs) = Some (or_memory (fault_in fs))

-- A store, as its callers see it.
use Rattle.std.specs.Prelude.{◌≡◌, ◌≤◌, ◌⊎◌, ℕ, List, Bool, Option, Some, Result, Ok, Err, IsErrOf, OnOk, length}
use Rattle.afs_num.specs.declared.types.Node.{Node}
use Rattle.afs_num.specs.declared.faults.StoreFault.{StoreFault}
use Rattle.afs_num.specs.declared.faults.StoreFault.TheVariants as faults
use Rattle.afs_disk.specs.Disk.{LeavesJust, Rose, Setting, Trips, PassesAll}
use Rattle.afs_journal.specs.Records.{whole_records, IsBeforeOrAfter}
use Rattle.afs_store.specs.Folding.{Folding}

-- A store: what it keeps on its disk, the disk, the node, the record that the next commit puts there, whether a device call
-- failed since the disk was attached, how many records stand on the disk, and the last number of the node's own calls since
-- then.
pub record StoreOf (D R T : Type 0) : Type 0 where
  pub durable : T
  pub disk : D
  pub node : Node
  pub prepared : Option R
  pub closed : Bool
  pub count : ℕ
  pub drawn : ℕ

-- ---- what a crash leaves

-- these records are those of a disk that keeps this
abbrev pub StandFor : {R T S P : Type 0} → Folding R T S P → List (List ℕ) → T → Type 0
StandFor k records d = k.fold_all (k.capacity d) records ≡ Some d

abbrev pub Stands : {R T S P : Type 0} → Folding R T S P → List ℕ → T → Type 0
Stands k bytes d = StandFor k (whole_records bytes) d

-- the disk stands for this, and no crash leaves other bytes
pub record Keeps (This : List ℕ → Type 0) (seen : Option (List ℕ)) (may_leave : List ℕ → Type 0) : Type 0 where
  pub stands : (bytes : List ℕ) → seen ≡ Some bytes → This bytes
  pub durable : (bytes : List ℕ) → seen ≡ Some bytes → LeavesJust bytes may_leave

-- the disk stands for what the store keeps, and no crash leaves another
abbrev pub IsKept : {R T S P : Type 0} → Folding R T S P → T → Option (List ℕ) → (List ℕ → Type 0) → Type 0
IsKept k d seen may_leave = Keeps (λ bytes. Stands k bytes d) seen may_leave

-- the bytes stand for what was kept before this record, or for what is kept with it
abbrev pub StandsAround : {R T S P : Type 0} → Folding R T S P → R → T → List ℕ → Type 0
StandsAround {R} {T} k r d bytes = Stands k bytes d ⊎ ((e : T) × ((k.folded r d ≡ Some e) × Stands k bytes e))

-- these records, with this one or without it, and what they stand for
abbrev pub LeftAround : {R T S P : Type 0} → Folding R T S P → List (List ℕ) → R → T → List ℕ → Type 0
LeftAround k records r d bytes = IsBeforeOrAfter records (k.spelled r) bytes × StandsAround k r d bytes

-- so many whole records stand on the disk
abbrev pub IsCounted : ℕ → Option (List ℕ) → Type 0
IsCounted count seen = (bytes : List ℕ) → seen ≡ Some bytes → length (whole_records bytes) ≡ count

-- ---- refusals

-- what a call's refusal comes from, after device calls up to this number: a disk that failed; at any other refusal no count of
-- faults rose
abbrev pub IsCaused : Setting → ℕ → ℕ → ℕ → ℕ → ℕ → StoreFault → Type 0
IsCaused setting last before now own_before own_now faults.Failed = Rose before now × (Trips setting last ⊎ Rose own_before own_now)
IsCaused setting last before now own_before own_now refusal = (now ≡ before) × (own_now ≡ own_before)

-- A call's device calls, the first behind this number and the last of that one: no count of faults falls, a failure has its
-- cause, at any other answer no count rose, and at Ok none was set to trip.
pub record Served {T : Type 0} (setting : Setting) (first last before now own_before own_now : ℕ) (result : Result T StoreFault) : Type 0 where
  pub never_falls : before ≤ now
  pub own_never_falls : own_before ≤ own_now
  pub failed : IsErrOf result faults.Failed → Rose before now × (Trips setting last ⊎ Rose own_before own_now)
  pub quiet : (IsErrOf result faults.Failed → ⊥) → (now ≡ before) × (own_now ≡ own_before)
  pub passed : OnOk result (PassesAll setting first last)

-- the refusals that come before any device call
abbrev pub IsEarly : {T : Type 0} → Result T StoreFault → Type 0 → Type 0
IsEarly {T} (Ok x) same = Unit {0}
IsEarly {T} (Err faults.Failed) same = Unit {0}
IsEarly {T} (Err refusal) same = same

-- nothing but the room of the disk is another
abbrev pub SameBut : {D R T : Type 0} → StoreOf D R T → StoreOf D R T → Type 0
SameBut old new = new ≡ record old { disk = new.disk }

-- set-up is refused where the record doesn't fit, the disk failed or memory was wanting
abbrev pub IsSetUpFault : StoreFault → Type 0
IsSetUpFault (faults.Full used capacity) = Unit {0}
IsSetUpFault faults.Failed = Unit {0}
IsSetUpFault faults.OutOfMemory = Unit {0}
IsSetUpFault refusal = ⊥

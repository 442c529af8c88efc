-- A record that waits for its commit: what it needs has been taken.
use Rattle.std.specs.Prelude.{◌≡◌, ◌≤◌, ◌<◌, ◌+◌, ℕ, true, false, Option, Some, None, is_some, length}
use Rattle.afs_disk.specs.Disk.{Room}
use Rattle.afs_journal.specs.Log.{Log, HasRoom}
use Rattle.afs_store.specs.Folding.{Folding}
use Rattle.afs_store.specs.Folds.{place_length}

-- behind a journal with its gate here, on a disk of this capacity
abbrev pub IsTooLong : {R T S P : Type 0} → Folding R T S P → ℕ → ℕ → R → Type 0
IsTooLong k gate capacity r = capacity < gate + 1 + place_length k r

-- A record of so many bytes fits behind a journal that is open, and wants no memory there.
abbrev pub HasPlaceOn : {D : Type 0} → (D → ℕ) → (D → Room) → ℕ → Log D → Type 0
HasPlaceOn limit space n log = log.closed ≡ false → (log.gate + 1 + n + 9 ≤ limit log.disk) × HasRoom limit space n log

-- what has room in one memory has it in the other
abbrev pub KeepsMemory : {R T S P : Type 0} → Folding R T S P → S → S → Type 0
KeepsMemory {R} {T} {S} {P} k old new = (p : P) → k.HasRoomFor p old → k.HasRoomFor p new

pub record Waits {R T S P D : Type 0} (k : Folding R T S P) (limit : D → ℕ) (space : D → Room) (log : Log D) (s : S) (p : P) : Type 0 where
  pub taken : is_some (k.done (k.record_of p) (k.held s)) ≡ true
  pub ready : k.IsReady p
  pub suits : k.Suits p (k.held s)
  pub room : k.HasRoomFor p s
  pub place : HasPlaceOn limit space (length (k.spelled (k.record_of p))) log

abbrev pub WaitsReady : {R T S P D : Type 0} → Folding R T S P → (D → ℕ) → (D → Room) → Log D → S → Option P → Type 0
WaitsReady k limit space log s None = Unit {0}
WaitsReady k limit space log s (Some p) = Waits k limit space log s p

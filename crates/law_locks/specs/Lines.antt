-- For which entry each stamp was drawn, and that a lock has the last one that was drawn for its entry.
use Rattle.std.specs.Prelude.{◌≡◌, ◌≤◌, ◌<◌, ⊤, ℕ, Option, Some, None}
use Rattle.spec_ideal.specs.Tables.{get, AscendsFrom, Table}
use Rattle.spec_records.specs.LocRecords.{Listed, Lock}

-- The stamp was drawn for the entry of this number, and is the last that was: `entry_of` says it of each stamp below the next.
pub record IsLastOf (entry_of : ℕ → ℕ) (next key stamp : ℕ) : Type 0 where
  pub drawn : stamp < next
  pub its : entry_of stamp ≡ key
  pub last : (b : ℕ) → b < next → entry_of b ≡ key → b ≤ stamp

-- The stamp was drawn, for the entry of this volume. 0 is none.
abbrev pub IsDrawnFor : (ℕ → ℕ) → ℕ → ℕ → ℕ → Type 0
IsDrawnFor entry_of next volume stamp = ((0 < stamp) × (stamp < next)) × (entry_of stamp ≡ volume)

abbrev pub LockIsLast : (ℕ → ℕ) → ℕ → ℕ → Option Lock → Type 0
LockIsLast entry_of next key None = ⊤
LockIsLast entry_of next key (Some k) = IsLastOf entry_of next key k.stamp

-- Entries stand under their numbers, and each lock is the last of its entry. So who has an earlier stamp of the entry lost the lock, and can't
-- get it back.
pub record AreInLine (entry_of : ℕ → ℕ) (next : ℕ) (entries : Table Listed) : Type 0 where
  pub begins : 0 < next
  pub ascends : AscendsFrom 0 entries
  pub keyed : (k : ℕ) (l : Listed) → get k entries ≡ Some l → l.entry.read_write ≡ k
  pub locks : (k : ℕ) (l : Listed) → get k entries ≡ Some l → LockIsLast entry_of next k l.lock

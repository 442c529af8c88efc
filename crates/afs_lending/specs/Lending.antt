-- The disks of a cell's location database and servers are lent, and given back.
use Rattle.std.specs.Prelude.{◌≡◌, ◌≤◌, ◌⊎◌, ℕ, zero, suc, ◌+◌, List, [], ◌∷◌, ◌++◌, Option, Some, Result, take, option_map, IsErr, IsSome}
use Rattle.afs_num.specs.Places.{at_place}
use Rattle.afs_num.specs.declared.devices.Failed.{Failed}
use Rattle.afs_disk.specs.Banks.{IsTakenBack, counted}
use Rattle.afs_disk.specs.Disk.{Rose}
use Rattle.afs_disk.specs.Fuses.{last_of_counter}
use Rattle.afs_disk.specs.declared.bank.Lend.{Lend}
use Rattle.afs_disk.specs.declared.bank.Place.{Place}
use Rattle.afs_disk.specs.declared.disks.Lent.{Lent}
use Rattle.afs_volstore.specs.Stores.{Store}
use Rattle.afs_final.specs.Reading.{kept_disk}
use Rattle.afs_final.specs.declared.reading.Left.{Left}

-- ---- lends

-- one disk for each of so many nodes, by their numbers from this one on, each of this capacity
abbrev pub lends : Place → ℕ → ℕ → ℕ → List Lend
lends place capacity i zero = []
lends place capacity i (suc more) = record { place = place; node = i; capacity = capacity } ∷ lends place capacity (i + 1) more

-- the first of them were lent, however many, and nothing else
abbrev pub LendsSome : List Lend → Option (List Lend) → Option (List Lend) → Type 0
LendsSome all old new = (n : ℕ) × (new ≡ option_map (λ ls. ls ++ take n all) old)

-- ---- disks that were lent

-- the disks of these nodes, by their numbers from this one on, each of this capacity
abbrev pub AreLent : {D : Type 0} → (D → ℕ) → ℕ → ℕ → List (Lent D) → Type 0
AreLent {D} limit capacity i [] = Unit {0}
AreLent {D} limit capacity i (l ∷ ls) = (l.node ≡ i) × ((limit l.disk ≡ capacity) × AreLent limit capacity (i + 1) ls)

-- each of them tells what it holds
abbrev pub LentTell : {D : Type 0} → (D → Option (List ℕ)) → List (Lent D) → Type 0
LentTell {D} seen ls = (n : ℕ) (l : Lent D) → at_place ls n ≡ Some l → IsSome (seen l.disk)

-- none of them has failed yet
abbrev pub AreUnused : {D : Type 0} → (D → ℕ) → List (Lent D) → Type 0
AreUnused {D} faults [] = Unit {0}
AreUnused {D} faults (l ∷ ls) = (faults l.disk ≡ 0) × AreUnused faults ls

-- ---- disks that are given back

-- the disks behind what was read of them, by their servers' numbers from this one on
abbrev pub kept_disks : {D : Type 0} → ℕ → List (Left (Store D) D) → List (Lent D)
kept_disks {D} i [] = []
kept_disks {D} i (f ∷ fs) = record { node = i; disk = kept_disk f } ∷ kept_disks (i + 1) fs

-- all disks of a cell: that of its location database, and those of its servers behind what was read of them
abbrev pub all_kept : {D : Type 0} → D → List (Left (Store D) D) → List (Lent D)
all_kept {D} database left = record { node = 0; disk = database } ∷ kept_disks 1 left

-- A bank failed so often: its count of faults rose by so many, or by more, and where it didn't fail, it stands. One that stands at the last
-- value of a counter counts as risen.
abbrev pub HasFailed : ℕ → ℕ → ℕ → Type 0
HasFailed times before after = ((before + times ≤ after) ⊎ (last_of_counter ≤ after)) × (times ≡ 0 → after ≡ before)

-- so many of these are missing, and the others are given back, in their order, and nothing else
abbrev pub GivesBackBut : {D : Type 0} → (D → Option (List ℕ)) → ℕ → List (Lent D) → Option (List (ℕ × List ℕ)) → Option (List (ℕ × List ℕ)) → Type 0
GivesBackBut {D} seen missing [] old new = (missing ≡ 0) × (new ≡ old)
GivesBackBut {D} seen missing (l ∷ ls) old new = ((next : Option (List (ℕ × List ℕ))) × (IsTakenBack l.node (seen l.disk) old next × GivesBackBut seen missing ls next new))
    ⊎ ((others : ℕ) × ((missing ≡ others + 1) × GivesBackBut seen others ls old new))

-- These go back, but for those at which the bank failed.
pub record GoBack {D : Type 0} (seen : D → Option (List ℕ)) (ls : List (Lent D)) (old new : Option (List (ℕ × List ℕ))) (before after : ℕ) : Type 0 where
  pub missing : ℕ
  pub given : GivesBackBut seen missing ls old new
  pub failed : HasFailed missing before after

-- One goes back: the bank took it and counts no failure, or it didn't and counts one.
abbrev pub OneGoesBack : ℕ → Option (List ℕ) → Option (List (ℕ × List ℕ)) → Option (List (ℕ × List ℕ)) → ℕ → ℕ → Result (Unit {0}) Failed → Result (Unit {0}) Failed → Type 0
OneGoesBack node seen old new before after taken_before taken =
    (IsTakenBack node seen old new × ((after ≡ before) × (taken ≡ taken_before))) ⊎ ((new ≡ old) × (Rose before after × IsErr taken))

-- how often the disks of node n had failed that were given back, with these, one after the other
abbrev pub with_faults : {D : Type 0} → (D → ℕ) → List (Lent D) → ℕ → ℕ → ℕ
with_faults {D} faults [] n count = count
with_faults {D} faults (l ∷ ls) n count = with_faults faults ls n (counted l.node (faults l.disk) n count)

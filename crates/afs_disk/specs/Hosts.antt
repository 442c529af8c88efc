-- A disk in memory or in a file.
use Rattle.std.specs.Prelude.{◌≡◌, ◌≤◌, ℕ, List, [], length, Option, Some, None}
use Rattle.std.proofs.Common.{inl, refl}
use Rattle.afs_disk.specs.Disk.{Room, Setting}
use Rattle.afs_disk.specs.declared.host.HostDisk.{HostDisk}
use Rattle.afs_disk.specs.declared.host.HostDisk.TheVariants.{Memory, File}
use Rattle.afs_disk.specs.declared.bank.Lend.{Lend}
use Rattle.afs_disk.specs.declared.bank.Place.{Place}
use Rattle.afs_disk.specs.declared.bank.Place.TheVariants as places
use Rattle.afs_disk.specs.Files.{filed_room, untold}
use Rattle.afs_disk.specs.Images.{MayLeave, image}
use Rattle.afs_disk.specs.Past.{Since, measured, memory_room, only_now, picked_leaves}

abbrev pub host_seen : HostDisk → Option (List ℕ)
host_seen (Memory m) = Some m.held.now
host_seen (File f) = None

abbrev pub host_size : HostDisk → ℕ
host_size (Memory m) = length m.held.now
host_size (File f) = f.size

abbrev pub host_left_by : HostDisk → ℕ → Option (List ℕ)
host_left_by (Memory m) pick = Some (image pick m.held)
host_left_by (File f) pick = None

abbrev pub host_leaves : HostDisk → List ℕ → Type 0
host_leaves (Memory m) c = MayLeave m.held c
host_leaves (File f) c = Unit {0}

abbrev pub host_moment : HostDisk → ℕ
host_moment (Memory m) = length m.past
host_moment (File f) = 0

abbrev pub host_since : HostDisk → ℕ → List ℕ → Type 0
host_since (Memory m) t c = Since m.past m.held t c
host_since (File f) t c = Unit {0}

abbrev pub host_faults : HostDisk → ℕ
host_faults (Memory m) = m.faults
host_faults (File f) = f.faults

abbrev pub host_calls : HostDisk → ℕ
host_calls (Memory m) = m.calls
host_calls (File f) = f.calls

abbrev pub host_setting : HostDisk → Setting
host_setting disk = record { stop = None; fail = None }

abbrev pub host_limit : HostDisk → ℕ
host_limit (Memory m) = m.limit
host_limit (File f) = f.limit

abbrev pub host_space : HostDisk → Room
host_space (Memory m) = memory_room m
host_space (File f) = filed_room f

pub host_counts : (disk : HostDisk) (t : ℕ) (c : List ℕ) → t ≤ host_moment disk → host_leaves disk c → host_since disk t c
host_counts (Memory m) t c le now = inl now
host_counts (File f) t c le now = tt

pub host_just : (disk : HostDisk) (c : List ℕ) → host_since disk (host_moment disk) c → host_leaves disk c
host_just (Memory m) c left = only_now m.past m.held c left
host_just (File f) c left = tt

pub host_picked : (disk : HostDisk) (pick : ℕ) (bytes : List ℕ) → host_left_by disk pick ≡ Some bytes → host_leaves disk bytes
host_picked (Memory m) pick bytes told = picked_leaves m.held pick bytes told
host_picked (File f) pick bytes told = tt

pub host_shows : (disk : HostDisk) → host_left_by disk 1 ≡ host_seen disk
host_shows (Memory m) = refl
host_shows (File f) = refl

pub host_measures : (disk : HostDisk) (bytes : List ℕ) → host_seen disk ≡ Some bytes → length bytes ≡ host_size disk
host_measures (Memory m) bytes told = measured m.held.now bytes told
host_measures (File f) bytes told = untold bytes (length bytes ≡ f.size) told

-- a disk in memory tells what it holds, one in a folder doesn't
abbrev pub host_tells : Place → Type 0
host_tells places.Memory = Unit {0}
host_tells (places.Folder path) = ⊥

-- In memory an empty disk that is set to fail nowhere, in a folder one over a file.
abbrev pub IsLentAt : Place → HostDisk → Type 0
IsLentAt places.Memory (Memory m) = (m.held.now ≡ []) × ((m.held.kept ≡ []) × ((m.held.unsynced ≡ []) × ((m.past ≡ []) × ((m.failing ≡ []) × (m.calls ≡ 0)))))
IsLentAt places.Memory (File f) = ⊥
IsLentAt (places.Folder path) (File f) = Unit {0}
IsLentAt (places.Folder path) (Memory m) = ⊥

-- a bank of the program tells neither its lends nor the disks that it was given back
abbrev pub no_lends : Option (List Lend)
no_lends = None

abbrev pub none_given : Option (List (ℕ × List ℕ))
none_given = None

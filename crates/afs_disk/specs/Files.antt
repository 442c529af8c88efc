-- A disk over a file, which tells nothing but lengths and counts.
use Rattle.std.specs.Prelude.{◌≡◌, ℕ, ◌-◌, List, None, Some}
use Rattle.afs_disk.specs.Disk.{Room}
use Rattle.afs_disk.specs.Fuses.{last_of_counter}

pub record Filed : Type 0 where
  pub size : ℕ
  pub limit : ℕ
  pub calls : ℕ
  pub faults : ℕ

-- a file wants no memory of ours
abbrev pub filed_room : Filed → Room
filed_room f = record { calls = last_of_counter - f.calls; bytes = last_of_counter; end = last_of_counter }

-- nothing is told
pub untold : (bytes : List ℕ) (P : Type 0) → None ≡ Some bytes → P
untold bytes P told = absurd cc

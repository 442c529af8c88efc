-- The disks that were given back to a bank.
use Rattle.std.specs.Prelude.{◌≡◌, ℕ, ◌+◌, min, nat_eq, if◌then◌else◌, List, ◌++◌, ◌∷◌, [], Option, Some, None}
use Rattle.afs_disk.specs.Fuses.{last_of_counter}

-- the disk joins those that were given back, where both tell
abbrev pub IsTakenBack : ℕ → Option (List ℕ) → Option (List (ℕ × List ℕ)) → Option (List (ℕ × List ℕ)) → Type 0
IsTakenBack node seen None new = Unit {0}
IsTakenBack node None (Some given) new = Unit {0}
IsTakenBack node (Some bytes) (Some given) new = new ≡ Some (given ++ (node, bytes) ∷ [])

-- How often the disks of node n had failed that were given back, with one of this node that failed so often. At the last value of a
-- counter it stands still.
abbrev pub counted : ℕ → ℕ → ℕ → ℕ → ℕ
counted node faults n count = if nat_eq node n then min (count + faults) last_of_counter else count

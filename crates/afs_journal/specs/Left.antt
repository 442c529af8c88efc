-- What a crash leaves of a record while its device calls are made.
use Rattle.std.specs.Prelude.{◌≡◌, ◌<◌, ℕ, ◌-◌, Bool, ◌&&◌, if◌then◌else◌, nat_eq, List, [], ◌∷◌, ◌++◌, Option, Some}
use Rattle.afs_disk.specs.Disk.{Setting, Trips}
use Rattle.afs_journal.specs.Records.{whole_records}

-- A record is put on a disk by four calls: its place is written behind the closed gate, and synced; the gate is opened, and
-- that is synced. One of these wasn't made, and none after it. A crash leaves the record whole only where this was the last
-- sync, and the pick is the one that keeps what was written: any other keeps the gate closed, or tears it.
abbrev pub is_left_whole : ℕ → ℕ → Bool
is_left_whole call pick = nat_eq call 4 && nat_eq pick 1

-- the whole records then: those from before, with the new one or without it
abbrev pub records_left : ℕ → ℕ → List (List ℕ) → List ℕ → List (List ℕ)
records_left call pick bodies body = if is_left_whole call pick then bodies ++ body ∷ [] else bodies

-- Device calls came after this number, up to that one, and none before the last was set to stop or to fail.
pub record ReachesCall (setting : Setting) (first last : ℕ) : Type 0 where
  pub some : first < last
  pub passed : (call : ℕ) → first < call → call < last → Trips setting call → ⊥

-- The disk was set to stop or to fail at the last device call that came. A crash with a pick leaves just these records, where the
-- disk tells its bytes.
abbrev pub LeavesByPick : {D : Type 0} → (D → ℕ → Option (List ℕ)) → (D → ℕ) → (D → Setting) → List (List ℕ) → List ℕ → D → D → Type 0
LeavesByPick {D} left_by calls setting bodies body old new =
    Trips (setting old) (calls new) → (pick : ℕ) (c : List ℕ) → left_by new pick ≡ Some c → whole_records c ≡ records_left (calls new - calls old) pick bodies body

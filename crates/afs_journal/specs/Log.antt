-- A journal over a disk: what callers see of it, and when it is sound.
use Rattle.std.specs.Prelude.{◌≡◌, ◌<◌, ◌≤◌, ℕ, suc, ◌+◌, ◌*◌, ◌^◌, Bool, false, List, ◌++◌, [], ◌∷◌, length, Option, Some, Result, Ok, Err, IfErr, IsErrOf, OnOk, min, ◌-◌, ◌⊎◌}
use Rattle.afs_num.specs.declared.faults.JournalFault.{JournalFault}
use Rattle.afs_num.specs.declared.faults.JournalFault.TheVariants.{Full, Failed, Closed, OutOfMemory}
use Rattle.afs_disk.specs.Disk.{LeavesJust, Room, Holds, Rose, Setting, Trips, PassesAll, SameDisk}
use Rattle.afs_journal.specs.Records.{place_of, journal_bytes, whole_records, Fit}

-- A journal over a disk: the records that `attach` found, how many records it has, where the gate behind the last of
-- them stands, whether a device call failed since `attach`, and how long a place it can spell without memory.
pub record Log (D : Type 0) : Type 0 where
  pub disk : D
  pub found : List (List ℕ)
  pub count : ℕ
  pub gate : ℕ
  pub closed : Bool
  pub spelled : ℕ

-- the bytes are those of a journal of so many records, all of them on the disk
pub record IsSettled (count gate : ℕ) (may_leave : List ℕ → Type 0) (bytes : List ℕ) : Type 0 where
  pub are : bytes ≡ journal_bytes (whole_records bytes)
  pub counted : length (whole_records bytes) ≡ count
  pub long : length bytes ≡ gate + 1
  pub fit : Fit 1 (whole_records bytes)
  pub durable : LeavesJust bytes may_leave

-- the bytes are a journal at rest: whole records, the closed gate behind the last of them, and nothing more
abbrev pub Rests : List ℕ → Type 0
Rests bytes = bytes ≡ journal_bytes (whole_records bytes)

-- what holds of a disk with a journal at rest, as far as the disk tells
pub record AtRest {D : Type 0} (seen : D → Option (List ℕ)) (size : D → ℕ) (may_leave : D → List ℕ → Type 0) (count gate : ℕ) (disk : D) : Type 0 where
  pub ends : size disk ≡ gate + 1
  pub settled : (bytes : List ℕ) → seen disk ≡ Some bytes → IsSettled count gate (may_leave disk) bytes

pub record IsSoundLog {D : Type 0} (seen : D → Option (List ℕ)) (size : D → ℕ) (may_leave : D → List ℕ → Type 0) (limit : D → ℕ) (log : Log D) : Type 0 where
  pub counts : 9 * log.count ≤ log.gate
  pub few : log.count < 2 ^ 32
  pub short : log.gate < 2 ^ 63
  pub small : limit log.disk ≤ 268435456
  pub at_rest : log.closed ≡ false → AtRest seen size may_leave log.count log.gate log.disk

-- these are the bytes of a record's place as the next of a journal of so many records, with a closed gate behind it
pub record Spells (count : ℕ) (body place : List ℕ) : Type 0 where
  pub are : place ≡ place_of (suc count) body ++ 0 ∷ []
  pub small : length body < 2 ^ 32
  pub counted : suc count < 2 ^ 32

-- what is there is a journal of these records, all of it on the disk
pub record IsJournal (bodies : List (List ℕ)) (seen : Option (List ℕ)) (may_leave : List ℕ → Type 0) : Type 0 where
  pub now : seen ≡ Some (journal_bytes bodies)
  pub stands : whole_records (journal_bytes bodies) ≡ bodies
  pub fit : Fit 1 bodies
  pub durable : LeavesJust (journal_bytes bodies) may_leave

-- A refusal but for Full and Closed, after device calls up to this number, and where it comes from: a disk that failed, or
-- memory that ran out, and then no count of faults rose.
abbrev pub IsCaused : Setting → ℕ → ℕ → ℕ → ℕ → ℕ → JournalFault → Type 0
IsCaused setting last before now own_before own_now Failed = Rose before now × (Trips setting last ⊎ Rose own_before own_now)
IsCaused setting last before now own_before own_now OutOfMemory = (now ≡ before) × (own_now ≡ own_before)
IsCaused setting last before now own_before own_now (Full length capacity) = ⊥
IsCaused setting last before now own_before own_now Closed = ⊥

-- A run of device calls, the first behind this number and the last of that one: no count of faults falls, each refusal has
-- its cause, and without one none of the calls was set to trip and no count of faults rose.
pub record Served {T : Type 0} (setting : Setting) (first last before now own_before own_now : ℕ) (result : Result T JournalFault) : Type 0 where
  pub never_falls : before ≤ now
  pub own_never_falls : own_before ≤ own_now
  pub caused : IfErr result (IsCaused setting last before now own_before own_now)
  pub passed : OnOk result (PassesAll setting first last)
  pub quiet : OnOk result ((now ≡ before) × (own_now ≡ own_before))

-- the bytes stand for records that a crash might have left
abbrev pub StandsAsBefore : (List ℕ → Type 0) → List ℕ → Type 0
StandsAsBefore may_leave c = (d : List ℕ) × may_leave d × (whole_records c ≡ whole_records d)

-- every crash leaves bytes that stand for these records
abbrev pub AlwaysStandsFor : List (List ℕ) → (List ℕ → Type 0) → Type 0
AlwaysStandsFor bodies may_leave = (c : List ℕ) → may_leave c → whole_records c ≡ bodies

-- nothing changed but the room
pub record Unchanged {D : Type 0} (seen : D → Option (List ℕ)) (left_by : D → ℕ → Option (List ℕ)) (size : D → ℕ) (may_leave : D → List ℕ → Type 0) (moment : D → ℕ) (left_since : D → ℕ → List ℕ → Type 0) (old new : Log D) : Type 0 where
  pub disk : SameDisk seen left_by size may_leave moment left_since old.disk new.disk
  pub found : new.found ≡ old.found
  pub count : new.count ≡ old.count
  pub gate : new.gate ≡ old.gate
  pub closed : new.closed ≡ old.closed

-- this holds where nothing was done: at each refusal but that of a disk that failed
abbrev pub LeavesUnchanged : Result ℕ JournalFault → Type 0 → Type 0
LeavesUnchanged (Ok number) same = Unit {0}
LeavesUnchanged (Err Failed) same = Unit {0}
LeavesUnchanged (Err refusal) same = same

-- the longest record that is of at most so many bytes and fits
abbrev pub longest : ℕ → ℕ → ℕ → ℕ
longest len gate capacity = min len (capacity - (gate + 10))

-- a record of at most so many bytes wants no memory: there is room to spell it, and room on the disk
pub record HasRoom {D : Type 0} (limit : D → ℕ) (space : D → Room) (len : ℕ) (log : Log D) : Type 0 where
  pub place : longest len log.gate (limit log.disk) + 9 ≤ log.spelled
  pub disk : Holds 8 (longest len log.gate (limit log.disk) + 10) (log.gate + longest len log.gate (limit log.disk) + 10) (space log.disk)

-- a record that wanted no memory before wants none now
abbrev pub KeepsRoom : {D : Type 0} → (D → ℕ) → (D → Room) → Log D → Log D → Type 0
KeepsRoom limit space old new = (len : ℕ) → HasRoom limit space len old → HasRoom limit space len new

-- no count moved, and the disk is set as it was
pub record SameCounts {D : Type 0} (faults own_faults calls : D → ℕ) (setting : D → Setting) (limit : D → ℕ) (old new : D) : Type 0 where
  pub same_faults : faults new ≡ faults old
  pub same_own_faults : own_faults new ≡ own_faults old
  pub same_calls : calls new ≡ calls old
  pub same_setting : setting new ≡ setting old
  pub same_limit : limit new ≡ limit old

-- what taking up a disk does to its counts: at most six device calls, and none set anew
pub record TakesUpDisk {D : Type 0} (faults own_faults calls : D → ℕ) (setting : D → Setting) (old new : D) : Type 0 where
  pub never_falls : faults old ≤ faults new
  pub own_never_falls : own_faults old ≤ own_faults new
  pub counted : calls old ≤ calls new
  pub few : calls new ≤ calls old + 6
  pub same_setting : setting new ≡ setting old

-- an append's device calls, from this number on up to that one: a failure has its cause, and at Ok none was set to trip and no
-- count of faults rose
pub record Appended (setting : Setting) (first last before now own_before own_now : ℕ) (result : Result ℕ JournalFault) : Type 0 where
  pub never_falls : before ≤ now
  pub own_never_falls : own_before ≤ own_now
  pub failed : IsErrOf result Failed → Rose before now × (Trips setting last ⊎ Rose own_before own_now)
  pub passed : OnOk result (PassesAll setting first last)
  pub quiet : OnOk result ((now ≡ before) × (own_now ≡ own_before))

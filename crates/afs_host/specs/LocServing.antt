-- What becomes of a location database that is up and is given a message.
use Rattle.std.specs.Prelude.{◌≡◌, ◌≤◌, ◌⊎◌, ◌-◌, ◌+◌, ℕ, List, [], ◌∷◌, Option, Some, Result, Ok, Err, IfSome, IsSome}
use Rattle.afs_num.specs.declared.messages.Message.{Message}
use Rattle.afs_num.specs.declared.messages.Received.{Received}
use Rattle.afs_num.specs.declared.messages.Received.TheVariants.{Whole}
use Rattle.afs_num.specs.declared.types.Node.TheVariants.{Loc}
use Rattle.spec_history.specs.declared.lines.Line.{Line}
use Rattle.spec_history.specs.declared.lines.Line.TheVariants as lines
use Rattle.spec_history.specs.declared.lines.Outs.{Outs}
use Rattle.afs_disk.specs.Disk.{LeavesJust, Rose, Trips}
use Rattle.afs_disk.specs.declared.disk.Disk.{Ghosts}
use Rattle.afs_journal.specs.Left.{is_left_whole, ReachesCall}
use Rattle.afs_journal.specs.Records.{whole_records}
use Rattle.spec_model.specs.Messages.{received, received_by}
use Rattle.spec_rows.specs.Hosts.{given, in_step, served, steady, Blow}
use Rattle.spec_rows.specs.LocRow.{loc_decides, loc_device_calls}
use Rattle.spec_rows.specs.LocSteps.{loc_kind, LocHost}
use Rattle.afs_locdb.specs.Handling.{loc_calls_served, IsClosed}
use Rattle.afs_locdb.specs.Seen.{loc_seen}
use Rattle.afs_server_parts.specs.declared.faults.NodeFault.{NodeFault}
use Rattle.afs_server_parts.specs.declared.faults.NodeFault.TheVariants as nodes
use Rattle.afs_host.specs.LocSeats.{loc_disk_of, DatabaseRunning, IsLocSame, IsLocStepDown, IsLocStepUp, IsLocUp, LocGoesOn}
use Rattle.afs_host.specs.LocStanding.{LocLies, LocLiesAs}
use Rattle.afs_host.specs.Seats.{Resting}
use Rattle.afs_host.specs.Serving.{is_down, is_up, unchanged, HasGoneDown, HasServed, Served}
use Rattle.afs_host.specs.Views.{count_mark, shown_database}

abbrev pub LocServed : Type 0 → Type 0
LocServed D = Served (DatabaseRunning D) D

-- the disk, whatever became of the database
abbrev pub loc_disk_served : {D : Type 0} → LocServed D → D
loc_disk_served {D} (is_up r outs) = loc_disk_of r
loc_disk_served {D} (is_down s line) = s.disk
loc_disk_served {D} (unchanged r) = loc_disk_of r

-- For each host that the database stands for, and the message that was found, at any time and place: it is up, and gave this out after
-- the line of the place; or it went down, and that line and this are all. Or memory ran out, and it is as it was.
abbrev pub IsLocServed : {D : Type 0} → Ghosts D → DatabaseRunning D → Received → LocServed D → Type 0
IsLocServed {D} w old found (is_up r outs) =
    (h : LocHost) → IsLocUp old h → (m : Message) → found ≡ Whole m → (clock place : ℕ) →
    HasServed loc_kind h clock place m (IsLocStepUp r (lines.Given place ∷ []) outs) (Rose (w.faults (loc_disk_of old)) (w.faults (loc_disk_of r)))
IsLocServed {D} w old found (is_down s line) =
    (h : LocHost) → IsLocUp old h → (m : Message) → found ≡ Whole m → (clock place : ℕ) →
    HasServed loc_kind h clock place m (IsLocStepDown w.seen w.may_leave w.limit s (lines.Given place ∷ line ∷ [])) (Rose (w.faults (loc_disk_of old)) (w.faults s.disk))
IsLocServed {D} w old found (unchanged r) = IsLocSame w old r

-- Whatever the bytes are, it makes the step of its row on what it finds in them; or it went down, and they are those of a message.
abbrev pub MakesLocRow : {D : Type 0} → DatabaseRunning D → List ℕ → LocServed D → Type 0
MakesLocRow {D} old bytes (is_up r outs) =
    (h : LocHost) → IsLocUp old h → (clock place : ℕ) → IsLocStepUp r (lines.Given place ∷ []) outs (given loc_kind h clock place (received_by loc_calls_served bytes))
MakesLocRow {D} old bytes (is_down s line) = (m : Message) × (received bytes ≡ Whole m)
MakesLocRow {D} old bytes (unchanged r) = Unit {0}

-- ---- a step that the disk ended

-- The store's device call failed, and with it the step: a record was begun. Whatever a crash may leave of the disk now stands for the
-- state before the step or after it. At most four device calls came, and the last was set to trip, or the disk failed by itself. Where
-- it was set, what a crash with each pick leaves is told by that call.
pub record IsLocBroken {D : Type 0} (w : Ghosts D) (old : DatabaseRunning D) (found : Received) (new : DatabaseRunning D) : Type 0 where
  pub armed : new.armed ≡ old.armed
  pub closed : IsClosed old.store new.store
  pub lies : (m : Message) (clock : ℕ) (b : Blow) → found ≡ Whole m → IsSome (w.seen (loc_disk_of new)) → (c : List ℕ) → w.may_leave (loc_disk_of new) c → LocLies (loc_seen old.store) (in_step m clock b) (count_mark old.store.store.count) c
  pub reached : ReachesCall (record { stop = old.store.store.disk.stop; fail = old.store.store.disk.fail }) old.store.store.disk.calls new.store.store.disk.calls
  pub left : (m : Message) (clock : ℕ) (b : Blow) → found ≡ Whole m → IsSome (w.seen (loc_disk_of new)) → Trips (record { stop = old.store.store.disk.stop; fail = old.store.store.disk.fail }) new.store.store.disk.calls → (pick : ℕ) (c : List ℕ) → w.left_by (loc_disk_of new) pick ≡ Some c
      → LocLiesAs (loc_seen old.store) (in_step m clock b) (count_mark old.store.store.count) (is_left_whole (new.store.store.disk.calls - old.store.store.disk.calls) pick) (whole_records c)
  pub saves : (m : Message) → found ≡ Whole m → loc_device_calls (loc_seen old.store) (loc_decides (loc_seen old.store) (Whole m)) ≡ 4
  pub few : new.store.store.disk.calls ≤ old.store.store.disk.calls + 4
  pub stop : new.store.store.disk.stop ≡ old.store.store.disk.stop
  pub fail : new.store.store.disk.fail ≡ old.store.store.disk.fail
  pub cause : Trips (record { stop = old.store.store.disk.stop; fail = old.store.store.disk.fail }) new.store.store.disk.calls ⊎ Rose (w.faults (loc_disk_of old)) (w.faults (loc_disk_of new))
  pub capacity : old.store.store.durable.capacity ≡ w.limit (loc_disk_of new)

-- of a database that was given a message, as long as it is one
abbrev pub IsLocHandled : {D : Type 0} → Ghosts D → DatabaseRunning D → Received → DatabaseRunning D → Result Outs NodeFault → Type 0
IsLocHandled {D} w old found new (Ok outs) =
    ((h : LocHost) → IsLocUp old h → (m : Message) → found ≡ Whole m → (clock place : ℕ) → IsLocStepUp new (lines.Given place ∷ []) outs (served loc_kind h clock place steady m)) × LocGoesOn 4 old new
IsLocHandled {D} w old found new (Err nodes.OutOfMemory) = IsLocSame w old new × LocGoesOn 4 old new
IsLocHandled {D} w old found new (Err nodes.Down) = IsLocBroken w old found new

-- the row's step was made, whatever the bytes were; or their message's was ended
abbrev pub RunsLocRow : {D : Type 0} → DatabaseRunning D → List ℕ → DatabaseRunning D → Result Outs NodeFault → Type 0
RunsLocRow {D} old bytes new (Ok outs) =
    (h : LocHost) → IsLocUp old h → (clock place : ℕ) → IsLocStepUp new (lines.Given place ∷ []) outs (given loc_kind h clock place (received_by loc_calls_served bytes))
RunsLocRow {D} old bytes new (Err nodes.OutOfMemory) = Unit {0}
RunsLocRow {D} old bytes new (Err nodes.Down) = (m : Message) × (received bytes ≡ Whole m)

-- so it went down
abbrev pub LocHasFallen : {D : Type 0} → Ghosts D → DatabaseRunning D → Resting D → Line → Type 0
LocHasFallen {D} w r s line = HasGoneDown w.seen w.left_by w.may_leave w.faults w.limit (shown_database r.store) r.armed s line

-- It is so, whatever became of the database: where its disk ended the step, that is what is left of it once it has fallen.
abbrev pub LocBecomes : {D : Type 0} → Ghosts D → (LocServed D → Type 0) → DatabaseRunning D → Result Outs NodeFault → Type 0
LocBecomes {D} w Is new (Ok outs) = Is (is_up new outs)
LocBecomes {D} w Is new (Err nodes.OutOfMemory) = Is (unchanged new)
LocBecomes {D} w Is new (Err nodes.Down) = (s : Resting D) (line : Line) → LocHasFallen w new s line → Is (is_down s line)

-- where it went down its mark is that from before the step, whatever its disk tells
abbrev pub LocKeepsMark : {D : Type 0} → DatabaseRunning D → LocServed D → Type 0
LocKeepsMark {D} old (is_up r outs) = Unit {0}
LocKeepsMark {D} old (is_down s line) = s.mark ≡ count_mark old.store.store.count
LocKeepsMark {D} old (unchanged r) = Unit {0}

-- where it was stopped, what a read gives is what its disk keeps
abbrev pub LocRestsServed : {D : Type 0} → Ghosts D → LocServed D → Type 0
LocRestsServed {D} w (is_up r outs) = Unit {0}
LocRestsServed {D} w (is_down s line) = line ≡ lines.Crash Loc → IfSome (w.seen s.disk) (λ bytes. LeavesJust bytes (w.may_leave s.disk))
LocRestsServed {D} w (unchanged r) = Unit {0}

-- while it is up it can be given what comes next
abbrev pub LocGoesOnServed : {D : Type 0} → DatabaseRunning D → LocServed D → Type 0
LocGoesOnServed {D} old (is_up r outs) = LocGoesOn 4 old r
LocGoesOnServed {D} old (is_down s line) = Unit {0}
LocGoesOnServed {D} old (unchanged r) = LocGoesOn 4 old r

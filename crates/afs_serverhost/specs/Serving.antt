-- What becomes of a server node that is up and is given a message.
use Rattle.std.specs.Prelude.{◌≡◌, ◌≤◌, ◌⊎◌, ℕ, ◌+◌, ◌-◌, List, [], ◌∷◌, Option, Some, Result, Ok, Err, IfSome, IsSome}
use Rattle.afs_num.specs.declared.messages.Message.{Message}
use Rattle.afs_num.specs.declared.messages.Received.{Received}
use Rattle.afs_num.specs.declared.messages.Received.TheVariants.{Whole}
use Rattle.afs_num.specs.declared.types.Node.{Node}
use Rattle.spec_history.specs.declared.lines.Line.{Line}
use Rattle.spec_history.specs.declared.lines.Line.TheVariants as lines
use Rattle.spec_history.specs.declared.lines.Outs.{Outs}
use Rattle.afs_disk.specs.Disk.{LeavesJust, Rose, Trips}
use Rattle.afs_disk.specs.declared.disk.Disk.{Ghosts}
use Rattle.afs_journal.specs.Left.{is_left_whole, ReachesCall}
use Rattle.afs_journal.specs.Records.{whole_records}
use Rattle.spec_model.specs.Messages.{received}
use Rattle.spec_rows.specs.Hosts.{given, in_step, served, steady, Blow}
use Rattle.afs_server_parts.specs.declared.faults.NodeFault.{NodeFault}
use Rattle.afs_server_parts.specs.declared.faults.NodeFault.TheVariants as nodes
use Rattle.afs_num.specs.declared.types.Parcel.{Parcel}
use Rattle.spec_volrows.specs.NodeHosts.{node_kind, NodeHost}
use Rattle.spec_volrows.specs.VolSteps.{node_device_calls}
use Rattle.afs_node.specs.Seen.{node_found, node_seen, ClosesStored}
use Rattle.afs_host.specs.Seats.{Resting}
use Rattle.afs_serverhost.specs.Seats.{disk_of, with_behind, GoesOn, IsSame, IsStepDown, IsStepUp, IsUp, ServerRunning}
use Rattle.afs_serverhost.specs.Standing.{Lies, LiesAs}
use Rattle.afs_host.specs.Views.{count_mark, shown_store}
use Rattle.afs_host.specs.Serving.{is_down, is_up, unchanged, HasGoneDown, HasServed, Served}

-- the disk, whatever became of the server
abbrev pub disk_served : {D : Type 0} → Served (ServerRunning D) D → D
disk_served {D} (is_up r outs) = disk_of r
disk_served {D} (is_down s line) = s.disk
disk_served {D} (unchanged r) = disk_of r

-- With some luck of the disk this is the step of each host that the server stands for, and of the message that was found, at any place: the server is up, and gave
-- this out after the line of the place; or it went down, and that line and this are all. Or memory ran out, and it is as it was.
abbrev pub IsServed : {D : Type 0} → Ghosts D → ServerRunning D → ℕ → Received → Served (ServerRunning D) D → Type 0
IsServed {D} w old clock found (is_up r outs) =
    (h : NodeHost) → IsUp old h → (m : Message) → found ≡ Whole m → (place : ℕ) →
    HasServed (node_kind old.store.node) h clock place m (IsStepUp r (lines.Given place ∷ []) outs) (Rose (w.faults (disk_of old)) (w.faults (disk_of r)))
IsServed {D} w old clock found (is_down s line) =
    (h : NodeHost) → IsUp old h → (m : Message) → found ≡ Whole m → (place : ℕ) →
    HasServed (node_kind old.store.node) h clock place m (IsStepDown w.seen w.may_leave w.limit old.store.node s (lines.Given place ∷ line ∷ [])) (Rose (w.faults (disk_of old)) (w.faults s.disk))
IsServed {D} w old clock found (unchanged r) =
    IsSame w.seen w.left_by w.size w.may_leave w.moment w.left_since old r

-- Whatever the bytes are, the server makes the step of its row on what it finds in them; or it went down, and they are those of a
-- message.
abbrev pub MakesRow : {D : Type 0} → ServerRunning D → ℕ → List ℕ → Served (ServerRunning D) D → Type 0
MakesRow {D} old clock bytes (is_up r outs) =
    (h : NodeHost) → IsUp old h → (place : ℕ) → IsStepUp r (lines.Given place ∷ []) outs (given (node_kind old.store.node) h clock place (node_found bytes))
MakesRow {D} old clock bytes (is_down s line) = (m : Message) × (received bytes ≡ Whole m)
MakesRow {D} old clock bytes (unchanged r) = Unit {0}

-- The store's device call failed, and with it the step: a record was begun. Whatever a crash may leave of the disk now stands for the
-- state before the step or after it. At most four device calls came, and the last was set to trip, or the disk failed by itself. Where
-- it was set, what a crash with each pick leaves is told by that call.
pub record IsBroken {D : Type 0} (w : Ghosts D) (old : ServerRunning D) (clock : ℕ) (found : Received) (new : ServerRunning D) : Type 0 where
  pub armed : new.armed ≡ old.armed
  pub closed : ClosesStored old.store new.store
  pub lies : (m : Message) (b : Blow) → found ≡ Whole m → IsSome (w.seen (disk_of new)) → (c : List ℕ) → w.may_leave (disk_of new) c → Lies old.store.node (node_seen old.memory old.store) (in_step m clock b) (count_mark old.store.count) c
  pub reached : ReachesCall (record { stop = old.store.disk.stop; fail = old.store.disk.fail }) old.store.disk.calls new.store.disk.calls
  pub left : (m : Message) (b : Blow) → found ≡ Whole m → IsSome (w.seen (disk_of new)) → Trips (record { stop = old.store.disk.stop; fail = old.store.disk.fail }) new.store.disk.calls → (pick : ℕ) (c : List ℕ) → w.left_by (disk_of new) pick ≡ Some c
      → LiesAs old.store.node (node_seen old.memory old.store) (in_step m clock b) (count_mark old.store.count) (is_left_whole (new.store.disk.calls - old.store.disk.calls) pick) (whole_records c)
  pub saves : (m : Message) → found ≡ Whole m → node_device_calls old.store.node (node_seen old.memory old.store) clock (Whole m) ≡ 4
  pub few : new.store.disk.calls ≤ old.store.disk.calls + 4
  pub stop : new.store.disk.stop ≡ old.store.disk.stop
  pub fail : new.store.disk.fail ≡ old.store.disk.fail
  pub cause : Trips (record { stop = old.store.disk.stop; fail = old.store.disk.fail }) new.store.disk.calls ⊎ Rose (w.faults (disk_of old)) (w.faults (disk_of new))
  pub capacity : old.store.durable.capacity ≡ w.limit (disk_of new)

-- of a server that was given a message, as long as it is one
abbrev pub IsHandled : {D : Type 0} → Ghosts D → ServerRunning D → ℕ → Received → ServerRunning D → Result (Outs × List Parcel) NodeFault → Type 0
IsHandled {D} w old clock found new (Ok r) =
    ((h : NodeHost) → IsUp old h → (m : Message) → found ≡ Whole m → (place : ℕ) → IsStepUp new (lines.Given place ∷ []) (with_behind r) (served (node_kind old.store.node) h clock place steady m)) × GoesOn 4 50 old new
IsHandled {D} w old clock found new (Err nodes.OutOfMemory) =
    IsSame w.seen w.left_by w.size w.may_leave w.moment w.left_since old new × GoesOn 4 50 old new
IsHandled {D} w old clock found new (Err nodes.Down) = IsBroken w old clock found new

-- the row's step was made, whatever the bytes were; or their message's was ended
abbrev pub RunsRow : {D : Type 0} → ServerRunning D → ℕ → List ℕ → ServerRunning D → Result (Outs × List Parcel) NodeFault → Type 0
RunsRow {D} old clock bytes new (Ok r) =
    (h : NodeHost) → IsUp old h → (place : ℕ) → IsStepUp new (lines.Given place ∷ []) (with_behind r) (given (node_kind old.store.node) h clock place (node_found bytes))
RunsRow {D} old clock bytes new (Err nodes.OutOfMemory) = Unit {0}
RunsRow {D} old clock bytes new (Err nodes.Down) = (m : Message) × (received bytes ≡ Whole m)

-- a server node went down so, by what its host sees of its store
abbrev pub HasFallen : {D : Type 0} → (D → Option (List ℕ)) → (D → ℕ → Option (List ℕ)) → (D → List ℕ → Type 0) → (D → ℕ) → (D → ℕ) → ServerRunning D → Resting D → Line → Type 0
HasFallen {D} seen left_by may_leave faults limit r s line = HasGoneDown seen left_by may_leave faults limit (shown_store r.store) r.armed s line

-- It is so, whatever became of the server: where its disk ended the step, that is what is left of it once it has fallen.
abbrev pub Becomes : {D : Type 0} → Ghosts D → (Served (ServerRunning D) D → Type 0) → ServerRunning D → Result (Outs × List Parcel) NodeFault → Type 0
Becomes {D} w Is new (Ok r) = Is (is_up new (with_behind r))
Becomes {D} w Is new (Err nodes.OutOfMemory) = Is (unchanged new)
Becomes {D} w Is new (Err nodes.Down) = (s : Resting D) (line : Line) → HasFallen w.seen w.left_by w.may_leave w.faults w.limit new s line → Is (is_down s line)

-- where it went down its mark is that from before the step, whatever its disk tells
abbrev pub KeepsMark : {D : Type 0} → ServerRunning D → Served (ServerRunning D) D → Type 0
KeepsMark {D} old (is_up r outs) = Unit {0}
KeepsMark {D} old (is_down s line) = s.mark ≡ count_mark old.store.count
KeepsMark {D} old (unchanged r) = Unit {0}

-- where it was stopped, what a read gives is what its disk keeps
abbrev pub RestsServed : {D : Type 0} → Ghosts D → Node → Served (ServerRunning D) D → Type 0
RestsServed {D} w me (is_up r outs) = Unit {0}
RestsServed {D} w me (is_down s line) = line ≡ lines.Crash me → IfSome (w.seen s.disk) (λ bytes. LeavesJust bytes (w.may_leave s.disk))
RestsServed {D} w me (unchanged r) = Unit {0}

-- ---- while it is up it can be given what comes next
abbrev pub GoesOnServed : {D : Type 0} → ServerRunning D → Served (ServerRunning D) D → Type 0
GoesOnServed {D} old (is_up r outs) = GoesOn 4 50 old r
GoesOnServed {D} old (is_down s line) = Unit {0}
GoesOnServed {D} old (unchanged r) = GoesOn 4 50 old r

-- What becomes of a server node that was down and begins again.
use Rattle.std.specs.Prelude.{◌≡◌, ◌≤◌, ◌+◌, ℕ, List, ◌∷◌, ◌++◌, length}
use Rattle.afs_num.specs.declared.types.Node.{Node}
use Rattle.afs_num.specs.declared.records.Mark.{Mark}
use Rattle.spec_history.specs.declared.lines.Line.{Line}
use Rattle.spec_history.specs.declared.lines.Line.TheVariants as lines
use Rattle.spec_history.specs.declared.lines.Outs.{Outs}
use Rattle.afs_disk.specs.Fuses.{Fused}
use Rattle.afs_disk.specs.declared.disk.Disk.{Ghosts}
use Rattle.spec_model.specs.Messages.{messages_spelled, parcels_read}
use Rattle.spec_records.specs.Durable.{Durable}
use Rattle.spec_rows.specs.Hosts.{is_full, without_boot_record, unarmed}
use Rattle.spec_rows.specs.ServerHosts.{can_start}
use Rattle.spec_rows.specs.Steps.{Begun, Step}
use Rattle.afs_volstore.specs.Stores.{Store}
use Rattle.spec_volrows.specs.NodeHosts.{node_kind}
use Rattle.spec_volrows.specs.VolStates.{NodeState}
use Rattle.afs_node.specs.Handling.{node_begun_step}
use Rattle.afs_node.specs.Seen.{node_seen}
use Rattle.afs_node.specs.declared.node.ServerNode.{ServerNode}
use Rattle.afs_host.specs.Seats.{Resting}
use Rattle.afs_serverhost.specs.Seats.{disk_of, CanRun, ServerRunning}
use Rattle.afs_serverhost.specs.Standing.{server_keeping}
use Rattle.afs_host.specs.Views.{shown_store}
use Rattle.afs_host.specs.declared.starting.Start.{Start}
use Rattle.afs_host.specs.declared.starting.Start.TheVariants as starts
use Rattle.afs_host.specs.Starting.{Sight, IsStartedBy, BootsOverBy, StartsOverBy, BootsBy}

-- its start, in a cell of so many clients, at this time
abbrev pub node_start : Node → ℕ → ℕ → Begun NodeState → Step NodeState
node_start me clock count = (node_kind me).start clock count

-- the disk, whatever became of the server
abbrev pub disk_started : {D : Type 0} → Start (ServerRunning D) (Resting D) → D
disk_started {D} (starts.Up r outs) = disk_of r
disk_started {D} (starts.Down s ls) = s.disk
disk_started {D} (starts.Unchanged s) = s.disk
disk_started {D} (starts.Lost s) = s.disk

-- Memory can run out behind the record of its boot, which did fit then: what it tells of the breaks that it owes is told last.
abbrev pub server_sight : {D : Type 0} → Sight ServerNode (Store (Fused D)) D NodeState
server_sight {D} = record { state = λ m t. node_seen m t; shown = λ t. shown_store t; Lost = λ s. without_boot_record (can_start s.file) is_full ≡ is_full → ⊥ }

-- so it is started, in a cell of so many clients, at this time
abbrev pub IsStarted : {D : Type 0} → Ghosts D → Node → ℕ → ℕ → Resting D → Start (ServerRunning D) (Resting D) → Type 0
IsStarted {D} w me clock count old result = IsStartedBy (server_keeping me) server_sight w clock count old result

abbrev pub StartsOver : {D : Type 0} → Ghosts D → Node → ℕ → ℕ → Resting D → Start (ServerRunning D) (Resting D) → Type 0
StartsOver {D} w me clock count old result = StartsOverBy (server_keeping me) server_sight w (node_start me clock count) old result

-- and boots, over a store that was made of its disk
abbrev pub BootsOver : {D : Type 0} → Ghosts D → Durable → List Line → Node → ℕ → ℕ → ℕ → Start (ServerRunning D) (Resting D) → Type 0
BootsOver {D} w d front me clock count before result = BootsOverBy (server_keeping me) server_sight w (node_start me clock count) d front before result

abbrev pub BootsFrom : {D : Type 0} → Ghosts D → Begun NodeState → List (List ℕ) → Node → ℕ → ℕ → D → Start (ServerRunning D) (Resting D) → Type 0
BootsFrom {D} w begun records me clock count disk result = BootsBy (server_keeping me) server_sight w (node_start me clock count) begun records disk result

-- it has drawn few numbers, and made at most ten device calls
pub record IsFresh {D : Type 0} (me : Node) (r : ServerRunning D) : Type 0 where
  pub node : r.store.node ≡ me
  pub can_run : CanRun r
  pub device_calls : r.store.disk.calls ≤ 10
  pub drawn : r.store.drawn ≤ 204
  pub owed : r.memory.file.lists.last_owed + length r.memory.file.lists.promises ≤ 16

-- a server that is up can be given what comes next, whatever its disk tells
abbrev pub GoesOnStarted : {D : Type 0} → Node → Resting D → Start (ServerRunning D) (Resting D) → Type 0
GoesOnStarted {D} me old (starts.Up r outs) = IsFresh me r
GoesOnStarted {D} me old (starts.Down s ls) = Unit {0}
GoesOnStarted {D} me old (starts.Unchanged s) = s.mark ≡ old.mark
GoesOnStarted {D} me old (starts.Lost s) = Unit {0}

-- The server is up over its store, whose boot has begun: it makes the step of a start, and tells these lines first, then that it is up,
-- and then the lines of the volumes that vanished.
pub record HasRisen {D : Type 0} (s : Store (Fused D)) (front vanished : List Line) (count clock : ℕ) (r : ServerRunning D) (outs : Outs) : Type 0 where
  pub state : node_seen r.memory r.store ≡ (node_begun_step s.node s.durable clock count).state
  pub store : r.store ≡ record s { drawn = r.store.drawn }
  pub armed : r.armed ≡ unarmed
  pub can_run : CanRun r
  pub drawn : r.store.drawn ≤ 204
  pub owed : r.memory.file.lists.last_owed + length r.memory.file.lists.promises ≤ 16
  pub lines_are : outs.lines ≡ front ++ lines.Restart s.node s.durable.boot ∷ (vanished ++ (node_begun_step s.node s.durable clock count).lines)
  pub sent : parcels_read outs.parcels ≡ messages_spelled (node_begun_step s.node s.durable clock count).sent

abbrev pub Rises : {D : Type 0} → Store (Fused D) → List Line → List Line → ℕ → ℕ → Start (ServerRunning D) (Resting D) → Type 0
Rises {D} s front vanished count clock (starts.Up r outs) = HasRisen s front vanished count clock r outs
Rises {D} s front vanished count clock (starts.Down d ls) = ⊥
Rises {D} s front vanished count clock (starts.Unchanged d) = ⊥
Rises {D} s front vanished count clock (starts.Lost d) = d.disk ≡ s.disk.disk

-- whatever the disk tells
abbrev pub GoesOnBooted : {D : Type 0} → Store (Fused D) → Mark → Start (ServerRunning D) (Resting D) → Type 0
GoesOnBooted {D} s told (starts.Up r outs) =
    (r.store.node ≡ s.node) × (CanRun r × ((r.store.disk.calls ≤ s.disk.calls + 4) × ((r.store.drawn ≤ 204) × (r.memory.file.lists.last_owed + length r.memory.file.lists.promises ≤ 16))))
GoesOnBooted {D} s told (starts.Down d ls) = Unit {0}
GoesOnBooted {D} s told (starts.Unchanged d) = d.mark ≡ told
GoesOnBooted {D} s told (starts.Lost d) = Unit {0}

-- A server node with its disk, up or down, and the host of the cell that it stands for.
use Rattle.std.specs.Prelude.{◌≡◌, ◌≤◌, ◌+◌, ℕ, List, ◌++◌, Bool, false, Option, length}
use Rattle.afs_num.specs.declared.types.Node.{Node}
use Rattle.spec_history.specs.declared.lines.Line.{Line}
use Rattle.spec_history.specs.declared.lines.Outs.{Outs}
use Rattle.afs_disk.specs.Disk.{SameDisk}
use Rattle.afs_disk.specs.Fuses.{Fused}
use Rattle.spec_rows.specs.Hosts.{HostStep}
use Rattle.afs_volstore.specs.Stores.{Store}
use Rattle.afs_num.specs.declared.types.Parcel.{Parcel}
use Rattle.spec_volrows.specs.NodeHosts.{NodeHost}
use Rattle.spec_volrows.specs.VolStates.{NodeState}
use Rattle.afs_node.specs.Seen.{node_seen, node_waits, SameNode, SameStored, ServesNode}
use Rattle.afs_node.specs.declared.node.ServerNode.{ServerNode}
use Rattle.afs_host.specs.Setting.{IsSet}
use Rattle.afs_serverhost.specs.Standing.{server_keeping}
use Rattle.afs_host.specs.Seats.{Running, Resting, IsHostUp, IsHostDown, IsHostStepUp, IsHostStepDown}

abbrev pub ServerRunning : Type 0 → Type 0
ServerRunning D = Running ServerNode (Store (Fused D))

-- the disk behind the fuse
abbrev pub disk_of : {D : Type 0} → ServerRunning D → D
disk_of {D} r = r.store.disk.disk

-- it waits for a reply of this node
abbrev pub waits_for : {D : Type 0} → ServerRunning D → Node → Bool
waits_for {D} r callee = node_waits r.memory callee

-- what a step gives out, with the messages that go out behind it
abbrev pub with_behind : Outs × List Parcel → Outs
with_behind o = record { parcels = o.0.parcels ++ o.1; lines = o.0.lines }

abbrev pub IsUp : {D : Type 0} → ServerRunning D → NodeHost → Type 0
IsUp {D} r h = IsHostUp (λ (m : ServerNode) (t : Store (Fused D)). node_seen m t) r h

abbrev pub IsDown : {D : Type 0} → (D → Option (List ℕ)) → (D → List ℕ → Type 0) → (D → ℕ) → Node → Resting D → NodeHost → Type 0
IsDown {D} seen may_leave limit me s h = IsHostDown seen may_leave limit (server_keeping me) s h

abbrev pub IsStepUp : {D : Type 0} → ServerRunning D → List Line → Outs → HostStep NodeState → Type 0
IsStepUp {D} r before outs s = IsHostStepUp (λ (m : ServerNode) (t : Store (Fused D)). node_seen m t) r before outs s

abbrev pub IsStepDown : {D : Type 0} → (D → Option (List ℕ)) → (D → List ℕ → Type 0) → (D → ℕ) → Node → Resting D → List Line → HostStep NodeState → Type 0
IsStepDown {D} seen may_leave limit me r told s = IsHostStepDown seen may_leave limit (server_keeping me) r told s

pub record CanRun {D : Type 0} (r : ServerRunning D) : Type 0 where
  pub up : r.store.closed ≡ false
  pub serves : ServesNode r.memory r.store
  pub set : IsSet r.armed r.store.disk

-- A call makes at most so many device calls, and raises the numbers that are drawn in memory by so many: its own calls', and
-- those of owed breaks with the promises that are held.
pub record Adds {D : Type 0} (calls breaks : ℕ) (old new : ServerRunning D) : Type 0 where
  pub device_calls : new.store.disk.calls ≤ old.store.disk.calls + calls
  pub drawn : new.store.drawn ≤ old.store.drawn + 204
  pub owed : new.memory.file.lists.last_owed + length new.memory.file.lists.promises ≤ old.memory.file.lists.last_owed + length old.memory.file.lists.promises + breaks

-- the server of the same node goes on
pub record GoesOn {D : Type 0} (calls breaks : ℕ) (old new : ServerRunning D) : Type 0 where
  pub node : new.store.node ≡ old.store.node
  pub can_run : CanRun new
  pub adds : Adds calls breaks old new

-- nothing changed but a record that was prepared, the room of the disk, to which no device call came, and that in which replies wait and
-- volumes are held
pub record IsSame {D : Type 0} (seen : D → Option (List ℕ)) (left_by : D → ℕ → Option (List ℕ)) (size : D → ℕ) (may_leave : D → List ℕ → Type 0) (moment : D → ℕ) (left_since : D → ℕ → List ℕ → Type 0) (old new : ServerRunning D) : Type 0 where
  pub memory : SameNode old.memory new.memory
  pub armed : new.armed ≡ old.armed
  pub store : SameStored old.store new.store
  pub calls : new.store.disk.calls ≡ old.store.disk.calls
  pub disk : SameDisk seen left_by size may_leave moment left_since (disk_of old) (disk_of new)

-- nothing changed but what the node has in memory, the last number of its own calls, and which volumes are held: those of its transactions
abbrev pub OnlyDraws : {D : Type 0} → ServerRunning D → ServerRunning D → Type 0
OnlyDraws {D} old new = new ≡ record old { memory = new.memory; store = record old.store { drawn = new.store.drawn; holds = new.store.holds } }

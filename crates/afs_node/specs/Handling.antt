-- What a step of a server node gives.
use Rattle.std.specs.Prelude.{◌≡◌, ◌≤◌, ◌+◌, ℕ, List, ◌∷◌, [], ◌++◌, length, map, filter, Option, None, Some, Result, Ok, Err, OnOk, IsErrOf, if◌then◌else◌}
use Rattle.afs_num.specs.declared.messages.Message.{Message}
use Rattle.afs_num.specs.declared.messages.Received.{Received}
use Rattle.afs_num.specs.declared.messages.Received.TheVariants.{Whole}
use Rattle.afs_num.specs.declared.records.StoreRecord.{StoreRecord}
use Rattle.afs_num.specs.declared.types.Node.{Node}
use Rattle.afs_num.specs.declared.types.Parcel.{Parcel}
use Rattle.afs_disk.specs.declared.disk.Disk.{Ghosts}
use Rattle.spec_history.specs.declared.lines.Line.{Line}
use Rattle.spec_history.specs.declared.lines.Line.TheVariants as lines
use Rattle.spec_history.specs.declared.lines.Outs.{Outs}
use Rattle.spec_model.specs.Messages.{messages_spelled, parcels_read, received}
use Rattle.spec_records.specs.Durable.{Durable}
use Rattle.spec_fold.specs.Effects.{effect_of}
use Rattle.spec_fold.specs.Fold.{folded}
use Rattle.afs_memory.specs.Telling.{in_words}
use Rattle.spec_rows.specs.Callbacks.{expired, is_ready, replies_of}
use Rattle.spec_rows.specs.ServerSteps.{stepped}
use Rattle.spec_rows.specs.States.{durable_of, ServerState}
use Rattle.spec_rows.specs.Steps.{Begun, Step}
use Rattle.spec_volrows.specs.FileRow.{file_row}
use Rattle.spec_volrows.specs.VolLaws.{resting}
use Rattle.spec_volrows.specs.VolRow.{holds_of}
use Rattle.spec_volrows.specs.VolStates.{NodeState}
use Rattle.spec_volrows.specs.VolSteps.{from_of, is_of_client, waits_for_breaks, node_begun_after, node_device_calls, node_file_decides, node_row, node_risen, vol_decides, vol_turned, VolTurn}
use Rattle.afs_volstore.specs.Stores.{Store}
use Rattle.afs_server_parts.specs.declared.faults.NodeFault.{NodeFault}
use Rattle.afs_server_parts.specs.declared.faults.NodeFault.TheVariants as faults
use Rattle.afs_server.specs.Handling.{record_decided}
use Rattle.afs_server.specs.Seen.{begun_step}
use Rattle.afs_volserv.specs.Handling.{turn_behind, vol_record}
use Rattle.afs_node.specs.Seen.{node_found, node_seen, ClosesStored, SameNode, SameStored, ServesNode}
use Rattle.afs_node.specs.declared.node.ServerNode.{ServerNode}
use Rattle.afs_sharing.specs.Stores.{IsKeptBehind, OnDisk, LeavesPrepared}
use Rattle.afs_saving.specs.Saving.{IsWritten}
use Rattle.afs_sharing.specs.Lasting.{lasting_of}

-- ---- its record

-- if it makes one: that of the server whose message it is
abbrev pub node_record : Node → NodeState → ℕ → Received → Option StoreRecord
node_record me s clock m =
    if is_of_client (from_of m) then record_decided s.file.lasting.boot clock (node_file_decides me s clock m) else vol_record (vol_decides me (durable_of s.file.lasting) s.vol m)

-- ---- its row

-- over what was found of a message it is that of the message
pub record IsSameStep (me : Node) (s : NodeState) (clock : ℕ) (m : Message) (found : Received) : Type 0 where
  pub row : (place : ℕ) → node_row me s clock place found ≡ node_row me s clock place (Whole m)
  pub calls : node_device_calls me s clock found ≡ node_device_calls me s clock (Whole m)
  pub recorded : node_record me s clock found ≡ node_record me s clock (Whole m)
  pub begun : node_begun_after me s clock found ≡ node_begun_after me s clock (Whole m)

abbrev pub AreSameSteps : Node → NodeState → ℕ → List ℕ → Type 0
AreSameSteps me s clock bytes = (m : Message) → received bytes ≡ Whole m → IsSameStep me s clock m (node_found bytes)

-- before the volume server's replies go out that waited for breaks
abbrev pub vol_resting : Node → ServerState → List Line → VolTurn → Step NodeState
vol_resting me s ls t = record {
  state = record { file = (stepped me (record s { lasting = t.lasting }) [] (turn_behind t)).state; vol = t.vol };
  lines = ls ++ t.lines;
  sent = (stepped me (record s { lasting = t.lasting }) [] (turn_behind t)).sent;
}

abbrev pub node_taken : Node → NodeState → ℕ → ℕ → Received → Step NodeState
node_taken me s clock place m =
    if is_of_client (from_of m) then resting s.vol (file_row me (holds_of s.vol.transactions) s.file clock place m)
    else vol_resting me s.file (lines.Given place ∷ []) (vol_turned me s.file.lasting s.vol (expired clock s.file.backs) (vol_decides me (durable_of s.file.lasting) s.vol m) m)

-- and then they do
abbrev pub let_out : Step NodeState → Step NodeState
let_out s = record {
  state = record { file = s.state.file; vol = record s.state.vol { held = filter (waits_for_breaks s.state.file.backs.lists.owed) s.state.vol.held } };
  lines = s.lines;
  sent = s.sent ++ replies_of (filter (is_ready s.state.file.backs.lists.owed) s.state.vol.held);
}

-- the start of both servers over a store that has begun its boot
abbrev pub node_begun_step : Node → Durable → ℕ → ℕ → Step NodeState
node_begun_step me d clock count = node_risen (begun_step me d clock count) (lasting_of d).kept

-- ---- the step

-- It was made: the new state is the row's, and so is what it gave out. Its lines are these and then the node's; its messages are these, and
-- behind them those of the second.
pub record MakesNode {D : Type 0} (step : Step NodeState) (before : List Line) (m : ServerNode) (s : Store D) (outs : Outs) (behind : List Parcel) : Type 0 where
  pub state : node_seen m s ≡ step.state
  pub lines : before ++ outs.lines ≡ step.lines
  pub sent : parcels_read outs.parcels ++ parcels_read behind ≡ messages_spelled step.sent

-- The step was made; or memory was wanting, and the node and what its store keeps are as before; or the disk failed while the step's record was
-- written, and what the node had in memory is gone.
abbrev pub HandlesNode : {D : Type 0} → Step NodeState → List Line → ServerNode → ServerNode → Store D → Store D → Result (Outs × List Parcel) NodeFault → Type 0
HandlesNode {D} step before old new s t (Ok r) = MakesNode step before new t r.0 r.1
HandlesNode {D} step before old new s t (Err faults.OutOfMemory) = SameNode old new × SameStored s t
HandlesNode {D} step before old new s t (Err faults.Down) = ClosesStored s t

-- the same of the part that is made before replies go out
pub record TakesNode {D : Type 0} (step : Step NodeState) (before : List Line) (m : ServerNode) (s : Store D) (outs : Outs) : Type 0 where
  pub state : node_seen m s ≡ step.state
  pub lines : before ++ outs.lines ≡ step.lines
  pub sent : parcels_read outs.parcels ≡ messages_spelled step.sent

abbrev pub TookNode : {D : Type 0} → Step NodeState → List Line → ServerNode → ServerNode → Store D → Store D → Result Outs NodeFault → Type 0
TookNode {D} step before old new s t (Ok outs) = TakesNode step before new t outs
TookNode {D} step before old new s t (Err faults.OutOfMemory) = SameNode old new × SameStored s t
TookNode {D} step before old new s t (Err faults.Down) = ClosesStored s t

-- A step draws few numbers.
pub record DrawsFew {D : Type 0} (breaks : ℕ) (old new : ServerNode) (s t : Store D) : Type 0 where
  pub calls : t.drawn ≤ s.drawn + 204
  pub owed : new.file.lists.last_owed + length new.file.lists.promises ≤ old.file.lists.last_owed + length old.file.lists.promises + breaks

-- what a step that was made leaves
pub record LeavesNode {D : Type 0} (decided : Option StoreRecord) (old new : ServerNode) (s t : Store D) : Type 0 where
  pub serves : ServesNode new t
  pub store : t ≡ record s { durable = t.durable; disk = t.disk; prepared = t.prepared; count = t.count; drawn = t.drawn; holds = t.holds }
  pub done : IsKeptBehind decided s t
  pub draws : DrawsFew 50 old new s t

-- A step with this record, or none, and so many device calls, behind which a restart begins so where the record is whole on the disk. Where it was
-- made: what it leaves. And whatever came of it: what a restart finds behind it, where its disk ended it, and tells of it; which record is left
-- prepared; and its device calls.
pub record StepsBy {D T : Type 0} (w : Ghosts D) (decided : Option StoreRecord) (next : Begun ServerState) (calls : ℕ) (old new : ServerNode) (s t : Store D) (result : Result T NodeFault) : Type 0 where
  pub leaves : OnOk result (LeavesNode decided old new s t)
  pub down : IsErrOf result faults.Down → decided ≡ None → ⊥
  pub interrupted : IsErrOf result faults.Down → (r : StoreRecord) → decided ≡ Some r → (e : Durable) → folded r s.durable ≡ Some e → lasting_of e ≡ next.state.lasting
  pub effects : (r : StoreRecord) → IsWritten r decided result → (ls : List Line) → next.before ls ≡ map in_words (effect_of s.node r s.durable) ++ ls
  pub prepared : LeavesPrepared decided s t result
  pub called : OnOk result (w.calls t.disk ≡ w.calls s.disk + calls)
  pub disk : OnDisk w decided s.durable s.disk t.disk result

-- the node's at this time, on what was found
abbrev pub StepsNode : {D T : Type 0} → Ghosts D → ℕ → Received → ServerNode → ServerNode → Store D → Store D → Result T NodeFault → Type 0
StepsNode {D} {T} w clock found old new s t result =
    StepsBy w (node_record s.node (node_seen old s) clock found) (node_begun_after s.node (node_seen old s) clock found) (node_device_calls s.node (node_seen old s) clock found) old new s t result

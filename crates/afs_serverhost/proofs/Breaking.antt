-- The disk ended a step of a server node.
use Rattle.std.specs.Prelude.{◌≡◌, ℕ, List, [], ◌∷◌, Bool, true, false, Some, None, if◌then◌else◌}
use Rattle.std.proofs.Common.{refl, ap, sym}
use Rattle.afs_num.specs.declared.messages.Message.{Message}
use Rattle.afs_num.specs.declared.messages.Received.{Received}
use Rattle.afs_num.specs.declared.messages.Received.TheVariants.{Whole}
use Rattle.afs_num.specs.declared.types.Node.{Node}
use Rattle.spec_history.specs.declared.lines.Line.{Line}
use Rattle.spec_history.specs.declared.lines.Line.TheVariants as lines
use Rattle.afs_disk.specs.Disk.{Rose}
use Rattle.afs_disk.specs.Fuses.{Fused}
use Rattle.afs_disk.specs.declared.disk.Disk.{Ghosts}
use Rattle.spec_records.specs.Durable.{Durable}
use Rattle.spec_rows.specs.ServerRow.{device_calls, drops, refuses, repeats, saves, shows, tells_boot, Decision}
use Rattle.spec_rows.specs.States.{durable_of, ServerState}
use Rattle.spec_rows.specs.Steps.{Begun}
use Rattle.spec_volrows.specs.NodeHosts.{node_begun, node_kind, NodeHost}
use Rattle.spec_volrows.specs.VolStates.{NodeState}
use Rattle.spec_volrows.specs.VolSteps.{from_of, is_of_client, node_begun_after, node_device_calls, node_file_decides, vol_decides, vol_device_calls, VolDecision}
use Rattle.spec_volrows.specs.VolSteps as volumes
use Rattle.afs_volstore.specs.Stores.{Store}
use Rattle.afs_server.specs.Handling.{record_decided}
use Rattle.afs_volserv.specs.Handling.{vol_record}
use Rattle.afs_node.specs.Handling.{node_record, IsSameStep}
use Rattle.afs_node.specs.Seen.{node_seen}
use Rattle.afs_host.specs.Seats.{Resting}
use Rattle.afs_serverhost.specs.Seats.{disk_of, CanRun, IsStepDown, IsUp, ServerRunning}
use Rattle.afs_serverhost.specs.Serving.{HasFallen, IsBroken}
use Rattle.afs_serverhost.specs.Standing.{server_keeping}
use Rattle.afs_serverhost.specs.Starting.{server_sight}
use Rattle.afs_host.specs.Serving.{HasServed}
use Rattle.afs_host.proofs.Broken.{fallen_step, Ended, IsStepOf}

-- ---- a step that makes a record makes four device calls

file_saves : (s : ServerState) (clock : ℕ) (d : Decision) → (record_decided s.lasting.boot clock d ≡ None → ⊥) → device_calls s clock d ≡ 4
file_saves s clock drops some = absurd (some refl)
file_saves s clock (tells_boot head) some = absurd (some refl)
file_saves s clock (repeats reply) some = absurd (some refl)
file_saves s clock (refuses head code) some = absurd (some refl)
file_saves s clock (shows head r) some = absurd (some refl)
file_saves s clock (saves head c) some = refl

volume_saves : (e : Durable) (d : VolDecision) → (vol_record d ≡ None → ⊥) → vol_device_calls e d ≡ 4
volume_saves e volumes.drops some = absurd (some refl)
volume_saves e (volumes.tells_boot head) some = absurd (some refl)
volume_saves e (volumes.repeats reply) some = absurd (some refl)
volume_saves e (volumes.replies_to head reply ts last) some = absurd (some refl)
volume_saves e (volumes.dispatches head x) some = absurd (some refl)
volume_saves e (volumes.saves head x) some = refl

saves_by : (s : ServerState) (clock : ℕ) (d : Decision) (e : Durable) (v : VolDecision) (b : Bool) → ((if b then record_decided s.lasting.boot clock d else vol_record v) ≡ None → ⊥) → (if b then device_calls s clock d else vol_device_calls e v) ≡ 4
saves_by s clock d e v true some = file_saves s clock d some
saves_by s clock d e v false some = volume_saves e v some

pub saves_calls : (me : Node) (s : NodeState) (clock : ℕ) (found : Received) → (node_record me s clock found ≡ None → ⊥) → node_device_calls me s clock found ≡ 4
saves_calls me s clock found some =
    saves_by s.file clock (node_file_decides me s clock found) (durable_of s.file.lasting) (vol_decides me (durable_of s.file.lasting) s.vol found) (is_of_client (from_of found)) some

-- ---- it was ended

-- what a restart begins with behind it
abbrev pub begun_behind : {D : Type 0} → ServerRunning D → ℕ → Received → Begun NodeState
begun_behind old clock found = node_begun (node_seen old.memory old.store) (node_begun_after old.store.node (node_seen old.memory old.store) clock found)

-- a step that its disk ended
abbrev pub ServerEnded : {D : Type 0} → Ghosts D → ℕ → Received → ServerRunning D → D → D → Type 0
ServerEnded w clock found old before after =
    Ended (server_keeping old.store.node) w (node_record old.store.node (node_seen old.memory old.store) clock found) (begun_behind old clock found) old.store.durable old.store.count before after

-- over what it finds of a message it is the step of the message
pub decides_so : {D : Type 0} (old : ServerRunning D) (clock : ℕ) (found : Received) (m : Message) → IsSameStep old.store.node (node_seen old.memory old.store) clock m found →
    IsStepOf (server_keeping old.store.node) (node_seen old.memory old.store) m clock (node_record old.store.node (node_seen old.memory old.store) clock found) (begun_behind old clock found) old.store.durable
decides_so {D} old clock found m same = record {
  read = refl;
  decides = sym same.recorded;
  begins = ap (node_begun (node_seen old.memory old.store)) (sym same.begun);
}

-- the host fell with some luck, and as the line tells
pub down_step : {D : Type 0} (w : Ghosts D) → ((disk : D) (pick : ℕ) (c : List ℕ) → w.left_by disk pick ≡ Some c → w.may_leave disk c) → ((disk : D) → w.left_by disk 1 ≡ w.seen disk) → (old new : ServerRunning D) (clock : ℕ) (found : Received) → CanRun old → IsBroken w old clock found new →
    (s : Resting D) (line : Line) → HasFallen w.seen w.left_by w.may_leave w.faults w.limit new s line → (h : NodeHost) → IsUp old h → (m : Message) → found ≡ Whole m → (place : ℕ) →
    HasServed (node_kind old.store.node) h clock place m (IsStepDown w.seen w.may_leave w.limit old.store.node s (lines.Given place ∷ line ∷ [])) (Rose (w.faults (disk_of old)) (w.faults s.disk))
down_step {D} w leaves reads old new clock found can broken s line fallen h up m whole place =
    fallen_step (server_keeping old.store.node) server_sight w leaves reads old new m clock (record {
      armed = broken.armed;
      set = can.set;
      node = ap (λ (t : Store (Fused D)). t.node) broken.closed.is;
      counted = ap (λ (t : Store (Fused D)). t.count) broken.closed.is;
      lies = λ b. broken.lies m b whole;
      reached = broken.reached;
      left = λ b. broken.left m b whole;
      saves = broken.saves m whole;
      few = broken.few;
      stop = broken.stop;
      cause = broken.cause;
      capacity = broken.capacity;
    }) s line fallen h up place

-- The steps of a server node that is up.
use Rattle.std.specs.Prelude.{◌≡◌, ◌⊎◌, ℕ, ◌+◌, ◌-◌, ◌*◌, ◌||◌, List, [], ◌∷◌, ◌++◌, Bool, true, false, Option, Some, None, if◌then◌else◌, is_some}
use Rattle.std.proofs.Common.{refl, ap, sym, subst, ◌∙◌, inl, inr, arith}
use Rattle.afs_num.specs.declared.messages.Message.{Message}
use Rattle.afs_num.specs.declared.messages.Received.{Received}
use Rattle.afs_num.specs.declared.messages.Received.TheVariants.{Whole}
use Rattle.afs_num.specs.declared.types.Head.{Head}
use Rattle.afs_num.specs.declared.types.Node.{Node}
use Rattle.afs_num.specs.declared.types.Parcel.{Parcel}
use Rattle.spec_history.specs.declared.lines.Line.{Line}
use Rattle.spec_history.specs.declared.lines.Line.TheVariants as lines
use Rattle.spec_history.specs.declared.lines.Outs.{Outs}
use Rattle.afs_disk.specs.Fuses.{Fused}
use Rattle.spec_model.specs.Messages.{parcels_read, received}
use Rattle.spec_records.specs.Durable.{Durable}
use Rattle.spec_rows.specs.Hosts.{lowered, steady, struck, Armed, Blow, goes, served, served_by}
use Rattle.spec_rows.specs.ServerRow.{device_calls, drops, refuses, repeats, saves, shows, tells_boot, Decision}
use Rattle.spec_rows.specs.States.{durable_of, BackCall, ServerState}
use Rattle.spec_rows.specs.Steps.{Step}
use Rattle.spec_records.proofs.Forms.{some_is}
use Rattle.spec_volrows.specs.NodeHosts.{node_kind, node_timed_out, node_woken, piece_timed_out, NodeHost}
use Rattle.spec_volrows.specs.VolStates.{NodeState, PieceCall}
use Rattle.spec_volrows.specs.VolSteps.{from_of, is_of_client, node_back_timeout_row, node_device_calls, node_file_decides, node_row, node_wake_row, piece_timeout_row, vol_decides, vol_device_calls, VolDecision}
use Rattle.spec_volrows.specs.VolSteps as volumes
use Rattle.afs_volstore.specs.Stores.{Store}
use Rattle.afs_sendings.specs.Pieces.{call_or_none, call_seen, Piece}
use Rattle.afs_callees.specs.Called.{call_to}
use Rattle.afs_server.specs.Handling.{record_decided}
use Rattle.afs_volserv.specs.Handling.{vol_record}
use Rattle.afs_node.specs.Handling.{node_record, IsSameStep, MakesNode}
use Rattle.afs_node.specs.Seen.{node_seen}
use Rattle.afs_node.specs.declared.node.ServerNode.{ServerNode}
use Rattle.afs_serverhost.specs.Seats.{waits_for, with_behind, IsStepUp, IsUp, ServerRunning}
use Rattle.afs_sharing.specs.Stores.{IsKeptBehind}
use Rattle.afs_host.proofs.Stepping.{as_host_up}

-- what holds of the host that is just the state of a server node holds of each for which this stands
pub as_up : {D : Type 0} (r : ServerRunning D) (h : NodeHost) (P : NodeHost → Type 0) → IsUp r h → P (record { state = node_seen r.memory r.store; down = None; armed = r.armed }) → P h
as_up {D} r h P up p = as_host_up (λ (m : ServerNode) (t : Store (Fused D)). node_seen m t) r h P up p

file_calls : {D : Type 0} (x : ServerState) (clock : ℕ) (d : Decision) (s t : Store D) → IsKeptBehind (record_decided x.lasting.boot clock d) s t → (t.count - s.count) * 4 ≡ device_calls x clock d
file_calls {D} x clock drops s t done = omega (arith, done.1)
file_calls {D} x clock (tells_boot head) s t done = omega (arith, done.1)
file_calls {D} x clock (repeats reply) s t done = omega (arith, done.1)
file_calls {D} x clock (refuses head code) s t done = omega (arith, done.1)
file_calls {D} x clock (shows head r) s t done = omega (arith, done.1)
file_calls {D} x clock (saves head c) s t done = omega (arith, done.1)

volume_calls : {D : Type 0} (e : Durable) (d : VolDecision) (s t : Store D) → IsKeptBehind (vol_record d) s t → (t.count - s.count) * 4 ≡ vol_device_calls e d
volume_calls {D} e volumes.drops s t done = omega (arith, done.1)
volume_calls {D} e (volumes.tells_boot head) s t done = omega (arith, done.1)
volume_calls {D} e (volumes.repeats reply) s t done = omega (arith, done.1)
volume_calls {D} e (volumes.replies_to head reply ts last) s t done = omega (arith, done.1)
volume_calls {D} e (volumes.dispatches head x) s t done = omega (arith, done.1)
volume_calls {D} e (volumes.saves head x) s t done = omega (arith, done.1)

calls_by : {D : Type 0} (x : ServerState) (clock : ℕ) (d : Decision) (e : Durable) (v : VolDecision) (s t : Store D) (b : Bool) → IsKeptBehind (if b then record_decided x.lasting.boot clock d else vol_record v) s t → (t.count - s.count) * 4 ≡ (if b then device_calls x clock d else vol_device_calls e v)
calls_by {D} x clock d e v s t true done = file_calls x clock d s t done
calls_by {D} x clock d e v s t false done = volume_calls e v s t done

pub made_calls : {D : Type 0} (me : Node) (x : NodeState) (clock : ℕ) (found : Received) (s t : Store D) → IsKeptBehind (node_record me x clock found) s t → (t.count - s.count) * 4 ≡ node_device_calls me x clock found
made_calls {D} me x clock found s t done =
    calls_by x.file clock (node_file_decides me x clock found) (durable_of x.file.lasting) (vol_decides me (durable_of x.file.lasting) x.vol found) s t (is_of_client (from_of found)) done

parcels_read-append : (ps qs : List Parcel) → parcels_read (ps ++ qs) ≡ parcels_read ps ++ parcels_read qs
parcels_read-append [] qs = refl
parcels_read-append (p ∷ ps) qs = ap (λ (t : List (Head × List ℕ × Received)). (p.head, p.bytes, received p.bytes) ∷ t) (parcels_read-append ps qs)

-- it is the host's, whose disk is then set so
pub made_up : {D : Type 0} (step : Step NodeState) (before : List Line) (new : ServerRunning D) (r : Outs × List Parcel) (armed : Armed) → MakesNode step before new.memory new.store r.0 r.1 → new.armed ≡ armed → IsStepUp new before (with_behind r) (goes armed step)
made_up {D} step before new r armed made set = record {
  host = record { state = sym made.state; down = refl; armed = sym set };
  lines = made.lines;
  sent = parcels_read-append r.0.parcels r.1 ∙ made.sent;
}

-- so with a message, where nothing hit it
pub up_step : {D : Type 0} (old new : ServerRunning D) (h : NodeHost) → IsUp old h → (me : Node) (clock place : ℕ) (m : Message) (found : Received) → IsSameStep me (node_seen old.memory old.store) clock m found → (r : Outs × List Parcel) →
    MakesNode (node_row me (node_seen old.memory old.store) clock place found) (lines.Given place ∷ []) new.memory new.store r.0 r.1 →
    new.armed ≡ lowered (node_device_calls me (node_seen old.memory old.store) clock found) old.armed →
    struck old.armed steady (node_device_calls me (node_seen old.memory old.store) clock found) ≡ None →
    IsStepUp new (lines.Given place ∷ []) (with_behind r) (served (node_kind me) h clock place steady m)
up_step {D} old new h up me clock place m found same r made lower unhit =
    let s = node_seen old.memory old.store in
    let nothing = subst (λ (n : ℕ). struck old.armed steady n ≡ None) same.calls unhit in
    as_up old h (λ (x : NodeHost). IsStepUp new (lines.Given place ∷ []) (with_behind r) (served (node_kind me) x clock place steady m)) up
    (subst (λ (b : Option Blow). IsStepUp new (lines.Given place ∷ []) (with_behind r) (served_by (node_kind me) (record { state = s; down = None; armed = old.armed }) clock place m b)) (sym nothing)
    (made_up (node_row me s clock place (Whole m)) (lines.Given place ∷ []) new r (lowered (node_device_calls me s clock (Whole m)) old.armed)
    (subst (λ (x : Step NodeState). MakesNode x (lines.Given place ∷ []) new.memory new.store r.0 r.1) (same.row place) made)
    (lower ∙ ap (λ (n : ℕ). lowered n old.armed) same.calls)))

-- its file server waits for a client, or its volume server for a server
abbrev pub IsLate : NodeHost → Node → Type 0
IsLate h callee = ((b : BackCall) × (h.state.file.backs.calls callee ≡ Some b)) ⊎ ((h.state.file.backs.calls callee ≡ None) × ((c : PieceCall) × (h.state.vol.calls callee ≡ Some c)))

abbrev pub IsIdle : NodeHost → Node → Type 0
IsIdle h callee = (h.state.file.backs.calls callee ≡ None) × (h.state.vol.calls callee ≡ None)

late_by : (o : Option BackCall) (p : Option Piece) → (is_some o || is_some p) ≡ true → ((b : BackCall) × (o ≡ Some b)) ⊎ ((o ≡ None) × ((c : PieceCall) × (call_or_none p ≡ Some c)))
late_by (Some b) p e = inl (b, refl)
late_by None (Some p) e = inr (refl, (call_seen p, refl))
late_by None None e = absurd cc

idle_by : (o : Option BackCall) (p : Option Piece) → (is_some o || is_some p) ≡ false → (o ≡ None) × (call_or_none p ≡ None)
idle_by (Some b) p e = absurd cc
idle_by None (Some p) e = absurd cc
idle_by None None e = (refl, refl)

pub waits_late : {D : Type 0} (r : ServerRunning D) (h : NodeHost) (callee : Node) → IsUp r h → waits_for r callee ≡ true → IsLate h callee
waits_late {D} r h callee up waits = as_up r h (λ (x : NodeHost). IsLate x callee) up (late_by (call_to r.memory.file.callees callee) (call_to r.memory.vol.callees callee) waits)

pub waits_idle : {D : Type 0} (r : ServerRunning D) (h : NodeHost) (callee : Node) → IsUp r h → waits_for r callee ≡ false → IsIdle h callee
waits_idle {D} r h callee up waits = as_up r h (λ (x : NodeHost). IsIdle x callee) up (idle_by (call_to r.memory.file.callees callee) (call_to r.memory.vol.callees callee) waits)

piece_of : (p : Option Piece) (c : PieceCall) → call_or_none p ≡ Some c → (x : Piece) × ((p ≡ Some x) × (call_seen x ≡ c))
piece_of None c e = absurd cc
piece_of (Some x) c e = (x, (refl, some_is (call_seen x) c e))

module _ {D : Type 0} (old new : ServerRunning D) (clock : ℕ) (callee : Node) (r : Outs × List Parcel) (armed : new.armed ≡ old.armed) where
  pub late_break_up : ((b : BackCall) → call_to old.memory.file.callees callee ≡ Some b → MakesNode (node_back_timeout_row old.store.node (node_seen old.memory old.store) clock callee b) [] new.memory new.store r.0 r.1) →
      (h : NodeHost) → IsUp old h → (b : BackCall) → h.state.file.backs.calls callee ≡ Some b → IsStepUp new [] (with_behind r) (node_timed_out old.store.node h clock callee b)
  late_break_up makes h up =
      as_up old h (λ (x : NodeHost). (b : BackCall) → x.state.file.backs.calls callee ≡ Some b → IsStepUp new [] (with_behind r) (node_timed_out old.store.node x clock callee b)) up
      (λ b called. made_up (node_back_timeout_row old.store.node (node_seen old.memory old.store) clock callee b) [] new r old.armed (makes b called) armed)

  pub late_piece_up : (call_to old.memory.file.callees callee ≡ None → (c : Piece) → call_to old.memory.vol.callees callee ≡ Some c → MakesNode (piece_timeout_row old.store.node (node_seen old.memory old.store) clock callee (call_seen c)) [] new.memory new.store r.0 r.1) →
      (h : NodeHost) → IsUp old h → h.state.file.backs.calls callee ≡ None → (c : PieceCall) → h.state.vol.calls callee ≡ Some c → IsStepUp new [] (with_behind r) (piece_timed_out old.store.node h clock callee c)
  late_piece_up makes h up =
      as_up old h (λ (x : NodeHost). x.state.file.backs.calls callee ≡ None → (c : PieceCall) → x.state.vol.calls callee ≡ Some c → IsStepUp new [] (with_behind r) (piece_timed_out old.store.node x clock callee c)) up
      (λ none c called.
      let p = piece_of (call_to old.memory.vol.callees callee) c called in
      made_up (piece_timeout_row old.store.node (node_seen old.memory old.store) clock callee c) [] new r old.armed
      (subst (λ (y : PieceCall). MakesNode (piece_timeout_row old.store.node (node_seen old.memory old.store) clock callee y) [] new.memory new.store r.0 r.1) p.1.1 (makes none p.0 p.1.0)) armed)

  pub woken_up : MakesNode (node_wake_row old.store.node (node_seen old.memory old.store) clock) [] new.memory new.store r.0 r.1 → (h : NodeHost) → IsUp old h → IsStepUp new [] (with_behind r) (node_woken old.store.node h clock)
  woken_up makes h up =
      as_up old h (λ (x : NodeHost). IsStepUp new [] (with_behind r) (node_woken old.store.node x clock)) up (made_up (node_wake_row old.store.node (node_seen old.memory old.store) clock) [] new r old.armed makes armed)

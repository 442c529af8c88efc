-- The answers of the two servers of a node, put together.
use Rattle.std.specs.Prelude.{◌≡◌, ◌+◌, ℕ, List, [], ◌∷◌, Bool, true, false, Result, Ok, Err, OnOk}
use Rattle.std.proofs.Common.{refl, ap, sym, subst, ◌∙◌, arith}
use Rattle.afs_num.specs.declared.messages.Received.{Received}
use Rattle.afs_disk.specs.declared.disk.Disk.{Ghosts}
use Rattle.spec_history.specs.declared.lines.Line.TheVariants as lines
use Rattle.spec_history.specs.declared.lines.Outs.{Outs}
use Rattle.spec_ideal.specs.Tables.{Table}
use Rattle.spec_model.specs.Messages.{received_by}
use Rattle.spec_records.specs.Durable.{Durable}
use Rattle.spec_rows.specs.ServerRow.{begun_after, device_calls, drops, refuses, repeats, saves, shows, tells_boot, Decision}
use Rattle.spec_rows.specs.States.{ServerState}
use Rattle.spec_rows.specs.Steps.{Step}
use Rattle.spec_volrows.specs.FileRow.{file_decides, file_row}
use Rattle.spec_volrows.specs.VolLaws.{resting}
use Rattle.spec_volrows.specs.VolRow.{holds_of}
use Rattle.spec_volrows.specs.VolStates.{NodeState}
use Rattle.spec_volrows.specs.VolSteps.{from_of, is_of_client, vol_begun_after, vol_device_calls, VolDecision}
use Rattle.spec_volrows.specs.VolSteps as volumes
use Rattle.afs_volstore.specs.Stores.{Store}
use Rattle.afs_server_parts.specs.declared.faults.NodeFault.{NodeFault}
use Rattle.afs_server.specs.Handling.{calls_served, decided_then, holds_seen, record_decided, record_then, server_seen, Handles, ServesOver}
use Rattle.afs_server.specs.Seen.{callbacks_of, Memory}
use Rattle.afs_volserv.specs.Handling.{vol_calls_served, vol_decided_then, vol_record, vol_turned_then}
use Rattle.afs_volserv.specs.Seen.{durable_seen, vol_seen, CanRelease, HasRoom, VolMemory}
use Rattle.afs_node.specs.Handling.{node_taken, vol_resting, StepsBy, StepsNode, TookNode}
use Rattle.afs_node.specs.Seen.{found_by, node_found, node_seen, sent_by_client, ServesNode}
use Rattle.afs_node.specs.declared.node.ServerNode.{ServerNode}
use Rattle.afs_node.proofs.Serving.{file_serves}
use Rattle.afs_node.proofs.Sides.{file_decided, is_files, is_volumes, IsFiles, IsVolumes}
use Rattle.afs_node.proofs.Stepped.{steps_as}
use Rattle.afs_node.proofs.Whose.{of_client, of_other}
use Rattle.afs_saving.specs.Saving.{calls_for}

-- ---- of a result

pub on_ok : {T E : Type 0} (r : Result T E) (P : Type 0) → P → OnOk r P
on_ok {T} {E} (Ok x) P p = p
on_ok {T} {E} (Err e) P p = tt

pub on_map : {T E : Type 0} (r : Result T E) (P Q : Type 0) → (P → Q) → OnOk r P → OnOk r Q
on_map {T} {E} (Ok x) P Q f p = f p
on_map {T} {E} (Err e) P Q f p = tt

-- one more reply may wait
pub can_release : {D : Type 0} (m : VolMemory) (s : Store D) → HasRoom m s → CanRelease m
can_release {D} m s room = omega (arith, room.0)

-- ---- the device calls of a record

pub file_record_calls : (d : Durable) (s : ServerState) (boot clock : ℕ) (x : Decision) → device_calls s clock x ≡ calls_for (record_decided boot clock x)
file_record_calls d s boot clock drops = refl
file_record_calls d s boot clock (tells_boot head) = refl
file_record_calls d s boot clock (repeats reply) = refl
file_record_calls d s boot clock (refuses head code) = refl
file_record_calls d s boot clock (shows head r) = refl
file_record_calls d s boot clock (saves head c) = refl

volume_record_calls : (d e : Durable) (x : VolDecision) → vol_device_calls e x ≡ calls_for (vol_record x)
volume_record_calls d e volumes.drops = refl
volume_record_calls d e (volumes.tells_boot head) = refl
volume_record_calls d e (volumes.repeats reply) = refl
volume_record_calls d e (volumes.replies_to head reply ts last) = refl
volume_record_calls d e (volumes.dispatches head x) = refl
volume_record_calls d e (volumes.saves head x) = refl

pub volume_called : {D T E : Type 0} (w : Ghosts D) (d e : Durable) (x : VolDecision) (old new : D) (result : Result T E) → OnOk result (w.calls new ≡ w.calls old + vol_device_calls e x) → OnOk result (w.calls new ≡ w.calls old + calls_for (vol_record x))
volume_called {D} {T} {E} w d e x old new (Ok y) calls = calls ∙ ap (λ (k : ℕ). w.calls old + k) (volume_record_calls d e x)
volume_called {D} {T} {E} w d e x old new (Err f) calls = tt

-- ---- the file server's

pub file_ok_serves : {D : Type 0} (m : ServerNode) (n : Memory) (s t : Store D) (clock : ℕ) (r : Received) (result : Result Outs NodeFault) → is_of_client (from_of r) ≡ true → ServesNode m s →
    Handles (file_row s.node (holds_seen s) (server_seen m.file s) clock 0 r) (lines.Given 0 ∷ []) m.file n s t result → OnOk result (ServesOver n t) →
    OnOk result (t ≡ record s { durable = t.durable; disk = t.disk; prepared = t.prepared; count = t.count; drawn = t.drawn }) → OnOk result (ServesNode (record m { file = n }) t)
file_ok_serves {D} m n s t clock r (Ok outs) client serves made file store = file_serves m n s t clock 0 r (lines.Given 0 ∷ []) outs client serves made file store
file_ok_serves {D} m n s t clock r (Err e) client serves made file store = tt

module _ {D : Type 0} (m : ServerNode) (s : Store D) (clock : ℕ) (bytes : List ℕ) where
  abbrev seen : NodeState
  seen = node_seen m s

  abbrev pub file_found : Received
  file_found = received_by calls_served bytes

  -- it decides by the volumes that the store holds, which are those of the transactions
  file_same : ServesNode m s → decided_then m.file s clock bytes ≡ file_decided s.node seen clock file_found
  file_same serves = ap (λ (held : Table ℕ). file_decides s.node held (server_seen m.file s) clock file_found) serves.volumes.holds

  module _ (client : sent_by_client bytes ≡ true) (serves : ServesNode m s) where
    files : IsFiles s.node seen clock file_found
    files = is_files s.node seen clock file_found (of_client calls_served bytes client)

    pub file_steps : {T : Type 0} (w : Ghosts D) (new : ServerNode) (t : Store D) (result : Result T NodeFault) →
        StepsBy w (record_then m.file s clock bytes) (begun_after s.node (server_seen m.file s) clock (decided_then m.file s clock bytes)) (device_calls (server_seen m.file s) clock (decided_then m.file s clock bytes)) m new s t result →
        StepsNode w clock (node_found bytes) m new s t result
    file_steps w new t result steps =
        subst (λ (b : Bool). StepsNode w clock (found_by b bytes) m new s t result) (sym client)
        (steps_as w _ _ _ _ _ _ m new s t result
        (ap (record_decided s.durable.boot clock) (file_same serves) ∙ sym files.recorded)
        (ap (begun_after s.node (server_seen m.file s) clock) (file_same serves) ∙ sym files.begun)
        (ap (device_calls (server_seen m.file s) clock) (file_same serves) ∙ sym files.calls) steps)

    pub file_takes : (place : ℕ) (new : ServerNode) (t : Store D) (result : Result Outs NodeFault) → TookNode (resting (vol_seen m.vol) (file_row s.node (holds_of m.vol.transactions) (server_seen m.file s) clock place file_found)) (lines.Given place ∷ []) m new s t result → TookNode (node_taken s.node seen clock place (node_found bytes)) (lines.Given place ∷ []) m new s t result
    file_takes place new t result took =
        subst (λ (b : Bool). TookNode (node_taken s.node seen clock place (found_by b bytes)) (lines.Given place ∷ []) m new s t result) (sym client)
        (subst (λ (x : Step NodeState). TookNode x (lines.Given place ∷ []) m new s t result) (sym (files.taken place)) took)

  abbrev pub volume_found : Received
  volume_found = received_by vol_calls_served bytes

  module _ (other : sent_by_client bytes ≡ false) where
    vols : IsVolumes s.node seen clock volume_found
    vols = is_volumes s.node seen clock volume_found (of_other vol_calls_served bytes other)

    pub volume_steps : {T : Type 0} (w : Ghosts D) (new : ServerNode) (t : Store D) (result : Result T NodeFault) →
        StepsBy w (vol_record (vol_decided_then m.vol s bytes)) (vol_begun_after s.node (server_seen m.file s) (vol_decided_then m.vol s bytes)) (vol_device_calls (durable_seen s) (vol_decided_then m.vol s bytes)) m new s t result →
        StepsNode w clock (node_found bytes) m new s t result
    volume_steps w new t result steps =
        subst (λ (b : Bool). StepsNode w clock (found_by b bytes) m new s t result) (sym other)
        (steps_as w _ _ _ _ _ _ m new s t result (sym vols.recorded) (sym vols.begun) (sym vols.calls) steps)

    pub volume_takes : (place : ℕ) (new : ServerNode) (t : Store D) (result : Result Outs NodeFault) → TookNode (vol_resting s.node (server_seen m.file s) (lines.Given place ∷ []) (vol_turned_then m.vol (callbacks_of m.file) s clock bytes)) (lines.Given place ∷ []) m new s t result →
        TookNode (node_taken s.node seen clock place (node_found bytes)) (lines.Given place ∷ []) m new s t result
    volume_takes place new t result took =
        subst (λ (b : Bool). TookNode (node_taken s.node seen clock place (found_by b bytes)) (lines.Given place ∷ []) m new s t result) (sym other)
        (subst (λ (x : Step NodeState). TookNode x (lines.Given place ∷ []) m new s t result) (sym (vols.taken place)) took)

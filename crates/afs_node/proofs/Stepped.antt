-- What a server node is told by a step of one of its servers, as its own.
use Rattle.std.specs.Prelude.{◌≡◌, ◌≤◌, ◌+◌, ◌++◌, ℕ, List, [], ◌∷◌, length, true, Option, None, Result, Ok, Err, OnOk}
use Rattle.std.proofs.Common.{ap, sym, subst, ◌∙◌, arith}
use Rattle.afs_num.specs.declared.messages.Received.{Received}
use Rattle.afs_num.specs.declared.records.StoreRecord.{StoreRecord}
use Rattle.afs_num.specs.declared.types.Node.{Node}
use Rattle.afs_disk.specs.declared.disk.Disk.{Ghosts}
use Rattle.spec_history.specs.declared.lines.Line.{Line}
use Rattle.spec_history.specs.declared.lines.Line.TheVariants as lines
use Rattle.spec_history.specs.declared.lines.Outs.{Outs}
use Rattle.spec_ideal.specs.Tables.{Table}
use Rattle.spec_rows.specs.States.{Backs, Lasting, ServerState}
use Rattle.spec_rows.specs.Steps.{Begun, Step}
use Rattle.spec_volrows.specs.FileRow.{file_row}
use Rattle.spec_volrows.specs.VolLaws.{resting}
use Rattle.spec_volrows.specs.VolRow.{holds_of}
use Rattle.spec_volrows.specs.VolStates.{VolState}
use Rattle.spec_volrows.specs.VolSteps.{VolTurn}
use Rattle.afs_callbacks.specs.States.{backs_at, CallbackState}
use Rattle.afs_volstore.specs.Stores.{Store}
use Rattle.afs_server_parts.specs.declared.faults.NodeFault.{NodeFault}
use Rattle.afs_server_parts.specs.declared.faults.NodeFault.TheVariants as faults
use Rattle.afs_server.specs.Handling.{holds_seen, server_seen, Handles}
use Rattle.afs_server.specs.Seen.{callbacks_of, Memory}
use Rattle.afs_volserv.specs.Handling.{DrawsFew as VolumeDraws, HandlesVolumes, MakesVolumes, StaysInOrder}
use Rattle.afs_volserv.specs.Seen.{vol_seen, VolMemory}
use Rattle.afs_node.specs.Handling.{vol_resting, LeavesNode, StepsBy, TookNode}
use Rattle.afs_node.specs.Seen.{node_seen, ClosesStored, SameStored, ServesNode}
use Rattle.afs_node.specs.declared.node.ServerNode.{ServerNode}
use Rattle.afs_node.proofs.Serving.{volume_serves, with_callbacks}
use Rattle.afs_sharing.specs.Stores.{IsClosed, IsKeptBehind, SameStore}

-- ---- a store of which nothing was done

pub same_stored : {D : Type 0} (s t : Store D) → SameStore s t → SameStored s t
same_stored {D} s t same =
    let holds = ap (λ (u : Store D). u.holds) same in
    record { is = same ∙ ap (λ h. record s { disk = t.disk; prepared = t.prepared; holds = h }) (sym holds); holds = ap (λ h. h.table) holds }

pub closes_stored : {D : Type 0} (s t : Store D) → IsClosed s t → ClosesStored s t
closes_stored {D} s t closed =
    let holds = ap (λ (u : Store D). u.holds) closed in
    record { is = closed ∙ ap (λ h. record s { disk = t.disk; prepared = None; closed = true; holds = h }) (sym holds); holds = ap (λ h. h.table) holds }

-- ---- the file server's step

pub file_took : {D : Type 0} (step : Step ServerState) (before : List Line) (m : ServerNode) (n : Memory) (s t : Store D) (result : Result Outs NodeFault) → Handles step before m.file n s t result → TookNode (resting (vol_seen m.vol) step) before m (record m { file = n }) s t result
file_took {D} step before m n s t (Ok outs) made = record { state = ap (λ (x : ServerState). record { file = x; vol = vol_seen m.vol }) made.state; lines = made.lines; sent = made.sent }
file_took {D} step before m n s t (Err faults.OutOfMemory) same = (ap (λ (x : Memory). record m { file = x }) same.0, same_stored s t same.1)
file_took {D} step before m n s t (Err faults.Down) closed = closes_stored s t closed

abbrev Place : ℕ → List Line
Place place = lines.Given place ∷ []

-- by the row, which knows the volumes that are held from the transactions
pub files_took : {D : Type 0} (m : ServerNode) (n : Memory) (s t : Store D) (clock place : ℕ) (r : Received) (result : Result Outs NodeFault) → s.holds.table ≡ holds_of m.vol.transactions → Handles (file_row s.node (holds_seen s) (server_seen m.file s) clock place r) (Place place) m.file n s t result →
    TookNode (resting (vol_seen m.vol) (file_row s.node (holds_of m.vol.transactions) (server_seen m.file s) clock place r)) (Place place) m (record m { file = n }) s t result
files_took {D} m n s t clock place r result holds handles =
    subst (λ (held : Table ℕ). TookNode (resting (vol_seen m.vol) (file_row s.node held (server_seen m.file s) clock place r)) (Place place) m (record m { file = n }) s t result) holds
    (file_took (file_row s.node (holds_seen s) (server_seen m.file s) clock place r) (Place place) m n s t result handles)

-- ---- the volume server's

volume_state : {D : Type 0} (t : VolTurn) (me : Node) (ls : List Line) (m : ServerNode) (n : VolMemory) (k : CallbackState) (s u : Store D) (outs : Outs) → MakesVolumes t me n k u outs →
    node_seen (record { file = with_callbacks m.file k; vol = n }) u ≡ (vol_resting me (server_seen m.file s) ls t).state
volume_state {D} t me ls m n k s u outs made =
    ap (λ (l : Lasting). record { file = record { lasting = l; seats = m.file.seats; backs = backs_at k u.drawn }; vol = vol_seen n }) made.lasting
    ∙ (ap (λ (b : Backs). record { file = record { lasting = t.lasting; seats = m.file.seats; backs = b }; vol = vol_seen n }) made.backs
    ∙ ap (λ (v : VolState). record { file = (vol_resting me (server_seen m.file s) ls t).state.file; vol = v }) made.vol)

pub volume_took : {D : Type 0} (t : VolTurn) (before : List Line) (m : ServerNode) (n : VolMemory) (k : CallbackState) (s u : Store D) (result : Result Outs NodeFault) → HandlesVolumes t m.vol n (callbacks_of m.file) k s u result →
    TookNode (vol_resting s.node (server_seen m.file s) before t) before m (record { file = with_callbacks m.file k; vol = n }) s u result
volume_took {D} t before m n k s u (Ok outs) made = record { state = volume_state t s.node before m n k s u outs made; lines = ap (λ (ls : List Line). before ++ ls) made.lines; sent = made.sent }
volume_took {D} t before m n k s u (Err faults.OutOfMemory) same =
    let as_before = ap (λ (v : VolMemory). record { file = with_callbacks m.file k; vol = v }) same.0 ∙ ap (λ (l : CallbackState). record { file = with_callbacks m.file l; vol = m.vol }) same.1.0 in
    (as_before ∙ ap (λ (v : VolMemory). record { file = m.file; vol = record m.vol { room = v.room } }) (sym same.0), same_stored s u same.1.1)
volume_took {D} t before m n k s u (Err faults.Down) closed = closes_stored s u closed

-- ---- what it leaves

pub file_leaves : {D : Type 0} (decided : Option StoreRecord) (m : ServerNode) (n : Memory) (s t : Store D) (result : Result Outs NodeFault) → OnOk result (ServesNode (record m { file = n }) t) →
    OnOk result (t ≡ record s { durable = t.durable; disk = t.disk; prepared = t.prepared; count = t.count; drawn = t.drawn }) → OnOk result (IsKeptBehind decided s t) →
    OnOk result ((t.drawn ≤ s.drawn + 204) × (n.lists.last_owed + length n.lists.promises ≤ m.file.lists.last_owed + length m.file.lists.promises + 50)) → OnOk result (LeavesNode decided m (record m { file = n }) s t)
file_leaves {D} decided m n s t (Ok outs) serves store done draws = record {
  serves = serves;
  store = store ∙ ap (λ h. record s { durable = t.durable; disk = t.disk; prepared = t.prepared; count = t.count; drawn = t.drawn; holds = h }) (sym (ap (λ (u : Store D). u.holds) store));
  done = done;
  draws = record { calls = draws.0; owed = draws.1 };
}
file_leaves {D} decided m n s t (Err e) serves store done draws = tt

pub volume_leaves : {D : Type 0} (decided : Option StoreRecord) (m : ServerNode) (n : VolMemory) (k : CallbackState) (s u : Store D) (result : Result Outs NodeFault) → ServesNode m s → OnOk result (StaysInOrder m.vol n k u) → OnOk result (VolumeDraws (callbacks_of m.file) k s u) →
    OnOk result (u ≡ record s { durable = u.durable; disk = u.disk; prepared = u.prepared; count = u.count; drawn = u.drawn; holds = u.holds }) → OnOk result (IsKeptBehind decided s u) → OnOk result (LeavesNode decided m (record { file = with_callbacks m.file k; vol = n }) s u)
volume_leaves {D} decided m n k s u (Ok outs) serves order draws store done = record {
  serves = volume_serves m n k s u serves order;
  store = store;
  done = done;
  draws = record { calls = draws.calls; owed = omega (arith, draws.breaks) };
}
volume_leaves {D} decided m n k s u (Err e) serves order draws store done = tt

-- what was decided, what a restart begins with, and the device calls, by other names
pub steps_as : {D T : Type 0} (w : Ghosts D) (a b : Option StoreRecord) (x y : Begun ServerState) (i j : ℕ) (old new : ServerNode) (s t : Store D) (result : Result T NodeFault) → a ≡ b → x ≡ y → i ≡ j → StepsBy w a x i old new s t result → StepsBy w b y j old new s t result
steps_as {D} {T} w a b x y i j old new s t result decided next calls steps =
    subst (λ (o : Option StoreRecord). StepsBy w o y j old new s t result) decided (subst (λ (z : Begun ServerState). StepsBy w a z j old new s t result) next (subst (λ (k : ℕ). StepsBy w a x k old new s t result) calls steps))

-- What both servers of a node keep with their store, behind a step of one of them.
use Rattle.std.specs.Prelude.{◌≡◌, ℕ, List, [], true}
use Rattle.std.proofs.Common.{refl, ap, sym, subst, ◌∙◌}
use Rattle.afs_num.specs.Nodes.{IsNode}
use Rattle.afs_num.specs.declared.messages.Received.{Received}
use Rattle.afs_num.specs.declared.types.Node.{Node}
use Rattle.spec_history.specs.declared.lines.Line.{Line}
use Rattle.spec_history.specs.declared.lines.Outs.{Outs}
use Rattle.spec_ideal.specs.Tables.{Table}
use Rattle.spec_records.specs.Durable.{Stored}
use Rattle.spec_rows.specs.ServerRow.{does, drops, refuses, repeats, saves, shows, tells_boot, Decision}
use Rattle.spec_rows.specs.States.{Held, ServerState}
use Rattle.spec_rows.specs.Steps.{Step}
use Rattle.spec_volrows.specs.FileRow.{file_decides, file_row}
use Rattle.spec_volrows.specs.VolLaws.{AreApart, IsApart}
use Rattle.spec_volrows.specs.VolRow.{holds_of}
use Rattle.spec_volrows.specs.VolStates.{NodeState}
use Rattle.spec_volrows.specs.VolSteps.{from_of, is_of_client}
use Rattle.spec_volrows.proofs.VolNodes.{nodes_stay_apart}
use Rattle.afs_callbacks.specs.States.{CallbackState}
use Rattle.afs_volstore.specs.Stores.{Store}
use Rattle.afs_server.specs.Handling.{holds_seen, server_seen, Makes, ServesOver}
use Rattle.afs_server.specs.Seen.{callbacks_of, Memory}
use Rattle.afs_volserv.specs.Handling.{StaysInOrder}
use Rattle.afs_volserv.specs.Seen.{ServesVolumes, StandsBeside, VolMemory}
use Rattle.afs_node.specs.Handling.{let_out}
use Rattle.afs_node.specs.Seen.{node_seen, SameNode, SameStored, ServesNode}
use Rattle.afs_node.specs.declared.node.ServerNode.{ServerNode}
use Rattle.afs_node.proofs.Sides.{is_files}
use Rattle.afs_node.proofs.Taken.{row_let_out}

-- ---- what nothing of it sees

-- which replies wait, and the room
pub vol_held : {D : Type 0} (m : VolMemory) (held : List Held) (room : ℕ) (s : Store D) → ServesVolumes m s → ServesVolumes (record m { held = held; room = room }) s
vol_held {D} m held room s v = record { node = v.node; boot = v.boot; kept = v.kept; calls = v.calls; asked = v.asked; apart = v.apart; flagged = v.flagged; holds = v.holds }

-- of the store its disk, the record that is prepared, the numbers that were drawn, and the room
abbrev pub SameKept : {D : Type 0} → Store D → Store D → Type 0
SameKept {D} s t = t ≡ record s { disk = t.disk; prepared = t.prepared; drawn = t.drawn; holds = t.holds }

pub vol_kept : {D : Type 0} (m : VolMemory) (s t : Store D) → ServesVolumes m s → SameKept s t → t.holds.table ≡ s.holds.table → ServesVolumes m t
vol_kept {D} m s t v is holds = subst (ServesVolumes m) (sym is) (record { node = v.node; boot = v.boot; kept = v.kept; calls = v.calls; asked = v.asked; apart = v.apart; flagged = v.flagged; holds = holds ∙ v.holds })

file_kept : {D : Type 0} (m : Memory) (s t : Store D) → ServesOver m s → SameKept s t → ServesOver m t
file_kept {D} m s t f is = subst (λ (u : Store D). ServesOver m u) (sym is) (record { node = f.node; boot = f.boot; kept = f.kept; promises = f.promises; owed = f.owed; calls = f.calls })

abbrev kept_of : {D : Type 0} → (s t : Store D) → SameStored s t → SameKept s t
kept_of {D} s t same = same.is ∙ ap (λ (n : ℕ). record s { disk = t.disk; prepared = t.prepared; drawn = n; holds = t.holds }) (sym (ap (λ (u : Store D). u.drawn) same.is))

pub same_serves : {D : Type 0} (m n : ServerNode) (s t : Store D) → ServesNode m s → SameNode m n → SameStored s t → ServesNode n t
same_serves {D} m n s t serves node store =
    subst (λ (x : ServerNode). ServesNode x t) (sym node) (record {
      file = file_kept m.file s t serves.file (kept_of s t store);
      volumes = vol_held m.vol m.vol.held n.vol.room t (vol_kept m.vol s t serves.volumes (kept_of s t store) store.holds);
    })

-- the store's, where its file server made a step that leaves what is on the disk as it is
pub late_serves : {D : Type 0} (m : ServerNode) (n : Memory) (s t : Store D) → ServesNode m s → ServesOver n t → SameKept s t → t.holds.table ≡ s.holds.table → ServesNode (record m { file = n }) t
late_serves {D} m n s t serves file is holds = record { file = file; volumes = vol_kept m.vol s t serves.volumes is holds }

-- ---- a step of its file server

boot_after : (me : Node) (s : ServerState) (clock place : ℕ) (d : Decision) (ls : List Line) → (does me s clock place d ls).state.lasting.boot ≡ s.lasting.boot
boot_after me s clock place drops ls = refl
boot_after me s clock place (tells_boot head) ls = refl
boot_after me s clock place (repeats reply) ls = refl
boot_after me s clock place (refuses head code) ls = refl
boot_after me s clock place (shows head r) ls = refl
boot_after me s clock place (saves head c) ls = refl

file_boot : (me : Node) (holds : Table ℕ) (s : ServerState) (clock place : ℕ) (r : Received) → (file_row me holds s clock place r).state.lasting.boot ≡ s.lasting.boot
unfolding file_row
file_boot me holds s clock place r = boot_after me s clock place (file_decides me holds s clock r) []

-- each transaction is on a volume still, for no file call takes one away
file_apart : (me : Node) (s : NodeState) (clock place : ℕ) (r : Received) → is_of_client (from_of r) ≡ true → IsApart s → AreApart (file_row me (holds_of s.vol.transactions) s.file clock place r).state.lasting.volumes s.vol.last_transaction s.vol.transactions
file_apart me s clock place r client apart =
    subst (λ (x : Step NodeState). IsApart x.state) (row_let_out me s clock place r ∙ ap let_out ((is_files me s clock r client).taken place)) (nodes_stay_apart.given me s clock place r apart)

pub file_serves : {D : Type 0} (m : ServerNode) (n : Memory) (s t : Store D) (clock place : ℕ) (r : Received) (before : List Line) (outs : Outs) → is_of_client (from_of r) ≡ true → ServesNode m s →
    Makes (file_row s.node (holds_seen s) (server_seen m.file s) clock place r) before n t outs → ServesOver n t → t ≡ record s { durable = t.durable; disk = t.disk; prepared = t.prepared; count = t.count; drawn = t.drawn } → ServesNode (record m { file = n }) t
file_serves {D} m n s t clock place r before outs client serves made file store =
    let v = serves.volumes in
    let me = s.node in
    let now = subst (λ (holds : Table ℕ). Makes (file_row me holds (server_seen m.file s) clock place r) before n t outs) v.holds made in
    let boot : t.durable.boot ≡ s.durable.boot = ap (λ (x : ServerState). x.lasting.boot) now.state ∙ file_boot me (holds_of m.vol.transactions) (server_seen m.file s) clock place r in
    record {
      file = file;
      volumes = record {
        node = subst IsNode (sym (ap (λ (u : Store D). u.node) store)) v.node;
        boot = v.boot ∙ sym boot;
        kept = file.kept;
        calls = v.calls;
        asked = v.asked;
        apart = subst (λ (volumes : Table Stored). AreApart volumes m.vol.last m.vol.transactions) (sym (ap (λ (x : ServerState). x.lasting.volumes) now.state)) (file_apart me (node_seen m s) clock place r client v.apart);
        flagged = v.flagged;
        holds = ap (λ (u : Store D). u.holds.table) store ∙ v.holds;
      };
    }

-- ---- a step of its volume server

-- the file server with these promises and breaks
abbrev pub with_callbacks : Memory → CallbackState → Memory
with_callbacks m k = record m { lists = k.lists; callees = k.callees; held = k.held }

pub volume_serves : {D : Type 0} (m : ServerNode) (n : VolMemory) (k : CallbackState) (s t : Store D) → ServesNode m s → StaysInOrder m.vol n k t → ServesNode (record { file = with_callbacks m.file k; vol = n }) t
volume_serves {D} m n k s t serves order = record {
  file = record {
    node = order.serves.node;
    boot = serves.file.boot ∙ (sym serves.volumes.boot ∙ (sym order.boot ∙ order.serves.boot));
    kept = order.serves.kept;
    promises = order.beside.promises;
    owed = order.beside.nodes.owed;
    calls = order.beside.nodes.calls;
  };
  volumes = order.serves;
}

-- what it needs of the file server beside it
pub stands_beside : {D : Type 0} (m : ServerNode) (s : Store D) → ServesNode m s → StandsBeside (callbacks_of m.file) s
stands_beside {D} m s serves = record { nodes = record { node = serves.file.node; owed = serves.file.owed; calls = serves.file.calls }; promises = serves.file.promises }

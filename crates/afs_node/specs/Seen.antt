-- A server node in memory, which is a file server and a volume server over one store; the state of its row that it stands for; and whose
-- messages are whose.
use Rattle.std.specs.Prelude.{◌≡◌, ◌||◌, ℕ, List, Bool, true, false, None, Result, Ok, Err, is_some}
use Rattle.afs_num.specs.declared.messages.Received.{Received}
use Rattle.afs_num.specs.declared.types.Head.{Head}
use Rattle.afs_num.specs.declared.types.Node.{Node}
use Rattle.afs_xdr.specs.declared.faults.XdrFault.{XdrFault}
use Rattle.spec_model.specs.Heads.{head_at}
use Rattle.spec_model.specs.Messages.{received_by}
use Rattle.spec_model.specs.Rpc.{first_of}
use Rattle.spec_rows.specs.ServerRow.{is_client}
use Rattle.afs_callees.specs.Called.{call_to}
use Rattle.spec_volrows.specs.VolStates.{NodeState}
use Rattle.afs_volstore.specs.Stores.{Store}
use Rattle.afs_server.specs.Handling.{calls_served, server_seen, ServesOver}
use Rattle.afs_volserv.specs.Handling.{vol_calls_served}
use Rattle.afs_volserv.specs.Seen.{vol_seen, ServesVolumes}
use Rattle.afs_node.specs.declared.node.ServerNode.{ServerNode}

abbrev pub node_seen : {D : Type 0} → ServerNode → Store D → NodeState
node_seen {D} m s = record { file = server_seen m.file s; vol = vol_seen m.vol }

-- each of its servers keeps with the store what it should
pub record ServesNode {D : Type 0} (m : ServerNode) (s : Store D) : Type 0 where
  pub file : ServesOver m.file s
  pub volumes : ServesVolumes m.vol s

-- it is the same, but for the room in which replies of its volume server wait
abbrev pub SameNode : ServerNode → ServerNode → Type 0
SameNode old new = new ≡ record old { vol = record old.vol { room = new.vol.room } }

-- the store is the same, but for its disk, a record that was prepared, and the room in which volumes are held
pub record SameStored {D : Type 0} (s t : Store D) : Type 0 where
  pub is : t ≡ record s { disk = t.disk; prepared = t.prepared; holds = t.holds }
  pub holds : t.holds.table ≡ s.holds.table

-- its device call failed, and it is closed until its disk is attached anew; the volumes that it holds are the same
pub record ClosesStored {D : Type 0} (s t : Store D) : Type 0 where
  pub is : t ≡ record s { disk = t.disk; prepared = None; closed = true; holds = t.holds }
  pub holds : t.holds.table ≡ s.holds.table

-- ---- whose message it is: a client's is the file server's, as its header tells; so are bytes that have none

abbrev pub is_from_client : Result Head XdrFault → Bool
is_from_client (Ok head) = is_client head.from
is_from_client (Err fault) = true

abbrev pub sent_by_client : List ℕ → Bool
sent_by_client bytes = is_from_client (first_of (head_at bytes))

-- what is found in it by the server whose it is
abbrev pub found_by : Bool → List ℕ → Received
found_by true bytes = received_by calls_served bytes
found_by false bytes = received_by vol_calls_served bytes

abbrev pub node_found : List ℕ → Received
node_found bytes = found_by (sent_by_client bytes) bytes

-- ---- the node's own calls: those of its file server, which by its row are to clients, and those of its volume server, which are to servers

abbrev pub file_waits : ServerNode → Node → Bool
file_waits m callee = is_some (call_to m.file.callees callee)

abbrev pub volumes_wait : ServerNode → Node → Bool
volumes_wait m callee = is_some (call_to m.vol.callees callee)

-- it waits for a reply of this node
abbrev pub node_waits : ServerNode → Node → Bool
node_waits m callee = file_waits m callee || volumes_wait m callee

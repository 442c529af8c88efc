-- A server node, of a file server and a volume server, as a host: its kind, and the inputs that such nodes alone have.
use Rattle.std.specs.Prelude.{ℕ, Bool}
use Rattle.afs_num.specs.declared.messages.Received.TheVariants.{Whole}
use Rattle.afs_num.specs.declared.types.Node.{Node}
use Rattle.spec_rows.specs.Hosts.{goes, Host, HostStep, NodeKind}
use Rattle.spec_rows.specs.ServerHosts.{can_start}
use Rattle.spec_rows.specs.States.{BackCall, ServerState}
use Rattle.spec_rows.specs.Steps.{Begun}
use Rattle.spec_volrows.specs.FileHosts.{file_begun_again}
use Rattle.spec_volrows.specs.VolStates.{NodeState, PieceCall}
use Rattle.spec_volrows.specs.VolSteps.{node_back_timeout_row, node_begun_after, node_device_calls, node_row, node_start_row, node_wake_row, piece_timeout_row}

abbrev pub NodeHost : Type 0
NodeHost = Host NodeState

-- its file server is in this state
abbrev pub with_file : NodeState → ServerState → NodeState
with_file s file = record s { file = file }

-- A restart begins with what its file server's begins with: what the disk has, and the lines of the step that was interrupted. What the
-- volume server had in memory is seen until the start, which makes it anew.
abbrev pub node_begun : NodeState → Begun ServerState → Begun NodeState
node_begun s begun = record { state = with_file s begun.state; before = begun.before }

abbrev pub file_begun : Begun NodeState → Begun ServerState
file_begun begun = record { state = begun.state.file; before = begun.before }

-- the server node `me`
abbrev pub node_kind : Node → NodeKind NodeState
node_kind me = record {
  me = me;
  device_calls = node_device_calls me;
  row = node_row me;
  begun_after = λ s clock m. node_begun s (node_begun_after me s clock (Whole m));
  begun_again = λ s. node_begun s (file_begun_again me s.file);
  start = λ clock count begun. node_start_row me clock count (file_begun begun);
  can_start = λ s. can_start s.file;
}

-- its unanswered call to this client is timed out
abbrev pub node_timed_out : Node → NodeHost → ℕ → Node → BackCall → HostStep NodeState
node_timed_out me h clock callee b = goes h.armed (node_back_timeout_row me h.state clock callee b)

-- its unanswered call to this other server is timed out
abbrev pub piece_timed_out : Node → NodeHost → ℕ → Node → PieceCall → HostStep NodeState
piece_timed_out me h clock callee c = goes h.armed (piece_timeout_row me h.state clock callee c)

-- time has passed
abbrev pub node_woken : Node → NodeHost → ℕ → HostStep NodeState
node_woken me h clock = goes h.armed (node_wake_row me h.state clock)

-- A server node whose callers are clients, as a host: its volume server rests, and it does what the host of its file server does.
use Rattle.std.specs.Prelude.{⊤, ◌≡◌, ℕ, List, Bool, true}
use Rattle.afs_num.specs.declared.messages.Message.{Message}
use Rattle.afs_num.specs.declared.messages.Received.{Received}
use Rattle.afs_num.specs.declared.types.Node.{Node}
use Rattle.spec_rows.specs.Hosts.{at_rest, begun_from, comes_up, given, in_boot, in_step, restarted, served, without_boot_record, Fall, HostStep, Luck, Outcome}
use Rattle.spec_rows.specs.ServerHosts.{can_start, timed_out, woken, ServerHost}
use Rattle.spec_rows.specs.ServerRow.{is_client}
use Rattle.spec_rows.specs.States.{BackCall, Seat, ServerState}
use Rattle.spec_rows.specs.Steps.{Begun}
use Rattle.spec_volrows.specs.FileHosts.{file_kind}
use Rattle.spec_volrows.specs.NodeHosts.{node_begun, node_kind, node_timed_out, node_woken, NodeHost}
use Rattle.spec_volrows.specs.VolStates.{fresh_vol, NodeState}
use Rattle.spec_volrows.specs.VolSteps.{from_of, is_of_client}

-- its volume server has these callers, and nothing else
abbrev pub resting_state : List Seat → ServerState → NodeState
resting_state callers s = record { file = s; vol = fresh_vol callers }

abbrev pub resting_host : List Seat → ServerHost → NodeHost
resting_host callers h = record { state = resting_state callers h.state; down = h.down; armed = h.armed }

abbrev pub resting_step : List Seat → HostStep ServerState → HostStep NodeState
resting_step callers s = record { host = resting_host callers s.host; lines = s.lines; sent = s.sent }

-- the message of the interrupted step was a client's
abbrev pub IsOfClient : Fall → Type 0
IsOfClient at_rest = ⊤
IsOfClient (in_step m clock b) = is_client m.head.from ≡ true
IsOfClient in_boot = ⊤

-- Once the node is up again, the volume server's callers are those to whom the disk keeps replies. Until then it has those that it had.
abbrev pub callers_after : List Seat → Begun ServerState → Outcome → List Seat
callers_after callers begun comes_up = begun.state.lasting.kept
callers_after callers begun o = callers

-- what the file server's restart begins with, and how it ends
abbrev pub begun_there : Node → ServerHost → Bool → Fall → Begun ServerState
begun_there me h after fall = begun_from (file_kind me) h.state after fall

abbrev pub ended_there : Node → ServerHost → Bool → Fall → Outcome → Outcome
ended_there me h after fall outcome = without_boot_record (can_start (begun_there me h after fall).state) outcome

-- So it is with each message of a client, at each timeout, as time passes, and at each restart.
pub record RestingHostsAreFiles : Type 0 where
  pub given_found : (me : Node) (callers : List Seat) (h : ServerHost) (clock place : ℕ) (found : Received) → is_of_client (from_of found) ≡ true →
      given (node_kind me) (resting_host callers h) clock place found ≡ resting_step callers (given (file_kind me) h clock place found)
  pub served_it : (me : Node) (callers : List Seat) (h : ServerHost) (clock place : ℕ) (luck : Luck) (m : Message) → is_client m.head.from ≡ true →
      served (node_kind me) (resting_host callers h) clock place luck m ≡ resting_step callers (served (file_kind me) h clock place luck m)
  pub timed : (me : Node) (callers : List Seat) (h : ServerHost) (clock : ℕ) (n : Node) (b : BackCall) →
      node_timed_out me (resting_host callers h) clock n b ≡ resting_step callers (timed_out me h clock n b)
  pub passed : (me : Node) (callers : List Seat) (h : ServerHost) (clock : ℕ) → node_woken me (resting_host callers h) clock ≡ resting_step callers (woken me h clock)
  pub begins : (me : Node) (callers : List Seat) (s : ServerState) (after : Bool) (fall : Fall) → IsOfClient fall →
      begun_from (node_kind me) (resting_state callers s) after fall ≡ node_begun (resting_state callers s) (begun_from (file_kind me) s after fall)
  pub starts_again : (me : Node) (callers : List Seat) (h : ServerHost) (clock count : ℕ) (after : Bool) (outcome : Outcome) (fall : Fall) → IsOfClient fall →
      restarted (node_kind me) (resting_host callers h) clock count after outcome fall
      ≡ resting_step (callers_after callers (begun_there me h after fall) (ended_there me h after fall outcome)) (restarted (file_kind me) h clock count after outcome fall)

-- The cell whose servers are nodes of two halves, with clients and administrators; what it is given; and the runs of a script in it.
use Rattle.std.specs.Prelude.{◌≡◌, ℕ, zero, suc, ◌+◌, List, [], ◌∷◌, ◌++◌, Bool, true, false, cond, ◌||◌, not, nat_lt, Option, Some, None}
use Rattle.afs_num.specs.declared.histories.Actor.TheVariants as actors
use Rattle.afs_num.specs.declared.messages.Message.{Message}
use Rattle.afs_num.specs.declared.messages.Received.TheVariants.{Whole}
use Rattle.afs_num.specs.declared.types.Node.{Node}
use Rattle.afs_num.specs.declared.types.Node.TheVariants.{Loc, Server, Client, Admin}
use Rattle.spec_history.specs.declared.acts.Act.{Act}
use Rattle.spec_history.specs.declared.lines.Line.{Line}
use Rattle.spec_history.specs.declared.lines.Line.TheVariants as lines
use Rattle.spec_history.specs.declared.scripts.AdminAct.{AdminAct}
use Rattle.spec_history.specs.declared.scripts.Script.{Script}
use Rattle.spec_ideal.specs.Tables.{get, set, Table}
use Rattle.spec_ideal.specs.Volumes.{Volume}
use Rattle.spec_records.specs.Durable.{Stored}
use Rattle.spec_adminrows.specs.AdminRow.{admin_begin_row, admin_reborn, admin_row, admin_timeout_row, new_admin, AdminState}
use Rattle.spec_adminrows.specs.declared.turns.Running.{Running}
use Rattle.spec_rows.specs.Callbacks.{put}
use Rattle.spec_copyrows.specs.CopyRow.{copies_reborn, copy_begin_row, copy_row, copy_seek_row, copy_timeout_row}
use Rattle.spec_copyrows.specs.Sites.{new_copies, CopyState}
use Rattle.spec_rows.specs.ClientRow.{act_of}
use Rattle.spec_rows.specs.Going.{Going, Seek}
use Rattle.spec_rows.specs.Hosts.{crashed, restarted, served, set_to_fail, set_to_stop, unarmed, Fall, HostStep, Luck, Outcome}
use Rattle.spec_rows.specs.LocRow.{LocState}
use Rattle.spec_rows.specs.LocSteps.{loc_kind, LocHost}
use Rattle.spec_rows.specs.Runs.{begins, client_starts, client_stops, first_client, first_loc, first_server, gives, has_client, locations, message_at, nothing, server_waits, sets_fail, sets_stop, starts_again, stops, ticks, first_volumes_at, waits, wakes, Entry, Input}
use Rattle.spec_rows.specs.States.{BackCall, Location}
use Rattle.spec_rows.specs.Steps.{Step}
use Rattle.spec_volrows.specs.NodeHosts.{node_kind, node_timed_out, node_woken, piece_timed_out, NodeHost}
use Rattle.spec_volrows.specs.VolStates.{fresh_vol, NodeState, PieceCall}

-- The location database; the servers by their numbers, of which there are so many; the clients by theirs, of which there are so many, and
-- which of them are down; the locations that each client is handed where it begins; the administrators in the same way; all messages ever
-- sent; and the clock.
pub record NodeCell : Type 0 where
  pub loc : LocHost
  pub host_count : ℕ
  pub hosts : ℕ → NodeHost
  pub count : ℕ
  pub clients : ℕ → CopyState
  pub away : ℕ → Bool
  pub handed : List Location
  pub admin_count : ℕ
  pub admins : ℕ → AdminState
  pub gone : ℕ → Bool
  pub sent : List Message
  pub clock : ℕ

-- What one node is given: as in a cell without administrators; or an administrator is given an act to begin, its unanswered call is timed
-- out, it stops, or it begins again. Administrators are named by their numbers; of one that the cell doesn't have nothing comes.
pub data CellInput : Type 0 where
  usual : Input → CellInput
  admin_begins : ℕ → AdminAct → CellInput
  admin_waits : ℕ → CellInput
  admin_stops : ℕ → CellInput
  admin_starts : ℕ → CellInput

pub record NodeMoved : Type 0 where
  pub entry : Entry
  pub cell : NodeCell

-- nothing comes of it
abbrev pub voided : NodeCell → NodeMoved
voided c = record { entry = record { actor = actors.Nobody; lines = lines.Void ∷ []; sent = []; volumes = [] }; cell = c }

-- ---- servers

-- the cell has a server of this number
abbrev pub has_host : NodeCell → ℕ → Bool
has_host c zero = false
has_host c (suc i) = nat_lt i c.host_count

abbrev pub if_host : NodeCell → ℕ → NodeMoved → NodeMoved
if_host c i m = cond (has_host c i) m (voided c)

-- the volumes that these lines tell to be made, as the server has them
abbrev pub with_made : ℕ → Option Stored → Table Volume → Table Volume
with_made id None vs = vs
with_made id (Some s) vs = set id s.volume vs

abbrev pub volumes_made : List Line → Table Stored → Table Volume
volumes_made [] stored = []
volumes_made (lines.Made server id count ∷ ls) stored = with_made id (get id stored) (volumes_made ls stored)
volumes_made (l ∷ ls) stored = volumes_made ls stored

-- the cell after this step of its server of this number, and the entry of that, which brings the volumes that were made
abbrev pub server_stepped : NodeCell → ℕ → HostStep NodeState → NodeMoved
server_stepped c i s = record {
  entry = record { actor = actors.Node (Server i); lines = s.lines; sent = s.sent; volumes = volumes_made s.lines s.host.state.file.lasting.volumes };
  cell = record c { hosts = put i s.host c.hosts; sent = c.sent ++ s.sent };
}

-- while it is up
abbrev pub server_up : NodeCell → ℕ → HostStep NodeState → Option Fall → NodeMoved
server_up c i s None = server_stepped c i s
server_up c i s (Some fall) = voided c

-- while it is down
abbrev pub server_restarted : NodeCell → ℕ → Bool → Outcome → Option Fall → NodeMoved
server_restarted c i after o None = voided c
server_restarted c i after o (Some fall) = server_stepped c i (restarted (node_kind (Server i)) (c.hosts i) c.clock c.count after o fall)

-- a call of its volume server is timed out, which is to another server
abbrev pub piece_timed : NodeCell → ℕ → Node → Option PieceCall → NodeMoved
piece_timed c i n None = voided c
piece_timed c i n (Some p) = server_stepped c i (piece_timed_out (Server i) (c.hosts i) c.clock n p)

-- or one of its file server, which is to a client
abbrev pub call_timed : NodeCell → ℕ → Node → Option BackCall → NodeMoved
call_timed c i n None = piece_timed c i n ((c.hosts i).state.vol.calls n)
call_timed c i n (Some b) = server_stepped c i (node_timed_out (Server i) (c.hosts i) c.clock n b)

abbrev pub server_timed : NodeCell → ℕ → Node → Option Fall → NodeMoved
server_timed c i n None = call_timed c i n ((c.hosts i).state.file.backs.calls n)
server_timed c i n (Some fall) = voided c

-- ---- the location database

-- the cell after this step of the location database, and the entry of that
abbrev pub loc_stepped : NodeCell → HostStep LocState → NodeMoved
loc_stepped c s = record {
  entry = record { actor = actors.Node Loc; lines = s.lines; sent = s.sent; volumes = [] };
  cell = record c { loc = s.host; sent = c.sent ++ s.sent };
}

-- while it is up
abbrev pub loc_up : NodeCell → HostStep LocState → Option Fall → NodeMoved
loc_up c s None = loc_stepped c s
loc_up c s (Some fall) = voided c

-- while it is down
abbrev pub loc_restarted : NodeCell → Bool → Outcome → Option Fall → NodeMoved
loc_restarted c after o None = voided c
loc_restarted c after o (Some fall) = loc_stepped c (restarted loc_kind c.loc c.clock c.count after o fall)

-- ---- clients

-- the cell after this step of its client of this number, and the entry of that
abbrev pub client_moves : NodeCell → ℕ → Step CopyState → NodeMoved
client_moves c n s = record {
  entry = record { actor = actors.Node (Client n); lines = s.lines; sent = s.sent; volumes = [] };
  cell = record c { clients = put n s.state c.clients; sent = c.sent ++ s.sent };
}

-- no client of this number is up: the cell has none, or it stopped
abbrev pub is_away : NodeCell → ℕ → Bool
is_away c n = not (has_client c.count n) || c.away n

-- an act begins where none is running
abbrev pub begun_by : NodeCell → ℕ → Act → Option Going → NodeMoved
begun_by c n act None = client_moves c n (copy_begin_row (Client n) (c.clients n) c.clock act)
begun_by c n act (Some other) = voided c

abbrev pub sought_for : NodeCell → ℕ → Option Seek → NodeMoved
sought_for c n None = voided c
sought_for c n (Some k) = client_moves c n (copy_seek_row (Client n) (c.clients n) k)

abbrev pub waited_by : NodeCell → ℕ → Option Going → NodeMoved
waited_by c n None = sought_for c n (c.clients n).client.seeking
waited_by c n (Some act) = client_moves c n (copy_timeout_row (Client n) (c.clients n) act)

-- a client's step after which it is down, or up
abbrev pub client_turned : ℕ → Bool → NodeMoved → NodeMoved
client_turned n away m = record { entry = m.entry; cell = record m.cell { away = put n away m.cell.away } }

abbrev pub client_falls : NodeCell → ℕ → NodeMoved
client_falls c n = client_turned n true (client_moves c n (record { state = copies_reborn c.handed (c.clients n); lines = lines.Crash (Client n) ∷ []; sent = [] }))

abbrev pub client_rises : NodeCell → ℕ → NodeMoved
client_rises c n = client_turned n false (client_moves c n (record { state = c.clients n; lines = lines.Restart (Client n) (c.clients n).client.epoch ∷ []; sent = [] }))

-- ---- administrators

-- the cell after this step of its administrator of this number, and the entry of that
abbrev pub admin_moves : NodeCell → ℕ → Step AdminState → NodeMoved
admin_moves c n s = record {
  entry = record { actor = actors.Node (Admin n); lines = s.lines; sent = s.sent; volumes = [] };
  cell = record c { admins = put n s.state c.admins; sent = c.sent ++ s.sent };
}

-- no administrator of this number is up: the cell has none, or it stopped
abbrev pub is_gone : NodeCell → ℕ → Bool
is_gone c n = not (has_client c.admin_count n) || c.gone n

-- an act begins where none is running
abbrev pub admin_begun : NodeCell → ℕ → AdminAct → Option Running → NodeMoved
admin_begun c n act None = admin_moves c n (admin_begin_row (Admin n) (c.admins n) act)
admin_begun c n act (Some other) = voided c

abbrev pub admin_waited : NodeCell → ℕ → Option Running → NodeMoved
admin_waited c n None = voided c
admin_waited c n (Some act) = admin_moves c n (admin_timeout_row (Admin n) (c.admins n) act)

-- an administrator's step after which it is down, or up
abbrev pub admin_turned : ℕ → Bool → NodeMoved → NodeMoved
admin_turned n gone m = record { entry = m.entry; cell = record m.cell { gone = put n gone m.cell.gone } }

abbrev pub admin_falls : NodeCell → ℕ → NodeMoved
admin_falls c n = admin_turned n true (admin_moves c n (record { state = admin_reborn (c.admins n); lines = lines.Crash (Admin n) ∷ []; sent = [] }))

abbrev pub admin_rises : NodeCell → ℕ → NodeMoved
admin_rises c n = admin_turned n false (admin_moves c n (record { state = c.admins n; lines = lines.Restart (Admin n) (c.admins n).epoch ∷ []; sent = [] }))

-- ---- a message is given to the node that its header names

abbrev pub given_to : NodeCell → ℕ → Luck → Message → Node → NodeMoved
given_to c place luck m (Server i) = if_host c i (server_up c i (served (node_kind (Server i)) (c.hosts i) c.clock place luck m) (c.hosts i).down)
given_to c place luck m (Client n) = cond (is_away c n) (voided c) (client_moves c n (copy_row (Client n) (c.clients n) c.clock place (Whole m)))
given_to c place luck m Loc = loc_up c (served loc_kind c.loc c.clock place luck m) c.loc.down
given_to c place luck m (Admin n) = cond (is_gone c n) (voided c) (admin_moves c n (admin_row (Admin n) (c.admins n) place (Whole m)))

abbrev pub given_at : NodeCell → ℕ → Luck → Option Message → NodeMoved
given_at c place luck None = voided c
given_at c place luck (Some m) = given_to c place luck m m.head.to

-- ---- what an input makes of the cell, and its entry

abbrev pub ticked : NodeCell → ℕ → NodeMoved
ticked c n = record { entry = record { actor = actors.Clock; lines = lines.Tick n ∷ []; sent = []; volumes = [] }; cell = record c { clock = c.clock + n } }

unfoldable pub usually_moved : NodeCell → Input → NodeMoved
usually_moved c (begins n act) = cond (is_away c n) (voided c) (begun_by c n act (act_of (c.clients n).client))
usually_moved c (gives place luck) = given_at c place luck (message_at c.sent place)
usually_moved c (waits n) = cond (is_away c n) (voided c) (waited_by c n (c.clients n).client.running)
usually_moved c (ticks zero) = voided c
usually_moved c (ticks (suc n)) = ticked c (suc n)
usually_moved c (client_stops n) = cond (is_away c n) (voided c) (client_falls c n)
usually_moved c (client_starts n) = cond (c.away n) (client_rises c n) (voided c)
usually_moved c (stops zero) = loc_up c (crashed loc_kind c.loc) c.loc.down
usually_moved c (stops (suc i)) = if_host c (suc i) (server_up c (suc i) (crashed (node_kind (Server (suc i))) (c.hosts (suc i))) (c.hosts (suc i)).down)
usually_moved c (starts_again zero after o) = loc_restarted c after o c.loc.down
usually_moved c (starts_again (suc i) after o) = if_host c (suc i) (server_restarted c (suc i) after o (c.hosts (suc i)).down)
usually_moved c (sets_stop zero calls pick) = loc_up c (set_to_stop loc_kind c.loc calls pick) c.loc.down
usually_moved c (sets_stop (suc i) calls pick) = if_host c (suc i) (server_up c (suc i) (set_to_stop (node_kind (Server (suc i))) (c.hosts (suc i)) calls pick) (c.hosts (suc i)).down)
usually_moved c (sets_fail zero call) = loc_up c (set_to_fail loc_kind c.loc call) c.loc.down
usually_moved c (sets_fail (suc i) call) = if_host c (suc i) (server_up c (suc i) (set_to_fail (node_kind (Server (suc i))) (c.hosts (suc i)) call) (c.hosts (suc i)).down)
usually_moved c (server_waits i n) = if_host c i (server_timed c i n (c.hosts i).down)
usually_moved c (wakes i) = if_host c i (server_up c i (node_woken (Server i) (c.hosts i) c.clock) (c.hosts i).down)
usually_moved c nothing = voided c

abbrev pub node_moved : NodeCell → CellInput → NodeMoved
node_moved c (usual x) = usually_moved c x
node_moved c (admin_begins n act) = cond (is_gone c n) (voided c) (admin_begun c n act (c.admins n).running)
node_moved c (admin_waits n) = cond (is_gone c n) (voided c) (admin_waited c n (c.admins n).running)
node_moved c (admin_stops n) = cond (is_gone c n) (voided c) (admin_falls c n)
node_moved c (admin_starts n) = cond (c.gone n) (admin_rises c n) (voided c)

-- these inputs lead from the first cell to the second by these entries
abbrev pub NodeLeads : NodeCell → List CellInput → List Entry → NodeCell → Type 0
NodeLeads c [] [] end = end ≡ c
NodeLeads c (x ∷ xs) (e ∷ es) end = (e ≡ (node_moved c x).entry) × NodeLeads (node_moved c x).cell xs es end
NodeLeads c [] (e ∷ es) end = ⊥
NodeLeads c (x ∷ xs) [] end = ⊥

-- an entry but for the volumes that it brings, which no text tells
abbrev pub bare_entry : Entry → Entry
bare_entry e = record { actor = e.actor; lines = e.lines; sent = e.sent; volumes = [] }

-- ---- the set-up of a script

abbrev pub first_node : Script → ℕ → NodeHost
first_node s i = record { state = record { file = first_server s.capacity (first_volumes_at i s.volumes); vol = fresh_vol [] }; down = None; armed = unarmed }

abbrev pub node_start : Script → NodeCell
node_start s = record {
  loc = record { state = first_loc s.capacity s.volumes; down = None; armed = unarmed };
  host_count = s.servers;
  hosts = first_node s;
  count = s.clients;
  clients = λ n. new_copies (first_client s n);
  away = λ n. false;
  handed = locations s;
  admin_count = s.admins;
  admins = λ n. new_admin s.servers 1;
  gone = λ n. false;
  sent = [];
  clock = 0;
}

-- the history is a run of the script, which ends in this cell
pub record NodeRunsTo (history : List Entry) (script : Script) (end : NodeCell) : Type 0 where
  pub inputs : List CellInput
  pub leads : NodeLeads (node_start script) inputs history end

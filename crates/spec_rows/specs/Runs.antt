use Rattle.afs_num.specs.Places.{at_place}
use Rattle.spec_ideal.specs.SetUp.{first_volume}
use Rattle.spec_ideal.specs.Tables.{Table, get, set}
use Rattle.spec_ideal.specs.Volumes.{Volume}
use Rattle.spec_history.specs.declared.acts.Act.{Act}
use Rattle.spec_rows.specs.Callbacks.{put, first_backs}
use Rattle.spec_rows.specs.ClientRow.{act_of, begin_row, guest_row, new_client, reborn, seek_timeout_row, timeout_row}
use Rattle.spec_rows.specs.Going.{ClientState, Going, Seek}
use Rattle.spec_rows.specs.LocRow.{LocState}
use Rattle.spec_rows.specs.LocSteps.{loc_kind, LocHost}
use Rattle.spec_records.specs.LocDurable.{first_id, first_stamp, listed_line, loc_first_record, loc_place_length}
use Rattle.spec_records.specs.LocRecords.{Listed}
use Rattle.spec_history.specs.declared.lines.Line.{Line}
pub use Rattle.spec_rows.specs.Hosts.{at_rest, comes_up, fail_blow, fails_early, fails_midway, gives_out, in_boot, in_step, is_full, leaves_after, lowered, own_blow, without_boot_record, sooner, steady, stop_blow, struck, unarmed, within, Armed, Blow, Fall, Luck, MayBegin, MayFind, Outcome}
pub use Rattle.spec_rows.specs.ServerHosts.{begun_by_disk, ServerHost}
use Rattle.spec_rows.specs.Hosts.{crashed, ends, restarted, served, served_by, set_to_fail, set_to_stop, HostStep}
use Rattle.spec_rows.specs.ServerHosts.{server_kind, timed_out, woken}
use Rattle.spec_rows.specs.States.{Location, ServerState, BackCall, Lasting}
use Rattle.spec_rows.specs.Steps.{Begun, Step}
use Rattle.std.specs.Prelude.{is_some, ◌≡◌, ℕ, zero, suc, ◌+◌, List, [], ◌∷◌, ◌++◌, Bool, true, false, cond, not, ◌||◌, nat_eq, nat_lt, codes, Option, Some, None, if◌then◌else◌, length}
use Rattle.afs_num.specs.declared.types.Node.{Node}
use Rattle.afs_num.specs.declared.types.Node.TheVariants.{Loc, Server, Client, Admin}
use Rattle.afs_num.specs.declared.messages.Message.{Message}
use Rattle.afs_num.specs.declared.messages.Received.TheVariants.{Whole}
use Rattle.spec_history.specs.declared.scripts.Script.{Script}
use Rattle.spec_history.specs.declared.scripts.UserLine.{UserLine}
use Rattle.spec_history.specs.declared.scripts.VolumeLine.{VolumeLine}
use Rattle.afs_num.specs.declared.histories.Actor.{Actor}
use Rattle.spec_records.specs.Changes.{at_set_up, record_of_volumes}
use Rattle.spec_records.specs.Durable.{Stored, place_length}
use Rattle.spec_records.specs.Entries.{entry_of_line}
use Rattle.spec_history.specs.declared.lines.Line.TheVariants as lines
use Rattle.afs_num.specs.declared.histories.Actor.TheVariants as actors

-- The cell, what it is given, and the runs of a script. A run knows no schedule.

-- one step of a run: whose it is, its lines, the messages that it sent, and the volumes that it
-- brought whole: the set-up all, later steps those of their `made` lines
pub record Entry : Type 0 where
  pub actor : Actor
  pub lines : List Line
  pub sent : List Message
  pub volumes : Table Volume

-- The location database; the servers by their numbers, of which there are so many; as many clients, by theirs, and which of them are
-- down; the locations that each client is handed where it begins; all messages ever sent; and the clock.
pub record Cell : Type 0 where
  pub loc : LocHost
  pub host_count : ℕ
  pub hosts : ℕ → ServerHost
  pub count : ℕ
  pub clients : ℕ → ClientState
  pub away : ℕ → Bool
  pub handed : List Location
  pub sent : List Message
  pub clock : ℕ

-- what one node is given: a client an act to begin, or a node the message of a place; a client's call is timed out; the
-- clock rises; a client or a server stops, or begins again, the server before or after the interrupted step; a server's
-- disk is set; a server's call to a node is timed out; time has passed at a server; or nothing happens. Clients and servers are named by
-- their numbers; of one that the cell doesn't have nothing comes, nor of no ticks. Where a node with a disk stops, begins again, or its
-- disk is set, number 0 is the location database
pub data Input : Type 0 where
  begins : ℕ → Act → Input
  gives : ℕ → Luck → Input
  waits : ℕ → Input
  ticks : ℕ → Input
  client_stops : ℕ → Input
  client_starts : ℕ → Input
  stops : ℕ → Input
  starts_again : ℕ → Bool → Outcome → Input
  sets_stop : ℕ → ℕ → ℕ → Input
  sets_fail : ℕ → ℕ → Input
  server_waits : ℕ → Node → Input
  wakes : ℕ → Input
  nothing : Input

pub record Moved : Type 0 where
  pub entry : Entry
  pub cell : Cell

abbrev pub voided : Cell → Moved
voided c = record { entry = record { actor = actors.Nobody; lines = lines.Void ∷ []; sent = []; volumes = [] }; cell = c }

abbrev pub client_moves : Cell → ℕ → Step ClientState → Moved
client_moves c n s = record {
  entry = record { actor = actors.Node (Client n); lines = s.lines; sent = s.sent; volumes = [] };
  cell = record c { clients = put n s.state c.clients; sent = c.sent ++ s.sent };
}

-- the cell has a server of this number
abbrev pub has_host : Cell → ℕ → Bool
has_host c zero = false
has_host c (suc i) = nat_lt i c.host_count

abbrev pub if_host : Cell → ℕ → Moved → Moved
if_host c i m = cond (has_host c i) m (voided c)

-- the cell after this step of its server of this number, and the entry of that
abbrev pub server_stepped : Cell → ℕ → HostStep ServerState → Moved
server_stepped c i s = record {
  entry = record { actor = actors.Node (Server i); lines = s.lines; sent = s.sent; volumes = [] };
  cell = record c { hosts = put i s.host c.hosts; sent = c.sent ++ s.sent };
}

-- the message of a place; the first message sent has place 1
abbrev pub message_at : List Message → ℕ → Option Message
message_at ms place = at_place ms place

-- a step is done, or its disk ends it
abbrev pub server_served : Cell → ℕ → ℕ → Message → Option Blow → Moved
server_served c i place m b = server_stepped c i (served_by (server_kind (Server i)) (c.hosts i) c.clock place m b)

-- a server that is down gets no message
abbrev pub server_given : Cell → ℕ → ℕ → Luck → Message → Option Fall → Moved
server_given c i place luck m None = server_stepped c i (served (server_kind (Server i)) (c.hosts i) c.clock place luck m)
server_given c i place luck m (Some fall) = voided c

-- ---- the location database

-- the cell after this step of the location database, and the entry of that
abbrev pub loc_stepped : Cell → HostStep LocState → Moved
loc_stepped c s = record {
  entry = record { actor = actors.Node Loc; lines = s.lines; sent = s.sent; volumes = [] };
  cell = record c { loc = s.host; sent = c.sent ++ s.sent };
}

-- while it is down it gets no message, doesn't stop, and its disk isn't set
abbrev pub loc_up : Cell → HostStep LocState → Option Fall → Moved
loc_up c s None = loc_stepped c s
loc_up c s (Some fall) = voided c

-- while it is up it doesn't begin again
abbrev pub loc_restarted : Cell → Bool → Outcome → Option Fall → Moved
loc_restarted c after o None = voided c
loc_restarted c after o (Some fall) = loc_stepped c (restarted loc_kind c.loc c.clock c.count after o fall)

-- a cell of so many clients has one of this number
abbrev pub has_client : ℕ → ℕ → Bool
has_client count zero = false
has_client count (suc j) = nat_lt j count

-- no client of this number is up: the cell has none, or it stopped
abbrev pub is_away : Cell → ℕ → Bool
is_away c n = not (has_client c.count n) || c.away n

-- a message is given to the node that its header names
abbrev pub given_to : Cell → ℕ → Luck → Message → Node → Moved
given_to c place luck m (Server i) = if_host c i (server_given c i place luck m (c.hosts i).down)
given_to c place luck m (Client n) = cond (is_away c n) (voided c) (client_moves c n (guest_row (Client n) (c.clients n) c.clock place (Whole m)))
given_to c place luck m Loc = loc_up c (served loc_kind c.loc c.clock place luck m) c.loc.down
given_to c place luck m (Admin n) = voided c

abbrev pub given_at : Cell → ℕ → Luck → Option Message → Moved
given_at c place luck None = voided c
given_at c place luck (Some m) = given_to c place luck m m.head.to

-- an act begins where none is running
abbrev pub begun_by : Cell → ℕ → Act → Option Going → Moved
begun_by c n act None = client_moves c n (begin_row (Client n) (c.clients n) c.clock act)
begun_by c n act (Some other) = voided c

abbrev pub sought_for : Cell → ℕ → Option Seek → Moved
sought_for c n None = voided c
sought_for c n (Some k) = client_moves c n (seek_timeout_row (Client n) (c.clients n) k)

abbrev pub waited_by : Cell → ℕ → Option Going → Moved
waited_by c n None = sought_for c n (c.clients n).seeking
waited_by c n (Some act) = client_moves c n (timeout_row (Client n) (c.clients n) act)

abbrev pub ticked : Cell → ℕ → Moved
ticked c n = record { entry = record { actor = actors.Clock; lines = lines.Tick n ∷ []; sent = []; volumes = [] }; cell = record c { clock = c.clock + n } }

-- a client's step after which it is down, or up
abbrev pub client_turned : ℕ → Bool → Moved → Moved
client_turned n away m = record { entry = m.entry; cell = record m.cell { away = put n away m.cell.away } }

abbrev pub client_falls : Cell → ℕ → Moved
client_falls c n = client_turned n true (client_moves c n (record { state = reborn c.handed (c.clients n); lines = lines.Crash (Client n) ∷ []; sent = [] }))

abbrev pub client_rises : Cell → ℕ → Moved
client_rises c n = client_turned n false (client_moves c n (record { state = c.clients n; lines = lines.Restart (Client n) (c.clients n).epoch ∷ []; sent = [] }))

abbrev pub server_stopped : Cell → ℕ → Option Fall → Moved
server_stopped c i None = server_stepped c i (crashed (server_kind (Server i)) (c.hosts i))
server_stopped c i (Some fall) = voided c

-- its restart begins with this, and ends so
abbrev pub server_ends : Cell → ℕ → Begun ServerState → Fall → Outcome → Moved
server_ends c i f fall o = server_stepped c i (ends (server_kind (Server i)) (c.hosts i) c.clock c.count f fall o)

-- a server that is up doesn't begin again
abbrev pub server_restarted : Cell → ℕ → Bool → Outcome → Option Fall → Moved
server_restarted c i after o None = voided c
server_restarted c i after o (Some fall) = server_stepped c i (restarted (server_kind (Server i)) (c.hosts i) c.clock c.count after o fall)

-- its disk is set
abbrev pub server_armed : Cell → ℕ → HostStep ServerState → Option Fall → Moved
server_armed c i s None = server_stepped c i s
server_armed c i s (Some fall) = voided c

-- the server's call to a node is timed out
abbrev pub back_timed : Cell → ℕ → Node → Option BackCall → Moved
back_timed c i n None = voided c
back_timed c i n (Some b) = server_stepped c i (timed_out (Server i) (c.hosts i) c.clock n b)

abbrev pub server_timed : Cell → ℕ → Node → Option Fall → Moved
server_timed c i n None = back_timed c i n ((c.hosts i).state.backs.calls n)
server_timed c i n (Some fall) = voided c

-- time has passed at the server
abbrev pub server_wakes : Cell → ℕ → Option Fall → Moved
server_wakes c i None = server_stepped c i (woken (Server i) (c.hosts i) c.clock)
server_wakes c i (Some fall) = voided c

unfoldable pub moved : Cell → Input → Moved
moved c (begins n act) = cond (is_away c n) (voided c) (begun_by c n act (act_of (c.clients n)))
moved c (gives place luck) = given_at c place luck (message_at c.sent place)
moved c (waits n) = cond (is_away c n) (voided c) (waited_by c n (c.clients n).running)
moved c (ticks zero) = voided c
moved c (ticks (suc n)) = ticked c (suc n)
moved c (client_stops n) = cond (is_away c n) (voided c) (client_falls c n)
moved c (client_starts n) = cond (c.away n) (client_rises c n) (voided c)
moved c (stops zero) = loc_up c (crashed loc_kind c.loc) c.loc.down
moved c (stops (suc i)) = if_host c (suc i) (server_stopped c (suc i) (c.hosts (suc i)).down)
moved c (starts_again zero after o) = loc_restarted c after o c.loc.down
moved c (starts_again (suc i) after o) = if_host c (suc i) (server_restarted c (suc i) after o (c.hosts (suc i)).down)
moved c (sets_stop zero calls pick) = loc_up c (set_to_stop loc_kind c.loc calls pick) c.loc.down
moved c (sets_stop (suc i) calls pick) = if_host c (suc i) (server_armed c (suc i) (set_to_stop (server_kind (Server (suc i))) (c.hosts (suc i)) calls pick) (c.hosts (suc i)).down)
moved c (sets_fail zero call) = loc_up c (set_to_fail loc_kind c.loc call) c.loc.down
moved c (sets_fail (suc i) call) = if_host c (suc i) (server_armed c (suc i) (set_to_fail (server_kind (Server (suc i))) (c.hosts (suc i)) call) (c.hosts (suc i)).down)
moved c (server_waits i n) = if_host c i (server_timed c i n (c.hosts i).down)
moved c (wakes i) = if_host c i (server_wakes c i (c.hosts i).down)
moved c nothing = voided c

-- these inputs lead from the first cell to the second by these entries
abbrev pub Leads : Cell → List Input → List Entry → Cell → Type 0
Leads c [] [] end = end ≡ c
Leads c (x ∷ xs) (e ∷ es) end = (e ≡ (moved c x).entry) × Leads (moved c x).cell xs es end
Leads c [] (e ∷ es) end = ⊥
Leads c (x ∷ xs) [] end = ⊥

-- ---- the set-up of a script

abbrev pub unless_there : Bool → ℕ → Volume → Table Volume → Table Volume
unless_there true id v vs = vs
unless_there false id v vs = set id v vs

abbrev pub first_volumes : List VolumeLine → Table Volume
first_volumes [] = []
first_volumes (v ∷ vs) = unless_there (is_some (get v.id (first_volumes vs))) v.id (first_volume v) (first_volumes vs)

-- a later line has this volume's number: of the lines with one number the last counts, at the servers and at the clients
abbrev pub counts_later : ℕ → List VolumeLine → Bool
counts_later id vs = is_some (get id (first_volumes vs))

-- those at one server
abbrev pub placed_at : Bool → Bool → ℕ → Volume → Table Volume → Table Volume
placed_at true here id v vs = vs
placed_at false true id v vs = set id v vs
placed_at false false id v vs = vs

abbrev pub first_volumes_at : ℕ → List VolumeLine → Table Volume
first_volumes_at server [] = []
first_volumes_at server (v ∷ vs) = placed_at (counts_later v.id vs) (nat_eq v.server server) v.id (first_volume v) (first_volumes_at server vs)

-- with what stands beside them
abbrev pub first_stored : Table Volume → Table Stored
first_stored [] = []
first_stored (p ∷ ps) = (p.0, at_set_up p.1) ∷ first_stored ps

-- on a disk of this capacity
abbrev pub first_lasting : ℕ → Table Stored → Lasting
first_lasting capacity volumes = record {
  boot = 1;
  volumes = volumes;
  stamps = [];
  forwardings = [];
  kept = [];
  journal = 1 + place_length (record_of_volumes volumes);
  capacity = capacity;
}

abbrev pub first_server : ℕ → Table Volume → ServerState
first_server capacity volumes = record { lasting = first_lasting capacity (first_stored volumes); seats = []; backs = first_backs }

abbrev pub location_by : Bool → VolumeLine → List Location → List Location
location_by true v ls = ls
location_by false v ls = entry_of_line v ∷ ls

abbrev pub locations_in : List VolumeLine → List Location
locations_in [] = []
locations_in (v ∷ vs) = location_by (counts_later v.id vs) v (locations_in vs)

-- what clients know of the script's volumes, each at a server
abbrev pub locations : Script → List Location
locations s = locations_in s.volumes

-- the user of a client: the one that the last of its lines names, or this one
abbrev pub user_in : ℕ → List ℕ → List UserLine → List ℕ
user_in n user [] = user
user_in n user (u ∷ us) = user_in n (if nat_eq u.client n then u.name else user) us

abbrev pub user_at : Script → ℕ → List ℕ
user_at s n = user_in n (codes "guest") s.users

abbrev pub first_client : Script → ℕ → ClientState
first_client s n = new_client 1 s.cache (user_at s n) (locations s)

abbrev pub first_host : Script → ℕ → ServerHost
first_host s i = record { state = first_server s.capacity (first_volumes_at i s.volumes); down = None; armed = unarmed }

-- the location database has the entries of all volumes, by their numbers
abbrev pub listed_by : Bool → VolumeLine → Table Listed → Table Listed
listed_by true v t = t
listed_by false v t = set v.id (listed_line v) t

abbrev pub first_entries : List VolumeLine → Table Listed
first_entries [] = []
first_entries (v ∷ vs) = listed_by (counts_later v.id vs) v (first_entries vs)

abbrev pub first_loc : ℕ → List VolumeLine → LocState
first_loc capacity vs = record {
  lasting = record {
    boot = 1;
    entries = first_entries vs;
    next_id = first_id + length vs;
    next_stamp = first_stamp;
    kept = [];
    journal = 1 + loc_place_length (loc_first_record vs);
    capacity = capacity;
  };
  seats = [];
}

abbrev pub start : Script → Cell
start s = record {
  loc = record { state = first_loc s.capacity s.volumes; down = None; armed = unarmed };
  host_count = s.servers;
  hosts = first_host s;
  count = s.clients;
  clients = first_client s;
  away = λ n. false;
  handed = locations s;
  sent = [];
  clock = 0;
}

-- the history is a run of the script, which ends in this cell
pub record RunsTo (history : List Entry) (script : Script) (end : Cell) : Type 0 where
  pub inputs : List Input
  pub leads : Leads (start script) inputs history end

-- A cell without administrators, of nodes of two halves whose volume servers rest, and of clients that know no read-only volumes, does what the
-- cell of their file servers does.
use Rattle.std.specs.Prelude.{nat_eq, nat_lt, ◌&&◌, ◌<◌}
use Rattle.std.proofs.lemmas.Bool.{ltb-true}
use Rattle.std.proofs.Common.{◌≡◌, ℕ, zero, suc, Bool, true, false, cond, map, List, [], ◌∷◌, ◌++◌, Option, Some, None, refl, ap, ap₂, arith, sym, subst, ◌∙◌, not, eq-eqb}
use Rattle.afs_num.specs.declared.location_calls.LocEntry.{LocEntry}
use Rattle.afs_num.specs.declared.messages.Carried.{Carried}
use Rattle.afs_num.specs.declared.messages.Carried.TheVariants as carried
use Rattle.afs_num.specs.declared.messages.Message.{Message}
use Rattle.afs_num.specs.declared.messages.Received.TheVariants.{Whole}
use Rattle.afs_num.specs.declared.messages.Reply.TheVariants as tell
use Rattle.afs_num.specs.declared.types.Node.{Node}
use Rattle.afs_num.specs.declared.types.Node.TheVariants.{Loc, Server, Client, Admin}
use Rattle.spec_adminrows.specs.AdminRow.{AdminState}
use Rattle.spec_history.specs.declared.acts.Act.{Act}
use Rattle.spec_history.specs.declared.lines.Line.TheVariants as lines
use Rattle.spec_history.specs.declared.scripts.Script.{Script}
use Rattle.spec_history.specs.declared.scripts.VolumeLine.{VolumeLine}
use Rattle.spec_ideal.specs.Tables.{Table}
use Rattle.spec_ideal.specs.Volumes.{Volume}
use Rattle.spec_copyrows.specs.CopyRow.{copy_row, entry_told, is_new_entry, tells_new}
use Rattle.spec_copyrows.specs.PlainCopies.{plain_step, KnowsNoReadOnly}
use Rattle.spec_copyrows.specs.Sites.{new_copies, CopyState}
use Rattle.spec_copyrows.proofs.PlainCopies.{copies_plain}
use Rattle.spec_rows.specs.Callbacks.{put}
use Rattle.spec_rows.specs.ClientRow.{act_of, begin_row, guest_row, is_sought, reborn, seek_timeout_row}
use Rattle.spec_rows.specs.Going.{ClientState, Going, Seek}
use Rattle.spec_rows.specs.Hosts.{at_rest, crashed, in_boot, in_step, restarted, served, set_to_fail, set_to_stop, Fall, HostStep, Luck, Outcome}
use Rattle.spec_rows.specs.LocRow.{LocState}
use Rattle.spec_rows.specs.ServerHosts.{server_kind, timed_out, woken, ServerHost}
use Rattle.spec_rows.specs.ServerRow.{is_client}
use Rattle.spec_rows.specs.States.{BackCall, Location, Seat, ServerState}
use Rattle.spec_rows.specs.Steps.{Step}
use Rattle.spec_rows.specs.Runs.{back_timed, begins, begun_by, client_falls, client_moves, client_rises, client_starts, client_stops, counts_later, given_at, given_to, gives, has_host, is_away, loc_restarted, loc_up, location_by, locations, locations_in, message_at, moved, nothing, server_stepped, server_armed, server_given, server_restarted, server_stopped, server_timed, server_waits, server_wakes, sets_fail, sets_stop, sought_for, start, starts_again, stops, ticks, client_turned, voided, waited_by, waits, wakes, Cell, Entry, Input, Leads, Moved, RunsTo}
use Rattle.spec_volrows.specs.CellLaws.{HasOpenHosts}
use Rattle.spec_volrows.specs.NodeHosts.{node_kind, node_timed_out, node_woken, NodeHost}
use Rattle.spec_volrows.specs.RestingHosts.{begun_there, callers_after, ended_there, resting_host, resting_step, IsOfClient}
use Rattle.spec_volrows.specs.VolStates.{NodeState}
use Rattle.spec_volrows.proofs.CellOpen.{cells_open}
use Rattle.spec_volrows.proofs.HostPlain.{hosts_plain}
use Rattle.spec_volrows.proofs.HostResting.{hosts_rest}
use Rattle.law_legal.specs.Clientele.{ServesClients}
use Rattle.law_legal.proofs.RunsAreLegal.{run_legal}
use Rattle.law_legal.proofs.ServerClients.{cells_serve_clients}
use Rattle.law_legal.proofs.RunsEnd.{run_ends}
use Rattle.law_legal.proofs.ActCallsInRuns.{asked_at, told_in}
use Rattle.law_legal.proofs.ActCalls.{AskedIn}
use Rattle.law_legal.specs.Ideal.{set_up_entry}
use Rattle.law_legal.specs.LocLaws.{IsToldIn}
use Rattle.law_legal.specs.Once.{past_of}
use Rattle.spec_runs.specs.NodeRuns.{admin_begins, admin_starts, admin_stops, admin_waits, bare_entry, node_moved, node_start, usual, usually_moved, CellInput, NodeCell, NodeLeads, NodeMoved, NodeRunsTo}
use Rattle.spec_runs.specs.NodeRuns as nodes
use Rattle.spec_runs.proofs.Unmade.{unmade_restarted, unmade_served, unmade_timed, unmade_woken, MakesNothing}
use Rattle.spec_runs.specs.PlainRuns.{file_cell, file_host, plain_input, NodeRunsAreLegal, NodeRunsEndWell, PlainRunsAreFileRuns, PlainRunsBringNothing}

-- ---- a cell of nodes that rest is one of file servers with some nodes as its servers, and with its clients in no round; these would be its
-- administrators, if it had any

abbrev with_nodes : (ℕ → NodeHost) → (ℕ → AdminState) → Cell → NodeCell
with_nodes hosts admins c = record {
  loc = c.loc;
  host_count = c.host_count;
  hosts = hosts;
  count = c.count;
  clients = λ n. new_copies (c.clients n);
  away = c.away;
  handed = c.handed;
  admin_count = 0;
  admins = admins;
  gone = λ n. false;
  sent = c.sent;
  clock = c.clock;
}

-- a node whose volume server rests, with some callers, and whose file server is this one
abbrev RestsAs : NodeHost → ServerHost → Type 0
RestsAs n h = (callers : List Seat) × (n ≡ resting_host callers h)

record IsResting (n : NodeCell) (c : Cell) : Type 0 where
  is : n ≡ with_nodes n.hosts n.admins c
  hosts : (i : ℕ) → RestsAs (n.hosts i) (c.hosts i)

-- these are its file servers
files_are : (hs : ℕ → NodeHost) (files : ℕ → ServerHost) → ((i : ℕ) → RestsAs (hs i) (files i)) → (λ (i : ℕ). file_host (hs i)) ≡ files
files_are hs files rest = λ j. λ (i : ℕ). file_host ((rest i).1 j)

is_file_cell : (n : NodeCell) (c : Cell) → IsResting n c → c ≡ file_cell n
is_file_cell n c resting = sym (ap file_cell resting.is ∙ ap (λ (files : ℕ → ServerHost). record c { hosts = files }) (files_are n.hosts c.hosts resting.hosts))

-- one entry, which brings no volume, and the cells are alike again
record IsAlike (n : NodeMoved) (m : Moved) : Type 0 where
  entry : n.entry ≡ m.entry
  brings : m.entry.volumes ≡ []
  resting : IsResting n.cell m.cell

either : (b : Bool) (n p : NodeMoved) (m o : Moved) → IsAlike n m → IsAlike p o → IsAlike (cond b n p) (cond b m o)
either true n p m o h k = h
either false n p m o h k = k

-- no client knows a read-only volume behind the step
abbrev StayPlain : Moved → Type 0
StayPlain m = (i : ℕ) → KnowsNoReadOnly (m.cell.clients i).table

either_plain : (b : Bool) (n p : NodeMoved) (m o : Moved) → (StayPlain m → IsAlike n m) → (StayPlain o → IsAlike p o) → StayPlain (cond b m o) → IsAlike (cond b n p) (cond b m o)
either_plain true n p m o h k plain = h plain
either_plain false n p m o h k plain = k plain

-- ---- clients

put_copy : (b : Bool) (x y : ClientState) → cond b (new_copies x) (new_copies y) ≡ new_copies (cond b x y)
put_copy true x y = refl
put_copy false x y = refl

put_copies : (n : ℕ) (x : ClientState) (clients : ℕ → ClientState) → put n (new_copies x) (λ (i : ℕ). new_copies (clients i)) ≡ (λ (i : ℕ). new_copies (put n x clients i))
put_copies n x clients = λ j. λ (i : ℕ). (put_copy (nat_eq n i) x (clients i)) j

-- no volume of a script is read-only
none_by : (b : Bool) (v : VolumeLine) (ls : List Location) → KnowsNoReadOnly ls → KnowsNoReadOnly (location_by b v ls)
none_by true v ls h = h
none_by false v ls h = (refl, h)

first_none : (vs : List VolumeLine) → KnowsNoReadOnly (locations_in vs)
first_none [] = tt
first_none (v ∷ vs) = none_by (counts_later v.id vs) v (locations_in vs) (first_none vs)

known_none : (s : Script) (c : Cell) (past : List Entry) → AskedIn s c past → (i : ℕ) → KnowsNoReadOnly (c.clients i).table
known_none s c past asked i = subst KnowsNoReadOnly (sym (asked.table i)) (first_none s.volumes)

-- what the location database tells, each client was handed
not_new : (s : Script) (x : Carried) → IsToldIn s x → is_new_entry (locations s) (entry_told x) ≡ false
not_new s (carried.Call user call) w = refl
not_new s (carried.Refusal code) w = refl
not_new s (carried.Reply (tell.File reply)) w = refl
not_new s (carried.Reply (tell.Volume reply)) w = refl
not_new s (carried.Reply (tell.Location reply)) w = subst (λ (o : Option LocEntry). is_new_entry (locations s) o ≡ false) (sym w.1.0) (ap not w.1.1)
not_new s carried.Notice w = refl

module _ (s : Script) (c : Cell) (past : List Entry) (asked : AskedIn s c past) (n place : ℕ) (m : Message) (at : message_at c.sent place ≡ Some m) (q : Seek) where
  none_by_answer : (b : Bool) → is_sought (Client n) (c.clients n) q m.head m.carried ≡ b → (b && is_new_entry (c.clients n).table (entry_told m.carried)) ≡ false
  none_by_answer true e = subst (λ (t : List Location). is_new_entry t (entry_told m.carried) ≡ false) (sym (asked.table n)) (not_new s m.carried (told_in s c past n place m q asked at e))
  none_by_answer false e = refl

  none_new : tells_new (Client n) (c.clients n) m q ≡ false
  none_new = none_by_answer (is_sought (Client n) (c.clients n) q m.head m.carried) refl

-- no number is below 0
below_none : (n : ℕ) (b : Bool) → nat_lt n 0 ≡ b → b ≡ false
below_none n true h = let below : n < 0 = ltb-true n 0 h in absurd (omega (arith, below))
below_none n false h = refl

none_below : (n : ℕ) → nat_lt n 0 ≡ false
none_below n = below_none n (nat_lt n 0) refl

-- ---- each step

module _ (s : Script) (past : List Entry) (hs : ℕ → NodeHost) (ads : ℕ → AdminState) (c : Cell) (rest : (i : ℕ) → RestsAs (hs i) (c.hosts i)) (open' : HasOpenHosts c) (serves : ServesClients c) (asked : AskedIn s c past) where
  -- ---- what no server does

  stays : (m : Moved) → m.cell.hosts ≡ c.hosts → m.entry.volumes ≡ [] → IsAlike (record { entry = m.entry; cell = with_nodes hs ads m.cell }) m
  stays m same none = record { entry = refl; brings = none; resting = record { is = refl; hosts = λ i. subst (λ (files : ℕ → ServerHost). RestsAs (hs i) (files i)) (sym same) (rest i) } }

  void : IsAlike (nodes.voided (with_nodes hs ads c)) (voided c)
  void = stays (voided c) refl refl

  loc_alike : (s : HostStep LocState) (d : Option Fall) → IsAlike (nodes.loc_up (with_nodes hs ads c) s d) (loc_up c s d)
  loc_alike s None = stays (loc_up c s None) refl refl
  loc_alike s (Some fall) = void

  loc_risen : (after : Bool) (o : Outcome) (d : Option Fall) → IsAlike (nodes.loc_restarted (with_nodes hs ads c) after o d) (loc_restarted c after o d)
  loc_risen after o None = void
  loc_risen after o (Some fall) = stays (loc_restarted c after o (Some fall)) refl refl

  -- ---- a client's step

  client_alike : (n : ℕ) (t : Step CopyState) (p : Step ClientState) → t ≡ plain_step p → IsAlike (nodes.client_moves (with_nodes hs ads c) n t) (client_moves c n p)
  client_alike n t p is =
      subst (λ (u : Step CopyState). IsAlike (nodes.client_moves (with_nodes hs ads c) n u) (client_moves c n p)) (sym is)
      (record {
        entry = refl;
        brings = refl;
        resting = record { is = ap (λ (clients : ℕ → CopyState). record (with_nodes hs ads (client_moves c n p).cell) { clients = clients }) (put_copies n p.state c.clients); hosts = rest };
      })

  turned_alike : (n : ℕ) (away : Bool) (t : NodeMoved) (m : Moved) → IsAlike t m → IsAlike (nodes.client_turned n away t) (client_turned n away m)
  turned_alike n away t m h = record {
    entry = h.entry;
    brings = h.brings;
    resting = record { is = ap (λ (k : NodeCell). record k { away = put n away k.away }) h.resting.is; hosts = h.resting.hosts };
  }

  -- behind a client's own step
  own_plain : (n : ℕ) (p : Step ClientState) → StayPlain (client_moves c n p) → KnowsNoReadOnly p.state.table
  own_plain n p plain = subst (λ (b : Bool). KnowsNoReadOnly (cond b p.state (c.clients n)).table) (eq-eqb n n refl) (plain n)

  begun_alike : (n : ℕ) (act : Act) (o : Option Going) → StayPlain (begun_by c n act o) → IsAlike (nodes.begun_by (with_nodes hs ads c) n act o) (begun_by c n act o)
  begun_alike n act None plain = client_alike n _ _ (copies_plain.begins (Client n) (c.clients n) c.clock act (own_plain n (begin_row (Client n) (c.clients n) c.clock act) plain))
  begun_alike n act (Some other) plain = void

  sought_alike : (n : ℕ) (o : Option Seek) → IsAlike (nodes.sought_for (with_nodes hs ads c) n o) (sought_for c n o)
  sought_alike n None = void
  sought_alike n (Some k) = client_alike n (plain_step (seek_timeout_row (Client n) (c.clients n) k)) (seek_timeout_row (Client n) (c.clients n) k) refl

  waited_alike : (n : ℕ) (o : Option Going) → IsAlike (nodes.waited_by (with_nodes hs ads c) n o) (waited_by c n o)
  waited_alike n None = sought_alike n (c.clients n).seeking
  waited_alike n (Some act) = client_alike n _ _ (copies_plain.waits (Client n) (c.clients n) act (known_none s c past asked n))

  heard_alike : (n place : ℕ) (m : Message) → message_at c.sent place ≡ Some m → StayPlain (client_moves c n (guest_row (Client n) (c.clients n) c.clock place (Whole m))) →
      IsAlike (nodes.client_moves (with_nodes hs ads c) n (copy_row (Client n) (new_copies (c.clients n)) c.clock place (Whole m))) (client_moves c n (guest_row (Client n) (c.clients n) c.clock place (Whole m)))
  heard_alike n place m at plain =
      client_alike n _ _
      (copies_plain.hears (Client n) (c.clients n) c.clock place (Whole m) (known_none s c past asked n) (λ q z. none_new s c past asked n place m at q) (own_plain n (guest_row (Client n) (c.clients n) c.clock place (Whole m)) plain))

  falls_alike : (n : ℕ) → IsAlike (nodes.client_falls (with_nodes hs ads c) n) (client_falls c n)
  falls_alike n = turned_alike n true _ _ (client_alike n _ (record { state = reborn c.handed (c.clients n); lines = lines.Crash (Client n) ∷ []; sent = [] }) refl)

  rises_alike : (n : ℕ) → IsAlike (nodes.client_rises (with_nodes hs ads c) n) (client_rises c n)
  rises_alike n = turned_alike n false _ _ (client_alike n _ (record { state = c.clients n; lines = lines.Restart (Client n) (c.clients n).epoch ∷ []; sent = [] }) refl)

  -- ---- there is no administrator

  none_up : (n : ℕ) → nodes.is_gone (with_nodes hs ads c) n ≡ true
  none_up zero = refl
  none_up (suc n) = rw (none_below n) refl

  gone_alike : (n : ℕ) (m : NodeMoved) → IsAlike (cond (nodes.is_gone (with_nodes hs ads c) n) (nodes.voided (with_nodes hs ads c)) m) (voided c)
  gone_alike n m = subst (λ (b : Bool). IsAlike (cond b (nodes.voided (with_nodes hs ads c)) m) (voided c)) (sym (none_up n)) void

  -- ---- a server's step

  put_rests : (b : Bool) (n p : NodeHost) (h o : ServerHost) → RestsAs n h → RestsAs p o → RestsAs (cond b n p) (cond b h o)
  put_rests true n p h o r q = r
  put_rests false n p h o r q = q

  placed_alike : (i : ℕ) (callers : List Seat) (s : HostStep NodeState) (p : HostStep ServerState) → s ≡ resting_step callers p → MakesNothing p.lines → IsAlike (nodes.server_stepped (with_nodes hs ads c) i s) (server_stepped c i p)
  placed_alike i callers s p is none =
      subst (λ (t : HostStep NodeState). IsAlike (nodes.server_stepped (with_nodes hs ads c) i t) (server_stepped c i p)) (sym is)
      (record {
        entry = ap (λ (vs : Table Volume). record (server_stepped c i p).entry { volumes = vs }) (none p.host.state.lasting.volumes);
        brings = refl;
        resting = record { is = refl; hosts = λ j. put_rests (nat_eq i j) (resting_host callers p.host) (hs j) p.host (c.hosts j) (callers, refl) (rest j) };
      })

  -- of a server that is up
  abbrev plain_up : ℕ → HostStep ServerState → Option Fall → Moved
  plain_up i s None = server_stepped c i s
  plain_up i s (Some fall) = voided c

  up_alike : (i : ℕ) (callers : List Seat) (s : HostStep NodeState) (p : HostStep ServerState) (d : Option Fall) → s ≡ resting_step callers p → MakesNothing p.lines → IsAlike (nodes.server_up (with_nodes hs ads c) i s d) (plain_up i p d)
  up_alike i callers s p None is none = placed_alike i callers s p is none
  up_alike i callers s p (Some fall) is none = void

  abbrev callers_at : ℕ → List Seat
  callers_at i = (rest i).0

  -- whatever it does by its host, and by that of its file server
  step_alike : (i : ℕ) (f : NodeHost → HostStep NodeState) (p : HostStep ServerState) → f (resting_host (callers_at i) (c.hosts i)) ≡ resting_step (callers_at i) p → MakesNothing p.lines →
      IsAlike (nodes.server_up (with_nodes hs ads c) i (f (hs i)) (hs i).down) (plain_up i p (c.hosts i).down)
  step_alike i f p is none =
      subst (λ (h : NodeHost). IsAlike (nodes.server_up (with_nodes hs ads c) i (f h) h.down) (plain_up i p (c.hosts i).down)) (sym (rest i).1)
      (up_alike i (callers_at i) (f (resting_host (callers_at i) (c.hosts i))) p (c.hosts i).down is none)

  given_is : (i place : ℕ) (luck : Luck) (m : Message) (d : Option Fall) → server_given c i place luck m d ≡ plain_up i (served (server_kind (Server i)) (c.hosts i) c.clock place luck m) d
  given_is i place luck m None = refl
  given_is i place luck m (Some fall) = refl

  stopped_is : (i : ℕ) (d : Option Fall) → server_stopped c i d ≡ plain_up i (crashed (server_kind (Server i)) (c.hosts i)) d
  stopped_is i None = refl
  stopped_is i (Some fall) = refl

  armed_is : (i : ℕ) (s : HostStep ServerState) (d : Option Fall) → server_armed c i s d ≡ plain_up i s d
  armed_is i s None = refl
  armed_is i s (Some fall) = refl

  wakes_is : (i : ℕ) (d : Option Fall) → server_wakes c i d ≡ plain_up i (woken (Server i) (c.hosts i) c.clock) d
  wakes_is i None = refl
  wakes_is i (Some fall) = refl

  -- ---- a message

  server_alike : (i place : ℕ) (luck : Luck) (m : Message) → is_client m.head.from ≡ true →
      IsAlike (nodes.server_up (with_nodes hs ads c) i (served (node_kind (Server i)) (hs i) c.clock place luck m) (hs i).down) (server_given c i place luck m (c.hosts i).down)
  server_alike i place luck m client =
      subst (λ (o : Moved). IsAlike (nodes.server_up (with_nodes hs ads c) i (served (node_kind (Server i)) (hs i) c.clock place luck m) (hs i).down) o) (sym (given_is i place luck m (c.hosts i).down))
      (step_alike i (λ (h : NodeHost). served (node_kind (Server i)) h c.clock place luck m) (served (server_kind (Server i)) (c.hosts i) c.clock place luck m)
      (hosts_rest.served_it (Server i) (callers_at i) (c.hosts i) c.clock place luck m client ∙ ap (resting_step (callers_at i)) (hosts_plain.served_it (Server i) (c.hosts i) c.clock place luck m (open' i)))
      (unmade_served (Server i) (c.hosts i) c.clock place luck m))

  to_alike : (place : ℕ) (luck : Luck) (m : Message) (n : Node) → message_at c.sent place ≡ Some m → ((i : ℕ) → n ≡ Server i → is_client m.head.from ≡ true) → StayPlain (given_to c place luck m n) → IsAlike (nodes.given_to (with_nodes hs ads c) place luck m n) (given_to c place luck m n)
  to_alike place luck m (Server i) at of plain = either (has_host c i) _ _ _ _ (server_alike i place luck m (of i refl)) void
  to_alike place luck m (Client n) at of plain = either_plain (is_away c n) _ _ _ _ (λ stay. void) (heard_alike n place m at) plain
  to_alike place luck m Loc at of plain = loc_alike _ c.loc.down
  to_alike place luck m (Admin n) at of plain = gone_alike n _

  at_alike : (place : ℕ) (luck : Luck) (o : Option Message) → message_at c.sent place ≡ o → StayPlain (given_at c place luck o) → IsAlike (nodes.given_at (with_nodes hs ads c) place luck o) (given_at c place luck o)
  at_alike place luck None is plain = void
  at_alike place luck (Some m) is plain = to_alike place luck m m.head.to is (λ i to. serves.given i place m is to) plain

  -- ---- no message

  stop_alike : (i : ℕ) → IsAlike (nodes.server_up (with_nodes hs ads c) i (crashed (node_kind (Server i)) (hs i)) (hs i).down) (server_stopped c i (c.hosts i).down)
  stop_alike i =
      subst (λ (o : Moved). IsAlike (nodes.server_up (with_nodes hs ads c) i (crashed (node_kind (Server i)) (hs i)) (hs i).down) o) (sym (stopped_is i (c.hosts i).down))
      (step_alike i (λ (h : NodeHost). crashed (node_kind (Server i)) h) (crashed (server_kind (Server i)) (c.hosts i)) refl (λ stored. refl))

  set_stop_alike : (i calls pick : ℕ) → IsAlike (nodes.server_up (with_nodes hs ads c) i (set_to_stop (node_kind (Server i)) (hs i) calls pick) (hs i).down) (server_armed c i (set_to_stop (server_kind (Server i)) (c.hosts i) calls pick) (c.hosts i).down)
  set_stop_alike i calls pick =
      subst (λ (o : Moved). IsAlike (nodes.server_up (with_nodes hs ads c) i (set_to_stop (node_kind (Server i)) (hs i) calls pick) (hs i).down) o) (sym (armed_is i (set_to_stop (server_kind (Server i)) (c.hosts i) calls pick) (c.hosts i).down))
      (step_alike i (λ (h : NodeHost). set_to_stop (node_kind (Server i)) h calls pick) (set_to_stop (server_kind (Server i)) (c.hosts i) calls pick) refl (λ stored. refl))

  set_fail_alike : (i call : ℕ) → IsAlike (nodes.server_up (with_nodes hs ads c) i (set_to_fail (node_kind (Server i)) (hs i) call) (hs i).down) (server_armed c i (set_to_fail (server_kind (Server i)) (c.hosts i) call) (c.hosts i).down)
  set_fail_alike i call =
      subst (λ (o : Moved). IsAlike (nodes.server_up (with_nodes hs ads c) i (set_to_fail (node_kind (Server i)) (hs i) call) (hs i).down) o) (sym (armed_is i (set_to_fail (server_kind (Server i)) (c.hosts i) call) (c.hosts i).down))
      (step_alike i (λ (h : NodeHost). set_to_fail (node_kind (Server i)) h call) (set_to_fail (server_kind (Server i)) (c.hosts i) call) refl (λ stored. refl))

  woken_alike : (i : ℕ) → IsAlike (nodes.server_up (with_nodes hs ads c) i (node_woken (Server i) (hs i) c.clock) (hs i).down) (server_wakes c i (c.hosts i).down)
  woken_alike i =
      subst (λ (o : Moved). IsAlike (nodes.server_up (with_nodes hs ads c) i (node_woken (Server i) (hs i) c.clock) (hs i).down) o) (sym (wakes_is i (c.hosts i).down))
      (step_alike i (λ (h : NodeHost). node_woken (Server i) h c.clock) (woken (Server i) (c.hosts i) c.clock) (hosts_rest.passed (Server i) (callers_at i) (c.hosts i) c.clock) (unmade_woken (Server i) (c.hosts i) c.clock))

  -- its call to a client is timed out; its volume server has none
  late_alike : (i : ℕ) (n : Node) (h : NodeHost) → h ≡ resting_host (callers_at i) (c.hosts i) → (o : Option BackCall) → hs i ≡ h →
      IsAlike (nodes.call_timed (with_nodes hs ads c) i n o) (back_timed c i n o)
  late_alike i n h rests None at = subst (λ (p : NodeHost). IsAlike (nodes.piece_timed (with_nodes hs ads c) i n (p.state.vol.calls n)) (voided c)) (sym (at ∙ rests)) void
  late_alike i n h rests (Some b) at =
      placed_alike i (callers_at i) (node_timed_out (Server i) (hs i) c.clock n b) (timed_out (Server i) (c.hosts i) c.clock n b)
      (ap (λ (p : NodeHost). node_timed_out (Server i) p c.clock n b) (at ∙ rests) ∙ hosts_rest.timed (Server i) (callers_at i) (c.hosts i) c.clock n b) (unmade_timed (Server i) (c.hosts i) c.clock n b)

  timed_by : (i : ℕ) (n : Node) (d : Option Fall) → IsAlike (nodes.server_timed (with_nodes hs ads c) i n d) (server_timed c i n d)
  timed_by i n None =
      subst (λ (p : NodeHost). IsAlike (nodes.call_timed (with_nodes hs ads c) i n (p.state.file.backs.calls n)) (back_timed c i n ((c.hosts i).state.backs.calls n))) (sym (rest i).1)
      (late_alike i n (hs i) (rest i).1 ((c.hosts i).state.backs.calls n) refl)
  timed_by i n (Some fall) = void

  timed_alike : (i : ℕ) (n : Node) → IsAlike (nodes.server_timed (with_nodes hs ads c) i n (hs i).down) (server_timed c i n (c.hosts i).down)
  timed_alike i n = subst (λ (p : NodeHost). IsAlike (nodes.server_timed (with_nodes hs ads c) i n p.down) (server_timed c i n (c.hosts i).down)) (sym (rest i).1) (timed_by i n (c.hosts i).down)

  -- it begins again
  of_fall : (i : ℕ) (fall : Fall) → (c.hosts i).down ≡ Some fall → IsOfClient fall
  of_fall i at_rest is = tt
  of_fall i (in_step m clock b) is = serves.fallen i clock m b is
  of_fall i in_boot is = tt

  risen_by : (i : ℕ) (after : Bool) (o : Outcome) (d : Option Fall) → (c.hosts i).down ≡ d → IsAlike (nodes.server_restarted (with_nodes hs ads c) i after o d) (server_restarted c i after o d)
  risen_by i after o None is = void
  risen_by i after o (Some fall) is =
      let me = Server i in
      let h = c.hosts i in
      let callers = callers_after (callers_at i) (begun_there me h after fall) (ended_there me h after fall o) in
      placed_alike i callers (restarted (node_kind me) (hs i) c.clock c.count after o fall) (restarted (server_kind me) h c.clock c.count after o fall)
      (ap (λ (p : NodeHost). restarted (node_kind me) p c.clock c.count after o fall) (rest i).1
      ∙ (hosts_rest.starts_again me (callers_at i) h c.clock c.count after o fall (of_fall i fall is) ∙ ap (resting_step callers) (hosts_plain.starts_again me h c.clock c.count after o fall (open' i))))
      (unmade_restarted me h c.clock c.count after o fall)

  risen_alike : (i : ℕ) (after : Bool) (o : Outcome) → IsAlike (nodes.server_restarted (with_nodes hs ads c) i after o (hs i).down) (server_restarted c i after o (c.hosts i).down)
  risen_alike i after o =
      subst (λ (p : NodeHost). IsAlike (nodes.server_restarted (with_nodes hs ads c) i after o p.down) (server_restarted c i after o (c.hosts i).down)) (sym (rest i).1) (risen_by i after o (c.hosts i).down refl)

  -- ---- each input

  usually_alike : (x : Input) → StayPlain (moved c x) → IsAlike (usually_moved (with_nodes hs ads c) x) (moved c x)
  unfolding moved usually_moved
  usually_alike (begins n act) plain = either_plain (is_away c n) _ _ _ _ (λ stay. void) (begun_alike n act (act_of (c.clients n))) plain
  usually_alike (gives place luck) plain = at_alike place luck (message_at c.sent place) refl plain
  usually_alike (waits n) plain = either (is_away c n) _ _ _ _ void (waited_alike n (c.clients n).running)
  usually_alike (ticks zero) plain = void
  usually_alike (ticks (suc n)) plain = stays _ refl refl
  usually_alike (client_stops n) plain = either (is_away c n) _ _ _ _ void (falls_alike n)
  usually_alike (client_starts n) plain = either (c.away n) _ _ _ _ (rises_alike n) void
  usually_alike (stops zero) plain = loc_alike _ c.loc.down
  usually_alike (stops (suc i)) plain = either (has_host c (suc i)) _ _ _ _ (stop_alike (suc i)) void
  usually_alike (starts_again zero after o) plain = loc_risen after o c.loc.down
  usually_alike (starts_again (suc i) after o) plain = either (has_host c (suc i)) _ _ _ _ (risen_alike (suc i) after o) void
  usually_alike (sets_stop zero calls pick) plain = loc_alike _ c.loc.down
  usually_alike (sets_stop (suc i) calls pick) plain = either (has_host c (suc i)) _ _ _ _ (set_stop_alike (suc i) calls pick) void
  usually_alike (sets_fail zero call) plain = loc_alike _ c.loc.down
  usually_alike (sets_fail (suc i) call) plain = either (has_host c (suc i)) _ _ _ _ (set_fail_alike (suc i) call) void
  usually_alike (server_waits i n) plain = either (has_host c i) _ _ _ _ (timed_alike i n) void
  usually_alike (wakes i) plain = either (has_host c i) _ _ _ _ (woken_alike i) void
  usually_alike nothing plain = void

  moves_alike : (x : CellInput) → StayPlain (moved c (plain_input x)) → IsAlike (node_moved (with_nodes hs ads c) x) (moved c (plain_input x))
  unfolding moved
  moves_alike (usual x) plain = usually_alike x plain
  moves_alike (admin_begins n act) plain = gone_alike n _
  moves_alike (admin_waits n) plain = gone_alike n _
  moves_alike (admin_stops n) plain = gone_alike n _
  moves_alike (admin_starts n) plain = void

-- ---- a run

alike : (s : Script) (past : List Entry) (n : NodeCell) (c : Cell) (x : CellInput) → IsResting n c → HasOpenHosts c → ServesClients c → AskedIn s c past → StayPlain (moved c (plain_input x)) → IsAlike (node_moved n x) (moved c (plain_input x))
alike s past n c x resting open' serves asked plain =
    subst (λ (m : NodeCell). IsAlike (node_moved m x) (moved c (plain_input x))) (sym resting.is) (moves_alike s past n.hosts n.admins c resting.hosts open' serves asked x plain)

-- behind any run
known_of : (s : Script) (inputs : List Input) (history : List Entry) (c : Cell) → Leads (start s) inputs history c → AskedIn s c (past_of (set_up_entry s ∷ []) history)
known_of s inputs history c led = (asked_at s history c (record { inputs = inputs; leads = led })).1

-- one input more
leads_behind : (c : Cell) (xs : List Input) (es : List Entry) (end : Cell) (x : Input) → Leads c xs es end → Leads c (xs ++ x ∷ []) (es ++ (moved end x).entry ∷ []) (moved end x).cell
leads_behind c [] [] end x e = (ap (λ (k : Cell). (moved k x).entry) e, ap (λ (k : Cell). (moved k x).cell) e)
leads_behind c [] (f ∷ fs) end x h = absurd h
leads_behind c (y ∷ ys) [] end x h = absurd h
leads_behind c (y ∷ ys) (f ∷ fs) end x h = (h.0, leads_behind (moved c y).cell ys fs end x h.1)

-- what is left of a run of the cell of file servers, from here on
record IsLed (c : Cell) (inputs : List CellInput) (history : List Entry) (end : NodeCell) : Type 0 where
  cell : Cell
  leads : Leads c (map plain_input inputs) history cell
  brings : map bare_entry history ≡ history
  resting : IsResting end cell

is_bare : (e : Entry) → e.volumes ≡ [] → bare_entry e ≡ e
is_bare e none = ap (λ (vs : Table Volume). record e { volumes = vs }) (sym none)

go_on : (s : Script) (before : List Input) (past : List Entry) (c : Cell) (n : NodeCell) (xs : List CellInput) (es : List Entry) (end : NodeCell) → Leads (start s) before past c → IsResting n c → NodeLeads n xs es end → IsLed c xs es end
go_on s before past c n [] [] end led resting is = record { cell = c; leads = refl; brings = refl; resting = subst (λ (m : NodeCell). IsResting m c) (sym is) resting }
go_on s before past c n [] (e ∷ es) end led resting h = absurd h
go_on s before past c n (x ∷ xs) [] end led resting h = absurd h
go_on s before past c n (x ∷ xs) (e ∷ es) end led resting h =
    let inputs = before ++ plain_input x ∷ [] in
    let entries = past ++ (moved c (plain_input x)).entry ∷ [] in
    let next = (moved c (plain_input x)).cell in
    let leads = leads_behind (start s) before past c (plain_input x) led in
    let plain = known_none s next (past_of (set_up_entry s ∷ []) entries) (known_of s inputs entries next leads) in
    let one = alike s (past_of (set_up_entry s ∷ []) past) n c x resting (cells_open.runs s before past c led) (cells_serve_clients s past c (record { inputs = before; leads = led })) (known_of s before past c led) plain in
    let more = go_on s inputs entries next (node_moved n x).cell xs es end leads one.resting h.1 in
    record { cell = more.cell; leads = (h.0 ∙ one.entry, more.leads); brings = ap₂ (λ (y : Entry) (ys : List Entry). y ∷ ys) (is_bare e (ap (λ (y : Entry). y.volumes) (h.0 ∙ one.entry) ∙ one.brings)) more.brings; resting = more.resting }

-- at the set-up of a script that has no administrators
rests_first : (s : Script) → s.admins ≡ 0 → IsResting (node_start s) (start s)
rests_first s none = record { is = ap (λ (k : ℕ). record (node_start s) { admin_count = k }) none; hosts = λ i. ([], refl) }

all_of : (s : Script) (inputs : List CellInput) (history : List Entry) (end : NodeCell) → s.admins ≡ 0 → NodeLeads (node_start s) inputs history end → IsLed (start s) inputs history end
all_of s inputs history end none leads = go_on s [] [] (start s) (node_start s) inputs history end refl (rests_first s none) leads

pub plain_runs : PlainRunsAreFileRuns
plain_runs s inputs history end none leads =
    let all = all_of s inputs history end none leads in
    let is = is_file_cell end all.cell all.resting in
    record {
      leads = subst (λ (c : Cell). Leads (start s) (map plain_input inputs) history c) is all.leads;
      rests = λ i. subst (λ (c : Cell). RestsAs (end.hosts i) (c.hosts i)) is (all.resting.hosts i);
      plain = λ i. ap (λ (k : NodeCell). k.clients i) all.resting.is ∙ sym (ap (λ (k : NodeCell). new_copies (k.clients i).client) all.resting.is);
    }

pub plain_runs_bring : PlainRunsBringNothing
plain_runs_bring s inputs history end none leads = (all_of s inputs history end none leads).brings

-- ---- what is so of a run of the cell of file servers

file_run : (s : Script) (history : List Entry) (end : NodeCell) → s.admins ≡ 0 → NodeRunsTo history s end → RunsTo history s (file_cell end)
file_run s history end none run = record { inputs = map plain_input run.inputs; leads = (plain_runs s run.inputs history end none run.leads).leads }

pub node_runs_legal : NodeRunsAreLegal
node_runs_legal s history end of none run = run_legal s history (file_cell end) of (file_run s history end none run)

pub node_runs_end : NodeRunsEndWell
node_runs_end s history end of none run = run_ends s history (file_cell end) of (file_run s history end none run)

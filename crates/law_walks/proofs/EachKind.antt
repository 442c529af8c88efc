-- What holds of each kind of step holds of whatever the cell is given.
use Rattle.std.proofs.Common.{◌≡◌, ℕ, zero, suc, Bool, true, false, cond, Option, Some, None, refl}
use Rattle.afs_num.specs.declared.messages.Message.{Message}
use Rattle.afs_num.specs.declared.types.Node.{Node}
use Rattle.afs_num.specs.declared.types.Node.TheVariants.{Admin, Client, Loc, Server}
use Rattle.spec_history.specs.declared.acts.Act.{Act}
use Rattle.spec_history.specs.declared.scripts.AdminAct.{AdminAct}
use Rattle.spec_adminrows.specs.AdminRow.{AdminState}
use Rattle.spec_adminrows.specs.declared.turns.Running.{Running}
use Rattle.spec_copyrows.specs.Sites.{CopyState}
use Rattle.spec_rows.specs.ClientRow.{act_of}
use Rattle.spec_rows.specs.Going.{Going, Seek}
use Rattle.spec_rows.specs.Hosts.{Fall, HostStep, Luck, Outcome}
use Rattle.spec_rows.specs.LocRow.{LocState}
use Rattle.spec_rows.specs.Runs.{begins, client_starts, client_stops, gives, message_at, nothing, server_waits, sets_fail, sets_stop, starts_again, stops, ticks, waits, wakes, Input}
use Rattle.spec_rows.specs.States.{BackCall}
use Rattle.spec_rows.specs.Steps.{Step}
use Rattle.spec_volrows.specs.VolStates.{NodeState, PieceCall}
use Rattle.spec_runs.specs.NodeRuns.{admin_begins, admin_begun, admin_falls, admin_moves, admin_rises, admin_starts, admin_stops, admin_waited, admin_waits, begun_by, call_timed, client_falls, client_moves, client_rises, given_at, given_to, has_host, if_host, is_away, is_gone, loc_stepped, loc_restarted, loc_up, node_moved, piece_timed, server_stepped, server_restarted, server_timed, server_up, sought_for, usual, usually_moved, waited_by, CellInput, NodeCell, NodeMoved}
use Rattle.law_walks.specs.Kinds.{Each, IsGiven, IsUp, OfAdmins, OfClients, OfDatabase, OfServers}

either : (R : NodeMoved → Type 0) (b : Bool) (x y : NodeMoved) → (b ≡ true → R x) → (b ≡ false → R y) → R (cond b x y)
either R true x y h k = h refl
either R false x y h k = k refl

module _ (R : NodeMoved → Type 0) (c : NodeCell) (h : Each R c) where
  -- ---- servers

  up_on : (i : ℕ) (s : HostStep NodeState) (d : Option Fall) → (d ≡ None → R (server_stepped c i s)) → R (server_up c i s d)
  up_on i s None k = k refl
  up_on i s (Some fall) k = h.void

  piece_on : (i : ℕ) (n : Node) (o : Option PieceCall) → IsUp c i → (c.hosts i).state.vol.calls n ≡ o → R (piece_timed c i n o)
  piece_on i n None up is = h.void
  piece_on i n (Some p) up is = h.servers.piece_late i n p up is

  call_on : (i : ℕ) (n : Node) (o : Option BackCall) → IsUp c i → (c.hosts i).state.file.backs.calls n ≡ o → R (call_timed c i n o)
  call_on i n None up is = piece_on i n ((c.hosts i).state.vol.calls n) up refl
  call_on i n (Some b) up is = h.servers.break_late i n b up is

  timed_on : (i : ℕ) (n : Node) (d : Option Fall) → has_host c i ≡ true → (c.hosts i).down ≡ d → R (server_timed c i n d)
  timed_on i n None there is = call_on i n ((c.hosts i).state.file.backs.calls n) (record { there = there; up = is }) refl
  timed_on i n (Some fall) there is = h.void

  risen_on : (i : ℕ) (after : Bool) (o : Outcome) (d : Option Fall) → has_host c i ≡ true → (c.hosts i).down ≡ d → R (server_restarted c i after o d)
  risen_on i after o None there is = h.void
  risen_on i after o (Some fall) there is = h.servers.restarts i after o fall there is

  -- if the cell has it, and it is up
  host_on : (i : ℕ) (s : HostStep NodeState) → (IsUp c i → R (server_stepped c i s)) → R (if_host c i (server_up c i s (c.hosts i).down))
  host_on i s k = either R (has_host c i) _ _ (λ there. up_on i s (c.hosts i).down (λ up. k (record { there = there; up = up }))) (λ none. h.void)

  -- ---- the location database

  loc_on : (s : HostStep LocState) (d : Option Fall) → (d ≡ None → R (loc_stepped c s)) → R (loc_up c s d)
  loc_on s None k = k refl
  loc_on s (Some fall) k = h.void

  loc_risen : (after : Bool) (o : Outcome) (d : Option Fall) → c.loc.down ≡ d → R (loc_restarted c after o d)
  loc_risen after o None is = h.void
  loc_risen after o (Some fall) is = h.database.restarts after o fall is

  -- ---- clients

  begun_on : (n : ℕ) (act : Act) (o : Option Going) → is_away c n ≡ false → act_of (c.clients n).client ≡ o → R (begun_by c n act o)
  begun_on n act None up is = h.clients.begins n act up is
  begun_on n act (Some other) up is = h.void

  sought_on : (n : ℕ) (o : Option Seek) → is_away c n ≡ false → (c.clients n).client.seeking ≡ o → R (sought_for c n o)
  sought_on n None up is = h.void
  sought_on n (Some k) up is = h.clients.seek_late n k up is

  waited_on : (n : ℕ) (o : Option Going) → is_away c n ≡ false → (c.clients n).client.running ≡ o → R (waited_by c n o)
  waited_on n None up is = sought_on n (c.clients n).client.seeking up refl
  waited_on n (Some act) up is = h.clients.late n act up is

  -- ---- administrators

  admin_begun_on : (n : ℕ) (act : AdminAct) (o : Option Running) → is_gone c n ≡ false → (c.admins n).running ≡ o → R (admin_begun c n act o)
  admin_begun_on n act None up is = h.admins.begins n act up is
  admin_begun_on n act (Some other) up is = h.void

  admin_waited_on : (n : ℕ) (o : Option Running) → is_gone c n ≡ false → (c.admins n).running ≡ o → R (admin_waited c n o)
  admin_waited_on n None up is = h.void
  admin_waited_on n (Some r) up is = h.admins.late n r up is

  -- ---- every input

  to_on : (place : ℕ) (luck : Luck) (m : Message) (n : Node) → IsGiven c place m n → R (given_to c place luck m n)
  to_on place luck m (Server i) g = host_on i _ (λ up. h.servers.serves i place luck m up g)
  to_on place luck m (Client n) g = either R (is_away c n) _ _ (λ away. h.void) (λ up. h.clients.given n place m up g)
  to_on place luck m Loc g = loc_on _ c.loc.down (λ up. h.database.serves place luck m up g)
  to_on place luck m (Admin n) g = either R (is_gone c n) _ _ (λ gone. h.void) (λ up. h.admins.given n place m up g)

  at_on : (place : ℕ) (luck : Luck) (o : Option Message) → message_at c.sent place ≡ o → R (given_at c place luck o)
  at_on place luck None is = h.void
  at_on place luck (Some m) is = to_on place luck m m.head.to (record { sent = is; to = refl })

  usual_on : (x : Input) → R (usually_moved c x)
  unfolding usually_moved
  usual_on (begins n act) = either R (is_away c n) _ _ (λ away. h.void) (λ up. begun_on n act (act_of (c.clients n).client) up refl)
  usual_on (gives place luck) = at_on place luck (message_at c.sent place) refl
  usual_on (waits n) = either R (is_away c n) _ _ (λ away. h.void) (λ up. waited_on n (c.clients n).client.running up refl)
  usual_on (ticks zero) = h.void
  usual_on (ticks (suc n)) = h.ticks n
  usual_on (client_stops n) = either R (is_away c n) _ _ (λ away. h.void) (λ up. h.clients.stops n up)
  usual_on (client_starts n) = either R (c.away n) _ _ (λ away. h.clients.starts n away) (λ up. h.void)
  usual_on (stops zero) = loc_on _ c.loc.down h.database.crashes
  usual_on (stops (suc i)) = host_on (suc i) _ (h.servers.crashes (suc i))
  usual_on (starts_again zero after o) = loc_risen after o c.loc.down refl
  usual_on (starts_again (suc i) after o) = either R (has_host c (suc i)) _ _ (λ there. risen_on (suc i) after o (c.hosts (suc i)).down there refl) (λ none. h.void)
  usual_on (sets_stop zero calls pick) = loc_on _ c.loc.down (h.database.stop_set calls pick)
  usual_on (sets_stop (suc i) calls pick) = host_on (suc i) _ (h.servers.stop_set (suc i) calls pick)
  usual_on (sets_fail zero call) = loc_on _ c.loc.down (h.database.fail_set call)
  usual_on (sets_fail (suc i) call) = host_on (suc i) _ (h.servers.fail_set (suc i) call)
  usual_on (server_waits i n) = either R (has_host c i) _ _ (λ there. timed_on i n (c.hosts i).down there refl) (λ none. h.void)
  usual_on (wakes i) = host_on i _ (h.servers.wakes i)
  usual_on nothing = h.void

  pub each : (x : CellInput) → R (node_moved c x)
  each (usual x) = usual_on x
  each (admin_begins n act) = either R (is_gone c n) _ _ (λ gone. h.void) (λ up. admin_begun_on n act (c.admins n).running up refl)
  each (admin_waits n) = either R (is_gone c n) _ _ (λ gone. h.void) (λ up. admin_waited_on n (c.admins n).running up refl)
  each (admin_stops n) = either R (is_gone c n) _ _ (λ gone. h.void) (λ up. h.admins.stops n up)
  each (admin_starts n) = either R (c.gone n) _ _ (λ gone. h.admins.starts n gone) (λ up. h.void)

-- ---- where a kind of node doesn't matter

pub any_server : (R : NodeMoved → Type 0) (c : NodeCell) → ((i : ℕ) (s : HostStep NodeState) → R (server_stepped c i s)) → OfServers R c
any_server R c k = record {
  serves = λ i place luck m up g. k i _;
  crashes = λ i up. k i _;
  stop_set = λ i calls pick up. k i _;
  fail_set = λ i call up. k i _;
  restarts = λ i after o fall there down. k i _;
  piece_late = λ i n p up is. k i _;
  break_late = λ i n b up is. k i _;
  wakes = λ i up. k i _;
}

pub any_database : (R : NodeMoved → Type 0) (c : NodeCell) → ((s : HostStep LocState) → R (loc_stepped c s)) → OfDatabase R c
any_database R c k = record { serves = λ place luck m up g. k _; crashes = λ up. k _; stop_set = λ calls pick up. k _; fail_set = λ call up. k _; restarts = λ after o fall down. k _ }

pub any_client : (R : NodeMoved → Type 0) (c : NodeCell) → ((n : ℕ) (s : Step CopyState) → R (client_moves c n s)) → ((n : ℕ) → R (client_falls c n)) → ((n : ℕ) → R (client_rises c n)) → OfClients R c
any_client R c k falls rises = record {
  begins = λ n act up idle. k n _;
  given = λ n place m up g. k n _;
  seek_late = λ n s up is. k n _;
  late = λ n act up is. k n _;
  stops = λ n up. falls n;
  starts = λ n away. rises n;
}

pub any_admin : (R : NodeMoved → Type 0) (c : NodeCell) → ((n : ℕ) (s : Step AdminState) → R (admin_moves c n s)) → ((n : ℕ) → R (admin_falls c n)) → ((n : ℕ) → R (admin_rises c n)) → OfAdmins R c
any_admin R c k falls rises = record { begins = λ n act up idle. k n _; given = λ n place m up g. k n _; late = λ n r up is. k n _; stops = λ n up. falls n; starts = λ n gone. rises n }

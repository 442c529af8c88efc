-- What holds of each kind of step, with the call that it runs, holds of whatever the cell is given.
use Rattle.std.proofs.Common.{◌≡◌, ℕ, zero, suc, Bool, true, false, cond, List, [], Option, Some, None, refl}
use Rattle.afs_num.specs.declared.messages.Message.{Message}
use Rattle.afs_num.specs.declared.types.Node.{Node}
use Rattle.afs_num.specs.declared.types.Node.TheVariants.{Admin, Client, Loc, Server}
use Rattle.spec_history.specs.declared.acts.Act.{Act}
use Rattle.spec_history.specs.declared.scripts.AdminAct.{AdminAct}
use Rattle.spec_adminrows.specs.declared.turns.Running.{Running}
use Rattle.spec_rows.specs.ClientRow.{act_of}
use Rattle.spec_rows.specs.Going.{Going, Seek}
use Rattle.spec_rows.specs.Hosts.{crashed, restarted, served, set_to_fail, set_to_stop, Fall, HostStep, Luck, Outcome}
use Rattle.spec_rows.specs.LocRow.{LocState}
use Rattle.spec_rows.specs.LocSteps.{loc_kind}
use Rattle.spec_rows.specs.Runs.{begins, client_starts, client_stops, gives, message_at, nothing, server_waits, sets_fail, sets_stop, starts_again, stops, ticks, waits, wakes, Input}
use Rattle.spec_rows.specs.States.{BackCall}
use Rattle.spec_volrows.specs.NodeHosts.{node_kind, node_timed_out, node_woken, piece_timed_out}
use Rattle.spec_volrows.specs.VolStates.{NodeState, PieceCall}
use Rattle.spec_runs.specs.NodeRuns.{admin_begins, admin_begun, admin_starts, admin_stops, admin_waited, admin_waits, begun_by, call_timed, given_at, given_to, has_host, if_host, is_away, is_gone, loc_stepped, loc_restarted, loc_up, node_moved, piece_timed, server_stepped, server_restarted, server_timed, server_up, sought_for, ticked, usual, usually_moved, voided, waited_by, CellInput, NodeCell, NodeMoved}
use Rattle.law_walks.specs.Kinds.{IsGiven, IsUp, OfAdmins, OfClients}
use Rattle.law_keys.specs.Ran.{database_ran, if_down, if_up, ran_at, ran_by, ran_restarted, ran_served, ran_to, ran_usually, server_ran, RanCall}

-- A server, or the location database, runs a call where it is given a message, or where it begins again behind an interrupted step; in all
-- other steps none runs.
pub record EachRan (R : NodeMoved → List RanCall → Type 0) (c : NodeCell) : Type 0 where
  pub void : R (voided c) []
  pub ticks : (n : ℕ) → R (ticked c (suc n)) []
  pub serves : (i place : ℕ) (luck : Luck) (m : Message) → IsUp c i → IsGiven c place m (Server i) → R (server_stepped c i (served (node_kind (Server i)) (c.hosts i) c.clock place luck m)) (ran_served (node_kind (Server i)) (server_ran (Server i)) (c.hosts i) c.clock luck m)
  pub restarts : (i : ℕ) (after : Bool) (o : Outcome) (fall : Fall) → (c.hosts i).down ≡ Some fall →
      R (server_stepped c i (restarted (node_kind (Server i)) (c.hosts i) c.clock c.count after o fall)) (ran_restarted (node_kind (Server i)) (server_ran (Server i)) (c.hosts i) after o fall)
  pub crashes : (i : ℕ) → IsUp c i → R (server_stepped c i (crashed (node_kind (Server i)) (c.hosts i))) []
  pub stop_set : (i calls pick : ℕ) → IsUp c i → R (server_stepped c i (set_to_stop (node_kind (Server i)) (c.hosts i) calls pick)) []
  pub fail_set : (i call : ℕ) → IsUp c i → R (server_stepped c i (set_to_fail (node_kind (Server i)) (c.hosts i) call)) []
  pub piece_late : (i : ℕ) (n : Node) (p : PieceCall) → IsUp c i → R (server_stepped c i (piece_timed_out (Server i) (c.hosts i) c.clock n p)) []
  pub break_late : (i : ℕ) (n : Node) (b : BackCall) → IsUp c i → R (server_stepped c i (node_timed_out (Server i) (c.hosts i) c.clock n b)) []
  pub wakes : (i : ℕ) → IsUp c i → R (server_stepped c i (node_woken (Server i) (c.hosts i) c.clock)) []
  pub loc_serves : (place : ℕ) (luck : Luck) (m : Message) → c.loc.down ≡ None → IsGiven c place m Loc → R (loc_stepped c (served loc_kind c.loc c.clock place luck m)) (ran_served loc_kind database_ran c.loc c.clock luck m)
  pub loc_restarts : (after : Bool) (o : Outcome) (fall : Fall) → c.loc.down ≡ Some fall → R (loc_stepped c (restarted loc_kind c.loc c.clock c.count after o fall)) (ran_restarted loc_kind database_ran c.loc after o fall)
  pub loc_crashes : c.loc.down ≡ None → R (loc_stepped c (crashed loc_kind c.loc)) []
  pub loc_stop_set : (calls pick : ℕ) → c.loc.down ≡ None → R (loc_stepped c (set_to_stop loc_kind c.loc calls pick)) []
  pub loc_fail_set : (call : ℕ) → c.loc.down ≡ None → R (loc_stepped c (set_to_fail loc_kind c.loc call)) []
  pub clients : OfClients (λ (m : NodeMoved). R m []) c
  pub admins : OfAdmins (λ (m : NodeMoved). R m []) c

module _ (R : NodeMoved → List RanCall → Type 0) (c : NodeCell) (h : EachRan R c) where
  either : (b : Bool) (x y : NodeMoved) → (b ≡ true → R x []) → (b ≡ false → R y []) → R (cond b x y) []
  either true x y k l = k refl
  either false x y k l = l refl

  either_ran : (b : Bool) (x y : NodeMoved) (new : List RanCall) → (b ≡ true → R x new) → R y [] → R (cond b x y) (cond b new [])
  either_ran true x y new k l = k refl
  either_ran false x y new k l = l

  -- ---- servers

  up_on : (i : ℕ) (s : HostStep NodeState) (new : List RanCall) (d : Option Fall) → (d ≡ None → R (server_stepped c i s) new) → R (server_up c i s d) (if_up d new)
  up_on i s new None k = k refl
  up_on i s new (Some fall) k = h.void

  quiet_on : (i : ℕ) (s : HostStep NodeState) (d : Option Fall) → (d ≡ None → R (server_stepped c i s) []) → R (server_up c i s d) []
  quiet_on i s None k = k refl
  quiet_on i s (Some fall) k = h.void

  host_on : (i : ℕ) (s : HostStep NodeState) → (IsUp c i → R (server_stepped c i s) []) → R (if_host c i (server_up c i s (c.hosts i).down)) []
  host_on i s k = either (has_host c i) _ _ (λ there. quiet_on i s (c.hosts i).down (λ up. k (record { there = there; up = up }))) (λ none. h.void)

  piece_on : (i : ℕ) (n : Node) (o : Option PieceCall) → IsUp c i → R (piece_timed c i n o) []
  piece_on i n None up = h.void
  piece_on i n (Some p) up = h.piece_late i n p up

  call_on : (i : ℕ) (n : Node) (o : Option BackCall) → IsUp c i → R (call_timed c i n o) []
  call_on i n None up = piece_on i n ((c.hosts i).state.vol.calls n) up
  call_on i n (Some b) up = h.break_late i n b up

  timed_on : (i : ℕ) (n : Node) (d : Option Fall) → has_host c i ≡ true → (c.hosts i).down ≡ d → R (server_timed c i n d) []
  timed_on i n None there is = call_on i n ((c.hosts i).state.file.backs.calls n) (record { there = there; up = is })
  timed_on i n (Some fall) there is = h.void

  risen_on : (i : ℕ) (after : Bool) (o : Outcome) (d : Option Fall) → (c.hosts i).down ≡ d → R (server_restarted c i after o d) (if_down d (ran_restarted (node_kind (Server i)) (server_ran (Server i)) (c.hosts i) after o))
  risen_on i after o None is = h.void
  risen_on i after o (Some fall) is = h.restarts i after o fall is

  -- ---- the location database

  loc_on : (s : HostStep LocState) (new : List RanCall) (d : Option Fall) → (d ≡ None → R (loc_stepped c s) new) → R (loc_up c s d) (if_up d new)
  loc_on s new None k = k refl
  loc_on s new (Some fall) k = h.void

  loc_quiet : (s : HostStep LocState) (d : Option Fall) → (d ≡ None → R (loc_stepped c s) []) → R (loc_up c s d) []
  loc_quiet s None k = k refl
  loc_quiet s (Some fall) k = h.void

  loc_risen : (after : Bool) (o : Outcome) (d : Option Fall) → c.loc.down ≡ d → R (loc_restarted c after o d) (if_down d (ran_restarted loc_kind database_ran c.loc after o))
  loc_risen after o None is = h.void
  loc_risen after o (Some fall) is = h.loc_restarts after o fall is

  -- ---- clients and administrators

  begun_on : (n : ℕ) (act : Act) (o : Option Going) → is_away c n ≡ false → act_of (c.clients n).client ≡ o → R (begun_by c n act o) []
  begun_on n act None up is = h.clients.begins n act up is
  begun_on n act (Some other) up is = h.void

  sought_on : (n : ℕ) (o : Option Seek) → is_away c n ≡ false → (c.clients n).client.seeking ≡ o → R (sought_for c n o) []
  sought_on n None up is = h.void
  sought_on n (Some k) up is = h.clients.seek_late n k up is

  waited_on : (n : ℕ) (o : Option Going) → is_away c n ≡ false → (c.clients n).client.running ≡ o → R (waited_by c n o) []
  waited_on n None up is = sought_on n (c.clients n).client.seeking up refl
  waited_on n (Some act) up is = h.clients.late n act up is

  admin_begun_on : (n : ℕ) (act : AdminAct) (o : Option Running) → is_gone c n ≡ false → (c.admins n).running ≡ o → R (admin_begun c n act o) []
  admin_begun_on n act None up is = h.admins.begins n act up is
  admin_begun_on n act (Some other) up is = h.void

  admin_waited_on : (n : ℕ) (o : Option Running) → is_gone c n ≡ false → (c.admins n).running ≡ o → R (admin_waited c n o) []
  admin_waited_on n None up is = h.void
  admin_waited_on n (Some r) up is = h.admins.late n r up is

  -- ---- every input

  to_on : (place : ℕ) (luck : Luck) (m : Message) (n : Node) → IsGiven c place m n → R (given_to c place luck m n) (ran_to c luck m n)
  to_on place luck m (Server i) g = either_ran (has_host c i) _ _ _ (λ there. up_on i _ _ (c.hosts i).down (λ up. h.serves i place luck m (record { there = there; up = up }) g)) h.void
  to_on place luck m (Client n) g = either (is_away c n) _ _ (λ away. h.void) (λ up. h.clients.given n place m up g)
  to_on place luck m Loc g = loc_on _ _ c.loc.down (λ up. h.loc_serves place luck m up g)
  to_on place luck m (Admin n) g = either (is_gone c n) _ _ (λ gone. h.void) (λ up. h.admins.given n place m up g)

  at_on : (place : ℕ) (luck : Luck) (o : Option Message) → message_at c.sent place ≡ o → R (given_at c place luck o) (ran_at c luck o)
  at_on place luck None is = h.void
  at_on place luck (Some m) is = to_on place luck m m.head.to (record { sent = is; to = refl })

  usual_on : (x : Input) → R (usually_moved c x) (ran_usually c x)
  unfolding usually_moved
  usual_on (begins n act) = either (is_away c n) _ _ (λ away. h.void) (λ up. begun_on n act (act_of (c.clients n).client) up refl)
  usual_on (gives place luck) = at_on place luck (message_at c.sent place) refl
  usual_on (waits n) = either (is_away c n) _ _ (λ away. h.void) (λ up. waited_on n (c.clients n).client.running up refl)
  usual_on (ticks zero) = h.void
  usual_on (ticks (suc n)) = h.ticks n
  usual_on (client_stops n) = either (is_away c n) _ _ (λ away. h.void) (λ up. h.clients.stops n up)
  usual_on (client_starts n) = either (c.away n) _ _ (λ away. h.clients.starts n away) (λ up. h.void)
  usual_on (stops zero) = loc_quiet _ c.loc.down h.loc_crashes
  usual_on (stops (suc i)) = host_on (suc i) _ (h.crashes (suc i))
  usual_on (starts_again zero after o) = loc_risen after o c.loc.down refl
  usual_on (starts_again (suc i) after o) = either_ran (has_host c (suc i)) _ _ _ (λ there. risen_on (suc i) after o (c.hosts (suc i)).down refl) h.void
  usual_on (sets_stop zero calls pick) = loc_quiet _ c.loc.down (h.loc_stop_set calls pick)
  usual_on (sets_stop (suc i) calls pick) = host_on (suc i) _ (h.stop_set (suc i) calls pick)
  usual_on (sets_fail zero call) = loc_quiet _ c.loc.down (h.loc_fail_set call)
  usual_on (sets_fail (suc i) call) = host_on (suc i) _ (h.fail_set (suc i) call)
  usual_on (server_waits i n) = either (has_host c i) _ _ (λ there. timed_on i n (c.hosts i).down there refl) (λ none. h.void)
  usual_on (wakes i) = host_on i _ (h.wakes i)
  usual_on nothing = h.void

  pub each_ran : (x : CellInput) → R (node_moved c x) (ran_by c x)
  each_ran (usual x) = usual_on x
  each_ran (admin_begins n act) = either (is_gone c n) _ _ (λ gone. h.void) (λ up. admin_begun_on n act (c.admins n).running up refl)
  each_ran (admin_waits n) = either (is_gone c n) _ _ (λ gone. h.void) (λ up. admin_waited_on n (c.admins n).running up refl)
  each_ran (admin_stops n) = either (is_gone c n) _ _ (λ gone. h.void) (λ up. h.admins.stops n up)
  each_ran (admin_starts n) = either (c.gone n) _ _ (λ gone. h.admins.starts n gone) (λ up. h.void)

-- A run in which administrators do nothing is one of the cell without them, but for their entries.
use Rattle.std.proofs.Common.{◌≡◌, ℕ, zero, suc, ◌++◌, Bool, true, false, cond, map, List, [], ◌∷◌, Option, Some, None, refl, sym, subst, ap, ◌∙◌, arith}
use Rattle.std.proofs.lemmas.Bool.{ltb-true}
use Rattle.std.proofs.lemmas.List.{append-nil}
use Rattle.std.specs.Prelude.{nat_lt, ◌<◌}
use Rattle.afs_num.specs.Nodes.{same_node}
use Rattle.afs_num.specs.declared.messages.Carried.{Carried}
use Rattle.afs_num.specs.declared.messages.Carried.TheVariants as carried
use Rattle.afs_num.specs.declared.messages.Message.{Message}
use Rattle.afs_num.specs.declared.messages.Received.TheVariants.{Whole}
use Rattle.afs_num.specs.declared.types.Head.{Head}
use Rattle.afs_num.specs.declared.types.Node.{Node}
use Rattle.afs_num.specs.declared.types.Node.TheVariants.{Admin, Client, Loc, Server}
use Rattle.spec_history.specs.declared.acts.Act.{Act}
use Rattle.spec_history.specs.declared.lines.Line.TheVariants as lines
use Rattle.spec_history.specs.declared.scripts.AdminAct.{AdminAct}
use Rattle.spec_history.specs.declared.scripts.Script.{Script}
use Rattle.spec_model.specs.Calls.{admitted, is_sent_again, Admitted}
use Rattle.spec_model.specs.Calls as pairs
use Rattle.spec_rows.specs.ClientRow.{act_of}
use Rattle.spec_rows.specs.Going.{Going, Seek}
use Rattle.spec_rows.specs.Hosts.{crashed, set_to_fail, set_to_stop, Fall, HostStep, Luck, Outcome}
use Rattle.spec_rows.specs.LocRow.{LocState}
use Rattle.spec_rows.specs.LocSteps.{loc_kind}
use Rattle.spec_rows.specs.Runs.{begins, client_starts, client_stops, gives, message_at, nothing, server_waits, sets_fail, sets_stop, starts_again, stops, ticks, waits, wakes, Entry, Input, RunsTo}
use Rattle.spec_rows.specs.States.{BackCall}
use Rattle.spec_rows.specs.Steps.{Step}
use Rattle.spec_adminrows.specs.Acts.{answered, begins_with, refused}
use Rattle.spec_adminrows.specs.AdminRow.{admin_begin_row, admin_row, admin_timeout_line, admin_timeout_row, admits, ask_of, awaits, dump_held, errand_of, gets, hears, is_awaited, label_in, new_admin, sends_again, told, turned, AdminState}
use Rattle.spec_adminrows.specs.Turns.{dead}
use Rattle.spec_adminrows.specs.declared.turns.Running.{Running}
use Rattle.spec_adminrows.specs.declared.turns.Turn.{Turn}
use Rattle.spec_adminrows.specs.declared.turns.Turn.TheVariants as turns
use Rattle.spec_volrows.specs.VolStates.{NodeState, PieceCall}
use Rattle.law_legal.proofs.RunsAreLegal.{run_legal}
use Rattle.law_legal.proofs.RunsEnd.{run_ends}
use Rattle.spec_runs.specs.NodeRuns.{admin_begins, admin_begun, admin_falls, admin_moves, admin_rises, admin_starts, admin_stops, admin_waited, admin_waits, begun_by, call_timed, given_at, given_to, has_host, is_away, is_gone, loc_restarted, loc_up, node_moved, node_start, piece_timed, server_restarted, server_timed, server_up, sought_for, usual, usually_moved, voided, waited_by, CellInput, NodeCell, NodeLeads, NodeMoved, NodeRunsTo}
use Rattle.spec_runs.specs.PlainRuns.{file_cell, plain_input}
use Rattle.spec_runs.proofs.Plain.{plain_runs}
use Rattle.law_idle.specs.Idle.{but_for_admins, is_stop, AreIdle, IdleRunsAreLegal, IdleRunsEndWell, IsIdle}

-- ---- the cell without its administrators

abbrev shut : ℕ → NodeCell → NodeCell
shut servers c = record c { admin_count = 0; admins = λ n. new_admin servers 1; gone = λ n. false }

abbrev shut_moved : ℕ → NodeMoved → NodeMoved
shut_moved servers m = record { entry = but_for_admins m.entry; cell = shut servers m.cell }

-- what an administrator is given comes to nothing
abbrev still : CellInput → CellInput
still (usual x) = usual x
still x = usual nothing

abbrev without : Script → Script
without s = record s { admins = 0 }

-- no number is below 0
below_none : (n : ℕ) (b : Bool) → nat_lt n 0 ≡ b → b ≡ false
below_none n true h = let below : n < 0 = ltb-true n 0 h in absurd (omega (arith, below))
below_none n false h = refl

none_up : (servers n : ℕ) (c : NodeCell) → is_gone (shut servers c) n ≡ true
none_up servers zero c = refl
none_up servers (suc n) c = rw (below_none n (nat_lt n 0) refl) refl

-- ---- steps of administrators that tell more than a stop

Busy : Step AdminState → Type 0
Busy s = is_stop s.lines ≡ false

busy_either : (b : Bool) (s t : Step AdminState) → is_stop s.lines ≡ false → is_stop t.lines ≡ false → is_stop (cond b s t).lines ≡ false
busy_either true s t h k = h
busy_either false s t h k = k

begun_busy : (me : Node) (a : AdminState) (act : AdminAct) (t : Turn) → is_stop (turned me a act (lines.BeginAdmin me act ∷ []) t).lines ≡ false
begun_busy me a act (turns.Goes p) = refl
begun_busy me a act (turns.Keeps label bytes p) = refl
begun_busy me a act (turns.Ends code) = refl
begun_busy me a act (turns.Sticks code) = refl
begun_busy me a act turns.Passes = refl

begins_busy : (me : Node) (a : AdminState) (act : AdminAct) → is_stop (admin_begin_row me a act).lines ≡ false
unfolding admin_begin_row
begins_busy me a act = begun_busy me a act (begins_with act (dump_held (label_in act) a.dumps))

given_busy : (me : Node) (a : AdminState) (act : AdminAct) (place : ℕ) (t : Turn) → is_stop (turned me a act (lines.Given place ∷ []) t).lines ≡ false
given_busy me a act place (turns.Goes p) = refl
given_busy me a act place (turns.Keeps label bytes p) = refl
given_busy me a act place (turns.Ends code) = refl
given_busy me a act place (turns.Sticks code) = refl
given_busy me a act place turns.Passes = refl

hears_busy : (me : Node) (a : AdminState) (place : ℕ) (r : Running) (head : Head) (x : Carried) → is_stop (hears me a place r head x).lines ≡ false
hears_busy me a place r head (carried.Call user call) = refl
hears_busy me a place r head (carried.Refusal code) = given_busy me a r.act place (refused r.place code)
hears_busy me a place r head (carried.Reply reply) = given_busy me a r.act place (answered (errand_of a r.act) r.place reply)
hears_busy me a place r head carried.Notice = refl

awaits_busy : (me : Node) (a : AdminState) (place : ℕ) (head : Head) (x : Carried) (o : Option Running) → is_stop (awaits me a place head x o).lines ≡ false
awaits_busy me a place head x None = refl
awaits_busy me a place head x (Some r) = busy_either (is_awaited a head (ask_of a r)) (hears me a place r head x) (told a place []) (hears_busy me a place r head x) refl

admits_busy : (a : AdminState) (place : ℕ) (head : Head) (o : Admitted Message) → is_stop (admits a place head o).lines ≡ false
admits_busy a place head pairs.runs = refl
admits_busy a place head (pairs.kept reply) = refl
admits_busy a place head pairs.in_progress = refl
admits_busy a place head pairs.older = refl
admits_busy a place head (pairs.wrong_boot boot) = refl

gets_busy : (me : Node) (a : AdminState) (place : ℕ) (head : Head) (x : Carried) → is_stop (gets me a place head x).lines ≡ false
gets_busy me a place head (carried.Call user call) = admits_busy a place head (admitted a.epoch a.seats head)
gets_busy me a place head (carried.Refusal code) = awaits_busy me a place head (carried.Refusal code) a.running
gets_busy me a place head (carried.Reply reply) = awaits_busy me a place head (carried.Reply reply) a.running
gets_busy me a place head carried.Notice = awaits_busy me a place head carried.Notice a.running

row_busy : (me : Node) (a : AdminState) (place : ℕ) (m : Message) → is_stop (admin_row me a place (Whole m)).lines ≡ false
unfolding admin_row
row_busy me a place m = busy_either (same_node m.head.to me) (gets me a place m.head m.carried) (told a place []) (gets_busy me a place m.head m.carried) refl

late_busy : (me : Node) (a : AdminState) (r : Running) (t : Turn) → is_stop (turned me a r.act (admin_timeout_line me a (ask_of a r) ∷ []) t).lines ≡ false
late_busy me a r (turns.Goes p) = refl
late_busy me a r (turns.Keeps label bytes p) = refl
late_busy me a r (turns.Ends code) = refl
late_busy me a r (turns.Sticks code) = refl
late_busy me a r turns.Passes = refl

timeout_busy : (me : Node) (a : AdminState) (r : Running) → is_stop (admin_timeout_row me a r).lines ≡ false
unfolding admin_timeout_row
timeout_busy me a r = busy_either (is_sent_again a.tries) (sends_again me a (ask_of a r)) (turned me a r.act (admin_timeout_line me a (ask_of a r) ∷ []) (refused r.place dead)) refl (late_busy me a r (refused r.place dead))

-- ---- each input

module _ (servers : ℕ) (c : NodeCell) where
  Same : NodeMoved → NodeMoved → Type 0
  Same x m = x ≡ shut_moved servers m

  either : (b : Bool) (x y m o : NodeMoved) → x ≡ shut_moved servers m → y ≡ shut_moved servers o → cond b x y ≡ shut_moved servers (cond b m o)
  either true x y m o h k = h
  either false x y m o h k = k

  -- ---- without administrators

  piece_on : (i : ℕ) (n : Node) (o : Option PieceCall) → piece_timed (shut servers c) i n o ≡ shut_moved servers (piece_timed c i n o)
  piece_on i n None = refl
  piece_on i n (Some p) = refl

  call_on : (i : ℕ) (n : Node) (o : Option BackCall) → call_timed (shut servers c) i n o ≡ shut_moved servers (call_timed c i n o)
  call_on i n None = piece_on i n ((c.hosts i).state.vol.calls n)
  call_on i n (Some b) = refl

  timed_on : (i : ℕ) (n : Node) (d : Option Fall) → server_timed (shut servers c) i n d ≡ shut_moved servers (server_timed c i n d)
  timed_on i n None = call_on i n ((c.hosts i).state.file.backs.calls n)
  timed_on i n (Some fall) = refl

  up_on : (i : ℕ) (s : HostStep NodeState) (d : Option Fall) → server_up (shut servers c) i s d ≡ shut_moved servers (server_up c i s d)
  up_on i s None = refl
  up_on i s (Some fall) = refl

  risen_on : (i : ℕ) (after : Bool) (o : Outcome) (d : Option Fall) → server_restarted (shut servers c) i after o d ≡ shut_moved servers (server_restarted c i after o d)
  risen_on i after o None = refl
  risen_on i after o (Some fall) = refl

  loc_on : (s : HostStep LocState) (d : Option Fall) → loc_up (shut servers c) s d ≡ shut_moved servers (loc_up c s d)
  loc_on s None = refl
  loc_on s (Some fall) = refl

  loc_risen : (after : Bool) (o : Outcome) (d : Option Fall) → loc_restarted (shut servers c) after o d ≡ shut_moved servers (loc_restarted c after o d)
  loc_risen after o None = refl
  loc_risen after o (Some fall) = refl

  begun_on : (n : ℕ) (act : Act) (o : Option Going) → begun_by (shut servers c) n act o ≡ shut_moved servers (begun_by c n act o)
  begun_on n act None = refl
  begun_on n act (Some other) = refl

  sought_on : (n : ℕ) (o : Option Seek) → sought_for (shut servers c) n o ≡ shut_moved servers (sought_for c n o)
  sought_on n None = refl
  sought_on n (Some k) = refl

  waited_on : (n : ℕ) (o : Option Going) → waited_by (shut servers c) n o ≡ shut_moved servers (waited_by c n o)
  waited_on n None = sought_on n (c.clients n).client.seeking
  waited_on n (Some act) = refl

  -- ---- an administrator

  -- its step tells no more than a stop
  own_stop : (n : ℕ) (s : Step AdminState) → s.sent ≡ [] → voided (shut servers c) ≡ shut_moved servers (admin_moves c n s)
  own_stop n s none = ap (λ (ms : List Message). record { entry = (voided (shut servers c)).entry; cell = record (shut servers c) { sent = ms } }) (sym (ap (λ (ms : List Message). c.sent ++ ms) none ∙ append-nil c.sent))

  own_busy : (n : ℕ) (s : Step AdminState) → is_stop s.lines ≡ false → IsIdle (admin_moves c n s).entry → voided (shut servers c) ≡ shut_moved servers (admin_moves c n s)
  own_busy n s busy idle = let no : true ≡ false = sym (idle refl) ∙ busy in absurd cc

  unless : (b : Bool) (m : NodeMoved) → (IsIdle m.entry → voided (shut servers c) ≡ shut_moved servers m) → IsIdle (cond b (voided c) m).entry → voided (shut servers c) ≡ shut_moved servers (cond b (voided c) m)
  unless true m h idle = refl
  unless false m h idle = h idle

  begun_admin : (n : ℕ) (act : AdminAct) (o : Option Running) → IsIdle (admin_begun c n act o).entry → voided (shut servers c) ≡ shut_moved servers (admin_begun c n act o)
  begun_admin n act None idle = own_busy n (admin_begin_row (Admin n) (c.admins n) act) (begins_busy (Admin n) (c.admins n) act) idle
  begun_admin n act (Some other) idle = refl

  waited_admin : (n : ℕ) (o : Option Running) → IsIdle (admin_waited c n o).entry → voided (shut servers c) ≡ shut_moved servers (admin_waited c n o)
  waited_admin n None idle = refl
  waited_admin n (Some r) idle = own_busy n (admin_timeout_row (Admin n) (c.admins n) r) (timeout_busy (Admin n) (c.admins n) r) idle

  started_admin : (n : ℕ) (b : Bool) → voided (shut servers c) ≡ shut_moved servers (cond b (admin_rises c n) (voided c))
  started_admin n true = own_stop n (record { state = c.admins n; lines = lines.Restart (Admin n) (c.admins n).epoch ∷ []; sent = [] }) refl
  started_admin n false = refl

  -- ---- a message

  to_on : (place : ℕ) (luck : Luck) (m : Message) (n : Node) → IsIdle (given_to c place luck m n).entry → given_to (shut servers c) place luck m n ≡ shut_moved servers (given_to c place luck m n)
  to_on place luck m (Server i) idle = either (has_host c i) _ _ _ _ (up_on i _ (c.hosts i).down) refl
  to_on place luck m (Client n) idle = either (is_away c n) _ _ _ _ refl refl
  to_on place luck m Loc idle = loc_on _ c.loc.down
  to_on place luck m (Admin n) idle =
      ap (λ (b : Bool). cond b (voided (shut servers c)) (admin_moves (shut servers c) n (admin_row (Admin n) (new_admin servers 1) place (Whole m)))) (none_up servers n c)
      ∙ unless (is_gone c n) (admin_moves c n (admin_row (Admin n) (c.admins n) place (Whole m))) (own_busy n (admin_row (Admin n) (c.admins n) place (Whole m)) (row_busy (Admin n) (c.admins n) place m)) idle

  at_on : (place : ℕ) (luck : Luck) (o : Option Message) → IsIdle (given_at c place luck o).entry → given_at (shut servers c) place luck o ≡ shut_moved servers (given_at c place luck o)
  at_on place luck None idle = refl
  at_on place luck (Some m) idle = to_on place luck m m.head.to idle

  -- ---- every input

  usual_on : (x : Input) → IsIdle (usually_moved c x).entry → usually_moved (shut servers c) x ≡ shut_moved servers (usually_moved c x)
  unfolding usually_moved
  usual_on (begins n act) idle = either (is_away c n) _ _ _ _ refl (begun_on n act (act_of (c.clients n).client))
  usual_on (gives place luck) idle = at_on place luck (message_at c.sent place) idle
  usual_on (waits n) idle = either (is_away c n) _ _ _ _ refl (waited_on n (c.clients n).client.running)
  usual_on (ticks zero) idle = refl
  usual_on (ticks (suc n)) idle = refl
  usual_on (client_stops n) idle = either (is_away c n) _ _ _ _ refl refl
  usual_on (client_starts n) idle = either (c.away n) _ _ _ _ refl refl
  usual_on (stops zero) idle = loc_on (crashed loc_kind c.loc) c.loc.down
  usual_on (stops (suc i)) idle = either (has_host c (suc i)) _ _ _ _ (up_on (suc i) _ (c.hosts (suc i)).down) refl
  usual_on (starts_again zero after o) idle = loc_risen after o c.loc.down
  usual_on (starts_again (suc i) after o) idle = either (has_host c (suc i)) _ _ _ _ (risen_on (suc i) after o (c.hosts (suc i)).down) refl
  usual_on (sets_stop zero calls pick) idle = loc_on (set_to_stop loc_kind c.loc calls pick) c.loc.down
  usual_on (sets_stop (suc i) calls pick) idle = either (has_host c (suc i)) _ _ _ _ (up_on (suc i) _ (c.hosts (suc i)).down) refl
  usual_on (sets_fail zero call) idle = loc_on (set_to_fail loc_kind c.loc call) c.loc.down
  usual_on (sets_fail (suc i) call) idle = either (has_host c (suc i)) _ _ _ _ (up_on (suc i) _ (c.hosts (suc i)).down) refl
  usual_on (server_waits i n) idle = either (has_host c i) _ _ _ _ (timed_on i n (c.hosts i).down) refl
  usual_on (wakes i) idle = either (has_host c i) _ _ _ _ (up_on i _ (c.hosts i).down) refl
  usual_on nothing idle = refl

  void_is : (m : NodeMoved) → voided (shut servers c) ≡ shut_moved servers m → usually_moved (shut servers c) nothing ≡ shut_moved servers m
  unfolding usually_moved
  void_is m h = h

  moved : (x : CellInput) → IsIdle (node_moved c x).entry → node_moved (shut servers c) (still x) ≡ shut_moved servers (node_moved c x)
  moved (usual x) idle = usual_on x idle
  moved (admin_begins n act) idle = void_is (node_moved c (admin_begins n act)) (unless (is_gone c n) (admin_begun c n act (c.admins n).running) (begun_admin n act (c.admins n).running) idle)
  moved (admin_waits n) idle = void_is (node_moved c (admin_waits n)) (unless (is_gone c n) (admin_waited c n (c.admins n).running) (waited_admin n (c.admins n).running) idle)
  moved (admin_stops n) idle = void_is (node_moved c (admin_stops n)) (unless (is_gone c n) (admin_falls c n) (λ its. own_stop n (record { state = (admin_falls c n).cell.admins n; lines = lines.Crash (Admin n) ∷ []; sent = [] }) refl) idle)
  moved (admin_starts n) idle = void_is (node_moved c (admin_starts n)) (started_admin n (c.gone n))

-- ---- a run

led : (servers : ℕ) (c : NodeCell) (xs : List CellInput) (es : List Entry) (end : NodeCell) → AreIdle es → NodeLeads c xs es end → NodeLeads (shut servers c) (map still xs) (map but_for_admins es) (shut servers end)
led servers c [] [] end idle is = ap (shut servers) is
led servers c [] (e ∷ es) end idle is = absurd is
led servers c (x ∷ xs) [] end idle is = absurd is
led servers c (x ∷ xs) (e ∷ es) end idle is =
    let same : node_moved (shut servers c) (still x) ≡ shut_moved servers (node_moved c x) = moved servers c x (subst IsIdle is.0 idle.0) in (
      ap but_for_admins is.0 ∙ sym (ap (λ (m : NodeMoved). m.entry) same),
      subst (λ (k : NodeCell). NodeLeads k (map still xs) (map but_for_admins es) (shut servers end)) (sym (ap (λ (m : NodeMoved). m.cell) same)) (led servers (node_moved c x).cell xs es end idle.1 is.1),
    )

file_run : (s : Script) (history : List Entry) (end : NodeCell) → AreIdle history → NodeRunsTo history s end → RunsTo (map but_for_admins history) s (file_cell end)
file_run s history end idle run = record {
  inputs = map plain_input (map still run.inputs);
  leads = (plain_runs (without s) (map still run.inputs) (map but_for_admins history) (shut s.servers end) refl (led s.servers (node_start s) run.inputs history end idle run.leads)).leads;
}

pub idle_legal : IdleRunsAreLegal
idle_legal s history end of idle run = run_legal s (map but_for_admins history) (file_cell end) of (file_run s history end idle run)

pub idle_ends : IdleRunsEndWell
idle_ends s history end of idle run = run_ends s (map but_for_admins history) (file_cell end) of (file_run s history end idle run)

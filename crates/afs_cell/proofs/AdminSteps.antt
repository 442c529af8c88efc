-- An administrator's step, in the world and in the cell for which it stands.
use Rattle.std.proofs.Common.{refl, ap, ap₂, sym, subst, ◌∙◌, ◌≡◌, ◌⊎◌, inl, inr, ℕ, List, [], ◌∷◌, ◌++◌, drop, length, Bool, true, false, not, cond, ◌&&◌, ◌||◌, Option, Some, None, nat_eq, slice_get, if◌then◌else◌}
use Rattle.afs_num.specs.Places.{at_place}
use Rattle.afs_num.specs.declared.histories.Actor.TheVariants as actors
use Rattle.afs_num.specs.declared.messages.Message.{Message}
use Rattle.afs_num.specs.declared.messages.Received.TheVariants.{Whole}
use Rattle.afs_num.specs.declared.types.Node.{Node}
use Rattle.afs_num.specs.declared.types.Node.TheVariants.{Admin, Client, Server}
use Rattle.afs_num.specs.declared.types.Parcel.{Parcel}
use Rattle.spec_history.specs.declared.lines.Line.{Line}
use Rattle.spec_history.specs.declared.lines.Line.TheVariants as lines
use Rattle.spec_history.specs.declared.lines.Outs.{Outs}
use Rattle.spec_history.specs.declared.scripts.AdminAct.{AdminAct}
use Rattle.spec_history.specs.declared.scripts.Event.TheVariants as events
use Rattle.spec_history.specs.declared.scripts.Task.{Task}
use Rattle.spec_model.specs.Messages.{messages_spelled, parcels_read}
use Rattle.spec_copyrows.specs.Sites.{CopyState}
use Rattle.spec_rows.specs.Hosts.{steady}
use Rattle.spec_rows.specs.LocSteps.{LocHost}
use Rattle.spec_rows.specs.Runs.{gives, has_client, message_at, nothing, Entry}
use Rattle.spec_rows.specs.Steps.{Step}
use Rattle.spec_volrows.specs.NodeHosts.{NodeHost}
use Rattle.spec_adminrows.specs.AdminRow.{admin_begin_row, admin_reborn, admin_row, admin_timeout_row, waiting_on, AdminState}
use Rattle.spec_adminrows.specs.declared.turns.Running.{Running}
use Rattle.spec_runs.specs.NodeRuns.{admin_begins, admin_begun, admin_falls, admin_moves, admin_rises, admin_starts, admin_stops, admin_turned, admin_waited, admin_waits, bare_entry, given_at, given_to, is_gone, node_moved, usual, usually_moved, voided, CellInput, NodeCell, NodeMoved}
use Rattle.afs_schedule.specs.Schedules.{admin_act, admin_act_input, admin_timeout_input, is_at_rest, is_waiting_on, left_by, IsInput, ScheduleState}
use Rattle.afs_text.specs.Telling.{entries_as_told, sent_by}
use Rattle.afs_clients.specs.Happening.{entry_of, IsAskedOfAdmin}
use Rattle.afs_clients.specs.Places.{put_place}
use Rattle.afs_clients.specs.declared.clients.ClientSeat.{ClientSeat}
use Rattle.afs_clients.specs.declared.happening.AdminInput.{AdminInput}
use Rattle.afs_clients.specs.declared.happening.AdminInput.TheVariants as admin
use Rattle.afs_clients.proofs.Numbers.{client_there, each_put, length_put}
use Rattle.afs_admins.specs.Happening.{AdminHears, AdminMakes, HasBegun, HasFallen, HasRisen, HasTimedOut, IsVoidAdmin}
use Rattle.afs_admins.specs.declared.admins.AdminSeat.{AdminSeat}
use Rattle.afs_host.specs.LocSeated.{IsLocHost}
use Rattle.afs_serverhost.specs.Seated.{IsHost, ServerSeat}
use Rattle.afs_cell.specs.Steps.{IsAt, Plays}
use Rattle.afs_cell.specs.Worlds.{own_failures, IsAdmin, IsClient, WorldState}
use Rattle.afs_cell.proofs.ClientSteps.{moved_nothing, or_true, put_here, put_there, unless}
use Rattle.afs_cell.proofs.Counts.{counts_still}
use Rattle.afs_cell.proofs.HostSteps.{entry_with}
use Rattle.afs_cell.proofs.Links.{message_found, Voided}
use Rattle.afs_cell.proofs.Parcels.{messages_of-read, messages_spelled-append, parcels_read-append, told-push}

-- the world once an administrator's step was told
abbrev pub after_admin : {D : Type 0} → WorldState D → ℕ → AdminSeat → List Line → Outs → WorldState D
after_admin {D} w n now front outs = record w {
  admins = put_place n now w.admins;
  wire = w.wire ++ outs.parcels;
  history = w.history ++ entry_of (Admin n) (front ++ outs.lines) (length outs.parcels) ∷ [];
}

-- ---- the cell

-- one administrator of the cell is changed so, and nothing else but the messages
pub record AdminMoved (c : NodeCell) (n : ℕ) (m : NodeMoved) (state : AdminState) (gone : Bool) (ls : List Line) (ms : List Message) : Type 0 where
  pub entry : m.entry ≡ entry_with (actors.Node (Admin n)) ls ms
  pub loc : m.cell.loc ≡ c.loc
  pub host_count : m.cell.host_count ≡ c.host_count
  pub hosts : m.cell.hosts ≡ c.hosts
  pub count : m.cell.count ≡ c.count
  pub clients : m.cell.clients ≡ c.clients
  pub away : m.cell.away ≡ c.away
  pub clock : m.cell.clock ≡ c.clock
  pub handed : m.cell.handed ≡ c.handed
  pub admin_count : m.cell.admin_count ≡ c.admin_count
  pub sent : m.cell.sent ≡ c.sent ++ ms
  pub state_here : m.cell.admins n ≡ state
  pub gone_here : m.cell.gone n ≡ gone
  pub state_there : (j : ℕ) → nat_eq n j ≡ false → m.cell.admins j ≡ c.admins j
  pub gone_there : (j : ℕ) → nat_eq n j ≡ false → m.cell.gone j ≡ c.gone j

moves_so : (c : NodeCell) (n : ℕ) (s : Step AdminState) → AdminMoved c n (admin_moves c n s) s.state (c.gone n) s.lines s.sent
moves_so c n s = record {
  entry = refl;
  loc = refl;
  host_count = refl;
  hosts = refl;
  count = refl;
  clients = refl;
  away = refl;
  clock = refl;
  handed = refl;
  admin_count = refl;
  sent = refl;
  state_here = put_here n s.state c.admins;
  gone_here = refl;
  state_there = λ j e. put_there n s.state c.admins j e;
  gone_there = λ j e. refl;
}

turns_so : (c : NodeCell) (n : ℕ) (gone : Bool) (s : Step AdminState) → AdminMoved c n (admin_turned n gone (admin_moves c n s)) s.state gone s.lines s.sent
turns_so c n gone s = record {
  entry = refl;
  loc = refl;
  host_count = refl;
  hosts = refl;
  count = refl;
  clients = refl;
  away = refl;
  clock = refl;
  handed = refl;
  admin_count = refl;
  sent = refl;
  state_here = put_here n s.state c.admins;
  gone_here = put_here n gone c.gone;
  state_there = λ j e. put_there n s.state c.admins j e;
  gone_there = λ j e. put_there n gone c.gone j e;
}

-- ---- the world

-- a step that an input gives to an administrator
pub record AdminLinked (is : CellInput → Type 0) (t : ScheduleState) (n : ℕ) (now : AdminSeat) (front : List Line) (outs : Outs) : Type 0 where
  pub input : CellInput
  pub is_one : is input
  pub gone : Bool
  pub ms : List Message
  pub moves : AdminMoved t.cell n (node_moved t.cell input) now.mover.state gone (front ++ outs.lines) ms
  pub gone_is : now.is_away ≡ gone
  pub read : parcels_read outs.parcels ≡ messages_spelled ms
  pub plan : left_by input t.left (Admin n) ≡ now.plan
  pub plans : (j : ℕ) → nat_eq n j ≡ false → left_by input t.left (Admin j) ≡ t.left (Admin j)
  pub acts : (j : ℕ) → left_by input t.left (Client j) ≡ t.left (Client j)
  pub harmless : own_failures input ≡ 0

module _ {D : Type 0} (seen : D → Option (List ℕ)) (may_leave : D → List ℕ → Type 0) (faults limit : D → ℕ) where
  at_moved : (w : WorldState D) (t : ScheduleState) (is : CellInput → Type 0) (n : ℕ) (was now : AdminSeat) (front : List Line) (outs : Outs) → at_place w.admins n ≡ Some was → (link : AdminLinked is t n now front outs)
      → IsAt seen may_leave limit w t.cell t.left → IsAt seen may_leave limit (after_admin w n now front outs) (node_moved t.cell link.input).cell (left_by link.input t.left)
  at_moved w t is n was now front outs found link at = record {
    cell = record {
      loc = subst (λ (h : LocHost). IsLocHost seen may_leave limit w.database h) (sym link.moves.loc) at.cell.loc;
      host_count = link.moves.host_count ∙ at.cell.host_count;
      hosts = λ j z here. subst (λ (h : ℕ → NodeHost). IsHost seen may_leave limit (Server j) z (h j)) (sym link.moves.hosts) (at.cell.hosts j z here);
      count = link.moves.count ∙ at.cell.count;
      clients = λ j z here.
          let h = at.cell.clients j z here in
          record { state_is = h.state_is ∙ sym (ap (λ (f : ℕ → CopyState). f j) link.moves.clients); away_is = h.away_is ∙ sym (ap (λ (f : ℕ → Bool). f j) link.moves.away) };
      sent =
          parcels_read-append w.wire outs.parcels ∙ ap₂ (λ a b. a ++ b) at.cell.sent link.read ∙ sym (messages_spelled-append t.cell.sent link.ms)
          ∙ ap messages_spelled (sym link.moves.sent);
      clock = link.moves.clock ∙ at.cell.clock;
      handed = link.moves.handed ∙ at.cell.handed;
      admin_count = link.moves.admin_count ∙ (at.cell.admin_count ∙ sym (length_put n now w.admins));
      admins =
          each_put (λ (j : ℕ) (z : AdminSeat). IsAdmin z (t.cell.admins j) (t.cell.gone j)) (λ (j : ℕ) (z : AdminSeat). IsAdmin z ((node_moved t.cell link.input).cell.admins j) ((node_moved t.cell link.input).cell.gone j)) n now was w.admins found at.cell.admins
          (λ j z apart h. record { state_is = h.state_is ∙ sym (link.moves.state_there j apart); gone_is = h.gone_is ∙ sym (link.moves.gone_there j apart) })
          (record { state_is = sym link.moves.state_here; gone_is = link.gone_is ∙ sym link.moves.gone_here });
    };
    acts = λ j z here. link.acts j ∙ at.acts j z here;
    orders =
        each_put (λ (j : ℕ) (z : AdminSeat). t.left (Admin j) ≡ z.plan) (λ (j : ℕ) (z : AdminSeat). left_by link.input t.left (Admin j) ≡ z.plan) n now was w.admins found at.orders
        (λ j z apart h. link.plans j apart ∙ h) link.plan;
  }

  pub admin_plays : (is : CellInput → Type 0) (t : ScheduleState) (w : WorldState D) (n : ℕ) (was now : AdminSeat) (front : List Line) (outs : Outs) → sent_by w.history ≡ length w.wire → at_place w.admins n ≡ Some was
      → IsAt seen may_leave limit w t.cell t.left → AdminLinked is t n now front outs → Plays seen may_leave faults limit is t w (after_admin w n now front outs)
  admin_plays is t w n was now front outs all found at link = record {
    input = link.input;
    is_one = link.is_one;
    history =
        told-push w.wire outs.parcels w.history (entry_of (Admin n) (front ++ outs.lines) (length outs.parcels)) all refl
        ∙ ap (λ (e : Entry). entries_as_told w.wire w.history ++ bare_entry e ∷ [])
        (ap (λ (ms : List Message). entry_with (actors.Node (Admin n)) (front ++ outs.lines) ms) (messages_of-read outs.parcels link.ms link.read) ∙ sym link.moves.entry);
    at = at_moved w t is n was now front outs found link at;
    counts = counts_still faults link.input (node_moved t.cell link.input).entry w link.harmless;
  }

-- ---- which input it is

up_here : (c : NodeCell) (n : ℕ) → has_client c.admin_count n ≡ true → c.gone n ≡ false → is_gone c n ≡ false
up_here c n has up = ap₂ (λ (a b : Bool). not a || b) has up

-- a step that leaves the administrator up, and its acts but for those that the input takes
makes_linked : (is : CellInput → Type 0) (t : ScheduleState) (n : ℕ) (x : CellInput) (was now : AdminSeat) (front : List Line) (outs : Outs) (s : Step AdminState) → is x → node_moved t.cell x ≡ admin_moves t.cell n s → IsAdmin was (t.cell.admins n) (t.cell.gone n)
    → AdminMakes front s was now outs → left_by x t.left (Admin n) ≡ now.plan → ((j : ℕ) → nat_eq n j ≡ false → left_by x t.left (Admin j) ≡ t.left (Admin j)) → ((j : ℕ) → left_by x t.left (Client j) ≡ t.left (Client j)) → own_failures x ≡ 0 → AdminLinked is t n now front outs
makes_linked is t n x was now front outs s one moves here makes plan plans acts harmless = record {
  input = x;
  is_one = one;
  gone = false;
  ms = s.sent;
  moves =
      subst (λ (m : NodeMoved). AdminMoved t.cell n m now.mover.state false (front ++ outs.lines) s.sent) (sym moves)
      (subst (λ (st : AdminState). AdminMoved t.cell n (admin_moves t.cell n s) st false (front ++ outs.lines) s.sent) (sym makes.state)
      (subst (λ (b : Bool). AdminMoved t.cell n (admin_moves t.cell n s) s.state b (front ++ outs.lines) s.sent) (sym here.gone_is ∙ makes.up)
      (subst (λ (ls : List Line). AdminMoved t.cell n (admin_moves t.cell n s) s.state (t.cell.gone n) ls s.sent) (sym makes.lines) (moves_so t.cell n s))));
  gone_is = makes.stays_up;
  read = makes.sent;
  plan = plan;
  plans = plans;
  acts = acts;
  harmless = harmless;
}

begins_so : (c : NodeCell) (n : ℕ) (act : AdminAct) → is_gone c n ≡ false → (c.admins n).running ≡ None → admin_act_input c n (Some act) ≡ admin_begins n act
begins_so c n act up idle = ap₂ (λ (a : Bool) (r : Option Running). if not a && is_at_rest r then admin_begins n act else usual nothing) up idle

moved_begun : (c : NodeCell) (n : ℕ) (act : AdminAct) → is_gone c n ≡ false → (c.admins n).running ≡ None → node_moved c (admin_begins n act) ≡ admin_moves c n (admin_begin_row (Admin n) (c.admins n) act)
moved_begun c n act up idle = unless (is_gone c n) (voided c) (admin_begun c n act (c.admins n).running) up ∙ ap (admin_begun c n act) idle

moved_waited : (c : NodeCell) (n : ℕ) (act : Running) → is_gone c n ≡ false → (c.admins n).running ≡ Some act → node_moved c (admin_waits n) ≡ admin_moves c n (admin_timeout_row (Admin n) (c.admins n) act)
moved_waited c n act up runs = unless (is_gone c n) (voided c) (admin_waited c n (c.admins n).running) up ∙ ap (admin_waited c n) runs

moved_heard : (c : NodeCell) (n place : ℕ) (m : Message) → message_at c.sent place ≡ Some m → m.head.to ≡ Admin n → is_gone c n ≡ false → node_moved c (usual (gives place steady)) ≡ admin_moves c n (admin_row (Admin n) (c.admins n) place (Whole m))
unfolding usually_moved
moved_heard c n place m at to up =
    ap (given_at c place steady) at ∙ (ap (given_to c place steady m) to
    ∙ unless (is_gone c n) (voided c) (admin_moves c n (admin_row (Admin n) (c.admins n) place (Whole m))) up)

moved_fallen : (c : NodeCell) (n : ℕ) → is_gone c n ≡ false → node_moved c (admin_stops n) ≡ admin_falls c n
moved_fallen c n up = unless (is_gone c n) (voided c) (admin_falls c n) up

moved_risen : (c : NodeCell) (n : ℕ) → c.gone n ≡ true → node_moved c (admin_starts n) ≡ admin_rises c n
moved_risen c n gone = ap (λ (b : Bool). cond b (admin_rises c n) (voided c)) gone

module _ {D : Type 0} (seen : D → Option (List ℕ)) (may_leave : D → List ℕ → Type 0) (faults limit : D → ℕ) (t : ScheduleState) (w : WorldState D) (n : ℕ) (was now : AdminSeat) (outs : Outs) (at : IsAt seen may_leave limit w t.cell t.left) (found : at_place w.admins n ≡ Some was) where
  here : IsAdmin was (t.cell.admins n) (t.cell.gone n)
  here = at.cell.admins n was found

  is_up : was.is_away ≡ false → is_gone t.cell n ≡ false
  is_up up = up_here t.cell n (client_there w.admins n was t.cell.admin_count found at.cell.admin_count) (sym here.gone_is ∙ up)

  pub link_begun : HasBegun n was now outs → AdminLinked (IsInput t (events.Act (Admin n))) t n now [] outs
  link_begun h =
      let up = is_up h.makes.up in
      let idle : (t.cell.admins n).running ≡ None = ap (λ (a : AdminState). a.running) (sym here.state_is) ∙ h.idle in
      let plan : t.left (Admin n) ≡ was.plan = at.orders n was found in
      let next : admin_act (slice_get (t.left (Admin n)) 0) ≡ Some h.act = ap (λ (ts : List Task). admin_act (slice_get ts 0)) plan ∙ h.next in
      makes_linked (IsInput t (events.Act (Admin n))) t n (admin_begins n h.act) was now [] outs (admin_begin_row (Admin n) (t.cell.admins n) h.act)
      (sym (ap (admin_act_input t.cell n) next ∙ begins_so t.cell n h.act up idle)) (moved_begun t.cell n h.act up idle) here
      (subst (λ (a : AdminState). AdminMakes [] (admin_begin_row (Admin n) a h.act) was now outs) here.state_is h.makes)
      (put_here n (drop 1 (t.left (Admin n))) (λ (j : ℕ). t.left (Admin j)) ∙ (ap (λ (ts : List Task). drop 1 ts) plan ∙ sym h.plan)) (λ j e. put_there n (drop 1 (t.left (Admin n))) (λ (k : ℕ). t.left (Admin k)) j e) (λ j. refl) refl

  pub link_timed_out : (callee : Node) → HasTimedOut n callee was now outs → AdminLinked (IsInput t (events.Timeout (Admin n) callee)) t n now [] outs
  link_timed_out callee h =
      let up = is_up h.makes.up in
      let runs : (t.cell.admins n).running ≡ Some h.act = ap (λ (a : AdminState). a.running) (sym here.state_is) ∙ h.runs in
      let same : is_waiting_on callee (waiting_on (t.cell.admins n)) ≡ true = ap (λ (a : AdminState). is_waiting_on callee (waiting_on a)) (sym here.state_is) ∙ h.callee_is in
      makes_linked (IsInput t (events.Timeout (Admin n) callee)) t n (admin_waits n) was now [] outs (admin_timeout_row (Admin n) (t.cell.admins n) h.act)
      (sym (ap (λ (b : Bool). if b then admin_waits n else usual nothing) same)) (moved_waited t.cell n h.act up runs) here
      (subst (λ (a : AdminState). AdminMakes [] (admin_timeout_row (Admin n) a h.act) was now outs) here.state_is h.makes)
      (at.orders n was found ∙ sym h.plan) (λ j e. refl) (λ j. refl) refl

  pub link_heard : (place : ℕ) (p : Parcel) → at_place w.wire place ≡ Some p → p.head.to ≡ Admin n → AdminHears n place p.bytes was now outs
      → AdminLinked (IsInput t (events.Deliver place)) t n now (lines.Given place ∷ []) outs
  link_heard place p stands to h =
      let f = message_found seen may_leave faults limit w t.cell place p at.cell stands in
      let makes = h.makes f.message f.carries.bytes in
      makes_linked (IsInput t (events.Deliver place)) t n (usual (gives place steady)) was now (lines.Given place ∷ []) outs (admin_row (Admin n) (t.cell.admins n) place (Whole f.message))
      (steady, (refl, tt)) (moved_heard t.cell n place f.message f.at (sym (ap (λ x. x.to) f.carries.head) ∙ to) (is_up makes.up)) here
      (subst (λ (a : AdminState). AdminMakes (lines.Given place ∷ []) (admin_row (Admin n) a place (Whole f.message)) was now outs) here.state_is makes)
      (at.orders n was found ∙ sym h.plan) (λ j e. refl) (λ j. refl) refl

  nothing_sent : outs.parcels ≡ [] → parcels_read outs.parcels ≡ messages_spelled []
  nothing_sent e = ap parcels_read e

  pub link_fallen : HasFallen n was now outs → AdminLinked (IsInput t (events.Crash (Admin n))) t n now [] outs
  link_fallen h = record {
    input = admin_stops n;
    is_one = refl;
    gone = true;
    ms = [];
    moves =
        subst (λ (m : NodeMoved). AdminMoved t.cell n m now.mover.state true outs.lines []) (sym (moved_fallen t.cell n (is_up h.up)))
        (subst (λ (ls : List Line). AdminMoved t.cell n (admin_falls t.cell n) now.mover.state true ls []) (sym h.tells.lines)
        (subst (λ (st : AdminState). AdminMoved t.cell n (admin_falls t.cell n) st true (lines.Crash (Admin n) ∷ []) []) (sym (h.state ∙ ap admin_reborn here.state_is))
        (turns_so t.cell n true (record { state = admin_reborn (t.cell.admins n); lines = lines.Crash (Admin n) ∷ []; sent = [] }))));
    gone_is = h.away;
    read = nothing_sent h.tells.sent;
    plan = at.orders n was found ∙ sym h.plan;
    plans = λ j e. refl;
    acts = λ j. refl;
    harmless = refl;
  }

  pub link_risen : HasRisen n was now outs → AdminLinked (IsInput t (events.Restart (Admin n))) t n now [] outs
  link_risen h = record {
    input = admin_starts n;
    is_one = refl;
    gone = false;
    ms = [];
    moves =
        subst (λ (m : NodeMoved). AdminMoved t.cell n m now.mover.state false outs.lines []) (sym (moved_risen t.cell n (sym here.gone_is ∙ h.away)))
        (subst (λ (ls : List Line). AdminMoved t.cell n (admin_rises t.cell n) now.mover.state false ls [])
        (sym (h.tells.lines ∙ ap (λ (a : AdminState). lines.Restart (Admin n) a.epoch ∷ []) here.state_is))
        (subst (λ (st : AdminState). AdminMoved t.cell n (admin_rises t.cell n) st false (lines.Restart (Admin n) (t.cell.admins n).epoch ∷ []) []) (sym (h.state ∙ here.state_is))
        (turns_so t.cell n false (record { state = t.cell.admins n; lines = lines.Restart (Admin n) (t.cell.admins n).epoch ∷ []; sent = [] }))));
    gone_is = h.up;
    read = nothing_sent h.tells.sent;
    plan = at.orders n was found ∙ sym h.plan;
    plans = λ j e. refl;
    acts = λ j. refl;
    harmless = refl;
  }

-- ---- void

-- no such administrator, or it is down
absent : (c : NodeCell) (n : ℕ) → (has_client c.admin_count n ≡ false) ⊎ (c.gone n ≡ true) → is_gone c n ≡ true
absent c n (inl e) = ap (λ (b : Bool). not b || c.gone n) e
absent c n (inr e) = or_true (not (has_client c.admin_count n)) (c.gone n) e

no_begin : (n : ℕ) (act : AdminAct) (a i : Bool) → (a ≡ true) ⊎ (i ≡ false) → (if not a && i then admin_begins n act else usual nothing) ≡ usual nothing
no_begin n act a i (inl e) = ap (λ (b : Bool). if not b && i then admin_begins n act else usual nothing) e
no_begin n act true i (inr e) = refl
no_begin n act false i (inr e) = ap (λ (b : Bool). if b then admin_begins n act else usual nothing) e

no_act : (c : NodeCell) (n : ℕ) (next : Option AdminAct) → (is_gone c n ≡ true) ⊎ ((is_at_rest (c.admins n).running ≡ false) ⊎ (next ≡ None)) → admin_act_input c n next ≡ usual nothing
no_act c n None none = refl
no_act c n (Some act) (inl e) = no_begin n act (is_gone c n) (is_at_rest (c.admins n).running) (inl e)
no_act c n (Some act) (inr (inl e)) = no_begin n act (is_gone c n) (is_at_rest (c.admins n).running) (inr e)
no_act c n (Some act) (inr (inr e)) = absurd cc

waits_void : (c : NodeCell) (n : ℕ) → is_gone c n ≡ true → node_moved c (admin_waits n) ≡ voided c
waits_void c n e = ap (λ (b : Bool). cond b (voided c) (admin_waited c n (c.admins n).running)) e

timeout_void : (c : NodeCell) (n : ℕ) (same : Bool) → (is_gone c n ≡ true) ⊎ (same ≡ false) → node_moved c (if same then admin_waits n else usual nothing) ≡ voided c
timeout_void c n false none = moved_nothing c
timeout_void c n true (inl e) = waits_void c n e
timeout_void c n true (inr e) = absurd cc

stops_void : (c : NodeCell) (n : ℕ) → is_gone c n ≡ true → node_moved c (admin_stops n) ≡ voided c
stops_void c n e = ap (λ (b : Bool). cond b (voided c) (admin_falls c n)) e

starts_void : (c : NodeCell) (n : ℕ) → c.gone n ≡ false → node_moved c (admin_starts n) ≡ voided c
starts_void c n e = ap (λ (b : Bool). cond b (admin_rises c n) (voided c)) e

heard_void : (c : NodeCell) (n place : ℕ) (m : Message) → message_at c.sent place ≡ Some m → m.head.to ≡ Admin n → is_gone c n ≡ true → node_moved c (usual (gives place steady)) ≡ voided c
unfolding usually_moved
heard_void c n place m at to gone =
    ap (given_at c place steady) at ∙ (ap (given_to c place steady m) to
    ∙ ap (λ (b : Bool). cond b (voided c) (admin_moves c n (admin_row (Admin n) (c.admins n) place (Whole m)))) gone)

pub void_heard : (t : ScheduleState) (n place : ℕ) (m : Message) → message_at t.cell.sent place ≡ Some m → m.head.to ≡ Admin n → (has_client t.cell.admin_count n ≡ false) ⊎ (t.cell.gone n ≡ true) → Voided (IsInput t (events.Deliver place)) t
void_heard t n place m at to none = record { input = usual (gives place steady); is_one = (steady, (refl, tt)); moves = heard_void t.cell n place m at to (absent t.cell n none); left = refl; harmless = refl }

act_void : (t : ScheduleState) (n : ℕ) → (is_gone t.cell n ≡ true) ⊎ ((is_at_rest (t.cell.admins n).running ≡ false) ⊎ (admin_act (slice_get (t.left (Admin n)) 0) ≡ None)) → Voided (IsInput t (events.Act (Admin n))) t
act_void t n none = record { input = usual nothing; is_one = sym (no_act t.cell n (admin_act (slice_get (t.left (Admin n)) 0)) none); moves = moved_nothing t.cell; left = refl; harmless = refl }

timed_harmless : (n : ℕ) (b : Bool) → own_failures (if b then admin_waits n else usual nothing) ≡ 0
timed_harmless n true = refl
timed_harmless n false = refl

timed_left : (n : ℕ) (b : Bool) (left : Node → List Task) → left_by (if b then admin_waits n else usual nothing) left ≡ left
timed_left n true left = refl
timed_left n false left = refl

timed_void : (t : ScheduleState) (n : ℕ) (callee : Node) → (is_gone t.cell n ≡ true) ⊎ (is_waiting_on callee (waiting_on (t.cell.admins n)) ≡ false) → Voided (IsInput t (events.Timeout (Admin n) callee)) t
timed_void t n callee none = record {
  input = admin_timeout_input (t.cell.admins n) n callee;
  is_one = refl;
  moves = timeout_void t.cell n (is_waiting_on callee (waiting_on (t.cell.admins n))) none;
  left = timed_left n (is_waiting_on callee (waiting_on (t.cell.admins n))) t.left;
  harmless = timed_harmless n (is_waiting_on callee (waiting_on (t.cell.admins n)));
}

module _ (t : ScheduleState) (n : ℕ) (was : AdminSeat) (here : IsAdmin was (t.cell.admins n) (t.cell.gone n)) (plan : t.left (Admin n) ≡ was.plan) where
  is_down : was.is_away ≡ true → is_gone t.cell n ≡ true
  is_down e = absent t.cell n (inr (sym here.gone_is ∙ e))

  busy_by : IsVoidAdmin admin.Act was → (is_gone t.cell n ≡ true) ⊎ ((is_at_rest (t.cell.admins n).running ≡ false) ⊎ (admin_act (slice_get (t.left (Admin n)) 0) ≡ None))
  busy_by (inl e) = inl (is_down e)
  busy_by (inr (inl busy)) = inr (inl (ap (λ (a : AdminState). is_at_rest a.running) (sym here.state_is) ∙ ap is_at_rest busy.1))
  busy_by (inr (inr e)) = inr (inr (ap (λ (ts : List Task). admin_act (slice_get ts 0)) plan ∙ e))

  timed_by : (callee : Node) → IsVoidAdmin (admin.TimeOut callee) was → (is_gone t.cell n ≡ true) ⊎ (is_waiting_on callee (waiting_on (t.cell.admins n)) ≡ false)
  timed_by callee (inl e) = inl (is_down e)
  timed_by callee (inr e) = inr (ap (λ (a : AdminState). is_waiting_on callee (waiting_on a)) (sym here.state_is) ∙ e)

  pub void_ordered : (input : AdminInput) → IsVoidAdmin input was → Voided (IsAskedOfAdmin input n t) t
  void_ordered admin.Act h = act_void t n (busy_by h)
  void_ordered (admin.TimeOut callee) h = timed_void t n callee (timed_by callee h)
  void_ordered admin.Crash h = record { input = admin_stops n; is_one = refl; moves = stops_void t.cell n (is_down h); left = refl; harmless = refl }
  void_ordered admin.Restart h = record { input = admin_starts n; is_one = refl; moves = starts_void t.cell n (sym here.gone_is ∙ h); left = refl; harmless = refl }

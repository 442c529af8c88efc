-- A client's step, in the world and in the cell for which it stands.
use Rattle.std.proofs.Common.{refl, arith, ap, ap₂, sym, subst, ◌∙◌, ◌≡◌, ◌+◌, ◌⊎◌, inl, inr, ℕ, List, [], ◌∷◌, ◌++◌, drop, length, Bool, true, false, not, cond, ◌&&◌, ◌||◌, Option, Some, None, nat_eq, slice_get, if◌then◌else◌}
use Rattle.std.proofs.lemmas.Bool.{eq-eqb}
use Rattle.afs_num.specs.Nodes.{same_node}
use Rattle.afs_num.specs.Places.{at_place}
use Rattle.afs_num.specs.declared.histories.Actor.TheVariants as actors
use Rattle.afs_num.specs.declared.messages.Message.{Message}
use Rattle.afs_num.specs.declared.messages.Received.TheVariants.{Whole}
use Rattle.afs_num.specs.declared.types.Node.{Node}
use Rattle.afs_num.specs.declared.types.Node.TheVariants.{Admin, Client, Server}
use Rattle.afs_num.specs.declared.types.Parcel.{Parcel}
use Rattle.spec_history.specs.declared.acts.Act.{Act}
use Rattle.spec_history.specs.declared.scripts.Task.{Task}
use Rattle.spec_history.specs.declared.lines.Line.{Line}
use Rattle.spec_history.specs.declared.lines.Line.TheVariants as lines
use Rattle.spec_history.specs.declared.lines.Outs.{Outs}
use Rattle.spec_history.specs.declared.scripts.Event.TheVariants as events
use Rattle.spec_model.specs.Messages.{messages_spelled, parcels_read}
use Rattle.spec_rows.specs.Callbacks.{put}
use Rattle.spec_copyrows.specs.CopyRow.{copies_reborn, copy_begin_row, copy_row}
use Rattle.spec_copyrows.specs.Sites.{CopyState}
use Rattle.spec_rows.specs.ClientRow.{act_by, act_of, act_sought}
use Rattle.spec_rows.specs.States.{Location}
use Rattle.afs_clients.specs.Happening.{copy_seek_times_out, copy_times_out, entry_of, ClientHears, ClientMakes, HasBegun, HasFallen, HasRisen, HasTimedOut, IsBegunOrGiven, IsVoidClient}
use Rattle.spec_rows.specs.Going.{Going, Seek}
use Rattle.spec_rows.specs.Runs.{begins, client_starts, client_stops, gives, has_client, message_at, nothing, locations, waits, Entry, Input}
use Rattle.spec_runs.specs.NodeRuns.{bare_entry, begun_by, client_falls, client_moves, client_rises, given_at, given_to, is_away, node_moved, sought_for, client_turned, usual, usually_moved, voided, waited_by, CellInput, NodeCell, NodeMoved}
use Rattle.spec_rows.specs.LocSteps.{LocHost}
use Rattle.spec_adminrows.specs.AdminRow.{AdminState}
use Rattle.spec_volrows.specs.NodeHosts.{NodeHost}
use Rattle.spec_rows.specs.Hosts.{steady}
use Rattle.spec_rows.specs.Steps.{Step}
use Rattle.afs_schedule.specs.Schedules.{act_input, client_act, is_idle, left_by, timeout_input, IsInput, ScheduleState}
use Rattle.afs_text.specs.Telling.{entries_as_told, sent_by}
use Rattle.afs_clients.specs.Places.{put_place}
use Rattle.afs_cell.specs.Steps.{IsAt, Plays}
use Rattle.afs_cell.specs.Worlds.{own_failures, IsClient, WorldState}
use Rattle.afs_host.specs.LocSeated.{IsLocHost}
use Rattle.afs_serverhost.specs.Seated.{IsHost}
use Rattle.afs_clients.specs.declared.clients.ClientSeat.{ClientSeat}
use Rattle.afs_admins.specs.declared.admins.AdminSeat.{AdminSeat}
use Rattle.afs_clients.specs.declared.happening.ClientInput.{ClientInput}
use Rattle.afs_clients.specs.declared.happening.ClientInput.TheVariants as client
use Rattle.afs_cell.proofs.Counts.{counts_still}
use Rattle.afs_cell.proofs.Links.{cond_same, message_found, Voided}
use Rattle.afs_cell.proofs.Parcels.{messages_of-read, messages_spelled-append, parcels_read-append, told-push}
use Rattle.afs_clients.proofs.Numbers.{client_there, each_put, length_put}
use Rattle.afs_cell.proofs.HostSteps.{entry_with}

-- the world once a client's step was told
abbrev pub after_client : {D : Type 0} → WorldState D → ℕ → ClientSeat → List Line → Outs → WorldState D
after_client {D} w n now front outs = record w {
  clients = put_place n now w.clients;
  wire = w.wire ++ outs.parcels;
  history = w.history ++ entry_of (Client n) (front ++ outs.lines) (length outs.parcels) ∷ [];
}

-- ---- the cell

-- one client of the cell is changed so, and nothing else but the messages
pub record CellMoved (c : NodeCell) (n : ℕ) (m : NodeMoved) (state : CopyState) (away : Bool) (ls : List Line) (ms : List Message) : Type 0 where
  pub entry : m.entry ≡ entry_with (actors.Node (Client n)) ls ms
  pub loc : m.cell.loc ≡ c.loc
  pub host_count : m.cell.host_count ≡ c.host_count
  pub hosts : m.cell.hosts ≡ c.hosts
  pub count : m.cell.count ≡ c.count
  pub clock : m.cell.clock ≡ c.clock
  pub handed : m.cell.handed ≡ c.handed
  pub admin_count : m.cell.admin_count ≡ c.admin_count
  pub admins : m.cell.admins ≡ c.admins
  pub gone : m.cell.gone ≡ c.gone
  pub sent : m.cell.sent ≡ c.sent ++ ms
  pub state_here : m.cell.clients n ≡ state
  pub away_here : m.cell.away n ≡ away
  pub state_there : (j : ℕ) → nat_eq n j ≡ false → m.cell.clients j ≡ c.clients j
  pub away_there : (j : ℕ) → nat_eq n j ≡ false → m.cell.away j ≡ c.away j

pub put_here : {A : Type 0} (n : ℕ) (x : A) (h : ℕ → A) → put n x h n ≡ x
put_here n x h = ap (λ (b : Bool). cond b x (h n)) (eq-eqb n n refl)

pub put_there : {A : Type 0} (n : ℕ) (x : A) (h : ℕ → A) (j : ℕ) → nat_eq n j ≡ false → put n x h j ≡ h j
put_there n x h j e = ap (λ (b : Bool). cond b x (h j)) e

moves_so : (c : NodeCell) (n : ℕ) (s : Step CopyState) → CellMoved c n (client_moves c n s) s.state (c.away n) s.lines s.sent
moves_so c n s = record {
  entry = refl;
  loc = refl;
  host_count = refl;
  hosts = refl;
  count = refl;
  clock = refl;
  handed = refl;
  admin_count = refl;
  admins = refl;
  gone = refl;
  sent = refl;
  state_here = put_here n s.state c.clients;
  away_here = refl;
  state_there = λ j e. put_there n s.state c.clients j e;
  away_there = λ j e. refl;
}

turns_so : (c : NodeCell) (n : ℕ) (away : Bool) (s : Step CopyState) → CellMoved c n (client_turned n away (client_moves c n s)) s.state away s.lines s.sent
turns_so c n away s = record {
  entry = refl;
  loc = refl;
  host_count = refl;
  hosts = refl;
  count = refl;
  clock = refl;
  handed = refl;
  admin_count = refl;
  admins = refl;
  gone = refl;
  sent = refl;
  state_here = put_here n s.state c.clients;
  away_here = put_here n away c.away;
  state_there = λ j e. put_there n s.state c.clients j e;
  away_there = λ j e. put_there n away c.away j e;
}

-- ---- the world

-- a step that an input gives to a client
pub record ClientLinked (is : CellInput → Type 0) (t : ScheduleState) (n : ℕ) (now : ClientSeat) (front : List Line) (outs : Outs) : Type 0 where
  pub input : CellInput
  pub is_one : is input
  pub away : Bool
  pub ms : List Message
  pub moves : CellMoved t.cell n (node_moved t.cell input) now.client.state away (front ++ outs.lines) ms
  pub away_is : now.is_away ≡ away
  pub read : parcels_read outs.parcels ≡ messages_spelled ms
  pub plan : left_by input t.left (Client n) ≡ now.plan
  pub plans : (j : ℕ) → nat_eq n j ≡ false → left_by input t.left (Client j) ≡ t.left (Client j)
  pub orders : (j : ℕ) → left_by input t.left (Admin j) ≡ t.left (Admin j)
  pub harmless : own_failures input ≡ 0

module _ {D : Type 0} (seen : D → Option (List ℕ)) (may_leave : D → List ℕ → Type 0) (faults limit : D → ℕ) where
  at_moved : (w : WorldState D) (t : ScheduleState) (is : CellInput → Type 0) (n : ℕ) (was now : ClientSeat) (front : List Line) (outs : Outs) → at_place w.clients n ≡ Some was → (link : ClientLinked is t n now front outs)
      → IsAt seen may_leave limit w t.cell t.left → IsAt seen may_leave limit (after_client w n now front outs) (node_moved t.cell link.input).cell (left_by link.input t.left)
  at_moved w t is n was now front outs found link at = record {
    cell = record {
      loc = subst (λ (h : LocHost). IsLocHost seen may_leave limit w.database h) (sym link.moves.loc) at.cell.loc;
      host_count = link.moves.host_count ∙ at.cell.host_count;
      hosts = λ j z here. subst (λ (h : ℕ → NodeHost). IsHost seen may_leave limit (Server j) z (h j)) (sym link.moves.hosts) (at.cell.hosts j z here);
      count = link.moves.count ∙ (at.cell.count ∙ sym (length_put n now w.clients));
      clients =
          each_put (λ (j : ℕ) (z : ClientSeat). IsClient z (t.cell.clients j) (t.cell.away j)) (λ (j : ℕ) (z : ClientSeat). IsClient z ((node_moved t.cell link.input).cell.clients j) ((node_moved t.cell link.input).cell.away j)) n now was w.clients found at.cell.clients
          (λ j z apart h. record { state_is = h.state_is ∙ sym (link.moves.state_there j apart); away_is = h.away_is ∙ sym (link.moves.away_there j apart) })
          (record { state_is = sym link.moves.state_here; away_is = link.away_is ∙ sym link.moves.away_here });
      sent =
          parcels_read-append w.wire outs.parcels ∙ ap₂ (λ a b. a ++ b) at.cell.sent link.read ∙ sym (messages_spelled-append t.cell.sent link.ms)
          ∙ ap messages_spelled (sym link.moves.sent);
      clock = link.moves.clock ∙ at.cell.clock;
      handed = link.moves.handed ∙ at.cell.handed;
      admin_count = link.moves.admin_count ∙ at.cell.admin_count;
      admins = λ j z here.
          let h = at.cell.admins j z here in
          record { state_is = h.state_is ∙ sym (ap (λ (f : ℕ → AdminState). f j) link.moves.admins); gone_is = h.gone_is ∙ sym (ap (λ (f : ℕ → Bool). f j) link.moves.gone) };
    };
    acts =
        each_put (λ (j : ℕ) (z : ClientSeat). t.left (Client j) ≡ z.plan) (λ (j : ℕ) (z : ClientSeat). left_by link.input t.left (Client j) ≡ z.plan) n now was w.clients found at.acts
        (λ j z apart h. link.plans j apart ∙ h) link.plan;
    orders = λ j z here. link.orders j ∙ at.orders j z here;
  }

  pub client_plays : (is : CellInput → Type 0) (t : ScheduleState) (w : WorldState D) (n : ℕ) (was now : ClientSeat) (front : List Line) (outs : Outs) → sent_by w.history ≡ length w.wire → at_place w.clients n ≡ Some was
      → IsAt seen may_leave limit w t.cell t.left → ClientLinked is t n now front outs → Plays seen may_leave faults limit is t w (after_client w n now front outs)
  client_plays is t w n was now front outs all found at link = record {
    input = link.input;
    is_one = link.is_one;
    history =
        told-push w.wire outs.parcels w.history (entry_of (Client n) (front ++ outs.lines) (length outs.parcels)) all refl
        ∙ ap (λ (e : Entry). entries_as_told w.wire w.history ++ bare_entry e ∷ [])
        (ap (λ (ms : List Message). entry_with (actors.Node (Client n)) (front ++ outs.lines) ms) (messages_of-read outs.parcels link.ms link.read) ∙ sym link.moves.entry);
    at = at_moved w t is n was now front outs found link at;
    counts = counts_still faults link.input (node_moved t.cell link.input).entry w link.harmless;
  }

-- ---- which input it is

up_here : (c : NodeCell) (n : ℕ) → has_client c.count n ≡ true → c.away n ≡ false → is_away c n ≡ false
up_here c n has up = ap₂ (λ (a b : Bool). not a || b) has up

pub unless : {A : Type 0} (b : Bool) (x y : A) → b ≡ false → cond b x y ≡ y
unless b x y e = ap (λ (a : Bool). cond a x y) e

-- a step that leaves the client up, and its acts but for those that the input takes
makes_linked : (is : CellInput → Type 0) (t : ScheduleState) (n : ℕ) (x : CellInput) (was now : ClientSeat) (front : List Line) (outs : Outs) (s : Step CopyState) → is x → node_moved t.cell x ≡ client_moves t.cell n s → IsClient was (t.cell.clients n) (t.cell.away n)
    → ClientMakes front s was now outs → left_by x t.left (Client n) ≡ now.plan → ((j : ℕ) → nat_eq n j ≡ false → left_by x t.left (Client j) ≡ t.left (Client j)) → ((j : ℕ) → left_by x t.left (Admin j) ≡ t.left (Admin j)) → own_failures x ≡ 0 → ClientLinked is t n now front outs
makes_linked is t n x was now front outs s one moves here makes plan plans orders harmless = record {
  input = x;
  is_one = one;
  away = false;
  ms = s.sent;
  moves =
      subst (λ (m : NodeMoved). CellMoved t.cell n m now.client.state false (front ++ outs.lines) s.sent) (sym moves)
      (subst (λ (st : CopyState). CellMoved t.cell n (client_moves t.cell n s) st false (front ++ outs.lines) s.sent) (sym makes.state)
      (subst (λ (b : Bool). CellMoved t.cell n (client_moves t.cell n s) s.state b (front ++ outs.lines) s.sent) (sym here.away_is ∙ makes.up)
      (subst (λ (ls : List Line). CellMoved t.cell n (client_moves t.cell n s) s.state (t.cell.away n) ls s.sent) (sym makes.lines) (moves_so t.cell n s))));
  away_is = makes.stays_up;
  read = makes.sent;
  plan = plan;
  plans = plans;
  orders = orders;
  harmless = harmless;
}

begins_so : (c : NodeCell) (n : ℕ) (act : Act) → is_away c n ≡ false → act_of (c.clients n).client ≡ None → act_input c n (Some act) ≡ begins n act
begins_so c n act up idle = ap₂ (λ (a : Bool) (g : Option Going). if not a && is_idle g then begins n act else nothing) up idle

moved_begun : (c : NodeCell) (n : ℕ) (act : Act) → is_away c n ≡ false → act_of (c.clients n).client ≡ None → node_moved c (usual (begins n act)) ≡ client_moves c n (copy_begin_row (Client n) (c.clients n) c.clock act)
unfolding usually_moved
moved_begun c n act up idle = unless (is_away c n) (voided c) (begun_by c n act (act_of (c.clients n).client)) up ∙ ap (begun_by c n act) idle

-- an act that runs waits for a server, and one that asks for the location database
sought_so : (c : NodeCell) (n : ℕ) (act : Going) (o : Option Seek) → act_sought o ≡ Some act → sought_for c n o ≡ client_moves c n (copy_seek_times_out (Client n) (c.clients n) o)
sought_so c n act None e = absurd cc
sought_so c n act (Some k) e = refl

waited_so : (c : NodeCell) (n : ℕ) (act : Going) (o : Option Going) → act_by o (c.clients n).client.seeking ≡ Some act → waited_by c n o ≡ client_moves c n (copy_times_out (Client n) (c.clients n) o)
waited_so c n act None e = sought_so c n act (c.clients n).client.seeking e
waited_so c n act (Some g) e = refl

moved_waited : (c : NodeCell) (n : ℕ) (act : Going) → is_away c n ≡ false → act_of (c.clients n).client ≡ Some act → node_moved c (usual (waits n)) ≡ client_moves c n (copy_times_out (Client n) (c.clients n) (c.clients n).client.running)
unfolding usually_moved
moved_waited c n act up runs = unless (is_away c n) (voided c) (waited_by c n (c.clients n).client.running) up ∙ waited_so c n act (c.clients n).client.running runs

moved_heard : (c : NodeCell) (n place : ℕ) (m : Message) → message_at c.sent place ≡ Some m → m.head.to ≡ Client n → is_away c n ≡ false → node_moved c (usual (gives place steady)) ≡ client_moves c n (copy_row (Client n) (c.clients n) c.clock place (Whole m))
unfolding usually_moved
moved_heard c n place m at to up =
    ap (given_at c place steady) at ∙ (ap (given_to c place steady m) to
    ∙ unless (is_away c n) (voided c) (client_moves c n (copy_row (Client n) (c.clients n) c.clock place (Whole m))) up)

moved_fallen : (c : NodeCell) (n : ℕ) → is_away c n ≡ false → node_moved c (usual (client_stops n)) ≡ client_falls c n
unfolding usually_moved
moved_fallen c n up = unless (is_away c n) (voided c) (client_falls c n) up

moved_risen : (c : NodeCell) (n : ℕ) → c.away n ≡ true → node_moved c (usual (client_starts n)) ≡ client_rises c n
unfolding usually_moved
moved_risen c n away = ap (λ (b : Bool). cond b (client_rises c n) (voided c)) away

module _ {D : Type 0} (seen : D → Option (List ℕ)) (may_leave : D → List ℕ → Type 0) (faults limit : D → ℕ) (t : ScheduleState) (w : WorldState D) (n : ℕ) (was now : ClientSeat) (outs : Outs) (at : IsAt seen may_leave limit w t.cell t.left) (found : at_place w.clients n ≡ Some was) where
  here : IsClient was (t.cell.clients n) (t.cell.away n)
  here = at.cell.clients n was found

  is_up : was.is_away ≡ false → is_away t.cell n ≡ false
  is_up up = up_here t.cell n (client_there w.clients n was t.cell.count found at.cell.count) (sym here.away_is ∙ up)

  pub link_begun : HasBegun n t.cell.clock was now outs → ClientLinked (IsInput t (events.Act (Client n))) t n now [] outs
  link_begun h =
      let up = is_up h.makes.up in
      let idle : act_of (t.cell.clients n).client ≡ None = ap (λ (c : CopyState). act_of c.client) (sym here.state_is) ∙ h.idle in
      let plan : t.left (Client n) ≡ was.plan = at.acts n was found in
      let next : client_act (slice_get (t.left (Client n)) 0) ≡ Some h.act = ap (λ (ts : List Task). client_act (slice_get ts 0)) plan ∙ h.next in
      makes_linked (IsInput t (events.Act (Client n))) t n (usual (begins n h.act)) was now [] outs (copy_begin_row (Client n) (t.cell.clients n) t.cell.clock h.act)
      (sym (ap (λ (x : Input). usual x) (ap (act_input t.cell n) next ∙ begins_so t.cell n h.act up idle))) (moved_begun t.cell n h.act up idle) here
      (subst (λ (c : CopyState). ClientMakes [] (copy_begin_row (Client n) c t.cell.clock h.act) was now outs) here.state_is h.makes)
      (put_here n (drop 1 (t.left (Client n))) (λ (j : ℕ). t.left (Client j)) ∙ (ap (λ (ts : List Task). drop 1 ts) plan ∙ sym h.plan)) (λ j e. put_there n (drop 1 (t.left (Client n))) (λ (k : ℕ). t.left (Client k)) j e) (λ j. refl) refl

  pub link_timed_out : (callee : Node) → HasTimedOut n callee was now outs → ClientLinked (IsInput t (events.Timeout (Client n) callee)) t n now [] outs
  link_timed_out callee h =
      let up = is_up h.makes.up in
      let runs : act_of (t.cell.clients n).client ≡ Some h.act = ap (λ (c : CopyState). act_of c.client) (sym here.state_is) ∙ h.waits in
      let same : same_node (t.cell.clients n).client.callee callee ≡ true = ap (λ (c : CopyState). same_node c.client.callee callee) (sym here.state_is) ∙ h.callee_is in
      makes_linked (IsInput t (events.Timeout (Client n) callee)) t n (usual (waits n)) was now [] outs (copy_times_out (Client n) (t.cell.clients n) (t.cell.clients n).client.running)
      (sym (ap (λ (b : Bool). usual (if b then waits n else nothing)) same)) (moved_waited t.cell n h.act up runs) here
      (subst (λ (c : CopyState). ClientMakes [] (copy_times_out (Client n) c c.client.running) was now outs) here.state_is h.makes)
      (at.acts n was found ∙ sym h.plan) (λ j e. refl) (λ j. refl) refl

  pub link_heard : (place : ℕ) (p : Parcel) → at_place w.wire place ≡ Some p → p.head.to ≡ Client n → ClientHears n t.cell.clock place p.bytes was now outs
      → ClientLinked (IsInput t (events.Deliver place)) t n now (lines.Given place ∷ []) outs
  link_heard place p stands to h =
      let f = message_found seen may_leave faults limit w t.cell place p at.cell stands in
      let makes = h.makes f.message f.carries.bytes in
      makes_linked (IsInput t (events.Deliver place)) t n (usual (gives place steady)) was now (lines.Given place ∷ []) outs (copy_row (Client n) (t.cell.clients n) t.cell.clock place (Whole f.message))
      (steady, (refl, tt)) (moved_heard t.cell n place f.message f.at (sym (ap (λ x. x.to) f.carries.head) ∙ to) (is_up makes.up)) here
      (subst (λ (c : CopyState). ClientMakes (lines.Given place ∷ []) (copy_row (Client n) c t.cell.clock place (Whole f.message)) was now outs) here.state_is makes)
      (at.acts n was found ∙ sym h.plan) (λ j e. refl) (λ j. refl) refl

  nothing_sent : outs.parcels ≡ [] → parcels_read outs.parcels ≡ messages_spelled []
  nothing_sent e = ap parcels_read e

  pub link_fallen : HasFallen w.script n was now outs → ClientLinked (IsInput t (events.Crash (Client n))) t n now [] outs
  link_fallen h = record {
    input = usual (client_stops n);
    is_one = refl;
    away = true;
    ms = [];
    moves =
        subst (λ (m : NodeMoved). CellMoved t.cell n m now.client.state true outs.lines []) (sym (moved_fallen t.cell n (is_up h.up)))
        (subst (λ (ls : List Line). CellMoved t.cell n (client_falls t.cell n) now.client.state true ls []) (sym h.tells.lines)
        (subst (λ (st : CopyState). CellMoved t.cell n (client_falls t.cell n) st true (lines.Crash (Client n) ∷ []) []) (sym (h.state ∙ (ap (λ (table : List Location). copies_reborn table was.client.state) (sym at.cell.handed) ∙ ap (copies_reborn t.cell.handed) here.state_is)))
        (turns_so t.cell n true (record { state = copies_reborn t.cell.handed (t.cell.clients n); lines = lines.Crash (Client n) ∷ []; sent = [] }))));
    away_is = h.away;
    read = nothing_sent h.tells.sent;
    plan = at.acts n was found ∙ sym h.plan;
    plans = λ j e. refl;
    orders = λ j. refl;
    harmless = refl;
  }

  pub link_risen : HasRisen n was now outs → ClientLinked (IsInput t (events.Restart (Client n))) t n now [] outs
  link_risen h = record {
    input = usual (client_starts n);
    is_one = refl;
    away = false;
    ms = [];
    moves =
        subst (λ (m : NodeMoved). CellMoved t.cell n m now.client.state false outs.lines []) (sym (moved_risen t.cell n (sym here.away_is ∙ h.away)))
        (subst (λ (ls : List Line). CellMoved t.cell n (client_rises t.cell n) now.client.state false ls [])
        (sym (h.tells.lines ∙ ap (λ (c : CopyState). lines.Restart (Client n) c.client.epoch ∷ []) here.state_is))
        (subst (λ (st : CopyState). CellMoved t.cell n (client_rises t.cell n) st false (lines.Restart (Client n) (t.cell.clients n).client.epoch ∷ []) []) (sym (h.state ∙ here.state_is))
        (turns_so t.cell n false (record { state = t.cell.clients n; lines = lines.Restart (Client n) (t.cell.clients n).client.epoch ∷ []; sent = [] }))));
    away_is = h.up;
    read = nothing_sent h.tells.sent;
    plan = at.acts n was found ∙ sym h.plan;
    plans = λ j e. refl;
    orders = λ j. refl;
    harmless = refl;
  }

-- ---- void

pub or_true : (a b : Bool) → b ≡ true → a || b ≡ true
or_true true b e = refl
or_true false b e = e

-- no such client, or it is down
absent : (c : NodeCell) (n : ℕ) → (has_client c.count n ≡ false) ⊎ (c.away n ≡ true) → is_away c n ≡ true
absent c n (inl e) = ap (λ (b : Bool). not b || c.away n) e
absent c n (inr e) = or_true (not (has_client c.count n)) (c.away n) e

no_begin : (n : ℕ) (act : Act) (a i : Bool) → (a ≡ true) ⊎ (i ≡ false) → (if not a && i then begins n act else nothing) ≡ nothing
no_begin n act a i (inl e) = ap (λ (b : Bool). if not b && i then begins n act else nothing) e
no_begin n act true i (inr e) = refl
no_begin n act false i (inr e) = ap (λ (b : Bool). if b then begins n act else nothing) e

no_act : (c : NodeCell) (n : ℕ) (next : Option Act) → (is_away c n ≡ true) ⊎ ((is_idle (act_of (c.clients n).client) ≡ false) ⊎ (next ≡ None)) → act_input c n next ≡ nothing
no_act c n None none = refl
no_act c n (Some act) (inl e) = no_begin n act (is_away c n) (is_idle (act_of (c.clients n).client)) (inl e)
no_act c n (Some act) (inr (inl e)) = no_begin n act (is_away c n) (is_idle (act_of (c.clients n).client)) (inr e)
no_act c n (Some act) (inr (inr e)) = absurd cc

pub moved_nothing : (c : NodeCell) → node_moved c (usual nothing) ≡ voided c
unfolding usually_moved
moved_nothing c = refl

idle_void : (c : NodeCell) (n : ℕ) (g : Option Going) (o : Option Seek) → (c.clients n).client.seeking ≡ o → act_by g o ≡ None → waited_by c n g ≡ voided c
idle_void c n None None s e = ap (sought_for c n) s
idle_void c n None (Some k) s e = absurd cc
idle_void c n (Some act) o s e = absurd cc

waits_void : (c : NodeCell) (n : ℕ) → (is_away c n ≡ true) ⊎ (act_of (c.clients n).client ≡ None) → node_moved c (usual (waits n)) ≡ voided c
unfolding usually_moved
waits_void c n (inl e) = ap (λ (b : Bool). cond b (voided c) (waited_by c n (c.clients n).client.running)) e
waits_void c n (inr e) = ap (λ (m : NodeMoved). cond (is_away c n) (voided c) m) (idle_void c n (c.clients n).client.running (c.clients n).client.seeking refl e) ∙ cond_same (is_away c n) (voided c)

timeout_void : (c : NodeCell) (n : ℕ) (same : Bool) → (is_away c n ≡ true) ⊎ ((act_of (c.clients n).client ≡ None) ⊎ (same ≡ false)) → node_moved c (usual (if same then waits n else nothing)) ≡ voided c
timeout_void c n false none = moved_nothing c
timeout_void c n true (inl e) = waits_void c n (inl e)
timeout_void c n true (inr (inl e)) = waits_void c n (inr e)
timeout_void c n true (inr (inr e)) = absurd cc

stops_void : (c : NodeCell) (n : ℕ) → is_away c n ≡ true → node_moved c (usual (client_stops n)) ≡ voided c
unfolding usually_moved
stops_void c n e = ap (λ (b : Bool). cond b (voided c) (client_falls c n)) e

starts_void : (c : NodeCell) (n : ℕ) → c.away n ≡ false → node_moved c (usual (client_starts n)) ≡ voided c
unfolding usually_moved
starts_void c n e = ap (λ (b : Bool). cond b (client_rises c n) (voided c)) e

heard_void : (c : NodeCell) (n place : ℕ) (m : Message) → message_at c.sent place ≡ Some m → m.head.to ≡ Client n → is_away c n ≡ true → node_moved c (usual (gives place steady)) ≡ voided c
unfolding usually_moved
heard_void c n place m at to away =
    ap (given_at c place steady) at ∙ (ap (given_to c place steady m) to
    ∙ ap (λ (b : Bool). cond b (voided c) (client_moves c n (copy_row (Client n) (c.clients n) c.clock place (Whole m)))) away)

pub void_heard : (t : ScheduleState) (n place : ℕ) (m : Message) → message_at t.cell.sent place ≡ Some m → m.head.to ≡ Client n → (has_client t.cell.count n ≡ false) ⊎ (t.cell.away n ≡ true) → Voided (IsInput t (events.Deliver place)) t
void_heard t n place m at to none = record { input = usual (gives place steady); is_one = (steady, (refl, tt)); moves = heard_void t.cell n place m at to (absent t.cell n none); left = refl; harmless = refl }

act_void : (t : ScheduleState) (n : ℕ) → (is_away t.cell n ≡ true) ⊎ ((is_idle (act_of (t.cell.clients n).client) ≡ false) ⊎ (client_act (slice_get (t.left (Client n)) 0) ≡ None)) → Voided (IsInput t (events.Act (Client n))) t
act_void t n none = record { input = usual nothing; is_one = sym (ap (λ (x : Input). usual x) (no_act t.cell n (client_act (slice_get (t.left (Client n)) 0)) none)); moves = moved_nothing t.cell; left = refl; harmless = refl }

timed_harmless : (n : ℕ) (b : Bool) → own_failures (usual (if b then waits n else nothing)) ≡ 0
timed_harmless n true = refl
timed_harmless n false = refl

timed_left : (n : ℕ) (b : Bool) (left : Node → List Task) → left_by (usual (if b then waits n else nothing)) left ≡ left
timed_left n true left = refl
timed_left n false left = refl

timed_void : (t : ScheduleState) (n : ℕ) (callee : Node) → (is_away t.cell n ≡ true) ⊎ ((act_of (t.cell.clients n).client ≡ None) ⊎ (same_node (t.cell.clients n).client.callee callee ≡ false)) → Voided (IsInput t (events.Timeout (Client n) callee)) t
timed_void t n callee none = record {
  input = usual (timeout_input (t.cell.clients n).client n callee);
  is_one = refl;
  moves = timeout_void t.cell n (same_node (t.cell.clients n).client.callee callee) none;
  left = timed_left n (same_node (t.cell.clients n).client.callee callee) t.left;
  harmless = timed_harmless n (same_node (t.cell.clients n).client.callee callee);
}

module _ (t : ScheduleState) (n : ℕ) (was : ClientSeat) (here : IsClient was (t.cell.clients n) (t.cell.away n)) (plan : t.left (Client n) ≡ was.plan) where
  is_down : was.is_away ≡ true → is_away t.cell n ≡ true
  is_down e = absent t.cell n (inr (sym here.away_is ∙ e))

  busy_by : IsVoidClient client.Act was → (is_away t.cell n ≡ true) ⊎ ((is_idle (act_of (t.cell.clients n).client) ≡ false) ⊎ (client_act (slice_get (t.left (Client n)) 0) ≡ None))
  busy_by (inl e) = inl (is_down e)
  busy_by (inr (inl busy)) = inr (inl (ap (λ (c : CopyState). is_idle (act_of c.client)) (sym here.state_is) ∙ ap is_idle busy.1))
  busy_by (inr (inr e)) = inr (inr (ap (λ (ts : List Task). client_act (slice_get ts 0)) plan ∙ e))

  timed_by : (callee : Node) → IsVoidClient (client.TimeOut callee) was → (is_away t.cell n ≡ true) ⊎ ((act_of (t.cell.clients n).client ≡ None) ⊎ (same_node (t.cell.clients n).client.callee callee ≡ false))
  timed_by callee (inl e) = inl (is_down e)
  timed_by callee (inr (inl e)) = inr (inl (ap (λ (c : CopyState). act_of c.client) (sym here.state_is) ∙ e))
  timed_by callee (inr (inr e)) = inr (inr (ap (λ (c : CopyState). same_node c.client.callee callee) (sym here.state_is) ∙ e))

  pub void_asked : (input : ClientInput) → IsVoidClient input was → Voided (IsBegunOrGiven input n t) t
  void_asked client.Act h = act_void t n (busy_by h)
  void_asked (client.TimeOut callee) h = timed_void t n callee (timed_by callee h)
  void_asked client.Crash h = record { input = usual (client_stops n); is_one = refl; moves = stops_void t.cell n (is_down h); left = refl; harmless = refl }
  void_asked client.Restart h = record { input = usual (client_starts n); is_one = refl; moves = starts_void t.cell n (sym here.away_is ∙ h); left = refl; harmless = refl }

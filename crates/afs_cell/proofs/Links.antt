-- Which input of the definitions a server's input is, and when nothing comes of it.
use Rattle.std.proofs.Common.{refl, ap, sym, subst, ◌∙◌, ◌≡◌, ◌⊎◌, inl, inr, ℕ, zero, suc, List, [], ◌∷◌, Bool, true, false, cond, Option, Some, None}
use Rattle.afs_num.specs.Places.{at_place}
use Rattle.afs_num.specs.declared.messages.Message.{Message}
use Rattle.afs_num.specs.declared.types.Node.{Node}
use Rattle.afs_num.specs.declared.types.Node.TheVariants.{Server}
use Rattle.afs_num.specs.declared.types.Parcel.{Parcel}
use Rattle.spec_history.specs.declared.lines.Line.TheVariants as lines
use Rattle.spec_history.specs.declared.lines.Outs.{Outs}
use Rattle.spec_history.specs.declared.scripts.Event.TheVariants as events
use Rattle.afs_disk.specs.Disk.{Rose}
use Rattle.spec_rows.specs.Runs.{gives, message_at, nothing, server_waits, sets_fail, sets_stop, starts_again, stops, wakes, Input}
use Rattle.spec_runs.specs.NodeRuns.{call_timed, given_at, given_to, has_host, if_host, node_moved, piece_timed, server_restarted, server_timed, server_up, usual, usually_moved, voided, CellInput, NodeCell, NodeMoved}
use Rattle.spec_rows.specs.Hosts.{comes_up, fails_early, fails_midway, gives_out, is_full, steady, at_rest, in_boot, in_step, leaves_after, Fall, Luck, MayBegin, Outcome, crashed, restarted, served, set_to_fail, set_to_stop, Fails, GivesOut, HostStep, IsLuck}
use Rattle.afs_schedule.specs.Schedules.{server_input, left_by, IsInput, ScheduleState}
use Rattle.spec_rows.specs.Hosts as host
use Rattle.spec_volrows.specs.NodeHosts.{node_kind, node_timed_out, node_woken, piece_timed_out}
use Rattle.spec_volrows.specs.VolStates.{NodeState}
use Rattle.afs_clients.specs.Happening.{IsGiven}
use Rattle.afs_cell.specs.SeatSteps.{HasHeard, HasStep, HasTimedOut, IsFallen, IsSeatStep, IsVoidServer}
use Rattle.afs_cell.specs.Worlds.{own_failures, IsCell, WorldState}
use Rattle.afs_serverhost.specs.Seated.{seat_disk, ServerSeat}
use Rattle.afs_clients.specs.declared.happening.ServerInput.{ServerInput}
use Rattle.afs_clients.specs.declared.happening.ServerInput.TheVariants as server
use Rattle.afs_cell.proofs.Counts.{Blames}
use Rattle.afs_cell.proofs.Parcels.{places_agree, AtPlace, Carries}
use Rattle.afs_clients.proofs.Numbers.{host_there}
use Rattle.afs_cell.proofs.HostSteps.{ServerLinked}
use Rattle.afs_cell.proofs.Placed.{moved_crashed, moved_piece_timed_out, moved_restarted, moved_served, moved_set_to_fail, moved_set_to_stop, moved_timed_out, moved_woken}

-- ---- the same words of two crates

pub luck_is : (luck : Luck) → host.IsLuck luck → IsLuck luck
luck_is steady h = h
luck_is (gives_out call) h = h

abbrev steady_input : ℕ → ServerInput → Input
steady_input i (server.TimeOut callee) = server_waits i callee
steady_input i server.Wake = wakes i
steady_input i (server.Crash pick) = server_input i (stops i)
steady_input i server.Restart = server_input i (starts_again i false comes_up)
steady_input i (server.Stop calls pick) = server_input i (sets_stop i calls pick)
steady_input i (server.Fail call) = server_input i (sets_fail i call)

-- a server of the cell has another number than 0
is_numbered : (c : NodeCell) (i : ℕ) (x : Input) → has_host c i ≡ true → usual x ≡ usual (server_input i x)
is_numbered c zero x has = absurd cc
is_numbered c (suc i) x has = refl

-- what is so of nothing and of an input is so of the input at any number
at_any : (P : Input → Type 0) (i : ℕ) (x : Input) → P nothing → P x → P (server_input i x)
at_any P zero x none one = none
at_any P (suc i) x none one = one

-- the message that stands at the place of a parcel
pub record Found (sent : List Message) (place : ℕ) (p : Parcel) : Type 0 where
  pub message : Message
  pub at : message_at sent place ≡ Some message
  pub carries : Carries p message

found_by : (sent : List Message) (place : ℕ) (p : Parcel) (o : Option Message) → at_place sent place ≡ o → AtPlace (Some p) o → Found sent place p
found_by sent place p None e h = absurd h
found_by sent place p (Some m) e h = record { message = m; at = e; carries = h }

parcel_found : (sent : List Message) (place : ℕ) (p : Parcel) (o : Option Parcel) → o ≡ Some p → AtPlace o (at_place sent place) → Found sent place p
parcel_found sent place p o e h = found_by sent place p (at_place sent place) refl (subst (λ (q : Option Parcel). AtPlace q (at_place sent place)) e h)

module _ {D : Type 0} (seen : D → Option (List ℕ)) (may_leave : D → List ℕ → Type 0) (faults limit : D → ℕ) where
  pub message_found : (w : WorldState D) (c : NodeCell) (place : ℕ) (p : Parcel) → IsCell seen may_leave limit w c → at_place w.wire place ≡ Some p → Found c.sent place p
  message_found w c place p cell e = parcel_found c.sent place p (at_place w.wire place) e (places_agree w.wire c.sent cell.sent place)

  pub luck_blames : (luck : Luck) (place : ℕ) (was now : D) → (GivesOut luck → Rose (faults was) (faults now)) → Blames faults (own_failures (usual (gives place luck))) was now
  luck_blames steady place was now h = inl refl
  luck_blames (gives_out call) place was now h = inr (refl, h tt)

  -- a message
  pub link_message : (t : ScheduleState) (w : WorldState D) (i place : ℕ) (p : Parcel) (was now : ServerSeat D) (outs : Outs) → IsCell seen may_leave limit w t.cell → at_place w.servers i ≡ Some was → at_place w.wire place ≡ Some p → p.head.to ≡ Server i
      → HasHeard (Server i) t.cell.clock place p.bytes (t.cell.hosts i) (IsSeatStep seen may_leave limit (Server i) now (lines.Given place ∷ []) outs) (Rose (faults (seat_disk was)) (faults (seat_disk now)))
      → ServerLinked seen may_leave faults limit (IsInput t (events.Deliver place)) t i was now (lines.Given place ∷ []) outs
  link_message t w i place p was now outs cell here at to heard =
      let f = message_found w t.cell place p cell at in
      let s = heard.1 f.message f.carries.bytes in
      record {
        input = usual (gives place s.luck);
        is_one = (s.luck, (refl, luck_is s.luck s.is_luck));
        step = served (node_kind (Server i)) (t.cell.hosts i) t.cell.clock place s.luck f.message;
        moves = moved_served t.cell i place s.luck f.message f.at (sym (ap (λ h. h.to) f.carries.head) ∙ to) (host_there w.servers i was t.cell here cell.host_count) heard.0;
        left = refl;
        good = s.is;
        blames = luck_blames s.luck place (seat_disk was) (seat_disk now) s.blame;
      }

  pub outcome_blames : (i : ℕ) (after : Bool) (outcome : Outcome) (was now : D) → (Fails outcome → Rose (faults was) (faults now)) → Blames faults (own_failures (usual (starts_again i after outcome))) was now
  outcome_blames i after comes_up was now h = inl refl
  outcome_blames i after fails_early was now h = inr (refl, h tt)
  outcome_blames i after fails_midway was now h = inr (refl, h tt)
  outcome_blames i after is_full was now h = inl refl

  -- one of its calls is timed out
  link_late : (t : ScheduleState) (w : WorldState D) (i : ℕ) (callee : Node) (was now : ServerSeat D) (outs : Outs) → IsCell seen may_leave limit w t.cell → at_place w.servers i ≡ Some was → (t.cell.hosts i).down ≡ None
      → HasTimedOut (Server i) t.cell.clock callee (t.cell.hosts i) (IsSeatStep seen may_leave limit (Server i) now [] outs) → ServerLinked seen may_leave faults limit (IsGiven i (server.TimeOut callee) t) t i was now [] outs
  link_late t w i callee was now outs cell here up (inl (b, (called, good))) = record {
    input = usual (server_waits i callee);
    is_one = refl;
    step = node_timed_out (Server i) (t.cell.hosts i) t.cell.clock callee b;
    moves = moved_timed_out t.cell i callee b called (host_there w.servers i was t.cell here cell.host_count) up;
    left = refl;
    good = good;
    blames = inl refl;
  }
  link_late t w i callee was now outs cell here up (inr (c, ((none, called), good))) = record {
    input = usual (server_waits i callee);
    is_one = refl;
    step = piece_timed_out (Server i) (t.cell.hosts i) t.cell.clock callee c;
    moves = moved_piece_timed_out t.cell i callee c none called (host_there w.servers i was t.cell here cell.host_count) up;
    left = refl;
    good = good;
    blames = inl refl;
  }

  -- what it is given else
  pub link_input : (t : ScheduleState) (w : WorldState D) (i : ℕ) (input : ServerInput) (was now : ServerSeat D) (outs : Outs) → IsCell seen may_leave limit w t.cell → at_place w.servers i ≡ Some was
      → HasStep (Server i) t.cell.clock t.cell.count input (t.cell.hosts i) (IsSeatStep seen may_leave limit (Server i) now [] outs) (Rose (faults (seat_disk was)) (faults (seat_disk now)))
      → ServerLinked seen may_leave faults limit (IsGiven i input t) t i was now [] outs
  link_input t w i (server.TimeOut callee) was now outs cell here h = link_late t w i callee was now outs cell here h.0 h.1
  link_input t w i server.Wake was now outs cell here h = record {
    input = usual (wakes i);
    is_one = refl;
    step = node_woken (Server i) (t.cell.hosts i) t.cell.clock;
    moves = moved_woken t.cell i (host_there w.servers i was t.cell here cell.host_count) h.0;
    left = refl;
    good = h.1;
    blames = inl refl;
  }
  link_input t w i (server.Crash pick) was now outs cell here h = record {
    input = usual (stops i);
    is_one = is_numbered t.cell i (stops i) (host_there w.servers i was t.cell here cell.host_count);
    step = crashed (node_kind (Server i)) (t.cell.hosts i);
    moves = moved_crashed t.cell i (host_there w.servers i was t.cell here cell.host_count) h.0;
    left = refl;
    good = h.1;
    blames = inl refl;
  }
  link_input t w i server.Restart was now outs cell here h = record {
    input = usual (starts_again i h.1.1.after h.1.1.outcome);
    is_one = (
      h.1.1.after,
      (
        h.1.1.outcome,
        (subst (λ (d : Option Fall). MayBegin d h.1.1.after) (sym h.1.0) h.1.1.may, is_numbered t.cell i (starts_again i h.1.1.after h.1.1.outcome) (host_there w.servers i was t.cell here cell.host_count)),
      ),
    );
    step = restarted (node_kind (Server i)) (t.cell.hosts i) t.cell.clock t.cell.count h.1.1.after h.1.1.outcome h.0;
    moves = moved_restarted t.cell i h.1.1.after h.1.1.outcome h.0 (host_there w.servers i was t.cell here cell.host_count) h.1.0;
    left = refl;
    good = h.1.1.is;
    blames = outcome_blames i h.1.1.after h.1.1.outcome (seat_disk was) (seat_disk now) h.1.1.blame;
  }
  link_input t w i (server.Stop calls pick) was now outs cell here h = record {
    input = usual (sets_stop i calls pick);
    is_one = is_numbered t.cell i (sets_stop i calls pick) (host_there w.servers i was t.cell here cell.host_count);
    step = set_to_stop (node_kind (Server i)) (t.cell.hosts i) calls pick;
    moves = moved_set_to_stop t.cell i calls pick (host_there w.servers i was t.cell here cell.host_count) h.0;
    left = refl;
    good = h.1;
    blames = inl refl;
  }
  link_input t w i (server.Fail call) was now outs cell here h = record {
    input = usual (sets_fail i call);
    is_one = is_numbered t.cell i (sets_fail i call) (host_there w.servers i was t.cell here cell.host_count);
    step = set_to_fail (node_kind (Server i)) (t.cell.hosts i) call;
    moves = moved_set_to_fail t.cell i call (host_there w.servers i was t.cell here cell.host_count) h.0;
    left = refl;
    good = h.1;
    blames = inl refl;
  }

-- ---- void

pub cond_same : {A : Type 0} (b : Bool) (x : A) → cond b x x ≡ x
cond_same true x = refl
cond_same false x = refl

gone : (c : NodeCell) (i : ℕ) (m : NodeMoved) → (has_host c i ≡ false) ⊎ (m ≡ voided c) → if_host c i m ≡ voided c
gone c i m (inl e) = ap (λ (b : Bool). cond b m (voided c)) e
gone c i m (inr e) = ap (λ (n : NodeMoved). cond (has_host c i) n (voided c)) e ∙ cond_same (has_host c i) (voided c)

-- no server of this number, or it is down
fallen_void : (c : NodeCell) (i : ℕ) (s : HostStep NodeState) → (has_host c i ≡ false) ⊎ IsFallen (c.hosts i) → if_host c i (server_up c i s (c.hosts i).down) ≡ voided c
fallen_void c i s (inl e) = gone c i _ (inl e)
fallen_void c i s (inr fallen) = gone c i _ (inr (ap (server_up c i s) fallen.1))

pub void_message : (c : NodeCell) (i place : ℕ) (m : Message) → message_at c.sent place ≡ Some m → m.head.to ≡ Server i → (has_host c i ≡ false) ⊎ IsFallen (c.hosts i) → node_moved c (usual (gives place steady)) ≡ voided c
unfolding usually_moved
void_message c i place m at to none =
    ap (given_at c place steady) at ∙ (ap (given_to c place steady m) to
    ∙ fallen_void c i (served (node_kind (Server i)) (c.hosts i) c.clock place steady m) none)

timed_none : (c : NodeCell) (i : ℕ) (n : Node) (down : Option Fall) → (c.hosts i).state.file.backs.calls n ≡ None → (c.hosts i).state.vol.calls n ≡ None → server_timed c i n down ≡ voided c
timed_none c i n None file vol = ap (call_timed c i n) file ∙ ap (piece_timed c i n) vol
timed_none c i n (Some fall) file vol = refl

timed_void : (c : NodeCell) (i : ℕ) (n : Node) → (has_host c i ≡ false) ⊎ IsVoidServer (server.TimeOut n) (c.hosts i) → (has_host c i ≡ false) ⊎ (server_timed c i n (c.hosts i).down ≡ voided c)
timed_void c i n (inl e) = inl e
timed_void c i n (inr (inl fallen)) = inr (ap (server_timed c i n) fallen.1)
timed_void c i n (inr (inr none)) = inr (timed_none c i n (c.hosts i).down none.0 none.1)

-- it is up
up_void : (c : NodeCell) (i : ℕ) (after : Bool) (outcome : Outcome) → (has_host c i ≡ false) ⊎ ((c.hosts i).down ≡ None) → (has_host c i ≡ false) ⊎ (server_restarted c i after outcome (c.hosts i).down ≡ voided c)
up_void c i after outcome (inl e) = inl e
up_void c i after outcome (inr up) = inr (ap (server_restarted c i after outcome) up)

void_restart : (c : NodeCell) (i : ℕ) (after : Bool) → (has_host c i ≡ false) ⊎ ((c.hosts i).down ≡ None) → node_moved c (usual (server_input i (starts_again i after comes_up))) ≡ voided c
unfolding usually_moved
void_restart c zero after none = refl
void_restart c (suc i) after none = gone c (suc i) (server_restarted c (suc i) after comes_up (c.hosts (suc i)).down) (up_void c (suc i) after comes_up none)

void_input : (c : NodeCell) (i : ℕ) (input : ServerInput) → (has_host c i ≡ false) ⊎ IsVoidServer input (c.hosts i) → node_moved c (usual (steady_input i input)) ≡ voided c
unfolding usually_moved
void_input c i (server.TimeOut callee) none = gone c i (server_timed c i callee (c.hosts i).down) (timed_void c i callee none)
void_input c i server.Wake none = fallen_void c i _ none
void_input c zero (server.Crash pick) none = refl
void_input c (suc i) (server.Crash pick) none = fallen_void c (suc i) _ none
void_input c i server.Restart none = void_restart c i false none
void_input c zero (server.Stop calls pick) none = refl
void_input c (suc i) (server.Stop calls pick) none = fallen_void c (suc i) _ none
void_input c zero (server.Fail call) none = refl
void_input c (suc i) (server.Fail call) none = fallen_void c (suc i) _ none

-- a restart may always begin in some way
pub some_begin : (d : Option Fall) → (after : Bool) × MayBegin d after
some_begin None = (false, tt)
some_begin (Some at_rest) = (false, tt)
some_begin (Some (in_step m clock b)) = (leaves_after b, λ set. refl)
some_begin (Some in_boot) = (false, tt)

-- an input that nothing comes of
pub record Voided (is : CellInput → Type 0) (t : ScheduleState) : Type 0 where
  pub input : CellInput
  pub is_one : is input
  pub moves : node_moved t.cell input ≡ voided t.cell
  pub left : left_by input t.left ≡ t.left
  pub harmless : own_failures input ≡ 0

pub link_void_message : (t : ScheduleState) (i place : ℕ) (m : Message) → message_at t.cell.sent place ≡ Some m → m.head.to ≡ Server i → (has_host t.cell i ≡ false) ⊎ IsFallen (t.cell.hosts i) → Voided (IsInput t (events.Deliver place)) t
link_void_message t i place m at to none = record { input = usual (gives place steady); is_one = (steady, (refl, tt)); moves = void_message t.cell i place m at to none; left = refl; harmless = refl }

numbered_void : (t : ScheduleState) (i : ℕ) (x : Input) (is : CellInput → Type 0) → is (usual (server_input i x)) → node_moved t.cell (usual (server_input i x)) ≡ voided t.cell → left_by (usual x) t.left ≡ t.left → own_failures (usual x) ≡ 0 → Voided is t
numbered_void t i x is one moves left harmless = record {
  input = usual (server_input i x);
  is_one = one;
  moves = moves;
  left = at_any (λ (y : Input). left_by (usual y) t.left ≡ t.left) i x refl left;
  harmless = at_any (λ (y : Input). own_failures (usual y) ≡ 0) i x refl harmless;
}

pub link_void : (t : ScheduleState) (i : ℕ) (input : ServerInput) → (has_host t.cell i ≡ false) ⊎ IsVoidServer input (t.cell.hosts i) → Voided (IsGiven i input t) t
link_void t i (server.TimeOut callee) none = record { input = usual (server_waits i callee); is_one = refl; moves = void_input t.cell i (server.TimeOut callee) none; left = refl; harmless = refl }
link_void t i server.Wake none = record { input = usual (wakes i); is_one = refl; moves = void_input t.cell i server.Wake none; left = refl; harmless = refl }
link_void t i (server.Crash pick) none = numbered_void t i (stops i) (λ (y : CellInput). IsGiven i (server.Crash pick) t y) refl (void_input t.cell i (server.Crash pick) none) refl refl
link_void t i server.Restart none =
    let a = some_begin (t.cell.hosts i).down in
    numbered_void t i (starts_again i a.0 comes_up) (λ (y : CellInput). IsGiven i server.Restart t y) (a.0, (comes_up, (a.1, refl))) (void_restart t.cell i a.0 none) refl refl
link_void t i (server.Stop calls pick) none = numbered_void t i (sets_stop i calls pick) (λ (y : CellInput). IsGiven i (server.Stop calls pick) t y) refl (void_input t.cell i (server.Stop calls pick) none) refl refl
link_void t i (server.Fail call) none = numbered_void t i (sets_fail i call) (λ (y : CellInput). IsGiven i (server.Fail call) t y) refl (void_input t.cell i (server.Fail call) none) refl refl

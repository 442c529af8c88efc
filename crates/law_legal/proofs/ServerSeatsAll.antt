-- A reply that a server keeps for a caller is that server's, to that caller, under the pair of its last call; however many servers a
-- cell has.
use Rattle.spec_history.specs.declared.lines.Line.{Line}
use Rattle.spec_history.specs.declared.scripts.Script.{Script}
use Rattle.law_legal.proofs.BaseLaws.{LastSeat, a_key, at_put, at_seat, kept_last, same_node-true, some_of}
use Rattle.law_legal.proofs.ServerRefusesForGood.{IfFirm, IsFirm, IsSentBy, hears_firm}
use Rattle.law_legal.proofs.ServerHears.{HearsIn}
use Rattle.law_legal.proofs.ServerHearsInRuns.{hears_at, reply_ran}
use Rattle.law_legal.proofs.ServerKeepsKeys.{HasHead, served_head}
use Rattle.law_legal.proofs.ServerDiskKeeps.{at_placed}
use Rattle.law_legal.proofs.RunWalk.{Behind, EachMove, each_moved, run_keeps}
use Rattle.law_legal.proofs.ServerSeats.{AreSeated, IsReplyOf, code_gift, code_half, kept_from, placed, seated}
use Rattle.law_legal.specs.Ideal.{set_up_entry}
use Rattle.law_legal.specs.Laws.{seat_key}
use Rattle.law_legal.specs.Legal.{GoodGift, HasOwnHalf}
use Rattle.law_legal.specs.Once.{past_of}
use Rattle.law_legal.specs.Past.{HasCode, IsCall, IsReply, Ran, answered_key}
use Rattle.spec_model.specs.Calls as pairs
use Rattle.spec_model.specs.Calls.{Admitted, admitted, call_seat, call_seated, paired}
use Rattle.afs_num.specs.Nodes.{same_node}
use Rattle.afs_num.specs.declared.calls.FsCall.{FsCall}
use Rattle.afs_num.specs.declared.calls.FsReply.{FsReply}
use Rattle.afs_num.specs.declared.messages.Call.TheVariants as ask
use Rattle.afs_num.specs.declared.messages.Carried.{Carried}
use Rattle.afs_num.specs.declared.messages.Carried.TheVariants as carried
use Rattle.afs_num.specs.declared.messages.Message.{Message}
use Rattle.afs_num.specs.declared.messages.Received.{Received}
use Rattle.afs_num.specs.declared.messages.Received.TheVariants.{Whole}
use Rattle.afs_num.specs.declared.types.Head.{Head}
use Rattle.afs_num.specs.declared.types.Node.{Node}
use Rattle.afs_num.specs.declared.types.Node.TheVariants.{Client, Server}
use Rattle.spec_rows.specs.Callbacks.{put}
use Rattle.spec_rows.specs.Steps.{Begun}
use Rattle.spec_rows.specs.Runs.{Cell, Entry, Fall, RunsTo, at_rest, begun_by_disk, in_boot, in_step, start, ServerHost}
use Rattle.spec_rows.specs.ServerRow.{Change, Decision, admits, begun_after, carried_by, decides, does, drops, hears, is_client, not_served, promise_ticks, refuses, repeats, replied, reply_head, runs_received, saves, seat_for, seat_placed, serves_call, shows, tells_boot, whole}
use Rattle.spec_rows.specs.ServerSteps.{back_timeout_row, server_row, start_row, wake_row}
use Rattle.spec_rows.specs.States.{BackCall, Seat, ServerState}
use Rattle.std.proofs.Common.{◌≡◌, ℕ, ◌+◌, Bool, true, false, cond, List, [], ◌∷◌, Option, Some, None, refl, sym, ap, subst, nat_eq, ◌∙◌}
use Rattle.std.specs.Prelude.{⊤}

-- ---- what runs was sent to the server

abbrev IfRuns : (Head → Type 0) → Decision → Type 0
IfRuns P (refuses head code) = P head
IfRuns P (shows head r) = P head
IfRuns P (saves head c) = P head
IfRuns P d = ⊤

runs_by : (P : Head → Type 0) (head : Head) (d : Decision) → HasHead head d → P head → IfRuns P d
runs_by P head drops h p = tt
runs_by P head (tells_boot other) h p = tt
runs_by P head (repeats reply) h p = tt
runs_by P head (refuses other code) h p = subst P (sym h) p
runs_by P head (shows other r) h p = subst P (sym h) p
runs_by P head (saves other c) h p = subst P (sym h) p

client_runs : (P : Head → Type 0) (t : Bool) (x : ServerState) (clock : ℕ) (head : Head) (user : List ℕ) (call : FsCall) → P head → IfRuns P (cond t (serves_call x clock head user call) (refuses head not_served))
client_runs P true x clock head user call p = runs_by P head (serves_call x clock head user call) (served_head x clock head user call) p
client_runs P false x clock head user call p = p

either_runs : (P : Head → Type 0) (t : Bool) (a b : Decision) → IfRuns P a → IfRuns P b → IfRuns P (cond t a b)
either_runs P true a b h k = h
either_runs P false a b h k = k

refused_runs : (P : Head → Type 0) (x : ServerState) (clock : ℕ) (head : Head) (r : Received) (o : Admitted Message) → runs_received x clock head r ≡ refuses head not_served → P head → IfRuns P (admits x clock head r o)
refused_runs P x clock head r pairs.runs e p = either_runs P (is_client head.from) (runs_received x clock head r) (refuses head not_served) (subst (IfRuns P) (sym e) p) p
refused_runs P x clock head r (pairs.kept reply) e p = tt
refused_runs P x clock head r pairs.in_progress e p = tt
refused_runs P x clock head r pairs.older e p = tt
refused_runs P x clock head r (pairs.wrong_boot boot) e p = tt

admits_runs : (P : Head → Type 0) (x : ServerState) (clock : ℕ) (head : Head) (user : List ℕ) (call : FsCall) (o : Admitted Message) → P head → IfRuns P (admits x clock head (whole head (carried.Call user (ask.File call))) o)
admits_runs P x clock head user call pairs.runs p = client_runs P (is_client head.from) x clock head user call p
admits_runs P x clock head user call (pairs.kept reply) p = tt
admits_runs P x clock head user call pairs.in_progress p = tt
admits_runs P x clock head user call pairs.older p = tt
admits_runs P x clock head user call (pairs.wrong_boot boot) p = tt

if_to : (P : Head → Type 0) (t : Bool) (me : Node) (head : Head) (d : Decision) → same_node head.to me ≡ t → (head.to ≡ me → IfRuns P d) → IfRuns P (cond t d drops)
if_to P true me head d e w = w (same_node-true head.to me e)
if_to P false me head d e w = tt

hears_runs : (me : Node) (x : ServerState) (clock : ℕ) (head : Head) (y : Carried) → IfRuns (λ h. h.to ≡ me) (hears me x clock head y)
hears_runs me x clock head (carried.Call user (ask.File call)) = if_to (λ h. h.to ≡ me) (same_node head.to me) me head _ refl (λ to. admits_runs (λ h. h.to ≡ me) x clock head user call (admitted x.lasting.boot x.seats head) to)
hears_runs me x clock head (carried.Call user call) = if_to (λ h. h.to ≡ me) (same_node head.to me) me head _ refl (λ to. refused_runs (λ h. h.to ≡ me) x clock head (whole head (carried.Call user call)) (admitted x.lasting.boot x.seats head) refl to)
hears_runs me x clock head (carried.Refusal code) = tt
hears_runs me x clock head (carried.Reply reply) = tt
hears_runs me x clock head carried.Notice = tt

pub change_code : (expiry : ℕ) (o : Option FsReply) → HasCode (carried_by expiry o)
change_code expiry None = tt
change_code expiry (Some reply) = tt

pub change_firm : (boot : ℕ) (head : Head) (expiry : ℕ) (o : Option FsReply) → IsFirm (reply_head boot head) (carried_by expiry o)
change_firm boot head expiry None = (refl, refl)
change_firm boot head expiry (Some reply) = refl

-- in memory, and on the disk
pub record Sits (me : Node) (x : ServerState) : Type 0 where
  pub seats : AreSeated me x.seats
  pub kept : AreSeated me x.lasting.kept

saved_sits : (me : Node) (x : ServerState) (clock : ℕ) (head : Head) (c : Change) → head.to ≡ me → Sits me x → Sits me (begun_after me x clock (saves head c)).state
saved_sits me x clock head c to h = record {
  seats = seated me x.lasting.boot head (carried_by (clock + promise_ticks) _) x.seats to (change_code (clock + promise_ticks) _) (change_firm x.lasting.boot head (clock + promise_ticks) _) h.seats;
  kept = placed me x.lasting.boot head (carried_by (clock + promise_ticks) _) x.lasting.kept to (change_code (clock + promise_ticks) _) (change_firm x.lasting.boot head (clock + promise_ticks) _) h.kept;
}

does_sits : (me : Node) (x : ServerState) (clock place : ℕ) (d : Decision) → IfRuns (λ h. h.to ≡ me) d → IfFirm d → Sits me x → Sits me (does me x clock place d []).state
does_sits me x clock place drops r f h = h
does_sits me x clock place (tells_boot head) r f h = h
does_sits me x clock place (repeats reply) r f h = h
does_sits me x clock place (refuses head code) r f h = record { seats = seated me x.lasting.boot head _ x.seats r tt (refl, f) h.seats; kept = h.kept }
does_sits me x clock place (shows head g) r f h = record { seats = seated me x.lasting.boot head _ x.seats r tt refl h.seats; kept = h.kept }
does_sits me x clock place (saves head c) r f h = let z : Sits me (begun_after me x clock (saves head c)).state = saved_sits me x clock head c r h in record { seats = z.seats; kept = z.kept }

served_sits : (i : ℕ) (x : ServerState) (clock place : ℕ) (m : Message) → Sits (Server i) x → Sits (Server i) (server_row (Server i) x clock place (Whole m)).state
unfolding server_row
served_sits i x clock place m h = let z : Sits (Server i) (does (Server i) x clock place (decides (Server i) x clock (Whole m)) []).state = does_sits (Server i) x clock place (decides (Server i) x clock (Whole m)) (hears_runs (Server i) x clock m.head m.carried) (hears_firm (Server i) x clock m.head m.carried) h in record { seats = z.seats; kept = z.kept }

timed_sits : (i : ℕ) (x : ServerState) (clock : ℕ) (n : Node) (b : BackCall) → Sits (Server i) x → Sits (Server i) (back_timeout_row (Server i) x clock n b).state
unfolding back_timeout_row
timed_sits i x clock n b h = record { seats = h.seats; kept = h.kept }

woken_sits : (i : ℕ) (x : ServerState) (clock : ℕ) → Sits (Server i) x → Sits (Server i) (wake_row (Server i) x clock).state
unfolding wake_row
woken_sits i x clock h = record { seats = h.seats; kept = h.kept }

after_sits : (me : Node) (x : ServerState) (clock : ℕ) (d : Decision) → IfRuns (λ h. h.to ≡ me) d → Sits me x → Sits me (begun_after me x clock d).state
after_sits me x clock (saves head c) r h = saved_sits me x clock head c r h
after_sits me x clock d r h = h

disk_sits : (me : Node) (x : ServerState) (after : Bool) (fall : Fall) → Sits me x → Sits me (begun_by_disk me x after fall).state
disk_sits me x after at_rest h = h
disk_sits me x false (in_step m clock hit) h = h
disk_sits me x true (in_step m clock hit) h = after_sits me x clock (decides me x clock (Whole m)) (hears_runs me x clock m.head m.carried) h
disk_sits me x false in_boot h = h
disk_sits me x true in_boot h = record { seats = h.kept; kept = h.kept }

started_sits : (i clock count : ℕ) (f : Begun ServerState) → Sits (Server i) f.state → Sits (Server i) (start_row (Server i) clock count f).state
unfolding start_row
started_sits i clock count f h = record { seats = h.kept; kept = h.kept }

-- ---- every step

abbrev pub SitsIn : Cell → List Entry → Type 0
SitsIn c past = (i : ℕ) → Sits (Server i) (c.hosts i).state

host_sits : (hosts : ℕ → ServerHost) (i : ℕ) (h : ServerHost) → ((j : ℕ) → Sits (Server j) (hosts j).state) → Sits (Server i) h.state → (j : ℕ) → Sits (Server j) (put i h hosts j).state
host_sits hosts i h w own j = at_put i j (λ (x : ServerHost). Sits (Server j) x.state) h hosts (λ same. subst (λ (k : ℕ). Sits (Server k) h.state) same own) (λ other. w j)

pub sits_moves : EachMove SitsIn (Behind SitsIn)
sits_moves = record {
  void = λ c past h. h;
  ticked = λ c past n h. h;
  begun = λ c past n act h r z. h;
  told = λ c past n place m h at to un. h;
  sought = λ c past n place m k h at to z e. h;
  missed = λ c past n k h r z. h;
  loc = λ c past l ls ms h st. h;
  waited = λ c past n act h r. h;
  fallen = λ c past n h. h;
  risen = λ c past n h. h;
  served = λ c past i place m armed h up at to. host_sits c.hosts i _ h (served_sits i (c.hosts i).state c.clock place m (h i));
  cut = λ c past i place m t h up at to. host_sits c.hosts i _ h (h i);
  stopped = λ c past i h up. host_sits c.hosts i _ h (h i);
  stop_set = λ c past i calls pick armed h up. host_sits c.hosts i _ h (h i);
  fail_set = λ c past i call armed h up. host_sits c.hosts i _ h (h i);
  timed = λ c past i n b armed h up at. host_sits c.hosts i _ h (timed_sits i (c.hosts i).state c.clock n b (h i));
  woken = λ c past i armed h up. host_sits c.hosts i _ h (woken_sits i (c.hosts i).state c.clock (h i));
  started = λ c past i after fall h down. host_sits c.hosts i _ h (started_sits i c.clock c.count (begun_by_disk (Server i) (c.hosts i).state after fall) (disk_sits (Server i) (c.hosts i).state after fall (h i)));
  early = λ c past i fall h down. host_sits c.hosts i _ h (h i);
  midway = λ c past i after fall h down. host_sits c.hosts i _ h (disk_sits (Server i) (c.hosts i).state after fall (h i));
  full = λ c past i after fall h down. host_sits c.hosts i _ h (disk_sits (Server i) (c.hosts i).state after fall (h i));
}

pub sits_at : (s : Script) (h : List Entry) (end : Cell) → RunsTo h s end → SitsIn end (past_of (set_up_entry s ∷ []) h)
sits_at s h end r = run_keeps SitsIn (each_moved SitsIn (Behind SitsIn) sits_moves) r.inputs s (set_up_entry s ∷ []) h end (λ i. record { seats = λ n seat m e. absurd cc; kept = λ n seat m e. absurd cc }) r.leads

-- a kept reply is that of the entry which ran its call
pub run_seated : (s : Script) (h : List Entry) (end : Cell) → RunsTo h s end → (i j : ℕ) (seat : Seat) (m : Message) → call_seat (Client j) (end.hosts i).state.seats ≡ Some seat → seat.reply ≡ Some m
    → IsReply m × (Ran m.head (past_of (set_up_entry s ∷ []) h) × ((answered_key m.head ≡ seat_key (Client j) seat) × (m.head.from ≡ Server i)))
run_seated s h end r i j seat m at kept =
    let past : List Entry = past_of (set_up_entry s ∷ []) h in
    let H : HearsIn end past = hears_at s h end r in
    let q : IsReplyOf (Server i) (Client j) seat m = (sits_at s h end r i).seats (Client j) seat m at kept in (
      q.reply,
      (
        reply_ran past i j m.head m.carried q.reply.1 q.from q.to ((H.sound i).seats (Client j) seat m at kept).1.0,
        (ap (λ (n : Node). a_key n m.head.epoch m.head.number) q.to ∙ (ap (λ (e : ℕ). a_key (Client j) e m.head.number) q.epoch ∙ ap (λ (k : ℕ). a_key (Client j) seat.epoch k) q.number), q.from),
      ),
    )

-- Whom the servers serve: each message is a client's, or goes to one. So a server holds promises, owes breaks, and calls, for clients
-- alone, and no message goes from one server to another.
use Rattle.std.proofs.Common.{◌≡◌, ◌⊎◌, inl, inr, ℕ, zero, suc, ◌+◌, Bool, true, false, cond, List, [], ◌∷◌, ◌++◌, Option, Some, None, refl, sym, subst, not}
use Rattle.std.specs.Prelude.{⊤, ◌&&◌, nat_eq, nat_lt}
use Rattle.afs_num.specs.Nodes.{same_node}
use Rattle.afs_num.specs.declared.calls.FsCall.{FsCall}
use Rattle.afs_num.specs.declared.histories.Version.{Version}
use Rattle.afs_num.specs.declared.messages.Call.TheVariants as ask
use Rattle.afs_num.specs.declared.messages.Carried.{Carried}
use Rattle.afs_num.specs.declared.messages.Carried.TheVariants as carried
use Rattle.afs_num.specs.declared.messages.Message.{Message}
use Rattle.afs_num.specs.declared.messages.Received.{Received}
use Rattle.afs_num.specs.declared.messages.Received.TheVariants.{Whole}
use Rattle.afs_num.specs.declared.types.Fid.{Fid}
use Rattle.afs_num.specs.declared.types.Head.{Head}
use Rattle.afs_num.specs.declared.types.Node.{Node}
use Rattle.afs_num.specs.declared.types.Node.TheVariants.{Admin, Client, Loc, Server}
use Rattle.spec_history.specs.declared.lines.Line.{Line}
use Rattle.spec_history.specs.declared.scripts.Script.{Script}
use Rattle.spec_breaks.specs.Promises as lists
use Rattle.spec_breaks.specs.Promises.{owes_from, with_promise, with_promises, Lists}
use Rattle.spec_breaks.specs.declared.types.OwedBreak.{OwedBreak}
use Rattle.spec_breaks.specs.declared.types.Promise.{Promise}
use Rattle.spec_model.specs.Calls as pairs
use Rattle.spec_model.specs.Calls.{Admitted, admitted, call_seat, paired}
use Rattle.spec_rows.specs.Callbacks.{ends_all, expired, fids_found, gives_up_all, held_under, is_back_awaited, is_ready, is_seat_of, key_answered, no_turn, owed_to_clients, pumped, put, put_at, renews_by, repeats_by, replies_of, risen_turn, settles_by, started_call, starts, starts_by, call_timed_out, turn_for, turned_by, turned_in, withdraws_all, Started, CallbackStep}
use Rattle.spec_rows.specs.Hosts.{at_rest, in_boot, in_step, Blow, Fall}
use Rattle.spec_rows.specs.LocSteps.{LocHost}
use Rattle.spec_rows.specs.Runs.{begun_by_disk, message_at, start, Cell, Entry, ServerHost}
use Rattle.spec_rows.specs.ServerRow.{admits, decides, does, drops, granted_in, hears, is_client, versions_made, not_served, promise_ticks, refuses, repeats, revived, runs_received, saves, serves_call, shows, tells_boot, whole, Decision}
use Rattle.spec_rows.specs.ServerSteps.{back_timeout_row, server_row, start_row, wake_row}
use Rattle.spec_rows.specs.States.{BackCall, Backs, Held, Seat, ServerState}
use Rattle.spec_rows.specs.Steps.{Begun}
use Rattle.law_legal.specs.Clientele.{CellsServeClients}
use Rattle.law_legal.specs.Ideal.{set_up_entry}
use Rattle.law_legal.specs.Once.{past_of}
use Rattle.law_legal.proofs.ActSteps.{begins_acts, given_acts, missed_acts, waits_acts}
use Rattle.law_legal.proofs.BaseLaws.{at_put, each_at, each_map, each_more, kept_last, same_node-true, Each, LastSeat}
use Rattle.law_legal.proofs.ServerRefusesForGood.{IsSentBy}
use Rattle.law_legal.proofs.ServerKeepsKeys.{served_head, HasHead}
use Rattle.law_legal.proofs.CallKeysOnce.{any_told, by_key, IsKnown}
use Rattle.law_legal.proofs.ClientCalls.{placed}
use Rattle.law_legal.proofs.DatabaseDoes.{IsBackTo}
use Rattle.law_legal.proofs.DatabaseKeeps.{IsLocStep}
use Rattle.law_legal.proofs.RunWalk.{each_moved, run_keeps, Behind, EachMove, IsKept}
use Rattle.law_legal.proofs.ActCallsInRuns.{sought_acts_in}
use Rattle.law_legal.proofs.OwedFacts.{all_both, all_filter, AllOf, IsClient}
use Rattle.law_legal.proofs.ServerPosts.{disk_backs}
use Rattle.law_legal.proofs.OwedWaits.{each_both, each_filter}
use Rattle.law_legal.proofs.ServerSeats.{AreSeated}
use Rattle.law_legal.proofs.RunMessages.{posted_first, posted_kept, Posted}

-- ---- clients

is_so : (n : Node) → IsClient n → is_client n ≡ true
is_so (Client n) h = refl
is_so (Server n) h = absurd h
is_so (Admin n) h = absurd h
is_so Loc h = absurd h

client_is : (n : Node) (j : ℕ) → n ≡ Client j → IsClient n
client_is n j e = subst IsClient (sym e) tt

no_server : (n : Node) (i : ℕ) → n ≡ Server i → IsClient n → ⊥
no_server n i e h = subst IsClient e h

no_database : (n : Node) → n ≡ Loc → IsClient n → ⊥
no_database n e h = subst IsClient e h

abbrev ToClient : Message → Type 0
ToClient m = IsClient m.head.to

-- ---- promises and owed breaks

record AreOfClients (l : Lists) : Type 0 where
  promised : AllOf (λ (p : Promise). IsClient p.client) l.promises
  owed : AllOf (λ (o : OwedBreak). IsClient o.client) l.owed

all_granted : (n : Node) (expiry : ℕ) (fs : List Fid) (ps : List Promise) → IsClient n → AllOf (λ (p : Promise). IsClient p.client) ps → AllOf (λ (p : Promise). IsClient p.client) (with_promises n expiry fs ps)
all_granted n expiry [] ps is h = h
all_granted n expiry (f ∷ fs) ps is h =
    all_granted n expiry fs (with_promise n expiry f ps) is
    (all_both (λ (p : Promise). IsClient p.client) (lists.without_promise n f ps) (record { client = n; fid = f; expiry = expiry } ∷ []) (all_filter (λ (p : Promise). IsClient p.client) (λ (p : Promise). not (lists.is_promise n f p)) ps h) (is, tt))

granted_of : (n : Node) (expiry : ℕ) (fs : List Fid) (l : Lists) → IsClient n → AreOfClients l → AreOfClients (lists.grants_all n expiry fs l)
granted_of n expiry fs l is h = record { promised = all_granted n expiry fs l.promises is h.promised; owed = h.owed }

given_up_of : (n : Node) (fs : List Fid) (l : Lists) → AreOfClients l → AreOfClients (gives_up_all n fs l)
given_up_of n [] l h = h
given_up_of n (f ∷ fs) l h =
    given_up_of n fs (lists.gives_up n f l) (record { promised = all_filter (λ (p : Promise). IsClient p.client) (λ (p : Promise). not (lists.is_promise n f p)) l.promises h.promised; owed = h.owed })

owes_of : (last : ℕ) (ps : List Promise) → AllOf (λ (p : Promise). IsClient p.client) ps → AllOf (λ (o : OwedBreak). IsClient o.client) (owes_from last ps)
owes_of last [] h = tt
owes_of last (p ∷ ps) h = (h.0, owes_of (last + 1) ps h.1)

withdrawn_of : (n : Node) (vs : List Version) (l : Lists) → AreOfClients l → AreOfClients (withdraws_all n vs l)
withdrawn_of n [] l h = h
withdrawn_of n (v ∷ vs) l h =
    withdrawn_of n vs (lists.withdraws n v.fid l)
    (record {
      promised = all_filter (λ (p : Promise). IsClient p.client) (λ (p : Promise). not (lists.is_hit n v.fid p)) l.promises h.promised;
      owed =
          all_both (λ (o : OwedBreak). IsClient o.client) l.owed (owes_from l.last_owed (lists.hits n v.fid l.promises)) h.owed
          (owes_of l.last_owed (lists.hits n v.fid l.promises) (all_filter (λ (p : Promise). IsClient p.client) (lists.is_hit n v.fid) l.promises h.promised));
    })

ended_of : (os : List OwedBreak) (l : Lists) → AreOfClients l → AreOfClients (ends_all os l)
ended_of [] l h = h
ended_of (o ∷ os) l h = ended_of os (lists.break_ended o.number l) (record { promised = h.promised; owed = all_filter (λ (x : OwedBreak). IsClient x.client) (λ (x : OwedBreak). not (nat_eq x.number o.number)) l.owed h.owed })

risen_of : (expiry k m : ℕ) (l : Lists) → AreOfClients l → AreOfClients (owed_to_clients expiry k m l)
risen_of expiry k zero l h = h
risen_of expiry k (suc m) l h =
    risen_of expiry (k + 1) m (lists.owes_all (Client (k + 1)) expiry l)
    (record {
      promised = h.promised;
      owed = all_both (λ (o : OwedBreak). IsClient o.client) l.owed (record { number = l.last_owed + 1; client = Client (k + 1); what = None; expiry = expiry } ∷ []) h.owed (tt, tt);
    })

-- ---- what a server has in memory of them

record Attends (b : Backs) : Type 0 where
  lists : AreOfClients b.lists
  calls : (n : Node) (c : BackCall) → b.calls n ≡ Some c → IsClient n
  held : Each ToClient (replies_of b.held)

expired_attends : (clock : ℕ) (b : Backs) → Attends b → Attends (expired clock b)
expired_attends clock b h = record {
  lists = record {
    promised = all_filter (λ (p : Promise). IsClient p.client) (λ (p : Promise). nat_lt clock p.expiry) b.lists.promises h.lists.promised;
    owed = all_filter (λ (o : OwedBreak). IsClient o.client) (λ (o : OwedBreak). nat_lt clock o.expiry) b.lists.owed h.lists.owed;
  };
  calls = h.calls;
  held = h.held;
}

-- its call to a node ends, or is another
none_there : (t : Bool) (o : Option BackCall) (c : BackCall) → cond t None o ≡ Some c → o ≡ Some c
none_there true o c e = absurd cc
none_there false o c e = e

one_there : (t : Bool) (n m : Node) (x : BackCall) (o : Option BackCall) (c : BackCall) → same_node n m ≡ t → IsClient n → (o ≡ Some c → IsClient m) → cond t (Some x) o ≡ Some c → IsClient m
one_there true n m x o c same is other e = subst IsClient (same_node-true n m same) is
one_there false n m x o c same is other e = other e

ends_attends : (n : Node) (c : BackCall) (b : Backs) → Attends b → Attends (record b { calls = put_at n None b.calls; lists = ends_all c.content b.lists })
ends_attends n c b h = record {
  lists = ended_of c.content b.lists h.lists;
  calls = λ m x e. h.calls m x (none_there (same_node n m) (b.calls m) x e);
  held = h.held;
}

calls_attends : (n : Node) (x : BackCall) (b : Backs) → IsClient n → Attends b → (m : Node) (c : BackCall) → put_at n (Some x) b.calls m ≡ Some c → IsClient m
calls_attends n x b is h m c e = one_there (same_node n m) n m x (b.calls m) c refl is (h.calls m c) e

-- ---- what it decides: what is answered came from a client

abbrev IfMeets : Decision → Type 0
IfMeets drops = ⊤
IfMeets (tells_boot head) = IsClient head.from
IfMeets (repeats reply) = ToClient reply
IfMeets (refuses head code) = IsClient head.from
IfMeets (shows head r) = IsClient head.from
IfMeets (saves head c) = IsClient head.from

meets_by : (head : Head) (d : Decision) → HasHead head d → IsClient head.from → IfMeets d
meets_by head drops h is = tt
meets_by head (tells_boot other) h is = absurd h
meets_by head (repeats reply) h is = absurd h
meets_by head (refuses other code) h is = subst (λ (y : Head). IsClient y.from) (sym h) is
meets_by head (shows other r) h is = subst (λ (y : Head). IsClient y.from) (sym h) is
meets_by head (saves other c) h is = subst (λ (y : Head). IsClient y.from) (sym h) is

either_meets : (t : Bool) (a b : Decision) → IfMeets a → IfMeets b → IfMeets (cond t a b)
either_meets true a b h k = h
either_meets false a b h k = k

-- a kept reply goes to its caller
kept_to : (t : Bool) (me : Node) (boot : ℕ) (seats : List Seat) (head : Head) (m : Message) → AreSeated me seats → IsClient head.from → cond t (paired head.epoch head.number (call_seat head.from seats)) (pairs.wrong_boot boot) ≡ pairs.kept m → ToClient m
kept_to true me boot seats head m s is e =
    let l : LastSeat head.epoch head.number (call_seat head.from seats) m = kept_last head.epoch head.number (call_seat head.from seats) m e in
    subst IsClient (sym (s head.from l.seat m l.at l.reply).to) is
kept_to false me boot seats head m s is e = absurd cc

admits_meets : (me : Node) (x : ServerState) (clock : ℕ) (head : Head) (user : List ℕ) (call : FsCall) (o : Admitted Message) → AreSeated me x.seats → IsClient head.from → admitted x.lasting.boot x.seats head ≡ o → IfMeets (admits x clock head (whole head (carried.Call user (ask.File call))) o)
admits_meets me x clock head user call pairs.runs s is e = either_meets (is_client head.from) (serves_call x clock head user call) (refuses head not_served) (meets_by head (serves_call x clock head user call) (served_head x clock head user call) is) is
admits_meets me x clock head user call (pairs.kept reply) s is e = kept_to (nat_eq head.boot x.lasting.boot) me x.lasting.boot x.seats head reply s is e
admits_meets me x clock head user call pairs.in_progress s is e = tt
admits_meets me x clock head user call pairs.older s is e = tt
admits_meets me x clock head user call (pairs.wrong_boot boot) s is e = is

refused_meets : (me : Node) (x : ServerState) (clock : ℕ) (head : Head) (r : Received) (o : Admitted Message) → runs_received x clock head r ≡ refuses head not_served → AreSeated me x.seats → IsClient head.from → admitted x.lasting.boot x.seats head ≡ o → IfMeets (admits x clock head r o)
refused_meets me x clock head r pairs.runs so s is e = either_meets (is_client head.from) (runs_received x clock head r) (refuses head not_served) (subst IfMeets (sym so) is) is
refused_meets me x clock head r (pairs.kept reply) so s is e = kept_to (nat_eq head.boot x.lasting.boot) me x.lasting.boot x.seats head reply s is e
refused_meets me x clock head r pairs.in_progress so s is e = tt
refused_meets me x clock head r pairs.older so s is e = tt
refused_meets me x clock head r (pairs.wrong_boot boot) so s is e = is

hears_meets : (me : Node) (x : ServerState) (clock : ℕ) (head : Head) (y : Carried) → AreSeated me x.seats → IsClient head.from → IfMeets (hears me x clock head y)
hears_meets me x clock head (carried.Call user (ask.File call)) s is = either_meets (same_node head.to me) _ _ (admits_meets me x clock head user call (admitted x.lasting.boot x.seats head) s is refl) tt
hears_meets me x clock head (carried.Call user call) s is = either_meets (same_node head.to me) _ _ (refused_meets me x clock head (whole head (carried.Call user call)) (admitted x.lasting.boot x.seats head) refl s is refl) tt
hears_meets me x clock head (carried.Refusal code) s is = tt
hears_meets me x clock head (carried.Reply reply) s is = tt
hears_meets me x clock head carried.Notice s is = tt

-- ---- what it sends, and holds to be sent

record Turns (t : CallbackStep) : Type 0 where
  backs : Attends t.backs
  sent : Each ToClient t.sent
  outs : Each ToClient (replies_of t.outs)

none_turns : (b : Backs) → Attends b → Turns (no_turn b)
none_turns b h = record { backs = h; sent = tt; outs = tt }

either_turns : (t : Bool) (a b : CallbackStep) → Turns a → Turns b → Turns (cond t a b)
either_turns true a b h k = h
either_turns false a b h k = k

repeats_turns : (b : Backs) (reply : Message) (o : Option Held) (good : Bool) → ToClient reply → Attends b → Turns (repeats_by b reply o good)
repeats_turns b reply (Some w) good r h = either_turns (w.again && is_ready b.lists.owed w) _ _ (record { backs = h; sent = tt; outs = (r, tt) }) (none_turns b h)
repeats_turns b reply None true r h = record { backs = h; sent = tt; outs = (r, tt) }
repeats_turns b reply None false r h = record { backs = h; sent = tt; outs = (r, tt) }

for_turns : (me : Node) (x : ServerState) (clock : ℕ) (b : Backs) (d : Decision) → IfMeets d → Attends b → Turns (turn_for me x clock b d)
for_turns me x clock b drops d h = none_turns b h
for_turns me x clock b (tells_boot head) d h = record { backs = h; sent = (d, tt); outs = tt }
for_turns me x clock b (repeats reply) d h = repeats_turns b reply (held_under (key_answered reply) b.held) (is_seat_of reply (call_seat reply.head.to x.lasting.kept)) d h
for_turns me x clock b (refuses head code) d h = record { backs = h; sent = tt; outs = (d, tt) }
for_turns me x clock b (shows head r) d h = record {
  backs = record { lists = granted_of head.from (clock + promise_ticks) (fids_found r.granted) (gives_up_all head.from r.given_up b.lists) d (given_up_of head.from r.given_up b.lists h.lists); calls = h.calls; held = h.held };
  sent = tt;
  outs = (d, tt);
}
for_turns me x clock b (saves head c) d h = record {
  backs = record { lists = granted_of head.from (clock + promise_ticks) (fids_found (granted_in c)) (withdraws_all head.from (versions_made c) b.lists) d (withdrawn_of head.from (versions_made c) b.lists h.lists); calls = h.calls; held = h.held };
  sent = tt;
  outs = (d, tt);
}

settled_turns : (me : Node) (boot : ℕ) (head : Head) (b : Backs) (o : Option BackCall) → Attends b → Turns (settles_by me boot head b o)
settled_turns me boot head b None h = none_turns b h
settled_turns me boot head b (Some c) h = either_turns (is_back_awaited boot c head) _ _ (record { backs = ends_attends head.from c b h; sent = tt; outs = tt }) (none_turns b h)

renewed_turns : (me : Node) (boot : ℕ) (head : Head) (b : Backs) (o : Option BackCall) → IsClient head.from → Attends b → Turns (renews_by me boot head b o)
renewed_turns me boot head b None is h = none_turns b h
renewed_turns me boot head b (Some c) is h = either_turns (is_back_awaited boot c head) _ _ (record { backs = record { lists = h.lists; calls = h.calls; held = h.held }; sent = (is, tt); outs = tt }) (none_turns b h)

carried_turns : (me : Node) (x : ServerState) (clock : ℕ) (b : Backs) (d : Decision) (head : Head) (c : Carried) → IfMeets d → IsClient head.from → Attends b → Turns (turned_by me x clock b d head c)
carried_turns me x clock b d head (carried.Call user call) p is h = for_turns me x clock b d p h
carried_turns me x clock b d head (carried.Refusal code) p is h = either_turns (same_node head.to me) _ _ (settled_turns me x.lasting.boot head b (b.calls head.from) h) (none_turns b h)
carried_turns me x clock b d head (carried.Reply reply) p is h = either_turns (same_node head.to me) _ _ (settled_turns me x.lasting.boot head b (b.calls head.from) h) (none_turns b h)
carried_turns me x clock b d head carried.Notice p is h = either_turns (same_node head.to me) _ _ (renewed_turns me x.lasting.boot head b (b.calls head.from) is h) (none_turns b h)

timed_turns : (me : Node) (boot : ℕ) (n : Node) (c : BackCall) (b : Backs) → IsClient n → Attends b → Turns (call_timed_out me boot n c b)
timed_turns me boot n c b is h =
    either_turns (nat_lt c.tries 2) _ _ (record { backs = record { lists = h.lists; calls = calls_attends n (record c { tries = c.tries + 1 }) b is h; held = h.held }; sent = (is, tt); outs = tt })
    (record { backs = ends_attends n c b h; sent = tt; outs = tt })

-- at the end of a step
record Starts (t : Started) : Type 0 where
  backs : Attends t.backs
  sent : Each ToClient t.sent

start_clients : (me : Node) (boot : ℕ) (t : Started) (o : OwedBreak) (c : Option BackCall) → IsClient o.client → Starts t → Starts (starts_by me boot t o c)
start_clients me boot t o None is h = record {
  backs = record { lists = h.backs.lists; calls = calls_attends o.client (started_call t.backs o) t.backs is h.backs; held = h.backs.held };
  sent = each_more ToClient t.sent _ h.sent (is, tt);
}
start_clients me boot t o (Some c) is h = h

starts_clients : (me : Node) (boot : ℕ) (os : List OwedBreak) (t : Started) → AllOf (λ (o : OwedBreak). IsClient o.client) os → Starts t → Starts (starts me boot os t)
starts_clients me boot [] t are h = h
starts_clients me boot (o ∷ os) t are h = starts_clients me boot os (starts_by me boot t o (t.backs.calls o.client)) are.1 (start_clients me boot t o (t.backs.calls o.client) are.0 h)

pumped_clients : (me : Node) (boot : ℕ) (t : CallbackStep) → Turns t → Starts (pumped me boot t)
pumped_clients me boot t h =
    starts_clients me boot t.backs.lists.owed _ h.backs.lists.owed
    (record {
      backs = record {
        lists = h.backs.lists;
        calls = h.backs.calls;
        held = each_filter ToClient (λ w. not (is_ready t.backs.lists.owed w)) (t.backs.held ++ t.outs) (each_both ToClient t.backs.held t.outs h.backs.held h.outs);
      };
      sent = each_more ToClient t.sent _ h.sent (each_filter ToClient (is_ready t.backs.lists.owed) (t.outs ++ t.backs.held) (each_both ToClient t.outs t.backs.held h.outs h.backs.held));
    })

-- ---- its rows

record Serves (sent : List Message) (b : Backs) : Type 0 where
  to : Each ToClient sent
  attends : Attends b

serves_by : (t : Started) → Starts t → Serves t.sent t.backs
serves_by t h = record { to = h.sent; attends = h.backs }

served_clients : (me : Node) (x : ServerState) (clock place : ℕ) (m : Message) → AreSeated me x.seats → IsClient m.head.from → Attends x.backs → Serves (server_row me x clock place (Whole m)).sent (server_row me x clock place (Whole m)).state.backs
unfolding server_row
served_clients me x clock place m s is h =
    let d : Decision = decides me x clock (Whole m) in
    serves_by _ (pumped_clients me (does me x clock place d []).state.lasting.boot (turned_in me x clock (expired clock x.backs) d (Whole m)) (carried_turns me x clock (expired clock x.backs) d m.head m.carried (hears_meets me x clock m.head m.carried s is) is (expired_attends clock x.backs h)))

timed_clients : (me : Node) (x : ServerState) (clock : ℕ) (n : Node) (c : BackCall) → IsClient n → Attends x.backs → Serves (back_timeout_row me x clock n c).sent (back_timeout_row me x clock n c).state.backs
unfolding back_timeout_row
timed_clients me x clock n c is h = serves_by _ (pumped_clients me x.lasting.boot (call_timed_out me x.lasting.boot n c (expired clock x.backs)) (timed_turns me x.lasting.boot n c (expired clock x.backs) is (expired_attends clock x.backs h)))

woken_clients : (me : Node) (x : ServerState) (clock : ℕ) → Attends x.backs → Serves (wake_row me x clock).sent (wake_row me x clock).state.backs
unfolding wake_row
woken_clients me x clock h = serves_by _ (pumped_clients me x.lasting.boot (no_turn (expired clock x.backs)) (none_turns (expired clock x.backs) (expired_attends clock x.backs h)))

risen_clients : (me : Node) (clock count : ℕ) (f : Begun ServerState) → Serves (start_row me clock count f).sent (start_row me clock count f).state.backs
unfolding start_row
risen_clients me clock count f =
    serves_by _ (pumped_clients me (revived f.state).lasting.boot (risen_turn me clock count)
    (record { backs = record { lists = risen_of (clock + promise_ticks) 0 count lists.no_lists (record { promised = tt; owed = tt }); calls = λ n c e. absurd cc; held = tt }; sent = tt; outs = tt }))

-- ---- the cell

-- a client's message, or one to a client
abbrev IsWithClient : Message → Type 0
IsWithClient m = IsClient m.head.from ⊎ IsClient m.head.to

-- whose message an interrupted step was
abbrev FellFor : Option Fall → Type 0
FellFor None = ⊤
FellFor (Some at_rest) = ⊤
FellFor (Some (in_step m clock b)) = IsClient m.head.from
FellFor (Some in_boot) = ⊤

record Attended (h : ServerHost) : Type 0 where
  attends : Attends h.state.backs
  fell : FellFor h.down

record IsClientele (c : Cell) : Type 0 where
  hosts : (i : ℕ) → Attended (c.hosts i)
  sent : Each IsWithClient c.sent

abbrev HasClientele : Cell → List Entry → Type 0
HasClientele c past = IsClientele c

abbrev Known : Script → Cell → List Entry → Type 0
Known s c past = Posted s c past × IsClientele c

-- what is not to a client is a client's
from_client : (sent : List Message) (place : ℕ) (m : Message) → Each IsWithClient sent → message_at sent place ≡ Some m → (IsClient m.head.to → ⊥) → IsClient m.head.from
from_client sent place m h at not_to = elim (each_at IsWithClient sent place m at h) [ inl from ↦ from | inr to ↦ absurd (not_to to) ]

hosts_put : (hosts : ℕ → ServerHost) (i : ℕ) (h : ServerHost) → ((j : ℕ) → Attended (hosts j)) → Attended h → (j : ℕ) → Attended (put i h hosts j)
hosts_put hosts i h all own j = at_put i j Attended h hosts (λ same. own) (λ other. all j)

by_client : (n : ℕ) (ms : List Message) → Each (IsSentBy (Client n)) ms → Each IsWithClient ms
by_client n ms h = each_map (IsSentBy (Client n)) IsWithClient (λ m x. inl (client_is m.head.from n x.from)) ms h

to_client : (ms : List Message) → Each ToClient ms → Each IsWithClient ms
to_client ms h = each_map ToClient IsWithClient (λ m x. inr x) ms h

sent_on : (c : Cell) (ms : List Message) → Each IsWithClient c.sent → Each IsWithClient ms → Each IsWithClient (c.sent ++ ms)
sent_on c ms h k = each_more IsWithClient c.sent ms h k

-- the location database answers those that ask it
loc_back : (sent : List Message) (place : Option ℕ) (k : Message) → Each IsWithClient sent → placed place sent ≡ Some k → k.head.to ≡ Loc → IsClient k.head.from
loc_back sent None k h e to = absurd cc
loc_back sent (Some place) k h e to = from_client sent place k h e (no_database k.head.to to)

loc_by : (c : Cell) (l : LocHost) (ls : List Line) (ms : List Message) (o : Option Message) → Each IsWithClient c.sent → (st : IsLocStep c l ls ms) → placed st.place c.sent ≡ o → Each IsWithClient ms
loc_by c l ls ms None h st e = subst (Each IsWithClient) (sym (st.none e)) tt
loc_by c l ls ms (Some k) h st e =
    each_map (IsBackTo k.head k.carried) IsWithClient (λ m x. inr (subst IsClient (sym x.1.0) (loc_back c.sent st.place k h e (st.to k e)))) ms (st.back k e)

clientele_moves : (s : Script) → EachMove (Known s) (Behind HasClientele)
clientele_moves s = record {
  void = λ c past h. h.1;
  ticked = λ c past n h. record { hosts = h.1.hosts; sent = h.1.sent };
  begun = λ c past n act h r z. record { hosts = h.1.hosts; sent = sent_on c _ h.1.sent (by_client n _ (begins_acts n (c.clients n) c.clock act r z).from) };
  told = λ c past n place m h at to un.
      record { hosts = h.1.hosts; sent = sent_on c _ h.1.sent (by_client n _ (given_acts (by_key (IsKnown h.0.0.0.keys.callees c.clients)) any_told n (c.clients n) c.clock place m (h.0.0.0.keys.replies n) (h.0.0.1.seats n)).from) };
  sought = λ c past n place m k h at to z e. record { hosts = h.1.hosts; sent = sent_on c _ h.1.sent (by_client n _ (sought_acts_in s c past n place m k h.0.0.1 at z e).from) };
  missed = λ c past n k h r z. record { hosts = h.1.hosts; sent = sent_on c _ h.1.sent (by_client n _ (missed_acts n (c.clients n) k r z).from) };
  waited = λ c past n act h r. record { hosts = h.1.hosts; sent = sent_on c _ h.1.sent (by_client n _ (waits_acts n (c.clients n) act r).from) };
  fallen = λ c past n h. record { hosts = h.1.hosts; sent = sent_on c [] h.1.sent tt };
  risen = λ c past n h. record { hosts = h.1.hosts; sent = sent_on c [] h.1.sent tt };
  loc = λ c past l ls ms h st. record { hosts = h.1.hosts; sent = sent_on c ms h.1.sent (loc_by c l ls ms (placed st.place c.sent) h.1.sent st refl) };
  served = λ c past i place m armed h up at to.
      let row = served_clients (Server i) (c.hosts i).state c.clock place m (h.0.1.0 i).seats (from_client c.sent place m h.1.sent at (no_server m.head.to i to)) (h.1.hosts i).attends in
      record { hosts = hosts_put c.hosts i _ h.1.hosts (record { attends = row.attends; fell = tt }); sent = sent_on c _ h.1.sent (to_client _ row.to) };
  cut = λ c past i place m t h up at to.
      record { hosts = hosts_put c.hosts i _ h.1.hosts (record { attends = (h.1.hosts i).attends; fell = from_client c.sent place m h.1.sent at (no_server m.head.to i to) }); sent = h.1.sent };
  stopped = λ c past i h up. record { hosts = hosts_put c.hosts i _ h.1.hosts (record { attends = (h.1.hosts i).attends; fell = tt }); sent = h.1.sent };
  stop_set = λ c past i calls pick armed h up. record { hosts = hosts_put c.hosts i _ h.1.hosts (record { attends = (h.1.hosts i).attends; fell = (h.1.hosts i).fell }); sent = h.1.sent };
  fail_set = λ c past i call armed h up. record { hosts = hosts_put c.hosts i _ h.1.hosts (record { attends = (h.1.hosts i).attends; fell = (h.1.hosts i).fell }); sent = h.1.sent };
  timed = λ c past i n b armed h up at.
      let row = timed_clients (Server i) (c.hosts i).state c.clock n b ((h.1.hosts i).attends.calls n b at) (h.1.hosts i).attends in
      record { hosts = hosts_put c.hosts i _ h.1.hosts (record { attends = row.attends; fell = tt }); sent = sent_on c _ h.1.sent (to_client _ row.to) };
  woken = λ c past i armed h up.
      let row = woken_clients (Server i) (c.hosts i).state c.clock (h.1.hosts i).attends in
      record { hosts = hosts_put c.hosts i _ h.1.hosts (record { attends = row.attends; fell = tt }); sent = sent_on c _ h.1.sent (to_client _ row.to) };
  started = λ c past i after fall h down.
      let row = risen_clients (Server i) c.clock c.count (begun_by_disk (Server i) (c.hosts i).state after fall) in
      record { hosts = hosts_put c.hosts i _ h.1.hosts (record { attends = row.attends; fell = tt }); sent = sent_on c _ h.1.sent (to_client _ row.to) };
  early = λ c past i fall h down. record { hosts = hosts_put c.hosts i _ h.1.hosts (record { attends = (h.1.hosts i).attends; fell = subst FellFor down (h.1.hosts i).fell }); sent = h.1.sent };
  midway = λ c past i after fall h down.
      record { hosts = hosts_put c.hosts i _ h.1.hosts (record { attends = subst Attends (sym (disk_backs (Server i) (c.hosts i).state after fall)) (h.1.hosts i).attends; fell = tt }); sent = h.1.sent };
  full = λ c past i after fall h down.
      record { hosts = hosts_put c.hosts i _ h.1.hosts (record { attends = subst Attends (sym (disk_backs (Server i) (c.hosts i).state after fall)) (h.1.hosts i).attends; fell = tt }); sent = h.1.sent };
}

known_kept : (s : Script) → IsKept (Known s)
known_kept s c past x so h = (posted_kept s c past x so h.0, each_moved (Known s) (Behind HasClientele) (clientele_moves s) c past x so h)

first_clientele : (s : Script) → IsClientele (start s)
first_clientele s = record { hosts = λ i. record { attends = record { lists = record { promised = tt; owed = tt }; calls = λ n c e. absurd cc; held = tt }; fell = tt }; sent = tt }

fell_for : (o : Option Fall) (m : Message) (clock : ℕ) (b : Blow) → o ≡ Some (in_step m clock b) → FellFor o → IsClient m.head.from
fell_for o m clock b e h = subst FellFor e h

pub cells_serve_clients : CellsServeClients
cells_serve_clients s history end r =
    let known : Known s end (past_of (set_up_entry s ∷ []) history) = run_keeps (Known s) (known_kept s) r.inputs s (set_up_entry s ∷ []) history end (posted_first s, first_clientele s) r.leads in
    record {
      given = λ i place m at to. is_so m.head.from (from_client end.sent place m known.1.sent at (no_server m.head.to i to));
      fallen = λ i clock m b e. is_so m.head.from (fell_for (end.hosts i).down m clock b e (known.1.hosts i).fell);
    }

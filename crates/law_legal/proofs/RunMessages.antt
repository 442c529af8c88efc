-- Each message of a run is sent by the node that it names, and each call of a client has a key of its own act, however many servers a
-- cell has.
use Rattle.law_legal.proofs.DatabaseKeeps.{loc_own}
use Rattle.spec_breaks.specs.declared.types.OwedBreak.{OwedBreak}
use Rattle.spec_history.specs.declared.lines.Line.{Line}
use Rattle.spec_history.specs.declared.scripts.Script.{Script}
use Rattle.law_legal.proofs.ActLines.{Acts, IsTheCall, last_key, who_at, IsOwnSeek, IsTheSeek, OfSeek}
use Rattle.law_legal.proofs.ActSteps.{begins_acts, given_acts, waits_acts, missed_acts}
use Rattle.law_legal.proofs.BaseLaws.{ByClient, Each, IfCall, OfCall, at_put, by_client, each_more, same_node-true}
use Rattle.law_legal.proofs.VolumeChanges.{run_each}
use Rattle.law_legal.proofs.ServerRefusesForGood.{IfFirm, IsSentBy, hears_firm}
use Rattle.law_legal.proofs.ServerKeepsKeys.{HasHead, served_head}
use Rattle.law_legal.proofs.CallKeysOnce.{IsKnown, any_told, by_key}
use Rattle.law_legal.proofs.RunWalk.{Behind, EachMove, IsKept, each_moved}
use Rattle.law_legal.proofs.ActCallsInRuns.{KnownAsked, asked_first, asked_kept, last_late, the_calls, sought_acts_in, late_sought}
use Rattle.law_legal.proofs.ActCalls.{of_client}
use Rattle.law_legal.proofs.OwedWaits.{each_both, each_filter}
use Rattle.law_legal.proofs.ServerSeats.{AreSeated, code_gift, code_half, kept_from}
use Rattle.law_legal.proofs.ServerSeatsAll.{SitsIn, change_code, change_firm, sits_moves}
use Rattle.law_legal.specs.Ideal.{set_up_entry}
use Rattle.law_legal.specs.Legal.{GoodCall, GoodGift, HasOwnKey, IsBy}
use Rattle.law_legal.specs.Parts.{EachSent, IsOwn, MessagesAreOwn}
use Rattle.law_legal.specs.Past.{called_key, is_new_to_act}
use Rattle.spec_model.specs.Calls as pairs
use Rattle.spec_model.specs.Calls.{Admitted, admitted, call_seat}
use Rattle.afs_num.specs.Nodes.{same_node}
use Rattle.afs_num.specs.declared.calls.FsCall.{FsCall}
use Rattle.afs_num.specs.declared.messages.Call.TheVariants as ask
use Rattle.afs_num.specs.declared.messages.Carried.{Carried}
use Rattle.afs_num.specs.declared.messages.Carried.TheVariants as carried
use Rattle.afs_num.specs.declared.messages.Message.{Message}
use Rattle.afs_num.specs.declared.messages.Received.{Received}
use Rattle.afs_num.specs.declared.messages.Received.TheVariants.{Whole}
use Rattle.afs_num.specs.declared.types.Fid.{Fid}
use Rattle.afs_num.specs.declared.types.Head.{Head}
use Rattle.afs_num.specs.declared.types.Key.{Key}
use Rattle.afs_num.specs.declared.types.Node.{Node}
use Rattle.afs_num.specs.declared.types.Node.TheVariants.{Client, Server, Loc}
use Rattle.spec_rows.specs.Callbacks.{Started, CallbackStep, break_message, breaks_call, break_call, expired, held_under, is_back_awaited, is_ready, is_seat_of, key_answered, no_turn, pumped, put, renews_by, repeats_by, replies_of, risen_turn, settles_by, started_call, starts, starts_by, call_timed_out, turn_for, turned_by, turned_in}
use Rattle.spec_rows.specs.Going.{ClientState, Going, Seek}
use Rattle.law_legal.proofs.RunSteps.{server_moves}
use Rattle.spec_rows.specs.Runs.{Armed, Cell, Entry, Fall, Moved, at_rest, begun_by_disk, in_boot, in_step, start, unarmed, ServerHost}
use Rattle.law_legal.proofs.RunSteps.{loc_becomes}
use Rattle.spec_rows.specs.ServerRow.{Change, Decision, change_reply_to, promise_ticks, admits, begun_after, decides, does, drops, hears, is_client, not_served, refuses, repeats, reply_head, revived, runs_received, saves, serves_call, shows, tells_boot, whole}
use Rattle.spec_rows.specs.ServerSteps.{back_timeout_row, server_row, start_row, wake_row}
use Rattle.spec_rows.specs.States.{BackCall, Backs, Held, ServerState}
use Rattle.spec_rows.specs.Steps.{Step, Begun}
use Rattle.std.proofs.Common.{◌≡◌, ℕ, ◌+◌, Bool, true, false, cond, List, [], ◌∷◌, ◌++◌, Option, Some, None, refl, sym, subst, not}
use Rattle.std.specs.Prelude.{⊤, ◌&&◌, nat_lt}
use Rattle.law_legal.proofs.ServerPosts.{HoldsIn, HoldsOwn, SitsHolds, holds_moves, rises_posts, served_posts, times_posts, wakes_posts}

abbrev pub Posted : Script → Cell → List Entry → Type 0
Posted s c past = KnownAsked s c past × SitsHolds c past

pub posted_kept : (s : Script) → IsKept (Posted s)
posted_kept s c past x so h = (asked_kept s c past x so h.0, (each_moved SitsIn (Behind SitsIn) sits_moves c past x so h.1.0, each_moved SitsHolds (Behind HoldsIn) holds_moves c past x so h.1))

-- ---- what is sent

abbrev pub OwnStep : Script → Cell → List Entry → Moved → Type 0
OwnStep s c past m = EachSent IsOwn (m.entry ∷ past) m.entry.sent

server_key : (i : ℕ) (head : Head) (x : Carried) (past : List Entry) → head.from ≡ Server i → GoodCall head x past
server_key i head (carried.Call user call) past from = subst (λ (n : Node). HasOwnKey n (called_key head) past) (sym from) tt
server_key i head (carried.Refusal code) past from = tt
server_key i head (carried.Reply reply) past from = tt
server_key i head carried.Notice past from = tt

server_own : (i : ℕ) (past : List Entry) (ms : List Message) → IsBy (Server i) past → Each (IsSentBy (Server i)) ms → EachSent IsOwn past ms
server_own i past [] by h = tt
server_own i past (m ∷ ms) by h = ((subst (λ (n : Node). IsBy n past) (sym h.0.from) by, server_key i m.head m.carried past h.0.from), server_own i past ms by h.1)

loc_key : (head : Head) (x : Carried) (past : List Entry) → head.from ≡ Loc → GoodCall head x past
loc_key head (carried.Call user call) past from = subst (λ (n : Node). HasOwnKey n (called_key head) past) (sym from) tt
loc_key head (carried.Refusal code) past from = tt
loc_key head (carried.Reply reply) past from = tt
loc_key head carried.Notice past from = tt

loc_sends : (past : List Entry) (ms : List Message) → IsBy Loc past → Each (IsSentBy Loc) ms → EachSent IsOwn past ms
loc_sends past [] by h = tt
loc_sends past (m ∷ ms) by h = ((subst (λ (n : Node). IsBy n past) (sym h.0.from) by, loc_key m.head m.carried past h.0.from), loc_sends past ms by h.1)

client_key : (n : ℕ) (y : ClientState) (head : Head) (x : Carried) (past : List Entry) → head.from ≡ Client n → ((act : Going) → y.running ≡ Some act → is_new_to_act (Client n) (last_key n y) past ≡ true) → ((k : Seek) → y.seeking ≡ Some k → is_new_to_act (Client n) (last_key n y) past ≡ true) → OfSeek (IsTheSeek n y) head x → OfCall (ByClient (IsTheCall n y)) head x → GoodCall head x past
client_key n y head (carried.Call user (ask.File call)) past from late seek q w =
    let c : IsTheCall n y head user call = by_client n head.from (IsTheCall n y head user call) from w in
    subst (λ (q : Node). HasOwnKey q (called_key head) past) (sym from) (subst (λ (k : Key). is_new_to_act (Client n) k past ≡ true) (sym c.key) (late c.act c.runs))
client_key n y head (carried.Call user (ask.Volume call)) past from late seek q w = absurd w
client_key n y head (carried.Call user (ask.Location call)) past from late seek q w = subst (λ (p : Node). HasOwnKey p (called_key head) past) (sym from) (subst (λ (k : Key). is_new_to_act (Client n) k past ≡ true) (sym q.key) (seek q.its q.seeks))
client_key n y head (carried.Refusal code) past from late seek q w = tt
client_key n y head (carried.Reply reply) past from late seek q w = tt
client_key n y head carried.Notice past from late seek q w = tt

client_each : (n : ℕ) (y : ClientState) (past : List Entry) (ms : List Message) → IsBy (Client n) past → Each (IsSentBy (Client n)) ms → Each (IfCall (IsTheCall n y)) ms → Each (IsOwnSeek n y) ms → ((act : Going) → y.running ≡ Some act → is_new_to_act (Client n) (last_key n y) past ≡ true) → ((k : Seek) → y.seeking ≡ Some k → is_new_to_act (Client n) (last_key n y) past ≡ true) → EachSent IsOwn past ms
client_each n y past [] by from calls keys late seek = tt
client_each n y past (m ∷ ms) by from calls keys late seek = ((subst (λ (q : Node). IsBy q past) (sym from.0.from) by, client_key n y m.head m.carried past from.0.from late seek keys.0 calls.0), client_each n y past ms by from.1 calls.1 keys.1 late seek)

client_own : (s : Script) (c : Cell) (past : List Entry) (n : ℕ) (st : Step ClientState) → KnownAsked s c past → Acts n (who_at (c.clients n)) (c.clients n).gifts st → EachSent IsOwn (of_client n st ∷ past) st.sent
client_own s c past n st h a = client_each n st.state (of_client n st ∷ past) st.sent refl a.from (the_calls n (c.clients n) st a.goes) a.keys (last_late c past s n st h.0 h.1 a.goes) (late_sought c past s n st h.0 h.1 a)

moves_own : (s : Script) (c : Cell) (past : List Entry) (i : ℕ) (armed : Armed) (st : Step ServerState) → Each (IsSentBy (Server i)) st.sent → OwnStep s c past (server_moves c i armed st)
moves_own s c past i armed st h = server_own i ((server_moves c i armed st).entry ∷ past) st.sent refl h

pub own_moves : (s : Script) → EachMove (Posted s) (OwnStep s)
own_moves s = record {
  void = λ c past h. tt;
  ticked = λ c past n h. tt;
  begun = λ c past n act h r z. client_own s c past n _ h.0 (begins_acts n (c.clients n) c.clock act r z);
  told = λ c past n place m h at to un. client_own s c past n _ h.0 (given_acts (by_key (IsKnown h.0.0.keys.callees c.clients)) any_told n (c.clients n) c.clock place m (h.0.0.keys.replies n) (h.0.1.seats n));
  sought = λ c past n place m k h at to z e. client_own s c past n _ h.0 (sought_acts_in s c past n place m k h.0.1 at z e);
  missed = λ c past n k h r z. client_own s c past n _ h.0 (missed_acts n (c.clients n) k r z);
  waited = λ c past n act h r. client_own s c past n _ h.0 (waits_acts n (c.clients n) act r);
  fallen = λ c past n h. tt;
  risen = λ c past n h. tt;
  loc = λ c past l ls ms h st. loc_sends ((loc_becomes c l ls ms).entry ∷ past) ms refl (loc_own c l ls ms st);
  served = λ c past i place m armed h up at to. moves_own s c past i armed (server_row (Server i) (c.hosts i).state c.clock place (Whole m)) (served_posts (Server i) (c.hosts i).state c.clock place m (h.1.0 i).seats (h.1.1 i)).0;
  cut = λ c past i place m t h up at to. tt;
  stopped = λ c past i h up. tt;
  stop_set = λ c past i calls pick armed h up. tt;
  fail_set = λ c past i call armed h up. tt;
  timed = λ c past i n b armed h up at. moves_own s c past i armed (back_timeout_row (Server i) (c.hosts i).state c.clock n b) (times_posts (Server i) (c.hosts i).state c.clock n b (h.1.1 i)).0;
  woken = λ c past i armed h up. moves_own s c past i armed (wake_row (Server i) (c.hosts i).state c.clock) (wakes_posts (Server i) (c.hosts i).state c.clock (h.1.1 i)).0;
  started = λ c past i after fall h down. moves_own s c past i unarmed (start_row (Server i) c.clock c.count (begun_by_disk (Server i) (c.hosts i).state after fall)) (rises_posts (Server i) c.clock c.count (begun_by_disk (Server i) (c.hosts i).state after fall)).0;
  early = λ c past i fall h down. tt;
  midway = λ c past i after fall h down. tt;
  full = λ c past i after fall h down. tt;
}

pub posted_first : (s : Script) → Posted s (start s) (set_up_entry s ∷ [])
posted_first s = (asked_first s, ((λ i. record { seats = λ n seat m e. absurd cc; kept = λ n seat m e. absurd cc }), λ i. tt))

pub run_own : MessagesAreOwn
run_own s h end r =
    run_each (Posted s) (λ past e. EachSent IsOwn (e ∷ past) e.sent) (posted_kept s) (λ c past x so k. each_moved (Posted s) (OwnStep s) (own_moves s) c past x so k) r.inputs s (set_up_entry s ∷ []) h end (posted_first s) r.leads

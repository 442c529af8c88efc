-- What servers send is theirs: each of their messages is sent in its server's own name, and so is each reply that waits there.
use Rattle.spec_breaks.specs.declared.types.OwedBreak.{OwedBreak}
use Rattle.spec_history.specs.declared.lines.Line.{Line}
use Rattle.spec_history.specs.declared.scripts.Script.{Script}
use Rattle.law_legal.proofs.BaseLaws.{ByClient, Each, IfCall, OfCall, at_put, by_client, each_more, same_node-true}
use Rattle.law_legal.proofs.ServerRefusesForGood.{IfFirm, IsSentBy, hears_firm}
use Rattle.law_legal.proofs.ServerKeepsKeys.{HasHead, served_head}
use Rattle.law_legal.proofs.CallKeysOnce.{IsKnown, any_told, by_key}
use Rattle.law_legal.proofs.RunWalk.{Behind, EachMove, IsKept, each_moved}
use Rattle.law_legal.proofs.OwedWaits.{each_both, each_filter}
use Rattle.law_legal.proofs.ServerSeats.{AreSeated, code_gift, code_half, kept_from}
use Rattle.law_legal.proofs.ServerSeatsAll.{SitsIn, change_code, change_firm, sits_moves}
use Rattle.law_legal.specs.Ideal.{set_up_entry}
use Rattle.law_legal.specs.Legal.{GoodCall, GoodGift, HasOwnKey, IsBy}
use Rattle.law_legal.specs.Parts.{EachSent, IsOwn, MessagesAreOwn}
use Rattle.law_legal.specs.Past.{called_key, is_new_to_act}
use Rattle.spec_model.specs.Calls as pairs
use Rattle.spec_model.specs.Calls.{Admitted, admitted, call_seat}
use Rattle.afs_num.specs.Nodes.{same_node}
use Rattle.afs_num.specs.declared.calls.FsCall.{FsCall}
use Rattle.afs_num.specs.declared.messages.Call.TheVariants as ask
use Rattle.afs_num.specs.declared.messages.Carried.{Carried}
use Rattle.afs_num.specs.declared.messages.Carried.TheVariants as carried
use Rattle.afs_num.specs.declared.messages.Message.{Message}
use Rattle.afs_num.specs.declared.messages.Received.{Received}
use Rattle.afs_num.specs.declared.messages.Received.TheVariants.{Whole}
use Rattle.afs_num.specs.declared.types.Fid.{Fid}
use Rattle.afs_num.specs.declared.types.Head.{Head}
use Rattle.afs_num.specs.declared.types.Key.{Key}
use Rattle.afs_num.specs.declared.types.Node.{Node}
use Rattle.afs_num.specs.declared.types.Node.TheVariants.{Client, Server}
use Rattle.spec_rows.specs.Callbacks.{Started, CallbackStep, break_message, breaks_call, break_call, expired, held_under, is_back_awaited, is_ready, is_seat_of, key_answered, no_turn, pumped, put, renews_by, repeats_by, replies_of, risen_turn, settles_by, started_call, starts, starts_by, call_timed_out, turn_for, turned_by, turned_in}
use Rattle.spec_rows.specs.Going.{ClientState, Going}
use Rattle.spec_rows.specs.Runs.{Armed, Cell, Entry, Fall, Moved, at_rest, begun_by_disk, in_boot, in_step, start, unarmed, ServerHost}
use Rattle.spec_rows.specs.ServerRow.{Change, Decision, change_reply_to, promise_ticks, admits, begun_after, decides, does, drops, hears, is_client, not_served, refuses, repeats, reply_head, revived, runs_received, saves, serves_call, shows, tells_boot, whole}
use Rattle.spec_rows.specs.ServerSteps.{back_timeout_row, server_row, start_row, wake_row}
use Rattle.spec_rows.specs.States.{BackCall, Backs, Held, ServerState}
use Rattle.spec_rows.specs.Steps.{Step, Begun}
use Rattle.std.proofs.Common.{◌≡◌, ℕ, ◌+◌, Bool, true, false, cond, List, [], ◌∷◌, ◌++◌, Option, Some, None, refl, sym, subst, not}
use Rattle.std.specs.Prelude.{⊤, ◌&&◌, nat_lt}

-- ---- what a server decides

-- what is answered was sent to it, and what is repeated is its own
abbrev IfSends : Node → Decision → Type 0
IfSends me drops = ⊤
IfSends me (tells_boot head) = head.to ≡ me
IfSends me (repeats reply) = IsSentBy me reply
IfSends me (refuses head code) = head.to ≡ me
IfSends me (shows head r) = head.to ≡ me
IfSends me (saves head c) = head.to ≡ me

sends_by : (me : Node) (head : Head) (d : Decision) → HasHead head d → head.to ≡ me → IfSends me d
sends_by me head drops h to = tt
sends_by me head (tells_boot other) h to = absurd h
sends_by me head (repeats reply) h to = absurd h
sends_by me head (refuses other code) h to = subst (λ (y : Head). y.to ≡ me) (sym h) to
sends_by me head (shows other r) h to = subst (λ (y : Head). y.to ≡ me) (sym h) to
sends_by me head (saves other c) h to = subst (λ (y : Head). y.to ≡ me) (sym h) to

either_sends : (me : Node) (t : Bool) (a b : Decision) → IfSends me a → IfSends me b → IfSends me (cond t a b)
either_sends me true a b h k = h
either_sends me false a b h k = k

admits_sends : (me : Node) (x : ServerState) (clock : ℕ) (head : Head) (user : List ℕ) (call : FsCall) (o : Admitted Message) → AreSeated me x.seats → head.to ≡ me → admitted x.lasting.boot x.seats head ≡ o → IfSends me (admits x clock head (whole head (carried.Call user (ask.File call))) o)
admits_sends me x clock head user call pairs.runs s to e = either_sends me (is_client head.from) (serves_call x clock head user call) (refuses head not_served) (sends_by me head (serves_call x clock head user call) (served_head x clock head user call) to) to
admits_sends me x clock head user call (pairs.kept reply) s to e = kept_from me x.lasting.boot x.seats head reply s e
admits_sends me x clock head user call pairs.in_progress s to e = tt
admits_sends me x clock head user call pairs.older s to e = tt
admits_sends me x clock head user call (pairs.wrong_boot boot) s to e = to

refused_sends : (me : Node) (x : ServerState) (clock : ℕ) (head : Head) (r : Received) (o : Admitted Message) → runs_received x clock head r ≡ refuses head not_served → AreSeated me x.seats → head.to ≡ me → admitted x.lasting.boot x.seats head ≡ o → IfSends me (admits x clock head r o)
refused_sends me x clock head r pairs.runs is s to e = either_sends me (is_client head.from) (runs_received x clock head r) (refuses head not_served) (subst (IfSends me) (sym is) to) to
refused_sends me x clock head r (pairs.kept reply) is s to e = kept_from me x.lasting.boot x.seats head reply s e
refused_sends me x clock head r pairs.in_progress is s to e = tt
refused_sends me x clock head r pairs.older is s to e = tt
refused_sends me x clock head r (pairs.wrong_boot boot) is s to e = to

if_to : (me : Node) (t : Bool) (head : Head) (d : Decision) → same_node head.to me ≡ t → (head.to ≡ me → IfSends me d) → IfSends me (cond t d drops)
if_to me true head d e w = w (same_node-true head.to me e)
if_to me false head d e w = tt

hears_sends : (me : Node) (x : ServerState) (clock : ℕ) (head : Head) (y : Carried) → AreSeated me x.seats → IfSends me (hears me x clock head y)
hears_sends me x clock head (carried.Call user (ask.File call)) s = if_to me (same_node head.to me) head _ refl (λ to. admits_sends me x clock head user call (admitted x.lasting.boot x.seats head) s to refl)
hears_sends me x clock head (carried.Call user call) s = if_to me (same_node head.to me) head _ refl (λ to. refused_sends me x clock head (whole head (carried.Call user call)) (admitted x.lasting.boot x.seats head) refl s to refl)
hears_sends me x clock head (carried.Refusal code) s = tt
hears_sends me x clock head (carried.Reply reply) s = tt
hears_sends me x clock head carried.Notice s = tt

-- ---- what it sends, and holds to be sent

break_gift : (head : Head) (what : Option Fid) (os : List OwedBreak) (ls : List Line) → GoodGift head (carried.Call [] (ask.File (break_call what os))) ls
break_gift head None os ls = tt
break_gift head (Some f) os ls = tt

breaks_gift : (head : Head) (os : List OwedBreak) (ls : List Line) → GoodGift head (carried.Call [] (ask.File (breaks_call os))) ls
breaks_gift head [] ls = tt
breaks_gift head (o ∷ os) ls = break_gift head o.what (o ∷ os) ls

break_sent : (me : Node) (boot : ℕ) (n : Node) (known : ℕ) (c : BackCall) → IsSentBy me (break_message me boot n known c)
break_sent me boot n known c = record { from = refl; half = λ z. refl; firm = tt; gift = λ z ls. breaks_gift (break_message me boot n known c).head c.content ls }

change_sent : (me : Node) (x : ServerState) (clock : ℕ) (head : Head) (c : Change) → head.to ≡ me → IsSentBy me (change_reply_to x.lasting.boot head clock c)
change_sent me x clock head c to = record { from = to; half = code_half (change_reply_to x.lasting.boot head clock c) (change_code (clock + promise_ticks) _); firm = change_firm x.lasting.boot head (clock + promise_ticks) _; gift = λ z ls. code_gift (reply_head x.lasting.boot head) _ ls (change_code (clock + promise_ticks) _) }

record Posts (me : Node) (t : CallbackStep) : Type 0 where
  sent : Each (IsSentBy me) t.sent
  outs : Each (IsSentBy me) (replies_of t.outs)
  held : Each (IsSentBy me) (replies_of t.backs.held)

none_posts : (me : Node) (b : Backs) → Each (IsSentBy me) (replies_of b.held) → Posts me (no_turn b)
none_posts me b h = record { sent = tt; outs = tt; held = h }

either_posts : (me : Node) (t : Bool) (a b : CallbackStep) → Posts me a → Posts me b → Posts me (cond t a b)
either_posts me true a b h k = h
either_posts me false a b h k = k

repeats_posts : (me : Node) (b : Backs) (reply : Message) (o : Option Held) (good : Bool) → IsSentBy me reply → Each (IsSentBy me) (replies_of b.held) → Posts me (repeats_by b reply o good)
repeats_posts me b reply (Some w) good r h = either_posts me (w.again && is_ready b.lists.owed w) _ _ (record { sent = tt; outs = (r, tt); held = h }) (none_posts me b h)
repeats_posts me b reply None true r h = record { sent = tt; outs = (r, tt); held = h }
repeats_posts me b reply None false r h = record { sent = tt; outs = (r, tt); held = h }

for_posts : (me : Node) (x : ServerState) (clock : ℕ) (b : Backs) (d : Decision) → IfSends me d → IfFirm d → Each (IsSentBy me) (replies_of b.held) → Posts me (turn_for me x clock b d)
for_posts me x clock b drops d f h = none_posts me b h
for_posts me x clock b (tells_boot head) d f h = record { sent = (record { from = d; half = λ z. absurd z; firm = tt; gift = λ z ls. tt }, tt); outs = tt; held = h }
for_posts me x clock b (repeats reply) d f h = repeats_posts me b reply (held_under (key_answered reply) b.held) (is_seat_of reply (call_seat reply.head.to x.lasting.kept)) d h
for_posts me x clock b (refuses head code) d f h = record { sent = tt; outs = (record { from = d; half = λ z. absurd z; firm = (refl, f); gift = λ z ls. tt }, tt); held = h }
for_posts me x clock b (shows head r) d f h = record { sent = tt; outs = (record { from = d; half = λ z. absurd z; firm = refl; gift = λ z ls. tt }, tt); held = h }
for_posts me x clock b (saves head c) d f h = record { sent = tt; outs = (change_sent me x clock head c d, tt); held = h }

settled_posts : (me : Node) (boot : ℕ) (head : Head) (b : Backs) (o : Option BackCall) → Each (IsSentBy me) (replies_of b.held) → Posts me (settles_by me boot head b o)
settled_posts me boot head b None h = none_posts me b h
settled_posts me boot head b (Some c) h = either_posts me (is_back_awaited boot c head) _ _ (record { sent = tt; outs = tt; held = h }) (none_posts me b h)

renewed_posts : (me : Node) (boot : ℕ) (head : Head) (b : Backs) (o : Option BackCall) → Each (IsSentBy me) (replies_of b.held) → Posts me (renews_by me boot head b o)
renewed_posts me boot head b None h = none_posts me b h
renewed_posts me boot head b (Some c) h = either_posts me (is_back_awaited boot c head) _ _ (record { sent = (break_sent me boot head.from head.boot c, tt); outs = tt; held = h }) (none_posts me b h)

carried_posts : (me : Node) (x : ServerState) (clock : ℕ) (b : Backs) (d : Decision) (head : Head) (c : Carried) → IfSends me d → IfFirm d → Each (IsSentBy me) (replies_of b.held) → Posts me (turned_by me x clock b d head c)
carried_posts me x clock b d head (carried.Call user call) p f h = for_posts me x clock b d p f h
carried_posts me x clock b d head (carried.Refusal code) p f h = either_posts me (same_node head.to me) _ _ (settled_posts me x.lasting.boot head b (b.calls head.from) h) (none_posts me b h)
carried_posts me x clock b d head (carried.Reply reply) p f h = either_posts me (same_node head.to me) _ _ (settled_posts me x.lasting.boot head b (b.calls head.from) h) (none_posts me b h)
carried_posts me x clock b d head carried.Notice p f h = either_posts me (same_node head.to me) _ _ (renewed_posts me x.lasting.boot head b (b.calls head.from) h) (none_posts me b h)

timed_posts : (me : Node) (boot : ℕ) (n : Node) (c : BackCall) (b : Backs) → Each (IsSentBy me) (replies_of b.held) → Posts me (call_timed_out me boot n c b)
timed_posts me boot n c b h = either_posts me (nat_lt c.tries 2) _ _ (record { sent = (break_sent me boot n (b.known n) c, tt); outs = tt; held = h }) (record { sent = tt; outs = tt; held = h })

-- at the end of a step
start_posts : (me : Node) (boot : ℕ) (t : Started) (o : OwedBreak) (c : Option BackCall) → Each (IsSentBy me) t.sent → Each (IsSentBy me) (replies_of t.backs.held) → Each (IsSentBy me) (starts_by me boot t o c).sent × Each (IsSentBy me) (replies_of (starts_by me boot t o c).backs.held)
start_posts me boot t o None h k = (each_more (IsSentBy me) t.sent _ h (break_sent me boot o.client (t.backs.known o.client) (started_call t.backs o), tt), k)
start_posts me boot t o (Some c) h k = (h, k)

starts_posts : (me : Node) (boot : ℕ) (os : List OwedBreak) (t : Started) → Each (IsSentBy me) t.sent → Each (IsSentBy me) (replies_of t.backs.held) → Each (IsSentBy me) (starts me boot os t).sent × Each (IsSentBy me) (replies_of (starts me boot os t).backs.held)
starts_posts me boot [] t h k = (h, k)
starts_posts me boot (o ∷ os) t h k = let q = start_posts me boot t o (t.backs.calls o.client) h k in starts_posts me boot os (starts_by me boot t o (t.backs.calls o.client)) q.0 q.1

abbrev pub PostsAll : Node → List Message → Backs → Type 0
PostsAll me sent b = Each (IsSentBy me) sent × Each (IsSentBy me) (replies_of b.held)

pumped_posts : (me : Node) (boot : ℕ) (t : CallbackStep) → Posts me t → PostsAll me (pumped me boot t).sent (pumped me boot t).backs
pumped_posts me boot t h =
    starts_posts me boot t.backs.lists.owed _ (each_more (IsSentBy me) t.sent _ h.sent (each_filter (IsSentBy me) (is_ready t.backs.lists.owed) (t.outs ++ t.backs.held) (each_both (IsSentBy me) t.outs t.backs.held h.outs h.held)))
    (each_filter (IsSentBy me) (λ w. not (is_ready t.backs.lists.owed w)) (t.backs.held ++ t.outs) (each_both (IsSentBy me) t.backs.held t.outs h.held h.outs))

pub served_posts : (me : Node) (x : ServerState) (clock place : ℕ) (m : Message) → AreSeated me x.seats → Each (IsSentBy me) (replies_of x.backs.held) → PostsAll me (server_row me x clock place (Whole m)).sent (server_row me x clock place (Whole m)).state.backs
unfolding server_row
served_posts me x clock place m s h =
    let d : Decision = decides me x clock (Whole m) in
    pumped_posts me (does me x clock place d []).state.lasting.boot (turned_in me x clock (expired clock x.backs) d (Whole m)) (carried_posts me x clock (expired clock x.backs) d m.head m.carried (hears_sends me x clock m.head m.carried s) (hears_firm me x clock m.head m.carried) h)

pub times_posts : (me : Node) (x : ServerState) (clock : ℕ) (n : Node) (c : BackCall) → Each (IsSentBy me) (replies_of x.backs.held) → PostsAll me (back_timeout_row me x clock n c).sent (back_timeout_row me x clock n c).state.backs
unfolding back_timeout_row
times_posts me x clock n c h = pumped_posts me x.lasting.boot (call_timed_out me x.lasting.boot n c (expired clock x.backs)) (timed_posts me x.lasting.boot n c (expired clock x.backs) h)

pub wakes_posts : (me : Node) (x : ServerState) (clock : ℕ) → Each (IsSentBy me) (replies_of x.backs.held) → PostsAll me (wake_row me x clock).sent (wake_row me x clock).state.backs
unfolding wake_row
wakes_posts me x clock h = pumped_posts me x.lasting.boot (no_turn (expired clock x.backs)) (none_posts me (expired clock x.backs) h)

pub rises_posts : (me : Node) (clock count : ℕ) (f : Begun ServerState) → PostsAll me (start_row me clock count f).sent (start_row me clock count f).state.backs
unfolding start_row
rises_posts me clock count f = pumped_posts me (revived f.state).lasting.boot (risen_turn me clock count) (record { sent = tt; outs = tt; held = tt })

-- a restart finds what is held as it was
after_backs : (me : Node) (x : ServerState) (clock : ℕ) (d : Decision) → (begun_after me x clock d).state.backs ≡ x.backs
after_backs me x clock drops = refl
after_backs me x clock (tells_boot head) = refl
after_backs me x clock (repeats reply) = refl
after_backs me x clock (refuses head code) = refl
after_backs me x clock (shows head r) = refl
after_backs me x clock (saves head c) = refl

pub disk_backs : (me : Node) (x : ServerState) (after : Bool) (fall : Fall) → (begun_by_disk me x after fall).state.backs ≡ x.backs
disk_backs me x after at_rest = refl
disk_backs me x false (in_step m clock hit) = refl
disk_backs me x true (in_step m clock hit) = after_backs me x clock (decides me x clock (Whole m))
disk_backs me x false in_boot = refl
disk_backs me x true in_boot = refl

-- ---- every step

abbrev pub HoldsOwn : (ℕ → ServerHost) → Type 0
HoldsOwn hosts = (i : ℕ) → Each (IsSentBy (Server i)) (replies_of (hosts i).state.backs.held)

abbrev pub HoldsIn : Cell → List Entry → Type 0
HoldsIn c past = HoldsOwn c.hosts

abbrev pub SitsHolds : Cell → List Entry → Type 0
SitsHolds c past = SitsIn c past × HoldsIn c past

put_holds : (hosts : ℕ → ServerHost) (i : ℕ) (h : ServerHost) → HoldsOwn hosts → Each (IsSentBy (Server i)) (replies_of h.state.backs.held) → HoldsOwn (put i h hosts)
put_holds hosts i h w own j = at_put i j (λ (x : ServerHost). Each (IsSentBy (Server j)) (replies_of x.state.backs.held)) h hosts (λ same. subst (λ (k : ℕ). Each (IsSentBy (Server k)) (replies_of h.state.backs.held)) same own) (λ other. w j)

stays_holds : (c : Cell) (i : ℕ) (after : Bool) (fall : Fall) (d : Option Fall) → HoldsOwn c.hosts → HoldsOwn (put i (record { state = (begun_by_disk (Server i) (c.hosts i).state after fall).state; down = d; armed = unarmed }) c.hosts)
stays_holds c i after fall d h = put_holds c.hosts i _ h (subst (λ (b : Backs). Each (IsSentBy (Server i)) (replies_of b.held)) (sym (disk_backs (Server i) (c.hosts i).state after fall)) (h i))

pub holds_moves : EachMove SitsHolds (Behind HoldsIn)
holds_moves = record {
  void = λ c past h. h.1;
  ticked = λ c past n h. h.1;
  begun = λ c past n act h r z. h.1;
  told = λ c past n place m h at to un. h.1;
  sought = λ c past n place m k h at to z e. h.1;
  missed = λ c past n k h r z. h.1;
  loc = λ c past l ls ms h st. h.1;
  waited = λ c past n act h r. h.1;
  fallen = λ c past n h. h.1;
  risen = λ c past n h. h.1;
  served = λ c past i place m armed h up at to. put_holds c.hosts i _ h.1 (served_posts (Server i) (c.hosts i).state c.clock place m (h.0 i).seats (h.1 i)).1;
  cut = λ c past i place m t h up at to. put_holds c.hosts i _ h.1 (h.1 i);
  stopped = λ c past i h up. put_holds c.hosts i _ h.1 (h.1 i);
  stop_set = λ c past i calls pick armed h up. put_holds c.hosts i _ h.1 (h.1 i);
  fail_set = λ c past i call armed h up. put_holds c.hosts i _ h.1 (h.1 i);
  timed = λ c past i n b armed h up at. put_holds c.hosts i _ h.1 (times_posts (Server i) (c.hosts i).state c.clock n b (h.1 i)).1;
  woken = λ c past i armed h up. put_holds c.hosts i _ h.1 (wakes_posts (Server i) (c.hosts i).state c.clock (h.1 i)).1;
  started = λ c past i after fall h down. put_holds c.hosts i _ h.1 (rises_posts (Server i) c.clock c.count (begun_by_disk (Server i) (c.hosts i).state after fall)).1;
  early = λ c past i fall h down. put_holds c.hosts i _ h.1 (h.1 i);
  midway = λ c past i after fall h down. stays_holds c i after fall (Some in_boot) h.1;
  full = λ c past i after fall h down. stays_holds c i after fall (Some at_rest) h.1;
}

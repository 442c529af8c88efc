-- The promises of a file server, the breaks that it owes, its own calls, and the replies that wait for breaks.
use Rattle.std.specs.Prelude.{ℕ, zero, suc, ◌+◌, List, [], ◌∷◌, ◌++◌, Bool, true, false, not, cond, ◌&&◌, Option, Some, None, nat_eq, nat_lt, map, filter, if◌then◌else◌}
use Rattle.afs_num.specs.Nodes.{same_node}
use Rattle.afs_num.specs.declared.types.Fid.{Fid}
use Rattle.afs_num.specs.declared.types.Node.{Node}
use Rattle.afs_num.specs.declared.types.Node.TheVariants.{Client}
use Rattle.afs_num.specs.declared.types.Half.TheVariants as halves
use Rattle.afs_num.specs.declared.types.Head.{Head}
use Rattle.afs_num.specs.declared.types.Key.{Key}
use Rattle.afs_num.specs.declared.calls.AfsCallBack.{AfsCallBack}
use Rattle.afs_num.specs.declared.calls.FsCall.{FsCall}
use Rattle.afs_num.specs.declared.calls.FsCall.TheVariants as calls
use Rattle.afs_num.specs.declared.messages.Carried.{Carried}
use Rattle.afs_num.specs.declared.messages.Carried.TheVariants as carried
use Rattle.afs_num.specs.declared.messages.Call.TheVariants as ask
use Rattle.afs_num.specs.declared.messages.Message.{Message}
use Rattle.afs_num.specs.declared.messages.Received.{Received}
use Rattle.afs_num.specs.declared.messages.Received.TheVariants.{Nothing, Unserved, Unreadable, Whole}
use Rattle.spec_breaks.specs.declared.types.OwedBreak.{OwedBreak}
use Rattle.spec_breaks.specs.Promises as lists
use Rattle.spec_breaks.specs.Promises.{Lists, has_break}
use Rattle.spec_ideal.specs.Operations.{Found}
use Rattle.spec_history.specs.declared.lines.Line.{Line}
use Rattle.spec_rows.specs.ServerRow.{Decision, drops, tells_boot, repeats, refuses, shows, saves, versions_made, granted_in, change_reply_to, read_reply_to, refusal, boot_told, promise_ticks}
use Rattle.spec_rows.specs.States.{BackCall, Held, Backs, Seat, ServerState}
use Rattle.spec_model.specs.Calls.{call_seat, is_sent_again, last_timeout}
use Rattle.spec_history.specs.declared.lines.Line.TheVariants as lines
use Rattle.afs_num.specs.declared.histories.Version.{Version}

-- a map from numbers, changed at one
abbrev pub put : {A : Type 0} → ℕ → A → (ℕ → A) → ℕ → A
put n x h j = cond (nat_eq n j) x (h j)

-- and one from nodes
abbrev pub put_at : {A : Type 0} → Node → A → (Node → A) → Node → A
put_at n x h m = cond (same_node n m) x (h m)

-- each step begins with this
abbrev pub expired : ℕ → Backs → Backs
expired clock b = record b { lists = lists.expired clock b.lists }

-- ---- promises

abbrev pub fids_found : List Found → List Fid
fids_found fs = map (λ (f : Found). f.fid) fs

-- the promises that a reply grants, one after the other
abbrev pub grants_found : Node → ℕ → List Found → Lists → Lists
grants_found n expiry fs l = lists.grants_all n expiry (fids_found fs) l

-- the node gives up its promises on these fids
abbrev pub gives_up_all : Node → List Fid → Lists → Lists
gives_up_all n [] l = l
gives_up_all n (f ∷ fs) l = gives_up_all n fs (lists.gives_up n f l)

-- a change by this node withdraws the promises of all others on its fids, fid by fid
abbrev pub withdraws_all : Node → List Version → Lists → Lists
withdraws_all n [] l = l
withdraws_all n (v ∷ vs) l = withdraws_all n vs (lists.withdraws n v.fid l)

-- the breaks that are then owed
abbrev pub new_owes : Node → List Version → Lists → List OwedBreak
new_owes n [] l = []
new_owes n (v ∷ vs) l = lists.owes_from l.last_owed (lists.hits n v.fid l.promises) ++ new_owes n vs (lists.withdraws n v.fid l)

abbrev pub owe_line : Node → OwedBreak → Line
owe_line me o = lines.Owe me o.client o.what o.number

abbrev pub break_numbers : List OwedBreak → List ℕ
break_numbers os = map (λ (o : OwedBreak). o.number) os

abbrev pub is_all : Option Fid → Bool
is_all None = true
is_all (Some f) = false

-- the numbers of the breaks that are owed on all
abbrev pub alls : List OwedBreak → List ℕ
alls [] = []
alls (o ∷ os) = if is_all o.what then o.number ∷ alls os else alls os

-- ---- replies that wait

abbrev pub waits_none : List ℕ → List OwedBreak → Bool
waits_none [] os = true
waits_none (k ∷ ks) os = if has_break k os then false else waits_none ks os

abbrev pub is_ready : List OwedBreak → Held → Bool
is_ready os h = waits_none h.waits os

-- the reply to a call of this key
abbrev pub is_reply_to : Key → Message → Bool
is_reply_to k m = same_node m.head.to k.node && (nat_eq m.head.epoch k.epoch && nat_eq m.head.number k.number)

-- the first one that waits
abbrev pub held_under : Key → List Held → Option Held
held_under k [] = None
held_under k (h ∷ hs) = if is_reply_to k h.reply then Some h else held_under k hs

abbrev pub key_answered : Message → Key
key_answered m = record { node = m.head.to; epoch = m.head.epoch; number = m.head.number }

-- the seat is that of the call that was answered
abbrev pub is_seat_of : Message → Option Seat → Bool
is_seat_of m None = false
is_seat_of m (Some seat) = nat_eq m.head.epoch seat.epoch && nat_eq m.head.number seat.number

-- ---- a step of the server: its new memory, further lines, messages, and replies to be sent now or held
pub record CallbackStep : Type 0 where
  pub backs : Backs
  pub lines : List Line
  pub sent : List Message
  pub outs : List Held

abbrev pub no_turn : Backs → CallbackStep
no_turn b = record { backs = b; lines = []; sent = []; outs = [] }

-- a reply that waits for these breaks
abbrev pub replies_turn : Backs → List Line → Message → List ℕ → CallbackStep
replies_turn b ls reply waits = record { backs = b; lines = ls; sent = []; outs = record { reply = reply; waits = waits; again = false } ∷ [] }

-- a kept reply
abbrev pub asked_again : Backs → Message → List ℕ → CallbackStep
asked_again b reply waits = record { backs = b; lines = []; sent = []; outs = record { reply = reply; waits = waits; again = true } ∷ [] }

-- A call whose own reply waits is in progress: it gets no answer. A kept reply of a changing call waits for the breaks on all, and
-- isn't held twice; where those have ended in this very step it is sent, beside the one that waited.
abbrev pub repeats_by : Backs → Message → Option Held → Bool → CallbackStep
repeats_by b reply (Some h) good = if (h.again && is_ready b.lists.owed h) then asked_again b reply h.waits else no_turn b
repeats_by b reply None true = asked_again b reply (alls b.lists.owed)
repeats_by b reply None false = asked_again b reply []

abbrev pub turn_for : Node → ServerState → ℕ → Backs → Decision → CallbackStep
turn_for me s clock b drops = no_turn b
turn_for me s clock b (tells_boot head) = record { backs = b; lines = []; sent = boot_told s.lasting.boot head ∷ []; outs = [] }
turn_for me s clock b (repeats reply) = repeats_by b reply (held_under (key_answered reply) b.held) (is_seat_of reply (call_seat reply.head.to s.lasting.kept))
turn_for me s clock b (refuses head code) = replies_turn b [] (refusal s.lasting.boot head code) []
turn_for me s clock b (shows head r) =
    replies_turn (record b { lists = grants_found head.from (clock + promise_ticks) r.granted (gives_up_all head.from r.given_up b.lists) }) []
    (read_reply_to s.lasting.boot head (clock + promise_ticks) r) []
turn_for me s clock b (saves head c) =
    replies_turn (record b { lists = grants_found head.from (clock + promise_ticks) (granted_in c) (withdraws_all head.from (versions_made c) b.lists) })
    (map (owe_line me) (new_owes head.from (versions_made c) b.lists))
    (change_reply_to s.lasting.boot head clock c) (break_numbers (new_owes head.from (versions_made c) b.lists) ++ alls b.lists.owed)

-- ---- the server's own calls

abbrev pub call_back : ℕ
call_back = 204

abbrev pub init_call_back_state : ℕ
init_call_back_state = 205

abbrev pub fid_before : Option Fid → List Fid → List Fid
fid_before None fs = fs
fid_before (Some f) fs = f ∷ fs

abbrev pub fids_of : List OwedBreak → List Fid
fids_of [] = []
fids_of (o ∷ os) = fid_before o.what (fids_of os)

abbrev pub broken_until : OwedBreak → AfsCallBack
broken_until o = record { version = 1; expiration_time = o.expiry; kind = 3 }

abbrev pub break_call : Option Fid → List OwedBreak → FsCall
break_call None os = calls.InitCallBackState
break_call (Some f) os = calls.CallBack (fids_of os) (map broken_until os)

-- the call that carries these breaks: one on all, or some on fids
abbrev pub breaks_call : List OwedBreak → FsCall
breaks_call [] = calls.CallBack [] []
breaks_call (o ∷ os) = break_call o.what (o ∷ os)

abbrev pub opcode_for : Option Fid → ℕ
opcode_for None = init_call_back_state
opcode_for (Some f) = call_back

abbrev pub breaks_opcode : List OwedBreak → ℕ
breaks_opcode [] = call_back
breaks_opcode (o ∷ os) = opcode_for o.what

-- a server's own call: its epoch is the server's boot number, its boot number that of the node that it calls
abbrev pub break_message : Node → ℕ → Node → ℕ → BackCall → Message
break_message me boot n known c = record {
  head = record { half = halves.Call; from = me; to = n; epoch = boot; number = c.number; boot = known; stamp = 0; opcode = breaks_opcode c.content };
  carried = carried.Call [] (ask.File (breaks_call c.content));
}

-- so many breaks in one call at most
abbrev pub most_breaks : ℕ
most_breaks = 50

-- a break on a fid for this node
abbrev pub is_break_for : Node → OwedBreak → Bool
is_break_for n o = same_node o.client n && not (is_all o.what)

abbrev pub first_breaks : ℕ → List OwedBreak → List OwedBreak
first_breaks zero os = []
first_breaks (suc k) [] = []
first_breaks (suc k) (o ∷ os) = o ∷ first_breaks k os

-- what a call carries whose oldest break is this
abbrev pub carries_for : Option Fid → OwedBreak → List OwedBreak → List OwedBreak
carries_for None o owed = o ∷ []
carries_for (Some f) o owed = first_breaks most_breaks (filter (is_break_for o.client) owed)

abbrev pub started_call : Backs → OwedBreak → BackCall
started_call b o = record { number = b.last_call + 1; tries = 0; content = carries_for o.what o b.lists.owed }

pub record Started : Type 0 where
  pub backs : Backs
  pub sent : List Message

abbrev pub starts_by : Node → ℕ → Started → OwedBreak → Option BackCall → Started
starts_by me boot t o None = record {
  backs = record t.backs { last_call = t.backs.last_call + 1; calls = put_at o.client (Some (started_call t.backs o)) t.backs.calls };
  sent = t.sent ++ break_message me boot o.client (t.backs.known o.client) (started_call t.backs o) ∷ [];
}
starts_by me boot t o (Some c) = t

-- the breaks are gone through from the oldest; a node without an unanswered call is called
abbrev pub starts : Node → ℕ → List OwedBreak → Started → Started
starts me boot [] t = t
starts me boot (o ∷ os) t = starts me boot os (starts_by me boot t o (t.backs.calls o.client))

-- ---- answers to them

-- the breaks of a call that are still owed
abbrev pub still_owed : BackCall → Backs → List OwedBreak
still_owed c b = filter (λ (o : OwedBreak). has_break o.number b.lists.owed) c.content

abbrev pub settle_line : Node → Node → OwedBreak → Line
settle_line me n o = lines.Settle me n o.number

abbrev pub quit_line : Node → Node → OwedBreak → Line
quit_line me n o = lines.Quit me n o.number

abbrev pub ends_all : List OwedBreak → Lists → Lists
ends_all [] l = l
ends_all (o ∷ os) l = ends_all os (lists.break_ended o.number l)

-- the call is done with: none of its breaks is owed any more
abbrev pub ends_call : Node → BackCall → Backs → Backs
ends_call n c b = record b { calls = put_at n None b.calls; lists = ends_all c.content b.lists }

abbrev pub settles : Node → Node → BackCall → Backs → CallbackStep
settles me n c b = record { backs = ends_call n c b; lines = map (settle_line me n) (still_owed c b); sent = []; outs = [] }

abbrev pub is_back_awaited : ℕ → BackCall → Head → Bool
is_back_awaited boot c head = nat_eq head.epoch boot && (nat_eq head.number c.number && nat_eq head.opcode (breaks_opcode c.content))

abbrev pub settles_by : Node → ℕ → Head → Backs → Option BackCall → CallbackStep
settles_by me boot head b None = no_turn b
settles_by me boot head b (Some c) = if is_back_awaited boot c head then settles me head.from c b else no_turn b

-- the node told its boot number: the call is sent again
abbrev pub renews : Node → ℕ → Node → ℕ → BackCall → Backs → CallbackStep
renews me boot n known c b = record { backs = record b { known = put_at n known b.known }; lines = []; sent = break_message me boot n known c ∷ []; outs = [] }

abbrev pub renews_by : Node → ℕ → Head → Backs → Option BackCall → CallbackStep
renews_by me boot head b None = no_turn b
renews_by me boot head b (Some c) = if is_back_awaited boot c head then renews me boot head.from head.boot c b else no_turn b

-- a reply or a notice to another node is none of this server's
abbrev pub if_to : Node → Head → Backs → CallbackStep → CallbackStep
if_to me head b t = if same_node head.to me then t else no_turn b

-- what a message does
abbrev pub turned_by : Node → ServerState → ℕ → Backs → Decision → Head → Carried → CallbackStep
turned_by me s clock b d head (carried.Call user call) = turn_for me s clock b d
turned_by me s clock b d head (carried.Refusal code) = if_to me head b (settles_by me s.lasting.boot head b (b.calls head.from))
turned_by me s clock b d head (carried.Reply reply) = if_to me head b (settles_by me s.lasting.boot head b (b.calls head.from))
turned_by me s clock b d head carried.Notice = if_to me head b (renews_by me s.lasting.boot head b (b.calls head.from))

-- and one of which no more than the header can be read
abbrev pub turned_in : Node → ServerState → ℕ → Backs → Decision → Received → CallbackStep
turned_in me s clock b d Nothing = no_turn b
turned_in me s clock b d (Unserved head) = turn_for me s clock b d
turned_in me s clock b d (Unreadable head) = turn_for me s clock b d
turned_in me s clock b d (Whole m) = turned_by me s clock b d m.head m.carried

-- ---- its timeouts: the last gives the breaks up

abbrev pub timeout_line : Node → ℕ → Node → ℕ → ℕ → Line
timeout_line me boot n number count = lines.Timeout me n boot number count

abbrev pub retries : Node → ℕ → Node → BackCall → Backs → CallbackStep
retries me boot n c b = record {
  backs = record b { calls = put_at n (Some (record c { tries = c.tries + 1 })) b.calls };
  lines = timeout_line me boot n c.number (c.tries + 1) ∷ [];
  sent = break_message me boot n (b.known n) c ∷ [];
  outs = [];
}

abbrev pub quits : Node → ℕ → Node → BackCall → Backs → CallbackStep
quits me boot n c b = record {
  backs = ends_call n c b;
  lines = timeout_line me boot n c.number last_timeout ∷ map (quit_line me n) (still_owed c b);
  sent = [];
  outs = [];
}

abbrev pub call_timed_out : Node → ℕ → Node → BackCall → Backs → CallbackStep
call_timed_out me boot n c b = if is_sent_again c.tries then retries me boot n c b else quits me boot n c b

-- ---- the end of each step: replies whose breaks have ended go out, and then calls for what is owed

abbrev pub replies_of : List Held → List Message
replies_of hs = map (λ (h : Held). h.reply) hs

abbrev pub held_after : CallbackStep → Backs
held_after t = record t.backs { held = filter (λ (h : Held). not (is_ready t.backs.lists.owed h)) (t.backs.held ++ t.outs) }

abbrev pub given_out : CallbackStep → List Message
given_out t = t.sent ++ replies_of (filter (is_ready t.backs.lists.owed) (t.outs ++ t.backs.held))

abbrev pub pumped : Node → ℕ → CallbackStep → Started
pumped me boot t = starts me boot t.backs.lists.owed (record { backs = held_after t; sent = given_out t })

-- ---- a restart: every client of the cell is owed a break on all

abbrev pub owed_to_clients : ℕ → ℕ → ℕ → Lists → Lists
owed_to_clients expiry k zero l = l
owed_to_clients expiry k (suc m) l = owed_to_clients expiry (k + 1) m (lists.owes_all (Client (k + 1)) expiry l)

abbrev pub revived_backs : ℕ → ℕ → Backs
revived_backs clock count = record {
  lists = owed_to_clients (clock + promise_ticks) 0 count lists.no_lists;
  last_call = 0;
  calls = λ n. None;
  known = λ n. 1;
  held = [];
}

abbrev pub risen_turn : Node → ℕ → ℕ → CallbackStep
risen_turn me clock count =
    record { backs = revived_backs clock count; lines = map (owe_line me) (revived_backs clock count).lists.owed; sent = []; outs = [] }

abbrev pub first_backs : Backs
first_backs = record { lists = lists.no_lists; last_call = 0; calls = λ n. None; known = λ n. 1; held = [] }

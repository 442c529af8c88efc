-- The replies that a server keeps, holds and sends are those that it makes: what is true of each of these is true of all.
use Rattle.spec_breaks.specs.declared.types.OwedBreak.{OwedBreak}
use Rattle.law_legal.proofs.BaseLaws.{Each, at_seat, each_more, some_of}
use Rattle.law_legal.proofs.ServerDiskKeeps.{at_placed}
use Rattle.law_legal.proofs.OwedWaits.{each_both, each_filter}
use Rattle.law_legal.specs.Past.{HasCode}
use Rattle.spec_model.specs.Calls.{call_seat, call_seated}
use Rattle.afs_num.specs.Nodes.{same_node}
use Rattle.afs_num.specs.declared.messages.Carried.{Carried}
use Rattle.afs_num.specs.declared.messages.Carried.TheVariants as carried
use Rattle.afs_num.specs.declared.messages.Message.{Message}
use Rattle.afs_num.specs.declared.messages.Received.TheVariants.{Whole}
use Rattle.afs_num.specs.declared.types.Head.{Head}
use Rattle.afs_num.specs.declared.types.Node.{Node}
use Rattle.afs_num.specs.declared.types.Node.TheVariants.{Server}
use Rattle.spec_rows.specs.Callbacks.{Started, CallbackStep, expired, held_under, is_back_awaited, is_ready, is_seat_of, key_answered, no_turn, pumped, renews_by, repeats_by, replies_of, risen_turn, settles_by, starts, starts_by, call_timed_out, turn_for, turned_by, turned_in}
use Rattle.spec_rows.specs.Runs.{Fall, at_rest, begun_by_disk, in_boot, in_step}
use Rattle.spec_rows.specs.ServerRow.{Decision, begun_after, boot_told, change_reply_to, decides, does, drops, promise_ticks, read_reply_to, refusal, refuses, repeats, revived, saves, seat_for, seat_placed, shows, tells_boot}
use Rattle.spec_rows.specs.ServerSteps.{back_timeout_row, server_row, start_row, wake_row}
use Rattle.spec_rows.specs.States.{BackCall, Backs, Held, Seat, ServerState}
use Rattle.spec_rows.specs.Steps.{Step, Begun}
use Rattle.std.proofs.Common.{◌≡◌, ℕ, ◌+◌, Bool, true, false, cond, List, [], ◌∷◌, ◌++◌, Option, Some, None, refl, sym, subst}
use Rattle.std.specs.Prelude.{⊤, ◌&&◌, not, nat_lt}

-- ---- what is kept, and held

abbrev pub AreTold : (Message → Type 0) → List Seat → Type 0
AreTold T seats = (n : Node) (seat : Seat) (m : Message) → call_seat n seats ≡ Some seat → seat.reply ≡ Some m → T m

pub record Replies (T : Message → Type 0) (x : ServerState) : Type 0 where
  pub seats : AreTold T x.seats
  pub kept : AreTold T x.lasting.kept
  pub held : Each T (replies_of x.backs.held)

-- what is no reply is spared
abbrev pub Spares : (Message → Type 0) → Type 0
Spares T = (m : Message) → (HasCode m.carried → ⊥) → T m

-- what a decision makes
abbrev pub Makes : (Message → Type 0) → ServerState → ℕ → Decision → Type 0
Makes T x clock drops = ⊤
Makes T x clock (tells_boot head) = ⊤
Makes T x clock (repeats reply) = T reply
Makes T x clock (refuses head code) = T (refusal x.lasting.boot head code)
Makes T x clock (shows head r) = T (read_reply_to x.lasting.boot head (clock + promise_ticks) r)
Makes T x clock (saves head c) = T (change_reply_to x.lasting.boot head clock c)

-- ---- one more is kept

pub one_reply : (T : Message → Type 0) (head : Head) (r m : Message) → T r → (seat_for head r).reply ≡ Some m → T m
one_reply T head r m h e = subst T (some_of r m e) h

seated_told : (T : Message → Type 0) (s : Seat) (seats : List Seat) → ((m : Message) → s.reply ≡ Some m → T m) → AreTold T seats → AreTold T (call_seated s seats)
seated_told T s seats new old n = at_seat s n seats (λ (o : Option Seat). (seat : Seat) (m : Message) → o ≡ Some seat → seat.reply ≡ Some m → T m)
    (λ own seat m e r. new m (subst (λ (y : Seat). y.reply ≡ Some m) (sym (some_of s seat e)) r)) (λ other seat m e r. old n seat m e r)

pub placed_told : (T : Message → Type 0) (s : Seat) (kept : List Seat) → ((m : Message) → s.reply ≡ Some m → T m) → AreTold T kept → AreTold T (seat_placed s kept)
placed_told T s kept new old n = at_placed s n kept (λ (o : Option Seat). (seat : Seat) (m : Message) → o ≡ Some seat → seat.reply ≡ Some m → T m)
    (λ own seat m e r. new m (subst (λ (y : Seat). y.reply ≡ Some m) (sym (some_of s seat e)) r)) (λ other seat m e r. old n seat m e r)

pub record Stays (T : Message → Type 0) (x : ServerState) : Type 0 where
  pub seats : AreTold T x.seats
  pub kept : AreTold T x.lasting.kept

does_stay : (T : Message → Type 0) (me : Node) (x : ServerState) (clock place : ℕ) (d : Decision) → Replies T x → Makes T x clock d → Stays T (does me x clock place d []).state
does_stay T me x clock place drops h k = record { seats = h.seats; kept = h.kept }
does_stay T me x clock place (tells_boot head) h k = record { seats = h.seats; kept = h.kept }
does_stay T me x clock place (repeats reply) h k = record { seats = h.seats; kept = h.kept }
does_stay T me x clock place (refuses head code) h k = let r : Message = refusal x.lasting.boot head code in record { seats = seated_told T (seat_for head r) x.seats (λ m e. one_reply T head r m k e) h.seats; kept = h.kept }
does_stay T me x clock place (shows head g) h k = let r : Message = read_reply_to x.lasting.boot head (clock + promise_ticks) g in record { seats = seated_told T (seat_for head r) x.seats (λ m e. one_reply T head r m k e) h.seats; kept = h.kept }
does_stay T me x clock place (saves head c) h k =
    let r : Message = change_reply_to x.lasting.boot head clock c in
    record { seats = seated_told T (seat_for head r) x.seats (λ m e. one_reply T head r m k e) h.seats; kept = placed_told T (seat_for head r) x.lasting.kept (λ m e. one_reply T head r m k e) h.kept }

-- ---- what it sends, and holds to be sent

pub record Turned (T : Message → Type 0) (t : CallbackStep) : Type 0 where
  pub sent : Each T t.sent
  pub outs : Each T (replies_of t.outs)
  pub held : Each T (replies_of t.backs.held)

none_turned : (T : Message → Type 0) (b : Backs) → Each T (replies_of b.held) → Turned T (no_turn b)
none_turned T b h = record { sent = tt; outs = tt; held = h }

either_turned : (T : Message → Type 0) (t : Bool) (a b : CallbackStep) → Turned T a → Turned T b → Turned T (cond t a b)
either_turned T true a b h k = h
either_turned T false a b h k = k

repeats_turned : (T : Message → Type 0) (b : Backs) (reply : Message) (o : Option Held) (good : Bool) → T reply → Each T (replies_of b.held) → Turned T (repeats_by b reply o good)
repeats_turned T b reply (Some w) good r h = either_turned T (w.again && is_ready b.lists.owed w) _ _ (record { sent = tt; outs = (r, tt); held = h }) (none_turned T b h)
repeats_turned T b reply None true r h = record { sent = tt; outs = (r, tt); held = h }
repeats_turned T b reply None false r h = record { sent = tt; outs = (r, tt); held = h }

for_turned : (T : Message → Type 0) → Spares T → (me : Node) (x : ServerState) (clock : ℕ) (b : Backs) (d : Decision) → Makes T x clock d → Each T (replies_of b.held) → Turned T (turn_for me x clock b d)
for_turned T U me x clock b drops d h = none_turned T b h
for_turned T U me x clock b (tells_boot head) d h = record { sent = (U (boot_told x.lasting.boot head) (λ z. z), tt); outs = tt; held = h }
for_turned T U me x clock b (repeats reply) d h = repeats_turned T b reply (held_under (key_answered reply) b.held) (is_seat_of reply (call_seat reply.head.to x.lasting.kept)) d h
for_turned T U me x clock b (refuses head code) d h = record { sent = tt; outs = (d, tt); held = h }
for_turned T U me x clock b (shows head r) d h = record { sent = tt; outs = (d, tt); held = h }
for_turned T U me x clock b (saves head c) d h = record { sent = tt; outs = (d, tt); held = h }

settled_turned : (T : Message → Type 0) (me : Node) (boot : ℕ) (head : Head) (b : Backs) (o : Option BackCall) → Each T (replies_of b.held) → Turned T (settles_by me boot head b o)
settled_turned T me boot head b None h = none_turned T b h
settled_turned T me boot head b (Some c) h = either_turned T (is_back_awaited boot c head) _ _ (record { sent = tt; outs = tt; held = h }) (none_turned T b h)

renewed_turned : (T : Message → Type 0) → Spares T → (i boot : ℕ) (head : Head) (b : Backs) (o : Option BackCall) → Each T (replies_of b.held) → Turned T (renews_by (Server i) boot head b o)
renewed_turned T U i boot head b None h = none_turned T b h
renewed_turned T U i boot head b (Some c) h = either_turned T (is_back_awaited boot c head) _ _ (record { sent = (U _ (λ z. z), tt); outs = tt; held = h }) (none_turned T b h)

carried_turned : (T : Message → Type 0) → Spares T → (i : ℕ) (x : ServerState) (clock : ℕ) (b : Backs) (d : Decision) (head : Head) (c : Carried) → Makes T x clock d → Each T (replies_of b.held) → Turned T (turned_by (Server i) x clock b d head c)
carried_turned T U i x clock b d head (carried.Call user call) due h = for_turned T U (Server i) x clock b d due h
carried_turned T U i x clock b d head (carried.Refusal code) due h = either_turned T (same_node head.to (Server i)) _ _ (settled_turned T (Server i) x.lasting.boot head b (b.calls head.from) h) (none_turned T b h)
carried_turned T U i x clock b d head (carried.Reply reply) due h = either_turned T (same_node head.to (Server i)) _ _ (settled_turned T (Server i) x.lasting.boot head b (b.calls head.from) h) (none_turned T b h)
carried_turned T U i x clock b d head carried.Notice due h = either_turned T (same_node head.to (Server i)) _ _ (renewed_turned T U i x.lasting.boot head b (b.calls head.from) h) (none_turned T b h)

timed_turned : (T : Message → Type 0) → Spares T → (i boot : ℕ) (n : Node) (c : BackCall) (b : Backs) → Each T (replies_of b.held) → Turned T (call_timed_out (Server i) boot n c b)
timed_turned T U i boot n c b h = either_turned T (nat_lt c.tries 2) _ _ (record { sent = (U _ (λ z. z), tt); outs = tt; held = h }) (record { sent = tt; outs = tt; held = h })

-- ---- the end of a step

start_sent : (T : Message → Type 0) → Spares T → (i boot : ℕ) (t : Started) (o : OwedBreak) (c : Option BackCall) → Each T t.sent → Each T (starts_by (Server i) boot t o c).sent
start_sent T U i boot t o None h = each_more T t.sent _ h (U _ (λ z. z), tt)
start_sent T U i boot t o (Some c) h = h

starts_sent : (T : Message → Type 0) → Spares T → (i boot : ℕ) (os : List OwedBreak) (t : Started) → Each T t.sent → Each T (starts (Server i) boot os t).sent
starts_sent T U i boot [] t h = h
starts_sent T U i boot (o ∷ os) t h = starts_sent T U i boot os _ (start_sent T U i boot t o (t.backs.calls o.client) h)

start_held : (T : Message → Type 0) (i boot : ℕ) (t : Started) (o : OwedBreak) (c : Option BackCall) → Each T (replies_of t.backs.held) → Each T (replies_of (starts_by (Server i) boot t o c).backs.held)
start_held T i boot t o None h = h
start_held T i boot t o (Some c) h = h

starts_keep : (T : Message → Type 0) (i boot : ℕ) (os : List OwedBreak) (t : Started) → Each T (replies_of t.backs.held) → Each T (replies_of (starts (Server i) boot os t).backs.held)
starts_keep T i boot [] t h = h
starts_keep T i boot (o ∷ os) t h = starts_keep T i boot os _ (start_held T i boot t o (t.backs.calls o.client) h)

pumped_sent : (T : Message → Type 0) → Spares T → (i boot : ℕ) (t : CallbackStep) → Turned T t → Each T (pumped (Server i) boot t).sent
pumped_sent T U i boot t h =
    starts_sent T U i boot t.backs.lists.owed _ (each_more T t.sent _ h.sent (each_filter T (is_ready t.backs.lists.owed) (t.outs ++ t.backs.held) (each_both T t.outs t.backs.held h.outs h.held)))

pumped_held : (T : Message → Type 0) (i boot : ℕ) (t : CallbackStep) → Turned T t → Each T (replies_of (pumped (Server i) boot t).backs.held)
pumped_held T i boot t h =
    starts_keep T i boot t.backs.lists.owed _ (each_filter T (λ w. not (is_ready t.backs.lists.owed w)) (t.backs.held ++ t.outs) (each_both T t.backs.held t.outs h.held h.outs))

-- ---- every step

pub record Replied (T : Message → Type 0) (s : Step ServerState) : Type 0 where
  pub replies : Replies T s.state
  pub sent : Each T s.sent

pub serves_replies : (T : Message → Type 0) → Spares T → (i : ℕ) (x : ServerState) (clock place : ℕ) (m : Message) → Replies T x → Makes T x clock (decides (Server i) x clock (Whole m)) → Replied T (server_row (Server i) x clock place (Whole m))
unfolding server_row
serves_replies T U i x clock place m h k =
    let d : Decision = decides (Server i) x clock (Whole m) in
    let t : CallbackStep = turned_in (Server i) x clock (expired clock x.backs) d (Whole m) in
    let q : Turned T t = carried_turned T U i x clock (expired clock x.backs) d m.head m.carried k h.held in
    let s : Stays T (does (Server i) x clock place d []).state = does_stay T (Server i) x clock place d h k in
    record {
      replies = record { seats = s.seats; kept = s.kept; held = pumped_held T i (does (Server i) x clock place d []).state.lasting.boot t q };
      sent = pumped_sent T U i (does (Server i) x clock place d []).state.lasting.boot t q;
    }

pub times_replies : (T : Message → Type 0) → Spares T → (i : ℕ) (x : ServerState) (clock : ℕ) (n : Node) (c : BackCall) → Replies T x → Replied T (back_timeout_row (Server i) x clock n c)
unfolding back_timeout_row
times_replies T U i x clock n c h =
    let t : CallbackStep = call_timed_out (Server i) x.lasting.boot n c (expired clock x.backs) in
    let q : Turned T t = timed_turned T U i x.lasting.boot n c (expired clock x.backs) h.held in
    record { replies = record { seats = h.seats; kept = h.kept; held = pumped_held T i x.lasting.boot t q }; sent = pumped_sent T U i x.lasting.boot t q }

pub wakes_replies : (T : Message → Type 0) → Spares T → (i : ℕ) (x : ServerState) (clock : ℕ) → Replies T x → Replied T (wake_row (Server i) x clock)
unfolding wake_row
wakes_replies T U i x clock h =
    let t : CallbackStep = no_turn (expired clock x.backs) in
    let q : Turned T t = none_turned T (expired clock x.backs) h.held in
    record { replies = record { seats = h.seats; kept = h.kept; held = pumped_held T i x.lasting.boot t q }; sent = pumped_sent T U i x.lasting.boot t q }

-- ---- a restart

-- the reply that a change leaves on the disk
abbrev pub Leaves : (Message → Type 0) → ServerState → ℕ → Decision → Type 0
Leaves T x clock (saves head c) = T (change_reply_to x.lasting.boot head clock c)
Leaves T x clock d = ⊤

after_replies : (T : Message → Type 0) (me : Node) (x : ServerState) (clock : ℕ) (d : Decision) → Replies T x → Leaves T x clock d → Replies T (begun_after me x clock d).state
after_replies T me x clock (saves head c) h k =
    let r : Message = change_reply_to x.lasting.boot head clock c in
    record { seats = seated_told T (seat_for head r) x.seats (λ m e. one_reply T head r m k e) h.seats; kept = placed_told T (seat_for head r) x.lasting.kept (λ m e. one_reply T head r m k e) h.kept; held = h.held }
after_replies T me x clock d h k = h

-- the step that was interrupted
abbrev pub MakesCut : (Message → Type 0) → Node → ServerState → Fall → Type 0
MakesCut T me x (in_step m clock hit) = Leaves T x clock (decides me x clock (Whole m))
MakesCut T me x fall = ⊤

pub disk_replies : (T : Message → Type 0) (me : Node) (x : ServerState) (after : Bool) (fall : Fall) → Replies T x → (after ≡ true → MakesCut T me x fall) → Replies T (begun_by_disk me x after fall).state
disk_replies T me x after at_rest h k = h
disk_replies T me x false (in_step m clock hit) h k = h
disk_replies T me x true (in_step m clock hit) h k = after_replies T me x clock (decides me x clock (Whole m)) h (k refl)
disk_replies T me x false in_boot h k = h
disk_replies T me x true in_boot h k = record { seats = h.kept; kept = h.kept; held = h.held }

pub starts_replies : (T : Message → Type 0) → Spares T → (i clock count : ℕ) (f : Begun ServerState) → Replies T f.state → Replied T (start_row (Server i) clock count f)
unfolding start_row
starts_replies T U i clock count f h =
    let t : CallbackStep = risen_turn (Server i) clock count in
    let q : Turned T t = record { sent = tt; outs = tt; held = tt } in
    record { replies = record { seats = h.kept; kept = h.kept; held = pumped_held T i (revived f.state).lasting.boot t q }; sent = pumped_sent T U i (revived f.state).lasting.boot t q }

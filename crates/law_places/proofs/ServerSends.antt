-- What a server node sends, keeps and holds asks nobody for a clone that is a read-write volume.
use Rattle.std.proofs.Common.{ℕ, ℤ, ◌+◌, Bool, true, false, cond, List, [], ◌∷◌, ◌++◌, Option, Some, None, subst}
use Rattle.std.specs.Prelude.{◌&&◌, ◌||◌, not}
use Rattle.std.specs.List.{AllByRecursion}
use Rattle.afs_num.specs.Nodes.{same_node}
use Rattle.afs_num.specs.declared.messages.Carried.{Carried}
use Rattle.afs_num.specs.declared.messages.Carried.TheVariants as carried
use Rattle.afs_num.specs.declared.messages.Message.{Message}
use Rattle.afs_num.specs.declared.messages.Received.TheVariants.{Whole}
use Rattle.afs_num.specs.declared.calls.FsReply.{FsReply}
use Rattle.afs_num.specs.declared.types.Head.{Head}
use Rattle.afs_num.specs.declared.types.Node.{Node}
use Rattle.afs_num.specs.declared.types.Node.TheVariants.{Server}
use Rattle.spec_breaks.specs.declared.types.OwedBreak.{OwedBreak}
use Rattle.spec_history.specs.declared.lines.Line.{Line}
use Rattle.spec_history.specs.declared.lines.Line.TheVariants as lines
use Rattle.spec_ideal.specs.Operations.{is_number}
use Rattle.spec_ideal.specs.Tables.{Table}
use Rattle.spec_model.specs.Calls.{call_seat, finished, is_sent_again, key_of}
use Rattle.spec_rows.specs.Callbacks.{expired, given_out, held_after, held_under, is_back_awaited, is_ready, is_seat_of, key_answered, no_turn, pumped, put_at, renews_by, repeats_by, replies_of, risen_turn, settles_by, starts, starts_by, call_timed_out, turn_for, turned_by, turned_in, Started, CallbackStep}
use Rattle.spec_rows.specs.ServerRow.{carried_by, change_reply_to, does, drops, promise_ticks, refuses, repeats, revived, saved, saves, shows, tells_boot, Change, Decision}
use Rattle.spec_rows.specs.ServerSteps.{back_timeout_row, stepped, wake_row}
use Rattle.spec_rows.specs.States.{durable_of, BackCall, Backs, Held, Lasting, ServerState}
use Rattle.spec_rows.specs.Steps.{Begun, Step}
use Rattle.spec_volrows.specs.FileRow.{file_decides, file_row, file_start}
use Rattle.spec_volrows.specs.VolRow.{holds_of}
use Rattle.spec_volrows.specs.VolStates.{NodeState, PieceCall, Sending, VolState}
use Rattle.spec_volrows.specs.VolSteps as vols
use Rattle.spec_volrows.specs.VolSteps.{answered_by, code_told, deed_done, dispatches, ends_sending, file_stepped, forward_reply, from_of, given_up, sending_goes_on, in_progress, is_awaited, is_of_client, waits_for_breaks, piece_gone, next_by, next_piece, node_back_timeout_row, node_row, node_start_row, node_wake_row, piece_timeout_row, queued, released, replies_to, sent_whole, vol_answers, vol_decides, vol_renews, vol_repeats, vol_rests, vol_row, vol_seated, vol_stepped, vol_timed, vol_told, vol_told_by, vol_turn, vol_turned, vol_turned_by, withdraws_from, with_transactions, VolDecision, VolTurn}
use Rattle.law_places.proofs.Choices.{decided_open, Chooses, IsKeptReply}
use Rattle.law_places.proofs.Copies.{admitted_copies, all_filter, all_more, decided_copies, finished_copies, placed_copies, seated_copies, started_copies, AdmittedCopies, AllCopies, Copies, DecisionCopies, IsCopying, SeatsCopy}

-- ---- replies that wait

abbrev pub HeldCopies : Held → Type 0
HeldCopies h = Copies h.reply

abbrev pub AllHeld : List Held → Type 0
AllHeld hs = AllByRecursion HeldCopies hs

out_copies : (hs : List Held) → AllHeld hs → AllCopies (replies_of hs)
out_copies [] h = tt
out_copies (x ∷ hs) h = (h.0, out_copies hs h.1)

-- ---- a file server

kept_copies : (s : ServerState) (reply : Message) → SeatsCopy s.seats → IsKeptReply s reply → Copies reply
kept_copies s reply h k = subst AdmittedCopies k.1 (admitted_copies s.lasting.boot s.seats k.0 h)

pub record TurnCopies (t : CallbackStep) : Type 0 where
  pub held : AllHeld t.backs.held
  pub sent : AllCopies t.sent
  pub outs : AllHeld t.outs

either_turn : (b : Bool) (x y : CallbackStep) → TurnCopies x → TurnCopies y → TurnCopies (cond b x y)
either_turn true x y h k = h
either_turn false x y h k = k

repeats_turn : (b : Backs) (reply : Message) (o : Option Held) (good : Bool) → Copies reply → AllHeld b.held → TurnCopies (repeats_by b reply o good)
repeats_turn b reply (Some w) good r h = either_turn (w.again && is_ready b.lists.owed w) _ _ (record { held = h; sent = tt; outs = (r, tt) }) (record { held = h; sent = tt; outs = tt })
repeats_turn b reply None true r h = record { held = h; sent = tt; outs = (r, tt) }
repeats_turn b reply None false r h = record { held = h; sent = tt; outs = (r, tt) }

-- every change has a reply, or is refused
change_copies : (boot : ℕ) (head : Head) (clock : ℕ) (c : Change) → Copies (change_reply_to boot head clock c)
change_copies boot head clock c = by _
  where
    by : (o : Option FsReply) → IsCopying (carried_by (clock + promise_ticks) o)
    by None = tt
    by (Some reply) = tt

for_turn : (me : Node) (x : ServerState) (clock : ℕ) (b : Backs) (d : Decision) → SeatsCopy x.seats → Chooses x d → AllHeld b.held → TurnCopies (turn_for me x clock b d)
for_turn me x clock b drops s d h = record { held = h; sent = tt; outs = tt }
for_turn me x clock b (tells_boot head) s d h = record { held = h; sent = (tt, tt); outs = tt }
for_turn me x clock b (repeats reply) s d h = repeats_turn b reply (held_under (key_answered reply) b.held) (is_seat_of reply (call_seat reply.head.to x.lasting.kept)) (kept_copies x reply s d) h
for_turn me x clock b (refuses head code) s d h = record { held = h; sent = tt; outs = (tt, tt) }
for_turn me x clock b (shows head r) s d h = record { held = h; sent = tt; outs = (tt, tt) }
for_turn me x clock b (saves head c) s d h = record { held = h; sent = tt; outs = (change_copies x.lasting.boot head clock c, tt) }

settled_turn : (me : Node) (boot : ℕ) (head : Head) (b : Backs) (o : Option BackCall) → AllHeld b.held → TurnCopies (settles_by me boot head b o)
settled_turn me boot head b None h = record { held = h; sent = tt; outs = tt }
settled_turn me boot head b (Some c) h = either_turn (is_back_awaited boot c head) _ _ (record { held = h; sent = tt; outs = tt }) (record { held = h; sent = tt; outs = tt })

renewed_turn : (me : Node) (boot : ℕ) (head : Head) (b : Backs) (o : Option BackCall) → AllHeld b.held → TurnCopies (renews_by me boot head b o)
renewed_turn me boot head b None h = record { held = h; sent = tt; outs = tt }
renewed_turn me boot head b (Some c) h = either_turn (is_back_awaited boot c head) _ _ (record { held = h; sent = (tt, tt); outs = tt }) (record { held = h; sent = tt; outs = tt })

carried_turn : (me : Node) (x : ServerState) (clock : ℕ) (b : Backs) (d : Decision) (head : Head) (c : Carried) → SeatsCopy x.seats → Chooses x d → AllHeld b.held → TurnCopies (turned_by me x clock b d head c)
carried_turn me x clock b d head (carried.Call user call) s p h = for_turn me x clock b d s p h
carried_turn me x clock b d head (carried.Refusal code) s p h = either_turn (same_node head.to me) _ _ (settled_turn me x.lasting.boot head b (b.calls head.from) h) (record { held = h; sent = tt; outs = tt })
carried_turn me x clock b d head (carried.Reply reply) s p h = either_turn (same_node head.to me) _ _ (settled_turn me x.lasting.boot head b (b.calls head.from) h) (record { held = h; sent = tt; outs = tt })
carried_turn me x clock b d head carried.Notice s p h = either_turn (same_node head.to me) _ _ (renewed_turn me x.lasting.boot head b (b.calls head.from) h) (record { held = h; sent = tt; outs = tt })

late_turn : (me : Node) (boot : ℕ) (n : Node) (c : BackCall) (b : Backs) → AllHeld b.held → TurnCopies (call_timed_out me boot n c b)
late_turn me boot n c b h = either_turn (is_sent_again c.tries) _ _ (record { held = h; sent = (tt, tt); outs = tt }) (record { held = h; sent = tt; outs = tt })

-- the end of its step
pub record StartedCopies (t : Started) : Type 0 where
  pub held : AllHeld t.backs.held
  pub sent : AllCopies t.sent

start_copies : (me : Node) (boot : ℕ) (t : Started) (o : OwedBreak) (c : Option BackCall) → StartedCopies t → StartedCopies (starts_by me boot t o c)
start_copies me boot t o None h = record { held = h.held; sent = all_more Copies t.sent _ h.sent (tt, tt) }
start_copies me boot t o (Some c) h = h

starts_copy : (me : Node) (boot : ℕ) (os : List OwedBreak) (t : Started) → StartedCopies t → StartedCopies (starts me boot os t)
starts_copy me boot [] t h = h
starts_copy me boot (o ∷ os) t h = starts_copy me boot os (starts_by me boot t o (t.backs.calls o.client)) (start_copies me boot t o (t.backs.calls o.client) h)

pumped_copies : (me : Node) (boot : ℕ) (t : CallbackStep) → TurnCopies t → StartedCopies (pumped me boot t)
pumped_copies me boot t h =
    starts_copy me boot t.backs.lists.owed (record { backs = held_after t; sent = given_out t })
    (record {
      held = all_filter HeldCopies (λ (w : Held). not (is_ready t.backs.lists.owed w)) (t.backs.held ++ t.outs) (all_more HeldCopies t.backs.held t.outs h.held h.outs);
      sent = all_more Copies t.sent _ h.sent (out_copies _ (all_filter HeldCopies (is_ready t.backs.lists.owed) (t.outs ++ t.backs.held) (all_more HeldCopies t.outs t.backs.held h.outs h.held)));
    })

-- what it has
pub record FileHas (s : ServerState) : Type 0 where
  pub seats : SeatsCopy s.seats
  pub kept : SeatsCopy s.lasting.kept
  pub held : AllHeld s.backs.held

pub record FileSends (s : Step ServerState) : Type 0 where
  pub has : FileHas s.state
  pub sent : AllCopies s.sent

pub saved_has : (head : Head) (clock : ℕ) (c : Change) (s : ServerState) → FileHas s → FileHas (saved head clock c s)
saved_has head clock c s h = record {
  seats = seated_copies _ s.seats (change_copies s.lasting.boot head clock c) h.seats;
  kept = placed_copies _ s.lasting.kept (change_copies s.lasting.boot head clock c) h.kept;
  held = h.held;
}

does_has : (me : Node) (s : ServerState) (clock place : ℕ) (d : Decision) → FileHas s → FileHas (does me s clock place d []).state
does_has me s clock place drops h = h
does_has me s clock place (tells_boot head) h = h
does_has me s clock place (repeats reply) h = h
does_has me s clock place (refuses head code) h = record { seats = seated_copies _ s.seats tt h.seats; kept = h.kept; held = h.held }
does_has me s clock place (shows head r) h = record { seats = seated_copies _ s.seats tt h.seats; kept = h.kept; held = h.held }
does_has me s clock place (saves head c) h = saved_has head clock c s h

stepped_sends : (me : Node) (s : ServerState) (ls : List Line) (t : CallbackStep) → SeatsCopy s.seats → SeatsCopy s.lasting.kept → TurnCopies t → FileSends (stepped me s ls t)
stepped_sends me s ls t seats kept h =
    let z = pumped_copies me s.lasting.boot t h in record { has = record { seats = seats; kept = kept; held = z.held }; sent = z.sent }

file_sends : (me : Node) (holds : Table ℕ) (s : ServerState) (clock place : ℕ) (m : Message) → FileHas s → FileSends (file_row me holds s clock place (Whole m))
unfolding file_row
file_sends me holds s clock place m h =
    let d : Decision = file_decides me holds s clock (Whole m) in
    let z : FileHas (does me s clock place d []).state = does_has me s clock place d h in
    stepped_sends me (does me s clock place d []).state _ (turned_in me s clock (expired clock s.backs) d (Whole m)) z.seats z.kept (carried_turn me s clock (expired clock s.backs) d m.head m.carried h.seats (decided_open me holds s clock (Whole m)) h.held)

late_sends : (me : Node) (s : ServerState) (clock : ℕ) (n : Node) (c : BackCall) → FileHas s → FileSends (back_timeout_row me s clock n c)
unfolding back_timeout_row
late_sends me s clock n c h = stepped_sends me s _ (call_timed_out me s.lasting.boot n c (expired clock s.backs)) h.seats h.kept (late_turn me s.lasting.boot n c (expired clock s.backs) h.held)

wake_sends : (me : Node) (s : ServerState) (clock : ℕ) → FileHas s → FileSends (wake_row me s clock)
unfolding wake_row
wake_sends me s clock h = stepped_sends me s [] (no_turn (expired clock s.backs)) h.seats h.kept (record { held = h.held; sent = tt; outs = tt })

start_sends : (me : Node) (clock count : ℕ) (f : Begun ServerState) → SeatsCopy f.state.lasting.kept → FileSends (file_start me clock count f)
unfolding file_start
start_sends me clock count f kept = stepped_sends me (revived f.state) _ (risen_turn me clock count) kept kept (record { held = tt; sent = tt; outs = tt })

-- ---- a volume server

pub record VolTurnCopies (t : VolTurn) : Type 0 where
  pub kept : SeatsCopy t.lasting.kept
  pub seats : SeatsCopy t.vol.seats
  pub held : AllHeld t.vol.held
  pub backs : AllHeld t.backs.held
  pub sent : AllCopies t.sent

-- what it begins with
record VolHas (l : Lasting) (v : VolState) (b : Backs) : Type 0 where
  kept : SeatsCopy l.kept
  seats : SeatsCopy v.seats
  held : AllHeld v.held
  backs : AllHeld b.held

rests_copy : (l : Lasting) (v : VolState) (b : Backs) → VolHas l v b → VolTurnCopies (vol_rests l v b)
rests_copy l v b h = record { kept = h.kept; seats = h.seats; held = h.held; backs = h.backs; sent = tt }

answers_copy : (l : Lasting) (v : VolState) (b : Backs) (ls : List Line) (reply : Message) (waits : List ℕ) (again : Bool) → VolHas l v b → Copies reply → VolTurnCopies (vol_answers l v b ls reply waits again)
answers_copy l v b ls reply [] again h r = record { kept = h.kept; seats = h.seats; held = h.held; backs = h.backs; sent = (r, tt) }
answers_copy l v b ls reply (k ∷ ks) again h r = record { kept = h.kept; seats = h.seats; held = all_more HeldCopies v.held _ h.held (r, tt); backs = h.backs; sent = tt }

next_copies_by : (me : Node) (boot : ℕ) (n : Node) (t : VolTurn) (xs : List Sending) (c : Option PieceCall) → VolTurnCopies t → VolTurnCopies (next_by me boot n t xs c)
next_copies_by me boot n t [] c h = h
next_copies_by me boot n t (x ∷ xs) (Some c) h = h
next_copies_by me boot n t (x ∷ xs) None h = record { kept = h.kept; seats = h.seats; held = h.held; backs = h.backs; sent = all_more Copies t.sent _ h.sent (tt, tt) }

next_copies : (me : Node) (boot : ℕ) (n : Node) (t : VolTurn) → VolTurnCopies t → VolTurnCopies (next_piece me boot n t)
next_copies me boot n t h = next_copies_by me boot n t (t.vol.sendings n) (t.vol.calls n) h

either_vol : (b : Bool) (x y : VolTurn) → VolTurnCopies x → VolTurnCopies y → VolTurnCopies (cond b x y)
either_vol true x y h k = h
either_vol false x y h k = k

repeated_copies : (l : Lasting) (v : VolState) (b : Backs) (reply : Message) (o : Option Held) (good : Bool) → VolHas l v b → Copies reply → VolTurnCopies (vol_repeats l v b reply o good)
repeated_copies l v b reply (Some w) good h r = either_vol (w.again && is_ready b.lists.owed w) _ _ (answers_copy l v b [] reply [] true h r) (rests_copy l v b h)
repeated_copies l v b reply None true h r = answers_copy l v b [] reply _ true h r
repeated_copies l v b reply None false h r = answers_copy l v b [] reply [] true h r

forward_by : (t : Bool) (boot : ℕ) (head : Head) (x y : Message) → Copies x → Copies y → Copies (cond t x y)
forward_by true boot head x y h k = h
forward_by false boot head x y h k = k

forward_copies : (boot : ℕ) (head : Head) (code : ℤ) → Copies (forward_reply boot head code)
forward_copies boot head code = forward_by (is_number code 0) boot head _ _ tt tt

ends_copy : (me : Node) (l : Lasting) (v : VolState) (b : Backs) (ls : List Line) (n : Node) (xs : List Sending) (x : Sending) (code : ℤ) → VolHas l v b → VolTurnCopies (ends_sending me l v b ls n xs x code)
ends_copy me l v b ls n xs x code h = next_copies me l.boot n (record {
  lasting = l;
  vol = record v { sendings = put_at n xs v.sendings; calls = put_at n None v.calls; seats = finished (key_of x.head) (forward_reply l.boot x.head code) v.seats };
  backs = b;
  lines = ls;
  sent = forward_reply l.boot x.head code ∷ [];
}) (record {
  kept = h.kept;
  seats = finished_copies (key_of x.head) (forward_reply l.boot x.head code) v.seats (forward_copies l.boot x.head code) h.seats;
  held = h.held;
  backs = h.backs;
  sent = (forward_copies l.boot x.head code, tt);
})

goes_copy : (me : Node) (l : Lasting) (v : VolState) (b : Backs) (n : Node) (xs : List Sending) (x : Sending) → VolHas l v b → VolTurnCopies (sending_goes_on me l v b n xs x)
goes_copy me l v b n xs x h =
    next_copies me l.boot n (vol_rests l (record v { sendings = put_at n (piece_gone x ∷ xs) v.sendings; calls = put_at n None v.calls }) b) (record { kept = h.kept; seats = h.seats; held = h.held; backs = h.backs; sent = tt })

answered_copy : (me : Node) (l : Lasting) (v : VolState) (b : Backs) (n : Node) (xs : List Sending) (code : ℤ) → VolHas l v b → VolTurnCopies (answered_by me l v b n xs code)
answered_copy me l v b n [] code h = rests_copy l v b h
answered_copy me l v b n (x ∷ xs) code h = either_vol (not (is_number code 0) || sent_whole x) _ _ (ends_copy me l v b [] n xs x code h) (goes_copy me l v b n xs x h)

renews_copy : (me : Node) (l : Lasting) (v : VolState) (b : Backs) (n : Node) (known : ℕ) (c : PieceCall) (xs : List Sending) → VolHas l v b → VolTurnCopies (vol_renews me l v b n known c xs)
renews_copy me l v b n known c [] h = rests_copy l v b h
renews_copy me l v b n known c (x ∷ xs) h = record { kept = h.kept; seats = h.seats; held = h.held; backs = h.backs; sent = (tt, tt) }

told_by_copy : (me : Node) (l : Lasting) (v : VolState) (b : Backs) (head : Head) (c : Carried) (o : Option PieceCall) → VolHas l v b → VolTurnCopies (vol_told_by me l v b head c o)
told_by_copy me l v b head c None h = rests_copy l v b h
told_by_copy me l v b head carried.Notice (Some p) h = either_vol (is_awaited l.boot p head) _ _ (renews_copy me l v b head.from head.boot p (v.sendings head.from) h) (rests_copy l v b h)
told_by_copy me l v b head (carried.Call user call) (Some p) h = either_vol (is_awaited l.boot p head) _ _ (answered_copy me l v b head.from (v.sendings head.from) (code_told (carried.Call user call)) h) (rests_copy l v b h)
told_by_copy me l v b head (carried.Refusal code) (Some p) h = either_vol (is_awaited l.boot p head) _ _ (answered_copy me l v b head.from (v.sendings head.from) (code_told (carried.Refusal code)) h) (rests_copy l v b h)
told_by_copy me l v b head (carried.Reply reply) (Some p) h = either_vol (is_awaited l.boot p head) _ _ (answered_copy me l v b head.from (v.sendings head.from) (code_told (carried.Reply reply)) h) (rests_copy l v b h)

told_copy : (me : Node) (l : Lasting) (v : VolState) (b : Backs) (head : Head) (c : Carried) → VolHas l v b → VolTurnCopies (vol_told me l v b head c)
told_copy me l v b head c h = either_vol (same_node head.to me) _ _ (told_by_copy me l v b head c (v.calls head.from) h) (rests_copy l v b h)

timed_copy : (me : Node) (l : Lasting) (v : VolState) (b : Backs) (n : Node) (c : PieceCall) (xs : List Sending) → VolHas l v b → VolTurnCopies (vol_timed me l v b n c xs)
timed_copy me l v b n c [] h = rests_copy l v b h
timed_copy me l v b n c (x ∷ xs) h =
    either_vol (is_sent_again c.tries) _ _ (record { kept = h.kept; seats = h.seats; held = h.held; backs = h.backs; sent = (tt, tt) }) (ends_copy me l v b _ n xs x given_up h)

turn_copy : (me : Node) (l : Lasting) (v : VolState) (b : Backs) (d : VolDecision) → VolHas l v b → DecisionCopies (durable_of l) d → VolTurnCopies (vol_turn me l v b d)
turn_copy me l v b vols.drops h d = rests_copy l v b h
turn_copy me l v b (vols.tells_boot head) h d = record { kept = h.kept; seats = h.seats; held = h.held; backs = h.backs; sent = (tt, tt) }
turn_copy me l v b (vols.repeats reply) h d = repeated_copies l v b reply (held_under (key_answered reply) v.held) (is_seat_of reply (call_seat reply.head.to l.kept)) h d
turn_copy me l v b (replies_to head reply ts last) h d =
    answers_copy l (vol_seated head reply (with_transactions ts last v)) b [] reply [] false (record { kept = h.kept; seats = seated_copies _ v.seats d h.seats; held = h.held; backs = h.backs }) d
turn_copy me l v b (dispatches head x) h d =
    next_copies me l.boot (Server x.server) (vol_rests l (queued head x (in_progress head v)) b) (record { kept = h.kept; seats = started_copies (key_of head) v.seats h.seats; held = h.held; backs = h.backs; sent = tt })
turn_copy me l v b (vols.saves head x) h d =
    answers_copy (deed_done head x l) (vol_seated head x.reply (with_transactions x.transactions x.last v)) (record b { lists = withdraws_from x.withdraws b.lists }) _ x.reply _ false
    (record { kept = placed_copies _ l.kept d.0 h.kept; seats = seated_copies _ v.seats d.0 h.seats; held = h.held; backs = h.backs }) d.0

turned_copy_by : (me : Node) (l : Lasting) (v : VolState) (b : Backs) (d : VolDecision) (head : Head) (c : Carried) → VolHas l v b → DecisionCopies (durable_of l) d → VolTurnCopies (vol_turned_by me l v b d head c)
turned_copy_by me l v b d head (carried.Call user call) h k = turn_copy me l v b d h k
turned_copy_by me l v b d head (carried.Refusal code) h k = told_copy me l v b head (carried.Refusal code) h
turned_copy_by me l v b d head (carried.Reply reply) h k = told_copy me l v b head (carried.Reply reply) h
turned_copy_by me l v b d head carried.Notice h k = told_copy me l v b head carried.Notice h

-- ---- a node

pub record NodeHas (s : NodeState) : Type 0 where
  pub file : FileHas s.file
  pub seats : SeatsCopy s.vol.seats
  pub held : AllHeld s.vol.held

pub record NodeSends (s : Step NodeState) : Type 0 where
  pub has : NodeHas s.state
  pub sent : AllCopies s.sent

released_sends : (v : VolState) (ls : List Line) (s : Step ServerState) → SeatsCopy v.seats → AllHeld v.held → FileSends s → NodeSends (released v ls s)
released_sends v ls s seats held h = record {
  has = record { file = h.has; seats = seats; held = all_filter HeldCopies (waits_for_breaks s.state.backs.lists.owed) v.held held };
  sent = all_more Copies s.sent _ h.sent (out_copies _ (all_filter HeldCopies (is_ready s.state.backs.lists.owed) v.held held));
}

vol_sends : (me : Node) (s : NodeState) (ls : List Line) (t : VolTurn) → NodeHas s → VolTurnCopies t → NodeSends (vol_stepped me s.file ls t)
vol_sends me s ls t h k =
    released_sends t.vol (ls ++ t.lines) _ k.seats k.held
    (stepped_sends me (record s.file { lasting = t.lasting }) [] (record { backs = t.backs; lines = []; sent = t.sent; outs = [] }) h.file.seats k.kept (record { held = k.backs; sent = k.sent; outs = tt }))

had : (s : NodeState) (clock : ℕ) → NodeHas s → VolHas s.file.lasting s.vol (expired clock s.file.backs)
had s clock h = record { kept = h.file.kept; seats = h.seats; held = h.held; backs = h.file.held }

either_sends : (b : Bool) (x y : Step NodeState) → NodeSends x → NodeSends y → NodeSends (cond b x y)
either_sends true x y h k = h
either_sends false x y h k = k

pub row_sends : (me : Node) (s : NodeState) (clock place : ℕ) (m : Message) → NodeHas s → Copies m → NodeSends (node_row me s clock place (Whole m))
unfolding node_row
row_sends me s clock place m h k =
    let l : Lasting = s.file.lasting in
    let b : Backs = expired clock s.file.backs in
    let d : VolDecision = vol_decides me (durable_of l) s.vol (Whole m) in
    either_sends (is_of_client (from_of (Whole m))) (file_stepped s.vol (file_row me (holds_of s.vol.transactions) s.file clock place (Whole m))) (vol_row me s clock place (Whole m))
    (released_sends s.vol _ _ h.seats h.held (file_sends me (holds_of s.vol.transactions) s.file clock place m h.file))
    (vol_sends me s (lines.Given place ∷ []) (vol_turned me l s.vol b d (Whole m)) h (turned_copy_by me l s.vol b d m.head m.carried (had s clock h) (decided_copies me (durable_of l) s.vol m k h.seats)))

pub piece_sends : (me : Node) (s : NodeState) (clock : ℕ) (n : Node) (c : PieceCall) → NodeHas s → NodeSends (piece_timeout_row me s clock n c)
unfolding piece_timeout_row
piece_sends me s clock n c h = vol_sends me s [] (vol_timed me s.file.lasting s.vol (expired clock s.file.backs) n c (s.vol.sendings n)) h (timed_copy me s.file.lasting s.vol (expired clock s.file.backs) n c (s.vol.sendings n) (had s clock h))

pub back_sends : (me : Node) (s : NodeState) (clock : ℕ) (n : Node) (c : BackCall) → NodeHas s → NodeSends (node_back_timeout_row me s clock n c)
unfolding node_back_timeout_row
back_sends me s clock n c h = released_sends s.vol _ _ h.seats h.held (late_sends me s.file clock n c h.file)

pub woken_sends : (me : Node) (s : NodeState) (clock : ℕ) → NodeHas s → NodeSends (node_wake_row me s clock)
unfolding node_wake_row
woken_sends me s clock h = released_sends s.vol _ _ h.seats h.held (wake_sends me s.file clock h.file)

pub risen_sends : (me : Node) (clock count : ℕ) (f : Begun ServerState) → SeatsCopy f.state.lasting.kept → NodeSends (node_start_row me clock count f)
unfolding node_start_row
risen_sends me clock count f kept = let z = start_sends me clock count f kept in record { has = record { file = z.has; seats = kept; held = tt }; sent = z.sent }

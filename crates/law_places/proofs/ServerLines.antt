-- What the steps of a server node tell of its volumes, and what they leave of them.
use Rattle.std.proofs.Common.{◌≡◌, ℕ, ℤ, ◌+◌, Bool, true, false, cond, List, [], ◌∷◌, ◌++◌, Option, Some, None, refl, sym, ap, subst, ◌∙◌, arith, eqb-true, nat_eq, if◌then◌else◌}
use Rattle.std.specs.Prelude.{⊤, ◌&&◌, ◌||◌, not, map, filter, length}
use Rattle.afs_num.specs.Nodes.{same_node}
use Rattle.afs_num.specs.declared.histories.Version.{Version}
use Rattle.afs_num.specs.declared.messages.Carried.{Carried}
use Rattle.afs_num.specs.declared.messages.Carried.TheVariants as carried
use Rattle.afs_num.specs.declared.messages.Message.{Message}
use Rattle.afs_num.specs.declared.messages.Received.TheVariants.{Whole}
use Rattle.afs_num.specs.declared.types.Head.{Head}
use Rattle.afs_num.specs.declared.types.Key.{Key}
use Rattle.afs_num.specs.declared.types.Node.{Node}
use Rattle.afs_num.specs.declared.types.Node.TheVariants.{Server}
use Rattle.spec_breaks.specs.declared.types.OwedBreak.{OwedBreak}
use Rattle.spec_history.specs.declared.lines.Line.{Line}
use Rattle.spec_history.specs.declared.lines.Line.TheVariants as lines
use Rattle.spec_ideal.specs.Operations.{is_number, Found}
use Rattle.spec_ideal.specs.Tables.{get, set, AscendsFrom, Table}
use Rattle.spec_ideal.specs.Volumes.{Volume}
use Rattle.spec_ideal.proofs.Tables.{ascends_set}
use Rattle.spec_model.proofs.Basics.{both, same_node-refl}
use Rattle.spec_model.specs.Calls.{call_seat, finished, is_sent_again, key_of}
use Rattle.spec_records.proofs.Kept.{same_rest}
use Rattle.spec_records.specs.Durable.{Stored}
use Rattle.spec_fold.specs.Deeds.{can_take, done_by}
use Rattle.spec_fold.specs.Effects.{effect_by, vanished_lines}
use Rattle.spec_rows.specs.Callbacks.{expired, held_under, is_back_awaited, is_ready, is_seat_of, key_answered, new_owes, owe_line, put_at, quit_line, renews_by, repeats_by, risen_turn, settle_line, settles_by, still_owed, call_timed_out, turn_for, turned_by, turned_in, CallbackStep}
use Rattle.spec_rows.specs.Hosts.{at_rest, begun_from, comes_up, crashed, ends, fails_early, fails_midway, fall_line, in_boot, in_step, is_full, restarted, served, served_by, set_to_fail, set_to_stop, struck, Blow, Fall, Luck, Outcome}
use Rattle.spec_rows.specs.ServerRow.{begun_after, does, drops, granted, granted_in, is_unflagged, versions_made, promise_ticks, refuses, repeats, saves, shows, stored_by, tells_boot, versioned, Change, Decision}
use Rattle.spec_rows.specs.ServerSteps.{back_timeout_row, wake_row}
use Rattle.spec_rows.specs.States.{durable_of, BackCall, Backs, Held, Lasting, ServerState}
use Rattle.spec_rows.specs.Steps.{begun_before, Begun}
use Rattle.spec_volrows.proofs.VolTurns.{deeds_are_shown, others_leave_files}
use Rattle.spec_volrows.specs.FileHosts.{file_begun_again}
use Rattle.spec_volrows.specs.FileRow.{file_decides, file_row, file_start}
use Rattle.spec_volrows.specs.NodeHosts.{file_begun, node_begun, node_kind, NodeHost}
use Rattle.spec_volrows.proofs.VolKeeping.{deeds_are_writable}
use Rattle.spec_volrows.specs.VolLaws.{is_saved, IsWritable, OfSaved, ShowsDeed}
use Rattle.spec_volrows.specs.VolRow.{holds_of}
use Rattle.spec_volrows.specs.VolStates.{NodeState, PieceCall, Sending, VolState}
use Rattle.spec_volrows.specs.VolSteps as vols
use Rattle.spec_volrows.specs.VolSteps.{answered_by, deed_done, deed_head, deed_lines, dispatched, dispatches, ends_sending, forward_reply, from_of, in_progress, given_up, sending_goes_on, is_awaited, is_of_client, piece_gone, next_by, next_piece, node_back_timeout_row, node_begun_after, node_file_decides, node_row, node_start_row, node_wake_row, owes_of, piece_timeout_row, queued, replies_to, sent_whole, vol_answers, vol_begun_after, vol_decides, vol_renews, vol_repeats, vol_rests, vol_seated, vol_timed, vol_told, vol_told_by, vol_turn, vol_turned, vol_turned_by, with_transactions, Deed, VolDecision, VolTurn}
use Rattle.law_places.specs.Accepting.{is_in_service, has_in_service}
use Rattle.law_places.proofs.Choices.{decided_open, Chooses, IsOpenChange}
use Rattle.law_places.proofs.KindTests.{changed_kind, versions_of, AreOf}
use Rattle.law_places.proofs.Turning.{AreStill}
use Rattle.law_places.proofs.Shifting.{deed_ascends, deed_shifts, set_same, stamp_volumes, start_shifts, started_ascends, still_shifts, then_shifts, IsCopy, Same, Shifts}

-- ---- what a file server tells

settles_still : (me n : Node) (os : List OwedBreak) → AreStill (map (settle_line me n) os)
settles_still me n [] = refl
settles_still me n (o ∷ os) = settles_still me n os

quits_still : (me n : Node) (os : List OwedBreak) → AreStill (map (quit_line me n) os)
quits_still me n [] = refl
quits_still me n (o ∷ os) = quits_still me n os

pub owes_still : (me : Node) (os : List OwedBreak) → AreStill (map (owe_line me) os)
owes_still me [] = refl
owes_still me (o ∷ os) = owes_still me os

pub granted_still : (me client : Node) (expiry : ℕ) (fs : List Found) (ls : List Line) → AreStill ls → AreStill (granted me client expiry fs ls)
granted_still me client expiry [] ls h = h
granted_still me client expiry (f ∷ fs) ls h = granted_still me client expiry fs ls h

either_still : (t : Bool) (a b : CallbackStep) → AreStill a.lines → AreStill b.lines → AreStill (cond t a b).lines
either_still true a b h k = h
either_still false a b h k = k

repeats_still : (b : Backs) (reply : Message) (o : Option Held) (good : Bool) → AreStill (repeats_by b reply o good).lines
repeats_still b reply (Some w) good = either_still (w.again && is_ready b.lists.owed w) _ _ refl refl
repeats_still b reply None true = refl
repeats_still b reply None false = refl

for_still : (me : Node) (x : ServerState) (clock : ℕ) (b : Backs) (d : Decision) → AreStill (turn_for me x clock b d).lines
for_still me x clock b drops = refl
for_still me x clock b (tells_boot head) = refl
for_still me x clock b (repeats reply) = repeats_still b reply (held_under (key_answered reply) b.held) (is_seat_of reply (call_seat reply.head.to x.lasting.kept))
for_still me x clock b (refuses head code) = refl
for_still me x clock b (shows head r) = refl
for_still me x clock b (saves head c) = owes_still me (new_owes head.from (versions_made c) b.lists)

settled_still : (me : Node) (boot : ℕ) (head : Head) (b : Backs) (o : Option BackCall) → AreStill (settles_by me boot head b o).lines
settled_still me boot head b None = refl
settled_still me boot head b (Some c) = either_still (is_back_awaited boot c head) _ _ (settles_still me head.from (still_owed c b)) refl

renewed_still : (me : Node) (boot : ℕ) (head : Head) (b : Backs) (o : Option BackCall) → AreStill (renews_by me boot head b o).lines
renewed_still me boot head b None = refl
renewed_still me boot head b (Some c) = either_still (is_back_awaited boot c head) _ _ refl refl

pub carried_still : (me : Node) (x : ServerState) (clock : ℕ) (b : Backs) (d : Decision) (head : Head) (c : Carried) → AreStill (turned_by me x clock b d head c).lines
carried_still me x clock b d head (carried.Call user call) = for_still me x clock b d
carried_still me x clock b d head (carried.Refusal code) = either_still (same_node head.to me) _ _ (settled_still me x.lasting.boot head b (b.calls head.from)) refl
carried_still me x clock b d head (carried.Reply reply) = either_still (same_node head.to me) _ _ (settled_still me x.lasting.boot head b (b.calls head.from)) refl
carried_still me x clock b d head carried.Notice = either_still (same_node head.to me) _ _ (renewed_still me x.lasting.boot head b (b.calls head.from)) refl

pub late_still : (me : Node) (boot : ℕ) (n : Node) (c : BackCall) (b : Backs) → AreStill (call_timed_out me boot n c b).lines
late_still me boot n c b = either_still (is_sent_again c.tries) _ _ refl (quits_still me n (still_owed c b))

-- ---- a change leaves its volume in service, or out of it

changed_same : (clock : ℕ) (c : Change) → is_in_service (Some (stored_by clock c)) ≡ is_in_service (Some c.before)
changed_same clock c = ap (λ (v : Volume). is_in_service (Some (record c.before { volume = v }))) (same_rest c.id c.edits c.before.volume)

-- the volumes behind it serve as before, and ascend
pub record Keeps (a b : Table Stored) : Type 0 where
  pub same : Same a b
  pub up : AscendsFrom 0 a → AscendsFrom 0 b

all_kept : (a : Table Stored) → Keeps a a
all_kept a = record { same = λ id. refl; up = λ h. h }

change_keeps : (clock : ℕ) (c : Change) (t : Table Stored) → get c.id t ≡ Some c.before → Keeps t (set c.id (stored_by clock c) t)
change_keeps clock c t there = record { same = set_same c.id (stored_by clock c) t (changed_same clock c ∙ sym (ap is_in_service there)); up = λ h. ascends_set 0 c.id _ _ (omega arith) h }

-- ---- a step of a server: the lines lead from what is in service there before to what is behind it

pub record Moves (me : Node) (a b : Table Stored) (ls : List Line) : Type 0 where
  pub shifts : Shifts me a b ls
  pub up : AscendsFrom 0 a → AscendsFrom 0 b

still_moves : (me : Node) (a b : Table Stored) (ls : List Line) → AreStill ls → Keeps a b → Moves me a b ls
still_moves me a b ls h k = record { shifts = still_shifts me a b ls h k.same; up = k.up }

then_moves : (me : Node) (a b c : Table Stored) (xs ys : List Line) → Moves me a b xs → Moves me b c ys → Moves me a c (xs ++ ys)
then_moves me a b c xs ys h k = record { shifts = then_shifts me a b c xs ys h.shifts k.shifts; up = λ z. k.up (h.up z) }

abbrev pub volumes_of : NodeState → Table Stored
volumes_of s = s.file.lasting.volumes

from_kept : (me : Node) (a b c : Table Stored) (ls : List Line) → Keeps a b → Moves me b c ls → Moves me a c ls
from_kept me a b c ls k h = then_moves me a b c [] ls (still_moves me a b [] refl k) h

-- a line of a change, and its versions, where the volume is in service
change_moves : (me : Node) (a c : Table Stored) (key : Key) (count : ℕ) (ls : List Line) → Moves me a c ls → Moves me a c (lines.Change me key count ∷ ls)
change_moves me a c key count ls h = record {
  shifts = record { own = rw (same_node-refl me) h.shifts.own; turns = h.shifts.turns; good = λ id under. (tt, h.shifts.good id (same_node me me)) };
  up = h.up;
}

good_there : (id k : ℕ) (t : Table Stored) → has_in_service t id ≡ true → nat_eq id k ≡ true → has_in_service t k ≡ true
good_there id k t h e = subst (λ (n : ℕ). has_in_service t n ≡ true) (eqb-true id k e) h

versioned_moves : (me : Node) (id : ℕ) (a c : Table Stored) (vs : List Version) (ls : List Line) → AreOf id vs → has_in_service a id ≡ true → Moves me a c ls → Moves me a c (versioned vs ls)
versioned_moves me id a c [] ls of there h = h
versioned_moves me id a c (v ∷ vs) ls of there h =
    let z = versioned_moves me id a c vs ls of.1 there h in
    record {
      shifts = record { own = z.shifts.own; turns = z.shifts.turns; good = λ k under. ((λ e. good_there id k a there (subst (λ (n : ℕ). nat_eq n k ≡ true) of.0 (both under (nat_eq v.fid.volume k) e).1)), z.shifts.good k under) };
      up = z.up;
    }

open_there : (x : ServerState) (c : Change) → IsOpenChange x c → has_in_service x.lasting.volumes c.id ≡ true
open_there x c h =
    let kind : nat_eq c.before.volume.kind 0 ≡ true = changed_kind c.id c.caller c.call c.before.volume c.edits c.shown h.result in
    ap is_in_service h.found ∙ (rw (kind, h.flags) refl)

saved_change : (me : Node) (x : ServerState) (clock : ℕ) (head : Head) (c : Change) (after : Table Stored) (ls : List Line) → IsOpenChange x c → Moves me (set c.id (stored_by clock c) x.lasting.volumes) after ls →
    Moves me x.lasting.volumes after (lines.Change me (key_of head) (length (versions_made c)) ∷ versioned (versions_made c) ls)
saved_change me x clock head c after ls h k =
    let t : Table Stored = x.lasting.volumes in
    change_moves me t after (key_of head) (length (versions_made c)) (versioned (versions_made c) ls)
    (versioned_moves me c.id t after (versions_made c) ls (versions_of c.id c.edits c.before.volume) (open_there x c h) (from_kept me t (set c.id (stored_by clock c) t) after ls (change_keeps clock c t h.found) k))

does_moves : (me : Node) (x : ServerState) (clock place : ℕ) (d : Decision) (ls : List Line) → Chooses x d → AreStill ls → Moves me x.lasting.volumes (does me x clock place d []).state.lasting.volumes (does me x clock place d ls).lines
does_moves me x clock place drops ls c h = still_moves me _ _ _ h (all_kept _)
does_moves me x clock place (tells_boot head) ls c h = still_moves me _ _ _ h (all_kept _)
does_moves me x clock place (repeats reply) ls c h = still_moves me _ _ _ h (all_kept _)
does_moves me x clock place (refuses head code) ls c h = still_moves me _ _ _ h (all_kept _)
does_moves me x clock place (shows head r) ls c h = still_moves me _ _ _ (granted_still me head.from (clock + promise_ticks) r.granted ls h) (all_kept _)
does_moves me x clock place (saves head ch) ls c h =
    let t : Table Stored = x.lasting.volumes in
    let u : Table Stored = set ch.id (stored_by clock ch) t in
    then_moves me t t u (lines.Given place ∷ []) _ (still_moves me t t (lines.Given place ∷ []) refl (all_kept t))
    (saved_change me x clock head ch u (granted me head.from (clock + promise_ticks) (granted_in ch) ls) c (still_moves me u u _ (granted_still me head.from (clock + promise_ticks) (granted_in ch) ls h) (all_kept u)))

file_moves : (me : Node) (holds : Table ℕ) (x : ServerState) (clock place : ℕ) (m : Message) → Moves me x.lasting.volumes (file_row me holds x clock place (Whole m)).state.lasting.volumes (file_row me holds x clock place (Whole m)).lines
unfolding file_row
file_moves me holds x clock place m =
    let d : Decision = file_decides me holds x clock (Whole m) in
    let t : CallbackStep = turned_in me x clock (expired clock x.backs) d (Whole m) in
    let z = does_moves me x clock place d t.lines (decided_open me holds x clock (Whole m)) (carried_still me x clock (expired clock x.backs) d m.head m.carried) in
    record { shifts = z.shifts; up = z.up }

-- ---- what a volume server tells where it writes nothing

next_by_still : (me : Node) (boot : ℕ) (n : Node) (t : VolTurn) (xs : List Sending) (c : Option PieceCall) → AreStill t.lines → AreStill (next_by me boot n t xs c).lines
next_by_still me boot n t [] c h = h
next_by_still me boot n t (x ∷ xs) (Some c) h = h
next_by_still me boot n t (x ∷ xs) None h = h

next_still : (me : Node) (boot : ℕ) (n : Node) (t : VolTurn) → AreStill t.lines → AreStill (next_piece me boot n t).lines
next_still me boot n t h = next_by_still me boot n t (t.vol.sendings n) (t.vol.calls n) h

answers_still : (l : Lasting) (v : VolState) (b : Backs) (reply : Message) (waits : List ℕ) (again : Bool) → AreStill (vol_answers l v b [] reply waits again).lines
answers_still l v b reply [] again = refl
answers_still l v b reply (k ∷ ks) again = refl

either_told : (t : Bool) (a b : VolTurn) → AreStill a.lines → AreStill b.lines → AreStill (cond t a b).lines
either_told true a b h k = h
either_told false a b h k = k

repeated_still : (l : Lasting) (v : VolState) (b : Backs) (reply : Message) (o : Option Held) (good : Bool) → AreStill (vol_repeats l v b reply o good).lines
repeated_still l v b reply (Some h) good = either_told (h.again && is_ready b.lists.owed h) _ _ (answers_still l v b reply [] true) refl
repeated_still l v b reply None true = answers_still l v b reply _ true
repeated_still l v b reply None false = answers_still l v b reply [] true

ends_still : (me : Node) (l : Lasting) (v : VolState) (b : Backs) (ls : List Line) (n : Node) (xs : List Sending) (x : Sending) (code : ℤ) → AreStill ls → AreStill (ends_sending me l v b ls n xs x code).lines
ends_still me l v b ls n xs x code h = next_still me l.boot n (record {
  lasting = l;
  vol = record v { sendings = put_at n xs v.sendings; calls = put_at n None v.calls; seats = finished (key_of x.head) (forward_reply l.boot x.head code) v.seats };
  backs = b;
  lines = ls;
  sent = forward_reply l.boot x.head code ∷ [];
}) h

goes_still : (me : Node) (l : Lasting) (v : VolState) (b : Backs) (n : Node) (xs : List Sending) (x : Sending) → AreStill (sending_goes_on me l v b n xs x).lines
goes_still me l v b n xs x = next_still me l.boot n (vol_rests l (record v { sendings = put_at n (piece_gone x ∷ xs) v.sendings; calls = put_at n None v.calls }) b) refl

answered_still : (me : Node) (l : Lasting) (v : VolState) (b : Backs) (n : Node) (xs : List Sending) (code : ℤ) → AreStill (answered_by me l v b n xs code).lines
answered_still me l v b n [] code = refl
answered_still me l v b n (x ∷ xs) code = either_told (not (is_number code 0) || sent_whole x) _ _ (ends_still me l v b [] n xs x code refl) (goes_still me l v b n xs x)

renews_still : (me : Node) (l : Lasting) (v : VolState) (b : Backs) (n : Node) (known : ℕ) (c : PieceCall) (xs : List Sending) → AreStill (vol_renews me l v b n known c xs).lines
renews_still me l v b n known c [] = refl
renews_still me l v b n known c (x ∷ xs) = refl

told_by_still : (me : Node) (l : Lasting) (v : VolState) (b : Backs) (head : Head) (c : Carried) (o : Option PieceCall) → AreStill (vol_told_by me l v b head c o).lines
told_by_still me l v b head c None = refl
told_by_still me l v b head carried.Notice (Some p) = either_told (is_awaited l.boot p head) _ _ (renews_still me l v b head.from head.boot p (v.sendings head.from)) refl
told_by_still me l v b head (carried.Call user call) (Some p) = either_told (is_awaited l.boot p head) _ _ (answered_still me l v b head.from (v.sendings head.from) _) refl
told_by_still me l v b head (carried.Refusal code) (Some p) = either_told (is_awaited l.boot p head) _ _ (answered_still me l v b head.from (v.sendings head.from) _) refl
told_by_still me l v b head (carried.Reply reply) (Some p) = either_told (is_awaited l.boot p head) _ _ (answered_still me l v b head.from (v.sendings head.from) _) refl

told_still : (me : Node) (l : Lasting) (v : VolState) (b : Backs) (head : Head) (c : Carried) → AreStill (vol_told me l v b head c).lines
told_still me l v b head c = either_told (same_node head.to me) _ _ (told_by_still me l v b head c (v.calls head.from)) refl

pub timed_still : (me : Node) (l : Lasting) (v : VolState) (b : Backs) (n : Node) (c : PieceCall) (xs : List Sending) → AreStill (vol_timed me l v b n c xs).lines
timed_still me l v b n c [] = refl
timed_still me l v b n c (x ∷ xs) = either_told (is_sent_again c.tries) _ _ refl (ends_still me l v b _ n xs x given_up refl)

turn_still : (me : Node) (l : Lasting) (v : VolState) (b : Backs) (d : VolDecision) → is_saved d ≡ false → AreStill (vol_turn me l v b d).lines
turn_still me l v b vols.drops e = refl
turn_still me l v b (vols.tells_boot head) e = refl
turn_still me l v b (vols.repeats reply) e = repeated_still l v b reply _ _
turn_still me l v b (replies_to head reply ts last) e = answers_still l (vol_seated head reply (with_transactions ts last v)) b reply [] false
turn_still me l v b (dispatches head x) e = next_still me l.boot (Server x.server) (vol_rests l (queued head x (in_progress head v)) b) refl
turn_still me l v b (vols.saves head x) e = absurd cc

pub turned_still_by : (me : Node) (l : Lasting) (v : VolState) (b : Backs) (d : VolDecision) (head : Head) (c : Carried) → is_saved d ≡ false → AreStill (vol_turned_by me l v b d head c).lines
turned_still_by me l v b d head (carried.Call user call) e = turn_still me l v b d e
turned_still_by me l v b d head (carried.Refusal code) e = told_still me l v b head (carried.Refusal code)
turned_still_by me l v b d head (carried.Reply reply) e = told_still me l v b head (carried.Reply reply)
turned_still_by me l v b d head carried.Notice e = told_still me l v b head carried.Notice

-- ---- a message to a volume server

-- Where something is written, it makes no clone of kind 0.
abbrev pub SavesCopies : NodeState → VolDecision → Type 0
SavesCopies s d = OfSaved (λ head x. IsCopy (durable_of s.file.lasting) x.body) d

saved_moves : (me : Node) (s : NodeState) (clock place : ℕ) (m : Message) (head : Head) (x : Deed) → is_of_client (from_of (Whole m)) ≡ false → vol_decides me (durable_of s.file.lasting) s.vol (Whole m) ≡ vols.saves head x → IsCopy (durable_of s.file.lasting) x.body →
    Moves me (volumes_of s) (volumes_of (node_row me s clock place (Whole m)).state) (node_row me s clock place (Whole m)).lines
saved_moves me s clock place m head x other is copy =
    let l : Lasting = s.file.lasting in
    let shown : ShowsDeed me s clock place head x (node_row me s clock place (Whole m)) = deeds_are_shown me s clock place (Whole m) head x other is in
    let writable = subst (OfSaved (IsWritable (durable_of l))) is (deeds_are_writable me (durable_of l) s.vol (Whole m)) in
    let left : Table Stored = (deed_done head x l).volumes in
    let stamped : left ≡ (done_by x.body (durable_of l)).volumes = stamp_volumes (deed_head head x) (done_by x.body (durable_of l)) in
    let owes : List Line = map (owe_line me) (owes_of x.withdraws (expired clock s.file.backs).lists) in
    let deed : Shifts me l.volumes left (effect_by me (deed_head head x) x.body (durable_of l)) = subst (λ (t : Table Stored). Shifts me l.volumes t (effect_by me (deed_head head x) x.body (durable_of l))) (sym stamped) (deed_shifts me (deed_head head x) x.body (durable_of l) writable.taken copy) in
    let all : Shifts me l.volumes left (lines.Given place ∷ (effect_by me (deed_head head x) x.body (durable_of l) ++ owes)) =
    then_shifts me l.volumes l.volumes left (lines.Given place ∷ []) _ (still_shifts me l.volumes l.volumes (lines.Given place ∷ []) refl (λ id. refl))
    (then_shifts me l.volumes left left _ owes deed (still_shifts me left left owes (owes_still me (owes_of x.withdraws (expired clock s.file.backs).lists)) (λ id. refl))) in
    let volumes : left ≡ volumes_of (node_row me s clock place (Whole m)).state = ap (λ (k : Lasting). k.volumes) (sym shown.lasting) in
    record {
      shifts = subst (λ (ls : List Line). Shifts me l.volumes (volumes_of (node_row me s clock place (Whole m)).state) ls) (sym shown.lines)
          (subst (λ (t : Table Stored). Shifts me l.volumes t (lines.Given place ∷ (effect_by me (deed_head head x) x.body (durable_of l) ++ owes))) volumes all);
      up = λ h. subst (AscendsFrom 0) (sym stamped ∙ volumes) (deed_ascends x.body (durable_of l) h);
    }

kept_volumes : (a b : Table Stored) → b ≡ a → Keeps a b
kept_volumes a b e = record { same = λ id. ap (λ (t : Table Stored). has_in_service t id) (sym e); up = λ h. subst (AscendsFrom 0) (sym e) h }

pub row_still : (me : Node) (s : NodeState) (clock place : ℕ) (m : Message) → is_of_client (from_of (Whole m)) ≡ false → is_saved (vol_decides me (durable_of s.file.lasting) s.vol (Whole m)) ≡ false → AreStill (node_row me s clock place (Whole m)).lines
unfolding node_row
row_still me s clock place m other quiet' = rw other (turned_still_by me s.file.lasting s.vol (expired clock s.file.backs) (vol_decides me (durable_of s.file.lasting) s.vol (Whole m)) m.head m.carried quiet')

quiet_moves : (me : Node) (s : NodeState) (clock place : ℕ) (m : Message) → is_of_client (from_of (Whole m)) ≡ false → is_saved (vol_decides me (durable_of s.file.lasting) s.vol (Whole m)) ≡ false →
    Moves me (volumes_of s) (volumes_of (node_row me s clock place (Whole m)).state) (node_row me s clock place (Whole m)).lines
quiet_moves me s clock place m other quiet' =
    still_moves me (volumes_of s) _ _ (row_still me s clock place m other quiet') (kept_volumes _ _ (ap (λ (l : Lasting). l.volumes) (others_leave_files.given me s clock place (Whole m) other quiet').lasting))

vol_by : (me : Node) (s : NodeState) (clock place : ℕ) (m : Message) (d : VolDecision) → is_of_client (from_of (Whole m)) ≡ false → vol_decides me (durable_of s.file.lasting) s.vol (Whole m) ≡ d → SavesCopies s d →
    Moves me (volumes_of s) (volumes_of (node_row me s clock place (Whole m)).state) (node_row me s clock place (Whole m)).lines
vol_by me s clock place m (vols.saves head x) other is copies = saved_moves me s clock place m head x other is copies
vol_by me s clock place m d other is copies = quiet_moves me s clock place m other (ap is_saved is)

-- ---- any message

file_part : (me : Node) (s : NodeState) (clock place : ℕ) (m : Message) → is_of_client (from_of (Whole m)) ≡ true → Moves me (volumes_of s) (volumes_of (node_row me s clock place (Whole m)).state) (node_row me s clock place (Whole m)).lines
unfolding node_row
file_part me s clock place m client = rw client (file_moves me (holds_of s.vol.transactions) s.file clock place m)

row_by : (me : Node) (s : NodeState) (clock place : ℕ) (m : Message) (b : Bool) → is_of_client (from_of (Whole m)) ≡ b → SavesCopies s (vol_decides me (durable_of s.file.lasting) s.vol (Whole m)) →
    Moves me (volumes_of s) (volumes_of (node_row me s clock place (Whole m)).state) (node_row me s clock place (Whole m)).lines
row_by me s clock place m true is copies = file_part me s clock place m is
row_by me s clock place m false is copies = vol_by me s clock place m (vol_decides me (durable_of s.file.lasting) s.vol (Whole m)) is refl copies

pub row_moves : (me : Node) (s : NodeState) (clock place : ℕ) (m : Message) → SavesCopies s (vol_decides me (durable_of s.file.lasting) s.vol (Whole m)) → Moves me (volumes_of s) (volumes_of (node_row me s clock place (Whole m)).state) (node_row me s clock place (Whole m)).lines
row_moves me s clock place m copies = row_by me s clock place m (is_of_client (from_of (Whole m))) refl copies

-- ---- timeouts, and as time passes

pub late_told : (me : Node) (s : NodeState) (clock : ℕ) (n : Node) (c : PieceCall) → AreStill (piece_timeout_row me s clock n c).lines
unfolding piece_timeout_row
late_told me s clock n c = timed_still me s.file.lasting s.vol (expired clock s.file.backs) n c (s.vol.sendings n)

pub piece_moves : (me : Node) (s : NodeState) (clock : ℕ) (n : Node) (c : PieceCall) → Moves me (volumes_of s) (volumes_of (piece_timeout_row me s clock n c).state) (piece_timeout_row me s clock n c).lines
piece_moves me s clock n c = still_moves me (volumes_of s) _ _ (late_told me s clock n c) (kept_volumes _ _ (ap (λ (l : Lasting). l.volumes) (others_leave_files.late me s clock n c).lasting))

pub back_moves : (me : Node) (s : NodeState) (clock : ℕ) (n : Node) (c : BackCall) → Moves me (volumes_of s) (volumes_of (node_back_timeout_row me s clock n c).state) (node_back_timeout_row me s clock n c).lines
unfolding node_back_timeout_row back_timeout_row
back_moves me s clock n c = still_moves me (volumes_of s) _ _ (late_still me s.file.lasting.boot n c (expired clock s.file.backs)) (all_kept _)

pub woken_moves : (me : Node) (s : NodeState) (clock : ℕ) → Moves me (volumes_of s) (volumes_of (node_wake_row me s clock).state) (node_wake_row me s clock).lines
unfolding node_wake_row wake_row
woken_moves me s clock = still_moves me (volumes_of s) _ _ refl (all_kept _)

-- ---- a restart

-- What it begins with tells first what led there, whatever lines follow.
abbrev pub Leads : Node → Table Stored → Begun NodeState → Type 0
Leads me a f = (c : Table Stored) (ls : List Line) → Moves me (volumes_of f.state) c ls → Moves me a c (f.before ls)

before_leads : (me : Node) (s : NodeState) → Leads me (volumes_of s) (begun_before s)
before_leads me s c ls h = h

file_leads : (me : Node) (s : NodeState) (clock : ℕ) (d : Decision) → Chooses s.file d → Leads me (volumes_of s) (node_begun s (begun_after me s.file clock d))
file_leads me s clock drops found c ls h = h
file_leads me s clock (tells_boot head) found c ls h = h
file_leads me s clock (repeats reply) found c ls h = h
file_leads me s clock (refuses head code) found c ls h = h
file_leads me s clock (shows head r) found c ls h = h
file_leads me s clock (saves head x) found c ls h = saved_change me s.file clock head x c ls found h

deed_moves : (me : Node) (l : Lasting) (head : Head) (x : Deed) → can_take x.body (durable_of l) ≡ true → IsCopy (durable_of l) x.body → Moves me l.volumes (deed_done head x l).volumes (deed_lines me head x l)
deed_moves me l head x can copy =
    let stamped = stamp_volumes (deed_head head x) (done_by x.body (durable_of l)) in
    record {
      shifts = subst (λ (t : Table Stored). Shifts me l.volumes t (deed_lines me head x l)) (sym stamped) (deed_shifts me (deed_head head x) x.body (durable_of l) can copy);
      up = λ h. subst (AscendsFrom 0) (sym stamped) (deed_ascends x.body (durable_of l) h);
    }

vol_leads : (me : Node) (s : NodeState) (d : VolDecision) → OfSaved (IsWritable (durable_of s.file.lasting)) d → SavesCopies s d → Leads me (volumes_of s) (node_begun s (vol_begun_after me s.file d))
vol_leads me s vols.drops w copies c ls h = h
vol_leads me s (vols.tells_boot head) w copies c ls h = h
vol_leads me s (vols.repeats reply) w copies c ls h = h
vol_leads me s (replies_to head reply ts last) w copies c ls h = h
vol_leads me s (dispatches head x) w copies c ls h = h
vol_leads me s (vols.saves head x) w copies c ls h = then_moves me _ _ c _ ls (deed_moves me s.file.lasting head x w.taken copies) h

after_by : (me : Node) (s : NodeState) (clock : ℕ) (m : Message) (b : Bool) → SavesCopies s (vol_decides me (durable_of s.file.lasting) s.vol (Whole m)) →
    Leads me (volumes_of s) (node_begun s (if b then begun_after me s.file clock (node_file_decides me s clock (Whole m)) else vol_begun_after me s.file (vol_decides me (durable_of s.file.lasting) s.vol (Whole m))))
after_by me s clock m true copies = file_leads me s clock (node_file_decides me s clock (Whole m)) (decided_open me (holds_of s.vol.transactions) s.file clock (Whole m))
after_by me s clock m false copies = vol_leads me s (vol_decides me (durable_of s.file.lasting) s.vol (Whole m)) (deeds_are_writable me (durable_of s.file.lasting) s.vol (Whole m)) copies

boot_leads : (me : Node) (s : NodeState) → AscendsFrom 0 (volumes_of s) → Leads me (volumes_of s) (node_begun s (file_begun_again me s.file))
boot_leads me s up c ls h = then_moves me (volumes_of s) (filter is_unflagged (volumes_of s)) c _ ls (record { shifts = start_shifts me (volumes_of s) up; up = started_ascends (volumes_of s) }) h

-- the message of an interrupted step makes no clone of kind 0 either
abbrev pub CutCopies : Node → NodeState → Fall → Type 0
CutCopies me s (in_step m clock b) = SavesCopies s (vol_decides me (durable_of s.file.lasting) s.vol (Whole m))
CutCopies me s fall = ⊤

begun_leads : (me : Node) (s : NodeState) (after : Bool) (fall : Fall) → AscendsFrom 0 (volumes_of s) → CutCopies me s fall → Leads me (volumes_of s) (begun_from (node_kind me) s after fall)
begun_leads me s after at_rest up copies = before_leads me s
begun_leads me s false (in_step m clock b) up copies = before_leads me s
begun_leads me s true (in_step m clock b) up copies = after_by me s clock m (is_of_client (from_of (Whole m))) copies
begun_leads me s false in_boot up copies = before_leads me s
begun_leads me s true in_boot up copies = boot_leads me s up

begun_ascends : (me : Node) (s : NodeState) (after : Bool) (fall : Fall) → AscendsFrom 0 (volumes_of s) → CutCopies me s fall → AscendsFrom 0 (volumes_of (begun_from (node_kind me) s after fall).state)
begun_ascends me s after at_rest up copies = up
begun_ascends me s false (in_step m clock b) up copies = up
begun_ascends me s true (in_step m clock b) up copies = after_up (is_of_client (from_of (Whole m)))
  where
    file_up : (d : Decision) → Chooses s.file d → AscendsFrom 0 (begun_after me s.file clock d).state.lasting.volumes
    file_up drops found = up
    file_up (tells_boot head) found = up
    file_up (repeats reply) found = up
    file_up (refuses head code) found = up
    file_up (shows head r) found = up
    file_up (saves head x) found = (change_keeps clock x s.file.lasting.volumes found.found).up up

    vol_up : (d : VolDecision) → AscendsFrom 0 (vol_begun_after me s.file d).state.lasting.volumes
    vol_up vols.drops = up
    vol_up (vols.tells_boot head) = up
    vol_up (vols.repeats reply) = up
    vol_up (replies_to head reply ts last) = up
    vol_up (dispatches head x) = up
    vol_up (vols.saves head x) = subst (AscendsFrom 0) (sym (stamp_volumes (deed_head head x) (done_by x.body (durable_of s.file.lasting)))) (deed_ascends x.body (durable_of s.file.lasting) up)

    after_up : (t : Bool) → AscendsFrom 0 (if t then begun_after me s.file clock (node_file_decides me s clock (Whole m)) else vol_begun_after me s.file (vol_decides me (durable_of s.file.lasting) s.vol (Whole m))).state.lasting.volumes
    after_up true = file_up (node_file_decides me s clock (Whole m)) (decided_open me (holds_of s.vol.transactions) s.file clock (Whole m))
    after_up false = vol_up (vol_decides me (durable_of s.file.lasting) s.vol (Whole m))
begun_ascends me s false in_boot up copies = up
begun_ascends me s true in_boot up copies = started_ascends (volumes_of s) up

-- from what it began with to what it is then
start_moves : (me : Node) (clock count : ℕ) (f : Begun NodeState) → AscendsFrom 0 (volumes_of f.state) → Moves me (volumes_of f.state) (filter is_unflagged (volumes_of f.state)) (lines.Restart me (f.state.file.lasting.boot + 1) ∷ (vanished_lines me (volumes_of f.state) ++ (risen_turn me clock count).lines))
start_moves me clock count f up =
    let t : Table Stored = volumes_of f.state in
    let u : Table Stored = filter is_unflagged t in
    then_moves me t t u (lines.Restart me (f.state.file.lasting.boot + 1) ∷ []) _ (still_moves me t t _ refl (all_kept t))
    (then_moves me t u u (vanished_lines me t) _ (record { shifts = start_shifts me t up; up = started_ascends t }) (still_moves me u u _ (owes_still me (risen_turn me clock count).backs.lists.owed) (all_kept u)))

risen_moves : (me : Node) (a : Table Stored) (clock count : ℕ) (f : Begun NodeState) → AscendsFrom 0 (volumes_of f.state) → Leads me a f → Moves me a (volumes_of (node_start_row me clock count (file_begun f)).state) (node_start_row me clock count (file_begun f)).lines
unfolding node_start_row file_start
risen_moves me a clock count f up leads = leads (filter is_unflagged (volumes_of f.state)) _ (start_moves me clock count f up)

ends_move : (me : Node) (h : NodeHost) (clock count : ℕ) (f : Begun NodeState) (fall : Fall) (o : Outcome) → AscendsFrom 0 (volumes_of f.state) → Leads me (volumes_of h.state) f →
    Moves me (volumes_of h.state) (volumes_of (ends (node_kind me) h clock count f fall o).host.state) (ends (node_kind me) h clock count f fall o).lines
ends_move me h clock count f fall comes_up up leads = risen_moves me (volumes_of h.state) clock count f up leads
ends_move me h clock count f fall fails_early up leads = still_moves me _ _ _ refl (all_kept _)
ends_move me h clock count f fall fails_midway up leads = leads (volumes_of f.state) _ (still_moves me _ _ (lines.Fault me ∷ []) refl (all_kept _))
ends_move me h clock count f fall is_full up leads = leads (volumes_of f.state) _ (still_moves me _ _ (lines.Full me ∷ []) refl (all_kept _))

pub restart_moves : (me : Node) (h : NodeHost) (clock count : ℕ) (after : Bool) (o : Outcome) (fall : Fall) → AscendsFrom 0 (volumes_of h.state) → CutCopies me h.state fall →
    Moves me (volumes_of h.state) (volumes_of (restarted (node_kind me) h clock count after o fall).host.state) (restarted (node_kind me) h clock count after o fall).lines
restart_moves me h clock count after o fall up copies =
    ends_move me h clock count (begun_from (node_kind me) h.state after fall) fall _ (begun_ascends me h.state after fall up copies) (begun_leads me h.state after fall up copies)

-- ---- as a host

fall_still : (me : Node) (stops : Bool) → AreStill (fall_line me stops ∷ [])
fall_still me true = refl
fall_still me false = refl

serve_by : (me : Node) (h : NodeHost) (clock place : ℕ) (m : Message) (o : Option Blow) → SavesCopies h.state (vol_decides me (durable_of h.state.file.lasting) h.state.vol (Whole m)) →
    Moves me (volumes_of h.state) (volumes_of (served_by (node_kind me) h clock place m o).host.state) (served_by (node_kind me) h clock place m o).lines
serve_by me h clock place m None copies = row_moves me h.state clock place m copies
serve_by me h clock place m (Some b) copies = still_moves me _ _ _ (fall_still me b.stops) (all_kept _)

pub serve_moves : (me : Node) (h : NodeHost) (clock place : ℕ) (luck : Luck) (m : Message) → SavesCopies h.state (vol_decides me (durable_of h.state.file.lasting) h.state.vol (Whole m)) →
    Moves me (volumes_of h.state) (volumes_of (served (node_kind me) h clock place luck m).host.state) (served (node_kind me) h clock place luck m).lines
serve_moves me h clock place luck m copies = serve_by me h clock place m (struck h.armed luck _) copies

pub crash_moves : (me : Node) (h : NodeHost) → Moves me (volumes_of h.state) (volumes_of (crashed (node_kind me) h).host.state) (crashed (node_kind me) h).lines
crash_moves me h = still_moves me _ _ _ refl (all_kept _)

pub stop_moves : (me : Node) (h : NodeHost) (calls pick' : ℕ) → Moves me (volumes_of h.state) (volumes_of (set_to_stop (node_kind me) h calls pick').host.state) (set_to_stop (node_kind me) h calls pick').lines
stop_moves me h calls pick' = still_moves me _ _ _ refl (all_kept _)

pub fail_moves : (me : Node) (h : NodeHost) (call : ℕ) → Moves me (volumes_of h.state) (volumes_of (set_to_fail (node_kind me) h call).host.state) (set_to_fail (node_kind me) h call).lines
fail_moves me h call = still_moves me _ _ _ refl (all_kept _)

-- At each step of a node no stored stamp falls, each transaction has its family's, and the volumes held are the transactions'.
use Rattle.std.proofs.Common.{◌≡◌, ℕ, ◌≤◌, Bool, true, false, cond, List, [], ◌∷◌, Option, Some, None, is_some, ℤ, nat_eq, refl, sym, ap, subst, ◌∙◌, arith}
use Rattle.std.specs.Prelude.{not, ◌&&◌, ◌||◌}
use Rattle.afs_num.specs.Nodes.{same_node}
use Rattle.afs_num.specs.declared.types.Head.{Head}
use Rattle.afs_num.specs.declared.types.Node.{Node}
use Rattle.afs_num.specs.declared.types.Node.TheVariants.{Server}
use Rattle.afs_num.specs.declared.messages.Carried.{Carried}
use Rattle.afs_num.specs.declared.messages.Carried.TheVariants as carried
use Rattle.afs_num.specs.declared.messages.Message.{Message}
use Rattle.afs_num.specs.declared.messages.Received.{Received}
use Rattle.afs_num.specs.declared.messages.Received.TheVariants.{Nothing, Unserved, Unreadable, Whole}
use Rattle.spec_history.specs.declared.lines.Line.{Line}
use Rattle.spec_history.specs.declared.lines.Line.TheVariants as lines
use Rattle.spec_model.specs.Calls.{is_sent_again, key_of}
use Rattle.spec_volrows.specs.VolSteps.{given_up, node_file_decides}
use Rattle.spec_ideal.specs.Operations.{is_number}
use Rattle.spec_model.specs.Calls.{finished}
use Rattle.spec_ideal.specs.Tables.{Table, get, set}
use Rattle.spec_volrows.proofs.VolStamps.{stamps_stand}
use Rattle.spec_volrows.proofs.VolApart.{put_stays, wider, transactions_stay_apart}
use Rattle.spec_fold.specs.Deeds.{done_by}
use Rattle.spec_records.specs.Durable.{Durable, Stored, or_zero}
use Rattle.spec_rows.specs.Callbacks.{expired, is_ready, put_at}
use Rattle.spec_rows.specs.ServerRow.{begun_after, does, drops as rests, refuses, repeats as says_again, saves as changes, shows, stored_by, tells_boot as tells, Decision}
use Rattle.spec_rows.specs.ServerSteps.{back_timeout_row, wake_row}
use Rattle.spec_rows.specs.States.{BackCall, Backs, Held, Lasting, ServerState, durable_of}
use Rattle.spec_rows.specs.Steps.{Begun, Step}
use Rattle.spec_volrows.specs.FileRow.{file_decides, file_row, file_start}
use Rattle.spec_volrows.specs.VolLaws.{AreApart, AreStamped, Follows, IsApart, IsStamped, KeepsApart, KeepsStamps, NodesStayApart, NodesStayStamped, StandsAfter, stamp_at}
use Rattle.spec_volrows.specs.VolRow.{Dispatch, holds_of}
use Rattle.spec_volrows.specs.VolStates.{NodeState, PieceCall, Sending, Transaction, VolState}
use Rattle.spec_volrows.specs.VolSteps.{Deed, VolDecision, VolTurn, answered_by, deed_done, dispatches, drops, ends_sending, forward_reply, from_of, sending_goes_on, in_progress, is_awaited, is_of_client, piece_gone, next_by, next_piece, node_back_timeout_row, node_begun_after, node_row, node_start_row, node_wake_row, piece_timeout_row, queued, repeats, replies_to, saves, sent_whole, tells_boot, vol_answers, vol_begun_after, vol_decides, vol_renews, vol_repeats, vol_rests, vol_seated, vol_stepped, vol_timed, vol_told, vol_told_by, vol_turn, vol_turned, vol_turned_by, with_transactions}

-- ---- turns: most leave the disk and the transactions alone

pub record Same (l : Lasting) (w : VolState) (t : VolTurn) : Type 0 where
  pub lasting : t.lasting ≡ l
  pub transactions : t.vol.transactions ≡ w.transactions
  pub last : t.vol.last_transaction ≡ w.last_transaction

same_at_once : (l : Lasting) (v : VolState) (b : Backs) → Same l v (vol_rests l v b)
same_at_once l v b = record { lasting = refl; transactions = refl; last = refl }

answers_same : (l : Lasting) (v : VolState) (b : Backs) (ls : List Line) (reply : Message) (waits : List ℕ) (again : Bool) → Same l v (vol_answers l v b ls reply waits again)
answers_same l v b ls reply [] again = record { lasting = refl; transactions = refl; last = refl }
answers_same l v b ls reply (k ∷ ks) again = record { lasting = refl; transactions = refl; last = refl }

next_same_by : (me : Node) (boot : ℕ) (n : Node) (t : VolTurn) (xs : List Sending) (c : Option PieceCall) → Same t.lasting t.vol (next_by me boot n t xs c)
next_same_by me boot n t [] c = record { lasting = refl; transactions = refl; last = refl }
next_same_by me boot n t (x ∷ xs) (Some c) = record { lasting = refl; transactions = refl; last = refl }
next_same_by me boot n t (x ∷ xs) None = record { lasting = refl; transactions = refl; last = refl }

next_same : (me : Node) (boot : ℕ) (n : Node) (t : VolTurn) → Same t.lasting t.vol (next_piece me boot n t)
next_same me boot n t = next_same_by me boot n t (t.vol.sendings n) (t.vol.calls n)

one_of : (l : Lasting) (w : VolState) (b : Bool) (x y : VolTurn) → Same l w x → Same l w y → Same l w (cond b x y)
one_of l w true x y h k = h
one_of l w false x y h k = k

repeats_same : (l : Lasting) (v : VolState) (b : Backs) (reply : Message) (o : Option Held) (good : Bool) → Same l v (vol_repeats l v b reply o good)
repeats_same l v b reply (Some h) good = one_of l v (h.again && is_ready b.lists.owed h) _ _ (answers_same l v b [] reply [] true) (same_at_once l v b)
repeats_same l v b reply None true = answers_same l v b [] reply _ true
repeats_same l v b reply None false = answers_same l v b [] reply [] true

ends_same : (me : Node) (l : Lasting) (v : VolState) (b : Backs) (ls : List Line) (n : Node) (xs : List Sending) (x : Sending) (code : ℤ) → Same l v (ends_sending me l v b ls n xs x code)
ends_same me l v b ls n xs x code = let z = next_same me l.boot n (record {
  lasting = l;
  vol = record v { sendings = put_at n xs v.sendings; calls = put_at n None v.calls; seats = finished (key_of x.head) (forward_reply l.boot x.head code) v.seats };
  backs = b;
  lines = ls;
  sent = forward_reply l.boot x.head code ∷ [];
}) in record { lasting = z.lasting; transactions = z.transactions; last = z.last }

goes_same : (me : Node) (l : Lasting) (v : VolState) (b : Backs) (n : Node) (xs : List Sending) (x : Sending) → Same l v (sending_goes_on me l v b n xs x)
goes_same me l v b n xs x = let z = next_same me l.boot n (vol_rests l (record v { sendings = put_at n (piece_gone x ∷ xs) v.sendings; calls = put_at n None v.calls }) b) in record { lasting = z.lasting; transactions = z.transactions; last = z.last }

answered_same : (me : Node) (l : Lasting) (v : VolState) (b : Backs) (n : Node) (xs : List Sending) (code : ℤ) → Same l v (answered_by me l v b n xs code)
answered_same me l v b n [] code = same_at_once l v b
answered_same me l v b n (x ∷ xs) code = one_of l v (not (is_number code 0) || sent_whole x) _ _ (ends_same me l v b [] n xs x code) (goes_same me l v b n xs x)

renews_same : (me : Node) (l : Lasting) (v : VolState) (b : Backs) (n : Node) (known : ℕ) (c : PieceCall) (xs : List Sending) → Same l v (vol_renews me l v b n known c xs)
renews_same me l v b n known c [] = same_at_once l v b
renews_same me l v b n known c (x ∷ xs) = record { lasting = refl; transactions = refl; last = refl }

told_same_by : (me : Node) (l : Lasting) (v : VolState) (b : Backs) (head : Head) (c : Carried) (o : Option PieceCall) → Same l v (vol_told_by me l v b head c o)
told_same_by me l v b head c None = same_at_once l v b
told_same_by me l v b head carried.Notice (Some p) = one_of l v (is_awaited l.boot p head) _ _ (renews_same me l v b head.from head.boot p (v.sendings head.from)) (same_at_once l v b)
told_same_by me l v b head (carried.Call user call) (Some p) = one_of l v (is_awaited l.boot p head) _ _ (answered_same me l v b head.from (v.sendings head.from) _) (same_at_once l v b)
told_same_by me l v b head (carried.Refusal code) (Some p) = one_of l v (is_awaited l.boot p head) _ _ (answered_same me l v b head.from (v.sendings head.from) _) (same_at_once l v b)
told_same_by me l v b head (carried.Reply reply) (Some p) = one_of l v (is_awaited l.boot p head) _ _ (answered_same me l v b head.from (v.sendings head.from) _) (same_at_once l v b)

told_same : (me : Node) (l : Lasting) (v : VolState) (b : Backs) (head : Head) (c : Carried) → Same l v (vol_told me l v b head c)
told_same me l v b head c = one_of l v (same_node head.to me) _ _ (told_same_by me l v b head c (v.calls head.from)) (same_at_once l v b)

dispatched_same : (me : Node) (l : Lasting) (v : VolState) (b : Backs) (head : Head) (x : Dispatch) → Same l v (vol_turn me l v b (dispatches head x))
dispatched_same me l v b head x = let z = next_same me l.boot (Server x.server) (vol_rests l (queued head x (in_progress head v)) b) in record { lasting = z.lasting; transactions = z.transactions; last = z.last }

timed_same : (me : Node) (l : Lasting) (v : VolState) (b : Backs) (n : Node) (c : PieceCall) (xs : List Sending) → Same l v (vol_timed me l v b n c xs)
timed_same me l v b n c [] = same_at_once l v b
timed_same me l v b n c (x ∷ xs) = one_of l v (is_sent_again c.tries) _ _ (record { lasting = refl; transactions = refl; last = refl }) (ends_same me l v b _ n xs x given_up)

-- ---- turns by the stamps

abbrev at : Lasting → ℕ → ℕ
at l f = or_zero (get f l.stamps)

record Risen (l : Lasting) (t : VolTurn) : Type 0 where
  pub stamps : AreStamped (at t.lasting) t.vol.transactions
  pub rises : (f : ℕ) → at l f ≤ at t.lasting f

alike : (f : ℕ) (a b : ℕ) → a ≡ b → a ≤ b
alike f a b e = grind (arith, e)

same_risen : (l : Lasting) (w : VolState) (t : VolTurn) → Same l w t → AreStamped (at l) w.transactions → Risen l t
same_risen l w t same all = record {
  stamps = subst (λ (k : Lasting). AreStamped (λ f. or_zero (get f k.stamps)) t.vol.transactions) (sym same.lasting) (subst (AreStamped (λ f. or_zero (get f l.stamps))) (sym same.transactions) all);
  rises = λ f. alike f (or_zero (get f l.stamps)) (or_zero (get f t.lasting.stamps)) (ap (λ (k : Lasting). or_zero (get f k.stamps)) (sym same.lasting));
}

deed_risen : (l : Lasting) (head : Head) (x : Deed) (w : VolState) (t : VolTurn) → w.transactions ≡ x.transactions → Same (deed_done head x l) w t → StandsAfter (durable_of l) head x → Risen l t
deed_risen l head x w t is same h = record {
  stamps = subst (λ (k : Lasting). AreStamped (λ f. or_zero (get f k.stamps)) t.vol.transactions) (sym same.lasting) (subst (AreStamped (λ f. or_zero (get f (deed_done head x l).stamps))) (sym (same.transactions ∙ is)) h.transactions);
  rises = λ f. subst (λ (k : Lasting). or_zero (get f l.stamps) ≤ or_zero (get f k.stamps)) (sym same.lasting) (h.stamps f);
}

turn_risen : (me : Node) (l : Lasting) (v : VolState) (b : Backs) (d : VolDecision) → AreStamped (at l) v.transactions → KeepsStamps (durable_of l) d → Risen l (vol_turn me l v b d)
turn_risen me l v b drops all h = same_risen l v _ (same_at_once l v b) all
turn_risen me l v b (tells_boot head) all h = same_risen l v (vol_turn me l v b (tells_boot head)) (record { lasting = refl; transactions = refl; last = refl }) all
turn_risen me l v b (repeats reply) all h = same_risen l v (vol_turn me l v b (repeats reply)) (repeats_same l v b reply _ _) all
turn_risen me l v b (replies_to head reply ts last) all h = same_risen l (vol_seated head reply (with_transactions ts last v)) (vol_turn me l v b (replies_to head reply ts last)) (answers_same l _ b [] reply [] false) h
turn_risen me l v b (dispatches head x) all h = same_risen l v (vol_turn me l v b (dispatches head x)) (dispatched_same me l v b head x) all
turn_risen me l v b (saves head x) all h = deed_risen l head x (vol_seated head x.reply (with_transactions x.transactions x.last v)) (vol_turn me l v b (saves head x)) refl (answers_same (deed_done head x l) _ _ _ x.reply _ false) h

turned_risen_by : (me : Node) (l : Lasting) (v : VolState) (b : Backs) (d : VolDecision) (head : Head) (c : Carried) → AreStamped (at l) v.transactions → KeepsStamps (durable_of l) d → Risen l (vol_turned_by me l v b d head c)
turned_risen_by me l v b d head (carried.Call user call) all h = turn_risen me l v b d all h
turned_risen_by me l v b d head (carried.Refusal code) all h = same_risen l v _ (told_same me l v b head (carried.Refusal code)) all
turned_risen_by me l v b d head (carried.Reply reply) all h = same_risen l v _ (told_same me l v b head (carried.Reply reply)) all
turned_risen_by me l v b d head carried.Notice all h = same_risen l v _ (told_same me l v b head carried.Notice) all

turned_risen : (me : Node) (l : Lasting) (v : VolState) (b : Backs) (d : VolDecision) (m : Received) → AreStamped (at l) v.transactions → KeepsStamps (durable_of l) d → Risen l (vol_turned me l v b d m)
turned_risen me l v b d Nothing all h = same_risen l v _ (same_at_once l v b) all
turned_risen me l v b d (Unserved head) all h = turn_risen me l v b d all h
turned_risen me l v b d (Unreadable head) all h = turn_risen me l v b d all h
turned_risen me l v b d (Whole m) all h = turned_risen_by me l v b d m.head m.carried all h

-- ---- turns by what is apart

Held_apart : Lasting → VolState → Type 0
Held_apart l w = AreApart l.volumes w.last_transaction w.transactions

same_apart : (l : Lasting) (w : VolState) (t : VolTurn) → Same l w t → Held_apart l w → Held_apart t.lasting t.vol
unfolding Held_apart
same_apart l w t same h =
    let one : AreApart t.lasting.volumes w.last_transaction w.transactions = subst (λ (k : Lasting). AreApart k.volumes w.last_transaction w.transactions) (sym same.lasting) h in
    let two : AreApart t.lasting.volumes t.vol.last_transaction w.transactions = subst (λ (n : ℕ). AreApart t.lasting.volumes n w.transactions) (sym same.last) one in
    subst (λ (ts : Table Transaction). AreApart t.lasting.volumes t.vol.last_transaction ts) (sym same.transactions) two

with_stamp_volumes : (b : Bool) (family stamp : ℕ) (e : Durable) → (cond b e (record e { stamps = set family stamp e.stamps })).volumes ≡ e.volumes
with_stamp_volumes true family stamp e = refl
with_stamp_volumes false family stamp e = refl

turn_apart : (me : Node) (l : Lasting) (v : VolState) (b : Backs) (d : VolDecision) → Held_apart l v → KeepsApart (durable_of l) d → Held_apart (vol_turn me l v b d).lasting (vol_turn me l v b d).vol
unfolding Held_apart
turn_apart me l v b drops all h = all
turn_apart me l v b (tells_boot head) all h = all
turn_apart me l v b (repeats reply) all h = same_apart l v (vol_turn me l v b (repeats reply)) (repeats_same l v b reply _ _) all
turn_apart me l v b (replies_to head reply ts last) all h = same_apart l (vol_seated head reply (with_transactions ts last v)) (vol_turn me l v b (replies_to head reply ts last)) (answers_same l _ b [] reply [] false) h
turn_apart me l v b (dispatches head x) all h = same_apart l v (vol_turn me l v b (dispatches head x)) (dispatched_same me l v b head x) all
turn_apart me l v b (saves head x) all h =
    same_apart (deed_done head x l) (vol_seated head x.reply (with_transactions x.transactions x.last v)) (vol_turn me l v b (saves head x)) (answers_same (deed_done head x l) _ _ _ x.reply _ false)
    (subst (λ (t : Table Stored). AreApart t x.last x.transactions) (sym (with_stamp_volumes (nat_eq x.stamp 0) x.family x.stamp (done_by x.body (durable_of l)))) h)

turned_apart_by : (me : Node) (l : Lasting) (v : VolState) (b : Backs) (d : VolDecision) (head : Head) (c : Carried) → Held_apart l v → KeepsApart (durable_of l) d → Held_apart (vol_turned_by me l v b d head c).lasting (vol_turned_by me l v b d head c).vol
unfolding Held_apart
turned_apart_by me l v b d head (carried.Call user call) all h = turn_apart me l v b d all h
turned_apart_by me l v b d head (carried.Refusal code) all h = same_apart l v (vol_told me l v b head (carried.Refusal code)) (told_same me l v b head (carried.Refusal code)) all
turned_apart_by me l v b d head (carried.Reply reply) all h = same_apart l v (vol_told me l v b head (carried.Reply reply)) (told_same me l v b head (carried.Reply reply)) all
turned_apart_by me l v b d head carried.Notice all h = same_apart l v (vol_told me l v b head carried.Notice) (told_same me l v b head carried.Notice) all

turned_apart : (me : Node) (l : Lasting) (v : VolState) (b : Backs) (d : VolDecision) (m : Received) → Held_apart l v → KeepsApart (durable_of l) d → Held_apart (vol_turned me l v b d m).lasting (vol_turned me l v b d m).vol
unfolding Held_apart
turned_apart me l v b d Nothing all h = all
turned_apart me l v b d (Unserved head) all h = turn_apart me l v b d all h
turned_apart me l v b d (Unreadable head) all h = turn_apart me l v b d all h
turned_apart me l v b d (Whole m) all h = turned_apart_by me l v b d m.head m.carried all h

-- ---- steps

vol_follows : (me : Node) (s : ServerState) (ls : List Line) (t : VolTurn) → Risen s.lasting t → Follows s (vol_stepped me s ls t).state
vol_follows me s ls t h = record { stamped = h.stamps; rises = h.rises }

-- the file server writes no stamps
pub record Leaves (s e : ServerState) : Type 0 where
  pub volumes : (k : ℕ) → is_some (get k s.lasting.volumes) ≡ true → is_some (get k e.lasting.volumes) ≡ true
  pub stamps : e.lasting.stamps ≡ s.lasting.stamps

does_leaves : (me : Node) (s : ServerState) (clock place : ℕ) (d : Decision) (tail : List Line) → Leaves s (does me s clock place d tail).state
does_leaves me s clock place rests tail = record { volumes = λ k h. h; stamps = refl }
does_leaves me s clock place (tells head) tail = record { volumes = λ k h. h; stamps = refl }
does_leaves me s clock place (says_again reply) tail = record { volumes = λ k h. h; stamps = refl }
does_leaves me s clock place (refuses head code) tail = record { volumes = λ k h. h; stamps = refl }
does_leaves me s clock place (shows head r) tail = record { volumes = λ k h. h; stamps = refl }
does_leaves me s clock place (changes head c) tail = record { volumes = λ k h. put_stays k c.id (stored_by clock c) s.lasting.volumes h; stamps = refl }

left_follows : (s : NodeState) (e : NodeState) → Leaves s.file e.file → e.vol.transactions ≡ s.vol.transactions → IsStamped s → Follows s.file e
left_follows s e left same h = record {
  stamped = subst (λ (t : Table ℕ). AreStamped (λ f. or_zero (get f t)) e.vol.transactions) (sym left.stamps) (subst (AreStamped (stamp_at s.file)) (sym same) h);
  rises = λ f. alike f (stamp_at s.file f) (stamp_at e.file f) (ap (λ (t : Table ℕ). or_zero (get f t)) (sym left.stamps));
}

file_leaves : (me : Node) (holds : Table ℕ) (s : ServerState) (clock place : ℕ) (m : Received) → Leaves s (file_row me holds s clock place m).state
unfolding file_row
file_leaves me holds s clock place m = let z = does_leaves me s clock place (file_decides me holds s clock m) [] in record { volumes = z.volumes; stamps = z.stamps }

late_leaves : (me : Node) (s : ServerState) (clock : ℕ) (n : Node) (c : BackCall) → Leaves s (back_timeout_row me s clock n c).state
unfolding back_timeout_row
late_leaves me s clock n c = record { volumes = λ k h. h; stamps = refl }

wake_leaves : (me : Node) (s : ServerState) (clock : ℕ) → Leaves s (wake_row me s clock).state
unfolding wake_row
wake_leaves me s clock = record { volumes = λ k h. h; stamps = refl }

either : (s : ServerState) (b : Bool) (x y : Step NodeState) → Follows s x.state → Follows s y.state → Follows s (cond b x y).state
either s true x y h k = h
either s false x y h k = k

given_follows : (me : Node) (s : NodeState) (clock place : ℕ) (m : Received) → IsStamped s → Follows s.file (node_row me s clock place m).state
unfolding node_row
given_follows me s clock place m h =
    either s.file (is_of_client (from_of m)) _ _
    (left_follows s _ (file_leaves me (holds_of s.vol.transactions) s.file clock place m) refl h)
    (vol_follows me s.file (lines.Given place ∷ []) _ (turned_risen me s.file.lasting s.vol (expired clock s.file.backs) (vol_decides me (durable_of s.file.lasting) s.vol m) m h (stamps_stand me (durable_of s.file.lasting) s.vol m h)))

piece_follows : (me : Node) (s : NodeState) (clock : ℕ) (n : Node) (c : PieceCall) → IsStamped s → Follows s.file (piece_timeout_row me s clock n c).state
unfolding piece_timeout_row
piece_follows me s clock n c h =
    vol_follows me s.file [] _ (same_risen s.file.lasting s.vol _ (timed_same me s.file.lasting s.vol (expired clock s.file.backs) n c (s.vol.sendings n)) h)

back_follows : (me : Node) (s : NodeState) (clock : ℕ) (n : Node) (c : BackCall) → IsStamped s → Follows s.file (node_back_timeout_row me s clock n c).state
unfolding node_back_timeout_row
back_follows me s clock n c h = left_follows s _ (late_leaves me s.file clock n c) refl h

wake_follows : (me : Node) (s : NodeState) (clock : ℕ) → IsStamped s → Follows s.file (node_wake_row me s clock).state
unfolding node_wake_row
wake_follows me s clock h = left_follows s _ (wake_leaves me s.file clock) refl h

file_cut : (me : Node) (s : ServerState) (clock : ℕ) (d : Decision) → (begun_after me s clock d).state.lasting.stamps ≡ s.lasting.stamps
file_cut me s clock (changes head c) = refl
file_cut me s clock rests = refl
file_cut me s clock (tells head) = refl
file_cut me s clock (says_again reply) = refl
file_cut me s clock (refuses head code) = refl
file_cut me s clock (shows head r) = refl

vol_cut : (me : Node) (s : ServerState) (d : VolDecision) (f : ℕ) → KeepsStamps (durable_of s.lasting) d → stamp_at s f ≤ stamp_at (vol_begun_after me s d).state f
vol_cut me s (saves head x) f h = h.stamps f
vol_cut me s drops f h = alike f (stamp_at s f) (stamp_at s f) refl
vol_cut me s (tells_boot head) f h = alike f (stamp_at s f) (stamp_at s f) refl
vol_cut me s (repeats reply) f h = alike f (stamp_at s f) (stamp_at s f) refl
vol_cut me s (replies_to head reply ts last) f h = alike f (stamp_at s f) (stamp_at s f) refl
vol_cut me s (dispatches head x) f h = alike f (stamp_at s f) (stamp_at s f) refl

cut_by : (n f : ℕ) (b : Bool) (x y : Begun ServerState) → n ≤ stamp_at x.state f → n ≤ stamp_at y.state f → n ≤ stamp_at (cond b x y).state f
cut_by n f true x y h k = h
cut_by n f false x y h k = k

cut_rises : (me : Node) (s : NodeState) (clock : ℕ) (m : Received) → IsStamped s → (f : ℕ) → stamp_at s.file f ≤ stamp_at (node_begun_after me s clock m).state f
cut_rises me s clock m h f =
    cut_by (stamp_at s.file f) f (is_of_client (from_of m)) _ _
    (alike f (stamp_at s.file f) _ (ap (λ (t : Table ℕ). or_zero (get f t)) (sym (file_cut me s.file clock (node_file_decides me s clock m)))))
    (vol_cut me s.file (vol_decides me (durable_of s.file.lasting) s.vol m) f (stamps_stand me (durable_of s.file.lasting) s.vol m h))

start_follows : (me : Node) (clock count : ℕ) (begun : Begun ServerState) → Follows begun.state (node_start_row me clock count begun).state
unfolding node_start_row file_start
start_follows me clock count begun = record { stamped = tt; rises = λ f. alike f (stamp_at begun.state f) (stamp_at begun.state f) refl }

pub nodes_stay_stamped : NodesStayStamped
nodes_stay_stamped = record { given = given_follows; late = piece_follows; back = back_follows; woken = wake_follows; cut = cut_rises; started = start_follows }

-- ---- and what is apart stays so

left_apart : (s : NodeState) (e : ServerState) → Leaves s.file e → IsApart s → AreApart e.lasting.volumes s.vol.last_transaction s.vol.transactions
left_apart s e left h = wider s.file.lasting.volumes e.lasting.volumes s.vol.last_transaction s.vol.transactions left.volumes h

either_apart : (b : Bool) (x y : Step NodeState) → IsApart x.state → IsApart y.state → IsApart (cond b x y).state
either_apart true x y h k = h
either_apart false x y h k = k

given_apart : (me : Node) (s : NodeState) (clock place : ℕ) (m : Received) → IsApart s → IsApart (node_row me s clock place m).state
unfolding node_row Held_apart
given_apart me s clock place m h =
    either_apart (is_of_client (from_of m)) _ _ (left_apart s _ (file_leaves me (holds_of s.vol.transactions) s.file clock place m) h)
    (turned_apart me s.file.lasting s.vol (expired clock s.file.backs) (vol_decides me (durable_of s.file.lasting) s.vol m) m h (transactions_stay_apart me (durable_of s.file.lasting) s.vol m h))

piece_apart : (me : Node) (s : NodeState) (clock : ℕ) (n : Node) (c : PieceCall) → IsApart s → IsApart (piece_timeout_row me s clock n c).state
unfolding piece_timeout_row Held_apart
piece_apart me s clock n c h = same_apart s.file.lasting s.vol _ (timed_same me s.file.lasting s.vol (expired clock s.file.backs) n c (s.vol.sendings n)) h

back_apart : (me : Node) (s : NodeState) (clock : ℕ) (n : Node) (c : BackCall) → IsApart s → IsApart (node_back_timeout_row me s clock n c).state
unfolding node_back_timeout_row
back_apart me s clock n c h = left_apart s _ (late_leaves me s.file clock n c) h

wake_apart : (me : Node) (s : NodeState) (clock : ℕ) → IsApart s → IsApart (node_wake_row me s clock).state
unfolding node_wake_row
wake_apart me s clock h = left_apart s _ (wake_leaves me s.file clock) h

start_apart : (me : Node) (clock count : ℕ) (begun : Begun ServerState) → IsApart (node_start_row me clock count begun).state
unfolding node_start_row file_start
start_apart me clock count begun = record { ascend = tt; there = λ n t e. absurd cc; numbered = λ n t e. absurd cc; alone = λ n m t u e f same. absurd cc }

pub nodes_stay_apart : NodesStayApart
nodes_stay_apart = record { given = given_apart; late = piece_apart; back = back_apart; woken = wake_apart; started = start_apart }

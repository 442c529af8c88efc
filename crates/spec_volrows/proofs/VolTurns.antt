-- What a saved call does is its deed, and all else leaves what files see.
use Rattle.std.proofs.Common.{◌≡◌, ℕ, ℤ, Bool, true, false, cond, List, [], ◌∷◌, ◌++◌, Option, Some, None, refl, sym, ap, subst, ◌∙◌}
use Rattle.std.specs.Prelude.{not, ◌&&◌, ◌||◌, map}
use Rattle.afs_num.specs.Nodes.{same_node}
use Rattle.afs_num.specs.declared.messages.Carried.{Carried}
use Rattle.afs_num.specs.declared.messages.Carried.TheVariants as carried
use Rattle.afs_num.specs.declared.messages.Message.{Message}
use Rattle.afs_num.specs.declared.messages.Received.{Received}
use Rattle.afs_num.specs.declared.messages.Received.TheVariants.{Nothing, Unserved, Unreadable, Whole}
use Rattle.afs_num.specs.declared.types.Head.{Head}
use Rattle.afs_num.specs.declared.types.Node.{Node}
use Rattle.afs_num.specs.declared.types.Node.TheVariants.{Server}
use Rattle.spec_breaks.specs.declared.types.OwedBreak.{OwedBreak}
use Rattle.spec_history.specs.declared.lines.Line.{Line}
use Rattle.spec_history.specs.declared.lines.Line.TheVariants as lines
use Rattle.spec_ideal.specs.Operations.{is_number}
use Rattle.spec_records.specs.Durable.{Durable}
use Rattle.spec_model.specs.Calls.{finished, is_sent_again, key_of}
use Rattle.spec_rows.specs.Callbacks.{expired, is_ready, owe_line, pumped, put_at, starts, starts_by, Started, CallbackStep}
use Rattle.spec_rows.specs.States.{durable_of, BackCall, Backs, Held, Lasting, ServerState}
use Rattle.spec_volrows.specs.VolLaws.{is_saved, waits_of, DeedsAreShown, LeavesFiles, OthersLeaveFiles, ShowsDeed}
use Rattle.spec_volrows.specs.VolRow.{Dispatch}
use Rattle.spec_volrows.specs.VolStates.{NodeState, PieceCall, Sending, VolState}
use Rattle.spec_volrows.specs.VolSteps.{answered_by, code_told, deed_done, deed_lines, dispatches, drops, ends_sending, forward_reply, from_of, given_up, sending_goes_on, in_progress, is_awaited, is_of_client, piece_gone, next_by, next_piece, node_row, owes_of, piece_timeout_row, queued, repeats, replies_to, saves, sent_whole, tells_boot, vol_answers, vol_decides, vol_hears, vol_renews, vol_repeats, vol_rests, vol_seated, vol_stepped, vol_timed, vol_told, vol_told_by, vol_turn, vol_turned, vol_turned_by, with_transactions, withdraws_from, Deed, VolDecision, VolTurn}

-- ---- calls to clients leave promises and owed breaks

starts_lists_by : (me : Node) (boot : ℕ) (t : Started) (o : OwedBreak) (c : Option BackCall) → (starts_by me boot t o c).backs.lists ≡ t.backs.lists
starts_lists_by me boot t o None = refl
starts_lists_by me boot t o (Some c) = refl

pub starts_lists : (me : Node) (boot : ℕ) (os : List OwedBreak) (t : Started) → (starts me boot os t).backs.lists ≡ t.backs.lists
starts_lists me boot [] t = refl
starts_lists me boot (o ∷ os) t = starts_lists me boot os (starts_by me boot t o (t.backs.calls o.client)) ∙ starts_lists_by me boot t o (t.backs.calls o.client)

pub pumped_lists : (me : Node) (boot : ℕ) (t : CallbackStep) → (pumped me boot t).backs.lists ≡ t.backs.lists
pumped_lists me boot t = starts_lists me boot t.backs.lists.owed _

-- ---- a turn

-- it leaves the disk and the promises, and tells these lines
pub record Rests (l : Lasting) (b : Backs) (t : VolTurn) : Type 0 where
  pub lasting : t.lasting ≡ l
  pub lists : t.backs.lists ≡ b.lists

at_once : (l : Lasting) (b : Backs) (v : VolState) → Rests l b (vol_rests l v b)
at_once l b v = record { lasting = refl; lists = refl }

pub answers_rest : (l : Lasting) (v : VolState) (b : Backs) (ls : List Line) (reply : Message) (waits : List ℕ) (again : Bool) → Rests l b (vol_answers l v b ls reply waits again)
answers_rest l v b ls reply [] again = record { lasting = refl; lists = refl }
answers_rest l v b ls reply (k ∷ ks) again = record { lasting = refl; lists = refl }

pub answers_tell : (l : Lasting) (v : VolState) (b : Backs) (ls : List Line) (reply : Message) (waits : List ℕ) (again : Bool) → (vol_answers l v b ls reply waits again).lines ≡ ls
answers_tell l v b ls reply [] again = refl
answers_tell l v b ls reply (k ∷ ks) again = refl

next_rests_by : (me : Node) (boot : ℕ) (n : Node) (t : VolTurn) (xs : List Sending) (c : Option PieceCall) → Rests t.lasting t.backs (next_by me boot n t xs c)
next_rests_by me boot n t [] c = record { lasting = refl; lists = refl }
next_rests_by me boot n t (x ∷ xs) (Some c) = record { lasting = refl; lists = refl }
next_rests_by me boot n t (x ∷ xs) None = record { lasting = refl; lists = refl }

next_rests : (me : Node) (boot : ℕ) (n : Node) (t : VolTurn) → Rests t.lasting t.backs (next_piece me boot n t)
next_rests me boot n t = next_rests_by me boot n t (t.vol.sendings n) (t.vol.calls n)

either_rests : (l : Lasting) (b : Backs) (t : Bool) (x y : VolTurn) → Rests l b x → Rests l b y → Rests l b (cond t x y)
either_rests l b true x y h k = h
either_rests l b false x y h k = k

repeats_rest : (l : Lasting) (v : VolState) (b : Backs) (reply : Message) (o : Option Held) (good : Bool) → Rests l b (vol_repeats l v b reply o good)
repeats_rest l v b reply (Some h) good = either_rests l b (h.again && is_ready b.lists.owed h) _ _ (answers_rest l v b [] reply [] true) (at_once l b v)
repeats_rest l v b reply None true = answers_rest l v b [] reply _ true
repeats_rest l v b reply None false = answers_rest l v b [] reply [] true

ends_rest : (me : Node) (l : Lasting) (v : VolState) (b : Backs) (ls : List Line) (n : Node) (xs : List Sending) (x : Sending) (code : ℤ) → Rests l b (ends_sending me l v b ls n xs x code)
ends_rest me l v b ls n xs x code = let z = next_rests me l.boot n (record {
  lasting = l;
  vol = record v { sendings = put_at n xs v.sendings; calls = put_at n None v.calls; seats = finished (key_of x.head) (forward_reply l.boot x.head code) v.seats };
  backs = b;
  lines = ls;
  sent = forward_reply l.boot x.head code ∷ [];
}) in record { lasting = z.lasting; lists = z.lists }

goes_rest : (me : Node) (l : Lasting) (v : VolState) (b : Backs) (n : Node) (xs : List Sending) (x : Sending) → Rests l b (sending_goes_on me l v b n xs x)
goes_rest me l v b n xs x =
    let z = next_rests me l.boot n (vol_rests l (record v { sendings = put_at n (piece_gone x ∷ xs) v.sendings; calls = put_at n None v.calls }) b) in record { lasting = z.lasting; lists = z.lists }

answered_rests : (me : Node) (l : Lasting) (v : VolState) (b : Backs) (n : Node) (xs : List Sending) (code : ℤ) → Rests l b (answered_by me l v b n xs code)
answered_rests me l v b n [] code = at_once l b v
answered_rests me l v b n (x ∷ xs) code = either_rests l b (not (is_number code 0) || sent_whole x) _ _ (ends_rest me l v b [] n xs x code) (goes_rest me l v b n xs x)

renews_rest : (me : Node) (l : Lasting) (v : VolState) (b : Backs) (n : Node) (known : ℕ) (c : PieceCall) (xs : List Sending) → Rests l b (vol_renews me l v b n known c xs)
renews_rest me l v b n known c [] = at_once l b v
renews_rest me l v b n known c (x ∷ xs) = record { lasting = refl; lists = refl }

told_rests_by : (me : Node) (l : Lasting) (v : VolState) (b : Backs) (head : Head) (c : Carried) (o : Option PieceCall) → Rests l b (vol_told_by me l v b head c o)
told_rests_by me l v b head c None = at_once l b v
told_rests_by me l v b head carried.Notice (Some p) = either_rests l b (is_awaited l.boot p head) _ _ (renews_rest me l v b head.from head.boot p (v.sendings head.from)) (at_once l b v)
told_rests_by me l v b head (carried.Call user call) (Some p) = either_rests l b (is_awaited l.boot p head) _ _ (answered_rests me l v b head.from (v.sendings head.from) (code_told (carried.Call user call))) (at_once l b v)
told_rests_by me l v b head (carried.Refusal code) (Some p) = either_rests l b (is_awaited l.boot p head) _ _ (answered_rests me l v b head.from (v.sendings head.from) (code_told (carried.Refusal code))) (at_once l b v)
told_rests_by me l v b head (carried.Reply reply) (Some p) = either_rests l b (is_awaited l.boot p head) _ _ (answered_rests me l v b head.from (v.sendings head.from) (code_told (carried.Reply reply))) (at_once l b v)

told_rests : (me : Node) (l : Lasting) (v : VolState) (b : Backs) (head : Head) (c : Carried) → Rests l b (vol_told me l v b head c)
told_rests me l v b head c = either_rests l b (same_node head.to me) _ _ (told_rests_by me l v b head c (v.calls head.from)) (at_once l b v)

dispatched_rests : (me : Node) (l : Lasting) (v : VolState) (b : Backs) (head : Head) (x : Dispatch) → Rests l b (vol_turn me l v b (dispatches head x))
dispatched_rests me l v b head x = let z = next_rests me l.boot (Server x.server) (vol_rests l (queued head x (in_progress head v)) b) in record { lasting = z.lasting; lists = z.lists }

timed_rests : (me : Node) (l : Lasting) (v : VolState) (b : Backs) (n : Node) (c : PieceCall) (xs : List Sending) → Rests l b (vol_timed me l v b n c xs)
timed_rests me l v b n c [] = at_once l b v
timed_rests me l v b n c (x ∷ xs) = either_rests l b (is_sent_again c.tries) _ _ (record { lasting = refl; lists = refl }) (ends_rest me l v b _ n xs x given_up)

turn_rests : (me : Node) (l : Lasting) (v : VolState) (b : Backs) (d : VolDecision) → is_saved d ≡ false → Rests l b (vol_turn me l v b d)
turn_rests me l v b drops e = at_once l b v
turn_rests me l v b (tells_boot head) e = record { lasting = refl; lists = refl }
turn_rests me l v b (repeats reply) e = repeats_rest l v b reply _ _
turn_rests me l v b (replies_to head reply ts last) e = answers_rest l (vol_seated head reply (with_transactions ts last v)) b [] reply [] false
turn_rests me l v b (dispatches head x) e = dispatched_rests me l v b head x
turn_rests me l v b (saves head x) e = absurd cc

turned_rests_by : (me : Node) (l : Lasting) (v : VolState) (b : Backs) (d : VolDecision) (head : Head) (c : Carried) → is_saved d ≡ false → Rests l b (vol_turned_by me l v b d head c)
turned_rests_by me l v b d head (carried.Call user call) e = turn_rests me l v b d e
turned_rests_by me l v b d head (carried.Refusal code) e = told_rests me l v b head (carried.Refusal code)
turned_rests_by me l v b d head (carried.Reply reply) e = told_rests me l v b head (carried.Reply reply)
turned_rests_by me l v b d head carried.Notice e = told_rests me l v b head carried.Notice

turned_rests : (me : Node) (l : Lasting) (v : VolState) (b : Backs) (d : VolDecision) (m : Received) → is_saved d ≡ false → Rests l b (vol_turned me l v b d m)
turned_rests me l v b d Nothing e = at_once l b v
turned_rests me l v b d (Unserved head) e = turn_rests me l v b d e
turned_rests me l v b d (Unreadable head) e = turn_rests me l v b d e
turned_rests me l v b d (Whole m) e = turned_rests_by me l v b d m.head m.carried e

-- ---- a step

leaves : (me : Node) (s : ServerState) (clock : ℕ) (ls : List Line) (t : VolTurn) → Rests s.lasting (expired clock s.backs) t → LeavesFiles clock s (vol_stepped me s ls t)
leaves me s clock ls t h = record {
  lasting = h.lasting;
  seats = refl;
  lists = pumped_lists me t.lasting.boot (record { backs = t.backs; lines = []; sent = t.sent; outs = [] }) ∙ h.lists;
}

pub others_leave_files : OthersLeaveFiles
unfolding node_row piece_timeout_row
others_leave_files = record {
  given = λ me s clock place m other quiet'. rw other (leaves me s.file clock (lines.Given place ∷ []) _ (turned_rests me s.file.lasting s.vol (expired clock s.file.backs) (vol_decides me (durable_of s.file.lasting) s.vol m) m quiet'));
  late = λ me s clock n c. leaves me s.file clock [] _ (timed_rests me s.file.lasting s.vol (expired clock s.file.backs) n c (s.vol.sendings n));
}

-- ---- a saved call is a call: its turn is that of its decision

hears_call : (me : Node) (l : Lasting) (v : VolState) (b : Backs) (d : Durable) (head head' : Head) (c : Carried) (x : Deed) → vol_hears me d v head c ≡ saves head' x → vol_turned_by me l v b (vol_hears me d v head c) head c ≡ vol_turn me l v b (saves head' x)
hears_call me l v b d head head' (carried.Call user call) x e = ap (vol_turn me l v b) e
hears_call me l v b d head head' (carried.Refusal code) x e = absurd cc
hears_call me l v b d head head' (carried.Reply reply) x e = absurd cc
hears_call me l v b d head head' carried.Notice x e = absurd cc

pub turned_call : (me : Node) (l : Lasting) (v : VolState) (b : Backs) (d : Durable) (m : Received) (head : Head) (x : Deed) → vol_decides me d v m ≡ saves head x → vol_turned me l v b (vol_decides me d v m) m ≡ vol_turn me l v b (saves head x)
turned_call me l v b d Nothing head x e = absurd cc
turned_call me l v b d (Unserved h) head x e = ap (vol_turn me l v b) e
turned_call me l v b d (Unreadable h) head x e = ap (vol_turn me l v b) e
turned_call me l v b d (Whole m) head x e = hears_call me l v b d m.head head m.carried x e

pub saved_row : (me : Node) (s : NodeState) (clock place : ℕ) (m : Received) (head : Head) (x : Deed) → is_of_client (from_of m) ≡ false → vol_decides me (durable_of s.file.lasting) s.vol m ≡ saves head x →
    node_row me s clock place m ≡ vol_stepped me s.file (lines.Given place ∷ []) (vol_turn me s.file.lasting s.vol (expired clock s.file.backs) (saves head x))
unfolding node_row
saved_row me s clock place m head x other is =
    rw other (ap (vol_stepped me s.file (lines.Given place ∷ [])) (turned_call me s.file.lasting s.vol (expired clock s.file.backs) (durable_of s.file.lasting) m head x is))

shows_by : (me : Node) (s : NodeState) (clock place : ℕ) (head : Head) (x : Deed) → ShowsDeed me s clock place head x (vol_stepped me s.file (lines.Given place ∷ []) (vol_turn me s.file.lasting s.vol (expired clock s.file.backs) (saves head x)))
shows_by me s clock place head x =
    let l : Lasting = s.file.lasting in
    let b : Backs = expired clock s.file.backs in
    let v : VolState = vol_seated head x.reply (with_transactions x.transactions x.last s.vol) in
    let ls : List Line = deed_lines me head x l ++ map (owe_line me) (owes_of x.withdraws b.lists) in
    let rests = answers_rest (deed_done head x l) v (record b { lists = withdraws_from x.withdraws b.lists }) ls x.reply (waits_of x b.lists) false in
    let t : VolTurn = vol_turn me l s.vol b (saves head x) in record {
      lasting = rests.lasting;
      seats = refl;
      lists = pumped_lists me t.lasting.boot (record { backs = t.backs; lines = []; sent = t.sent; outs = [] }) ∙ rests.lists;
      lines = ap (λ (k : List Line). lines.Given place ∷ k) (answers_tell (deed_done head x l) v (record b { lists = withdraws_from x.withdraws b.lists }) ls x.reply (waits_of x b.lists) false);
    }

pub deeds_are_shown : DeedsAreShown
deeds_are_shown me s clock place m head x other is = subst (ShowsDeed me s clock place head x) (sym (saved_row me s clock place m head x other is)) (shows_by me s clock place head x)

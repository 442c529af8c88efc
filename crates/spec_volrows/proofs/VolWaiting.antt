-- Replies of a volume server that wait for breaks are held until these end.
use Rattle.std.proofs.Common.{◌≡◌, ◌⊎◌, ℕ, ℤ, inl, inr, Bool, true, false, cond, List, [], ◌∷◌, ◌++◌, map, filter, Option, Some, None, refl, sym, subst, ◌∙◌, eq-eqb}
use Rattle.std.specs.Prelude.{nat_eq, not, ◌&&◌, ◌||◌}
use Rattle.std.specs.List.{AllByRecursion}
use Rattle.afs_num.specs.Nodes.{same_node}
use Rattle.afs_num.specs.declared.types.Head.{Head}
use Rattle.afs_num.specs.declared.types.Node.{Node}
use Rattle.afs_num.specs.declared.types.Node.TheVariants.{Server}
use Rattle.afs_num.specs.declared.messages.Carried.{Carried}
use Rattle.afs_num.specs.declared.messages.Carried.TheVariants as carried
use Rattle.afs_num.specs.declared.messages.Message.{Message}
use Rattle.afs_num.specs.declared.messages.Received.{Received}
use Rattle.afs_num.specs.declared.messages.Received.TheVariants.{Nothing, Unserved, Unreadable, Whole}
use Rattle.spec_breaks.specs.declared.types.OwedBreak.{OwedBreak}
use Rattle.spec_breaks.specs.Promises.{Lists, by_fid, has_break, hits_on, owes_from}
use Rattle.spec_history.specs.declared.lines.Line.{Line}
use Rattle.spec_history.specs.declared.lines.Line.TheVariants as lines
use Rattle.spec_volrows.proofs.VolTurns.{pumped_lists, saved_row}
use Rattle.spec_ideal.specs.Operations.{is_number}
use Rattle.spec_model.specs.Calls.{finished, is_sent_again, key_of}
use Rattle.spec_rows.specs.Callbacks.{alls, expired, is_ready, owe_line, put_at, waits_none, is_all, break_numbers, pumped}
use Rattle.spec_rows.specs.ServerSteps.{back_timeout_row, wake_row}
use Rattle.spec_rows.specs.States.{Backs, Held, Lasting, ServerState, durable_of}
use Rattle.spec_rows.specs.Steps.{Step}
use Rattle.spec_volrows.specs.FileRow.{file_row}
use Rattle.spec_volrows.specs.VolLaws.{FencesWait, HeldAreKept, HeldGoOutLast, IsAmong, IsHeldFor, KeepsHeld, waits_of, IsHeldBack}
use Rattle.spec_volrows.specs.VolStates.{NodeState, PieceCall, Sending, VolState}
use Rattle.spec_volrows.specs.VolSteps.{VolDecision, VolTurn, answered_by, code_told, deed_done, deed_lines, dispatches, drops, ends_sending, forward_reply, from_of, in_progress, is_awaited, is_of_client, waits_for_breaks, piece_gone, next_by, node_back_timeout_row, node_row, node_wake_row, owes_of, piece_timeout_row, queued, repeats, replies_to, saves, sent_whole, tells_boot, vol_answers, vol_decides, vol_renews, vol_repeats, vol_rests, vol_seated, vol_stepped, vol_timed, vol_told_by, vol_turn, vol_turned, vol_turned_by, with_transactions, withdraws_from, Deed, file_stepped, given_up}
use Rattle.spec_volrows.specs.VolRow.{holds_of}

-- ---- breaks that are owed

break_by : (a b : Bool) → b ≡ true → cond a true b ≡ true
break_by true b h = refl
break_by false b h = h

break_behind : (n : ℕ) (a b : List OwedBreak) → has_break n b ≡ true → has_break n (a ++ b) ≡ true
break_behind n [] b h = h
break_behind n (o ∷ a) b h = break_by (nat_eq o.number n) (has_break n (a ++ b)) (break_behind n a b h)

-- a reply that waits for a break which is owed isn't ready
none_by : (t : Bool) (b : Bool) → b ≡ false → cond t false b ≡ false
none_by true b h = refl
none_by false b h = h

not_ready : (n : ℕ) (ks : List ℕ) (os : List OwedBreak) → IsAmong n ks → has_break n os ≡ true → waits_none ks os ≡ false
not_ready n [] os h e = absurd h
not_ready n (k ∷ ks) os (inl same) e = rw (subst (λ (j : ℕ). has_break j os ≡ true) (sym same) e) refl
not_ready n (k ∷ ks) os (inr h) e = none_by (has_break k os) (waits_none ks os) (not_ready n ks os h e)

-- and one that is ready waits for none
cleared_by : (t b : Bool) → cond t false b ≡ true → (t ≡ false) × (b ≡ true)
cleared_by true b e = absurd cc
cleared_by false b e = (refl, e)

cleared : (n : ℕ) (ks : List ℕ) (os : List OwedBreak) → waits_none ks os ≡ true → IsAmong n ks → has_break n os ≡ false
cleared n [] os e h = absurd h
cleared n (k ∷ ks) os e (inl same) = subst (λ (j : ℕ). has_break j os ≡ false) same (cleared_by (has_break k os) (waits_none ks os) e).0
cleared n (k ∷ ks) os e (inr h) = cleared n ks os (cleared_by (has_break k os) (waits_none ks os) e).1 h

-- ---- what is held

held_front : (reply : Message) (n : ℕ) (hs js : List Held) → IsHeldFor reply n hs → IsHeldFor reply n (hs ++ js)
held_front reply n [] js h = absurd h
held_front reply n (x ∷ hs) js (inl h) = inl h
held_front reply n (x ∷ hs) js (inr h) = inr (held_front reply n hs js h)

held_behind : (reply : Message) (n : ℕ) (hs js : List Held) → IsHeldFor reply n js → IsHeldFor reply n (hs ++ js)
held_behind reply n [] js h = h
held_behind reply n (x ∷ hs) js h = inr (held_behind reply n hs js h)

-- those that wait stay
stays_by : (t : Bool) (reply : Message) (n : ℕ) (x : Held) (hs : List Held) → IsHeldFor reply n hs → IsHeldFor reply n (cond t (x ∷ hs) hs)
stays_by true reply n x hs h = inr h
stays_by false reply n x hs h = h

stays : (reply : Message) (n : ℕ) (hs : List Held) (os : List OwedBreak) → IsHeldFor reply n hs → has_break n os ≡ true → IsHeldFor reply n (filter (waits_for_breaks os) hs)
stays reply n [] os h e = absurd h
stays reply n (x ∷ hs) os (inl h) e = rw (not_ready n x.waits os h.1 e) (inl h)
stays reply n (x ∷ hs) os (inr h) e = stays_by (waits_for_breaks os x) reply n x (filter (waits_for_breaks os) hs) (stays reply n hs os h e)

-- ---- a saved call

answers_hold : (l : Lasting) (v : VolState) (b : Backs) (ls : List Line) (reply : Message) (n : ℕ) (ks : List ℕ) (again : Bool) → IsAmong n ks → IsHeldFor reply n (vol_answers l v b ls reply ks again).vol.held
answers_hold l v b ls reply n [] again h = absurd h
answers_hold l v b ls reply n (k ∷ ks) again h = held_behind reply n v.held _ (inl (refl, h))

answers_lists : (l : Lasting) (v : VolState) (b : Backs) (ls : List Line) (reply : Message) (ks : List ℕ) (again : Bool) → (vol_answers l v b ls reply ks again).backs.lists ≡ b.lists
answers_lists l v b ls reply [] again = refl
answers_lists l v b ls reply (k ∷ ks) again = refl

break_before : (n : ℕ) (a b : List OwedBreak) → has_break n a ≡ true → has_break n (a ++ b) ≡ true
break_before n [] b h = absurd cc
break_before n (o ∷ a) b h = before_by (nat_eq o.number n) (has_break n a) (has_break n (a ++ b)) (break_before n a b) h
  where
    before_by : (t p q : Bool) → (p ≡ true → q ≡ true) → cond t true p ≡ true → cond t true q ≡ true
    before_by true p q w h = refl
    before_by false p q w h = w h

numbers_break : (n : ℕ) (os : List OwedBreak) → IsAmong n (break_numbers os) → has_break n os ≡ true
numbers_break n [] h = absurd h
numbers_break n (o ∷ os) (inl e) = rw (eq-eqb o.number n e) refl
numbers_break n (o ∷ os) (inr h) = break_by (nat_eq o.number n) (has_break n os) (numbers_break n os h)

all_break_by : (t : Bool) (n : ℕ) (o : OwedBreak) (os : List OwedBreak) → (IsAmong n (alls os) → has_break n os ≡ true) → IsAmong n (cond t (o.number ∷ alls os) (alls os)) → has_break n (o ∷ os) ≡ true
all_break_by true n o os w (inl e) = rw (eq-eqb o.number n e) refl
all_break_by true n o os w (inr h) = break_by (nat_eq o.number n) (has_break n os) (w h)
all_break_by false n o os w h = break_by (nat_eq o.number n) (has_break n os) (w h)

all_break : (n : ℕ) (os : List OwedBreak) → IsAmong n (alls os) → has_break n os ≡ true
all_break n [] h = absurd h
all_break n (o ∷ os) h = all_break_by (is_all o.what) n o os (all_break n os) h

among_either : (n : ℕ) (ks js : List ℕ) → IsAmong n (ks ++ js) → IsAmong n ks ⊎ IsAmong n js
among_either n [] js h = inr h
among_either n (k ∷ ks) js (inl e) = inl (inl e)
among_either n (k ∷ ks) js (inr h) = later (among_either n ks js h)
  where
    later : IsAmong n ks ⊎ IsAmong n js → IsAmong n (k ∷ ks) ⊎ IsAmong n js
    later (inl y) = inl (inr y)
    later (inr y) = inr y

-- breaks that were owed stay so, and those of this call are behind them
old_owed : (n : ℕ) (w : Option ℕ) (l : Lists) → has_break n l.owed ≡ true → has_break n (withdraws_from w l).owed ≡ true
old_owed n None l h = h
old_owed n (Some id) l h = break_before n l.owed (owes_from l.last_owed (by_fid (hits_on id l.promises))) h

new_owed : (n : ℕ) (w : Option ℕ) (l : Lists) → IsAmong n (break_numbers (owes_of w l)) → has_break n (withdraws_from w l).owed ≡ true
new_owed n None l h = absurd h
new_owed n (Some id) l h = break_behind n l.owed (owes_from l.last_owed (by_fid (hits_on id l.promises))) (numbers_break n (owes_of (Some id) l) h)

owed_after : (n : ℕ) (w : Option ℕ) (l : Lists) → IsAmong n (break_numbers (owes_of w l)) ⊎ IsAmong n (alls l.owed) → has_break n (withdraws_from w l).owed ≡ true
owed_after n w l (inl h) = new_owed n w l h
owed_after n w l (inr h) = old_owed n w l (all_break n l.owed h)

held_back : (me : Node) (s : NodeState) (clock : ℕ) (ls : List Line) (head : Head) (x : Deed) (n : ℕ) → IsAmong n (waits_of x (expired clock s.file.backs).lists) →
    IsHeldBack x.reply n (vol_stepped me s.file ls (vol_turn me s.file.lasting s.vol (expired clock s.file.backs) (saves head x)))
held_back me s clock ls head x n waits =
    let l : Lasting = s.file.lasting in
    let b : Backs = expired clock s.file.backs in
    let t : VolTurn = vol_turn me l s.vol b (saves head x) in
    let lists : (pumped me t.lasting.boot (record { backs = t.backs; lines = []; sent = t.sent; outs = [] })).backs.lists ≡ withdraws_from x.withdraws b.lists =
    pumped_lists me t.lasting.boot (record { backs = t.backs; lines = []; sent = t.sent; outs = [] }) ∙ answers_lists _ _ _ _ x.reply (waits_of x b.lists) false in
    let owed : has_break n (pumped me t.lasting.boot (record { backs = t.backs; lines = []; sent = t.sent; outs = [] })).backs.lists.owed ≡ true =
    subst (λ (y : Lists). has_break n y.owed ≡ true) (sym lists) (owed_after n x.withdraws b.lists (among_either n (break_numbers (owes_of x.withdraws b.lists)) (alls b.lists.owed) waits)) in
    record { owed = owed; held = stays x.reply n t.vol.held _ (answers_hold _ _ _ _ x.reply n (waits_of x b.lists) false waits) owed }

pub fences_wait : FencesWait
fences_wait me s clock place m head x n other is waits = subst (IsHeldBack x.reply n) (sym (saved_row me s clock place m head x other is)) (held_back me s clock (lines.Given place ∷ []) head x n waits)

-- ---- every step

-- what was held is held behind it
record Holds (v : VolState) (t : VolTurn) : Type 0 where
  keeps : (reply : Message) (n : ℕ) → IsHeldFor reply n v.held → IsHeldFor reply n t.vol.held

answers_keep : (v u : VolState) (l : Lasting) (b : Backs) (ls : List Line) (reply : Message) (waits : List ℕ) (again : Bool) → u.held ≡ v.held → Holds v (vol_answers l u b ls reply waits again)
answers_keep v u l b ls reply [] again same = record { keeps = λ r n h. subst (IsHeldFor r n) (sym same) h }
answers_keep v u l b ls reply (k ∷ ks) again same = record { keeps = λ r n h. held_front r n u.held _ (subst (IsHeldFor r n) (sym same) h) }

next_keeps : (v : VolState) (me : Node) (boot : ℕ) (n : Node) (t : VolTurn) (xs : List Sending) (c : Option PieceCall) → Holds v t → Holds v (next_by me boot n t xs c)
next_keeps v me boot n t [] c h = h
next_keeps v me boot n t (x ∷ xs) (Some c) h = h
next_keeps v me boot n t (x ∷ xs) None h = record { keeps = λ r k y. h.keeps r k y }

if_keeps : (v : VolState) (t : Bool) (x y : VolTurn) → Holds v x → Holds v y → Holds v (cond t x y)
if_keeps v true x y h k = h
if_keeps v false x y h k = k

repeats_keep : (me : Node) (l : Lasting) (v : VolState) (b : Backs) (reply : Message) (o : Option Held) (good : Bool) → Holds v (vol_repeats l v b reply o good)
repeats_keep me l v b reply (Some h) good = if_keeps v (h.again && is_ready b.lists.owed h) (vol_answers l v b [] reply [] true) (vol_rests l v b) (answers_keep v v l b [] reply [] true refl) (record { keeps = λ r k y. y })
repeats_keep me l v b reply None true = answers_keep v v l b [] reply _ true refl
repeats_keep me l v b reply None false = answers_keep v v l b [] reply [] true refl

turn_keeps : (me : Node) (l : Lasting) (v : VolState) (b : Backs) (d : VolDecision) → Holds v (vol_turn me l v b d)
turn_keeps me l v b drops = record { keeps = λ r k y. y }
turn_keeps me l v b (tells_boot head) = record { keeps = λ r k y. y }
turn_keeps me l v b (repeats reply) = repeats_keep me l v b reply _ _
turn_keeps me l v b (replies_to head reply ts last) = answers_keep v (vol_seated head reply (with_transactions ts last v)) l b [] reply [] false refl
turn_keeps me l v b (dispatches head x) =
    let q : VolState = queued head x (in_progress head v) in
    next_keeps v me l.boot (Server x.server) (vol_rests l q b) (q.sendings (Server x.server)) (q.calls (Server x.server)) (record { keeps = λ r k y. y })
turn_keeps me l v b (saves head x) = answers_keep v (vol_seated head x.reply (with_transactions x.transactions x.last v)) (deed_done head x l) (record b { lists = withdraws_from x.withdraws b.lists }) (deed_lines me head x l ++ map (owe_line me) (owes_of x.withdraws b.lists)) x.reply (waits_of x b.lists) false refl

ends_keep : (me : Node) (l : Lasting) (v : VolState) (b : Backs) (ls : List Line) (n : Node) (xs : List Sending) (x : Sending) (code : ℤ) → Holds v (ends_sending me l v b ls n xs x code)
ends_keep me l v b ls n xs x code =
    let u : VolState = record v { sendings = put_at n xs v.sendings; calls = put_at n None v.calls; seats = finished (key_of x.head) (forward_reply l.boot x.head code) v.seats } in
    next_keeps v me l.boot n (record { lasting = l; vol = u; backs = b; lines = ls; sent = forward_reply l.boot x.head code ∷ [] }) (u.sendings n) (u.calls n) (record { keeps = λ r k y. y })

answered_keeps : (me : Node) (l : Lasting) (v : VolState) (b : Backs) (n : Node) (xs : List Sending) (code : ℤ) → Holds v (answered_by me l v b n xs code)
answered_keeps me l v b n [] code = record { keeps = λ r k y. y }
answered_keeps me l v b n (x ∷ xs) code =
    let u : VolState = record v { sendings = put_at n (piece_gone x ∷ xs) v.sendings; calls = put_at n None v.calls } in
    if_keeps v (not (is_number code 0) || sent_whole x) (ends_sending me l v b [] n xs x code) (next_by me l.boot n (vol_rests l u b) (u.sendings n) (u.calls n)) (ends_keep me l v b [] n xs x code) (next_keeps v me l.boot n (vol_rests l u b) (u.sendings n) (u.calls n) (record { keeps = λ r k y. y }))

renews_keep : (me : Node) (l : Lasting) (v : VolState) (b : Backs) (n : Node) (known : ℕ) (c : PieceCall) (xs : List Sending) → Holds v (vol_renews me l v b n known c xs)
renews_keep me l v b n known c [] = record { keeps = λ r k y. y }
renews_keep me l v b n known c (x ∷ xs) = record { keeps = λ r k y. y }

told_keeps : (me : Node) (l : Lasting) (v : VolState) (b : Backs) (head : Head) (c : Carried) (o : Option PieceCall) → Holds v (vol_told_by me l v b head c o)
told_keeps me l v b head c None = record { keeps = λ r k y. y }
told_keeps me l v b head carried.Notice (Some p) = if_keeps v (is_awaited l.boot p head) _ _ (renews_keep me l v b head.from head.boot p (v.sendings head.from)) (record { keeps = λ r k y. y })
told_keeps me l v b head (carried.Call user call) (Some p) = if_keeps v (is_awaited l.boot p head) _ _ (answered_keeps me l v b head.from (v.sendings head.from) (code_told (carried.Call user call))) (record { keeps = λ r k y. y })
told_keeps me l v b head (carried.Refusal code) (Some p) = if_keeps v (is_awaited l.boot p head) _ _ (answered_keeps me l v b head.from (v.sendings head.from) (code_told (carried.Refusal code))) (record { keeps = λ r k y. y })
told_keeps me l v b head (carried.Reply reply) (Some p) = if_keeps v (is_awaited l.boot p head) _ _ (answered_keeps me l v b head.from (v.sendings head.from) (code_told (carried.Reply reply))) (record { keeps = λ r k y. y })

given_keeps : (me : Node) (l : Lasting) (v : VolState) (b : Backs) (d : VolDecision) (head : Head) (c : Carried) → Holds v (vol_turned_by me l v b d head c)
given_keeps me l v b d head (carried.Call user call) = turn_keeps me l v b d
given_keeps me l v b d head (carried.Refusal code) = if_keeps v (same_node head.to me) _ _ (told_keeps me l v b head (carried.Refusal code) (v.calls head.from)) (record { keeps = λ r k y. y })
given_keeps me l v b d head (carried.Reply reply) = if_keeps v (same_node head.to me) _ _ (told_keeps me l v b head (carried.Reply reply) (v.calls head.from)) (record { keeps = λ r k y. y })
given_keeps me l v b d head carried.Notice = if_keeps v (same_node head.to me) _ _ (told_keeps me l v b head carried.Notice (v.calls head.from)) (record { keeps = λ r k y. y })

all_keep : (me : Node) (l : Lasting) (v : VolState) (b : Backs) (d : VolDecision) (m : Received) → Holds v (vol_turned me l v b d m)
all_keep me l v b d Nothing = record { keeps = λ r k y. y }
all_keep me l v b d (Unserved head) = turn_keeps me l v b d
all_keep me l v b d (Unreadable head) = turn_keeps me l v b d
all_keep me l v b d (Whole m) = given_keeps me l v b d m.head m.carried

timed_keeps : (me : Node) (l : Lasting) (v : VolState) (b : Backs) (n : Node) (c : PieceCall) (xs : List Sending) → Holds v (vol_timed me l v b n c xs)
timed_keeps me l v b n c [] = record { keeps = λ r k y. y }
timed_keeps me l v b n c (x ∷ xs) = if_keeps v (is_sent_again c.tries) _ _ (record { keeps = λ r k y. y }) (ends_keep me l v b _ n xs x given_up)

-- behind a step of the file server, and one of the volume server
file_keeps : (s : NodeState) (after : Step ServerState) → KeepsHeld s (file_stepped s.vol after)
file_keeps s after reply n h e = stays reply n s.vol.held after.state.backs.lists.owed h e

vol_keeps : (me : Node) (s : NodeState) (ls : List Line) (t : VolTurn) → Holds s.vol t → KeepsHeld s (vol_stepped me s.file ls t)
vol_keeps me s ls t k reply n h e = stays reply n t.vol.held _ (k.keeps reply n h) e

node_keeps : (t : Bool) (s : NodeState) (x y : Step NodeState) → KeepsHeld s x → KeepsHeld s y → KeepsHeld s (cond t x y)
node_keeps true s x y h k = h
node_keeps false s x y h k = k

pub held_are_kept : HeldAreKept
unfolding node_row node_back_timeout_row piece_timeout_row node_wake_row
held_are_kept = record {
  given = λ me s clock place m. node_keeps (is_of_client (from_of m)) s _ _ (file_keeps s (file_row me (holds_of s.vol.transactions) s.file clock place m)) (vol_keeps me s (lines.Given place ∷ []) _ (all_keep me s.file.lasting s.vol (expired clock s.file.backs) (vol_decides me (durable_of s.file.lasting) s.vol m) m));
  late = λ me s clock n c. file_keeps s (back_timeout_row me s.file clock n c);
  piece = λ me s clock n c. vol_keeps me s [] _ (timed_keeps me s.file.lasting s.vol (expired clock s.file.backs) n c (s.vol.sendings n));
  woken = λ me s clock. file_keeps s (wake_row me s.file clock);
}

-- ---- what goes out

out_by : (t : Bool) (os : List OwedBreak) (h : Held) (hs : List Held) → is_ready os h ≡ t → AllByRecursion (λ (x : Held). (n : ℕ) → IsAmong n x.waits → has_break n os ≡ false) hs → AllByRecursion (λ (x : Held). (n : ℕ) → IsAmong n x.waits → has_break n os ≡ false) (cond t (h ∷ hs) hs)
out_by true os h hs e all = ((λ n k. cleared n h.waits os e k), all)
out_by false os h hs e all = all

all_out : (os : List OwedBreak) (hs : List Held) → AllByRecursion (λ (x : Held). (n : ℕ) → IsAmong n x.waits → has_break n os ≡ false) (filter (is_ready os) hs)
all_out os [] = tt
all_out os (h ∷ hs) = out_by (is_ready os h) os h (filter (is_ready os) hs) refl (all_out os hs)

pub held_go_out : HeldGoOutLast
held_go_out v ls after = record { sent = refl; ended = all_out after.state.backs.lists.owed v.held; left = refl }

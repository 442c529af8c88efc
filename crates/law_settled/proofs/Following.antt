-- The lines of each step, where breaks are settled: a file server's alone, and where it is given an answer.
use Rattle.std.proofs.Common.{◌≡◌, ℕ, ◌+◌, Bool, true, false, cond, List, [], ◌∷◌, ◌++◌, Option, Some, None, refl, sym, ap, subst, ◌∙◌}
use Rattle.std.specs.Prelude.{⊤, map, ◌&&◌, length}
use Rattle.afs_num.specs.Nodes.{same_node}
use Rattle.afs_num.specs.declared.histories.Actor.{Actor}
use Rattle.afs_num.specs.declared.histories.Actor.TheVariants as actors
use Rattle.afs_num.specs.declared.histories.Version.{Version}
use Rattle.afs_num.specs.declared.messages.Carried.{Carried}
use Rattle.afs_num.specs.declared.messages.Carried.TheVariants as carried
use Rattle.afs_num.specs.declared.messages.Message.{Message}
use Rattle.afs_num.specs.declared.messages.Received.TheVariants.{Whole}
use Rattle.afs_num.specs.declared.types.Head.{Head}
use Rattle.afs_num.specs.declared.types.Node.{Node}
use Rattle.afs_num.specs.declared.types.Node.TheVariants.{Admin, Client, Loc, Server}
use Rattle.spec_history.specs.declared.lines.Line.{Line}
use Rattle.spec_history.specs.declared.lines.Line.TheVariants as lines
use Rattle.spec_breaks.specs.declared.types.OwedBreak.{OwedBreak}
use Rattle.spec_fold.specs.Effects.{effect_by, vanished_lines}
use Rattle.spec_ideal.specs.Operations.{Found}
use Rattle.spec_model.proofs.Basics.{both}
use Rattle.spec_model.specs.Calls.{call_seat, is_sent_again, key_of}
use Rattle.spec_records.specs.Durable.{Durable}
use Rattle.law_legal.proofs.OwedOnce.{is_breakless}
use Rattle.spec_rows.specs.Callbacks.{expired, held_under, is_back_awaited, is_ready, is_seat_of, key_answered, new_owes, no_turn, owe_line, quit_line, renews_by, repeats_by, risen_turn, still_owed, call_timed_out, turn_for, turned_by, turned_in, CallbackStep}
use Rattle.spec_rows.specs.Hosts.{at_rest, begun_from, in_boot, in_step, Fall}
use Rattle.spec_rows.specs.Runs.{Entry}
use Rattle.spec_rows.specs.ServerRow as file
use Rattle.spec_rows.specs.ServerRow.{begun_after, does, granted, granted_in, is_client, promise_ticks, versioned, versions_made, Decision}
use Rattle.spec_rows.specs.ServerSteps.{back_timeout_row, wake_row}
use Rattle.spec_rows.specs.States.{durable_of, BackCall, Backs, Held, ServerState}
use Rattle.spec_rows.specs.Steps.{begun_before, Begun}
use Rattle.spec_volrows.proofs.VolKeeping.{deeds_are_writable}
use Rattle.spec_volrows.proofs.VolTurns.{deeds_are_shown}
use Rattle.spec_volrows.specs.FileRow.{file_row, file_start}
use Rattle.spec_volrows.specs.NodeHosts.{file_begun, node_begun, node_kind}
use Rattle.spec_volrows.specs.VolLaws.{is_saved, IsWritable, OfSaved, ShowsDeed}
use Rattle.spec_volrows.specs.VolRow.{holds_of}
use Rattle.spec_volrows.specs.VolStates.{NodeState, PieceCall}
use Rattle.spec_volrows.specs.VolSteps as vols
use Rattle.spec_volrows.specs.VolSteps.{deed_head, from_of, is_of_client, node_back_timeout_row, node_file_decides, node_row, node_start_row, node_wake_row, owes_of, piece_timeout_row, vol_begun_after, vol_decides, vol_timed, vol_turned_by, Deed, VolDecision}
use Rattle.law_places.proofs.Turning.{all_lines, all_on}
use Rattle.law_latest.proofs.AdminLines.{admin_tells}
use Rattle.law_latest.proofs.ClientLines.{client_tells}
use Rattle.law_latest.proofs.LocLines.{database_tells}
use Rattle.law_latest.proofs.ServerLines.{weaker}
use Rattle.law_settled.proofs.Settling.{answer_follows, Hears}
use Rattle.law_settled.proofs.VolLines.{deed_told, timed_quiet, turned_quiet, vanished_told, AreBreakless}
use Rattle.law_settled.specs.Settles.{FollowDrop}

-- ---- lines that settle nothing

abbrev pub is_no_settle : Line → Bool
is_no_settle (lines.Settle s c n) = false
is_no_settle l = true

abbrev pub NoSettle : List Line → Type 0
NoSettle ls = all_lines is_no_settle ls ≡ true

no_settle_one : (who : Actor) (es : List Entry) (own : List Line) (l : Line) (ls : List Line) → is_no_settle l ≡ true → FollowDrop who es (l ∷ own) ls → FollowDrop who es own (l ∷ ls)
no_settle_one who es own (lines.Settle s c n) ls h k = absurd cc
no_settle_one who es own l ls h k = (tt, k)

pub no_settle_follow : (who : Actor) (es : List Entry) (own ls : List Line) → NoSettle ls → FollowDrop who es own ls
no_settle_follow who es own [] h = tt
no_settle_follow who es own (l ∷ ls) h = let q = both (is_no_settle l) (all_lines is_no_settle ls) h in no_settle_one who es own l ls q.0 (no_settle_follow who es (l ∷ own) ls q.1)

breakless_one : (l : Line) → is_breakless l ≡ true → is_no_settle l ≡ true
breakless_one (lines.Settle s c n) h = absurd cc
breakless_one l h = refl

pub breakless_no_settle : (ls : List Line) → AreBreakless ls → NoSettle ls
breakless_no_settle ls h = weaker is_breakless is_no_settle breakless_one ls h

client_one : (l : Line) → client_tells l ≡ true → is_breakless l ≡ true
client_one (lines.Owe s c what n) h = absurd cc
client_one (lines.Settle s c n) h = absurd cc
client_one (lines.Quit s c n) h = absurd cc
client_one l h = refl

pub client_breakless : (ls : List Line) → all_lines client_tells ls ≡ true → AreBreakless ls
client_breakless ls h = weaker client_tells is_breakless client_one ls h

admin_one : (l : Line) → admin_tells l ≡ true → is_breakless l ≡ true
admin_one (lines.Owe s c what n) h = absurd cc
admin_one (lines.Settle s c n) h = absurd cc
admin_one (lines.Quit s c n) h = absurd cc
admin_one l h = refl

pub admin_breakless : (ls : List Line) → all_lines admin_tells ls ≡ true → AreBreakless ls
admin_breakless ls h = weaker admin_tells is_breakless admin_one ls h

database_one : (l : Line) → database_tells l ≡ true → is_breakless l ≡ true
database_one (lines.Owe s c what n) h = absurd cc
database_one (lines.Settle s c n) h = absurd cc
database_one (lines.Quit s c n) h = absurd cc
database_one l h = refl

pub database_breakless : (ls : List Line) → all_lines database_tells ls ≡ true → AreBreakless ls
database_breakless ls h = weaker database_tells is_breakless database_one ls h

-- ---- a file server's

pub owes_no_settle : (me : Node) (os : List OwedBreak) → NoSettle (map (owe_line me) os)
owes_no_settle me [] = refl
owes_no_settle me (o ∷ os) = owes_no_settle me os

quits_no_settle : (me n : Node) (os : List OwedBreak) → NoSettle (map (quit_line me n) os)
quits_no_settle me n [] = refl
quits_no_settle me n (o ∷ os) = quits_no_settle me n os

versioned_no_settle : (vs : List Version) (ls : List Line) → NoSettle ls → NoSettle (versioned vs ls)
versioned_no_settle [] ls h = h
versioned_no_settle (v ∷ vs) ls h = versioned_no_settle vs ls h

granted_no_settle : (me client : Node) (expiry : ℕ) (fs : List Found) (ls : List Line) → NoSettle ls → NoSettle (granted me client expiry fs ls)
granted_no_settle me client expiry [] ls h = h
granted_no_settle me client expiry (f ∷ fs) ls h = granted_no_settle me client expiry fs ls h

does_no_settle : (me : Node) (x : ServerState) (clock place : ℕ) (d : Decision) (ls : List Line) → NoSettle ls → NoSettle (does me x clock place d ls).lines
does_no_settle me x clock place file.drops ls h = h
does_no_settle me x clock place (file.tells_boot head) ls h = h
does_no_settle me x clock place (file.repeats reply) ls h = h
does_no_settle me x clock place (file.refuses head code) ls h = h
does_no_settle me x clock place (file.shows head r) ls h = granted_no_settle me head.from (clock + promise_ticks) r.granted ls h
does_no_settle me x clock place (file.saves head c) ls h = versioned_no_settle (versions_made c) (granted me head.from (clock + promise_ticks) (granted_in c) ls) (granted_no_settle me head.from (clock + promise_ticks) (granted_in c) ls h)

either_turn : (t : Bool) (a b : CallbackStep) → NoSettle a.lines → NoSettle b.lines → NoSettle (cond t a b).lines
either_turn true a b h k = h
either_turn false a b h k = k

repeats_no_settle : (b : Backs) (reply : Message) (o : Option Held) (good : Bool) → NoSettle (repeats_by b reply o good).lines
repeats_no_settle b reply (Some w) good = either_turn (w.again && is_ready b.lists.owed w) _ _ refl refl
repeats_no_settle b reply None true = refl
repeats_no_settle b reply None false = refl

for_no_settle : (me : Node) (x : ServerState) (clock : ℕ) (b : Backs) (d : Decision) → NoSettle (turn_for me x clock b d).lines
for_no_settle me x clock b file.drops = refl
for_no_settle me x clock b (file.tells_boot head) = refl
for_no_settle me x clock b (file.repeats reply) = repeats_no_settle b reply (held_under (key_answered reply) b.held) (is_seat_of reply (call_seat reply.head.to x.lasting.kept))
for_no_settle me x clock b (file.refuses head code) = refl
for_no_settle me x clock b (file.shows head r) = refl
for_no_settle me x clock b (file.saves head c) = owes_no_settle me (new_owes head.from (versions_made c) b.lists)

renewed_no_settle : (me : Node) (boot : ℕ) (head : Head) (b : Backs) (o : Option BackCall) → NoSettle (renews_by me boot head b o).lines
renewed_no_settle me boot head b None = refl
renewed_no_settle me boot head b (Some c) = either_turn (is_back_awaited boot c head) _ _ refl refl

file_follows : (i : ℕ) (s : NodeState) (clock place n : ℕ) (head : Head) (c : Carried) (es : List Entry) → Hears i s.file.lasting.boot s.file.backs.last_call (expired clock s.file.backs) es place (record { head = head; carried = c }) → head.from ≡ Client n
    → FollowDrop (actors.Node (Server i)) es [] (file_row (Server i) (holds_of s.vol.transactions) s.file clock place (Whole (record { head = head; carried = c }))).lines
unfolding file_row
file_follows i s clock place n head (carried.Call user call) es h from =
    let d : Decision = node_file_decides (Server i) s clock (Whole (record { head = head; carried = carried.Call user call })) in
    no_settle_follow (actors.Node (Server i)) es [] _ (does_no_settle (Server i) s.file clock place d (turn_for (Server i) s.file clock (expired clock s.file.backs) d).lines (for_no_settle (Server i) s.file clock (expired clock s.file.backs) d))
file_follows i s clock place n head (carried.Refusal code) es h from = (tt, answer_follows i s.file.lasting.boot s.file.backs.last_call (expired clock s.file.backs) es place (record { head = head; carried = carried.Refusal code }) h tt n from)
file_follows i s clock place n head (carried.Reply reply) es h from = (tt, answer_follows i s.file.lasting.boot s.file.backs.last_call (expired clock s.file.backs) es place (record { head = head; carried = carried.Reply reply }) h tt n from)
file_follows i s clock place n head carried.Notice es h from =
    let b : Backs = expired clock s.file.backs in
    let t : CallbackStep = renews_by (Server i) s.file.lasting.boot head b (b.calls head.from) in
    (tt, no_settle_follow (actors.Node (Server i)) es (lines.Given place ∷ []) (cond (same_node head.to (Server i)) t (no_turn b)).lines (either_turn (same_node head.to (Server i)) t (no_turn b) (renewed_no_settle (Server i) s.file.lasting.boot head b (b.calls head.from)) refl))

-- ---- a volume server's

saved_no_settle : (me : Node) (s : NodeState) (clock place : ℕ) (m : Message) (head : Head) (x : Deed) → is_of_client (from_of (Whole m)) ≡ false → vol_decides me (durable_of s.file.lasting) s.vol (Whole m) ≡ vols.saves head x → NoSettle (node_row me s clock place (Whole m)).lines
saved_no_settle me s clock place m head x other is =
    let d : Durable = durable_of s.file.lasting in
    let shown : ShowsDeed me s clock place head x (node_row me s clock place (Whole m)) = deeds_are_shown me s clock place (Whole m) head x other is in
    let writable = subst (OfSaved (IsWritable d)) is (deeds_are_writable me d s.vol (Whole m)) in
    let owes : List Line = map (owe_line me) (owes_of x.withdraws (expired clock s.file.backs).lists) in
    let effect : List Line = effect_by me (deed_head head x) x.body d in
    subst NoSettle (sym shown.lines) (all_on is_no_settle effect owes (breakless_no_settle effect (deed_told me (deed_head head x) x.body d writable.taken)) (owes_no_settle me (owes_of x.withdraws (expired clock s.file.backs).lists)))

quiet_no_settle : (me : Node) (s : NodeState) (clock place : ℕ) (m : Message) → is_of_client (from_of (Whole m)) ≡ false → is_saved (vol_decides me (durable_of s.file.lasting) s.vol (Whole m)) ≡ false → NoSettle (node_row me s clock place (Whole m)).lines
unfolding node_row
quiet_no_settle me s clock place m other quiet =
    let q = turned_quiet me s.file.lasting s.vol (expired clock s.file.backs) (vol_decides me (durable_of s.file.lasting) s.vol (Whole m)) m.head m.carried quiet in
    rw other (breakless_no_settle (vol_turned_by me s.file.lasting s.vol (expired clock s.file.backs) (vol_decides me (durable_of s.file.lasting) s.vol (Whole m)) m.head m.carried).lines q.told)

vol_no_settle : (me : Node) (s : NodeState) (clock place : ℕ) (m : Message) (d : VolDecision) → is_of_client (from_of (Whole m)) ≡ false → vol_decides me (durable_of s.file.lasting) s.vol (Whole m) ≡ d → NoSettle (node_row me s clock place (Whole m)).lines
vol_no_settle me s clock place m (vols.saves head x) other is = saved_no_settle me s clock place m head x other is
vol_no_settle me s clock place m d other is = quiet_no_settle me s clock place m other (ap is_saved is)

-- ---- a message

client_case : (q : Node) (X : Type 0) → is_client q ≡ true → ((n : ℕ) → q ≡ Client n → X) → X
client_case (Client n) X h w = w n refl
client_case (Server n) X h w = absurd cc
client_case (Admin n) X h w = absurd cc
client_case Loc X h w = absurd cc

client_follows : (i : ℕ) (s : NodeState) (clock place : ℕ) (m : Message) (es : List Entry) → Hears i s.file.lasting.boot s.file.backs.last_call (expired clock s.file.backs) es place m → is_client m.head.from ≡ true
    → FollowDrop (actors.Node (Server i)) es [] (file_row (Server i) (holds_of s.vol.transactions) s.file clock place (Whole m)).lines
client_follows i s clock place m es h is =
    client_case m.head.from (FollowDrop (actors.Node (Server i)) es [] (file_row (Server i) (holds_of s.vol.transactions) s.file clock place (Whole m)).lines) is (λ n from. file_follows i s clock place n m.head m.carried es h from)

row_by : (t : Bool) (i : ℕ) (s : NodeState) (clock place : ℕ) (m : Message) (es : List Entry) → Hears i s.file.lasting.boot s.file.backs.last_call (expired clock s.file.backs) es place m → is_of_client (from_of (Whole m)) ≡ t → FollowDrop (actors.Node (Server i)) es [] (node_row (Server i) s clock place (Whole m)).lines
unfolding node_row
row_by true i s clock place m es h is = rw is (client_follows i s clock place m es h is)
row_by false i s clock place m es h is = no_settle_follow (actors.Node (Server i)) es [] _ (vol_no_settle (Server i) s clock place m (vol_decides (Server i) (durable_of s.file.lasting) s.vol (Whole m)) is refl)

pub row_follows : (i : ℕ) (s : NodeState) (clock place : ℕ) (m : Message) (es : List Entry) → Hears i s.file.lasting.boot s.file.backs.last_call (expired clock s.file.backs) es place m → FollowDrop (actors.Node (Server i)) es [] (node_row (Server i) s clock place (Whole m)).lines
row_follows i s clock place m es h = row_by (is_of_client (from_of (Whole m))) i s clock place m es h refl

-- ---- timeouts

pub piece_no_settle : (me : Node) (s : NodeState) (clock : ℕ) (n : Node) (c : PieceCall) → NoSettle (piece_timeout_row me s clock n c).lines
unfolding piece_timeout_row
piece_no_settle me s clock n c = let q = timed_quiet me s.file.lasting s.vol (expired clock s.file.backs) n c (s.vol.sendings n) in breakless_no_settle (vol_timed me s.file.lasting s.vol (expired clock s.file.backs) n c (s.vol.sendings n)).lines q.told

pub late_no_settle : (me : Node) (s : NodeState) (clock : ℕ) (n : Node) (c : BackCall) → NoSettle (node_back_timeout_row me s clock n c).lines
unfolding node_back_timeout_row back_timeout_row
late_no_settle me s clock n c = either_turn (is_sent_again c.tries) _ _ refl (quits_no_settle me n (still_owed c (expired clock s.file.backs)))

-- ---- a restart: what it begins with owes and ends nothing

pub record BeginsBreakless (f : Begun NodeState) : Type 0 where
  pub pre : List Line
  pub plain : AreBreakless pre
  pub before : (ls : List Line) → f.before ls ≡ pre ++ ls

versioned_front : (vs : List Version) (ls : List Line) → versioned vs ls ≡ versioned vs [] ++ ls
versioned_front [] ls = refl
versioned_front (v ∷ vs) ls = ap (λ (xs : List Line). lines.Version v ∷ xs) (versioned_front vs ls)

versioned_breakless : (vs : List Version) → AreBreakless (versioned vs [])
versioned_breakless [] = refl
versioned_breakless (v ∷ vs) = versioned_breakless vs

as_before : (s : NodeState) → BeginsBreakless (begun_before s)
as_before s = record { pre = []; plain = refl; before = λ ls. refl }

file_begins : (me : Node) (s : NodeState) (clock : ℕ) (d : Decision) → BeginsBreakless (node_begun s (begun_after me s.file clock d))
file_begins me s clock file.drops = as_before s
file_begins me s clock (file.tells_boot head) = as_before s
file_begins me s clock (file.repeats reply) = as_before s
file_begins me s clock (file.refuses head code) = as_before s
file_begins me s clock (file.shows head r) = as_before s
file_begins me s clock (file.saves head c) = record {
  pre = lines.Change me (key_of head) (length (versions_made c)) ∷ versioned (versions_made c) [];
  plain = versioned_breakless (versions_made c);
  before = λ ls. ap (λ (xs : List Line). lines.Change me (key_of head) (length (versions_made c)) ∷ xs) (versioned_front (versions_made c) ls);
}

vol_begins : (me : Node) (s : NodeState) (d : VolDecision) → OfSaved (IsWritable (durable_of s.file.lasting)) d → BeginsBreakless (node_begun s (vol_begun_after me s.file d))
vol_begins me s vols.drops w = as_before s
vol_begins me s (vols.tells_boot head) w = as_before s
vol_begins me s (vols.repeats reply) w = as_before s
vol_begins me s (vols.replies_to head reply ts last) w = as_before s
vol_begins me s (vols.dispatches head x) w = as_before s
vol_begins me s (vols.saves head x) w = record { pre = effect_by me (deed_head head x) x.body (durable_of s.file.lasting); plain = deed_told me (deed_head head x) x.body (durable_of s.file.lasting) w.taken; before = λ ls. refl }

after_by : (b : Bool) (me : Node) (s : NodeState) (clock : ℕ) (m : Message) → BeginsBreakless (node_begun s (cond b (begun_after me s.file clock (node_file_decides me s clock (Whole m))) (vol_begun_after me s.file (vol_decides me (durable_of s.file.lasting) s.vol (Whole m)))))
after_by true me s clock m = file_begins me s clock (node_file_decides me s clock (Whole m))
after_by false me s clock m = vol_begins me s (vol_decides me (durable_of s.file.lasting) s.vol (Whole m)) (deeds_are_writable me (durable_of s.file.lasting) s.vol (Whole m))

pub begins_breakless : (me : Node) (s : NodeState) (after : Bool) (fall : Fall) → BeginsBreakless (begun_from (node_kind me) s after fall)
begins_breakless me s after at_rest = as_before s
begins_breakless me s false (in_step m clock b) = as_before s
begins_breakless me s true (in_step m clock b) = after_by (is_of_client (from_of (Whole m))) me s clock m
begins_breakless me s false in_boot = as_before s
begins_breakless me s true in_boot = record { pre = vanished_lines me s.file.lasting.volumes; plain = vanished_told me s.file.lasting.volumes; before = λ ls. refl }

-- The steps of servers tell lines of servers alone, beside a change and breaks that are given up. Those of breaks, of a server's own calls and
-- of its volume server tell no change.
use Rattle.spec_breaks.specs.declared.types.OwedBreak.{OwedBreak}
use Rattle.spec_fold.specs.Deeds.{can_take, created}
use Rattle.spec_fold.specs.Effects as effects
use Rattle.spec_fold.specs.Effects.{create_lines, effect_by, flag_lines, made_lines, released_lines, turn_lines, vanish_lines, vanished_lines, version_lines, whole_lines}
use Rattle.spec_history.specs.declared.lines.Line.TheVariants as lines
use Rattle.spec_history.specs.declared.lines.Line.{Line}
use Rattle.spec_ideal.specs.Operations.{is_number, Found}
use Rattle.spec_ideal.specs.Tables.{get, Table}
use Rattle.spec_model.specs.Calls.{call_seat, finished, is_sent_again, key_of}
use Rattle.spec_model.proofs.Basics.{both}
use Rattle.law_places.proofs.Turning.{all_lines, all_on}
use Rattle.afs_num.specs.Nodes.{same_node}
use Rattle.afs_num.specs.declared.histories.Version.{Version}
use Rattle.afs_num.specs.declared.messages.Carried.TheVariants as carried
use Rattle.afs_num.specs.declared.messages.Carried.{Carried}
use Rattle.afs_num.specs.declared.messages.Message.{Message}
use Rattle.afs_num.specs.declared.records.RecordBody.TheVariants as bodies
use Rattle.afs_num.specs.declared.records.RecordBody.{RecordBody}
use Rattle.afs_num.specs.declared.records.RecordHead.{RecordHead}
use Rattle.afs_num.specs.declared.types.Head.{Head}
use Rattle.afs_num.specs.declared.types.Node.TheVariants.{Server}
use Rattle.afs_num.specs.declared.types.Node.{Node}
use Rattle.spec_records.specs.Durable.{is_flagged, Durable, Stored}
use Rattle.spec_ideal.specs.SetUp.{first_versions}
use Rattle.spec_rows.specs.Callbacks.{held_under, is_back_awaited, is_ready, is_seat_of, key_answered, new_owes, owe_line, put_at, quit_line, renews_by, repeats_by, settle_line, settles_by, still_owed, call_timed_out, turn_for, turned_by, CallbackStep}
use Rattle.spec_rows.specs.ServerRow.{drops, granted, versions_made, refuses, repeats, saves, shows, tells_boot, Decision}
use Rattle.spec_rows.specs.States.{BackCall, Backs, Held, Lasting, ServerState}
use Rattle.spec_volrows.specs.VolLaws.{is_saved}
use Rattle.spec_volrows.specs.VolStates.{PieceCall, Sending, VolState}
use Rattle.spec_volrows.specs.VolSteps as vols
use Rattle.spec_volrows.specs.VolSteps.{answered_by, dispatches, ends_sending, forward_reply, in_progress, given_up, sending_goes_on, is_awaited, piece_gone, next_by, next_piece, queued, replies_to, sent_whole, vol_answers, vol_renews, vol_repeats, vol_rests, vol_seated, vol_timed, vol_told, vol_told_by, vol_turn, vol_turned_by, with_transactions, VolDecision, VolTurn}
use Rattle.std.proofs.Common.{◌≡◌, ℕ, ℤ, ◌+◌, Bool, true, false, cond, List, [], ◌∷◌, ◌++◌, Option, Some, None, refl, nat_eq, if◌then◌else◌}
use Rattle.std.specs.Prelude.{◌&&◌, ◌||◌, not, map}

-- a line that servers tell in their steps beside a change, but where they give breaks up; that a server stops or begins again is no step
abbrev pub server_tells : Line → Bool
server_tells (lines.Given place) = true
server_tells (lines.Grant s c f index expiry) = true
server_tells (lines.Version v) = true
server_tells (lines.Owe s c what n) = true
server_tells (lines.Settle s c n) = true
server_tells (lines.Timeout s callee epoch number count) = true
server_tells (lines.Made s v count) = true
server_tells (lines.Fence v s) = true
server_tells (lines.Enable v s) = true
server_tells (lines.Vanish v s) = true
server_tells (lines.Released family v release s) = true
server_tells l = false

abbrev pub AreOfServer : List Line → Type 0
AreOfServer ls = all_lines server_tells ls ≡ true

-- it tells no change
abbrev pub is_no_change : Line → Bool
is_no_change (lines.Change n key count) = false
is_no_change l = true

abbrev pub NoChange : List Line → Type 0
NoChange ls = all_lines is_no_change ls ≡ true

-- where each line of one kind is of another one, too
pub weaker : (p q : Line → Bool) → ((l : Line) → p l ≡ true → q l ≡ true) → (ls : List Line) → all_lines p ls ≡ true → all_lines q ls ≡ true
weaker p q w [] h = refl
weaker p q w (l ∷ ls) h = let k = both (p l) (all_lines p ls) h in rw (w l k.0, weaker p q w ls k.1) refl

server_no_change : (l : Line) → server_tells l ≡ true → is_no_change l ≡ true
server_no_change (lines.Change n key count) h = absurd cc
server_no_change l h = refl

pub plain : (ls : List Line) → AreOfServer ls → NoChange ls
plain ls h = weaker server_tells is_no_change server_no_change ls h

-- ---- what a file server tells of breaks

settles_told : (me n : Node) (os : List OwedBreak) → AreOfServer (map (settle_line me n) os)
settles_told me n [] = refl
settles_told me n (o ∷ os) = settles_told me n os

pub owes_told : (me : Node) (os : List OwedBreak) → AreOfServer (map (owe_line me) os)
owes_told me [] = refl
owes_told me (o ∷ os) = owes_told me os

pub granted_told : (me client : Node) (expiry : ℕ) (fs : List Found) (ls : List Line) → AreOfServer ls → AreOfServer (granted me client expiry fs ls)
granted_told me client expiry [] ls h = h
granted_told me client expiry (f ∷ fs) ls h = granted_told me client expiry fs ls h

either_turn : (t : Bool) (a b : CallbackStep) → AreOfServer a.lines → AreOfServer b.lines → AreOfServer (cond t a b).lines
either_turn true a b h k = h
either_turn false a b h k = k

repeats_told : (b : Backs) (reply : Message) (o : Option Held) (good : Bool) → AreOfServer (repeats_by b reply o good).lines
repeats_told b reply (Some w) good = either_turn (w.again && is_ready b.lists.owed w) _ _ refl refl
repeats_told b reply None true = refl
repeats_told b reply None false = refl

for_told : (me : Node) (x : ServerState) (clock : ℕ) (b : Backs) (d : Decision) → AreOfServer (turn_for me x clock b d).lines
for_told me x clock b drops = refl
for_told me x clock b (tells_boot head) = refl
for_told me x clock b (repeats reply) = repeats_told b reply (held_under (key_answered reply) b.held) (is_seat_of reply (call_seat reply.head.to x.lasting.kept))
for_told me x clock b (refuses head code) = refl
for_told me x clock b (shows head r) = refl
for_told me x clock b (saves head c) = owes_told me (new_owes head.from (versions_made c) b.lists)

settled_told : (me : Node) (boot : ℕ) (head : Head) (b : Backs) (o : Option BackCall) → AreOfServer (settles_by me boot head b o).lines
settled_told me boot head b None = refl
settled_told me boot head b (Some c) = either_turn (is_back_awaited boot c head) _ _ (settles_told me head.from (still_owed c b)) refl

renewed_told : (me : Node) (boot : ℕ) (head : Head) (b : Backs) (o : Option BackCall) → AreOfServer (renews_by me boot head b o).lines
renewed_told me boot head b None = refl
renewed_told me boot head b (Some c) = either_turn (is_back_awaited boot c head) _ _ refl refl

pub carried_told : (me : Node) (x : ServerState) (clock : ℕ) (b : Backs) (d : Decision) (head : Head) (c : Carried) → AreOfServer (turned_by me x clock b d head c).lines
carried_told me x clock b d head (carried.Call user call) = for_told me x clock b d
carried_told me x clock b d head (carried.Refusal code) = either_turn (same_node head.to me) _ _ (settled_told me x.lasting.boot head b (b.calls head.from)) refl
carried_told me x clock b d head (carried.Reply reply) = either_turn (same_node head.to me) _ _ (settled_told me x.lasting.boot head b (b.calls head.from)) refl
carried_told me x clock b d head carried.Notice = either_turn (same_node head.to me) _ _ (renewed_told me x.lasting.boot head b (b.calls head.from)) refl

-- ---- where its call to a client is timed out

quits_plain : (me n : Node) (os : List OwedBreak) → NoChange (map (quit_line me n) os)
quits_plain me n [] = refl
quits_plain me n (o ∷ os) = quits_plain me n os

either_late : (t : Bool) (a b : CallbackStep) → NoChange a.lines → NoChange b.lines → NoChange (cond t a b).lines
either_late true a b h k = h
either_late false a b h k = k

pub late_plain : (me : Node) (boot : ℕ) (n : Node) (c : BackCall) (b : Backs) → NoChange (call_timed_out me boot n c b).lines
late_plain me boot n c b = either_late (is_sent_again c.tries) _ _ refl (quits_plain me n (still_owed c b))

-- ---- what a volume server tells where it writes nothing

next_by_told : (me : Node) (boot : ℕ) (n : Node) (t : VolTurn) (xs : List Sending) (c : Option PieceCall) → AreOfServer t.lines → AreOfServer (next_by me boot n t xs c).lines
next_by_told me boot n t [] c h = h
next_by_told me boot n t (x ∷ xs) (Some c) h = h
next_by_told me boot n t (x ∷ xs) None h = h

next_told : (me : Node) (boot : ℕ) (n : Node) (t : VolTurn) → AreOfServer t.lines → AreOfServer (next_piece me boot n t).lines
next_told me boot n t h = next_by_told me boot n t (t.vol.sendings n) (t.vol.calls n) h

answers_told : (l : Lasting) (v : VolState) (b : Backs) (reply : Message) (waits : List ℕ) (again : Bool) → AreOfServer (vol_answers l v b [] reply waits again).lines
answers_told l v b reply [] again = refl
answers_told l v b reply (k ∷ ks) again = refl

either_told : (t : Bool) (a b : VolTurn) → AreOfServer a.lines → AreOfServer b.lines → AreOfServer (cond t a b).lines
either_told true a b h k = h
either_told false a b h k = k

repeated_told : (l : Lasting) (v : VolState) (b : Backs) (reply : Message) (o : Option Held) (good : Bool) → AreOfServer (vol_repeats l v b reply o good).lines
repeated_told l v b reply (Some h) good = either_told (h.again && is_ready b.lists.owed h) _ _ (answers_told l v b reply [] true) refl
repeated_told l v b reply None true = answers_told l v b reply _ true
repeated_told l v b reply None false = answers_told l v b reply [] true

ends_told : (me : Node) (l : Lasting) (v : VolState) (b : Backs) (ls : List Line) (n : Node) (xs : List Sending) (x : Sending) (code : ℤ) → AreOfServer ls → AreOfServer (ends_sending me l v b ls n xs x code).lines
ends_told me l v b ls n xs x code h = next_told me l.boot n (record {
  lasting = l;
  vol = record v { sendings = put_at n xs v.sendings; calls = put_at n None v.calls; seats = finished (key_of x.head) (forward_reply l.boot x.head code) v.seats };
  backs = b;
  lines = ls;
  sent = forward_reply l.boot x.head code ∷ [];
}) h

goes_told : (me : Node) (l : Lasting) (v : VolState) (b : Backs) (n : Node) (xs : List Sending) (x : Sending) → AreOfServer (sending_goes_on me l v b n xs x).lines
goes_told me l v b n xs x = next_told me l.boot n (vol_rests l (record v { sendings = put_at n (piece_gone x ∷ xs) v.sendings; calls = put_at n None v.calls }) b) refl

answered_told : (me : Node) (l : Lasting) (v : VolState) (b : Backs) (n : Node) (xs : List Sending) (code : ℤ) → AreOfServer (answered_by me l v b n xs code).lines
answered_told me l v b n [] code = refl
answered_told me l v b n (x ∷ xs) code = either_told (not (is_number code 0) || sent_whole x) _ _ (ends_told me l v b [] n xs x code refl) (goes_told me l v b n xs x)

renews_told : (me : Node) (l : Lasting) (v : VolState) (b : Backs) (n : Node) (known : ℕ) (c : PieceCall) (xs : List Sending) → AreOfServer (vol_renews me l v b n known c xs).lines
renews_told me l v b n known c [] = refl
renews_told me l v b n known c (x ∷ xs) = refl

told_by_told : (me : Node) (l : Lasting) (v : VolState) (b : Backs) (head : Head) (c : Carried) (o : Option PieceCall) → AreOfServer (vol_told_by me l v b head c o).lines
told_by_told me l v b head c None = refl
told_by_told me l v b head carried.Notice (Some p) = either_told (is_awaited l.boot p head) _ _ (renews_told me l v b head.from head.boot p (v.sendings head.from)) refl
told_by_told me l v b head (carried.Call user call) (Some p) = either_told (is_awaited l.boot p head) _ _ (answered_told me l v b head.from (v.sendings head.from) _) refl
told_by_told me l v b head (carried.Refusal code) (Some p) = either_told (is_awaited l.boot p head) _ _ (answered_told me l v b head.from (v.sendings head.from) _) refl
told_by_told me l v b head (carried.Reply reply) (Some p) = either_told (is_awaited l.boot p head) _ _ (answered_told me l v b head.from (v.sendings head.from) _) refl

told_told : (me : Node) (l : Lasting) (v : VolState) (b : Backs) (head : Head) (c : Carried) → AreOfServer (vol_told me l v b head c).lines
told_told me l v b head c = either_told (same_node head.to me) _ _ (told_by_told me l v b head c (v.calls head.from)) refl

pub timed_told : (me : Node) (l : Lasting) (v : VolState) (b : Backs) (n : Node) (c : PieceCall) (xs : List Sending) → AreOfServer (vol_timed me l v b n c xs).lines
timed_told me l v b n c [] = refl
timed_told me l v b n c (x ∷ xs) = either_told (is_sent_again c.tries) _ _ refl (ends_told me l v b _ n xs x given_up refl)

turn_told : (me : Node) (l : Lasting) (v : VolState) (b : Backs) (d : VolDecision) → is_saved d ≡ false → AreOfServer (vol_turn me l v b d).lines
turn_told me l v b vols.drops e = refl
turn_told me l v b (vols.tells_boot head) e = refl
turn_told me l v b (vols.repeats reply) e = repeated_told l v b reply _ _
turn_told me l v b (replies_to head reply ts last) e = answers_told l (vol_seated head reply (with_transactions ts last v)) b reply [] false
turn_told me l v b (dispatches head x) e = next_told me l.boot (Server x.server) (vol_rests l (queued head x (in_progress head v)) b) refl
turn_told me l v b (vols.saves head x) e = absurd cc

pub turned_told_by : (me : Node) (l : Lasting) (v : VolState) (b : Backs) (d : VolDecision) (head : Head) (c : Carried) → is_saved d ≡ false → AreOfServer (vol_turned_by me l v b d head c).lines
turned_told_by me l v b d head (carried.Call user call) e = turn_told me l v b d e
turned_told_by me l v b d head (carried.Refusal code) e = told_told me l v b head (carried.Refusal code)
turned_told_by me l v b d head (carried.Reply reply) e = told_told me l v b head (carried.Reply reply)
turned_told_by me l v b d head carried.Notice e = told_told me l v b head carried.Notice

-- ---- what a record tells

either_lines : (b : Bool) (xs ys : List Line) → AreOfServer xs → AreOfServer ys → AreOfServer (if b then xs else ys)
either_lines true xs ys h k = h
either_lines false xs ys h k = k

pub versions_told : (vs : List Version) → AreOfServer (version_lines vs)
versions_told [] = refl
versions_told (v ∷ vs) = versions_told vs

whole_told : (me : Node) (id : ℕ) (s : Stored) → AreOfServer (whole_lines me id s)
whole_told me id s = versions_told (first_versions id s.volume.vnodes)

vanish_told : (me : Node) (id : ℕ) (s : Stored) → AreOfServer (vanish_lines me id s)
vanish_told me id s = either_lines (nat_eq s.volume.kind 0) (lines.Vanish id me ∷ []) [] refl refl

pub vanished_told : (me : Node) (t : Table Stored) → AreOfServer (vanished_lines me t)
vanished_told me [] = refl
vanished_told me (p ∷ ps) =
    all_on server_tells (if is_flagged p.1 then vanish_lines me p.0 p.1 else []) (vanished_lines me ps) (either_lines (is_flagged p.1) (vanish_lines me p.0 p.1) [] (vanish_told me p.0 p.1) refl) (vanished_told me ps)

create_told : (me : Node) (id : ℕ) (s : Stored) → AreOfServer (create_lines me id s)
create_told me id s =
    either_lines (nat_eq s.volume.kind 0 && nat_eq s.volume.flags 0) (whole_lines me id s ++ lines.Enable id me ∷ []) [] (all_on server_tells (whole_lines me id s) (lines.Enable id me ∷ []) (whole_told me id s) refl) refl

made_told : (me : Node) (id flags : ℕ) (s : Stored) → AreOfServer (made_lines me id flags s)
made_told me id flags s = either_lines (nat_eq flags 0 && s.is_new) (whole_lines me id s) [] (whole_told me id s) refl

flags_turned_told : (me : Node) (id : ℕ) (was is : Bool) → AreOfServer (turn_lines me id was is)
flags_turned_told me id true false = refl
flags_turned_told me id false true = refl
flags_turned_told me id true true = refl
flags_turned_told me id false false = refl

released_told : (me : Node) (id : ℕ) (s : Stored) → AreOfServer (released_lines me id s)
released_told me id s = either_lines (nat_eq s.volume.kind 1) (lines.Released s.volume.family id s.volume.release me ∷ []) [] refl refl

flag_told : (me : Node) (id flags : ℕ) (s : Stored) → AreOfServer (flag_lines me id flags s)
flag_told me id flags s =
    either_lines (nat_eq s.volume.kind 0) (made_lines me id flags s ++ turn_lines me id (nat_eq s.volume.flags 0) (nat_eq flags 0)) (if nat_eq flags 0 then released_lines me id s else [])
    (all_on server_tells (made_lines me id flags s) (turn_lines me id (nat_eq s.volume.flags 0) (nat_eq flags 0)) (made_told me id flags s) (flags_turned_told me id (nat_eq s.volume.flags 0) (nat_eq flags 0)))
    (either_lines (nat_eq flags 0) (released_lines me id s) [] (released_told me id s) refl)

stored_told : (tell : Stored → List Line) (o : Option Stored) → ((s : Stored) → AreOfServer (tell s)) → AreOfServer (effects.lines_told_of tell o)
stored_told tell None h = refl
stored_told tell (Some s) h = h s

-- one of a volume server
pub deed_told : (me : Node) (h : RecordHead) (body : RecordBody) (d : Durable) → can_take body d ≡ true → AreOfServer (effect_by me h body d)
deed_told me h (bodies.First volumes) d can = absurd cc
deed_told me h (bodies.Change id counter unique vnodes removed) d can = absurd cc
deed_told me h (bodies.Boot boot) d can = absurd cc
deed_told me h (bodies.Create id family name kind flags quota is_new) d can = create_told me id (created family name kind flags quota is_new)
deed_told me h (bodies.Delete id) d can = stored_told (vanish_lines me id) (get id d.volumes) (vanish_told me id)
deed_told me h (bodies.Clone source id name kind release) d can = refl
deed_told me h (bodies.Restore id dump) d can = refl
deed_told me h (bodies.Flags id flags) d can = stored_told (flag_lines me id flags) (get id d.volumes) (flag_told me id flags)
deed_told me h (bodies.Forward id to) d can = refl
deed_told me h bodies.Stamp d can = refl

-- What the steps of a server do to its volumes, and tell of them: nothing, or one change, which is that of the operation that a client
-- called for on the volume as it stands there.
use Rattle.spec_breaks.specs.declared.types.OwedBreak.{OwedBreak}
use Rattle.spec_history.specs.declared.lines.Line.{Line}
use Rattle.spec_history.specs.declared.lines.Line.TheVariants as lines
use Rattle.spec_ideal.specs.Operations.{Caller, Found, Result, refused, reads, changes, no_operation, op, the_user, volume_called}
use Rattle.spec_ideal.specs.Tables.{Table, get, set}
use Rattle.law_legal.proofs.OwedPasses.{all_lines}
use Rattle.spec_ideal.specs.Volumes.{Volume}
use Rattle.law_legal.proofs.BaseLaws.{same_node-refl, same_node-true}
use Rattle.law_legal.proofs.ServerDiskKeeps.{found_started, unflagged}
use Rattle.spec_model.specs.Calls as pairs
use Rattle.spec_model.specs.Calls.{Admitted, admitted, call_seat, key_of}
use Rattle.afs_num.specs.Nodes.{same_node}
use Rattle.afs_num.specs.declared.calls.FsCall.{FsCall}
use Rattle.afs_num.specs.declared.calls.FsCall.TheVariants as calls
use Rattle.afs_num.specs.declared.messages.Call.TheVariants as ask
use Rattle.afs_num.specs.declared.messages.Carried.{Carried}
use Rattle.afs_num.specs.declared.messages.Carried.TheVariants as carried
use Rattle.afs_num.specs.declared.messages.Message.{Message}
use Rattle.afs_num.specs.declared.messages.Received.{Received}
use Rattle.afs_num.specs.declared.messages.Received.TheVariants.{Whole}
use Rattle.afs_num.specs.declared.types.Head.{Head}
use Rattle.afs_num.specs.declared.types.Node.{Node}
use Rattle.afs_num.specs.declared.types.Node.TheVariants.{Client}
use Rattle.spec_records.specs.Durable.{Stored, has_room}
use Rattle.spec_rows.specs.Callbacks.{CallbackStep, expired, held_under, is_back_awaited, is_ready, is_seat_of, key_answered, new_owes, owe_line, quit_line, renews_by, repeats_by, risen_turn, settle_line, settles_by, still_owed, turn_for, turned_by, turned_in}
use Rattle.spec_rows.specs.Steps.{Begun}
use Rattle.spec_rows.specs.Runs.{Fall, at_rest, begun_by_disk, in_boot, in_step}
use Rattle.spec_rows.specs.ServerRow.{Change, Decision, Sight, admits, begun_after, decided, decides, does, drops, granted, granted_in, hears, in_volume, is_client, is_unflagged, versions_made, not_served, promise_ticks, record_of, refuses, repeats, runs_received, saves, serves_call, several, shows, sights, stored_by, tells_boot, versioned, whole, with_volume}
use Rattle.spec_rows.specs.ServerSteps.{back_timeout_row, server_row, start_row, wake_row}
use Rattle.spec_rows.specs.States.{BackCall, Backs, Held, ServerState, durable_of, volume_in}
use Rattle.std.proofs.Common.{◌≡◌, ℕ, ◌+◌, ◌⊎◌, inl, inr, Bool, true, false, cond, List, [], ◌∷◌, ◌++◌, map, length, filter, Option, Some, None, refl, sym, subst, ◌∙◌}
use Rattle.std.specs.Prelude as outcome
use Rattle.std.specs.Prelude.{⊤, ◌&&◌, nat_lt, Ok, Err}

-- ---- what is saved

-- a change that this server chooses to make for the message is the operation of its call, on the volume as it stands
pub record Chosen (me : Node) (x : ServerState) (m : Message) (head : Head) (c : Change) : Type 0 where
  pub head' : head ≡ m.head
  pub to : m.head.to ≡ me
  pub runs : admitted x.lasting.boot x.seats m.head ≡ pairs.runs
  pub client : ℕ
  pub from : m.head.from ≡ Client client
  pub user : List ℕ
  pub call : FsCall
  pub carries : m.carried ≡ carried.Call user (ask.File call)
  pub of_volume : volume_called call ≡ Some c.id
  pub found : get c.id x.lasting.volumes ≡ Some c.before
  pub result : op c.id (the_user user) call c.before.volume ≡ changes c.edits c.shown
  pub caller : c.caller ≡ the_user user
  pub called : c.call ≡ call

abbrev pub IfSaves : (Head → Change → Type 0) → Decision → Type 0
IfSaves P (saves head c) = P head c
IfSaves P d = ⊤

-- the change of this call
record OfCall (x : ServerState) (head : Head) (user : List ℕ) (call : FsCall) (h : Head) (c : Change) : Type 0 where
  head' : h ≡ head
  of_volume : volume_called call ≡ Some c.id
  found : get c.id x.lasting.volumes ≡ Some c.before
  result : op c.id (the_user user) call c.before.volume ≡ changes c.edits c.shown
  caller : c.caller ≡ the_user user
  called : c.call ≡ call

either_saves : (P : Head → Change → Type 0) (t : Bool) (a b : Decision) → IfSaves P a → IfSaves P b → IfSaves P (cond t a b)
either_saves P true a b h k = h
either_saves P false a b h k = k

decided_saves : (x : ServerState) (clock : ℕ) (head : Head) (user : List ℕ) (call : FsCall) (id : ℕ) (st : Stored) (r : Result) → volume_called call ≡ Some id → get id x.lasting.volumes ≡ Some st → op id (the_user user) call st.volume ≡ r
    → IfSaves (OfCall x head user call) (decided x clock head (the_user user) call id st r)
decided_saves x clock head user call id st (refused code) v g o = tt
decided_saves x clock head user call id st (reads shown) v g o = tt
decided_saves x clock head user call id st no_operation v g o = tt
decided_saves x clock head user call id st (changes es n) v g o =
    let c : Change = record { id = id; caller = the_user user; call = call; before = st; edits = es; shown = n } in
    either_saves (OfCall x head user call) (has_room (durable_of x.lasting) (record_of x.lasting.boot head clock c)) (saves head c) _ (record { head' = refl; of_volume = v; found = g; result = o; caller = refl; called = refl }) tt

in_saves : (x : ServerState) (clock : ℕ) (head : Head) (user : List ℕ) (call : FsCall) (id : ℕ) (o : Option Stored) → volume_called call ≡ Some id → get id x.lasting.volumes ≡ o → IfSaves (OfCall x head user call) (in_volume x clock head (the_user user) call id o)
in_saves x clock head user call id None v g = tt
in_saves x clock head user call id (Some st) v g = decided_saves x clock head user call id st (op id (the_user user) call st.volume) v g refl

with_saves : (x : ServerState) (clock : ℕ) (head : Head) (user : List ℕ) (call : FsCall) (o : Option ℕ) → volume_called call ≡ o → IfSaves (OfCall x head user call) (with_volume x clock head (the_user user) call o)
with_saves x clock head user call None v = tt
with_saves x clock head user call (Some id) v = in_saves x clock head user call id (get id x.lasting.volumes) v refl

several_saves : (P : Head → Change → Type 0) (head : Head) (caller : Caller) (o : outcome.Result (List Sight) ℕ) → IfSaves P (several head caller o)
several_saves P head caller (Ok xs) = tt
several_saves P head caller (Err code) = tt

served_saves : (x : ServerState) (clock : ℕ) (head : Head) (user : List ℕ) (call : FsCall) → IfSaves (OfCall x head user call) (serves_call x clock head user call)
served_saves x clock head user (calls.GiveUpCallBacks fids callbacks) = tt
served_saves x clock head user calls.GetTime = tt
served_saves x clock head user (calls.BulkStatus fids) = several_saves _ head (the_user user) (sights x.lasting.volumes (the_user user) fids)
served_saves x clock head user call = with_saves x clock head user call (volume_called call) refl

chosen_by : (me : Node) (x : ServerState) (m : Message) (user : List ℕ) (call : FsCall) (j : ℕ) → m.head.to ≡ me → admitted x.lasting.boot x.seats m.head ≡ pairs.runs → m.head.from ≡ Client j → m.carried ≡ carried.Call user (ask.File call) → (h : Head) (c : Change) → OfCall x m.head user call h c → Chosen me x m h c
chosen_by me x m user call j to runs from is h c o = record { head' = o.head'; to = to; runs = runs; client = j; from = from; user = user; call = call; carries = is; of_volume = o.of_volume; found = o.found; result = o.result; caller = o.caller; called = o.called }

saves_over : (P Q : Head → Change → Type 0) → ((h : Head) (c : Change) → P h c → Q h c) → (d : Decision) → IfSaves P d → IfSaves Q d
saves_over P Q w drops h = tt
saves_over P Q w (tells_boot head) h = tt
saves_over P Q w (repeats reply) h = tt
saves_over P Q w (refuses head code) h = tt
saves_over P Q w (shows head r) h = tt
saves_over P Q w (saves head c) h = w head c h

-- a call of a client
from_saves : (me : Node) (x : ServerState) (clock : ℕ) (m : Message) (user : List ℕ) (call : FsCall) (from : Node) → m.head.from ≡ from → m.head.to ≡ me → admitted x.lasting.boot x.seats m.head ≡ pairs.runs → m.carried ≡ carried.Call user (ask.File call)
    → IfSaves (Chosen me x m) (cond (is_client from) (serves_call x clock m.head user call) (refuses m.head not_served))
from_saves me x clock m user call (Client j) from to runs is = saves_over (OfCall x m.head user call) (Chosen me x m) (chosen_by me x m user call j to runs from is) (serves_call x clock m.head user call) (served_saves x clock m.head user call)
from_saves me x clock m user call from e to runs is = tt

admits_saves : (me : Node) (x : ServerState) (clock : ℕ) (m : Message) (user : List ℕ) (call : FsCall) (o : Admitted Message) → m.head.to ≡ me → admitted x.lasting.boot x.seats m.head ≡ o → m.carried ≡ carried.Call user (ask.File call)
    → IfSaves (Chosen me x m) (admits x clock m.head (whole m.head (carried.Call user (ask.File call))) o)
admits_saves me x clock m user call pairs.runs to e is = from_saves me x clock m user call m.head.from refl to e is
admits_saves me x clock m user call (pairs.kept reply) to e is = tt
admits_saves me x clock m user call pairs.in_progress to e is = tt
admits_saves me x clock m user call pairs.older to e is = tt
admits_saves me x clock m user call (pairs.wrong_boot boot) to e is = tt

called_saves : (t : Bool) (me : Node) (x : ServerState) (clock : ℕ) (m : Message) (user : List ℕ) (call : FsCall) → same_node m.head.to me ≡ t → m.carried ≡ carried.Call user (ask.File call)
    → IfSaves (Chosen me x m) (cond t (admits x clock m.head (whole m.head (carried.Call user (ask.File call))) (admitted x.lasting.boot x.seats m.head)) drops)
called_saves true me x clock m user call e is = admits_saves me x clock m user call (admitted x.lasting.boot x.seats m.head) (same_node-true m.head.to me e) refl is
called_saves false me x clock m user call e is = tt

-- what is no file call saves nothing
refused_saves : (P : Head → Change → Type 0) (x : ServerState) (clock : ℕ) (head : Head) (r : Received) (o : Admitted Message) → runs_received x clock head r ≡ refuses head not_served → IfSaves P (admits x clock head r o)
refused_saves P x clock head r pairs.runs e = either_saves P (is_client head.from) (runs_received x clock head r) (refuses head not_served) (subst (IfSaves P) (sym e) tt) tt
refused_saves P x clock head r (pairs.kept reply) e = tt
refused_saves P x clock head r pairs.in_progress e = tt
refused_saves P x clock head r pairs.older e = tt
refused_saves P x clock head r (pairs.wrong_boot boot) e = tt

hears_saves : (me : Node) (x : ServerState) (clock : ℕ) (m : Message) (y : Carried) → m.carried ≡ y → IfSaves (Chosen me x m) (hears me x clock m.head y)
hears_saves me x clock m (carried.Call user (ask.File call)) is = called_saves (same_node m.head.to me) me x clock m user call refl is
hears_saves me x clock m (carried.Call user call) is = either_saves (Chosen me x m) (same_node m.head.to me) _ _ (refused_saves (Chosen me x m) x clock m.head (whole m.head (carried.Call user call)) (admitted x.lasting.boot x.seats m.head) refl) tt
hears_saves me x clock m (carried.Refusal code) is = tt
hears_saves me x clock m (carried.Reply reply) is = tt
hears_saves me x clock m carried.Notice is = tt

pub chosen : (me : Node) (x : ServerState) (clock : ℕ) (m : Message) → IfSaves (Chosen me x m) (decides me x clock (Whole m))
chosen me x clock m = hears_saves me x clock m m.carried refl

-- ---- the lines of a server, but for changes and versions

abbrev pub is_from : Node → Line → Bool
is_from me (lines.Given place) = true
is_from me (lines.Grant n c f index expiry) = same_node n me
is_from me (lines.Timeout n callee epoch number count) = same_node n me
is_from me (lines.Stop n calls pick) = same_node n me
is_from me (lines.Fail n call) = same_node n me
is_from me (lines.Crash n) = same_node n me
is_from me (lines.Fault n) = same_node n me
is_from me (lines.Restart n boot) = same_node n me
is_from me (lines.Full n) = same_node n me
is_from me (lines.Owe n c what k) = same_node n me
is_from me (lines.Settle n c k) = same_node n me
is_from me (lines.Quit n c k) = same_node n me
is_from me l = false

abbrev pub AreFrom : Node → List Line → Type 0
AreFrom me ls = all_lines (is_from me) ls ≡ true

pub one_from : (me : Node) (rest : Bool) → rest ≡ true → (same_node me me && rest) ≡ true
one_from me rest h = rw (same_node-refl me, h) refl

owes_from : (me : Node) (os : List OwedBreak) → AreFrom me (map (owe_line me) os)
owes_from me [] = refl
owes_from me (o ∷ os) = one_from me _ (owes_from me os)

settles_from : (me n : Node) (os : List OwedBreak) → AreFrom me (map (settle_line me n) os)
settles_from me n [] = refl
settles_from me n (o ∷ os) = one_from me _ (settles_from me n os)

quits_from : (me n : Node) (os : List OwedBreak) → AreFrom me (map (quit_line me n) os)
quits_from me n [] = refl
quits_from me n (o ∷ os) = one_from me _ (quits_from me n os)

pub granted_from : (me client : Node) (expiry : ℕ) (fs : List Found) (ls : List Line) → AreFrom me ls → AreFrom me (granted me client expiry fs ls)
granted_from me client expiry [] ls h = h
granted_from me client expiry (f ∷ fs) ls h = one_from me _ (granted_from me client expiry fs ls h)

either_from : (t : Bool) (me : Node) (a b : CallbackStep) → AreFrom me a.lines → AreFrom me b.lines → AreFrom me (cond t a b).lines
either_from true me a b h k = h
either_from false me a b h k = k

repeats_from : (me : Node) (b : Backs) (reply : Message) (o : Option Held) (good : Bool) → AreFrom me (repeats_by b reply o good).lines
repeats_from me b reply (Some w) good = either_from (w.again && is_ready b.lists.owed w) me _ _ refl refl
repeats_from me b reply None true = refl
repeats_from me b reply None false = refl

for_from : (me : Node) (x : ServerState) (clock : ℕ) (b : Backs) (d : Decision) → AreFrom me (turn_for me x clock b d).lines
for_from me x clock b drops = refl
for_from me x clock b (tells_boot head) = refl
for_from me x clock b (repeats reply) = repeats_from me b reply (held_under (key_answered reply) b.held) (is_seat_of reply (call_seat reply.head.to x.lasting.kept))
for_from me x clock b (refuses head code) = refl
for_from me x clock b (shows head r) = refl
for_from me x clock b (saves head c) = owes_from me (new_owes head.from (versions_made c) b.lists)

settled_from : (me : Node) (boot : ℕ) (head : Head) (b : Backs) (o : Option BackCall) → AreFrom me (settles_by me boot head b o).lines
settled_from me boot head b None = refl
settled_from me boot head b (Some c) = either_from (is_back_awaited boot c head) me _ _ (settles_from me head.from (still_owed c b)) refl

renewed_from : (me : Node) (boot : ℕ) (head : Head) (b : Backs) (o : Option BackCall) → AreFrom me (renews_by me boot head b o).lines
renewed_from me boot head b None = refl
renewed_from me boot head b (Some c) = either_from (is_back_awaited boot c head) me _ _ refl refl

carried_from : (me : Node) (x : ServerState) (clock : ℕ) (b : Backs) (d : Decision) (head : Head) (c : Carried) → AreFrom me (turned_by me x clock b d head c).lines
carried_from me x clock b d head (carried.Call user call) = for_from me x clock b d
carried_from me x clock b d head (carried.Refusal code) = either_from (same_node head.to me) me _ _ (settled_from me x.lasting.boot head b (b.calls head.from)) refl
carried_from me x clock b d head (carried.Reply reply) = either_from (same_node head.to me) me _ _ (settled_from me x.lasting.boot head b (b.calls head.from)) refl
carried_from me x clock b d head carried.Notice = either_from (same_node head.to me) me _ _ (renewed_from me x.lasting.boot head b (b.calls head.from)) refl

-- ---- what a step leaves of the volumes

-- all of them, or at a start those that don't go
abbrev pub AreLeft : Table Stored → Table Stored → Type 0
AreLeft a b = (id : ℕ) → ((v : Volume) → volume_in id a ≡ Some v → unflagged v ≡ true) → volume_in id b ≡ volume_in id a

same_left : (a : Table Stored) → AreLeft a a
same_left a id w = refl

then_left : (a b : Table Stored) → AreLeft a b → AreLeft a (filter is_unflagged b)
then_left a b h id w = let same : volume_in id b ≡ volume_in id a = h id w in found_started id b (λ v e. w v (sym same ∙ e)) ∙ same

pub record Still (me : Node) (a b : Table Stored) (ls : List Line) : Type 0 where
  pub left : AreLeft a b
  pub lines : AreFrom me ls

-- one change, under its key, with its versions, for a message; this is known of it and of the lines before and behind
pub record Saves (P : Message → List Line → List Line → Type 0) (me : Node) (x : ServerState) (b : Table Stored) (ls : List Line) : Type 0 where
  pub message : Message
  pub head : Head
  pub change : Change
  pub clock : ℕ
  pub chosen : Chosen me x message head change
  pub front : List Line
  pub rest : List Line
  pub split : ls ≡ front ++ (lines.Change me (key_of head) (length (versions_made change)) ∷ versioned (versions_made change) rest)
  pub before : AreFrom me front
  pub behind : AreFrom me rest
  pub left : AreLeft (set change.id (stored_by clock change) x.lasting.volumes) b
  pub given : P message front rest

abbrev pub Works : (Message → List Line → List Line → Type 0) → Node → ServerState → Table Stored → List Line → Type 0
Works P me x b ls = Still me x.lasting.volumes b ls ⊎ Saves P me x b ls

does_works : (P : Message → List Line → List Line → Type 0) (me : Node) (x : ServerState) (clock place : ℕ) (m : Message) (d : Decision) (ls : List Line) → ((rest : List Line) → P m (lines.Given place ∷ []) rest) → IfSaves (Chosen me x m) d → AreFrom me ls → Works P me x (does me x clock place d []).state.lasting.volumes (does me x clock place d ls).lines
does_works P me x clock place m drops ls p c h = inl (record { left = same_left _; lines = h })
does_works P me x clock place m (tells_boot head) ls p c h = inl (record { left = same_left _; lines = h })
does_works P me x clock place m (repeats reply) ls p c h = inl (record { left = same_left _; lines = h })
does_works P me x clock place m (refuses head code) ls p c h = inl (record { left = same_left _; lines = h })
does_works P me x clock place m (shows head r) ls p c h = inl (record { left = same_left _; lines = granted_from me head.from (clock + promise_ticks) r.granted ls h })
does_works P me x clock place m (saves head ch) ls p c h = inr (record {
  message = m;
  head = head;
  change = ch;
  clock = clock;
  chosen = c;
  front = lines.Given place ∷ [];
  rest = granted me head.from (clock + promise_ticks) (granted_in ch) ls;
  split = refl;
  before = refl;
  behind = granted_from me head.from (clock + promise_ticks) (granted_in ch) ls h;
  left = same_left _;
  given = p (granted me head.from (clock + promise_ticks) (granted_in ch) ls);
})

pub serves_works : (P : Message → List Line → List Line → Type 0) (me : Node) (x : ServerState) (clock place : ℕ) (m : Message) → ((rest : List Line) → P m (lines.Given place ∷ []) rest) → Works P me x (server_row me x clock place (Whole m)).state.lasting.volumes (server_row me x clock place (Whole m)).lines
unfolding server_row
serves_works P me x clock place m p =
    let d : Decision = decides me x clock (Whole m) in
    does_works P me x clock place m d (turned_in me x clock (expired clock x.backs) d (Whole m)).lines p (chosen me x clock m) (carried_from me x clock (expired clock x.backs) d m.head m.carried)

pub times_works : (P : Message → List Line → List Line → Type 0) (me : Node) (x : ServerState) (clock : ℕ) (n : Node) (c : BackCall) → Works P me x (back_timeout_row me x clock n c).state.lasting.volumes (back_timeout_row me x clock n c).lines
unfolding back_timeout_row
times_works P me x clock n c = inl (record { left = same_left _; lines = either_from (nat_lt c.tries 2) me _ _ (one_from me true refl) (one_from me _ (quits_from me n (still_owed c (expired clock x.backs)))) })

pub wakes_works : (P : Message → List Line → List Line → Type 0) (me : Node) (x : ServerState) (clock : ℕ) → Works P me x (wake_row me x clock).state.lasting.volumes (wake_row me x clock).lines
unfolding wake_row
wakes_works P me x clock = inl (record { left = same_left _; lines = refl })

after_works : (P : Message → List Line → List Line → Type 0) (me : Node) (x : ServerState) (clock : ℕ) (m : Message) (d : Decision) (ls : List Line) → P m [] ls → IfSaves (Chosen me x m) d → AreFrom me ls → Works P me x (begun_after me x clock d).state.lasting.volumes ((begun_after me x clock d).before ls)
after_works P me x clock m (saves head ch) ls p c h = inr (record { message = m; head = head; change = ch; clock = clock; chosen = c; front = []; rest = ls; split = refl; before = refl; behind = h; left = same_left _; given = p })
after_works P me x clock m d ls p c h = inl (record { left = same_left _; lines = h })

-- of an interrupted step's message
abbrev pub IfCut : (Message → Type 0) → Fall → Type 0
IfCut P (in_step m clock hit) = P m
IfCut P fall = ⊤

pub disk_works : (P : Message → List Line → List Line → Type 0) (me : Node) (x : ServerState) (after : Bool) (fall : Fall) (ls : List Line) → IfCut (λ m. P m [] ls) fall → AreFrom me ls → Works P me x (begun_by_disk me x after fall).state.lasting.volumes ((begun_by_disk me x after fall).before ls)
disk_works P me x after at_rest ls p h = inl (record { left = same_left _; lines = h })
disk_works P me x false (in_step m clock hit) ls p h = inl (record { left = same_left _; lines = h })
disk_works P me x true (in_step m clock hit) ls p h = after_works P me x clock m (decides me x clock (Whole m)) ls p (chosen me x clock m) h
disk_works P me x false in_boot ls p h = inl (record { left = same_left _; lines = h })
disk_works P me x true in_boot ls p h = inl (record { left = then_left x.lasting.volumes x.lasting.volumes (same_left x.lasting.volumes); lines = h })

started_still : (me : Node) (a b : Table Stored) (ls : List Line) → Still me a b ls → Still me a (filter is_unflagged b) ls
started_still me a b ls h = record { left = then_left a b h.left; lines = h.lines }

started_saves : (P : Message → List Line → List Line → Type 0) (me : Node) (x : ServerState) (b : Table Stored) (ls : List Line) → Saves P me x b ls → Saves P me x (filter is_unflagged b) ls
started_saves P me x b ls h = record { message = h.message; head = h.head; change = h.change; clock = h.clock; chosen = h.chosen; front = h.front; rest = h.rest; split = h.split; before = h.before; behind = h.behind; left = then_left _ b h.left; given = h.given }

started_works : (P : Message → List Line → List Line → Type 0) (me : Node) (x : ServerState) (b : Table Stored) (ls : List Line) → Works P me x b ls → Works P me x (filter is_unflagged b) ls
started_works P me x b ls (inl h) = inl (started_still me x.lasting.volumes b ls h)
started_works P me x b ls (inr h) = inr (started_saves P me x b ls h)

-- the lines of a start
abbrev pub risen_lines : Node → ℕ → ℕ → Begun ServerState → List Line
risen_lines me clock count f = lines.Restart me (f.state.lasting.boot + 1) ∷ (risen_turn me clock count).lines

pub risen_from : (me : Node) (clock count : ℕ) (f : Begun ServerState) → AreFrom me (risen_lines me clock count f)
risen_from me clock count f = one_from me _ (owes_from me (risen_turn me clock count).backs.lists.owed)

pub starts_works : (P : Message → List Line → List Line → Type 0) (me : Node) (x : ServerState) (clock count : ℕ) (f : Begun ServerState) → Works P me x f.state.lasting.volumes (f.before (risen_lines me clock count f)) → Works P me x (start_row me clock count f).state.lasting.volumes (start_row me clock count f).lines
unfolding start_row
starts_works P me x clock count f w = started_works P me x f.state.lasting.volumes (f.before (risen_lines me clock count f)) w

-- What the steps of a server do to the keys that it keeps: a key runs above its caller's last one that changed something, and
-- what the server sends is no call of a client.
use Rattle.law_legal.specs.Past.{answered_key, given_message}
use Rattle.law_legal.specs.Laws.{seat_key, HasReply}
use Rattle.law_legal.proofs.OwedPasses.{all_lines, is_unchanging}
use Rattle.law_legal.proofs.BaseLaws.{Above, Each, OfClient, above_up, at_seat, below_not, below_up_to, each_more, runs_above, same_node-true, some_of, up_to_same, of_client}
use Rattle.law_legal.proofs.ClientCalls.{AreReplies, IsAnswer, IsCallOf, kept_answer, one_more_reply, placed}
use Rattle.law_legal.proofs.ServerDiskKeeps.{at_placed}
use Rattle.law_legal.proofs.OwedWaits.{each_both, each_filter}
use Rattle.spec_breaks.specs.declared.types.OwedBreak.{OwedBreak}
use Rattle.spec_ideal.specs.Operations.{Caller, Found, Result, refused, reads, changes, no_operation, op, the_user, volume_called}
use Rattle.spec_ideal.specs.Tables.{get}
use Rattle.spec_records.specs.Durable.{Stored, has_room}
use Rattle.spec_rows.specs.Callbacks.{Started, CallbackStep, expired, held_under, is_back_awaited, is_ready, is_seat_of, key_answered, new_owes, no_turn, owe_line, pumped, quit_line, renews_by, repeats_by, replies_of, risen_turn, settle_line, settles_by, starts, starts_by, still_owed, call_timed_out, turn_for, turned_by, turned_in}
use Rattle.spec_rows.specs.ServerRow.{Change, Decision, admits, begun_after, change_reply_to, carried_by, decided, decides, does, drops, granted, hears, in_volume, versions_made, not_served, promise_ticks, refuses, repeats, revived, saves, seat_for, seat_placed, serves_call, several, shows, sights, tells_boot, record_of, versioned, whole, with_volume, is_client, Sight, no_room, replied, refusal, read_reply_to, granted_in, reply_head, boot_told}
use Rattle.spec_rows.specs.ServerSteps.{back_timeout_row, server_row, start_row, wake_row}
use Rattle.spec_rows.specs.States.{BackCall, Backs, Held, Seat, ServerState, durable_of}
use Rattle.spec_rows.specs.Steps.{Step, Begun, begun_before}
use Rattle.spec_rows.specs.Runs.{Fall, at_rest, begun_by_disk, in_boot, in_step, message_at}
use Rattle.spec_model.specs.Calls as pairs
use Rattle.spec_model.specs.Calls.{Admitted, admitted, call_seat, call_seated, paired, key_of}
use Rattle.std.proofs.Common.{◌≡◌, ℕ, ℤ, ◌+◌, Bool, true, false, cond, List, [], ◌∷◌, ◌++◌, map, Option, Some, None, refl, sym, subst, nat_eq, ◌⊎◌, inl, inr}
use Rattle.std.specs.Prelude as outcome
use Rattle.std.specs.Prelude.{⊤, ◌&&◌, not, nat_lt, Ok, Err}
use Rattle.afs_num.specs.Nodes.{same_node}
use Rattle.afs_num.specs.declared.types.Head.{Head}
use Rattle.afs_num.specs.declared.types.Key.{Key}
use Rattle.afs_num.specs.declared.types.Node.{Node}
use Rattle.afs_num.specs.declared.types.Node.TheVariants.{Client, Loc, Server}
use Rattle.afs_num.specs.declared.calls.FsCall.{FsCall}
use Rattle.afs_num.specs.declared.calls.FsReply.{FsReply}
use Rattle.afs_num.specs.declared.histories.Version.{Version}
use Rattle.afs_num.specs.declared.messages.Carried.{Carried}
use Rattle.afs_num.specs.declared.messages.Message.{Message}
use Rattle.afs_num.specs.declared.messages.Received.TheVariants.{Whole}
use Rattle.afs_num.specs.declared.calls.FsCall.TheVariants as calls
use Rattle.afs_num.specs.declared.messages.Call.TheVariants as ask
use Rattle.afs_num.specs.declared.messages.Carried.TheVariants as carried
use Rattle.spec_history.specs.declared.lines.Line.{Line}
use Rattle.spec_history.specs.declared.lines.Line.TheVariants as lines

-- ---- what is decided

-- the reply that is repeated is no call; what runs came under this header, and its key is above its caller's seat
abbrev IsAbove : ServerState → Head → Type 0
IsAbove x head = Above (call_seat head.from x.seats) head.epoch head.number

-- and it is known, where its caller is a client
abbrev IsAsked : (Head → Type 0) → ServerState → Head → Type 0
IsAsked K x head = OfClient head.from (K (reply_head x.lasting.boot head)) × IsAbove x head

-- a key of a call to this server
abbrev pub IsRunBy : (Head → Type 0) → Node → Key → Type 0
IsRunBy K me k = (r : Head) × ((r.from ≡ me) × ((answered_key r ≡ k) × K r))

abbrev pub IsDue : (Head → Type 0) → (Head → Type 0) → Node → ServerState → Decision → Type 0
IsDue K L me x drops = ⊤
IsDue K L me x (tells_boot head) = L (boot_told x.lasting.boot head).head
IsDue K L me x (repeats reply) = IsAnswer K L reply
IsDue K L me x (refuses head code) = IsAsked K x head
IsDue K L me x (shows head r) = IsAsked K x head
IsDue K L me x (saves head c) = IsRunBy K me (key_of head) × IsAsked K x head

-- what runs came under this header
abbrev pub HasHead : Head → Decision → Type 0
HasHead head (saves h c) = h ≡ head
HasHead head (refuses h code) = h ≡ head
HasHead head (shows h r) = h ≡ head
HasHead head (repeats reply) = ⊥
HasHead head d = ⊥

headed_by : (t : Bool) (head : Head) (d : Decision) (code : ℤ) → HasHead head d → HasHead head (cond t d (refuses head code))
headed_by true head d code h = h
headed_by false head d code h = refl

decided_head : (s : ServerState) (clock : ℕ) (head : Head) (caller : Caller) (call : FsCall) (id : ℕ) (st : Stored) (r : Result) → HasHead head (decided s clock head caller call id st r)
decided_head s clock head caller call id st (refused code) = refl
decided_head s clock head caller call id st (reads shown) = refl
decided_head s clock head caller call id st no_operation = refl
decided_head s clock head caller call id st (changes es n) =
    let c : Change = record { id = id; caller = caller; call = call; before = st; edits = es; shown = n } in
    headed_by (has_room (durable_of s.lasting) (record_of s.lasting.boot head clock c)) head (saves head c) no_room refl

in_head : (s : ServerState) (clock : ℕ) (head : Head) (caller : Caller) (call : FsCall) (id : ℕ) (o : Option Stored) → HasHead head (in_volume s clock head caller call id o)
in_head s clock head caller call id None = refl
in_head s clock head caller call id (Some st) = decided_head s clock head caller call id st (op id caller call st.volume)

with_head : (s : ServerState) (clock : ℕ) (head : Head) (caller : Caller) (call : FsCall) (o : Option ℕ) → HasHead head (with_volume s clock head caller call o)
with_head s clock head caller call None = refl
with_head s clock head caller call (Some id) = in_head s clock head caller call id (get id s.lasting.volumes)

several_head : (head : Head) (caller : Caller) (o : outcome.Result (List Sight) ℕ) → HasHead head (several head caller o)
several_head head caller (Ok xs) = refl
several_head head caller (Err code) = refl

pub served_head : (s : ServerState) (clock : ℕ) (head : Head) (user : List ℕ) (call : FsCall) → HasHead head (serves_call s clock head user call)
served_head s clock head user (calls.GiveUpCallBacks fids callbacks) = refl
served_head s clock head user calls.GetTime = refl
served_head s clock head user (calls.BulkStatus fids) = several_head head (the_user user) (sights s.lasting.volumes (the_user user) fids)
served_head s clock head user call = with_head s clock head (the_user user) call (volume_called call)

due_by : (K : Head → Type 0) (L : Head → Type 0) (me : Node) (x : ServerState) (head : Head) (d : Decision) → HasHead head d → IsRunBy K me (key_of head) → IsAsked K x head → IsDue K L me x d
due_by K L me x head drops h k a = absurd h
due_by K L me x head (tells_boot other) h k a = absurd h
due_by K L me x head (repeats reply) h k a = absurd h
due_by K L me x head (refuses other code) h k a = subst (IsAsked K x) (sym h) a
due_by K L me x head (shows other r) h k a = subst (IsAsked K x) (sym h) a
due_by K L me x head (saves other c) h k a = subst (λ (y : Head). IsRunBy K me (key_of y) × IsAsked K x y) (sym h) (k, a)

-- a call of a client
runs_due : (K : Head → Type 0) (L : Head → Type 0) (me : Node) (x : ServerState) (clock : ℕ) (head : Head) (user : List ℕ) (call : FsCall) (from : Node) → OfClient from (IsRunBy K me (key_of head)) → IsAsked K x head
    → IsDue K L me x (cond (is_client from) (serves_call x clock head user call) (refuses head not_served))
runs_due K L me x clock head user call (Client n) k a = due_by K L me x head (serves_call x clock head user call) (served_head x clock head user call) k a
runs_due K L me x clock head user call from k a = a

admitted_above : (t : Bool) (x : ServerState) (head : Head) → cond t (paired head.epoch head.number (call_seat head.from x.seats)) (pairs.wrong_boot x.lasting.boot) ≡ pairs.runs → IsAbove x head
admitted_above true x head e = runs_above head.epoch head.number (call_seat head.from x.seats) e
admitted_above false x head e = absurd cc

admits_due : (K : Head → Type 0) (L : Head → Type 0) (me : Node) (x : ServerState) (clock : ℕ) (head : Head) (user : List ℕ) (call : FsCall) (o : Admitted Message) → head.to ≡ me → AreReplies K L x.seats → OfClient head.from (admitted x.lasting.boot x.seats head ≡ pairs.runs → K (reply_head x.lasting.boot head)) → (head.to ≡ me → L (boot_told x.lasting.boot head).head) → admitted x.lasting.boot x.seats head ≡ o
    → IsDue K L me x (admits x clock head (whole head (carried.Call user (ask.File call))) o)
admits_due K L me x clock head user call pairs.runs to r k told e =
    let own : OfClient head.from (K (reply_head x.lasting.boot head)) = of_client head.from (admitted x.lasting.boot x.seats head ≡ pairs.runs → K (reply_head x.lasting.boot head)) (K (reply_head x.lasting.boot head)) (λ f. f e) k in
    runs_due K L me x clock head user call head.from (of_client head.from (K (reply_head x.lasting.boot head)) (IsRunBy K me (key_of head)) (λ f. (reply_head x.lasting.boot head, (to, (refl, f)))) own) (own, admitted_above (nat_eq head.boot x.lasting.boot) x head e)
admits_due K L me x clock head user call (pairs.kept reply) to r k told e = kept_answer K L x.lasting.boot x.seats head reply r e
admits_due K L me x clock head user call pairs.in_progress to r k told e = tt
admits_due K L me x clock head user call pairs.older to r k told e = tt
admits_due K L me x clock head user call (pairs.wrong_boot boot) to r k told e = told to

called_due : (t : Bool) (K : Head → Type 0) (L : Head → Type 0) (me : Node) (x : ServerState) (clock : ℕ) (head : Head) (user : List ℕ) (call : FsCall) → same_node head.to me ≡ t → AreReplies K L x.seats → OfClient head.from (admitted x.lasting.boot x.seats head ≡ pairs.runs → K (reply_head x.lasting.boot head)) → (head.to ≡ me → L (boot_told x.lasting.boot head).head)
    → IsDue K L me x (cond t (admits x clock head (whole head (carried.Call user (ask.File call))) (admitted x.lasting.boot x.seats head)) drops)
called_due true K L me x clock head user call e r k told = admits_due K L me x clock head user call (admitted x.lasting.boot x.seats head) (same_node-true head.to me e) r k told refl
called_due false K L me x clock head user call e r k told = tt

not_due : (t : Bool) (K L : Head → Type 0) (me : Node) (x : ServerState) (d : Decision) → t ≡ false → IsDue K L me x (cond t d drops)
not_due true K L me x d e = absurd cc
not_due false K L me x d e = tt

hears_due : (K : Head → Type 0) (L : Head → Type 0) (me : Node) (x : ServerState) (clock : ℕ) (head : Head) (c : Carried) → same_node Loc me ≡ false → AreReplies K L x.seats → IsCallOf K x.lasting.boot x.seats head c → (head.to ≡ me → L (boot_told x.lasting.boot head).head) → IsDue K L me x (hears me x clock head c)
hears_due K L me x clock head (carried.Call user (ask.File call)) ne r k told = called_due (same_node head.to me) K L me x clock head user call refl r k told
hears_due K L me x clock head (carried.Call user (ask.Volume call)) ne r k told = absurd k
hears_due K L me x clock head (carried.Call user (ask.Location call)) ne r k told = not_due (same_node head.to me) K L me x _ (subst (λ (q : Node). same_node q me ≡ false) (sym k.0) ne)
hears_due K L me x clock head (carried.Refusal code) ne r k told = tt
hears_due K L me x clock head (carried.Reply reply) ne r k told = tt
hears_due K L me x clock head carried.Notice ne r k told = tt

pub decides_due : (K : Head → Type 0) (L : Head → Type 0) (me : Node) (x : ServerState) (clock : ℕ) (m : Message) → same_node Loc me ≡ false → AreReplies K L x.seats → IsCallOf K x.lasting.boot x.seats m.head m.carried → (m.head.to ≡ me → L (boot_told x.lasting.boot m.head).head) → IsDue K L me x (decides me x clock (Whole m))
decides_due K L me x clock m ne r k told = hears_due K L me x clock m.head m.carried ne r k told

-- ---- what it keeps

-- its callers in memory, and those on its disk
pub record Memory : Type 0 where
  pub seats : List Seat
  pub kept : List Seat

abbrev pub memory_of : ServerState → Memory
memory_of s = record { seats = s.seats; kept = s.lasting.kept }

-- each reply that it keeps is an answer, and its callers' keys in memory are at least those on its disk
pub record IsSound (K : Head → Type 0) (L : Head → Type 0) (x : Memory) : Type 0 where
  pub seats : AreReplies K L x.seats
  pub kept : AreReplies K L x.kept
  pub lower : (n : Node) (e k : ℕ) → Above (call_seat n x.seats) e k → Above (call_seat n x.kept) e k

-- one change, under this key and by this server, or none
abbrev pub HasOne : Node → Option Key → List Line → Type 0
HasOne me o [] = o ≡ None
HasOne me o (lines.Change q k count ∷ ls) = (q ≡ me) × ((o ≡ Some k) × (all_lines is_unchanging ls ≡ true))
HasOne me o (l ∷ ls) = HasOne me o ls

has_none : (me : Node) (ls : List Line) → all_lines is_unchanging ls ≡ true → HasOne me None ls
has_none me [] h = refl
has_none me (lines.Change q k count ∷ ls) h = absurd cc
has_none me (l ∷ ls) h = has_none me ls h

-- what its lines and its keys are after a step: the key that ran was known and new, and is kept
pub record Hosts (K : Head → Type 0) (L : Head → Type 0) (me : Node) (x y : Memory) (ls : List Line) : Type 0 where
  pub changed : Option Key
  pub one : HasOne me changed ls
  pub known : (k : Key) → changed ≡ Some k → IsRunBy K me k
  pub new : (k : Key) → changed ≡ Some k → Above (call_seat k.node x.kept) k.epoch k.number
  pub ran : (k : Key) → changed ≡ Some k → Above (call_seat k.node y.kept) k.epoch k.number → ⊥
  pub grows : (n : Node) (e k : ℕ) → Above (call_seat n y.kept) e k → Above (call_seat n x.kept) e k
  pub stored : (n : Node) (seat : Seat) → call_seat n y.kept ≡ Some seat → (call_seat n x.kept ≡ Some seat) ⊎ ((changed ≡ Some (seat_key n seat)) × HasReply n seat)
  pub sound : IsSound K L y

still_hosts : (K : Head → Type 0) (L : Head → Type 0) (me : Node) (x : Memory) (ls : List Line) → IsSound K L x → all_lines is_unchanging ls ≡ true → Hosts K L me x x ls
still_hosts K L me x ls s h = record { changed = None; one = has_none me ls h; known = λ k e. absurd cc; new = λ k e. absurd cc; ran = λ k e a. absurd cc; grows = λ n e k a. a; stored = λ n seat e. inl e; sound = s }

-- ---- a caller's seat is taken

lower_by : (K : Head → Type 0) (L : Head → Type 0) (x : Memory) (s : Seat) (n : Node) (e k : ℕ) → IsSound K L x → Above (call_seat s.caller x.seats) s.epoch s.number → s.caller ≡ n → Above (Some s) e k → Above (call_seat n x.kept) e k
lower_by K L x s n e k h a own b = above_up (call_seat n x.kept) s.epoch s.number e k (h.lower n s.epoch s.number (subst (λ (m : Node). Above (call_seat m x.seats) s.epoch s.number) own a)) (below_up_to s.epoch s.number e k b)

seated_sound : (K : Head → Type 0) (L : Head → Type 0) (x : Memory) (s : Seat) → IsSound K L x → ((m : Message) → s.reply ≡ Some m → IsAnswer K L m) → Above (call_seat s.caller x.seats) s.epoch s.number → IsSound K L (record { seats = call_seated s x.seats; kept = x.kept })
seated_sound K L x s h r a = record {
  seats = one_more_reply K L s x.seats r h.seats;
  kept = h.kept;
  lower = λ n e k. at_seat s n x.seats (λ (o : Option Seat). Above o e k → Above (call_seat n x.kept) e k) (λ own b. lower_by K L x s n e k h a own b) (λ other b. h.lower n e k b);
}

seated_hosts : (K : Head → Type 0) (L : Head → Type 0) (me : Node) (x : Memory) (s : Seat) (ls : List Line) → IsSound K L x → ((m : Message) → s.reply ≡ Some m → IsAnswer K L m) → Above (call_seat s.caller x.seats) s.epoch s.number → all_lines is_unchanging ls ≡ true
    → Hosts K L me x (record { seats = call_seated s x.seats; kept = x.kept }) ls
seated_hosts K L me x s ls h r a p = record { changed = None; one = has_none me ls p; known = λ k e. absurd cc; new = λ k e. absurd cc; ran = λ k e b. absurd cc; grows = λ n e k b. b; stored = λ n seat e. inl e; sound = seated_sound K L x s h r a }

-- on the disk too
placed_sound : (K : Head → Type 0) (L : Head → Type 0) (x : Memory) (s : Seat) → IsSound K L x → ((m : Message) → s.reply ≡ Some m → IsAnswer K L m) → Above (call_seat s.caller x.seats) s.epoch s.number → IsSound K L (record { seats = call_seated s x.seats; kept = seat_placed s x.kept })
placed_sound K L x s h r a = record {
  seats = one_more_reply K L s x.seats r h.seats;
  kept = λ n. at_placed s n x.kept (λ (o : Option Seat). (seat : Seat) (m : Message) → o ≡ Some seat → seat.reply ≡ Some m → IsAnswer K L m)
      (λ own seat m e q. r m (subst (λ (y : Seat). y.reply ≡ Some m) (sym (some_of s seat e)) q)) (λ other seat m e q. h.kept n seat m e q);
  lower = λ n e k. at_seat s n x.seats (λ (o : Option Seat). Above o e k → Above (call_seat n (seat_placed s x.kept)) e k)
      (λ own b. at_placed s n x.kept (λ (o : Option Seat). Above o e k) (λ same. b) (λ other. absurd (other own)))
      (λ other b. at_placed s n x.kept (λ (o : Option Seat). Above o e k) (λ same. absurd (other same)) (λ no. h.lower n e k b));
}

abbrev key_in : Seat → Key
key_in s = record { node = s.caller; epoch = s.epoch; number = s.number }

placed_hosts : (K : Head → Type 0) (L : Head → Type 0) (me : Node) (x : Memory) (s : Seat) (ls : List Line) → IsSound K L x → ((m : Message) → s.reply ≡ Some m → IsAnswer K L m) → Above (call_seat s.caller x.seats) s.epoch s.number → IsRunBy K me (key_in s) → HasReply s.caller s → HasOne me (Some (key_in s)) ls
    → Hosts K L me x (record { seats = call_seated s x.seats; kept = seat_placed s x.kept }) ls
placed_hosts K L me x s ls h r a known told p = record {
  changed = Some (key_in s);
  one = p;
  known = λ k e. subst (IsRunBy K me) (some_of (key_in s) k e) known;
  new = λ k e. subst (λ (l : Key). Above (call_seat l.node x.kept) l.epoch l.number) (some_of (key_in s) k e) (h.lower s.caller s.epoch s.number a);
  ran = λ k e. subst (λ (l : Key). Above (call_seat l.node (seat_placed s x.kept)) l.epoch l.number → ⊥) (some_of (key_in s) k e)
      (at_placed s s.caller x.kept (λ (o : Option Seat). Above o s.epoch s.number → ⊥) (λ own b. below_not s.epoch s.number s.epoch s.number b (up_to_same s.epoch s.number s.epoch s.number refl refl)) (λ other. absurd (other refl)));
  grows = λ n e k. at_placed s n x.kept (λ (o : Option Seat). Above o e k → Above (call_seat n x.kept) e k) (λ own b. lower_by K L x s n e k h a own b) (λ other b. b);
  stored = λ n seat. at_placed s n x.kept (λ (o : Option Seat). o ≡ Some seat → (call_seat n x.kept ≡ Some seat) ⊎ ((Some (key_in s) ≡ Some (seat_key n seat)) × HasReply n seat))
      (λ own e. let one : s ≡ seat = some_of s seat e in inr (subst (λ (q : Seat). (Some (key_in s) ≡ Some (seat_key n q)) × HasReply n q) one (subst (λ (m : Node). (Some (key_in s) ≡ Some (seat_key m s)) × HasReply m s) own (refl, told)))) (λ other e. inl e);
  sound = placed_sound K L x s h r a;
}

-- ---- what is decided is done

granted_plain : (me client : Node) (expiry : ℕ) (fs : List Found) (ls : List Line) → all_lines is_unchanging ls ≡ true → all_lines is_unchanging (granted me client expiry fs ls) ≡ true
granted_plain me client expiry [] ls h = h
granted_plain me client expiry (f ∷ fs) ls h = granted_plain me client expiry fs ls h

versioned_plain : (vs : List Version) (ls : List Line) → all_lines is_unchanging ls ≡ true → all_lines is_unchanging (versioned vs ls) ≡ true
versioned_plain [] ls h = h
versioned_plain (v ∷ vs) ls h = versioned_plain vs ls h

one_reply : (K : Head → Type 0) (L : Head → Type 0) (head : Head) (r m : Message) → IsAnswer K L r → (seat_for head r).reply ≡ Some m → IsAnswer K L m
one_reply K L head r m h e = subst (IsAnswer K L) (some_of r m e) h

carried_answer : (K : Head → Type 0) (L : Head → Type 0) (boot : ℕ) (head : Head) (expiry : ℕ) (o : Option FsReply) → OfClient head.from (K (reply_head boot head)) → IsAnswer K L (replied boot head (carried_by expiry o))
carried_answer K L boot head expiry None k = (tt, (k, tt))
carried_answer K L boot head expiry (Some reply) k = (tt, (k, tt))

change_answer : (K : Head → Type 0) (L : Head → Type 0) (boot : ℕ) (head : Head) (clock : ℕ) (c : Change) → OfClient head.from (K (reply_head boot head)) → IsAnswer K L (change_reply_to boot head clock c)
change_answer K L boot head clock c k = carried_answer K L boot head (clock + promise_ticks) _ k

does_hosts : (K : Head → Type 0) (L : Head → Type 0) (me : Node) (x : ServerState) (clock place : ℕ) (d : Decision) (ls : List Line) → IsSound K L (memory_of x) → IsDue K L me x d → all_lines is_unchanging ls ≡ true
    → Hosts K L me (memory_of x) (memory_of (does me x clock place d []).state) (does me x clock place d ls).lines
does_hosts K L me x clock place drops ls s d p = still_hosts K L me (memory_of x) _ s p
does_hosts K L me x clock place (tells_boot head) ls s d p = still_hosts K L me (memory_of x) _ s p
does_hosts K L me x clock place (repeats reply) ls s d p = still_hosts K L me (memory_of x) _ s p
does_hosts K L me x clock place (refuses head code) ls s d p = let r : Message = refusal x.lasting.boot head code in seated_hosts K L me (memory_of x) (seat_for head r) (lines.Given place ∷ ls) s (λ m e. one_reply K L head r m (tt, (d.0, tt)) e) d.1 p
does_hosts K L me x clock place (shows head g) ls s d p =
    let r : Message = read_reply_to x.lasting.boot head (clock + promise_ticks) g in
    seated_hosts K L me (memory_of x) (seat_for head r) (lines.Given place ∷ granted me head.from (clock + promise_ticks) g.granted ls) s (λ m e. one_reply K L head r m (tt, (d.0, tt)) e) d.1 (granted_plain me head.from (clock + promise_ticks) g.granted ls p)
does_hosts K L me x clock place (saves head c) ls s d p =
    let r : Message = change_reply_to x.lasting.boot head clock c in
    placed_hosts K L me (memory_of x) (seat_for head r) _ s (λ m e. one_reply K L head r m (change_answer K L x.lasting.boot head clock c d.1.0) e) d.1.1 d.0 (r, (refl, refl))
    (refl, (refl, versioned_plain (versions_made c) _ (granted_plain me head.from (clock + promise_ticks) (granted_in c) ls p)))

-- ---- what it sends, and holds to be sent

pub record Turned (K : Head → Type 0) (L : Head → Type 0) (t : CallbackStep) : Type 0 where
  pub sent : Each (IsAnswer K L) t.sent
  pub outs : Each (IsAnswer K L) (replies_of t.outs)
  pub held : Each (IsAnswer K L) (replies_of t.backs.held)
  pub lines : all_lines is_unchanging t.lines ≡ true
  pub ungiven : (sent : List Message) → given_message t.lines sent ≡ None

none_turned : (K : Head → Type 0) (L : Head → Type 0) (b : Backs) → Each (IsAnswer K L) (replies_of b.held) → Turned K L (no_turn b)
none_turned K L b h = record { sent = tt; outs = tt; held = h; lines = refl; ungiven = λ sent. refl }

either_turned : (K : Head → Type 0) (L : Head → Type 0) (t : Bool) (a b : CallbackStep) → Turned K L a → Turned K L b → Turned K L (cond t a b)
either_turned K L true a b h k = h
either_turned K L false a b h k = k

repeats_turned : (K : Head → Type 0) (L : Head → Type 0) (b : Backs) (reply : Message) (o : Option Held) (good : Bool) → IsAnswer K L reply → Each (IsAnswer K L) (replies_of b.held) → Turned K L (repeats_by b reply o good)
repeats_turned K L b reply (Some w) good r h = either_turned K L (w.again && is_ready b.lists.owed w) _ _ (record { sent = tt; outs = (r, tt); held = h; lines = refl; ungiven = λ sent. refl }) (none_turned K L b h)
repeats_turned K L b reply None true r h = record { sent = tt; outs = (r, tt); held = h; lines = refl; ungiven = λ sent. refl }
repeats_turned K L b reply None false r h = record { sent = tt; outs = (r, tt); held = h; lines = refl; ungiven = λ sent. refl }

owes_plain : (me : Node) (os : List OwedBreak) → all_lines is_unchanging (map (owe_line me) os) ≡ true
owes_plain me [] = refl
owes_plain me (o ∷ os) = owes_plain me os

settles_plain : (me n : Node) (os : List OwedBreak) → all_lines is_unchanging (map (settle_line me n) os) ≡ true
settles_plain me n [] = refl
settles_plain me n (o ∷ os) = settles_plain me n os

quits_plain : (me n : Node) (os : List OwedBreak) → all_lines is_unchanging (map (quit_line me n) os) ≡ true
quits_plain me n [] = refl
quits_plain me n (o ∷ os) = quits_plain me n os

owes_ungiven : (me : Node) (os : List OwedBreak) (sent : List Message) → given_message (map (owe_line me) os) sent ≡ None
owes_ungiven me [] sent = refl
owes_ungiven me (o ∷ os) sent = owes_ungiven me os sent

settles_ungiven : (me n : Node) (os : List OwedBreak) (sent : List Message) → given_message (map (settle_line me n) os) sent ≡ None
settles_ungiven me n [] sent = refl
settles_ungiven me n (o ∷ os) sent = settles_ungiven me n os sent

quits_ungiven : (me n : Node) (os : List OwedBreak) (sent : List Message) → given_message (map (quit_line me n) os) sent ≡ None
quits_ungiven me n [] sent = refl
quits_ungiven me n (o ∷ os) sent = quits_ungiven me n os sent

for_turned : (K : Head → Type 0) (L : Head → Type 0) (me : Node) (x : ServerState) (clock : ℕ) (b : Backs) (d : Decision) → IsDue K L me x d → Each (IsAnswer K L) (replies_of b.held) → Turned K L (turn_for me x clock b d)
for_turned K L me x clock b drops d h = none_turned K L b h
for_turned K L me x clock b (tells_boot head) d h = record { sent = ((tt, (tt, d)), tt); outs = tt; held = h; lines = refl; ungiven = λ sent. refl }
for_turned K L me x clock b (repeats reply) d h = repeats_turned K L b reply (held_under (key_answered reply) b.held) (is_seat_of reply (call_seat reply.head.to x.lasting.kept)) d h
for_turned K L me x clock b (refuses head code) d h = record { sent = tt; outs = ((tt, (d.0, tt)), tt); held = h; lines = refl; ungiven = λ sent. refl }
for_turned K L me x clock b (shows head r) d h = record { sent = tt; outs = ((tt, (d.0, tt)), tt); held = h; lines = refl; ungiven = λ sent. refl }
for_turned K L me x clock b (saves head c) d h = record { sent = tt; outs = (change_answer K L x.lasting.boot head clock c d.1.0, tt); held = h; lines = owes_plain me (new_owes head.from (versions_made c) b.lists); ungiven = λ sent. owes_ungiven me (new_owes head.from (versions_made c) b.lists) sent }

settled_turned : (K : Head → Type 0) (L : Head → Type 0) (me : Node) (boot : ℕ) (head : Head) (b : Backs) (o : Option BackCall) → Each (IsAnswer K L) (replies_of b.held) → Turned K L (settles_by me boot head b o)
settled_turned K L me boot head b None h = none_turned K L b h
settled_turned K L me boot head b (Some c) h = either_turned K L (is_back_awaited boot c head) _ _ (record { sent = tt; outs = tt; held = h; lines = settles_plain me head.from (still_owed c b); ungiven = λ sent. settles_ungiven me head.from (still_owed c b) sent }) (none_turned K L b h)

renewed_turned : (K : Head → Type 0) (L : Head → Type 0) (i boot : ℕ) (head : Head) (b : Backs) (o : Option BackCall) → Each (IsAnswer K L) (replies_of b.held) → Turned K L (renews_by (Server i) boot head b o)
renewed_turned K L i boot head b None h = none_turned K L b h
renewed_turned K L i boot head b (Some c) h = either_turned K L (is_back_awaited boot c head) _ _ (record { sent = ((tt, (tt, tt)), tt); outs = tt; held = h; lines = refl; ungiven = λ sent. refl }) (none_turned K L b h)

carried_turned : (K : Head → Type 0) (L : Head → Type 0) (i : ℕ) (x : ServerState) (clock : ℕ) (b : Backs) (d : Decision) (head : Head) (c : Carried) → IsDue K L (Server i) x d → Each (IsAnswer K L) (replies_of b.held) → Turned K L (turned_by (Server i) x clock b d head c)
carried_turned K L i x clock b d head (carried.Call user call) due h = for_turned K L (Server i) x clock b d due h
carried_turned K L i x clock b d head (carried.Refusal code) due h = either_turned K L (same_node head.to (Server i)) _ _ (settled_turned K L (Server i) x.lasting.boot head b (b.calls head.from) h) (none_turned K L b h)
carried_turned K L i x clock b d head (carried.Reply reply) due h = either_turned K L (same_node head.to (Server i)) _ _ (settled_turned K L (Server i) x.lasting.boot head b (b.calls head.from) h) (none_turned K L b h)
carried_turned K L i x clock b d head carried.Notice due h = either_turned K L (same_node head.to (Server i)) _ _ (renewed_turned K L i x.lasting.boot head b (b.calls head.from) h) (none_turned K L b h)

timed_turned : (K : Head → Type 0) (L : Head → Type 0) (i boot : ℕ) (n : Node) (c : BackCall) (b : Backs) → Each (IsAnswer K L) (replies_of b.held) → Turned K L (call_timed_out (Server i) boot n c b)
timed_turned K L i boot n c b h = either_turned K L (nat_lt c.tries 2) _ _ (record { sent = ((tt, (tt, tt)), tt); outs = tt; held = h; lines = refl; ungiven = λ sent. refl }) (record { sent = tt; outs = tt; held = h; lines = quits_plain (Server i) n (still_owed c b); ungiven = λ sent. quits_ungiven (Server i) n (still_owed c b) sent })

-- ---- the end of a step

start_sent : (K : Head → Type 0) (L : Head → Type 0) (i boot : ℕ) (t : Started) (o : OwedBreak) (c : Option BackCall) → Each (IsAnswer K L) t.sent → Each (IsAnswer K L) (starts_by (Server i) boot t o c).sent
start_sent K L i boot t o None h = each_more (IsAnswer K L) t.sent _ h ((tt, (tt, tt)), tt)
start_sent K L i boot t o (Some c) h = h

starts_sent : (K : Head → Type 0) (L : Head → Type 0) (i boot : ℕ) (os : List OwedBreak) (t : Started) → Each (IsAnswer K L) t.sent → Each (IsAnswer K L) (starts (Server i) boot os t).sent
starts_sent K L i boot [] t h = h
starts_sent K L i boot (o ∷ os) t h = starts_sent K L i boot os _ (start_sent K L i boot t o (t.backs.calls o.client) h)

start_held : (K : Head → Type 0) (L : Head → Type 0) (i boot : ℕ) (t : Started) (o : OwedBreak) (c : Option BackCall) → Each (IsAnswer K L) (replies_of t.backs.held) → Each (IsAnswer K L) (replies_of (starts_by (Server i) boot t o c).backs.held)
start_held K L i boot t o None h = h
start_held K L i boot t o (Some c) h = h

starts_keep : (K : Head → Type 0) (L : Head → Type 0) (i boot : ℕ) (os : List OwedBreak) (t : Started) → Each (IsAnswer K L) (replies_of t.backs.held) → Each (IsAnswer K L) (replies_of (starts (Server i) boot os t).backs.held)
starts_keep K L i boot [] t h = h
starts_keep K L i boot (o ∷ os) t h = starts_keep K L i boot os _ (start_held K L i boot t o (t.backs.calls o.client) h)

pumped_sent : (K : Head → Type 0) (L : Head → Type 0) (i boot : ℕ) (t : CallbackStep) → Turned K L t → Each (IsAnswer K L) (pumped (Server i) boot t).sent
pumped_sent K L i boot t h =
    starts_sent K L i boot t.backs.lists.owed _ (each_more (IsAnswer K L) t.sent _ h.sent (each_filter (IsAnswer K L) (is_ready t.backs.lists.owed) (t.outs ++ t.backs.held) (each_both (IsAnswer K L) t.outs t.backs.held h.outs h.held)))

pumped_held : (K : Head → Type 0) (L : Head → Type 0) (i boot : ℕ) (t : CallbackStep) → Turned K L t → Each (IsAnswer K L) (replies_of (pumped (Server i) boot t).backs.held)
pumped_held K L i boot t h =
    starts_keep K L i boot t.backs.lists.owed _ (each_filter (IsAnswer K L) (λ w. not (is_ready t.backs.lists.owed w)) (t.backs.held ++ t.outs) (each_both (IsAnswer K L) t.backs.held t.outs h.held h.outs))

-- ---- its steps

pub record HostStep (K : Head → Type 0) (L : Head → Type 0) (D : Option ℕ) (me : Node) (x : ServerState) (s : Step ServerState) : Type 0 where
  pub hosts : Hosts K L me (memory_of x) (memory_of s.state) s.lines
  pub sent : Each (IsAnswer K L) s.sent
  pub held : Each (IsAnswer K L) (replies_of s.state.backs.held)
  pub given : (sent : List Message) → given_message s.lines sent ≡ placed D sent

pub does_given : (me : Node) (x : ServerState) (clock place : ℕ) (d : Decision) (ls : List Line) (sent : List Message) → given_message (does me x clock place d ls).lines sent ≡ message_at sent place
does_given me x clock place drops ls sent = refl
does_given me x clock place (tells_boot head) ls sent = refl
does_given me x clock place (repeats reply) ls sent = refl
does_given me x clock place (refuses head code) ls sent = refl
does_given me x clock place (shows head r) ls sent = refl
does_given me x clock place (saves head c) ls sent = refl

pub serves_step : (K : Head → Type 0) (L : Head → Type 0) (i : ℕ) (x : ServerState) (clock place : ℕ) (m : Message) → IsSound K L (memory_of x) → Each (IsAnswer K L) (replies_of x.backs.held) → IsDue K L (Server i) x (decides (Server i) x clock (Whole m))
    → HostStep K L (Some place) (Server i) x (server_row (Server i) x clock place (Whole m))
unfolding server_row
serves_step K L i x clock place m s h d =
    let t : CallbackStep = turned_in (Server i) x clock (expired clock x.backs) (decides (Server i) x clock (Whole m)) (Whole m) in
    let q : Turned K L t = carried_turned K L i x clock (expired clock x.backs) (decides (Server i) x clock (Whole m)) m.head m.carried d h in
    record {
      hosts = does_hosts K L (Server i) x clock place (decides (Server i) x clock (Whole m)) t.lines s d q.lines;
      sent = pumped_sent K L i (does (Server i) x clock place (decides (Server i) x clock (Whole m)) []).state.lasting.boot t q;
      held = pumped_held K L i (does (Server i) x clock place (decides (Server i) x clock (Whole m)) []).state.lasting.boot t q;
      given = does_given (Server i) x clock place (decides (Server i) x clock (Whole m)) t.lines;
    }

pub times_step : (K : Head → Type 0) (L : Head → Type 0) (i : ℕ) (x : ServerState) (clock : ℕ) (n : Node) (c : BackCall) → IsSound K L (memory_of x) → Each (IsAnswer K L) (replies_of x.backs.held) → HostStep K L None (Server i) x (back_timeout_row (Server i) x clock n c)
unfolding back_timeout_row
times_step K L i x clock n c s h =
    let t : CallbackStep = call_timed_out (Server i) x.lasting.boot n c (expired clock x.backs) in
    let q : Turned K L t = timed_turned K L i x.lasting.boot n c (expired clock x.backs) h in
    record { hosts = still_hosts K L (Server i) (memory_of x) t.lines s q.lines; sent = pumped_sent K L i x.lasting.boot t q; held = pumped_held K L i x.lasting.boot t q; given = q.ungiven }

pub wakes_step : (K : Head → Type 0) (L : Head → Type 0) (i : ℕ) (x : ServerState) (clock : ℕ) → IsSound K L (memory_of x) → Each (IsAnswer K L) (replies_of x.backs.held) → HostStep K L None (Server i) x (wake_row (Server i) x clock)
unfolding wake_row
wakes_step K L i x clock s h =
    let q : Turned K L (no_turn (expired clock x.backs)) = none_turned K L (expired clock x.backs) h in
    record { hosts = still_hosts K L (Server i) (memory_of x) [] s refl; sent = pumped_sent K L i x.lasting.boot (no_turn (expired clock x.backs)) q; held = pumped_held K L i x.lasting.boot (no_turn (expired clock x.backs)) q; given = λ sent. refl }

-- ---- a restart

-- what it begins with, before further lines
pub record Begins (K : Head → Type 0) (L : Head → Type 0) (me : Node) (x : ServerState) (f : Begun ServerState) : Type 0 where
  pub hosts : (ls : List Line) → all_lines is_unchanging ls ≡ true → Hosts K L me (memory_of x) (memory_of f.state) (f.before ls)
  pub held : Each (IsAnswer K L) (replies_of f.state.backs.held)
  pub ungiven : (ls : List Line) (sent : List Message) → given_message ls sent ≡ None → given_message (f.before ls) sent ≡ None

versioned_ungiven : (vs : List Version) (ls : List Line) (sent : List Message) → given_message ls sent ≡ None → given_message (versioned vs ls) sent ≡ None
versioned_ungiven [] ls sent h = h
versioned_ungiven (v ∷ vs) ls sent h = versioned_ungiven vs ls sent h

pub before_begins : (K : Head → Type 0) (L : Head → Type 0) (me : Node) (x : ServerState) → IsSound K L (memory_of x) → Each (IsAnswer K L) (replies_of x.backs.held) → Begins K L me x (begun_before x)
before_begins K L me x s h = record { hosts = λ ls p. still_hosts K L me (memory_of x) ls s p; held = h; ungiven = λ ls sent e. e }

after_begins : (K : Head → Type 0) (L : Head → Type 0) (me : Node) (x : ServerState) (clock : ℕ) (d : Decision) → IsSound K L (memory_of x) → Each (IsAnswer K L) (replies_of x.backs.held) → IsDue K L me x d → Begins K L me x (begun_after me x clock d)
after_begins K L me x clock (saves head c) s h d = record {
  hosts = λ ls p. let r : Message = change_reply_to x.lasting.boot head clock c in
      placed_hosts K L me (memory_of x) (seat_for head r) _ s (λ m e. one_reply K L head r m (change_answer K L x.lasting.boot head clock c d.1.0) e) d.1.1 d.0 (r, (refl, refl)) (refl, (refl, versioned_plain (versions_made c) ls p));
  held = h;
  ungiven = λ ls sent e. versioned_ungiven (versions_made c) ls sent e;
}
after_begins K L me x clock d s h due = before_begins K L me x s h

-- what is in memory is that on the disk
revived_sound : (K : Head → Type 0) (L : Head → Type 0) (x : Memory) → IsSound K L x → IsSound K L (record { seats = x.kept; kept = x.kept })
revived_sound K L x s = record { seats = s.kept; kept = s.kept; lower = λ n e k a. a }

revived_hosts : (K : Head → Type 0) (L : Head → Type 0) (me : Node) (x y : Memory) (ls : List Line) → Hosts K L me x y ls → Hosts K L me x (record { seats = y.kept; kept = y.kept }) ls
revived_hosts K L me x y ls h = record { changed = h.changed; one = h.one; known = h.known; new = h.new; ran = h.ran; grows = h.grows; stored = h.stored; sound = revived_sound K L y h.sound }

pub revives_begins : (K : Head → Type 0) (L : Head → Type 0) (me : Node) (x : ServerState) → IsSound K L (memory_of x) → Each (IsAnswer K L) (replies_of x.backs.held) → Begins K L me x (begun_before (revived x))
revives_begins K L me x s h = record { hosts = λ ls p. revived_hosts K L me (memory_of x) (memory_of x) ls (still_hosts K L me (memory_of x) ls s p); held = h; ungiven = λ ls sent e. e }

-- the message of an interrupted step
abbrev pub IsCutBy : (Head → Type 0) → ℕ → List Seat → Fall → Type 0
IsCutBy K boot seats (in_step m clock hit) = IsCallOf K boot seats m.head m.carried
IsCutBy K boot seats fall = ⊤

pub disk_begins : (K : Head → Type 0) (L : Head → Type 0) (me : Node) (x : ServerState) (after : Bool) (fall : Fall) → same_node Loc me ≡ false → IsSound K L (memory_of x) → Each (IsAnswer K L) (replies_of x.backs.held) → IsCutBy K x.lasting.boot x.seats fall → ((h : Head) → h.to ≡ me → L (boot_told x.lasting.boot h).head) → Begins K L me x (begun_by_disk me x after fall)
disk_begins K L me x after at_rest ne s h c told = before_begins K L me x s h
disk_begins K L me x false (in_step m clock hit) ne s h c told = before_begins K L me x s h
disk_begins K L me x true (in_step m clock hit) ne s h c told = after_begins K L me x clock (decides me x clock (Whole m)) s h (decides_due K L me x clock m ne s.seats c (told m.head))
disk_begins K L me x false in_boot ne s h c told = before_begins K L me x s h
disk_begins K L me x true in_boot ne s h c told = revives_begins K L me x s h

pub starts_step : (K : Head → Type 0) (L : Head → Type 0) (i : ℕ) (x : ServerState) (clock count : ℕ) (f : Begun ServerState) → Begins K L (Server i) x f → HostStep K L None (Server i) x (start_row (Server i) clock count f)
unfolding start_row
starts_step K L i x clock count f b =
    let t : CallbackStep = risen_turn (Server i) clock count in
    let q : Turned K L t = record { sent = tt; outs = tt; held = tt; lines = owes_plain (Server i) t.backs.lists.owed; ungiven = λ sent. owes_ungiven (Server i) t.backs.lists.owed sent } in
    record {
      hosts = revived_hosts K L (Server i) (memory_of x) (memory_of f.state) _ (b.hosts (lines.Restart (Server i) (f.state.lasting.boot + 1) ∷ t.lines) q.lines);
      sent = pumped_sent K L i (revived f.state).lasting.boot t q;
      held = pumped_held K L i (revived f.state).lasting.boot t q;
      given = λ sent. b.ungiven (lines.Restart (Server i) (f.state.lasting.boot + 1) ∷ t.lines) sent (q.ungiven sent);
    }

-- What the steps of a client do to its calls: each call is made to one callee, and what else it sends is no call.
use Rattle.law_legal.proofs.RunSteps.{calls_at}
use Rattle.spec_rows.specs.Runs.{message_at}
use Rattle.spec_history.specs.declared.acts.Act.{Act}
use Rattle.law_legal.proofs.OwedPasses.{all_lines, is_unchanging}
use Rattle.law_legal.proofs.ServerBoots.{is_standing}
use Rattle.law_legal.proofs.BaseLaws.{asks_lookup, not_loc, Below, Each, ByClient, IfCall, IfReply, OfCall, OfClient, if_reply, LastSeat, if_call, at_seat, kept_last, some_of, OfNotice, of_client, both, same_node-true, of_notice}
use Rattle.spec_history.specs.declared.acts.Operand.{Operand}
use Rattle.afs_num.specs.declared.location_calls.LocEntry.{LocEntry}
use Rattle.spec_rows.specs.ClientRow.{knows_place, entry_in, has_location, is_sought, located, located_by, located_on, moved_on, no_entry_code, put_location, seek_timeout_row, sought_by, sought_ends, sought_or, asks_where, is_gone_code, most_moved, refuses_for_good, seeks_step, volume_asked, Look, Walked, admits_call, awaits, begin_row, body_told, breaks, call_of, calls_again, calls_step, client_row, counts, dead_code, drop_line, dropped, dropped_after, ends_step, entries_told, cache_entry_told, with_given, given_up_in, gives_by, goes_by, hears, ignores, is_awaited, is_busy_code, is_older, is_spent, is_trusted, look_at, looked, most_busy, most_reads, put_entries, put_entry, read_lines, reborn, refuses, replies_step, runs_carried, status_look, status_told, takes, takes_bulk, takes_bytes, takes_data, takes_entries, takes_entry, takes_list, takes_plain, takes_rights, takes_set, takes_shown, takes_status, takes_stored, timeout_line, timeout_row, told_step, walked, walks_on, whole, with_statuses, takes_given, behind_batch, begins_by, gift_of, in_order, trusted_in, untrusted_in, boot_of, with_boot, boot_or_first, callee_of}
use Rattle.spec_rows.specs.Going.{ClientState, Going, Need, Left, Seek, filled, volume_at, locates, operand_in, answers, began, next, with_read, gives_back}
use Rattle.spec_ideal.specs.Operations.{volume_changed}
use Rattle.law_legal.specs.Past.{given_message}
use Rattle.spec_rows.specs.ServerRow.{replied, seat_for, reply_head, boot_told}
use Rattle.spec_rows.specs.States.{CacheEntry, Gift, Location, Seat, KnownBoot}
use Rattle.spec_rows.specs.Steps.{Step}
use Rattle.spec_model.specs.Calls as pairs
use Rattle.spec_model.specs.Calls.{Admitted, admitted, call_seat, call_seated, paired}
use Rattle.std.proofs.Common.{◌+◌, ◌≡◌, ℕ, ◌⊎◌, inl, inr, Bool, true, false, cond, List, [], ◌∷◌, map, Option, Some, None, refl, sym, subst, arith, nat_eq, find, filter, not, ap, ◌∙◌}
use Rattle.std.specs.Prelude.{◌&&◌, not, filter, nat_lt}
use Rattle.std.specs.List.{list_any}
use Rattle.afs_num.specs.Nodes.{same_node}
use Rattle.afs_num.specs.declared.types.Code.{Code}
use Rattle.afs_num.specs.declared.types.Fid.{Fid}
use Rattle.afs_num.specs.declared.types.Head.{Head}
use Rattle.afs_num.specs.declared.types.Node.{Node}
use Rattle.afs_num.specs.declared.types.Node.TheVariants.{Client, Loc, Server}
use Rattle.afs_num.specs.declared.calls.FsCall.{FsCall}
use Rattle.afs_num.specs.declared.calls.FsReply.{FsReply}
use Rattle.afs_num.specs.declared.calls.AfsCallBack.{AfsCallBack}
use Rattle.afs_num.specs.declared.calls.AfsFetchStatus.{AfsFetchStatus}
use Rattle.afs_num.specs.declared.calls.AfsVolSync.{AfsVolSync}
use Rattle.afs_num.specs.declared.histories.Body.{Body}
use Rattle.afs_num.specs.declared.histories.ReadBody.{ReadBody}
use Rattle.afs_num.specs.declared.histories.ReadStatus.{ReadStatus}
use Rattle.afs_num.specs.declared.histories.ReadBody.TheVariants as seen
use Rattle.afs_num.specs.declared.histories.ReadSource.TheVariants.{Fetched}
use Rattle.afs_num.specs.declared.messages.Carried.{Carried}
use Rattle.afs_num.specs.declared.messages.Message.{Message}
use Rattle.afs_num.specs.declared.messages.Received.TheVariants.{Whole}
use Rattle.afs_num.specs.declared.calls.FsCall.TheVariants as calls
use Rattle.afs_num.specs.declared.calls.FsReply.TheVariants as replies
use Rattle.afs_num.specs.declared.messages.Call.TheVariants as ask
use Rattle.afs_num.specs.declared.messages.Carried.TheVariants as carried
use Rattle.afs_num.specs.declared.messages.Reply.TheVariants as tell
use Rattle.spec_history.specs.declared.lines.Line.{Line}
use Rattle.spec_history.specs.declared.lines.Line.TheVariants as lines

-- it is no call of a client
abbrev pub IsUncalled : Message → Type 0
IsUncalled m = IfCall (λ head user call. ⊥) m

-- it is no call of a client, a reply to one has such a header, and a notice has such a one
abbrev pub IsAnswer : (Head → Type 0) → (Head → Type 0) → Message → Type 0
IsAnswer K L m = IsUncalled m × (IfReply (λ r. K r.head) m × OfNotice (L m.head) m.carried)

-- what is known of a call where it runs: the header of its reply
abbrev pub IsCallOf : (Head → Type 0) → ℕ → List Seat → Head → Carried → Type 0
IsCallOf K boot seats head x = OfCall (ByClient (λ h user call. admitted boot seats h ≡ pairs.runs → K (reply_head boot h))) head x

pub ran_call : (K : Head → Type 0) (boot : ℕ) (seats : List Seat) (head : Head) (x : Carried) → IsCallOf K boot seats head x → admitted boot seats head ≡ pairs.runs → OfCall (ByClient (λ h user call. K (reply_head boot h))) head x
ran_call K boot seats head (carried.Call user (ask.File call)) w e = of_client head.from (admitted boot seats head ≡ pairs.runs → K (reply_head boot head)) (K (reply_head boot head)) (λ f. f e) w
ran_call K boot seats head (carried.Call user (ask.Volume call)) w e = w
ran_call K boot seats head (carried.Call user (ask.Location call)) w e = w
ran_call K boot seats head (carried.Refusal code) w e = tt
ran_call K boot seats head (carried.Reply reply) w e = tt
ran_call K boot seats head carried.Notice w e = tt

-- one for which this is known whether it runs or not
pub any_call : (K : Head → Type 0) (boot : ℕ) (seats : List Seat) (head : Head) (x : Carried) → OfCall (ByClient (λ h user call. K (reply_head boot h))) head x → IsCallOf K boot seats head x
any_call K boot seats head (carried.Call user (ask.File call)) w = of_client head.from (K (reply_head boot head)) (admitted boot seats head ≡ pairs.runs → K (reply_head boot head)) (λ f e. f) w
any_call K boot seats head (carried.Call user (ask.Volume call)) w = w
any_call K boot seats head (carried.Call user (ask.Location call)) w = w
any_call K boot seats head (carried.Refusal code) w = tt
any_call K boot seats head (carried.Reply reply) w = tt
any_call K boot seats head carried.Notice w = tt

-- the replies that are kept are answers
abbrev pub AreReplies : (Head → Type 0) → (Head → Type 0) → List Seat → Type 0
AreReplies K L seats = (n : Node) (seat : Seat) (m : Message) → call_seat n seats ≡ Some seat → seat.reply ≡ Some m → IsAnswer K L m

pub answer_over : (K M L O : Head → Type 0) → ((h : Head) → K h → M h) → ((h : Head) → L h → O h) → (m : Message) → IsAnswer K L m → IsAnswer M O m
answer_over K M L O w u m h = (h.0, (if_reply (λ r. K r.head) (λ r. M r.head) (λ r. w r.head) m h.1.0, of_notice (L m.head) (O m.head) (u m.head) m.carried h.1.1))

pub one_more_reply : (K : Head → Type 0) (L : Head → Type 0) (x : Seat) (seats : List Seat) → ((m : Message) → x.reply ≡ Some m → IsAnswer K L m) → AreReplies K L seats → AreReplies K L (call_seated x seats)
one_more_reply K L x seats new old n = at_seat x n seats (λ (o : Option Seat). (seat : Seat) (m : Message) → o ≡ Some seat → seat.reply ≡ Some m → IsAnswer K L m)
    (λ own seat m e r. new m (subst (λ (y : Seat). y.reply ≡ Some m) (sym (some_of x seat e)) r)) (λ other seat m e r. old n seat m e r)

-- a kept reply is one of them
kept_by : (K : Head → Type 0) (L : Head → Type 0) (t : Bool) (boot : ℕ) (seats : List Seat) (head : Head) (m : Message) → AreReplies K L seats → cond t (paired head.epoch head.number (call_seat head.from seats)) (pairs.wrong_boot boot) ≡ pairs.kept m → IsAnswer K L m
kept_by K L true boot seats head m h e = let l : LastSeat head.epoch head.number (call_seat head.from seats) m = kept_last head.epoch head.number (call_seat head.from seats) m e in h head.from l.seat m l.at l.reply
kept_by K L false boot seats head m h e = absurd cc

pub kept_answer : (K : Head → Type 0) (L : Head → Type 0) (boot : ℕ) (seats : List Seat) (head : Head) (m : Message) → AreReplies K L seats → admitted boot seats head ≡ pairs.kept m → IsAnswer K L m
kept_answer K L boot seats head m h e = kept_by K L (nat_eq head.boot boot) boot seats head m h e

-- what is no call has any property of calls
pub uncalled_any : (P : Head → List ℕ → FsCall → Type 0) (m : Message) → IsUncalled m → IfCall P m
uncalled_any P m h = if_call (λ head user call. ⊥) P (λ head user call x. absurd x) m h

-- ---- a step

-- what of a client its calls show
pub record Caller : Type 0 where
  pub epoch : ℕ
  pub last : ℕ
  pub callee : Node
  pub boots : List KnownBoot
  pub running : Option Going

abbrev pub caller_at : ClientState → Caller
caller_at c = record { epoch = c.epoch; last = c.last; callee = c.callee; boots = c.boots; running = c.running }

-- the call is the last one, to its callee, for the act that runs
pub record IsLastOf (j : ℕ) (c : Caller) (head : Head) : Type 0 where
  pub from : head.from ≡ Client j
  pub epoch : head.epoch ≡ c.epoch
  pub number : head.number ≡ c.last
  pub to : head.to ≡ c.callee
  pub boot : head.boot ≡ boot_of c.callee c.boots
  pub act : Going
  pub runs : c.running ≡ Some act

-- the last call is the same, or is a later one
abbrev pub GoesOn : Caller → Caller → Type 0
GoesOn x y = ((y.epoch ≡ x.epoch) × ((y.last ≡ x.last) × (y.callee ≡ x.callee))) ⊎ Below x.epoch x.last y.epoch y.last

-- ---- its lines

-- the message of a place, if one is given
abbrev pub placed : Option ℕ → List Message → Option Message
placed None sent = None
placed (Some place) sent = message_at sent place

-- it begins no change, and stops no server and begins none
abbrev pub is_mild : Line → Bool
is_mild (lines.Change s k count) = false
is_mild l = is_standing l

mild_is_unchanging : (l : Line) → is_mild l ≡ true → is_unchanging l ≡ true
mild_is_unchanging (lines.Change s k count) h = absurd cc
mild_is_unchanging l h = refl

mild_is_standing : (l : Line) → is_mild l ≡ true → is_standing l ≡ true
mild_is_standing (lines.Change s k count) h = absurd cc
mild_is_standing l h = h

all_by : (p q : Line → Bool) → ((l : Line) → p l ≡ true → q l ≡ true) → (ls : List Line) → all_lines p ls ≡ true → all_lines q ls ≡ true
all_by p q w [] h = refl
all_by p q w (l ∷ ls) h = let b = both (p l) (all_lines p ls) h in rw (w l b.0, all_by p q w ls b.1) refl

pub mild_unchanging : (ls : List Line) → all_lines is_mild ls ≡ true → all_lines is_unchanging ls ≡ true
mild_unchanging ls h = all_by is_mild is_unchanging mild_is_unchanging ls h

pub mild_standing : (ls : List Line) → all_lines is_mild ls ≡ true → all_lines is_standing ls ≡ true
mild_standing ls h = all_by is_mild is_standing mild_is_standing ls h

-- these lines have no change, and tell that just this message was given
abbrev pub AreOf : Option ℕ → List Line → Type 0
AreOf D ls = (all_lines is_mild ls ≡ true) × ((sent : List Message) → given_message ls sent ≡ placed D sent)

-- what stands before further lines has no change, and tells what was given
abbrev pub IsFront : Option ℕ → (List Line → List Line) → Type 0
IsFront D front = (ls : List Line) → AreOf None ls → AreOf D (front ls)

pub record Tame (K : Head → Type 0) (L : Head → Type 0) (N : Node → ℕ → Type 0) (D : Option ℕ) (j : ℕ) (x : Caller) (s : Step ClientState) : Type 0 where
  pub goes : GoesOn x (caller_at s.state)
  pub sent : Each (IfCall (λ head user call. IsLastOf j (caller_at s.state) head)) s.sent
  pub answers : Each (IfReply (λ r. K r.head)) s.sent
  pub notices : Each (λ m. OfNotice (L m.head) m.carried) s.sent
  pub kept : AreReplies K L s.state.seats
  pub lines : all_lines is_mild s.lines ≡ true
  pub given : (sent : List Message) → given_message s.lines sent ≡ placed D sent
  -- the boot numbers that it knows are some that were told
  pub boots : ((q : Node) → N q (boot_of q x.boots)) → (q : Node) → N q (boot_of q s.state.boots)

looked_front : (n : Node) (looks : List Look) → IsFront None (looked n looks)
looked_front n [] ls h = h
looked_front n (l ∷ looks) ls h = looked_front n looks ls h

dropped_front : (n : Node) (es : List CacheEntry) → IsFront None (dropped n es)
dropped_front n [] ls h = h
dropped_front n (e ∷ es) ls h = dropped_front n es ls h

drops_plain : (n : Node) (fs : List Fid) → all_lines is_mild (map (drop_line n) fs) ≡ true
drops_plain n [] = refl
drops_plain n (f ∷ fs) = drops_plain n fs

-- ---- its ends

told_tame : (K : Head → Type 0) (L : Head → Type 0) (N : Node → ℕ → Type 0) (j : ℕ) (c : ClientState) (place : ℕ) (ms : List Message) → AreReplies K L c.seats → Each (IfCall (λ head user call. IsLastOf j (caller_at c) head)) ms → Each (IfReply (λ r. K r.head)) ms → Each (λ m. OfNotice (L m.head) m.carried) ms → Tame K L N (Some place) j (caller_at c) (told_step c place ms)
told_tame K L N j c place ms k h a b = record { goes = inl (refl, (refl, refl)); sent = h; answers = a; notices = b; kept = k; lines = refl; given = λ sent. refl; boots = λ h. h }

ignores_tame : (K : Head → Type 0) (L : Head → Type 0) (N : Node → ℕ → Type 0) (j : ℕ) (c : ClientState) (place : ℕ) → AreReplies K L c.seats → Tame K L N (Some place) j (caller_at c) (ignores c place)
ignores_tame K L N j c place k = told_tame K L N j c place [] k tt tt tt

ends_tame : (K : Head → Type 0) (L : Head → Type 0) (N : Node → ℕ → Type 0) (D : Option ℕ) (j : ℕ) (c : ClientState) (cache : List CacheEntry) (front : List Line → List Line) (code : Code) → AreReplies K L c.seats → IsFront D front → Tame K L N D j (caller_at c) (ends_step (Client j) c cache front code)
ends_tame K L N D j c cache front code k f = record { goes = inl (refl, (refl, refl)); sent = tt; answers = tt; notices = tt; kept = k; lines = (f (lines.Answer (Client j) code ∷ []) (refl, λ sent. refl)).0; given = (f (lines.Answer (Client j) code ∷ []) (refl, λ sent. refl)).1; boots = λ h. h }

calls_tame : (K : Head → Type 0) (L : Head → Type 0) (N : Node → ℕ → Type 0) (D : Option ℕ) (j : ℕ) (c : ClientState) (act : Going) (front : List Line → List Line) → AreReplies K L c.seats → IsFront D front → Tame K L N D j (caller_at c) (calls_step (Client j) c act front)
calls_tame K L N D j c act front k f = record { goes = inr (inr (refl, omega arith)); sent = (record { from = refl; epoch = refl; number = refl; to = refl; boot = refl; act = act; runs = refl }, tt); answers = (tt, tt); notices = (tt, tt); kept = k; lines = (f [] (refl, λ sent. refl)).0; given = (f [] (refl, λ sent. refl)).1; boots = λ h. h }

seeks_tame : (K : Head → Type 0) (L : Head → Type 0) (N : Node → ℕ → Type 0) (D : Option ℕ) (j : ℕ) (c : ClientState) (k : Seek) (cache : List CacheEntry) (front : List Line → List Line) → AreReplies K L c.seats → IsFront D front → Tame K L N D j (caller_at c) (seeks_step (Client j) c k cache front)
seeks_tame K L N D j c k cache front r f = record { goes = inr (inr (refl, omega arith)); sent = ((refl, (refl, asks_lookup k.operand)), tt); answers = (tt, tt); notices = (tt, tt); kept = r; lines = (f [] (refl, λ sent. refl)).0; given = (f [] (refl, λ sent. refl)).1; boots = λ h. h }

goes_tame : (K : Head → Type 0) (L : Head → Type 0) (N : Node → ℕ → Type 0) (D : Option ℕ) (j : ℕ) (c : ClientState) (front : List Line → List Line) (w : Walked) (need : Need) → AreReplies K L c.seats → IsFront D front → Tame K L N D j (caller_at c) (goes_by (Client j) c front w need)
goes_tame K L N D j c front w (answers n) k f = ends_tame K L N D j c w.cache (λ ls. front (looked (Client j) w.looks ls)) _ k (λ ls h. f _ (looked_front (Client j) w.looks ls h))
goes_tame K L N D j c front w (locates o) k f = seeks_tame K L N D j c _ w.cache (λ ls. front (looked (Client j) w.looks ls)) k (λ ls h. f _ (looked_front (Client j) w.looks ls h))
goes_tame K L N D j c front w need k f = calls_tame K L N D j (record c { cache = w.cache }) w.act (λ ls. front (looked (Client j) w.looks ls)) k (λ ls h. f _ (looked_front (Client j) w.looks ls h))

walks_tame : (K : Head → Type 0) (L : Head → Type 0) (N : Node → ℕ → Type 0) (D : Option ℕ) (j : ℕ) (c : ClientState) (clock : ℕ) (front : List Line → List Line) (act : Going) (cache : List CacheEntry) → AreReplies K L c.seats → IsFront D front → Tame K L N D j (caller_at c) (walks_on (Client j) c clock front act cache)
walks_tame K L N D j c clock front act cache k f = let w : Walked = walked (most_reads act) clock act cache in goes_tame K L N D j c front w (next w.act) k f

gives_tame : (K : Head → Type 0) (L : Head → Type 0) (N : Node → ℕ → Type 0) (D : Option ℕ) (j : ℕ) (c : ClientState) (front : List Line → List Line) (act : Going) (gs : List Gift) → AreReplies K L c.seats → IsFront D front → Tame K L N D j (caller_at c) (gives_by (Client j) c front act gs)
gives_tame K L N D j c front act [] k f = ends_tame K L N D j c c.cache front _ k f
gives_tame K L N D j c front act (g ∷ gs) k f = calls_tame K L N D j (record c { gifts = g ∷ gs }) act front k f

replies_tame : (K : Head → Type 0) (L : Head → Type 0) (N : Node → ℕ → Type 0) (j : ℕ) (c : ClientState) (place : ℕ) (head : Head) (ls : List Line) (x : Carried) → AreReplies K L c.seats → IsAnswer K L (replied c.epoch head x) → IfCall (λ h user call. IsLastOf j (caller_at c) h) (replied c.epoch head x) → all_lines is_mild ls ≡ true
    → Tame K L N (Some place) j (caller_at c) (replies_step c place head ls x)
replies_tame K L N j c place head ls x k own call plain = record {
  goes = inl (refl, (refl, refl));
  sent = (call, tt);
  answers = (own.1.0, tt);
  notices = (own.1.1, tt);
  kept = one_more_reply K L (seat_for head (replied c.epoch head x)) c.seats (λ m e. subst (IsAnswer K L) (some_of (replied c.epoch head x) m e) own) k;
  lines = plain;
  given = λ sent. refl;
  boots = λ h. h;
}

-- ---- a step of either kind
either_tame : (K : Head → Type 0) (L : Head → Type 0) (N : Node → ℕ → Type 0) (D : Option ℕ) (t : Bool) (j : ℕ) (x : Caller) (a b : Step ClientState) → Tame K L N D j x a → Tame K L N D j x b → Tame K L N D j x (cond t a b)
either_tame K L N D true j x a b h k = h
either_tame K L N D false j x a b h k = k

-- ---- replies to its calls

again_tame : (K : Head → Type 0) (L : Head → Type 0) (N : Node → ℕ → Type 0) (j : ℕ) (c : ClientState) (place : ℕ) (act : Going) → AreReplies K L c.seats → Tame K L N (Some place) j (caller_at c) (calls_again (Client j) c place act)
again_tame K L N j c place act k = calls_tame K L N (Some place) j c act (with_given place) k (λ ls h. (h.0, λ sent. refl))

plain_tame : (K : Head → Type 0) (L : Head → Type 0) (N : Node → ℕ → Type 0) (j : ℕ) (c : ClientState) (place : ℕ) (call : FsCall) → AreReplies K L c.seats → Tame K L N (Some place) j (caller_at c) (takes_plain (Client j) c place call)
plain_tame K L N j c place call k = ends_tame K L N (Some place) j c _ (λ ls. with_given place (dropped (Client j) (dropped_after call c.cache) ls)) _ k (λ ls h. ((dropped_front (Client j) (dropped_after call c.cache) ls h).0, λ sent. refl))

entry_tame : (K : Head → Type 0) (L : Head → Type 0) (N : Node → ℕ → Type 0) (j : ℕ) (c : ClientState) (clock place : ℕ) (act : Going) (e : CacheEntry) (body : ReadBody) → AreReplies K L c.seats → Tame K L N (Some place) j (caller_at c) (takes_entry (Client j) c clock place act e body)
entry_tame K L N j c clock place act e body k =
    either_tame K L N (Some place) (is_trusted clock e) j (caller_at c) _ _
    (walks_tame K L N (Some place) j c clock (read_lines (Client j) place (look_at Fetched e body)) (with_read e.fid body act) (put_entry c.capacity e c.cache) k (λ ls h. (h.0, λ sent. refl))) (again_tame K L N j c place act k)

entries_tame : (K : Head → Type 0) (L : Head → Type 0) (N : Node → ℕ → Type 0) (j : ℕ) (c : ClientState) (clock place : ℕ) (act : Going) (es : List CacheEntry) → AreReplies K L c.seats → Tame K L N (Some place) j (caller_at c) (takes_entries (Client j) c clock place act es)
entries_tame K L N j c clock place act es k =
    either_tame K L N (Some place) (list_any (λ e. not (is_trusted clock e)) es) j (caller_at c) _ _ (again_tame K L N j c place act k)
    (walks_tame K L N (Some place) j c clock (λ ls. with_given place (looked (Client j) (map status_look es) ls)) (with_statuses es act) (put_entries c.capacity es c.cache) k (λ ls h. ((looked_front (Client j) (map status_look es) ls h).0, λ sent. refl)))

rights_tame : (K : Head → Type 0) (L : Head → Type 0) (N : Node → ℕ → Type 0) (j : ℕ) (c : ClientState) (clock place : ℕ) (act : Going) (f : Fid) (index release : ℕ) (text : List ℕ) → AreReplies K L c.seats → Tame K L N (Some place) j (caller_at c) (takes_rights (Client j) c clock place act f index release text)
rights_tame K L N j c clock place act f index release text k =
    let look : Look = record { fid = f; index = index; source = Fetched; body = seen.AccessList text } in
    walks_tame K L N (Some place) j c clock (λ ls. read_lines (Client j) place look (dropped (Client j) (filter (is_older f index release) c.cache) ls)) (with_read f (seen.AccessList text) act)
    (filter (λ e. not (is_older f index release e)) c.cache) k (λ ls h. ((dropped_front (Client j) (filter (is_older f index release) c.cache) ls h).0, λ sent. refl))

stored_tame : (K : Head → Type 0) (L : Head → Type 0) (N : Node → ℕ → Type 0) (j : ℕ) (c : ClientState) (clock place : ℕ) (f : Fid) (index : ℕ) (status : ReadStatus) (made : Option Body → Option Body) → AreReplies K L c.seats → Tame K L N (Some place) j (caller_at c) (takes_stored (Client j) c clock place f index status made)
stored_tame K L N j c clock place f index status made k = ends_tame K L N (Some place) j c _ (with_given place) _ k (λ ls h. (h.0, λ sent. refl))

bytes_tame : (K : Head → Type 0) (L : Head → Type 0) (N : Node → ℕ → Type 0) (j : ℕ) (c : ClientState) (clock place : ℕ) (f : Fid) (status : AfsFetchStatus) (contents : List ℕ) (call : FsCall) → AreReplies K L c.seats → Tame K L N (Some place) j (caller_at c) (takes_bytes (Client j) c clock place f status contents call)
bytes_tame K L N j c clock place f status contents call k = either_tame K L N (Some place) c.spoiled j (caller_at c) _ _ (plain_tame K L N j c place call k) (stored_tame K L N j c clock place f _ _ _ k)

status_tame : (K : Head → Type 0) (L : Head → Type 0) (N : Node → ℕ → Type 0) (j : ℕ) (c : ClientState) (clock place : ℕ) (f : Fid) (status : AfsFetchStatus) (call : FsCall) → AreReplies K L c.seats → Tame K L N (Some place) j (caller_at c) (takes_status (Client j) c clock place f status call)
status_tame K L N j c clock place f status call k = either_tame K L N (Some place) _ j (caller_at c) _ _ (stored_tame K L N j c clock place f _ _ _ k) (plain_tame K L N j c place call k)

data_tame : (K : Head → Type 0) (L : Head → Type 0) (N : Node → ℕ → Type 0) (j : ℕ) (c : ClientState) (clock place : ℕ) (act : Going) (contents : List ℕ) (status : AfsFetchStatus) (callback : AfsCallBack) (sync : AfsVolSync) (call : FsCall) → AreReplies K L c.seats
    → Tame K L N (Some place) j (caller_at c) (takes_data (Client j) c clock place act contents status callback sync call)
data_tame K L N j c clock place act contents status callback sync (calls.FetchData f position wanted) k =
    entry_tame K L N j c clock place act (cache_entry_told c.callee f status callback sync (Some (body_told status.file_type contents))) (seen.Contents (body_told status.file_type contents)) k
data_tame K L N j c clock place act contents status callback sync call k = plain_tame K L N j c place call k

shown_tame : (K : Head → Type 0) (L : Head → Type 0) (N : Node → ℕ → Type 0) (j : ℕ) (c : ClientState) (clock place : ℕ) (act : Going) (status : AfsFetchStatus) (callback : AfsCallBack) (sync : AfsVolSync) (call : FsCall) → AreReplies K L c.seats
    → Tame K L N (Some place) j (caller_at c) (takes_shown (Client j) c clock place act status callback sync call)
shown_tame K L N j c clock place act status callback sync (calls.FetchStatus f) k = entry_tame K L N j c clock place act (cache_entry_told c.callee f status callback sync None) (seen.Status (status_told status)) k
shown_tame K L N j c clock place act status callback sync call k = plain_tame K L N j c place call k

list_tame : (K : Head → Type 0) (L : Head → Type 0) (N : Node → ℕ → Type 0) (j : ℕ) (c : ClientState) (clock place : ℕ) (act : Going) (text : List ℕ) (status : AfsFetchStatus) (sync : AfsVolSync) (call : FsCall) → AreReplies K L c.seats
    → Tame K L N (Some place) j (caller_at c) (takes_list (Client j) c clock place act text status sync call)
list_tame K L N j c clock place act text status sync (calls.FetchAcl f) k = rights_tame K L N j c clock place act f _ _ text k
list_tame K L N j c clock place act text status sync call k = plain_tame K L N j c place call k

set_tame : (K : Head → Type 0) (L : Head → Type 0) (N : Node → ℕ → Type 0) (j : ℕ) (c : ClientState) (clock place : ℕ) (status : AfsFetchStatus) (call : FsCall) → AreReplies K L c.seats → Tame K L N (Some place) j (caller_at c) (takes_set (Client j) c clock place status call)
set_tame K L N j c clock place status (calls.StoreData f set position wanted file_length contents) k = bytes_tame K L N j c clock place f status contents (calls.StoreData f set position wanted file_length contents) k
set_tame K L N j c clock place status (calls.StoreAcl f acl) k = status_tame K L N j c clock place f status (calls.StoreAcl f acl) k
set_tame K L N j c clock place status (calls.StoreStatus f set) k = status_tame K L N j c clock place f status (calls.StoreStatus f set) k
set_tame K L N j c clock place status call k = plain_tame K L N j c place call k

bulk_tame : (K : Head → Type 0) (L : Head → Type 0) (N : Node → ℕ → Type 0) (j : ℕ) (c : ClientState) (clock place : ℕ) (act : Going) (statuses : List AfsFetchStatus) (callbacks : List AfsCallBack) (sync : AfsVolSync) (call : FsCall) → AreReplies K L c.seats
    → Tame K L N (Some place) j (caller_at c) (takes_bulk (Client j) c clock place act statuses callbacks sync call)
bulk_tame K L N j c clock place act statuses callbacks sync (calls.BulkStatus fids) k = entries_tame K L N j c clock place act (entries_told c.callee sync fids statuses callbacks) k
bulk_tame K L N j c clock place act statuses callbacks sync call k = plain_tame K L N j c place call k

given_back_tame : (K : Head → Type 0) (L : Head → Type 0) (N : Node → ℕ → Type 0) (j : ℕ) (c : ClientState) (place : ℕ) (act : Going) (call : FsCall) → AreReplies K L c.seats → Tame K L N (Some place) j (caller_at c) (takes_given (Client j) c place act call)
given_back_tame K L N j c place act (calls.GiveUpCallBacks fids callbacks) k = gives_tame K L N (Some place) j c (with_given place) act (behind_batch c.gifts) k (λ ls h. (h.0, λ sent. refl))
given_back_tame K L N j c place act call k = plain_tame K L N j c place call k

takes_tame : (K : Head → Type 0) (L : Head → Type 0) (N : Node → ℕ → Type 0) (j : ℕ) (c : ClientState) (clock place : ℕ) (act : Going) (call : FsCall) (reply : FsReply) → AreReplies K L c.seats → Tame K L N (Some place) j (caller_at c) (takes (Client j) c clock place act call reply)
takes_tame K L N j c clock place act call (replies.FetchData contents status callback sync) k = data_tame K L N j c clock place act contents status callback sync call k
takes_tame K L N j c clock place act call (replies.FetchAcl text status sync) k = list_tame K L N j c clock place act text status sync call k
takes_tame K L N j c clock place act call (replies.FetchStatus status callback sync) k = shown_tame K L N j c clock place act status callback sync call k
takes_tame K L N j c clock place act call (replies.StoreData status sync) k = set_tame K L N j c clock place status call k
takes_tame K L N j c clock place act call (replies.StoreAcl status sync) k = set_tame K L N j c clock place status call k
takes_tame K L N j c clock place act call (replies.StoreStatus status sync) k = set_tame K L N j c clock place status call k
takes_tame K L N j c clock place act call (replies.BulkStatus statuses callbacks sync) k = bulk_tame K L N j c clock place act statuses callbacks sync call k
takes_tame K L N j c clock place act call replies.GiveUpCallBacks k = given_back_tame K L N j c place act call k
takes_tame K L N j c clock place act call reply k = plain_tame K L N j c place call k

gone_tame : (K : Head → Type 0) (L : Head → Type 0) (N : Node → ℕ → Type 0) (j : ℕ) (c : ClientState) (place : ℕ) (act : Going) (code : Code) (o : Option Operand) → AreReplies K L c.seats → Tame K L N (Some place) j (caller_at c) (asks_where (Client j) c place act code o)
gone_tame K L N j c place act code None k = ends_tame K L N (Some place) j c c.cache (with_given place) code k (λ ls h. (h.0, λ sent. refl))
gone_tame K L N j c place act code (Some o) k = seeks_tame K L N (Some place) j (record c { moved = c.moved + 1 }) _ c.cache (with_given place) k (λ ls h. (h.0, λ sent. refl))

for_good_tame : (K : Head → Type 0) (L : Head → Type 0) (N : Node → ℕ → Type 0) (j : ℕ) (c : ClientState) (place : ℕ) (act : Going) (code : Code) → AreReplies K L c.seats → Tame K L N (Some place) j (caller_at c) (refuses_for_good (Client j) c place act code)
for_good_tame K L N j c place act code k =
    either_tame K L N (Some place) (is_gone_code code && nat_lt c.moved most_moved) j (caller_at c) _ _ (gone_tame K L N j c place act code (operand_in act (volume_asked (call_of c act))) k) (ends_tame K L N (Some place) j c c.cache (with_given place) code k (λ ls h. (h.0, λ sent. refl)))

refuses_tame : (K : Head → Type 0) (L : Head → Type 0) (N : Node → ℕ → Type 0) (j : ℕ) (c : ClientState) (place : ℕ) (act : Going) (code : Code) → AreReplies K L c.seats → Tame K L N (Some place) j (caller_at c) (refuses (Client j) c place act code)
refuses_tame K L N j c place act code k =
    either_tame K L N (Some place) (is_busy_code code && nat_lt c.busy most_busy) j (caller_at c) _ _ (again_tame K L N j (record c { busy = c.busy + 1 }) place act k) (for_good_tame K L N j c place act code k)

kept_boot_by : (a t : Bool) (callee q : Node) (k : KnownBoot) (rest : List KnownBoot) (o : Option KnownBoot) → same_node k.server callee ≡ a → same_node k.server q ≡ t → same_node callee q ≡ false → find (λ (x : KnownBoot). same_node x.server q) rest ≡ o
    → find (λ (x : KnownBoot). same_node x.server q) (cond (not a) (k ∷ rest) rest) ≡ cond t (Some k) o
kept_boot_by true true callee q k rest o a t other e =
    let yes : same_node callee q ≡ true = subst (λ (n : Node). same_node n q ≡ true) (same_node-true k.server callee a) t in
    absurd cc
kept_boot_by true false callee q k rest o a t other e = e
kept_boot_by false t callee q k rest o a at other e = ap (λ (b : Bool). cond b (Some k) (find (λ (x : KnownBoot). same_node x.server q) rest)) at ∙ ap (λ (y : Option KnownBoot). cond t (Some k) y) e

kept_boot : (callee q : Node) (boots : List KnownBoot) → same_node callee q ≡ false → find (λ (k : KnownBoot). same_node k.server q) (filter (λ (k : KnownBoot). not (same_node k.server callee)) boots) ≡ find (λ (k : KnownBoot). same_node k.server q) boots
kept_boot callee q [] other = refl
kept_boot callee q (k ∷ boots) other = kept_boot_by (same_node k.server callee) (same_node k.server q) callee q k (filter (λ (x : KnownBoot). not (same_node x.server callee)) boots) (find (λ (x : KnownBoot). same_node x.server q) boots) refl refl other (kept_boot callee q boots other)

-- the boot number of the callee is known then
pub told_boot : (N : Node → ℕ → Type 0) (callee : Node) (boot : ℕ) (boots : List KnownBoot) (t : Bool) (q : Node) → same_node callee q ≡ t → N callee boot → N q (boot_of q boots) → N q (boot_of q (with_boot callee boot boots))
told_boot N callee boot boots true q e own h =
    subst (N q) (ap (λ (b : Bool). boot_or_first (cond b (Some (record { server = callee; boot = boot })) (find (λ (k : KnownBoot). same_node k.server q) (filter (λ (k : KnownBoot). not (same_node k.server callee)) boots)))) (sym e)) (subst (λ (n : Node). N n boot) (same_node-true callee q e) own)
told_boot N callee boot boots false q e own h =
    subst (λ (o : Option KnownBoot). N q (boot_or_first o)) (sym (ap (λ (b : Bool). cond b (Some (record { server = callee; boot = boot })) (find (λ (k : KnownBoot). same_node k.server q) (filter (λ (k : KnownBoot). not (same_node k.server callee)) boots))) e ∙ kept_boot callee q boots e)) h

counts_tame : (K : Head → Type 0) (L : Head → Type 0) (N : Node → ℕ → Type 0) (j : ℕ) (c : ClientState) (clock place : ℕ) (act : Going) (head : Head) (x : Carried) → c.running ≡ Some act → AreReplies K L c.seats → OfNotice (N c.callee head.boot) x → Tame K L N (Some place) j (caller_at c) (counts (Client j) c clock place act head x)
counts_tame K L N j c clock place act head (carried.Call user call) r k n = ignores_tame K L N j c place k
counts_tame K L N j c clock place act head (carried.Refusal code) r k n = either_tame K L N (Some place) (is_spent c act) j (caller_at c) _ _ (again_tame K L N j c place act k) (refuses_tame K L N j c place act code k)
counts_tame K L N j c clock place act head (carried.Reply (tell.File reply)) r k n = either_tame K L N (Some place) (is_spent c act) j (caller_at c) _ _ (again_tame K L N j c place act k) (takes_tame K L N j c clock place act _ reply k)
counts_tame K L N j c clock place act head (carried.Reply reply) r k n = ignores_tame K L N j c place k
counts_tame K L N j c clock place act head carried.Notice r k n = record { goes = inl (refl, (refl, refl)); sent = (record { from = refl; epoch = refl; number = refl; to = refl; boot = refl; act = act; runs = r }, tt); answers = (tt, tt); notices = (tt, tt); kept = k; lines = refl; given = λ sent. refl; boots = λ h q. told_boot N c.callee head.boot c.boots (same_node c.callee q) q refl n (h q) }

awaited_tame : (K : Head → Type 0) (L : Head → Type 0) (N : Node → ℕ → Type 0) (t : Bool) (j : ℕ) (c : ClientState) (clock place : ℕ) (act : Going) (head : Head) (x : Carried) → is_awaited c act head ≡ t → c.running ≡ Some act → AreReplies K L c.seats → OfNotice (N head.from head.boot) x → Tame K L N (Some place) j (caller_at c) (cond t (counts (Client j) c clock place act head x) (ignores c place))
awaited_tame K L N true j c clock place act head x e r k n = counts_tame K L N j c clock place act head x r k (subst (λ (q : Node). OfNotice (N q head.boot) x) (same_node-true head.from c.callee (both (same_node head.from c.callee) _ e).0) n)
awaited_tame K L N false j c clock place act head x e r k n = ignores_tame K L N j c place k

awaits_tame : (K : Head → Type 0) (L : Head → Type 0) (N : Node → ℕ → Type 0) (j : ℕ) (c : ClientState) (clock place : ℕ) (head : Head) (x : Carried) (o : Option Going) → c.running ≡ o → AreReplies K L c.seats → OfNotice (N head.from head.boot) x → Tame K L N (Some place) j (caller_at c) (awaits (Client j) c clock place head x o)
awaits_tame K L N j c clock place head x None r k n = ignores_tame K L N j c place k
awaits_tame K L N j c clock place head x (Some act) r k n = awaited_tame K L N (is_awaited c act head) j c clock place act head x refl r k n

-- ---- calls to it

breaks_tame : (K : Head → Type 0) (L : Head → Type 0) (N : Node → ℕ → Type 0) (j : ℕ) (c : ClientState) (place : ℕ) (head : Head) (call : FsCall) → AreReplies K L c.seats → OfClient head.from (K (reply_head c.epoch head)) → Tame K L N (Some place) j (caller_at c) (breaks (Client j) c place head call)
breaks_tame K L N j c place head (calls.CallBack fs callbacks) k w = replies_tame K L N j _ place head _ _ k (tt, (w, tt)) tt (drops_plain (Client j) fs)
breaks_tame K L N j c place head calls.InitCallBackState k w = replies_tame K L N j _ place head _ _ k (tt, (w, tt)) tt refl
breaks_tame K L N j c place head calls.Probe k w = replies_tame K L N j c place head [] _ k (tt, (w, tt)) tt refl
breaks_tame K L N j c place head call k w = replies_tame K L N j c place head [] _ k (tt, (w, tt)) tt refl

carried_tame : (K : Head → Type 0) (L : Head → Type 0) (N : Node → ℕ → Type 0) (j : ℕ) (c : ClientState) (place : ℕ) (head : Head) (x : Carried) → head.to ≡ Client j → AreReplies K L c.seats → OfCall (ByClient (λ h user call. K (reply_head c.epoch h))) head x → Tame K L N (Some place) j (caller_at c) (runs_carried (Client j) c place head x)
carried_tame K L N j c place head (carried.Call user (ask.File call)) to k w = breaks_tame K L N j c place head call k w
carried_tame K L N j c place head (carried.Call user (ask.Location call)) to k w = not_loc head (Client j) _ to refl w.0
carried_tame K L N j c place head (carried.Call user (ask.Volume call)) to k w = absurd w
carried_tame K L N j c place head x to k w = ignores_tame K L N j c place k

admits_tame : (K : Head → Type 0) (L : Head → Type 0) (N : Node → ℕ → Type 0) (j : ℕ) (c : ClientState) (place : ℕ) (head : Head) (x : Carried) (o : Admitted Message) → head.to ≡ Client j → AreReplies K L c.seats → IsCallOf K c.epoch c.seats head x → L (boot_told c.epoch head).head → admitted c.epoch c.seats head ≡ o → Tame K L N (Some place) j (caller_at c) (admits_call (Client j) c place head (whole head x) o)
admits_tame K L N j c place head x pairs.runs to k w told e = carried_tame K L N j c place head x to k (ran_call K c.epoch c.seats head x w e)
admits_tame K L N j c place head x (pairs.kept reply) to k w told e =
    let a : IsAnswer K L reply = kept_answer K L c.epoch c.seats head reply k e in
    told_tame K L N j c place (reply ∷ []) k (uncalled_any (λ h user call. IsLastOf j (caller_at c) h) reply a.0, tt) (a.1.0, tt) (a.1.1, tt)
admits_tame K L N j c place head x pairs.in_progress to k w told e = ignores_tame K L N j c place k
admits_tame K L N j c place head x pairs.older to k w told e = ignores_tame K L N j c place k
admits_tame K L N j c place head x (pairs.wrong_boot boot) to k w told e = told_tame K L N j c place _ k (tt, tt) (tt, tt) (told, tt)

hears_tame : (K : Head → Type 0) (L : Head → Type 0) (N : Node → ℕ → Type 0) (j : ℕ) (c : ClientState) (clock place : ℕ) (head : Head) (x : Carried) → head.to ≡ Client j → AreReplies K L c.seats → IsCallOf K c.epoch c.seats head x → L (boot_told c.epoch head).head → OfNotice (N head.from head.boot) x → Tame K L N (Some place) j (caller_at c) (hears (Client j) c clock place head x)
hears_tame K L N j c clock place head (carried.Call user call) to k w told n = admits_tame K L N j c place head (carried.Call user call) (admitted c.epoch c.seats head) to k w told refl
hears_tame K L N j c clock place head x to k w told n = awaits_tame K L N j c clock place head x c.running refl k n

-- ---- its steps

if_tame : (K : Head → Type 0) (L : Head → Type 0) (N : Node → ℕ → Type 0) (D : Option ℕ) (t : Bool) (j : ℕ) (x : Caller) (a b : Step ClientState) (head : Head) → same_node head.to (Client j) ≡ t → (head.to ≡ Client j → Tame K L N D j x a) → Tame K L N D j x b → Tame K L N D j x (cond t a b)
if_tame K L N D true j x a b head e h k = h (same_node-true head.to (Client j) e)
if_tame K L N D false j x a b head e h k = k

pub given_tame : (K : Head → Type 0) (L : Head → Type 0) (N : Node → ℕ → Type 0) (j : ℕ) (c : ClientState) (clock place : ℕ) (m : Message) → AreReplies K L c.seats → IsCallOf K c.epoch c.seats m.head m.carried → L (boot_told c.epoch m.head).head → OfNotice (N m.head.from m.head.boot) m.carried → Tame K L N (Some place) j (caller_at c) (client_row (Client j) c clock place (Whole m))
unfolding client_row
given_tame K L N j c clock place m k w told n = if_tame K L N (Some place) (same_node m.head.to (Client j)) j (caller_at c) _ _ m.head refl (λ to. hears_tame K L N j c clock place m.head m.carried to k w told n) (ignores_tame K L N j c place k)

first_tame : (K : Head → Type 0) (L : Head → Type 0) (N : Node → ℕ → Type 0) (D : Option ℕ) (j : ℕ) (c : ClientState) (clock : ℕ) (front : List Line → List Line) (act : Going) (need : Need) → AreReplies K L c.seats → IsFront D front → Tame K L N D j (caller_at c) (begins_by (Client j) c clock front act need)
first_tame K L N D j c clock front act gives_back k f = gives_tame K L N D j (record c { cache = untrusted_in clock c.cache }) (λ ls. front (dropped (Client j) (trusted_in clock c.cache) ls)) act (in_order (map gift_of (trusted_in clock c.cache))) k (λ ls h. f _ (dropped_front (Client j) (trusted_in clock c.cache) ls h))
first_tame K L N D j c clock front act need k f = walks_tame K L N D j c clock front act c.cache k f

pub begins_tame : (K : Head → Type 0) (L : Head → Type 0) (N : Node → ℕ → Type 0) (j : ℕ) (c : ClientState) (clock : ℕ) (act : Act) → AreReplies K L c.seats → Tame K L N None j (caller_at c) (begin_row (Client j) c clock act)
unfolding begin_row
begins_tame K L N j c clock act k = first_tame K L N None j (record c { busy = 0; moved = 0 }) clock (λ ls. lines.Begin (Client j) act ∷ ls) (began c.table act) (next (began c.table act)) k (λ ls h. h)

pub waits_tame : (K : Head → Type 0) (L : Head → Type 0) (N : Node → ℕ → Type 0) (j : ℕ) (c : ClientState) (act : Going) → c.running ≡ Some act → AreReplies K L c.seats → Tame K L N None j (caller_at c) (timeout_row (Client j) c act)
waits_tame K L N j c act r k = either_tame K L N None (nat_lt c.tries 2) j (caller_at c) _ _
    (record { goes = inl (refl, (refl, refl)); sent = (record { from = refl; epoch = refl; number = refl; to = refl; boot = refl; act = act; runs = r }, tt); answers = (tt, tt); notices = (tt, tt); kept = k; lines = refl; given = λ sent. refl; boots = λ h. h })
    (ends_tame K L N None j c _ (λ ls. timeout_line (Client j) c 3 ∷ dropped (Client j) (given_up_in (volume_changed (call_of c act)) c.cache) ls) dead_code k (λ ls h. dropped_front (Client j) (given_up_in (volume_changed (call_of c act)) c.cache) ls h))

pub falls_tame : (K : Head → Type 0) (L : Head → Type 0) (N : Node → ℕ → Type 0) (j : ℕ) (handed : List Location) (c : ClientState) → ((q : Node) → N q 1) → Tame K L N None j (caller_at c) (record { state = reborn handed c; lines = lines.Crash (Client j) ∷ []; sent = [] })
falls_tame K L N j handed c first = record { goes = inr (inl (omega arith)); sent = tt; answers = tt; notices = tt; kept = λ n seat m e. absurd cc; lines = refl; given = λ sent. refl; boots = λ h. first }

pub rises_tame : (K : Head → Type 0) (L : Head → Type 0) (N : Node → ℕ → Type 0) (j : ℕ) (c : ClientState) → AreReplies K L c.seats → Tame K L N None j (caller_at c) (record { state = c; lines = lines.Restart (Client j) c.epoch ∷ []; sent = [] })
rises_tame K L N j c k = record { goes = inl (refl, (refl, refl)); sent = tt; answers = tt; notices = tt; kept = k; lines = refl; given = λ sent. refl; boots = λ h. h }

-- ---- an act that waits for the location database

sought_ends_tame : (K : Head → Type 0) (L : Head → Type 0) (N : Node → ℕ → Type 0) (D : Option ℕ) (j : ℕ) (c : ClientState) (front : List Line → List Line) (code : Code) → AreReplies K L c.seats → IsFront D front → Tame K L N D j (caller_at c) (sought_ends (Client j) c front code)
sought_ends_tame K L N D j c front code k f = record { goes = inl (refl, (refl, refl)); sent = tt; answers = tt; notices = tt; kept = k; lines = (f (lines.Answer (Client j) code ∷ []) (refl, λ sent. refl)).0; given = (f (lines.Answer (Client j) code ∷ []) (refl, λ sent. refl)).1; boots = λ h. h }

located_tame : (K : Head → Type 0) (L : Head → Type 0) (N : Node → ℕ → Type 0) (j : ℕ) (c : ClientState) (clock place : ℕ) (act : Going) (o : Option ℕ) → AreReplies K L c.seats → Tame K L N (Some place) j (caller_at c) (located_on (Client j) c clock place act o)
located_tame K L N j c clock place act None k = sought_ends_tame K L N (Some place) j c (with_given place) no_entry_code k (λ ls h. (h.0, λ sent. refl))
located_tame K L N j c clock place act (Some id) k = walks_tame K L N (Some place) j c clock (with_given place) (filled c.table act) c.cache k (λ ls h. (h.0, λ sent. refl))

moved_tame : (K : Head → Type 0) (L : Head → Type 0) (N : Node → ℕ → Type 0) (j : ℕ) (c : ClientState) (place : ℕ) (act : Going) (left : Left) (o : Option ℕ) → AreReplies K L c.seats → Tame K L N (Some place) j (caller_at c) (moved_on (Client j) c place act left o)
moved_tame K L N j c place act left None r = sought_ends_tame K L N (Some place) j c (with_given place) no_entry_code r (λ ls h. (h.0, λ sent. refl))
moved_tame K L N j c place act left (Some id) r =
    either_tame K L N (Some place) (same_node (callee_of c act) left.server) j (caller_at c) _ _ (sought_ends_tame K L N (Some place) j c (with_given place) left.code r (λ ls h. (h.0, λ sent. refl))) (calls_tame K L N (Some place) j c act (with_given place) r (λ ls h. (h.0, λ sent. refl)))

left_tame : (K : Head → Type 0) (L : Head → Type 0) (N : Node → ℕ → Type 0) (j : ℕ) (c : ClientState) (clock place : ℕ) (k : Seek) (l : Location) (o : Option Left) → AreReplies K L c.seats → Tame K L N (Some place) j (caller_at c) (located (Client j) c clock place k l o)
left_tame K L N j c clock place k l None r = located_tame K L N j (knows_place l c) clock place k.act (volume_at (knows_place l c).table k.operand) r
left_tame K L N j c clock place k l (Some left) r =
    either_tame K L N (Some place) (has_location l c.table) j (caller_at c) _ _ (sought_ends_tame K L N (Some place) j c (with_given place) left.code r (λ ls h. (h.0, λ sent. refl))) (moved_tame K L N j (knows_place l c) place k.act left (volume_at (knows_place l c).table k.operand) r)

entry_sought_tame : (K : Head → Type 0) (L : Head → Type 0) (N : Node → ℕ → Type 0) (j : ℕ) (c : ClientState) (clock place : ℕ) (k : Seek) (o : Option LocEntry) → AreReplies K L c.seats → Tame K L N (Some place) j (caller_at c) (located_by (Client j) c clock place k o)
entry_sought_tame K L N j c clock place k None r = ignores_tame K L N j c place r
entry_sought_tame K L N j c clock place k (Some e) r = left_tame K L N j c clock place k e k.left r

pub sought_tame : (K : Head → Type 0) (L : Head → Type 0) (N : Node → ℕ → Type 0) (j : ℕ) (c : ClientState) (clock place : ℕ) (k : Seek) (head : Head) (x : Carried) → ((b : ℕ) → N Loc b) → AreReplies K L c.seats → Tame K L N (Some place) j (caller_at c) (sought_by (Client j) c clock place k head x)
sought_tame K L N j c clock place k head (carried.Call user call) n r = ignores_tame K L N j c place r
sought_tame K L N j c clock place k head (carried.Refusal code) n r = sought_ends_tame K L N (Some place) j c (with_given place) code r (λ ls h. (h.0, λ sent. refl))
sought_tame K L N j c clock place k head (carried.Reply (tell.File reply)) n r = ignores_tame K L N j c place r
sought_tame K L N j c clock place k head (carried.Reply (tell.Volume reply)) n r = ignores_tame K L N j c place r
sought_tame K L N j c clock place k head (carried.Reply (tell.Location reply)) n r = entry_sought_tame K L N j c clock place k (entry_in reply) r
sought_tame K L N j c clock place k head carried.Notice n r = record { goes = inl (refl, (refl, refl)); sent = ((refl, (refl, asks_lookup k.operand)), tt); answers = (tt, tt); notices = (tt, tt); kept = r; lines = refl; given = λ sent. refl; boots = λ h q. told_boot N Loc head.boot c.boots (same_node Loc q) q refl (n head.boot) (h q) }

pub missed_tame : (K : Head → Type 0) (L : Head → Type 0) (N : Node → ℕ → Type 0) (j : ℕ) (c : ClientState) (k : Seek) → AreReplies K L c.seats → Tame K L N None j (caller_at c) (seek_timeout_row (Client j) c k)
missed_tame K L N j c k r = either_tame K L N None (nat_lt c.tries 2) j (caller_at c) _ _
    (record { goes = inl (refl, (refl, refl)); sent = ((refl, (refl, asks_lookup k.operand)), tt); answers = (tt, tt); notices = (tt, tt); kept = r; lines = refl; given = λ sent. refl; boots = λ h. h })
    (sought_ends_tame K L N None j c (λ ls. timeout_line (Client j) c 3 ∷ ls) dead_code r (λ ls h. h))

-- what it is given, whatever it waits for
pub guest_tame : (K : Head → Type 0) (L : Head → Type 0) (N : Node → ℕ → Type 0) (j : ℕ) (c : ClientState) (clock place : ℕ) (m : Message) (o : Option Seek) → ((b : ℕ) → N Loc b) → AreReplies K L c.seats → Tame K L N (Some place) j (caller_at c) (client_row (Client j) c clock place (Whole m)) → Tame K L N (Some place) j (caller_at c) (sought_or (Client j) c clock place m o)
guest_tame K L N j c clock place m None n r t = t
guest_tame K L N j c clock place m (Some k) n r t = either_tame K L N (Some place) (is_sought (Client j) c k m.head m.carried) j (caller_at c) _ _ (sought_tame K L N j c clock place k m.head m.carried n r) t

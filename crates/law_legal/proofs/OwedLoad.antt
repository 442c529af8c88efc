-- What each step of the server makes of promises, breaks, calls and replies that wait.
use Rattle.spec_breaks.specs.declared.types.Promise.{Promise}
use Rattle.spec_breaks.specs.Promises.{is_promise, with_promise, has_break, without_break}
use Rattle.law_legal.proofs.PromiseLists.{Owed, with_promises, without_all, ended_call, ended_is}
use Rattle.std.proofs.Common.{◌≡◌, ◌+◌, ◌≤◌, ◌⊎◌, inl, inr, Bool, true, false, cond, nat_eq, ℕ, List, [], ◌∷◌, ◌++◌, Option, Some, None, refl, sym, ap, subst, ◌∙◌, arith, eqb-true, eq-eqb, append-nil, ◌<◌}
use Rattle.std.specs.Prelude.{map, filter, not, ◌&&◌}
use Rattle.std.proofs.Math.Nat.{le_refl, le_trans, eq-or-lt_of_le}
use Rattle.afs_num.specs.Fids.{same_fid}
use Rattle.afs_num.specs.Nodes.{same_node}
use Rattle.afs_num.specs.declared.types.Fid.{Fid}
use Rattle.afs_num.specs.declared.types.Key.{Key}
use Rattle.afs_num.specs.declared.types.Node.{Node}
use Rattle.afs_num.specs.declared.types.Node.TheVariants.{Client}
use Rattle.afs_num.specs.declared.messages.Message.{Message}
use Rattle.spec_ideal.specs.Operations.{Found}
use Rattle.law_legal.proofs.OwedPasses.{owe_since, timeout_onto, Plain, Stepping, all_lines, is_up, is_oweless, is_unchanging, settled_onto, change_back, no_owe, owes_over, ended_over, calls_same, backed_step, seated_over, plain_step, plain_waits, waits_over, granted_over, owed_over, call_over, backed_plain, promised_over, numbered_over, rising_over, head_same, tail_same}
use Rattle.law_legal.proofs.BaseLaws.{server_any, same_node-true, same_node-refl, same_fid-refl, same_fid-true, Above, Each, IfBack, IfDone, OfReply, each_map, if_back, if_done}
use Rattle.law_legal.proofs.OwedFacts.{AllOf, all_map, all_both, all_filter, IsGranted, IsIn, IsNumberIn, AccountedBy, WaitedBy, AllWaitedBy, HeldWaits, IsOwed, CallOut, BackIn, DroppedOwe, DoneIn, BackedIn, Promised, Numbered, IsClient, Rising, is_held}
use Rattle.law_legal.proofs.OwedTurns.{IsServing, loaded, in_filter, put_call, reply_key}
use Rattle.law_legal.specs.Breaks.{unbroken_until, HasSettled, HasTimeout, AllOwes, CarriesBreak, GoodSettle, IsCarried, IsGivenUp, last_number, lines_with_gifts, HasStopped, OweAt}
use Rattle.spec_rows.specs.Callbacks.{is_all, alls, is_reply_to, key_answered, breaks_call, break_message, settle_line, quit_line, settles, quits, retries, still_owed}
use Rattle.law_legal.specs.Legal.{HasChange, AreGood}
use Rattle.spec_history.specs.declared.lines.Line.{Line}
use Rattle.law_legal.specs.Past.{HasCode, onto, lines_of, sent_of, given_message}
use Rattle.spec_rows.specs.Runs.{Entry, Fall}
use Rattle.spec_rows.specs.ServerRow.{granted}
use Rattle.spec_rows.specs.States.{Seat, BackCall, Held, Backs}
use Rattle.spec_model.specs.Calls.{call_seat}
use Rattle.spec_history.specs.declared.scripts.Script.{Script}
use Rattle.afs_num.specs.declared.histories.Actor.TheVariants as actors
use Rattle.spec_history.specs.declared.lines.Line.TheVariants as lines

pub down_zero : (me : Node) (d : Option Fall) (last : ℕ) (ls : List Line) → (d ≡ None → ⊥) → Numbered me d last ls → last_number me ls ≡ 0
down_zero me None last ls ne h = absurd (ne refl)
down_zero me (Some fall) last ls ne h = h

-- a server that is down has a new boot number
pub down_later : (me : Node) (d : Option Fall) (b : Backs) (boot : ℕ) (seats now : List Seat) (cs : ℕ → Option Seat) (clock : ℕ) (sent : List Message) (past : List Entry) (fall : Fall) → (d ≡ None → ⊥) → BackedIn me d b boot seats cs clock sent past → BackedIn me (Some fall) b (boot + 1) now cs clock sent past
down_later me d b boot seats now cs clock sent past fall ne h = record {
  granted = λ x. absurd cc;
  promised = λ j f x l t. absurd (ne (h.promised j f x l t).0);
  rising = h.rising;
  clients = λ x. absurd cc;
  numbered = down_zero me d b.lists.last_owed (lines_of past) ne h.numbered;
  accounted = λ newer at older before after c what n split line. elim (h.accounted newer at older before after c what n split line) [ inl x ↦ inl x | inr x ↦ absurd (ne x.0) ];
  owing = λ x. absurd cc;
  waiting = λ x. absurd cc;
  outs = λ x. absurd cc;
  calls = each_map (IfBack (BackIn me d b.calls b.last_call boot)) (IfBack (BackIn me (Some fall) b.calls b.last_call (boot + 1))) (if_back (BackIn me d b.calls b.last_call boot) (BackIn me (Some fall) b.calls b.last_call (boot + 1)) (λ head user call x. record { client = x.client; to = x.to; booted = λ own. le_trans (x.booted own) (omega arith); below = λ own y. absurd cc; is = λ c own y. absurd cc })) sent h.calls;
  dones = each_map (IfDone (DoneIn me d b.calls b.last_call boot past)) (IfDone (DoneIn me (Some fall) b.calls b.last_call (boot + 1) past)) (if_done (DoneIn me d b.calls b.last_call boot past) (DoneIn me (Some fall) b.calls b.last_call (boot + 1) past) (λ m x. record { client = x.client; from = x.from; done = λ own. record { booted = le_trans (x.done own).booted (omega arith); below = λ y. absurd cc; dropped = λ c y. absurd cc } })) sent h.dones;
  seated = λ j seat m x y. let z = h.seated j seat m x y in record { to = z.to; from = z.from; is_reply = z.is_reply; done = record { booted = le_trans z.done.booted (omega arith); below = λ u. absurd cc; dropped = λ c u. absurd cc } };
}

-- ---- a step that leaves what is owed

-- nothing is held besides
pub none_loaded : (me : Node) (d : Option Fall) (b : Backs) (boot : ℕ) (seats : List Seat) (cs : ℕ → Option Seat) (clock : ℕ) (sent : List Message) (past : List Entry) → BackedIn me d b boot seats cs clock sent past → BackedIn me d (record b { held = b.held ++ [] }) boot seats cs clock sent past
none_loaded me d b boot seats cs clock sent past h = subst (λ (hs : List Held). BackedIn me d (record b { held = hs }) boot seats cs clock sent past) (sym (append-nil b.held)) h

pub still_backed : (me : Node) (b : Backs) (boot : ℕ) (seats : List Seat) (cs : ℕ → Option Seat) (clock : ℕ) (sent : List Message) (e : Entry) (past : List Entry) → Plain me e.lines → BackedIn me None b boot seats cs clock sent past → BackedIn me None b boot seats cs clock sent (e ∷ past)
still_backed me b boot seats cs clock sent e past p h =
    subst (λ (ms : List Message). BackedIn me None b boot seats cs clock ms (e ∷ past)) (append-nil sent)
    (backed_plain me None b boot seats cs cs clock clock sent [] e past p (le_refl _) h tt tt (λ j seat m x y. seated_over me None None b b boot clock clock e past (plain_step me None b clock clock e past p (le_refl _)) j m (h.seated j seat m x y)))

-- the clients' boot numbers are read by no fact
pub known_backed : (me : Node) (b : Backs) (known : Node → ℕ) (boot : ℕ) (seats : List Seat) (cs : ℕ → Option Seat) (clock : ℕ) (sent : List Message) (past : List Entry) → BackedIn me None b boot seats cs clock sent past → BackedIn me None (record b { known = known }) boot seats cs clock sent past
known_backed me b known boot seats cs clock sent past h = record { granted = h.granted; promised = h.promised; numbered = h.numbered; rising = h.rising; clients = h.clients; accounted = h.accounted; owing = h.owing; waiting = h.waiting; outs = h.outs; calls = h.calls; dones = h.dones; seated = h.seated }

-- the unanswered call is sent again
pub resent : (me : Node) (b : Backs) (boot : ℕ) (seats : List Seat) (cs : ℕ → Option Seat) (clock : ℕ) (sent : List Message) (past newer : List Entry) (n : Node) (known : ℕ) (c : BackCall) (calls : Node → Option BackCall) → BackedIn me None b boot seats cs clock sent past → b.calls n ≡ Some c → ((x : BackCall) → calls n ≡ Some x → x.content ≡ c.content)
    → Each (IfBack (BackIn me None calls b.last_call boot)) (break_message me boot n known c ∷ [])
resent me b boot seats cs clock sent past newer n known c calls h at same = (
  server_any me (BackIn me None calls b.last_call boot (break_message me boot n known c).head [] (breaks_call c.content)) (record {
    client = n;
    to = refl;
    booted = λ own. le_refl _;
    below = λ own x y. (h.outs refl n c at).number;
    is = λ x own y z e q. ap breaks_call (sym (same x e));
  }),
  tt,
)

-- ---- a call is answered, or given up

settles_plain : (me : Node) (n : Node) (os : List Owed) → Plain me (map (settle_line me n) os)
settles_plain me n [] = record { up = refl; still = refl; oweless = refl; unchanging = refl }
settles_plain me n (o ∷ os) = let h = settles_plain me n os in record { up = h.up; still = h.still; oweless = h.oweless; unchanging = h.unchanging }

quits_plain : (me : Node) (n : Node) (os : List Owed) → Plain me (map (quit_line me n) os)
quits_plain me n [] = record { up = refl; still = refl; oweless = refl; unchanging = refl }
quits_plain me n (o ∷ os) = let h = quits_plain me n os in record { up = h.up; still = h.still; oweless = h.oweless; unchanging = h.unchanging }

settled_by : (me : Node) (t : Bool) (n : Node) (k : ℕ) (o : Owed) (os : List Owed) (l : List Line) → nat_eq o.number k ≡ t → cond t true (has_break k os) ≡ true → (has_break k os ≡ true → HasSettled me n k (onto (settle_line me n o ∷ l) (map (settle_line me n) os)))
    → HasSettled me n k (onto (settle_line me n o ∷ l) (map (settle_line me n) os))
settled_by me true n k o os l e x w = settled_onto me n k (map (settle_line me n) os) (settle_line me n o ∷ l) (inl (refl, (refl, eqb-true o.number k e)))
settled_by me false n k o os l e x w = w x

quit_at : (me : Node) (t : Bool) (n : Node) (k : ℕ) (o : Owed) (os : List Owed) (l : List Line) → nat_eq o.number k ≡ t → cond t true (has_break k os) ≡ true → (has_break k os ≡ true → HasSettled me n k (onto (quit_line me n o ∷ l) (map (quit_line me n) os)))
    → HasSettled me n k (onto (quit_line me n o ∷ l) (map (quit_line me n) os))
quit_at me true n k o os l e x w = settled_onto me n k (map (quit_line me n) os) (quit_line me n o ∷ l) (inl (refl, (refl, eqb-true o.number k e)))
quit_at me false n k o os l e x w = w x

-- its line stands among those of the breaks that are ended
settled_in : (me : Node) (n : Node) (k : ℕ) (os : List Owed) (l : List Line) → has_break k os ≡ true → HasSettled me n k (onto l (map (settle_line me n) os))
settled_in me n k [] l e = absurd cc
settled_in me n k (o ∷ os) l e = settled_by me (nat_eq o.number k) n k o os l refl e (λ x. settled_in me n k os (settle_line me n o ∷ l) x)

quit_in : (me : Node) (n : Node) (k : ℕ) (os : List Owed) (l : List Line) → has_break k os ≡ true → HasSettled me n k (onto l (map (quit_line me n) os))
quit_in me n k [] l e = absurd cc
quit_in me n k (o ∷ os) l e = quit_at me (nat_eq o.number k) n k o os l refl e (λ x. quit_in me n k os (quit_line me n o ∷ l) x)

none_by : (t : Bool) (o : Option BackCall) (c : BackCall) → cond t None o ≡ Some c → o ≡ Some c
none_by true o c e = absurd cc
none_by false o c e = e

-- ---- a break that is owed is the only one of its number

pub held_here : (t rest : Bool) → t ≡ true → cond t true rest ≡ true
held_here true rest e = refl
held_here false rest e = absurd cc

pub held_next : (t rest : Bool) → rest ≡ true → cond t true rest ≡ true
held_next true rest e = refl
held_next false rest e = e

pub in_all : (P : Owed → Type 0) (o : Owed) (os : List Owed) → IsIn o os → AllOf P os → P o
in_all P o [] h k = absurd h
in_all P o (x ∷ os) (inl e) k = subst P e k.0
in_all P o (x ∷ os) (inr h) k = in_all P o os h k.1

same_stop : (me : Node) (t : Bool) (n : Node) (x : ℕ) (k : ℕ) → same_node n me ≡ t → (n ≡ me → ⊥) → k ≤ x → k ≤ cond t 0 x
same_stop me true n x k e ne le = absurd (ne (same_node-true n me e))
same_stop me false n x k e ne le = le

same_owe : (me : Node) (t : Bool) (q : Node) (m x k : ℕ) → same_node q me ≡ t → (q ≡ me → x < m) → k ≤ x → k ≤ cond t m x
same_owe me true q m x k e lt le = let l : x < m = lt (same_node-true q me e) in omega arith
same_owe me false q m x k e lt le = le

low_by : (me : Node) (newer base : List Line) (c : Node) (what : Option Fid) (n : ℕ) → (HasStopped me newer → ⊥) → Rising me (newer ++ (lines.Owe me c what n ∷ base)) → n ≤ last_number me (newer ++ (lines.Owe me c what n ∷ base))
low_by me [] base c what n up h = rw (same_node-refl me) (le_refl n)
low_by me (lines.Owe q d w m ∷ newer) base c what n up h = same_owe me (same_node q me) q m _ n refl h.0 (low_by me newer base c what n up h.1)
low_by me (lines.Crash q ∷ newer) base c what n up h = same_stop me (same_node q me) q _ n refl (λ e. up (inl e)) (low_by me newer base c what n (λ x. up (inr x)) h)
low_by me (lines.Fault q ∷ newer) base c what n up h = same_stop me (same_node q me) q _ n refl (λ e. up (inl e)) (low_by me newer base c what n (λ x. up (inr x)) h)
low_by me (l ∷ newer) base c what n up h = low_by me newer base c what n up h

rising_tail : (me : Node) (l : Line) (ls : List Line) → Rising me (l ∷ ls) → Rising me ls
rising_tail me (lines.Owe q d w m) ls h = h.1
rising_tail me l ls h = h

rising_head : (me : Node) (l : Line) (ls : List Line) (c : Node) (what : Option Fid) (n : ℕ) → l ≡ lines.Owe me c what n → Rising me (l ∷ ls) → last_number me ls < n
rising_head me l ls c what n e h = (subst (λ (x : Line). Rising me (x ∷ ls)) e h).0 refl

stopped_tail : (me : Node) (l : Line) (ls : List Line) → (HasStopped me (l ∷ ls) → ⊥) → HasStopped me ls → ⊥
stopped_tail me (lines.Crash q) ls h x = h (inr x)
stopped_tail me (lines.Fault q) ls h x = h (inr x)
stopped_tail me l ls h x = h x

owe_clients : (me : Node) (a b : Node) (v w : Option Fid) (n : ℕ) → lines.Owe me a v n ≡ lines.Owe me b w n → a ≡ b
owe_clients me a b v w n e = cc

once_by : (me : Node) (xs ys base below : List Line) (a b : Node) (v w : Option Fid) (n : ℕ) → xs ++ (lines.Owe me a v n ∷ base) ≡ ys ++ (lines.Owe me b w n ∷ below) → (HasStopped me xs → ⊥) → (HasStopped me ys → ⊥) → Rising me (xs ++ (lines.Owe me a v n ∷ base)) → a ≡ b
once_by me [] [] base below a b v w n e up down h = owe_clients me a b v w n (head_same _ _ base below e)
once_by me [] (y ∷ ys) base below a b v w n e up down h =
    let rest : base ≡ ys ++ (lines.Owe me b w n ∷ below) = tail_same (lines.Owe me a v n) y base _ e in
    let r : Rising me (ys ++ (lines.Owe me b w n ∷ below)) = subst (Rising me) rest h.1 in
    let low : n ≤ last_number me (ys ++ (lines.Owe me b w n ∷ below)) = low_by me ys below b w n (stopped_tail me y ys down) r in
    let high : last_number me (ys ++ (lines.Owe me b w n ∷ below)) < n = subst (λ (ls : List Line). last_number me ls < n) rest (h.0 refl) in
    absurd (omega arith)
once_by me (x ∷ xs) [] base below a b v w n e up down h =
    let rest : xs ++ (lines.Owe me a v n ∷ base) ≡ below = tail_same x (lines.Owe me b w n) _ below e in
    let low : n ≤ last_number me (xs ++ (lines.Owe me a v n ∷ base)) = low_by me xs base a v n (stopped_tail me x xs up) (rising_tail me x _ h) in
    let high : last_number me (xs ++ (lines.Owe me a v n ∷ base)) < n = rising_head me x _ b w n (head_same x (lines.Owe me b w n) _ below e) h in
    absurd (omega arith)
once_by me (x ∷ xs) (y ∷ ys) base below a b v w n e up down h = once_by me xs ys base below a b v w n (tail_same x y _ _ e) (stopped_tail me x xs up) (stopped_tail me y ys down) (rising_tail me x _ h)

owed_once : (me : Node) (a b : Node) (v w : Option Fid) (n : ℕ) (ls : List Line) → OweAt me a v n ls → OweAt me b w n ls → Rising me ls → a ≡ b
owed_once me a b v w n ls x y h = once_by me x.newer y.newer x.base y.base a b v w n (sym x.split ∙ y.split) x.up y.up (subst (Rising me) x.split h)

-- one of the breaks that end with the call
has_number : (o : Owed) (os : List Owed) → IsIn o os → has_break o.number os ≡ true
has_number o [] h = absurd h
has_number o (x ∷ os) (inl e) = held_here (nat_eq x.number o.number) (has_break o.number os) (eq-eqb x.number o.number (ap (λ (z : Owed). z.number) e))
has_number o (x ∷ os) (inr h) = held_next (nat_eq x.number o.number) (has_break o.number os) (has_number o os h)

-- it ends with the call, or stays
stay_by : (t : Bool) (o x : Owed) (xs os : List Owed) → nat_eq o.number x.number ≡ t → IsIn o os → (IsIn o (without_break x.number os) → IsIn o (without_all xs (without_break x.number os)) ⊎ (has_break o.number xs ≡ true))
    → IsIn o (without_all xs (without_break x.number os)) ⊎ (cond (nat_eq x.number o.number) true (has_break o.number xs) ≡ true)
stay_by true o x xs os e h w = inr (held_here (nat_eq x.number o.number) (has_break o.number xs) (eq-eqb x.number o.number (sym (eqb-true o.number x.number e))))
stay_by false o x xs os e h w = elim (w (in_filter (λ z. not (nat_eq z.number x.number)) o os h (rw e refl))) [ inl y ↦ inl y | inr y ↦ inr (held_next (nat_eq x.number o.number) (has_break o.number xs) y) ]

ends_or_stays : (o : Owed) (xs os : List Owed) → IsIn o os → IsIn o (without_all xs os) ⊎ (has_break o.number xs ≡ true)
ends_or_stays o [] os h = inl h
ends_or_stays o (x ∷ xs) os h = stay_by (nat_eq o.number x.number) o x xs os refl h (λ y. ends_or_stays o xs (without_break x.number os) y)

all_without : (P : Owed → Type 0) (xs os : List Owed) → AllOf P os → AllOf P (without_all xs os)
all_without P [] os h = h
all_without P (x ∷ xs) os h = all_without P xs (without_break x.number os) (all_filter P (λ z. not (nat_eq z.number x.number)) os h)

picked_number : (t u : Bool) (k : ℕ) (x : Owed) (xs : List Owed) → nat_eq x.number k ≡ t → t ≡ true → u ≡ true → has_break k (cond u (x ∷ xs) xs) ≡ true
picked_number true true k x xs e a b = rw e refl
picked_number true false k x xs e a b = absurd cc
picked_number false u k x xs e a b = absurd cc

more_number : (u : Bool) (k : ℕ) (x : Owed) (xs : List Owed) → has_break k xs ≡ true → has_break k (cond u (x ∷ xs) xs) ≡ true
more_number true k x xs h = held_next (nat_eq x.number k) (has_break k xs) h
more_number false k x xs h = h

ending_by : (me : Node) (t : Bool) (n : Node) (k : ℕ) (ls : List Line) (x : Owed) (xs owed : List Owed) (S : Type 0) → nat_eq x.number k ≡ t → IsOwed me n ls x → cond t true (has_break k xs) ≡ true → has_break k owed ≡ true → ((what : Option Fid) → OweAt me n what k ls → has_break k (cond (has_break x.number owed) (x ∷ filter (λ (o : Owed). has_break o.number owed) xs) (filter (λ (o : Owed). has_break o.number owed) xs)) ≡ true → S) → (has_break k xs ≡ true → S) → S
ending_by me true n k ls x xs owed S e owe h at w more =
    let same : x.number ≡ k = eqb-true x.number k e in
    w x.what (subst (λ (i : ℕ). OweAt me n x.what i ls) same owe) (picked_number true (has_break x.number owed) k x (filter (λ (o : Owed). has_break o.number owed) xs) e refl (subst (λ (i : ℕ). has_break i owed ≡ true) (sym same) at))
ending_by me false n k ls x xs owed S e owe h at w more = more h

ending : (me : Node) (n : Node) (k : ℕ) (ls : List Line) (xs owed : List Owed) → AllOf (IsOwed me n ls) xs → has_break k xs ≡ true → has_break k owed ≡ true → (what : Option Fid) × (OweAt me n what k ls × (has_break k (filter (λ (o : Owed). has_break o.number owed) xs) ≡ true))
ending me n k ls [] owed h e at = absurd cc
ending me n k ls (x ∷ xs) owed h e at = ending_by me (nat_eq x.number k) n k ls x xs owed _ refl h.0 e at (λ what owe y. (what, (owe, y))) (λ y. let z = ending me n k ls xs owed h.1 y at in (z.0, (z.1.0, more_number (has_break x.number owed) k x (filter (λ (o : Owed). has_break o.number owed) xs) z.1.1)))

pub held_or : (t a b : Bool) → cond t true a ≡ true → (a ≡ true → b ≡ true) → cond t true b ≡ true
held_or true a b e w = refl
held_or false a b e w = w e

pub more_held : (k : Key) (hs ks : List Held) → is_held k hs ≡ true → is_held k (hs ++ ks) ≡ true
more_held k [] ks e = absurd cc
more_held k (h ∷ hs) ks e = held_or (is_reply_to k h.reply) (is_held k hs) (is_held k (hs ++ ks)) e (more_held k hs ks)

pub ends_backed : (me : Node) (b : Backs) (boot : ℕ) (seats : List Seat) (cs : ℕ → Option Seat) (clock : ℕ) (sent : List Message) (e : Entry) (past : List Entry) (n : Node) (c : BackCall) → Plain me e.lines → BackedIn me None b boot seats cs clock sent past → b.calls n ≡ Some c
    → ((k : ℕ) (l : List Line) → has_break k (still_owed c b) ≡ true → HasSettled me n k (onto l e.lines)) → BackedIn me None (record (ended_call n c b) { held = b.held ++ [] }) boot seats cs clock sent (e ∷ past)
ends_backed me b boot seats cs clock sent e past n c p h at gone =
    let now : Backs = record (ended_call n c b) { held = b.held ++ [] } in
    let out : CallOut me n c b.last_call boot past = h.outs refl n c at in
    let s : Stepping me None None b now clock clock e past = record {
      was_up = λ x. x;
      up = λ x. p.up;
      or_stopped = λ x. inl x;
      later = le_refl _;
      new = λ before after d what k line. absurd (no_owe e.lines before after me d what k p.oweless line);
      gone = λ o x. elim (ends_or_stays o c.content b.lists.owed x) [
        | inl y ↦ inl y
        | inr y ↦ inr (λ l. let z = ending me n o.number (lines_of past) c.content b.lists.owed (all_map (IsOwed me n (lines_of (out.sent.at ∷ out.sent.older))) (IsOwed me n (lines_of past)) (λ w v. owe_since me n w.what w.number past out.sent.newer out.sent.at out.sent.older out.sent.split out.up v) c.content out.owes) y (has_number o b.lists.owed x) in
            subst (λ (m : Node). HasSettled me m o.number (onto l e.lines)) (owed_once me n o.client z.0 o.what o.number (lines_of past) z.1.0 (in_all (λ (u : Owed). IsOwed me u.client (lines_of past) u) o b.lists.owed x (h.owing refl)) h.rising) (gone o.number l z.1.1))
      ];
      held = λ k x. more_held k b.held [] x;
      last = le_refl _;
      calls = λ j k y. inr (k, (none_by (same_node n j) (b.calls j) k y, (refl, refl)));
    } in
    subst (λ (ms : List Message). BackedIn me None now boot seats cs clock ms (e ∷ past)) (append-nil sent)
    (backed_step me None None b now boot seats seats cs cs clock clock sent [] e past s h (λ x. granted_over me e past b.lists.promises p.still p.up p.oweless (h.granted x)) (promised_over me None b.lists.promises clock clock e past p.still (le_refl _) h.promised) (numbered_over me None b.lists.last_owed e past p.up p.oweless h.numbered) (rising_over me e past p.oweless h.rising)
    (λ x. record { promised = (h.clients x).promised; owed = all_without (λ (o : Owed). IsClient o.client) c.content b.lists.owed (h.clients x).owed })
    (λ x. all_without (λ (o : Owed). IsOwed me o.client (lines_of (e ∷ past)) o) c.content b.lists.owed (owed_over me e past b.lists.owed p.up (h.owing x)))
    (λ x. all_both (HeldWaits me seats clock (e ∷ past)) b.held [] (all_map (HeldWaits me seats clock past) (HeldWaits me seats clock (e ∷ past)) (λ q y. plain_waits me seats seats clock clock e past q p (le_refl _) (λ m a d z. z) y) b.held (h.waiting x)) tt)
    (λ x j k y. call_over me j k b.last_call b.last_call boot e past (le_refl _) p.up (h.outs x j k (none_by (same_node n j) (b.calls j) k y))) tt tt
    (λ j seat m x y. seated_over me None None b now boot clock clock e past s j m (h.seated j seat m x y)))

-- the lines are good
pub record IsReplied (me n : Node) (epoch number : ℕ) (past : List Entry) (own : List Line) : Type 0 where
  pub reply : Message
  pub by : given_message own (sent_of past) ≡ Some reply
  pub is : HasCode reply.carried
  pub to : reply.head.to ≡ me
  pub from : reply.head.from ≡ n
  pub epoch' : reply.head.epoch ≡ epoch
  pub number' : reply.head.number ≡ number

settle_good : (me n : Node) (epoch number : ℕ) (o : Owed) (past : List Entry) (own : List Line) → IsReplied me n epoch number past own → DroppedOwe me n epoch number past o → (HasStopped me own → ⊥) → GoodSettle me n o.number past own
settle_good me n epoch number o past own r d up = record {
  going = up;
  reply = r.reply;
  by = r.by;
  is = r.is;
  to = r.to;
  from = r.from;
  what = o.what;
  back = subst (λ (i : ℕ). IsGivenUp me n i r.reply.head.number o.what o.number past) (sym r.epoch') (subst (λ (i : ℕ). IsGivenUp me n epoch i o.what o.number past) (sym r.number') d);
}

replied_still : (me n : Node) (epoch number : ℕ) (past : List Entry) (own : List Line) (q : Node) (k : ℕ) → IsReplied me n epoch number past own → IsReplied me n epoch number past (lines.Settle me q k ∷ own)
replied_still me n epoch number past own q k r = record { reply = r.reply; by = r.by; is = r.is; to = r.to; from = r.from; epoch' = r.epoch'; number' = r.number' }

settles_by_good : (me : Node) (serving : IsServing me) (t : Bool) (s : Script) (n : Node) (epoch number : ℕ) (o : Owed) (past : List Entry) (own : List Line) (xs : List Owed) → DroppedOwe me n epoch number past o → IsReplied me n epoch number past own → (HasStopped me own → ⊥)
    → ((own : List Line) → IsReplied me n epoch number past own → (HasStopped me own → ⊥) → AreGood s (actors.Node me) past own (map (settle_line me n) xs)) → AreGood s (actors.Node me) past own (map (settle_line me n) (cond t (o ∷ xs) xs))
settles_by_good me serving true s n epoch number o past own xs d r up w = ((serving, settle_good me n epoch number o past own r d up), w (settle_line me n o ∷ own) (replied_still me n epoch number past own n o.number r) up)
settles_by_good me serving false s n epoch number o past own xs d r up w = w own r up

settles_all : (me : Node) (serving : IsServing me) (s : Script) (n : Node) (epoch number : ℕ) (past : List Entry) (os owed : List Owed) (own : List Line) → AllOf (DroppedOwe me n epoch number past) os → IsReplied me n epoch number past own → (HasStopped me own → ⊥) → AreGood s (actors.Node me) past own (map (settle_line me n) (filter (λ (o : Owed). has_break o.number owed) os))
settles_all me serving s n epoch number past [] owed own h r up = tt
settles_all me serving s n epoch number past (o ∷ os) owed own h r up = settles_by_good me serving (has_break o.number owed) s n epoch number o past own (filter (λ (x : Owed). has_break x.number owed) os) h.0 r up (λ x z still. settles_all me serving s n epoch number past os owed x h.1 z still)

pub settles_good : (me : Node) → IsServing me → (s : Script) (n : Node) (epoch number : ℕ) (c : BackCall) (b : Backs) (past : List Entry) (own : List Line) → AllOf (DroppedOwe me n epoch number past) c.content → IsReplied me n epoch number past own → (HasStopped me own → ⊥) → AreGood s (actors.Node me) past own (map (settle_line me n) (still_owed c b))
settles_good me serving s n epoch number c b past own h r up = settles_all me serving s n epoch number past c.content b.lists.owed own h r up

pub two_all : {A : Type 0} → (P Q R : A → Type 0) → ((x : A) → P x → Q x → R x) → (xs : List A) → AllOf P xs → AllOf Q xs → AllOf R xs
two_all P Q R w [] h k = tt
two_all P Q R w (x ∷ xs) h k = (w x h.0 k.0, two_all P Q R w xs h.1 k.1)

-- what the call carries
pub carried_by : (me n : Node) (boot : ℕ) (c : BackCall) (past : List Entry) (last : ℕ) → CallOut me n c last boot past → AllOf (λ (o : Owed). IsCarried me n boot c.number o.what o.number past) c.content
carried_by me n boot c past last out =
    two_all (IsOwed me n (lines_of (out.sent.at ∷ out.sent.older))) (λ (o : Owed). CarriesBreak (breaks_call c.content) o.what) (λ (o : Owed). IsCarried me n boot c.number o.what o.number past)
    (λ o x y. record { user = []; call = breaks_call c.content; sent = out.sent; carries = y; owe = x; up = out.up }) c.content out.owes out.carries

quits_by_good : (me : Node) (serving : IsServing me) (t : Bool) (s : Script) (n : Node) (boot number : ℕ) (o : Owed) (past : List Entry) (own : List Line) (xs : List Owed) → IsCarried me n boot number o.what o.number past → HasTimeout me n boot number 3 own → (HasStopped me own → ⊥)
    → ((own : List Line) → HasTimeout me n boot number 3 own → (HasStopped me own → ⊥) → AreGood s (actors.Node me) past own (map (quit_line me n) xs)) → AreGood s (actors.Node me) past own (map (quit_line me n) (cond t (o ∷ xs) xs))
quits_by_good me serving true s n boot number o past own xs m third up w = ((serving, record { going = up; epoch = boot; number = number; third = third; what = o.what; carried = m }), w (quit_line me n o ∷ own) third up)
quits_by_good me serving false s n boot number o past own xs m third up w = w own third up

quits_all : (me : Node) (serving : IsServing me) (s : Script) (n : Node) (boot number : ℕ) (past : List Entry) (os owed : List Owed) (own : List Line) → AllOf (λ (o : Owed). IsCarried me n boot number o.what o.number past) os → HasTimeout me n boot number 3 own → (HasStopped me own → ⊥) → AreGood s (actors.Node me) past own (map (quit_line me n) (filter (λ (o : Owed). has_break o.number owed) os))
quits_all me serving s n boot number past [] owed own h third up = tt
quits_all me serving s n boot number past (o ∷ os) owed own h third up = quits_by_good me serving (has_break o.number owed) s n boot number o past own (filter (λ (x : Owed). has_break x.number owed) os) h.0 third up (λ x y still. quits_all me serving s n boot number past os owed x h.1 y still)

pub quits_good : (me : Node) → IsServing me → (s : Script) (n : Node) (boot last : ℕ) (c : BackCall) (b : Backs) (past : List Entry) → CallOut me n c last boot past → AreGood s (actors.Node me) past (lines.Timeout me n boot c.number 3 ∷ []) (map (quit_line me n) (still_owed c b))
quits_good me serving s n boot last c b past out = quits_all me serving s n boot c.number past c.content b.lists.owed _ (carried_by me n boot c past last out) (inl (refl, (refl, (refl, (refl, refl))))) (λ z. z)

pub settles_backed : (me : Node) (b : Backs) (boot : ℕ) (seats : List Seat) (cs : ℕ → Option Seat) (clock : ℕ) (sent : List Message) (e : Entry) (past : List Entry) (n : Node) (p : ℕ) (c : BackCall) → b.calls n ≡ Some c → e.lines ≡ lines.Given p ∷ map (settle_line me n) (still_owed c b) → BackedIn me None b boot seats cs clock sent past → BackedIn me None (loaded (settles me n c b)) boot seats cs clock sent (e ∷ past)
settles_backed me b boot seats cs clock sent e past n p c at is h =
    let os : List Owed = still_owed c b in
    let q = settles_plain me n os in
    subst (λ (x : Backs). BackedIn me None (record x { held = b.held ++ [] }) boot seats cs clock sent (e ∷ past)) (sym (ended_is n c b))
    (ends_backed me b boot seats cs clock sent e past n c (subst (Plain me) (sym is) (record { up = q.up; still = q.still; oweless = q.oweless; unchanging = q.unchanging })) h at
    (λ k l x. subst (λ (ls : List Line). HasSettled me n k (onto l ls)) (sym is) (settled_in me n k os (lines.Given p ∷ l) x)))

pub quits_backed : (me : Node) (b : Backs) (boot : ℕ) (seats : List Seat) (cs : ℕ → Option Seat) (clock : ℕ) (sent : List Message) (e : Entry) (past : List Entry) (n : Node) (c : BackCall) → b.calls n ≡ Some c → e.lines ≡ (quits me boot n c b).lines → BackedIn me None b boot seats cs clock sent past → BackedIn me None (loaded (quits me boot n c b)) boot seats cs clock sent (e ∷ past)
quits_backed me b boot seats cs clock sent e past n c at is h =
    let os : List Owed = still_owed c b in
    let q = quits_plain me n os in
    subst (λ (x : Backs). BackedIn me None (record x { held = b.held ++ [] }) boot seats cs clock sent (e ∷ past)) (sym (ended_is n c b))
    (ends_backed me b boot seats cs clock sent e past n c (subst (Plain me) (sym is) (record { up = q.up; still = q.still; oweless = q.oweless; unchanging = q.unchanging })) h at
    (λ k l x. subst (λ (ls : List Line). HasSettled me n k (onto l ls)) (sym is) (quit_in me n k os (lines.Timeout me n boot c.number 3 ∷ l) x)))

-- ---- a call is sent again after a timeout

tried : (me : Node) (n : Node) (boot last : ℕ) (c : BackCall) (e : Entry) (past : List Entry) → e.lines ≡ lines.Timeout me n boot c.number (c.tries + 1) ∷ [] → CallOut me n c last boot past → CallOut me n (record c { tries = c.tries + 1 }) last boot (e ∷ past)
tried me n boot last c e past is h =
    let up : all_lines (is_up me) e.lines ≡ true = subst (λ (ls : List Line). all_lines (is_up me) ls ≡ true) (sym is) refl in
    let k : CallOut me n c last boot (e ∷ past) = call_over me n c last last boot e past (le_refl _) up h in
    record {
      number = k.number;
      client = k.client;
      sent = k.sent;
      up = k.up;
      tries = λ t a b. elim (eq-or-lt_of_le b) [
        | inl q ↦ subst (λ (ls : List Line). HasTimeout me n boot c.number t (onto (lines_of past) ls)) (sym is) (inl (refl, (refl, (refl, (refl, sym q)))))
        | inr l ↦ timeout_onto me n boot c.number t e.lines (lines_of past) (h.tries t a (omega arith))
      ];
      owes = k.owes;
      carries = k.carries;
    }

pub retries_backed : (me : Node) (b : Backs) (boot : ℕ) (seats : List Seat) (cs : ℕ → Option Seat) (clock : ℕ) (sent : List Message) (e : Entry) (past : List Entry) (n : Node) (c : BackCall) → b.calls n ≡ Some c → e.lines ≡ lines.Timeout me n boot c.number (c.tries + 1) ∷ [] → BackedIn me None b boot seats cs clock sent past
    → BackedIn me None (loaded (retries me boot n c b)) boot seats cs clock sent (e ∷ past)
retries_backed me b boot seats cs clock sent e past n c at is h =
    let now : Backs = loaded (retries me boot n c b) in
    let p : Plain me e.lines = subst (Plain me) (sym is) (record { up = refl; still = refl; oweless = refl; unchanging = refl }) in
    let more : BackCall = record c { tries = c.tries + 1 } in
    let s : Stepping me None None b now clock clock e past = record {
      was_up = λ x. x;
      up = λ x. p.up;
      or_stopped = λ x. inl x;
      later = le_refl _;
      new = λ before after d what k line. absurd (no_owe e.lines before after me d what k p.oweless line);
      gone = λ o x. inl x;
      held = λ k x. more_held k b.held [] x;
      last = le_refl _;
      calls = λ j k y. put_call n j more k b.calls _ y (λ q z. inr (c, (ap b.calls (sym q) ∙ at, (ap (λ (u : BackCall). u.number) z, ap (λ (u : BackCall). u.content) z)))) (λ z. inr (k, (z, (refl, refl))));
    } in
    subst (λ (ms : List Message). BackedIn me None now boot seats cs clock ms (e ∷ past)) (append-nil sent)
    (backed_step me None None b now boot seats seats cs cs clock clock sent [] e past s h (λ x. granted_over me e past b.lists.promises p.still p.up p.oweless (h.granted x)) (promised_over me None b.lists.promises clock clock e past p.still (le_refl _) h.promised) (numbered_over me None b.lists.last_owed e past p.up p.oweless h.numbered) (rising_over me e past p.oweless h.rising) h.clients (λ x. owed_over me e past b.lists.owed p.up (h.owing x))
    (λ x. all_both (HeldWaits me seats clock (e ∷ past)) b.held [] (all_map (HeldWaits me seats clock past) (HeldWaits me seats clock (e ∷ past)) (λ q y. plain_waits me seats seats clock clock e past q p (le_refl _) (λ m a d z. z) y) b.held (h.waiting x)) tt)
    (λ x j k y. put_call n j more k b.calls (CallOut me j k b.last_call boot (e ∷ past)) y (λ q z. subst (λ (i : Node). CallOut me i k b.last_call boot (e ∷ past)) q (subst (λ (u : BackCall). CallOut me n u b.last_call boot (e ∷ past)) z (tried me n boot b.last_call c e past is (h.outs x n c at)))) (λ z. call_over me j k b.last_call b.last_call boot e past (le_refl _) p.up (h.outs x j k z))) tt tt
    (λ j seat m x y. seated_over me None None b now boot clock clock e past s j m (h.seated j seat m x y)))

-- ---- a call runs: its reply is new

no_key_by : (me : Node) (t : Bool) (k : Key) (h : Held) (hs : List Held) (seats : List Seat) (clock : ℕ) (past : List Entry) → is_reply_to k h.reply ≡ t → HeldWaits me seats clock past h → cond t true (is_held k hs) ≡ true → Above (call_seat k.node seats) k.epoch k.number → (is_held k hs ≡ true → ⊥) → ⊥
no_key_by me true k h hs seats clock past a w e above more = w.under (subst (λ (z : Key). Above (call_seat z.node seats) z.epoch z.number) (sym (reply_key k h.reply a)) above)
no_key_by me false k h hs seats clock past a w e above more = more e

no_key : (me : Node) (k : Key) (hs : List Held) (seats : List Seat) (clock : ℕ) (past : List Entry) → AllOf (HeldWaits me seats clock past) hs → is_held k hs ≡ true → Above (call_seat k.node seats) k.epoch k.number → ⊥
no_key me k [] seats clock past w e above = absurd cc
no_key me k (h ∷ hs) seats clock past w e above = no_key_by me (is_reply_to k h.reply) k h hs seats clock past refl w.0 e above (λ x. no_key me k hs seats clock past w.1 x above)

-- the replies that waited wait on, over an entry that owes nothing
pub old_waits : (me : Node) (b : Backs) (boot : ℕ) (seats now : List Seat) (cs : ℕ → Option Seat) (clock : ℕ) (sent : List Message) (e : Entry) (past : List Entry) → BackedIn me None b boot seats cs clock sent past → all_lines is_oweless e.lines ≡ true → all_lines is_unchanging e.lines ≡ true → ((m : Node) (x y : ℕ) → Above (call_seat m now) x y → Above (call_seat m seats) x y)
    → AllOf (HeldWaits me now clock (e ∷ past)) b.held
old_waits me b boot seats now cs clock sent e past h oweless unchanging seat = all_map (HeldWaits me seats clock past) (HeldWaits me now clock (e ∷ past)) (λ q y. waits_over me seats now clock clock e past q (le_refl _) (λ x. inl (change_back (key_answered q.reply) e.lines (lines_of past) unchanging x))
    (λ before after c what n line. absurd (no_owe e.lines before after me c what n oweless line)) seat y) b.held (h.waiting refl)

-- what the entries of a key owed before that runs now is ended
pub own_past : (me : Node) (b : Backs) (boot : ℕ) (seats : List Seat) (cs : ℕ → Option Seat) (clock : ℕ) (sent : List Message) (e : Entry) (past : List Entry) (hd : Held) (newer : List Entry) (at : Entry) (older : List Entry) (before after : List Line) (c : Node) (what : Option Fid) (n : ℕ) → BackedIn me None b boot seats cs clock sent past → (is_held (key_answered hd.reply) b.held ≡ true → ⊥)
    → AccountedBy me None b.lists.owed b.held clock newer at older before after c what n → WaitedBy me hd clock (e ∷ newer) at older before after c what n
own_past me b boot seats cs clock sent e past hd newer at older before after c what n h none (inl x) k y = inl (ended_over me e clock clock newer at older before after c what n (le_refl _) x)
own_past me b boot seats cs clock sent e past hd newer at older before after c what n h none (inr x) k y = elim (x.1.waits (key_answered hd.reply) k y) [ inl z ↦ inl (ended_over me e clock clock newer at older before after c what n (le_refl _) z) | inr z ↦ absurd (none z) ]

-- what is known of a new reply
pub record NewReply (me : Node) (seats : List Seat) (past : List Entry) (hd : Held) : Type 0 where
  pub client : ℕ
  pub to : hd.reply.head.to ≡ Client client
  pub from : hd.reply.head.from ≡ me
  pub is_reply : OfReply ⊥ hd.reply.carried → ⊥
  pub under : Above (call_seat hd.reply.head.to seats) hd.reply.head.epoch hd.reply.head.number → ⊥

-- what a reply waits for whose key no other waits under
pub own_waited : (me : Node) (b : Backs) (boot : ℕ) (seats : List Seat) (cs : ℕ → Option Seat) (clock : ℕ) (sent : List Message) (e : Entry) (past : List Entry) (hd : Held) → BackedIn me None b boot seats cs clock sent past → all_lines is_oweless e.lines ≡ true → (is_held (key_answered hd.reply) b.held ≡ true → ⊥) → AllOwes me (WaitedBy me hd clock) (e ∷ past)
own_waited me b boot seats cs clock sent e past hd h oweless none =
    owes_over me (AccountedBy me None b.lists.owed b.held clock) (WaitedBy me hd clock) e past (λ y z c what n line. absurd (no_owe e.lines y z me c what n oweless line)) (λ newer at older y z c what n w. own_past me b boot seats cs clock sent e past hd newer at older y z c what n h none w) h.accounted

pub run_loaded : (me : Node) (b : Backs) (ps : List Promise) (boot : ℕ) (seats now : List Seat) (cs : ℕ → Option Seat) (clock : ℕ) (sent : List Message) (e : Entry) (past : List Entry) (hd : Held) → BackedIn me None b boot seats cs clock sent past → all_lines (is_up me) e.lines ≡ true → all_lines is_oweless e.lines ≡ true → all_lines is_unchanging e.lines ≡ true
    → AllOf (IsGranted me (lines_of (e ∷ past))) ps → AllOf (λ (p : Promise). IsClient p.client) ps → Promised me None ps clock (lines_with_gifts me (e ∷ past)) → ((m : Node) (x y : ℕ) → Above (call_seat m now) x y → Above (call_seat m seats) x y) → NewReply me now (e ∷ past) hd → AllOwes me (WaitedBy me hd clock) (e ∷ past)
    → (HasChange (key_answered hd.reply) (lines_of (e ∷ past)) → AllOwes me (AllWaitedBy me hd clock) (e ∷ past))
    → BackedIn me None (record b { lists = record b.lists { promises = ps }; held = b.held ++ hd ∷ [] }) boot now cs clock sent (e ∷ past)
run_loaded me b ps boot seats now cs clock sent e past hd h up oweless unchanging granted clients promised seat new own all =
    let after : Backs = record b { lists = record b.lists { promises = ps }; held = b.held ++ hd ∷ [] } in
    let s : Stepping me None None b after clock clock e past = record {
      was_up = λ x. x;
      up = λ x. up;
      or_stopped = λ x. inl x;
      later = le_refl _;
      new = λ x y d what k line. absurd (no_owe e.lines x y me d what k oweless line);
      gone = λ o x. inl x;
      held = λ k x. more_held k b.held (hd ∷ []) x;
      last = le_refl _;
      calls = calls_same b.calls b.last_call;
    } in
    subst (λ (ms : List Message). BackedIn me None after boot now cs clock ms (e ∷ past)) (append-nil sent)
    (backed_step me None None b after boot seats now cs cs clock clock sent [] e past s h (λ x. granted) promised (numbered_over me None b.lists.last_owed e past up oweless h.numbered) (rising_over me e past oweless h.rising) (λ x. record { promised = clients; owed = (h.clients x).owed }) (λ x. owed_over me e past b.lists.owed up (h.owing x))
    (λ x. all_both (HeldWaits me now clock (e ∷ past)) b.held (hd ∷ []) (old_waits me b boot seats now cs clock sent e past h oweless unchanging seat) (
      record {
        client = new.client;
        to = new.to;
        from = new.from;
        is_reply = new.is_reply;
        under = new.under;
        own = own;
        all = all;
      },
      tt,
    ))
    (λ x j c at. call_over me j c b.last_call b.last_call boot e past (le_refl _) up (h.outs x j c at)) tt tt
    (λ j seat m x y. seated_over me None None b after boot clock clock e past s j m (h.seated j seat m x y)))

pub key_held : (me : Node) (b : Backs) (boot : ℕ) (seats : List Seat) (cs : ℕ → Option Seat) (clock : ℕ) (sent : List Message) (past : List Entry) (k : Key) → BackedIn me None b boot seats cs clock sent past → Above (call_seat k.node seats) k.epoch k.number → is_held k b.held ≡ true → ⊥
key_held me b boot seats cs clock sent past k h above e = no_key me k b.held seats clock past (h.waiting refl) e above

granted_false : (me : Node) (a b : Bool) → (a ≡ true → ⊥) ⊎ (b ≡ true → ⊥) → (same_node me me && (a && b)) ≡ false
granted_false me true true (inl h) = absurd (h refl)
granted_false me true true (inr h) = absurd (h refl)
granted_false me true false h = rw (same_node-refl me) refl
granted_false me false b h = rw (same_node-refl me) refl

granted_if : (t : Bool) (P : Promise → Type 0) (q : Promise) (rest : List Promise) → t ≡ t → (t ≡ true → P q) → AllOf P rest → AllOf P (cond t (q ∷ rest) rest)
granted_if true P q rest e h k = (h refl, k)
granted_if false P q rest e h k = k

grant_by : (t : Bool) (x : ℕ) (o : Option ℕ) (q : ℕ) → t ≡ false → o ≡ Some q → cond t (Some x) o ≡ Some q
grant_by true x o q e h = absurd cc
grant_by false x o q e h = h

not_granted : (me : Node) (a b : Bool) (n m : Node) (f g : Fid) → same_node m n ≡ a → same_fid g f ≡ b → not (a && b) ≡ true → (same_node me me && (same_node n m && same_fid f g)) ≡ false
not_granted me true true n m f g x y e = absurd cc
not_granted me true false n m f g x y e = granted_false me (same_node n m) (same_fid f g) (inr (λ z. let q : same_fid g f ≡ true = ap (same_fid g) (same_fid-true f g z) ∙ same_fid-refl g in absurd cc))
not_granted me false b n m f g x y e = granted_false me (same_node n m) (same_fid f g) (inl (λ z. let q : same_node m n ≡ true = ap (same_node m) (same_node-true n m z) ∙ same_node-refl m in absurd cc))

others_granted : (me : Node) (n : Node) (f : Fid) (x index : ℕ) (base : List Line) (ps : List Promise) → AllOf (IsGranted me base) ps → AllOf (IsGranted me (lines.Grant me n f index x ∷ base)) (filter (λ q. not (is_promise n f q)) ps)
others_granted me n f x index base [] h = tt
others_granted me n f x index base (q ∷ ps) h = granted_if (not (is_promise n f q)) (IsGranted me (lines.Grant me n f index x ∷ base)) q (filter (λ z. not (is_promise n f z)) ps) refl
    (λ e. grant_by (same_node me me && (same_node n q.client && same_fid f q.fid)) x (unbroken_until me q.client q.fid base) q.expiry (not_granted me (same_node q.client n) (same_fid q.fid f) n q.client f q.fid refl refl e) h.0) (others_granted me n f x index base ps h.1)

-- the promises behind a grant
granted_now : (me : Node) (n : Node) (f : Fid) (x index : ℕ) (base : List Line) (ps : List Promise) → AllOf (IsGranted me base) ps → AllOf (IsGranted me (lines.Grant me n f index x ∷ base)) (with_promise n x f ps)
granted_now me n f x index base ps h =
    all_both (IsGranted me (lines.Grant me n f index x ∷ base)) (filter (λ q. not (is_promise n f q)) ps) _ (others_granted me n f x index base ps h) (rw (same_node-refl me, same_node-refl n, same_fid-refl f) refl, tt)

-- behind several
pub all_granted : (me : Node) (n : Node) (x : ℕ) (fs : List Found) (base : List Line) (ps : List Promise) → AllOf (IsGranted me base) ps → AllOf (IsGranted me (onto base (granted me n x fs []))) (with_promises n x fs ps)
all_granted me n x [] base ps h = h
all_granted me n x (f ∷ fs) base ps h = all_granted me n x fs (lines.Grant me n f.fid f.vnode.index x ∷ base) (with_promise n x f.fid ps) (granted_now me n f.fid x f.vnode.index base ps h)

-- a line of which a test holds
pub granted_all : (me : Node) (q : Line → Bool) (c : Node) (x : ℕ) (fs : List Found) → ((f : Fid) (i : ℕ) → q (lines.Grant me c f i x) ≡ true) → all_lines q (granted me c x fs []) ≡ true
granted_all me q c x [] h = refl
granted_all me q c x (f ∷ fs) h = rw (h f.fid f.vnode.index) (granted_all me q c x fs h)

-- ---- a break on all is waited for

all_first_by : (t : Bool) (k n : ℕ) (rest : List ℕ) → t ≡ true → k ≡ n → IsNumberIn n (cond t (k ∷ rest) rest)
all_first_by true k n rest e q = inl q
all_first_by false k n rest e q = absurd cc

all_next_by : (t : Bool) (k n : ℕ) (rest : List ℕ) → IsNumberIn n rest → IsNumberIn n (cond t (k ∷ rest) rest)
all_next_by true k n rest h = inr h
all_next_by false k n rest h = h

in_alls : (o : Owed) (os : List Owed) (n : ℕ) → IsIn o os → o.what ≡ None → o.number ≡ n → IsNumberIn n (alls os)
in_alls o [] n h w e = absurd h
in_alls o (x ∷ os) n (inl q) w e = all_first_by (is_all x.what) x.number n (alls os) (ap (λ (z : Owed). is_all z.what) q ∙ ap is_all w) (ap (λ (z : Owed). z.number) q ∙ e)
in_alls o (x ∷ os) n (inr q) w e = all_next_by (is_all x.what) x.number n (alls os) (in_alls o os n q w e)

pub all_waited : (me : Node) (b : Backs) (boot : ℕ) (seats : List Seat) (cs : ℕ → Option Seat) (clock : ℕ) (sent : List Message) (e : Entry) (past : List Entry) (hd : Held) → BackedIn me None b boot seats cs clock sent past → ((n : ℕ) → IsNumberIn n (alls b.lists.owed) → IsNumberIn n hd.waits)
    → ((before after : List Line) (c : Node) (what : Option Fid) (n : ℕ) → e.lines ≡ before ++ lines.Owe me c what n ∷ after → what ≡ None → ⊥) → AllOwes me (AllWaitedBy me hd clock) (e ∷ past)
all_waited me b boot seats cs clock sent e past hd h more none = owes_over me (AccountedBy me None b.lists.owed b.held clock) (AllWaitedBy me hd clock) e past (λ y z c what n line w. absurd (none y z c what n line w))
    (λ newer at older y z c what n x w. elim x [ inl k ↦ inl (ended_over me e clock clock newer at older y z c what n (le_refl _) k) | inr k ↦ inr (more n (in_alls k.1.o b.lists.owed n k.1.is_in (k.1.on ∙ w) k.1.number)) ]) h.accounted

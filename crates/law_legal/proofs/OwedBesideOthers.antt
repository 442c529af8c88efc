-- What holds of a server's promises and breaks passes over the entries of the other servers.
use Rattle.spec_breaks.specs.declared.types.Promise.{Promise}
use Rattle.spec_history.specs.declared.lines.Line.{Line}
use Rattle.spec_history.specs.declared.lines.Line.TheVariants as lines
use Rattle.law_legal.proofs.OwedPasses.{Stepping, all_lines, backed_step, before_own, calls_same, call_over, is_up, owed_over, seated_over, waits_over, head_same, tail_same}
use Rattle.law_legal.proofs.BaseLaws.{ByServer, Each, IfBack, IfDone, OfCall, OfServer, both, each_map, each_more, if_done, node_apart, same_node-refl, same_node-true, server_any}
use Rattle.law_legal.proofs.OwedBySteps.{IsMessage, break_is}
use Rattle.law_legal.proofs.ServerChooses.{is_from}
use Rattle.law_legal.proofs.OwedFacts.{AllOf, BackIn, BackedIn, DoneIn, HeldWaits, IsClient, IsGranted, Numbered, Promised, Rising, all_both, all_filter, all_map}
use Rattle.law_legal.proofs.PromiseLists.{Owed}
use Rattle.law_legal.proofs.RunClock.{IsCalm}
use Rattle.law_legal.proofs.OwedTurns.{held_all, no_back, of_reply_any}
use Rattle.law_legal.specs.Breaks.{has_answer, is_entry_of, is_on_object, last_number, lines_with_gifts, kept_until, returned_by, returned_in, runs_now, unbroken_until}
use Rattle.law_legal.specs.Legal.{HasChange}
use Rattle.law_legal.specs.Past.{called_key, given_message, lines_of, onto, sent_of}
use Rattle.afs_num.specs.Fids.{same_fid}
use Rattle.afs_num.specs.Nodes.{same_node}
use Rattle.afs_num.specs.declared.messages.Call.TheVariants as ask
use Rattle.afs_num.specs.declared.messages.Carried.{Carried}
use Rattle.afs_num.specs.declared.messages.Carried.TheVariants as carried
use Rattle.afs_num.specs.declared.messages.Message.{Message}
use Rattle.afs_num.specs.declared.types.Fid.{Fid}
use Rattle.afs_num.specs.declared.types.Head.{Head}
use Rattle.afs_num.specs.declared.types.Node.{Node}
use Rattle.afs_num.specs.declared.types.Node.TheVariants.{Server}
use Rattle.spec_rows.specs.Callbacks.{Started, CallbackStep, is_ready, key_answered, pumped, replies_of, starts, starts_by, started_call}
use Rattle.spec_rows.specs.Runs.{Entry, Fall}
use Rattle.spec_rows.specs.States.{BackCall, Backs, Held, Seat}
use Rattle.std.proofs.Common.{◌≡◌, ℕ, ◌≤◌, inl, Bool, true, false, cond, filter, List, [], ◌∷◌, ◌++◌, Option, Some, None, refl, sym, ap, subst, ◌∙◌}
use Rattle.std.proofs.Math.Nat.{le_refl}
use Rattle.std.specs.Prelude.{⊤, not, ◌&&◌}

-- ---- lines of another server

-- it tells nothing of this server's promises, breaks and stops
abbrev pub is_apart : Node → Line → Bool
is_apart me (lines.Grant s c f index expiry) = not (same_node s me)
is_apart me (lines.Crash n) = not (same_node n me)
is_apart me (lines.Fault n) = not (same_node n me)
is_apart me (lines.Owe s c what n) = not (same_node s me)
is_apart me (lines.Drop c f) = false
is_apart me (lines.DropAll c s) = false
is_apart me l = true

abbrev AreApart : Node → List Line → Type 0
AreApart me ls = all_lines (is_apart me) ls ≡ true

server_is : (k i : ℕ) → Server k ≡ Server i → k ≡ i
server_is k i e = cc

other_not : (k i : ℕ) (n : Node) → (k ≡ i → ⊥) → same_node n (Server k) ≡ true → not (same_node n (Server i)) ≡ true
other_not k i n ne h = ap (λ (q : Node). not (same_node q (Server i))) (same_node-true n (Server k) h) ∙ ap not (node_apart (Server k) (Server i) (λ e. ne (server_is k i e)))

other_own : (k i : ℕ) → (k ≡ i → ⊥) → (l : Line) → is_from (Server k) l ≡ true → is_apart (Server i) l ≡ true
other_own k i ne (lines.Grant s c f index expiry) h = other_not k i s ne h
other_own k i ne (lines.Crash n) h = other_not k i n ne h
other_own k i ne (lines.Fault n) h = other_not k i n ne h
other_own k i ne (lines.Owe s c what n) h = other_not k i s ne h
other_own k i ne (lines.Drop c f) h = absurd cc
other_own k i ne (lines.DropAll c s) h = absurd cc
other_own k i ne l h = refl

pub other_calm : (k i : ℕ) → (k ≡ i → ⊥) → IsCalm (Server k) (is_apart (Server i))
other_calm k i ne = record { own = other_own k i ne; change = λ key n. refl; version = λ v. refl }

apart_by : (t : Bool) (rest : Bool) (a o : Option ℕ) → not t ≡ true → cond (t && rest) a o ≡ o
apart_by true rest a o h = absurd cc
apart_by false rest a o h = refl

apart_one : {A : Type 0} → (t : Bool) (a o : A) → not t ≡ true → cond t a o ≡ o
apart_one {A} true a o h = absurd cc
apart_one {A} false a o h = refl

apart_up : (me : Node) (l : Line) → is_apart me l ≡ true → is_up me l ≡ true
apart_up me (lines.Crash n) h = h
apart_up me (lines.Fault n) h = h
apart_up me l h = refl

all_up : (me : Node) (ls : List Line) → AreApart me ls → all_lines (is_up me) ls ≡ true
all_up me [] h = refl
all_up me (l ∷ ls) h = let q = both (is_apart me l) (all_lines (is_apart me) ls) h in rw (apart_up me l q.0, all_up me ls q.1) refl

unbroken_line : (me c : Node) (f : Fid) (l : Line) (o : List Line) → is_apart me l ≡ true → unbroken_until me c f (l ∷ o) ≡ unbroken_until me c f o
unbroken_line me c f (lines.Grant s d g index expiry) o h = apart_by (same_node s me) (same_node d c && same_fid g f) (Some expiry) _ h
unbroken_line me c f (lines.Crash n) o h = apart_one (same_node n me) None _ h
unbroken_line me c f (lines.Fault n) o h = apart_one (same_node n me) None _ h
unbroken_line me c f (lines.Owe s d what n) o h = apart_by (same_node s me) (same_node d c && is_on_object f what) None _ h
unbroken_line me c f l o h = refl

unbroken_apart : (me c : Node) (f : Fid) (ls o : List Line) → AreApart me ls → unbroken_until me c f (onto o ls) ≡ unbroken_until me c f o
unbroken_apart me c f [] o h = refl
unbroken_apart me c f (l ∷ ls) o h = let q = both (is_apart me l) (all_lines (is_apart me) ls) h in unbroken_apart me c f ls (l ∷ o) q.1 ∙ unbroken_line me c f l o q.0

live_line : (me c : Node) (f : Fid) (l : Line) (o : List Line) → is_apart me l ≡ true → kept_until me c f (l ∷ o) ≡ kept_until me c f o
live_line me c f (lines.Grant s d g index expiry) o h = apart_by (same_node s me) (same_node d c && same_fid g f) (Some expiry) _ h
live_line me c f (lines.Crash n) o h = apart_one (same_node n me) None _ h
live_line me c f (lines.Fault n) o h = apart_one (same_node n me) None _ h
live_line me c f (lines.Owe s d what n) o h = apart_by (same_node s me) (same_node d c && is_on_object f what) None _ h
live_line me c f (lines.Drop d g) o h = absurd cc
live_line me c f (lines.DropAll d s) o h = absurd cc
live_line me c f l o h = refl

live_apart : (me c : Node) (f : Fid) (ls o : List Line) → AreApart me ls → kept_until me c f (onto o ls) ≡ kept_until me c f o
live_apart me c f [] o h = refl
live_apart me c f (l ∷ ls) o h = let q = both (is_apart me l) (all_lines (is_apart me) ls) h in live_apart me c f ls (l ∷ o) q.1 ∙ live_line me c f l o q.0

number_line : (me : Node) (l : Line) (o : List Line) → is_apart me l ≡ true → last_number me (l ∷ o) ≡ last_number me o
number_line me (lines.Owe s d what n) o h = apart_one (same_node s me) n _ h
number_line me (lines.Crash n) o h = apart_one (same_node n me) 0 _ h
number_line me (lines.Fault n) o h = apart_one (same_node n me) 0 _ h
number_line me l o h = refl

number_apart : (me : Node) (ls o : List Line) → AreApart me ls → last_number me (onto o ls) ≡ last_number me o
number_apart me [] o h = refl
number_apart me (l ∷ ls) o h = let q = both (is_apart me l) (all_lines (is_apart me) ls) h in number_apart me ls (l ∷ o) q.1 ∙ number_line me l o q.0

not_me : (me n : Node) → not (same_node n me) ≡ true → n ≡ me → ⊥
not_me me n h e = let yes : same_node n me ≡ true = ap (λ (q : Node). same_node q me) e ∙ same_node-refl me in absurd cc

rising_line : (me : Node) (l : Line) (o : List Line) → is_apart me l ≡ true → Rising me o → Rising me (l ∷ o)
rising_line me (lines.Owe s d what n) o h r = (λ e. absurd (not_me me s h e), r)
rising_line me l o h r = r

rising_apart : (me : Node) (ls o : List Line) → AreApart me ls → Rising me o → Rising me (onto o ls)
rising_apart me [] o h r = r
rising_apart me (l ∷ ls) o h r = let q = both (is_apart me l) (all_lines (is_apart me) ls) h in rising_apart me ls (l ∷ o) q.1 (rising_line me l o q.0 r)

owe_line_not : (me : Node) (l : Line) (c : Node) (what : Option Fid) (n : ℕ) → is_apart me l ≡ true → l ≡ lines.Owe me c what n → ⊥
owe_line_not me l c what n h e = not_me me me (ap (is_apart me) (sym e) ∙ h) refl

no_own_owe : (me : Node) (ls before after : List Line) (c : Node) (what : Option Fid) (n : ℕ) → AreApart me ls → ls ≡ before ++ lines.Owe me c what n ∷ after → ⊥
no_own_owe me [] [] after c what n h e = absurd cc
no_own_owe me [] (x ∷ before) after c what n h e = absurd cc
no_own_owe me (l ∷ ls) [] after c what n h e = owe_line_not me l c what n (both (is_apart me l) (all_lines (is_apart me) ls) h).0 (head_same l _ ls after e)
no_own_owe me (l ∷ ls) (x ∷ before) after c what n h e = no_own_owe me ls before after c what n (both (is_apart me l) (all_lines (is_apart me) ls) h).1 (tail_same l x ls _ e)

-- ---- over an entry of another server

numbered_apart : (me : Node) (d : Option Fall) (last : ℕ) (e : Entry) (past : List Entry) → AreApart me e.lines → Numbered me d last (lines_of past) → Numbered me d last (lines_of (e ∷ past))
numbered_apart me None last e past h n = number_apart me e.lines (lines_of past) h ∙ n
numbered_apart me (Some fall) last e past h n = number_apart me e.lines (lines_of past) h ∙ n

none_returned : (t : Bool) (me : Node) (e : Entry) (o : Option Message) (past : List Entry) → is_entry_of me e.actor ≡ t → t ≡ false → returned_in me e o past ≡ []
none_returned t me e None past a b = refl
none_returned t me e (Some m) past a b = ap (λ (x : Bool). returned_by me (x && (runs_now me m.head past && has_answer (called_key m.head) e.sent)) m.head m.carried) (a ∙ b)

promised_apart : (me : Node) (d : Option Fall) (ps : List Promise) (clock : ℕ) (e : Entry) (past : List Entry) → AreApart me e.lines → is_entry_of me e.actor ≡ false → Promised me d ps clock (lines_with_gifts me past) → Promised me d ps clock (lines_with_gifts me (e ∷ past))
promised_apart me d ps clock e past h other w j f x l t =
    let same : before_own me e past ≡ lines_with_gifts me past = ap (onto (lines_with_gifts me past)) (none_returned (is_entry_of me e.actor) me e (given_message e.lines (sent_of past)) past refl other) in
    w j f x (ap (kept_until me j f) (sym same) ∙ (sym (live_apart me j f e.lines (before_own me e past) h) ∙ l)) t

-- ---- the messages of another server

other_calls : (me other : Node) (d : Option Fall) (calls : Node → Option BackCall) (last boot : ℕ) (head : Head) (c : Carried) → (other ≡ me → ⊥) → head.from ≡ other → OfCall (λ h user call. IsClient h.to) head c → OfCall (ByServer (BackIn me d calls last boot)) head c
other_calls me other d calls last boot head (carried.Call user (ask.File call)) ne from h =
    server_any head.from (BackIn me d calls last boot head user call) (record { client = head.to; to = refl; booted = λ own. absurd (ne (sym from ∙ own)); below = λ own. absurd (ne (sym from ∙ own)); is = λ c own. absurd (ne (sym from ∙ own)) })
other_calls me other d calls last boot head (carried.Call user (ask.Volume call)) ne from h = absurd h
other_calls me other d calls last boot head (carried.Call user (ask.Location call)) ne from h = h
other_calls me other d calls last boot head (carried.Refusal code) ne from h = tt
other_calls me other d calls last boot head (carried.Reply reply) ne from h = tt
other_calls me other d calls last boot head carried.Notice ne from h = tt

-- ---- all of it

abbrev pub KeepsKey : Entry → List Entry → Held → Type 0
KeepsKey e past h = HasChange (key_answered h.reply) (lines_of (e ∷ past)) → HasChange (key_answered h.reply) (lines_of past)

waiting_apart : (me : Node) (seats : List Seat) (clock : ℕ) (e : Entry) (past : List Entry) (hs : List Held) → AreApart me e.lines → AllOf (HeldWaits me seats clock past) hs → AllOf (KeepsKey e past) hs → AllOf (HeldWaits me seats clock (e ∷ past)) hs
waiting_apart me seats clock e past [] h w k = tt
waiting_apart me seats clock e past (x ∷ hs) h w k = (
  waits_over me seats seats clock clock e past x (le_refl _) (λ z. inl (k.0 z)) (λ before after c what n line. absurd (no_own_owe me e.lines before after c what n h line)) (λ n u v z. z) w.0,
  waiting_apart me seats clock e past hs h w.1 k.1,
)

pub apart_backed : (me other : Node) (d : Option Fall) (b : Backs) (boot : ℕ) (seats : List Seat) (cs : ℕ → Option Seat) (clock : ℕ) (sent ms : List Message) (e : Entry) (past : List Entry) → (other ≡ me → ⊥) → AreApart me e.lines → is_entry_of me e.actor ≡ false → (d ≡ None → AllOf (KeepsKey e past) b.held) → Each (IsMessage other) ms
    → BackedIn me d b boot seats cs clock sent past → BackedIn me d b boot seats cs clock (sent ++ ms) (e ∷ past)
apart_backed me other d b boot seats cs clock sent ms e past ne h by keys own B =
    let up : all_lines (is_up me) e.lines ≡ true = all_up me e.lines h in
    let s : Stepping me d d b b clock clock e past = record {
      was_up = λ x. x;
      up = λ x. up;
      or_stopped = λ x. inl x;
      later = le_refl _;
      new = λ before after c what n line. absurd (no_own_owe me e.lines before after c what n h line);
      gone = λ o x. inl x;
      held = λ k x. x;
      last = le_refl _;
      calls = calls_same b.calls b.last_call;
    } in
    backed_step me d d b b boot seats seats cs cs clock clock sent ms e past s B (λ x. all_map (IsGranted me (lines_of past)) (IsGranted me (lines_of (e ∷ past))) (λ p y. unbroken_apart me p.client p.fid e.lines (lines_of past) h ∙ y) b.lists.promises (B.granted x))
    (promised_apart me d b.lists.promises clock e past h by B.promised) (numbered_apart me d b.lists.last_owed e past h B.numbered) (rising_apart me e.lines (lines_of past) h B.rising) B.clients (λ x. owed_over me e past b.lists.owed up (B.owing x)) (λ x. waiting_apart me seats clock e past b.held h (B.waiting x) (keys x))
    (λ x j c at. call_over me j c b.last_call b.last_call boot e past (le_refl _) up (B.outs x j c at)) (each_map (IsMessage other) (IfBack (BackIn me d b.calls b.last_call boot)) (λ m x. other_calls me other d b.calls b.last_call boot m.head m.carried ne x.from x.calls) ms own)
    (each_map (IsMessage other) (IfDone (DoneIn me d b.calls b.last_call boot (e ∷ past))) (λ m x. if_done (λ k. ⊥) (DoneIn me d b.calls b.last_call boot (e ∷ past)) (λ k z. absurd z) m x.replies) ms own) (λ j seat m x y. seated_over me d d b b boot clock clock e past s j m (B.seated j seat m x y))

-- ---- what a server sends

held_own : (me : Node) (seats : List Seat) (clock : ℕ) (past : List Entry) (hs : List Held) → AllOf (HeldWaits me seats clock past) hs → Each (IsMessage me) (replies_of hs)
held_own me seats clock past [] w = tt
held_own me seats clock past (h ∷ hs) w = (
  record {
    from = w.0.from;
    calls = no_back (λ head user call. IsClient head.to) h.reply.head h.reply.carried w.0.is_reply;
    replies = of_reply_any (OfServer h.reply.head.to ⊥) h.reply.carried (subst (λ (n : Node). OfServer n ⊥) (sym w.0.to) tt);
  },
  held_own me seats clock past hs w.1,
)

by_own : (me : Node) (boot : ℕ) (t : Started) (o : Owed) (x : Option BackCall) → IsClient o.client → Each (IsMessage me) t.sent → Each (IsMessage me) (starts_by me boot t o x).sent
by_own me boot t o None is h = each_more (IsMessage me) t.sent _ h (break_is me boot o.client (t.backs.known o.client) (started_call t.backs o) is, tt)
by_own me boot t o (Some c) is h = h

starts_own : (me : Node) (boot : ℕ) (os : List Owed) (t : Started) → AllOf (λ (o : Owed). IsClient o.client) os → Each (IsMessage me) t.sent → Each (IsMessage me) (starts me boot os t).sent
starts_own me boot [] t is h = h
starts_own me boot (o ∷ os) t is h = starts_own me boot os _ is.1 (by_own me boot t o (t.backs.calls o.client) is.0 h)

pub pumped_own : (me : Node) (boot : ℕ) (seats : List Seat) (clock : ℕ) (past : List Entry) (t : CallbackStep) → AllOf (λ (o : Owed). IsClient o.client) t.backs.lists.owed → AllOf (HeldWaits me seats clock past) (t.backs.held ++ t.outs) → Each (IsMessage me) t.sent → Each (IsMessage me) (pumped me boot t).sent
pumped_own me boot seats clock past t is w h =
    let q = held_all (HeldWaits me seats clock past) t.backs.held t.outs w in
    starts_own me boot t.backs.lists.owed _ is
    (each_more (IsMessage me) t.sent _ h (held_own me seats clock past (filter (is_ready t.backs.lists.owed) (t.outs ++ t.backs.held)) (all_filter (HeldWaits me seats clock past) (is_ready t.backs.lists.owed) (t.outs ++ t.backs.held) (all_both (HeldWaits me seats clock past) t.outs t.backs.held q.1 q.0))))

-- How a step of the server begins and ends, for the facts on breaks.
use Rattle.spec_model.specs.Calls.{same_key}
use Rattle.afs_num.specs.declared.histories.Actor.TheVariants as actors
use Rattle.spec_breaks.specs.Promises.{has_break}
use Rattle.spec_breaks.specs.declared.types.Promise.{Promise}
use Rattle.law_legal.proofs.PromiseLists.{Owed}
use Rattle.std.proofs.Common.{◌≡◌, ◌+◌, ◌<◌, ◌≤◌, ◌⊎◌, inl, inr, Bool, true, false, cond, nat_eq, nat_lt, ℕ, zero, suc, List, [], ◌∷◌, ◌++◌, Option, Some, None, refl, sym, ap, subst, ◌∙◌, arith, eqb-true, eq-eqb, ltb-false, lt-ltb}
use Rattle.std.proofs.lemmas.List.{append_assoc}
use Rattle.std.specs.Prelude.{filter, not}
use Rattle.std.proofs.Math.Nat.{le_refl, le_trans}
use Rattle.afs_num.specs.Nodes.{same_node}
use Rattle.afs_num.specs.declared.types.Fid.{Fid}
use Rattle.afs_num.specs.declared.types.Head.{Head}
use Rattle.afs_num.specs.declared.types.Key.{Key}
use Rattle.afs_num.specs.declared.types.Node.{Node}
use Rattle.afs_num.specs.declared.types.Node.TheVariants.{Admin, Client, Loc, Server}
use Rattle.afs_num.specs.declared.calls.FsCall.{FsCall}
use Rattle.afs_num.specs.declared.messages.Carried.{Carried}
use Rattle.afs_num.specs.declared.messages.Message.{Message}
use Rattle.law_legal.proofs.OwedPasses.{back_pass, done_pass, CallsPass}
use Rattle.law_legal.proofs.BaseLaws.{server_any, same_key-true, both, same_node-true, Each, IfBack, IfDone, OfCall, OfReply, OfServer, ByServer, each_more, each_map, if_back, if_done, some_of}
use Rattle.law_legal.proofs.OwedFacts.{AllOf, all_map, all_both, all_filter, IsGranted, IsIn, IsNumberIn, HeldWaits, IsOwed, CallOut, BackIn, DoneIn, BackedIn, IsPromised, promise_to, IsClient, is_held}
use Rattle.law_legal.specs.Breaks.{HasCome, AllOwes, EndedBy, EndedOf, EndedAll, CarriesBreak, NamesIn}
use Rattle.spec_rows.specs.Callbacks.{put_at, CallbackStep, Started, expired, is_all, waits_none, is_ready, is_reply_to, key_answered, fids_of, breaks_call, fid_before, break_call, break_message, first_breaks, is_break_for, most_breaks, carries_for, started_call, starts_by, starts, replies_of, held_after, given_out, pumped}
use Rattle.law_legal.specs.Ideal.{clock_of}
use Rattle.law_legal.specs.Legal.{HasOwnKey, IsOfServer, HasOwnHalf, IsBy, GoodCall, GoodGift, HasChange, GoodReply, AreGoodSent}
use Rattle.spec_history.specs.declared.lines.Line.{Line}
use Rattle.law_legal.specs.Past.{SendsTo, has_sent, is_called, server_boot, lines_of, sent_of, given_message, answered_key, called_key, IsCallUnder}
use Rattle.spec_rows.specs.Runs.{Entry}
use Rattle.spec_rows.specs.States.{Seat, BackCall, Held, Backs}
use Rattle.afs_num.specs.declared.messages.Carried.TheVariants as carried
use Rattle.afs_num.specs.declared.messages.Call.TheVariants as ask
use Rattle.spec_history.specs.declared.lines.Line.TheVariants as lines

-- ---- the step begins: what has expired is gone

in_by : (t : Bool) (x o : Owed) (os rest : List Owed) (q : Owed → Bool) → q x ≡ t → q o ≡ true → (IsIn o os → IsIn o rest) → (x ≡ o) ⊎ IsIn o os → IsIn o (cond t (x ∷ rest) rest)
in_by true x o os rest q a b w (inl e) = inl e
in_by true x o os rest q a b w (inr h) = inr (w h)
in_by false x o os rest q a b w (inl e) = let y : q x ≡ true = ap q e ∙ b in absurd cc
in_by false x o os rest q a b w (inr h) = w h

pub in_filter : (q : Owed → Bool) (o : Owed) (os : List Owed) → IsIn o os → q o ≡ true → IsIn o (filter q os)
in_filter q o [] h e = absurd h
in_filter q o (x ∷ os) h e = in_by (q x) x o os (filter q os) q refl e (λ y. in_filter q o os y e) h

expired_by : (t : Bool) (clock : ℕ) (o : Owed) (E S : Type 0) → nat_lt clock o.expiry ≡ t → (o.expiry ≤ clock → E) → (nat_lt clock o.expiry ≡ true → S) → E ⊎ S
expired_by true clock o E S h a b = inr (b h)
expired_by false clock o E S h a b = inl (a (ltb-false clock o.expiry h))

stays_by : (t : Bool) (p q : Promise) (ps : List Promise) → t ≡ true → q ≡ p → IsPromised p (cond t (q ∷ ps) ps)
stays_by true p q ps t e = inl e
stays_by false p q ps t e = absurd cc

stays_more : (t : Bool) (p q : Promise) (ps : List Promise) → IsPromised p ps → IsPromised p (cond t (q ∷ ps) ps)
stays_more true p q ps h = inr h
stays_more false p q ps h = h

pub kept_in : (q : Promise → Bool) (p : Promise) (ps : List Promise) → IsPromised p ps → q p ≡ true → IsPromised p (filter q ps)
kept_in q p [] h e = absurd h
kept_in q p (r ∷ ps) (inl x) e = stays_by (q r) p r (filter q ps) (ap q x ∙ e) x
kept_in q p (r ∷ ps) (inr h) e = stays_more (q r) p r (filter q ps) (kept_in q p ps h e)

pub expired_backed : (me : Node) (b : Backs) (boot : ℕ) (seats : List Seat) (cs : ℕ → Option Seat) (clock : ℕ) (sent : List Message) (past : List Entry) → BackedIn me None b boot seats cs clock sent past → BackedIn me None (expired clock b) boot seats cs clock sent past
expired_backed me b boot seats cs clock sent past h = record {
  granted = λ x. all_filter (IsGranted me (lines_of past)) (λ p. nat_lt clock p.expiry) b.lists.promises (h.granted x);
  promised = λ j f x l t. let q = h.promised j f x l t in (q.0, kept_in (λ p. nat_lt clock p.expiry) (promise_to j f x) b.lists.promises q.1 (lt-ltb _ _ t));
  numbered = h.numbered;
  rising = h.rising;
  clients = λ x. record { promised = all_filter (λ (p : Promise). IsClient p.client) (λ p. nat_lt clock p.expiry) b.lists.promises (h.clients x).promised; owed = all_filter (λ (o : Owed). IsClient o.client) (λ o. nat_lt clock o.expiry) b.lists.owed (h.clients x).owed };
  accounted = λ newer at older before after c what n split line. elim (h.accounted newer at older before after c what n split line) [
    | inl x ↦ inl x
    | inr x ↦ expired_by (nat_lt clock x.1.o.expiry) clock x.1.o _ _ refl (λ le. inr (inr (subst (λ (o : Option ℕ). HasCome o clock) (sym x.1.expiry) le)))
        (λ y. (x.0, record { o = x.1.o; is_in = in_filter (λ o. nat_lt clock o.expiry) x.1.o b.lists.owed x.1.is_in y; number = x.1.number; client = x.1.client; on = x.1.on; expiry = x.1.expiry; waits = x.1.waits }))
  ];
  owing = λ x. all_filter (λ (o : Owed). IsOwed me o.client (lines_of past) o) (λ o. nat_lt clock o.expiry) b.lists.owed (h.owing x);
  waiting = h.waiting;
  outs = h.outs;
  calls = h.calls;
  dones = h.dones;
  seated = h.seated;
}

-- ---- replies whose breaks have ended go out

-- the step's new replies wait like the others
abbrev pub loaded : CallbackStep → Backs
loaded t = record t.backs { held = t.backs.held ++ t.outs }

pub reply_key : (k : Key) (m : Message) → is_reply_to k m ≡ true → key_answered m ≡ k
reply_key k m t =
    let a = both (same_node m.head.to k.node) _ t in
    let b = both _ _ a.1 in
    ap (λ (n : Node). record { node = n; epoch = m.head.epoch; number = m.head.number }) (same_node-true m.head.to k.node a.0)
    ∙ (ap (λ (e : ℕ). record { node = k.node; epoch = e; number = m.head.number }) (eqb-true _ _ b.0) ∙ ap (λ (n : ℕ). record { node = k.node; epoch = k.epoch; number = n }) (eqb-true _ _ b.1))

number_by : (t : Bool) (rest : Bool) → t ≡ true → cond t true rest ≡ true
number_by true rest e = refl
number_by false rest e = absurd cc

pub number_second : (t rest : Bool) → rest ≡ true → cond t true rest ≡ true
number_second true rest e = refl
number_second false rest e = e

number_in : (n : ℕ) (o : Owed) (os : List Owed) → IsIn o os → o.number ≡ n → has_break n os ≡ true
number_in n o [] h e = absurd h
number_in n o (x ∷ os) (inl y) e = number_by (nat_eq x.number n) (has_break n os) (eq-eqb x.number n (ap (λ (z : Owed). z.number) y ∙ e))
number_in n o (x ∷ os) (inr y) e = number_second (nat_eq x.number n) (has_break n os) (number_in n o os y e)

not_ready_by : (t u : Bool) → (t ≡ true) ⊎ (u ≡ false) → cond t false u ≡ false
not_ready_by true u h = refl
not_ready_by false u (inl x) = absurd cc
not_ready_by false u (inr x) = x

not_ready : (n : ℕ) (ks : List ℕ) (os : List Owed) → IsNumberIn n ks → has_break n os ≡ true → waits_none ks os ≡ false
not_ready n [] os h e = absurd h
not_ready n (k ∷ ks) os (inl x) e = not_ready_by (has_break k os) (waits_none ks os) (inl (ap (λ (z : ℕ). has_break z os) x ∙ e))
not_ready n (k ∷ ks) os (inr x) e = not_ready_by (has_break k os) (waits_none ks os) (inr (not_ready n ks os x e))

-- a break that is owed keeps the reply of its key
stays_held : (t r : Bool) (k : Key) (h : Held) (rest : List Held) → r ≡ false → is_reply_to k h.reply ≡ t → t ≡ true ⊎ (is_held k rest ≡ true) → is_held k (cond (not r) (h ∷ rest) rest) ≡ true
stays_held true false k h rest e a b = number_by (is_reply_to k h.reply) (is_held k rest) a
stays_held true true k h rest e a b = absurd cc
stays_held false false k h rest e a (inl x) = absurd cc
stays_held false false k h rest e a (inr x) = number_second (is_reply_to k h.reply) (is_held k rest) x
stays_held false true k h rest e a b = absurd cc

rest_held : (r : Bool) (k : Key) (h : Held) (rest : List Held) → is_held k rest ≡ true → is_held k (cond (not r) (h ∷ rest) rest) ≡ true
rest_held true k h rest e = e
rest_held false k h rest e = number_second (is_reply_to k h.reply) (is_held k rest) e

kept_by : (t : Bool) (E : Type 0) (k : Key) (h : Held) (r : Bool) (hs rest : List Held) → is_reply_to k h.reply ≡ t → cond t true (is_held k hs) ≡ true → (key_answered h.reply ≡ k → E ⊎ (r ≡ false)) → (is_held k hs ≡ true → E ⊎ (is_held k rest ≡ true)) → E ⊎ (is_held k (cond (not r) (h ∷ rest) rest) ≡ true)
kept_by true E k h r hs rest a e own more = elim (own (reply_key k h.reply a)) [ inl x ↦ inl x | inr x ↦ inr (stays_held true r k h rest x a (inl refl)) ]
kept_by false E k h r hs rest a e own more = elim (more e) [ inl x ↦ inl x | inr x ↦ inr (rest_held r k h rest x) ]

kept_held : (me : Node) (seats : List Seat) (clock : ℕ) (past : List Entry) (owed : List Owed) (hs : List Held) (k : Key) (boot : ℕ) (newer : List Entry) (at : Entry) (older : List Entry) (before after : List Line) (c : Node) (what : Option Fid) (n : ℕ) → AllOf (HeldWaits me seats clock past) hs
    → past ≡ newer ++ (at ∷ older) → at.lines ≡ before ++ lines.Owe me c what n ∷ after → has_break n owed ≡ true → IsCallUnder me k boot (given_message at.lines (sent_of older)) → is_held k hs ≡ true
    → EndedBy me clock newer at older before after c what n ⊎ (is_held k (filter (λ h. not (is_ready owed h)) hs) ≡ true)
kept_held me seats clock past owed [] k boot newer at older before after c what n w split line is y e = absurd cc
kept_held me seats clock past owed (h ∷ hs) k boot newer at older before after c what n w split line is y e =
    kept_by (is_reply_to k h.reply) _ k h (is_ready owed h) hs (filter (λ z. not (is_ready owed z)) hs) refl e
    (λ q. elim (w.0.own newer at older before after c what n split line boot (subst (λ (z : Key). IsCallUnder me z boot (given_message at.lines (sent_of older))) (sym q) y)) [ inl x ↦ inl x | inr x ↦ inr (not_ready n h.waits owed x is) ])
    (kept_held me seats clock past owed hs k boot newer at older before after c what n w.1 split line is y)

pub no_back : (P : Head → List ℕ → FsCall → Type 0) (head : Head) (c : Carried) → (OfReply ⊥ c → ⊥) → OfCall P head c
no_back P head (carried.Call user call) r = absurd (r tt)
no_back P head (carried.Refusal code) r = tt
no_back P head (carried.Reply reply) r = tt
no_back P head carried.Notice r = tt

pub of_reply_any : (P : Type 0) (c : Carried) → P → OfReply P c
of_reply_any P (carried.Call user call) x = tt
of_reply_any P (carried.Refusal code) x = x
of_reply_any P (carried.Reply reply) x = x
of_reply_any P carried.Notice x = tt

pub not_server : (n : Node) (j : ℕ) (X : Type 0) → n ≡ Client j → OfServer n X
not_server n j X e = subst (λ (m : Node). OfServer m X) (sym e) tt

replies_back : (me : Node) (P : Head → List ℕ → FsCall → Type 0) (seats : List Seat) (clock : ℕ) (past : List Entry) (hs : List Held) → AllOf (HeldWaits me seats clock past) hs → Each (IfBack P) (replies_of hs)
replies_back me P seats clock past [] w = tt
replies_back me P seats clock past (h ∷ hs) w = (no_back (ByServer P) h.reply.head h.reply.carried w.0.is_reply, replies_back me P seats clock past hs w.1)

replies_done : (me : Node) (P : Message → Type 0) (seats : List Seat) (clock : ℕ) (past : List Entry) (hs : List Held) → AllOf (HeldWaits me seats clock past) hs → Each (IfDone P) (replies_of hs)
replies_done me P seats clock past [] w = tt
replies_done me P seats clock past (h ∷ hs) w = (of_reply_any _ h.reply.carried (not_server h.reply.head.to w.0.client _ w.0.to), replies_done me P seats clock past hs w.1)

-- what was held and what is new
pub held_all : {A : Type 0} → (P : A → Type 0) (xs ys : List A) → AllOf P (xs ++ ys) → AllOf P xs × AllOf P ys
held_all P [] ys h = (tt, h)
held_all P (x ∷ xs) ys h = let q = held_all P xs ys h.1 in ((h.0, q.0), q.1)

-- ---- what goes out is good

ready_not : (n : ℕ) (o : Owed) (ks : List ℕ) (os : List Owed) (X : Type 0) → IsNumberIn n ks → IsIn o os → o.number ≡ n → waits_none ks os ≡ true → X
ready_not n o ks os X a b c e = let x : waits_none ks os ≡ false = not_ready n ks os a (number_in n o os b c) in absurd cc

reply_good : (me : Node) (b : Backs) (boot : ℕ) (seats : List Seat) (cs : ℕ → Option Seat) (clock : ℕ) (sent : List Message) (past : List Entry) (h : Held) → BackedIn me None b boot seats cs clock sent past → clock_of (lines_of past) ≡ clock → HeldWaits me seats clock past h → is_ready b.lists.owed h ≡ true → server_boot me (lines_of past) ≡ Some boot → GoodReply past h.reply
reply_good me b boot seats cs clock sent past h B time w ready up is nought i from = (
  subst (λ (s : Node). AllOwes s (EndedOf s (answered_key h.reply.head) (clock_of (lines_of past))) past × (HasChange (answered_key h.reply.head) (lines_of past) → AllOwes s (EndedAll s (clock_of (lines_of past))) past)) (sym w.from)
      (subst (λ (t : ℕ). AllOwes me (EndedOf me (answered_key h.reply.head) t) past × (HasChange (answered_key h.reply.head) (lines_of past) → AllOwes me (EndedAll me t) past)) (sym time) (
        (λ newer at older before after c what n split line k y. elim (B.accounted newer at older before after c what n split line) [
          | inl x ↦ x
          | inr x ↦ elim (w.own newer at older before after c what n split line k y) [ inl z ↦ z | inr z ↦ ready_not n x.1.o h.waits b.lists.owed _ z x.1.is_in x.1.number ready ]
        ]),
        (λ changed newer at older before after c what n split line all. elim (B.accounted newer at older before after c what n split line) [
          | inl x ↦ x
          | inr x ↦ elim (w.all changed newer at older before after c what n split line all) [ inl z ↦ z | inr z ↦ ready_not n x.1.o h.waits b.lists.owed _ z x.1.is_in x.1.number ready ]
        ]),
      )),
  λ down. let e : None ≡ Some boot = sym (subst (λ (q : Node). server_boot q (lines_of past) ≡ None) w.from down) ∙ up in absurd cc,
)

-- what is no call gives nothing back
pub reply_gift : (head : Head) (c : Carried) (ls : List Line) → (OfReply ⊥ c → ⊥) → GoodGift head c ls
reply_gift head (carried.Call user call) ls h = absurd (h tt)
reply_gift head (carried.Refusal code) ls h = tt
reply_gift head (carried.Reply reply) ls h = tt
reply_gift head carried.Notice ls h = tt

-- what is no call uses no key
pub reply_key_good : (head : Head) (c : Carried) (past : List Entry) → (OfReply ⊥ c → ⊥) → GoodCall head c past
reply_key_good head (carried.Call user call) past h = absurd (h tt)
reply_key_good head (carried.Refusal code) past h = tt
reply_key_good head (carried.Reply reply) past h = tt
reply_key_good head carried.Notice past h = tt

-- and is none by its half
pub reply_half : (head : Head) (c : Carried) → (OfReply ⊥ c → ⊥) → HasOwnHalf (record { head = head; carried = c })
reply_half head (carried.Call user call) h = absurd (h tt)
reply_half head (carried.Refusal code) h = λ z. absurd z
reply_half head (carried.Reply reply) h = λ z. absurd z
reply_half head carried.Notice h = λ z. absurd z

good_by : (t : Bool) (past : List Entry) (h : Held) (rest : List Held) → IsBy h.reply.head.from past → (t ≡ true → GoodReply past h.reply) → (OfReply ⊥ h.reply.carried → ⊥) → AreGoodSent past (replies_of rest) → AreGoodSent past (replies_of (cond t (h ∷ rest) rest))
good_by true past h rest by a is b = (record { sender = by; half = reply_half h.reply.head h.reply.carried is; reply = a refl; gift = reply_gift h.reply.head h.reply.carried (lines_of past) is; key = reply_key_good h.reply.head h.reply.carried past is }, b)
good_by false past h rest by a is b = b

replies_good : (me : Node) (b : Backs) (boot : ℕ) (seats : List Seat) (cs : ℕ → Option Seat) (clock : ℕ) (sent : List Message) (past : List Entry) (hs : List Held) → BackedIn me None b boot seats cs clock sent past → clock_of (lines_of past) ≡ clock → AllOf (HeldWaits me seats clock past) hs → server_boot me (lines_of past) ≡ Some boot → IsBy me past → AreGoodSent past (replies_of (filter (is_ready b.lists.owed) hs))
replies_good me b boot seats cs clock sent past [] B time w up by = tt
replies_good me b boot seats cs clock sent past (h ∷ hs) B time w up by = good_by (is_ready b.lists.owed h) past h (filter (is_ready b.lists.owed) hs) (subst (λ (n : Node). IsBy n past) (sym w.0.from) by) (λ e. reply_good me b boot seats cs clock sent past h B time w.0 e up) w.0.is_reply (replies_good me b boot seats cs clock sent past hs B time w.1 up by)

pub good_more : (past : List Entry) (a b : List Message) → AreGoodSent past a → AreGoodSent past b → AreGoodSent past (a ++ b)
good_more past [] b h k = k
good_more past (m ∷ a) b h k = (h.0, good_more past a b h.1 k)

-- a call is no reply
pub call_good : (past : List Entry) (head : Head) (user : List ℕ) (call : FsCall) → GoodReply past (record { head = head; carried = carried.Call user (ask.File call) })
call_good past head user call is nought i from = absurd is.1

-- ---- calls for what is owed

abbrev IsBacked : Node → ℕ → List Seat → (ℕ → Option Seat) → ℕ → List Message → List Entry → Started → Type 0
IsBacked me boot seats cs clock sent past t = BackedIn me None t.backs boot seats cs clock (sent ++ t.sent) past

-- breaks on fids are carried by their call
names_more : (f g : Fid) (w : Option Fid) (fs : List Fid) → NamesIn w fs → NamesIn w (g ∷ fs)
names_more f g None fs h = h
names_more f g (Some x) fs h = inr h

head_named : (w : Option Fid) (fs : List Fid) → is_all w ≡ false → NamesIn w (fid_before w fs)
head_named None fs h = absurd cc
head_named (Some f) fs h = inl refl

tail_named : (v w : Option Fid) (fs : List Fid) → NamesIn v fs → NamesIn v (fid_before w fs)
tail_named v None fs h = h
tail_named v (Some g) fs h = names_more g g v fs h

abbrev IsOnFid : Owed → Type 0
IsOnFid o = is_all o.what ≡ false

all_named : (os : List Owed) → AllOf IsOnFid os → AllOf (λ (o : Owed). NamesIn o.what (fids_of os)) os
all_named [] h = tt
all_named (o ∷ os) h = (head_named o.what (fids_of os) h.0, all_map (λ (x : Owed). NamesIn x.what (fids_of os)) (λ (x : Owed). NamesIn x.what (fid_before o.what (fids_of os))) (λ x y. tail_named x.what o.what (fids_of os) y) os (all_named os h.1))

carried_by : (w : Option Fid) (os xs : List Owed) → is_all w ≡ false → AllOf (λ (o : Owed). NamesIn o.what (fids_of os)) xs → AllOf (λ (o : Owed). CarriesBreak (break_call w os) o.what) xs
carried_by None os xs h k = absurd cc
carried_by (Some f) os xs h k = k

all_carried : (os : List Owed) → AllOf IsOnFid os → AllOf (λ (o : Owed). CarriesBreak (breaks_call os) o.what) os
all_carried [] h = tt
all_carried (o ∷ os) h = carried_by o.what (o ∷ os) (o ∷ os) h.0 (all_named (o ∷ os) h)

all_first : (P : Owed → Type 0) (k : ℕ) (os : List Owed) → AllOf P os → AllOf P (first_breaks k os)
all_first P zero os h = tt
all_first P (suc k) [] h = tt
all_first P (suc k) (o ∷ os) h = (h.0, all_first P k os h.1)

picked_by : (P Q : Owed → Type 0) (t : Bool) (o : Owed) (os : List Owed) → (t ≡ true → P o → Q o) → P o → AllOf Q os → AllOf Q (cond t (o ∷ os) os)
picked_by P Q true o os w h k = (w refl h, k)
picked_by P Q false o os w h k = k

-- what is picked has the test besides
all_picked : (P Q : Owed → Type 0) (q : Owed → Bool) → ((o : Owed) → q o ≡ true → P o → Q o) → (os : List Owed) → AllOf P os → AllOf Q (filter q os)
all_picked P Q q w [] h = tt
all_picked P Q q w (o ∷ os) h = picked_by P Q (q o) o (filter q os) (w o) h.0 (all_picked P Q q w os h.1)

on_fid : (t : Bool) → not t ≡ true → t ≡ false
on_fid true h = absurd cc
on_fid false h = refl

record IsPick (me : Node) (j : Node) (ls : List Line) (o : Owed) : Type 0 where
  owed : IsOwed me j ls o
  fid : IsOnFid o

picks : (me : Node) (j : Node) (ls : List Line) (os : List Owed) → AllOf (λ (o : Owed). IsOwed me o.client ls o) os → AllOf (IsPick me j ls) (first_breaks most_breaks (filter (is_break_for j) os))
picks me j ls os h = all_first (IsPick me j ls) most_breaks (filter (is_break_for j) os) (all_picked (λ (o : Owed). IsOwed me o.client ls o) (IsPick me j ls) (is_break_for j) (λ o e x. let q = both (same_node o.client j) (not (is_all o.what)) e in record { owed = subst (λ (n : Node). IsOwed me n ls o) (same_node-true _ _ q.0) x; fid = on_fid (is_all o.what) q.1 }) os h)

-- what the new call carries
record AreCarried (me : Node) (j : Node) (ls : List Line) (os : List Owed) : Type 0 where
  owes : AllOf (IsOwed me j ls) os
  carries : AllOf (λ (o : Owed). CarriesBreak (breaks_call os) o.what) os

are_carried : (me : Node) (w : Option Fid) (o : Owed) (ls : List Line) (owed : List Owed) → o.what ≡ w → IsOwed me o.client ls o → AllOf (λ (x : Owed). IsOwed me x.client ls x) owed → AreCarried me o.client ls (carries_for w o owed)
are_carried me None o ls owed e h k = record { owes = (h, tt); carries = (subst (λ (w : Option Fid). CarriesBreak (break_call w (o ∷ [])) w) (sym e) refl, tt) }
are_carried me (Some f) o ls owed e h k =
    let p = picks me o.client ls owed k in
    let os : List Owed = first_breaks most_breaks (filter (is_break_for o.client) owed) in
    record { owes = all_map (IsPick me o.client ls) (IsOwed me o.client ls) (λ x y. y.owed) os p; carries = all_carried os (all_map (IsPick me o.client ls) IsOnFid (λ x y. y.fid) os p) }

call_more : (me : Node) (j : Node) (c : BackCall) (last more boot : ℕ) (past : List Entry) → last ≤ more → CallOut me j c last boot past → CallOut me j c more boot past
call_more me j c last more boot past le h = record { client = h.client; number = le_trans h.number le; sent = h.sent; up = h.up; tries = h.tries; owes = h.owes; carries = h.carries }

put_by : (t : Bool) (j k : Node) (n c : BackCall) (o : Option BackCall) (X : Type 0) → same_node j k ≡ t → cond t (Some n) o ≡ Some c → (j ≡ k → n ≡ c → X) → (o ≡ Some c → X) → X
put_by true j k n c o X e at a b = a (same_node-true j k e) (some_of n c at)
put_by false j k n c o X e at a b = b at

pub put_call : (j k : Node) (n c : BackCall) (calls : Node → Option BackCall) (X : Type 0) → put_at j (Some n) calls k ≡ Some c → (j ≡ k → n ≡ c → X) → (calls k ≡ Some c → X) → X
put_call j k n c calls X at a b = put_by (same_node j k) j k n c (calls k) X refl at a b

started_pass : (t : Started) (o : Owed) → CallsPass t.backs.calls t.backs.last_call (put_at o.client (Some (started_call t.backs o)) t.backs.calls)
started_pass t o j c at = put_call o.client j (started_call t.backs o) c t.backs.calls _ at (λ e q. inl (subst (λ (x : BackCall). t.backs.last_call < x.number) q (omega arith))) (λ e. inr (c, (e, (refl, refl))))

sends_front : (j : Node) (k : Key) (user : List ℕ) (call : FsCall) (a b : List Message) → SendsTo j k user call a → SendsTo j k user call (a ++ b)
sends_front j k user call [] b h = absurd h
sends_front j k user call (m ∷ a) b (inl x) = inl x
sends_front j k user call (m ∷ a) b (inr x) = inr (sends_front j k user call a b x)

sends_last : (j : Node) (k : Key) (user : List ℕ) (call : FsCall) (a : List Message) (m : Message) → SendsTo j k user call (m ∷ []) → SendsTo j k user call (a ++ m ∷ [])
sends_last j k user call [] m h = h
sends_last j k user call (x ∷ a) m h = inr (sends_last j k user call a m h)

-- it is a server
abbrev pub IsServing : Node → Type 0
IsServing me = IsOfServer (actors.Node me) me

-- no call of the server had the number that its next one gets
of_serving : (n me : Node) (X : Type 0) → n ≡ me → IsServing me → OfServer n X → X
of_serving n (Server i) X e is h = subst (λ (q : Node). OfServer q X) e h
of_serving n (Client j) X e is h = absurd is
of_serving n (Admin j) X e is h = absurd is
of_serving n Loc X e is h = absurd is

abbrev IsAfter : Node → ℕ → ℕ → Key
IsAfter me boot last = record { node = me; epoch = boot; number = last + 1 }

none_under : (t : Bool) (me : Node) (boot last : ℕ) (calls' : Node → Option BackCall) (head : Head) (user : List ℕ) (call : FsCall) → IsServing me → same_key (called_key head) (IsAfter me boot last) ≡ t → OfServer head.from (BackIn me None calls' last boot head user call) → t ≡ false
none_under false me boot last calls' head user call is e h = refl
none_under true me boot last calls' head user call is e h =
    let same : called_key head ≡ IsAfter me boot last = same_key-true _ _ e in
    let own : head.from ≡ me = ap (λ (k : Key). k.node) same in
    let low : head.number ≤ last = (of_serving head.from me (BackIn me None calls' last boot head user call) own is h).below own refl (ap (λ (k : Key). k.epoch) same) in
    let high : head.number ≡ last + 1 = ap (λ (k : Key). k.number) same in
    absurd (omega arith)

call_unsent : (me : Node) (boot last : ℕ) (calls' : Node → Option BackCall) (head : Head) (x : Carried) → IsServing me → OfCall (ByServer (BackIn me None calls' last boot)) head x → is_called (IsAfter me boot last) head x ≡ false
call_unsent me boot last calls' head (carried.Call user (ask.File call)) is h = none_under (same_key (called_key head) (IsAfter me boot last)) me boot last calls' head user call is refl h
call_unsent me boot last calls' head (carried.Call user (ask.Volume call)) is h = refl
call_unsent me boot last calls' head (carried.Call user (ask.Location call)) is h = refl
call_unsent me boot last calls' head (carried.Refusal code) is h = refl
call_unsent me boot last calls' head (carried.Reply reply) is h = refl
call_unsent me boot last calls' head carried.Notice is h = refl

calls_unsent : (me : Node) (boot last : ℕ) (calls' : Node → Option BackCall) (ms more : List Message) → IsServing me → Each (IfBack (BackIn me None calls' last boot)) (ms ++ more) → has_sent (IsAfter me boot last) ms ≡ false
calls_unsent me boot last calls' [] more is h = refl
calls_unsent me boot last calls' (m ∷ ms) more is h = rw (call_unsent me boot last calls' m.head m.carried is h.0, calls_unsent me boot last calls' ms more is h.1) refl

started_backed : (me : Node) (boot : ℕ) (seats : List Seat) (cs : ℕ → Option Seat) (clock : ℕ) (sent : List Message) (at : Entry) (older : List Entry) (t : Started) (o : Owed) (x : Option BackCall) → IsServing me → sent_of older ≡ sent → IsBacked me boot seats cs clock sent (at ∷ older) t → IsOwed me o.client (lines_of (at ∷ older)) o → IsClient o.client
    → ((c : BackCall) → x ≡ None → SendsTo o.client (record { node = me; epoch = boot; number = c.number }) [] (breaks_call c.content) (t.sent ++ break_message me boot o.client (t.backs.known o.client) c ∷ []) → c ≡ started_call t.backs o → SendsTo o.client (record { node = me; epoch = boot; number = c.number }) [] (breaks_call c.content) at.sent)
    → IsBacked me boot seats cs clock sent (at ∷ older) (starts_by me boot t o x)
started_backed me boot seats cs clock sent at older t o (Some c) serving told h is to was = h
started_backed me boot seats cs clock sent at older t o None serving told h is to was =
    let past : List Entry = at ∷ older in
    let n : BackCall = started_call t.backs o in
    let last : ℕ = t.backs.last_call in
    let calls' : Node → Option BackCall = put_at o.client (Some n) t.backs.calls in
    let m : Message = break_message me boot o.client (t.backs.known o.client) n in
    let pass : CallsPass t.backs.calls last calls' = started_pass t o in
    let le : last ≤ last + 1 = omega arith in
    let carried_ : AreCarried me o.client (lines_of past) n.content = are_carried me o.what o (lines_of past) t.backs.lists.owed refl is (h.owing refl) in
    subst (λ (ms : List Message). BackedIn me None (starts_by me boot t o None).backs boot seats cs clock ms past) (append_assoc sent t.sent (m ∷ [])) (record {
      granted = h.granted;
      promised = h.promised;
      numbered = h.numbered;
      rising = h.rising;
      clients = h.clients;
      accounted = h.accounted;
      owing = h.owing;
      waiting = h.waiting;
      outs = λ y j c at'. put_call o.client j n c t.backs.calls (CallOut me j c (last + 1) boot past) at'
          (λ e q. subst (λ (k : Node). CallOut me k c (last + 1) boot past) e (subst (λ (z : BackCall). CallOut me o.client z (last + 1) boot past) q (record {
            number = le_refl _;
            client = to;
            sent = record {
              newer = [];
              at = at;
              older = older;
              split = refl;
              sent = was n refl (sends_last o.client _ _ _ t.sent m (inl (refl, (refl, refl)))) refl;
              first = subst (λ (ms : List Message). has_sent (IsAfter me boot last) ms ≡ false) (sym told) (calls_unsent me boot last t.backs.calls sent t.sent serving h.calls);
            };
            up = λ z. z;
            tries = λ k a b. absurd (omega arith);
            owes = carried_.owes;
            carries = carried_.carries;
          })))
          (λ e. call_more me j c last (last + 1) boot past le (h.outs y j c e));
      calls = each_more (IfBack (BackIn me None calls' (last + 1) boot)) (sent ++ t.sent) (m ∷ []) (each_map (IfBack (BackIn me None t.backs.calls last boot)) (IfBack (BackIn me None calls' (last + 1) boot)) (if_back (BackIn me None t.backs.calls last boot) (BackIn me None calls' (last + 1) boot)
          (λ head user call y. back_pass me None None t.backs.calls calls' last (last + 1) boot head user call (λ z. z) le pass y)) (sent ++ t.sent) h.calls) (
            server_any me (BackIn me None calls' (last + 1) boot m.head [] (breaks_call n.content)) (record {
              client = o.client;
              to = refl;
              booted = λ own. le_refl _;
              below = λ own y z. le_refl _;
              is = λ c own y z at q. put_call o.client o.client n c t.backs.calls _ at (λ e w. ap (λ (u : BackCall). breaks_call u.content) w) (λ e. let low : c.number ≤ last = (h.outs refl o.client c e).number in let q' : last + 1 ≡ c.number = q in absurd (omega arith));
            }),
            tt,
          );
      dones = each_more (IfDone (DoneIn me None calls' (last + 1) boot past)) (sent ++ t.sent) (m ∷ []) (each_map (IfDone (DoneIn me None t.backs.calls last boot past)) (IfDone (DoneIn me None calls' (last + 1) boot past)) (if_done (DoneIn me None t.backs.calls last boot past) (DoneIn me None calls' (last + 1) boot past)
          (λ k y. record { client = y.client; from = y.from; done = λ own. done_pass me None None t.backs.calls calls' last (last + 1) boot past past y.client k.head.epoch k.head.number (λ z. z) le pass (λ z u w. w) (y.done own) })) (sent ++ t.sent) h.dones) (tt, tt);
      seated = λ j seat k y z. let w = h.seated j seat k y z in record { to = w.to; from = w.from; is_reply = w.is_reply; done = done_pass me None None t.backs.calls calls' last (last + 1) boot past past (Client j) k.head.epoch k.head.number (λ u. u) le pass (λ u v q. q) w.done };
    })

abbrev IsSentBy : Node → ℕ → Started → List Owed → List Message → Type 0
IsSentBy me boot t os ms = (j : Node) (k : Key) (user : List ℕ) (call : FsCall) → SendsTo j k user call (starts me boot os t).sent → SendsTo j k user call ms

sent_by : (me : Node) (boot : ℕ) (t : Started) (o : Owed) (x : Option BackCall) (j : Node) (k : Key) (user : List ℕ) (call : FsCall) → SendsTo j k user call t.sent → SendsTo j k user call (starts_by me boot t o x).sent
sent_by me boot t o None j k user call h = sends_front j k user call t.sent _ h
sent_by me boot t o (Some c) j k user call h = h

sent_all : (me : Node) (boot : ℕ) (os : List Owed) (t : Started) (j : Node) (k : Key) (user : List ℕ) (call : FsCall) → SendsTo j k user call t.sent → SendsTo j k user call (starts me boot os t).sent
sent_all me boot [] t j k user call h = h
sent_all me boot (o ∷ os) t j k user call h = sent_all me boot os (starts_by me boot t o (t.backs.calls o.client)) j k user call (sent_by me boot t o (t.backs.calls o.client) j k user call h)

new_sent : (me : Node) (boot : ℕ) (t : Started) (o : Owed) (x : Option BackCall) (c : BackCall) (j : Node) (k : Key) (user : List ℕ) (call : FsCall) → x ≡ None → c ≡ started_call t.backs o → SendsTo j k user call (t.sent ++ break_message me boot o.client (t.backs.known o.client) c ∷ []) → SendsTo j k user call (starts_by me boot t o x).sent
new_sent me boot t o None c j k user call e q h = subst (λ (z : BackCall). SendsTo j k user call (t.sent ++ break_message me boot o.client (t.backs.known o.client) z ∷ [])) q h
new_sent me boot t o (Some x) c j k user call e q h = absurd cc

started_all : (me : Node) (boot : ℕ) (seats : List Seat) (cs : ℕ → Option Seat) (clock : ℕ) (sent : List Message) (at : Entry) (older : List Entry) (os : List Owed) (t : Started) → IsServing me → sent_of older ≡ sent → IsBacked me boot seats cs clock sent (at ∷ older) t
    → AllOf (λ (o : Owed). IsOwed me o.client (lines_of (at ∷ older)) o) os → AllOf (λ (o : Owed). IsClient o.client) os → IsSentBy me boot t os at.sent → IsBacked me boot seats cs clock sent (at ∷ older) (starts me boot os t)
started_all me boot seats cs clock sent at older [] t serving told h is to was = h
started_all me boot seats cs clock sent at older (o ∷ os) t serving told h is to was =
    let x : Option BackCall = t.backs.calls o.client in
    let u : Started = starts_by me boot t o x in
    started_all me boot seats cs clock sent at older os u serving told (started_backed me boot seats cs clock sent at older t o x serving told h is.0 to.0 (λ c e y q. was _ _ _ _ (sent_all me boot os u _ _ _ _ (new_sent me boot t o x c _ _ _ _ e q y)))) is.1 to.1 was

-- ---- the end of a step

-- what a step sends by itself: no reply of the server, and calls of its own
pub record TurnSends (me : Node) (b : Backs) (boot : ℕ) (past : List Entry) (ms : List Message) : Type 0 where
  pub good : AreGoodSent past ms
  pub calls : Each (IfBack (BackIn me None b.calls b.last_call boot)) ms
  pub dones : Each (IfDone (DoneIn me None b.calls b.last_call boot past)) ms

released : (me : Node) (boot : ℕ) (seats : List Seat) (cs : ℕ → Option Seat) (clock : ℕ) (sent : List Message) (past : List Entry) (t : CallbackStep) → BackedIn me None (loaded t) boot seats cs clock sent past → TurnSends me (loaded t) boot past t.sent
    → BackedIn me None (held_after t) boot seats cs clock (sent ++ given_out t) past
released me boot seats cs clock sent past t h s =
    let all : AllOf (HeldWaits me seats clock past) (t.backs.held ++ t.outs) = h.waiting refl in
    let q = held_all (HeldWaits me seats clock past) t.backs.held t.outs all in
    let ready : List Held = filter (is_ready t.backs.lists.owed) (t.outs ++ t.backs.held) in
    let w : AllOf (HeldWaits me seats clock past) ready = all_filter (HeldWaits me seats clock past) (is_ready t.backs.lists.owed) (t.outs ++ t.backs.held) (all_both (HeldWaits me seats clock past) t.outs t.backs.held q.1 q.0) in
    record {
      granted = h.granted;
      promised = h.promised;
      numbered = h.numbered;
      rising = h.rising;
      clients = h.clients;
      accounted = λ newer at older before after c what n split line. elim (h.accounted newer at older before after c what n split line) [
        | inl x ↦ inl x
        | inr x ↦ inr (
          x.0,
          record {
            o = x.1.o;
            is_in = x.1.is_in;
            number = x.1.number;
            client = x.1.client;
            on = x.1.on;
            expiry = x.1.expiry;
            waits = λ k boot' y. elim (x.1.waits k boot' y) [
              | inl z ↦ inl z
              | inr z ↦ kept_held me seats clock past t.backs.lists.owed (t.backs.held ++ t.outs) k boot' newer at older before after c what n all split line (number_in n x.1.o t.backs.lists.owed x.1.is_in x.1.number) y z
            ];
          },
        )
      ];
      owing = h.owing;
      waiting = λ x. all_filter (HeldWaits me seats clock past) (λ z. not (is_ready t.backs.lists.owed z)) (t.backs.held ++ t.outs) all;
      outs = h.outs;
      calls = each_more (IfBack (BackIn me None t.backs.calls t.backs.last_call boot)) sent (given_out t) h.calls (each_more (IfBack (BackIn me None t.backs.calls t.backs.last_call boot)) t.sent (replies_of ready) s.calls (replies_back me (BackIn me None t.backs.calls t.backs.last_call boot) seats clock past ready w));
      dones = each_more (IfDone (DoneIn me None t.backs.calls t.backs.last_call boot past)) sent (given_out t) h.dones (each_more (IfDone (DoneIn me None t.backs.calls t.backs.last_call boot past)) t.sent (replies_of ready) s.dones (replies_done me (DoneIn me None t.backs.calls t.backs.last_call boot past) seats clock past ready w));
      seated = h.seated;
    }

on_gift : (what : Option Fid) (os : List Owed) (head : Head) (ls : List Line) → GoodGift head (carried.Call [] (ask.File (break_call what os))) ls
on_gift None os head ls = tt
on_gift (Some f) os head ls = tt

-- and no break does
pub break_gift : (os : List Owed) (head : Head) (ls : List Line) → GoodGift head (carried.Call [] (ask.File (breaks_call os))) ls
break_gift [] head ls = tt
break_gift (o ∷ os) head ls = on_gift o.what (o ∷ os) head ls

serving_key : (me : Node) (k : Key) (past : List Entry) → IsServing me → HasOwnKey me k past
serving_key (Server i) k past is = tt
serving_key (Client j) k past is = absurd is
serving_key (Admin j) k past is = tt
serving_key Loc k past is = tt

good_by_call : (me : Node) (boot : ℕ) (past : List Entry) (t : Started) (o : Owed) (x : Option BackCall) → IsServing me → IsBy me past → AreGoodSent past t.sent → AreGoodSent past (starts_by me boot t o x).sent
good_by_call me boot past t o None is by h = let m : Message = break_message me boot o.client (t.backs.known o.client) (started_call t.backs o) in good_more past t.sent (m ∷ []) h (record { sender = by; half = λ z. refl; reply = call_good past m.head [] (breaks_call (started_call t.backs o).content); gift = break_gift (started_call t.backs o).content m.head (lines_of past); key = serving_key me (called_key m.head) past is }, tt)
good_by_call me boot past t o (Some c) is by h = h

calls_good : (me : Node) (boot : ℕ) (past : List Entry) (os : List Owed) (t : Started) → IsServing me → IsBy me past → AreGoodSent past t.sent → AreGoodSent past (starts me boot os t).sent
calls_good me boot past [] t is by h = h
calls_good me boot past (o ∷ os) t is by h = calls_good me boot past os (starts_by me boot t o (t.backs.calls o.client)) is by (good_by_call me boot past t o (t.backs.calls o.client) is by h)

-- the whole end: `past` begins with the entry, which sends all this
pub record Pumps (me : Node) (boot : ℕ) (seats : List Seat) (cs : ℕ → Option Seat) (clock : ℕ) (sent : List Message) (past : List Entry) (t : CallbackStep) : Type 0 where
  pub good : AreGoodSent past (pumped me boot t).sent
  pub clients : AllOf (λ (o : Owed). IsClient o.client) t.backs.lists.owed
  pub backed : BackedIn me None (pumped me boot t).backs boot seats cs clock (sent ++ (pumped me boot t).sent) past

pub pumps : (me : Node) (boot : ℕ) (seats : List Seat) (cs : ℕ → Option Seat) (clock : ℕ) (sent : List Message) (e : Entry) (past : List Entry) (t : CallbackStep) → IsServing me → sent_of past ≡ sent → e.actor ≡ actors.Node me → e.sent ≡ (pumped me boot t).sent → clock_of (lines_of (e ∷ past)) ≡ clock → BackedIn me None (loaded t) boot seats cs clock sent (e ∷ past) → TurnSends me (loaded t) boot (e ∷ past) t.sent → server_boot me (lines_of (e ∷ past)) ≡ Some boot → Pumps me boot seats cs clock sent (e ∷ past) t
pumps me boot seats cs clock sent e past t serving told by is time h s up =
    let q = held_all (HeldWaits me seats clock (e ∷ past)) t.backs.held t.outs (h.waiting refl) in
    record {
      good = calls_good me boot (e ∷ past) t.backs.lists.owed _ serving by (good_more (e ∷ past) t.sent _ s.good (replies_good me (loaded t) boot seats cs clock sent (e ∷ past) (t.outs ++ t.backs.held) h time (all_both (HeldWaits me seats clock (e ∷ past)) t.outs t.backs.held q.1 q.0) up by));
      clients = (h.clients refl).owed;
      backed = started_all me boot seats cs clock sent e past t.backs.lists.owed _ serving told (released me boot seats cs clock sent (e ∷ past) t h s) (h.owing refl) (h.clients refl).owed (λ j k user call x. subst (λ (ms : List Message). SendsTo j k user call ms) (sym is) x);
    }

pub break_good : (me : Node) (past : List Entry) (boot : ℕ) (n : Node) (known : ℕ) (c : BackCall) → IsServing me → IsBy me past → AreGoodSent past (break_message me boot n known c ∷ [])
break_good me past boot n known c is by = let m : Message = break_message me boot n known c in (record { sender = by; half = λ z. refl; reply = call_good past m.head [] (breaks_call c.content); gift = break_gift c.content m.head (lines_of past); key = serving_key me (called_key m.head) past is }, tt)

-- How the facts pass over an entry.
use Rattle.spec_model.specs.Calls.{same_key}
use Rattle.afs_num.specs.declared.histories.ReadSource.TheVariants.{Fetched}
use Rattle.afs_num.specs.Fids.{same_fid}
use Rattle.law_legal.specs.Breaks.{HasTimeout}
use Rattle.spec_history.specs.declared.lines.Line.TheVariants as lines
use Rattle.law_legal.proofs.ActNeedsNext.{asks_change}
use Rattle.law_legal.proofs.BaseWords.{AreLone, IsLone, IsChangingUnder, fids_of_gifts, IsWhole}
use Rattle.afs_num.specs.declared.histories.ReadStatus.{ReadStatus}
use Rattle.std.proofs.Common.{not, zero, suc, ◌+◌, ◌≡◌, ℕ, inl, inr, Bool, true, false, cond, List, [], ◌∷◌, ◌++◌, Option, Some, None, ℤ, refl, sym, ap, ◌∙◌}
use Rattle.afs_num.specs.declared.types.Fid.{Fid}
use Rattle.afs_num.specs.declared.types.Head.{Head}
use Rattle.afs_num.specs.declared.types.Key.{Key}
use Rattle.afs_num.specs.declared.types.Node.{Node}
use Rattle.afs_num.specs.declared.types.Node.TheVariants.{Loc, Server, Client, Admin}
use Rattle.afs_num.specs.declared.calls.FsCall.{FsCall}
use Rattle.afs_num.specs.declared.messages.Carried.{Carried}
use Rattle.afs_num.specs.declared.messages.Message.{Message}
use Rattle.spec_ideal.specs.Operations.{volume_changed, changes}
use Rattle.law_legal.proofs.BaseLaws.{UpTo, Each, IfCall, ByClient, OfClient, both, OfCall}
use Rattle.spec_rows.specs.ClientRow.{batch, batch_to, most_given, call_by}
use Rattle.spec_rows.specs.Going.{Need, next, reads, reads_status, reads_statuses, reads_rights, asks_for, gives_back, locates, answers, Going}
use Rattle.law_legal.specs.Grants.{is_promised, has_fetched, GrantOf}
use Rattle.law_legal.specs.Ideal.{Unless, HasVersion, change_in, call_in, call_under}
use Rattle.law_legal.specs.Legal.{IsNew, IsNot, AreDropped, HasDropped, GoodGift, IsKey, HasChange}
use Rattle.spec_history.specs.declared.lines.Line.{Line}
use Rattle.law_legal.specs.Past.{IsCallUnder, IsCallToOrLater, IsFirstOfItsBoot, IsUnheard, is_new_to_act, begins_act, onto, lines_of, sent_of, given_message, has_begun, Ran, called_key, is_called, has_sent, is_sent_since, is_by_key, has_called}
use Rattle.spec_rows.specs.Runs.{Entry}
use Rattle.spec_rows.specs.States.{Gift}
use Rattle.afs_num.specs.declared.histories.Body.{Body}
use Rattle.std.specs.Prelude.{◌&&◌, drop, ⊤}
use Rattle.afs_num.specs.Nodes.{same_node}
use Rattle.afs_num.specs.declared.messages.Carried.TheVariants as carried
use Rattle.afs_num.specs.declared.messages.Call.TheVariants as ask
use Rattle.afs_num.specs.declared.calls.FsCall.TheVariants as calls
use Rattle.law_legal.proofs.OwedPasses.{timeout_more}

-- ---- an entry that ran a call, and its grant

abbrev pub ran_over : (reply : Head) (e : Entry) (past : List Entry) → Ran reply past → Ran reply (e ∷ past)
ran_over reply e past h = record {
  newer = e ∷ h.newer;
  at = h.at;
  older = h.older;
  split = ap (λ (es : List Entry). e ∷ es) h.split;
  message = h.message;
  given = h.given;
  is_call = h.is_call;
  key = h.key;
  opcode = h.opcode;
  boot = h.boot;
  up = h.up;
  callee = h.callee;
  node = h.node;
  first = h.first;
  latest = h.latest;
}

abbrev pub grant_over : (c : Node) (f : Fid) (x : ℕ) (m : Message) (e : Entry) (past : List Entry) → GrantOf c f x m past → GrantOf c f x m (e ∷ past)
grant_over c f x m e past h = record {
  is_reply = h.is_reply;
  told = h.told;
  to = h.to;
  ran = ran_over m.head e past h.ran;
  server = h.server;
  node = h.node;
  index = h.index;
  before = h.before;
  after = h.after;
  line = h.line;
}

pub whole_over : (f : Fid) (i : ℕ) (t : ReadStatus) (b : Option Body) (e : Entry) (past : List Entry) → ((k : Body) → HasVersion f i k (lines_of past) → HasVersion f i k (lines_of (e ∷ past))) → IsWhole f i t b past → IsWhole f i t b (e ∷ past)
whole_over f i t b e past w h = record { is = h.is; told = w h.is h.told; holds = h.holds; been = inr h.been }

-- ---- what a client dropped in its act

dropped_by : (t rest : Bool) (X : Type 0) → cond t true rest ≡ false → (t ≡ false → rest ≡ false → X) → X
dropped_by true rest X e w = absurd cc
dropped_by false rest X e w = w refl e

unless_same : (t : Bool) (X : Type 0) → t ≡ false → X → Unless t X
unless_same true X e h = absurd cc
unless_same false X e h = h

fetched_by : (t rest : Bool) → cond t true rest ≡ false → (cond t true false ≡ false) × (rest ≡ false)
fetched_by true rest e = absurd cc
fetched_by false rest e = (refl, e)

-- of lines that fetch nothing of a fid none does
none_fetches : (c : Node) (f : Fid) (l : Line) (ls : List Line) → has_fetched c f (l ∷ ls) ≡ false → (has_fetched c f (l ∷ []) ≡ false) × (has_fetched c f ls ≡ false)
none_fetches c f (lines.Read m g i Fetched body) ls e = fetched_by (is_promised body && (same_node m c && same_fid g f)) (has_fetched c f ls) e
none_fetches c f l ls e = (refl, e)

unless_none : (t : Bool) (X : Type 0) → cond t true false ≡ false → X → Unless t X
unless_none true X e h = absurd cc
unless_none false X e h = h

dropped_on : (c : Node) (f : Fid) (l : Line) (o : List Line) → begins_act c l ≡ false → has_fetched c f (l ∷ []) ≡ false → HasDropped c f o → HasDropped c f (l ∷ o)
dropped_on c f (lines.Drop m g) o e z h = inr h
dropped_on c f (lines.Begin m act) o e z h = unless_same (same_node m c) (HasDropped c f o) e h
dropped_on c f (lines.Read m g i Fetched body) o e z h = unless_none (is_promised body && (same_node m c && same_fid g f)) (HasDropped c f o) z h
dropped_on c f l o e z h = h

pub dropped_onto : (c : Node) (f : Fid) (ls o : List Line) → has_begun c ls ≡ false → has_fetched c f ls ≡ false → HasDropped c f o → HasDropped c f (onto o ls)
dropped_onto c f [] o e z h = h
dropped_onto c f (l ∷ ls) o e z h =
    let y = none_fetches c f l ls z in
    dropped_by (begins_act c l) (has_begun c ls) (HasDropped c f (onto (l ∷ o) ls)) e (λ a b. dropped_onto c f ls (l ∷ o) b y.1 (dropped_on c f l o a y.0 h))

pub all_dropped_onto : (c : Node) (fs : List Fid) (ls o : List Line) → has_begun c ls ≡ false → ((f : Fid) → has_fetched c f ls ≡ false) → AreDropped c fs o → AreDropped c fs (onto o ls)
all_dropped_onto c [] ls o e z h = tt
all_dropped_onto c (f ∷ fs) ls o e z h = (dropped_onto c f ls o e (z f) h.0, all_dropped_onto c fs ls o e z h.1)

pub dropped_rest : (c : Node) (k : ℕ) (gs : List Gift) (ls : List Line) → AreDropped c (fids_of_gifts gs) ls → AreDropped c (fids_of_gifts (drop k gs)) ls
dropped_rest c zero gs ls h = h
dropped_rest c (suc k) [] ls h = tt
dropped_rest c (suc k) (g ∷ gs) ls h = dropped_rest c k gs ls h.1

dropped_if : (t : Bool) (c : Node) (g : Gift) (rest : List Gift) (ls : List Line) → HasDropped c g.fid ls → AreDropped c (fids_of_gifts rest) ls → AreDropped c (fids_of_gifts (cond t (g ∷ rest) [])) ls
dropped_if true c g rest ls h k = (h, k)
dropped_if false c g rest ls h k = tt

dropped_batch_to : (c : Node) (server : Node) (k : ℕ) (gs : List Gift) (ls : List Line) → AreDropped c (fids_of_gifts gs) ls → AreDropped c (fids_of_gifts (batch_to server k gs)) ls
dropped_batch_to c server zero gs ls h = tt
dropped_batch_to c server (suc k) [] ls h = tt
dropped_batch_to c server (suc k) (g ∷ gs) ls h = dropped_if (same_node g.server server) c g (batch_to server k gs) ls h.0 (dropped_batch_to c server k gs ls h.1)

dropped_batch : (c : Node) (gs : List Gift) (ls : List Line) → AreDropped c (fids_of_gifts gs) ls → AreDropped c (fids_of_gifts (batch gs)) ls
dropped_batch c [] ls h = tt
dropped_batch c (g ∷ gs) ls h = dropped_batch_to c g.server most_given (g ∷ gs) ls h

-- a client's call gives back what it dropped
gift_by : (need : Need) (gs : List Gift) (head : Head) (user : List ℕ) (ls : List Line) → ((call : FsCall) → need ≡ asks_for call → volume_changed call ≡ None → ⊥) → AreDropped head.from (fids_of_gifts gs) ls → GoodGift head (carried.Call user (ask.File (call_by gs need))) ls
gift_by (reads f) gs head user ls w h = tt
gift_by (reads_status f) gs head user ls w h = tt
gift_by (reads_statuses fs) gs head user ls w h = tt
gift_by (reads_rights f) gs head user ls w h = tt
gift_by (asks_for (calls.GiveUpCallBacks fids callbacks)) gs head user ls w h = absurd (w (calls.GiveUpCallBacks fids callbacks) refl refl)
gift_by (asks_for call) gs head user ls w h = tt
gift_by gives_back gs head user ls w h = dropped_batch head.from gs ls h
gift_by (locates o) gs head user ls w h = tt
gift_by (answers code) gs head user ls w h = tt

pub own_gift : (act : Going) (gs : List Gift) (head : Head) (user : List ℕ) (ls : List Line) → AreDropped head.from (fids_of_gifts gs) ls → GoodGift head (carried.Call user (ask.File (call_by gs (next act)))) ls
own_gift act gs head user ls h = gift_by (next act) gs head user ls (asks_change act) h

-- ---- what a key changed

new_by : (k : Key) (o : Option Key) (A B : Type 0) → (A → B → ⊥) → IsNot k o A → IsKey k o B → ⊥
new_by k None A B w x y = w x y
new_by k (Some l) A B w x (inl e) = x.0 (sym e)
new_by k (Some l) A B w x (inr y) = w x.1 y

-- a new key has no change
pub no_change : (k : Key) (ls : List Line) → IsNew k ls → HasChange k ls → ⊥
no_change k [] x y = y
no_change k (l ∷ ls) x y = new_by k (change_in l) _ _ (no_change k ls) x y

-- ---- what is to come

no_call_from : (s : Node) (k : Key) (b : ℕ) (o : Option Message) → ((l : Key) → l.node ≡ k.node → UpTo k.epoch k.number l.epoch l.number → IsCallUnder s l b o → ⊥) → IsCallToOrLater s k b o → ⊥
no_call_from s k b None w x = x
no_call_from s k b (Some m) w x = w (called_key m.head) x.1.0.0 x.1.0.1 (x.0, (refl, x.1.1))

-- a call is to come where neither it was heard nor any later one of its node
pub to_come : (s : Node) (k : Key) (b : ℕ) (past : List Entry) → ((l : Key) → l.node ≡ k.node → UpTo k.epoch k.number l.epoch l.number → IsUnheard s l b past) → IsFirstOfItsBoot s k b past
to_come s k b [] w = tt
to_come s k b (e ∷ past) w = (no_call_from s k b (given_message e.lines (sent_of past)) (λ l node up. (w l node up).0), to_come s k b past (λ l node up. (w l node up).1))

-- ---- a client that doesn't move

-- an entry in which the node begins no act leaves a key that no act before used
pub late_kept : (t a b : Bool) → t ≡ false → b ≡ true → cond t a b ≡ true
late_kept t a b e h = rw e h

pub late_over : (n : Node) (k : Key) (e : Entry) (past : List Entry) → has_begun n e.lines ≡ false → is_new_to_act n k past ≡ true → is_new_to_act n k (e ∷ past) ≡ true
late_over n k e past none h = late_kept (has_begun n e.lines) (not (has_called k (sent_of past))) (is_new_to_act n k past) none h

-- ---- calls of the act that began last

-- a message among these has this key
pub record IsAmong (k : Key) (P : Head → List ℕ → FsCall → Type 0) : Type 0 where
  pub head : Head
  pub user : List ℕ
  pub call : FsCall
  pub key : same_key (called_key head) k ≡ true
  pub fact : P head user call

among_key : (k : Key) (P : Head → List ℕ → FsCall → Type 0) (head : Head) (user : List ℕ) (call : FsCall) (rest t : Bool) → same_key (called_key head) k ≡ t → cond t true rest ≡ true → P head user call → (rest ≡ true → IsAmong k P) → IsAmong k P
among_key k P head user call rest true t e h w = record { head = head; user = user; call = call; key = t; fact = h }
among_key k P head user call rest false t e h w = w e

among_by : (k : Key) (P : Head → List ℕ → FsCall → Type 0) (head : Head) (c : Carried) (rest : Bool) → cond (is_called k head c) true rest ≡ true → OfCall P head c → (rest ≡ true → IsAmong k P) → IsAmong k P
among_by k P head (carried.Call user (ask.File call)) rest e h w = among_key k P head user call rest (same_key (called_key head) k) refl e h w
among_by k P head (carried.Call user (ask.Volume call)) rest e h w = absurd h
among_by k P head (carried.Call user (ask.Location call)) rest e h w = w e
among_by k P head (carried.Refusal code) rest e h w = w e
among_by k P head (carried.Reply reply) rest e h w = w e
among_by k P head carried.Notice rest e h w = w e

pub among : (k : Key) (P : Head → List ℕ → FsCall → Type 0) (ms : List Message) → has_sent k ms ≡ true → Each (IfCall P) ms → IsAmong k (ByClient P)
among k P [] e h = absurd cc
among k P (m ∷ ms) e h = among_by k (ByClient P) m.head m.carried (has_sent k ms) e h.0 (λ x. among k P ms x h.1)

since_by : (b t x : Bool) (S : Type 0) → cond b true (cond t false x) ≡ true → (b ≡ true → S) → (x ≡ true → S) → S
since_by true t x S e p q = p refl
since_by false true x S e p q = absurd cc
since_by false false x S e p q = q e

both_client : (n : Node) (X Y Z : Type 0) → (X → Y → Z) → OfClient n X → OfClient n Y → OfClient n Z
both_client (Client n) X Y Z w x y = w x y
both_client (Server n) X Y Z w x y = tt
both_client (Admin n) X Y Z w x y = tt
both_client Loc X Y Z w x y = tt

-- two facts of each call
call_both : (P Q : Head → List ℕ → FsCall → Type 0) (head : Head) (c : Carried) → OfCall (ByClient P) head c → OfCall (ByClient Q) head c → OfCall (ByClient (λ hd us cl. P hd us cl × Q hd us cl)) head c
call_both P Q head (carried.Call user (ask.File call)) h k = both_client head.from _ _ _ (λ x y. (x, y)) h k
call_both P Q head (carried.Call user (ask.Volume call)) h k = absurd h
call_both P Q head (carried.Call user (ask.Location call)) h k = h
call_both P Q head (carried.Refusal code) h k = tt
call_both P Q head (carried.Reply reply) h k = tt
call_both P Q head carried.Notice h k = tt

pub calls_both : (P Q : Head → List ℕ → FsCall → Type 0) (ms : List Message) → Each (IfCall P) ms → Each (IfCall Q) ms → Each (IfCall (λ hd us cl. P hd us cl × Q hd us cl)) ms
calls_both P Q [] h k = tt
calls_both P Q (m ∷ ms) h k = (call_both P Q m.head m.carried h.0 k.0, calls_both P Q ms h.1 k.1)

-- ---- each key has one call

one_more_by : (t : Bool) (c : Carried) (o p : Option (List ℕ × FsCall)) (x : List ℕ × FsCall) → (o ≡ Some x → p ≡ Some x) → cond t (call_in c) o ≡ Some x → cond t (call_in c) p ≡ Some x
one_more_by true c o p x h e = e
one_more_by false c o p x h e = h e

pub one_more : (k : Key) (sent ms : List Message) (x : List ℕ × FsCall) → call_under k sent ≡ Some x → call_under k (sent ++ ms) ≡ Some x
one_more k [] ms x e = absurd cc
one_more k (m ∷ sent) ms x e = one_more_by (is_called k m.head m.carried) m.carried (call_under k sent) (call_under k (sent ++ ms)) x (one_more k sent ms x) e

pub changing_more : (k : Key) (sent ms : List Message) → IsChangingUnder k sent → IsChangingUnder k (sent ++ ms)
changing_more k sent ms c = record { user = c.user; call = c.call; one = one_more k sent ms (c.user, c.call) c.one; changes = c.changes }

-- ---- an act has one changing call

pub sent_either : (t x : Bool) → x ≡ true → cond t true x ≡ true
sent_either true x h = refl
sent_either false x h = h

pub sent_more : (t x y : Bool) → cond t true x ≡ true → (x ≡ true → y ≡ true) → cond t true y ≡ true
sent_more true x y h w = refl
sent_more false x y h w = w h

pub sent_right : (k : Key) (a b : List Message) → has_sent k b ≡ true → has_sent k (a ++ b) ≡ true
sent_right k [] b h = h
sent_right k (m ∷ a) b h = sent_either (is_called k m.head m.carried) (has_sent k (a ++ b)) (sent_right k a b h)

pub sent_left : (k : Key) (a b : List Message) → has_sent k a ≡ true → has_sent k (a ++ b) ≡ true
sent_left k [] b h = absurd cc
sent_left k (m ∷ a) b h = sent_more (is_called k m.head m.carried) (has_sent k a) (has_sent k (a ++ b)) h (λ y. sent_left k a b y)

-- the same of calls of every interface
pub called_right : (k : Key) (a b : List Message) → has_called k b ≡ true → has_called k (a ++ b) ≡ true
called_right k [] b h = h
called_right k (m ∷ a) b h = sent_either (is_by_key k m.head m.carried) (has_called k (a ++ b)) (called_right k a b h)

pub called_left : (k : Key) (a b : List Message) → has_called k a ≡ true → has_called k (a ++ b) ≡ true
called_left k [] b h = absurd cc
called_left k (m ∷ a) b h = sent_more (is_by_key k m.head m.carried) (has_called k a) (has_called k (a ++ b)) h (λ y. called_left k a b y)

file_by_key : (k : Key) (head : Head) (x : Carried) → is_called k head x ≡ true → is_by_key k head x ≡ true
file_by_key k head (carried.Call user (ask.File call)) h = h
file_by_key k head (carried.Call user call) h = absurd cc
file_by_key k head (carried.Refusal code) h = absurd cc
file_by_key k head (carried.Reply reply) h = absurd cc
file_by_key k head carried.Notice h = absurd cc

called_by : (t u x y : Bool) → (t ≡ true → u ≡ true) → (x ≡ true → y ≡ true) → cond t true x ≡ true → cond u true y ≡ true
called_by true u x y w v h = ap (λ (b : Bool). cond b true y) (w refl)
called_by false true x y w v h = refl
called_by false false x y w v h = v h

pub sent_called : (k : Key) (ms : List Message) → has_sent k ms ≡ true → has_called k ms ≡ true
sent_called k [] h = absurd cc
sent_called k (m ∷ ms) h = called_by (is_called k m.head m.carried) (is_by_key k m.head m.carried) (has_sent k ms) (has_called k ms) (file_by_key k m.head m.carried) (sent_called k ms) h

-- a key of the act was sent
pub was_sent : (n : Node) (k : Key) (past : List Entry) → is_sent_since n k past ≡ true → has_sent k (sent_of past) ≡ true
was_sent n k [] h = absurd cc
was_sent n k (e ∷ past) h = since_by (has_sent k e.sent) (has_begun n e.lines) (is_sent_since n k past) (has_sent k (sent_of past ++ e.sent) ≡ true) h (λ y. sent_right k (sent_of past) e.sent y) (λ y. sent_left k (sent_of past) e.sent (was_sent n k past y))

back_by : (t x : Bool) (c : Carried) (o p : Option (List ℕ × FsCall)) → cond t true x ≡ true → (x ≡ true → o ≡ p) → cond t (call_in c) o ≡ cond t (call_in c) p
back_by true x c o p h w = refl
back_by false x c o p h w = w h

call_back : (k : Key) (sent ms : List Message) → has_sent k sent ≡ true → call_under k (sent ++ ms) ≡ call_under k sent
call_back k [] ms h = absurd cc
call_back k (m ∷ sent) ms h = back_by (is_called k m.head m.carried) (has_sent k sent) m.carried (call_under k (sent ++ ms)) (call_under k sent) h (λ y. call_back k sent ms y)

pub changing_back : (k : Key) (sent ms : List Message) → has_sent k sent ≡ true → IsChangingUnder k (sent ++ ms) → IsChangingUnder k sent
changing_back k sent ms h c = record { user = c.user; call = c.call; one = sym (call_back k sent ms h) ∙ c.one; changes = c.changes }

-- what was sent since makes no earlier call another one
pub lone_more : (past : List Entry) (sent ms : List Message) → ((k : Key) → has_sent k (sent_of past) ≡ true → has_sent k sent ≡ true) → AreLone sent past → AreLone (sent ++ ms) past
lone_more [] sent ms w h = tt
lone_more (e ∷ past) sent ms w h = (
  (λ j k l a b x y. h.0 j k l a b (changing_back k sent ms (w k (was_sent (Client j) k (e ∷ past) (both (same_node k.node (Client j)) _ a).1)) x) (changing_back l sent ms (w l (was_sent (Client j) l (e ∷ past) (both (same_node l.node (Client j)) _ b).1)) y)),
  lone_more past sent ms (λ k y. w k (sent_left k (sent_of past) e.sent y)) h.1,
)

pub lone_first : (sent : List Message) (past : List Entry) → AreLone sent past → IsLone sent past
lone_first sent [] h = λ j k l a b x y. let no_ : false ≡ true = (both (same_node k.node (Client j)) false a).1 in absurd cc
lone_first sent (e ∷ past) h = h.0

-- in any moment of the past
pub lone_at : (sent : List Message) (newer older : List Entry) → AreLone sent (newer ++ older) → IsLone sent older
lone_at sent [] older h = lone_first sent older h
lone_at sent (e ∷ newer) older h = lone_at sent newer older h.1

-- ---- the timeouts of a client's call

pub timeout_onto : (s c : Node) (e n k : ℕ) (o ls : List Line) → HasTimeout s c e n k o → HasTimeout s c e n k (onto o ls)
timeout_onto s c e n k o [] h = h
timeout_onto s c e n k o (l ∷ ls) h = timeout_onto s c e n k (l ∷ o) ls (timeout_more s c e n k l o h)

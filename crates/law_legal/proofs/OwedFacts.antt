-- What holds of promises, breaks, the server's own calls, and replies that wait.
use Rattle.spec_breaks.specs.declared.types.Promise.{Promise}
use Rattle.law_legal.proofs.PromiseLists.{Owed}
use Rattle.std.proofs.Common.{◌≡◌, ℕ, ◌<◌, ◌≤◌, ◌⊎◌, Bool, true, false, cond, List, [], ◌∷◌, ◌++◌, Option, Some, None}
use Rattle.std.specs.Prelude.{⊤, filter, false, if◌then◌else◌}
use Rattle.afs_num.specs.declared.types.Fid.{Fid}
use Rattle.afs_num.specs.declared.types.Head.{Head}
use Rattle.afs_num.specs.declared.types.Key.{Key}
use Rattle.afs_num.specs.declared.types.Node.{Node}
use Rattle.afs_num.specs.declared.types.Node.TheVariants.{Client}
use Rattle.afs_num.specs.declared.calls.FsCall.{FsCall}
use Rattle.afs_num.specs.declared.messages.Message.{Message}
use Rattle.law_legal.proofs.BaseLaws.{Above, Each, IfBack, IfDone, OfReply}
use Rattle.law_legal.specs.Breaks.{FirstSent, HasStopped, HasTimeout, IsGivenUp, unbroken_until, expiry_of, Owes, AllOwes, EndedBy, OweAt, CarriesBreak, kept_until, last_number, lines_with_gifts}
use Rattle.spec_rows.specs.Callbacks.{key_answered, breaks_call, is_reply_to}
use Rattle.law_legal.specs.Legal.{HasChange}
use Rattle.spec_history.specs.declared.lines.Line.{Line}
use Rattle.law_legal.specs.Past.{onto, lines_on, lines_of, sent_of, given_message, IsCallUnder}
use Rattle.spec_rows.specs.Runs.{Entry, Fall}
use Rattle.spec_rows.specs.States.{Seat, BackCall, Held, Backs}
use Rattle.spec_model.specs.Calls.{call_seat}
use Rattle.spec_history.specs.declared.lines.Line.TheVariants as lines

abbrev pub AllOf : {A : Type 0} → (A → Type 0) → List A → Type 0
AllOf P [] = ⊤
AllOf P (x ∷ xs) = P x × AllOf P xs

pub all_map : {A : Type 0} → (P Q : A → Type 0) → ((x : A) → P x → Q x) → (xs : List A) → AllOf P xs → AllOf Q xs
all_map P Q w [] h = tt
all_map P Q w (x ∷ xs) h = (w x h.0, all_map P Q w xs h.1)

pub all_both : {A : Type 0} → (P : A → Type 0) (xs ys : List A) → AllOf P xs → AllOf P ys → AllOf P (xs ++ ys)
all_both P [] ys h k = k
all_both P (x ∷ xs) ys h k = (h.0, all_both P xs ys h.1 k)

all_by : {A : Type 0} → (P : A → Type 0) (t : Bool) (x : A) (xs : List A) → P x → AllOf P xs → AllOf P (cond t (x ∷ xs) xs)
all_by P true x xs h k = (h, k)
all_by P false x xs h k = k

pub all_filter : {A : Type 0} → (P : A → Type 0) (q : A → Bool) (xs : List A) → AllOf P xs → AllOf P (filter q xs)
all_filter P q [] h = tt
all_filter P q (x ∷ xs) h = all_by P (q x) x (filter q xs) h.0 (all_filter P q xs h.1)

-- ---- the facts

-- a reply waits under the key
abbrev pub is_held : Key → List Held → Bool
is_held k [] = false
is_held k (h ∷ hs) = if is_reply_to k h.reply then true else is_held k hs

-- a promise is that of the last grant, and wasn't broken
abbrev pub IsGranted : Node → List Line → Promise → Type 0
IsGranted me ls p = unbroken_until me p.client p.fid ls ≡ Some p.expiry

abbrev pub IsIn : Owed → List Owed → Type 0
IsIn o [] = ⊥
IsIn o (x ∷ xs) = (x ≡ o) ⊎ IsIn o xs

abbrev pub IsNumberIn : ℕ → List ℕ → Type 0
IsNumberIn n [] = ⊥
IsNumberIn n (k ∷ ks) = (k ≡ n) ⊎ IsNumberIn n ks

-- the break is owed still; the reply to the call that its entry ran waits
pub record IsOpen (me : Node) (owed : List Owed) (held : List Held) (ended : Type 0) (at : Entry) (older : List Entry) (base : List Line) (c : Node) (what : Option Fid) (n : ℕ) : Type 0 where
  pub o : Owed
  pub is_in : IsIn o owed
  pub number : o.number ≡ n
  pub client : o.client ≡ c
  pub on : o.what ≡ what
  pub expiry : expiry_of me c what base ≡ Some o.expiry
  pub waits : (k : Key) (boot : ℕ) → IsCallUnder me k boot (given_message at.lines (sent_of older)) → ended ⊎ (is_held k held ≡ true)

-- every break that was ever owed is ended, or is owed still
abbrev pub AccountedBy : Node → Option Fall → List Owed → List Held → ℕ → Owes
AccountedBy me d owed held clock newer at older before after c what n = EndedBy me clock newer at older before after c what n ⊎ ((d ≡ None) × IsOpen me owed held (EndedBy me clock newer at older before after c what n) at older (onto (lines_of older) before) c what n)

abbrev pub WaitedBy : Node → Held → ℕ → Owes
WaitedBy me h clock newer at older before after c what n = (boot : ℕ) → IsCallUnder me (key_answered h.reply) boot (given_message at.lines (sent_of older)) → EndedBy me clock newer at older before after c what n ⊎ IsNumberIn n h.waits

abbrev pub AllWaitedBy : Node → Held → ℕ → Owes
AllWaitedBy me h clock newer at older before after c what n = what ≡ None → EndedBy me clock newer at older before after c what n ⊎ IsNumberIn n h.waits

-- a reply that waits is to a call that ran; it waits for what the entries of its key owe, and, of a change, for all that is owed on all
pub record HeldWaits (me : Node) (seats : List Seat) (clock : ℕ) (past : List Entry) (h : Held) : Type 0 where
  pub client : ℕ
  pub to : h.reply.head.to ≡ Client client
  pub from : h.reply.head.from ≡ me
  pub is_reply : OfReply ⊥ h.reply.carried → ⊥
  pub under : Above (call_seat h.reply.head.to seats) h.reply.head.epoch h.reply.head.number → ⊥
  pub own : AllOwes me (WaitedBy me h clock) past
  pub all : HasChange (key_answered h.reply) (lines_of past) → AllOwes me (AllWaitedBy me h clock) past

abbrev pub IsOwed : Node → Node → List Line → Owed → Type 0
IsOwed me j ls o = OweAt me j o.what o.number ls

abbrev pub IsClient : Node → Type 0
IsClient (Client n) = ⊤
IsClient n = ⊥

-- an unanswered call of the server: it was first sent when its breaks were owed, and each timeout of it was told
pub record CallOut (me : Node) (j : Node) (c : BackCall) (last boot : ℕ) (past : List Entry) : Type 0 where
  pub number : c.number ≤ last
  pub client : IsClient j
  pub sent : FirstSent j (record { node = me; epoch = boot; number = c.number }) [] (breaks_call c.content) past
  pub up : HasStopped me (lines_on [] sent.newer) → ⊥
  pub tries : (t : ℕ) → 1 ≤ t → t ≤ c.tries → HasTimeout me j boot c.number t (lines_of past)
  pub owes : AllOf (IsOwed me j (lines_of (sent.at ∷ sent.older))) c.content
  pub carries : AllOf (λ (o : Owed). CarriesBreak (breaks_call c.content) o.what) c.content

-- a server's call under way: if it is this server's, and the unanswered one, it carries its breaks
pub record BackIn (me : Node) (d : Option Fall) (calls : Node → Option BackCall) (last boot : ℕ) (head : Head) (user : List ℕ) (call : FsCall) : Type 0 where
  pub client : Node
  pub to : head.to ≡ client
  pub booted : head.from ≡ me → head.epoch ≤ boot
  pub below : head.from ≡ me → d ≡ None → head.epoch ≡ boot → head.number ≤ last
  pub is : (c : BackCall) → head.from ≡ me → d ≡ None → head.epoch ≡ boot → calls client ≡ Some c → head.number ≡ c.number → call ≡ breaks_call c.content

-- the client dropped what this break is on, which the call of this number carries
abbrev pub DroppedOwe : Node → Node → ℕ → ℕ → List Entry → Owed → Type 0
DroppedOwe me j boot number past o = IsGivenUp me j boot number o.what o.number past

-- the client was given the server's call of this epoch and number: if that is the unanswered one, it dropped what its breaks are on
pub record IsDone (me : Node) (d : Option Fall) (calls : Node → Option BackCall) (last boot : ℕ) (past : List Entry) (j : Node) (epoch number : ℕ) : Type 0 where
  pub booted : epoch ≤ boot
  pub below : d ≡ None → epoch ≡ boot → number ≤ last
  pub dropped : (c : BackCall) → d ≡ None → epoch ≡ boot → calls j ≡ Some c → number ≡ c.number → AllOf (DroppedOwe me j epoch number past) c.content

pub record DoneIn (me : Node) (d : Option Fall) (calls : Node → Option BackCall) (last boot : ℕ) (past : List Entry) (m : Message) : Type 0 where
  pub client : Node
  pub from : m.head.from ≡ client
  pub done : m.head.to ≡ me → IsDone me d calls last boot past client m.head.epoch m.head.number

-- a reply that a client keeps for the server
pub record SeatedIn (me : Node) (d : Option Fall) (calls : Node → Option BackCall) (last boot : ℕ) (past : List Entry) (j : ℕ) (m : Message) : Type 0 where
  pub to : m.head.to ≡ me
  pub from : m.head.from ≡ Client j
  pub is_reply : OfReply ⊥ m.carried → ⊥
  pub done : IsDone me d calls last boot past (Client j) m.head.epoch m.head.number

abbrev pub IsPromised : Promise → List Promise → Type 0
IsPromised p [] = ⊥
IsPromised p (q ∷ ps) = (q ≡ p) ⊎ IsPromised p ps

abbrev pub promise_to : Node → Fid → ℕ → Promise
promise_to j f x = record { client = j; fid = f; expiry = x }

-- each grant that lasts and isn't owed is promised
abbrev pub Promised : Node → Option Fall → List Promise → ℕ → List Line → Type 0
Promised me d ps clock ls = (j : Node) (f : Fid) (x : ℕ) → kept_until me j f ls ≡ Some x → clock < x → (d ≡ None) × IsPromised (promise_to j f x) ps

-- the breaks of a boot are numbered upwards, without a gap
abbrev pub Numbered : Node → Option Fall → ℕ → List Line → Type 0
Numbered me None last ls = last_number me ls ≡ last
Numbered me (Some fall) last ls = last_number me ls ≡ 0

-- the breaks of a boot become owed in the order of their numbers
abbrev pub Rising : Node → List Line → Type 0
Rising me [] = ⊤
Rising me (lines.Owe q d w n ∷ older) = (q ≡ me → last_number me older < n) × Rising me older
Rising me (l ∷ older) = Rising me older

-- promises are made to clients alone
pub record ToClients (ps : List Promise) (os : List Owed) : Type 0 where
  pub promised : AllOf (λ (p : Promise). IsClient p.client) ps
  pub owed : AllOf (λ (o : Owed). IsClient o.client) os

pub record BackedIn (me : Node) (d : Option Fall) (b : Backs) (boot : ℕ) (seats : List Seat) (cs : ℕ → Option Seat) (clock : ℕ) (sent : List Message) (past : List Entry) : Type 0 where
  pub granted : d ≡ None → AllOf (IsGranted me (lines_of past)) b.lists.promises
  pub promised : Promised me d b.lists.promises clock (lines_with_gifts me past)
  pub numbered : Numbered me d b.lists.last_owed (lines_of past)
  pub rising : Rising me (lines_of past)
  pub clients : d ≡ None → ToClients b.lists.promises b.lists.owed
  pub accounted : AllOwes me (AccountedBy me d b.lists.owed b.held clock) past
  pub owing : d ≡ None → AllOf (λ (o : Owed). IsOwed me o.client (lines_of past) o) b.lists.owed
  pub waiting : d ≡ None → AllOf (HeldWaits me seats clock past) b.held
  pub outs : d ≡ None → (j : Node) (c : BackCall) → b.calls j ≡ Some c → CallOut me j c b.last_call boot past
  pub calls : Each (IfBack (BackIn me d b.calls b.last_call boot)) sent
  pub dones : Each (IfDone (DoneIn me d b.calls b.last_call boot past)) sent
  pub seated : (j : ℕ) (seat : Seat) (m : Message) → cs j ≡ Some seat → seat.reply ≡ Some m → SeatedIn me d b.calls b.last_call boot past j m

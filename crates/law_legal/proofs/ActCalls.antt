-- What the lines and the messages of a run tell of its acts and calls, however many servers its cell has: which act runs at each
-- client; and each call of a client is the one under its key, which that sent while the act ran that asks for it.
use Rattle.spec_model.specs.Calls.{same_key, key_of}
use Rattle.law_legal.specs.LocLaws.{TellsLookup}
use Rattle.spec_history.specs.declared.lines.Line.{Line}
use Rattle.spec_history.specs.declared.lines.Line.TheVariants as lines
use Rattle.spec_history.specs.declared.scripts.Script.{Script}
use Rattle.law_legal.proofs.ActLines.{Acts, is_of, last_key, who_at, IfSeek, OfSeek, IsTheSeek}
use Rattle.law_legal.specs.Past.{AskedSince, IsCall}
use Rattle.spec_history.specs.declared.acts.Act.TheVariants as acts
use Rattle.afs_num.specs.declared.location_calls.LocCall.{LocCall}
use Rattle.law_legal.proofs.ServerRefusesForGood.{IsSentBy}
use Rattle.law_legal.proofs.DatabaseKeeps.{ListsLoc, IsNumberedCall}
use Rattle.spec_rows.specs.ClientRow.{act_of, question, is_gone_code}
use Rattle.spec_rows.specs.Going.{Seek, locates, Left}
use Rattle.spec_rows.specs.LocSteps.{LocHost}
use Rattle.spec_rows.specs.ServerRow.{is_client}
use Rattle.law_legal.proofs.OwedPasses.{all_lines, timeout_onto}
use Rattle.law_legal.proofs.BaseLaws.{ByClient, Each, IfCall, OfCall, OfClient, UpTo, at_put, both, by_client, client_number, each_map, if_call, node_apart, next_not, of_client as of_client_node, same_key-true, same_node-true, up_to_below, up_to_next, below_up_to}
use Rattle.spec_rows.specs.ServerRow.{is_client}
use Rattle.law_legal.proofs.ClientCalls.{IsUncalled, uncalled_any}
use Rattle.law_legal.proofs.ServerChooses.{AreFrom, is_from}
use Rattle.law_legal.proofs.BaseWords.{IsOne, Origin}
use Rattle.law_legal.proofs.CallKeysOnce.{IsKnown, known_pair}
use Rattle.law_legal.proofs.ServerSeats.{AreSeated}
use Rattle.law_legal.specs.Grants.{IsDropped, has_fetched, is_promised}
use Rattle.law_legal.specs.Breaks.{HasTimeout}
use Rattle.law_legal.specs.Ideal.{call_in, call_under}
use Rattle.law_legal.specs.Legal.{IsOperandOf}
use Rattle.law_legal.specs.Past.{CalledSince, Sends, called_key, has_begun, has_sent, is_called, is_new_to_act, lines_of, onto, running}
use Rattle.afs_num.specs.Fids.{same_fid}
use Rattle.afs_num.specs.Nodes.{same_node}
use Rattle.afs_num.specs.declared.calls.FsCall.{FsCall}
use Rattle.afs_num.specs.declared.histories.Actor.TheVariants as actors
use Rattle.afs_num.specs.declared.histories.ReadSource.TheVariants.{Fetched}
use Rattle.afs_num.specs.declared.histories.Version.{Version}
use Rattle.afs_num.specs.declared.messages.Call.TheVariants as ask
use Rattle.afs_num.specs.declared.messages.Carried.{Carried}
use Rattle.afs_num.specs.declared.messages.Carried.TheVariants as carried
use Rattle.afs_num.specs.declared.messages.Message.{Message}
use Rattle.afs_num.specs.declared.types.Fid.{Fid}
use Rattle.afs_num.specs.declared.types.Head.{Head}
use Rattle.afs_num.specs.declared.types.Key.{Key}
use Rattle.afs_num.specs.declared.types.Node.{Node}
use Rattle.afs_num.specs.declared.types.Node.TheVariants.{Admin, Client, Loc, Server}
use Rattle.spec_rows.specs.Callbacks.{put}
use Rattle.spec_rows.specs.ClientRow.{call_of}
use Rattle.spec_rows.specs.Going.{ClientState, Going, began, next, read_on}
use Rattle.spec_rows.specs.Runs.{Cell, Entry, locations, user_at}
use Rattle.spec_rows.specs.ServerRow.{versioned}
use Rattle.spec_rows.specs.States.{Location}
use Rattle.spec_rows.specs.Steps.{Step}
use Rattle.std.proofs.Common.{◌≡◌, ℕ, ◌+◌, inl, inr, Bool, true, false, cond, List, [], ◌∷◌, ◌++◌, Option, Some, None, refl, sym, ap, subst, ◌∙◌, ◌≤◌, arith, le_of_eq}
use Rattle.std.specs.Prelude.{◌&&◌, not}
use Rattle.law_legal.proofs.KeptPasses.{late_kept}

-- ---- lines that leave the act that runs at a client

abbrev pub is_idle : Line → Bool
is_idle (lines.Begin n act) = false
is_idle (lines.Read n f index source body) = false
is_idle (lines.Answer n code) = false
is_idle (lines.Timeout n callee epoch number count) = not (is_client n)
is_idle (lines.Crash n) = not (is_client n)
is_idle (lines.Drop n f) = not (is_client n)
is_idle (lines.DropAll n q) = not (is_client n)
is_idle l = true

pub server_apart : (n : Node) (j : ℕ) → not (is_client n) ≡ true → same_node n (Client j) ≡ false
server_apart (Server i) j h = refl
server_apart (Client i) j h = absurd cc
server_apart (Admin i) j h = refl
server_apart Loc j h = refl

-- the act of a client, and what it began, fetched and dropped
pub record Leaves (s : Script) (j : ℕ) (ls o : List Line) : Type 0 where
  pub runs : running s (Client j) (onto o ls) ≡ running s (Client j) o
  pub begins : has_begun (Client j) ls ≡ false
  pub fetched : (f : Fid) → has_fetched (Client j) f ls ≡ false
  pub dropped : (q : Node) (f : Fid) → IsDropped q (Client j) f (onto o ls) → IsDropped q (Client j) f o
  pub timed : (q : Node) (epoch number count : ℕ) → HasTimeout (Client j) q epoch number count (onto o ls) → HasTimeout (Client j) q epoch number count o

idle_line : (s : Script) (j : ℕ) (l : Line) (o : List Line) → is_idle l ≡ true → running s (Client j) (l ∷ o) ≡ running s (Client j) o
idle_line s j (lines.Begin n act) o h = absurd cc
idle_line s j (lines.Read n f index source body) o h = absurd cc
idle_line s j (lines.Answer n code) o h = absurd cc
idle_line s j (lines.Crash n) o h = ap (λ (t : Bool). cond t None (running s (Client j) o)) (server_apart n j h)
idle_line s j l o h = refl

idle_begins : (j : ℕ) (l : Line) (ls : List Line) → is_idle l ≡ true → has_begun (Client j) (l ∷ ls) ≡ has_begun (Client j) ls
idle_begins j (lines.Begin n act) ls h = absurd cc
idle_begins j l ls h = refl

idle_fetched : (j : ℕ) (f : Fid) (l : Line) (ls : List Line) → is_idle l ≡ true → has_fetched (Client j) f (l ∷ ls) ≡ has_fetched (Client j) f ls
idle_fetched j f (lines.Read n g index source body) ls h = absurd cc
idle_fetched j f l ls h = refl

no_server : (n : Node) (j : ℕ) → not (is_client n) ≡ true → n ≡ Client j → ⊥
no_server n j h e = let no_ : not (is_client (Client j)) ≡ true = ap (λ (q : Node). not (is_client q)) (sym e) ∙ h in absurd cc

idle_dropped : (q : Node) (j : ℕ) (f : Fid) (l : Line) (o : List Line) → is_idle l ≡ true → IsDropped q (Client j) f (l ∷ o) → IsDropped q (Client j) f o
idle_dropped q j f (lines.Drop n g) o h (inl e) = absurd (no_server n j h e.0)
idle_dropped q j f (lines.Drop n g) o h (inr x) = x
idle_dropped q j f (lines.DropAll n s) o h (inl e) = absurd (no_server n j h e.0)
idle_dropped q j f (lines.DropAll n s) o h (inr x) = x
idle_dropped q j f (lines.Crash n) o h (inl e) = absurd (no_server n j h e)
idle_dropped q j f (lines.Crash n) o h (inr x) = x
idle_dropped q j f l o h x = x

idle_timed : (q : Node) (j epoch number count : ℕ) (l : Line) (o : List Line) → is_idle l ≡ true → HasTimeout (Client j) q epoch number count (l ∷ o) → HasTimeout (Client j) q epoch number count o
idle_timed q j epoch number count (lines.Timeout n callee d k i) o h (inl x) = absurd (no_server n j h x.0)
idle_timed q j epoch number count (lines.Timeout n callee d k i) o h (inr x) = x
idle_timed q j epoch number count l o h x = x

pub idle_leaves : (s : Script) (j : ℕ) (ls o : List Line) → all_lines is_idle ls ≡ true → Leaves s j ls o
idle_leaves s j [] o h = record { runs = refl; begins = refl; fetched = λ f. refl; dropped = λ q f x. x; timed = λ q d k i x. x }
idle_leaves s j (l ∷ ls) o h =
    let q = both (is_idle l) (all_lines is_idle ls) h in
    let r : Leaves s j ls (l ∷ o) = idle_leaves s j ls (l ∷ o) q.1 in
    record { runs = r.runs ∙ idle_line s j l o q.0; begins = idle_begins j l ls q.0 ∙ r.begins; fetched = λ f. idle_fetched j f l ls q.0 ∙ r.fetched f; dropped = λ s f x. idle_dropped s j f l o q.0 (r.dropped s f x); timed = λ s d k i x. idle_timed s j d k i l o q.0 (r.timed s d k i x) }

-- those of another client
pub other_node : (n : Node) (i j : ℕ) → same_node n (Client i) ≡ true → (i ≡ j → ⊥) → same_node n (Client j) ≡ false
other_node n i j e ne = ap (λ (q : Node). same_node q (Client j)) (same_node-true n (Client i) e) ∙ node_apart (Client i) (Client j) (λ z. ne (client_number i j z))

other_line : (s : Script) (i j : ℕ) (l : Line) (o : List Line) → is_of i l ≡ true → (i ≡ j → ⊥) → running s (Client j) (l ∷ o) ≡ running s (Client j) o
other_line s i j (lines.Begin n act) o h ne = ap (λ (t : Bool). cond t (Some (began (locations s) act)) (running s (Client j) o)) (other_node n i j h ne)
other_line s i j (lines.Read n f index source body) o h ne = ap (λ (t : Bool). read_on t f body (running s (Client j) o)) (other_node n i j h ne)
other_line s i j (lines.Answer n code) o h ne = ap (λ (t : Bool). cond t None (running s (Client j) o)) (other_node n i j h ne)
other_line s i j (lines.Crash n) o h ne = ap (λ (t : Bool). cond t None (running s (Client j) o)) (other_node n i j h ne)
other_line s i j l o h ne = refl

other_begins : (i j : ℕ) (l : Line) (ls : List Line) → is_of i l ≡ true → (i ≡ j → ⊥) → has_begun (Client j) (l ∷ ls) ≡ has_begun (Client j) ls
other_begins i j (lines.Begin n act) ls h ne = ap (λ (t : Bool). cond t true (has_begun (Client j) ls)) (other_node n i j h ne)
other_begins i j l ls h ne = refl

fetched_off : (t u : Bool) (a : Bool) → cond (t && (false && u)) true a ≡ a
fetched_off true u a = refl
fetched_off false u a = refl

other_fetched : (i j : ℕ) (f : Fid) (l : Line) (ls : List Line) → is_of i l ≡ true → (i ≡ j → ⊥) → has_fetched (Client j) f (l ∷ ls) ≡ has_fetched (Client j) f ls
other_fetched i j f (lines.Read n g index Fetched body) ls h ne = ap (λ (t : Bool). cond (is_promised body && (t && same_fid g f)) true (has_fetched (Client j) f ls)) (other_node n i j h ne) ∙ fetched_off (is_promised body) (same_fid g f) (has_fetched (Client j) f ls)
other_fetched i j f l ls h ne = refl

no_other : (n : Node) (i j : ℕ) → same_node n (Client i) ≡ true → (i ≡ j → ⊥) → n ≡ Client j → ⊥
no_other n i j h ne e = ne (client_number i j (sym (same_node-true n (Client i) h) ∙ e))

other_dropped : (q : Node) (i j : ℕ) (f : Fid) (l : Line) (o : List Line) → is_of i l ≡ true → (i ≡ j → ⊥) → IsDropped q (Client j) f (l ∷ o) → IsDropped q (Client j) f o
other_dropped q i j f (lines.Drop n g) o h ne (inl e) = absurd (no_other n i j h ne e.0)
other_dropped q i j f (lines.Drop n g) o h ne (inr x) = x
other_dropped q i j f (lines.DropAll n s) o h ne (inl e) = absurd (no_other n i j h ne e.0)
other_dropped q i j f (lines.DropAll n s) o h ne (inr x) = x
other_dropped q i j f (lines.Crash n) o h ne (inl e) = absurd (no_other n i j h ne e)
other_dropped q i j f (lines.Crash n) o h ne (inr x) = x
other_dropped q i j f l o h ne x = x

other_timed : (q : Node) (i j epoch number count : ℕ) (l : Line) (o : List Line) → is_of i l ≡ true → (i ≡ j → ⊥) → HasTimeout (Client j) q epoch number count (l ∷ o) → HasTimeout (Client j) q epoch number count o
other_timed q i j epoch number count (lines.Timeout n callee d k m) o h ne (inl x) = absurd (no_other n i j h ne x.0)
other_timed q i j epoch number count (lines.Timeout n callee d k m) o h ne (inr x) = x
other_timed q i j epoch number count l o h ne x = x

pub other_leaves : (s : Script) (i j : ℕ) (ls o : List Line) → all_lines (is_of i) ls ≡ true → (i ≡ j → ⊥) → Leaves s j ls o
other_leaves s i j [] o h ne = record { runs = refl; begins = refl; fetched = λ f. refl; dropped = λ q f x. x; timed = λ q d k m x. x }
other_leaves s i j (l ∷ ls) o h ne =
    let q = both (is_of i l) (all_lines (is_of i) ls) h in
    let r : Leaves s j ls (l ∷ o) = other_leaves s i j ls (l ∷ o) q.1 ne in
    record { runs = r.runs ∙ other_line s i j l o q.0 ne; begins = other_begins i j l ls q.0 ne ∙ r.begins; fetched = λ f. other_fetched i j f l ls q.0 ne ∙ r.fetched f; dropped = λ s f x. other_dropped s i j f l o q.0 ne (r.dropped s f x); timed = λ s d k m x. other_timed s i j d k m l o q.0 ne (r.timed s d k m x) }

-- a server's
from_server : (n : Node) (i : ℕ) → same_node n (Server i) ≡ true → not (is_client n) ≡ true
from_server n i h = ap (λ (q : Node). not (is_client q)) (same_node-true n (Server i) h)

from_idle : (i : ℕ) (l : Line) → is_from (Server i) l ≡ true → is_idle l ≡ true
from_idle i (lines.Begin n act) h = absurd cc
from_idle i (lines.Read n f index source body) h = absurd cc
from_idle i (lines.Answer n code) h = absurd cc
from_idle i (lines.Timeout n callee epoch number count) h = from_server n i h
from_idle i (lines.Crash n) h = from_server n i h
from_idle i (lines.Drop n f) h = absurd cc
from_idle i (lines.DropAll n q) h = absurd cc
from_idle i l h = refl

pub all_idle : (i : ℕ) (ls : List Line) → AreFrom (Server i) ls → all_lines is_idle ls ≡ true
all_idle i [] h = refl
all_idle i (l ∷ ls) h = let q = both (is_from (Server i) l) (all_lines (is_from (Server i)) ls) h in rw (from_idle i l q.0, all_idle i ls q.1) refl

pub idle_both : (a b : List Line) → all_lines is_idle a ≡ true → all_lines is_idle b ≡ true → all_lines is_idle (a ++ b) ≡ true
idle_both [] b h k = k
idle_both (l ∷ a) b h k = let q = both (is_idle l) (all_lines is_idle a) h in rw (q.0, idle_both a b q.1 k) refl

pub idle_versions : (vs : List Version) (ls : List Line) → all_lines is_idle ls ≡ true → all_lines is_idle (versioned vs ls) ≡ true
idle_versions [] ls h = h
idle_versions (v ∷ vs) ls h = idle_versions vs ls h

-- ---- calls among the messages

under_by : (t : Bool) (c o p : Option (List ℕ × FsCall)) (x : List ℕ × FsCall) → cond t c o ≡ Some x → (o ≡ Some x → p ≡ Some x) → cond t c p ≡ Some x
under_by true c o p x e w = e
under_by false c o p x e w = w e

pub under_more : (k : Key) (a b : List Message) (x : List ℕ × FsCall) → call_under k a ≡ Some x → call_under k (a ++ b) ≡ Some x
under_more k [] b x e = absurd cc
under_more k (m ∷ a) b x e = under_by (is_called k m.head m.carried) (call_in m.carried) (call_under k a) (call_under k (a ++ b)) x e (under_more k a b x)

-- a key of a call to come is none of them
pub record IsNext (n : ℕ) (clients : ℕ → ClientState) (k : Key) : Type 0 where
  pub node : k.node ≡ Client n
  pub epoch : k.epoch ≡ (clients n).epoch
  pub number : k.number ≡ (clients n).last + 1

pub not_it : (callees : Key → Node) (clients : ℕ → ClientState) (n : ℕ) (k : Key) (head : Head) (t : Bool) → same_key (called_key head) k ≡ t → IsNext n clients k → OfClient head.from (IsKnown callees clients head.to (key_of head)) → t ≡ false
not_it callees clients n k head false e x h = refl
not_it callees clients n k head true e x h =
    let same : called_key head ≡ k = same_key-true (called_key head) k e in
    let from : head.from ≡ Client n = ap (λ (y : Key). y.node) same ∙ x.node in
    let behind : UpTo head.epoch head.number (clients n).epoch (clients n).last = known_pair callees clients head.to (key_of head) n from (by_client n head.from (IsKnown callees clients head.to (key_of head)) from h) in
    absurd (next_not head.epoch head.number (clients n).epoch (clients n).last behind (ap (λ (y : Key). y.epoch) same ∙ x.epoch) (ap (λ (y : Key). y.number) same ∙ x.number))

one_unsent : (callees : Key → Node) (clients : ℕ → ClientState) (n : ℕ) (k : Key) (head : Head) (c : Carried) → IsNext n clients k → OfCall (ByClient (λ h user call. IsKnown callees clients h.to (key_of h))) head c → is_called k head c ≡ false
one_unsent callees clients n k head (carried.Call user (ask.File call)) x h = not_it callees clients n k head (same_key (called_key head) k) refl x h
one_unsent callees clients n k head c x h = refl

pub unsent : (callees : Key → Node) (clients : ℕ → ClientState) (n : ℕ) (k : Key) (sent : List Message) → IsNext n clients k → Each (IfCall (λ h user call. IsKnown callees clients h.to (key_of h))) sent → (has_sent k sent ≡ false) × (call_under k sent ≡ None)
unsent callees clients n k [] x h = (refl, refl)
unsent callees clients n k (m ∷ sent) x h =
    let q = unsent callees clients n k sent x h.1 in
    let no : is_called k m.head m.carried ≡ false = one_unsent callees clients n k m.head m.carried x h.0 in
    (rw (no, q.0) refl, rw (no, q.1) refl)

-- each of them was sent
own_sends : (P : Head → List ℕ → FsCall → Type 0) (rest : List Message) (head : Head) (x : Carried) → OfCall (ByClient P) head x → OfCall (ByClient (λ h user call. P h user call × Sends (called_key h) user call (record { head = head; carried = x } ∷ rest))) head x
own_sends P rest head (carried.Call user (ask.File call)) h = of_client_node head.from (P head user call) _ (λ p. (p, inl (refl, refl))) h
own_sends P rest head (carried.Call user (ask.Volume call)) h = absurd h
own_sends P rest head (carried.Call user (ask.Location call)) h = h
own_sends P rest head (carried.Refusal code) h = tt
own_sends P rest head (carried.Reply reply) h = tt
own_sends P rest head carried.Notice h = tt

pub sends_each : (P : Head → List ℕ → FsCall → Type 0) (ms : List Message) → Each (IfCall P) ms → Each (IfCall (λ h user call. P h user call × Sends (called_key h) user call ms)) ms
sends_each P [] h = tt
sends_each P (m ∷ ms) h = (
  own_sends P ms m.head m.carried h.0,
  each_map _ _ (if_call (λ h user call. P h user call × Sends (called_key h) user call ms) (λ h user call. P h user call × Sends (called_key h) user call (m ∷ ms)) (λ h user call x. (x.0, inr x.1))) ms (sends_each P ms h.1),
)

abbrev pub of_client : ℕ → Step ClientState → Entry
of_client n st = record { actor = actors.Node (Client n); lines = st.lines; sent = st.sent; volumes = [] }

-- ---- no call of a client is later than its last

-- a later pair of a client is none below
pub later_pair : (n : ℕ) (c : ClientState) (st : Step ClientState) → Acts n (who_at c) c.gifts st → (e k : ℕ) → UpTo e k c.epoch c.last → UpTo e k st.state.epoch st.state.last
later_pair n c st a e k h = elim a.goes [
  | inl r ↦ subst (λ (x : ℕ). UpTo e k x st.state.last) (sym r.epoch) (subst (λ (x : ℕ). UpTo e k c.epoch x) (sym r.last) h)
  | inr y ↦ elim y [
    | inl z ↦ subst (λ (x : ℕ). UpTo e k x st.state.last) (sym z.epoch) (subst (λ (x : ℕ). UpTo e k c.epoch x) (sym z.last) (up_to_next e k c.epoch c.last h))
    | inr z ↦ elim z.how [
      | inl f ↦ below_up_to e k st.state.epoch st.state.last (up_to_below e k c.epoch c.last st.state.epoch st.state.last h (let up : st.state.epoch ≡ c.epoch + 1 = f.0 in inl (omega (arith, up))))
      | inr t ↦ subst (λ (x : ℕ). UpTo e k x st.state.last) (sym t.0) (subst (λ (x : ℕ). UpTo e k c.epoch x) (sym t.1.0) (up_to_next e k c.epoch c.last h))
    ]
  ]
]

-- what is asked of the location database
abbrev pub IsUpToLast : (ℕ → ClientState) → Head → List ℕ → LocCall → Type 0
IsUpToLast clients head user call = (j : ℕ) → head.from ≡ Client j → UpTo head.epoch head.number (clients j).epoch (clients j).last

pub of_seek : (P Q : Head → List ℕ → LocCall → Type 0) → ((head : Head) (user : List ℕ) (call : LocCall) → P head user call → Q head user call) → (head : Head) (x : Carried) → OfSeek P head x → OfSeek Q head x
of_seek P Q w head (carried.Call user (ask.File call)) h = tt
of_seek P Q w head (carried.Call user (ask.Volume call)) h = tt
of_seek P Q w head (carried.Call user (ask.Location call)) h = w head user call h
of_seek P Q w head (carried.Refusal code) h = tt
of_seek P Q w head (carried.Reply reply) h = tt
of_seek P Q w head carried.Notice h = tt

pub if_seek : (P Q : Head → List ℕ → LocCall → Type 0) → ((head : Head) (user : List ℕ) (call : LocCall) → P head user call → Q head user call) → (m : Message) → IfSeek P m → IfSeek Q m
if_seek P Q w m h = of_seek P Q w m.head m.carried h

-- who is no client asks nothing
abbrev pub IsNoSeek : Message → Type 0
IsNoSeek m = IfSeek (λ head user call. ⊥) m

no_seek : (q : Node) → is_client q ≡ false → (head : Head) (x : Carried) → head.from ≡ q → OfCall (ByClient (λ h user call. ⊥)) head x → OfSeek (λ h user call. ⊥) head x
no_seek q none head (carried.Call user (ask.File call)) from h = tt
no_seek q none head (carried.Call user (ask.Volume call)) from h = tt
no_seek q none head (carried.Call user (ask.Location call)) from h = (let no_ : true ≡ false = sym h.1.0 ∙ (ap is_client from ∙ none) in absurd cc)
no_seek q none head (carried.Refusal code) from h = tt
no_seek q none head (carried.Reply reply) from h = tt
no_seek q none head carried.Notice from h = tt

pub no_seeks : (q : Node) → is_client q ≡ false → (ms : List Message) → Each (IsSentBy q) ms → Each IsUncalled ms → Each IsNoSeek ms
no_seeks q none [] own h = tt
no_seeks q none (m ∷ ms) own h = (no_seek q none m.head m.carried own.0.from h.0, no_seeks q none ms own.1 h.1)

pub up_to_own : (n : ℕ) (y : ClientState) (clients : ℕ → ClientState) (head : Head) (user : List ℕ) (call : LocCall) → IsTheSeek n y head user call → IsUpToLast (put n y clients) head user call
up_to_own n y clients head user call x j from =
    let node : Client n ≡ Client j = sym (ap (λ (k : Key). k.node) x.key) ∙ from in
    at_put n j (λ (z : ClientState). UpTo head.epoch head.number z.epoch z.last) y clients
    (λ same. inr (ap (λ (k : Key). k.epoch) x.key, le_of_eq (ap (λ (k : Key). k.number) x.key)))
    (λ other. absurd (other (client_number n j node)))

-- ---- what holds after every entry

-- an act that waits for the location database: it needs what it asks, and asked it since it began; and no call of it waits for a server
pub record IsSeeking (s : Script) (j : ℕ) (x : ClientState) (k : Seek) (past : List Entry) : Type 0 where
  pub idle : x.running ≡ None
  pub callee : x.callee ≡ Loc
  pub tried : (i : ℕ) → 1 ≤ i → i ≤ x.tries → HasTimeout (Client j) Loc x.epoch x.last i (lines_of past)
  pub gone : (left : Left) → k.left ≡ Some left → is_gone_code left.code ≡ true
  pub its : (left : Left) → k.left ≡ Some left → IsOperandOf k.act k.operand
  pub needs : k.left ≡ None → next k.act ≡ locates k.operand
  pub asks : k.act.act ≡ acts.GiveUp → ⊥
  pub asked : AskedSince (last_key j x) (user_at s j) (question k.operand) past

-- a call of a client is none above its last, of whichever interface
pub call_up : (callees : Key → Node) (clients : ℕ → ClientState) (n : ℕ) (head : Head) (x : Carried) → IsCall x → head.from ≡ Client n → OfCall (ByClient (λ h user call. IsKnown callees clients h.to (key_of h))) head x → OfSeek (IsUpToLast clients) head x → UpTo head.epoch head.number (clients n).epoch (clients n).last
call_up callees clients n head (carried.Call user (ask.File call)) is from h q = known_pair callees clients head.to (key_of head) n from (by_client n head.from (IsKnown callees clients head.to (key_of head)) from h)
call_up callees clients n head (carried.Call user (ask.Volume call)) is from h q = absurd h
call_up callees clients n head (carried.Call user (ask.Location call)) is from h q = q n from
call_up callees clients n head (carried.Refusal code) is from h q = absurd is
call_up callees clients n head (carried.Reply reply) is from h q = absurd is
call_up callees clients n head carried.Notice is from h q = absurd is

-- what the location database sends a client isn't above its last call either
abbrev pub IsBehindLast : (ℕ → ClientState) → Message → Type 0
IsBehindLast clients m = m.head.from ≡ Loc → (j : ℕ) → m.head.to ≡ Client j → UpTo m.head.epoch m.head.number (clients j).epoch (clients j).last

-- what the location database told of the script's volumes
abbrev pub IsToldByLoc : Script → Message → Type 0
IsToldByLoc s m = m.head.from ≡ Loc → TellsLookup s m

pub record Asked (s : Script) (handed : List Location) (loc : LocHost) (clients : ℕ → ClientState) (sent : List Message) (past : List Entry) : Type 0 where
  pub user : (j : ℕ) → (clients j).user ≡ user_at s j
  pub handed_is : handed ≡ locations s
  pub table : (j : ℕ) → (clients j).table ≡ locations s
  pub acts : (j : ℕ) → running s (Client j) (lines_of past) ≡ act_of (clients j)
  pub seeks : (j : ℕ) (k : Seek) → (clients j).seeking ≡ Some k → IsSeeking s j (clients j) k past
  pub lists : ListsLoc s loc
  pub told : Each (IsToldByLoc s) sent
  pub ones : Each (IfCall (IsOne sent)) sent
  pub last : (j : ℕ) (act : Going) → (clients j).running ≡ Some act → call_under (last_key j (clients j)) sent ≡ Some ((clients j).user, call_of (clients j) act)
  pub origins : Each (IfCall (Origin s past)) sent
  pub asked : (j : ℕ) (act : Going) → (clients j).running ≡ Some act → CalledSince (last_key j (clients j)) (user_at s j) (call_of (clients j) act) past
  pub late : (j : ℕ) (act : Going) → (clients j).running ≡ Some act → is_new_to_act (Client j) (last_key j (clients j)) past ≡ true
  pub upto : Each (IfSeek (IsUpToLast clients)) sent
  pub numbers : Each (IfCall IsNumberedCall) sent
  pub behind : Each (IsBehindLast clients) sent
  pub late_seek : (j : ℕ) (k : Seek) → (clients j).seeking ≡ Some k → is_new_to_act (Client j) (last_key j (clients j)) past ≡ true
  pub seats : (j : ℕ) → AreSeated (Client j) (clients j).seats

abbrev pub AskedIn : Script → Cell → List Entry → Type 0
AskedIn s c past = Asked s c.handed c.loc c.clients c.sent past

-- a client is handed the table that it has
pub handed_same : (s : Script) (c : Cell) (past : List Entry) → AskedIn s c past → (n : ℕ) → c.handed ≡ (c.clients n).table
handed_same s c past A n = A.handed_is ∙ sym (A.table n)

pub origin_over : (s : Script) (e : Entry) (past : List Entry) (head : Head) (user : List ℕ) (call : FsCall) → Origin s past head user call → Origin s (e ∷ past) head user call
origin_over s e past head user call x = record { act = x.act; called = inr x.called; own_user = x.own_user; own_call = x.own_call }

-- a step of another node
pub idle_asked : (s : Script) (handed : List Location) (loc : LocHost) (clients : ℕ → ClientState) (sent more : List Message) (past : List Entry) (e : Entry) → Asked s handed loc clients sent past → ((P : Message → Type 0) → Each P sent → Each P e.sent → Each P more) → ((k : Key) (x : List ℕ × FsCall) → call_under k sent ≡ Some x → call_under k more ≡ Some x)
    → all_lines is_idle e.lines ≡ true → Each IsUncalled e.sent → Each IsNoSeek e.sent → Each (IsToldByLoc s) e.sent → Each (IsBehindLast clients) e.sent → Asked s handed loc clients more (e ∷ past)
idle_asked s handed loc clients sent more past e A over under idle none asks tells backs = record {
  behind = over (IsBehindLast clients) A.behind backs;
  handed_is = A.handed_is;
  user = A.user;
  table = A.table;
  acts = λ j. (idle_leaves s j e.lines (lines_of past) idle).runs ∙ A.acts j;
  seeks = λ j k z. let q : IsSeeking s j (clients j) k past = A.seeks j k z in record { idle = q.idle; callee = q.callee; tried = λ i a b. timeout_onto (Client j) Loc (clients j).epoch (clients j).last i e.lines (lines_of past) (q.tried i a b); gone = q.gone; its = q.its; needs = q.needs; asks = q.asks; asked = inr ((idle_leaves s j e.lines (lines_of past) idle).begins, q.asked) };
  lists = A.lists;
  told = over (IsToldByLoc s) A.told tells;
  ones = over (IfCall (IsOne more)) (each_map _ _ (if_call (IsOne sent) (IsOne more) (λ h user call x. under (called_key h) (user, call) x)) sent A.ones) (each_map IsUncalled (IfCall (IsOne more)) (uncalled_any (IsOne more)) e.sent none);
  last = λ j act r. under (last_key j (clients j)) ((clients j).user, call_of (clients j) act) (A.last j act r);
  origins = over (IfCall (Origin s (e ∷ past))) (each_map _ _ (if_call (Origin s past) (Origin s (e ∷ past)) (origin_over s e past)) sent A.origins) (each_map IsUncalled (IfCall (Origin s (e ∷ past))) (uncalled_any (Origin s (e ∷ past))) e.sent none);
  asked = λ j act r. inr ((idle_leaves s j e.lines (lines_of past) idle).begins, A.asked j act r);
  late = λ j act r. late_kept (has_begun (Client j) e.lines) _ _ (idle_leaves s j e.lines (lines_of past) idle).begins (A.late j act r);
  numbers = over (IfCall IsNumberedCall) A.numbers (each_map IsUncalled (IfCall IsNumberedCall) (uncalled_any IsNumberedCall) e.sent none);
  upto = over (IfSeek (IsUpToLast clients)) A.upto (each_map IsNoSeek (IfSeek (IsUpToLast clients)) (if_seek (λ head user call. ⊥) (IsUpToLast clients) (λ head user call x. absurd x)) e.sent asks);
  late_seek = λ j k r. late_kept (has_begun (Client j) e.lines) _ _ (idle_leaves s j e.lines (lines_of past) idle).begins (A.late_seek j k r);
  seats = A.seats;
}

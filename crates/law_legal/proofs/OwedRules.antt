-- The breaks of each server of a run are good, and its replies wait for them, however many servers a cell has.
use Rattle.law_legal.proofs.DatabaseKeeps.{no_server_loc}
use Rattle.law_legal.proofs.OwedLoadBreaks.{onto_both}
use Rattle.spec_history.specs.declared.lines.Line.{Line}
use Rattle.spec_history.specs.declared.lines.Line.TheVariants as lines
use Rattle.spec_history.specs.declared.scripts.Script.{Script}
use Rattle.spec_ideal.specs.Operations.{Found}
use Rattle.spec_ideal.specs.Tables.{Table}
use Rattle.law_legal.proofs.ActLines.{Acts, is_of, who_at, Who, IsTheCall}
use Rattle.law_legal.proofs.OwedPasses.{Plain, all_lines, backed_plain, change_back, is_unchanging}
use Rattle.law_legal.proofs.BaseLaws.{Above, Below, ByServer, Each, IfBack, IfCall, IfReply, LastSeat, OfCall, OfClient, OfReply, OfServer, at_put, both, by_client, each_at, each_map, each_more, node_apart, of_call, runs_admitted, not_loc}
use Rattle.law_legal.proofs.ServerBoots.{all_same, serves_standing, times_standing}
use Rattle.law_legal.proofs.OwedBySteps.{Facing, IsKept, IsMessage, Loads, Runtime, answered_loads, does_loads, none_loads, noticed_loads, of_server, timed_loads}
use Rattle.law_legal.proofs.ServerChooses.{Works, is_from, serves_works, times_works}
use Rattle.law_legal.proofs.ServerStepsCut.{comes_first, now_up}
use Rattle.law_legal.proofs.OwedWaitsByKey.{durable_above}
use Rattle.law_legal.proofs.VolumeEdits.{on_top}
use Rattle.law_legal.proofs.VolumesAreIdeal.{of_this}
use Rattle.law_legal.proofs.CallKeysOnce.{HasRun, IsKnown, any_told, by_key, new_key, not_run, server_number}
use Rattle.law_legal.proofs.RunWalk.{Behind}
use Rattle.law_legal.proofs.ActCalls.{of_client}
use Rattle.law_legal.proofs.OwedBesideOthers.{KeepsKey, apart_backed, is_apart, other_calm, pumped_own}
use Rattle.law_legal.proofs.OwedFacts.{AllOf, BackIn, BackedIn, HeldWaits, IsClient, SeatedIn}
use Rattle.law_legal.proofs.PromisesAreGood.{is_file, was_given}
use Rattle.law_legal.proofs.ServerReasons.{IsFile, Runs, why_hears}
use Rattle.law_legal.proofs.ServerSaves.{on_changed, onto_versioned}
use Rattle.law_legal.proofs.ServerSeats.{IsReplyOf}
use Rattle.law_legal.proofs.ServerSeatsAll.{SitsIn}
use Rattle.law_legal.proofs.ClientAnswersCalls.{Tells, kept_at, of_plain, old_seated, speaks_tells, Speaks}
use Rattle.law_legal.proofs.RunClock.{HeldTicks, works_lines, AnyCall, works_stand}
use Rattle.law_legal.proofs.OwedTurns.{Pumps, expired_backed, pumps}
use Rattle.law_legal.specs.Ideal.{clock_of}
use Rattle.law_legal.specs.Legal.{AreGood, AreGoodSent, GoodReply, HasChange, IsGood, IsNew}
use Rattle.law_legal.specs.Parts.{EachLine, EachSent}
use Rattle.law_legal.specs.Past.{HasCode, lines_of, onto, server_boot, answered_key, sent_of}
use Rattle.law_legal.specs.ServerParts.{IsBreakGood}
use Rattle.spec_model.specs.Calls as pairs
use Rattle.spec_model.specs.Calls.{admitted, call_seat, key_of}
use Rattle.afs_num.specs.declared.calls.FsCall.{FsCall}
use Rattle.afs_num.specs.declared.histories.Actor.{Actor}
use Rattle.afs_num.specs.declared.histories.Version.{Version}
use Rattle.afs_num.specs.declared.messages.Call.TheVariants as ask
use Rattle.afs_num.specs.declared.messages.Carried.{Carried}
use Rattle.afs_num.specs.declared.messages.Carried.TheVariants as carried
use Rattle.afs_num.specs.declared.messages.Message.{Message}
use Rattle.afs_num.specs.declared.messages.Received.TheVariants.{Whole}
use Rattle.afs_num.specs.declared.types.Head.{Head}
use Rattle.afs_num.specs.declared.types.Key.{Key}
use Rattle.afs_num.specs.declared.types.Node.{Node}
use Rattle.afs_num.specs.declared.types.Node.TheVariants.{Client, Server, Loc}
use Rattle.spec_records.specs.Durable.{Stored}
use Rattle.spec_rows.specs.Callbacks.{CallbackStep, expired, is_seat_of, key_answered, no_turn, pumped, put, quits, replies_of, retries, turned_by}
use Rattle.spec_rows.specs.ClientRow.{reborn}
use Rattle.spec_rows.specs.Going.{ClientState}
use Rattle.law_legal.proofs.RunSteps.{server_moves}
use Rattle.spec_rows.specs.Runs.{Armed, Cell, Entry, Fall, client_moves, message_at, ServerHost}
use Rattle.spec_rows.specs.ServerRow.{Decision, decides, does, drops, granted, hears, versions_made, refuses, repeats, saves, shows, tells_boot, versioned}
use Rattle.spec_rows.specs.ServerSteps.{back_timeout_row, server_row, wake_row}
use Rattle.spec_rows.specs.States.{BackCall, Backs, Gift, Held, Seat, ServerState}
use Rattle.spec_rows.specs.Steps.{Step}
use Rattle.law_legal.proofs.ClientCalls.{IsAnswer, IsUncalled}
use Rattle.law_legal.proofs.BaseWords.{IsOne}
use Rattle.law_legal.proofs.ServerRefusesForGood.{IsSentBy}
use Rattle.law_legal.proofs.ServerHears.{no_server}
use Rattle.std.proofs.Common.{◌≡◌, ℕ, ◌+◌, ◌⊎◌, inl, inr, Bool, true, false, cond, nat_eq, nat_lt, List, [], ◌∷◌, ◌++◌, length, Option, Some, None, refl, sym, ap, subst, ◌∙◌, append-nil}
use Rattle.std.proofs.Math.Nat.{le_refl}
use Rattle.std.specs.Prelude.{⊤}

-- ---- what holds after every entry

-- a call is from a client, or to one
abbrev pub IsFair : Head → List ℕ → FsCall → Type 0
IsFair head user call = ((j : ℕ) × (head.from ≡ Client j)) ⊎ IsClient head.to

abbrev pub FairCall : Message → Type 0
FairCall m = OfCall IsFair m.head m.carried

-- what is known of a server's promises, breaks and replies that wait
abbrev pub BackedAt : ℕ → ServerHost → (ℕ → ClientState) → ℕ → List Message → List Entry → Type 0
BackedAt i h clients clock sent past = BackedIn (Server i) h.down h.state.backs h.state.lasting.boot h.state.seats (λ j. call_seat (Server i) (clients j).seats) clock sent past

pub record Backed (s : Script) (c : Cell) (past : List Entry) : Type 0 where
  pub count : c.count ≡ s.clients
  pub fair : Each FairCall c.sent
  pub all : (i : ℕ) → BackedAt i (c.hosts i) c.clients c.clock c.sent past

pub record Breaks (s : Script) (c : Cell) (past : List Entry) : Type 0 where
  pub held : HeldTicks s c past
  pub sits : SitsIn c past
  pub backed : Backed s c past

-- ---- rules of lines, and of messages

rule_of : (s : Script) (who : Actor) (l : Line) (past : List Entry) (own next : List Line) → IsGood s who l past own next → IsBreakGood s who l past own next
rule_of s who (lines.Change server k count) past own next h = h.1.owed
rule_of s who (lines.Owe server c what n) past own next h = h.1
rule_of s who (lines.Settle server c n) past own next h = h.1
rule_of s who (lines.Quit server c n) past own next h = h.1
rule_of s who l past own next h = tt

pub rules_of : (s : Script) (who : Actor) (past : List Entry) (own ls : List Line) → AreGood s who past own ls → EachLine (IsBreakGood s) who past own ls
rules_of s who past own [] h = tt
rules_of s who past own (l ∷ ls) h = (rule_of s who l past own ls h.0, rules_of s who past (l ∷ own) ls h.1)

abbrev pub is_free : Line → Bool
is_free (lines.Change server k count) = false
is_free (lines.Owe server c what n) = false
is_free (lines.Settle server c n) = false
is_free (lines.Quit server c n) = false
is_free l = true

pub free_rule : (s : Script) (who : Actor) (l : Line) (past : List Entry) (own next : List Line) → is_free l ≡ true → IsBreakGood s who l past own next
free_rule s who (lines.Change server k count) past own next h = absurd cc
free_rule s who (lines.Owe server c what n) past own next h = absurd cc
free_rule s who (lines.Settle server c n) past own next h = absurd cc
free_rule s who (lines.Quit server c n) past own next h = absurd cc
free_rule s who l past own next h = tt

pub free_rules : (s : Script) (who : Actor) (past : List Entry) (own ls : List Line) → all_lines is_free ls ≡ true → EachLine (IsBreakGood s) who past own ls
free_rules s who past own [] h = tt
free_rules s who past own (l ∷ ls) h = let q = both (is_free l) (all_lines is_free ls) h in (free_rule s who l past own ls q.0, free_rules s who past (l ∷ own) ls q.1)

of_free : (n : ℕ) (l : Line) → is_of n l ≡ true → is_free l ≡ true
of_free n (lines.Change server k count) h = absurd cc
of_free n (lines.Owe server c what k) h = absurd cc
of_free n (lines.Settle server c k) h = absurd cc
of_free n (lines.Quit server c k) h = absurd cc
of_free n l h = refl

pub all_free : (n : ℕ) (ls : List Line) → all_lines (is_of n) ls ≡ true → all_lines is_free ls ≡ true
all_free n [] h = refl
all_free n (l ∷ ls) h = let q = both (is_of n l) (all_lines (is_of n) ls) h in rw (of_free n l q.0, all_free n ls q.1) refl

pub versions_rules : (s : Script) (who : Actor) (past : List Entry) (own : List Line) (vs : List Version) (ls : List Line) → EachLine (IsBreakGood s) who past (on_top vs own) ls → EachLine (IsBreakGood s) who past own (versioned vs ls)
versions_rules s who past own [] ls h = h
versions_rules s who past own (v ∷ vs) ls h = (tt, versions_rules s who past (lines.Version v ∷ own) vs ls h)

pub granted_rules : (s : Script) (who : Actor) (past : List Entry) (own : List Line) (me c : Node) (x : ℕ) (fs : List Found) (ls : List Line) → EachLine (IsBreakGood s) who past (onto own (granted me c x fs [])) ls → EachLine (IsBreakGood s) who past own (granted me c x fs ls)
granted_rules s who past own me c x [] ls h = h
granted_rules s who past own me c x (f ∷ fs) ls h = (tt, granted_rules s who past (lines.Grant me c f.fid f.vnode.index x ∷ own) me c x fs ls h)

pub replies_good : (past : List Entry) (ms : List Message) → AreGoodSent past ms → EachSent GoodReply past ms
replies_good past [] h = tt
replies_good past (m ∷ ms) h = (h.0.reply, replies_good past ms h.1)

-- a client sends no server's replies
pub client_good : (n : ℕ) (past : List Entry) (ms : List Message) → Each (λ m. m.head.from ≡ Client n) ms → EachSent GoodReply past ms
client_good n past [] h = tt
client_good n past (m ∷ ms) h = ((λ is nought i from. absurd (no_server n i (sym h.0 ∙ from))), client_good n past ms h.1)

-- nor does the location database
pub loc_good : (past : List Entry) (ms : List Message) → Each (IsSentBy Loc) ms → EachSent GoodReply past ms
loc_good past [] h = tt
loc_good past (m ∷ ms) h = ((λ is nought i from. absurd (no_server_loc m.head i h.0.from from)), loc_good past ms h.1)

-- ---- a client's step

acts_file : (n : ℕ) (x : Who) (gs : List Gift) (st : Step ClientState) → Acts n x gs st → Each IsFile st.sent
acts_file n x gs st a = elim a.goes [
  | inl r ↦ each_map (IfCall (IsTheCall n st.state)) IsFile (is_file (IsTheCall n st.state)) st.sent r.sent
  | inr q ↦ elim q [ inl k ↦ subst (Each IsFile) (sym k.sent) (tt, tt) | inr k ↦ each_map IsUncalled IsFile (is_file (λ h user call. ⊥)) st.sent k.sent ]
]

client_back : (P : Head → List ℕ → FsCall → Type 0) (n : ℕ) (head : Head) (c : Carried) → head.from ≡ Client n → OfCall (λ h user call. ⊤) head c → OfCall (ByServer P) head c
client_back P n head (carried.Call user (ask.File call)) from h = subst (λ (q : Node). OfServer q (P head user call)) (sym from) tt
client_back P n head (carried.Call user (ask.Volume call)) from h = absurd h
client_back P n head (carried.Call user (ask.Location call)) from h = h
client_back P n head (carried.Refusal code) from h = tt
client_back P n head (carried.Reply reply) from h = tt
client_back P n head carried.Notice from h = tt

fair_of : (n : ℕ) (head : Head) (c : Carried) → head.from ≡ Client n → OfCall (λ h user call. ⊤) head c → OfCall IsFair head c
fair_of n head (carried.Call user (ask.File call)) from h = inl (n, from)
fair_of n head (carried.Call user (ask.Volume call)) from h = absurd h
fair_of n head (carried.Call user (ask.Location call)) from h = h
fair_of n head (carried.Refusal code) from h = tt
fair_of n head (carried.Reply reply) from h = tt
fair_of n head carried.Notice from h = tt

each_zip : (P Q R : Message → Type 0) → ((m : Message) → P m → Q m → R m) → (ms : List Message) → Each P ms → Each Q ms → Each R ms
each_zip P Q R w [] h k = tt
each_zip P Q R w (m ∷ ms) h k = (w m h.0 k.0, each_zip P Q R w ms h.1 k.1)

abbrev pub TellsAll : Cell → List Entry → ℕ → Step ClientState → Type 0
TellsAll c past n st = (i : ℕ) → Tells (Server i) (c.hosts i).down (c.hosts i).state.backs (c.hosts i).state.lasting.boot (of_client n st ∷ past) n st.sent st.state.seats

pub client_backed : (s : Script) (c : Cell) (past : List Entry) (n : ℕ) (st : Step ClientState) → Backed s c past → Acts n (who_at (c.clients n)) (c.clients n).gifts st → TellsAll c past n st → Behind (Backed s) c past (client_moves c n st)
client_backed s c past n st B a t =
    let e : Entry = of_client n st in
    let file : Each IsFile st.sent = acts_file n (who_at (c.clients n)) (c.clients n).gifts st a in
    record {
      count = B.count;
      fair = each_more FairCall c.sent st.sent B.fair (each_zip (λ m. m.head.from ≡ Client n) IsFile FairCall (λ m. fair_of n m.head m.carried) st.sent (each_map (IsSentBy (Client n)) (λ m. m.head.from ≡ Client n) (λ m k. k.from) st.sent a.from) file);
      all = λ i.
          let h : ServerHost = c.hosts i in
          let b : Backs = h.state.backs in
          let boot : ℕ = h.state.lasting.boot in
          let cs : ℕ → Option Seat = λ j. call_seat (Server i) (c.clients j).seats in
          let p : Plain (Server i) st.lines = of_plain n i st.lines a.of in
          backed_plain (Server i) h.down b boot h.state.seats cs (λ j. call_seat (Server i) (put n st.state c.clients j).seats) c.clock c.clock c.sent st.sent e past p (le_refl _) (B.all i) (each_zip (λ m. m.head.from ≡ Client n) IsFile (IfBack (BackIn (Server i) h.down b.calls b.last_call boot)) (λ m. client_back (BackIn (Server i) h.down b.calls b.last_call boot) n m.head m.carried) st.sent (each_map (IsSentBy (Client n)) (λ m. m.head.from ≡ Client n) (λ m k. k.from) st.sent a.from) file) (t i).dones
          (λ j seat m. at_put n j (λ (x : ClientState). call_seat (Server i) x.seats ≡ Some seat → seat.reply ≡ Some m → SeatedIn (Server i) h.down b.calls b.last_call boot (e ∷ past) j m) st.state c.clients
          (λ same x y. subst (λ (k : ℕ). SeatedIn (Server i) h.down b.calls b.last_call boot (e ∷ past) k m) same ((t i).seated seat m x y))
          (λ other x y. old_seated (Server i) h.down b boot h.state.seats cs c.clock c.sent e past j p (B.all i) seat m x y));
    }

-- where it answers no call
pub speaks_all : (s : Script) (c : Cell) (past : List Entry) (n : ℕ) (st : Step ClientState) → Backed s c past → Acts n (who_at (c.clients n)) (c.clients n).gifts st → Speaks (c.clients n).seats st → TellsAll c past n st
speaks_all s c past n st B a h i =
    let x : ServerHost = c.hosts i in
    speaks_tells (Server i) x.down x.state.backs x.state.lasting.boot (of_client n st ∷ past) n (c.clients n).seats st h
    (old_seated (Server i) x.down x.state.backs x.state.lasting.boot x.state.seats (λ j. call_seat (Server i) (c.clients j).seats) c.clock c.sent (of_client n st) past n (of_plain n i st.lines a.of) (B.all i))

-- a client that stops keeps nothing
pub falls_all : (c : Cell) (past : List Entry) (n : ℕ) → TellsAll c past n (record { state = reborn c.handed (c.clients n); lines = lines.Crash (Client n) ∷ []; sent = [] })
falls_all c past n i = record { dones = tt; seated = λ seat m x y. absurd cc }

-- ---- a step of a server, for the others

reply_of : (X : Type 0) (to : Node) (c : Carried) (j : ℕ) → (OfReply ⊥ c → ⊥) → to ≡ Client j → OfReply (OfClient to X) c → X
reply_of X to (carried.Call user call) j is e h = absurd (is tt)
reply_of X to (carried.Refusal code) j is e h = by_client j to X e h
reply_of X to (carried.Reply reply) j is e h = by_client j to X e h
reply_of X to carried.Notice j is e h = absurd (is tt)

-- a change is made under keys of its own server
abbrev pub KnownIn : Cell → (Key → Node) → Message → List Line → List Line → Type 0
KnownIn c callees m front rest = IfCall (λ h user call. IsKnown callees c.clients h.to (key_of h)) m

from_unchanging : (me : Node) (l : Line) → is_from me l ≡ true → is_unchanging l ≡ true
from_unchanging me (lines.Change s k count) h = absurd cc
from_unchanging me l h = refl

all_unchanging : (me : Node) (ls : List Line) → all_lines (is_from me) ls ≡ true → all_lines is_unchanging ls ≡ true
all_unchanging me [] h = refl
all_unchanging me (l ∷ ls) h = let q = both (is_from me l) (all_lines (is_from me) ls) h in rw (from_unchanging me l q.0, all_unchanging me ls q.1) refl

works_key : (c : Cell) (callees : Key → Node) (i : ℕ) (x : ServerState) (b : Table Stored) (ls o : List Line) (k : Key) → Works (KnownIn c callees) (Server i) x b ls → (callees k ≡ Server i → ⊥) → HasChange k (onto o ls) → HasChange k o
works_key c callees i x b ls o k (inl w) ne z = change_back k ls o (all_unchanging (Server i) ls w.lines) z
works_key c callees i x b ls o k (inr S) ne z =
    let vs : List Version = versions_made S.change in
    let l : Line = lines.Change (Server i) (key_of S.head) (length vs) in
    let base : List Line = l ∷ onto o S.front in
    let on : onto o ls ≡ onto (on_top vs base) S.rest = ap (onto o) S.split ∙ (onto_both o S.front (l ∷ versioned vs S.rest) ∙ onto_versioned vs S.rest base) in
    let known : IsKnown callees c.clients S.message.head.to (key_of S.message.head) = of_this (λ h user call. IsKnown callees c.clients h.to (key_of h)) S.chosen.client S.message.head S.message.carried S.chosen.user S.chosen.call S.chosen.from S.chosen.carries S.given in
    elim (on_changed k vs base (change_back k S.rest (on_top vs base) (all_unchanging (Server i) S.rest S.behind) (subst (HasChange k) on z))) [
      | inl same ↦ absurd (ne (ap callees (sym same ∙ ap key_of S.chosen.head') ∙ (sym known.called ∙ S.chosen.to)))
      | inr old ↦ change_back k S.front o (all_unchanging (Server i) S.front S.before) old
    ]

held_keys : (s : Script) (c : Cell) (past : List Entry) (callees : Key → Node) (i j : ℕ) (seats : List Seat) (clock : ℕ) (hs : List Held) (ls : List Line) → (i ≡ j → ⊥) → AllOf (HeldWaits (Server j) seats clock past) hs → Each (IfReply (λ r. by_key (IsKnown callees c.clients) r.head)) (replies_of hs)
    → ((k : Key) → (callees k ≡ Server i → ⊥) → HasChange k (onto (lines_of past) ls) → HasChange k (lines_of past)) → (sent : List Message) → AllOf (KeepsKey (of_server (Server i) ls sent) past) hs
held_keys s c past callees i j seats clock [] ls ne w k key sent = tt
held_keys s c past callees i j seats clock (h ∷ hs) ls ne w k key sent = (
  λ z. key (key_answered h.reply) (λ e. ne (server_number i j (sym e ∙ (sym (reply_of (by_key (IsKnown callees c.clients) h.reply.head) h.reply.head.to h.reply.carried w.0.client w.0.is_reply w.0.to k.0 j w.0.from).called ∙ w.0.from)))) z,
  held_keys s c past callees i j seats clock hs ls ne w.1 k.1 key sent,
)

-- its own facts, and those of the others
host_all : (s : Script) (c : Cell) (past : List Entry) (i : ℕ) (h : ServerHost) (ls : List Line) (ms : List Message) → (B : Breaks s c past) → Works (KnownIn c B.held.0.0.0.keys.callees) (Server i) (c.hosts i).state h.state.lasting.volumes ls → Each (IsMessage (Server i)) ms
    → BackedAt i h c.clients c.clock (c.sent ++ ms) (of_server (Server i) ls ms ∷ past) → (j : ℕ) → BackedAt j (put i h c.hosts j) c.clients c.clock (c.sent ++ ms) (of_server (Server i) ls ms ∷ past)
host_all s c past i h ls ms B w own mine j =
    let callees : Key → Node = B.held.0.0.0.keys.callees in
    let e : Entry = of_server (Server i) ls ms in
    at_put i j (λ (x : ServerHost). BackedAt j x c.clients c.clock (c.sent ++ ms) (e ∷ past)) h c.hosts (λ same. subst (λ (k : ℕ). BackedAt k h c.clients c.clock (c.sent ++ ms) (e ∷ past)) same mine)
    (λ other.
    let x : ServerHost = c.hosts j in
    let old : BackedAt j x c.clients c.clock c.sent past = B.backed.all j in
    apart_backed (Server j) (Server i) x.down x.state.backs x.state.lasting.boot x.state.seats (λ k. call_seat (Server j) (c.clients k).seats) c.clock c.sent ms e past (λ q. other (server_number i j q)) (works_lines (KnownIn c callees) (Server i) (c.hosts i).state h.state.lasting.volumes ls (is_apart (Server j)) (other_calm i j other) w)
    (node_apart (Server i) (Server j) (λ q. other (server_number i j q)))
    (λ up. held_keys s c past callees i j x.state.seats c.clock x.state.backs.held ls other (old.waiting up)
    (each_map (IsAnswer (by_key (IsKnown callees c.clients)) any_told) (IfReply (λ r. by_key (IsKnown callees c.clients) r.head)) (λ m a. a.1.0) (replies_of x.state.backs.held) (B.held.0.0.0.keys.held j))
    (λ k ne. works_key c callees i (c.hosts i).state h.state.lasting.volumes ls (lines_of past) k w ne) ms) own old)

fair_own : (me : Node) (ms : List Message) → Each (IsMessage me) ms → Each FairCall ms
fair_own me ms h = each_map (IsMessage me) FairCall (λ m x. of_call (λ head user call. IsClient head.to) IsFair (λ head user call z. inr z) m.head m.carried x.calls) ms h

-- a step of a server that is done
abbrev pub HostStep : Script → Cell → List Entry → ℕ → Step ServerState → Type 0
HostStep s c past i st = Each (IsMessage (Server i)) st.sent × BackedIn (Server i) None st.state.backs st.state.lasting.boot st.state.seats (λ j. call_seat (Server i) (c.clients j).seats) c.clock (c.sent ++ st.sent) (of_server (Server i) st.lines st.sent ∷ past)

pub moves_backed : (s : Script) (c : Cell) (past : List Entry) (i : ℕ) (armed : Armed) (st : Step ServerState) → (B : Breaks s c past) → Works (KnownIn c B.held.0.0.0.keys.callees) (Server i) (c.hosts i).state st.state.lasting.volumes st.lines → HostStep s c past i st → Behind (Backed s) c past (server_moves c i armed st)
moves_backed s c past i armed st B w h = record {
  count = B.backed.count;
  fair = each_more FairCall c.sent st.sent B.backed.fair (fair_own (Server i) st.sent h.0);
  all = host_all s c past i (record { state = st.state; down = None; armed = armed }) st.lines st.sent B w h.0 h.1;
}

-- one that stops it, or leaves it down
pub falls_backed : (s : Script) (c : Cell) (past : List Entry) (i : ℕ) (h : ServerHost) (ls : List Line) → (B : Breaks s c past) → Works (KnownIn c B.held.0.0.0.keys.callees) (Server i) (c.hosts i).state h.state.lasting.volumes ls → BackedAt i h c.clients c.clock (c.sent ++ []) (of_server (Server i) ls [] ∷ past)
    → Backed s (record c { hosts = put i h c.hosts }) (of_server (Server i) ls [] ∷ past)
falls_backed s c past i h ls B w mine = record {
  count = B.backed.count;
  fair = B.backed.fair;
  all = λ j. subst (λ (ms : List Message). BackedAt j (put i h c.hosts j) c.clients c.clock ms (of_server (Server i) ls [] ∷ past)) (append-nil c.sent) (host_all s c past i h ls [] B w tt mine j);
}

-- ---- what the server is given

code_answers : (c : Carried) → HasCode c → OfReply ⊥ c → ⊥
code_answers (carried.Call user call) is = absurd is
code_answers (carried.Refusal code) is = λ z. z
code_answers (carried.Reply reply) is = λ z. z
code_answers carried.Notice is = absurd is

client_calls : (head : Head) (c : Carried) (i : ℕ) (user : List ℕ) (call : FsCall) → head.to ≡ Server i → c ≡ carried.Call user (ask.File call) → OfCall IsFair head c → (j : ℕ) × (head.from ≡ Client j)
client_calls head c i user call to is h = elim (subst (OfCall IsFair head) is h) [ inl x ↦ x | inr x ↦ absurd (subst IsClient to x) ]

-- no change has a key that a server keeps above its seat
fresh_key : (s : Script) (c : Cell) (past : List Entry) (i : ℕ) (k : Key) → (B : Breaks s c past) → IsKnown B.held.0.0.0.keys.callees c.clients (Server i) k → Above (call_seat k.node (c.hosts i).state.lasting.kept) k.epoch k.number → IsNew k (lines_of past)
fresh_key s c past i k B known above = new_key (HasRun B.held.0.0.0.keys.callees c.clients c.hosts) k (lines_of past) (not_run B.held.0.0.0.keys.callees c.clients c.hosts i k known above) B.held.0.0.0.keys.ran

runtime : (s : Script) (c : Cell) (past : List Entry) (i place : ℕ) (m : Message) (j : ℕ) → (B : Breaks s c past) → (c.hosts i).down ≡ None → message_at c.sent place ≡ Some m → Runs (Server i) (c.hosts i).state m j → Runtime (Server i) (c.hosts i).state m place past
runtime s c past i place m j B up at run =
    let x : ServerState = (c.hosts i).state in
    let callees : Key → Node = B.held.0.0.0.keys.callees in
    let Known : Head → List ℕ → FsCall → Type 0 = λ h user call. IsKnown callees c.clients h.to (key_of h) in
    let known : IsKnown callees c.clients m.head.to (key_of m.head) = of_this Known j m.head m.carried run.user run.call run.from run.carries (each_at (IfCall Known) c.sent place m at B.held.0.0.0.keys.calls) in
    record {
      boot = now_up c past i B.held.0.0.0.hears up;
      first = comes_first c past i m j B.held.0.0.0.hears up run.from run.runs;
      given = was_given s c past place m B.held.0 at;
      new = fresh_key s c past i (key_of m.head) B (subst (λ (q : Node). IsKnown callees c.clients q (key_of m.head)) run.to known) ((B.held.0.0.0.keys.sound i).lower m.head.from m.head.epoch m.head.number (runs_admitted x.lasting.boot x.seats m.head run.runs).1);
    }

kept_reply : (s : Script) (c : Cell) (past : List Entry) (i : ℕ) (m : Message) (j : ℕ) (reply : Message) → (B : Breaks s c past) → m.head.from ≡ Client j → admitted (c.hosts i).state.lasting.boot (c.hosts i).state.seats m.head ≡ pairs.kept reply
    → IsKept (Server i) (c.hosts i).state reply × (is_seat_of reply (call_seat reply.head.to (c.hosts i).state.lasting.kept) ≡ false → IsNew (key_answered reply) (lines_of past))
kept_reply s c past i m j reply B from e =
    let x : ServerState = (c.hosts i).state in
    let callees : Key → Node = B.held.0.0.0.keys.callees in
    let l : LastSeat m.head.epoch m.head.number (call_seat m.head.from x.seats) reply = kept_at (nat_eq m.head.boot x.lasting.boot) x.lasting.boot m.head.epoch m.head.number (call_seat m.head.from x.seats) reply e in
    let at : call_seat (Client j) x.seats ≡ Some l.seat = ap (λ (n : Node). call_seat n x.seats) (sym from) ∙ l.at in
    let is : IsReplyOf (Server i) (Client j) l.seat reply = (B.sits i).seats (Client j) l.seat reply at l.reply in
    let answer : IsKnown callees c.clients reply.head.from (answered_key reply.head) = reply_of (by_key (IsKnown callees c.clients) reply.head) reply.head.to reply.carried j (code_answers reply.carried is.reply.1) is.to ((B.held.0.0.0.keys.sound i).seats (Client j) l.seat reply at l.reply).1.0 i is.from in
    let kept : IsKept (Server i) x reply = record { client = j; seat = l.seat; at = at; kept = l.reply; is = is; answers = code_answers reply.carried is.reply.1 } in (
      kept,
      λ t. fresh_key s c past i (key_answered reply) B (subst (λ (q : Node). IsKnown callees c.clients q (answered_key reply.head)) is.from answer)
          (durable_above (call_seat reply.head.to x.lasting.kept) reply.head.epoch reply.head.number reply refl refl t
          (λ d k b. (B.held.0.0.0.keys.sound i).lower reply.head.to d k (subst (λ (o : Option Seat). Above o d k) (sym (ap (λ (n : Node). call_seat n x.seats) is.to ∙ at)) (subst (λ (u : ℕ). Below u l.seat.number d k) is.epoch (subst (λ (u : ℕ). Below reply.head.epoch u d k) is.number b))))),
    )

facing : (s : Script) (c : Cell) (past : List Entry) (i place : ℕ) (m : Message) (user : List ℕ) (call : FsCall) → (B : Breaks s c past) → (c.hosts i).down ≡ None → message_at c.sent place ≡ Some m → m.head.to ≡ Server i → m.carried ≡ carried.Call user (ask.File call) → Facing (Server i) (c.hosts i).state m place past
facing s c past i place m user call B up at to is =
    let j = client_calls m.head m.carried i user call to is (each_at FairCall c.sent place m at B.backed.fair) in
    record { client = j.0; from = j.1; now = λ k run. runtime s c past i place m k B up at run; kept = λ reply e. kept_reply s c past i m j.0 reply B j.1 e }

-- what it has in memory at first in a step
abbrev pub UpAt : Cell → List Entry → ℕ → Type 0
UpAt c past i = BackedIn (Server i) None (expired c.clock (c.hosts i).state.backs) (c.hosts i).state.lasting.boot (c.hosts i).state.seats (λ j. call_seat (Server i) (c.clients j).seats) c.clock c.sent past

pub up_at : (s : Script) (c : Cell) (past : List Entry) (i : ℕ) → Backed s c past → (c.hosts i).down ≡ None → UpAt c past i
up_at s c past i B up =
    let x : ServerState = (c.hosts i).state in
    let cs : ℕ → Option Seat = λ j. call_seat (Server i) (c.clients j).seats in
    expired_backed (Server i) x.backs x.lasting.boot x.seats cs c.clock c.sent past (subst (λ (d : Option Fall). BackedIn (Server i) d x.backs x.lasting.boot x.seats cs c.clock c.sent past) up (B.all i))

-- the row's step, by what the message carries
abbrev pub given_step : Cell → ℕ → ℕ → Message → Carried → CallbackStep
given_step c i place m y = turned_by (Server i) (c.hosts i).state c.clock (expired c.clock (c.hosts i).state.backs) (hears (Server i) (c.hosts i).state c.clock m.head y) m.head y

abbrev GivenLoads : Cell → List Entry → ℕ → ℕ → Message → Carried → Type 0
GivenLoads c past i place m y =
    Loads (Server i) (c.hosts i).state.lasting.boot (does (Server i) (c.hosts i).state c.clock place (hears (Server i) (c.hosts i).state c.clock m.head y) []).state.seats (λ j. call_seat (Server i) (c.clients j).seats) c.clock c.sent
    (of_server (Server i) (does (Server i) (c.hosts i).state c.clock place (hears (Server i) (c.hosts i).state c.clock m.head y) (given_step c i place m y).lines).lines (pumped (Server i) (c.hosts i).state.lasting.boot (given_step c i place m y)).sent ∷ past) (given_step c i place m y)

given_loads : (s : Script) (c : Cell) (past : List Entry) (i place : ℕ) (m : Message) (y : Carried) → (B : Breaks s c past) → (c.hosts i).down ≡ None → message_at c.sent place ≡ Some m → m.head.to ≡ Server i → m.carried ≡ y → OfCall (λ h user call. ⊤) m.head y → GivenLoads c past i place m y
given_loads s c past i place m (carried.Call user (ask.File call)) B up at to is f =
    let x : ServerState = (c.hosts i).state in
    does_loads (Server i) x m c.clock place (hears (Server i) x c.clock m.head (carried.Call user (ask.File call))) (λ j. call_seat (Server i) (c.clients j).seats) c.sent past (up_at s c past i B.backed up) (facing s c past i place m user call B up at to is) (why_hears (Server i) x c.clock m (carried.Call user (ask.File call)) refl is f)
given_loads s c past i place m (carried.Call user (ask.Volume call)) B up at to is f = absurd f
given_loads s c past i place m (carried.Call user (ask.Location call)) B up at to is f = not_loc m.head (Server i) _ to refl f.0
given_loads s c past i place m (carried.Refusal code) B up at to is f = answered_loads (Server i) (c.hosts i).state.lasting.boot (expired c.clock (c.hosts i).state.backs) (c.hosts i).state.seats (λ j. call_seat (Server i) (c.clients j).seats) c.clock place c.sent _ past m.head (up_at s c past i B.backed up)
given_loads s c past i place m (carried.Reply reply) B up at to is f = answered_loads (Server i) (c.hosts i).state.lasting.boot (expired c.clock (c.hosts i).state.backs) (c.hosts i).state.seats (λ j. call_seat (Server i) (c.clients j).seats) c.clock place c.sent _ past m.head (up_at s c past i B.backed up)
given_loads s c past i place m carried.Notice B up at to is f = noticed_loads (Server i) refl (c.hosts i).state.lasting.boot (expired c.clock (c.hosts i).state.backs) (c.hosts i).state.seats (λ j. call_seat (Server i) (c.clients j).seats) c.clock place c.sent _ past m.head (up_at s c past i B.backed up)

-- the end of a step
abbrev pub Ends : Cell → List Entry → ℕ → ℕ → List Seat → List Line → CallbackStep → Type 0
Ends c past i boot seats ls t =
    Pumps (Server i) boot seats (λ j. call_seat (Server i) (c.clients j).seats) c.clock c.sent (of_server (Server i) ls (pumped (Server i) boot t).sent ∷ past) t × Each (IsMessage (Server i)) (pumped (Server i) boot t).sent

pub ends : (c : Cell) (past : List Entry) (i boot : ℕ) (seats : List Seat) (ls : List Line) (t : CallbackStep) → sent_of past ≡ c.sent → clock_of (onto (lines_of past) ls) ≡ c.clock → server_boot (Server i) (onto (lines_of past) ls) ≡ Some boot
    → Loads (Server i) boot seats (λ j. call_seat (Server i) (c.clients j).seats) c.clock c.sent (of_server (Server i) ls (pumped (Server i) boot t).sent ∷ past) t → Ends c past i boot seats ls t
ends c past i boot seats ls t told time up l =
    let e : Entry = of_server (Server i) ls (pumped (Server i) boot t).sent in
    (pumps (Server i) boot seats (λ j. call_seat (Server i) (c.clients j).seats) c.clock c.sent e past t refl told refl refl time l.backed l.sends up, pumped_own (Server i) boot seats c.clock (e ∷ past) t (l.backed.clients refl).owed (l.backed.waiting refl) l.own)

does_boot : (me : Node) (x : ServerState) (clock place : ℕ) (d : Decision) → (does me x clock place d []).state.lasting.boot ≡ x.lasting.boot
does_boot me x clock place drops = refl
does_boot me x clock place (tells_boot head) = refl
does_boot me x clock place (repeats reply) = refl
does_boot me x clock place (refuses head code) = refl
does_boot me x clock place (shows head r) = refl
does_boot me x clock place (saves head c) = refl

-- the server serves a message
pub served_step : (s : Script) (c : Cell) (past : List Entry) (i place : ℕ) (m : Message) → (B : Breaks s c past) → (c.hosts i).down ≡ None → message_at c.sent place ≡ Some m → m.head.to ≡ Server i
    → HostStep s c past i (server_row (Server i) (c.hosts i).state c.clock place (Whole m)) × AreGoodSent (of_server (Server i) (server_row (Server i) (c.hosts i).state c.clock place (Whole m)).lines (server_row (Server i) (c.hosts i).state c.clock place (Whole m)).sent ∷ past) (server_row (Server i) (c.hosts i).state c.clock place (Whole m)).sent
unfolding server_row
served_step s c past i place m B up at to =
    let x : ServerState = (c.hosts i).state in
    let boot : ℕ = x.lasting.boot in
    let d : Decision = decides (Server i) x c.clock (Whole m) in
    let t : CallbackStep = given_step c i place m m.carried in
    let ls : List Line = (does (Server i) x c.clock place d t.lines).lines in
    let seats : List Seat = (does (Server i) x c.clock place d []).state.seats in
    let cs : ℕ → Option Seat = λ j. call_seat (Server i) (c.clients j).seats in
    let q : Ends c past i boot seats ls t = ends c past i boot seats ls t B.held.0.0.0.hears.told (works_stand c past i _ ls B.held.1 (serves_works AnyCall (Server i) x c.clock place m (λ rest. tt))) ((all_same i ls (lines_of past) (serves_standing (Server i) x c.clock place m)).boot ∙ now_up c past i B.held.0.0.0.hears up)
    (given_loads s c past i place m m.carried B up at to refl (is_file (IsOne c.sent) m (each_at (IfCall (IsOne c.sent)) c.sent place m at B.held.0.0.1.ones))) in
    subst (λ (n : ℕ). (Each (IsMessage (Server i)) (pumped (Server i) n t).sent × BackedIn (Server i) None (pumped (Server i) n t).backs n seats cs c.clock (c.sent ++ (pumped (Server i) n t).sent) (of_server (Server i) ls (pumped (Server i) n t).sent ∷ past)) × AreGoodSent (of_server (Server i) ls (pumped (Server i) n t).sent ∷ past) (pumped (Server i) n t).sent)
    (sym (does_boot (Server i) x c.clock place d)) ((q.1, q.0.backed), q.0.good)

pub timed_step : (s : Script) (c : Cell) (past : List Entry) (i : ℕ) (n : Node) (k : BackCall) → (B : Breaks s c past) → (c.hosts i).down ≡ None → (c.hosts i).state.backs.calls n ≡ Some k
    → HostStep s c past i (back_timeout_row (Server i) (c.hosts i).state c.clock n k) × AreGoodSent (of_server (Server i) (back_timeout_row (Server i) (c.hosts i).state c.clock n k).lines (back_timeout_row (Server i) (c.hosts i).state c.clock n k).sent ∷ past) (back_timeout_row (Server i) (c.hosts i).state c.clock n k).sent
unfolding back_timeout_row
timed_step s c past i n k B up at =
    let x : ServerState = (c.hosts i).state in
    let b : Backs = expired c.clock x.backs in
    let boot : ℕ = x.lasting.boot in
    let cs : ℕ → Option Seat = λ j. call_seat (Server i) (c.clients j).seats in
    let t : CallbackStep = cond (nat_lt k.tries 2) (retries (Server i) boot n k b) (quits (Server i) boot n k b) in
    let q : Ends c past i boot x.seats t.lines t = ends c past i boot x.seats t.lines t B.held.0.0.0.hears.told (works_stand c past i _ t.lines B.held.1 (times_works AnyCall (Server i) x c.clock n k)) ((all_same i t.lines (lines_of past) (times_standing (Server i) x c.clock n k)).boot ∙ now_up c past i B.held.0.0.0.hears up)
    (timed_loads (nat_lt k.tries 2) (Server i) refl boot b x.seats cs c.clock c.sent (pumped (Server i) boot t).sent past n k (up_at s c past i B.backed up) at) in
    ((q.1, q.0.backed), q.0.good)

pub woken_step : (s : Script) (c : Cell) (past : List Entry) (i : ℕ) → (B : Breaks s c past) → (c.hosts i).down ≡ None
    → HostStep s c past i (wake_row (Server i) (c.hosts i).state c.clock) × AreGoodSent (of_server (Server i) (wake_row (Server i) (c.hosts i).state c.clock).lines (wake_row (Server i) (c.hosts i).state c.clock).sent ∷ past) (wake_row (Server i) (c.hosts i).state c.clock).sent
unfolding wake_row
woken_step s c past i B up =
    let x : ServerState = (c.hosts i).state in
    let b : Backs = expired c.clock x.backs in
    let boot : ℕ = x.lasting.boot in
    let cs : ℕ → Option Seat = λ j. call_seat (Server i) (c.clients j).seats in
    let t : CallbackStep = no_turn b in
    let e : Entry = of_server (Server i) [] (pumped (Server i) boot t).sent in
    let q : Ends c past i boot x.seats [] t = ends c past i boot x.seats [] t B.held.0.0.0.hears.told B.held.1 (now_up c past i B.held.0.0.0.hears up) (none_loads (Server i) b boot x.seats cs c.clock c.sent e past (up_at s c past i B.backed up) (record { up = refl; still = refl; oweless = refl; unchanging = refl })) in
    ((q.1, q.0.backed), q.0.good)

-- An act changes things once, however many servers a cell has: of the calls of one act at most one may change something, and that is its
-- client's last.
use Rattle.law_legal.proofs.ActLeavesServer.{missed_last, sought_last}
use Rattle.law_legal.specs.LocLaws.{IsToldIn}
use Rattle.afs_num.specs.declared.calls.FsCall.TheVariants as calls
use Rattle.spec_model.specs.Calls as pairs
use Rattle.spec_model.specs.Calls.{Admitted, admitted, key_of}
use Rattle.spec_history.specs.declared.acts.Act.{Act}
use Rattle.law_legal.proofs.ActBegins.{row_begun}
use Rattle.law_legal.proofs.RunsKnown.{Known}
use Rattle.law_legal.proofs.DatabaseKeeps.{loc_own}
use Rattle.law_legal.proofs.ActFollows.{none_runs, Follows, begins_follow, falls_follow, given_follow, more_not, rises_follow, waits_follow, sought_follow, missed_follow}
use Rattle.spec_history.specs.declared.lines.Line.{Line}
use Rattle.spec_history.specs.declared.lines.Line.TheVariants as lines
use Rattle.spec_history.specs.declared.scripts.Script.{Script}
use Rattle.spec_ideal.specs.Operations.{the_user, volume_changed}
use Rattle.law_legal.proofs.ActLines.{Acts, Asks, IsTheCall, last_key, who_at}
use Rattle.law_legal.proofs.ActSteps.{begins_acts, falls_acts, given_acts, rises_acts, waits_acts, missed_acts, IsPlaced, by_quiet, sought_quiet}
use Rattle.law_legal.proofs.OwedPasses.{all_lines}
use Rattle.law_legal.proofs.BaseLaws.{ByClient, Each, IfCall, UpTo, at_put, both, by_client, client_number, each_at, node_apart, same_key-true, same_node-true, some_of}
use Rattle.law_legal.proofs.VolumeChanges.{HeldCuts, IdealStep, cuts_first, cuts_kept, ideal_moves, run_each}
use Rattle.law_legal.proofs.ServerChooses.{disk_works, one_from, risen_from, risen_lines, serves_works, starts_works, times_works, wakes_works}
use Rattle.law_legal.proofs.BaseWords.{AreLone, IsChangingUnder}
use Rattle.law_legal.proofs.ServerRefusesForGood.{IsFirm, IsSentBy}
use Rattle.law_legal.proofs.ClientGifts.{Given, given_first, given_kept}
use Rattle.law_legal.proofs.CallKeysOnce.{IsKnown, any_told, by_key, known_pair}
use Rattle.law_legal.proofs.RunSetUp.{first_passed}
use Rattle.law_legal.proofs.RunWalk.{Behind, EachMove, IsKept, each_moved}
use Rattle.law_legal.proofs.VolumeOperations.{changes_is}
use Rattle.law_legal.proofs.ActCalls.{AskedIn, idle_leaves, is_idle, of_client, other_leaves, handed_same}
use Rattle.law_legal.proofs.ActCallsInRuns.{any_cut, any_message, blow_idle, idle_works, same_key_at, the_calls, loc_idle, sought_acts_in, placed_in, told_in}
use Rattle.law_legal.proofs.KeptPasses.{IsAmong, among, changing_back, changing_more, lone_at, lone_first, lone_more, no_change, was_sent}
use Rattle.law_legal.proofs.RunLinesInPlace.{Placed, PlacedStep, placed_first, placed_kept, placed_moves}
use Rattle.law_legal.proofs.ServerSaves.{any_change, later_not}
use Rattle.law_legal.proofs.ServerPosts.{rises_posts, served_posts, times_posts, wakes_posts}
use Rattle.law_legal.specs.ClientParts.{ChangesAreAlone, IsAlone, IsFirstOfAct}
use Rattle.law_legal.specs.Ideal.{call_in, call_under, change_in, set_up_entry}
use Rattle.law_legal.specs.Legal.{HasChange, HasChangeBy, IdealChange, IsInPlace, IsNew, IsNot, IsOfClient, IsLater}
use Rattle.law_legal.specs.Parts.{EachLine, IsIdeal}
use Rattle.law_legal.specs.Past.{Called, called_key, has_begun, has_sent, is_called, is_of_act, is_sent_since, lines_of, onto, running, sent_of}
use Rattle.afs_num.specs.Nodes.{same_node}
use Rattle.afs_num.specs.declared.calls.FsCall.{FsCall}
use Rattle.afs_num.specs.declared.histories.Actor.{Actor}
use Rattle.afs_num.specs.declared.histories.ReadBody.{ReadBody}
use Rattle.afs_num.specs.declared.messages.Call.TheVariants as ask
use Rattle.afs_num.specs.declared.messages.Carried.{Carried}
use Rattle.afs_num.specs.declared.messages.Carried.TheVariants as carried
use Rattle.afs_num.specs.declared.messages.Message.{Message}
use Rattle.afs_num.specs.declared.messages.Received.TheVariants.{Whole}
use Rattle.afs_num.specs.declared.types.Fid.{Fid}
use Rattle.afs_num.specs.declared.types.Head.{Head}
use Rattle.afs_num.specs.declared.types.Key.{Key}
use Rattle.afs_num.specs.declared.types.Node.{Node}
use Rattle.afs_num.specs.declared.types.Node.TheVariants.{Admin, Client, Loc, Server}
use Rattle.spec_rows.specs.Callbacks.{put}
use Rattle.spec_rows.specs.ClientRow.{call_of, act_by, act_of, act_sought, admits_call, awaits, begin_row, breaks, client_row, hears, ignores, runs_carried, seek_timeout_row, sought_by, whole, reborn}
use Rattle.spec_rows.specs.Going.{ClientState, Going, began, read_on, Seek}
use Rattle.law_legal.proofs.RunSteps.{blow_line, server_falls, server_moves, server_rises, server_set, server_stays, loc_becomes}
use Rattle.spec_rows.specs.Runs.{Cell, Entry, at_rest, begun_by_disk, in_boot, in_step, locations, moved, start, ticked, voided}
use Rattle.law_legal.proofs.RunSteps.{loc_becomes}
use Rattle.spec_rows.specs.ServerSteps.{back_timeout_row, server_row, wake_row}
use Rattle.spec_rows.specs.ServerRow.{is_client}
use Rattle.spec_rows.specs.Steps.{Step}
use Rattle.std.proofs.Common.{suc, ◌≡◌, ℕ, ◌+◌, ◌⊎◌, inl, inr, Bool, true, false, cond, List, [], ◌∷◌, ◌++◌, Option, Some, None, refl, sym, ap, subst, ◌∙◌}
use Rattle.std.specs.Prelude.{⊤, nat_lt}
use Rattle.law_legal.proofs.KeptIsLookedAt.{begun_by}

-- ---- of the act that runs only the client's last call may change something

abbrev pub LastOf : (ℕ → ClientState) → List Entry → Type 0
LastOf clients past = (j : ℕ) (act : Going) → (clients j).running ≡ Some act → (k : Key) → is_of_act (Client j) k past ≡ true → IsChangingUnder k (sent_of past) → k ≡ last_key j (clients j)

-- and while that waits for the location database, no call of its client has a later pair than what may have changed something
abbrev pub SoughtOf : (ℕ → ClientState) → List Entry → Type 0
SoughtOf clients past = (j : ℕ) (k : Seek) → (clients j).seeking ≡ Some k → (l : Key) → is_of_act (Client j) l past ≡ true → IsChangingUnder l (sent_of past) → (q : Key) → q.node ≡ Client j → has_sent q (sent_of past) ≡ true → UpTo q.epoch q.number l.epoch l.number

abbrev pub LonesOf : (ℕ → ClientState) → List Entry → Type 0
LonesOf clients past = LastOf clients past × (AreLone (sent_of past) past × SoughtOf clients past)

abbrev pub LonesIn : Cell → List Entry → Type 0
LonesIn c past = LonesOf c.clients past

-- an entry in which this client begins nothing and calls nobody
record Aside (j : ℕ) (e : Entry) : Type 0 where
  begins : has_begun (Client j) e.lines ≡ false
  unsent : (k : Key) → k.node ≡ Client j → has_sent k e.sent ≡ false

before_by : (t u b : Bool) → t ≡ false → u ≡ false → cond t true (cond u false b) ≡ true → b ≡ true
before_by true u b e f h = absurd cc
before_by false true b e f h = absurd cc
before_by false false b e f h = h

of_act_before : (j : ℕ) (k : Key) (e : Entry) (past : List Entry) → Aside j e → is_of_act (Client j) k (e ∷ past) ≡ true → is_of_act (Client j) k past ≡ true
of_act_before j k e past a h =
    let p = both (same_node k.node (Client j)) (is_sent_since (Client j) k (e ∷ past)) h in
    let since : is_sent_since (Client j) k past ≡ true = before_by (has_sent k e.sent) (has_begun (Client j) e.lines) (is_sent_since (Client j) k past) (a.unsent k (same_node-true k.node (Client j) p.0)) a.begins p.1 in
    rw (p.0, since) refl

-- what its call may change it might before
changing_before : (j : ℕ) (k : Key) (e : Entry) (past : List Entry) → is_of_act (Client j) k past ≡ true → IsChangingUnder k (sent_of (e ∷ past)) → IsChangingUnder k (sent_of past)
changing_before j k e past h c = changing_back k (sent_of past) e.sent (was_sent (Client j) k past (both (same_node k.node (Client j)) (is_sent_since (Client j) k past) h).1) c

lone_aside : (j : ℕ) (e : Entry) (past : List Entry) → Aside j e → AreLone (sent_of past) past → (k l : Key) → is_of_act (Client j) k (e ∷ past) ≡ true → is_of_act (Client j) l (e ∷ past) ≡ true → IsChangingUnder k (sent_of (e ∷ past)) → IsChangingUnder l (sent_of (e ∷ past)) → k ≡ l
lone_aside j e past a h k l x y c d =
    let x' : is_of_act (Client j) k past ≡ true = of_act_before j k e past a x in
    let y' : is_of_act (Client j) l past ≡ true = of_act_before j l e past a y in
    lone_first (sent_of past) past h j k l x' y' (changing_before j k e past x' c) (changing_before j l e past y' d)

last_aside : (clients : ℕ → ClientState) (j : ℕ) (e : Entry) (past : List Entry) → Aside j e → LastOf clients past → (act : Going) → (clients j).running ≡ Some act → (k : Key) → is_of_act (Client j) k (e ∷ past) ≡ true → IsChangingUnder k (sent_of (e ∷ past)) → k ≡ last_key j (clients j)
last_aside clients j e past a h act r k x c = let x' : is_of_act (Client j) k past ≡ true = of_act_before j k e past a x in h j act r k x' (changing_before j k e past x' c)

back_by : (t a b : Bool) → (a ≡ true → b ≡ true) → cond t true a ≡ true → cond t true b ≡ true
back_by true a b w h = refl
back_by false a b w h = w h

sent_back : (k : Key) (a b : List Message) → has_sent k b ≡ false → has_sent k (a ++ b) ≡ true → has_sent k a ≡ true
sent_back k [] b none h = let no_ : false ≡ true = sym none ∙ h in absurd cc
sent_back k (m ∷ a) b none h = back_by (is_called k m.head m.carried) (has_sent k (a ++ b)) (has_sent k a) (sent_back k a b none) h

sought_aside : (clients : ℕ → ClientState) (j : ℕ) (e : Entry) (past : List Entry) → Aside j e → SoughtOf clients past → (k : Seek) → (clients j).seeking ≡ Some k → (l : Key) → is_of_act (Client j) l (e ∷ past) ≡ true → IsChangingUnder l (sent_of (e ∷ past)) → (q : Key) → q.node ≡ Client j → has_sent q (sent_of (e ∷ past)) ≡ true → UpTo q.epoch q.number l.epoch l.number
sought_aside clients j e past a h k z l x c q node has = let x' : is_of_act (Client j) l past ≡ true = of_act_before j l e past a x in h j k z l x' (changing_before j l e past x' c) q node (sent_back q (sent_of past) e.sent (a.unsent q node) has)

older_lone : (e : Entry) (past : List Entry) → AreLone (sent_of past) past → AreLone (sent_of (e ∷ past)) past
older_lone e past h = lone_more past (sent_of past) e.sent (λ k y. y) h

aside_lones : (clients : ℕ → ClientState) (e : Entry) (past : List Entry) → ((j : ℕ) → Aside j e) → LonesOf clients past → LonesOf clients (e ∷ past)
aside_lones clients e past a h = (
  λ j act r k x c. last_aside clients j e past (a j) h.0 act r k x c,
  ((λ j k l x y c d. lone_aside j e past (a j) h.1.0 k l x y c d, older_lone e past h.1.0), λ j k z l x c q node has. sought_aside clients j e past (a j) h.1.1 k z l x c q node has),
)

-- what another node sends is none of its calls
called_by : (t : Bool) (me : Node) (k : Key) (head : Head) (x : Carried) → head.from ≡ me → same_node me k.node ≡ false → is_called k head x ≡ t → t ≡ false
called_by false me k head x from ne e = refl
called_by true me k head (carried.Call user (ask.File call)) from ne e =
    let is : same_node me k.node ≡ true = ap (λ (q : Node). same_node q k.node) (sym from) ∙ (both (same_node head.from k.node) _ e).0 in
    let no_ : false ≡ true = sym ne ∙ is in absurd cc
called_by true me k head (carried.Call user (ask.Volume call)) from ne e = absurd cc
called_by true me k head (carried.Call user (ask.Location call)) from ne e = absurd cc
called_by true me k head (carried.Refusal code) from ne e = absurd cc
called_by true me k head (carried.Reply reply) from ne e = absurd cc
called_by true me k head carried.Notice from ne e = absurd cc

none_sent : (me : Node) (k : Key) (ms : List Message) → Each (IsSentBy me) ms → same_node me k.node ≡ false → has_sent k ms ≡ false
none_sent me k [] h ne = refl
none_sent me k (m ∷ ms) h ne = rw (called_by (is_called k m.head m.carried) me k m.head m.carried h.0.from ne refl, none_sent me k ms h.1 ne) refl

loc_aside : (s : Script) (e : Entry) (past : List Entry) → all_lines is_idle e.lines ≡ true → Each (IsSentBy Loc) e.sent → (j : ℕ) → Aside j e
loc_aside s e past idle by j = record {
  begins = (idle_leaves s j e.lines (lines_of past) idle).begins;
  unsent = λ k node. none_sent Loc k e.sent by (ap (same_node Loc) node);
}

server_aside : (s : Script) (i : ℕ) (e : Entry) (past : List Entry) → all_lines is_idle e.lines ≡ true → Each (IsSentBy (Server i)) e.sent → (j : ℕ) → Aside j e
server_aside s i e past idle by j = record {
  begins = (idle_leaves s j e.lines (lines_of past) idle).begins;
  unsent = λ k node. none_sent (Server i) k e.sent by (ap (same_node (Server i)) node);
}

other_aside : (s : Script) (c : Cell) (past : List Entry) (n j : ℕ) (st : Step ClientState) → Acts n (who_at (c.clients n)) (c.clients n).gifts st → (n ≡ j → ⊥) → Aside j (of_client n st)
other_aside s c past n j st a ne = record {
  begins = (other_leaves s n j st.lines (lines_of past) a.of ne).begins;
  unsent = λ k node. none_sent (Client n) k st.sent a.from (ap (same_node (Client n)) node ∙ node_apart (Client n) (Client j) (λ z. ne (client_number n j z)));
}

-- ---- a step of a client

-- what it sends now is its last call
sent_last : (n : ℕ) (x : ClientState) (st : Step ClientState) → Each (IfCall (IsTheCall n st.state)) st.sent → (k : Key) → k.node ≡ Client n → has_sent k st.sent ≡ true → (k ≡ last_key n st.state) × ((b : Going) × (st.state.running ≡ Some b))
sent_last n x st calls k node h =
    let a : IsAmong k (ByClient (IsTheCall n st.state)) = among k (IsTheCall n st.state) st.sent h calls in
    let key : called_key a.head ≡ k = same_key-true (called_key a.head) k a.key in
    let from : a.head.from ≡ Client n = ap (λ (l : Key). l.node) key ∙ node in
    let w : IsTheCall n st.state a.head a.user a.call = by_client n a.head.from (IsTheCall n st.state a.head a.user a.call) from a.fact in
    (sym key ∙ w.key, (w.act, w.runs))

-- no act runs at a client that had none, unless it begins one
idle_by : (t : Bool) (g o : Option Going) → t ≡ false → o ≡ None → cond t g o ≡ None
idle_by true g o e h = absurd cc
idle_by false g o e h = h

ended_by : (t : Bool) (o : Option Going) → o ≡ None → cond t None o ≡ None
ended_by true o h = refl
ended_by false o h = h

read_idle : (t : Bool) (f : Fid) (body : ReadBody) → read_on t f body None ≡ None
read_idle true f body = refl
read_idle false f body = refl

stays_idle : (s : Script) (n : Node) (ls o : List Line) → has_begun n ls ≡ false → running s n o ≡ None → running s n (onto o ls) ≡ None
stays_idle s n [] o h r = r
stays_idle s n (lines.Begin m act ∷ ls) o h r = let q = begun_by (same_node m n) (has_begun n ls) h in stays_idle s n ls (lines.Begin m act ∷ o) q.1 (idle_by (same_node m n) (Some (began (locations s) act)) (running s n o) q.0 r)
stays_idle s n (lines.Read m f index source body ∷ ls) o h r = stays_idle s n ls (lines.Read m f index source body ∷ o) h (ap (read_on (same_node m n) f body) r ∙ read_idle (same_node m n) f body)
stays_idle s n (lines.Answer m code ∷ ls) o h r = stays_idle s n ls (lines.Answer m code ∷ o) h (ended_by (same_node m n) (running s n o) r)
stays_idle s n (lines.Crash m ∷ ls) o h r = stays_idle s n ls (lines.Crash m ∷ o) h (ended_by (same_node m n) (running s n o) r)
stays_idle s n (l ∷ ls) o h r = stays_idle s n ls (l ∷ o) h r

-- where it has asked further, its last call changed nothing
asked_last : (s : Script) (c : Cell) (past : List Entry) (n : ℕ) (st : Step ClientState) (o : Option Going) → sent_of past ≡ c.sent → AskedIn s c past → LastOf c.clients past → Acts n (who_at (c.clients n)) (c.clients n).gifts st → Follows n (c.clients n) st → ((z : Asks n (who_at (c.clients n)) st) → (c.clients n).running ≡ None → has_begun (Client n) st.lines ≡ false → ⊥) → Asks n (who_at (c.clients n)) st → (c.clients n).running ≡ o → has_begun (Client n) st.lines ≡ false
    → (k : Key) → is_of_act (Client n) k past ≡ true → IsChangingUnder k (sent_of past) → ⊥
asked_last s c past n st None told A h a f asks z r begun k x w =
    absurd (asks z r begun)
asked_last s c past n st (Some g) told A h a f asks z r begun k x w =
    let is : k ≡ last_key n (c.clients n) = h n g r k x w in
    let one : (w.user, w.call) ≡ ((c.clients n).user, call_of (c.clients n) g) = some_of _ _ (sym w.one ∙ (ap (λ (l : Key). call_under l (sent_of past)) is ∙ (ap (call_under (last_key n (c.clients n))) told ∙ A.last n g r))) in
    w.changes (ap (λ (q : List ℕ × FsCall). volume_changed q.1) one ∙ f.reads z.act z.runs (more_not st.state.last (c.clients n).last z.last) g r)

older_last : (s : Script) (c : Cell) (past : List Entry) (n : ℕ) (st : Step ClientState) → sent_of past ≡ c.sent → AskedIn s c past → LastOf c.clients past → Acts n (who_at (c.clients n)) (c.clients n).gifts st → Follows n (c.clients n) st → ((z : Asks n (who_at (c.clients n)) st) → (c.clients n).running ≡ None → has_begun (Client n) st.lines ≡ false → ⊥) → (b : Going) → st.state.running ≡ Some b → has_begun (Client n) st.lines ≡ false
    → (k : Key) → is_of_act (Client n) k past ≡ true → IsChangingUnder k (sent_of past) → k ≡ last_key n st.state
older_last s c past n st told A h a f asks b run begun k x w = elim a.goes [
  | inl r ↦ elim r.act [
    | inl none ↦ absurd (none_runs st.state.running b none run)
    | inr same ↦ h n b (sym same.0 ∙ run) k x w ∙ sym (same_key_at n (c.clients n) st.state r.epoch r.last)
  ]
  | inr y ↦ elim y [
    | inl z ↦ absurd (asked_last s c past n st (c.clients n).running told A h a f asks z refl begun k x w)
    | inr z ↦ absurd (none_runs st.state.running b z.act run)
  ]
]

-- a key of the act was sent now, or before in the same act
since_case : (t u b : Bool) (S : Type 0) → cond t true (cond u false b) ≡ true → (t ≡ true → S) → (u ≡ false → b ≡ true → S) → S
since_case true u b S h p q = p refl
since_case false true b S h p q = absurd cc
since_case false false b S h p q = q refl h

now_last : (s : Script) (c : Cell) (past : List Entry) (n : ℕ) (st : Step ClientState) → sent_of past ≡ c.sent → AskedIn s c past → LastOf c.clients past → Acts n (who_at (c.clients n)) (c.clients n).gifts st → Follows n (c.clients n) st → ((z : Asks n (who_at (c.clients n)) st) → (c.clients n).running ≡ None → has_begun (Client n) st.lines ≡ false → ⊥) → (b : Going) → st.state.running ≡ Some b
    → (k : Key) → is_of_act (Client n) k (of_client n st ∷ past) ≡ true → IsChangingUnder k (sent_of (of_client n st ∷ past)) → k ≡ last_key n st.state
now_last s c past n st told A h a f asks b run k x w =
    let e : Entry = of_client n st in
    let p = both (same_node k.node (Client n)) (is_sent_since (Client n) k (e ∷ past)) x in
    since_case (has_sent k st.sent) (has_begun (Client n) st.lines) (is_sent_since (Client n) k past) (k ≡ last_key n st.state) p.1
    (λ y. (sent_last n (c.clients n) st (the_calls n (c.clients n) st a.goes) k (same_node-true k.node (Client n) p.0) y).0)
    (λ begun y. let x' : is_of_act (Client n) k past ≡ true = rw (p.0, y) refl in older_last s c past n st told A h a f asks b run begun k x' (changing_before n k e past x' w))

-- of the act that began last one at most, whether it runs or not
own_lone : (s : Script) (c : Cell) (past : List Entry) (n : ℕ) (st : Step ClientState) (o : Option Going) → sent_of past ≡ c.sent → AskedIn s c past → LonesIn c past → Acts n (who_at (c.clients n)) (c.clients n).gifts st → Follows n (c.clients n) st → ((z : Asks n (who_at (c.clients n)) st) → (c.clients n).running ≡ None → has_begun (Client n) st.lines ≡ false → ⊥) → st.state.running ≡ o
    → (k l : Key) → is_of_act (Client n) k (of_client n st ∷ past) ≡ true → is_of_act (Client n) l (of_client n st ∷ past) ≡ true → IsChangingUnder k (sent_of (of_client n st ∷ past)) → IsChangingUnder l (sent_of (of_client n st ∷ past)) → k ≡ l
own_lone s c past n st (Some b) told A h a f asks run k l x y w v = now_last s c past n st told A h.0 a f asks b run k x w ∙ sym (now_last s c past n st told A h.0 a f asks b run l y v)
own_lone s c past n st None told A h a f asks run k l x y w v =
    let e : Entry = of_client n st in
    let p = both (same_node k.node (Client n)) (is_sent_since (Client n) k (e ∷ past)) x in
    let q = both (same_node l.node (Client n)) (is_sent_since (Client n) l (e ∷ past)) y in
    let unsent : (m : Key) → m.node ≡ Client n → has_sent m st.sent ≡ true → ⊥ = λ m node z. let g = sent_last n (c.clients n) st (the_calls n (c.clients n) st a.goes) m node z in none_runs st.state.running g.1.0 run g.1.1 in
    since_case (has_sent k st.sent) (has_begun (Client n) st.lines) (is_sent_since (Client n) k past) (k ≡ l) p.1
    (λ z. absurd (unsent k (same_node-true k.node (Client n) p.0) z))
    (λ begun z. since_case (has_sent l st.sent) (has_begun (Client n) st.lines) (is_sent_since (Client n) l past) (k ≡ l) q.1
    (λ u. absurd (unsent l (same_node-true l.node (Client n) q.0) u))
    (λ begun' u. let x' : is_of_act (Client n) k past ≡ true = rw (p.0, z) refl in let y' : is_of_act (Client n) l past ≡ true = rw (q.0, u) refl in
    lone_first (sent_of past) past h.1.0 n k l x' y' (changing_before n k e past x' w) (changing_before n l e past y' v)))

-- its call has no later pair than its client's last
pub pair_behind : (callees : Key → Node) (clients : ℕ → ClientState) (j : ℕ) (k : Key) (sent : List Message) → k.node ≡ Client j → has_sent k sent ≡ true → Each (IfCall (λ h user call. IsKnown callees clients h.to (key_of h))) sent → UpTo k.epoch k.number (clients j).epoch (clients j).last
pair_behind callees clients j k sent node h all =
    let a : IsAmong k (ByClient (λ h user call. IsKnown callees clients h.to (key_of h))) = among k (λ h user call. IsKnown callees clients h.to (key_of h)) sent h all in
    let key : called_key a.head ≡ k = same_key-true (called_key a.head) k a.key in
    let from : a.head.from ≡ Client j = ap (λ (l : Key). l.node) key ∙ node in
    subst (λ (l : Key). UpTo l.epoch l.number (clients j).epoch (clients j).last) key (known_pair callees clients a.head.to (key_of a.head) j from (by_client j a.head.from (IsKnown callees clients a.head.to (key_of a.head)) from a.fact))

sent_not : (t : Bool) → (t ≡ true → ⊥) → t ≡ false
sent_not true w = absurd (w refl)
sent_not false w = refl

which : (A : Type 0) (o : Option A) → (o ≡ None) ⊎ ((a : A) × (o ≡ Some a))
which A None = inl refl
which A (Some a) = inr (a, refl)

-- an act that begins to wait for the location database, or waits on
own_sought : (s : Script) (c : Cell) (past : List Entry) (n : ℕ) (st : Step ClientState) → Known c past → AskedIn s c past → LonesIn c past → Acts n (who_at (c.clients n)) (c.clients n).gifts st → (k : Seek) → st.state.seeking ≡ Some k → (l : Key) → is_of_act (Client n) l (of_client n st ∷ past) ≡ true → IsChangingUnder l (sent_of (of_client n st ∷ past))
    → (q : Key) → q.node ≡ Client n → has_sent q (sent_of (of_client n st ∷ past)) ≡ true → UpTo q.epoch q.number l.epoch l.number
own_sought s c past n st K A h a k z l x w q node has =
    let e : Entry = of_client n st in
    let idle : st.state.running ≡ None = elim (a.seeks k z) [ inl o ↦ o.running ∙ (A.seeks n k o.before).idle | inr now ↦ now.running ] in
    let unsent : (m : Key) → m.node ≡ Client n → has_sent m st.sent ≡ false = λ m own. sent_not (has_sent m st.sent) (λ y. (let g = sent_last n (c.clients n) st (the_calls n (c.clients n) st a.goes) m own y in none_runs st.state.running g.1.0 idle g.1.1)) in
    let p = both (same_node l.node (Client n)) (is_sent_since (Client n) l (e ∷ past)) x in
    since_case (has_sent l st.sent) (has_begun (Client n) st.lines) (is_sent_since (Client n) l past) (UpTo q.epoch q.number l.epoch l.number) p.1
    (λ y. (let no_ : true ≡ false = sym y ∙ unsent l (same_node-true l.node (Client n) p.0) in absurd cc))
    (λ begun y.
    let aside : Aside n e = record { begins = begun; unsent = unsent } in
    let l' : is_of_act (Client n) l past ≡ true = rw (p.0, y) refl in
    let w' : IsChangingUnder l (sent_of past) = changing_before n l e past l' w in
    let has' : has_sent q (sent_of past) ≡ true = sent_back q (sent_of past) e.sent (unsent q node) has in
    elim (which Going (c.clients n).running) [
      | inr r ↦
          (let is : l ≡ last_key n (c.clients n) = h.0 n r.0 r.1 l l' w' in
          subst (λ (m : Key). UpTo q.epoch q.number m.epoch m.number) (sym is) (pair_behind K.keys.callees c.clients n q c.sent node (subst (λ (ms : List Message). has_sent q ms ≡ true) K.hears.told has') K.keys.calls))
      | inl none ↦ elim (which Seek (c.clients n).seeking) [
        | inr u ↦ h.1.1 n u.0 u.1 l l' w' q node has'
        | inl rest ↦
            (let before : running s (Client n) (lines_of past) ≡ None = A.acts n ∙ (ap (λ (r : Option Going). act_by r (c.clients n).seeking) none ∙ ap act_sought rest) in
            let behind : act_of st.state ≡ None = sym (a.runs s (A.table n) (lines_of past) (A.acts n)) ∙ stays_idle s (Client n) st.lines (lines_of past) begun before in
            let now : act_of st.state ≡ Some k.act = ap (λ (r : Option Going). act_by r st.state.seeking) idle ∙ ap act_sought z in
            absurd (none_runs (act_of st.state) k.act behind now))
      ]
    ])

client_lones : (s : Script) (c : Cell) (past : List Entry) (n : ℕ) (st : Step ClientState) → Known c past → AskedIn s c past → LonesIn c past → Acts n (who_at (c.clients n)) (c.clients n).gifts st → Follows n (c.clients n) st → ((z : Asks n (who_at (c.clients n)) st) → (c.clients n).running ≡ None → has_begun (Client n) st.lines ≡ false → ⊥) → LonesOf (put n st.state c.clients) (of_client n st ∷ past)
client_lones s c past n st K A h a f asks =
    let told : sent_of past ≡ c.sent = K.hears.told in
    let e : Entry = of_client n st in (
      λ j. at_put n j (λ (x : ClientState). (act : Going) → x.running ≡ Some act → (k : Key) → is_of_act (Client j) k (e ∷ past) ≡ true → IsChangingUnder k (sent_of (e ∷ past)) → k ≡ last_key j x) st.state c.clients
          (λ same. subst (λ (i : ℕ). (act : Going) → st.state.running ≡ Some act → (k : Key) → is_of_act (Client i) k (e ∷ past) ≡ true → IsChangingUnder k (sent_of (e ∷ past)) → k ≡ last_key i st.state) same (λ b run k x w. now_last s c past n st told A h.0 a f asks b run k x w))
          (λ other act r k x w. last_aside c.clients j e past (other_aside s c past n j st a other) h.0 act r k x w),
      (
        (
          λ j. at_put n j (λ (x : ClientState). (k l : Key) → is_of_act (Client j) k (e ∷ past) ≡ true → is_of_act (Client j) l (e ∷ past) ≡ true → IsChangingUnder k (sent_of (e ∷ past)) → IsChangingUnder l (sent_of (e ∷ past)) → k ≡ l) st.state c.clients
              (λ same. subst (λ (i : ℕ). (k l : Key) → is_of_act (Client i) k (e ∷ past) ≡ true → is_of_act (Client i) l (e ∷ past) ≡ true → IsChangingUnder k (sent_of (e ∷ past)) → IsChangingUnder l (sent_of (e ∷ past)) → k ≡ l) same (own_lone s c past n st st.state.running told A h a f asks refl))
              (λ other. lone_aside j e past (other_aside s c past n j st a other) h.1.0),
          older_lone e past h.1.0,
        ),
        λ j. at_put n j (λ (x : ClientState). (k : Seek) → x.seeking ≡ Some k → (l : Key) → is_of_act (Client j) l (e ∷ past) ≡ true → IsChangingUnder l (sent_of (e ∷ past)) → (q : Key) → q.node ≡ Client j → has_sent q (sent_of (e ∷ past)) ≡ true → UpTo q.epoch q.number l.epoch l.number) st.state c.clients
            (λ same. subst (λ (i : ℕ). (k : Seek) → st.state.seeking ≡ Some k → (l : Key) → is_of_act (Client i) l (e ∷ past) ≡ true → IsChangingUnder l (sent_of (e ∷ past)) → (q : Key) → q.node ≡ Client i → has_sent q (sent_of (e ∷ past)) ≡ true → UpTo q.epoch q.number l.epoch l.number) same (own_sought s c past n st K A h a))
            (λ other k z l x w q node has. sought_aside c.clients j e past (other_aside s c past n j st a other) h.1.1 k z l x w q node has),
      ),
    )

-- ---- every step

abbrev pub GivenLones : Script → Cell → List Entry → Type 0
GivenLones s c past = Given s c past × LonesIn c past

void_aside : (e : Entry) → e.sent ≡ [] → ((j : ℕ) → has_begun (Client j) e.lines ≡ false) → (j : ℕ) → Aside j e
void_aside e none begins j = record { begins = begins j; unsent = λ k node. ap (has_sent k) none }

-- ---- a client without an act that runs asks no server, but where an act begins

same_last : {k n : ℕ} → k ≡ n → k ≡ n + 1 → ⊥
same_last {k} {n} a b = more_not k n b a

breaks_last : (n place : ℕ) (c : ClientState) (head : Head) (call : FsCall) → (breaks (Client n) c place head call).state.last ≡ c.last
breaks_last n place c head (calls.CallBack fs callbacks) = refl
breaks_last n place c head calls.InitCallBackState = refl
breaks_last n place c head calls.Probe = refl
breaks_last n place c head call = refl

runs_last : (n place : ℕ) (c : ClientState) (head : Head) (x : Carried) → (runs_carried (Client n) c place head x).state.last ≡ c.last
runs_last n place c head (carried.Call user (ask.File call)) = breaks_last n place c head call
runs_last n place c head (carried.Call user call) = refl
runs_last n place c head x = refl

admits_last : (n place : ℕ) (c : ClientState) (head : Head) (x : Carried) (o : Admitted Message) → (admits_call (Client n) c place head (whole head x) o).state.last ≡ c.last
admits_last n place c head x pairs.runs = runs_last n place c head x
admits_last n place c head x (pairs.kept reply) = refl
admits_last n place c head x pairs.in_progress = refl
admits_last n place c head x pairs.older = refl
admits_last n place c head x (pairs.wrong_boot boot) = refl

awaits_last : (n clock place : ℕ) (c : ClientState) (head : Head) (x : Carried) (o : Option Going) → o ≡ None → (awaits (Client n) c clock place head x o).state.last ≡ c.last
awaits_last n clock place c head x None e = refl
awaits_last n clock place c head x (Some act) e = absurd cc

hears_last : (n clock place : ℕ) (c : ClientState) (head : Head) (x : Carried) → c.running ≡ None → (hears (Client n) c clock place head x).state.last ≡ c.last
hears_last n clock place c head (carried.Call user call) e = admits_last n place c head (carried.Call user call) (admitted c.epoch c.seats head)
hears_last n clock place c head x e = awaits_last n clock place c head x c.running e

to_last : (t : Bool) (n clock place : ℕ) (c : ClientState) (head : Head) (x : Carried) → c.running ≡ None → (cond t (hears (Client n) c clock place head x) (ignores c place)).state.last ≡ c.last
to_last true n clock place c head x e = hears_last n clock place c head x e
to_last false n clock place c head x e = refl

row_last : (n : ℕ) (c : ClientState) (clock place : ℕ) (m : Message) → c.running ≡ None → (client_row (Client n) c clock place (Whole m)).state.last ≡ c.last
unfolding client_row
row_last n c clock place m e = to_last (same_node m.head.to (Client n)) n clock place c m.head m.carried e

begins_asks : (n : ℕ) (c : ClientState) (clock : ℕ) (act : Act) → has_begun (Client n) (begin_row (Client n) c clock act).lines ≡ false → ⊥
begins_asks n c clock act nb = let yes : has_begun (Client n) (begin_row (Client n) c clock act).lines ≡ true = row_begun c n clock act in let no_ : true ≡ false = sym yes ∙ nb in absurd cc

lone_moves : (s : Script) → EachMove (GivenLones s) (Behind LonesIn)
lone_moves s = record {
  void = λ c past h. aside_lones c.clients (voided c).entry past (void_aside (voided c).entry refl (λ j. refl)) h.1;
  ticked = λ c past n h. aside_lones c.clients (ticked c (suc n)).entry past (void_aside (ticked c (suc n)).entry refl (λ j. refl)) h.1;
  begun = λ c past n act h r z. client_lones s c past n _ h.0.0.0.0.0 h.0.0.0.0.1 h.1 (begins_acts n (c.clients n) c.clock act r z) (begins_follow n (c.clients n) c.clock act (h.0.1 n).0 r) (λ y none nb. begins_asks n (c.clients n) c.clock act nb);
  told = λ c past n place m h at to un. client_lones s c past n _ h.0.0.0.0.0 h.0.0.0.0.1 h.1 (given_acts (by_key (IsKnown h.0.0.0.0.0.keys.callees c.clients)) any_told n (c.clients n) c.clock place m (h.0.0.0.0.0.keys.replies n) (h.0.0.0.0.1.seats n)) (given_follow n (c.clients n) c.clock place m (h.0.1 n).0 (each_at (λ m. IsFirm m.head m.carried) c.sent place m at h.0.0.1)) (λ y none nb. same_last (row_last n (c.clients n) c.clock place m none) y.last);
  sought = λ c past n place m k h at to z e. client_lones s c past n _ h.0.0.0.0.0 h.0.0.0.0.1 h.1 (sought_acts_in s c past n place m k h.0.0.0.0.1 at z e) (sought_follow s n (c.clients n) c.clock place k m.head m.carried (placed_in s c past n k h.0.0.0.0.1 z) (told_in s c past n place m k h.0.0.0.0.1 at e) (h.0.1 n).0) (λ y none nb. same_last (sought_last s n (c.clients n) c.clock place k m.head m.carried (placed_in s c past n k h.0.0.0.0.1 z) (told_in s c past n place m k h.0.0.0.0.1 at e)) y.last);
  missed = λ c past n k h r z. client_lones s c past n _ h.0.0.0.0.0 h.0.0.0.0.1 h.1 (missed_acts n (c.clients n) k r z) (missed_follow n (c.clients n) k r (h.0.1 n).0) (λ y none nb. same_last (missed_last n (c.clients n) k) y.last);
  waited = λ c past n act h r. client_lones s c past n _ h.0.0.0.0.0 h.0.0.0.0.1 h.1 (waits_acts n (c.clients n) act r) (waits_follow n (c.clients n) act (h.0.1 n).0) (λ y none nb. none_runs (c.clients n).running act none r);
  fallen = λ c past n h. client_lones s c past n _ h.0.0.0.0.0 h.0.0.0.0.1 h.1 (falls_acts n c.handed (c.clients n) (handed_same s c past (h.0.0.0.0.1) n)) (falls_follow n c.handed (c.clients n)) (λ y none nb. none_runs (reborn c.handed (c.clients n)).running y.act refl y.runs);
  risen = λ c past n h. client_lones s c past n _ h.0.0.0.0.0 h.0.0.0.0.1 h.1 (rises_acts n (c.clients n)) (rises_follow n (c.clients n) (h.0.1 n).0) (λ y none nb. same_last refl y.last);
  loc = λ c past l ls ms h st. aside_lones c.clients (loc_becomes c l ls ms).entry past (loc_aside s (loc_becomes c l ls ms).entry past (loc_idle ls st.lines) (loc_own c l ls ms st)) h.1;
  served = λ c past i place m armed h up at to. aside_lones c.clients (server_moves c i armed (server_row (Server i) (c.hosts i).state c.clock place (Whole m))).entry past (server_aside s i (server_moves c i armed (server_row (Server i) (c.hosts i).state c.clock place (Whole m))).entry past (idle_works any_message i (c.hosts i).state _ _ (serves_works any_message (Server i) (c.hosts i).state c.clock place m (λ rest. tt))) (served_posts (Server i) (c.hosts i).state c.clock place m (h.0.0.0.1.0 i).seats (h.0.0.0.1.1 i)).0) h.1;
  cut = λ c past i place m t h up at to. aside_lones c.clients (server_falls c i (lines.Given place ∷ blow_line i t.stops ∷ []) (in_step m c.clock t)).entry past (server_aside s i (server_falls c i (lines.Given place ∷ blow_line i t.stops ∷ []) (in_step m c.clock t)).entry past (blow_idle i t.stops) tt) h.1;
  stopped = λ c past i h up. aside_lones c.clients (server_falls c i (lines.Crash (Server i) ∷ []) at_rest).entry past (void_aside (server_falls c i (lines.Crash (Server i) ∷ []) at_rest).entry refl (λ j. refl)) h.1;
  stop_set = λ c past i calls pick armed h up. aside_lones c.clients (server_set c i (lines.Stop (Server i) calls pick) armed).entry past (void_aside (server_set c i (lines.Stop (Server i) calls pick) armed).entry refl (λ j. refl)) h.1;
  fail_set = λ c past i call armed h up. aside_lones c.clients (server_set c i (lines.Fail (Server i) call) armed).entry past (void_aside (server_set c i (lines.Fail (Server i) call) armed).entry refl (λ j. refl)) h.1;
  timed = λ c past i n b armed h up at. aside_lones c.clients (server_moves c i armed (back_timeout_row (Server i) (c.hosts i).state c.clock n b)).entry past (server_aside s i (server_moves c i armed (back_timeout_row (Server i) (c.hosts i).state c.clock n b)).entry past (idle_works any_message i (c.hosts i).state _ _ (times_works any_message (Server i) (c.hosts i).state c.clock n b)) (times_posts (Server i) (c.hosts i).state c.clock n b (h.0.0.0.1.1 i)).0) h.1;
  woken = λ c past i armed h up. aside_lones c.clients (server_moves c i armed (wake_row (Server i) (c.hosts i).state c.clock)).entry past (server_aside s i (server_moves c i armed (wake_row (Server i) (c.hosts i).state c.clock)).entry past (idle_works any_message i (c.hosts i).state _ _ (wakes_works any_message (Server i) (c.hosts i).state c.clock)) (wakes_posts (Server i) (c.hosts i).state c.clock (h.0.0.0.1.1 i)).0) h.1;
  started = λ c past i after fall h down. aside_lones c.clients (server_rises c i (begun_by_disk (Server i) (c.hosts i).state after fall)).entry past
      (server_aside s i (server_rises c i (begun_by_disk (Server i) (c.hosts i).state after fall)).entry past
      (idle_works any_message i (c.hosts i).state _ _ (starts_works any_message (Server i) (c.hosts i).state c.clock c.count (begun_by_disk (Server i) (c.hosts i).state after fall) (disk_works any_message (Server i) (c.hosts i).state after fall (risen_lines (Server i) c.clock c.count (begun_by_disk (Server i) (c.hosts i).state after fall)) (any_cut fall) (risen_from (Server i) c.clock c.count (begun_by_disk (Server i) (c.hosts i).state after fall)))))
      (rises_posts (Server i) c.clock c.count (begun_by_disk (Server i) (c.hosts i).state after fall)).0) h.1;
  early = λ c past i fall h down. aside_lones c.clients (server_falls c i (lines.Fault (Server i) ∷ []) fall).entry past (void_aside (server_falls c i (lines.Fault (Server i) ∷ []) fall).entry refl (λ j. refl)) h.1;
  midway = λ c past i after fall h down. aside_lones c.clients (server_stays c i (begun_by_disk (Server i) (c.hosts i).state after fall) (lines.Fault (Server i)) in_boot).entry past (server_aside s i (server_stays c i (begun_by_disk (Server i) (c.hosts i).state after fall) (lines.Fault (Server i)) in_boot).entry past (idle_works any_message i (c.hosts i).state _ _ (disk_works any_message (Server i) (c.hosts i).state after fall (lines.Fault (Server i) ∷ []) (any_cut fall) (one_from (Server i) true refl))) tt) h.1;
  full = λ c past i after fall h down. aside_lones c.clients (server_stays c i (begun_by_disk (Server i) (c.hosts i).state after fall) (lines.Full (Server i)) at_rest).entry past (server_aside s i (server_stays c i (begun_by_disk (Server i) (c.hosts i).state after fall) (lines.Full (Server i)) at_rest).entry past (idle_works any_message i (c.hosts i).state _ _ (disk_works any_message (Server i) (c.hosts i).state after fall (lines.Full (Server i) ∷ []) (any_cut fall) (one_from (Server i) true refl))) tt) h.1;
}

-- ---- what the history alone tells: a key that changed something is that of a changing call, and acts run at clients alone

abbrev pub AreChanging : List Entry → Type 0
AreChanging past = (k : Key) → HasChange k (lines_of past) → IsChangingUnder k (sent_of past)

ideal_changing : (s : Script) (server : Node) (k : Key) (count : ℕ) (past : List Entry) (own next : List Line) → IdealChange s server k count past own next → IsChangingUnder k (sent_of past)
ideal_changing s server k count past own next i = record { user = i.user; call = i.call; one = i.one; changes = changes_is i.id (the_user i.user) i.call i.before i.edits i.shown i.of_volume i.result }

changed_by : (s : Script) (who : Actor) (l : Line) (past : List Entry) (own ls o : List Line) (k : Key) → IsIdeal s who l past own ls → HasChange k (l ∷ o) → IsChangingUnder k (sent_of past) ⊎ HasChange k o
changed_by s who (lines.Change server m count) past own ls o k h (inl e) = inl (subst (λ (q : Key). IsChangingUnder q (sent_of past)) e (ideal_changing s server m count past own ls h.1))
changed_by s who (lines.Change server m count) past own ls o k h (inr y) = inr y
changed_by s who l past own ls o k h y = inr y

changed_in : (s : Script) (who : Actor) (past : List Entry) (own ls o : List Line) (k : Key) → EachLine (IsIdeal s) who past own ls → HasChange k (onto o ls) → IsChangingUnder k (sent_of past) ⊎ HasChange k o
changed_in s who past own [] o k h x = inr x
changed_in s who past own (l ∷ ls) o k h x = elim (changed_in s who past (l ∷ own) ls (l ∷ o) k h.1 x) [
  | inl y ↦ inl y
  | inr y ↦ changed_by s who l past own ls o k h.0 y
]

changing_over : (s : Script) (past : List Entry) (e : Entry) → EachLine (IsIdeal s) e.actor past [] e.lines → AreChanging past → AreChanging (e ∷ past)
changing_over s past e h w k x = elim (changed_in s e.actor past [] e.lines (lines_of past) k h x) [
  | inl y ↦ changing_more k (sent_of past) e.sent y
  | inr y ↦ changing_more k (sent_of past) e.sent (w k y)
]

-- at every moment
abbrev pub AreActs : Script → List Entry → Type 0
AreActs s [] = ⊤
AreActs s (e ∷ past) = ((n : Node) → is_client n ≡ false → running s n (lines_of (e ∷ past)) ≡ None) × AreActs s past

is_begun : (who : Actor) (m n : Node) → IsOfClient who m → is_client n ≡ false → same_node m n ≡ false
is_begun who (Client j) (Client i) h e = absurd cc
is_begun who (Client j) (Server i) h e = refl
is_begun who (Client j) (Admin i) h e = refl
is_begun who (Client j) Loc h e = refl
is_begun who (Server j) n h e = absurd h
is_begun who (Admin j) n h e = absurd h
is_begun who Loc n h e = absurd h

acts_in : (s : Script) (who : Actor) (past : List Entry) (own ls o : List Line) (n : Node) → EachLine (IsInPlace s) who past own ls → is_client n ≡ false → running s n o ≡ None → running s n (onto o ls) ≡ None
acts_in s who past own [] o n h e r = r
acts_in s who past own (lines.Begin m act ∷ ls) o n h e r = acts_in s who past (lines.Begin m act ∷ own) ls (lines.Begin m act ∷ o) n h.1 e (idle_by (same_node m n) (Some (began (locations s) act)) (running s n o) (is_begun who m n h.0.0 e) r)
acts_in s who past own (lines.Read m f index source body ∷ ls) o n h e r = acts_in s who past (lines.Read m f index source body ∷ own) ls (lines.Read m f index source body ∷ o) n h.1 e (ap (read_on (same_node m n) f body) r ∙ read_idle (same_node m n) f body)
acts_in s who past own (lines.Answer m code ∷ ls) o n h e r = acts_in s who past (lines.Answer m code ∷ own) ls (lines.Answer m code ∷ o) n h.1 e (ended_by (same_node m n) (running s n o) r)
acts_in s who past own (lines.Crash m ∷ ls) o n h e r = acts_in s who past (lines.Crash m ∷ own) ls (lines.Crash m ∷ o) n h.1 e (ended_by (same_node m n) (running s n o) r)
acts_in s who past own (l ∷ ls) o n h e r = acts_in s who past (l ∷ own) ls (l ∷ o) n h.1 e r

acts_first : (s : Script) (past : List Entry) → AreActs s past → (n : Node) → is_client n ≡ false → running s n (lines_of past) ≡ None
acts_first s [] h n e = refl
acts_first s (x ∷ past) h n e = h.0 n e

acts_over : (s : Script) (past : List Entry) (e : Entry) → EachLine (IsInPlace s) e.actor past [] e.lines → AreActs s past → AreActs s (e ∷ past)
acts_over s past e h w = ((λ n z. acts_in s e.actor past [] e.lines (lines_of past) n h z (acts_first s past w n z)), w)

-- the node of a call that was asked by an act is a client
called_client : (s : Script) (k : Key) (user : List ℕ) (call : FsCall) (act : Going) (past : List Entry) (t : Bool) → is_client k.node ≡ t → Called s k user call act past → AreActs s past → t ≡ true
called_client s k user call act past true e x h = refl
called_client s k user call act [] false e x h = absurd x
called_client s k user call act (y ∷ past) false e (inl x) h = absurd (none_runs (running s k.node (lines_of (y ∷ past))) act (h.0 k.node e) x.1.1)
called_client s k user call act (y ∷ past) false e (inr x) h = called_client s k user call act past false e x h.1

client_named : (n : Node) → is_client n ≡ true → (j : ℕ) × (n ≡ Client j)
client_named (Client j) e = (j, refl)
client_named (Server i) e = absurd cc
client_named (Admin i) e = absurd cc
client_named Loc e = absurd cc

-- ---- a change is the first of its act

abbrev pub Lones : Script → Cell → List Entry → Type 0
Lones s c past = ((GivenLones s c past × HeldCuts s c past) × Placed s c past) × (AreChanging past × AreActs s past)

new_one : (k : Key) (o : Option Key) (A : Type 0) → IsNot k o A → A
new_one k None A h = h
new_one k (Some l) A h = h.1

behind_by : (server : Node) (l : Key) (own o : List Line) → HasChangeBy server l o → HasChangeBy server l (own ++ o)
behind_by server l [] o h = h
behind_by server l (lines.Change q m count ∷ own) o h = inr (behind_by server l own o h)
behind_by server l (x ∷ own) o h = behind_by server l own o h

pub new_behind : (k : Key) (own o : List Line) → IsNew k (own ++ o) → IsNew k o
new_behind k [] o h = h
new_behind k (l ∷ own) o h = new_behind k own o (new_one k (change_in l) (IsNew k (own ++ o)) h)

pub under_sent : (t : Bool) (c o : Option (List ℕ × FsCall)) (x : List ℕ × FsCall) (b : Bool) → cond t c o ≡ Some x → (o ≡ Some x → b ≡ true) → cond t true b ≡ true
under_sent true c o x b e w = refl
under_sent false c o x b e w = w e

pub has_under : (k : Key) (sent : List Message) (x : List ℕ × FsCall) → call_under k sent ≡ Some x → has_sent k sent ≡ true
has_under k [] x e = absurd cc
has_under k (m ∷ sent) x e = under_sent (is_called k m.head m.carried) (call_in m.carried) (call_under k sent) x (has_sent k sent) e (has_under k sent x)

first_of_act : (s : Script) (c : Cell) (past : List Entry) (server : Node) (k : Key) (count : ℕ) (own next : List Line) → Lones s c past → IdealChange s server k count past own next → IsFirstOfAct s server k past
first_of_act s c past server k count own next h i =
    let told : sent_of past ≡ c.sent = h.0.0.0.0.0.0.0.0.hears.told in
    let named : (j : ℕ) × (k.node ≡ Client j) = client_named k.node (called_client s k i.user i.call i.act past (is_client k.node) refl i.called h.1.1) in
    let j : ℕ = named.0 in
    let node : k.node ≡ Client j = named.1 in
    let is : IsChangingUnder k (sent_of past) = ideal_changing s server k count past own next i in
    record {
      once = λ a runs l by of_act.
          let runs' : act_of (c.clients j) ≡ Some a = sym (h.0.0.0.0.0.0.0.1.acts j) ∙ (ap (λ (n : Node). running s n (lines_of past)) (sym node) ∙ runs) in
          let of_act' : is_of_act (Client j) l past ≡ true = subst (λ (n : Node). is_of_act n l past ≡ true) node of_act in
          let changing : IsChangingUnder l (sent_of past) = h.1.0 l (any_change server l (lines_of past) by) in
          let same : l.node ≡ k.node = same_node-true l.node (Client j) (both (same_node l.node (Client j)) (is_sent_since (Client j) l past) of_act').0 ∙ sym node in
          let has : has_sent k (sent_of past) ≡ true = has_under k (sent_of past) (i.user, i.call) i.one in
          let later : IsLater k l = i.latest l (behind_by server l own (lines_of past) by) same in
          elim (which Going (c.clients j).running) [
            | inr r ↦
                (let last : l ≡ last_key j (c.clients j) = h.0.0.0.1.0 j r.0 r.1 l of_act' changing in
                later_not k l (c.clients j).epoch (c.clients j).last (ap (λ (q : Key). q.epoch) last) (ap (λ (q : Key). q.number) last)
                (pair_behind h.0.0.0.0.0.0.0.0.keys.callees c.clients j k c.sent node (subst (λ (ms : List Message). has_sent k ms ≡ true) told has) h.0.0.0.0.0.0.0.0.keys.calls) later)
            | inl none ↦ elim (which Seek (c.clients j).seeking) [
              | inr z ↦ later_not k l l.epoch l.number refl refl (h.0.0.0.1.1.1 j z.0 z.1 l of_act' changing k node has) later
              | inl rest ↦ none_runs (act_of (c.clients j)) a (ap (λ (o : Option Going). act_by o (c.clients j).seeking) none ∙ ap act_sought rest) runs'
            ]
          ];
      alone = λ newer older split of_k l has of_l.
          let same : k ≡ l = lone_at (sent_of past) newer older (subst (AreLone (sent_of past)) split h.0.0.0.1.1.0) j k l (subst (λ (n : Node). is_of_act n k older ≡ true) node of_k) (subst (λ (n : Node). is_of_act n l older ≡ true) node of_l) is (h.1.0 l has) in
          no_change k (lines_of past) (new_behind k own (lines_of past) i.fresh) (subst (λ (x : Key). HasChange x (lines_of past)) (sym same) has);
    }

alone_lines : (s : Script) (c : Cell) (past : List Entry) (who : Actor) (own ls : List Line) → Lones s c past → EachLine (IsIdeal s) who past own ls → EachLine (IsAlone s) who past own ls
alone_lines s c past who own [] h w = tt
alone_lines s c past who own (lines.Change server k count ∷ ls) h w = (first_of_act s c past server k count own ls h w.0.1, alone_lines s c past who (lines.Change server k count ∷ own) ls h w.1)
alone_lines s c past who own (l ∷ ls) h w = (tt, alone_lines s c past who (l ∷ own) ls h w.1)

pub lones_kept : (s : Script) → IsKept (Lones s)
lones_kept s c past x so h = (
  (((given_kept s c past x so h.0.0.0.0, each_moved (GivenLones s) (Behind LonesIn) (lone_moves s) c past x so h.0.0.0), cuts_kept s c past x so h.0.0.1), placed_kept s c past x so h.0.1),
  (
    changing_over s past (moved c x).entry (each_moved (HeldCuts s) (IdealStep s) (ideal_moves s) c past x so h.0.0.1) h.1.0,
    acts_over s past (moved c x).entry (each_moved (Placed s) (PlacedStep s) (placed_moves s) c past x so h.0.1) h.1.1,
  ),
)

since_none : (t : Bool) → cond t false false ≡ true → ⊥
since_none true h = absurd cc
since_none false h = absurd cc

pub lones_first : (s : Script) → Lones s (start s) (set_up_entry s ∷ [])
lones_first s = (
  (((given_first s, (λ j act r. absurd cc, ((λ j k l x y c d. absurd (since_none (has_begun (Client j) (set_up_entry s).lines) (both (same_node k.node (Client j)) (is_sent_since (Client j) k (set_up_entry s ∷ [])) x).1), tt), λ j k z. absurd cc))), cuts_first s), placed_first s),
  (
    λ k x. absurd (first_passed (λ (ls : List Line). HasChange k ls → ⊥) (λ v o h. h) s.volumes [] (λ z. z) x),
    (λ n e. first_passed (λ (ls : List Line). running s n ls ≡ None) (λ v o h. h) s.volumes [] refl, tt),
  ),
)

pub run_alone : ChangesAreAlone
run_alone s h end r =
    run_each (Lones s) (λ past e. EachLine (IsAlone s) e.actor past [] e.lines) (lones_kept s) (λ c past x so k. alone_lines s c past (moved c x).entry.actor [] (moved c x).entry.lines k (each_moved (HeldCuts s) (IdealStep s) (ideal_moves s) c past x so k.0.0.1)) r.inputs s (set_up_entry s ∷ []) h end (lones_first s) r.leads

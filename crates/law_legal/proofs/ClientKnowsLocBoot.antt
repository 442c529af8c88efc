-- What a client asks the location database goes to the boot that it knows of it, however many servers a cell has.
use Rattle.spec_history.specs.declared.lines.Line.{Line}
use Rattle.spec_history.specs.declared.lines.Line.TheVariants as lines
use Rattle.spec_history.specs.declared.scripts.Script.{Script}
use Rattle.law_legal.proofs.ActLines.{Acts, IsOwnSeek, IsTheCall, IsTheSeek, OfSeek, last_key, seeks_act, who_at}
use Rattle.law_legal.proofs.ActSteps.{begins_acts, falls_acts, given_acts, missed_acts, quiet_boots, rises_acts, sought_quiet, waits_acts}
use Rattle.law_legal.proofs.ClientCallsAtHome.{Addressed, IsServer, callee_server, homes_first, homes_kept}
use Rattle.law_legal.proofs.OwedPasses.{all_lines}
use Rattle.law_legal.proofs.BaseLaws.{ByClient, Each, IfCall, OfCall, at_put, by_client, node_apart, same_node-refl, some_of, yes_no}
use Rattle.law_legal.proofs.ClientCallsInBoot.{IsOld, begun_boots, boot_here, boot_other, crashed_alive, crashed_idle, crashed_other, own_seats, told_hears, waited_boots}
use Rattle.law_legal.proofs.ClientCalls.{missed_tame}
use Rattle.law_legal.proofs.ServerChooses.{disk_works, one_from, risen_from, risen_lines, serves_works, starts_works, times_works, wakes_works}
use Rattle.law_legal.proofs.RunGivenWasSent.{DeliveredStep, begun_ungiven, delivered_moves, missed_ungiven, sought_given, waited_ungiven}
use Rattle.law_legal.proofs.ServerRefusesForGood.{IsSentBy}
use Rattle.law_legal.proofs.ActFollows.{none_runs}
use Rattle.law_legal.proofs.ServerHearsInRuns.{client_given}
use Rattle.law_legal.proofs.CallKeysOnce.{IsKnown, any_told, by_key}
use Rattle.law_legal.proofs.RunsKnown.{Known}
use Rattle.law_legal.proofs.ClientLives.{Alive, begun_alive, missed_alive, told_alive, versions_alive, waited_alive}
use Rattle.law_legal.proofs.RunWalk.{EachMove, IsKept, IsUnsought, each_moved}
use Rattle.law_legal.proofs.ActCalls.{AskedIn, handed_same, is_idle, of_client}
use Rattle.law_legal.proofs.ActCallsInRuns.{KnownAsked, any_cut, any_message, blow_idle, idle_works, is_from_loc, loc_idle, placed_in, quietly, same_key_at, sought_acts_in, sought_answer, sought_key, sought_opcode, the_calls, told_in}
use Rattle.law_legal.proofs.RunMessages.{OwnStep, Posted, own_moves}
use Rattle.law_legal.proofs.RunSetUp.{all_versions, given_first}
use Rattle.law_legal.proofs.RunSteps.{blow_line, loc_becomes, server_falls, server_moves, server_rises, server_set, server_stays}
use Rattle.law_legal.proofs.ClientTimesOut.{given_has}
use Rattle.law_legal.proofs.ClientTakesReply.{apart, asked_number, its_answer, one_client}
use Rattle.law_legal.specs.Ideal.{first_lines, set_up_entry}
use Rattle.law_legal.specs.Legal.{IsNotedByLoc, KnowsLocBoot, has_crashed}
use Rattle.law_legal.specs.Lives.{IsDelivered}
use Rattle.law_legal.specs.Parts.{EachSent, IsOwn}
use Rattle.law_legal.specs.Past.{HasCode, IsFileCall, answered_key, called_key, given_message, has_given, last_call, last_call_over, later_call, sent_of}
use Rattle.spec_model.specs.CellRows as cell_rows
use Rattle.afs_num.specs.Nodes.{same_node}
use Rattle.afs_num.specs.declared.histories.Actor.{Actor}
use Rattle.afs_num.specs.declared.histories.Actor.TheVariants as actors
use Rattle.afs_num.specs.declared.location_calls.LocCall.{LocCall}
use Rattle.afs_num.specs.declared.messages.Call.TheVariants as ask
use Rattle.afs_num.specs.declared.messages.Carried.{Carried}
use Rattle.afs_num.specs.declared.messages.Carried.TheVariants as carried
use Rattle.afs_num.specs.declared.messages.Message.{Message}
use Rattle.afs_num.specs.declared.messages.Received.TheVariants.{Whole}
use Rattle.afs_num.specs.declared.types.Node.{Node}
use Rattle.afs_num.specs.declared.types.Node.TheVariants.{Client, Loc, Server}
use Rattle.spec_rows.specs.Callbacks.{put}
use Rattle.spec_rows.specs.ClientRow.{act_by, begin_row, boot_of, call_message, client_row, is_answer, is_sought, question, reborn, seek_message, seek_timeout_row, sought_by, timeout_row}
use Rattle.spec_rows.specs.Going.{ClientState, Going, Seek}
use Rattle.spec_rows.specs.Runs.{Cell, Entry, Moved, at_rest, begun_by_disk, in_boot, in_step, message_at, start, ticked, voided}
use Rattle.spec_rows.specs.ServerSteps.{back_timeout_row, server_row, wake_row}
use Rattle.spec_rows.specs.Steps.{Step}
use Rattle.std.proofs.Common.{suc, ◌≡◌, ◌⊎◌, ◌∙◌, ℕ, inl, inr, Bool, true, false, cond, List, [], ◌∷◌, ◌++◌, Option, Some, None, refl, sym, ap, subst}
use Rattle.std.specs.Prelude.{◌&&◌}

-- ---- the last call of a client

call_over : (n : Node) (o : Option Message) (a b : List Message) → last_call_over n o (a ++ b) ≡ last_call_over n (last_call_over n o a) b
call_over n o [] b = refl
call_over n o (m ∷ a) b = call_over n (later_call n m m.carried o) a b

-- what others send leaves it
later_not : (n : Node) (m : Message) (x : Carried) (o : Option Message) → (m.head.from ≡ n → ⊥) → later_call n m x o ≡ o
later_not n m (carried.Call user call) o other = ap (λ (t : Bool). cond t (Some m) o) (node_apart m.head.from n other)
later_not n m (carried.Refusal code) o other = refl
later_not n m (carried.Reply reply) o other = refl
later_not n m carried.Notice o other = refl

abbrev IsOther : Node → Message → Type 0
IsOther n m = m.head.from ≡ n → ⊥

others_over : (n : Node) (ms : List Message) (o : Option Message) → Each (IsOther n) ms → last_call_over n o ms ≡ o
others_over n [] o h = refl
others_over n (m ∷ ms) o h = others_over n ms (later_call n m m.carried o) h.1 ∙ later_not n m m.carried o h.0

-- its act waits for a server, or for the location database: then it is of this one
abbrev pub HasFiled : Option Message → Type 0
HasFiled o = (m : Message) × ((o ≡ Some m) × IsFileCall m.carried)

pub record IsAskedBy (j : ℕ) (x : ClientState) (k : Seek) (m : Message) : Type 0 where
  pub user : List ℕ
  pub call : LocCall
  pub carries : m.carried ≡ carried.Call user (ask.Location call)
  pub key : called_key m.head ≡ last_key j x
  pub opcode : m.head.opcode ≡ asked_number k

abbrev pub HasAsked : ℕ → ClientState → Seek → Option Message → Type 0
HasAsked j x k o = (m : Message) × ((o ≡ Some m) × IsAskedBy j x k m)

-- who waits for one doesn't wait for the other
abbrev Waits : ClientState → Type 0
Waits y = (k : Seek) → y.seeking ≡ Some k → y.running ≡ None

mine : (n : ℕ) (m : Message) (o : Option Message) → m.head.from ≡ Client n → cond (same_node m.head.from (Client n)) (Some m) o ≡ Some m
mine n m o from = ap (λ (t : Bool). cond t (Some m) o) (ap (λ (q : Node). same_node q (Client n)) from ∙ same_node-refl (Client n))

-- what the client sends itself
one_filed : (n : ℕ) (y : ClientState) (act : Going) (m : Message) (x : Carried) (o : Option Message) → m.carried ≡ x → m.head.from ≡ Client n → y.running ≡ Some act → Waits y → OfCall (ByClient (IsTheCall n y)) m.head x → OfSeek (IsTheSeek n y) m.head x → HasFiled o → HasFiled (later_call (Client n) m x o)
one_filed n y act m (carried.Call user (ask.File call)) o is from run w c q h = (m, (mine n m o from, subst IsFileCall (sym is) tt))
one_filed n y act m (carried.Call user (ask.Volume call)) o is from run w c q h = absurd c
one_filed n y act m (carried.Call user (ask.Location call)) o is from run w c q h = absurd (none_runs y.running act (w q.its q.seeks) run)
one_filed n y act m (carried.Refusal code) o is from run w c q h = h
one_filed n y act m (carried.Reply reply) o is from run w c q h = h
one_filed n y act m carried.Notice o is from run w c q h = h

one_asked : (n : ℕ) (y : ClientState) (k : Seek) (m : Message) (x : Carried) (o : Option Message) → m.carried ≡ x → m.head.from ≡ Client n → y.seeking ≡ Some k → Waits y → OfCall (ByClient (IsTheCall n y)) m.head x → OfSeek (IsTheSeek n y) m.head x → HasAsked n y k o → HasAsked n y k (later_call (Client n) m x o)
one_asked n y k m (carried.Call user (ask.File call)) o is from z w c q h =
    let t : IsTheCall n y m.head user call = by_client n m.head.from (IsTheCall n y m.head user call) from c in
    absurd (none_runs y.running t.act (w k z) t.runs)
one_asked n y k m (carried.Call user (ask.Volume call)) o is from z w c q h = absurd c
one_asked n y k m (carried.Call user (ask.Location call)) o is from z w c q h =
    let same : q.its ≡ k = some_of q.its k (sym q.seeks ∙ z) in
    (m, (mine n m o from, record { user = user; call = call; carries = is; key = q.key; opcode = q.opcode ∙ (ap (λ (l : LocCall). cell_rows.call_number (ask.Location l)) q.asks ∙ ap asked_number same) }))
one_asked n y k m (carried.Refusal code) o is from z w c q h = h
one_asked n y k m (carried.Reply reply) o is from z w c q h = h
one_asked n y k m carried.Notice o is from z w c q h = h

filed_over : (n : ℕ) (y : ClientState) (act : Going) (ms : List Message) (o : Option Message) → y.running ≡ Some act → Waits y → Each (IsSentBy (Client n)) ms → Each (IfCall (IsTheCall n y)) ms → Each (IsOwnSeek n y) ms → HasFiled o → HasFiled (last_call_over (Client n) o ms)
filed_over n y act [] o run w f c q h = h
filed_over n y act (m ∷ ms) o run w f c q h = filed_over n y act ms (later_call (Client n) m m.carried o) run w f.1 c.1 q.1 (one_filed n y act m m.carried o refl f.0.from run w c.0 q.0 h)

asked_over : (n : ℕ) (y : ClientState) (k : Seek) (ms : List Message) (o : Option Message) → y.seeking ≡ Some k → Waits y → Each (IsSentBy (Client n)) ms → Each (IfCall (IsTheCall n y)) ms → Each (IsOwnSeek n y) ms → HasAsked n y k o → HasAsked n y k (last_call_over (Client n) o ms)
asked_over n y k [] o z w f c q h = h
asked_over n y k (m ∷ ms) o z w f c q h = asked_over n y k ms (later_call (Client n) m m.carried o) z w f.1 c.1 q.1 (one_asked n y k m m.carried o refl f.0.from z w c.0 q.0 h)

-- ---- what holds after every entry

abbrev pub last_of : ℕ → List Entry → Option Message
last_of j past = last_call (Client j) (sent_of past)

pub record Acquainted (s : Script) (j : ℕ) (x : ClientState) (past : List Entry) : Type 0 where
  pub filed : (act : Going) → x.running ≡ Some act → HasFiled (last_of j past)
  pub asked : (k : Seek) → x.seeking ≡ Some k → HasAsked j x k (last_of j past)
  pub knows : KnowsLocBoot s (Client j) (boot_of Loc x.boots) past

abbrev pub AcquaintedIn : Script → Cell → List Entry → Type 0
AcquaintedIn s c past = (j : ℕ) → Acquainted s j (c.clients j) past

abbrev pub AcquaintedFacts : Script → Cell → List Entry → Type 0
AcquaintedFacts s c past = Addressed s c past × AcquaintedIn s c past

known_asked : (s : Script) (c : Cell) (past : List Entry) → AcquaintedFacts s c past → KnownAsked s c past
known_asked s c past h = h.0.0.0.0.0

last_behind : (j : ℕ) (e : Entry) (past : List Entry) → last_of j (e ∷ past) ≡ last_call_over (Client j) (last_of j past) e.sent
last_behind j e past = call_over (Client j) None (sent_of past) e.sent

-- an entry without such a notice, in which it doesn't crash
abbrev IsUnnoted : Script → ℕ → Entry → List Entry → Type 0
IsUnnoted s j e past = (b : ℕ) → IsNotedByLoc s (Client j) b past e.lines → ⊥

unnoted_knows : (s : Script) (j : ℕ) (e : Entry) (past : List Entry) (a b : ℕ) → IsUnnoted s j e past → has_crashed (Client j) e.lines ≡ false → b ≡ a → KnowsLocBoot s (Client j) a past → KnowsLocBoot s (Client j) b (e ∷ past)
unnoted_knows s j e past a b none alive same h = inr (none, inr (alive, subst (λ (i : ℕ). KnowsLocBoot s (Client j) i past) (sym same) h))

ungiven_unnoted : (s : Script) (j : ℕ) (e : Entry) (past : List Entry) → has_given e.lines ≡ false → IsUnnoted s j e past
ungiven_unnoted s j e past none b i = yes_no (has_given e.lines) (given_has e.lines (sent_of past) i.message i.given) none

-- ---- a step of the client

waits_after : (s : Script) (c : Cell) (past : List Entry) (n : ℕ) (st : Step ClientState) → AskedIn s c past → Acts n (who_at (c.clients n)) (c.clients n).gifts st → Waits st.state
waits_after s c past n st A a k z = elim (a.seeks k z) [ inl o ↦ o.running ∙ (A.seeks n k o.before).idle | inr w ↦ w.running ]

filed_after : (s : Script) (c : Cell) (past : List Entry) (n : ℕ) (st : Step ClientState) (o : Option Message) → AskedIn s c past → Acts n (who_at (c.clients n)) (c.clients n).gifts st → ((act : Going) → (c.clients n).running ≡ Some act → HasFiled o) → (act : Going) → st.state.running ≡ Some act → HasFiled (last_call_over (Client n) o st.sent)
filed_after s c past n st o A a h act run =
    let calls : Each (IfCall (IsTheCall n st.state)) st.sent = the_calls n (c.clients n) st a.goes in
    elim a.goes [
      | inl r ↦ elim r.act [
        | inl none ↦ absurd (none_runs st.state.running act none run)
        | inr same ↦ filed_over n st.state act st.sent o run (waits_after s c past n st A a) a.from calls a.keys (h act (sym same.0 ∙ run))
      ]
      | inr y ↦ elim y [
        | inl z ↦ subst (λ (ms : List Message). HasFiled (last_call_over (Client n) o ms)) (sym z.sent) (call_message (Client n) st.state z.act, (mine n (call_message (Client n) st.state z.act) o refl, tt))
        | inr z ↦ absurd (none_runs st.state.running act z.act run)
      ]
    ]

asked_same : (n : ℕ) (x y : ClientState) (k : Seek) (o : Option Message) → last_key n y ≡ last_key n x → HasAsked n x k o → HasAsked n y k o
asked_same n x y k o key h = (h.0, (h.1.0, record { user = h.1.1.user; call = h.1.1.call; carries = h.1.1.carries; key = h.1.1.key ∙ sym key; opcode = h.1.1.opcode }))

asked_after : (s : Script) (c : Cell) (past : List Entry) (n : ℕ) (st : Step ClientState) (o : Option Message) → AskedIn s c past → Acts n (who_at (c.clients n)) (c.clients n).gifts st → ((k : Seek) → (c.clients n).seeking ≡ Some k → HasAsked n (c.clients n) k o) → (k : Seek) → st.state.seeking ≡ Some k → HasAsked n st.state k (last_call_over (Client n) o st.sent)
asked_after s c past n st o A a h k z = elim (a.seeks k z) [
  | inl on ↦ asked_over n st.state k st.sent o z (waits_after s c past n st A a) a.from (the_calls n (c.clients n) st a.goes) a.keys (asked_same n (c.clients n) st.state k o (same_key_at n (c.clients n) st.state on.epoch on.last) (h k on.before))
  | inr w ↦
      let m : Message = seek_message (Client n) st.state k.operand in
      subst (λ (ms : List Message). HasAsked n st.state k (last_call_over (Client n) o ms)) (sym w.sent)
      (m, (mine n m o refl, record { user = st.state.user; call = question k.operand; carries = refl; key = refl; opcode = refl }))
]

abbrev IsLoc : Node → Type 0
IsLoc n = n ≡ Loc

abbrev KnowsNow : Script → ℕ → Step ClientState → List Entry → Type 0
KnowsNow s n st past = KnowsLocBoot s (Client n) (boot_of Loc st.state.boots) (of_client n st ∷ past)

step_acquainted : (s : Script) (c : Cell) (past : List Entry) (n : ℕ) (st : Step ClientState) → AskedIn s c past → Acquainted s n (c.clients n) past → Acts n (who_at (c.clients n)) (c.clients n).gifts st → KnowsNow s n st past → Acquainted s n st.state (of_client n st ∷ past)
step_acquainted s c past n st A h a knows = record {
  filed = λ act run. subst HasFiled (sym (last_behind n (of_client n st) past)) (filed_after s c past n st (last_of n past) A a h.filed act run);
  asked = λ k z. subst (HasAsked n st.state k) (sym (last_behind n (of_client n st) past)) (asked_after s c past n st (last_of n past) A a h.asked k z);
  knows = knows;
}

-- ---- an entry of another node

by_others : (j : ℕ) (who : Actor) (past : List Entry) (e : Entry) (ms : List Message) → e.actor ≡ who → (who ≡ actors.Node (Client j) → ⊥) → EachSent IsOwn (e ∷ past) ms → Each (IsOther (Client j)) ms
by_others j who past e [] is other h = tt
by_others j who past e (m ∷ ms) is other h = (λ from. other (sym is ∙ (h.0.0 ∙ ap actors.Node from)), by_others j who past e ms is other h.1)

other_acquainted : (s : Script) (j : ℕ) (x : ClientState) (e : Entry) (past : List Entry) → IsDelivered e.actor past e.lines → EachSent IsOwn (e ∷ past) e.sent → (e.actor ≡ actors.Node (Client j) → ⊥) → has_crashed (Client j) e.lines ≡ false → Acquainted s j x past → Acquainted s j x (e ∷ past)
other_acquainted s j x e past d own other alive h =
    let same : last_of j (e ∷ past) ≡ last_of j past = last_behind j e past ∙ others_over (Client j) e.sent (last_of j past) (by_others j e.actor past e e.sent refl other own) in
    record {
      filed = λ act run. subst HasFiled (sym same) (h.filed act run);
      asked = λ k z. subst (HasAsked j x k) (sym same) (h.asked k z);
      knows = unnoted_knows s j e past (boot_of Loc x.boots) (boot_of Loc x.boots) (λ b i. apart j e past d other i.message i.given i.to) alive refl h.knows;
    }

-- ---- what the client is given

-- a notice that isn't sought isn't one under its last call, where that asked the location database
not_sought : (s : Script) (c : Cell) (past : List Entry) (n : ℕ) (m : Message) (b : ℕ) (ls : List Line) (o : Option Going) (p : Option Seek) → AcquaintedFacts s c past → IsUnsought n (c.clients n) m → given_message ls (sent_of past) ≡ Some m → (i : IsNotedByLoc s (Client n) b past ls) → (c.clients n).running ≡ o → (c.clients n).seeking ≡ p → act_by o p ≡ Some i.act → ⊥
not_sought s c past n m b ls (Some a) p h un given i r z is =
    let f = (h.1 n).filed a r in
    let same : f.0 ≡ i.asking = some_of f.0 i.asking (sym f.1.0 ∙ i.last) in
    subst IsFileCall (ap (λ (x : Message). x.carried) same ∙ i.carries) f.1.1
not_sought s c past n m b ls None (Some k) h un given i r z is =
    let f = (h.1 n).asked k z in
    let same : f.0 ≡ i.asking = some_of f.0 i.asking (sym f.1.0 ∙ i.last) in
    let this : i.message ≡ m = some_of i.message m (sym i.given ∙ given) in
    let key : answered_key m.head ≡ last_key n (c.clients n) = ap (λ (x : Message). answered_key x.head) (sym this) ∙ (i.key ∙ (ap (λ (x : Message). called_key x.head) (sym same) ∙ f.1.1.key)) in
    let opcode : m.head.opcode ≡ asked_number k = ap (λ (x : Message). x.head.opcode) (sym this) ∙ (i.opcode ∙ (ap (λ (x : Message). x.head.opcode) (sym same) ∙ f.1.1.opcode)) in
    let answers : is_answer m.carried ≡ true = ap is_answer (ap (λ (x : Message). x.carried) (sym this) ∙ i.is) in
    let from : m.head.from ≡ Loc = ap (λ (x : Message). x.head.from) (sym this) ∙ i.from in
    yes_no (is_sought (Client n) (c.clients n) k m.head m.carried) (its_answer n (c.clients n) k m answers from key opcode) (un k z)
not_sought s c past n m b ls None None h un given i r z is = absurd cc

told_knows : (s : Script) (c : Cell) (past : List Entry) (n place : ℕ) (m : Message) → AcquaintedFacts s c past → message_at c.sent place ≡ Some m → m.head.to ≡ Client n → IsUnsought n (c.clients n) m → KnowsNow s n (client_row (Client n) (c.clients n) c.clock place (Whole m)) past
told_knows s c past n place m h at to un =
    let x : ClientState = c.clients n in
    let st : Step ClientState = client_row (Client n) x c.clock place (Whole m) in
    let K : KnownAsked s c past = known_asked s c past h in
    let given : given_message st.lines (sent_of past) ≡ Some m = (client_given c past n place m K.0.hears to at).given (sent_of past) ∙ (ap (λ (ms : List Message). message_at ms place) K.0.hears.told ∙ at) in
    let same : boot_of Loc st.state.boots ≡ boot_of Loc x.boots = elim (told_hears IsLoc c past n place m m.carried K.0 at to refl) [
      | inl a ↦
          let server : IsServer x.callee = callee_server n c.clients a.act h.0.1.0.0 h.0.1.0.1 a.runs in
          ap (boot_of Loc) a.boots ∙ boot_other x.callee Loc m.head.boot x.boots (ap (λ (q : Node). same_node q Loc) server.1)
      | inr z ↦ z.same Loc refl
    ] in
    unnoted_knows s n (of_client n st) past (boot_of Loc x.boots) (boot_of Loc st.state.boots) (λ b i. not_sought s c past n m b st.lines x.running x.seeking h un given i refl refl (sym (K.1.acts n) ∙ i.runs))
    (crashed_alive (Client n) st.lines (told_alive (Client n) x c.clock place m)) same (h.1 n).knows

-- nor is a reply or a refusal one
quietly_knows : (s : Script) (c : Cell) (past : List Entry) (n place : ℕ) (m : Message) (k : Seek) → AcquaintedFacts s c past → message_at c.sent place ≡ Some m → (c.clients n).seeking ≡ Some k → is_sought (Client n) (c.clients n) k m.head m.carried ≡ true → HasCode m.carried → (m.carried ≡ carried.Notice → ⊥) → KnowsNow s n (sought_by (Client n) (c.clients n) c.clock place k m.head m.carried) past
quietly_knows s c past n place m k h at z e has other =
    let y : ClientState = c.clients n in
    let K : KnownAsked s c past = known_asked s c past h in
    let st : Step ClientState = sought_by (Client n) y c.clock place k m.head m.carried in
    let given : given_message st.lines (sent_of past) ≡ Some m = sought_given c past n place m k K.0 at in
    let alive : has_crashed (Client n) st.lines ≡ false = crashed_alive (Client n) st.lines (quietly s c past n place m k (λ t. Alive t.lines) K.1 at z e (λ code. refl) refl refl) in
    unnoted_knows s n (of_client n st) past (boot_of Loc y.boots) (boot_of Loc st.state.boots) (λ b i. other (ap (λ (x : Message). x.carried) (some_of m i.message (sym given ∙ i.given)) ∙ i.is)) alive
    (ap (boot_of Loc) (quiet_boots n y place k m.head m.carried st has (sought_quiet s n y c.clock place k m.head m.carried (placed_in s c past n k K.1 z) (told_in s c past n place m k K.1 at e)))) (h.1 n).knows

-- and one that is, is
sought_knows : (s : Script) (c : Cell) (past : List Entry) (n place : ℕ) (m : Message) (k : Seek) (x : Carried) → AcquaintedFacts s c past → message_at c.sent place ≡ Some m → m.head.to ≡ Client n → (c.clients n).seeking ≡ Some k → is_sought (Client n) (c.clients n) k m.head m.carried ≡ true → m.carried ≡ x → KnowsNow s n (sought_by (Client n) (c.clients n) c.clock place k m.head m.carried) past
sought_knows s c past n place m k carried.Notice h at to z e is =
    let y : ClientState = c.clients n in
    let K : KnownAsked s c past = known_asked s c past h in
    let st : Step ClientState = sought_by (Client n) y c.clock place k m.head m.carried in
    let f = (h.1 n).asked k z in
    let now : boot_of Loc st.state.boots ≡ m.head.boot = ap (λ (x : Carried). boot_of Loc (sought_by (Client n) y c.clock place k m.head x).state.boots) is ∙ boot_here Loc Loc m.head.boot y.boots refl in
    inl (record {
      act = k.act;
      runs = K.1.acts n ∙ seeks_act y k (K.1.seeks n k z).idle z;
      asking = f.0;
      last = f.1.0;
      user = f.1.1.user;
      call = f.1.1.call;
      carries = f.1.1.carries;
      message = m;
      given = sought_given c past n place m k K.0 at;
      from = is_from_loc (Client n) y k m.head m.carried e;
      to = to;
      is = is;
      key = sought_key n y k m.head m.carried e ∙ sym f.1.1.key;
      opcode = sought_opcode (Client n) y k m.head m.carried e ∙ sym f.1.1.opcode;
      boot' = sym now;
    })
sought_knows s c past n place m k (carried.Refusal code) h at to z e is = quietly_knows s c past n place m k h at z e (subst HasCode (sym is) tt) (λ other. (let no_ : carried.Refusal code ≡ carried.Notice = sym is ∙ other in absurd cc))
sought_knows s c past n place m k (carried.Reply reply) h at to z e is = quietly_knows s c past n place m k h at z e (subst HasCode (sym is) tt) (λ other. (let no_ : carried.Reply reply ≡ carried.Notice = sym is ∙ other in absurd cc))
sought_knows s c past n place m k (carried.Call user call) h at to z e is = absurd (yes_no (is_answer m.carried) (sought_answer (Client n) (c.clients n) k m e) (ap is_answer is))

-- it stops, and knows nothing then
fallen_knows : (s : Script) (c : Cell) (past : List Entry) (n : ℕ) → KnowsNow s n (record { state = reborn c.handed (c.clients n); lines = lines.Crash (Client n) ∷ []; sent = [] }) past
fallen_knows s c past n = inr ((λ b i. (let no_ : None ≡ Some i.message = i.given in absurd cc)), inl (ap (λ (t : Bool). cond t true false) (same_node-refl (Client n)), refl))

-- ---- every step

-- where what it is given is delivered, and each sends in its own name
abbrev Then : Script → Cell → List Entry → Moved → Type 0
Then s c past m = DeliveredStep c past m → OwnStep s c past m → AcquaintedIn s m.cell (m.entry ∷ past)

client_acquainted : (s : Script) (c : Cell) (past : List Entry) (n : ℕ) (st : Step ClientState) → AcquaintedFacts s c past → Acts n (who_at (c.clients n)) (c.clients n).gifts st → KnowsNow s n st past → IsDelivered (actors.Node (Client n)) past st.lines → EachSent IsOwn (of_client n st ∷ past) st.sent → (j : ℕ) → Acquainted s j (put n st.state c.clients j) (of_client n st ∷ past)
client_acquainted s c past n st h a knows d own j =
    at_put n j (λ (x : ClientState). Acquainted s j x (of_client n st ∷ past)) st.state c.clients
    (λ same. subst (λ (i : ℕ). Acquainted s i st.state (of_client n st ∷ past)) same (step_acquainted s c past n st (known_asked s c past h).1 (h.1 n) a knows))
    (λ other. other_acquainted s j (c.clients j) (of_client n st) past d own (λ e. other (one_client n j e)) (crashed_other n j st.lines a.of other) (h.1 j))

idle_acquainted : (s : Script) (c : Cell) (past : List Entry) (m : Moved) → AcquaintedFacts s c past → m.cell.clients ≡ c.clients → ((j : ℕ) → m.entry.actor ≡ actors.Node (Client j) → ⊥) → all_lines is_idle m.entry.lines ≡ true → Then s c past m
idle_acquainted s c past m h same none idle d own j =
    subst (λ (f : ℕ → ClientState). Acquainted s j (f j) (m.entry ∷ past)) (sym same) (other_acquainted s j (c.clients j) m.entry past d own (none j) (crashed_idle j m.entry.lines idle) (h.1 j))

of_server : (i j : ℕ) → actors.Node (Server i) ≡ actors.Node (Client j) → ⊥
of_server i j e = absurd cc

still : (s : Script) (c : Cell) (past : List Entry) (n : ℕ) (st : Step ClientState) → AcquaintedFacts s c past → has_given st.lines ≡ false → Alive st.lines → boot_of Loc st.state.boots ≡ boot_of Loc (c.clients n).boots → KnowsNow s n st past
still s c past n st h none alive same = unnoted_knows s n (of_client n st) past (boot_of Loc (c.clients n).boots) (boot_of Loc st.state.boots) (ungiven_unnoted s n (of_client n st) past none) (crashed_alive (Client n) st.lines alive) same (h.1 n).knows

acquainted_moves : (s : Script) → EachMove (AcquaintedFacts s) (Then s)
acquainted_moves s = record {
  void = λ c past h. idle_acquainted s c past (voided c) h refl (λ j e. absurd cc) refl;
  ticked = λ c past n h. idle_acquainted s c past (ticked c (suc n)) h refl (λ j e. absurd cc) refl;
  begun = λ c past n act h r z. (let K : KnownAsked s c past = known_asked s c past h in let st : Step ClientState = begin_row (Client n) (c.clients n) c.clock act in
      client_acquainted s c past n st h (begins_acts n (c.clients n) c.clock act r z) (still s c past n st h (begun_ungiven (Client n) (c.clients n) c.clock act) (begun_alive (Client n) (c.clients n) c.clock act) (begun_boots IsLoc c past n act K.0 Loc refl)));
  told = λ c past n place m h at to un. (let K : KnownAsked s c past = known_asked s c past h in
      client_acquainted s c past n (client_row (Client n) (c.clients n) c.clock place (Whole m)) h (given_acts (by_key (IsKnown K.0.keys.callees c.clients)) any_told n (c.clients n) c.clock place m (K.0.keys.replies n) (K.1.seats n)) (told_knows s c past n place m h at to un));
  sought = λ c past n place m k h at to z e. (let K : KnownAsked s c past = known_asked s c past h in
      client_acquainted s c past n (sought_by (Client n) (c.clients n) c.clock place k m.head m.carried) h (sought_acts_in s c past n place m k K.1 at z e) (sought_knows s c past n place m k m.carried h at to z e refl));
  missed = λ c past n k h r z. (let K : KnownAsked s c past = known_asked s c past h in let st : Step ClientState = seek_timeout_row (Client n) (c.clients n) k in
      client_acquainted s c past n st h (missed_acts n (c.clients n) k r z) (still s c past n st h (missed_ungiven (Client n) (c.clients n) k) (missed_alive (Client n) (c.clients n) k) ((missed_tame any_told any_told (IsOld IsLoc (c.clients n)) n (c.clients n) k (own_seats c past n K.0)).boots (λ p own. refl) Loc refl)));
  loc = λ c past l ls ms h st. idle_acquainted s c past (loc_becomes c l ls ms) h refl (λ j e. absurd cc) (loc_idle ls st.lines);
  waited = λ c past n act h r. (let K : KnownAsked s c past = known_asked s c past h in let st : Step ClientState = timeout_row (Client n) (c.clients n) act in
      client_acquainted s c past n st h (waits_acts n (c.clients n) act r) (still s c past n st h (waited_ungiven (Client n) (c.clients n) act) (waited_alive (Client n) (c.clients n) act) (waited_boots IsLoc c past n act K.0 r Loc refl)));
  fallen = λ c past n h. client_acquainted s c past n (record { state = reborn c.handed (c.clients n); lines = lines.Crash (Client n) ∷ []; sent = [] }) h (falls_acts n c.handed (c.clients n) (handed_same s c past (known_asked s c past h).1 n)) (fallen_knows s c past n);
  risen = λ c past n h. (let st : Step ClientState = record { state = c.clients n; lines = lines.Restart (Client n) (c.clients n).epoch ∷ []; sent = [] } in
      client_acquainted s c past n st h (rises_acts n (c.clients n)) (unnoted_knows s n (of_client n st) past (boot_of Loc (c.clients n).boots) (boot_of Loc (c.clients n).boots) (ungiven_unnoted s n (of_client n st) past refl) refl refl (h.1 n).knows));
  served = λ c past i place m armed h up at to. idle_acquainted s c past (server_moves c i armed (server_row (Server i) (c.hosts i).state c.clock place (Whole m))) h refl (of_server i) (idle_works any_message i (c.hosts i).state _ _ (serves_works any_message (Server i) (c.hosts i).state c.clock place m (λ rest. tt)));
  cut = λ c past i place m t h up at to. idle_acquainted s c past (server_falls c i (lines.Given place ∷ blow_line i t.stops ∷ []) (in_step m c.clock t)) h refl (of_server i) (blow_idle i t.stops);
  stopped = λ c past i h up. idle_acquainted s c past (server_falls c i (lines.Crash (Server i) ∷ []) at_rest) h refl (of_server i) refl;
  stop_set = λ c past i calls pick armed h up. idle_acquainted s c past (server_set c i (lines.Stop (Server i) calls pick) armed) h refl (of_server i) refl;
  fail_set = λ c past i call armed h up. idle_acquainted s c past (server_set c i (lines.Fail (Server i) call) armed) h refl (of_server i) refl;
  timed = λ c past i n b armed h up at. idle_acquainted s c past (server_moves c i armed (back_timeout_row (Server i) (c.hosts i).state c.clock n b)) h refl (of_server i) (idle_works any_message i (c.hosts i).state _ _ (times_works any_message (Server i) (c.hosts i).state c.clock n b));
  woken = λ c past i armed h up. idle_acquainted s c past (server_moves c i armed (wake_row (Server i) (c.hosts i).state c.clock)) h refl (of_server i) (idle_works any_message i (c.hosts i).state _ _ (wakes_works any_message (Server i) (c.hosts i).state c.clock));
  started = λ c past i after fall h down. idle_acquainted s c past (server_rises c i (begun_by_disk (Server i) (c.hosts i).state after fall)) h refl (of_server i)
      (idle_works any_message i (c.hosts i).state _ _ (starts_works any_message (Server i) (c.hosts i).state c.clock c.count (begun_by_disk (Server i) (c.hosts i).state after fall) (disk_works any_message (Server i) (c.hosts i).state after fall (risen_lines (Server i) c.clock c.count (begun_by_disk (Server i) (c.hosts i).state after fall)) (any_cut fall) (risen_from (Server i) c.clock c.count (begun_by_disk (Server i) (c.hosts i).state after fall)))));
  early = λ c past i fall h down. idle_acquainted s c past (server_falls c i (lines.Fault (Server i) ∷ []) fall) h refl (of_server i) refl;
  midway = λ c past i after fall h down. idle_acquainted s c past (server_stays c i (begun_by_disk (Server i) (c.hosts i).state after fall) (lines.Fault (Server i)) in_boot) h refl (of_server i) (idle_works any_message i (c.hosts i).state _ _ (disk_works any_message (Server i) (c.hosts i).state after fall (lines.Fault (Server i) ∷ []) (any_cut fall) (one_from (Server i) true refl)));
  full = λ c past i after fall h down. idle_acquainted s c past (server_stays c i (begun_by_disk (Server i) (c.hosts i).state after fall) (lines.Full (Server i)) at_rest) h refl (of_server i) (idle_works any_message i (c.hosts i).state _ _ (disk_works any_message (Server i) (c.hosts i).state after fall (lines.Full (Server i) ∷ []) (any_cut fall) (one_from (Server i) true refl)));
}

pub acquainted_kept : (s : Script) → IsKept (AcquaintedFacts s)
acquainted_kept s c past x so h = (
  homes_kept s c past x so h.0,
  each_moved (AcquaintedFacts s) (Then s) (acquainted_moves s) c past x so h (each_moved Known DeliveredStep delivered_moves c past x so (known_asked s c past h).0) (each_moved (Posted s) (OwnStep s) (own_moves s) c past x so h.0.0.0.0),
)

pub acquainted_first : (s : Script) → AcquaintedFacts s (start s) (set_up_entry s ∷ [])
acquainted_first s = (
  homes_first s,
  λ j. record {
    filed = λ act r. absurd cc;
    asked = λ k z. absurd cc;
    knows = inr ((λ b i. (let no_ : None ≡ Some i.message = sym (given_first (first_lines s.volumes) [] (all_versions s.volumes)) ∙ i.given in absurd cc)), inr (crashed_alive (Client j) (first_lines s.volumes) (versions_alive (first_lines s.volumes) (all_versions s.volumes)), refl));
  },
)

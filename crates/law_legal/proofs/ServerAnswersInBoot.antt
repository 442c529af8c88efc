-- A server answers in the boot in which it is, but for the replies to changes, which its disk keeps, and its notices tell that boot, however
-- many servers a cell has. (That those of an older boot tell that the change is done says Successes.)
use Rattle.spec_breaks.specs.declared.types.OwedBreak.{OwedBreak}
use Rattle.spec_history.specs.declared.lines.Line.{Line}
use Rattle.spec_history.specs.declared.lines.Line.TheVariants as lines
use Rattle.spec_history.specs.declared.scripts.Script.{Script}
use Rattle.law_legal.proofs.BaseLaws.{Each, IfCall, IfReply, OfClient, OfNotice, OfReply, at_put, by_client, each_at, each_map, if_call, of_notice, some_of}
use Rattle.law_legal.proofs.ClientCalls.{AreReplies, IsAnswer, IsCallOf, IsUncalled, answer_over, any_call}
use Rattle.law_legal.proofs.VolumeChanges.{run_each}
use Rattle.law_legal.proofs.ServerHears.{IsHad, replies_to, served_boot, timed_state, woken_state}
use Rattle.law_legal.proofs.ServerLives.{start_sends}
use Rattle.law_legal.proofs.ServerKeepsKeys.{HostStep, IsSound, decides_due, memory_of, serves_step, times_step, wakes_step}
use Rattle.law_legal.proofs.CallKeysOnce.{by_onto}
use Rattle.law_legal.proofs.RunsKnown.{Known, known_first, known_kept}
use Rattle.law_legal.proofs.RunWalk.{Behind, EachMove, IsKept, each_moved}
use Rattle.law_legal.proofs.ClientNotices.{OfClients, TellsEpoch, coded_notice, run_noticed}
use Rattle.law_legal.proofs.ServerSeatsAll.{SitsIn, sits_moves}
use Rattle.law_legal.proofs.RunMessages.{run_own}
use Rattle.law_legal.proofs.BaseWords.{up_boot}
use Rattle.law_legal.specs.Ideal.{set_up_entry}
use Rattle.law_legal.specs.Laws.{seat_key}
use Rattle.law_legal.specs.Legal.{IsBy, IsInBoot, TellsItsBoot}
use Rattle.law_legal.specs.Lives.{AreCalls, epoch_after}
use Rattle.law_legal.specs.Parts.{EachEntry, EachSent, IsOwn}
use Rattle.law_legal.specs.Past.{HasChangeBy, HasCode, IsCall, IsReply, answered_key, lines_of, onto, server_boot}
use Rattle.spec_model.specs.Calls.{call_seat}
use Rattle.afs_num.specs.declared.histories.Actor.TheVariants as actors
use Rattle.afs_num.specs.declared.messages.Carried.{Carried}
use Rattle.afs_num.specs.declared.messages.Carried.TheVariants as carried
use Rattle.afs_num.specs.declared.messages.Message.{Message}
use Rattle.afs_num.specs.declared.messages.Received.TheVariants.{Whole}
use Rattle.afs_num.specs.declared.types.Head.{Head}
use Rattle.afs_num.specs.declared.types.Key.{Key}
use Rattle.afs_num.specs.declared.types.Node.{Node}
use Rattle.afs_num.specs.declared.types.Node.TheVariants.{Admin, Client, Loc, Server}
use Rattle.spec_rows.specs.Callbacks.{Started, put, replies_of, risen_turn, starts, starts_by}
use Rattle.spec_rows.specs.ClientRow.{begin_row, client_row, timeout_row, seek_timeout_row, sought_by}
use Rattle.law_legal.proofs.RunSteps.{blow_line, server_falls, server_moves, server_rises, server_set, server_stays, loc_becomes}
use Rattle.spec_rows.specs.Runs.{Armed, Cell, Entry, Fall, Moved, RunsTo, at_rest, begun_by_disk, client_falls, client_moves, client_rises, in_boot, in_step, message_at, moved, start, ticked, unarmed, voided, ServerHost}
use Rattle.spec_rows.specs.ServerRow.{reply_head}
use Rattle.spec_rows.specs.ServerSteps.{back_timeout_row, server_row, start_row, wake_row}
use Rattle.spec_rows.specs.States.{BackCall, Held, Seat, ServerState}
use Rattle.spec_rows.specs.Steps.{Step, Begun}
use Rattle.std.proofs.Common.{suc, ◌+◌, ◌≡◌, ◌⊎◌, inl, inr, ℕ, Bool, true, false, cond, List, [], ◌∷◌, ◌++◌, Option, Some, None, refl, sym, ap, subst, ◌∙◌, eq-eqb, nat_eq}
use Rattle.std.specs.Prelude.{⊤}

-- ---- a reply of this boot, or to a change

abbrev IsNow : ℕ → List Line → ℕ → Head → Type 0
IsNow i ls boot head = (head.boot ≡ boot) ⊎ HasChangeBy (Server i) (answered_key head) ls

now_onto : (i : ℕ) (o ls : List Line) (boot : ℕ) (head : Head) → IsNow i o boot head → IsNow i (onto o ls) boot head
now_onto i o ls boot head (inl e) = inl e
now_onto i o ls boot head (inr x) = inr (by_onto (Server i) (answered_key head) ls o x)

-- a notice tells this boot
abbrev OfBoot : ℕ → Head → Type 0
OfBoot boot head = head.boot ≡ boot

-- of what a server that is up keeps, and of what waits
record Current (i : ℕ) (x : ServerState) (ls : List Line) : Type 0 where
  seats : AreReplies (IsNow i ls x.lasting.boot) (OfBoot x.lasting.boot) x.seats
  held : Each (IsAnswer (IsNow i ls x.lasting.boot) (OfBoot x.lasting.boot)) (replies_of x.backs.held)

current_onto : (i : ℕ) (x : ServerState) (o ls : List Line) → Current i x o → Current i x (onto o ls)
current_onto i x o ls h = record {
  seats = replies_to (IsNow i o x.lasting.boot) (IsNow i (onto o ls) x.lasting.boot) (OfBoot x.lasting.boot) (OfBoot x.lasting.boot) (now_onto i o ls x.lasting.boot) (λ y z. z) x.seats h.seats;
  held = each_map (IsAnswer (IsNow i o x.lasting.boot) (OfBoot x.lasting.boot)) (IsAnswer (IsNow i (onto o ls) x.lasting.boot) (OfBoot x.lasting.boot)) (answer_over (IsNow i o x.lasting.boot) (IsNow i (onto o ls) x.lasting.boot) (OfBoot x.lasting.boot) (OfBoot x.lasting.boot) (now_onto i o ls x.lasting.boot) (λ y z. z)) (replies_of x.backs.held) h.held;
}

abbrev CurrentBy : (ℕ → ServerHost) → List Line → Type 0
CurrentBy hosts ls = (i : ℕ) → (hosts i).down ≡ None → Current i (hosts i).state ls

abbrev CurrentIn : Cell → List Entry → Type 0
CurrentIn c past = CurrentBy c.hosts (lines_of past)

abbrev KnownSits : Cell → List Entry → Type 0
KnownSits c past = Known c past × SitsIn c past

known_sits_kept : IsKept KnownSits
known_sits_kept c past x so h = (known_kept c past x so h.0, each_moved SitsIn (Behind SitsIn) sits_moves c past x so h.1)

abbrev KnownCurrent : Cell → List Entry → Type 0
KnownCurrent c past = KnownSits c past × CurrentIn c past

-- ---- what a disk keeps

if_client_all : (n : Node) (X : Type 0) → X → OfClient n X
if_client_all (Client j) X x = x
if_client_all (Server j) X x = tt
if_client_all (Admin j) X x = tt
if_client_all Loc X x = tt

of_reply_all : (X : Type 0) (c : Carried) → X → OfReply X c
of_reply_all X (carried.Refusal code) x = x
of_reply_all X (carried.Reply reply) x = x
of_reply_all X (carried.Call user call) x = tt
of_reply_all X carried.Notice x = tt

kept_now : (c : Cell) (past : List Entry) (i boot : ℕ) → KnownSits c past → AreReplies (IsNow i (lines_of past) boot) (OfBoot boot) (c.hosts i).state.lasting.kept
kept_now c past i boot Q n seat m at is =
    let K : Known c past = Q.0 in
    let told = K.keys.stored i n seat at in
    let same : told.1.0 ≡ m = some_of told.1.0 m (sym told.1.1.0 ∙ is) in
    let key : seat_key n seat ≡ answered_key m.head = sym told.1.1.1 ∙ ap (λ (r : Message). answered_key r.head) same in
    let now : IsNow i (lines_of past) boot m.head = inr (subst (λ (k : Key). HasChangeBy (Server i) k (lines_of past)) key told.0) in
    (((K.hears.sound i).kept n seat m at is).0, (of_reply_all (OfClient m.head.to (IsNow i (lines_of past) boot m.head)) m.carried (if_client_all m.head.to (IsNow i (lines_of past) boot m.head) now), coded_notice (OfBoot boot m.head) m.carried ((Q.1 i).kept n seat m at is).reply.1))

-- ---- a step of a server that is up

-- what it keeps, by the lines after the step
sound_now : (c : Cell) (past : List Entry) (i : ℕ) (ls : List Line) → KnownSits c past → Current i (c.hosts i).state (lines_of past) → IsSound (IsNow i (onto (lines_of past) ls) (c.hosts i).state.lasting.boot) (OfBoot (c.hosts i).state.lasting.boot) (memory_of (c.hosts i).state)
sound_now c past i ls K h = record {
  seats = (current_onto i (c.hosts i).state (lines_of past) ls h).seats;
  kept = replies_to (IsNow i (lines_of past) (c.hosts i).state.lasting.boot) (IsNow i (onto (lines_of past) ls) (c.hosts i).state.lasting.boot) (OfBoot (c.hosts i).state.lasting.boot) (OfBoot (c.hosts i).state.lasting.boot) (now_onto i (lines_of past) ls (c.hosts i).state.lasting.boot) (λ y z. z) (c.hosts i).state.lasting.kept (kept_now c past i (c.hosts i).state.lasting.boot K);
  lower = (K.0.hears.sound i).lower;
}

-- a message of it
record IsOfNow (i : ℕ) (past : List Entry) (m : Message) : Type 0 where
  reply : (j : ℕ) → HasCode m.carried → m.head.to ≡ Client j → (server_boot (Server i) (lines_of past) ≡ Some m.head.boot) ⊎ HasChangeBy (Server i) (answered_key m.head) (lines_of past)
  notice : m.carried ≡ carried.Notice → server_boot (Server i) (lines_of past) ≡ Some m.head.boot

of_now : (j : ℕ) (n : Node) (X : Type 0) (c : Carried) → n ≡ Client j → HasCode c → OfReply (OfClient n X) c → X
of_now j n X (carried.Refusal code) to is x = by_client j n X to x
of_now j n X (carried.Reply reply) to is x = by_client j n X to x
of_now j n X (carried.Call user call) to is x = absurd is
of_now j n X carried.Notice to is x = absurd is

told_now : (i boot : ℕ) (past : List Entry) (m : Message) → server_boot (Server i) (lines_of past) ≡ Some boot → IsAnswer (IsNow i (lines_of past) boot) (OfBoot boot) m → IsOfNow i past m
told_now i boot past m up a = record {
  reply = λ j is to. elim (of_now j m.head.to (IsNow i (lines_of past) boot m.head) m.carried to is a.1.0) [ inl e ↦ inl (up ∙ ap Some (sym e)) | inr x ↦ inr x ];
  notice = λ is. (let e : m.head.boot ≡ boot = subst (OfNotice (OfBoot boot m.head)) is a.1.1 in up ∙ ap Some (sym e));
}

each_now : (i boot : ℕ) (past : List Entry) (ms : List Message) → server_boot (Server i) (lines_of past) ≡ Some boot → Each (IsAnswer (IsNow i (lines_of past) boot) (OfBoot boot)) ms → EachSent (IsOfNow i) past ms
each_now i boot past [] up a = tt
each_now i boot past (m ∷ ms) up a = (told_now i boot past m up a.0, each_now i boot past ms up a.1)

-- neither a reply nor a notice is among calls
calls_now : (i : ℕ) (past : List Entry) (ms : List Message) → AreCalls ms → EachSent (IsOfNow i) past ms
calls_now i past [] h = tt
calls_now i past (m ∷ ms) h = (record { reply = λ j is to. absurd (no_reply m.carried h.0 is); notice = λ is. absurd (subst IsCall is h.0) }, calls_now i past ms h.1)
  where
    no_reply : (c : Carried) → IsCall c → HasCode c → ⊥
    no_reply (carried.Call user call) a b = b
    no_reply (carried.Refusal code) a b = a
    no_reply (carried.Reply reply) a b = a
    no_reply carried.Notice a b = a

-- ---- the facts after a step

abbrev SentNow : Moved → List Entry → Type 0
SentNow m past = (i : ℕ) → m.entry.actor ≡ actors.Node (Server i) → EachSent (IsOfNow i) (m.entry ∷ past) m.entry.sent

record Presents (past : List Entry) (m : Moved) : Type 0 where
  sent : SentNow m past
  current : CurrentIn m.cell (m.entry ∷ past)

-- where what is known holds after it too
abbrev PresentStep : Cell → List Entry → Moved → Type 0
PresentStep c past m = KnownSits m.cell (m.entry ∷ past) → Presents past m

besides_present : (c : Cell) (past : List Entry) (m : Moved) → KnownCurrent c past → ((i : ℕ) → m.entry.actor ≡ actors.Node (Server i) → ⊥) → m.cell.hosts ≡ c.hosts → Presents past m
besides_present c past m h other same = record {
  sent = λ i is. absurd (other i is);
  current = subst (λ (hosts : ℕ → ServerHost). CurrentBy hosts (lines_of (m.entry ∷ past))) (sym same) (λ i up. current_onto i (c.hosts i).state (lines_of past) m.entry.lines (h.1 i up));
}

own_current : (c : Cell) (past : List Entry) (i : ℕ) (x : ServerHost) (ls : List Line) → KnownCurrent c past → (x.down ≡ None → Current i x.state (onto (lines_of past) ls)) → CurrentBy (put i x c.hosts) (onto (lines_of past) ls)
own_current c past i x ls h own j =
    at_put i j (λ (y : ServerHost). y.down ≡ None → Current j y.state (onto (lines_of past) ls)) x c.hosts (λ same. subst (λ (k : ℕ). x.down ≡ None → Current k x.state (onto (lines_of past) ls)) same own)
    (λ other up. current_onto j (c.hosts j).state (lines_of past) ls (h.1 j up))

pub put_same : (i : ℕ) (x : ServerHost) (h : ℕ → ServerHost) → put i x h i ≡ x
put_same i x h = ap (λ (t : Bool). cond t x (h i)) (eq-eqb i i refl)

pub one_server : (i j : ℕ) → actors.Node (Server i) ≡ actors.Node (Server j) → i ≡ j
one_server i j e = cc

-- one that is silent
quiet_present : (c : Cell) (past : List Entry) (i : ℕ) (x : ServerHost) (m : Moved) → KnownCurrent c past → m.entry.sent ≡ [] → m.cell.hosts ≡ put i x c.hosts → (x.down ≡ None → Current i x.state (lines_of past)) → Presents past m
quiet_present c past i x m h none hosts own = record {
  sent = λ k is. subst (EachSent (IsOfNow k) (m.entry ∷ past)) (sym none) tt;
  current = subst (λ (y : ℕ → ServerHost). CurrentBy y (lines_of (m.entry ∷ past))) (sym hosts) (own_current c past i x m.entry.lines h (λ up. current_onto i x.state (lines_of past) m.entry.lines (own up)));
}

-- one that is up, and stays in its boot
up_present : (c : Cell) (past : List Entry) (i : ℕ) (D : Option ℕ) (armed : Armed) (st : Step ServerState) → KnownCurrent c past → st.state.lasting.boot ≡ (c.hosts i).state.lasting.boot → HostStep (IsNow i (onto (lines_of past) st.lines) (c.hosts i).state.lasting.boot) (OfBoot (c.hosts i).state.lasting.boot) D (Server i) (c.hosts i).state st
    → KnownSits (server_moves c i armed st).cell ((server_moves c i armed st).entry ∷ past) → Presents past (server_moves c i armed st)
up_present c past i D armed st h boot q K =
    let x : ServerHost = record { state = st.state; down = None; armed = armed } in
    let ls : List Line = onto (lines_of past) st.lines in
    let up : server_boot (Server i) ls ≡ Some st.state.lasting.boot = K.0.hears.boots.now i ∙ ap (λ (y : ServerHost). up_boot y.down y.state.lasting.boot) (put_same i x c.hosts) in
    record {
      sent = λ k is. subst (λ (n : ℕ). EachSent (IsOfNow n) ((server_moves c i armed st).entry ∷ past) st.sent) (one_server i k is) (each_now i (c.hosts i).state.lasting.boot ((server_moves c i armed st).entry ∷ past) st.sent (up ∙ ap Some boot) q.sent);
      current = own_current c past i x st.lines h (λ none. record {
        seats = subst (λ (b : ℕ). AreReplies (IsNow i ls b) (OfBoot b) st.state.seats) (sym boot) q.hosts.sound.seats;
        held = subst (λ (b : ℕ). Each (IsAnswer (IsNow i ls b) (OfBoot b)) (replies_of st.state.backs.held)) (sym boot) q.held;
      });
    }

held_now : (c : Cell) (past : List Entry) (i : ℕ) (ls : List Line) → Current i (c.hosts i).state (lines_of past) → Each (IsAnswer (IsNow i (onto (lines_of past) ls) (c.hosts i).state.lasting.boot) (OfBoot (c.hosts i).state.lasting.boot)) (replies_of (c.hosts i).state.backs.held)
held_now c past i ls h = (current_onto i (c.hosts i).state (lines_of past) ls h).held

serves_now : (c : Cell) (past : List Entry) (i place : ℕ) (m : Message) → KnownCurrent c past → (c.hosts i).down ≡ None → message_at c.sent place ≡ Some m → HostStep (IsNow i (onto (lines_of past) (server_row (Server i) (c.hosts i).state c.clock place (Whole m)).lines) (c.hosts i).state.lasting.boot) (OfBoot (c.hosts i).state.lasting.boot) (Some place) (Server i) (c.hosts i).state (server_row (Server i) (c.hosts i).state c.clock place (Whole m))
serves_now c past i place m h up at =
    let x : ServerState = (c.hosts i).state in
    let ls : List Line = (server_row (Server i) x c.clock place (Whole m)).lines in
    let K : Head → Type 0 = IsNow i (onto (lines_of past) ls) x.lasting.boot in
    let L : Head → Type 0 = OfBoot x.lasting.boot in
    let sound : IsSound K L (memory_of x) = sound_now c past i ls h.0 (h.1 i up) in
    let call : IfCall (λ y user z. K (reply_head x.lasting.boot y)) m = if_call (λ y user z. IsHad c.hosts y.to y.boot) (λ y user z. K (reply_head x.lasting.boot y)) (λ y user z had. inl refl) m (each_at (IfCall (λ y user z. IsHad c.hosts y.to y.boot)) c.sent place m at h.0.0.hears.calls) in
    serves_step K L i x c.clock place m sound (held_now c past i ls (h.1 i up)) (decides_due K L (Server i) x c.clock m refl sound.seats (any_call K x.lasting.boot x.seats m.head m.carried call) (λ to. refl))

-- ---- one that begins again

start_held : (me : Node) (boot : ℕ) (t : Started) (o : OwedBreak) (k : Option BackCall) → (starts_by me boot t o k).backs.held ≡ t.backs.held
start_held me boot t o None = refl
start_held me boot t o (Some k) = refl

starts_held : (me : Node) (boot : ℕ) (os : List OwedBreak) (t : Started) → (starts me boot os t).backs.held ≡ t.backs.held
starts_held me boot [] t = refl
starts_held me boot (o ∷ os) t = starts_held me boot os (starts_by me boot t o (t.backs.calls o.client)) ∙ start_held me boot t o (t.backs.calls o.client)

pub started_held : (i clock count : ℕ) (f : Begun ServerState) → (start_row (Server i) clock count f).state.backs.held ≡ []
unfolding start_row
started_held i clock count f = starts_held (Server i) (f.state.lasting.boot + 1) (risen_turn (Server i) clock count).backs.lists.owed _

pub started_seats : (i clock count : ℕ) (f : Begun ServerState) → (start_row (Server i) clock count f).state.seats ≡ (start_row (Server i) clock count f).state.lasting.kept
unfolding start_row
started_seats i clock count f = refl

started_present : (c : Cell) (past : List Entry) (i : ℕ) (f : Begun ServerState) → KnownCurrent c past → KnownSits (server_rises c i f).cell ((server_rises c i f).entry ∷ past) → Presents past (server_rises c i f)
started_present c past i f h K =
    let st : Step ServerState = start_row (Server i) c.clock c.count f in
    let x : ServerHost = record { state = st.state; down = None; armed = unarmed } in
    let ls : List Line = onto (lines_of past) st.lines in
    let m : Moved = server_rises c i f in
    let kept : AreReplies (IsNow i ls st.state.lasting.boot) (OfBoot st.state.lasting.boot) st.state.lasting.kept =
    subst (λ (y : ServerHost). AreReplies (IsNow i ls st.state.lasting.boot) (OfBoot st.state.lasting.boot) y.state.lasting.kept) (put_same i x c.hosts) (kept_now m.cell (m.entry ∷ past) i st.state.lasting.boot K) in
    record {
      sent = λ k is. subst (λ (n : ℕ). EachSent (IsOfNow n) (m.entry ∷ past) st.sent) (one_server i k is) (calls_now i (m.entry ∷ past) st.sent (start_sends i c.clock c.count f));
      current = own_current c past i x st.lines h (λ none. record {
        seats = subst (AreReplies (IsNow i ls st.state.lasting.boot) (OfBoot st.state.lasting.boot)) (sym (started_seats i c.clock c.count f)) kept;
        held = subst (λ (hs : List Held). Each (IsAnswer (IsNow i ls st.state.lasting.boot) (OfBoot st.state.lasting.boot)) (replies_of hs)) (sym (started_held i c.clock c.count f)) tt;
      });
    }

-- ---- every step

pub no_fall : (fall : Fall) (X : Type 0) → Some fall ≡ None → X
no_fall fall X e = absurd cc

present_moves : EachMove KnownCurrent PresentStep
present_moves = record {
  void = λ c past h K. besides_present c past (voided c) h (λ i e. absurd cc) refl;
  ticked = λ c past n h K. besides_present c past (ticked c (suc n)) h (λ i e. absurd cc) refl;
  begun = λ c past n act h r z0 K. besides_present c past (client_moves c n (begin_row (Client n) (c.clients n) c.clock act)) h (λ i e. absurd cc) refl;
  told = λ c past n place m h at to un K. besides_present c past (client_moves c n (client_row (Client n) (c.clients n) c.clock place (Whole m))) h (λ i e. absurd cc) refl;
  sought = λ c past n place m k h at to z e K. besides_present c past (client_moves c n (sought_by (Client n) (c.clients n) c.clock place k m.head m.carried)) h (λ i e'. absurd cc) refl;
  missed = λ c past n k h r z K. besides_present c past (client_moves c n (seek_timeout_row (Client n) (c.clients n) k)) h (λ i e'. absurd cc) refl;
  loc = λ c past l ls ms h st K. besides_present c past (loc_becomes c l ls ms) h (λ i e'. absurd cc) refl;
  waited = λ c past n act h r K. besides_present c past (client_moves c n (timeout_row (Client n) (c.clients n) act)) h (λ i e. absurd cc) refl;
  fallen = λ c past n h K. besides_present c past (client_falls c n) h (λ i e. absurd cc) refl;
  risen = λ c past n h K. besides_present c past (client_rises c n) h (λ i e. absurd cc) refl;
  served = λ c past i place m armed h up at to K. up_present c past i (Some place) armed (server_row (Server i) (c.hosts i).state c.clock place (Whole m)) h (served_boot i (c.hosts i).state c.clock place m) (serves_now c past i place m h up at) K;
  cut = λ c past i place m t h up at to K. quiet_present c past i (record (c.hosts i) { down = Some (in_step m c.clock t); armed = unarmed }) (server_falls c i (lines.Given place ∷ blow_line i t.stops ∷ []) (in_step m c.clock t)) h refl refl (no_fall (in_step m c.clock t) _);
  stopped = λ c past i h up K. quiet_present c past i (record (c.hosts i) { down = Some at_rest; armed = unarmed }) (server_falls c i (lines.Crash (Server i) ∷ []) at_rest) h refl refl (no_fall at_rest _);
  stop_set = λ c past i calls pick armed h up K. quiet_present c past i (record (c.hosts i) { armed = armed }) (server_set c i (lines.Stop (Server i) calls pick) armed) h refl refl (h.1 i);
  fail_set = λ c past i call armed h up K. quiet_present c past i (record (c.hosts i) { armed = armed }) (server_set c i (lines.Fail (Server i) call) armed) h refl refl (h.1 i);
  timed = λ c past i n b armed h up at K. (let st : Step ServerState = back_timeout_row (Server i) (c.hosts i).state c.clock n b in
      up_present c past i None armed st h (timed_state i (c.hosts i).state c.clock n b).1 (times_step (IsNow i (onto (lines_of past) st.lines) (c.hosts i).state.lasting.boot) (OfBoot (c.hosts i).state.lasting.boot) i (c.hosts i).state c.clock n b (sound_now c past i st.lines h.0 (h.1 i up)) (held_now c past i st.lines (h.1 i up))) K);
  woken = λ c past i armed h up K. (let st : Step ServerState = wake_row (Server i) (c.hosts i).state c.clock in
      up_present c past i None armed st h (woken_state i (c.hosts i).state c.clock).1 (wakes_step (IsNow i (onto (lines_of past) st.lines) (c.hosts i).state.lasting.boot) (OfBoot (c.hosts i).state.lasting.boot) i (c.hosts i).state c.clock (sound_now c past i st.lines h.0 (h.1 i up)) (held_now c past i st.lines (h.1 i up))) K);
  started = λ c past i after fall h down K. started_present c past i (begun_by_disk (Server i) (c.hosts i).state after fall) h K;
  early = λ c past i fall h down K. quiet_present c past i (record (c.hosts i) { down = Some fall; armed = unarmed }) (server_falls c i (lines.Fault (Server i) ∷ []) fall) h refl refl (no_fall fall _);
  midway = λ c past i after fall h down K. (let f : Begun ServerState = begun_by_disk (Server i) (c.hosts i).state after fall in quiet_present c past i (record { state = f.state; down = Some in_boot; armed = unarmed }) (server_stays c i f (lines.Fault (Server i)) in_boot) h refl refl (no_fall in_boot _));
  full = λ c past i after fall h down K. (let f : Begun ServerState = begun_by_disk (Server i) (c.hosts i).state after fall in quiet_present c past i (record { state = f.state; down = Some at_rest; armed = unarmed }) (server_stays c i f (lines.Full (Server i)) at_rest) h refl refl (no_fall at_rest _));
}

current_kept : IsKept KnownCurrent
current_kept c past x so h = let K : Behind KnownSits c past (moved c x) = known_sits_kept c past x so h.0 in (K, (each_moved KnownCurrent PresentStep present_moves c past x so h K).current)

current_first : (s : Script) → KnownCurrent (start s) (set_up_entry s ∷ [])
current_first s = ((known_first s, λ i. record { seats = λ n seat m e. absurd cc; kept = λ n seat m e. absurd cc }), λ i up. record { seats = λ n seat m e. absurd cc; held = tt })

-- ---- each message of a run

abbrev OfServers : List Entry → Entry → Type 0
OfServers past e = (i : ℕ) → e.actor ≡ actors.Node (Server i) → EachSent (IsOfNow i) (e ∷ past) e.sent

run_now : (s : Script) (h : List Entry) (end : Cell) → RunsTo h s end → EachEntry OfServers (set_up_entry s ∷ []) h
run_now s h end r = run_each KnownCurrent OfServers current_kept (λ c past x so k. (each_moved KnownCurrent PresentStep present_moves c past x so k (known_sits_kept c past x so k.0)).sent) r.inputs s (set_up_entry s ∷ []) h end (current_first s) r.leads

-- a server's reply to a client is of its boot, or to what it changed
abbrev pub IsOfBoot : List Entry → Message → Type 0
IsOfBoot past m = (i j : ℕ) → IsReply m → m.head.from ≡ Server i → m.head.to ≡ Client j → (server_boot m.head.from (lines_of past) ≡ Some m.head.boot) ⊎ HasChangeBy m.head.from (answered_key m.head) (lines_of past)

abbrev pub TrueNow : List Entry → Message → Type 0
TrueNow past m = IsOfBoot past m × TellsItsBoot past m

-- by the nodes that send them
in_boot_of : (n : Node) (boot : ℕ) (ls : List Line) → ((j : ℕ) → n ≡ Client j → epoch_after (Client j) ls ≡ boot) → ((i : ℕ) → n ≡ Server i → server_boot (Server i) ls ≡ Some boot) → IsInBoot n boot ls
in_boot_of (Client j) boot ls c w = c j refl
in_boot_of (Server i) boot ls c w = w i refl
in_boot_of (Admin i) boot ls c w = tt
in_boot_of Loc boot ls c w = tt

sent_present : (e : Entry) (past : List Entry) (ms : List Message) → EachSent IsOwn (e ∷ past) ms → ((j : ℕ) → e.actor ≡ actors.Node (Client j) → EachSent (TellsEpoch j) (e ∷ past) ms) → ((i : ℕ) → e.actor ≡ actors.Node (Server i) → EachSent (IsOfNow i) (e ∷ past) ms) → EachSent TrueNow (e ∷ past) ms
sent_present e past [] o c w = tt
sent_present e past (m ∷ ms) o c w = (
  (
    λ i j is from to. subst (λ (n : Node). (server_boot n (lines_of (e ∷ past)) ≡ Some m.head.boot) ⊎ HasChangeBy n (answered_key m.head) (lines_of (e ∷ past))) (sym from) ((w i (o.0.0 ∙ ap actors.Node from)).0.reply j is.1 to),
    λ is. in_boot_of m.head.from m.head.boot (lines_of (e ∷ past)) (λ j from. (c j (o.0.0 ∙ ap actors.Node from)).0 is) (λ i from. (w i (o.0.0 ∙ ap actors.Node from)).0.notice is),
  ),
  sent_present e past ms o.1 (λ j is. (c j is).1) (λ i is. (w i is).1),
)

all_present : (past es : List Entry) → EachEntry (λ before e. EachSent IsOwn (e ∷ before) e.sent) past es → EachEntry OfClients past es → EachEntry OfServers past es → EachEntry (λ before e. EachSent TrueNow (e ∷ before) e.sent) past es
all_present past [] o c w = tt
all_present past (e ∷ es) o c w = (sent_present e past e.sent o.0 c.0 w.0, all_present (e ∷ past) es o.1 c.1 w.1)

pub run_present : (s : Script) (h : List Entry) (end : Cell) → RunsTo h s end → EachEntry (λ past e. EachSent TrueNow (e ∷ past) e.sent) (set_up_entry s ∷ []) h
run_present s h end r = all_present (set_up_entry s ∷ []) h (run_own s h end r) (run_noticed s h end r) (run_now s h end r)

-- A reply that carries the boot in which its server is, is to no call above its caller's seat there, be the server up or down, however many
-- servers a cell has.
use Rattle.law_legal.proofs.ActCallsInRuns.{sought_acts_in}
use Rattle.law_legal.proofs.DatabaseKeeps.{loc_own, no_server_loc}
use Rattle.spec_history.specs.declared.scripts.Script.{Script}
use Rattle.law_legal.proofs.ActSteps.{begins_acts, given_acts, waits_acts, missed_acts}
use Rattle.law_legal.proofs.BaseLaws.{Above, Each, IfReply, OfClient, OfReply, above_up, at_put, at_seat, below_up_to, each_map, each_more}
use Rattle.law_legal.proofs.ServerRefusesForGood.{IsSentBy}
use Rattle.law_legal.proofs.ClientGifts.{Given, given_first, given_kept}
use Rattle.law_legal.proofs.ServerHears.{HearsIn, IsRan, ran_later}
use Rattle.law_legal.proofs.ServerKeepsKeys.{IsDue}
use Rattle.law_legal.proofs.CallKeysOnce.{IsKnown, any_told, by_key}
use Rattle.law_legal.proofs.RunsKnown.{cut_due}
use Rattle.law_legal.proofs.RunWalk.{EachMove, IsKept, each_moved}
use Rattle.law_legal.proofs.RunBootsRise.{ran_boot}
use Rattle.law_legal.proofs.ServerPosts.{rises_posts, served_posts, times_posts, wakes_posts}
use Rattle.law_legal.proofs.BaseWords.{MayRun}
use Rattle.law_legal.specs.Ideal.{set_up_entry}
use Rattle.law_legal.specs.Past.{IsCallUnder, IsUnheard, Ran, answered_key, given_message, sent_of}
use Rattle.spec_model.specs.Calls.{call_seat}
use Rattle.afs_num.specs.declared.messages.Carried.{Carried}
use Rattle.afs_num.specs.declared.messages.Carried.TheVariants as carried
use Rattle.afs_num.specs.declared.messages.Message.{Message}
use Rattle.afs_num.specs.declared.messages.Received.TheVariants.{Whole}
use Rattle.afs_num.specs.declared.types.Head.{Head}
use Rattle.afs_num.specs.declared.types.Key.{Key}
use Rattle.afs_num.specs.declared.types.Node.{Node}
use Rattle.afs_num.specs.declared.types.Node.TheVariants.{Admin, Client, Loc, Server}
use Rattle.law_legal.proofs.RunSteps.{server_falls, server_moves, server_set, server_stays, loc_becomes}
use Rattle.spec_rows.specs.Runs.{Blow, Armed, Cell, Entry, Fall, Moved, at_rest, begun_by_disk, client_moves, in_boot, in_step, moved, start, ticked, unarmed, voided, ServerHost}
use Rattle.law_legal.proofs.RunSteps.{loc_becomes}
use Rattle.spec_rows.specs.Callbacks.{put}
use Rattle.spec_history.specs.declared.lines.Line.{Line}
use Rattle.spec_rows.specs.Going.{ClientState}
use Rattle.spec_rows.specs.Steps.{Step}
use Rattle.spec_rows.specs.ServerRow.{Decision, begun_after, change_reply_to, decides, saves, seat_for}
use Rattle.spec_rows.specs.States.{Seat, ServerState}
use Rattle.std.proofs.Math.Nat.{le_trans}
use Rattle.std.proofs.Common.{suc, append-nil, ◌≡◌, ℕ, ◌≤◌, ◌+◌, ◌⊎◌, inl, inr, Bool, true, false, List, [], ◌∷◌, ◌++◌, Option, Some, None, refl, sym, ap, subst, ◌∙◌, arith}
use Rattle.law_legal.proofs.RunSetUp.{last_each}

-- ---- who ran a call was given it

heard_in : (newer : List Entry) (at : Entry) (older : List Entry) (s : Node) (k : Key) (boot : ℕ) → IsUnheard s k boot (newer ++ (at ∷ older)) → IsCallUnder s k boot (given_message at.lines (sent_of older)) → ⊥
heard_in [] at older s k boot h x = h.0 x
heard_in (e ∷ newer) at older s k boot h x = heard_in newer at older s k boot h.1 x

pub ran_heard : (reply : Head) (past : List Entry) → Ran reply past → IsUnheard reply.from (answered_key reply) reply.boot past → ⊥
ran_heard reply past r h = heard_in r.newer r.at r.older reply.from (answered_key reply) reply.boot (subst (IsUnheard reply.from (answered_key reply) reply.boot) r.split h) (subst (IsCallUnder reply.from (answered_key reply) reply.boot) (sym r.given) ((r.is_call, r.callee), (r.key, r.boot)))

-- ---- replies to clients

node_with : (n : Node) (A B C : Type 0) → ((j : ℕ) → n ≡ Client j → A → B → C) → OfClient n A → OfClient n B → OfClient n C
node_with (Client j) A B C w a b = w j refl a b
node_with (Server i) A B C w a b = tt
node_with (Admin i) A B C w a b = tt
node_with Loc A B C w a b = tt

carried_with : (x : Carried) (A B C : Type 0) → (A → B → C) → OfReply A x → OfReply B x → OfReply C x
carried_with (carried.Refusal code) A B C w a b = w a b
carried_with (carried.Reply reply) A B C w a b = w a b
carried_with (carried.Call user call) A B C w a b = tt
carried_with carried.Notice A B C w a b = tt

reply_with : (P Q R : Message → Type 0) → ((m : Message) (j : ℕ) → m.head.to ≡ Client j → P m → Q m → R m) → (m : Message) → IfReply P m → IfReply Q m → IfReply R m
reply_with P Q R w m = carried_with m.carried (OfClient m.head.to (P m)) (OfClient m.head.to (Q m)) (OfClient m.head.to (R m)) (node_with m.head.to (P m) (Q m) (R m) (w m))

replies_with : (P Q R : Message → Type 0) → ((m : Message) (j : ℕ) → m.head.to ≡ Client j → P m → Q m → R m) → (ms : List Message) → Each (IfReply P) ms → Each (IfReply Q) ms → Each (IfReply R) ms
replies_with P Q R w [] h k = tt
replies_with P Q R w (m ∷ ms) h k = (reply_with P Q R w m h.0 k.0, replies_with P Q R w ms h.1 k.1)

node_plain : (n : Node) (A : Type 0) → A → OfClient n A
node_plain (Client j) A a = a
node_plain (Server i) A a = tt
node_plain (Admin i) A a = tt
node_plain Loc A a = tt

carried_plain : (x : Carried) (A : Type 0) → A → OfReply A x
carried_plain (carried.Refusal code) A a = a
carried_plain (carried.Reply reply) A a = a
carried_plain (carried.Call user call) A a = tt
carried_plain carried.Notice A a = tt

plain_reply : (Q : Message → Type 0) (m : Message) → Q m → IfReply Q m
plain_reply Q m q = carried_plain m.carried (OfClient m.head.to (Q m)) (node_plain m.head.to (Q m) q)

-- ---- what holds after every entry

-- where the server is in the boot that a reply carries, it is to no call above the seat of whom it is to
abbrev pub HasHeard : ServerState → Message → Type 0
HasHeard x r = r.head.boot ≡ x.lasting.boot → Above (call_seat r.head.to x.seats) r.head.epoch r.head.number → ⊥

abbrev pub IsHeardBy : (ℕ → ServerHost) → Message → Type 0
IsHeardBy hosts r = (i : ℕ) → r.head.from ≡ Server i → HasHeard (hosts i).state r

abbrev pub HeardIn : Cell → List Entry → Type 0
HeardIn c past = Each (IfReply (IsHeardBy c.hosts)) c.sent

-- its server is in no boot below it
pub boot_known : (c : Cell) (past : List Entry) (i : ℕ) (r : Message) → HearsIn c past → Ran r.head past → r.head.from ≡ Server i → r.head.boot ≤ (c.hosts i).state.lasting.boot
boot_known c past i r H ran from = le_trans (ran_boot i r.head past from H.boots.risen ran) (H.boots.last i)

-- of a server that is up
up_heard : (c : Cell) (past : List Entry) (i j : ℕ) (r : Message) → HearsIn c past → (c.hosts i).down ≡ None → Ran r.head past → r.head.from ≡ Server i → r.head.to ≡ Client j → HasHeard (c.hosts i).state r
up_heard c past i j r H up ran from to boot above =
    let k : Key = answered_key r.head in
    ran_heard r.head past ran
    (subst (λ (q : Node). IsUnheard q k r.head.boot past) (sym from)
    (H.unheard i j k r.head.boot to (subst (λ (d : Option Fall). MayRun d (c.hosts i).state.lasting.boot (call_seat r.head.to (c.hosts i).state.seats) k r.head.boot) (sym up) (inr (boot, above)))))

-- one that was heard is heard still
abbrev IsLater : ServerState → ServerState → Type 0
IsLater x y = (r : Message) → r.head.boot ≤ x.lasting.boot → HasHeard x r → HasHeard y r

same_later : (x : ServerState) → IsLater x x
same_later x r le h = h

saved_later : (x : ServerState) (clock : ℕ) (me : Node) (d : Decision) → IsDue any_told any_told me x d → IsLater x (begun_after me x clock d).state
saved_later x clock me (saves head c) due = λ r le h boot above.
    let s : Seat = seat_for head (change_reply_to x.lasting.boot head clock c) in
    h boot (at_seat s r.head.to x.seats (λ (o : Option Seat). Above o r.head.epoch r.head.number → Above (call_seat r.head.to x.seats) r.head.epoch r.head.number)
    (λ own b. subst (λ (n : Node). Above (call_seat n x.seats) r.head.epoch r.head.number) own (above_up (call_seat head.from x.seats) head.epoch head.number r.head.epoch r.head.number due.1.1 (below_up_to head.epoch head.number r.head.epoch r.head.number b))) (λ other b. b) above)
saved_later x clock me d due = same_later x

-- a new boot is above that of each reply
risen_later : (x y : ServerState) → y.lasting.boot ≡ x.lasting.boot + 1 → IsLater x y
risen_later x y e r le h boot above =
    let below : r.head.boot ≤ x.lasting.boot = le in
    let same : r.head.boot ≡ y.lasting.boot = boot in
    absurd (omega (arith, e))

found_later : (me : Node) (x : ServerState) (after : Bool) (fall : Fall) → ((m : Message) (clock : ℕ) (hit : Blow) → fall ≡ in_step m clock hit → IsDue any_told any_told me x (decides me x clock (Whole m))) → IsLater x (begun_by_disk me x after fall).state
found_later me x after at_rest w = same_later x
found_later me x false (in_step m clock hit) w = same_later x
found_later me x true (in_step m clock hit) w = saved_later x clock me (decides me x clock (Whole m)) (w m clock hit refl)
found_later me x false in_boot w = same_later x
found_later me x true in_boot w = risen_later x (begun_by_disk me x true in_boot).state refl

-- ---- a step

-- the host is up behind it, or heard what it heard
abbrev IsNext : ServerHost → ServerHost → Type 0
IsNext x y = (y.down ≡ None) ⊎ IsLater x.state y.state

-- each server that sends is up behind it
abbrev AreUp : (ℕ → ServerHost) → Message → Type 0
AreUp hosts m = (i : ℕ) → m.head.from ≡ Server i → (hosts i).down ≡ None

step_heard : (c d : Cell) (past : List Entry) (e : Entry) (ms : List Message) → HearsIn c past → HeardIn c past → d.sent ≡ c.sent ++ ms → ((i : ℕ) → IsNext (c.hosts i) (d.hosts i)) → Each (AreUp d.hosts) ms → HearsIn d (e ∷ past) → HeardIn d (e ∷ past)
step_heard c d past e ms H h is k new N =
    let old : Each (IfReply (IsHeardBy d.hosts)) c.sent = replies_with (λ r. IsRan past r.head) (IsHeardBy c.hosts) (IsHeardBy d.hosts)
    (λ m j to ran heard i from. elim (k i) [
      | inl up ↦ up_heard d (e ∷ past) i j m N up (ran_later e past m.head (ran i from)) from to
      | inr later ↦
          later m (boot_known c past i m H (ran i from) from) (heard i from)
    ]) c.sent H.answers h in
    let all : Each (IfReply (λ r. IsRan (e ∷ past) r.head)) (c.sent ++ ms) = subst (Each (IfReply (λ r. IsRan (e ∷ past) r.head))) is N.answers in
    let now : Each (IfReply (IsHeardBy d.hosts)) ms = replies_with (λ r. IsRan (e ∷ past) r.head) (AreUp d.hosts) (IsHeardBy d.hosts) (λ m j to ran up i from. up_heard d (e ∷ past) i j m N (up i from) (ran i from) from to) ms
    (last_each (IfReply (λ r. IsRan (e ∷ past) r.head)) c.sent ms all) (each_map (AreUp d.hosts) (IfReply (AreUp d.hosts)) (plain_reply (AreUp d.hosts)) ms new) in
    subst (Each (IfReply (IsHeardBy d.hosts))) (sym is) (each_more (IfReply (IsHeardBy d.hosts)) c.sent ms old now)

-- ---- every step

-- what holds behind the step, where the walk of what servers heard goes on
abbrev Then : Script → Cell → List Entry → Moved → Type 0
Then s c past m = HearsIn m.cell (m.entry ∷ past) → HeardIn m.cell (m.entry ∷ past)

abbrev pub GivenHeard : Script → Cell → List Entry → Type 0
GivenHeard s c past = Given s c past × HeardIn c past

hears_of : (s : Script) (c : Cell) (past : List Entry) → Given s c past → HearsIn c past
hears_of s c past h = h.0.0.0.0.hears

-- no host moves
still_heard : (s : Script) (c d : Cell) (past : List Entry) (e : Entry) (ms : List Message) → GivenHeard s c past → d.hosts ≡ c.hosts → d.sent ≡ c.sent ++ ms → Each (AreUp d.hosts) ms → HearsIn d (e ∷ past) → HeardIn d (e ∷ past)
still_heard s c d past e ms h same is new = step_heard c d past e ms (hears_of s c past h.0) h.1 is (λ i. inr (subst (λ (hs : ℕ → ServerHost). IsLater (c.hosts i).state (hs i).state) (sym same) (same_later (c.hosts i).state))) new

none_sent : (c : Cell) → c.sent ≡ c.sent ++ []
none_sent c = sym (append-nil c.sent)

of_client_not : (n : ℕ) (hosts : ℕ → ServerHost) (m : Message) → IsSentBy (Client n) m → AreUp hosts m
of_client_not n hosts m by i from = let no_ : Client n ≡ Server i = sym by.from ∙ from in absurd cc

client_heard : (s : Script) (c : Cell) (past : List Entry) (n : ℕ) (st : Step ClientState) → GivenHeard s c past → Each (IsSentBy (Client n)) st.sent → Then s c past (client_moves c n st)
client_heard s c past n st h by = still_heard s c (client_moves c n st).cell past (client_moves c n st).entry st.sent h refl refl (each_map (IsSentBy (Client n)) (AreUp c.hosts) (of_client_not n c.hosts) st.sent by)

-- one host moves, and sends what it sends
server_number : (i k : ℕ) → Server i ≡ Server k → i ≡ k
server_number i k e = cc

of_server_up : (c : Cell) (i : ℕ) (x : ServerHost) (m : Message) → x.down ≡ None → IsSentBy (Server i) m → AreUp (put i x c.hosts) m
of_server_up c i x m up by k from = at_put i k (λ (y : ServerHost). y.down ≡ None) x c.hosts (λ same. up) (λ other. absurd (other (server_number i k (sym by.from ∙ from))))

host_heard : (s : Script) (c d : Cell) (past : List Entry) (i : ℕ) (x : ServerHost) (e : Entry) (ms : List Message) → GivenHeard s c past → d.hosts ≡ put i x c.hosts → d.sent ≡ c.sent ++ ms → IsNext (c.hosts i) x → Each (AreUp (put i x c.hosts)) ms → HearsIn d (e ∷ past) → HeardIn d (e ∷ past)
host_heard s c d past i x e ms h hosts is next new =
    step_heard c d past e ms (hears_of s c past h.0) h.1 is
    (λ k. subst (λ (hs : ℕ → ServerHost). IsNext (c.hosts k) (hs k)) (sym hosts) (at_put i k (λ (y : ServerHost). IsNext (c.hosts k) y) x c.hosts (λ same. subst (λ (m : ℕ). IsNext (c.hosts m) x) same next) (λ other. inr (same_later (c.hosts k).state))))
    (subst (λ (hs : ℕ → ServerHost). Each (AreUp hs) ms) (sym hosts) new)

serves_heard : (s : Script) (c : Cell) (past : List Entry) (i : ℕ) (armed : Armed) (st : Step ServerState) → GivenHeard s c past → Each (IsSentBy (Server i)) st.sent → Then s c past (server_moves c i armed st)
serves_heard s c past i armed st h by =
    let x : ServerHost = record { state = st.state; down = None; armed = armed } in
    host_heard s c (server_moves c i armed st).cell past i x (server_moves c i armed st).entry st.sent h refl refl (inl refl) (each_map (IsSentBy (Server i)) (AreUp (put i x c.hosts)) (λ m. of_server_up c i x m refl) st.sent by)

falls_heard : (s : Script) (c : Cell) (past : List Entry) (i : ℕ) (ls : List Line) (fall : Fall) → GivenHeard s c past → Then s c past (server_falls c i ls fall)
falls_heard s c past i ls fall h = host_heard s c (server_falls c i ls fall).cell past i _ (server_falls c i ls fall).entry [] h refl (none_sent c) (inr (same_later (c.hosts i).state)) tt

set_heard : (s : Script) (c : Cell) (past : List Entry) (i : ℕ) (l : Line) (armed : Armed) → GivenHeard s c past → Then s c past (server_set c i l armed)
set_heard s c past i l armed h = host_heard s c (server_set c i l armed).cell past i _ (server_set c i l armed).entry [] h refl (none_sent c) (inr (same_later (c.hosts i).state)) tt

stays_heard : (s : Script) (c : Cell) (past : List Entry) (i : ℕ) (after : Bool) (fall now : Fall) (l : Line) → GivenHeard s c past → (c.hosts i).down ≡ Some fall → Then s c past (server_stays c i (begun_by_disk (Server i) (c.hosts i).state after fall) l now)
stays_heard s c past i after fall now l h down =
    let m : Moved = server_stays c i (begun_by_disk (Server i) (c.hosts i).state after fall) l now in
    host_heard s c m.cell past i _ m.entry [] h refl (none_sent c) (inr (found_later (Server i) (c.hosts i).state after fall (λ x clock hit e. cut_due c past i x clock hit h.0.0.0.0.0 (down ∙ ap (λ (f : Fall). Some f) e)))) tt

heard_moves : (s : Script) → EachMove (GivenHeard s) (Then s)
heard_moves s = record {
  void = λ c past h. still_heard s c (voided c).cell past (voided c).entry [] h refl (none_sent c) tt;
  ticked = λ c past n h. still_heard s c (ticked c (suc n)).cell past (ticked c (suc n)).entry [] h refl (none_sent c) tt;
  begun = λ c past n act h r z. client_heard s c past n _ h (begins_acts n (c.clients n) c.clock act r z).from;
  told = λ c past n place m h at to un. client_heard s c past n _ h (given_acts (by_key (IsKnown h.0.0.0.0.0.keys.callees c.clients)) any_told n (c.clients n) c.clock place m (h.0.0.0.0.0.keys.replies n) (h.0.0.0.0.1.seats n)).from;
  sought = λ c past n place m k h at to z e. client_heard s c past n _ h (sought_acts_in s c past n place m k h.0.0.0.0.1 at z e).from;
  missed = λ c past n k h r z. client_heard s c past n _ h (missed_acts n (c.clients n) k r z).from;
  waited = λ c past n act h r. client_heard s c past n _ h (waits_acts n (c.clients n) act r).from;
  fallen = λ c past n h. client_heard s c past n _ h tt;
  risen = λ c past n h. client_heard s c past n _ h tt;
  loc = λ c past l ls ms h st. still_heard s c (loc_becomes c l ls ms).cell past (loc_becomes c l ls ms).entry ms h refl refl (each_map (IsSentBy Loc) (AreUp c.hosts) (λ m x i from. absurd (no_server_loc m.head i x.from from)) ms (loc_own c l ls ms st));
  served = λ c past i place m armed h up at to. serves_heard s c past i armed _ h (served_posts (Server i) (c.hosts i).state c.clock place m (h.0.0.0.1.0 i).seats (h.0.0.0.1.1 i)).0;
  cut = λ c past i place m t h up at to. falls_heard s c past i _ (in_step m c.clock t) h;
  stopped = λ c past i h up. falls_heard s c past i _ at_rest h;
  stop_set = λ c past i calls pick armed h up. set_heard s c past i _ armed h;
  fail_set = λ c past i call armed h up. set_heard s c past i _ armed h;
  timed = λ c past i n b armed h up at. serves_heard s c past i armed _ h (times_posts (Server i) (c.hosts i).state c.clock n b (h.0.0.0.1.1 i)).0;
  woken = λ c past i armed h up. serves_heard s c past i armed _ h (wakes_posts (Server i) (c.hosts i).state c.clock (h.0.0.0.1.1 i)).0;
  started = λ c past i after fall h down. serves_heard s c past i unarmed _ h (rises_posts (Server i) c.clock c.count (begun_by_disk (Server i) (c.hosts i).state after fall)).0;
  early = λ c past i fall h down. falls_heard s c past i _ fall h;
  midway = λ c past i after fall h down. stays_heard s c past i after fall in_boot _ h down;
  full = λ c past i after fall h down. stays_heard s c past i after fall at_rest _ h down;
}

pub heard_kept : (s : Script) → IsKept (GivenHeard s)
heard_kept s c past x so h =
    let k : Given s (moved c x).cell ((moved c x).entry ∷ past) = given_kept s c past x so h.0 in
    (k, each_moved (GivenHeard s) (Then s) (heard_moves s) c past x so h (hears_of s (moved c x).cell ((moved c x).entry ∷ past) k))

pub heard_first : (s : Script) → GivenHeard s (start s) (set_up_entry s ∷ [])
heard_first s = (given_first s, tt)

-- What servers hear and answer, however many a cell has: what a server would run it never heard in that boot, and each of its
-- replies to a client is that of the entry which ran the call.
use Rattle.law_legal.proofs.ServerBoots.{Boots}
use Rattle.law_legal.proofs.KeptPasses.{to_come}
use Rattle.spec_history.specs.declared.lines.Line.{Line}
use Rattle.spec_history.specs.declared.lines.Line.TheVariants as lines
use Rattle.law_legal.proofs.BaseLaws.{Above, ByClient, Each, IfCall, IfReply, OfCall, OfClient, OfNotice, above_up, at_put, at_seat, below_not, below_up_to, by_client, each_map, each_more, if_call, if_reply, not_above, of_notice, own_seat, runs_admitted, same_node-refl, up_to_same, not_loc}
use Rattle.law_legal.proofs.ClientCalls.{AreReplies, IsAnswer, IsCallOf, answer_over, placed, uncalled_any}
use Rattle.law_legal.proofs.BaseWords.{up_boot, MayRun}
use Rattle.law_legal.proofs.ServerKeepsKeys.{HasHead, HostStep, IsCutBy, IsDue, IsSound, Memory, does_given, memory_of, served_head}
use Rattle.law_legal.specs.Past.{lines_of, server_boot, IsLatest, IsFirstOfItsBoot, IsCall, IsCallUnder, IsUnheard, Ran, called_key, given_message, sent_of}
use Rattle.spec_model.specs.Calls as pairs
use Rattle.spec_model.specs.Calls.{Admitted, admitted, call_seat, call_seated, paired}
use Rattle.afs_num.specs.Nodes.{same_node}
use Rattle.afs_num.specs.declared.calls.FsCall.{FsCall}
use Rattle.afs_num.specs.declared.histories.Actor.TheVariants as actors
use Rattle.afs_num.specs.declared.messages.Call.TheVariants as ask
use Rattle.afs_num.specs.declared.messages.Carried.{Carried}
use Rattle.afs_num.specs.declared.messages.Carried.TheVariants as carried
use Rattle.afs_num.specs.declared.messages.Message.{Message}
use Rattle.afs_num.specs.declared.messages.Received.TheVariants.{Whole}
use Rattle.afs_num.specs.declared.types.Head.{Head}
use Rattle.afs_num.specs.declared.types.Key.{Key}
use Rattle.afs_num.specs.declared.types.Node.{Node}
use Rattle.afs_num.specs.declared.types.Node.TheVariants.{Admin, Client, Loc, Server}
use Rattle.spec_rows.specs.Callbacks.{expired, put, replies_of, turned_in}
use Rattle.spec_rows.specs.ClientRow.{boot_of}
use Rattle.spec_rows.specs.Going.{ClientState}
use Rattle.law_legal.proofs.RunSteps.{server_moves}
use Rattle.spec_rows.specs.Runs.{Armed, Cell, Entry, Fall, Moved, at_rest, begun_by_disk, in_boot, in_step, message_at, ServerHost}
use Rattle.spec_rows.specs.ServerRow.{Decision, admits, begun_after, decides, does, drops, hears, is_client, not_served, refuses, repeats, reply_head, saves, seat_for, serves_call, shows, tells_boot, whole}
use Rattle.spec_rows.specs.ServerSteps.{back_timeout_row, server_row, start_row, wake_row}
use Rattle.spec_rows.specs.States.{BackCall, Seat, ServerState}
use Rattle.spec_rows.specs.Steps.{Step, Begun}
use Rattle.std.proofs.Common.{◌≡◌, ℕ, ◌+◌, ◌≤◌, ◌<◌, inl, inr, arith, eq-eqb, Bool, true, false, cond, List, [], ◌∷◌, ◌++◌, Option, Some, None, refl, sym, ap, subst, ◌∙◌}
use Rattle.std.specs.Prelude.{⊤}
use Rattle.law_legal.proofs.CallKeysOnce.{StandsIn, admitted_latest, server_number}

-- ---- boot numbers that were told, and replies that were made

pub no_server : (n i : ℕ) → Client n ≡ Server i → ⊥
no_server n i e = absurd cc

-- that server has begun this boot
abbrev pub IsHad : (ℕ → ServerHost) → Node → ℕ → Type 0
IsHad hosts q b = (i : ℕ) → q ≡ Server i → b ≤ (hosts i).state.lasting.boot

abbrev pub IsNoted : (ℕ → ServerHost) → Head → Type 0
IsNoted hosts h = IsHad hosts h.from h.boot

-- a server's reply is that of the entry which ran the call
abbrev pub IsRan : List Entry → Head → Type 0
IsRan past h = (i : ℕ) → h.from ≡ Server i → Ran h past

had_over : (hosts : ℕ → ServerHost) (i : ℕ) (h : ServerHost) → (hosts i).state.lasting.boot ≤ h.state.lasting.boot → (q : Node) (b : ℕ) → IsHad hosts q b → IsHad (put i h hosts) q b
had_over hosts i h g q b w j e = at_put i j (λ (x : ServerHost). b ≤ x.state.lasting.boot) h hosts
    (λ same. let was : b ≤ (hosts i).state.lasting.boot = w i (e ∙ ap Server (sym same)) in let more : (hosts i).state.lasting.boot ≤ h.state.lasting.boot = g in omega arith) (λ other. w j e)

pub own_had : (hosts : ℕ → ServerHost) (i : ℕ) (h : ServerHost) (b : ℕ) → b ≤ h.state.lasting.boot → (q : Node) → q ≡ Server i → IsHad (put i h hosts) q b
own_had hosts i h b l q e j f = at_put i j (λ (x : ServerHost). b ≤ x.state.lasting.boot) h hosts (λ same. l) (λ other. absurd (other (server_number i j (sym e ∙ f))))

abbrev pub ran_later : (e : Entry) (past : List Entry) (h : Head) → Ran h past → Ran h (e ∷ past)
ran_later e past h r = record { newer = e ∷ r.newer; at = r.at; older = r.older; split = ap (λ (x : List Entry). e ∷ x) r.split; message = r.message; given = r.given; is_call = r.is_call; key = r.key; opcode = r.opcode; boot = r.boot; up = r.up; callee = r.callee; node = r.node; first = r.first; latest = r.latest }

pub ran_over : (e : Entry) (past : List Entry) (h : Head) → IsRan past h → IsRan (e ∷ past) h
ran_over e past h w i q = ran_later e past h (w i q)

-- the entry that is given the call
ran_here : (e : Entry) (past : List Entry) (m : Message) (i boot : ℕ) → e.actor ≡ actors.Node (Server i) → given_message e.lines (sent_of past) ≡ Some m → IsCall m.carried → m.head.to ≡ Server i → m.head.boot ≡ boot → IsFirstOfItsBoot (Server i) (called_key m.head) boot past → server_boot (Server i) (lines_of past) ≡ Some boot → IsLatest (Server i) (called_key m.head) (lines_of past)
    → Ran (reply_head boot m.head) (e ∷ past)
ran_here e past m i boot actor given is to own first up latest = record {
  newer = [];
  at = e;
  older = past;
  split = refl;
  message = m;
  given = given;
  is_call = is;
  key = refl;
  opcode = refl;
  boot = own;
  up = subst (λ (q : Node). server_boot q (lines_of past) ≡ Some boot) (sym to) up;
  callee = refl;
  node = actor ∙ ap actors.Node (sym to);
  first = subst (λ (q : Node). IsFirstOfItsBoot q (called_key m.head) boot past) (sym to) first;
  latest = subst (λ (q : Node). IsLatest q (called_key m.head) (lines_of past)) (sym to) latest;
}

-- ---- what is kept of replies

pub replies_to : (K M L O : Head → Type 0) → ((h : Head) → K h → M h) → ((h : Head) → L h → O h) → (seats : List Seat) → AreReplies K L seats → AreReplies M O seats
replies_to K M L O w u seats h n seat m e r = answer_over K M L O w u m (h n seat m e r)

pub sound_to : (K M L O : Head → Type 0) → ((h : Head) → K h → M h) → ((h : Head) → L h → O h) → (x : Memory) → IsSound K L x → IsSound M O x
sound_to K M L O w u x h = record { seats = replies_to K M L O w u x.seats h.seats; kept = replies_to K M L O w u x.kept h.kept; lower = h.lower }

pub cut_by : (K M : Head → Type 0) → ((h : Head) → K h → M h) → (boot : ℕ) (seats : List Seat) (fall : Fall) → IsCutBy K boot seats fall → IsCutBy M boot seats fall
cut_by K M w boot seats (in_step m clock hit) h = if_call (λ x user call. admitted boot seats x ≡ pairs.runs → K (reply_head boot x)) (λ x user call. admitted boot seats x ≡ pairs.runs → M (reply_head boot x)) (λ x user call f e. w (reply_head boot x) (f e)) m h
cut_by K M w boot seats at_rest h = tt
cut_by K M w boot seats in_boot h = tt

abbrev pub HasCutAt : (Head → Type 0) → ServerState → Option Fall → Type 0
HasCutAt K x None = ⊤
HasCutAt K x (Some fall) = IsCutBy K x.lasting.boot x.seats fall

pub cut_to : (K M : Head → Type 0) → ((h : Head) → K h → M h) → (x : ServerState) (d : Option Fall) → HasCutAt K x d → HasCutAt M x d
cut_to K M w x None h = tt
cut_to K M w x (Some fall) h = cut_by K M w x.lasting.boot x.seats fall h

-- ---- what holds after every entry

-- of clients' keys
abbrev pub AreUnheardAt : ℕ → Option Fall → List Seat → ℕ → List Entry → Type 0
AreUnheardAt i down seats boot past = (j : ℕ) (k : Key) (b : ℕ) → k.node ≡ Client j → MayRun down boot (call_seat k.node seats) k b → IsUnheard (Server i) k b past

pub record Hears (clients : ℕ → ClientState) (hosts : ℕ → ServerHost) (sent : List Message) (past : List Entry) : Type 0 where
  pub told : sent_of past ≡ sent
  pub boots : Boots hosts past
  pub calls : Each (IfCall (λ h user call. IsHad hosts h.to h.boot)) sent
  pub notices : Each (λ m. OfNotice (IsNoted hosts m.head) m.carried) sent
  pub answers : Each (IfReply (λ r. IsRan past r.head)) sent
  pub known : (j : ℕ) (q : Node) → IsHad hosts q (boot_of q (clients j).boots)
  pub replies : (j : ℕ) → AreReplies (IsRan past) (IsNoted hosts) (clients j).seats
  pub first : (i : ℕ) → 1 ≤ (hosts i).state.lasting.boot
  pub unheard : (i : ℕ) → AreUnheardAt i (hosts i).down (hosts i).state.seats (hosts i).state.lasting.boot past
  pub sound : (i : ℕ) → IsSound (IsRan past) (IsNoted hosts) (memory_of (hosts i).state)
  pub held : (i : ℕ) → Each (IsAnswer (IsRan past) (IsNoted hosts)) (replies_of (hosts i).state.backs.held)
  pub falls : (i : ℕ) → HasCutAt (IsRan past) (hosts i).state (hosts i).down

abbrev pub HearsIn : Cell → List Entry → Type 0
HearsIn c past = Hears c.clients c.hosts c.sent past

abbrev pub After : List Entry → Moved → Type 0
After past m = HearsIn m.cell (m.entry ∷ past)

-- ---- what is given

abbrev pub GivenTo : Node → Option Message → Type 0
GivenTo q None = ⊤
GivenTo q (Some m) = m.head.to ≡ q

pub not_under : (q s : Node) (k : Key) (b : ℕ) (o : Option Message) → GivenTo q o → (q ≡ s → ⊥) → IsCallUnder s k b o → ⊥
not_under q s k b None g ne x = x
not_under q s k b (Some m) g ne x = ne (sym g ∙ x.0.1)

pub none_under : (s : Node) (k : Key) (b : ℕ) (o : Option Message) → o ≡ None → IsCallUnder s k b o → ⊥
none_under s k b o e x = subst (λ (y : Option Message). IsCallUnder s k b y) e x

pub none_given : (q : Node) (o : Option Message) → o ≡ None → GivenTo q o
none_given q o e = subst (GivenTo q) (sym e) tt

pub unheard_on : (j : ℕ) (d : Option Fall) (seats : List Seat) (boot : ℕ) (e : Entry) (past : List Entry) → ((k : Key) (b : ℕ) → IsCallUnder (Server j) k b (given_message e.lines (sent_of past)) → ⊥) → AreUnheardAt j d seats boot past → AreUnheardAt j d seats boot (e ∷ past)
unheard_on j d seats boot e past dull h n k b is may = (dull k b, h n k b is may)

-- of boots to come
pub unheard_next : (i : ℕ) (d : Option Fall) (seats : List Seat) (boot : ℕ) (past : List Entry) → AreUnheardAt i d seats boot past → (j : ℕ) (k : Key) (b : ℕ) → k.node ≡ Client j → boot < b → IsUnheard (Server i) k b past
unheard_next i None seats boot past h j k b is l = h j k b is (inl l)
unheard_next i (Some fall) seats boot past h j k b is l = h j k b is l

pub none_more : (ms : List Message) → (ms ++ []) ≡ ms
none_more [] = refl
none_more (m ∷ ms) = ap (λ (x : List Message). m ∷ x) (none_more ms)

-- ---- a step of a server

pub host_hears : (clients : ℕ → ClientState) (hosts : ℕ → ServerHost) (sent more : List Message) (past : List Entry) (e : Entry) (i : ℕ) (h : ServerHost) → Hears clients hosts sent past → (hosts i).state.lasting.boot ≤ h.state.lasting.boot → sent_of (e ∷ past) ≡ more
    → ((P : Message → Type 0) → Each P sent → Each P e.sent → Each P more) → Each (IsAnswer (IsRan (e ∷ past)) (IsNoted (put i h hosts))) e.sent → IsSound (IsRan (e ∷ past)) (IsNoted (put i h hosts)) (memory_of h.state)
    → Each (IsAnswer (IsRan (e ∷ past)) (IsNoted (put i h hosts))) (replies_of h.state.backs.held) → HasCutAt (IsRan (e ∷ past)) h.state h.down → GivenTo (Server i) (given_message e.lines (sent_of past)) → AreUnheardAt i h.down h.state.seats h.state.lasting.boot (e ∷ past)
    → Boots (put i h hosts) (e ∷ past) → Hears clients (put i h hosts) more (e ∷ past)
host_hears clients hosts sent more past e i h H grows told over new sound held cut given heard boots =
    let then : ℕ → ServerHost = put i h hosts in
    let w : (x : Head) → IsRan past x → IsRan (e ∷ past) x = ran_over e past in
    let u : (x : Head) → IsNoted hosts x → IsNoted then x = λ x. had_over hosts i h grows x.from x.boot in
    record {
      told = told;
      boots = boots;
      calls = over (IfCall (λ x user call. IsHad then x.to x.boot))
          (each_map _ _ (if_call (λ x user call. IsHad hosts x.to x.boot) (λ x user call. IsHad then x.to x.boot) (λ x user call. had_over hosts i h grows x.to x.boot)) sent H.calls)
          (each_map (IsAnswer (IsRan (e ∷ past)) (IsNoted then)) _ (λ m a. uncalled_any (λ x user call. IsHad then x.to x.boot) m a.0) e.sent new);
      notices = over (λ m. OfNotice (IsNoted then m.head) m.carried)
          (each_map (λ m. OfNotice (IsNoted hosts m.head) m.carried) (λ m. OfNotice (IsNoted then m.head) m.carried) (λ m. of_notice (IsNoted hosts m.head) (IsNoted then m.head) (u m.head) m.carried) sent H.notices)
          (each_map (IsAnswer (IsRan (e ∷ past)) (IsNoted then)) (λ m. OfNotice (IsNoted then m.head) m.carried) (λ m a. a.1.1) e.sent new);
      answers = over (IfReply (λ r. IsRan (e ∷ past) r.head))
          (each_map _ _ (if_reply (λ r. IsRan past r.head) (λ r. IsRan (e ∷ past) r.head) (λ r. w r.head)) sent H.answers)
          (each_map (IsAnswer (IsRan (e ∷ past)) (IsNoted then)) (IfReply (λ r. IsRan (e ∷ past) r.head)) (λ m a. a.1.0) e.sent new);
      known = λ j q. had_over hosts i h grows q (boot_of q (clients j).boots) (H.known j q);
      replies = λ j. replies_to (IsRan past) (IsRan (e ∷ past)) (IsNoted hosts) (IsNoted then) w u (clients j).seats (H.replies j);
      first = λ j. at_put i j (λ (x : ServerHost). 1 ≤ x.state.lasting.boot) h hosts (λ same. let was : 1 ≤ (hosts i).state.lasting.boot = H.first i in let g : (hosts i).state.lasting.boot ≤ h.state.lasting.boot = grows in omega arith) (λ other. H.first j);
      unheard = λ j. at_put i j (λ (x : ServerHost). AreUnheardAt j x.down x.state.seats x.state.lasting.boot (e ∷ past)) h hosts
          (λ same. subst (λ (q : ℕ). AreUnheardAt q h.down h.state.seats h.state.lasting.boot (e ∷ past)) same heard)
          (λ other. unheard_on j (hosts j).down (hosts j).state.seats (hosts j).state.lasting.boot e past (λ k b. not_under (Server i) (Server j) k b (given_message e.lines (sent_of past)) given (λ z. other (server_number i j z))) (H.unheard j));
      sound = λ j. at_put i j (λ (x : ServerHost). IsSound (IsRan (e ∷ past)) (IsNoted then) (memory_of x.state)) h hosts (λ same. sound)
          (λ other. sound_to (IsRan past) (IsRan (e ∷ past)) (IsNoted hosts) (IsNoted then) w u (memory_of (hosts j).state) (H.sound j));
      held = λ j. at_put i j (λ (x : ServerHost). Each (IsAnswer (IsRan (e ∷ past)) (IsNoted then)) (replies_of x.state.backs.held)) h hosts (λ same. held)
          (λ other. each_map _ _ (answer_over (IsRan past) (IsRan (e ∷ past)) (IsNoted hosts) (IsNoted then) w u) (replies_of (hosts j).state.backs.held) (H.held j));
      falls = λ j. at_put i j (λ (x : ServerHost). HasCutAt (IsRan (e ∷ past)) x.state x.down) h hosts (λ same. cut) (λ other. cut_to (IsRan past) (IsRan (e ∷ past)) w (hosts j).state (hosts j).down (H.falls j));
    }

-- what a server keeps, by what is told after the step
pub sound_on : (c : Cell) (past : List Entry) (e : Entry) (i : ℕ) (h : ServerHost) → HearsIn c past → (c.hosts i).state.lasting.boot ≤ h.state.lasting.boot → IsSound (IsRan (e ∷ past)) (IsNoted (put i h c.hosts)) (memory_of (c.hosts i).state)
sound_on c past e i h H grows = sound_to (IsRan past) (IsRan (e ∷ past)) (IsNoted c.hosts) (IsNoted (put i h c.hosts)) (ran_over e past) (λ x. had_over c.hosts i h grows x.from x.boot) (memory_of (c.hosts i).state) (H.sound i)

pub held_on : (c : Cell) (past : List Entry) (e : Entry) (i : ℕ) (h : ServerHost) → HearsIn c past → (c.hosts i).state.lasting.boot ≤ h.state.lasting.boot → Each (IsAnswer (IsRan (e ∷ past)) (IsNoted (put i h c.hosts))) (replies_of (c.hosts i).state.backs.held)
held_on c past e i h H grows = each_map _ _ (answer_over (IsRan past) (IsRan (e ∷ past)) (IsNoted c.hosts) (IsNoted (put i h c.hosts)) (ran_over e past) (λ x. had_over c.hosts i h grows x.from x.boot)) (replies_of (c.hosts i).state.backs.held) (H.held i)

abbrev pub of_server : ℕ → List Line → List Message → Entry
of_server i ls sent = record { actor = actors.Node (Server i); lines = ls; sent = sent; volumes = [] }

abbrev pub up_host : Armed → ServerState → ServerHost
up_host armed x = record { state = x; down = None; armed = armed }

-- one that is done
pub server_hears : (c : Cell) (past : List Entry) (i : ℕ) (D : Option ℕ) (armed : Armed) (s : Step ServerState) → HearsIn c past → (c.hosts i).state.lasting.boot ≤ s.state.lasting.boot
    → HostStep (IsRan (of_server i s.lines s.sent ∷ past)) (IsNoted (put i (up_host armed s.state) c.hosts)) D (Server i) (c.hosts i).state s → GivenTo (Server i) (placed D (sent_of past)) → AreUnheardAt i None s.state.seats s.state.lasting.boot (of_server i s.lines s.sent ∷ past)
    → Boots (put i (up_host armed s.state) c.hosts) (of_server i s.lines s.sent ∷ past) → After past (server_moves c i armed s)
server_hears c past i D armed s H grows h given heard boots =
    host_hears c.clients c.hosts c.sent (c.sent ++ s.sent) past (of_server i s.lines s.sent) i (up_host armed s.state) H grows (ap (λ (ms : List Message). ms ++ s.sent) H.told) (λ P. each_more P c.sent s.sent) h.sent h.hosts.sound h.held tt
    (subst (GivenTo (Server i)) (sym (h.given (sent_of past))) given) heard boots

-- one that leaves its state
pub falls_hears : (c : Cell) (past : List Entry) (i : ℕ) (d : Option Fall) (armed : Armed) (ls : List Line) → HearsIn c past → HasCutAt (IsRan (of_server i ls [] ∷ past)) (c.hosts i).state d → GivenTo (Server i) (given_message ls (sent_of past))
    → AreUnheardAt i d (c.hosts i).state.seats (c.hosts i).state.lasting.boot (of_server i ls [] ∷ past) → Boots (put i (record (c.hosts i) { down = d; armed = armed }) c.hosts) (of_server i ls [] ∷ past)
    → Hears c.clients (put i (record (c.hosts i) { down = d; armed = armed }) c.hosts) c.sent (of_server i ls [] ∷ past)
falls_hears c past i d armed ls H cut given heard boots =
    let h : ServerHost = record (c.hosts i) { down = d; armed = armed } in
    let same : (c.hosts i).state.lasting.boot ≤ (c.hosts i).state.lasting.boot = omega arith in
    host_hears c.clients c.hosts c.sent c.sent past (of_server i ls []) i h H same (none_more (sent_of past) ∙ H.told) (λ P a b. a) tt (sound_on c past (of_server i ls []) i h H same) (held_on c past (of_server i ls []) i h H same) cut given heard boots

-- ---- the seats after a step

does_boot : (me : Node) (x : ServerState) (clock place : ℕ) (d : Decision) (ls : List Line) → (does me x clock place d ls).state.lasting.boot ≡ x.lasting.boot
does_boot me x clock place drops ls = refl
does_boot me x clock place (tells_boot head) ls = refl
does_boot me x clock place (repeats reply) ls = refl
does_boot me x clock place (refuses head code) ls = refl
does_boot me x clock place (shows head r) ls = refl
does_boot me x clock place (saves head c) ls = refl

grow_seat : (x : List Seat) (s : Seat) (n : Node) (e k : ℕ) → Above (call_seat s.caller x) s.epoch s.number → Above (call_seat n (call_seated s x)) e k → Above (call_seat n x) e k
grow_seat x s n e k a = at_seat s n x (λ (o : Option Seat). Above o e k → Above (call_seat n x) e k)
    (λ own b. above_up (call_seat n x) s.epoch s.number e k (subst (λ (m : Node). Above (call_seat m x) s.epoch s.number) own a) (below_up_to s.epoch s.number e k b)) (λ other b. b)

-- what is above the seats after it was above those before
does_grows : (K L : Head → Type 0) (me : Node) (x : ServerState) (clock place : ℕ) (d : Decision) → IsDue K L me x d → (n : Node) (e k : ℕ) → Above (call_seat n (does me x clock place d []).state.seats) e k → Above (call_seat n x.seats) e k
does_grows K L me x clock place drops due n e k a = a
does_grows K L me x clock place (tells_boot head) due n e k a = a
does_grows K L me x clock place (repeats reply) due n e k a = a
does_grows K L me x clock place (refuses head code) due n e k a = grow_seat x.seats (seat_for head _) n e k due.1 a
does_grows K L me x clock place (shows head r) due n e k a = grow_seat x.seats (seat_for head _) n e k due.1 a
does_grows K L me x clock place (saves head c) due n e k a = grow_seat x.seats (seat_for head _) n e k due.1.1 a

-- a call that ran isn't above them
taken : (x : List Seat) (head h : Head) (r : Message) → h ≡ head → Above (call_seat head.from (call_seated (seat_for h r) x)) head.epoch head.number → ⊥
taken x head h r e a =
    let b : Above (call_seat h.from (call_seated (seat_for h r) x)) h.epoch h.number = subst (λ (y : Head). Above (call_seat y.from (call_seated (seat_for h r) x)) y.epoch y.number) (sym e) a in
    below_not h.epoch h.number h.epoch h.number (subst (λ (o : Option Seat). Above o h.epoch h.number) (own_seat (seat_for h r) x) b) (up_to_same h.epoch h.number h.epoch h.number refl refl)

does_taken : (me : Node) (x : ServerState) (clock place : ℕ) (head : Head) (d : Decision) → HasHead head d → Above (call_seat head.from (does me x clock place d []).state.seats) head.epoch head.number → ⊥
does_taken me x clock place head drops h a = h
does_taken me x clock place head (tells_boot other) h a = h
does_taken me x clock place head (repeats reply) h a = h
does_taken me x clock place head (refuses other code) h a = taken x.seats head other _ h a
does_taken me x clock place head (shows other r) h a = taken x.seats head other _ h a
does_taken me x clock place head (saves other c) h a = taken x.seats head other _ h a

runs_head : (t : Bool) (x : ServerState) (clock : ℕ) (head : Head) (user : List ℕ) (call : FsCall) → HasHead head (cond t (serves_call x clock head user call) (refuses head not_served))
runs_head true x clock head user call = served_head x clock head user call
runs_head false x clock head user call = refl

-- nor one that is not to run
not_admitted : (x : ServerState) (head : Head) (o : Admitted Message) → head.boot ≡ x.lasting.boot → admitted x.lasting.boot x.seats head ≡ o → (o ≡ pairs.runs → ⊥) → Above (call_seat head.from x.seats) head.epoch head.number → ⊥
not_admitted x head o own e ne = not_above head.epoch head.number (call_seat head.from x.seats)
    (λ r. ne (sym e ∙ (ap (λ (t : Bool). cond t (paired head.epoch head.number (call_seat head.from x.seats)) (pairs.wrong_boot x.lasting.boot)) (eq-eqb head.boot x.lasting.boot own) ∙ r)))

admits_taken : (me : Node) (x : ServerState) (clock place : ℕ) (head : Head) (user : List ℕ) (call : FsCall) (o : Admitted Message) → head.boot ≡ x.lasting.boot → admitted x.lasting.boot x.seats head ≡ o
    → Above (call_seat head.from (does me x clock place (admits x clock head (whole head (carried.Call user (ask.File call))) o) []).state.seats) head.epoch head.number → ⊥
admits_taken me x clock place head user call pairs.runs own e a = does_taken me x clock place head _ (runs_head (is_client head.from) x clock head user call) a
admits_taken me x clock place head user call (pairs.kept reply) own e a = not_admitted x head (pairs.kept reply) own e (λ z. absurd cc) a
admits_taken me x clock place head user call pairs.in_progress own e a = not_admitted x head pairs.in_progress own e (λ z. absurd cc) a
admits_taken me x clock place head user call pairs.older own e a = not_admitted x head pairs.older own e (λ z. absurd cc) a
admits_taken me x clock place head user call (pairs.wrong_boot boot) own e a = not_admitted x head (pairs.wrong_boot boot) own e (λ z. absurd cc) a

called_taken : (t : Bool) (me : Node) (x : ServerState) (clock place : ℕ) (head : Head) (user : List ℕ) (call : FsCall) → t ≡ true → head.boot ≡ x.lasting.boot
    → Above (call_seat head.from (does me x clock place (cond t (admits x clock head (whole head (carried.Call user (ask.File call))) (admitted x.lasting.boot x.seats head)) drops) []).state.seats) head.epoch head.number → ⊥
called_taken true me x clock place head user call e own a = admits_taken me x clock place head user call (admitted x.lasting.boot x.seats head) own refl a
called_taken false me x clock place head user call e own a = absurd cc

hears_taken : (P : Head → List ℕ → FsCall → Type 0) (me : Node) (x : ServerState) (clock place : ℕ) (head : Head) (c : Carried) → IsCall c → OfCall (ByClient P) head c → same_node me Loc ≡ false → head.to ≡ me → head.boot ≡ x.lasting.boot
    → Above (call_seat head.from (does me x clock place (hears me x clock head c) []).state.seats) head.epoch head.number → ⊥
hears_taken P me x clock place head (carried.Call user (ask.File call)) is w ne to own a = called_taken (same_node head.to me) me x clock place head user call (subst (λ (q : Node). same_node head.to q ≡ true) to (same_node-refl head.to)) own a
hears_taken P me x clock place head (carried.Call user (ask.Volume call)) is w ne to own a = absurd w
hears_taken P me x clock place head (carried.Call user (ask.Location call)) is w ne to own a = not_loc head me ⊥ to ne w.0
hears_taken P me x clock place head c is w ne to own a = absurd is

-- of a server that was given a message
pub served_given : (i : ℕ) (x : ServerState) (clock place : ℕ) (m : Message) (sent : List Message) → given_message (server_row (Server i) x clock place (Whole m)).lines sent ≡ message_at sent place
unfolding server_row
served_given i x clock place m sent = does_given (Server i) x clock place (decides (Server i) x clock (Whole m)) (turned_in (Server i) x clock (expired clock x.backs) (decides (Server i) x clock (Whole m)) (Whole m)).lines sent

pub served_boot : (i : ℕ) (x : ServerState) (clock place : ℕ) (m : Message) → (server_row (Server i) x clock place (Whole m)).state.lasting.boot ≡ x.lasting.boot
unfolding server_row
served_boot i x clock place m = does_boot (Server i) x clock place (decides (Server i) x clock (Whole m)) []

pub served_grows : (K L : Head → Type 0) (i : ℕ) (x : ServerState) (clock place : ℕ) (m : Message) → IsDue K L (Server i) x (decides (Server i) x clock (Whole m)) → (n : Node) (e k : ℕ) → Above (call_seat n (server_row (Server i) x clock place (Whole m)).state.seats) e k → Above (call_seat n x.seats) e k
unfolding server_row
served_grows K L i x clock place m due = does_grows K L (Server i) x clock place (decides (Server i) x clock (Whole m)) due

pub served_taken : (P : Head → List ℕ → FsCall → Type 0) (i : ℕ) (x : ServerState) (clock place : ℕ) (m : Message) → IsCall m.carried → IfCall P m → m.head.to ≡ Server i → m.head.boot ≡ x.lasting.boot
    → Above (call_seat m.head.from (server_row (Server i) x clock place (Whole m)).state.seats) m.head.epoch m.head.number → ⊥
unfolding server_row
served_taken P i x clock place m is w to own a = hears_taken P (Server i) x clock place m.head m.carried is w refl to own a

-- of the others
pub timed_state : (i : ℕ) (x : ServerState) (clock : ℕ) (n : Node) (b : BackCall) → ((back_timeout_row (Server i) x clock n b).state.seats ≡ x.seats) × ((back_timeout_row (Server i) x clock n b).state.lasting.boot ≡ x.lasting.boot)
unfolding back_timeout_row
timed_state i x clock n b = (refl, refl)

pub woken_state : (i : ℕ) (x : ServerState) (clock : ℕ) → ((wake_row (Server i) x clock).state.seats ≡ x.seats) × ((wake_row (Server i) x clock).state.lasting.boot ≡ x.lasting.boot)
unfolding wake_row
woken_state i x clock = (refl, refl)

pub started_boot : (i clock count : ℕ) (f : Begun ServerState) → (start_row (Server i) clock count f).state.lasting.boot ≡ f.state.lasting.boot + 1
unfolding start_row
started_boot i clock count f = refl

after_boot : (me : Node) (x : ServerState) (clock : ℕ) (d : Decision) → x.lasting.boot ≤ (begun_after me x clock d).state.lasting.boot
after_boot me x clock drops = omega arith
after_boot me x clock (tells_boot head) = omega arith
after_boot me x clock (repeats reply) = omega arith
after_boot me x clock (refuses head code) = omega arith
after_boot me x clock (shows head r) = omega arith
after_boot me x clock (saves head c) = omega arith

pub disk_boot : (me : Node) (x : ServerState) (after : Bool) (fall : Fall) → x.lasting.boot ≤ (begun_by_disk me x after fall).state.lasting.boot
disk_boot me x after at_rest = omega arith
disk_boot me x false (in_step m clock hit) = omega arith
disk_boot me x true (in_step m clock hit) = after_boot me x clock (decides me x clock (Whole m))
disk_boot me x false in_boot = omega arith
disk_boot me x true in_boot = omega arith

-- ---- a call that a server is given

of_client_at : (n : Node) (X Y : Type 0) → ((j : ℕ) → n ≡ Client j → X → Y) → OfClient n X → OfClient n Y
of_client_at (Client j) X Y w h = w j refl h
of_client_at (Server j) X Y w h = tt
of_client_at (Admin j) X Y w h = tt
of_client_at Loc X Y w h = tt

pub call_is : (P Q : Head → Type 0) (boot : ℕ) (seats : List Seat) (head : Head) (x : Carried) → (IsCall x → (j : ℕ) → head.from ≡ Client j → Q head → admitted boot seats head ≡ pairs.runs → P (reply_head boot head)) → OfCall (ByClient (λ h user call. Q h)) head x → IsCallOf P boot seats head x
call_is P Q boot seats head (carried.Call user (ask.File call)) w h = of_client_at head.from (Q head) (admitted boot seats head ≡ pairs.runs → P (reply_head boot head)) (w tt) h
call_is P Q boot seats head (carried.Call user (ask.Volume call)) w h = absurd h
call_is P Q boot seats head (carried.Call user (ask.Location call)) w h = h
call_is P Q boot seats head (carried.Refusal code) w h = tt
call_is P Q boot seats head (carried.Reply reply) w h = tt
call_is P Q boot seats head carried.Notice w h = tt

fact_of : (Q : Head → Type 0) (j i : ℕ) (head : Head) (x : Carried) → IsCall x → head.to ≡ Server i → head.from ≡ Client j → OfCall (ByClient (λ h user call. Q h)) head x → Q head
fact_of Q j i head (carried.Call user (ask.File call)) is to from w = by_client j head.from (Q head) from w
fact_of Q j i head (carried.Call user (ask.Volume call)) is to from w = absurd w
fact_of Q j i head (carried.Call user (ask.Location call)) is to from w = not_loc head (Server i) (Q head) to refl w.0
fact_of Q j i head x is to from w = absurd is

pub call_here : (c : Cell) (past : List Entry) (i : ℕ) (e : Entry) (m : Message) → HearsIn c past → StandsIn c (lines_of past) → e.actor ≡ actors.Node (Server i) → given_message e.lines (sent_of past) ≡ Some m → m.head.to ≡ Server i → (c.hosts i).down ≡ None → IfCall (λ h user call. IsHad c.hosts h.to h.boot) m
    → IsCallOf (IsRan (e ∷ past)) (c.hosts i).state.lasting.boot (c.hosts i).state.seats m.head m.carried
call_here c past i e m H S actor given to up w =
    call_is (IsRan (e ∷ past)) (λ h. IsHad c.hosts h.to h.boot) (c.hosts i).state.lasting.boot (c.hosts i).state.seats m.head m.carried
    (λ is j from q runs k z. let a = runs_admitted (c.hosts i).state.lasting.boot (c.hosts i).state.seats m.head runs in
    ran_here e past m i (c.hosts i).state.lasting.boot actor given is to a.0
    (to_come (Server i) (called_key m.head) (c.hosts i).state.lasting.boot past (λ l node later. H.unheard i j l (c.hosts i).state.lasting.boot (node ∙ from) (subst (λ (d : Option Fall). MayRun d (c.hosts i).state.lasting.boot (call_seat l.node (c.hosts i).state.seats) l (c.hosts i).state.lasting.boot) (sym up)
    (inr (refl, subst (λ (q : Node). Above (call_seat q (c.hosts i).state.seats) l.epoch l.number) (sym node) (above_up (call_seat m.head.from (c.hosts i).state.seats) m.head.epoch m.head.number l.epoch l.number a.1 later))))))
    (H.boots.now i ∙ ap (λ (d : Option Fall). up_boot d (c.hosts i).state.lasting.boot) up) (admitted_latest c (lines_of past) i m.head S runs))
    w

-- it is to no boot to come
pub not_next : (c : Cell) (i : ℕ) (m : Message) (j : ℕ) (k : Key) (b : ℕ) → m.head.to ≡ Server i → IfCall (λ h user call. IsHad c.hosts h.to h.boot) m → k.node ≡ Client j → (c.hosts i).state.lasting.boot < b → IsCallUnder (Server i) k b (Some m) → ⊥
not_next c i m j k b to w is l x =
    let had : m.head.boot ≤ (c.hosts i).state.lasting.boot = fact_of (λ h. IsHad c.hosts h.to h.boot) j i m.head m.carried x.0.0 to (ap (λ (y : Key). y.node) x.1.0 ∙ is) w i to in
    let own : m.head.boot ≡ b = x.1.1 in
    let later : (c.hosts i).state.lasting.boot < b = l in
    absurd (omega arith)

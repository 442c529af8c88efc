-- A client sends a call to no boot that its server didn't begin: what it knows of boots servers told it, however many a cell has.
use Rattle.spec_rows.specs.LocSteps.{LocHost}
use Rattle.law_legal.proofs.DatabaseKeeps.{IsLocStep, loc_uncalled, no_server_loc, loc_notice}
use Rattle.law_legal.proofs.DatabaseDoes.{IsOfLoc}
use Rattle.spec_history.specs.declared.acts.Act.{Act}
use Rattle.spec_history.specs.declared.lines.Line.{Line}
use Rattle.spec_history.specs.declared.lines.Line.TheVariants as lines
use Rattle.spec_history.specs.declared.scripts.Script.{Script}
use Rattle.law_legal.proofs.BaseLaws.{Each, IfCall, OfNotice, at_put, each_at, each_map, each_more, if_call, of_notice, same_node-true, some_of}
use Rattle.law_legal.proofs.ClientCalls.{AreReplies, Caller, IsAnswer, IsCallOf, IsLastOf, Tame, answer_over, begins_tame, caller_at, falls_tame, given_tame, rises_tame, uncalled_any, waits_tame, missed_tame, sought_tame, IsUncalled}
use Rattle.law_legal.proofs.ServerHears.{HasCutAt, Hears, HearsIn, IsHad, IsRan, call_is, cut_by, none_more, replies_to, sound_to}
use Rattle.law_legal.proofs.ServerKeepsKeys.{Begins, HostStep, IsCutBy, IsSound, before_begins, decides_due, disk_begins, memory_of, revives_begins, serves_step, starts_step, times_step, wakes_step}
use Rattle.law_legal.proofs.CallKeysOnce.{any_told}
use Rattle.law_legal.proofs.RunsKnown.{Known, known_first, known_kept}
use Rattle.law_legal.proofs.RunWalk.{Behind, EachMove, IsKept, each_moved}
use Rattle.law_legal.proofs.BaseWords.{up_boot}
use Rattle.law_legal.specs.Ideal.{set_up_entry}
use Rattle.law_legal.specs.Legal.{IsBootOf}
use Rattle.law_legal.specs.Past.{HasBoot, lines_of, onto, boot_risen, server_boot}
use Rattle.afs_num.specs.Nodes.{same_node}
use Rattle.afs_num.specs.declared.calls.FsCall.{FsCall}
use Rattle.afs_num.specs.declared.histories.Actor.TheVariants as actors
use Rattle.afs_num.specs.declared.messages.Carried.{Carried}
use Rattle.afs_num.specs.declared.messages.Message.{Message}
use Rattle.afs_num.specs.declared.messages.Received.TheVariants.{Whole}
use Rattle.afs_num.specs.declared.types.Head.{Head}
use Rattle.afs_num.specs.declared.types.Node.{Node}
use Rattle.afs_num.specs.declared.types.Node.TheVariants.{Admin, Client, Loc, Server}
use Rattle.spec_rows.specs.Callbacks.{put, replies_of}
use Rattle.spec_rows.specs.ClientRow.{begin_row, boot_of, client_row, reborn, timeout_row, seek_timeout_row, sought_by}
use Rattle.spec_rows.specs.Going.{ClientState, Going}
use Rattle.law_legal.proofs.RunSteps.{blow_line, server_moves, loc_becomes}
use Rattle.spec_rows.specs.Runs.{Blow, Armed, Cell, Entry, Fall, at_rest, begun_by_disk, in_boot, in_step, message_at, start, ticked, unarmed, voided, ServerHost}
use Rattle.spec_rows.specs.ServerRow.{boot_told, decides}
use Rattle.spec_rows.specs.ServerSteps.{back_timeout_row, server_row, start_row, wake_row}
use Rattle.spec_rows.specs.States.{BackCall, Seat, ServerState}
use Rattle.spec_rows.specs.Steps.{Step}
use Rattle.std.proofs.Common.{suc, ◌≡◌, ◌⊎◌, inl, inr, ℕ, Bool, true, false, cond, List, [], ◌∷◌, ◌++◌, Option, Some, None, refl, sym, ap, subst, ◌∙◌}
use Rattle.std.specs.Prelude.{⊤}

-- ---- the boots that lines tell

boot_onto : (s : Node) (boot : ℕ) (ls o : List Line) → HasBoot s boot o → HasBoot s boot (onto o ls)
boot_onto s boot [] o h = h
boot_onto s boot (lines.Restart n b ∷ ls) o h = boot_onto s boot ls (lines.Restart n b ∷ o) (inr h)
boot_onto s boot (l ∷ ls) o h = boot_onto s boot ls (l ∷ o) h

stop_has : (t : Bool) (o : Option ℕ) (boot : ℕ) (X : Type 0) → cond t None o ≡ Some boot → (o ≡ Some boot → X) → X
stop_has true o boot X e w = absurd cc
stop_has false o boot X e w = w e

risen_has : (o : Option ℕ) (b boot : ℕ) (X Y : Type 0) → boot_risen o b ≡ Some boot → (b ≡ boot → X) → (o ≡ Some boot → Y) → X ⊎ Y
risen_has None b boot X Y e w u = inl (w (some_of b boot e))
risen_has (Some old) b boot X Y e w u = inr (u e)

restart_has : (t : Bool) (s n : Node) (b boot : ℕ) (o : Option ℕ) (Y : Type 0) → same_node n s ≡ t → cond t (boot_risen o b) o ≡ Some boot → (o ≡ Some boot → Y) → ((n ≡ s) × (b ≡ boot)) ⊎ Y
restart_has true s n b boot o Y is e w = risen_has o b boot ((n ≡ s) × (b ≡ boot)) Y e (λ q. (same_node-true n s is, q)) w
restart_has false s n b boot o Y is e w = inr (w e)

-- a server that is up began the boot in which it is
up_has : (s : Node) (boot : ℕ) (ls : List Line) → server_boot s ls ≡ Some boot → HasBoot s boot ls
up_has s boot [] e = sym (some_of 1 boot e)
up_has s boot (lines.Crash n ∷ o) e = stop_has (same_node n s) (server_boot s o) boot (HasBoot s boot o) e (up_has s boot o)
up_has s boot (lines.Fault n ∷ o) e = stop_has (same_node n s) (server_boot s o) boot (HasBoot s boot o) e (up_has s boot o)
up_has s boot (lines.Restart n b ∷ o) e = restart_has (same_node n s) s n b boot (server_boot s o) (HasBoot s boot o) refl e (up_has s boot o)
up_has s boot (l ∷ o) e = up_has s boot o e

first_has : (s : Node) (ls : List Line) → HasBoot s 1 ls
first_has s [] = refl
first_has s (lines.Restart n b ∷ o) = inr (first_has s o)
first_has s (l ∷ o) = first_has s o

-- ---- what is known of boots

-- this node, if it is a server, began this boot
abbrev pub IsOf : List Entry → Node → ℕ → Type 0
IsOf past q boot = (i : ℕ) → q ≡ Server i → HasBoot (Server i) boot (lines_of past)

first_of : (past : List Entry) (q : Node) → IsOf past q 1
first_of past q i is = first_has (Server i) (lines_of past)

of_onto : (e : Entry) (past : List Entry) (q : Node) (boot : ℕ) → IsOf past q boot → IsOf (e ∷ past) q boot
of_onto e past q boot h i is = boot_onto (Server i) boot e.lines (lines_of past) (h i is)

abbrev pub Tells : List Entry → Head → Type 0
Tells past head = IsOf past head.from head.boot

tells_onto : (e : Entry) (past : List Entry) (head : Head) → Tells past head → Tells (e ∷ past) head
tells_onto e past head h = of_onto e past head.from head.boot h

abbrev pub AreNoted : List Entry → List Message → Type 0
AreNoted past ms = Each (λ m. OfNotice (Tells past m.head) m.carried) ms

noted_onto : (e : Entry) (past : List Entry) (ms : List Message) → AreNoted past ms → AreNoted (e ∷ past) ms
noted_onto e past ms h = each_map (λ m. OfNotice (Tells past m.head) m.carried) (λ m. OfNotice (Tells (e ∷ past) m.head) m.carried) (λ m. of_notice (Tells past m.head) (Tells (e ∷ past) m.head) (tells_onto e past m.head) m.carried) ms h

abbrev pub IsKnown : List Entry → ClientState → Type 0
IsKnown past x = (q : Node) → IsOf past q (boot_of q x.boots)

-- a call of a client is to a boot that its server began
abbrev pub IsToBegun : List Entry → Head → List ℕ → FsCall → Type 0
IsToBegun past head user call = IsBootOf head.to head.boot (lines_of past)

boot_of_onto : (n : Node) (boot : ℕ) (ls o : List Line) → IsBootOf n boot o → IsBootOf n boot (onto o ls)
boot_of_onto (Server i) boot ls o h = boot_onto (Server i) boot ls o h
boot_of_onto (Client i) boot ls o h = tt
boot_of_onto (Admin i) boot ls o h = tt
boot_of_onto Loc boot ls o h = tt

calls_onto : (e : Entry) (past : List Entry) (ms : List Message) → Each (IfCall (IsToBegun past)) ms → Each (IfCall (IsToBegun (e ∷ past))) ms
calls_onto e past ms h = each_map (IfCall (IsToBegun past)) (IfCall (IsToBegun (e ∷ past))) (if_call (IsToBegun past) (IsToBegun (e ∷ past)) (λ head user call x. boot_of_onto head.to head.boot e.lines (lines_of past) x)) ms h

is_boot_of : (past : List Entry) (n : Node) (boot : ℕ) → IsOf past n boot → IsBootOf n boot (lines_of past)
is_boot_of past (Server i) boot h = h i refl
is_boot_of past (Client i) boot h = tt
is_boot_of past (Admin i) boot h = tt
is_boot_of past Loc boot h = tt

last_begun : (past : List Entry) (n : ℕ) (x : ClientState) → IsKnown past x → (head : Head) (user : List ℕ) (call : FsCall) → IsLastOf n (caller_at x) head → IsToBegun past head user call
last_begun past n x h head user call l = subst (λ (q : Node). IsBootOf q head.boot (lines_of past)) (sym l.to) (subst (λ (b : ℕ). IsBootOf x.callee b (lines_of past)) (sym l.boot) (is_boot_of past x.callee (boot_of x.callee x.boots) (h x.callee)))

-- a server that is down in a step was up before that
abbrev pub HasStood : ℕ → ServerState → Option Fall → List Entry → Type 0
HasStood i x d past = (m : Message) (clock : ℕ) (hit : Blow) → d ≡ Some (in_step m clock hit) → HasBoot (Server i) x.lasting.boot (lines_of past)

pub record Learnt (clients : ℕ → ClientState) (hosts : ℕ → ServerHost) (sent : List Message) (past : List Entry) : Type 0 where
  pub calls : Each (IfCall (IsToBegun past)) sent
  pub notices : AreNoted past sent
  pub known : (j : ℕ) → IsKnown past (clients j)
  pub replies : (j : ℕ) → AreReplies any_told (Tells past) (clients j).seats
  pub sound : (i : ℕ) → IsSound any_told (Tells past) (memory_of (hosts i).state)
  pub held : (i : ℕ) → Each (IsAnswer any_told (Tells past)) (replies_of (hosts i).state.backs.held)
  pub stood : (i : ℕ) → HasStood i (hosts i).state (hosts i).down past

abbrev pub LearntIn : Cell → List Entry → Type 0
LearntIn c past = Learnt c.clients c.hosts c.sent past

abbrev pub KnownLearnt : Cell → List Entry → Type 0
KnownLearnt c past = Known c past × LearntIn c past

any_head : (h : Head) → any_told h → any_told h
any_head h x = x

replies_onto : (e : Entry) (past : List Entry) (seats : List Seat) → AreReplies any_told (Tells past) seats → AreReplies any_told (Tells (e ∷ past)) seats
replies_onto e past seats h = replies_to any_told any_told (Tells past) (Tells (e ∷ past)) any_head (tells_onto e past) seats h

sound_onto : (e : Entry) (past : List Entry) (x : ServerState) → IsSound any_told (Tells past) (memory_of x) → IsSound any_told (Tells (e ∷ past)) (memory_of x)
sound_onto e past x h = sound_to any_told any_told (Tells past) (Tells (e ∷ past)) any_head (tells_onto e past) (memory_of x) h

held_onto : (e : Entry) (past : List Entry) (ms : List Message) → Each (IsAnswer any_told (Tells past)) ms → Each (IsAnswer any_told (Tells (e ∷ past))) ms
held_onto e past ms h = each_map (IsAnswer any_told (Tells past)) (IsAnswer any_told (Tells (e ∷ past))) (answer_over any_told any_told (Tells past) (Tells (e ∷ past)) any_head (tells_onto e past)) ms h

stood_onto : (e : Entry) (past : List Entry) (i : ℕ) (x : ServerState) (d : Option Fall) → HasStood i x d past → HasStood i x d (e ∷ past)
stood_onto e past i x d h m clock hit is = boot_onto (Server i) x.lasting.boot e.lines (lines_of past) (h m clock hit is)

-- ---- a step of nobody

still_learnt : (c : Cell) (e : Entry) (past : List Entry) → LearntIn c past → Learnt c.clients c.hosts c.sent (e ∷ past)
still_learnt c e past h = record {
  calls = calls_onto e past c.sent h.calls;
  notices = noted_onto e past c.sent h.notices;
  known = λ j q. of_onto e past q (boot_of q (c.clients j).boots) (h.known j q);
  replies = λ j. replies_onto e past (c.clients j).seats (h.replies j);
  sound = λ i. sound_onto e past (c.hosts i).state (h.sound i);
  held = λ i. held_onto e past (replies_of (c.hosts i).state.backs.held) (h.held i);
  stood = λ i. stood_onto e past i (c.hosts i).state (c.hosts i).down (h.stood i);
}

-- ---- a step of a client

client_learnt : (c : Cell) (e : Entry) (past : List Entry) (n : ℕ) (D : Option ℕ) (s : Step ClientState) → LearntIn c past → Tame any_told (Tells (e ∷ past)) (IsOf (e ∷ past)) D n (caller_at (c.clients n)) s → Learnt (put n s.state c.clients) c.hosts (c.sent ++ s.sent) (e ∷ past)
client_learnt c e past n D s h t = record {
  calls = each_more (IfCall (IsToBegun (e ∷ past))) c.sent s.sent (calls_onto e past c.sent h.calls)
      (each_map (IfCall (λ head user call. IsLastOf n (caller_at s.state) head)) (IfCall (IsToBegun (e ∷ past))) (if_call (λ head user call. IsLastOf n (caller_at s.state) head) (IsToBegun (e ∷ past)) (last_begun (e ∷ past) n s.state (t.boots (λ q. of_onto e past q (boot_of q (c.clients n).boots) (h.known n q))))) s.sent t.sent);
  notices = each_more (λ m. OfNotice (Tells (e ∷ past) m.head) m.carried) c.sent s.sent (noted_onto e past c.sent h.notices) t.notices;
  known = λ j. at_put n j (IsKnown (e ∷ past)) s.state c.clients (λ same. t.boots (λ q. of_onto e past q (boot_of q (c.clients n).boots) (h.known n q))) (λ other q. of_onto e past q (boot_of q (c.clients j).boots) (h.known j q));
  replies = λ j. at_put n j (λ (x : ClientState). AreReplies any_told (Tells (e ∷ past)) x.seats) s.state c.clients (λ same. t.kept) (λ other. replies_onto e past (c.clients j).seats (h.replies j));
  sound = λ i. sound_onto e past (c.hosts i).state (h.sound i);
  held = λ i. held_onto e past (replies_of (c.hosts i).state.backs.held) (h.held i);
  stood = λ i. stood_onto e past i (c.hosts i).state (c.hosts i).down (h.stood i);
}

own_replies : (c : Cell) (e : Entry) (past : List Entry) (n : ℕ) → LearntIn c past → AreReplies any_told (Tells (e ∷ past)) (c.clients n).seats
own_replies c e past n h = replies_onto e past (c.clients n).seats (h.replies n)

no_server : (n i : ℕ) → Client n ≡ Server i → ⊥
no_server n i e = absurd cc

-- whatever call it is
pub any_call : (c : Cell) (past : List Entry) (boot : ℕ) (seats : List Seat) (place : ℕ) (m : Message) → HearsIn c past → message_at c.sent place ≡ Some m → IsCallOf any_told boot seats m.head m.carried
any_call c past boot seats place m H at = call_is any_told (λ h. IsHad c.hosts h.to h.boot) boot seats m.head m.carried (λ is j from q runs. tt) (each_at (IfCall (λ y user call. IsHad c.hosts y.to y.boot)) c.sent place m at H.calls)

given_learns : (c : Cell) (e : Entry) (past : List Entry) (n place : ℕ) (m : Message) → KnownLearnt c past → message_at c.sent place ≡ Some m → m.head.to ≡ Client n → Tame any_told (Tells (e ∷ past)) (IsOf (e ∷ past)) (Some place) n (caller_at (c.clients n)) (client_row (Client n) (c.clients n) c.clock place (Whole m))
given_learns c e past n place m h at to =
    given_tame any_told (Tells (e ∷ past)) (IsOf (e ∷ past)) n (c.clients n) c.clock place m (own_replies c e past n h.1) (any_call c past (c.clients n).epoch (c.clients n).seats place m h.0.hears at)
    (λ i z. absurd (no_server n i (sym to ∙ z))) (each_at (λ y. OfNotice (Tells (e ∷ past) y.head) y.carried) c.sent place m at (noted_onto e past c.sent h.1.notices))

-- ---- a step of a server

host_learnt : (c : Cell) (e : Entry) (past : List Entry) (i : ℕ) (x : ServerHost) (ms : List Message) → LearntIn c past → Each (IsAnswer any_told (Tells (e ∷ past))) ms → IsSound any_told (Tells (e ∷ past)) (memory_of x.state) → Each (IsAnswer any_told (Tells (e ∷ past))) (replies_of x.state.backs.held) → HasStood i x.state x.down (e ∷ past)
    → Learnt c.clients (put i x c.hosts) (c.sent ++ ms) (e ∷ past)
host_learnt c e past i x ms h new sound held stood = record {
  calls = each_more (IfCall (IsToBegun (e ∷ past))) c.sent ms (calls_onto e past c.sent h.calls) (each_map (IsAnswer any_told (Tells (e ∷ past))) (IfCall (IsToBegun (e ∷ past))) (λ m a. uncalled_any (IsToBegun (e ∷ past)) m a.0) ms new);
  notices = each_more (λ m. OfNotice (Tells (e ∷ past) m.head) m.carried) c.sent ms (noted_onto e past c.sent h.notices) (each_map (IsAnswer any_told (Tells (e ∷ past))) (λ m. OfNotice (Tells (e ∷ past) m.head) m.carried) (λ m a. a.1.1) ms new);
  known = λ j q. of_onto e past q (boot_of q (c.clients j).boots) (h.known j q);
  replies = λ j. replies_onto e past (c.clients j).seats (h.replies j);
  sound = λ j. at_put i j (λ (y : ServerHost). IsSound any_told (Tells (e ∷ past)) (memory_of y.state)) x c.hosts (λ same. sound) (λ other. sound_onto e past (c.hosts j).state (h.sound j));
  held = λ j. at_put i j (λ (y : ServerHost). Each (IsAnswer any_told (Tells (e ∷ past))) (replies_of y.state.backs.held)) x c.hosts (λ same. held) (λ other. held_onto e past (replies_of (c.hosts j).state.backs.held) (h.held j));
  stood = λ j. at_put i j (λ (y : ServerHost). HasStood j y.state y.down (e ∷ past)) x c.hosts (λ same. subst (λ (k : ℕ). HasStood k x.state x.down (e ∷ past)) same stood) (λ other. stood_onto e past j (c.hosts j).state (c.hosts j).down (h.stood j));
}

-- one that sends nothing
quiet_learnt : (c : Cell) (e : Entry) (past : List Entry) (i : ℕ) (x : ServerHost) → LearntIn c past → IsSound any_told (Tells (e ∷ past)) (memory_of x.state) → Each (IsAnswer any_told (Tells (e ∷ past))) (replies_of x.state.backs.held) → HasStood i x.state x.down (e ∷ past) → Learnt c.clients (put i x c.hosts) c.sent (e ∷ past)
quiet_learnt c e past i x h sound held stood = subst (λ (ms : List Message). Learnt c.clients (put i x c.hosts) ms (e ∷ past)) (none_more c.sent) (host_learnt c e past i x [] h tt sound held stood)

-- in which it stays as it is
same_learnt : (c : Cell) (e : Entry) (past : List Entry) (i : ℕ) (d : Option Fall) (armed : Armed) → LearntIn c past → HasStood i (c.hosts i).state d (e ∷ past) → Learnt c.clients (put i (record (c.hosts i) { down = d; armed = armed }) c.hosts) c.sent (e ∷ past)
same_learnt c e past i d armed h stood = quiet_learnt c e past i (record (c.hosts i) { down = d; armed = armed }) h (sound_onto e past (c.hosts i).state (h.sound i)) (held_onto e past (replies_of (c.hosts i).state.backs.held) (h.held i)) stood

up_learnt : (c : Cell) (past : List Entry) (i : ℕ) (D : Option ℕ) (armed : Armed) (s : Step ServerState) → LearntIn c past → HostStep any_told (Tells ((server_moves c i armed s).entry ∷ past)) D (Server i) (c.hosts i).state s → LearntIn (server_moves c i armed s).cell ((server_moves c i armed s).entry ∷ past)
up_learnt c past i D armed s h t = host_learnt c (server_moves c i armed s).entry past i (record { state = s.state; down = None; armed = armed }) s.sent h t.sent t.hosts.sound t.held (λ m clock hit is. absurd cc)

now_has : (c : Cell) (past : List Entry) (i : ℕ) → HearsIn c past → (c.hosts i).down ≡ None → HasBoot (Server i) (c.hosts i).state.lasting.boot (lines_of past)
now_has c past i H up = up_has (Server i) (c.hosts i).state.lasting.boot (lines_of past) (H.boots.now i ∙ ap (λ (d : Option Fall). up_boot d (c.hosts i).state.lasting.boot) up)

one_server : (a b : ℕ) → Server a ≡ Server b → a ≡ b
one_server a b e = cc

-- its own notice
own_tells : (e : Entry) (past : List Entry) (i boot : ℕ) (head : Head) → HasBoot (Server i) boot (lines_of past) → head.to ≡ Server i → Tells (e ∷ past) (boot_told boot head).head
own_tells e past i boot head h to k is = subst (λ (j : ℕ). HasBoot (Server j) boot (lines_of (e ∷ past))) (one_server i k (sym to ∙ is)) (boot_onto (Server i) boot e.lines (lines_of past) h)

serves_learns : (c : Cell) (past : List Entry) (i place : ℕ) (m : Message) (armed : Armed) → KnownLearnt c past → (c.hosts i).down ≡ None → message_at c.sent place ≡ Some m → LearntIn (server_moves c i armed (server_row (Server i) (c.hosts i).state c.clock place (Whole m))).cell ((server_moves c i armed (server_row (Server i) (c.hosts i).state c.clock place (Whole m))).entry ∷ past)
serves_learns c past i place m armed h up at =
    let e : Entry = (server_moves c i armed (server_row (Server i) (c.hosts i).state c.clock place (Whole m))).entry in
    let x : ServerState = (c.hosts i).state in
    let sound : IsSound any_told (Tells (e ∷ past)) (memory_of x) = sound_onto e past x (h.1.sound i) in
    up_learnt c past i (Some place) armed _ h.1
    (serves_step any_told (Tells (e ∷ past)) i x c.clock place m sound (held_onto e past (replies_of x.backs.held) (h.1.held i))
    (decides_due any_told (Tells (e ∷ past)) (Server i) x c.clock m refl sound.seats (any_call c past x.lasting.boot x.seats place m h.0.hears at) (λ to. own_tells e past i x.lasting.boot m.head (now_has c past i h.0.hears up) to)))

-- what a restart finds
found_begins : (e : Entry) (past : List Entry) (i : ℕ) (x : ServerState) (after : Bool) (fall : Fall) → IsSound any_told (Tells (e ∷ past)) (memory_of x) → Each (IsAnswer any_told (Tells (e ∷ past))) (replies_of x.backs.held) → IsCutBy any_told x.lasting.boot x.seats fall → HasStood i x (Some fall) past → Begins any_told (Tells (e ∷ past)) (Server i) x (begun_by_disk (Server i) x after fall)
found_begins e past i x after at_rest s h cut stood = before_begins any_told (Tells (e ∷ past)) (Server i) x s h
found_begins e past i x after (in_step m clock hit) s h cut stood = disk_begins any_told (Tells (e ∷ past)) (Server i) x after (in_step m clock hit) refl s h cut (λ y to. own_tells e past i x.lasting.boot y (stood m clock hit refl) to)
found_begins e past i x false in_boot s h cut stood = before_begins any_told (Tells (e ∷ past)) (Server i) x s h
found_begins e past i x true in_boot s h cut stood = revives_begins any_told (Tells (e ∷ past)) (Server i) x s h

any_cut : (P : Head → Type 0) (x : ServerState) (d : Option Fall) (fall : Fall) → d ≡ Some fall → HasCutAt P x d → IsCutBy any_told x.lasting.boot x.seats fall
any_cut P x None fall e h = absurd cc
any_cut P x (Some f) fall e h = subst (IsCutBy any_told x.lasting.boot x.seats) (some_of f fall e) (cut_by P any_told (λ y z. tt) x.lasting.boot x.seats f h)

begins_at : (c : Cell) (e : Entry) (past : List Entry) (i : ℕ) (after : Bool) (fall : Fall) → KnownLearnt c past → (c.hosts i).down ≡ Some fall → Begins any_told (Tells (e ∷ past)) (Server i) (c.hosts i).state (begun_by_disk (Server i) (c.hosts i).state after fall)
begins_at c e past i after fall h down =
    found_begins e past i (c.hosts i).state after fall (sound_onto e past (c.hosts i).state (h.1.sound i)) (held_onto e past (replies_of (c.hosts i).state.backs.held) (h.1.held i)) (any_cut (IsRan past) (c.hosts i).state (c.hosts i).down fall down (h.0.hears.falls i))
    (λ m clock hit is. h.1.stood i m clock hit (down ∙ is))

-- a server that stays down
stays_learns : (c : Cell) (e : Entry) (past : List Entry) (i : ℕ) (after : Bool) (fall other : Fall) → KnownLearnt c past → (c.hosts i).down ≡ Some fall → ((m : Message) (clock : ℕ) (hit : Blow) → Some other ≡ Some (in_step m clock hit) → ⊥)
    → Learnt c.clients (put i (record { state = (begun_by_disk (Server i) (c.hosts i).state after fall).state; down = Some other; armed = unarmed }) c.hosts) c.sent (e ∷ past)
stays_learns c e past i after fall other h down none =
    let b = begins_at c e past i after fall h down in
    quiet_learnt c e past i (record { state = (begun_by_disk (Server i) (c.hosts i).state after fall).state; down = Some other; armed = unarmed }) h.1 (b.hosts [] refl).sound b.held (λ m clock hit is. absurd (none m clock hit is))

-- ---- a step of the location database

loc_learnt : (c : Cell) (past : List Entry) (l : LocHost) (ls : List Line) (ms : List Message) → LearntIn c past → IsLocStep c l ls ms → LearntIn (loc_becomes c l ls ms).cell ((loc_becomes c l ls ms).entry ∷ past)
loc_learnt c past l ls ms h st =
    let e : Entry = (loc_becomes c l ls ms).entry in
    let w : Learnt c.clients c.hosts c.sent (e ∷ past) = still_learnt c e past h in
    record {
      calls = each_more (IfCall (IsToBegun (e ∷ past))) c.sent ms w.calls (each_map IsUncalled (IfCall (IsToBegun (e ∷ past))) (uncalled_any (IsToBegun (e ∷ past))) ms (loc_uncalled c l ls ms st));
      notices = each_more (λ m. OfNotice (Tells (e ∷ past) m.head) m.carried) c.sent ms w.notices (each_map IsOfLoc (λ m. OfNotice (Tells (e ∷ past) m.head) m.carried) (λ m x. loc_notice (λ y. Tells (e ∷ past) y.head) m (λ from i z. absurd (no_server_loc m.head i from z)) x) ms st.sent);
      known = w.known;
      replies = w.replies;
      sound = w.sound;
      held = w.held;
      stood = w.stood;
    }

-- ---- every step

-- the entry of a step of a client
abbrev of_client : ℕ → Step ClientState → Entry
of_client n s = record { actor = actors.Node (Client n); lines = s.lines; sent = s.sent; volumes = [] }

abbrev of_server : ℕ → List Line → List Message → Entry
of_server i ls sent = record { actor = actors.Node (Server i); lines = ls; sent = sent; volumes = [] }

abbrev up_entry : ℕ → Step ServerState → Entry
up_entry i s = of_server i s.lines s.sent

learnt_moves : EachMove KnownLearnt (Behind LearntIn)
learnt_moves = record {
  void = λ c past h. still_learnt c (voided c).entry past h.1;
  ticked = λ c past n h. still_learnt c (ticked c (suc n)).entry past h.1;
  begun = λ c past n act h r z0. (let s : Step ClientState = begin_row (Client n) (c.clients n) c.clock act in let e : Entry = of_client n s in client_learnt c e past n None s h.1 (begins_tame any_told (Tells (e ∷ past)) (IsOf (e ∷ past)) n (c.clients n) c.clock act (own_replies c e past n h.1)));
  told = λ c past n place m h at to un. (let s : Step ClientState = client_row (Client n) (c.clients n) c.clock place (Whole m) in let e : Entry = of_client n s in client_learnt c e past n (Some place) s h.1 (given_learns c e past n place m h at to));
  sought = λ c past n place m k h at to z e. (let s : Step ClientState = sought_by (Client n) (c.clients n) c.clock place k m.head m.carried in let e : Entry = of_client n s in client_learnt c e past n (Some place) s h.1 (sought_tame any_told (Tells (e ∷ past)) (IsOf (e ∷ past)) n (c.clients n) c.clock place k m.head m.carried (λ b i q. absurd cc) (own_replies c e past n h.1)));
  missed = λ c past n k h r z. (let s : Step ClientState = seek_timeout_row (Client n) (c.clients n) k in let e : Entry = of_client n s in client_learnt c e past n None s h.1 (missed_tame any_told (Tells (e ∷ past)) (IsOf (e ∷ past)) n (c.clients n) k (own_replies c e past n h.1)));
  loc = λ c past l ls ms h st. loc_learnt c past l ls ms h.1 st;
  waited = λ c past n act h r. (let s : Step ClientState = timeout_row (Client n) (c.clients n) act in let e : Entry = of_client n s in client_learnt c e past n None s h.1 (waits_tame any_told (Tells (e ∷ past)) (IsOf (e ∷ past)) n (c.clients n) act r (own_replies c e past n h.1)));
  fallen = λ c past n h. (let s : Step ClientState = record { state = reborn c.handed (c.clients n); lines = lines.Crash (Client n) ∷ []; sent = [] } in let e : Entry = of_client n s in client_learnt c e past n None s h.1 (falls_tame any_told (Tells (e ∷ past)) (IsOf (e ∷ past)) n c.handed (c.clients n) (first_of (e ∷ past))));
  risen = λ c past n h. (let s : Step ClientState = record { state = c.clients n; lines = lines.Restart (Client n) (c.clients n).epoch ∷ []; sent = [] } in let e : Entry = of_client n s in client_learnt c e past n None s h.1 (rises_tame any_told (Tells (e ∷ past)) (IsOf (e ∷ past)) n (c.clients n) (own_replies c e past n h.1)));
  served = λ c past i place m armed h up at to. serves_learns c past i place m armed h up at;
  cut = λ c past i place m t h up at to. (let e : Entry = of_server i (lines.Given place ∷ blow_line i t.stops ∷ []) [] in same_learnt c e past i (Some (in_step m c.clock t)) unarmed h.1 (λ k clock hit is. boot_onto (Server i) (c.hosts i).state.lasting.boot e.lines (lines_of past) (now_has c past i h.0.hears up)));
  stopped = λ c past i h up. same_learnt c (of_server i (lines.Crash (Server i) ∷ []) []) past i (Some at_rest) unarmed h.1 (λ k clock hit is. absurd cc);
  stop_set = λ c past i calls pick armed h up. (let e : Entry = of_server i (lines.Stop (Server i) calls pick ∷ []) [] in same_learnt c e past i (c.hosts i).down armed h.1 (stood_onto e past i (c.hosts i).state (c.hosts i).down (h.1.stood i)));
  fail_set = λ c past i call armed h up. (let e : Entry = of_server i (lines.Fail (Server i) call ∷ []) [] in same_learnt c e past i (c.hosts i).down armed h.1 (stood_onto e past i (c.hosts i).state (c.hosts i).down (h.1.stood i)));
  timed = λ c past i n b armed h up at. (let s : Step ServerState = back_timeout_row (Server i) (c.hosts i).state c.clock n b in let e : Entry = up_entry i s in up_learnt c past i None armed s h.1 (times_step any_told (Tells (e ∷ past)) i (c.hosts i).state c.clock n b (sound_onto e past (c.hosts i).state (h.1.sound i)) (held_onto e past (replies_of (c.hosts i).state.backs.held) (h.1.held i))));
  woken = λ c past i armed h up. (let s : Step ServerState = wake_row (Server i) (c.hosts i).state c.clock in let e : Entry = up_entry i s in up_learnt c past i None armed s h.1 (wakes_step any_told (Tells (e ∷ past)) i (c.hosts i).state c.clock (sound_onto e past (c.hosts i).state (h.1.sound i)) (held_onto e past (replies_of (c.hosts i).state.backs.held) (h.1.held i))));
  started = λ c past i after fall h down. (let s : Step ServerState = start_row (Server i) c.clock c.count (begun_by_disk (Server i) (c.hosts i).state after fall) in let e : Entry = up_entry i s in up_learnt c past i None unarmed s h.1 (starts_step any_told (Tells (e ∷ past)) i (c.hosts i).state c.clock c.count (begun_by_disk (Server i) (c.hosts i).state after fall) (begins_at c e past i after fall h down)));
  early = λ c past i fall h down. (let e : Entry = of_server i (lines.Fault (Server i) ∷ []) [] in same_learnt c e past i (Some fall) unarmed h.1 (λ m clock hit is. boot_onto (Server i) (c.hosts i).state.lasting.boot e.lines (lines_of past) (h.1.stood i m clock hit (down ∙ is))));
  midway = λ c past i after fall h down. stays_learns c (of_server i ((begun_by_disk (Server i) (c.hosts i).state after fall).before (lines.Fault (Server i) ∷ [])) []) past i after fall in_boot h down (λ m clock hit is. absurd cc);
  full = λ c past i after fall h down. stays_learns c (of_server i ((begun_by_disk (Server i) (c.hosts i).state after fall).before (lines.Full (Server i) ∷ [])) []) past i after fall at_rest h down (λ m clock hit is. absurd cc);
}

pub learnt_kept : IsKept KnownLearnt
learnt_kept c past x so h = (known_kept c past x so h.0, each_moved KnownLearnt (Behind LearntIn) learnt_moves c past x so h)

pub learnt_first : (s : Script) → KnownLearnt (start s) (set_up_entry s ∷ [])
learnt_first s = (
  known_first s,
  record {
    calls = tt;
    notices = tt;
    known = λ j q. first_of (set_up_entry s ∷ []) q;
    replies = λ j n seat m e. absurd cc;
    sound = λ i. record { seats = λ n seat m e. absurd cc; kept = λ n seat m e. absurd cc; lower = λ n e k a. a };
    held = λ i. tt;
    stood = λ i m clock hit is. absurd cc;
  },
)

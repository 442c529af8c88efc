-- What holds of keys in a run, whatever servers a cell has: a client makes each call to one server, which runs it only above that
-- caller's last one that changed something. So a key changes something at most once, and no call or reply has one to come.
use Rattle.law_legal.proofs.RunWalk.{loc_armed_to, loc_restarted_to, loc_stopped_to}
use Rattle.law_legal.proofs.DatabaseLines.{all_of_loc, is_of_loc}
use Rattle.spec_history.specs.declared.acts.Act.{Act}
use Rattle.law_legal.proofs.OwedPasses.{all_lines, is_unchanging}
use Rattle.law_legal.proofs.BaseLaws.{a_key, same_key-true, Above, Each, IfCall, IfReply, OfClient, OfReply, by_client, if_reply, runs_admitted, UpTo, at_put, below_not, below_up_to, client_number, each_at, each_map, each_more, if_call, node_apart, same_key-refl, up_to_below, up_to_same, below-true, below-false, some_of, OfNotice, OfCall, ByClient}
use Rattle.law_legal.proofs.ClientCalls.{mild_unchanging, AreReplies, IsAnswer, answer_over, GoesOn, IsLastOf, Tame, begins_tame, caller_at, falls_tame, given_tame, rises_tame, uncalled_any, waits_tame, any_call, guest_tame, missed_tame}
use Rattle.law_legal.proofs.DatabaseKeeps.{IsLocStep, cut_loc, line_loc, loc_reply, no_server_loc, served_loc, started_loc, stays_loc, fail_line, stop_line}
use Rattle.law_legal.proofs.DatabaseDoes.{IsOfLoc, IsSoundLoc, loc_unchanging}
use Rattle.law_legal.proofs.RunWalk.{first_sound, loc_armed_to, loc_received_to, loc_restarted_to, loc_stopped_to, sound_moved}
use Rattle.spec_rows.specs.ClientRow.{act_of}
use Rattle.spec_rows.specs.LocRow.{loc_device_calls}
use Rattle.spec_rows.specs.LocSteps.{LocHost}
use Rattle.law_legal.proofs.ServerKeepsKeys.{Begins, HasOne, HostStep, Hosts, IsCutBy, IsSound, Memory, decides_due, disk_begins, memory_of, serves_step, starts_step, times_step, wakes_step, IsRunBy}
use Rattle.law_legal.specs.Laws.{IsKnownTo, AreChanges, HasReply, seat_key}
use Rattle.law_legal.proofs.ServerSaves.{later_by}
use Rattle.law_legal.specs.Legal.{HasChangeBy, IsNew}
use Rattle.law_legal.specs.Once.{AreOnce, ChangesOnce, past_of}
use Rattle.law_legal.specs.Past.{IsLatest, IsUpTo, HasCode, IsCall, answered_key, called_key, lines_of, onto, IsFileCall}
use Rattle.spec_rows.specs.Callbacks.{put, replies_of}
use Rattle.spec_rows.specs.Going.{ClientState, Going, Seek}
use Rattle.law_legal.proofs.RunSteps.{loc_becomes, blow_line, calls_at, server_moves, falls_is, sets_is, stays_is}
use Rattle.spec_rows.specs.Hosts.{sets}
use Rattle.spec_rows.specs.ServerHosts.{can_start}
use Rattle.spec_rows.specs.Runs.{is_away, Armed, Blow, Cell, Entry, Fall, Input, Leads, Luck, Moved, Outcome, RunsTo, at_rest, back_timed, begins, begun_by, begun_by_disk, client_moves, client_starts, client_stops, comes_up, fails_early, fails_midway, given_at, given_to, gives, has_host, in_boot, in_step, is_full, message_at, moved, nothing, server_armed, server_ends, server_given, server_restarted, server_served, server_stopped, server_timed, server_waits, server_wakes, sets_fail, sets_stop, without_boot_record, start, starts_again, stops, struck, ticks, unarmed, voided, waited_by, waits, wakes, ServerHost, sought_for}
use Rattle.spec_rows.specs.ServerRow.{reply_head}
use Rattle.spec_rows.specs.States.{Seat, BackCall, ServerState}
use Rattle.spec_rows.specs.Steps.{Step, Begun}
use Rattle.spec_model.specs.Calls as pairs
use Rattle.spec_model.specs.Calls.{admitted, call_seat, pair_below, same_key, key_of}
use Rattle.std.proofs.Common.{zero, suc, ◌≡◌, ℕ, inl, inr, Bool, true, false, cond, nat_eq, List, [], ◌∷◌, ◌++◌, Option, Some, None, refl, sym, ap, subst, ◌∙◌}
use Rattle.std.specs.Prelude.{⊤, ◌&&◌}
use Rattle.afs_num.specs.declared.types.Head.{Head}
use Rattle.afs_num.specs.declared.types.Key.{Key}
use Rattle.afs_num.specs.declared.types.Node.{Node}
use Rattle.afs_num.specs.declared.types.Node.TheVariants.{Admin, Client, Loc, Server}
use Rattle.afs_num.specs.declared.messages.Carried.{Carried}
use Rattle.afs_num.specs.declared.messages.Message.{Message}
use Rattle.spec_history.specs.declared.scripts.Script.{Script}
use Rattle.spec_history.specs.declared.lines.Line.{Line}
use Rattle.afs_num.specs.declared.messages.Call.TheVariants as ask
use Rattle.afs_num.specs.declared.messages.Carried.TheVariants as carried
use Rattle.spec_history.specs.declared.lines.Line.TheVariants as lines

-- ---- small laws

pub server_number : (i j : ℕ) → Server i ≡ Server j → i ≡ j
server_number i j e = cc

-- ---- the changes among lines

abbrev pub IfChange : (Node → Key → Type 0) → Line → Type 0
IfChange P (lines.Change q k count) = P q k
IfChange P l = ⊤

abbrev pub EachChange : (Node → Key → Type 0) → List Line → Type 0
EachChange P [] = ⊤
EachChange P (l ∷ o) = IfChange P l × EachChange P o

if_change : (P Q : Node → Key → Type 0) → ((q : Node) (k : Key) → P q k → Q q k) → (l : Line) → IfChange P l → IfChange Q l
if_change P Q w (lines.Change q k count) h = w q k h
if_change P Q w l h = tt

each_change : (P Q : Node → Key → Type 0) → ((q : Node) (k : Key) → P q k → Q q k) → (o : List Line) → EachChange P o → EachChange Q o
each_change P Q w [] h = tt
each_change P Q w (l ∷ o) h = (if_change P Q w l h.0, each_change P Q w o h.1)

plain_each : (P : Node → Key → Type 0) (ls o : List Line) → all_lines is_unchanging ls ≡ true → EachChange P o → EachChange P (onto o ls)
plain_each P [] o p h = h
plain_each P (lines.Change q k count ∷ ls) o p h = absurd cc
plain_each P (l ∷ ls) o p h = plain_each P ls (l ∷ o) p (tt, h)

plain_once : (ls o : List Line) → all_lines is_unchanging ls ≡ true → AreOnce o → AreOnce (onto o ls)
plain_once [] o p h = h
plain_once (lines.Change q k count ∷ ls) o p h = absurd cc
plain_once (l ∷ ls) o p h = plain_once ls (l ∷ o) p h

one_each : (P : Node → Key → Type 0) (me : Node) (c : Option Key) (ls o : List Line) → HasOne me c ls → ((k : Key) → c ≡ Some k → P me k) → EachChange P o → EachChange P (onto o ls)
one_each P me c [] o p w h = h
one_each P me c (lines.Change q k count ∷ ls) o p w h = plain_each P ls (lines.Change q k count ∷ o) p.1.1 (subst (λ (n : Node). P n k) (sym p.0) (w k p.1.0), h)
one_each P me c (l ∷ ls) o p w h = one_each P me c ls (l ∷ o) p w (tt, h)

one_once : (me : Node) (c : Option Key) (ls o : List Line) → HasOne me c ls → ((k : Key) → c ≡ Some k → IsNew k o) → AreOnce o → AreOnce (onto o ls)
one_once me c [] o p w h = h
one_once me c (lines.Change q k count ∷ ls) o p w h = plain_once ls (lines.Change q k count ∷ o) p.1.1 (w k p.1.0, h)
one_once me c (l ∷ ls) o p w h = one_once me c ls (l ∷ o) p w h

-- a key that none of them has is new
pub new_key : (P : Node → Key → Type 0) (k : Key) (o : List Line) → ((q : Node) (l : Key) → P q l → k ≡ l → ⊥) → EachChange P o → IsNew k o
new_key P k [] w h = tt
new_key P k (lines.Change q l count ∷ o) w h = (w q l h.0, new_key P k o w h.1)
new_key P k (l ∷ o) w h = new_key P k o w h.1

-- ---- a server changed something under a key

by_more : (s : Node) (k : Key) (l : Line) (o : List Line) → HasChangeBy s k o → HasChangeBy s k (l ∷ o)
by_more s k (lines.Change q m count) o h = inr h
by_more s k l o h = h

pub by_onto : (s : Node) (k : Key) (ls o : List Line) → HasChangeBy s k o → HasChangeBy s k (onto o ls)
by_onto s k [] o h = h
by_onto s k (l ∷ ls) o h = by_onto s k ls (l ∷ o) (by_more s k l o h)

pub one_by : (s : Node) (k : Key) (c : Option Key) (ls o : List Line) → HasOne s c ls → c ≡ Some k → HasChangeBy s k (onto o ls)
one_by s k c [] o p e = let no_ : Some k ≡ None = sym e ∙ p in absurd cc
one_by s k c (lines.Change q l count ∷ ls) o p e = by_onto s k ls (lines.Change q l count ∷ o) (inl (p.0, some_of l k (sym p.1.0 ∙ e)))
one_by s k c (l ∷ ls) o p e = one_by s k c ls (l ∷ o) p e

pub of_change : (P : Node → Key → Type 0) (s : Node) (k : Key) (o : List Line) → HasChangeBy s k o → EachChange P o → P s k
of_change P s k [] h all = absurd h
of_change P s k (lines.Change q l count ∷ o) (inl e) all = subst (λ (n : Node). P n k) e.0 (subst (P q) e.1 all.0)
of_change P s k (lines.Change q l count ∷ o) (inr h) all = of_change P s k o h all.1
of_change P s k (l ∷ o) h all = of_change P s k o h all.1

-- ---- what holds after every entry

-- a key of a client, not above its last one, whose callee is this
pub record IsKnown (callees : Key → Node) (clients : ℕ → ClientState) (to : Node) (k : Key) : Type 0 where
  pub client : ℕ
  pub node : k.node ≡ Client client
  pub called : to ≡ callees k
  pub behind : UpTo k.epoch k.number (clients client).epoch (clients client).last

-- it changed something at this server, which keeps it
pub record HasRun (callees : Key → Node) (clients : ℕ → ClientState) (hosts : ℕ → ServerHost) (q : Node) (k : Key) : Type 0 where
  pub server : ℕ
  pub is : q ≡ Server server
  pub known : IsKnown callees clients q k
  pub ran : Above (call_seat k.node (hosts server).state.lasting.kept) k.epoch k.number → ⊥

abbrev pub last_of : ℕ → ClientState → Key
last_of j c = record { node = Client j; epoch = c.epoch; number = c.last }

-- the header, if it is a server's, is that of a reply under such a key
abbrev pub by_key : (Node → Key → Type 0) → Head → Type 0
by_key K h = (i : ℕ) → h.from ≡ Server i → K h.from (answered_key h)

-- what is known of a call is so of its reply
pub by_calls : (K : Node → Key → Type 0) (boot : ℕ) (m : Message) → IfCall (λ h user call. K h.to (key_of h)) m → OfCall (ByClient (λ h user call. by_key K (reply_head boot h))) m.head m.carried
by_calls K boot m w = if_call (λ h user call. K h.to (key_of h)) (λ h user call. by_key K (reply_head boot h)) (λ h user call x i e. x) m w

-- the key of an interrupted step's message
abbrev pub IsCutOf : (Node → Key → Type 0) → Fall → Type 0
IsCutOf K (in_step m clock hit) = IfCall (λ x user call. K x.to (key_of x)) m
IsCutOf K fall = ⊤

abbrev pub HasCut : (Node → Key → Type 0) → Option Fall → Type 0
HasCut K None = ⊤
HasCut K (Some fall) = IsCutOf K fall

cut_by : (K : Node → Key → Type 0) (s : ServerState) (fall : Fall) → IsCutOf K fall → IsCutBy (by_key K) s.lasting.boot s.seats fall
cut_by K s (in_step m clock hit) h = any_call (by_key K) s.lasting.boot s.seats m.head m.carried (by_calls K s.lasting.boot m h)
cut_by K s at_rest h = tt
cut_by K s in_boot h = tt

any_notice : (x : Carried) → OfNotice ⊤ x
any_notice (carried.Call user call) = tt
any_notice (carried.Refusal code) = tt
any_notice (carried.Reply reply) = tt
any_notice carried.Notice = tt

-- a notice may have any header
abbrev pub any_told : Head → Type 0
any_told h = ⊤

-- any may have been told
abbrev any_boot : Node → ℕ → Type 0
any_boot q b = ⊤

pub run_key : (K : Node → Key → Type 0) (i : ℕ) (k : Key) → IsRunBy (by_key K) (Server i) k → K (Server i) k
run_key K i k r = subst (λ (n : Node). K n k) r.1.0 (subst (K r.0.from) r.1.1.0 (r.1.1.1 i r.1.0))

pub record Stands (clients : ℕ → ClientState) (hosts : ℕ → ServerHost) (sent : List Message) (o : List Line) : Type 0 where
  pub callees : Key → Node
  pub own : (j : ℕ) → callees (last_of j (clients j)) ≡ (clients j).callee
  pub calls : Each (IfCall (λ h user call. IsKnown callees clients h.to (key_of h))) sent
  pub answers : Each (IfReply (λ r. by_key (IsKnown callees clients) r.head)) sent
  pub replies : (j : ℕ) → AreReplies (by_key (IsKnown callees clients)) any_told (clients j).seats
  pub sound : (i : ℕ) → IsSound (by_key (IsKnown callees clients)) any_told (memory_of (hosts i).state)
  pub held : (i : ℕ) → Each (IsAnswer (by_key (IsKnown callees clients)) any_told) (replies_of (hosts i).state.backs.held)
  pub falls : (i : ℕ) → HasCut (IsKnown callees clients) (hosts i).down
  pub ran : EachChange (HasRun callees clients hosts) o
  pub once : AreOnce o
  pub stored : (i : ℕ) (n : Node) (seat : Seat) → call_seat n (hosts i).state.lasting.kept ≡ Some seat → HasChangeBy (Server i) (seat_key n seat) o × HasReply n seat

abbrev pub StandsIn : Cell → List Line → Type 0
StandsIn c o = Stands c.clients c.hosts c.sent o

abbrev pub Keeps : List Line → Moved → Type 0
Keeps o m = StandsIn m.cell (onto o m.entry.lines)

-- ---- a step of a server

-- what ran at a server is still kept where this one's keys grew
grown_run : (callees : Key → Node) (clients : ℕ → ClientState) (hosts : ℕ → ServerHost) (i : ℕ) (h : ServerHost) → ((n : Node) (e k : ℕ) → Above (call_seat n h.state.lasting.kept) e k → Above (call_seat n (hosts i).state.lasting.kept) e k) → (q : Node) (k : Key) → HasRun callees clients hosts q k
    → HasRun callees clients (put i h hosts) q k
grown_run callees clients hosts i h grows q k r = record {
  server = r.server;
  is = r.is;
  known = r.known;
  ran = at_put i r.server (λ (x : ServerHost). Above (call_seat k.node x.state.lasting.kept) k.epoch k.number → ⊥) h hosts
      (λ same a. r.ran (subst (λ (j : ℕ). Above (call_seat k.node (hosts j).state.lasting.kept) k.epoch k.number) same (grows k.node k.epoch k.number a))) (λ other. r.ran);
}

-- a key that is to run at its callee, above all that is kept of its caller, ran nowhere
pub not_run : (callees : Key → Node) (clients : ℕ → ClientState) (hosts : ℕ → ServerHost) (i : ℕ) (k : Key) → IsKnown callees clients (Server i) k → Above (call_seat k.node (hosts i).state.lasting.kept) k.epoch k.number → (q : Node) (l : Key) → HasRun callees clients hosts q l → k ≡ l → ⊥
not_run callees clients hosts i k known above q l r same =
    let here : i ≡ r.server = server_number i r.server (known.called ∙ (ap callees same ∙ (sym r.known.called ∙ r.is))) in
    r.ran (subst (λ (j : ℕ). Above (call_seat l.node (hosts j).state.lasting.kept) l.epoch l.number) here (subst (λ (x : Key). Above (call_seat x.node (hosts i).state.lasting.kept) x.epoch x.number) same above))

host_keeps : (clients : ℕ → ClientState) (hosts : ℕ → ServerHost) (sent more : List Message) (o ls : List Line) (i : ℕ) (h : ServerHost) → (S : Stands clients hosts sent o) → Hosts (by_key (IsKnown S.callees clients)) any_told (Server i) (memory_of (hosts i).state) (memory_of h.state) ls
    → Each (IsAnswer (by_key (IsKnown S.callees clients)) any_told) (replies_of h.state.backs.held) → HasCut (IsKnown S.callees clients) h.down → Each (IfCall (λ x user call. IsKnown S.callees clients x.to (key_of x))) more → Each (IfReply (λ r. by_key (IsKnown S.callees clients) r.head)) more → Stands clients (put i h hosts) more (onto o ls)
host_keeps clients hosts sent more o ls i h S H held cut calls answers = record {
  callees = S.callees;
  own = S.own;
  calls = calls;
  answers = answers;
  replies = S.replies;
  sound = λ j. at_put i j (λ (x : ServerHost). IsSound (by_key (IsKnown S.callees clients)) any_told (memory_of x.state)) h hosts (λ same. H.sound) (λ other. S.sound j);
  held = λ j. at_put i j (λ (x : ServerHost). Each (IsAnswer (by_key (IsKnown S.callees clients)) any_told) (replies_of x.state.backs.held)) h hosts (λ same. held) (λ other. S.held j);
  falls = λ j. at_put i j (λ (x : ServerHost). HasCut (IsKnown S.callees clients) x.down) h hosts (λ same. cut) (λ other. S.falls j);
  ran = one_each (HasRun S.callees clients (put i h hosts)) (Server i) H.changed ls o H.one
      (λ k e. record {
        server = i;
        is = refl;
        known = run_key (IsKnown S.callees clients) i k (H.known k e);
        ran = at_put i i (λ (x : ServerHost). Above (call_seat k.node x.state.lasting.kept) k.epoch k.number → ⊥) h hosts (λ same. H.ran k e) (λ other. absurd (other refl));
      })
      (each_change (HasRun S.callees clients hosts) (HasRun S.callees clients (put i h hosts)) (grown_run S.callees clients hosts i h H.grows) o S.ran);
  once = one_once (Server i) H.changed ls o H.one (λ k e. new_key (HasRun S.callees clients hosts) k o (not_run S.callees clients hosts i k (run_key (IsKnown S.callees clients) i k (H.known k e)) (H.new k e)) S.ran) S.once;
  stored = λ j n seat. at_put i j (λ (x : ServerHost). call_seat n x.state.lasting.kept ≡ Some seat → HasChangeBy (Server j) (seat_key n seat) (onto o ls) × HasReply n seat) h hosts
      (λ same e. elim (H.stored n seat e) [
        | inl old ↦ let was = S.stored i n seat old in (subst (λ (q : ℕ). HasChangeBy (Server q) (seat_key n seat) (onto o ls)) same (by_onto (Server i) (seat_key n seat) ls o was.0), was.1)
        | inr new ↦ (subst (λ (q : ℕ). HasChangeBy (Server q) (seat_key n seat) (onto o ls)) same (one_by (Server i) (seat_key n seat) H.changed ls o H.one new.0), new.1)
      ])
      (λ other e. let was = S.stored j n seat e in (by_onto (Server j) (seat_key n seat) ls o was.0, was.1));
}

-- a step that is done
moves_keeps : (c : Cell) (o : List Line) (i : ℕ) (D : Option ℕ) (armed : Armed) (s : Step ServerState) → (S : StandsIn c o) → HostStep (by_key (IsKnown S.callees c.clients)) any_told D (Server i) (c.hosts i).state s → Keeps o (server_moves c i armed s)
moves_keeps c o i D armed s S h =
    host_keeps c.clients c.hosts c.sent (c.sent ++ s.sent) o s.lines i (record { state = s.state; down = None; armed = armed }) S h.hosts h.held tt
    (each_more _ c.sent s.sent S.calls (each_map (IsAnswer (by_key (IsKnown S.callees c.clients)) any_told) _ (λ m a. uncalled_any (λ x user call. IsKnown S.callees c.clients x.to (key_of x)) m a.0) s.sent h.sent))
    (each_more _ c.sent s.sent S.answers (each_map (IsAnswer (by_key (IsKnown S.callees c.clients)) any_told) _ (λ m a. a.1.0) s.sent h.sent))

pub same_hosts : (K : Head → Type 0) (L : Head → Type 0) (me : Node) (x : Memory) (ls : List Line) → IsSound K L x → HasOne me None ls → Hosts K L me x x ls
same_hosts K L me x ls s h = record { changed = None; one = h; known = λ k e. absurd cc; new = λ k e. absurd cc; ran = λ k e a. absurd cc; grows = λ n e k a. a; stored = λ n seat e. inl e; sound = s }

-- one that leaves what it keeps
falls_keeps : (c : Cell) (o : List Line) (i : ℕ) (down : Option Fall) (armed : Armed) (ls : List Line) → (S : StandsIn c o) → HasOne (Server i) None ls → HasCut (IsKnown S.callees c.clients) down
    → Stands c.clients (put i (record (c.hosts i) { down = down; armed = armed }) c.hosts) c.sent (onto o ls)
falls_keeps c o i down armed ls S none cut =
    host_keeps c.clients c.hosts c.sent c.sent o ls i (record (c.hosts i) { down = down; armed = armed }) S (same_hosts (by_key (IsKnown S.callees c.clients)) any_told (Server i) (memory_of (c.hosts i).state) ls (S.sound i) none) (S.held i) cut S.calls S.answers

nothing_keeps : (c : Cell) (o : List Line) → StandsIn c o → Keeps o (voided c)
nothing_keeps c o S = record { callees = S.callees; own = S.own; calls = S.calls; answers = S.answers; replies = S.replies; sound = S.sound; held = S.held; falls = S.falls; ran = (tt, S.ran); once = S.once; stored = S.stored }

either_keeps : (o : List Line) (t : Bool) (m k : Moved) → Keeps o m → Keeps o k → Keeps o (cond t m k)
either_keeps o true m k a b = a
either_keeps o false m k a b = b

-- ---- each input of a server

blow_none : (i : ℕ) (t : Bool) → HasOne (Server i) None (blow_line i t ∷ [])
blow_none i true = refl
blow_none i false = refl

served_keeps : (c : Cell) (o : List Line) (i place : ℕ) (m : Message) (b : Option Blow) → (S : StandsIn c o) → IfCall (λ h user call. IsKnown S.callees c.clients h.to (key_of h)) m → Keeps o (server_served c i place m b)
served_keeps c o i place m None S h =
    moves_keeps c o i _ _ _ S (serves_step (by_key (IsKnown S.callees c.clients)) any_told i (c.hosts i).state c.clock place m (S.sound i) (S.held i) (decides_due (by_key (IsKnown S.callees c.clients)) any_told (Server i) (c.hosts i).state c.clock m refl (S.sound i).seats (any_call (by_key (IsKnown S.callees c.clients)) (c.hosts i).state.lasting.boot (c.hosts i).state.seats m.head m.carried (by_calls (IsKnown S.callees c.clients) (c.hosts i).state.lasting.boot m h)) (λ to. tt)))
served_keeps c o i place m (Some b) S h =
    falls_is (Keeps o) c i (lines.Given place ∷ blow_line i b.stops ∷ []) (in_step m c.clock b) (falls_keeps c o i (Some (in_step m c.clock b)) unarmed (lines.Given place ∷ blow_line i b.stops ∷ []) S (blow_none i b.stops) h)

received_keeps : (c : Cell) (o : List Line) (i place : ℕ) (luck : Luck) (m : Message) (d : Option Fall) → (S : StandsIn c o) → IfCall (λ h user call. IsKnown S.callees c.clients h.to (key_of h)) m → Keeps o (server_given c i place luck m d)
received_keeps c o i place luck m None S h = served_keeps c o i place m (struck (c.hosts i).armed luck (calls_at c i m)) S h
received_keeps c o i place luck m (Some fall) S h = nothing_keeps c o S

stopped_keeps : (c : Cell) (o : List Line) (i : ℕ) (d : Option Fall) → StandsIn c o → Keeps o (server_stopped c i d)
stopped_keeps c o i None S = falls_is (Keeps o) c i (lines.Crash (Server i) ∷ []) at_rest (falls_keeps c o i (Some at_rest) unarmed (lines.Crash (Server i) ∷ []) S refl tt)
stopped_keeps c o i (Some fall) S = nothing_keeps c o S

ends_keeps : (c : Cell) (o : List Line) (i : ℕ) (f : Begun ServerState) (fall : Fall) (out : Outcome) → (S : StandsIn c o) → IsCutOf (IsKnown S.callees c.clients) fall → Begins (by_key (IsKnown S.callees c.clients)) any_told (Server i) (c.hosts i).state f → Keeps o (server_ends c i f fall out)
ends_keeps c o i f fall comes_up S cut b = moves_keeps c o i _ unarmed _ S (starts_step (by_key (IsKnown S.callees c.clients)) any_told i (c.hosts i).state c.clock c.count f b)
ends_keeps c o i f fall fails_early S cut b = falls_is (Keeps o) c i (lines.Fault (Server i) ∷ []) fall (falls_keeps c o i (Some fall) unarmed (lines.Fault (Server i) ∷ []) S refl cut)
ends_keeps c o i f fall fails_midway S cut b =
    stays_is (Keeps o) c i f (lines.Fault (Server i)) in_boot
    (host_keeps c.clients c.hosts c.sent c.sent o (f.before (lines.Fault (Server i) ∷ [])) i (record { state = f.state; down = Some in_boot; armed = unarmed }) S (b.hosts (lines.Fault (Server i) ∷ []) refl) b.held tt S.calls S.answers)
ends_keeps c o i f fall is_full S cut b =
    stays_is (Keeps o) c i f (lines.Full (Server i)) at_rest
    (host_keeps c.clients c.hosts c.sent c.sent o (f.before (lines.Full (Server i) ∷ [])) i (record { state = f.state; down = Some at_rest; armed = unarmed }) S (b.hosts (lines.Full (Server i) ∷ []) refl) b.held tt S.calls S.answers)

restarted_keeps : (c : Cell) (o : List Line) (i : ℕ) (after : Bool) (out : Outcome) (d : Option Fall) → (S : StandsIn c o) → HasCut (IsKnown S.callees c.clients) d → Keeps o (server_restarted c i after out d)
restarted_keeps c o i after out None S cut = nothing_keeps c o S
restarted_keeps c o i after out (Some fall) S cut =
    let f : Begun ServerState = begun_by_disk (Server i) (c.hosts i).state after fall in
    ends_keeps c o i f fall (without_boot_record (can_start f.state) out) S cut (disk_begins (by_key (IsKnown S.callees c.clients)) any_told (Server i) (c.hosts i).state after fall refl (S.sound i) (S.held i) (cut_by (IsKnown S.callees c.clients) (c.hosts i).state fall cut) (λ h to. tt))

stop_keeps : (c : Cell) (o : List Line) (i calls pick : ℕ) (armed : Armed) (d : Option Fall) → (c.hosts i).down ≡ d → StandsIn c o → Keeps o (server_armed c i (sets (c.hosts i) (lines.Stop (Server i) calls pick) armed) d)
stop_keeps c o i calls pick armed None e S = sets_is (Keeps o) c i (lines.Stop (Server i) calls pick) armed (falls_keeps c o i (c.hosts i).down armed (lines.Stop (Server i) calls pick ∷ []) S refl (S.falls i))
stop_keeps c o i calls pick armed (Some fall) e S = nothing_keeps c o S

fail_keeps : (c : Cell) (o : List Line) (i call : ℕ) (armed : Armed) (d : Option Fall) → StandsIn c o → Keeps o (server_armed c i (sets (c.hosts i) (lines.Fail (Server i) call) armed) d)
fail_keeps c o i call armed None S = sets_is (Keeps o) c i (lines.Fail (Server i) call) armed (falls_keeps c o i (c.hosts i).down armed (lines.Fail (Server i) call ∷ []) S refl (S.falls i))
fail_keeps c o i call armed (Some fall) S = nothing_keeps c o S

back_keeps : (c : Cell) (o : List Line) (i : ℕ) (n : Node) (b : Option BackCall) → StandsIn c o → Keeps o (back_timed c i n b)
back_keeps c o i n None S = nothing_keeps c o S
back_keeps c o i n (Some b) S = moves_keeps c o i _ _ _ S (times_step (by_key (IsKnown S.callees c.clients)) any_told i (c.hosts i).state c.clock n b (S.sound i) (S.held i))

timed_keeps : (c : Cell) (o : List Line) (i : ℕ) (n : Node) (d : Option Fall) → StandsIn c o → Keeps o (server_timed c i n d)
timed_keeps c o i n None S = back_keeps c o i n ((c.hosts i).state.backs.calls n) S
timed_keeps c o i n (Some fall) S = nothing_keeps c o S

woken_keeps : (c : Cell) (o : List Line) (i : ℕ) (d : Option Fall) → StandsIn c o → Keeps o (server_wakes c i d)
woken_keeps c o i None S = moves_keeps c o i _ _ _ S (wakes_step (by_key (IsKnown S.callees c.clients)) any_told i (c.hosts i).state c.clock (S.sound i) (S.held i))
woken_keeps c o i (Some fall) S = nothing_keeps c o S

-- ---- a step of a client

-- the callee of its last call, and of those before
abbrev with_callee : Key → Node → (Key → Node) → Key → Node
with_callee key to callees k = cond (same_key k key) to (callees k)

last_key : (n : ℕ) (x y : ClientState) → (y.epoch ≡ x.epoch) × ((y.last ≡ x.last) × (y.callee ≡ x.callee)) → last_of n y ≡ last_of n x
last_key n x y e = ap (λ (a : ℕ). a_key (Client n) a y.last) e.0 ∙ ap (λ (b : ℕ). a_key (Client n) x.epoch b) e.1.0

-- the callee of a key that was known is the same
kept_by : (t : Bool) (callees : Key → Node) (n : ℕ) (x y : ClientState) (k : Key) → same_key k (last_of n y) ≡ t → callees (last_of n x) ≡ x.callee → GoesOn (caller_at x) (caller_at y) → (k.node ≡ Client n → UpTo k.epoch k.number x.epoch x.last) → cond t y.callee (callees k) ≡ callees k
kept_by false callees n x y k t own g behind = refl
kept_by true callees n x y k t own (inl e) behind = let same : k ≡ last_of n y = same_key-true k (last_of n y) t in e.1.1 ∙ (sym own ∙ ap callees (sym (same ∙ last_key n x y e)))
kept_by true callees n x y k t own (inr l) behind =
    let same : k ≡ last_of n y = same_key-true k (last_of n y) t in
    absurd (below_not x.epoch x.last y.epoch y.last l (subst (λ (z : Key). UpTo z.epoch z.number x.epoch x.last) same (behind (ap (λ (z : Key). z.node) same))))

later_behind : (e k : ℕ) (x y : ClientState) → GoesOn (caller_at x) (caller_at y) → UpTo e k x.epoch x.last → UpTo e k y.epoch y.last
later_behind e k x y (inl s) h = subst (λ (a : ℕ). UpTo e k a y.last) (sym s.0) (subst (λ (b : ℕ). UpTo e k x.epoch b) (sym s.1.0) h)
later_behind e k x y (inr l) h = below_up_to e k y.epoch y.last (up_to_below e k x.epoch x.last y.epoch y.last h l)

known_later : (callees : Key → Node) (clients : ℕ → ClientState) (n : ℕ) (y : ClientState) → callees (last_of n (clients n)) ≡ (clients n).callee → GoesOn (caller_at (clients n)) (caller_at y) → (to : Node) (k : Key) → IsKnown callees clients to k
    → IsKnown (with_callee (last_of n y) y.callee callees) (put n y clients) to k
known_later callees clients n y own g to k h = record {
  client = h.client;
  node = h.node;
  called = h.called ∙ sym (kept_by (same_key k (last_of n y)) callees n (clients n) y k refl own g
      (λ is. subst (λ (j : ℕ). UpTo k.epoch k.number (clients j).epoch (clients j).last) (client_number h.client n (sym h.node ∙ is)) h.behind));
  behind = at_put n h.client (λ (x : ClientState). UpTo k.epoch k.number x.epoch x.last) y clients
      (λ same. later_behind k.epoch k.number (clients n) y g (subst (λ (j : ℕ). UpTo k.epoch k.number (clients j).epoch (clients j).last) (sym same) h.behind)) (λ other. h.behind);
}

-- its last call is known
head_key : (n : ℕ) (y : ClientState) (h : Head) → IsLastOf n (caller_at y) h → key_of h ≡ last_of n y
head_key n y h l = ap (λ (m : Node). a_key m h.epoch h.number) l.from ∙ (ap (λ (a : ℕ). a_key (Client n) a h.number) l.epoch ∙ ap (λ (b : ℕ). a_key (Client n) y.epoch b) l.number)

own_callee : (key : Key) (to : Node) (callees : Key → Node) → with_callee key to callees key ≡ to
own_callee key to callees = ap (λ (t : Bool). cond t to (callees key)) (same_key-refl key)

last_known : (callees : Key → Node) (clients : ℕ → ClientState) (n : ℕ) (y : ClientState) (h : Head) → IsLastOf n (caller_at y) h → IsKnown (with_callee (last_of n y) y.callee callees) (put n y clients) h.to (key_of h)
last_known callees clients n y h l = record {
  client = n;
  node = l.from;
  called = l.to ∙ sym (ap (with_callee (last_of n y) y.callee callees) (head_key n y h l) ∙ own_callee (last_of n y) y.callee callees);
  behind = at_put n n (λ (x : ClientState). UpTo h.epoch h.number x.epoch x.last) y clients (λ same. up_to_same h.epoch h.number y.epoch y.last l.epoch l.number) (λ other. absurd (other refl));
}

other_callee : (callees : Key → Node) (n j : ℕ) (x y : ClientState) → (n ≡ j → ⊥) → with_callee (last_of n y) y.callee callees (last_of j x) ≡ callees (last_of j x)
other_callee callees n j x y ne =
    ap (λ (t : Bool). cond (t && (nat_eq x.epoch y.epoch && nat_eq x.last y.last)) y.callee (callees (last_of j x))) (node_apart (Client j) (Client n) (λ e. ne (sym (client_number j n e))))

cut_over : (K L : Node → Key → Type 0) → ((q : Node) (k : Key) → K q k → L q k) → (d : Option Fall) → HasCut K d → HasCut L d
cut_over K L w None h = tt
cut_over K L w (Some at_rest) h = tt
cut_over K L w (Some in_boot) h = tt
cut_over K L w (Some (in_step m clock hit)) h = if_call (λ x user call. K x.to (key_of x)) (λ x user call. L x.to (key_of x)) (λ x user call. w x.to (key_of x)) m h

run_later : (callees more : Key → Node) (clients then : ℕ → ClientState) (hosts : ℕ → ServerHost) → ((q : Node) (k : Key) → IsKnown callees clients q k → IsKnown more then q k) → (q : Node) (k : Key) → HasRun callees clients hosts q k → HasRun more then hosts q k
run_later callees more clients then hosts w q k r = record { server = r.server; is = r.is; known = w q k r.known; ran = r.ran }

pub replies_over : (K L : Head → Type 0) → ((h : Head) → K h → L h) → (seats : List Seat) → AreReplies K any_told seats → AreReplies L any_told seats
replies_over K L w seats h n seat m e r = answer_over K L any_told any_told w (λ g x. x) m (h n seat m e r)

pub sound_over : (K L : Head → Type 0) → ((h : Head) → K h → L h) → (x : Memory) → IsSound K any_told x → IsSound L any_told x
sound_over K L w x h = record { seats = replies_over K L w x.seats h.seats; kept = replies_over K L w x.kept h.kept; lower = h.lower }

told_over : (K L : Node → Key → Type 0) → ((q : Node) (k : Key) → K q k → L q k) → (m : Message) → IfReply (λ r. by_key K r.head) m → IfReply (λ r. by_key L r.head) m
told_over K L w m h = if_reply (λ r. by_key K r.head) (λ r. by_key L r.head) (λ r z i e. w r.head.from (answered_key r.head) (z i e)) m h

client_keeps : (c : Cell) (o : List Line) (n : ℕ) (D : Option ℕ) (s : Step ClientState) → (S : StandsIn c o) → Tame (by_key (IsKnown S.callees c.clients)) any_told any_boot D n (caller_at (c.clients n)) s → Keeps o (client_moves c n s)
client_keeps c o n D s S t =
    let more : Key → Node = with_callee (last_of n s.state) s.state.callee S.callees in
    let then : ℕ → ClientState = put n s.state c.clients in
    let K : Node → Key → Type 0 = IsKnown S.callees c.clients in
    let L : Node → Key → Type 0 = IsKnown more then in
    let w : (q : Node) (k : Key) → K q k → L q k = known_later S.callees c.clients n s.state (S.own n) t.goes in
    let wh : (h : Head) → by_key K h → by_key L h = λ h z i e. w h.from (answered_key h) (z i e) in
    record {
      callees = more;
      own = λ j. at_put n j (λ (x : ClientState). more (last_of j x) ≡ x.callee) s.state c.clients
          (λ same. subst (λ (i : ℕ). more (last_of i s.state) ≡ s.state.callee) same (own_callee (last_of n s.state) s.state.callee S.callees))
          (λ other. other_callee S.callees n j (c.clients j) s.state other ∙ S.own j);
      calls = each_more _ c.sent s.sent
          (each_map _ _ (if_call (λ x user call. IsKnown S.callees c.clients x.to (key_of x)) (λ x user call. IsKnown more then x.to (key_of x)) (λ x user call. w x.to (key_of x))) c.sent S.calls)
          (each_map _ _ (if_call (λ x user call. IsLastOf n (caller_at s.state) x) (λ x user call. IsKnown more then x.to (key_of x)) (λ x user call. last_known S.callees c.clients n s.state x)) s.sent t.sent);
      answers = each_more _ c.sent s.sent (each_map _ _ (told_over K L w) c.sent S.answers) (each_map _ _ (told_over K L w) s.sent t.answers);
      replies = λ j. at_put n j (λ (x : ClientState). AreReplies (by_key L) any_told x.seats) s.state c.clients (λ same. replies_over (by_key K) (by_key L) wh s.state.seats t.kept) (λ other. replies_over (by_key K) (by_key L) wh (c.clients j).seats (S.replies j));
      sound = λ i. sound_over (by_key K) (by_key L) wh (memory_of (c.hosts i).state) (S.sound i);
      held = λ i. each_map (IsAnswer (by_key K) any_told) (IsAnswer (by_key L) any_told) (answer_over (by_key K) (by_key L) any_told any_told wh (λ h x. x)) (replies_of (c.hosts i).state.backs.held) (S.held i);
      falls = λ i. cut_over (IsKnown S.callees c.clients) (IsKnown more then) w (c.hosts i).down (S.falls i);
      ran = plain_each (HasRun more then c.hosts) s.lines o (mild_unchanging s.lines t.lines) (each_change _ _ (run_later S.callees more c.clients then c.hosts w) o S.ran);
      once = plain_once s.lines o (mild_unchanging s.lines t.lines) S.once;
      stored = λ i m seat e. let was = S.stored i m seat e in (by_onto (Server i) (seat_key m seat) s.lines o was.0, was.1);
    }

-- ---- a step of the location database

loc_keeps : (c : Cell) (o : List Line) (l : LocHost) (ls : List Line) (ms : List Message) → StandsIn c o → IsLocStep c l ls ms → Keeps o (loc_becomes c l ls ms)
loc_keeps c o l ls ms S st = record {
  callees = S.callees;
  own = S.own;
  calls = each_more _ c.sent ms S.calls (each_map IsOfLoc _ (λ m h. uncalled_any (λ x user call. IsKnown S.callees c.clients x.to (key_of x)) m h.1) ms st.sent);
  answers = each_more _ c.sent ms S.answers (each_map IsOfLoc _ (λ m h. loc_reply (λ r. by_key (IsKnown S.callees c.clients) r.head) m (λ e i f. absurd (no_server_loc m.head i e f)) h) ms st.sent);
  replies = S.replies;
  sound = S.sound;
  held = S.held;
  falls = S.falls;
  ran = plain_each (HasRun S.callees c.clients c.hosts) ls o (loc_unchanging ls st.lines) S.ran;
  once = plain_once ls o (loc_unchanging ls st.lines) S.once;
  stored = λ i m seat e. let was = S.stored i m seat e in (by_onto (Server i) (seat_key m seat) ls o was.0, was.1);
}

-- ---- every input

to_keeps : (c : Cell) (o : List Line) (p : ℕ) (luck : Luck) (m : Message) (to : Node) → IsSoundLoc c.loc.state → message_at c.sent p ≡ Some m → m.head.to ≡ to → (S : StandsIn c o) → IfCall (λ h user call. IsKnown S.callees c.clients h.to (key_of h)) m → Keeps o (given_to c p luck m to)
to_keeps c o p luck m (Server i) s at to S h = either_keeps o (has_host c i) _ _ (received_keeps c o i p luck m (c.hosts i).down S h) (nothing_keeps c o S)
to_keeps c o p luck m (Client n) s at to S h = either_keeps o (is_away c n) _ _ (nothing_keeps c o S) (client_keeps c o n _ _ S (guest_tame (by_key (IsKnown S.callees c.clients)) any_told any_boot n (c.clients n) c.clock p m (c.clients n).seeking (λ b. tt) (S.replies n) (given_tame (by_key (IsKnown S.callees c.clients)) any_told any_boot n (c.clients n) c.clock p m (S.replies n) (any_call (by_key (IsKnown S.callees c.clients)) (c.clients n).epoch (c.clients n).seats m.head m.carried (by_calls (IsKnown S.callees c.clients) (c.clients n).epoch m h)) tt (any_notice m.carried))))
to_keeps c o p luck m Loc s at to S h = loc_received_to (Keeps o) c p luck m c.loc.down refl (nothing_keeps c o S) (λ l ls ms st. loc_keeps c o l ls ms S st) s at to
to_keeps c o p luck m (Admin n) s at to S h = nothing_keeps c o S

at_keeps : (c : Cell) (o : List Line) (p : ℕ) (luck : Luck) (m : Option Message) → message_at c.sent p ≡ m → IsSoundLoc c.loc.state → StandsIn c o → Keeps o (given_at c p luck m)
at_keeps c o p luck None e s S = nothing_keeps c o S
at_keeps c o p luck (Some m) e s S = to_keeps c o p luck m m.head.to s e refl S (each_at _ c.sent p m e S.calls)

begun_keeps : (c : Cell) (o : List Line) (n : ℕ) (act : Act) (g : Option Going) → StandsIn c o → Keeps o (begun_by c n act g)
begun_keeps c o n act None S = client_keeps c o n _ _ S (begins_tame (by_key (IsKnown S.callees c.clients)) any_told any_boot n (c.clients n) c.clock act (S.replies n))
begun_keeps c o n act (Some g) S = nothing_keeps c o S

missed_keeps : (c : Cell) (o : List Line) (n : ℕ) (k : Option Seek) → StandsIn c o → Keeps o (sought_for c n k)
missed_keeps c o n None S = nothing_keeps c o S
missed_keeps c o n (Some k) S = client_keeps c o n _ _ S (missed_tame (by_key (IsKnown S.callees c.clients)) any_told any_boot n (c.clients n) k (S.replies n))

waited_keeps : (c : Cell) (o : List Line) (n : ℕ) (g : Option Going) → (c.clients n).running ≡ g → StandsIn c o → Keeps o (waited_by c n g)
waited_keeps c o n None e S = missed_keeps c o n (c.clients n).seeking S
waited_keeps c o n (Some act) e S = client_keeps c o n _ _ S (waits_tame (by_key (IsKnown S.callees c.clients)) any_told any_boot n (c.clients n) act e (S.replies n))

ticked_keeps : (c : Cell) (o : List Line) (n : ℕ) → StandsIn c o → Stands c.clients c.hosts c.sent (lines.Tick n ∷ o)
ticked_keeps c o n S = record { callees = S.callees; own = S.own; calls = S.calls; answers = S.answers; replies = S.replies; sound = S.sound; held = S.held; falls = S.falls; ran = (tt, S.ran); once = S.once; stored = S.stored }

pub moved_keeps : (c : Cell) (o : List Line) (x : Input) → IsSoundLoc c.loc.state → StandsIn c o → Keeps o (moved c x)
unfolding moved
moved_keeps c o (begins n act) s S = either_keeps o (is_away c n) _ _ (nothing_keeps c o S) (begun_keeps c o n act (act_of (c.clients n)) S)
moved_keeps c o (gives p luck) s S = at_keeps c o p luck (message_at c.sent p) refl s S
moved_keeps c o (waits n) s S = either_keeps o (is_away c n) _ _ (nothing_keeps c o S) (waited_keeps c o n (c.clients n).running refl S)
moved_keeps c o (ticks zero) s S = nothing_keeps c o S
moved_keeps c o (ticks (suc n)) s S = ticked_keeps c o (suc n) S
moved_keeps c o (client_stops n) s S = either_keeps o (is_away c n) _ _ (nothing_keeps c o S) (client_keeps c o n _ _ S (falls_tame (by_key (IsKnown S.callees c.clients)) any_told any_boot n c.handed (c.clients n) (λ q. tt)))
moved_keeps c o (client_starts n) s S = either_keeps o (c.away n) _ _ (client_keeps c o n _ _ S (rises_tame (by_key (IsKnown S.callees c.clients)) any_told any_boot n (c.clients n) (S.replies n))) (nothing_keeps c o S)
moved_keeps c o (stops zero) s S = loc_stopped_to (Keeps o) c c.loc.down refl (nothing_keeps c o S) (λ l ls ms st. loc_keeps c o l ls ms S st) s
moved_keeps c o (stops (suc i)) s S = either_keeps o (has_host c (suc i)) _ _ (stopped_keeps c o (suc i) (c.hosts (suc i)).down S) (nothing_keeps c o S)
moved_keeps c o (starts_again zero after out) s S = loc_restarted_to (Keeps o) c after out c.loc.down refl (nothing_keeps c o S) (λ l ls ms st. loc_keeps c o l ls ms S st) s
moved_keeps c o (starts_again (suc i) after out) s S = either_keeps o (has_host c (suc i)) _ _ (restarted_keeps c o (suc i) after out (c.hosts (suc i)).down S (S.falls (suc i))) (nothing_keeps c o S)
moved_keeps c o (sets_stop zero calls pick) s S = loc_armed_to (Keeps o) c (lines.Stop Loc calls pick) _ c.loc.down refl (stop_line calls pick) (nothing_keeps c o S) (λ l ls ms st. loc_keeps c o l ls ms S st) s
moved_keeps c o (sets_stop (suc i) calls pick) s S = either_keeps o (has_host c (suc i)) _ _ (stop_keeps c o (suc i) calls pick _ (c.hosts (suc i)).down refl S) (nothing_keeps c o S)
moved_keeps c o (sets_fail zero call) s S = loc_armed_to (Keeps o) c (lines.Fail Loc call) _ c.loc.down refl (fail_line call) (nothing_keeps c o S) (λ l ls ms st. loc_keeps c o l ls ms S st) s
moved_keeps c o (sets_fail (suc i) call) s S = either_keeps o (has_host c (suc i)) _ _ (fail_keeps c o (suc i) call _ (c.hosts (suc i)).down S) (nothing_keeps c o S)
moved_keeps c o (server_waits i n) s S = either_keeps o (has_host c i) _ _ (timed_keeps c o i n (c.hosts i).down S) (nothing_keeps c o S)
moved_keeps c o (wakes i) s S = either_keeps o (has_host c i) _ _ (woken_keeps c o i (c.hosts i).down S) (nothing_keeps c o S)
moved_keeps c o nothing s S = nothing_keeps c o S

-- ---- a run

pub run_stands : (xs : List Input) (c : Cell) (past es : List Entry) (end : Cell) → IsSoundLoc c.loc.state → StandsIn c (lines_of past) → Leads c xs es end → StandsIn end (lines_of (past_of past es))
run_stands [] c past [] end s S r = subst (λ (x : Cell). StandsIn x (lines_of past)) (sym r) S
run_stands [] c past (e ∷ es) end s S r = absurd r
run_stands (x ∷ xs) c past [] end s S r = absurd r
run_stands (x ∷ xs) c past (e ∷ es) end s S r =
    subst (λ (y : Entry). StandsIn end (lines_of (past_of (y ∷ past) es))) (sym r.0) (run_stands xs (moved c x).cell ((moved c x).entry ∷ past) es end (sound_moved c past x s) (moved_keeps c (lines_of past) x s S) r.1)

pub first_stands : (s : Script) → StandsIn (start s) []
first_stands s = record {
  callees = λ k. Server 1;
  own = λ j. refl;
  calls = tt;
  answers = tt;
  replies = λ j n seat m e. absurd cc;
  sound = λ i. record { seats = λ n seat m e. absurd cc; kept = λ n seat m e. absurd cc; lower = λ n e k a. a };
  held = λ i. tt;
  falls = λ i. tt;
  ran = tt;
  once = tt;
  stored = λ i n seat e. absurd cc;
}

pub once : (s : Script) (h : List Entry) (end : Cell) → RunsTo h s end → ChangesOnce h
once s h end r = (run_stands r.inputs (start s) [] h end (first_sound s) (first_stands s) r.leads).once

-- ---- the pairs of calls, and of replies

pub known_pair : (callees : Key → Node) (clients : ℕ → ClientState) (q : Node) (k : Key) (j : ℕ) → k.node ≡ Client j → IsKnown callees clients q k → UpTo k.epoch k.number (clients j).epoch (clients j).last
known_pair callees clients q k j e h = subst (λ (i : ℕ). UpTo k.epoch k.number (clients i).epoch (clients i).last) (client_number h.client j (sym h.node ∙ e)) h.behind

reply_pair : (callees : Key → Node) (clients : ℕ → ClientState) (i j : ℕ) (h : Head) (x : Carried) → HasCode x → h.from ≡ Server i → h.to ≡ Client j → OfReply (OfClient h.to (by_key (IsKnown callees clients) h)) x → IsKnownTo (clients j) h
reply_pair callees clients i j h (carried.Refusal code) is from to w = known_pair callees clients h.from (answered_key h) j to (by_client j h.to (by_key (IsKnown callees clients) h) to w i from)
reply_pair callees clients i j h (carried.Reply reply) is from to w = known_pair callees clients h.from (answered_key h) j to (by_client j h.to (by_key (IsKnown callees clients) h) to w i from)
reply_pair callees clients i j h x is from to w = absurd is

pub pairs_known : (s : Script) (h : List Entry) (end : Cell) → RunsTo h s end → (i j place : ℕ) (m : Message) → message_at end.sent place ≡ Some m → HasCode m.carried → m.head.from ≡ Server i → m.head.to ≡ Client j → IsKnownTo (end.clients j) m.head
pairs_known s h end r i j place m at is from to =
    let S : StandsIn end (lines_of (past_of [] h)) = run_stands r.inputs (start s) [] h end (first_sound s) (first_stands s) r.leads in
    reply_pair S.callees end.clients i j m.head m.carried is from to (each_at _ end.sent place m at S.answers)

-- ---- what the disks keep of callers

pub seat_behind : (t : Bool) (k : Key) (seat : Seat) → pair_below seat.epoch seat.number k.epoch k.number ≡ t → (Above (Some seat) k.epoch k.number → ⊥) → IsUpTo k.epoch k.number seat.epoch seat.number
seat_behind true k seat e not = absurd (not (below-true seat.epoch seat.number k.epoch k.number e))
seat_behind false k seat e not = below-false seat.epoch seat.number k.epoch k.number e

pub seat_of_last : (o : Option Seat) (k : Key) → (Above o k.epoch k.number → ⊥) → (seat : Seat) × ((o ≡ Some seat) × IsUpTo k.epoch k.number seat.epoch seat.number)
seat_of_last None k not = absurd (not tt)
seat_of_last (Some seat) k not = (seat, (refl, seat_behind (pair_below seat.epoch seat.number k.epoch k.number) k seat refl not))

pub durable_changes : (s : Script) (h : List Entry) (end : Cell) → RunsTo h s end → (i : ℕ) → AreChanges (Server i) (end.hosts i).state.lasting.kept (lines_of (past_of [] h))
durable_changes s h end r i =
    let S : StandsIn end (lines_of (past_of [] h)) = run_stands r.inputs (start s) [] h end (first_sound s) (first_stands s) r.leads in
    record {
      told = λ n seat e. (S.stored i n seat e).0;
      reply = λ n seat e. (S.stored i n seat e).1;
      last = λ k x. let ran : HasRun S.callees end.clients end.hosts (Server i) k = of_change (HasRun S.callees end.clients end.hosts) (Server i) k (lines_of (past_of [] h)) x S.ran in
          seat_of_last (call_seat k.node (end.hosts i).state.lasting.kept) k (subst (λ (j : ℕ). Above (call_seat k.node (end.hosts j).state.lasting.kept) k.epoch k.number → ⊥) (server_number ran.server i (sym ran.is)) ran.ran);
    }

-- ---- a call that a server would run

-- it changed nothing yet for that node under a key as late as this one, which is above all that it keeps of it
pub latest_by : (clients : ℕ → ClientState) (hosts : ℕ → ServerHost) (sent : List Message) (o : List Line) (i : ℕ) (k : Key) → Stands clients hosts sent o → Above (call_seat k.node (hosts i).state.lasting.kept) k.epoch k.number → IsLatest (Server i) k o
latest_by clients hosts sent o i k S above l y node =
    let r : HasRun S.callees clients hosts (Server i) l = of_change (HasRun S.callees clients hosts) (Server i) l o y S.ran in
    later_by (call_seat k.node (hosts i).state.lasting.kept) k l above
    (λ z. r.ran (subst (λ (n : ℕ). Above (call_seat l.node (hosts n).state.lasting.kept) l.epoch l.number) (server_number i r.server r.is) (subst (λ (n : Node). Above (call_seat n (hosts i).state.lasting.kept) l.epoch l.number) (sym node) z)))

pub admitted_latest : (c : Cell) (o : List Line) (i : ℕ) (head : Head) → StandsIn c o → admitted (c.hosts i).state.lasting.boot (c.hosts i).state.seats head ≡ pairs.runs → IsLatest (Server i) (called_key head) o
admitted_latest c o i head S runs = latest_by c.clients c.hosts c.sent o i (called_key head) S ((S.sound i).lower head.from head.epoch head.number (runs_admitted (c.hosts i).state.lasting.boot (c.hosts i).state.seats head runs).1)

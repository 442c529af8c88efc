-- Whatever runs was sent: its message stands among those that were sent, also where the step that it began was interrupted.
use Rattle.std.proofs.Common.{◌≡◌, ℕ, Bool, true, false, cond, List, [], ◌∷◌, ◌++◌, Option, Some, None, refl, sym, ap, subst, ◌∙◌, append_assoc}
use Rattle.std.proofs.lemmas.List.{append-nil}
use Rattle.std.specs.Prelude.{⊤, filter}
use Rattle.std.specs.List.{AllByRecursion}
use Rattle.afs_num.specs.declared.messages.Carried.{Carried}
use Rattle.afs_num.specs.declared.messages.Carried.TheVariants as carried
use Rattle.afs_num.specs.declared.messages.Message.{Message}
use Rattle.afs_num.specs.declared.messages.Received.TheVariants.{Whole}
use Rattle.afs_num.specs.declared.types.Head.{Head}
use Rattle.afs_num.specs.declared.types.Node.{Node}
use Rattle.afs_num.specs.declared.types.Node.TheVariants.{Server}
use Rattle.spec_model.specs.Calls.{key_of}
use Rattle.spec_rows.specs.Hosts.{at_rest, begun_from, comes_up, ends, fails_early, fails_midway, in_boot, in_step, is_full, served_by, without_boot_record, struck, Blow, Fall, Host, HostStep, NodeKind, Outcome}
use Rattle.spec_rows.specs.LocRow as loc
use Rattle.spec_rows.specs.LocRow.{loc_decides, LocDecision, LocState}
use Rattle.spec_rows.specs.LocSteps.{loc_kind, LocHost}
use Rattle.spec_rows.specs.Runs.{message_at}
use Rattle.spec_rows.specs.ServerRow as file
use Rattle.spec_rows.specs.ServerRow.{is_client, Decision}
use Rattle.spec_rows.specs.States.{durable_of}
use Rattle.spec_rows.specs.Steps.{Begun}
use Rattle.spec_volrows.specs.NodeHosts.{node_kind, NodeHost}
use Rattle.spec_volrows.specs.VolStates.{NodeState}
use Rattle.spec_volrows.specs.VolSteps as vol
use Rattle.spec_volrows.specs.VolSteps.{node_file_decides, vol_decides, VolDecision}
use Rattle.spec_runs.specs.NodeRuns.{loc_stepped, node_moved, node_start, server_stepped, CellInput, NodeCell, NodeMoved}
use Rattle.law_walks.proofs.EachKind.{any_admin, any_client}
use Rattle.law_places.specs.Accepting.{cell_behind}
use Rattle.law_legal.proofs.BaseLaws.{at_more, at_put}
use Rattle.law_keys.specs.Asked.{HasCall, IsCall, RanWereSent, RepliesHaveCalls, WasAsked, WasSent}
use Rattle.law_keys.specs.Once.{AreInOrder, IsNamed}
use Rattle.law_keys.specs.Ran.{database_ran, ran_by, ran_found, ran_in, ran_of_file, ran_of_loc, ran_of_vol, server_ran, that_changed, unless_early, unless_hit, RanCall}
use Rattle.law_keys.specs.Replied.{IsAnswered, WasRun}
use Rattle.law_keys.proofs.Answering.{any_all, were_run, weaker_each}
use Rattle.law_keys.proofs.Deciding.{vol_decides_so}
use Rattle.law_keys.proofs.Deciding as deciding
use Rattle.law_keys.proofs.EachRan.{each_ran, EachRan}
use Rattle.law_keys.proofs.FileSeats.{file_decides_so}
use Rattle.law_keys.proofs.FileSeats as files
use Rattle.law_keys.proofs.LocSeats.{loc_decides_so}
use Rattle.law_keys.proofs.LocSeats as locs
use Rattle.law_keys.proofs.Memories.{every, every_two}
use Rattle.law_keys.proofs.Walk.{in_order}

-- ---- what a message runs has its header, and is a call

abbrev IsOfMessage : Message → RanCall → Type 0
IsOfMessage m r = (r.head ≡ m.head) × IsCall m.carried

abbrev AreOfMessage : Message → List RanCall → Type 0
AreOfMessage m rs = AllByRecursion (IsOfMessage m) rs

vol_heads : (me : Node) (boot : ℕ) (m : Message) (d : VolDecision) → deciding.OfHead boot m.head d → IsCall m.carried → AreOfMessage m (ran_of_vol me boot d)
vol_heads me boot m vol.drops of is = tt
vol_heads me boot m (vol.tells_boot h) of is = tt
vol_heads me boot m (vol.repeats reply) of is = tt
vol_heads me boot m (vol.replies_to h reply ts last) of is = ((of.0, is), tt)
vol_heads me boot m (vol.dispatches h x) of is = ((of, is), tt)
vol_heads me boot m (vol.saves h x) of is = ((of.0, is), tt)

file_heads : (me : Node) (boot : ℕ) (m : Message) (d : Decision) → files.OfHead m.head d → IsCall m.carried → AreOfMessage m (ran_of_file me boot d)
file_heads me boot m file.drops of is = tt
file_heads me boot m (file.tells_boot h) of is = tt
file_heads me boot m (file.repeats reply) of is = tt
file_heads me boot m (file.refuses h code) of is = ((of, is), tt)
file_heads me boot m (file.shows h r) of is = ((of, is), tt)
file_heads me boot m (file.saves h c) of is = ((of, is), tt)

loc_heads : (boot : ℕ) (m : Message) (d : LocDecision) → locs.OfHead m.head d → IsCall m.carried → AreOfMessage m (ran_of_loc boot d)
loc_heads boot m loc.drops of is = tt
loc_heads boot m (loc.tells_boot h) of is = tt
loc_heads boot m (loc.repeats reply) of is = tt
loc_heads boot m (loc.refuses h code) of is = ((of, is), tt)
loc_heads boot m (loc.shows h reply) of is = ((of.0, is), tt)
loc_heads boot m (loc.saves h c) of is = ((of, is), tt)

abbrev message : Head → Carried → Message
message head c = record { head = head; carried = c }

server_by : (b : Bool) (me : Node) (s : NodeState) (clock : ℕ) (head : Head) (c : Carried) → AreOfMessage (message head c)
    (cond b (ran_of_file me s.file.lasting.boot (node_file_decides me s clock (Whole (message head c)))) (ran_of_vol me s.file.lasting.boot (vol_decides me (durable_of s.file.lasting) s.vol (Whole (message head c)))))
server_by true me s clock head (carried.Call user call) = file_heads me s.file.lasting.boot (message head (carried.Call user call)) (node_file_decides me s clock (Whole (message head (carried.Call user call)))) (file_decides_so me s clock (message head (carried.Call user call))).of tt
server_by false me s clock head (carried.Call user call) =
    vol_heads me s.file.lasting.boot (message head (carried.Call user call)) (vol_decides me (durable_of s.file.lasting) s.vol (Whole (message head (carried.Call user call)))) (vol_decides_so me (durable_of s.file.lasting) s.vol (message head (carried.Call user call))).of tt
server_by true me s clock head (carried.Refusal code) = tt
server_by false me s clock head (carried.Refusal code) = tt
server_by true me s clock head (carried.Reply reply) = tt
server_by false me s clock head (carried.Reply reply) = tt
server_by true me s clock head carried.Notice = tt
server_by false me s clock head carried.Notice = tt

server_heads : (me : Node) (s : NodeState) (clock : ℕ) (m : Message) → AreOfMessage m (server_ran me s clock m)
server_heads me s clock m = server_by (is_client m.head.from) me s clock m.head m.carried

database_by : (s : LocState) (clock : ℕ) (head : Head) (c : Carried) → AreOfMessage (message head c) (database_ran s clock (message head c))
database_by s clock head (carried.Call user call) = loc_heads s.lasting.boot (message head (carried.Call user call)) (loc_decides s (Whole (message head (carried.Call user call)))) (loc_decides_so s (message head (carried.Call user call))).of tt
database_by s clock head (carried.Refusal code) = tt
database_by s clock head (carried.Reply reply) = tt
database_by s clock head carried.Notice = tt

database_heads : (s : LocState) (clock : ℕ) (m : Message) → AreOfMessage m (database_ran s clock m)
database_heads s clock m = database_by s clock m.head m.carried

-- ---- what was sent stays so

abbrev IsSent : List Message → RanCall → Type 0
IsSent sent r = (place : ℕ) × ((m : Message) × ((message_at sent place ≡ Some m) × (IsCall m.carried × (m.head ≡ r.head))))

sent_later : (sent more : List Message) (r : RanCall) → IsSent sent r → IsSent (sent ++ more) r
sent_later sent more r h = (h.0, (h.1.0, (at_more sent more h.0 h.1.0 h.1.1.0, h.1.1.1)))

all_later : (sent more : List Message) (rs : List RanCall) → AllByRecursion (IsSent sent) rs → AllByRecursion (IsSent (sent ++ more)) rs
all_later sent more rs h = every (IsSent sent) (IsSent (sent ++ more)) rs (sent_later sent more) h

-- the message of an interrupted step
abbrev FallSent : List Message → Option Fall → Type 0
FallSent sent None = ⊤
FallSent sent (Some at_rest) = ⊤
FallSent sent (Some (in_step m clock b)) = (place : ℕ) × (message_at sent place ≡ Some m)
FallSent sent (Some in_boot) = ⊤

fall_later : (sent more : List Message) (o : Option Fall) → FallSent sent o → FallSent (sent ++ more) o
fall_later sent more None h = tt
fall_later sent more (Some at_rest) h = tt
fall_later sent more (Some (in_step m clock b)) h = (h.0, at_more sent more h.0 m h.1)
fall_later sent more (Some in_boot) h = tt

of_sent : (sent : List Message) (place : ℕ) (m : Message) (rs : List RanCall) → message_at sent place ≡ Some m → AreOfMessage m rs → AllByRecursion (IsSent sent) rs
of_sent sent place m rs at h = every (IsOfMessage m) (IsSent sent) rs (λ r k. (place, (m, (at, (k.1, sym k.0))))) h

filter_by : (P : RanCall → Type 0) (b : Bool) (r : RanCall) (rs : List RanCall) → P r → AllByRecursion P rs → AllByRecursion P (cond b (r ∷ rs) rs)
filter_by P true r rs h k = (h, k)
filter_by P false r rs h k = k

that_all : (P : RanCall → Type 0) (rs : List RanCall) → AllByRecursion P rs → AllByRecursion P (filter that_changed rs)
that_all P [] h = tt
that_all P (r ∷ rs) h = filter_by P (that_changed r) r (filter that_changed rs) h.0 (that_all P rs h.1)

-- ---- hosts of either kind

module _ {S : Type 0} (kind : NodeKind S) (ran : S → ℕ → Message → List RanCall) (heads : (s : S) (clock : ℕ) (m : Message) → AreOfMessage m (ran s clock m)) where
  served_sent : (h : Host S) (clock place : ℕ) (m : Message) (sent : List Message) (o : Option Blow) → message_at sent place ≡ Some m
      → AllByRecursion (IsSent sent) (unless_hit o (ran h.state clock m)) × FallSent sent (served_by kind h clock place m o).host.down
  served_sent h clock place m sent None at = (of_sent sent place m (ran h.state clock m) at (heads h.state clock m), tt)
  served_sent h clock place m sent (Some b) at = (tt, (place, at))

  found_sent : (s : S) (sent : List Message) (after : Bool) (fall : Fall) → FallSent sent (Some fall) → AllByRecursion (IsSent sent) (ran_found ran s after fall)
  found_sent s sent after at_rest h = tt
  found_sent s sent false (in_step m clock b) h = tt
  found_sent s sent true (in_step m clock b) h = that_all (IsSent sent) (ran s clock m) (of_sent sent h.0 m (ran s clock m) h.1 (heads s clock m))
  found_sent s sent after in_boot h = tt

  ended_sent : (h : Host S) (clock count : ℕ) (f : Begun S) (fall : Fall) (o : Outcome) (sent : List Message) (new : List RanCall) → FallSent sent (Some fall) → AllByRecursion (IsSent sent) new
      → AllByRecursion (IsSent sent) (unless_early o new) × FallSent sent (ends kind h clock count f fall o).host.down
  ended_sent h clock count f fall comes_up sent new k all = (all, tt)
  ended_sent h clock count f fall fails_early sent new k all = (tt, k)
  ended_sent h clock count f fall fails_midway sent new k all = (all, tt)
  ended_sent h clock count f fall is_full sent new k all = (all, tt)

-- ---- a cell

record FallsSent (c : NodeCell) : Type 0 where
  hosts : (i : ℕ) → FallSent c.sent (c.hosts i).down
  loc : FallSent c.sent c.loc.down

record Moved (c : NodeCell) (m : NodeMoved) (new : List RanCall) : Type 0 where
  ran : AllByRecursion (IsSent m.cell.sent) new
  falls : FallsSent m.cell
  more : List Message
  grows : m.cell.sent ≡ c.sent ++ more

module _ (c : NodeCell) (h : FallsSent c) where
  server_moved : (i : ℕ) (s : HostStep NodeState) (new : List RanCall) → AllByRecursion (IsSent c.sent) new × FallSent c.sent s.host.down → Moved c (server_stepped c i s) new
  server_moved i s new k = record {
    ran = all_later c.sent s.sent new k.0;
    falls = record {
      hosts = λ j. at_put i j (λ (x : NodeHost). FallSent (c.sent ++ s.sent) x.down) s.host c.hosts (λ same. fall_later c.sent s.sent s.host.down k.1) (λ other. fall_later c.sent s.sent (c.hosts j).down (h.hosts j));
      loc = fall_later c.sent s.sent c.loc.down h.loc;
    };
    more = s.sent;
    grows = refl;
  }

  loc_moved : (s : HostStep LocState) (new : List RanCall) → AllByRecursion (IsSent c.sent) new × FallSent c.sent s.host.down → Moved c (loc_stepped c s) new
  loc_moved s new k = record {
    ran = all_later c.sent s.sent new k.0;
    falls = record { hosts = λ j. fall_later c.sent s.sent (c.hosts j).down (h.hosts j); loc = fall_later c.sent s.sent s.host.down k.1 };
    more = s.sent;
    grows = refl;
  }

  -- neither a server nor the database
  other_moved : (m : NodeMoved) (ms : List Message) → m.cell.sent ≡ c.sent ++ ms → m.cell.hosts ≡ c.hosts → m.cell.loc ≡ c.loc → Moved c m []
  other_moved m ms sent hosts loc = record {
    ran = tt;
    falls = record {
      hosts = λ j. subst (λ (f : ℕ → NodeHost). FallSent m.cell.sent (f j).down) (sym hosts) (subst (λ (l : List Message). FallSent l (c.hosts j).down) (sym sent) (fall_later c.sent ms (c.hosts j).down (h.hosts j)));
      loc = subst (λ (l : LocHost). FallSent m.cell.sent l.down) (sym loc) (subst (λ (l : List Message). FallSent l c.loc.down) (sym sent) (fall_later c.sent ms c.loc.down h.loc));
    };
    more = ms;
    grows = sent;
  }

  still_moved : (m : NodeMoved) → m.cell.sent ≡ c.sent → m.cell.hosts ≡ c.hosts → m.cell.loc ≡ c.loc → Moved c m []
  still_moved m sent hosts loc = record {
    ran = tt;
    falls = record {
      hosts = λ j. subst (λ (f : ℕ → NodeHost). FallSent m.cell.sent (f j).down) (sym hosts) (subst (λ (l : List Message). FallSent l (c.hosts j).down) (sym sent) (h.hosts j));
      loc = subst (λ (l : LocHost). FallSent m.cell.sent l.down) (sym loc) (subst (λ (l : List Message). FallSent l c.loc.down) (sym sent) h.loc);
    };
    more = [];
    grows = sent ∙ sym (append-nil c.sent);
  }

  sends_each : EachRan (Moved c) c
  sends_each = record {
    void = still_moved _ refl refl refl;
    ticks = λ n. still_moved _ refl refl refl;
    serves = λ i place luck m up g. server_moved i _ _ (served_sent (node_kind (Server i)) (server_ran (Server i)) (server_heads (Server i)) (c.hosts i) c.clock place m c.sent (struck (c.hosts i).armed luck ((node_kind (Server i)).device_calls (c.hosts i).state c.clock (Whole m))) g.sent);
    restarts = λ i after o fall down. server_moved i _ _
        (ended_sent (node_kind (Server i)) (server_ran (Server i)) (server_heads (Server i)) (c.hosts i) c.clock c.count (begun_from (node_kind (Server i)) (c.hosts i).state after fall) fall (without_boot_record ((node_kind (Server i)).can_start (begun_from (node_kind (Server i)) (c.hosts i).state after fall).state) o) c.sent (ran_found (server_ran (Server i)) (c.hosts i).state after fall)
        (subst (FallSent c.sent) down (h.hosts i)) (found_sent (node_kind (Server i)) (server_ran (Server i)) (server_heads (Server i)) (c.hosts i).state c.sent after fall (subst (FallSent c.sent) down (h.hosts i))));
    crashes = λ i up. server_moved i _ [] (tt, tt);
    stop_set = λ i calls pick up. server_moved i _ [] (tt, h.hosts i);
    fail_set = λ i call up. server_moved i _ [] (tt, h.hosts i);
    piece_late = λ i n p up. server_moved i _ [] (tt, tt);
    break_late = λ i n b up. server_moved i _ [] (tt, tt);
    wakes = λ i up. server_moved i _ [] (tt, tt);
    loc_serves = λ place luck m up g. loc_moved _ _ (served_sent loc_kind database_ran database_heads c.loc c.clock place m c.sent (struck c.loc.armed luck (loc_kind.device_calls c.loc.state c.clock (Whole m))) g.sent);
    loc_restarts = λ after o fall down. loc_moved _ _
        (ended_sent loc_kind database_ran database_heads c.loc c.clock c.count (begun_from loc_kind c.loc.state after fall) fall (without_boot_record (loc_kind.can_start (begun_from loc_kind c.loc.state after fall).state) o) c.sent (ran_found database_ran c.loc.state after fall)
        (subst (FallSent c.sent) down h.loc) (found_sent loc_kind database_ran database_heads c.loc.state c.sent after fall (subst (FallSent c.sent) down h.loc)));
    loc_crashes = λ up. loc_moved _ [] (tt, tt);
    loc_stop_set = λ calls pick up. loc_moved _ [] (tt, h.loc);
    loc_fail_set = λ call up. loc_moved _ [] (tt, h.loc);
    clients = any_client (λ (m : NodeMoved). Moved c m []) c (λ n s. other_moved _ s.sent refl refl refl) (λ n. other_moved _ [] refl refl refl) (λ n. other_moved _ [] refl refl refl);
    admins = any_admin (λ (m : NodeMoved). Moved c m []) c (λ n s. other_moved _ s.sent refl refl refl) (λ n. other_moved _ [] refl refl refl) (λ n. other_moved _ [] refl refl refl);
  }

-- ---- a run

all_both : (P : RanCall → Type 0) (rs new : List RanCall) → AllByRecursion P rs → AllByRecursion P new → AllByRecursion P (rs ++ new)
all_both P [] new h k = k
all_both P (r ∷ rs) new h k = (h.0, all_both P rs new h.1 k)

record Led (c : NodeCell) (xs : List CellInput) : Type 0 where
  ran : AllByRecursion (IsSent (cell_behind c xs).sent) (ran_in c xs)
  more : List Message
  grows : (cell_behind c xs).sent ≡ c.sent ++ more

run_sends : (c : NodeCell) (xs : List CellInput) → FallsSent c → Led c xs
run_sends c [] h = record { ran = tt; more = []; grows = sym (append-nil c.sent) }
run_sends c (x ∷ xs) h =
    let one : Moved c (node_moved c x) (ran_by c x) = each_ran (Moved c) c (sends_each c h) x in
    let d : NodeCell = (node_moved c x).cell in
    let rest : Led d xs = run_sends d xs one.falls in
    record {
      ran = all_both (IsSent (cell_behind d xs).sent) (ran_by c x) (ran_in d xs) (subst (λ (l : List Message). AllByRecursion (IsSent l) (ran_by c x)) (sym rest.grows) (all_later d.sent rest.more (ran_by c x) one.ran)) rest.ran;
      more = one.more ++ rest.more;
      grows = rest.grows ∙ (ap (λ (l : List Message). l ++ rest.more) one.grows ∙ append_assoc c.sent one.more rest.more);
    }

pub ran_sent : RanWereSent
ran_sent s inputs =
    every (IsSent (cell_behind (node_start s) inputs).sent) (WasSent (cell_behind (node_start s) inputs)) (ran_in (node_start s) inputs)
    (λ r k. record { place = k.0; message = k.1.0; at = k.1.1.0; is_call = k.1.1.1.0; head = k.1.1.1.1 }) (run_sends (node_start s) inputs (record { hosts = λ i. tt; loc = tt })).ran

-- ---- and so was what is answered

all_named : (before rs : List RanCall) → AreInOrder before rs → AllByRecursion IsNamed rs
all_named before [] h = tt
all_named before (r ∷ rs) h = (h.0.1, all_named (r ∷ before) rs h.1)

abbrev IsKnown : NodeCell → RanCall → Type 0
IsKnown c r = WasSent c r × IsNamed r

pub replies_called : RepliesHaveCalls
replies_called s inputs =
    let c : NodeCell = cell_behind (node_start s) inputs in
    let rs : List RanCall = ran_in (node_start s) inputs in
    let known : AllByRecursion (IsKnown c) rs = every_two (WasSent c) IsNamed (IsKnown c) rs (λ r k l. (k, l)) (ran_sent s inputs) (all_named [] rs (in_order s inputs)) in
    weaker_each (WasRun rs) (HasCall c) c
    (λ m was told. any_all (λ (r : RanCall). IsAnswered r m) (IsKnown c) (WasAsked c m) rs
    (λ r k z. record {
      place = z.0.place;
      call = z.0.message;
      at = z.0.at;
      is_call = z.0.is_call;
      key = ap key_of z.0.head ∙ k.key;
      to = ap (λ (x : Head). x.to) z.0.head ∙ (z.1.callee ∙ k.callee);
      boot = ap (λ (x : Head). x.boot) z.0.head ∙ (z.1.boot ∙ k.boot);
      opcode = ap (λ (x : Head). x.opcode) z.0.head ∙ k.opcode;
    }) (was told) known)
    (were_run s inputs)

-- What a file server's step does to what its node remembers of callers; and the node's other steps.
use Rattle.std.proofs.Common.{◌≡◌, ◌⊎◌, inl, inr, ℕ, Bool, true, false, cond, List, [], Option, Some, None, Result, Ok, Err, refl, sym, subst, arith}
use Rattle.std.specs.Prelude.{⊤, filter}
use Rattle.afs_num.specs.Nodes.{same_node}
use Rattle.afs_num.specs.declared.calls.FsCall.{FsCall}
use Rattle.afs_num.specs.declared.calls.FsCall.TheVariants as calls
use Rattle.afs_num.specs.declared.messages.Call.TheVariants as ask
use Rattle.afs_num.specs.declared.messages.Carried.{Carried}
use Rattle.afs_num.specs.declared.messages.Carried.TheVariants as carried
use Rattle.afs_num.specs.declared.messages.Message.{Message}
use Rattle.afs_num.specs.declared.messages.Received.TheVariants.{Whole}
use Rattle.afs_num.specs.declared.types.Head.{Head}
use Rattle.afs_num.specs.declared.types.Node.{Node}
use Rattle.spec_ideal.specs.Operations.{op, the_user, volume_called, Caller}
use Rattle.spec_ideal.specs.Operations as ideal
use Rattle.spec_ideal.specs.Tables.{get, Table}
use Rattle.spec_model.specs.Calls.{admitted, call_seat, call_seated, Admitted}
use Rattle.spec_model.specs.Calls as pairs
use Rattle.spec_records.specs.Durable.{has_room, Stored}
use Rattle.spec_rows.specs.ServerRow.{begun_after, change_reply_to, decided, does, drops, is_client, lasting_after, record_of, refuses, repeats, saves, seat_for, several, shows, tells_boot, Change, Decision, Sight}
use Rattle.spec_rows.specs.ServerSteps.{back_timeout_row, wake_row}
use Rattle.spec_rows.specs.States.{durable_of, BackCall, Lasting, Seat, ServerState}
use Rattle.spec_rows.specs.Steps.{Begun}
use Rattle.spec_volrows.specs.FileRow.{closed_code, file_admits, file_carried, file_decides, file_hears, file_in, file_row, file_serves, file_sights, file_start, file_volume, unless_closed}
use Rattle.spec_volrows.specs.VolRow.{holds_of}
use Rattle.spec_volrows.specs.VolStates.{NodeState}
use Rattle.spec_volrows.specs.VolSteps.{node_back_timeout_row, node_start_row, node_wake_row}
use Rattle.law_legal.proofs.BaseLaws.{runs_admitted, same_node-true}
use Rattle.law_keys.specs.Ran.{ran_of_file, that_changed}
use Rattle.law_keys.proofs.Deciding.{MayRun}
use Rattle.law_keys.proofs.Memories.{pair, pair_in, pair_of, placed_own, placed_sits, seated_own, seated_sits, Done, Finds, IsAbove, Keeps, Memory, Rises, Runs, Steps, Stores}
use Rattle.law_keys.proofs.VolSeats.{above_pair, cut_memory, memory, memory_by}

-- ---- of which header a decision is

abbrev pub OfHead : Head → Decision → Type 0
OfHead head (refuses h code) = h ≡ head
OfHead head (shows h r) = h ≡ head
OfHead head (saves h c) = h ≡ head
OfHead head drops = ⊤
OfHead head (tells_boot h) = ⊤
OfHead head (repeats reply) = ⊤

module _ (holds : Table ℕ) (s : ServerState) (clock : ℕ) (head : Head) where
  either_of : (b : Bool) (x y : Decision) → OfHead head x → OfHead head y → OfHead head (cond b x y)
  either_of true x y h k = h
  either_of false x y h k = k

  decided_of : (caller : Caller) (call : FsCall) (id : ℕ) (st : Stored) (r : ideal.Result) → OfHead head (decided s clock head caller call id st r)
  decided_of caller call id st (ideal.refused code) = refl
  decided_of caller call id st (ideal.reads shown) = refl
  decided_of caller call id st ideal.no_operation = refl
  decided_of caller call id st (ideal.changes es n) = either_of (has_room (durable_of s.lasting) (record_of s.lasting.boot head clock (record { id = id; caller = caller; call = call; before = st; edits = es; shown = n }))) _ _ refl refl

  closed_of : (o : Option ℕ) (d : Decision) → OfHead head d → OfHead head (unless_closed head o d)
  closed_of None d h = h
  closed_of (Some code) d h = refl

  in_of : (caller : Caller) (call : FsCall) (id : ℕ) (o : Option Stored) → OfHead head (file_in holds s clock head caller call id o)
  in_of caller call id None = refl
  in_of caller call id (Some st) = closed_of (closed_code st (get id holds)) _ (decided_of caller call id st (op id caller call st.volume))

  volume_of : (caller : Caller) (call : FsCall) (o : Option ℕ) → OfHead head (file_volume holds s clock head caller call o)
  volume_of caller call None = refl
  volume_of caller call (Some id) = in_of caller call id (get id s.lasting.volumes)

  several_of : (caller : Caller) (r : Result (List Sight) ℕ) → OfHead head (several head caller r)
  several_of caller (Ok xs) = refl
  several_of caller (Err code) = refl

  serves_of : (user : List ℕ) (call : FsCall) → OfHead head (file_serves holds s clock head user call)
  serves_of user (calls.GiveUpCallBacks fids callbacks) = refl
  serves_of user calls.GetTime = refl
  serves_of user (calls.BulkStatus fids) = several_of (the_user user) (file_sights holds s.lasting (the_user user) fids)
  serves_of user call = volume_of (the_user user) call (volume_called call)

  carried_of : (c : Carried) → OfHead head (file_carried holds s clock head c)
  carried_of (carried.Call user (ask.File call)) = serves_of user call
  carried_of (carried.Call user (ask.Volume call)) = refl
  carried_of (carried.Call user (ask.Location call)) = refl
  carried_of (carried.Refusal code) = tt
  carried_of (carried.Reply reply) = tt
  carried_of carried.Notice = tt

-- ---- a call that runs

abbrev pub RunsBy : Node → ℕ → List Seat → Head → Decision → Type 0
RunsBy me boot seats head (refuses h code) = MayRun me boot seats head
RunsBy me boot seats head (shows h r) = MayRun me boot seats head
RunsBy me boot seats head (saves h c) = MayRun me boot seats head
RunsBy me boot seats head drops = ⊤
RunsBy me boot seats head (tells_boot h) = ⊤
RunsBy me boot seats head (repeats reply) = ⊤

runs_all : (me : Node) (boot : ℕ) (seats : List Seat) (head : Head) (d : Decision) → MayRun me boot seats head → RunsBy me boot seats head d
runs_all me boot seats head (refuses h code) k = k
runs_all me boot seats head (shows h r) k = k
runs_all me boot seats head (saves h c) k = k
runs_all me boot seats head drops k = tt
runs_all me boot seats head (tells_boot h) k = tt
runs_all me boot seats head (repeats reply) k = tt

pub record Decides (me : Node) (s : ServerState) (head : Head) (d : Decision) : Type 0 where
  pub of : OfHead head d
  pub runs : RunsBy me s.lasting.boot s.seats head d

module _ (me : Node) (holds : Table ℕ) (s : ServerState) (clock : ℕ) (head : Head) where
  admits_decides : (c : Carried) (a : Admitted Message) → head.to ≡ me → admitted s.lasting.boot s.seats head ≡ a → Decides me s head (file_admits holds s clock head (Whole (record { head = head; carried = c })) a)
  admits_decides c pairs.runs to is =
      let k = runs_admitted s.lasting.boot s.seats head is in
      record { of = either_of holds s clock head (is_client head.from) _ _ (carried_of holds s clock head c) refl; runs = runs_all me s.lasting.boot s.seats head _ (to, (k.0, k.1)) }
  admits_decides c (pairs.kept reply) to is = record { of = tt; runs = tt }
  admits_decides c pairs.in_progress to is = record { of = tt; runs = tt }
  admits_decides c pairs.older to is = record { of = tt; runs = tt }
  admits_decides c (pairs.wrong_boot boot) to is = record { of = tt; runs = tt }

  called_by : (b : Bool) (c : Carried) → same_node head.to me ≡ b → Decides me s head (cond b (file_admits holds s clock head (Whole (record { head = head; carried = c })) (admitted s.lasting.boot s.seats head)) drops)
  called_by true c e = admits_decides c (admitted s.lasting.boot s.seats head) (same_node-true head.to me e) refl
  called_by false c e = record { of = tt; runs = tt }

  hears_decides : (c : Carried) → Decides me s head (file_hears me holds s clock head c)
  hears_decides (carried.Call user call) = called_by (same_node head.to me) (carried.Call user call) refl
  hears_decides (carried.Refusal code) = record { of = tt; runs = tt }
  hears_decides (carried.Reply reply) = record { of = tt; runs = tt }
  hears_decides carried.Notice = record { of = tt; runs = tt }

-- ---- what is decided is done

-- of a client the file server's seat is its last one
last_by : (b : Bool) (n : Node) (x : Seat) (f w v : Option (ℕ × ℕ)) → ((x.caller ≡ n) × (w ≡ Some (pair x))) ⊎ (w ≡ f) → ((x.caller ≡ n) × (cond b w v ≡ Some (pair x))) ⊎ (cond b w v ≡ cond b f v)
last_by true n x f w v (inl new) = inl new
last_by true n x f w v (inr same) = inr same
last_by false n x f w v h = inr refl

own_last : (b : Bool) (w v : Option (ℕ × ℕ)) (p : ℕ × ℕ) → w ≡ Some p → b ≡ true → cond b w v ≡ Some p
own_last true w v p e is = e
own_last false w v p e is = absurd cc

above_last : (b : Bool) (f v : Option (ℕ × ℕ)) (e n : ℕ) → b ≡ true → IsAbove f e n → IsAbove (cond b f v) e n
above_last true f v e n is h = h
above_last false f v e n is h = absurd cc

module _ (me : Node) (s : ServerState) (vol : List Seat) where
  abbrev here : Memory
  here = memory_by s.lasting s.seats vol

  client_runs : (head : Head) (changed : Bool) → MayRun me s.lasting.boot s.seats head → is_client head.from ≡ true → Runs me here (record { callee = me; boot = s.lasting.boot; head = head; changed = changed })
  client_runs head changed may is = record {
    callee = refl;
    boot = refl;
    above = above_last (is_client head.from) (pair_of (call_seat head.from s.seats)) (pair_of (call_seat head.from vol)) head.epoch head.number is (above_pair (call_seat head.from s.seats) head.epoch head.number may.1.1);
    named = record { callee = may.0; boot = may.1.0 };
  }

  takes_done : (l : Lasting) (head : Head) (reply : Message) (changed : Bool) → MayRun me s.lasting.boot s.seats head → is_client head.from ≡ true
      → Stores here (memory_by l (call_seated (seat_for head reply) s.seats) vol) (record { callee = me; boot = s.lasting.boot; head = head; changed = changed })
      → Done me here (memory_by l (call_seated (seat_for head reply) s.seats) vol) (record { callee = me; boot = s.lasting.boot; head = head; changed = changed })
  takes_done l head reply changed may is stores = record {
    runs = client_runs head changed may is;
    stores = stores;
    own = own_last (is_client head.from) (pair_of (call_seat head.from (call_seated (seat_for head reply) s.seats))) (pair_of (call_seat head.from vol)) (pair_in head) (seated_own (seat_for head reply) s.seats) is;
    last = λ n. last_by (is_client n) n (seat_for head reply) (pair_of (call_seat n s.seats)) (pair_of (call_seat n (call_seated (seat_for head reply) s.seats))) (pair_of (call_seat n vol)) (seated_sits (seat_for head reply) s.seats n);
  }

  none_stored : (w : List Seat) (head : Head) → Stores here (memory_by s.lasting w vol) (record { callee = me; boot = s.lasting.boot; head = head; changed = false })
  none_stored w head = record { boot = refl; own = λ did. absurd cc; kept = λ n. inr refl }

  change_stored : (w : List Seat) (clock : ℕ) (head : Head) (c : Change) → Stores here (memory_by (lasting_after head clock c s.lasting) w vol) (record { callee = me; boot = s.lasting.boot; head = head; changed = true })
  change_stored w clock head c = record {
    boot = refl;
    own = λ did. placed_own (seat_for head (change_reply_to s.lasting.boot head clock c)) s.lasting.kept;
    kept = λ n. placed_sits (seat_for head (change_reply_to s.lasting.boot head clock c)) s.lasting.kept n;
  }

  does_steps : (clock place : ℕ) (d : Decision) (head : Head) → OfHead head d → RunsBy me s.lasting.boot s.seats head d → is_client head.from ≡ true
      → Steps me here (memory_by (does me s clock place d []).state.lasting (does me s clock place d []).state.seats vol) (ran_of_file me s.lasting.boot d)
  does_steps clock place drops head of runs is = record { boot = refl; last = λ n. refl; kept = λ n. refl }
  does_steps clock place (tells_boot h) head of runs is = record { boot = refl; last = λ n. refl; kept = λ n. refl }
  does_steps clock place (repeats reply) head of runs is = record { boot = refl; last = λ n. refl; kept = λ n. refl }
  does_steps clock place (refuses h code) head of runs is =
      takes_done s.lasting h _ false (subst (MayRun me s.lasting.boot s.seats) (sym of) runs) (subst (λ (y : Head). is_client y.from ≡ true) (sym of) is) (none_stored _ h)
  does_steps clock place (shows h r) head of runs is =
      takes_done s.lasting h _ false (subst (MayRun me s.lasting.boot s.seats) (sym of) runs) (subst (λ (y : Head). is_client y.from ≡ true) (sym of) is) (none_stored _ h)
  does_steps clock place (saves h c) head of runs is =
      takes_done (lasting_after h clock c s.lasting) h _ true (subst (MayRun me s.lasting.boot s.seats) (sym of) runs) (subst (λ (y : Head). is_client y.from ≡ true) (sym of) is) (change_stored _ clock h c)

  finds_by : (clock : ℕ) (d : Decision) (head : Head) → OfHead head d → RunsBy me s.lasting.boot s.seats head d → is_client head.from ≡ true
      → Finds me here (memory_by (begun_after me s clock d).state.lasting (begun_after me s clock d).state.seats vol) (filter that_changed (ran_of_file me s.lasting.boot d))
  finds_by clock drops head of runs is = record { boot = omega (arith); kept = λ n. refl }
  finds_by clock (tells_boot h) head of runs is = record { boot = omega (arith); kept = λ n. refl }
  finds_by clock (repeats reply) head of runs is = record { boot = omega (arith); kept = λ n. refl }
  finds_by clock (refuses h code) head of runs is = record { boot = omega (arith); kept = λ n. refl }
  finds_by clock (shows h r) head of runs is = record { boot = omega (arith); kept = λ n. refl }
  finds_by clock (saves h c) head of runs is = record {
    runs = client_runs h true (subst (MayRun me s.lasting.boot s.seats) (sym of) runs) (subst (λ (y : Head). is_client y.from ≡ true) (sym of) is);
    stores = change_stored _ clock h c;
  }

-- ---- the node's steps

abbrev pub client_decides : Node → NodeState → ℕ → Message → Decision
client_decides me s clock m = file_decides me (holds_of s.vol.transactions) s.file clock (Whole m)

pub file_decides_so : (me : Node) (s : NodeState) (clock : ℕ) (m : Message) → Decides me s.file m.head (client_decides me s clock m)
file_decides_so me s clock m = hears_decides me (holds_of s.vol.transactions) s.file clock m.head m.carried

pub file_steps : (me : Node) (s : NodeState) (clock place : ℕ) (m : Message) → is_client m.head.from ≡ true
    → Steps me (memory s) (memory_by (file_row me (holds_of s.vol.transactions) s.file clock place (Whole m)).state.lasting (file_row me (holds_of s.vol.transactions) s.file clock place (Whole m)).state.seats s.vol.seats) (ran_of_file me s.file.lasting.boot (client_decides me s clock m))
unfolding file_row
file_steps me s clock place m is =
    let k : Decides me s.file m.head _ = file_decides_so me s clock m in
    does_steps me s.file s.vol.seats clock place (client_decides me s clock m) m.head k.of k.runs is

pub file_finds : (me : Node) (s : NodeState) (clock : ℕ) (m : Message) → is_client m.head.from ≡ true
    → Finds me (memory s) (cut_memory s (begun_after me s.file clock (client_decides me s clock m))) (filter that_changed (ran_of_file me s.file.lasting.boot (client_decides me s clock m)))
file_finds me s clock m is =
    let k : Decides me s.file m.head _ = file_decides_so me s clock m in
    finds_by me s.file s.vol.seats clock (client_decides me s clock m) m.head k.of k.runs is

pub back_keeps : (me : Node) (s : NodeState) (clock : ℕ) (n : Node) (c : BackCall) → Keeps (memory s) (memory (node_back_timeout_row me s clock n c).state)
unfolding node_back_timeout_row back_timeout_row
back_keeps me s clock n c = record { boot = refl; last = λ m. refl; kept = λ m. refl }

pub wake_keeps : (me : Node) (s : NodeState) (clock : ℕ) → Keeps (memory s) (memory (node_wake_row me s clock).state)
unfolding node_wake_row wake_row
wake_keeps me s clock = record { boot = refl; last = λ m. refl; kept = λ m. refl }

-- ---- its restart

both_same : (b : Bool) (o : Option (ℕ × ℕ)) → cond b o o ≡ o
both_same true o = refl
both_same false o = refl

pub start_rises : (me : Node) (clock count : ℕ) (f : Begun ServerState) (vol : List Seat) → Rises (memory_by f.state.lasting f.state.seats vol) (memory (node_start_row me clock count f).state)
unfolding node_start_row file_start
start_rises me clock count f vol = record { boot = omega (arith); last = λ n. both_same (is_client n) (pair_of (call_seat n f.state.lasting.kept)); kept = λ n. refl }

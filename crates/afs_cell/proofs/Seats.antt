-- What a server's calls tell, as what happened at its seat.
use Rattle.std.proofs.Common.{refl, ap, sym, subst, ◌∙◌, ◌≡◌, ℕ, List, [], ◌∷◌, ◌++◌, true, Option, Some, None, inl, inr, ◌≤◌, ◌+◌, false, arith, length}
use Rattle.std.specs.Prelude.{IsSome}
use Rattle.afs_num.specs.declared.messages.Message.{Message}
use Rattle.afs_num.specs.declared.messages.Received.TheVariants.{Whole}
use Rattle.afs_num.specs.declared.types.Node.{Node}
use Rattle.afs_num.specs.declared.types.Node.TheVariants.{Server}
use Rattle.spec_history.specs.declared.lines.Line.{Line}
use Rattle.spec_history.specs.declared.lines.Line.TheVariants as lines
use Rattle.spec_history.specs.declared.lines.Outs.{Outs}
use Rattle.afs_disk.specs.Disk.{Rose}
use Rattle.spec_model.specs.Messages.{messages_spelled, parcels_read, received}
use Rattle.spec_rows.specs.States.{BackCall}
use Rattle.spec_volrows.specs.NodeHosts.{node_kind, node_timed_out, node_woken, piece_timed_out, NodeHost}
use Rattle.spec_volrows.specs.VolStates.{NodeState, PieceCall}
use Rattle.spec_rows.specs.Hosts.{HostStep}
use Rattle.afs_node.specs.Seen.{node_seen}
use Rattle.afs_host.specs.Seats.{Resting}
use Rattle.afs_serverhost.specs.Seats.{disk_of, waits_for, GoesOn, IsDown, IsStepDown, IsStepUp, IsUp, OnlyDraws, ServerRunning}
use Rattle.afs_host.specs.Serving.{HasServed}
use Rattle.afs_host.specs.Starting.{HasStarted}
use Rattle.afs_host.specs.declared.seats.Seat.TheVariants.{Down, Up}
use Rattle.afs_serverhost.proofs.Stepping.{waits_idle, waits_late, IsLate}
use Rattle.afs_clients.specs.Happening.{ClientTells}
use Rattle.afs_cell.specs.SeatSteps.{GaveOut, HasHeard, HasStep, HasTimedOut, IsFallen, IsSeatOf, IsSeatStep, IsVoidServer, SeatHappens, SeatKeeps}
use Rattle.afs_serverhost.specs.Seated.{IsReady, ServerSeat}
use Rattle.afs_clients.specs.declared.happening.Happened.{Happened}
use Rattle.afs_clients.specs.declared.happening.Happened.TheVariants as happened
use Rattle.afs_clients.specs.declared.happening.ServerInput.TheVariants as input

module _ {D : Type 0} (seen : D → Option (List ℕ)) (may_leave : D → List ℕ → Type 0) (faults limit : D → ℕ) where
  pub step_up : (you : Node) (r : ServerRunning D) (before : List Line) (outs : Outs) (s : HostStep NodeState) → IsStepUp r before outs s → IsSeatStep seen may_leave limit you (Up r) before outs s
  step_up you r before outs s h = record { host = h.host; lines = h.lines; sent = h.sent }

  -- a server that stays up, or comes up, with a message
  served_up : (me : Node) (you : Node) (h : NodeHost) (clock place : ℕ) (m : Message) (r : ServerRunning D) (outs : Outs) (rose : Type 0) → me ≡ you → HasServed (node_kind me) h clock place m (IsStepUp r (lines.Given place ∷ []) outs) rose
      → HasServed (node_kind you) h clock place m (IsSeatStep seen may_leave limit you (Up r) (lines.Given place ∷ []) outs) rose
  served_up me you h clock place m r outs rose own s =
      subst (λ (k : Node). HasServed (node_kind k) h clock place m (IsSeatStep seen may_leave limit you (Up r) (lines.Given place ∷ []) outs) rose) own
      (record { luck = s.luck; is_luck = s.is_luck; is = step_up you r (lines.Given place ∷ []) outs _ s.is; blame = s.blame })

  step_down : (you : Node) (me : Node) (r : Resting D) (front ls : List Line) (outs : Outs) (s : HostStep NodeState) → me ≡ you → outs.lines ≡ ls → outs.parcels ≡ [] → IsStepDown seen may_leave limit me r (front ++ ls) s → IsSeatStep seen may_leave limit you (Down r) front outs s
  step_down you me r front ls outs s own told none h = record {
    host = subst (λ (k : Node). IsDown seen may_leave limit k r s.host) own h.host;
    lines = ap (λ (x : List Line). front ++ x) told ∙ h.lines;
    sent = ap parcels_read none ∙ ap messages_spelled (sym h.sent);
  }

  served_down : (me : Node) (you : Node) (h : NodeHost) (clock place : ℕ) (m : Message) (r : Resting D) (line : Line) (outs : Outs) (rose : Type 0) → me ≡ you → ClientTells line outs
      → HasServed (node_kind me) h clock place m (IsStepDown seen may_leave limit me r (lines.Given place ∷ line ∷ [])) rose → HasServed (node_kind you) h clock place m (IsSeatStep seen may_leave limit you (Down r) (lines.Given place ∷ []) outs) rose
  served_down me you h clock place m r line outs rose own tells s =
      subst (λ (k : Node). HasServed (node_kind k) h clock place m (IsSeatStep seen may_leave limit you (Down r) (lines.Given place ∷ []) outs) rose) own
      (record { luck = s.luck; is_luck = s.is_luck; is = step_down you me r (lines.Given place ∷ []) (line ∷ []) outs _ own tells.lines tells.sent s.is; blame = s.blame })

  pub heard_up : (you : Node) (clock place : ℕ) (bytes : List ℕ) (seat : ServerSeat D) (was r : ServerRunning D) (outs : Outs) → seat ≡ Up was → IsSeatOf you seat
      → ((h : NodeHost) → IsUp was h → (m : Message) → received bytes ≡ Whole m → (place : ℕ) → HasServed (node_kind was.store.node) h clock place m (IsStepUp r (lines.Given place ∷ []) outs) (Rose (faults (disk_of was)) (faults (disk_of r))))
      → SeatHappens seen may_leave faults limit you (lines.Given place ∷ []) IsFallen (HasHeard you clock place bytes) seat (Up r) (happened.Step outs)
  heard_up you clock place bytes seat was r outs is own served =
      subst (λ (s : ServerSeat D). IsSeatOf you s → SeatHappens seen may_leave faults limit you (lines.Given place ∷ []) IsFallen (HasHeard you clock place bytes) s (Up r) (happened.Step outs)) (sym is)
      (λ mine tell h up. (up.down, λ m whole. served_up was.store.node you h clock place m r outs _ mine (served h up m whole place))) own

  pub heard_down : (you : Node) (clock place : ℕ) (bytes : List ℕ) (seat : ServerSeat D) (was : ServerRunning D) (r : Resting D) (line : Line) (outs : Outs) → seat ≡ Up was → IsSeatOf you seat → ClientTells line outs
      → ((h : NodeHost) → IsUp was h → (m : Message) → received bytes ≡ Whole m → (place : ℕ) → HasServed (node_kind was.store.node) h clock place m (IsStepDown seen may_leave limit was.store.node r (lines.Given place ∷ line ∷ [])) (Rose (faults (disk_of was)) (faults r.disk)))
      → SeatHappens seen may_leave faults limit you (lines.Given place ∷ []) IsFallen (HasHeard you clock place bytes) seat (Down r) (happened.Step outs)
  heard_down you clock place bytes seat was r line outs is own tells served =
      subst (λ (s : ServerSeat D). IsSeatOf you s → SeatHappens seen may_leave faults limit you (lines.Given place ∷ []) IsFallen (HasHeard you clock place bytes) s (Down r) (happened.Step outs)) (sym is)
      (λ mine tell h up. (up.down, λ m whole. served_down was.store.node you h clock place m r line outs _ mine tells (served h up m whole place))) own

  -- its call was timed out
  timed_by : (you me : Node) (clock : ℕ) (callee : Node) (h : NodeHost) (r : ServerRunning D) (outs : Outs) → me ≡ you → IsLate h callee
      → ((b : BackCall) → h.state.file.backs.calls callee ≡ Some b → IsStepUp r [] outs (node_timed_out me h clock callee b))
      → (h.state.file.backs.calls callee ≡ None → (c : PieceCall) → h.state.vol.calls callee ≡ Some c → IsStepUp r [] outs (piece_timed_out me h clock callee c))
      → HasTimedOut you clock callee h (IsSeatStep seen may_leave limit you (Up r) [] outs)
  timed_by you me clock callee h r outs own (inl (b, called)) breaks pieces =
      inl (b, (called, subst (λ (k : Node). IsSeatStep seen may_leave limit you (Up r) [] outs (node_timed_out k h clock callee b)) own (step_up you r [] outs _ (breaks b called))))
  timed_by you me clock callee h r outs own (inr (none, (c, called))) breaks pieces =
      inr (c, ((none, called), subst (λ (k : Node). IsSeatStep seen may_leave limit you (Up r) [] outs (piece_timed_out k h clock callee c)) own (step_up you r [] outs _ (pieces none c called))))

  pub timed : (you : Node) (clock count : ℕ) (callee : Node) (was r : ServerRunning D) (outs : Outs) → was.store.node ≡ you → waits_for was callee ≡ true
      → ((h : NodeHost) → IsUp was h → (b : BackCall) → h.state.file.backs.calls callee ≡ Some b → IsStepUp r [] outs (node_timed_out was.store.node h clock callee b))
      → ((h : NodeHost) → IsUp was h → h.state.file.backs.calls callee ≡ None → (c : PieceCall) → h.state.vol.calls callee ≡ Some c → IsStepUp r [] outs (piece_timed_out was.store.node h clock callee c))
      → SeatHappens seen may_leave faults limit you [] (IsVoidServer (input.TimeOut callee)) (HasStep you clock count (input.TimeOut callee)) (Up was) (Up r) (happened.Step outs)
  timed you clock count callee was r outs own waits breaks pieces = λ tell h up. (up.down, timed_by you was.store.node clock callee h r outs own (waits_late was h callee up waits) (breaks h up) (pieces h up))

  -- time has passed
  pub woke : (you : Node) (clock : ℕ) (was r : ServerRunning D) (outs : Outs) → was.store.node ≡ you → ((h : NodeHost) → IsUp was h → IsStepUp r [] outs (node_woken was.store.node h clock))
      → SeatHappens seen may_leave faults limit you [] (IsVoidServer input.Wake) (HasStep you clock 0 input.Wake) (Up was) (Up r) (happened.Step outs)
  woke you clock was r outs own woken = λ tell h up.
      (up.down, subst (λ (k : Node). IsSeatStep seen may_leave limit you (Up r) [] outs (node_woken k h clock)) own (step_up you r [] outs _ (woken h up)))

  -- nothing waits for this node
  pub idle : (you : Node) (clock count : ℕ) (callee : Node) (was : ServerRunning D) → waits_for was callee ≡ false
      → SeatHappens seen may_leave faults limit you [] (IsVoidServer (input.TimeOut callee)) (HasStep you clock count (input.TimeOut callee)) (Up was) (Up was) happened.Nothing
  idle you clock count callee was waits = (refl, λ h up. inr (waits_idle was h callee up waits))

  -- it began again
  pub started_up : (you : Node) (clock count : ℕ) (old : Resting D) (r : ServerRunning D) (outs : Outs)
      → (IsSome (seen old.disk) → (h : NodeHost) (was : IsDown seen may_leave limit you old h) → HasStarted (node_kind you) h clock count was.fall (IsStepUp r [] outs) (Rose (faults old.disk) (faults (disk_of r))))
      → SeatHappens seen may_leave faults limit you [] (IsVoidServer input.Restart) (HasStep you clock count input.Restart) (Down old) (Up r) (happened.Step outs)
  started_up you clock count old r outs started = λ tell h was.
      let s = started tell h was in
      (was.fall, (was.down, record { after = s.after; may = s.may; outcome = s.outcome; is = step_up you r [] outs _ s.is; blame = s.blame }))

  pub started_down : (you : Node) (clock count : ℕ) (old r : Resting D) (ls : List Line) (outs : Outs) → outs.lines ≡ ls → outs.parcels ≡ []
      → (IsSome (seen old.disk) → (h : NodeHost) (was : IsDown seen may_leave limit you old h) → HasStarted (node_kind you) h clock count was.fall (IsStepDown seen may_leave limit you r ls) (Rose (faults old.disk) (faults r.disk)))
      → SeatHappens seen may_leave faults limit you [] (IsVoidServer input.Restart) (HasStep you clock count input.Restart) (Down old) (Down r) (happened.Step outs)
  started_down you clock count old r ls outs told none started = λ tell h was.
      let s = started tell h was in
      (was.fall, (was.down, record { after = s.after; may = s.may; outcome = s.outcome; is = step_down you you r [] ls outs _ refl told none s.is; blame = s.blame }))

-- what a step gave out is told, or can't be
pub gave_out : (P : Happened → Type 0) (outs : Outs) (what : Happened) → GaveOut outs what → P (happened.Step outs) → P happened.Lost → P what
gave_out P outs (happened.Step given) is told lost = subst (λ (o : Outs). P (happened.Step o)) (sym is) told
gave_out P outs happened.Lost is told lost = lost
gave_out P outs happened.Nothing is told lost = absurd is
gave_out P outs happened.Unchanged is told lost = absurd is

-- it can be given what comes next
pub goes_up : {D : Type 0} (me : Node) (calls breaks entries : ℕ) (was r : ServerRunning D) → calls ≤ 4 → breaks ≤ 50 → GoesOn calls breaks was r → IsReady me entries was → IsReady me (entries + 1) r
goes_up {D} me calls breaks entries was r few_calls few_breaks goes ready =
    let device = goes.adds.device_calls in
    let drawn = goes.adds.drawn in
    let owed = goes.adds.owed in
    let was_device = ready.device_calls in
    let was_drawn = ready.calls_drawn in
    let was_owed = ready.breaks_drawn in
    record {
      node = goes.node ∙ ready.node;
      can_run = goes.can_run;
      calls_drawn = omega (arith, drawn, was_drawn);
      breaks_drawn = omega (arith, owed, was_owed, few_breaks);
      device_calls = omega (arith, device, was_device, few_calls);
    }

-- where memory was wanting it is what it was
same_seen : {D : Type 0} (was r : ServerRunning D) → ((h : NodeHost) → IsUp was h → IsUp r h) → node_seen was.memory was.store ≡ node_seen r.memory r.store
same_seen {D} was r is = (is (record { state = node_seen was.memory was.store; down = None; armed = was.armed }) (record { state = refl; down = refl; armed = refl })).state

pub goes_still : {D : Type 0} (me : Node) (entries : ℕ) (was r : ServerRunning D) → ((h : NodeHost) → IsUp was h → IsUp r h) → GoesOn 0 0 was r → IsReady me entries was → IsReady me entries r
goes_still {D} me entries was r is goes ready =
    let seen = same_seen was r is in
    let drawn = ap (λ (s : NodeState). s.file.backs.last_call) seen in
    let owed = ap (λ (s : NodeState). s.file.backs.lists.last_owed + length s.file.backs.lists.promises) seen in
    let device = goes.adds.device_calls in
    let was_device = ready.device_calls in
    let was_drawn = ready.calls_drawn in
    let was_owed = ready.breaks_drawn in
    record {
      node = goes.node ∙ ready.node;
      can_run = goes.can_run;
      calls_drawn = omega (arith, drawn, was_drawn);
      breaks_drawn = omega (arith, owed, was_owed);
      device_calls = omega (arith, device, was_device);
    }

pub keeps_still : {D : Type 0} (seen : D → Option (List ℕ)) (faults limit : D → ℕ) (was r : ServerRunning D) → OnlyDraws was r → SeatKeeps seen faults limit (Up was) (Up r)
keeps_still {D} seen faults limit was r rest =
    let disk : disk_of r ≡ disk_of was = ap (λ (x : ServerRunning D). disk_of x) rest in
    let few = ap faults disk in
    record {
      told = (λ some. subst (λ (d : D). IsSome (seen d)) disk some, λ some. subst (λ (d : D). IsSome (seen d)) (sym disk) some);
      same_limit = ap limit disk;
      no_fewer = omega (arith, few);
    }

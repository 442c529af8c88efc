-- What comes of an input at a node with a disk; and at a server.
use Rattle.std.specs.Prelude.{◌≡◌, ◌≤◌, ◌<◌, ◌+◌, ◌^◌, ◌⊎◌, ◌↔◌, ℕ, List, ◌++◌, Option, Some, None, IsSome}
use Rattle.afs_num.specs.Places.{at_place}
use Rattle.afs_num.specs.declared.messages.Message.{Message}
use Rattle.afs_num.specs.declared.messages.Received.TheVariants.{Whole}
use Rattle.afs_num.specs.declared.types.Node.{Node}
use Rattle.afs_num.specs.declared.types.Node.TheVariants.{Server}
use Rattle.spec_history.specs.declared.lines.Line.{Line}
use Rattle.spec_history.specs.declared.lines.Outs.{Outs}
use Rattle.afs_disk.specs.Disk.{Rose}
use Rattle.spec_model.specs.Messages.{messages_spelled, parcels_read, received}
use Rattle.spec_rows.specs.Hosts.{Fall, Host, crashed, set_to_fail, set_to_stop, HostStep}
use Rattle.spec_rows.specs.States.{BackCall}
use Rattle.spec_volrows.specs.NodeHosts.{node_kind, node_timed_out, node_woken, piece_timed_out, NodeHost}
use Rattle.spec_volrows.specs.VolStates.{NodeState, PieceCall}
use Rattle.afs_server.specs.Seen.{CanDraw}
use Rattle.afs_serverhost.specs.Seats.{CanRun}
use Rattle.afs_host.specs.Serving.{HasServed}
use Rattle.afs_host.specs.Starting.{HasStarted}
use Rattle.afs_host.specs.declared.seats.Seat.TheVariants.{Up, Down}
use Rattle.afs_clients.specs.Places.{put_place}
use Rattle.afs_serverhost.specs.Seated.{seat_disk, IsHost, IsReadySeat, ServerSeat}
use Rattle.afs_clients.specs.declared.happening.Happened.{Happened}
use Rattle.afs_clients.specs.declared.happening.Happened.TheVariants as happened
use Rattle.afs_clients.specs.declared.happening.ServerInput.{ServerInput}
use Rattle.afs_clients.specs.declared.happening.ServerInput.TheVariants as server
use Rattle.afs_clients.specs.Happening.{NoneHappened}

-- ---- a node of any kind

-- How the seats of one kind of node are seen: the disk of one; the host that it is; and whether it can be given what comes next, in a
-- history of so many entries.
pub record SeatKind (D U S : Type 0) : Type 1 where
  pub disk : U → D
  pub is : U → Host S → Type 0
  pub ready : ℕ → U → Type 0

-- the node is what the host is after this step, and gave this out; these lines come before its own
pub record IsStepOf {D U S : Type 0} (kind : SeatKind D U S) (new : U) (front : List Line) (outs : Outs) (s : HostStep S) : Type 0 where
  pub host : kind.is new s.host
  pub lines : front ++ outs.lines ≡ s.lines
  pub sent : parcels_read outs.parcels ≡ messages_spelled s.sent

-- Nothing came of it, and it wasn't for such a node; or the node made a step; or memory was wanting, and it stands for what it stood
-- for, or can't be told of.
abbrev pub Happens : {D U S : Type 0} → SeatKind D U S → (D → Option (List ℕ)) → (D → ℕ) → List Line → (Host S → Type 0) → (Host S → (HostStep S → Type 0) → Type 0 → Type 0) → U → U → Happened → Type 0
Happens {D} {U} {S} kind seen faults front IsVoid Has old new happened.Nothing = (new ≡ old) × ((h : Host S) → kind.is old h → IsVoid h)
Happens {D} {U} {S} kind seen faults front IsVoid Has old new (happened.Step outs) =
    IsSome (seen (kind.disk old)) → (h : Host S) → kind.is old h → Has h (IsStepOf kind new front outs) (Rose (faults (kind.disk old)) (faults (kind.disk new)))
Happens {D} {U} {S} kind seen faults front IsVoid Has old new happened.Unchanged = (h : Host S) → kind.is old h → kind.is new h
Happens {D} {U} {S} kind seen faults front IsVoid Has old new happened.Lost = Unit {0}

-- it can be given what comes next
abbrev pub Goes : {U : Type 0} → (ℕ → U → Type 0) → U → U → Happened → Type 0
Goes {U} ready old new (happened.Step outs) = (entries : ℕ) → ready entries old → ready (entries + 1) new
Goes {U} ready old new happened.Lost = Unit {0}
Goes {U} ready old new other = (entries : ℕ) → ready entries old → ready entries new

-- The disk tells as before, and has the same room; its count of faults doesn't fall.
pub record DiskKeeps {D : Type 0} (seen : D → Option (List ℕ)) (faults limit : D → ℕ) (old new : D) : Type 0 where
  pub told : IsSome (seen new) ↔ IsSome (seen old)
  pub same_limit : limit new ≡ limit old
  pub no_fewer : faults old ≤ faults new

-- the node took it
pub record Takes {D U S : Type 0} (kind : SeatKind D U S) (seen : D → Option (List ℕ)) (faults limit : D → ℕ) (front : List Line) (IsVoid : Host S → Type 0) (Has : Host S → (HostStep S → Type 0) → Type 0 → Type 0) (was now : U) (what : Happened) : Type 0 where
  pub happens : Happens kind seen faults front IsVoid Has was now what
  pub goes : Goes kind.ready was now what
  pub keeps : DiskKeeps seen faults limit (kind.disk was) (kind.disk now)

-- ---- a server

-- the seat of the server that is this node
abbrev pub server_seat : {D : Type 0} → (D → Option (List ℕ)) → (D → List ℕ → Type 0) → (D → ℕ) → Node → SeatKind D (ServerSeat D) NodeState
server_seat {D} seen may_leave limit me = record { disk = λ s. seat_disk s; is = λ s h. IsHost seen may_leave limit me s h; ready = λ n s. IsReadySeat me n s }

-- the host is down
abbrev pub IsFallen : NodeHost → Type 0
IsFallen h = (fall : Fall) × (h.down ≡ Some fall)

-- nothing comes of this at the host
abbrev pub IsVoidServer : ServerInput → NodeHost → Type 0
IsVoidServer (server.TimeOut callee) h = IsFallen h ⊎ ((h.state.file.backs.calls callee ≡ None) × (h.state.vol.calls callee ≡ None))
IsVoidServer server.Restart h = h.down ≡ None
IsVoidServer input h = IsFallen h

-- Its file server's call to this node is timed out; or where that has none, its volume server's.
abbrev pub HasTimedOut : Node → ℕ → Node → NodeHost → (HostStep NodeState → Type 0) → Type 0
HasTimedOut me clock callee h Is =
    ((b : BackCall) × ((h.state.file.backs.calls callee ≡ Some b) × Is (node_timed_out me h clock callee b)))
    ⊎ ((c : PieceCall) × (((h.state.file.backs.calls callee ≡ None) × (h.state.vol.calls callee ≡ Some c)) × Is (piece_timed_out me h clock callee c)))

-- What it makes of this, at this time in a cell of so many clients, has a step that `Is` tells of. Where its disk fails by itself, the
-- disk's count rose.
abbrev pub HasStep : Node → ℕ → ℕ → ServerInput → NodeHost → (HostStep NodeState → Type 0) → Type 0 → Type 0
HasStep me clock count (server.TimeOut callee) h Is rose = (h.down ≡ None) × HasTimedOut me clock callee h Is
HasStep me clock count server.Wake h Is rose = (h.down ≡ None) × Is (node_woken me h clock)
HasStep me clock count (server.Crash pick) h Is rose = (h.down ≡ None) × Is (crashed (node_kind me) h)
HasStep me clock count server.Restart h Is rose = (fall : Fall) × ((h.down ≡ Some fall) × HasStarted (node_kind me) h clock count fall Is rose)
HasStep me clock count (server.Stop calls pick) h Is rose = (h.down ≡ None) × Is (set_to_stop (node_kind me) h calls pick)
HasStep me clock count (server.Fail call) h Is rose = (h.down ≡ None) × Is (set_to_fail (node_kind me) h call)

-- the message of a place, by its bytes
abbrev pub HasHeard : Node → ℕ → ℕ → List ℕ → NodeHost → (HostStep NodeState → Type 0) → Type 0 → Type 0
HasHeard me clock place bytes h Is rose = (h.down ≡ None) × ((m : Message) → received bytes ≡ Whole m → HasServed (node_kind me) h clock place m Is rose)

abbrev pub IsSeatStep : {D : Type 0} → (D → Option (List ℕ)) → (D → List ℕ → Type 0) → (D → ℕ) → Node → ServerSeat D → List Line → Outs → HostStep NodeState → Type 0
IsSeatStep {D} seen may_leave limit me new front outs = IsStepOf (server_seat seen may_leave limit me) new front outs

abbrev pub SeatHappens : {D : Type 0} → (D → Option (List ℕ)) → (D → List ℕ → Type 0) → (D → ℕ) → (D → ℕ) → Node → List Line → (NodeHost → Type 0) → (NodeHost → (HostStep NodeState → Type 0) → Type 0 → Type 0) →
    ServerSeat D → ServerSeat D → Happened → Type 0
SeatHappens {D} seen may_leave faults limit me front IsVoid Has old new what = Happens (server_seat seen may_leave limit me) seen faults front IsVoid Has old new what

abbrev pub SeatGoes : {D : Type 0} → Node → ServerSeat D → ServerSeat D → Happened → Type 0
SeatGoes {D} me old new what = Goes (λ n s. IsReadySeat me n s) old new what

abbrev pub SeatKeeps : {D : Type 0} → (D → Option (List ℕ)) → (D → ℕ) → (D → ℕ) → ServerSeat D → ServerSeat D → Type 0
SeatKeeps {D} seen faults limit old new = DiskKeeps seen faults limit (seat_disk old) (seat_disk new)

-- the step of a server gave this out; or memory was wanting to tell that
abbrev pub GaveOut : Outs → Happened → Type 0
GaveOut outs (happened.Step given) = given ≡ outs
GaveOut outs happened.Lost = Unit {0}
GaveOut outs other = ⊥

-- a server can be given something
abbrev pub CanStep : {D : Type 0} → ServerSeat D → Type 0
CanStep {D} (Up r) = CanRun r × (CanDraw r.memory.file r.store.drawn × (r.store.disk.calls < 2 ^ 63))
CanStep {D} (Down s) = Unit {0}

-- it is the server that is this node
abbrev pub IsSeatOf : {D : Type 0} → Node → ServerSeat D → Type 0
IsSeatOf {D} me (Up r) = r.store.node ≡ me
IsSeatOf {D} me (Down s) = Unit {0}

-- one server took it
pub record OneHappened {D : Type 0} (seen : D → Option (List ℕ)) (may_leave : D → List ℕ → Type 0) (faults limit : D → ℕ) (i : ℕ) (front : List Line) (IsVoid : NodeHost → Type 0) (Has : NodeHost → (HostStep NodeState → Type 0) → Type 0 → Type 0) (old new : List (ServerSeat D)) (what : Happened) : Type 0 where
  pub was : ServerSeat D
  pub now : ServerSeat D
  pub found : at_place old i ≡ Some was
  pub put : new ≡ put_place i now old
  pub takes : Takes (server_seat seen may_leave limit (Server i)) seen faults limit front IsVoid Has was now what

abbrev pub ServersHappened : {D : Type 0} → (D → Option (List ℕ)) → (D → List ℕ → Type 0) → (D → ℕ) → (D → ℕ) → ℕ → List Line → (NodeHost → Type 0) → (NodeHost → (HostStep NodeState → Type 0) → Type 0 → Type 0) →
    List (ServerSeat D) → List (ServerSeat D) → Happened → Type 0
ServersHappened {D} seen may_leave faults limit i front IsVoid Has old new what =
    NoneHappened i old new what ⊎ OneHappened seen may_leave faults limit i front IsVoid Has old new what

-- Who tells that a volume is enabled: a server that has it in service behind that step, which leaves the location database as it is.
use Rattle.std.proofs.Common.{◌≡◌, ℕ, false, true, List, [], ◌∷◌, Option, Some, None, refl}
use Rattle.std.specs.Prelude.{⊤}
use Rattle.std.specs.List.{AllByRecursion}
use Rattle.afs_num.specs.declared.messages.Carried.{Carried}
use Rattle.afs_num.specs.declared.messages.Carried.TheVariants as carried
use Rattle.afs_num.specs.declared.messages.Call.{Call}
use Rattle.afs_num.specs.declared.messages.Call.TheVariants as ask
use Rattle.afs_num.specs.declared.messages.Message.{Message}
use Rattle.afs_num.specs.declared.types.Node.TheVariants.{Admin, Client, Server}
use Rattle.afs_num.specs.declared.volume_calls.VolCall.{VolCall}
use Rattle.afs_num.specs.declared.volume_calls.VolCall.TheVariants as calls
use Rattle.spec_history.specs.declared.lines.Line.{Line}
use Rattle.spec_history.specs.declared.lines.Line.TheVariants as lines
use Rattle.law_legal.proofs.BaseLaws.{at_put}
use Rattle.spec_model.proofs.Basics.{both}
use Rattle.spec_rows.specs.Hosts.{restarted, served, HostStep}
use Rattle.spec_rows.specs.States.{Seat}
use Rattle.spec_volrows.specs.NodeHosts.{node_kind, node_timed_out, node_woken, piece_timed_out, NodeHost}
use Rattle.spec_volrows.specs.VolStates.{NodeState}
use Rattle.spec_runs.specs.NodeRuns.{node_moved, server_stepped, CellInput, NodeCell, NodeMoved}
use Rattle.law_walks.specs.Messages.{AllAre}
use Rattle.law_walks.specs.Sends.{KeptIs, SeatIs, SeatsAre}
use Rattle.law_walks.proofs.EachKind.{each}
use Rattle.law_walks.proofs.Seats.{weaker_all}
use Rattle.law_places.specs.Accepting.{has_in_service, serves_at}
use Rattle.law_places.proofs.AdminSteps as admins
use Rattle.law_places.proofs.Copies.{AsksCopy, IsCopying, MakesCopy, ReplyCopies, SeatCopies, SeatsCopy}
use Rattle.law_places.proofs.CopySteps as clients
use Rattle.law_places.proofs.LocSteps as database
use Rattle.law_places.proofs.LocSteps.{LocCopies}
use Rattle.law_places.proofs.ServerLines.{volumes_of}
use Rattle.law_places.proofs.Turning.{all_lines, is_still, AreStill}
use Rattle.law_stamps.specs.Told.{entries_in, is_database}
use Rattle.law_families.proofs.Making.{Any, CarriesOwn, Fits, Made, MakesOwn}
use Rattle.law_enabling.proofs.Opening.{break_open, piece_open, restart_open, serve_open, wake_open, AreOpen, IsOpen}

-- ---- what an `enable` of an entry tells

-- behind the step the server has the volume in service, and the location database is as it was
pub record Opens (c : NodeCell) (m : NodeMoved) (volume i : ℕ) : Type 0 where
  pub serves : serves_at m.cell volume i ≡ true
  pub same : entries_in m.cell ≡ entries_in c
  pub other : is_database m.entry.actor ≡ false

abbrev pub IsSo : NodeCell → NodeMoved → Line → Type 0
IsSo c m (lines.Enable v n) = (i : ℕ) × ((n ≡ Server i) × Opens c m v i)
IsSo c m l = ⊤

abbrev pub AreSo : NodeCell → NodeMoved → List Line → Type 0
AreSo c m ls = AllByRecursion (IsSo c m) ls

-- ---- a server's

module _ (c : NodeCell) (i : ℕ) (s : HostStep NodeState) where
  open_serves : (volume : ℕ) → has_in_service (volumes_of s.host.state) volume ≡ true → serves_at (server_stepped c i s).cell volume i ≡ true
  open_serves volume h = at_put i i (λ (x : NodeHost). has_in_service (volumes_of x.state) volume ≡ true) s.host c.hosts (λ same. h) (λ other. absurd (other refl))

  open_one : (l : Line) → IsOpen (Server i) (volumes_of s.host.state) l → IsSo c (server_stepped c i s) l
  open_one (lines.Enable v n) h = (i, (h.0, record { serves = open_serves v h.1; same = refl; other = refl }))
  open_one l h = tt

  opened : AreOpen (Server i) (volumes_of s.host.state) s.lines → AreSo c (server_stepped c i s) s.lines
  opened h = weaker_all (IsOpen (Server i) (volumes_of s.host.state)) (IsSo c (server_stepped c i s)) s.lines open_one h

-- ---- who else tells none

module _ (c : NodeCell) (m : NodeMoved) where
  still_one : (l : Line) → is_still l ≡ true → IsSo c m l
  still_one (lines.Enable v n) h = absurd cc
  still_one l h = tt

  still : (ls : List Line) → AreStill ls → AreSo c m ls
  still [] h = tt
  still (l ∷ ls) h = let q = both (is_still l) (all_lines is_still ls) h in (still_one l q.0, still ls q.1)

-- ---- kept replies, which are no calls for clones that are read-write volumes

vol_copies : (call : VolCall) → MakesOwn call → MakesCopy call
vol_copies (calls.Clone family number id name kind) h = h
vol_copies call h = tt

call_copies : (call : Call) → CarriesOwn (carried.Call [] call) → AsksCopy call
call_copies (ask.Volume call) h = vol_copies call h
call_copies (ask.File call) h = tt
call_copies (ask.Location call) h = tt

carried_copies : (x : Carried) → CarriesOwn x → IsCopying x
carried_copies (carried.Call user call) h = call_copies call h
carried_copies (carried.Refusal code) h = tt
carried_copies (carried.Reply reply) h = tt
carried_copies carried.Notice h = tt

kept_copies : (o : Option Message) → KeptIs Fits o → ReplyCopies o
kept_copies None h = tt
kept_copies (Some m) h = carried_copies m.carried h

seats_copy : (seats : List Seat) → SeatsAre Fits seats → SeatsCopy seats
seats_copy seats h = weaker_all (SeatIs Fits) SeatCopies seats (λ seat k. kept_copies seat.reply k) h

-- ---- every input

pub are_so : (c : NodeCell) → AllAre Made Any Fits c → (x : CellInput) → AreSo c (node_moved c x) (node_moved c x).entry.lines
are_so c h x = each (λ m. AreSo c m m.entry.lines) c (record {
  void = (tt, tt);
  ticks = λ n. (tt, tt);
  servers = record {
    serves = λ i place luck m up g. opened c i (served (node_kind (Server i)) (c.hosts i) c.clock place luck m) (serve_open (Server i) (c.hosts i) c.clock place luck m);
    crashes = λ i up. (tt, tt);
    stop_set = λ i calls pick up. (tt, tt);
    fail_set = λ i call up. (tt, tt);
    restarts = λ i after o fall there down. opened c i (restarted (node_kind (Server i)) (c.hosts i) c.clock c.count after o fall) (restart_open (Server i) (c.hosts i) c.clock c.count after o fall);
    piece_late = λ i n p up is. opened c i (piece_timed_out (Server i) (c.hosts i) c.clock n p) (piece_open (Server i) (c.hosts i) c.clock n p _);
    break_late = λ i n b up is. opened c i (node_timed_out (Server i) (c.hosts i) c.clock n b) (break_open (Server i) (c.hosts i) c.clock n b _);
    wakes = λ i up. opened c i (node_woken (Server i) (c.hosts i) c.clock) (wake_open (Server i) (c.hosts i) c.clock _);
  };
  database = record {
    serves = λ place luck m up g. still c _ _ (database.loc_served c.loc c.clock place luck m its).told;
    crashes = λ up. (tt, tt);
    stop_set = λ calls pick up. (tt, tt);
    fail_set = λ call up. (tt, tt);
    restarts = λ after o fall down. still c _ _ (database.loc_restarted c.loc c.clock c.count after o fall its).told;
  };
  clients = record {
    begins = λ n act up idle. still c _ _ (clients.copy_begun_quiet (Client n) (c.clients n) c.clock act).told;
    given = λ n place m up g. still c _ _ (clients.copy_quiet (Client n) (c.clients n) c.clock place m (seats_copy (c.clients n).client.seats (h.nodes.clients n))).told;
    seek_late = λ n k up is. still c _ _ (clients.copy_missed_quiet (Client n) (c.clients n) k).told;
    late = λ n act up is. still c _ _ (clients.copy_waited_quiet (Client n) (c.clients n) act).told;
    stops = λ n up. (tt, tt);
    starts = λ n away. (tt, tt);
  };
  admins = record {
    begins = λ n act up idle. still c _ _ (admins.begun_quiet (Admin n) (c.admins n) act).told;
    given = λ n place m up g. still c _ _ (admins.given_quiet (Admin n) (c.admins n) place m (seats_copy (c.admins n).seats (h.nodes.admins n))).told;
    late = λ n r up is. still c _ _ (admins.waited_quiet (Admin n) (c.admins n) r).told;
    stops = λ n up. (tt, tt);
    starts = λ n gone. (tt, tt);
  };
}) x
  where
    its : LocCopies c.loc.state
    its = record { seats = seats_copy c.loc.state.seats h.nodes.loc.seats; kept = seats_copy c.loc.state.lasting.kept h.nodes.loc.kept }

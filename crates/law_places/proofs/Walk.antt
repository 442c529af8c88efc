-- The walk over the runs of a cell with administrators: which lines an entry tells of where volumes accept stores, and what each node has then.
use Rattle.std.proofs.Common.{◌≡◌, ℕ, zero, suc, Bool, true, false, cond, List, [], ◌∷◌, Option, Some, None, refl, sym, ap, subst, ◌∙◌, nat_eq, eqb-true}
use Rattle.std.specs.Prelude.{⊤, take}
use Rattle.afs_num.specs.declared.messages.Message.{Message}
use Rattle.afs_num.specs.declared.messages.Received.TheVariants.{Whole}
use Rattle.afs_num.specs.declared.types.Node.{Node}
use Rattle.afs_num.specs.declared.types.Node.TheVariants.{Admin, Client, Loc, Server}
use Rattle.spec_history.specs.declared.acts.Act.{Act}
use Rattle.spec_history.specs.declared.lines.Line.TheVariants as lines
use Rattle.spec_history.specs.declared.scripts.AdminAct.{AdminAct}
use Rattle.spec_history.specs.declared.scripts.Script.{Script}
use Rattle.spec_ideal.specs.Tables.{AscendsFrom}
use Rattle.spec_adminrows.specs.AdminRow.{admin_reborn, AdminState}
use Rattle.spec_adminrows.specs.declared.turns.Running.{Running}
use Rattle.spec_rows.specs.Callbacks.{put}
use Rattle.spec_rows.specs.ClientRow.{act_of}
use Rattle.spec_rows.specs.Going.{Going, Seek}
use Rattle.spec_copyrows.specs.CopyRow.{copies_reborn, copy_row}
use Rattle.spec_copyrows.specs.Sites.{CopyState}
use Rattle.spec_rows.specs.Hosts.{at_rest, begun_from, comes_up, crashed, ends, fails_early, fails_midway, in_boot, in_step, is_full, restarted, served, served_by, set_to_fail, set_to_stop, without_boot_record, struck, Blow, Fall, HostStep, Luck, Outcome}
use Rattle.spec_rows.specs.LocRow.{LocState}
use Rattle.spec_rows.specs.LocSteps.{loc_kind}
use Rattle.spec_rows.specs.Runs.{begins, client_starts, client_stops, gives, message_at, nothing, server_waits, sets_fail, sets_stop, starts_again, stops, ticks, waits, wakes, Entry, Input}
use Rattle.spec_rows.specs.ServerHosts.{can_start}
use Rattle.spec_rows.specs.ServerRow.{begun_after, drops, refuses, repeats, saves, shows, tells_boot, Decision}
use Rattle.spec_rows.specs.States.{durable_of, BackCall, ServerState}
use Rattle.spec_rows.specs.Steps.{Begun, Step}
use Rattle.spec_volrows.specs.NodeHosts.{node_kind, node_woken, NodeHost}
use Rattle.spec_volrows.specs.VolStates.{NodeState, PieceCall}
use Rattle.spec_volrows.specs.VolSteps as vols
use Rattle.spec_volrows.specs.VolSteps.{dispatches, from_of, is_of_client, node_file_decides, replies_to, vol_begun_after, vol_decides, VolDecision}
use Rattle.spec_runs.specs.NodeRuns.{admin_begins, admin_begun, admin_falls, admin_moves, admin_rises, admin_starts, admin_stops, admin_waited, admin_waits, begun_by, call_timed, client_falls, client_moves, client_rises, given_at, given_to, has_host, is_away, is_gone, loc_restarted, loc_up, node_moved, node_start, piece_timed, server_stepped, server_restarted, server_timed, server_up, sought_for, ticked, usual, usually_moved, voided, waited_by, CellInput, NodeCell, NodeLeads, NodeMoved}
use Rattle.law_places.specs.Accepting.{cell_behind, has_in_service, serves_at, accepts_behind_lines, accepts_behind, AcceptsAsTold}
use Rattle.law_places.specs.Standing.{AreGoodAt, AreGoodIn, LinesStandWell}
use Rattle.law_places.proofs.Turning.{other_good, other_turned, still_good, still_turned}
use Rattle.law_places.proofs.ServerLines.{back_moves, crash_moves, fail_moves, piece_moves, restart_moves, serve_moves, stop_moves, volumes_of, woken_moves, CutCopies, Moves, SavesCopies}
use Rattle.law_places.proofs.Copies.{all_more, decided_copies, placed_copies, AllCopies, Copies, DecisionCopies, SeatsCopy}
use Rattle.law_places.proofs.ServerSends.{back_sends, piece_sends, risen_sends, row_sends, saved_has, woken_sends, FileHas, NodeHas}
use Rattle.law_places.proofs.AdminSteps as admins
use Rattle.law_places.proofs.AdminSteps.{AdminQuiet}
use Rattle.law_places.proofs.CopySteps as clients
use Rattle.law_places.proofs.CopySteps.{CopyQuiet}
use Rattle.law_places.proofs.LocSteps.{loc_crashed, loc_fail_set, loc_restarted as database_restarted, loc_served, loc_stop_set, LocCopies, LocQuiet}
use Rattle.law_places.proofs.FirstVolumes.{first_ascends, first_serves}

-- ---- what each node of a cell has

-- the message of an interrupted step
abbrev FallCopies : Option Fall → Type 0
FallCopies None = ⊤
FallCopies (Some at_rest) = ⊤
FallCopies (Some (in_step m clock b)) = Copies m
FallCopies (Some in_boot) = ⊤

record HostHas (h : NodeHost) : Type 0 where
  has : NodeHas h.state
  fell : FallCopies h.down
  up : AscendsFrom 0 (volumes_of h.state)

record CellHas (c : NodeCell) : Type 0 where
  hosts : (i : ℕ) → HostHas (c.hosts i)
  clients : (n : ℕ) → SeatsCopy (c.clients n).client.seats
  admins : (n : ℕ) → SeatsCopy (c.admins n).seats
  loc : LocCopies c.loc.state
  sent : AllCopies c.sent

-- what an input makes of it, and what its entry tells
record Moved (c : NodeCell) (m : NodeMoved) : Type 0 where
  has : CellHas m.cell
  told : (id i : ℕ) → accepts_behind_lines id (Server i) (serves_at c id i) m.entry.lines ≡ serves_at m.cell id i
  good : (id i : ℕ) → AreGoodAt id (Server i) (serves_at c id i) false m.entry.lines

either : (b : Bool) (c : NodeCell) (x y : NodeMoved) → Moved c x → Moved c y → Moved c (cond b x y)
either true c x y h k = h
either false c x y h k = k

void : (c : NodeCell) → CellHas c → Moved c (voided c)
void c h = record { has = h; told = λ id i. refl; good = λ id i. (tt, tt) }

-- ---- maps changed at one place

put_by : {A : Type 0} (b : Bool) (n j : ℕ) (P : A → Type 0) (x y : A) → nat_eq n j ≡ b → P x → P y → P (cond b x y)
put_by {A} true n j P x y e h k = h
put_by {A} false n j P x y e h k = k

all_put : {A : Type 0} (n : ℕ) (P : A → Type 0) (x : A) (f : ℕ → A) → P x → ((j : ℕ) → P (f j)) → (j : ℕ) → P (put n x f j)
all_put {A} n P x f h k j = put_by (nat_eq n j) n j P x (f j) refl h (k j)

-- ---- servers

record HostMoved (i : ℕ) (h : NodeHost) (s : HostStep NodeState) : Type 0 where
  moves : Moves (Server i) (volumes_of h.state) (volumes_of s.host.state) s.lines
  has : NodeHas s.host.state
  fell : FallCopies s.host.down
  sent : AllCopies s.sent

turned_at : (id i j : ℕ) (b : Bool) (c : NodeCell) (s : HostStep NodeState) → nat_eq i j ≡ b → HostMoved i (c.hosts i) s → accepts_behind_lines id (Server j) (serves_at c id j) s.lines ≡ has_in_service (volumes_of (cond b s.host (c.hosts j)).state) id
turned_at id i j true c s e h = subst (λ (k : ℕ). accepts_behind_lines id (Server k) (serves_at c id k) s.lines ≡ has_in_service (volumes_of s.host.state) id) (eqb-true i j e) (h.moves.shifts.turns id)
turned_at id i j false c s e h = other_turned id (Server j) (Server i) (serves_at c id j) s.lines e h.moves.shifts.own

good_at : (id i j : ℕ) (b : Bool) (c : NodeCell) (s : HostStep NodeState) → nat_eq i j ≡ b → HostMoved i (c.hosts i) s → AreGoodAt id (Server j) (serves_at c id j) false s.lines
good_at id i j true c s e h = subst (λ (k : ℕ). AreGoodAt id (Server k) (serves_at c id k) false s.lines) (eqb-true i j e) (h.moves.shifts.good id false)
good_at id i j false c s e h = other_good id (Server j) (Server i) (serves_at c id j) s.lines e h.moves.shifts.own

server_moved : (c : NodeCell) (i : ℕ) (s : HostStep NodeState) → CellHas c → HostMoved i (c.hosts i) s → Moved c (server_stepped c i s)
server_moved c i s h k = record {
  has = record {
    hosts = all_put i HostHas s.host c.hosts (record { has = k.has; fell = k.fell; up = k.moves.up (h.hosts i).up }) h.hosts;
    clients = h.clients;
    admins = h.admins;
    loc = h.loc;
    sent = all_more Copies c.sent s.sent h.sent k.sent;
  };
  told = λ id j. turned_at id i j (nat_eq i j) c s refl k;
  good = λ id j. good_at id i j (nat_eq i j) c s refl k;
}

up_moved : (c : NodeCell) (i : ℕ) (s : HostStep NodeState) (d : Option Fall) → CellHas c → (d ≡ None → HostMoved i (c.hosts i) s) → Moved c (server_up c i s d)
up_moved c i s None h k = server_moved c i s h (k refl)
up_moved c i s (Some fall) h k = void c h

no_fall : (o : Option Fall) → o ≡ None → FallCopies o
no_fall o e = subst FallCopies (sym e) tt

copies_of : (me : Node) (s : NodeState) (m : Message) → NodeHas s → Copies m → SavesCopies s (vol_decides me (durable_of s.file.lasting) s.vol (Whole m))
copies_of me s m h k = by (vol_decides me (durable_of s.file.lasting) s.vol (Whole m)) (decided_copies me (durable_of s.file.lasting) s.vol m k h.seats)
  where
    by : (d : VolDecision) → DecisionCopies (durable_of s.file.lasting) d → SavesCopies s d
    by vols.drops z = tt
    by (vols.tells_boot head) z = tt
    by (vols.repeats reply) z = tt
    by (replies_to head reply ts last) z = tt
    by (dispatches head x) z = tt
    by (vols.saves head x) z = z.1

served_by_has : (i : ℕ) (h : NodeHost) (clock place : ℕ) (m : Message) (o : Option Blow) → NodeHas h.state → h.down ≡ None → Copies m → Moves (Server i) (volumes_of h.state) (volumes_of (served_by (node_kind (Server i)) h clock place m o).host.state) (served_by (node_kind (Server i)) h clock place m o).lines →
    HostMoved i h (served_by (node_kind (Server i)) h clock place m o)
served_by_has i h clock place m None has up copies moves = let z = row_sends (Server i) h.state clock place m has copies in record { moves = moves; has = z.has; fell = tt; sent = z.sent }
served_by_has i h clock place m (Some b) has up copies moves = record { moves = moves; has = has; fell = copies; sent = tt }

host_served : (i : ℕ) (h : NodeHost) (clock place : ℕ) (luck : Luck) (m : Message) → HostHas h → h.down ≡ None → Copies m → HostMoved i h (served (node_kind (Server i)) h clock place luck m)
host_served i h clock place luck m k up copies =
    served_by_has i h clock place m (struck h.armed luck ((node_kind (Server i)).device_calls h.state clock (Whole m))) k.has up copies (serve_moves (Server i) h clock place luck m (copies_of (Server i) h.state m k.has copies))

-- what a restart begins with
record BegunHas (f : Begun NodeState) : Type 0 where
  has : NodeHas f.state

with_file_has : (s : NodeState) (file : ServerState) → NodeHas s → FileHas file → NodeHas (record s { file = file })
with_file_has s file h k = record { file = k; seats = h.seats; held = h.held }

file_begins : (me : Node) (s : NodeState) (clock : ℕ) (d : Decision) → NodeHas s → FileHas (begun_after me s.file clock d).state
file_begins me s clock drops h = h.file
file_begins me s clock (tells_boot head) h = h.file
file_begins me s clock (repeats reply) h = h.file
file_begins me s clock (refuses head code) h = h.file
file_begins me s clock (shows head r) h = h.file
file_begins me s clock (saves head c) h = saved_has head clock c s.file h.file

vol_begins : (me : Node) (s : NodeState) (d : VolDecision) → NodeHas s → DecisionCopies (durable_of s.file.lasting) d → FileHas (vol_begun_after me s.file d).state
vol_begins me s vols.drops h k = h.file
vol_begins me s (vols.tells_boot head) h k = h.file
vol_begins me s (vols.repeats reply) h k = h.file
vol_begins me s (replies_to head reply ts last) h k = h.file
vol_begins me s (dispatches head x) h k = h.file
vol_begins me s (vols.saves head x) h k = record { seats = h.file.seats; kept = placed_copies _ s.file.lasting.kept k.0 h.file.kept; held = h.file.held }

either_file : (b : Bool) (x y : Begun ServerState) → FileHas x.state → FileHas y.state → FileHas (cond b x y).state
either_file true x y h k = h
either_file false x y h k = k

begun_has : (me : Node) (s : NodeState) (after : Bool) (fall : Fall) → NodeHas s → FallCopies (Some fall) → NodeHas (begun_from (node_kind me) s after fall).state
begun_has me s after at_rest h k = h
begun_has me s false (in_step m clock b) h k = h
begun_has me s true (in_step m clock b) h k =
    with_file_has s _ h (either_file (is_of_client (from_of (Whole m))) (begun_after me s.file clock (node_file_decides me s clock (Whole m))) (vol_begun_after me s.file (vol_decides me (durable_of s.file.lasting) s.vol (Whole m)))
    (file_begins me s clock (node_file_decides me s clock (Whole m)) h) (vol_begins me s (vol_decides me (durable_of s.file.lasting) s.vol (Whole m)) h (decided_copies me (durable_of s.file.lasting) s.vol m k h.seats)))
begun_has me s false in_boot h k = h
begun_has me s true in_boot h k = with_file_has s _ h (record { seats = h.file.kept; kept = h.file.kept; held = h.file.held })

cut_copies : (me : Node) (s : NodeState) (fall : Fall) → NodeHas s → FallCopies (Some fall) → CutCopies me s fall
cut_copies me s at_rest h k = tt
cut_copies me s (in_step m clock b) h k = copies_of me s m h k
cut_copies me s in_boot h k = tt

ended_has : (i : ℕ) (h : NodeHost) (clock count : ℕ) (f : Begun NodeState) (fall : Fall) (o : Outcome) → NodeHas h.state → FallCopies (Some fall) → NodeHas f.state →
    Moves (Server i) (volumes_of h.state) (volumes_of (ends (node_kind (Server i)) h clock count f fall o).host.state) (ends (node_kind (Server i)) h clock count f fall o).lines → HostMoved i h (ends (node_kind (Server i)) h clock count f fall o)
ended_has i h clock count f fall comes_up has k begun moves = let z = risen_sends (Server i) clock count (record { state = f.state.file; before = f.before }) begun.file.kept in record { moves = moves; has = z.has; fell = tt; sent = z.sent }
ended_has i h clock count f fall fails_early has k begun moves = record { moves = moves; has = has; fell = k; sent = tt }
ended_has i h clock count f fall fails_midway has k begun moves = record { moves = moves; has = begun; fell = tt; sent = tt }
ended_has i h clock count f fall is_full has k begun moves = record { moves = moves; has = begun; fell = tt; sent = tt }

host_restarted : (i : ℕ) (h : NodeHost) (clock count : ℕ) (after : Bool) (o : Outcome) (fall : Fall) → HostHas h → FallCopies (Some fall) → HostMoved i h (restarted (node_kind (Server i)) h clock count after o fall)
host_restarted i h clock count after o fall k cut =
    let f : Begun NodeState = begun_from (node_kind (Server i)) h.state after fall in
    ended_has i h clock count f fall (without_boot_record (can_start f.state.file) o) k.has cut (begun_has (Server i) h.state after fall k.has cut) (restart_moves (Server i) h clock count after o fall k.up (cut_copies (Server i) h.state fall k.has cut))

host_still : (i : ℕ) (h : NodeHost) (s : HostStep NodeState) → HostHas h → FallCopies s.host.down → s.host.state ≡ h.state → s.sent ≡ [] → Moves (Server i) (volumes_of h.state) (volumes_of s.host.state) s.lines → HostMoved i h s
host_still i h s k fell same none moves = record { moves = moves; has = subst NodeHas (sym same) k.has; fell = fell; sent = subst AllCopies (sym none) tt }

-- ---- its timeouts

piece_moved : (c : NodeCell) (i : ℕ) (n : Node) (o : Option PieceCall) → CellHas c → Moved c (piece_timed c i n o)
piece_moved c i n None h = void c h
piece_moved c i n (Some p) h =
    let z = piece_sends (Server i) (c.hosts i).state c.clock n p (h.hosts i).has in server_moved c i _ h (record { moves = piece_moves (Server i) (c.hosts i).state c.clock n p; has = z.has; fell = tt; sent = z.sent })

call_moved : (c : NodeCell) (i : ℕ) (n : Node) (o : Option BackCall) → CellHas c → Moved c (call_timed c i n o)
call_moved c i n None h = piece_moved c i n ((c.hosts i).state.vol.calls n) h
call_moved c i n (Some b) h =
    let z = back_sends (Server i) (c.hosts i).state c.clock n b (h.hosts i).has in server_moved c i _ h (record { moves = back_moves (Server i) (c.hosts i).state c.clock n b; has = z.has; fell = tt; sent = z.sent })

timed_moved : (c : NodeCell) (i : ℕ) (n : Node) (d : Option Fall) → CellHas c → Moved c (server_timed c i n d)
timed_moved c i n None h = call_moved c i n ((c.hosts i).state.file.backs.calls n) h
timed_moved c i n (Some fall) h = void c h

risen_moved : (c : NodeCell) (i : ℕ) (after : Bool) (o : Outcome) (d : Option Fall) → CellHas c → (c.hosts i).down ≡ d → Moved c (server_restarted c i after o d)
risen_moved c i after o None h e = void c h
risen_moved c i after o (Some fall) h e = server_moved c i _ h (host_restarted i (c.hosts i) c.clock c.count after o fall (h.hosts i) (subst FallCopies e (h.hosts i).fell))

woken_moved : (c : NodeCell) (i : ℕ) → CellHas c → HostMoved i (c.hosts i) (node_woken (Server i) (c.hosts i) c.clock)
woken_moved c i h = let z = woken_sends (Server i) (c.hosts i).state c.clock (h.hosts i).has in record { moves = woken_moves (Server i) (c.hosts i).state c.clock; has = z.has; fell = tt; sent = z.sent }

-- ---- clients, administrators and the database

client_moved : (c : NodeCell) (n : ℕ) (s : Step CopyState) → CellHas c → CopyQuiet (c.clients n).client.seats s → Moved c (client_moves c n s)
client_moved c n s h q = record {
  has = record { hosts = h.hosts; clients = all_put n (λ (x : CopyState). SeatsCopy x.client.seats) s.state c.clients (q.seats' (h.clients n)) h.clients; admins = h.admins; loc = h.loc; sent = all_more Copies c.sent s.sent h.sent q.sent };
  told = λ id i. still_turned id (Server i) (serves_at c id i) s.lines q.told;
  good = λ id i. still_good id (Server i) (serves_at c id i) s.lines q.told false;
}

admin_moved : (c : NodeCell) (n : ℕ) (s : Step AdminState) → CellHas c → AdminQuiet (c.admins n) s → Moved c (admin_moves c n s)
admin_moved c n s h q = record {
  has = record { hosts = h.hosts; clients = h.clients; admins = all_put n (λ (x : AdminState). SeatsCopy x.seats) s.state c.admins (q.seats (h.admins n)) h.admins; loc = h.loc; sent = all_more Copies c.sent s.sent h.sent q.sent };
  told = λ id i. still_turned id (Server i) (serves_at c id i) s.lines q.told;
  good = λ id i. still_good id (Server i) (serves_at c id i) s.lines q.told false;
}

loc_moved : (c : NodeCell) (s : HostStep LocState) (d : Option Fall) → CellHas c → LocQuiet c.loc.state s → Moved c (loc_up c s d)
loc_moved c s None h q = record {
  has = record { hosts = h.hosts; clients = h.clients; admins = h.admins; loc = q.copies; sent = all_more Copies c.sent s.sent h.sent q.sent };
  told = λ id i. still_turned id (Server i) (serves_at c id i) s.lines q.told;
  good = λ id i. still_good id (Server i) (serves_at c id i) s.lines q.told false;
}
loc_moved c s (Some fall) h q = void c h

loc_risen : (c : NodeCell) (after : Bool) (o : Outcome) (d : Option Fall) → CellHas c → Moved c (loc_restarted c after o d)
loc_risen c after o None h = void c h
loc_risen c after o (Some fall) h = loc_moved c (restarted loc_kind c.loc c.clock c.count after o fall) None h (database_restarted c.loc c.clock c.count after o fall h.loc)

begun_moved : (c : NodeCell) (n : ℕ) (act : Act) (o : Option Going) → CellHas c → Moved c (begun_by c n act o)
begun_moved c n act None h = client_moved c n _ h (clients.copy_begun_quiet (Client n) (c.clients n) c.clock act)
begun_moved c n act (Some other) h = void c h

sought_moved : (c : NodeCell) (n : ℕ) (o : Option Seek) → CellHas c → Moved c (sought_for c n o)
sought_moved c n None h = void c h
sought_moved c n (Some k) h = client_moved c n _ h (clients.copy_missed_quiet (Client n) (c.clients n) k)

waited_moved : (c : NodeCell) (n : ℕ) (o : Option Going) → CellHas c → Moved c (waited_by c n o)
waited_moved c n None h = sought_moved c n (c.clients n).client.seeking h
waited_moved c n (Some act) h = client_moved c n _ h (clients.copy_waited_quiet (Client n) (c.clients n) act)

falls_moved : (c : NodeCell) (n : ℕ) → CellHas c → Moved c (client_falls c n)
falls_moved c n h =
    let z = client_moved c n (record { state = copies_reborn c.handed (c.clients n); lines = lines.Crash (Client n) ∷ []; sent = [] }) h (record { told = refl; sent = tt; seats' = λ k. tt }) in
    record { has = record { hosts = z.has.hosts; clients = z.has.clients; admins = z.has.admins; loc = z.has.loc; sent = z.has.sent }; told = z.told; good = z.good }

rises_moved : (c : NodeCell) (n : ℕ) → CellHas c → Moved c (client_rises c n)
rises_moved c n h =
    let z = client_moved c n (record { state = c.clients n; lines = lines.Restart (Client n) (c.clients n).client.epoch ∷ []; sent = [] }) h (record { told = refl; sent = tt; seats' = λ k. k }) in
    record { has = record { hosts = z.has.hosts; clients = z.has.clients; admins = z.has.admins; loc = z.has.loc; sent = z.has.sent }; told = z.told; good = z.good }

admin_begun_moved : (c : NodeCell) (n : ℕ) (act : AdminAct) (o : Option Running) → CellHas c → Moved c (admin_begun c n act o)
admin_begun_moved c n act None h = admin_moved c n _ h (admins.begun_quiet (Admin n) (c.admins n) act)
admin_begun_moved c n act (Some other) h = void c h

admin_waited_moved : (c : NodeCell) (n : ℕ) (o : Option Running) → CellHas c → Moved c (admin_waited c n o)
admin_waited_moved c n None h = void c h
admin_waited_moved c n (Some r) h = admin_moved c n _ h (admins.waited_quiet (Admin n) (c.admins n) r)

admin_falls_moved : (c : NodeCell) (n : ℕ) → CellHas c → Moved c (admin_falls c n)
admin_falls_moved c n h =
    let z = admin_moved c n (record { state = admin_reborn (c.admins n); lines = lines.Crash (Admin n) ∷ []; sent = [] }) h (record { told = refl; sent = tt; seats = λ k. tt }) in
    record { has = record { hosts = z.has.hosts; clients = z.has.clients; admins = z.has.admins; loc = z.has.loc; sent = z.has.sent }; told = z.told; good = z.good }

admin_rises_moved : (c : NodeCell) (n : ℕ) → CellHas c → Moved c (admin_rises c n)
admin_rises_moved c n h =
    let z = admin_moved c n (record { state = c.admins n; lines = lines.Restart (Admin n) (c.admins n).epoch ∷ []; sent = [] }) h (record { told = refl; sent = tt; seats = λ k. k }) in
    record { has = record { hosts = z.has.hosts; clients = z.has.clients; admins = z.has.admins; loc = z.has.loc; sent = z.has.sent }; told = z.told; good = z.good }

-- ---- a message is given

found_sent : (place : ℕ) (ms : List Message) (m : Message) → AllCopies ms → message_at ms place ≡ Some m → Copies m
found_sent zero [] m h e = absurd cc
found_sent zero (x ∷ ms) m h e = absurd cc
found_sent (suc zero) [] m h e = absurd cc
found_sent (suc zero) (x ∷ ms) m h e = let same : x ≡ m = cc in subst Copies same h.0
found_sent (suc (suc n)) [] m h e = absurd cc
found_sent (suc (suc n)) (x ∷ ms) m h e = found_sent (suc n) ms m h.1 e

to_moved : (c : NodeCell) (place : ℕ) (luck : Luck) (m : Message) (n : Node) → CellHas c → Copies m → Moved c (given_to c place luck m n)
to_moved c place luck m (Server i) h k =
    either (has_host c i) c _ _ (up_moved c i (served (node_kind (Server i)) (c.hosts i) c.clock place luck m) (c.hosts i).down h (λ up. host_served i (c.hosts i) c.clock place luck m (h.hosts i) up k)) (void c h)
to_moved c place luck m (Client n) h k = either (is_away c n) c _ _ (void c h) (client_moved c n (copy_row (Client n) (c.clients n) c.clock place (Whole m)) h (clients.copy_quiet (Client n) (c.clients n) c.clock place m (h.clients n)))
to_moved c place luck m Loc h k = loc_moved c (served loc_kind c.loc c.clock place luck m) c.loc.down h (loc_served c.loc c.clock place luck m h.loc)
to_moved c place luck m (Admin n) h k = either (is_gone c n) c _ _ (void c h) (admin_moved c n _ h (admins.given_quiet (Admin n) (c.admins n) place m (h.admins n)))

at_moved : (c : NodeCell) (place : ℕ) (luck : Luck) (o : Option Message) → CellHas c → message_at c.sent place ≡ o → Moved c (given_at c place luck o)
at_moved c place luck None h e = void c h
at_moved c place luck (Some m) h e = to_moved c place luck m m.head.to h (found_sent place c.sent m h.sent e)

-- ---- every input

host_crashed : (c : NodeCell) (i : ℕ) → CellHas c → HostMoved i (c.hosts i) (crashed (node_kind (Server i)) (c.hosts i))
host_crashed c i h = host_still i (c.hosts i) (crashed (node_kind (Server i)) (c.hosts i)) (h.hosts i) tt refl refl (crash_moves (Server i) (c.hosts i))

host_stop_set : (c : NodeCell) (i calls pick : ℕ) → CellHas c → HostMoved i (c.hosts i) (set_to_stop (node_kind (Server i)) (c.hosts i) calls pick)
host_stop_set c i calls pick h = host_still i (c.hosts i) (set_to_stop (node_kind (Server i)) (c.hosts i) calls pick) (h.hosts i) (h.hosts i).fell refl refl (stop_moves (Server i) (c.hosts i) calls pick)

host_fail_set : (c : NodeCell) (i call : ℕ) → CellHas c → HostMoved i (c.hosts i) (set_to_fail (node_kind (Server i)) (c.hosts i) call)
host_fail_set c i call h = host_still i (c.hosts i) (set_to_fail (node_kind (Server i)) (c.hosts i) call) (h.hosts i) (h.hosts i).fell refl refl (fail_moves (Server i) (c.hosts i) call)

ticked_moved : (c : NodeCell) (n : ℕ) → CellHas c → Moved c (ticked c n)
ticked_moved c n h = record { has = record { hosts = h.hosts; clients = h.clients; admins = h.admins; loc = h.loc; sent = h.sent }; told = λ id i. refl; good = λ id i. (tt, tt) }

usual_moved : (c : NodeCell) (x : Input) → CellHas c → Moved c (usually_moved c x)
unfolding usually_moved
usual_moved c (begins n act) h = either (is_away c n) c _ _ (void c h) (begun_moved c n act (act_of (c.clients n).client) h)
usual_moved c (gives place luck) h = at_moved c place luck (message_at c.sent place) h refl
usual_moved c (waits n) h = either (is_away c n) c _ _ (void c h) (waited_moved c n (c.clients n).client.running h)
usual_moved c (ticks zero) h = void c h
usual_moved c (ticks (suc n)) h = ticked_moved c (suc n) h
usual_moved c (client_stops n) h = either (is_away c n) c _ _ (void c h) (falls_moved c n h)
usual_moved c (client_starts n) h = either (c.away n) c _ _ (rises_moved c n h) (void c h)
usual_moved c (stops zero) h = loc_moved c (crashed loc_kind c.loc) c.loc.down h (loc_crashed c.loc h.loc)
usual_moved c (stops (suc i)) h = either (has_host c (suc i)) c _ _ (up_moved c (suc i) _ (c.hosts (suc i)).down h (λ up. host_crashed c (suc i) h)) (void c h)
usual_moved c (starts_again zero after o) h = loc_risen c after o c.loc.down h
usual_moved c (starts_again (suc i) after o) h = either (has_host c (suc i)) c _ _ (risen_moved c (suc i) after o (c.hosts (suc i)).down h refl) (void c h)
usual_moved c (sets_stop zero calls pick) h = loc_moved c (set_to_stop loc_kind c.loc calls pick) c.loc.down h (loc_stop_set c.loc calls pick h.loc)
usual_moved c (sets_stop (suc i) calls pick) h = either (has_host c (suc i)) c _ _ (up_moved c (suc i) _ (c.hosts (suc i)).down h (λ up. host_stop_set c (suc i) calls pick h)) (void c h)
usual_moved c (sets_fail zero call) h = loc_moved c (set_to_fail loc_kind c.loc call) c.loc.down h (loc_fail_set c.loc call h.loc)
usual_moved c (sets_fail (suc i) call) h = either (has_host c (suc i)) c _ _ (up_moved c (suc i) _ (c.hosts (suc i)).down h (λ up. host_fail_set c (suc i) call h)) (void c h)
usual_moved c (server_waits i n) h = either (has_host c i) c _ _ (timed_moved c i n (c.hosts i).down h) (void c h)
usual_moved c (wakes i) h = either (has_host c i) c _ _ (up_moved c i _ (c.hosts i).down h (λ up. woken_moved c i h)) (void c h)
usual_moved c nothing h = void c h

moved : (c : NodeCell) (x : CellInput) → CellHas c → Moved c (node_moved c x)
moved c (usual x) h = usual_moved c x h
moved c (admin_begins n act) h = either (is_gone c n) c _ _ (void c h) (admin_begun_moved c n act (c.admins n).running h)
moved c (admin_waits n) h = either (is_gone c n) c _ _ (void c h) (admin_waited_moved c n (c.admins n).running h)
moved c (admin_stops n) h = either (is_gone c n) c _ _ (void c h) (admin_falls_moved c n h)
moved c (admin_starts n) h = either (c.gone n) c _ _ (admin_rises_moved c n h) (void c h)

-- ---- a run

led : (c : NodeCell) (xs : List CellInput) (es : List Entry) (end : NodeCell) (id i : ℕ) → CellHas c → NodeLeads c xs es end → accepts_behind id (Server i) (serves_at c id i) es ≡ serves_at end id i
led c [] [] end id i h is = ap (λ (k : NodeCell). serves_at k id i) (sym is)
led c [] (e ∷ es) end id i h is = absurd is
led c (x ∷ xs) [] end id i h is = absurd is
led c (x ∷ xs) (e ∷ es) end id i h is =
    let m = moved c x h in
    ap (λ (was : Bool). accepts_behind id (Server i) was es) (ap (λ (y : Entry). accepts_behind_lines id (Server i) (serves_at c id i) y.lines) is.0 ∙ m.told id i) ∙ led (node_moved c x).cell xs es end id i m.has is.1

first_has : (s : Script) → CellHas (node_start s)
first_has s = record {
  hosts = λ i. record { has = record { file = record { seats = tt; kept = tt; held = tt }; seats = tt; held = tt }; fell = tt; up = first_ascends i s.volumes };
  clients = λ n. tt;
  admins = λ n. tt;
  loc = record { seats = tt; kept = tt };
  sent = tt;
}

-- a run up to any of its entries is one
led_to : (n : ℕ) (c : NodeCell) (xs : List CellInput) (es : List Entry) (end : NodeCell) → NodeLeads c xs es end → NodeLeads c (take n xs) (take n es) (cell_behind c (take n xs))
led_to zero c xs es end is = refl
led_to (suc n) c [] [] end is = refl
led_to (suc n) c [] (e ∷ es) end is = absurd is
led_to (suc n) c (x ∷ xs) [] end is = absurd is
led_to (suc n) c (x ∷ xs) (e ∷ es) end is = (is.0, led_to n (node_moved c x).cell xs es end is.1)

pub accepted_as_told : AcceptsAsTold
accepted_as_told s inputs history end leads n id i =
    ap (λ (was : Bool). accepts_behind id (Server i) was (take n history)) (first_serves id i s.volumes)
    ∙ led (node_start s) (take n inputs) (take n history) (cell_behind (node_start s) (take n inputs)) id i (first_has s) (led_to n (node_start s) inputs history end leads)

-- and each line of a run stands well
stand : (c : NodeCell) (xs : List CellInput) (es : List Entry) (end : NodeCell) (id i : ℕ) → CellHas c → NodeLeads c xs es end → AreGoodIn id (Server i) (serves_at c id i) es
stand c [] [] end id i h is = tt
stand c [] (e ∷ es) end id i h is = absurd is
stand c (x ∷ xs) [] end id i h is = absurd is
stand c (x ∷ xs) (e ∷ es) end id i h is =
    let m = moved c x h in (
      subst (λ (y : Entry). AreGoodAt id (Server i) (serves_at c id i) false y.lines) (sym is.0) (m.good id i),
      subst (λ (was : Bool). AreGoodIn id (Server i) was es) (sym (ap (λ (y : Entry). accepts_behind_lines id (Server i) (serves_at c id i) y.lines) is.0 ∙ m.told id i)) (stand (node_moved c x).cell xs es end id i m.has is.1),
    )

pub lines_stand_well : LinesStandWell
lines_stand_well s inputs history end leads id i = subst (λ (was : Bool). AreGoodIn id (Server i) was history) (sym (first_serves id i s.volumes)) (stand (node_start s) inputs history end id i (first_has s) leads)

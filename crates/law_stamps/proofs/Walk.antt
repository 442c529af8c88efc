-- The walk over the inputs of a cell: what of its servers and of its location database goes on.
use Rattle.std.proofs.Common.{◌≡◌, ◌≤◌, ℕ, zero, suc, Bool, true, false, cond, List, [], ◌∷◌, ◌++◌, Option, Some, None, refl, sym, subst, eqb-true}
use Rattle.std.proofs.Math.Nat.{le_refl, le_trans}
use Rattle.std.specs.Prelude.{nat_eq}
use Rattle.afs_num.specs.declared.messages.Message.{Message}
use Rattle.afs_num.specs.declared.types.Node.{Node}
use Rattle.afs_num.specs.declared.types.Node.TheVariants.{Admin, Client, Loc, Server}
use Rattle.spec_history.specs.declared.acts.Act.{Act}
use Rattle.spec_history.specs.declared.scripts.AdminAct.{AdminAct}
use Rattle.spec_history.specs.declared.scripts.Script.{Script}
use Rattle.spec_history.specs.declared.scripts.VolumeLine.{VolumeLine}
use Rattle.spec_ideal.specs.Tables.{Table}
use Rattle.spec_records.specs.LocDurable.{first_stamp, listed_line}
use Rattle.spec_records.specs.LocRecords.{Listed}
use Rattle.spec_adminrows.specs.declared.turns.Running.{Running}
use Rattle.spec_rows.specs.ClientRow.{act_of}
use Rattle.spec_rows.specs.Going.{Going, Seek}
use Rattle.spec_rows.specs.Hosts.{crashed, restarted, served, set_to_fail, set_to_stop, Fall, HostStep, Luck, Outcome}
use Rattle.spec_rows.specs.LocRow.{LocState}
use Rattle.spec_rows.specs.LocSteps.{loc_kind, LocHost}
use Rattle.spec_rows.specs.Runs.{begins, client_starts, client_stops, counts_later, first_entries, gives, listed_by, message_at, nothing, server_waits, sets_fail, sets_stop, starts_again, stops, ticks, waits, wakes, Input}
use Rattle.spec_rows.specs.States.{BackCall}
use Rattle.spec_volrows.specs.NodeHosts.{node_kind, node_timed_out, node_woken, piece_timed_out, NodeHost}
use Rattle.spec_volrows.specs.VolLaws.{stamp_at}
use Rattle.spec_volrows.specs.VolStates.{NodeState, PieceCall}
use Rattle.spec_runs.specs.NodeRuns.{admin_begins, admin_begun, admin_starts, admin_stops, admin_waited, admin_waits, begun_by, call_timed, given_at, given_to, has_host, is_away, is_gone, loc_restarted, loc_up, node_moved, node_start, piece_timed, server_stepped, server_restarted, server_timed, server_up, sought_for, usual, usually_moved, waited_by, CellInput, NodeCell, NodeMoved}
use Rattle.law_places.specs.Accepting.{cell_behind}
use Rattle.law_stamps.specs.Stamps.{next_stamp, stored_stamp, LocksAreDrawn, StampsNeverFall, TransactionsStand}
use Rattle.law_stamps.proofs.Locks.{get_below, none_draws, restart_draws, serve_draws, set_below, AreBelow, Draw, Drawn, IsBelow}
use Rattle.law_stamps.proofs.Servers.{back_goes, crash_goes, none_rises, piece_goes, restart_goes, serve_goes, wake_goes, ApartBy, Goes, Rises, Stands, StampedBy}

record CellStands (c : NodeCell) : Type 0 where
  hosts : (i : ℕ) → Stands (c.hosts i)
  loc : Drawn c.loc.state

-- what comes of an input
record GoesOn (c d : NodeCell) : Type 0 where
  hosts : (i : ℕ) → Goes (c.hosts i) (d.hosts i)
  loc : Draw c.loc.state d.loc.state

stays : (c : NodeCell) → CellStands c → GoesOn c c
stays c h = record { hosts = λ i. record { stands = h.hosts i; rises = none_rises (c.hosts i) }; loc = none_draws c.loc.state h.loc }

either : (b : Bool) (c : NodeCell) (x y : NodeMoved) → GoesOn c x.cell → GoesOn c y.cell → GoesOn c (cond b x y).cell
either true c x y h k = h
either false c x y h k = k

-- its servers and its database stay as they are
others : (c d : NodeCell) → CellStands c → d.hosts ≡ c.hosts → d.loc ≡ c.loc → GoesOn c d
others c d h hosts loc = record {
  hosts = λ i. subst (λ (f : ℕ → NodeHost). Goes (c.hosts i) (f i)) (sym hosts) (record { stands = h.hosts i; rises = none_rises (c.hosts i) });
  loc = subst (λ (l : LocHost). Draw c.loc.state l.state) (sym loc) (none_draws c.loc.state h.loc);
}

-- ---- servers

put_goes : (i j : ℕ) (b : Bool) (c : NodeCell) (s : NodeHost) → nat_eq i j ≡ b → CellStands c → Goes (c.hosts i) s → Goes (c.hosts j) (cond b s (c.hosts j))
put_goes i j true c s e h k = subst (λ (n : ℕ). Goes (c.hosts n) s) (eqb-true i j e) k
put_goes i j false c s e h k = record { stands = h.hosts j; rises = none_rises (c.hosts j) }

server_goes : (c : NodeCell) (i : ℕ) (s : HostStep NodeState) → CellStands c → Goes (c.hosts i) s.host → GoesOn c (server_stepped c i s).cell
server_goes c i s h k = record { hosts = λ j. put_goes i j (nat_eq i j) c s.host refl h k; loc = none_draws c.loc.state h.loc }

up_goes : (c : NodeCell) (i : ℕ) (s : HostStep NodeState) (d : Option Fall) → CellStands c → (d ≡ None → Goes (c.hosts i) s.host) → GoesOn c (server_up c i s d).cell
up_goes c i s None h k = server_goes c i s h (k refl)
up_goes c i s (Some fall) h k = stays c h

set_goes : (h : NodeHost) (s : NodeHost) → Stands h → s.state ≡ h.state → s.down ≡ h.down → Goes h s
set_goes h s k state down = record {
  stands = record {
    stamped = subst (λ (o : Option Fall). StampedBy o s.state) (sym down) (subst (λ (x : NodeState). StampedBy h.down x) (sym state) k.stamped);
    apart = subst (λ (o : Option Fall). ApartBy o s.state) (sym down) (subst (λ (x : NodeState). ApartBy h.down x) (sym state) k.apart);
  };
  rises = subst (λ (x : NodeState). (f : ℕ) → stamp_at h.state.file f ≤ stamp_at x.file f) (sym state) (none_rises h);
}

piece_on : (c : NodeCell) (i : ℕ) (n : Node) (o : Option PieceCall) → CellStands c → (c.hosts i).down ≡ None → GoesOn c (piece_timed c i n o).cell
piece_on c i n None h up = stays c h
piece_on c i n (Some p) h up = server_goes c i (piece_timed_out (Server i) (c.hosts i) c.clock n p) h (piece_goes (Server i) (c.hosts i) c.clock n p up (h.hosts i))

call_on : (c : NodeCell) (i : ℕ) (n : Node) (o : Option BackCall) → CellStands c → (c.hosts i).down ≡ None → GoesOn c (call_timed c i n o).cell
call_on c i n None h up = piece_on c i n ((c.hosts i).state.vol.calls n) h up
call_on c i n (Some b) h up = server_goes c i (node_timed_out (Server i) (c.hosts i) c.clock n b) h (back_goes (Server i) (c.hosts i) c.clock n b up (h.hosts i))

timed_on : (c : NodeCell) (i : ℕ) (n : Node) (d : Option Fall) → CellStands c → (c.hosts i).down ≡ d → GoesOn c (server_timed c i n d).cell
timed_on c i n None h up = call_on c i n ((c.hosts i).state.file.backs.calls n) h up
timed_on c i n (Some fall) h up = stays c h

risen_on : (c : NodeCell) (i : ℕ) (after : Bool) (o : Outcome) (d : Option Fall) → CellStands c → (c.hosts i).down ≡ d → GoesOn c (server_restarted c i after o d).cell
risen_on c i after o None h down = stays c h
risen_on c i after o (Some fall) h down = server_goes c i (restarted (node_kind (Server i)) (c.hosts i) c.clock c.count after o fall) h (restart_goes (Server i) (c.hosts i) c.clock c.count after o fall down (h.hosts i))

-- ---- the database

loc_goes : (c : NodeCell) (s : HostStep LocState) (d : Option Fall) → CellStands c → Draw c.loc.state s.host.state → GoesOn c (loc_up c s d).cell
loc_goes c s None h k = record { hosts = λ i. record { stands = h.hosts i; rises = none_rises (c.hosts i) }; loc = k }
loc_goes c s (Some fall) h k = stays c h

loc_risen : (c : NodeCell) (after : Bool) (o : Outcome) (d : Option Fall) → CellStands c → GoesOn c (loc_restarted c after o d).cell
loc_risen c after o None h = stays c h
loc_risen c after o (Some fall) h = loc_goes c (restarted loc_kind c.loc c.clock c.count after o fall) None h (restart_draws c.loc c.clock c.count after o fall h.loc)

-- ---- clients and administrators

begun_on : (c : NodeCell) (n : ℕ) (act : Act) (o : Option Going) → CellStands c → GoesOn c (begun_by c n act o).cell
begun_on c n act None h = others c _ h refl refl
begun_on c n act (Some other) h = stays c h

sought_on : (c : NodeCell) (n : ℕ) (o : Option Seek) → CellStands c → GoesOn c (sought_for c n o).cell
sought_on c n None h = stays c h
sought_on c n (Some k) h = others c _ h refl refl

waited_on : (c : NodeCell) (n : ℕ) (o : Option Going) → CellStands c → GoesOn c (waited_by c n o).cell
waited_on c n None h = sought_on c n (c.clients n).client.seeking h
waited_on c n (Some act) h = others c _ h refl refl

admin_begun_on : (c : NodeCell) (n : ℕ) (act : AdminAct) (o : Option Running) → CellStands c → GoesOn c (admin_begun c n act o).cell
admin_begun_on c n act None h = others c _ h refl refl
admin_begun_on c n act (Some other) h = stays c h

admin_waited_on : (c : NodeCell) (n : ℕ) (o : Option Running) → CellStands c → GoesOn c (admin_waited c n o).cell
admin_waited_on c n None h = stays c h
admin_waited_on c n (Some r) h = others c _ h refl refl

-- ---- every input

to_on : (c : NodeCell) (place : ℕ) (luck : Luck) (m : Message) (n : Node) → CellStands c → GoesOn c (given_to c place luck m n).cell
to_on c place luck m (Server i) h = either (has_host c i) c _ _ (up_goes c i (served (node_kind (Server i)) (c.hosts i) c.clock place luck m) (c.hosts i).down h (λ up. serve_goes (Server i) (c.hosts i) c.clock place luck m up (h.hosts i))) (stays c h)
to_on c place luck m (Client n) h = either (is_away c n) c _ _ (stays c h) (others c _ h refl refl)
to_on c place luck m Loc h = loc_goes c (served loc_kind c.loc c.clock place luck m) c.loc.down h (serve_draws c.loc c.clock place luck m h.loc)
to_on c place luck m (Admin n) h = either (is_gone c n) c _ _ (stays c h) (others c _ h refl refl)

at_on : (c : NodeCell) (place : ℕ) (luck : Luck) (o : Option Message) → CellStands c → GoesOn c (given_at c place luck o).cell
at_on c place luck None h = stays c h
at_on c place luck (Some m) h = to_on c place luck m m.head.to h

usual_on : (c : NodeCell) (x : Input) → CellStands c → GoesOn c (usually_moved c x).cell
unfolding usually_moved
usual_on c (begins n act) h = either (is_away c n) c _ _ (stays c h) (begun_on c n act (act_of (c.clients n).client) h)
usual_on c (gives place luck) h = at_on c place luck (message_at c.sent place) h
usual_on c (waits n) h = either (is_away c n) c _ _ (stays c h) (waited_on c n (c.clients n).client.running h)
usual_on c (ticks zero) h = stays c h
usual_on c (ticks (suc n)) h = others c _ h refl refl
usual_on c (client_stops n) h = either (is_away c n) c _ _ (stays c h) (others c _ h refl refl)
usual_on c (client_starts n) h = either (c.away n) c _ _ (others c _ h refl refl) (stays c h)
usual_on c (stops zero) h = loc_goes c (crashed loc_kind c.loc) c.loc.down h (none_draws c.loc.state h.loc)
usual_on c (stops (suc i)) h = either (has_host c (suc i)) c _ _ (up_goes c (suc i) (crashed (node_kind (Server (suc i))) (c.hosts (suc i))) (c.hosts (suc i)).down h (λ up. crash_goes (Server (suc i)) (c.hosts (suc i)))) (stays c h)
usual_on c (starts_again zero after o) h = loc_risen c after o c.loc.down h
usual_on c (starts_again (suc i) after o) h = either (has_host c (suc i)) c _ _ (risen_on c (suc i) after o (c.hosts (suc i)).down h refl) (stays c h)
usual_on c (sets_stop zero calls pick) h = loc_goes c (set_to_stop loc_kind c.loc calls pick) c.loc.down h (none_draws c.loc.state h.loc)
usual_on c (sets_stop (suc i) calls pick) h =
    either (has_host c (suc i)) c _ _ (up_goes c (suc i) (set_to_stop (node_kind (Server (suc i))) (c.hosts (suc i)) calls pick) (c.hosts (suc i)).down h (λ up. set_goes (c.hosts (suc i)) _ (h.hosts (suc i)) refl refl)) (stays c h)
usual_on c (sets_fail zero call) h = loc_goes c (set_to_fail loc_kind c.loc call) c.loc.down h (none_draws c.loc.state h.loc)
usual_on c (sets_fail (suc i) call) h =
    either (has_host c (suc i)) c _ _ (up_goes c (suc i) (set_to_fail (node_kind (Server (suc i))) (c.hosts (suc i)) call) (c.hosts (suc i)).down h (λ up. set_goes (c.hosts (suc i)) _ (h.hosts (suc i)) refl refl)) (stays c h)
usual_on c (server_waits i n) h = either (has_host c i) c _ _ (timed_on c i n (c.hosts i).down h refl) (stays c h)
usual_on c (wakes i) h = either (has_host c i) c _ _ (up_goes c i (node_woken (Server i) (c.hosts i) c.clock) (c.hosts i).down h (λ up. wake_goes (Server i) (c.hosts i) c.clock up (h.hosts i))) (stays c h)
usual_on c nothing h = stays c h

goes_on : (c : NodeCell) (x : CellInput) → CellStands c → GoesOn c (node_moved c x).cell
goes_on c (usual x) h = usual_on c x h
goes_on c (admin_begins n act) h = either (is_gone c n) c _ _ (stays c h) (admin_begun_on c n act (c.admins n).running h)
goes_on c (admin_waits n) h = either (is_gone c n) c _ _ (stays c h) (admin_waited_on c n (c.admins n).running h)
goes_on c (admin_stops n) h = either (is_gone c n) c _ _ (stays c h) (others c _ h refl refl)
goes_on c (admin_starts n) h = either (c.gone n) c _ _ (others c _ h refl refl) (stays c h)

-- ---- a run

record Led (c d : NodeCell) : Type 0 where
  stands : CellStands d
  hosts : (i : ℕ) → Rises (c.hosts i) (d.hosts i)
  loc : c.loc.state.lasting.next_stamp ≤ d.loc.state.lasting.next_stamp

led : (c : NodeCell) (xs : List CellInput) → CellStands c → Led c (cell_behind c xs)
led c [] h = record { stands = h; hosts = λ i. none_rises (c.hosts i); loc = le_refl c.loc.state.lasting.next_stamp }
led c (x ∷ xs) h =
    let one : GoesOn c (node_moved c x).cell = goes_on c x h in
    let more = led (node_moved c x).cell xs (record { hosts = λ i. (one.hosts i).stands; loc = one.loc.drawn }) in
    record { stands = more.stands; hosts = λ i f. le_trans ((one.hosts i).rises f) (more.hosts i f); loc = le_trans one.loc.rises more.loc }

behind_both : (c : NodeCell) (xs ys : List CellInput) → cell_behind c (xs ++ ys) ≡ cell_behind (cell_behind c xs) ys
behind_both c [] ys = refl
behind_both c (x ∷ xs) ys = behind_both (node_moved c x).cell xs ys

-- ---- set-up has no transactions, no stamps and no locks

listed_below : (n : ℕ) (b : Bool) (v : VolumeLine) (t : Table Listed) → AreBelow n t → AreBelow n (listed_by b v t)
listed_below n true v t h = h
listed_below n false v t h = set_below n v.id (listed_line v) t tt h

entries_below : (n : ℕ) (vs : List VolumeLine) → AreBelow n (first_entries vs)
entries_below n [] = tt
entries_below n (v ∷ vs) = listed_below n (counts_later v.id vs) v (first_entries vs) (entries_below n vs)

first_stands : (s : Script) → CellStands (node_start s)
first_stands s = record {
  hosts = λ i. record { stamped = tt; apart = record { ascend = tt; there = λ n t e. absurd cc; numbered = λ n t e. absurd cc; alone = λ n m t u e f same. absurd cc } };
  loc = record { below = entries_below first_stamp s.volumes };
}

-- ---- the laws

pub never_fall : StampsNeverFall
never_fall s inputs later server family =
    let one = led (node_start s) inputs (first_stands s) in
    let more = led (cell_behind (node_start s) inputs) later one.stands in
    subst (λ (c : NodeCell). stored_stamp (cell_behind (node_start s) inputs) server family ≤ stored_stamp c server family) (sym (behind_both (node_start s) inputs later)) (more.hosts server family)

pub have_transactions : TransactionsStand
have_transactions s inputs server up =
    let one = led (node_start s) inputs (first_stands s) in
    let h : NodeHost = (cell_behind (node_start s) inputs).hosts server in
    record { stamped = subst (λ (o : Option Fall). StampedBy o h.state) up (one.stands.hosts server).stamped; apart = subst (λ (o : Option Fall). ApartBy o h.state) up (one.stands.hosts server).apart }

pub are_drawn : LocksAreDrawn
are_drawn = record {
  drawn = λ s inputs volume l k at lock.
      let one = led (node_start s) inputs (first_stands s) in
      let c : NodeCell = cell_behind (node_start s) inputs in
      subst (IsBelow c.loc.state.lasting.next_stamp) lock (get_below c.loc.state.lasting.next_stamp volume c.loc.state.lasting.entries l one.stands.loc.below at);
  rises = λ s inputs later.
      let one = led (node_start s) inputs (first_stands s) in
      let more = led (cell_behind (node_start s) inputs) later one.stands in
      subst (λ (c : NodeCell). next_stamp (cell_behind (node_start s) inputs) ≤ next_stamp c) (sym (behind_both (node_start s) inputs later)) more.loc;
}

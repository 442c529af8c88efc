-- The walk over the inputs of a cell: what the database's lines tell of its entries.
use Rattle.std.proofs.Common.{◌≡◌, ℕ, zero, suc, Bool, true, false, cond, List, [], ◌∷◌, Option, Some, None, refl, sym, ap, ◌∙◌}
use Rattle.std.specs.Prelude.{nat_eq, take}
use Rattle.afs_num.specs.declared.messages.Message.{Message}
use Rattle.afs_num.specs.declared.types.Node.{Node}
use Rattle.afs_num.specs.declared.types.Node.TheVariants.{Admin, Client, Loc, Server}
use Rattle.spec_history.specs.declared.acts.Act.{Act}
use Rattle.spec_history.specs.declared.lines.Line.{Line}
use Rattle.spec_history.specs.declared.scripts.AdminAct.{AdminAct}
use Rattle.spec_history.specs.declared.scripts.VolumeLine.{VolumeLine}
use Rattle.spec_ideal.proofs.Tables.{get_set}
use Rattle.spec_ideal.specs.Tables.{get, Table}
use Rattle.spec_records.specs.LocDurable.{listed_line}
use Rattle.spec_records.specs.LocRecords.{Listed}
use Rattle.spec_adminrows.specs.declared.turns.Running.{Running}
use Rattle.spec_rows.specs.ClientRow.{act_of}
use Rattle.spec_rows.specs.Going.{Going, Seek}
use Rattle.spec_rows.specs.Hosts.{crashed, served, set_to_fail, set_to_stop, Fall, HostStep, Luck, Outcome}
use Rattle.spec_rows.specs.LocRow.{LocState}
use Rattle.spec_rows.specs.LocSteps.{loc_kind, LocHost}
use Rattle.spec_rows.specs.Runs.{begins, client_starts, client_stops, counts_later, first_entries, gives, listed_by, message_at, nothing, server_waits, sets_fail, sets_stop, starts_again, stops, ticks, waits, wakes, Entry, Input}
use Rattle.spec_rows.specs.States.{BackCall}
use Rattle.spec_volrows.specs.VolStates.{NodeState, PieceCall}
use Rattle.spec_runs.specs.NodeRuns.{admin_begins, admin_begun, admin_starts, admin_stops, admin_waited, admin_waits, begun_by, call_timed, given_at, given_to, has_host, is_away, is_gone, loc_restarted, loc_up, node_moved, node_start, piece_timed, server_restarted, server_timed, server_up, sought_for, usual, usually_moved, waited_by, CellInput, NodeCell, NodeLeads, NodeMoved}
use Rattle.law_places.specs.Accepting.{cell_behind}
use Rattle.law_stamps.specs.Told.{entries_in, entry_turned, home_listed, is_database, lines_turned, lock_turned, site_turned, stamp_in, turned_behind, EntriesAsTold}
use Rattle.law_stamps.proofs.Telling.{crash_tells, entries_of, fail_tells, restart_tells, serve_tells, stop_tells, Tells}

-- what an input's entry tells of the database's entries
record Told (c : NodeCell) (m : NodeMoved) : Type 0 where
  locks : (v : ℕ) → entry_turned (lock_turned v) (stamp_in (get v (entries_in c))) m.entry ≡ stamp_in (get v (entries_in m.cell))
  sites : (v : ℕ) (was : Option Node) → ((server : Node) → home_listed (get v (entries_in c)) ≡ Some server → was ≡ Some server) → (server : Node) → home_listed (get v (entries_in m.cell)) ≡ Some server → entry_turned (site_turned v) was m.entry ≡ Some server

unturned : {A : Type 0} (turn : A → Line → A) (was : A) (e : Entry) → is_database e.actor ≡ false → entry_turned turn was e ≡ was
unturned {A} turn was e other = ap (λ (b : Bool). cond b (lines_turned turn was e.lines) was) other

either : (b : Bool) (c : NodeCell) (x y : NodeMoved) → Told c x → Told c y → Told c (cond b x y)
either true c x y h k = h
either false c x y h k = k

-- ---- other nodes

-- it is no entry of the database, and that stays as it is
others : (c : NodeCell) (m : NodeMoved) → m.cell.loc ≡ c.loc → is_database m.entry.actor ≡ false → Told c m
others c m same other = record {
  locks = λ v. unturned (lock_turned v) (stamp_in (get v (entries_in c))) m.entry other ∙ ap (λ (l : LocHost). stamp_in (get v l.state.lasting.entries)) (sym same);
  sites = λ v was h server e. unturned (site_turned v) was m.entry other ∙ h server (ap (λ (l : LocHost). home_listed (get v l.state.lasting.entries)) (sym same) ∙ e);
}

piece_told : (c : NodeCell) (i : ℕ) (n : Node) (o : Option PieceCall) → Told c (piece_timed c i n o)
piece_told c i n None = others c _ refl refl
piece_told c i n (Some p) = others c _ refl refl

call_told : (c : NodeCell) (i : ℕ) (n : Node) (o : Option BackCall) → Told c (call_timed c i n o)
call_told c i n None = piece_told c i n ((c.hosts i).state.vol.calls n)
call_told c i n (Some b) = others c _ refl refl

timed_told : (c : NodeCell) (i : ℕ) (n : Node) (d : Option Fall) → Told c (server_timed c i n d)
timed_told c i n None = call_told c i n ((c.hosts i).state.file.backs.calls n)
timed_told c i n (Some fall) = others c _ refl refl

up_told : (c : NodeCell) (i : ℕ) (s : HostStep NodeState) (d : Option Fall) → Told c (server_up c i s d)
up_told c i s None = others c _ refl refl
up_told c i s (Some fall) = others c _ refl refl

risen_told : (c : NodeCell) (i : ℕ) (after : Bool) (o : Outcome) (d : Option Fall) → Told c (server_restarted c i after o d)
risen_told c i after o None = others c _ refl refl
risen_told c i after o (Some fall) = others c _ refl refl

begun_told : (c : NodeCell) (n : ℕ) (act : Act) (o : Option Going) → Told c (begun_by c n act o)
begun_told c n act None = others c _ refl refl
begun_told c n act (Some other) = others c _ refl refl

sought_told : (c : NodeCell) (n : ℕ) (o : Option Seek) → Told c (sought_for c n o)
sought_told c n None = others c _ refl refl
sought_told c n (Some k) = others c _ refl refl

waited_told : (c : NodeCell) (n : ℕ) (o : Option Going) → Told c (waited_by c n o)
waited_told c n None = sought_told c n (c.clients n).client.seeking
waited_told c n (Some act) = others c _ refl refl

admin_begun_told : (c : NodeCell) (n : ℕ) (act : AdminAct) (o : Option Running) → Told c (admin_begun c n act o)
admin_begun_told c n act None = others c _ refl refl
admin_begun_told c n act (Some other) = others c _ refl refl

admin_waited_told : (c : NodeCell) (n : ℕ) (o : Option Running) → Told c (admin_waited c n o)
admin_waited_told c n None = others c _ refl refl
admin_waited_told c n (Some r) = others c _ refl refl

-- ---- the database

loc_told : (c : NodeCell) (s : HostStep LocState) (d : Option Fall) → Tells (entries_in c) (entries_of s.host.state) s.lines → Told c (loc_up c s d)
loc_told c s None h = record { locks = h.locks; sites = h.sites }
loc_told c s (Some fall) h = others c _ refl refl

loc_risen : (c : NodeCell) (after : Bool) (o : Outcome) (d : Option Fall) → Told c (loc_restarted c after o d)
loc_risen c after o None = others c _ refl refl
loc_risen c after o (Some fall) = let h = restart_tells c.loc c.clock c.count after o fall in record { locks = h.locks; sites = h.sites }

-- ---- every input

to_told : (c : NodeCell) (place : ℕ) (luck : Luck) (m : Message) (n : Node) → Told c (given_to c place luck m n)
to_told c place luck m (Server i) = either (has_host c i) c _ _ (up_told c i _ (c.hosts i).down) (others c _ refl refl)
to_told c place luck m (Client n) = either (is_away c n) c _ _ (others c _ refl refl) (others c _ refl refl)
to_told c place luck m Loc = loc_told c (served loc_kind c.loc c.clock place luck m) c.loc.down (serve_tells c.loc c.clock place luck m)
to_told c place luck m (Admin n) = either (is_gone c n) c _ _ (others c _ refl refl) (others c _ refl refl)

at_told : (c : NodeCell) (place : ℕ) (luck : Luck) (o : Option Message) → Told c (given_at c place luck o)
at_told c place luck None = others c _ refl refl
at_told c place luck (Some m) = to_told c place luck m m.head.to

usual_told : (c : NodeCell) (x : Input) → Told c (usually_moved c x)
unfolding usually_moved
usual_told c (begins n act) = either (is_away c n) c _ _ (others c _ refl refl) (begun_told c n act (act_of (c.clients n).client))
usual_told c (gives place luck) = at_told c place luck (message_at c.sent place)
usual_told c (waits n) = either (is_away c n) c _ _ (others c _ refl refl) (waited_told c n (c.clients n).client.running)
usual_told c (ticks zero) = others c _ refl refl
usual_told c (ticks (suc n)) = others c _ refl refl
usual_told c (client_stops n) = either (is_away c n) c _ _ (others c _ refl refl) (others c _ refl refl)
usual_told c (client_starts n) = either (c.away n) c _ _ (others c _ refl refl) (others c _ refl refl)
usual_told c (stops zero) = loc_told c (crashed loc_kind c.loc) c.loc.down (crash_tells c.loc)
usual_told c (stops (suc i)) = either (has_host c (suc i)) c _ _ (up_told c (suc i) _ (c.hosts (suc i)).down) (others c _ refl refl)
usual_told c (starts_again zero after o) = loc_risen c after o c.loc.down
usual_told c (starts_again (suc i) after o) = either (has_host c (suc i)) c _ _ (risen_told c (suc i) after o (c.hosts (suc i)).down) (others c _ refl refl)
usual_told c (sets_stop zero calls pick) = loc_told c (set_to_stop loc_kind c.loc calls pick) c.loc.down (stop_tells c.loc calls pick)
usual_told c (sets_stop (suc i) calls pick) = either (has_host c (suc i)) c _ _ (up_told c (suc i) _ (c.hosts (suc i)).down) (others c _ refl refl)
usual_told c (sets_fail zero call) = loc_told c (set_to_fail loc_kind c.loc call) c.loc.down (fail_tells c.loc call)
usual_told c (sets_fail (suc i) call) = either (has_host c (suc i)) c _ _ (up_told c (suc i) _ (c.hosts (suc i)).down) (others c _ refl refl)
usual_told c (server_waits i n) = either (has_host c i) c _ _ (timed_told c i n (c.hosts i).down) (others c _ refl refl)
usual_told c (wakes i) = either (has_host c i) c _ _ (up_told c i _ (c.hosts i).down) (others c _ refl refl)
usual_told c nothing = others c _ refl refl

tells : (c : NodeCell) (x : CellInput) → Told c (node_moved c x)
tells c (usual x) = usual_told c x
tells c (admin_begins n act) = either (is_gone c n) c _ _ (others c _ refl refl) (admin_begun_told c n act (c.admins n).running)
tells c (admin_waits n) = either (is_gone c n) c _ _ (others c _ refl refl) (admin_waited_told c n (c.admins n).running)
tells c (admin_stops n) = either (is_gone c n) c _ _ (others c _ refl refl) (others c _ refl refl)
tells c (admin_starts n) = either (c.gone n) c _ _ (others c _ refl refl) (others c _ refl refl)

-- ---- a run up to any of its entries

locks_led : (n v : ℕ) (c : NodeCell) (xs : List CellInput) (es : List Entry) (end : NodeCell) → NodeLeads c xs es end → turned_behind (lock_turned v) (stamp_in (get v (entries_in c))) (take n es) ≡ stamp_in (get v (entries_in (cell_behind c (take n xs))))
locks_led zero v c xs es end is = refl
locks_led (suc n) v c [] [] end is = refl
locks_led (suc n) v c [] (e ∷ es) end is = absurd is
locks_led (suc n) v c (x ∷ xs) [] end is = absurd is
locks_led (suc n) v c (x ∷ xs) (e ∷ es) end is =
    ap (λ (was : Option ℕ). turned_behind (lock_turned v) was (take n es)) (ap (entry_turned (lock_turned v) (stamp_in (get v (entries_in c)))) is.0 ∙ (tells c x).locks v) ∙ locks_led n v (node_moved c x).cell xs es end is.1

sites_led : (n v : ℕ) (c : NodeCell) (xs : List CellInput) (es : List Entry) (end : NodeCell) (was : Option Node) → NodeLeads c xs es end → ((server : Node) → home_listed (get v (entries_in c)) ≡ Some server → was ≡ Some server) → (server : Node) →
    home_listed (get v (entries_in (cell_behind c (take n xs)))) ≡ Some server → turned_behind (site_turned v) was (take n es) ≡ Some server
sites_led zero v c xs es end was is h server at = h server at
sites_led (suc n) v c [] [] end was is h server at = h server at
sites_led (suc n) v c [] (e ∷ es) end was is h server at = absurd is
sites_led (suc n) v c (x ∷ xs) [] end was is h server at = absurd is
sites_led (suc n) v c (x ∷ xs) (e ∷ es) end was is h server at =
    sites_led n v (node_moved c x).cell xs es end (entry_turned (site_turned v) was e) is.1 (λ k z. ap (entry_turned (site_turned v) was) is.0 ∙ (tells c x).sites v was h k z) server at

-- ---- at set-up no entry is locked

listed_free : (c : Bool) (l : VolumeLine) (o : Option Listed) → stamp_in o ≡ None → stamp_in (cond c (Some (listed_line l)) o) ≡ None
listed_free true l o h = refl
listed_free false l o h = h

one_free : (v : ℕ) (b : Bool) (l : VolumeLine) (t : Table Listed) → stamp_in (get v t) ≡ None → stamp_in (get v (listed_by b l t)) ≡ None
one_free v true l t h = h
one_free v false l t h = ap stamp_in (get_set v l.id (listed_line l) t) ∙ listed_free (nat_eq l.id v) l (get v t) h

first_free : (v : ℕ) (vs : List VolumeLine) → stamp_in (get v (first_entries vs)) ≡ None
first_free v [] = refl
first_free v (l ∷ ls) = one_free v (counts_later l.id ls) l (first_entries ls) (first_free v ls)

pub entries_are_told : EntriesAsTold
entries_are_told = record {
  locks = λ s inputs history end leads n v. ap (λ (was : Option ℕ). turned_behind (lock_turned v) was (take n history)) (sym (first_free v s.volumes)) ∙ locks_led n v (node_start s) inputs history end leads;
  sites = λ s inputs history end leads n v server at. sites_led n v (node_start s) inputs history end (home_listed (get v (first_entries s.volumes))) leads (λ k z. z) server at;
}

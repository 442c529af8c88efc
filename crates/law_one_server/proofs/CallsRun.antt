-- Calls that run and change something: each is a message that was sent, and behind it the server has what was written; a start may take away
-- volumes that are to go.
use Rattle.std.proofs.Common.{◌≡◌, ◌⊎◌, inl, inr, ℕ, suc, Bool, true, false, cond, List, [], ◌∷◌, ◌++◌, Option, Some, None, Result, Ok, Err, refl, sym, ap, subst, ◌∙◌, nat_eq}
use Rattle.std.specs.Prelude.{⊤, filter}
use Rattle.std.specs.List.{AllByRecursion}
use Rattle.afs_num.specs.Nodes.{same_node}
use Rattle.afs_num.specs.declared.calls.FsCall.{FsCall}
use Rattle.afs_num.specs.declared.calls.FsCall.TheVariants as calls
use Rattle.afs_num.specs.declared.messages.Call.TheVariants as ask
use Rattle.afs_num.specs.declared.messages.Carried.{Carried}
use Rattle.afs_num.specs.declared.messages.Carried.TheVariants as carried
use Rattle.afs_num.specs.declared.messages.Message.{Message}
use Rattle.afs_num.specs.declared.messages.Received.TheVariants.{Whole}
use Rattle.afs_num.specs.declared.types.Head.{Head}
use Rattle.afs_num.specs.declared.types.Node.{Node}
use Rattle.afs_num.specs.declared.types.Node.TheVariants.{Loc, Server}
use Rattle.spec_history.specs.declared.scripts.Script.{Script}
use Rattle.spec_ideal.specs.Operations.{op, the_user, volume_called, Caller}
use Rattle.spec_ideal.specs.Operations as ideal
use Rattle.spec_ideal.specs.Tables.{get, set, Table}
use Rattle.spec_fold.specs.Deeds.{done_by}
use Rattle.law_legal.proofs.BaseLaws.{at_put}
use Rattle.spec_model.specs.Calls.{admitted, Admitted}
use Rattle.spec_model.specs.Calls as pairs
use Rattle.spec_records.specs.Durable.{has_room, Durable, Stored}
use Rattle.spec_rows.specs.Hosts.{at_rest, begun_from, comes_up, ends, fails_early, fails_midway, in_boot, in_step, is_full, restarted, served_by, without_boot_record, struck, Blow, Fall, HostStep, Outcome}
use Rattle.spec_rows.specs.LocRow as locs
use Rattle.spec_rows.specs.LocRow.{loc_decides, LocDecision}
use Rattle.spec_rows.specs.ServerHosts.{can_start}
use Rattle.spec_rows.specs.ServerRow as files
use Rattle.spec_rows.specs.ServerRow.{decided, is_client, is_unflagged, record_of, several, Change, Decision, Sight}
use Rattle.spec_rows.specs.Runs.{message_at}
use Rattle.spec_rows.specs.States.{durable_of, Lasting, ServerState}
use Rattle.spec_rows.specs.Steps.{Begun}
use Rattle.spec_volrows.proofs.VolTurns.{deeds_are_shown}
use Rattle.spec_volrows.specs.FileRow.{closed_code, file_admits, file_carried, file_hears, file_in, file_serves, file_sights, file_start, file_volume, unless_closed}
use Rattle.spec_volrows.specs.NodeHosts.{node_kind, NodeHost}
use Rattle.spec_volrows.specs.VolLaws.{ShowsDeed}
use Rattle.spec_volrows.specs.VolRow.{holds_of}
use Rattle.spec_volrows.specs.VolStates.{NodeState, VolState}
use Rattle.spec_volrows.specs.VolSteps.{deed_done, dispatches, drops, is_of_client, node_device_calls, node_file_decides, node_start_row, repeats, replies_to, saves, tells_boot, vol_decides, Deed, VolDecision}
use Rattle.spec_runs.specs.NodeRuns.{has_host, node_moved, node_start, server_stepped, CellInput, NodeCell, NodeMoved}
use Rattle.law_walks.specs.Kinds.{IsGiven, IsUp}
use Rattle.law_places.specs.Accepting.{cell_behind}
use Rattle.law_keys.specs.Ran.{database_ran, ran_by, ran_found, ran_of_file, ran_of_loc, ran_of_vol, ran_restarted, ran_served, server_ran, that_changed, unless_early, unless_hit, RanCall}
use Rattle.law_keys.proofs.Deciding.{vol_decides_so}
use Rattle.law_keys.proofs.Deciding as vols
use Rattle.law_keys.proofs.EachRan.{each_ran, EachRan}
use Rattle.law_fences.specs.Claims.{Counts, IsLive}
use Rattle.law_fences.specs.Fences.{disk_at}
use Rattle.law_fences.proofs.Claiming.{claims, FellIs, IsSent}
use Rattle.law_families.proofs.Turns.{deed_volumes}
use Rattle.law_fences.proofs.Live.{counted}
use Rattle.law_one_server.proofs.ServersThere.{is_there}

-- ---- of which header a file server's decision is

abbrev OfHead : Head → Decision → Type 0
OfHead head (files.refuses h code) = h ≡ head
OfHead head (files.shows h r) = h ≡ head
OfHead head (files.saves h c) = h ≡ head
OfHead head files.drops = ⊤
OfHead head (files.tells_boot h) = ⊤
OfHead head (files.repeats reply) = ⊤

module _ (holds : Table ℕ) (s : ServerState) (clock : ℕ) (head : Head) where
  either_of : (b : Bool) (x y : Decision) → OfHead head x → OfHead head y → OfHead head (cond b x y)
  either_of true x y h k = h
  either_of false x y h k = k

  decided_of : (caller : Caller) (call : FsCall) (id : ℕ) (st : Stored) (r : ideal.Result) → OfHead head (decided s clock head caller call id st r)
  decided_of caller call id st (ideal.refused code) = refl
  decided_of caller call id st (ideal.reads shown) = refl
  decided_of caller call id st ideal.no_operation = refl
  decided_of caller call id st (ideal.changes es n) = either_of (has_room (durable_of s.lasting) (record_of s.lasting.boot head clock (record { id = id; caller = caller; call = call; before = st; edits = es; shown = n }))) _ _ refl refl

  closed_of : (o : Option ℕ) (d : Decision) → OfHead head d → OfHead head (unless_closed head o d)
  closed_of None d h = h
  closed_of (Some code) d h = refl

  in_of : (caller : Caller) (call : FsCall) (id : ℕ) (o : Option Stored) → OfHead head (file_in holds s clock head caller call id o)
  in_of caller call id None = refl
  in_of caller call id (Some st) = closed_of (closed_code st (get id holds)) _ (decided_of caller call id st (op id caller call st.volume))

  volume_of : (caller : Caller) (call : FsCall) (o : Option ℕ) → OfHead head (file_volume holds s clock head caller call o)
  volume_of caller call None = refl
  volume_of caller call (Some id) = in_of caller call id (get id s.lasting.volumes)

  several_of : (caller : Caller) (r : Result (List Sight) ℕ) → OfHead head (several head caller r)
  several_of caller (Ok xs) = refl
  several_of caller (Err code) = refl

  serves_of : (user : List ℕ) (call : FsCall) → OfHead head (file_serves holds s clock head user call)
  serves_of user (calls.GiveUpCallBacks fids callbacks) = refl
  serves_of user calls.GetTime = refl
  serves_of user (calls.BulkStatus fids) = several_of (the_user user) (file_sights holds s.lasting (the_user user) fids)
  serves_of user call = volume_of (the_user user) call (volume_called call)

  carried_of : (c : Carried) → OfHead head (file_carried holds s clock head c)
  carried_of (carried.Call user (ask.File call)) = serves_of user call
  carried_of (carried.Call user (ask.Volume call)) = refl
  carried_of (carried.Call user (ask.Location call)) = refl
  carried_of (carried.Refusal code) = tt
  carried_of (carried.Reply reply) = tt
  carried_of carried.Notice = tt

  admits_of : (c : Carried) (a : Admitted Message) → OfHead head (file_admits holds s clock head (Whole (record { head = head; carried = c })) a)
  admits_of c pairs.runs = either_of (is_client head.from) _ _ (carried_of c) refl
  admits_of c (pairs.kept reply) = tt
  admits_of c pairs.in_progress = tt
  admits_of c pairs.older = tt
  admits_of c (pairs.wrong_boot boot) = tt

  hears_of : (me : Node) (c : Carried) → OfHead head (file_hears me holds s clock head c)
  hears_of me (carried.Call user call) = either_of (same_node head.to me) _ files.drops (admits_of (carried.Call user call) (admitted s.lasting.boot s.seats head)) tt
  hears_of me (carried.Refusal code) = tt
  hears_of me (carried.Reply reply) = tt
  hears_of me carried.Notice = tt

-- ---- what was written is there

-- it is there, or a start took away what is to go
abbrev pub IsLeft : Table Stored → Table Stored → Type 0
IsLeft written now = (now ≡ written) ⊎ (now ≡ filter is_unflagged written)

-- The call is this message's, which was sent to the server; it is what the server decided on it, by what it had; and that is there.
pub record IsDone (c d : NodeCell) (i : ℕ) (r : RanCall) : Type 0 where
  pub place : ℕ
  pub m : Message
  pub sent : message_at c.sent place ≡ Some m
  pub to : m.head.to ≡ Server i
  pub head : r.head ≡ m.head
  pub host : has_host c i ≡ true
  pub live : IsLive c i
  pub under : Head
  pub x : Deed
  pub decides : vol_decides (Server i) (disk_at c i) (c.hosts i).state.vol (Whole m) ≡ saves under x
  pub left : IsLeft (done_by x.body (disk_at c i)).volumes (d.hosts i).state.file.lasting.volumes

-- a call of no client that changed something at a server
abbrev pub DoneAt : NodeCell → NodeCell → RanCall → Type 0
DoneAt c d r = (i : ℕ) → r.callee ≡ Server i → r.changed ≡ true → is_client r.head.from ≡ false → IsDone c d i r

abbrev pub AreDone : NodeCell → NodeCell → List RanCall → Type 0
AreDone c d rs = AllByRecursion (DoneAt c d) rs

-- none is a server's
loc_done : (c d : NodeCell) (r : RanCall) → r.callee ≡ Loc → DoneAt c d r
loc_done c d r is i callee changed other = let no' : Loc ≡ Server i = sym is ∙ callee in absurd cc

kept_done : (c d : NodeCell) (rs : List RanCall) → AreDone c d rs → AreDone c d (filter that_changed rs)
kept_done c d [] h = tt
kept_done c d (r ∷ rs) h = by r.changed (kept_done c d rs h.1)
  where
    by : (b : Bool) → AreDone c d (filter that_changed rs) → AreDone c d (cond b (r ∷ filter that_changed rs) (filter that_changed rs))
    by true k = (h.0, k)
    by false k = k

not_both : (b : Bool) → b ≡ true → b ≡ false → ⊥
not_both b e f = let none : true ≡ false = sym e ∙ f in absurd cc

module _ (c d : NodeCell) (i place : ℕ) (m : Message) (sent : message_at c.sent place ≡ Some m) (to : m.head.to ≡ Server i) (there : has_host c i ≡ true) (live : IsLive c i) where
  abbrev host : NodeHost
  host = c.hosts i

  abbrev decision : VolDecision
  decision = vol_decides (Server i) (disk_at c i) host.state.vol (Whole m)

  -- where the volumes are those that are written, or a start took from them
  module _ (left : (h : Head) (x : Deed) → is_of_client (Some m.head.from) ≡ false → decision ≡ saves h x → IsLeft (done_by x.body (disk_at c i)).volumes (d.hosts i).state.file.lasting.volumes) where
    saved_done : (h : Head) (x : Deed) (boot : ℕ) → h ≡ m.head → is_of_client (Some m.head.from) ≡ false → decision ≡ saves h x → DoneAt c d (record { callee = Server i; boot = boot; head = h; changed = true })
    saved_done h x boot same other is j callee changed far =
        let number : i ≡ j = cc in
        subst (λ (k : ℕ). IsDone c d k (record { callee = Server i; boot = boot; head = h; changed = true })) number
        (record { place = place; m = m; sent = sent; to = to; head = same; host = there; live = live; under = h; x = x; decides = is; left = left h x other is })

    vol_done : (boot : ℕ) (x : VolDecision) → is_of_client (Some m.head.from) ≡ false → decision ≡ x → vols.OfHead boot m.head x → AreDone c d (ran_of_vol (Server i) boot x)
    vol_done boot (saves h x) other is of = (saved_done h x boot of.0 other is, tt)
    vol_done boot (replies_to h reply ts last) other is of = ((λ j callee changed far. absurd cc), tt)
    vol_done boot (dispatches h x) other is of = ((λ j callee changed far. absurd cc), tt)
    vol_done boot drops other is of = tt
    vol_done boot (tells_boot h) other is of = tt
    vol_done boot (repeats reply) other is of = tt

    file_done : (boot : ℕ) (x : Decision) → is_client m.head.from ≡ true → OfHead m.head x → AreDone c d (ran_of_file (Server i) boot x)
    file_done boot (files.saves h x) client of = ((λ j callee changed far. absurd (not_both (is_client m.head.from) client (subst (λ (q : Head). is_client q.from ≡ false) of far))), tt)
    file_done boot (files.refuses h code) client of = ((λ j callee changed far. absurd cc), tt)
    file_done boot (files.shows h r) client of = ((λ j callee changed far. absurd cc), tt)
    file_done boot files.drops client of = tt
    file_done boot (files.tells_boot h) client of = tt
    file_done boot (files.repeats reply) client of = tt

    server_by : (b : Bool) (clock : ℕ) → is_of_client (Some m.head.from) ≡ b →
        AreDone c d (cond b (ran_of_file (Server i) host.state.file.lasting.boot (node_file_decides (Server i) host.state clock (Whole m))) (ran_of_vol (Server i) host.state.file.lasting.boot decision))
    server_by true clock is = file_done host.state.file.lasting.boot (node_file_decides (Server i) host.state clock (Whole m)) is (hears_of (holds_of host.state.vol.transactions) host.state.file clock m.head (Server i) m.carried)
    server_by false clock is = vol_done host.state.file.lasting.boot decision is refl (vol_decides_so (Server i) (disk_at c i) host.state.vol m).of

    server_done : (clock : ℕ) → AreDone c d (server_ran (Server i) host.state clock m)
    server_done clock = server_by (is_of_client (Some m.head.from)) clock refl

module _ (s : Script) (inputs : List CellInput) where
  abbrev c : NodeCell
  c = cell_behind (node_start s) inputs

  at_step : (i : ℕ) (st : HostStep NodeState) → (server_stepped c i st).cell.hosts i ≡ st.host
  at_step i st = at_put i i (λ (x : NodeHost). x ≡ st.host) st.host c.hosts (λ one. refl) (λ other. absurd (other refl))

  volumes_behind : (i : ℕ) (st : HostStep NodeState) → ((server_stepped c i st).cell.hosts i).state.file.lasting.volumes ≡ st.host.state.file.lasting.volumes
  volumes_behind i st = ap (λ (x : NodeHost). x.state.file.lasting.volumes) (at_step i st)

  serves_by : (i place : ℕ) (m : Message) (o : Option Blow) → IsUp c i → IsGiven c place m (Server i) →
      AreDone c (server_stepped c i (served_by (node_kind (Server i)) (c.hosts i) c.clock place m o)).cell (unless_hit o (server_ran (Server i) (c.hosts i).state c.clock m))
  serves_by i place m None up g =
      let st : HostStep NodeState = served_by (node_kind (Server i)) (c.hosts i) c.clock place m None in
      server_done c (server_stepped c i st).cell i place m g.sent g.to up.there (counted (c.hosts i).down up.up)
      (λ h x other is. inl (volumes_behind i st ∙ (row_volumes h x other is ∙ deed_volumes h x (c.hosts i).state.file.lasting))) c.clock
    where
      row_volumes : (h : Head) (x : Deed) → is_of_client (Some m.head.from) ≡ false → vol_decides (Server i) (disk_at c i) (c.hosts i).state.vol (Whole m) ≡ saves h x →
          (served_by (node_kind (Server i)) (c.hosts i) c.clock place m None).host.state.file.lasting.volumes ≡ (deed_done h x (c.hosts i).state.file.lasting).volumes
      row_volumes h x other is = let z : ShowsDeed (Server i) (c.hosts i).state c.clock place h x _ = deeds_are_shown (Server i) (c.hosts i).state c.clock place (Whole m) h x other is in ap (λ (l : Lasting). l.volumes) z.lasting
  serves_by i place m (Some b) up g = tt

  -- ---- a restart

  begun_volumes : (i : ℕ) (clock : ℕ) (m : Message) (b : Blow) (h : Head) (x : Deed) → is_of_client (Some m.head.from) ≡ false → vol_decides (Server i) (disk_at c i) (c.hosts i).state.vol (Whole m) ≡ saves h x →
      (begun_from (node_kind (Server i)) (c.hosts i).state true (in_step m clock b)).state.file.lasting.volumes ≡ (deed_done h x (c.hosts i).state.file.lasting).volumes
  begun_volumes i clock m b h x other is = rw (other, is) refl

  ends_left : (i : ℕ) (f : Begun NodeState) (fall : Fall) (o : Outcome) → (o ≡ fails_early → ⊥) → IsLeft f.state.file.lasting.volumes (ends (node_kind (Server i)) (c.hosts i) c.clock c.count f fall o).host.state.file.lasting.volumes
  unfolding node_start_row file_start
  ends_left i f fall comes_up goes = inr refl
  ends_left i f fall fails_early goes = absurd (goes refl)
  ends_left i f fall fails_midway goes = inl refl
  ends_left i f fall is_full goes = inl refl

  left_of : (written was now later : Table Stored) → was ≡ written → later ≡ now → IsLeft was now → IsLeft written later
  left_of written was now later same at (inl is) = inl (at ∙ (is ∙ same))
  left_of written was now later same at (inr is) = inr (at ∙ (is ∙ ap (filter is_unflagged) same))

  cut_done : (i clock : ℕ) (m : Message) (b : Blow) (o : Outcome) → (o ≡ fails_early → ⊥) → has_host c i ≡ true → IsLive c i → IsSent c i m → (d : NodeCell) → d ≡ (server_stepped c i (ends (node_kind (Server i)) (c.hosts i) c.clock c.count (begun_from (node_kind (Server i)) (c.hosts i).state true (in_step m clock b)) (in_step m clock b) o)).cell →
      AreDone c d (filter that_changed (server_ran (Server i) (c.hosts i).state clock m))
  cut_done i clock m b o goes there live sent d same =
      let f : Begun NodeState = begun_from (node_kind (Server i)) (c.hosts i).state true (in_step m clock b) in
      let st : HostStep NodeState = ends (node_kind (Server i)) (c.hosts i) c.clock c.count f (in_step m clock b) o in
      kept_done c d (server_ran (Server i) (c.hosts i).state clock m)
      (server_done c d i sent.place m sent.at sent.to there live
      (λ h x other is. left_of (done_by x.body (disk_at c i)).volumes f.state.file.lasting.volumes st.host.state.file.lasting.volumes (d.hosts i).state.file.lasting.volumes
      (begun_volumes i clock m b h x other is ∙ deed_volumes h x (c.hosts i).state.file.lasting) (ap (λ (e : NodeCell). (e.hosts i).state.file.lasting.volumes) same ∙ volumes_behind i st) (ends_left i f (in_step m clock b) o goes)) clock)

  ends_done : (i : ℕ) (after : Bool) (fall : Fall) (o : Outcome) → (c.hosts i).down ≡ Some fall → FellIs (claims s inputs).bounds c i (Some fall) →
      AreDone c (server_stepped c i (ends (node_kind (Server i)) (c.hosts i) c.clock c.count (begun_from (node_kind (Server i)) (c.hosts i).state after fall) fall o)).cell (unless_early o (ran_found (server_ran (Server i)) (c.hosts i).state after fall))
  ends_done i after at_rest comes_up down fell = tt
  ends_done i after at_rest fails_early down fell = tt
  ends_done i after at_rest fails_midway down fell = tt
  ends_done i after at_rest is_full down fell = tt
  ends_done i false (in_step m clock b) comes_up down fell = tt
  ends_done i false (in_step m clock b) fails_early down fell = tt
  ends_done i false (in_step m clock b) fails_midway down fell = tt
  ends_done i false (in_step m clock b) is_full down fell = tt
  ends_done i true (in_step m clock b) comes_up down fell = cut_done i clock m b comes_up (λ e. absurd cc) (is_there s inputs i (in_step m clock b) down) (subst Counts (sym down) tt) fell.1 _ refl
  ends_done i true (in_step m clock b) fails_early down fell = tt
  ends_done i true (in_step m clock b) fails_midway down fell = cut_done i clock m b fails_midway (λ e. absurd cc) (is_there s inputs i (in_step m clock b) down) (subst Counts (sym down) tt) fell.1 _ refl
  ends_done i true (in_step m clock b) is_full down fell = cut_done i clock m b is_full (λ e. absurd cc) (is_there s inputs i (in_step m clock b) down) (subst Counts (sym down) tt) fell.1 _ refl
  ends_done i false in_boot comes_up down fell = tt
  ends_done i false in_boot fails_early down fell = tt
  ends_done i false in_boot fails_midway down fell = tt
  ends_done i false in_boot is_full down fell = tt
  ends_done i true in_boot comes_up down fell = tt
  ends_done i true in_boot fails_early down fell = tt
  ends_done i true in_boot fails_midway down fell = tt
  ends_done i true in_boot is_full down fell = tt

  -- ---- the database: none of its calls is a server's

  loc_ran : (d : NodeCell) (boot : ℕ) (x : LocDecision) → AreDone c d (ran_of_loc boot x)
  loc_ran d boot (locs.refuses head code) = (loc_done c d _ refl, tt)
  loc_ran d boot (locs.shows head reply) = (loc_done c d _ refl, tt)
  loc_ran d boot (locs.saves head x) = (loc_done c d _ refl, tt)
  loc_ran d boot locs.drops = tt
  loc_ran d boot (locs.tells_boot head) = tt
  loc_ran d boot (locs.repeats reply) = tt

  loc_hit : (d : NodeCell) (o : Option Blow) (rs : List RanCall) → AreDone c d rs → AreDone c d (unless_hit o rs)
  loc_hit d None rs h = h
  loc_hit d (Some b) rs h = tt

  loc_early : (d : NodeCell) (o : Outcome) (rs : List RanCall) → AreDone c d rs → AreDone c d (unless_early o rs)
  loc_early d comes_up rs h = h
  loc_early d fails_early rs h = tt
  loc_early d fails_midway rs h = h
  loc_early d is_full rs h = h

  loc_found : (d : NodeCell) (after : Bool) (fall : Fall) → AreDone c d (ran_found database_ran c.loc.state after fall)
  loc_found d after at_rest = tt
  loc_found d false (in_step m clock b) = tt
  loc_found d true (in_step m clock b) = kept_done c d (database_ran c.loc.state clock m) (loc_ran d c.loc.state.lasting.boot (loc_decides c.loc.state (Whole m)))
  loc_found d after in_boot = tt

  -- ---- every input

  -- Whatever runs at a server in a step, of no client, and changes something, is done so.
  pub are_done : (x : CellInput) → AreDone c (node_moved c x).cell (ran_by c x)
  are_done x = each_ran (λ (m : NodeMoved) (new : List RanCall). AreDone c m.cell new) c (record {
    void = tt;
    ticks = λ n. tt;
    serves = λ i place luck m up g. serves_by i place m (struck (c.hosts i).armed luck (node_device_calls (Server i) (c.hosts i).state c.clock (Whole m))) up g;
    restarts = λ i after o fall down. ends_done i after fall (without_boot_record (can_start (begun_from (node_kind (Server i)) (c.hosts i).state after fall).state.file) o) down (subst (FellIs (claims s inputs).bounds c i) down ((claims s inputs).fell i));
    crashes = λ i up. tt;
    stop_set = λ i calls pick up. tt;
    fail_set = λ i call up. tt;
    piece_late = λ i n p up. tt;
    break_late = λ i n b up. tt;
    wakes = λ i up. tt;
    loc_serves = λ place luck m up g. loc_hit _ (struck c.loc.armed luck _) _ (loc_ran _ c.loc.state.lasting.boot (loc_decides c.loc.state (Whole m)));
    loc_restarts = λ after o fall down. loc_early _ (without_boot_record _ o) _ (loc_found _ after fall);
    loc_crashes = λ up. tt;
    loc_stop_set = λ calls pick up. tt;
    loc_fail_set = λ call up. tt;
    clients = record { begins = λ n act up idle. tt; given = λ n place m up g. tt; seek_late = λ n k up is. tt; late = λ n act up is. tt; stops = λ n up. tt; starts = λ n away. tt };
    admins = record { begins = λ n act up idle. tt; given = λ n place m up g. tt; late = λ n r up is. tt; stops = λ n up. tt; starts = λ n gone. tt };
  }) x

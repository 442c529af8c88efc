-- Each input leaves the location database's entries as they were, and no call that changes it runs there; or one runs that was sent, and the
-- entries are as it leaves them.
use Rattle.std.proofs.Common.{◌≡◌, ◌⊎◌, inl, inr, ℕ, Bool, true, false, cond, List, [], ◌∷◌, Option, Some, None, refl, ap, subst}
use Rattle.std.specs.Prelude.{filter}
use Rattle.std.specs.List.{AllByRecursion}
use Rattle.afs_num.specs.declared.messages.Message.{Message}
use Rattle.afs_num.specs.declared.messages.Received.TheVariants.{Whole}
use Rattle.afs_num.specs.declared.types.Head.{Head}
use Rattle.afs_num.specs.declared.types.Node.TheVariants.{Loc, Server}
use Rattle.spec_history.specs.declared.scripts.Script.{Script}
use Rattle.spec_records.specs.LocDurable.{entries_after}
use Rattle.spec_rows.specs.Hosts.{at_rest, begun_from, ends, comes_up, fails_early, fails_midway, in_boot, in_step, is_full, served_by, struck, without_boot_record, Blow, Fall, HostStep, Outcome}
use Rattle.spec_rows.specs.LocRow as locs
use Rattle.spec_rows.specs.LocRow.{loc_decides, loc_left, LocChange, LocDecision, LocState}
use Rattle.spec_rows.specs.LocSteps.{loc_begun_after, loc_kind, loc_row, loc_start_row}
use Rattle.spec_rows.specs.ServerRow as files
use Rattle.spec_rows.specs.ServerRow.{Decision}
use Rattle.spec_rows.specs.States.{durable_of}
use Rattle.spec_volrows.specs.VolStates.{NodeState}
use Rattle.spec_volrows.specs.VolSteps as vols
use Rattle.spec_volrows.specs.VolSteps.{from_of, is_of_client, node_file_decides, vol_decides, VolDecision}
use Rattle.spec_runs.specs.NodeRuns.{loc_stepped, node_moved, node_start, CellInput, NodeCell, NodeMoved}
use Rattle.law_walks.specs.Messages.{FallIs}
use Rattle.law_walks.proofs.EachKind.{any_admin, any_client}
use Rattle.law_places.specs.Accepting.{cell_behind}
use Rattle.law_stamps.specs.Told.{entries_in}
use Rattle.law_keys.specs.Ran.{database_ran, one_ran, ran_by, ran_found, ran_of_file, ran_of_loc, ran_of_vol, server_ran, that_changed, unless_early, unless_hit, RanCall}
use Rattle.law_keys.proofs.EachRan.{each_ran}
use Rattle.law_keys.proofs.LocSeats.{loc_decides_so, OfHead}
use Rattle.law_locks.proofs.Walk.{loc_falls_sent, WasSent}
use Rattle.law_one_server.proofs.DatabaseChanges.{IsChanged}
use Rattle.law_one_server.proofs.DatabaseSteps.{hears_serves, Serves}

-- ---- what runs

-- it changed nothing at the database
abbrev pub ChangesNone : RanCall → Type 0
ChangesNone r = r.callee ≡ Loc → r.changed ≡ true → ⊥

-- One call ran there, and its changes are behind it.
pub record IsRun (c d : NodeCell) (new : List RanCall) : Type 0 where
  pub changed : IsChanged c d
  pub boot : ℕ
  pub ran : new ≡ one_ran Loc boot true changed.m.head

pub record IsQuiet (c d : NodeCell) (new : List RanCall) : Type 0 where
  pub same : entries_in d ≡ entries_in c
  pub none : AllByRecursion ChangesNone new

abbrev pub RunsThere : NodeCell → NodeCell → List RanCall → Type 0
RunsThere c d new = IsQuiet c d new ⊎ IsRun c d new

-- ---- a server's calls are none of the database's

elsewhere : (i boot : ℕ) (changed : Bool) (head : Head) → ChangesNone (record { callee = Server i; boot = boot; head = head; changed = changed })
elsewhere i boot changed head is so = absurd cc

file_none : (i boot : ℕ) (x : Decision) → AllByRecursion ChangesNone (ran_of_file (Server i) boot x)
file_none i boot (files.refuses head code) = (elsewhere i boot false head, tt)
file_none i boot (files.shows head r) = (elsewhere i boot false head, tt)
file_none i boot (files.saves head r) = (elsewhere i boot true head, tt)
file_none i boot files.drops = tt
file_none i boot (files.tells_boot head) = tt
file_none i boot (files.repeats reply) = tt

vol_none : (i boot : ℕ) (x : VolDecision) → AllByRecursion ChangesNone (ran_of_vol (Server i) boot x)
vol_none i boot (vols.replies_to head reply ts last) = (elsewhere i boot false head, tt)
vol_none i boot (vols.dispatches head x) = (elsewhere i boot false head, tt)
vol_none i boot (vols.saves head x) = (elsewhere i boot true head, tt)
vol_none i boot vols.drops = tt
vol_none i boot (vols.tells_boot head) = tt
vol_none i boot (vols.repeats reply) = tt

either_none : (b : Bool) (xs ys : List RanCall) → AllByRecursion ChangesNone xs → AllByRecursion ChangesNone ys → AllByRecursion ChangesNone (cond b xs ys)
either_none true xs ys h k = h
either_none false xs ys h k = k

server_none : (i : ℕ) (s : NodeState) (clock : ℕ) (m : Message) → AllByRecursion ChangesNone (server_ran (Server i) s clock m)
server_none i s clock m = either_none (is_of_client (from_of (Whole m))) _ _ (file_none i s.file.lasting.boot (node_file_decides (Server i) s clock (Whole m))) (vol_none i s.file.lasting.boot (vol_decides (Server i) (durable_of s.file.lasting) s.vol (Whole m)))

filter_none : (rs : List RanCall) → AllByRecursion ChangesNone rs → AllByRecursion ChangesNone (filter that_changed rs)
filter_none [] h = tt
filter_none (r ∷ rs) h = by r.changed (filter_none rs h.1)
  where
    by : (b : Bool) → AllByRecursion ChangesNone (filter that_changed rs) → AllByRecursion ChangesNone (cond b (r ∷ filter that_changed rs) (filter that_changed rs))
    by true k = (h.0, k)
    by false k = k

hit_none : (o : Option Blow) (rs : List RanCall) → AllByRecursion ChangesNone rs → AllByRecursion ChangesNone (unless_hit o rs)
hit_none None rs h = h
hit_none (Some b) rs h = tt

early_none : (o : Outcome) (rs : List RanCall) → AllByRecursion ChangesNone rs → AllByRecursion ChangesNone (unless_early o rs)
early_none comes_up rs h = h
early_none fails_early rs h = tt
early_none fails_midway rs h = h
early_none is_full rs h = h

found_none : (i : ℕ) (s : NodeState) (after : Bool) (fall : Fall) → AllByRecursion ChangesNone (ran_found (server_ran (Server i)) s after fall)
found_none i s after at_rest = tt
found_none i s false (in_step m clock b) = tt
found_none i s true (in_step m clock b) = filter_none (server_ran (Server i) s clock m) (server_none i s clock m)
found_none i s after in_boot = tt

-- ---- the database

module _ (c : NodeCell) (falls : FallIs (WasSent c.sent) c.loc.down) where
  abbrev s : LocState
  s = c.loc.state

  abbrev boot : ℕ
  boot = s.lasting.boot

  abbrev R : NodeMoved → List RanCall → Type 0
  R m new = RunsThere c m.cell new

  quiet : (d : NodeCell) (new : List RanCall) → entries_in d ≡ entries_in c → AllByRecursion ChangesNone new → RunsThere c d new
  quiet d new same none = inl (record { same = same; none = none })

  unchanged : (head : Head) → ChangesNone (record { callee = Loc; boot = boot; head = head; changed = false })
  unchanged head is so = absurd cc

  module _ (m : Message) (sent : WasSent c.sent m) (step : HostStep LocState) where
    run : (head : Head) (x : LocChange) → OfHead m.head (locs.saves head x) → Serves s m (locs.saves head x) → step.host.state.lasting.entries ≡ entries_after x.deed s.lasting.entries → R (loc_stepped c step) (one_ran Loc boot true head)
    run head x of k same = inr (record {
      changed = record { m = m; sent = sent; change = x; served = k; entries = same; hosts = refl; count = refl; admins = refl };
      boot = boot;
      ran = ap (one_ran Loc boot true) of;
    })

    left_by : (dec : LocDecision) → OfHead m.head dec → Serves s m dec → step.host.state.lasting.entries ≡ (loc_left s dec).lasting.entries → R (loc_stepped c step) (ran_of_loc boot dec)
    left_by (locs.saves head x) of k same = run head x of k same
    left_by locs.drops of k same = quiet _ _ same tt
    left_by (locs.tells_boot head) of k same = quiet _ _ same tt
    left_by (locs.repeats reply) of k same = quiet _ _ same tt
    left_by (locs.refuses head code) of k same = quiet _ _ same (unchanged head, tt)
    left_by (locs.shows head reply) of k same = quiet _ _ same (unchanged head, tt)

    begun_by : (dec : LocDecision) → OfHead m.head dec → Serves s m dec → step.host.state.lasting.entries ≡ (loc_begun_after s dec).state.lasting.entries → R (loc_stepped c step) (filter that_changed (ran_of_loc boot dec))
    begun_by (locs.saves head x) of k same = run head x of k same
    begun_by locs.drops of k same = quiet _ _ same tt
    begun_by (locs.tells_boot head) of k same = quiet _ _ same tt
    begun_by (locs.repeats reply) of k same = quiet _ _ same tt
    begun_by (locs.refuses head code) of k same = quiet _ _ same tt
    begun_by (locs.shows head reply) of k same = quiet _ _ same tt

  serves_on : (place : ℕ) (m : Message) (o : Option Blow) → WasSent c.sent m → R (loc_stepped c (served_by loc_kind c.loc c.clock place m o)) (unless_hit o (database_ran s c.clock m))
  unfolding loc_row
  serves_on place m None sent = left_by m sent (served_by loc_kind c.loc c.clock place m None) (loc_decides s (Whole m)) (loc_decides_so s m).of (hears_serves s m.head m.carried) refl
  serves_on place m (Some b) sent = quiet _ _ refl tt

  -- ---- a restart

  abbrev end : Bool → Fall → Outcome → HostStep LocState
  end after fall o = ends loc_kind c.loc c.clock c.count (begun_from loc_kind s after fall) fall o

  same_on : (after : Bool) (fall : Fall) (o : Outcome) → (begun_from loc_kind s after fall).state.lasting.entries ≡ s.lasting.entries → R (loc_stepped c (end after fall o)) []
  unfolding loc_start_row
  same_on after fall comes_up same = quiet _ _ same tt
  same_on after fall fails_early same = quiet _ _ refl tt
  same_on after fall fails_midway same = quiet _ _ same tt
  same_on after fall is_full same = quiet _ _ same tt

  after_on : (m : Message) (at : ℕ) (b : Blow) (o : Outcome) → WasSent c.sent m → R (loc_stepped c (end true (in_step m at b) o)) (unless_early o (filter that_changed (database_ran s at m)))
  unfolding loc_start_row
  after_on m at b comes_up sent = begun_by m sent (end true (in_step m at b) comes_up) (loc_decides s (Whole m)) (loc_decides_so s m).of (hears_serves s m.head m.carried) refl
  after_on m at b fails_early sent = quiet _ _ refl tt
  after_on m at b fails_midway sent = begun_by m sent (end true (in_step m at b) fails_midway) (loc_decides s (Whole m)) (loc_decides_so s m).of (hears_serves s m.head m.carried) refl
  after_on m at b is_full sent = begun_by m sent (end true (in_step m at b) is_full) (loc_decides s (Whole m)) (loc_decides_so s m).of (hears_serves s m.head m.carried) refl

  no_early : (d : NodeCell) (o : Outcome) → RunsThere c d [] → RunsThere c d (unless_early o [])
  no_early d comes_up h = h
  no_early d fails_early h = h
  no_early d fails_midway h = h
  no_early d is_full h = h

  restarts_on : (after : Bool) (fall : Fall) (o : Outcome) → FallIs (WasSent c.sent) (Some fall) → R (loc_stepped c (end after fall o)) (unless_early o (ran_found database_ran s after fall))
  restarts_on after at_rest o sent = no_early _ o (same_on after at_rest o refl)
  restarts_on false (in_step m at b) o sent = no_early _ o (same_on false (in_step m at b) o refl)
  restarts_on true (in_step m at b) o sent = after_on m at b o sent
  restarts_on false in_boot o sent = no_early _ o (same_on false in_boot o refl)
  restarts_on true in_boot o sent = no_early _ o (same_on true in_boot o refl)

  -- ---- every input

  aside : (d : NodeCell) → entries_in d ≡ entries_in c → RunsThere c d []
  aside d same = quiet d [] same tt

  runs : (x : CellInput) → R (node_moved c x) (ran_by c x)
  runs x = each_ran R c (record {
    void = aside _ refl;
    ticks = λ n. aside _ refl;
    serves = λ i place luck m up g. quiet _ _ refl (hit_none (struck (c.hosts i).armed luck _) (server_ran (Server i) (c.hosts i).state c.clock m) (server_none i (c.hosts i).state c.clock m));
    restarts = λ i after o fall down. quiet _ _ refl (early_none (without_boot_record _ o) (ran_found (server_ran (Server i)) (c.hosts i).state after fall) (found_none i (c.hosts i).state after fall));
    crashes = λ i up. aside _ refl;
    stop_set = λ i calls pick up. aside _ refl;
    fail_set = λ i call up. aside _ refl;
    piece_late = λ i n p up. aside _ refl;
    break_late = λ i n b up. aside _ refl;
    wakes = λ i up. aside _ refl;
    loc_serves = λ place luck m up g. serves_on place m (struck c.loc.armed luck _) (place, g.sent);
    loc_restarts = λ after o fall down. restarts_on after fall (without_boot_record _ o) (subst (FallIs (WasSent c.sent)) down falls);
    loc_crashes = λ up. aside _ refl;
    loc_stop_set = λ calls pick up. aside _ refl;
    loc_fail_set = λ call up. aside _ refl;
    clients = any_client (λ (m : NodeMoved). R m []) c (λ n s. aside _ refl) (λ n. aside _ refl) (λ n. aside _ refl);
    admins = any_admin (λ (m : NodeMoved). R m []) c (λ n s. aside _ refl) (λ n. aside _ refl) (λ n. aside _ refl);
  }) x

pub runs_there : (s : Script) (inputs : List CellInput) (x : CellInput) → RunsThere (cell_behind (node_start s) inputs) (node_moved (cell_behind (node_start s) inputs) x).cell (ran_by (cell_behind (node_start s) inputs) x)
runs_there s inputs x = runs (cell_behind (node_start s) inputs) (loc_falls_sent s inputs) x

-- Each input leaves the location database's entries as they were, or as one call leaves them that was sent, and then all else is as it was.
use Rattle.std.proofs.Common.{◌≡◌, ◌⊎◌, inl, inr, ℕ, Bool, true, false, List, Option, Some, None, refl, sym, ap, subst, ◌∙◌}
use Rattle.afs_num.specs.declared.messages.Message.{Message}
use Rattle.afs_num.specs.declared.messages.Received.TheVariants.{Whole}
use Rattle.spec_history.specs.declared.scripts.Script.{Script}
use Rattle.spec_records.specs.LocDurable.{entries_after}
use Rattle.spec_rows.specs.Hosts.{at_rest, begun_from, comes_up, crashed, ends, fails_early, fails_midway, in_boot, in_step, is_full, served_by, set_to_fail, set_to_stop, without_boot_record, struck, Blow, Fall, HostStep, Outcome}
use Rattle.spec_rows.specs.LocRow.{drops, loc_can_start, loc_decides, loc_device_calls, loc_left, refuses, repeats, saves, shows, tells_boot, LocChange, LocDecision, LocState}
use Rattle.spec_rows.specs.LocSteps.{loc_begun_after, loc_kind, loc_row, loc_start_row}
use Rattle.spec_rows.specs.Runs.{message_at}
use Rattle.spec_rows.specs.Steps.{Begun}
use Rattle.spec_runs.specs.NodeRuns.{loc_stepped, node_moved, node_start, CellInput, NodeCell, NodeMoved}
use Rattle.law_walks.specs.Messages.{FallIs}
use Rattle.law_walks.proofs.EachKind.{any_admin, any_client, any_server, each}
use Rattle.law_places.specs.Accepting.{cell_behind}
use Rattle.law_stamps.specs.Told.{entries_in}
use Rattle.law_locks.proofs.Walk.{loc_falls_sent, WasSent}
use Rattle.law_one_server.proofs.DatabaseSteps.{hears_serves, IsServed, Serves}

-- a call that was sent was served, and the entries are what it leaves
pub record IsChanged (c d : NodeCell) : Type 0 where
  pub m : Message
  pub sent : WasSent c.sent m
  pub change : LocChange
  pub served : IsServed c.loc.state m change
  pub entries : entries_in d ≡ entries_after change.deed (entries_in c)
  pub hosts : d.hosts ≡ c.hosts
  pub count : d.host_count ≡ c.host_count
  pub admins : d.admins ≡ c.admins

abbrev pub Changes : NodeCell → NodeCell → Type 0
Changes c d = (entries_in d ≡ entries_in c) ⊎ IsChanged c d

module _ (c : NodeCell) (falls : FallIs (WasSent c.sent) c.loc.down) where
  abbrev s : LocState
  s = c.loc.state

  abbrev R : NodeMoved → Type 0
  R m = Changes c m.cell

  changed : (step : HostStep LocState) (m : Message) (change : LocChange) → WasSent c.sent m → IsServed s m change → step.host.state.lasting.entries ≡ entries_after change.deed s.lasting.entries → R (loc_stepped c step)
  changed step m change sent served entries = inr (record { m = m; sent = sent; change = change; served = served; entries = entries; hosts = refl; count = refl; admins = refl })

  -- the entries behind a decision
  module _ (m : Message) (sent : WasSent c.sent m) (step : HostStep LocState) where
    left_by : (dec : LocDecision) → Serves s m dec → step.host.state.lasting.entries ≡ (loc_left s dec).lasting.entries → R (loc_stepped c step)
    left_by (saves head x) k same = changed step m x sent k same
    left_by drops k same = inl same
    left_by (tells_boot head) k same = inl same
    left_by (repeats reply) k same = inl same
    left_by (refuses head code) k same = inl same
    left_by (shows head reply) k same = inl same

    begun_by : (dec : LocDecision) → Serves s m dec → step.host.state.lasting.entries ≡ (loc_begun_after s dec).state.lasting.entries → R (loc_stepped c step)
    begun_by (saves head x) k same = changed step m x sent k same
    begun_by drops k same = inl same
    begun_by (tells_boot head) k same = inl same
    begun_by (repeats reply) k same = inl same
    begun_by (refuses head code) k same = inl same
    begun_by (shows head reply) k same = inl same

  serves_on : (place : ℕ) (m : Message) (o : Option Blow) → WasSent c.sent m → R (loc_stepped c (served_by loc_kind c.loc c.clock place m o))
  unfolding loc_row
  serves_on place m None sent = left_by m sent (served_by loc_kind c.loc c.clock place m None) (loc_decides s (Whole m)) (hears_serves s m.head m.carried) refl
  serves_on place m (Some b) sent = inl refl

  -- ---- a restart

  ends_on : (f : Begun LocState) (fall : Fall) (o : Outcome) → f.state.lasting.entries ≡ s.lasting.entries → R (loc_stepped c (ends loc_kind c.loc c.clock c.count f fall o))
  unfolding loc_start_row
  ends_on f fall comes_up same = inl same
  ends_on f fall fails_early same = inl refl
  ends_on f fall fails_midway same = inl same
  ends_on f fall is_full same = inl same

  after_on : (m : Message) (at : ℕ) (b : Blow) (o : Outcome) → WasSent c.sent m → R (loc_stepped c (ends loc_kind c.loc c.clock c.count (begun_from loc_kind s true (in_step m at b)) (in_step m at b) o))
  unfolding loc_start_row
  after_on m at b comes_up sent = begun_by m sent (ends loc_kind c.loc c.clock c.count (begun_from loc_kind s true (in_step m at b)) (in_step m at b) comes_up) (loc_decides s (Whole m)) (hears_serves s m.head m.carried) refl
  after_on m at b fails_early sent = inl refl
  after_on m at b fails_midway sent = begun_by m sent (ends loc_kind c.loc c.clock c.count (begun_from loc_kind s true (in_step m at b)) (in_step m at b) fails_midway) (loc_decides s (Whole m)) (hears_serves s m.head m.carried) refl
  after_on m at b is_full sent = begun_by m sent (ends loc_kind c.loc c.clock c.count (begun_from loc_kind s true (in_step m at b)) (in_step m at b) is_full) (loc_decides s (Whole m)) (hears_serves s m.head m.carried) refl

  restarts_on : (after : Bool) (fall : Fall) (o : Outcome) → FallIs (WasSent c.sent) (Some fall) → R (loc_stepped c (ends loc_kind c.loc c.clock c.count (begun_from loc_kind s after fall) fall o))
  restarts_on after at_rest o sent = ends_on (begun_from loc_kind s after at_rest) at_rest o refl
  restarts_on false (in_step m at b) o sent = ends_on (begun_from loc_kind s false (in_step m at b)) (in_step m at b) o refl
  restarts_on true (in_step m at b) o sent = after_on m at b o sent
  restarts_on false in_boot o sent = ends_on (begun_from loc_kind s false in_boot) in_boot o refl
  restarts_on true in_boot o sent = ends_on (begun_from loc_kind s true in_boot) in_boot o refl

  -- ---- every input

  next : (x : CellInput) → R (node_moved c x)
  next x = each R c (record {
    void = inl refl;
    ticks = λ n. inl refl;
    servers = any_server R c (λ i s. inl refl);
    database = record {
      serves = λ place luck m up g. serves_on place m (struck c.loc.armed luck (loc_device_calls c.loc.state (loc_decides c.loc.state (Whole m)))) (place, g.sent);
      crashes = λ up. inl refl;
      stop_set = λ calls pick up. inl refl;
      fail_set = λ call up. inl refl;
      restarts = λ after o fall down. restarts_on after fall (without_boot_record (loc_can_start (begun_from loc_kind c.loc.state after fall).state) o) (subst (FallIs (WasSent c.sent)) down falls);
    };
    clients = any_client R c (λ n s. inl refl) (λ n. inl refl) (λ n. inl refl);
    admins = any_admin R c (λ n s. inl refl) (λ n. inl refl) (λ n. inl refl);
  }) x

pub changes : (s : Script) (inputs : List CellInput) (x : CellInput) → Changes (cell_behind (node_start s) inputs) (node_moved (cell_behind (node_start s) inputs) x).cell
changes s inputs x = next (cell_behind (node_start s) inputs) (loc_falls_sent s inputs) x

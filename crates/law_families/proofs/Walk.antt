-- The walk over the inputs of a cell: read-write volumes are their families, and transactions are of the families of their volumes.
use Rattle.std.proofs.Common.{◌≡◌, ℕ, Bool, true, false, List, [], ◌∷◌, Option, Some, None, is_some, refl, subst, eq-eqb}
use Rattle.std.specs.Prelude.{⊤}
use Rattle.afs_num.specs.declared.messages.Message.{Message}
use Rattle.afs_num.specs.declared.messages.Received.TheVariants.{Whole}
use Rattle.afs_num.specs.declared.types.Node.{Node}
use Rattle.afs_num.specs.declared.types.Node.TheVariants.{Server}
use Rattle.spec_history.specs.declared.scripts.Script.{Script}
use Rattle.spec_ideal.specs.Tables.{get}
use Rattle.law_legal.proofs.BaseLaws.{at_put}
use Rattle.spec_records.specs.Durable.{Stored}
use Rattle.spec_rows.specs.Hosts.{at_rest, begun_from, comes_up, crashed, ends, fails_early, fails_midway, in_boot, in_step, is_full, served, served_by, set_to_fail, set_to_stop, without_boot_record, struck, Blow, Fall, HostStep, Outcome}
use Rattle.spec_rows.specs.ServerHosts.{can_start}
use Rattle.spec_rows.specs.ServerRow.{is_unflagged}
use Rattle.spec_rows.specs.Steps.{Begun}
use Rattle.spec_volrows.specs.NodeHosts.{file_begun, node_kind, node_timed_out, node_woken, piece_timed_out, NodeHost}
use Rattle.spec_volrows.specs.VolStates.{NodeState}
use Rattle.spec_volrows.specs.VolSteps.{node_device_calls}
use Rattle.spec_runs.specs.NodeRuns.{node_moved, node_start, server_stepped, CellInput, NodeCell, NodeMoved}
use Rattle.law_walks.specs.Kinds.{IsGiven}
use Rattle.law_walks.specs.Messages.{AllAre, FallIs}
use Rattle.law_walks.proofs.AllMessages.{all_are_first, next_all}
use Rattle.law_walks.proofs.EachKind.{any_admin, any_client, any_database, each}
use Rattle.law_walks.proofs.Seats.{found_at}
use Rattle.law_places.specs.Accepting.{cell_behind}
use Rattle.law_families.specs.Families.{ReadWriteIsFamily, TransactionsAreOfFamilies}
use Rattle.law_families.proofs.Making.{rules, Any, Fits, Made}
use Rattle.law_families.proofs.Starting.{first_own}
use Rattle.law_families.proofs.Turns.{back_own, back_well, cut_own, late_own, late_well, row_own, row_well, start_own, start_well, wake_own, wake_well, IsWell, OwnBy}
use Rattle.law_families.proofs.Volumes.{all_get, all_kept}

-- ---- a server as a host

-- also of the state before an interrupted step; of the memory of a server that is down else nothing is asked
abbrev pub WellBy : Option Fall → NodeState → Type 0
WellBy None s = IsWell s
WellBy (Some (in_step m clock b)) s = IsWell s
WellBy (Some at_rest) s = ⊤
WellBy (Some in_boot) s = ⊤

pub record Stands (h : NodeHost) : Type 0 where
  pub own : OwnBy h.state
  pub well : WellBy h.down h.state

pub up_well : (h : NodeHost) → h.down ≡ None → Stands h → IsWell h.state
up_well h up k = subst (λ (o : Option Fall). WellBy o h.state) up k.well

served_stands : (me : Node) (h : NodeHost) (clock place : ℕ) (m : Message) (o : Option Blow) → h.down ≡ None → Fits m → Stands h → Stands (served_by (node_kind me) h clock place m o).host
served_stands me h clock place m None up fits k = record { own = row_own me h.state clock place m fits (up_well h up k) k.own; well = row_well me h.state clock place m fits (up_well h up k) }
served_stands me h clock place m (Some b) up fits k = record { own = k.own; well = up_well h up k }

begun_own : (me : Node) (s : NodeState) (after : Bool) (fall : Fall) → FallIs Fits (Some fall) → WellBy (Some fall) s → OwnBy s → OwnBy (begun_from (node_kind me) s after fall).state
begun_own me s after at_rest fits well own = own
begun_own me s false (in_step m clock b) fits well own = own
begun_own me s true (in_step m clock b) fits well own = cut_own me s clock m fits well own
begun_own me s false in_boot fits well own = own
begun_own me s true in_boot fits well own = all_kept is_unflagged s.file.lasting.volumes own

ended_stands : (me : Node) (h : NodeHost) (clock count : ℕ) (f : Begun NodeState) (fall : Fall) (o : Outcome) → WellBy (Some fall) h.state → OwnBy h.state → OwnBy f.state → Stands (ends (node_kind me) h clock count f fall o).host
ended_stands me h clock count f fall comes_up well own begun = record { own = start_own me clock count (file_begun f) begun; well = start_well me clock count (file_begun f) }
ended_stands me h clock count f fall fails_early well own begun = record { own = own; well = well }
ended_stands me h clock count f fall fails_midway well own begun = record { own = begun; well = tt }
ended_stands me h clock count f fall is_full well own begun = record { own = begun; well = tt }

-- ---- a cell

pub record AllStand (c : NodeCell) : Type 0 where
  pub hosts : (i : ℕ) → Stands (c.hosts i)
  pub sent : AllAre Made Any Fits c

module _ (c : NodeCell) (h : AllStand c) where
  abbrev R : NodeMoved → Type 0
  R m = (i : ℕ) → Stands (m.cell.hosts i)

  one : (i : ℕ) (s : HostStep NodeState) → Stands s.host → R (server_stepped c i s)
  one i s k j = at_put i j Stands s.host c.hosts (λ same. k) (λ other. h.hosts j)

  heard : (place : ℕ) (m : Message) (n : Node) → IsGiven c place m n → Fits m
  heard place m n g = found_at Fits place c.sent m h.sent.sent g.sent

  down_well : (i : ℕ) (fall : Fall) → (c.hosts i).down ≡ Some fall → WellBy (Some fall) (c.hosts i).state
  down_well i fall down = subst (λ (o : Option Fall). WellBy o (c.hosts i).state) down (h.hosts i).well

  restarts_on : (i : ℕ) (after : Bool) (o : Outcome) (fall : Fall) → (c.hosts i).down ≡ Some fall → R (server_stepped c i (ends (node_kind (Server i)) (c.hosts i) c.clock c.count (begun_from (node_kind (Server i)) (c.hosts i).state after fall) fall o))
  restarts_on i after o fall down = one i (ends (node_kind (Server i)) (c.hosts i) c.clock c.count (begun_from (node_kind (Server i)) (c.hosts i).state after fall) fall o)
      (ended_stands (Server i) (c.hosts i) c.clock c.count (begun_from (node_kind (Server i)) (c.hosts i).state after fall) fall o (down_well i fall down) (h.hosts i).own
      (begun_own (Server i) (c.hosts i).state after fall (subst (FallIs Fits) down (h.sent.falls i)) (down_well i fall down) (h.hosts i).own))

  next_hosts : (x : CellInput) → R (node_moved c x)
  next_hosts x = each R c (record {
    void = h.hosts;
    ticks = λ n. h.hosts;
    servers = record {
      serves = λ i place luck m up g. one i (served (node_kind (Server i)) (c.hosts i) c.clock place luck m) (served_stands (Server i) (c.hosts i) c.clock place m (struck (c.hosts i).armed luck (node_device_calls (Server i) (c.hosts i).state c.clock (Whole m))) up.up (heard place m (Server i) g) (h.hosts i));
      crashes = λ i up. one i (crashed (node_kind (Server i)) (c.hosts i)) (record { own = (h.hosts i).own; well = tt });
      stop_set = λ i calls pick up. one i (set_to_stop (node_kind (Server i)) (c.hosts i) calls pick) (record { own = (h.hosts i).own; well = (h.hosts i).well });
      fail_set = λ i call up. one i (set_to_fail (node_kind (Server i)) (c.hosts i) call) (record { own = (h.hosts i).own; well = (h.hosts i).well });
      restarts = λ i after o fall there down. restarts_on i after (without_boot_record (can_start (begun_from (node_kind (Server i)) (c.hosts i).state after fall).state.file) o) fall down;
      piece_late = λ i n p up is. one i (piece_timed_out (Server i) (c.hosts i) c.clock n p) (record { own = late_own (Server i) (c.hosts i).state c.clock n p (h.hosts i).own; well = late_well (Server i) (c.hosts i).state c.clock n p (up_well (c.hosts i) up.up (h.hosts i)) });
      break_late = λ i n b up is. one i (node_timed_out (Server i) (c.hosts i) c.clock n b) (record { own = back_own (Server i) (c.hosts i).state c.clock n b (h.hosts i).own; well = back_well (Server i) (c.hosts i).state c.clock n b (up_well (c.hosts i) up.up (h.hosts i)) });
      wakes = λ i up. one i (node_woken (Server i) (c.hosts i) c.clock) (record { own = wake_own (Server i) (c.hosts i).state c.clock (h.hosts i).own; well = wake_well (Server i) (c.hosts i).state c.clock (up_well (c.hosts i) up.up (h.hosts i)) });
    };
    database = any_database R c (λ s. h.hosts);
    clients = any_client R c (λ n s. h.hosts) (λ n. h.hosts) (λ n. h.hosts);
    admins = any_admin R c (λ n s. h.hosts) (λ n. h.hosts) (λ n. h.hosts);
  }) x

  pub next : (x : CellInput) → AllStand (node_moved c x).cell
  next x = record { hosts = next_hosts x; sent = next_all Made Any Fits rules c h.sent x }

-- ---- a run

led : (c : NodeCell) (xs : List CellInput) → AllStand c → AllStand (cell_behind c xs)
led c [] h = h
led c (x ∷ xs) h = led (node_moved c x).cell xs (next c h x)

pub first_stands : (s : Script) → AllStand (node_start s)
first_stands s = record {
  hosts = λ i. record { own = first_own i s.volumes; well = record { apart = record { ascend = tt; there = λ n t e. absurd cc; numbered = λ n t e. absurd cc; alone = λ n m t u e f same. absurd cc }; all = λ n t e. absurd cc } };
  sent = all_are_first Made Any Fits rules s;
}

pub read_write_is_family : ReadWriteIsFamily
read_write_is_family s inputs server volume x there kind =
    let c : NodeCell = cell_behind (node_start s) inputs in
    all_get volume (c.hosts server).state.file.lasting.volumes x ((led (node_start s) inputs (first_stands s)).hosts server).own there (eq-eqb x.volume.kind 0 kind)

of_stored : (v : Option Stored) → is_some v ≡ true → (x : Stored) × (v ≡ Some x)
of_stored None e = absurd cc
of_stored (Some x) e = (x, refl)

pub are_of_families : TransactionsAreOfFamilies
are_of_families s inputs server number t up is =
    let c : NodeCell = cell_behind (node_start s) inputs in
    let well : IsWell (c.hosts server).state = up_well (c.hosts server) up ((led (node_start s) inputs (first_stands s)).hosts server) in
    let x = of_stored (get t.volume (c.hosts server).state.file.lasting.volumes) (well.apart.there number t is) in
    record { stored = x.0; there = x.1; its = well.all number t is x.0 x.1 }

-- Each transaction of a server whose memory counts has the stored stamp of its family.
use Rattle.std.proofs.Common.{◌≡◌, ℕ, suc, List, [], ◌∷◌, Option, Some, None, refl, sym, ap, subst}
use Rattle.afs_num.specs.declared.types.Node.TheVariants.{Server}
use Rattle.spec_history.specs.declared.scripts.Script.{Script}
use Rattle.law_legal.proofs.BaseLaws.{at_put}
use Rattle.spec_rows.specs.Hosts.{at_rest, crashed, in_boot, in_step, restarted, served, set_to_fail, set_to_stop, Fall, HostStep}
use Rattle.spec_volrows.specs.NodeHosts.{node_kind, node_timed_out, node_woken, piece_timed_out, NodeHost}
use Rattle.spec_volrows.specs.VolLaws.{IsStamped}
use Rattle.spec_volrows.specs.VolStates.{NodeState}
use Rattle.spec_runs.specs.NodeRuns.{admin_falls, admin_moves, admin_rises, client_falls, client_moves, client_rises, loc_stepped, node_moved, node_start, server_stepped, ticked, CellInput, NodeCell, NodeMoved}
use Rattle.law_walks.proofs.EachKind.{any_admin, any_client, any_database, each}
use Rattle.law_places.specs.Accepting.{cell_behind}
use Rattle.law_stamps.proofs.Servers.{back_goes, crash_goes, piece_goes, restart_goes, serve_goes, wake_goes, ApartBy, Goes, StampedBy, Stands}
use Rattle.law_fences.specs.Claims.{Counts, IsLive}

abbrev Stand : NodeCell → Type 0
Stand c = (i : ℕ) → Stands (c.hosts i)

set_stands : (h g : NodeHost) → g.state ≡ h.state → g.down ≡ h.down → Stands h → Stands g
set_stands h g state down k = record {
  stamped = subst (λ (o : Option Fall). StampedBy o g.state) (sym down) (subst (StampedBy h.down) (sym state) k.stamped);
  apart = subst (λ (o : Option Fall). ApartBy o g.state) (sym down) (subst (ApartBy h.down) (sym state) k.apart);
}

module _ (c : NodeCell) (h : Stand c) where
  abbrev R : NodeMoved → Type 0
  R m = Stand m.cell

  still : (d : NodeCell) → d.hosts ≡ c.hosts → Stand d
  still d hosts i = subst (λ (f : ℕ → NodeHost). Stands (f i)) (sym hosts) (h i)

  one : (i : ℕ) (s : HostStep NodeState) → Stands s.host → R (server_stepped c i s)
  one i s k j = at_put i j Stands s.host c.hosts (λ same. k) (λ other. h j)

  next : (x : CellInput) → R (node_moved c x)
  next x = each R c (record {
    void = h;
    ticks = λ n. still (ticked c (suc n)).cell refl;
    servers = record {
      serves = λ i place luck m up g. one i (served (node_kind (Server i)) (c.hosts i) c.clock place luck m) (serve_goes (Server i) (c.hosts i) c.clock place luck m up.up (h i)).stands;
      crashes = λ i up. one i (crashed (node_kind (Server i)) (c.hosts i)) (crash_goes (Server i) (c.hosts i)).stands;
      stop_set = λ i calls pick up. one i (set_to_stop (node_kind (Server i)) (c.hosts i) calls pick) (set_stands (c.hosts i) (set_to_stop (node_kind (Server i)) (c.hosts i) calls pick).host refl refl (h i));
      fail_set = λ i call up. one i (set_to_fail (node_kind (Server i)) (c.hosts i) call) (set_stands (c.hosts i) (set_to_fail (node_kind (Server i)) (c.hosts i) call).host refl refl (h i));
      restarts = λ i after o fall there down. one i (restarted (node_kind (Server i)) (c.hosts i) c.clock c.count after o fall) (restart_goes (Server i) (c.hosts i) c.clock c.count after o fall down (h i)).stands;
      piece_late = λ i n p up is. one i (piece_timed_out (Server i) (c.hosts i) c.clock n p) (piece_goes (Server i) (c.hosts i) c.clock n p up.up (h i)).stands;
      break_late = λ i n b up is. one i (node_timed_out (Server i) (c.hosts i) c.clock n b) (back_goes (Server i) (c.hosts i) c.clock n b up.up (h i)).stands;
      wakes = λ i up. one i (node_woken (Server i) (c.hosts i) c.clock) (wake_goes (Server i) (c.hosts i) c.clock up.up (h i)).stands;
    };
    database = any_database R c (λ s. still (loc_stepped c s).cell refl);
    clients = any_client R c (λ n s. still (client_moves c n s).cell refl) (λ n. still (client_falls c n).cell refl) (λ n. still (client_rises c n).cell refl);
    admins = any_admin R c (λ n s. still (admin_moves c n s).cell refl) (λ n. still (admin_falls c n).cell refl) (λ n. still (admin_rises c n).cell refl);
  }) x

led : (c : NodeCell) (xs : List CellInput) → Stand c → Stand (cell_behind c xs)
led c [] h = h
led c (x ∷ xs) h = led (node_moved c x).cell xs (next c h x)

first : (s : Script) → Stand (node_start s)
first s i = record { stamped = tt; apart = record { ascend = tt; there = λ n t e. absurd cc; numbered = λ n t e. absurd cc; alone = λ n m t u e f same. absurd cc } }

live_by : (o : Option Fall) (s : NodeState) → Counts o → StampedBy o s → IsStamped s
live_by None s live h = h
live_by (Some (in_step m clock b)) s live h = h
live_by (Some at_rest) s live h = absurd live
live_by (Some in_boot) s live h = absurd live

pub live_stamped : (s : Script) (inputs : List CellInput) (i : ℕ) → IsLive (cell_behind (node_start s) inputs) i → IsStamped ((cell_behind (node_start s) inputs).hosts i).state
live_stamped s inputs i live =
    let c : NodeCell = cell_behind (node_start s) inputs in
    live_by (c.hosts i).down (c.hosts i).state live (led (node_start s) inputs (first s) i).stamped

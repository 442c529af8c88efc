-- A server that is down is one that the cell has.
use Rattle.std.proofs.Common.{◌≡◌, ℕ, suc, Bool, true, false, List, [], ◌∷◌, Option, Some, None, refl, sym, ap, subst, ◌∙◌}
use Rattle.afs_num.specs.declared.types.Node.TheVariants.{Server}
use Rattle.spec_history.specs.declared.scripts.Script.{Script}
use Rattle.law_legal.proofs.BaseLaws.{at_put}
use Rattle.spec_rows.specs.Hosts.{crashed, restarted, served, set_to_fail, set_to_stop, Fall, HostStep}
use Rattle.spec_volrows.specs.NodeHosts.{node_kind, node_timed_out, node_woken, piece_timed_out, NodeHost}
use Rattle.spec_volrows.specs.VolStates.{NodeState}
use Rattle.spec_runs.specs.NodeRuns.{admin_falls, admin_moves, admin_rises, client_falls, client_moves, client_rises, has_host, loc_stepped, node_moved, node_start, server_stepped, ticked, CellInput, NodeCell, NodeMoved}
use Rattle.law_walks.proofs.EachKind.{any_admin, any_client, any_database, each}
use Rattle.law_places.specs.Accepting.{cell_behind}
use Rattle.law_one_server.proofs.KnownAside.{has_same_hosts}

-- ---- a server that the cell hasn't is never down

abbrev AbsentUp : NodeCell → Type 0
AbsentUp c = (i : ℕ) → has_host c i ≡ false → (c.hosts i).down ≡ None

module _ (c : NodeCell) (h : AbsentUp c) where
  abbrev R : NodeMoved → Type 0
  R m = (i : ℕ) → has_host c i ≡ false → (m.cell.hosts i).down ≡ None

  still : (d : NodeCell) → d.hosts ≡ c.hosts → (i : ℕ) → has_host c i ≡ false → (d.hosts i).down ≡ None
  still d hosts i absent = ap (λ (f : ℕ → NodeHost). (f i).down) hosts ∙ h i absent

  one : (i : ℕ) (s : HostStep NodeState) → has_host c i ≡ true → R (server_stepped c i s)
  one i s there j absent = at_put i j (λ (x : NodeHost). x.down ≡ None) s.host c.hosts (λ same. absurd (both (has_host c j) (subst (λ (k : ℕ). has_host c k ≡ true) same there) absent)) (λ other. h j absent)
    where
      both : (b : Bool) → b ≡ true → b ≡ false → ⊥
      both b e f = let none : true ≡ false = sym e ∙ f in absurd cc

  next_absent : (x : CellInput) → R (node_moved c x)
  next_absent x = each R c (record {
    void = h;
    ticks = λ n. still (ticked c (suc n)).cell refl;
    servers = record {
      serves = λ i place luck m up g. one i (served (node_kind (Server i)) (c.hosts i) c.clock place luck m) up.there;
      crashes = λ i up. one i (crashed (node_kind (Server i)) (c.hosts i)) up.there;
      stop_set = λ i calls pick up. one i (set_to_stop (node_kind (Server i)) (c.hosts i) calls pick) up.there;
      fail_set = λ i call up. one i (set_to_fail (node_kind (Server i)) (c.hosts i) call) up.there;
      restarts = λ i after o fall there down. one i (restarted (node_kind (Server i)) (c.hosts i) c.clock c.count after o fall) there;
      piece_late = λ i n p up is. one i (piece_timed_out (Server i) (c.hosts i) c.clock n p) up.there;
      break_late = λ i n b up is. one i (node_timed_out (Server i) (c.hosts i) c.clock n b) up.there;
      wakes = λ i up. one i (node_woken (Server i) (c.hosts i) c.clock) up.there;
    };
    database = any_database R c (λ s. still (loc_stepped c s).cell refl);
    clients = any_client R c (λ n s. still (client_moves c n s).cell refl) (λ n. still (client_falls c n).cell refl) (λ n. still (client_rises c n).cell refl);
    admins = any_admin R c (λ n s. still (admin_moves c n s).cell refl) (λ n. still (admin_falls c n).cell refl) (λ n. still (admin_rises c n).cell refl);
  }) x

  pub next_up : (x : CellInput) → AbsentUp (node_moved c x).cell
  next_up x i absent = next_absent x i (sym (has_same_hosts c x i) ∙ absent)

led : (c : NodeCell) (xs : List CellInput) → AbsentUp c → AbsentUp (cell_behind c xs)
led c [] h = h
led c (x ∷ xs) h = led (node_moved c x).cell xs (next_up c h x)

there_by : (c : NodeCell) (i : ℕ) (fall : Fall) (b : Bool) → has_host c i ≡ b → (has_host c i ≡ false → (c.hosts i).down ≡ None) → (c.hosts i).down ≡ Some fall → has_host c i ≡ true
there_by c i fall true is up down = is
there_by c i fall false is up down = let none : None ≡ Some fall = sym (up is) ∙ down in absurd cc

pub is_there : (s : Script) (inputs : List CellInput) (i : ℕ) (fall : Fall) → ((cell_behind (node_start s) inputs).hosts i).down ≡ Some fall → has_host (cell_behind (node_start s) inputs) i ≡ true
is_there s inputs i fall down = there_by (cell_behind (node_start s) inputs) i fall _ refl (led (node_start s) inputs (λ j absent. refl) i) down

-- The numbers of transactions at a server that is up, or was when its step was interrupted: in one boot each number names what it named.
use Rattle.std.proofs.Common.{◌≡◌, ◌≤◌, ◌<◌, ◌⊎◌, inl, inr, ℕ, zero, suc, ◌+◌, Bool, true, false, List, [], ◌∷◌, Option, Some, None, refl, sym, ap, subst, ◌∙◌, arith}
use Rattle.std.proofs.Math.Nat.{le_refl, le_trans}
use Rattle.std.specs.List.{AllByRecursion}
use Rattle.afs_num.specs.declared.messages.Message.{Message}
use Rattle.afs_num.specs.declared.messages.Received.TheVariants.{Whole}
use Rattle.afs_num.specs.declared.types.Node.{Node}
use Rattle.afs_num.specs.declared.types.Node.TheVariants.{Server}
use Rattle.law_legal.proofs.BaseLaws.{at_put}
use Rattle.spec_rows.specs.Hosts.{at_rest, begun_from, comes_up, crashed, ends, fails_early, fails_midway, in_boot, in_step, is_full, served, served_by, set_to_fail, set_to_stop, without_boot_record, struck, Blow, Fall, HostStep, Outcome}
use Rattle.spec_rows.specs.ServerHosts.{can_start}
use Rattle.spec_rows.specs.States.{BackCall, Lasting}
use Rattle.spec_rows.specs.Steps.{Begun}
use Rattle.spec_rows.specs.ServerSteps.{back_timeout_row, wake_row}
use Rattle.spec_rows.specs.Callbacks.{expired}
use Rattle.spec_volrows.proofs.VolTurns.{others_leave_files}
use Rattle.spec_volrows.specs.FileRow.{file_start}
use Rattle.spec_volrows.specs.NodeHosts.{node_kind, node_timed_out, node_woken, piece_timed_out, NodeHost}
use Rattle.spec_volrows.specs.VolLaws.{LeavesFiles}
use Rattle.spec_volrows.specs.VolStates.{NodeState, PieceCall, Transaction}
use Rattle.spec_volrows.specs.VolSteps.{node_back_timeout_row, node_device_calls, node_row, node_start_row, node_wake_row, piece_timeout_row}
use Rattle.spec_runs.specs.NodeRuns.{admin_falls, admin_moves, admin_rises, client_falls, client_moves, client_rises, loc_stepped, node_moved, server_stepped, ticked, CellInput, NodeCell, NodeMoved}
use Rattle.law_walks.proofs.EachKind.{any_admin, any_client, any_database, each}
use Rattle.law_transactions.specs.Numbers.{boot_at, IsOn}
use Rattle.law_fences.specs.Claims.{Counts, IsLive}
use Rattle.law_transactions.proofs.BegunWalk.{row_boot}
use Rattle.law_transactions.proofs.NumbersWalk.{begun_on}
use Rattle.law_transactions.proofs.Transactions.{row_all, timed_all, NodeFine}

abbrev pub boot_in : NodeHost → ℕ
boot_in h = h.state.file.lasting.boot

pub counted : (o : Option Fall) → o ≡ None → Counts o
counted o up = subst Counts (sym up) tt

-- ---- a host, for what is so of numbers, and is so of every new one

module _ (P : ℕ → ℕ → ℕ → ℕ → Type 0) (low : ℕ) (new : (n volume family stamp : ℕ) → low < n → P n volume family stamp) where
  -- It is in a later boot, or in the same; and where its memory counts in the same boot, it did before, and all goes on.
  record GoesOn (a b : NodeHost) : Type 0 where
    rises : boot_in a ≤ boot_in b
    live : Counts b.down → (boot_in a < boot_in b) ⊎ ((boot_in b ≡ boot_in a) × (Counts a.down × (NodeFine P low a.state → NodeFine P low b.state)))

  equal : (a b : ℕ) → b ≡ a → a ≤ b
  equal a b e = omega (arith, e)

  -- in the same boot
  stays : (a b : NodeHost) → boot_in b ≡ boot_in a → (Counts b.down → Counts a.down) → (NodeFine P low a.state → NodeFine P low b.state) → GoesOn a b
  stays a b boot down fine = record { rises = equal (boot_in a) (boot_in b) boot; live = λ up. inr (boot, (down up, fine)) }

  same : (h : NodeHost) → GoesOn h h
  same h = stays h h refl (λ up. up) (λ k. k)

  module _ (i : ℕ) (h : NodeHost) (clock : ℕ) where
    serves_on : (place : ℕ) (m : Message) (o : Option Blow) → h.down ≡ None → GoesOn h (served_by (node_kind (Server i)) h clock place m o).host
    serves_on place m None up =
        stays h (served_by (node_kind (Server i)) h clock place m None).host (row_boot (Server i) h.state clock place m) (λ now. counted h.down up)
        (λ k. row_all P low (Server i) h.state clock place m (λ user call n volume family above asks now begins. new n volume family m.head.stamp above) k)
    serves_on place m (Some b) up = stays h (served_by (node_kind (Server i)) h clock place m (Some b)).host refl (λ now. counted h.down up) (λ k. k)

    piece_on : (n : Node) (p : PieceCall) → h.down ≡ None → GoesOn h (piece_timed_out (Server i) h clock n p).host
    unfolding piece_timeout_row
    piece_on n p up =
        let z : LeavesFiles clock h.state.file _ = others_leave_files.late (Server i) h.state clock n p in
        stays h (piece_timed_out (Server i) h clock n p).host (ap (λ (l : Lasting). l.boot) z.lasting) (λ now. counted h.down up) (λ k. timed_all P low (Server i) h.state.file.lasting h.state.vol (expired clock h.state.file.backs) n p (h.state.vol.sendings n) k)

    break_on : (n : Node) (b : BackCall) → h.down ≡ None → GoesOn h (node_timed_out (Server i) h clock n b).host
    unfolding node_back_timeout_row back_timeout_row
    break_on n b up = stays h (node_timed_out (Server i) h clock n b).host refl (λ now. counted h.down up) (λ k. k)

    wake_on : h.down ≡ None → GoesOn h (node_woken (Server i) h clock).host
    unfolding node_wake_row wake_row
    wake_on up = stays h (node_woken (Server i) h clock).host refl (λ now. counted h.down up) (λ k. k)

    crash_on : GoesOn h (crashed (node_kind (Server i)) h).host
    crash_on = record { rises = le_refl (boot_in h); live = λ up. absurd up }

    -- it begins as it was, or in the next boot
    not_below : (after : Bool) (fall : Fall) → boot_in h ≤ (begun_from (node_kind (Server i)) h.state after fall).state.file.lasting.boot
    not_below after fall = elim (begun_on P low new i h clock after fall) [ inl later ↦ omega (arith, later) | inr z ↦ equal (boot_in h) _ z.0 ]

    ends_on : (count : ℕ) (f : Begun NodeState) (fall : Fall) (o : Outcome) → h.down ≡ Some fall → boot_in h ≤ f.state.file.lasting.boot → GoesOn h (ends (node_kind (Server i)) h clock count f fall o).host
    unfolding node_start_row file_start
    ends_on count f fall comes_up down up = record { rises = omega (arith, up); live = λ now. inl (omega (arith, up)) }
    ends_on count f fall fails_early down up = stays h (ends (node_kind (Server i)) h clock count f fall fails_early).host refl (λ now. subst Counts (sym down) now) (λ k. k)
    ends_on count f fall fails_midway down up = record { rises = up; live = λ now. absurd now }
    ends_on count f fall is_full down up = record { rises = up; live = λ now. absurd now }

  -- ---- a cell

  abbrev Goes : NodeCell → NodeCell → Type 0
  Goes c d = (i : ℕ) → GoesOn (c.hosts i) (d.hosts i)

  module _ (c : NodeCell) where
    abbrev R : NodeMoved → Type 0
    R m = Goes c m.cell

    still : (d : NodeCell) → d.hosts ≡ c.hosts → Goes c d
    still d hosts i = subst (λ (f : ℕ → NodeHost). GoesOn (c.hosts i) (f i)) (sym hosts) (same (c.hosts i))

    one : (i : ℕ) (s : HostStep NodeState) → GoesOn (c.hosts i) s.host → R (server_stepped c i s)
    one i s k j = at_put i j (λ (x : NodeHost). GoesOn (c.hosts j) x) s.host c.hosts (λ here. subst (λ (n : ℕ). GoesOn (c.hosts n) s.host) here k) (λ apart. same (c.hosts j))

    next : (x : CellInput) → R (node_moved c x)
    next x = each R c (record {
      void = λ i. same (c.hosts i);
      ticks = λ n. still (ticked c (suc n)).cell refl;
      servers = record {
        serves = λ i place luck m up g. one i (served (node_kind (Server i)) (c.hosts i) c.clock place luck m) (serves_on i (c.hosts i) c.clock place m (struck (c.hosts i).armed luck (node_device_calls (Server i) (c.hosts i).state c.clock (Whole m))) up.up);
        crashes = λ i up. one i (crashed (node_kind (Server i)) (c.hosts i)) (crash_on i (c.hosts i) c.clock);
        stop_set = λ i calls pick up. one i (set_to_stop (node_kind (Server i)) (c.hosts i) calls pick) (stays (c.hosts i) (set_to_stop (node_kind (Server i)) (c.hosts i) calls pick).host refl (λ now. now) (λ k. k));
        fail_set = λ i call up. one i (set_to_fail (node_kind (Server i)) (c.hosts i) call) (stays (c.hosts i) (set_to_fail (node_kind (Server i)) (c.hosts i) call).host refl (λ now. now) (λ k. k));
        restarts = λ i after o fall there down.
            let f : Begun NodeState = begun_from (node_kind (Server i)) (c.hosts i).state after fall in
            one i (ends (node_kind (Server i)) (c.hosts i) c.clock c.count f fall (without_boot_record (can_start f.state.file) o)) (ends_on i (c.hosts i) c.clock c.count f fall (without_boot_record (can_start f.state.file) o) down (not_below i (c.hosts i) c.clock after fall));
        piece_late = λ i n p up is. one i (piece_timed_out (Server i) (c.hosts i) c.clock n p) (piece_on i (c.hosts i) c.clock n p up.up);
        break_late = λ i n b up is. one i (node_timed_out (Server i) (c.hosts i) c.clock n b) (break_on i (c.hosts i) c.clock n b up.up);
        wakes = λ i up. one i (node_woken (Server i) (c.hosts i) c.clock) (wake_on i (c.hosts i) c.clock up.up);
      };
      database = any_database R c (λ s. still (loc_stepped c s).cell refl);
      clients = any_client R c (λ n s. still (client_moves c n s).cell refl) (λ n. still (client_falls c n).cell refl) (λ n. still (client_rises c n).cell refl);
      admins = any_admin R c (λ n s. still (admin_moves c n s).cell refl) (λ n. still (admin_falls c n).cell refl) (λ n. still (admin_rises c n).cell refl);
    }) x

-- ---- a number

-- In this boot of the server the number was given to a transaction on this volume, of this family, under this stamp: so while its memory counts
-- it names that one, or none.
pub record IsNumbered (c : NodeCell) (server boot number volume family stamp : ℕ) : Type 0 where
  pub not_before : boot ≤ boot_at c server
  pub given : IsLive c server → boot_at c server ≡ boot → number ≤ (c.hosts server).state.vol.last_transaction
  pub names : IsLive c server → boot_at c server ≡ boot → AllByRecursion (λ (p : ℕ × Transaction). p.0 ≡ number → IsOn volume family stamp p) (c.hosts server).state.vol.transactions

module _ (server boot' number volume family stamp : ℕ) where
  abbrev Names : ℕ → ℕ → ℕ → ℕ → Type 0
  Names n v f s = n ≡ number → (v ≡ volume) × ((f ≡ family) × (s ≡ stamp))

  new_ones : (n v f s : ℕ) → number < n → Names n v f s
  new_ones n v f s above is = absurd (omega (arith, above, is))

  later_not : (b d : ℕ) → boot' ≤ b → b < d → d ≡ boot' → ⊥
  later_not b d low later is = absurd (omega (arith, low, later, is))

  still_fine : (c d : NodeCell) → IsNumbered c server boot' number volume family stamp → boot_at d server ≡ boot' →
      (boot_at c server < boot_at d server) ⊎ ((boot_at d server ≡ boot_at c server) × (IsLive c server × (NodeFine Names number (c.hosts server).state → NodeFine Names number (d.hosts server).state))) → NodeFine Names number (d.hosts server).state
  still_fine c d h is (inl later) = absurd (later_not (boot_at c server) (boot_at d server) h.not_before later is)
  still_fine c d h is (inr z) = let now : boot_at c server ≡ boot' = sym z.0 ∙ is in z.1.1 (h.given z.1.0 now, h.names z.1.0 now)

  pub numbered_on : (c : NodeCell) (x : CellInput) → IsNumbered c server boot' number volume family stamp → IsNumbered (node_moved c x).cell server boot' number volume family stamp
  numbered_on c x h =
      let d : NodeCell = (node_moved c x).cell in
      let k : GoesOn Names number new_ones (c.hosts server) (d.hosts server) = next Names number new_ones c x server in
      record {
        not_before = le_trans h.not_before k.rises;
        given = λ live is. (still_fine c d h is (k.live live)).0;
        names = λ live is. (still_fine c d h is (k.live live)).1;
      }

-- boots rise
pub boots_rise : (c : NodeCell) (x : CellInput) (i : ℕ) → boot_at c i ≤ boot_at (node_moved c x).cell i
boots_rise c x i = let k : GoesOn (λ (n v f s : ℕ). Unit {0}) 0 (λ n v f s above. tt) (c.hosts i) ((node_moved c x).cell.hosts i) = next (λ (n v f s : ℕ). Unit {0}) 0 (λ n v f s above. tt) c x i in k.rises

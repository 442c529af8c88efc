-- The walk over the inputs of a cell: what a number named it names, or nothing, until the server begins again.
use Rattle.std.proofs.Common.{◌≡◌, ◌≤◌, ◌<◌, ◌⊎◌, inl, inr, ℕ, zero, suc, ◌+◌, Bool, true, false, cond, List, [], ◌∷◌, ◌++◌, Option, Some, None, refl, sym, ap, subst, ◌∙◌, arith}
use Rattle.std.proofs.Math.Nat.{le_refl, le_trans}
use Rattle.std.specs.List.{AllByRecursion}
use Rattle.afs_num.specs.declared.messages.Message.{Message}
use Rattle.afs_num.specs.declared.messages.Received.TheVariants.{Whole}
use Rattle.afs_num.specs.declared.types.Node.{Node}
use Rattle.afs_num.specs.declared.types.Node.TheVariants.{Server}
use Rattle.spec_history.specs.declared.scripts.Script.{Script}
use Rattle.spec_ideal.specs.Tables.{Table}
use Rattle.law_legal.proofs.BaseLaws.{at_put}
use Rattle.spec_rows.specs.Hosts.{at_rest, begun_from, comes_up, crashed, ends, fails_early, fails_midway, in_boot, in_step, is_full, served, served_by, set_to_fail, set_to_stop, without_boot_record, struck, Blow, Fall, HostStep, Luck, Outcome}
use Rattle.spec_rows.specs.ServerHosts.{can_start}
use Rattle.spec_rows.specs.ServerRow as files
use Rattle.spec_rows.specs.ServerRow.{begun_after, Decision}
use Rattle.spec_rows.specs.States.{durable_of, BackCall, Lasting, ServerState}
use Rattle.spec_rows.specs.Steps.{Begun}
use Rattle.spec_rows.specs.ServerSteps.{back_timeout_row, wake_row}
use Rattle.spec_rows.specs.Callbacks.{expired}
use Rattle.spec_volrows.proofs.VolTurns.{others_leave_files}
use Rattle.spec_volrows.specs.FileRow.{file_start}
use Rattle.spec_volrows.specs.NodeHosts.{node_kind, node_timed_out, node_woken, piece_timed_out, NodeHost}
use Rattle.spec_volrows.specs.VolLaws.{LeavesFiles}
use Rattle.spec_volrows.specs.VolStates.{NodeState, PieceCall, Transaction, VolState}
use Rattle.spec_volrows.specs.VolSteps.{dispatches, drops, is_of_client, node_back_timeout_row, node_begun_after, node_device_calls, node_file_decides, node_row, node_start_row, node_wake_row, piece_timeout_row, repeats, replies_to, saves, tells_boot, vol_begun_after, vol_decides, VolDecision}
use Rattle.spec_runs.specs.NodeRuns.{admin_falls, admin_moves, admin_rises, client_falls, client_moves, client_rises, loc_stepped, node_moved, node_start, server_stepped, ticked, CellInput, NodeCell, NodeMoved}
use Rattle.law_walks.proofs.EachKind.{any_admin, any_client, any_database, each}
use Rattle.law_places.specs.Accepting.{cell_behind}
use Rattle.law_transactions.specs.Numbers.{boot_at, IsNamed, IsOn, NumbersAreKept}
use Rattle.law_transactions.proofs.BegunWalk.{row_boot}
use Rattle.law_transactions.proofs.Transactions.{row_all, timed_all, AllAre, NodeFine}

-- ---- the boot with which a restart begins: as it was, or one above

file_begun_boot : (me : Node) (s : ServerState) (clock : ℕ) (d : Decision) → (begun_after me s clock d).state.lasting.boot ≡ s.lasting.boot
file_begun_boot me s clock files.drops = refl
file_begun_boot me s clock (files.tells_boot head) = refl
file_begun_boot me s clock (files.repeats reply) = refl
file_begun_boot me s clock (files.refuses head code) = refl
file_begun_boot me s clock (files.shows head r) = refl
file_begun_boot me s clock (files.saves head c) = refl

vol_begun_boot : (me : Node) (s : ServerState) (d : VolDecision) → (vol_begun_after me s d).state.lasting.boot ≡ s.lasting.boot
vol_begun_boot me s drops = refl
vol_begun_boot me s (tells_boot head) = refl
vol_begun_boot me s (repeats reply) = refl
vol_begun_boot me s (replies_to head reply ts last) = refl
vol_begun_boot me s (dispatches head x) = refl
vol_begun_boot me s (saves head x) = refl

either_boot : (boot : ℕ) (b : Bool) (x y : Begun ServerState) → x.state.lasting.boot ≡ boot → y.state.lasting.boot ≡ boot → (cond b x y).state.lasting.boot ≡ boot
either_boot boot true x y h k = h
either_boot boot false x y h k = k

after_boot : (me : Node) (s : NodeState) (clock : ℕ) (m : Message) → (node_begun_after me s clock (Whole m)).state.lasting.boot ≡ s.file.lasting.boot
after_boot me s clock m =
    either_boot s.file.lasting.boot (is_of_client (Some m.head.from)) (begun_after me s.file clock (node_file_decides me s clock (Whole m))) (vol_begun_after me s.file (vol_decides me (durable_of s.file.lasting) s.vol (Whole m)))
    (file_begun_boot me s.file clock (node_file_decides me s clock (Whole m))) (vol_begun_boot me s.file (vol_decides me (durable_of s.file.lasting) s.vol (Whole m)))

one_more : (a b : ℕ) → b ≡ a → a < b + 1
one_more a b e = omega (arith, e)

two_more : (a : ℕ) → a < a + 1 + 1
two_more a = omega (arith)

-- ---- a server, for what is so of numbers, and is so of every new one

module _ (P : ℕ → ℕ → ℕ → ℕ → Type 0) (low : ℕ) (new : (n volume family stamp : ℕ) → low < n → P n volume family stamp) where
  abbrev boot : NodeState → ℕ
  boot s = s.file.lasting.boot

  -- it is in a later boot, or in the same, where that goes on
  abbrev GoesOn : NodeState → NodeState → Type 0
  GoesOn a b = (boot a < boot b) ⊎ ((boot b ≡ boot a) × (NodeFine P low a → NodeFine P low b))

  same : (s : NodeState) → GoesOn s s
  same s = inr (refl, λ k. k)

  module _ (i : ℕ) (h : NodeHost) (clock : ℕ) where
    serves_on : (place : ℕ) (m : Message) (o : Option Blow) → GoesOn h.state (served_by (node_kind (Server i)) h clock place m o).host.state
    serves_on place m None = inr (row_boot (Server i) h.state clock place m, λ k. row_all P low (Server i) h.state clock place m (λ user call n volume family above asks now begins. new n volume family m.head.stamp above) k)
    serves_on place m (Some b) = same h.state

    piece_on : (n : Node) (p : PieceCall) → GoesOn h.state (piece_timed_out (Server i) h clock n p).host.state
    unfolding piece_timeout_row
    piece_on n p =
        let z : LeavesFiles clock h.state.file _ = others_leave_files.late (Server i) h.state clock n p in
        inr (ap (λ (l : Lasting). l.boot) z.lasting, λ k. timed_all P low (Server i) h.state.file.lasting h.state.vol (expired clock h.state.file.backs) n p (h.state.vol.sendings n) k)

    break_on : (n : Node) (b : BackCall) → GoesOn h.state (node_timed_out (Server i) h clock n b).host.state
    unfolding node_back_timeout_row back_timeout_row
    break_on n b = inr (refl, λ k. k)

    wake_on : GoesOn h.state (node_woken (Server i) h clock).host.state
    unfolding node_wake_row wake_row
    wake_on = inr (refl, λ k. k)

    -- it begins as it was, or in the next boot
    pub begun_on : (after : Bool) (fall : Fall) → (boot h.state < boot (begun_from (node_kind (Server i)) h.state after fall).state) ⊎ ((boot (begun_from (node_kind (Server i)) h.state after fall).state ≡ boot h.state) × ((begun_from (node_kind (Server i)) h.state after fall).state.vol ≡ h.state.vol))
    begun_on after at_rest = inr (refl, refl)
    begun_on false (in_step m at b) = inr (refl, refl)
    begun_on true (in_step m at b) = inr (after_boot (Server i) h.state at m, refl)
    begun_on false in_boot = inr (refl, refl)
    begun_on true in_boot = inl (one_more (boot h.state) (boot h.state) refl)

    ends_on : (count : ℕ) (f : Begun NodeState) (fall : Fall) (o : Outcome) → (boot h.state < boot f.state) ⊎ ((boot f.state ≡ boot h.state) × (f.state.vol ≡ h.state.vol)) → GoesOn h.state (ends (node_kind (Server i)) h clock count f fall o).host.state
    unfolding node_start_row file_start
    ends_on count f fall comes_up (inl later) = inl (omega (arith, later))
    ends_on count f fall comes_up (inr z) = inl (one_more (boot h.state) (boot f.state) z.0)
    ends_on count f fall fails_early z = same h.state
    ends_on count f fall fails_midway (inl later) = inl later
    ends_on count f fall fails_midway (inr z) = inr (z.0, λ k. subst (λ (v : VolState). (low ≤ v.last_transaction) × AllAre P low v.transactions) (sym z.1) k)
    ends_on count f fall is_full (inl later) = inl later
    ends_on count f fall is_full (inr z) = inr (z.0, λ k. subst (λ (v : VolState). (low ≤ v.last_transaction) × AllAre P low v.transactions) (sym z.1) k)

  -- ---- a cell

  abbrev Goes : NodeCell → NodeCell → Type 0
  Goes c d = (i : ℕ) → GoesOn (c.hosts i).state (d.hosts i).state

  module _ (c : NodeCell) where
    abbrev R : NodeMoved → Type 0
    R m = Goes c m.cell

    still : (d : NodeCell) → d.hosts ≡ c.hosts → Goes c d
    still d hosts i = subst (λ (f : ℕ → NodeHost). GoesOn (c.hosts i).state (f i).state) (sym hosts) (same (c.hosts i).state)

    one : (i : ℕ) (s : HostStep NodeState) → GoesOn (c.hosts i).state s.host.state → R (server_stepped c i s)
    one i s k j = at_put i j (λ (x : NodeHost). GoesOn (c.hosts j).state x.state) s.host c.hosts (λ here. subst (λ (n : ℕ). GoesOn (c.hosts n).state s.host.state) here k) (λ apart. same (c.hosts j).state)

    next : (x : CellInput) → R (node_moved c x)
    next x = each R c (record {
      void = λ i. same (c.hosts i).state;
      ticks = λ n. still (ticked c (suc n)).cell refl;
      servers = record {
        serves = λ i place luck m up g. one i (served (node_kind (Server i)) (c.hosts i) c.clock place luck m) (serves_on i (c.hosts i) c.clock place m (struck (c.hosts i).armed luck (node_device_calls (Server i) (c.hosts i).state c.clock (Whole m))));
        crashes = λ i up. one i (crashed (node_kind (Server i)) (c.hosts i)) (same (c.hosts i).state);
        stop_set = λ i calls pick up. one i (set_to_stop (node_kind (Server i)) (c.hosts i) calls pick) (same (c.hosts i).state);
        fail_set = λ i call up. one i (set_to_fail (node_kind (Server i)) (c.hosts i) call) (same (c.hosts i).state);
        restarts = λ i after o fall there down.
            let f : Begun NodeState = begun_from (node_kind (Server i)) (c.hosts i).state after fall in
            one i (ends (node_kind (Server i)) (c.hosts i) c.clock c.count f fall (without_boot_record (can_start f.state.file) o)) (ends_on i (c.hosts i) c.clock c.count f fall (without_boot_record (can_start f.state.file) o) (begun_on i (c.hosts i) c.clock after fall));
        piece_late = λ i n p up is. one i (piece_timed_out (Server i) (c.hosts i) c.clock n p) (piece_on i (c.hosts i) c.clock n p);
        break_late = λ i n b up is. one i (node_timed_out (Server i) (c.hosts i) c.clock n b) (break_on i (c.hosts i) c.clock n b);
        wakes = λ i up. one i (node_woken (Server i) (c.hosts i) c.clock) (wake_on i (c.hosts i) c.clock);
      };
      database = any_database R c (λ s. still (loc_stepped c s).cell refl);
      clients = any_client R c (λ n s. still (client_moves c n s).cell refl) (λ n. still (client_falls c n).cell refl) (λ n. still (client_rises c n).cell refl);
      admins = any_admin R c (λ n s. still (admin_moves c n s).cell refl) (λ n. still (admin_falls c n).cell refl) (λ n. still (admin_rises c n).cell refl);
    }) x

-- ---- a number

module _ (server boot' number volume family stamp : ℕ) where
  abbrev Names : ℕ → ℕ → ℕ → ℕ → Type 0
  Names n v f s = n ≡ number → (v ≡ volume) × ((f ≡ family) × (s ≡ stamp))

  new_ones : (n v f s : ℕ) → number < n → Names n v f s
  new_ones n v f s above is = absurd (omega (arith, above, is))

  steps : (c d : NodeCell) → GoesOn Names number new_ones (c.hosts server).state (d.hosts server).state → IsNamed c server boot' number volume family stamp → IsNamed d server boot' number volume family stamp
  steps c d (inl later) h = record {
    not_before = let low : boot' ≤ boot_at c server = h.not_before in omega (arith, low, later);
    given = λ is. let low : boot' ≤ boot_at c server = h.not_before in absurd (omega (arith, low, later, is));
    names = λ is. let low : boot' ≤ boot_at c server = h.not_before in absurd (omega (arith, low, later, is));
  }
  steps c d (inr z) h = record {
    not_before = subst (λ (n : ℕ). boot' ≤ n) (sym z.0) h.not_before;
    given = λ is. let now : boot_at c server ≡ boot' = sym z.0 ∙ is in (z.1 (h.given now, h.names now)).0;
    names = λ is. let now : boot_at c server ≡ boot' = sym z.0 ∙ is in (z.1 (h.given now, h.names now)).1;
  }

  led : (c : NodeCell) (xs : List CellInput) → IsNamed c server boot' number volume family stamp → IsNamed (cell_behind c xs) server boot' number volume family stamp
  led c [] h = h
  led c (x ∷ xs) h = led (node_moved c x).cell xs (steps c (node_moved c x).cell (next Names number new_ones c x server) h)

behind_both : (c : NodeCell) (xs ys : List CellInput) → cell_behind c (xs ++ ys) ≡ cell_behind (cell_behind c xs) ys
behind_both c [] ys = refl
behind_both c (x ∷ xs) ys = behind_both (node_moved c x).cell xs ys

pub are_kept : NumbersAreKept
are_kept s inputs later server boot' number volume family stamp h =
    subst (λ (c : NodeCell). IsNamed c server boot' number volume family stamp) (sym (behind_both (node_start s) inputs later)) (led server boot' number volume family stamp (cell_behind (node_start s) inputs) later h)

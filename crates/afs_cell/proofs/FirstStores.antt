-- One server at set-up.
use Rattle.afs_store.specs.Stores.{IsSetUpFault}
use Rattle.std.proofs.Common.{refl, arith, ap, ap₂, sym, subst, ◌∙◌, ◌≡◌, ◌≤◌, ◌+◌, inl, inr, ℕ, List, [], length, false, Option, Some, None}
use Rattle.std.specs.Prelude.{IsSome, ◌↔◌}
use Rattle.std.proofs.lemmas.List.Elements.{All-nil}
use Rattle.afs_num.specs.declared.faults.StoreFault.{StoreFault}
use Rattle.afs_num.specs.declared.faults.StoreFault.TheVariants as store
use Rattle.afs_num.specs.Nodes.{IsNode}
use Rattle.afs_num.specs.declared.types.Node.{Node}
use Rattle.afs_num.specs.declared.types.Node.TheVariants.{Server}
use Rattle.spec_history.specs.declared.scripts.Script.{Script}
use Rattle.spec_history.specs.declared.scripts.VolumeLine.{VolumeLine}
use Rattle.afs_disk.specs.Disk.{LeavesJust, Rose, Setting}
use Rattle.afs_disk.specs.Fuses.{Fused}
use Rattle.afs_journal.specs.Records.{whole_records}
use Rattle.spec_fold.specs.SetUps.{set_up}
use Rattle.spec_records.specs.Durable.{Durable}
use Rattle.afs_grammar.specs.CellScripts.{IsCellScript}
use Rattle.afs_grammar.specs.Lines.{lines_of_server}
use Rattle.law_legal.specs.Laws.{SetUpsAreFirst}
use Rattle.law_scripts.specs.SetUps.{NumbersAscend, SetUpsAreAccepted}
use Rattle.afs_server.specs.Seen.{first_memory, lasting_of, state_seen, Memory, Serves}
use Rattle.spec_runs.specs.NodeRuns.{first_node}
use Rattle.spec_rows.specs.States.{ServerState}
use Rattle.spec_volrows.specs.VolStates.{fresh_vol, NodeState, VolState}
use Rattle.afs_volserv.specs.Seen.{vol_seen, ServesVolumes}
use Rattle.afs_node.specs.Seen.{ServesNode}
use Rattle.afs_node.specs.declared.node.ServerNode.{ServerNode}
use Rattle.afs_cell.specs.declared.faults.SetupFault.TheVariants as seating
use Rattle.afs_callbacks.specs.States.{IsPromiseToNode}
use Rattle.afs_server_parts.specs.Turning.{IsBreakToNode}
use Rattle.afs_volstore.specs.Opening.{IsSetUpSoFar}
use Rattle.afs_volstore.specs.Stores.{IsCaused, IsKept, Store}
use Rattle.afs_serverhost.specs.Seats.{CanRun, ServerRunning}
use Rattle.afs_cell.specs.Ends.{IsLeftAt}
use Rattle.afs_cell.specs.FirstSeats.{IsBack, IsCausedAt, IsFirstServer, IsFirstStore, IsRefusedAt}
use Rattle.afs_cell.specs.Refusing.{refused_as}
use Rattle.afs_clients.proofs.Handed.{server_is_node}
use Rattle.afs_clients.proofs.Numbers.{none_some, some_is}

no_set_up : (o : Option Durable) (d : Durable) → o ≡ Some d → o ≡ None → ⊥
no_set_up o d some none = absurd (none_some d (sym none ∙ some))

-- a fuse that isn't set trips at no call
abbrev pub unset : Setting
unset = record { stop = None; fail = None }

pub own_rose : (last before now own_before own_now : ℕ) → IsCaused unset last before now own_before own_now store.Failed → Rose own_before own_now
own_rose last before now own_before own_now (rose, inl (inl trips)) = absurd trips
own_rose last before now own_before own_now (rose, inl (inr trips)) = absurd trips
own_rose last before now own_before own_now (rose, inr own) = own

abbrev pub setting_of : {D : Type 0} → Fused D → Setting
setting_of {D} f = record { stop = f.stop; fail = f.fail }

-- both states of a node
abbrev node_of : ServerState → VolState → NodeState
node_of x y = record { file = x; vol = y }

abbrev first_server_state : Script → ℕ → ServerState
first_server_state s i = (first_node s i).state.file

module _ {D : Type 0} (seen : D → Option (List ℕ)) (may_leave : D → List ℕ → Type 0) (faults limit : D → ℕ) (s : Script) (h : IsCellScript s) (i : ℕ) (old : D) (ls : List VolumeLine) where
  -- what is set up is what the script says
  set_up_is : (t : Durable) → ls ≡ lines_of_server i s.volumes → limit old ≡ s.capacity → set_up (limit old) ls ≡ Some t → set_up s.capacity (lines_of_server i s.volumes) ≡ Some t
  set_up_is t lines capacity made = sym (ap₂ (λ (n : ℕ) (vs : List VolumeLine). set_up n vs) capacity lines) ∙ made

  pub first_store : SetUpsAreFirst → NumbersAscend → (t : Store (Fused D)) → ls ≡ lines_of_server i s.volumes → limit old ≡ s.capacity → set_up (limit old) ls ≡ Some t.durable
      → t ≡ record { durable = t.durable; disk = t.disk; node = Server i; prepared = None; closed = false; count = 1; drawn = 0; holds = t.holds } → t.holds.table ≡ []
      → setting_of t.disk ≡ unset → t.disk.calls ≤ 12 → limit t.disk.disk ≡ limit old → faults t.disk.disk ≡ faults old → (IsSome (seen t.disk.disk) ↔ IsSome (seen old)) → IsKept t.durable (seen t.disk.disk) (may_leave t.disk.disk)
      → IsFirstStore seen may_leave faults limit s i old t
  first_store first ascend t lines capacity made rest free set few same quiet told kept =
      let is = set_up_is t.durable lines capacity made in
      record {
        durable_is = first s.capacity i s.volumes t.durable (ascend s h) is;
        rest = rest;
        free = free;
        unset = (ap (λ (x : Setting). x.stop) set, ap (λ (x : Setting). x.fail) set);
        few = few;
        same_limit = same;
        quiet = quiet;
        left = record { told = told; holds = λ none just bytes sees. inr (t.durable, (is, kept.stands bytes sees)) };
      }

  -- why a disk is refused
  caused : SetUpsAreAccepted → (fault : StoreFault) (new : D) (last before now : ℕ) → ls ≡ lines_of_server i s.volumes → limit old ≡ s.capacity → IsSetUpFault fault → ((used capacity : ℕ) → fault ≡ store.Full used capacity → set_up (limit old) ls ≡ None)
      → IsCaused unset last before now (faults old) (faults new) fault → IsCausedAt faults i (refused_as fault (Server i)) old new
  caused accepted (store.Full used capacity) new last before now lines same setup full cause =
      let made = (accepted s h i).1 in
      absurd (no_set_up (set_up s.capacity (lines_of_server i s.volumes)) made.0 made.1 (sym (ap₂ (λ (n : ℕ) (vs : List VolumeLine). set_up n vs) same lines) ∙ full used capacity refl))
  caused accepted store.Failed new last before now lines same setup full cause = (refl, own_rose last before now (faults old) (faults new) cause)
  caused accepted store.Closed new last before now lines same setup full cause = absurd setup
  caused accepted (store.BadRecord n) new last before now lines same setup full cause = absurd setup
  caused accepted store.OutOfMemory new last before now lines same setup full cause = cause.1

  pub refused_store : SetUpsAreAccepted → (fault : StoreFault) (new : D) (last before now : ℕ) → ls ≡ lines_of_server i s.volumes → limit old ≡ s.capacity → IsSetUpFault fault → ((used capacity : ℕ) → fault ≡ store.Full used capacity → set_up (limit old) ls ≡ None)
      → IsCaused unset last before now (faults old) (faults new) fault → limit new ≡ limit old → faults old ≤ faults new → (IsSome (seen new) ↔ IsSome (seen old))
      → (seen old ≡ Some [] → LeavesJust [] (may_leave old) → (bytes : List ℕ) → seen new ≡ Some bytes → IsSetUpSoFar (limit old) ls bytes)
      → IsRefusedAt seen may_leave faults limit s i old (refused_as fault (Server i), new)
  refused_store accepted fault new last before now lines same setup full cause limit_is no_fewer told holds = record {
    cause = caused accepted fault new last before now lines same setup full cause;
    back = record {
      same_limit = limit_is;
      no_fewer = no_fewer;
      left = record {
        told = told;
        holds = λ none just bytes sees.
            subst (λ (n : ℕ). IsSetUpSoFar n (lines_of_server i s.volumes) bytes) same (subst (λ (vs : List VolumeLine). IsSetUpSoFar (limit old) vs bytes) lines (holds none just bytes sees));
      };
    };
  }

pub none_whole : whole_records [] ≡ []
unfolding whole_records
none_whole = refl

module _ {D : Type 0} (seen : D → Option (List ℕ)) (may_leave : D → List ℕ → Type 0) (faults limit : D → ℕ) (s : Script) (i : ℕ) where
  -- a disk to which nothing was done
  pub same_back : (d : D) → IsBack seen may_leave faults limit s i d d
  same_back d = record {
    same_limit = refl;
    no_fewer = omega arith;
    left = record {
      told = (λ t. t, λ t. t);
      holds = λ none just bytes sees. inl (subst (λ (b : List ℕ). whole_records b ≡ []) (some_is [] bytes (sym none ∙ sees)) none_whole);
    };
  }

  -- the file server over such a store
  pub first_serves : (old : D) (t : Store (Fused D)) (m : Memory) → 1 ≤ i → i ≤ 8 → IsFirstStore seen may_leave faults limit s i old t → m ≡ first_memory → Serves t.node m t.durable
  first_serves old t m low high first is =
      let node : Server i ≡ t.node = sym (ap (λ (x : Store (Fused D)). x.node) first.rest) in
      subst (λ (x : Memory). Serves t.node x t.durable) (sym is) (subst (λ (n : Node). Serves n first_memory t.durable) node (subst (λ (d : Durable). Serves (Server i) first_memory d) (sym first.durable_is) (record {
        node = server_is_node i low high;
        boot = refl;
        kept = tt;
        promises = All-nil IsPromiseToNode;
        owed = All-nil IsBreakToNode;
        calls = λ n. tt;
      })))

  -- the node over it
  pub first_server : (old : D) (t : Store (Fused D)) (m : ServerNode) (r : ServerRunning D) → IsFirstStore seen may_leave faults limit s i old t → m.file ≡ first_memory → vol_seen m.vol ≡ fresh_vol (lasting_of t.durable).kept → r ≡ record { memory = m; store = t; armed = record { stop = None; fail = None } } → CanRun r → IsFirstServer seen may_leave faults limit s i old r
  first_server old t m r first is fresh value can =
      let stored : r.store ≡ t = ap (λ (x : ServerRunning D). x.store) value in
      let node : t.node ≡ Server i = ap (λ (x : Store (Fused D)). x.node) first.rest in
      let drawn : t.drawn ≡ 0 = ap (λ (x : Store (Fused D)). x.drawn) first.rest in
      let memory : r.memory.file ≡ first_memory = ap (λ (x : ServerRunning D). x.memory.file) value ∙ is in
      let volumes : vol_seen r.memory.vol ≡ fresh_vol [] = ap (λ (x : ServerRunning D). vol_seen x.memory.vol) value ∙ (fresh ∙ ap (λ (d : Durable). fresh_vol (lasting_of d).kept) first.durable_is) in
      let none : r.memory.file.lists.last_owed + length r.memory.file.lists.promises ≡ 0 = ap (λ (x : Memory). x.lists.last_owed + length x.lists.promises) memory in
      let few : r.store.disk.calls ≤ 12 = subst (λ (x : Store (Fused D)). x.disk.calls ≤ 12) (sym stored) first.few in
      let drew : r.store.drawn ≡ 0 = ap (λ (x : Store (Fused D)). x.drawn) stored ∙ drawn in
      let file : state_seen r.memory.file r.store.durable r.store.drawn ≡ first_server_state s i =
      ap₂ (λ (x : Memory) (y : Store (Fused D)). state_seen x y.durable y.drawn) memory stored ∙ ap₂ (λ (d : Durable) (n : ℕ). state_seen first_memory d n) first.durable_is drawn in
      record {
        ready = record {
          node = ap (λ (x : Store (Fused D)). x.node) stored ∙ node;
          can_run = can;
          calls_drawn = omega (arith, drew);
          breaks_drawn = omega (arith, none);
          device_calls = omega (arith, few);
        };
        host = record {
          state = sym (ap₂ (λ (x : ServerState) (y : VolState). node_of x y) file volumes);
          down = refl;
          armed = sym (ap (λ (x : ServerRunning D). x.armed) value);
        };
        same_limit = ap (λ (x : Store (Fused D)). limit x.disk.disk) stored ∙ first.same_limit;
        quiet = ap (λ (x : Store (Fused D)). faults x.disk.disk) stored ∙ first.quiet;
        left = subst (λ (x : Store (Fused D)). IsLeftAt seen may_leave s i old x.disk.disk) (sym stored) first.left;
      }

  pub first_is_node : IsCellScript s → (old : D) (t : Store (Fused D)) → 1 ≤ i → i ≤ s.servers → IsFirstStore seen may_leave faults limit s i old t → IsNode t.node
  first_is_node script old t low high first =
      let most = script.servers.1 in
      subst IsNode (sym (ap (λ (x : Store (Fused D)). x.node) first.rest)) (server_is_node i low (omega (arith, high, most)))

  pub node_serves : IsCellScript s → (old : D) (t : Store (Fused D)) (m : ServerNode) → 1 ≤ i → i ≤ s.servers → IsFirstStore seen may_leave faults limit s i old t → m.file ≡ first_memory → ServesVolumes m.vol t → ServesNode m t
  node_serves script old t m low high first is volumes =
      let most = script.servers.1 in
      record { file = first_serves old t m.file low (omega (arith, high, most)) first is; volumes = volumes }

  -- memory ran out behind it: its disk is handed back
  pub unseated : (old : D) (t : Store (Fused D)) → IsFirstStore seen may_leave faults limit s i old t → IsRefusedAt seen may_leave faults limit s i old (seating.OutOfMemory, t.disk.disk)
  unseated old t first = record { cause = first.quiet; back = record { same_limit = first.same_limit; no_fewer = omega (arith, first.quiet); left = first.left } }

  pub unseated_with : (old : D) (t : Store (Fused D)) → IsFirstStore seen may_leave faults limit s i old t → (d : D) → d ≡ t.disk.disk → IsRefusedAt seen may_leave faults limit s i old (seating.OutOfMemory, d)
  unseated_with old t first d is = subst (λ (x : D). IsRefusedAt seen may_leave faults limit s i old (seating.OutOfMemory, x)) (sym is) (unseated old t first)

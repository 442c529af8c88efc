-- The location database at set-up is that of the script's first cell.
use Rattle.std.proofs.Common.{refl, arith, ap, ap₂, sym, subst, ◌∙◌, ◌≡◌, ◌≤◌, ◌+◌, inr, ℕ, List, [], false, Option, Some, None}
use Rattle.std.specs.Prelude.{IsSome, ◌↔◌}
use Rattle.afs_num.specs.declared.faults.StoreFault.{StoreFault}
use Rattle.afs_num.specs.declared.faults.StoreFault.TheVariants as store
use Rattle.afs_num.specs.declared.types.Node.TheVariants.{Loc}
use Rattle.spec_history.specs.declared.scripts.Script.{Script}
use Rattle.afs_disk.specs.Disk.{LeavesJust}
use Rattle.afs_disk.specs.Fuses.{Fused}
use Rattle.spec_records.specs.LocDurable.{loc_set_up, LocDurable}
use Rattle.afs_grammar.specs.CellScripts.{IsCellScript}
use Rattle.law_legal.specs.DatabaseRuns.{LocSetUpsAreFirst}
use Rattle.law_scripts.specs.SetUps.{LocSetUpsAreAccepted, NumbersAscend}
use Rattle.spec_rows.specs.LocRow.{LocLasting, LocState}
use Rattle.spec_rows.specs.States.{Seat}
use Rattle.afs_store.specs.Stores.{IsCaused, IsKept, IsSetUpFault}
use Rattle.afs_locstore.specs.LocFold.{loc_fold}
use Rattle.afs_locdb.specs.Creating.{IsSetUpSoFar}
use Rattle.afs_locdb.specs.Seen.{lasting_of, Database}
use Rattle.afs_host.specs.LocSeats.{DatabaseRunning, LocCanRun}
use Rattle.afs_cell.specs.Founding.{IsFirstDatabase, IsLocCaused, IsLocLeft, IsLocRefused}
use Rattle.afs_cell.specs.Refusing.{refused_as}
use Rattle.afs_cell.proofs.FirstStores.{own_rose, setting_of, unset}
use Rattle.afs_clients.proofs.Numbers.{none_some}

abbrev state_of : LocLasting → List Seat → LocState
state_of l seats = record { lasting = l; seats = seats }

-- a database over such a disk, with its first record alone
abbrev pub at_first : {D : Type 0} → Database (Fused D) → Database (Fused D)
at_first {D} b = record { store = record { durable = b.store.durable; disk = b.store.disk; node = Loc; prepared = None; closed = false; count = 1; drawn = 0 }; boot = 1; seats = [] }

module _ {D : Type 0} (seen : D → Option (List ℕ)) (may_leave : D → List ℕ → Type 0) (faults limit : D → ℕ) (s : Script) (h : IsCellScript s) (old : D) (capacity : limit old ≡ s.capacity) where
  set_up_is : (d : LocDurable) → loc_set_up (limit old) s.volumes ≡ Some d → loc_set_up s.capacity s.volumes ≡ Some d
  set_up_is d made = subst (λ (n : ℕ). loc_set_up n s.volumes ≡ Some d) capacity made

  pub first_database : LocSetUpsAreFirst → NumbersAscend → (b : Database (Fused D)) (r : DatabaseRunning D) → loc_set_up (limit old) s.volumes ≡ Some b.store.durable → b ≡ at_first b → b.store.disk.calls ≤ 12 → limit b.store.disk.disk ≡ limit old → faults b.store.disk.disk ≡ faults old
      → (IsSome (seen b.store.disk.disk) ↔ IsSome (seen old)) → IsKept loc_fold b.store.durable (seen b.store.disk.disk) (may_leave b.store.disk.disk) → r ≡ record { memory = tt; store = b; armed = record { stop = None; fail = None } } → LocCanRun r
      → IsFirstDatabase seen may_leave faults limit s old r
  first_database first ascend b r made rest few same quiet told kept value can =
      let is = set_up_is b.store.durable made in
      let stored : r.store ≡ b = ap (λ (x : DatabaseRunning D). x.store) value in
      let durable = first s.capacity s.volumes b.store.durable (ascend s h) is in
      record {
        ready = record { can_run = can; device_calls = subst (λ (x : Database (Fused D)). x.store.disk.calls ≤ 12) (sym stored) few };
        host = record {
          state = sym (ap₂ state_of (ap (λ (x : Database (Fused D)). lasting_of x.store.durable) stored ∙ ap lasting_of durable) (ap (λ (x : Database (Fused D)). x.seats) (stored ∙ rest)));
          down = refl;
          armed = sym (ap (λ (x : DatabaseRunning D). x.armed) value);
        };
        same_limit = ap (λ (x : Database (Fused D)). limit x.store.disk.disk) stored ∙ same;
        quiet = ap (λ (x : Database (Fused D)). faults x.store.disk.disk) stored ∙ quiet;
        left = subst (λ (x : Database (Fused D)). IsLocLeft seen may_leave s old x.store.disk.disk) (sym stored) (record { told = told; holds = λ none just bytes sees. inr (b.store.durable, (is, kept.stands bytes sees)) });
      }

  no_set_up : (o : Option LocDurable) (d : LocDurable) → o ≡ Some d → o ≡ None → ⊥
  no_set_up o d some none = absurd (none_some d (sym none ∙ some))

  -- why its disk is refused
  caused : LocSetUpsAreAccepted → (fault : StoreFault) (new : D) (last before now : ℕ) → IsSetUpFault fault → ((used room : ℕ) → fault ≡ store.Full used room → loc_set_up (limit old) s.volumes ≡ None) → IsCaused unset last before now (faults old) (faults new) fault → IsLocCaused faults (refused_as fault Loc) old new
  caused accepted (store.Full used room) new last before now setup full cause =
      let made = (accepted s h).1 in
      absurd (no_set_up (loc_set_up s.capacity s.volumes) made.0 made.1 (subst (λ (n : ℕ). loc_set_up n s.volumes ≡ None) capacity (full used room refl)))
  caused accepted store.Failed new last before now setup full cause = (refl, own_rose last before now (faults old) (faults new) cause)
  caused accepted store.Closed new last before now setup full cause = absurd setup
  caused accepted (store.BadRecord n) new last before now setup full cause = absurd setup
  caused accepted store.OutOfMemory new last before now setup full cause = cause.1

  pub refused_database : LocSetUpsAreAccepted → (fault : StoreFault) (new : D) (last before now : ℕ) → IsSetUpFault fault → ((used room : ℕ) → fault ≡ store.Full used room → loc_set_up (limit old) s.volumes ≡ None) → IsCaused unset last before now (faults old) (faults new) fault → limit new ≡ limit old → faults old ≤ faults new
      → (IsSome (seen new) ↔ IsSome (seen old)) → (seen old ≡ Some [] → LeavesJust [] (may_leave old) → (bytes : List ℕ) → seen new ≡ Some bytes → IsSetUpSoFar (limit old) s.volumes bytes) → IsLocRefused seen may_leave faults limit s old (refused_as fault Loc, new)
  refused_database accepted fault new last before now setup full cause limit_is no_fewer told holds = record {
    cause = caused accepted fault new last before now setup full cause;
    back = record {
      same_limit = limit_is;
      no_fewer = no_fewer;
      left = record { told = told; holds = λ none just bytes sees. subst (λ (n : ℕ). IsSetUpSoFar n s.volumes bytes) capacity (holds none just bytes sees) };
    };
  }

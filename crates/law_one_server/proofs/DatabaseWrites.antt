-- What a call of the location database leaves of what acts know.
use Rattle.std.proofs.Common.{◌≡◌, ◌≤◌, ◌<◌, ◌⊎◌, inl, inr, ℕ, Bool, true, false, cond, List, Option, Some, None, is_some, refl, sym, ap, subst, arith, ◌∙◌}
use Rattle.std.specs.Prelude.{⊤}
use Rattle.spec_ideal.specs.Tables.{get}
use Rattle.spec_records.specs.Entries.{site_of}
use Rattle.spec_records.specs.LocRecords.{Listed}
use Rattle.spec_runs.specs.NodeRuns.{NodeCell}
use Rattle.law_places.specs.Accepting.{serves_at}
use Rattle.law_stamps.specs.Told.{entries_in, stamp_by, stamp_in}
use Rattle.spec_adminrows.specs.Asks.{family}
use Rattle.spec_adminrows.specs.declared.places.Creating.{Creating}
use Rattle.spec_adminrows.specs.declared.places.Creating.TheVariants as creating
use Rattle.spec_adminrows.specs.declared.places.Fresh.{Fresh}
use Rattle.spec_adminrows.specs.declared.places.Hold.{Hold}
use Rattle.spec_adminrows.specs.declared.places.Place.{Place}
use Rattle.spec_adminrows.specs.declared.places.Place.TheVariants as places
use Rattle.spec_adminrows.specs.declared.places.Removing.{Removing}
use Rattle.spec_adminrows.specs.declared.places.Removing.TheVariants as removing
use Rattle.law_locks.specs.Grips.{grip_at, GripIs}
use Rattle.law_one_server.specs.Knows.{lock_at, listed_site, site_by, AreClosed, HasLost, IsAt, IsListedOr, IsMovedOr, IsOver, IsShutAt, Knows}
use Rattle.law_one_server.proofs.KnownKept.{mild_leaves, mild_shut, over_leaves, IsMild, Leaves, LeavesAt, LeavesInRemoval, StaysShut}

-- ---- by what is locked at a place

module _ (c d : NodeCell) where
  -- all that is looked at under this stamp
  abbrev pub LeavesAll : ℕ → ℕ → Type 0
  LeavesAll volume stamp = Leaves c d volume stamp × StaysShut c d volume stamp

  removal_leaves : (h : Hold) (step : Removing) → LeavesAll (family h) h.stamp → LeavesInRemoval c d h step
  removal_leaves h (removing.Decides t) k = k
  removal_leaves h removing.Begins k = k.0
  removal_leaves h (removing.Fences t) k = k.0
  removal_leaves h (removing.Deletes t) k = k.0

  creation_leaves : (f : Fresh) (step : Creating) → GripIs LeavesAll (grip_at (places.Creates f step)) → LeavesAt c d (places.Creates f step)
  creation_leaves f (creating.Begins v stamp) k = k.0
  creation_leaves f (creating.Opens v stamp t) k = k.0
  creation_leaves f (creating.Opened v stamp t) k = k.0
  creation_leaves f (creating.Frees v stamp) k = k.0
  creation_leaves f step k = tt

  pub leaves_of : (p : Place) → GripIs LeavesAll (grip_at p) → LeavesAt c d p
  leaves_of (places.Seeks cause) k = tt
  leaves_of (places.Locks cause v) k = tt
  leaves_of (places.Frees h code first) k = tt
  leaves_of (places.Creates f step) k = creation_leaves f step k
  leaves_of (places.Adds h server) k = k.0
  leaves_of (places.Backs h step) k = k.0
  leaves_of (places.Dumps s step) k = k.0
  leaves_of (places.Releases h step) k = k.0
  leaves_of (places.Tours r step) k = k.0
  leaves_of (places.Visits r s step) k = k.0
  leaves_of (places.Surveys h why s left seen) k = k.0
  leaves_of (places.Plans h target) k = k.0
  leaves_of (places.Moves m step) k = k.0
  leaves_of (places.Removes h seen step) k = removal_leaves h step k
  leaves_of (places.Sweeps h spot left step) k = tt
  leaves_of (places.Asks cause h seen) k = k.0
  leaves_of (places.Mends m step) k = k.0

  -- ---- one entry changes, and the servers are as they were

  module _ (serves : (volume server : ℕ) → serves_at d volume server ≡ serves_at c volume server) (over : (volume stamp : ℕ) → IsOver c volume stamp → IsOver d volume stamp) where
    mild_all : (volume stamp : ℕ) → IsMild c d volume stamp → LeavesAll volume stamp
    mild_all volume stamp m = (mild_leaves c d volume stamp m, mild_shut c d volume stamp m)

    still_rests : (volume stamp server : ℕ) → serves_at c volume server ≡ false → IsShutAt d volume stamp server
    still_rests volume stamp server rests = inl (serves volume server ∙ rests)

    -- another entry than this
    pub same_entry : (volume stamp : ℕ) → get volume (entries_in d) ≡ get volume (entries_in c) → LeavesAll volume stamp
    same_entry volume stamp same = mild_all volume stamp (record {
      site = ap site_by same;
      listed = λ there. ap is_some same ∙ there;
      over = over volume stamp;
      lost = λ lost is. lost (sym (ap stamp_in same) ∙ is);
      rests = still_rests volume stamp;
    })

    -- it names the same server, and who had lost its lock hasn't it now
    pub same_site : (volume stamp : ℕ) (l new : Listed) → get volume (entries_in c) ≡ Some l → get volume (entries_in d) ≡ Some new → site_of new.entry ≡ site_of l.entry → (HasLost c volume stamp → HasLost d volume stamp) → LeavesAll volume stamp
    same_site volume stamp l new was now same lost = mild_all volume stamp (record {
      site = ap site_by now ∙ (same ∙ sym (ap site_by was));
      listed = λ there. ap is_some now;
      over = over volume stamp;
      lost = lost;
      rests = still_rests volume stamp;
    })

    -- there was none: who acts under an earlier stamp is over
    module _ (volume stamp : ℕ) (new : Listed) (was : get volume (entries_in c) ≡ None) (now : get volume (entries_in d) ≡ Some new) (lost : HasLost d volume stamp) where
      unnamed : (server : ℕ) → listed_site c volume ≡ Some server → ⊥
      unnamed server named = let none : None ≡ Some server = sym (ap site_by was) ∙ named in absurd cc

      new_at : (server : ℕ) → IsAt c volume stamp server → IsAt d volume stamp server
      new_at server (inl named) = absurd (unnamed server named)
      new_at server (inr done) = inr (over volume stamp done)

      new_moved : (target server : ℕ) → IsMovedOr c volume stamp target server → IsMovedOr d volume stamp target server
      new_moved target server (inl named) = absurd (unnamed target named)
      new_moved target server (inr x) = inr (new_at server x.0, inr lost)

      pub new_entry_leaves : LeavesAll volume stamp
      new_entry_leaves = (record { at = new_at; left = λ server x. inl lost; moved = new_moved; listed = λ x. inl (ap is_some now) }, λ server x. inr lost)

    -- the act is over, and the lock is lost
    pub ended : (volume stamp : ℕ) → IsOver c volume stamp → HasLost d volume stamp → LeavesAll volume stamp
    ended volume stamp done lost = (over_leaves c d volume stamp (over volume stamp done) lost, λ server x. inr lost)

    -- ---- where volumes are in service

    -- of all volumes but this, the database says what it said
    pub closed_by : (volume : ℕ) → ((v : ℕ) → (v ≡ volume → ⊥) → get v (entries_in d) ≡ get v (entries_in c)) → ((v : ℕ) → (v ≡ volume) ⊎ (v ≡ volume → ⊥)) → AreClosed c → ((server : ℕ) → serves_at c volume server ≡ true → listed_site d volume ≡ Some server) → AreClosed d
    closed_by volume others same closed own v server serves_it = by (same v)
      where
        by : (v ≡ volume) ⊎ (v ≡ volume → ⊥) → listed_site d v ≡ Some server
        by (inl is) = subst (λ (w : ℕ). listed_site d w ≡ Some server) (sym is) (own server (subst (λ (w : ℕ). serves_at c w server ≡ true) is (sym (serves v server) ∙ serves_it)))
        by (inr other) = ap site_by (others v other) ∙ closed v server (sym (serves v server) ∙ serves_it)

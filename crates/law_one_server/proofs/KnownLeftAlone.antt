-- A step that leaves what is looked at of every volume leaves it for every place.
use Rattle.std.proofs.Common.{◌≡◌, ◌⊎◌, inl, inr, ℕ, Bool, true, false, Option, Some, None, refl, sym, ap, subst, ◌∙◌}
use Rattle.std.specs.Prelude.{⊤}
use Rattle.spec_runs.specs.NodeRuns.{NodeCell}
use Rattle.spec_volrows.specs.NodeHosts.{NodeHost}
use Rattle.law_places.specs.Accepting.{has_in_service}
use Rattle.spec_adminrows.specs.Asks.{family}
use Rattle.spec_adminrows.specs.declared.places.Creating.{Creating}
use Rattle.spec_adminrows.specs.declared.places.Creating.TheVariants as creating
use Rattle.spec_adminrows.specs.declared.places.Fresh.{Fresh}
use Rattle.spec_adminrows.specs.declared.places.Hold.{Hold}
use Rattle.spec_adminrows.specs.declared.places.Moving.TheVariants as moving
use Rattle.spec_adminrows.specs.declared.places.Place.{Place}
use Rattle.spec_adminrows.specs.declared.places.Place.TheVariants as places
use Rattle.spec_adminrows.specs.declared.places.Removing.{Removing}
use Rattle.spec_adminrows.specs.declared.places.Removing.TheVariants as removing
use Rattle.law_one_server.specs.Knows.{IsShutAt}
use Rattle.law_one_server.proofs.KnownAside.{aside_mild, IsAside}
use Rattle.law_one_server.proofs.KnownKept.{mild_leaves, mild_shut, IsMild, Leaves, LeavesAt, LeavesInRemoval, StaysShut}

module _ (c d : NodeCell) (mild : (volume stamp : ℕ) → IsMild c d volume stamp) where
  leaves : (volume stamp : ℕ) → Leaves c d volume stamp
  leaves volume stamp = mild_leaves c d volume stamp (mild volume stamp)

  stays_shut : (volume stamp : ℕ) → StaysShut c d volume stamp
  stays_shut volume stamp = mild_shut c d volume stamp (mild volume stamp)

  in_removal : (h : Hold) (step : Removing) → LeavesInRemoval c d h step
  in_removal h (removing.Decides t) = (leaves (family h) h.stamp, stays_shut (family h) h.stamp)
  in_removal h removing.Begins = leaves (family h) h.stamp
  in_removal h (removing.Fences t) = leaves (family h) h.stamp
  in_removal h (removing.Deletes t) = leaves (family h) h.stamp

  in_creation : (f : Fresh) (step : Creating) → LeavesAt c d (places.Creates f step)
  in_creation f (creating.Begins v stamp) = leaves v stamp
  in_creation f (creating.Opens v stamp t) = leaves v stamp
  in_creation f (creating.Opened v stamp t) = leaves v stamp
  in_creation f (creating.Frees v stamp) = leaves v stamp
  in_creation f step = tt

  pub leaves_all : (p : Place) → LeavesAt c d p
  leaves_all (places.Seeks cause) = tt
  leaves_all (places.Locks cause v) = tt
  leaves_all (places.Frees h code first) = tt
  leaves_all (places.Creates f step) = in_creation f step
  leaves_all (places.Adds h server) = leaves (family h) h.stamp
  leaves_all (places.Backs h step) = leaves (family h) h.stamp
  leaves_all (places.Dumps s step) = leaves (family s.hold) s.hold.stamp
  leaves_all (places.Releases h step) = leaves (family h) h.stamp
  leaves_all (places.Tours r step) = leaves (family r.hold) r.hold.stamp
  leaves_all (places.Visits r s step) = leaves (family r.hold) r.hold.stamp
  leaves_all (places.Surveys h why s left seen) = leaves (family h) h.stamp
  leaves_all (places.Plans h target) = leaves (family h) h.stamp
  leaves_all (places.Moves m step) = leaves (family m.hold) m.hold.stamp
  leaves_all (places.Removes h seen step) = in_removal h step
  leaves_all (places.Sweeps h spot left step) = tt
  leaves_all (places.Asks cause h seen) = leaves (family h) h.stamp
  leaves_all (places.Mends m step) = leaves m.volume m.stamp

-- a step in which no server did anything
pub quiet_mild : (c d : NodeCell) → IsAside c d → d.hosts ≡ c.hosts → (volume stamp : ℕ) → IsMild c d volume stamp
quiet_mild c d aside hosts volume stamp =
    aside_mild c d aside volume stamp (λ server rests. inl (ap (λ (f : ℕ → NodeHost). has_in_service (f server).state.file.lasting.volumes volume) hosts ∙ rests))

-- What an act knows goes on through a step that leaves what it looks at; and what its own deciding write makes of it.
use Rattle.std.proofs.Common.{◌≡◌, ◌⊎◌, inl, inr, ℕ, Bool, true, false, List, Option, Some, None, refl, sym, ◌∙◌, is_some}
use Rattle.std.specs.Prelude.{⊤}
use Rattle.spec_ideal.specs.Tables.{get}
use Rattle.spec_runs.specs.NodeRuns.{NodeCell}
use Rattle.law_stamps.specs.Told.{entries_in}
use Rattle.law_places.specs.Accepting.{serves_at}
use Rattle.spec_adminrows.specs.Asks.{family, home}
use Rattle.spec_adminrows.specs.declared.places.Creating.{Creating}
use Rattle.spec_adminrows.specs.declared.places.Creating.TheVariants as creating
use Rattle.spec_adminrows.specs.declared.places.Fresh.{Fresh}
use Rattle.spec_adminrows.specs.declared.places.Hold.{Hold}
use Rattle.spec_adminrows.specs.declared.places.Moving.{Moving}
use Rattle.spec_adminrows.specs.declared.places.Moving.TheVariants as moving
use Rattle.spec_adminrows.specs.declared.places.Place.{Place}
use Rattle.spec_adminrows.specs.declared.places.Place.TheVariants as places
use Rattle.spec_adminrows.specs.declared.places.Purpose.{Purpose}
use Rattle.spec_adminrows.specs.declared.places.Purpose.TheVariants as purposes
use Rattle.spec_adminrows.specs.declared.places.Removing.{Removing}
use Rattle.spec_adminrows.specs.declared.places.Removing.TheVariants as removing
use Rattle.law_one_server.specs.Knows.{listed_site, AreClosed, HasLost, IsAt, IsHome, IsHomeOr, IsListedOr, IsMovedOr, IsOver, IsShutAt, Knows, KnowsInCreation, KnowsInMove, KnowsInRemoval, KnowsInSurvey}

-- What a step leaves of the volume for who acts on it under this stamp.
pub record Leaves (c d : NodeCell) (volume stamp : ℕ) : Type 0 where
  pub at : (server : ℕ) → IsAt c volume stamp server → IsAt d volume stamp server
  pub left : (server : ℕ) → HasLost c volume stamp ⊎ IsAt c volume stamp server → HasLost d volume stamp ⊎ IsAt d volume stamp server
  pub moved : (target server : ℕ) → IsMovedOr c volume stamp target server → IsMovedOr d volume stamp target server
  pub listed : IsListedOr c volume stamp → IsListedOr d volume stamp

-- and that it is out of service, for a removal that is about to delete the entry
abbrev pub StaysShut : NodeCell → NodeCell → ℕ → ℕ → Type 0
StaysShut c d volume stamp = (server : ℕ) → IsShutAt c volume stamp server → IsShutAt d volume stamp server

-- ---- by the places

module _ (c d : NodeCell) (h : Hold) (k : Leaves c d (family h) h.stamp) where
  home_stays : IsHome c h → IsHome d h
  home_stays x = k.at (home h) x

  -- where the database names the new server it does on, or the act is over
  new_stays : (target : ℕ) → IsAt d (family h) h.stamp target → IsHomeOr d h target
  new_stays target (inl named) = inl named
  new_stays target (inr over) = inr (inr over)

  home_or_stays : (target : ℕ) → IsHomeOr c h target → IsHomeOr d h target
  home_or_stays target (inl named) = new_stays target (k.at target (inl named))
  home_or_stays target (inr x) = inr (home_stays x)

  survey_stays : (why : Purpose) → KnowsInSurvey c h why → KnowsInSurvey d h why
  survey_stays (purposes.Moves target) x = home_or_stays target x
  survey_stays purposes.Removes x = k.left (home h) x
  survey_stays (purposes.Mends cause) x = k.listed x

  move_stays : (target : ℕ) (step : Moving) → KnowsInMove c h target step → KnowsInMove d h target step
  move_stays target (moving.Fills counter new old) x = k.moved target (home h) x
  move_stays target (moving.Clears new old) x = k.moved target (home h) x
  move_stays target (moving.Decides new old) x = k.moved target (home h) x
  move_stays target (moving.Starts new old) x = k.at target x
  move_stays target (moving.Started new old) x = k.at target x
  move_stays target (moving.Points old) x = k.at target x
  move_stays target (moving.Deletes old) x = k.at target x
  move_stays target step x = home_or_stays target x

  left_stays : HasLost c (family h) h.stamp ⊎ IsHome c h → HasLost d (family h) h.stamp ⊎ IsHome d h
  left_stays x = k.left (home h) x

abbrev pub LeavesInRemoval : NodeCell → NodeCell → Hold → Removing → Type 0
LeavesInRemoval c d h (removing.Decides t) = Leaves c d (family h) h.stamp × StaysShut c d (family h) h.stamp
LeavesInRemoval c d h step = Leaves c d (family h) h.stamp

-- the volume and the stamp of a place at which something is known
abbrev pub LeavesAt : NodeCell → NodeCell → Place → Type 0
LeavesAt c d (places.Seeks cause) = ⊤
LeavesAt c d (places.Locks cause v) = ⊤
LeavesAt c d (places.Frees h code first) = ⊤
LeavesAt c d (places.Creates f (creating.Begins v stamp)) = Leaves c d v stamp
LeavesAt c d (places.Creates f (creating.Opens v stamp t)) = Leaves c d v stamp
LeavesAt c d (places.Creates f (creating.Opened v stamp t)) = Leaves c d v stamp
LeavesAt c d (places.Creates f (creating.Frees v stamp)) = Leaves c d v stamp
LeavesAt c d (places.Creates f step) = ⊤
LeavesAt c d (places.Adds h server) = Leaves c d (family h) h.stamp
LeavesAt c d (places.Backs h step) = Leaves c d (family h) h.stamp
LeavesAt c d (places.Dumps s step) = Leaves c d (family s.hold) s.hold.stamp
LeavesAt c d (places.Releases h step) = Leaves c d (family h) h.stamp
LeavesAt c d (places.Tours r step) = Leaves c d (family r.hold) r.hold.stamp
LeavesAt c d (places.Visits r s step) = Leaves c d (family r.hold) r.hold.stamp
LeavesAt c d (places.Surveys h why s left seen) = Leaves c d (family h) h.stamp
LeavesAt c d (places.Plans h target) = Leaves c d (family h) h.stamp
LeavesAt c d (places.Moves m step) = Leaves c d (family m.hold) m.hold.stamp
LeavesAt c d (places.Removes h seen step) = LeavesInRemoval c d h step
LeavesAt c d (places.Sweeps h spot left step) = ⊤
LeavesAt c d (places.Asks cause h seen) = Leaves c d (family h) h.stamp
LeavesAt c d (places.Mends m step) = Leaves c d m.volume m.stamp

creation_stays : (c d : NodeCell) (f : Fresh) (step : Creating) → LeavesAt c d (places.Creates f step) → KnowsInCreation c f.server step → KnowsInCreation d f.server step
creation_stays c d f (creating.Begins v stamp) k x = k.at f.server x
creation_stays c d f (creating.Opens v stamp t) k x = k.at f.server x
creation_stays c d f (creating.Opened v stamp t) k x = k.at f.server x
creation_stays c d f (creating.Frees v stamp) k x = k.at f.server x
creation_stays c d f step k x = tt

removal_stays : (c d : NodeCell) (h : Hold) (step : Removing) → LeavesInRemoval c d h step → KnowsInRemoval c h step → KnowsInRemoval d h step
removal_stays c d h (removing.Decides t) k x = (left_stays c d h k.0 x.0, k.1 (home h) x.1)
removal_stays c d h removing.Begins k x = left_stays c d h k x
removal_stays c d h (removing.Fences t) k x = left_stays c d h k x
removal_stays c d h (removing.Deletes t) k x = left_stays c d h k x

pub knows_stays : (c d : NodeCell) (p : Place) → LeavesAt c d p → Knows c p → Knows d p
knows_stays c d (places.Seeks cause) k x = tt
knows_stays c d (places.Locks cause v) k x = tt
knows_stays c d (places.Frees h code first) k x = tt
knows_stays c d (places.Creates f step) k x = creation_stays c d f step k x
knows_stays c d (places.Adds h server) k x = home_stays c d h k x
knows_stays c d (places.Backs h step) k x = home_stays c d h k x
knows_stays c d (places.Dumps s step) k x = home_stays c d s.hold k x
knows_stays c d (places.Releases h step) k x = home_stays c d h k x
knows_stays c d (places.Tours r step) k x = home_stays c d r.hold k x
knows_stays c d (places.Visits r s step) k x = home_stays c d r.hold k x
knows_stays c d (places.Surveys h why s left seen) k x = survey_stays c d h k why x
knows_stays c d (places.Plans h target) k x = home_or_stays c d h k target x
knows_stays c d (places.Moves m step) k x = move_stays c d m.hold k m.target step x
knows_stays c d (places.Removes h seen step) k x = removal_stays c d h step k x
knows_stays c d (places.Sweeps h spot left step) k x = tt
knows_stays c d (places.Asks cause h seen) k x = k.listed x
knows_stays c d (places.Mends m step) k x = k.at m.named x

-- ---- kinds of steps

-- Where the entry's site is the same, and what is out of service or lost stays so, everything is left. So it is of all steps but four.
pub record IsMild (c d : NodeCell) (volume stamp : ℕ) : Type 0 where
  pub site : listed_site d volume ≡ listed_site c volume
  pub listed : is_some (get volume (entries_in c)) ≡ true → is_some (get volume (entries_in d)) ≡ true
  pub over : IsOver c volume stamp → IsOver d volume stamp
  pub lost : HasLost c volume stamp → HasLost d volume stamp
  pub rests : (server : ℕ) → serves_at c volume server ≡ false → IsShutAt d volume stamp server

module _ (c d : NodeCell) (volume stamp : ℕ) (m : IsMild c d volume stamp) where
  mild_at : (server : ℕ) → IsAt c volume stamp server → IsAt d volume stamp server
  mild_at server (inl named) = inl (m.site ∙ named)
  mild_at server (inr over) = inr (m.over over)

  mild_left : (server : ℕ) → HasLost c volume stamp ⊎ IsAt c volume stamp server → HasLost d volume stamp ⊎ IsAt d volume stamp server
  mild_left server (inl lost) = inl (m.lost lost)
  mild_left server (inr x) = inr (mild_at server x)

  pub mild_shut : (server : ℕ) → IsShutAt c volume stamp server → IsShutAt d volume stamp server
  mild_shut server (inl rests) = m.rests server rests
  mild_shut server (inr lost) = inr (m.lost lost)

  mild_moved : (target server : ℕ) → IsMovedOr c volume stamp target server → IsMovedOr d volume stamp target server
  mild_moved target server (inl named) = inl (m.site ∙ named)
  mild_moved target server (inr x) = inr (mild_at server x.0, mild_shut server x.1)

  mild_listed : IsListedOr c volume stamp → IsListedOr d volume stamp
  mild_listed (inl there) = inl (m.listed there)
  mild_listed (inr over) = inr (m.over over)

  pub mild_leaves : Leaves c d volume stamp
  mild_leaves = record { at = mild_at; left = mild_left; moved = mild_moved; listed = mild_listed }

-- Behind another's deciding write the act is over, and has lost the lock.
pub over_leaves : (c d : NodeCell) (volume stamp : ℕ) → IsOver d volume stamp → HasLost d volume stamp → Leaves c d volume stamp
over_leaves c d volume stamp over lost = record { at = λ server x. inr over; left = λ server x. inl lost; moved = λ target server x. inr (inr over, inr lost); listed = λ x. inr over }

-- ---- its own deciding write

-- A move's: the database names the new server.
pub record Decides (c d : NodeCell) (h : Hold) (target : ℕ) : Type 0 where
  pub named : listed_site d (family h) ≡ Some target

module _ (c d : NodeCell) (h : Hold) (target : ℕ) (m : Decides c d h target) where
  pub decided_move : (step : Moving) → KnowsInMove c h target step → KnowsInMove d h target step
  decided_move (moving.Fills counter new old) x = inl m.named
  decided_move (moving.Clears new old) x = inl m.named
  decided_move (moving.Decides new old) x = inl m.named
  decided_move (moving.Starts new old) x = inl m.named
  decided_move (moving.Started new old) x = inl m.named
  decided_move (moving.Points old) x = inl m.named
  decided_move (moving.Deletes old) x = inl m.named
  decided_move step x = inl m.named

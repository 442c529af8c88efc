-- Each call of the location database leaves what acts know, and volumes are in service only where the database says.
use Rattle.spec_rows.specs.ClientRow.{number_or_none}
use Rattle.std.proofs.Common.{◌≡◌, ◌≤◌, ◌<◌, ◌⊎◌, inl, inr, ℕ, Bool, true, false, List, [], Option, Some, None, is_some, refl, sym, ap, subst, arith, ◌∙◌, nat_eq, nat_lt}
use Rattle.std.proofs.lemmas.Bool.Decides.{nat_tests}
use Rattle.std.specs.Prelude.{⊤}
use Rattle.afs_num.specs.declared.location_calls.LocEntry.{LocEntry}
use Rattle.spec_ideal.specs.Tables.{get, set, unset, Table}
use Rattle.spec_records.specs.Entries.{site_of}
use Rattle.spec_records.specs.LocRecords.{Listed, Lock}
use Rattle.spec_rows.specs.LocRow.{holds}
use Rattle.spec_runs.specs.NodeRuns.{has_host, NodeCell}
use Rattle.law_places.specs.Accepting.{serves_at}
use Rattle.law_stamps.specs.Stamps.{next_stamp, stored_stamp}
use Rattle.law_stamps.specs.Told.{entries_in, stamp_by, stamp_in}
use Rattle.law_stored_stamps.specs.Surveys.{IsStored, IsSurveyed}
use Rattle.spec_adminrows.specs.Asks.{family, home}
use Rattle.spec_adminrows.specs.Entries.{entry_moved}
use Rattle.spec_adminrows.specs.declared.places.Creating.{Creating}
use Rattle.spec_adminrows.specs.declared.places.Creating.TheVariants as creating
use Rattle.spec_adminrows.specs.declared.places.Fresh.{Fresh}
use Rattle.spec_adminrows.specs.declared.places.Hold.{Hold}
use Rattle.spec_adminrows.specs.declared.places.Moving.{Moving}
use Rattle.spec_adminrows.specs.declared.places.Moving.TheVariants as moving
use Rattle.spec_adminrows.specs.declared.places.Place.{Place}
use Rattle.spec_adminrows.specs.declared.places.Place.TheVariants as places
use Rattle.spec_adminrows.specs.declared.places.Purpose.TheVariants as purposes
use Rattle.spec_adminrows.specs.declared.places.Removing.TheVariants as removing
use Rattle.law_stamp_owners.proofs.PlaceStamps.{stamp_at_place}
use Rattle.law_courses.specs.Courses.{Course}
use Rattle.law_courses.specs.Tasks.{moves, removes, task_at, Task}
use Rattle.law_families.proofs.Sites.{moved_site}
use Rattle.law_locks.specs.Grips.{grip_at, grip_of, Grip, GripIs}
use Rattle.law_locks.specs.Lines.{AreInLine, IsDrawnFor}
use Rattle.law_one_server.specs.Knows.{lock_at, listed_site, site_by, AreClosed, HasLost, IsAt, IsHome, IsMovedOr, IsOver, IsShutAt, Knows, KnowsInMove}
use Rattle.law_one_server.proofs.ActsWrite.{IsMoving, IsRemoving, IsWork}
use Rattle.law_one_server.proofs.DatabaseDecides.{fresh_lost, held_is, held_of, not_later, same_or, set_here, set_other, unset_here, unset_other}
use Rattle.law_one_server.proofs.KnownKept.{decided_move, knows_stays, Leaves, StaysShut}
use Rattle.law_one_server.proofs.EntriesName.{IsUsable, UsableAt}
use Rattle.law_one_server.proofs.DatabaseWrites.{closed_by, ended, leaves_of, new_entry_leaves, same_entry, same_site, LeavesAll}

-- ---- what is there before the step, and what the step leaves

-- two questions under one stamp have one task, or one of them has none
abbrev pub Agree : Option Task → Option Task → Type 0
Agree a b = (a ≡ b) ⊎ ((a ≡ None) ⊎ (b ≡ None))

pub record Grounds (course : Course) (c : NodeCell) : Type 0 where
  pub entry_of : ℕ → ℕ
  pub line : AreInLine entry_of (next_stamp c) (entries_in c)
  pub drawn : (n e k : ℕ) → GripIs (IsDrawnFor entry_of (next_stamp c)) (grip_at (course n e k).place)
  pub knows : (n e k : ℕ) → Knows c (course n e k).place
  pub closed : AreClosed c
  pub usable : (n e k : ℕ) → UsableAt (course n e k).place
  pub surveyed : (n e k : ℕ) → IsSurveyed c (course n e k).place
  pub one : (n e k i j l : ℕ) → stamp_at_place (course n e k).place ≡ stamp_at_place (course i j l).place → (stamp_at_place (course n e k).place ≡ 0 → ⊥) → Agree (task_at (course n e k).place) (task_at (course i j l).place)
  pub not_over : (volume stamp : ℕ) → lock_at c volume ≡ Some stamp → IsOver c volume stamp → ⊥

-- the servers are as they were
pub record IsBeside (c d : NodeCell) : Type 0 where
  pub serves : (volume server : ℕ) → serves_at d volume server ≡ serves_at c volume server
  pub over : (volume stamp : ℕ) → IsOver c volume stamp → IsOver d volume stamp

pub record Stands (course : Course) (d : NodeCell) : Type 0 where
  pub knows : (n e k : ℕ) → Knows d (course n e k).place
  pub closed : AreClosed d

-- ---- stamps at places

grip_stamp_in : (f : Fresh) (step : Creating) → GripIs (λ (v b : ℕ). stamp_at_place (places.Creates f step) ≡ b) (grip_at (places.Creates f step))
grip_stamp_in f (creating.Begins v stamp) = refl
grip_stamp_in f (creating.Opens v stamp t) = refl
grip_stamp_in f (creating.Opened v stamp t) = refl
grip_stamp_in f (creating.Frees v stamp) = refl
grip_stamp_in f step = tt

pub grip_stamp : (p : Place) → GripIs (λ (v b : ℕ). stamp_at_place p ≡ b) (grip_at p)
grip_stamp (places.Seeks cause) = tt
grip_stamp (places.Locks cause v) = tt
grip_stamp (places.Frees h code first) = refl
grip_stamp (places.Creates f step) = grip_stamp_in f step
grip_stamp (places.Adds h server) = refl
grip_stamp (places.Backs h step) = refl
grip_stamp (places.Dumps s step) = refl
grip_stamp (places.Releases h step) = refl
grip_stamp (places.Tours r step) = refl
grip_stamp (places.Visits r s step) = refl
grip_stamp (places.Surveys h why s left seen) = refl
grip_stamp (places.Plans h target) = refl
grip_stamp (places.Moves m step) = refl
grip_stamp (places.Removes h seen step) = refl
grip_stamp (places.Sweeps h spot left step) = refl
grip_stamp (places.Asks cause h seen) = refl
grip_stamp (places.Mends m step) = refl

map_grip : (F G : ℕ → ℕ → Type 0) (o : Option Grip) → ((v b : ℕ) → F v b → G v b) → GripIs F o → GripIs G o
map_grip F G None f h = tt
map_grip F G (Some g) f h = f g.volume g.stamp h

-- ---- the own places of a removal, and of a move, behind the deciding write

either_task : (t : Task) (o : Option Task) → Agree (Some t) o → (o ≡ Some t) ⊎ (o ≡ None)
either_task t o (inl same) = inl (sym same)
either_task t o (inr (inl none)) = absurd cc
either_task t o (inr (inr none)) = inr none

module _ (d : NodeCell) where
  abbrev Lost : ℕ → ℕ → Type 0
  Lost v b = HasLost d v b

  removed_creation : (f : Fresh) (step : Creating) → (task_at (places.Creates f step) ≡ Some removes) ⊎ (task_at (places.Creates f step) ≡ None) → Knows d (places.Creates f step)
  removed_creation f (creating.Begins v stamp) (inl is) = absurd cc
  removed_creation f (creating.Begins v stamp) (inr is) = absurd cc
  removed_creation f (creating.Opens v stamp t) (inl is) = absurd cc
  removed_creation f (creating.Opens v stamp t) (inr is) = absurd cc
  removed_creation f (creating.Opened v stamp t) (inl is) = absurd cc
  removed_creation f (creating.Opened v stamp t) (inr is) = absurd cc
  removed_creation f (creating.Frees v stamp) (inl is) = absurd cc
  removed_creation f (creating.Frees v stamp) (inr is) = absurd cc
  removed_creation f creating.Numbers is = tt
  removed_creation f (creating.Makes v) is = tt
  removed_creation f (creating.Fills v t offset) is = tt
  removed_creation f (creating.Closes v t) is = tt
  removed_creation f (creating.Ends v t) is = tt
  removed_creation f (creating.Enters v) is = tt
  removed_creation f (creating.Checks v code) is = tt
  removed_creation f (creating.Scraps v code) is = tt
  removed_creation f (creating.Scrapped v code t) is = tt

  move_named : (h : Hold) (target : ℕ) (step : Moving) → listed_site d (family h) ≡ Some target → KnowsInMove d h target step
  move_named h target moving.Begins named = inl named
  move_named h target (moving.Clones t) named = inl named
  move_named h target (moving.Cloned counter t) named = inl named
  move_named h target (moving.Makes counter) named = inl named
  move_named h target (moving.Opens counter new) named = inl named
  move_named h target (moving.Sends counter new t) named = inl named
  move_named h target (moving.Sent counter new t) named = inl named
  move_named h target (moving.Holds counter new) named = inl named
  move_named h target (moving.Fences counter new old) named = inl named
  move_named h target (moving.Fills counter new old) named = inl named
  move_named h target (moving.Clears new old) named = inl named
  move_named h target (moving.Decides new old) named = inl named
  move_named h target (moving.Starts new old) named = inl named
  move_named h target (moving.Started new old) named = inl named
  move_named h target (moving.Points old) named = inl named
  move_named h target (moving.Deletes old) named = inl named
  move_named h target moving.Drops named = inl named
  move_named h target (moving.Dropped t) named = inl named
  move_named h target moving.DropsBackup named = inl named
  move_named h target (moving.DroppedBackup t) named = inl named

  own_removed : (p : Place) → (task_at p ≡ Some removes) ⊎ (task_at p ≡ None) → GripIs Lost (grip_at p) → Knows d p
  own_removed (places.Seeks cause) is lost = tt
  own_removed (places.Locks cause v) is lost = tt
  own_removed (places.Frees h code first) is lost = tt
  own_removed (places.Creates f step) is lost = removed_creation f step is
  own_removed (places.Surveys h purposes.Removes s left seen) is lost = inl lost
  own_removed (places.Removes h seen (removing.Decides t)) is lost = (inl lost, inr lost)
  own_removed (places.Removes h seen removing.Begins) is lost = inl lost
  own_removed (places.Removes h seen (removing.Fences t)) is lost = inl lost
  own_removed (places.Removes h seen (removing.Deletes t)) is lost = inl lost
  own_removed (places.Sweeps h spot left step) is lost = tt
  own_removed (places.Adds h server) (inl is) lost = absurd cc
  own_removed (places.Adds h server) (inr is) lost = absurd cc
  own_removed (places.Backs h step) (inl is) lost = absurd cc
  own_removed (places.Backs h step) (inr is) lost = absurd cc
  own_removed (places.Dumps s step) (inl is) lost = absurd cc
  own_removed (places.Dumps s step) (inr is) lost = absurd cc
  own_removed (places.Releases h step) (inl is) lost = absurd cc
  own_removed (places.Releases h step) (inr is) lost = absurd cc
  own_removed (places.Tours r step) (inl is) lost = absurd cc
  own_removed (places.Tours r step) (inr is) lost = absurd cc
  own_removed (places.Visits r s step) (inl is) lost = absurd cc
  own_removed (places.Visits r s step) (inr is) lost = absurd cc
  own_removed (places.Surveys h (purposes.Moves target) s left seen) (inl is) lost = absurd cc
  own_removed (places.Surveys h (purposes.Moves target) s left seen) (inr is) lost = absurd cc
  own_removed (places.Surveys h (purposes.Mends cause) s left seen) (inl is) lost = absurd cc
  own_removed (places.Surveys h (purposes.Mends cause) s left seen) (inr is) lost = absurd cc
  own_removed (places.Plans h target) (inl is) lost = absurd cc
  own_removed (places.Plans h target) (inr is) lost = absurd cc
  own_removed (places.Moves m step) (inl is) lost = absurd cc
  own_removed (places.Moves m step) (inr is) lost = absurd cc
  own_removed (places.Asks cause h seen) (inl is) lost = absurd cc
  own_removed (places.Asks cause h seen) (inr is) lost = absurd cc
  own_removed (places.Mends m step) (inl is) lost = absurd cc
  own_removed (places.Mends m step) (inr is) lost = absurd cc

  -- the database names the new server of the move now
  module _ (target : ℕ) where
    abbrev Named : ℕ → ℕ → Type 0
    Named v b = listed_site d v ≡ Some target

    moves_same : (a b : ℕ) → Some (moves a) ≡ Some (moves b) → a ≡ b
    moves_same a b e = cc

    moved_creation : (f : Fresh) (step : Creating) → (task_at (places.Creates f step) ≡ Some (moves target)) ⊎ (task_at (places.Creates f step) ≡ None) → Knows d (places.Creates f step)
    moved_creation f (creating.Begins v stamp) (inl is) = absurd cc
    moved_creation f (creating.Begins v stamp) (inr is) = absurd cc
    moved_creation f (creating.Opens v stamp t) (inl is) = absurd cc
    moved_creation f (creating.Opens v stamp t) (inr is) = absurd cc
    moved_creation f (creating.Opened v stamp t) (inl is) = absurd cc
    moved_creation f (creating.Opened v stamp t) (inr is) = absurd cc
    moved_creation f (creating.Frees v stamp) (inl is) = absurd cc
    moved_creation f (creating.Frees v stamp) (inr is) = absurd cc
    moved_creation f creating.Numbers is = tt
    moved_creation f (creating.Makes v) is = tt
    moved_creation f (creating.Fills v t offset) is = tt
    moved_creation f (creating.Closes v t) is = tt
    moved_creation f (creating.Ends v t) is = tt
    moved_creation f (creating.Enters v) is = tt
    moved_creation f (creating.Checks v code) is = tt
    moved_creation f (creating.Scraps v code) is = tt
    moved_creation f (creating.Scrapped v code t) is = tt

    own_moved : (p : Place) → (task_at p ≡ Some (moves target)) ⊎ (task_at p ≡ None) → GripIs Named (grip_at p) → Knows d p
    own_moved (places.Seeks cause) is named = tt
    own_moved (places.Locks cause v) is named = tt
    own_moved (places.Frees h code first) is named = tt
    own_moved (places.Creates f step) is named = moved_creation f step is
    own_moved (places.Surveys h (purposes.Moves other) s left seen) (inl is) named = inl (named ∙ ap Some (sym (moves_same other target is)))
    own_moved (places.Surveys h (purposes.Moves other) s left seen) (inr is) named = absurd cc
    own_moved (places.Plans h other) (inl is) named = inl (named ∙ ap Some (sym (moves_same other target is)))
    own_moved (places.Plans h other) (inr is) named = absurd cc
    own_moved (places.Moves m step) (inl is) named = move_named m.hold m.target step (named ∙ ap Some (sym (moves_same m.target target is)))
    own_moved (places.Moves m step) (inr is) named = absurd cc
    own_moved (places.Sweeps h spot left step) is named = tt
    own_moved (places.Adds h server) (inl is) named = absurd cc
    own_moved (places.Adds h server) (inr is) named = absurd cc
    own_moved (places.Backs h step) (inl is) named = absurd cc
    own_moved (places.Backs h step) (inr is) named = absurd cc
    own_moved (places.Dumps s step) (inl is) named = absurd cc
    own_moved (places.Dumps s step) (inr is) named = absurd cc
    own_moved (places.Releases h step) (inl is) named = absurd cc
    own_moved (places.Releases h step) (inr is) named = absurd cc
    own_moved (places.Tours r step) (inl is) named = absurd cc
    own_moved (places.Tours r step) (inr is) named = absurd cc
    own_moved (places.Visits r s step) (inl is) named = absurd cc
    own_moved (places.Visits r s step) (inr is) named = absurd cc
    own_moved (places.Surveys h purposes.Removes s left seen) (inl is) named = absurd cc
    own_moved (places.Surveys h purposes.Removes s left seen) (inr is) named = absurd cc
    own_moved (places.Surveys h (purposes.Mends cause) s left seen) (inl is) named = absurd cc
    own_moved (places.Surveys h (purposes.Mends cause) s left seen) (inr is) named = absurd cc
    own_moved (places.Removes h seen step) (inl is) named = absurd cc
    own_moved (places.Removes h seen step) (inr is) named = absurd cc
    own_moved (places.Asks cause h seen) (inl is) named = absurd cc
    own_moved (places.Asks cause h seen) (inr is) named = absurd cc
    own_moved (places.Mends m step) (inl is) named = absurd cc
    own_moved (places.Mends m step) (inr is) named = absurd cc

some_is : (i j : ℕ) → Some i ≡ Some j → i ≡ j
some_is i j e = cc

below : (stamp own : ℕ) → stamp ≤ own → (stamp ≡ own → ⊥) → stamp < own
below stamp own le other = by (nat_lt stamp own) refl
  where
    by : (less : Bool) → nat_lt stamp own ≡ less → stamp < own
    by true is = grind (arith, nat_tests, is)
    by false is = absurd (other (grind (arith, nat_tests, is, le)))

pub named_by : (o : Option ℕ) → is_some o ≡ true → o ≡ Some (number_or_none o)
named_by None is = absurd cc
named_by (Some n) is = refl

-- ---- the questions that were asked, one by one

module _ (course : Course) (c d : NodeCell) (g : Grounds course c) (b : IsBeside c d) where
  abbrev place : ℕ → ℕ → ℕ → Place
  place n e k = (course n e k).place

  abbrev Drawn : ℕ → ℕ → Type 0
  Drawn = IsDrawnFor g.entry_of (next_stamp c)

  abbrev All : ℕ → ℕ → Type 0
  All v stamp = LeavesAll c d v stamp

  leaves_place : (n e k : ℕ) → GripIs All (grip_at (place n e k)) → Knows d (place n e k)
  leaves_place n e k h = knows_stays c d (place n e k) (leaves_of c d (place n e k) h) (g.knows n e k)

  -- it leaves all of each volume and stamp
  all_leave : ((v stamp : ℕ) → Drawn v stamp → All v stamp) → (n e k : ℕ) → Knows d (place n e k)
  all_leave f n e k = leaves_place n e k (map_grip Drawn All (grip_at (place n e k)) f (g.drawn n e k))

  -- of all stamps but this one
  module _ (own : ℕ) (f : (v stamp : ℕ) → Drawn v stamp → (stamp ≡ own → ⊥) → All v stamp) (own_knows : (n e k v : ℕ) → Drawn v own → stamp_at_place (place n e k) ≡ own → GripIs (λ (w stamp : ℕ). (w ≡ v) × (stamp ≡ own)) (grip_at (place n e k)) → Knows d (place n e k)) where
    other_by : (n e k : ℕ) (o : Option Grip) → grip_at (place n e k) ≡ o → GripIs Drawn o → GripIs (λ (v stamp : ℕ). stamp_at_place (place n e k) ≡ stamp) o → Knows d (place n e k)
    other_by n e k None is drawn at = leaves_place n e k (subst (GripIs All) (sym is) tt)
    other_by n e k (Some x) is drawn at = by (same_or x.stamp own)
      where
        by : (x.stamp ≡ own) ⊎ (x.stamp ≡ own → ⊥) → Knows d (place n e k)
        by (inl same) = own_knows n e k x.volume (subst (Drawn x.volume) same drawn) (at ∙ same) (subst (GripIs (λ (w stamp : ℕ). (w ≡ x.volume) × (stamp ≡ own))) (sym is) (refl, same))
        by (inr other) = leaves_place n e k (subst (GripIs All) (sym is) (f x.volume x.stamp drawn other))

    all_others : (n e k : ℕ) → Knows d (place n e k)
    all_others n e k = other_by n e k (grip_at (place n e k)) refl (g.drawn n e k) (grip_stamp (place n e k))

  -- ---- nothing changes

  pub nothing : entries_in d ≡ entries_in c → Stands course d
  nothing same = record {
    knows = all_leave (λ v stamp drawn. same_entry c d b.serves b.over v stamp (ap (get v) same));
    closed = closed_by c d b.serves b.over 0 (λ v other. ap (get v) same) (λ v. same_or v 0) g.closed (λ server serves. ap (λ (t : Table Listed). site_by (get 0 t)) same ∙ g.closed 0 server serves);
  }

  -- ---- an entry is locked, or freed: of what was drawn before no stamp has it then

  pub relocked : (l : Listed) (lock : Option Lock) → get l.entry.read_write (entries_in c) ≡ Some l → entries_in d ≡ set l.entry.read_write (record { entry = l.entry; lock = lock }) (entries_in c) → ((stamp : ℕ) → stamp < next_stamp c → stamp_by lock ≡ Some stamp → ⊥) → Stands course d
  relocked l lock at now free = record { knows = all_leave leaves; closed = closed_by c d b.serves b.over l.entry.read_write others (λ v. same_or v l.entry.read_write) g.closed own }
    where
      others : (v : ℕ) → (v ≡ l.entry.read_write → ⊥) → get v (entries_in d) ≡ get v (entries_in c)
      others v other = ap (get v) now ∙ set_other l.entry.read_write v (record { entry = l.entry; lock = lock }) (entries_in c) other

      here : (v : ℕ) → v ≡ l.entry.read_write → get v (entries_in d) ≡ Some (record { entry = l.entry; lock = lock })
      here v is = ap (get v) now ∙ set_here l.entry.read_write v (record { entry = l.entry; lock = lock }) (entries_in c) is

      leaves : (v stamp : ℕ) → Drawn v stamp → All v stamp
      leaves v stamp drawn = by (same_or v l.entry.read_write)
        where
          by : (v ≡ l.entry.read_write) ⊎ (v ≡ l.entry.read_write → ⊥) → All v stamp
          by (inl is) = same_site c d b.serves b.over v stamp l (record { entry = l.entry; lock = lock }) (ap (λ (w : ℕ). get w (entries_in c)) is ∙ at) (here v is) refl (λ lost has. free stamp drawn.0.1 (sym (ap stamp_in (here v is)) ∙ has))
          by (inr other) = same_entry c d b.serves b.over v stamp (others v other)

      own : (server : ℕ) → serves_at c l.entry.read_write server ≡ true → listed_site d l.entry.read_write ≡ Some server
      own server serves = ap site_by (here l.entry.read_write refl) ∙ (sym (ap site_by at) ∙ g.closed l.entry.read_write server serves)

  -- ---- an entry is made

  pub made : (e : LocEntry) (lock : Option Lock) → get e.read_write (entries_in c) ≡ None → entries_in d ≡ set e.read_write (record { entry = e; lock = lock }) (entries_in c) → ((stamp : ℕ) → stamp < next_stamp c → stamp_by lock ≡ Some stamp → ⊥) → Stands course d
  made e lock at now free = record { knows = all_leave leaves; closed = closed_by c d b.serves b.over e.read_write others (λ v. same_or v e.read_write) g.closed own }
    where
      others : (v : ℕ) → (v ≡ e.read_write → ⊥) → get v (entries_in d) ≡ get v (entries_in c)
      others v other = ap (get v) now ∙ set_other e.read_write v (record { entry = e; lock = lock }) (entries_in c) other

      here : (v : ℕ) → v ≡ e.read_write → get v (entries_in d) ≡ Some (record { entry = e; lock = lock })
      here v is = ap (get v) now ∙ set_here e.read_write v (record { entry = e; lock = lock }) (entries_in c) is

      leaves : (v stamp : ℕ) → Drawn v stamp → All v stamp
      leaves v stamp drawn = by (same_or v e.read_write)
        where
          by : (v ≡ e.read_write) ⊎ (v ≡ e.read_write → ⊥) → All v stamp
          by (inl is) = new_entry_leaves c d b.serves b.over v stamp (record { entry = e; lock = lock }) (ap (λ (w : ℕ). get w (entries_in c)) is ∙ at) (here v is) (λ has. free stamp drawn.0.1 (sym (ap stamp_in (here v is)) ∙ has))
          by (inr other) = same_entry c d b.serves b.over v stamp (others v other)

      own : (server : ℕ) → serves_at c e.read_write server ≡ true → listed_site d e.read_write ≡ Some server
      own server serves = let none : None ≡ Some server = sym (ap site_by at) ∙ g.closed e.read_write server serves in absurd cc

  -- ---- an entry is written or deleted, by who holds its lock

  module _ (n0 e0 k0 : ℕ) (hold : Hold) (grip : grip_at (place n0 e0 k0) ≡ grip_of hold) (l : Listed) (at : get l.entry.read_write (entries_in c) ≡ Some l) (held : holds hold.stamp l.lock ≡ true) where
    abbrev entry_of : ℕ → ℕ
    entry_of = g.entry_of

    drawn_here : Drawn (family hold) hold.stamp
    drawn_here = subst (GripIs Drawn) grip (g.drawn n0 e0 k0)

    key_is : l.entry.read_write ≡ family hold
    key_is = sym (held_of entry_of (next_stamp c) l.entry.read_write hold.stamp l.lock (g.line.locks l.entry.read_write l at) held) ∙ drawn_here.1

    -- what is under the family's number
    entry_is : (v : ℕ) → v ≡ family hold → get v (entries_in c) ≡ Some l
    entry_is v is = ap (λ (w : ℕ). get w (entries_in c)) (is ∙ sym key_is) ∙ at

    lock_is : (v : ℕ) → v ≡ family hold → lock_at c v ≡ Some hold.stamp
    lock_is v is = ap stamp_in (entry_is v is) ∙ held_is hold.stamp l.lock held

    some_stamp : hold.stamp ≡ 0 → ⊥
    some_stamp none = let above : 0 < hold.stamp = drawn_here.0.0 in omega (arith, none, above)

    -- the lock isn't lost, and the act isn't over
    at_home : IsHome c hold → listed_site c (family hold) ≡ Some (home hold)
    at_home (inl named) = named
    at_home (inr over) = absurd (g.not_over (family hold) hold.stamp (lock_is (family hold) refl) over)

    rests_at : (server : ℕ) → IsShutAt c (family hold) hold.stamp server → serves_at c (family hold) server ≡ true → ⊥
    rests_at server (inl rests) serves = let no : true ≡ false = sym serves ∙ rests in absurd cc
    rests_at server (inr lost) serves = absurd (lost (lock_is (family hold) refl))

    -- stamps of the family are no later
    earlier : (v stamp : ℕ) → v ≡ family hold → Drawn v stamp → (stamp ≡ hold.stamp → ⊥) → stamp < hold.stamp
    earlier v stamp is drawn other =
        let le : stamp ≤ hold.stamp = not_later entry_of (next_stamp c) l.entry.read_write hold.stamp stamp l.lock (g.line.locks l.entry.read_write l at) held (subst (λ (w : ℕ). Drawn w stamp) (is ∙ sym key_is) drawn) in
        below stamp hold.stamp le other

    -- so where all servers have stored this one, they are over
    past : IsStored c (family hold) hold.stamp [] → (v stamp : ℕ) → v ≡ family hold → Drawn v stamp → (stamp ≡ hold.stamp → ⊥) → IsOver c v stamp
    past stored v stamp is drawn other i there =
        let less : stamp < hold.stamp = earlier v stamp is drawn other in
        let le : hold.stamp ≤ stored_stamp c i v = subst (λ (w : ℕ). hold.stamp ≤ stored_stamp c i w) (sym is) (stored i there refl) in
        omega (arith, less, le)

    -- another question under the stamp is of the same task
    task_is : (t : Task) → task_at (place n0 e0 k0) ≡ Some t → (n e k : ℕ) → stamp_at_place (place n0 e0 k0) ≡ hold.stamp → stamp_at_place (place n e k) ≡ hold.stamp → (task_at (place n e k) ≡ Some t) ⊎ (task_at (place n e k) ≡ None)
    task_is t is n e k own same = either_task t (task_at (place n e k)) (subst (λ (o : Option Task). Agree o (task_at (place n e k))) is (g.one n0 e0 k0 n e k (own ∙ sym same) (λ none. some_stamp (sym own ∙ none))))

    own_volume : (v : ℕ) → Drawn v hold.stamp → v ≡ family hold
    own_volume v drawn = sym drawn.1 ∙ drawn_here.1

    -- ---- a removal

    module _ (now : entries_in d ≡ unset l.entry.read_write (entries_in c)) where
      gone_others : (v : ℕ) → (v ≡ family hold → ⊥) → get v (entries_in d) ≡ get v (entries_in c)
      gone_others v other = ap (get v) now ∙ unset_other l.entry.read_write v (entries_in c) (λ is. other (is ∙ key_is))

      gone_here : (v : ℕ) → v ≡ family hold → get v (entries_in d) ≡ None
      gone_here v is = ap (get v) now ∙ unset_here l.entry.read_write v (entries_in c) (is ∙ sym key_is)

      gone_lost : (v stamp : ℕ) → v ≡ family hold → HasLost d v stamp
      gone_lost v stamp is has = let none : None ≡ Some stamp = sym (ap stamp_in (gone_here v is)) ∙ has in absurd cc

      gone_leaves : IsStored c (family hold) hold.stamp [] → (v stamp : ℕ) → Drawn v stamp → (stamp ≡ hold.stamp → ⊥) → All v stamp
      gone_leaves stored v stamp drawn other = by (same_or v (family hold))
        where
          by : (v ≡ family hold) ⊎ (v ≡ family hold → ⊥) → All v stamp
          by (inl is) = ended c d b.serves b.over v stamp (past stored v stamp is drawn other) (gone_lost v stamp is)
          by (inr apart) = same_entry c d b.serves b.over v stamp (gone_others v apart)

      pub removed : (stored : IsStored c (family hold) hold.stamp []) → task_at (place n0 e0 k0) ≡ Some removes → stamp_at_place (place n0 e0 k0) ≡ hold.stamp → (HasLost c (family hold) hold.stamp ⊎ IsHome c hold) × IsShutAt c (family hold) hold.stamp (home hold) → Stands course d
      removed stored task stamp k = record {
        knows = all_others hold.stamp (gone_leaves stored) (λ n e j v drawn own its. own_removed d (place n e j) (task_is removes task n e j stamp own)
            (map_grip (λ (w s : ℕ). (w ≡ v) × (s ≡ hold.stamp)) (HasLost d) (grip_at (place n e j)) (λ w s both. gone_lost w s (both.0 ∙ own_volume v drawn)) its));
        closed = closed_by c d b.serves b.over (family hold) gone_others (λ v. same_or v (family hold)) g.closed (λ server serves. absurd (no_server k server serves));
      }
        where
          home_of : HasLost c (family hold) hold.stamp ⊎ IsHome c hold → listed_site c (family hold) ≡ Some (home hold)
          home_of (inl lost) = absurd (lost (lock_is (family hold) refl))
          home_of (inr h) = at_home h

          no_server : (HasLost c (family hold) hold.stamp ⊎ IsHome c hold) × IsShutAt c (family hold) hold.stamp (home hold) → (server : ℕ) → serves_at c (family hold) server ≡ true → ⊥
          no_server x server serves =
              let same : server ≡ home hold = some_is server (home hold) (sym (g.closed (family hold) server serves) ∙ home_of x.0) in
              rests_at (home hold) x.1 (subst (λ (s : ℕ). serves_at c (family hold) s ≡ true) same serves)

    -- ---- an entry is written

    module _ (e : LocEntry) (own_key : e.read_write ≡ family hold) (now : entries_in d ≡ set e.read_write (record { entry = e; lock = l.lock }) (entries_in c)) (usable : IsUsable hold.entry) where
      abbrev new : Listed
      new = record { entry = e; lock = l.lock }

      set_others : (v : ℕ) → (v ≡ family hold → ⊥) → get v (entries_in d) ≡ get v (entries_in c)
      set_others v other = ap (get v) now ∙ set_other e.read_write v new (entries_in c) (λ is. other (is ∙ own_key))

      set_this : (v : ℕ) → v ≡ family hold → get v (entries_in d) ≡ Some new
      set_this v is = ap (get v) now ∙ set_here e.read_write v new (entries_in c) (is ∙ sym own_key)

      entry_home : site_of hold.entry ≡ Some (home hold)
      entry_home = named_by (site_of hold.entry) usable

      -- with the same server
      pub worked : site_of e ≡ site_of hold.entry → IsHome c hold → Stands course d
      worked same h = record {
        knows = all_leave leaves;
        closed = closed_by c d b.serves b.over (family hold) set_others (λ v. same_or v (family hold)) g.closed (λ server serves. ap site_by (set_this (family hold) refl) ∙ (site_stays ∙ (sym (ap site_by (entry_is (family hold) refl)) ∙ g.closed (family hold) server serves)));
      }
        where
          site_stays : site_of e ≡ site_of l.entry
          site_stays = same ∙ (entry_home ∙ (sym (at_home h) ∙ ap site_by (entry_is (family hold) refl)))

          leaves : (v stamp : ℕ) → Drawn v stamp → All v stamp
          leaves v stamp drawn = by (same_or v (family hold))
            where
              by : (v ≡ family hold) ⊎ (v ≡ family hold → ⊥) → All v stamp
              by (inl is) = same_site c d b.serves b.over v stamp l new (entry_is v is) (set_this v is) site_stays (λ lost has. lost (ap stamp_in (entry_is v is) ∙ (sym (ap stamp_in (set_this v is)) ∙ has)))
              by (inr apart) = same_entry c d b.serves b.over v stamp (set_others v apart)

      -- with the new one of a move
      module _ (target : ℕ) (is_moved : e ≡ entry_moved target hold.entry) where
        named_at : (v : ℕ) → v ≡ family hold → listed_site d v ≡ Some target
        named_at v is = ap site_by (set_this v is) ∙ (ap site_of is_moved ∙ moved_site target (home hold) hold.entry entry_home)

        moved_lost : (v stamp : ℕ) → v ≡ family hold → (stamp ≡ hold.stamp → ⊥) → HasLost d v stamp
        moved_lost v stamp is other has = other (some_is stamp hold.stamp (sym has ∙ (ap stamp_in (set_this v is) ∙ held_is hold.stamp l.lock held)))

        moved_leaves : IsStored c (family hold) hold.stamp [] → (v stamp : ℕ) → Drawn v stamp → (stamp ≡ hold.stamp → ⊥) → All v stamp
        moved_leaves stored v stamp drawn other = by (same_or v (family hold))
          where
            by : (v ≡ family hold) ⊎ (v ≡ family hold → ⊥) → All v stamp
            by (inl is) = ended c d b.serves b.over v stamp (past stored v stamp is drawn other) (moved_lost v stamp is other)
            by (inr apart) = same_entry c d b.serves b.over v stamp (set_others v apart)

        -- whoever has it in service is the new server: the old one has it out of service
        only_target : IsMovedOr c (family hold) hold.stamp target (home hold) → (server : ℕ) → serves_at c (family hold) server ≡ true → target ≡ server
        only_target (inl named) server serves = some_is target server (sym named ∙ g.closed (family hold) server serves)
        only_target (inr x) server serves =
            let same : server ≡ home hold = some_is server (home hold) (sym (g.closed (family hold) server serves) ∙ at_home x.0) in
            absurd (rests_at (home hold) x.1 (subst (λ (s : ℕ). serves_at c (family hold) s ≡ true) same serves))

        pub moved : (stored : IsStored c (family hold) hold.stamp []) → task_at (place n0 e0 k0) ≡ Some (moves target) → stamp_at_place (place n0 e0 k0) ≡ hold.stamp → IsMovedOr c (family hold) hold.stamp target (home hold) → Stands course d
        moved stored task stamp k = record {
          knows = all_others hold.stamp (moved_leaves stored) (λ n j i v drawn own its. own_moved d target (place n j i) (task_is (moves target) task n j i stamp own)
              (map_grip (λ (w s : ℕ). (w ≡ v) × (s ≡ hold.stamp)) (λ (w s : ℕ). listed_site d w ≡ Some target) (grip_at (place n j i)) (λ w s both. named_at w (both.0 ∙ own_volume v drawn)) its));
          closed = closed_by c d b.serves b.over (family hold) set_others (λ v. same_or v (family hold)) g.closed (λ server serves. named_at (family hold) refl ∙ ap Some (only_target k server serves));
        }

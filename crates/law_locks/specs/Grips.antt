-- What an act has locked: the entry of which volume, under which stamp. The stamp was drawn for that very entry, and a lock is the last that was
-- drawn for its entry. So who has an earlier stamp of it has lost the lock for good.
use Rattle.std.specs.Prelude.{◌≡◌, ◌<◌, ⊤, ℕ, List, Option, Some, None}
use Rattle.afs_num.specs.declared.location_calls.LocReply.TheVariants as entries
use Rattle.afs_num.specs.declared.messages.Reply.{Reply}
use Rattle.afs_num.specs.declared.messages.Reply.TheVariants as tell
use Rattle.spec_history.specs.declared.scripts.Script.{Script}
use Rattle.spec_runs.specs.NodeRuns.{node_start, CellInput, NodeCell}
use Rattle.law_places.specs.Accepting.{cell_behind}
use Rattle.law_stamps.specs.Stamps.{next_stamp}
use Rattle.law_stamps.specs.Told.{entries_in}
use Rattle.spec_adminrows.specs.Asks.{family}
use Rattle.spec_adminrows.specs.declared.places.Creating.{Creating}
use Rattle.spec_adminrows.specs.declared.places.Creating.TheVariants as creating
use Rattle.spec_adminrows.specs.declared.places.Hold.{Hold}
use Rattle.spec_adminrows.specs.declared.places.Place.{Place}
use Rattle.spec_adminrows.specs.declared.places.Place.TheVariants as places
use Rattle.law_courses.specs.Courses.{course_in, Course, Question, WasAnswered}
use Rattle.law_locks.specs.Lines.{AreInLine, IsDrawnFor}

-- ---- what is locked at a place

-- the volume whose entry is locked, and the stamp
pub record Grip : Type 0 where
  pub volume : ℕ
  pub stamp : ℕ

abbrev pub grip_of : Hold → Option Grip
grip_of h = Some (record { volume = family h; stamp = h.stamp })

-- the entry of a new volume is locked as it is made
abbrev pub grip_in_creation : Creating → Option Grip
grip_in_creation (creating.Begins v stamp) = Some (record { volume = v; stamp = stamp })
grip_in_creation (creating.Opens v stamp t) = Some (record { volume = v; stamp = stamp })
grip_in_creation (creating.Opened v stamp t) = Some (record { volume = v; stamp = stamp })
grip_in_creation (creating.Frees v stamp) = Some (record { volume = v; stamp = stamp })
grip_in_creation step = None

abbrev pub grip_at : Place → Option Grip
grip_at (places.Seeks cause) = None
grip_at (places.Locks cause v) = None
grip_at (places.Frees h code first) = grip_of h
grip_at (places.Creates f step) = grip_in_creation step
grip_at (places.Adds h server) = grip_of h
grip_at (places.Backs h step) = grip_of h
grip_at (places.Dumps s step) = grip_of s.hold
grip_at (places.Releases h step) = grip_of h
grip_at (places.Tours r step) = grip_of r.hold
grip_at (places.Visits r s step) = grip_of r.hold
grip_at (places.Surveys h why s left seen) = grip_of h
grip_at (places.Plans h target) = grip_of h
grip_at (places.Moves m step) = grip_of m.hold
grip_at (places.Removes h seen step) = grip_of h
grip_at (places.Sweeps h spot left step) = grip_of h
grip_at (places.Asks cause h seen) = grip_of h
grip_at (places.Mends m step) = Some (record { volume = m.volume; stamp = m.stamp })

-- G is asked of the volume and the stamp
abbrev pub GripIs : (ℕ → ℕ → Type 0) → Option Grip → Type 0
GripIs G None = ⊤
GripIs G (Some g) = G g.volume g.stamp

-- ---- the law

-- a reply that gives a stamp: to the call that locks an entry, and to the one that makes one
abbrev pub GivesFor : (ℕ → ℕ → Type 0) → Place → Reply → Type 0
GivesFor G p (tell.Location (entries.SetLock stamp n)) = G n.read_write stamp
GivesFor G (places.Creates f (creating.Enters v)) (tell.Location (entries.CreateEntry stamp)) = G v stamp
GivesFor G p reply = ⊤

-- Each stamp that was drawn has an entry. Each lock is the last of its entry. At each question that was ever asked the stamp was drawn for
-- the volume's entry, and so is the stamp that an answer to it gives.
pub record AreGripped (course : Course) (c : NodeCell) : Type 0 where
  pub entry_of : ℕ → ℕ
  pub line : AreInLine entry_of (next_stamp c) (entries_in c)
  pub drawn : (n epoch number : ℕ) → GripIs (IsDrawnFor entry_of (next_stamp c)) (grip_at (course n epoch number).place)
  pub given : (n epoch number : ℕ) (q : Question) (w : WasAnswered c.sent n epoch number (course n epoch number) q) → GivesFor (IsDrawnFor entry_of (next_stamp c)) (course n epoch number).place w.reply

-- So it is in every run of every script.
abbrev pub GripsAreDrawn : Type 0
GripsAreDrawn = (s : Script) (inputs : List CellInput) → AreGripped (course_in s inputs) (cell_behind (node_start s) inputs)

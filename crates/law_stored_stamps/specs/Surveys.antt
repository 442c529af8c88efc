-- What an act brings to all servers before it changes a volume: its stamp. Moves, removals and recoveries ask each server for a list first,
-- and the call for that brings the stamp.
use Rattle.std.specs.Prelude.{◌≡◌, ◌≤◌, ⊤, ℕ, List, [], ◌∷◌, true, false, nat_eq, take, Some}
use Rattle.std.specs.List.{list_any}
use Rattle.afs_num.specs.declared.messages.Call.{Call}
use Rattle.afs_num.specs.declared.messages.Carried.TheVariants as carried
use Rattle.afs_num.specs.declared.messages.Message.{Message}
use Rattle.afs_num.specs.declared.types.Head.{Head}
use Rattle.afs_num.specs.declared.types.Node.TheVariants.{Admin}
use Rattle.spec_history.specs.declared.scripts.Script.{Script}
use Rattle.spec_adminrows.specs.Asks.{family}
use Rattle.spec_adminrows.specs.declared.places.Place.{Place}
use Rattle.spec_adminrows.specs.declared.places.Place.TheVariants as places
use Rattle.spec_adminrows.specs.declared.turns.Running.{Running}
use Rattle.spec_rows.specs.Runs.{message_at}
use Rattle.spec_runs.specs.NodeRuns.{has_host, CellInput, NodeCell}
use Rattle.law_stamps.specs.Stamps.{stored_stamp}
use Rattle.law_courses.specs.Courses.{ask_in, course_in, Question}
use Rattle.law_stored_stamps.specs.Past.{cell_after}

-- Every server of the cell that isn't among these has stored this stamp of the family, or a higher one.
abbrev pub IsStored : NodeCell → ℕ → ℕ → List ℕ → Type 0
IsStored c family stamp left = (i : ℕ) → has_host c i ≡ true → list_any (nat_eq i) left ≡ false → stamp ≤ stored_stamp c i family

-- While an act asks the servers one after the other, those that it has asked have its stamp. In all that comes behind it, each server has.
-- Of other places nothing is said: a backup, a release and a dump bring their stamp to single servers.
abbrev pub IsSurveyed : NodeCell → Place → Type 0
IsSurveyed c (places.Surveys h why s left seen) = IsStored c (family h) h.stamp (s ∷ left)
IsSurveyed c (places.Plans h target) = IsStored c (family h) h.stamp []
IsSurveyed c (places.Moves m step) = IsStored c (family m.hold) m.hold.stamp []
IsSurveyed c (places.Removes h seen step) = IsStored c (family h) h.stamp []
IsSurveyed c (places.Sweeps h spot left step) = IsStored c (family h) h.stamp []
IsSurveyed c (places.Asks cause h seen) = IsStored c (family h) h.stamp []
IsSurveyed c (places.Mends m step) = IsStored c m.volume m.stamp []
IsSurveyed c place = ⊤

-- The call is this question of an administrator, and the servers have its act's stamp as the question's place says.
pub record IsAskedAtPlace (c : NodeCell) (q : Question) (head : Head) (call : Call) : Type 0 where
  pub asks : (ask_in q).call ≡ call
  pub stamp : head.stamp ≡ (ask_in q).stamp
  pub callee : head.to ≡ (ask_in q).callee
  pub surveyed : IsSurveyed c q.place

-- So it is, behind each entry of a run, at the place of each act that runs. And of each call that an administrator ever sent: it is what the
-- administrator asked, in this run, under the number of the call, and the servers have the stamp as the place says where it asked that. So it is
-- of a call that comes late, too: however long ago its act was given up, superseded, or lost with its administrator.
pub record AreSurveyed (s : Script) (inputs : List CellInput) : Type 0 where
  pub acts : (n a : ℕ) (r : Running) → ((cell_after s inputs n).admins a).running ≡ Some r → IsSurveyed (cell_after s inputs n) r.place
  pub calls : (n a place : ℕ) (m : Message) (user : List ℕ) (call : Call) → message_at (cell_after s inputs n).sent place ≡ Some m → m.head.from ≡ Admin a → m.carried ≡ carried.Call user call →
      IsAskedAtPlace (cell_after s inputs n) (course_in s (take n inputs) a m.head.epoch m.head.number) m.head call

-- So it is in every run of every script.
abbrev pub SurveysAreStored : Type 0
SurveysAreStored = (s : Script) (inputs : List CellInput) → AreSurveyed s inputs

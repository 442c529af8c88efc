-- A call that the location database serves: what acts know goes on.
use Rattle.std.proofs.Common.{◌≡◌, ◌<◌, ◌⊎◌, inl, inr, ℕ, Bool, true, false, List, Option, Some, None, refl, sym, ap, subst, ◌∙◌, nat_eq}
use Rattle.std.specs.Prelude.{⊤}
use Rattle.afs_num.specs.declared.location_calls.LocCall.{LocCall}
use Rattle.afs_num.specs.declared.location_calls.LocCall.TheVariants as calls
use Rattle.afs_num.specs.declared.location_calls.LocEntry.{LocEntry}
use Rattle.afs_num.specs.declared.location_calls.LocReply.TheVariants as replies
use Rattle.afs_num.specs.declared.messages.Call.TheVariants as ask
use Rattle.afs_num.specs.declared.messages.Message.{Message}
use Rattle.afs_num.specs.declared.types.Head.{Head}
use Rattle.afs_num.specs.declared.types.Node.{Node}
use Rattle.afs_num.specs.declared.types.Node.TheVariants.{Admin, Client, Loc, Server}
use Rattle.spec_ideal.specs.Tables.{get, set, unset}
use Rattle.spec_records.specs.LocDurable.{entries_after}
use Rattle.spec_records.specs.LocRecords.{sets, Listed}
use Rattle.spec_rows.specs.LocRow.{holds, loc_op, LocChange, LocLasting}
use Rattle.spec_rows.specs.LocRow as row
use Rattle.spec_runs.specs.NodeRuns.{NodeCell}
use Rattle.law_stamps.specs.Stamps.{next_stamp}
use Rattle.law_stamps.specs.Told.{entries_in}
use Rattle.law_stored_stamps.specs.Surveys.{IsSurveyed}
use Rattle.spec_adminrows.specs.Asks.{family}
use Rattle.spec_adminrows.specs.Entries.{entry_moved}
use Rattle.spec_adminrows.specs.declared.places.Hold.{Hold}
use Rattle.spec_adminrows.specs.declared.places.Moving.TheVariants as moving
use Rattle.spec_adminrows.specs.declared.places.Place.{Place}
use Rattle.spec_adminrows.specs.declared.places.Place.TheVariants as places
use Rattle.spec_adminrows.specs.declared.places.Removing.TheVariants as removing
use Rattle.law_stamp_owners.proofs.PlaceStamps.{asked_stamp, stamp_at_place}
use Rattle.law_courses.specs.Courses.{ask_in, Course, IsOnCourse, Question}
use Rattle.law_courses.specs.Tasks.{task_at}
use Rattle.law_families.specs.Entries.{AreKeyed}
use Rattle.law_families.proofs.Entries.{made_new}
use Rattle.law_locks.specs.Grips.{grip_at, grip_of, GripIs}
use Rattle.law_locks.proofs.Gifts.{CallBy, IsHarmless}
use Rattle.law_one_server.specs.Knows.{Knows}
use Rattle.law_one_server.proofs.ActsWrite.{asked_writes, IsMoving, IsRemoving, IsWork, LocWrites, Writes}
use Rattle.law_one_server.proofs.DatabaseSteps.{each_call, Is, OfCalls}
use Rattle.law_one_server.proofs.DatabaseDecides.{fresh_lost}
use Rattle.law_one_server.proofs.DatabaseCalls.{grip_stamp, made, moved, nothing, relocked, removed, worked, Grounds, IsBeside, Stands}
use Rattle.law_one_server.proofs.EntriesName.{IsUsable, UsableAt}

-- the number of an entry that is made isn't 0
abbrev pub IsNumberedCall : LocCall → Type 0
IsNumberedCall (calls.CreateEntry e) = nat_eq e.read_write 0 ≡ false
IsNumberedCall call = ⊤

-- the call is an administrator's question
pub record IsAskedOn (course : Course) (n : ℕ) (head : Head) (call : LocCall) : Type 0 where
  pub asks : (ask_in (course n head.epoch head.number)).call ≡ ask.Location call
  pub stamp : head.stamp ≡ (ask_in (course n head.epoch head.number)).stamp

-- of a call it is known who asks it: an administrator, by its course, or one who writes and deletes nothing
abbrev pub KnownBy : Course → NodeCell → Head → LocCall → Node → Type 0
KnownBy course c head call (Admin n) = IsAskedOn course n head call
KnownBy course c head call (Server i) = IsHarmless (ask.Location call)
KnownBy course c head call (Client i) = IsHarmless (ask.Location call)
KnownBy course c head call Loc = IsHarmless (ask.Location call)

module _ (course : Course) (c d : NodeCell) (g : Grounds course c) (b : IsBeside c d) (keyed : AreKeyed (entries_in c)) where
  abbrev Done : LocCall → LocChange → Type 0
  Done call x = entries_in d ≡ entries_after x.deed (entries_in c) → Stands course d

  abbrev lasting : LocLasting
  lasting = c.loc.state.lasting

  module _ (n : ℕ) (head : Head) (call : LocCall) (on : IsAskedOn course n head call) where
    abbrev q : Question
    q = course n head.epoch head.number

    writes_is : LocWrites q.place call
    writes_is = subst (Writes q.place) on.asks (asked_writes q.errand q.place)

    stamp_is : (h : Hold) → grip_at q.place ≡ grip_of h → stamp_at_place q.place ≡ h.stamp
    stamp_is h grip = subst (GripIs (λ (v s : ℕ). stamp_at_place q.place ≡ s)) grip (grip_stamp q.place)

    held_as : (h : Hold) → grip_at q.place ≡ grip_of h → (l : Listed) → holds head.stamp l.lock ≡ true → holds h.stamp l.lock ≡ true
    held_as h grip l held = subst (λ (s : ℕ). holds s l.lock ≡ true) (on.stamp ∙ (asked_stamp q.errand q.place ∙ stamp_is h grip)) held

    work_done : (id : ℕ) (e : LocEntry) (l : Listed) → get l.entry.read_write (entries_in c) ≡ Some l → holds head.stamp l.lock ≡ true → IsWork q.place id e → Done (calls.ReplaceEntry id e) (record { deed = sets (record { entry = e; lock = l.lock }); next_id = lasting.next_id; next_stamp = lasting.next_stamp; reply = replies.ReplaceEntry })
    work_done id e l at held w now =
        worked course c d g b n head.epoch head.number w.hold w.grip l at (held_as w.hold w.grip l held) e w.key now (w.usable (g.usable n head.epoch head.number)) w.site (w.knows c (g.knows n head.epoch head.number))

    moved_key : (target : ℕ) (h : Hold) (e : LocEntry) → e ≡ entry_moved target h.entry → e.read_write ≡ family h
    moved_key target h e is = ap (λ (x : LocEntry). x.read_write) is

    move_done : (id : ℕ) (e : LocEntry) (l : Listed) → get l.entry.read_write (entries_in c) ≡ Some l → holds head.stamp l.lock ≡ true → IsMoving q.place id e → entries_in d ≡ set e.read_write (record { entry = e; lock = l.lock }) (entries_in c) → Stands course d
    move_done id e l at held w now =
        let grip : grip_at q.place ≡ grip_of w.trip.hold = ap grip_at w.place in
        moved course c d g b n head.epoch head.number w.trip.hold grip l at (held_as w.trip.hold grip l held) e (moved_key w.trip.target w.trip.hold e w.moved) now (subst UsableAt w.place (g.usable n head.epoch head.number)) w.trip.target w.moved
        (subst (IsSurveyed c) w.place (g.surveyed n head.epoch head.number)) (ap task_at w.place) (stamp_is w.trip.hold grip) (subst (Knows c) w.place (g.knows n head.epoch head.number))

    remove_done : (id : ℕ) (l : Listed) → get l.entry.read_write (entries_in c) ≡ Some l → holds head.stamp l.lock ≡ true → IsRemoving q.place id → entries_in d ≡ unset l.entry.read_write (entries_in c) → Stands course d
    remove_done id l at held w now =
        let grip : grip_at q.place ≡ grip_of w.hold = ap grip_at w.place in
        removed course c d g b n head.epoch head.number w.hold grip l at (held_as w.hold grip l held) now
        (subst (IsSurveyed c) w.place (g.surveyed n head.epoch head.number)) (ap task_at w.place) (stamp_is w.hold grip) (subst (Knows c) w.place (g.knows n head.epoch head.number))

  -- ---- by who asks it

  written : (head : Head) (id : ℕ) (e : LocEntry) (from : Node) → KnownBy course c head (calls.ReplaceEntry id e) from → (l : Listed) → get l.entry.read_write (entries_in c) ≡ Some l → holds head.stamp l.lock ≡ true → entries_in d ≡ set e.read_write (record { entry = e; lock = l.lock }) (entries_in c) → Stands course d
  written head id e (Admin n) on l at held now = by (writes_is n head (calls.ReplaceEntry id e) on)
    where
      by : LocWrites (course n head.epoch head.number).place (calls.ReplaceEntry id e) → Stands course d
      by (inl w) = work_done n head (calls.ReplaceEntry id e) on id e l at held w now
      by (inr w) = move_done n head (calls.ReplaceEntry id e) on id e l at held w now
  written head id e (Server i) never l at held now = absurd never
  written head id e (Client i) never l at held now = absurd never
  written head id e Loc never l at held now = absurd never

  deleted : (head : Head) (id : ℕ) (from : Node) → KnownBy course c head (calls.DeleteEntry id) from → (l : Listed) → get l.entry.read_write (entries_in c) ≡ Some l → holds head.stamp l.lock ≡ true → entries_in d ≡ unset l.entry.read_write (entries_in c) → Stands course d
  deleted head id (Admin n) on l at held now = remove_done n head (calls.DeleteEntry id) on id l at held (writes_is n head (calls.DeleteEntry id) on) now
  deleted head id (Server i) never l at held now = absurd never
  deleted head id (Client i) never l at held now = absurd never
  deleted head id Loc never l at held now = absurd never

  module _ (head : Head) (from : Node) where
    -- what is known of the call
    abbrev Given : LocCall → LocChange → Type 0
    Given call x = KnownBy course c head call from → IsNumberedCall call → Done call x

    of_calls : OfCalls lasting head.stamp Given
    of_calls = record {
      locks = λ id operation force l at by numbers now. relocked course c d g b l (Some (record { operation = operation; stamp = lasting.next_stamp; forced = row.is_force force })) at now (λ stamp below is. fresh_lost lasting.next_stamp stamp below is);
      makes = λ e free by numbers now. made course c d g b e (Some (record { operation = row.made_for; stamp = lasting.next_stamp; forced = false })) (made_new (entries_in c) e keyed numbers free) now (λ stamp below is. fresh_lost lasting.next_stamp stamp below is);
      frees = λ id l at held by numbers now. relocked course c d g b l None at now (λ stamp below is. absurd cc);
      writes = λ id e l at held by numbers now. written head id e from by l at held now;
      deletes = λ id l at held by numbers now. deleted head id from by l at held now;
      draws = λ by numbers now. nothing course c d g b now;
    }

    -- the call of a message that was served
    pub stands : (call : LocCall) (x : LocChange) → loc_op head.stamp call lasting ≡ row.changes x → KnownBy course c head call from → IsNumberedCall call → entries_in d ≡ entries_after x.deed (entries_in c) → Stands course d
    stands call x does = subst (Is lasting keyed head.stamp Given of_calls call) does (each_call lasting keyed head.stamp Given of_calls call)

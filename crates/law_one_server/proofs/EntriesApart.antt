-- In every run the location database's entries share no number of a volume, and an act that looks its entry up has a family's number.
use Rattle.std.proofs.Common.{◌≡◌, ◌⊎◌, ◌≤◌, inl, inr, ℕ, Bool, true, false, List, [], ◌∷◌, ◌++◌, Option, Some, None, refl, sym, ap, subst, ◌∙◌, arith, nat_eq, append-nil, append_assoc}
use Rattle.std.proofs.lemmas.Bool.Decides.{nat_tests}
use Rattle.std.specs.Prelude.{⊤}
use Rattle.afs_num.specs.declared.location_calls.LocCall.{LocCall}
use Rattle.afs_num.specs.declared.location_calls.LocCall.TheVariants as calls
use Rattle.afs_num.specs.declared.location_calls.LocEntry.{LocEntry}
use Rattle.afs_num.specs.declared.messages.Call.{Call}
use Rattle.afs_num.specs.declared.messages.Call.TheVariants as ask
use Rattle.afs_num.specs.declared.messages.Carried.TheVariants as carried
use Rattle.afs_num.specs.declared.messages.Message.{Message}
use Rattle.afs_num.specs.declared.types.Node.{Node}
use Rattle.afs_num.specs.declared.types.Node.TheVariants.{Admin, Client, Loc, Server}
use Rattle.spec_history.specs.declared.scripts.Script.{Script}
use Rattle.spec_ideal.specs.Tables.{get, Table}
use Rattle.spec_records.specs.LocDurable.{entries_after}
use Rattle.spec_records.specs.LocRecords.{Listed}
use Rattle.spec_adminrows.specs.Asks.{family}
use Rattle.spec_adminrows.specs.declared.places.Cause.{Cause}
use Rattle.spec_adminrows.specs.declared.places.Hold.{Hold}
use Rattle.spec_adminrows.specs.declared.places.Place.{Place}
use Rattle.spec_adminrows.specs.declared.places.Place.TheVariants as places
use Rattle.spec_adminrows.specs.declared.places.Seen.{Seen}
use Rattle.spec_rows.specs.LocRow.{found_id, holds, loc_op, LocLasting, LocResult}
use Rattle.spec_rows.specs.LocRow as row
use Rattle.spec_rows.specs.Runs.{message_at}
use Rattle.spec_runs.specs.NodeRuns.{node_moved, node_start, CellInput, NodeCell}
use Rattle.law_places.specs.Accepting.{cell_behind}
use Rattle.law_stamps.specs.Stamps.{next_stamp}
use Rattle.law_stamps.specs.Told.{entries_in}
use Rattle.law_families.specs.Entries.{AreApart, AreKeyed}
use Rattle.law_families.proofs.Entries.{call_apart, found_own, LeavesApart, WritesOwn}
use Rattle.law_families.proofs.FirstEntries.{first_apart}
use Rattle.law_stored_stamps.proofs.Rising.{one_more}
use Rattle.law_courses.specs.Courses.{ask_in, course_in, Course, IsOnCourse, Question}
use Rattle.law_courses.proofs.Walk.{are_on_course}
use Rattle.law_locks.specs.Grips.{AreGripped}
use Rattle.law_locks.proofs.Asking.{asked_fits, Fits}
use Rattle.law_locks.proofs.Gifts.{CallBy}
use Rattle.law_locks.proofs.Walk.{calls_by, grips_are_drawn}
use Rattle.law_numbers.specs.Numbers.{next_volume, IsNumbered, PlaceIsSound}
use Rattle.law_one_server.proofs.DatabaseChanges.{changes, Changes, IsChanged}
use Rattle.law_one_server.proofs.DatabaseDecides.{held_of}
use Rattle.law_one_server.proofs.KnownGroundServers.{sound}

module _ (s : Script) (inputs : List CellInput) where
  abbrev c : NodeCell
  c = cell_behind (node_start s) inputs

  abbrev course : Course
  course = course_in s inputs

  abbrev grips : AreGripped course c
  grips = grips_are_drawn s inputs

  keyed : AreKeyed (entries_in c)
  keyed = record { ascends = grips.line.ascends; keyed = grips.line.keyed }

  -- an entry that is written under a lock has that entry's family
  by_who : (place : ℕ) (m : Message) (user : List ℕ) (call : LocCall) (n : Node) → message_at c.sent place ≡ Some m → m.carried ≡ carried.Call user (ask.Location call) → m.head.from ≡ n → CallBy (ask.Location call) n → Fits grips.entry_of m.head.stamp (ask.Location call) ⊎ ((id : ℕ) (e : LocEntry) → call ≡ calls.ReplaceEntry id e → ⊥)
  by_who place m user call (Admin n) at is from k =
      let on : IsOnCourse course c.sent n (c.admins n) m.head (ask.Location call) = (are_on_course.on s inputs).calls place n m user (ask.Location call) at from is in
      let q : Question = course n m.head.epoch m.head.number in
      inl (subst (λ (b : ℕ). Fits grips.entry_of b (ask.Location call)) (sym on.stamp) (subst (Fits grips.entry_of (ask_in q).stamp) on.asks (asked_fits grips.entry_of (next_stamp c) q.errand q.place (grips.drawn n m.head.epoch m.head.number))))
  by_who place m user call (Server i) at is from k = inr (λ id e same. subst (λ (x : LocCall). CallBy (ask.Location x) (Server i)) same k)
  by_who place m user call (Client i) at is from k = inr (λ id e same. subst (λ (x : LocCall). CallBy (ask.Location x) (Client i)) same k)
  by_who place m user call Loc at is from k = inr (λ id e same. subst (λ (x : LocCall). CallBy (ask.Location x) Loc) same k)

  own_entry : (stamp id : ℕ) (e : LocEntry) → Fits grips.entry_of stamp (ask.Location (calls.ReplaceEntry id e)) → (l : Listed) → found_id id (entries_in c) ≡ Some l → holds stamp l.lock ≡ true → l.entry.read_write ≡ e.read_write
  own_entry stamp id e fits l found held =
      let there : get l.entry.read_write (entries_in c) ≡ Some l = found_own _ (entries_in c) l keyed found in
      sym (held_of grips.entry_of (next_stamp c) l.entry.read_write stamp l.lock (grips.line.locks l.entry.read_write l there) held) ∙ (fits.1 ∙ sym fits.0)

  writes_own : (stamp : ℕ) (call : LocCall) → Fits grips.entry_of stamp (ask.Location call) ⊎ ((id : ℕ) (e : LocEntry) → call ≡ calls.ReplaceEntry id e → ⊥) → WritesOwn c.loc.state.lasting stamp call
  writes_own stamp (calls.ReplaceEntry id e) (inl fits) = own_entry stamp id e fits
  writes_own stamp (calls.ReplaceEntry id e) (inr never) = absurd (never id e refl)
  writes_own stamp call k = tt

  module _ (x : CellInput) (apart : AreApart (entries_in c)) where
    abbrev d : NodeCell
    d = (node_moved c x).cell

    changed : IsChanged c d → AreApart (entries_in d)
    changed k =
        let call : LocCall = k.served.call in
        let own : WritesOwn c.loc.state.lasting k.m.head.stamp call = writes_own k.m.head.stamp call (by_who k.sent.0 k.m k.served.user call k.m.head.from k.sent.1 k.served.says refl (calls_by s inputs k.sent.0 k.m k.served.user (ask.Location call) k.sent.1 k.served.says)) in
        subst AreApart (sym k.entries) (subst (LeavesApart c.loc.state.lasting) k.served.does (call_apart c.loc.state.lasting keyed apart k.m.head.stamp call own))

    next : AreApart (entries_in d)
    next = elim (changes s inputs x) [ inl same ↦ subst AreApart (sym same) apart | inr k ↦ changed k ]

abbrev Apart : Script → List CellInput → Type 0
Apart s inputs = AreApart (entries_in (cell_behind (node_start s) inputs))

led : (s : Script) (done xs : List CellInput) → Apart s done → Apart s (done ++ xs)
led s done [] h = subst (Apart s) (sym (append-nil done)) h
led s done (x ∷ xs) h = subst (Apart s) (append_assoc done (x ∷ []) xs) (led s (done ++ x ∷ []) xs (subst (λ (y : NodeCell). AreApart (entries_in y)) (sym (one_more (node_start s) done x)) (next s done x h)))

pub all_apart : (s : Script) (inputs : List CellInput) → AreApart (entries_in (cell_behind (node_start s) inputs))
all_apart s inputs = led s [] inputs (first_apart s.volumes)

-- ---- an entry that an act looks up

pub some_number : (n : ℕ) → 1 ≤ n → nat_eq n 0 ≡ false
some_number n low = grind (arith, nat_tests, low)

pub not_zero : (s : Script) (inputs : List CellInput) → IsNumbered s → (n e k : ℕ) (cause : Cause) (h : Hold) (seen : List Seen) → (course_in s inputs n e k).place ≡ places.Asks cause h seen → nat_eq (family h) 0 ≡ false
not_zero s inputs numbered n e k cause h seen at = some_number (family h) (subst (PlaceIsSound (next_volume (cell_behind (node_start s) inputs))) at (sound s inputs numbered n e k)).0.0

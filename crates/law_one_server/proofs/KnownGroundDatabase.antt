-- What the steps of the location database ask of a cell and of the course of its acts is so behind each run: above all, who holds a lock isn't
-- over, for no later stamp was ever drawn for its entry.
use Rattle.std.proofs.Common.{◌≡◌, ◌⊎◌, ◌≤◌, ◌<◌, inl, inr, ℕ, zero, suc, Bool, true, false, List, [], ◌∷◌, ◌++◌, Option, Some, None, refl, sym, ap, subst, ◌∙◌, arith, nat_lt, append-nil, append_assoc}
use Rattle.std.proofs.lemmas.Bool.Decides.{nat_tests}
use Rattle.std.specs.Prelude.{⊤}
use Rattle.afs_num.specs.declared.messages.Call.{Call}
use Rattle.afs_num.specs.declared.messages.Call.TheVariants as ask
use Rattle.afs_num.specs.declared.volume_calls.VolCall.{VolCall}
use Rattle.spec_history.specs.declared.scripts.Script.{Script}
use Rattle.spec_ideal.specs.Tables.{get}
use Rattle.spec_records.specs.LocRecords.{Listed, Lock}
use Rattle.spec_adminrows.specs.Acts.{asks_at}
use Rattle.spec_adminrows.specs.Copying.{backup_asks, dump_asks}
use Rattle.spec_adminrows.specs.Creating.{create_asks}
use Rattle.spec_adminrows.specs.Moving.{move_asks}
use Rattle.spec_adminrows.specs.Recovering.{mend_asks}
use Rattle.spec_adminrows.specs.Releasing.{release_asks, tour_asks, visit_asks}
use Rattle.spec_adminrows.specs.Removing.{remove_asks, sweep_asks}
use Rattle.spec_adminrows.specs.Asks.{family}
use Rattle.spec_adminrows.specs.declared.places.Backing.{Backing}
use Rattle.spec_adminrows.specs.declared.places.Backing.TheVariants as backing
use Rattle.spec_adminrows.specs.declared.places.Creating.{Creating}
use Rattle.spec_adminrows.specs.declared.places.Creating.TheVariants as creating
use Rattle.spec_adminrows.specs.declared.places.Dumping.{Dumping}
use Rattle.spec_adminrows.specs.declared.places.Dumping.TheVariants as dumping
use Rattle.spec_adminrows.specs.declared.places.Fresh.{Fresh}
use Rattle.spec_adminrows.specs.declared.places.Hold.{Hold}
use Rattle.spec_adminrows.specs.declared.places.Mend.{Mend}
use Rattle.spec_adminrows.specs.declared.places.Mending.{Mending}
use Rattle.spec_adminrows.specs.declared.places.Mending.TheVariants as mending
use Rattle.spec_adminrows.specs.declared.places.Moving.{Moving}
use Rattle.spec_adminrows.specs.declared.places.Moving.TheVariants as moving
use Rattle.spec_adminrows.specs.declared.places.Place.{Place}
use Rattle.spec_adminrows.specs.declared.places.Place.TheVariants as places
use Rattle.spec_adminrows.specs.declared.places.Releasing.{Releasing}
use Rattle.spec_adminrows.specs.declared.places.Releasing.TheVariants as releasing
use Rattle.spec_adminrows.specs.declared.places.Removing.{Removing}
use Rattle.spec_adminrows.specs.declared.places.Removing.TheVariants as removing
use Rattle.spec_adminrows.specs.declared.places.Saving.{Saving}
use Rattle.spec_adminrows.specs.declared.places.Spot.{Spot}
use Rattle.spec_adminrows.specs.declared.places.Sweeping.{Sweeping}
use Rattle.spec_adminrows.specs.declared.places.Sweeping.TheVariants as sweeping
use Rattle.spec_adminrows.specs.declared.places.Tour.{Tour}
use Rattle.spec_adminrows.specs.declared.places.Touring.{Touring}
use Rattle.spec_adminrows.specs.declared.places.Touring.TheVariants as touring
use Rattle.spec_adminrows.specs.declared.places.Trip.{Trip}
use Rattle.spec_adminrows.specs.declared.places.Visiting.{Visiting}
use Rattle.spec_adminrows.specs.declared.places.Visiting.TheVariants as visiting
use Rattle.spec_adminrows.specs.declared.turns.Errand.{Errand}
use Rattle.spec_volrows.specs.VolRow.{family_of}
use Rattle.spec_runs.specs.NodeRuns.{has_host, node_moved, node_start, CellInput, NodeCell}
use Rattle.law_places.specs.Accepting.{cell_behind}
use Rattle.law_stamps.specs.Stamps.{next_stamp, stored_stamp}
use Rattle.law_stamps.specs.Told.{entries_in, stamp_by, stamp_in}
use Rattle.law_stamp_owners.proofs.PlaceStamps.{asked_stamp, stamp_at_place}
use Rattle.law_stamp_origins.specs.Brought.{IsBrought}
use Rattle.law_stamp_origins.proofs.Walk.{are_brought}
use Rattle.law_courses.specs.Courses.{course_in, AreOnCourse, Course, IsOnCourse, Question}
use Rattle.law_courses.specs.Tasks.{task_at, Task}
use Rattle.law_courses.proofs.Walk.{are_on_course}
use Rattle.law_locks.specs.Grips.{grip_at, AreGripped, GripIs}
use Rattle.law_locks.specs.Lines.{AreInLine, IsDrawnFor, LockIsLast}
use Rattle.law_locks.proofs.Walk.{all_gripped}
use Rattle.law_one_server.specs.Knows.{lock_at, AreClosed, IsOver, Knows}
use Rattle.law_one_server.proofs.KnownAside.{has_same_hosts}
use Rattle.law_stored_stamps.proofs.Rising.{one_more}
use Rattle.law_stored_stamps.proofs.Asked.{places_are}
use Rattle.law_one_server.proofs.StampsOfOneTask.{one}
use Rattle.law_one_server.proofs.DatabaseCalls.{Agree, Grounds}
use Rattle.law_one_server.proofs.EntriesName.{all_usable}

-- ---- a volume call under a stamp is in the family that is locked under it

module _ (G : ℕ → ℕ → Type 0) where
  abbrev Has : Call → ℕ → Type 0
  Has (ask.Volume call) stamp = G (family_of call) stamp
  Has (ask.File call) stamp = ⊤
  Has (ask.Location call) stamp = ⊤

  create_has : (name : List ℕ) (f : Fresh) (step : Creating) → (stamp_at_place (places.Creates f step) ≡ 0 → ⊥) → GripIs G (grip_at (places.Creates f step)) → Has (create_asks name f step).call (stamp_at_place (places.Creates f step))
  create_has name f (creating.Begins v stamp) some k = k
  create_has name f (creating.Opens v stamp t) some k = k
  create_has name f (creating.Opened v stamp t) some k = k
  create_has name f (creating.Frees v stamp) some k = tt
  create_has name f step some k = absurd (some refl)

  backup_has : (name : List ℕ) (h : Hold) (step : Backing) → G (family h) h.stamp → Has (backup_asks name h step).call h.stamp
  backup_has name h (backing.Numbers t) k = tt
  backup_has name h (backing.Writes id) k = tt
  backup_has name h step k = k

  dump_has : (s : Saving) (step : Dumping) → G (family s.hold) s.hold.stamp → Has (dump_asks s step).call s.hold.stamp
  dump_has s dumping.Stamps k = k
  dump_has s step k = k

  release_has : (h : Hold) (step : Releasing) → G (family h) h.stamp → Has (release_asks h step).call h.stamp
  release_has h releasing.Stamps k = k
  release_has h step k = tt

  tour_has : (name : List ℕ) (r : Tour) (step : Touring) → G (family r.hold) r.hold.stamp → Has (tour_asks name r step).call r.hold.stamp
  tour_has name r touring.Writes k = tt
  tour_has name r step k = k

  visit_has : (name : List ℕ) (r : Tour) (s : ℕ) (step : Visiting) → G (family r.hold) r.hold.stamp → Has (visit_asks name r s step).call r.hold.stamp
  visit_has name r s visiting.Stamps k = k
  visit_has name r s step k = k

  move_has : (name : List ℕ) (m : Trip) (step : Moving) → G (family m.hold) m.hold.stamp → Has (move_asks name m step).call m.hold.stamp
  move_has name m (moving.Decides new old) k = tt
  move_has name m step k = k

  remove_has : (h : Hold) (step : Removing) → G (family h) h.stamp → Has (remove_asks h step).call h.stamp
  remove_has h (removing.Decides t) k = tt
  remove_has h step k = k

  sweep_has : (h : Hold) (spot : Spot) (step : Sweeping) → G (family h) h.stamp → Has (sweep_asks h spot step).call h.stamp
  sweep_has h spot sweeping.Begins k = k
  sweep_has h spot step k = k

  mend_has : (m : Mend) (step : Mending) → G m.volume m.stamp → Has (mend_asks m step).call m.stamp
  mend_has m mending.Frees k = tt
  mend_has m step k = k

  asked_has : (e : Errand) (p : Place) → (stamp_at_place p ≡ 0 → ⊥) → GripIs G (grip_at p) → Has (asks_at e p).call (stamp_at_place p)
  asked_has e (places.Seeks c) some k = tt
  asked_has e (places.Locks c v) some k = tt
  asked_has e (places.Frees h code first) some k = tt
  asked_has e (places.Creates f step) some k = create_has _ f step some k
  asked_has e (places.Adds h server) some k = tt
  asked_has e (places.Backs h step) some k = backup_has _ h step k
  asked_has e (places.Dumps s step) some k = dump_has s step k
  asked_has e (places.Releases h step) some k = release_has h step k
  asked_has e (places.Tours r step) some k = tour_has _ r step k
  asked_has e (places.Visits r s step) some k = visit_has _ r s step k
  asked_has e (places.Surveys h why s left seen) some k = k
  asked_has e (places.Plans h target) some k = tt
  asked_has e (places.Moves m step) some k = move_has _ m step k
  asked_has e (places.Removes h seen step) some k = remove_has h step k
  asked_has e (places.Sweeps h spot left step) some k = sweep_has h spot step k
  asked_has e (places.Asks c h seen) some k = tt
  asked_has e (places.Mends m step) some k = mend_has m step k

-- ---- a server of the cell

host_first : (n : ℕ) → 1 ≤ n → nat_lt 0 n ≡ true
host_first n some = grind (arith, nat_tests, some)

host_led : (c : NodeCell) (xs : List CellInput) → has_host c 1 ≡ true → has_host (cell_behind c xs) 1 ≡ true
host_led c [] h = h
host_led c (x ∷ xs) h = host_led (node_moved c x).cell xs (has_same_hosts c x 1 ∙ h)

pub agree : (a b : Option Task) → ((t u : Task) → a ≡ Some t → b ≡ Some u → t ≡ u) → Agree a b
agree None b same = inr (inl refl)
agree (Some t) None same = inr (inr refl)
agree (Some t) (Some u) same = inl (ap Some (same t u refl refl))

module _ (s : Script) (inputs : List CellInput) where
  abbrev pub c : NodeCell
  c = cell_behind (node_start s) inputs

  abbrev pub course : Course
  course = course_in s inputs

  abbrev pub grips : AreGripped course c
  grips = (all_gripped s inputs).gripped

  -- what a server has stored was drawn for its family
  brought_drawn : (volume stamp : ℕ) → (stamp ≡ 0 → ⊥) → IsBrought c.sent volume stamp → IsDrawnFor grips.entry_of (next_stamp c) volume stamp
  brought_drawn volume stamp some b =
      let on : IsOnCourse course c.sent b.admin (c.admins b.admin) b.m.head (ask.Volume b.call) = (are_on_course.on s inputs).calls b.place b.admin b.m b.user (ask.Volume b.call) b.at b.from b.asks in
      let q : Question = course b.admin b.m.head.epoch b.m.head.number in
      let same : stamp_at_place q.place ≡ stamp = sym (asked_stamp q.errand q.place) ∙ (sym on.stamp ∙ b.under) in
      let G : ℕ → ℕ → Type 0 = IsDrawnFor grips.entry_of (next_stamp c) in
      let has : Has G (asks_at q.errand q.place).call (stamp_at_place q.place) = asked_has G q.errand q.place (λ none. some (sym same ∙ none)) (grips.drawn b.admin b.m.head.epoch b.m.head.number) in
      let its : G (family_of b.call) (stamp_at_place q.place) = subst (λ (call : Call). Has G call (stamp_at_place q.place)) on.asks has in
      subst (λ (v : ℕ). G v stamp) b.in_family (subst (G (family_of b.call)) same its)

  lock_last : (volume stamp later : ℕ) (o : Option Lock) → stamp < later → IsDrawnFor grips.entry_of (next_stamp c) volume later → LockIsLast grips.entry_of (next_stamp c) volume o → stamp_by o ≡ Some stamp → ⊥
  lock_last volume stamp later None low drawn last is = absurd cc
  lock_last volume stamp later (Some k) low drawn last is =
      let same : k.stamp ≡ stamp = cc in
      let up : later ≤ k.stamp = last.last later drawn.0.1 drawn.1 in omega (arith, low, up, same)

  no_later : (volume stamp later : ℕ) → stamp < later → IsDrawnFor grips.entry_of (next_stamp c) volume later → lock_at c volume ≡ Some stamp → ⊥
  no_later volume stamp later low drawn locked = by (get volume (entries_in c)) refl locked
    where
      by : (o : Option Listed) → get volume (entries_in c) ≡ o → stamp_in o ≡ Some stamp → ⊥
      by None at is = absurd cc
      by (Some l) at is = lock_last volume stamp later l.lock low drawn (grips.line.locks volume l at) is

  -- who holds a lock isn't over
  pub not_over : 1 ≤ s.servers → (volume stamp : ℕ) → lock_at c volume ≡ Some stamp → IsOver c volume stamp → ⊥
  not_over servers volume stamp locked over =
      let low : stamp < stored_stamp c 1 volume = over 1 (host_led (node_start s) inputs (host_first s.servers servers)) in
      let some : stored_stamp c 1 volume ≡ 0 → ⊥ = λ none. omega (arith, low, none) in
      elim (are_brought s inputs 1 volume) [ inl none ↦ some none | inr b ↦ no_later volume stamp (stored_stamp c 1 volume) low (brought_drawn volume (stored_stamp c 1 volume) some b) locked ]

  -- all that the database's calls ask
  unfoldable pub ready : 1 ≤ s.servers → ((n e k : ℕ) → Knows c (course n e k).place) → AreClosed c → Grounds course c
  ready servers knows closed = record {
    entry_of = grips.entry_of;
    line = grips.line;
    drawn = grips.drawn;
    knows = knows;
    closed = closed;
    usable = all_usable s inputs;
    surveyed = places_are s inputs;
    one = λ n e k i j l same some. agree (task_at (course n e k).place) (task_at (course i j l).place) (λ t u at_k at_l. one s inputs n e k i j l t u same some at_k at_l);
    not_over = not_over servers;
  }

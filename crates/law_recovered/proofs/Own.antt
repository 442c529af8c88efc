-- Who may change a volume while a recovery holds its lock, once a server has stored its stamp: the recovery itself, and nobody else. For no later
-- stamp was drawn for the entry, and calls under earlier ones are refused.
use Rattle.std.proofs.Common.{◌≡◌, ◌⊎◌, ◌≤◌, ◌<◌, inl, inr, ℕ, zero, suc, Bool, true, false, cond, List, [], ◌∷◌, ◌++◌, Option, Some, None, refl, sym, ap, subst, ◌∙◌, arith, nat_lt}
use Rattle.std.specs.Prelude.{⊤, ◌&&◌, nat_eq}
use Rattle.afs_num.specs.declared.messages.Carried.{Carried}
use Rattle.afs_num.specs.declared.messages.Carried.TheVariants as carried
use Rattle.afs_num.specs.declared.messages.Message.{Message}
use Rattle.afs_num.specs.declared.types.Node.{Node}
use Rattle.afs_num.specs.declared.types.Node.TheVariants.{Admin, Server}
use Rattle.afs_num.specs.declared.volume_calls.VolCall.TheVariants as calls
use Rattle.spec_ideal.specs.Operations.{is_number}
use Rattle.spec_adminrows.specs.declared.places.Purpose.TheVariants as purposes
use Rattle.spec_rows.specs.Runs.{message_at}
use Rattle.spec_volrows.specs.VolStates.{Sending}
use Rattle.law_walks.specs.Messages.{AllAre, Rules}
use Rattle.law_walks.specs.Sends.{AnswersAre}
use Rattle.law_walks.proofs.AllMessages.{all_are_first, next_all}
use Rattle.law_walks.proofs.LocSends.{loc_makes_any}
use Rattle.law_walks.proofs.Seats.{found_at}
use Rattle.law_walks.proofs.VolDecides.{makes_any}
use Rattle.law_courses.specs.Courses.{ask_in}
use Rattle.law_courses.specs.Tasks.{makes, mends, moves, removes, task_at, task_for, works}
use Rattle.law_one_server.specs.Knows.{lock_at}
use Rattle.law_one_server.proofs.StampsOfOneTask.{one, some}
use Rattle.std.proofs.lemmas.Bool.Decides.{nat_tests}
use Rattle.afs_num.specs.declared.messages.Call.{Call}
use Rattle.afs_num.specs.declared.messages.Call.TheVariants as ask
use Rattle.afs_num.specs.declared.volume_calls.VolCall.{VolCall}
use Rattle.spec_history.specs.declared.scripts.Script.{Script}
use Rattle.spec_ideal.specs.Tables.{get}
use Rattle.spec_records.specs.LocRecords.{Listed, Lock}
use Rattle.spec_adminrows.specs.Acts.{asks_at}
use Rattle.spec_adminrows.specs.Copying.{backup_asks, dump_asks}
use Rattle.spec_adminrows.specs.Creating.{create_asks}
use Rattle.spec_adminrows.specs.Moving.{move_asks}
use Rattle.spec_adminrows.specs.Recovering.{mend_asks}
use Rattle.spec_adminrows.specs.Releasing.{release_asks, tour_asks, visit_asks}
use Rattle.spec_adminrows.specs.Removing.{remove_asks, sweep_asks}
use Rattle.spec_adminrows.specs.Asks.{family}
use Rattle.spec_adminrows.specs.declared.places.Backing.{Backing}
use Rattle.spec_adminrows.specs.declared.places.Backing.TheVariants as backing
use Rattle.spec_adminrows.specs.declared.places.Creating.{Creating}
use Rattle.spec_adminrows.specs.declared.places.Creating.TheVariants as creating
use Rattle.spec_adminrows.specs.declared.places.Dumping.{Dumping}
use Rattle.spec_adminrows.specs.declared.places.Dumping.TheVariants as dumping
use Rattle.spec_adminrows.specs.declared.places.Fresh.{Fresh}
use Rattle.spec_adminrows.specs.declared.places.Hold.{Hold}
use Rattle.spec_adminrows.specs.declared.places.Mend.{Mend}
use Rattle.spec_adminrows.specs.declared.places.Mending.{Mending}
use Rattle.spec_adminrows.specs.declared.places.Mending.TheVariants as mending
use Rattle.spec_adminrows.specs.declared.places.Moving.{Moving}
use Rattle.spec_adminrows.specs.declared.places.Moving.TheVariants as moving
use Rattle.spec_adminrows.specs.declared.places.Place.{Place}
use Rattle.spec_adminrows.specs.declared.places.Place.TheVariants as places
use Rattle.spec_adminrows.specs.declared.places.Releasing.{Releasing}
use Rattle.spec_adminrows.specs.declared.places.Releasing.TheVariants as releasing
use Rattle.spec_adminrows.specs.declared.places.Removing.{Removing}
use Rattle.spec_adminrows.specs.declared.places.Removing.TheVariants as removing
use Rattle.spec_adminrows.specs.declared.places.Saving.{Saving}
use Rattle.spec_adminrows.specs.declared.places.Spot.{Spot}
use Rattle.spec_adminrows.specs.declared.places.Sweeping.{Sweeping}
use Rattle.spec_adminrows.specs.declared.places.Sweeping.TheVariants as sweeping
use Rattle.spec_adminrows.specs.declared.places.Tour.{Tour}
use Rattle.spec_adminrows.specs.declared.places.Touring.{Touring}
use Rattle.spec_adminrows.specs.declared.places.Touring.TheVariants as touring
use Rattle.spec_adminrows.specs.declared.places.Trip.{Trip}
use Rattle.spec_adminrows.specs.declared.places.Visiting.{Visiting}
use Rattle.spec_adminrows.specs.declared.places.Visiting.TheVariants as visiting
use Rattle.spec_adminrows.specs.declared.turns.Errand.{Errand}
use Rattle.spec_volrows.specs.VolRow.{family_of}
use Rattle.spec_runs.specs.NodeRuns.{has_host, node_moved, node_start, CellInput, NodeCell}
use Rattle.law_places.specs.Accepting.{cell_behind}
use Rattle.law_stamps.specs.Stamps.{next_stamp, stored_stamp}
use Rattle.law_stamps.specs.Told.{entries_in, stamp_by, stamp_in}
use Rattle.law_stamp_owners.proofs.PlaceStamps.{asked_stamp, stamp_at_place}
use Rattle.law_courses.specs.Courses.{course_in, AreOnCourse, Course, IsOnCourse, Question}
use Rattle.law_courses.specs.Tasks.{task_at, Task}
use Rattle.law_courses.proofs.Walk.{are_on_course}
use Rattle.law_locks.specs.Grips.{grip_at, AreGripped, GripIs}
use Rattle.law_locks.specs.Lines.{AreInLine, IsDrawnFor, LockIsLast}
use Rattle.law_locks.proofs.Walk.{all_gripped}

-- ---- all but the pieces of dumps administrators alone send

abbrev pub IsOfAdmins : VolCall → Type 0
IsOfAdmins (calls.Restore family number offset last piece) = ⊥
IsOfAdmins call = ⊤

abbrev AsksOfAdmins : Call → Type 0
AsksOfAdmins (ask.Volume call) = IsOfAdmins call
AsksOfAdmins (ask.File call) = ⊥
AsksOfAdmins (ask.Location call) = ⊥

abbrev OfAdmins : Carried → Type 0
OfAdmins (carried.Call user call) = AsksOfAdmins call
OfAdmins (carried.Refusal code) = ⊥
OfAdmins (carried.Reply reply) = ⊥
OfAdmins carried.Notice = ⊥

abbrev Fits : Message → Type 0
Fits m = OfAdmins m.carried → (n : ℕ) × (m.head.from ≡ Admin n)

one_of : (b : Bool) (x y : Message) → Fits x → Fits y → Fits (cond b x y)
one_of true x y h k = h
one_of false x y h k = k

answers : (me : Node) (boot : ℕ) → AnswersAre Fits me boot
answers me boot = record { notice = λ head to is. absurd is; refusal = λ head code to is. absurd is }

abbrev Any : Node → Sending → Type 0
Any n x = ⊤

abbrev Made : Node → Message → Type 0
Made n m = Fits m

rules : Rules Made Any Fits
rules = record {
  said = λ n m h. h;
  servers = λ i boot. record {
    file = record { answers = answers (Server i) boot; reply = λ head reply to is. absurd is; breaks = λ n known c is. absurd is };
    piece = λ n known number x h is. absurd is;
    forward = λ x code h. one_of (is_number code 0) _ _ (λ is. absurd is) (λ is. absurd is);
    moved = λ x h. tt;
  };
  volumes = λ i d v m q. makes_any Fits (Any (Server i)) (Server i) d v m (λ to. record { reply = λ r is. absurd is; refused = λ code is. absurd is; sends_on = λ x. tt });
  database = λ boot. answers _ boot;
  locations = λ s m q. loc_makes_any Fits s m (λ head reply to is. absurd is);
  clients = λ n. record { answers = λ boot. answers _ boot; reply = λ boot head reply to is. absurd is; call = λ head user call own none is. absurd is; look = λ head user o own none is. absurd is };
  admins = λ n boot. answers _ boot;
  asks = λ n a r run is. (n, refl);
}

sent_led : (c : NodeCell) (xs : List CellInput) → AllAre Made Any Fits c → AllAre Made Any Fits (cell_behind c xs)
sent_led c [] h = h
sent_led c (x ∷ xs) h = sent_led (node_moved c x).cell xs (next_all Made Any Fits rules c h x)

pub askers : (s : Script) (inputs : List CellInput) (place : ℕ) (m : Message) (user : List ℕ) (call : VolCall) → message_at (cell_behind (node_start s) inputs).sent place ≡ Some m → m.carried ≡ carried.Call user (ask.Volume call) → IsOfAdmins call → (n : ℕ) × (m.head.from ≡ Admin n)
askers s inputs place m user call at is acts =
    let c : NodeCell = cell_behind (node_start s) inputs in
    found_at Fits place c.sent m (sent_led (node_start s) inputs (all_are_first Made Any Fits rules s)).sent at (subst OfAdmins (sym is) acts)

-- ---- a volume call under a stamp is in the family that is locked under it

module _ (G : ℕ → ℕ → Type 0) where
  abbrev Has : Call → ℕ → Type 0
  Has (ask.Volume call) stamp = G (family_of call) stamp
  Has (ask.File call) stamp = ⊤
  Has (ask.Location call) stamp = ⊤

  create_has : (name : List ℕ) (f : Fresh) (step : Creating) → (stamp_at_place (places.Creates f step) ≡ 0 → ⊥) → GripIs G (grip_at (places.Creates f step)) → Has (create_asks name f step).call (stamp_at_place (places.Creates f step))
  create_has name f (creating.Begins v stamp) some k = k
  create_has name f (creating.Opens v stamp t) some k = k
  create_has name f (creating.Opened v stamp t) some k = k
  create_has name f (creating.Frees v stamp) some k = tt
  create_has name f step some k = absurd (some refl)

  backup_has : (name : List ℕ) (h : Hold) (step : Backing) → G (family h) h.stamp → Has (backup_asks name h step).call h.stamp
  backup_has name h (backing.Numbers t) k = tt
  backup_has name h (backing.Writes id) k = tt
  backup_has name h step k = k

  dump_has : (s : Saving) (step : Dumping) → G (family s.hold) s.hold.stamp → Has (dump_asks s step).call s.hold.stamp
  dump_has s dumping.Stamps k = k
  dump_has s step k = k

  release_has : (h : Hold) (step : Releasing) → G (family h) h.stamp → Has (release_asks h step).call h.stamp
  release_has h releasing.Stamps k = k
  release_has h step k = tt

  tour_has : (name : List ℕ) (r : Tour) (step : Touring) → G (family r.hold) r.hold.stamp → Has (tour_asks name r step).call r.hold.stamp
  tour_has name r touring.Writes k = tt
  tour_has name r step k = k

  visit_has : (name : List ℕ) (r : Tour) (s : ℕ) (step : Visiting) → G (family r.hold) r.hold.stamp → Has (visit_asks name r s step).call r.hold.stamp
  visit_has name r s visiting.Stamps k = k
  visit_has name r s step k = k

  move_has : (name : List ℕ) (m : Trip) (step : Moving) → G (family m.hold) m.hold.stamp → Has (move_asks name m step).call m.hold.stamp
  move_has name m (moving.Decides new old) k = tt
  move_has name m step k = k

  remove_has : (h : Hold) (step : Removing) → G (family h) h.stamp → Has (remove_asks h step).call h.stamp
  remove_has h (removing.Decides t) k = tt
  remove_has h step k = k

  sweep_has : (h : Hold) (spot : Spot) (step : Sweeping) → G (family h) h.stamp → Has (sweep_asks h spot step).call h.stamp
  sweep_has h spot sweeping.Begins k = k
  sweep_has h spot step k = k

  mend_has : (m : Mend) (step : Mending) → G m.volume m.stamp → Has (mend_asks m step).call m.stamp
  mend_has m mending.Frees k = tt
  mend_has m step k = k

  asked_has : (e : Errand) (p : Place) → (stamp_at_place p ≡ 0 → ⊥) → GripIs G (grip_at p) → Has (asks_at e p).call (stamp_at_place p)
  asked_has e (places.Seeks c) some k = tt
  asked_has e (places.Locks c v) some k = tt
  asked_has e (places.Frees h code first) some k = tt
  asked_has e (places.Creates f step) some k = create_has _ f step some k
  asked_has e (places.Adds h server) some k = tt
  asked_has e (places.Backs h step) some k = backup_has _ h step k
  asked_has e (places.Dumps s step) some k = dump_has s step k
  asked_has e (places.Releases h step) some k = release_has h step k
  asked_has e (places.Tours r step) some k = tour_has _ r step k
  asked_has e (places.Visits r s step) some k = visit_has _ r s step k
  asked_has e (places.Surveys h why s left seen) some k = k
  asked_has e (places.Plans h target) some k = tt
  asked_has e (places.Moves m step) some k = move_has _ m step k
  asked_has e (places.Removes h seen step) some k = remove_has h step k
  asked_has e (places.Sweeps h spot left step) some k = sweep_has h spot step k
  asked_has e (places.Asks c h seen) some k = tt
  asked_has e (places.Mends m step) some k = mend_has m step k

-- ---- the places of a recovery

abbrev pub IsMending : Place → Type 0
IsMending (places.Surveys h (purposes.Mends cause) s left seen) = ⊤
IsMending (places.Asks cause h seen) = ⊤
IsMending (places.Mends m step) = ⊤
IsMending p = ⊥

module _ (e : Errand) (call : VolCall) where
  abbrev OnlyMends : Place → Type 0
  OnlyMends p = (t : Task) → task_at p ≡ Some t → t ≡ mends

  -- it asks a volume server, under a stamp, and does nothing but to mend
  pub mending_of : (p : Place) → (asks_at e p).call ≡ ask.Volume call → (stamp_at_place p ≡ 0 → ⊥) → OnlyMends p → IsMending p
  mending_of (places.Seeks c) is some only = absurd cc
  mending_of (places.Locks c v) is some only = absurd cc
  mending_of (places.Frees h code first) is some only = absurd cc
  mending_of (places.Creates f (creating.Begins v stamp)) is some only = let no : makes ≡ mends = only makes refl in absurd cc
  mending_of (places.Creates f (creating.Opens v stamp t)) is some only = let no : makes ≡ mends = only makes refl in absurd cc
  mending_of (places.Creates f (creating.Opened v stamp t)) is some only = let no : makes ≡ mends = only makes refl in absurd cc
  mending_of (places.Creates f (creating.Frees v stamp)) is some only = absurd cc
  mending_of (places.Creates f step) is some only = absurd (some refl)
  mending_of (places.Adds h server) is some only = absurd cc
  mending_of (places.Backs h step) is some only = let no : works ≡ mends = only works refl in absurd cc
  mending_of (places.Dumps s step) is some only = let no : works ≡ mends = only works refl in absurd cc
  mending_of (places.Releases h step) is some only = let no : works ≡ mends = only works refl in absurd cc
  mending_of (places.Tours r step) is some only = let no : works ≡ mends = only works refl in absurd cc
  mending_of (places.Visits r s step) is some only = let no : works ≡ mends = only works refl in absurd cc
  mending_of (places.Surveys h (purposes.Moves target) s left seen) is some only = let no : moves target ≡ mends = only (moves target) refl in absurd cc
  mending_of (places.Surveys h purposes.Removes s left seen) is some only = let no : removes ≡ mends = only removes refl in absurd cc
  mending_of (places.Surveys h (purposes.Mends cause) s left seen) is some only = tt
  mending_of (places.Plans h target) is some only = absurd cc
  mending_of (places.Moves m step) is some only = let no : moves m.target ≡ mends = only (moves m.target) refl in absurd cc
  mending_of (places.Removes h seen step) is some only = let no : removes ≡ mends = only removes refl in absurd cc
  mending_of (places.Sweeps h spot left step) is some only = let no : removes ≡ mends = only removes refl in absurd cc
  mending_of (places.Asks cause h seen) is some only = tt
  mending_of (places.Mends m step) is some only = tt

-- ---- who asks while it holds the lock

module _ (s : Script) (inputs : List CellInput) where
  abbrev pub c : NodeCell
  c = cell_behind (node_start s) inputs

  abbrev pub course : Course
  course = course_in s inputs

  abbrev pub grips : AreGripped course c
  grips = (all_gripped s inputs).gripped

  -- at this question of a recovery its lock is held
  pub record Holds (volume : ℕ) : Type 0 where
    pub n : ℕ
    pub e : ℕ
    pub k : ℕ
    pub stamp : ℕ
    pub under : stamp_at_place (course n e k).place ≡ stamp
    pub task : task_at (course n e k).place ≡ Some mends
    pub locked : lock_at c volume ≡ Some stamp

  -- the call was sent under its stamp by itself
  pub record IsOwn (stamp : ℕ) (m : Message) (call : VolCall) : Type 0 where
    pub n : ℕ
    pub from : m.head.from ≡ Admin n
    pub same : m.head.stamp ≡ stamp
    pub on : IsOnCourse course c.sent n (c.admins n) m.head (ask.Volume call)
    pub mending : IsMending (course n m.head.epoch m.head.number).place

  lock_last : (volume stamp later : ℕ) (o : Option Lock) → stamp < later → IsDrawnFor grips.entry_of (next_stamp c) volume later → LockIsLast grips.entry_of (next_stamp c) volume o → stamp_by o ≡ Some stamp → ⊥
  lock_last volume stamp later None low drawn last is = absurd cc
  lock_last volume stamp later (Some k) low drawn last is =
      let same : k.stamp ≡ stamp = cc in
      let up : later ≤ k.stamp = last.last later drawn.0.1 drawn.1 in omega (arith, low, up, same)

  no_later : (volume stamp later : ℕ) → stamp < later → IsDrawnFor grips.entry_of (next_stamp c) volume later → lock_at c volume ≡ Some stamp → ⊥
  no_later volume stamp later low drawn locked = by (get volume (entries_in c)) refl locked
    where
      by : (o : Option Listed) → get volume (entries_in c) ≡ o → stamp_in o ≡ Some stamp → ⊥
      by None at is = absurd cc
      by (Some l) at is = lock_last volume stamp later l.lock low drawn (grips.line.locks volume l at) is

  not_less : (a b : ℕ) → a ≤ b → (a < b → ⊥) → b ≡ a
  not_less a b le never = by (nat_lt a b) refl
    where
      by : (less : Bool) → nat_lt a b ≡ less → b ≡ a
      by true is = absurd (never (grind (arith, nat_tests, is)))
      by false is = grind (arith, nat_tests, is, le)

  pub own_call : (volume : ℕ) (h : Holds volume) (place : ℕ) (m : Message) (user : List ℕ) (call : VolCall) → message_at c.sent place ≡ Some m → m.carried ≡ carried.Call user (ask.Volume call) → IsOfAdmins call → family_of call ≡ volume → h.stamp ≤ m.head.stamp → IsOwn h.stamp m call
  own_call volume h place m user call at is admins in_it low =
      let who = askers s inputs place m user call at is admins in
      let on : IsOnCourse course c.sent who.0 (c.admins who.0) m.head (ask.Volume call) = (are_on_course.on s inputs).calls place who.0 m user (ask.Volume call) at who.1 is in
      let q : Question = course who.0 m.head.epoch m.head.number in
      let under : stamp_at_place q.place ≡ m.head.stamp = sym (asked_stamp q.errand q.place) ∙ sym on.stamp in
      let its : h.stamp ≡ 0 → ⊥ = λ none. some s inputs h.n h.e h.k mends h.task (h.under ∙ none) in
      let mine : m.head.stamp ≡ 0 → ⊥ = λ none. its (omega (arith, low, none)) in
      let own : stamp_at_place q.place ≡ 0 → ⊥ = λ none. mine (sym under ∙ none) in
      let G : ℕ → ℕ → Type 0 = IsDrawnFor grips.entry_of (next_stamp c) in
      let has : Has G (asks_at q.errand q.place).call (stamp_at_place q.place) = asked_has G q.errand q.place own (grips.drawn who.0 m.head.epoch m.head.number) in
      let drawn : G volume m.head.stamp = subst (λ (v : ℕ). G v m.head.stamp) in_it (subst (G (family_of call)) under (subst (λ (x : Call). Has G x (stamp_at_place q.place)) on.asks has)) in
      let same : m.head.stamp ≡ h.stamp = not_less h.stamp m.head.stamp low (λ less. no_later volume h.stamp m.head.stamp less drawn h.locked) in
      record {
        n = who.0;
        from = who.1;
        same = same;
        on = on;
        mending = mending_of q.errand call q.place on.asks own (λ t at. one s inputs who.0 m.head.epoch m.head.number h.n h.e h.k t mends (under ∙ (same ∙ sym h.under)) own at h.task);
      }

-- A lock that was taken by force is that of a recovery: whoever was given its stamp asked for force, and only recoveries do.
use Rattle.std.proofs.Common.{◌≡◌, ◌⊎◌, ◌≤◌, ◌<◌, ◌+◌, inl, inr, ℕ, ℤ, Bool, true, false, cond, List, [], ◌∷◌, ◌++◌, Option, Some, None, refl, sym, ap, subst, ◌∙◌, arith, nat_lt}
use Rattle.std.specs.Prelude.{⊤, length, not}
use Rattle.std.specs.List.{AllByRecursion}
use Rattle.afs_num.specs.Names.{volume_name_ok}
use Rattle.afs_num.specs.declared.location_calls.LocCall.{LocCall}
use Rattle.afs_num.specs.declared.location_calls.LocCall.TheVariants as calls
use Rattle.afs_num.specs.declared.location_calls.LocReply.{LocReply}
use Rattle.afs_num.specs.declared.location_calls.LocReply.TheVariants as replies
use Rattle.afs_num.specs.declared.messages.Call.{Call}
use Rattle.afs_num.specs.declared.messages.Call.TheVariants as ask
use Rattle.afs_num.specs.declared.messages.Carried.{Carried}
use Rattle.afs_num.specs.declared.messages.Carried.TheVariants as carried
use Rattle.afs_num.specs.declared.messages.Message.{Message}
use Rattle.afs_num.specs.declared.messages.Reply.{Reply}
use Rattle.afs_num.specs.declared.types.Head.{Head}
use Rattle.afs_num.specs.declared.types.Node.{Node}
use Rattle.afs_num.specs.declared.types.Node.TheVariants.{Admin, Client, Loc, Server}
use Rattle.spec_history.specs.declared.scripts.Script.{Script}
use Rattle.spec_ideal.specs.Tables.{get, set, Table}
use Rattle.spec_records.specs.LocDurable.{entries_after}
use Rattle.spec_records.specs.LocRecords.{Listed, Lock}
use Rattle.afs_num.specs.declared.location_calls.LocEntry.{LocEntry}
use Rattle.spec_rows.specs.LocRow.{is_force, loc_op, with_entry, LocChange, LocLasting, LocResult}
use Rattle.spec_rows.specs.LocRow as row
use Rattle.spec_adminrows.specs.Acts.{asks_at}
use Rattle.spec_adminrows.specs.Asks.{force_by}
use Rattle.spec_adminrows.specs.declared.places.Backing.TheVariants as backing
use Rattle.spec_adminrows.specs.declared.places.Creating.TheVariants as creating
use Rattle.spec_adminrows.specs.declared.places.Dumping.TheVariants as dumping
use Rattle.spec_adminrows.specs.declared.places.Mending.TheVariants as mending
use Rattle.spec_adminrows.specs.declared.places.Moving.TheVariants as moving
use Rattle.spec_adminrows.specs.declared.places.Place.{Place}
use Rattle.spec_adminrows.specs.declared.places.Place.TheVariants as places
use Rattle.spec_adminrows.specs.declared.places.Releasing.TheVariants as releasing
use Rattle.spec_adminrows.specs.declared.places.Removing.TheVariants as removing
use Rattle.spec_adminrows.specs.declared.places.Sweeping.TheVariants as sweeping
use Rattle.spec_adminrows.specs.declared.places.Touring.TheVariants as touring
use Rattle.spec_adminrows.specs.declared.places.Visiting.TheVariants as visiting
use Rattle.spec_adminrows.specs.declared.turns.Errand.{Errand}
use Rattle.spec_runs.specs.NodeRuns.{node_moved, node_start, CellInput, NodeCell}
use Rattle.law_walks.specs.Sends.{LocIs}
use Rattle.law_walks.proofs.AllMessages.{grows}
use Rattle.law_walks.proofs.Seats.{all_more, weaker_all, weaker_seats}
use Rattle.law_places.specs.Accepting.{cell_behind}
use Rattle.law_stamps.specs.Given.{given_by, given_in}
use Rattle.law_stamps.specs.Stamps.{next_stamp}
use Rattle.law_stamps.specs.Told.{entries_in}
use Rattle.law_stamps.proofs.Walk.{are_drawn}
use Rattle.law_families.specs.Entries.{AreKeyed}
use Rattle.law_courses.specs.Courses.{course_in, course_on, Course, IsOnCourse, IsUpTo, Question}
use Rattle.law_courses.proofs.Runs.{each_run, Stepped}
use Rattle.law_locks.specs.Lines.{AreInLine, LockIsLast}
use Rattle.law_locks.proofs.Walk.{grips_are_drawn, WasSent}
use Rattle.law_one_server.proofs.DatabaseAnswers.{answers_next, Answers, IsFresh, IsNoReply, IsRead, IsServedNow, IsWritten}
use Rattle.law_one_server.proofs.DatabaseSteps.{each_call, Is, OfCalls}
use Rattle.law_one_server.proofs.DatabaseDecides.{same_or, set_here, set_other}
use Rattle.law_recovered.proofs.Locks.{line_behind, lock_of, same_lock}

-- ---- who asks for force

abbrev pub forces : Errand → Place → Bool
forces e (places.Locks cause v) = is_force (force_by cause e.act)
forces e p = false

abbrev pub force_at : Question → Bool
force_at q = forces q.errand q.place

abbrev force_in : Call → Bool
force_in (ask.Location (calls.SetLock id operation force)) = is_force force
force_in call = false

asks_force : (e : Errand) (p : Place) → force_in (asks_at e p).call ≡ forces e p
asks_force e (places.Seeks cause) = refl
asks_force e (places.Locks cause v) = refl
asks_force e (places.Frees h code first) = refl
asks_force e (places.Creates f creating.Numbers) = refl
asks_force e (places.Creates f (creating.Enters v)) = refl
asks_force e (places.Creates f step) = refl
asks_force e (places.Adds h server) = refl
asks_force e (places.Backs h (backing.Numbers t)) = refl
asks_force e (places.Backs h step) = refl
asks_force e (places.Dumps s dumping.Stamps) = refl
asks_force e (places.Dumps s step) = refl
asks_force e (places.Releases h releasing.Stamps) = refl
asks_force e (places.Releases h step) = refl
asks_force e (places.Tours r touring.Writes) = refl
asks_force e (places.Tours r step) = refl
asks_force e (places.Visits r s visiting.Stamps) = refl
asks_force e (places.Visits r s step) = refl
asks_force e (places.Surveys h why s left seen) = refl
asks_force e (places.Plans h target) = refl
asks_force e (places.Moves m (moving.Decides new old)) = refl
asks_force e (places.Moves m step) = refl
asks_force e (places.Removes h seen (removing.Decides t)) = refl
asks_force e (places.Removes h seen step) = refl
asks_force e (places.Sweeps h spot left sweeping.Begins) = refl
asks_force e (places.Sweeps h spot left step) = refl
asks_force e (places.Asks cause h seen) = refl
asks_force e (places.Mends m mending.Frees) = refl
asks_force e (places.Mends m step) = refl

-- ---- what a reply gives

-- the locks of this stamp are taken so as the call asked
abbrev pub AreSo : NodeCell → ℕ → Bool → Type 0
AreSo c stamp forced = (volume : ℕ) (k : Lock) → lock_of (get volume (entries_in c)) ≡ Some k → k.stamp ≡ stamp → k.forced ≡ forced

abbrev pub GivesTo : Course → NodeCell → Head → ℕ → Node → Type 0
GivesTo course c head stamp (Admin n) = IsUpTo head.epoch head.number (c.admins n) × AreSo c stamp (force_at (course n head.epoch head.number))
GivesTo course c head stamp node = ⊤

abbrev pub IsGift : Course → NodeCell → Message → Type 0
IsGift course c m = (stamp : ℕ) → given_in m.carried ≡ Some stamp → m.head.from ≡ Loc → (stamp < next_stamp c) × GivesTo course c m.head stamp m.head.to

pub record AllGifts (course : Course) (c : NodeCell) : Type 0 where
  pub kept : LocIs (IsGift course c) c.loc.state
  pub sent : AllByRecursion (IsGift course c) c.sent

cell_more : (c : NodeCell) (xs : List CellInput) (x : CellInput) → cell_behind c (xs ++ x ∷ []) ≡ (node_moved (cell_behind c xs) x).cell
cell_more c [] x = refl
cell_more c (y ∷ xs) x = cell_more (node_moved c y).cell xs x

none_given : (x : Carried) (stamp : ℕ) → IsNoReply x → given_in x ≡ Some stamp → ⊥
none_given (carried.Reply reply) stamp k is = k
none_given (carried.Call user call) stamp k is = absurd cc
none_given (carried.Refusal code) stamp k is = absurd cc
none_given carried.Notice stamp k is = absurd cc

-- ---- a call that is served

-- a reading call gives none
module _ (d : LocLasting) (stamp : ℕ) where
  abbrev ReadsNone : LocResult → Type 0
  ReadsNone (row.reads reply) = given_by reply ≡ None
  ReadsNone (row.refused code) = ⊤
  ReadsNone (row.changes c) = ⊤

  either_reads : (b : Bool) (x y : LocResult) → ReadsNone x → ReadsNone y → ReadsNone (cond b x y)
  either_reads true x y h k = h
  either_reads false x y h k = k

  unless_reads : (b : Bool) (code : ℤ) (more : LocResult) → ReadsNone more → ReadsNone (cond b (row.refused code) more)
  unless_reads true code more h = tt
  unless_reads false code more h = h

  entry_reads : (o : Option Listed) (more : Listed → LocResult) → ((l : Listed) → ReadsNone (more l)) → ReadsNone (with_entry o more)
  entry_reads None more h = tt
  entry_reads (Some l) more h = h l

  read_reads : (o : Option Listed) (f : Listed → LocReply) → ((l : Listed) → given_by (f l) ≡ None) → ReadsNone (with_entry o (λ l. row.reads (f l)))
  read_reads None f h = tt
  read_reads (Some l) f h = h l

  lock_reads : (o : Option Listed) (more : Listed → LocResult) → ((l : Listed) → ReadsNone (more l)) → ReadsNone (row.with_lock stamp o more)
  lock_reads o more k = entry_reads o _ (λ l. either_reads (row.holds stamp l.lock) (more l) _ (k l) tt)

  fits_reads : (old : Option LocEntry) (new : LocEntry) (t : Table Listed) (more : LocResult) → ReadsNone more → ReadsNone (row.entry_fits old new t more)
  fits_reads old new t more h =
      unless_reads (not (volume_name_ok new.name)) row.bad_name _
      (unless_reads (row.any_other old (row.shares_id new) t) row.taken_id _
      (unless_reads (row.any_other old (row.is_named new.name) t) row.taken_name _ (unless_reads (nat_lt row.most_listed_sites (length new.sites)) row.too_many_sites more h)))

  for_reads : (operation force : ℕ) (l : Listed) → ReadsNone (row.locks_for d operation force l)
  for_reads operation force l =
      unless_reads (row.is_barred l.lock force) row.is_locked _
      (either_reads (row.is_operation operation) _ _ (either_reads (nat_lt d.next_stamp _) _ _ tt tt) tt)

  op_reads : (call : LocCall) → ReadsNone (loc_op stamp call d)
  op_reads (calls.CreateEntry e) = fits_reads None e d.entries _ (either_reads (nat_lt d.next_stamp _) _ _ tt tt)
  op_reads (calls.DeleteEntry id) = lock_reads _ _ (λ l. tt)
  op_reads (calls.GetEntryById id) = read_reads (row.found_id id d.entries) (λ l. replies.GetEntryById l.entry) (λ l. refl)
  op_reads (calls.GetEntryByName name) = read_reads (row.found_name name d.entries) (λ l. replies.GetEntryByName l.entry) (λ l. refl)
  op_reads calls.GetNewVolumeId = either_reads (nat_lt d.next_id _) _ _ tt tt
  op_reads (calls.ReplaceEntry id e) = lock_reads _ _ (λ l. fits_reads (Some l.entry) e d.entries _ tt)
  op_reads (calls.SetLock id operation force) = entry_reads _ _ (for_reads operation force)
  op_reads (calls.ReleaseLock id) = lock_reads _ _ (λ l. tt)
  op_reads (calls.ListEntry index) = read_reads (row.nth index (row.all_listed d.entries)) (λ l. replies.ListEntry (index + 1) l.entry) (λ l. refl)

lock_drawn : (f : ℕ → ℕ) (next key : ℕ) (k : Lock) (o : Option Lock) → LockIsLast f next key o → o ≡ Some k → k.stamp < next
lock_drawn f next key k None last is = absurd cc
lock_drawn f next key k (Some j) last is = let same : j ≡ k = cc in subst (λ (x : Lock). x.stamp < next) same last.drawn

entry_drawn : (f : ℕ → ℕ) (next : ℕ) (t : Table Listed) (line : AreInLine f next t) (volume : ℕ) (k : Lock) (o : Option Listed) → get volume t ≡ o → lock_of o ≡ Some k → k.stamp < next
entry_drawn f next t line volume k None at is = absurd cc
entry_drawn f next t line volume k (Some l) at is = lock_drawn f next volume k l.lock (line.locks volume l at) is

module _ (s : Script) (done : List CellInput) (x : CellInput) where
  abbrev c : NodeCell
  c = cell_behind (node_start s) done

  abbrev d : NodeCell
  d = (node_moved c x).cell

  abbrev lasting : LocLasting
  lasting = c.loc.state.lasting

  keyed : AreKeyed (entries_in c)
  keyed = let g = grips_are_drawn s done in record { ascends = g.line.ascends; keyed = g.line.keyed }

  below : (volume : ℕ) (k : Lock) → lock_of (get volume (entries_in c)) ≡ Some k → k.stamp < next_stamp c
  below volume k is = let g = grips_are_drawn s done in entry_drawn g.entry_of (next_stamp c) (entries_in c) g.line volume k (get volume (entries_in c)) refl is

  -- the locks of the new stamp, behind the call that drew it; and there is one
  record Drew (stamp : ℕ) (forced : Bool) (t : Table Listed) : Type 0 where
    so : (volume : ℕ) (k : Lock) → lock_of (get volume t) ≡ Some k → k.stamp ≡ stamp → k.forced ≡ forced
    key : ℕ
    lock : Lock
    there : lock_of (get key t) ≡ Some lock
    its : lock.stamp ≡ stamp

  abbrev R : LocCall → LocChange → Type 0
  R call change = (stamp : ℕ) → given_by change.reply ≡ Some stamp → Drew stamp (force_in (ask.Location call)) (entries_after change.deed lasting.entries)

  not_new : (volume : ℕ) (k : Lock) (X : Type 0) → lock_of (get volume (entries_in c)) ≡ Some k → k.stamp ≡ next_stamp c → X
  not_new volume k X is new = let low : k.stamp < next_stamp c = below volume k is in absurd (omega (arith, low, new))

  drew : (stamp key : ℕ) (l : Listed) (lock : Lock) → Some (next_stamp c) ≡ Some stamp → l.lock ≡ Some lock → lock.stamp ≡ next_stamp c → Drew stamp lock.forced (set key l lasting.entries)
  drew stamp key l lock gives own at =
      let new : next_stamp c ≡ stamp = cc in
      record {
        so = λ volume k is same. by volume k is (same ∙ sym new) (same_or volume key);
        key = key;
        lock = lock;
        there = ap lock_of (set_here key key l lasting.entries refl) ∙ own;
        its = at ∙ new;
      }
    where
      by : (volume : ℕ) (k : Lock) → lock_of (get volume (set key l lasting.entries)) ≡ Some k → k.stamp ≡ next_stamp c → (volume ≡ key) ⊎ (volume ≡ key → ⊥) → k.forced ≡ lock.forced
      by volume k is same (inl here) = let e : Some lock ≡ Some k = sym own ∙ (sym (ap lock_of (set_here key volume l lasting.entries here)) ∙ is) in let one : lock ≡ k = cc in ap (λ (y : Lock). y.forced) (sym one)
      by volume k is same (inr other) = not_new volume k _ (sym (ap lock_of (set_other key volume l lasting.entries other)) ∙ is) same

  of_calls : (stamp : ℕ) → OfCalls lasting stamp R
  of_calls b = record {
    locks = λ id operation force l at stamp gives. drew stamp l.entry.read_write _ _ gives refl refl;
    makes = λ e free stamp gives. drew stamp e.read_write _ _ gives refl refl;
    frees = λ id l at held stamp gives. absurd cc;
    writes = λ id e l at held stamp gives. absurd cc;
    deletes = λ id l at held stamp gives. absurd cc;
    draws = λ stamp gives. absurd cc;
  }

  read_none : (r : LocResult) (reply : LocReply) (stamp : ℕ) → r ≡ row.reads reply → ReadsNone lasting stamp r → given_by reply ≡ None
  read_none r reply stamp is h = subst (ReadsNone lasting stamp) is h

  served : (m : Message) (reply : LocReply) (z : IsServedNow c.loc.state (entries_in d) m reply) (stamp : ℕ) → given_by reply ≡ Some stamp → Drew stamp (force_in (ask.Location z.call)) (entries_in d)
  served m reply z stamp gives = by z.does
    where
      by : IsRead c.loc.state (entries_in d) m.head.stamp z.call reply ⊎ IsWritten c.loc.state (entries_in d) m.head.stamp z.call reply → Drew stamp (force_in (ask.Location z.call)) (entries_in d)
      by (inl k) = let none : None ≡ Some stamp = sym (read_none (loc_op m.head.stamp z.call lasting) reply m.head.stamp k.does (op_reads lasting m.head.stamp z.call)) ∙ gives in absurd cc
      by (inr k) = subst (Drew stamp (force_in (ask.Location z.call))) (sym k.leaves)
          (subst (Is lasting keyed m.head.stamp R (of_calls m.head.stamp) z.call) k.does (each_call lasting keyed m.head.stamp R (of_calls m.head.stamp) z.call) stamp (ap given_by k.replies ∙ gives))

  module _ (t : Stepped (course_in s done) c (node_moved c x)) where
    abbrev course : Course
    course = course_in s done

    abbrev later : Course
    later = course_on course d.admins

    abbrev Was : Message → Type 0
    Was = IsGift course c

    rises : next_stamp c ≤ next_stamp d
    rises = subst (λ (y : NodeCell). next_stamp c ≤ next_stamp y) (cell_more (node_start s) done x) (are_drawn.rises s done (x ∷ []))

    old_to : (head : Head) (stamp : ℕ) (node : Node) → stamp < next_stamp c → GivesTo course c head stamp node → GivesTo later d head stamp node
    old_to head stamp (Admin n) low h = (
      t.up n head.epoch head.number h.0,
      λ volume k is same.
          h.1 volume k (same_lock s done x volume k (subst (λ (b : ℕ). b < next_stamp c) (sym same) low) is) same ∙ ap force_at (sym (t.stays n head.epoch head.number h.0)),
    )
    old_to head stamp (Server i) low h = tt
    old_to head stamp (Client i) low h = tt
    old_to head stamp Loc low h = tt

    old : (m : Message) → Was m → IsGift later d m
    old m h stamp gives from = let z = h stamp gives from in (lower stamp (next_stamp c) (next_stamp d) z.0 rises, old_to m.head stamp m.head.to z.0 z.1)
      where
        lower : (a b e : ℕ) → a < b → b ≤ e → a < e
        lower a b e low up = omega (arith, low, up)

    new_to : (m : Message) (node : Node) (stamp : ℕ) (call : LocCall) (user : List ℕ) → m.head.from ≡ node → WasSent c.sent m → m.carried ≡ carried.Call user (ask.Location call) → Drew stamp (force_in (ask.Location call)) (entries_in d) → GivesTo later d m.head stamp node
    new_to m (Admin n) stamp call user from sent says z =
        let on : IsOnCourse course c.sent n (c.admins n) m.head (ask.Location call) = t.before.calls sent.0 n m user (ask.Location call) sent.1 from says in
        let q : Question = course n m.head.epoch m.head.number in
        let force : force_in (ask.Location call) ≡ force_at q = ap force_in (sym on.asks) ∙ asks_force q.errand q.place in
        (t.up n m.head.epoch m.head.number on.up_to, λ volume k is same. z.so volume k is same ∙ (force ∙ ap force_at (sym (t.stays n m.head.epoch m.head.number on.up_to))))
    new_to m (Server i) stamp call user from sent says z = tt
    new_to m (Client i) stamp call user from sent says z = tt
    new_to m Loc stamp call user from sent says z = tt

    new : (m : Message) → IsFresh (WasSent c.sent) c.loc.state (entries_in d) m → IsGift later d m
    new m f = subst (IsGift later d) (sym f.is) (λ stamp gives from.
        let z : Drew stamp (force_in (ask.Location f.served.call)) (entries_in d) = served f.m f.reply f.served stamp gives in
        let line = line_behind s done x in (
          subst (λ (b : ℕ). b < next_stamp d) z.its (entry_drawn line.0 (next_stamp d) (entries_in d) line.1 z.key z.lock (get z.key (entries_in d)) refl z.there),
          new_to f.m f.m.head.from stamp f.served.call f.served.user refl f.sent f.served.says z,
        ))

    either_gift : (m : Message) → Was m ⊎ IsFresh (WasSent c.sent) c.loc.state (entries_in d) m → IsGift later d m
    either_gift m (inl h) = old m h
    either_gift m (inr f) = new m f

    plain : (m : Message) → IsNoReply m.carried → Was m
    plain m k stamp gives from = absurd (none_given m.carried stamp k gives)

    others : (m : Message) → (m.head.from ≡ Loc → ⊥) → Was m
    others m other stamp gives from = absurd (other from)

    next_gifts : AllGifts course c → AllGifts later d
    next_gifts h =
        let a : Answers Was c (node_moved c x) = answers_next s done Was plain others h.kept x in
        record {
          kept = record { seats = weaker_seats _ (IsGift later d) d.loc.state.seats either_gift a.has.seats; kept = weaker_seats _ (IsGift later d) d.loc.state.lasting.kept either_gift a.has.kept };
          sent = subst (AllByRecursion (IsGift later d)) (sym (grows c x)) (all_more (IsGift later d) c.sent (node_moved c x).entry.sent (weaker_all Was (IsGift later d) c.sent old h.sent) (weaker_all _ (IsGift later d) (node_moved c x).entry.sent either_gift a.sent));
        }

pub all_gifts : (s : Script) (inputs : List CellInput) → AllGifts (course_in s inputs) (cell_behind (node_start s) inputs)
all_gifts s inputs = each_run s AllGifts (λ done x t h. next_gifts s done x t h) (record { kept = record { seats = tt; kept = tt }; sent = tt }) inputs

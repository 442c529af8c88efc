-- A removal goes on behind the deletion of its entry: then the location database has none, and never has one again.
use Rattle.std.proofs.Common.{◌≡◌, inl, inr, ℕ, true, List, [], ◌∷◌, ◌++◌, Option, Some, None, is_some, refl, sym, ap, subst, ◌∙◌, append-nil, append_assoc}
use Rattle.std.specs.Prelude.{⊤}
use Rattle.std.specs.List.{AllByRecursion}
use Rattle.afs_num.specs.declared.location_calls.LocCall.{LocCall}
use Rattle.afs_num.specs.declared.location_calls.LocCall.TheVariants as calls
use Rattle.afs_num.specs.declared.location_calls.LocReply.TheVariants as entries
use Rattle.afs_num.specs.declared.messages.Call.TheVariants as ask
use Rattle.afs_num.specs.declared.messages.Carried.TheVariants as carried
use Rattle.afs_num.specs.declared.messages.Message.{Message}
use Rattle.afs_num.specs.declared.messages.Reply.{Reply}
use Rattle.afs_num.specs.declared.messages.Reply.TheVariants as tell
use Rattle.afs_num.specs.declared.types.Code.{Code}
use Rattle.afs_num.specs.declared.types.Head.{Head}
use Rattle.afs_num.specs.declared.types.Key.{Key}
use Rattle.afs_num.specs.declared.types.Node.TheVariants.{Admin, Loc}
use Rattle.afs_num.specs.declared.volume_calls.VolReply.TheVariants as volumes
use Rattle.spec_history.specs.declared.scripts.AdminAct.{AdminAct}
use Rattle.spec_history.specs.declared.scripts.Script.{Script}
use Rattle.spec_ideal.specs.Tables.{get}
use Rattle.spec_records.specs.LocDurable.{entries_after}
use Rattle.spec_rows.specs.LocRow.{LocChange, LocLasting}
use Rattle.spec_rows.specs.Runs.{message_at}
use Rattle.spec_runs.specs.NodeRuns.{node_moved, node_start, CellInput, NodeCell}
use Rattle.spec_adminrows.specs.Acts.{answered, asks_at, begins_with, refused}
use Rattle.spec_adminrows.specs.Asks.{family, held_at_loc}
use Rattle.spec_adminrows.specs.Removing.{others_of, remove_answered, sweep_answered, sweeps}
use Rattle.spec_adminrows.specs.declared.places.Hold.{Hold}
use Rattle.spec_adminrows.specs.declared.places.Place.{Place}
use Rattle.spec_adminrows.specs.declared.places.Place.TheVariants as places
use Rattle.spec_adminrows.specs.declared.places.Removing.{Removing}
use Rattle.spec_adminrows.specs.declared.places.Removing.TheVariants as removing
use Rattle.spec_adminrows.specs.declared.places.Seen.{Seen}
use Rattle.spec_adminrows.specs.declared.places.Spot.{Spot}
use Rattle.spec_adminrows.specs.declared.places.Sweeping.{Sweeping}
use Rattle.spec_adminrows.specs.declared.places.Sweeping.TheVariants as sweeping
use Rattle.spec_adminrows.specs.declared.turns.Ask.{Ask}
use Rattle.spec_adminrows.specs.declared.turns.Errand.{Errand}
use Rattle.law_walks.proofs.Places.{create_is, TurnIs}
use Rattle.law_walks.proofs.Seats.{all_more, found_at, weaker_all}
use Rattle.law_places.specs.Accepting.{cell_behind}
use Rattle.law_stamps.specs.Stamps.{next_stamp}
use Rattle.law_stamps.specs.Told.{entries_in}
use Rattle.law_stored_stamps.proofs.Rising.{one_more}
use Rattle.law_keys.specs.Asked.{IsCall, WasSent}
use Rattle.law_keys.specs.Ran.{ran_by, ran_in, RanCall}
use Rattle.law_keys.specs.Replied.{is_told, tells_change, AnyOf, IsAnswered, WasRun}
use Rattle.law_keys.proofs.Answering.{any_all, were_run}
use Rattle.law_keys.proofs.Memories.{every_two}
use Rattle.law_keys.proofs.Sending.{ran_sent}
use Rattle.law_courses.specs.Courses.{course_in, course_on, no_course, Course, IsOnCourse, IsUpTo, Question, WasAnswered}
use Rattle.law_courses.proofs.Continuing.{leads_is}
use Rattle.law_courses.proofs.Runs.{asked_is, Stepped}
use Rattle.law_courses.proofs.Walk.{are_on_course, behind_more}
use Rattle.law_locks.specs.Grips.{grip_at, AreGripped, GripIs}
use Rattle.law_locks.specs.Lines.{IsDrawnFor}
use Rattle.law_locks.proofs.Walk.{grips_are_drawn}
use Rattle.law_numbers.specs.Numbers.{IsNumbered}
use Rattle.law_one_server.proofs.DatabaseChanges.{IsChanged}
use Rattle.law_one_server.proofs.DatabaseDecides.{held_of, unset_here}
use Rattle.law_one_server.proofs.DatabaseSteps.{each_call, Is, OfCalls}
use Rattle.law_one_server.proofs.FencesOnCourse.{call_in, IsSome}
use Rattle.law_one_server.proofs.FencesRan.{ran_more}
use Rattle.law_one_server.proofs.KnownWalk.{stepped}
use Rattle.law_new_volumes.proofs.GivenOnce.{keyed}
use Rattle.law_new_volumes.proofs.Listing.{ever_next, first_free, still_gone, EverListed, IsThere}
use Rattle.law_new_volumes.proofs.MadeOnce.{ever_listed}
use Rattle.law_new_volumes.proofs.Plain.{answered_out, first_out, refused_out, removed_at, IsPlain}
use Rattle.law_new_volumes.proofs.Served.{runs_there, ChangesNone, IsRun, RunsThere}

-- ---- by the places

some_hold : (h k : Hold) → Some h ≡ Some k → h ≡ k
some_hold h k e = cc

module _ (G : Hold → Type 0) where
  -- G is asked of what is removed, behind the deletion of the entry
  abbrev pub OfRemoved : Place → Type 0
  OfRemoved p = (h : Hold) → removed_at p ≡ Some h → G h

  none : (p : Place) → removed_at p ≡ None → OfRemoved p
  none p is h e = let no : None ≡ Some h = sym is ∙ e in absurd cc

  plain : (p : Place) → IsPlain p → OfRemoved p
  plain p is = none p is.not_removed

  sweeps_go : (h : Hold) (spots : List Spot) → G h → TurnIs OfRemoved (sweeps h spots)
  sweeps_go h [] g = tt
  sweeps_go h (spot ∷ left) g = λ k e. subst G (some_hold h k e) g

  -- the reply to the deletion
  abbrev pub IsDeletion : Place → Reply → Type 0
  IsDeletion (places.Removes h seen step) reply = (t : ℕ) → step ≡ removing.Decides t → reply ≡ tell.Location entries.DeleteEntry → G h
  IsDeletion p reply = ⊤

  remove_goes : (h : Hold) (seen : List Seen) (step : Removing) (reply : Reply) → OfRemoved (places.Removes h seen step) → IsDeletion (places.Removes h seen step) reply → TurnIs OfRemoved (remove_answered h seen step reply)
  remove_goes h seen removing.Begins (tell.Volume (volumes.TransCreate t)) g deleted = none (places.Removes h seen (removing.Fences t)) refl
  remove_goes h seen (removing.Fences t) (tell.Volume volumes.SetFlags) g deleted = none (places.Removes h seen (removing.Decides t)) refl
  remove_goes h seen (removing.Decides t) (tell.Location entries.DeleteEntry) g deleted = λ k e. subst G (some_hold h k e) (deleted t refl refl)
  remove_goes h seen (removing.Deletes t) (tell.Volume volumes.DeleteVolume) g deleted = sweeps_go h (others_of h seen) (g h refl)
  remove_goes h seen step reply g deleted = tt

  sweep_goes : (h : Hold) (spot : Spot) (left : List Spot) (step : Sweeping) (reply : Reply) → G h → TurnIs OfRemoved (sweep_answered h spot left step reply)
  sweep_goes h spot left sweeping.Begins (tell.Volume (volumes.TransCreate t)) g = λ k e. subst G (some_hold h k e) g
  sweep_goes h spot left (sweeping.Deletes t) (tell.Volume volumes.DeleteVolume) g = sweeps_go h left g
  sweep_goes h spot left step reply g = tt

  pub answered_removes : (e : Errand) (p : Place) (reply : Reply) → OfRemoved p → IsDeletion p reply → TurnIs OfRemoved (answered e p reply)
  answered_removes e (places.Creates f step) reply g deleted = create_is OfRemoved f step reply (λ at. none (places.Creates f at) refl)
  answered_removes e (places.Removes h seen step) reply g deleted = remove_goes h seen step reply g deleted
  answered_removes e (places.Sweeps h spot left step) reply g deleted = sweep_goes h spot left step reply (g h refl)
  answered_removes e (places.Seeks cause) reply g deleted = answered_out OfRemoved plain e (places.Seeks cause) reply tt
  answered_removes e (places.Locks cause v) reply g deleted = answered_out OfRemoved plain e (places.Locks cause v) reply tt
  answered_removes e (places.Frees h code first) reply g deleted = answered_out OfRemoved plain e (places.Frees h code first) reply tt
  answered_removes e (places.Adds h server) reply g deleted = answered_out OfRemoved plain e (places.Adds h server) reply tt
  answered_removes e (places.Backs h step) reply g deleted = answered_out OfRemoved plain e (places.Backs h step) reply tt
  answered_removes e (places.Dumps s step) reply g deleted = answered_out OfRemoved plain e (places.Dumps s step) reply tt
  answered_removes e (places.Releases h step) reply g deleted = answered_out OfRemoved plain e (places.Releases h step) reply tt
  answered_removes e (places.Tours r step) reply g deleted = answered_out OfRemoved plain e (places.Tours r step) reply tt
  answered_removes e (places.Visits r s step) reply g deleted = answered_out OfRemoved plain e (places.Visits r s step) reply tt
  answered_removes e (places.Surveys h why s left seen) reply g deleted = answered_out OfRemoved plain e (places.Surveys h why s left seen) reply tt
  answered_removes e (places.Plans h target) reply g deleted = answered_out OfRemoved plain e (places.Plans h target) reply tt
  answered_removes e (places.Moves m step) reply g deleted = answered_out OfRemoved plain e (places.Moves m step) reply tt
  answered_removes e (places.Asks cause h seen) reply g deleted = answered_out OfRemoved plain e (places.Asks cause h seen) reply tt
  answered_removes e (places.Mends m step) reply g deleted = answered_out OfRemoved plain e (places.Mends m step) reply tt

  pub refused_removes : (p : Place) (code : Code) → TurnIs OfRemoved (refused p code)
  refused_removes p code = refused_out OfRemoved plain p code

  pub first_removes : (act : AdminAct) (held : Option (List ℕ)) → TurnIs OfRemoved (begins_with act held)
  first_removes act held = first_out OfRemoved plain act held

-- ---- an entry that is gone

-- The database had an entry of the volume, and has none. So it never has one again.
pub record HasGone (first : ℕ) (c : NodeCell) (volume : ℕ) : Type 0 where
  pub ever : EverListed first c volume
  pub none_left : get volume (entries_in c) ≡ None

gone_next : (s : Script) (inputs : List CellInput) (x : CellInput) (v : ℕ) → HasGone (first_free s) (cell_behind (node_start s) inputs) v → HasGone (first_free s) (cell_behind (node_start s) (inputs ++ x ∷ [])) v
gone_next s inputs x v g = record {
  ever = ever_next s inputs x v g.ever;
  none_left = subst (λ (y : NodeCell). get v (entries_in y) ≡ None) (sym (one_more (node_start s) inputs x)) (still_gone s inputs x v g.ever g.none_left);
}

-- ---- a call that deletes

module _ (s : Script) (inputs : List CellInput) where
  abbrev c : NodeCell
  c = cell_behind (node_start s) inputs

  abbrev course : Course
  course = course_in s inputs

  abbrev grips : AreGripped course c
  grips = grips_are_drawn s inputs

  abbrev lasting : LocLasting
  lasting = c.loc.state.lasting

  -- under a stamp of this entry it takes this away
  record TakesAway (v : ℕ) (x : LocChange) : Type 0 where
    was : IsThere v (entries_in c)
    now : get v (entries_after x.deed (entries_in c)) ≡ None

  abbrev Takes : ℕ → LocCall → LocChange → Type 0
  Takes stamp call x = (id v : ℕ) → call ≡ calls.DeleteEntry id → grips.entry_of stamp ≡ v → TakesAway v x

  of_calls : (stamp : ℕ) → OfCalls lasting stamp (Takes stamp)
  of_calls stamp = record {
    locks = λ id operation force l at other v e is. absurd cc;
    makes = λ e free other v e' is. absurd cc;
    frees = λ id l at held other v e is. absurd cc;
    writes = λ id e l at held other v e' is. absurd cc;
    deletes = λ id l at held other v e is.
        let key : l.entry.read_write ≡ v = sym (held_of grips.entry_of (next_stamp c) l.entry.read_write stamp l.lock (grips.line.locks l.entry.read_write l at) held) ∙ is in
        record { was = ap is_some (subst (λ (w : ℕ). get w (entries_in c) ≡ Some l) key at); now = unset_here l.entry.read_write v (entries_in c) (sym key) };
    draws = λ other v e is. absurd cc;
  }

  module _ (d : NodeCell) (k : IsChanged c d) (n : ℕ) (from : k.m.head.from ≡ Admin n) (h : Hold) (seen : List Seen) (t : ℕ) (at : (course n k.m.head.epoch k.m.head.number).place ≡ places.Removes h seen (removing.Decides t)) where
    abbrev q : Question
    q = course n k.m.head.epoch k.m.head.number

    on : IsOnCourse course c.sent n (c.admins n) k.m.head (ask.Location k.served.call)
    on = (are_on_course.on s inputs).calls k.sent.0 n k.m k.served.user (ask.Location k.served.call) k.sent.1 from k.served.says

    asks_is : (e : Errand) (p : Place) → p ≡ places.Removes h seen (removing.Decides t) → (asks_at e p ≡ held_at_loc h (calls.DeleteEntry (family h)))
    asks_is e p is = ap (asks_at e) is

    call_is : k.served.call ≡ calls.DeleteEntry (family h)
    call_is = let same : ask.Location k.served.call ≡ ask.Location (calls.DeleteEntry (family h)) = sym on.asks ∙ ap (λ (a : Ask). a.call) (asks_is q.errand q.place at) in cc

    stamp_is : k.m.head.stamp ≡ h.stamp
    stamp_is = on.stamp ∙ ap (λ (a : Ask). a.stamp) (asks_is q.errand q.place at)

    drawn : IsDrawnFor grips.entry_of (next_stamp c) (family h) h.stamp
    drawn = subst (GripIs (IsDrawnFor grips.entry_of (next_stamp c))) (ap grip_at at) (grips.drawn n k.m.head.epoch k.m.head.number)

    taken : TakesAway (family h) k.change
    taken =
        let does : Takes k.m.head.stamp k.served.call k.change = subst (Is lasting (keyed s inputs) k.m.head.stamp (Takes k.m.head.stamp) (of_calls k.m.head.stamp) k.served.call) k.served.does (each_call lasting (keyed s inputs) k.m.head.stamp (Takes k.m.head.stamp) (of_calls k.m.head.stamp) k.served.call) in
        does (family h) (family h) call_is (ap grips.entry_of stamp_is ∙ drawn.1)

-- ---- the walk

module _ (s : Script) (numbered : IsNumbered s) where
  abbrev cell : List CellInput → NodeCell
  cell done = cell_behind (node_start s) done

  abbrev Gone : NodeCell → Hold → Type 0
  Gone y h = HasGone (first_free s) y (family h)

  abbrev DeletesAt : NodeCell → Place → Type 0
  DeletesAt y p = (h : Hold) (seen : List Seen) (t : ℕ) → p ≡ places.Removes h seen (removing.Decides t) → Gone y h

  -- of each call of an administrator that changed something at the database
  abbrev IsDeleted : Course → NodeCell → RanCall → Type 0
  IsDeleted f y r = (n : ℕ) → r.callee ≡ Loc → r.head.from ≡ Admin n → r.changed ≡ true → DeletesAt y (f n r.head.epoch r.head.number).place

  pub record AreGone (done : List CellInput) : Type 0 where
    pub deleted : AllByRecursion (IsDeleted (course_in s done) (cell done)) (ran_in (node_start s) done)
    pub behind : (n e k : ℕ) → OfRemoved (Gone (cell done)) (course_in s done n e k).place

  module _ (done : List CellInput) (x : CellInput) (z : AreGone done) where
    abbrev old : NodeCell
    old = cell done

    abbrev new : NodeCell
    new = (node_moved old x).cell

    abbrev more : List CellInput
    more = done ++ x ∷ []

    abbrev was : Course
    was = course_in s done

    abbrev next : Course
    next = course_on was new.admins

    steps : Stepped was old (node_moved old x)
    steps = stepped s done x

    cell_is : cell more ≡ new
    cell_is = one_more (node_start s) done x

    course_is : course_in s more ≡ next
    course_is = behind_more no_course (node_start s) done (x ∷ [])

    stays : (h : Hold) → Gone old h → Gone new h
    stays h g = subst (λ (y : NodeCell). Gone y h) cell_is (gone_next s done x (family h) g)

    up_to : (n place : ℕ) (m : Message) → message_at old.sent place ≡ Some m → IsCall m.carried → m.head.from ≡ Admin n → IsUpTo m.head.epoch m.head.number (old.admins n)
    up_to n place m at call from = let q : IsSome m.carried = call_in m.carried call in (steps.before.calls place n m q.user q.call at from q.is).up_to

    same_place : (n e k : ℕ) → IsUpTo e k (old.admins n) → (next n e k).place ≡ (was n e k).place
    same_place n e k up = ap (λ (q : Question). q.place) (steps.stays n e k up)

    old_one : (r : RanCall) → IsDeleted was old r → WasSent old r → IsDeleted next new r
    old_one r k w n callee from changed h seen t at =
        let up : IsUpTo r.head.epoch r.head.number (old.admins n) = subst (λ (a : Head). IsUpTo a.epoch a.number (old.admins n)) w.head (up_to n w.place w.message w.at w.is_call (ap (λ (a : Head). a.from) w.head ∙ from)) in
        stays h (k n callee from changed h seen t (sym (same_place n r.head.epoch r.head.number up) ∙ at))

    is_call : (user : List ℕ) (call : LocCall) (m : Message) → m.carried ≡ carried.Call user (ask.Location call) → IsCall m.carried
    is_call user call m says = subst IsCall (sym says) tt

    -- a call that runs now
    run_now : (k : IsRun old new (ran_by old x)) → IsDeleted next new (record { callee = Loc; boot = k.boot; head = k.changed.m.head; changed = true })
    run_now k n callee from changed h seen t at =
        let m : Message = k.changed.m in
        let up : IsUpTo m.head.epoch m.head.number (old.admins n) = up_to n k.changed.sent.0 m k.changed.sent.1 (is_call k.changed.served.user k.changed.served.call m k.changed.served.says) from in
        let y : TakesAway s done (family h) k.changed.change = taken s done new k.changed n from h seen t (sym (same_place n m.head.epoch m.head.number up) ∙ at) in
        record {
          ever = subst (λ (w : NodeCell). EverListed (first_free s) w (family h)) cell_is (ever_next s done x (family h) (ever_listed s done numbered (family h) y.was));
          none_left = ap (get (family h)) k.changed.entries ∙ y.now;
        }

    runs_now : RunsThere old new (ran_by old x) → AllByRecursion (IsDeleted next new) (ran_by old x)
    runs_now (inl quiet) = weaker_all ChangesNone (IsDeleted next new) (ran_by old x) (λ r k n callee from changed. absurd (k callee changed)) quiet.none
    runs_now (inr k) = subst (AllByRecursion (IsDeleted next new)) (sym k.ran) (run_now k, tt)

    deleted_next : AllByRecursion (IsDeleted next new) (ran_in (node_start s) done ++ ran_by old x)
    deleted_next =
        all_more (IsDeleted next new) (ran_in (node_start s) done) (ran_by old x) (every_two (IsDeleted was old) (WasSent old) (IsDeleted next new) (ran_in (node_start s) done) old_one z.deleted (ran_sent s done)) (runs_now (runs_there s done x))

    -- ---- an answer to the deletion tells that it ran

    module _ (n e k : ℕ) (q : Question) (w : WasAnswered old.sent n e k (was n e k) q) where
      abbrev b : Question
      b = was n e k

      ran_so : (h : Hold) (seen : List Seen) (t : ℕ) → b.place ≡ places.Removes h seen (removing.Decides t) → w.reply ≡ tell.Location entries.DeleteEntry → Gone old h
      ran_so h seen t at says =
          let told : w.m.carried ≡ carried.Reply (tell.Location entries.DeleteEntry) = w.says ∙ ap carried.Reply says in
          let run : AnyOf (λ (r : RanCall). IsAnswered r w.m) (ran_in (node_start s) done) = found_at (WasRun (ran_in (node_start s) done)) w.place old.sent w.m (were_run s done).sent w.there (ap is_told told) in
          any_all (λ (r : RanCall). IsAnswered r w.m) (IsDeleted was old) (Gone old h) (ran_in (node_start s) done) (λ r a d. by r a d told) run z.deleted
        where
          callee_is : w.m.head.from ≡ Loc
          callee_is = w.callee ∙ ap (λ (p : Place). (asks_at b.errand p).callee) at

          by : (r : RanCall) → IsAnswered r w.m → IsDeleted was old r → w.m.carried ≡ carried.Reply (tell.Location entries.DeleteEntry) → Gone old h
          by r a d told =
              let from : r.head.from ≡ Admin n = ap (λ (y : Key). y.node) a.key ∙ w.to in
              let epoch : r.head.epoch ≡ e = ap (λ (y : Key). y.epoch) a.key ∙ w.in_epoch in
              let number : r.head.number ≡ k = ap (λ (y : Key). y.number) a.key ∙ w.of_number in
              let same : (was n r.head.epoch r.head.number).place ≡ b.place = ap (λ (y : ℕ). (was n y r.head.number).place) epoch ∙ ap (λ (y : ℕ). (was n e y).place) number in
              d n (a.callee ∙ callee_is) from (a.changed (ap tells_change told)) h seen t (same ∙ at)

      deletion : (p : Place) → b.place ≡ p → IsDeletion (Gone old) p w.reply
      deletion (places.Removes h seen step) at = λ t is says. ran_so h seen t (at ∙ ap (places.Removes h seen) is) says
      deletion p at = tt

      answers : OfRemoved (Gone old) q.place
      answers = leads_is (OfRemoved (Gone old)) q.place (answered b.errand b.place w.reply) (answered_removes (Gone old) b.errand b.place w.reply (z.behind n e k) (deletion b.place refl)) w.leads

    behind_next : (n e k : ℕ) → OfRemoved (Gone new) (next n e k).place
    behind_next n e k h is =
        stays h (asked_is was old (node_moved old x) steps (OfRemoved (Gone old)) z.behind
        (λ q y. leads_is (OfRemoved (Gone old)) q.place (begins_with q.errand.act y.0) (first_removes (Gone old) q.errand.act y.0) y.1)
        answers
        (λ p code q y l. leads_is (OfRemoved (Gone old)) q (refused p code) (refused_removes (Gone old) p code) l) n e k h is)

    gone_on_next : AreGone more
    gone_on_next = record {
      deleted = subst (AllByRecursion (IsDeleted (course_in s more) (cell more))) (sym (ran_more (node_start s) done x))
          (subst (λ (f : Course). AllByRecursion (IsDeleted f (cell more)) (ran_in (node_start s) done ++ ran_by old x)) (sym course_is) (subst (λ (y : NodeCell). AllByRecursion (IsDeleted next y) (ran_in (node_start s) done ++ ran_by old x)) (sym cell_is) deleted_next));
      behind = subst (λ (f : Course). (n e k : ℕ) → OfRemoved (Gone (cell more)) (f n e k).place) (sym course_is) (subst (λ (y : NodeCell). (n e k : ℕ) → OfRemoved (Gone y) (next n e k).place) (sym cell_is) behind_next);
    }

  first_gone : AreGone []
  first_gone = record { deleted = tt; behind = λ n e k h is. absurd cc }

  on_led : (done xs : List CellInput) → AreGone done → AreGone (done ++ xs)
  on_led done [] h = subst AreGone (sym (append-nil done)) h
  on_led done (x ∷ xs) h = subst AreGone (append_assoc done (x ∷ []) xs) (on_led (done ++ x ∷ []) xs (gone_on_next done x h))

  pub are_gone : (inputs : List CellInput) → AreGone inputs
  are_gone inputs = on_led [] inputs first_gone

-- The walk of fences: what an act knows behind its fence is known of each fence that ran, as long as what it looks at is left.
use Rattle.std.proofs.Common.{◌≡◌, ◌⊎◌, ◌≤◌, ◌<◌, inl, inr, ℕ, ◌+◌, zero, suc, Bool, true, false, cond, List, [], ◌∷◌, ◌++◌, Option, Some, None, refl, sym, ap, subst, ◌∙◌, arith, append-nil, append_assoc}
use Rattle.std.specs.Prelude.{⊤}
use Rattle.std.specs.List.{AllByRecursion}
use Rattle.afs_num.specs.declared.messages.Call.{Call}
use Rattle.afs_num.specs.declared.messages.Carried.{Carried}
use Rattle.afs_num.specs.declared.messages.Carried.TheVariants as carried
use Rattle.afs_num.specs.declared.messages.Message.{Message}
use Rattle.afs_num.specs.declared.messages.Received.TheVariants.{Whole}
use Rattle.afs_num.specs.declared.records.RecordBody.{RecordBody}
use Rattle.afs_num.specs.declared.records.RecordBody.TheVariants as bodies
use Rattle.afs_num.specs.declared.types.Head.{Head}
use Rattle.afs_num.specs.declared.types.Node.{Node}
use Rattle.afs_num.specs.declared.types.Node.TheVariants.{Admin, Server}
use Rattle.spec_history.specs.declared.scripts.Script.{Script}
use Rattle.spec_adminrows.specs.Asks.{closed, family, home}
use Rattle.spec_adminrows.specs.declared.places.Hold.{Hold}
use Rattle.spec_adminrows.specs.declared.places.Moving.TheVariants as moving
use Rattle.spec_adminrows.specs.declared.places.Place.{Place}
use Rattle.spec_adminrows.specs.declared.places.Place.TheVariants as places
use Rattle.spec_adminrows.specs.declared.places.Removing.TheVariants as removing
use Rattle.spec_adminrows.specs.declared.places.Trip.{Trip}
use Rattle.spec_fold.specs.Deeds.{done_by}
use Rattle.spec_records.specs.Durable.{Durable}
use Rattle.spec_rows.specs.Runs.{message_at}
use Rattle.spec_rows.specs.ServerRow.{is_client}
use Rattle.spec_volrows.specs.VolStates.{VolState}
use Rattle.spec_volrows.specs.VolSteps.{saves, vol_decides, vol_hears, Deed}
use Rattle.spec_runs.specs.NodeRuns.{has_host, node_moved, node_start, CellInput, NodeCell}
use Rattle.law_places.specs.Accepting.{cell_behind, serves_at}
use Rattle.law_stamps.specs.Stamps.{stored_stamp}
use Rattle.law_stored_stamps.specs.Surveys.{IsStored, IsSurveyed}
use Rattle.law_keys.specs.Asked.{IsCall, WasSent}
use Rattle.law_keys.specs.Ran.{ran_by, ran_in, RanCall}
use Rattle.law_keys.proofs.Memories.{every_two}
use Rattle.law_keys.proofs.Sending.{ran_sent}
use Rattle.law_walks.proofs.Seats.{all_more, weaker_all}
use Rattle.law_courses.specs.Courses.{course_on, AreOnCourse, Course, IsOnCourse, IsUpTo, Question}
use Rattle.law_courses.proofs.Runs.{Stepped}
use Rattle.law_fences.specs.Fences.{disk_at, IsFence, SetsFlags}
use Rattle.law_fences.proofs.Shutting.{flags_written}
use Rattle.law_one_server.specs.Knows.{IsHome, IsHomeOr, IsMovedOr, Knows}
use Rattle.law_one_server.proofs.FencesClose.{fence_rests, says_set}
use Rattle.law_one_server.proofs.FencesOnCourse.{call_in, fence_of, fence_stamp, FenceAt, IsSome}
use Rattle.law_one_server.proofs.CallsRun.{are_done, AreDone, DoneAt, IsDone, IsLeft}

-- ---- what is known behind a fence

-- by the fence's place: what the act knows at the next one
abbrev pub KnowsBehind : NodeCell → Place → Type 0
KnowsBehind c (places.Moves m (moving.Fences counter new old)) = Knows c (places.Moves m (moving.Fills counter new old))
KnowsBehind c (places.Removes h seen (removing.Fences t)) = Knows c (places.Removes h seen (removing.Decides t))
KnowsBehind c p = ⊤

-- of each call of an administrator that changed something at a server
abbrev pub IsFenced : Course → NodeCell → RanCall → Type 0
IsFenced course c r = (n i : ℕ) → r.callee ≡ Server i → r.head.from ≡ Admin n → r.changed ≡ true → KnowsBehind c (course n r.head.epoch r.head.number).place

abbrev pub AreFenced : Course → NodeCell → List RanCall → Type 0
AreFenced course c rs = AllByRecursion (IsFenced course c) rs

-- ---- a step

module _ (s : Script) (inputs : List CellInput) (x : CellInput) (course : Course) where
  abbrev c : NodeCell
  c = cell_behind (node_start s) inputs

  abbrev d : NodeCell
  d = (node_moved c x).cell

  abbrev later : Course
  later = course_on course d.admins

  -- what the walk gives at each question
  pub record Facts : Type 0 where
    pub steps : Stepped course c (node_moved c x)
    pub goes : (n e k : ℕ) → Knows d (course n e k).place
    pub stays : (n e k : ℕ) → KnowsBehind c (course n e k).place → KnowsBehind d (course n e k).place
    pub surveyed : (n e k : ℕ) → IsSurveyed c (course n e k).place
    pub some : (n e k t : ℕ) (h : Hold) → FenceAt h t (course n e k).place → h.stamp ≡ 0 → ⊥
    pub none : (n e t : ℕ) (h : Hold) → FenceAt h t (course n e zero).place → ⊥

  module _ (f : Facts) where
    -- ---- a fence that runs now

    -- a decision is on a call
    calls_by : (me : Node) (dur : Durable) (v : VolState) (head h : Head) (y : Carried) (z : Deed) → vol_hears me dur v head y ≡ saves h z → IsCall y
    calls_by me dur v head h (carried.Call user call) z is = tt
    calls_by me dur v head h (carried.Refusal code) z is = absurd cc
    calls_by me dur v head h (carried.Reply reply) z is = absurd cc
    calls_by me dur v head h carried.Notice z is = absurd cc

    module _ (n : ℕ) (r : RanCall) (i : ℕ) (z : IsDone c d i r) (from : z.m.head.from ≡ Admin n) where
      some_call : IsSome z.m.carried
      some_call = call_in z.m.carried (calls_by (Server i) (disk_at c i) (c.hosts i).state.vol z.m.head z.under z.m.carried z.x z.decides)

      module _ (h : Hold) (t : ℕ) (at : FenceAt h t (course n z.m.head.epoch z.m.head.number).place) (stored : IsStored c (family h) h.stamp []) where
        rests_by : (k : ℕ) → z.m.head.number ≡ k → serves_at d (family h) (home h) ≡ false
        rests_by zero is = absurd (f.none n z.m.head.epoch t h (subst (λ (j : ℕ). FenceAt h t (course n z.m.head.epoch j).place) is at))
        rests_by (suc k) is =
            let there : FenceAt h t (course n z.m.head.epoch (suc k)).place = subst (λ (j : ℕ). FenceAt h t (course n z.m.head.epoch j).place) is at in
            let at_home : IsFence c n (home h) z.m.head.epoch k (family h) closed z.m =
            fence_of s inputs course f.steps.before z.place n k h t z.m some_call.user some_call.call z.sent from some_call.is is there (f.some n z.m.head.epoch (suc k) t h there) in
            let under : z.m.head.stamp ≡ h.stamp = fence_stamp s inputs course f.steps.before z.place n k h t z.m some_call.user some_call.call z.sent from some_call.is is there in
            let server : home h ≡ i = (let e : Server (home h) ≡ Server i = sym at_home.sent.to ∙ z.to in cc) in
            let fence : IsFence c n i z.m.head.epoch k (family h) closed z.m = subst (λ (j : ℕ). IsFence c n j z.m.head.epoch k (family h) closed z.m) server at_home in
            let low : h.stamp ≤ stored_stamp c i (family h) = stored i z.host refl in
            let its_low : z.m.head.stamp ≤ stored_stamp c i (family h) = subst (λ (b : ℕ). b ≤ stored_stamp c i (family h)) (sym under) low in
            let sets : SetsFlags c i z.m z.x = record { live = z.live; head = z.under; decides = z.decides; says = says_set (Server i) (disk_at c i) (c.hosts i).state.vol z.m (family h) fence.transaction closed fence.user z.under z.x fence.asks its_low z.decides } in
            let body : z.x.body ≡ bodies.Flags (family h) closed = flags_written s inputs n i z.m.head.epoch k (family h) closed z.m z.x fence sets in
            let left : IsLeft (done_by (bodies.Flags (family h) closed) (disk_at c i)).volumes (d.hosts i).state.file.lasting.volumes = subst (λ (w : RecordBody). IsLeft (done_by w (disk_at c i)).volumes (d.hosts i).state.file.lasting.volumes) body z.left in
            subst (λ (j : ℕ). serves_at d (family h) j ≡ false) (sym server) (fence_rests (disk_at c i) (family h) (d.hosts i).state.file.lasting.volumes left)

      rests : (h : Hold) (t : ℕ) → FenceAt h t (course n z.m.head.epoch z.m.head.number).place → IsStored c (family h) h.stamp [] → serves_at d (family h) (home h) ≡ false
      rests h t at stored = rests_by h t at stored z.m.head.number refl

      -- then what the act knows behind it
      new_by : (p : Place) → (course n z.m.head.epoch z.m.head.number).place ≡ p → KnowsBehind d p
      new_by (places.Moves m (moving.Fences counter new old)) is =
          let q : Place = (course n z.m.head.epoch z.m.head.number).place in
          let closed' : serves_at d (family m.hold) (home m.hold) ≡ false = rests m.hold old (subst (FenceAt m.hold old) (sym is) (refl, refl)) (subst (IsSurveyed c) is (f.surveyed n z.m.head.epoch z.m.head.number)) in
          let home' : IsHomeOr d m.hold m.target = subst (Knows d) is (f.goes n z.m.head.epoch z.m.head.number) in
          elim home' [ inl named ↦ inl named | inr at ↦ inr (at, inl closed') ]
      new_by (places.Removes h seen (removing.Fences t)) is =
          let closed' : serves_at d (family h) (home h) ≡ false = rests h t (subst (FenceAt h t) (sym is) (refl, refl)) (subst (IsSurveyed c) is (f.surveyed n z.m.head.epoch z.m.head.number)) in
          (subst (Knows d) is (f.goes n z.m.head.epoch z.m.head.number), inl closed')
      new_by p is = tt

    -- ---- the calls that ran, before and now

    same_place : (n e k : ℕ) → IsUpTo e k (c.admins n) → (later n e k).place ≡ (course n e k).place
    same_place n e k up = ap (λ (q : Question). q.place) (f.steps.stays n e k up)

    -- a call that was sent is on its course
    up_to : (n place : ℕ) (m : Message) → message_at c.sent place ≡ Some m → IsCall m.carried → m.head.from ≡ Admin n → IsUpTo m.head.epoch m.head.number (c.admins n)
    up_to n place m at call from = let q : IsSome m.carried = call_in m.carried call in (f.steps.before.calls place n m q.user q.call at from q.is).up_to

    was_up_to : (n : ℕ) (r : RanCall) → WasSent c r → r.head.from ≡ Admin n → IsUpTo r.head.epoch r.head.number (c.admins n)
    was_up_to n r w from =
        subst (λ (h : Head). IsUpTo h.epoch h.number (c.admins n)) w.head (up_to n w.place w.message w.at w.is_call (ap (λ (h : Head). h.from) w.head ∙ from))

    old_one : (r : RanCall) → IsFenced course c r → WasSent c r → IsFenced later d r
    old_one r k w n i callee from changed =
        subst (KnowsBehind d) (sym (same_place n r.head.epoch r.head.number (was_up_to n r w from)))
        (f.stays n r.head.epoch r.head.number (k n i callee from changed))

    new_one : (r : RanCall) → DoneAt c d r → IsFenced later d r
    new_one r done n i callee from changed =
        let z : IsDone c d i r = done i callee changed (ap is_client from) in
        let its : z.m.head.from ≡ Admin n = ap (λ (h : Head). h.from) (sym z.head) ∙ from in
        let up : IsUpTo z.m.head.epoch z.m.head.number (c.admins n) = up_to n z.place z.m z.sent (calls_by (Server i) (disk_at c i) (c.hosts i).state.vol z.m.head z.under z.m.carried z.x z.decides) its in
        subst (λ (h : Head). KnowsBehind d (later n h.epoch h.number).place) (sym z.head)
        (subst (KnowsBehind d) (sym (same_place n z.m.head.epoch z.m.head.number up)) (new_by n r i z its (course n z.m.head.epoch z.m.head.number).place refl))

    -- So it goes on: with the calls that the input runs.
    pub fenced_next : AreFenced course c (ran_in (node_start s) inputs) → AreFenced later d (ran_in (node_start s) inputs ++ ran_by c x)
    fenced_next k =
        all_more (IsFenced later d) (ran_in (node_start s) inputs) (ran_by c x) (every_two (IsFenced course c) (WasSent c) (IsFenced later d) (ran_in (node_start s) inputs) old_one k (ran_sent s inputs))
        (weaker_all (DoneAt c d) (IsFenced later d) (ran_by c x) new_one (are_done s inputs x))

-- the calls behind one more input
pub ran_more : (c : NodeCell) (xs : List CellInput) (x : CellInput) → ran_in c (xs ++ x ∷ []) ≡ ran_in c xs ++ ran_by (cell_behind c xs) x
ran_more c [] x = append-nil (ran_by c x)
ran_more c (y ∷ ys) x = ap (λ (rs : List RanCall). ran_by c y ++ rs) (ran_more (node_moved c y).cell ys x) ∙ sym (append_assoc (ran_by c y) (ran_in (node_moved c y).cell ys) (ran_by (cell_behind (node_moved c y).cell ys) x))

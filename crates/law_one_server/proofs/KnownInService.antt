-- Through a step that isn't the location database's every act knows what it knew, and volumes are in service where the database says: for who
-- brings one into service knows where it belongs.
use Rattle.std.proofs.Common.{◌≡◌, ◌⊎◌, ◌≤◌, ◌<◌, inl, inr, ℕ, Bool, true, false, List, [], Option, Some, None, refl, sym, ap, subst, ◌∙◌, arith, nat_eq, eqb-true, eq-eqb}
use Rattle.std.proofs.Math.Nat.{le_trans}
use Rattle.std.proofs.lemmas.Bool.{cases_lt}
use Rattle.std.specs.Prelude.{⊤, ◌&&◌, is_some}
use Rattle.afs_num.specs.declared.messages.Call.{Call}
use Rattle.afs_num.specs.declared.messages.Call.TheVariants as ask
use Rattle.afs_num.specs.declared.messages.Carried.TheVariants as carried
use Rattle.afs_num.specs.declared.messages.Message.{Message}
use Rattle.afs_num.specs.declared.types.Node.{Node}
use Rattle.afs_num.specs.declared.types.Node.TheVariants.{Admin, Client, Loc, Server}
use Rattle.afs_num.specs.declared.volume_calls.VolCall.{VolCall}
use Rattle.afs_num.specs.declared.volume_calls.VolCall.TheVariants as calls
use Rattle.spec_ideal.specs.Tables.{get}
use Rattle.spec_records.specs.LocRecords.{Listed, Lock}
use Rattle.spec_adminrows.specs.Acts.{asks_at}
use Rattle.spec_adminrows.specs.Asks.{family, home}
use Rattle.spec_adminrows.specs.declared.places.Backing.TheVariants as backing
use Rattle.spec_adminrows.specs.declared.places.Creating.{Creating}
use Rattle.spec_adminrows.specs.declared.places.Creating.TheVariants as creating
use Rattle.spec_adminrows.specs.declared.places.Dumping.TheVariants as dumping
use Rattle.spec_adminrows.specs.declared.places.Hold.{Hold}
use Rattle.spec_adminrows.specs.declared.places.Mending.TheVariants as mending
use Rattle.spec_adminrows.specs.declared.places.Moving.{Moving}
use Rattle.spec_adminrows.specs.declared.places.Moving.TheVariants as moving
use Rattle.spec_adminrows.specs.declared.places.Place.{Place}
use Rattle.spec_adminrows.specs.declared.places.Place.TheVariants as places
use Rattle.spec_adminrows.specs.declared.places.Purpose.{Purpose}
use Rattle.spec_adminrows.specs.declared.places.Purpose.TheVariants as purposes
use Rattle.spec_adminrows.specs.declared.places.Releasing.TheVariants as releasing
use Rattle.spec_adminrows.specs.declared.places.Removing.{Removing}
use Rattle.spec_adminrows.specs.declared.places.Removing.TheVariants as removing
use Rattle.spec_adminrows.specs.declared.places.Sweeping.TheVariants as sweeping
use Rattle.spec_adminrows.specs.declared.places.Tour.{Tour}
use Rattle.spec_adminrows.specs.declared.places.Touring.TheVariants as touring
use Rattle.spec_adminrows.specs.declared.places.Visiting.TheVariants as visiting
use Rattle.spec_adminrows.specs.declared.turns.Errand.{Errand}
use Rattle.spec_rows.specs.Runs.{message_at}
use Rattle.spec_volrows.specs.VolLaws.{stamp_at}
use Rattle.spec_volrows.specs.VolStates.{Transaction}
use Rattle.spec_runs.specs.NodeRuns.{has_host, NodeCell}
use Rattle.law_places.specs.Accepting.{serves_at}
use Rattle.law_stamps.specs.Stamps.{next_stamp, stored_stamp}
use Rattle.law_stamps.specs.Told.{entries_in, stamp_by, stamp_in}
use Rattle.law_stamp_owners.proofs.PlaceStamps.{asked_stamp, stamp_at_place}
use Rattle.law_stored_stamps.specs.Surveys.{IsStored, IsSurveyed}
use Rattle.law_transactions.specs.Begun.{AsksFor, IsAskedFor}
use Rattle.law_courses.specs.Courses.{ask_in, AreOnCourse, Course, IsOnCourse, Question}
use Rattle.law_courses.specs.Tasks.{makes, mends, moves, removes, task_at, task_for, works, Task}
use Rattle.law_families.specs.Enables.{IsCutIn, IsEnable}
use Rattle.law_families.proofs.Opening.{of_family_is}
use Rattle.law_locks.specs.Grips.{grip_at, AreGripped, Grip, GripIs}
use Rattle.law_locks.specs.Lines.{AreInLine, IsDrawnFor, IsLastOf, LockIsLast}
use Rattle.law_numbers.specs.Numbers.{next_volume, PlaceIsSound}
use Rattle.law_one_server.specs.Knows.{lock_at, listed_site, AreClosed, HasLost, IsAt, IsHome, IsHomeOr, IsListedOr, IsMovedOr, IsOver, IsShut, IsShutAt, Knows, KnowsInCreation, KnowsInMove, KnowsInRemoval, KnowsInSurvey}
use Rattle.law_one_server.proofs.KnownAside.{aside_listed, aside_lost, aside_site, IsAside}
use Rattle.law_one_server.proofs.FencesRan.{KnowsBehind}

-- ---- what a call asks

is_enable : Call → Bool
is_enable (ask.Volume (calls.SetFlags f t flags)) = nat_eq flags 0
is_enable call = false

-- it asks for a transaction
is_begin : Call → Bool
is_begin (ask.Volume (calls.TransCreate f id flags)) = true
is_begin (ask.Volume (calls.CreateVolume f id name kind flags quota)) = true
is_begin call = false

family_in : Call → ℕ
family_in (ask.Volume (calls.SetFlags f t flags)) = f
family_in (ask.Volume (calls.TransCreate f id flags)) = f
family_in (ask.Volume (calls.CreateVolume f id name kind flags quota)) = f
family_in call = 0

volume_in : Call → ℕ
volume_in (ask.Volume (calls.TransCreate f id flags)) = id
volume_in (ask.Volume (calls.CreateVolume f id name kind flags quota)) = id
volume_in call = 0

server_in : Node → ℕ
server_in (Server i) = i
server_in n = 0

no : false ≡ true → ⊥
no e = absurd cc

-- ---- at which places

IsEnabler : Place → Type 0
IsEnabler (places.Creates f (creating.Opens v stamp t)) = ⊤
IsEnabler (places.Moves m (moving.Starts new old)) = ⊤
IsEnabler (places.Visits r s (visiting.Sets t)) = ⊤
IsEnabler (places.Mends m (mending.Opens t)) = ⊤
IsEnabler p = ⊥

enabler : (e : Errand) (p : Place) → is_enable (asks_at e p).call ≡ true → IsEnabler p
unfolding is_enable IsEnabler
enabler e (places.Creates f (creating.Opens v stamp t)) is = tt
enabler e (places.Moves m (moving.Starts new old)) is = tt
enabler e (places.Visits r s (visiting.Sets t)) is = tt
enabler e (places.Mends m (mending.Opens t)) is = tt
enabler e (places.Backs h backing.Stamps) is = no is
enabler e (places.Dumps s dumping.Stamps) is = no is
enabler e (places.Releases h releasing.Stamps) is = no is
enabler e (places.Tours r touring.Begins) is = no is
enabler e (places.Removes h seen removing.Begins) is = no is
enabler e (places.Sweeps h spot left sweeping.Begins) is = no is
enabler e p is = no is

is_works : Option Task → Bool
is_works (Some works) = true
is_works t = false

-- a transaction of work that leaves the volume where it is: at its home, or on its copy at a site
IsAtWork : Place → Type 0
IsAtWork (places.Backs h backing.Begins) = ⊤
IsAtWork (places.Dumps s dumping.Begins) = ⊤
IsAtWork (places.Tours r touring.Begins) = ⊤
IsAtWork (places.Tours r touring.Drops) = ⊤
IsAtWork (places.Visits r s visiting.Takes) = ⊤
IsAtWork (places.Visits r s visiting.Makes) = ⊤
IsAtWork (places.Visits r s (visiting.Opens t)) = ⊤
IsAtWork p = ⊥

at_work : (e : Errand) (p : Place) → (is_begin (asks_at e p).call && is_works (task_at p)) ≡ true → IsAtWork p
unfolding is_begin is_works IsAtWork
at_work e (places.Backs h backing.Begins) is = tt
at_work e (places.Dumps s dumping.Begins) is = tt
at_work e (places.Tours r touring.Begins) is = tt
at_work e (places.Tours r touring.Drops) is = tt
at_work e (places.Visits r s visiting.Takes) is = tt
at_work e (places.Visits r s visiting.Makes) is = tt
at_work e (places.Visits r s (visiting.Opens t)) is = tt
at_work e (places.Creates f creating.Numbers) is = no is
at_work e (places.Moves m moving.Begins) is = no is
at_work e (places.Mends m mending.Begins) is = no is
at_work e (places.Releases h releasing.Stamps) is = no is
at_work e (places.Removes h seen removing.Begins) is = no is
at_work e (places.Sweeps h spot left sweeping.Begins) is = no is
at_work e p is = no is

-- each of these has a task, if it has a stamp
HasTask : Place → Type 0
HasTask p = (stamp_at_place p ≡ 0 → ⊥) → (t : Task) × (task_at p ≡ Some t)

begin_task : (e : Errand) (p : Place) → is_begin (asks_at e p).call ≡ true → HasTask p
unfolding is_begin HasTask
begin_task e (places.Creates f creating.Numbers) is some = absurd (no is)
begin_task e (places.Creates f (creating.Makes v)) is some = absurd (some refl)
begin_task e (places.Creates f (creating.Fills v t offset)) is some = absurd (no is)
begin_task e (places.Creates f (creating.Closes v t)) is some = absurd (no is)
begin_task e (places.Creates f (creating.Ends v t)) is some = absurd (no is)
begin_task e (places.Creates f (creating.Enters v)) is some = absurd (no is)
begin_task e (places.Creates f (creating.Checks v code)) is some = absurd (no is)
begin_task e (places.Creates f (creating.Scraps v code)) is some = absurd (some refl)
begin_task e (places.Creates f (creating.Scrapped v code t)) is some = absurd (no is)
begin_task e (places.Creates f (creating.Begins v stamp)) is some = (makes, refl)
begin_task e (places.Creates f (creating.Opens v stamp t)) is some = absurd (no is)
begin_task e (places.Creates f (creating.Opened v stamp t)) is some = absurd (no is)
begin_task e (places.Creates f (creating.Frees v stamp)) is some = absurd (no is)
begin_task e (places.Seeks cause) is some = absurd (no is)
begin_task e (places.Locks cause v) is some = absurd (no is)
begin_task e (places.Frees h code first) is some = absurd (no is)
begin_task e (places.Adds h server) is some = (works, refl)
begin_task e (places.Backs h step) is some = (works, refl)
begin_task e (places.Dumps s step) is some = (works, refl)
begin_task e (places.Releases h step) is some = (works, refl)
begin_task e (places.Tours r step) is some = (works, refl)
begin_task e (places.Visits r s step) is some = (works, refl)
begin_task e (places.Surveys h why s left seen) is some = (task_for why, refl)
begin_task e (places.Plans h target) is some = (moves target, refl)
begin_task e (places.Moves m step) is some = (moves m.target, refl)
begin_task e (places.Removes h seen step) is some = (removes, refl)
begin_task e (places.Sweeps h spot left step) is some = (removes, refl)
begin_task e (places.Asks cause h seen) is some = (mends, refl)
begin_task e (places.Mends m step) is some = (mends, refl)

-- ---- what is so of the cell, and of the course of its acts

abbrev pub Lives : NodeCell → ℕ → Type 0
Lives c i = ((c.hosts i).down ≡ None) ⊎ ((m : Message) × IsCutIn c i m)

-- the call is one that acts alone ask
abbrev pub IsOfActs : VolCall → Type 0
IsOfActs (calls.SetFlags f t flags) = ⊤
IsOfActs (calls.TransCreate f id flags) = ⊤
IsOfActs (calls.CreateVolume f id name kind flags quota) = ⊤
IsOfActs call = ⊥

pub record Grounds (course : Course) (c : NodeCell) : Type 0 where
  pub on : AreOnCourse course c
  pub knows : (n e k : ℕ) → Knows c (course n e k).place
  pub closed : AreClosed c
  pub sound : (n e k : ℕ) → PlaceIsSound (next_volume c) (course n e k).place
  pub surveyed : (n e k : ℕ) → IsSurveyed c (course n e k).place
  pub grips : AreGripped course c
  pub some : (n e k : ℕ) (t : Task) → task_at (course n e k).place ≡ Some t → stamp_at_place (course n e k).place ≡ 0 → ⊥
  pub one : (n e k n' e' k' : ℕ) (t u : Task) → stamp_at_place (course n e k).place ≡ stamp_at_place (course n' e' k').place → (stamp_at_place (course n e k).place ≡ 0 → ⊥) →
      task_at (course n e k).place ≡ Some t → task_at (course n' e' k').place ≡ Some u → t ≡ u
  pub askers : (place : ℕ) (m : Message) (user : List ℕ) (call : VolCall) → message_at c.sent place ≡ Some m → m.carried ≡ carried.Call user (ask.Volume call) → IsOfActs call → (n : ℕ) × (m.head.from ≡ Admin n)
  pub asked : (i number : ℕ) (t : Transaction) → Lives c i → get number (c.hosts i).state.vol.transactions ≡ Some t → IsAskedFor c i t.volume t.family t.stamp
  pub stamped : (i number : ℕ) (t : Transaction) → Lives c i → get number (c.hosts i).state.vol.transactions ≡ Some t → t.stamp ≡ stamp_at (c.hosts i).state.file t.family

module _ (course : Course) (c : NodeCell) (g : Grounds course c) where
  -- the question of a call of an act
  record Asker (m : Message) (i : ℕ) (call : VolCall) : Type 0 where
    n : ℕ
    e : ℕ
    k : ℕ
    asks : (ask_in (course n e k)).call ≡ ask.Volume call
    callee : (ask_in (course n e k)).callee ≡ Server i
    stamp : stamp_at_place (course n e k).place ≡ m.head.stamp

  asker : (place : ℕ) (m : Message) (user : List ℕ) (call : VolCall) (i : ℕ) → message_at c.sent place ≡ Some m → m.head.to ≡ Server i → m.carried ≡ carried.Call user (ask.Volume call) → IsOfActs call → Asker m i call
  asker place m user call i at to is acts =
      let who = g.askers place m user call at is acts in
      let x : IsOnCourse course c.sent who.0 (c.admins who.0) m.head (ask.Volume call) = g.on.calls place who.0 m user (ask.Volume call) at who.1 is in
      record {
        n = who.0;
        e = m.head.epoch;
        k = m.head.number;
        asks = x.asks;
        callee = sym x.callee ∙ to;
        stamp = sym (asked_stamp (course who.0 m.head.epoch m.head.number).errand (course who.0 m.head.epoch m.head.number).place) ∙ sym x.stamp;
      }

  module _ (i f : ℕ) (en : IsEnable c i f) where
    abbrev b : ℕ
    b = en.m.head.stamp

    a : Asker en.m i (calls.SetFlags f en.number 0)
    a = asker en.place en.m en.user (calls.SetFlags f en.number 0) i en.sent en.to en.asks tt

    abbrev q : Question
    q = course a.n a.e a.k

    its : IsEnabler q.place
    unfolding is_enable
    its = enabler q.errand q.place (ap is_enable a.asks)

    -- its stamp isn't over, for it is the one that is stored
    not_over : (v stamp : ℕ) → v ≡ f → stamp ≡ b → IsOver c v stamp → ⊥
    not_over v stamp same is over =
        let low : stamp < stored_stamp c i v = over i en.host in
        let now : stored_stamp c i v ≡ b = ap (stored_stamp c i) same ∙ en.stored in omega (arith, low, now, is)

    at_site : (v stamp s : ℕ) → IsAt c v stamp s → v ≡ f → stamp ≡ b → s ≡ i → listed_site c f ≡ Some i
    at_site v stamp s (inl named) same is here = ap (listed_site c) (sym same) ∙ (named ∙ ap Some here)
    at_site v stamp s (inr over) same is here = absurd (not_over v stamp same is over)

    live : Lives c i
    live = by en.live
      where
        by : ((c.hosts i).down ≡ None) ⊎ IsCutIn c i en.m → Lives c i
        by (inl up) = inl up
        by (inr cut) = inr (en.m, cut)

    -- ---- a release opens the copy at a site; were that the volume itself, a transaction on it would have been asked for by the same act, and so at
    -- its home

    work_site : (e : Errand) (p : Place) → IsAtWork p → Knows c p → PlaceIsSound (next_volume c) p → family_in (asks_at e p).call ≡ f → volume_in (asks_at e p).call ≡ f → server_in (asks_at e p).callee ≡ i → stamp_at_place p ≡ b → listed_site c f ≡ Some i
    unfolding IsAtWork family_in volume_in server_in
    work_site e (places.Backs h backing.Begins) is knows sound same on here stamp = at_site (family h) h.stamp (home h) knows same stamp here
    work_site e (places.Dumps s dumping.Begins) is knows sound same on here stamp = at_site (family s.hold) s.hold.stamp (home s.hold) knows same stamp here
    work_site e (places.Tours r touring.Begins) is knows sound same on here stamp = at_site (family r.hold) r.hold.stamp (home r.hold) knows same stamp here
    work_site e (places.Tours r touring.Drops) is knows sound same on here stamp = at_site (family r.hold) r.hold.stamp (home r.hold) knows same stamp here
    work_site e (places.Visits r s visiting.Takes) is knows sound same on here stamp = absurd (sound.1 (on ∙ sym same))
    work_site e (places.Visits r s visiting.Makes) is knows sound same on here stamp = absurd (sound.1 (on ∙ sym same))
    work_site e (places.Visits r s (visiting.Opens t)) is knows sound same on here stamp = at_site (family r.hold) r.hold.stamp (home r.hold) knows same stamp here
    work_site e p is knows sound same on here stamp = absurd is

    -- the call for the transaction
    begun : IsAskedFor c i f f b
    begun =
        let z = of_family_is f (get en.number (c.hosts i).state.vol.transactions) en.t en.there in
        let fam : en.t.family ≡ f = eqb-true en.t.family f z.1 in
        let x : IsAskedFor c i en.t.volume en.t.family en.t.stamp = g.asked i en.number en.t live z.0 in
        let under : en.t.stamp ≡ b = g.stamped i en.number en.t live z.0 ∙ (ap (stamp_at (c.hosts i).state.file) fam ∙ en.stored) in
        subst (λ (s : ℕ). IsAskedFor c i f f s) under (subst (λ (k : ℕ). IsAskedFor c i f k en.t.stamp) fam (subst (λ (v : ℕ). IsAskedFor c i v en.t.family en.t.stamp) en.on x))

    begin_of : (call : VolCall) → AsksFor f f call → IsOfActs call × ((is_begin (ask.Volume call) ≡ true) × ((family_in (ask.Volume call) ≡ f) × (volume_in (ask.Volume call) ≡ f)))
    unfolding is_begin family_in volume_in
    begin_of (calls.TransCreate k id flags) h = (tt, (refl, (h.1, h.0)))
    begin_of (calls.CreateVolume k id name kind flags quota) h = (tt, (refl, (h.1, h.0)))
    begin_of call h = absurd h

    and_true : (x y : Bool) → x ≡ true → y ≡ true → (x && y) ≡ true
    and_true true y e f' = f'
    and_true false y e f' = absurd cc

    -- that one is at work, too
    in_work : task_at q.place ≡ Some works → listed_site c f ≡ Some i
    unfolding is_works server_in is_begin HasTask
    in_work task =
        let x : IsAskedFor c i f f b = begun in
        let z = begin_of x.call x.begins in
        let w : Asker x.m i x.call = asker x.place x.m x.user x.call i x.sent x.to x.asks z.0 in
        let p : Question = course w.n w.e w.k in
        let stamp : stamp_at_place p.place ≡ b = w.stamp ∙ x.under in
        let begins : is_begin (asks_at p.errand p.place).call ≡ true = ap is_begin w.asks ∙ z.1.0 in
        let own : stamp_at_place q.place ≡ 0 → ⊥ = g.some a.n a.e a.k works task in
        let other : stamp_at_place p.place ≡ 0 → ⊥ = λ none. own (a.stamp ∙ (sym stamp ∙ none)) in
        let has = begin_task p.errand p.place begins other in
        let same : has.0 ≡ works = g.one w.n w.e w.k a.n a.e a.k has.0 works (stamp ∙ sym a.stamp) other has.1 task in
        let at : task_at p.place ≡ Some works = has.1 ∙ ap Some same in
        work_site p.errand p.place (at_work p.errand p.place (and_true (is_begin (asks_at p.errand p.place).call) (is_works (task_at p.place)) begins (ap is_works at))) (g.knows w.n w.e w.k) (g.sound w.n w.e w.k)
        (ap family_in w.asks ∙ z.1.1.0) (ap volume_in w.asks ∙ z.1.1.1) (ap server_in w.callee) stamp

    -- ---- who brings a volume into service knows where it belongs

    names : (e : Errand) (p : Place) → IsEnabler p → Knows c p → family_in (asks_at e p).call ≡ f → server_in (asks_at e p).callee ≡ i → stamp_at_place p ≡ b → (task_at p ≡ Some works → listed_site c f ≡ Some i) → listed_site c f ≡ Some i
    unfolding IsEnabler family_in server_in
    names e (places.Creates fr (creating.Opens v stamp t)) is knows same here under work = at_site v stamp fr.server knows same under here
    names e (places.Moves m (moving.Starts new old)) is knows same here under work = at_site (family m.hold) m.hold.stamp m.target knows same under here
    names e (places.Visits r s (visiting.Sets t)) is knows same here under work = work refl
    names e (places.Mends m (mending.Opens t)) is knows same here under work = at_site m.volume m.stamp m.named knows same under here
    names e p is knows same here under work = absurd is

    its_family : family_in (asks_at q.errand q.place).call ≡ f
    unfolding family_in
    its_family = ap family_in a.asks

    its_server : server_in (asks_at q.errand q.place).callee ≡ i
    unfolding server_in
    its_server = ap server_in a.callee

    named : listed_site c f ≡ Some i
    named = names q.errand q.place its (g.knows a.n a.e a.k) its_family its_server a.stamp in_work

    -- of a move it is at the new server, and a removal brings none into service
    record Opener (p : Place) : Type 0 where
      task : Task
      is : task_at p ≡ Some task
      target : (x : ℕ) → task ≡ moves x → listed_site c f ≡ Some x
      no_removal : task ≡ removes → ⊥

    target_in : Task → ℕ
    target_in (moves x) = x
    target_in t = 0

    opener : (e : Errand) (p : Place) → IsEnabler p → server_in (asks_at e p).callee ≡ i → Opener p
    unfolding IsEnabler server_in target_in
    opener e (places.Creates fr (creating.Opens v stamp t)) is here = record { task = makes; is = refl; target = λ x same. absurd cc; no_removal = λ same. absurd cc }
    opener e (places.Moves m (moving.Starts new old)) is here = record { task = moves m.target; is = refl; target = λ x same. named ∙ ap Some (sym here ∙ ap target_in same); no_removal = λ same. absurd cc }
    opener e (places.Visits r s (visiting.Sets t)) is here = record { task = works; is = refl; target = λ x same. absurd cc; no_removal = λ same. absurd cc }
    opener e (places.Mends m (mending.Opens t)) is here = record { task = mends; is = refl; target = λ x same. absurd cc; no_removal = λ same. absurd cc }
    opener e p is here = absurd is

    its_opener : Opener q.place
    its_opener = opener q.errand q.place its its_server

    -- its stamp was drawn for the volume's entry
    grip_is : (G : ℕ → ℕ → Type 0) (e : Errand) (p : Place) → IsEnabler p → GripIs G (grip_at p) → family_in (asks_at e p).call ≡ f → stamp_at_place p ≡ b → G f b
    unfolding IsEnabler family_in
    grip_is G e (places.Creates fr (creating.Opens v stamp t)) is h same under = subst (G f) under (subst (λ (v' : ℕ). G v' stamp) same h)
    grip_is G e (places.Moves m (moving.Starts new old)) is h same under = subst (G f) under (subst (λ (v' : ℕ). G v' m.hold.stamp) same h)
    grip_is G e (places.Visits r s (visiting.Sets t)) is h same under = subst (G f) under (subst (λ (v' : ℕ). G v' r.hold.stamp) same h)
    grip_is G e (places.Mends m (mending.Opens t)) is h same under = subst (G f) under (subst (λ (v' : ℕ). G v' m.stamp) same h)
    grip_is G e p is h same under = absurd is

    drawn : IsDrawnFor g.grips.entry_of (next_stamp c) f b
    drawn = grip_is (IsDrawnFor g.grips.entry_of (next_stamp c)) q.errand q.place its (g.grips.drawn a.n a.e a.k) its_family a.stamp

    -- so who has an earlier stamp of it has lost the lock
    lock_by : (stamp : ℕ) (o : Option Lock) → stamp < b → LockIsLast g.grips.entry_of (next_stamp c) f o → stamp_by o ≡ Some stamp → ⊥
    lock_by stamp None low last is = absurd cc
    lock_by stamp (Some k) low last is =
        let same : k.stamp ≡ stamp = cc in
        let up : b ≤ k.stamp = last.last b drawn.0.1 drawn.1 in omega (arith, low, up, same)

    lost_by : (stamp : ℕ) → stamp < b → HasLost c f stamp
    lost_by stamp low locked = by (get f (entries_in c)) refl locked
      where
        by : (o : Option Listed) → get f (entries_in c) ≡ o → stamp_in o ≡ Some stamp → ⊥
        by None at is = absurd cc
        by (Some l) at is = lock_by stamp l.lock low (g.grips.line.locks f l at) is

    -- and there is no survey under a later one
    survey_by : (stamp : ℕ) → b < stamp → IsStored c f stamp [] → ⊥
    survey_by stamp high all =
        let up : stamp ≤ stored_stamp c i f = all i en.host refl in
        let now : stored_stamp c i f ≡ b = en.stored in omega (arith, high, up, now)

    -- an act that has taken the volume out of service there
    after : (stamp : ℕ) (X : Type 0) → IsStored c f stamp [] → (HasLost c f stamp → X) → (stamp ≡ b → X) → X
    after stamp X all lost same = by (cases_lt stamp b) (cases_lt b stamp)
      where
        by : (stamp < b) ⊎ (b ≤ stamp) → (b < stamp) ⊎ (stamp ≤ b) → X
        by (inl low) y = lost (lost_by stamp low)
        by (inr up) (inl high) = absurd (survey_by stamp high all)
        by (inr up) (inr down) = same (omega (arith, up, down))

  -- ---- behind a step that isn't the database's

  module _ (d : NodeCell) (aside : IsAside c d) (comes : (v j : ℕ) → serves_at c v j ≡ false → (serves_at d v j ≡ false) ⊎ IsEnable c j v) where
    pub closed_on : AreClosed d
    closed_on v j e = by (serves_at c v j) refl
      where
        by : (x : Bool) → serves_at c v j ≡ x → listed_site d v ≡ Some j
        by true is = aside_site c d aside v 0 ∙ g.closed v j is
        by false is = new (comes v j is)
          where
            new : (serves_at d v j ≡ false) ⊎ IsEnable c j v → listed_site d v ≡ Some j
            new (inl rests) = let no' : true ≡ false = sym e ∙ rests in absurd cc
            new (inr en) = aside_site c d aside v 0 ∙ named j v en

    at_on : (v stamp s : ℕ) → IsAt c v stamp s → IsAt d v stamp s
    at_on v stamp s (inl named') = inl (aside_site c d aside v stamp ∙ named')
    at_on v stamp s (inr over) = inr (aside.over v stamp over)

    home_or_on : (h : Hold) (target : ℕ) → IsHomeOr c h target → IsHomeOr d h target
    home_or_on h target (inl named') = inl (aside_site c d aside (family h) h.stamp ∙ named')
    home_or_on h target (inr x) = inr (at_on (family h) h.stamp (home h) x)

    left_on : (h : Hold) → HasLost c (family h) h.stamp ⊎ IsHome c h → HasLost d (family h) h.stamp ⊎ IsHome d h
    left_on h (inl lost) = inl (aside_lost c d aside (family h) h.stamp lost)
    left_on h (inr x) = inr (at_on (family h) h.stamp (home h) x)

    listed_on : (v stamp : ℕ) → IsListedOr c v stamp → IsListedOr d v stamp
    listed_on v stamp (inl there) = inl (aside_listed c d aside v stamp there)
    listed_on v stamp (inr over) = inr (aside.over v stamp over)

    -- the act at this place has the task of whoever has its stamp
    abbrev SameTask : Place → Type 0
    SameTask p = (j v : ℕ) (en : IsEnable c j v) (u : Task) → stamp_at_place p ≡ en.m.head.stamp → task_at p ≡ Some u → Opener.task (its_opener j v en) ≡ u

    -- a move behind its fence
    moved_on : (h : Hold) (target : ℕ) → IsStored c (family h) h.stamp [] → ((j : ℕ) (en : IsEnable c j (family h)) → h.stamp ≡ en.m.head.stamp → Opener.task (its_opener j (family h) en) ≡ moves target) →
        IsMovedOr c (family h) h.stamp target (home h) → IsMovedOr d (family h) h.stamp target (home h)
    moved_on h target all task (inl named') = inl (aside_site c d aside (family h) h.stamp ∙ named')
    moved_on h target all task (inr (x, inr lost)) = inr (at_on (family h) h.stamp (home h) x, inr (aside_lost c d aside (family h) h.stamp lost))
    moved_on h target all task (inr (x, inl rests)) = by (comes (family h) (home h) rests)
      where
        by : (serves_at d (family h) (home h) ≡ false) ⊎ IsEnable c (home h) (family h) → IsMovedOr d (family h) h.stamp target (home h)
        by (inl still) = inr (at_on (family h) h.stamp (home h) x, inl still)
        by (inr en) = after (home h) (family h) en h.stamp (IsMovedOr d (family h) h.stamp target (home h)) all
            (λ lost. inr (at_on (family h) h.stamp (home h) x, inr (aside_lost c d aside (family h) h.stamp lost)))
            (λ same. inl (aside_site c d aside (family h) h.stamp ∙ Opener.target (its_opener (home h) (family h) en) target (task (home h) en same)))

    -- a removal behind its fence
    shut_on : (h : Hold) → IsStored c (family h) h.stamp [] → ((j : ℕ) (en : IsEnable c j (family h)) → h.stamp ≡ en.m.head.stamp → Opener.task (its_opener j (family h) en) ≡ removes) → IsShut c h → IsShut d h
    shut_on h all task (inr lost) = inr (aside_lost c d aside (family h) h.stamp lost)
    shut_on h all task (inl rests) = by (comes (family h) (home h) rests)
      where
        by : (serves_at d (family h) (home h) ≡ false) ⊎ IsEnable c (home h) (family h) → IsShut d h
        by (inl still) = inl still
        by (inr en) = after (home h) (family h) en h.stamp (IsShut d h) all (λ lost. inr (aside_lost c d aside (family h) h.stamp lost)) (λ same. absurd (Opener.no_removal (its_opener (home h) (family h) en) (task (home h) en same)))

    survey_on : (h : Hold) (why : Purpose) → KnowsInSurvey c h why → KnowsInSurvey d h why
    survey_on h (purposes.Moves target) x = home_or_on h target x
    survey_on h purposes.Removes x = left_on h x
    survey_on h (purposes.Mends cause) x = listed_on (family h) h.stamp x

    creation_on : (server : ℕ) (step : Creating) → KnowsInCreation c server step → KnowsInCreation d server step
    creation_on server (creating.Begins v stamp) x = at_on v stamp server x
    creation_on server (creating.Opens v stamp t) x = at_on v stamp server x
    creation_on server (creating.Opened v stamp t) x = at_on v stamp server x
    creation_on server (creating.Frees v stamp) x = at_on v stamp server x
    creation_on server step x = tt

    place_on : (p : Place) → SameTask p → IsSurveyed c p → Knows c p → Knows d p
    place_on (places.Seeks cause) same all x = tt
    place_on (places.Locks cause v) same all x = tt
    place_on (places.Frees h code first) same all x = tt
    place_on (places.Creates f step) same all x = creation_on f.server step x
    place_on (places.Adds h server) same all x = at_on (family h) h.stamp (home h) x
    place_on (places.Backs h step) same all x = at_on (family h) h.stamp (home h) x
    place_on (places.Dumps s step) same all x = at_on (family s.hold) s.hold.stamp (home s.hold) x
    place_on (places.Releases h step) same all x = at_on (family h) h.stamp (home h) x
    place_on (places.Tours r step) same all x = at_on (family r.hold) r.hold.stamp (home r.hold) x
    place_on (places.Visits r s step) same all x = at_on (family r.hold) r.hold.stamp (home r.hold) x
    place_on (places.Surveys h why s left seen) same all x = survey_on h why x
    place_on (places.Plans h target) same all x = home_or_on h target x
    place_on (places.Moves m (moving.Fills counter new old)) same all x = moved_on m.hold m.target all (λ j en is. same j (family m.hold) en (moves m.target) is refl) x
    place_on (places.Moves m (moving.Clears new old)) same all x = moved_on m.hold m.target all (λ j en is. same j (family m.hold) en (moves m.target) is refl) x
    place_on (places.Moves m (moving.Decides new old)) same all x = moved_on m.hold m.target all (λ j en is. same j (family m.hold) en (moves m.target) is refl) x
    place_on (places.Moves m (moving.Starts new old)) same all x = at_on (family m.hold) m.hold.stamp m.target x
    place_on (places.Moves m (moving.Started new old)) same all x = at_on (family m.hold) m.hold.stamp m.target x
    place_on (places.Moves m (moving.Points old)) same all x = at_on (family m.hold) m.hold.stamp m.target x
    place_on (places.Moves m (moving.Deletes old)) same all x = at_on (family m.hold) m.hold.stamp m.target x
    place_on (places.Moves m step) same all x = home_or_on m.hold m.target x
    place_on (places.Removes h seen (removing.Decides t)) same all x = (left_on h x.0, shut_on h all (λ j en is. same j (family h) en removes is refl) x.1)
    place_on (places.Removes h seen step) same all x = left_on h x
    place_on (places.Sweeps h spot left step) same all x = tt
    place_on (places.Asks cause h seen) same all x = listed_on (family h) h.stamp x
    place_on (places.Mends m step) same all x = at_on m.volume m.stamp m.named x

    -- each question that was ever asked
    same_task : (n e k : ℕ) → SameTask (course n e k).place
    same_task n e k j v en u stamp is =
        let o : Opener j v en (q j v en).place = its_opener j v en in
        let x = a j v en in g.one x.n x.e x.k n e k (Opener.task o) u (x.stamp ∙ sym stamp) (g.some x.n x.e x.k (Opener.task o) (Opener.is o)) (Opener.is o) is

    pub knows_on : (n e k : ℕ) → Knows d (course n e k).place
    knows_on n e k = place_on (course n e k).place (same_task n e k) (g.surveyed n e k) (g.knows n e k)

    -- and what is known behind its fence
    behind_at : (p : Place) → SameTask p → IsSurveyed c p → KnowsBehind c p → KnowsBehind d p
    behind_at (places.Moves m (moving.Fences counter new old)) same all x = moved_on m.hold m.target all (λ j en is. same j (family m.hold) en (moves m.target) is refl) x
    behind_at (places.Removes h seen (removing.Fences t)) same all x = (left_on h x.0, shut_on h all (λ j en is. same j (family h) en removes is refl) x.1)
    behind_at p same all x = tt

    pub behind_on : (n e k : ℕ) → KnowsBehind c (course n e k).place → KnowsBehind d (course n e k).place
    behind_on n e k x = behind_at (course n e k).place (same_task n e k) (g.surveyed n e k) x

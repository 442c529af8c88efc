-- Moves, removals, recoveries and releases delete a read-write volume only where the location database doesn't put it.
use Rattle.std.proofs.Common.{◌≡◌, ◌⊎◌, ◌≤◌, ◌<◌, inl, inr, ℕ, zero, suc, Bool, true, false, List, Option, Some, None, refl, sym, ap, subst, ◌∙◌, arith}
use Rattle.std.specs.Prelude.{⊤}
use Rattle.afs_num.specs.declared.messages.Call.{Call}
use Rattle.afs_num.specs.declared.messages.Call.TheVariants as ask
use Rattle.afs_num.specs.declared.types.Node.{Node}
use Rattle.afs_num.specs.declared.types.Node.TheVariants.{Admin, Server}
use Rattle.afs_num.specs.declared.volume_calls.VolCall.TheVariants as calls
use Rattle.spec_history.specs.declared.scripts.Script.{Script}
use Rattle.spec_adminrows.specs.Acts.{asks_at}
use Rattle.spec_adminrows.specs.Asks.{family, home}
use Rattle.spec_adminrows.specs.declared.places.Backing.TheVariants as backing
use Rattle.spec_adminrows.specs.declared.places.Creating.TheVariants as creating
use Rattle.spec_adminrows.specs.declared.places.Dumping.TheVariants as dumping
use Rattle.spec_adminrows.specs.declared.places.Hold.{Hold}
use Rattle.spec_adminrows.specs.declared.places.Mending.TheVariants as mending
use Rattle.spec_adminrows.specs.declared.places.Moving.TheVariants as moving
use Rattle.spec_adminrows.specs.declared.places.Place.{Place}
use Rattle.spec_adminrows.specs.declared.places.Place.TheVariants as places
use Rattle.spec_adminrows.specs.declared.places.Releasing.TheVariants as releasing
use Rattle.spec_adminrows.specs.declared.places.Removing.TheVariants as removing
use Rattle.spec_adminrows.specs.declared.places.Sweeping.TheVariants as sweeping
use Rattle.spec_adminrows.specs.declared.places.Touring.TheVariants as touring
use Rattle.spec_adminrows.specs.declared.places.Visiting.TheVariants as visiting
use Rattle.spec_adminrows.specs.declared.turns.Errand.{Errand}
use Rattle.spec_ideal.specs.Tables.{get}
use Rattle.spec_rows.specs.Hosts.{Fall}
use Rattle.spec_runs.specs.NodeRuns.{node_start, CellInput, NodeCell}
use Rattle.law_places.specs.Accepting.{cell_behind}
use Rattle.law_stamps.specs.Stamps.{stored_stamp}
use Rattle.law_stamps.specs.Told.{entries_in}
use Rattle.law_stamp_owners.proofs.PlaceStamps.{asked_stamp, stamp_at_place}
use Rattle.law_courses.specs.Courses.{ask_in, course_in, Course, IsOnCourse, Question}
use Rattle.law_courses.specs.Tasks.{mends, task_at, works, Task}
use Rattle.law_courses.proofs.Walk.{are_on_course}
use Rattle.law_families.specs.Enables.{IsCutIn}
use Rattle.law_fences.specs.Claims.{Counts, Finds, IsLive}
use Rattle.law_fences.proofs.Fencing.{are_true}
use Rattle.law_numbers.specs.Numbers.{IsNumbered}
use Rattle.law_new_volumes.proofs.Plain.{removed_at}
use Rattle.law_new_volumes.proofs.Removed.{are_gone}
use Rattle.law_one_server.specs.Knows.{listed_site, site_by, IsAt, IsOver, Knows}
use Rattle.law_one_server.proofs.KnownInService.{Lives}
use Rattle.law_one_server.proofs.ActsNumbered.{are_numbered}
use Rattle.law_one_server.proofs.StampsOfOneTask.{some}
use Rattle.law_vanishing.specs.Deletions.{DeletedElsewhere, IsDelete, IsLetGo, LetsGo}
use Rattle.law_vanishing.proofs.Askers.{delete_asker}
use Rattle.law_vanishing.proofs.Begun.{claim_of, claimed, Claim, IsClaim}
use Rattle.law_vanishing.proofs.Fits.{Fits}
use Rattle.law_vanishing.proofs.Fitting.{fit}
use Rattle.law_vanishing.proofs.Known.{holds}
use Rattle.law_vanishing.proofs.Moved.{knows_later, KnowsLater}

-- ---- at which places it is asked

is_delete : Call → Bool
is_delete (ask.Volume (calls.DeleteVolume f t)) = true
is_delete call = false

family_in : Call → ℕ
family_in (ask.Volume (calls.DeleteVolume f t)) = f
family_in call = 0

number_in : Call → ℕ
number_in (ask.Volume (calls.DeleteVolume f t)) = t
number_in call = 0

server_in : Node → ℕ
server_in (Server i) = i
server_in n = 0

no : false ≡ true → ⊥
no e = absurd cc

IsDeleter : Place → Type 0
IsDeleter (places.Creates f (creating.Scrapped v code t)) = ⊤
IsDeleter (places.Tours r (touring.Dropped t)) = ⊤
IsDeleter (places.Moves m (moving.Deletes old)) = ⊤
IsDeleter (places.Moves m (moving.Dropped t)) = ⊤
IsDeleter (places.Moves m (moving.DroppedBackup t)) = ⊤
IsDeleter (places.Removes h seen (removing.Deletes t)) = ⊤
IsDeleter (places.Sweeps h spot left (sweeping.Deletes t)) = ⊤
IsDeleter (places.Mends m (mending.Deletes s t)) = ⊤
IsDeleter (places.Mends m (mending.Dropped spot t)) = ⊤
IsDeleter p = ⊥

deleter : (e : Errand) (p : Place) → is_delete (asks_at e p).call ≡ true → IsDeleter p
unfolding is_delete IsDeleter
deleter e (places.Creates f (creating.Scrapped v code t)) is = tt
deleter e (places.Tours r (touring.Dropped t)) is = tt
deleter e (places.Moves m (moving.Deletes old)) is = tt
deleter e (places.Moves m (moving.Dropped t)) is = tt
deleter e (places.Moves m (moving.DroppedBackup t)) is = tt
deleter e (places.Removes h seen (removing.Deletes t)) is = tt
deleter e (places.Sweeps h spot left (sweeping.Deletes t)) is = tt
deleter e (places.Mends m (mending.Deletes s t)) is = tt
deleter e (places.Mends m (mending.Dropped spot t)) is = tt
deleter e (places.Backs h backing.Stamps) is = no is
deleter e (places.Dumps s dumping.Stamps) is = no is
deleter e (places.Releases h releasing.Stamps) is = no is
deleter e (places.Visits r s visiting.Stamps) is = no is
deleter e p is = no is

-- ---- a call that would run now

counted : (o : Option Fall) (c : NodeCell) (i : ℕ) → (c.hosts i).down ≡ o → Lives c i → Counts o
counted None c i at live = tt
counted (Some f) c i at (inl up) = let none : Some f ≡ None = sym at ∙ up in absurd cc
counted (Some f) c i at (inr cut) = subst Counts (sym cut.1.down ∙ at) tt

some_same : (a b : ℕ) → Some a ≡ Some b → a ≡ b
some_same a b e = cc

module _ (s : Script) (inputs : List CellInput) (numbered : IsNumbered s) (servers : 1 ≤ s.servers) (i f : ℕ) (x : IsDelete (cell_behind (node_start s) inputs) i f) where
  abbrev c : NodeCell
  c = cell_behind (node_start s) inputs

  abbrev course : Course
  course = course_in s inputs

  abbrev b : ℕ
  b = x.m.head.stamp

  who : (n : ℕ) × (x.m.head.from ≡ Admin n)
  who = delete_asker s inputs x.place x.m x.user f x.number x.sent x.asks

  on : IsOnCourse course c.sent who.0 (c.admins who.0) x.m.head (ask.Volume (calls.DeleteVolume f x.number))
  on = (are_on_course.on s inputs).calls x.place who.0 x.m x.user (ask.Volume (calls.DeleteVolume f x.number)) x.sent who.1 x.asks

  abbrev q : Question
  q = course who.0 x.m.head.epoch x.m.head.number

  stamp_is : stamp_at_place q.place ≡ b
  stamp_is = sym (asked_stamp q.errand q.place) ∙ sym on.stamp

  callee_is : (ask_in q).callee ≡ Server i
  callee_is = sym on.callee ∙ x.to

  -- its stamp isn't over, for it is the one that is stored
  not_over : (v stamp : ℕ) → v ≡ f → stamp ≡ b → IsOver c v stamp → ⊥
  not_over v stamp same is over =
      let low : stamp < stored_stamp c i v = over i x.host in
      let now : stored_stamp c i v ≡ b = ap (stored_stamp c i) same ∙ x.stored in omega (arith, low, now, is)

  abbrev Elsewhere : Type 0
  Elsewhere = listed_site c f ≡ Some i → ⊥

  -- the database names another server
  elsewhere : (v stamp named : ℕ) → IsAt c v stamp named → v ≡ f → stamp ≡ b → (i ≡ named → ⊥) → Elsewhere
  elsewhere v stamp named (inl at) same is other site = other (some_same i named (sym site ∙ (ap (listed_site c) (sym same) ∙ at)))
  elsewhere v stamp named (inr over) same is other site = absurd (not_over v stamp same is over)

  knows : (k : ℕ) → Knows c (course who.0 x.m.head.epoch k).place
  knows k = (holds s inputs numbered servers).knows who.0 x.m.head.epoch k

  later : KnowsLater c q.place
  later = knows_later c course c.sent who.0 x.m.head.epoch ((are_numbered s inputs).zero_asks who.0 x.m.head.epoch) knows x.m.head.number on.way

  live : IsLive c i
  live = counted (c.hosts i).down c i refl (by x.live)
    where
      by : ((c.hosts i).down ≡ None) ⊎ IsCutIn c i x.m → Lives c i
      by (inl up) = inl up
      by (inr cut) = inr (x.m, cut)

  -- ---- in a transaction that the act was told just before, on another volume

  claim_by : (y : Claim) (k : ℕ) → x.m.head.number ≡ k → claimed q.place ≡ Some y → (y.stamp ≡ 0 → ⊥) → y.server ≡ i → y.family ≡ f → y.transaction ≡ x.number → y.volume ≡ f
  claim_by y zero is claims stamped at its number =
      let none : claimed (course who.0 x.m.head.epoch 0).place ≡ Some y = subst (λ (k : ℕ). claimed (course who.0 x.m.head.epoch k).place ≡ Some y) is claims in
      let no' : None ≡ Some y = sym (ap (λ (z : Question). claimed z.place) ((are_numbered s inputs).zero_asks who.0 x.m.head.epoch)) ∙ none in absurd cc
  claim_by y (suc k) is claims stamped at its number =
      let claims' : claimed (course who.0 x.m.head.epoch (suc k)).place ≡ Some y = subst (λ (j : ℕ). claimed (course who.0 x.m.head.epoch j).place ≡ Some y) is claims in
      let z : IsClaim s inputs course (are_on_course.on s inputs) who.0 x.m.head.epoch k y x.m = claim_of s inputs course (are_on_course.on s inputs) x.place who.0 k y x.m x.user (ask.Volume (calls.DeleteVolume f x.number)) x.sent who.1 x.asks is claims' in
      sym (are_true s inputs who.0 y.server x.m.head.epoch k y.transaction y.volume y.family y.stamp x.m x.t stamped z.told z.sent (finds y at its number)) ∙ x.on
    where
      finds : (y : Claim) → y.server ≡ i → y.family ≡ f → y.transaction ≡ x.number → Finds c y.server y.family y.transaction x.m x.t
      finds y at its number =
          subst (λ (j : ℕ). Finds c j y.family y.transaction x.m x.t) (sym at) (subst (λ (v : ℕ). Finds c i v y.transaction x.m x.t) (sym its) (subst (λ (t : ℕ). Finds c i f t x.m x.t) (sym number)
          (record { user = x.user; call = calls.DeleteVolume f x.number; is_call = x.asks; live = live; runs = x.runs; stored = x.stored; there = x.there })))

  -- behind a removal the database has no entry of it
  unlisted : (h : Hold) → removed_at q.place ≡ Some h → family h ≡ f → Elsewhere
  unlisted h is its site =
      let gone : get (family h) (entries_in c) ≡ None = ((are_gone s numbered inputs).behind who.0 x.m.head.epoch x.m.head.number h is).none_left in
      let none : listed_site c f ≡ None = ap (listed_site c) (sym its) ∙ ap site_by gone in
      let no' : None ≡ Some i = sym none ∙ site in absurd cc

  -- ---- by the places

  its_task : (p : Place) (t : Task) → q.place ≡ p → task_at p ≡ Some t → stamp_at_place p ≡ 0 → ⊥
  its_task p t is task none = some s inputs who.0 x.m.head.epoch x.m.head.number t (ap task_at is ∙ task) (ap stamp_at_place is ∙ none)

  deleted_at : (e : Errand) (p : Place) → q.place ≡ p → IsDeleter p → Knows c p → KnowsLater c p → Fits p → family_in (asks_at e p).call ≡ f → number_in (asks_at e p).call ≡ x.number → server_in (asks_at e p).callee ≡ i → stamp_at_place p ≡ b → LetsGo p ⊎ Elsewhere
  unfolding IsDeleter family_in number_in server_in
  deleted_at e (places.Creates fr (creating.Scrapped v code t)) is asks known after fits its number here under = inl tt
  deleted_at e (places.Removes h seen (removing.Deletes t)) is asks known after fits its number here under = inr (unlisted h (ap removed_at is) its)
  deleted_at e (places.Sweeps h spot left (sweeping.Deletes t)) is asks known after fits its number here under = inr (unlisted h (ap removed_at is) its)
  deleted_at e (places.Moves m (moving.Deletes old)) is asks known after fits its number here under = inr (elsewhere (family m.hold) m.hold.stamp m.target known its under (λ same. fits (sym same ∙ sym here)))
  deleted_at e (places.Moves m (moving.Dropped t)) is asks known after fits its number here under = inr (elsewhere (family m.hold) m.hold.stamp m.target after its under (λ same. fits (sym same ∙ sym here)))
  deleted_at e (places.Moves m (moving.DroppedBackup t)) is asks known after fits its number here under = inr (elsewhere (family m.hold) m.hold.stamp m.target after its under (λ same. fits (sym same ∙ sym here)))
  deleted_at e (places.Mends m (mending.Deletes server t)) is asks known after fits its number here under = inr (elsewhere m.volume m.stamp m.named known its under (λ same. fits.1 (here ∙ same)))
  deleted_at e (places.Tours r (touring.Dropped t)) is asks known after fits its number here under =
      let y : Claim = record { stamp = r.hold.stamp; server = home r.hold; family = family r.hold; volume = r.clone; transaction = t } in
      absurd (fits (claim_by y x.m.head.number refl (ap claimed is) (its_task (places.Tours r (touring.Dropped t)) works is refl) here its number ∙ sym its))
  deleted_at e (places.Mends m (mending.Dropped spot t)) is asks known after fits its number here under =
      let y : Claim = record { stamp = m.stamp; server = spot.server; family = m.volume; volume = spot.volume; transaction = t } in
      absurd (fits.1 (claim_by y x.m.head.number refl (ap claimed is) (its_task (places.Mends m (mending.Dropped spot t)) mends is refl) here its number ∙ sym its))
  deleted_at e p is asks known after fits its number here under = absurd asks

  let_go : LetsGo q.place ⊎ Elsewhere → IsLetGo s inputs x.m ⊎ Elsewhere
  let_go (inl lets) = inl (record { admin = who.0; from = who.1; lets = lets })
  let_go (inr other) = inr other

  pub found_elsewhere : IsLetGo s inputs x.m ⊎ Elsewhere
  unfolding is_delete family_in number_in server_in
  found_elsewhere =
      let_go (deleted_at q.errand q.place refl (deleter q.errand q.place (ap is_delete on.asks)) (knows x.m.head.number) later (fit s numbered inputs who.0 x.m.head.epoch x.m.head.number) (ap family_in on.asks) (ap number_in on.asks) (ap server_in callee_is) stamp_is)

pub deleted_elsewhere : DeletedElsewhere
deleted_elsewhere s inputs server volume numbered servers x = found_elsewhere s inputs numbered servers server volume x

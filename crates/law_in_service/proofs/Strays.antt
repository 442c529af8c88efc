-- A volume under its family's number is read-write: no volume of another kind is ever made there, since the copies of a volume have numbers of their own.
use Rattle.std.proofs.Common.{◌≡◌, inl, inr, ℕ, Bool, true, false, cond, List, [], ◌∷◌, Option, Some, None, is_some, refl, sym, ap, subst, ◌∙◌, eqb-true, eq-eqb, nat_eq}
use Rattle.std.specs.Prelude.{⊤, ◌&&◌, filter, not}
use Rattle.afs_num.specs.declared.messages.Call.{Call}
use Rattle.afs_num.specs.declared.messages.Call.TheVariants as ask
use Rattle.afs_num.specs.declared.messages.Carried.TheVariants as carried
use Rattle.afs_num.specs.declared.messages.Message.{Message}
use Rattle.afs_num.specs.declared.records.RecordBody.{RecordBody}
use Rattle.afs_num.specs.declared.records.RecordBody.TheVariants as bodies
use Rattle.afs_num.specs.declared.volume_calls.VolCall.{VolCall}
use Rattle.afs_num.specs.declared.volume_calls.VolCall.TheVariants as calls
use Rattle.afs_num.specs.declared.types.Node.TheVariants.{Server}
use Rattle.spec_history.specs.declared.scripts.Script.{Script}
use Rattle.spec_ideal.specs.Tables.{get, AscendsFrom, Table}
use Rattle.spec_ideal.specs.Volumes.{Volume}
use Rattle.spec_records.specs.Changes.{at_set_up}
use Rattle.spec_records.specs.Durable.{Durable, Stored}
use Rattle.spec_fold.specs.Deeds.{done_by, has_volume}
use Rattle.spec_rows.specs.Runs.{first_stored, first_volumes_at, message_at}
use Rattle.spec_rows.specs.ServerRow.{is_unflagged, stored_by}
use Rattle.spec_adminrows.specs.Acts.{asks_at}
use Rattle.spec_adminrows.specs.declared.places.Backing.TheVariants as backing
use Rattle.spec_adminrows.specs.declared.places.Creating.TheVariants as creating
use Rattle.spec_adminrows.specs.declared.places.Dumping.TheVariants as dumping
use Rattle.spec_adminrows.specs.declared.places.Mending.TheVariants as mending
use Rattle.spec_adminrows.specs.declared.places.Moving.TheVariants as moving
use Rattle.spec_adminrows.specs.declared.places.Place.{Place}
use Rattle.spec_adminrows.specs.declared.places.Place.TheVariants as places
use Rattle.spec_adminrows.specs.declared.places.Releasing.TheVariants as releasing
use Rattle.spec_adminrows.specs.declared.places.Removing.TheVariants as removing
use Rattle.spec_adminrows.specs.declared.places.Sweeping.TheVariants as sweeping
use Rattle.spec_adminrows.specs.declared.places.Touring.TheVariants as touring
use Rattle.spec_adminrows.specs.declared.places.Visiting.TheVariants as visiting
use Rattle.spec_adminrows.specs.declared.turns.Errand.{Errand}
use Rattle.spec_volrows.specs.VolStates.{Transaction}
use Rattle.spec_runs.specs.NodeRuns.{node_moved, node_start, CellInput, NodeCell}
use Rattle.law_places.specs.Accepting.{cell_behind, has_in_service, is_in_service}
use Rattle.law_places.proofs.FirstVolumes.{first_serves}
use Rattle.law_courses.specs.Courses.{course_in, IsOnCourse, Question}
use Rattle.law_courses.proofs.Runs.{each_run}
use Rattle.law_courses.proofs.Walk.{are_on_course}
use Rattle.law_families.specs.Families.{volumes_in, IsOfFamily}
use Rattle.law_families.proofs.Opening.{of_family_is}
use Rattle.law_fences.specs.Fences.{disk_at}
use Rattle.law_numbers.specs.Numbers.{next_volume, IsNumbered, PlaceIsSound}
use Rattle.law_one_server.proofs.KnownGroundServers.{sound}
use Rattle.law_recovered.proofs.Own.{askers, IsOfAdmins}
use Rattle.law_recovered.proofs.Standing.{change_alike, does, number_in, Does, Like, Makes}
use Rattle.law_recovered.proofs.Tests.{both, first_of, kept_found, second_of}
use Rattle.law_recovered.proofs.Turned.{are_turned, IsTurned, Turning}
use Rattle.law_recovered.proofs.Written.{decided_saves, BodyAsked, IsClone, IsSaved, Saves}
use Rattle.law_vanishing.proofs.Fits.{Fits}
use Rattle.law_vanishing.proofs.Fitting.{fit}

-- ---- such a volume

-- of another kind, under the number of its family
abbrev pub is_stray : ℕ → Option Stored → Bool
is_stray volume None = false
is_stray volume (Some x) = nat_eq x.volume.family volume && not (nat_eq x.volume.kind 0)

-- it makes one: out of nothing, or of a volume of the family
abbrev MakesStray : Durable → RecordBody → ℕ → Type 0
MakesStray d (bodies.Create id family name kind flags quota is_new) volume = (id ≡ volume) × ((family ≡ volume) × (nat_eq kind 0 ≡ false))
MakesStray d (bodies.Clone source id name kind release) volume = (id ≡ volume) × ((get volume d.volumes ≡ None) × IsOfFamily d.volumes source volume)
MakesStray d body volume = ⊥

like_stray : (volume : ℕ) (a b : Option Stored) → Like a b → is_stray volume b ≡ is_stray volume a
like_stray volume None None h = refl
like_stray volume (Some s) (Some x) h = ap (λ (k : ℕ). nat_eq k volume && not (nat_eq x.volume.kind 0)) h.family ∙ ap (λ (k : ℕ). nat_eq s.volume.family volume && not (nat_eq k 0)) h.kind
like_stray volume None (Some x) h = absurd h
like_stray volume (Some s) None h = absurd h

not_true : (b : Bool) → not b ≡ true → b ≡ false
not_true true e = absurd cc
not_true false e = refl

makes_stray : (body : RecordBody) (d : Durable) (volume : ℕ) (before after : Option Stored) → before ≡ get volume d.volumes → number_in body ≡ volume → Makes d body before after → is_stray volume before ≡ false → is_stray volume after ≡ true → MakesStray d body volume
makes_stray (bodies.Create id family name kind flags quota is_new) d volume before after is same m rests e =
    let made : (nat_eq family volume && not (nat_eq kind 0)) ≡ true = sym (ap (is_stray volume) m.1) ∙ e in
    (same, (eqb-true family volume (first_of (nat_eq family volume) (not (nat_eq kind 0)) made), not_true (nat_eq kind 0) (second_of (nat_eq family volume) (not (nat_eq kind 0)) made)))
makes_stray (bodies.Delete id) d volume before after is same m rests e = absurd (both (is_stray volume after) (ap (is_stray volume) m) e)
makes_stray (bodies.Clone source id name kind release) d volume before after is same m rests e =
    let made : (nat_eq m.1.s.volume.family volume && not (nat_eq kind 0)) ≡ true = sym (ap (is_stray volume) m.1.is) ∙ e in
    (same, (sym is ∙ m.0, record { stored = m.1.s; there = m.1.there; its = eqb-true m.1.s.volume.family volume (first_of (nat_eq m.1.s.volume.family volume) (not (nat_eq kind 0)) made) }))
makes_stray (bodies.Flags id flags) d volume before after is same m rests e = absurd (both (is_stray volume before) rests (ap (is_stray volume) m.was ∙ (sym (ap (is_stray volume) m.is) ∙ e)))
makes_stray body d volume before after is same m rests e = absurd m

strays_turn : Turning is_stray MakesStray
strays_turn = record {
  changes = λ clock volume c. like_stray volume (Some c.before) (Some (stored_by clock c)) (change_alike clock c);
  starts = λ t volume up rests e. starts_by t volume up rests e (get volume (filter is_unflagged t)) refl;
  bodies = λ body d volume can fits rests e. by body d volume rests e (does body d volume fits);
}
  where
    starts_by : (t : Table Stored) (volume : ℕ) → AscendsFrom 0 t → is_stray volume (get volume t) ≡ false → is_stray volume (get volume (filter is_unflagged t)) ≡ true → (o : Option Stored) → get volume (filter is_unflagged t) ≡ o → ⊥
    starts_by t volume up rests e None is = both (is_stray volume (get volume (filter is_unflagged t))) (ap (is_stray volume) is) e
    starts_by t volume up rests e (Some x) is = both (is_stray volume (get volume t)) rests (ap (is_stray volume) (kept_found is_unflagged 0 volume t x up is) ∙ (sym (ap (is_stray volume) is) ∙ e))

    by : (body : RecordBody) (d : Durable) (volume : ℕ) → is_stray volume (get volume d.volumes) ≡ false → is_stray volume (get volume (done_by body d).volumes) ≡ true → Does d body volume (get volume d.volumes) (get volume (done_by body d).volumes) → MakesStray d body volume
    by body d volume rests e (inl x) = makes_stray body d volume (get volume d.volumes) (get volume (done_by body d).volumes) refl x.0 x.1 rests e
    by body d volume rests e (inr like) = absurd (both (is_stray volume (get volume d.volumes)) rests (sym (like_stray volume (get volume d.volumes) (get volume (done_by body d).volumes) like) ∙ e))

-- ---- where another volume than a read-write one is asked for

is_making : Call → Bool
is_making (ask.Volume (calls.CreateVolume f id name kind flags quota)) = not (nat_eq kind 0)
is_making (ask.Volume (calls.Clone f number id name kind)) = true
is_making call = false

family_made : Call → ℕ
family_made (ask.Volume (calls.CreateVolume f id name kind flags quota)) = f
family_made (ask.Volume (calls.Clone f number id name kind)) = f
family_made call = 0

number_made : Call → ℕ
number_made (ask.Volume (calls.CreateVolume f id name kind flags quota)) = id
number_made (ask.Volume (calls.Clone f number id name kind)) = id
number_made call = 0

no : false ≡ true → ⊥
no e = absurd cc

IsMaker : Place → Type 0
IsMaker (places.Backs h (backing.Clones t id)) = ⊤
IsMaker (places.Tours r (touring.Clones t)) = ⊤
IsMaker (places.Visits r s visiting.Makes) = ⊤
IsMaker (places.Moves m (moving.Clones t)) = ⊤
IsMaker p = ⊥

maker : (e : Errand) (p : Place) → is_making (asks_at e p).call ≡ true → IsMaker p
unfolding is_making IsMaker
maker e (places.Backs h (backing.Clones t id)) is = tt
maker e (places.Tours r (touring.Clones t)) is = tt
maker e (places.Visits r s visiting.Makes) is = tt
maker e (places.Moves m (moving.Clones t)) is = tt
maker e (places.Creates f creating.Numbers) is = no is
maker e (places.Dumps s dumping.Stamps) is = no is
maker e (places.Releases h releasing.Stamps) is = no is
maker e (places.Removes h seen removing.Begins) is = no is
maker e (places.Sweeps h spot left sweeping.Begins) is = no is
maker e (places.Mends m mending.Begins) is = no is
maker e p is = no is

-- it has another number than its family
apart : (n : ℕ) (e : Errand) (p : Place) → IsMaker p → PlaceIsSound n p → Fits p → number_made (asks_at e p).call ≡ family_made (asks_at e p).call → ⊥
unfolding IsMaker number_made family_made
apart n e (places.Backs h (backing.Clones t id)) is well fits same = well.1 same
apart n e (places.Tours r (touring.Clones t)) is well fits same = fits same
apart n e (places.Visits r s visiting.Makes) is well fits same = well.1 same
apart n e (places.Moves m (moving.Clones t)) is well fits same = well.1 same
apart n e p is well fits same = absurd is

module _ (s : Script) (inputs : List CellInput) (numbered : IsNumbered s) where
  abbrev c : NodeCell
  c = cell_behind (node_start s) inputs

  asked_apart : (m : Message) (place : ℕ) (user : List ℕ) (call : VolCall) → message_at c.sent place ≡ Some m → m.carried ≡ carried.Call user (ask.Volume call) → IsOfAdmins call → is_making (ask.Volume call) ≡ true → number_made (ask.Volume call) ≡ family_made (ask.Volume call) → ⊥
  asked_apart m place user call at is admins making same =
      let who = askers s inputs place m user call at is admins in
      let on : IsOnCourse (course_in s inputs) c.sent who.0 (c.admins who.0) m.head (ask.Volume call) = (are_on_course.on s inputs).calls place who.0 m user (ask.Volume call) at who.1 is in
      let q : Question = course_in s inputs who.0 m.head.epoch m.head.number in
      apart (next_volume c) q.errand q.place (maker q.errand q.place (ap is_making on.asks ∙ making)) (sound s inputs numbered who.0 m.head.epoch m.head.number) (fit s numbered inputs who.0 m.head.epoch m.head.number)
      (ap number_made on.asks ∙ (same ∙ sym (ap family_made on.asks)))

  -- ---- a record that makes one

  module _ (server volume : ℕ) (w : IsTurned MakesStray c server volume) where
    abbrev ts : Table Transaction
    ts = (c.hosts server).state.vol.transactions

    abbrev Saved : Type 0
    Saved = IsSaved (disk_at c server) (c.hosts server).state.vol w.m.head w.m.carried w.x

    clone_by : (v : Saved) (source id : ℕ) (name : List ℕ) (kind family number : ℕ) → IsClone (disk_at c server) v.call family number id name kind → id ≡ volume → get volume (volumes_in c server) ≡ None → family ≡ volume → ⊥
    unfolding is_making number_made family_made
    clone_by v source id name kind family number (inl is) same none own =
        asked_apart w.m w.place v.user v.call w.sent v.is_call (subst IsOfAdmins (sym is.0) tt) (ap (λ (y : VolCall). is_making (ask.Volume y)) is.0)
        (ap (λ (y : VolCall). number_made (ask.Volume y)) is.0 ∙ (same ∙ (sym own ∙ sym (ap (λ (y : VolCall). family_made (ask.Volume y)) is.0))))
    clone_by v source id name kind family number (inr is) same none own = both (has_volume id (disk_at c server)) (ap (λ (k : ℕ). is_some (get k (volumes_in c server))) same ∙ ap is_some none) is.1

    made_by : (v : Saved) (body : RecordBody) → MakesStray (disk_at c server) body volume → BodyAsked (disk_at c server) ts v.call body → ⊥
    unfolding is_making number_made family_made
    made_by v (bodies.Create id family name kind flags quota is_new) makes asked =
        asked_apart w.m w.place v.user v.call w.sent v.is_call (subst IsOfAdmins (sym asked.is) tt) (ap (λ (y : VolCall). is_making (ask.Volume y)) asked.is ∙ ap not makes.1.1)
        (ap (λ (y : VolCall). number_made (ask.Volume y)) asked.is ∙ (makes.0 ∙ (sym makes.1.0 ∙ sym (ap (λ (y : VolCall). family_made (ask.Volume y)) asked.is))))
    made_by v (bodies.Clone source id name kind release) makes asked =
        let z = of_family_is asked.family (get asked.number ts) asked.within.t asked.within.there in
        let y : IsOfFamily (volumes_in c server) source volume = makes.1.1 in
        let its : y.stored.volume.family ≡ asked.within.t.family = w.well.all asked.number asked.within.t z.0 y.stored (ap (λ (k : ℕ). get k (volumes_in c server)) asked.within.on ∙ y.there) in
        clone_by v source id name kind asked.family asked.number asked.is makes.0 makes.1.0 (sym (eqb-true asked.within.t.family asked.family z.1) ∙ (sym its ∙ y.its))
    made_by v body makes asked = absurd makes

    none_made : ⊥
    none_made =
        let v : Saved = subst (Saves (disk_at c server) (c.hosts server).state.vol w.m.head w.m.carried) w.decides (decided_saves (Server server) (disk_at c server) (c.hosts server).state.vol w.m) in
        made_by v w.x.body w.turns v.asked

  none_by : (x : CellInput) (server volume : ℕ) → is_stray volume (get volume (volumes_in c server)) ≡ false → (b : Bool) → is_stray volume (get volume (volumes_in (node_moved c x).cell server)) ≡ b → b ≡ false
  none_by x server volume rests false is = refl
  none_by x server volume rests true is = absurd (none_made server volume (are_turned is_stray MakesStray strays_turn s inputs x server volume rests is))

  none_comes : (x : CellInput) (server volume : ℕ) → is_stray volume (get volume (volumes_in c server)) ≡ false → is_stray volume (get volume (volumes_in (node_moved c x).cell server)) ≡ false
  none_comes x server volume rests = none_by x server volume rests (is_stray volume (get volume (volumes_in (node_moved c x).cell server))) refl

-- ---- a run

there_by : (b : Bool) (v : Volume) (x y : Stored) (o : Option Volume) (q : Option Stored) → (q ≡ Some x → is_some o ≡ true) → cond b (Some y) q ≡ Some x → is_some (cond b (Some v) o) ≡ true
there_by true v x y o q later e = refl
there_by false v x y o q later e = later e

stored_there : (id : ℕ) (t : Table Volume) (x : Stored) → get id (first_stored t) ≡ Some x → is_some (get id t) ≡ true
stored_there id [] x e = absurd cc
stored_there id (p ∷ ps) x e = there_by (nat_eq p.0 id) p.1 x (at_set_up p.1) (get id ps) (get id (first_stored ps)) (stored_there id ps x) e

not_stray : (a b : Bool) → b ≡ true → (a && not b) ≡ false
not_stray true b e = ap not e
not_stray false b e = refl

first_none : (s : Script) (server volume : ℕ) → is_stray volume (get volume (volumes_in (node_start s) server)) ≡ false
first_none s server volume = by (get volume (volumes_in (node_start s) server)) refl
  where
    by : (o : Option Stored) → get volume (volumes_in (node_start s) server) ≡ o → is_stray volume o ≡ false
    by None is = refl
    by (Some x) is =
        let serves : has_in_service (volumes_in (node_start s) server) volume ≡ true = sym (first_serves volume server s.volumes) ∙ stored_there volume (first_volumes_at server s.volumes) x is in
        let both' : (nat_eq x.volume.kind 0 && nat_eq x.volume.flags 0) ≡ true = sym (ap is_in_service is) ∙ serves in
        not_stray (nat_eq x.volume.family volume) (nat_eq x.volume.kind 0) (first_of (nat_eq x.volume.kind 0) (nat_eq x.volume.flags 0) both')

pub none_strays : (s : Script) (inputs : List CellInput) → IsNumbered s → (server volume : ℕ) → is_stray volume (get volume (volumes_in (cell_behind (node_start s) inputs) server)) ≡ false
none_strays s inputs numbered = each_run s (λ course c. (server volume : ℕ) → is_stray volume (get volume (volumes_in c server)) ≡ false) (λ done x t h server volume. none_comes s done numbered x server volume (h server volume)) (first_none s) inputs

-- so one of its family's number is read-write
pub is_read_write : (volume : ℕ) (x : Stored) (o : Option Stored) → o ≡ Some x → is_stray volume o ≡ false → x.volume.family ≡ volume → nat_eq x.volume.kind 0 ≡ true
is_read_write volume x o there none own = by (nat_eq x.volume.kind 0) (sym (ap (λ (k : ℕ). nat_eq k volume && not (nat_eq x.volume.kind 0)) own) ∙ (sym (ap (is_stray volume) there) ∙ none)) (eq-eqb volume volume refl)
  where
    by : (b : Bool) → (nat_eq volume volume && not b) ≡ false → nat_eq volume volume ≡ true → b ≡ true
    by true e same = refl
    by false e same = absurd (both (nat_eq volume volume && true) e (ap (λ (a : Bool). a && true) same))

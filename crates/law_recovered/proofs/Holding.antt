-- While a recovery holds the lock, a server that has stored its stamp gets no read-write copy of the volume, and takes it out of service only
-- where the recovery itself deletes it.
use Rattle.std.proofs.Common.{◌≡◌, ◌⊎◌, ◌≤◌, inl, inr, ℕ, Bool, true, false, cond, List, [], ◌∷◌, Option, Some, None, refl, sym, ap, subst, ◌∙◌, eqb-true}
use Rattle.std.proofs.Math.Nat.{le_trans}
use Rattle.std.specs.Prelude.{⊤, ◌&&◌, nat_eq, not}
use Rattle.afs_num.specs.declared.messages.Call.TheVariants as ask
use Rattle.afs_num.specs.declared.messages.Message.{Message}
use Rattle.afs_num.specs.declared.records.RecordBody.{RecordBody}
use Rattle.afs_num.specs.declared.records.RecordBody.TheVariants as bodies
use Rattle.afs_num.specs.declared.types.Head.{Head}
use Rattle.afs_num.specs.declared.types.Node.TheVariants.{Admin, Server}
use Rattle.afs_num.specs.declared.volume_calls.VolCall.{VolCall}
use Rattle.afs_num.specs.declared.volume_calls.VolCall.TheVariants as calls
use Rattle.spec_history.specs.declared.scripts.Script.{Script}
use Rattle.spec_ideal.specs.Tables.{get, Table}
use Rattle.spec_records.specs.Durable.{stamp_of, Durable, Stored}
use Rattle.spec_adminrows.specs.Acts.{asks_at}
use Rattle.spec_adminrows.specs.declared.places.Mend.{Mend}
use Rattle.spec_adminrows.specs.declared.places.Mending.TheVariants as mending
use Rattle.spec_adminrows.specs.declared.places.Place.{Place}
use Rattle.spec_adminrows.specs.declared.places.Place.TheVariants as places
use Rattle.spec_adminrows.specs.declared.places.Purpose.TheVariants as purposes
use Rattle.spec_adminrows.specs.declared.places.Spot.{Spot}
use Rattle.spec_adminrows.specs.declared.turns.Errand.{Errand}
use Rattle.spec_volrows.specs.VolRow.{family_of, found}
use Rattle.spec_volrows.specs.VolStates.{Transaction, VolState}
use Rattle.spec_volrows.specs.VolSteps.{saves, vol_decides, Deed}
use Rattle.spec_rows.specs.Runs.{message_at}
use Rattle.spec_model.specs.Calls.{admitted}
use Rattle.spec_model.specs.Calls as pairs
use Rattle.spec_runs.specs.NodeRuns.{has_host, node_moved, node_start, CellInput, NodeCell}
use Rattle.law_places.specs.Accepting.{cell_behind, is_in_service, serves_at}
use Rattle.law_stamps.specs.Stamps.{stored_stamp}
use Rattle.afs_num.specs.declared.messages.Carried.TheVariants as carried
use Rattle.law_families.specs.Enables.{IsCutIn}
use Rattle.law_families.specs.Families.{volumes_in}
use Rattle.law_transactions.specs.Numbers.{boot_at}
use Rattle.law_families.proofs.Opening.{of_family_is}
use Rattle.law_families.proofs.Volumes.{IsFit}
use Rattle.law_families.proofs.Walk.{read_write_is_family}
use Rattle.law_fences.specs.Fences.{disk_at}
use Rattle.law_courses.specs.Courses.{Question}
use Rattle.law_recovered.specs.Copies.{has_copy_at}
use Rattle.law_recovered.proofs.Own.{own_call, course, IsMending, IsOfAdmins, IsOwn, Holds}
use Rattle.law_recovered.proofs.Tests.{copies_turn, copy_test, services_turn, shut_test, Closes, MakesCopy}
use Rattle.law_recovered.proofs.Turned.{are_turned, IsTurned}
use Rattle.law_recovered.proofs.Written.{decided_saves, BodyAsked, IsIn, IsSaved, IsWithin, Saves}

-- ---- what a recovery asks

-- it makes no volume
no_creation : (e : Errand) (p : Place) (family id : ℕ) (name : List ℕ) (kind flags quota : ℕ) → IsMending p → (asks_at e p).call ≡ ask.Volume (calls.CreateVolume family id name kind flags quota) → ⊥
no_creation e (places.Surveys h (purposes.Mends cause) s left seen) family id name kind flags quota at is = absurd cc
no_creation e (places.Asks cause h seen) family id name kind flags quota at is = absurd cc
no_creation e (places.Mends m (mending.Takes s)) family id name kind flags quota at is = absurd cc
no_creation e (places.Mends m (mending.Points s t)) family id name kind flags quota at is = absurd cc
no_creation e (places.Mends m (mending.Deletes s t)) family id name kind flags quota at is = absurd cc
no_creation e (places.Mends m (mending.Drops spot)) family id name kind flags quota at is = absurd cc
no_creation e (places.Mends m (mending.Dropped spot t)) family id name kind flags quota at is = absurd cc
no_creation e (places.Mends m mending.Begins) family id name kind flags quota at is = absurd cc
no_creation e (places.Mends m (mending.Opens t)) family id name kind flags quota at is = absurd cc
no_creation e (places.Mends m (mending.Ends t)) family id name kind flags quota at is = absurd cc
no_creation e (places.Mends m mending.Frees) family id name kind flags quota at is = absurd cc
no_creation e p family id name kind flags quota at is = absurd at

-- it sets no flags but to 0
no_closing : (e : Errand) (p : Place) (family t flags : ℕ) → IsMending p → (asks_at e p).call ≡ ask.Volume (calls.SetFlags family t flags) → flags ≡ 0
no_closing e (places.Surveys h (purposes.Mends cause) s left seen) family t flags at is = absurd cc
no_closing e (places.Asks cause h seen) family t flags at is = absurd cc
no_closing e (places.Mends m (mending.Takes s)) family t flags at is = absurd cc
no_closing e (places.Mends m (mending.Points s n)) family t flags at is = absurd cc
no_closing e (places.Mends m (mending.Deletes s n)) family t flags at is = absurd cc
no_closing e (places.Mends m (mending.Drops spot)) family t flags at is = absurd cc
no_closing e (places.Mends m (mending.Dropped spot n)) family t flags at is = absurd cc
no_closing e (places.Mends m mending.Begins) family t flags at is = absurd cc
no_closing e (places.Mends m (mending.Opens n)) family t flags at is = cc
no_closing e (places.Mends m (mending.Ends n)) family t flags at is = absurd cc
no_closing e (places.Mends m mending.Frees) family t flags at is = absurd cc
no_closing e p family t flags at is = absurd at

-- where it deletes a volume
abbrev pub IsDeleting : Place → Type 0
IsDeleting (places.Mends m (mending.Deletes s t)) = ⊤
IsDeleting (places.Mends m (mending.Dropped spot t)) = ⊤
IsDeleting p = ⊥

deleting : (e : Errand) (p : Place) (family t : ℕ) → IsMending p → (asks_at e p).call ≡ ask.Volume (calls.DeleteVolume family t) → IsDeleting p
deleting e (places.Surveys h (purposes.Mends cause) s left seen) family t at is = absurd cc
deleting e (places.Asks cause h seen) family t at is = absurd cc
deleting e (places.Mends m (mending.Takes s)) family t at is = absurd cc
deleting e (places.Mends m (mending.Points s n)) family t at is = absurd cc
deleting e (places.Mends m (mending.Deletes s n)) family t at is = tt
deleting e (places.Mends m (mending.Drops spot)) family t at is = absurd cc
deleting e (places.Mends m (mending.Dropped spot n)) family t at is = tt
deleting e (places.Mends m mending.Begins) family t at is = absurd cc
deleting e (places.Mends m (mending.Opens n)) family t at is = absurd cc
deleting e (places.Mends m (mending.Ends n)) family t at is = absurd cc
deleting e (places.Mends m mending.Frees) family t at is = absurd cc
deleting e p family t at is = absurd at

-- ---- a step

some_call : (a b : VolCall) → ask.Volume a ≡ ask.Volume b → a ≡ b
some_call a b e = cc

module _ (s : Script) (inputs : List CellInput) (x : CellInput) where
  abbrev c : NodeCell
  c = cell_behind (node_start s) inputs

  abbrev d : NodeCell
  d = (node_moved c x).cell

  saved_of : (Turns : Durable → RecordBody → ℕ → Type 0) (server volume : ℕ) (w : IsTurned Turns c server volume) → IsSaved (disk_at c server) (c.hosts server).state.vol w.m.head w.m.carried w.x
  saved_of Turns server volume w = subst (Saves (disk_at c server) (c.hosts server).state.vol w.m.head w.m.carried) w.decides (decided_saves (Server server) (disk_at c server) (c.hosts server).state.vol w.m)

  abbrev Place_of : (n : ℕ) (m : Message) → Question
  Place_of n m = course s inputs n m.head.epoch m.head.number

  -- ---- no copy comes

  -- the call that makes one is of the family, and no other place asks it
  creates_none : (volume server : ℕ) (h : Holds s inputs volume) → h.stamp ≤ stored_stamp c server volume → (w : IsTurned MakesCopy c server volume) (v : IsSaved (disk_at c server) (c.hosts server).state.vol w.m.head w.m.carried w.x) (body : RecordBody) →
      MakesCopy (disk_at c server) body volume → IsFit (disk_at c server) body → BodyAsked (disk_at c server) (c.hosts server).state.vol.transactions v.call body → ⊥
  creates_none volume server h stored w v (bodies.Create id family name kind flags quota is_new) makes fit asked =
      let own : family ≡ volume = fit.1.0 makes.1 ∙ makes.0 in
      let in_it : family_of v.call ≡ volume = ap family_of asked.is ∙ own in
      let admins : IsOfAdmins v.call = subst IsOfAdmins (sym asked.is) tt in
      let low : h.stamp ≤ w.m.head.stamp = le_trans stored (subst (λ (f : ℕ). stamp_of f (disk_at c server) ≤ w.m.head.stamp) in_it v.low) in
      let its : IsOwn s inputs h.stamp w.m v.call = own_call s inputs volume h w.place w.m v.user v.call w.sent v.is_call admins in_it low in
      no_creation (Place_of its.n w.m).errand (Place_of its.n w.m).place family id name kind flags quota its.mending (its.on.asks ∙ ap ask.Volume asked.is)
  creates_none volume server h stored w v body makes fit asked = absurd makes

  comes_by : (volume server : ℕ) (h : Holds s inputs volume) → h.stamp ≤ stored_stamp c server volume → has_copy_at c volume server ≡ false → (b : Bool) → has_copy_at d volume server ≡ b → b ≡ false
  comes_by volume server h stored none false is = refl
  comes_by volume server h stored none true is =
      let w : IsTurned MakesCopy c server volume = are_turned copy_test MakesCopy copies_turn s inputs x server volume none is in
      let v : IsSaved (disk_at c server) (c.hosts server).state.vol w.m.head w.m.carried w.x = saved_of MakesCopy server volume w in
      absurd (creates_none volume server h stored w v w.x.body w.turns w.fits v.asked)

  pub none_comes : (volume server : ℕ) (h : Holds s inputs volume) → h.stamp ≤ stored_stamp c server volume → has_copy_at c volume server ≡ false → has_copy_at d volume server ≡ false
  none_comes volume server h stored none = comes_by volume server h stored none (has_copy_at d volume server) refl

  -- ---- it goes out of service by the recovery's own call

  -- the call deletes it, in its transaction, and is asked by a recovery that has the lock
  pub record IsDeleted (volume server stamp : ℕ) : Type 0 where
    pub m : Message
    pub call : VolCall
    pub own : IsOwn s inputs stamp m call
    pub number : ℕ
    pub is : call ≡ calls.DeleteVolume volume number
    pub to : m.head.to ≡ Server server
    pub host : has_host c server ≡ true
    pub place : ℕ
    pub sent : message_at c.sent place ≡ Some m
    pub user : List ℕ
    pub says : m.carried ≡ carried.Call user (ask.Volume call)
    pub live : ((c.hosts server).down ≡ None) ⊎ IsCutIn c server m
    pub runs : admitted (boot_at c server) (c.hosts server).state.vol.seats m.head ≡ pairs.runs
    pub stored : stored_stamp c server volume ≡ m.head.stamp
    pub at : IsDeleting (Place_of own.n m).place
    pub t : Transaction
    pub there : found volume number (c.hosts server).state.vol.transactions ≡ Some t
    pub on : t.volume ≡ volume

  first_of : (a b : Bool) → (a && b) ≡ true → a ≡ true
  first_of true b e = refl
  first_of false b e = absurd cc

  kind_of : (o : Option Stored) → is_in_service o ≡ true → (y : Stored) × ((o ≡ Some y) × (y.volume.kind ≡ 0))
  kind_of None e = absurd cc
  kind_of (Some y) e = (y, (refl, eqb-true y.volume.kind 0 (first_of (nat_eq y.volume.kind 0) (nat_eq y.volume.flags 0) e)))

  -- a transaction on a volume in service is of the volume's own family
  family_is : (Turns : Durable → RecordBody → ℕ → Type 0) (volume server family number : ℕ) (w : IsTurned Turns c server volume) → IsIn (c.hosts server).state.vol.transactions family number volume → serves_at c volume server ≡ true → family ≡ volume
  family_is Turns volume server family number w i serves =
      let z = of_family_is family (get number (c.hosts server).state.vol.transactions) i.t i.there in
      let y = kind_of (get volume (volumes_in c server)) serves in
      let its : y.0.volume.family ≡ i.t.family = w.well.all number i.t z.0 y.0 (ap (λ (k : ℕ). get k (volumes_in c server)) i.on ∙ y.1.0) in
      sym (eqb-true i.t.family family z.1) ∙ (sym its ∙ read_write_is_family s inputs server volume y.0 y.1.0 y.1.1)

  closes_by : (volume server : ℕ) (h : Holds s inputs volume) → h.stamp ≤ stored_stamp c server volume → serves_at c volume server ≡ true → (w : IsTurned Closes c server volume) (v : IsSaved (disk_at c server) (c.hosts server).state.vol w.m.head w.m.carried w.x) (body : RecordBody) →
      Closes (disk_at c server) body volume → BodyAsked (disk_at c server) (c.hosts server).state.vol.transactions v.call body → (IsWithin body → stamp_of (family_of v.call) (disk_at c server) ≡ w.m.head.stamp) → IsDeleted volume server h.stamp
  closes_by volume server h stored serves w v (bodies.Flags id flags) closes asked now =
      let within : IsIn (c.hosts server).state.vol.transactions asked.family asked.number volume = subst (IsIn (c.hosts server).state.vol.transactions asked.family asked.number) closes.0 asked.within in
      let own : asked.family ≡ volume = family_is Closes volume server asked.family asked.number w within serves in
      let in_it : family_of v.call ≡ volume = ap family_of asked.is ∙ own in
      let low : h.stamp ≤ w.m.head.stamp = le_trans stored (subst (λ (f : ℕ). stamp_of f (disk_at c server) ≤ w.m.head.stamp) in_it v.low) in
      let its : IsOwn s inputs h.stamp w.m v.call = own_call s inputs volume h w.place w.m v.user v.call w.sent v.is_call (subst IsOfAdmins (sym asked.is) tt) in_it low in
      let none : flags ≡ 0 = no_closing (Place_of its.n w.m).errand (Place_of its.n w.m).place asked.family asked.number flags its.mending (its.on.asks ∙ ap ask.Volume asked.is) in
      let no : true ≡ false = sym (ap (λ (k : ℕ). nat_eq k 0) none) ∙ closes.1 in absurd cc
  closes_by volume server h stored serves w v (bodies.Delete id) closes asked now =
      let within : IsIn (c.hosts server).state.vol.transactions asked.family asked.number volume = subst (IsIn (c.hosts server).state.vol.transactions asked.family asked.number) closes asked.within in
      let own : asked.family ≡ volume = family_is Closes volume server asked.family asked.number w within serves in
      let in_it : family_of v.call ≡ volume = ap family_of asked.is ∙ own in
      let low : h.stamp ≤ w.m.head.stamp = le_trans stored (subst (λ (f : ℕ). stamp_of f (disk_at c server) ≤ w.m.head.stamp) in_it v.low) in
      let its : IsOwn s inputs h.stamp w.m v.call = own_call s inputs volume h w.place w.m v.user v.call w.sent v.is_call (subst IsOfAdmins (sym asked.is) tt) in_it low in
      record {
        m = w.m;
        call = v.call;
        own = its;
        number = asked.number;
        is = asked.is ∙ ap (λ (f : ℕ). calls.DeleteVolume f asked.number) own;
        to = w.to;
        host = w.host;
        place = w.place;
        sent = w.sent;
        user = v.user;
        says = v.is_call;
        live = w.live;
        runs = v.runs;
        stored = subst (λ (f : ℕ). stamp_of f (disk_at c server) ≡ w.m.head.stamp) in_it (now tt);
        at = deleting (Place_of its.n w.m).errand (Place_of its.n w.m).place asked.family asked.number its.mending (its.on.asks ∙ ap ask.Volume asked.is);
        t = within.t;
        there = subst (λ (f : ℕ). found f asked.number (c.hosts server).state.vol.transactions ≡ Some within.t) own within.there;
        on = within.on;
      }
  closes_by volume server h stored serves w v body closes asked now = absurd closes

  stays_by : (volume server : ℕ) (h : Holds s inputs volume) → h.stamp ≤ stored_stamp c server volume → serves_at c volume server ≡ true → (b : Bool) → serves_at d volume server ≡ b → (b ≡ true) ⊎ IsDeleted volume server h.stamp
  stays_by volume server h stored serves true is = inl refl
  stays_by volume server h stored serves false is =
      let w : IsTurned Closes c server volume = are_turned shut_test Closes services_turn s inputs x server volume (ap not serves) (ap not is) in
      inr (closes_by volume server h stored serves w (saved_of Closes server volume w) w.x.body w.turns (saved_of Closes server volume w).asked (saved_of Closes server volume w).stored)

  pub still_serves : (volume server : ℕ) (h : Holds s inputs volume) → h.stamp ≤ stored_stamp c server volume → serves_at c volume server ≡ true → (serves_at d volume server ≡ true) ⊎ IsDeleted volume server h.stamp
  still_serves volume server h stored serves = stays_by volume server h stored serves (serves_at d volume server) refl

-- What is done to the volumes in memory is what the fold does to them.
use Rattle.std.proofs.Common.{◌≡◌, ℕ, List, [], ◌∷◌, Bool, true, false, not, Option, Some, None, is_some, refl, sym, ap, ◌∙◌, nat_eq, if◌then◌else◌}
use Rattle.std.specs.Prelude.{Ok, ◌&&◌, ◌||◌}
use Rattle.afs_num.specs.Nodes.{node_number}
use Rattle.afs_num.specs.declared.types.Node.{Node}
use Rattle.afs_num.specs.declared.records.RecordBody.TheVariants as bodies
use Rattle.spec_ideal.specs.Tables.{Table, get, set, unset, AscendsFrom}
use Rattle.spec_records.specs.Durable.{Durable, Stored}
use Rattle.spec_dumps.specs.Restores.{restored_from}
use Rattle.spec_fold.specs.Deeds.{can_take, clone_put, created, done_by, flagged, on_stored, or_as_was, with_release}
use Rattle.spec_fold.specs.Deeds as deeds
use Rattle.afs_seats.specs.Seated.{seen_as}
use Rattle.afs_seats.proofs.Places.{get_seen, put_again, set_seen}
use Rattle.afs_shelves.specs.Deeds.{clone_by, create_body, deed_body, IsCloneIn, IsCreated, IsMadeIn, IsRestoredIn, SuitsDeed}
use Rattle.afs_shelves.specs.Numbered.{shelf_number}
use Rattle.afs_shelves.specs.Shelving.{is_new_in, keeping, shelved, stored_as, IsAltered, IsReplaced}
use Rattle.afs_shelves.specs.declared.deed.CloneDeed.{CloneDeed}
use Rattle.afs_shelves.specs.declared.deed.Deed.{Deed}
use Rattle.afs_shelves.specs.declared.deed.Deed.TheVariants as done
use Rattle.afs_shelves.specs.declared.deed.RestoreDeed.{RestoreDeed}
use Rattle.afs_shelves.specs.declared.shelf.Shelf.{Shelf}
use Rattle.afs_volume.specs.declared.volume.Volume.{Volume}
use Rattle.afs_shelves.proofs.Found.{seen_is}

-- ---- tables that are seen

unset_by : {A B : Type 0} (f : A → B) (b : Bool) (p : ℕ × A) (r : Table A) (s : Table B) → s ≡ seen_as f r → (if b then (p.0, f p.1) ∷ s else s) ≡ seen_as f (if b then p ∷ r else r)
unset_by {A} {B} f true p r s e = ap (λ (x : Table B). (p.0, f p.1) ∷ x) e
unset_by {A} {B} f false p r s e = e

unset_seen : {A B : Type 0} (f : A → B) (n : ℕ) (t : Table A) → unset n (seen_as f t) ≡ seen_as f (unset n t)
unset_seen {A} {B} f n [] = refl
unset_seen {A} {B} f n (p ∷ ps) = unset_by f (not (nat_eq p.0 n)) p (unset n ps) (unset n (seen_as f ps)) (unset_seen f n ps)

-- an item that is put, and one that is taken away
put_seen : {A B : Type 0} (f : A → B) (n : ℕ) (x : A) (y : B) (t u : Table A) → u ≡ set n x t → f x ≡ y → set n y (seen_as f t) ≡ seen_as f u
put_seen {A} {B} f n x y t u put is = ap (λ (z : B). set n z (seen_as f t)) (sym is) ∙ (set_seen f n x t ∙ ap (seen_as f) (sym put))

pub less_seen : {A B : Type 0} (f : A → B) (n : ℕ) (t u : Table A) → u ≡ unset n t → unset n (seen_as f t) ≡ seen_as f u
less_seen {A} {B} f n t u less = unset_seen f n t ∙ ap (seen_as f) (sym less)

keeps_so : (d : Durable) (vs ws : Table Stored) (fs gs : Table ℕ) → vs ≡ ws → fs ≡ gs → record d { volumes = vs; forwardings = fs } ≡ record d { volumes = ws; forwardings = gs }
keeps_so d vs ws fs gs p q = rw (p, q) refl

-- what was taken out is put back, or a later one of it
pub put_back : (id : ℕ) (x : Shelf) (t mid u : Table Shelf) → AscendsFrom 0 t → mid ≡ unset id t → x.volume.head.id ≡ id → u ≡ set x.volume.head.id x mid → u ≡ set id x t
put_back id x t mid u up less own put = put ∙ (ap (λ (n : ℕ). set n x mid) own ∙ (ap (set id x) less ∙ put_again id x t up))

-- ---- each deed

pub create_done : (s : Shelf) (d : Durable) (t u : Table Shelf) (f g : Table Node) → IsCreated s → u ≡ set s.volume.head.id s t → g ≡ unset s.volume.head.id f → done_by (create_body s) (keeping d t f) ≡ keeping d u g
create_done s d t u f g is put less =
    keeps_so d _ _ _ _ (put_seen shelved s.volume.head.id s _ t u put is) (less_seen node_number s.volume.head.id f g less)

pub delete_done : (id : ℕ) (d : Durable) (t u : Table Shelf) (f g : Table Node) → u ≡ unset id t → g ≡ f → done_by (bodies.Delete id) (keeping d t f) ≡ keeping d u g
delete_done id d t u f g less same = keeps_so d _ _ _ _ (less_seen shelved id t u less) (ap (seen_as node_number) (sym same))

pub forward_done : (id : ℕ) (to : Node) (d : Durable) (t u : Table Shelf) (f g : Table Node) → u ≡ t → g ≡ set id to f → done_by (bodies.Forward id (node_number to)) (keeping d t f) ≡ keeping d u g
forward_done id to d t u f g same put = keeps_so d _ _ _ _ (ap (seen_as shelved) (sym same)) (put_seen node_number id to _ f g put refl)

-- what is seen of a volume that is altered
altered_seen : (id : ℕ) (change : Stored → Stored) (t u : Table Shelf) (is : IsAltered id change t u) → set id (change (shelved is.before)) (seen_as shelved t) ≡ seen_as shelved u
altered_seen id change t u is = put_seen shelved id is.after _ t u is.put is.altered

before_seen : (id : ℕ) (t : Table Shelf) (s : Shelf) → get id t ≡ Some s → get id (seen_as shelved t) ≡ Some (shelved s)
before_seen id t s there = get_seen shelved id t ∙ ap (λ (o : Option Shelf). mapped o) there
  where
    mapped : Option Shelf → Option Stored
    mapped None = None
    mapped (Some x) = Some (shelved x)

pub alter_done : (id : ℕ) (change : Stored → Stored) (d : Durable) (t u : Table Shelf) (f g : Table Node) → IsAltered id change t u → g ≡ f → on_stored id change (get id (seen_as shelved t)) (keeping d t f) ≡ keeping d u g
alter_done id change d t u f g is same =
    ap (λ (o : Option Stored). on_stored id change o (keeping d t f)) (before_seen id t is.before is.there)
    ∙ keeps_so d _ _ _ _ (altered_seen id change t u is) (ap (seen_as node_number) (sym same))

-- a volume that stands in the place of the one of which a dump made it
pub restore_done : (dump : List ℕ) (v : Volume) (e d : Durable) (t u : Table Shelf) (f g : Table Node) → IsRestoredIn (keeping e t f) dump v → IsReplaced v t u → g ≡ f → done_by (bodies.Restore v.head.id dump) (keeping d t f) ≡ keeping d u g
restore_done dump v e d t u f g makes is same =
    let s : Stored = shelved is.before in
    alter_done v.head.id (λ x. or_as_was x (restored_from v.head.id x dump)) d t u f g
    (record {
      before = is.before;
      there = is.there;
      after = record { volume = v; is_new = is.before.is_new };
      put = is.put;
      altered = sym (ap (or_as_was s) (makes s (before_seen v.head.id t is.before is.there)));
    }) same

-- ---- clones

-- whether there is one that is made anew
clone_by_there : (source id : ℕ) (name : List ℕ) (kind release : ℕ) (s : Stored) (d : Durable) (t m u : Table Shelf) (f g : Table Node) (v : Volume) (is_new : Bool) (o : Option Stored)
    → set source (with_release release s) (seen_as shelved t) ≡ seen_as shelved m → stored_as is_new v ≡ clone_by name kind release s o → u ≡ set id (record { volume = v; is_new = is_new }) m
    → g ≡ (if is_some o then f else unset id f) → clone_put source id name kind release s o (keeping d t f) ≡ keeping d u g
clone_by_there source id name kind release s d t m u f g v is_new None mid is put less =
    keeps_so d _ _ _ _ (ap (set id (clone_by name kind release s None)) mid ∙ put_seen shelved id (record { volume = v; is_new = is_new }) _ m u put is) (less_seen node_number id f g less)
clone_by_there source id name kind release s d t m u f g v is_new (Some old) mid is put less =
    keeps_so d _ _ _ _ (ap (set id (clone_by name kind release s (Some old))) mid ∙ put_seen shelved id (record { volume = v; is_new = is_new }) _ m u put is) (ap (seen_as node_number) (sym less))

-- a forwarding of the clone's number goes where it is a new one
pub kept_where : (id : ℕ) (f g : Table Node) (b : Bool) → b ≡ true → g ≡ f → g ≡ (if b then f else unset id f)
kept_where id f g true is e = e
kept_where id f g false is e = absurd cc

pub less_where : (id : ℕ) (f g : Table Node) (b : Bool) → b ≡ false → g ≡ unset id f → g ≡ (if b then f else unset id f)
less_where id f g true is e = absurd cc
less_where id f g false is e = e

pub clone_done : (c : CloneDeed) (e d : Durable) (t m u : Table Shelf) (f g : Table Node) → IsCloneIn (keeping e t f) c → IsAltered c.source (with_release c.release) t m
    → u ≡ set c.volume.head.id (record { volume = c.volume; is_new = is_new_in c.volume.head.id (seen_as shelved t) }) m
    → g ≡ (if is_some (get c.volume.head.id (seen_as shelved t)) then f else unset c.volume.head.id f)
    → done_by (deed_body (done.Clone c)) (keeping d t f) ≡ keeping d u g
clone_done c e d t m u f g makes is put less =
    let there = before_seen c.source t is.before is.there in
    ap (λ (o : Option Stored). deeds.clone_made c.source c.volume.head.id c.name c.kind c.release o (keeping d t f)) there
    ∙ clone_by_there c.source c.volume.head.id c.name c.kind c.release (shelved is.before) d t m u f g c.volume _ (get c.volume.head.id (seen_as shelved t))
    (altered_seen c.source (with_release c.release) t m is) (makes (shelved is.before) there) put less

-- ---- what can be taken

both : (a b : Bool) → (a && b) ≡ true → (a ≡ true) × (b ≡ true)
both true b e = (refl, e)
both false b e = absurd cc

-- a volume that is named is there
pub is_there : (id : ℕ) (t : Table Shelf) → is_some (get id (seen_as shelved t)) ≡ true → is_some (get id t) ≡ true
is_there id t e = sym (seen_is shelved id t) ∙ e

pub source_there : (c : CloneDeed) (e : Durable) (t : Table Shelf) (f : Table Node) → can_take (deed_body (done.Clone c)) (keeping e t f) ≡ true → is_some (get c.source t) ≡ true
source_there c e t f can = is_there c.source t (both (is_some (get c.source (seen_as shelved t))) _ can).0

restored_by : (id : ℕ) (dump : List ℕ) (o : Option Stored) → deeds.can_restore id dump o ≡ true → is_some o ≡ true
restored_by id dump None e = absurd cc
restored_by id dump (Some s) e = refl

pub restored_there : (id : ℕ) (dump : List ℕ) (e : Durable) (t : Table Shelf) (f : Table Node) → can_take (bodies.Restore id dump) (keeping e t f) ≡ true → is_some (get id t) ≡ true
restored_there id dump e t f can = is_there id t (restored_by id dump (get id (seen_as shelved t)) can)

-- a deed suits the volumes and forwardings, whatever is kept besides
pub suits_besides : (x : Deed) (d e : Durable) (t : Table Shelf) (f : Table Node) → SuitsDeed x (keeping d t f) → SuitsDeed x (keeping e t f)
suits_besides (done.Create s) d e t f h = record { can = h.can; made = h.made }
suits_besides (done.Delete id) d e t f h = record { can = h.can; made = h.made }
suits_besides (done.Clone c) d e t f h = record { can = h.can; made = h.made }
suits_besides (done.Restore r) d e t f h = record { can = h.can; made = h.made }
suits_besides (done.Flags id flags) d e t f h = record { can = h.can; made = h.made }
suits_besides (done.Forward id to) d e t f h = record { can = h.can; made = h.made }
suits_besides done.Stamp d e t f h = record { can = h.can; made = h.made }

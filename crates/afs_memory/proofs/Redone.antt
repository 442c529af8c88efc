-- What is done to the volumes in memory is what the fold does to them.
use Rattle.std.proofs.Common.{◌≡◌, ℕ, suc, ◌+◌, Bool, true, false, not, List, [], ◌∷◌, length, map, Option, Some, None, is_some, nat_eq, nat_lt, if◌then◌else◌, refl, sym, ap, subst, ◌∙◌, arith}
use Rattle.std.specs.List.{list_all, AllByRecursion}
use Rattle.std.specs.Prelude.{◌&&◌, IsSome}
use Rattle.std.specs.Option.{option_map}
use Rattle.std.proofs.lemmas.Bool.Decides.{nat_tests}
use Rattle.std.proofs.lemmas.List.{length-map}
use Rattle.afs_num.specs.declared.vnodes.Vnode as image
use Rattle.afs_num.specs.declared.volumes.Change.{Change}
use Rattle.spec_shape.specs.Taking.{◌>>=◌}
use Rattle.spec_ideal.specs.Images.{value_of}
use Rattle.spec_ideal.specs.Volumes.{Vnode}
use Rattle.spec_ideal.specs.Tables.{Table, get, set, unset, AscendsFrom}
use Rattle.spec_ideal.proofs.Tables.{get_below, get_set, get_unset}
use Rattle.spec_records.specs.Durable.{Durable, Stored, changed_stored, is_there, most_volumes, replaced, with_image, with_images, with_volumes}
use Rattle.afs_num.specs.declared.records.RecordBody.{RecordBody}
use Rattle.afs_num.specs.declared.records.RecordBody.TheVariants as bodies
use Rattle.afs_seats.specs.Seated.{seen_as, Seated}
use Rattle.afs_seats.proofs.Places.{get_seen, put_again, set_seen}
use Rattle.afs_seats.proofs.Seen.{seen_up, set_length}
use Rattle.afs_volume.specs.Assembling.{can_be_read}
use Rattle.afs_volume.specs.Seen.{IsReadable}
use Rattle.afs_volume.specs.Taking.{stored_of, HasRoom}
use Rattle.afs_shelves.specs.Shelving.{shelved, stored_as}
use Rattle.afs_shelves.specs.declared.shelf.Shelf.{Shelf}
use Rattle.afs_shelves.proofs.Found.{mapped_is}
use Rattle.afs_shelves.proofs.Renewed.{as_new, changed_new}
use Rattle.spec_fold.specs.Deeds.{can_take, done_by}
use Rattle.spec_fold.specs.Fold.{body_taken}
use Rattle.afs_shelves.specs.Deeds.{deed_body, SuitsDeed}
use Rattle.afs_shelves.specs.declared.deed.Deed.{Deed}
use Rattle.afs_shelves.specs.declared.deed.Deed.TheVariants as deeds
use Rattle.afs_volume.specs.declared.volume.Volume.{Volume}
use Rattle.spec_ideal.specs.VnodeImage.{FitsImage}
use Rattle.afs_memory.specs.Redoing.{holding, laid, AreKept, AreTooMany, CanChange, IsChanged, IsRefused, KeepsChanges, KeepsVolumes}
use Rattle.afs_memory.specs.Redos.{told, IsMadeAgain}
use Rattle.afs_memory.specs.States.{HasRoomIn}

-- ---- how many there are

full_by : (there : Bool) (n k : ℕ) → k ≡ (if there then n else suc n) → nat_lt (if there then 64 else 63) n ≡ nat_lt 64 k
full_by true n k e = ap (λ (j : ℕ). nat_lt 64 j) (sym e)
full_by false n k e = grind (arith, nat_tests, e)

pub full_for : (n : ℕ) (t : Table Shelf) (full : Bool) → AscendsFrom 0 t → full ≡ nat_lt (if is_some (get n t) then 64 else 63) (length t) → (v : Shelf) → full ≡ nat_lt most_volumes (length (set n v t))
full_for n t full up e v = e ∙ full_by (is_some (get n t)) (length t) (length (set n v t)) (set_length 0 n v t up)

-- ---- volumes of a first record

too_many : (v : Volume) (vs : List Volume) (t : Table Shelf) (d : Durable) (many : Bool) → IsMadeAgain v → nat_lt most_volumes (length (set v.head.id (laid v) t)) ≡ many
    → with_volumes (map told (v ∷ vs)) (holding d t) ≡ (if many then None else with_volumes (map told vs) (holding d (set v.head.id (laid v) t)))
too_many v vs t d many again is =
    let seen : set v.head.id (stored_of v) (seen_as shelved t) ≡ seen_as shelved (set v.head.id (laid v) t) = set_seen shelved v.head.id (laid v) t in
    let long : length (seen_as shelved (set v.head.id (laid v) t)) ≡ length (set v.head.id (laid v) t) = length-map (set v.head.id (laid v) t) (λ (p : ℕ × Shelf). (p.0, shelved p.1)) in
    rw (again, seen, long, is) (by_count many (holding d (set v.head.id (laid v) t)))
  where
    by_count : (many : Bool) (e : Durable) → ((if many then None else Some e) >>= with_volumes (map told vs)) ≡ (if many then None else with_volumes (map told vs) e)
    by_count true e = refl
    by_count false e = refl

pub one_more : (v : Volume) (vs all : List Volume) (t u : Table Shelf) → all ≡ v ∷ vs → IsMadeAgain v → nat_lt most_volumes (length (set v.head.id (laid v) t)) ≡ false → u ≡ set v.head.id (laid v) t
    → (d : Durable) → with_volumes (map told vs) (holding d u) ≡ with_volumes (map told all) (holding d t)
one_more v vs all t u is again few e d = rw (is, e) (sym (too_many v vs t d false again few))

pub none_more : (v : Volume) (vs all : List Volume) (t : Table Shelf) → all ≡ v ∷ vs → IsMadeAgain v → nat_lt most_volumes (length (set v.head.id (laid v) t)) ≡ true
    → (d : Durable) → with_volumes (map told all) (holding d t) ≡ None
none_more v vs all t is again many d = rw is (too_many v vs t d true again many)

-- ---- a change

-- each image has a value
some_value : (i : image.Vnode) (is : List image.Vnode) (s : Stored) (o : Option Vnode) → value_of i ≡ o → ((t : Stored) → list_all can_be_read is ≡ false → with_images is t ≡ None) → (is_some o && list_all can_be_read is) ≡ false → (o >>= λ x. with_images is (with_image i x s)) ≡ None
some_value i is s None value later e = refl
some_value i is s (Some x) value later e = later (with_image i x s) e

no_images : (is : List image.Vnode) (s : Stored) → list_all can_be_read is ≡ false → with_images is s ≡ None
no_images [] s e = absurd cc
no_images (i ∷ is) s e = some_value i is s (value_of i) refl (λ t. no_images is t) e

not_changed : (counter unique : ℕ) (is : List image.Vnode) (removed : List ℕ) (s : Stored) (b : Bool) → list_all (is_there s) removed ≡ b → list_all can_be_read is ≡ false → changed_stored counter unique is removed s ≡ None
not_changed counter unique is removed s true there e = rw (there, no_images is s e) refl
not_changed counter unique is removed s false there e = rw there refl

none_in : (id counter unique : ℕ) (is : List image.Vnode) (removed : List ℕ) (d : Durable) (o : Option Stored) → list_all can_be_read is ≡ false → (o >>= λ s. replaced id (changed_stored counter unique is removed s) d) ≡ None
none_in id counter unique is removed d None e = refl
none_in id counter unique is removed d (Some s) e = rw (not_changed counter unique is removed s (list_all (is_there s) removed) refl e) refl

-- a change of which an image can't be read is taken into no store
pub unread : (id counter unique : ℕ) (is : List image.Vnode) (removed : List ℕ) → list_all can_be_read is ≡ false → (d : Durable) → body_taken (bodies.Change id counter unique is removed) d ≡ None
unread id counter unique is removed e d = none_in id counter unique is removed d (get id d.volumes) e

change_by : (id : ℕ) (c : Change) (d : Durable) (o : Option Stored) → is_some (o >>= λ s. replaced id (changed_stored c.counter c.unique c.vnodes c.removed s) d) ≡ true → is_some o ≡ true
change_by id c d None e = absurd cc
change_by id c d (Some s) e = refl

replaced_by : (id : ℕ) (o : Option Stored) (d : Durable) → is_some (replaced id o d) ≡ true → is_some o ≡ true
replaced_by id None d e = absurd cc
replaced_by id (Some s) d e = refl

some_there : (o : Option Shelf) → is_some (option_map shelved o) ≡ true → IsSome o
some_there None e = absurd cc
some_there (Some v) e = refl

-- a change that is taken changes a volume that is there, and which can take it in
pub is_there_to_change : (id : ℕ) (c : Change) (d : Durable) (t : Table Shelf) → is_some (body_taken (bodies.Change id c.counter c.unique c.vnodes c.removed) (holding d t)) ≡ true → IsSome (get id t)
is_there_to_change id c d t e =
    some_there (get id t) (ap is_some (sym (get_seen shelved id t)) ∙ change_by id c (holding d t) (get id (seen_as shelved t)) e)

-- whether the volume is new isn't asked
taken_whether : (b : Bool) (c : Change) (v : Volume) → is_some (changed_stored c.counter c.unique c.vnodes c.removed (stored_as b v)) ≡ is_some (changed_stored c.counter c.unique c.vnodes c.removed (stored_of v))
taken_whether b c v =
    ap is_some (changed_new b c.counter c.unique c.vnodes c.removed (stored_of v)) ∙ mapped_is (as_new b) (changed_stored c.counter c.unique c.vnodes c.removed (stored_of v))

pub can_change : (id : ℕ) (c : Change) (d : Durable) (t : Table Shelf) → is_some (body_taken (bodies.Change id c.counter c.unique c.vnodes c.removed) (holding d t)) ≡ true → AllByRecursion IsReadable c.vnodes → AllByRecursion FitsImage c.vnodes → CanChange t id c
can_change id c d t e read fits s is =
    let there : get id (seen_as shelved t) ≡ Some (shelved s) = get_seen shelved id t ∙ ap (option_map shelved) is in
    record {
      taken = sym (taken_whether s.is_new c s.volume)
          ∙ replaced_by id (changed_stored c.counter c.unique c.vnodes c.removed (shelved s)) (holding d t)
          (ap (λ (o : Option Stored). is_some (o >>= λ x. replaced id (changed_stored c.counter c.unique c.vnodes c.removed x) (holding d t))) (sym there) ∙ e);
      read = read;
      fits = fits;
    }

pub is_taken : (id : ℕ) (c : Change) (d : Durable) (t u : Table Shelf) → IsChanged id c t u → body_taken (bodies.Change id c.counter c.unique c.vnodes c.removed) (holding d t) ≡ Some (holding d u)
is_taken id c d t u is =
    let b : Bool = is.before.is_new in
    let there : get id (seen_as shelved t) ≡ Some (shelved is.before) = get_seen shelved id t ∙ ap (option_map shelved) is.there in
    let changed : changed_stored c.counter c.unique c.vnodes c.removed (shelved is.before) ≡ Some (stored_as b is.after) =
    changed_new b c.counter c.unique c.vnodes c.removed (stored_of is.before.volume) ∙ ap (option_map (as_new b)) is.changed in
    rw (there, changed, is.put) (ap (λ (vs : Table Stored). Some (record d { volumes = vs })) (set_seen shelved id (record { volume = is.after; is_new = b }) t))

refused_by : (id : ℕ) (c : Change) (d : Durable) (o : Option Shelf) → ((s : Shelf) → o ≡ Some s → changed_stored c.counter c.unique c.vnodes c.removed (stored_of s.volume) ≡ None)
    → (option_map shelved o >>= λ x. replaced id (changed_stored c.counter c.unique c.vnodes c.removed x) d) ≡ None
refused_by id c d None none = refl
refused_by id c d (Some s) none =
    ap (λ (q : Option Stored). replaced id q d) (changed_new s.is_new c.counter c.unique c.vnodes c.removed (stored_of s.volume) ∙ ap (option_map (as_new s.is_new)) (none s refl))

-- a change that its volume can't take in is taken into no store with this volume
pub isnt_taken : (id : ℕ) (c : Change) (d : Durable) (t : Table Shelf) → IsRefused id c t → body_taken (bodies.Change id c.counter c.unique c.vnodes c.removed) (holding d t) ≡ None
isnt_taken id c d t refused =
    ap (λ (o : Option Stored). o >>= λ x. replaced id (changed_stored c.counter c.unique c.vnodes c.removed x) (holding d t)) (get_seen shelved id t) ∙ refused_by id c (holding d t) (get id t) refused

-- ---- room for a change

set_same_by : {A : Type 0} (n : ℕ) (x : A) (p : ℕ × A) (ps rest : Table A) (same below : Bool) → nat_eq p.0 n ≡ same → nat_lt n p.0 ≡ below → (get n ps ≡ Some x → rest ≡ ps) → (below ≡ true → get n ps ≡ None)
    → (if same then Some p.1 else get n ps) ≡ Some x → (if same then (n, x) ∷ ps else (if below then (n, x) ∷ p ∷ ps else p ∷ rest)) ≡ p ∷ ps
set_same_by {A} n x p ps rest true below is less later none e = grind (arith, nat_tests, is, e)
set_same_by {A} n x p ps rest false true is less later none e = absurd (no (sym (none refl) ∙ e))
  where
    no : ◌≡◌ {A = Option A} None (Some x) → ⊥
    no f = cc
set_same_by {A} n x p ps rest false false is less later none e = ap (λ (r : Table A). p ∷ r) (later e)

pub set_same : {A : Type 0} (m n : ℕ) (x : A) (t : Table A) → AscendsFrom m t → get n t ≡ Some x → set n x t ≡ t
set_same {A} m n x [] up e = absurd cc
set_same {A} m n x (p ∷ ps) up e =
    set_same_by n x p ps (set n x ps) (nat_eq p.0 n) (nat_lt n p.0) refl refl (set_same (p.0 + 1) n x ps up.1) (λ b. get_below (p.0 + 1) n ps (grind (arith, nat_tests, b)) up.1) e

-- the volume that is put back is seen as before
pub same_seen : (n : ℕ) (v w : Shelf) (t mid u : Table Shelf) → AscendsFrom 0 t → get n t ≡ Some v → shelved w ≡ shelved v → mid ≡ unset n t → u ≡ set n w mid → seen_as shelved u ≡ seen_as shelved t
same_seen n v w t mid u up there same less put =
    let again : u ≡ set n w t = put ∙ (ap (λ (r : Table Shelf). set n w r) less ∙ put_again n w t up) in
    let found : get n (seen_as shelved t) ≡ Some (shelved w) = get_seen shelved n t ∙ (ap (option_map shelved) there ∙ ap (λ (s : Stored). Some s) (sym same)) in
    ap (seen_as shelved) again ∙ (sym (set_seen shelved n w t) ∙ set_same 0 n (shelved w) (seen_as shelved t) (seen_up shelved 0 t up) found)

some_is : {A : Type 0} (x y : A) → Some x ≡ Some y → x ≡ y
some_is {A} x y e = cc

room_by : (v w x : Shelf) (o : Option Shelf) (c : Change) (b : Bool) → KeepsChanges v.volume w.volume → (b ≡ true → o ≡ Some v) → ((y : Shelf) → o ≡ Some y → HasRoom y.volume c) → (if b then Some w else (if b then None else o)) ≡ Some x → HasRoom x.volume c
room_by v w x o c true keeps is room e = subst (λ (y : Shelf). HasRoom y.volume c) (some_is w x e) (keeps c (room v (is refl)))
room_by v w x o c false keeps is room e = room x e

pub still_room : (n : ℕ) (v w : Shelf) (t mid u : Table Shelf) → get n t ≡ Some v → KeepsChanges v.volume w.volume → mid ≡ unset n t → u ≡ set n w mid → (k : ℕ) (c : Change) → HasRoomIn t k c → HasRoomIn u k c
still_room n v w t mid u there keeps less put k c room x e =
    room_by v w x (get k t) c (nat_eq n k) keeps (λ is. ap (λ (j : ℕ). get j t) (sym (same is)) ∙ there) room
    (sym (get_set k n w (unset n t) ∙ ap (λ (o : Option Shelf). if nat_eq n k then Some w else o) (get_unset k n t)) ∙ (ap (λ (r : Table Shelf). get k (set n w r)) (sym less) ∙ (ap (get k) (sym put) ∙ e)))
  where
    same : nat_eq n k ≡ true → n ≡ k
    same is = grind (arith, nat_tests, is)

pub its_room : (n : ℕ) (w x : Shelf) (t u : Table Shelf) (c : Change) → u ≡ set n w t → HasRoom w.volume c → get n u ≡ Some x → HasRoom x.volume c
its_room n w x t u c put room e =
    subst (λ (y : Shelf). HasRoom y.volume c) (some_is w x (sym (get_set n n w t ∙ at_home) ∙ (ap (get n) (sym put) ∙ e))) room
  where
    at_home : (if nat_eq n n then Some w else get n t) ≡ Some w
    at_home = grind (arith, nat_tests)

none_is : {A : Type 0} (x : A) → ◌≡◌ {A = Option A} None (Some x) → ⊥
none_is {A} x e = cc

-- where there is no volume, there is room for any change in it
pub no_room_needed : (n : ℕ) (t u : Table Shelf) (c : Change) → u ≡ t → get n t ≡ None → HasRoomIn u n c
no_room_needed n t u c same none v e = absurd (none_is v (sym none ∙ (ap (get n) (sym same) ∙ e)))

pub keeps_same : (s t : Seated Shelf) → t ≡ s → KeepsVolumes s t
keeps_same s t e = rw e (record { room = omega arith; changes = λ id c h. h })

-- volumes that can be taken are put
pub are_put : (vs : List Volume) (t u : Table Shelf) (b : Bool) (d : Durable) → (b ≡ true → AreKept vs t u) → (b ≡ false → AreTooMany vs t) → is_some (with_volumes (map told vs) (holding d t)) ≡ true → with_volumes (map told vs) (holding d t) ≡ Some (holding d u)
are_put vs t u true d kept many taken = kept refl d
are_put vs t u false d kept many taken = absurd (no (ap is_some (sym (many refl d)) ∙ taken))
  where
    no : ◌≡◌ {A = Bool} false true → ⊥
    no e = cc

-- ---- what a volume server did

-- where it can be taken, the fold takes it
deed_taken : (x : Deed) (d : Durable) → can_take (deed_body x) d ≡ true → body_taken (deed_body x) d ≡ Some (done_by (deed_body x) d)
deed_taken (deeds.Create s) d can = rw can refl
deed_taken (deeds.Delete id) d can = rw can refl
deed_taken (deeds.Clone c) d can = rw can refl
deed_taken (deeds.Restore r) d can = rw can refl
deed_taken (deeds.Flags id flags) d can = rw can refl
deed_taken (deeds.Forward id to) d can = rw can refl
deed_taken deeds.Stamp d can = refl

pub deed_done : (x : Deed) (d e : Durable) → SuitsDeed x d → done_by (deed_body x) d ≡ e → body_taken (deed_body x) d ≡ Some e
deed_done x d e suits is = deed_taken x d suits.can ∙ ap (λ (f : Durable). Some f) is

-- The volumes on a disk are sound, whatever its records, and their times are those of their vnodes.
use Rattle.std.proofs.Common.{◌≡◌, ℕ, ◌+◌, ◌-◌, ◌≤◌, Bool, true, false, cond, List, [], ◌∷◌, length, map, filter, Option, Some, None, nat_eq, nat_lt, refl, sym, ap, subst, ◌∙◌, arith, lit≤, if◌then◌else◌}
use Rattle.std.specs.Prelude.{⊤, not, ◌&&◌}
use Rattle.std.specs.List.{AllByRecursion, list_all}
use Rattle.std.proofs.lemmas.Bool.{ltb-false}
use Rattle.std.proofs.lemmas.Bool.Decides.{nat_tests}
use Rattle.afs_num.specs.declared.records.RecordBody.{RecordBody}
use Rattle.afs_num.specs.declared.records.RecordBody.TheVariants as bodies
use Rattle.afs_num.specs.declared.records.RecordHead.{RecordHead}
use Rattle.afs_num.specs.declared.records.StoredVolume.{StoredVolume}
use Rattle.afs_num.specs.declared.records.StoreRecord.{StoreRecord}
use Rattle.afs_num.specs.declared.types.Node.{Node}
use Rattle.spec_shape.specs.Taking.{◌>>=◌}
use Rattle.spec_ideal.specs.Images.{Image, value_of, values_of, with_value}
use Rattle.spec_ideal.specs.SetUp.{new_volume}
use Rattle.spec_ideal.specs.Tables.{Table, get, set, unset, AscendsFrom}
use Rattle.spec_ideal.proofs.Tables.{get_below}
use Rattle.spec_ideal.specs.VnodeMaps.{most_vnodes}
use Rattle.spec_ideal.specs.Volumes.{Vnode, Volume}
use Rattle.spec_records.specs.Durable.{allowed, booted, by_number, changed_stored, counted_as, is_there, noted, nothing_on, or_zero, placing, replaced, stored_of, times_of, volume_with, with_image, with_images, with_journal, with_reply, with_stamp, with_stored, with_volumes, without, without_one, Durable, Stored}
use Rattle.spec_records.specs.Records.{record_at}
use Rattle.spec_records.specs.Sound.{is_sound, ascends_from}
use Rattle.spec_records.proofs.Forms.{bound, some_is}
use Rattle.spec_dumps.specs.Clones.{cloned, recloned}
use Rattle.spec_dumps.specs.Dumps.{Dump}
use Rattle.spec_dumps.specs.Fields.{FieldTaken, took, cut_at, bad_at}
use Rattle.spec_dumps.specs.Laws.{ClonesAreSound}
use Rattle.spec_dumps.specs.Restores.{allowed_with, end_length, restored_from, finished_by, is_other_family, made_or, restored, restored_vnodes, stored_with, times_in, vnodes_in, Timed}
use Rattle.spec_dumps.specs.Streams.{dump_at}
use Rattle.spec_fold.specs.Deeds.{clone_made, clone_put, created, done_by, flagged, on_stored, or_as_was, with_release}
use Rattle.spec_fold.specs.Fold.{body_taken, first_folded, fold_all, fold_from, folded}
use Rattle.spec_fold.specs.Laws.{numbers_in, AreStorable, IsStorable, RecordsLeaveStorable, StorableAreTimed}

-- ---- tables

set_by : (a b : Bool) (n : ℕ) (x : Stored) (p : ℕ × Stored) (ps : Table Stored) → IsStorable x → IsStorable p.1 → AllByRecursion (λ (q : ℕ × Stored). IsStorable q.1) ps → AllByRecursion (λ (q : ℕ × Stored). IsStorable q.1) (set n x ps) →
    AllByRecursion (λ (q : ℕ × Stored). IsStorable q.1) (cond a ((n, x) ∷ ps) (cond b ((n, x) ∷ p ∷ ps) (p ∷ set n x ps)))
set_by true b n x p ps h k all later = (h, all)
set_by false true n x p ps h k all later = (h, (k, all))
set_by false false n x p ps h k all later = (k, later)

all_set : (n : ℕ) (x : Stored) (t : Table Stored) → IsStorable x → AllByRecursion (λ (q : ℕ × Stored). IsStorable q.1) t → AllByRecursion (λ (q : ℕ × Stored). IsStorable q.1) (set n x t)
all_set n x [] h all = (h, tt)
all_set n x (p ∷ ps) h all = set_by (nat_eq p.0 n) (nat_lt n p.0) n x p ps h all.0 all.1 (all_set n x ps h all.1)

filter_by : (b : Bool) (p : ℕ × Stored) (rest : Table Stored) → IsStorable p.1 → AllByRecursion (λ (q : ℕ × Stored). IsStorable q.1) rest → AllByRecursion (λ (q : ℕ × Stored). IsStorable q.1) (cond b (p ∷ rest) rest)
filter_by true p rest h all = (h, all)
filter_by false p rest h all = all

all_filter : (f : ℕ × Stored → Bool) (t : Table Stored) → AllByRecursion (λ (q : ℕ × Stored). IsStorable q.1) t → AllByRecursion (λ (q : ℕ × Stored). IsStorable q.1) (filter f t)
all_filter f [] all = tt
all_filter f (p ∷ ps) all = filter_by (f p) p (filter f ps) all.0 (all_filter f ps all.1)

get_by : (b : Bool) (p : ℕ × Stored) (o : Option Stored) (s : Stored) → IsStorable p.1 → (o ≡ Some s → IsStorable s) → cond b (Some p.1) o ≡ Some s → IsStorable s
get_by true p o s h later e = subst IsStorable (some_is p.1 s e) h
get_by false p o s h later e = later e

all_get : (n : ℕ) (t : Table Stored) (s : Stored) → AllByRecursion (λ (q : ℕ × Stored). IsStorable q.1) t → get n t ≡ Some s → IsStorable s
all_get n [] s all e = absurd cc
all_get n (p ∷ ps) s all e = get_by (nat_eq p.0 n) p (get n ps) s all.0 (all_get n ps s all.1) e

-- ---- numbers of two tables stay the same

first_same : {A B : Type 0} (p : ℕ × A) (q : ℕ × B) (ps : Table A) (qs : Table B) → numbers_in (p ∷ ps) ≡ numbers_in (q ∷ qs) → (p.0 ≡ q.0) × (numbers_in ps ≡ numbers_in qs)
first_same {A} {B} p q ps qs e = (cc, cc)

set_numbers_by : {A B : Type 0} (a b : Bool) (n : ℕ) (x : A) (y : B) (p : ℕ × A) (q : ℕ × B) (ps : Table A) (qs : Table B) → p.0 ≡ q.0 → numbers_in ps ≡ numbers_in qs → numbers_in (set n x ps) ≡ numbers_in (set n y qs) →
    numbers_in (cond a ((n, x) ∷ ps) (cond b ((n, x) ∷ p ∷ ps) (p ∷ set n x ps))) ≡ numbers_in (cond a ((n, y) ∷ qs) (cond b ((n, y) ∷ q ∷ qs) (q ∷ set n y qs)))
set_numbers_by true b n x y p q ps qs e f later = ap (λ (ns : List ℕ). n ∷ ns) f
set_numbers_by {A} {B} false true n x y p q ps qs e f later = ap (λ (m : ℕ). n ∷ m ∷ numbers_in ps) e ∙ ap (λ (ns : List ℕ). n ∷ q.0 ∷ ns) f
set_numbers_by {A} {B} false false n x y p q ps qs e f later = ap (λ (m : ℕ). m ∷ numbers_in (set n x ps)) e ∙ ap (λ (ns : List ℕ). q.0 ∷ ns) later

none_some : {A : Type 0} (p : ℕ × A) (ps : Table A) → [] ≡ numbers_in (p ∷ ps) → ⊥
none_some {A} p ps e = cc

set_numbers : {A B : Type 0} (n : ℕ) (x : A) (y : B) (t : Table A) (u : Table B) → numbers_in t ≡ numbers_in u → numbers_in (set n x t) ≡ numbers_in (set n y u)
set_numbers {A} {B} n x y [] [] e = refl
set_numbers {A} {B} n x y [] (q ∷ qs) e = absurd (none_some q qs e)
set_numbers {A} {B} n x y (p ∷ ps) [] e = absurd (none_some p ps (sym e))
set_numbers {A} {B} n x y (p ∷ ps) (q ∷ qs) e =
    let f = first_same p q ps qs e in
    set_numbers_by (nat_eq p.0 n) (nat_lt n p.0) n x y p q ps qs f.0 f.1 (set_numbers n x y ps qs f.1)
    ∙ ap (λ (k : ℕ). numbers_in (cond (nat_eq k n) ((n, y) ∷ qs) (cond (nat_lt n k) ((n, y) ∷ q ∷ qs) (q ∷ set n y qs)))) f.0

unset_numbers_by : {A B : Type 0} (b : Bool) (p : ℕ × A) (q : ℕ × B) (ps : Table A) (qs : Table B) → p.0 ≡ q.0 → numbers_in ps ≡ numbers_in qs → numbers_in (cond b (p ∷ ps) ps) ≡ numbers_in (cond b (q ∷ qs) qs)
unset_numbers_by {A} {B} true p q ps qs e f = ap (λ (m : ℕ). m ∷ numbers_in ps) e ∙ ap (λ (ns : List ℕ). q.0 ∷ ns) f
unset_numbers_by {A} {B} false p q ps qs e f = f

unset_numbers : {A B : Type 0} (n : ℕ) (t : Table A) (u : Table B) → numbers_in t ≡ numbers_in u → numbers_in (unset n t) ≡ numbers_in (unset n u)
unset_numbers {A} {B} n [] [] e = refl
unset_numbers {A} {B} n [] (q ∷ qs) e = absurd (none_some q qs e)
unset_numbers {A} {B} n (p ∷ ps) [] e = absurd (none_some p ps (sym e))
unset_numbers {A} {B} n (p ∷ ps) (q ∷ qs) e =
    let f = first_same p q ps qs e in
    unset_numbers_by (not (nat_eq p.0 n)) p q (unset n ps) (unset n qs) f.0 (unset_numbers n ps qs f.1)
    ∙ ap (λ (k : ℕ). numbers_in (cond (not (nat_eq k n)) (q ∷ unset n qs) (unset n qs))) f.0

both_true : (x y : Bool) → (x && y) ≡ true → (x ≡ true) × (y ≡ true)
both_true true y e = (refl, e)
both_true false y e = absurd cc

is_false : (b : Bool) → not b ≡ true → b ≡ false
is_false false e = refl
is_false true e = absurd cc

-- ---- a volume that is allowed

allowed_by : (a : Bool) (s t : Stored) → (not (nat_lt most_vnodes (length s.volume.vnodes)) && is_sound s.volume) ≡ a → (if a then Some s else None) ≡ Some t → numbers_in s.times ≡ numbers_in s.volume.vnodes → IsStorable t
allowed_by true s t is e times =
    let b = both_true (not (nat_lt most_vnodes (length s.volume.vnodes))) (is_sound s.volume) is in
    subst IsStorable (some_is s t e) (record { sound = b.1; few = ltb-false _ _ (is_false (nat_lt most_vnodes (length s.volume.vnodes)) b.0); times = times })
allowed_by false s t is e times = absurd cc

allowed_is : (s t : Stored) → allowed s ≡ Some t → numbers_in s.times ≡ numbers_in s.volume.vnodes → IsStorable t
allowed_is s t e times = allowed_by (not (nat_lt most_vnodes (length s.volume.vnodes)) && is_sound s.volume) s t refl e times

-- ---- set-up

value_numbers : (t : Table Image) (u : Table Vnode) → values_of t ≡ Some u → numbers_in t ≡ numbers_in u
value_numbers [] u e = ap numbers_in (some_is [] u e)
value_numbers (p ∷ ps) u e = value_by p.0 (value_of p.1) (values_of ps) u (numbers_in ps) (λ w f. value_numbers ps w f) e
  where
    value_by : (n : ℕ) (o : Option Vnode) (r : Option (Table Vnode)) (u : Table Vnode) (ns : List ℕ) → ((w : Table Vnode) → r ≡ Some w → ns ≡ numbers_in w) → with_value n o r ≡ Some u → n ∷ ns ≡ numbers_in u
    value_by n (Some x) (Some w) u ns h e = ap (λ (ms : List ℕ). n ∷ ms) (h w refl) ∙ ap numbers_in (some_is ((n, x) ∷ w) u e)
    value_by n (Some x) None u ns h e = absurd cc
    value_by n None (Some w) u ns h e = absurd cc
    value_by n None None u ns h e = absurd cc

image_numbers : (is : List Image) → numbers_in (by_number is) ≡ numbers_in (times_of is)
image_numbers [] = refl
image_numbers (i ∷ is) = ap (λ (ns : List ℕ). i.vnode ∷ ns) (image_numbers is)

stored_is : (v : StoredVolume) (s : Stored) → stored_of v ≡ Some s → IsStorable s
stored_is v s e =
    let a = bound (values_of (by_number v.vnodes)) (λ vnodes. allowed (record { volume = volume_with v vnodes; times = times_of v.vnodes; is_new = false })) s e in
    allowed_is (record { volume = volume_with v a.0; times = times_of v.vnodes; is_new = false }) s a.1.1 (sym (image_numbers v.vnodes) ∙ value_numbers (by_number v.vnodes) a.0 a.1.0)

put_by : (b : Bool) (id : ℕ) (s : Stored) (d e : Durable) → (if b then None else Some (record d { volumes = set id s d.volumes })) ≡ Some e → IsStorable s → AreStorable d → AreStorable e
put_by true id s d e h one all = absurd cc
put_by false id s d e h one all = subst AreStorable (some_is (record d { volumes = set id s d.volumes }) e h) (all_set id s d.volumes one all)

volumes_are : (vs : List StoredVolume) (d e : Durable) → AreStorable d → with_volumes vs d ≡ Some e → AreStorable e
volumes_are [] d e all h = subst AreStorable (some_is d e h) all
volumes_are (v ∷ vs) d e all h =
    let a = bound (stored_of v) (λ x. (with_stored v.head.id x d >>= with_volumes vs)) e h in
    let b = bound (with_stored v.head.id a.0 d) (with_volumes vs) e a.1.1 in
    volumes_are vs b.0 e (put_by _ v.head.id a.0 d b.0 b.1.0 (stored_is v a.0 a.1.0) all) b.1.1

-- ---- a change

Same : Stored → Type 0
Same s = numbers_in s.times ≡ numbers_in s.volume.vnodes

images_same : (is : List Image) (s t : Stored) → Same s → with_images is s ≡ Some t → Same t
unfolding Same
images_same [] s t same e = subst (λ (x : Stored). numbers_in x.times ≡ numbers_in x.volume.vnodes) (some_is s t e) same
images_same (i ∷ is) s t same e =
    let a = bound (value_of i) (λ x. with_images is (with_image i x s)) t e in
    images_same is (with_image i a.0 s) t (set_numbers i.vnode i.server_time a.0 s.times s.volume.vnodes same) a.1.1

without_same : (ns : List ℕ) (s : Stored) → Same s → Same (without ns s)
unfolding Same
without_same [] s same = same
without_same (n ∷ ns) s same = without_same ns (without_one n s) (unset_numbers n s.times s.volume.vnodes same)

changed_by : (b : Bool) (counter unique : ℕ) (is : List Image) (removed : List ℕ) (s t : Stored) → Same s → (if b then (with_images is s >>= λ u. allowed (without removed (counted_as counter unique u))) else None) ≡ Some t → IsStorable t
unfolding Same
changed_by true counter unique is removed s t same e =
    let a = bound (with_images is s) (λ u. allowed (without removed (counted_as counter unique u))) t e in
    allowed_is (without removed (counted_as counter unique a.0)) t a.1.1 (without_same removed (counted_as counter unique a.0) (images_same is s a.0 same a.1.0))
changed_by false counter unique is removed s t same e = absurd cc

replaced_are : (id : ℕ) (o : Option Stored) (d e : Durable) → AreStorable d → ((s : Stored) → o ≡ Some s → IsStorable s) → replaced id o d ≡ Some e → AreStorable e
replaced_are id None d e all h k = absurd cc
replaced_are id (Some s) d e all h k = subst AreStorable (some_is (record d { volumes = set id s d.volumes }) e k) (all_set id s d.volumes (h s refl) all)

-- ---- volumes that are made, cloned, flagged and restored

cloned_is : (clones : ClonesAreSound) (name : List ℕ) (kind release : ℕ) (s : Stored) → IsStorable s → IsStorable (cloned name kind release s)
cloned_is clones name kind release s h = record { sound = clones.cloned name kind release s ∙ h.sound; few = h.few; times = h.times }

recloned_is : (clones : ClonesAreSound) (old : Stored) (release : ℕ) (s : Stored) → IsStorable s → IsStorable (recloned old release s)
recloned_is clones old release s h = record { sound = clones.recloned old release s ∙ h.sound; few = h.few; times = h.times }

-- a volume with another release, or with other flags, has what a clone would have that is made anew
released_is : (clones : ClonesAreSound) (release : ℕ) (s : Stored) → IsStorable s → IsStorable (with_release release s)
released_is clones release s h = record { sound = clones.recloned s release s ∙ h.sound; few = h.few; times = h.times }

flagged_is : (clones : ClonesAreSound) (flags : ℕ) (s : Stored) → IsStorable s → IsStorable (flagged flags s)
flagged_is clones flags s h = record { sound = clones.recloned (flagged flags s) s.volume.release s ∙ h.sound; few = h.few; times = h.times }

timed_numbers : (anew : Bool) (t : Table Timed) → numbers_in (times_in t) ≡ numbers_in (vnodes_in anew t)
timed_numbers anew [] = refl
timed_numbers anew (p ∷ ps) = ap (λ (ns : List ℕ). p.0 ∷ ns) (timed_numbers anew ps)

with_is : (id : ℕ) (s : Stored) (d : Dump) (o : Option (Table Timed)) (t : Stored) → allowed_with id s d o ≡ Some t → IsStorable t
with_is id s d None t e = absurd cc
with_is id s d (Some ts) t e = allowed_is (stored_with id s d ts) t e (timed_numbers (is_other_family id s d) ts)

made_is : (offset : ℕ) (o : Option Stored) (s t : Stored) → ((x : Stored) → o ≡ Some x → IsStorable x) → IsStorable s → IsStorable (or_as_was s (made_or offset o))
made_is offset None s t h old = old
made_is offset (Some x) s t h old = h x refl

finished_is : (id : ℕ) (s : Stored) (bytes : List ℕ) (o : FieldTaken Dump) → IsStorable s → IsStorable (or_as_was s (finished_by id s bytes o))
finished_is id s bytes (took d rest) h = made_is (length bytes - end_length) (restored id s d) s s (λ x e. with_is id s d (restored_vnodes d.live d.images s) x e) h
finished_is id s bytes (cut_at left) h = h
finished_is id s bytes (bad_at left) h = h

restored_storable : (id : ℕ) (s : Stored) (bytes : List ℕ) → IsStorable s → IsStorable (or_as_was s (restored_from id s bytes))
unfolding restored_from
restored_storable id s bytes h = finished_is id s bytes (dump_at bytes) h

new_is_sound : (family : ℕ) (name : List ℕ) (kind flags quota : ℕ) → is_sound (new_volume family name kind flags quota) ≡ true
unfolding is_sound
new_is_sound family name kind flags quota = refl

created_is : (family : ℕ) (name : List ℕ) (kind flags quota : ℕ) (is_new : Bool) → IsStorable (created family name kind flags quota is_new)
created_is family name kind flags quota is_new = record { sound = new_is_sound family name kind flags quota; few = lit≤ tt; times = refl }

on_are : (id : ℕ) (f : Stored → Stored) (o : Option Stored) (d : Durable) → ((s : Stored) → o ≡ Some s → IsStorable (f s)) → AreStorable d → AreStorable (on_stored id f o d)
on_are id f None d h all = all
on_are id f (Some s) d h all = all_set id (f s) d.volumes (h s refl) all

clone_are_put : (clones : ClonesAreSound) (source id : ℕ) (name : List ℕ) (kind release : ℕ) (s : Stored) (o : Option Stored) (d : Durable) → IsStorable s → AreStorable d → AreStorable (clone_put source id name kind release s o d)
clone_are_put clones source id name kind release s None d h all =
    all_set id (cloned name kind release s) (set source (with_release release s) d.volumes) (cloned_is clones name kind release s h) (all_set source (with_release release s) d.volumes (released_is clones release s h) all)
clone_are_put clones source id name kind release s (Some old) d h all =
    all_set id (recloned old release s) (set source (with_release release s) d.volumes) (recloned_is clones old release s h) (all_set source (with_release release s) d.volumes (released_is clones release s h) all)

clone_are : (clones : ClonesAreSound) (source id : ℕ) (name : List ℕ) (kind release : ℕ) (o : Option Stored) (d : Durable) → ((s : Stored) → o ≡ Some s → IsStorable s) → AreStorable d → AreStorable (clone_made source id name kind release o d)
clone_are clones source id name kind release None d h all = all
clone_are clones source id name kind release (Some s) d h all = clone_are_put clones source id name kind release s (get id d.volumes) d (h s refl) all

done_are : (clones : ClonesAreSound) (body : RecordBody) (d : Durable) → AreStorable d → AreStorable (done_by body d)
done_are clones (bodies.First volumes) d all = all
done_are clones (bodies.Change id counter unique vnodes removed) d all = all
done_are clones (bodies.Boot boot) d all = all
done_are clones (bodies.Create id family name kind flags quota is_new) d all = all_set id (created family name kind flags quota is_new) d.volumes (created_is family name kind flags quota is_new) all
done_are clones (bodies.Delete id) d all = all_filter _ d.volumes all
done_are clones (bodies.Clone source id name kind release) d all = clone_are clones source id name kind release (get source d.volumes) d (λ s e. all_get source d.volumes s all e) all
done_are clones (bodies.Restore id dump) d all = on_are id (λ s. or_as_was s (restored_from id s dump)) (get id d.volumes) d (λ s e. restored_storable id s dump (all_get id d.volumes s all e)) all
done_are clones (bodies.Flags id flags) d all = on_are id (flagged flags) (get id d.volumes) d (λ s e. flagged_is clones flags s (all_get id d.volumes s all e)) all
done_are clones (bodies.Forward id to) d all = all
done_are clones bodies.Stamp d all = all

taken_are : (b : Bool) (f e : Durable) → AreStorable f → (if b then Some f else None) ≡ Some e → AreStorable e
taken_are true f e all h = subst AreStorable (some_is f e h) all
taken_are false f e all h = absurd cc

body_are : (clones : ClonesAreSound) (body : RecordBody) (d e : Durable) → AreStorable d → body_taken body d ≡ Some e → AreStorable e
unfolding Same
body_are clones (bodies.First volumes) d e all h = volumes_are volumes d e all h
body_are clones (bodies.Change id counter unique vnodes removed) d e all h =
    let a = bound (get id d.volumes) (λ s. replaced id (changed_stored counter unique vnodes removed s) d) e h in
    replaced_are id (changed_stored counter unique vnodes removed a.0) d e all (λ t k. changed_by (list_all (is_there a.0) removed) counter unique vnodes removed a.0 t (all_get id d.volumes a.0 all a.1.0).times k) a.1.1
body_are clones (bodies.Boot boot) d e all h = subst AreStorable (some_is (booted boot d) e h) (all_filter _ d.volumes all)
body_are clones (bodies.Create v1 v2 v3 v4 v5 v6 v7) d e all h = taken_are _ _ e (done_are clones (bodies.Create v1 v2 v3 v4 v5 v6 v7) d all) h
body_are clones (bodies.Delete v1) d e all h = taken_are _ _ e (done_are clones (bodies.Delete v1) d all) h
body_are clones (bodies.Clone v1 v2 v3 v4 v5) d e all h = taken_are _ _ e (done_are clones (bodies.Clone v1 v2 v3 v4 v5) d all) h
body_are clones (bodies.Restore v1 v2) d e all h = taken_are _ _ e (done_are clones (bodies.Restore v1 v2) d all) h
body_are clones (bodies.Flags v1 v2) d e all h = taken_are _ _ e (done_are clones (bodies.Flags v1 v2) d all) h
body_are clones (bodies.Forward v1 v2) d e all h = taken_are _ _ e (done_are clones (bodies.Forward v1 v2) d all) h
body_are clones bodies.Stamp d e all h = taken_are true d e all h

stamp_are : (b : Bool) (f g : Durable) → g.volumes ≡ f.volumes → AreStorable f → AreStorable (if b then f else g)
stamp_are true f g same all = all
stamp_are false f g same all = subst (λ (t : Table Stored). AllByRecursion (λ (q : ℕ × Stored). IsStorable q.1) t) (sym same) all

reply_are : (o : Option Node) (h : RecordHead) (d : Durable) → AreStorable d → AreStorable (with_reply o h d)
reply_are None h d all = all
reply_are (Some n) h d all = all

folded_are : (clones : ClonesAreSound) (r : StoreRecord) (d e : Durable) → AreStorable d → folded r d ≡ Some e → AreStorable e
unfolding folded
folded_are clones r d e all h =
    let a = bound (body_taken r.body d) (λ f. Some (with_journal (placing d r).journal (noted r.head f))) e h in
    subst AreStorable (some_is (with_journal (placing d r).journal (noted r.head a.0)) e a.1.1) (reply_are r.head.caller r.head (with_stamp r.head a.0) (stamp_are (nat_eq r.head.stamp 0) a.0 _ refl (body_are clones r.body d a.0 all a.1.0)))

from_are : (clones : ClonesAreSound) (bs : List (List ℕ)) (d e : Durable) → AreStorable d → fold_from bs d ≡ Some e → AreStorable e
from_are clones [] d e all h = subst AreStorable (some_is d e h) all
from_are clones (b ∷ bs) d e all h =
    let a = bound (record_at b) (λ r. (folded r d >>= fold_from bs)) e h in
    let c = bound (folded a.0 d) (fold_from bs) e a.1.1 in
    from_are clones bs c.0 e (folded_are clones a.0 d c.0 all c.1.0) c.1.1

first_by : (clones : ClonesAreSound) (b : Bool) (r : StoreRecord) (d e : Durable) → AreStorable d → (if b then folded r d else None) ≡ Some e → AreStorable e
first_by clones true r d e all h = folded_are clones r d e all h
first_by clones false r d e all h = absurd cc

all_are : (clones : ClonesAreSound) (capacity : ℕ) (bs : List (List ℕ)) (d : Durable) → fold_all capacity bs ≡ Some d → AreStorable d
all_are clones capacity [] d h = absurd cc
all_are clones capacity (b ∷ bs) d h =
    let a = bound (record_at b) (λ r. (first_folded r (nothing_on capacity) >>= fold_from bs)) d h in
    let c = bound (first_folded a.0 (nothing_on capacity)) (fold_from bs) d a.1.1 in
    from_are clones bs c.0 d (first_by clones _ a.0 (nothing_on capacity) c.0 tt c.1.0) c.1.1

pub records_leave : ClonesAreSound → RecordsLeaveStorable
records_leave clones = record { one = folded_are clones; all = λ records d stands. all_are clones d.capacity records d stands }

-- ---- times

abbrev AllIn : Table ℕ → Table ℕ → Type 0
AllIn u [] = ⊤
AllIn u (p ∷ ps) = (get p.0 u ≡ Some p.1) × AllIn u ps

times_by : (vs : Table Vnode) (t u : Table ℕ) → numbers_in t ≡ numbers_in vs → AllIn u t → t ≡ map (λ (p : ℕ × Vnode). (p.0, or_zero (get p.0 u))) vs
times_by [] [] u e h = refl
times_by [] (q ∷ qs) u e h = absurd (none_some q qs (sym e))
times_by (p ∷ ps) [] u e h = absurd (none_some p ps e)
times_by (p ∷ ps) (q ∷ qs) u e h =
    let f = first_same q p qs ps e in
    let one : q ≡ (p.0, or_zero (get p.0 u)) = ap (λ (k : ℕ). (k, q.1)) f.0 ∙ ap (λ (n : ℕ). (p.0, n)) (sym (ap (λ (k : ℕ). or_zero (get k u)) (sym f.0) ∙ ap or_zero h.0)) in
    ap (λ (r : ℕ × ℕ). r ∷ qs) one ∙ ap (λ (r : Table ℕ). (p.0, or_zero (get p.0 u)) ∷ r) (times_by ps qs u f.1 h.1)

in_later : (k n : ℕ) (p : ℕ × ℕ) (ps : Table ℕ) (b : Bool) → nat_eq p.0 k ≡ b → AscendsFrom (p.0 + 1) ps → get k ps ≡ Some n → get k (p ∷ ps) ≡ Some n
in_later k n p ps true is up e = let z : None ≡ Some n = sym (get_below (p.0 + 1) k ps (grind (arith, nat_tests, is)) up) ∙ e in absurd cc
in_later k n p ps false is up e = rw is e

at_head : (p : ℕ × ℕ) (ps : Table ℕ) → get p.0 (p ∷ ps) ≡ Some p.1
at_head p ps = grind (arith, nat_tests)

all_in : (m : ℕ) (u t : Table ℕ) → AscendsFrom m t → ((k n : ℕ) → get k t ≡ Some n → get k u ≡ Some n) → AllIn u t
all_in m u [] up h = tt
all_in m u (p ∷ ps) up h = (h p.0 p.1 (at_head p ps), all_in (p.0 + 1) u ps up.1 (λ k n e. h k n (in_later k n p ps (nat_eq p.0 k) refl up.1 e)))

ascends_by : (m : ℕ) (vs : Table Vnode) → ascends_from m vs ≡ true → AscendsFrom m vs
ascends_by m [] e = tt
ascends_by m (p ∷ ps) e =
    let b = both_true (not (nat_lt p.0 m)) (ascends_from (p.0 + 1) ps) e in
    (ltb-false p.0 m (is_false (nat_lt p.0 m) b.0), ascends_by (p.0 + 1) ps b.1)

ascend_too : {A B : Type 0} (m : ℕ) (t : Table A) (u : Table B) → numbers_in t ≡ numbers_in u → AscendsFrom m u → AscendsFrom m t
ascend_too {A} {B} m [] u e up = tt
ascend_too {A} {B} m (p ∷ ps) [] e up = absurd (none_some p ps (sym e))
ascend_too {A} {B} m (p ∷ ps) (q ∷ qs) e up =
    let f = first_same p q ps qs e in
    (subst (λ (k : ℕ). m ≤ k) (sym f.0) up.0, ascend_too (p.0 + 1) ps qs f.1 (subst (λ (k : ℕ). AscendsFrom (k + 1) qs) (sym f.0) up.1))

sound_ascends : (v : Volume) → is_sound v ≡ true → ascends_from 1 v.vnodes ≡ true
unfolding is_sound
sound_ascends v e = (both_true (ascends_from 1 v.vnodes) _ (both_true _ _ e).1).0

pub storable_timed : StorableAreTimed
storable_timed s h =
    let up : AscendsFrom 1 s.times = ascend_too 1 s.times s.volume.vnodes h.times (ascends_by 1 s.volume.vnodes (sound_ascends s.volume h.sound)) in
    times_by s.volume.vnodes s.times s.times h.times (all_in 1 s.times s.times up (λ k n e. e))

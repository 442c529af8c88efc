-- What a change leaves of a volume is what the fold leaves.
use Rattle.std.proofs.Common.{◌≡◌, ℕ, suc, ◌<◌, ◌≤◌, Bool, true, false, not, List, [], ◌∷◌, length, Option, Some, None, is_some, nat_eq, nat_lt, if◌then◌else◌, refl, sym, ap, subst, ◌∙◌, arith, inl, inr}
use Rattle.std.proofs.lemmas.Bool.{lt-ltb, le-ltb}
use Rattle.std.proofs.lemmas.Bool.Decides.{nat_tests}
use Rattle.std.specs.Prelude.{◌&&◌}
use Rattle.std.specs.List.{list_all, AllByRecursion}
use Rattle.afs_num.specs.declared.vnodes.Vnode as image
use Rattle.afs_num.specs.declared.volumes.Change.{Change}
use Rattle.afs_num.specs.declared.volumes.VolumeHead.{VolumeHead}
use Rattle.spec_shape.specs.Taking.{◌>>=◌}
use Rattle.spec_ideal.specs.Images.{value_of, values_of}
use Rattle.spec_ideal.specs.Volumes.{Vnode}
use Rattle.spec_ideal.specs.Tables.{Table, get, set, unset, AscendsFrom}
use Rattle.spec_ideal.specs.VnodeMaps.{most_vnodes, is_full_for}
use Rattle.spec_ideal.proofs.Tables.{ascends_set, ascends_unset}
use Rattle.spec_records.specs.Durable.{Stored, allowed, changed_stored, counted_as, with_image, with_images, without}
use Rattle.spec_records.specs.Sound.{is_sound}
use Rattle.afs_volume.specs.Assembling.{are_read, make_volume}
use Rattle.afs_volume.specs.Seen.{all_seen, kind_seen, volume_seen, AreReadable, IsReadable}
use Rattle.afs_volume.specs.Taking.{is_among, put_but, stored_of, stored_with, without_all}
use Rattle.afs_volume.specs.declared.volume.Volume.{Volume}
use Rattle.afs_volume.proofs.Folded.{goes, puts}
use Rattle.afs_volume.proofs.Readable.{all_read, readable_kind, reads_all}
use Rattle.afs_volume.proofs.Upward.{same_length}
use Rattle.afs_volume.proofs.Taken.{put_each, removed_first, set_readable, unset_readable}
use Rattle.afs_volume.proofs.Soundly.{in_order}
use Rattle.afs_patch.specs.Changing.{is_in, CantBeLeft}
use Rattle.afs_seats.proofs.Seen.{set_length}

-- ---- each image has its value

some_value : (i : image.Vnode) (is : List image.Vnode) (s : Stored) (o : Option Vnode) → value_of i ≡ o → is_some o ≡ true → ((t : Stored) → (y : Stored) × (with_images is t ≡ Some y))
    → (y : Stored) × ((o >>= λ x. with_images is (with_image i x s)) ≡ Some y)
some_value i is s None value e later = absurd cc
some_value i is s (Some x) value e later = later (with_image i x s)

images_put : (is : List image.Vnode) (s : Stored) → AllByRecursion IsReadable is → (y : Stored) × (with_images is s ≡ Some y)
images_put [] s read = (s, refl)
images_put (i ∷ is) s read = some_value i is s (value_of i) refl (readable_kind (kind_seen i.kind) i refl read.0) (λ t. images_put is t read.1)

-- ---- the fold by what is left

pub changed_is : (head : VolumeHead) (counter unique : ℕ) (xs : List image.Vnode) (ns : List ℕ) (t : Table image.Vnode) → AscendsFrom 0 t → AllByRecursion IsReadable xs → list_all (is_in t) ns ≡ true
    → changed_stored counter unique xs ns (stored_with head t) ≡ allowed (stored_with (record head { counter = counter; unique = unique }) (put_but ns xs (without_all ns t)))
changed_is head counter unique xs ns t up read there =
    let next : VolumeHead = record head { counter = counter; unique = unique } in
    let put = images_put xs (stored_with head t) read in
    let one : counted_as counter unique put.0 ≡ stored_with next (put_each xs t) = ap (λ (r : Stored). counted_as counter unique r) (sym (puts head xs t put.0 put.1)) in
    let left : without ns (counted_as counter unique put.0) ≡ stored_with next (put_but ns xs (without_all ns t)) =
    ap (λ (r : Stored). without ns r) one ∙ (goes next ns (put_each xs t) ∙ ap (λ (u : Table image.Vnode). stored_with next u) (sym (removed_first ns xs t up))) in
    rw (there, put.1, left) refl

pub none_there : (head : VolumeHead) (counter unique : ℕ) (xs : List image.Vnode) (ns : List ℕ) (t : Table image.Vnode) → list_all (is_in t) ns ≡ false → changed_stored counter unique xs ns (stored_with head t) ≡ None
none_there head counter unique xs ns t there = rw there refl

allowed_by : (s : Stored) (a b : Bool) → a ≡ true → b ≡ true → (if a && b then Some s else None) ≡ Some s
allowed_by s true true p q = refl
allowed_by s true false p q = absurd cc
allowed_by s false b p q = absurd cc

pub may_hold : (head : VolumeHead) (t : Table image.Vnode) → length t ≤ most_vnodes → is_sound (volume_seen head t) ≡ true → allowed (stored_with head t) ≡ Some (stored_with head t)
may_hold head t few sound =
    allowed_by (stored_with head t) (not (nat_lt most_vnodes (length (all_seen t)))) (is_sound (volume_seen head t))
    (ap not (let e : nat_lt most_vnodes (length (all_seen t)) ≡ false = le-ltb most_vnodes (length (all_seen t)) (subst (λ (n : ℕ). n ≤ most_vnodes) (sym (same_length t)) few) in e)) sound

too_many : (s : Stored) (b : Bool) → nat_lt most_vnodes (length s.volume.vnodes) ≡ true → (if not (nat_lt most_vnodes (length s.volume.vnodes)) && b then Some s else None) ≡ None
too_many s b e = rw e refl

pub may_not_hold : (head : VolumeHead) (t : Table image.Vnode) → most_vnodes < length t → allowed (stored_with head t) ≡ None
may_not_hold head t many = too_many (stored_with head t) (is_sound (volume_seen head t)) (lt-ltb most_vnodes (length (all_seen t)) (subst (λ (n : ℕ). most_vnodes < n) (sym (same_length t)) many))

not_sound : (s : Stored) (a b : Bool) → b ≡ false → (if a && b then Some s else None) ≡ None
not_sound s true true e = absurd cc
not_sound s true false e = refl
not_sound s false b e = refl

pub unsound : (head : VolumeHead) (t : Table image.Vnode) → is_sound (volume_seen head t) ≡ false → allowed (stored_with head t) ≡ None
unsound head t e = not_sound (stored_with head t) (not (nat_lt most_vnodes (length (all_seen t)))) (is_sound (volume_seen head t)) e

-- ---- what is left can be read, and is in order

without_read : (ns : List ℕ) (t : Table image.Vnode) → AreReadable t → AreReadable (without_all ns t)
without_read [] t all = all
without_read (n ∷ ns) t all = without_read ns (unset n t) (unset_readable n t all)

but_read : (ns : List ℕ) (xs : List image.Vnode) (t : Table image.Vnode) → AllByRecursion IsReadable xs → AreReadable t → AreReadable (put_but ns xs t)
but_read ns [] t read all = all
but_read ns (x ∷ xs) t read all = but_read ns xs (if is_among x.vnode ns then t else set x.vnode x t) read.1 (one_read (is_among x.vnode ns))
  where
    one_read : (b : Bool) → AreReadable (if b then t else set x.vnode x t)
    one_read true = all
    one_read false = set_readable x.vnode x t read.0 all

without_up : (ns : List ℕ) (t : Table image.Vnode) → AscendsFrom 0 t → AscendsFrom 0 (without_all ns t)
without_up [] t up = up
without_up (n ∷ ns) t up = without_up ns (unset n t) (ascends_unset 0 n t up)

but_up : (ns : List ℕ) (xs : List image.Vnode) (t : Table image.Vnode) → AscendsFrom 0 t → AscendsFrom 0 (put_but ns xs t)
but_up ns [] t up = up
but_up ns (x ∷ xs) t up = but_up ns xs (if is_among x.vnode ns then t else set x.vnode x t) (one_up (is_among x.vnode ns))
  where
    one_up : (b : Bool) → AscendsFrom 0 (if b then t else set x.vnode x t)
    one_up true = up
    one_up false = ascends_set 0 x.vnode x t (omega arith) up

-- ---- how many are left

longer_by : (there : Bool) (n k : ℕ) → k ≡ (if there then n else suc n) → n ≤ k
longer_by true n k e = omega (arith, e)
longer_by false n k e = omega (arith, e)

set_longer : (n : ℕ) (x : image.Vnode) (t : Table image.Vnode) → AscendsFrom 0 t → length t ≤ length (set n x t)
set_longer n x t up = longer_by (is_some (get n t)) (length t) (length (set n x t)) (set_length 0 n x t up)

fewer_by : (ns : List ℕ) (x : image.Vnode) (xs : List image.Vnode) (t : Table image.Vnode) (b : Bool) → length t ≤ length (put_but ns xs t) → length (set x.vnode x t) ≤ length (put_but ns xs (set x.vnode x t)) → length t ≤ length (set x.vnode x t)
    → length t ≤ length (put_but ns xs (if b then t else set x.vnode x t))
fewer_by ns x xs t true same later longer = same
fewer_by ns x xs t false same later longer = omega (arith, later, longer)

never_fewer : (ns : List ℕ) (xs : List image.Vnode) (t : Table image.Vnode) → AscendsFrom 0 t → length t ≤ length (put_but ns xs t)
never_fewer ns [] t up = omega arith
never_fewer ns (x ∷ xs) t up =
    fewer_by ns x xs t (is_among x.vnode ns) (never_fewer ns xs t up) (never_fewer ns xs (set x.vnode x t) (ascends_set 0 x.vnode x t (omega arith) up)) (set_longer x.vnode x t up)

one_too_many : (there : Bool) (n k : ℕ) → k ≡ (if there then n else suc n) → (nat_eq n most_vnodes && not there) ≡ true → most_vnodes < k
one_too_many true n k e full = absurd (grind (arith, nat_tests, full))
one_too_many false n k e full = grind (arith, nat_tests, e, full)

pub many_left : (ns : List ℕ) (x : image.Vnode) (rest before changed : List image.Vnode) (t start : Table image.Vnode) → before ≡ x ∷ rest → is_among x.vnode ns ≡ false → is_full_for x.vnode t ≡ true → AscendsFrom 0 t → put_but ns before t ≡ put_but ns changed start
    → most_vnodes < length (put_but ns changed start)
many_left ns x rest before changed t start first apart full up so_far =
    let here : put_but ns before t ≡ put_but ns rest (set x.vnode x t) =
    ap (λ (b : List image.Vnode). put_but ns b t) first ∙ ap (λ (b : Bool). put_but ns rest (if b then t else set x.vnode x t)) apart in
    let later : length (set x.vnode x t) ≤ length (put_but ns rest (set x.vnode x t)) = never_fewer ns rest (set x.vnode x t) (ascends_set 0 x.vnode x t (omega arith) up) in
    let many : most_vnodes < length (set x.vnode x t) = one_too_many (is_some (get x.vnode t)) (length t) (length (set x.vnode x t)) (set_length 0 x.vnode x t up) full in
    omega (arith, later, many, ap length here, ap length so_far)

pub left_read : (ns : List ℕ) (xs : List image.Vnode) (t : Table image.Vnode) → AscendsFrom 0 t → AreReadable t → AllByRecursion IsReadable xs → are_read (put_but ns xs (without_all ns t)) ≡ true
left_read ns xs t up all read = reads_all 0 (put_but ns xs (without_all ns t)) (but_up ns xs (without_all ns t) (without_up ns t up)) (but_read ns xs (without_all ns t) read (without_read ns t all))

second : (a b : Bool) → a ≡ true → (a && b) ≡ false → b ≡ false
second true b p e = e
second false b p e = absurd cc

-- parts that make no volume make no sound one
pub no_volume : (head : VolumeHead) (t : Table image.Vnode) → are_read t ≡ true → make_volume head t ≡ false → is_sound (volume_seen head t) ≡ false
no_volume head t read e = second (is_some (values_of t)) (is_sound (volume_seen head t)) (all_read t ∙ read) e

-- ---- a volume after a change

from_start : {A : Type 0} (m : ℕ) (t : Table A) → AscendsFrom m t → AscendsFrom 0 t
from_start {A} m [] up = tt
from_start {A} m (p ∷ ps) up = (omega arith, up.1)

pub its_order : (v : Volume) → AscendsFrom 0 v.vnodes.table
its_order v = from_start 1 v.vnodes.table (in_order v.head v.vnodes.table v.readable v.sound)

cant_by : (v : Volume) (c : Change) (b : Bool) → list_all (is_in v.vnodes.table) c.removed ≡ b → AllByRecursion IsReadable c.vnodes → CantBeLeft c.removed c.vnodes v.vnodes.table → changed_stored c.counter c.unique c.vnodes c.removed (stored_of v) ≡ None
cant_by v c false is read left = none_there v.head c.counter c.unique c.vnodes c.removed v.vnodes.table is
cant_by v c true is read (inl there) = absurd (no (sym is ∙ there))
  where
    no : ◌≡◌ {A = Bool} true false → ⊥
    no e = cc
cant_by v c true is read (inr many) =
    changed_is v.head c.counter c.unique c.vnodes c.removed v.vnodes.table (its_order v) read is
    ∙ may_not_hold (record v.head { counter = c.counter; unique = c.unique }) (put_but c.removed c.vnodes (without_all c.removed v.vnodes.table)) many

pub cant_be_changed : (v : Volume) (c : Change) (t : Table image.Vnode) → t ≡ v.vnodes.table → AllByRecursion IsReadable c.vnodes → CantBeLeft c.removed c.vnodes t → changed_stored c.counter c.unique c.vnodes c.removed (stored_of v) ≡ None
cant_be_changed v c t same read left = cant_by v c (list_all (is_in v.vnodes.table) c.removed) refl read (subst (CantBeLeft c.removed c.vnodes) same left)

-- the parts of the volume after a change
pub record AreLeft (v : Volume) (c : Change) (t u : Table image.Vnode) (h : VolumeHead) : Type 0 where
  pub vnodes : t ≡ v.vnodes.table
  pub there : list_all (is_in t) c.removed ≡ true
  pub table : u ≡ put_but c.removed c.vnodes (without_all c.removed t)
  pub head : h ≡ record v.head { counter = c.counter; unique = c.unique }

left_allowed : (v : Volume) (c : Change) (t u : Table image.Vnode) (h : VolumeHead) → AllByRecursion IsReadable c.vnodes → AreLeft v c t u h → changed_stored c.counter c.unique c.vnodes c.removed (stored_of v) ≡ allowed (stored_with h u)
left_allowed v c t u h read left =
    changed_is v.head c.counter c.unique c.vnodes c.removed v.vnodes.table (its_order v) read (subst (λ (s : Table image.Vnode). list_all (is_in s) c.removed ≡ true) left.vnodes left.there)
    ∙ (ap (λ (k : VolumeHead). allowed (stored_with k (put_but c.removed c.vnodes (without_all c.removed v.vnodes.table)))) (sym left.head)
    ∙ ap (λ (s : Table image.Vnode). allowed (stored_with h s)) (sym (left.table ∙ ap (λ (s : Table image.Vnode). put_but c.removed c.vnodes (without_all c.removed s)) left.vnodes)))

pub is_remade : (v w : Volume) (c : Change) (t u : Table image.Vnode) (h : VolumeHead) → AllByRecursion IsReadable c.vnodes → AreLeft v c t u h → length u ≤ most_vnodes → w.head ≡ h → w.vnodes.table ≡ u
    → changed_stored c.counter c.unique c.vnodes c.removed (stored_of v) ≡ Some (stored_of w)
is_remade v w c t u h read left few head table =
    left_allowed v c t u h read left
    ∙ (ap (λ (k : VolumeHead). allowed (stored_with k u)) (sym head)
    ∙ (ap (λ (s : Table image.Vnode). allowed (stored_with w.head s)) (sym table) ∙ may_hold w.head w.vnodes.table (subst (λ (s : Table image.Vnode). length s ≤ most_vnodes) (sym table) few) w.sound))

pub isnt_remade : (v : Volume) (c : Change) (t u : Table image.Vnode) (h : VolumeHead) → AllByRecursion IsReadable c.vnodes → AreLeft v c t u h → make_volume h u ≡ false → changed_stored c.counter c.unique c.vnodes c.removed (stored_of v) ≡ None
isnt_remade v c t u h read left e =
    let whole : u ≡ put_but c.removed c.vnodes (without_all c.removed v.vnodes.table) = left.table ∙ ap (λ (s : Table image.Vnode). put_but c.removed c.vnodes (without_all c.removed s)) left.vnodes in
    let readable : are_read u ≡ true = ap are_read whole ∙ left_read c.removed c.vnodes v.vnodes.table (its_order v) v.readable read in
    left_allowed v c t u h read left ∙ unsound h u (no_volume h u readable e)

-- What a disk keeps of a volume after a change is the volume that took it in.
use Rattle.std.proofs.Common.{◌≡◌, ℕ, ◌≤◌, Bool, true, false, not, List, [], ◌∷◌, length, Option, Some, None, Result, Ok, Err, is_some, nat_eq, nat_lt, if◌then◌else◌, refl, sym, ap, subst, ◌∙◌, arith}
use Rattle.std.specs.Prelude.{◌&&◌}
use Rattle.std.specs.List.{list_all}
use Rattle.std.proofs.lemmas.Bool.Decides.{nat_tests}
use Rattle.afs_num.specs.declared.acls.AccessList.{AccessList}
use Rattle.afs_num.specs.declared.directories.Name.{Name}
use Rattle.afs_num.specs.declared.vnodes.Vnode as image
use Rattle.afs_num.specs.declared.volumes.VolumeHead.{VolumeHead}
use Rattle.spec_shape.specs.Taking.{◌>>=◌}
use Rattle.spec_ideal.specs.AccessLists.{acl_at, no_acl}
use Rattle.spec_ideal.specs.Directories.{directory_of}
use Rattle.spec_ideal.specs.Images.{directory_value, kind_of, value_by, value_of, value_of_kind, value_with}
use Rattle.spec_ideal.specs.Tables.{Table, set, unset, AscendsFrom}
use Rattle.spec_ideal.specs.VnodeMaps.{most_vnodes}
use Rattle.spec_ideal.specs.Volumes.{VnodeKind, a_file, a_directory, a_link}
use Rattle.spec_ideal.specs.Volumes as ideal
use Rattle.spec_ideal.proofs.Tables.{ascends_lower}
use Rattle.afs_volume.specs.declared.volume.Volume.{Volume}
use Rattle.afs_volume.proofs.Soundly.{in_order}
use Rattle.spec_records.specs.Durable.{Stored, allowed, changed_stored, counted_as, is_there, with_image, with_images, without, without_one}
use Rattle.spec_records.specs.Sound.{is_sound}
use Rattle.afs_volume.specs.Seen.{all_seen, contents_seen, kind_seen, list_read, list_seen, list_spelled, names_read, names_seen, names_spelled, seen, volume_seen}
use Rattle.afs_volume.specs.Taking.{put_but, stored_of, stored_with, times_in, without_all}
use Rattle.afs_volume.proofs.Upward.{same_length}
use Rattle.afs_volume.proofs.Taken.{mapped_set, mapped_unset, put_each, removed_first, seen_set, seen_unset}

-- ---- an image that has a value is seen as it

pub some_is : {A : Type 0} (x y : A) → Some x ≡ Some y → x ≡ y
some_is {A} x y e = cc

kinds_by : (n : ℕ) (k : VnodeKind) (a b c : Bool) → nat_eq n 1 ≡ a → nat_eq n 2 ≡ b → nat_eq n 3 ≡ c → ◌≡◌ {A = Option VnodeKind} (if a then Some a_file else (if b then Some a_directory else (if c then Some a_link else None))) (Some k)
    → ◌≡◌ {A = VnodeKind} (if b then a_directory else (if c then a_link else a_file)) k
kinds_by n k true true c one two three e = absurd (grind (arith, nat_tests, one, two))
kinds_by n k true false true one two three e = absurd (grind (arith, nat_tests, one, three))
kinds_by n k true false false one two three e = some_is a_file k e
kinds_by n k false true c one two three e = some_is a_directory k e
kinds_by n k false false true one two three e = some_is a_link k e
kinds_by n k false false false one two three e = absurd cc

kinds : (n : ℕ) (k : VnodeKind) → kind_of n ≡ Some k → kind_seen n ≡ k
kinds n k e = kinds_by n k (nat_eq n 1) (nat_eq n 2) (nat_eq n 3) refl refl refl e

directory_is : {E F : Type 0} (i : image.Vnode) (x : ideal.Vnode) (r : Result (List Name) E) (s : Result AccessList F) → directory_value i r s ≡ Some x → value_with a_directory [] (names_read r) (list_read s) i ≡ x
directory_is {E} {F} i x (Ok names) (Ok acl) e = some_is (value_with a_directory [] names acl i) x e
directory_is {E} {F} i x (Ok names) (Err f) e = absurd cc
directory_is {E} {F} i x (Err g) s e = absurd cc

contents_is : (k : VnodeKind) (i : image.Vnode) (x : ideal.Vnode) (b : Bool) → ◌≡◌ {A = Option ideal.Vnode} (if b then Some (value_with k i.contents [] no_acl i) else None) (Some x) → value_with k i.contents [] no_acl i ≡ x
contents_is k i x true e = some_is (value_with k i.contents [] no_acl i) x e
contents_is k i x false e = absurd cc

value_is : (k : VnodeKind) (i : image.Vnode) (x : ideal.Vnode) → value_by k i ≡ Some x → value_with k (contents_seen k i.contents) (names_seen k i.contents) (list_seen k i.acl) i ≡ x
unfolding names_spelled list_spelled
value_is a_directory i x e = directory_is i x (directory_of i.contents) (acl_at i.acl) e
value_is a_file i x e = contents_is a_file i x (nat_eq (length i.acl) 0) e
value_is a_link i x e = contents_is a_link i x (nat_eq (length i.acl) 0) e

seen_by : (o : Option VnodeKind) (i : image.Vnode) (x : ideal.Vnode) → kind_of i.kind ≡ o → value_of_kind o i ≡ Some x → seen i ≡ x
unfolding seen
seen_by None i x is e = absurd cc
seen_by (Some k) i x is e =
    ap (λ (j : VnodeKind). value_with j (contents_seen j i.contents) (names_seen j i.contents) (list_seen j i.acl) i) (kinds i.kind k is) ∙ value_is k i x e

pub value_seen : (i : image.Vnode) (x : ideal.Vnode) → value_of i ≡ Some x → seen i ≡ x
unfolding value_of
value_seen i x e = seen_by (kind_of i.kind) i x refl e

-- ---- one step of a change

one_put : (head : VolumeHead) (i : image.Vnode) (x : ideal.Vnode) (t : Table image.Vnode) → seen i ≡ x → with_image i x (stored_with head t) ≡ stored_with head (set i.vnode i t)
one_put head i x t is =
    let s : Stored = stored_with head t in
    let vnodes : set i.vnode x (all_seen t) ≡ all_seen (set i.vnode i t) = ap (λ (y : ideal.Vnode). set i.vnode y (all_seen t)) (sym is) ∙ sym (seen_set i.vnode i t) in
    let times : set i.vnode i.server_time (times_in t) ≡ times_in (set i.vnode i t) = sym (mapped_set (λ (y : image.Vnode). y.server_time) i.vnode i t) in
    ap (λ (v : Table ideal.Vnode). record s { volume = record s.volume { vnodes = v }; times = set i.vnode i.server_time (times_in t) }) vnodes
    ∙ ap (λ (u : Table ℕ). record s { volume = volume_seen head (set i.vnode i t); times = u }) times

one_gone : (head : VolumeHead) (n : ℕ) (t : Table image.Vnode) → without_one n (stored_with head t) ≡ stored_with head (unset n t)
one_gone head n t =
    let s : Stored = stored_with head t in
    ap (λ (v : Table ideal.Vnode). record s { volume = record s.volume { vnodes = v }; times = unset n (times_in t) }) (sym (seen_unset n t))
    ∙ ap (λ (u : Table ℕ). record s { volume = volume_seen head (unset n t); times = u }) (sym (mapped_unset (λ (y : image.Vnode). y.server_time) n t))

-- ---- all of them

puts_by : (head : VolumeHead) (i : image.Vnode) (is : List image.Vnode) (t : Table image.Vnode) (y : Stored) (o : Option ideal.Vnode) → value_of i ≡ o
    → ((u : Table image.Vnode) → with_images is (stored_with head u) ≡ Some y → stored_with head (put_each is u) ≡ y)
    → (o >>= λ x. with_images is (with_image i x (stored_with head t))) ≡ Some y → stored_with head (put_each is (set i.vnode i t)) ≡ y
puts_by head i is t y None value later e = absurd cc
puts_by head i is t y (Some x) value later e = later (set i.vnode i t) (ap (λ (s : Stored). with_images is s) (sym (one_put head i x t (value_seen i x value))) ∙ e)

pub puts : (head : VolumeHead) (is : List image.Vnode) (t : Table image.Vnode) (y : Stored) → with_images is (stored_with head t) ≡ Some y → stored_with head (put_each is t) ≡ y
puts head [] t y e = some_is (stored_with head t) y e
puts head (i ∷ is) t y e = puts_by head i is t y (value_of i) refl (λ u. puts head is u y) e

pub goes : (head : VolumeHead) (ns : List ℕ) (t : Table image.Vnode) → without ns (stored_with head t) ≡ stored_with head (without_all ns t)
goes head [] t = refl
goes head (n ∷ ns) t = ap (λ (s : Stored). without ns s) (one_gone head n t) ∙ goes head ns (unset n t)

split : (a b : Bool) → (a && b) ≡ true → (a ≡ true) × (b ≡ true)
split true b e = (refl, e)
split false b e = absurd cc

allowed_by : (s : Stored) (b : Bool) → is_some (if b then Some s else None) ≡ true → b ≡ true
allowed_by s true e = refl
allowed_by s false e = absurd cc

not_more : (n : ℕ) → not (nat_lt most_vnodes n) ≡ true → n ≤ most_vnodes
not_more n e = grind (arith, nat_tests, e)

-- a volume that takes in a change: what a disk keeps of it, and that it may be kept
pub record IsTaken (head : VolumeHead) (counter unique : ℕ) (xs : List image.Vnode) (ns : List ℕ) (t : Table image.Vnode) (after : Table image.Vnode) : Type 0 where
  pub is : changed_stored counter unique xs ns (stored_with head t) ≡ Some (stored_with (record head { counter = counter; unique = unique }) after)
  pub few : length after ≤ most_vnodes
  pub sound : is_sound (volume_seen (record head { counter = counter; unique = unique }) after) ≡ true

takes_by : (head : VolumeHead) (counter unique : ℕ) (xs : List image.Vnode) (ns : List ℕ) (t after : Table image.Vnode) (b : Bool) (o : Option Stored) → list_all (is_there (stored_with head t)) ns ≡ b → with_images xs (stored_with head t) ≡ o
    → after ≡ without_all ns (put_each xs t) → is_some (if b then (o >>= λ s. allowed (without ns (counted_as counter unique s))) else None) ≡ true → IsTaken head counter unique xs ns t after
takes_by head counter unique xs ns t after false o there put is e = absurd cc
takes_by head counter unique xs ns t after true None there put is e = absurd cc
takes_by head counter unique xs ns t after true (Some s) there put is e =
    let next : VolumeHead = record head { counter = counter; unique = unique } in
    let z : Stored = stored_with next after in
    let one : counted_as counter unique s ≡ stored_with next (put_each xs t) = ap (λ (r : Stored). counted_as counter unique r) (sym (puts head xs t s put)) in
    let left : without ns (counted_as counter unique s) ≡ z = ap (λ (r : Stored). without ns r) one ∙ (goes next ns (put_each xs t) ∙ ap (λ (u : Table image.Vnode). stored_with next u) (sym is)) in
    let test : (not (nat_lt most_vnodes (length (all_seen after))) && is_sound (volume_seen next after)) ≡ true = allowed_by z (not (nat_lt most_vnodes (length (all_seen after))) && is_sound (volume_seen next after)) (sym (ap (λ (r : Stored). is_some (allowed r)) left) ∙ e) in
    let both = split (not (nat_lt most_vnodes (length (all_seen after)))) (is_sound (volume_seen next after)) test in
    record {
      is = rw (there, put, left, test) refl;
      few = subst (λ (n : ℕ). n ≤ most_vnodes) (same_length after) (not_more (length (all_seen after)) both.0);
      sound = both.1;
    }

pub takes : (head : VolumeHead) (counter unique : ℕ) (xs : List image.Vnode) (ns : List ℕ) (t : Table image.Vnode) → AscendsFrom 0 t → is_some (changed_stored counter unique xs ns (stored_with head t)) ≡ true
    → IsTaken head counter unique xs ns t (put_but ns xs (without_all ns t))
takes head counter unique xs ns t up e =
    takes_by head counter unique xs ns t (put_but ns xs (without_all ns t)) (list_all (is_there (stored_with head t)) ns) (with_images xs (stored_with head t)) refl refl (removed_first ns xs t up) e

pub volume_takes : (v : Volume) (counter unique : ℕ) (xs : List image.Vnode) (ns : List ℕ) → is_some (changed_stored counter unique xs ns (stored_of v)) ≡ true
    → IsTaken v.head counter unique xs ns v.vnodes.table (put_but ns xs (without_all ns v.vnodes.table))
volume_takes v counter unique xs ns e = takes v.head counter unique xs ns v.vnodes.table (ascends_lower 0 1 v.vnodes.table (omega arith) (in_order v.head v.vnodes.table v.readable v.sound)) e

-- Records that are made ready.
use Rattle.std.proofs.Common.{◌≡◌, ℕ, ◌+◌, ◌≤◌, Bool, true, false, not, List, [], ◌∷◌, ◌++◌, length, map, Option, Some, None, is_some, nat_lt, if◌then◌else◌, refl, sym, ap, subst, ◌∙◌, arith, append_assoc, length-append}
use Rattle.std.specs.Prelude.{◌&&◌}
use Rattle.std.specs.List.{list_all, AllByRecursion}
use Rattle.std.proofs.lemmas.Bool.{le-ltb}
use Rattle.std.proofs.lemmas.Bool.Decides.{nat_tests}
use Rattle.std.proofs.lemmas.List.{length-map}
use Rattle.afs_num.specs.declared.vnodes.Vnode as image
use Rattle.afs_num.specs.declared.volumes.VolumeHead.{VolumeHead}
use Rattle.afs_num.specs.declared.records.StoredVolume.{StoredVolume}
use Rattle.spec_shape.specs.Taking.{◌>>=◌}
use Rattle.spec_ideal.specs.Images.{value_of, values_of, with_value}
use Rattle.spec_ideal.specs.Volumes.{Vnode}
use Rattle.spec_ideal.specs.Tables.{Table, set, AscendsFrom}
use Rattle.spec_ideal.specs.VnodeImage.{FitsImage}
use Rattle.spec_ideal.specs.VnodeMaps.{most_vnodes, is_full_for}
use Rattle.spec_records.specs.Durable.{Durable, Stored, allowed, by_number, stored_of, times_of, volume_with, with_stored, with_volumes}
use Rattle.spec_records.specs.Forms.{image_form}
use Rattle.spec_records.specs.Records.{are_listed, ascend_from, listed_vnode, marked_form, row, volume_form, was_changed}
use Rattle.afs_num.specs.declared.records.RecordBody.TheVariants as bodies
use Rattle.spec_records.specs.Sound.{is_sound}
use Rattle.afs_volume.specs.Assembling.{make_volume}
use Rattle.afs_num.specs.Nodes.{is_between}
use Rattle.afs_volume.specs.Seen.{all_seen, seen, volume_seen, FitsHead}
use Rattle.afs_volume.specs.Taking.{stored_with, times_in}
use Rattle.afs_volume.specs.declared.volume.Volume.{Volume}
use Rattle.afs_volume.proofs.Folded.{value_seen}
use Rattle.afs_volume.proofs.Upward.{same_length}
use Rattle.afs_volume.proofs.Taken.{not_full}
use Rattle.afs_memory.specs.Redos.{told, IsMadeAgain}

-- ---- vnodes that are put in order

both : (a b : Bool) → (a && b) ≡ true → (a ≡ true) × (b ≡ true)
both true b e = (refl, e)
both false b e = absurd cc

pub ascends_of : (m : ℕ) (vs : List image.Vnode) → ascend_from m vs ≡ true → AscendsFrom m (by_number vs)
ascends_of m [] e = tt
ascends_of m (v ∷ vs) e =
    let two = both (not (nat_lt v.vnode m)) (ascend_from (v.vnode + 1) vs) e in
    (not_below v.vnode m two.0, ascends_of (v.vnode + 1) vs two.1)
  where
    not_below : (a b : ℕ) → not (nat_lt a b) ≡ true → b ≤ a
    not_below a b q = grind (arith, nat_tests, q)

put_last : {A : Type 0} (m n : ℕ) (x : A) (t r : Table A) → AscendsFrom m (t ++ (n, x) ∷ r) → (m ≤ n) × (set n x t ≡ t ++ (n, x) ∷ [])
put_last {A} m n x [] r up = (up.0, refl)
put_last {A} m n x (p ∷ ps) r up =
    let later = put_last (p.0 + 1) n x ps r up.1 in
    (omega (arith, up.0, later.0), grind (arith, nat_tests, later.0, later.1))

-- one more stands behind the others
pub one_put : (x : image.Vnode) (rest before : List image.Vnode) (t u all : Table image.Vnode) → AscendsFrom 0 all → t ++ by_number before ≡ all → before ≡ x ∷ rest → u ≡ set x.vnode x t → u ++ by_number rest ≡ all
one_put x rest before t u all up split first put =
    let here : t ++ (x.vnode, x) ∷ by_number rest ≡ all = ap (λ (b : List image.Vnode). t ++ by_number b) (sym first) ∙ split in
    let last = put_last 0 x.vnode x t (by_number rest) (subst (AscendsFrom 0) (sym here) up) in
    ap (λ (l : Table image.Vnode). l ++ by_number rest) (put ∙ last.1) ∙ (append_assoc t ((x.vnode, x) ∷ []) (by_number rest) ∙ here)

pub is_room : (x : image.Vnode) (rest before vs : List image.Vnode) (t : Table image.Vnode) → AscendsFrom 0 (by_number vs) → length vs ≤ most_vnodes → t ++ by_number before ≡ by_number vs → before ≡ x ∷ rest → is_full_for x.vnode t ≡ false
is_room x rest before vs t up few split first =
    let here : t ++ (x.vnode, x) ∷ by_number rest ≡ by_number vs = ap (λ (b : List image.Vnode). t ++ by_number b) (sym first) ∙ split in
    let last = put_last 0 x.vnode x t (by_number rest) (subst (AscendsFrom 0) (sym here) up) in
    let all : length (t ++ (x.vnode, x) ∷ by_number rest) ≡ length vs = ap length here ∙ length-map vs (λ (v : image.Vnode). (v.vnode, v)) in
    let set_is : length (set x.vnode x t) ≡ length (t ++ (x.vnode, x) ∷ []) = ap length last.1 in
    not_full x.vnode x t (omega (arith, few, all, set_is, length-append t ((x.vnode, x) ∷ by_number rest), length-append t ((x.vnode, x) ∷ [])))

-- ---- a volume of a first record

fit_images : (vs : List image.Vnode) → AllByRecursion marked_form.Fits vs → AllByRecursion FitsImage vs
fit_images [] all = tt
fit_images (v ∷ vs) all = (all.0.0.1.limits, fit_images vs all.1)

pub record AreInOrder (vs : List image.Vnode) : Type 0 where
  pub fits : AllByRecursion FitsImage vs
  pub ascend : ascend_from 0 vs ≡ true
  pub few : length vs ≤ most_vnodes

whole_few : (ps : List (ℕ × ℕ)) (n : ℕ) → length ps ≡ n → not (nat_lt most_vnodes (length ps)) ≡ true → n ≤ most_vnodes
whole_few ps n same e = grind (arith, nat_tests, same, e)

pub in_order : (s : StoredVolume) → volume_form.Fits s → AreInOrder s.vnodes
unfolding volume_form
in_order s fits =
    let vnodes = fits.0.1.1.1.1.1.1.1.1.1.1 in
    let whole = both (not (nat_lt most_vnodes (length (map listed_vnode s.vnodes)))) (are_listed (map listed_vnode s.vnodes) s.vnodes && (ascend_from 0 s.vnodes && list_all was_changed s.vnodes)) vnodes.1.1 in
    let rest = both (are_listed (map listed_vnode s.vnodes) s.vnodes) (ascend_from 0 s.vnodes && list_all was_changed s.vnodes) whole.1 in
    record {
      fits = fit_images s.vnodes vnodes.1.0;
      ascend = (both (ascend_from 0 s.vnodes) (list_all was_changed s.vnodes) rest.1).0;
      few = whole_few (map listed_vnode s.vnodes) (length s.vnodes) (length-map s.vnodes listed_vnode) whole.0;
    }

kind_within : (n : ℕ) (b : Bool) → is_between 0 2 n ≡ b → (if b then Some n else None) ≡ Some n → n ≤ 2
kind_within n true is e = grind (arith, nat_tests, is)
kind_within n false is e = absurd cc

-- its head has a spelling
pub head_fits : (s : StoredVolume) → volume_form.Fits s → FitsHead s.head
unfolding volume_form
head_fits s fits = record { kind = kind_within s.head.kind (is_between 0 2 s.head.kind) refl fits.0.1.1.1.1.1.0.1; name = fits.0.0.0 }

-- the values of images are as these are seen
values_by : (n : ℕ) (i : image.Vnode) (o : Option Vnode) (q : Option (Table Vnode)) (t xs : Table Vnode) → value_of i ≡ o → ((ys : Table Vnode) → q ≡ Some ys → t ≡ ys) → with_value n o q ≡ Some xs → (n, seen i) ∷ t ≡ xs
values_by n i None q t xs is later e = absurd cc
values_by n i (Some x) None t xs is later e = absurd cc
values_by n i (Some x) (Some ys) t xs is later e =
    ap (λ (y : Vnode). (n, y) ∷ t) (value_seen i x is) ∙ (ap (λ (r : Table Vnode). (n, x) ∷ r) (later ys refl) ∙ (let z : (n, x) ∷ ys ≡ xs = cc in z))

values_seen : (t : Table image.Vnode) (xs : Table Vnode) → values_of t ≡ Some xs → all_seen t ≡ xs
unfolding all_seen
values_seen [] xs e = let z : [] ≡ xs = cc in z
values_seen (p ∷ ps) xs e = values_by p.0 p.1 (value_of p.1) (values_of ps) (all_seen ps) xs refl (values_seen ps) e

times_same : (vs : List image.Vnode) → times_of vs ≡ times_in (by_number vs)
times_same [] = refl
times_same (v ∷ vs) = ap (λ (t : Table ℕ). (v.vnode, v.server_time) ∷ t) (times_same vs)

stored_by : (s : StoredVolume) (o : Option (Table Vnode)) → values_of (by_number s.vnodes) ≡ o → is_some o ≡ true → (o >>= λ vnodes. allowed (record { volume = volume_with s vnodes; times = times_of s.vnodes; is_new = false })) ≡ allowed (stored_with s.head (by_number s.vnodes))
stored_by s None is e = absurd cc
stored_by s (Some xs) is e =
    ap (λ (v : Table Vnode). allowed (record { volume = volume_with s v; times = times_of s.vnodes; is_new = false })) (sym (values_seen (by_number s.vnodes) xs is))
    ∙ ap (λ (t : Table ℕ). allowed (record { volume = volume_seen s.head (by_number s.vnodes); times = t; is_new = false })) (times_same s.vnodes)

allowed_by : (s : Stored) (a b : Bool) → a ≡ true → b ≡ true → (if a && b then Some s else None) ≡ Some s
allowed_by s true true p q = refl
allowed_by s true false p q = absurd cc
allowed_by s false b p q = absurd cc

numbers_back : (vs : List image.Vnode) → map (λ (p : ℕ × image.Vnode). p.1) (by_number vs) ≡ vs
numbers_back [] = refl
numbers_back (v ∷ vs) = ap (λ (l : List image.Vnode). v ∷ l) (numbers_back vs)

-- a volume that is made of these parts is told as they were
pub told_again : (head : VolumeHead) (vs : List image.Vnode) (v : Volume) → v.head ≡ head → v.vnodes.table ≡ by_number vs → told v ≡ record { head = head; vnodes = vs }
told_again head vs v h t = rw (h, t, numbers_back vs) refl

-- and made again of what is told
pub made_again : (head : VolumeHead) (vs : List image.Vnode) (v : Volume) → v.head ≡ head → v.vnodes.table ≡ by_number vs → length vs ≤ most_vnodes → make_volume head (by_number vs) ≡ true → IsMadeAgain v
made_again head vs v h t few makes =
    let s : StoredVolume = record { head = head; vnodes = vs } in
    let parts = both (is_some (values_of (by_number vs))) (is_sound (volume_seen head (by_number vs))) makes in
    let short : nat_lt most_vnodes (length (all_seen (by_number vs))) ≡ false = le-ltb most_vnodes (length (all_seen (by_number vs))) (subst (λ (n : ℕ). n ≤ most_vnodes) (sym (same_length (by_number vs) ∙ length-map vs (λ (x : image.Vnode). (x.vnode, x)))) few) in
    let here : stored_of s ≡ Some (stored_with head (by_number vs)) =
    stored_by s (values_of (by_number vs)) refl parts.0 ∙ allowed_by (stored_with head (by_number vs)) (not (nat_lt most_vnodes (length (all_seen (by_number vs))))) (is_sound (volume_seen head (by_number vs))) (ap not short) parts.1 in
    ap stored_of (told_again head vs v h t) ∙ (here ∙ ap (λ (k : VolumeHead). Some (stored_with k (by_number vs))) (sym h) ∙ ap (λ (u : Table image.Vnode). Some (stored_with v.head u)) (sym t))

no_parts_by : (s : StoredVolume) (o : Option (Table Vnode)) → values_of (by_number s.vnodes) ≡ o → (is_some o && is_sound (volume_seen s.head (by_number s.vnodes))) ≡ false → (o >>= λ vnodes. allowed (record { volume = volume_with s vnodes; times = times_of s.vnodes; is_new = false })) ≡ None
no_parts_by s None is e = refl
no_parts_by s (Some xs) is e =
    stored_by s (Some xs) is refl ∙ refused_by (stored_with s.head (by_number s.vnodes)) (not (nat_lt most_vnodes (length (all_seen (by_number s.vnodes))))) (is_sound (volume_seen s.head (by_number s.vnodes))) e
  where
    refused_by : (x : Stored) (a b : Bool) → b ≡ false → (if a && b then Some x else None) ≡ None
    refused_by x true true q = absurd cc
    refused_by x true false q = refl
    refused_by x false b q = refl

pub no_parts : (s : StoredVolume) → make_volume s.head (by_number s.vnodes) ≡ false → stored_of s ≡ None
no_parts s e = no_parts_by s (values_of (by_number s.vnodes)) refl e

-- ---- a list of them of which one is none

none_by : (o : Option Stored) (id : ℕ) (d : Durable) (ss : List StoredVolume) → ((e : Durable) → with_volumes ss e ≡ None) → (o >>= λ x. (with_stored id x d >>= with_volumes ss)) ≡ None
none_by None id d ss later = refl
none_by (Some x) id d ss later = behind (with_stored id x d)
  where
    behind : (q : Option Durable) → (q >>= with_volumes ss) ≡ None
    behind None = refl
    behind (Some e) = later e

pub none_among : (before : List StoredVolume) (s : StoredVolume) (rest : List StoredVolume) → stored_of s ≡ None → (d : Durable) → with_volumes (before ++ s ∷ rest) d ≡ None
none_among [] s rest e d = rw e refl
none_among (b ∷ bs) s rest e d = none_by (stored_of b) b.head.id d (bs ++ s ∷ rest) (none_among bs s rest e)

-- ---- a change

each_fits : (vs : List image.Vnode) → AllByRecursion image_form.Fits vs → AllByRecursion FitsImage vs
each_fits [] all = tt
each_fits (v ∷ vs) all = (all.0.limits, each_fits vs all.1)

pub change_fits : (id counter unique : ℕ) (vs : List image.Vnode) (removed : List ℕ) → (row (bodies.Change id counter unique vs removed)).Fits → AllByRecursion FitsImage vs
change_fits id counter unique vs removed fits = each_fits vs fits.1.1.1.0.1

-- The volume that is made of a stream is the one that its dump restores.
use Rattle.std.proofs.Common.{◌≡◌, ℕ, suc, ◌≤◌, Bool, true, false, List, [], ◌∷◌, length, Option, Some, None, refl, sym, ap, subst, ◌∙◌, arith}
use Rattle.std.specs.Prelude.{◌&&◌, nat_lt, not, if◌then◌else◌}
use Rattle.std.proofs.lemmas.Bool.Decides.{nat_tests}
use Rattle.afs_num.specs.declared.volumes.VolumeHead.{VolumeHead}
use Rattle.spec_ideal.specs.Images.{Image}
use Rattle.spec_ideal.specs.Tables.{Table}
use Rattle.spec_ideal.specs.VnodeMaps.{most_vnodes}
use Rattle.spec_ideal.specs.Volumes.{Vnode}
use Rattle.spec_records.specs.Durable.{Stored, allowed}
use Rattle.spec_records.specs.Sound.{is_sound}
use Rattle.spec_dumps.specs.Dumps.{Dump}
use Rattle.spec_dumps.specs.Restores as restores
use Rattle.spec_dumps.specs.Restores.{allowed_with, is_other_family, restored, restored_vnodes, vnodes_in, Timed}
use Rattle.spec_dumps.specs.Streams.{FitsDump}
use Rattle.afs_vnode.specs.Stores.{table_of}
use Rattle.afs_volume.specs.Assembling.{are_read, make_volume}
use Rattle.afs_volume.specs.Seen.{all_seen, kind_seen, volume_seen}
use Rattle.afs_volume.specs.Taking as taking
use Rattle.afs_volume.proofs.Readable.{all_read, readable_kind}
use Rattle.afs_restore.specs.Filling.{filled, given_in, ImagesAreGood, AreMade, IsList}
use Rattle.afs_restore.specs.Parts.{dump_in}
use Rattle.afs_restore.specs.declared.headers.Told.{Told}
use Rattle.afs_restore.specs.declared.parts.Parts.{Parts}
use Rattle.afs_restore.proofs.Filled.{all_filled, AreAll}
use Rattle.afs_restore.proofs.Given.{dump_given, dump_good, given_by}
use Rattle.afs_restore.proofs.Made.{made_few}

-- ---- a volume that may be on a disk

allowed_is : (s : Stored) → length s.volume.vnodes ≤ most_vnodes → is_sound s.volume ≡ true → allowed s ≡ Some s
allowed_is s few sound =
    let test : nat_lt most_vnodes (length s.volume.vnodes) ≡ false = grind (arith, nat_tests, few) in
    rw (test, sound) refl

refused_by : (s : Stored) (b c : Bool) → c ≡ false → (if b && c then Some s else None) ≡ None
refused_by s true c is = rw is refl
refused_by s false c is = refl

refused_is : (s : Stored) → is_sound s.volume ≡ false → allowed s ≡ None
refused_is s sound = refused_by s (not (nat_lt most_vnodes (length s.volume.vnodes))) (is_sound s.volume) sound

-- ---- the head and the vnodes

-- the head of the restored volume
abbrev pub head_with : VolumeHead → Told → VolumeHead
head_with head told = record head { quota = told.quota; unique = told.unique; counter = told.counter; release = told.release }

stored_by : VolumeHead → Table Vnode → Table ℕ → Stored
stored_by head vnodes times = record {
  volume = record { family = head.family; name = head.name; kind = head.kind; flags = head.flags; quota = head.quota; next = head.unique; counter = head.counter; release = head.release; vnodes = vnodes };
  times = times;
  is_new = false;
}

same_stored : (id : ℕ) (head : VolumeHead) (old : Table Image) (p : Parts) (xs : List Image) (t : Table Timed) →
    all_seen (table_of xs) ≡ vnodes_in (is_other_family id (taking.stored_with head old) (dump_in p)) t → taking.times_in (table_of xs) ≡ restores.times_in t →
    restores.stored_with id (taking.stored_with head old) (dump_in p) t ≡ taking.stored_with (head_with head p.headers.told) (table_of xs)
unfolding stored_by
same_stored id head old p xs t vnodes times =
    let new : VolumeHead = head_with head p.headers.told in
    ap (λ (vs : Table Vnode). stored_by new vs (restores.times_in t)) (sym vnodes) ∙ ap (λ (ts : Table ℕ). stored_by new (all_seen (table_of xs)) ts) (sym times)

-- ---- what is restored

none_all : (anew : Bool) (o : Option (Table Timed)) → AreAll anew None o → o ≡ None
unfolding AreAll
none_all anew None all = refl
none_all anew (Some t) all = absurd all

pub none_restored : (id : ℕ) (s : Stored) (d : Dump) (anew : Bool) → AreAll anew None (restored_vnodes d.live d.images s) → restored id s d ≡ None
none_restored id s d anew all = ap (allowed_with id s d) (none_all anew (restored_vnodes d.live d.images s) all)

record IsTable (anew : Bool) (xs : List Image) (o : Option (Table Timed)) : Type 0 where
  pub table : Table Timed
  pub is : o ≡ Some table
  pub vnodes : all_seen (table_of xs) ≡ vnodes_in anew table
  pub times : taking.times_in (table_of xs) ≡ restores.times_in table

some_all : (anew : Bool) (xs : List Image) (o : Option (Table Timed)) → AreAll anew (Some xs) o → IsTable anew xs o
unfolding AreAll
some_all anew xs None all = absurd all
some_all anew xs (Some t) all = record { table = t; is = refl; vnodes = all.0; times = all.1 }

some_restored : (id : ℕ) (head : VolumeHead) (old : Table Image) (p : Parts) (xs : List Image) →
    AreAll (is_other_family id (taking.stored_with head old) (dump_in p)) (Some xs) (restored_vnodes p.live.items p.images.items (taking.stored_with head old)) →
    restored id (taking.stored_with head old) (dump_in p) ≡ allowed (taking.stored_with (head_with head p.headers.told) (table_of xs))
some_restored id head old p xs all =
    let s : Stored = taking.stored_with head old in
    let t = some_all (is_other_family id s (dump_in p)) xs (restored_vnodes p.live.items p.images.items s) all in
    ap (allowed_with id s (dump_in p)) t.is ∙ ap allowed (same_stored id head old p xs t.table t.vnodes t.times)

-- ---- the parts of a volume

all_reads : (ps : List (ℕ × ℕ)) (xs : List Image) → AreMade ps xs → are_read (table_of xs) ≡ true
all_reads [] [] all = refl
all_reads [] (x ∷ xs) all = absurd all
all_reads (p ∷ ps) [] all = absurd all
all_reads (p ∷ ps) (x ∷ xs) all = rw (readable_kind (kind_seen x.kind) x refl all.0.readable) (all_reads ps xs all.1)

not_sound : (head : VolumeHead) (ps : List (ℕ × ℕ)) (xs : List Image) → AreMade ps xs → make_volume head (table_of xs) ≡ false → is_sound (volume_seen head (table_of xs)) ≡ false
not_sound head ps xs all refused =
    sym (ap (λ (b : Bool). b && is_sound (volume_seen head (table_of xs))) (all_read (table_of xs) ∙ all_reads ps xs all)) ∙ refused

same_many : (t : Table Image) → length (all_seen t) ≡ length t
unfolding all_seen
same_many [] = refl
same_many (p ∷ ps) = ap (λ (n : ℕ). suc n) (same_many ps)

same_length : (xs : List Image) → length (table_of xs) ≡ length xs
same_length [] = refl
same_length (x ∷ xs) = ap (λ (n : ℕ). suc n) (same_length xs)

few_vnodes : (ps : List (ℕ × ℕ)) (xs : List Image) → IsList ps → AreMade ps xs → length (all_seen (table_of xs)) ≤ most_vnodes
few_vnodes ps xs list all =
    let many = same_many (table_of xs) in
    let same = same_length xs in
    let made = made_few ps xs all in
    let few = list.few in
    omega (arith, many, same, made, few)

-- ---- the volume

-- it is filled in as the dump says
pub filled_is : (id : ℕ) (head : VolumeHead) (old : Table Image) (p : Parts) → FitsDump (dump_in p) →
    AreAll (is_other_family id (taking.stored_with head old) (dump_in p)) (filled (is_other_family id (taking.stored_with head old) (dump_in p)) old p.live.items (given_in p.live.items p.images.items))
    (restored_vnodes p.live.items p.images.items (taking.stored_with head old))
filled_is id head old p fits =
    let anew : Bool = is_other_family id (taking.stored_with head old) (dump_in p) in
    let s : Stored = taking.stored_with head old in
    let same : given_by p.live.items p.images.items ≡ given_in p.live.items p.images.items = sym (dump_given (dump_in p) fits) in
    subst (λ (os : List (Option Image)). AreAll anew (filled anew old p.live.items os) (restored_vnodes p.live.items p.images.items s)) same
    (all_filled anew old p.images.items s p.live.items (record { vnodes = refl; times = refl }) (subst (λ (os : List (Option Image)). ImagesAreGood p.live.items os) (sym same) (dump_good (dump_in p) fits)))

pub volume_is : (id : ℕ) (head : VolumeHead) (old : Table Image) (p : Parts) (xs : List Image) → IsList p.live.items → AreMade p.live.items xs →
    AreAll (is_other_family id (taking.stored_with head old) (dump_in p)) (Some xs) (restored_vnodes p.live.items p.images.items (taking.stored_with head old)) →
    is_sound (volume_seen (head_with head p.headers.told) (table_of xs)) ≡ true →
    restored id (taking.stored_with head old) (dump_in p) ≡ Some (taking.stored_with (head_with head p.headers.told) (table_of xs))
volume_is id head old p xs list made all sound =
    some_restored id head old p xs all ∙ allowed_is (taking.stored_with (head_with head p.headers.told) (table_of xs)) (few_vnodes p.live.items xs list made) sound

pub no_volume : (id : ℕ) (head : VolumeHead) (old : Table Image) (p : Parts) (xs : List Image) → AreMade p.live.items xs →
    AreAll (is_other_family id (taking.stored_with head old) (dump_in p)) (Some xs) (restored_vnodes p.live.items p.images.items (taking.stored_with head old)) →
    make_volume (head_with head p.headers.told) (table_of xs) ≡ false →
    restored id (taking.stored_with head old) (dump_in p) ≡ None
no_volume id head old p xs made all refused =
    some_restored id head old p xs all
    ∙ refused_is (taking.stored_with (head_with head p.headers.told) (table_of xs)) (not_sound (head_with head p.headers.told) p.live.items xs made refused)

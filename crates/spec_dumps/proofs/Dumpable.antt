-- The dump of a volume has a spelling, and its bytes give the volume.
use Rattle.std.proofs.Common.{◌≡◌, ℕ, suc, ◌+◌, ◌%◌, ◌<◌, ◌≤◌, ◌^◌, Bool, true, false, cond, List, [], ◌∷◌, length, filter, Some, None, nat_eq, nat_lt, refl, sym, ap, subst, ◌∙◌, arith, lit<, le-ltb, eq-eqb}
use Rattle.std.specs.Prelude.{not, ◌==◌}
use Rattle.std.proofs.lemmas.Bool.Decides.{nat_tests}
use Rattle.spec_ideal.specs.Images.{Image, image_of, acl_by, HasImage}
use Rattle.spec_ideal.specs.Soundness.{HasByKind, KindFits}
use Rattle.spec_ideal.specs.Tables.{Table, get, AscendsFrom}
use Rattle.spec_ideal.specs.VnodeImage.{kind_fits}
use Rattle.spec_ideal.specs.VnodeMaps.{most_vnodes}
use Rattle.spec_ideal.specs.Volumes.{VnodeKind, a_file, a_directory, a_link, type_of, bytes_by, Vnode}
use Rattle.spec_ideal.proofs.Tables.{get_below, ascends_lower}
use Rattle.spec_ideal.proofs.AccessLists.{acl_again}
use Rattle.spec_ideal.proofs.DirectoryBytes.{spelled_is_read}
use Rattle.spec_records.specs.Durable.{Stored, or_zero}
use Rattle.spec_dumps.specs.Dumps.{live_in, is_since, timed_images, headers_of, dump_of}
use Rattle.spec_dumps.specs.Streams.{dump_header_field, volume_header_field, headers_field, live_field, FitPairs, image_field, is_good_acl, are_good_contents, FitsEither, FitImages, dump_field, dump_bytes}
use Rattle.spec_dumps.specs.Restores.{made_or, finished_by, restored_from}
use Rattle.spec_dumps.specs.Laws.{DumpsFit, DumpsFinish, IsDumpInWords}
use Rattle.spec_dumps.proofs.Streams.{dump_again}
use Rattle.spec_dumps.proofs.Restoring.{restored_is}

here : {A : Type 0} (p : ℕ × A) (ps : Table A) → get p.0 (p ∷ ps) ≡ Some p.1
here {A} p ps = grind (arith, nat_tests)

later : (k : ℕ) (x : Vnode) (p : ℕ × Vnode) (ps : Table Vnode) (b : Bool) → nat_eq p.0 k ≡ b → AscendsFrom (p.0 + 1) ps → get k ps ≡ Some x → get k (p ∷ ps) ≡ Some x
later k x p ps true is up e = let z : None ≡ Some x = sym (get_below (p.0 + 1) k ps (grind (arith, nat_tests, is)) up) ∙ e in absurd cc
later k x p ps false is up e = rw is e

-- ---- kinds

type_small : (k : VnodeKind) → type_of k < 2 ^ 32
type_small a_file = lit< tt
type_small a_directory = lit< tt
type_small a_link = lit< tt

fitting : (n : ℕ) (k : VnodeKind) (b : Bool) → (n % 2 == 1) ≡ b → KindFits n k → kind_fits n (type_of k) ≡ true
unfolding kind_fits
fitting n a_directory true is h = rw is refl
fitting n a_directory false is h = let odd : n % 2 ≡ 1 = h.0 refl in absurd (grind (arith, nat_tests, is, odd))
fitting n a_file true is h = let no : false ≡ true = h.1 (grind (arith, nat_tests, is)) in absurd cc
fitting n a_file false is h = rw is refl
fitting n a_link true is h = let no : false ≡ true = h.1 (grind (arith, nat_tests, is)) in absurd cc
fitting n a_link false is h = rw is refl

-- ---- the list

none_below : (n least : ℕ) → least ≤ n → not (nat_lt n least) ≡ true
none_below n least le = rw (le-ltb n least le) refl

pairs_fit : (least : ℕ) (t : Table Vnode) → AscendsFrom least t → ((n : ℕ) (x : Vnode) → get n t ≡ Some x → (n < 2 ^ 32) × (x.unique < 2 ^ 32)) → FitPairs (length (live_in t)) least (live_in t)
pairs_fit least [] up h = tt
pairs_fit least (p ∷ ps) up h =
    let own = h p.0 p.1 (here p ps) in
    (((own.0, none_below p.0 least up.0), own.1), pairs_fit (p.0 + 1) ps up.1 (λ n x e. h n x (later n x p ps (nat_eq p.0 n) refl up.1 e)))

-- ---- an image

acl_good : (k : VnodeKind) (x : Vnode) → HasByKind k x → is_good_acl (type_of k) (acl_by k x) ≡ true
acl_good a_file x h = refl
acl_good a_link x h = refl
acl_good a_directory x h = rw (acl_again x.acl h.acl) refl

contents_good : (k : VnodeKind) (x : Vnode) → HasByKind k x → HasImage x → are_good_contents (type_of k) (bytes_by k x) ≡ true
contents_good a_file x h g = refl
contents_good a_link x h g = refl
contents_good a_directory x h g = rw (spelled_is_read x.names h.names g.names) refl

-- what an image of this vnode needs
record Needs (n time : ℕ) (x : Vnode) : Type 0 where
  small : n < 2 ^ 32
  now : time < 2 ^ 32
  kind : kind_fits n (type_of x.kind) ≡ true
  body : HasByKind x.kind x
  image : HasImage x

same_number : (n : ℕ) → nat_eq n n ≡ true
same_number n = eq-eqb n n refl

image_fits : (n time : ℕ) (x : Vnode) → Needs n time x → (image_field (n, x.unique)).Fits (image_of n time x)
unfolding image_field
image_fits n time x h =
    let w = h.image.words in (
      (
        ((h.small, same_number n), ((w 0 x.unique (lit< tt), same_number x.unique), ((type_small x.kind, h.kind), (w 1 x.index (lit< tt), (w 2 x.data_version (lit< tt), (w 3 x.links (lit< tt), (w 4 x.owner (lit< tt), (w 5 x.group (lit< tt), (w 6 x.mode (lit< tt), (w 7 x.segment_size (lit< tt), (w 8 x.client_time (lit< tt), (h.now, (w 9 x.parent (lit< tt), (w 10 x.parent_unique (lit< tt), w 11 x.changed (lit< tt))))))))))))))),
        (((h.image.acl, few_acl (length (acl_by x.kind x)) h.image.acl), acl_good x.kind x h.body), ((h.image.contents, few_contents (length (bytes_by x.kind x)) h.image.contents), contents_good x.kind x h.body h.image)),
      ),
      refl,
    )
  where
    few_acl : (n : ℕ) → n ≤ 1024 → n < 2 ^ 32
    few_acl n le = omega (arith, le)

    few_contents : (n : ℕ) → n ≤ 2097152 → n < 2 ^ 32
    few_contents n le = omega (arith, le)

-- ---- the images

other_by : (b : Bool) (i : Image) (k m : ℕ) (here' later' : Type 0) → nat_eq i.vnode m ≡ b → k < m → (later' → nat_eq i.vnode k ≡ false) → FitsEither b here' later' → nat_eq i.vnode k ≡ false
other_by true i k m here' later' is lt h fits = grind (arith, nat_tests, is, lt)
other_by false i k m here' later' is lt h fits = h fits

other_number : (k : ℕ) (t : Table Vnode) (i : Image) (is : List Image) → AscendsFrom (k + 1) t → FitImages (live_in t) (i ∷ is) → nat_eq i.vnode k ≡ false
other_number k [] i is up fits = absurd fits
other_number k (p ∷ ps) i is up fits =
    other_by (nat_eq i.vnode p.0) i k p.0 _ _ refl (let le : k + 1 ≤ p.0 = up.0 in omega (arith, le)) (λ f. other_number k ps i is (ascends_lower (k + 1) (p.0 + 1) ps (let le : k + 1 ≤ p.0 = up.0 in omega (arith, le)) up.1) f) fits

skips_one : (p : ℕ × Vnode) (ps : Table Vnode) (is : List Image) → AscendsFrom (p.0 + 1) ps → FitImages (live_in ps) is → FitImages (live_in (p ∷ ps)) is
skips_one p ps [] up fits = tt
skips_one p ps (i ∷ is) up fits =
    subst (λ (b : Bool). FitsEither b ((image_field (p.0, p.1.unique)).Fits i × FitImages (live_in ps) is) (FitImages (live_in ps) (i ∷ is))) (sym (other_number p.0 ps i is up fits)) fits

images_step : (b : Bool) (from : ℕ) (times : Table ℕ) (p : ℕ × Vnode) (ps : Table Vnode) → AscendsFrom (p.0 + 1) ps → Needs p.0 (or_zero (get p.0 times)) p.1 → FitImages (live_in ps) (timed_images times (filter (is_since from) ps)) →
    FitImages (live_in (p ∷ ps)) (timed_images times (cond b (p ∷ filter (is_since from) ps) (filter (is_since from) ps)))
images_step true from times p ps up needs fits =
    subst (λ (b : Bool). FitsEither b ((image_field (p.0, p.1.unique)).Fits (image_of p.0 (or_zero (get p.0 times)) p.1) × FitImages (live_in ps) (timed_images times (filter (is_since from) ps))) (FitImages (live_in ps) (image_of p.0 (or_zero (get p.0 times)) p.1 ∷ timed_images times (filter (is_since from) ps)))) (sym (same_number p.0))
    (image_fits p.0 (or_zero (get p.0 times)) p.1 needs, fits)
images_step false from times p ps up needs fits = skips_one p ps (timed_images times (filter (is_since from) ps)) up fits

images_fit : (from least : ℕ) (times : Table ℕ) (t : Table Vnode) → AscendsFrom least t → ((n : ℕ) (x : Vnode) → get n t ≡ Some x → Needs n (or_zero (get n times)) x) → FitImages (live_in t) (timed_images times (filter (is_since from) t))
images_fit from least times [] up h = tt
images_fit from least times (p ∷ ps) up h =
    images_step (nat_lt from p.1.changed) from times p ps up.1 (h p.0 p.1 (here p ps))
    (images_fit from (p.0 + 1) times ps up.1 (λ n x e. h n x (later n x p ps (nat_eq p.0 n) refl up.1 e)))

-- ---- the whole

same_count : (t : Table Vnode) → length (live_in t) ≡ length t
same_count [] = refl
same_count (p ∷ ps) = ap suc (same_count ps)

lower : (t : Table Vnode) → AscendsFrom 1 t → AscendsFrom 0 t
lower t up = ascends_lower 0 1 t (omega arith) up

headers_fit : (id from : ℕ) (s : Stored) → IsDumpInWords id from s → headers_field.Fits (headers_of id from s.volume)
unfolding dump_header_field volume_header_field
headers_fit id from s small =
    let w = small.headers in (
      (
        ((lit< tt, ((lit< tt, ((lit< tt, ((w 0 id (lit< tt), ((small.name, omega (arith, small.name)), w 1 from (lit< tt))), refl)), refl)), refl)), refl),
        ((lit< tt, ((w 0 id (lit< tt), (w 2 s.volume.family (lit< tt), (w 3 s.volume.kind (lit< tt), (w 4 s.volume.quota (lit< tt), (w 5 s.volume.next (lit< tt), (w 6 s.volume.counter (lit< tt), w 7 s.volume.release (lit< tt))))))), refl)), refl),
      ),
      refl,
    )

live_fits : (t : Table Vnode) → length t ≤ most_vnodes → FitPairs (length (live_in t)) 0 (live_in t) → live_field.Fits (live_in t)
unfolding live_field
live_fits t few pairs =
    let le : length (live_in t) ≤ most_vnodes = omega (arith, same_count t, few) in
    (((omega (arith, le), none_below most_vnodes (length (live_in t)) le), pairs), refl)

pub dump_fits : DumpsFit
unfolding dump_field
dump_fits id from s can small =
    let t : Table Vnode = s.volume.vnodes in
    let needs : (n : ℕ) (x : Vnode) → get n t ≡ Some x → Needs n (or_zero (get n s.times)) x = λ n x e. record {
      small = small.numbers n x e;
      now = small.times n;
      kind = fitting n x.kind (n % 2 == 1) refl (can.sound.vnodes n x e).kind;
      body = (can.sound.vnodes n x e).body;
      image = can.images n x e;
    } in
    let pairs : FitPairs (length (live_in t)) 0 (live_in t) = pairs_fit 0 t (lower t can.sound.ascending) (λ n x e. (small.numbers n x e, (can.images n x e).words 0 x.unique (lit< tt))) in
    ((headers_fit id from s small, ((live_fits t can.few pairs, images_fit from 1 s.times t can.sound.ascending needs), lit< tt)), refl)

pub dump_finishes : DumpsFinish
unfolding restored_from
dump_finishes id source from s t can small holds =
    ap (finished_by id t (dump_bytes (dump_of source from s))) (dump_again (dump_of source from s) (dump_fits source from s can small))
    ∙ ap (made_or _) (restored_is id source from s t can holds)

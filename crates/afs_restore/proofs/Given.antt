-- The images of a dump stand in the order of its list, and are good.
use Rattle.std.proofs.Common.{◌≡◌, ℕ, zero, suc, ◌+◌, ◌<◌, ◌≤◌, Bool, true, false, cond, List, [], ◌∷◌, length, map, Option, Some, None, nat_eq, refl, sym, ap, subst, ◌∙◌, arith}
use Rattle.std.proofs.lemmas.Bool.{eqb-true}
use Rattle.std.proofs.lemmas.Bool.Decides.{nat_tests}
use Rattle.spec_ideal.specs.Images.{Image}
use Rattle.spec_ideal.specs.Tables.{AscendsFrom}
use Rattle.spec_ideal.specs.VnodeImage.{kind_fits}
use Rattle.spec_dumps.specs.Dumps.{Dump}
use Rattle.spec_dumps.specs.Restores.{image_in}
use Rattle.spec_dumps.specs.Streams.{dump_field, image_field, live_field, FitImages, FitPairs, FitsDump, FitsEither}
use Rattle.afs_restore.specs.Filling.{given_in, next_given, ImagesAreGood, ImageIsGood, IsGoodWhere, IsList}

-- the image of each vnode of the list, by its number
abbrev pub given_by : List (ℕ × ℕ) → List Image → List (Option Image)
given_by ps is = map (λ (p : ℕ × ℕ). image_in p.0 is) ps

-- ---- the list

fit_ascend : (n least : ℕ) (ps : List (ℕ × ℕ)) → FitPairs n least ps → AscendsFrom least ps
fit_ascend zero least [] fits = tt
fit_ascend zero least (p ∷ ps) fits = absurd fits
fit_ascend (suc n) least [] fits = absurd fits
fit_ascend (suc n) least (p ∷ ps) fits = (let some = fits.0.0.1 in grind (arith, nat_tests, some), fit_ascend n (p.0 + 1) ps fits.1)

pub dump_list : (d : Dump) → FitsDump d → IsList d.live
unfolding dump_field live_field
dump_list d fits = record {
  ascends = fit_ascend (length d.live) 0 d.live fits.0.1.0.0.0.1;
  few = let few = fits.0.1.0.0.0.0.1 in grind (arith, nat_tests, few);
}

dump_images : (d : Dump) → FitsDump d → FitImages d.live d.images
unfolding dump_field live_field
dump_images d fits = fits.0.1.0.1

-- ---- the images

image_good : (p : ℕ × ℕ) (i : Image) → (image_field p).Fits i → ImageIsGood p i
unfolding image_field
image_good p i fits =
    let number : i.vnode ≡ p.0 = eqb-true i.vnode p.0 fits.0.0.0.1 in
    record {
      number = number;
      kind = subst (λ (n : ℕ). kind_fits n i.kind ≡ true) (sym number) fits.0.0.1.1.0.1;
      acl = fits.0.1.0.1;
      contents = fits.0.1.1.1;
      fits = record { acl = fits.0.1.0.0.0; contents = fits.0.1.1.0.0 };
    }

no_images : (ps : List (ℕ × ℕ)) → FitImages ps []
no_images [] = tt
no_images (p ∷ ps) = tt

next_by : Bool → Image → List Image → Option Image × List Image
next_by b i is = cond b (Some i, is) (None, i ∷ is)

good_by : (b : Bool) (p : ℕ × ℕ) (ps : List (ℕ × ℕ)) (i : Image) (is : List Image) → FitsEither b ((image_field p).Fits i × FitImages ps is) (FitImages ps (i ∷ is)) →
    (FitImages ps is → ImagesAreGood ps (given_in ps is)) → (FitImages ps (i ∷ is) → ImagesAreGood ps (given_in ps (i ∷ is))) → IsGoodWhere p (next_by b i is).0 × ImagesAreGood ps (given_in ps (next_by b i is).1)
unfolding next_by
good_by true p ps i is fits own other = (image_good p i fits.0, own fits.1)
good_by false p ps i is fits own other = (tt, other fits)

all_good : (ps : List (ℕ × ℕ)) (is : List Image) → FitImages ps is → ImagesAreGood ps (given_in ps is)
unfolding next_by
all_good [] [] fits = tt
all_good [] (i ∷ is) fits = absurd fits
all_good (p ∷ ps) [] fits = (tt, all_good ps [] (no_images ps))
all_good (p ∷ ps) (i ∷ is) fits = good_by (nat_eq i.vnode p.0) p ps i is fits (all_good ps is) (all_good ps (i ∷ is))

-- ---- by number

low_by : (b : Bool) (n : ℕ) (p : ℕ × ℕ) (ps : List (ℕ × ℕ)) (i : Image) (is : List Image) → n < p.0 → FitsEither b ((image_field p).Fits i × FitImages ps is) (FitImages ps (i ∷ is)) → (FitImages ps is → image_in n is ≡ None) →
    (FitImages ps (i ∷ is) → image_in n (i ∷ is) ≡ None) → image_in n (i ∷ is) ≡ None
low_by true n p ps i is lt fits own other =
    let number = (image_good p i fits.0).number in
    let test : nat_eq i.vnode n ≡ false = grind (arith, nat_tests, number, lt) in
    rw test (own fits.1)
low_by false n p ps i is lt fits own other = other fits

none_low : (n m : ℕ) (ps : List (ℕ × ℕ)) (is : List Image) → n < m → AscendsFrom m ps → FitImages ps is → image_in n is ≡ None
none_low n m ps [] lt up fits = refl
none_low n m [] (i ∷ is) lt up fits = absurd fits
none_low n m (p ∷ ps) (i ∷ is) lt up fits =
    let le : m ≤ p.0 = up.0 in
    low_by (nat_eq i.vnode p.0) n p ps i is (omega (arith, lt, le)) fits (none_low n (p.0 + 1) ps is (omega (arith, lt, le)) up.1) (none_low n (p.0 + 1) ps (i ∷ is) (omega (arith, lt, le)) up.1)

-- an image of another vnode changes nothing for these
others_same : (m : ℕ) (ps : List (ℕ × ℕ)) (i : Image) (is : List Image) → i.vnode < m → AscendsFrom m ps → given_by ps (i ∷ is) ≡ given_by ps is
others_same m [] i is lt up = refl
others_same m (p ∷ ps) i is lt up =
    let le : m ≤ p.0 = up.0 in
    let other : nat_eq i.vnode p.0 ≡ false = grind (arith, nat_tests, lt, le) in
    rw other (ap (λ (os : List (Option Image)). image_in p.0 is ∷ os) (others_same (p.0 + 1) ps i is (omega (arith, lt, le)) up.1))

own_first : (p : ℕ × ℕ) (ps : List (ℕ × ℕ)) (i : Image) (is : List Image) → i.vnode ≡ p.0 → AscendsFrom (p.0 + 1) ps → given_by (p ∷ ps) (i ∷ is) ≡ Some i ∷ given_by ps is
own_first p ps i is number up =
    let same : nat_eq i.vnode p.0 ≡ true = grind (arith, nat_tests, number) in
    rw same (ap (λ (os : List (Option Image)). Some i ∷ os) (others_same (p.0 + 1) ps i is (omega (arith, number)) up))

is_by : (b : Bool) (p : ℕ × ℕ) (ps : List (ℕ × ℕ)) (i : Image) (is : List Image) → nat_eq i.vnode p.0 ≡ b → AscendsFrom (p.0 + 1) ps → FitsEither b ((image_field p).Fits i × FitImages ps is) (FitImages ps (i ∷ is)) →
    (FitImages ps is → given_in ps is ≡ given_by ps is) → (FitImages ps (i ∷ is) → given_in ps (i ∷ is) ≡ given_by ps (i ∷ is)) →
    (next_by b i is).0 ∷ given_in ps (next_by b i is).1 ≡ given_by (p ∷ ps) (i ∷ is)
unfolding next_by
is_by true p ps i is test up fits own other = ap (λ (os : List (Option Image)). Some i ∷ os) (own fits.1) ∙ sym (own_first p ps i is (eqb-true i.vnode p.0 test) up)
is_by false p ps i is test up fits own other =
    ap (λ (os : List (Option Image)). None ∷ os) (other fits) ∙ ap (λ (o : Option Image). o ∷ given_by ps (i ∷ is)) (sym (none_low p.0 (p.0 + 1) ps (i ∷ is) (omega arith) up fits))

given_is : (m : ℕ) (ps : List (ℕ × ℕ)) (is : List Image) → AscendsFrom m ps → FitImages ps is → given_in ps is ≡ given_by ps is
unfolding next_by
given_is m [] is up fits = refl
given_is m (p ∷ ps) [] up fits = ap (λ (os : List (Option Image)). None ∷ os) (given_is (p.0 + 1) ps [] up.1 (no_images ps))
given_is m (p ∷ ps) (i ∷ is) up fits = is_by (nat_eq i.vnode p.0) p ps i is refl up.1 fits (given_is (p.0 + 1) ps is up.1) (given_is (p.0 + 1) ps (i ∷ is) up.1)

-- ---- those of a dump

pub dump_good : (d : Dump) → FitsDump d → ImagesAreGood d.live (given_in d.live d.images)
dump_good d fits = all_good d.live d.images (dump_images d fits)

pub dump_given : (d : Dump) → FitsDump d → given_in d.live d.images ≡ given_by d.live d.images
dump_given d fits = given_is 0 d.live d.images (dump_list d fits).ascends (dump_images d fits)

-- ---- as a loop has them

pub first_good : (ps qs : List (ℕ × ℕ)) (p : ℕ × ℕ) (is : List Image) → ps ≡ p ∷ qs → ImagesAreGood ps (given_in ps is) → IsGoodWhere p (next_given p is).0 × ImagesAreGood qs (given_in qs (next_given p is).1)
first_good ps qs p is here all = subst (λ (z : List (ℕ × ℕ)). ImagesAreGood z (given_in z is)) here all

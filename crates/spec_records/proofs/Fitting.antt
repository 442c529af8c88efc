-- The record of a change is within the limits of a record.
use Rattle.std.proofs.Common.{◌≡◌, ℕ, suc, ◌%◌, ◌<◌, ◌≤◌, ◌^◌, Bool, true, false, List, [], ◌∷◌, ◌++◌, length, Option, Some, None, refl, arith, lit<}
use Rattle.std.specs.Prelude.{◌==◌}
use Rattle.std.specs.List.{AllByRecursion}
use Rattle.std.proofs.lemmas.Bool.Decides.{nat_tests}
use Rattle.spec_ideal.specs.Tables.{get}
use Rattle.spec_ideal.specs.VnodeImage.{kind_fits}
use Rattle.spec_ideal.specs.Images.{Image, image_of, HasImage}
use Rattle.spec_ideal.specs.Volumes.{VnodeKind, a_file, a_directory, a_link, type_of, Vnode, Volume, Edit, edit_number, edited_all, counted}
use Rattle.spec_ideal.specs.Soundness.{KindFits}
use Rattle.afs_num.specs.declared.records.RecordHead.{RecordHead}
use Rattle.spec_records.specs.Forms.{HasImageForm}
use Rattle.spec_records.specs.Records.{head_form, FitsRecord}
use Rattle.spec_records.specs.Changes.{image_left, images_left, gone_between, numbers_gone, change_record}
use Rattle.spec_records.specs.Laws.{CanBeStored, IsInWords}

type_small : (k : VnodeKind) → type_of k < 2 ^ 32
type_small a_file = lit< tt
type_small a_directory = lit< tt
type_small a_link = lit< tt

fitting : (n : ℕ) (k : VnodeKind) (b : Bool) → (n % 2 == 1) ≡ b → KindFits n k → kind_fits n (type_of k) ≡ true
unfolding kind_fits
fitting n a_directory true is h = rw is refl
fitting n a_directory false is h = let odd : n % 2 ≡ 1 = h.0 refl in absurd (grind (arith, nat_tests, is, odd))
fitting n a_file true is h = let no : false ≡ true = h.1 (grind (arith, nat_tests, is)) in absurd cc
fitting n a_file false is h = rw is refl
fitting n a_link true is h = let no : false ≡ true = h.1 (grind (arith, nat_tests, is)) in absurd cc
fitting n a_link false is h = rw is refl

image_fits : (n time : ℕ) (x : Vnode) → n < 2 ^ 32 → time < 2 ^ 32 → KindFits n x.kind → HasImage x → HasImageForm (image_of n time x)
image_fits n time x small now kind h =
    record {
      limits = record { acl = h.acl; contents = h.contents };
      words =
          (small, (h.words 0 x.unique (lit< tt), (type_small x.kind, (h.words 1 x.index (lit< tt), (h.words 2 x.data_version (lit< tt), (h.words 3 x.links (lit< tt), (h.words 4 x.owner (lit< tt), (h.words 5 x.group (lit< tt), (h.words 6 x.mode (lit< tt), (h.words 7 x.segment_size (lit< tt), (h.words 8 x.client_time (lit< tt), (now, (h.words 9 x.parent (lit< tt), (h.words 10 x.parent_unique (lit< tt), (h.words 11 x.changed (lit< tt), tt)))))))))))))));
      kind = fitting n x.kind (n % 2 == 1) refl kind;
    }

one_left : (time n : ℕ) (o : Option Vnode) (is : List Image) → ((x : Vnode) → o ≡ Some x → HasImageForm (image_of n time x)) → AllByRecursion HasImageForm is → AllByRecursion HasImageForm (image_left time n o ++ is)
one_left time n None is h all = all
one_left time n (Some x) is h all = (h x refl, all)

all_left : (time : ℕ) (es : List Edit) (after : Volume) → ((n : ℕ) (x : Vnode) → get n after.vnodes ≡ Some x → HasImageForm (image_of n time x)) → AllByRecursion HasImageForm (images_left time es after)
all_left time [] after h = tt
all_left time (e ∷ es) after h = one_left time (edit_number e) (get (edit_number e) after.vnodes) (images_left time es after) (h (edit_number e)) (all_left time es after h)

few_one : (time n m : ℕ) (o : Option Vnode) (is : List Image) → length is ≤ m → length (image_left time n o ++ is) ≤ suc m
few_one time n m None is h = omega (arith, h)
few_one time n m (Some x) is h = omega (arith, h)

few_left : (time : ℕ) (es : List Edit) (after : Volume) → length (images_left time es after) ≤ length es
few_left time [] after = omega arith
few_left time (e ∷ es) after = few_one time (edit_number e) (length es) (get (edit_number e) after.vnodes) (images_left time es after) (few_left time es after)

one_gone : (n : ℕ) (b a : Option Vnode) (ns : List ℕ) → ((x : Vnode) → b ≡ Some x → n < 2 ^ 32) → AllByRecursion (λ m. m < 2 ^ 32) ns → AllByRecursion (λ m. m < 2 ^ 32) (gone_between n b a ++ ns)
one_gone n (Some x) None ns h all = (h x refl, all)
one_gone n (Some x) (Some y) ns h all = all
one_gone n None None ns h all = all
one_gone n None (Some y) ns h all = all

all_gone : (es : List Edit) (before after : Volume) → ((n : ℕ) (x : Vnode) → get n before.vnodes ≡ Some x → n < 2 ^ 32) → AllByRecursion (λ m. m < 2 ^ 32) (numbers_gone es before after)
all_gone [] before after h = tt
all_gone (e ∷ es) before after h = one_gone (edit_number e) (get (edit_number e) before.vnodes) (get (edit_number e) after.vnodes) (numbers_gone es before after) (h (edit_number e)) (all_gone es before after h)

gone_few : (n m : ℕ) (b a : Option Vnode) (ns : List ℕ) → length ns ≤ m → length (gone_between n b a ++ ns) ≤ suc m
gone_few n m (Some x) None ns h = omega (arith, h)
gone_few n m (Some x) (Some y) ns h = omega (arith, h)
gone_few n m None None ns h = omega (arith, h)
gone_few n m None (Some y) ns h = omega (arith, h)

few_gone : (es : List Edit) (before after : Volume) → length (numbers_gone es before after) ≤ length es
few_gone [] before after = omega arith
few_gone (e ∷ es) before after = gone_few (edit_number e) (length es) (get (edit_number e) before.vnodes) (get (edit_number e) after.vnodes) (numbers_gone es before after) (few_gone es before after)

pub change_fits : (head : RecordHead) (id time : ℕ) (es : List Edit) (v : Volume) → head_form.Fits head → CanBeStored id es v → IsInWords id time es v (counted (edited_all id es v)) → FitsRecord (change_record head id time es v)
change_fits head id time es v fits can small =
    let after = counted (edited_all id es v) in
    let images : AllByRecursion HasImageForm (images_left time es after) =
    all_left time es after (λ n x e. image_fits n time x (small.left n x e) small.clock (can.sound.vnodes n x e).kind (can.images n x e)) in
    record {
      head = fits;
      body = (small.volume, (small.counter, (small.unique, ((omega (arith, few_left time es after, small.edits), images), ((omega (arith, few_gone es v after, small.edits), all_gone es v after small.gone), tt)))));
      caller = refl;
    }

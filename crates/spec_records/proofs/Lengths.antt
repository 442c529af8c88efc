-- How long records are.
use Rattle.std.proofs.Common.{◌≡◌, ℕ, ◌+◌, ◌*◌, List, [], ◌∷◌, ◌++◌, length, replicate, suc, Option, Some, None, refl, sym, ap, ◌∙◌, arith}
use Rattle.std.specs.List.{flat_map}
use Rattle.std.proofs.lemmas.List.{length-append}
use Rattle.std.proofs.lemmas.List.Concat.{flat_map-cons}
use Rattle.afs_xdr.specs.Words.{word, words, opaque, pad, pad_length}
use Rattle.spec_ideal.specs.Tables.{get}
use Rattle.spec_ideal.specs.VnodeImage.{image, image_words}
use Rattle.spec_ideal.specs.Images.{Image, image_of}
use Rattle.spec_ideal.specs.Volumes as volumes
use Rattle.spec_ideal.specs.Volumes.{Volume, Edit, edit_number, edited_all, counted}
use Rattle.afs_num.specs.declared.records.RecordHead.{RecordHead}
use Rattle.spec_records.specs.Records.{caller_number, head_form, record_bytes}
use Rattle.spec_records.specs.Changes.{image_left, images_left, change_record}

joined : (a b c d : List ℕ) → length a ≡ length c → length b ≡ length d → length (a ++ b) ≡ length (c ++ d)
joined a b c d p q = length-append a b ∙ (ap (λ (n : ℕ). n + length b) p ∙ (ap (λ (n : ℕ). length c + n) q ∙ sym (length-append c d)))

length_words : (ns : List ℕ) → length (words ns) ≡ 4 * length ns
unfolding word
length_words [] = refl
length_words (n ∷ ns) = ap length (flat_map-cons word n ns) ∙ (length-append (word n) (words ns) ∙ omega (arith, length_words ns))

word_long : (m n : ℕ) → length (word m) ≡ length (word n)
unfolding word
word_long m n = refl

abbrev zeros : ℕ → List ℕ
zeros n = replicate (pad_length n) 0

opaque_long : (a b : List ℕ) → length a ≡ length b → length (opaque a) ≡ length (opaque b)
unfolding opaque pad
opaque_long a b e =
    joined (word (length a)) (a ++ zeros (length a)) (word (length b)) (b ++ zeros (length b)) (word_long (length a) (length b))
    (joined a (zeros (length a)) b (zeros (length b)) e (ap (λ (n : ℕ). length (zeros n)) e))

head_long : (h g : RecordHead) → length h.reply ≡ length g.reply → length (head_form.spelled h) ≡ length (head_form.spelled g)
unfolding head_form
head_long h g e =
    joined (word h.family) _ (word g.family) _ (word_long h.family g.family)
    (joined (word h.stamp) _ (word g.stamp) _ (word_long h.stamp g.stamp)
    (joined (word (caller_number h.caller)) _ (word (caller_number g.caller)) _ (word_long (caller_number h.caller) (caller_number g.caller))
    (joined (word h.epoch) _ (word g.epoch) _ (word_long h.epoch g.epoch)
    (joined (word h.number) _ (word g.number) _ (word_long h.number g.number) (opaque_long h.reply g.reply e)))))

image_long : (n time later : ℕ) (x : volumes.Vnode) → length (image (image_of n time x)) ≡ length (image (image_of n later x))
unfolding image
image_long n time later x =
    joined (words (image_words (image_of n time x))) (opaque (image_of n time x).acl ++ opaque (image_of n time x).contents) (words (image_words (image_of n later x))) (opaque (image_of n later x).acl ++ opaque (image_of n later x).contents)
    (length_words (image_words (image_of n time x)) ∙ sym (length_words (image_words (image_of n later x)))) refl

abbrev spelled : List Image → List ℕ
spelled is = flat_map image is

images_by : (n time later : ℕ) (o : Option volumes.Vnode) (is js : List Image) → length is ≡ length js → length (spelled is) ≡ length (spelled js) →
    (length (image_left time n o ++ is) ≡ length (image_left later n o ++ js)) × (length (spelled (image_left time n o ++ is)) ≡ length (spelled (image_left later n o ++ js)))
images_by n time later None is js p q = (p, q)
images_by n time later (Some x) is js p q =
    (ap (λ (k : ℕ). suc k) p, ap length (flat_map-cons image (image_of n time x) is) ∙ (joined (image (image_of n time x)) (spelled is) (image (image_of n later x)) (spelled js) (image_long n time later x) q ∙ ap length (sym (flat_map-cons image (image_of n later x) js))))

images_long : (time later : ℕ) (es : List Edit) (after : Volume) → (length (images_left time es after) ≡ length (images_left later es after)) × (length (spelled (images_left time es after)) ≡ length (spelled (images_left later es after)))
images_long time later [] after = (refl, refl)
images_long time later (e ∷ es) after =
    let rest = images_long time later es after in
    images_by (edit_number e) time later (get (edit_number e) after.vnodes) (images_left time es after) (images_left later es after) rest.0 rest.1

pub change_long : (head other : RecordHead) (id time later : ℕ) (es : List Edit) (v : Volume) → length head.reply ≡ length other.reply →
    length (record_bytes (change_record head id time es v)) ≡ length (record_bytes (change_record other id later es v))
unfolding record_bytes
change_long head other id time later es v e =
    let after = counted (edited_all id es v) in
    let images = images_long time later es after in
    joined (word 2) _ (word 2) _ refl
    (joined (head_form.spelled head) _ (head_form.spelled other) _ (head_long head other e)
    (joined (word id) _ (word id) _ refl
    (joined (word after.counter) _ (word after.counter) _ refl
    (joined (word after.next) _ (word after.next) _ refl
    (joined (word (length (images_left time es after)) ++ spelled (images_left time es after)) _ (word (length (images_left later es after)) ++ spelled (images_left later es after)) _
    (joined (word (length (images_left time es after))) _ (word (length (images_left later es after))) _ (word_long (length (images_left time es after)) (length (images_left later es after))) images.1) refl)))))

-- A dump is read as what it was spelled from, and only so; bytes that were refused stay refused.
use Rattle.std.proofs.Common.{◌≡◌, ℕ, zero, suc, ◌+◌, ◌-◌, ◌<◌, ◌^◌, Bool, true, false, not, cond, List, [], ◌∷◌, ◌++◌, length, Option, Some, None, refl, sym, ap, subst, ◌∙◌, append_assoc, arith, append-nil, lit<}
use Rattle.std.specs.Prelude.{⊤, nat_eq, nat_lt}
use Rattle.std.specs.List.{flat_map}
use Rattle.std.proofs.lemmas.List.Concat.{flat_map-cons}
use Rattle.std.proofs.lemmas.List.{length-append}
use Rattle.std.proofs.lemmas.Bool.{eqb-true}
use Rattle.afs_xdr.specs.Words.{word}
use Rattle.spec_shape.proofs.Codecs.{IsBytes, Takes, Takes-then}
use Rattle.spec_ideal.specs.Images.{Image}
use Rattle.spec_ideal.specs.VnodeImage.{kind_fits, most_acl, most_contents}
use Rattle.spec_ideal.specs.VnodeMaps.{most_vnodes}
use Rattle.spec_records.specs.Records.{most_name}
use Rattle.spec_dumps.specs.Fields.{FieldTaken, took, cut_at, bad_at, ◌>>=◌, word_field, text_field, only, mark, and_then, ◌before◌}
use Rattle.spec_dumps.specs.Dumps.{Dump}
use Rattle.spec_dumps.specs.Streams.{dump_header_tag, volume_header_tag, vnode_tag, end_tag, begin_magic, dump_version, end_magic, dump_header_parts, dump_header_made, dump_header_field, volume_header_parts, volume_header_made, volume_header_field, headers_parts, headers_made, headers_field, count_field, pair_field, pairs_at, FitPairs, pair_bytes, pairs_field, live_field, image_parts, image_made, kind_in, is_good_acl, are_good_contents, image_words_field, acl_field, contents_field, texts_field, image_field, number_ahead, next_at, only_end, by_next, images_at, image_bytes, FitsEither, FitImages, images_field, dump_parts, dump_made, dump_field, dump_bytes, FitsDump, dump_ended, dump_at}
use Rattle.spec_dumps.specs.Restores.{refused_at, fed}
use Rattle.spec_dumps.specs.Laws.{IsSpelled}
use Rattle.spec_dumps.proofs.Fields.{Stays, IsGoodField, took_is, bound, stays_next, word_good, text_good, only_good, mark_good, and_then_good, before_good, known_good, marked_good}

-- ---- the headers

dump_header_good : IsGoodField dump_header_field
unfolding dump_header_field
dump_header_good =
    marked_good dump_header_tag _ (marked_good begin_magic _ (marked_good dump_version _
    (known_good (word_field before text_field most_name before word_field) dump_header_parts dump_header_made
    (before_good word_field (text_field most_name before word_field) word_good
    (before_good (text_field most_name) word_field (text_good most_name) word_good)) (λ x fits. refl))))

volume_header_good : IsGoodField volume_header_field
unfolding volume_header_field
volume_header_good =
    marked_good volume_header_tag _
    (known_good (word_field before word_field before word_field before word_field before word_field before word_field before word_field) volume_header_parts volume_header_made
    (before_good word_field (word_field before word_field before word_field before word_field before word_field before word_field) word_good
    (before_good word_field (word_field before word_field before word_field before word_field before word_field) word_good
    (before_good word_field (word_field before word_field before word_field before word_field) word_good
    (before_good word_field (word_field before word_field before word_field) word_good
    (before_good word_field (word_field before word_field) word_good
    (before_good word_field word_field word_good word_good))))))
    (λ x fits. refl))

pub headers_good : IsGoodField headers_field
headers_good =
    known_good (dump_header_field before volume_header_field) headers_parts headers_made
    (before_good dump_header_field volume_header_field dump_header_good volume_header_good) (λ x fits. refl)

-- ---- the list of live vnodes

pub pair_is_good : (least : ℕ) → IsGoodField (pair_field least)
pair_is_good least = before_good (only (λ n. not (nat_lt n least)) word_field) word_field (only_good (λ n. not (nat_lt n least)) word_field word_good) word_good

pairs_take : (n least : ℕ) (bytes : List ℕ) (ps : List (ℕ × ℕ)) (rest : List ℕ) → IsBytes bytes → pairs_at n least bytes ≡ took ps rest → Takes bytes (flat_map pair_bytes ps) rest × FitPairs n least ps
pairs_take zero least bytes ps rest fits e =
    let both = took_is [] ps bytes rest e in
    subst (λ (y : List (ℕ × ℕ)). Takes bytes (flat_map pair_bytes y) rest × FitPairs zero least y) both.0
    (subst (λ (r : List ℕ). Takes bytes [] r) both.1 (record { parts = refl; rest_fits = fits }), tt)
pairs_take (suc n) least bytes ps rest fits e =
    let a = bound ((pair_field least).at bytes) (λ p. (pairs_at n (p.0.0 + 1) p.1 >>= λ qs. took (p.0 ∷ qs.0) qs.1)) ps rest e in
    let b = bound (pairs_at n (a.value.0 + 1) a.left) (λ qs. took (a.value ∷ qs.0) qs.1) ps rest a.second in
    let t = (pair_is_good least).takes bytes a.value a.left fits a.first in
    let u = pairs_take n (a.value.0 + 1) a.left b.value b.left t.0.rest_fits b.first in
    let both = took_is (a.value ∷ b.value) ps b.left rest b.second in
    let parts = Takes-then bytes (pair_bytes a.value) a.left (flat_map pair_bytes b.value) b.left t.0 u.0 in
    subst (λ (y : List (ℕ × ℕ)). Takes bytes (flat_map pair_bytes y) rest × FitPairs (suc n) least y) both.0
    (subst (λ (r : List ℕ). Takes bytes (flat_map pair_bytes (a.value ∷ b.value)) r) both.1 (rw flat_map-cons parts), (t.1, u.1))

pairs_again : (n least : ℕ) (ps : List (ℕ × ℕ)) (rest : List ℕ) → FitPairs n least ps → pairs_at n least (flat_map pair_bytes ps ++ rest) ≡ took ps rest
pairs_again zero least [] rest fits = refl
pairs_again zero least (p ∷ ps) rest fits = absurd fits
pairs_again (suc n) least [] rest fits = absurd fits
pairs_again (suc n) least (p ∷ ps) rest fits =
    let regrouped : flat_map pair_bytes (p ∷ ps) ++ rest ≡ pair_bytes p ++ (flat_map pair_bytes ps ++ rest) =
    ap (λ (t : List ℕ). t ++ rest) (flat_map-cons pair_bytes p ps) ∙ append_assoc (pair_bytes p) (flat_map pair_bytes ps) rest in
    ap (pairs_at (suc n) least) regrouped ∙ rw ((pair_is_good least).again p (flat_map pair_bytes ps ++ rest) fits.0, pairs_again n (p.0 + 1) ps rest fits.1) refl

pairs_stay : (n least : ℕ) (bytes more : List ℕ) → Stays (pairs_at n least bytes) more (pairs_at n least (bytes ++ more))
pairs_stay zero least bytes more = refl
pairs_stay (suc n) least bytes more =
    stays_next ((pair_field least).at bytes) ((pair_field least).at (bytes ++ more)) (λ p. (pairs_at n (p.0.0 + 1) p.1 >>= λ qs. took (p.0 ∷ qs.0) qs.1)) (λ p. (pairs_at n (p.0.0 + 1) p.1 >>= λ qs. took (p.0 ∷ qs.0) qs.1)) more ((pair_is_good least).stays bytes more)
    (λ p rest. stays_next (pairs_at n (p.0 + 1) rest) (pairs_at n (p.0 + 1) (rest ++ more)) (λ qs. took (p ∷ qs.0) qs.1) (λ qs. took (p ∷ qs.0) qs.1) more (pairs_stay n (p.0 + 1) rest more) (λ qs left. refl))

pairs_are_good : (n : ℕ) → IsGoodField (pairs_field n)
pairs_are_good n = record { takes = pairs_take n 0; again = pairs_again n 0; stays = pairs_stay n 0 }

pairs_count : (n least : ℕ) (ps : List (ℕ × ℕ)) → FitPairs n least ps → length ps ≡ n
pairs_count zero least [] fits = refl
pairs_count zero least (p ∷ ps) fits = absurd fits
pairs_count (suc n) least [] fits = absurd fits
pairs_count (suc n) least (p ∷ ps) fits = ap suc (pairs_count n (p.0 + 1) ps fits.1)

pub count_good : IsGoodField count_field
count_good = only_good (λ n. not (nat_lt most_vnodes n)) word_field word_good

live_is_good : IsGoodField live_field
unfolding live_field
live_is_good =
    known_good (and_then count_field pairs_field) (λ ps. (length ps, ps)) (λ p. p.1)
    (and_then_good count_field pairs_field count_good pairs_are_good)
    (λ x fits. ap (λ (n : ℕ). (n, x.1)) (pairs_count x.0 0 x.1 fits.1))

-- ---- an image

pub words_are_good : (p : ℕ × ℕ) → IsGoodField (image_words_field p)
words_are_good p =
    before_good (only (λ n. nat_eq n p.0) word_field) _ (only_good (λ n. nat_eq n p.0) word_field word_good)
    (before_good (only (λ u. nat_eq u p.1) word_field) _ (only_good (λ u. nat_eq u p.1) word_field word_good)
    (before_good (only (kind_fits p.0) word_field) _ (only_good (kind_fits p.0) word_field word_good)
    (before_good word_field _ word_good (before_good word_field _ word_good (before_good word_field _ word_good (before_good word_field _ word_good
    (before_good word_field _ word_good (before_good word_field _ word_good (before_good word_field _ word_good (before_good word_field _ word_good
    (before_good word_field _ word_good (before_good word_field _ word_good (before_good word_field _ word_good word_good)))))))))))))

pub acl_good : (kind : ℕ) → IsGoodField (acl_field kind)
acl_good kind = only_good (is_good_acl kind) (text_field most_acl) (text_good most_acl)

pub contents_good : (kind : ℕ) → IsGoodField (contents_field kind)
contents_good kind = only_good (are_good_contents kind) (text_field most_contents) (text_good most_contents)

texts_are_good : (kind : ℕ) → IsGoodField (texts_field kind)
texts_are_good kind = before_good (acl_field kind) (contents_field kind) (acl_good kind) (contents_good kind)

pub image_is_good : (p : ℕ × ℕ) → IsGoodField (image_field p)
unfolding image_field
image_is_good p =
    known_good (and_then (image_words_field p) (λ w. texts_field (kind_in w))) image_parts image_made
    (and_then_good (image_words_field p) (λ w. texts_field (kind_in w)) (words_are_good p) (λ w. texts_are_good (kind_in w))) (λ x fits. refl)

-- which vnode of the list it is doesn't change the spelling
image_same : (p q : ℕ × ℕ) (i : Image) → (image_field p).spelled i ≡ (image_field q).spelled i
unfolding image_field
image_same p q i = refl

image_number : (p : ℕ × ℕ) (i : Image) → (image_field p).Fits i → (nat_eq i.vnode p.0 ≡ true) × (i.vnode < 2 ^ 32)
unfolding image_field
image_number p i fits = (fits.0.0.0.1, fits.0.0.0.0)

image_begins : (p : ℕ × ℕ) (i : Image) (rest : List ℕ) → (more : List ℕ) × ((image_field p).spelled i ++ rest ≡ word i.vnode ++ more)
unfolding image_field
image_begins p i rest = (_, append_assoc ((image_words_field p).spelled (image_parts i).0) ((texts_field i.kind).spelled (image_parts i).1) rest ∙ append_assoc (word i.vnode) _ _)

-- ---- what comes next among the images

tag_small : vnode_tag < 2 ^ 32
tag_small = lit< tt

end_small : end_tag < 2 ^ 32
end_small = lit< tt

abbrev pub NextIs : List ℕ → Option ℕ → List ℕ → Type 0
NextIs bytes None rest = Takes bytes (word end_tag) rest
NextIs bytes (Some n) rest = Takes bytes (word vnode_tag) rest

next_by : (a b : Bool) (bytes : List ℕ) (tag : ℕ) (left : List ℕ) (o : Option ℕ) (rest : List ℕ) → nat_eq tag end_tag ≡ a → nat_eq tag vnode_tag ≡ b → Takes bytes (word tag) left →
    cond a (took None left) (cond b (number_ahead left) (bad_at bytes)) ≡ took o rest → NextIs bytes o rest
next_by true b bytes tag left o rest is other t e =
    let both = took_is None o left rest e in
    let front : Takes bytes (word end_tag) left = subst (λ (k : ℕ). Takes bytes (word k) left) (eqb-true tag end_tag is) t in
    subst (λ (p : Option ℕ). NextIs bytes p rest) both.0 (subst (λ (r : List ℕ). Takes bytes (word end_tag) r) both.1 front)
next_by false true bytes tag left o rest other is t e =
    let n = bound (word_field.at left) (λ n. took (Some n.0) left) o rest e in
    let both = took_is (Some n.value) o left rest n.second in
    let front : Takes bytes (word vnode_tag) left = subst (λ (k : ℕ). Takes bytes (word k) left) (eqb-true tag vnode_tag is) t in
    subst (λ (p : Option ℕ). NextIs bytes p rest) both.0 (subst (λ (r : List ℕ). Takes bytes (word vnode_tag) r) both.1 front)
next_by false false bytes tag left o rest other neither t e = absurd cc

pub next_is : (bytes : List ℕ) (o : Option ℕ) (rest : List ℕ) → IsBytes bytes → next_at bytes ≡ took o rest → NextIs bytes o rest
unfolding next_at
next_is bytes o rest fits e =
    let a = bound (word_field.at bytes) (λ tag. cond (nat_eq tag.0 end_tag) (took None tag.1) (cond (nat_eq tag.0 vnode_tag) (number_ahead tag.1) (bad_at bytes))) o rest e in
    let t = word_good.takes bytes a.value a.left fits a.first in
    next_by (nat_eq a.value end_tag) (nat_eq a.value vnode_tag) bytes a.value a.left o rest refl refl t.0 a.second

ahead_stays : (rest more : List ℕ) → Stays (number_ahead rest) more (number_ahead (rest ++ more))
ahead_stays rest more =
    stays_next (word_field.at rest) (word_field.at (rest ++ more)) (λ n. took (Some n.0) rest) (λ n. took (Some n.0) (rest ++ more)) more (word_good.stays rest more) (λ n left. refl)

tag_stays : (a b : Bool) (rest bytes more : List ℕ) → Stays (cond a (took None rest) (cond b (number_ahead rest) (bad_at bytes))) more (cond a (took None (rest ++ more)) (cond b (number_ahead (rest ++ more)) (bad_at (bytes ++ more))))
tag_stays true b rest bytes more = refl
tag_stays false true rest bytes more = ahead_stays rest more
tag_stays false false rest bytes more = refl

pub next_stays : (bytes more : List ℕ) → Stays (next_at bytes) more (next_at (bytes ++ more))
unfolding next_at
next_stays bytes more =
    stays_next (word_field.at bytes) (word_field.at (bytes ++ more)) (λ tag. cond (nat_eq tag.0 end_tag) (took None tag.1) (cond (nat_eq tag.0 vnode_tag) (number_ahead tag.1) (bad_at bytes)))
    (λ tag. cond (nat_eq tag.0 end_tag) (took None tag.1) (cond (nat_eq tag.0 vnode_tag) (number_ahead tag.1) (bad_at (bytes ++ more)))) more (word_good.stays bytes more)
    (λ tag rest. tag_stays (nat_eq tag end_tag) (nat_eq tag vnode_tag) rest bytes more)

next_end : (rest : List ℕ) → next_at (word end_tag ++ rest) ≡ took None rest
unfolding next_at
next_end rest = rw (word_good.again end_tag rest end_small) refl

next_image : (n : ℕ) (rest : List ℕ) → n < 2 ^ 32 → next_at (word vnode_tag ++ (word n ++ rest)) ≡ took (Some n) (word n ++ rest)
unfolding next_at
next_image n rest small = rw (word_good.again vnode_tag (word n ++ rest) tag_small, word_good.again n rest small) refl

pub only_end_stays : {A : Type 0} (o : Option ℕ) (rest more : List ℕ) (none : A) → Stays (only_end o rest none) more (only_end o (rest ++ more) none)
only_end_stays {A} None rest more none = refl
only_end_stays {A} (Some m) rest more none = refl

either_stays : {A : Type 0} (b : Bool) (more : List ℕ) (x y z w : FieldTaken A) → Stays x more z → Stays y more w → Stays (cond b x y) more (cond b z w)
either_stays {A} true more x y z w h k = h
either_stays {A} false more x y z w h k = k

pub by_next_stays : {A : Type 0} (n : ℕ) (o : Option ℕ) (rest more : List ℕ) (none : A) (x y z w : FieldTaken A) → Stays x more z → Stays y more w → Stays (by_next n o rest none x y) more (by_next n o (rest ++ more) none z w)
by_next_stays {A} n None rest more none x y z w h k = refl
by_next_stays {A} n (Some m) rest more none x y z w h k = either_stays (nat_eq m n) more x y z w h k

-- ---- the images

-- that of the first vnode of the list, and the others
abbrev pub own_at : (p : ℕ × ℕ) (ps : List (ℕ × ℕ)) → List ℕ → FieldTaken (List Image)
own_at p ps bytes = (image_field p).at bytes >>= λ i. (images_at ps i.1 >>= λ is. took (i.0 ∷ is.0) is.1)

images_stay : (ps : List (ℕ × ℕ)) (bytes more : List ℕ) → Stays (images_at ps bytes) more (images_at ps (bytes ++ more))
images_stay [] bytes more =
    stays_next (next_at bytes) (next_at (bytes ++ more)) (λ next. only_end next.0 next.1 []) (λ next. only_end next.0 next.1 []) more (next_stays bytes more)
    (λ o rest. only_end_stays o rest more [])
images_stay (p ∷ ps) bytes more =
    stays_next (next_at bytes) (next_at (bytes ++ more)) (λ next. by_next p.0 next.0 next.1 [] (own_at p ps next.1) (images_at ps bytes))
    (λ next. by_next p.0 next.0 next.1 [] (own_at p ps next.1) (images_at ps (bytes ++ more))) more (next_stays bytes more)
    (λ o rest. by_next_stays p.0 o rest more [] (own_at p ps rest) (images_at ps bytes) (own_at p ps (rest ++ more)) (images_at ps (bytes ++ more))
    (stays_next ((image_field p).at rest) ((image_field p).at (rest ++ more)) (λ i. (images_at ps i.1 >>= λ is. took (i.0 ∷ is.0) is.1)) (λ i. (images_at ps i.1 >>= λ is. took (i.0 ∷ is.0) is.1)) more ((image_is_good p).stays rest more)
    (λ i after. stays_next (images_at ps after) (images_at ps (after ++ more)) (λ is. took (i ∷ is.0) is.1) (λ is. took (i ∷ is.0) is.1) more (images_stay ps after more) (λ is z. refl)))
    (images_stay ps bytes more))

images_spell : List Image → List ℕ
images_spell is = flat_map image_bytes is ++ word end_tag

spell_none : (rest : List ℕ) → images_spell [] ++ rest ≡ word end_tag ++ rest
unfolding images_spell
spell_none rest = refl

spell_cons : (p : ℕ × ℕ) (i : Image) (is : List Image) → images_spell (i ∷ is) ≡ word vnode_tag ++ ((image_field p).spelled i ++ images_spell is)
unfolding images_spell
spell_cons p i is =
    ap (λ (t : List ℕ). t ++ word end_tag) (flat_map-cons image_bytes i is)
    ∙ (append_assoc (image_bytes i) (flat_map image_bytes is) (word end_tag)
    ∙ (append_assoc (word vnode_tag) ((image_field (i.vnode, i.unique)).spelled i) (flat_map image_bytes is ++ word end_tag)
    ∙ ap (λ (t : List ℕ). word vnode_tag ++ (t ++ (flat_map image_bytes is ++ word end_tag))) (image_same (i.vnode, i.unique) p i)))

first_is : (p : ℕ × ℕ) (i : Image) (is : List Image) (rest : List ℕ) → images_spell (i ∷ is) ++ rest ≡ word vnode_tag ++ ((image_field p).spelled i ++ (images_spell is ++ rest))
first_is p i is rest =
    ap (λ (t : List ℕ). t ++ rest) (spell_cons p i is)
    ∙ (append_assoc (word vnode_tag) ((image_field p).spelled i ++ images_spell is) rest
    ∙ ap (λ (t : List ℕ). word vnode_tag ++ t) (append_assoc ((image_field p).spelled i) (images_spell is) rest))

next_spelled : (p : ℕ × ℕ) (i : Image) (is : List Image) (rest : List ℕ) → i.vnode < 2 ^ 32 → next_at (images_spell (i ∷ is) ++ rest) ≡ took (Some i.vnode) ((image_field p).spelled i ++ (images_spell is ++ rest))
next_spelled p i is rest small =
    let b = image_begins p i (images_spell is ++ rest) in
    ap next_at (first_is p i is rest ∙ ap (λ (z : List ℕ). word vnode_tag ++ z) b.1)
    ∙ (next_image i.vnode b.0 small ∙ ap (λ (z : List ℕ). took (Some i.vnode) z) (sym b.1))

-- ---- reading them

never : (left : List ℕ) (is : List Image) (rest : List ℕ) → bad_at left ≡ took is rest → ⊥
never left is rest e = cc

some_is : (m n : ℕ) → Some m ≡ Some n → m ≡ n
some_is m n e = cc

ended_take : (ps : List (ℕ × ℕ)) (bytes r : List ℕ) (is : List Image) (rest : List ℕ) → ([] ≡ is) × (r ≡ rest) → Takes bytes (word end_tag) r → Takes bytes (images_spell is) rest × FitImages ps is
unfolding images_spell
ended_take ps bytes r is rest h t =
    subst (λ (y : List Image). Takes bytes (flat_map image_bytes y ++ word end_tag) rest × FitImages ps y) h.0 (subst (λ (z : List ℕ). Takes bytes (word end_tag) z) h.1 t, tt)

fit_small_by : (b : Bool) (i : Image) (own other : Type 0) → (own → i.vnode < 2 ^ 32) → (other → i.vnode < 2 ^ 32) → FitsEither b own other → i.vnode < 2 ^ 32
fit_small_by true i own other h k fits = h fits
fit_small_by false i own other h k fits = k fits

fit_small : (ps : List (ℕ × ℕ)) (i : Image) (is : List Image) → FitImages ps (i ∷ is) → i.vnode < 2 ^ 32
fit_small [] i is fits = absurd fits
fit_small (p ∷ ps) i is fits = fit_small_by (nat_eq i.vnode p.0) i ((image_field p).Fits i × FitImages ps is) (FitImages ps (i ∷ is)) (λ z. (image_number p i z.0).1) (λ z. fit_small ps i is z) fits

-- an image whose number isn't that of the first vnode of the list is one of the others
later_fits : (p : ℕ × ℕ) (ps : List (ℕ × ℕ)) (bytes : List ℕ) (n : ℕ) (r : List ℕ) (is : List Image) (rest : List ℕ) → next_at bytes ≡ took (Some n) r → nat_eq n p.0 ≡ false →
    bytes ≡ images_spell is ++ rest → FitImages ps is → FitImages (p ∷ ps) is
later_fits p ps bytes n r [] rest next other parts fits = tt
later_fits p ps bytes n r (i ∷ is) rest next other parts fits =
    let spelled = next_spelled p i is rest (fit_small ps i is fits) in
    let number : n ≡ i.vnode = some_is n i.vnode (took_is (Some n) (Some i.vnode) r ((image_field p).spelled i ++ (images_spell is ++ rest)) (sym next ∙ (ap next_at parts ∙ spelled))).0 in
    subst (λ (b : Bool). FitsEither b ((image_field p).Fits i × FitImages ps is) (FitImages ps (i ∷ is))) (sym (ap (λ (k : ℕ). nat_eq k p.0) (sym number) ∙ other)) fits

none_take : (o : Option ℕ) (bytes r : List ℕ) (is : List Image) (rest : List ℕ) → NextIs bytes o r → only_end o r [] ≡ took is rest → Takes bytes (images_spell is) rest × FitImages [] is
none_take None bytes r is rest next e = ended_take [] bytes r is rest (took_is [] is r rest e) next
none_take (Some n) bytes r is rest next e = absurd (never r is rest e)

either_take : (c : Bool) (p : ℕ × ℕ) (ps : List (ℕ × ℕ)) (bytes : List ℕ) (n : ℕ) (r : List ℕ) (is : List Image) (rest : List ℕ) → nat_eq n p.0 ≡ c → next_at bytes ≡ took (Some n) r → Takes bytes (word vnode_tag) r →
    cond c (own_at p ps r) (images_at ps bytes) ≡ took is rest →
    ((left : List ℕ) (later : List Image) (after : List ℕ) → IsBytes left → images_at ps left ≡ took later after → Takes left (images_spell later) after × FitImages ps later) →
    (images_at ps bytes ≡ took is rest → Takes bytes (images_spell is) rest × FitImages ps is) → Takes bytes (images_spell is) rest × FitImages (p ∷ ps) is
either_take true p ps bytes n r is rest test next front e others skips =
    let c = bound ((image_field p).at r) (λ i. (images_at ps i.1 >>= λ js. took (i.0 ∷ js.0) js.1)) is rest e in
    let d = bound (images_at ps c.left) (λ js. took (c.value ∷ js.0) js.1) is rest c.second in
    let u = (image_is_good p).takes r c.value c.left front.rest_fits c.first in
    let v = others c.left d.value d.left u.0.rest_fits d.first in
    let both = took_is (c.value ∷ d.value) is d.left rest d.second in
    let parts = Takes-then bytes (word vnode_tag) r ((image_field p).spelled c.value ++ images_spell d.value) d.left front (Takes-then r ((image_field p).spelled c.value) c.left (images_spell d.value) d.left u.0 v.0) in
    let whole : Takes bytes (images_spell (c.value ∷ d.value)) d.left = subst (λ (z : List ℕ). Takes bytes z d.left) (sym (spell_cons p c.value d.value)) parts in
    let fit : FitImages (p ∷ ps) (c.value ∷ d.value) = subst (λ (b : Bool). FitsEither b ((image_field p).Fits c.value × FitImages ps d.value) (FitImages ps (c.value ∷ d.value))) (sym (image_number p c.value u.1).0) (u.1, v.1) in
    subst (λ (y : List Image). Takes bytes (images_spell y) rest × FitImages (p ∷ ps) y) both.0 (subst (λ (z : List ℕ). Takes bytes (images_spell (c.value ∷ d.value)) z) both.1 whole, fit)
either_take false p ps bytes n r is rest test next front e others skips =
    let u = skips e in (u.0, later_fits p ps bytes n r is rest next test u.0.parts u.1)

one_take : (o : Option ℕ) (p : ℕ × ℕ) (ps : List (ℕ × ℕ)) (bytes r : List ℕ) (is : List Image) (rest : List ℕ) → next_at bytes ≡ took o r → NextIs bytes o r →
    by_next p.0 o r [] (own_at p ps r) (images_at ps bytes) ≡ took is rest →
    ((left : List ℕ) (later : List Image) (after : List ℕ) → IsBytes left → images_at ps left ≡ took later after → Takes left (images_spell later) after × FitImages ps later) →
    (images_at ps bytes ≡ took is rest → Takes bytes (images_spell is) rest × FitImages ps is) → Takes bytes (images_spell is) rest × FitImages (p ∷ ps) is
one_take None p ps bytes r is rest next front e others skips = ended_take (p ∷ ps) bytes r is rest (took_is [] is r rest e) front
one_take (Some n) p ps bytes r is rest next front e others skips = either_take (nat_eq n p.0) p ps bytes n r is rest refl next front e others skips

all_take : (ps : List (ℕ × ℕ)) (bytes : List ℕ) (is : List Image) (rest : List ℕ) → IsBytes bytes → images_at ps bytes ≡ took is rest → Takes bytes (images_spell is) rest × FitImages ps is
all_take [] bytes is rest fits e =
    let a = bound (next_at bytes) (λ next. only_end next.0 next.1 []) is rest e in
    none_take a.value bytes a.left is rest (next_is bytes a.value a.left fits a.first) a.second
all_take (p ∷ ps) bytes is rest fits e =
    let a = bound (next_at bytes) (λ next. by_next p.0 next.0 next.1 [] (own_at p ps next.1) (images_at ps bytes)) is rest e in
    one_take a.value p ps bytes a.left is rest a.first (next_is bytes a.value a.left fits a.first) a.second
    (λ left later. all_take ps left later) (λ z. all_take ps bytes is rest fits z)

none_again : (ps : List (ℕ × ℕ)) (rest : List ℕ) → images_at ps (images_spell [] ++ rest) ≡ took [] rest
none_again [] rest = rw (spell_none rest, next_end rest) refl
none_again (p ∷ ps) rest = rw (spell_none rest, next_end rest) refl

again_by : (c : Bool) (p : ℕ × ℕ) (ps : List (ℕ × ℕ)) (i : Image) (is : List Image) (rest : List ℕ) → FitsEither c ((image_field p).Fits i × FitImages ps is) (FitImages ps (i ∷ is)) →
    (FitImages ps is → images_at ps (images_spell is ++ rest) ≡ took is rest) → (FitImages ps (i ∷ is) → images_at ps (images_spell (i ∷ is) ++ rest) ≡ took (i ∷ is) rest) →
    cond c (own_at p ps ((image_field p).spelled i ++ (images_spell is ++ rest))) (images_at ps (images_spell (i ∷ is) ++ rest)) ≡ took (i ∷ is) rest
again_by true p ps i is rest fits others skips = rw ((image_is_good p).again i (images_spell is ++ rest) fits.0, others fits.1) refl
again_by false p ps i is rest fits others skips = skips fits

all_again : (ps : List (ℕ × ℕ)) (is : List Image) (rest : List ℕ) → FitImages ps is → images_at ps (images_spell is ++ rest) ≡ took is rest
all_again [] [] rest fits = none_again [] rest
all_again (p ∷ ps) [] rest fits = none_again (p ∷ ps) rest
all_again [] (i ∷ is) rest fits = absurd fits
all_again (p ∷ ps) (i ∷ is) rest fits =
    rw (next_spelled p i is rest (fit_small (p ∷ ps) i is fits)) (again_by (nat_eq i.vnode p.0) p ps i is rest fits (all_again ps is rest) (all_again ps (i ∷ is) rest))

images_are_good : (ps : List (ℕ × ℕ)) → IsGoodField (images_field ps)
unfolding images_spell
images_are_good ps = record { takes = all_take ps; again = all_again ps; stays = images_stay ps }

-- ---- a dump

dump_is_good : IsGoodField dump_field
unfolding dump_field
dump_is_good =
    known_good (headers_field before and_then live_field images_field before mark end_magic) dump_parts dump_made
    (before_good headers_field (and_then live_field images_field before mark end_magic) headers_good
    (before_good (and_then live_field images_field) (mark end_magic) (and_then_good live_field images_field live_is_good images_are_good) (mark_good end_magic)))
    (λ x fits. refl)

pub dump_again : (d : Dump) → FitsDump d → dump_at (dump_bytes d) ≡ took d []
unfolding dump_at
dump_again d fits = rw (ap (λ (z : List ℕ). dump_field.at z) (sym (append-nil (dump_field.spelled d))) ∙ dump_is_good.again d [] fits) refl

ended_is : (d e : Dump) (left rest : List ℕ) → dump_ended d left ≡ took e rest → (d ≡ e) × ((left ≡ []) × (rest ≡ []))
ended_is d e [] rest h = let both = took_is d e [] rest h in (both.0, (refl, sym both.1))
ended_is d e (b ∷ left) rest h = absurd cc

pub dump_spelled : (bytes : List ℕ) (d : Dump) (rest : List ℕ) → IsBytes bytes → dump_at bytes ≡ took d rest → IsSpelled bytes d rest
unfolding dump_at
dump_spelled bytes d rest fits e =
    let a = bound (dump_field.at bytes) (λ x. dump_ended x.0 x.1) d rest e in
    let t = dump_is_good.takes bytes a.value a.left fits a.first in
    let n = ended_is a.value d a.left rest a.second in
    let parts : bytes ≡ dump_field.spelled a.value = t.0.parts ∙ (ap (λ (z : List ℕ). dump_field.spelled a.value ++ z) n.1.0 ∙ append-nil (dump_field.spelled a.value)) in
    record { fits = subst FitsDump n.0 t.1; spelled = ap dump_bytes (sym n.0) ∙ sym parts; none_left = n.1.1 }

-- ---- pieces

-- a dump that was whole is bad where anything follows
Continues : FieldTaken Dump → List ℕ → FieldTaken Dump → Type 0
Continues (took d rest) more r = ⊤
Continues (cut_at left) more r = ⊤
Continues (bad_at left) more r = r ≡ bad_at (left ++ more)

ended_goes : (d : Dump) (left more : List ℕ) → Continues (dump_ended d left) more (dump_ended d (left ++ more))
unfolding Continues
ended_goes d [] more = tt
ended_goes d (b ∷ left) more = refl

ends_next : (o p : FieldTaken Dump) (more : List ℕ) → Stays o more p → Continues (o >>= λ d. dump_ended d.0 d.1) more (p >>= λ d. dump_ended d.0 d.1)
unfolding Continues
ends_next (took d left) p more h = subst (λ (q : FieldTaken Dump). Continues (dump_ended d left) more (q >>= λ d. dump_ended d.0 d.1)) (sym h) (ended_goes d left more)
ends_next (cut_at left) p more h = tt
ends_next (bad_at left) p more h = ap (λ (q : FieldTaken Dump). q >>= λ d. dump_ended d.0 d.1) h

goes_on : (bytes more : List ℕ) → Continues (dump_at bytes) more (dump_at (bytes ++ more))
unfolding dump_at
goes_on bytes more = ends_next (dump_field.at bytes) (dump_field.at (bytes ++ more)) more (dump_is_good.stays bytes more)

still_refused : (o p : FieldTaken Dump) (bytes more : List ℕ) (k : ℕ) → Continues o more p → refused_at bytes o ≡ Some k → refused_at (bytes ++ more) p ≡ Some k
unfolding Continues
still_refused (took d rest) p bytes more k h e = absurd cc
still_refused (cut_at left) p bytes more k h e = absurd cc
still_refused (bad_at left) p bytes more k h e =
    let same : length (bytes ++ more) - length (left ++ more) ≡ length bytes - length left = omega (arith, length-append bytes more, length-append left more) in
    ap (refused_at (bytes ++ more)) h ∙ (ap (λ (n : ℕ). Some n) same ∙ e)

-- what was refused is refused at the same offset, whatever follows
pub refused_stays : (bytes more : List ℕ) (k : ℕ) → fed bytes ≡ Some k → fed (bytes ++ more) ≡ Some k
unfolding fed
refused_stays bytes more k e = still_refused (dump_at bytes) (dump_at (bytes ++ more)) bytes more k (goes_on bytes more) e

IsCut : FieldTaken Dump → Type 0
IsCut (took d rest) = ⊥
IsCut (cut_at left) = ⊤
IsCut (bad_at left) = ⊥

ended_never : (d e : Dump) (left more rest : List ℕ) (b : ℕ) → dump_ended d (left ++ (b ∷ more)) ≡ took e rest → ⊥
ended_never d e [] more rest b h = cc
ended_never d e (c ∷ left) more rest b h = cc

ended_before : (d e : Dump) (left more rest : List ℕ) (b : ℕ) → dump_ended d (left ++ (b ∷ more)) ≡ took e rest → IsCut (dump_ended d left)
ended_before d e left more rest b h = absurd (ended_never d e left more rest b h)

cut_next : (o p : FieldTaken Dump) (e : Dump) (more rest : List ℕ) (b : ℕ) → Stays o (b ∷ more) p → (p >>= λ d. dump_ended d.0 d.1) ≡ took e rest → IsCut (o >>= λ d. dump_ended d.0 d.1)
unfolding IsCut
cut_next (took d left) p e more rest b h k = ended_before d e left more rest b (sym (ap (λ (q : FieldTaken Dump). q >>= λ d. dump_ended d.0 d.1) h) ∙ k)
cut_next (cut_at left) p e more rest b h k = tt
cut_next (bad_at left) p e more rest b h k = let z : bad_at (left ++ (b ∷ more)) ≡ took e rest = sym (ap (λ (q : FieldTaken Dump). q >>= λ d. dump_ended d.0 d.1) h) ∙ k in absurd cc

cut_left : (o : FieldTaken Dump) → IsCut o → (left : List ℕ) × (o ≡ cut_at left)
unfolding IsCut
cut_left (took d rest) h = absurd h
cut_left (cut_at left) h = (left, refl)
cut_left (bad_at left) h = absurd h

-- the beginning of a dump is cut, and never bad
pub front_is_cut : (front : List ℕ) (b : ℕ) (more : List ℕ) (d : Dump) (rest : List ℕ) → dump_at (front ++ (b ∷ more)) ≡ took d rest → (left : List ℕ) × (dump_at front ≡ cut_at left)
unfolding dump_at
front_is_cut front b more d rest e = cut_left _ (cut_next (dump_field.at front) (dump_field.at (front ++ (b ∷ more))) d more rest b (dump_is_good.stays front (b ∷ more)) e)

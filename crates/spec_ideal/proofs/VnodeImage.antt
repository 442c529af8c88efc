-- The image of a vnode is read again, and what is read is an image.
use Rattle.std.proofs.Common.{◌≡◌, ℕ, ◌<◌, ◌≤◌, ◌^◌, Bool, true, List, [], ◌∷◌, ◌++◌, length, Result, Ok, Err, if◌then◌else◌, ap, ◌∙◌, arith, refl, append_assoc, lit<}
use Rattle.afs_xdr.specs.declared.faults.XdrFault.TheVariants.{BadType}
use Rattle.afs_xdr.specs.Words.{word, words, opaque, word_at, AreWords}
use Rattle.afs_num.specs.declared.vnodes.Vnode.{Vnode}
use Rattle.spec_shape.specs.Reading.{◌>>=◌}
use Rattle.spec_shape.proofs.Codecs.{word_codec, opaque_codec}
use Rattle.spec_ideal.specs.VnodeImage.{kind_fits, most_acl, most_contents, image_words, image, FitsImage, BadField, as_field, word_field, opaque_field, kind_field, image_at}

-- ---- fields

word_again : (place n : ℕ) (ns rest : List ℕ) → n < 2 ^ 32 → word_field place (words (n ∷ ns) ++ rest) ≡ Ok (n, words ns ++ rest)
unfolding word_field
word_again place n ns rest small =
    ap (λ (bytes : List ℕ). as_field place (word_at bytes)) (append_assoc (word n) (words ns) rest)
    ∙ ap (λ r. as_field place r) (word_codec.again n (words ns ++ rest) small)

kind_again : (place vnode n : ℕ) (ns rest : List ℕ) → n < 2 ^ 32 → kind_fits vnode n ≡ true → kind_field place vnode (words (n ∷ ns) ++ rest) ≡ Ok (n, words ns ++ rest)
unfolding kind_field
kind_again place vnode n ns rest small fits =
    ap (λ (r : Result (ℕ × List ℕ) BadField). r >>= (λ kind. if kind_fits vnode kind.0 then Ok kind else Err (record { place = place; fault = BadType }))) (word_again place n ns rest small)
    ∙ ap (λ (b : Bool). if b then Ok (n, words ns ++ rest) else Err (record { place = place; fault = BadType })) fits

opaque_again : (place most : ℕ) (text rest : List ℕ) → length text ≤ most → most < 2 ^ 32 → opaque_field place most (opaque text ++ rest) ≡ Ok (text, rest)
unfolding opaque_field
opaque_again place most text rest fits small = ap (λ r. as_field place r) ((opaque_codec most).again text rest (fits, omega (arith, fits, small)))

regrouped : (v : Vnode) (rest : List ℕ) → image v ++ rest ≡ words (image_words v) ++ (opaque v.acl ++ (opaque v.contents ++ rest))
unfolding image
regrouped v rest =
    append_assoc (words (image_words v)) (opaque v.acl ++ opaque v.contents) rest
    ∙ ap (λ (bytes : List ℕ). words (image_words v) ++ bytes) (append_assoc (opaque v.acl) (opaque v.contents) rest)

-- ---- an image is read again, whatever follows

pub image_again : (v : Vnode) (rest : List ℕ) → FitsImage v → AreWords (image_words v) → kind_fits v.vnode v.kind ≡ true → image_at (image v ++ rest) ≡ Ok (v, rest)
unfolding image_at
image_again v rest fits small kind =
    ap image_at (regrouped v rest)
    ∙ rw (
      word_again 1 v.vnode (v.unique ∷ v.kind ∷ v.index ∷ v.data_version ∷ v.link_count ∷ v.owner ∷ v.group ∷ v.mode ∷ v.segment_size ∷ v.client_time ∷ v.server_time ∷ v.parent_vnode ∷ v.parent_unique ∷ v.change_counter ∷ []) (opaque v.acl ++ (opaque v.contents ++ rest)) small.0,
      word_again 2 v.unique (v.kind ∷ v.index ∷ v.data_version ∷ v.link_count ∷ v.owner ∷ v.group ∷ v.mode ∷ v.segment_size ∷ v.client_time ∷ v.server_time ∷ v.parent_vnode ∷ v.parent_unique ∷ v.change_counter ∷ []) (opaque v.acl ++ (opaque v.contents ++ rest)) small.1.0,
      kind_again 3 v.vnode v.kind (v.index ∷ v.data_version ∷ v.link_count ∷ v.owner ∷ v.group ∷ v.mode ∷ v.segment_size ∷ v.client_time ∷ v.server_time ∷ v.parent_vnode ∷ v.parent_unique ∷ v.change_counter ∷ []) (opaque v.acl ++ (opaque v.contents ++ rest)) small.1.1.0 kind,
      word_again 4 v.index (v.data_version ∷ v.link_count ∷ v.owner ∷ v.group ∷ v.mode ∷ v.segment_size ∷ v.client_time ∷ v.server_time ∷ v.parent_vnode ∷ v.parent_unique ∷ v.change_counter ∷ []) (opaque v.acl ++ (opaque v.contents ++ rest)) small.1.1.1.0,
      word_again 5 v.data_version (v.link_count ∷ v.owner ∷ v.group ∷ v.mode ∷ v.segment_size ∷ v.client_time ∷ v.server_time ∷ v.parent_vnode ∷ v.parent_unique ∷ v.change_counter ∷ []) (opaque v.acl ++ (opaque v.contents ++ rest)) small.1.1.1.1.0,
      word_again 6 v.link_count (v.owner ∷ v.group ∷ v.mode ∷ v.segment_size ∷ v.client_time ∷ v.server_time ∷ v.parent_vnode ∷ v.parent_unique ∷ v.change_counter ∷ []) (opaque v.acl ++ (opaque v.contents ++ rest)) small.1.1.1.1.1.0,
      word_again 7 v.owner (v.group ∷ v.mode ∷ v.segment_size ∷ v.client_time ∷ v.server_time ∷ v.parent_vnode ∷ v.parent_unique ∷ v.change_counter ∷ []) (opaque v.acl ++ (opaque v.contents ++ rest)) small.1.1.1.1.1.1.0,
      word_again 8 v.group (v.mode ∷ v.segment_size ∷ v.client_time ∷ v.server_time ∷ v.parent_vnode ∷ v.parent_unique ∷ v.change_counter ∷ []) (opaque v.acl ++ (opaque v.contents ++ rest)) small.1.1.1.1.1.1.1.0,
      word_again 9 v.mode (v.segment_size ∷ v.client_time ∷ v.server_time ∷ v.parent_vnode ∷ v.parent_unique ∷ v.change_counter ∷ []) (opaque v.acl ++ (opaque v.contents ++ rest)) small.1.1.1.1.1.1.1.1.0,
      word_again 10 v.segment_size (v.client_time ∷ v.server_time ∷ v.parent_vnode ∷ v.parent_unique ∷ v.change_counter ∷ []) (opaque v.acl ++ (opaque v.contents ++ rest)) small.1.1.1.1.1.1.1.1.1.0,
      word_again 11 v.client_time (v.server_time ∷ v.parent_vnode ∷ v.parent_unique ∷ v.change_counter ∷ []) (opaque v.acl ++ (opaque v.contents ++ rest)) small.1.1.1.1.1.1.1.1.1.1.0,
      word_again 12 v.server_time (v.parent_vnode ∷ v.parent_unique ∷ v.change_counter ∷ []) (opaque v.acl ++ (opaque v.contents ++ rest)) small.1.1.1.1.1.1.1.1.1.1.1.0,
      word_again 13 v.parent_vnode (v.parent_unique ∷ v.change_counter ∷ []) (opaque v.acl ++ (opaque v.contents ++ rest)) small.1.1.1.1.1.1.1.1.1.1.1.1.0,
      word_again 14 v.parent_unique (v.change_counter ∷ []) (opaque v.acl ++ (opaque v.contents ++ rest)) small.1.1.1.1.1.1.1.1.1.1.1.1.1.0,
      word_again 15 v.change_counter ([]) (opaque v.acl ++ (opaque v.contents ++ rest)) small.1.1.1.1.1.1.1.1.1.1.1.1.1.1.0,
      opaque_again 16 most_acl v.acl (opaque v.contents ++ rest) fits.acl (lit< tt),
      opaque_again 17 most_contents v.contents rest fits.contents (lit< tt),
    ) refl

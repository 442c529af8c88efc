-- What is told of a volume in memory is its dump.
use Rattle.std.proofs.Common.{◌≡◌, ℕ, suc, ◌+◌, Bool, true, false, cond, List, [], ◌∷◌, ◌++◌, length, filter, Option, Some, None, nat_eq, nat_lt, refl, sym, ap, ◌∙◌, arith, append_assoc, append-nil}
use Rattle.std.specs.List.{flat_map}
use Rattle.std.proofs.lemmas.Bool.Decides.{nat_tests}
use Rattle.afs_num.specs.declared.vnodes.Vnode as image
use Rattle.afs_xdr.specs.Words.{word, words, opaque}
use Rattle.spec_ideal.specs.AccessLists.{acl_text}
use Rattle.spec_ideal.specs.Directories.{directory_bytes}
use Rattle.spec_ideal.specs.Images.{Image, acl_by, image_of}
use Rattle.spec_ideal.specs.Tables.{Table, get, AscendsFrom}
use Rattle.spec_ideal.specs.VnodeImage.{image}
use Rattle.spec_ideal.specs.Volumes.{VnodeKind, a_file, a_directory, a_link, bytes_by, type_of}
use Rattle.spec_dumps.specs.Dumps.{dump_of, timed_images, images_since, is_since, live_in}
use Rattle.spec_dumps.specs.Streams.{dump_bytes, dump_field, dump_header_field, end_magic, end_tag, image_bytes, image_field, live_field, pair_bytes, vnode_tag, volume_header_field}
use Rattle.spec_records.specs.Durable.{or_zero}
use Rattle.afs_volume.specs.Seen.{all_seen, contents_seen, kind_seen, list_seen, list_spelled, names_seen, names_spelled, seen, text_by, AreReadable, IsReadable}
use Rattle.afs_volume.specs.Taking.{stored_of, times_in}
use Rattle.afs_volume.specs.declared.volume.Volume as volumes
use Rattle.afs_volume.proofs.Soundly.{in_order}
use Rattle.afs_volume.proofs.Taken.{later_by}
use Rattle.afs_volume.proofs.Texts.{text_is_list}
use Rattle.afs_volume.proofs.Timed.{times_are}
use Rattle.afs_dump.specs.Telling.{dump_header_told, image_told, pair_told, parts_told, volume_header_told}

-- ---- the list

pairs_told : (t : Table image.Vnode) → flat_map pair_bytes (live_in (all_seen t)) ≡ flat_map pair_told t
unfolding all_seen seen
pairs_told [] = refl
pairs_told (p ∷ ps) = ap (λ (z : List ℕ). pair_told p ++ z) (pairs_told ps)

same_count : (t : Table image.Vnode) → length (live_in (all_seen t)) ≡ length t
unfolding all_seen
same_count [] = refl
same_count (p ∷ ps) = ap suc (same_count ps)

-- ---- an image: that of what is seen of a vnode is the vnode itself

acl_is : (k : VnodeKind) (x : image.Vnode) → kind_seen x.kind ≡ k → IsReadable x → acl_by k (seen x) ≡ x.acl
unfolding seen
acl_is a_directory x is h = ap (λ (k : VnodeKind). acl_text (list_seen k x.acl)) is ∙ sym (text_is_list x.acl (h.1.1.0 is))
acl_is a_file x is h = ap (λ (k : VnodeKind). text_by k x.acl) (sym is) ∙ h.1.1.1
acl_is a_link x is h = ap (λ (k : VnodeKind). text_by k x.acl) (sym is) ∙ h.1.1.1

bytes_are : (k : VnodeKind) (x : image.Vnode) → kind_seen x.kind ≡ k → IsReadable x → bytes_by k (seen x) ≡ x.contents
unfolding seen
bytes_are a_directory x is h = ap (λ (k : VnodeKind). directory_bytes (names_seen k x.contents)) is ∙ h.1.0 is
bytes_are a_file x is h = ap (λ (k : VnodeKind). contents_seen k x.contents) is
bytes_are a_link x is h = ap (λ (k : VnodeKind). contents_seen k x.contents) is

-- with this type, access list and contents
with_body : ℕ → image.Vnode → ℕ → List ℕ → List ℕ → Image
with_body n x kind acl contents = record x { vnode = n; kind = kind; acl = acl; contents = contents }

imaged : (n : ℕ) (x : image.Vnode) → IsReadable x → image_of n x.server_time (seen x) ≡ record x { vnode = n }
unfolding seen with_body
imaged n x h =
    let k : VnodeKind = kind_seen x.kind in
    ap (λ (kind : ℕ). with_body n x kind (acl_by k (seen x)) (bytes_by k (seen x))) h.0
    ∙ (ap (λ (acl : List ℕ). with_body n x x.kind acl (bytes_by k (seen x))) (acl_is k x refl h)
    ∙ ap (λ (contents : List ℕ). with_body n x x.kind x.acl contents) (bytes_are k x refl h))

-- all words of an image but the last
front : Image → List ℕ → List ℕ
front i z =
    word i.vnode ++ (word i.unique ++ (word i.kind ++ (word i.index ++ (word i.data_version ++ (word i.link_count ++ (word i.owner ++ (word i.group ++ (word i.mode ++ (word i.segment_size ++ (word i.client_time ++ (word i.server_time ++ (word i.parent_vnode ++ (word i.parent_unique ++ z)))))))))))))

image_spelled : (i : Image) → image_bytes i ≡ word vnode_tag ++ image i
unfolding image_field image front
image_spelled i = ap (λ (z : List ℕ). word vnode_tag ++ (front i z ++ (opaque i.acl ++ opaque i.contents))) (sym (append-nil (word i.change_counter)))

-- ---- the images of those that were changed since

one_told : (b : Bool) (times : Table ℕ) (p : ℕ × image.Vnode) (later : Table image.Vnode) (rest : List ℕ) (from : ℕ) → IsReadable p.1 → or_zero (get p.0 times) ≡ p.1.server_time →
    flat_map image_bytes (timed_images times (filter (is_since from) (all_seen later))) ≡ rest →
    flat_map image_bytes (timed_images times (cond b ((p.0, seen p.1) ∷ filter (is_since from) (all_seen later)) (filter (is_since from) (all_seen later))))
    ≡ cond b (word vnode_tag ++ image (record p.1 { vnode = p.0 })) [] ++ rest
one_told true times p later rest from h time more =
    let i : image_of p.0 (or_zero (get p.0 times)) (seen p.1) ≡ record p.1 { vnode = p.0 } = ap (λ (n : ℕ). image_of p.0 n (seen p.1)) time ∙ imaged p.0 p.1 h in
    ap (λ (x : Image). image_bytes x ++ flat_map image_bytes (timed_images times (filter (is_since from) (all_seen later)))) i
    ∙ (ap (λ (z : List ℕ). z ++ flat_map image_bytes (timed_images times (filter (is_since from) (all_seen later)))) (image_spelled (record p.1 { vnode = p.0 }))
    ∙ ap (λ (z : List ℕ). (word vnode_tag ++ image (record p.1 { vnode = p.0 })) ++ z) more)
one_told false times p later rest from h time more = more

images_told : (from m : ℕ) (times : Table ℕ) (t : Table image.Vnode) → AscendsFrom m t → AreReadable t → ((n : ℕ) (x : image.Vnode) → get n t ≡ Some x → or_zero (get n times) ≡ x.server_time) →
    flat_map image_bytes (timed_images times (filter (is_since from) (all_seen t))) ≡ flat_map (image_told from) t
unfolding all_seen seen
images_told from m times [] up all timed = refl
images_told from m times (p ∷ ps) up all timed =
    let here : get p.0 (p ∷ ps) ≡ Some p.1 = grind (arith, nat_tests) in
    one_told (nat_lt from p.1.change_counter) times p ps (flat_map (image_told from) ps) from (all p.0 p.1 here) (timed p.0 p.1 here)
    (images_told from (p.0 + 1) times ps up.1
    (λ n x e. all n x (later_by n x p ps (nat_eq p.0 n) refl up.1 e))
    (λ n x e. timed n x (later_by n x p ps (nat_eq p.0 n) refl up.1 e)))

-- ---- a dump

joined : (d v n p i e m : List ℕ) → (d ++ (v ++ (n ++ (p ++ i)))) ++ (e ++ (m ++ [])) ≡ (d ++ v) ++ (((n ++ p) ++ (i ++ e)) ++ m)
joined d v n p i e m =
    let left : (d ++ (v ++ (n ++ (p ++ i)))) ++ (e ++ (m ++ [])) ≡ d ++ (v ++ (n ++ (p ++ (i ++ (e ++ m))))) =
    ap (λ (z : List ℕ). (d ++ (v ++ (n ++ (p ++ i)))) ++ (e ++ z)) (append-nil m)
    ∙ (append_assoc d (v ++ (n ++ (p ++ i))) (e ++ m)
    ∙ ap (λ (z : List ℕ). d ++ z) (append_assoc v (n ++ (p ++ i)) (e ++ m)
    ∙ ap (λ (z : List ℕ). v ++ z) (append_assoc n (p ++ i) (e ++ m) ∙ ap (λ (z : List ℕ). n ++ z) (append_assoc p i (e ++ m))))) in
    let right : (d ++ v) ++ (((n ++ p) ++ (i ++ e)) ++ m) ≡ d ++ (v ++ (n ++ (p ++ (i ++ (e ++ m))))) =
    append_assoc d v (((n ++ p) ++ (i ++ e)) ++ m)
    ∙ ap (λ (z : List ℕ). d ++ (v ++ z)) (append_assoc (n ++ p) (i ++ e) m
    ∙ (append_assoc n p ((i ++ e) ++ m) ∙ ap (λ (z : List ℕ). n ++ (p ++ z)) (append_assoc i e m))) in
    left ∙ sym right

pub volume_told : (v : volumes.Volume) (from : ℕ) → parts_told from v.head v.vnodes.table ++ words (end_tag ∷ end_magic ∷ []) ≡ dump_bytes (dump_of v.head.id from (stored_of v))
unfolding parts_told dump_field live_field
volume_told v from =
    let t : Table image.Vnode = v.vnodes.table in
    let d : List ℕ = dump_header_field.spelled (dump_header_told from v.head) in
    let h : List ℕ = volume_header_field.spelled (volume_header_told v.head) in
    let images : flat_map image_bytes (images_since from (stored_of v)) ≡ flat_map (image_told from) t =
    images_told from 1 (times_in t) t (in_order v.head t v.readable v.sound) v.readable (times_are t) in
    joined d h (word (length t)) (flat_map pair_told t) (flat_map (image_told from) t) (word end_tag) (word end_magic)
    ∙ (ap (λ (k : ℕ). (d ++ h) ++ (((word k ++ flat_map pair_told t) ++ (flat_map (image_told from) t ++ word end_tag)) ++ word end_magic)) (sym (same_count t))
    ∙ (ap (λ (z : List ℕ). (d ++ h) ++ (((word (length (live_in (all_seen t))) ++ z) ++ (flat_map (image_told from) t ++ word end_tag)) ++ word end_magic)) (sym (pairs_told t))
    ∙ ap (λ (z : List ℕ). (d ++ h) ++ (((word (length (live_in (all_seen t))) ++ flat_map pair_bytes (live_in (all_seen t))) ++ (z ++ word end_tag)) ++ word end_magic)) (sym images)))

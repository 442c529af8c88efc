-- How long the first record of a server is.
use Rattle.spec_ideal.specs.SetUp.{first_volume}
use Rattle.std.proofs.Common.{◌≡◌, ℕ, suc, ◌+◌, ◌*◌, ◌≤◌, Bool, true, false, List, [], ◌∷◌, ◌++◌, length, map, replicate, Some, None, refl, ap, ◌∙◌, arith, nat_eq, nat_lt, if◌then◌else◌}
use Rattle.std.specs.List.{flat_map}
use Rattle.std.proofs.lemmas.List.{length-append, length-replicate}
use Rattle.std.proofs.lemmas.List.Concat.{flat_map-cons}
use Rattle.std.proofs.lemmas.Bool.Decides.{nat_tests}
use Rattle.afs_xdr.specs.Words.{word, words, opaque, pad, pad_length}
use Rattle.spec_ideal.specs.Images.{Image, image_of}
use Rattle.spec_ideal.specs.Tables.{Table, get, set}
use Rattle.spec_ideal.specs.VnodeImage.{image, image_words}
use Rattle.spec_ideal.specs.Volumes.{Vnode}
use Rattle.spec_ideal.proofs.Tables.{get_set}
use Rattle.afs_num.specs.declared.records.StoredVolume.{StoredVolume}
use Rattle.spec_records.specs.Changes.{at_set_up, images_of, no_head, record_of_volumes, stored_volume}
use Rattle.spec_records.specs.Durable.{Stored, or_zero, place_length}
use Rattle.spec_records.specs.Records.{head_form, listed_vnode, listed_form, marked_form, record_bytes, vnodes_form, volume_form}
use Rattle.spec_history.specs.declared.scripts.VolumeLine.{VolumeLine}
use Rattle.afs_grammar.specs.Lines.{filled_up, stored_all}
use Rattle.afs_grammar.specs.Sizes.{vnodes_size, volume_size, volumes_size, AscendFrom}

-- ---- words and opaques

word_size : (n : ℕ) → length (word n) ≡ 4
unfolding word
word_size n = refl

pub behind : (n : ℕ) (rest : List ℕ) → length (word n ++ rest) ≡ 4 + length rest
behind n rest = length-append (word n) rest ∙ ap (λ (k : ℕ). k + length rest) (word_size n)

words_size : (ns : List ℕ) → length (words ns) ≡ 4 * length ns
words_size [] = refl
words_size (n ∷ ns) = ap length (flat_map-cons word n ns) ∙ (behind n (words ns) ∙ omega (arith, words_size ns))

pub opaque_size : (bytes : List ℕ) → length (opaque bytes) ≡ 4 + filled_up (length bytes)
unfolding opaque pad
opaque_size bytes =
    behind (length bytes) (bytes ++ replicate (pad_length (length bytes)) 0)
    ∙ ap (λ (k : ℕ). 4 + k) (length-append bytes (replicate (pad_length (length bytes)) 0) ∙ ap (λ (k : ℕ). length bytes + k) (length-replicate (pad_length (length bytes)) 0))

-- ---- vnodes

abbrev image_size : Image → ℕ
image_size i = 68 + filled_up (length i.acl) + filled_up (length i.contents)

image_is : (i : Image) → length (image i) ≡ image_size i
unfolding image
image_is i =
    let a = length-append (words (image_words i)) (opaque i.acl ++ opaque i.contents) in
    let b = words_size (image_words i) in
    let c = length-append (opaque i.acl) (opaque i.contents) in
    let d = opaque_size i.acl in
    let e = opaque_size i.contents in
    omega (arith, a, b, c, d, e)

listed_is : (vs : List Image) → length (flat_map listed_form.spelled (map listed_vnode vs)) ≡ 8 * length vs
listed_is [] = refl
listed_is (v ∷ vs) =
    let a = ap length (flat_map-cons listed_form.spelled (listed_vnode v) (map listed_vnode vs)) in
    let b = length-append (word v.vnode ++ word v.unique) (flat_map listed_form.spelled (map listed_vnode vs)) in
    let c = behind v.vnode (word v.unique) in
    let d = word_size v.unique in
    let e = listed_is vs in
    a ∙ (b ∙ omega (arith, c, d, e))

abbrev images_size : List Image → ℕ
images_size [] = 0
images_size (i ∷ is) = 4 + image_size i + images_size is

marked_is : (is : List Image) → length (flat_map marked_form.spelled is) ≡ images_size is
marked_is [] = refl
marked_is (i ∷ is) =
    let a = ap length (flat_map-cons marked_form.spelled i is) in
    let b = length-append (word 3 ++ image i) (flat_map marked_form.spelled is) in
    let c = behind 3 (image i) in
    let d = image_is i in
    let e = marked_is is in
    a ∙ (b ∙ omega (arith, c, d, e))

length_listed : (vs : List Image) → length (map listed_vnode vs) ≡ length vs
length_listed [] = refl
length_listed (v ∷ vs) = ap suc (length_listed vs)

vnodes_is : (is : List Image) → length (vnodes_form.spelled is) ≡ 4 + 8 * length is + images_size is
vnodes_is is =
    let a = length-append (word (length (map listed_vnode is)) ++ flat_map listed_form.spelled (map listed_vnode is)) (flat_map marked_form.spelled is) in
    let b = behind (length (map listed_vnode is)) (flat_map listed_form.spelled (map listed_vnode is)) in
    let c = listed_is is in
    let d = marked_is is in
    a ∙ omega (arith, b, c, d)

abbrev imaged : Table ℕ → ℕ × Vnode → Image
imaged times p = image_of p.0 (or_zero (get p.0 times)) p.1

table_is : (times : Table ℕ) (t : Table Vnode) → 8 * length (map (imaged times) t) + images_size (map (imaged times) t) ≡ vnodes_size t
table_is times [] = refl
table_is times (p ∷ ps) = omega (arith, table_is times ps)

-- ---- volumes

nine : (a b c d e f g h i : ℕ) (rest : List ℕ) → length (word a ++ (word b ++ (word c ++ (word d ++ (word e ++ (word f ++ (word g ++ (word h ++ (word i ++ rest))))))))) ≡ 36 + length rest
nine a b c d e f g h i rest =
    let t9 = word i ++ rest in
    let t8 = word h ++ t9 in
    let t7 = word g ++ t8 in
    let t6 = word f ++ t7 in
    let t5 = word e ++ t6 in
    let t4 = word d ++ t5 in
    let t3 = word c ++ t4 in
    let t2 = word b ++ t3 in
    let p1 = behind a t2 in
    let p2 = behind b t3 in
    let p3 = behind c t4 in
    let p4 = behind d t5 in
    let p5 = behind e t6 in
    let p6 = behind f t7 in
    let p7 = behind g t8 in
    let p8 = behind h t9 in
    let p9 = behind i rest in
    omega (arith, p1, p2, p3, p4, p5, p6, p7, p8, p9)

volume_is : (id : ℕ) (s : Stored) → length (volume_form.spelled (stored_volume id s)) ≡ volume_size s.volume
unfolding volume_form
volume_is id s =
    let v = s.volume in
    let vnodes = vnodes_form.spelled (images_of s) in
    let a = length-append (opaque v.name) (word v.flags ++ (word 2 ++ (word id ++ (word v.family ++ (word v.kind ++ (word v.quota ++ (word v.next ++ (word v.counter ++ (word v.release ++ vnodes))))))))) in
    let b = opaque_size v.name in
    let c = nine v.flags 2 id v.family v.kind v.quota v.next v.counter v.release vnodes in
    let d = vnodes_is (images_of s) in
    let e = table_is s.times v.vnodes in
    omega (arith, a, b, c, d, e)

abbrev stored_size : Table Stored → ℕ
stored_size [] = 0
stored_size (p ∷ ps) = volume_size p.1.volume + stored_size ps

abbrev spelled_volume : ℕ × Stored → StoredVolume
spelled_volume p = stored_volume p.0 p.1

stored_is : (t : Table Stored) → length (flat_map volume_form.spelled (map spelled_volume t)) ≡ stored_size t
stored_is [] = refl
stored_is (p ∷ ps) =
    let a = ap length (flat_map-cons volume_form.spelled (spelled_volume p) (map spelled_volume ps)) in
    let b = length-append (volume_form.spelled (spelled_volume p)) (flat_map volume_form.spelled (map spelled_volume ps)) in
    let c = volume_is p.0 p.1 in
    let d = stored_is ps in
    a ∙ (b ∙ omega (arith, c, d))

-- ---- the record

pub head_is : length (head_form.spelled no_head) ≡ 24
unfolding head_form word opaque pad
head_is = refl

nothing_behind : (a : List ℕ) → length (a ++ []) ≡ length a
nothing_behind a = length-append a [] ∙ omega arith

record_is : (t : Table Stored) → place_length (record_of_volumes t) ≡ 41 + stored_size t
unfolding record_bytes
record_is t =
    let volumes = flat_map volume_form.spelled (map spelled_volume t) in
    let count = word (length (map spelled_volume t)) in
    let a = behind 1 (head_form.spelled no_head ++ ((count ++ volumes) ++ [])) in
    let b = length-append (head_form.spelled no_head) ((count ++ volumes) ++ []) in
    let c = nothing_behind (count ++ volumes) in
    let d = behind (length (map spelled_volume t)) volumes in
    let e = stored_is t in
    omega (arith, a, b, c, d, e, head_is)

-- ---- a server's volumes, which stand by their numbers

set_by : (b l : Bool) (n k : ℕ) (s z : Stored) (t : Table Stored) → (if b then Some z else get n t) ≡ None → (get n t ≡ None → stored_size (set n s t) ≡ volume_size s.volume + stored_size t)
    → stored_size (if b then (n, s) ∷ t else (if l then (n, s) ∷ (k, z) ∷ t else (k, z) ∷ set n s t)) ≡ volume_size s.volume + (volume_size z.volume + stored_size t)
set_by true l n k s z t none on = absurd cc
set_by false true n k s z t none on = refl
set_by false false n k s z t none on = let h = on none in omega (arith, h)

set_is : (n : ℕ) (s : Stored) (t : Table Stored) → get n t ≡ None → stored_size (set n s t) ≡ volume_size s.volume + stored_size t
set_is n s [] none = refl
set_is n s (p ∷ ps) none = set_by (nat_eq p.0 n) (nat_lt n p.0) n p.0 s p.1 ps none (set_is n s ps)

apart : (b : Bool) (k n : ℕ) → nat_eq n k ≡ b → k + 1 ≤ n → b ≡ false
apart true k n e le = absurd (grind (arith, nat_tests, e, le))
apart false k n e le = refl

not_there : (k n : ℕ) (ls : List VolumeLine) → k + 1 ≤ n → AscendFrom n ls → get k (stored_all ls) ≡ None
not_there k n [] le up = refl
not_there k n (l ∷ ls) le up =
    get_set k l.id (at_set_up (first_volume l)) (stored_all ls)
    ∙ rw (apart (nat_eq l.id k) k l.id refl (omega (arith, up.0))) (not_there k (l.id + 1) ls (omega (arith, up.0)) up.1)

all_is : (n : ℕ) (ls : List VolumeLine) → AscendFrom n ls → stored_size (stored_all ls) ≡ volumes_size ls
all_is n [] up = refl
all_is n (l ∷ ls) up =
    set_is l.id (at_set_up (first_volume l)) (stored_all ls) (not_there l.id (l.id + 1) ls (omega arith) up.1)
    ∙ ap (λ (k : ℕ). volume_size (first_volume l) + k) (all_is (l.id + 1) ls up.1)

pub first_record : (n : ℕ) (ls : List VolumeLine) → AscendFrom n ls → place_length (record_of_volumes (stored_all ls)) ≡ 41 + volumes_size ls
first_record n ls up = record_is (stored_all ls) ∙ ap (λ (k : ℕ). 41 + k) (all_is n ls up)

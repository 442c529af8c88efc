-- Dumps as streams of bytes: the fields of a dump, in which it is spelled and read. Each word is a field, and so is each opaque.
use Rattle.std.specs.Prelude.{ℕ, zero, suc, ◌+◌, List, [], ◌∷◌, ◌++◌, length, take, drop, Bool, true, false, not, Option, Some, None, Result, Ok, Err, nat_eq, nat_lt, if◌then◌else◌}
use Rattle.std.specs.List.{flat_map}
use Rattle.afs_xdr.specs.Words.{word}
use Rattle.spec_ideal.specs.AccessLists.{acl_at}
use Rattle.spec_ideal.specs.Directories.{directory_of}
use Rattle.spec_ideal.specs.Images.{Image}
use Rattle.spec_ideal.specs.VnodeImage.{kind_fits, directory_type, most_acl, most_contents}
use Rattle.spec_ideal.specs.VnodeMaps.{most_vnodes}
use Rattle.spec_records.specs.Records.{most_name, volume_mark, vnode_mark}
use Rattle.spec_dumps.specs.Fields.{FieldTaken, took, bad_at, ◌>>=◌, Field, word_field, text_field, only, mark, and_then, ◌before◌, known_as, marked}
use Rattle.spec_dumps.specs.Dumps.{DumpHeader, VolumeHeader, Headers, Dump}

-- ---- The words with which parts begin, and by which a dump is known. A record of set-up tells volumes and vnodes by the same words.

abbrev pub dump_header_tag : ℕ
dump_header_tag = 1

abbrev pub volume_header_tag : ℕ
volume_header_tag = volume_mark

abbrev pub vnode_tag : ℕ
vnode_tag = vnode_mark

abbrev pub end_tag : ℕ
end_tag = 4

abbrev pub begin_magic : ℕ
begin_magic = 3013677858

abbrev pub dump_version : ℕ
dump_version = 1

abbrev pub end_magic : ℕ
end_magic = 975260526

-- ---- the headers

abbrev pub DumpHeaderParts : Type 0
DumpHeaderParts = ℕ × (List ℕ × ℕ)

abbrev pub dump_header_parts : DumpHeader → DumpHeaderParts
dump_header_parts h = (h.id, (h.name, h.from))

abbrev pub dump_header_made : DumpHeaderParts → DumpHeader
dump_header_made p = record { id = p.0; name = p.1.0; from = p.1.1 }

unfoldable pub dump_header_field : Field DumpHeader
dump_header_field =
    marked dump_header_tag (marked begin_magic (marked dump_version
    (known_as (word_field before text_field most_name before word_field) dump_header_parts dump_header_made)))

abbrev pub VolumeHeaderParts : Type 0
VolumeHeaderParts = ℕ × (ℕ × (ℕ × (ℕ × (ℕ × (ℕ × ℕ)))))

abbrev pub volume_header_parts : VolumeHeader → VolumeHeaderParts
volume_header_parts h = (h.id, (h.family, (h.kind, (h.quota, (h.next, (h.counter, h.release))))))

abbrev pub volume_header_made : VolumeHeaderParts → VolumeHeader
volume_header_made p =
    record { id = p.0; family = p.1.0; kind = p.1.1.0; quota = p.1.1.1.0; next = p.1.1.1.1.0; counter = p.1.1.1.1.1.0; release = p.1.1.1.1.1.1 }

unfoldable pub volume_header_field : Field VolumeHeader
volume_header_field =
    marked volume_header_tag
    (known_as (word_field before word_field before word_field before word_field before word_field before word_field before word_field) volume_header_parts volume_header_made)

abbrev pub headers_parts : Headers → DumpHeader × VolumeHeader
headers_parts h = (h.dump, h.volume)

abbrev pub headers_made : DumpHeader × VolumeHeader → Headers
headers_made p = record { dump = p.0; volume = p.1 }

abbrev pub headers_field : Field Headers
headers_field = known_as (dump_header_field before volume_header_field) headers_parts headers_made

-- ---- the live vnodes: their count, and of each its number and its unique number, by ascending numbers

abbrev pub count_field : Field ℕ
count_field = only (λ n. not (nat_lt most_vnodes n)) word_field

-- the next one of the list has at least this number
abbrev pub pair_field : ℕ → Field (ℕ × ℕ)
pair_field least = only (λ n. not (nat_lt n least)) word_field before word_field

-- so many of them
abbrev pub pairs_at : ℕ → ℕ → List ℕ → FieldTaken (List (ℕ × ℕ))
pairs_at zero least bytes = took [] bytes
pairs_at (suc n) least bytes = do
  p ← (pair_field least).at bytes
  ps ← pairs_at n (p.0.0 + 1) p.1
  took (p.0 ∷ ps.0) ps.1

abbrev pub FitPairs : ℕ → ℕ → List (ℕ × ℕ) → Type 0
FitPairs zero least [] = Unit {0}
FitPairs zero least (p ∷ ps) = ⊥
FitPairs (suc n) least [] = ⊥
FitPairs (suc n) least (p ∷ ps) = (pair_field least).Fits p × FitPairs n (p.0 + 1) ps

abbrev pub pair_bytes : ℕ × ℕ → List ℕ
pair_bytes p = word p.0 ++ word p.1

abbrev pub pairs_field : ℕ → Field (List (ℕ × ℕ))
pairs_field n = record { spelled = flat_map pair_bytes; at = pairs_at n 0; Fits = FitPairs n 0 }

unfoldable pub live_field : Field (List (ℕ × ℕ))
live_field = known_as (and_then count_field pairs_field) (λ ps. (length ps, ps)) (λ p. p.1)

-- ---- the image of one of them: fifteen words, the access list, the contents

abbrev pub ImageWords : Type 0
ImageWords = ℕ × (ℕ × (ℕ × (ℕ × (ℕ × (ℕ × (ℕ × (ℕ × (ℕ × (ℕ × (ℕ × (ℕ × (ℕ × (ℕ × ℕ)))))))))))))

abbrev pub ImageParts : Type 0
ImageParts = ImageWords × (List ℕ × List ℕ)

abbrev pub image_parts : Image → ImageParts
image_parts i =
    ((i.vnode, (i.unique, (i.kind, (i.index, (i.data_version, (i.link_count, (i.owner, (i.group, (i.mode, (i.segment_size, (i.client_time, (i.server_time, (i.parent_vnode, (i.parent_unique, i.change_counter)))))))))))))), (i.acl, i.contents))

abbrev pub image_made : ImageParts → Image
image_made p = record {
  vnode = p.0.0;
  unique = p.0.1.0;
  kind = p.0.1.1.0;
  index = p.0.1.1.1.0;
  data_version = p.0.1.1.1.1.0;
  link_count = p.0.1.1.1.1.1.0;
  owner = p.0.1.1.1.1.1.1.0;
  group = p.0.1.1.1.1.1.1.1.0;
  mode = p.0.1.1.1.1.1.1.1.1.0;
  segment_size = p.0.1.1.1.1.1.1.1.1.1.0;
  client_time = p.0.1.1.1.1.1.1.1.1.1.1.0;
  server_time = p.0.1.1.1.1.1.1.1.1.1.1.1.0;
  parent_vnode = p.0.1.1.1.1.1.1.1.1.1.1.1.1.0;
  parent_unique = p.0.1.1.1.1.1.1.1.1.1.1.1.1.1.0;
  change_counter = p.0.1.1.1.1.1.1.1.1.1.1.1.1.1.1;
  acl = p.1.0;
  contents = p.1.1;
}

abbrev pub kind_in : ImageWords → ℕ
kind_in w = w.1.1.0

abbrev pub is_ok : {A E : Type 0} → Result A E → Bool
is_ok {A} {E} (Ok x) = true
is_ok {A} {E} (Err e) = false

-- a directory has an access list that can be read, a file or link none
abbrev pub is_good_acl : ℕ → List ℕ → Bool
is_good_acl kind text = if nat_eq kind directory_type then is_ok (acl_at text) else nat_eq (length text) 0

-- a directory has names that can be read, a file or link any bytes
abbrev pub are_good_contents : ℕ → List ℕ → Bool
are_good_contents kind bytes = if nat_eq kind directory_type then is_ok (directory_of bytes) else true

-- The vnode is the one of the list, of this number and unique number; a directory has an odd number, a file or link an even one.
abbrev pub image_words_field : ℕ × ℕ → Field ImageWords
image_words_field p =
    only (λ n. nat_eq n p.0) word_field before only (λ u. nat_eq u p.1) word_field before only (kind_fits p.0) word_field before word_field before word_field
    before word_field before word_field before word_field before word_field before word_field before word_field before word_field before word_field
    before word_field before word_field

abbrev pub acl_field : ℕ → Field (List ℕ)
acl_field kind = only (is_good_acl kind) (text_field most_acl)

abbrev pub contents_field : ℕ → Field (List ℕ)
contents_field kind = only (are_good_contents kind) (text_field most_contents)

abbrev pub texts_field : ℕ → Field (List ℕ × List ℕ)
texts_field kind = acl_field kind before contents_field kind

unfoldable pub image_field : ℕ × ℕ → Field Image
image_field p = known_as (and_then (image_words_field p) (λ w. texts_field (kind_in w))) image_parts image_made

-- ---- the images of some of them, in the order of the list, each after its tag, until the tag of the end

-- The number of the vnode whose image comes next, or none at the end of the images. The number is still to be read with the image.
abbrev pub number_ahead : List ℕ → FieldTaken (Option ℕ)
number_ahead bytes = word_field.at bytes >>= λ n. took (Some n.0) bytes

unfoldable pub next_at : List ℕ → FieldTaken (Option ℕ)
next_at bytes =
    word_field.at bytes
    >>= λ tag. (if nat_eq tag.0 end_tag then took None tag.1 else (if nat_eq tag.0 vnode_tag then number_ahead tag.1 else bad_at bytes))

-- where no vnode of the list is left, no image may come
abbrev pub only_end : {A : Type 0} → Option ℕ → List ℕ → A → FieldTaken A
only_end {A} None rest none = took none rest
only_end {A} (Some m) rest none = bad_at rest

-- at the end of the images, before the image of the vnode of number n, and before that of another one
abbrev pub by_next : {A : Type 0} → ℕ → Option ℕ → List ℕ → A → FieldTaken A → FieldTaken A → FieldTaken A
by_next {A} n None rest none own other = took none rest
by_next {A} n (Some m) rest none own other = if nat_eq m n then own else other

-- Either the image of the first vnode of the list comes next, or the dump has none of it.
abbrev pub images_at : List (ℕ × ℕ) → List ℕ → FieldTaken (List Image)
images_at [] bytes = next_at bytes >>= λ next. only_end next.0 next.1 []
images_at (p ∷ ps) bytes =
    next_at bytes
    >>= λ next. by_next p.0 next.0 next.1 []
    ((image_field p).at next.1 >>= λ i. (images_at ps i.1 >>= λ is. took (i.0 ∷ is.0) is.1))
    (images_at ps bytes)

abbrev pub image_bytes : Image → List ℕ
image_bytes i = word vnode_tag ++ (image_field (i.vnode, i.unique)).spelled i

abbrev pub FitsEither : Bool → Type 0 → Type 0 → Type 0
FitsEither true own other = own
FitsEither false own other = other

abbrev pub FitImages : List (ℕ × ℕ) → List Image → Type 0
FitImages ps [] = Unit {0}
FitImages [] (i ∷ is) = ⊥
FitImages (p ∷ ps) (i ∷ is) = FitsEither (nat_eq i.vnode p.0) ((image_field p).Fits i × FitImages ps is) (FitImages ps (i ∷ is))

abbrev pub images_field : List (ℕ × ℕ) → Field (List Image)
images_field ps = record { spelled = λ is. flat_map image_bytes is ++ word end_tag; at = images_at ps; Fits = FitImages ps }

-- ---- a dump

abbrev pub DumpParts : Type 0
DumpParts = Headers × ((List (ℕ × ℕ) × List Image) × Unit {0})

abbrev pub dump_parts : Dump → DumpParts
dump_parts d = (d.headers, ((d.live, d.images), tt))

abbrev pub dump_made : DumpParts → Dump
dump_made p = record { headers = p.0; live = p.1.0.0; images = p.1.0.1 }

unfoldable pub dump_field : Field Dump
dump_field = known_as (headers_field before and_then live_field images_field before mark end_magic) dump_parts dump_made

-- the one spelling of a dump
abbrev pub dump_bytes : Dump → List ℕ
dump_bytes d = dump_field.spelled d

abbrev pub FitsDump : Dump → Type 0
FitsDump d = dump_field.Fits d

-- nothing stands after a dump: a byte there is a bad field
abbrev pub dump_ended : Dump → List ℕ → FieldTaken Dump
dump_ended d [] = took d []
dump_ended d (b ∷ bytes) = bad_at (b ∷ bytes)

-- what bytes are as a dump, to the last one
unfoldable pub dump_at : List ℕ → FieldTaken Dump
dump_at bytes = dump_field.at bytes >>= λ d. dump_ended d.0 d.1

-- ---- a dump that is sent in pieces of at most so many bytes

-- the piece from this offset on
abbrev pub piece_at : ℕ → ℕ → List ℕ → List ℕ
piece_at most offset bytes = take most (drop offset bytes)

-- it is the last one
abbrev pub is_last_at : ℕ → ℕ → List ℕ → Bool
is_last_at most offset bytes = not (nat_lt (offset + most) (length bytes))

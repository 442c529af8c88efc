-- A dump that is read as its bytes come. A reader keeps a stage, which has all that was read, and the bytes from there on; it takes the
-- next step as soon as the bytes of that step are whole. So with each piece at most the bytes of one step are looked at again: the headers,
-- a pair of the list, the words of an image, or the count of an access list or of contents.
use Rattle.std.specs.Prelude.{ℕ, zero, suc, ◌+◌, List, [], ◌∷◌, ◌++◌, Option, Some, None}
use Rattle.spec_ideal.specs.Images.{Image}
use Rattle.spec_dumps.specs.Fields.{FieldTaken, took, cut_at, ◌>>=◌, word_field, mark}
use Rattle.spec_dumps.specs.Dumps.{Headers, Dump}
use Rattle.spec_dumps.specs.Streams.{end_magic, headers_field, count_field, pair_field, pairs_at, ImageWords, image_made, kind_in, image_words_field, acl_field, contents_field, next_at, only_end, by_next, images_at}

-- ---- stages

-- A dump whose list was read: `left` are the vnodes of the list whose images may still come, `images` those that came.
pub record Begun : Type 0 where
  pub headers : Headers
  pub live : List (ℕ × ℕ)
  pub left : List (ℕ × ℕ)
  pub images : List Image

-- What comes next. At first that is the headers; then the count of the list; then so many more pairs of it, after these, the next with at
-- least this number. Then come images: the words of one, its access list, and its contents. At last comes the magic of the end, and then
-- nothing.
pub data Stage : Type 0 where
  at_headers : Stage
  at_count : Headers → Stage
  at_pair : Headers → ℕ → ℕ → List (ℕ × ℕ) → Stage
  at_image : Begun → Stage
  at_acl : Begun → ImageWords → Stage
  at_contents : Begun → ImageWords → List ℕ → Stage
  at_magic : Dump → Stage
  at_end : Dump → Stage

abbrev pub begun : Headers → List (ℕ × ℕ) → Begun
begun h live = record { headers = h; live = live; left = live; images = [] }

-- one image more came
abbrev pub with_next : Image → Begun → Begun
with_next i b = record b { images = b.images ++ i ∷ [] }

-- with these images after those that came
abbrev pub dump_with : Begun → List Image → Dump
dump_with b is = record { headers = b.headers; live = b.live; images = b.images ++ is }

-- ---- a step: one field is read, or none is left of its kind

-- The words of the next image, and what is left of the list after its vnode; none at the end of the images.
abbrev pub words_at : List (ℕ × ℕ) → List ℕ → FieldTaken (Option (ImageWords × List (ℕ × ℕ)))
words_at [] bytes = next_at bytes >>= λ next. only_end next.0 next.1 None
words_at (p ∷ ps) bytes =
    next_at bytes >>= λ next. by_next p.0 next.0 next.1 None ((image_words_field p).at next.1 >>= λ w. took (Some (w.0, ps)) w.1) (words_at ps bytes)

abbrev pub after_words : Begun → Option (ImageWords × List (ℕ × ℕ)) → Stage
after_words b None = at_magic (dump_with b [])
after_words b (Some w) = at_acl (record b { left = w.1 }) w.0

abbrev pub stepped : Stage → List ℕ → FieldTaken Stage
stepped at_headers bytes = headers_field.at bytes >>= λ h. took (at_count h.0) h.1
stepped (at_count h) bytes = count_field.at bytes >>= λ n. took (at_pair h n.0 0 []) n.1
stepped (at_pair h zero least ps) bytes = took (at_image (begun h ps)) bytes
stepped (at_pair h (suc n) least ps) bytes = (pair_field least).at bytes >>= λ p. took (at_pair h n (p.0.0 + 1) (ps ++ p.0 ∷ [])) p.1
stepped (at_image b) bytes = words_at b.left bytes >>= λ w. took (after_words b w.0) w.1
stepped (at_acl b w) bytes = (acl_field (kind_in w)).at bytes >>= λ acl. took (at_contents b w acl.0) acl.1
stepped (at_contents b w acl) bytes =
    (contents_field (kind_in w)).at bytes >>= λ c. took (at_image (with_next (image_made (w, (acl, c.0))) b)) c.1
stepped (at_magic d) bytes = (mark end_magic).at bytes >>= λ u. took (at_end d) u.1
stepped (at_end d) bytes = cut_at bytes

-- ---- what the bytes from a stage on are

abbrev pub magic_from : Dump → List ℕ → FieldTaken Dump
magic_from d bytes = (mark end_magic).at bytes >>= λ u. took d u.1

abbrev pub images_from : Begun → List ℕ → FieldTaken Dump
images_from b bytes = images_at b.left bytes >>= λ is. magic_from (dump_with b is.0) is.1

abbrev pub contents_from : Begun → ImageWords → List ℕ → List ℕ → FieldTaken Dump
contents_from b w acl bytes = (contents_field (kind_in w)).at bytes >>= λ c. images_from (with_next (image_made (w, (acl, c.0))) b) c.1

abbrev pub acl_from : Begun → ImageWords → List ℕ → FieldTaken Dump
acl_from b w bytes = (acl_field (kind_in w)).at bytes >>= λ acl. contents_from b w acl.0 acl.1

abbrev pub pairs_from : Headers → ℕ → ℕ → List (ℕ × ℕ) → List ℕ → FieldTaken Dump
pairs_from h n least ps bytes = pairs_at n least bytes >>= λ qs. images_from (begun h (ps ++ qs.0)) qs.1

abbrev pub count_from : Headers → List ℕ → FieldTaken Dump
count_from h bytes = count_field.at bytes >>= λ n. pairs_from h n.0 0 [] n.1

abbrev pub read_on : Stage → List ℕ → FieldTaken Dump
read_on at_headers bytes = headers_field.at bytes >>= λ h. count_from h.0 h.1
read_on (at_count h) bytes = count_from h bytes
read_on (at_pair h n least ps) bytes = pairs_from h n least ps bytes
read_on (at_image b) bytes = images_from b bytes
read_on (at_acl b w) bytes = acl_from b w bytes
read_on (at_contents b w acl) bytes = contents_from b w acl bytes
read_on (at_magic d) bytes = magic_from d bytes
read_on (at_end d) bytes = took d bytes

-- nothing may come any more
abbrev pub IsAtEnd : Stage → Type 0
IsAtEnd (at_end d) = Unit {0}
IsAtEnd stage = ⊥

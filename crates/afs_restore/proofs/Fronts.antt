-- What a step reads is spelled as the bytes that it takes away.
use Rattle.std.proofs.Common.{◌≡◌, ℕ, zero, suc, ◌+◌, ◌-◌, ◌≤◌, ◌<◌, Bool, true, false, cond, List, [], ◌∷◌, ◌++◌, length, drop, take, Option, Some, None, nat_eq, refl, sym, ap, subst, ◌∙◌, append_assoc, append-nil, arith}
use Rattle.std.specs.List.{flat_map}
use Rattle.std.proofs.Math.Seq.{drop-append_seam}
use Rattle.std.proofs.lemmas.List.{length-append, take-append-drop}
use Rattle.afs_xdr.specs.Words.{word, opaque, IsBytes}
use Rattle.spec_shape.proofs.Codecs.{Takes, Takes-then}
use Rattle.spec_dumps.specs.Dumps.{Headers}
use Rattle.spec_dumps.specs.Feeding.{Begun, Stage, at_headers, at_count, at_pair, at_image, at_acl, at_contents, at_magic, at_end, after_words, stepped, with_next, words_at}
use Rattle.spec_dumps.specs.Fields.{Field, took, cut_at, ◌>>=◌, mark}
use Rattle.spec_dumps.specs.Streams.{acl_field, contents_field, count_field, dump_header_field, dump_header_tag, end_magic, end_tag, headers_field, image_bytes, image_field, image_made, image_words_field, next_at, pair_bytes, pair_field, vnode_tag, ImageWords}
use Rattle.spec_dumps.proofs.Fields.{bound, mark_good, took_is, IsGoodField}
use Rattle.spec_dumps.proofs.Streams.{acl_good, contents_good, count_good, headers_good, next_is, pair_is_good, words_are_good, NextIs}
use Rattle.afs_restore.specs.Parts.{dump_in}
use Rattle.afs_restore.specs.Reading.{headers_told, words_in}
use Rattle.afs_restore.specs.ReadOn.{bytes_before, bytes_read, images_bytes, list_bytes}
use Rattle.afs_restore.specs.Steps.{begun_in, past_pairs, stage_of, stepped_past, IsStep}
use Rattle.afs_restore.specs.declared.parts.Parts.{Parts}
use Rattle.afs_restore.specs.declared.steps.Step.{Step}
use Rattle.afs_restore.specs.declared.steps.Step.TheVariants as steps
use Rattle.afs_restore.proofs.Lists.{one_more}
use Rattle.afs_restore.proofs.Stepped.{found_words, words_found}

-- These bytes were taken away, at least one, and this is left.
pub record IsFront (stage next : Stage) (bytes rest : List ℕ) : Type 0 where
  pub front : List ℕ
  pub some : 1 ≤ length front
  pub parts : bytes ≡ front ++ rest
  pub told : bytes_before next ≡ bytes_before stage ++ front
  pub fits : IsBytes rest

-- ---- each field has a byte

word_long : (n : ℕ) → 1 ≤ length (word n)
unfolding word
word_long n = omega arith

front_some : (front more : List ℕ) → 1 ≤ length front → 1 ≤ length (front ++ more)
front_some front more long = let many = length-append front more in omega (arith, long, many)

word_some : (n : ℕ) (more : List ℕ) → 1 ≤ length (word n ++ more)
word_some n more = front_some (word n) more (word_long n)

headers_some : (h : Headers) → 1 ≤ length (headers_field.spelled h)
unfolding dump_header_field
headers_some h = front_some _ _ (word_some dump_header_tag _)

text_some : (text : List ℕ) → 1 ≤ length (opaque text)
unfolding opaque
text_some text = word_some (length text) _

-- ---- a field that is read

past_told : (s : Stage) → bytes_before (past_pairs s) ≡ bytes_before s
unfolding bytes_before
past_told at_headers = refl
past_told (at_count h) = refl
past_told (at_pair h zero least ps) = let n : length ps ≡ length ps + 0 = omega arith in append-nil (list_bytes h (length ps) ps) ∙ ap (λ (k : ℕ). list_bytes h k ps) n
past_told (at_pair h (suc n) least ps) = refl
past_told (at_image b) = refl
past_told (at_acl b w) = refl
past_told (at_contents b w acl) = refl
past_told (at_magic d) = refl
past_told (at_end d) = refl

-- the next stage, and what is left
pub record IsPast (stage next : Stage) (bytes rest : List ℕ) : Type 0 where
  pub middle : Stage
  pub is : past_pairs middle ≡ next
  pub taken : stepped stage bytes ≡ took middle rest

pub past_is : (stage next : Stage) (bytes rest : List ℕ) → stepped_past stage bytes ≡ took next rest → IsPast stage next bytes rest
unfolding stepped_past
past_is stage next bytes rest e =
    let a = bound (stepped stage bytes) (λ s. took (past_pairs s.0) s.1) next rest e in
    let both = took_is (past_pairs a.value) next a.left rest a.second in
    record { middle = a.value; is = both.0; taken = a.first ∙ ap (λ (r : List ℕ). took a.value r) both.1 }

of_takes : (stage middle next : Stage) (bytes front rest : List ℕ) → past_pairs middle ≡ next → 1 ≤ length front → Takes bytes front rest → bytes_before middle ≡ bytes_before stage ++ front → IsFront stage next bytes rest
of_takes stage middle next bytes front rest is some t told =
    record { front = front; some = some; parts = t.parts; told = ap bytes_before (sym is) ∙ (past_told middle ∙ told); fits = t.rest_fits }

of_field : {A : Type 0} (field : Field A) (stage next : Stage) (then : A → Stage) (bytes rest : List ℕ) → IsGoodField field → ((x : A) → 1 ≤ length (field.spelled x)) → ((x : A) → bytes_before (then x) ≡ bytes_before stage ++ field.spelled x) →
    ((left : List ℕ) → stepped stage left ≡ (field.at left >>= λ x. took (then x.0) x.1)) → IsBytes bytes → stepped_past stage bytes ≡ took next rest → IsFront stage next bytes rest
of_field {A} field stage next then bytes rest good some told first fits e =
    let p = past_is stage next bytes rest e in
    let b = bound (field.at bytes) (λ x. took (then x.0) x.1) p.middle rest (sym (first bytes) ∙ p.taken) in
    let both = took_is (then b.value) p.middle b.left rest b.second in
    let t = (good.takes bytes b.value b.left fits b.first).0 in
    of_takes stage (then b.value) next bytes (field.spelled b.value) rest (ap past_pairs both.0 ∙ p.is) (some b.value) (subst (λ (r : List ℕ). Takes bytes (field.spelled b.value) r) both.1 t) (told b.value)

-- ---- the count, and the pairs

count_told : (h : Headers) (n : ℕ) → bytes_before (at_pair h n 0 []) ≡ bytes_before (at_count h) ++ word n
unfolding bytes_before
count_told h n = ap (λ (k : ℕ). list_bytes h k []) (let z : 0 + n ≡ n = omega arith in z) ∙ append-nil (headers_field.spelled h ++ word n)

pair_told : (h : Headers) (n least low : ℕ) (ps : List (ℕ × ℕ)) (p : ℕ × ℕ) → bytes_before (at_pair h n low (ps ++ p ∷ [])) ≡ bytes_before (at_pair h (suc n) least ps) ++ pair_bytes p
unfolding bytes_before
pair_told h n least low ps p =
    let many = length-append ps (p ∷ []) in
    let count : length (ps ++ p ∷ []) + n ≡ length ps + suc n = omega (arith, many) in
    ap (λ (k : ℕ). list_bytes h k (ps ++ p ∷ [])) count
    ∙ (ap (λ (t : List ℕ). (headers_field.spelled h ++ word (length ps + suc n)) ++ t) (one_more pair_bytes ps p)
    ∙ sym (append_assoc (headers_field.spelled h ++ word (length ps + suc n)) (flat_map pair_bytes ps) (pair_bytes p)))

-- ---- an image

regroup : (list images tag words acl contents : List ℕ) → list ++ (images ++ (tag ++ (words ++ (acl ++ contents)))) ≡ ((((list ++ images) ++ tag) ++ words) ++ acl) ++ contents
regroup list images tag words acl contents = simp append_assoc

contents_told : (b : Begun) (w : ImageWords) (acl c : List ℕ) → bytes_before (at_image (with_next (image_made (w, (acl, c))) b)) ≡ bytes_before (at_contents b w acl) ++ opaque c
unfolding bytes_before image_field
contents_told b w acl c =
    ap (λ (t : List ℕ). list_bytes b.headers (length b.live) b.live ++ t) (one_more image_bytes b.images (image_made (w, (acl, c))))
    ∙ regroup (list_bytes b.headers (length b.live) b.live) (flat_map image_bytes b.images) (word vnode_tag) ((image_words_field (w.0, w.1.0)).spelled w) (opaque acl) (opaque c)

-- the words of the next image after its tag, or the tag of the end
abbrev TakesWords : Option (ImageWords × List (ℕ × ℕ)) → List ℕ → List ℕ → Type 0
TakesWords None bytes rest = Takes bytes (word end_tag) rest
TakesWords (Some w) bytes rest = Takes bytes (word vnode_tag ++ (image_words_field (w.0.0, w.0.1.0)).spelled w.0) rest

found_by : (b : Bool) (p : ℕ × ℕ) (ps : List (ℕ × ℕ)) (m : ℕ) (bytes left : List ℕ) (o : Option (ImageWords × List (ℕ × ℕ))) (rest : List ℕ) → Takes bytes (word vnode_tag) left → IsBytes left →
    (found_words ps (Some m) left ≡ took o rest → TakesWords o bytes rest) →
    cond b ((image_words_field p).at left >>= λ w. took (Some (w.0, ps)) w.1) (found_words ps (Some m) left) ≡ took o rest → TakesWords o bytes rest
found_by true p ps m bytes left o rest tag fits more e =
    let w = bound ((image_words_field p).at left) (λ w. took (Some (w.0, ps)) w.1) o rest e in
    let both = took_is (Some (w.value, ps)) o w.left rest w.second in
    let t = ((words_are_good p).takes left w.value w.left fits w.first).0 in
    subst (λ (v : Option (ImageWords × List (ℕ × ℕ))). TakesWords v bytes rest) both.0
    (subst (λ (r : List ℕ). TakesWords (Some (w.value, ps)) bytes r) both.1 (Takes-then bytes (word vnode_tag) left ((image_words_field p).spelled w.value) w.left tag t))
found_by false p ps m bytes left o rest tag fits more e = more e

found_take : (ps : List (ℕ × ℕ)) (m : ℕ) (bytes left : List ℕ) (o : Option (ImageWords × List (ℕ × ℕ))) (rest : List ℕ) → Takes bytes (word vnode_tag) left → IsBytes left → found_words ps (Some m) left ≡ took o rest → TakesWords o bytes rest
found_take [] m bytes left o rest tag fits e = absurd cc
found_take (p ∷ ps) m bytes left o rest tag fits e = found_by (nat_eq m p.0) p ps m bytes left o rest tag fits (found_take ps m bytes left o rest tag fits) e

next_take : (ps : List (ℕ × ℕ)) (n : Option ℕ) (bytes left : List ℕ) (o : Option (ImageWords × List (ℕ × ℕ))) (rest : List ℕ) → NextIs bytes n left → found_words ps n left ≡ took o rest → TakesWords o bytes rest
next_take ps None bytes left o rest tag e =
    let both = took_is None o left rest e in
    subst (λ (v : Option (ImageWords × List (ℕ × ℕ))). TakesWords v bytes rest) both.0 (subst (λ (r : List ℕ). Takes bytes (word end_tag) r) both.1 tag)
next_take ps (Some m) bytes left o rest tag e = found_take ps m bytes left o rest tag tag.rest_fits e

words_take : (ps : List (ℕ × ℕ)) (bytes : List ℕ) (o : Option (ImageWords × List (ℕ × ℕ))) (rest : List ℕ) → IsBytes bytes → words_at ps bytes ≡ took o rest → TakesWords o bytes rest
words_take ps bytes o rest fits e =
    let n = bound (next_at bytes) (λ n. found_words ps n.0 n.1) o rest (sym (words_found ps bytes) ∙ e) in
    next_take ps n.value bytes n.left o rest (next_is bytes n.value n.left fits n.first) n.second

image_front : (b : Begun) (o : Option (ImageWords × List (ℕ × ℕ))) (next : Stage) (bytes rest : List ℕ) → past_pairs (after_words b o) ≡ next → TakesWords o bytes rest → IsFront (at_image b) next bytes rest
unfolding bytes_before
image_front b None next bytes rest is t =
    of_takes (at_image b) (after_words b None) next bytes (word end_tag) rest is (word_long end_tag) t (ap (λ (t : List ℕ). (list_bytes b.headers (length b.live) b.live ++ t) ++ word end_tag) (ap (flat_map image_bytes) (append-nil b.images)))
image_front b (Some w) next bytes rest is t =
    of_takes (at_image b) (after_words b (Some w)) next bytes (word vnode_tag ++ (image_words_field (w.0.0, w.0.1.0)).spelled w.0) rest is (word_some vnode_tag _) t
    (append_assoc (images_bytes b.headers b.live b.images) (word vnode_tag) ((image_words_field (w.0.0, w.0.1.0)).spelled w.0))

none_after : (bytes : List ℕ) (s : Stage) (rest : List ℕ) → cut_at bytes ≡ took s rest → ⊥
none_after bytes s rest e = cc

-- ---- each step

pub step_front : (step : Step) (p : Parts) (next : Stage) (bytes rest : List ℕ) → IsStep step p → IsBytes bytes → stepped_past (stage_of step p) bytes ≡ took next rest → IsFront (stage_of step p) next bytes rest
unfolding stage_of bytes_before
step_front steps.Headers p next bytes rest may fits e = of_field headers_field at_headers next at_count bytes rest headers_good headers_some (λ h. refl) (λ left. refl) fits e
step_front steps.Count p next bytes rest may fits e =
    of_field count_field (at_count (headers_told p.headers)) next (λ n. at_pair (headers_told p.headers) n 0 []) bytes rest count_good word_long (count_told (headers_told p.headers)) (λ left. refl) fits e
step_front (steps.Pair zero least) p next bytes rest may fits e = absurd (let some = may.0 in omega (arith, some))
step_front (steps.Pair (suc n) least) p next bytes rest may fits e =
    of_field (pair_field least) (at_pair (headers_told p.headers) (suc n) least p.live.items) next (λ q. at_pair (headers_told p.headers) n (q.0 + 1) (p.live.items ++ q ∷ [])) bytes rest (pair_is_good least) (λ q. word_some q.0 _)
    (λ q. pair_told (headers_told p.headers) n least (q.0 + 1) p.live.items q) (λ left. refl) fits e
step_front (steps.Image place) p next bytes rest may fits e =
    let b : Begun = begun_in place p in
    let past = past_is (at_image b) next bytes rest e in
    let w = bound (words_at b.left bytes) (λ w. took (after_words b w.0) w.1) past.middle rest past.taken in
    let both = took_is (after_words b w.value) past.middle w.left rest w.second in
    image_front b w.value next bytes rest (ap past_pairs both.0 ∙ past.is) (subst (λ (r : List ℕ). TakesWords w.value bytes r) both.1 (words_take b.left bytes w.value w.left fits w.first))
step_front (steps.Acl place) p next bytes rest may fits e =
    let b : Begun = begun_in place p in
    of_field (acl_field p.next.kind) (at_acl b (words_in p.next)) next (λ acl. at_contents b (words_in p.next) acl) bytes rest (acl_good p.next.kind) text_some (λ acl. refl) (λ left. refl) fits e
step_front (steps.Contents place) p next bytes rest may fits e =
    let b : Begun = begun_in place p in
    of_field (contents_field p.next.kind) (at_contents b (words_in p.next) p.next.acl) next (λ c. at_image (with_next (image_made (words_in p.next, (p.next.acl, c))) b)) bytes rest (contents_good p.next.kind) text_some
    (contents_told b (words_in p.next) p.next.acl) (λ left. refl) fits e
step_front steps.Magic p next bytes rest may fits e = of_field (mark end_magic) (at_magic (dump_in p)) next (λ u. at_end (dump_in p)) bytes rest (mark_good end_magic) (λ u. word_long end_magic) (λ u. refl) (λ left. refl) fits e
step_front steps.End p next bytes rest may fits e = let past = past_is (at_end (dump_in p)) next bytes rest e in absurd (none_after bytes past.middle rest past.taken)

-- ---- what is left

-- fewer bytes
pub front_less : (stage next : Stage) (bytes rest : List ℕ) → IsFront stage next bytes rest → length rest < length bytes
front_less stage next bytes rest r =
    let some = r.some in
    let all : length bytes ≡ length (r.front ++ rest) = ap (λ (t : List ℕ). length t) r.parts in
    let many = length-append r.front rest in
    omega (arith, some, all, many)

-- and where they begin
pub front_place : (stage next : Stage) (bytes left rest : List ℕ) (at : ℕ) → left ≡ drop at bytes → IsFront stage next left rest → rest ≡ drop (length bytes - length rest) bytes
front_place stage next bytes left rest at here r =
    let front : List ℕ = take at bytes ++ r.front in
    let parts : bytes ≡ front ++ rest =
    sym (take-append-drop at bytes) ∙ (ap (λ (t : List ℕ). take at bytes ++ t) (sym here ∙ r.parts) ∙ sym (append_assoc (take at bytes) r.front rest)) in
    let all : length bytes ≡ length (front ++ rest) = ap (λ (t : List ℕ). length t) parts in
    let many = length-append front rest in
    let place : length bytes - length rest ≡ length front = omega (arith, all, many) in
    sym (ap (λ (n : ℕ). drop n bytes) place ∙ (ap (λ (t : List ℕ). drop (length front) t) parts ∙ drop-append_seam front rest))

-- the same bytes were read
pub same_bytes : (step later : Step) (p q : Parts) (bytes rest : List ℕ) → IsFront (stage_of step p) (stage_of later q) bytes rest → bytes_read later q rest ≡ bytes_read step p bytes
unfolding bytes_read
same_bytes step later p q bytes rest r =
    ap (λ (t : List ℕ). t ++ rest) r.told ∙ (append_assoc (bytes_before (stage_of step p)) r.front rest ∙ ap (λ (t : List ℕ). bytes_before (stage_of step p) ++ t) (sym r.parts))

-- A field that was read brings the reader to the next stage; one that is cut, or no good, stops it there.
use Rattle.std.proofs.Common.{◌≡◌, ℕ, zero, suc, ◌+◌, ◌-◌, ◌<◌, List, [], ◌∷◌, ◌++◌, drop, slice_get, Option, Some, None, refl, sym, ap, subst, ◌∙◌, append-nil, arith}
use Rattle.std.specs.Prelude.{Err}
use Rattle.std.proofs.lemmas.List.{drop-drop}
use Rattle.afs_xdr.specs.Reading.{Reading}
use Rattle.spec_ideal.specs.Images.{Image}
use Rattle.spec_dumps.specs.Feeding.{Stage, at_count, at_pair, at_image, at_contents, at_magic, at_end, after_words, stepped, with_next, words_at}
use Rattle.spec_dumps.specs.Fields.{FieldTaken, took, cut_at, bad_at, ◌>>=◌, mark}
use Rattle.spec_dumps.specs.Streams.{acl_field, contents_field, count_field, end_magic, headers_field, image_made, image_words_field, next_at, pair_field, ImageWords}
use Rattle.afs_restore.specs.Parts.{dump_in, IsAtFirst}
use Rattle.afs_restore.specs.Reading.{headers_told, words_in, ReadsField}
use Rattle.afs_restore.specs.Steps.{begun_in, past_pairs, pairs_step, stage_of, stepped_past, IsPlaceOf, IsStep}
use Rattle.afs_restore.specs.declared.headers.Headers as read
use Rattle.afs_restore.specs.declared.parts.Parts.{Parts}
use Rattle.afs_restore.specs.declared.steps.Step.TheVariants as steps
use Rattle.afs_restore.specs.declared.stops.Stop.{Stop}
use Rattle.afs_restore.specs.declared.stops.Stop.TheVariants as stops
use Rattle.afs_restore.proofs.Stepped.{found_here, found_nowhere, found_words, words_found}

-- ---- a field that isn't there

-- the stage reads this field first
abbrev pub Begins : {Y : Type 0} → Stage → (List ℕ → FieldTaken Y) → Type 0
Begins {Y} stage at = (f : Y × List ℕ → FieldTaken Stage) × ((bytes : List ℕ) → stepped stage bytes ≡ (at bytes >>= f))

past_stop : (stage : Stage) (bytes : List ℕ) (o : FieldTaken Stage) → stepped stage bytes ≡ o → stepped_past stage bytes ≡ (o >>= λ s. took (past_pairs s.0) s.1)
unfolding stepped_past
past_stop stage bytes o e = ap (λ (t : FieldTaken Stage). t >>= λ s. took (past_pairs s.0) s.1) e

pub stops_at : {X Y Z : Type 0} (at : List ℕ → FieldTaken Y) (view : X → Y) (later : Z → Stage) (stage : Stage) (e : Stop) (old new : Reading) → Begins stage at → ReadsField at view old new (Err e) → ReadsField (stepped_past stage) later old new (Err e)
stops_at {X} {Y} {Z} at view later stage stops.Cut old new begins h = past_stop stage old.left (cut_at new.left) (begins.1 old.left ∙ ap (λ (t : FieldTaken Y). t >>= begins.0) h)
stops_at {X} {Y} {Z} at view later stage stops.Bad old new begins h = past_stop stage old.left (bad_at new.left) (begins.1 old.left ∙ ap (λ (t : FieldTaken Y). t >>= begins.0) h)
stops_at {X} {Y} {Z} at view later stage stops.OutOfMemory old new begins h = tt

pub headers_first : (p : Parts) → Begins (stage_of steps.Headers p) headers_field.at
unfolding stage_of
headers_first p = (λ h. took (at_count h.0) h.1, λ bytes. refl)

pub count_first : (p : Parts) → Begins (stage_of steps.Count p) count_field.at
unfolding stage_of
count_first p = (λ n. took (at_pair (headers_told p.headers) n.0 0 []) n.1, λ bytes. refl)

pub pair_first : (more least : ℕ) (p : Parts) → 0 < more → Begins (stage_of (steps.Pair more least) p) (pair_field least).at
unfolding stage_of
pair_first zero least p some = absurd (omega (arith, some))
pair_first (suc more) least p some = (λ q. took (at_pair (headers_told p.headers) more (q.0.0 + 1) (p.live.items ++ q.0 ∷ [])) q.1, λ bytes. refl)

pub acl_first : (place : ℕ) (p : Parts) → Begins (stage_of (steps.Acl place) p) (acl_field p.next.kind).at
unfolding stage_of
acl_first place p = (λ acl. took (at_contents (begun_in place p) (words_in p.next) acl.0) acl.1, λ bytes. refl)

pub contents_first : (place : ℕ) (p : Parts) → Begins (stage_of (steps.Contents place) p) (contents_field p.next.kind).at
unfolding stage_of
contents_first place p = (λ c. took (at_image (with_next (image_made (words_in p.next, (p.next.acl, c.0))) (begun_in place p))) c.1, λ bytes. refl)

pub magic_first : (p : Parts) → Begins (stage_of steps.Magic p) (mark end_magic).at
unfolding stage_of
magic_first p = (λ u. took (at_end (dump_in p)) u.1, λ bytes. refl)

first_of : (o : FieldTaken (Option ℕ)) (place : ℕ) (p : Parts) →
    ((o >>= λ x. found_words (drop place p.live.items) x.0 x.1) >>= λ w. took (after_words (begun_in place p) w.0) w.1)
    ≡ (o >>= λ x. (found_words (drop place p.live.items) x.0 x.1 >>= λ w. took (after_words (begun_in place p) w.0) w.1))
first_of (took o rest) place p = refl
first_of (cut_at left) place p = refl
first_of (bad_at left) place p = refl

pub image_first : (place : ℕ) (p : Parts) → Begins (stage_of (steps.Image place) p) next_at
unfolding stage_of
image_first place p = (
  λ x. (found_words (drop place p.live.items) x.0 x.1 >>= λ w. took (after_words (begun_in place p) w.0) w.1),
  λ bytes. ap (λ (t : FieldTaken (Option (ImageWords × List (ℕ × ℕ)))). t >>= λ w. took (after_words (begun_in place p) w.0) w.1) (words_found (drop place p.live.items) bytes) ∙ first_of (next_at bytes) place p,
)

-- ---- a field that was read

-- the stage after it, past the pairs
past : {Y : Type 0} → (Y × List ℕ → FieldTaken Stage) → FieldTaken Y → FieldTaken Stage
past {Y} f o = (o >>= f) >>= λ s. took (past_pairs s.0) s.1

pub headers_taken : (p q : Parts) (left rest : List ℕ) → headers_field.at left ≡ took (headers_told q.headers) rest → stepped_past (stage_of steps.Headers p) left ≡ took (stage_of steps.Count q) rest
unfolding stage_of stepped_past past
headers_taken p q left rest e = ap (past (λ h. took (at_count h.0) h.1)) e

-- as many pairs come as are counted, or the images
pairs_next : (n least : ℕ) (p : Parts) → p.images.items ≡ [] → past_pairs (at_pair (headers_told p.headers) n least p.live.items) ≡ stage_of (pairs_step n least) p
unfolding stage_of
pairs_next zero least p none = ap (λ (is : List Image). at_image (record { headers = headers_told p.headers; live = p.live.items; left = p.live.items; images = is })) (sym none)
pairs_next (suc n) least p none = refl

pub count_taken : (p : Parts) (left rest : List ℕ) (n : ℕ) → IsAtFirst p → count_field.at left ≡ took n rest → stepped_past (stage_of steps.Count p) left ≡ took (stage_of (pairs_step n 0) p) rest
unfolding stage_of stepped_past past
count_taken p left rest n first e =
    ap (past (λ k. took (at_pair (headers_told p.headers) k.0 0 []) k.1)) e
    ∙ (ap (λ (ps : List (ℕ × ℕ)). took (past_pairs (at_pair (headers_told p.headers) n 0 ps)) rest) (sym first.live)
    ∙ ap (λ (s : Stage). took s rest) (pairs_next n 0 p first.images))

pub pair_taken : (p q : Parts) (more least : ℕ) (one : ℕ × ℕ) (left rest : List ℕ) → IsStep (steps.Pair more least) p → q.headers ≡ p.headers → q.images.items ≡ p.images.items → q.live.items ≡ p.live.items ++ one ∷ [] →
    (pair_field least).at left ≡ took one rest → stepped_past (stage_of (steps.Pair more least) p) left ≡ took (stage_of (pairs_step (more - 1) (one.0 + 1)) q) rest
unfolding stage_of stepped_past past
pair_taken p q zero least one left rest may heads images live e = absurd (let some = may.0 in omega (arith, some))
pair_taken p q (suc more) least one left rest may heads images live e =
    let before : suc more - 1 ≡ more = omega arith in
    ap (past (λ x. took (at_pair (headers_told p.headers) more (x.0.0 + 1) (p.live.items ++ x.0 ∷ [])) x.1)) e
    ∙ (ap (λ (ps : List (ℕ × ℕ)). took (past_pairs (at_pair (headers_told p.headers) more (one.0 + 1) ps)) rest) (sym live)
    ∙ (ap (λ (h : read.Headers). took (past_pairs (at_pair (headers_told h) more (one.0 + 1) q.live.items)) rest) (sym heads)
    ∙ (ap (λ (s : Stage). took s rest) (pairs_next more (one.0 + 1) q (images ∙ may.1))
    ∙ ap (λ (k : ℕ). took (stage_of (pairs_step k (one.0 + 1)) q) rest) (sym before))))

pub acl_taken : (place : ℕ) (p q : Parts) (acl left rest : List ℕ) → q ≡ record p { next = record p.next { acl = acl } } → (acl_field p.next.kind).at left ≡ took acl rest →
    stepped_past (stage_of (steps.Acl place) p) left ≡ took (stage_of (steps.Contents place) q) rest
unfolding stage_of stepped_past past
acl_taken place p q acl left rest is e =
    ap (past (λ a. took (at_contents (begun_in place p) (words_in p.next) a.0) a.1)) e ∙ ap (λ (r : Parts). took (stage_of (steps.Contents place) r) rest) (sym is)

pub contents_taken : (place : ℕ) (p q : Parts) (contents left rest : List ℕ) → q.headers ≡ p.headers → q.live.items ≡ p.live.items → q.images.items ≡ p.images.items ++ record p.next { contents = contents } ∷ [] →
    (contents_field p.next.kind).at left ≡ took contents rest → stepped_past (stage_of (steps.Contents place) p) left ≡ took (stage_of (steps.Image place) q) rest
unfolding stage_of stepped_past past
contents_taken place p q contents left rest heads live images e =
    let made : read.Headers → List (ℕ × ℕ) → List Image → FieldTaken Stage = λ h ps is. took (at_image (record { headers = headers_told h; live = ps; left = drop place ps; images = is })) rest in
    ap (past (λ c. took (at_image (with_next (image_made (words_in p.next, (p.next.acl, c.0))) (begun_in place p))) c.1)) e
    ∙ (ap (λ (is : List Image). made p.headers p.live.items is) (sym images)
    ∙ (ap (λ (ps : List (ℕ × ℕ)). made p.headers ps q.images.items) (sym live) ∙ ap (λ (h : read.Headers). made h q.live.items q.images.items) (sym heads)))

pub magic_taken : (p : Parts) (left rest : List ℕ) → (mark end_magic).at left ≡ took tt rest → stepped_past (stage_of steps.Magic p) left ≡ took (stage_of steps.End p) rest
unfolding stage_of stepped_past past
magic_taken p left rest e = ap (past (λ u. took (at_end (dump_in p)) u.1)) e

-- ---- an image, whose vnode was looked for in what is left of the list

image_met : (place : ℕ) (p : Parts) (left : List ℕ) (o : FieldTaken (Option (ImageWords × List (ℕ × ℕ)))) → words_at (drop place p.live.items) left ≡ o →
    stepped_past (stage_of (steps.Image place) p) left ≡ past (λ w. took (after_words (begun_in place p) w.0) w.1) o
unfolding stage_of stepped_past past
image_met place p left o e = ap (past (λ w. took (after_words (begun_in place p) w.0) w.1)) e

next_met : (place : ℕ) (p : Parts) (left : List ℕ) (o : FieldTaken (Option ℕ)) → next_at left ≡ o → words_at (drop place p.live.items) left ≡ (o >>= λ x. found_words (drop place p.live.items) x.0 x.1)
next_met place p left o e = words_found (drop place p.live.items) left ∙ ap (λ (t : FieldTaken (Option ℕ)). t >>= λ x. found_words (drop place p.live.items) x.0 x.1) e

pub end_taken : (place : ℕ) (p : Parts) (left rest : List ℕ) → next_at left ≡ took None rest → stepped_past (stage_of (steps.Image place) p) left ≡ took (stage_of steps.Magic p) rest
unfolding stage_of past
end_taken place p left rest tag =
    image_met place p left (took None rest) (next_met place p left (took None rest) tag)
    ∙ ap (λ (is : List Image). took (at_magic (record { headers = headers_told p.headers; live = p.live.items; images = is })) rest) (append-nil p.images.items)

-- the words of the next image, where its vnode stands so far behind a place of the list
words_on : (place k m : ℕ) (pair : ℕ × ℕ) (p : Parts) (list : List (ℕ × ℕ)) (left next : List ℕ) (o : FieldTaken ImageWords) → list ≡ drop place p.live.items → next_at left ≡ took (Some m) next → slice_get list k ≡ Some pair →
    IsPlaceOf list m (Some k) → (image_words_field pair).at next ≡ o → words_at (drop place p.live.items) left ≡ (o >>= λ w. took (Some (w.0, drop (place + k + 1) p.live.items)) w.1)
words_on place k m pair p list left next o is tag at_list found_list words =
    let live : List (ℕ × ℕ) = p.live.items in
    let here : slice_get (drop place live) k ≡ Some pair = subst (λ (ps : List (ℕ × ℕ)). slice_get ps k ≡ Some pair) is at_list in
    let found : IsPlaceOf (drop place live) m (Some k) = subst (λ (ps : List (ℕ × ℕ)). IsPlaceOf ps m (Some k)) is found_list in
    let after : drop (k + 1) (drop place live) ≡ drop (place + k + 1) live = drop-drop (k + 1) place live ∙ ap (λ (n : ℕ). drop n live) (let z : place + (k + 1) ≡ place + k + 1 = omega arith in z) in
    next_met place p left (took (Some m) next) tag
    ∙ (found_here (drop place live) k m pair next here (found.1.0 pair here) (λ j q lt e. found.1.1 j q lt e)
    ∙ (ap (λ (t : FieldTaken ImageWords). t >>= λ w. took (Some (w.0, drop (k + 1) (drop place live))) w.1) words
    ∙ ap (λ (qs : List (ℕ × ℕ)). o >>= λ w. took (Some (w.0, qs)) w.1) after))

pub image_taken : (place k m : ℕ) (pair : ℕ × ℕ) (x : Image) (p q : Parts) (list : List (ℕ × ℕ)) (left mid rest : List ℕ) → list ≡ drop place p.live.items → next_at left ≡ took (Some m) mid → slice_get list k ≡ Some pair → IsPlaceOf list m (Some k) →
    (image_words_field pair).at mid ≡ took (words_in x) rest → q ≡ record p { next = x } → stepped_past (stage_of (steps.Image place) p) left ≡ took (stage_of (steps.Acl (place + k + 1)) q) rest
unfolding stage_of past
image_taken place k m pair x p q list left mid rest is tag here found words own =
    image_met place p left (took (Some (words_in x, drop (place + k + 1) p.live.items)) rest) (words_on place k m pair p list left mid (took (words_in x) rest) is tag here found words)
    ∙ ap (λ (r : Parts). took (stage_of (steps.Acl (place + k + 1)) r) rest) (sym own)

pub image_stopped : {Z : Type 0} (later : Z → Stage) (place k m : ℕ) (pair : ℕ × ℕ) (e : Stop) (p : Parts) (list : List (ℕ × ℕ)) (old mid new : Reading) → list ≡ drop place p.live.items → next_at old.left ≡ took (Some m) mid.left → slice_get list k ≡ Some pair →
    IsPlaceOf list m (Some k) → ReadsField (image_words_field pair).at words_in mid new (Err e) → ReadsField (stepped_past (stage_of (steps.Image place) p)) later old new (Err e)
unfolding past
image_stopped {Z} later place k m pair stops.Cut p list old mid new is tag here found words =
    image_met place p old.left (cut_at new.left) (words_on place k m pair p list old.left mid.left (cut_at new.left) is tag here found words)
image_stopped {Z} later place k m pair stops.Bad p list old mid new is tag here found words =
    image_met place p old.left (bad_at new.left) (words_on place k m pair p list old.left mid.left (bad_at new.left) is tag here found words)
image_stopped {Z} later place k m pair stops.OutOfMemory p list old mid new is tag here found words = tt

pub nowhere_stopped : (place m : ℕ) (p : Parts) (list : List (ℕ × ℕ)) (left rest : List ℕ) → list ≡ drop place p.live.items → next_at left ≡ took (Some m) rest → IsPlaceOf list m None → stepped_past (stage_of (steps.Image place) p) left ≡ bad_at rest
unfolding past
nowhere_stopped place m p list left rest is tag none =
    let nowhere : IsPlaceOf (drop place p.live.items) m None = subst (λ (ps : List (ℕ × ℕ)). IsPlaceOf ps m None) is none in
    image_met place p left (bad_at rest) (next_met place p left (took (Some m) rest) tag ∙ found_nowhere (drop place p.live.items) m rest nowhere)

-- A dump that is read field by field is the one that is read at once.
use Rattle.std.proofs.Common.{◌≡◌, ℕ, zero, suc, ◌+◌, Bool, true, false, cond, List, [], ◌∷◌, ◌++◌, Option, Some, None, nat_eq, refl, sym, ap, subst, ◌∙◌, append_assoc, append-nil}
use Rattle.spec_ideal.specs.Images.{Image}
use Rattle.spec_dumps.specs.Fields.{FieldTaken, took, cut_at, bad_at, ◌>>=◌, word_field, mark}
use Rattle.spec_dumps.specs.Dumps.{Headers, Dump}
use Rattle.spec_dumps.specs.Streams.{end_magic, headers_field, count_field, pair_field, pairs_at, live_field, ImageWords, image_made, kind_in, image_words_field, acl_field, contents_field, texts_field, image_field, next_at, only_end, by_next, images_at, dump_field, dump_at, dump_ended}
use Rattle.spec_dumps.specs.Feeding.{Begun, Stage, at_headers, at_count, at_pair, at_image, at_acl, at_contents, at_magic, at_end, begun, with_next, dump_with, words_at, after_words, stepped, magic_from, images_from, contents_from, acl_from, pairs_from, read_on, IsAtEnd}
use Rattle.spec_dumps.specs.Laws.{IsReading, ReadersReadOn}
use Rattle.spec_dumps.proofs.Fields.{Stays, IsGoodField, stays_next, mark_good}
use Rattle.spec_dumps.proofs.Streams.{headers_good, count_good, pair_is_good, words_are_good, acl_good, contents_good, next_stays, only_end_stays, by_next_stays, own_at}

pub bind_assoc : {A B C : Type 0} (o : FieldTaken A) (f : A × List ℕ → FieldTaken B) (g : B × List ℕ → FieldTaken C) → ((o >>= f) >>= g) ≡ (o >>= λ x. f x >>= g)
bind_assoc (took x rest) f g = refl
bind_assoc (cut_at left) f g = refl
bind_assoc (bad_at left) f g = refl

pub begins : (bytes : List ℕ) → dump_field.at bytes ≡ read_on at_headers bytes
unfolding dump_field live_field
begins bytes = simp bind_assoc

-- ---- the first image, and then the others

abbrev rest_of : Option (ImageWords × List (ℕ × ℕ)) → List ℕ → FieldTaken (List Image)
rest_of None bytes = took [] bytes
rest_of (Some w) bytes = (texts_field (kind_in w.0)).at bytes >>= λ t. (images_at w.1 t.1 >>= λ is. took (image_made (w.0, t.0) ∷ is.0) is.1)

next_same : {A B : Type 0} (o : FieldTaken A) (f g : A × List ℕ → FieldTaken B) → ((x : A) (rest : List ℕ) → f (x, rest) ≡ g (x, rest)) → (o >>= f) ≡ (o >>= g)
next_same {A} {B} (took x rest) f g h = h x rest
next_same {A} {B} (cut_at left) f g h = refl
next_same {A} {B} (bad_at left) f g h = refl

either : {A B : Type 0} (b : Bool) (x y : FieldTaken A) (z w : FieldTaken B) (f : A × List ℕ → FieldTaken B) → (x >>= f) ≡ z → (y >>= f) ≡ w → (cond b x y >>= f) ≡ cond b z w
either {A} {B} true x y z w f h k = h
either {A} {B} false x y z w f h k = k

end_then : (o : Option ℕ) (rest : List ℕ) → (only_end o rest None >>= λ w. rest_of w.0 w.1) ≡ only_end o rest []
end_then None rest = refl
end_then (Some m) rest = refl

next_then : (n : ℕ) (o : Option ℕ) (rest : List ℕ) (x y : FieldTaken (Option (ImageWords × List (ℕ × ℕ)))) (z w : FieldTaken (List Image)) → (x >>= λ v. rest_of v.0 v.1) ≡ z → (y >>= λ v. rest_of v.0 v.1) ≡ w →
    (by_next n o rest None x y >>= λ v. rest_of v.0 v.1) ≡ by_next n o rest [] z w
next_then n None rest x y z w h k = refl
next_then n (Some m) rest x y z w h k = either (nat_eq m n) x y z w (λ v. rest_of v.0 v.1) h k

image_then : (p : ℕ × ℕ) (ps : List (ℕ × ℕ)) (rest : List ℕ) → (((image_words_field p).at rest >>= λ w. took (Some (w.0, ps)) w.1) >>= λ v. rest_of v.0 v.1) ≡ own_at p ps rest
unfolding image_field
image_then p ps rest =
    let words : FieldTaken ImageWords = (image_words_field p).at rest in
    let texts : ImageWords × List ℕ → FieldTaken (ImageWords × (List ℕ × List ℕ)) = λ w. ((texts_field (kind_in w.0)).at w.1 >>= λ t. took (w.0, t.0) t.1) in
    let others : Image × List ℕ → FieldTaken (List Image) = λ i. (images_at ps i.1 >>= λ is. took (i.0 ∷ is.0) is.1) in
    bind_assoc words (λ w. took (Some (w.0, ps)) w.1) (λ v. rest_of v.0 v.1)
    ∙ sym (bind_assoc (words >>= texts) (λ x. took (image_made x.0) x.1) others
    ∙ (bind_assoc words texts (λ x. others (image_made x.0, x.1))
    ∙ next_same words _ _ (λ w r. bind_assoc ((texts_field (kind_in w)).at r) (λ t. took (w, t.0) t.1) (λ x. others (image_made x.0, x.1)))))

first_then : (ps : List (ℕ × ℕ)) (bytes : List ℕ) → (words_at ps bytes >>= λ v. rest_of v.0 v.1) ≡ images_at ps bytes
first_then [] bytes =
    bind_assoc (next_at bytes) (λ next. only_end next.0 next.1 None) (λ v. rest_of v.0 v.1) ∙ next_same (next_at bytes) _ _ (λ o rest. end_then o rest)
first_then (p ∷ ps) bytes =
    bind_assoc (next_at bytes) (λ next. by_next p.0 next.0 next.1 None ((image_words_field p).at next.1 >>= λ w. took (Some (w.0, ps)) w.1) (words_at ps bytes)) (λ v. rest_of v.0 v.1)
    ∙ next_same (next_at bytes) _ _ (λ o rest. next_then p.0 o rest _ _ _ _ (image_then p ps rest) (first_then ps bytes))

-- ---- what comes after one step

after_one : (b : Begun) (o : Option (ImageWords × List (ℕ × ℕ))) (rest : List ℕ) → (rest_of o rest >>= λ is. magic_from (dump_with b is.0) is.1) ≡ read_on (after_words b o) rest
after_one b None rest = refl
after_one b (Some w) rest =
    let magic : List Image × List ℕ → FieldTaken Dump = λ is. magic_from (dump_with b is.0) is.1 in
    let others : (List ℕ × List ℕ) × List ℕ → FieldTaken (List Image) = λ t. (images_at w.1 t.1 >>= λ is. took (image_made (w.0, t.0) ∷ is.0) is.1) in
    bind_assoc ((texts_field (kind_in w.0)).at rest) others magic
    ∙ (bind_assoc ((acl_field (kind_in w.0)).at rest) (λ a. ((contents_field (kind_in w.0)).at a.1 >>= λ c. took (a.0, c.0) c.1)) (λ t. others t >>= magic)
    ∙ next_same ((acl_field (kind_in w.0)).at rest) _ _ (λ a r. bind_assoc ((contents_field (kind_in w.0)).at r) (λ c. took (a, c.0) c.1) (λ t. others t >>= magic)
    ∙ next_same ((contents_field (kind_in w.0)).at r) _ _ (λ c s. bind_assoc (images_at w.1 s) (λ is. took (image_made (w.0, (a, c)) ∷ is.0) is.1) magic
    ∙ next_same (images_at w.1 s) _ _ (λ is z. ap (λ (js : List Image). magic_from (record { headers = b.headers; live = b.live; images = js }) z) (sym (append_assoc b.images (image_made (w.0, (a, c)) ∷ []) is))))))

images_then : (b : Begun) (bytes : List ℕ) → images_from b bytes ≡ (words_at b.left bytes >>= λ w. read_on (after_words b w.0) w.1)
images_then b bytes =
    ap (λ (o : FieldTaken (List Image)). o >>= λ is. magic_from (dump_with b is.0) is.1) (sym (first_then b.left bytes))
    ∙ (bind_assoc (words_at b.left bytes) (λ v. rest_of v.0 v.1) (λ is. magic_from (dump_with b is.0) is.1)
    ∙ next_same (words_at b.left bytes) _ _ (λ o rest. after_one b o rest))

step_is : (stage : Stage) (bytes : List ℕ) → (IsAtEnd stage → ⊥) → read_on stage bytes ≡ (stepped stage bytes >>= λ x. read_on x.0 x.1)
step_is at_headers bytes before_end = sym (bind_assoc (headers_field.at bytes) (λ h. took (at_count h.0) h.1) (λ x. read_on x.0 x.1))
step_is (at_count h) bytes before_end = sym (bind_assoc (count_field.at bytes) (λ n. took (at_pair h n.0 0 []) n.1) (λ x. read_on x.0 x.1))
step_is (at_pair h zero least ps) bytes before_end = ap (λ (qs : List (ℕ × ℕ)). images_from (begun h qs) bytes) (append-nil ps)
step_is (at_pair h (suc n) least ps) bytes before_end =
    bind_assoc ((pair_field least).at bytes) (λ p. (pairs_at n (p.0.0 + 1) p.1 >>= λ qs. took (p.0 ∷ qs.0) qs.1)) (λ qs. images_from (begun h (ps ++ qs.0)) qs.1)
    ∙ (next_same ((pair_field least).at bytes) _ _ (λ p rest. bind_assoc (pairs_at n (p.0 + 1) rest) (λ qs. took (p ∷ qs.0) qs.1) (λ qs. images_from (begun h (ps ++ qs.0)) qs.1)
    ∙ next_same (pairs_at n (p.0 + 1) rest) _ _ (λ qs left. ap (λ (rs : List (ℕ × ℕ)). images_from (begun h rs) left) (sym (append_assoc ps (p ∷ []) qs))))
    ∙ sym (bind_assoc ((pair_field least).at bytes) (λ p. took (at_pair h n (p.0.0 + 1) (ps ++ p.0 ∷ [])) p.1) (λ x. read_on x.0 x.1)))
step_is (at_image b) bytes before_end = images_then b bytes ∙ sym (bind_assoc (words_at b.left bytes) (λ w. took (after_words b w.0) w.1) (λ x. read_on x.0 x.1))
step_is (at_acl b w) bytes before_end = sym (bind_assoc ((acl_field (kind_in w)).at bytes) (λ acl. took (at_contents b w acl.0) acl.1) (λ x. read_on x.0 x.1))
step_is (at_contents b w acl) bytes before_end =
    sym (bind_assoc ((contents_field (kind_in w)).at bytes) (λ c. took (at_image (with_next (image_made (w, (acl, c.0))) b)) c.1) (λ x. read_on x.0 x.1))
step_is (at_magic d) bytes before_end = sym (bind_assoc ((mark end_magic).at bytes) (λ u. took (at_end d) u.1) (λ x. read_on x.0 x.1))
step_is (at_end d) bytes before_end = absurd (before_end tt)

-- ---- a step stays

words_stay : (ps : List (ℕ × ℕ)) (bytes more : List ℕ) → Stays (words_at ps bytes) more (words_at ps (bytes ++ more))
words_stay [] bytes more =
    stays_next (next_at bytes) (next_at (bytes ++ more)) (λ next. only_end next.0 next.1 None) (λ next. only_end next.0 next.1 None) more (next_stays bytes more)
    (λ o rest. only_end_stays o rest more None)
words_stay (p ∷ ps) bytes more =
    let own : List ℕ → FieldTaken (Option (ImageWords × List (ℕ × ℕ))) = λ rest. ((image_words_field p).at rest >>= λ w. took (Some (w.0, ps)) w.1) in
    stays_next (next_at bytes) (next_at (bytes ++ more)) (λ next. by_next p.0 next.0 next.1 None (own next.1) (words_at ps bytes)) (λ next. by_next p.0 next.0 next.1 None (own next.1) (words_at ps (bytes ++ more))) more (next_stays bytes more)
    (λ o rest. by_next_stays p.0 o rest more None (own rest) (words_at ps bytes) (own (rest ++ more)) (words_at ps (bytes ++ more))
    (stays_next ((image_words_field p).at rest) ((image_words_field p).at (rest ++ more)) (λ w. took (Some (w.0, ps)) w.1) (λ w. took (Some (w.0, ps)) w.1) more ((words_are_good p).stays rest more) (λ w after. refl))
    (words_stay ps bytes more))

stepped_stays : (stage : Stage) (bytes more : List ℕ) → (IsAtEnd stage → ⊥) → Stays (stepped stage bytes) more (stepped stage (bytes ++ more))
stepped_stays at_headers bytes more before_end = stays_next (headers_field.at bytes) (headers_field.at (bytes ++ more)) (λ h. took (at_count h.0) h.1) (λ h. took (at_count h.0) h.1) more (headers_good.stays bytes more) (λ h rest. refl)
stepped_stays (at_count h) bytes more before_end = stays_next (count_field.at bytes) (count_field.at (bytes ++ more)) (λ n. took (at_pair h n.0 0 []) n.1) (λ n. took (at_pair h n.0 0 []) n.1) more (count_good.stays bytes more) (λ n rest. refl)
stepped_stays (at_pair h zero least ps) bytes more before_end = refl
stepped_stays (at_pair h (suc n) least ps) bytes more before_end =
    stays_next ((pair_field least).at bytes) ((pair_field least).at (bytes ++ more)) (λ p. took (at_pair h n (p.0.0 + 1) (ps ++ p.0 ∷ [])) p.1) (λ p. took (at_pair h n (p.0.0 + 1) (ps ++ p.0 ∷ [])) p.1) more ((pair_is_good least).stays bytes more) (λ p rest. refl)
stepped_stays (at_image b) bytes more before_end =
    stays_next (words_at b.left bytes) (words_at b.left (bytes ++ more)) (λ w. took (after_words b w.0) w.1) (λ w. took (after_words b w.0) w.1) more (words_stay b.left bytes more) (λ w rest. refl)
stepped_stays (at_acl b w) bytes more before_end =
    stays_next ((acl_field (kind_in w)).at bytes) ((acl_field (kind_in w)).at (bytes ++ more)) (λ acl. took (at_contents b w acl.0) acl.1) (λ acl. took (at_contents b w acl.0) acl.1) more ((acl_good (kind_in w)).stays bytes more) (λ acl rest. refl)
stepped_stays (at_contents b w acl) bytes more before_end =
    stays_next ((contents_field (kind_in w)).at bytes) ((contents_field (kind_in w)).at (bytes ++ more)) (λ c. took (at_image (with_next (image_made (w, (acl, c.0))) b)) c.1) (λ c. took (at_image (with_next (image_made (w, (acl, c.0))) b)) c.1) more ((contents_good (kind_in w)).stays bytes more) (λ c rest. refl)
stepped_stays (at_magic d) bytes more before_end = stays_next ((mark end_magic).at bytes) ((mark end_magic).at (bytes ++ more)) (λ u. took (at_end d) u.1) (λ u. took (at_end d) u.1) more ((mark_good end_magic).stays bytes more) (λ u rest. refl)
stepped_stays (at_end d) bytes more before_end = absurd (before_end tt)

-- ---- a reader

took_after : (stage next : Stage) (pending rest more : List ℕ) → (IsAtEnd stage → ⊥) → stepped stage pending ≡ took next rest → stepped stage (pending ++ more) ≡ took next (rest ++ more)
took_after stage next pending rest more before_end e = subst (λ (o : FieldTaken Stage). Stays o more (stepped stage (pending ++ more))) e (stepped_stays stage pending more before_end)

-- a step that isn't cut is one of an earlier stage than the end
abbrev IsCut : FieldTaken Stage → Type 0
IsCut (cut_at left) = Unit {0}
IsCut o = ⊥

cut_at_end : (stage : Stage) (pending : List ℕ) → IsAtEnd stage → IsCut (stepped stage pending)
cut_at_end (at_end d) pending b = tt
cut_at_end at_headers pending b = absurd b
cut_at_end (at_count h) pending b = absurd b
cut_at_end (at_pair h n least ps) pending b = absurd b
cut_at_end (at_image begun') pending b = absurd b
cut_at_end (at_acl begun' w) pending b = absurd b
cut_at_end (at_contents begun' w acl) pending b = absurd b
cut_at_end (at_magic d) pending b = absurd b

not_at_end : (stage next : Stage) (pending rest : List ℕ) → stepped stage pending ≡ took next rest → IsAtEnd stage → ⊥
not_at_end stage next pending rest e b = subst IsCut e (cut_at_end stage pending b)

not_at_end_bad : (stage : Stage) (pending left : List ℕ) → stepped stage pending ≡ bad_at left → IsAtEnd stage → ⊥
not_at_end_bad stage pending left e b = subst IsCut e (cut_at_end stage pending b)

now : (bytes pending : List ℕ) (stage : Stage) → IsReading bytes stage pending → dump_field.at bytes ≡ read_on stage pending
now bytes pending stage h = ap (λ (z : List ℕ). dump_field.at z) (sym (append-nil bytes)) ∙ (h [] ∙ ap (read_on stage) (append-nil pending))

pub readers_read_on : ReadersReadOn
unfolding dump_at
readers_read_on = record {
  begin = λ more. begins more;
  more = λ bytes piece pending stage h more. ap (λ (z : List ℕ). dump_field.at z) (append_assoc bytes piece more) ∙ (h (piece ++ more) ∙ ap (read_on stage) (sym (append_assoc pending piece more)));
  step = λ bytes pending rest stage next h e more.
      h more ∙ (step_is stage (pending ++ more) (not_at_end stage next pending rest e) ∙ ap (λ (o : FieldTaken Stage). o >>= λ x. read_on x.0 x.1) (took_after stage next pending rest more (not_at_end stage next pending rest e) e));
  bad = λ bytes pending left stage h e.
      ap (λ (o : FieldTaken Dump). o >>= λ d. dump_ended d.0 d.1) (now bytes pending stage h ∙ (step_is stage pending (not_at_end_bad stage pending left e) ∙ ap (λ (o : FieldTaken Stage). o >>= λ x. read_on x.0 x.1) e));
  cut = λ bytes pending left stage h before_end e.
      ap (λ (o : FieldTaken Dump). o >>= λ d. dump_ended d.0 d.1) (now bytes pending stage h ∙ (step_is stage pending before_end ∙ ap (λ (o : FieldTaken Stage). o >>= λ x. read_on x.0 x.1) e));
  end = λ bytes pending d h. ap (λ (o : FieldTaken Dump). o >>= λ x. dump_ended x.0 x.1) (now bytes pending (at_end d) h);
}

-- The image of a vnode as a form: what is read is an image, spelled as the one spelling.
use Rattle.std.proofs.Common.{◌≡◌, ℕ, zero, suc, ◌+◌, get_or, sym, append_assoc, ◌<◌, ◌^◌, Bool, true, false, List, [], ◌∷◌, ◌++◌, length, Result, Ok, Err, refl, ap, subst, ◌∙◌, arith, if◌then◌else◌}
use Rattle.std.proofs.lemmas.List.Concat.{flat_map-cons}
use Rattle.afs_num.specs.declared.vnodes.Vnode.{Vnode}
use Rattle.afs_xdr.specs.declared.faults.XdrFault.{XdrFault}
use Rattle.afs_xdr.specs.declared.faults.XdrFault.TheVariants.{BadType}
use Rattle.afs_xdr.specs.Words.{word, words, opaque, word_at, opaque_at, AreWords}
use Rattle.spec_shape.specs.Reading.{◌>>=◌}
use Rattle.spec_shape.specs.Tables.{IsCount}
use Rattle.spec_shape.proofs.Codecs.{IsBytes, Takes, Takes-then, word_codec, opaque_codec}
use Rattle.spec_ideal.specs.VnodeImage.{kind_fits, most_acl, most_contents, image_words, FitsImage, image, image_at, BadField, as_field, word_field, opaque_field, kind_field}
use Rattle.spec_ideal.proofs.VnodeImage.{image_again}
use Rattle.spec_records.specs.Forms.{read, image_form, HasImageForm}
use Rattle.spec_records.proofs.Forms.{IsSoundForm, read_ok}

abbrev fine : {A : Type 0} → A → Result A BadField
fine x = Ok x

fine_is : {A : Type 0} (x y : A) → fine x ≡ fine y → x ≡ y
fine_is x y e = cc

bound_ok : {A B : Type 0} (r : Result A BadField) (f : A → Result B BadField) (y : B) → (r >>= f) ≡ Ok y → (x : A) × (r ≡ Ok x) × (f x ≡ Ok y)
bound_ok (Ok x) f y e = (x, refl, e)
bound_ok (Err bad) f y e = absurd cc

field_ok : {A : Type 0} (place : ℕ) (r : Result A XdrFault) (x : A) → as_field place r ≡ Ok x → r ≡ Ok x
field_ok place (Ok y) x e = ap (λ z. Ok z) (fine_is y x e)
field_ok place (Err fault) x e = absurd cc

good_ok : {A : Type 0} (b : Bool) (bad : BadField) (x y : A) → (if b then fine x else Err bad) ≡ Ok y → (b ≡ true) × (x ≡ y)
good_ok true bad x y e = (refl, fine_is x y e)
good_ok false bad x y e = absurd cc

word_took : (place : ℕ) (bytes : List ℕ) (n : ℕ) (rest : List ℕ) → IsBytes bytes → word_field place bytes ≡ Ok (n, rest) → Takes bytes (word n) rest × (n < 2 ^ 32)
unfolding word_field
word_took place bytes n rest fits e = word_codec.takes bytes n rest fits (field_ok place (word_at bytes) (n, rest) e)

kind_took : (place vnode : ℕ) (bytes : List ℕ) (n : ℕ) (rest : List ℕ) → IsBytes bytes → kind_field place vnode bytes ≡ Ok (n, rest) → Takes bytes (word n) rest × ((n < 2 ^ 32) × (kind_fits vnode n ≡ true))
unfolding kind_field
kind_took place vnode bytes n rest fits e =
    let a = bound_ok (word_field place bytes) (λ kind. if kind_fits vnode kind.0 then Ok kind else Err (record { place = place; fault = BadType })) (n, rest) e in
    let g = good_ok (kind_fits vnode a.0.0) (record { place = place; fault = BadType }) a.0 (n, rest) a.2 in
    let t = word_took place bytes a.0.0 a.0.1 fits a.1 in
    subst (λ (y : ℕ × List ℕ). Takes bytes (word y.0) y.1 × ((y.0 < 2 ^ 32) × (kind_fits vnode y.0 ≡ true))) {x = a.0} g.1 (t.0, (t.1, g.0))

opaque_took : (place most : ℕ) (bytes text rest : List ℕ) → IsBytes bytes → opaque_field place most bytes ≡ Ok (text, rest) → Takes bytes (opaque text) rest × IsCount most (length text)
unfolding opaque_field
opaque_took place most bytes text rest fits e = (opaque_codec most).takes bytes text rest fits (field_ok place (opaque_at most bytes) (text, rest) e)

-- ---- the words of an image, as two lists with the kind between them

bind_assoc : {A B C : Type 0} (r : Result A BadField) (f : A → Result B BadField) (g : B → Result C BadField) → ((r >>= f) >>= g) ≡ (r >>= λ x. f x >>= g)
bind_assoc (Ok x) f g = refl
bind_assoc (Err e) f g = refl

words_from : ℕ → ℕ → List ℕ → Result (List ℕ × List ℕ) BadField
words_from place zero bytes = Ok ([], bytes)
words_from place (suc n) bytes = word_field place bytes >>= λ first. words_from (place + 1) n first.1 >>= λ others. Ok (first.0 ∷ others.0, others.1)

words_took : (place n : ℕ) (bytes ws rest : List ℕ) → IsBytes bytes → words_from place n bytes ≡ Ok (ws, rest) → Takes bytes (words ws) rest × ((length ws ≡ n) × AreWords ws)
unfolding words_from
words_took place zero bytes ws rest fits e =
    subst (λ (y : List ℕ × List ℕ). Takes bytes (words y.0) y.1 × ((length y.0 ≡ 0) × AreWords y.0)) (fine_is ([], bytes) (ws, rest) e) (record { parts = refl; rest_fits = fits }, (refl, tt))
words_took place (suc n) bytes ws rest fits e =
    let a = bound_ok (word_field place bytes) (λ first. words_from (place + 1) n first.1 >>= λ others. Ok (first.0 ∷ others.0, others.1)) (ws, rest) e in
    let b = bound_ok (words_from (place + 1) n a.0.1) (λ others. Ok (a.0.0 ∷ others.0, others.1)) (ws, rest) a.2 in
    let t = word_took place bytes a.0.0 a.0.1 fits a.1 in
    let u = words_took (place + 1) n a.0.1 b.0.0 b.0.1 t.0.rest_fits b.1 in
    let both = Takes-then bytes (word a.0.0) a.0.1 (words b.0.0) b.0.1 t.0 u.0 in
    let made : List ℕ × List ℕ = (a.0.0 ∷ b.0.0, b.0.1) in
    subst (λ (y : List ℕ × List ℕ). Takes bytes (words y.0) y.1 × ((length y.0 ≡ suc n) × AreWords y.0)) (fine_is made (ws, rest) b.2) (rw flat_map-cons both, (ap suc u.1.0, (t.1, u.1.1)))

made_of : List ℕ → ℕ → List ℕ → List ℕ → List ℕ → Vnode
made_of a kind b acl contents = record {
  vnode = get_or a 0 0;
  unique = get_or a 1 0;
  kind = kind;
  index = get_or b 0 0;
  data_version = get_or b 1 0;
  link_count = get_or b 2 0;
  owner = get_or b 3 0;
  group = get_or b 4 0;
  mode = get_or b 5 0;
  segment_size = get_or b 6 0;
  client_time = get_or b 7 0;
  server_time = get_or b 8 0;
  parent_vnode = get_or b 9 0;
  parent_unique = get_or b 10 0;
  change_counter = get_or b 11 0;
  acl = acl;
  contents = contents;
}

by_words : List ℕ → Result (Vnode × List ℕ) BadField
by_words bytes = do
  a ← words_from 1 2 bytes
  kind ← kind_field 3 (get_or a.0 0 0) a.1
  b ← words_from 4 12 kind.1
  acl ← opaque_field 16 most_acl b.1
  contents ← opaque_field 17 most_contents acl.1
  Ok (made_of a.0 kind.0 b.0 acl.0 contents.0, contents.1)

image_by_words : (bytes : List ℕ) → image_at bytes ≡ by_words bytes
unfolding image_at by_words words_from made_of
image_by_words bytes = simp bind_assoc

front_back : (a b acl contents : List ℕ) (kind : ℕ) → length a ≡ 2 → length b ≡ 12 → image_words (made_of a kind b acl contents) ≡ a ++ (kind ∷ b)
unfolding made_of
front_back (a0 ∷ a1 ∷ []) (b0 ∷ b1 ∷ b2 ∷ b3 ∷ b4 ∷ b5 ∷ b6 ∷ b7 ∷ b8 ∷ b9 ∷ b10 ∷ b11 ∷ []) acl contents kind p q = refl
front_back _ _ acl contents kind p q = absurd (omega arith)

are_words : (a b : List ℕ) (kind : ℕ) → AreWords a → kind < 2 ^ 32 → AreWords b → AreWords (a ++ (kind ∷ b))
are_words [] b kind h k g = (k, g)
are_words (x ∷ a) b kind h k g = (h.0, are_words a b kind h.1 k g)

words_join : (a b : List ℕ) (kind : ℕ) → words (a ++ (kind ∷ b)) ≡ words a ++ (word kind ++ words b)
words_join [] b kind = flat_map-cons word kind b
words_join (x ∷ a) b kind =
    flat_map-cons word x (a ++ (kind ∷ b)) ∙ (ap (λ (t : List ℕ). word x ++ t) (words_join a b kind) ∙ (sym (append_assoc (word x) (words a) (word kind ++ words b)) ∙ ap (λ (t : List ℕ). t ++ (word kind ++ words b)) (sym (flat_map-cons word x a))))

whole : (bytes : List ℕ) (v : Vnode) (rest behind : List ℕ) (made : Vnode) → Takes bytes (words (image_words made) ++ (opaque made.acl ++ opaque made.contents)) behind → HasImageForm made → fine {A = Vnode × List ℕ} (made, behind) ≡ Ok (v, rest) → Takes bytes (image v) rest × HasImageForm v
unfolding image
whole bytes v rest behind made t form e =
    let pair : Vnode × List ℕ = (made, behind) in
    subst (λ (y : Vnode × List ℕ). Takes bytes (words (image_words y.0) ++ (opaque y.0.acl ++ opaque y.0.contents)) y.1 × HasImageForm y.0) {x = pair} (fine_is pair (v, rest) e) (t, form)

parts : (made : Vnode) (a : List ℕ) (kind : ℕ) (b acl contents behind rest : List ℕ) → made ≡ made_of a kind b acl contents → Takes behind (opaque acl ++ opaque contents) rest → Takes behind (opaque made.acl ++ opaque made.contents) rest
unfolding made_of
parts made a kind b acl contents behind rest is t = subst (λ (v : Vnode). Takes behind (opaque v.acl ++ opaque v.contents) rest) (sym is) t

formed : (made : Vnode) (a : List ℕ) (kind : ℕ) (b acl contents : List ℕ) → made ≡ made_of a kind b acl contents → IsCount most_acl (length acl) → IsCount most_contents (length contents) → AreWords (image_words made) → kind_fits (get_or a 0 0) kind ≡ true → HasImageForm made
unfolding made_of
formed made a kind b acl contents is p q words fits =
    record {
      limits = subst FitsImage (sym is) (record { acl = p.0; contents = q.0 });
      words = words;
      kind = subst (λ (v : Vnode). kind_fits v.vnode v.kind ≡ true) (sym is) fits;
    }

image_took : (bytes : List ℕ) (v : Vnode) (rest : List ℕ) → IsBytes bytes → by_words bytes ≡ Ok (v, rest) → Takes bytes (image v) rest × HasImageForm v
unfolding by_words image
image_took bytes v rest fits e =
    let a = bound_ok (words_from 1 2 bytes) (λ a. kind_field 3 (get_or a.0 0 0) a.1 >>= λ kind. words_from 4 12 kind.1 >>= λ b. opaque_field 16 most_acl b.1 >>= λ acl. opaque_field 17 most_contents acl.1 >>= λ contents. Ok (made_of a.0 kind.0 b.0 acl.0 contents.0, contents.1)) (v, rest) e in
    let k = bound_ok (kind_field 3 (get_or a.0.0 0 0) a.0.1) (λ kind. words_from 4 12 kind.1 >>= λ b. opaque_field 16 most_acl b.1 >>= λ acl. opaque_field 17 most_contents acl.1 >>= λ contents. Ok (made_of a.0.0 kind.0 b.0 acl.0 contents.0, contents.1)) (v, rest) a.2 in
    let b = bound_ok (words_from 4 12 k.0.1) (λ b. opaque_field 16 most_acl b.1 >>= λ acl. opaque_field 17 most_contents acl.1 >>= λ contents. Ok (made_of a.0.0 k.0.0 b.0 acl.0 contents.0, contents.1)) (v, rest) k.2 in
    let l = bound_ok (opaque_field 16 most_acl b.0.1) (λ acl. opaque_field 17 most_contents acl.1 >>= λ contents. Ok (made_of a.0.0 k.0.0 b.0.0 acl.0 contents.0, contents.1)) (v, rest) b.2 in
    let c = bound_ok (opaque_field 17 most_contents l.0.1) (λ contents. Ok (made_of a.0.0 k.0.0 b.0.0 l.0.0 contents.0, contents.1)) (v, rest) l.2 in
    let at = words_took 1 2 bytes a.0.0 a.0.1 fits a.1 in
    let kt = kind_took 3 (get_or a.0.0 0 0) a.0.1 k.0.0 k.0.1 at.0.rest_fits k.1 in
    let bt = words_took 4 12 k.0.1 b.0.0 b.0.1 kt.0.rest_fits b.1 in
    let lt = opaque_took 16 most_acl b.0.1 l.0.0 l.0.1 bt.0.rest_fits l.1 in
    let ct = opaque_took 17 most_contents l.0.1 c.0.0 c.0.1 lt.0.rest_fits c.1 in
    let texts = Takes-then b.0.1 (opaque l.0.0) l.0.1 (opaque c.0.0) c.0.1 lt.0 ct.0 in
    let back = Takes-then a.0.1 (word k.0.0) k.0.1 (words b.0.0) b.0.1 kt.0 bt.0 in
    let front = Takes-then bytes (words a.0.0) a.0.1 (word k.0.0 ++ words b.0.0) b.0.1 at.0 back in
    let made : Vnode = made_of a.0.0 k.0.0 b.0.0 l.0.0 c.0.0 in
    let is : image_words made ≡ a.0.0 ++ (k.0.0 ∷ b.0.0) = front_back a.0.0 b.0.0 l.0.0 c.0.0 k.0.0 at.1.0 bt.1.0 in
    let numbers : Takes bytes (words (image_words made)) b.0.1 = subst (λ (t : List ℕ). Takes bytes t b.0.1) (sym (words_join a.0.0 b.0.0 k.0.0) ∙ ap words (sym is)) front in
    whole bytes v rest c.0.1 made (Takes-then bytes (words (image_words made)) b.0.1 (opaque made.acl ++ opaque made.contents) c.0.1 numbers (parts made a.0.0 k.0.0 b.0.0 l.0.0 c.0.0 b.0.1 c.0.1 refl texts))
    (formed made a.0.0 k.0.0 b.0.0 l.0.0 c.0.0 refl lt.1 ct.1 (subst AreWords (sym is) (are_words a.0.0 b.0.0 k.0.0 at.1.1 kt.1.0 bt.1.1)) kt.1.1) c.2

pub image_sound : IsSoundForm image_form
image_sound = record {
  takes = λ bytes v rest fits e. image_took bytes v rest fits (sym (image_by_words bytes) ∙ read_ok (image_at bytes) (v, rest) e);
  again = λ v rest h. ap (λ (r : Result (Vnode × List ℕ) BadField). read r) (image_again v rest h.limits h.words h.kind);
}

-- Fields: what is read is spelled so, what is spelled is read, and what was read or refused stays so whatever follows.
use Rattle.std.proofs.Common.{◌≡◌, ℕ, ◌+◌, ◌<◌, ◌≤◌, ◌^◌, Bool, true, false, cond, ltb, List, ◌++◌, length, take, drop, Result, Ok, Err, refl, sym, ap, subst, ◌∙◌, append_assoc, arith, le-ltb}
use Rattle.std.specs.Prelude.{⊤, nat_eq, nat_lt}
use Rattle.std.specs.Int.{w32, from_be_bytes}
use Rattle.std.proofs.lemmas.Bool.{ltb-false, eqb-true, eq-eqb}
use Rattle.std.proofs.lemmas.List.{take-append-le, drop-append-le, length-append, length-drop}
use Rattle.afs_xdr.specs.declared.faults.XdrFault.{XdrFault}
use Rattle.afs_xdr.specs.declared.faults.XdrFault.TheVariants.{Short, TooLong, BadPad, Extra, BadHead, BadType}
use Rattle.afs_xdr.specs.Words as xdr
use Rattle.afs_xdr.specs.Words.{word, opaque, pad_length, are_zero, word_at, counted_at, opaque_at}
use Rattle.spec_shape.proofs.Codecs.{IsBytes, Takes, Takes-then, IsCodec, word_codec, opaque_codec}
use Rattle.spec_dumps.specs.Fields.{FieldTaken, took, cut_at, bad_at, ◌>>=◌, Field, as_taken, word_field, text_field, if_good, only, mark, and_then, ◌before◌, known_as, marked}

-- What was read, or refused, of the first bytes stays so whatever follows.
abbrev pub Stays : {A : Type 0} → FieldTaken A → List ℕ → FieldTaken A → Type 0
Stays {A} (took x rest) more r = r ≡ took x (rest ++ more)
Stays {A} (cut_at left) more r = ⊤
Stays {A} (bad_at left) more r = r ≡ bad_at (left ++ more)

pub record IsGoodField {A : Type 0} (field : Field A) : Type 0 where
  pub takes : (bytes : List ℕ) (x : A) (rest : List ℕ) → IsBytes bytes → field.at bytes ≡ took x rest → Takes bytes (field.spelled x) rest × field.Fits x
  pub again : (x : A) (rest : List ℕ) → field.Fits x → field.at (field.spelled x ++ rest) ≡ took x rest
  pub stays : (bytes more : List ℕ) → Stays (field.at bytes) more (field.at (bytes ++ more))

-- ---- one after the other

pub took_is : {A : Type 0} (x y : A) (r s : List ℕ) → took x r ≡ took y s → (x ≡ y) × (r ≡ s)
took_is {A} x y r s e = (cc, cc)

pub record Bound {A B : Type 0} (o : FieldTaken A) (f : A × List ℕ → FieldTaken B) (y : B) (rest : List ℕ) : Type 0 where
  pub value : A
  pub left : List ℕ
  pub first : o ≡ took value left
  pub second : f (value, left) ≡ took y rest

pub bound : {A B : Type 0} (o : FieldTaken A) (f : A × List ℕ → FieldTaken B) (y : B) (rest : List ℕ) → (o >>= f) ≡ took y rest → Bound o f y rest
bound {A} {B} (took x r) f y rest e = record { value = x; left = r; first = refl; second = e }
bound {A} {B} (cut_at left) f y rest e = absurd cc
bound {A} {B} (bad_at left) f y rest e = absurd cc

pub stays_next : {A B : Type 0} (o p : FieldTaken A) (f g : A × List ℕ → FieldTaken B) (more : List ℕ) → Stays o more p → ((x : A) (rest : List ℕ) → Stays (f (x, rest)) more (g (x, rest ++ more))) → Stays (o >>= f) more (p >>= g)
stays_next {A} {B} (took x rest) p f g more h next = subst (λ (q : FieldTaken A). Stays (f (x, rest)) more (q >>= g)) (sym h) (next x rest)
stays_next {A} {B} (cut_at left) p f g more h next = tt
stays_next {A} {B} (bad_at left) p f g more h next = ap (λ (q : FieldTaken A). q >>= g) h

-- ---- a test

pub good_took : {A : Type 0} (b : Bool) (x y : A) (rest left behind : List ℕ) → if_good b x rest left ≡ took y behind → (b ≡ true) × ((x ≡ y) × (rest ≡ behind))
good_took {A} true x y rest left behind e = (refl, took_is x y rest behind e)
good_took {A} false x y rest left behind e = absurd cc

pub good_stays : {A : Type 0} (b : Bool) (x : A) (rest left more : List ℕ) → Stays (if_good b x rest left) more (if_good b x (rest ++ more) (left ++ more))
good_stays {A} true x rest left more = refl
good_stays {A} false x rest left more = refl

-- ---- words and texts

taken_ok : {A : Type 0} (left : List ℕ) (r : Result (A × List ℕ) XdrFault) (x : A) (rest : List ℕ) → as_taken left r ≡ took x rest → r ≡ Ok (x, rest)
taken_ok {A} left (Ok y) x rest e =
    let both = took_is y.0 x y.1 rest e in
    ap (λ (z : A). Ok (z, y.1)) both.0 ∙ ap (λ (r : List ℕ). Ok (x, r)) both.1
taken_ok {A} left (Err Short) x rest e = absurd cc
taken_ok {A} left (Err TooLong) x rest e = absurd cc
taken_ok {A} left (Err BadPad) x rest e = absurd cc
taken_ok {A} left (Err Extra) x rest e = absurd cc
taken_ok {A} left (Err BadHead) x rest e = absurd cc
taken_ok {A} left (Err BadType) x rest e = absurd cc

of_codec : {A : Type 0} (at : List ℕ → Result (A × List ℕ) XdrFault) (spell : A → List ℕ) (Fits : A → Type 0) → IsCodec at spell Fits → ((bytes more : List ℕ) → Stays (as_taken bytes (at bytes)) more (as_taken (bytes ++ more) (at (bytes ++ more))))
    → IsGoodField (record { spelled = spell; at = λ bytes. as_taken bytes (at bytes); Fits = Fits })
of_codec {A} at spell Fits codec stays = record {
  takes = λ bytes x rest fits e. codec.takes bytes x rest fits (taken_ok bytes (at bytes) x rest e);
  again = λ x rest fits. ap (λ (r : Result (A × List ℕ) XdrFault). as_taken (spell x ++ rest) r) (codec.again x rest fits);
  stays = stays;
}

-- a word of which four bytes stand there
word_more : (bytes more : List ℕ) → 4 ≤ length bytes → word_at (bytes ++ more) ≡ Ok (from_be_bytes w32 (take 4 bytes), drop 4 bytes ++ more)
unfolding word_at
word_more bytes more le =
    let long : ltb (length (bytes ++ more)) 4 ≡ false = le-ltb _ _ (omega (arith, length-append bytes more, le)) in
    rw (long, take-append-le 4 bytes more le, drop-append-le 4 bytes more le) refl

word_stays_by : (b : Bool) (bytes more : List ℕ) → ltb (length bytes) 4 ≡ b → Stays (as_taken bytes (cond b (Err Short) (Ok (from_be_bytes w32 (take 4 bytes), drop 4 bytes)))) more (as_taken (bytes ++ more) (word_at (bytes ++ more)))
word_stays_by true bytes more is = tt
word_stays_by false bytes more is = ap (as_taken (bytes ++ more)) (word_more bytes more (ltb-false _ _ is))

word_stays : (bytes more : List ℕ) → Stays (as_taken bytes (word_at bytes)) more (as_taken (bytes ++ more) (word_at (bytes ++ more)))
unfolding word_at
word_stays bytes more = word_stays_by (ltb (length bytes) 4) bytes more refl

by_zeros : (c : Bool) (n : ℕ) (left bytes more : List ℕ) → Stays (as_taken left (cond c (Ok (take n bytes, drop (pad_length n) (drop n bytes))) (Err BadPad))) more (as_taken (left ++ more) (cond c (Ok (take n bytes, drop (pad_length n) (drop n bytes) ++ more)) (Err BadPad)))
by_zeros true n left bytes more = refl
by_zeros false n left bytes more = refl

counted_by : (b c : Bool) (n : ℕ) (left bytes more : List ℕ) → ltb (length bytes) (n + pad_length n) ≡ b → are_zero (take (pad_length n) (drop n bytes)) ≡ c →
    Stays (as_taken left (cond b (Err Short) (cond c (Ok (take n bytes, drop (pad_length n) (drop n bytes))) (Err BadPad)))) more (as_taken (left ++ more) (counted_at n (bytes ++ more)))
unfolding counted_at
counted_by true c n left bytes more is zeros = tt
counted_by false c n left bytes more is zeros =
    let le : n + pad_length n ≤ length bytes = ltb-false _ _ is in
    let long : ltb (length (bytes ++ more)) (n + pad_length n) ≡ false = le-ltb _ _ (omega (arith, length-append bytes more, le)) in
    let first : take n (bytes ++ more) ≡ take n bytes = take-append-le n bytes more (omega (arith, le)) in
    let rest : drop n (bytes ++ more) ≡ drop n bytes ++ more = drop-append-le n bytes more (omega (arith, le)) in
    let short : pad_length n ≤ length (drop n bytes) = omega (arith, length-drop n bytes, le) in
    let none : take (pad_length n) (drop n bytes ++ more) ≡ take (pad_length n) (drop n bytes) = take-append-le (pad_length n) (drop n bytes) more short in
    let behind : drop (pad_length n) (drop n bytes ++ more) ≡ drop (pad_length n) (drop n bytes) ++ more = drop-append-le (pad_length n) (drop n bytes) more short in
    rw (long, first, rest, none, behind, zeros) (by_zeros c n left bytes more)

counted_stays : (n : ℕ) (left bytes more : List ℕ) → Stays (as_taken left (counted_at n bytes)) more (as_taken (left ++ more) (counted_at n (bytes ++ more)))
unfolding counted_at
counted_stays n left bytes more = counted_by (ltb (length bytes) (n + pad_length n)) (are_zero (take (pad_length n) (drop n bytes))) n left bytes more refl refl

text_by : (b long : Bool) (most : ℕ) (bytes more : List ℕ) → ltb (length bytes) 4 ≡ b → nat_lt most (from_be_bytes w32 (take 4 bytes)) ≡ long →
    Stays (as_taken bytes (cond b (Err Short) (cond long (Err TooLong) (counted_at (from_be_bytes w32 (take 4 bytes)) (drop 4 bytes))))) more (as_taken (bytes ++ more) (opaque_at most (bytes ++ more)))
unfolding opaque_at
text_by true long most bytes more is over = tt
text_by false true most bytes more is over = rw (word_more bytes more (ltb-false _ _ is), over) refl
text_by false false most bytes more is over = rw (word_more bytes more (ltb-false _ _ is), over) (counted_stays (from_be_bytes w32 (take 4 bytes)) bytes (drop 4 bytes) more)

chosen_short : (b : Bool) (most : ℕ) (bytes : List ℕ) → (xdr.◌>>=◌ {A = ℕ × List ℕ} {B = List ℕ × List ℕ} (cond b (Err Short) (Ok (from_be_bytes w32 (take 4 bytes), drop 4 bytes))) (λ count. cond (nat_lt most count.0) (Err TooLong) (counted_at count.0 count.1))) ≡ cond b (Err Short) (cond (nat_lt most (from_be_bytes w32 (take 4 bytes))) (Err TooLong) (counted_at (from_be_bytes w32 (take 4 bytes)) (drop 4 bytes)))
chosen_short true most bytes = refl
chosen_short false most bytes = refl

text_is : (most : ℕ) (bytes : List ℕ) → opaque_at most bytes ≡ cond (ltb (length bytes) 4) (Err Short) (cond (nat_lt most (from_be_bytes w32 (take 4 bytes))) (Err TooLong) (counted_at (from_be_bytes w32 (take 4 bytes)) (drop 4 bytes)))
unfolding opaque_at word_at
text_is most bytes = chosen_short (ltb (length bytes) 4) most bytes

text_stays : (most : ℕ) (bytes more : List ℕ) → Stays (as_taken bytes (opaque_at most bytes)) more (as_taken (bytes ++ more) (opaque_at most (bytes ++ more)))
text_stays most bytes more =
    subst (λ (r : Result (List ℕ × List ℕ) XdrFault). Stays (as_taken bytes r) more (as_taken (bytes ++ more) (opaque_at most (bytes ++ more)))) (sym (text_is most bytes))
    (text_by (ltb (length bytes) 4) (nat_lt most (from_be_bytes w32 (take 4 bytes))) most bytes more refl refl)

pub word_good : IsGoodField word_field
word_good = of_codec word_at word (λ n. n < 2 ^ 32) word_codec word_stays

pub text_good : (most : ℕ) → IsGoodField (text_field most)
text_good most = of_codec (opaque_at most) opaque _ (opaque_codec most) (text_stays most)

-- ---- larger ones

pub only_good : {A : Type 0} (test : A → Bool) (field : Field A) → IsGoodField field → IsGoodField (only test field)
only_good {A} test field p = record {
  takes = λ bytes x rest fits e.
      let a = bound (field.at bytes) (λ y. if_good (test y.0) y.0 y.1 bytes) x rest e in
      let g = good_took (test a.value) a.value x a.left bytes rest a.second in
      let t = p.takes bytes a.value a.left fits a.first in
      subst (λ (y : A). Takes bytes (field.spelled y) rest × (field.Fits y × (test y ≡ true))) g.1.0 (subst (λ (r : List ℕ). Takes bytes (field.spelled a.value) r) g.1.1 t.0, (t.1, g.0));
  again = λ x rest fits. rw (p.again x rest fits.0, fits.1) refl;
  stays = λ bytes more.
      stays_next (field.at bytes) (field.at (bytes ++ more)) (λ y. if_good (test y.0) y.0 y.1 bytes) (λ y. if_good (test y.0) y.0 y.1 (bytes ++ more)) more (p.stays bytes more)
      (λ x rest. good_stays (test x) x rest bytes more);
}

pub mark_good : (n : ℕ) → IsGoodField (mark n)
mark_good n = record {
  takes = λ bytes u rest fits e.
      let a = bound (word_field.at bytes) (λ m. if_good (nat_eq m.0 n) tt m.1 bytes) u rest e in
      let g = good_took (nat_eq a.value n) tt u a.left bytes rest a.second in
      let t = word_good.takes bytes a.value a.left fits a.first in
      let is : a.value ≡ n = eqb-true a.value n g.0 in
      subst (λ (m : ℕ). Takes bytes (word m) rest × (m < 2 ^ 32)) is (subst (λ (r : List ℕ). Takes bytes (word a.value) r) g.1.1 t.0, t.1);
  again = λ u rest fits. rw (word_good.again n rest fits, eq-eqb n n refl) refl;
  stays = λ bytes more.
      stays_next (word_field.at bytes) (word_field.at (bytes ++ more)) (λ m. if_good (nat_eq m.0 n) tt m.1 bytes) (λ m. if_good (nat_eq m.0 n) tt m.1 (bytes ++ more)) more (word_good.stays bytes more)
      (λ m rest. good_stays (nat_eq m n) tt rest bytes more);
}

pub and_then_good : {A B : Type 0} (first : Field A) (second : A → Field B) → IsGoodField first → ((x : A) → IsGoodField (second x)) → IsGoodField (and_then first second)
and_then_good {A} {B} first second p q = record {
  takes = λ bytes z rest fits e.
      let a = bound (first.at bytes) (λ x. ((second x.0).at x.1 >>= λ y. took (x.0, y.0) y.1)) z rest e in
      let b = bound ((second a.value).at a.left) (λ y. took (a.value, y.0) y.1) z rest a.second in
      let t = p.takes bytes a.value a.left fits a.first in
      let u = (q a.value).takes a.left b.value b.left t.0.rest_fits b.first in
      let made : A × B = (a.value, b.value) in
      let both = took_is made z b.left rest b.second in
      subst (λ (y : A × B). Takes bytes (first.spelled y.0 ++ (second y.0).spelled y.1) rest × (first.Fits y.0 × (second y.0).Fits y.1)) both.0
      (subst (λ (r : List ℕ). Takes bytes (first.spelled a.value ++ (second a.value).spelled b.value) r) both.1 (Takes-then bytes (first.spelled a.value) a.left ((second a.value).spelled b.value) b.left t.0 u.0), (t.1, u.1));
  again = λ z rest fits.
      ap (λ (bytes : List ℕ). first.at bytes >>= λ x. ((second x.0).at x.1 >>= λ y. took (x.0, y.0) y.1)) (append_assoc (first.spelled z.0) ((second z.0).spelled z.1) rest)
      ∙ rw (p.again z.0 ((second z.0).spelled z.1 ++ rest) fits.0, (q z.0).again z.1 rest fits.1) refl;
  stays = λ bytes more.
      stays_next (first.at bytes) (first.at (bytes ++ more)) (λ x. ((second x.0).at x.1 >>= λ y. took (x.0, y.0) y.1)) (λ x. ((second x.0).at x.1 >>= λ y. took (x.0, y.0) y.1)) more (p.stays bytes more)
      (λ x rest. stays_next ((second x).at rest) ((second x).at (rest ++ more)) (λ y. took (x, y.0) y.1) (λ y. took (x, y.0) y.1) more ((q x).stays rest more) (λ y left. refl));
}

pub before_good : {A B : Type 0} (first : Field A) (second : Field B) → IsGoodField first → IsGoodField second → IsGoodField (first before second)
before_good {A} {B} first second p q = and_then_good first (λ x. second) p (λ x. q)

pub known_good : {A B : Type 0} (field : Field A) (told : B → A) (made : A → B) → IsGoodField field → ((x : A) → field.Fits x → told (made x) ≡ x) → IsGoodField (known_as field told made)
known_good {A} {B} field told made p back = record {
  takes = λ bytes y rest fits e.
      let a = bound (field.at bytes) (λ x. took (made x.0) x.1) y rest e in
      let t = p.takes bytes a.value a.left fits a.first in
      let both = took_is (made a.value) y a.left rest a.second in
      let is : told (made a.value) ≡ a.value = back a.value t.1 in
      subst (λ (z : B). Takes bytes (field.spelled (told z)) rest × (field.Fits (told z) × (made (told z) ≡ z))) both.0 (
        subst (λ (r : List ℕ). Takes bytes (field.spelled (told (made a.value))) r) both.1 (subst (λ (x : A). Takes bytes (field.spelled x) a.left) (sym is) t.0),
        (subst (λ (x : A). field.Fits x) (sym is) t.1, ap made is),
      );
  again = λ y rest fits. rw (p.again (told y) rest fits.0, fits.1) refl;
  stays = λ bytes more. stays_next (field.at bytes) (field.at (bytes ++ more)) (λ x. took (made x.0) x.1) (λ x. took (made x.0) x.1) more (p.stays bytes more) (λ x rest. refl);
}

pub marked_good : {A : Type 0} (n : ℕ) (field : Field A) → IsGoodField field → IsGoodField (marked n field)
marked_good {A} n field p = known_good (mark n before field) (λ x. (tt, x)) (λ q. q.1) (before_good (mark n) field (mark_good n) p) (λ x fits. refl)

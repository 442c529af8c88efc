-- What is read is spelled so, and what is spelled is read: forms.
use Rattle.std.proofs.Common.{◌≡◌, ℕ, zero, suc, ◌<◌, ◌^◌, Bool, true, false, cond, List, [], ◌∷◌, ◌++◌, length, Option, Some, None, Result, Ok, Err, refl, sym, ap, subst, ◌∙◌, append_assoc, arith}
use Rattle.std.specs.List.{flat_map, AllByRecursion}
use Rattle.std.proofs.lemmas.List.Concat.{flat_map-cons}
use Rattle.afs_xdr.specs.declared.faults.XdrFault.{XdrFault}
use Rattle.afs_xdr.specs.Words.{word, opaque, word_at, opaque_at}
use Rattle.spec_shape.specs.Taking.{◌>>=◌}
use Rattle.spec_shape.proofs.Codecs.{IsBytes, Takes, Takes-then, IsCodec, word_codec, opaque_codec}
use Rattle.spec_records.specs.Forms.{Form, read, word_form, text_form, ◌before◌, known_as, passing, only, many_at, list_form}

-- a form whose reading and spelling are each the other's inverse
pub record IsSoundForm {A : Type 0} (form : Form A) : Type 0 where
  pub takes : (bytes : List ℕ) (x : A) (rest : List ℕ) → IsBytes bytes → form.at bytes ≡ Some (x, rest) → Takes bytes (form.spelled x) rest × form.Fits x
  pub again : (x : A) (rest : List ℕ) → form.Fits x → form.at (form.spelled x ++ rest) ≡ Some (x, rest)

-- ---- options

pub bound : {A B : Type 0} (o : Option A) (f : A → Option B) (y : B) → (o >>= f) ≡ Some y → (x : A) × ((o ≡ Some x) × (f x ≡ Some y))
bound {A} {B} (Some x) f y e = (x, (refl, e))
bound {A} {B} None f y e = absurd cc

pub some_is : {A : Type 0} (x y : A) → Some x ≡ Some y → x ≡ y
some_is {A} x y e = cc

pub read_ok : {A E : Type 0} (r : Result A E) (x : A) → read r ≡ Some x → r ≡ Ok x
read_ok {A} {E} (Ok y) x e = ap (λ (z : A). Ok z) (some_is y x e)
read_ok {A} {E} (Err d) x e = absurd cc

-- ---- small forms

pub of_codec : {A : Type 0} (at : List ℕ → Result (A × List ℕ) XdrFault) (spell : A → List ℕ) (Fits : A → Type 0) → IsCodec at spell Fits → IsSoundForm (record { spelled = spell; at = λ bytes. read (at bytes); Fits = Fits })
of_codec {A} at spell Fits codec = record {
  takes = λ bytes x rest fits e. codec.takes bytes x rest fits (read_ok (at bytes) (x, rest) e);
  again = λ x rest fits. ap (λ (r : Result (A × List ℕ) XdrFault). read r) (codec.again x rest fits);
}

pub word_sound : IsSoundForm word_form
word_sound = of_codec word_at word (λ n. n < 2 ^ 32) word_codec

pub text_sound : (most : ℕ) → IsSoundForm (text_form most)
text_sound most = of_codec (opaque_at most) opaque _ (opaque_codec most)

-- ---- larger ones

pub before_sound : {A B : Type 0} (first : Form A) (second : Form B) → IsSoundForm first → IsSoundForm second → IsSoundForm (first before second)
before_sound {A} {B} first second p q = record {
  takes = λ bytes z rest fits e.
      let a = bound (first.at bytes) (λ x. (second.at x.1 >>= λ y. Some ((x.0, y.0), y.1))) (z, rest) e in
      let b = bound (second.at a.0.1) (λ y. Some ((a.0.0, y.0), y.1)) (z, rest) a.1.1 in
      let t = p.takes bytes a.0.0 a.0.1 fits a.1.0 in
      let u = q.takes a.0.1 b.0.0 b.0.1 t.0.rest_fits b.1.0 in
      let made : (A × B) × List ℕ = ((a.0.0, b.0.0), b.0.1) in
      subst (λ (y : (A × B) × List ℕ). Takes bytes (first.spelled y.0.0 ++ second.spelled y.0.1) y.1 × (first.Fits y.0.0 × second.Fits y.0.1)) (some_is made (z, rest) b.1.1)
      (Takes-then bytes (first.spelled a.0.0) a.0.1 (second.spelled b.0.0) b.0.1 t.0 u.0, (t.1, u.1));
  again = λ z rest fits.
      ap (λ (bytes : List ℕ). first.at bytes >>= λ x. (second.at x.1 >>= λ y. Some ((x.0, y.0), y.1))) (append_assoc (first.spelled z.0) (second.spelled z.1) rest)
      ∙ rw (p.again z.0 (second.spelled z.1 ++ rest) fits.0, q.again z.1 rest fits.1) refl;
}

-- what a value is made of is what it is told as
pub known_sound : {A B : Type 0} (form : Form A) (told : B → A) (made : A → Option B) → IsSoundForm form → ((x : A) (y : B) → made x ≡ Some y → told y ≡ x) → IsSoundForm (known_as form told made)
known_sound {A} {B} form told made p back = record {
  takes = λ bytes y rest fits e.
      let a = bound (form.at bytes) (λ x. (made x.0 >>= λ z. Some (z, x.1))) (y, rest) e in
      let b = bound (made a.0.0) (λ z. Some (z, a.0.1)) (y, rest) a.1.1 in
      let t = p.takes bytes a.0.0 a.0.1 fits a.1.0 in
      let is : told b.0 ≡ a.0.0 = back a.0.0 b.0 b.1.0 in
      let pair : B × List ℕ = (b.0, a.0.1) in
      let first : Takes bytes (form.spelled (told b.0)) a.0.1 × (form.Fits (told b.0) × (made (told b.0) ≡ Some b.0)) =
      subst (λ (x : A). Takes bytes (form.spelled x) a.0.1 × (form.Fits x × (made x ≡ Some b.0))) (sym is) (t.0, (t.1, b.1.0)) in
      subst (λ (z : B × List ℕ). Takes bytes (form.spelled (told z.0)) z.1 × (form.Fits (told z.0) × (made (told z.0) ≡ Some z.0))) (some_is pair (y, rest) b.1.1) first;
  again = λ y rest fits. rw (p.again (told y) rest fits.0, fits.1) refl;
}

passed : {A : Type 0} (test : A → Bool) (x y : A) (b : Bool) → (cond b (Some x) None) ≡ Some y → y ≡ x
passed {A} test x y true e = sym (some_is x y e)
passed {A} test x y false e = absurd cc

pub only_sound : {A : Type 0} (test : A → Bool) (form : Form A) → IsSoundForm form → IsSoundForm (only test form)
only_sound {A} test form p = known_sound form (λ x. x) (passing test) p (λ x y e. passed test x y (test x) e)

pub many_takes : {A : Type 0} (form : Form A) → IsSoundForm form → (n : ℕ) (bytes : List ℕ) (xs : List A) (rest : List ℕ) → IsBytes bytes → many_at form.at n bytes ≡ Some (xs, rest)
    → Takes bytes (flat_map form.spelled xs) rest × ((length xs ≡ n) × AllByRecursion form.Fits xs)
many_takes {A} form p zero bytes xs rest fits e =
    subst (λ (y : List A × List ℕ). Takes bytes (flat_map form.spelled y.0) y.1 × ((length y.0 ≡ 0) × AllByRecursion form.Fits y.0)) (some_is ([], bytes) (xs, rest) e) (record { parts = refl; rest_fits = fits }, (refl, tt))
many_takes {A} form p (suc n) bytes xs rest fits e =
    let a = bound (form.at bytes) (λ x. (many_at form.at n x.1 >>= λ ys. Some (x.0 ∷ ys.0, ys.1))) (xs, rest) e in
    let b = bound (many_at form.at n a.0.1) (λ ys. Some (a.0.0 ∷ ys.0, ys.1)) (xs, rest) a.1.1 in
    let t = p.takes bytes a.0.0 a.0.1 fits a.1.0 in
    let u = many_takes form p n a.0.1 b.0.0 b.0.1 t.0.rest_fits b.1.0 in
    let both = Takes-then bytes (form.spelled a.0.0) a.0.1 (flat_map form.spelled b.0.0) b.0.1 t.0 u.0 in
    let made : List A × List ℕ = (a.0.0 ∷ b.0.0, b.0.1) in
    subst (λ (y : List A × List ℕ). Takes bytes (flat_map form.spelled y.0) y.1 × ((length y.0 ≡ suc n) × AllByRecursion form.Fits y.0)) (some_is made (xs, rest) b.1.1) (rw flat_map-cons both, (ap suc u.1.0, (t.1, u.1.1)))

pub many_again : {A : Type 0} (form : Form A) → IsSoundForm form → (xs : List A) (rest : List ℕ) → AllByRecursion form.Fits xs → many_at form.at (length xs) (flat_map form.spelled xs ++ rest) ≡ Some (xs, rest)
many_again {A} form p [] rest fits = refl
many_again {A} form p (x ∷ xs) rest fits =
    let regrouped : flat_map form.spelled (x ∷ xs) ++ rest ≡ form.spelled x ++ (flat_map form.spelled xs ++ rest) =
    ap (λ (t : List ℕ). t ++ rest) (flat_map-cons form.spelled x xs) ∙ append_assoc (form.spelled x) (flat_map form.spelled xs) rest in
    ap (many_at form.at (suc (length xs))) regrouped ∙ rw (p.again x (flat_map form.spelled xs ++ rest) fits.0, many_again form p xs rest fits.1) refl

pub list_sound : {A : Type 0} (form : Form A) → IsSoundForm form → IsSoundForm (list_form form)
list_sound {A} form p = record {
  takes = λ bytes xs rest fits e.
      let a = bound (word_form.at bytes) (λ count. many_at form.at count.0 count.1) (xs, rest) e in
      let t = word_sound.takes bytes a.0.0 a.0.1 fits a.1.0 in
      let u = many_takes form p a.0.0 a.0.1 xs rest t.0.rest_fits a.1.1 in
      let both = Takes-then bytes (word a.0.0) a.0.1 (flat_map form.spelled xs) rest t.0 u.0 in
      (subst (λ (n : ℕ). Takes bytes (word n ++ flat_map form.spelled xs) rest) (sym u.1.0) both, (omega (arith, t.1, u.1.0), u.1.1));
  again = λ xs rest fits.
      ap (λ (bytes : List ℕ). word_form.at bytes >>= λ count. many_at form.at count.0 count.1) (append_assoc (word (length xs)) (flat_map form.spelled xs) rest)
      ∙ rw (word_sound.again (length xs) (flat_map form.spelled xs ++ rest) fits.0) (many_again form p xs rest fits.1);
}

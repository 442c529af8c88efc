-- Forms: how a value is spelled, how it is read from the front of bytes, and which values have a spelling. Small forms
-- are put together to larger ones.
-- Where something is read from bytes, `.0` is what was read, and `.1` are the bytes behind it.
use Rattle.std.specs.Prelude.{◌≡◌, ◌<◌, ◌^◌, ℕ, zero, suc, List, [], ◌∷◌, ◌++◌, length, Bool, true, Option, Some, None, Result, Ok, Err, if◌then◌else◌}
use Rattle.std.specs.List.{flat_map, AllByRecursion}
use Rattle.afs_num.specs.declared.vnodes.Vnode.{Vnode}
use Rattle.afs_xdr.specs.Words.{word, opaque, word_at, opaque_at, AreWords}
use Rattle.spec_shape.specs.Tables.{IsCount}
use Rattle.spec_shape.specs.Taking.{◌>>=◌}
use Rattle.spec_ideal.specs.VnodeImage.{kind_fits, image_words, image, image_at, FitsImage}

pub record Form (A : Type 0) : Type 1 where
  pub spelled : A → List ℕ
  pub at : List ℕ → Option (A × List ℕ)
  pub Fits : A → Type 0

-- what was read, whatever the fault of a refusal
abbrev pub read : {A E : Type 0} → Result A E → Option A
read {A} {E} (Ok x) = Some x
read {A} {E} (Err e) = None

-- ---- small forms

abbrev pub word_form : Form ℕ
word_form = record { spelled = word; at = λ bytes. read (word_at bytes); Fits = λ n. n < 2 ^ 32 }

-- at most so many bytes
abbrev pub text_form : ℕ → Form (List ℕ)
text_form most = record { spelled = opaque; at = λ bytes. read (opaque_at most bytes); Fits = λ text. IsCount most (length text) }

-- the image of a vnode
pub record HasImageForm (v : Vnode) : Type 0 where
  pub limits : FitsImage v
  pub words : AreWords (image_words v)
  pub kind : kind_fits v.vnode v.kind ≡ true

abbrev pub image_form : Form Vnode
image_form = record { spelled = image; at = λ bytes. read (image_at bytes); Fits = HasImageForm }

-- ---- larger ones

-- one behind the other
infixr 10 ◌before◌
abbrev pub ◌before◌ : {A B : Type 0} → Form A → Form B → Form (A × B)
first before second = record {
  spelled = λ p. first.spelled p.0 ++ second.spelled p.1;
  at = λ bytes. first.at bytes >>= λ x. (second.at x.1 >>= λ y. Some ((x.0, y.0), y.1));
  Fits = λ p. first.Fits p.0 × second.Fits p.1;
}

-- Values that are spelled as those of another form: `told` says as which, and `made` what these make, if anything.
abbrev pub known_as : {A B : Type 0} → Form A → (B → A) → (A → Option B) → Form B
known_as {A} {B} form told made = record {
  spelled = λ y. form.spelled (told y);
  at = λ bytes. form.at bytes >>= λ x. (made x.0 >>= λ y. Some (y, x.1));
  Fits = λ y. form.Fits (told y) × (made (told y) ≡ Some y);
}

-- those that pass a test
abbrev pub passing : {A : Type 0} → (A → Bool) → A → Option A
passing {A} test x = if test x then Some x else None

abbrev pub only : {A : Type 0} → (A → Bool) → Form A → Form A
only {A} test form = known_as form (λ x. x) (passing test)

-- so many items
abbrev pub many_at : {A : Type 0} → (List ℕ → Option (A × List ℕ)) → ℕ → List ℕ → Option (List A × List ℕ)
many_at {A} at zero bytes = Some ([], bytes)
many_at {A} at (suc n) bytes = at bytes >>= λ x. (many_at at n x.1 >>= λ xs. Some (x.0 ∷ xs.0, xs.1))

-- a count, and the items
abbrev pub list_form : {A : Type 0} → Form A → Form (List A)
list_form {A} form = record {
  spelled = λ xs. word (length xs) ++ flat_map form.spelled xs;
  at = λ bytes. word_form.at bytes >>= λ count. many_at form.at count.0 count.1;
  Fits = λ xs. (length xs < 2 ^ 32) × AllByRecursion form.Fits xs;
}

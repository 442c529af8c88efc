-- Fields of a stream: how a value is spelled, how it is read from the front of bytes that may end too early, and which values have
-- a spelling. Small fields are put together to larger ones.
-- Where something was read, `.0` is what was read, and `.1` are the bytes after it.
use Rattle.std.specs.Prelude.{◌≡◌, ◌<◌, ◌^◌, ℕ, List, ◌++◌, length, Bool, true, Result, Ok, Err, nat_eq, if◌then◌else◌}
use Rattle.afs_xdr.specs.declared.faults.XdrFault.{XdrFault}
use Rattle.afs_xdr.specs.declared.faults.XdrFault.TheVariants.{Short}
use Rattle.afs_xdr.specs.Words.{word, opaque, word_at, opaque_at}
use Rattle.spec_shape.specs.Tables.{IsCount}

-- What is read from the front of bytes: a value, and the bytes after it. Or the bytes end within a field, or a field is no good;
-- then the bytes from the beginning of that field on are told, so that its offset is known.
pub data FieldTaken (A : Type 0) : Type 0 where
  took : A → List ℕ → FieldTaken A
  cut_at : List ℕ → FieldTaken A
  bad_at : List ℕ → FieldTaken A

infixl 10 ◌>>=◌
-- what is read next, from the bytes that are left
abbrev pub ◌>>=◌ : {A B : Type 0} → FieldTaken A → (A × List ℕ → FieldTaken B) → FieldTaken B
(took x rest) >>= f = f (x, rest)
(cut_at left) >>= f = cut_at left
(bad_at left) >>= f = bad_at left

pub record Field (A : Type 0) : Type 1 where
  pub spelled : A → List ℕ
  pub at : List ℕ → FieldTaken A
  pub Fits : A → Type 0

-- ---- small fields

-- A field of which too few bytes are there is cut; one that can't be read for another reason is bad.
abbrev pub as_taken : {A : Type 0} → List ℕ → Result (A × List ℕ) XdrFault → FieldTaken A
as_taken {A} bytes (Ok x) = took x.0 x.1
as_taken {A} bytes (Err Short) = cut_at bytes
as_taken {A} bytes (Err e) = bad_at bytes

abbrev pub word_field : Field ℕ
word_field = record { spelled = word; at = λ bytes. as_taken bytes (word_at bytes); Fits = λ n. n < 2 ^ 32 }

-- at most so many bytes; a greater count is bad before the bytes are there
abbrev pub text_field : ℕ → Field (List ℕ)
text_field most = record { spelled = opaque; at = λ bytes. as_taken bytes (opaque_at most bytes); Fits = λ text. IsCount most (length text) }

-- ---- larger ones

-- a value that was read, or a bad field, which began with these bytes
abbrev pub if_good : {A : Type 0} → Bool → A → List ℕ → List ℕ → FieldTaken A
if_good is_good x rest bytes = if is_good then took x rest else bad_at bytes

-- values that pass a test
abbrev pub only : {A : Type 0} → (A → Bool) → Field A → Field A
only {A} test field = record {
  spelled = field.spelled;
  at = λ bytes. field.at bytes >>= λ x. if_good (test x.0) x.0 x.1 bytes;
  Fits = λ x. field.Fits x × (test x ≡ true);
}

-- this word and no other
abbrev pub mark : ℕ → Field (Unit {0})
mark n = record {
  spelled = λ u. word n;
  at = λ bytes. word_field.at bytes >>= λ m. if_good (nat_eq m.0 n) tt m.1 bytes;
  Fits = λ u. n < 2 ^ 32;
}

-- two fields, the second of which depends on what the first one has
abbrev pub and_then : {A B : Type 0} → Field A → (A → Field B) → Field (A × B)
and_then {A} {B} first second = record {
  spelled = λ p. first.spelled p.0 ++ (second p.0).spelled p.1;
  at = λ bytes. first.at bytes >>= λ x. ((second x.0).at x.1 >>= λ y. took (x.0, y.0) y.1);
  Fits = λ p. first.Fits p.0 × (second p.0).Fits p.1;
}

infixr 10 ◌before◌
abbrev pub ◌before◌ : {A B : Type 0} → Field A → Field B → Field (A × B)
first before second = and_then first (λ x. second)

-- Values that are spelled as those of another field: `told` says as which, and `made` which value these make.
abbrev pub known_as : {A B : Type 0} → Field A → (B → A) → (A → B) → Field B
known_as {A} {B} field told made = record {
  spelled = λ y. field.spelled (told y);
  at = λ bytes. field.at bytes >>= λ x. took (made x.0) x.1;
  Fits = λ y. field.Fits (told y) × (made (told y) ≡ y);
}

-- a word that has to be there, and the field after it
abbrev pub marked : {A : Type 0} → ℕ → Field A → Field A
marked {A} n field = known_as (mark n before field) (λ x. (tt, x)) (λ p. p.1)

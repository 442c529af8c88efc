-- Bytes and names, as they are read back from their digits and escapes.
use Rattle.std.proofs.Common.{◌≡◌, ℕ, ◌+◌, ◌-◌, ◌*◌, ◌/◌, ◌%◌, Bool, true, false, cond, not, List, [], ◌∷◌, ◌++◌, refl, ap, sym, ◌∙◌, append_assoc, nat_eq, nat_lt, lt-ltb, le-ltb, ltb-true, ltb-false, ne_eqb, ltb, arith}
use Rattle.std.specs.Fmt.{digit_glyph}
use Rattle.spec_model.specs.LineText.{hex_text, is_plain, name_byte, name_text}
use Rattle.afs_text.proofs.WordsRead.{in_row}

-- ---- digits

-- the digit that a glyph writes; it is told whatever the digit is
abbrev digit_of : Bool → ℕ → ℕ
digit_of upper g = cond (nat_lt g 58) (g - 48) (cond upper (g - 55) (g - 87))

abbrev glyph : Bool → Bool → ℕ → ℕ
glyph small upper d = cond small (48 + d) (cond upper (55 + d) (87 + d))

digit_again : (upper : Bool) (d : ℕ) → digit_of upper (digit_glyph upper d) ≡ d
digit_again upper d = by (ltb d 10) upper refl
  where
    by : (t b : Bool) → ltb d 10 ≡ t → digit_of b (glyph t b d) ≡ d
    by true b e = let l = ltb-true d 10 e in rw (lt-ltb (48 + d) 58 (omega arith)) (omega arith)
    by false true e = let l = ltb-false d 10 e in rw (le-ltb (55 + d) 58 (omega arith)) (omega arith)
    by false false e = let l = ltb-false d 10 e in rw (le-ltb (87 + d) 58 (omega arith)) (omega arith)

-- no glyph is below the first digit
glyph_high : (upper : Bool) (d : ℕ) → nat_lt (digit_glyph upper d) 48 ≡ false
glyph_high upper d = by (ltb d 10) upper
  where
    by : (t b : Bool) → nat_lt (glyph t b d) 48 ≡ false
    by true b = le-ltb (48 + d) 48 (omega arith)
    by false true = le-ltb (55 + d) 48 (omega arith)
    by false false = le-ltb (87 + d) 48 (omega arith)

-- a byte, by its two digits
abbrev byte_of : Bool → ℕ → ℕ → ℕ
byte_of upper g h = 16 * digit_of upper g + digit_of upper h

byte_again : (upper : Bool) (b : ℕ) → byte_of upper (digit_glyph upper (b / 16)) (digit_glyph upper (b % 16)) ≡ b
byte_again upper b =
    let high = digit_again upper (b / 16) in
    let low = digit_again upper (b % 16) in
    let parts : byte_of upper (digit_glyph upper (b / 16)) (digit_glyph upper (b % 16)) ≡ 16 * (b / 16) + b % 16 = (λ i. 16 * high i + low i) in
    let whole : 16 * (b / 16) + b % 16 ≡ b = omega arith in
    parts ∙ whole

-- one item more stands before those that were read
abbrev with_first : ℕ → List ℕ × List ℕ → List ℕ × List ℕ
with_first b r = (b ∷ r.0, r.1)

first_again : (a b : ℕ) (bs rest : List ℕ) (r : List ℕ × List ℕ) → a ≡ b → r ≡ (bs, rest) → with_first a r ≡ (b ∷ bs, rest)
first_again a b bs rest r e is = ap (λ (k : ℕ). with_first k r) e ∙ ap (with_first b) is

-- ---- contents

-- pairs of digits, until a byte below them; this one is left out
pub hex_at : List ℕ → List ℕ × List ℕ
hex_at [] = ([], [])
hex_at (g ∷ []) = ([], [])
hex_at (g ∷ h ∷ rest) = cond (nat_lt g 48) ([], h ∷ rest) (with_first (byte_of false g h) (hex_at rest))

hex_ends : (c : ℕ) → nat_lt c 48 ≡ true → (rest : List ℕ) → hex_at (c ∷ rest) ≡ ([], rest)
unfolding hex_at
hex_ends c stop [] = refl
hex_ends c stop (r ∷ rest) = rw stop refl

hex_more : (g h : ℕ) (rest : List ℕ) → nat_lt g 48 ≡ false → hex_at (g ∷ h ∷ rest) ≡ with_first (byte_of false g h) (hex_at rest)
unfolding hex_at
hex_more g h rest high = rw high refl

pub hex_last : (bytes : List ℕ) (c : ℕ) → nat_lt c 48 ≡ true → (rest : List ℕ) → hex_at (hex_text bytes ++ c ∷ rest) ≡ (bytes, rest)
unfolding hex_text
hex_last [] c stop rest = hex_ends c stop rest
hex_last (b ∷ bs) c stop rest =
    hex_more (digit_glyph false (b / 16)) (digit_glyph false (b % 16)) (hex_text bs ++ c ∷ rest) (glyph_high false (b / 16))
    ∙ first_again _ b bs rest (hex_at (hex_text bs ++ c ∷ rest)) (byte_again false b) (hex_last bs c stop rest)

pub hex_row : (bytes : List ℕ) (c : ℕ) → nat_lt c 48 ≡ true → (x rest : List ℕ) → hex_at ((hex_text bytes ++ c ∷ x) ++ rest) ≡ (bytes, x ++ rest)
hex_row bytes c stop x rest = in_row hex_at (hex_text bytes) c x rest bytes (hex_last bytes c stop (x ++ rest))

-- ---- names

-- how far a byte was read: not yet, its sign of an escape, or the first digit too
data Escape : Type 0 where
  plain : Escape
  begun : Escape
  half : ℕ → Escape

-- no byte of a name goes on here
abbrev pub ends_name : List ℕ → Bool
ends_name [] = true
ends_name (c ∷ cs) = cond (nat_eq c 37) false (not (is_plain c))

name_from : Escape → List ℕ → List ℕ × List ℕ
name_from e [] = ([], [])
name_from plain (c ∷ cs) = cond (nat_eq c 37) (name_from begun cs) (cond (is_plain c) (with_first c (name_from plain cs)) ([], c ∷ cs))
name_from begun (g ∷ cs) = name_from (half g) cs
name_from (half g) (h ∷ cs) = with_first (byte_of true g h) (name_from plain cs)

-- a name, and the bytes from the one on that ends it
pub name_open : List ℕ → List ℕ × List ℕ
name_open bytes = name_from plain bytes

name_ends : (tail : List ℕ) → ends_name tail ≡ true → name_from plain tail ≡ ([], tail)
unfolding name_from
name_ends [] stop = refl
name_ends (c ∷ cs) stop = by (nat_eq c 37) (is_plain c) stop
  where
    by : (t u : Bool) → cond t false (not u) ≡ true → (let r : List ℕ × List ℕ = cond t (name_from begun cs) (cond u (with_first c (name_from plain cs)) ([], c ∷ cs)) in r) ≡ ([], c ∷ cs)
    by true u h = cc
    by false true h = cc
    by false false h = refl

-- no name at all
pub no_name : (tail : List ℕ) → ends_name tail ≡ true → name_open tail ≡ ([], tail)
unfolding name_open
no_name tail stop = name_ends tail stop

-- the sign of an escape is no plain byte
plain_is_other : (b : ℕ) → is_plain b ≡ true → nat_eq b 37 ≡ false
plain_is_other b e = ne_eqb b 37 (λ p. let no : false ≡ true = ap is_plain (sym p) ∙ e in cc)

third_of : {A : Type 0} (t u : Bool) (x y z : A) → t ≡ false → u ≡ true → cond t x (cond u y z) ≡ y
third_of true u x y z p q = cc
third_of false true x y z p q = refl
third_of false false x y z p q = cc

name_more : (b : ℕ) (tail : List ℕ) → name_from plain (name_byte b ++ tail) ≡ with_first b (name_from plain tail)
unfolding name_from
name_more b tail = by (is_plain b) refl
  where
    by : (t : Bool) → is_plain b ≡ t → name_from plain (cond t (b ∷ []) (37 ∷ digit_glyph true (b / 16) ∷ digit_glyph true (b % 16) ∷ []) ++ tail) ≡ with_first b (name_from plain tail)
    by true e = third_of {A = List ℕ × List ℕ} (nat_eq b 37) (is_plain b) (name_from begun tail) (with_first b (name_from plain tail)) ([], b ∷ tail) (plain_is_other b e) e
    by false e = ap (λ (k : ℕ). with_first k (name_from plain tail)) (byte_again true b)

pub name_tail : (name tail : List ℕ) → ends_name tail ≡ true → name_open (name_text name ++ tail) ≡ (name, tail)
unfolding name_open name_text
name_tail [] tail stop = name_ends tail stop
name_tail (b ∷ bs) tail stop =
    ap (name_from plain) (append_assoc (name_byte b) (name_text bs) tail) ∙ name_more b (name_text bs ++ tail)
    ∙ ap (with_first b) (name_tail bs tail stop)

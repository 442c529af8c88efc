-- What texts are read back from: words, numbers, and what names nodes, objects and calls. A reader gives what it read, and the bytes behind
-- that; most leave out the byte that ends it.
use Rattle.std.proofs.Common.{◌≡◌, ℕ, zero, suc, ◌+◌, ◌*◌, ◌/◌, ◌%◌, ◌<◌, Bool, true, false, cond, not, List, [], ◌∷◌, ◌++◌, drop, length, subst, Option, Some, None, ℤ, pos, negsuc, refl, ap, sym, ◌∙◌, append_assoc, codes, nat_eq, nat_lt, lt-ltb, ne_eqb, arith}
use Rattle.std.specs.Fmt.{decimal, signed_decimal, digits, digits_onto, digit_glyph}
use Rattle.std.proofs.lemmas.Fmt.{digits_is_IsNumeral, decimal_is_IsNumeral_wide, decimal_digit}
use Rattle.std.specs.Str.Parse.{AllDigits, digits_value_after}
use Rattle.std.specs.Char.{digit_value}
use Rattle.afs_num.specs.Texts.{node_text, fid_text, key_text}
use Rattle.afs_num.specs.declared.types.Fid.{Fid}
use Rattle.afs_num.specs.declared.types.Key.{Key}
use Rattle.afs_num.specs.declared.types.Node.{Node}
use Rattle.afs_num.specs.declared.types.Node.TheVariants.{Loc, Server, Client, Admin}
use Rattle.afs_text.specs.Whole.{IsWhole, IsWholeFid, IsWholeKey, IsWholeMode, IsWholeNode, IsWholeSigned}

-- ---- words

-- what stands behind a word
abbrev pub behind : List ℕ → List ℕ → Option (List ℕ)
behind [] bytes = Some bytes
behind (w ∷ ws) [] = None
behind (w ∷ ws) (b ∷ bs) = cond (nat_eq w b) (behind ws bs) None

-- by what stands behind the word, or else
abbrev pub at_word : {A : Type 0} → Option (List ℕ) → (List ℕ → A) → A → A
at_word (Some rest) f other = f rest
at_word None f other = other

-- what was read, and what is read behind it
abbrev pub read : {A B : Type 0} → A × List ℕ → (A → List ℕ → B) → B
read r f = f r.0 r.1

-- the byte that ends what was read is left out
abbrev pub closed : {A : Type 0} → A × List ℕ → A × List ℕ
closed r = (r.0, drop 1 r.1)

-- a text of which this is read, in a row and with a byte behind it
pub in_row : {A : Type 0} (at : List ℕ → A × List ℕ) (text : List ℕ) (c : ℕ) (x rest : List ℕ) (a : A) → at (text ++ c ∷ (x ++ rest)) ≡ (a, x ++ rest) → at ((text ++ c ∷ x) ++ rest) ≡ (a, x ++ rest)
in_row {A} at text c x rest a h = ap at (append_assoc text (c ∷ x) rest) ∙ h

-- ---- numbers

abbrev pub is_digit : ℕ → ℕ → Bool
is_digit base c = nat_lt (digit_value c) base

-- no digit goes on here
abbrev pub ends_number : ℕ → List ℕ → Bool
ends_number base [] = true
ends_number base (c ∷ cs) = not (is_digit base c)

pub number_from : ℕ → ℕ → List ℕ → ℕ × List ℕ
number_from base n [] = (n, [])
number_from base n (c ∷ cs) = cond (is_digit base c) (number_from base (n * base + digit_value c) cs) (n, c ∷ cs)

number_ends : (base n : ℕ) (tail : List ℕ) → ends_number base tail ≡ true → number_from base n tail ≡ (n, tail)
unfolding number_from
number_ends base n [] stop = refl
number_ends base n (c ∷ cs) stop = by (is_digit base c) stop
  where
    by : (t : Bool) → not t ≡ true → (let r : ℕ × List ℕ = cond t (number_from base (n * base + digit_value c) cs) (n, c ∷ cs) in r) ≡ (n, c ∷ cs)
    by true h = cc
    by false h = refl

digits_from : (base n : ℕ) (ds tail : List ℕ) → AllDigits base ds → ends_number base tail ≡ true → number_from base n (ds ++ tail) ≡ (digits_value_after base n ds, tail)
unfolding number_from
digits_from base n [] tail all stop = number_ends base n tail stop
digits_from base n (d ∷ ds) tail all stop = rw (lt-ltb (digit_value d) base all.0) (digits_from base (n * base + digit_value d) ds tail all.1 stop)

valued : (m n : ℕ) (tail : List ℕ) → m ≡ n → (let p : ℕ × List ℕ = (m, tail) in p) ≡ (n, tail)
valued m n tail e = ap (λ (k : ℕ). let p : ℕ × List ℕ = (k, tail) in p) e

-- a number, and the bytes from the one on that ends it
pub number_open : List ℕ → ℕ × List ℕ
number_open bytes = number_from 10 0 bytes

pub number_tail : (n : ℕ) → IsWhole n → (tail : List ℕ) → ends_number 10 tail ≡ true → number_open (decimal n ++ tail) ≡ (n, tail)
unfolding number_open
number_tail n whole tail stop =
    let k = decimal_is_IsNumeral_wide n whole in
    digits_from 10 0 (decimal n) tail k.0.1 stop ∙ valued _ n tail k.1

pub number_at : List ℕ → ℕ × List ℕ
number_at bytes = closed (number_open bytes)

pub number_last : (n c : ℕ) → IsWhole n → is_digit 10 c ≡ false → (rest : List ℕ) → number_at (decimal n ++ c ∷ rest) ≡ (n, rest)
unfolding number_at
number_last n c whole stop rest = ap (λ (r : ℕ × List ℕ). closed r) (number_tail n whole (c ∷ rest) (ap not stop))

pub number_row : (n c : ℕ) → IsWhole n → is_digit 10 c ≡ false → (x rest : List ℕ) → number_at ((decimal n ++ c ∷ x) ++ rest) ≡ (n, x ++ rest)
number_row n c whole stop x rest = in_row number_at (decimal n) c x rest n (number_last n c whole stop (x ++ rest))

-- a text that doesn't begin with the word, whatever stands behind it
abbrev pub Refuses : List ℕ → List ℕ → Type 0
Refuses word text = (tail : List ℕ) → behind word (text ++ tail) ≡ None

pub refuses_joined : (word a b : List ℕ) → Refuses word a → Refuses word (a ++ b)
refuses_joined word a b h tail = ap (behind word) (append_assoc a b tail) ∙ h (b ++ tail)

no_digit_is : (w d : ℕ) → is_digit 10 w ≡ false → digit_value d < 10 → nat_eq w d ≡ false
no_digit_is w d stop small = ne_eqb w d (λ p. let no : true ≡ false = sym (lt-ltb (digit_value d) 10 small) ∙ ap (is_digit 10) (sym p) ∙ stop in cc)

digits_refuse : (w : ℕ) (ws ds : List ℕ) → is_digit 10 w ≡ false → 0 < length ds → AllDigits 10 ds → Refuses (w ∷ ws) ds
digits_refuse w ws [] stop some all tail = absurd (omega arith)
digits_refuse w ws (d ∷ ds) stop some all tail = rw (no_digit_is w d stop all.0) refl

-- a number doesn't begin with what is no digit
pub number_refuses : (n w : ℕ) (ws : List ℕ) → IsWhole n → is_digit 10 w ≡ false → Refuses (w ∷ ws) (decimal n)
number_refuses n w ws whole stop = let k = decimal_is_IsNumeral_wide n whole in digits_refuse w ws (decimal n) stop k.0.0 k.0.1

-- a mode, in octal
pub mode_at : List ℕ → ℕ × List ℕ
mode_at bytes = closed (number_from 8 0 bytes)

pub mode_last : (n c : ℕ) → IsWholeMode n → is_digit 8 c ≡ false → (rest : List ℕ) → mode_at (digits 8 false n ++ c ∷ rest) ≡ (n, rest)
unfolding mode_at
mode_last n c whole stop rest =
    let k = digits_is_IsNumeral 8 false (omega arith) (omega arith) n whole in
    ap (λ (r : ℕ × List ℕ). closed r) (digits_from 8 0 (digits 8 false n) (c ∷ rest) k.0.1 (ap not stop) ∙ valued _ n (c ∷ rest) k.1)

-- ---- signed numbers

abbrev negative : ℕ → ℤ
negative zero = pos 0
negative (suc n) = negsuc n

-- a signed number, and the bytes from the one on that ends it
pub signed_open : List ℕ → ℤ × List ℕ
signed_open bytes = at_word (behind (codes "-") bytes) (λ r. read (number_open r) (λ n t. (negative n, t))) (read (number_open bytes) (λ n t. (pos n, t)))

signed_tail : (z : ℤ) → IsWholeSigned z → (tail : List ℕ) → ends_number 10 tail ≡ true → signed_open (signed_decimal z ++ tail) ≡ (z, tail)
unfolding signed_open
signed_tail (pos n) whole tail stop = rw (number_refuses n 45 [] whole refl tail, number_tail n whole tail stop) refl
signed_tail (negsuc n) whole tail stop = rw (number_tail (suc n) whole tail stop) refl

-- a text of which the number is the beginning, and then a byte that ends it
pub signed_before : (z : ℤ) (c : ℕ) → IsWholeSigned z → is_digit 10 c ≡ false → (x rest : List ℕ) → signed_open ((signed_decimal z ++ c ∷ x) ++ rest) ≡ (z, c ∷ (x ++ rest))
signed_before z c whole stop x rest = ap signed_open (append_assoc (signed_decimal z) (c ∷ x) rest) ∙ signed_tail z whole (c ∷ (x ++ rest)) (ap not stop)

-- the code of an answer that tells two releases behind it
pub older_code : (x : List ℕ) → signed_open (codes "105 " ++ x) ≡ (pos 105, codes " " ++ x)
unfolding signed_open number_open number_from
older_code x = refl

pub signed_at : List ℕ → ℤ × List ℕ
signed_at bytes = closed (signed_open bytes)

pub signed_last : (z : ℤ) (c : ℕ) → IsWholeSigned z → is_digit 10 c ≡ false → (rest : List ℕ) → signed_at (signed_decimal z ++ c ∷ rest) ≡ (z, rest)
unfolding signed_at
signed_last z c whole stop rest = ap (λ (r : ℤ × List ℕ). closed r) (signed_tail z whole (c ∷ rest) (ap not stop))

pub signed_row : (z : ℤ) (c : ℕ) → IsWholeSigned z → is_digit 10 c ≡ false → (x rest : List ℕ) → signed_at ((signed_decimal z ++ c ∷ x) ++ rest) ≡ (z, x ++ rest)
signed_row z c whole stop x rest = in_row signed_at (signed_decimal z) c x rest z (signed_last z c whole stop (x ++ rest))

-- ---- the number of an entry and the place of a message, of which just the end is read

small_glyph : (d : ℕ) → d < 10 → digit_value (digit_glyph false d) < 10
small_glyph d small =
    let glyph : digit_glyph false d ≡ 48 + d = ap (λ (t : Bool). cond t (48 + d) (87 + d)) (lt-ltb d 10 small) in
    let shown : AllDigits 10 ((48 + d) ∷ []) = subst (AllDigits 10) (decimal_digit d small) (decimal_is_IsNumeral_wide d (omega arith)).0.1 in
    subst (λ (g : ℕ). digit_value g < 10) (sym glyph) shown.0

chosen_digits : (t : Bool) (a b : List ℕ) → AllDigits 10 a → AllDigits 10 b → AllDigits 10 (cond t a b)
chosen_digits true a b p q = p
chosen_digits false a b p q = q

onto_digits : (k n : ℕ) (acc : List ℕ) → AllDigits 10 acc → AllDigits 10 (digits_onto k 10 false n acc)
onto_digits zero n acc all = all
onto_digits (suc k) n acc all =
    let more : AllDigits 10 (digit_glyph false (n % 10) ∷ acc) = (small_glyph (n % 10) (omega arith), all) in
    chosen_digits (nat_eq (n / 10) 0) _ _ more (onto_digits k (n / 10) (digit_glyph false (n % 10) ∷ acc) more)

decimal_digits : (n : ℕ) → AllDigits 10 (decimal n)
unfolding digits
decimal_digits n = onto_digits 64 n [] tt

-- what is read of a number, however many digits it has
abbrev pub written : ℕ → ℕ
written n = digits_value_after 10 0 (decimal n)

pub any_row : (n c : ℕ) → is_digit 10 c ≡ false → (x rest : List ℕ) → number_at ((decimal n ++ c ∷ x) ++ rest) ≡ (written n, x ++ rest)
unfolding number_at number_open
any_row n c stop x rest =
    in_row number_at (decimal n) c x rest (written n) (ap (λ (r : ℕ × List ℕ). closed r) (digits_from 10 0 (decimal n) (c ∷ (x ++ rest)) (decimal_digits n) (ap not stop)))

-- ---- nodes

pub node_at : List ℕ → Node × List ℕ
node_at bytes =
    at_word (behind (codes "s") bytes) (λ r. read (number_at r) (λ i t. (Server i, t)))
    (at_word (behind (codes "c") bytes) (λ r. read (number_at r) (λ i t. (Client i, t)))
    (at_word (behind (codes "a") bytes) (λ r. read (number_at r) (λ i t. (Admin i, t)))
    (Loc, drop 4 bytes)))

pub node_last : (n : Node) (c : ℕ) → IsWholeNode n → is_digit 10 c ≡ false → (rest : List ℕ) → node_at (node_text n ++ c ∷ rest) ≡ (n, rest)
unfolding node_at
node_last Loc c whole stop rest = refl
node_last (Server i) c whole stop rest = rw (number_last i c whole stop rest) refl
node_last (Client i) c whole stop rest = rw (number_last i c whole stop rest) refl
node_last (Admin i) c whole stop rest = rw (number_last i c whole stop rest) refl

pub node_row : (n : Node) (c : ℕ) → IsWholeNode n → is_digit 10 c ≡ false → (x rest : List ℕ) → node_at ((node_text n ++ c ∷ x) ++ rest) ≡ (n, x ++ rest)
node_row n c whole stop x rest = in_row node_at (node_text n) c x rest n (node_last n c whole stop (x ++ rest))

-- ---- fids

pub fid_at : List ℕ → Fid × List ℕ
fid_at bytes = read (number_at bytes) (λ v r. read (number_at r) (λ n s. read (number_at s) (λ u t. (record { volume = v; vnode = n; unique = u }, t))))

pub fid_last : (f : Fid) (c : ℕ) → IsWholeFid f → is_digit 10 c ≡ false → (rest : List ℕ) → fid_at (fid_text f ++ c ∷ rest) ≡ (f, rest)
unfolding fid_at
fid_last f c whole stop rest = rw (number_row f.volume 46 whole.0 refl, number_row f.vnode 46 whole.1 refl, number_last f.unique c whole.2 stop) refl

pub fid_row : (f : Fid) (c : ℕ) → IsWholeFid f → is_digit 10 c ≡ false → (x rest : List ℕ) → fid_at ((fid_text f ++ c ∷ x) ++ rest) ≡ (f, x ++ rest)
fid_row f c whole stop x rest = in_row fid_at (fid_text f) c x rest f (fid_last f c whole stop (x ++ rest))

-- ---- keys

pub key_at : List ℕ → Key × List ℕ
key_at bytes = read (node_at bytes) (λ v r. read (number_at r) (λ n s. read (number_at s) (λ u t. (record { node = v; epoch = n; number = u }, t))))

pub key_last : (k : Key) (c : ℕ) → IsWholeKey k → is_digit 10 c ≡ false → (rest : List ℕ) → key_at (key_text k ++ c ∷ rest) ≡ (k, rest)
unfolding key_at
key_last k c whole stop rest = rw (node_row k.node 46 whole.0 refl, number_row k.epoch 46 whole.1 refl, number_last k.number c whole.2 stop) refl

pub key_row : (k : Key) (c : ℕ) → IsWholeKey k → is_digit 10 c ≡ false → (x rest : List ℕ) → key_at ((key_text k ++ c ∷ x) ++ rest) ≡ (k, x ++ rest)
key_row k c whole stop x rest = in_row key_at (key_text k) c x rest k (key_last k c whole stop (x ++ rest))

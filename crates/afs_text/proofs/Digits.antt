-- Contents as pairs of digits, and names whose bytes are plain.
use Rattle.std.proofs.Common.{◌≡◌, ℕ, zero, suc, ◌+◌, ◌-◌, ◌*◌, ◌/◌, ◌%◌, ◌&&◌, T, eqb, inl, inr, eq-zero-or-pos, ◌<◌, ◌≤◌, List, [], ◌∷◌, ◌++◌, length, take, drop, map, subst, Bool, true, false, refl, sym, ap, ◌∙◌, append_assoc, if◌then◌else◌, slice_set, arith}
use Rattle.std.specs.List.{flat_map, list_all, All}
use Rattle.std.specs.Fmt.{digit_glyph}
use Rattle.std.proofs.Math.ListN.{get_or}
use Rattle.std.proofs.lemmas.Bool.{and_parts}
use Rattle.std.proofs.lemmas.Grind.{drop_more_same, flat_map-append}
use Rattle.std.proofs.lemmas.List.{take_more, take_more_set, take_all, length-set, get_or-drop, map-append, drop-set-lt}
use Rattle.std.proofs.lemmas.List.Elements.{All-append, All-cons, All-get_or}
use Rattle.spec_model.specs.LineText.{hex_byte, hex_text, is_plain, name_byte, name_text}
use Rattle.std.proofs.lemmas.Slice.{between-put_mid, take-put_mid, take-put_mid_below}
use borrow.Rule.Slice.PartMut.{mid_of, mid_len, put_mid, same_len_mid}
use Rattle.afs_text.specs.Laying.{halves_of, LaysAt}
use Rattle.afs_text.specs.declared.bytes.TheConstants.{PLAIN}
use lib.Ieee.Fits.{and_l, and_r}

-- ---- contents

-- two writes in a row, seen from the front
two_more : (xs : List ℕ) (i x y : ℕ) → i + 1 < length xs → take (i + 2) (slice_set (slice_set xs i x) (i + 1) y) ≡ take i xs ++ x ∷ y ∷ []
two_more xs i x y within =
    let long : length (slice_set xs i x) ≡ length xs = length-set xs i x in
    let two : i + 2 ≡ i + 1 + 1 = omega arith in
    ap (λ k. take k (slice_set (slice_set xs i x) (i + 1) y)) two ∙ take_more_set (slice_set xs i x) (i + 1) y (omega (arith, long))
    ∙ ap (λ (l : List ℕ). l ++ y ∷ []) (take_more_set xs i x (omega arith)) ∙ append_assoc (take i xs) (x ∷ []) (y ∷ [])

-- one byte more was parted
pub parted_more : (bytes halves : List ℕ) (i d x y : ℕ) → i < length bytes → 2 * i + 1 < length halves
    → x ≡ get_or bytes i d / 16 → y ≡ get_or bytes i d % 16
    → take (2 * i) halves ≡ flat_map halves_of (take i bytes)
    → take (2 * (i + 1)) (slice_set (slice_set halves (2 * i) x) (2 * i + 1) y) ≡ flat_map halves_of (take (i + 1) bytes)
parted_more bytes halves i d x y within room high low before =
    let two : 2 * (i + 1) ≡ 2 * i + 2 = omega arith in
    let pair : x ∷ y ∷ [] ≡ halves_of (get_or bytes i d) = ap (λ k. k ∷ y ∷ []) high ∙ ap (λ k. (get_or bytes i d / 16) ∷ k ∷ []) low in
    ap (λ k. take k (slice_set (slice_set halves (2 * i) x) (2 * i + 1) y)) two ∙ two_more halves (2 * i) x y room ∙ ap (λ (l : List ℕ). l ++ x ∷ y ∷ []) before
    ∙ ap (λ (l : List ℕ). flat_map halves_of (take i bytes) ++ l) pair
    ∙ sym (flat_map-append halves_of (take i bytes) (get_or bytes i d ∷ [])) ∙ sym (ap (flat_map halves_of) (take_more bytes i d within))

all_two : (x y : ℕ) → x < 16 → y < 16 → All (λ n. n < 16) (x ∷ y ∷ [])
all_two x y high low = All-cons (λ n. n < 16) x (y ∷ []) high (All-cons (λ n. n < 16) y [] low (λ k d h. absurd (omega (arith, h))))

-- two numbers more are below 16
pub small_more : (halves : List ℕ) (i x y : ℕ) → 2 * i + 1 < length halves → x < 16 → y < 16
    → All (λ n. n < 16) (take (2 * i) halves) → All (λ n. n < 16) (take (2 * (i + 1)) (slice_set (slice_set halves (2 * i) x) (2 * i + 1) y))
small_more halves i x y room high low before =
    let two : 2 * (i + 1) ≡ 2 * i + 2 = omega arith in
    let same = ap (λ k. take k (slice_set (slice_set halves (2 * i) x) (2 * i + 1) y)) two ∙ two_more halves (2 * i) x y room in
    subst (λ (l : List ℕ). All (λ n. n < 16) l) (sym same) (All-append (λ n. n < 16) (take (2 * i) halves) (x ∷ y ∷ []) before (all_two x y high low))

-- all bytes were parted
pub parted_all : (bytes halves : List ℕ) (i : ℕ) → length bytes ≤ i → i ≤ length bytes → take (2 * i) halves ≡ flat_map halves_of (take i bytes) → take (2 * length bytes) halves ≡ flat_map halves_of bytes
parted_all bytes halves i all within done =
    let same : i ≡ length bytes = omega arith in
    ap (λ k. take (2 * k) halves) (sym same) ∙ done ∙ ap (flat_map halves_of) (take_all i bytes (omega arith))

-- of lists that are the same from here on the items that stand here are the same
same_item : (old halves : List ℕ) (i d : ℕ) → drop i halves ≡ drop i old → get_or halves i d ≡ get_or old i d
same_item old halves i d left =
    let here : i + 0 ≡ i = omega arith in
    ap (λ k. get_or halves k d) (sym here) ∙ sym (get_or-drop i halves 0 d) ∙ ap (λ (l : List ℕ). get_or l 0 d) left ∙ get_or-drop i old 0 d ∙ ap (λ k. get_or old k d) here

-- what is left is below 16
pub small_item : (old halves : List ℕ) (i d : ℕ) → i < length halves → length halves ≡ length old → drop i halves ≡ drop i old → All (λ n. n < 16) old → get_or halves i d < 16
small_item old halves i d within long left small =
    subst (λ k. k < 16) (sym (same_item old halves i d left)) (All-get_or (λ n. n < 16) old i d (omega (arith, long)) small)

-- what is behind a digit that was made is as it was
pub left_more : (old halves : List ℕ) (i x : ℕ) → drop i halves ≡ drop i old → drop (i + 1) (slice_set halves i x) ≡ drop (i + 1) old
left_more old halves i x left = drop-set-lt (i + 1) halves i x (omega arith) ∙ drop_more_same halves old i left

-- one digit more was made
pub digit_more : (old halves : List ℕ) (i d x : ℕ) → i < length halves → length halves ≡ length old → x ≡ digit_glyph false (get_or halves i d)
    → take i halves ≡ map (digit_glyph false) (take i old) → drop i halves ≡ drop i old
    → take (i + 1) (slice_set halves i x) ≡ map (digit_glyph false) (take (i + 1) old)
digit_more old halves i d x within long is before left =
    let same = same_item old halves i d left in
    take_more_set halves i x within ∙ ap (λ (l : List ℕ). l ++ x ∷ []) before
    ∙ ap (λ k. map (digit_glyph false) (take i old) ++ k ∷ []) (is ∙ ap (digit_glyph false) same)
    ∙ sym (map-append (digit_glyph false) (take i old) (get_or old i d ∷ [])) ∙ sym (ap (map (digit_glyph false)) (take_more old i d (omega (arith, long))))

spelled : (bytes : List ℕ) → map (digit_glyph false) (flat_map halves_of bytes) ≡ flat_map hex_byte bytes
spelled [] = refl
spelled (b ∷ bs) = ap (λ (l : List ℕ). digit_glyph false (b / 16) ∷ digit_glyph false (b % 16) ∷ l) (spelled bs)

-- the digits of the halves are those of the bytes
pub spelled_text : (bytes : List ℕ) → map (digit_glyph false) (flat_map halves_of bytes) ≡ hex_text bytes
unfolding hex_text
spelled_text bytes = spelled bytes

-- two digits a byte
pub hex_length : (bytes : List ℕ) → length (hex_text bytes) ≡ 2 * length bytes
unfolding hex_text
hex_length [] = refl
hex_length (b ∷ bs) = ap (λ n. suc (suc n)) (hex_length bs) ∙ omega arith

-- the halves were laid in a part of the bytes, and then their digits in their place
pub digits_laid : (xs old halves digits : List ℕ) (at behind : ℕ) → behind ≡ at + 2 * length xs → behind ≤ length old → length halves ≡ behind - at → take (2 * length xs) halves ≡ flat_map halves_of xs
    → digits ≡ map (digit_glyph false) (mid_of at (behind - at) (put_mid at (behind - at) old halves))
    → LaysAt (hex_text xs) at old (put_mid at (behind - at) (put_mid at (behind - at) old halves) digits) behind
digits_laid xs old halves digits at behind there within long parted is =
    let between : List ℕ = put_mid at (behind - at) old halves in
    let text : digits ≡ hex_text xs =
    is ∙ ap (map (digit_glyph false)) (between-put_mid at (behind - at) old halves behind (omega (arith, there, within)) long ∙ sym (take_all (2 * length xs) halves (omega (arith, there, long))) ∙ parted)
    ∙ spelled_text xs in
    let many : length digits ≡ behind - at = ap length text ∙ hex_length xs ∙ omega (arith, there) in
    let first : length between ≡ length old = same_len_mid at (behind - at) old halves (long ∙ sym (mid_len at behind old within)) in
    let second : length (put_mid at (behind - at) between digits) ≡ length between = same_len_mid at (behind - at) between digits (many ∙ sym (mid_len at behind between (omega (arith, first, within)))) in
    record {
      laid = take-put_mid at (behind - at) between digits behind (omega (arith, there, many)) (omega (arith, first, there, within))
          ∙ ap (λ (l : List ℕ). l ++ digits) (take-put_mid_below at (behind - at) old halves at (omega arith) (omega (arith, there, within))) ∙ ap (λ (l : List ℕ). take at old ++ l) text;
      end = omega (arith, there, hex_length xs);
      room = second ∙ first;
    }

-- ---- names

abbrev agree : Bool → Bool → Bool
agree true b = b
agree false true = false
agree false false = true

agreed : (a b : Bool) → T (agree a b) → a ≡ b
agreed true true t = refl
agreed true false t = absurd t
agreed false true t = absurd t
agreed false false t = refl

abbrev are_told : ℕ → Bool
are_told zero = true
are_told (suc b) = agree (eqb (get_or PLAIN b 0) 1) (is_plain b) && are_told b

told_below : (n b : ℕ) → T (are_told n) → b < n → eqb (get_or PLAIN b 0) 1 ≡ is_plain b
told_below zero b t h = absurd (omega arith)
told_below (suc n) b t h =
    elim (eq-zero-or-pos (n - b)) [
      | inl z ↦ let e : b ≡ n = omega arith in rw e (agreed _ _ (and_l _ (are_told n) t))
      | inr g ↦ told_below n b (and_r _ (are_told n) t) (omega arith)
    ]

-- the table tells which bytes are plain
pub plain_at : (b : ℕ) → b < 256 → eqb (get_or PLAIN b 0) 1 ≡ is_plain b
plain_at b h = told_below 256 b tt h

plain_byte : (p : Bool) (b : ℕ) (escape bs rest : List ℕ) → p ≡ true → rest ≡ bs → (if p then b ∷ [] else escape) ++ rest ≡ b ∷ bs
plain_byte true b escape bs rest plain same = ap (λ (l : List ℕ). b ∷ l) same
plain_byte false b escape bs rest plain same = cc

plain_bytes : (name : List ℕ) → list_all is_plain name ≡ true → flat_map name_byte name ≡ name
plain_bytes [] plain = refl
plain_bytes (b ∷ bs) plain =
    let both = and_parts (is_plain b) (list_all is_plain bs) plain in
    plain_byte (is_plain b) b (37 ∷ digit_glyph true (b / 16) ∷ digit_glyph true (b % 16) ∷ []) bs (flat_map name_byte bs) both.0 (plain_bytes bs both.1)

-- a name of plain bytes stands as it is
pub plain_name : (name : List ℕ) → list_all is_plain name ≡ true → name_text name ≡ name
unfolding name_text
plain_name name plain = plain_bytes name plain

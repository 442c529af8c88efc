-- Numbers by three digits at a time.
use Rattle.std.proofs.Common.{◌≡◌, ℕ, zero, suc, ◌+◌, ◌-◌, ◌*◌, ◌/◌, ◌%◌, ◌^◌, ◌<◌, ◌≤◌, Bool, true, ◌&&◌, T, eqb, List, [], ◌∷◌, ◌++◌, length, drop, get_or, ap, sym, ◌∙◌, subst, inl, inr, arith, eq-zero-or-pos, eqb→eq, append_assoc, length-append, ⊎_elim}
use Rattle.std.specs.Fmt.{decimal}
use Rattle.std.proofs.lemmas.Bool.{cases_lt}
use Rattle.std.proofs.lemmas.Fmt.{decimal_digit, decimal_step}
use Rattle.std.proofs.lemmas.List.{get_or-drop}
use Rattle.itoa.proofs.Decimal.{decimal_pair, decimal_two, length_one, length_two, pair}
use Rattle.afs_text.specs.Laying.{LaysAt}
use Rattle.afs_text.specs.declared.numbers.TheConstants.{THREES}
use Rattle.afs_text.proofs.Placed.{placed_as, placed_part}
use lib.Ieee.Fits.{and_l, and_r}

abbrev pub three : ℕ → List ℕ
three n = (48 + n / 100) ∷ (48 + n / 10 % 10) ∷ (48 + n % 10) ∷ []

-- ---- the table

pub record IsThree (digits : List ℕ) (at n : ℕ) : Type 0 where
  pub hundreds : get_or digits at 0 ≡ 48 + n / 100
  pub tens : get_or digits (at + 1) 0 ≡ 48 + n / 10 % 10
  pub ones : get_or digits (at + 2) 0 ≡ 48 + n % 10
  pub zeros : get_or digits (at + 3) 0 ≡ 48 + ((1 - n / 10) + (1 - n / 100))

abbrev is_three : List ℕ → ℕ → Bool
is_three digits n =
    (eqb (get_or digits 0 0) (48 + n / 100) && eqb (get_or digits 1 0) (48 + n / 10 % 10)) && (eqb (get_or digits 2 0) (48 + n % 10) && eqb (get_or digits 3 0) (48 + ((1 - n / 10) + (1 - n / 100))))

abbrev are_threes : ℕ → ℕ → List ℕ → Bool
are_threes zero n digits = true
are_threes (suc k) n digits = is_three digits n && are_threes k (suc n) (drop 4 digits)

first_three : (digits : List ℕ) (n : ℕ) → T (is_three digits n) → IsThree digits 0 n
first_three digits n t =
    let front = and_l (eqb (get_or digits 0 0) (48 + n / 100) && eqb (get_or digits 1 0) (48 + n / 10 % 10)) _ t in
    let behind = and_r (eqb (get_or digits 0 0) (48 + n / 100) && eqb (get_or digits 1 0) (48 + n / 10 % 10)) _ t in
    record {
      hundreds = eqb→eq _ _ (and_l (eqb (get_or digits 0 0) (48 + n / 100)) _ front);
      tens = eqb→eq _ _ (and_r (eqb (get_or digits 0 0) (48 + n / 100)) _ front);
      ones = eqb→eq _ _ (and_l (eqb (get_or digits 2 0) (48 + n % 10)) _ behind);
      zeros = eqb→eq _ _ (and_r (eqb (get_or digits 2 0) (48 + n % 10)) _ behind);
    }

first_at : (digits : List ℕ) (at n m : ℕ) → at ≡ 0 → m ≡ n → T (is_three digits n) → IsThree digits at m
first_at digits at n m front same t = rw (front, same) (first_three digits n t)

three_later : (digits : List ℕ) (at to n m : ℕ) → to ≡ 4 + at → m ≡ n → IsThree (drop 4 digits) at n → IsThree digits to m
three_later digits at to n m there same is =
    let second : to + 1 ≡ 4 + (at + 1) = omega (arith, there) in
    let third : to + 2 ≡ 4 + (at + 2) = omega (arith, there) in
    let fourth : to + 3 ≡ 4 + (at + 3) = omega (arith, there) in
    record {
      hundreds = ap (λ k. get_or digits k 0) there ∙ sym (get_or-drop 4 digits at 0) ∙ is.hundreds ∙ ap (λ k. 48 + k / 100) (sym same);
      tens = ap (λ k. get_or digits k 0) second ∙ sym (get_or-drop 4 digits (at + 1) 0) ∙ is.tens ∙ ap (λ k. 48 + k / 10 % 10) (sym same);
      ones = ap (λ k. get_or digits k 0) third ∙ sym (get_or-drop 4 digits (at + 2) 0) ∙ is.ones ∙ ap (λ k. 48 + k % 10) (sym same);
      zeros = ap (λ k. get_or digits k 0) fourth ∙ sym (get_or-drop 4 digits (at + 3) 0) ∙ is.zeros ∙ ap (λ k. 48 + ((1 - k / 10) + (1 - k / 100))) (sym same);
    }

three_below : (k n i : ℕ) (digits : List ℕ) → T (are_threes k n digits) → i < k → IsThree digits (4 * i) (n + i)
three_below zero n i digits t h = absurd (omega arith)
three_below (suc k) n i digits t h =
    elim (eq-zero-or-pos i) [
      | inl z ↦ first_at digits (4 * i) n (n + i) (omega arith) (omega arith) (and_l _ (are_threes k (suc n) (drop 4 digits)) t)
      | inr g ↦ three_later digits (4 * (i - 1)) (4 * i) (suc n + (i - 1)) (n + i) (omega arith) (omega arith) (three_below k (suc n) (i - 1) (drop 4 digits) (and_r _ (are_threes k (suc n) (drop 4 digits)) t) (omega arith))
    ]

pub three_at : (n : ℕ) → n < 1000 → IsThree THREES (4 * n) n
three_at n h =
    let same : 0 + n ≡ n = omega arith in
    subst (λ k. IsThree THREES (4 * n) k) same (three_below 1000 0 n THREES tt h)

-- ---- digits

decimal_three : (n : ℕ) → 100 ≤ n → n < 1000 → decimal n ≡ three n
decimal_three n long small =
    let tens : n % 100 / 10 ≡ n / 10 % 10 = omega arith in
    let ones : n % 100 % 10 ≡ n % 10 = omega arith in
    decimal_pair n long (omega arith) ∙ ap (λ (l : List ℕ). l ++ pair (n % 100)) (decimal_digit (n / 100) (omega arith))
    ∙ ap (λ k. (48 + n / 100) ∷ (48 + k) ∷ (48 + n % 100 % 10) ∷ []) tens ∙ ap (λ k. (48 + n / 100) ∷ (48 + n / 10 % 10) ∷ (48 + k) ∷ []) ones

pub length_three : (n : ℕ) → 100 ≤ n → n < 1000 → length (decimal n) ≡ 3
length_three n long small = ap length (decimal_three n long small)

-- the last three digits stand behind those before them
pub decimal_last : (n : ℕ) → 1000 ≤ n → n < 2 ^ 64 → decimal n ≡ decimal (n / 1000) ++ three (n % 1000)
decimal_last n long fits =
    let front : n / 100 / 10 ≡ n / 1000 = omega arith in
    let hundreds : n / 100 % 10 ≡ n % 1000 / 100 = omega arith in
    let tens : n % 100 / 10 ≡ n % 1000 / 10 % 10 = omega arith in
    let ones : n % 100 % 10 ≡ n % 1000 % 10 = omega arith in
    decimal_pair n (omega arith) fits
    ∙ ap (λ (l : List ℕ). l ++ pair (n % 100)) (decimal_step (n / 100) (omega arith) (omega arith) ∙ ap (λ k. decimal k ++ (48 + n / 100 % 10) ∷ []) front)
    ∙ append_assoc (decimal (n / 1000)) ((48 + n / 100 % 10) ∷ []) (pair (n % 100))
    ∙ ap (λ k. decimal (n / 1000) ++ (48 + k) ∷ (48 + n % 100 / 10) ∷ (48 + n % 100 % 10) ∷ []) hundreds
    ∙ ap (λ k. decimal (n / 1000) ++ (48 + n % 1000 / 100) ∷ (48 + k) ∷ (48 + n % 100 % 10) ∷ []) tens
    ∙ ap (λ k. decimal (n / 1000) ++ (48 + n % 1000 / 100) ∷ (48 + n % 1000 / 10 % 10) ∷ (48 + k) ∷ []) ones

pub length_last : (n : ℕ) → 1000 ≤ n → n < 2 ^ 64 → length (decimal n) ≡ length (decimal (n / 1000)) + 3
length_last n long fits = ap length (decimal_last n long fits) ∙ length-append (decimal (n / 1000)) (three (n % 1000))

-- ---- zeros before a number

zeros_of : (n : ℕ) → n < 1000 → (1 - n / 10) + (1 - n / 100) + length (decimal n) ≡ 3
zeros_of n small = ⊎_elim
    (λ one. omega (arith, one, length_one n one))
    (λ ten. ⊎_elim
    (λ two. omega (arith, ten, two, length_two n ten two))
    (λ hundred. omega (arith, hundred, length_three n hundred small))
    (cases_lt n 100))
    (cases_lt n 10)

pub zeros_at : (n x : ℕ) → n < 1000 → x ≡ get_or THREES (4 * n + 3) 0 → (48 ≤ x) × (x - 48 + length (decimal n) ≡ 3)
zeros_at n x small is =
    let told = (three_at n small).zeros in
    (omega (arith, told, is), omega (arith, told, is, zeros_of n small))

-- of a number that has zeros before it four bytes of the table follow them
pub zeros_within : (n skipped : ℕ) → n < 1000 → skipped + length (decimal n) ≡ 3 → 4 * n + skipped ≤ 3996
zeros_within n skipped small all = ⊎_elim
    (λ few. omega (arith, few, all))
    (λ many. omega (arith, many, all, small, length_three n many small))
    (cases_lt n 100)

-- ---- four bytes of the table are laid, of which the last aren't the number's

abbrev byte : ℕ → ℕ
byte i = get_or THREES i 0

one_laid : (n skipped at behind end : ℕ) (old new : List ℕ) → n < 10 → skipped ≡ 2 → end ≡ at + 1 → at + 4 ≤ length old
    → LaysAt (byte (4 * n + skipped) ∷ byte (4 * n + skipped + 1) ∷ byte (4 * n + skipped + 2) ∷ byte (4 * n + skipped + 3) ∷ []) at old new behind → LaysAt (decimal n) at old new end
one_laid n skipped at behind end old new small two there room p =
    let first : byte (4 * n + skipped) ≡ 48 + n = ap (λ k. byte (4 * n + k)) two ∙ (three_at n (omega arith)).ones ∙ ap (λ k. 48 + k) (omega arith) in
    placed_as (byte (4 * n + skipped) ∷ []) (decimal n) at old new end (ap (λ k. k ∷ []) first ∙ sym (decimal_digit n small))
    (placed_part (byte (4 * n + skipped) ∷ []) (byte (4 * n + skipped + 1) ∷ byte (4 * n + skipped + 2) ∷ byte (4 * n + skipped + 3) ∷ []) at behind end old new room there p)

two_laid : (n skipped at behind end : ℕ) (old new : List ℕ) → 10 ≤ n → n < 100 → skipped ≡ 1 → end ≡ at + 2 → at + 4 ≤ length old
    → LaysAt (byte (4 * n + skipped) ∷ byte (4 * n + skipped + 1) ∷ byte (4 * n + skipped + 2) ∷ byte (4 * n + skipped + 3) ∷ []) at old new behind → LaysAt (decimal n) at old new end
two_laid n skipped at behind end old new long small one there room p =
    let there2 : 4 * n + skipped + 1 ≡ 4 * n + 2 = omega (arith, one) in
    let first : byte (4 * n + skipped) ≡ 48 + n / 10 = ap (λ k. byte (4 * n + k)) one ∙ (three_at n (omega arith)).tens ∙ ap (λ k. 48 + k) (omega arith) in
    let second : byte (4 * n + skipped + 1) ≡ 48 + n % 10 = ap byte there2 ∙ (three_at n (omega arith)).ones in
    placed_as (byte (4 * n + skipped) ∷ byte (4 * n + skipped + 1) ∷ []) (decimal n) at old new end
    (ap (λ k. k ∷ byte (4 * n + skipped + 1) ∷ []) first ∙ ap (λ k. (48 + n / 10) ∷ k ∷ []) second ∙ sym (decimal_two n long small))
    (placed_part (byte (4 * n + skipped) ∷ byte (4 * n + skipped + 1) ∷ []) (byte (4 * n + skipped + 2) ∷ byte (4 * n + skipped + 3) ∷ []) at behind end old new room there p)

-- three digits of the table
pub three_laid : (n from at behind end : ℕ) (old new : List ℕ) → n < 1000 → from ≡ 4 * n → end ≡ at + 3 → at + 4 ≤ length old
    → LaysAt (byte from ∷ byte (from + 1) ∷ byte (from + 2) ∷ byte (from + 3) ∷ []) at old new behind → LaysAt (three n) at old new end
three_laid n from at behind end old new small is there room p =
    let digits = three_at n small in
    let same : byte from ∷ byte (from + 1) ∷ byte (from + 2) ∷ [] ≡ three n =
    ap (λ k. byte k ∷ byte (k + 1) ∷ byte (k + 2) ∷ []) is ∙ ap (λ k. k ∷ byte (4 * n + 1) ∷ byte (4 * n + 2) ∷ []) digits.hundreds
    ∙ ap (λ k. (48 + n / 100) ∷ k ∷ byte (4 * n + 2) ∷ []) digits.tens ∙ ap (λ k. (48 + n / 100) ∷ (48 + n / 10 % 10) ∷ k ∷ []) digits.ones in
    placed_as (byte from ∷ byte (from + 1) ∷ byte (from + 2) ∷ []) (three n) at old new end same
    (placed_part (byte from ∷ byte (from + 1) ∷ byte (from + 2) ∷ []) (byte (from + 3) ∷ []) at behind end old new room there p)

-- a number below 1,000
pub front_laid : (n skipped at behind end : ℕ) (old new : List ℕ) → n < 1000 → skipped + length (decimal n) ≡ 3 → end ≡ at + 3 - skipped → at + 4 ≤ length old
    → LaysAt (byte (4 * n + skipped) ∷ byte (4 * n + skipped + 1) ∷ byte (4 * n + skipped + 2) ∷ byte (4 * n + skipped + 3) ∷ []) at old new behind → LaysAt (decimal n) at old new end
front_laid n skipped at behind end old new small three_all there room p = ⊎_elim
    (λ one. one_laid n skipped at behind end old new one (omega (arith, three_all, length_one n one)) (omega (arith, there, three_all, length_one n one)) room p)
    (λ ten. ⊎_elim
    (λ two. two_laid n skipped at behind end old new ten two (omega (arith, three_all, length_two n ten two)) (omega (arith, there, three_all, length_two n ten two)) room p)
    (λ hundred. placed_as (three n) (decimal n) at old new end (sym (decimal_three n hundred small))
    (three_laid n (4 * n + skipped) at behind end old new small (omega (arith, three_all, length_three n hundred small)) (omega (arith, there, three_all, length_three n hundred small)) room p))
    (cases_lt n 100))
    (cases_lt n 10)

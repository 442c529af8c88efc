-- What the bytes of a journal stand for, whole or with a torn end.
use Rattle.std.proofs.Common.{◌≡◌, ◌≢◌, ◌<◌, ◌≤◌, inl, inr, ℕ, zero, suc, ◌+◌, ◌*◌, ◌-◌, ◌^◌, true, if◌then◌else◌, List, [], ◌∷◌, ◌++◌, length, get_or, take, drop, Option, Some, None, refl, sym, ◌∙◌, ap, subst, arith, append_assoc, length-append, take-append-drop, length-drop, add-zero}
use Rattle.std.specs.Int.{w32, from_be_bytes}
use Rattle.std.proofs.lemmas.Nat.{from_be_bytes-to_be_bytes_4, be_bytes_4}
use Rattle.std.proofs.lemmas.List.{append-nil, take_at, drop_at, drop-drop, take-take, length-take-le, drop-take, length-take, get_or-take, get_or-drop, get_or_past, drop_more}
use Rattle.std.proofs.lemmas.Bool.{cases_lt}
use Rattle.std.proofs.lemmas.Bool.Decides.{nat_tests}
use Rattle.afs_xdr.specs.Words.{word}
use Rattle.afs_journal.specs.Records.{number_at, place_of, blocks, is_whole, whole_record_at, record_and_rest, whole_from, whole_records, Fit, EndsAt, StartsWith}

pub length-word : (n : ℕ) → length (word n) ≡ 4
unfolding word
length-word n = refl

pub length-place_of : (number : ℕ) (body : List ℕ) → length (place_of number body) ≡ length body + 8
length-place_of number body = omega (arith, length-append (word (length body)) (word number ++ body), length-append (word number) body, length-word number, length-word (length body))

-- a number's four bytes, wherever they stand
pub number_again : (at n : ℕ) (front rest : List ℕ) → length front ≡ at → n < 2 ^ 32 → number_at at (front ++ (word n ++ rest)) ≡ n
unfolding number_at word
number_again at n front rest is lt =
    ap (λ (l : List ℕ). from_be_bytes w32 (take 4 l)) (drop_at front (word n ++ rest) at is)
    ∙ ap (λ (l : List ℕ). from_be_bytes w32 l) (take_at (word n) rest 4 (length-word n))
    ∙ from_be_bytes-to_be_bytes_4 n lt

-- what the test of a whole record asks, by its parts
pub whole_one : (number : ℕ) (bytes : List ℕ) → get_or bytes 0 0 ≡ 1 → number_at 1 bytes + 9 < length bytes → number_at 5 bytes ≡ number → is_whole number bytes ≡ true
unfolding is_whole
whole_one number bytes is_open inside is = grind (arith, nat_tests)

-- a whole record with its gate in front, and more behind it
module _ (number : ℕ) (body rest : List ℕ) where
  abbrev pub one_more : List ℕ
  one_more = 1 ∷ (place_of number body ++ rest)

  pub flat : one_more ≡ (1 ∷ []) ++ (word (length body) ++ (word number ++ (body ++ rest)))
  flat = ap (λ (l : List ℕ). 1 ∷ l) (append_assoc (word (length body)) (word number ++ body) rest ∙ ap (λ (l : List ℕ). word (length body) ++ l) (append_assoc (word number) body rest))

  pub its_length : length body < 2 ^ 32 → number_at 1 one_more ≡ length body
  its_length small = ap (number_at 1) flat ∙ number_again 1 (length body) (1 ∷ []) (word number ++ (body ++ rest)) refl small

  head : List ℕ
  head = 1 ∷ word (length body)

  pub its_number : number < 2 ^ 32 → number_at 5 one_more ≡ number
  its_number small = ap (number_at 5) flat ∙ number_again 5 number (1 ∷ word (length body)) (body ++ rest) (omega (arith, length-word (length body))) small

  pub behind : drop 9 one_more ≡ body ++ rest
  behind =
      ap (λ (l : List ℕ). drop 9 l) (ap (λ (l : List ℕ). 1 ∷ l) (append_assoc (word (length body)) (word number ++ body) rest ∙ ap (λ (l : List ℕ). word (length body) ++ l) (append_assoc (word number) body rest) ∙ sym (append_assoc (word (length body)) (word number) (body ++ rest))))
      ∙ drop_at (1 ∷ (word (length body) ++ word number)) (body ++ rest) 9 (omega (arith, length-append (word (length body)) (word number), length-word number, length-word (length body)))

  pub length-one_more : length one_more ≡ length body + 9 + length rest
  length-one_more = omega (arith, length-append (place_of number body) rest, length-place_of number body)

  pub past : drop (length body + 9) one_more ≡ rest
  past = drop_at (1 ∷ place_of number body) rest (length body + 9) (omega (arith, length-place_of number body))

  body_again : length body < 2 ^ 32 → take (number_at 1 one_more) (drop 9 one_more) ≡ body
  body_again small = ap (λ (n : ℕ). take n (drop 9 one_more)) (its_length small) ∙ ap (λ (l : List ℕ). take (length body) l) behind ∙ take_at body rest (length body) refl

  pub record_again : length body < 2 ^ 32 → number < 2 ^ 32 → 0 < length rest → whole_record_at number one_more ≡ Some body
  record_again small counted more =
      rw (whole_one number one_more refl (omega (arith, its_length small, length-one_more)) (its_number counted)) (ap (λ (l : List ℕ). Some l) (body_again small))

-- what the test asks for, read from its answer
pub open_gate : (number : ℕ) (bytes : List ℕ) → is_whole number bytes ≡ true → get_or bytes 0 0 ≡ 1
unfolding is_whole
open_gate number bytes held = grind (arith, nat_tests)

pub lies_inside : (number : ℕ) (bytes : List ℕ) → is_whole number bytes ≡ true → number_at 1 bytes + 9 < length bytes
unfolding is_whole
lies_inside number bytes held = grind (arith, nat_tests)

pub is_next : (number : ℕ) (bytes : List ℕ) → is_whole number bytes ≡ true → number_at 5 bytes ≡ number
unfolding is_whole
is_next number bytes held = grind (arith, nat_tests)

none_at : (number : ℕ) (bytes : List ℕ) → (is_whole number bytes ≡ true → ⊥) → whole_record_at number bytes ≡ None
none_at number bytes refuted = grind (arith, nat_tests)

not_whole : (number : ℕ) (bytes : List ℕ) → whole_record_at number bytes ≡ None → is_whole number bytes ≡ true → ⊥
not_whole number bytes none held = absurd (some_none _ (sym (ap (λ b. if b then Some (take (number_at 1 bytes) (drop 9 bytes)) else None) held) ∙ none))
  where
    some_none : (x : List ℕ) → Some x ≡ None → ⊥
    some_none x e = cc

-- a closed gate ends the records, and so does an end with no room for a record
pub closed : (number : ℕ) (bytes : List ℕ) → get_or bytes 0 0 ≢ 1 → whole_record_at number bytes ≡ None
closed number bytes shut = none_at number bytes (λ held. shut (open_gate number bytes held))

pub short : (number : ℕ) (bytes : List ℕ) → length bytes ≤ 9 → whole_record_at number bytes ≡ None
short number bytes few = none_at number bytes (λ held. omega (arith, lies_inside number bytes held))

-- a part of a front of some bytes
same_part : (a k m : ℕ) (bytes : List ℕ) → a + k ≤ m → take k (drop a (take m bytes)) ≡ take k (drop a bytes)
same_part a k m bytes le =
    ap (λ (n : ℕ). take k (drop a (take n bytes))) whole_is ∙ ap (take k) (drop-take a (m - a) bytes) ∙ take-take k (m - a) (drop a bytes) (omega arith)
  where
    whole_is : m ≡ a + (m - a)
    whole_is = omega arith

same_number : (at m : ℕ) (bytes : List ℕ) → at + 4 ≤ m → number_at at (take m bytes) ≡ number_at at bytes
unfolding number_at
same_number at m bytes le = ap (λ (l : List ℕ). from_be_bytes w32 l) (same_part at 4 m bytes le)

-- where no whole record begins, none begins in a front
pub none_in_front : (number m : ℕ) (bytes : List ℕ) → whole_record_at number bytes ≡ None → whole_record_at number (take m bytes) ≡ None
none_in_front number m bytes none = none_at number (take m bytes) (λ held.
    let inside = lies_inside number (take m bytes) held in
    let fits : length (take m bytes) ≤ m = omega (arith, length-take m bytes) in
    let within : length (take m bytes) ≤ length bytes = omega (arith, length-take m bytes) in
    let gate : get_or bytes 0 0 ≡ 1 = sym (get_or-take m bytes 0 0 (omega arith)) ∙ open_gate number (take m bytes) held in
    let size : number_at 1 (take m bytes) ≡ number_at 1 bytes = same_number 1 m bytes (omega arith) in
    let counted : number_at 5 bytes ≡ number = sym (same_number 5 m bytes (omega arith)) ∙ is_next number (take m bytes) held in
    not_whole number bytes none (whole_one number bytes gate (omega arith) counted))

whole_step : (number fuel : ℕ) (body rest : List ℕ) → length body < 2 ^ 32 → number < 2 ^ 32 → 0 < length rest → whole_from (suc fuel) number (one_more number body rest) ≡ body ∷ whole_from fuel (suc number) rest
whole_step number fuel body rest small counted more =
    ap (λ (o : Option (List ℕ)). record_and_rest o (λ first. whole_from fuel (suc number) (drop (length first + 9) (one_more number body rest)))) (record_again number body rest small counted more)
    ∙ ap (λ (l : List ℕ). body ∷ whole_from fuel (suc number) l) (past number body rest)

whole_none : (fuel number : ℕ) (end : List ℕ) → whole_record_at number end ≡ None → whole_from fuel number end ≡ []
whole_none zero number end none = refl
whole_none (suc fuel) number end none = ap (λ (o : Option (List ℕ)). record_and_rest o (λ body. whole_from fuel (suc number) (drop (length body + 9) end))) none

whole_blocks : (bodies : List (List ℕ)) (number fuel : ℕ) (end : List ℕ) → Fit number bodies → 0 < length end → length bodies ≤ fuel → whole_record_at (number + length bodies) end ≡ None → whole_from fuel number (blocks number bodies ++ end) ≡ bodies
whole_blocks [] number fuel end fit more enough none = whole_none fuel number end (subst (λ (n : ℕ). whole_record_at n end ≡ None) (add-zero number) none)
whole_blocks (body ∷ bodies) number zero end fit more enough none = absurd (omega arith)
whole_blocks (body ∷ bodies) number (suc fuel) end fit more enough none =
    let rest = blocks (suc number) bodies ++ end in
    let regrouped : blocks number (body ∷ bodies) ++ end ≡ one_more number body rest = ap (λ (l : List ℕ). 1 ∷ l) (append_assoc (place_of number body) (blocks (suc number) bodies) end) in
    let ends : whole_record_at (suc number + length bodies) end ≡ None = subst (λ (n : ℕ). whole_record_at n end ≡ None) (omega arith) none in
    let later : 0 < length rest = omega (arith, length-append (blocks (suc number) bodies) end) in
    ap (whole_from (suc fuel) number) regrouped
    ∙ whole_step number fuel body rest fit.0 fit.1 later
    ∙ ap (λ (l : List (List ℕ)). body ∷ l) (whole_blocks bodies (suc number) fuel end fit.2 more (omega arith) ends)

pub blocks-push : (bodies : List (List ℕ)) (number : ℕ) (body rest : List ℕ) → blocks number (bodies ++ body ∷ []) ++ rest ≡ blocks number bodies ++ 1 ∷ (place_of (number + length bodies) body ++ rest)
blocks-push [] number body rest = ap (λ (l : List ℕ). 1 ∷ (l ++ rest)) (append-nil (place_of number body)) ∙ ap (λ (n : ℕ). 1 ∷ (place_of n body ++ rest)) (omega arith)
blocks-push (first ∷ bodies) number body rest =
    let n : suc number + length bodies ≡ number + length (first ∷ bodies) = omega arith in
    ap (λ (l : List ℕ). 1 ∷ l) (
    append_assoc (place_of number first) (blocks (suc number) (bodies ++ body ∷ [])) rest
    ∙ ap (λ (l : List ℕ). place_of number first ++ l) (blocks-push bodies (suc number) body rest ∙ ap (λ (m : ℕ). blocks (suc number) bodies ++ 1 ∷ (place_of m body ++ rest)) n)
    ∙ sym (append_assoc (place_of number first) (blocks (suc number) bodies) (1 ∷ (place_of (number + length (first ∷ bodies)) body ++ rest))))

pub fit-push : (bodies : List (List ℕ)) (number : ℕ) (body : List ℕ) → Fit number bodies → length body < 2 ^ 32 → number + length bodies < 2 ^ 32 → Fit number (bodies ++ body ∷ [])
fit-push [] number body fit small counted = (small, omega arith, tt)
fit-push (first ∷ bodies) number body fit small counted = (fit.0, fit.1, fit-push bodies (suc number) body fit.2 small (omega arith))

-- the last number fits in four bytes
pub few : (bodies : List (List ℕ)) (number : ℕ) → number ≤ 2 ^ 32 → Fit number bodies → number + length bodies ≤ 2 ^ 32
few [] number le fit = omega (arith, le)
few (body ∷ bodies) number le fit = omega (arith, few bodies (suc number) (omega (arith, fit.1)) fit.2)

pub length-blocks : (bodies : List (List ℕ)) (number : ℕ) → 9 * length bodies ≤ length (blocks number bodies)
length-blocks [] number = omega arith
length-blocks (body ∷ bodies) number = omega (arith, length-append (place_of number body) (blocks (suc number) bodies), length-place_of number body, length-blocks bodies (suc number))

-- records with open gates, and behind them an end in which none begins
pub stands_for : (bodies : List (List ℕ)) (end : List ℕ) → Fit 1 bodies → 0 < length end → whole_record_at (suc (length bodies)) end ≡ None → whole_records (blocks 1 bodies ++ end) ≡ bodies
unfolding whole_records
stands_for bodies end fit more none =
    whole_blocks bodies 1 (length (blocks 1 bodies ++ end)) end fit more (omega (arith, length-append (blocks 1 bodies) end, length-blocks bodies 1)) (subst (λ (n : ℕ). whole_record_at n end ≡ None) (omega arith) none)

pub stands_for_nothing : whole_records [] ≡ []
unfolding whole_records
stands_for_nothing = refl

abbrev pub AreOctets : List ℕ → Type 0
AreOctets bytes = (i : ℕ) → get_or bytes i 0 < 256

octets-drop : (n : ℕ) (bytes : List ℕ) → AreOctets bytes → AreOctets (drop n bytes)
octets-drop n bytes fit i = rw get_or-drop (fit (n + i))

octets-take : (n : ℕ) (bytes : List ℕ) → AreOctets bytes → AreOctets (take n bytes)
octets-take n bytes fit i =
    elim (cases_lt i n) [
      | inl lt ↦ rw (get_or-take n bytes i 0 lt) (fit i)
      | inr le ↦ rw (get_or_past (take n bytes) i 0 (omega (arith, length-take n bytes))) (omega arith)
    ]

-- four octets are the spelling of the number that they spell
spelled : (at : ℕ) (bytes : List ℕ) → AreOctets bytes → at + 4 ≤ length bytes → word (number_at at bytes) ≡ take 4 (drop at bytes)
unfolding word number_at
spelled at bytes fit le = be_bytes_4 (take 4 (drop at bytes)) _ (length-take-le 4 (drop at bytes) (omega (arith, length-drop at bytes))) (octets-take 4 (drop at bytes) (octets-drop at bytes fit)) refl

small_number : (at : ℕ) (bytes : List ℕ) → AreOctets bytes → number_at at bytes < 2 ^ 32
unfolding number_at
small_number at bytes fit =
    let part = octets-take 4 (drop at bytes) (octets-drop at bytes fit) in
    omega (arith, part 0, part 1, part 2, part 3)

four_and_rest : (at : ℕ) (bytes : List ℕ) → drop at bytes ≡ take 4 (drop at bytes) ++ drop (at + 4) bytes
four_and_rest at bytes = sym (take-append-drop 4 (drop at bytes)) ∙ ap (λ (l : List ℕ). take 4 (drop at bytes) ++ l) (drop-drop 4 at bytes)

-- octets that begin with a whole record are its spelling and what is behind
pub starts : (number : ℕ) (bytes : List ℕ) → AreOctets bytes → is_whole number bytes ≡ true → StartsWith number (take (number_at 1 bytes) (drop 9 bytes)) (drop (number_at 1 bytes) (drop 9 bytes)) bytes
starts number bytes fit held =
    let size = number_at 1 bytes in
    let inside : size + 9 < length bytes = lies_inside number bytes held in
    let body = take size (drop 9 bytes) in
    let rest = drop size (drop 9 bytes) in
    let long : length body ≡ size = length-take-le size (drop 9 bytes) (omega (arith, length-drop 9 bytes)) in
    let first : bytes ≡ 1 ∷ drop 1 bytes = drop_more bytes 0 0 (omega arith) ∙ ap (λ (g : ℕ). g ∷ drop 1 bytes) (open_gate number bytes held) in
    let size_part : drop 1 bytes ≡ word (length body) ++ drop 5 bytes = four_and_rest 1 bytes ∙ ap (λ (l : List ℕ). l ++ drop 5 bytes) (sym (spelled 1 bytes fit (omega arith)) ∙ ap word (sym long)) in
    let number_part : drop 5 bytes ≡ word number ++ drop 9 bytes = four_and_rest 5 bytes ∙ ap (λ (l : List ℕ). l ++ drop 9 bytes) (sym (spelled 5 bytes fit (omega arith)) ∙ ap word (is_next number bytes held)) in
    let body_part : drop 9 bytes ≡ body ++ rest = sym (take-append-drop size (drop 9 bytes)) in
    record {
      is = first ∙ ap (λ (l : List ℕ). 1 ∷ l) (size_part ∙ ap (λ (l : List ℕ). word (length body) ++ l) (number_part ∙ ap (λ (l : List ℕ). word number ++ l) body_part)) ∙ sym (flat number body rest);
      more = omega (arith, length-drop 9 bytes, length-drop size (drop 9 bytes));
      small = omega (arith, long, small_number 1 bytes fit);
      counted = omega (arith, is_next number bytes held, small_number 5 bytes fit);
    }

pub length-front : (bytes : List ℕ) (bodies : List (List ℕ)) (rest : List ℕ) → bytes ≡ blocks 1 bodies ++ rest → length (blocks 1 bodies) ≡ length bytes - length rest
length-front bytes bodies rest is = omega (arith, ap length is, length-append (blocks 1 bodies) rest)

-- one whole record more
pub one_found : (bytes : List ℕ) (bodies : List (List ℕ)) (body old rest : List ℕ) → bytes ≡ blocks 1 bodies ++ old → StartsWith (suc (length bodies)) body rest old → bytes ≡ blocks 1 (bodies ++ body ∷ []) ++ rest
one_found bytes bodies body old rest is first = is ∙ ap (λ (l : List ℕ). blocks 1 bodies ++ l) first.is ∙ ap (λ (n : ℕ). blocks 1 bodies ++ 1 ∷ (place_of n body ++ rest)) (omega arith) ∙ sym (blocks-push bodies 1 body rest)

-- at the end of the whole records
pub all_found : (bytes : List ℕ) (bodies : List (List ℕ)) (rest : List ℕ) (gate : ℕ) → bytes ≡ blocks 1 bodies ++ rest → gate ≡ length bytes - length rest → 0 < length rest → Fit 1 bodies → whole_record_at (suc (length bodies)) rest ≡ None → EndsAt gate bodies bytes
all_found bytes bodies rest gate is at more fit none =
    let size : length (blocks 1 bodies) ≡ gate = length-front bytes bodies rest is ∙ sym at in
    record {
      front = ap (take gate) is ∙ take_at (blocks 1 bodies) rest gate size;
      inside = omega (arith, size, ap length is, length-append (blocks 1 bodies) rest);
      fit = fit;
      nothing = ap (λ (l : List ℕ). whole_record_at (suc (length bodies)) l) (ap (drop gate) is ∙ drop_at (blocks 1 bodies) rest gate size) ∙ none;
    }

-- where the record lies with which the rest of some bytes begins
pub piece_found : (bytes : List ℕ) (bodies : List (List ℕ)) (number : ℕ) (body later rest : List ℕ) → bytes ≡ blocks 1 bodies ++ rest → StartsWith number body later rest
    → take (length body) (drop (length bytes - length later - length body) bytes) ≡ body
piece_found bytes bodies number body later rest split starts =
    let front = blocks 1 bodies in
    let start : length bytes - length later - length body ≡ length front + 9 = omega (arith, ap length split, length-append front rest, ap length starts.is, length-one_more number body later) in
    let there : drop (length front + 9) bytes ≡ body ++ later =
    sym (drop-drop 9 (length front) bytes)
    ∙ (ap (λ (l : List ℕ). drop 9 (drop (length front) l)) split ∙ (ap (drop 9) (drop_at front rest (length front) refl ∙ starts.is) ∙ behind number body later)) in
    ap (λ (n : ℕ). take (length body) (drop n bytes)) start ∙ (ap (take (length body)) there ∙ take_at body later (length body) refl)

-- The text of an access list is read again, and what is read is a text; where a text is refused, little was read.
use Rattle.std.proofs.Common.{◌≡◌, ℕ, zero, suc, ◌+◌, ◌-◌, ◌*◌, ◌/◌, ◌%◌, ◌^◌, ◌<◌, ◌≤◌, Bool, true, false, not, ◌&&◌, List, [], ◌∷◌, ◌++◌, length, take, drop, nat_eq, nat_le, nat_lt, Result, Ok, Err, if◌then◌else◌, ap, sym, subst, ◌∙◌, arith, refl, le-leb, decimal, append_assoc, length-append, lit<}
use Rattle.std.specs.List.{flat_map, list_all, prefix_len}
use Rattle.std.proofs.lemmas.Fmt.{decimal_by_steps, decimal_digit, decimal_step, length-decimal-le}
use Rattle.std.proofs.lemmas.Bool.Decides.{nat_tests}
use Rattle.std.proofs.lemmas.List.{append-nil, take-append-drop, take_at, drop_at, length-take-le}
use Rattle.afs_num.specs.Names.{is_in, has_size}
use Rattle.afs_num.specs.declared.acls.AclEntry.{AclEntry}
use Rattle.afs_num.specs.declared.acls.AccessList.{AccessList}
use Rattle.spec_shape.specs.Reading.{◌>>=◌}
use Rattle.spec_ideal.specs.AccessLists.{tab, newline, number_line, acl_entry_text, acl_text, is_acl_byte, is_acl_name, has_entry_named, most_rights, most_acl_entries, IsEntry, AreEntries, IsAccessList, Refusal, bad_from, too_many, digit_fits, digits_at, line_number_at, count_at, at_most, name_length, named_at, name_at, acl_entry_at, entries_at, must_be_few, must_end, lists_at, acl_at}
use Rattle.spec_ideal.proofs.Basics.{both, both_true, if_true, if_false, is_digit}

-- ---- numbers

-- one more digit behind a number
decimal_more : (n d : ℕ) → 0 < n → d < 10 → n * 10 + d < 2 ^ 64 → decimal (n * 10 + d) ≡ decimal n ++ (48 + d) ∷ []
decimal_more n d positive digit small =
    let front : (n * 10 + d) / 10 ≡ n = omega arith in
    let last : (n * 10 + d) % 10 ≡ d = omega arith in
    subst (λ m. decimal (n * 10 + d) ≡ decimal m ++ (48 + d) ∷ []) front
    (subst (λ k. decimal (n * 10 + d) ≡ decimal ((n * 10 + d) / 10) ++ (48 + k) ∷ []) last (decimal_step (n * 10 + d) (omega arith) small))

-- what the digits behind n are read as
abbrev pub Spells : ℕ → ℕ → List ℕ → Result (ℕ × List ℕ) Refusal → Type 0
Spells most n bytes (Ok x) = (x.0 ≤ most) × (decimal n ++ bytes ≡ decimal x.0 ++ newline ∷ x.1)
Spells most n bytes (Err (bad_from rest)) = (m : ℕ) × (m ≤ most) × (decimal n ++ bytes ≡ decimal m ++ rest)
Spells most n bytes (Err (too_many m)) = ⊥

-- a test of numbers that holds
same_by_test : (a b : ℕ) → nat_eq a b ≡ true → a ≡ b
same_by_test a b e = grind (arith, nat_tests)

spells_more : (most n b : ℕ) (bs : List ℕ) (r : Result (ℕ × List ℕ) Refusal) → decimal n ++ b ∷ bs ≡ decimal (n * 10 + (b - 48)) ++ bs → Spells most (n * 10 + (b - 48)) bs r → Spells most n (b ∷ bs) r
spells_more most n b bs (Ok x) e s = (s.0, e ∙ s.1)
spells_more most n b bs (Err (bad_from rest)) e s = (s.0, s.1, e ∙ s.2)
spells_more most n b bs (Err (too_many m)) e s = s

digits_by : (most n b : ℕ) (bs : List ℕ) (ends more : Bool) → most < 2 ^ 64 → n ≤ most → nat_eq b newline ≡ ends → digit_fits most n b ≡ more →
    (n * 10 + (b - 48) ≤ most → Spells most (n * 10 + (b - 48)) bs (digits_at most (n * 10 + (b - 48)) bs)) →
    Spells most n (b ∷ bs) (if ends then Ok (n, bs) else (if more then digits_at most (n * 10 + (b - 48)) bs else Err (bad_from (b ∷ bs))))
digits_by most n b bs true more small le is_end is_more later = (le, ap (λ (c : ℕ). decimal n ++ c ∷ bs) (same_by_test b newline is_end))
digits_by most n b bs false true small le is_end is_more later =
    let parts = both (not (nat_eq n 0)) (is_in 48 57 b && nat_le (n * 10 + (b - 48)) most) is_more in
    let digit = both (is_in 48 57 b) (nat_le (n * 10 + (b - 48)) most) parts.1 in
    let range = both (nat_le 48 b) (nat_le b 57) digit.0 in
    let low : 48 ≤ b = grind (arith, nat_tests, range.0) in
    let high : b ≤ 57 = grind (arith, nat_tests, range.1) in
    let within : n * 10 + (b - 48) ≤ most = grind (arith, nat_tests, digit.1) in
    let positive : 0 < n = grind (arith, nat_tests, parts.0) in
    let same : 48 + (b - 48) ≡ b = omega arith in
    let more : decimal (n * 10 + (b - 48)) ≡ decimal n ++ b ∷ [] = decimal_more n (b - 48) positive (omega arith) (omega arith) ∙ ap (λ (c : ℕ). decimal n ++ c ∷ []) same in
    spells_more most n b bs (digits_at most (n * 10 + (b - 48)) bs) (sym (ap (λ (ds : List ℕ). ds ++ bs) more ∙ append_assoc (decimal n) (b ∷ []) bs)) (later within)
digits_by most n b bs false false small le is_end is_more later = (n, le, refl)

digits_spell : (most n : ℕ) (bytes : List ℕ) → most < 2 ^ 64 → n ≤ most → Spells most n bytes (digits_at most n bytes)
digits_spell most n [] small le = (n, le, refl)
digits_spell most n (b ∷ bs) small le = digits_by most n b bs (nat_eq b newline) (digit_fits most n b) small le refl refl (digits_spell most (n * 10 + (b - 48)) bs small)

-- a number that is written is read again
number_onward : (most n : ℕ) → most < 2 ^ 64 → n ≤ most → (rest : List ℕ) → line_number_at most (decimal n ++ rest) ≡ digits_at most n rest
unfolding line_number_at
number_onward most n small le =
    decimal_by_steps (λ (k : ℕ) (ds : List ℕ). k ≤ most → (rest : List ℕ) → line_number_at most (ds ++ rest) ≡ digits_at most k rest)
    (λ k digit within rest. if_true (is_in 48 57 (48 + k)) (digits_at most (48 + k - 48) rest) (Err (bad_from ((48 + k) ∷ rest))) (is_digit k digit)
    ∙ ap (λ (m : ℕ). digits_at most m rest) (let z : 48 + k - 48 ≡ k = omega arith in z))
    (λ k ds large ih within rest.
    let m = k / 10 in
    let d = k % 10 in
    let rejoined : m * 10 + (48 + d - 48) ≡ k = omega arith in
    let digit : is_in 48 57 (48 + d) ≡ true = is_digit d (omega arith) in
    let fits : nat_le (m * 10 + (48 + d - 48)) most ≡ true = le-leb (m * 10 + (48 + d - 48)) most (omega arith) in
    let no_end : nat_eq (48 + d) newline ≡ false = grind (arith, nat_tests) in
    let more : digit_fits most m (48 + d) ≡ true = both_true (not (nat_eq m 0)) (is_in 48 57 (48 + d) && nat_le (m * 10 + (48 + d - 48)) most) (let z : not (nat_eq m 0) ≡ true = grind (arith, nat_tests, large) in z) (both_true (is_in 48 57 (48 + d)) (nat_le (m * 10 + (48 + d - 48)) most) digit fits) in
    ap (line_number_at most) (append_assoc ds ((48 + d) ∷ []) rest)
    ∙ (ih (omega arith) ((48 + d) ∷ rest)
    ∙ (if_false (nat_eq (48 + d) newline) (Ok (m, rest)) (if digit_fits most m (48 + d) then digits_at most (m * 10 + (48 + d - 48)) rest else Err (bad_from ((48 + d) ∷ rest))) no_end
    ∙ (if_true (digit_fits most m (48 + d)) (digits_at most (m * 10 + (48 + d - 48)) rest) (Err (bad_from ((48 + d) ∷ rest))) more
    ∙ ap (λ (j : ℕ). digits_at most j rest) rejoined))))
    n (omega arith) le

number_again : (most n : ℕ) (rest : List ℕ) → most < 2 ^ 64 → n ≤ most → line_number_at most (number_line n ++ rest) ≡ Ok (n, rest)
number_again most n rest small le = ap (line_number_at most) (append_assoc (decimal n) (newline ∷ []) rest) ∙ number_onward most n small le (newline ∷ rest)

-- at most so many bytes were read
pub record IsNear (most : ℕ) (bytes rest : List ℕ) : Type 0 where
  pub front : List ℕ
  pub text : bytes ≡ front ++ rest
  pub short : length front ≤ most

near_more : (j k : ℕ) (bytes rest : List ℕ) → j ≤ k → IsNear j bytes rest → IsNear k bytes rest
near_more j k bytes rest le n = record { front = n.front; text = n.text; short = omega (arith, le, n.short) }

near_then : (j k : ℕ) (bytes later rest : List ℕ) → IsNear j bytes later → IsNear k later rest → IsNear (j + k) bytes rest
near_then j k bytes later rest m n = record {
  front = m.front ++ n.front;
  text = m.text ∙ (ap (λ (xs : List ℕ). m.front ++ xs) n.text ∙ sym (append_assoc m.front n.front rest));
  short = let z : length (m.front ++ n.front) ≤ j + k = omega (arith, length-append m.front n.front, m.short, n.short) in z;
}

nothing_read : (k : ℕ) (bytes : List ℕ) → IsNear k bytes bytes
nothing_read k bytes = record { front = []; text = refl; short = omega arith }

near_front : (k : ℕ) (bytes front rest : List ℕ) → bytes ≡ front ++ rest → length front ≤ k → IsNear k bytes rest
near_front k bytes front rest e short = record { front = front; text = e; short = short }

-- what is read as a number is its line
abbrev pub SpellsLine : ℕ → List ℕ → Result (ℕ × List ℕ) Refusal → Type 0
SpellsLine most bytes (Ok x) = (x.0 ≤ most) × (bytes ≡ number_line x.0 ++ x.1)
SpellsLine most bytes (Err (bad_from rest)) = IsNear 10 bytes rest
SpellsLine most bytes (Err (too_many m)) = ⊥

short_decimal : (m : ℕ) → m < 2 ^ 32 → length (decimal m) ≤ 10
short_decimal m small = length-decimal-le 10 m (lit< tt) (omega (arith, small)) (omega (arith, small))

spells_line : (most d : ℕ) (bytes : List ℕ) (bs : List ℕ) (r : Result (ℕ × List ℕ) Refusal) → most < 2 ^ 32 → bytes ≡ decimal d ++ bs → Spells most d bs r → SpellsLine most bytes r
spells_line most d bytes bs (Ok x) small e s = (s.0, e ∙ (s.1 ∙ sym (append_assoc (decimal x.0) (newline ∷ []) x.1)))
spells_line most d bytes bs (Err (bad_from rest)) small e s = near_front 10 bytes (decimal s.0) rest (e ∙ s.2) (short_decimal s.0 (omega (arith, s.1, small)))
spells_line most d bytes bs (Err (too_many m)) small e s = s

line_by : (most b : ℕ) (bs : List ℕ) (digit : Bool) → 9 ≤ most → most < 2 ^ 32 → is_in 48 57 b ≡ digit → SpellsLine most (b ∷ bs) (if digit then digits_at most (b - 48) bs else Err (bad_from (b ∷ bs)))
line_by most b bs true large small is =
    let range = both (nat_le 48 b) (nat_le b 57) is in
    let low : 48 ≤ b = grind (arith, nat_tests, range.0) in
    let high : b ≤ 57 = grind (arith, nat_tests, range.1) in
    let same : 48 + (b - 48) ≡ b = omega arith in
    spells_line most (b - 48) (b ∷ bs) bs (digits_at most (b - 48) bs) small
    (sym (ap (λ (ds : List ℕ). ds ++ bs) (decimal_digit (b - 48) (omega arith) ∙ ap (λ (c : ℕ). c ∷ []) same)))
    (digits_spell most (b - 48) bs (omega (arith, small)) (omega (arith, large, high)))
line_by most b bs false large small is = nothing_read 10 (b ∷ bs)

line_spells : (most : ℕ) (bytes : List ℕ) → 9 ≤ most → most < 2 ^ 32 → SpellsLine most bytes (line_number_at most bytes)
unfolding line_number_at
line_spells most [] large small = nothing_read 10 []
line_spells most (b ∷ bs) large small = line_by most b bs (is_in 48 57 b) large small refl

-- ---- names

fronts_pass : (p : ℕ → Bool) (n : ℕ) (bytes : List ℕ) → n ≤ prefix_len p bytes → list_all p (take n bytes) ≡ true
fronts_pass p zero bytes le = refl
fronts_pass p (suc n) [] le = refl
fronts_pass p (suc n) (b ∷ bs) le = grind (arith, fronts_pass p n bs)

prefix_fits : (p : ℕ → Bool) (bytes : List ℕ) → prefix_len p bytes ≤ length bytes
prefix_fits p [] = omega arith
prefix_fits p (b ∷ bs) = grind (arith, prefix_fits p bs)

-- all of the front passes, and the next byte doesn't
prefix_ends : (p : ℕ → Bool) (name : List ℕ) (b : ℕ) (rest : List ℕ) → list_all p name ≡ true → p b ≡ false → prefix_len p (name ++ b ∷ rest) ≡ length name
prefix_ends p [] b rest passes ends = grind (arith, ends)
prefix_ends p (c ∷ cs) b rest passes ends =
    let parts = both (p c) (list_all p cs) passes in
    grind (arith, parts.0, prefix_ends p cs b rest parts.1 ends)

at_most_few : (n : ℕ) → (at_most 64 n ≤ 64) × (at_most 64 n ≤ n)
at_most_few n = (grind (arith, nat_tests), grind (arith, nat_tests))

-- a name that none of the others has, and a tab
pub record IsName (others : List AclEntry) (bytes name rest : List ℕ) : Type 0 where
  pub text : bytes ≡ name ++ tab ∷ rest
  pub good : is_acl_name name ≡ true
  pub single : has_entry_named name others ≡ false
  pub short : length name ≤ 64

abbrev pub SpellsName : List AclEntry → List ℕ → Result (List ℕ × List ℕ) Refusal → Type 0
SpellsName others bytes (Ok x) = IsName others bytes x.0 x.1
SpellsName others bytes (Err (bad_from rest)) = IsNear 64 bytes rest
SpellsName others bytes (Err (too_many n)) = ⊥

not_true : (b : Bool) → not b ≡ true → b ≡ false
not_true false e = refl
not_true true e = absurd cc

named_by : (others : List AclEntry) (bytes name : List ℕ) (b : ℕ) (rest : List ℕ) (test : Bool) → list_all is_acl_byte name ≡ true → length name ≤ 64 → bytes ≡ name ++ b ∷ rest →
    (nat_eq b tab && (nat_lt 0 (length name) && not (has_entry_named name others))) ≡ test → SpellsName others bytes (if test then Ok (name, rest) else Err (bad_from (b ∷ rest)))
named_by others bytes name b rest true all short e is =
    let first = both (nat_eq b tab) (nat_lt 0 (length name) && not (has_entry_named name others)) is in
    let second = both (nat_lt 0 (length name)) (not (has_entry_named name others)) first.1 in
    record {
      text = e ∙ ap (λ (c : ℕ). name ++ c ∷ rest) (same_by_test b tab first.0);
      good = both_true (has_size 64 name) (list_all is_acl_byte name) (both_true (nat_lt 0 (length name)) (nat_le (length name) 64) second.0 (le-leb (length name) 64 short)) all;
      single = not_true (has_entry_named name others) second.1;
      short = short;
    }
named_by others bytes name b rest false all short e is = near_front 64 bytes name (b ∷ rest) e short

named_spells : (others : List AclEntry) (bytes name rest : List ℕ) → list_all is_acl_byte name ≡ true → length name ≤ 64 → bytes ≡ name ++ rest → SpellsName others bytes (named_at others name rest)
unfolding named_at
named_spells others bytes name [] all short e = near_front 64 bytes name [] e short
named_spells others bytes name (b ∷ rest) all short e = named_by others bytes name b rest (nat_eq b tab && (nat_lt 0 (length name) && not (has_entry_named name others))) all short e refl

name_spells : (others : List AclEntry) (bytes : List ℕ) → SpellsName others bytes (name_at others bytes)
unfolding name_at
name_spells others bytes =
    let n = name_length bytes in
    let few = at_most_few (prefix_len is_acl_byte bytes) in
    let fits : n ≤ length bytes = omega (arith, few.1, prefix_fits is_acl_byte bytes) in
    let long : length (take n bytes) ≡ n = length-take-le n bytes fits in
    named_spells others bytes (take n bytes) (drop n bytes) (fronts_pass is_acl_byte n bytes few.1) (omega (arith, few.0, long)) (sym (take-append-drop n bytes))

name_again : (others : List AclEntry) (name rest : List ℕ) → is_acl_name name ≡ true → has_entry_named name others ≡ false → name_at others (name ++ tab ∷ rest) ≡ Ok (name, rest)
unfolding name_at named_at
name_again others name rest good single =
    let parts = both (has_size 64 name) (list_all is_acl_byte name) good in
    let sizes = both (nat_lt 0 (length name)) (nat_le (length name) 64) parts.0 in
    let ends : prefix_len is_acl_byte (name ++ tab ∷ rest) ≡ length name = prefix_ends is_acl_byte name tab rest parts.1 refl in
    let n = name_length (name ++ tab ∷ rest) in
    let long : n ≡ length name = grind (arith, nat_tests, ends, sizes.1) in
    let test : (nat_eq tab tab && (nat_lt 0 (length name) && not (has_entry_named name others))) ≡ true = both_true (nat_lt 0 (length name)) (not (has_entry_named name others)) sizes.0 (ap not single) in
    ap (λ (xs : List ℕ). named_at others xs (drop n (name ++ tab ∷ rest))) (take_at name (tab ∷ rest) n (sym long))
    ∙ (ap (λ (xs : List ℕ). named_at others name xs) (drop_at name (tab ∷ rest) n (sym long))
    ∙ if_true (nat_eq tab tab && (nat_lt 0 (length name) && not (has_entry_named name others))) (Ok (name, rest)) (Err (bad_from (tab ∷ rest))) test)

-- ---- entries

-- an entry, and what follows
pub record ReadsEntry (others : List AclEntry) (bytes : List ℕ) (e : AclEntry) (rest : List ℕ) : Type 0 where
  pub text : bytes ≡ acl_entry_text e ++ rest
  pub good : IsEntry others e
  pub near : IsNear 76 bytes rest

abbrev pub SpellsEntry : List AclEntry → List ℕ → Result (AclEntry × List ℕ) Refusal → Type 0
SpellsEntry others bytes (Ok x) = ReadsEntry others bytes x.0 x.1
SpellsEntry others bytes (Err (bad_from rest)) = IsNear 76 bytes rest
SpellsEntry others bytes (Err (too_many n)) = ⊥

entry_joined : (name rest after bytes : List ℕ) (rights : ℕ) → bytes ≡ name ++ tab ∷ rest → rest ≡ number_line rights ++ after → bytes ≡ acl_entry_text (record { name = name; rights = rights }) ++ after
unfolding acl_entry_text
entry_joined name rest after bytes rights named numbered =
    named ∙ (ap (λ (xs : List ℕ). name ++ tab ∷ xs) numbered ∙ sym (append_assoc name (tab ∷ number_line rights) after))

near_name : (others : List AclEntry) (bytes name rest : List ℕ) → IsName others bytes name rest → IsNear 65 bytes rest
near_name others bytes name rest n =
    near_front 65 bytes (name ++ tab ∷ []) rest (n.text ∙ sym (append_assoc name (tab ∷ []) rest)) (let z : length (name ++ tab ∷ []) ≤ 65 = omega (arith, length-append name (tab ∷ []), n.short) in z)

near_line : (most : ℕ) (bytes rest : List ℕ) (n : ℕ) → most < 2 ^ 32 → n ≤ most → bytes ≡ number_line n ++ rest → IsNear 11 bytes rest
near_line most bytes rest n small le e =
    near_front 11 bytes (number_line n) rest e (let z : length (number_line n) ≤ 11 = omega (arith, length-append (decimal n) (newline ∷ []), short_decimal n (omega (arith, le, small))) in z)

entry_by_rights : (others : List AclEntry) (bytes name rest : List ℕ) (r : Result (ℕ × List ℕ) Refusal) → IsName others bytes name rest → SpellsLine most_rights rest r →
    SpellsEntry others bytes (r >>= (λ rights. Ok (record { name = name; rights = rights.0 }, rights.1)))
entry_by_rights others bytes name rest (Ok x) n s = record {
  text = entry_joined name rest x.1 bytes x.0 n.text s.1;
  good = record { name = n.good; single = n.single; rights = s.0 };
  near = near_then 65 11 bytes rest x.1 (near_name others bytes name rest n) (near_line most_rights rest x.1 x.0 (lit< tt) s.0 s.1);
}
entry_by_rights others bytes name rest (Err (bad_from after)) n s = near_more 75 76 bytes after (omega arith) (near_then 65 10 bytes rest after (near_name others bytes name rest n) s)
entry_by_rights others bytes name rest (Err (too_many k)) n s = s

entry_by_name : (others : List AclEntry) (bytes : List ℕ) (r : Result (List ℕ × List ℕ) Refusal) → SpellsName others bytes r →
    SpellsEntry others bytes (r >>= (λ name. line_number_at most_rights name.1 >>= (λ rights. Ok (record { name = name.0; rights = rights.0 }, rights.1))))
entry_by_name others bytes (Ok x) n = entry_by_rights others bytes x.0 x.1 (line_number_at most_rights x.1) n (line_spells most_rights x.1 (omega arith) (lit< tt))
entry_by_name others bytes (Err (bad_from rest)) n = near_more 64 76 bytes rest (omega arith) n
entry_by_name others bytes (Err (too_many k)) n = n

entry_spells : (others : List AclEntry) (bytes : List ℕ) → SpellsEntry others bytes (acl_entry_at others bytes)
unfolding acl_entry_at
entry_spells others bytes = entry_by_name others bytes (name_at others bytes) (name_spells others bytes)

entry_again : (others : List AclEntry) (e : AclEntry) (rest : List ℕ) → IsEntry others e → acl_entry_at others (acl_entry_text e ++ rest) ≡ Ok (e, rest)
unfolding acl_entry_at acl_entry_text
entry_again others e rest good =
    ap (λ (bytes : List ℕ). name_at others bytes >>= (λ name. line_number_at most_rights name.1 >>= (λ rights. Ok (record { name = name.0; rights = rights.0 }, rights.1)))) (append_assoc e.name (tab ∷ number_line e.rights) rest)
    ∙ (ap (λ r. r >>= (λ name. line_number_at most_rights name.1 >>= (λ rights. Ok (record { name = name.0; rights = rights.0 }, rights.1)))) (name_again others e.name (number_line e.rights ++ rest) good.name good.single)
    ∙ ap (λ r. r >>= (λ rights. Ok (record { name = e.name; rights = rights.0 }, rights.1))) (number_again most_rights e.rights rest (lit< tt) good.rights))

-- entries behind the others, and what follows
pub record ReadsEntries (others : List AclEntry) (n : ℕ) (bytes : List ℕ) (all : List AclEntry) (rest : List ℕ) : Type 0 where
  pub entries : List AclEntry
  pub behind : all ≡ others ++ entries
  pub number : length entries ≡ n
  pub text : bytes ≡ flat_map acl_entry_text entries ++ rest
  pub good : AreEntries others entries
  pub near : IsNear (76 * n) bytes rest

abbrev pub SpellsEntries : List AclEntry → ℕ → List ℕ → Result (List AclEntry × List ℕ) Refusal → Type 0
SpellsEntries others n bytes (Ok x) = ReadsEntries others n bytes x.0 x.1
SpellsEntries others n bytes (Err (bad_from rest)) = IsNear (76 * n) bytes rest
SpellsEntries others n bytes (Err (too_many k)) = ⊥

entries_more : (others : List AclEntry) (n : ℕ) (bytes : List ℕ) (e : AclEntry) (after : List ℕ) (r : Result (List AclEntry × List ℕ) Refusal) → ReadsEntry others bytes e after → SpellsEntries (others ++ e ∷ []) n after r → SpellsEntries others (suc n) bytes r
entries_more others n bytes e after (Ok x) one s = record {
  entries = e ∷ s.entries;
  behind = s.behind ∙ append_assoc others (e ∷ []) s.entries;
  number = ap suc s.number;
  text = one.text ∙ (ap (λ (xs : List ℕ). acl_entry_text e ++ xs) s.text ∙ sym (append_assoc (acl_entry_text e) (flat_map acl_entry_text s.entries) x.1));
  good = (one.good, s.good);
  near = near_more (76 + 76 * n) (76 * suc n) bytes x.1 (omega arith) (near_then 76 (76 * n) bytes after x.1 one.near s.near);
}
entries_more others n bytes e after (Err (bad_from rest)) one s = near_more (76 + 76 * n) (76 * suc n) bytes rest (omega arith) (near_then 76 (76 * n) bytes after rest one.near s)
entries_more others n bytes e after (Err (too_many k)) one s = s

entries_by : (others : List AclEntry) (n : ℕ) (bytes : List ℕ) (r : Result (AclEntry × List ℕ) Refusal) → SpellsEntry others bytes r →
    ((e : AclEntry) (after : List ℕ) → SpellsEntries (others ++ e ∷ []) n after (entries_at n (others ++ e ∷ []) after)) →
    SpellsEntries others (suc n) bytes (r >>= (λ x. entries_at n (others ++ x.0 ∷ []) x.1))
entries_by others n bytes (Ok x) s later = entries_more others n bytes x.0 x.1 (entries_at n (others ++ x.0 ∷ []) x.1) s (later x.0 x.1)
entries_by others n bytes (Err (bad_from rest)) s later = near_more 76 (76 * suc n) bytes rest (omega arith) s
entries_by others n bytes (Err (too_many k)) s later = s

entries_spell : (others : List AclEntry) (n : ℕ) (bytes : List ℕ) → SpellsEntries others n bytes (entries_at n others bytes)
entries_spell others zero bytes = record { entries = []; behind = sym (append-nil others); number = refl; text = refl; good = tt; near = nothing_read 0 bytes }
entries_spell others (suc n) bytes = entries_by others n bytes (acl_entry_at others bytes) (entry_spells others bytes) (λ e after. entries_spell (others ++ e ∷ []) n after)

entries_again : (others es : List AclEntry) (rest : List ℕ) → AreEntries others es → entries_at (length es) others (flat_map acl_entry_text es ++ rest) ≡ Ok (others ++ es, rest)
entries_again others [] rest good = ap (λ (all : List AclEntry). Ok (all, rest)) (sym (append-nil others))
entries_again others (e ∷ es) rest good =
    ap (λ (bytes : List ℕ). acl_entry_at others bytes >>= (λ x. entries_at (length es) (others ++ x.0 ∷ []) x.1)) (append_assoc (acl_entry_text e) (flat_map acl_entry_text es) rest)
    ∙ (ap (λ r. r >>= (λ x. entries_at (length es) (others ++ x.0 ∷ []) x.1)) (entry_again others e (flat_map acl_entry_text es ++ rest) good.0)
    ∙ (entries_again (others ++ e ∷ []) es rest good.1
    ∙ ap (λ (all : List AclEntry). Ok (all, rest)) (append_assoc others (e ∷ []) es)))

-- ---- whole lists

pub record ReadsLists (m n : ℕ) (bytes : List ℕ) (a : AccessList) : Type 0 where
  pub positive : length a.positive ≡ m
  pub negative : length a.negative ≡ n
  pub text : bytes ≡ flat_map acl_entry_text a.positive ++ flat_map acl_entry_text a.negative
  pub granted : AreEntries [] a.positive
  pub denied : AreEntries [] a.negative

abbrev pub SpellsLists : ℕ → ℕ → List ℕ → Result AccessList Refusal → Type 0
SpellsLists m n bytes (Ok a) = ReadsLists m n bytes a
SpellsLists m n bytes (Err (bad_from rest)) = IsNear (76 * m + 76 * n) bytes rest
SpellsLists m n bytes (Err (too_many k)) = ⊥

lists_by_end : (m n : ℕ) (bytes between : List ℕ) (p q : List AclEntry) (rest : List ℕ) → ReadsEntries [] m bytes p between → ReadsEntries [] n between q rest →
    SpellsLists m n bytes (must_end rest >>= (λ done. Ok (record { positive = p; negative = q })))
lists_by_end m n bytes between p q [] first second = record {
  positive = ap (λ (es : List AclEntry). length es) first.behind ∙ first.number;
  negative = ap (λ (es : List AclEntry). length es) second.behind ∙ second.number;
  text = first.text
      ∙ (ap (λ (xs : List ℕ). flat_map acl_entry_text first.entries ++ xs) (second.text ∙ append-nil (flat_map acl_entry_text second.entries))
      ∙ (ap (λ (es : List AclEntry). flat_map acl_entry_text es ++ flat_map acl_entry_text second.entries) (sym first.behind)
      ∙ ap (λ (es : List AclEntry). flat_map acl_entry_text p ++ flat_map acl_entry_text es) (sym second.behind)));
  granted = subst (λ (es : List AclEntry). AreEntries [] es) (sym first.behind) first.good;
  denied = subst (λ (es : List AclEntry). AreEntries [] es) (sym second.behind) second.good;
}
lists_by_end m n bytes between p q (b ∷ rest) first second = near_then (76 * m) (76 * n) bytes between (b ∷ rest) first.near second.near

lists_by_denied : (m n : ℕ) (bytes between : List ℕ) (p : List AclEntry) (r : Result (List AclEntry × List ℕ) Refusal) → ReadsEntries [] m bytes p between → SpellsEntries [] n between r →
    SpellsLists m n bytes (r >>= (λ denied. must_end denied.1 >>= (λ done. Ok (record { positive = p; negative = denied.0 }))))
lists_by_denied m n bytes between p (Ok x) first s = lists_by_end m n bytes between p x.0 x.1 first s
lists_by_denied m n bytes between p (Err (bad_from rest)) first s = near_then (76 * m) (76 * n) bytes between rest first.near s
lists_by_denied m n bytes between p (Err (too_many k)) first s = s

lists_by_granted : (m n : ℕ) (bytes : List ℕ) (r : Result (List AclEntry × List ℕ) Refusal) → SpellsEntries [] m bytes r →
    SpellsLists m n bytes (r >>= (λ granted. entries_at n [] granted.1 >>= (λ denied. must_end denied.1 >>= (λ done. Ok (record { positive = granted.0; negative = denied.0 })))))
lists_by_granted m n bytes (Ok x) s = lists_by_denied m n bytes x.1 x.0 (entries_at n [] x.1) s (entries_spell [] n x.1)
lists_by_granted m n bytes (Err (bad_from rest)) s = near_more (76 * m) (76 * m + 76 * n) bytes rest (omega arith) s
lists_by_granted m n bytes (Err (too_many k)) s = s

lists_spell : (m n : ℕ) (bytes : List ℕ) → SpellsLists m n bytes (lists_at m n bytes)
lists_spell m n bytes = lists_by_granted m n bytes (entries_at m [] bytes) (entries_spell [] m bytes)

-- what a text is read as: it is the list's text, or is refused within so many bytes of its beginning, or has too many entries
abbrev pub SpellsAcl : List ℕ → Result AccessList Refusal → Type 0
SpellsAcl text (Ok a) = IsAccessList a × (text ≡ acl_text a)
SpellsAcl text (Err (bad_from rest)) = IsNear 2000 text rest
SpellsAcl text (Err (too_many n)) = most_acl_entries < n

acl_joined : (text later bytes : List ℕ) (a : AccessList) (m n : ℕ) → text ≡ number_line m ++ later → later ≡ number_line n ++ bytes → ReadsLists m n bytes a → text ≡ acl_text a
unfolding acl_text
acl_joined text later bytes a m n first second lists =
    first
    ∙ (ap (λ (xs : List ℕ). number_line m ++ xs) (second ∙ ap (λ (xs : List ℕ). number_line n ++ xs) lists.text)
    ∙ (ap (λ (k : ℕ). number_line k ++ (number_line n ++ (flat_map acl_entry_text a.positive ++ flat_map acl_entry_text a.negative))) (sym lists.positive)
    ∙ ap (λ (k : ℕ). number_line (length a.positive) ++ (number_line k ++ (flat_map acl_entry_text a.positive ++ flat_map acl_entry_text a.negative))) (sym lists.negative)))

acl_by_lists : (text later bytes : List ℕ) (m n : ℕ) (r : Result AccessList Refusal) → m ≤ 4294967295 → n ≤ 4294967295 → m + n ≤ most_acl_entries → text ≡ number_line m ++ later → later ≡ number_line n ++ bytes → SpellsLists m n bytes r → SpellsAcl text r
acl_by_lists text later bytes m n (Ok a) few_m few_n few first second lists = (
  record {
    few = let z : length a.positive + length a.negative ≤ most_acl_entries = omega (arith, lists.positive, lists.negative, few) in z;
    positive = lists.granted;
    negative = lists.denied;
  },
  acl_joined text later bytes a m n first second lists,
)
acl_by_lists text later bytes m n (Err (bad_from rest)) few_m few_n few first second near =
    near_more (11 + (11 + (76 * m + 76 * n))) 2000 text rest (omega (arith, few))
    (near_then 11 (11 + (76 * m + 76 * n)) text later rest (near_line 4294967295 text later m (lit< tt) few_m first)
    (near_then 11 (76 * m + 76 * n) later bytes rest (near_line 4294967295 later bytes n (lit< tt) few_n second) near))
acl_by_lists text later bytes m n (Err (too_many k)) few_m few_n few first second s = absurd s

acl_by_sum : (text later bytes : List ℕ) (m n : ℕ) (few : Bool) → m ≤ 4294967295 → n ≤ 4294967295 → nat_le (m + n) most_acl_entries ≡ few → text ≡ number_line m ++ later → later ≡ number_line n ++ bytes →
    SpellsAcl text ((if few then Ok (tt {0}) else Err (too_many (m + n))) >>= (λ u. lists_at m n bytes))
acl_by_sum text later bytes m n true few_m few_n is first second = acl_by_lists text later bytes m n (lists_at m n bytes) few_m few_n (grind (arith, nat_tests, is)) first second (lists_spell m n bytes)
acl_by_sum text later bytes m n false few_m few_n is first second = let z : most_acl_entries < m + n = grind (arith, nat_tests, is) in z

acl_by_second : (text later : List ℕ) (m : ℕ) (r : Result (ℕ × List ℕ) Refusal) → m ≤ 4294967295 → text ≡ number_line m ++ later → SpellsLine 4294967295 later r →
    SpellsAcl text (r >>= (λ negative. must_be_few (m + negative.0) >>= (λ few. lists_at m negative.0 negative.1)))
acl_by_second text later m (Ok x) few_m first s = acl_by_sum text later x.1 m x.0 (nat_le (m + x.0) most_acl_entries) few_m s.0 refl first s.1
acl_by_second text later m (Err (bad_from rest)) few_m first s = near_more 21 2000 text rest (omega arith) (near_then 11 10 text later rest (near_line 4294967295 text later m (lit< tt) few_m first) s)
acl_by_second text later m (Err (too_many k)) few_m first s = absurd s

acl_by_first : (text : List ℕ) (r : Result (ℕ × List ℕ) Refusal) → SpellsLine 4294967295 text r →
    SpellsAcl text (r >>= (λ positive. count_at positive.1 >>= (λ negative. must_be_few (positive.0 + negative.0) >>= (λ few. lists_at positive.0 negative.0 negative.1))))
unfolding count_at
acl_by_first text (Ok x) s = acl_by_second text x.1 x.0 (line_number_at 4294967295 x.1) s.0 s.1 (line_spells 4294967295 x.1 (omega arith) (lit< tt))
acl_by_first text (Err (bad_from rest)) s = near_more 10 2000 text rest (omega arith) s
acl_by_first text (Err (too_many k)) s = absurd s

pub acl_spells : (text : List ℕ) → SpellsAcl text (acl_at text)
unfolding acl_at count_at
acl_spells text = acl_by_first text (line_number_at 4294967295 text) (line_spells 4294967295 text (omega arith) (lit< tt))

lists_again : (a : AccessList) → IsAccessList a → lists_at (length a.positive) (length a.negative) (flat_map acl_entry_text a.positive ++ flat_map acl_entry_text a.negative) ≡ Ok a
lists_again a is =
    let p = a.positive in
    let q = a.negative in
    ap (λ r. r >>= (λ granted. entries_at (length q) [] granted.1 >>= (λ denied. must_end denied.1 >>= (λ done. Ok (record { positive = granted.0; negative = denied.0 }))))) (entries_again [] p (flat_map acl_entry_text q) is.positive)
    ∙ (ap (λ (xs : List ℕ). entries_at (length q) [] xs >>= (λ denied. must_end denied.1 >>= (λ done. Ok (record { positive = p; negative = denied.0 })))) (sym (append-nil (flat_map acl_entry_text q)))
    ∙ ap (λ r. r >>= (λ denied. must_end denied.1 >>= (λ done. Ok (record { positive = p; negative = denied.0 })))) (entries_again [] q [] is.negative))

pub acl_again : (a : AccessList) → IsAccessList a → acl_at (acl_text a) ≡ Ok a
unfolding acl_at acl_text count_at
acl_again a is =
    let p = a.positive in
    let q = a.negative in
    let entries = flat_map acl_entry_text p ++ flat_map acl_entry_text q in
    ap (λ r. r >>= (λ positive. line_number_at 4294967295 positive.1 >>= (λ negative. must_be_few (positive.0 + negative.0) >>= (λ few. lists_at positive.0 negative.0 negative.1)))) (number_again 4294967295 (length p) (number_line (length q) ++ entries) (lit< tt) (omega (arith, is.few)))
    ∙ (ap (λ r. r >>= (λ negative. must_be_few (length p + negative.0) >>= (λ few. lists_at (length p) negative.0 negative.1))) (number_again 4294967295 (length q) entries (lit< tt) (omega (arith, is.few)))
    ∙ (ap (λ r. r >>= (λ few. lists_at (length p) (length q) entries)) (if_true (nat_le (length p + length q) most_acl_entries) (Ok tt) (Err (too_many (length p + length q))) (le-leb (length p + length q) most_acl_entries is.few))
    ∙ lists_again a is))

pub read_is_text : (text : List ℕ) (a : AccessList) → acl_at text ≡ Ok a → IsAccessList a × (text ≡ acl_text a)
read_is_text text a e = subst (SpellsAcl text) e (acl_spells text)

pub bad_is_near : (text rest : List ℕ) → acl_at text ≡ Err (bad_from rest) → IsNear 2000 text rest
bad_is_near text rest e = subst (SpellsAcl text) e (acl_spells text)

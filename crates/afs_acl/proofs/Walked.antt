-- What is found in the text of an access list, line by line, is what its reading gives.
use Rattle.std.proofs.Common.{◌≡◌, ℕ, zero, suc, ◌+◌, ◌-◌, ◌*◌, ◌<◌, ◌≤◌, Bool, true, false, not, ◌&&◌, ◌||◌, List, [], ◌∷◌, ◌++◌, length, drop, nat_eq, nat_le, nat_lt, bit_or, Result, Ok, Err, Option, Some, None, if◌then◌else◌, cond, ap, sym, ◌∙◌, arith, refl}
use Rattle.std.specs.List.{prefix_len}
use Rattle.std.specs.Result.{result_ok}
use Rattle.std.specs.Str.{bytes_eq}
use Rattle.std.proofs.lemmas.Bool.Decides.{nat_tests}
use Rattle.std.proofs.lemmas.List.Folds.{list_any-append}
use Rattle.afs_num.specs.Names.{is_in}
use Rattle.afs_num.specs.declared.acls.AclEntry.{AclEntry}
use Rattle.spec_shape.specs.Reading.{◌>>=◌}
use Rattle.spec_ideal.specs.AccessLists.{Refusal, bad_from, anyuser, at_most, digits_at, entries_at, acl_entry_at, digit_fits, is_acl_byte, has_entry_named, line_number_at, matches, matching_rights, most_rights, name_at, name_length, named_at, newline, tab}
use Rattle.spec_ideal.proofs.Basics.{both, some_of}
use Rattle.afs_acl.specs.declared.walking.Both.{Both}
use Rattle.afs_acl.specs.Walks.{behind_line, both_of, both_read, both_with, is_among, name_of_line}
use Rattle.afs_acl.proofs.Loops.{one_left}

-- ---- what was read ends with its line

-- what follows what was read
abbrev EndsAt : {A : Type 0} → List ℕ → Result (A × List ℕ) Refusal → Type 0
EndsAt rest (Ok x) = rest ≡ x.1
EndsAt rest (Err why) = Unit {0}

digits_end_by : (most n b : ℕ) (bs : List ℕ) (ends more : Bool) → EndsAt (behind_line bs) (digits_at most (n * 10 + (b - 48)) bs) →
    EndsAt (if ends then bs else behind_line bs) (if ends then Ok (n, bs) else (if more then digits_at most (n * 10 + (b - 48)) bs else Err (bad_from (b ∷ bs))))
digits_end_by most n b bs true more later = refl
digits_end_by most n b bs false true later = later
digits_end_by most n b bs false false later = tt

digits_end : (most n : ℕ) (bytes : List ℕ) → EndsAt (behind_line bytes) (digits_at most n bytes)
digits_end most n [] = tt
digits_end most n (b ∷ bs) = digits_end_by most n b bs (nat_eq b newline) (digit_fits most n b) (digits_end most (n * 10 + (b - 48)) bs)

-- a line goes on behind a byte that is no newline
passed : (b : ℕ) (bs : List ℕ) → nat_eq b newline ≡ false → behind_line (b ∷ bs) ≡ behind_line bs
passed b bs e = ap (λ (t : Bool). if t then bs else behind_line bs) e

no_newline : (b : ℕ) → is_in 48 57 b ≡ true → nat_eq b newline ≡ false
no_newline b digit = let range = both (nat_le 48 b) (nat_le b 57) digit in grind (arith, nat_tests, range.0)

ends_at : {A : Type 0} (rest before : List ℕ) (r : Result (A × List ℕ) Refusal) → before ≡ rest → EndsAt rest r → EndsAt before r
ends_at rest before (Ok x) e ends = e ∙ ends
ends_at rest before (Err why) e ends = tt

line_end_by : (most b : ℕ) (bs : List ℕ) (digit : Bool) → is_in 48 57 b ≡ digit → EndsAt (behind_line (b ∷ bs)) (if digit then digits_at most (b - 48) bs else Err (bad_from (b ∷ bs)))
line_end_by most b bs true is = ends_at (behind_line bs) (behind_line (b ∷ bs)) (digits_at most (b - 48) bs) (passed b bs (no_newline b is)) (digits_end most (b - 48) bs)
line_end_by most b bs false is = tt

line_end : (most : ℕ) (bytes : List ℕ) → EndsAt (behind_line bytes) (line_number_at most bytes)
unfolding line_number_at
line_end most [] = tt
line_end most (b ∷ bs) = line_end_by most b bs (is_in 48 57 b) refl

-- a name stands on one line
name_passed_by : (k b : ℕ) (bs : List ℕ) (passes : Bool) → is_acl_byte b ≡ passes → suc k ≤ cond passes (1 + prefix_len is_acl_byte bs) 0 →
    (k ≤ prefix_len is_acl_byte bs → behind_line (drop k bs) ≡ behind_line bs) → behind_line (drop k bs) ≡ behind_line (b ∷ bs)
name_passed_by k b bs true is le later =
    let parts = both (not (nat_eq b tab)) (not (nat_eq b newline)) is in
    let goes_on : nat_eq b newline ≡ false = grind (arith, nat_tests, parts.1) in
    later (omega (arith, le)) ∙ sym (passed b bs goes_on)
name_passed_by k b bs false is le later = absurd (let z : suc k ≤ 0 = le in omega (arith, z))

name_passed : (k : ℕ) (bytes : List ℕ) → k ≤ prefix_len is_acl_byte bytes → behind_line (drop k bytes) ≡ behind_line bytes
name_passed zero bytes le = refl
name_passed (suc k) [] le = refl
name_passed (suc k) (b ∷ bs) le = name_passed_by k b bs (is_acl_byte b) refl le (name_passed k bs)

within : (n : ℕ) → at_most 64 n ≤ n
within n = grind (arith, nat_tests)

-- a name that was read, and where its line ends
abbrev IsNameOf : List ℕ → List ℕ → Result (List ℕ × List ℕ) Refusal → Type 0
IsNameOf name bytes (Ok x) = (name ≡ x.0) × (behind_line bytes ≡ behind_line x.1)
IsNameOf name bytes (Err why) = Unit {0}

named_end_by : (others : List AclEntry) (name : List ℕ) (b : ℕ) (bs : List ℕ) (test : Bool) → (nat_eq b tab && (nat_lt 0 (length name) && not (has_entry_named name others))) ≡ test →
    IsNameOf name (b ∷ bs) (if test then Ok (name, bs) else Err (bad_from (b ∷ bs)))
named_end_by others name b bs true is =
    let first = both (nat_eq b tab) (nat_lt 0 (length name) && not (has_entry_named name others)) is in
    (refl, passed b bs (let z : nat_eq b newline ≡ false = grind (arith, nat_tests, first.0) in z))
named_end_by others name b bs false is = tt

named_end : (others : List AclEntry) (name bytes : List ℕ) → IsNameOf name bytes (named_at others name bytes)
unfolding named_at
named_end others name [] = tt
named_end others name (b ∷ bs) = named_end_by others name b bs (nat_eq b tab && (nat_lt 0 (length name) && not (has_entry_named name others))) refl

-- an entry that was read has the name on its line, and ends with it
abbrev IsLineOf : List ℕ → Result (AclEntry × List ℕ) Refusal → Type 0
IsLineOf bytes (Ok x) = (name_of_line bytes ≡ x.0.name) × (behind_line bytes ≡ x.1)
IsLineOf bytes (Err why) = Unit {0}

line_by_number : (bytes name : List ℕ) (r : Result (ℕ × List ℕ) Refusal) → name_of_line bytes ≡ name → EndsAt (behind_line bytes) r →
    IsLineOf bytes (r >>= (λ rights. Ok (record { name = name; rights = rights.0 }, rights.1)))
line_by_number bytes name (Ok x) named ends = (named, ends)
line_by_number bytes name (Err why) named ends = tt

line_by_name : (bytes rest : List ℕ) (r : Result (List ℕ × List ℕ) Refusal) → behind_line rest ≡ behind_line bytes → IsNameOf (name_of_line bytes) rest r →
    IsLineOf bytes (r >>= (λ name. line_number_at most_rights name.1 >>= (λ rights. Ok (record { name = name.0; rights = rights.0 }, rights.1))))
line_by_name bytes rest (Ok x) same is =
    line_by_number bytes x.0 (line_number_at most_rights x.1) is.0 (ends_at (behind_line x.1) (behind_line bytes) (line_number_at most_rights x.1) (sym same ∙ is.1) (line_end most_rights x.1))
line_by_name bytes rest (Err why) same is = tt

line_of : (others : List AclEntry) (bytes : List ℕ) → IsLineOf bytes (acl_entry_at others bytes)
unfolding acl_entry_at name_at
line_of others bytes =
    let rest = drop (name_length bytes) bytes in
    line_by_name bytes rest (named_at others (name_of_line bytes) rest) (name_passed (name_length bytes) bytes (within (prefix_len is_acl_byte bytes))) (named_end others (name_of_line bytes) rest)

-- ---- an entry behind others is one that would stand alone, and is none of their names'

alone_by : {A : Type 0} (is_tab some named : Bool) (x : A) (why : Refusal) →
    result_ok (if is_tab && (some && not named) then Ok x else Err why) ≡ (if named then None else result_ok (if is_tab && (some && true) then Ok x else Err why))
alone_by true true true x why = refl
alone_by true true false x why = refl
alone_by true false true x why = refl
alone_by true false false x why = refl
alone_by false some true x why = refl
alone_by false some false x why = refl

nothing : {A : Type 0} (named : Bool) → None ≡ (if named then None else (let z : Option A = None in z))
nothing true = refl
nothing false = refl

alone_named : (others : List AclEntry) (name bytes : List ℕ) → result_ok (named_at others name bytes) ≡ (if has_entry_named name others then None else result_ok (named_at [] name bytes))
unfolding named_at
alone_named others name [] = nothing (has_entry_named name others)
alone_named others name (b ∷ bs) = alone_by (nat_eq b tab) (nat_lt 0 (length name)) (has_entry_named name others) (name, bs) (bad_from (b ∷ bs))

-- what follows where something was read
abbrev then_ok : {A B : Type 0} → (A → Result B Refusal) → Option A → Option B
then_ok next None = None
then_ok next (Some x) = result_ok (next x)

ok_then : {A B : Type 0} (r : Result A Refusal) (next : A → Result B Refusal) → result_ok (r >>= next) ≡ then_ok next (result_ok r)
ok_then (Ok x) next = refl
ok_then (Err why) next = refl

then_unless : {A B : Type 0} (next : A → Result B Refusal) (named : Bool) (o : Option A) → then_ok next (if named then None else o) ≡ (if named then None else then_ok next o)
then_unless next true o = refl
then_unless next false o = refl

alone : (others : List AclEntry) (bytes : List ℕ) → result_ok (acl_entry_at others bytes) ≡ (if has_entry_named (name_of_line bytes) others then None else result_ok (acl_entry_at [] bytes))
unfolding acl_entry_at name_at
alone others bytes =
    let rest = drop (name_length bytes) bytes in
    let name = name_of_line bytes in
    let next : List ℕ × List ℕ → Result (AclEntry × List ℕ) Refusal = λ name. line_number_at most_rights name.1 >>= (λ rights. Ok (record { name = name.0; rights = rights.0 }, rights.1)) in
    ok_then (named_at others name rest) next
    ∙ (ap (then_ok next) (alone_named others name rest)
    ∙ (then_unless next (has_entry_named name others) (result_ok (named_at [] name rest))
    ∙ ap (λ o. if has_entry_named name others then None else o) (sym (ok_then (named_at [] name rest) next))))

-- ---- one line more

-- what follows the first lines, so many
abbrev behind_lines : ℕ → List ℕ → List ℕ
behind_lines zero bytes = bytes
behind_lines (suc n) bytes = behind_lines n (behind_line bytes)

line_more : (n : ℕ) (bytes : List ℕ) → behind_lines (suc n) bytes ≡ behind_line (behind_lines n bytes)
line_more zero bytes = refl
line_more (suc n) bytes = line_more n (behind_line bytes)

or_false : (a : Bool) → (a || false) ≡ a
or_false true = refl
or_false false = refl

or_joined : (a b c : Bool) → (a || (b || c)) ≡ ((a || b) || c)
or_joined true b c = refl
or_joined false b c = refl

among_more : (name : List ℕ) (n : ℕ) (bytes : List ℕ) → is_among name (suc n) bytes ≡ (is_among name n bytes || bytes_eq (name_of_line (behind_lines n bytes)) name)
among_more name zero bytes = or_false (bytes_eq (name_of_line bytes) name)
among_more name (suc n) bytes =
    ap (λ (t : Bool). bytes_eq (name_of_line bytes) name || t) (among_more name n (behind_line bytes))
    ∙ or_joined (bytes_eq (name_of_line bytes) name) (is_among name n (behind_line bytes)) (bytes_eq (name_of_line (behind_lines n (behind_line bytes))) name)

-- a line that has another name is passed over
pub among_later : (name : List ℕ) (count n : ℕ) (lines : List ℕ) (among : Bool) → n < count → bytes_eq (name_of_line lines) name ≡ false →
    is_among name (count - n) lines ≡ among → is_among name (count - (n + 1)) (behind_line lines) ≡ among
among_later name count n lines among lt unlike told =
    sym (ap (λ (t : Bool). t || is_among name (count - (n + 1)) (behind_line lines)) unlike)
    ∙ (sym (ap (λ (k : ℕ). is_among name k lines) (let z : count - n ≡ suc (count - (n + 1)) = omega (arith, lt) in z)) ∙ told)

named_more : (name : List ℕ) (others : List AclEntry) (e : AclEntry) → has_entry_named name (others ++ e ∷ []) ≡ (has_entry_named name others || bytes_eq e.name name)
named_more name others e = list_any-append (λ (x : AclEntry). bytes_eq x.name name) others (e ∷ []) ∙ ap (λ (t : Bool). has_entry_named name others || t) (or_false (bytes_eq e.name name))

rights_more : (user : List ℕ) (rights : ℕ) (others : List AclEntry) (e : AclEntry) →
    matching_rights user rights (others ++ e ∷ []) ≡ (if matches user e then bit_or (matching_rights user rights others) e.rights else matching_rights user rights others)
rights_more user rights [] e = refl
rights_more user rights (x ∷ xs) e = rights_more user (if matches user x then bit_or rights x.rights else rights) xs e

abbrev both_pair : ℕ → ℕ → Both
both_pair u a = record { user = u; everyone = a }

both_more : (user : List ℕ) (others : List AclEntry) (e : AclEntry) → both_of user (others ++ e ∷ []) ≡ both_with user (both_of user others) e
both_more user others e =
    ap (λ (n : ℕ). both_pair n (matching_rights anyuser 0 (others ++ e ∷ []))) (rights_more user 0 others e)
    ∙ ap (λ (n : ℕ). both_pair (if matches user e then bit_or (matching_rights user 0 others) e.rights else matching_rights user 0 others) n) (rights_more anyuser 0 others e)

-- ---- the walk

none_read : (user : List ℕ) (r : Result (List AclEntry × List ℕ) Refusal) → None ≡ result_ok r → None ≡ both_read user r
none_read user (Ok x) e = absurd cc
none_read user (Err why) e = refl

some_read : (user : List ℕ) (both : Both) (others : List AclEntry) (rest : List ℕ) (r : Result (List AclEntry × List ℕ) Refusal) → both ≡ both_of user others →
    Some (others, rest) ≡ result_ok r → Some (both, rest) ≡ both_read user r
some_read user both others rest (Ok x) said e =
    ap (λ (b : Both). Some (b, rest)) said ∙ ap (λ (z : List AclEntry × List ℕ). Some (both_of user z.0, z.1)) (some_of (others, rest) x e)
some_read user both others rest (Err why) said e = absurd cc

-- of so many entries so many were read, and those after them are to be read from `rest` on
pub record IsWalked (user first rest : List ℕ) (count n : ℕ) (both : Both) : Type 0 where
  pub others : List AclEntry
  pub few : n ≤ count
  pub onward : result_ok (entries_at (count - n) others rest) ≡ result_ok (entries_at count [] first)
  pub among : (name : List ℕ) → is_among name n first ≡ has_entry_named name others
  pub behind : behind_lines n first ≡ rest
  pub said : both ≡ both_of user others

pub walk_begins : (user first : List ℕ) (count : ℕ) (both : Both) → both ≡ both_of user [] → IsWalked user first first count 0 both
walk_begins user first count both e = record {
  others = [];
  few = omega arith;
  onward = ap (λ (k : ℕ). result_ok (entries_at k [] first)) (let z : count - 0 ≡ count = omega arith in z);
  among = λ name. refl;
  behind = refl;
  said = e;
}

-- the next entry decides how it goes on
one_more : (count n : ℕ) (others : List AclEntry) (rest : List ℕ) → n < count →
    result_ok (entries_at (count - n) others rest)
    ≡ then_ok (λ e. entries_at (count - (n + 1)) (others ++ e.0 ∷ []) e.1) (if has_entry_named (name_of_line rest) others then None else result_ok (acl_entry_at [] rest))
one_more count n others rest lt =
    let next : AclEntry × List ℕ → Result (List AclEntry × List ℕ) Refusal = λ e. entries_at (count - (n + 1)) (others ++ e.0 ∷ []) e.1 in
    ap (λ r. result_ok r) (one_left count n others rest lt) ∙ (ok_then (acl_entry_at others rest) next ∙ ap (then_ok next) (alone others rest))

-- the name of a line that was read
read_name : (bytes : List ℕ) (x : AclEntry × List ℕ) (r : Result (AclEntry × List ℕ) Refusal) → Some x ≡ result_ok r → IsLineOf bytes r → (name_of_line bytes ≡ x.0.name) × (behind_line bytes ≡ x.1)
read_name bytes x (Ok y) e is = let same : y ≡ x = some_of y x (sym e) in (is.0 ∙ ap (λ (z : AclEntry × List ℕ). z.0.name) same, is.1 ∙ ap (λ (z : AclEntry × List ℕ). z.1) same)
read_name bytes x (Err why) e is = absurd cc

pub walk_goes_on : (user first rest : List ℕ) (count n : ℕ) (both : Both) (e : AclEntry) (after : List ℕ) → IsWalked user first rest count n both → n < count →
    Some (e, after) ≡ result_ok (acl_entry_at [] rest) → is_among e.name n first ≡ false → IsWalked user first after count (n + 1) (both_with user both e)
walk_goes_on user first rest count n both e after w lt read new =
    let line = read_name rest (e, after) (acl_entry_at [] rest) read (line_of [] rest) in
    let next : AclEntry × List ℕ → Result (List AclEntry × List ℕ) Refusal = λ x. entries_at (count - (n + 1)) (w.others ++ x.0 ∷ []) x.1 in
    let more : n + 1 ≡ suc n = omega arith in
    let unnamed : has_entry_named (name_of_line rest) w.others ≡ false = ap (λ (name : List ℕ). has_entry_named name w.others) line.0 ∙ (sym (w.among e.name) ∙ new) in
    record {
      others = w.others ++ e ∷ [];
      few = omega (arith, lt);
      onward =
          ap (then_ok next) (read ∙ sym (ap (λ (t : Bool). if t then None else result_ok (acl_entry_at [] rest)) unnamed))
          ∙ (sym (one_more count n w.others rest lt) ∙ w.onward);
      among = λ name.
          ap (λ (k : ℕ). is_among name k first) more
          ∙ (among_more name n first
          ∙ (ap (λ (t : Bool). t || bytes_eq (name_of_line (behind_lines n first)) name) (w.among name)
          ∙ (ap (λ (xs : List ℕ). has_entry_named name w.others || bytes_eq (name_of_line xs) name) w.behind
          ∙ (ap (λ (xs : List ℕ). has_entry_named name w.others || bytes_eq xs name) line.0
          ∙ sym (named_more name w.others e)))));
      behind = ap (λ (k : ℕ). behind_lines k first) more ∙ (line_more n first ∙ (ap behind_line w.behind ∙ line.1));
      said = ap (λ (b : Both). both_with user b e) w.said ∙ sym (both_more user w.others e);
    }

-- the walk stops where the next line is none that can stand there
pub walk_stops : (user first rest : List ℕ) (count n : ℕ) (both : Both) → IsWalked user first rest count n both → n < count →
    None ≡ result_ok (acl_entry_at [] rest) → None ≡ both_read user (entries_at count [] first)
walk_stops user first rest count n both w lt read =
    let next : AclEntry × List ℕ → Result (List AclEntry × List ℕ) Refusal = λ x. entries_at (count - (n + 1)) (w.others ++ x.0 ∷ []) x.1 in
    none_read user (entries_at count [] first)
    (ap (then_ok next) (nothing (has_entry_named (name_of_line rest) w.others) ∙ ap (λ o. if has_entry_named (name_of_line rest) w.others then None else o) read)
    ∙ (sym (one_more count n w.others rest lt) ∙ w.onward))

-- or where its name stood before
pub walk_meets_again : (user first rest : List ℕ) (count n : ℕ) (both : Both) (e : AclEntry) (after : List ℕ) → IsWalked user first rest count n both → n < count →
    Some (e, after) ≡ result_ok (acl_entry_at [] rest) → is_among e.name n first ≡ true → None ≡ both_read user (entries_at count [] first)
walk_meets_again user first rest count n both e after w lt read again =
    let line = read_name rest (e, after) (acl_entry_at [] rest) read (line_of [] rest) in
    let next : AclEntry × List ℕ → Result (List AclEntry × List ℕ) Refusal = λ x. entries_at (count - (n + 1)) (w.others ++ x.0 ∷ []) x.1 in
    let named : has_entry_named (name_of_line rest) w.others ≡ true = ap (λ (name : List ℕ). has_entry_named name w.others) line.0 ∙ (sym (w.among e.name) ∙ again) in
    none_read user (entries_at count [] first)
    (ap (then_ok next) (sym (ap (λ (t : Bool). if t then None else result_ok (acl_entry_at [] rest)) named))
    ∙ (sym (one_more count n w.others rest lt) ∙ w.onward))

-- at the end all were read
pub walk_ends : (user first rest : List ℕ) (count n : ℕ) (both : Both) → IsWalked user first rest count n both → count ≤ n → Some (both, rest) ≡ both_read user (entries_at count [] first)
walk_ends user first rest count n both w le =
    let few = w.few in
    let none_left : count - n ≡ 0 = omega (arith, le, few) in
    some_read user both w.others rest (entries_at count [] first) w.said (ap (λ (k : ℕ). result_ok (entries_at k w.others rest)) (sym none_left) ∙ w.onward)

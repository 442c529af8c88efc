-- Owed breaks in their map and their heap: what an edit makes of them.
use Rattle.std.proofs.Common.{◌≡◌, ℕ, ◌+◌, ◌<◌, ◌≤◌, ◌&&◌, ◌||◌, Bool, true, false, not, List, [], ◌∷◌, ◌++◌, length, filter, Option, Some, None, nat_eq, nat_le, nat_lt, is_some, cond, if◌then◌else◌, refl, ap, sym, subst, ◌∙◌, arith, length-append}
use Rattle.std.specs.List.{list_any, AllByRecursion}
use Rattle.std.specs.List.Sorted.{IsPermutation}
use Rattle.std.specs.Map.{lookup}
use Rattle.std.specs.Ordering.{is_lt}
use Rattle.std.specs.BinaryHeap.{IsUpperBound}
use Rattle.std.specs.declared.cmp.Reverse.{Reverse}
use Rattle.std.proofs.lemmas.Bool.Decides.{nat_tests}
use Rattle.std.proofs.lemmas.List.Sorted.{list_any-IsPermutation}
use Rattle.spec_breaks.specs.declared.types.OwedBreak.{OwedBreak}
use Rattle.afs_promise.proofs.Split.{and_both}
use Rattle.spec_breaks.specs.Promises.{has_break, without_break, lasting_breaks}
use Rattle.afs_promise.specs.Owing.{break_before, breaks_in, IsNumbered, Ascends, is_at, AreDue, has_some, is_due, struck, due_order, IsOwing}

abbrev Entries : Type 0
Entries = List (ℕ × Option OwedBreak)

pub absent : (n : ℕ) (es : Entries) → lookup (nat_eq n) es ≡ None → struck n es ≡ es
absent n [] none = refl
absent n (e ∷ es) none = by (nat_eq n e.0) none (absent n es)
  where
    by : (t : Bool) → cond t (Some e.1) (lookup (nat_eq n) es) ≡ None → (lookup (nat_eq n) es ≡ None → struck n es ≡ es) → cond t ((e.0, None) ∷ es) (e ∷ struck n es) ≡ e ∷ es
    by true none later = absurd cc
    by false none later = ap (λ (l : Entries). e ∷ l) (later none)

-- ---- numbers

above : (low high n : ℕ) (es : Entries) → n ≤ low → Ascends low high es → lookup (nat_eq n) es ≡ None
above low high n [] le up = refl
above low high n (e ∷ es) le up = let differs : nat_eq n e.0 ≡ false = grind (arith, nat_tests, le, up.0) in rw differs (above e.0 high n es (omega (arith, le, up.0)) up.2)

pub beyond : (low high n : ℕ) (es : Entries) → high < n → Ascends low high es → lookup (nat_eq n) es ≡ None
beyond low high n [] lt up = refl
beyond low high n (e ∷ es) lt up = let differs : nat_eq n e.0 ≡ false = grind (arith, nat_tests, lt, below e.0 high es up.2) in rw differs (beyond e.0 high n es lt up.2)
  where
    below : (low high : ℕ) (es : Entries) → Ascends low high es → low ≤ high
    below low high [] up = up
    below low high (e ∷ es) up = omega (arith, up.0, below e.0 high es up.2)

pub few : (low high : ℕ) (es : Entries) → Ascends low high es → length (breaks_in es) + low ≤ high
few low high [] up = omega (arith, up)
few low high (e ∷ es) up = by e.1 (few e.0 high es up.2)
  where
    by : (o : Option OwedBreak) → length (breaks_in es) + e.0 ≤ high → length (break_before o (breaks_in es)) + low ≤ high
    by None later = omega (arith, up.0, later)
    by (Some o) later = omega (arith, up.0, later)

none_above : (low high n : ℕ) (es : Entries) → n ≤ low → Ascends low high es → has_break n (breaks_in es) ≡ false
none_above low high n [] le up = refl
none_above low high n (e ∷ es) le up = by e.1 up.1 (none_above e.0 high n es (omega (arith, le, up.0)) up.2)
  where
    by : (o : Option OwedBreak) → IsNumbered e.0 o → has_break n (breaks_in es) ≡ false → has_break n (break_before o (breaks_in es)) ≡ false
    by None own later = later
    by (Some o) own later = let differs : nat_eq o.number n ≡ false = grind (arith, nat_tests, le, up.0, own) in rw differs later

-- what the map has under a number is the break of that number
pub has_is : (low high n : ℕ) (es : Entries) → Ascends low high es → has_some (lookup (nat_eq n) es) ≡ has_break n (breaks_in es)
has_is low high n [] up = refl
has_is low high n (e ∷ es) up = by (nat_eq n e.0) refl e.1 up.1 (has_is e.0 high n es up.2)
  where
    by : (t : Bool) → nat_eq n e.0 ≡ t → (o : Option OwedBreak) → IsNumbered e.0 o → has_some (lookup (nat_eq n) es) ≡ has_break n (breaks_in es)
        → has_some (cond t (Some o) (lookup (nat_eq n) es)) ≡ has_break n (break_before o (breaks_in es))
    by true same None own later = sym (none_above e.0 high n es (grind (arith, nat_tests, same)) up.2)
    by true same (Some o) own later = let one : nat_eq o.number n ≡ true = grind (arith, nat_tests, same, own) in rw one refl
    by false other None own later = later
    by false other (Some o) own later = let differs : nat_eq o.number n ≡ false = grind (arith, nat_tests, other, own) in rw differs later

-- ---- a break is struck out

without_above : (low high n : ℕ) (es : Entries) → n ≤ low → Ascends low high es → without_break n (breaks_in es) ≡ breaks_in es
without_above low high n [] le up = refl
without_above low high n (e ∷ es) le up = by e.1 up.1 (without_above e.0 high n es (omega (arith, le, up.0)) up.2)
  where
    by : (o : Option OwedBreak) → IsNumbered e.0 o → without_break n (breaks_in es) ≡ breaks_in es → without_break n (break_before o (breaks_in es)) ≡ break_before o (breaks_in es)
    by None own later = later
    by (Some o) own later = let differs : nat_eq o.number n ≡ false = grind (arith, nat_tests, le, up.0, own) in rw differs (ap (λ (l : List OwedBreak). o ∷ l) later)

pub struck_breaks : (low high n : ℕ) (es : Entries) → Ascends low high es → breaks_in (struck n es) ≡ without_break n (breaks_in es)
struck_breaks low high n [] up = refl
struck_breaks low high n (e ∷ es) up = by (nat_eq n e.0) refl e.1 up.1 (struck_breaks e.0 high n es up.2)
  where
    by : (t : Bool) → nat_eq n e.0 ≡ t → (o : Option OwedBreak) → IsNumbered e.0 o → breaks_in (struck n es) ≡ without_break n (breaks_in es)
        → breaks_in (cond t ((e.0, None) ∷ es) ((e.0, o) ∷ struck n es)) ≡ without_break n (break_before o (breaks_in es))
    by true same None own later = sym (without_above e.0 high n es (grind (arith, nat_tests, same)) up.2)
    by true same (Some o) own later = let one : nat_eq o.number n ≡ true = grind (arith, nat_tests, same, own) in rw one (sym (without_above e.0 high n es (grind (arith, nat_tests, same)) up.2))
    by false other None own later = later
    by false other (Some o) own later = let differs : nat_eq o.number n ≡ false = grind (arith, nat_tests, other, own) in rw differs (ap (λ (l : List OwedBreak). o ∷ l) later)

struck_ascends : (low high n : ℕ) (es : Entries) → Ascends low high es → Ascends low high (struck n es)
struck_ascends low high n [] up = up
struck_ascends low high n (e ∷ es) up = by (nat_eq n e.0) (struck_ascends e.0 high n es up.2)
  where
    by : (t : Bool) → Ascends e.0 high (struck n es) → Ascends low high (cond t ((e.0, None) ∷ es) (e ∷ struck n es))
    by true later = (up.0, tt, up.2)
    by false later = (up.0, up.1, later)

struck_fewer : (low high n : ℕ) (es : Entries) → Ascends low high es → length (breaks_in (struck n es)) + (if has_some (lookup (nat_eq n) es) then 1 else 0) ≡ length (breaks_in es)
struck_fewer low high n [] up = refl
struck_fewer low high n (e ∷ es) up = by (nat_eq n e.0) e.1 (struck_fewer e.0 high n es up.2)
  where
    by : (t : Bool) (o : Option OwedBreak) → length (breaks_in (struck n es)) + (if has_some (lookup (nat_eq n) es) then 1 else 0) ≡ length (breaks_in es)
        → length (breaks_in (cond t ((e.0, None) ∷ es) ((e.0, o) ∷ struck n es))) + (if has_some (cond t (Some o) (lookup (nat_eq n) es)) then 1 else 0) ≡ length (break_before o (breaks_in es))
    by true None later = omega arith
    by true (Some o) later = omega arith
    by false None later = later
    by false (Some o) later = omega (arith, later)

due_filter : (q : OwedBreak → Bool) (due : List (Reverse (ℕ × ℕ))) (os : List OwedBreak) → AreDue due os → AreDue due (filter q os)
due_filter q due [] all = tt
due_filter q due (o ∷ os) all = by (q o) (due_filter q due os all.1)
  where
    by : (t : Bool) → AreDue due (filter q os) → AreDue due (if t then o ∷ filter q os else filter q os)
    by true later = (all.0, later)
    by false later = later

pub struck_owing : {entries : Entries} {due : List (Reverse (ℕ × ℕ))} {last count left : ℕ} (n : ℕ) → left + (if has_some (lookup (nat_eq n) entries) then 1 else 0) ≡ count → IsOwing entries due last count → IsOwing (struck n entries) due last left
struck_owing {entries} {due} {last} {count} {left} n sum is = record {
  ascends = struck_ascends 0 last n entries is.ascends;
  counted = omega (arith, sum, is.counted, struck_fewer 0 last n entries is.ascends);
  covered = subst (AreDue due) (sym (struck_breaks 0 last n entries is.ascends)) (due_filter (λ o. not (nat_eq o.number n)) due (breaks_in entries) is.covered);
}

pub counts_some : {entries : Entries} {due : List (Reverse (ℕ × ℕ))} {last count : ℕ} (n : ℕ) → IsOwing entries due last count → has_some (lookup (nat_eq n) entries) ≡ true → 0 < count
counts_some {entries} {due} {last} {count} n is some = omega (arith, is.counted, sym (ap (λ (t : Bool). length (breaks_in (struck n entries)) + (if t then 1 else 0)) some) ∙ struck_fewer 0 last n entries is.ascends)

-- ---- a break becomes owed

ascends_on : (low high n : ℕ) (o : OwedBreak) (es : Entries) → high < n → o.number ≡ n → Ascends low high es → Ascends low n (es ++ (n, Some o) ∷ [])
ascends_on low high n o [] lt own up = (omega (arith, lt, up), own, omega arith)
ascends_on low high n o (e ∷ es) lt own up = (up.0, up.1, ascends_on e.0 high n o es lt own up.2)

pub breaks_on : (n : ℕ) (o : OwedBreak) (es : Entries) → breaks_in (es ++ (n, Some o) ∷ []) ≡ breaks_in es ++ o ∷ []
breaks_on n o [] = refl
breaks_on n o (e ∷ es) = by e.1 (breaks_on n o es)
  where
    by : (x : Option OwedBreak) → breaks_in (es ++ (n, Some o) ∷ []) ≡ breaks_in es ++ o ∷ [] → break_before x (breaks_in (es ++ (n, Some o) ∷ [])) ≡ break_before x (breaks_in es) ++ o ∷ []
    by None later = later
    by (Some x) later = ap (λ (l : List OwedBreak). x ∷ l) later

or_true : (a b : Bool) → b ≡ true → (a || b) ≡ true
or_true true b e = refl
or_true false b e = e

due_on : (d : Reverse (ℕ × ℕ)) (due more : List (Reverse (ℕ × ℕ))) (o : OwedBreak) (os : List OwedBreak) → IsPermutation (d ∷ due) more → is_at o d ≡ true → AreDue due os → AreDue more (os ++ o ∷ [])
due_on d due more o [] moved own all = (sym (list_any-IsPermutation (is_at o) (d ∷ due) more moved) ∙ (ap (λ (t : Bool). t || list_any (is_at o) due) own), tt)
due_on d due more o (x ∷ xs) moved own all = (sym (list_any-IsPermutation (is_at x) (d ∷ due) more moved) ∙ or_true (is_at x d) (list_any (is_at x) due) all.0, due_on d due more o xs moved own all.1)

pub owed_on : {entries : Entries} {due more : List (Reverse (ℕ × ℕ))} {last count : ℕ} (o : OwedBreak) (d : Reverse (ℕ × ℕ)) → o.number ≡ last + 1 → is_at o d ≡ true → IsPermutation (d ∷ due) more → IsOwing entries due last count → IsOwing (entries ++ (last + 1, Some o) ∷ []) more (last + 1) (count + 1)
owed_on {entries} {due} {more} {last} {count} o d own at moved is = record {
  ascends = ascends_on 0 last (last + 1) o entries (omega arith) own is.ascends;
  counted = omega (arith, is.counted, ap (λ (l : List OwedBreak). length l) (breaks_on (last + 1) o entries), length-append (breaks_in entries) (o ∷ []));
  covered = subst (AreDue more) (sym (breaks_on (last + 1) o entries)) (due_on d due more o (breaks_in entries) moved at is.covered);
}

-- ---- the first in the heap

pub all_later : (now : ℕ) (top : Reverse (ℕ × ℕ)) (due : List (Reverse (ℕ × ℕ))) → now < top.0.0 → IsUpperBound due_order top due → AllByRecursion (λ (d : Reverse (ℕ × ℕ)). now < d.0.0) due
all_later now top [] lt all = tt
all_later now top (d ∷ ds) lt all = (by (nat_lt d.0.0 top.0.0) refl all.0, all_later now top ds lt all.1)
  where
    by : (t : Bool) → nat_lt d.0.0 top.0.0 ≡ t → is_lt (due_order top d) ≡ false → now < d.0.0
    by true less not_less = absurd (let yes : is_lt (due_order top d) ≡ true = rw less refl in cc)
    by false more not_less = grind (arith, nat_tests, lt, more)

pub at_own : (expiry number : ℕ) → (nat_eq expiry expiry && nat_eq number number) ≡ true
at_own expiry number = let e : nat_eq expiry expiry ≡ true = grind (arith, nat_tests) in let n : nat_eq number number ≡ true = grind (arith, nat_tests) in rw (e, n) refl

-- ---- what is struck out is left out of the map

pub kept_breaks : (es : Entries) → breaks_in (filter (λ e. is_some e.1) es) ≡ breaks_in es
kept_breaks [] = refl
kept_breaks (e ∷ es) = by e.1 (kept_breaks es)
  where
    by : (o : Option OwedBreak) → breaks_in (filter (λ e. is_some e.1) es) ≡ breaks_in es → breaks_in (if is_some o then (e.0, o) ∷ filter (λ e. is_some e.1) es else filter (λ e. is_some e.1) es) ≡ break_before o (breaks_in es)
    by None later = later
    by (Some o) later = ap (λ (l : List OwedBreak). o ∷ l) later

ascends_lower : (low more high : ℕ) (es : Entries) → low ≤ more → Ascends more high es → Ascends low high es
ascends_lower low more high [] le up = omega (arith, le, up)
ascends_lower low more high (e ∷ es) le up = (omega (arith, le, up.0), up.1, up.2)

kept_ascends : (low high : ℕ) (es : Entries) → Ascends low high es → Ascends low high (filter (λ e. is_some e.1) es)
kept_ascends low high [] up = up
kept_ascends low high (e ∷ es) up = by (is_some e.1) (kept_ascends e.0 high es up.2)
  where
    by : (t : Bool) → Ascends e.0 high (filter (λ e. is_some e.1) es) → Ascends low high (if t then e ∷ filter (λ e. is_some e.1) es else filter (λ e. is_some e.1) es)
    by true later = (up.0, up.1, later)
    by false later = ascends_lower low e.0 high (filter (λ e. is_some e.1) es) (omega (arith, up.0)) later

pub kept_owing : {entries kept : Entries} {due : List (Reverse (ℕ × ℕ))} {last count : ℕ} → kept ≡ filter (λ e. is_some e.1) entries → IsOwing entries due last count → IsOwing kept due last count
kept_owing {entries} {kept} {due} {last} {count} e is = subst (λ (es : Entries). IsOwing es due last count) (sym e) (record {
  ascends = kept_ascends 0 last entries is.ascends;
  counted = is.counted ∙ sym (ap (λ (os : List OwedBreak). length os) (kept_breaks entries));
  covered = subst (AreDue due) (sym (kept_breaks entries)) is.covered;
})

-- ---- each break is under its number

AreUnder : Entries → List OwedBreak → Type 0
AreUnder es [] = Unit {0}
AreUnder es (o ∷ os) = (lookup (nat_eq o.number) es ≡ Some (Some o)) × AreUnder es os

AreAbove : ℕ → List OwedBreak → Type 0
AreAbove n [] = Unit {0}
AreAbove n (o ∷ os) = (n < o.number) × AreAbove n os

breaks_above : (n low high : ℕ) (es : Entries) → n ≤ low → Ascends low high es → AreAbove n (breaks_in es)
unfolding AreAbove
breaks_above n low high [] le up = tt
breaks_above n low high (e ∷ es) le up = by e.1 up.1 (breaks_above n e.0 high es (omega (arith, le, up.0)) up.2)
  where
    by : (o : Option OwedBreak) → IsNumbered e.0 o → AreAbove n (breaks_in es) → AreAbove n (break_before o (breaks_in es))
    by None own later = later
    by (Some o) own later = (omega (arith, le, up.0, own), later)

under_more : (e : ℕ × Option OwedBreak) (es : Entries) (os : List OwedBreak) → AreAbove e.0 os → AreUnder es os → AreUnder (e ∷ es) os
unfolding AreAbove AreUnder
under_more e es [] above under = tt
under_more e es (o ∷ os) above under = (let differs : nat_eq o.number e.0 ≡ false = grind (arith, nat_tests, above.0) in rw differs under.0, under_more e es os above.1 under.1)

under : (low high : ℕ) (es : Entries) → Ascends low high es → AreUnder es (breaks_in es)
unfolding AreUnder
under low high [] up = tt
under low high ((n, x) ∷ es) up = by x up.1 (λ (o : Option OwedBreak). under_more (n, o) es (breaks_in es) (breaks_above n n high es (omega arith) up.2) (under n high es up.2))
  where
    by : (o : Option OwedBreak) → IsNumbered n o → ((o : Option OwedBreak) → AreUnder ((n, o) ∷ es) (breaks_in es)) → AreUnder ((n, o) ∷ es) (break_before o (breaks_in es))
    by None own later = later None
    by (Some o) own later = (let one : nat_eq o.number n ≡ true = grind (arith, nat_tests, own) in rw one refl, later (Some o))

-- ---- what is owed no more is left out of the heap

kept_any : (o : OwedBreak) (test : Reverse (ℕ × ℕ) → Bool) (due : List (Reverse (ℕ × ℕ))) → ((d : Reverse (ℕ × ℕ)) → is_at o d ≡ true → test d ≡ true) → list_any (is_at o) due ≡ true → list_any (is_at o) (filter test due) ≡ true
kept_any o test [] all any = any
kept_any o test (d ∷ ds) all any = by (is_at o d) (test d) refl refl any (kept_any o test ds all)
  where
    by : (a t : Bool) → is_at o d ≡ a → test d ≡ t → (a || list_any (is_at o) ds) ≡ true → (list_any (is_at o) ds ≡ true → list_any (is_at o) (filter test ds) ≡ true)
        → list_any (is_at o) (if t then d ∷ filter test ds else filter test ds) ≡ true
    by true true e f any later = rw e refl
    by true false e f any later = absurd (let yes : test d ≡ true = all d e in cc)
    by false true e f any later = rw e (later any)
    by false false e f any later = later any

number_at : (o : OwedBreak) (d : Reverse (ℕ × ℕ)) → is_at o d ≡ true → d.0.1 ≡ o.number
number_at o d e = let both = and_both (nat_eq d.0.0 o.expiry) (nat_eq d.0.1 o.number) e in let n : nat_eq d.0.1 o.number ≡ true = both.1 in grind (arith, nat_tests, n)

kept_due_of : (es : Entries) (due more : List (Reverse (ℕ × ℕ))) (os : List OwedBreak) → IsPermutation (filter (λ d. has_some (lookup (nat_eq d.0.1) es)) due) more → AreUnder es os → AreDue due os → AreDue more os
unfolding AreUnder
kept_due_of es due more [] moved under all = tt
kept_due_of es due more (o ∷ os) moved under all = (
  sym (list_any-IsPermutation (is_at o) (filter (λ d. has_some (lookup (nat_eq d.0.1) es)) due) more moved) ∙ kept_any o (λ d. has_some (lookup (nat_eq d.0.1) es)) due (λ d e. ap (λ (n : ℕ). has_some (lookup (nat_eq n) es)) (number_at o d e) ∙ ap has_some under.0) all.0,
  kept_due_of es due more os moved under.1 all.1,
)

pub kept_heap : {entries : Entries} {due more : List (Reverse (ℕ × ℕ))} {last count : ℕ} → IsPermutation (filter (λ d. has_some (lookup (nat_eq d.0.1) entries)) due) more → IsOwing entries due last count → IsOwing entries more last count
kept_heap {entries} {due} {more} {last} {count} moved is = record { ascends = is.ascends; counted = is.counted; covered = kept_due_of entries due more (breaks_in entries) moved (under 0 last entries is.ascends) is.covered }

-- ---- what is due ends

expiry_at : (o : OwedBreak) (d : Reverse (ℕ × ℕ)) → is_at o d ≡ true → d.0.0 ≡ o.expiry
expiry_at o d e = let both = and_both (nat_eq d.0.0 o.expiry) (nat_eq d.0.1 o.number) e in let n : nat_eq d.0.0 o.expiry ≡ true = both.0 in grind (arith, nat_tests, n)

-- the break that the first in the heap stands for, if there is one, is due
due_of : (es : Entries) (now : ℕ) (o : OwedBreak) (d : Reverse (ℕ × ℕ)) → lookup (nat_eq o.number) es ≡ Some (Some o) → is_at o d ≡ true → d.0.0 ≤ now → is_due now (lookup (nat_eq d.0.1) es) ≡ true
due_of es now o d own e le =
    let low : nat_le o.expiry now ≡ true = grind (arith, nat_tests, le, expiry_at o d e) in
    ap (λ (n : ℕ). is_due now (lookup (nat_eq n) es)) (number_at o d e) ∙ (ap (is_due now) own ∙ low)

still_due : (es : Entries) (now : ℕ) (d : Reverse (ℕ × ℕ)) (due more : List (Reverse (ℕ × ℕ))) (os : List OwedBreak) → IsPermutation due (d ∷ more) → d.0.0 ≤ now → is_due now (lookup (nat_eq d.0.1) es) ≡ false → AreUnder es os → AreDue due os → AreDue more os
unfolding AreUnder
still_due es now d due more [] moved le no_due under all = tt
still_due es now d due more (o ∷ os) moved le no_due under all = (by (is_at o d) refl (sym (list_any-IsPermutation (is_at o) due (d ∷ more) moved) ∙ all.0), still_due es now d due more os moved le no_due under.1 all.1)
  where
    by : (t : Bool) → is_at o d ≡ t → (t || list_any (is_at o) more) ≡ true → list_any (is_at o) more ≡ true
    by true e any = absurd (let yes : is_due now (lookup (nat_eq d.0.1) es) ≡ true = due_of es now o d under.0 e le in cc)
    by false e any = any

rest_due : (d : Reverse (ℕ × ℕ)) (due more : List (Reverse (ℕ × ℕ))) (os : List OwedBreak) → IsPermutation due (d ∷ more) → AreDue due os → AreDue more (without_break d.0.1 os)
rest_due d due more [] moved all = tt
rest_due d due more (o ∷ os) moved all = by (nat_eq o.number d.0.1) refl (rest_due d due more os moved all.1)
  where
    head : (t : Bool) → is_at o d ≡ t → nat_eq o.number d.0.1 ≡ false → (t || list_any (is_at o) more) ≡ true → list_any (is_at o) more ≡ true
    head true e other any = absurd (let yes : nat_eq o.number d.0.1 ≡ true = grind (arith, nat_tests, number_at o d e) in cc)
    head false e other any = any

    by : (t : Bool) → nat_eq o.number d.0.1 ≡ t → AreDue more (without_break d.0.1 os) → AreDue more (if not t then o ∷ without_break d.0.1 os else without_break d.0.1 os)
    by true e later = later
    by false e later = (head (is_at o d) refl e (sym (list_any-IsPermutation (is_at o) due (d ∷ more) moved) ∙ all.0), later)

lasts_without : (es : Entries) (now n : ℕ) (os : List OwedBreak) → is_due now (lookup (nat_eq n) es) ≡ true → AreUnder es os → lasting_breaks now (without_break n os) ≡ lasting_breaks now os
unfolding AreUnder
lasts_without es now n [] due under = refl
lasts_without es now n (o ∷ os) due under = by (nat_eq o.number n) refl (lasts_without es now n os due under.1)
  where
    by : (t : Bool) → nat_eq o.number n ≡ t → lasting_breaks now (without_break n os) ≡ lasting_breaks now os → lasting_breaks now (if not t then o ∷ without_break n os else without_break n os) ≡ (if nat_lt now o.expiry then o ∷ lasting_breaks now os else lasting_breaks now os)
    by true e later =
        let same : o.number ≡ n = grind (arith, nat_tests, e) in
        let own : is_due now (Some (Some o)) ≡ true = sym (ap (is_due now) under.0) ∙ (ap (λ (m : ℕ). is_due now (lookup (nat_eq m) es)) same ∙ due) in
        let ended : nat_lt now o.expiry ≡ false = grind (arith, nat_tests, own) in
        rw ended later
    by false e later = over (nat_lt now o.expiry) later
      where
        over : (t : Bool) → lasting_breaks now (without_break n os) ≡ lasting_breaks now os → (if t then o ∷ lasting_breaks now (without_break n os) else lasting_breaks now (without_break n os)) ≡ (if t then o ∷ lasting_breaks now os else lasting_breaks now os)
        over true later = ap (λ (l : List OwedBreak). o ∷ l) later
        over false later = later

module _ (entries ended : Entries) (due more : List (Reverse (ℕ × ℕ))) (now last count left : ℕ) (d : Reverse (ℕ × ℕ)) (moved : IsPermutation due (d ∷ more)) (le : d.0.0 ≤ now) (e : ended ≡ (if is_due now (lookup (nat_eq d.0.1) entries) then struck d.0.1 entries else entries))
    (sum : left + (if is_due now (lookup (nat_eq d.0.1) entries) then 1 else 0) ≡ count) (is : IsOwing entries due last count) where
  pub record Ends : Type 0 where
    pub owing : IsOwing ended more last left
    pub lasts : lasting_breaks now (breaks_in ended) ≡ lasting_breaks now (breaks_in entries)

  some_due : (o : Option (Option OwedBreak)) → is_due now o ≡ true → has_some o ≡ true
  some_due None e = absurd cc
  some_due (Some None) e = absurd cc
  some_due (Some (Some o)) e = refl

  ends_by : (t : Bool) → is_due now (lookup (nat_eq d.0.1) entries) ≡ t → Ends
  ends_by true f =
      let was : ended ≡ struck d.0.1 entries = e ∙ rw f refl in
      let off : left + (if has_some (lookup (nat_eq d.0.1) entries) then 1 else 0) ≡ count = ap (λ (t : Bool). left + (if t then 1 else 0)) (some_due (lookup (nat_eq d.0.1) entries) f) ∙ (ap (λ (t : Bool). left + (if t then 1 else 0)) (sym f) ∙ sum) in
      let struck_is = struck_owing {due = due} d.0.1 off is in
      let breaks = struck_breaks 0 last d.0.1 entries is.ascends in
      record {
        owing = subst (λ (es : Entries). IsOwing es more last left) (sym was) (record { ascends = struck_is.ascends; counted = struck_is.counted; covered = subst (AreDue more) (sym breaks) (rest_due d due more (breaks_in entries) moved is.covered) });
        lasts = ap (λ (es : Entries). lasting_breaks now (breaks_in es)) was ∙ (ap (lasting_breaks now) breaks ∙ lasts_without entries now d.0.1 (breaks_in entries) f (under 0 last entries is.ascends));
      }
  ends_by false f =
      let was : ended ≡ entries = e ∙ rw f refl in
      let same : left ≡ count = (let z : left + 0 ≡ count = ap (λ (t : Bool). left + (if t then 1 else 0)) (sym f) ∙ sum in omega (arith, z)) in
      record {
        owing = subst (λ (es : Entries). IsOwing es more last left) (sym was) (record { ascends = is.ascends; counted = same ∙ is.counted; covered = still_due entries now d due more (breaks_in entries) moved le f (under 0 last entries is.ascends) is.covered });
        lasts = ap (λ (es : Entries). lasting_breaks now (breaks_in es)) was;
      }

  pub ends : Ends
  ends = ends_by (is_due now (lookup (nat_eq d.0.1) entries)) refl

late : (now : ℕ) (o : OwedBreak) (due : List (Reverse (ℕ × ℕ))) → AllByRecursion (λ (d : Reverse (ℕ × ℕ)). now < d.0.0) due → list_any (is_at o) due ≡ true → now < o.expiry
late now o [] all any = absurd cc
late now o (d ∷ ds) all any = by (is_at o d) refl any (late now o ds all.1)
  where
    by : (t : Bool) → is_at o d ≡ t → (t || list_any (is_at o) ds) ≡ true → (list_any (is_at o) ds ≡ true → now < o.expiry) → now < o.expiry
    by true e any rest = omega (arith, all.0, expiry_at o d e)
    by false e any rest = rest any

-- where none in the heap is due, none is at all
pub all_last : (now : ℕ) (due : List (Reverse (ℕ × ℕ))) (os : List OwedBreak) → AllByRecursion (λ (d : Reverse (ℕ × ℕ)). now < d.0.0) due → AreDue due os → lasting_breaks now os ≡ os
all_last now due [] later all = refl
all_last now due (o ∷ os) later all = let lasts : nat_lt now o.expiry ≡ true = (let lt = late now o due later all.0 in grind (arith, nat_tests, lt)) in rw lasts (ap (λ (l : List OwedBreak). o ∷ l) (all_last now due os later all.1))

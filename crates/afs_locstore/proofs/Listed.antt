-- Entries by their numbers and their names: what the indexes tell of them, and how the indexes stay theirs.
use Rattle.std.proofs.Common.{◌≡◌, ◌<◌, ℕ, zero, suc, ◌+◌, Bool, true, false, List, [], ◌∷◌, Option, Some, None, refl, sym, ap, subst, ◌∙◌, arith, slice_get, find, if◌then◌else◌}
use Rattle.std.specs.Prelude.{◌&&◌, ◌||◌, nat_eq, nat_lt, not, IfSome}
use Rattle.std.specs.Borrow.{Bor}
use Rattle.std.specs.List.{list_any}
use Rattle.std.specs.Option.{option_copied, option_map}
use Rattle.std.specs.Str.{bytes_eq}
use mathlib.Core.Bool.{true≢false}
use Rattle.std.proofs.lemmas.Bool.{eqb-true, eq-eqb}
use Rattle.std.proofs.lemmas.Bool.Decides.{nat_tests}
use Rattle.afs_num.specs.declared.location_calls.LocEntry.{LocEntry}
use Rattle.spec_ideal.specs.Directories.{bytes_below}
use Rattle.spec_ideal.specs.Tables.{get, set, unset, AscendsFrom, Table}
use Rattle.spec_ideal.proofs.Tables.{ascends_set, ascends_unset, get_below, get_set, get_unset}
use Rattle.spec_records.specs.LocDurable.{entry_set}
use Rattle.spec_records.specs.LocRecords.{listed_form, Listed}
use Rattle.spec_rows.specs.LocRow.{all_listed, any_other, has_id, is_named, nth, shares_id}
use Rattle.afs_locstore.specs.Indexed.{another_under, first_under, holds_pair, is_number, without_pair, Ascend, IsOrder}
use Rattle.afs_locstore.specs.Listings.{get_under, names_with, names_without, numbers_with, numbers_without, passes, with_number, AreIndexed, AreNames, AreNumbers, EachEntry, StandByNumber}
use Rattle.afs_locstore.specs.Orders.{names_ordered, numbers_ordered}
use Rattle.afs_locstore.proofs.Pairs.{another_is, first_lowest, holds_with, holds_without, is_another, none_under}

-- ---- tests

either_way : (a b : Bool) → (a ≡ true → b ≡ true) → (b ≡ true → a ≡ true) → a ≡ b
either_way true b one two = sym (one refl)
either_way false true one two = two refl
either_way false false one two = refl

or_first : (a b : Bool) → a ≡ true → (a || b) ≡ true
or_first a b e = rw e refl

or_second : (a b : Bool) → b ≡ true → (a || b) ≡ true
or_second true b e = refl
or_second false b e = e

and_false : (a : Bool) → (a && false) ≡ false
and_false true = refl
and_false false = refl

itself : (n : ℕ) → nat_eq n n ≡ true
itself n = eq-eqb n n refl

-- ---- a table without its first item

pub here : (p : ℕ × Listed) (ps : Table Listed) → get p.0 (p ∷ ps) ≡ Some p.1
here p ps = rw (itself p.0) refl

later_by : (n : ℕ) (l : Listed) (p : ℕ × Listed) (ps : Table Listed) (same : Bool) → nat_eq p.0 n ≡ same → AscendsFrom (p.0 + 1) ps → get n ps ≡ Some l → (if same then Some p.1 else get n ps) ≡ Some l
later_by n l p ps true e up h = let none : get n ps ≡ None = get_below (p.0 + 1) n ps (omega (arith, eqb-true p.0 n e)) up in absurd cc
later_by n l p ps false e up h = h

-- what stands behind the first stands there
pub later : (n : ℕ) (l : Listed) (p : ℕ × Listed) (ps : Table Listed) → AscendsFrom (p.0 + 1) ps → get n ps ≡ Some l → get n (p ∷ ps) ≡ Some l
later n l p ps up h = later_by n l p ps (nat_eq p.0 n) refl up h

passes_by : (test : LocEntry → Bool) (n : ℕ) (p : ℕ × Listed) (ps : Table Listed) (o : Option Listed) → get n ps ≡ o → AscendsFrom (p.0 + 1) ps → passes test o ≡ true → passes test (get n (p ∷ ps)) ≡ true
passes_by test n p ps None e up h = absurd cc
passes_by test n p ps (Some l) e up h = ap (passes test) (later n l p ps up e) ∙ h

passes_later : (test : LocEntry → Bool) (n : ℕ) (p : ℕ × Listed) (ps : Table Listed) → AscendsFrom (p.0 + 1) ps → passes test (get n ps) ≡ true → passes test (get n (p ∷ ps)) ≡ true
passes_later test n p ps up h = passes_by test n p ps (get n ps) refl up h

fails_by : (test : LocEntry → Bool) (n : ℕ) (p : ℕ × Listed) (ps : Table Listed) (is : Bool) → passes test (get n ps) ≡ is → AscendsFrom (p.0 + 1) ps → passes test (get n (p ∷ ps)) ≡ false → is ≡ false
fails_by test n p ps true e up h = absurd (true≢false (sym (passes_later test n p ps up e) ∙ h))
fails_by test n p ps false e up h = refl

fails_later : (test : LocEntry → Bool) (n : ℕ) (p : ℕ × Listed) (ps : Table Listed) → AscendsFrom (p.0 + 1) ps → passes test (get n (p ∷ ps)) ≡ false → passes test (get n ps) ≡ false
fails_later test n p ps up h = fails_by test n p ps (passes test (get n ps)) refl up h

-- those behind the first stand by their numbers
keyed_later : (p : ℕ × Listed) (ps : Table Listed) → AscendsFrom (p.0 + 1) ps → StandByNumber (p ∷ ps) → StandByNumber ps
keyed_later p ps up keyed = λ n l e. keyed n l (later n l p ps up e)

-- ---- the first that passes a test

found_by : (test : LocEntry → Bool) (n : ℕ) (p : ℕ × Listed) (ps : Table Listed) (is at over : Bool) → test p.1.entry ≡ is → nat_eq p.0 n ≡ at → nat_lt p.0 n ≡ over → AscendsFrom (p.0 + 1) ps
    → passes test (if at then Some p.1 else get n ps) ≡ true → ((i : ℕ) → i < n → passes test (get i (p ∷ ps)) ≡ false) → (passes test (get n ps) ≡ true → find (λ (l : Listed). test l.entry) (all_listed ps) ≡ get n ps)
    → (if is then Some p.1 else find (λ (l : Listed). test l.entry) (all_listed ps)) ≡ (if at then Some p.1 else get n ps)
found_by test n p ps true true over i a o up has low more = refl
found_by test n p ps true false true i a o up has low more = absurd (true≢false (sym (ap (passes test) (here p ps) ∙ i) ∙ low p.0 (grind (arith, nat_tests, o))))
found_by test n p ps true false false i a o up has low more =
    let none : get n ps ≡ None = get_below (p.0 + 1) n ps (grind (arith, nat_tests, o)) up in
    absurd (true≢false (sym has ∙ ap (passes test) none))
found_by test n p ps false true over i a o up has low more = absurd (true≢false (sym has ∙ i))
found_by test n p ps false false over i a o up has low more = more has

-- it is the one of the lowest number that does
found_lowest : (test : LocEntry → Bool) (m n : ℕ) (t : Table Listed) → AscendsFrom m t → passes test (get n t) ≡ true → ((i : ℕ) → i < n → passes test (get i t) ≡ false) → find (λ (l : Listed). test l.entry) (all_listed t) ≡ get n t
found_lowest test m n [] up has low = absurd cc
found_lowest test m n (p ∷ ps) up has low =
    found_by test n p ps (test p.1.entry) (nat_eq p.0 n) (nat_lt p.0 n) refl refl refl up.1 has low (λ more. found_lowest test (p.0 + 1) n ps up.1 more (λ i lt. fails_later test i p ps up.1 (low i lt)))

found_none : (test : LocEntry → Bool) (m : ℕ) (t : Table Listed) → AscendsFrom m t → ((i : ℕ) → passes test (get i t) ≡ false) → find (λ (l : Listed). test l.entry) (all_listed t) ≡ None
found_none test m [] up none = refl
found_none test m (p ∷ ps) up none =
    let first : test p.1.entry ≡ false = ap (passes test) (sym (here p ps)) ∙ none p.0 in
    rw first (found_none test (p.0 + 1) ps up.1 (λ i. fails_later test i p ps up.1 (none i)))

module _ {K : Type 0} (below same : K → K → Bool) (o : IsOrder below same) where
  under_by : (k : K) (test : LocEntry → Bool) (ps : List (K × ℕ)) (t : Table Listed) (first : Option ℕ) → first_under same k ps ≡ first → Ascend below same ps → AscendsFrom 0 t → ((n : ℕ) → holds_pair same k n ps ≡ passes test (get n t))
      → get_under first t ≡ find (λ (l : Listed). test l.entry) (all_listed t)
  under_by k test ps t None e so up are = sym (found_none test 0 t up (λ i. sym (are i) ∙ none_under below same o k i ps e))
  under_by k test ps t (Some n) e so up are =
      let a = first_lowest below same o k n ps so e in
      sym (found_lowest test 0 n t up (sym (are n) ∙ a.0) (λ i lt. sym (are i) ∙ a.1 i lt))

  -- the entry of the first number under a mark is the first that has the mark
  pub found_under : (k : K) (test : LocEntry → Bool) (ps : List (K × ℕ)) (t : Table Listed) → Ascend below same ps → AscendsFrom 0 t → ((n : ℕ) → holds_pair same k n ps ≡ passes test (get n t))
      → get_under (first_under same k ps) t ≡ find (λ (l : Listed). test l.entry) (all_listed t)
  found_under k test ps t so up are = under_by k test ps t (first_under same k ps) refl so up are

  -- ---- another that passes a test

  any_by : (but : Option ℕ) (test : LocEntry → Bool) (n : ℕ) (p : ℕ × Listed) (ps : Table Listed) (at : Bool) → nat_eq p.0 n ≡ at → p.1.entry.read_write ≡ p.0 → passes test (if at then Some p.1 else get n ps) ≡ true → is_number but n ≡ false
      → (passes test (get n ps) ≡ true → list_any (λ (l : Listed). not (is_number but l.entry.read_write) && test l.entry) (all_listed ps) ≡ true)
      → list_any (λ (l : Listed). not (is_number but l.entry.read_write) && test l.entry) (all_listed (p ∷ ps)) ≡ true
  any_by but test n p ps true a is has other more =
      let not_it : is_number but p.1.entry.read_write ≡ false = ap (is_number but) (is ∙ eqb-true p.0 n a) ∙ other in
      or_first (not (is_number but p.1.entry.read_write) && test p.1.entry) (list_any (λ (l : Listed). not (is_number but l.entry.read_write) && test l.entry) (all_listed ps)) (rw (not_it, has) refl)
  any_by but test n p ps false a is has other more =
      or_second (not (is_number but p.1.entry.read_write) && test p.1.entry) (list_any (λ (l : Listed). not (is_number but l.entry.read_write) && test l.entry) (all_listed ps)) (more has)

  any_listed : (but : Option ℕ) (test : LocEntry → Bool) (m n : ℕ) (t : Table Listed) → AscendsFrom m t → StandByNumber t → passes test (get n t) ≡ true → is_number but n ≡ false → list_any (λ (l : Listed). not (is_number but l.entry.read_write) && test l.entry) (all_listed t) ≡ true
  any_listed but test m n [] up keyed has other = absurd cc
  any_listed but test m n (p ∷ ps) up keyed has other =
      any_by but test n p ps (nat_eq p.0 n) refl (keyed p.0 p.1 (here p ps)) has other (λ more. any_listed but test (p.0 + 1) n ps up.1 (keyed_later p ps up.1 keyed) more other)

  -- an entry that passes, and isn't the one
  abbrev IsAnother : Option ℕ → (LocEntry → Bool) → Table Listed → Type 0
  IsAnother but test t = (n : ℕ) × ((passes test (get n t) ≡ true) × (is_number but n ≡ false))

  listed_by : (but : Option ℕ) (test : LocEntry → Bool) (p : ℕ × Listed) (ps : Table Listed) (it is : Bool) → is_number but p.1.entry.read_write ≡ it → test p.1.entry ≡ is → AscendsFrom (p.0 + 1) ps → p.1.entry.read_write ≡ p.0
      → ((not it && is) || list_any (λ (l : Listed). not (is_number but l.entry.read_write) && test l.entry) (all_listed ps)) ≡ true
      → (list_any (λ (l : Listed). not (is_number but l.entry.read_write) && test l.entry) (all_listed ps) ≡ true → IsAnother but test ps) → IsAnother but test (p ∷ ps)
  listed_by but test p ps false true e f up is any more = (p.0, (ap (passes test) (here p ps) ∙ f, ap (is_number but) (sym is) ∙ e))
  listed_by but test p ps false false e f up is any more = let a = more any in (a.0, (passes_later test a.0 p ps up a.1.0, a.1.1))
  listed_by but test p ps true b e f up is any more = let a = more any in (a.0, (passes_later test a.0 p ps up a.1.0, a.1.1))

  listed_any : (but : Option ℕ) (test : LocEntry → Bool) (m : ℕ) (t : Table Listed) → AscendsFrom m t → StandByNumber t → list_any (λ (l : Listed). not (is_number but l.entry.read_write) && test l.entry) (all_listed t) ≡ true
      → (n : ℕ) × ((passes test (get n t) ≡ true) × (is_number but n ≡ false))
  listed_any but test m [] up keyed any = absurd cc
  listed_any but test m (p ∷ ps) up keyed any =
      listed_by but test p ps (is_number but p.1.entry.read_write) (test p.1.entry) refl refl up.1 (keyed p.0 p.1 (here p ps)) any (listed_any but test (p.0 + 1) ps up.1 (keyed_later p ps up.1 keyed))

  -- another number under a mark is that of another entry that has the mark
  another_listed : (k : K) (but : Option ℕ) (test : LocEntry → Bool) (ps : List (K × ℕ)) (t : Table Listed) → AscendsFrom 0 t → StandByNumber t → ((n : ℕ) → holds_pair same k n ps ≡ passes test (get n t))
      → another_under same k but ps ≡ list_any (λ (l : Listed). not (is_number but l.entry.read_write) && test l.entry) (all_listed t)
  another_listed k but test ps t up keyed are =
      either_way (another_under same k but ps) (list_any (λ (l : Listed). not (is_number but l.entry.read_write) && test l.entry) (all_listed t))
      (λ any. (let a = another_is below same o k but ps any in any_listed but test 0 a.0 t up keyed (sym (are a.0) ∙ a.1.0) a.1.1))
      (λ any. (let a = listed_any but test 0 t up keyed any in is_another below same o k but a.0 ps (are a.0 ∙ a.1.0) a.1.1))

  other_is : (old : Option LocEntry) (test : LocEntry → Bool) (t : Table Listed)
      → list_any (λ (l : Listed). not (is_number (option_map (λ (e : LocEntry). e.read_write) old) l.entry.read_write) && test l.entry) (all_listed t) ≡ any_other old test t
  other_is None test t = refl
  other_is (Some e) test t = refl

  pub another_other : (k : K) (old : Option LocEntry) (test : LocEntry → Bool) (ps : List (K × ℕ)) (t : Table Listed) → AscendsFrom 0 t → StandByNumber t → ((n : ℕ) → holds_pair same k n ps ≡ passes test (get n t))
      → another_under same k (option_map (λ (e : LocEntry). e.read_write) old) ps ≡ any_other old test t
  another_other k old test ps t up keyed are = another_listed k (option_map (λ (e : LocEntry). e.read_write) old) test ps t up keyed are ∙ other_is old test t

-- ---- one of three numbers

spread : (f g h a b : Bool) → ((f && (g || h)) || (a || b)) ≡ (((f && g) || a) || ((f && h) || b))
spread true true h a b = refl
spread true false true true b = refl
spread true false true false b = refl
spread true false false a b = refl
spread false g h a b = refl

any_or : (f g h : Listed → Bool) (ls : List Listed) → list_any (λ (l : Listed). f l && (g l || h l)) ls ≡ (list_any (λ (l : Listed). f l && g l) ls || list_any (λ (l : Listed). f l && h l) ls)
any_or f g h [] = refl
any_or f g h (l ∷ ls) =
    ap (λ (b : Bool). (f l && (g l || h l)) || b) (any_or f g h ls) ∙ spread (f l) (g l) (h l) (list_any (λ (x : Listed). f x && g x) ls) (list_any (λ (x : Listed). f x && h x) ls)

other_or : (old : Option LocEntry) (g h : LocEntry → Bool) (t : Table Listed) → any_other old (λ e. g e || h e) t ≡ (any_other old g t || any_other old h t)
other_or None g h t = any_or (λ l. true) (λ l. g l.entry) (λ l. h l.entry) (all_listed t)
other_or (Some x) g h t = any_or (λ l. not (nat_eq l.entry.read_write x.read_write)) (λ l. g l.entry) (λ l. h l.entry) (all_listed t)

-- another has one of an entry's numbers where one of the three stands for another
pub shares_one : (old : Option LocEntry) (new : LocEntry) (ps : List (ℕ × ℕ)) (t : Table Listed) → AscendsFrom 0 t → StandByNumber t → AreNumbers ps t
    → (another_under nat_eq new.read_write (option_map (λ (e : LocEntry). e.read_write) old) ps || (another_under nat_eq new.read_only (option_map (λ (e : LocEntry). e.read_write) old) ps || another_under nat_eq new.backup (option_map (λ (e : LocEntry). e.read_write) old) ps))
    ≡ any_other old (shares_id new) t
shares_one old new ps t up keyed are =
    let one : (id : ℕ) → another_under nat_eq id (option_map (λ (e : LocEntry). e.read_write) old) ps ≡ any_other old (has_id id) t = λ id. another_other nat_lt nat_eq numbers_ordered id old (has_id id) ps t up keyed (are id) in
    rw (one new.read_write, one new.read_only, one new.backup)
    (sym (other_or old (has_id new.read_write) (λ e. has_id new.read_only e || has_id new.backup e) t ∙ ap (λ (b : Bool). any_other old (has_id new.read_write) t || b) (other_or old (has_id new.read_only) (has_id new.backup) t)))

-- ---- a place

pub nth_is : (n : ℕ) (t : Table Listed) → option_map (λ (p : ℕ × Listed). p.1) (slice_get t n) ≡ nth n (all_listed t)
nth_is n [] = refl
nth_is zero (p ∷ ps) = refl
nth_is (suc n) (p ∷ ps) = nth_is n ps

pub stands_at : (m : ℕ) (t : Table Listed) (i : ℕ) (p : ℕ × Listed) → AscendsFrom m t → slice_get t i ≡ Some p → get p.0 t ≡ Some p.1
stands_at m [] i p up e = absurd cc
stands_at m (q ∷ qs) zero p up e = let same : q ≡ p = cc in subst (λ (x : ℕ × Listed). get x.0 (q ∷ qs) ≡ Some x.1) same (here q qs)
stands_at m (q ∷ qs) (suc i) p up e = later p.0 p.1 q qs up.1 (stands_at (q.0 + 1) qs i p up.1 e)

-- ---- what is lent is what is found

under_fits : (Holds : ℕ → Listed → Type 0) (first : Option ℕ) (t : Table Listed) (l : Listed) → EachEntry Holds t → Some l ≡ get_under first t → (n : ℕ) × Holds n l
under_fits Holds None t l each e = absurd cc
under_fits Holds (Some n) t l each e = (n, each n l (sym e))

pub lent_fits : (result : Option (Bor Listed)) (first : Option ℕ) (t : Table Listed) → EachEntry (λ n l. listed_form.Fits l) t → option_copied result ≡ get_under first t → IfSome result (λ l. listed_form.Fits l.now)
lent_fits None first t each e = tt
lent_fits (Some r) first t each e = (under_fits (λ n l. listed_form.Fits l) first t r.now each e).1

-- ---- an entry comes

each_by : (Holds : ℕ → Listed → Type 0) (k n : ℕ) (l x : Listed) (t : Table Listed) (at : Bool) → nat_eq k n ≡ at → EachEntry Holds t → Holds k l → (if at then Some l else get n t) ≡ Some x → Holds n x
each_by Holds k n l x t true a each is e = let same : l ≡ x = cc in subst (Holds n) same (subst (λ (i : ℕ). Holds i l) (eqb-true k n a) is)
each_by Holds k n l x t false a each is e = each n x e

each_set : (Holds : ℕ → Listed → Type 0) (k : ℕ) (l : Listed) (t : Table Listed) → EachEntry Holds t → Holds k l → EachEntry Holds (set k l t)
each_set Holds k l t each is = λ n x e. each_by Holds k n l x t (nat_eq k n) refl each is (sym (get_set n k l t) ∙ e)

each_left_by : (Holds : ℕ → Listed → Type 0) (n : ℕ) (x : Listed) (t : Table Listed) (at : Bool) → EachEntry Holds t → (if at then None else get n t) ≡ Some x → Holds n x
each_left_by Holds n x t true each e = absurd cc
each_left_by Holds n x t false each e = each n x e

each_unset : (Holds : ℕ → Listed → Type 0) (k : ℕ) (t : Table Listed) → EachEntry Holds t → EachEntry Holds (unset k t)
each_unset Holds k t each = λ n x e. each_left_by Holds n x t (nat_eq k n) each (sym (get_unset n k t) ∙ e)

number_by : (i id m n : ℕ) (ps : List (ℕ × ℕ)) (none : Bool) → nat_eq i 0 ≡ none → holds_pair nat_eq id n (with_number i m ps) ≡ ((not none && (nat_eq i id && nat_eq m n)) || holds_pair nat_eq id n ps)
number_by i id m n ps true e = rw e refl
number_by i id m n ps false e = rw e (holds_with nat_lt nat_eq numbers_ordered i id m n ps)

number_put : (i id m n : ℕ) (ps : List (ℕ × ℕ)) → holds_pair nat_eq id n (with_number i m ps) ≡ ((not (nat_eq i 0) && (nat_eq i id && nat_eq m n)) || holds_pair nat_eq id n ps)
number_put i id m n ps = number_by i id m n ps (nat_eq i 0) refl

-- of 0 nothing is the number
no_zero_by : (i id : ℕ) (same : Bool) → nat_eq i id ≡ same → (not (nat_eq i 0) && (same && true)) ≡ (not (nat_eq id 0) && same)
no_zero_by i id true e = ap (λ (n : ℕ). not (nat_eq n 0) && true) (eqb-true i id e)
no_zero_by i id false e = and_false (not (nat_eq i 0)) ∙ sym (and_false (not (nat_eq id 0)))

no_zero : (i id : ℕ) → (not (nat_eq i 0) && (nat_eq i id && true)) ≡ (not (nat_eq id 0) && nat_eq i id)
no_zero i id = no_zero_by i id (nat_eq i id) refl

gathered : (z w r b : Bool) → ((z && b) || ((z && r) || ((z && w) || false))) ≡ (z && (w || (r || b)))
gathered false w r b = refl
gathered true true true true = refl
gathered true true true false = refl
gathered true true false true = refl
gathered true true false false = refl
gathered true false true true = refl
gathered true false true false = refl
gathered true false false true = refl
gathered true false false false = refl

nothing : (i id : ℕ) → (not (nat_eq i 0) && (nat_eq i id && false)) ≡ false
nothing i id = rw (and_false (nat_eq i id)) (and_false (not (nat_eq i 0)))

numbers_by : (l : Listed) (id n : ℕ) (t : Table Listed) (old at : Bool) → nat_eq l.entry.read_write n ≡ at → get l.entry.read_write t ≡ None → old ≡ passes (has_id id) (get n t)
    → ((not (nat_eq l.entry.backup 0) && (nat_eq l.entry.backup id && at)) || ((not (nat_eq l.entry.read_only 0) && (nat_eq l.entry.read_only id && at)) || ((not (nat_eq l.entry.read_write 0) && (nat_eq l.entry.read_write id && at)) || old)))
    ≡ passes (has_id id) (if at then Some l else get n t)
numbers_by l id n t old true a absent are =
    let none : old ≡ false = are ∙ ap (passes (has_id id)) (subst (λ (i : ℕ). get i t ≡ None) (eqb-true l.entry.read_write n a) absent) in
    rw (none, no_zero l.entry.backup id, no_zero l.entry.read_only id, no_zero l.entry.read_write id) (gathered (not (nat_eq id 0)) (nat_eq l.entry.read_write id) (nat_eq l.entry.read_only id) (nat_eq l.entry.backup id))
numbers_by l id n t old false a absent are = rw (nothing l.entry.backup id, nothing l.entry.read_only id, nothing l.entry.read_write id) are

numbers_put : (l : Listed) (ps : List (ℕ × ℕ)) (t : Table Listed) → AreNumbers ps t → get l.entry.read_write t ≡ None → AreNumbers (numbers_with l.entry ps) (entry_set l t)
numbers_put l ps t are absent = λ id n.
    let e : LocEntry = l.entry in
    let one : List (ℕ × ℕ) = with_number e.read_write e.read_write ps in
    let two : List (ℕ × ℕ) = with_number e.read_only e.read_write one in
    number_put e.backup id e.read_write n two
    ∙ (ap (λ (b : Bool). (not (nat_eq e.backup 0) && (nat_eq e.backup id && nat_eq e.read_write n)) || b)
    (number_put e.read_only id e.read_write n one
    ∙ ap (λ (b : Bool). (not (nat_eq e.read_only 0) && (nat_eq e.read_only id && nat_eq e.read_write n)) || b) (number_put e.read_write id e.read_write n ps))
    ∙ (numbers_by l id n t (holds_pair nat_eq id n ps) (nat_eq e.read_write n) refl absent (are id n)
    ∙ ap (passes (has_id id)) (sym (get_set n e.read_write l t))))

names_by : (l : Listed) (name : List ℕ) (n : ℕ) (t : Table Listed) (old is at : Bool) → nat_eq l.entry.read_write n ≡ at → bytes_eq l.entry.name name ≡ is → get l.entry.read_write t ≡ None → old ≡ passes (is_named name) (get n t)
    → ((is && at) || old) ≡ passes (is_named name) (if at then Some l else get n t)
names_by l name n t old true true a i absent are = sym i
names_by l name n t old false true a i absent are = are ∙ (ap (passes (is_named name)) (subst (λ (i : ℕ). get i t ≡ None) (eqb-true l.entry.read_write n a) absent) ∙ sym i)
names_by l name n t old true false a i absent are = are
names_by l name n t old false false a i absent are = are

names_put : (l : Listed) (ps : List (List ℕ × ℕ)) (t : Table Listed) → AreNames ps t → get l.entry.read_write t ≡ None → AreNames (names_with l.entry ps) (entry_set l t)
names_put l ps t are absent = λ name n.
    holds_with bytes_below bytes_eq names_ordered l.entry.name name l.entry.read_write n ps
    ∙ (names_by l name n t (holds_pair bytes_eq name n ps) (bytes_eq l.entry.name name) (nat_eq l.entry.read_write n) refl refl absent (are name n)
    ∙ ap (passes (is_named name)) (sym (get_set n l.entry.read_write l t)))

-- with one more entry, whose number none has, all are indexed
pub with_one : (l : Listed) (t : Table Listed) (numbers : List (ℕ × ℕ)) (names : List (List ℕ × ℕ)) → AreIndexed t numbers names → listed_form.Fits l → get l.entry.read_write t ≡ None
    → AreIndexed (entry_set l t) (numbers_with l.entry numbers) (names_with l.entry names)
with_one l t numbers names are fits absent = record {
  ordered = ascends_set 0 l.entry.read_write l t (omega arith) are.ordered;
  keyed = each_set (λ n x. x.entry.read_write ≡ n) l.entry.read_write l t are.keyed refl;
  fit = each_set (λ n x. listed_form.Fits x) l.entry.read_write l t are.fit fits;
  numbers = numbers_put l numbers t are.numbers absent;
  names = names_put l names t are.names absent;
}

-- ---- an entry goes

turned : (a b : ℕ) → nat_eq a b ≡ nat_eq b a
turned a b = either_way (nat_eq a b) (nat_eq b a) (λ e. eq-eqb b a (sym (eqb-true a b e))) (λ e. eq-eqb a b (sym (eqb-true b a e)))

gone : (z w r b : Bool) → (not (b && true) && (not (r && true) && (not (w && true) && (z && (w || (r || b)))))) ≡ false
gone z w r true = refl
gone z w true false = refl
gone z true false false = refl
gone z false false false = and_false z

-- what stands under an entry's numbers without it
abbrev left : LocEntry → ℕ → Bool → Bool → Bool
left e id at old = not (nat_eq e.backup id && at) && (not (nat_eq e.read_only id && at) && (not (nat_eq e.read_write id && at) && old))

left_by : (l : Listed) (id n : ℕ) (t : Table Listed) (old at : Bool) → nat_eq l.entry.read_write n ≡ at → get l.entry.read_write t ≡ Some l → old ≡ passes (has_id id) (get n t) → left l.entry id at old ≡ passes (has_id id) (if at then None else get n t)
left_by l id n t old true a there are =
    let is : old ≡ has_id id l.entry = are ∙ ap (passes (has_id id)) (subst (λ (i : ℕ). get i t ≡ Some l) (eqb-true l.entry.read_write n a) there) in
    rw is (gone (not (nat_eq id 0)) (nat_eq l.entry.read_write id) (nat_eq l.entry.read_only id) (nat_eq l.entry.backup id))
left_by l id n t old false a there are = rw (and_false (nat_eq l.entry.backup id), and_false (nat_eq l.entry.read_only id), and_false (nat_eq l.entry.read_write id)) are

number_taken : (i id m n : ℕ) (ps : List (ℕ × ℕ)) (rest : Bool) → holds_pair nat_eq id n ps ≡ rest → holds_pair nat_eq id n (without_pair nat_eq i m ps) ≡ (not (nat_eq i id && nat_eq m n) && rest)
number_taken i id m n ps rest e =
    holds_without nat_lt nat_eq numbers_ordered i id m n ps ∙ (rw (turned id i, turned n m) (ap (λ (b : Bool). not (nat_eq i id && nat_eq m n) && b) e))

numbers_taken : (l : Listed) (ps : List (ℕ × ℕ)) (t : Table Listed) → AreNumbers ps t → get l.entry.read_write t ≡ Some l → AreNumbers (numbers_without l.entry ps) (unset l.entry.read_write t)
numbers_taken l ps t are there = λ id n.
    let e : LocEntry = l.entry in
    let one : List (ℕ × ℕ) = without_pair nat_eq e.read_write e.read_write ps in
    let two : List (ℕ × ℕ) = without_pair nat_eq e.read_only e.read_write one in
    number_taken e.backup id e.read_write n two _ (number_taken e.read_only id e.read_write n one _ (number_taken e.read_write id e.read_write n ps _ refl))
    ∙ (left_by l id n t (holds_pair nat_eq id n ps) (nat_eq e.read_write n) refl there (are id n)
    ∙ ap (passes (has_id id)) (sym (get_unset n e.read_write t)))

unnamed_by : (l : Listed) (name : List ℕ) (n : ℕ) (t : Table Listed) (old is at : Bool) → nat_eq l.entry.read_write n ≡ at → bytes_eq l.entry.name name ≡ is → get l.entry.read_write t ≡ Some l → old ≡ passes (is_named name) (get n t)
    → (not (is && at) && old) ≡ passes (is_named name) (if at then None else get n t)
unnamed_by l name n t old true true a i there are = refl
unnamed_by l name n t old false true a i there are = are ∙ (ap (passes (is_named name)) (subst (λ (i : ℕ). get i t ≡ Some l) (eqb-true l.entry.read_write n a) there) ∙ i)
unnamed_by l name n t old true false a i there are = are
unnamed_by l name n t old false false a i there are = are

same_turned : (a b : List ℕ) → bytes_eq a b ≡ true → bytes_eq b a ≡ true
same_turned a b e = subst (λ (x : List ℕ). bytes_eq x a ≡ true) (names_ordered.same_is a b e) (names_ordered.is_same a)

names_turned : (a b : List ℕ) → bytes_eq a b ≡ bytes_eq b a
names_turned a b = either_way (bytes_eq a b) (bytes_eq b a) (same_turned a b) (same_turned b a)

names_taken : (l : Listed) (ps : List (List ℕ × ℕ)) (t : Table Listed) → AreNames ps t → get l.entry.read_write t ≡ Some l → AreNames (names_without l.entry ps) (unset l.entry.read_write t)
names_taken l ps t are there = λ name n.
    holds_without bytes_below bytes_eq names_ordered l.entry.name name l.entry.read_write n ps
    ∙ (rw (names_turned name l.entry.name, turned n l.entry.read_write)
    (unnamed_by l name n t (holds_pair bytes_eq name n ps) (bytes_eq l.entry.name name) (nat_eq l.entry.read_write n) refl refl there (are name n))
    ∙ ap (passes (is_named name)) (sym (get_unset n l.entry.read_write t)))

-- without one that stood there all are indexed
pub without_one : (n : ℕ) (l : Listed) (t : Table Listed) (numbers : List (ℕ × ℕ)) (names : List (List ℕ × ℕ)) → AreIndexed t numbers names → get n t ≡ Some l
    → AreIndexed (unset n t) (numbers_without l.entry numbers) (names_without l.entry names)
without_one n l t numbers names are there =
    let is : l.entry.read_write ≡ n = are.keyed n l there in
    let it : get l.entry.read_write t ≡ Some l = subst (λ (i : ℕ). get i t ≡ Some l) (sym is) there in
    record {
      ordered = ascends_unset 0 n t are.ordered;
      keyed = each_unset (λ i x. x.entry.read_write ≡ i) n t are.keyed;
      fit = each_unset (λ i x. listed_form.Fits x) n t are.fit;
      numbers = subst (λ (i : ℕ). AreNumbers (numbers_without l.entry numbers) (unset i t)) is (numbers_taken l numbers t are.numbers it);
      names = subst (λ (i : ℕ). AreNames (names_without l.entry names) (unset i t)) is (names_taken l names t are.names it);
    }

unset_by : (n : ℕ) (t : Table Listed) (same : Bool) → nat_eq n n ≡ same → (if same then None else get n t) ≡ None
unset_by n t true e = refl
unset_by n t false e = absurd (true≢false (sym (itself n) ∙ e))

-- what went isn't there
pub is_gone : (n : ℕ) (t : Table Listed) → get n (unset n t) ≡ None
is_gone n t = get_unset n n t ∙ unset_by n t (nat_eq n n) refl

-- nothing is indexed by nothing
pub none_indexed : AreIndexed [] [] []
none_indexed = record { ordered = tt; keyed = λ n l e. absurd cc; fit = λ n l e. absurd cc; numbers = λ id n. refl; names = λ name n. refl }

pub indexed_as : (t u : Table Listed) (ps qs : List (ℕ × ℕ)) (ns ms : List (List ℕ × ℕ)) → u ≡ t → qs ≡ ps → ms ≡ ns → AreIndexed t ps ns → AreIndexed u qs ms
indexed_as t u ps qs ns ms e f g are =
    subst (λ (x : Table Listed). AreIndexed x qs ms) (sym e) (subst (λ (x : List (ℕ × ℕ)). AreIndexed t x ms) (sym f) (subst (λ (x : List (List ℕ × ℕ)). AreIndexed t ps x) (sym g) are))

-- What a reader that succeeded has read.
use Rattle.std.proofs.Common.{◌≡◌, ℕ, ◌+◌, ◌-◌, ◌*◌, ◌≤◌, Bool, true, false, cond, nat_eq, nat_le, length, List, [], ◌∷◌, Option, Some, None, Result, Ok, Err, refl, sym, ap, subst, ◌∙◌, arith, leb-true}
use Rattle.std.specs.Prelude.{◌&&◌}
use Rattle.afs_num.specs.Names.{is_in}
use Rattle.std.specs.Option.{ok_or}
use Rattle.afs_num.specs.declared.scripts.Reason.{Reason}
use Rattle.spec_model.specs.ScriptWords.{◌>>=◌, must, number_from, numeral, at_least, ranged}
use Rattle.spec_model.specs.Script.{at_line}

-- ---- a reader that succeeded

pub record Bound (A B E : Type 0) (x : Result A E) (f : A → Result B E) (b : B) : Type 0 where
  pub value : A
  pub first : x ≡ Ok value
  pub rest : f value ≡ Ok b

pub bound : (A B E : Type 0) (x : Result A E) (f : A → Result B E) (b : B) → (x >>= f) ≡ Ok b → Bound A B E x f b
bound A B E (Ok a) f b e = record { value = a; first = refl; rest = e }
bound A B E (Err y) f b e = absurd cc

pub ok_of : (A E : Type 0) (x y : A) → ◌≡◌ {A = Result A E} (Ok x) (Ok y) → x ≡ y
ok_of A E x y e = cc

pub must_true : (t : Bool) (reason : Reason) (u : Unit {0}) → must t reason ≡ Ok u → t ≡ true
must_true true reason u e = refl
must_true false reason u e = absurd cc

pub some_in : (A E : Type 0) (o : Option A) (y : E) (x : A) → ok_or o y ≡ Ok x → o ≡ Some x
some_in A E None y x e = absurd cc
some_in A E (Some z) y x e = ap (λ (w : A). Some w) (ok_of A E z x e)

some_number : (m n : ℕ) → Some m ≡ Some n → m ≡ n
some_number m n e = cc

pub le_of_test : (m n : ℕ) → nat_le m n ≡ true → m ≤ n
le_of_test m n e = leb-true m n e

-- ---- numbers in their range

from_by : (t : Bool) (high m n : ℕ) (ds : List ℕ) (test : Bool) → (m ≤ high → number_from high m ds ≡ Some n → n ≤ high) → nat_le m high ≡ t → cond (test && nat_le m high) (number_from high m ds) None ≡ Some n → n ≤ high
from_by t high m n ds false ih le e = absurd cc
from_by true high m n ds true ih le e = ih (le_of_test m high le) (sym (ap (λ (b : Bool). cond b (number_from high m ds) None) le) ∙ e)
from_by false high m n ds true ih le e = let none : cond (nat_le m high) (number_from high m ds) None ≡ None = ap (λ (b : Bool). cond b (number_from high m ds) None) le in absurd cc

from_range : (high m n : ℕ) (ds : List ℕ) → m ≤ high → number_from high m ds ≡ Some n → n ≤ high
from_range high m n [] le e = subst (λ (k : ℕ). k ≤ high) (some_number m n e) le
from_range high m n (d ∷ ds) le e = from_by (nat_le (m * 10 + (d - 48)) high) high (m * 10 + (d - 48)) n ds (is_in 48 57 d) (from_range high (m * 10 + (d - 48)) n ds) refl e

zero_by : (t u : Bool) (high n : ℕ) (word : List ℕ) → cond t (cond u (Some 0) None) (number_from high 0 word) ≡ Some n → n ≤ high
zero_by true true high n word e = subst (λ (k : ℕ). k ≤ high) (some_number 0 n e) (omega arith)
zero_by true false high n word e = absurd cc
zero_by false u high n word e = from_range high 0 n word (omega arith) e

numeral_range : (high n : ℕ) (word : List ℕ) → numeral high word ≡ Some n → n ≤ high
unfolding numeral
numeral_range high n [] e = absurd cc
numeral_range high n (d ∷ ds) e = zero_by (nat_eq d 48) (nat_eq (length ds) 0) high n (d ∷ ds) e

least_by : (t : Bool) (low k n : ℕ) → nat_le low k ≡ t → cond t (Some k) None ≡ Some n → (low ≤ n) × (k ≡ n)
least_by true low k n t e = let q = some_number k n e in (subst (λ (m : ℕ). low ≤ m) q (le_of_test low k t), q)
least_by false low k n t e = absurd cc

pub least : (low n : ℕ) (o : Option ℕ) → at_least low o ≡ Some n → (low ≤ n) × (o ≡ Some n)
least low n None e = absurd cc
least low n (Some k) e = let q = least_by (nat_le low k) low k n refl e in (q.0, ap (λ (m : ℕ). Some m) q.1)

pub range : (low high n : ℕ) (word : List ℕ) → ranged low high word ≡ Some n → (low ≤ n) × (n ≤ high)
unfolding ranged
range low high n word e = let q = least low n (numeral high word) e in (q.0, numeral_range high n word q.1)

pub at_line_ok : (A : Type 0) (number : ℕ) (x : Result A Reason) (y : A) → at_line number x ≡ Ok y → x ≡ Ok y
at_line_ok A number (Ok z) y e = ap (λ (w : A). Ok w) (ok_of _ _ _ _ e)
at_line_ok A number (Err reason) y e = absurd cc

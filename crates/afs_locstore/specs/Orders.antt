-- Numbers and names have an order.
use Rattle.std.proofs.Common.{◌≡◌, ℕ, List, Bool, true, false, refl, sym, ◌∙◌, arith}
use Rattle.std.specs.Prelude.{nat_eq, nat_lt}
use Rattle.std.specs.Str.{bytes_eq}
use Rattle.std.specs.Cmp.Lexicographic.{bytes_decides}
use mathlib.Core.Bool.{true≢false}
use Rattle.std.proofs.lemmas.Bool.{eqb-true}
use Rattle.std.proofs.lemmas.Bool.Decides.{nat_tests}
use Rattle.spec_ideal.specs.Directories.{bytes_below}
use Rattle.spec_ideal.proofs.Directories.{below_itself, below_total, below_trans, same_is}
use Rattle.afs_locstore.specs.Indexed.{IsOrder}

pub numbers_ordered : IsOrder nat_lt nat_eq
numbers_ordered = record {
  irreflexive = λ a. grind (arith, nat_tests);
  passes = λ a b c ab bc. grind (arith, nat_tests, ab, bc);
  decides = λ a b ab ba. grind (arith, nat_tests, ab, ba);
  same_is = eqb-true;
  is_same = λ a. grind (arith, nat_tests);
}

names_same : (a b : List ℕ) (same : Bool) → bytes_eq a b ≡ same → bytes_below a b ≡ false → bytes_below b a ≡ false → a ≡ b
names_same a b true is ab ba = same_is a b is
names_same a b false is ab ba = absurd (true≢false (sym (below_total a b ab is) ∙ ba))

pub names_ordered : IsOrder bytes_below bytes_eq
names_ordered = record {
  irreflexive = below_itself;
  passes = below_trans;
  decides = λ a b. names_same a b (bytes_eq a b) refl;
  same_is = same_is;
  is_same = λ a. (bytes_decides a a).1 refl;
}

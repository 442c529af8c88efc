-- One piece after another, taken from a source or appended to a sink.
use Rattle.std.proofs.Common.{ℕ, ◌+◌, ◌≤◌, List, ◌++◌, length, take, drop, sym, subst, take-add, length-append, arith}
use Rattle.std.specs.Prelude.{Option}
use Rattle.std.specs.Io.KnownBytes.{Appends, Consumes}
use Rattle.std.proofs.KnownBytes.{Appends-trans, Consumes-trans}
use Rattle.afs_outside.specs.Outside.{TakesAtMost}

pub appends_more : (a b c : Option (List ℕ)) (i n : ℕ) (bytes : List ℕ) → Appends a b (take i bytes) → Appends b c (take n (drop i bytes)) → Appends a c (take (i + n) bytes)
appends_more a b c i n bytes p q = let P : List ℕ → Type 0 = λ t. Appends a c t in subst P (sym (take-add i n bytes)) (Appends-trans a b c (take i bytes) (take n (drop i bytes)) p q)

pub takes_more : (most room : ℕ) (a b c : Option (List ℕ)) (bytes : List ℕ) → Consumes a b bytes → length bytes + room ≤ most → TakesAtMost room b c → TakesAtMost most a c
takes_more most room a b c bytes p fits t = record {
  taken = bytes ++ t.taken;
  few = omega (arith, length-append bytes t.taken, t.few);
  consumed = Consumes-trans a b c bytes t.taken p t.consumed;
}

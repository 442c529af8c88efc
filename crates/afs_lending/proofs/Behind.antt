-- What comes next is written behind a text, or nothing more.
use Rattle.std.specs.Prelude.{ℕ, ◌+◌, List, ◌++◌, Option, Result, Ok, Err, IsOk, IsErr}
use Rattle.afs_outside.specs.Outside.{Puts}
use Rattle.afs_outside.specs.declared.outside.Failed.{Failed}
use Rattle.afs_outside.proofs.Puts.{puts_stop, puts_then}

pub puts_behind : {T U : Type 0} (x y : List ℕ) (a b c : Option (List ℕ)) (f g h : ℕ) (r : Result T Failed) (q : Result U Failed) → IsOk r → Puts x a b f g r → Puts y b c g h q → Puts (x ++ y) a c f h q
puts_behind x y a b c f g h (Ok u) q ok p more = puts_then x y a b c f g h u q p more
puts_behind x y a b c f g h (Err e) q ok p more = absurd cc

pub puts_no_more : {T U : Type 0} (x y : List ℕ) (a b : Option (List ℕ)) (f g : ℕ) (r : Result T Failed) (q : Result U Failed) → IsErr r → IsErr q → Puts x a b f g r → Puts (x ++ y) a b f g q
puts_no_more x y a b f g (Ok u) q failed fails p = absurd cc
puts_no_more x y a b f g (Err e) q failed fails p = puts_stop x y a b f g e q fails p

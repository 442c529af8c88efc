-- The numbers of breaks, with the promises that may become breaks.
use Rattle.std.proofs.Common.{◌≤◌, ◌+◌, ℕ, Bool, true, false, cond, List, [], ◌∷◌, length, arith}
use Rattle.std.specs.Prelude.{filter, nat_lt}
use Rattle.spec_breaks.specs.Promises.{expired, Lists}
use Rattle.spec_breaks.specs.declared.types.Promise.{Promise}

abbrev pub breaks_drawn : Lists → ℕ
breaks_drawn l = l.last_owed + length l.promises

kept_by : {A : Type 0} (b : Bool) (x : A) (xs ys : List A) → length ys ≤ length xs → length (cond b (x ∷ ys) ys) ≤ length (x ∷ xs)
kept_by {A} true x xs ys le = omega (arith, le)
kept_by {A} false x xs ys le = omega (arith, le)

pub filter_shorter : {A : Type 0} (p : A → Bool) (xs : List A) → length (filter p xs) ≤ length xs
filter_shorter {A} p [] = omega arith
filter_shorter {A} p (x ∷ xs) = kept_by (p x) x xs (filter p xs) (filter_shorter p xs)

-- promises that lapse draw none
pub expired_draws : (now : ℕ) (l : Lists) → breaks_drawn (expired now l) ≤ breaks_drawn l
expired_draws now l = let less = filter_shorter (λ (p : Promise). nat_lt now p.expiry) l.promises in omega (arith, less)

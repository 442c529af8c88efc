-- What holds of each item holds of the one that is found.
use Rattle.std.proofs.Common.{◌≡◌, suc, Bool, true, false, cond, List, [], ◌∷◌, Option, Some, None, subst, sym, arith, Bor}
use Rattle.std.specs.Prelude.{IfSome}
use Rattle.std.specs.Option.{option_copied}
use Rattle.std.specs.List.{All, find}

abbrev some : {X : Type 0} → X → Option X
some x = Some x

some_of : {X : Type 0} (x y : X) → some x ≡ some y → x ≡ y
some_of x y e = cc

found_first : {X : Type 0} (P : X → Type 0) (b : Bool) (y : X) (o : Option X) (x : X) → P y → (o ≡ some x → P x) → cond b (some y) o ≡ some x → P x
found_first P true y o x here later e = subst P (some_of y x e) here
found_first P false y o x here later e = later e

pub All-find : {X : Type 0} (P : X → Type 0) (p : X → Bool) (xs : List X) (x : X) → All P xs → find p xs ≡ some x → P x
All-find P p [] x h e = absurd cc
All-find P p (y ∷ ys) x h e =
    found_first P (p y) y (find p ys) x (h 0 y (omega arith)) (λ f. All-find P p ys x (λ k d lt. h (suc k) d (omega (arith, lt))) f) e

-- so also for what a look-up hands out by reference
pub holds_of_found : {X : Type 0} (P : X → Type 0) (p : X → Bool) (xs : List X) (o : Option (Bor X)) → All P xs → option_copied o ≡ find p xs → IfSome o (λ b. P b.now)
holds_of_found P p xs None h e = tt
holds_of_found P p xs (Some b) h e = All-find P p xs b.now h (sym e)

-- Images as the vnodes that they show.
use Rattle.std.proofs.Common.{◌≡◌, ℕ, Bool, true, false, List, [], ◌∷◌, Option, Some, None, find, nat_eq, Bor, IfSome, refl, sym, subst, if◌then◌else◌}
use Rattle.std.specs.List.{AllByRecursion}
use Rattle.std.specs.Option.{option_copied, option_map}
use Rattle.afs_num.specs.declared.vnodes.Vnode as image
use Rattle.spec_ideal.specs.Tables.{get}
use Rattle.spec_ideal.specs.Volumes.{Vnode}
use Rattle.afs_changes.specs.Drawing.{shown_by}
use Rattle.afs_volume.specs.Seen.{seen}

found_by : (b : Bool) (x : image.Vnode) (o : Option image.Vnode) (p : Option Vnode) → option_map seen o ≡ p → option_map seen (if b then Some x else o) ≡ (if b then Some (seen x) else p)
found_by true x o p e = refl
found_by false x o p e = e

pub found_shown : (n : ℕ) (xs : List image.Vnode) → option_map seen (find (λ (x : image.Vnode). nat_eq x.vnode n) xs) ≡ get n (shown_by xs)
found_shown n [] = refl
found_shown n (x ∷ xs) = found_by (nat_eq x.vnode n) x (find (λ (y : image.Vnode). nat_eq y.vnode n) xs) (get n (shown_by xs)) (found_shown n xs)

among_by : (b : Bool) (P : image.Vnode → Type 0) (x y : image.Vnode) (o : Option image.Vnode) → P x → (o ≡ Some y → P y) → (if b then Some x else o) ≡ Some y → P y
among_by true P x y o one more is = subst P (let z : x ≡ y = cc in z) one
among_by false P x y o one more is = more is

-- what is found among images has what all of them have
pub found_among : (P : image.Vnode → Type 0) (n : ℕ) (xs : List image.Vnode) (x : image.Vnode) → AllByRecursion P xs → find (λ (y : image.Vnode). nat_eq y.vnode n) xs ≡ Some x → P x
found_among P n [] x all is = absurd cc
found_among P n (y ∷ ys) x all is = among_by (nat_eq y.vnode n) P y x (find (λ (z : image.Vnode). nat_eq z.vnode n) ys) all.0 (λ e. found_among P n ys x all.1 e) is

pub some_among : (P : image.Vnode → Type 0) (n : ℕ) (xs : List image.Vnode) (o : Option (Bor image.Vnode)) → AllByRecursion P xs → option_copied o ≡ find (λ (y : image.Vnode). nat_eq y.vnode n) xs → IfSome o (λ (x : Bor image.Vnode). P x.now)
some_among P n xs None all is = tt
some_among P n xs (Some x) all is = found_among P n xs x.now all (sym is)

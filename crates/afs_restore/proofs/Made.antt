-- Vnodes that are made pair by pair stand in the order of the list, and can be read.
use Rattle.std.proofs.Common.{◌≡◌, ℕ, suc, ◌+◌, ◌≤◌, Bool, true, false, List, [], ◌∷◌, ◌++◌, length, Option, Some, refl, sym, ap, subst}
use Rattle.spec_ideal.specs.Images.{Image}
use Rattle.spec_ideal.specs.Tables.{AscendsFrom}
use Rattle.spec_ideal.specs.VnodeMaps.{AllFit}
use Rattle.afs_vnode.specs.Stores.{table_of}
use Rattle.afs_volume.proofs.Readable.{AllReadable}
use Rattle.afs_restore.specs.Filling.{image_indexed, AreMade, IsGiven, IsMade}

-- ---- one more

pub also_made : (ps : List (ℕ × ℕ)) (xs : List Image) (p : ℕ × ℕ) (x : Image) → AreMade ps xs → IsMade p x → AreMade (ps ++ p ∷ []) (xs ++ x ∷ [])
also_made [] [] p x all one = (one, tt)
also_made [] (y ∷ ys) p x all one = absurd all
also_made (r ∷ rs) [] p x all one = absurd all
also_made (r ∷ rs) (y ∷ ys) p x all one = (all.0, also_made rs ys p x all.1 one)

-- another index makes no difference
pub made_indexed : (anew : Bool) (p : ℕ × ℕ) (x : Image) → IsMade p x → IsMade p (image_indexed anew x)
made_indexed true p x made = record { number = made.number; fits = record { acl = made.fits.acl; contents = made.fits.contents }; readable = made.readable }
made_indexed false p x made = made

-- what is given was made
pub indexed_made : (anew : Bool) (p : ℕ × ℕ) (o : Option Image) (x y : Image) → o ≡ Some x → IsGiven p o → y ≡ image_indexed anew x → IsMade p y
indexed_made anew p o x y there given is = subst (λ (z : Image). IsMade p z) (sym is) (made_indexed anew p x (subst (λ (q : Option Image). IsGiven p q) there given))

-- ---- all of them

pub made_ascend : (m : ℕ) (ps : List (ℕ × ℕ)) (xs : List Image) → AscendsFrom m ps → AreMade ps xs → AscendsFrom m (table_of xs)
made_ascend m [] [] up all = tt
made_ascend m [] (x ∷ xs) up all = absurd all
made_ascend m (p ∷ ps) [] up all = absurd all
made_ascend m (p ∷ ps) (x ∷ xs) up all =
    (subst (λ (n : ℕ). m ≤ n) (sym all.0.number) up.0, subst (λ (n : ℕ). AscendsFrom (n + 1) (table_of xs)) (sym all.0.number) (made_ascend (p.0 + 1) ps xs up.1 all.1))

pub made_few : (ps : List (ℕ × ℕ)) (xs : List Image) → AreMade ps xs → length xs ≡ length ps
made_few [] [] all = refl
made_few [] (x ∷ xs) all = absurd all
made_few (p ∷ ps) [] all = absurd all
made_few (p ∷ ps) (x ∷ xs) all = ap suc (made_few ps xs all.1)

pub made_fit : (ps : List (ℕ × ℕ)) (xs : List Image) → AreMade ps xs → AllFit (table_of xs)
made_fit [] [] all = tt
made_fit [] (x ∷ xs) all = absurd all
made_fit (p ∷ ps) [] all = absurd all
made_fit (p ∷ ps) (x ∷ xs) all = (all.0.fits, made_fit ps xs all.1)

pub made_read : (ps : List (ℕ × ℕ)) (xs : List Image) → AreMade ps xs → AllReadable (table_of xs)
made_read [] [] all = tt
made_read [] (x ∷ xs) all = absurd all
made_read (p ∷ ps) [] all = absurd all
made_read (p ∷ ps) (x ∷ xs) all = (all.0.readable, made_read ps xs all.1)

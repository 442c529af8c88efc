-- Disks are lent one by one.
use Rattle.std.proofs.Common.{◌≡◌, ◌≤◌, ℕ, zero, suc, ◌+◌, List, [], ◌∷◌, ◌++◌, Option, Some, None, length, take, refl, ap, sym, subst, ◌∙◌, arith, append_assoc}
use Rattle.std.specs.Prelude.{IsSome, option_map}
use Rattle.afs_disk.specs.declared.bank.Lend.{Lend}
use Rattle.afs_disk.specs.declared.bank.Place.{Place}
use Rattle.afs_disk.specs.declared.disks.Lent.{Lent}
use Rattle.afs_lending.specs.Lending.{lends, AreLent, AreUnused, LentTell}

-- ---- one more

pub lent_more : {D : Type 0} (limit : D → ℕ) (capacity i : ℕ) (ds : List (Lent D)) (l : Lent D) → AreLent limit capacity i ds → l.node ≡ i + length ds → limit l.disk ≡ capacity → AreLent limit capacity i (ds ++ l ∷ [])
lent_more {D} limit capacity i [] l h e c = let here : l.node ≡ i = omega (arith, e) in (here, (c, tt))
lent_more limit capacity i (d ∷ ds) l h e c = (h.0, (h.1.0, lent_more limit capacity (i + 1) ds l h.1.1 (omega (arith, e)) c))

pub unused_more : {D : Type 0} (faults : D → ℕ) (ds : List (Lent D)) (l : Lent D) → AreUnused faults ds → faults l.disk ≡ 0 → AreUnused faults (ds ++ l ∷ [])
unused_more faults [] l h e = (e, tt)
unused_more faults (d ∷ ds) l h e = (h.0, unused_more faults ds l h.1 e)

-- each of them tells
abbrev pub AreTold : {D : Type 0} → (D → Option (List ℕ)) → List (Lent D) → Type 0
AreTold {D} seen [] = Unit {0}
AreTold {D} seen (l ∷ ls) = IsSome (seen l.disk) × AreTold seen ls

pub told_more : {D : Type 0} (seen : D → Option (List ℕ)) (ds : List (Lent D)) (l : Lent D) → AreTold seen ds → IsSome (seen l.disk) → AreTold seen (ds ++ l ∷ [])
told_more seen [] l h s = (s, tt)
told_more seen (d ∷ ds) l h s = (h.0, told_more seen ds l h.1 s)

some_is : {A : Type 0} (x y : A) → Some x ≡ Some y → x ≡ y
some_is x y e = cc

pub each_told : {D : Type 0} (seen : D → Option (List ℕ)) (ds : List (Lent D)) → AreTold seen ds → LentTell seen ds
each_told seen [] h n x e = absurd cc
each_told seen (d ∷ ds) h zero x e = absurd cc
each_told {D} seen (d ∷ ds) h (suc zero) x e = subst (λ (l : Lent D). IsSome (seen l.disk)) (some_is d x e) h.0
each_told seen (d ∷ ds) h (suc (suc n)) x e = each_told seen ds h.1 (suc n) x e

-- ---- what was lent so far

abbrev pub one : Place → ℕ → ℕ → Lend
one place capacity i = record { place = place; node = i; capacity = capacity }

pub lends_more : (place : Place) (capacity i n : ℕ) → lends place capacity i (suc n) ≡ lends place capacity i n ++ one place capacity (i + n) ∷ []
lends_more place capacity i zero = let same : i ≡ i + 0 = omega (arith) in ap (λ (k : ℕ). one place capacity k ∷ []) same
lends_more place capacity i (suc n) =
    let same : (i + 1) + n ≡ i + suc n = omega (arith) in
    ap (λ (ls : List Lend). one place capacity i ∷ ls) (lends_more place capacity (i + 1) n ∙ ap (λ (k : ℕ). lends place capacity (i + 1) n ++ one place capacity k ∷ []) same)

pub take_lends : (place : Place) (capacity i n m : ℕ) → n ≤ m → take n (lends place capacity i m) ≡ lends place capacity i n
take_lends place capacity i zero m h = refl
take_lends place capacity i (suc n) zero h = absurd (omega (arith, h))
take_lends place capacity i (suc n) (suc m) h = ap (λ (ls : List Lend). one place capacity i ∷ ls) (take_lends place capacity (i + 1) n m (omega (arith, h)))

lent_twice : (old : Option (List Lend)) (xs ys : List Lend) → option_map (λ (ls : List Lend). ls ++ ys) (option_map (λ (ls : List Lend). ls ++ xs) old) ≡ option_map (λ (ls : List Lend). ls ++ (xs ++ ys)) old
lent_twice None xs ys = refl
lent_twice (Some ls) xs ys = ap Some (append_assoc ls xs ys)

-- one more was lent behind the first ones
pub lent_next : (place : Place) (capacity i n : ℕ) (old mid new : Option (List Lend)) (node : ℕ) → mid ≡ option_map (λ ls. ls ++ lends place capacity i n) old → new ≡ option_map (λ ls. ls ++ one place capacity node ∷ []) mid → node ≡ i + n
    → new ≡ option_map (λ ls. ls ++ lends place capacity i (n + 1)) old
lent_next place capacity i n old mid new node m e at =
    let behind : suc n ≡ n + 1 = omega (arith) in
    e ∙ (ap (option_map (λ (ls : List Lend). ls ++ one place capacity node ∷ [])) m
    ∙ (lent_twice old (lends place capacity i n) (one place capacity node ∷ [])
    ∙ (ap (λ (k : ℕ). option_map (λ (ls : List Lend). ls ++ (lends place capacity i n ++ one place capacity k ∷ [])) old) at
    ∙ (ap (λ (xs : List Lend). option_map (λ (ls : List Lend). ls ++ xs) old) (sym (lends_more place capacity i n))
    ∙ ap (λ (k : ℕ). option_map (λ (ls : List Lend). ls ++ lends place capacity i k) old) behind))))

-- the first of them were lent
pub lends_front : (place : Place) (capacity i n m : ℕ) (old new : Option (List Lend)) → new ≡ option_map (λ ls. ls ++ lends place capacity i n) old → n ≤ m → (k : ℕ) × (new ≡ option_map (λ ls. ls ++ take k (lends place capacity i m)) old)
lends_front place capacity i n m old new e le = (n, e ∙ ap (λ (xs : List Lend). option_map (λ (ls : List Lend). ls ++ xs) old) (sym (take_lends place capacity i n m le)))

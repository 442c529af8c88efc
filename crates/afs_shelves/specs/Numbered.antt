-- Items in memory by numbers of their own.
use Rattle.std.specs.Prelude.{◌≡◌, ℕ, [], ◌∷◌, ⊤}
use Rattle.std.specs.Coded.{×_prop, Unit-prop, Coded-set, coded_ℕ}
use Rattle.spec_ideal.specs.Tables.{Table}
use Rattle.afs_shelves.specs.declared.shelf.Shelf.{Shelf}

-- each item stands by its own number
abbrev pub AreNumberedBy : {A : Type 0} → (A → ℕ) → Table A → Type 0
AreNumberedBy {A} number [] = ⊤
AreNumberedBy {A} number (p ∷ ps) = (number p.1 ≡ p.0) × AreNumberedBy number ps

pub AreNumberedBy-prop : {A : Type 0} (number : A → ℕ) (t : Table A) → IsProp (AreNumberedBy number t)
AreNumberedBy-prop {A} number [] = Unit-prop
AreNumberedBy-prop {A} number (p ∷ ps) = ×_prop (Coded-set coded_ℕ (number p.1) p.0) (AreNumberedBy-prop number ps)

-- each volume stands by its own number
abbrev pub shelf_number : Shelf → ℕ
shelf_number s = s.volume.head.id

abbrev pub AreShelved : Table Shelf → Type 0
AreShelved t = AreNumberedBy shelf_number t

pub AreShelved-prop : (t : Table Shelf) → IsProp (AreShelved t)
AreShelved-prop t = AreNumberedBy-prop shelf_number t

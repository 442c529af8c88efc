-- What the transactions of a volume server keep in order.
use Rattle.std.specs.Prelude.{◌≡◌, ◌⊎◌, ℕ, Some}
use Rattle.std.specs.List.{AllByRecursion}
use Rattle.spec_ideal.specs.Tables.{get, AscendsFrom, Table}
use Rattle.spec_volrows.specs.VolStates.{Transaction}

-- 1 for a volume that is offline, 2 for one that is busy
abbrev pub IsHoldFlag : ℕ → Type 0
IsHoldFlag flags = (flags ≡ 1) ⊎ (flags ≡ 2)

abbrev pub AreFlagged : Table Transaction → Type 0
AreFlagged ts = AllByRecursion (λ (p : ℕ × Transaction). IsHoldFlag p.1.flags) ts

-- their numbers ascend, and no two are on one volume
pub record AreAlone (ts : Table Transaction) : Type 0 where
  pub ascend : AscendsFrom 1 ts
  pub alone : (n m : ℕ) (t u : Transaction) → get n ts ≡ Some t → get m ts ≡ Some u → t.volume ≡ u.volume → n ≡ m

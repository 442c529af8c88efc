-- The vnodes of a volume as a list by ascending numbers, and from where a free number is looked for.
use Rattle.std.specs.Prelude.{◌≡◌, ◌≤◌, ◌<◌, ◌%◌, ◌+◌, ℕ, List, Bool, true, false, ◌&&◌, Option, Some, None, map, length, is_some, nat_eq, nat_le, nat_lt, if◌then◌else◌}
use Rattle.std.specs.List.{prefix_len}
use Rattle.afs_num.specs.declared.vnodes.Vnode.{Vnode}
use Rattle.spec_ideal.specs.Tables.{Table, get, AscendsFrom}
use Rattle.spec_ideal.specs.VnodeMaps.{most_vnodes, AllFit}

-- the map that they make
abbrev pub table_of : List Vnode → Table Vnode
table_of vs = map (λ (v : Vnode). (v.vnode, v)) vs

-- the map, and for how many more vnodes memory is there
pub record Held : Type 0 where
  pub table : Table Vnode
  pub room : ℕ

-- where the vnode of a number stands, or would stand
abbrev pub place_of : ℕ → List Vnode → ℕ
place_of n vs = prefix_len (λ (v : Vnode). nat_lt v.vnode n) vs

-- the vnode has the number
abbrev pub has_number : ℕ → Option Vnode → Bool
has_number n None = false
has_number n (Some v) = nat_eq v.vnode n

-- from the first on, the numbers of the parity below the hint are taken
pub record IsHint {A : Type 0} (first hint : ℕ) (t : Table A) : Type 0 where
  pub parity : hint % 2 ≡ first % 2
  pub above : first ≤ hint
  pub taken : (k : ℕ) → first ≤ k → k < hint → k % 2 ≡ first % 2 → is_some (get k t) ≡ true

-- the hint after a vnode of this number was put
abbrev pub raised : ℕ → ℕ → ℕ
raised hint n = if nat_eq hint n then hint + 2 else hint

-- and after one was removed
abbrev pub lowered : ℕ → ℕ → ℕ → ℕ
lowered first hint n = if nat_le first n && (nat_lt n hint && nat_eq (n % 2) (hint % 2)) then n else hint

-- in order, not too many, each within the limits of an image
pub record AreVnodes (t : Table Vnode) : Type 0 where
  pub ascends : AscendsFrom 0 t
  pub few : length t ≤ most_vnodes
  pub fits : AllFit t

pub record IsStore (vs : List Vnode) (low_even low_odd : ℕ) : Type 0 where
  pub ascends : AscendsFrom 0 (table_of vs)
  pub few : length vs ≤ most_vnodes
  pub fits : AllFit (table_of vs)
  pub even : IsHint 2 low_even (table_of vs)
  pub odd : IsHint 3 low_odd (table_of vs)

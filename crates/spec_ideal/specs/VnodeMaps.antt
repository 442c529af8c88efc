-- The vnodes of a volume: a map from their numbers.
use Rattle.std.specs.Prelude.{ℕ, List, Bool, not, ◌&&◌, Option, Some, None, map, filter, length, is_some, nat_eq, nat_lt, if◌then◌else◌}
use Rattle.std.specs.List.{AllByRecursion}
use Rattle.afs_num.specs.declared.vnodes.Vnode.{Vnode}
use Rattle.spec_ideal.specs.Tables.{Table, get, lowest_free}
use Rattle.spec_ideal.specs.VnodeImage.{FitsImage}

abbrev pub most_vnodes : ℕ
most_vnodes = 4096

-- there is no room for one more vnode, and this number would be one
abbrev pub is_full_for : ℕ → Table Vnode → Bool
is_full_for n t = nat_eq (length t) most_vnodes && not (is_some (get n t))

-- all are within the limits of an image
abbrev pub AllFit : Table Vnode → Type 0
AllFit t = AllByRecursion (λ (p : ℕ × Vnode). FitsImage p.1) t

-- the root is 1: directories beside it have odd numbers from 3 on, files and links even ones from 2 on
abbrev pub first_number : Bool → ℕ
first_number dir = if dir then 3 else 2

-- the lowest number that a new vnode may have
abbrev pub allocated : Bool → Table Vnode → Option ℕ
allocated dir t = if nat_eq (length t) most_vnodes then None else Some (lowest_free (first_number dir) t)

-- the numbers of those that were changed after the volume's counter stood so
unfoldable pub changed_since : ℕ → Table Vnode → List ℕ
changed_since counter t = map (λ (p : ℕ × Vnode). p.0) (filter (λ (p : ℕ × Vnode). nat_lt counter p.1.change_counter) t)

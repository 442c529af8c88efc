-- Whether a volume is sound, as a test: a volume that isn't is no volume that a disk may hold.
use Rattle.std.specs.Prelude.{ℕ, ◌+◌, ◌%◌, List, [], ◌∷◌, Bool, true, false, not, ◌&&◌, ◌||◌, Option, Some, None, nat_eq, nat_lt}
use Rattle.std.specs.List.{list_all}
use Rattle.afs_num.specs.declared.directories.Name.{Name}
use Rattle.spec_ideal.specs.Tables.{Table, get}
use Rattle.spec_ideal.specs.Volumes.{VnodeKind, a_directory, Vnode, Volume}
use Rattle.spec_ideal.specs.Operations.{is_kind, is_below}
use Rattle.spec_ideal.specs.Soundness.{names_of, subdirectories}

abbrev pub ascends_from : {A : Type 0} → ℕ → Table A → Bool
ascends_from {A} n [] = true
ascends_from {A} n (p ∷ ps) = not (nat_lt p.0 n) && ascends_from (p.0 + 1) ps

abbrev pub same_test : Bool → Bool → Bool
same_test true b = b
same_test false b = not b

abbrev pub is_none : {A : Type 0} → List A → Bool
is_none {A} [] = true
is_none {A} (x ∷ xs) = false

-- the directory of this number and unique holds the vnode
abbrev pub is_held_by : ℕ → ℕ → Vnode → Bool
is_held_by d unique x = nat_eq x.parent d && nat_eq x.parent_unique unique

abbrev pub gives_held : ℕ → ℕ → ℕ → Option Vnode → Name → Bool
gives_held d unique n None name = false
gives_held d unique n (Some x) name = not (nat_eq n 1) && (nat_eq x.unique name.unique && is_held_by d unique x)

abbrev pub gives_one : Volume → ℕ → ℕ → Name → Bool
gives_one v d unique name = gives_held d unique name.vnode (get name.vnode v.vnodes) name

-- directories have odd numbers, files and links even ones
abbrev pub kind_is_right : ℕ → VnodeKind → Bool
kind_is_right n kind = same_test (is_kind kind a_directory) (nat_eq (n % 2) 1)

abbrev pub has_names : VnodeKind → ℕ → ℕ → Bool
has_names a_directory links count = nat_eq count 1
has_names kind links count = nat_eq count links && not (nat_eq count 0)

abbrev pub is_named_in : Option Vnode → ℕ → Vnode → Bool
is_named_in None n x = false
is_named_in (Some d) n x =
    is_kind d.kind a_directory && (nat_eq d.unique x.parent_unique && has_names x.kind x.links (names_of n x.unique d.names))

abbrev pub is_placed : Volume → ℕ → Vnode → Bool
is_placed v n x = is_named_in (get x.parent v.vnodes) n x && is_below n 1 v

abbrev pub has_by_kind : VnodeKind → Vnode → Bool
has_by_kind a_directory x = is_none x.contents && nat_eq x.links (2 + subdirectories x.names)
has_by_kind kind x = is_none x.names && (is_none x.acl.positive && is_none x.acl.negative)

abbrev pub is_sound_vnode : Volume → ℕ → Vnode → Bool
is_sound_vnode v n x =
    kind_is_right n x.kind && (nat_lt x.unique v.next && (has_by_kind x.kind x && (list_all (gives_one v n x.unique) x.names && (nat_eq n 1 || is_placed v n x))))

abbrev pub is_root : Option Vnode → Bool
is_root None = false
is_root (Some x) = nat_eq x.unique 1 && (is_kind x.kind a_directory && is_held_by 0 0 x)

-- That names and access lists are those of directories is known of values that were read from images.
unfoldable pub is_sound : Volume → Bool
is_sound v = is_root (get 1 v.vnodes) && (ascends_from 1 v.vnodes && list_all (λ (p : ℕ × Vnode). is_sound_vnode v p.0 p.1) v.vnodes)

-- The names that a change leaves.
use Rattle.std.proofs.Common.{◌≡◌, ℕ, Bool, true, false, List, [], ◌∷◌, Option, Some, None, nat_eq, if◌then◌else◌, refl, sym, ap, ◌∙◌}
use Rattle.afs_num.specs.declared.directories.Name.{Name}
use Rattle.afs_num.specs.declared.vnodes.Vnode as image
use Rattle.afs_num.specs.declared.volumes.Change.{Change}
use Rattle.spec_ideal.specs.Tables.{get}
use Rattle.afs_volume.specs.Given.{names_after, names_given}
use Rattle.afs_volume.specs.Listed.{names_in}
use Rattle.afs_volume.specs.Seen.{seen}
use Rattle.afs_volume.specs.Taking.{is_among}
use Rattle.afs_volume.specs.declared.volume.Volume as volumes
use Rattle.afs_patch.specs.Patching.{image_left, table_left}
use Rattle.afs_patch.proofs.Patches.{left_gets}

-- the names that are told are those of what is left; where none are told, what is there is left
abbrev Follows : Option (List Name) → Option image.Vnode → Option image.Vnode → Type 0
Follows None left there = left ≡ there
Follows (Some names) left there = names ≡ names_in left

follows : (k : ℕ) (xs : List image.Vnode) (told : Option (List Name)) (left there : Option image.Vnode) → Follows told left there → Follows (names_after k xs told) (image_left k xs left) there
follows k [] told left there h = h
follows k (x ∷ xs) told left there h =
    follows k xs (if nat_eq x.vnode k then Some (seen x).names else told) (if nat_eq x.vnode k then Some x else left) there (one_by (nat_eq x.vnode k))
  where
    one_by : (b : Bool) → Follows (if b then Some (seen x).names else told) (if b then Some x else left) there
    one_by true = refl
    one_by false = h

still_there : (gone : Bool) (o : Option image.Vnode) (y : image.Vnode) → (if gone then None else o) ≡ Some y → o ≡ Some y
still_there true o y e = absurd cc
still_there false o y e = e

image_is : (k : ℕ) (v : volumes.Volume) (c : Change) (y : image.Vnode) → get k (table_left v c) ≡ Some y → image_left k c.vnodes (get k v.vnodes.table) ≡ Some y
image_is k v c y there = still_there (is_among k c.removed) (image_left k c.vnodes (get k v.vnodes.table)) y (sym (left_gets k v c) ∙ there)

same_names : (names others : List Name) → ◌≡◌ {A = Option (List Name)} (Some names) (Some others) → others ≡ names
same_names names others e = cc

told_by : (told : Option (List Name)) (left there : Option image.Vnode) (names : List Name) → told ≡ Some names → Follows told left there → names ≡ names_in left
told_by None left there names e h = absurd cc
told_by (Some given) left there names e h = same_names given names e ∙ h

untold_by : (told : Option (List Name)) (left there : Option image.Vnode) → told ≡ None → Follows told left there → left ≡ there
untold_by None left there e h = h
untold_by (Some ns) left there e h = absurd cc

-- the names that the change gives are those of the vnode that it leaves
pub names_left : (k : ℕ) (v : volumes.Volume) (c : Change) (y : image.Vnode) (names : List Name) → get k (table_left v c) ≡ Some y → names_given k c.vnodes ≡ Some names → names ≡ (seen y).names
names_left k v c y names there given =
    told_by (names_given k c.vnodes) (image_left k c.vnodes (get k v.vnodes.table)) (get k v.vnodes.table) names given (follows k c.vnodes None (get k v.vnodes.table) (get k v.vnodes.table) refl)
    ∙ ap names_in (image_is k v c y there)

-- where it gives none, the vnode has those that it has
pub names_stay : (k : ℕ) (v : volumes.Volume) (c : Change) (y : image.Vnode) → get k (table_left v c) ≡ Some y → names_given k c.vnodes ≡ None → names_in (get k v.vnodes.table) ≡ (seen y).names
names_stay k v c y there given =
    ap names_in
    (sym (untold_by (names_given k c.vnodes) (image_left k c.vnodes (get k v.vnodes.table)) (get k v.vnodes.table) given (follows k c.vnodes None (get k v.vnodes.table) (get k v.vnodes.table) refl))
    ∙ image_is k v c y there)

-- The names that a change gives.
use Rattle.std.specs.Prelude.{ℕ, List, [], ◌∷◌, Option, Some, None, nat_eq, if◌then◌else◌}
use Rattle.afs_num.specs.declared.directories.Name.{Name}
use Rattle.afs_num.specs.declared.vnodes.Vnode as image
use Rattle.afs_volume.specs.Seen.{seen}

-- the names of the last of these images that has the number, or what is told before them
abbrev pub names_after : ℕ → List image.Vnode → Option (List Name) → Option (List Name)
names_after n [] told = told
names_after n (x ∷ xs) told = names_after n xs (if nat_eq x.vnode n then Some (seen x).names else told)

-- the names of the vnode of a number among these images, where one has it
abbrev pub names_given : ℕ → List image.Vnode → Option (List Name)
names_given n xs = names_after n xs None

-- what is no directory has no names
abbrev pub names_or_none : Option (List Name) → List Name
names_or_none None = []
names_or_none (Some names) = names

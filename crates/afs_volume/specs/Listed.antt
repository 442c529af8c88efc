-- The names of a volume's directories, by the numbers of their vnodes.
use Rattle.std.specs.Prelude.{◌≡◌, ℕ, List, [], Option, Some, None}
use Rattle.afs_num.specs.declared.directories.Name.{Name}
use Rattle.afs_num.specs.declared.vnodes.Vnode as image
use Rattle.spec_ideal.specs.Tables.{Table, get}
use Rattle.spec_ideal.specs.Volumes.{VnodeKind, a_directory, Vnode}
use Rattle.afs_volume.specs.Seen.{seen}

-- a directory alone is listed
abbrev pub listed_by : VnodeKind → List Name → Option (List Name)
listed_by a_directory names = Some names
listed_by kind names = None

abbrev pub listed_at : Option Vnode → Option (List Name)
listed_at None = None
listed_at (Some x) = listed_by x.kind x.names

abbrev pub listed_as : image.Vnode → Option (List Name)
listed_as x = listed_at (Some (seen x))

-- each directory of these vnodes is listed by its number, and nothing else
abbrev pub Lists : (ℕ → Option (List Name)) → Table Vnode → Type 0
Lists names t = (n : ℕ) → names n ≡ listed_at (get n t)

-- the names of a vnode, where there is one
abbrev pub names_in : Option image.Vnode → List Name
names_in None = []
names_in (Some x) = (seen x).names

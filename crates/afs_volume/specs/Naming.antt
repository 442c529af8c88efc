-- How often each vnode is named in each directory of a volume.
use Rattle.std.specs.Prelude.{◌≡◌, ℕ, Bool, ◌&&◌, List, Option, Some, None, nat_eq, if◌then◌else◌}
use Rattle.afs_num.specs.declared.directories.Name.{Name}
use Rattle.afs_num.specs.declared.vnodes.Vnode as image
use Rattle.spec_ideal.specs.Soundness.{names_of}
use Rattle.spec_ideal.specs.Tables.{Table, get}
use Rattle.afs_volume.specs.Listed.{names_in}
use Rattle.afs_volume.specs.declared.naming.Naming.{Naming}

-- the same vnode in the same directory
abbrev pub same_naming : Naming → Naming → Bool
same_naming n m = nat_eq n.directory m.directory && (nat_eq n.vnode m.vnode && nat_eq n.unique m.unique)

-- what was counted; what isn't there was never seen
abbrev pub times : Option ℕ → ℕ
times None = 0
times (Some count) = count

-- how many of a directory's names are the vnode's, where it is this directory
abbrev pub names_for : Naming → ℕ → List Name → ℕ
names_for n directory names = if nat_eq directory n.directory then names_of n.vnode n.unique names else 0

-- so many names of each vnode each directory has
abbrev pub CountsNames : (Naming → Option ℕ) → Table image.Vnode → Type 0
CountsNames counts t = (n : Naming) → times (counts n) ≡ names_of n.vnode n.unique (names_in (get n.directory t))

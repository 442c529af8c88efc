-- Sound volumes: what set-up and operations leave, and what clones and restores are to leave.
use Rattle.std.specs.Prelude.{◌≡◌, ◌≤◌, ◌<◌, ◌↔◌, ◌%◌, ◌+◌, ℕ, List, [], Bool, true, ◌&&◌, filter, length, nat_eq, Option, Some, None}
use Rattle.std.specs.List.{All}
use Rattle.afs_num.specs.declared.directories.Name.{Name}
use Rattle.spec_ideal.specs.Tables.{get, AscendsFrom}
use Rattle.spec_ideal.specs.AccessLists.{IsAccessList, no_acl}
use Rattle.spec_ideal.specs.Directories.{IsDirectory}
use Rattle.spec_ideal.specs.Volumes.{VnodeKind, a_directory, Vnode, Volume}
use Rattle.spec_ideal.specs.Operations.{is_kind, is_below}

-- ---- names and what they name

abbrev pub names_it : ℕ → ℕ → Name → Bool
names_it n unique name = nat_eq name.vnode n && nat_eq name.unique unique

-- how many of these names are the vnode's
abbrev pub names_of : ℕ → ℕ → List Name → ℕ
names_of n unique names = length (filter (names_it n unique) names)

-- the numbers of directories are odd
abbrev pub names_directory : Name → Bool
names_directory name = nat_eq (name.vnode % 2) 1

-- how many of these names are those of directories; a directory has just one name
abbrev pub subdirectories : List Name → ℕ
subdirectories names = length (filter names_directory names)

-- the directory of this number and unique holds the vnode
abbrev pub IsHeldBy : ℕ → ℕ → Vnode → Type 0
IsHeldBy d unique x = (x.parent ≡ d) × (x.parent_unique ≡ unique)

-- a name gives a vnode that this directory holds, never the root
abbrev pub GivesHeld : ℕ → ℕ → ℕ → Option Vnode → Name → Type 0
GivesHeld d unique n None name = ⊥
GivesHeld d unique n (Some x) name = (n ≡ 1 → ⊥) × ((x.unique ≡ name.unique) × IsHeldBy d unique x)

abbrev pub GivesOne : Volume → ℕ → ℕ → Name → Type 0
GivesOne v d unique name = GivesHeld d unique name.vnode (get name.vnode v.vnodes) name

-- ---- one vnode

-- directories have odd numbers, files and links even ones
abbrev pub KindFits : ℕ → VnodeKind → Type 0
KindFits n kind = (is_kind kind a_directory ≡ true) ↔ (n % 2 ≡ 1)

-- how many names a vnode has in its directory: a directory one, a file or link as many as its links, at least one
abbrev pub HasNames : VnodeKind → ℕ → ℕ → Type 0
HasNames a_directory links count = count ≡ 1
HasNames kind links count = (count ≡ links) × (1 ≤ count)

abbrev pub IsNamedIn : Option Vnode → ℕ → Vnode → Type 0
IsNamedIn None n x = ⊥
IsNamedIn (Some d) n x = (d.kind ≡ a_directory) × ((d.unique ≡ x.parent_unique) × HasNames x.kind x.links (names_of n x.unique d.names))

-- Every vnode but the root is named in its parent, and so in no other directory; and its parents lead to the root.
pub record IsPlaced (v : Volume) (n : ℕ) (x : Vnode) : Type 0 where
  pub named : IsNamedIn (get x.parent v.vnodes) n x
  pub reaches : is_below n 1 v ≡ true

-- a directory has the names of one, an access list, and as many links as there are directories in it, and two
pub record HasNamesOf (x : Vnode) : Type 0 where
  pub names : IsDirectory x.names
  pub acl : IsAccessList x.acl
  pub contents : x.contents ≡ []
  pub links : x.links ≡ 2 + subdirectories x.names

-- a file or link has contents alone
pub record HasContents (x : Vnode) : Type 0 where
  pub names : x.names ≡ []
  pub acl : x.acl ≡ no_acl

-- what a vnode has is by its kind
abbrev pub HasByKind : VnodeKind → Vnode → Type 0
HasByKind a_directory x = HasNamesOf x
HasByKind kind x = HasContents x

pub record IsSoundVnode (v : Volume) (n : ℕ) (x : Vnode) : Type 0 where
  pub kind : KindFits n x.kind
  pub unique : x.unique < v.next
  pub body : HasByKind x.kind x
  pub given : All (GivesOne v n x.unique) x.names
  pub placed : (n ≡ 1 → ⊥) → IsPlaced v n x

-- ---- the volume

abbrev pub IsRoot : Option Vnode → Type 0
IsRoot None = ⊥
IsRoot (Some x) = (x.unique ≡ 1) × ((x.kind ≡ a_directory) × IsHeldBy 0 0 x)

-- its vnodes stand by their numbers, none under 0
pub record IsSound (v : Volume) : Type 0 where
  pub root : IsRoot (get 1 v.vnodes)
  pub ascending : AscendsFrom 1 v.vnodes
  pub vnodes : (n : ℕ) (x : Vnode) → get n v.vnodes ≡ Some x → IsSoundVnode v n x

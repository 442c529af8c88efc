-- A change of a sound volume that leaves it sound, as a test of the vnodes that it touches. All others stay as they are.
use Rattle.std.specs.Prelude.{◌≡◌, ◌≤◌, ℕ, ◌+◌, List, [], ◌∷◌, length, Bool, true, false, not, ◌&&◌, ◌||◌, Option, Some, None, filter, nat_eq, nat_lt, if◌then◌else◌}
use Rattle.std.specs.List.{flat_map, list_all}
use Rattle.std.specs.Str.{bytes_eq}
use Rattle.afs_num.specs.declared.directories.Name.{Name}
use Rattle.afs_num.specs.declared.vnodes.Vnode as image
use Rattle.afs_num.specs.declared.volumes.Change.{Change}
use Rattle.spec_ideal.specs.Operations.{is_kind, leads_up}
use Rattle.spec_ideal.specs.Tables.{Table, get}
use Rattle.spec_ideal.specs.VnodeMaps.{most_vnodes}
use Rattle.spec_ideal.specs.Volumes.{a_directory, Vnode, Volume}
use Rattle.spec_records.specs.Sound.{gives_one, has_by_kind, has_names, is_named_in, is_root, kind_is_right}
use Rattle.afs_volume.specs.Seen.{volume_seen}
use Rattle.afs_volume.specs.Taking.{is_among, put_but, without_all}
use Rattle.afs_volume.specs.declared.volume.Volume as volumes
use Rattle.afs_patch.specs.Changing.{is_in}

-- ---- what a change leaves

-- the last of these images that has the number, or what is there
abbrev pub image_left : ℕ → List image.Vnode → Option image.Vnode → Option image.Vnode
image_left n [] o = o
image_left n (x ∷ xs) o = image_left n xs (if nat_eq x.vnode n then Some x else o)

abbrev pub table_left : volumes.Volume → Change → Table image.Vnode
table_left v c = put_but c.removed c.vnodes (without_all c.removed v.vnodes.table)

abbrev pub before : volumes.Volume → Volume
before v = volume_seen v.head v.vnodes.table

abbrev pub after : volumes.Volume → Change → Volume
after v c = volume_seen (record v.head { counter = c.counter; unique = c.unique }) (table_left v c)

-- how many of these images are new
abbrev pub new_among : Table image.Vnode → List image.Vnode → ℕ
new_among t xs = length (filter (λ (x : image.Vnode). not (is_in t x.vnode)) xs)

-- ---- the test of one vnode

-- all that a vnode of a sound volume is, but for the way up
abbrev pub is_right : Volume → ℕ → Vnode → Bool
is_right v n x =
    kind_is_right n x.kind && (nat_lt x.unique v.next && (has_by_kind x.kind x && (list_all (gives_one v n x.unique) x.names && (nat_eq n 1 || is_named_in (get x.parent v.vnodes) n x))))

-- what is named by names of vnodes that aren't touched: number and unique number of each
abbrev pub other_named : List ℕ → Name → List ℕ
other_named touched name = if is_among name.vnode touched then [] else name.vnode ∷ name.unique ∷ []

abbrev pub others_named : List ℕ → List Name → List ℕ
others_named touched names = flat_map (other_named touched) names

abbrev pub same_others : List ℕ → List Name → List Name → Bool
same_others touched xs ys = bytes_eq (others_named touched xs) (others_named touched ys)

-- the first of these names, where there is one, names what isn't touched
abbrev pub BeginsWithOther : List ℕ → List Name → Type 0
BeginsWithOther touched [] = Unit {0}
BeginsWithOther touched (x ∷ xs) = is_among x.vnode touched ≡ false

-- what follows the first of others, where that names the same vnode
abbrev pub behind_same : Name → List Name → Option (List Name)
behind_same x [] = None
behind_same x (y ∷ ys) = if nat_eq x.vnode y.vnode && nat_eq x.unique y.unique then Some ys else None

-- a name of what is touched gives a vnode that the directory holds
abbrev pub gives_touched : List ℕ → Volume → ℕ → ℕ → Name → Bool
gives_touched touched w d unique name = not (is_among name.vnode touched) || gives_one w d unique name

-- a vnode stays where it is, as far as a directory that isn't touched can tell
abbrev pub keeps_place : List ℕ → Vnode → Vnode → Bool
keeps_place touched x y = nat_eq x.unique y.unique && (is_among x.parent touched || (nat_eq x.parent y.parent && nat_eq x.parent_unique y.parent_unique))

abbrev pub same_parent : Option Vnode → Option Vnode → Bool
same_parent None o = false
same_parent (Some x) None = false
same_parent (Some x) (Some y) = nat_eq x.parent y.parent

-- the vnode of this number was there before, and in the same directory
abbrev pub is_unmoved : Volume → Volume → ℕ → Bool
is_unmoved v w n = same_parent (get n v.vnodes) (get n w.vnodes)

-- the vnode's parents lead to the root, in at most as many steps as a volume can have vnodes
unfoldable pub reaches : Volume → ℕ → Bool
reaches w n = leads_up most_vnodes n 1 w (get n w.vnodes)

-- a directory that moves still leads up to the root; a file moves below a directory that doesn't move
abbrev pub may_stand : Volume → Volume → ℕ → Vnode → Vnode → Bool
may_stand v w n x y = nat_eq x.parent y.parent || (if is_kind x.kind a_directory then reaches w n else is_unmoved v w y.parent)

-- in a directory that isn't touched the vnode has its names as before
pub record KeepsNames (x y : Vnode) : Type 0 where
  pub unique : x.unique ≡ y.unique
  pub counted : (count : ℕ) → has_names y.kind y.links count ≡ has_names x.kind x.links count
  pub parent : x.parent ≡ y.parent
  pub parent_unique : x.parent_unique ≡ y.parent_unique

abbrev pub StaysNamed : List ℕ → Option Vnode → Vnode → Type 0
StaysNamed touched None y = ⊥
StaysNamed touched (Some x) y = (is_among y.parent touched ≡ false) × KeepsNames x y

-- what is there, and keeps its names but for what is touched
abbrev pub KeepsOthers : List ℕ → Option Vnode → Vnode → Type 0
KeepsOthers touched None y = Unit {0}
KeepsOthers touched (Some x) y = (x.unique ≡ y.unique) × (same_others touched x.names y.names ≡ true)

-- one that goes, comes or stays
abbrev pub passes_by : List ℕ → Volume → Volume → ℕ → Option Vnode → Option Vnode → Bool
passes_by touched v w n None None = true
passes_by touched v w n (Some x) None = is_among x.parent touched && same_others touched x.names []
passes_by touched v w n None (Some y) = is_right w n y && is_unmoved v w y.parent
passes_by touched v w n (Some x) (Some y) =
    is_right w n y && (keeps_place touched x y && (same_others touched x.names y.names && may_stand v w n x y))

abbrev pub passes : List ℕ → Volume → Volume → ℕ → Bool
passes touched v w n = passes_by touched v w n (get n v.vnodes) (get n w.vnodes)

-- ---- the test of a change

-- the change touches no others
pub record AreTouched (touched : List ℕ) (c : Change) : Type 0 where
  pub removed : list_all (λ (n : ℕ). is_among n touched) c.removed ≡ true
  pub changed : list_all (λ (x : image.Vnode). is_among x.vnode touched) c.vnodes ≡ true

pub record IsPatch (touched : List ℕ) (v : volumes.Volume) (c : Change) : Type 0 where
  pub there : list_all (is_in v.vnodes.table) c.removed ≡ true
  pub next : v.head.unique ≤ c.unique
  pub few : length v.vnodes.table + new_among v.vnodes.table c.vnodes ≤ most_vnodes
  pub root : is_root (get 1 (after v c).vnodes) ≡ true
  pub above : get 0 (table_left v c) ≡ None
  pub within : AreTouched touched c
  pub passed : list_all (passes touched (before v) (after v c)) touched ≡ true

-- The vnodes that a dump and a volume give together, pair by pair of the list.
use Rattle.std.specs.Prelude.{◌≡◌, ◌≤◌, length, ℕ, List, [], ◌∷◌, Bool, true, false, Option, Some, None, nat_eq, if◌then◌else◌}
use Rattle.std.specs.Option.{option_map}
use Rattle.spec_ideal.specs.Images.{Image}
use Rattle.spec_ideal.specs.Tables.{Table, get, AscendsFrom}
use Rattle.spec_ideal.specs.VnodeImage.{kind_fits, FitsImage}
use Rattle.spec_ideal.specs.VnodeMaps.{most_vnodes}
use Rattle.spec_dumps.specs.Streams.{are_good_contents, is_good_acl}
use Rattle.afs_volume.specs.Seen.{IsReadable}

-- ---- what the dump gives

-- the image of the vnode of a pair, where it is the next one, and the images after it
abbrev pub next_given : ℕ × ℕ → List Image → Option Image × List Image
next_given p [] = (None, [])
next_given p (i ∷ is) = if nat_eq i.vnode p.0 then (Some i, is) else (None, i ∷ is)

-- the image of each vnode of the list, where there is one
abbrev pub given_in : List (ℕ × ℕ) → List Image → List (Option Image)
given_in [] is = []
given_in (p ∷ ps) is = (next_given p is).0 ∷ given_in ps (next_given p is).1

-- An image has the number of its pair and a kind that fits, and its access list and contents are good.
pub record ImageIsGood (p : ℕ × ℕ) (i : Image) : Type 0 where
  pub number : i.vnode ≡ p.0
  pub kind : kind_fits i.vnode i.kind ≡ true
  pub acl : is_good_acl i.kind i.acl ≡ true
  pub contents : are_good_contents i.kind i.contents ≡ true
  pub fits : FitsImage i

abbrev pub IsGoodWhere : ℕ × ℕ → Option Image → Type 0
IsGoodWhere p None = Unit {0}
IsGoodWhere p (Some i) = ImageIsGood p i

-- one for each pair of a list, or none
abbrev pub ImagesAreGood : List (ℕ × ℕ) → List (Option Image) → Type 0
ImagesAreGood [] [] = Unit {0}
ImagesAreGood [] (o ∷ os) = ⊥
ImagesAreGood (p ∷ ps) [] = ⊥
ImagesAreGood (p ∷ ps) (o ∷ os) = IsGoodWhere p o × ImagesAreGood ps os

-- ---- what the volume gives besides

-- what stands under a number, if it has this unique number
abbrev pub with_unique : ℕ → Option Image → Option Image
with_unique unique None = None
with_unique unique (Some x) = if nat_eq x.unique unique then Some x else None

-- under the number by which it was found
abbrev pub numbered_as : ℕ → Image → Image
numbered_as n x = record x { vnode = n }

abbrev pub kept : Table Image → ℕ × ℕ → Option Image
kept old p = option_map (numbered_as p.0) (with_unique p.1 (get p.0 old))

abbrev pub or_kept : Option Image → Option Image → Option Image
or_kept None o = o
or_kept (Some i) o = Some i

-- the index begins anew, or stays
abbrev pub image_indexed : Bool → Image → Image
image_indexed true x = record x { index = 1 }
image_indexed false x = x

abbrev pub with_first : Option Image → Option (List Image) → Option (List Image)
with_first (Some x) (Some xs) = Some (x ∷ xs)
with_first x xs = None

-- all vnodes; none where one of them is given nowhere
abbrev pub filled : Bool → Table Image → List (ℕ × ℕ) → List (Option Image) → Option (List Image)
filled anew old [] os = Some []
filled anew old (p ∷ ps) [] = None
filled anew old (p ∷ ps) (o ∷ os) = with_first (option_map (image_indexed anew) (or_kept o (kept old p))) (filled anew old ps os)

-- ---- what is known of each of them

-- it has the number of the pair, is within the limits of an image, and can be read
pub record IsMade (p : ℕ × ℕ) (x : Image) : Type 0 where
  pub number : x.vnode ≡ p.0
  pub fits : FitsImage x
  pub readable : IsReadable x

abbrev pub IsGiven : ℕ × ℕ → Option Image → Type 0
IsGiven p None = Unit {0}
IsGiven p (Some x) = IsMade p x

-- one for each pair of a list
abbrev pub AreMade : List (ℕ × ℕ) → List Image → Type 0
AreMade [] [] = Unit {0}
AreMade [] (x ∷ xs) = ⊥
AreMade (p ∷ ps) [] = ⊥
AreMade (p ∷ ps) (x ∷ xs) = IsMade p x × AreMade ps xs

-- the pairs of a volume: by ascending numbers, not too many
pub record IsList (ps : List (ℕ × ℕ)) : Type 0 where
  pub ascends : AscendsFrom 0 ps
  pub few : length ps ≤ most_vnodes

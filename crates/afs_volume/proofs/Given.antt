-- The names that a change gives, place by place.
use Rattle.std.proofs.Common.{◌≡◌, ℕ, ◌+◌, ◌<◌, Bool, true, false, List, ◌∷◌, drop, length, map, get_or, Option, Some, nat_eq, if◌then◌else◌, refl, sym, ap, ◌∙◌, eq-eqb, eqb-true}
use Rattle.std.proofs.lemmas.List.{drop_more, get_or-map}
use Rattle.afs_num.specs.declared.directories.Name.{Name}
use Rattle.afs_num.specs.declared.vnodes.Vnode as image
use Rattle.spec_ideal.specs.Volumes.{VnodeKind, a_directory, a_file, a_link}
use Rattle.afs_volume.specs.Given.{names_after, names_or_none}
use Rattle.afs_volume.specs.Listed.{listed_as, listed_by}
use Rattle.afs_volume.specs.Seen.{kind_seen, names_seen, seen}

ready_by : (k : VnodeKind) (x : image.Vnode) → names_or_none (listed_by k (names_seen k x.contents)) ≡ names_seen k x.contents
ready_by a_directory x = refl
ready_by a_file x = refl
ready_by a_link x = refl

-- the names of a vnode are those that are ready
pub names_ready : (x : image.Vnode) → names_or_none (listed_as x) ≡ (seen x).names
unfolding seen
names_ready x = ready_by (kind_seen x.kind) x

-- one image on
one_on : (n i : ℕ) (xs : List image.Vnode) (x : image.Vnode) (told next all : Option (List Name)) → i < length xs → x ≡ get_or xs i x → next ≡ (if nat_eq x.vnode n then Some (seen x).names else told)
    → names_after n (drop i xs) told ≡ all → names_after n (drop (i + 1) xs) next ≡ all
one_on n i xs x told next all within is e before =
    let first : drop i xs ≡ x ∷ drop (i + 1) xs = drop_more xs i x within ∙ ap (λ (y : image.Vnode). y ∷ drop (i + 1) xs) (sym is) in
    ap (names_after n (drop (i + 1) xs)) e ∙ (sym (ap (λ (ys : List image.Vnode). names_after n ys told) first) ∙ before)

-- an image with the number: its names are told
pub told_here : (n i : ℕ) (xs : List image.Vnode) (x : image.Vnode) (told next all : Option (List Name)) (ready : List (Option (List Name))) (d : Option (List Name)) (names : List Name) → i < length xs → x ≡ get_or xs i x
    → x.vnode ≡ n → ready ≡ map listed_as xs → d ≡ get_or ready i d → names ≡ names_or_none d → next ≡ Some names → names_after n (drop i xs) told ≡ all → names_after n (drop (i + 1) xs) next ≡ all
told_here n i xs x told next all ready d names within is here are at told_are e before =
    let listed : d ≡ listed_as x = at ∙ (ap (λ (rs : List (Option (List Name))). get_or rs i d) are ∙ (get_or-map listed_as xs i x d within ∙ ap listed_as (sym is))) in
    let names_are : names ≡ (seen x).names = told_are ∙ (ap names_or_none listed ∙ names_ready x) in
    one_on n i xs x told next all within is (e ∙ (ap (λ (ns : List Name). Some ns) names_are ∙ rw (eq-eqb x.vnode n here) refl)) before

-- an image of another number
pub told_before : (n i : ℕ) (xs : List image.Vnode) (x : image.Vnode) (told next all : Option (List Name)) → i < length xs → x ≡ get_or xs i x → (x.vnode ≡ n → ⊥) → next ≡ told → names_after n (drop i xs) told ≡ all
    → names_after n (drop (i + 1) xs) next ≡ all
told_before n i xs x told next all within is other e before = one_on n i xs x told next all within is (e ∙ one_by (nat_eq x.vnode n) refl) before
  where
    one_by : (b : Bool) → nat_eq x.vnode n ≡ b → told ≡ (if b then Some (seen x).names else told)
    one_by true same = absurd (other (eqb-true x.vnode n same))
    one_by false same = refl

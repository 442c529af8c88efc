-- What stands where a name stands or would stand among a directory's.
use Rattle.std.proofs.Common.{◌≡◌, ◌≤◌, ◌<◌, ℕ, zero, suc, Bool, true, false, cond, List, [], ◌∷◌, length, get_or, Some, None, refl, sym, ap, subst, ◌∙◌, arith, slice_get}
use Rattle.std.specs.List.{insert, remove}
use Rattle.std.specs.List.Sorted.{IsPartitionedBy, IsPartitionPoint}
use Rattle.afs_num.specs.declared.directories.Name.{Name}
use Rattle.afs_num.specs.Names.{name_ok}
use Rattle.std.proofs.lemmas.Bool.{lt-ltb}
use Rattle.spec_ideal.specs.Directories.{most_names, bytes_below, follow, IsDirectory, named, with_name, without_name, add_refused}
use Rattle.spec_ideal.proofs.Directories.{added_is_directory, removed_is_directory, below_trans, below_differs, first_above, rest_follow, named_above, without_above}
use Rattle.afs_dir.specs.Places.{place_of, is_at, IsFound, IsGap}

-- ---- the place, among names in byte order

within_by : (b : Bool) (k n : ℕ) → k ≤ n → cond b (suc k) 0 ≤ suc n
within_by true k n le = omega arith
within_by false k n le = omega arith

place_within : (name : List ℕ) (names : List Name) → place_of name names ≤ length names
place_within name [] = omega arith
place_within name (n ∷ ns) = within_by (bytes_below n.name name) (place_of name ns) (length ns) (place_within name ns)

-- a new name goes there
inserted_by : (n m : Name) (ms : List Name) (k : ℕ) (b : Bool) → insert ms k n ≡ with_name n ms → insert (m ∷ ms) (cond b (suc k) 0) n ≡ cond b (m ∷ with_name n ms) (n ∷ m ∷ ms)
inserted_by n m ms k true e = ap (λ (t : List Name). m ∷ t) e
inserted_by n m ms k false e = refl

inserted : (n : Name) (names : List Name) → insert names (place_of n.name names) n ≡ with_name n names
inserted n [] = refl
inserted n (m ∷ ms) = inserted_by n m ms (place_of n.name ms) (bytes_below m.name n.name) (inserted n ms)

-- the name isn't there where another stands, or none
absent_by : (name : List ℕ) (n : Name) (ns : List Name) (k : ℕ) (b : Bool) → bytes_below n.name name ≡ b → (is_at name (slice_get ns k) ≡ false → named name ns ≡ None) → (b ≡ false → named name ns ≡ None)
    → is_at name (slice_get (n ∷ ns) (cond b (suc k) 0)) ≡ false → named name (n ∷ ns) ≡ None
absent_by name n ns k true below more none other = rw (below_differs n.name name below) (more other)
absent_by name n ns k false below more none other = rw other (none refl)

absent : (name last : List ℕ) (names : List Name) → follow last names ≡ true → is_at name (slice_get names (place_of name names)) ≡ false → named name names ≡ None
absent name last [] h other = refl
absent name last (n ∷ ns) h other =
    absent_by name n ns (place_of name ns) (bytes_below n.name name) refl (absent name n.name ns (rest_follow last n ns h)) (λ not_below. named_above name n.name ns not_below (rest_follow last n ns h)) other

-- the name that stands there is found, and goes
present_by : (name : List ℕ) (n : Name) (ns : List Name) (k : ℕ) (b : Bool) → bytes_below n.name name ≡ b → (is_at name (slice_get ns k) ≡ true → IsFound name ns k) → (b ≡ false → without_name name ns ≡ ns)
    → is_at name (slice_get (n ∷ ns) (cond b (suc k) 0)) ≡ true → IsFound name (n ∷ ns) (cond b (suc k) 0)
present_by name n ns k true below more same here =
    let found = more here in
    let other = below_differs n.name name below in
    record { within = omega (arith, found.within); is = rw other found.is; removed = rw other (ap (λ (t : List Name). n ∷ t) found.removed) }
present_by name n ns k false below more same here = record { within = omega arith; is = rw here refl; removed = rw here (sym (same refl)) }

present : (name last : List ℕ) (names : List Name) → follow last names ≡ true → is_at name (slice_get names (place_of name names)) ≡ true → IsFound name names (place_of name names)
present name last [] h here = absurd cc
present name last (n ∷ ns) h here =
    present_by name n ns (place_of name ns) (bytes_below n.name name) refl (present name n.name ns (rest_follow last n ns h)) (λ not_below. without_above name n.name ns not_below (rest_follow last n ns h)) here

pub is_found : (name : List ℕ) (names : List Name) → IsDirectory names → (i : ℕ) → i ≡ place_of name names → is_at name (slice_get names i) ≡ true → IsFound name names i
is_found name names h i place here =
    subst (λ (k : ℕ). IsFound name names k) (sym place) (present name [] names h.ordered (subst (λ (k : ℕ). is_at name (slice_get names k) ≡ true) place here))

pub is_gap : (name : List ℕ) (names : List Name) → IsDirectory names → (i : ℕ) → i ≡ place_of name names → is_at name (slice_get names i) ≡ false → IsGap name names i
is_gap name names h i place other = record {
  within = subst (λ (k : ℕ). k ≤ length names) (sym place) (place_within name names);
  none = absent name [] names h.ordered (subst (λ (k : ℕ). is_at name (slice_get names k) ≡ false) place other);
  added = λ n e. ap (λ (k : ℕ). insert names k n) place ∙ (ap (λ (t : List ℕ). insert names (place_of t names) n) (sym e) ∙ inserted n names);
}

-- ---- how the place is found

above_all : (last : List ℕ) (names : List Name) → follow last names ≡ true → (i : ℕ) (d : Name) → i < length names → bytes_below last (get_or names i d).name ≡ true
above_all last [] h i d lt = absurd (omega arith)
above_all last (n ∷ ns) h zero d lt = first_above last n ns h
above_all last (n ∷ ns) h (suc i) d lt = below_trans last n.name (get_or ns i d).name (first_above last n ns h) (above_all n.name ns (rest_follow last n ns h) i d (omega arith))

-- no name that is below this one stands behind one that isn't
pub parted : (name last : List ℕ) (names : List Name) → follow last names ≡ true → IsPartitionedBy (λ n. bytes_below n.name name) names
parted name last [] h i j d le lt below = absurd (omega arith)
parted name last (n ∷ ns) h zero zero d le lt below = below
parted name last (n ∷ ns) h zero (suc j) d le lt below = below_trans n.name (get_or ns j d).name name (above_all n.name ns (rest_follow last n ns h) j d (omega arith)) below
parted name last (n ∷ ns) h (suc i) zero d le lt below = absurd (omega arith)
parted name last (n ∷ ns) h (suc i) (suc j) d le lt below = parted name n.name ns (rest_follow last n ns h) i j d (omega arith) (omega arith) below

pub place_is : (name : List ℕ) (names : List Name) (i : ℕ) → i ≤ length names → IsPartitionPoint (λ n. bytes_below n.name name ≡ true) (λ n. bytes_below n.name name ≡ false) names i → i ≡ place_of name names
place_is name [] i le point = omega arith
place_is name (n ∷ ns) zero le point = rw (point.1 0 n (omega arith) (omega arith)) refl
place_is name (n ∷ ns) (suc i) le point =
    rw (point.0 0 n (omega arith) (omega arith)) (ap suc (place_is name ns i (omega arith) (λ k d low high. point.0 (suc k) d (omega arith) (omega arith), λ k d low high. point.1 (suc k) d (omega arith) (omega arith))))

-- ---- what a search finds, added or removed

item_at : (names : List Name) (i : ℕ) (n : Name) → i < length names → n ≡ get_or names i n → slice_get names i ≡ Some n
item_at [] i n lt e = absurd (omega arith)
item_at (m ∷ ms) zero n lt e = ap (λ (x : Name). Some x) (sym e)
item_at (m ∷ ms) (suc i) n lt e = item_at ms i n (omega arith) e

pub found_is : (name : List ℕ) (names : List Name) (i : ℕ) (n : Name) → IsFound name names i → n ≡ get_or names i n → named name names ≡ Some n
found_is name names i n found e = found.is ∙ item_at names i n found.within e

pub found_goes : (name : List ℕ) (names : List Name) (i : ℕ) → IsDirectory names → IsFound name names i → IsDirectory (remove names i)
found_goes name names i h found = subst (λ (ns : List Name). IsDirectory ns) (sym found.removed) (removed_is_directory name names h)

pub gap_fills : (name : List ℕ) (n : Name) (names : List Name) (i : ℕ) → n.name ≡ name → IsDirectory names → IsGap name names i → name_ok name ≡ true → length names < most_names → IsDirectory (insert names i n)
gap_fills name n names i is h gap good room =
    subst (λ (ns : List Name). IsDirectory ns) (sym (gap.added n is)) (added_is_directory n names h (ap (λ (t : List ℕ). add_refused t names) is ∙ rw (good, gap.none, lt-ltb _ _ room) refl))

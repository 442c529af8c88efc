-- Reading one name after the other, as a loop does.
use Rattle.std.proofs.Common.{◌≡◌, ℕ, zero, suc, ◌-◌, ◌+◌, ◌≤◌, ◌<◌, true, List, [], ◌∷◌, ◌++◌, length, Some, Result, Ok, Err, refl, sym, ap, ◌∙◌, append_assoc, arith, slice_get}
use Rattle.std.specs.Cmp.{first_so, second_so}
use Rattle.std.proofs.lemmas.List.{append-nil}
use Rattle.afs_num.specs.declared.directories.Name.{Name}
use Rattle.spec_shape.specs.Reading.{◌>>=◌}
use Rattle.spec_shape.proofs.Loops.{with_front}
use Rattle.spec_ideal.specs.Directories.{may_follow, follow, name_at, names_at}
use Rattle.afs_xdr.specs.Reading.{Reading}
use Rattle.afs_dir.specs.declared.reading.Stop.{Stop}
use Rattle.afs_dir.specs.declared.reading.Stop.TheVariants as causes
use Rattle.afs_dir.specs.Reads.{ReadsGood, last_name}

some_is : (m n : Name) → Some m ≡ Some n → m ≡ n
some_is m n e = cc

-- ---- the last name

pub last_is : (name : List ℕ) (names : List Name) (i : ℕ) (n : Name) → i + 1 ≡ length names → slice_get names i ≡ Some n → n.name ≡ last_name name names
last_is name [] i n at e = absurd cc
last_is name (m ∷ []) zero n at e = ap (λ (x : Name). x.name) (sym (some_is m n e))
last_is name (m ∷ []) (suc i) n at e = absurd (omega arith)
last_is name (m ∷ k ∷ ns) zero n at e = absurd (omega arith)
last_is name (m ∷ k ∷ ns) (suc i) n at e = last_is m.name (k ∷ ns) i n (omega arith) e

pub last_pushed : (name : List ℕ) (names : List Name) (n : Name) → last_name name (names ++ n ∷ []) ≡ n.name
last_pushed name [] n = refl
last_pushed name (m ∷ ms) n = last_pushed m.name ms n

pub follow_pushed : (name : List ℕ) (names : List Name) (n : Name) → follow name names ≡ true → may_follow (last_name name names) n.name ≡ true → follow name (names ++ n ∷ []) ≡ true
follow_pushed name [] n h may = rw may refl
follow_pushed name (m ∷ ms) n h may = rw (first_so (may_follow name m.name) (follow m.name ms) h) (follow_pushed m.name ms n (second_so (may_follow name m.name) (follow m.name ms) h) may)

-- ---- the loop

regroup : (front : List Name) (x : Name) (read : Result (List Name × List ℕ) (List ℕ)) → with_front front (read >>= λ o. Ok (x ∷ o.0, o.1)) ≡ with_front (front ++ x ∷ []) read
regroup front x (Ok o) = ap (λ (xs : List Name). Ok (xs, o.1)) (sym (append_assoc front (x ∷ []) o.0))
regroup front x (Err left) = refl

pub goes_on : (front : List Name) (count i : ℕ) (last bytes : List ℕ) (x : Name) (after : List ℕ) (total : Result (List Name × List ℕ) (List ℕ)) → i < count → name_at last bytes ≡ Ok (x, after)
    → with_front front (names_at (count - i) last bytes) ≡ total → with_front (front ++ x ∷ []) (names_at (count - (i + 1)) x.name after) ≡ total
unfolding names_at
goes_on front count i last bytes x after total lt h so_far =
    let k : count - i ≡ suc (count - (i + 1)) = omega arith in
    let one : with_front front (names_at (count - i) last bytes) ≡ with_front (front ++ x ∷ []) (names_at (count - (i + 1)) x.name after) = rw (k, h) (regroup front x (names_at (count - (i + 1)) x.name after)) in
    sym one ∙ so_far

pub stops : (front : List Name) (count i : ℕ) (last bytes left : List ℕ) (total : Result (List Name × List ℕ) (List ℕ)) → i < count → name_at last bytes ≡ Err left
    → with_front front (names_at (count - i) last bytes) ≡ total → total ≡ Err left
unfolding names_at
stops front count i last bytes left total lt h so_far =
    let k : count - i ≡ suc (count - (i + 1)) = omega arith in
    let one : with_front front (names_at (count - i) last bytes) ≡ Err left = rw (k, h) refl in
    sym so_far ∙ one

pub is_done : (front : List Name) (count i : ℕ) (last bytes : List ℕ) (total : Result (List Name × List ℕ) (List ℕ)) → count ≤ i → with_front front (names_at (count - i) last bytes) ≡ total → total ≡ Ok (front, bytes)
unfolding names_at
is_done front count i last bytes total le so_far =
    let k : count - i ≡ 0 = omega arith in
    let one : with_front front (names_at (count - i) last bytes) ≡ Ok (front, bytes) = rw k (ap (λ (xs : List Name). Ok (xs, bytes)) (append-nil front)) in
    sym so_far ∙ one

pub last_there : (names : List Name) (n : Name) → slice_get names (length names - 1) ≡ Some n → n.name ≡ last_name [] names
last_there [] n e = absurd cc
last_there (m ∷ ms) n e = last_is [] (m ∷ ms) (length (m ∷ ms) - 1) n (omega arith) e

-- a name that can't be read ends the reading of all
pub stops_all : {X : Type 0} (view : X → List Name) (front : List Name) (count i : ℕ) (last : List ℕ) (start old new : Reading) (s : Stop) → i < count → ReadsGood {X = Name} (name_at last) (λ n. n) old new (Err s)
    → last ≡ last_name [] front → with_front front (names_at (count - i) (last_name [] front) old.left) ≡ names_at count [] start.left → ReadsGood (names_at count []) view start new (Err s)
stops_all {X} view front count i last start old new causes.BadField lt read is so_far = stops front count i last old.left new.left (names_at count [] start.left) lt read (rw is so_far)
stops_all {X} view front count i last start old new causes.OutOfMemory lt read is so_far = tt

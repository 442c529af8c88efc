-- Reading one value after the other, as a loop does.
use Rattle.std.proofs.Common.{◌≡◌, ℕ, zero, suc, false, length, drop, ◌-◌, ◌+◌, ◌≤◌, ◌<◌, List, [], ◌∷◌, ◌++◌, Option, Some, None, refl, sym, ap, ◌∙◌, append_assoc, arith}
use Rattle.std.proofs.lemmas.List.{append-nil}
use Rattle.spec_shape.specs.Taking.{◌>>=◌}
use Rattle.afs_num.specs.declared.vnodes.Vnode.{Vnode}
use Rattle.spec_records.specs.Forms.{many_at}
use Rattle.spec_records.specs.Records.{are_listed}

-- what was read before, and what is still read
abbrev pub with_front : {T : Type 0} → List T → Option (List T × List ℕ) → Option (List T × List ℕ)
with_front front (Some x) = Some (front ++ x.0, x.1)
with_front front None = None

regroup : {T : Type 0} (front : List T) (x : T) (read : Option (List T × List ℕ)) → with_front front (read >>= λ o. Some (x ∷ o.0, o.1)) ≡ with_front (front ++ x ∷ []) read
regroup {T} front x (Some o) = ap (λ (xs : List T). Some (xs, o.1)) (sym (append_assoc front (x ∷ []) o.0))
regroup {T} front x None = refl

pub goes_on : {T : Type 0} (at : List ℕ → Option (T × List ℕ)) (front : List T) (count i : ℕ) (bytes : List ℕ) (x : T) (after : List ℕ) (total : Option (List T × List ℕ)) → i < count → at bytes ≡ Some (x, after)
    → with_front front (many_at at (count - i) bytes) ≡ total → with_front (front ++ x ∷ []) (many_at at (count - (i + 1)) after) ≡ total
goes_on {T} at front count i bytes x after total lt h so_far =
    let k : count - i ≡ suc (count - (i + 1)) = omega arith in
    let one : with_front front (many_at at (count - i) bytes) ≡ with_front (front ++ x ∷ []) (many_at at (count - (i + 1)) after) = rw (k, h) (regroup front x (many_at at (count - (i + 1)) after)) in
    sym one ∙ so_far

pub ends : {T : Type 0} (at : List ℕ → Option (T × List ℕ)) (front : List T) (count i : ℕ) (bytes : List ℕ) (total : Option (List T × List ℕ)) → i < count → at bytes ≡ None
    → with_front front (many_at at (count - i) bytes) ≡ total → total ≡ None
ends {T} at front count i bytes total lt h so_far =
    let k : count - i ≡ suc (count - (i + 1)) = omega arith in
    let one : with_front front (many_at at (count - i) bytes) ≡ None = rw (k, h) refl in
    sym so_far ∙ one

pub is_done : {T : Type 0} (at : List ℕ → Option (T × List ℕ)) (front : List T) (count i : ℕ) (bytes : List ℕ) (total : Option (List T × List ℕ)) → count ≤ i → with_front front (many_at at (count - i) bytes) ≡ total → total ≡ Some (front, bytes)
is_done {T} at front count i bytes total le so_far =
    let k : count - i ≡ 0 = omega arith in
    let one : with_front front (many_at at (count - i) bytes) ≡ Some (front, bytes) = rw k (ap (λ (xs : List T). Some (xs, bytes)) (append-nil front)) in
    sym so_far ∙ one

pairs_left : (ps : List (ℕ × ℕ)) (i : ℕ) → i < length ps → are_listed (drop i ps) [] ≡ false
pairs_left [] i lt = absurd (omega (lt, arith))
pairs_left (p ∷ ps) zero lt = refl
pairs_left (p ∷ ps) (suc i) lt = pairs_left ps i (omega (lt, arith))

-- pairs are left, and no vnodes
pub none_listed : (ps : List (ℕ × ℕ)) (vs rest : List Vnode) (i : ℕ) → i < length ps → length rest ≡ 0 → are_listed (drop i ps) rest ≡ are_listed ps vs → false ≡ are_listed ps vs
none_listed ps vs [] i lt none same = sym (pairs_left ps i lt) ∙ same
none_listed ps vs (v ∷ rest) i lt none same = absurd (omega (none, arith))

-- Reading one thing after the other, as a loop does.
use Rattle.std.proofs.Common.{◌≡◌, ℕ, suc, ◌-◌, ◌+◌, ◌≤◌, ◌<◌, List, [], ◌∷◌, ◌++◌, Result, Ok, Err, refl, sym, ap, ◌∙◌, append_assoc, arith}
use Rattle.std.proofs.lemmas.List.{append-nil}
use Rattle.afs_xdr.specs.declared.faults.XdrFault.{XdrFault}
use Rattle.afs_xdr.specs.Words.{◌>>=◌}
use Rattle.spec_shape.specs.Items.{items_at}

-- what was read before, and what is still read
abbrev pub with_front : {T E : Type 0} → List T → Result (List T × List ℕ) E → Result (List T × List ℕ) E
with_front front (Ok x) = Ok (front ++ x.0, x.1)
with_front front (Err e) = Err e

regroup : {T : Type 0} (front : List T) (x : T) (read : Result (List T × List ℕ) XdrFault) → with_front front (read >>= λ o. Ok (x ∷ o.0, o.1)) ≡ with_front (front ++ x ∷ []) read
regroup {T} front x (Ok o) = ap (λ (xs : List T). Ok (xs, o.1)) (sym (append_assoc front (x ∷ []) o.0))
regroup {T} front x (Err f) = refl

pub goes_on : {T : Type 0} (at : List ℕ → Result (T × List ℕ) XdrFault) (front : List T) (count i : ℕ) (bytes : List ℕ) (x : T) (after : List ℕ) (total : Result (List T × List ℕ) XdrFault) → i < count → at bytes ≡ Ok (x, after)
    → with_front front (items_at at (count - i) bytes) ≡ total → with_front (front ++ x ∷ []) (items_at at (count - (i + 1)) after) ≡ total
unfolding items_at
goes_on {T} at front count i bytes x after total lt h so_far =
    let k : count - i ≡ suc (count - (i + 1)) = omega arith in
    let one : with_front front (items_at at (count - i) bytes) ≡ with_front (front ++ x ∷ []) (items_at at (count - (i + 1)) after) = rw (k, h) (regroup front x (items_at at (count - (i + 1)) after)) in
    sym one ∙ so_far

pub ends : {T : Type 0} (at : List ℕ → Result (T × List ℕ) XdrFault) (front : List T) (count i : ℕ) (bytes : List ℕ) (f : XdrFault) (total : Result (List T × List ℕ) XdrFault) → i < count → at bytes ≡ Err f
    → with_front front (items_at at (count - i) bytes) ≡ total → total ≡ Err f
unfolding items_at
ends {T} at front count i bytes f total lt h so_far =
    let k : count - i ≡ suc (count - (i + 1)) = omega arith in
    let one : with_front front (items_at at (count - i) bytes) ≡ Err f = rw (k, h) refl in
    sym so_far ∙ one

pub is_done : {T : Type 0} (at : List ℕ → Result (T × List ℕ) XdrFault) (front : List T) (count i : ℕ) (bytes : List ℕ) (total : Result (List T × List ℕ) XdrFault) → count ≤ i → with_front front (items_at at (count - i) bytes) ≡ total → total ≡ Ok (front, bytes)
unfolding items_at
is_done {T} at front count i bytes total le so_far =
    let k : count - i ≡ 0 = omega arith in
    let one : with_front front (items_at at (count - i) bytes) ≡ Ok (front, bytes) = rw k (ap (λ (xs : List T). Ok (xs, bytes)) (append-nil front)) in
    sym so_far ∙ one

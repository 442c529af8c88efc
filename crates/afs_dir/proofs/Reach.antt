-- How far one field takes a reader.
use Rattle.std.proofs.Common.{◌≡◌, ℕ, ◌+◌, ◌≤◌, Bool, true, false, cond, ltb, List, length, take, drop, Ok, Err, refl, ap, arith, length-drop}
use Rattle.std.specs.Int.{w32, from_be_bytes}
use Rattle.std.proofs.lemmas.Bool.{ltb-false}
use Rattle.afs_xdr.specs.declared.faults.XdrFault.TheVariants.{Short, TooLong, BadPad}
use Rattle.afs_xdr.specs.Reading.{Reading, KeepsEnd}
use Rattle.afs_xdr.specs.Words.{are_zero, pad_length, word_at, counted_at, opaque_at}
use Rattle.spec_shape.proofs.Codecs.{bind_ok, guard_ok, ok_is}

word_takes : (bytes : List ℕ) (n : ℕ) (rest : List ℕ) → word_at bytes ≡ Ok (n, rest) → length bytes ≤ length rest + 4
unfolding word_at
word_takes bytes n rest e =
    let g = guard_ok (ltb (length bytes) 4) Short (Ok (from_be_bytes w32 (take 4 bytes), drop 4 bytes)) (Ok (n, rest)) e (n, rest) refl in
    let behind : drop 4 bytes ≡ rest = ap (λ (p : ℕ × List ℕ). p.1) (ok_is (from_be_bytes w32 (take 4 bytes), drop 4 bytes) (n, rest) g.1) in
    omega (arith, length-drop 4 bytes, ap length behind)

checked_behind : (b : Bool) (text behind : List ℕ) (x : List ℕ × List ℕ) → cond b (Ok (text, behind)) (Err BadPad) ≡ Ok x → behind ≡ x.1
checked_behind true text behind x e = ap (λ (p : List ℕ × List ℕ). p.1) (ok_is (text, behind) x e)
checked_behind false text behind x e = absurd cc

few : (n : ℕ) → pad_length n ≤ 3
few n = omega arith

counted_takes : (n : ℕ) (bytes text rest : List ℕ) → counted_at n bytes ≡ Ok (text, rest) → length bytes ≤ length rest + (n + 3)
unfolding counted_at
counted_takes n bytes text rest e =
    let p = pad_length n in
    let g = guard_ok (ltb (length bytes) (n + p)) Short (cond (are_zero (take p (drop n bytes))) (Ok (take n bytes, drop p (drop n bytes))) (Err BadPad)) (Ok (text, rest)) e (text, rest) refl in
    let behind : drop p (drop n bytes) ≡ rest = checked_behind (are_zero (take p (drop n bytes))) (take n bytes) (drop p (drop n bytes)) (text, rest) g.1 in
    omega (arith, few n, length-drop p (drop n bytes), length-drop n bytes, ap length behind)

opaque_takes : (most : ℕ) (bytes text rest : List ℕ) → opaque_at most bytes ≡ Ok (text, rest) → length bytes ≤ length rest + (most + 7)
unfolding opaque_at
opaque_takes most bytes text rest e =
    let a = bind_ok (word_at bytes) (λ count. cond (ltb most count.0) (Err TooLong) (counted_at count.0 count.1)) (text, rest) e in
    let short = guard_ok (ltb most a.0.0) TooLong (counted_at a.0.0 a.0.1) (Ok (text, rest)) a.2 (text, rest) refl in
    let within : a.0.0 ≤ most = ltb-false _ _ short.0 in
    omega (arith, within, word_takes bytes a.0.0 a.0.1 a.1, counted_takes a.0.0 a.0.1 text rest short.1)

-- a word takes a reader four bytes on, a name and its pad at most 262
pub word_far : (old new : Reading) (n : ℕ) → word_at old.left ≡ Ok (n, new.left) → KeepsEnd old new → new.at ≤ old.at + 4
word_far old new n e end = omega (arith, end, word_takes old.left n new.left e)

pub name_far : (old new : Reading) (text : List ℕ) → opaque_at 255 old.left ≡ Ok (text, new.left) → KeepsEnd old new → new.at ≤ old.at + 262
name_far old new text e end = omega (arith, end, opaque_takes 255 old.left text new.left e)

-- How long the spelling of a directory is.
use Rattle.std.proofs.Common.{◌≡◌, ◌≤◌, ℕ, ◌+◌, ◌-◌, ◌*◌, ◌%◌, List, [], ◌∷◌, ◌++◌, length, Bool, true, false, not, nat_lt, replicate, refl, arith, leb-true}
use Rattle.std.specs.Prelude.{◌&&◌}
use Rattle.std.specs.List.{flat_map, list_all}
use Rattle.std.proofs.lemmas.List.{length-append, length-replicate}
use Rattle.std.proofs.lemmas.Nat.{mod_below}
use Rattle.std.proofs.lemmas.List.Concat.{flat_map-cons}
use Rattle.afs_num.specs.Names.{name_ok, is_dots, is_name_byte}
use Rattle.afs_num.specs.declared.directories.Name.{Name}
use Rattle.afs_xdr.specs.Words.{word, words, opaque, pad, pad_length}
use Rattle.spec_ideal.specs.Directories.{bytes_below, directory_bytes, follow, name_bytes, IsDirectory}
use Rattle.spec_ideal.proofs.Basics.{both}

pub words_long : (m n : ℕ) → length (words (m ∷ n ∷ [])) ≡ 8
unfolding word
words_long m n = refl

pub word_long : (n : ℕ) → length (word n) ≡ 4
unfolding word
word_long n = refl

pub pad_long : (n : ℕ) → length (pad n) ≡ pad_length n
unfolding pad
pad_long n = length-replicate {A = ℕ} (pad_length n) 0

pad_short : (n : ℕ) → length (pad n) ≤ 3
pad_short n = let few = mod_below (4 - n % 4) 4 (omega arith) in omega (arith, pad_long n, few)

opaque_short : (bytes : List ℕ) → length (opaque bytes) ≤ 7 + length bytes
unfolding opaque
opaque_short bytes = omega (arith, length-append (word (length bytes)) (bytes ++ pad (length bytes)), length-append bytes (pad (length bytes)), word_long (length bytes), pad_short (length bytes))

good_short : (name : List ℕ) → name_ok name ≡ true → length name ≤ 255
unfolding name_ok
good_short name ok =
    let front = both _ _ (both _ _ ok).0 in
    leb-true (length name) 255 (both _ _ front.0).1

name_short : (n : Name) → length n.name ≤ 255 → length (name_bytes n) ≤ 270
unfolding name_bytes
name_short n le = omega (arith, le, length-append (opaque n.name) (words (n.vnode ∷ n.unique ∷ [])), opaque_short n.name, words_long n.vnode n.unique)

names_short : (last : List ℕ) (ns : List Name) → follow last ns ≡ true → length (flat_map name_bytes ns) ≤ 270 * length ns
names_short last [] ok = omega arith
names_short last (n ∷ ns) ok =
    let first = both (name_ok n.name && bytes_below last n.name) (follow n.name ns) ok in
    let one = name_short n (good_short n.name (both (name_ok n.name) (bytes_below last n.name) first.0).0) in
    let more = names_short n.name ns first.1 in
    let long = length-append (name_bytes n) (flat_map name_bytes ns) in
    rw (flat_map-cons name_bytes n ns) (omega (arith, one, more, long))

pub names_fit : (names : List Name) → IsDirectory names → length (directory_bytes names) ≤ 276484
unfolding directory_bytes
names_fit names is =
    omega (arith, length-append (word (length names)) (flat_map name_bytes names), word_long (length names), names_short [] names is.ordered, is.few)

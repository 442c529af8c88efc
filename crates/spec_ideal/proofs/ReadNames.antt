-- Names that are read are those of a directory, whatever the bytes are.
use Rattle.std.proofs.Common.{◌≡◌, ℕ, zero, suc, ◌≤◌, true, List, [], ◌∷◌, length, Result, Ok, subst, ap, sym, ◌∙◌, arith, eqb, not, refl}
use Rattle.std.specs.Prelude.{nat_lt}
use Rattle.std.proofs.lemmas.Bool.{ltb-false}
use Rattle.afs_num.specs.declared.directories.Name.{Name}
use Rattle.afs_xdr.specs.Words.{word_at, opaque_at}
use Rattle.spec_shape.specs.Reading.{◌>>=◌}
use Rattle.spec_ideal.specs.Directories.{may_follow, follow, most_names, IsDirectory, field, if_good, count_at, spelled_at, name_at, names_at, whole_at, at_offset, directory_of}
use Rattle.spec_ideal.proofs.Directories.{both_so}
use Rattle.spec_ideal.proofs.DirectoryBytes.{fine, fine_is, then_ok, good_ok, offset_ok, not_so}

spelled_follows : (last bytes name rest : List ℕ) → spelled_at last bytes ≡ Ok (name, rest) → may_follow last name ≡ true
unfolding spelled_at
spelled_follows last bytes name rest e =
    let a = then_ok (field bytes (opaque_at 255 bytes)) (λ n. if_good (may_follow last n.0) bytes n) (name, rest) e in
    let g = good_ok (may_follow last a.0.0) bytes a.0 (name, rest) a.2 in
    ap (λ (y : List ℕ × List ℕ). may_follow last y.0) (sym g.1) ∙ g.0

name_follows : (last bytes : List ℕ) (n : Name) (rest : List ℕ) → name_at last bytes ≡ Ok (n, rest) → may_follow last n.name ≡ true
unfolding name_at
name_follows last bytes n rest e =
    let a = then_ok (spelled_at last bytes) (λ name. field name.1 (word_at name.1) >>= λ vnode. field vnode.1 (word_at vnode.1) >>= λ unique. Ok (record { name = name.0; vnode = vnode.0; unique = unique.0 }, unique.1)) (n, rest) e in
    let b = then_ok (field a.0.1 (word_at a.0.1)) (λ vnode. field vnode.1 (word_at vnode.1) >>= λ unique. Ok (record { name = a.0.0; vnode = vnode.0; unique = unique.0 }, unique.1)) (n, rest) a.2 in
    let c = then_ok (field b.0.1 (word_at b.0.1)) (λ unique. Ok (record { name = a.0.0; vnode = b.0.0; unique = unique.0 }, unique.1)) (n, rest) b.2 in
    let made : Name × List ℕ = (record { name = a.0.0; vnode = b.0.0; unique = c.0.0 }, c.0.1) in
    ap (λ (y : Name × List ℕ). may_follow last y.0.name) (sym (fine_is made (n, rest) c.2)) ∙ spelled_follows last bytes a.0.0 a.0.1 a.1

names_follow : (count : ℕ) (last bytes : List ℕ) (names : List Name) (rest : List ℕ) → names_at count last bytes ≡ Ok (names, rest) → (follow last names ≡ true) × (length names ≡ count)
unfolding names_at
names_follow zero last bytes names rest e = subst (λ (y : List Name × List ℕ). (follow last y.0 ≡ true) × (length y.0 ≡ 0)) (fine_is ([], bytes) (names, rest) e) (refl, refl)
names_follow (suc count) last bytes names rest e =
    let a = then_ok (name_at last bytes) (λ first. names_at count first.0.name first.1 >>= λ others. Ok (first.0 ∷ others.0, others.1)) (names, rest) e in
    let b = then_ok (names_at count a.0.0.name a.0.1) (λ others. Ok (a.0.0 ∷ others.0, others.1)) (names, rest) a.2 in
    let later = names_follow count a.0.0.name a.0.1 b.0.0 b.0.1 b.1 in
    let made : List Name × List ℕ = (a.0.0 ∷ b.0.0, b.0.1) in
    subst (λ (y : List Name × List ℕ). (follow last y.0 ≡ true) × (length y.0 ≡ suc count)) {x = made} (fine_is made (names, rest) b.2)
    (both_so (may_follow last a.0.0.name) (follow a.0.0.name b.0.0) (name_follows last bytes a.0.0 a.0.1 a.1) later.0, ap suc later.1)

count_small : (bytes : List ℕ) (n : ℕ) (rest : List ℕ) → count_at bytes ≡ Ok (n, rest) → n ≤ most_names
unfolding count_at
count_small bytes n rest e =
    let a = then_ok (field bytes (word_at bytes)) (λ count. if_good (not (nat_lt most_names count.0)) bytes count) (n, rest) e in
    let g = good_ok (not (nat_lt most_names a.0.0)) bytes a.0 (n, rest) a.2 in
    subst (λ (y : ℕ × List ℕ). y.0 ≤ most_names) {x = a.0} g.1 (ltb-false _ _ (not_so (nat_lt most_names a.0.0) g.0))

pub read_is_directory : (bytes : List ℕ) (names : List Name) → directory_of bytes ≡ Ok names → IsDirectory names
unfolding directory_of whole_at
read_is_directory bytes names e =
    let whole = offset_ok (length bytes) (whole_at bytes) names e in
    let a = then_ok (count_at bytes) (λ count. names_at count.0 [] count.1 >>= λ all. if_good (eqb (length all.1) 0) all.1 all.0) names whole in
    let b = then_ok (names_at a.0.0 [] a.0.1) (λ all. if_good (eqb (length all.1) 0) all.1 all.0) names a.2 in
    let g = good_ok (eqb (length b.0.1) 0) b.0.1 b.0.0 names b.2 in
    let follows = names_follow a.0.0 [] a.0.1 b.0.0 b.0.1 b.1 in
    let few = count_small bytes a.0.0 a.0.1 a.1 in
    subst (λ (ns : List Name). IsDirectory ns) {x = b.0.0} g.1 (record { ordered = follows.0; few = (let many = follows.1 in omega (arith, many, few)) })

-- What is read of a directory is spelled so, and what is spelled is read.
use Rattle.std.proofs.Common.{◌≡◌, ℕ, zero, suc, ◌^◌, ◌<◌, ◌≤◌, Bool, true, false, not, eqb, List, [], ◌∷◌, ◌++◌, length, Result, Ok, Err, refl, sym, ap, subst, ◌∙◌, append_assoc, arith}
use Rattle.std.specs.Prelude.{nat_lt}
use Rattle.std.specs.List.{flat_map}
use Rattle.std.specs.Cmp.{first_so, second_so}
use Rattle.std.proofs.lemmas.Bool.{ltb-false, le-ltb, eqb-true}
use Rattle.std.proofs.lemmas.List.{append-nil}
use Rattle.std.proofs.lemmas.List.Concat.{flat_map-cons}
use Rattle.afs_num.specs.Names.{name_ok}
use Rattle.afs_num.specs.declared.directories.Name.{Name}
use Rattle.afs_xdr.specs.declared.faults.XdrFault.{XdrFault}
use Rattle.afs_xdr.specs.Words.{word, words, opaque, word_at, opaque_at}
use Rattle.spec_shape.specs.Reading.{◌>>=◌}
use Rattle.spec_shape.proofs.Codecs.{IsBytes, Takes, Takes-then, word_codec, opaque_codec}
use Rattle.spec_ideal.specs.Directories.{bytes_below, may_follow, follow, most_names, IsDirectory, name_bytes, directory_bytes, FitsName, FitNames, field, if_good, count_at, spelled_at, name_at, names_at, whole_at, at_offset, directory_of}
use Rattle.spec_ideal.proofs.Directories.{both_so, good_is_short}

-- ---- one step after the other

abbrev pub fine : {A : Type 0} → A → Result A (List ℕ)
fine x = Ok x

pub fine_is : {A : Type 0} (x y : A) → fine x ≡ fine y → x ≡ y
fine_is x y e = cc

-- the value of a step that wasn't refused
pub then_ok : {A B : Type 0} (r : Result A (List ℕ)) (f : A → Result B (List ℕ)) (y : B) → (r >>= f) ≡ Ok y → (x : A) × (r ≡ Ok x) × (f x ≡ Ok y)
then_ok (Ok x) f y e = (x, refl, e)
then_ok (Err left) f y e = absurd cc

field_ok : {A : Type 0} (left : List ℕ) (r : Result A XdrFault) (x : A) → field left r ≡ Ok x → r ≡ Ok x
field_ok left (Ok y) x e = ap (λ z. Ok z) (fine_is y x e)
field_ok left (Err fault) x e = absurd cc

pub good_ok : {A : Type 0} (b : Bool) (left : List ℕ) (x y : A) → if_good b left x ≡ Ok y → (b ≡ true) × (x ≡ y)
good_ok true left x y e = (refl, fine_is x y e)
good_ok false left x y e = absurd cc

pub offset_ok : {A : Type 0} (size : ℕ) (r : Result A (List ℕ)) (x : A) → at_offset size r ≡ Ok x → r ≡ Ok x
offset_ok size (Ok y) x e = cc
offset_ok size (Err left) x e = absurd cc

pub not_so : (b : Bool) → not b ≡ true → b ≡ false
not_so true e = absurd cc
not_so false e = refl

empty_is : (bytes : List ℕ) → length bytes ≡ 0 → bytes ≡ []
empty_is [] e = refl
empty_is (b ∷ bytes) e = absurd (omega arith)

-- ---- what is read is spelled so

-- what a name takes
pub record TakesName (last bytes : List ℕ) (n : Name) (rest : List ℕ) : Type 0 where
  pub takes : Takes bytes (name_bytes n) rest
  pub follows : may_follow last n.name ≡ true
  pub fits : FitsName n

two_words : (v u : ℕ) → words (v ∷ u ∷ []) ≡ word v ++ word u
two_words v u = flat_map-cons word v (u ∷ []) ∙ ap (λ (t : List ℕ). word v ++ t) (flat_map-cons word u [] ∙ append-nil (word u))

word_takes : (bytes : List ℕ) (n : ℕ) (rest : List ℕ) → IsBytes bytes → field bytes (word_at bytes) ≡ Ok (n, rest) → Takes bytes (word n) rest × (n < 2 ^ 32)
word_takes bytes n rest fits e = word_codec.takes bytes n rest fits (field_ok bytes (word_at bytes) (n, rest) e)

spelled_takes : (last bytes name rest : List ℕ) → IsBytes bytes → spelled_at last bytes ≡ Ok (name, rest) → Takes bytes (opaque name) rest × (may_follow last name ≡ true)
unfolding spelled_at
spelled_takes last bytes name rest fits e =
    let a = then_ok (field bytes (opaque_at 255 bytes)) (λ n. if_good (may_follow last n.0) bytes n) (name, rest) e in
    let g = good_ok (may_follow last a.0.0) bytes a.0 (name, rest) a.2 in
    let t = (opaque_codec 255).takes bytes a.0.0 a.0.1 fits (field_ok bytes (opaque_at 255 bytes) a.0 a.1) in
    subst (λ (y : List ℕ × List ℕ). Takes bytes (opaque y.0) y.1 × (may_follow last y.0 ≡ true)) {x = a.0} g.1 (t.0, g.0)

name_takes : (last bytes : List ℕ) (n : Name) (rest : List ℕ) → IsBytes bytes → name_at last bytes ≡ Ok (n, rest) → TakesName last bytes n rest
unfolding name_at name_bytes
name_takes last bytes n rest fits e =
    let a = then_ok (spelled_at last bytes) (λ name. field name.1 (word_at name.1) >>= λ vnode. field vnode.1 (word_at vnode.1) >>= λ unique. Ok (record { name = name.0; vnode = vnode.0; unique = unique.0 }, unique.1)) (n, rest) e in
    let b = then_ok (field a.0.1 (word_at a.0.1)) (λ vnode. field vnode.1 (word_at vnode.1) >>= λ unique. Ok (record { name = a.0.0; vnode = vnode.0; unique = unique.0 }, unique.1)) (n, rest) a.2 in
    let c = then_ok (field b.0.1 (word_at b.0.1)) (λ unique. Ok (record { name = a.0.0; vnode = b.0.0; unique = unique.0 }, unique.1)) (n, rest) b.2 in
    let made : Name × List ℕ = (record { name = a.0.0; vnode = b.0.0; unique = c.0.0 }, c.0.1) in
    let name = spelled_takes last bytes a.0.0 a.0.1 fits a.1 in
    let vnode = word_takes a.0.1 b.0.0 b.0.1 name.0.rest_fits b.1 in
    let unique = word_takes b.0.1 c.0.0 c.0.1 vnode.0.rest_fits c.1 in
    let both : Takes a.0.1 (words (b.0.0 ∷ c.0.0 ∷ [])) c.0.1 = rw two_words (Takes-then a.0.1 (word b.0.0) b.0.1 (word c.0.0) c.0.1 vnode.0 unique.0) in
    let here : TakesName last bytes made.0 made.1 = record { takes = Takes-then bytes (opaque a.0.0) a.0.1 (words (b.0.0 ∷ c.0.0 ∷ [])) c.0.1 name.0 both; follows = name.1; fits = (vnode.1, unique.1) } in
    subst (λ (y : Name × List ℕ). TakesName last bytes y.0 y.1) {x = made} (fine_is made (n, rest) c.2) here

-- what names take, one behind the other
pub record TakesNames (count : ℕ) (last bytes : List ℕ) (names : List Name) (rest : List ℕ) : Type 0 where
  pub takes : Takes bytes (flat_map name_bytes names) rest
  pub ordered : follow last names ≡ true
  pub many : length names ≡ count
  pub fit : FitNames names

names_takes : (count : ℕ) (last bytes : List ℕ) (names : List Name) (rest : List ℕ) → IsBytes bytes → names_at count last bytes ≡ Ok (names, rest) → TakesNames count last bytes names rest
unfolding names_at
names_takes zero last bytes names rest fits e =
    subst (λ (y : List Name × List ℕ). TakesNames 0 last bytes y.0 y.1) (fine_is ([], bytes) (names, rest) e) (record { takes = record { parts = refl; rest_fits = fits }; ordered = refl; many = refl; fit = tt })
names_takes (suc count) last bytes names rest fits e =
    let a = then_ok (name_at last bytes) (λ first. names_at count first.0.name first.1 >>= λ others. Ok (first.0 ∷ others.0, others.1)) (names, rest) e in
    let b = then_ok (names_at count a.0.0.name a.0.1) (λ others. Ok (a.0.0 ∷ others.0, others.1)) (names, rest) a.2 in
    let first = name_takes last bytes a.0.0 a.0.1 fits a.1 in
    let others = names_takes count a.0.0.name a.0.1 b.0.0 b.0.1 first.takes.rest_fits b.1 in
    let made : List Name × List ℕ = (a.0.0 ∷ b.0.0, b.0.1) in
    let here : TakesNames (suc count) last bytes made.0 made.1 = record {
      takes = rw flat_map-cons (Takes-then bytes (name_bytes a.0.0) a.0.1 (flat_map name_bytes b.0.0) b.0.1 first.takes others.takes);
      ordered = both_so (may_follow last a.0.0.name) (follow a.0.0.name b.0.0) first.follows others.ordered;
      many = ap suc others.many;
      fit = (first.fits, others.fit);
    } in
    subst (λ (y : List Name × List ℕ). TakesNames (suc count) last bytes y.0 y.1) {x = made} (fine_is made (names, rest) b.2) here

count_takes : (bytes : List ℕ) (n : ℕ) (rest : List ℕ) → IsBytes bytes → count_at bytes ≡ Ok (n, rest) → Takes bytes (word n) rest × (n ≤ most_names)
unfolding count_at
count_takes bytes n rest fits e =
    let a = then_ok (field bytes (word_at bytes)) (λ count. if_good (not (nat_lt most_names count.0)) bytes count) (n, rest) e in
    let g = good_ok (not (nat_lt most_names a.0.0)) bytes a.0 (n, rest) a.2 in
    let t = word_takes bytes a.0.0 a.0.1 fits a.1 in
    subst (λ (y : ℕ × List ℕ). Takes bytes (word y.0) y.1 × (y.0 ≤ most_names)) {x = a.0} g.1 (t.0, ltb-false _ _ (not_so (nat_lt most_names a.0.0) g.0))

pub read_is_spelled : (bytes : List ℕ) (names : List Name) → IsBytes bytes → directory_of bytes ≡ Ok names → IsDirectory names × FitNames names × (directory_bytes names ≡ bytes)
unfolding directory_of whole_at directory_bytes
read_is_spelled bytes names fits e =
    let whole = offset_ok (length bytes) (whole_at bytes) names e in
    let a = then_ok (count_at bytes) (λ count. names_at count.0 [] count.1 >>= λ all. if_good (eqb (length all.1) 0) all.1 all.0) names whole in
    let b = then_ok (names_at a.0.0 [] a.0.1) (λ all. if_good (eqb (length all.1) 0) all.1 all.0) names a.2 in
    let g = good_ok (eqb (length b.0.1) 0) b.0.1 b.0.0 names b.2 in
    let count = count_takes bytes a.0.0 a.0.1 fits a.1 in
    let all = names_takes a.0.0 [] a.0.1 b.0.0 b.0.1 count.0.rest_fits b.1 in
    let both = Takes-then bytes (word a.0.0) a.0.1 (flat_map name_bytes b.0.0) b.0.1 count.0 all.takes in
    let nothing : b.0.1 ≡ [] = empty_is b.0.1 (eqb-true (length b.0.1) 0 g.0) in
    let spelled : directory_bytes b.0.0 ≡ bytes = ap (λ (n : ℕ). word n ++ flat_map name_bytes b.0.0) all.many ∙ sym (both.parts ∙ (ap (λ (t : List ℕ). (word a.0.0 ++ flat_map name_bytes b.0.0) ++ t) nothing ∙ append-nil (word a.0.0 ++ flat_map name_bytes b.0.0))) in
    subst (λ (ns : List Name). IsDirectory ns × FitNames ns × (directory_bytes ns ≡ bytes)) {x = b.0.0} g.1 (record { ordered = all.ordered; few = omega (arith, all.many, count.1) }, all.fit, spelled)

-- ---- what is spelled is read again

word_again : (n : ℕ) (rest : List ℕ) → n < 2 ^ 32 → field (word n ++ rest) (word_at (word n ++ rest)) ≡ Ok (n, rest)
word_again n rest fits = ap (field (word n ++ rest)) (word_codec.again n rest fits)

spelled_again : (last name rest : List ℕ) → may_follow last name ≡ true → spelled_at last (opaque name ++ rest) ≡ Ok (name, rest)
unfolding spelled_at
spelled_again last name rest may =
    let short = good_is_short name (first_so (name_ok name) (bytes_below last name) may) in
    rw ((opaque_codec 255).again name rest (short, omega (arith, short)), may) refl

name_again : (last : List ℕ) (n : Name) (rest : List ℕ) → may_follow last n.name ≡ true → FitsName n → name_at last (name_bytes n ++ rest) ≡ Ok (n, rest)
unfolding name_at name_bytes
name_again last n rest may fits =
    let numbers : words (n.vnode ∷ n.unique ∷ []) ++ rest ≡ word n.vnode ++ (word n.unique ++ rest) = ap (λ (t : List ℕ). t ++ rest) (two_words n.vnode n.unique) ∙ append_assoc (word n.vnode) (word n.unique) rest in
    let regrouped : (opaque n.name ++ words (n.vnode ∷ n.unique ∷ [])) ++ rest ≡ opaque n.name ++ (word n.vnode ++ (word n.unique ++ rest)) = append_assoc (opaque n.name) (words (n.vnode ∷ n.unique ∷ [])) rest ∙ ap (λ (t : List ℕ). opaque n.name ++ t) numbers in
    rw (regrouped, spelled_again last n.name (word n.vnode ++ (word n.unique ++ rest)) may, word_again n.vnode (word n.unique ++ rest) fits.0, word_again n.unique rest fits.1) refl

names_again : (last : List ℕ) (names : List Name) (rest : List ℕ) → follow last names ≡ true → FitNames names → names_at (length names) last (flat_map name_bytes names ++ rest) ≡ Ok (names, rest)
unfolding names_at
names_again last [] rest h fit = refl
names_again last (n ∷ ns) rest h fit =
    let regrouped : flat_map name_bytes (n ∷ ns) ++ rest ≡ name_bytes n ++ (flat_map name_bytes ns ++ rest) = ap (λ (t : List ℕ). t ++ rest) (flat_map-cons name_bytes n ns) ∙ append_assoc (name_bytes n) (flat_map name_bytes ns) rest in
    let may = first_so (may_follow last n.name) (follow n.name ns) h in
    let behind = second_so (may_follow last n.name) (follow n.name ns) h in
    rw (regrouped, name_again last n (flat_map name_bytes ns ++ rest) may fit.0, names_again n.name ns rest behind fit.1) refl

pub spelled_is_read : (names : List Name) → IsDirectory names → FitNames names → directory_of (directory_bytes names) ≡ Ok names
unfolding directory_of whole_at count_at directory_bytes
spelled_is_read names h fit =
    let small : length names < 2 ^ 32 = omega (arith, h.few) in
    let few : nat_lt most_names (length names) ≡ false = le-ltb _ _ h.few in
    let all : names_at (length names) [] (flat_map name_bytes names) ≡ Ok (names, []) = ap (names_at (length names) []) (sym (append-nil (flat_map name_bytes names))) ∙ names_again [] names [] h.ordered fit in
    rw (word_again (length names) (flat_map name_bytes names) small, few, all) refl

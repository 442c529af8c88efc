-- Where the spelling of a name stands in that of a directory.
use Rattle.std.proofs.Common.{◌≡◌, ◌≤◌, ◌<◌, ℕ, suc, ◌+◌, List, [], ◌∷◌, ◌++◌, length, take, drop, get_or, sym, ap, ◌∙◌, arith, append_assoc}
use Rattle.std.specs.List.{flat_map, insert, remove}
use Rattle.std.proofs.lemmas.List.{append-nil, length-append, take-append-drop, take_at, drop_at, take_more}
use Rattle.std.proofs.lemmas.List.Concat.{flat_map-append, flat_map-cons}
use Rattle.std.proofs.lemmas.List.Edits.{length-insert, length-remove}
use Rattle.afs_num.specs.declared.directories.Name.{Name}
use Rattle.afs_xdr.specs.Words.{word, words, opaque, pad, pad_length}
use Rattle.spec_ideal.specs.Directories.{directory_bytes, name_bytes}
use Rattle.afs_dir.proofs.Lengths.{pad_long, word_long, words_long}

-- ---- how long they are

opaque_long : (bytes : List ℕ) → length (opaque bytes) ≡ 4 + (length bytes + pad_length (length bytes))
unfolding opaque
opaque_long bytes = omega (arith, length-append (word (length bytes)) (bytes ++ pad (length bytes)), length-append bytes (pad (length bytes)), word_long (length bytes), pad_long (length bytes))

pub name_long : (n : Name) → length (name_bytes n) ≡ 12 + (length n.name + pad_length (length n.name))
unfolding name_bytes
name_long n = omega (arith, length-append (opaque n.name) (words (n.vnode ∷ n.unique ∷ [])), opaque_long n.name, words_long n.vnode n.unique)

pub front_more : (names : List Name) (i : ℕ) (d : Name) → i < length names
    → length (flat_map name_bytes (take (i + 1) names)) ≡ length (flat_map name_bytes (take i names)) + length (name_bytes (get_or names i d))
front_more names i d lt =
    let one = ap (λ (ns : List Name). length (flat_map name_bytes ns)) (take_more names i d lt) in
    let two = ap length (flat_map-append name_bytes (take i names) (get_or names i d ∷ [])) in
    let here = ap length (flat_map-cons name_bytes (get_or names i d) [] ∙ append-nil (name_bytes (get_or names i d))) in
    omega (arith, one, two, here, length-append (flat_map name_bytes (take i names)) (flat_map name_bytes (get_or names i d ∷ [])))

-- ---- the parts

body : (names : List Name) (bytes : List ℕ) → directory_bytes names ≡ bytes → drop 4 bytes ≡ flat_map name_bytes names
unfolding directory_bytes
body names bytes spelled = ap (drop 4) (sym spelled) ∙ drop_at (word (length names)) (flat_map name_bytes names) 4 (word_long (length names))

pub body_long : (names : List Name) (bytes : List ℕ) → directory_bytes names ≡ bytes → length bytes ≡ 4 + length (flat_map name_bytes names)
unfolding directory_bytes
body_long names bytes spelled = omega (arith, ap length spelled, length-append (word (length names)) (flat_map name_bytes names), word_long (length names))

halves : (names : List Name) (i : ℕ) → flat_map name_bytes names ≡ flat_map name_bytes (take i names) ++ flat_map name_bytes (drop i names)
halves names i = ap (flat_map name_bytes) (sym (take-append-drop i names)) ∙ flat_map-append name_bytes (take i names) (drop i names)

pub front_within : (names : List Name) (i : ℕ) → length (flat_map name_bytes (take i names)) ≤ length (flat_map name_bytes names)
front_within names i = omega (arith, ap length (halves names i), length-append (flat_map name_bytes (take i names)) (flat_map name_bytes (drop i names)))

pub front_is : (names : List Name) (bytes : List ℕ) (i n : ℕ) → directory_bytes names ≡ bytes → n ≡ length (flat_map name_bytes (take i names)) → take n (drop 4 bytes) ≡ flat_map name_bytes (take i names)
front_is names bytes i n spelled long =
    ap (take n) (body names bytes spelled ∙ halves names i) ∙ take_at (flat_map name_bytes (take i names)) (flat_map name_bytes (drop i names)) n (sym long)

pub back_is : (names : List Name) (bytes : List ℕ) (i n : ℕ) → directory_bytes names ≡ bytes → n ≡ length (flat_map name_bytes (take i names)) → drop n (drop 4 bytes) ≡ flat_map name_bytes (drop i names)
back_is names bytes i n spelled long =
    ap (drop n) (body names bytes spelled ∙ halves names i) ∙ drop_at (flat_map name_bytes (take i names)) (flat_map name_bytes (drop i names)) n (sym long)

-- ---- put together again

pub two_words : (v u : ℕ) → words (v ∷ u ∷ []) ≡ word v ++ word u
two_words v u = flat_map-cons word v (u ∷ []) ∙ ap (λ (t : List ℕ). word v ++ t) (flat_map-cons word u [] ∙ append-nil (word u))

pub with_one : (names : List Name) (i : ℕ) (n : Name) → i ≤ length names
    → directory_bytes (insert names i n) ≡ word (length names + 1) ++ (flat_map name_bytes (take i names) ++ (name_bytes n ++ flat_map name_bytes (drop i names)))
unfolding directory_bytes
with_one names i n le =
    rw (length-insert names i n le) (ap (λ (t : List ℕ). word (length names + 1) ++ t) (flat_map-append name_bytes (take i names) (n ∷ drop i names) ∙ ap (λ (t : List ℕ). flat_map name_bytes (take i names) ++ t) (flat_map-cons name_bytes n (drop i names))))

pub without_one : (names : List Name) (i count : ℕ) → i < length names → count + 1 ≡ length names
    → directory_bytes (remove names i) ≡ word count ++ (flat_map name_bytes (take i names) ++ flat_map name_bytes (drop (i + 1) names))
unfolding directory_bytes
without_one names i count lt few =
    let long : length (remove names i) ≡ count = omega (arith, length-remove names i lt, few) in
    let one : suc i ≡ i + 1 = omega arith in
    let behind : drop (suc i) names ≡ drop (i + 1) names = ap (λ (k : ℕ). drop k names) one in
    rw long (ap (λ (t : List ℕ). word count ++ t) (flat_map-append name_bytes (take i names) (drop (suc i) names) ∙ ap (λ (ns : List Name). flat_map name_bytes (take i names) ++ flat_map name_bytes ns) behind))

pub three_pieces : (w : List ℕ) {a b c d f f' k k' : List ℕ} → a ≡ [] → b ≡ a ++ w → c ≡ b ++ f → f ≡ f' → d ≡ c ++ k → k ≡ k' → d ≡ w ++ (f' ++ k')
three_pieces w {a} {b} {c} {d} {f} {f'} {k} {k'} none count front is_front back is_back =
    let start : b ≡ w = count ∙ ap (λ (t : List ℕ). t ++ w) none in
    let next : c ≡ w ++ f' = front ∙ (λ i. start i ++ is_front i) in
    back ∙ ((λ i. next i ++ is_back i) ∙ append_assoc w f' k')

pub four_pieces : (w n : List ℕ) {a b c d e f f' k k' : List ℕ} → a ≡ [] → b ≡ a ++ w → c ≡ b ++ f → f ≡ f' → d ≡ c ++ n → e ≡ d ++ k → k ≡ k' → e ≡ w ++ (f' ++ (n ++ k'))
four_pieces w n {a} {b} {c} {d} {e} {f} {f'} {k} {k'} none count front is_front name back is_back =
    let last : e ≡ c ++ (n ++ k) = back ∙ (ap (λ (t : List ℕ). t ++ k) name ∙ append_assoc c n k) in
    let behind : n ++ k ≡ n ++ k' = ap (λ (t : List ℕ). n ++ t) is_back in
    three_pieces w none count front is_front last behind

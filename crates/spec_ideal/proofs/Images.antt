-- The image of a sound vnode has it for its value.
use Rattle.std.proofs.Common.{◌≡◌, ℕ, suc, ◌%◌, Bool, true, false, List, [], ◌∷◌, length, Option, Some, None, refl, sym, ap, subst, ◌∙◌, arith, eq-eqb, eqb-true, lit<}
use Rattle.std.specs.Prelude.{Result, Ok, Err, ◌==◌, nat_eq, if◌then◌else◌}
use Rattle.std.specs.List.{All, AllByRecursion}
use Rattle.afs_xdr.specs.Words.{AreWords, IsBytes}
use Rattle.afs_num.specs.declared.acls.AccessList.{AccessList}
use Rattle.afs_num.specs.declared.directories.Name.{Name}
use Rattle.spec_ideal.specs.Tables.{get}
use Rattle.spec_ideal.specs.AccessLists.{Refusal, acl_text, acl_at, no_acl}
use Rattle.spec_ideal.specs.Directories.{FitNames, directory_bytes, directory_of}
use Rattle.spec_ideal.specs.VnodeImage.{file_type, directory_type, link_type, kind_fits, image_words}
use Rattle.spec_ideal.specs.Volumes.{VnodeKind, a_file, a_directory, a_link, type_of, Vnode, Volume, bytes_by}
use Rattle.spec_ideal.specs.Images.{Image, IsWord, acl_by, image_of, value_with, directory_value, kind_of, value_of_kind, value_of, HasImage}
use Rattle.spec_ideal.specs.Soundness.{KindFits, HasByKind, IsSound}
use Rattle.spec_ideal.specs.SoundnessLaws.{IsReadAgain}
use Rattle.spec_ideal.proofs.Basics.{some_of}
use Rattle.spec_ideal.proofs.AccessLists.{acl_again, read_is_text}
use Rattle.spec_ideal.proofs.DirectoryBytes.{spelled_is_read, read_is_spelled}

-- with its own kind, contents, names and access list a vnode is itself
built : (n time : ℕ) (x : Vnode) (k : VnodeKind) (contents : List ℕ) (names : List Name) (acl : AccessList) → x.kind ≡ k → x.contents ≡ contents → x.names ≡ names → x.acl ≡ acl → value_with k contents names acl (image_of n time x) ≡ x
built n time x k contents names acl p q r s =
    ap (λ (c : VnodeKind). value_with c contents names acl (image_of n time x)) (sym p)
    ∙ (ap (λ (bytes : List ℕ). value_with x.kind bytes names acl (image_of n time x)) (sym q)
    ∙ (ap (λ (ns : List Name). value_with x.kind x.contents ns acl (image_of n time x)) (sym r)
    ∙ ap (λ (a : AccessList). value_with x.kind x.contents x.names a (image_of n time x)) (sym s)))

-- the image, by a kind
abbrev imaged : VnodeKind → ℕ → ℕ → Vnode → Image
imaged k n time x = record (image_of n time x) { kind = type_of k; acl = acl_by k x; contents = bytes_by k x }

value_by_kind : (k : VnodeKind) (n time : ℕ) (x : Vnode) → x.kind ≡ k → HasByKind k x → FitNames x.names → value_of (imaged k n time x) ≡ Some x
unfolding value_of
value_by_kind a_file n time x e h fits = ap (λ (y : Vnode). Some y) (built n time x a_file x.contents [] no_acl e refl h.names h.acl)
value_by_kind a_link n time x e h fits = ap (λ (y : Vnode). Some y) (built n time x a_link x.contents [] no_acl e refl h.names h.acl)
value_by_kind a_directory n time x e h fits =
    ap (λ (r : Result (List Name) ℕ). directory_value (imaged a_directory n time x) r (acl_at (acl_text x.acl))) (spelled_is_read x.names h.names fits)
    ∙ (ap (λ (r : Result AccessList Refusal). directory_value {E = ℕ} (imaged a_directory n time x) (Ok x.names) r) (acl_again x.acl h.acl)
    ∙ ap (λ (y : Vnode). Some y) (built n time x a_directory [] x.names x.acl e h.contents refl refl))

value_is : (n time : ℕ) (x : Vnode) → HasByKind x.kind x → FitNames x.names → value_of (image_of n time x) ≡ Some x
value_is n time x h fits = value_by_kind x.kind n time x refl h fits

kind_by : (odd : Bool) (k : VnodeKind) (n : ℕ) → (n % 2 == 1) ≡ odd → KindFits n k → kind_fits n (type_of k) ≡ true
unfolding kind_fits
kind_by true a_directory n o h = rw o refl
kind_by true a_file n o h = let z = h.1 (eqb-true (n % 2) 1 o) in absurd cc
kind_by true a_link n o h = let z = h.1 (eqb-true (n % 2) 1 o) in absurd cc
kind_by false a_directory n o h = let z : (n % 2 == 1) ≡ true = eq-eqb (n % 2) 1 (h.0 refl) in absurd cc
kind_by false a_file n o h = rw o refl
kind_by false a_link n o h = rw o refl

each_word : (ns : List ℕ) → All IsWord ns → AllByRecursion IsWord ns
each_word [] h = tt
each_word (n ∷ ns) h = (h 0 n (omega arith), each_word ns (λ k d lt. h (suc k) d (omega (arith, lt))))

kind_is_word : (k : VnodeKind) → IsWord (type_of k)
kind_is_word a_file = lit< tt
kind_is_word a_directory = lit< tt
kind_is_word a_link = lit< tt

words_are : (n time : ℕ) (x : Vnode) → HasImage x → IsWord n → IsWord time → AreWords (image_words (image_of n time x))
words_are n time x h small clock =
    let w = each_word (x.unique ∷ x.index ∷ x.data_version ∷ x.links ∷ x.owner ∷ x.group ∷ x.mode ∷ x.segment_size ∷ x.client_time ∷ x.parent ∷ x.parent_unique ∷ x.changed ∷ []) h.words in
    (small, (w.0, (kind_is_word x.kind, (w.1.0, (w.1.1.0, (w.1.1.1.0, (w.1.1.1.1.0, (w.1.1.1.1.1.0, (w.1.1.1.1.1.1.0, (w.1.1.1.1.1.1.1.0, (w.1.1.1.1.1.1.1.1.0, (clock, (w.1.1.1.1.1.1.1.1.1.0, (w.1.1.1.1.1.1.1.1.1.1.0, (w.1.1.1.1.1.1.1.1.1.1.1.0, tt)))))))))))))))

pub read_again : (v : Volume) (n time : ℕ) (x : Vnode) → IsSound v → get n v.vnodes ≡ Some x → HasImage x → IsReadAgain n time x
read_again v n time x h e image =
    let s = h.vnodes n x e in
    record { fits = record { acl = image.acl; contents = image.contents }; kind = kind_by (n % 2 == 1) x.kind n refl s.kind; value = value_is n time x s.body image.names; words = words_are n time x image }

-- ---- an image that has a value is the image of it

-- with its own kind, list and contents an image is itself
whole : (i : Image) (kind : ℕ) (acl contents : List ℕ) → kind ≡ i.kind → acl ≡ i.acl → contents ≡ i.contents → record i { kind = kind; acl = acl; contents = contents } ≡ i
whole i kind acl contents p q r =
    ap (λ (k : ℕ). record i { kind = k; acl = acl; contents = contents }) p
    ∙ (ap (λ (text : List ℕ). record i { acl = text; contents = contents }) q ∙ ap (λ (bytes : List ℕ). record i { contents = bytes }) r)

no_length : (text : List ℕ) → nat_eq (length text) 0 ≡ true → [] ≡ text
no_length [] e = refl
no_length (b ∷ bs) e = let z : suc (length bs) ≡ 0 = eqb-true (suc (length bs)) 0 e in absurd (omega (arith, z))

-- of a kind, the number of which it is
abbrev Imaged : Image → Vnode → Type 0
Imaged i x = image_of i.vnode i.server_time x ≡ i

file_by : (b : Bool) (i : Image) (x : Vnode) → nat_eq (length i.acl) 0 ≡ b → file_type ≡ i.kind → (if b then Some (value_with a_file i.contents [] no_acl i) else None) ≡ Some x → Imaged i x
file_by false i x t k e = absurd cc
file_by true i x t k e = subst (Imaged i) (some_of (value_with a_file i.contents [] no_acl i) x e) (whole i file_type [] i.contents k (no_length i.acl t) refl)

link_by : (b : Bool) (i : Image) (x : Vnode) → nat_eq (length i.acl) 0 ≡ b → link_type ≡ i.kind → (if b then Some (value_with a_link i.contents [] no_acl i) else None) ≡ Some x → Imaged i x
link_by false i x t k e = absurd cc
link_by true i x t k e = subst (Imaged i) (some_of (value_with a_link i.contents [] no_acl i) x e) (whole i link_type [] i.contents k (no_length i.acl t) refl)

directory_by : {E : Type 0} (i : Image) (x : Vnode) (r : Result (List Name) E) (q : Result AccessList Refusal) → directory_type ≡ i.kind → ((names : List Name) → r ≡ Ok names → directory_bytes names ≡ i.contents) → ((acl : AccessList) → q ≡ Ok acl → acl_text acl ≡ i.acl)
    → directory_value i r q ≡ Some x → Imaged i x
directory_by {E} i x (Ok names) (Ok acl) k n a e = subst (Imaged i) (some_of (value_with a_directory [] names acl i) x e) (whole i directory_type (acl_text acl) (directory_bytes names) k (a acl refl) (n names refl))
directory_by {E} i x (Ok names) (Err f) k n a e = absurd cc
directory_by {E} i x (Err f) q k n a e = absurd cc

imaged_by : (o : Option VnodeKind) (i : Image) (x : Vnode) → ((k : VnodeKind) → o ≡ Some k → type_of k ≡ i.kind) → IsBytes i.contents → value_of_kind o i ≡ Some x → Imaged i x
imaged_by None i x k bytes e = absurd cc
imaged_by (Some a_file) i x k bytes e = file_by (nat_eq (length i.acl) 0) i x refl (k a_file refl) e
imaged_by (Some a_link) i x k bytes e = link_by (nat_eq (length i.acl) 0) i x refl (k a_link refl) e
imaged_by (Some a_directory) i x k bytes e =
    directory_by i x (directory_of i.contents) (acl_at i.acl) (k a_directory refl) (λ names r. (read_is_spelled i.contents names bytes r).2) (λ acl q. sym (read_is_text i.acl acl q).1) e

kind_is : (a b c : Bool) (n : ℕ) (k : VnodeKind) → nat_eq n file_type ≡ a → nat_eq n directory_type ≡ b → nat_eq n link_type ≡ c → (if a then Some a_file else (if b then Some a_directory else (if c then Some a_link else None))) ≡ Some k → type_of k ≡ n
kind_is true b c n k p q r e = subst (λ (z : VnodeKind). type_of z ≡ n) (some_of a_file k e) (sym (eqb-true n file_type p))
kind_is false true c n k p q r e = subst (λ (z : VnodeKind). type_of z ≡ n) (some_of a_directory k e) (sym (eqb-true n directory_type q))
kind_is false false true n k p q r e = subst (λ (z : VnodeKind). type_of z ≡ n) (some_of a_link k e) (sym (eqb-true n link_type r))
kind_is false false false n k p q r e = absurd cc

pub imaged_again : (i : Image) (x : Vnode) → IsBytes i.contents → value_of i ≡ Some x → image_of i.vnode i.server_time x ≡ i
unfolding value_of
imaged_again i x bytes e = imaged_by (kind_of i.kind) i x (λ k q. kind_is (nat_eq i.kind file_type) (nat_eq i.kind directory_type) (nat_eq i.kind link_type) i.kind k refl refl refl q) bytes e

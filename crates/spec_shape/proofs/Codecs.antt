-- What is read is spelled so, and what is spelled is read: parts of a message.
use Rattle.std.proofs.Common.{◌≡◌, ℕ, zero, suc, ◌+◌, ◌^◌, ◌<◌, ◌≤◌, Bool, true, false, cond, ltb, eqb, List, [], ◌∷◌, ◌++◌, length, get_or, take, drop, replicate, ℤ, Result, Ok, Err, refl, sym, ap, subst, ◌∙◌, append_assoc, arith, inl, inr}
use Rattle.std.specs.List.{flat_map, AllByRecursion}
use Rattle.std.proofs.lemmas.List.Concat.{flat_map-cons}
use Rattle.std.specs.Int.{w32, from_be_bytes, to_be_bytes, cast_signed, cast_unsigned}
use Rattle.std.specs.Prelude.{FitsSigned, ◌&&◌, ◌||◌}
use Rattle.std.proofs.lemmas.Int.{of_z-to_z, to_z-of_z, ints}
use Rattle.std.proofs.lemmas.Bool.{cases_lt, ltb-false, le-ltb, eqb-true}
use Rattle.std.proofs.lemmas.List.{take_at, drop_at, take-append-drop, length-append, length-take, length-drop, length-replicate, get_or-drop, get_or-take, get_or_past}
use Rattle.std.proofs.lemmas.Nat.{be_bytes_4, from_be_bytes-to_be_bytes_4}
use Rattle.afs_num.specs.declared.types.Fid.{Fid}
use Rattle.afs_num.specs.declared.calls.AfsStoreStatus.{AfsStoreStatus}
use Rattle.afs_num.specs.declared.calls.AfsFetchStatus.{AfsFetchStatus}
use Rattle.afs_num.specs.declared.calls.AfsCallBack.{AfsCallBack}
use Rattle.afs_num.specs.declared.calls.AfsVolSync.{AfsVolSync}
use Rattle.afs_xdr.specs.declared.faults.XdrFault.{XdrFault}
use Rattle.afs_xdr.specs.declared.faults.XdrFault.TheVariants.{Short, TooLong, BadPad, BadType}
use Rattle.afs_xdr.specs.Words.{AreWords, ◌>>=◌, word, words, opaque, pad, pad_length, are_zero, word_at, counted_at, opaque_at}
use Rattle.spec_shape.specs.Items.{items_at, list_at, fid_at, store_status_at, status_at, callback_at, sync_at, ranged_at, volume_kind_at, server_at}
use Rattle.spec_shape.specs.Spelling.{list, fid, store_status, status, callback, sync, fid_words, store_status_words, status_words, callback_words, sync_words}
use Rattle.spec_shape.specs.Reading.{signed_at}
use Rattle.spec_shape.specs.Tables.{IsCount, IsVolumeKind, IsServer}

abbrev pub IsBytes : List ℕ → Type 0
IsBytes bytes = (i : ℕ) → get_or bytes i 0 < 256

pub IsBytes-drop : (n : ℕ) (bytes : List ℕ) → IsBytes bytes → IsBytes (drop n bytes)
IsBytes-drop n bytes h i = rw get_or-drop (h (n + i))

pub IsBytes-take : (n : ℕ) (bytes : List ℕ) → IsBytes bytes → IsBytes (take n bytes)
IsBytes-take n bytes h i =
    elim (cases_lt i n) [
      | inl lt ↦ rw (get_or-take n bytes i 0 lt) (h i)
      | inr le ↦ rw (get_or_past (take n bytes) i 0 (omega (arith, length-take n bytes))) (omega arith)
    ]

-- the value of a step that did not fail
pub bind_ok : {A B : Type 0} (r : Result A XdrFault) (f : A → Result B XdrFault) (y : B) → (r >>= f) ≡ Ok y → (x : A) × (r ≡ Ok x) × (f x ≡ Ok y)
bind_ok (Ok x) f y e = (x, refl, e)
bind_ok (Err d) f y e = absurd cc

-- a test that did not fail
pub guard_ok : {A : Type 0} (b : Bool) (d : XdrFault) (x y : Result A XdrFault) → cond b (Err d) x ≡ y → (z : A) → y ≡ Ok z → (b ≡ false) × (x ≡ Ok z)
guard_ok true d x y e z h = absurd cc
guard_ok false d x y e z h = (refl, e ∙ h)

abbrev done : {A : Type 0} → A → Result A XdrFault
done x = Ok x

pub ok_is : {A : Type 0} (x y : A) → done x ≡ done y → x ≡ y
ok_is x y e = cc

-- what a reader took from the front
pub record Takes (bytes text rest : List ℕ) : Type 0 where
  pub parts : bytes ≡ text ++ rest
  pub rest_fits : IsBytes rest

pub Takes-then : (a x b y c : List ℕ) → Takes a x b → Takes b y c → Takes a (x ++ y) c
Takes-then a x b y c p q = record { parts = p.parts ∙ ap (λ (t : List ℕ). x ++ t) q.parts ∙ sym (append_assoc x y c); rest_fits = q.rest_fits }

-- a reading and a spelling of the values that fit, each the other's inverse
pub record IsCodec {X : Type 0} (at : List ℕ → Result (X × List ℕ) XdrFault) (spell : X → List ℕ) (Fits : X → Type 0) : Type 0 where
  pub takes : (bytes : List ℕ) (x : X) (rest : List ℕ) → IsBytes bytes → at bytes ≡ Ok (x, rest) → Takes bytes (spell x) rest × Fits x
  pub again : (x : X) (rest : List ℕ) → Fits x → at (spell x ++ rest) ≡ Ok (x, rest)

-- ---- words

word_takes : (bytes : List ℕ) (n : ℕ) (rest : List ℕ) → IsBytes bytes → word_at bytes ≡ Ok (n, rest) → Takes bytes (word n) rest × (n < 2 ^ 32)
unfolding word_at word
word_takes bytes n rest fits e =
    let g = guard_ok (ltb (length bytes) 4) Short (Ok (from_be_bytes w32 (take 4 bytes), drop 4 bytes)) (Ok (n, rest)) e (n, rest) refl in
    let long : 4 ≤ length bytes = ltb-false _ _ g.0 in
    let both : (from_be_bytes w32 (take 4 bytes), drop 4 bytes) ≡ (n, rest) = ok_is _ _ g.1 in
    let n-is : from_be_bytes w32 (take 4 bytes) ≡ n = ap (λ (p : ℕ × List ℕ). p.0) both in
    let rest-is : drop 4 bytes ≡ rest = ap (λ (p : ℕ × List ℕ). p.1) both in
    let front-fits = IsBytes-take 4 bytes fits in
    let front : to_be_bytes w32 n ≡ take 4 bytes = be_bytes_4 (take 4 bytes) n (omega (arith, length-take 4 bytes)) front-fits (sym n-is) in
    let whole : bytes ≡ to_be_bytes w32 n ++ rest = sym (take-append-drop 4 bytes) ∙ (ap (λ (t : List ℕ). t ++ drop 4 bytes) (sym front) ∙ ap (λ (r : List ℕ). to_be_bytes w32 n ++ r) rest-is) in
    let small : from_be_bytes w32 (take 4 bytes) < 2 ^ 32 = omega (arith, front-fits 0, front-fits 1, front-fits 2, front-fits 3) in
    (record { parts = whole; rest_fits = subst (λ (r : List ℕ). IsBytes r) rest-is (IsBytes-drop 4 bytes fits) }, subst (λ (m : ℕ). m < 2 ^ 32) n-is small)

word_again : (n : ℕ) (rest : List ℕ) → n < 2 ^ 32 → word_at (word n ++ rest) ≡ Ok (n, rest)
unfolding word_at word
word_again n rest lt =
    let long : ltb (length (to_be_bytes w32 n ++ rest)) 4 ≡ false = le-ltb _ _ (omega (arith, length-append (to_be_bytes w32 n) rest)) in
    rw long (ap (λ (m : ℕ). Ok (m, rest)) (from_be_bytes-to_be_bytes_4 n lt))

pub word_codec : IsCodec word_at word (λ n. n < 2 ^ 32)
word_codec = record { takes = word_takes; again = word_again }

pub bind_assoc : {A B C : Type 0} (r : Result A XdrFault) (f : A → Result B XdrFault) (g : B → Result C XdrFault) → ((r >>= f) >>= g) ≡ (r >>= λ x. f x >>= g)
bind_assoc (Ok x) f g = refl
bind_assoc (Err e) f g = refl

-- ---- so many items

pub items_takes : {T : Type 0} (at : List ℕ → Result (T × List ℕ) XdrFault) (spell : T → List ℕ) (Fits : T → Type 0) → IsCodec at spell Fits → (n : ℕ) (bytes : List ℕ) (xs : List T) (rest : List ℕ)
    → IsBytes bytes → items_at at n bytes ≡ Ok (xs, rest) → Takes bytes (flat_map spell xs) rest × (length xs ≡ n) × AllByRecursion Fits xs
unfolding items_at
items_takes {T} at spell Fits codec zero bytes xs rest fits e =
    subst (λ (y : List T × List ℕ). Takes bytes (flat_map spell y.0) y.1 × (length y.0 ≡ 0) × AllByRecursion Fits y.0) (ok_is ([], bytes) (xs, rest) e) (record { parts = refl; rest_fits = fits }, refl, tt)
items_takes {T} at spell Fits codec (suc n) bytes xs rest fits e =
    let a = bind_ok (at bytes) (λ first. items_at at n first.1 >>= λ others. Ok (first.0 ∷ others.0, others.1)) (xs, rest) e in
    let b = bind_ok (items_at at n a.0.1) (λ others. Ok (a.0.0 ∷ others.0, others.1)) (xs, rest) a.2 in
    let first = codec.takes bytes a.0.0 a.0.1 fits a.1 in
    let second = items_takes at spell Fits codec n a.0.1 b.0.0 b.0.1 first.0.rest_fits b.1 in
    let both = Takes-then bytes (spell a.0.0) a.0.1 (flat_map spell b.0.0) b.0.1 first.0 second.0 in
    let made : List T × List ℕ = (a.0.0 ∷ b.0.0, b.0.1) in
    subst (λ (y : List T × List ℕ). Takes bytes (flat_map spell y.0) y.1 × (length y.0 ≡ suc n) × AllByRecursion Fits y.0) (ok_is made (xs, rest) b.2) (rw flat_map-cons both, ap suc second.1, (first.1, second.2))

pub items_again : {T : Type 0} (at : List ℕ → Result (T × List ℕ) XdrFault) (spell : T → List ℕ) (Fits : T → Type 0) → IsCodec at spell Fits → (xs : List T) (rest : List ℕ)
    → AllByRecursion Fits xs → items_at at (length xs) (flat_map spell xs ++ rest) ≡ Ok (xs, rest)
unfolding items_at
items_again {T} at spell Fits codec [] rest fits = refl
items_again {T} at spell Fits codec (x ∷ xs) rest fits =
    let regrouped : flat_map spell (x ∷ xs) ++ rest ≡ spell x ++ (flat_map spell xs ++ rest) = ap (λ (t : List ℕ). t ++ rest) (flat_map-cons spell x xs) ∙ append_assoc (spell x) (flat_map spell xs) rest in
    ap (items_at at (suc (length xs))) regrouped ∙ rw (codec.again x (flat_map spell xs ++ rest) fits.0, items_again at spell Fits codec xs rest fits.1) refl

-- ---- parts of so many words

-- a value that its words make, and that makes its words
pub record IsOfWords {X : Type 0} (n : ℕ) (made : List ℕ → X) (told : X → List ℕ) : Type 0 where
  pub len : (x : X) → length (told x) ≡ n
  pub back : (ws : List ℕ) → length ws ≡ n → told (made ws) ≡ ws
  pub again : (x : X) → made (told x) ≡ x

pub words_codec : {X : Type 0} (n : ℕ) (made : List ℕ → X) (told : X → List ℕ) (at : List ℕ → Result (X × List ℕ) XdrFault) → IsOfWords n made told
    → ((bytes : List ℕ) → at bytes ≡ (items_at word_at n bytes >>= λ ws. Ok (made ws.0, ws.1))) → IsCodec at (λ x. words (told x)) (λ x. AreWords (told x))
words_codec {X} n made told at of_words is = record {
  takes = λ bytes x rest fits e.
      let a = bind_ok (items_at word_at n bytes) (λ ws. Ok (made ws.0, ws.1)) (x, rest) (sym (is bytes) ∙ e) in
      let t = items_takes word_at word (λ m. m < 2 ^ 32) word_codec n bytes a.0.0 a.0.1 fits a.1 in
      let back = of_words.back a.0.0 t.1 in
      subst (λ (y : X × List ℕ). Takes bytes (words (told y.0)) y.1 × AreWords (told y.0)) (ok_is (made a.0.0, a.0.1) (x, rest) a.2) (subst (λ (ws : List ℕ). Takes bytes (words ws) a.0.1 × AreWords ws) (sym back) (t.0, t.2));
  again = λ x rest fits.
      let read : items_at word_at (length (told x)) (words (told x) ++ rest) ≡ Ok (told x, rest) = items_again word_at word (λ m. m < 2 ^ 32) word_codec (told x) rest fits in
      is (words (told x) ++ rest) ∙ (ap (λ (m : ℕ). items_at word_at m (words (told x) ++ rest) >>= λ ws. Ok (made ws.0, ws.1)) (sym (of_words.len x)) ∙ (ap (λ (r : Result (List ℕ × List ℕ) XdrFault). r >>= λ ws. Ok (made ws.0, ws.1)) read ∙ ap (λ (v : X). Ok (v, rest)) (of_words.again x)));
}

fid_of : List ℕ → Fid
fid_of ws = record { volume = get_or ws 0 0; vnode = get_or ws 1 0; unique = get_or ws 2 0 }

fid_back : (ws : List ℕ) → length ws ≡ 3 → fid_words (fid_of ws) ≡ ws
unfolding fid_of
fid_back (n0 ∷ n1 ∷ n2 ∷ []) e = refl
fid_back _ e = absurd (omega arith)

fid_of_words : IsOfWords 3 fid_of fid_words
unfolding fid_of
fid_of_words = record { len = λ x. refl; back = fid_back; again = λ x. refl }

fid_by_words : (bytes : List ℕ) → fid_at bytes ≡ (items_at word_at 3 bytes >>= λ ws. Ok (fid_of ws.0, ws.1))
unfolding fid_at items_at fid_of
fid_by_words bytes = simp bind_assoc

pub fid_codec : IsCodec fid_at fid (λ x. AreWords (fid_words x))
fid_codec = words_codec 3 fid_of fid_words fid_at fid_of_words fid_by_words

store_status_of : List ℕ → AfsStoreStatus
store_status_of ws = record { mask = get_or ws 0 0; client_mod_time = get_or ws 1 0; owner = get_or ws 2 0; group = get_or ws 3 0; unix_mode_bits = get_or ws 4 0; seg_size = get_or ws 5 0 }

store_status_back : (ws : List ℕ) → length ws ≡ 6 → store_status_words (store_status_of ws) ≡ ws
unfolding store_status_of
store_status_back (n0 ∷ n1 ∷ n2 ∷ n3 ∷ n4 ∷ n5 ∷ []) e = refl
store_status_back _ e = absurd (omega arith)

store_status_of_words : IsOfWords 6 store_status_of store_status_words
unfolding store_status_of
store_status_of_words = record { len = λ x. refl; back = store_status_back; again = λ x. refl }

store_status_by_words : (bytes : List ℕ) → store_status_at bytes ≡ (items_at word_at 6 bytes >>= λ ws. Ok (store_status_of ws.0, ws.1))
unfolding store_status_at items_at store_status_of
store_status_by_words bytes = simp bind_assoc

pub store_status_codec : IsCodec store_status_at store_status (λ x. AreWords (store_status_words x))
store_status_codec = words_codec 6 store_status_of store_status_words store_status_at store_status_of_words store_status_by_words

callback_of : List ℕ → AfsCallBack
callback_of ws = record { version = get_or ws 0 0; expiration_time = get_or ws 1 0; kind = get_or ws 2 0 }

callback_back : (ws : List ℕ) → length ws ≡ 3 → callback_words (callback_of ws) ≡ ws
unfolding callback_of
callback_back (n0 ∷ n1 ∷ n2 ∷ []) e = refl
callback_back _ e = absurd (omega arith)

callback_of_words : IsOfWords 3 callback_of callback_words
unfolding callback_of
callback_of_words = record { len = λ x. refl; back = callback_back; again = λ x. refl }

callback_by_words : (bytes : List ℕ) → callback_at bytes ≡ (items_at word_at 3 bytes >>= λ ws. Ok (callback_of ws.0, ws.1))
unfolding callback_at items_at callback_of
callback_by_words bytes = simp bind_assoc

pub callback_codec : IsCodec callback_at callback (λ x. AreWords (callback_words x))
callback_codec = words_codec 3 callback_of callback_words callback_at callback_of_words callback_by_words

sync_of : List ℕ → AfsVolSync
sync_of ws = record { release = get_or ws 0 0; spare1 = get_or ws 1 0; spare2 = get_or ws 2 0; spare3 = get_or ws 3 0; spare4 = get_or ws 4 0; spare5 = get_or ws 5 0 }

sync_back : (ws : List ℕ) → length ws ≡ 6 → sync_words (sync_of ws) ≡ ws
unfolding sync_of
sync_back (n0 ∷ n1 ∷ n2 ∷ n3 ∷ n4 ∷ n5 ∷ []) e = refl
sync_back _ e = absurd (omega arith)

sync_of_words : IsOfWords 6 sync_of sync_words
unfolding sync_of
sync_of_words = record { len = λ x. refl; back = sync_back; again = λ x. refl }

sync_by_words : (bytes : List ℕ) → sync_at bytes ≡ (items_at word_at 6 bytes >>= λ ws. Ok (sync_of ws.0, ws.1))
unfolding sync_at items_at sync_of
sync_by_words bytes = simp bind_assoc

pub sync_codec : IsCodec sync_at sync (λ x. AreWords (sync_words x))
sync_codec = words_codec 6 sync_of sync_words sync_at sync_of_words sync_by_words

status_of : List ℕ → AfsFetchStatus
status_of ws = record { interface_version = get_or ws 0 0; file_type = get_or ws 1 0; link_count = get_or ws 2 0; length = get_or ws 3 0; data_version = get_or ws 4 0; author = get_or ws 5 0; owner = get_or ws 6 0; caller_access = get_or ws 7 0; anonymous_access = get_or ws 8 0; unix_mode_bits = get_or ws 9 0; parent_vnode = get_or ws 10 0; parent_unique = get_or ws 11 0; seg_size = get_or ws 12 0; client_mod_time = get_or ws 13 0; server_mod_time = get_or ws 14 0; group = get_or ws 15 0; sync_counter = get_or ws 16 0; spare1 = get_or ws 17 0; spare2 = get_or ws 18 0; spare3 = get_or ws 19 0; spare4 = get_or ws 20 0 }

status_back : (ws : List ℕ) → length ws ≡ 21 → status_words (status_of ws) ≡ ws
unfolding status_of
status_back (n0 ∷ n1 ∷ n2 ∷ n3 ∷ n4 ∷ n5 ∷ n6 ∷ n7 ∷ n8 ∷ n9 ∷ n10 ∷ n11 ∷ n12 ∷ n13 ∷ n14 ∷ n15 ∷ n16 ∷ n17 ∷ n18 ∷ n19 ∷ n20 ∷ []) e = refl
status_back _ e = absurd (omega arith)

status_of_words : IsOfWords 21 status_of status_words
unfolding status_of
status_of_words = record { len = λ x. refl; back = status_back; again = λ x. refl }

status_by_words : (bytes : List ℕ) → status_at bytes ≡ (items_at word_at 21 bytes >>= λ ws. Ok (status_of ws.0, ws.1))
unfolding status_at items_at status_of
status_by_words bytes = simp bind_assoc

pub status_codec : IsCodec status_at status (λ x. AreWords (status_words x))
status_codec = words_codec 21 status_of status_words status_at status_of_words status_by_words

-- ---- lists

list_takes : {T : Type 0} (at : List ℕ → Result (T × List ℕ) XdrFault) (spell : T → List ℕ) (Fits : T → Type 0) (most : ℕ) → IsCodec at spell Fits → (bytes : List ℕ) (xs : List T) (rest : List ℕ)
    → IsBytes bytes → list_at at most bytes ≡ Ok (xs, rest) → Takes bytes (list spell xs) rest × (IsCount most (length xs) × AllByRecursion Fits xs)
unfolding list_at
list_takes {T} at spell Fits most codec bytes xs rest fits e =
    let a = bind_ok (word_at bytes) (λ count. cond (ltb most count.0) (Err TooLong) (items_at at count.0 count.1)) (xs, rest) e in
    let n = a.0.0 in
    let after = a.0.1 in
    let few = guard_ok (ltb most n) TooLong (items_at at n after) (Ok (xs, rest)) a.2 (xs, rest) refl in
    let t = word_takes bytes n after fits a.1 in
    let u = items_takes at spell Fits codec n after xs rest t.0.rest_fits few.1 in
    let both = Takes-then bytes (word n) after (flat_map spell xs) rest t.0 u.0 in
    let within : n ≤ most = ltb-false _ _ few.0 in
    (subst (λ (k : ℕ). Takes bytes (word k ++ flat_map spell xs) rest) (sym u.1) both, ((omega (arith, within, u.1), omega (arith, t.1, u.1)), u.2))

list_again : {T : Type 0} (at : List ℕ → Result (T × List ℕ) XdrFault) (spell : T → List ℕ) (Fits : T → Type 0) (most : ℕ) → IsCodec at spell Fits → (xs : List T) (rest : List ℕ)
    → IsCount most (length xs) × AllByRecursion Fits xs → list_at at most (list spell xs ++ rest) ≡ Ok (xs, rest)
unfolding list_at
list_again {T} at spell Fits most codec xs rest fits =
    let few : ltb most (length xs) ≡ false = le-ltb _ _ fits.0.0 in
    ap (list_at at most) (append_assoc (word (length xs)) (flat_map spell xs) rest) ∙ rw (word_again (length xs) (flat_map spell xs ++ rest) fits.0.1, few) (items_again at spell Fits codec xs rest fits.1)

pub list_codec : {T : Type 0} (at : List ℕ → Result (T × List ℕ) XdrFault) (spell : T → List ℕ) (Fits : T → Type 0) (most : ℕ) → IsCodec at spell Fits
    → IsCodec (list_at at most) (list spell) (λ xs. IsCount most (length xs) × AllByRecursion Fits xs)
list_codec {T} at spell Fits most codec = record { takes = list_takes at spell Fits most codec; again = list_again at spell Fits most codec }

-- ---- opaques

both_true : (x y : Bool) → (x && y) ≡ true → (x ≡ true) × (y ≡ true)
both_true true y e = (refl, e)
both_true false y e = absurd cc

zeros_are : (bytes : List ℕ) → are_zero bytes ≡ true → bytes ≡ replicate (length bytes) 0
zeros_are [] e = refl
zeros_are (b ∷ bytes) e =
    let both = both_true (eqb b 0) (are_zero bytes) e in
    let first : b ≡ 0 = eqb-true b 0 both.0 in
    ap (λ (k : ℕ). k ∷ bytes) first ∙ ap (λ (t : List ℕ). 0 ∷ t) (zeros_are bytes both.1)

zeros_pass : (n : ℕ) → are_zero (replicate n 0) ≡ true
zeros_pass zero = refl
zeros_pass (suc n) = zeros_pass n

checked_ok : {A : Type 0} (b : Bool) (d : XdrFault) (x y : A) → cond b (done x) (Err d) ≡ Ok y → (b ≡ true) × (x ≡ y)
checked_ok true d x y e = (refl, ok_is x y e)
checked_ok false d x y e = absurd cc

counted_takes : (n : ℕ) (bytes text rest : List ℕ) → IsBytes bytes → counted_at n bytes ≡ Ok (text, rest) → Takes bytes (text ++ pad n) rest × (length text ≡ n)
unfolding counted_at pad
counted_takes n bytes text rest fits e =
    let p = pad_length n in
    let g = guard_ok (ltb (length bytes) (n + p)) Short (cond (are_zero (take p (drop n bytes))) (Ok (take n bytes, drop p (drop n bytes))) (Err BadPad)) (Ok (text, rest)) e (text, rest) refl in
    let h = checked_ok (are_zero (take p (drop n bytes))) BadPad (take n bytes, drop p (drop n bytes)) (text, rest) g.1 in
    let long : n + p ≤ length bytes = ltb-false _ _ g.0 in
    let text-len : length (take n bytes) ≡ n = omega (arith, length-take n bytes) in
    let pad-len : length (take p (drop n bytes)) ≡ p = omega (arith, length-take p (drop n bytes), length-drop n bytes) in
    let zeros : take p (drop n bytes) ≡ replicate p 0 = zeros_are _ h.0 ∙ ap (λ (k : ℕ). replicate k 0) pad-len in
    let behind : drop n bytes ≡ replicate p 0 ++ drop p (drop n bytes) = sym (take-append-drop p (drop n bytes)) ∙ ap (λ (t : List ℕ). t ++ drop p (drop n bytes)) zeros in
    let whole : bytes ≡ (take n bytes ++ replicate p 0) ++ drop p (drop n bytes) = sym (take-append-drop n bytes) ∙ (ap (λ (t : List ℕ). take n bytes ++ t) behind ∙ sym (append_assoc (take n bytes) (replicate p 0) (drop p (drop n bytes)))) in
    let parts : Takes bytes (take n bytes ++ replicate p 0) (drop p (drop n bytes)) = record { parts = whole; rest_fits = IsBytes-drop p (drop n bytes) (IsBytes-drop n bytes fits) } in
    subst (λ (y : List ℕ × List ℕ). Takes bytes (y.0 ++ replicate p 0) y.1 × (length y.0 ≡ n)) h.1 (parts, text-len)

counted_again : (text rest : List ℕ) → counted_at (length text) (text ++ (pad (length text) ++ rest)) ≡ Ok (text, rest)
unfolding counted_at pad
counted_again text rest =
    let p = pad_length (length text) in
    let zeros = replicate p 0 in
    let behind : drop (length text) (text ++ (zeros ++ rest)) ≡ zeros ++ rest = drop_at text (zeros ++ rest) (length text) refl in
    let front : take (length text) (text ++ (zeros ++ rest)) ≡ text = take_at text (zeros ++ rest) (length text) refl in
    let pad-len : length zeros ≡ p = length-replicate p 0 in
    let padded : take p (zeros ++ rest) ≡ zeros = take_at zeros rest p pad-len in
    let after : drop p (zeros ++ rest) ≡ rest = drop_at zeros rest p pad-len in
    let long : ltb (length (text ++ (zeros ++ rest))) (length text + p) ≡ false = le-ltb _ _ (omega (arith, length-append text (zeros ++ rest), length-append zeros rest, pad-len)) in
    rw (long, behind, padded, zeros_pass p, front, after) refl

opaque_takes : (most : ℕ) (bytes text rest : List ℕ) → IsBytes bytes → opaque_at most bytes ≡ Ok (text, rest) → Takes bytes (opaque text) rest × IsCount most (length text)
unfolding opaque_at opaque
opaque_takes most bytes text rest fits e =
    let a = bind_ok (word_at bytes) (λ count. cond (ltb most count.0) (Err TooLong) (counted_at count.0 count.1)) (text, rest) e in
    let few = guard_ok (ltb most a.0.0) TooLong (counted_at a.0.0 a.0.1) (Ok (text, rest)) a.2 (text, rest) refl in
    let t = word_takes bytes a.0.0 a.0.1 fits a.1 in
    let u = counted_takes a.0.0 a.0.1 text rest t.0.rest_fits few.1 in
    let both = Takes-then bytes (word a.0.0) a.0.1 (text ++ pad a.0.0) rest t.0 u.0 in
    let within : a.0.0 ≤ most = ltb-false _ _ few.0 in
    (subst (λ (k : ℕ). Takes bytes (word k ++ (text ++ pad k)) rest) (sym u.1) both, (omega (arith, within, u.1), omega (arith, t.1, u.1)))

opaque_again : (most : ℕ) (text rest : List ℕ) → IsCount most (length text) → opaque_at most (opaque text ++ rest) ≡ Ok (text, rest)
unfolding opaque_at opaque
opaque_again most text rest fits =
    let n = length text in
    let few : ltb most n ≡ false = le-ltb _ _ fits.0 in
    let regrouped : (word n ++ (text ++ pad n)) ++ rest ≡ word n ++ (text ++ (pad n ++ rest)) = append_assoc (word n) (text ++ pad n) rest ∙ ap (λ (t : List ℕ). word n ++ t) (append_assoc text (pad n) rest) in
    ap (λ (t : List ℕ). word_at t >>= λ count. cond (ltb most count.0) (Err TooLong) (counted_at count.0 count.1)) regrouped ∙ rw (word_again n (text ++ (pad n ++ rest)) fits.1, few) (counted_again text rest)

pub opaque_codec : (most : ℕ) → IsCodec (opaque_at most) opaque (λ bytes. IsCount most (length bytes))
opaque_codec most = record { takes = opaque_takes most; again = opaque_again most }

-- ---- signed words, and words between two others

signed_takes : (bytes : List ℕ) (z : ℤ) (rest : List ℕ) → IsBytes bytes → signed_at bytes ≡ Ok (z, rest) → Takes bytes (word (cast_unsigned w32 z)) rest × FitsSigned w32 z
unfolding signed_at
signed_takes bytes z rest fits e =
    let a = bind_ok (word_at bytes) (λ n. Ok (cast_signed w32 n.0, n.1)) (z, rest) e in
    let t = word_takes bytes a.0.0 a.0.1 fits a.1 in
    let same : cast_unsigned w32 (cast_signed w32 a.0.0) ≡ a.0.0 = of_z-to_z w32 a.0.0 t.1 in
    let in_range : FitsSigned w32 (cast_signed w32 a.0.0) = grind (arith, ints, t.1) in
    subst (λ (y : ℤ × List ℕ). Takes bytes (word (cast_unsigned w32 y.0)) y.1 × FitsSigned w32 y.0) (ok_is (cast_signed w32 a.0.0, a.0.1) (z, rest) a.2) (subst (λ (k : ℕ). Takes bytes (word k) a.0.1) (sym same) t.0, in_range)

signed_again : (z : ℤ) (rest : List ℕ) → FitsSigned w32 z → signed_at (word (cast_unsigned w32 z) ++ rest) ≡ Ok (z, rest)
unfolding signed_at
signed_again z rest fits =
    let small : cast_unsigned w32 z < 2 ^ 32 = grind (arith, ints, fits) in
    rw (word_again (cast_unsigned w32 z) rest small) (ap (λ (y : ℤ). done (y, rest)) (to_z-of_z w32 z fits))

pub signed_codec : IsCodec signed_at (λ z. word (cast_unsigned w32 z)) (λ z. FitsSigned w32 z)
signed_codec = record { takes = signed_takes; again = signed_again }

neither : (x y : Bool) → (x || y) ≡ false → (x ≡ false) × (y ≡ false)
neither false y e = (refl, e)
neither true y e = absurd cc

ranged_takes : (low high : ℕ) (bytes : List ℕ) (n : ℕ) (rest : List ℕ) → IsBytes bytes → ranged_at low high bytes ≡ Ok (n, rest) → Takes bytes (word n) rest × (((low ≤ n) × (n ≤ high)) × (n < 2 ^ 32))
unfolding ranged_at
ranged_takes low high bytes n rest fits e =
    let a = bind_ok (word_at bytes) (λ k. cond (ltb k.0 low || ltb high k.0) (Err BadType) (Ok k)) (n, rest) e in
    let g = guard_ok (ltb a.0.0 low || ltb high a.0.0) BadType (Ok a.0) (Ok (n, rest)) a.2 (n, rest) refl in
    let both = neither (ltb a.0.0 low) (ltb high a.0.0) g.0 in
    let t = word_takes bytes a.0.0 a.0.1 fits a.1 in
    let least : low ≤ a.0.0 = ltb-false _ _ both.0 in
    let most : a.0.0 ≤ high = ltb-false _ _ both.1 in
    subst (λ (y : ℕ × List ℕ). Takes bytes (word y.0) y.1 × (((low ≤ y.0) × (y.0 ≤ high)) × (y.0 < 2 ^ 32))) (ok_is a.0 (n, rest) g.1) (t.0, ((least, most), t.1))

ranged_again : (low high n : ℕ) (rest : List ℕ) → ((low ≤ n) × (n ≤ high)) × (n < 2 ^ 32) → ranged_at low high (word n ++ rest) ≡ Ok (n, rest)
unfolding ranged_at
ranged_again low high n rest fits =
    let least : ltb n low ≡ false = le-ltb _ _ fits.0.0 in
    let most : ltb high n ≡ false = le-ltb _ _ fits.0.1 in
    rw (word_again n rest fits.1, least, most) refl

pub ranged_codec : (low high : ℕ) → IsCodec (ranged_at low high) word (λ n. ((low ≤ n) × (n ≤ high)) × (n < 2 ^ 32))
ranged_codec low high = record { takes = ranged_takes low high; again = ranged_again low high }

-- what fits, said in other words
pub fits_codec : {X : Type 0} {at : List ℕ → Result (X × List ℕ) XdrFault} {spell : X → List ℕ} {Fits : X → Type 0} (Other : X → Type 0) → IsCodec at spell Fits → ((x : X) → Fits x → Other x) → ((x : X) → Other x → Fits x) → IsCodec at spell Other
fits_codec {X} {at} {spell} {Fits} Other codec to from = record {
  takes = λ bytes x rest fits e. let t = codec.takes bytes x rest fits e in (t.0, to x t.1);
  again = λ x rest other. codec.again x rest (from x other);
}

pub volume_kind_codec : IsCodec volume_kind_at word (λ n. IsVolumeKind n × (n < 2 ^ 32))
volume_kind_codec = fits_codec (λ n. IsVolumeKind n × (n < 2 ^ 32)) (ranged_codec 0 2) (λ n h. (h.0.1, h.1)) (λ n h. ((omega arith, h.0), h.1))

pub server_codec : IsCodec server_at word (λ n. IsServer n × (n < 2 ^ 32))
server_codec = ranged_codec 1 8

-- A header that is read is spelled so, and one that is spelled is read again.
use Rattle.std.proofs.Common.{◌≡◌, ℕ, ◌+◌, ◌-◌, ◌^◌, ◌<◌, ◌≤◌, Bool, true, false, cond, leb, List, [], ◌∷◌, ◌++◌, length, get_or, Option, Some, None, Ok, refl, sym, ap, subst, ◌∙◌, append_assoc, arith, inl, inr, lit≤, ◌⊎◌}
use Rattle.std.specs.Prelude.{◌&&◌, nat_eq}
use Rattle.std.proofs.lemmas.List.Concat.{flat_map-cons}
use Rattle.std.proofs.lemmas.Bool.{eqb-true, leb-true}
use Rattle.afs_num.specs.Nodes.{node_number, node_of, is_between, IsNode}
use Rattle.afs_num.specs.declared.types.Node.{Node}
use Rattle.afs_num.specs.declared.types.Node.TheVariants.{Loc, Server, Client, Admin}
use Rattle.afs_num.specs.declared.types.Half.{Half}
use Rattle.afs_num.specs.declared.types.Half.TheVariants as halves
use Rattle.afs_num.specs.declared.types.Head.{Head}
use Rattle.afs_xdr.specs.Words.{◌>>=◌, word, words, word_at}
use Rattle.afs_xdr.specs.Words.{AreWords}
use Rattle.spec_model.specs.Heads.{half_number, half_of, known, half_at, node_at, head_at, head_words, FitsHead}
use Rattle.spec_shape.proofs.Codecs.{IsBytes, Takes, Takes-then, bind_ok, bind_assoc, ok_is, word_codec, items_takes}
use Rattle.spec_shape.specs.Items.{items_at}

-- which way a test went
chosen : {A : Type 0} (b : Bool) (x y z : Option A) → cond b x y ≡ z → ((b ≡ true) × (x ≡ z)) ⊎ ((b ≡ false) × (y ≡ z))
chosen true x y z e = inl (refl, e)
chosen false x y z e = inr (refl, e)

some_is : {A : Type 0} (x y : A) → Some x ≡ Some y → x ≡ y
some_is x y e = cc

both_true : (x y : Bool) → (x && y) ≡ true → (x ≡ true) × (y ≡ true)
both_true true y e = (refl, e)
both_true false y e = absurd cc

none_is_some : {A : Type 0} (x : A) → None ≡ Some x → ⊥
none_is_some x e = cc

-- a number within bounds above a base
above : (base low high n : ℕ) → is_between low high n ≡ true → base ≤ low → n ≡ base + (n - base)
above base low high n e le =
    let both = both_true (leb low n) (leb n high) e in
    let least : low ≤ n = leb-true low n both.0 in
    omega arith

half_told : (n : ℕ) (h : Half) → half_of n ≡ Some h → half_number h ≡ n
half_told n h e = elim (chosen (nat_eq n 1) (Some halves.Call) _ (Some h) e) [
  | inl a ↦ sym (eqb-true n 1 a.0 ∙ ap half_number (some_is halves.Call h a.1))
  | inr a ↦ elim (chosen (nat_eq n 2) (Some halves.Reply) _ (Some h) a.1) [
    | inl b ↦ sym (eqb-true n 2 b.0 ∙ ap half_number (some_is halves.Reply h b.1))
    | inr b ↦ elim (chosen (nat_eq n 3) (Some halves.Boot) None (Some h) b.1) [
      | inl c ↦ sym (eqb-true n 3 c.0 ∙ ap half_number (some_is halves.Boot h c.1))
      | inr c ↦ absurd (none_is_some h c.1)
    ]
  ]
]

node_told : (n : ℕ) (x : Node) → node_of n ≡ Some x → node_number x ≡ n
node_told n x e = elim (chosen (nat_eq n 0) (Some Loc) _ (Some x) e) [
  | inl a ↦ sym (eqb-true n 0 a.0 ∙ ap node_number (some_is Loc x a.1))
  | inr a ↦ elim (chosen (is_between 1 8 n) (Some (Server n)) _ (Some x) a.1) [
    | inl b ↦ sym (ap node_number (some_is (Server n) x b.1))
    | inr b ↦ elim (chosen (is_between 101 116 n) (Some (Client (n - 100))) _ (Some x) b.1) [
      | inl c ↦ sym (above 100 101 116 n c.0 (lit≤ tt) ∙ ap node_number (some_is (Client (n - 100)) x c.1))
      | inr c ↦ elim (chosen (is_between 201 204 n) (Some (Admin (n - 200))) None (Some x) c.1) [
        | inl d ↦ sym (above 200 201 204 n d.0 (lit≤ tt) ∙ ap node_number (some_is (Admin (n - 200)) x d.1))
        | inr d ↦ absurd (none_is_some x d.1)
      ]
    ]
  ]
]

known_ok : {A : Type 0} (o : Option A) (behind : List ℕ) (x : A) (rest : List ℕ) → known o behind ≡ Ok (x, rest) → (o ≡ Some x) × (behind ≡ rest)
known_ok {A} (Some y) behind x rest e =
    let both : (y, behind) ≡ (x, rest) = ok_is (y, behind) (x, rest) e in
    (ap (λ (p : A × List ℕ). Some p.0) both, ap (λ (p : A × List ℕ). p.1) both)
known_ok None behind x rest e = absurd cc

words_then : (a : List ℕ) (n : ℕ) (b : List ℕ) (ns c : List ℕ) → Takes a (word n) b → Takes b (words ns) c → Takes a (words (n ∷ ns)) c
words_then a n b ns c p q = rw flat_map-cons (Takes-then a (word n) b (words ns) c p q)

-- a word that was taken from the front
pub record TakesWord (bytes : List ℕ) (n : ℕ) (rest : List ℕ) : Type 0 where
  pub takes : Takes bytes (word n) rest
  pub small : n < 2 ^ 32

half_takes : (bytes : List ℕ) (h : Half) (rest : List ℕ) → IsBytes bytes → half_at bytes ≡ Ok (h, rest) → TakesWord bytes (half_number h) rest
unfolding half_at
half_takes bytes h rest fits e =
    let a = bind_ok (word_at bytes) (λ n. known (half_of n.0) n.1) (h, rest) e in
    let k = known_ok (half_of a.0.0) a.0.1 h rest a.2 in
    let t = word_codec.takes bytes a.0.0 a.0.1 fits a.1 in
    let here : TakesWord bytes a.0.0 a.0.1 = record { takes = t.0; small = t.1 } in
    subst (λ (r : List ℕ). TakesWord bytes (half_number h) r) k.1 (subst (λ (n : ℕ). TakesWord bytes n a.0.1) (sym (half_told a.0.0 h k.0)) here)

pub record TakesNode (bytes : List ℕ) (x : Node) (rest : List ℕ) : Type 0 where
  pub word_taken : TakesWord bytes (node_number x) rest
  pub is_node : IsNode x

node_takes : (bytes : List ℕ) (x : Node) (rest : List ℕ) → IsBytes bytes → node_at bytes ≡ Ok (x, rest) → TakesNode bytes x rest
unfolding node_at
node_takes bytes x rest fits e =
    let a = bind_ok (word_at bytes) (λ n. known (node_of n.0) n.1) (x, rest) e in
    let k = known_ok (node_of a.0.0) a.0.1 x rest a.2 in
    let t = word_codec.takes bytes a.0.0 a.0.1 fits a.1 in
    let told : node_number x ≡ a.0.0 = node_told a.0.0 x k.0 in
    let here : TakesWord bytes a.0.0 a.0.1 = record { takes = t.0; small = t.1 } in
    record {
      word_taken = subst (λ (r : List ℕ). TakesWord bytes (node_number x) r) k.1 (subst (λ (n : ℕ). TakesWord bytes n a.0.1) (sym told) here);
      is_node = ap node_of told ∙ k.0;
    }

pub record TakesHead (bytes : List ℕ) (h : Head) (rest : List ℕ) : Type 0 where
  pub takes : Takes bytes (words (head_words h)) rest
  pub fits : FitsHead h

head_of : Half → Node → Node → List ℕ → Head
head_of half from to ws = record { half = half; from = from; to = to; epoch = get_or ws 0 0; number = get_or ws 1 0; boot = get_or ws 2 0; stamp = get_or ws 3 0; opcode = get_or ws 4 0 }

head_by_parts : (bytes : List ℕ) → head_at bytes ≡ (half_at bytes >>= λ half. node_at half.1 >>= λ from. node_at from.1 >>= λ to. items_at word_at 5 to.1 >>= λ ws. Ok (head_of half.0 from.0 to.0 ws.0, ws.1))
unfolding head_at items_at head_of
head_by_parts bytes = simp bind_assoc

head_told : (half : Half) (from to : Node) (ws : List ℕ) → length ws ≡ 5 → half_number half ∷ node_number from ∷ node_number to ∷ ws ≡ head_words (head_of half from to ws)
unfolding head_of
head_told half from to (a ∷ b ∷ c ∷ d ∷ e ∷ []) h = refl
head_told half from to _ h = absurd (omega arith)

pub head_takes : (bytes : List ℕ) (h : Head) (rest : List ℕ) → IsBytes bytes → head_at bytes ≡ Ok (h, rest) → TakesHead bytes h rest
unfolding head_of
head_takes bytes h rest fits e =
    let s0 = bind_ok (half_at bytes) (λ half. node_at half.1 >>= λ from. node_at from.1 >>= λ to. items_at word_at 5 to.1 >>= λ ws. Ok (head_of half.0 from.0 to.0 ws.0, ws.1)) (h, rest) (sym (head_by_parts bytes) ∙ e) in
    let s1 = bind_ok (node_at s0.0.1) (λ from. node_at from.1 >>= λ to. items_at word_at 5 to.1 >>= λ ws. Ok (head_of s0.0.0 from.0 to.0 ws.0, ws.1)) (h, rest) s0.2 in
    let s2 = bind_ok (node_at s1.0.1) (λ to. items_at word_at 5 to.1 >>= λ ws. Ok (head_of s0.0.0 s1.0.0 to.0 ws.0, ws.1)) (h, rest) s1.2 in
    let s3 = bind_ok (items_at word_at 5 s2.0.1) (λ ws. Ok (head_of s0.0.0 s1.0.0 s2.0.0 ws.0, ws.1)) (h, rest) s2.2 in
    let t0 = half_takes bytes s0.0.0 s0.0.1 fits s0.1 in
    let t1 = node_takes s0.0.1 s1.0.0 s1.0.1 t0.takes.rest_fits s1.1 in
    let t2 = node_takes s1.0.1 s2.0.0 s2.0.1 t1.word_taken.takes.rest_fits s2.1 in
    let t3 = items_takes word_at word (λ n. n < 2 ^ 32) word_codec 5 s2.0.1 s3.0.0 s3.0.1 t2.word_taken.takes.rest_fits s3.1 in
    let w2 = words_then s1.0.1 (node_number s2.0.0) s2.0.1 s3.0.0 s3.0.1 t2.word_taken.takes t3.0 in
    let w1 = words_then s0.0.1 (node_number s1.0.0) s1.0.1 (node_number s2.0.0 ∷ s3.0.0) s3.0.1 t1.word_taken.takes w2 in
    let w0 = words_then bytes (half_number s0.0.0) s0.0.1 (node_number s1.0.0 ∷ node_number s2.0.0 ∷ s3.0.0) s3.0.1 t0.takes w1 in
    let told = head_told s0.0.0 s1.0.0 s2.0.0 s3.0.0 t3.1 in
    let here : TakesHead bytes (head_of s0.0.0 s1.0.0 s2.0.0 s3.0.0) s3.0.1 = record {
      takes = subst (λ (ns : List ℕ). Takes bytes (words ns) s3.0.1) told w0;
      fits = record { from = t1.is_node; to = t2.is_node; numbers = subst (λ (ns : List ℕ). AreWords ns) told (t0.small, (t1.word_taken.small, (t2.word_taken.small, t3.2))) };
    } in
    subst (λ (p : Head × List ℕ). TakesHead bytes p.0 p.1) (ok_is (head_of s0.0.0 s1.0.0 s2.0.0 s3.0.0, s3.0.1) (h, rest) s3.2) here

-- ---- a header that is spelled is read again

words_again : (n : ℕ) (ns rest : List ℕ) → n < 2 ^ 32 → word_at (words (n ∷ ns) ++ rest) ≡ Ok (n, words ns ++ rest)
words_again n ns rest lt = ap word_at (append_assoc (word n) (words ns) rest) ∙ word_codec.again n (words ns ++ rest) lt

half_is : (h : Half) → half_of (half_number h) ≡ Some h
half_is halves.Call = refl
half_is halves.Reply = refl
half_is halves.Boot = refl

half_again : (h : Half) (ns rest : List ℕ) → half_number h < 2 ^ 32 → half_at (words (half_number h ∷ ns) ++ rest) ≡ Ok (h, words ns ++ rest)
unfolding half_at
half_again h ns rest lt = rw (words_again (half_number h) ns rest lt, half_is h) refl

node_again : (n : Node) (ns rest : List ℕ) → IsNode n → node_number n < 2 ^ 32 → node_at (words (node_number n ∷ ns) ++ rest) ≡ Ok (n, words ns ++ rest)
unfolding node_at
node_again n ns rest is lt = rw (words_again (node_number n) ns rest lt, is) refl

pub head_again : (h : Head) (rest : List ℕ) → FitsHead h → head_at (words (head_words h) ++ rest) ≡ Ok (h, rest)
unfolding head_at
head_again h rest fits =
    let n = fits.numbers in
    rw (
      half_again h.half (node_number h.from ∷ node_number h.to ∷ h.epoch ∷ h.number ∷ h.boot ∷ h.stamp ∷ h.opcode ∷ []) rest n.0,
      node_again h.from (node_number h.to ∷ h.epoch ∷ h.number ∷ h.boot ∷ h.stamp ∷ h.opcode ∷ []) rest fits.from n.1.0,
      node_again h.to (h.epoch ∷ h.number ∷ h.boot ∷ h.stamp ∷ h.opcode ∷ []) rest fits.to n.1.1.0,
      words_again h.epoch (h.number ∷ h.boot ∷ h.stamp ∷ h.opcode ∷ []) rest n.1.1.1.0,
      words_again h.number (h.boot ∷ h.stamp ∷ h.opcode ∷ []) rest n.1.1.1.1.0,
      words_again h.boot (h.stamp ∷ h.opcode ∷ []) rest n.1.1.1.1.1.0,
      words_again h.stamp (h.opcode ∷ []) rest n.1.1.1.1.1.1.0,
      words_again h.opcode [] rest n.1.1.1.1.1.1.1.0,
    ) refl

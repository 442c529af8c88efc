-- What is found under the keys of a list with one item a key, after an item was put.
use Rattle.std.proofs.Common.{◌≡◌, Bool, true, false, cond, not, List, [], ◌∷◌, ◌++◌, Option, Some, None, refl, sym, ap, subst, ◌∙◌}
use Rattle.afs_num.specs.Keyed.{keyed, other_keyed, put_last}

-- `same` tells keys apart
pub record IsExact {K : Type 0} (same : K → K → Bool) : Type 0 where
  pub exact : (a b : K) → same a b ≡ true → a ≡ b
  pub itself : (a : K) → same a a ≡ true

module _ {T K : Type 0} (key : T → K) (same : K → K → Bool) (is : IsExact same) where
  apart_by : (a b : K) (t : Bool) → same a b ≡ t → (a ≡ b → ⊥) → t ≡ false
  apart_by a b true e ne = absurd (ne (is.exact a b e))
  apart_by a b false e ne = refl

  key_by : (b : Bool) (k : K) (y x : T) (o : Option T) → same (key y) k ≡ b → (o ≡ Some x → same (key x) k ≡ true) → cond b (Some y) o ≡ Some x → same (key x) k ≡ true
  key_by true k y x o h ih e = let p : y ≡ x = cc in subst (λ (z : T). same (key z) k ≡ true) p h
  key_by false k y x o h ih e = ih e

  -- what is found under a key has it
  pub found_key : (k : K) (items : List T) (x : T) → keyed key same k items ≡ Some x → same (key x) k ≡ true
  found_key k [] x e = absurd cc
  found_key k (y ∷ items) x e = key_by (same (key y) k) k y x (keyed key same k items) refl (found_key k items x) e

  left_by : (b t : Bool) (k m : K) (y : T) (rest old : List T) → same (key y) k ≡ b → same (key y) m ≡ t → (k ≡ m → ⊥) → keyed key same m rest ≡ keyed key same m old
      → keyed key same m (cond (not b) (y ∷ rest) rest) ≡ cond t (Some y) (keyed key same m old)
  left_by true true k m y rest old a t ne ih = absurd (ne (sym (is.exact _ _ a) ∙ is.exact _ _ t))
  left_by true false k m y rest old a t ne ih = ih
  left_by false t k m y rest old a e ne ih = rw (e, ih) refl

  -- without what is under one key, all else is found as before
  pub found_left : (k m : K) (items : List T) → (k ≡ m → ⊥) → keyed key same m (other_keyed key same k items) ≡ keyed key same m items
  found_left k m [] ne = refl
  found_left k m (y ∷ items) ne = left_by (same (key y) k) (same (key y) m) k m y (other_keyed key same k items) items refl refl ne (found_left k m items ne)

  gone_by : (b : Bool) (k : K) (y : T) (rest : List T) → same (key y) k ≡ b → keyed key same k rest ≡ None → keyed key same k (cond (not b) (y ∷ rest) rest) ≡ None
  gone_by true k y rest a ih = ih
  gone_by false k y rest a ih = rw (a, ih) refl

  found_gone : (k : K) (items : List T) → keyed key same k (other_keyed key same k items) ≡ None
  found_gone k [] = refl
  found_gone k (y ∷ items) = gone_by (same (key y) k) k y (other_keyed key same k items) refl (found_gone k items)

  last_apart : (x : T) (k : K) (items : List T) → same (key x) k ≡ false → keyed key same k (items ++ x ∷ []) ≡ keyed key same k items
  last_apart x k [] e = rw e refl
  last_apart x k (y ∷ items) e = ap (λ (o : Option T). cond (same (key y) k) (Some y) o) (last_apart x k items e)

  end_by : (b : Bool) (x y : T) (items : List T) → cond b (Some y) (keyed key same (key x) items) ≡ None → (keyed key same (key x) items ≡ None → keyed key same (key x) (items ++ x ∷ []) ≡ Some x)
      → cond b (Some y) (keyed key same (key x) (items ++ x ∷ [])) ≡ Some x
  end_by true x y items e ih = absurd cc
  end_by false x y items e ih = ih e

  last_own : (x : T) (items : List T) → keyed key same (key x) items ≡ None → keyed key same (key x) (items ++ x ∷ []) ≡ Some x
  last_own x [] e = rw (is.itself (key x)) refl
  last_own x (y ∷ items) e = end_by (same (key y) (key x)) x y items e (last_own x items)

  pub found_own : (x : T) (items : List T) → keyed key same (key x) (put_last key same x items) ≡ Some x
  found_own x items = last_own x _ (found_gone (key x) items)

  found_other : (x : T) (k : K) (items : List T) → (key x ≡ k → ⊥) → keyed key same k (put_last key same x items) ≡ keyed key same k items
  found_other x k items ne = last_apart x k _ (apart_by (key x) k (same (key x) k) refl ne) ∙ found_left (key x) k items ne

  test_last : (x : T) (k : K) (items : List T) (P : Option T → Type 0) (t : Bool) → same (key x) k ≡ t → (key x ≡ k → P (Some x)) → ((key x ≡ k → ⊥) → P (keyed key same k items)) → P (keyed key same k (put_last key same x items))
  test_last x k items P true t a b =
      let q : key x ≡ k = is.exact _ _ t in
      subst P (sym (found_own x items) ∙ ap (λ (m : K). keyed key same m (put_last key same x items)) q) (a q)
  test_last x k items P false t a b =
      let ne : key x ≡ k → ⊥ = λ q. let y : same (key x) k ≡ true = ap (same (key x)) (sym q) ∙ is.itself (key x) in absurd cc in
      subst P (sym (found_other x k items ne)) (b ne)

  -- what holds of the item under its key, and of what stood under any other
  pub at_last : (x : T) (k : K) (items : List T) (P : Option T → Type 0) → (key x ≡ k → P (Some x)) → ((key x ≡ k → ⊥) → P (keyed key same k items)) → P (keyed key same k (put_last key same x items))
  at_last x k items P a b = test_last x k items P (same (key x) k) refl a b

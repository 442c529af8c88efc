-- Bytes that are painted over, and what a crash in a write or a cut makes of each image.
use Rattle.std.proofs.Common.{◌≡◌, ◌≤◌, ◌⊎◌, inl, inr, ⊎_elim, ℕ, zero, suc, ◌+◌, ◌-◌, max, List, [], ◌∷◌, ◌++◌, length, take, drop, replicate, refl, sym, ◌∙◌, ap, arith, length-append, length-drop}
use Rattle.std.proofs.lemmas.List.{length-take, take_all, take_at, drop_at, drop-drop, length-take-le, take_min, length-replicate}
use Rattle.afs_disk.specs.Disk.{overwritten, Torn, CutShort}
use Rattle.afs_disk.specs.Images.{paint, painted}

pub length-paint : (v a n : ℕ) (xs : List ℕ) → length (paint v a n xs) ≡ length xs
length-paint v a n [] = refl
length-paint v zero zero (x ∷ xs) = refl
length-paint v zero (suc n) (x ∷ xs) = ap suc (length-paint v zero n xs)
length-paint v (suc a) n (x ∷ xs) = ap suc (length-paint v a n xs)

pub paint_none : (v a : ℕ) (xs : List ℕ) → paint v a 0 xs ≡ xs
paint_none v a [] = refl
paint_none v zero (x ∷ xs) = refl
paint_none v (suc a) (x ∷ xs) = ap (λ (l : List ℕ). x ∷ l) (paint_none v a xs)

pub paint_past : (v a n : ℕ) (xs : List ℕ) → length xs ≤ a → paint v a n xs ≡ xs
paint_past v a n [] le = refl
paint_past v zero n (x ∷ xs) le = absurd (omega arith)
paint_past v (suc a) n (x ∷ xs) le = ap (λ (l : List ℕ). x ∷ l) (paint_past v a n xs (omega arith))

paint_front : (v k n : ℕ) (xs : List ℕ) → k ≤ n → k ≤ length xs → (k ≡ n) ⊎ (k ≡ length xs) → paint v 0 n xs ≡ replicate k v ++ drop k xs
paint_front v zero n [] le few ends = refl
paint_front v (suc k) n [] le few ends = absurd (omega arith)
paint_front v zero zero (x ∷ xs) le few ends = refl
paint_front v (suc k) zero (x ∷ xs) le few ends = absurd (omega arith)
paint_front v zero (suc n) (x ∷ xs) le few ends = absurd (⊎_elim (λ is. omega arith) (λ is. omega arith) ends)
paint_front v (suc k) (suc n) (x ∷ xs) le few ends =
    ap (λ (l : List ℕ). v ∷ l) (paint_front v k n xs (omega arith) (omega arith) (⊎_elim (λ is. inl (omega arith)) (λ is. inr (omega arith)) ends))

pub paint_mid : (v a n k : ℕ) (xs : List ℕ) → a + k ≤ length xs → k ≤ n → (k ≡ n) ⊎ (a + k ≡ length xs) → paint v a n xs ≡ take a xs ++ (replicate k v ++ drop k (drop a xs))
paint_mid v zero n k xs few le ends = paint_front v k n xs le (omega arith) (⊎_elim (λ is. inl is) (λ is. inr (omega arith)) ends)
paint_mid v (suc a) n k [] few le ends = absurd (omega arith)
paint_mid v (suc a) n k (x ∷ xs) few le ends = ap (λ (l : List ℕ). x ∷ l) (paint_mid v a n k xs (omega arith) le (⊎_elim (λ is. inl is) (λ is. inr (omega arith)) ends))

pub take-paint : (k v a n : ℕ) (xs : List ℕ) → take k (paint v a n xs) ≡ paint v a n (take k xs)
take-paint zero v a n xs = refl
take-paint (suc k) v a n [] = refl
take-paint (suc k) v zero zero (x ∷ xs) = refl
take-paint (suc k) v zero (suc n) (x ∷ xs) = ap (λ (l : List ℕ). v ∷ l) (take-paint k v zero n xs)
take-paint (suc k) v (suc a) n (x ∷ xs) = ap (λ (l : List ℕ). x ∷ l) (take-paint k v a n xs)

same_paint : (v a b n m : ℕ) (xs : List ℕ) → a ≡ b → n ≡ m → paint v a n xs ≡ paint v b m xs
same_paint v a b n m xs p q = ap (λ (k : ℕ). paint v k n xs) p ∙ ap (λ (k : ℕ). paint v b k xs) q

pub drop-paint : (k v a n : ℕ) (xs : List ℕ) → drop k (paint v a n xs) ≡ paint v (a - k) (n - (k - a)) (drop k xs)
drop-paint zero v a n xs = same_paint v a (a - 0) n (n - (0 - a)) xs (omega arith) (omega arith)
drop-paint (suc k) v a n [] = refl
drop-paint (suc k) v zero zero (x ∷ xs) = sym (same_paint v (0 - suc k) 0 (0 - (suc k - 0)) 0 (drop k xs) (omega arith) (omega arith) ∙ paint_none v 0 (drop k xs))
drop-paint (suc k) v zero (suc n) (x ∷ xs) = drop-paint k v zero n xs ∙ same_paint v (0 - k) (0 - suc k) (n - (k - 0)) (suc n - (suc k - 0)) (drop k xs) (omega arith) (omega arith)
drop-paint (suc k) v (suc a) n (x ∷ xs) = drop-paint k v a n xs ∙ same_paint v (a - k) (suc a - suc k) (n - (k - a)) (n - (suc k - suc a)) (drop k xs) (omega arith) (omega arith)

torn_paint : (at m v a n : ℕ) (x y : List ℕ) → Torn at m x y → Torn at m (paint v a n x) (paint v a n y)
torn_paint at m v a n x y torn = record {
  before = take-paint at v a n y ∙ ap (paint v a n) torn.before ∙ sym (take-paint at v a n x);
  after = drop-paint (at + m) v a n y ∙ ap (paint v (a - (at + m)) (n - (at + m - a))) torn.after ∙ sym (drop-paint (at + m) v a n x);
  no_shorter = omega (arith, length-paint v a n x, length-paint v a n y, torn.no_shorter);
  no_longer = omega (arith, length-paint v a n x, length-paint v a n y, torn.no_longer);
}

pub torn_painted : (at m v : ℕ) (rs : List (ℕ × ℕ)) (x y : List ℕ) → Torn at m x y → Torn at m (painted v rs x) (painted v rs y)
torn_painted at m v [] x y torn = torn
torn_painted at m v (r ∷ rs) x y torn = torn_painted at m v rs (paint v r.0 r.1 x) (paint v r.0 r.1 y) (torn_paint at m v r.0 r.1 x y torn)

-- what was torn may be painted over in its range
pub torn_here : (at n v : ℕ) (x y : List ℕ) → Torn at n x y → Torn at n x (paint v at n y)
torn_here at n v x y torn = record {
  before = take-paint at v at n y ∙ paint_past v at n (take at y) (omega (arith, length-take at y)) ∙ torn.before;
  after = drop-paint (at + n) v at n y ∙ same_paint v (at - (at + n)) 0 (n - (at + n - at)) 0 (drop (at + n) y) (omega arith) (omega arith) ∙ paint_none v 0 (drop (at + n) y) ∙ torn.after;
  no_shorter = omega (arith, length-paint v at n y, torn.no_shorter);
  no_longer = omega (arith, length-paint v at n y, torn.no_longer);
}

pub torn_same : (at n : ℕ) (x : List ℕ) → Torn at n x x
torn_same at n x = record { before = refl; after = refl; no_shorter = omega arith; no_longer = omega arith }

pub length-overwritten : (at : ℕ) (bytes old : List ℕ) → at ≤ length old → length (overwritten at bytes old) ≡ max (length old) (at + length bytes)
length-overwritten at bytes old le = omega (arith, length-append (take at old) (bytes ++ drop (at + length bytes) old), length-append bytes (drop (at + length bytes) old), length-drop (at + length bytes) old, length-take at old)

pub torn_written : (at : ℕ) (bytes old : List ℕ) → at ≤ length old → Torn at (length bytes) old (overwritten at bytes old)
torn_written at bytes old le = record {
  before = take_at (take at old) (bytes ++ drop (at + length bytes) old) at (length-take-le at old le);
  after = sym (drop-drop (length bytes) at (overwritten at bytes old)) ∙ ap (drop (length bytes)) (drop_at (take at old) (bytes ++ drop (at + length bytes) old) at (length-take-le at old le)) ∙ drop_at bytes (drop (at + length bytes) old) (length bytes) refl;
  no_shorter = omega (arith, length-overwritten at bytes old le);
  no_longer = omega (arith, length-overwritten at bytes old le);
}

pub painted-take : (k v : ℕ) (rs : List (ℕ × ℕ)) (xs : List ℕ) → painted v rs (take k xs) ≡ take k (painted v rs xs)
painted-take k v [] xs = refl
painted-take k v (r ∷ rs) xs = ap (painted v rs) (sym (take-paint k v r.0 r.1 xs)) ∙ painted-take k v rs (paint v r.0 r.1 xs)

pub painted-push : (v : ℕ) (rs : List (ℕ × ℕ)) (r : ℕ × ℕ) (xs : List ℕ) → painted v (rs ++ r ∷ []) xs ≡ paint v r.0 r.1 (painted v rs xs)
painted-push v [] r xs = refl
painted-push v (s ∷ rs) r xs = painted-push v rs r (paint v s.0 s.1 xs)

pub length-painted : (v : ℕ) (rs : List (ℕ × ℕ)) (xs : List ℕ) → length (painted v rs xs) ≡ length xs
length-painted v [] xs = refl
length-painted v (r ∷ rs) xs = length-painted v rs (paint v r.0 r.1 xs) ∙ length-paint v r.0 r.1 xs

pub cut_same : (n : ℕ) (x : List ℕ) → CutShort n x x
cut_same n x = record { no_shorter = omega arith; front = take_all (length x) x (omega arith) }

pub cut_front : (n : ℕ) (x : List ℕ) → CutShort n x (take n x)
cut_front n x = record { no_shorter = omega (arith, length-take n x); front = ap (λ (k : ℕ). take k x) (length-take n x) ∙ take_min n x }

-- bytes that are painted over, and the range of a write painted too, are those with as many of that value written over
pub painted-overwritten : (v at : ℕ) (bytes : List ℕ) (rs : List (ℕ × ℕ)) (old : List ℕ) → at ≤ length old → paint v at (length bytes) (painted v rs (overwritten at bytes old)) ≡ overwritten at (replicate (length bytes) v) (painted v rs old)
painted-overwritten v at bytes rs old inside =
    let n = length bytes in
    let x = painted v rs old in
    let y = painted v rs (overwritten at bytes old) in
    let torn = torn_painted at n v rs old (overwritten at bytes old) (torn_written at bytes old inside) in
    let few : at + n ≤ length y = omega (arith, length-painted v rs (overwritten at bytes old), length-overwritten at bytes old inside) in
    paint_mid v at n n y few (omega arith) (inl refl)
    ∙ ap (λ (l : List ℕ). l ++ (replicate n v ++ drop n (drop at y))) torn.before
    ∙ ap (λ (l : List ℕ). take at x ++ (replicate n v ++ l)) (drop-drop n at y ∙ torn.after)
    ∙ ap (λ (k : ℕ). take at x ++ (replicate n v ++ drop (at + k) x)) (sym (length-replicate n v))

-- The words of the next image: its vnode is looked for in the list.
use Rattle.std.proofs.Common.{◌≡◌, ℕ, zero, suc, ◌+◌, ◌<◌, true, false, cond, List, [], ◌∷◌, drop, slice_get, Option, Some, None, nat_eq, refl, ap, subst, ◌∙◌, arith}
use Rattle.spec_dumps.specs.Feeding.{words_at}
use Rattle.spec_dumps.specs.Fields.{FieldTaken, took, cut_at, bad_at, ◌>>=◌}
use Rattle.spec_dumps.specs.Streams.{by_next, image_words_field, next_at, only_end, ImageWords}

abbrev pub found_words : List (ℕ × ℕ) → Option ℕ → List ℕ → FieldTaken (Option (ImageWords × List (ℕ × ℕ)))
found_words ps None rest = took None rest
found_words [] (Some m) rest = bad_at rest
found_words (p ∷ ps) (Some m) rest = cond (nat_eq m p.0) ((image_words_field p).at rest >>= λ w. took (Some (w.0, ps)) w.1) (found_words ps (Some m) rest)

looked : (p : ℕ × ℕ) (ps : List (ℕ × ℕ)) (next : FieldTaken (Option ℕ)) (other : FieldTaken (Option (ImageWords × List (ℕ × ℕ)))) → other ≡ (next >>= λ o. found_words ps o.0 o.1) →
    (next >>= λ o. by_next p.0 o.0 o.1 None ((image_words_field p).at o.1 >>= λ w. took (Some (w.0, ps)) w.1) other) ≡ (next >>= λ o. found_words (p ∷ ps) o.0 o.1)
looked p ps (took None rest) other is = refl
looked p ps (took (Some m) rest) other is = ap (cond (nat_eq m p.0) ((image_words_field p).at rest >>= λ w. took (Some (w.0, ps)) w.1)) is
looked p ps (cut_at left) other is = refl
looked p ps (bad_at left) other is = refl

end_looked : (next : FieldTaken (Option ℕ)) → (next >>= λ o. only_end o.0 o.1 None) ≡ (next >>= λ o. found_words [] o.0 o.1)
end_looked (took None rest) = refl
end_looked (took (Some m) rest) = refl
end_looked (cut_at left) = refl
end_looked (bad_at left) = refl

pub words_found : (ps : List (ℕ × ℕ)) (bytes : List ℕ) → words_at ps bytes ≡ (next_at bytes >>= λ o. found_words ps o.0 o.1)
words_found [] bytes = end_looked (next_at bytes)
words_found (p ∷ ps) bytes = looked p ps (next_at bytes) (words_at ps bytes) (words_found ps bytes)

pub found_here : (ps : List (ℕ × ℕ)) (k m : ℕ) (p : ℕ × ℕ) (rest : List ℕ) → slice_get ps k ≡ Some p → nat_eq m p.0 ≡ true → ((j : ℕ) (q : ℕ × ℕ) → j < k → slice_get ps j ≡ Some q → nat_eq m q.0 ≡ false) →
    found_words ps (Some m) rest ≡ ((image_words_field p).at rest >>= λ w. took (Some (w.0, drop (k + 1) ps)) w.1)
found_here [] k m p rest here test before = absurd cc
found_here (q ∷ ps) zero m p rest here test before =
    let is : q ≡ p = cc in
    subst (λ (r : ℕ × ℕ). found_words (q ∷ ps) (Some m) rest ≡ ((image_words_field r).at rest >>= λ w. took (Some (w.0, ps)) w.1)) is (rw (ap (λ (r : ℕ × ℕ). nat_eq m r.0) is ∙ test) refl)
found_here (q ∷ ps) (suc k) m p rest here test before =
    let next : suc k + 1 ≡ suc (k + 1) = omega arith in
    rw (before zero q (omega arith) refl, next)
    (found_here ps k m p rest here test (λ j r lt e. before (suc j) r (omega (arith, lt)) e))

pub found_nowhere : (ps : List (ℕ × ℕ)) (m : ℕ) (rest : List ℕ) → ((j : ℕ) (q : ℕ × ℕ) → slice_get ps j ≡ Some q → nat_eq m q.0 ≡ false) → found_words ps (Some m) rest ≡ bad_at rest
found_nowhere [] m rest none = refl
found_nowhere (q ∷ ps) m rest none = rw (none zero q refl) (found_nowhere ps m rest (λ j r e. none (suc j) r e))

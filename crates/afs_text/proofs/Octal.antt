-- Numbers in octal digits, as they are written: the last digit stands behind those before it.
use Rattle.std.proofs.Common.{◌≡◌, ⊎_elim, ℕ, zero, suc, ◌+◌, ◌/◌, ◌%◌, ◌^◌, ◌<◌, ◌≤◌, List, [], ◌∷◌, ◌++◌, Bool, false, cond, Option, Result, subst, refl, ap, sym, ◌∙◌, append_assoc, arith, eq-eqb, ne_eqb, lt-ltb}
use Rattle.std.proofs.lemmas.Bool.{cases_lt}
use Rattle.std.specs.Fmt.{digit_glyph, digits, digits_onto}
use Rattle.afs_outside.specs.Outside.{Puts}
use Rattle.afs_outside.specs.declared.outside.Failed.{Failed}
use Rattle.afs_text.specs.ActText.{octal}

abbrev spell : ℕ → ℕ → List ℕ → List ℕ
spell k n acc = digits_onto k 8 false n acc

abbrev glyph : ℕ → ℕ
glyph n = digit_glyph false (n % 8)

spell_last : (k n : ℕ) (acc : List ℕ) → n < 8 → spell (suc k) n acc ≡ glyph n ∷ acc
spell_last k n acc h = ap (λ t. cond t (glyph n ∷ acc) (spell k (n / 8) (glyph n ∷ acc))) (eq-eqb (n / 8) 0 (omega arith))

spell_next : (k n : ℕ) (acc : List ℕ) → 8 ≤ n → spell (suc k) n acc ≡ spell k (n / 8) (glyph n ∷ acc)
spell_next k n acc h = ap (λ t. cond t (glyph n ∷ acc) (spell k (n / 8) (glyph n ∷ acc))) (ne_eqb (n / 8) 0 (λ e. omega arith))

spell-append : (k n : ℕ) (acc : List ℕ) → spell k n acc ≡ spell k n [] ++ acc
spell-append zero n acc = refl
spell-append (suc k) n acc = ⊎_elim
    (λ l. spell_last k n acc l ∙ ap (λ x. x ++ acc) (sym (spell_last k n [] l)))
    (λ m. spell_next k n acc m ∙ spell-append k (n / 8) (glyph n ∷ acc) ∙ sym (append_assoc (spell k (n / 8) []) (glyph n ∷ []) acc) ∙ ap (λ x. x ++ acc) (sym (spell_next k n [] m ∙ spell-append k (n / 8) (glyph n ∷ []))))
    (cases_lt n 8)

-- the limit of digits does not matter once it is large enough
spell_enough : (j k n : ℕ) (acc : List ℕ) → n < 8 ^ suc j → n < 8 ^ suc k → spell (suc j) n acc ≡ spell (suc k) n acc
spell_enough zero k n acc p q = spell_last zero n acc (omega arith) ∙ sym (spell_last k n acc (omega arith))
spell_enough (suc j) zero n acc p q = spell_last (suc j) n acc (omega arith) ∙ sym (spell_last zero n acc (omega arith))
spell_enough (suc j) (suc k) n acc p q = ⊎_elim
    (λ l. spell_last (suc j) n acc l ∙ sym (spell_last (suc k) n acc l))
    (λ m. spell_next (suc j) n acc m ∙ spell_enough j k (n / 8) (glyph n ∷ acc) (omega arith) (omega arith) ∙ sym (spell_next (suc k) n acc m))
    (cases_lt n 8)

digit_is : (n : ℕ) → glyph n ≡ 48 + n % 8
digit_is n = ap (λ (b : Bool). cond b (48 + n % 8) (87 + n % 8)) (lt-ltb (n % 8) 10 (omega arith))

pub octal_one : (n : ℕ) → n < 8 → (48 + n) ∷ [] ≡ octal n
unfolding octal digits
octal_one n l = ap (λ d. (48 + d) ∷ []) {x = n} {y = n % 8} (omega arith) ∙ ap (λ d. d ∷ []) (sym (digit_is n)) ∙ sym (spell_last 63 n [] l)

pub octal_more : (n : ℕ) → 8 ≤ n → n < 2 ^ 32 → octal (n / 8) ++ (48 + n % 8) ∷ [] ≡ octal n
unfolding octal digits
octal_more n m few =
    ap (λ d. spell 64 (n / 8) [] ++ d ∷ []) (sym (digit_is n)) ∙ sym (spell-append 64 (n / 8) (glyph n ∷ []))
    ∙ spell_enough 63 62 (n / 8) (glyph n ∷ []) (omega arith) (omega arith) ∙ sym (spell_next 63 n [] m)

pub puts_same : {T : Type 0} (x y : List ℕ) (a b : Option (List ℕ)) (f g : ℕ) (r : Result T Failed) → x ≡ y → Puts x a b f g r → Puts y a b f g r
puts_same {T} x y a b f g r e p = subst (λ t. Puts t a b f g r) e p

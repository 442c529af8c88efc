-- A text that is cut into lines, or a line into words.
use Rattle.std.proofs.Common.{◌≡◌, ℕ, ◌+◌, ◌-◌, Bool, true, false, ◌&&◌, not, List, [], ◌∷◌, ◌++◌, nat_eq, ap, ◌∙◌, arith, refl}
use Rattle.std.specs.List.{list_all, onto_first}
use Rattle.std.proofs.lemmas.List.Splits.{slice_split-cons_yes, slice_split-cons_no}
use Rattle.spec_model.specs.ScriptWords.{parts}
use Rattle.spec_model.specs.ScriptText.{is_part}

pub both : (a b : Bool) → (a && b) ≡ true → (a ≡ true) × (b ≡ true)
both true b h = (refl, h)
both false b h = absurd cc

pub both_true : (a b : Bool) → a ≡ true → b ≡ true → (a && b) ≡ true
both_true true b p q = q
both_true false b p q = absurd cc

pub no : (a : Bool) → not a ≡ true → a ≡ false
no true h = absurd cc
no false h = refl

pub cut_off : (cut : ℕ) (part rest : List ℕ) → nat_eq cut cut ≡ true → is_part cut part ≡ true → parts cut (part ++ cut ∷ rest) ≡ part ∷ parts cut rest
cut_off cut [] rest same h = slice_split-cons_yes (λ b. nat_eq b cut) cut rest same
cut_off cut (b ∷ bs) rest same h =
    let hs = both (not (nat_eq b cut)) (is_part cut bs) h in
    slice_split-cons_no (λ x. nat_eq x cut) b (bs ++ cut ∷ rest) (no (nat_eq b cut) hs.0)
    ∙ ap (onto_first b) (cut_off cut bs rest same hs.1)

pub uncut : (cut : ℕ) (part : List ℕ) → is_part cut part ≡ true → parts cut part ≡ part ∷ []
uncut cut [] h = refl
uncut cut (b ∷ bs) h =
    let hs = both (not (nat_eq b cut)) (is_part cut bs) h in
    slice_split-cons_no (λ x. nat_eq x cut) b bs (no (nat_eq b cut) hs.0)
    ∙ ap (onto_first b) (uncut cut bs hs.1)

pub all_append : (p : ℕ → Bool) (xs ys : List ℕ) → list_all p xs ≡ true → list_all p ys ≡ true → list_all p (xs ++ ys) ≡ true
all_append p [] ys h k = k
all_append p (x ∷ xs) ys h k =
    let hs = both (p x) (list_all p xs) h in
    both_true (p x) (list_all p (xs ++ ys)) hs.0 (all_append p xs ys hs.1 k)

-- Items in memory by numbers of their own.
use Rattle.std.proofs.Common.{◌≡◌, ℕ, zero, suc, [], ◌∷◌, Bool, true, false, not, Option, Some, None, refl, sym, ap, ◌∙◌, nat_eq, nat_lt, subst, slice_get, filter, if◌then◌else◌, Bor, IfSome, arith}
use Rattle.std.proofs.lemmas.Bool.Decides.{nat_tests}
use Rattle.std.specs.Option.{option_copied}
use Rattle.spec_ideal.specs.Tables.{Table, get, set, unset}
use Rattle.afs_shelves.specs.Numbered.{AreNumberedBy}

module _ {A : Type 0} (number : A → ℕ) where
  found_by : (b : Bool) (n : ℕ) (p : ℕ × A) (o : Option A) (x : A) → nat_eq p.0 n ≡ b → number p.1 ≡ p.0 → (o ≡ Some x → number x ≡ n) → (if b then Some p.1 else o) ≡ Some x → number x ≡ n
  found_by true n p o x same its later found = ap number (sym (is_first found)) ∙ (its ∙ grind (arith, nat_tests, same))
    where
      is_first : Some p.1 ≡ Some x → p.1 ≡ x
      is_first e = cc
  found_by false n p o x same its later found = later found

  pub numbered : (n : ℕ) (t : Table A) (x : A) → AreNumberedBy number t → get n t ≡ Some x → number x ≡ n
  numbered n [] x are found = absurd cc
  numbered n (p ∷ ps) x are found = found_by (nat_eq p.0 n) n p (get n ps) x refl are.0 (numbered n ps x are.1) found

  pub numbered_some : (n : ℕ) (t : Table A) (r : Option (Bor A)) → AreNumberedBy number t → option_copied r ≡ get n t → IfSome r (λ x. number x.now ≡ n)
  numbered_some n t None are e = tt
  numbered_some n t (Some x) are e = numbered n t x.now are (sym e)

  pub numbered_nth : (i : ℕ) (t : Table A) (p : ℕ × A) → AreNumberedBy number t → slice_get t i ≡ Some p → number p.1 ≡ p.0
  numbered_nth i [] p are found = absurd cc
  numbered_nth zero (q ∷ qs) p are found = ap (λ (x : ℕ × A). number x.1) (sym (same_item found)) ∙ (are.0 ∙ ap (λ (x : ℕ × A). x.0) (same_item found))
    where
      same_item : Some q ≡ Some p → q ≡ p
      same_item e = cc
  numbered_nth (suc i) (q ∷ qs) p are found = numbered_nth i qs p are.1 found

  kept_by : (b : Bool) (p : ℕ × A) (rest : Table A) → number p.1 ≡ p.0 → AreNumberedBy number rest → AreNumberedBy number (if b then p ∷ rest else rest)
  kept_by true p rest its are = (its, are)
  kept_by false p rest its are = are

  pub numbered_filter : (keep : ℕ × A → Bool) (t : Table A) → AreNumberedBy number t → AreNumberedBy number (filter keep t)
  numbered_filter keep [] are = tt
  numbered_filter keep (p ∷ ps) are = kept_by (keep p) p (filter keep ps) are.0 (numbered_filter keep ps are.1)

  set_by : (n : ℕ) (x : A) (p : ℕ × A) (ps rest : Table A) (same below : Bool) → number x ≡ n → number p.1 ≡ p.0 → AreNumberedBy number ps → AreNumberedBy number rest
      → AreNumberedBy number (if same then (n, x) ∷ ps else (if below then (n, x) ∷ p ∷ ps else p ∷ rest))
  set_by n x p ps rest true below is own are later = (is, are)
  set_by n x p ps rest false true is own are later = (is, (own, are))
  set_by n x p ps rest false false is own are later = (own, later)

  numbered_set : (n : ℕ) (x : A) (t : Table A) → number x ≡ n → AreNumberedBy number t → AreNumberedBy number (set n x t)
  numbered_set n x [] is are = (is, tt)
  numbered_set n x (p ∷ ps) is are = set_by n x p ps (set n x ps) (nat_eq p.0 n) (nat_lt n p.0) is are.0 are.1 (numbered_set n x ps is are.1)

  pub now_numbered : (n : ℕ) (x : A) (t u : Table A) → u ≡ set n x t → number x ≡ n → AreNumberedBy number t → AreNumberedBy number u
  now_numbered n x t u e is are = subst (AreNumberedBy number) (sym e) (numbered_set n x t is are)

  pub less_numbered : (n : ℕ) (t mid : Table A) → AreNumberedBy number t → mid ≡ unset n t → AreNumberedBy number mid
  less_numbered n t mid are less = subst (AreNumberedBy number) (sym less) (numbered_filter (λ p. not (nat_eq p.0 n)) t are)

  -- the item of a number is put back, or a later one of it
  pub put_numbered : (n : ℕ) (x y : A) (t mid u : Table A) → AreNumberedBy number t → get n t ≡ Some x → number y ≡ number x → mid ≡ unset n t → u ≡ set n y mid → AreNumberedBy number u
  put_numbered n x y t mid u are there same less put = now_numbered n y mid u put (same ∙ numbered n t x are there) (less_numbered n t mid are less)

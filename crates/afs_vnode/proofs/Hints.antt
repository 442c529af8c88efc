-- A hint from which a free number may be looked for.
use Rattle.std.proofs.Common.{◌≡◌, ◌≢◌, ℕ, zero, suc, ◌+◌, ◌-◌, ◌*◌, ◌/◌, ◌%◌, ◌<◌, ◌≤◌, true, length, is_some, ap, sym, ◌∙◌, arith}
use Rattle.std.proofs.lemmas.Bool.Decides.{nat_tests}
use Rattle.spec_ideal.specs.Tables.{Table, get, set, unset, AscendsFrom, lowest_free}
use Rattle.spec_ideal.proofs.Tables.{free_above, free_from, free_bound, get_set, get_unset}
use Rattle.afs_vnode.specs.Stores.{IsHint, raised, lowered}

hint_by : {A : Type 0} (m first j : ℕ) (t : Table A) → AscendsFrom m t → ((k : ℕ) → first ≤ k → k < first + 2 * j → k % 2 ≡ first % 2 → is_some (get k t) ≡ true) → lowest_free (first + 2 * j) t ≡ lowest_free first t
hint_by {A} m first zero t up taken = ap (λ (n : ℕ). lowest_free n t) (let z : first + 2 * 0 ≡ first = omega arith in z)
hint_by {A} m first (suc j) t up taken =
    ap (λ (n : ℕ). lowest_free n t) (let z : first + 2 * suc j ≡ first + 2 * j + 2 = omega arith in z)
    ∙ (sym (free_above m (first + 2 * j) t up (taken (first + 2 * j) (omega arith) (omega arith) (omega arith)))
    ∙ hint_by m first j t up (λ k le lt even. taken k le (omega (arith, lt)) even))

-- so the search may begin there
pub hint_free : {A : Type 0} (m first hint : ℕ) (t : Table A) → AscendsFrom m t → IsHint first hint t → lowest_free hint t ≡ lowest_free first t
hint_free {A} m first hint t up h =
    let steps : first + 2 * ((hint - first) / 2) ≡ hint = omega (arith, h.parity, h.above) in
    ap (λ (n : ℕ). lowest_free n t) (sym steps) ∙ hint_by m first ((hint - first) / 2) t up (λ k le lt even. h.taken k le (omega (arith, lt, steps)) even)

pub hint_bound : {A : Type 0} (m first hint : ℕ) (t : Table A) → AscendsFrom m t → IsHint first hint t → hint ≤ first + 2 * length t
hint_bound {A} m first hint t up h = omega (arith, free_from hint t, hint_free m first hint t up h, free_bound first t)

pub hint_set : {A : Type 0} (first hint n : ℕ) (x : A) (t : Table A) → IsHint first hint t → IsHint first (raised hint n) (set n x t)
hint_set {A} first hint n x t h = record {
  parity = grind (arith, nat_tests, h.parity, (let z : (hint + 2) % 2 ≡ hint % 2 = omega arith in z));
  above = grind (arith, nat_tests, h.above);
  taken = λ k le lt even.
      let before : k ≢ hint → k < hint + 2 → k < hint = λ differs small. omega (arith, differs, small, even, h.parity) in
      grind (arith, nat_tests, get_set k n x t, h.taken k le, lt, even, before);
}

pub hint_unset : {A : Type 0} (first hint n : ℕ) (t : Table A) → IsHint first hint t → IsHint first (lowered first hint n) (unset n t)
hint_unset {A} first hint n t h = record {
  parity = grind (arith, nat_tests, h.parity);
  above = grind (arith, nat_tests, h.above);
  taken = λ k le lt even. grind (arith, nat_tests, get_unset k n t, h.taken k le, lt, even, h.parity);
}

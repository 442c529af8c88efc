-- The volumes that transactions hold, one after the other.
use Rattle.std.proofs.Common.{◌≡◌, ◌≤◌, ◌<◌, ◌+◌, ◌-◌, ℕ, zero, suc, Bool, true, false, cond, [], ◌∷◌, length, drop, get_or, drop-cons, Option, Some, None, is_some, nat_eq, refl, sym, ap, subst, ◌∙◌, arith, eqb-true, eq-eqb}
use Rattle.std.specs.Prelude.{min}
use Rattle.std.proofs.Math.Nat.{min-le_left, min-le_right}
use Rattle.spec_ideal.specs.Tables.{get, set, unset, AscendsFrom, Table}
use Rattle.spec_ideal.proofs.Tables.{ascends_lower, ascends_set, ascends_unset, get_below, get_set, get_unset}
use Rattle.spec_records.proofs.Kept.{same_tables}
use Rattle.spec_volrows.specs.VolRow.{holds_of}
use Rattle.spec_volrows.specs.VolStates.{Transaction}
use Rattle.spec_volrows.proofs.VolApart.{behind_found}
use Rattle.afs_volanswers.specs.Flagged.{AreAlone, AreFlagged, IsHoldFlag}

first_there : (p : ℕ × Transaction) (ps : Table Transaction) → get p.0 (p ∷ ps) ≡ Some p.1
first_there p ps = rw (eq-eqb p.0 p.0 refl) refl

behind_there : (n : ℕ) (p : ℕ × Transaction) (ps : Table Transaction) (t : Transaction) → AscendsFrom (p.0 + 1) ps → get n ps ≡ Some t → get n (p ∷ ps) ≡ Some t
behind_there n p ps t up e = behind_found (nat_eq p.0 n) n p ps t refl up e

pub tail_alone : (p : ℕ × Transaction) (ps : Table Transaction) → AreAlone (p ∷ ps) → AreAlone ps
tail_alone p ps all = record {
  ascend = ascends_lower 1 (p.0 + 1) ps (omega arith) all.ascend.1;
  alone = λ n m t u e f same. all.alone n m t u (behind_there n p ps t all.ascend.1 e) (behind_there m p ps u all.ascend.1 f) same;
}

some_none : (t : Transaction) (o : Option Transaction) → o ≡ Some t → o ≡ None → ⊥
some_none t o e f = cc

-- no other holds the volume of the first
nobody : (p : ℕ × Transaction) (ps : Table Transaction) → AreAlone (p ∷ ps) → (n : ℕ) (t : Transaction) → get n ps ≡ Some t → t.volume ≡ p.1.volume → ⊥
nobody p ps all n t e same =
    let one : p.0 ≡ n = all.alone p.0 n p.1 t (first_there p ps) (behind_there n p ps t all.ascend.1 e) (sym same) in
    some_none t (get n ps) e (get_below (p.0 + 1) n ps (omega (arith, one)) all.ascend.1)

none_by : (b : Bool) (x : ℕ) (o : Option ℕ) → (b ≡ true → ⊥) → o ≡ None → cond b (Some x) o ≡ None
none_by true x o e f = absurd (e refl)
none_by false x o e f = f

held_none : (m v : ℕ) (ts : Table Transaction) → AscendsFrom m ts → ((n : ℕ) (t : Transaction) → get n ts ≡ Some t → t.volume ≡ v → ⊥) → get v (holds_of ts) ≡ None
held_none m v [] up f = refl
held_none m v (p ∷ ps) up f =
    get_set v p.1.volume p.1.flags (holds_of ps)
    ∙ none_by (nat_eq p.1.volume v) p.1.flags (get v (holds_of ps)) (λ e. f p.0 p.1 (first_there p ps) (eqb-true p.1.volume v e)) (held_none (p.0 + 1) v ps up.1 (λ n t e. f n t (behind_there n p ps t up.1 e)))

pub holds_ascend : (ts : Table Transaction) → AscendsFrom 0 (holds_of ts)
holds_ascend [] = tt
holds_ascend (p ∷ ps) = ascends_set 0 p.1.volume p.1.flags (holds_of ps) (omega arith) (holds_ascend ps)

freed_by : (b : Bool) (k v x : ℕ) (t : Table ℕ) → nat_eq v k ≡ b → get v t ≡ None → cond b None (cond b (Some x) (get k t)) ≡ get k t
freed_by true k v x t e none = sym (ap (λ (n : ℕ). get n t) (sym (eqb-true v k e)) ∙ none)
freed_by false k v x t e none = refl

-- what is left where the volume of the first is held no more
pub freed : (p : ℕ × Transaction) (ps : Table Transaction) → AreAlone (p ∷ ps) → unset p.1.volume (holds_of (p ∷ ps)) ≡ holds_of ps
freed p ps all =
    let v = p.1.volume in
    let none = held_none (p.0 + 1) v ps all.ascend.1 (nobody p ps all) in
    same_tables 0 0 (unset v (holds_of (p ∷ ps))) (holds_of ps) (ascends_unset 0 v (holds_of (p ∷ ps)) (holds_ascend (p ∷ ps))) (holds_ascend ps)
    (λ k. get_unset k v (holds_of (p ∷ ps)) ∙ (ap (cond (nat_eq v k) None) (get_set k v p.1.flags (holds_of ps)) ∙ freed_by (nat_eq v k) k v p.1.flags (holds_of ps) refl none))

pub first_held : (p : ℕ × Transaction) (ps : Table Transaction) → is_some (get p.1.volume (holds_of (p ∷ ps))) ≡ true
first_held p ps = ap (λ (o : Option ℕ). is_some o) (get_set p.1.volume p.1.volume p.1.flags (holds_of ps)) ∙ rw (eq-eqb p.1.volume p.1.volume refl) refl

-- ---- one after the other

pub record Freed (ts : Table Transaction) (i : ℕ) (old new : Table ℕ) (v : ℕ) : Type 0 where
  pub holds : new ≡ holds_of (drop (i + 1) ts)
  pub alone : AreAlone (drop (i + 1) ts)
  pub held : is_some (get v old) ≡ true

-- the volume of the next is held no more
pub free_next : (i : ℕ) (ts : Table Transaction) (d : ℕ × Transaction) (old new : Table ℕ) → i < length ts → old ≡ holds_of (drop i ts) → AreAlone (drop i ts) → new ≡ unset (get_or ts i d).1.volume old → Freed ts i old new (get_or ts i d).1.volume
free_next i ts d old new lt is alone left =
    let p = get_or ts i d in
    let cut : drop i ts ≡ p ∷ drop (suc i) ts = drop-cons ts i d lt in
    let next : drop (suc i) ts ≡ drop (i + 1) ts = ap (λ (n : ℕ). drop n ts) (let one : suc i ≡ i + 1 = omega arith in one) in
    let here : old ≡ holds_of (p ∷ drop (suc i) ts) = is ∙ ap holds_of cut in
    let all : AreAlone (p ∷ drop (suc i) ts) = subst AreAlone cut alone in
    record {
      holds = left ∙ (ap (unset p.1.volume) here ∙ (freed p (drop (suc i) ts) all ∙ ap holds_of next));
      alone = subst AreAlone next (tail_alone p (drop (suc i) ts) all);
      held = ap (λ (t : Table ℕ). is_some (get p.1.volume t)) here ∙ first_held p (drop (suc i) ts);
    }

-- the volume of the one before is held
pub hold_next : (b : ℕ) (ts : Table Transaction) (d : ℕ × Transaction) (old new : Table ℕ) → b < length ts → old ≡ holds_of (drop (length ts - b) ts) →
    new ≡ set (get_or ts (length ts - 1 - b) d).1.volume (get_or ts (length ts - 1 - b) d).1.flags old → new ≡ holds_of (drop (length ts - (b + 1)) ts)
hold_next b ts d old new lt is more =
    let i = length ts - 1 - b in
    let p = get_or ts i d in
    let cut : drop i ts ≡ p ∷ drop (suc i) ts = drop-cons ts i d (omega (arith, lt)) in
    let behind : length ts - b ≡ suc i = omega (arith, lt) in
    let here : i ≡ length ts - (b + 1) = omega (arith, lt) in
    more ∙ (ap (set p.1.volume p.1.flags) (is ∙ ap (λ (n : ℕ). holds_of (drop n ts)) behind) ∙ (sym (ap holds_of cut) ∙ ap (λ (n : ℕ). holds_of (drop n ts)) here))

pub flag_at : (i : ℕ) (ts : Table Transaction) (d : ℕ × Transaction) → i < length ts → AreFlagged ts → IsHoldFlag (get_or ts i d).1.flags
flag_at i [] d lt all = absurd (omega (arith, lt))
flag_at zero (p ∷ ps) d lt all = all.0
flag_at (suc i) (p ∷ ps) d lt all = flag_at i ps d (omega (arith, lt)) all.1

-- ---- the lesser of two

pub below_both : (n a b : ℕ) → n < min a b → (n < a) × (n < b)
below_both n a b less = let first = min-le_left a b in let second = min-le_right a b in (omega (arith, less, first), omega (arith, less, second))

pub over_both : (n a b : ℕ) → n ≤ a → n ≤ b → n ≤ min a b
over_both n a b p q = grind (arith, p, q)

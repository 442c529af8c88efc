-- That the parents lead from each vnode to the root, by a rank that falls from each vnode to its parent.
use Rattle.std.proofs.Common.{◌≡◌, ℕ, zero, suc, ◌+◌, ◌<◌, ◌≤◌, Bool, true, false, cond, eqb, ltb, [], ◌∷◌, length, Option, Some, None, refl, sym, ap, subst, ◌∙◌, arith, eqb-true, ltb-true, lt-ltb}
use Rattle.std.specs.Prelude.{◌||◌, nat_eq}
use Rattle.spec_ideal.specs.Tables.{Table, get}
use Rattle.spec_ideal.specs.Volumes.{Vnode, Volume}
use Rattle.spec_ideal.specs.Operations.{leads_up, is_below}
use Rattle.spec_ideal.proofs.Counts.{one_if}
use Rattle.spec_ideal.proofs.Maps.{Map, differ}

abbrev pub Ranked : Map → (ℕ → ℕ) → Type 0
Ranked g rank = (n : ℕ) (x : Vnode) → g n ≡ Some x → (n ≡ 1 → ⊥) → rank x.parent < rank n

abbrev pub at : Volume → Map
at v n = get n v.vnodes

-- ---- steps to the root are such a rank

abbrev climb : ℕ → ℕ → Volume → Option Vnode → ℕ
climb zero n v o = 0
climb (suc k) n v None = 0
climb (suc k) n v (Some x) = cond (eqb n 1) 0 (suc (climb k x.parent v (get x.parent v.vnodes)))

settled_by : (b : Bool) (i j : ℕ) (up : Bool) → (b || up) ≡ true → (up ≡ true → i ≡ j) → cond b 0 (suc i) ≡ cond b 0 (suc j)
settled_by true i j up e h = refl
settled_by false i j up e h = ap suc (h e)

-- more steps than lead to the root make no difference
settled : (k n : ℕ) (v : Volume) (o : Option Vnode) → leads_up k n 1 v o ≡ true → climb (suc k) n v o ≡ climb k n v o
settled zero n v o e = absurd cc
settled (suc k) n v None e = refl
settled (suc k) n v (Some x) e =
    settled_by (eqb n 1) (climb (suc k) x.parent v (get x.parent v.vnodes)) (climb k x.parent v (get x.parent v.vnodes)) (leads_up k x.parent 1 v (get x.parent v.vnodes)) e
    (settled k x.parent v (get x.parent v.vnodes))

stepped : (b up : Bool) (i : ℕ) → (b ≡ true → ⊥) → (b || up) ≡ true → (up ≡ true) × (cond b 0 (suc i) ≡ suc i)
stepped true up i ne e = absurd (ne refl)
stepped false up i ne e = (e, refl)

falls : (k n : ℕ) (v : Volume) (x : Vnode) → (n ≡ 1 → ⊥) → leads_up k n 1 v (Some x) ≡ true → climb k x.parent v (get x.parent v.vnodes) < climb k n v (Some x)
falls zero n v x ne e = absurd cc
falls (suc k) n v x ne e =
    let s = stepped (eqb n 1) (leads_up k x.parent 1 v (get x.parent v.vnodes)) (climb k x.parent v (get x.parent v.vnodes)) (λ t. ne (eqb-true n 1 t)) e in
    let same = settled k x.parent v (get x.parent v.vnodes) s.0 in
    let mine = s.1 in
    omega (arith, same, mine)

abbrev pub steps : Volume → ℕ → ℕ
steps v n = climb (length v.vnodes) n v (get n v.vnodes)

pub reaching_ranked : (v : Volume) → ((n : ℕ) (x : Vnode) → get n v.vnodes ≡ Some x → (n ≡ 1 → ⊥) → is_below n 1 v ≡ true) → Ranked (at v) (steps v)
reaching_ranked v h n x e ne =
    let up : leads_up (length v.vnodes) n 1 v (Some x) ≡ true = subst (λ (o : Option Vnode). leads_up (length v.vnodes) n 1 v o ≡ true) e (h n x e ne) in
    subst (λ (o : Option Vnode). steps v x.parent < climb (length v.vnodes) n v o) (sym e) (falls (length v.vnodes) n v x ne up)

-- ---- a way up meets no more vnodes than there are: fewer and fewer have a lower rank

abbrev lower : (ℕ → ℕ) → ℕ → Table Vnode → ℕ
lower rank r [] = 0
lower rank r (p ∷ ps) = one_if (ltb (rank p.0) r) + lower rank r ps

one_up : (a b : Bool) → (a ≡ true → b ≡ true) → one_if a ≤ one_if b
one_up true true h = omega arith
one_up true false h = let z = h refl in absurd cc
one_up false b h = omega arith

lower_up : (rank : ℕ → ℕ) (r s : ℕ) (t : Table Vnode) → r ≤ s → lower rank r t ≤ lower rank s t
lower_up rank r s [] le = omega arith
lower_up rank r s (p ∷ ps) le =
    let a = one_up (ltb (rank p.0) r) (ltb (rank p.0) s) (λ e. lt-ltb (rank p.0) s (let z : rank p.0 < r = ltb-true (rank p.0) r e in omega arith)) in
    let b = lower_up rank r s ps le in
    omega (arith, a, b)

not_lower : (a : ℕ) → one_if (ltb a a) ≡ 0
not_lower a = not_by (ltb a a) refl
  where
    not_by : (b : Bool) → ltb a a ≡ b → one_if b ≡ 0
    not_by true e = let z : a < a = ltb-true a a e in absurd (omega arith)
    not_by false e = refl

is_lower : (a r : ℕ) → a < r → one_if (ltb a r) ≡ 1
is_lower a r lt = rw (lt-ltb a r lt) refl

found_by : (b : Bool) (rank : ℕ → ℕ) (n r : ℕ) (p : ℕ × Vnode) (ps : Table Vnode) (x : Vnode) → eqb p.0 n ≡ b → rank n < r → cond b (Some p.1) (get n ps) ≡ Some x → (get n ps ≡ Some x → lower rank (rank n) ps < lower rank r ps)
    → one_if (ltb (rank p.0) (rank n)) + lower rank (rank n) ps < one_if (ltb (rank p.0) r) + lower rank r ps
found_by true rank n r p ps x b lt e more =
    let number : p.0 ≡ n = eqb-true p.0 n b in
    let none : one_if (ltb (rank p.0) (rank n)) ≡ 0 = ap (λ (k : ℕ). one_if (ltb (rank k) (rank n))) number ∙ not_lower (rank n) in
    let one : one_if (ltb (rank p.0) r) ≡ 1 = ap (λ (k : ℕ). one_if (ltb (rank k) r)) number ∙ is_lower (rank n) r lt in
    let rest = lower_up rank (rank n) r ps (omega arith) in
    omega (arith, none, one, rest)
found_by false rank n r p ps x b lt e more =
    let a = one_up (ltb (rank p.0) (rank n)) (ltb (rank p.0) r) (λ t. lt-ltb (rank p.0) r (let z : rank p.0 < rank n = ltb-true (rank p.0) (rank n) t in omega arith)) in
    let c = more e in
    omega (arith, a, c)

-- a vnode that is there counts for those above its rank
lower_less : (rank : ℕ → ℕ) (n r : ℕ) (t : Table Vnode) (x : Vnode) → get n t ≡ Some x → rank n < r → lower rank (rank n) t < lower rank r t
lower_less rank n r [] x e lt = absurd cc
lower_less rank n r (p ∷ ps) x e lt = found_by (eqb p.0 n) rank n r p ps x refl lt e (λ h. lower_less rank n r ps x h lt)

lower_all : (rank : ℕ → ℕ) (r : ℕ) (t : Table Vnode) → lower rank r t ≤ length t
lower_all rank r [] = omega arith
lower_all rank r (p ∷ ps) =
    let a = one_up (ltb (rank p.0) r) true (λ e. refl) in
    let b = lower_all rank r ps in
    omega (arith, a, b)

fewer : (rank : ℕ → ℕ) (n : ℕ) (t : Table Vnode) (x : Vnode) → get n t ≡ Some x → lower rank (rank n) t < length t
fewer rank n t x e =
    let a = lower_less rank n (rank n + 1) t x e (omega arith) in
    let b = lower_all rank (rank n + 1) t in
    omega (arith, a, b)

-- ---- so the parents lead to the root

abbrev pub HasParents : Map → Type 0
HasParents g = (n : ℕ) (x : Vnode) → g n ≡ Some x → (n ≡ 1 → ⊥) → (d : Vnode) × (g x.parent ≡ Some d)

reached_by : (b up : Bool) → ((b ≡ false) → up ≡ true) → (b || up) ≡ true
reached_by true up h = refl
reached_by false up h = h refl

reached : (v : Volume) (rank : ℕ → ℕ) → Ranked (at v) rank → HasParents (at v) → (k n : ℕ) (x : Vnode) → get n v.vnodes ≡ Some x → lower rank (rank n) v.vnodes < k → leads_up k n 1 v (Some x) ≡ true
reached v rank ranked parents zero n x e lt = absurd (omega arith)
reached v rank ranked parents (suc k) n x e lt =
    reached_by (eqb n 1) (leads_up k x.parent 1 v (get x.parent v.vnodes)) (λ b.
    let d = parents n x e (differ n 1 b) in
    let less = lower_less rank x.parent (rank n) v.vnodes d.0 d.1 (ranked n x e (differ n 1 b)) in
    subst (λ (o : Option Vnode). leads_up k x.parent 1 v o ≡ true) (sym d.1) (reached v rank ranked parents k x.parent d.0 d.1 (omega (arith, less, lt))))

pub ranked_reaching : (v : Volume) (rank : ℕ → ℕ) → Ranked (at v) rank → HasParents (at v) → (n : ℕ) (x : Vnode) → get n v.vnodes ≡ Some x → is_below n 1 v ≡ true
ranked_reaching v rank ranked parents n x e =
    subst (λ (o : Option Vnode). leads_up (length v.vnodes) n 1 v o ≡ true) (sym e) (reached v rank ranked parents (length v.vnodes) n x e (fewer rank n v.vnodes x e))

-- ---- what stands below a directory

same_by : (b c d : Bool) → (b ≡ false → c ≡ d) → (b || c) ≡ (b || d)
same_by true c d h = refl
same_by false c d h = h refl

nothing_up : (k n top : ℕ) (v : Volume) → leads_up k n top v None ≡ false
nothing_up zero n top v = refl
nothing_up (suc k) n top v = refl

parent_up : (b : Bool) (v : Volume) (rank : ℕ → ℕ) (top n k j : ℕ) (x : Vnode) → get n v.vnodes ≡ Some x → eqb n 1 ≡ b → ((w : Vnode) → get 1 v.vnodes ≡ Some w → get w.parent v.vnodes ≡ None)
    → ((n ≡ 1 → ⊥) → leads_up k x.parent top v (get x.parent v.vnodes) ≡ leads_up j x.parent top v (get x.parent v.vnodes)) → leads_up k x.parent top v (get x.parent v.vnodes) ≡ leads_up j x.parent top v (get x.parent v.vnodes)
parent_up true v rank top n k j x e b root more =
    let none = root x (ap (λ (m : ℕ). get m v.vnodes) (sym (eqb-true n 1 b)) ∙ e) in
    subst (λ (o : Option Vnode). leads_up k x.parent top v o ≡ leads_up j x.parent top v o) (sym none) (nothing_up k x.parent top v ∙ sym (nothing_up j x.parent top v))
parent_up false v rank top n k j x e b root more = more (differ n 1 b)

-- with enough steps their number makes no difference; the root's parent, 0, isn't there
same_up : (v : Volume) (rank : ℕ → ℕ) (top : ℕ) → Ranked (at v) rank → HasParents (at v) → ((x : Vnode) → get 1 v.vnodes ≡ Some x → get x.parent v.vnodes ≡ None)
    → (k j n : ℕ) (x : Vnode) → get n v.vnodes ≡ Some x → lower rank (rank n) v.vnodes < k → lower rank (rank n) v.vnodes < j → leads_up k n top v (Some x) ≡ leads_up j n top v (Some x)
same_up v rank top ranked parents root zero j n x e p q = absurd (omega arith)
same_up v rank top ranked parents root (suc k) zero n x e p q = absurd (omega arith)
same_up v rank top ranked parents root (suc k) (suc j) n x e p q =
    ap (λ (up : Bool). nat_eq n top || up) (parent_up (eqb n 1) v rank top n k j x e refl root
    (λ ne. (let d = parents n x e ne in
    let less = lower_less rank x.parent (rank n) v.vnodes d.0 d.1 (ranked n x e ne) in
    subst (λ (o : Option Vnode). leads_up k x.parent top v o ≡ leads_up j x.parent top v o) (sym d.1) (same_up v rank top ranked parents root k j x.parent d.0 d.1 (omega (arith, less, p)) (omega (arith, less, q))))))

below_step : (v : Volume) (rank : ℕ → ℕ) (top : ℕ) → Ranked (at v) rank → HasParents (at v) → ((x : Vnode) → get 1 v.vnodes ≡ Some x → get x.parent v.vnodes ≡ None)
    → (k n : ℕ) (x : Vnode) → get n v.vnodes ≡ Some x → (n ≡ 1 → ⊥) → lower rank (rank n) v.vnodes < k → leads_up k n top v (Some x) ≡ (nat_eq n top || leads_up k x.parent top v (get x.parent v.vnodes))
below_step v rank top ranked parents root zero n x e ne lt = absurd (omega arith)
below_step v rank top ranked parents root (suc k) n x e ne lt =
    let d = parents n x e ne in
    let less = lower_less rank x.parent (rank n) v.vnodes d.0 d.1 (ranked n x e ne) in
    ap (λ (up : Bool). nat_eq n top || up)
    (subst (λ (o : Option Vnode). leads_up k x.parent top v o ≡ leads_up (suc k) x.parent top v o) (sym d.1) (same_up v rank top ranked parents root k (suc k) x.parent d.0 d.1 (omega (arith, less, lt)) (omega (arith, less, lt))))

-- a vnode stands below `top` where it is `top`, or its parent does
pub below_is : (v : Volume) (rank : ℕ → ℕ) (top : ℕ) → Ranked (at v) rank → HasParents (at v) → ((x : Vnode) → get 1 v.vnodes ≡ Some x → get x.parent v.vnodes ≡ None)
    → (n : ℕ) (x : Vnode) → get n v.vnodes ≡ Some x → (n ≡ 1 → ⊥) → is_below n top v ≡ (nat_eq n top || is_below x.parent top v)
below_is v rank top ranked parents root n x e ne =
    subst (λ (o : Option Vnode). leads_up (length v.vnodes) n top v o ≡ (nat_eq n top || is_below x.parent top v)) (sym e) (below_step v rank top ranked parents root (length v.vnodes) n x e ne (fewer rank n v.vnodes x e))

-- ---- ranks after a change

-- each vnode has its parent
pub ranked_same : (g k : Map) (rank : ℕ → ℕ) → Ranked g rank → ((n : ℕ) (y : Vnode) → k n ≡ Some y → (x : Vnode) × ((g n ≡ Some x) × (y.parent ≡ x.parent))) → Ranked k rank
ranked_same g k rank h same n y e ne =
    let o = same n y e in
    let up : rank o.0.parent < rank n = h n o.0 o.1.0 ne in
    subst (λ (p : ℕ). rank p < rank n) (sym o.1.1) up

-- all but t, which no other has for a parent
leaf_by : (b : Bool) (t p q : ℕ) (rank : ℕ → ℕ) (n : ℕ) (x : Vnode) → eqb x.parent t ≡ b → (x.parent ≡ t → ⊥) → rank x.parent < q → cond b (rank p + 1) (rank x.parent) < q
leaf_by true t p q rank n x e unheld lt = absurd (unheld (eqb-true x.parent t e))
leaf_by false t p q rank n x e unheld lt = lt

no_by : (b : Bool) (p t : ℕ) → eqb p t ≡ b → (p ≡ t → ⊥) → b ≡ false
no_by true p t e ne = absurd (ne (eqb-true p t e))
no_by false p t e ne = refl

abbrev pub leaf_rank : ℕ → ℕ → (ℕ → ℕ) → ℕ → ℕ
leaf_rank t p rank m = cond (eqb m t) (rank p + 1) (rank m)

ranked_leaf_by : (b : Bool) (t p n : ℕ) (g k : Map) (rank : ℕ → ℕ) (y : Vnode) → Ranked g rank → ((n ≡ t → ⊥) → (x : Vnode) × ((g n ≡ Some x) × (y.parent ≡ x.parent)))
    → ((n ≡ t) → y.parent ≡ p) → (p ≡ t → ⊥) → ((x : Vnode) → g n ≡ Some x → (n ≡ 1 → ⊥) → x.parent ≡ t → ⊥) → (n ≡ 1 → ⊥) → eqb n t ≡ b → leaf_rank t p rank y.parent < cond b (rank p + 1) (rank n)
ranked_leaf_by true t p n g k rank y h same mine ne unheld not_root b =
    let up : y.parent ≡ p = mine (eqb-true n t b) in
    let low : eqb p t ≡ false = no_by (eqb p t) p t refl ne in
    subst (λ (q : ℕ). leaf_rank t p rank q < rank p + 1) (sym up) (rw low (omega arith))
ranked_leaf_by false t p n g k rank y h same mine ne unheld not_root b =
    let o = same (differ n t b) in
    subst (λ (q : ℕ). leaf_rank t p rank q < rank n) (sym o.1.1) (leaf_by (eqb o.0.parent t) t p (rank n) rank n o.0 refl (unheld o.0 o.1.0 not_root) (h n o.0 o.1.0 not_root))

pub ranked_leaf : (t p : ℕ) (g k : Map) (rank : ℕ → ℕ) → Ranked g rank → ((n : ℕ) (y : Vnode) → k n ≡ Some y → (n ≡ t → ⊥) → (x : Vnode) × ((g n ≡ Some x) × (y.parent ≡ x.parent)))
    → ((y : Vnode) → k t ≡ Some y → y.parent ≡ p) → (p ≡ t → ⊥) → ((n : ℕ) (x : Vnode) → g n ≡ Some x → (n ≡ 1 → ⊥) → x.parent ≡ t → ⊥) → Ranked k (leaf_rank t p rank)
ranked_leaf t p g k rank h same mine ne unheld n y e not_root =
    ranked_leaf_by (eqb n t) t p n g k rank y h (λ d. same n y e d) (λ s. mine y (sym (ap k s) ∙ e)) ne (λ x is nr. unheld n x is nr) not_root refl

-- a part moves: all below t, which comes to stand in p
abbrev pub part_rank : (ℕ → Bool) → ℕ → (ℕ → ℕ) → ℕ → ℕ
part_rank below p rank m = cond (below m) (rank m + (rank p + 1)) (rank m)

part_by : (b c : Bool) (p q r : ℕ) → b ≡ c → q < r → cond c (q + (p + 1)) q < cond b (r + (p + 1)) r
part_by true true p q r e lt = omega arith
part_by false false p q r e lt = lt
part_by true false p q r e lt = absurd cc
part_by false true p q r e lt = absurd cc

ranked_part_by : (b : Bool) (below : ℕ → Bool) (t p n : ℕ) (g : Map) (rank : ℕ → ℕ) (y : Vnode) → Ranked g rank → ((n ≡ t → ⊥) → (x : Vnode) × ((g n ≡ Some x) × (y.parent ≡ x.parent))) → ((n ≡ t) → y.parent ≡ p) → below t ≡ true → below p ≡ false
    → ((x : Vnode) → g n ≡ Some x → below n ≡ (eqb n t || below x.parent)) → (n ≡ 1 → ⊥) → eqb n t ≡ b → part_rank below p rank y.parent < part_rank below p rank n
ranked_part_by true below t p n g rank y h same mine top out step not_root b =
    let number : n ≡ t = eqb-true n t b in
    let high : below n ≡ true = ap below number ∙ top in
    subst (λ (q : ℕ). part_rank below p rank q < part_rank below p rank n) (sym (mine number)) (rw (high, out) (omega arith))
ranked_part_by false below t p n g rank y h same mine top out step not_root b =
    let o = same (differ n t b) in
    let e : below n ≡ below o.0.parent = step o.0 o.1.0 ∙ rw b refl in
    subst (λ (q : ℕ). part_rank below p rank q < part_rank below p rank n) (sym o.1.1) (part_by (below n) (below o.0.parent) (rank p) (rank o.0.parent) (rank n) e (h n o.0 o.1.0 not_root))

pub ranked_part : (below : ℕ → Bool) (t p : ℕ) (g k : Map) (rank : ℕ → ℕ) → Ranked g rank → ((n : ℕ) (y : Vnode) → k n ≡ Some y → (n ≡ t → ⊥) → (x : Vnode) × ((g n ≡ Some x) × (y.parent ≡ x.parent)))
    → ((y : Vnode) → k t ≡ Some y → y.parent ≡ p) → below t ≡ true → below p ≡ false → ((n : ℕ) (x : Vnode) → g n ≡ Some x → (n ≡ 1 → ⊥) → below n ≡ (eqb n t || below x.parent)) → Ranked k (part_rank below p rank)
ranked_part below t p g k rank h same mine top out step n y e not_root =
    ranked_part_by (eqb n t) below t p n g rank y h (λ d. same n y e d) (λ s. mine y (sym (ap k s) ∙ e)) top out (λ x is. step n x is not_root) not_root refl

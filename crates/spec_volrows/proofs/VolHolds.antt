-- The volumes held, as transactions begin and end.
use Rattle.std.proofs.Common.{◌≡◌, ℕ, ◌+◌, ◌≤◌, ◌<◌, ◌⊎◌, inl, inr, Bool, true, false, cond, List, [], ◌∷◌, Option, Some, None, is_some, nat_eq, nat_lt, refl, sym, ap, subst, ◌∙◌, arith, eqb-true, eq-eqb}
use Rattle.std.proofs.lemmas.Bool.Decides.{nat_tests}
use Rattle.spec_ideal.specs.Tables.{Table, get, set, unset, AscendsFrom}
use Rattle.spec_ideal.proofs.Tables.{get_set, get_unset, get_below, ascends_set, ascends_unset}
use Rattle.spec_volrows.proofs.VolApart.{begun, ended, gave_apart, behind_found, some_is, set_found, unset_found, no_both}
use Rattle.spec_records.specs.Durable.{Stored}
use Rattle.spec_volrows.specs.VolLaws.{AreApart, HoldsFollow}
use Rattle.spec_volrows.specs.VolRow.{gave, holds_of}
use Rattle.spec_volrows.specs.VolStates.{Transaction}

-- ---- tables with the same things are the same

no_some : {A : Type 0} (x : A) (o : Option A) → o ≡ None → o ≡ Some x → ⊥
no_some {A} x o e f = cc

first_there : {A : Type 0} (p : ℕ × A) (ps : Table A) → get p.0 (p ∷ ps) ≡ Some p.1
first_there {A} p ps = rw (eq-eqb p.0 p.0 refl) refl

not_lower : {A : Type 0} (p q : ℕ × A) (ps qs : Table A) → AscendsFrom q.0 (q ∷ qs) → get p.0 (p ∷ ps) ≡ get p.0 (q ∷ qs) → (b : Bool) → nat_lt p.0 q.0 ≡ b → q.0 ≤ p.0
not_lower {A} p q ps qs up same true e = let lt : p.0 < q.0 = grind (arith, nat_tests, e) in absurd (no_some p.1 (get p.0 (q ∷ qs)) (get_below q.0 p.0 (q ∷ qs) lt up) (sym same ∙ first_there p ps))
not_lower {A} p q ps qs up same false e = grind (arith, nat_tests, e)

tails_by : {A : Type 0} (b : Bool) (n k : ℕ) (x y : A) (ps qs : Table A) → nat_eq n k ≡ b → AscendsFrom (n + 1) ps → AscendsFrom (n + 1) qs → cond b (Some x) (get k ps) ≡ cond b (Some y) (get k qs) → get k ps ≡ get k qs
tails_by {A} true n k x y ps qs e up high same = let lt : k < n + 1 = grind (arith, nat_tests, e) in get_below (n + 1) k ps lt up ∙ sym (get_below (n + 1) k qs lt high)
tails_by {A} false n k x y ps qs e up high same = same

cons_is : {A : Type 0} (p q : ℕ × A) (ps qs : Table A) → p.0 ≡ q.0 → p.1 ≡ q.1 → ps ≡ qs → p ∷ ps ≡ q ∷ qs
cons_is {A} p q ps qs a b c = λ i. (a i, b i) ∷ c i

same_tables : {A : Type 0} (m : ℕ) (t u : Table A) → AscendsFrom m t → AscendsFrom m u → ((k : ℕ) → get k t ≡ get k u) → t ≡ u
same_tables {A} m [] [] up high same = refl
same_tables {A} m [] (q ∷ qs) up high same = absurd (no_some q.1 (get q.0 (q ∷ qs)) (sym (same q.0)) (first_there q qs))
same_tables {A} m (p ∷ ps) [] up high same = absurd (no_some p.1 (get p.0 (p ∷ ps)) (same p.0) (first_there p ps))
same_tables {A} m (p ∷ ps) (q ∷ qs) up high same =
    let low : q.0 ≤ p.0 = not_lower p q ps qs (omega (arith), high.1) (same p.0) (nat_lt p.0 q.0) refl in
    let above : p.0 ≤ q.0 = not_lower q p qs ps (omega (arith), up.1) (sym (same q.0)) (nat_lt q.0 p.0) refl in
    let one : p.0 ≡ q.0 = omega (arith, low, above) in
    let there : get p.0 (q ∷ qs) ≡ Some q.1 = ap (λ (k : ℕ). get k (q ∷ qs)) one ∙ first_there q qs in
    let two : p.1 ≡ q.1 = inner p.1 q.1 (sym (first_there p ps) ∙ (same p.0 ∙ there)) in
    let high_p : AscendsFrom (p.0 + 1) qs = subst (λ (k : ℕ). AscendsFrom (k + 1) qs) (sym one) high.1 in
    cons_is p q ps qs one two (same_tables (p.0 + 1) ps qs up.1 high_p (λ k. tails_by (nat_eq p.0 k) p.0 k p.1 q.1 ps qs refl up.1 high_p (same k ∙ ap (λ (j : ℕ). cond (nat_eq j k) (Some q.1) (get k qs)) (sym one))))
  where
    inner : {A : Type 0} (x y : A) → Some x ≡ Some y → x ≡ y
    inner {A} x y e = cc

-- ---- who holds a volume

Nobody : ℕ → Table Transaction → Type 0
Nobody v ts = (n : ℕ) (t : Transaction) → get n ts ≡ Some t → t.volume ≡ v → ⊥

Alone : Table Transaction → Type 0
Alone ts = (n m : ℕ) (t u : Transaction) → get n ts ≡ Some t → get m ts ≡ Some u → t.volume ≡ u.volume → n ≡ m

self_there : (p : ℕ × Transaction) (ps : Table Transaction) → get p.0 (p ∷ ps) ≡ Some p.1
self_there p ps = rw (eq-eqb p.0 p.0 refl) refl

tail_there : (n : ℕ) (p : ℕ × Transaction) (ps : Table Transaction) (t : Transaction) → AscendsFrom (p.0 + 1) ps → get n ps ≡ Some t → get n (p ∷ ps) ≡ Some t
tail_there n p ps t up e = behind_found (nat_eq p.0 n) n p ps t refl up e

none_by : (b : Bool) (x : ℕ) (o : Option ℕ) → b ≡ false → o ≡ None → cond b (Some x) o ≡ None
none_by true x o e f = absurd cc
none_by false x o e f = f

unlike : (a b : ℕ) → (a ≡ b → ⊥) → (c : Bool) → nat_eq a b ≡ c → nat_eq a b ≡ false
unlike a b f true e = absurd (f (eqb-true a b e))
unlike a b f false e = e

held_none : (m v : ℕ) (ts : Table Transaction) → AscendsFrom m ts → Nobody v ts → get v (holds_of ts) ≡ None
unfolding Nobody
held_none m v [] up f = refl
held_none m v (p ∷ ps) up f =
    get_set v p.1.volume p.1.flags (holds_of ps) ∙ none_by (nat_eq p.1.volume v) p.1.flags (get v (holds_of ps)) (unlike p.1.volume v (f p.0 p.1 (self_there p ps)) (nat_eq p.1.volume v) refl)
    (held_none (p.0 + 1) v ps up.1 (λ n t e. f n t (tail_there n p ps t up.1 e)))

held_by : (b c : Bool) (n : ℕ) (p : ℕ × Transaction) (ps : Table Transaction) (t : Transaction) → Alone (p ∷ ps) → nat_eq p.1.volume t.volume ≡ b → nat_eq p.0 n ≡ c → get n (p ∷ ps) ≡ Some t → cond c (Some p.1) (get n ps) ≡ Some t →
    (get n ps ≡ Some t → get t.volume (holds_of ps) ≡ Some t.flags) → cond b (Some p.1.flags) (get t.volume (holds_of ps)) ≡ Some t.flags
unfolding Alone
held_by true c n p ps t alone same is e f later =
    let one : p.0 ≡ n = alone p.0 n p.1 t (self_there p ps) e (eqb-true p.1.volume t.volume same) in
    let two : p.1 ≡ t = some_is p.1 t (sym (self_there p ps) ∙ (ap (λ (k : ℕ). get k (p ∷ ps)) one ∙ e)) in
    ap (λ (x : Transaction). Some x.flags) two
held_by false true n p ps t alone same is e f later =
    let two : p.1 ≡ t = some_is p.1 t f in
    absurd (no_both (nat_eq p.1.volume t.volume) (eq-eqb p.1.volume t.volume (ap (λ (x : Transaction). x.volume) two)) same)
held_by false false n p ps t alone same is e f later = later f

held_some : (m n : ℕ) (t : Transaction) (ts : Table Transaction) → AscendsFrom m ts → Alone ts → get n ts ≡ Some t → get t.volume (holds_of ts) ≡ Some t.flags
unfolding Alone
held_some m n t [] up alone e = absurd cc
held_some m n t (p ∷ ps) up alone e =
    get_set t.volume p.1.volume p.1.flags (holds_of ps) ∙ held_by (nat_eq p.1.volume t.volume) (nat_eq p.0 n) n p ps t alone refl refl e e
    (λ f. held_some (p.0 + 1) n t ps up.1 (λ i j x y g h same. alone i j x y (tail_there i p ps x up.1 g) (tail_there j p ps y up.1 h) same) f)

-- on a volume, where one is
abbrev Holder : ℕ → Table Transaction → Type 0
Holder v ts = (n : ℕ) × ((t : Transaction) × ((get n ts ≡ Some t) × (t.volume ≡ v)))

nobody_more : (c : Bool) (v n : ℕ) (p : ℕ × Transaction) (ps : Table Transaction) (t : Transaction) → nat_eq p.1.volume v ≡ false → Nobody v ps → cond c (Some p.1) (get n ps) ≡ Some t → t.volume ≡ v → ⊥
unfolding Nobody
nobody_more true v n p ps t other f e same = no_both (nat_eq p.1.volume v) (eq-eqb p.1.volume v (ap (λ (x : Transaction). x.volume) (some_is p.1 t e) ∙ same)) other
nobody_more false v n p ps t other f e same = f n t e same

holder_by : (b : Bool) (v : ℕ) (p : ℕ × Transaction) (ps : Table Transaction) → nat_eq p.1.volume v ≡ b → AscendsFrom (p.0 + 1) ps → Nobody v ps ⊎ Holder v ps → Nobody v (p ∷ ps) ⊎ Holder v (p ∷ ps)
unfolding Nobody
holder_by true v p ps e up z = inr (p.0, (p.1, (self_there p ps, eqb-true p.1.volume v e)))
holder_by false v p ps e up (inl f) = inl (λ n t g same. nobody_more (nat_eq p.0 n) v n p ps t e f g same)
holder_by false v p ps e up (inr z) = inr (z.0, (z.1.0, (tail_there z.0 p ps z.1.0 up z.1.1.0, z.1.1.1)))

holder : (m v : ℕ) (ts : Table Transaction) → AscendsFrom m ts → Nobody v ts ⊎ Holder v ts
unfolding Nobody
holder m v [] up = inl (λ n t e same. absurd cc)
holder m v (p ∷ ps) up = holder_by (nat_eq p.1.volume v) v p ps refl up.1 (holder (p.0 + 1) v ps up.1)

holds_ascend : (ts : Table Transaction) → AscendsFrom 0 (holds_of ts)
holds_ascend [] = tt
holds_ascend (p ∷ ps) = ascends_set 0 p.1.volume p.1.flags (holds_of ps) (omega (arith)) (holds_ascend ps)

-- by what is found at a volume
at_volume : (v m n : ℕ) (t : Transaction) (ts : Table Transaction) → AscendsFrom m ts → Alone ts → get n ts ≡ Some t → t.volume ≡ v → get v (holds_of ts) ≡ Some t.flags
at_volume v m n t ts up alone e same = ap (λ (k : ℕ). get k (holds_of ts)) (sym same) ∙ held_some m n t ts up alone e

-- ---- a transaction begins

begun_nobody : (b : Bool) (v last : ℕ) (x : Transaction) (ts : Table Transaction) → nat_eq x.volume v ≡ b → AscendsFrom 1 (set (last + 1) x ts) → Alone (set (last + 1) x ts) → Nobody v ts → get v (holds_of (set (last + 1) x ts)) ≡ cond b (Some x.flags) None
unfolding Nobody
begun_nobody true v last x ts e up alone f = at_volume v 1 (last + 1) x (set (last + 1) x ts) up alone (get_set (last + 1) (last + 1) x ts ∙ rw (eq-eqb (last + 1) (last + 1) refl) refl) (eqb-true x.volume v e)
begun_nobody false v last x ts e up alone f = held_none 1 v (set (last + 1) x ts) up (λ n t g same. by n t same (set_found (last + 1) n x t ts g))
  where
    by : (n : ℕ) (t : Transaction) → t.volume ≡ v → ((last + 1 ≡ n) × (x ≡ t)) ⊎ (get n ts ≡ Some t) → ⊥
    by n t same (inl z) = no_both (nat_eq x.volume v) (eq-eqb x.volume v (ap (λ (y : Transaction). y.volume) z.1 ∙ same)) e
    by n t same (inr z) = f n t z same

begun_at : (v last : ℕ) (x : Transaction) (ts : Table Transaction) → AscendsFrom 1 ts → Alone ts → ((n : ℕ) (t : Transaction) → get n ts ≡ Some t → n ≤ last) → AscendsFrom 1 (set (last + 1) x ts) → Alone (set (last + 1) x ts) → Nobody x.volume ts → Nobody v ts ⊎ Holder v ts →
    get v (holds_of (set (last + 1) x ts)) ≡ cond (nat_eq x.volume v) (Some x.flags) (get v (holds_of ts))
unfolding Nobody
begun_at v last x ts up alone low new_up new_alone free (inl f) = begun_nobody (nat_eq x.volume v) v last x ts refl new_up new_alone f ∙ ap (cond (nat_eq x.volume v) (Some x.flags)) (sym (held_none 1 v ts up f))
begun_at v last x ts up alone low new_up new_alone free (inr z) =
    let n : ℕ = z.0 in
    let u : Transaction = z.1.0 in
    let there : get n ts ≡ Some u = z.1.1.0 in
    let on : u.volume ≡ v = z.1.1.1 in
    let le : n ≤ last = low n u there in
    let other : nat_eq (last + 1) n ≡ false = grind (arith, nat_tests, le) in
    let new_there : get n (set (last + 1) x ts) ≡ Some u = get_set n (last + 1) x ts ∙ rw other there in
    let apart : nat_eq x.volume v ≡ false = unlike x.volume v (λ e. free n u there (on ∙ sym e)) (nat_eq x.volume v) refl in
    at_volume v 1 n u (set (last + 1) x ts) new_up new_alone new_there on ∙ (sym (at_volume v 1 n u ts up alone there on) ∙ rw apart refl)

-- ---- one ends

unset_there : (n k : ℕ) (t : Transaction) (ts : Table Transaction) → nat_eq k n ≡ false → get n ts ≡ Some t → get n (unset k ts) ≡ Some t
unset_there n k t ts e there = get_unset n k ts ∙ rw e there

cond_none : (b : Bool) (o : Option ℕ) → o ≡ None → cond b None o ≡ None
cond_none true o e = refl
cond_none false o e = e

ended_holder : (b : Bool) (v k n : ℕ) (t u : Transaction) (ts : Table Transaction) → nat_eq t.volume v ≡ b → AscendsFrom 1 ts → Alone ts → AscendsFrom 1 (unset k ts) → Alone (unset k ts) → get k ts ≡ Some t → get n ts ≡ Some u → u.volume ≡ v →
    get v (holds_of (unset k ts)) ≡ cond b None (get v (holds_of ts))
unfolding Alone Nobody
ended_holder true v k n t u ts e up alone new_up new_alone here there on = held_none 1 v (unset k ts) new_up none
  where
    none : Nobody v (unset k ts)
    none j y g same =
        let z = unset_found k j y ts g in
        no_both (nat_eq k j) (eq-eqb k j (alone k j t y here z.1 (eqb-true t.volume v e ∙ sym same))) z.0
ended_holder false v k n t u ts e up alone new_up new_alone here there on =
    let other : nat_eq k n ≡ false = unlike k n differ (nat_eq k n) refl in
    at_volume v 1 n u (unset k ts) new_up new_alone (unset_there n k u ts other there) on ∙ sym (at_volume v 1 n u ts up alone there on)
  where
    differ : k ≡ n → ⊥
    differ one =
        let two : t ≡ u = some_is t u (sym here ∙ (ap (λ (j : ℕ). get j ts) one ∙ there)) in
        no_both (nat_eq t.volume v) (eq-eqb t.volume v (ap (λ (x : Transaction). x.volume) two ∙ on)) e

ended_at : (v k : ℕ) (t : Transaction) (ts : Table Transaction) → AscendsFrom 1 ts → Alone ts → AscendsFrom 1 (unset k ts) → Alone (unset k ts) → get k ts ≡ Some t → Nobody v ts ⊎ Holder v ts → get v (holds_of (unset k ts)) ≡ cond (nat_eq t.volume v) None (get v (holds_of ts))
unfolding Nobody
ended_at v k t ts up alone new_up new_alone here (inl f) =
    held_none 1 v (unset k ts) new_up (λ n y g same. f n y (unset_found k n y ts g).1 same) ∙ sym (cond_none (nat_eq t.volume v) (get v (holds_of ts)) (held_none 1 v ts up f))
ended_at v k t ts up alone new_up new_alone here (inr z) = ended_holder (nat_eq t.volume v) v k z.0 t z.1.0 ts refl up alone new_up new_alone here z.1.1.0 z.1.1.1

-- ---- one is given bytes

given_at : (v k : ℕ) (x t : Transaction) (ts : Table Transaction) → x.volume ≡ t.volume → x.flags ≡ t.flags → get k ts ≡ Some t → AscendsFrom 1 ts → Alone ts → AscendsFrom 1 (set k x ts) → Alone (set k x ts) → Nobody v ts ⊎ Holder v ts → get v (holds_of (set k x ts)) ≡ get v (holds_of ts)
unfolding Nobody
given_at v k x t ts volume flags here up alone new_up new_alone (inl f) = held_none 1 v (set k x ts) new_up (λ n y g same. by n y same (set_found k n x y ts g)) ∙ sym (held_none 1 v ts up f)
  where
    by : (n : ℕ) (y : Transaction) → y.volume ≡ v → ((k ≡ n) × (x ≡ y)) ⊎ (get n ts ≡ Some y) → ⊥
    by n y same (inl z) = f k t here (sym volume ∙ (ap (λ (a : Transaction). a.volume) z.1 ∙ same))
    by n y same (inr z) = f n y z same
given_at v k x t ts volume flags here up alone new_up new_alone (inr z) = by (nat_eq k z.0) refl
  where
    by : (b : Bool) → nat_eq k z.0 ≡ b → get v (holds_of (set k x ts)) ≡ get v (holds_of ts)
    by true e =
        let same : t ≡ z.1.0 = some_is t z.1.0 (sym here ∙ (ap (λ (j : ℕ). get j ts) (eqb-true k z.0 e) ∙ z.1.1.0)) in
        let on : t.volume ≡ v = ap (λ (a : Transaction). a.volume) same ∙ z.1.1.1 in
        at_volume v 1 k x (set k x ts) new_up new_alone (get_set k k x ts ∙ rw (eq-eqb k k refl) refl) (volume ∙ on) ∙ (ap (λ (a : ℕ). Some a) flags ∙ sym (at_volume v 1 k t ts up alone here on))
    by false e = at_volume v 1 z.0 z.1.0 (set k x ts) new_up new_alone (get_set z.0 k x ts ∙ rw e z.1.1.0) z.1.1.1 ∙ sym (at_volume v 1 z.0 z.1.0 ts up alone z.1.1.0 z.1.1.1)

given_holds : (volumes : Table Stored) (last n : ℕ) (bytes : List ℕ) (o : Option Transaction) (ts : Table Transaction) → get n ts ≡ o → AreApart volumes last ts → AreApart volumes last (gave n bytes o ts) → holds_of (gave n bytes o ts) ≡ holds_of ts
unfolding Alone
given_holds volumes last n bytes None ts e h k = refl
given_holds volumes last n bytes (Some t) ts e h k =
    same_tables 0 (holds_of (set n (record t { given = bytes }) ts)) (holds_of ts) (holds_ascend (set n (record t { given = bytes }) ts)) (holds_ascend ts)
    (λ v. given_at v n (record t { given = bytes }) t ts refl refl e h.ascend h.alone k.ascend k.alone (holder 1 v ts h.ascend))

begun_holds : (volumes : Table Stored) (last : ℕ) (x : Transaction) (ts : Table Transaction) → AreApart volumes last ts → is_some (get x.volume volumes) ≡ true → ((n : ℕ) (t : Transaction) → get n ts ≡ Some t → t.volume ≡ x.volume → ⊥) → holds_of (set (last + 1) x ts) ≡ set x.volume x.flags (holds_of ts)
unfolding Alone Nobody
begun_holds volumes last x ts h there free =
    let new = begun volumes last x ts there free h in
    same_tables 0 (holds_of (set (last + 1) x ts)) (set x.volume x.flags (holds_of ts)) (holds_ascend (set (last + 1) x ts)) (ascends_set 0 x.volume x.flags (holds_of ts) (omega (arith)) (holds_ascend ts))
    (λ v. begun_at v last x ts h.ascend h.alone h.numbered new.ascend new.alone free (holder 1 v ts h.ascend) ∙ sym (get_set v x.volume x.flags (holds_of ts)))

pub holds_follow : HoldsFollow
unfolding Alone
holds_follow = record {
  held = λ volumes last n t ts h e. held_some 1 n t ts h.ascend h.alone e;
  begun = begun_holds;
  ended = λ volumes last n t ts h e. let k = ended volumes last n ts h in
      same_tables 0 (holds_of (unset n ts)) (unset t.volume (holds_of ts)) (holds_ascend (unset n ts)) (ascends_unset 0 t.volume (holds_of ts) (holds_ascend ts))
      (λ v. ended_at v n t ts h.ascend h.alone k.ascend k.alone e (holder 1 v ts h.ascend) ∙ sym (get_unset v t.volume (holds_of ts)));
  gave = λ volumes last n bytes ts h. given_holds volumes last n bytes (get n ts) ts refl h (gave_apart volumes last n bytes (get n ts) ts refl h);
}

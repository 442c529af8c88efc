-- What a volume holds after edits of different vnodes: at each number what its one edit makes there.
use Rattle.std.proofs.Common.{◌≡◌, ℕ, ◌+◌, ◌<◌, ◌≤◌, Bool, true, false, cond, eqb, ltb, List, [], ◌∷◌, Option, Some, None, refl, sym, ap, subst, ◌∙◌, arith, eqb-true, ltb-true, ltb-false}
use Rattle.std.specs.Prelude.{nat_lt, ⊤, if◌then◌else◌}
use Rattle.std.specs.List.{AllByRecursion}
use Rattle.std.specs.Option.{option_map}
use Rattle.spec_ideal.specs.Tables.{Table, get, AscendsFrom}
use Rattle.spec_ideal.specs.Volumes.{Vnode, Volume, Amend, Edit, amends, makes, frees, amended, fresh, amends_at, makes_at, frees_at, edited, edited_all, edit_number, edit_put, ascending}
use Rattle.spec_ideal.proofs.Tables.{get_set, get_unset, get_below, ascends_set, ascends_unset}

abbrev pub one_edit : ℕ → ℕ → Edit → Option Vnode → Option Vnode
one_edit c u (amends n a) o = option_map (amended c a) o
one_edit c u (makes n x) None = Some (fresh c u x)
one_edit c u (makes n x) (Some y) = Some y
one_edit c u (frees n) o = None

abbrev pub look : ℕ → ℕ → List Edit → ℕ → Option Vnode → Option Vnode
look c u [] m o = o
look c u (e ∷ es) m o = cond (eqb (edit_number e) m) (one_edit c u e o) (look c u es m o)

-- ---- one edit

same_at : (b : Bool) (n m : ℕ) (v : Volume) (o : Option Vnode) → eqb n m ≡ b → get n v.vnodes ≡ o → cond b o (get m v.vnodes) ≡ get m v.vnodes
same_at true n m v o e is = sym is ∙ ap (λ (k : ℕ). get k v.vnodes) (eqb-true n m e)
same_at false n m v o e is = refl

amends_look : (id n m : ℕ) (a : Amend) (v : Volume) (o : Option Vnode) → get n v.vnodes ≡ o → get m (amends_at id n a v o).volume.vnodes ≡ cond (eqb n m) (option_map (amended (v.counter + 1) a) o) (get m v.vnodes)
amends_look id n m a v None e = sym (same_at (eqb n m) n m v None refl e)
amends_look id n m a v (Some x) e = get_set m n (amended (v.counter + 1) a x) v.vnodes

makes_look : (id n m : ℕ) (x : Vnode) (v : Volume) (o : Option Vnode) → get n v.vnodes ≡ o → get m (makes_at id n x v o).volume.vnodes ≡ cond (eqb n m) (one_edit (v.counter + 1) v.next (makes n x) o) (get m v.vnodes)
makes_look id n m x v None e = get_set m n (fresh (v.counter + 1) v.next x) v.vnodes
makes_look id n m x v (Some y) e = sym (same_at (eqb n m) n m v (Some y) refl e)

frees_look : (id n m : ℕ) (v : Volume) (o : Option Vnode) → get n v.vnodes ≡ o → get m (frees_at id n v o).volume.vnodes ≡ cond (eqb n m) None (get m v.vnodes)
frees_look id n m v None e = sym (same_at (eqb n m) n m v None refl e)
frees_look id n m v (Some x) e = get_unset m n v.vnodes

-- the edit is made of what stands there
at_number : (b : Bool) (n m : ℕ) (f : Option Vnode → Option Vnode) (v : Volume) → eqb n m ≡ b → cond b (f (get n v.vnodes)) (get m v.vnodes) ≡ cond b (f (get m v.vnodes)) (get m v.vnodes)
at_number true n m f v e = ap (λ (k : ℕ). f (get k v.vnodes)) (eqb-true n m e)
at_number false n m f v e = refl

pub edit_look : (id m : ℕ) (e : Edit) (v : Volume) → get m (edited id e v).volume.vnodes ≡ cond (eqb (edit_number e) m) (one_edit (v.counter + 1) v.next e (get m v.vnodes)) (get m v.vnodes)
edit_look id m (amends n a) v = amends_look id n m a v (get n v.vnodes) refl ∙ at_number (eqb n m) n m (option_map (amended (v.counter + 1) a)) v refl
edit_look id m (makes n x) v = makes_look id n m x v (get n v.vnodes) refl ∙ at_number (eqb n m) n m (one_edit (v.counter + 1) v.next (makes n x)) v refl
edit_look id m (frees n) v = frees_look id n m v (get n v.vnodes) refl

-- ---- the counters

counter_by : (id n : ℕ) (a : Amend) (v : Volume) (o : Option Vnode) → (amends_at id n a v o).volume.counter ≡ v.counter
counter_by id n a v None = refl
counter_by id n a v (Some x) = refl

made_counter : (id n : ℕ) (x : Vnode) (v : Volume) (o : Option Vnode) → (makes_at id n x v o).volume.counter ≡ v.counter
made_counter id n x v None = refl
made_counter id n x v (Some y) = refl

freed_counter : (id n : ℕ) (v : Volume) (o : Option Vnode) → (frees_at id n v o).volume.counter ≡ v.counter
freed_counter id n v None = refl
freed_counter id n v (Some x) = refl

same_counter : (id : ℕ) (e : Edit) (v : Volume) → (edited id e v).volume.counter ≡ v.counter
same_counter id (amends n a) v = counter_by id n a v (get n v.vnodes)
same_counter id (makes n x) v = made_counter id n x v (get n v.vnodes)
same_counter id (frees n) v = freed_counter id n v (get n v.vnodes)

abbrev pub IsNoMake : Edit → Type 0
IsNoMake (makes n x) = ⊥
IsNoMake e = ⊤

next_by : (id n : ℕ) (a : Amend) (v : Volume) (o : Option Vnode) → (amends_at id n a v o).volume.next ≡ v.next
next_by id n a v None = refl
next_by id n a v (Some x) = refl

freed_next : (id n : ℕ) (v : Volume) (o : Option Vnode) → (frees_at id n v o).volume.next ≡ v.next
freed_next id n v None = refl
freed_next id n v (Some x) = refl

pub same_next : (id : ℕ) (e : Edit) (v : Volume) → IsNoMake e → (edited id e v).volume.next ≡ v.next
same_next id (amends n a) v h = next_by id n a v (get n v.vnodes)
same_next id (makes n x) v h = absurd h
same_next id (frees n) v h = freed_next id n v (get n v.vnodes)

pub next_all : (id : ℕ) (es : List Edit) (v : Volume) → AllByRecursion IsNoMake es → (edited_all id es v).next ≡ v.next
next_all id [] v h = refl
next_all id (e ∷ es) v h = next_all id es (edited id e v).volume h.1 ∙ same_next id e v h.0

-- ---- all of them

abbrev pub Distinct : List Edit → Type 0
Distinct [] = ⊤
Distinct (e ∷ es) = AllByRecursion (λ (d : Edit). edit_number d ≡ edit_number e → ⊥) es × Distinct es

-- the new vnode gets this unique number: just one is made
abbrev pub MakesAs : ℕ → ℕ → List Edit → Type 0
MakesAs u next [] = ⊤
MakesAs u next (makes n x ∷ es) = (next ≡ u) × AllByRecursion IsNoMake es
MakesAs u next (amends n a ∷ es) = MakesAs u next es
MakesAs u next (frees n ∷ es) = MakesAs u next es

pub no_makes : (u next : ℕ) (es : List Edit) → AllByRecursion IsNoMake es → MakesAs u next es
no_makes u next [] h = tt
no_makes u next (amends n a ∷ es) h = no_makes u next es h.1
no_makes u next (makes n x ∷ es) h = absurd h.0
no_makes u next (frees n ∷ es) h = no_makes u next es h.1

pub later_makes : (id u : ℕ) (e : Edit) (es : List Edit) (v : Volume) → MakesAs u v.next (e ∷ es) → MakesAs u (edited id e v).volume.next es
later_makes id u (amends n a) es v h = subst (λ (k : ℕ). MakesAs u k es) (sym (next_by id n a v (get n v.vnodes))) h
later_makes id u (makes n x) es v h = no_makes u (edited id (makes n x) v).volume.next es h.1
later_makes id u (frees n) es v h = subst (λ (k : ℕ). MakesAs u k es) (sym (freed_next id n v (get n v.vnodes))) h

one_as : (c u : ℕ) (e : Edit) (es : List Edit) (next : ℕ) (o : Option Vnode) → MakesAs u next (e ∷ es) → one_edit c next e o ≡ one_edit c u e o
one_as c u (amends n a) es next o h = refl
one_as c u (makes n x) es next None h = ap (λ (k : ℕ). Some (fresh c k x)) h.0
one_as c u (makes n x) es next (Some y) h = refl
one_as c u (frees n) es next o h = refl

unlooked_by : (b : Bool) (c u k m : ℕ) (e : Edit) (es : List Edit) (o : Option Vnode) → eqb (edit_number e) m ≡ b → k ≡ m → (edit_number e ≡ k → ⊥) → look c u es m o ≡ o → cond b (one_edit c u e o) (look c u es m o) ≡ o
unlooked_by true c u k m e es o b is ne h = absurd (ne (eqb-true (edit_number e) m b ∙ sym is))
unlooked_by false c u k m e es o b is ne h = h

unlooked : (c u k m : ℕ) (es : List Edit) (o : Option Vnode) → k ≡ m → AllByRecursion (λ (d : Edit). edit_number d ≡ k → ⊥) es → look c u es m o ≡ o
unlooked c u k m [] o is h = refl
unlooked c u k m (e ∷ es) o is h = unlooked_by (eqb (edit_number e) m) c u k m e es o refl is h.0 (unlooked c u k m es o is h.1)

looked_by : (b : Bool) (c u k m : ℕ) (e : Edit) (es : List Edit) (o : Option Vnode) → eqb (edit_number e) m ≡ b → AllByRecursion (λ (d : Edit). edit_number d ≡ edit_number e → ⊥) es → look c u es m (cond b (one_edit c u e o) o) ≡ cond b (one_edit c u e o) (look c u es m o)
looked_by true c u k m e es o b apart = unlooked c u (edit_number e) m es (one_edit c u e o) (eqb-true (edit_number e) m b) apart
looked_by false c u k m e es o b apart = refl

pub looks : (id u m : ℕ) (es : List Edit) (v : Volume) → Distinct es → MakesAs u v.next es → get m (edited_all id es v).vnodes ≡ look (v.counter + 1) u es m (get m v.vnodes)
looks id u m [] v apart h = refl
looks id u m (e ∷ es) v apart h =
    looks id u m es (edited id e v).volume apart.1 (later_makes id u e es v h)
    ∙ (ap (λ (k : ℕ). look (k + 1) u es m (get m (edited id e v).volume.vnodes)) (same_counter id e v)
    ∙ (ap (look (v.counter + 1) u es m) (edit_look id m e v ∙ ap (λ (o : Option Vnode). cond (eqb (edit_number e) m) o (get m v.vnodes)) (one_as (v.counter + 1) u e es v.next (get m v.vnodes) h))
    ∙ looked_by (eqb (edit_number e) m) (v.counter + 1) u 0 m e es (get m v.vnodes) refl apart.0))

-- ---- in ascending order

crossed : (a b : Bool) (p q r : Option Vnode) → (a ≡ true → b ≡ true → ⊥) → cond a p (cond b q r) ≡ cond b q (cond a p r)
crossed true true p q r ne = absurd (ne refl refl)
crossed true false p q r ne = refl
crossed false b p q r ne = refl

placed_look : (b : Bool) (c u m : ℕ) (e d : Edit) (ds : List Edit) (o : Option Vnode) → nat_lt (edit_number d) (edit_number e) ≡ b → look c u (edit_put e ds) m o ≡ look c u (e ∷ ds) m o → look c u (if b then d ∷ edit_put e ds else e ∷ d ∷ ds) m o ≡ look c u (e ∷ d ∷ ds) m o
placed_look true c u m e d ds o lt h =
    ap (cond (eqb (edit_number d) m) (one_edit c u d o)) h
    ∙ crossed (eqb (edit_number d) m) (eqb (edit_number e) m) (one_edit c u d o) (one_edit c u e o) (look c u ds m o)
    (λ p q. let a = eqb-true (edit_number d) m p in let b = eqb-true (edit_number e) m q in let z : edit_number d < edit_number e = ltb-true (edit_number d) (edit_number e) lt in absurd (omega (arith, a, b, z)))
placed_look false c u m e d ds o lt h = refl

placed_looks : (c u m : ℕ) (e : Edit) (ds : List Edit) (o : Option Vnode) → look c u (edit_put e ds) m o ≡ look c u (e ∷ ds) m o
placed_looks c u m e [] o = refl
placed_looks c u m e (d ∷ ds) o = placed_look (nat_lt (edit_number d) (edit_number e)) c u m e d ds o refl (placed_looks c u m e ds o)

pub ascending_looks : (c u m : ℕ) (es : List Edit) (o : Option Vnode) → look c u (ascending es) m o ≡ look c u es m o
ascending_looks c u m [] o = refl
ascending_looks c u m (e ∷ es) o = placed_looks c u m e (ascending es) o ∙ ap (cond (eqb (edit_number e) m) (one_edit c u e o)) (ascending_looks c u m es o)

placed_by : (b : Bool) (P : Edit → Type 0) (e d : Edit) (ds : List Edit) → P e → P d → AllByRecursion P ds → AllByRecursion P (edit_put e ds) → AllByRecursion P (if b then d ∷ edit_put e ds else e ∷ d ∷ ds)
placed_by true P e d ds one two h more = (two, more)
placed_by false P e d ds one two h more = (one, (two, h))

each_placed : (P : Edit → Type 0) (e : Edit) (ds : List Edit) → P e → AllByRecursion P ds → AllByRecursion P (edit_put e ds)
each_placed P e [] one h = (one, tt)
each_placed P e (d ∷ ds) one h = placed_by (nat_lt (edit_number d) (edit_number e)) P e d ds one h.0 h.1 (each_placed P e ds one h.1)

pub each_ascending : (P : Edit → Type 0) (es : List Edit) → AllByRecursion P es → AllByRecursion P (ascending es)
each_ascending P [] h = tt
each_ascending P (e ∷ es) h = each_placed P e (ascending es) h.0 (each_ascending P es h.1)

distinct_by : (b : Bool) (e d : Edit) (ds : List Edit) → (edit_number e ≡ edit_number d → ⊥) → (edit_number d ≡ edit_number e → ⊥) → AllByRecursion (λ (c : Edit). edit_number c ≡ edit_number d → ⊥) ds → AllByRecursion (λ (c : Edit). edit_number c ≡ edit_number e → ⊥) ds → Distinct ds → Distinct (edit_put e ds)
    → Distinct (if b then d ∷ edit_put e ds else e ∷ d ∷ ds)
distinct_by true e d ds ne en apart mine h more = (each_placed (λ (c : Edit). edit_number c ≡ edit_number d → ⊥) e ds ne apart, more)
distinct_by false e d ds ne en apart mine h more = ((en, mine), (apart, h))

distinct_placed : (e : Edit) (ds : List Edit) → AllByRecursion (λ (c : Edit). edit_number c ≡ edit_number e → ⊥) ds → Distinct ds → Distinct (edit_put e ds)
distinct_placed e [] apart h = (tt, tt)
distinct_placed e (d ∷ ds) apart h = distinct_by (nat_lt (edit_number d) (edit_number e)) e d ds (λ s. apart.0 (sym s)) apart.0 h.0 apart.1 h.1 (distinct_placed e ds apart.1 h.1)

pub distinct_ascending : (es : List Edit) → Distinct es → Distinct (ascending es)
distinct_ascending [] h = tt
distinct_ascending (e ∷ es) h = distinct_placed e (ascending es) (each_ascending (λ (c : Edit). edit_number c ≡ edit_number e → ⊥) es h.0) (distinct_ascending es h.1)

-- where a vnode is made beside one that is amended
makes_by : (b : Bool) (u next n m : ℕ) (a : Amend) (x : Vnode) → next ≡ u → MakesAs u next (if b then makes m x ∷ amends n a ∷ [] else amends n a ∷ makes m x ∷ [])
makes_by true u next n m a x e = (e, (tt, tt))
makes_by false u next n m a x e = (e, tt)

pub two_makes : (u next n m : ℕ) (a : Amend) (x : Vnode) → next ≡ u → MakesAs u next (ascending (amends n a ∷ makes m x ∷ []))
two_makes u next n m a x e = makes_by (nat_lt m n) u next n m a x e

-- ---- the table stays in order

abbrev pub IsAboveRoot : Edit → Type 0
IsAboveRoot (makes n x) = 1 ≤ n
IsAboveRoot e = ⊤

zero_by : (n : ℕ) (t : Table Vnode) (x : Vnode) (b : Bool) → ltb n 1 ≡ b → AscendsFrom 1 t → get n t ≡ Some x → 1 ≤ n
zero_by n t x true b up e = let none = get_below 1 n t (ltb-true n 1 b) up in let z : None ≡ Some x = sym none ∙ e in absurd cc
zero_by n t x false b up e = above_by n b
  where
    above_by : (k : ℕ) → ltb k 1 ≡ false → 1 ≤ k
    above_by k b = grind (arith, ltb-false, b)

amends_up : (id n : ℕ) (a : Amend) (v : Volume) (o : Option Vnode) → get n v.vnodes ≡ o → AscendsFrom 1 v.vnodes → AscendsFrom 1 (amends_at id n a v o).volume.vnodes
amends_up id n a v None e up = up
amends_up id n a v (Some x) e up = ascends_set 1 n (amended (v.counter + 1) a x) v.vnodes (zero_by n v.vnodes x (ltb n 1) refl up e) up

makes_up : (id n : ℕ) (x : Vnode) (v : Volume) (o : Option Vnode) → 1 ≤ n → AscendsFrom 1 v.vnodes → AscendsFrom 1 (makes_at id n x v o).volume.vnodes
makes_up id n x v (Some y) le up = up
makes_up id n x v None le up = ascends_set 1 n (fresh (v.counter + 1) v.next x) v.vnodes le up

frees_up : (id n : ℕ) (v : Volume) (o : Option Vnode) → AscendsFrom 1 v.vnodes → AscendsFrom 1 (frees_at id n v o).volume.vnodes
frees_up id n v None up = up
frees_up id n v (Some x) up = ascends_unset 1 n v.vnodes up

edit_up : (id : ℕ) (e : Edit) (v : Volume) → IsAboveRoot e → AscendsFrom 1 v.vnodes → AscendsFrom 1 (edited id e v).volume.vnodes
edit_up id (amends n a) v h up = amends_up id n a v (get n v.vnodes) refl up
edit_up id (makes n x) v h up = makes_up id n x v (get n v.vnodes) h up
edit_up id (frees n) v h up = frees_up id n v (get n v.vnodes) up

pub all_up : (id : ℕ) (es : List Edit) (v : Volume) → AllByRecursion IsAboveRoot es → AscendsFrom 1 v.vnodes → AscendsFrom 1 (edited_all id es v).vnodes
all_up id [] v h up = up
all_up id (e ∷ es) v h up = all_up id es (edited id e v).volume h.1 (edit_up id e v h.0 up)

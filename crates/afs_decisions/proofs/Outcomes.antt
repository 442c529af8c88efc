-- What the record of edits tells, vnode by vnode, is what the edits tell.
use Rattle.std.proofs.Common.{◌≡◌, ℕ, ◌+◌, ◌<◌, ◌≤◌, true, false, List, [], ◌∷◌, ◌++◌, map, Option, Some, None, nat_eq, refl, sym, ap, subst, ◌∙◌, append_assoc, append-nil, arith}
use Rattle.std.specs.Prelude.{nat_lt, ⊤}
use Rattle.std.specs.List.{AllByRecursion}
use Rattle.std.specs.Option.{option_map}
use Rattle.std.proofs.lemmas.Bool.Decides.{nat_tests}
use Rattle.afs_num.specs.declared.histories.Version.{Version}
use Rattle.spec_ideal.specs.ChangeLaws.{by_vnode}
use Rattle.spec_ideal.specs.Images.{value_of}
use Rattle.spec_ideal.specs.Tables.{get, set, AscendsFrom, Table}
use Rattle.spec_ideal.specs.Volumes.{amended, amends, edit_number, frees, makes, Edit, Vnode, Volume}
use Rattle.spec_ideal.proofs.Looks.{one_edit}
use Rattle.spec_ideal.proofs.Tables.{ascends_lower}
use Rattle.spec_ideal.proofs.Tellings.{FindEach, Finds}
use Rattle.spec_records.specs.Changes.{gone_between}
use Rattle.spec_records.specs.Durable.{outcome_versions, with_outcomes, with_removed}
use Rattle.afs_changes.specs.Drawing.{after_edit, all_freed, all_left, all_told, before_edit, left_at, told_between}
use Rattle.afs_changes.proofs.Drawn.{imaged}

-- ---- a table whose numbers all stand below this one

Below : {A : Type 0} → ℕ → Table A → Type 0
Below {A} n [] = ⊤
Below {A} n (p ∷ ps) = (p.0 < n) × Below n ps

below_more : {A : Type 0} (m n : ℕ) (t : Table A) → m ≤ n → Below m t → Below (n + 1) t
unfolding Below
below_more {A} m n [] le low = tt
below_more {A} m n (p ∷ ps) le low = (let lt : p.0 < m = low.0 in omega (arith, le, lt), below_more m n ps le low.1)

below_last : {A : Type 0} (m n : ℕ) (x : A) (t : Table A) → m ≤ n → Below m t → Below (n + 1) (t ++ (n, x) ∷ [])
unfolding Below
below_last {A} m n x [] le low = (omega arith, tt)
below_last {A} m n x (p ∷ ps) le low = (let lt : p.0 < m = low.0 in omega (arith, le, lt), below_last m n x ps le low.1)

set_first : {A : Type 0} (n : ℕ) (x : A) (u : Table A) → AscendsFrom (n + 1) u → set n x u ≡ (n, x) ∷ u
set_first {A} n x [] up = refl
set_first {A} n x (p ∷ ps) up =
    let le : n + 1 ≤ p.0 = up.0 in
    let other : nat_eq p.0 n ≡ false = grind (arith, nat_tests, le) in
    let later : nat_lt n p.0 ≡ true = grind (arith, nat_tests, le) in
    rw (other, later) refl

set_between : {A : Type 0} (m n : ℕ) (x : A) (t u : Table A) → m ≤ n → Below m t → AscendsFrom (n + 1) u → set n x (t ++ u) ≡ t ++ (n, x) ∷ u
unfolding Below
set_between {A} m n x [] u le low up = set_first n x u up
set_between {A} m n x (p ∷ ps) u le low up =
    let lt : p.0 < m = low.0 in
    let other : nat_eq p.0 n ≡ false = grind (arith, nat_tests, le, lt) in
    let sooner : nat_lt n p.0 ≡ false = grind (arith, nat_tests, le, lt) in
    rw (other, sooner) (ap (λ (ts : Table A). p ∷ ts) (set_between m n x ps u le low.1 up))

set_last : {A : Type 0} (m n : ℕ) (x : A) (t : Table A) → m ≤ n → Below m t → set n x t ≡ t ++ (n, x) ∷ []
unfolding Below
set_last {A} m n x [] le low = refl
set_last {A} m n x (p ∷ ps) le low =
    let lt : p.0 < m = low.0 in
    let other : nat_eq p.0 n ≡ false = grind (arith, nat_tests, le, lt) in
    let sooner : nat_lt n p.0 ≡ false = grind (arith, nat_tests, le, lt) in
    rw (other, sooner) (ap (λ (ts : Table A). p ∷ ts) (set_last m n x ps le low.1))

-- ---- edits by ascending numbers

abbrev pub Up : ℕ → List Edit → Type 0
Up m [] = ⊤
Up m (e ∷ es) = (m ≤ edit_number e) × Up (edit_number e + 1) es

-- an edit tells something
Stands : Option Vnode → Option Vnode → Type 0
Stands None None = ⊥
Stands b a = ⊤

stands_amended : (c : ℕ) (e : Edit) (u : ℕ) (o : Option Vnode) → Finds e o → Stands o (one_edit c u e o)
unfolding Stands
stands_amended c (amends n a) u o f = subst (λ (b : Option Vnode). Stands b (option_map (amended c a) b)) (sym f.1) tt
stands_amended c (frees n) u o f = subst (λ (b : Option Vnode). Stands b None) (sym f.1) tt
stands_amended c (makes n x) u o f = subst (λ (b : Option Vnode). Stands b (one_edit c u (makes n x) b)) (sym f) tt

up_one : (id m n : ℕ) (b a : Option Vnode) (ws : List Version) → Stands b a → AscendsFrom m (by_vnode (told_between id n b a ++ ws)) → (m ≤ n) × AscendsFrom (n + 1) (by_vnode ws)
unfolding Stands
up_one id m n None (Some x) ws is up = up
up_one id m n (Some y) (Some x) ws is up = up
up_one id m n (Some y) None ws is up = up
up_one id m n None None ws is up = absurd is

-- edits that tell of ascending vnodes
pub up_by : (id m : ℕ) (v : Volume) (es : List Edit) → FindEach v es → AscendsFrom m (by_vnode (all_told id v es)) → Up m es
up_by id m v [] finds up = tt
up_by id m v (e ∷ es) finds up =
    let one = up_one id m (edit_number e) (before_edit v e) (after_edit v e) (all_told id v es) (stands_amended (v.counter + 1) e v.next (before_edit v e) finds.0) up in
    (one.0, up_by id (edit_number e + 1) v es finds.1 one.1)

-- ---- what becomes of each vnode

left_out : ℕ → Option Vnode → Table (Option Vnode)
left_out n None = []
left_out n (Some x) = (n, Some x) ∷ []

lefts : Volume → List Edit → Table (Option Vnode)
lefts v [] = []
lefts v (e ∷ es) = left_out (edit_number e) (after_edit v e) ++ lefts v es

out_of : ℕ → Option Vnode → Option Vnode → Table (Option Vnode)
out_of n b (Some x) = (n, Some x) ∷ []
out_of n (Some x) None = (n, None) ∷ []
out_of n None None = []

outs : Volume → List Edit → Table (Option Vnode)
outs v [] = []
outs v (e ∷ es) = out_of (edit_number e) (before_edit v e) (after_edit v e) ++ outs v es

left_up : (m n : ℕ) (a : Option Vnode) (t : Table (Option Vnode)) → m ≤ n → AscendsFrom (n + 1) t → AscendsFrom m (left_out n a ++ t)
unfolding left_out
left_up m n None t le up = ascends_lower m (n + 1) t (omega (arith, le)) up
left_up m n (Some x) t le up = (le, up)

lefts_up : (m : ℕ) (v : Volume) (es : List Edit) → Up m es → AscendsFrom m (lefts v es)
unfolding lefts
lefts_up m v [] up = tt
lefts_up m v (e ∷ es) up = left_up m (edit_number e) (after_edit v e) (lefts v es) up.0 (lefts_up (edit_number e + 1) v es up.1)

-- the image of this vnode is read as the vnode
abbrev pub IsReadBack : ℕ → ℕ × Vnode → Type 0
IsReadBack time p = value_of (imaged time p) ≡ Some p.1

-- ---- the images

image_step : (time m n : ℕ) (a : Option Vnode) (ps : Table Vnode) (t rest : Table (Option Vnode)) → m ≤ n → Below m t → AllByRecursion (IsReadBack time) (left_at n a ++ ps) →
    ((u : Table (Option Vnode)) → Below (n + 1) u → AllByRecursion (IsReadBack time) ps → with_outcomes (map (imaged time) ps) u ≡ u ++ rest) →
    with_outcomes (map (imaged time) (left_at n a ++ ps)) t ≡ t ++ (left_out n a ++ rest)
unfolding left_out
image_step time m n None ps t rest le low all more = more t (below_more m n t le low) all
image_step time m n (Some x) ps t rest le low all more =
    ap (λ (o : Option Vnode). with_outcomes (map (imaged time) ps) (set n o t)) all.0
    ∙ (ap (with_outcomes (map (imaged time) ps)) (set_last m n (Some x) t le low)
    ∙ (more (t ++ (n, Some x) ∷ []) (below_last m n (Some x) t le low) all.1 ∙ append_assoc t ((n, Some x) ∷ []) rest))

images_out : (time m : ℕ) (v : Volume) (es : List Edit) (t : Table (Option Vnode)) → Up m es → Below m t → AllByRecursion (IsReadBack time) (all_left v es) → with_outcomes (map (imaged time) (all_left v es)) t ≡ t ++ lefts v es
unfolding lefts
images_out time m v [] t up low all = sym (append-nil t)
images_out time m v (e ∷ es) t up low all =
    image_step time m (edit_number e) (after_edit v e) (all_left v es) t (lefts v es) up.0 low all (λ u under rest. images_out time (edit_number e + 1) v es u up.1 under rest)

-- ---- the numbers of those that are gone

gone_step : (m n : ℕ) (b a : Option Vnode) (ns : List ℕ) (t ls rest : Table (Option Vnode)) → m ≤ n → Below m t → AscendsFrom (n + 1) ls → ((u : Table (Option Vnode)) → Below (n + 1) u → with_removed ns (u ++ ls) ≡ u ++ rest) →
    with_removed (gone_between n b a ++ ns) (t ++ (left_out n a ++ ls)) ≡ t ++ (out_of n b a ++ rest)
unfolding left_out out_of
gone_step m n None None ns t ls rest le low up more = more t (below_more m n t le low)
gone_step m n (Some y) None ns t ls rest le low up more =
    ap (with_removed ns) (set_between m n None t ls le low up ∙ sym (append_assoc t ((n, None) ∷ []) ls))
    ∙ (more (t ++ (n, None) ∷ []) (below_last m n None t le low) ∙ append_assoc t ((n, None) ∷ []) rest)
gone_step m n None (Some x) ns t ls rest le low up more =
    ap (with_removed ns) (sym (append_assoc t ((n, Some x) ∷ []) ls))
    ∙ (more (t ++ (n, Some x) ∷ []) (below_last m n (Some x) t le low) ∙ append_assoc t ((n, Some x) ∷ []) rest)
gone_step m n (Some y) (Some x) ns t ls rest le low up more =
    ap (with_removed ns) (sym (append_assoc t ((n, Some x) ∷ []) ls))
    ∙ (more (t ++ (n, Some x) ∷ []) (below_last m n (Some x) t le low) ∙ append_assoc t ((n, Some x) ∷ []) rest)

removed_out : (m : ℕ) (v : Volume) (es : List Edit) (t : Table (Option Vnode)) → Up m es → Below m t → with_removed (all_freed v es) (t ++ lefts v es) ≡ t ++ outs v es
unfolding lefts outs
removed_out m v [] t up low = refl
removed_out m v (e ∷ es) t up low =
    gone_step m (edit_number e) (before_edit v e) (after_edit v e) (all_freed v es) t (lefts v es) (outs v es) up.0 low (lefts_up (edit_number e + 1) v es up.1) (λ u under. removed_out (edit_number e + 1) v es u up.1 under)

-- ---- what it tells

out_told : (id n : ℕ) (b a : Option Vnode) (v : Volume) (rest : Table (Option Vnode)) → get n v.vnodes ≡ b → outcome_versions id v (out_of n b a ++ rest) ≡ told_between id n b a ++ outcome_versions id v rest
unfolding out_of
out_told id n None None v rest is = refl
out_told id n (Some y) None v rest is = rw is refl
out_told id n None (Some x) v rest is = refl
out_told id n (Some y) (Some x) v rest is = refl

outs_told : (id : ℕ) (v : Volume) (es : List Edit) → outcome_versions id v (outs v es) ≡ all_told id v es
unfolding outs
outs_told id v [] = refl
outs_told id v (e ∷ es) =
    out_told id (edit_number e) (before_edit v e) (after_edit v e) v (outs v es) refl
    ∙ ap (λ (ws : List Version). told_between id (edit_number e) (before_edit v e) (after_edit v e) ++ ws) (outs_told id v es)

pub outcomes_told : (id time : ℕ) (v : Volume) (es : List Edit) → Up 0 es → AllByRecursion (IsReadBack time) (all_left v es) →
    outcome_versions id v (with_removed (all_freed v es) (with_outcomes (map (imaged time) (all_left v es)) [])) ≡ all_told id v es
unfolding Below
outcomes_told id time v es up all = ap (λ (t : Table (Option Vnode)). outcome_versions id v (with_removed (all_freed v es) t)) (images_out time 0 v es [] up tt all) ∙ (ap (outcome_versions id v) (removed_out 0 v es [] up tt) ∙ outs_told id v es)

-- A change that is taken in: the table after it, the blocks, and what a disk keeps.
use Rattle.std.proofs.Common.{◌≡◌, ℕ, ◌+◌, ◌*◌, ◌^◌, ◌<◌, ◌≤◌, Bool, true, false, not, List, [], ◌∷◌, length, map, Option, Some, None, is_some, nat_eq, nat_lt, if◌then◌else◌, refl, sym, ap, subst, ◌∙◌, arith}
use Rattle.std.specs.Prelude.{◌&&◌, ◌||◌}
use Rattle.std.specs.List.{AllByRecursion}
use Rattle.std.proofs.lemmas.Bool.Decides.{nat_tests}
use Rattle.afs_num.specs.declared.vnodes.Vnode as image
use Rattle.spec_ideal.specs.Tables.{Table, get, set, unset, AscendsFrom}
use Rattle.spec_ideal.specs.VnodeMaps.{most_vnodes, is_full_for}
use Rattle.spec_ideal.proofs.Tables.{get_set, get_unset, ascends_set, ascends_unset, get_below}
use Rattle.spec_records.proofs.Kept.{same_tables}
use Rattle.spec_ideal.specs.Directories.{directory_bytes}
use Rattle.spec_ideal.specs.VnodeImage.{FitsImage}
use Rattle.spec_ideal.specs.Volumes.{VnodeKind, a_file, a_directory, a_link, bytes_by, blocks_of, blocks_in}
use Rattle.afs_vnode.specs.Stores.{AreVnodes}
use Rattle.afs_volume.specs.Counting.{blocks_at}
use Rattle.afs_volume.specs.Seen.{all_seen, contents_seen, kind_seen, names_seen, names_spelled, seen, AreReadable, IsReadable}
use Rattle.afs_volume.proofs.Sums.{blocks_set, blocks_unset, ordered}
use Rattle.afs_volume.proofs.Tables.{got}
use Rattle.afs_volume.specs.Taking.{is_among, put_but, without_all}

-- ---- images put one after the other

abbrev pub put_each : List image.Vnode → Table image.Vnode → Table image.Vnode
put_each [] t = t
put_each (x ∷ xs) t = put_each xs (set x.vnode x t)

without_up : (ns : List ℕ) (t : Table image.Vnode) → AscendsFrom 0 t → AscendsFrom 0 (without_all ns t)
without_up [] t up = up
without_up (n ∷ ns) t up = without_up ns (unset n t) (ascends_unset 0 n t up)

each_up : (xs : List image.Vnode) (t : Table image.Vnode) → AscendsFrom 0 t → AscendsFrom 0 (put_each xs t)
each_up [] t up = up
each_up (x ∷ xs) t up = each_up xs (set x.vnode x t) (ascends_set 0 x.vnode x t (omega arith) up)

one_up : (b : Bool) (x : image.Vnode) (t : Table image.Vnode) → AscendsFrom 0 t → AscendsFrom 0 (if b then t else set x.vnode x t)
one_up true x t up = up
one_up false x t up = ascends_set 0 x.vnode x t (omega arith) up

but_up : (ns : List ℕ) (xs : List image.Vnode) (t : Table image.Vnode) → AscendsFrom 0 t → AscendsFrom 0 (put_but ns xs t)
but_up ns [] t up = up
but_up ns (x ∷ xs) t up = but_up ns xs (if is_among x.vnode ns then t else set x.vnode x t) (one_up (is_among x.vnode ns) x t up)

gone_by : (k n : ℕ) (ns : List ℕ) (o : Option image.Vnode) (b : Bool) → nat_eq n k ≡ b → (if is_among k ns then None else (if b then None else o)) ≡ (if b || is_among k ns then None else o)
gone_by k n ns o true is = grind (arith, nat_tests)
gone_by k n ns o false is = refl

without_gets : (k : ℕ) (ns : List ℕ) (t : Table image.Vnode) → get k (without_all ns t) ≡ (if is_among k ns then None else get k t)
without_gets k [] t = refl
without_gets k (n ∷ ns) t =
    without_gets k ns (unset n t)
    ∙ (ap (λ (o : Option image.Vnode). if is_among k ns then None else o) (get_unset k n t) ∙ gone_by k n ns (get k t) (nat_eq n k) refl)

-- one that isn't removed is found as if nothing were
but_one : (k : ℕ) (ns : List ℕ) (x : image.Vnode) (t u : Table image.Vnode) (b c : Bool) → is_among x.vnode ns ≡ b → nat_eq x.vnode k ≡ c → is_among k ns ≡ false → get k t ≡ get k u
    → get k (if b then t else set x.vnode x t) ≡ get k (set x.vnode x u)
but_one k ns x t u true true among same not e =
    let there : is_among k ns ≡ true = ap (λ (j : ℕ). is_among j ns) (sym (let z : x.vnode ≡ k = grind (arith, nat_tests, same) in z)) ∙ among in
    absurd (let z : true ≡ false = sym there ∙ not in cc)
but_one k ns x t u true false among same not e = e ∙ sym (get_set k x.vnode x u ∙ rw same refl)
but_one k ns x t u false c among same not e = get_set k x.vnode x t ∙ (ap (λ (o : Option image.Vnode). if nat_eq x.vnode k then Some x else o) e ∙ sym (get_set k x.vnode x u))

but_gets : (k : ℕ) (ns : List ℕ) (xs : List image.Vnode) (t u : Table image.Vnode) → is_among k ns ≡ false → get k t ≡ get k u → get k (put_but ns xs t) ≡ get k (put_each xs u)
but_gets k ns [] t u not e = e
but_gets k ns (x ∷ xs) t u not e =
    but_gets k ns xs (if is_among x.vnode ns then t else set x.vnode x t) (set x.vnode x u) not
    (but_one k ns x t u (is_among x.vnode ns) (nat_eq x.vnode k) refl refl not e)

-- one that is removed isn't found
none_one : (k : ℕ) (ns : List ℕ) (x : image.Vnode) (t : Table image.Vnode) (b c : Bool) → is_among x.vnode ns ≡ b → nat_eq x.vnode k ≡ c → is_among k ns ≡ true → get k t ≡ None → get k (if b then t else set x.vnode x t) ≡ None
none_one k ns x t true c among same there e = e
none_one k ns x t false true among same there e =
    let not : is_among k ns ≡ false = ap (λ (j : ℕ). is_among j ns) (sym (let z : x.vnode ≡ k = grind (arith, nat_tests, same) in z)) ∙ among in
    absurd (let z : true ≡ false = sym there ∙ not in cc)
none_one k ns x t false false among same there e = get_set k x.vnode x t ∙ (rw same e)

but_none : (k : ℕ) (ns : List ℕ) (xs : List image.Vnode) (t : Table image.Vnode) → is_among k ns ≡ true → get k t ≡ None → get k (put_but ns xs t) ≡ None
but_none k ns [] t there e = e
but_none k ns (x ∷ xs) t there e =
    but_none k ns xs (if is_among x.vnode ns then t else set x.vnode x t) there (none_one k ns x t (is_among x.vnode ns) (nat_eq x.vnode k) refl refl there e)

same_found : (k : ℕ) (ns : List ℕ) (xs : List image.Vnode) (t : Table image.Vnode) (b : Bool) → is_among k ns ≡ b → get k (put_but ns xs (without_all ns t)) ≡ get k (without_all ns (put_each xs t))
same_found k ns xs t true is =
    but_none k ns xs (without_all ns t) is (without_gets k ns t ∙ rw is refl) ∙ sym (without_gets k ns (put_each xs t) ∙ rw is refl)
same_found k ns xs t false is =
    but_gets k ns xs (without_all ns t) t is (without_gets k ns t ∙ rw is refl) ∙ sym (without_gets k ns (put_each xs t) ∙ rw is refl)

-- removing first and leaving out what is removed is the same as removing last
pub removed_first : (ns : List ℕ) (xs : List image.Vnode) (t : Table image.Vnode) → AscendsFrom 0 t → put_but ns xs (without_all ns t) ≡ without_all ns (put_each xs t)
removed_first ns xs t up =
    same_tables 0 0 (put_but ns xs (without_all ns t)) (without_all ns (put_each xs t)) (but_up ns xs (without_all ns t) (without_up ns t up)) (without_up ns (put_each xs t) (each_up xs t up))
    (λ k. same_found k ns xs t (is_among k ns) refl)

-- ---- room among the vnodes

longer_by : (n : ℕ) (x : image.Vnode) (p : ℕ × image.Vnode) (ps : Table image.Vnode) (b l : Bool) → length ps ≤ length (set n x ps) → 1 + length ps ≤ length (if b then (n, x) ∷ ps else (if l then (n, x) ∷ p ∷ ps else p ∷ set n x ps))
longer_by n x p ps true l h = omega arith
longer_by n x p ps false true h = omega arith
longer_by n x p ps false false h = omega (arith, h)

longer : (n : ℕ) (x : image.Vnode) (t : Table image.Vnode) → length t ≤ length (set n x t)
longer n x [] = omega arith
longer n x (p ∷ ps) = let more = longer_by n x p ps (nat_eq p.0 n) (nat_lt n p.0) (longer n x ps) in omega (arith, more)

one_longer : (b : Bool) (x : image.Vnode) (t : Table image.Vnode) → length t ≤ length (if b then t else set x.vnode x t)
one_longer true x t = omega arith
one_longer false x t = longer x.vnode x t

pub but_longer : (ns : List ℕ) (xs : List image.Vnode) (t : Table image.Vnode) → length t ≤ length (put_but ns xs t)
but_longer ns [] t = omega arith
but_longer ns (x ∷ xs) t =
    let one = one_longer (is_among x.vnode ns) x t in
    let more = but_longer ns xs (if is_among x.vnode ns then t else set x.vnode x t) in
    omega (arith, one, more)

new_by : (n : ℕ) (x : image.Vnode) (p : ℕ × image.Vnode) (ps : Table image.Vnode) (b l : Bool) → (is_some (get n ps) ≡ false → length (set n x ps) ≡ 1 + length ps) → is_some (if b then Some p.1 else get n ps) ≡ false
    → length (if b then (n, x) ∷ ps else (if l then (n, x) ∷ p ∷ ps else p ∷ set n x ps)) ≡ 2 + length ps
new_by n x p ps true l h none = absurd cc
new_by n x p ps false true h none = omega arith
new_by n x p ps false false h none = let more = h none in omega (arith, more)

new_longer : (n : ℕ) (x : image.Vnode) (t : Table image.Vnode) → is_some (get n t) ≡ false → length (set n x t) ≡ 1 + length t
new_longer n x [] none = refl
new_longer n x (p ∷ ps) none = let more = new_by n x p ps (nat_eq p.0 n) (nat_lt n p.0) (new_longer n x ps) none in omega (arith, more)

full_by : (n : ℕ) (x : image.Vnode) (t : Table image.Vnode) (b c : Bool) → nat_eq (length t) most_vnodes ≡ b → is_some (get n t) ≡ c → length (set n x t) ≤ most_vnodes → (b && not c) ≡ false
full_by n x t false c is found few = refl
full_by n x t true true is found few = refl
full_by n x t true false is found few = let more = new_longer n x t found in let full : length t ≡ most_vnodes = grind (arith, nat_tests, is) in absurd (omega (arith, more, full, few))

-- there is room where there are not too many then
pub not_full : (n : ℕ) (x : image.Vnode) (t : Table image.Vnode) → length (set n x t) ≤ most_vnodes → is_full_for n t ≡ false
not_full n x t few = full_by n x t (nat_eq (length t) most_vnodes) (is_some (get n t)) refl refl few

pub put_has_room : (ns : List ℕ) (x : image.Vnode) (xs all : List image.Vnode) (t : Table image.Vnode) → all ≡ x ∷ xs → is_among x.vnode ns ≡ false → length (put_but ns all t) ≤ most_vnodes → is_full_for x.vnode t ≡ false
put_has_room ns x xs all t first stays few =
    let next : put_but ns all t ≡ put_but ns xs (set x.vnode x t) = rw (first, stays) refl in
    let more = but_longer ns xs (set x.vnode x t) in
    let same : length (put_but ns all t) ≡ length (put_but ns xs (set x.vnode x t)) = ap length next in
    not_full x.vnode x t (omega (arith, more, same, few))

-- ---- what is seen after a change

mapped_by : {A B : Type 0} (f : A → B) (n : ℕ) (x : A) (p : ℕ × A) (ps : Table A) (b l : Bool) → map (λ (q : ℕ × A). (q.0, f q.1)) (set n x ps) ≡ set n (f x) (map (λ (q : ℕ × A). (q.0, f q.1)) ps)
    → map (λ (q : ℕ × A). (q.0, f q.1)) (if b then (n, x) ∷ ps else (if l then (n, x) ∷ p ∷ ps else p ∷ set n x ps))
    ≡ (if b then (n, f x) ∷ map (λ (q : ℕ × A). (q.0, f q.1)) ps else (if l then (n, f x) ∷ (p.0, f p.1) ∷ map (λ (q : ℕ × A). (q.0, f q.1)) ps else (p.0, f p.1) ∷ set n (f x) (map (λ (q : ℕ × A). (q.0, f q.1)) ps)))
mapped_by {A} {B} f n x p ps true l e = refl
mapped_by {A} {B} f n x p ps false true e = refl
mapped_by {A} {B} f n x p ps false false e = ap (λ (t : Table B). (p.0, f p.1) ∷ t) e

pub mapped_set : {A B : Type 0} (f : A → B) (n : ℕ) (x : A) (t : Table A) → map (λ (q : ℕ × A). (q.0, f q.1)) (set n x t) ≡ set n (f x) (map (λ (q : ℕ × A). (q.0, f q.1)) t)
mapped_set {A} {B} f n x [] = refl
mapped_set {A} {B} f n x (p ∷ ps) = mapped_by f n x p ps (nat_eq p.0 n) (nat_lt n p.0) (mapped_set f n x ps)

dropped_by : {A B : Type 0} (f : A → B) (n : ℕ) (p : ℕ × A) (ps : Table A) (b : Bool) → map (λ (q : ℕ × A). (q.0, f q.1)) (unset n ps) ≡ unset n (map (λ (q : ℕ × A). (q.0, f q.1)) ps)
    → map (λ (q : ℕ × A). (q.0, f q.1)) (if b then p ∷ unset n ps else unset n ps) ≡ (if b then (p.0, f p.1) ∷ unset n (map (λ (q : ℕ × A). (q.0, f q.1)) ps) else unset n (map (λ (q : ℕ × A). (q.0, f q.1)) ps))
dropped_by {A} {B} f n p ps true e = ap (λ (t : Table B). (p.0, f p.1) ∷ t) e
dropped_by {A} {B} f n p ps false e = e

pub mapped_unset : {A B : Type 0} (f : A → B) (n : ℕ) (t : Table A) → map (λ (q : ℕ × A). (q.0, f q.1)) (unset n t) ≡ unset n (map (λ (q : ℕ × A). (q.0, f q.1)) t)
mapped_unset {A} {B} f n [] = refl
mapped_unset {A} {B} f n (p ∷ ps) = dropped_by f n p ps (not (nat_eq p.0 n)) (mapped_unset f n ps)

pub seen_set : (n : ℕ) (x : image.Vnode) (t : Table image.Vnode) → all_seen (set n x t) ≡ set n (seen x) (all_seen t)
unfolding all_seen
seen_set n x t = mapped_set seen n x t

pub seen_unset : (n : ℕ) (t : Table image.Vnode) → all_seen (unset n t) ≡ unset n (all_seen t)
unfolding all_seen
seen_unset n t = mapped_unset seen n t

some_is : (x y : image.Vnode) → Some x ≡ Some y → x ≡ y
some_is x y e = cc

readable_by : (n k : ℕ) (x y : image.Vnode) (o : Option image.Vnode) (b : Bool) → IsReadable x → (o ≡ Some y → IsReadable y) → (if b then Some x else o) ≡ Some y → IsReadable y
readable_by n k x y o true h old e = subst IsReadable (some_is x y e) h
readable_by n k x y o false h old e = old e

pub set_readable : (n : ℕ) (x : image.Vnode) (t : Table image.Vnode) → IsReadable x → AreReadable t → AreReadable (set n x t)
set_readable n x t h all k y e = readable_by n k x y (get k t) (nat_eq n k) h (all k y) (sym (get_set k n x t) ∙ e)

unread_by : (y : image.Vnode) (o : Option image.Vnode) (b : Bool) → (o ≡ Some y → IsReadable y) → (if b then None else o) ≡ Some y → IsReadable y
unread_by y o true old e = absurd cc
unread_by y o false old e = old e

pub unset_readable : (n : ℕ) (t : Table image.Vnode) → AreReadable t → AreReadable (unset n t)
unset_readable n t all k y e = unread_by y (get k t) (nat_eq n k) (all k y) (sym (get_unset k n t) ∙ e)

-- ---- blocks

bytes_kind : (k : VnodeKind) (x : image.Vnode) → (k ≡ a_directory → directory_bytes (names_spelled x.contents) ≡ x.contents) → bytes_by k (record (seen x) { contents = contents_seen k x.contents; names = names_seen k x.contents }) ≡ x.contents
bytes_kind a_directory x h = h refl
bytes_kind a_file x h = refl
bytes_kind a_link x h = refl

pub bytes_seen : (x : image.Vnode) → IsReadable x → bytes_by (seen x).kind (seen x) ≡ x.contents
unfolding seen
bytes_seen x h = bytes_kind (kind_seen x.kind) x h.1.0

pub few_blocks : (x : image.Vnode) → IsReadable x → FitsImage x → blocks_of (seen x) ≤ 2048
few_blocks x h fits = let size : length (bytes_by (seen x).kind (seen x)) ≡ length x.contents = ap length (bytes_seen x h) in let most = fits.contents in omega (arith, size, most)

pub later_by : (n : ℕ) (x : image.Vnode) (p : ℕ × image.Vnode) (ps : Table image.Vnode) (b : Bool) → nat_eq p.0 n ≡ b → AscendsFrom (p.0 + 1) ps → get n ps ≡ Some x → (if b then Some p.1 else get n ps) ≡ Some x
later_by n x p ps true is up e = absurd (let gone : get n ps ≡ None = get_below (p.0 + 1) n ps (grind (arith, nat_tests, is)) up in let z : ◌≡◌ {A = Option image.Vnode} None (Some x) = sym gone ∙ e in cc)
later_by n x p ps false is up e = e

blocks_few : (m : ℕ) (t : Table image.Vnode) → AscendsFrom m t → AreReadable t → AllByRecursion (λ (p : ℕ × image.Vnode). FitsImage p.1) t → blocks_in (all_seen t) ≤ 2048 * length t
unfolding all_seen
blocks_few m [] up all fits = omega arith
blocks_few m (p ∷ ps) up all fits =
    let one = few_blocks p.1 (all p.0 p.1 (grind (arith, nat_tests))) fits.0 in
    let more = blocks_few (p.0 + 1) ps up.1 (λ n x e. all n x (later_by n x p ps (nat_eq p.0 n) refl up.1 e)) fits.1 in
    omega (arith, one, more)

pub blocks_small : (t : Table image.Vnode) → AreVnodes t → AreReadable t → blocks_in (all_seen t) < 2 ^ 32
blocks_small t are all = let most = blocks_few 0 t are.ascends all are.fits in let few = are.few in omega (arith, most, few)

pub blocks_put : (n : ℕ) (x : image.Vnode) (t : Table image.Vnode) → AscendsFrom 0 t → blocks_in (all_seen (set n x t)) + blocks_at (get n (all_seen t)) ≡ blocks_in (all_seen t) + blocks_of (seen x)
blocks_put n x t up = rw (seen_set n x t) (blocks_set 0 n (seen x) (all_seen t) (ordered t up))

pub blocks_left : (n : ℕ) (t : Table image.Vnode) → AscendsFrom 0 t → blocks_in (all_seen (unset n t)) + blocks_at (get n (all_seen t)) ≡ blocks_in (all_seen t)
blocks_left n t up = rw (seen_unset n t) (blocks_unset 0 n (all_seen t) (ordered t up))

pub put_counted : (blocks before after n : ℕ) (x : image.Vnode) (t new : Table image.Vnode) → AreVnodes t → blocks ≡ blocks_in (all_seen t) → before ≡ blocks_at (get n (all_seen t)) → after ≡ blocks_of (seen x) → new ≡ set n x t
    → blocks_in (all_seen new) + before ≡ blocks + after
put_counted blocks before after n x t new are b p a is = rw (is, b, p, a) (blocks_put n x t are.ascends)

pub left_counted : (blocks before n : ℕ) (t new : Table image.Vnode) → AreVnodes t → blocks ≡ blocks_in (all_seen t) → before ≡ blocks_at (get n (all_seen t)) → new ≡ unset n t → blocks_in (all_seen new) + before ≡ blocks
left_counted blocks before n t new are b p is = rw (is, b, p) (blocks_left n t are.ascends)

pub put_readable : (n : ℕ) (x : image.Vnode) (t new : Table image.Vnode) → IsReadable x → AreReadable t → new ≡ set n x t → AreReadable new
put_readable n x t new h all is = subst AreReadable (sym is) (set_readable n x t h all)

pub left_readable : (n : ℕ) (t new : Table image.Vnode) → AreReadable t → new ≡ unset n t → AreReadable new
left_readable n t new all is = subst AreReadable (sym is) (unset_readable n t all)

pub blocks_found : (n : ℕ) (t : Table image.Vnode) (x : image.Vnode) → get n t ≡ Some x → blocks_of (seen x) ≡ blocks_at (get n (all_seen t))
blocks_found n t x e = rw (got n t, e) refl

pub no_blocks : (n : ℕ) (t : Table image.Vnode) → get n t ≡ None → 0 ≡ blocks_at (get n (all_seen t))
no_blocks n t e = rw (got n t, e) refl

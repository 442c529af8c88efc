-- The promises on a volume go.
use Rattle.std.proofs.Common.{◌≡◌, inl, inr, ℕ, suc, ◌+◌, ◌<◌, ◌≤◌, ◌&&◌, ◌||◌, Bool, true, false, not, List, [], ◌∷◌, length, filter, drop, get_or, Option, nat_eq, nat_lt, if◌then◌else◌, refl, ap, sym, ◌∙◌, arith, drop-cons}
use Rattle.std.specs.List.{list_any}
use Rattle.std.specs.List.Sorted.{IsPermutation}
use Rattle.std.proofs.lemmas.Bool.Decides.{nat_tests}
use Rattle.std.proofs.lemmas.List.Sorted.{IsPermutation-sym}
use Rattle.afs_num.specs.Fids.{same_fid}
use Rattle.afs_num.specs.Nodes.{same_node}
use Rattle.afs_num.specs.declared.types.Fid.{Fid}
use Rattle.afs_num.specs.declared.types.Node.{Node}
use Rattle.afs_num.specs.declared.types.Node.TheVariants.{Loc, Server, Client, Admin}
use Rattle.spec_breaks.specs.declared.types.Promise.{Promise}
use Rattle.afs_promise.specs.declared.types.Grant.{Grant}
use Rattle.afs_promise.specs.declared.types.Holding.{Holding}
use Rattle.spec_breaks.specs.Promises.{is_promise, without_promise, promise_on_volume, hits_on, lasting, left_off}
use Rattle.afs_promise.specs.Granting.{is_held, held, lasting_grants, promises_in, is_held_on, held_on, IsIn}
use Rattle.afs_promise.proofs.Ends.{filters_swap}
use Rattle.afs_promise.proofs.Hits.{fids_are_one}
use Rattle.afs_promise.proofs.Logs.{in_filter}
use Rattle.afs_promise.proofs.Sorted.{moved_in}
use Rattle.afs_promise.proofs.Split.{and_both}

pub on_promises : (latest : Holding → Option Grant) (v : ℕ) (log : List Grant) → promises_in (held_on latest v log) ≡ hits_on v (held latest log)
on_promises latest v [] = refl
on_promises latest v (g ∷ gs) = by (promise_on_volume v g.promise) (is_held latest g) refl (on_promises latest v gs)
  where
    by : (o h : Bool) → promise_on_volume v g.promise ≡ o → promises_in (held_on latest v gs) ≡ hits_on v (held latest gs) → promises_in (if o && h then g ∷ held_on latest v gs else held_on latest v gs) ≡ hits_on v (if h then g.promise ∷ held latest gs else held latest gs)
    by true true e later = rw e (ap (λ (ps : List Promise). g.promise ∷ ps) later)
    by true false e later = later
    by false true e later = rw e later
    by false false e later = later

promises_last : (now : ℕ) (gs : List Grant) → promises_in (lasting_grants now gs) ≡ lasting now (promises_in gs)
promises_last now [] = refl
promises_last now (g ∷ gs) = by (nat_lt now g.promise.expiry) (promises_last now gs)
  where
    by : (t : Bool) → promises_in (lasting_grants now gs) ≡ lasting now (promises_in gs) → promises_in (if t then g ∷ lasting_grants now gs else lasting_grants now gs) ≡ (if t then g.promise ∷ lasting now (promises_in gs) else lasting now (promises_in gs))
    by true later = ap (λ (ps : List Promise). g.promise ∷ ps) later
    by false later = later

-- of the promises on the volume those that last are those on the volume that last
pub on_lasting : (latest : Holding → Option Grant) (v now : ℕ) (log : List Grant) → promises_in (lasting_grants now (held_on latest v log)) ≡ hits_on v (lasting now (held latest log))
on_lasting latest v now log =
    promises_last now (held_on latest v log)
    ∙ (ap (lasting now) (on_promises latest v log) ∙ filters_swap (λ (p : Promise). nat_lt now p.expiry) (promise_on_volume v) (held latest log))

pub on_few : (latest : Holding → Option Grant) (v : ℕ) (log : List Grant) → length (held_on latest v log) ≤ length (held latest log)
on_few latest v [] = omega arith
on_few latest v (g ∷ gs) = by (promise_on_volume v g.promise) (is_held latest g) (on_few latest v gs)
  where
    by : (o h : Bool) → length (held_on latest v gs) ≤ length (held latest gs) → length (if o && h then g ∷ held_on latest v gs else held_on latest v gs) ≤ length (if h then g.promise ∷ held latest gs else held latest gs)
    by true true later = omega (arith, later)
    by true false later = later
    by false true later = omega (arith, later)
    by false false later = later

filter_in : (q : Grant → Bool) (x : Grant) (log : List Grant) → IsIn x (filter q log) → q x ≡ true
filter_in q x [] i = absurd i
filter_in q x (g ∷ gs) i = by (q g) refl i (filter_in q x gs)
  where
    first : q g ≡ true → IsIn x (g ∷ filter q gs) → (IsIn x (filter q gs) → q x ≡ true) → q x ≡ true
    first e (inl f) later = ap q (sym f) ∙ e
    first e (inr i) later = later i

    by : (t : Bool) → q g ≡ t → IsIn x (if t then g ∷ filter q gs else filter q gs) → (IsIn x (filter q gs) → q x ≡ true) → q x ≡ true
    by true e i later = first e i later
    by false e i later = later i

pub on_volume : (latest : Holding → Option Grant) (v : ℕ) (log sorted : List Grant) → IsPermutation (held_on latest v log) sorted → (x : Grant) → IsIn x sorted → x.promise.fid.volume ≡ v
on_volume latest v log sorted moved x i =
    let both = and_both (nat_eq x.promise.fid.volume v) (is_held latest x) (filter_in (is_held_on latest v) x log (moved_in x (held_on latest v log) sorted moved i)) in
    let e : nat_eq x.promise.fid.volume v ≡ true = both.0 in
    grind (arith, nat_tests, e)

pub all_there : (latest : Holding → Option Grant) (v : ℕ) (log sorted : List Grant) → IsPermutation (held_on latest v log) sorted → (x : Grant) → is_held latest x ≡ true → IsIn x log → nat_eq x.promise.fid.volume v ≡ true → IsIn x sorted
all_there latest v log sorted moved x h i on = moved_in x sorted (held_on latest v log) (IsPermutation-sym (held_on latest v log) sorted moved) (in_filter (is_held_on latest v) x log (rw on h) i)

-- ---- one after the other goes

abbrev pub without_all : List Grant → List Promise → List Promise
without_all [] ps = ps
without_all (g ∷ gs) ps = without_all gs (without_promise g.promise.client g.promise.fid ps)

abbrev takes : Promise → Grant → Bool
takes p g = is_promise g.promise.client g.promise.fid p

without_both : (g : Grant) (gs : List Grant) (ps : List Promise) → filter (λ p. not (list_any (takes p) gs)) (without_promise g.promise.client g.promise.fid ps) ≡ filter (λ p. not (takes p g || list_any (takes p) gs)) ps
without_both g gs [] = refl
without_both g gs (p ∷ ps) = by (takes p g) (without_both g gs ps)
  where
    over : (u : Bool) (xs ys : List Promise) → xs ≡ ys → (if u then p ∷ xs else xs) ≡ (if u then p ∷ ys else ys)
    over true xs ys e = ap (λ (l : List Promise). p ∷ l) e
    over false xs ys e = e

    by : (t : Bool) → filter (λ p. not (list_any (takes p) gs)) (without_promise g.promise.client g.promise.fid ps) ≡ filter (λ p. not (takes p g || list_any (takes p) gs)) ps
        → filter (λ p. not (list_any (takes p) gs)) (if not t then p ∷ without_promise g.promise.client g.promise.fid ps else without_promise g.promise.client g.promise.fid ps)
        ≡ (if not (t || list_any (takes p) gs) then p ∷ filter (λ p. not (takes p g || list_any (takes p) gs)) ps else filter (λ p. not (takes p g || list_any (takes p) gs)) ps)
    by true later = later
    by false later = over (not (list_any (takes p) gs)) _ _ later

all_kept : (ps : List Promise) → filter (λ p. not false) ps ≡ ps
all_kept [] = refl
all_kept (p ∷ ps) = ap (λ (l : List Promise). p ∷ l) (all_kept ps)

without_is : (gs : List Grant) (ps : List Promise) → without_all gs ps ≡ filter (λ p. not (list_any (takes p) gs)) ps
without_is [] ps = sym (all_kept ps)
without_is (g ∷ gs) ps = without_is gs (without_promise g.promise.client g.promise.fid ps) ∙ without_both g gs ps

fid_itself : (f : Fid) → same_fid f f ≡ true
fid_itself f = rw (one f.volume, one f.vnode, one f.unique) refl
  where
    one : (n : ℕ) → nat_eq n n ≡ true
    one n = grind (arith, nat_tests)

node_itself : (c : Node) → same_node c c ≡ true
node_itself Loc = refl
node_itself (Server i) = let one : nat_eq i i ≡ true = grind (arith, nat_tests) in one
node_itself (Client i) = let one : nat_eq i i ≡ true = grind (arith, nat_tests) in one
node_itself (Admin i) = let one : nat_eq i i ≡ true = grind (arith, nat_tests) in one

takes_own : (x : Grant) → takes x.promise x ≡ true
takes_own x = rw (node_itself x.promise.client, fid_itself x.promise.fid) refl

any_in : (p : Promise) (x : Grant) (gs : List Grant) → IsIn x gs → takes p x ≡ true → list_any (takes p) gs ≡ true
any_in p x [] i e = absurd i
any_in p x (g ∷ gs) (inl f) e = let own : takes p g ≡ true = ap (takes p) f ∙ e in rw own refl
any_in p x (g ∷ gs) (inr i) e = by (takes p g) (any_in p x gs i e)
  where
    by : (t : Bool) → list_any (takes p) gs ≡ true → (t || list_any (takes p) gs) ≡ true
    by true later = refl
    by false later = later

takes_none : (p : Promise) (v : ℕ) (gs : List Grant) → nat_eq p.fid.volume v ≡ false → ((x : Grant) → IsIn x gs → x.promise.fid.volume ≡ v) → list_any (takes p) gs ≡ false
takes_none p v [] off on = refl
takes_none p v (g ∷ gs) off on = by (same_node p.client g.promise.client) (same_fid p.fid g.promise.fid) refl (takes_none p v gs off (λ x i. on x (inr i)))
  where
    by : (n s : Bool) → same_fid p.fid g.promise.fid ≡ s → list_any (takes p) gs ≡ false → ((n && s) || list_any (takes p) gs) ≡ false
    by true true same later = absurd (let one : p.fid.volume ≡ v = ap (λ (f : Fid). f.volume) (fids_are_one p.fid g.promise.fid same) ∙ on g (inl refl) in let yes : nat_eq p.fid.volume v ≡ true = grind (arith, nat_tests, one) in cc)
    by true false same later = later
    by false s same later = later

taken_is : (x : Grant) (v : ℕ) (gs : List Grant) → ((y : Grant) → IsIn y gs → y.promise.fid.volume ≡ v) → (promise_on_volume v x.promise ≡ true → IsIn x gs) → (t : Bool) → promise_on_volume v x.promise ≡ t → list_any (takes x.promise) gs ≡ t
taken_is x v gs on there true e = any_in x.promise x gs (there e) (takes_own x)
taken_is x v gs on there false e = takes_none x.promise v gs e on

left_after : (latest : Holding → Option Grant) (v : ℕ) (gs log : List Grant) → ((y : Grant) → IsIn y gs → y.promise.fid.volume ≡ v) → ((x : Grant) → is_held latest x ≡ true → IsIn x log → nat_eq x.promise.fid.volume v ≡ true → IsIn x gs)
    → filter (λ p. not (list_any (takes p) gs)) (held latest log) ≡ left_off v (held latest log)
left_after latest v gs [] on there = refl
left_after latest v gs (x ∷ xs) on there = by (is_held latest x) refl (left_after latest v gs xs on (λ y h i. there y h (inr i)))
  where
    over : (u : Bool) (ps qs : List Promise) → ps ≡ qs → (if u then x.promise ∷ ps else ps) ≡ (if u then x.promise ∷ qs else qs)
    over true ps qs e = ap (λ (l : List Promise). x.promise ∷ l) e
    over false ps qs e = e

    by : (h : Bool) → is_held latest x ≡ h → filter (λ p. not (list_any (takes p) gs)) (held latest xs) ≡ left_off v (held latest xs)
        → filter (λ p. not (list_any (takes p) gs)) (if h then x.promise ∷ held latest xs else held latest xs) ≡ left_off v (if h then x.promise ∷ held latest xs else held latest xs)
    by true h later = rw (taken_is x v gs on (λ o. there x h (inl refl) o) (promise_on_volume v x.promise) refl) (over (not (promise_on_volume v x.promise)) _ _ later)
    by false h later = later

-- the promises on the volume go, and no other
pub volume_goes : (latest : Holding → Option Grant) (v : ℕ) (log sorted : List Grant) → IsPermutation (held_on latest v log) sorted → without_all sorted (held latest log) ≡ left_off v (held latest log)
volume_goes latest v log sorted moved = without_is sorted (held latest log) ∙ left_after latest v sorted log (on_volume latest v log sorted moved) (all_there latest v log sorted moved)

pub next_gone : (i : ℕ) (gs : List Grant) (d : Grant) (ps new all : List Promise) → i < length gs → new ≡ without_promise (get_or gs i d).promise.client (get_or gs i d).promise.fid ps → without_all (drop i gs) ps ≡ all → without_all (drop (i + 1) gs) new ≡ all
next_gone i gs d ps new all lt e rest =
    let one : drop (i + 1) gs ≡ drop (suc i) gs = ap (λ (n : ℕ). drop n gs) (let z : i + 1 ≡ suc i = omega arith in z) in
    ap (λ (l : List Grant). without_all l new) one ∙ (ap (without_all (drop (suc i) gs)) e ∙ (sym (ap (λ (l : List Grant). without_all l ps) (drop-cons gs i d lt)) ∙ rest))

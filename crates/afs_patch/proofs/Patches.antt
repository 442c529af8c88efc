-- A volume can take in a change that passes the test of what it touches.
use Rattle.std.proofs.Common.{◌≡◌, ℕ, suc, ◌+◌, ◌≤◌, Bool, true, false, not, List, [], ◌∷◌, length, filter, Option, Some, None, is_some, nat_eq, if◌then◌else◌, refl, sym, ap, ◌∙◌, arith, eqb-true}
use Rattle.std.proofs.lemmas.Bool.Decides.{nat_tests}
use Rattle.std.specs.Prelude.{◌||◌}
use Rattle.std.specs.List.{list_all, AllByRecursion}
use Rattle.std.specs.Option.{option_map}
use Rattle.afs_num.specs.declared.vnodes.Vnode as image
use Rattle.afs_num.specs.declared.volumes.Change.{Change}
use Rattle.afs_num.specs.declared.volumes.VolumeHead.{VolumeHead}
use Rattle.spec_ideal.specs.Tables.{Table, get, set, unset, AscendsFrom}
use Rattle.spec_ideal.specs.VnodeImage.{FitsImage}
use Rattle.spec_ideal.specs.Volumes.{Vnode, Volume}
use Rattle.spec_ideal.proofs.Basics.{both, yes_no}
use Rattle.spec_ideal.proofs.Tables.{ascends_set, ascends_unset, get_set, get_unset}
use Rattle.spec_records.specs.Sound.{gives_one, is_named_in, is_sound}
use Rattle.afs_volume.specs.Seen.{all_seen, seen, IsReadable}
use Rattle.afs_volume.specs.Taking.{is_among, put_but, without_all, CanTakeIn}
use Rattle.afs_volume.specs.declared.volume.Volume as volumes
use Rattle.afs_volume.proofs.Tables.{got}
use Rattle.afs_volume.proofs.Taken.{put_each, removed_first}
use Rattle.afs_patch.specs.Changing.{is_in}
use Rattle.afs_patch.specs.Patching.{after, before, gives_touched, image_left, new_among, passes, same_others, table_left, AreTouched, IsPatch, StaysNamed}
use Rattle.afs_patch.proofs.Left.{changed_is, its_order, may_hold}
use Rattle.afs_patch.proofs.Patched.{gives_as_before, named_as_before, still_sound}
use Rattle.afs_seats.proofs.Seen.{seen_up, set_length}

-- ---- what is left under a number

gone_by : (k : ℕ) (ns : List ℕ) (o : Option image.Vnode) (b : Bool) → (if is_among k ns then None else (if b then None else o)) ≡ (if b || is_among k ns then None else o)
gone_by k ns o true = gone (is_among k ns)
  where
    gone : (c : Bool) → (if c then None else (if true then None else o)) ≡ None
    gone true = refl
    gone false = refl
gone_by k ns o false = refl

without_gets : (k : ℕ) (ns : List ℕ) (t : Table image.Vnode) → get k (without_all ns t) ≡ (if is_among k ns then None else get k t)
without_gets k [] t = refl
without_gets k (n ∷ ns) t =
    without_gets k ns (unset n t) ∙ (ap (λ (o : Option image.Vnode). if is_among k ns then None else o) (get_unset k n t) ∙ gone_by k ns (get k t) (nat_eq n k))

each_gets : (k : ℕ) (xs : List image.Vnode) (t : Table image.Vnode) → get k (put_each xs t) ≡ image_left k xs (get k t)
each_gets k [] t = refl
each_gets k (x ∷ xs) t = each_gets k xs (set x.vnode x t) ∙ ap (image_left k xs) (get_set k x.vnode x t)

left_by : (k : ℕ) (ns : List ℕ) (xs : List image.Vnode) (t : Table image.Vnode) → AscendsFrom 0 t → get k (put_but ns xs (without_all ns t)) ≡ (if is_among k ns then None else image_left k xs (get k t))
left_by k ns xs t up =
    ap (get k) (removed_first ns xs t up) ∙ (without_gets k ns (put_each xs t) ∙ ap (λ (o : Option image.Vnode). if is_among k ns then None else o) (each_gets k xs t))

pub left_gets : (k : ℕ) (v : volumes.Volume) (c : Change) → get k (table_left v c) ≡ (if is_among k c.removed then None else image_left k c.vnodes (get k v.vnodes.table))
left_gets k v c = left_by k c.removed c.vnodes v.vnodes.table (its_order v)

pub none_left : (k : ℕ) (v : volumes.Volume) (c : Change) → is_among k c.removed ≡ true → get k (table_left v c) ≡ None
none_left k v c gone = left_gets k v c ∙ rw gone refl

pub image_is_left : (k : ℕ) (v : volumes.Volume) (c : Change) → is_among k c.removed ≡ false → get k (table_left v c) ≡ image_left k c.vnodes (get k v.vnodes.table)
image_is_left k v c stays = left_gets k v c ∙ rw stays refl

pub seen_left : (k : ℕ) (v : volumes.Volume) (c : Change) (o : Option image.Vnode) → o ≡ get k (table_left v c) → option_map seen o ≡ get k (after v c).vnodes
seen_left k v c o e = ap (option_map seen) e ∙ sym (got k (table_left v c))

-- ---- others stay

not_among : (k : ℕ) (touched ns : List ℕ) → list_all (λ (n : ℕ). is_among n touched) ns ≡ true → is_among k touched ≡ false → is_among k ns ≡ false
not_among k touched [] all out = refl
not_among k touched (n ∷ ns) all out =
    let two = both (is_among n touched) (list_all (λ (m : ℕ). is_among m touched) ns) all in
    one_by (nat_eq n k) refl two.0 (not_among k touched ns two.1 out)
  where
    one_by : (b : Bool) → nat_eq n k ≡ b → is_among n touched ≡ true → is_among k ns ≡ false → (b || is_among k ns) ≡ false
    one_by true is there later = absurd (yes_no (is_among k touched) (ap (λ (m : ℕ). is_among m touched) (sym (eqb-true n k is)) ∙ there) out)
    one_by false is there later = later

not_left : (k : ℕ) (touched : List ℕ) (xs : List image.Vnode) (o : Option image.Vnode) → list_all (λ (x : image.Vnode). is_among x.vnode touched) xs ≡ true → is_among k touched ≡ false → image_left k xs o ≡ o
not_left k touched [] o all out = refl
not_left k touched (x ∷ xs) o all out =
    let two = both (is_among x.vnode touched) (list_all (λ (y : image.Vnode). is_among y.vnode touched) xs) all in
    not_left k touched xs (if nat_eq x.vnode k then Some x else o) two.1 out ∙ one_by (nat_eq x.vnode k) refl two.0
  where
    one_by : (b : Bool) → nat_eq x.vnode k ≡ b → is_among x.vnode touched ≡ true → (if b then Some x else o) ≡ o
    one_by true is there = absurd (yes_no (is_among k touched) (ap (λ (m : ℕ). is_among m touched) (sym (eqb-true x.vnode k is)) ∙ there) out)
    one_by false is there = refl

pub stays : (k : ℕ) (touched : List ℕ) (v : volumes.Volume) (c : Change) → AreTouched touched c → is_among k touched ≡ false → get k (after v c).vnodes ≡ get k (before v).vnodes
stays k touched v c are out =
    got k (table_left v c)
    ∙ (ap (option_map seen) (image_is_left k v c (not_among k touched c.removed are.removed out) ∙ not_left k touched c.vnodes (get k v.vnodes.table) are.changed out)
    ∙ sym (got k v.vnodes.table))

-- a vnode that keeps its place and number of names in a directory that isn't touched
pub named_by_others : (n : ℕ) (touched : List ℕ) (v : volumes.Volume) (c : Change) (o : Option Vnode) (y : Vnode) → AreTouched touched c → o ≡ get n (before v).vnodes → nat_eq n 1 ≡ false → StaysNamed touched o y
    → is_named_in (get y.parent (after v c).vnodes) n y ≡ true
named_by_others n touched v c None y are is below named = absurd named
named_by_others n touched v c (Some x) y are is below named =
    ap (λ (o : Option Vnode). is_named_in o n y) (stays y.parent touched v c are named.0) ∙ named_as_before n x y (before v) v.sound (sym is) below named.1

-- a vnode that is there gives what it names, where it keeps its other names and gives what is touched
pub gives_left : (n : ℕ) (touched : List ℕ) (v : volumes.Volume) (c : Change) (x y : Vnode) → AreTouched touched c → get n (before v).vnodes ≡ Some x → x.unique ≡ y.unique → same_others touched x.names y.names ≡ true
    → list_all (gives_touched touched (after v c) n y.unique) y.names ≡ true → list_all (gives_one (after v c) n y.unique) y.names ≡ true
gives_left n touched v c x y are there unique same tested = gives_as_before touched (before v) (after v c) n x y v.sound there (λ k out. stays k touched v c are out) unique same tested

or_by : (n : ℕ) (b c : Bool) → nat_eq n 1 ≡ b → (nat_eq n 1 ≡ false → c ≡ true) → (b || c) ≡ true
or_by n true c is f = refl
or_by n false c is f = f is

pub placed_as_before : (n : ℕ) (touched : List ℕ) (v : volumes.Volume) (c : Change) (o : Option Vnode) (y : Vnode) → AreTouched touched c → o ≡ get n (before v).vnodes → StaysNamed touched o y
    → (nat_eq n 1 || is_named_in (get y.parent (after v c).vnodes) n y) ≡ true
placed_as_before n touched v c o y are is named = or_by n (nat_eq n 1) (is_named_in (get y.parent (after v c).vnodes) n y) refl (λ below. named_by_others n touched v c o y are is below named)

-- ---- how many are left

one_new : (b : Bool) (x : image.Vnode) (rest : List image.Vnode) → length (if not b then x ∷ rest else rest) ≡ (if b then 0 else 1) + length rest
one_new true x rest = omega arith
one_new false x rest = omega arith

few_by : (b there : Bool) (n k l rest : ℕ) → l ≡ (if there then n else suc n) → (b ≡ true → there ≡ true) → k ≤ l + rest → k ≤ n + ((if b then 0 else 1) + rest)
few_by true true n k l rest e kept le = omega (arith, e, le)
few_by true false n k l rest e kept le = absurd (let z : false ≡ true = kept refl in cc)
few_by false true n k l rest e kept le = omega (arith, e, le)
few_by false false n k l rest e kept le = omega (arith, e, le)

few_among : (b : Bool) (ns : List ℕ) (x : image.Vnode) (xs : List image.Vnode) (t u : Table image.Vnode) → is_among x.vnode ns ≡ b → AscendsFrom 0 u → (is_among x.vnode ns ≡ false → is_in t x.vnode ≡ true → is_some (get x.vnode u) ≡ true)
    → length (put_but ns xs u) ≤ length u + new_among t xs → length (put_but ns xs (set x.vnode x u)) ≤ length (set x.vnode x u) + new_among t xs → length (put_but ns xs (if b then u else set x.vnode x u)) ≤ length u + new_among t (x ∷ xs)
few_among true ns x xs t u is up kept same put =
    let new = one_new (is_in t x.vnode) x (filter (λ (y : image.Vnode). not (is_in t y.vnode)) xs) in
    omega (arith, same, new)
few_among false ns x xs t u is up kept same put =
    let new = one_new (is_in t x.vnode) x (filter (λ (y : image.Vnode). not (is_in t y.vnode)) xs) in
    let few = few_by (is_in t x.vnode) (is_some (get x.vnode u)) (length u) (length (put_but ns xs (set x.vnode x u))) (length (set x.vnode x u)) (new_among t xs) (set_length 0 x.vnode x u up) (kept is) put in
    omega (arith, few, new)

there_by : (b : Bool) (x : image.Vnode) (o : Option image.Vnode) → is_some o ≡ true → is_some (if b then Some x else o) ≡ true
there_by true x o e = refl
there_by false x o e = e

few_left : (ns : List ℕ) (xs : List image.Vnode) (t u : Table image.Vnode) → AscendsFrom 0 u → ((k : ℕ) → is_among k ns ≡ false → is_in t k ≡ true → is_some (get k u) ≡ true) → length (put_but ns xs u) ≤ length u + new_among t xs
few_left ns [] t u up kept = omega arith
few_left ns (x ∷ xs) t u up kept =
    few_among (is_among x.vnode ns) ns x xs t u refl up (kept x.vnode) (few_left ns xs t u up kept)
    (few_left ns xs t (set x.vnode x u) (ascends_set 0 x.vnode x u (omega arith) up) (λ k out there. ap is_some (get_set k x.vnode x u) ∙ there_by (nat_eq x.vnode k) x (get k u) (kept k out there)))

shorter_by : (b : Bool) (p : ℕ × image.Vnode) (ps qs : Table image.Vnode) → length qs ≤ length ps → length (if b then p ∷ qs else qs) ≤ suc (length ps)
shorter_by true p ps qs le = omega (arith, le)
shorter_by false p ps qs le = omega (arith, le)

unset_shorter : (n : ℕ) (t : Table image.Vnode) → length (unset n t) ≤ length t
unset_shorter n [] = omega arith
unset_shorter n (p ∷ ps) = shorter_by (not (nat_eq p.0 n)) p ps (unset n ps) (unset_shorter n ps)

without_shorter : (ns : List ℕ) (t : Table image.Vnode) → length (without_all ns t) ≤ length t
without_shorter [] t = omega arith
without_shorter (n ∷ ns) t =
    let one = unset_shorter n t in
    let more = without_shorter ns (unset n t) in
    omega (arith, one, more)

without_up : (ns : List ℕ) (t : Table image.Vnode) → AscendsFrom 0 t → AscendsFrom 0 (without_all ns t)
without_up [] t up = up
without_up (n ∷ ns) t up = without_up ns (unset n t) (ascends_unset 0 n t up)

some_seen : (o : Option image.Vnode) → is_some (option_map seen o) ≡ is_some o
some_seen None = refl
some_seen (Some x) = refl

few : (v : volumes.Volume) (c : Change) → length (table_left v c) ≤ length v.vnodes.table + new_among v.vnodes.table c.vnodes
few v c =
    let t = v.vnodes.table in
    let less = without_shorter c.removed t in
    let most = few_left c.removed c.vnodes t (without_all c.removed t) (without_up c.removed t (its_order v))
    (λ k out there. ap is_some (without_gets k c.removed t ∙ rw out refl) ∙ (sym (some_seen (get k t)) ∙ (ap is_some (sym (got k t)) ∙ there))) in
    omega (arith, less, most)

-- ---- their order

but_up : (ns : List ℕ) (xs : List image.Vnode) (t : Table image.Vnode) → AscendsFrom 0 t → AscendsFrom 0 (put_but ns xs t)
but_up ns [] t up = up
but_up ns (x ∷ xs) t up = but_up ns xs (if is_among x.vnode ns then t else set x.vnode x t) (one_up (is_among x.vnode ns))
  where
    one_up : (b : Bool) → AscendsFrom 0 (if b then t else set x.vnode x t)
    one_up true = up
    one_up false = ascends_set 0 x.vnode x t (omega arith) up

none_some : {A : Type 0} (x : A) → ◌≡◌ {A = Option A} (Some x) None → ⊥
none_some {A} x e = cc

above_zero : (t : Table image.Vnode) → AscendsFrom 0 t → get 0 t ≡ None → AscendsFrom 1 t
above_zero [] up none = tt
above_zero (p ∷ ps) up none = (one_by (nat_eq p.0 0) refl none, up.1)
  where
    one_by : (b : Bool) → nat_eq p.0 0 ≡ b → (if b then Some p.1 else get 0 ps) ≡ None → 1 ≤ p.0
    one_by true is e = absurd (none_some p.1 e)
    one_by false is e = grind (arith, nat_tests, is)

all_up : (t : Table image.Vnode) → AscendsFrom 1 t → AscendsFrom 1 (all_seen t)
unfolding all_seen
all_up t up = seen_up seen 1 t up

-- ---- so it is taken in

passed_at : (touched rest : List ℕ) (v w : Volume) (n : ℕ) → list_all (passes touched v w) rest ≡ true → is_among n rest ≡ true → passes touched v w n ≡ true
passed_at touched [] v w n all there = absurd (let z : false ≡ true = there in cc)
passed_at touched (m ∷ ms) v w n all there =
    let two = both (passes touched v w m) (list_all (passes touched v w) ms) all in
    one_by (nat_eq m n) refl two.0 (passed_at touched ms v w n two.1) there
  where
    one_by : (b : Bool) → nat_eq m n ≡ b → passes touched v w m ≡ true → (is_among n ms ≡ true → passes touched v w n ≡ true) → (b || is_among n ms) ≡ true → passes touched v w n ≡ true
    one_by true is first later there = ap (λ (k : ℕ). passes touched v w k) (sym (eqb-true m n is)) ∙ first
    one_by false is first later there = later there

left_sound : (touched : List ℕ) (v : volumes.Volume) (c : Change) → IsPatch touched v c → is_sound (after v c) ≡ true
left_sound touched v c is =
    still_sound touched (before v) (after v c) v.sound is.next is.root
    (all_up (table_left v c) (above_zero (table_left v c) (but_up c.removed c.vnodes (without_all c.removed v.vnodes.table) (without_up c.removed v.vnodes.table (its_order v))) is.above))
    (λ n out. stays n touched v c is.within out) (λ n there. passed_at touched touched (before v) (after v c) n is.passed there)

pub can_take_in : (touched : List ℕ) (v : volumes.Volume) (c : Change) → IsPatch touched v c → AllByRecursion IsReadable c.vnodes → AllByRecursion FitsImage c.vnodes → CanTakeIn v c
can_take_in touched v c is read fits =
    let next : VolumeHead = record v.head { counter = c.counter; unique = c.unique } in
    let most = few v c in
    let room = is.few in
    record {
      taken = ap is_some
          (changed_is v.head c.counter c.unique c.vnodes c.removed v.vnodes.table (its_order v) read is.there ∙ may_hold next (table_left v c) (omega (arith, most, room)) (left_sound touched v c is));
      read = read;
      fits = fits;
    }

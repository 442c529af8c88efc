-- A file that is made and then filled is the file that is made with its bytes.
use Rattle.std.proofs.Common.{◌≡◌, ℕ, ◌+◌, ◌/◌, Bool, true, false, not, List, [], ◌∷◌, length, Option, Some, None, Ok, Err, is_some, nat_eq, nat_lt, if◌then◌else◌, refl, sym, ap, subst, ◌∙◌, arith, eq-eqb}
use Rattle.std.specs.Prelude.{◌||◌}
use Rattle.std.specs.Option.{option_map}
use Rattle.std.proofs.lemmas.Bool.Decides.{nat_tests}
use Rattle.afs_num.specs.declared.types.Fid.{Fid}
use Rattle.afs_num.specs.declared.calls.FsCall.TheVariants as calls
use Rattle.spec_ideal.specs.Tables.{Table, get, set, AscendsFrom}
use Rattle.spec_ideal.specs.Volumes.{VnodeKind, a_file, a_directory, a_link, Vnode, Volume, Amend, Edit, amends, makes, amended, amends_at, edited, makes_at, fresh, bytes_by, blocks_of, blocks_in, counted, edited_all, ascending, edit_put, edit_number, if_unique, vnode_of, with_status}
use Rattle.spec_ideal.specs.Operations as ops
use Rattle.spec_ideal.specs.Operations.{all_rights, changes, creating, directory_name, names_in, most_file_bytes, first_failing, free_number, limits, new_file, no_amend, op, tests}
use Rattle.spec_ideal.specs.SetUp.{all_at_first, at_first, called, laid_by, new_fid, nothing_set, one_at_first, stores_all}
use Rattle.spec_ideal.specs.Soundness.{IsSound}
use Rattle.spec_ideal.specs.Directories.{with_name}
use Rattle.spec_ideal.proofs.Scopes.{accepted, all_pass}
use Rattle.spec_ideal.proofs.Tables.{ascends_lower, ascends_set, free_is_free, get_set}
use Rattle.spec_records.proofs.Kept.{is_edited, same_tables}
use Rattle.afs_volume.specs.Counting.{blocks_at}
use Rattle.afs_laying.specs.Filled.{at_once, filled, filled_at_once}
use Rattle.afs_volume.proofs.Sums.{blocks_set}

-- ---- what set-up leaves as at first

one_first : (k m : ℕ) (o : Option Vnode) (t : Table Vnode) (b : Bool) → get m t ≡ o → nat_eq m k ≡ b → get k (one_at_first m o t) ≡ (if b then option_map at_first (get k t) else get k t)
one_first k m None t true is same =
    let none : get k t ≡ None = ap (λ (j : ℕ). get j t) (let z : k ≡ m = grind (arith, nat_tests, same) in z) ∙ is in
    none ∙ ap (λ (p : Option Vnode). option_map at_first p) (sym none)
one_first k m None t false is same = refl
one_first k m (Some x) t true is same =
    let there : get k t ≡ Some x = ap (λ (j : ℕ). get j t) (let z : k ≡ m = grind (arith, nat_tests, same) in z) ∙ is in
    get_set k m (at_first x) t ∙ (rw same (ap (λ (p : Option Vnode). option_map at_first p) (sym there)))
one_first k m (Some x) t false is same = get_set k m (at_first x) t ∙ rw same refl

again_first : (o : Option Vnode) → option_map at_first (option_map at_first o) ≡ option_map at_first o
again_first None = refl
again_first (Some x) = refl

twice_first : (b c : Bool) (o : Option Vnode) → (if c then option_map at_first (if b then option_map at_first o else o) else (if b then option_map at_first o else o)) ≡ (if b || c then option_map at_first o else o)
twice_first true true o = again_first o
twice_first true false o = refl
twice_first false c o = refl

pub first_gets : (k : ℕ) (es : List Edit) (t : Table Vnode) → get k (all_at_first es t) ≡ (if is_edited k es then option_map at_first (get k t) else get k t)
first_gets k [] t = refl
first_gets k (e ∷ es) t =
    let m = edit_number e in
    first_gets k es (one_at_first m (get m t) t)
    ∙ (ap (λ (o : Option Vnode). if is_edited k es then option_map at_first o else o) (one_first k m (get m t) t (nat_eq m k) refl refl)
    ∙ twice_first (nat_eq m k) (is_edited k es) (get k t))

pub one_up : (m : ℕ) (o : Option Vnode) (t : Table Vnode) → AscendsFrom 0 t → AscendsFrom 0 (one_at_first m o t)
one_up m None t up = up
one_up m (Some x) t up = ascends_set 0 m (at_first x) t (omega arith) up

pub first_up : (es : List Edit) (t : Table Vnode) → AscendsFrom 0 t → AscendsFrom 0 (all_at_first es t)
first_up [] t up = up
first_up (e ∷ es) t up = first_up es (one_at_first (edit_number e) (get (edit_number e) t) t) (one_up (edit_number e) (get (edit_number e) t) t up)

-- and its blocks

pub same_bytes : (k : VnodeKind) (x : Vnode) → bytes_by k (at_first x) ≡ bytes_by k x
same_bytes a_file x = refl
same_bytes a_directory x = refl
same_bytes a_link x = refl

same_blocks : (x : Vnode) → blocks_of (at_first x) ≡ blocks_of x
same_blocks x = ap (λ (bytes : List ℕ). (length bytes + 1023) / 1024) (same_bytes x.kind x)

one_blocks : (m : ℕ) (o : Option Vnode) (t : Table Vnode) → AscendsFrom 0 t → get m t ≡ o → blocks_in (one_at_first m o t) ≡ blocks_in t
one_blocks m None t up is = refl
one_blocks m (Some x) t up is =
    let sum = blocks_set 0 m (at_first x) t up in
    let at : blocks_at (get m t) ≡ blocks_of x = ap blocks_at is in
    let same = same_blocks x in
    omega (arith, sum, at, same)

first_blocks : (es : List Edit) (t : Table Vnode) → AscendsFrom 0 t → blocks_in (all_at_first es t) ≡ blocks_in t
first_blocks [] t up = refl
first_blocks (e ∷ es) t up =
    let m = edit_number e in
    first_blocks es (one_at_first m (get m t) t) (one_up m (get m t) t up) ∙ one_blocks m (get m t) t up refl

set_blocks : (n : ℕ) (z : Vnode) (t : Table Vnode) → AscendsFrom 0 t → blocks_in (set n (at_first z) t) ≡ blocks_in (set n z t)
set_blocks n z t up =
    let one = blocks_set 0 n (at_first z) t up in
    let other = blocks_set 0 n z t up in
    let same = same_blocks z in
    omega (arith, one, other, same)

-- ---- a directory's names and what is made, one before the other

abbrev pub two : Bool → ℕ → ℕ → Amend → Vnode → List Edit
two true d n a x = makes n x ∷ amends d a ∷ []
two false d n a x = amends d a ∷ makes n x ∷ []

abbrev pub put_two : Bool → ℕ → ℕ → Vnode → Vnode → Table Vnode → Table Vnode
put_two true d n y x t = set d y (set n x t)
put_two false d n y x t = set n x (set d y t)

or_turned : (b c : Bool) → (b || (c || false)) ≡ (c || b)
or_turned true true = refl
or_turned true false = refl
or_turned false true = refl
or_turned false false = refl

ends_or : (b c : Bool) → (b || (c || false)) ≡ (b || c)
ends_or true c = refl
ends_or false true = refl
ends_or false false = refl

turned : (k d n : ℕ) (y x : Vnode) (o : Option Vnode) (b c : Bool) → nat_eq d k ≡ b → nat_eq n k ≡ c → nat_eq d n ≡ false → (if b then Some y else (if c then Some x else o)) ≡ (if c then Some x else (if b then Some y else o))
turned k d n y x o true true one other apart = absurd (grind (arith, nat_tests, one, other, apart))
turned k d n y x o true false one other apart = refl
turned k d n y x o false c one other apart = refl

two_edited : (k : ℕ) (b : Bool) (d n : ℕ) (a : Amend) (x : Vnode) → is_edited k (two b d n a x) ≡ (nat_eq d k || nat_eq n k)
two_edited k true d n a x = or_turned (nat_eq n k) (nat_eq d k)
two_edited k false d n a x = ends_or (nat_eq d k) (nat_eq n k)

two_gets : (k : ℕ) (b : Bool) (d n : ℕ) (y x : Vnode) (t : Table Vnode) → nat_eq d n ≡ false → get k (put_two b d n y x t) ≡ (if nat_eq n k then Some x else (if nat_eq d k then Some y else get k t))
two_gets k true d n y x t apart = get_set k d y (set n x t) ∙ (ap (λ (o : Option Vnode). if nat_eq d k then Some y else o) (get_set k n x t) ∙ turned k d n y x (get k t) (nat_eq d k) (nat_eq n k) refl refl apart)
two_gets k false d n y x t apart = get_set k n x (set d y t) ∙ ap (λ (o : Option Vnode). if nat_eq n k then Some x else o) (get_set k d y t)

pub two_up : (b : Bool) (d n : ℕ) (y x : Vnode) (t : Table Vnode) → AscendsFrom 0 t → AscendsFrom 0 (put_two b d n y x t)
two_up true d n y x t up = ascends_set 0 d y (set n x t) (omega arith) (ascends_set 0 n x t (omega arith) up)
two_up false d n y x t up = ascends_set 0 n x (set d y t) (omega arith) (ascends_set 0 d y t (omega arith) up)

one_amended : (id d : ℕ) (a : Amend) (y : Vnode) (v : Volume) → get d v.vnodes ≡ Some y → (edited id (amends d a) v).volume ≡ record v { vnodes = set d (amended (v.counter + 1) a y) v.vnodes }
one_amended id d a y v there = ap (λ (o : Option Vnode). (amends_at id d a v o).volume) there

one_made : (id n : ℕ) (x : Vnode) (v : Volume) → get n v.vnodes ≡ None → (edited id (makes n x) v).volume ≡ record v { vnodes = set n (fresh (v.counter + 1) v.next x) v.vnodes; next = v.next + 1 }
one_made id n x v free = ap (λ (o : Option Vnode). (makes_at id n x v o).volume) free

elsewhere : (k m : ℕ) (y : Vnode) (t : Table Vnode) (o : Option Vnode) → nat_eq m k ≡ false → get k t ≡ o → get k (set m y t) ≡ o
elsewhere k m y t o other is = get_set k m y t ∙ rw other is

pub two_made : (id : ℕ) (b : Bool) (d n : ℕ) (a : Amend) (x y : Vnode) (v : Volume) → get d v.vnodes ≡ Some y → get n v.vnodes ≡ None → nat_eq d n ≡ false → nat_eq n d ≡ false
    → edited_all id (two b d n a x) v ≡ record v { vnodes = put_two b d n (amended (v.counter + 1) a y) (fresh (v.counter + 1) v.next x) v.vnodes; next = v.next + 1 }
two_made id true d n a x y v there free apart other =
    let w : Volume = record v { vnodes = set n (fresh (v.counter + 1) v.next x) v.vnodes; next = v.next + 1 } in
    ap (λ (u : Volume). (edited id (amends d a) u).volume) (one_made id n x v free) ∙ one_amended id d a y w (elsewhere d n (fresh (v.counter + 1) v.next x) v.vnodes (Some y) other there)
two_made id false d n a x y v there free apart other =
    let w : Volume = record v { vnodes = set d (amended (v.counter + 1) a y) v.vnodes } in
    ap (λ (u : Volume). (edited id (makes n x) u).volume) (one_amended id d a y v there) ∙ one_made id n x w (elsewhere n d (amended (v.counter + 1) a y) v.vnodes None apart free)

pub two_filled : (bytes : List ℕ) (b : Bool) (d n : ℕ) (a : Amend) (x : Vnode) → filled bytes (two b d n a x) ≡ two b d n a (record x { contents = bytes })
two_filled bytes true d n a x = refl
two_filled bytes false d n a x = refl

-- ---- the bytes of the new file, stored behind it or with it

stored_amend : List ℕ → Amend
stored_amend bytes = record no_amend { contents = Some bytes; status = Some nothing_set }

filled_first : (c k u : ℕ) (bytes : List ℕ) (x : Vnode) → at_first (amended c (stored_amend bytes) (at_first (fresh k u x))) ≡ at_first (fresh k u (record x { contents = bytes }))
unfolding stored_amend
filled_first c k u bytes x = refl

both_agree : (p q : Bool) (y x w z : Vnode) (o : Option Vnode) → at_first z ≡ at_first w
    → ◌≡◌ {A = Option Vnode} (if p then Some (at_first z) else (if q || p then option_map at_first (if p then Some x else (if q then Some y else o)) else (if p then Some x else (if q then Some y else o))))
    (if q || p then option_map at_first (if p then Some w else (if q then Some y else o)) else (if p then Some w else (if q then Some y else o)))
both_agree true true y x w z o is = ap (λ (u : Vnode). Some u) is
both_agree true false y x w z o is = ap (λ (u : Vnode). Some u) is
both_agree false true y x w z o is = refl
both_agree false false y x w z o is = refl

two_first : (k : ℕ) (b : Bool) (d n : ℕ) (a : Amend) (e y x : Vnode) (t : Table Vnode) → nat_eq d n ≡ false
    → get k (all_at_first (two b d n a e) (put_two b d n y x t))
    ≡ (if nat_eq d k || nat_eq n k then option_map at_first (if nat_eq n k then Some x else (if nat_eq d k then Some y else get k t)) else (if nat_eq n k then Some x else (if nat_eq d k then Some y else get k t)))
two_first k b d n a e y x t apart =
    first_gets k (two b d n a e) (put_two b d n y x t)
    ∙ rw (two_edited k b d n a e, two_gets k b d n y x t apart) refl

same_laid : (b : Bool) (d n : ℕ) (a : Amend) (e f y x w z : Vnode) (t : Table Vnode) → AscendsFrom 0 t → nat_eq d n ≡ false → at_first z ≡ at_first w
    → set n (at_first z) (all_at_first (two b d n a e) (put_two b d n y x t)) ≡ all_at_first (two b d n a f) (put_two b d n y w t)
same_laid b d n a e f y x w z t up apart is =
    same_tables 0 0 (set n (at_first z) (all_at_first (two b d n a e) (put_two b d n y x t))) (all_at_first (two b d n a f) (put_two b d n y w t))
    (ascends_set 0 n (at_first z) (all_at_first (two b d n a e) (put_two b d n y x t)) (omega arith) (first_up (two b d n a e) (put_two b d n y x t) (two_up b d n y x t up)))
    (first_up (two b d n a f) (put_two b d n y w t) (two_up b d n y w t up))
    (λ k. get_set k n (at_first z) (all_at_first (two b d n a e) (put_two b d n y x t))
    ∙ (ap (λ (o : Option Vnode). if nat_eq n k then Some (at_first z) else o) (two_first k b d n a e y x t apart)
    ∙ (both_agree (nat_eq n k) (nat_eq d k) y x w z (get k t) is ∙ sym (two_first k b d n a f y w t apart))))

-- ---- bytes stored in a file that was just made

last_test : (b : Bool) → ◌≡◌ {A = Option ℕ} (if not b then None else Some 27) (if b then Some 27 else None)
last_test true = refl
last_test false = refl

stored_tests : (f : Fid) (bytes : List ℕ) (m : Volume) (y : Vnode) → vnode_of f m ≡ Some y → y.kind ≡ a_file → nat_eq m.kind 0 ≡ true
    → first_failing (tests all_rights (stores_all f bytes) m) ≡ (if nat_lt most_file_bytes (length bytes) then Some 27 else None)
stored_tests f bytes m y there kind writable =
    let same : nat_eq (length bytes) (length bytes) ≡ true = eq-eqb (length bytes) (length bytes) refl in
    rw (there, kind, writable, same) (last_test (nat_lt most_file_bytes (length bytes)))

quota_test : (b : Bool) → ◌≡◌ {A = Option ℕ} (if not b then None else Some 109) (if b then Some 109 else None)
quota_test true = refl
quota_test false = refl

stored_limits : (id n : ℕ) (bytes : List ℕ) (m : Volume) (w : Vnode) → get n m.vnodes ≡ Some (at_first w) → m.counter ≡ 1
    → first_failing (limits id (amends n (stored_amend bytes) ∷ []) m) ≡ (if nat_lt m.quota (blocks_in (set n (amended (m.counter + 1) (stored_amend bytes) (at_first w)) m.vnodes)) then Some 109 else None)
unfolding stored_amend
stored_limits id n bytes m w there counter =
    rw (one_amended id n (stored_amend bytes) (at_first w) m there, there, counter) (quota_test (nat_lt m.quota (blocks_in (set n (amended 2 (stored_amend bytes) (at_first w)) m.vnodes))))

over : (b : Bool) (x y : Vnode) (o : Option Vnode) → (if b then Some x else (if b then Some y else o)) ≡ (if b then Some x else o)
over true x y o = refl
over false x y o = refl

set_again : (n : ℕ) (x y : Vnode) (t : Table Vnode) → AscendsFrom 0 t → set n x (set n y t) ≡ set n x t
set_again n x y t up =
    same_tables 0 0 (set n x (set n y t)) (set n x t) (ascends_set 0 n x (set n y t) (omega arith) (ascends_set 0 n y t (omega arith) up)) (ascends_set 0 n x t (omega arith) up)
    (λ k. get_set k n x (set n y t) ∙ (ap (λ (o : Option Vnode). if nat_eq n k then Some x else o) (get_set k n y t) ∙ (over (nat_eq n k) x y (get k t) ∙ sym (get_set k n x t))))

-- what is stored, or its refusal
laid_tests : (id : ℕ) (p q : Bool) (es : List Edit) (n : ℕ) (m : Volume) → laid_by id (ops.by_tests (if p then Some 27 else None) (ops.by_tests (if q then Some 109 else None) (changes es n))) m
    ≡ (if p then Err 27 else (if q then Err 109 else Ok (record (counted (edited_all id es m)) { counter = 1; vnodes = all_at_first es (edited_all id es m).vnodes })))
laid_tests id true q es n m = refl
laid_tests id false true es n m = refl
laid_tests id false false es n m = refl

stored_laid : (id n : ℕ) (bytes : List ℕ) (m : Volume) (w : Vnode) → get n m.vnodes ≡ Some (at_first w) → AscendsFrom 0 m.vnodes
    → at_once id (amends n (stored_amend bytes) ∷ []) m ≡ record m { counter = 1; vnodes = set n (at_first (amended (m.counter + 1) (stored_amend bytes) (at_first w))) m.vnodes }
stored_laid id n bytes m w there up =
    let z : Vnode = amended (m.counter + 1) (stored_amend bytes) (at_first w) in
    let found : get n (set n z m.vnodes) ≡ Some z = get_set n n z m.vnodes ∙ rw (eq-eqb n n refl) refl in
    ap (λ (u : Volume). record u { counter = 1; vnodes = all_at_first (amends n (stored_amend bytes) ∷ []) u.vnodes }) (one_amended id n (stored_amend bytes) (at_first w) m there)
    ∙ ap (λ (t : Table Vnode). record m { counter = 1; vnodes = t })
    (ap (λ (o : Option Vnode). one_at_first n o (set n z m.vnodes)) found ∙ set_again n (at_first z) z m.vnodes up)

stored_called : (id n u : ℕ) (bytes : List ℕ) (m : Volume) (w : Vnode) → get n m.vnodes ≡ Some (at_first w) → w.unique ≡ u → w.kind ≡ a_file → nat_eq m.kind 0 ≡ true → m.counter ≡ 1 → AscendsFrom 0 m.vnodes
    → called id (stores_all (record { volume = id; vnode = n; unique = u }) bytes) m
    ≡ (if nat_lt most_file_bytes (length bytes) then Err 27
    else (if nat_lt m.quota (blocks_in (set n (amended (m.counter + 1) (stored_amend bytes) (at_first w)) m.vnodes)) then Err 109
    else Ok (record m { counter = 1; vnodes = set n (at_first (amended (m.counter + 1) (stored_amend bytes) (at_first w))) m.vnodes })))
unfolding stored_amend
stored_called id n u bytes m w there unique kind writable counter up =
    let f : Fid = record { volume = id; vnode = n; unique = u } in
    let z : Vnode = amended (m.counter + 1) (stored_amend bytes) (at_first w) in
    let long : Bool = nat_lt most_file_bytes (length bytes) in
    let more : Bool = nat_lt m.quota (blocks_in (set n z m.vnodes)) in
    let found : vnode_of f m ≡ Some (at_first w) = rw (there, eq-eqb w.unique u unique) refl in
    let tested = stored_tests f bytes m (at_first w) found kind writable in
    let limited = stored_limits id n bytes m w there counter in
    ap (λ (o : Option ℕ). laid_by id (ops.by_tests o (ops.by_tests (first_failing (limits id (amends n (stored_amend bytes) ∷ []) m)) (changes (amends n (stored_amend bytes) ∷ []) n))) m) tested
    ∙ (ap (λ (o : Option ℕ). laid_by id (ops.by_tests (if long then Some 27 else None) (ops.by_tests o (changes (amends n (stored_amend bytes) ∷ []) n))) m) limited
    ∙ (laid_tests id long more (amends n (stored_amend bytes) ∷ []) n m
    ∙ ap (λ (v : Volume). if long then Err 27 else (if more then Err 109 else Ok v)) (stored_laid id n bytes m w there up)))

-- ---- a file that is made and then filled

two_at_once : (id : ℕ) (b : Bool) (d n : ℕ) (a : Amend) (x y : Vnode) (bytes : List ℕ) (v : Volume) → get d v.vnodes ≡ Some y → get n v.vnodes ≡ None → nat_eq d n ≡ false → nat_eq n d ≡ false → nat_eq v.kind 0 ≡ true → AscendsFrom 0 v.vnodes → x.kind ≡ a_file
    → called id (stores_all (record { volume = id; vnode = n; unique = v.next }) bytes) (at_once id (two b d n a x) v) ≡ filled_at_once id bytes (two b d n a x) v
two_at_once id b d n a x y bytes v there free apart other writable up kind =
    let c : ℕ = v.counter + 1 in
    let f : Vnode = record x { contents = bytes } in
    let old : Vnode = amended c a y in
    let es : List Edit = two b d n a x in
    let fs : List Edit = two b d n a f in
    let s : Table Vnode = put_two b d n old (fresh c v.next x) v.vnodes in
    let t : Table Vnode = put_two b d n old (fresh c v.next f) v.vnodes in
    let made : Volume = record v { counter = 1; vnodes = all_at_first es s; next = v.next + 1 } in
    let all : Volume = record v { counter = 1; vnodes = all_at_first fs t; next = v.next + 1 } in
    let is_made : at_once id es v ≡ made = ap (λ (u : Volume). record (counted u) { counter = 1; vnodes = all_at_first es u.vnodes }) (two_made id b d n a x y v there free apart other) in
    let is_all : at_once id fs v ≡ all = ap (λ (u : Volume). record (counted u) { counter = 1; vnodes = all_at_first fs u.vnodes }) (two_made id b d n a f y v there free apart other) in
    let up_s : AscendsFrom 0 s = two_up b d n old (fresh c v.next x) v.vnodes up in
    let up_t : AscendsFrom 0 t = two_up b d n old (fresh c v.next f) v.vnodes up in
    let z : Vnode = amended 2 (stored_amend bytes) (at_first (fresh c v.next x)) in
    let laid : set n (at_first z) (all_at_first es s) ≡ all_at_first fs t = same_laid b d n a x f old (fresh c v.next x) (fresh c v.next f) z v.vnodes up apart (filled_first 2 c v.next bytes x) in
    let found : get n (all_at_first es s) ≡ Some (at_first (fresh c v.next x)) = two_first n b d n a x old (fresh c v.next x) v.vnodes apart ∙ rw (eq-eqb n n refl, apart) refl in
    let blocks : blocks_in (set n z (all_at_first es s)) ≡ blocks_in (edited_all id fs v).vnodes =
    sym (set_blocks n z (all_at_first es s) (first_up es s up_s))
    ∙ (ap blocks_in laid ∙ (first_blocks fs t up_t ∙ ap (λ (u : Volume). blocks_in u.vnodes) (sym (two_made id b d n a f y v there free apart other)))) in
    let called_is = stored_called id n v.next bytes made (fresh c v.next x) found refl kind writable refl (first_up es s up_s) in
    ap (λ (u : Volume). called id (stores_all (record { volume = id; vnode = n; unique = v.next }) bytes) u) is_made
    ∙ (called_is ∙ rw (blocks, laid, two_filled bytes b d n a x, is_all) refl)

-- what is known of a name that is accepted
pub record Creates (d : Fid) (name : List ℕ) (v : Volume) (es : List Edit) : Type 0 where
  pub y : Vnode
  pub there : get d.vnode v.vnodes ≡ Some y
  pub writable : nat_eq v.kind 0 ≡ true
  pub is : es ≡ two (nat_lt (free_number a_file v) d.vnode) d.vnode (free_number a_file v) (record no_amend { names = Some (with_name (directory_name name (free_number a_file v) v.next) (names_in (vnode_of d v))) }) (with_status (Some nothing_set) (new_file d))

there_by : (u : ℕ) (o : Option Vnode) → is_some (if_unique u o) ≡ true → (y : Vnode) × (o ≡ Some y)
there_by u None e = absurd cc
there_by u (Some y) e = (y, refl)

pub in_order : (b : Bool) (d n : ℕ) (a : Amend) (x : Vnode) → (if b then makes n x ∷ edit_put (amends d a) [] else amends d a ∷ makes n x ∷ []) ≡ two b d n a x
in_order true d n a x = refl
in_order false d n a x = refl

changes_of : (es fs : List Edit) (n m : ℕ) → changes es n ≡ changes fs m → es ≡ fs
changes_of es fs n m e = cc

pub creates : (id : ℕ) (d : Fid) (name : List ℕ) (v : Volume) (es : List Edit) (m : ℕ) → op id all_rights (calls.CreateFile d name nothing_set) v ≡ changes es m → Creates d name v es
creates id d name v es m e =
    let a = accepted id all_rights (calls.CreateFile d name nothing_set) v es m e in
    let t = all_pass (tests all_rights (calls.CreateFile d name nothing_set) v) a.tested in
    let y = there_by d.unique (get d.vnode v.vnodes) t.0 in
    let n : ℕ = free_number a_file v in
    record {
      y = y.0;
      there = y.1;
      writable = t.1.1.0;
      is = sym (changes_of (ascending (creating d name nothing_set None (new_file d) v)) es n m a.effected) ∙ in_order (nat_lt n d.vnode) d.vnode n _ (with_status (Some nothing_set) (new_file d));
    }

pub apart_by : (d n : ℕ) (t : Table Vnode) (y : Vnode) (b : Bool) → nat_eq d n ≡ b → get d t ≡ Some y → get n t ≡ None → b ≡ false
apart_by d n t y true is there free = absurd (let z : ◌≡◌ {A = Option Vnode} (Some y) None = sym there ∙ (ap (λ (k : ℕ). get k t) (let w : d ≡ n = grind (arith, nat_tests, is) in w) ∙ free) in cc)
apart_by d n t y false is there free = refl

pub turn : (d n : ℕ) → nat_eq d n ≡ false → nat_eq n d ≡ false
turn d n e = grind (arith, nat_tests, e)

pub file_at_once : (id : ℕ) (d : Fid) (name bytes : List ℕ) (v : Volume) (es : List Edit) (m : ℕ) → IsSound v → op id all_rights (calls.CreateFile d name nothing_set) v ≡ changes es m
    → called id (stores_all (new_fid id v) bytes) (at_once id es v) ≡ filled_at_once id bytes es v
file_at_once id d name bytes v es m h e =
    let c = creates id d name v es m e in
    let n : ℕ = free_number a_file v in
    let b : Bool = nat_lt n d.vnode in
    let a : Amend = record no_amend { names = Some (with_name (directory_name name n v.next) (names_in (vnode_of d v))) } in
    let x : Vnode = with_status (Some nothing_set) (new_file d) in
    let up : AscendsFrom 0 v.vnodes = ascends_lower 0 1 v.vnodes (omega arith) h.ascending in
    let free : get n v.vnodes ≡ None = free_is_free 0 2 v.vnodes up in
    let apart : nat_eq d.vnode n ≡ false = apart_by d.vnode n v.vnodes c.y (nat_eq d.vnode n) refl c.there free in
    subst (λ (fs : List Edit). called id (stores_all (new_fid id v) bytes) (at_once id fs v) ≡ filled_at_once id bytes fs v) (sym c.is)
    (two_at_once id b d.vnode n a x c.y bytes v c.there free apart (turn d.vnode n apart) c.writable up refl)

-- Where a path leads, name by name.
use Rattle.std.proofs.Common.{◌≡◌, ℕ, suc, ◌-◌, ℤ, pos, true, List, [], ◌∷◌, Option, Some, None, Result, Ok, Err, take, length, get_or, slice_get, refl, sym, ap, subst, ◌∙◌, arith}
use Rattle.std.specs.Option.{option_map}
use Rattle.std.proofs.lemmas.Option.{slice_get-get_or}
use Rattle.afs_num.specs.declared.types.Fid.{Fid}
use Rattle.spec_shape.specs.Reading.{◌>>=◌}
use Rattle.afs_num.specs.declared.directories.Name.{Name}
use Rattle.afs_num.specs.declared.vnodes.Vnode as image
use Rattle.spec_ideal.specs.Directories.{named}
use Rattle.spec_ideal.specs.Operations.{Found, is_kind, named_vnode, number_named}
use Rattle.spec_ideal.specs.SetUp.{found_named, from_found, laid_at, laid_in, led, led_to, parted, Laid}
use Rattle.spec_ideal.specs.Tables.{get}
use Rattle.spec_ideal.specs.Volumes.{a_directory, fid_of, Volume}
use Rattle.spec_ideal.specs.Volumes as ideal
use Rattle.afs_laying.specs.Filled.{code_in, fid_in, found_seen, IsCodeOf}
use Rattle.afs_reads.specs.declared.faults.OpFault.{OpFault}
use Rattle.afs_reads.specs.declared.faults.OpFault.TheVariants as faults
use Rattle.afs_volume.specs.Seen.{seen}

step : (id : ℕ) (v : Volume) (name : List ℕ) (names : List (List ℕ)) (at : image.Vnode) → is_kind (seen at).kind a_directory ≡ true
    → led_to id v (name ∷ names) (found_seen id at) ≡ from_found (led_to id v names) (found_named id v (named name (seen at).names))
step id v name names at directory = rw directory refl

found_as : (id : ℕ) (n : ℕ) (x : image.Vnode) → x.vnode ≡ n → record { fid = fid_of id n (seen x); vnode = seen x } ≡ found_seen id x
unfolding seen
found_as id n x is = ap (λ (k : ℕ). record { fid = record { volume = id; vnode = k; unique = x.unique }; vnode = seen x }) (sym is)

goes_by : (id : ℕ) (v : Volume) (names : List (List ℕ)) (x : image.Vnode) (o : Option Name) → Some (seen x) ≡ named_vnode v o → x.vnode ≡ number_named o
    → from_found (led_to id v names) (found_named id v o) ≡ led_to id v names (found_seen id x)
goes_by id v names x None is number = absurd cc
goes_by id v names x (Some m) is number =
    ap (λ (p : Option ideal.Vnode). from_found (led_to id v names) (option_map (λ (y : ideal.Vnode). record { fid = fid_of id m.vnode y; vnode = y }) p)) (sym is)
    ∙ ap (led_to id v names) (found_as id m.vnode x number)

pub goes : (id : ℕ) (v : Volume) (name : List ℕ) (names : List (List ℕ)) (at x : image.Vnode) → is_kind (seen at).kind a_directory ≡ true → Some (seen x) ≡ named_vnode v (named name (seen at).names) → x.vnode ≡ number_named (named name (seen at).names)
    → led_to id v (name ∷ names) (found_seen id at) ≡ led_to id v names (found_seen id x)
goes id v name names at x directory is number = step id v name names at directory ∙ goes_by id v names x (named name (seen at).names) is number

pub begins : (id : ℕ) (v : Volume) (path : List (List ℕ)) (x : image.Vnode) → Some (seen x) ≡ get 1 v.vnodes → x.vnode ≡ 1 → led_to id v path (found_seen id x) ≡ led id v path
unfolding led
begins id v path x there number = rw (← there) (ap (led_to id v path) (sym (found_as id 1 x number)))

pub nowhere : (id : ℕ) (v : Volume) (path : List (List ℕ)) → None ≡ get 1 v.vnodes → led id v path ≡ Err 102
unfolding led
nowhere id v path none = rw (← none) refl

-- ---- the names before the last, and the last

some_name : (n m : List ℕ) → Some n ≡ Some m → n ≡ m
some_name n m e = cc

pub parted_is : (path : List (List ℕ)) (name : List ℕ) → slice_get path (length path - 1) ≡ Some name → parted path ≡ Some (take (length path - 1) path, name)
parted_is [] name e = absurd cc
parted_is (n ∷ []) name e = ap (λ (z : List ℕ). Some ([], z)) (some_name n name e)
parted_is (n ∷ m ∷ ns) name e =
    let k : length (n ∷ m ∷ ns) - 1 ≡ suc (length (m ∷ ns) - 1) = omega arith in
    let later = parted_is (m ∷ ns) name (subst (λ (i : ℕ). slice_get (n ∷ m ∷ ns) i ≡ Some name) k e) in
    ap (λ (o : Option (List (List ℕ) × List ℕ)). option_map (λ (p : List (List ℕ) × List ℕ). (n ∷ p.0, p.1)) o) later
    ∙ ap (λ (i : ℕ). Some (take i (n ∷ m ∷ ns), name)) (sym k)

pub parted_none : (path : List (List ℕ)) → slice_get path (length path - 1) ≡ None → parted path ≡ None
parted_none [] e = refl
parted_none (n ∷ ns) e =
    let inside = slice_get-get_or (n ∷ ns) (length (n ∷ ns) - 1) n (omega arith) in
    absurd (let z : ◌≡◌ {A = Option (List ℕ)} (Some (get_or (n ∷ ns) (length (n ∷ ns) - 1) n)) None = sym inside ∙ e in cc)

pub path_none : (id : ℕ) (path : List (List ℕ)) (x : Laid) (v : Volume) → parted path ≡ None → laid_at id path x v ≡ Err 22
unfolding laid_at
path_none id path x v is = rw is refl

led_by : (id : ℕ) (name : List ℕ) (x : Laid) (v : Volume) (d : Fid) (r : Result Found ℕ) → fid_in r ≡ Some d → (r >>= λ at. laid_in id v at.fid name x) ≡ laid_in id v d name x
led_by id name x v d (Ok found) is = ap (λ (f : Fid). laid_in id v f name x) (let z : found.fid ≡ d = cc in z)
led_by id name x v d (Err code) is = absurd cc

pub path_led : (id : ℕ) (path ds : List (List ℕ)) (name : List ℕ) (x : Laid) (v : Volume) (d : Fid) → parted path ≡ Some (ds, name) → fid_in (led id v ds) ≡ Some d → laid_at id path x v ≡ laid_in id v d name x
unfolding laid_at
path_led id path ds name x v d is found = rw is (led_by id name x v d (led id v ds) found)

refused_by : (id : ℕ) (name : List ℕ) (x : Laid) (v : Volume) (z : ℤ) (r : Result Found ℕ) → option_map pos (code_in r) ≡ Some z → option_map pos (code_in (r >>= λ at. laid_in id v at.fid name x)) ≡ Some z
refused_by id name x v z (Ok found) is = absurd cc
refused_by id name x v z (Err code) is = is

pub path_refused : (id : ℕ) (path ds : List (List ℕ)) (name : List ℕ) (x : Laid) (v : Volume) (z : ℤ) → parted path ≡ Some (ds, name) → option_map pos (code_in (led id v ds)) ≡ Some z → option_map pos (code_in (laid_at id path x v)) ≡ Some z
unfolding laid_at
path_refused id path ds name x v z is refused = rw is (refused_by id name x v z (led id v ds) refused)

pub path_refused_as : (id : ℕ) (path ds : List (List ℕ)) (name : List ℕ) (x : Laid) (v : Volume) (e : OpFault) → parted path ≡ Some (ds, name) → IsCodeOf (led id v ds) e → IsCodeOf (laid_at id path x v) e
path_refused_as id path ds name x v (faults.Code code) is h = path_refused id path ds name x v code.0 is h
path_refused_as id path ds name x v faults.OutOfMemory is h = tt

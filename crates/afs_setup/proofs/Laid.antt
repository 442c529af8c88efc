-- Volumes that set-up lays: what they are, and what the first record tells of them.
use Rattle.std.proofs.Common.{◌≡◌, ℕ, suc, ◌+◌, ◌%◌, ◌≤◌, ◌<◌, ◌^◌, Bool, true, false, not, List, [], ◌∷◌, ◌++◌, map, length, Option, Some, None, is_some, nat_eq, nat_lt, if◌then◌else◌, append_assoc, eq-eqb, refl, sym, ap, subst, ◌∙◌, arith, lit<, drop, drop-cons, get_or}
use Rattle.std.specs.Option.{option_map}
use Rattle.std.proofs.lemmas.Bool.{le-ltb}
use Rattle.std.proofs.lemmas.Bool.Decides.{nat_tests}
use Rattle.std.proofs.lemmas.List.{length-map}
use Rattle.std.specs.Prelude.{◌==◌, ◌&&◌, ℤ, pos, Result, Ok, Err}
use Rattle.std.specs.List.{list_all, AllByRecursion}
use Rattle.afs_num.specs.declared.records.RecordBody.TheVariants as bodies
use Rattle.afs_num.specs.declared.records.RecordHead.{RecordHead}
use Rattle.afs_num.specs.declared.records.StoredVolume.{StoredVolume}
use Rattle.spec_history.specs.declared.scripts.SetupLine.{SetupLine}
use Rattle.spec_history.specs.declared.scripts.VolumeLine.{VolumeLine}
use Rattle.afs_num.specs.declared.vnodes.Vnode as image
use Rattle.afs_num.specs.declared.volumes.VolumeHead.{VolumeHead}
use Rattle.afs_num.specs.Nodes.{is_between}
use Rattle.afs_xdr.specs.Words.{AreWords}
use Rattle.spec_shape.specs.Taking.{◌>>=◌}
use Rattle.spec_shape.specs.Tables.{IsVolumeKind}
use Rattle.spec_ideal.specs.Images.{image_of}
use Rattle.spec_ideal.specs.SetUp.{laid, new_volume}
use Rattle.spec_ideal.specs.SetUp as lines
use Rattle.spec_ideal.specs.Soundness.{KindFits, IsSound}
use Rattle.spec_ideal.specs.SoundnessLaws.{IsAtFirst, IsLaidOut}
use Rattle.spec_ideal.specs.Tables.{Table, get, set, AscendsFrom}
use Rattle.spec_ideal.specs.VnodeImage.{image_words, kind_fits, FitsImage}
use Rattle.spec_ideal.specs.VnodeMaps.{most_vnodes}
use Rattle.spec_ideal.specs.Volumes as ideal
use Rattle.spec_ideal.specs.Volumes.{VnodeKind, a_file, a_directory, a_link, type_of}
use Rattle.spec_ideal.proofs.Laid.{laid_out}
use Rattle.spec_ideal.proofs.Tables.{get_below}
use Rattle.spec_records.specs.Changes.{accepted, at_set_up, first_record, laid_all, no_head, record_of_volumes, stored_volume, volume_laid, volumes_laid}
use Rattle.spec_records.specs.Durable as durable
use Rattle.spec_records.specs.Durable.{Durable, Stored, by_number, most_volumes, or_zero, with_stored, with_volumes}
use Rattle.spec_records.specs.Forms.{HasImageForm}
use Rattle.spec_records.specs.Records.{are_listed, are_whole, ascend_from, head_form, listed_vnode, marked_form, volume_form, was_changed, FitsRecord}
use Rattle.afs_seats.specs.Seated.{seen_as}
use Rattle.afs_seats.proofs.Places.{set_seen}
use Rattle.afs_vnode.specs.Stores.{AreVnodes}
use Rattle.afs_laying.specs.Filled.{code_in}
use Rattle.afs_volume.specs.Giving.{volume_of}
use Rattle.afs_volume.specs.Seen.{all_seen, kind_seen, seen, volume_seen, AreReadable, FitsHead, IsReadable}
use Rattle.afs_volume.specs.Taking.{stored_of, times_in, IsAtSetUp}
use Rattle.afs_volume.specs.declared.volume.Volume.{Volume}
use Rattle.afs_volume.proofs.Imaged.{image_again}
use Rattle.afs_volstore.specs.Laying.{head_words, AreLaid, IsLaid}

-- ---- lines of a volume

pub one_line : (id : ℕ) (l : SetupLine) (ls : List SetupLine) (v w : ideal.Volume) → laid id l v ≡ Ok w → laid_all id (l ∷ ls) v ≡ laid_all id ls w
one_line id l ls v w e = ap (λ (r : Result ideal.Volume ℕ). accepted r >>= laid_all id ls) e

-- where all are accepted, the first is
pub line_passes : (id : ℕ) (ls : List SetupLine) (r : Result ideal.Volume ℕ) (c : ℤ) → is_some (accepted r >>= laid_all id ls) ≡ true → option_map pos (code_in r) ≡ Some c → ⊥
line_passes id ls (Ok v) c all e = cc
line_passes id ls (Err code) c all e = cc

-- the next line is accepted where all that are left are
pub next_passes : (id here : ℕ) (l : SetupLine) (ls rest : List SetupLine) (v : ideal.Volume) (o : Option ideal.Volume) (c : ℤ) → rest ≡ l ∷ ls → here ≡ id → laid_all id rest v ≡ o → is_some o ≡ true → option_map pos (code_in (laid here l v)) ≡ Some c → ⊥
next_passes id here l ls rest v o c first same so_far all refused =
    line_passes id ls (laid id l v) c (ap (λ (xs : List SetupLine). is_some (laid_all id xs v)) (sym first) ∙ (ap is_some so_far ∙ all)) (ap (λ (n : ℕ). option_map pos (code_in (laid n l v))) (sym same) ∙ refused)

-- and those behind it go on
pub next_line : (id here : ℕ) (l : SetupLine) (ls rest : List SetupLine) (v w : ideal.Volume) (o : Option ideal.Volume) → rest ≡ l ∷ ls → here ≡ id → laid_all id rest v ≡ o → laid here l v ≡ Ok w → laid_all id ls w ≡ o
next_line id here l ls rest v w o first same so_far is =
    sym (one_line id l ls v w (ap (λ (n : ℕ). laid n l v) (sym same) ∙ is)) ∙ (ap (λ (xs : List SetupLine). laid_all id xs v) (sym first) ∙ so_far)

by_result : (id : ℕ) (l : SetupLine) (ls : List SetupLine) (v w : ideal.Volume) (r : Result ideal.Volume ℕ) → laid id l v ≡ r → ((u : ideal.Volume) → laid_all id ls u ≡ Some w → lines.laid_all id ls u ≡ Ok w) → (accepted r >>= laid_all id ls) ≡ Some w
    → lines.laid_all id (l ∷ ls) v ≡ Ok w
by_result id l ls v w (Ok u) is later e = rw is (later u e)
by_result id l ls v w (Err code) is later e = absurd cc

all_accepted : (id : ℕ) (ls : List SetupLine) (v w : ideal.Volume) → laid_all id ls v ≡ Some w → lines.laid_all id ls v ≡ Ok w
all_accepted id [] v w e = let z : v ≡ w = cc in ap (λ (u : ideal.Volume). Ok u) z
all_accepted id (l ∷ ls) v w e = by_result id l ls v w (laid id l v) refl (λ u. all_accepted id ls u w) e

-- what is laid is sound, and was never changed
pub is_laid_out : (l : VolumeLine) (w : ideal.Volume) → volume_laid l ≡ Some w → IsLaidOut w
is_laid_out l w e = laid_out l.id l.id l.name 0 0 l.quota l.lines w (all_accepted l.id l.lines (new_volume l.id l.name 0 0 l.quota) w e)

-- ---- volumes

-- what is to come begins with the next
pub next_of : {A B : Type 0} (f : A → B) (xs : List A) (i : ℕ) (x : A) → i < length xs → x ≡ get_or xs i x → map f (drop i xs) ≡ f x ∷ map f (drop (i + 1) xs)
next_of {A} {B} f xs i x lt is =
    let more : suc i ≡ i + 1 = omega arith in
    ap (map f) (drop-cons xs i x lt) ∙ (ap (λ (y : A). f y ∷ map f (drop (suc i) xs)) (sym is) ∙ ap (λ (n : ℕ). f x ∷ map f (drop n xs)) more)

pub one_volume : (l : VolumeLine) (ls : List VolumeLine) (w : Volume) (t u : Table Volume) → volume_laid l ≡ Some (volume_of w) → IsAtSetUp w → u ≡ set l.id w t → volumes_laid (l ∷ ls) (seen_as stored_of t) ≡ volumes_laid ls (seen_as stored_of u)
one_volume l ls w t u is times put =
    ap (λ (o : Option ideal.Volume). o >>= λ v. volumes_laid ls (set l.id (at_set_up v) (seen_as stored_of t))) is
    ∙ ap (volumes_laid ls) (ap (λ (s : Stored). set l.id s (seen_as stored_of t)) (sym times) ∙ (set_seen stored_of l.id w t ∙ ap (seen_as stored_of) (sym put)))

laid_by : (ls : List VolumeLine) (f : ideal.Volume → Table Stored) (o : Option ideal.Volume) → is_some (o >>= λ v. volumes_laid ls (f v)) ≡ true → is_some o ≡ true
laid_by ls f None e = absurd cc
laid_by ls f (Some v) e = refl

-- the first line is accepted where all are
pub first_laid : (l : VolumeLine) (ls : List VolumeLine) (t : Table Stored) → is_some (volumes_laid (l ∷ ls) t) ≡ true → is_some (volume_laid l) ≡ true
first_laid l ls t e = laid_by ls (λ v. set l.id (at_set_up v) t) (volume_laid l) e

-- the next volume is accepted where all that are left are, and those behind it go on
pub next_laid : (l : VolumeLine) (ls rest : List VolumeLine) (t : Table Stored) (o : Option (Table Stored)) → rest ≡ l ∷ ls → volumes_laid rest t ≡ o → is_some o ≡ true → is_some (volume_laid l) ≡ true
next_laid l ls rest t o first so_far all = first_laid l ls t (ap (λ (xs : List VolumeLine). is_some (volumes_laid xs t)) (sym first) ∙ (ap is_some so_far ∙ all))

pub next_volume : (l : VolumeLine) (ls rest : List VolumeLine) (w : Volume) (t u : Table Volume) (o : Option (Table Stored)) → rest ≡ l ∷ ls → volumes_laid rest (seen_as stored_of t) ≡ o → volume_laid l ≡ Some (volume_of w) → IsAtSetUp w → u ≡ set l.id w t → volumes_laid ls (seen_as stored_of u) ≡ o
next_volume l ls rest w t u o first so_far is times put = sym (one_volume l ls w t u is times put) ∙ (ap (λ (xs : List VolumeLine). volumes_laid xs (seen_as stored_of t)) (sym first) ∙ so_far)

laid_with : (n : ℕ) (v : Volume) (p : ℕ × Volume) (ps rest : Table Volume) (same below : Bool) → IsLaid v → IsLaid p.1 → AreLaid ps → AreLaid rest → AreLaid (if same then (n, v) ∷ ps else (if below then (n, v) ∷ p ∷ ps else p ∷ rest))
laid_with n v p ps rest true below is own are later = (is, are)
laid_with n v p ps rest false true is own are later = (is, (own, are))
laid_with n v p ps rest false false is own are later = (own, later)

laid_set : (n : ℕ) (v : Volume) (t : Table Volume) → IsLaid v → AreLaid t → AreLaid (set n v t)
laid_set n v [] is are = (is, tt)
laid_set n v (p ∷ ps) is are = laid_with n v p ps (set n v ps) (nat_eq p.0 n) (nat_lt n p.0) is are.0 are.1 (laid_set n v ps is are.1)

pub still_laid : (n : ℕ) (v : Volume) (t u : Table Volume) → u ≡ set n v t → IsLaid v → AreLaid t → AreLaid u
still_laid n v t u e is are = subst AreLaid (sym e) (laid_set n v t is are)

-- ---- how many

longer_by : {A : Type 0} (n : ℕ) (x : A) (p : ℕ × A) (ps rest : Table A) (same below : Bool) → length rest ≤ suc (length ps) → length (if same then (n, x) ∷ ps else (if below then (n, x) ∷ p ∷ ps else p ∷ rest)) ≤ suc (suc (length ps))
longer_by {A} n x p ps rest true below le = omega arith
longer_by {A} n x p ps rest false true le = omega arith
longer_by {A} n x p ps rest false false le = omega (arith, le)

one_longer : {A : Type 0} (n : ℕ) (x : A) (t : Table A) → length (set n x t) ≤ suc (length t)
one_longer {A} n x [] = omega arith
one_longer {A} n x (p ∷ ps) = longer_by n x p ps (set n x ps) (nat_eq p.0 n) (nat_lt n p.0) (one_longer n x ps)

pub still_few : {A : Type 0} (n k : ℕ) (x : A) (t u : Table A) → u ≡ set n x t → length t ≤ k → length u ≤ k + 1
still_few {A} n k x t u put few = let z : length u ≡ length (set n x t) = ap length put in omega (arith, z, few, one_longer n x t)

taken_by : (s : StoredVolume) (ss : List StoredVolume) (d : Durable) (o : Option Stored) → is_some o ≡ true → length d.volumes + suc (length ss) ≤ most_volumes → ((e : Durable) → length e.volumes + length ss ≤ most_volumes → is_some (with_volumes ss e) ≡ true)
    → is_some (o >>= λ x. (with_stored s.head.id x d >>= with_volumes ss)) ≡ true
taken_by s ss d None is few later = absurd cc
taken_by s ss d (Some x) is few later =
    let more = one_longer s.head.id x d.volumes in
    rw (le-ltb most_volumes (length (set s.head.id x d.volumes)) (omega (arith, few, more))) (later (record d { volumes = set s.head.id x d.volumes }) (omega (arith, few, more)))

-- so few volumes are taken, where each is one that a disk may hold
pub all_taken : (ss : List StoredVolume) (d : Durable) → AllByRecursion (λ (s : StoredVolume). is_some (durable.stored_of s) ≡ true) ss → length d.volumes + length ss ≤ most_volumes → is_some (with_volumes ss d) ≡ true
all_taken [] d all few = refl
all_taken (s ∷ ss) d all few = taken_by s ss d (durable.stored_of s) all.0 few (λ e. all_taken ss e all.1)

-- ---- each item of a table

later_there : {A : Type 0} (n : ℕ) (p : ℕ × A) (ps : Table A) (y : A) (b : Bool) → nat_eq p.0 n ≡ b → AscendsFrom (p.0 + 1) ps → get n ps ≡ Some y → (if b then Some p.1 else get n ps) ≡ Some y
later_there {A} n p ps y true same up e = absurd (no (sym (get_below (p.0 + 1) n ps (grind (arith, nat_tests, same)) up) ∙ e))
  where
    no : ◌≡◌ {A = Option A} None (Some y) → ⊥
    no f = cc
later_there {A} n p ps y false same up e = e

first_there : {A : Type 0} (p : ℕ × A) (ps : Table A) → get p.0 (p ∷ ps) ≡ Some p.1
first_there {A} p ps = rw (eq-eqb p.0 p.0 refl) refl

each_got : {A : Type 0} (P : ℕ → A → Type 0) (m : ℕ) (t : Table A) → AscendsFrom m t → ((n : ℕ) (x : A) → get n t ≡ Some x → P n x) → AllByRecursion (λ (p : ℕ × A). P p.0 p.1) t
each_got {A} P m [] up all = tt
each_got {A} P m (p ∷ ps) up all = (all p.0 p.1 (first_there p ps), each_got P (p.0 + 1) ps up.1 (λ n x e. all n x (later_there n p ps x (nat_eq p.0 n) refl up.1 e)))

-- ---- images

fitting : (n : ℕ) (k : VnodeKind) (b : Bool) → (n % 2 == 1) ≡ b → KindFits n k → kind_fits n (type_of k) ≡ true
unfolding kind_fits
fitting n a_directory true is h = rw is refl
fitting n a_directory false is h = let odd : n % 2 ≡ 1 = h.0 refl in absurd (grind (arith, nat_tests, is, odd))
fitting n a_file true is h = let no : false ≡ true = h.1 (grind (arith, nat_tests, is)) in absurd cc
fitting n a_file false is h = rw is refl
fitting n a_link true is h = let no : false ≡ true = h.1 (grind (arith, nat_tests, is)) in absurd cc
fitting n a_link false is h = rw is refl

-- of a vnode that is laid
abbrev IsFirst : ℕ → ideal.Vnode → Type 0
IsFirst n x = KindFits n x.kind × (x.changed ≡ 1)

kinds_fit : (xs : List image.Vnode) → AllByRecursion (λ (p : ℕ × image.Vnode). IsReadable p.1) (by_number xs) → AllByRecursion (λ (p : ℕ × ideal.Vnode). IsFirst p.0 p.1) (all_seen (by_number xs)) → AllByRecursion (λ (x : image.Vnode). kind_fits x.vnode x.kind ≡ true) xs
unfolding seen all_seen
kinds_fit [] read first = tt
kinds_fit (x ∷ xs) read first =
    (subst (λ (k : ℕ). kind_fits x.vnode k ≡ true) read.0.0 (fitting x.vnode (kind_seen x.kind) (x.vnode % 2 == 1) refl first.0.0), kinds_fit xs read.1 first.1)

changed_by : (n : ℕ) (b : Bool) → n ≡ 1 → b ≡ true → (nat_lt 0 n && b) ≡ true
changed_by n b is e = rw (is, e) refl

all_changed : (xs : List image.Vnode) → AllByRecursion (λ (p : ℕ × ideal.Vnode). IsFirst p.0 p.1) (all_seen (by_number xs)) → list_all was_changed xs ≡ true
unfolding seen all_seen
all_changed [] first = refl
all_changed (x ∷ xs) first = changed_by x.change_counter (list_all was_changed xs) first.0.1 (all_changed xs first.1)

ascend_to : (m : ℕ) (xs : List image.Vnode) → AscendsFrom m (by_number xs) → ascend_from m xs ≡ true
ascend_to m [] up = refl
ascend_to m (x ∷ xs) up = rw (le-ltb x.vnode m up.0, ascend_to (x.vnode + 1) xs up.1) refl

all_listed : (xs : List image.Vnode) → are_listed (map listed_vnode xs) xs ≡ true
all_listed [] = refl
all_listed (x ∷ xs) = rw (eq-eqb x.vnode x.vnode refl, eq-eqb x.unique x.unique refl, all_listed xs) refl

fit_each : (xs : List image.Vnode) → AllByRecursion (λ (p : ℕ × image.Vnode). FitsImage p.1) (by_number xs) → AllByRecursion FitsImage xs
fit_each [] all = tt
fit_each (x ∷ xs) all = (all.0, fit_each xs all.1)

-- what is told of the vnodes of a volume that is laid
pub record AreTold (xs : List image.Vnode) : Type 0 where
  pub fits : AllByRecursion FitsImage xs
  pub kinds : AllByRecursion (λ (x : image.Vnode). kind_fits x.vnode x.kind ≡ true) xs
  pub changed : list_all was_changed xs ≡ true
  pub ascends : AscendsFrom 0 (by_number xs)
  pub few : length xs ≤ most_vnodes

first_of : (v : Volume) → IsLaidOut (volume_of v) → AllByRecursion (λ (p : ℕ × ideal.Vnode). IsFirst p.0 p.1) (all_seen v.vnodes.table)
first_of v out = each_got IsFirst 1 (all_seen v.vnodes.table) out.sound.ascending (λ n x e. ((out.sound.vnodes n x e).kind, (out.set_up.vnodes n x e).changed))

pub are_told : (v : Volume) (xs : List image.Vnode) (t : Table image.Vnode) → t ≡ v.vnodes.table → by_number xs ≡ t → AreVnodes t → IsLaidOut (volume_of v) → AreTold xs
are_told v xs t same is are out =
    let own : by_number xs ≡ v.vnodes.table = is ∙ same in
    let vnodes : AreVnodes (by_number xs) = subst AreVnodes (sym is) are in
    let read : AreReadable (by_number xs) = subst AreReadable (sym own) v.readable in
    let first : AllByRecursion (λ (p : ℕ × ideal.Vnode). IsFirst p.0 p.1) (all_seen (by_number xs)) =
    subst (λ (u : Table image.Vnode). AllByRecursion (λ (p : ℕ × ideal.Vnode). IsFirst p.0 p.1) (all_seen u)) (sym own) (first_of v out) in
    record {
      fits = fit_each xs vnodes.fits;
      kinds = kinds_fit xs (each_got (λ n. IsReadable) 0 (by_number xs) vnodes.ascends read) first;
      changed = all_changed xs first;
      ascends = vnodes.ascends;
      few = subst (λ (n : ℕ). n ≤ most_vnodes) (length-map xs (λ (x : image.Vnode). (x.vnode, x))) vnodes.few;
    }

-- ---- their spelling

kind_passes : (n : ℕ) → IsVolumeKind n → (if is_between 0 2 n then Some n else None) ≡ Some n
kind_passes n le = rw (let z : is_between 0 2 n ≡ true = grind (arith, nat_tests, le) in z) refl

marked : (xs : List image.Vnode) → AllByRecursion HasImageForm xs → AllByRecursion marked_form.Fits xs
marked [] all = tt
marked (x ∷ xs) all = ((((lit< tt, refl), all.0), refl), marked xs all.1)

listed_words : (xs : List image.Vnode) → AllByRecursion HasImageForm xs → AllByRecursion (λ (p : ℕ × ℕ). (p.0 < 2 ^ 32) × (p.1 < 2 ^ 32)) (map listed_vnode xs)
listed_words [] all = tt
listed_words (x ∷ xs) all = ((all.0.words.0, all.0.words.1.0), listed_words xs all.1)

whole : (xs : List image.Vnode) → AreTold xs → are_whole (map listed_vnode xs) xs ≡ true
whole xs are =
    let few : length (map listed_vnode xs) ≤ most_vnodes = subst (λ (n : ℕ). n ≤ most_vnodes) (sym (length-map xs listed_vnode)) are.few in
    rw (le-ltb most_vnodes (length (map listed_vnode xs)) few, all_listed xs, ascend_to 0 xs are.ascends, are.changed) refl

small_count : (n : ℕ) → n ≤ most_vnodes → n < 2 ^ 32
small_count n le = omega (arith, le)

small_name : (n : ℕ) → n ≤ 32 → n < 2 ^ 32
small_name n le = omega (arith, le)

pub volume_fits : (head : VolumeHead) (xs : List image.Vnode) → FitsHead head → AreWords (head_words head) → AreTold xs → AllByRecursion HasImageForm xs → volume_form.Fits (record { head = head; vnodes = xs })
unfolding volume_form
volume_fits head xs fits words are forms = (
  ((fits.name, small_name (length head.name) fits.name), (words.1.1.1.0, ((lit< tt, refl), (words.0, (words.1.0, ((words.1.1.0, kind_passes head.kind fits.kind), (words.1.1.1.1.0, (words.1.1.1.1.1.0, (words.1.1.1.1.1.1.0, (words.1.1.1.1.1.1.1.0, ((small_count (length (map listed_vnode xs)) (subst (λ (n : ℕ). n ≤ most_vnodes) (sym (length-map xs listed_vnode)) are.few), listed_words xs forms), (marked xs forms, whole xs are)))))))))))),
  refl,
)

-- ---- their times

first_time : Table ℕ → ℕ
first_time [] = 0
first_time (p ∷ ps) = p.1

later_times : Table ℕ → Table ℕ
later_times [] = []
later_times (p ∷ ps) = ps

zeros_by : (o : Option ℕ) (b : Bool) → or_zero o ≡ 0 → or_zero (if b then Some 0 else o) ≡ 0
zeros_by o true e = refl
zeros_by o false e = e

zeros : (n : ℕ) (t : Table ideal.Vnode) → or_zero (get n (map (λ (p : ℕ × ideal.Vnode). (p.0, 0)) t)) ≡ 0
zeros n [] = refl
zeros n (p ∷ ps) = zeros_by (get n (map (λ (q : ℕ × ideal.Vnode). (q.0, 0)) ps)) (nat_eq p.0 n) (zeros n ps)

images_back : (xs : List image.Vnode) (times : Table ℕ) → ((n : ℕ) → or_zero (get n times) ≡ 0) → AllByRecursion (λ (p : ℕ × image.Vnode). IsReadable p.1) (by_number xs) → times_in (by_number xs) ≡ map (λ (p : ℕ × ideal.Vnode). (p.0, 0)) (all_seen (by_number xs))
    → map (λ (p : ℕ × ideal.Vnode). image_of p.0 (or_zero (get p.0 times)) p.1) (all_seen (by_number xs)) ≡ xs
unfolding all_seen first_time later_times
images_back [] times none read at = refl
images_back (x ∷ xs) times none read at =
    let own : x.server_time ≡ 0 = ap first_time at in
    let here : image_of x.vnode (or_zero (get x.vnode times)) (seen x) ≡ x = ap (λ (t : ℕ). image_of x.vnode t (seen x)) (none x.vnode ∙ sym own) ∙ image_again x read.0 in
    ap (λ (i : image.Vnode). i ∷ map (λ (p : ℕ × ideal.Vnode). image_of p.0 (or_zero (get p.0 times)) p.1) (all_seen (by_number xs))) here
    ∙ ap (λ (is : List image.Vnode). x ∷ is) (images_back xs times none read.1 (ap later_times at))

pub is_stored : (v : Volume) (head : VolumeHead) (xs : List image.Vnode) → head ≡ v.head → by_number xs ≡ v.vnodes.table → AscendsFrom 0 (by_number xs) → IsAtSetUp v → record { head = head; vnodes = xs } ≡ stored_volume v.head.id (stored_of v)
is_stored v head xs same table up times =
    let read : AreReadable (by_number xs) = subst AreReadable (sym table) v.readable in
    let at : times_in v.vnodes.table ≡ map (λ (p : ℕ × ideal.Vnode). (p.0, 0)) (all_seen v.vnodes.table) = ap (λ (s : Stored). s.times) times in
    let none : (n : ℕ) → or_zero (get n (times_in v.vnodes.table)) ≡ 0 = λ n. ap (λ (t : Table ℕ). or_zero (get n t)) at ∙ zeros n (all_seen v.vnodes.table) in
    let images : map (λ (p : ℕ × ideal.Vnode). image_of p.0 (or_zero (get p.0 (times_in v.vnodes.table))) p.1) (all_seen v.vnodes.table) ≡ xs =
    ap (λ (t : Table image.Vnode). map (λ (p : ℕ × ideal.Vnode). image_of p.0 (or_zero (get p.0 (times_in v.vnodes.table))) p.1) (all_seen t)) (sym table)
    ∙ images_back xs (times_in v.vnodes.table) none (each_got (λ n. IsReadable) 0 (by_number xs) up read) (ap times_in table ∙ (at ∙ ap (λ (t : Table image.Vnode). map (λ (p : ℕ × ideal.Vnode). (p.0, 0)) (all_seen t)) (sym table))) in
    ap (λ (h : VolumeHead). record { head = h; vnodes = xs }) same ∙ ap (λ (is : List image.Vnode). record { head = v.head; vnodes = is }) (sym images)

-- ---- all of them

pub one_stored : (p : ℕ × Volume) (ps before : Table Volume) (all : List StoredVolume) (told : List StoredVolume) (s : StoredVolume) → before ≡ p ∷ ps → p.1.head.id ≡ p.0 → s ≡ stored_volume p.1.head.id (stored_of p.1)
    → told ++ map (λ (q : ℕ × Stored). stored_volume q.0 q.1) (seen_as stored_of before) ≡ all → (told ++ s ∷ []) ++ map (λ (q : ℕ × Stored). stored_volume q.0 q.1) (seen_as stored_of ps) ≡ all
one_stored p ps before all told s first own is so_far =
    append_assoc told (s ∷ []) (map (λ (q : ℕ × Stored). stored_volume q.0 q.1) (seen_as stored_of ps))
    ∙ (ap (λ (x : StoredVolume). told ++ x ∷ map (λ (q : ℕ × Stored). stored_volume q.0 q.1) (seen_as stored_of ps)) (is ∙ ap (λ (n : ℕ). stored_volume n (stored_of p.1)) own)
    ∙ (ap (λ (t : Table Volume). told ++ map (λ (q : ℕ × Stored). stored_volume q.0 q.1) (seen_as stored_of t)) (sym first) ∙ so_far))

-- ---- the first record

pub laid_so : (l : VolumeLine) (v : Volume) (name : List ℕ) (ls : List SetupLine) → v.head.id ≡ l.id → volume_of v ≡ new_volume l.id name 0 0 l.quota → name ≡ l.name → ls ≡ l.lines → laid_all v.head.id ls (volume_of v) ≡ volume_laid l
laid_so l v name ls id value named lines_are =
    ap (λ (n : ℕ). laid_all n ls (volume_of v)) id
    ∙ (ap (λ (u : ideal.Volume). laid_all l.id ls u) (value ∙ ap (λ (n : List ℕ). new_volume l.id n 0 0 l.quota) named)
    ∙ ap (λ (rest : List SetupLine). laid_all l.id rest (new_volume l.id l.name 0 0 l.quota)) lines_are)

pub first_is : (ls : List VolumeLine) (t : Table Stored) (h : RecordHead) (ss : List StoredVolume) → volumes_laid ls [] ≡ Some t → h ≡ no_head → ss ≡ map (λ (p : ℕ × Stored). stored_volume p.0 p.1) t → first_record ls ≡ Some (record { head = h; body = bodies.First ss })
first_is ls t h ss laid_are head told =
    ap (λ (o : Option (Table Stored)). o >>= λ u. Some (record_of_volumes u)) laid_are
    ∙ (ap (λ (k : RecordHead). Some (record { head = k; body = bodies.First (map (λ (p : ℕ × Stored). stored_volume p.0 p.1) t) })) (sym head)
    ∙ ap (λ (vs : List StoredVolume). Some (record { head = h; body = bodies.First vs })) (sym told))

told_few : (t : Table Volume) (ss : List StoredVolume) (n : ℕ) → ss ≡ map (λ (p : ℕ × Stored). stored_volume p.0 p.1) (seen_as stored_of t) → length t ≤ n → n ≤ most_volumes → length ss ≤ most_volumes
told_few t ss n told few least =
    let one : length ss ≡ length (seen_as stored_of t) = ap length told ∙ length-map (seen_as stored_of t) (λ (p : ℕ × Stored). stored_volume p.0 p.1) in
    let two : length (seen_as stored_of t) ≡ length t = length-map t (λ (p : ℕ × Volume). (p.0, stored_of p.1)) in
    omega (arith, one, two, few, least)

small_most : (n : ℕ) → n ≤ most_volumes → n < 2 ^ 32
small_most n le = omega (arith, le)

pub first_fits : (h : RecordHead) (t : Table Volume) (ss : List StoredVolume) (n : ℕ) → head_form.Fits h → ss ≡ map (λ (p : ℕ × Stored). stored_volume p.0 p.1) (seen_as stored_of t) → length t ≤ n → n ≤ most_volumes → AllByRecursion volume_form.Fits ss
    → FitsRecord (record { head = h; body = bodies.First ss })
first_fits h t ss n fits told few least all = record { head = fits; body = ((small_most (length ss) (told_few t ss n told few least), all), tt); caller = refl }

pub first_taken : (t : Table Volume) (ss : List StoredVolume) (n : ℕ) (d : Durable) → ss ≡ map (λ (p : ℕ × Stored). stored_volume p.0 p.1) (seen_as stored_of t) → length t ≤ n → n ≤ most_volumes → AllByRecursion (λ (s : StoredVolume). is_some (durable.stored_of s) ≡ true) ss
    → d.volumes ≡ [] → is_some (with_volumes ss d) ≡ true
first_taken t ss n d told few least all none = let some = told_few t ss n told few least in all_taken ss d all (let z : length d.volumes ≡ 0 = ap length none in omega (arith, z, some))

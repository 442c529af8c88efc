-- What the record of a change tells is what the change tells.
use Rattle.std.proofs.Common.{◌≡◌, ℕ, ◌+◌, ◌≤◌, ◌∷◌, ◌++◌, Bool, true, false, List, [], map, length, Option, Some, None, nat_eq, refl, sym, ap, subst, ◌∙◌, arith, if◌then◌else◌}
use Rattle.std.specs.Prelude.{nat_lt, not, ◌&&◌}
use Rattle.std.specs.List.{list_all, AllByRecursion}
use Rattle.std.proofs.lemmas.Bool.Decides.{nat_tests}
use Rattle.afs_num.specs.declared.calls.FsCall.{FsCall}
use Rattle.afs_num.specs.declared.histories.Version.{Version}
use Rattle.afs_num.specs.declared.volumes.Change.{Change}
use Rattle.spec_shape.specs.Taking.{◌>>=◌}
use Rattle.spec_ideal.specs.ChangeLaws.{by_vnode}
use Rattle.spec_ideal.specs.Images.{image_of, value_of, Image}
use Rattle.spec_ideal.specs.Operations.{changes, op, Caller, IsOn}
use Rattle.spec_ideal.specs.Soundness.{IsSound}
use Rattle.spec_ideal.specs.Tables.{get, AscendsFrom, Table}
use Rattle.spec_ideal.specs.Volumes.{edit_number, Edit, Vnode, Volume}
use Rattle.spec_ideal.proofs.Proper.{operations_change}
use Rattle.spec_ideal.proofs.Tables.{ascends_lower, get_set, get_unset}
use Rattle.spec_records.specs.Durable.{allowed, changed_stored, counted_as, is_there, versions_told, with_image, with_images, without, Stored}
use Rattle.spec_records.specs.Sound.{is_sound}
use Rattle.spec_ideal.specs.VnodeMaps.{most_vnodes}
use Rattle.afs_changes.specs.Changes.{after, IsChangeBy, IsKeptAs}
use Rattle.afs_changes.specs.Drawing.{after_edit, all_left, left_at}
use Rattle.afs_volume.specs.Giving.{volume_of}
use Rattle.afs_volume.specs.Taking.{stored_of}
use Rattle.afs_volume.specs.declared.volume.Volume as volumes
use Rattle.afs_changes.proofs.Drawn.{each_leaves, imaged, images_are, numbers_are, versions_are, LeavesIn}
use Rattle.afs_decisions.proofs.Outcomes.{outcomes_told, up_by, IsReadBack, Up}

-- ---- a disk that keeps the volume reads each image as the vnode that stands there then

some_is : {A : Type 0} (x y : A) → ◌≡◌ {A = Option A} (Some x) (Some y) → x ≡ y
some_is {A} x y e = cc

found_as : (b : Bool) (x : Vnode) (o : Option Vnode) (y : Vnode) → (if b then None else o) ≡ Some y → o ≡ Some y
found_as true x o y e = absurd cc
found_as false x o y e = e

-- what stands there without some vnodes stood there with them
stood : (ns : List ℕ) (s : Stored) (k : ℕ) (y : Vnode) → get k (without ns s).volume.vnodes ≡ Some y → get k s.volume.vnodes ≡ Some y
stood [] s k y e = e
stood (n ∷ ns) s k y e =
    found_as (nat_eq n k) y (get k s.volume.vnodes) y (sym (get_unset k n s.volume.vnodes) ∙ stood ns _ k y e)

allowed_by : (b : Bool) (s t : Stored) → (if b then Some s else None) ≡ Some t → s ≡ t
allowed_by true s t e = some_is s t e
allowed_by false s t e = absurd cc

-- the images of these vnodes, by ascending numbers, one after the other
image_put : (time n : ℕ) (x : Vnode) (o : Option Vnode) (ps : Table Vnode) (s t : Stored) → value_of (image_of n time x) ≡ o → with_images (map (imaged time) ((n, x) ∷ ps)) s ≡ Some t →
    (z : Vnode) × ((o ≡ Some z) × (with_images (map (imaged time) ps) (with_image (image_of n time x) z s) ≡ Some t))
image_put time n x None ps s t is e =
    absurd (let z : ◌≡◌ {A = Option Stored} None (Some t) = subst (λ (o : Option Vnode). (o >>= λ y. with_images (map (imaged time) ps) (with_image (image_of n time x) y s)) ≡ Some t) is e in cc)
image_put time n x (Some z) ps s t is e = (z, (refl, subst (λ (o : Option Vnode). (o >>= λ y. with_images (map (imaged time) ps) (with_image (image_of n time x) y s)) ≡ Some t) is e))

images_keep : (time k : ℕ) (ps : Table Vnode) (s t : Stored) → AscendsFrom (k + 1) ps → with_images (map (imaged time) ps) s ≡ Some t → get k t.volume.vnodes ≡ get k s.volume.vnodes
images_keep time k [] s t up e = ap (λ (u : Stored). get k u.volume.vnodes) (sym (some_is s t e))
images_keep time k (p ∷ ps) s t up e =
    let le : k + 1 ≤ p.0 = up.0 in
    let put = image_put time p.0 p.1 (value_of (image_of p.0 time p.1)) ps s t refl e in
    let other : nat_eq p.0 k ≡ false = grind (arith, nat_tests, le) in
    images_keep time k ps (with_image (image_of p.0 time p.1) put.0 s) t (ascends_lower (k + 1) (p.0 + 1) ps (omega (arith, le)) up.1) put.1.1
    ∙ (get_set k p.0 put.0 s.volume.vnodes ∙ rw other refl)

read_back : (time m : ℕ) (ps : Table Vnode) (s t : Stored) → AscendsFrom m ps → with_images (map (imaged time) ps) s ≡ Some t → AllByRecursion (λ (p : ℕ × Vnode). get p.0 t.volume.vnodes ≡ Some p.1) ps → AllByRecursion (IsReadBack time) ps
read_back time m [] s t up e all = tt
read_back time m (p ∷ ps) s t up e all =
    let put = image_put time p.0 p.1 (value_of (image_of p.0 time p.1)) ps s t refl e in
    let here : nat_eq p.0 p.0 ≡ true = grind (arith, nat_tests) in
    let stays = images_keep time p.0 ps (with_image (image_of p.0 time p.1) put.0 s) t up.1 put.1.1 ∙ (get_set p.0 p.0 put.0 s.volume.vnodes ∙ rw here refl) in
    (put.1.0 ∙ (sym stays ∙ all.0), read_back time (p.0 + 1) ps (with_image (image_of p.0 time p.1) put.0 s) t up.1 put.1.1 all.1)

kept_images_by : (b : Bool) (counter unique : ℕ) (images : List Image) (removed : List ℕ) (o : Option Stored) (s t : Stored) → with_images images s ≡ o → (if b then (o >>= λ u. allowed (without removed (counted_as counter unique u))) else None) ≡ Some t →
    (u : Stored) × ((o ≡ Some u) × (without removed (counted_as counter unique u) ≡ t))
kept_images_by false counter unique images removed o s t is e = absurd cc
kept_images_by true counter unique images removed None s t is e = absurd cc
kept_images_by true counter unique images removed (Some u) s t is e = (u, (refl, allowed_by (not (nat_lt most_vnodes (length (without removed (counted_as counter unique u)).volume.vnodes)) && is_sound (without removed (counted_as counter unique u)).volume) _ t e))

kept_images : (counter unique : ℕ) (images : List Image) (removed : List ℕ) (s t : Stored) → changed_stored counter unique images removed s ≡ Some t → (u : Stored) × ((with_images images s ≡ Some u) × (without removed (counted_as counter unique u) ≡ t))
kept_images counter unique images removed s t e =
    kept_images_by (list_all (is_there s) removed) counter unique images removed (with_images images s) s t refl e

-- ---- the vnodes that are left

left_at_one : (n : ℕ) (o : Option Vnode) (ps : Table Vnode) (after : Volume) → get n after.vnodes ≡ o → AllByRecursion (λ (p : ℕ × Vnode). get p.0 after.vnodes ≡ Some p.1) ps → AllByRecursion (λ (p : ℕ × Vnode). get p.0 after.vnodes ≡ Some p.1) (left_at n o ++ ps)
left_at_one n None ps after is all = all
left_at_one n (Some x) ps after is all = (is, all)

left_stand : (v after : Volume) (es : List Edit) → AllByRecursion (LeavesIn v after) es → AllByRecursion (λ (p : ℕ × Vnode). get p.0 after.vnodes ≡ Some p.1) (all_left v es)
left_stand v after [] left = tt
left_stand v after (e ∷ es) left = left_at_one (edit_number e) (after_edit v e) (all_left v es) after left.0 (left_stand v after es left.1)

up_at_one : (m n : ℕ) (o : Option Vnode) (ps : Table Vnode) → m ≤ n → AscendsFrom (n + 1) ps → AscendsFrom m (left_at n o ++ ps)
up_at_one m n None ps le up = ascends_lower m (n + 1) ps (omega (arith, le)) up
up_at_one m n (Some x) ps le up = (le, up)

left_up : (m : ℕ) (v : Volume) (es : List Edit) → Up m es → AscendsFrom m (all_left v es)
left_up m v [] up = tt
left_up m v (e ∷ es) up = up_at_one m (edit_number e) (after_edit v e) (all_left v es) up.0 (left_up (edit_number e + 1) v es up.1)

all_stood : (ns : List ℕ) (counter unique : ℕ) (u : Stored) (ps : Table Vnode) → AllByRecursion (λ (p : ℕ × Vnode). get p.0 (without ns (counted_as counter unique u)).volume.vnodes ≡ Some p.1) ps → AllByRecursion (λ (p : ℕ × Vnode). get p.0 u.volume.vnodes ≡ Some p.1) ps
all_stood ns counter unique u [] all = tt
all_stood ns counter unique u (p ∷ ps) all = (stood ns (counted_as counter unique u) p.0 p.1 all.0, all_stood ns counter unique u ps all.1)

-- ---- the change

pub change_told : (w : volumes.Volume) (caller : Caller) (call : FsCall) (now : ℕ) (es : List Edit) (n : ℕ) (x : Change) → IsSound (volume_of w) → IsOn w.head.id call → op w.head.id caller call (volume_of w) ≡ changes es n → IsChangeBy w now es n x → IsKeptAs w now es x →
    versions_told w.head.id x.vnodes x.removed (Some (stored_of w)) ≡ x.versions
change_told w caller call now es n x sound on e is kept =
    let v = volume_of w in
    let id : ℕ = w.head.id in
    let ch = operations_change id caller call v es n sound on e in
    let left = each_leaves id v es ch.apart ch.one in
    let told = versions_are id es v ch.apart ch.one ch.finds in
    let images : x.vnodes ≡ map (imaged now) (all_left v es) = is.vnodes ∙ images_are now v (after w es n) es left in
    let up : Up 0 es = up_by id 0 v es ch.finds (subst (λ (ws : List Version). AscendsFrom 0 (by_vnode ws)) told ch.is.ascending) in
    let put = kept_images x.counter x.unique x.vnodes x.removed (stored_of w) _ kept in
    let stand = subst (λ (u : Stored). AllByRecursion (λ (p : ℕ × Vnode). get p.0 u.volume.vnodes ≡ Some p.1) (all_left v es)) (sym put.1.1) (left_stand v (after w es n) es left) in
    let back = read_back now 0 (all_left v es) (stored_of w) put.0 (left_up 0 v es up) (subst (λ (is : List Image). with_images is (stored_of w) ≡ Some put.0) images put.1.0) (all_stood x.removed x.counter x.unique put.0 (all_left v es) stand) in
    rw (images, is.removed ∙ numbers_are v (after w es n) es left) (outcomes_told id now v es up back) ∙ (sym told ∙ sym is.versions)

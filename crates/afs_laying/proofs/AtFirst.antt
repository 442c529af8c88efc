-- Edits that are laid: what they leave, as at first, is what a disk keeps of a change.
use Rattle.std.proofs.Common.{◌≡◌, ℕ, ◌+◌, ◌≤◌, Bool, true, false, List, [], ◌∷◌, ◌++◌, map, length, Option, Some, None, nat_eq, if◌then◌else◌, refl, sym, ap, subst, ◌∙◌, arith, eq-eqb}
use Rattle.std.specs.Prelude.{◌||◌}
use Rattle.std.specs.List.{list_any, AllByRecursion}
use Rattle.std.specs.Option.{option_map}
use Rattle.std.proofs.lemmas.List.{map-append}
use Rattle.afs_num.specs.declared.directories.Name.{Name}
use Rattle.afs_num.specs.declared.vnodes.Vnode as image
use Rattle.afs_num.specs.declared.volumes.VolumeHead.{VolumeHead}
use Rattle.spec_ideal.specs.Images.{Image, acl_by, image_of, value_of}
use Rattle.spec_ideal.specs.SetUp.{all_at_first, at_first, one_at_first}
use Rattle.spec_ideal.specs.Tables.{Table, get, AscendsFrom}
use Rattle.spec_ideal.specs.VnodeImage.{FitsImage}
use Rattle.spec_ideal.specs.VnodeMaps.{most_vnodes}
use Rattle.spec_ideal.specs.Volumes.{VnodeKind, a_file, a_directory, a_link, Vnode, Volume, Edit, edited, counted, edited_all, edit_number}
use Rattle.spec_ideal.proofs.Tables.{ascends_lower}
use Rattle.spec_records.specs.Changes.{gone_between, image_left, images_left, numbers_gone, stored_between}
use Rattle.spec_records.specs.Durable.{Stored, changed_stored}
use Rattle.spec_records.proofs.Kept.{all_keep, changed_for, is_edited, same_rest}
use Rattle.spec_records.proofs.Tested.{passes}
use Rattle.afs_changes.specs.Drawing.{makes_vnode, IsLeft}
use Rattle.afs_laying.specs.Filled.{at_once, image_at_first, CanBeLaid}
use Rattle.afs_volume.specs.Giving.{volume_of}
use Rattle.afs_volume.specs.Listed.{listed_as}
use Rattle.afs_volume.specs.Seen.{seen, IsReadable}
use Rattle.afs_volume.specs.Taking.{stored_of, stored_with}
use Rattle.afs_changes.specs.declared.drafting.Draft.{Draft}
use Rattle.afs_volume.specs.declared.volume.Volume as volumes
use Rattle.afs_laying.proofs.AtOnce.{first_gets, one_up, same_bytes}
use Rattle.afs_changes.proofs.Changed.{IsDrafted}
use Rattle.afs_changes.proofs.Drawn.{each_leaves, imaged, images_are, next_is, numbers_are}
use Rattle.afs_changes.proofs.Few.{few_after, set_there}
use Rattle.afs_changes.proofs.Fitting.{each_seen_by, valued}
use Rattle.afs_changes.proofs.Imaged.{images_again}
use Rattle.afs_volume.proofs.Folded.{some_is}
use Rattle.afs_changes.proofs.Sums.{edit_order}
use Rattle.afs_changes.proofs.Values.{IsSeenOf}

-- ---- images as at first

acl_first : (k : VnodeKind) (x : Vnode) → acl_by k (at_first x) ≡ acl_by k x
acl_first a_file x = refl
acl_first a_directory x = refl
acl_first a_link x = refl

image_first : (n time : ℕ) (x : Vnode) → image_of n time (at_first x) ≡ image_at_first (image_of n time x)
image_first n time x =
    ap (λ (text : List ℕ). record (image_of n time (at_first x)) { acl = text }) (acl_first x.kind x)
    ∙ ap (λ (bytes : List ℕ). record (image_of n time (at_first x)) { acl = acl_by x.kind x; contents = bytes }) (same_bytes x.kind x)

one_image : (n time : ℕ) (o p : Option Vnode) → p ≡ option_map at_first o → image_left time n p ≡ map image_at_first (image_left time n o)
one_image n time None p is = ap (image_left time n) is
one_image n time (Some x) p is = ap (image_left time n) is ∙ ap (λ (i : Image). i ∷ []) (image_first n time x)

-- a volume has the edited vnodes of another as at first
abbrev AtFirst : Volume → Volume → List Edit → Type 0
AtFirst old new es = AllByRecursion (λ (e : Edit). get (edit_number e) new.vnodes ≡ option_map at_first (get (edit_number e) old.vnodes)) es

images_first : (time : ℕ) (es : List Edit) (old new : Volume) → AtFirst old new es → images_left time es new ≡ map image_at_first (images_left time es old)
images_first time [] old new all = refl
images_first time (e ∷ es) old new all =
    let n = edit_number e in
    ap (λ (is : List Image). is ++ images_left time es new) (one_image n time (get n old.vnodes) (get n new.vnodes) all.0)
    ∙ (ap (λ (is : List Image). map image_at_first (image_left time n (get n old.vnodes)) ++ is) (images_first time es old new all.1)
    ∙ sym (map-append image_at_first (image_left time n (get n old.vnodes)) (images_left time es old)))

one_gone : (n : ℕ) (b o p : Option Vnode) → p ≡ option_map at_first o → gone_between n b p ≡ gone_between n b o
one_gone n None None p is = ap (gone_between n None) is
one_gone n None (Some x) p is = ap (gone_between n None) is
one_gone n (Some y) None p is = ap (gone_between n (Some y)) is
one_gone n (Some y) (Some x) p is = ap (gone_between n (Some y)) is

gone_first : (es : List Edit) (before old new : Volume) → AtFirst old new es → numbers_gone es before new ≡ numbers_gone es before old
gone_first [] before old new all = refl
gone_first (e ∷ es) before old new all =
    let n = edit_number e in
    ap (λ (ns : List ℕ). ns ++ numbers_gone es before new) (one_gone n (get n before.vnodes) (get n old.vnodes) (get n new.vnodes) all.0)
    ∙ ap (λ (ns : List ℕ). gone_between n (get n before.vnodes) (get n old.vnodes) ++ ns) (gone_first es before old new all.1)

-- ---- the volume after edits, what they changed as at first

or_so : (b c : Bool) → c ≡ true → (b || c) ≡ true
or_so true c e = refl
or_so false c e = e

later_edited : (d : Edit) (ds es : List Edit) → AllByRecursion (λ (e : Edit). is_edited (edit_number e) ds ≡ true) es → AllByRecursion (λ (e : Edit). is_edited (edit_number e) (d ∷ ds) ≡ true) es
later_edited d ds [] all = tt
later_edited d ds (e ∷ es) all = (or_so (nat_eq (edit_number d) (edit_number e)) (is_edited (edit_number e) ds) all.0, later_edited d ds es all.1)

each_edited : (es : List Edit) → AllByRecursion (λ (e : Edit). is_edited (edit_number e) es ≡ true) es
each_edited [] = tt
each_edited (e ∷ es) = (rw (eq-eqb (edit_number e) (edit_number e) refl) refl, later_edited e es es (each_edited es))

each_first : (ds es : List Edit) (old new : Volume) → new.vnodes ≡ all_at_first ds old.vnodes → AllByRecursion (λ (e : Edit). is_edited (edit_number e) ds ≡ true) es → AtFirst old new es
each_first ds [] old new is all = tt
each_first ds (e ∷ es) old new is all =
    (ap (get (edit_number e)) is ∙ (first_gets (edit_number e) ds old.vnodes ∙ rw all.0 refl), each_first ds es old new is all.1)

unedited : (id k : ℕ) (es : List Edit) (v : Volume) → is_edited k es ≡ false → get k (at_once id es v).vnodes ≡ get k v.vnodes
unedited id k es v not = first_gets k es (edited_all id es v).vnodes ∙ (rw not (all_keep id k es v not))

first_seen : (x : Vnode) → IsSeenOf x → IsSeenOf (at_first x)
unfolding seen
first_seen x h = (image_at_first h.0, (h.1.0, ap at_first h.1.1))

seen_by : (o : Option Vnode) (x : Vnode) (b : Bool) → ((y : Vnode) → o ≡ Some y → IsSeenOf y) → (if b then option_map at_first o else o) ≡ Some x → IsSeenOf x
seen_by o x false all e = all x e
seen_by None x true all e = absurd cc
seen_by (Some y) x true all e = subst IsSeenOf (let z : at_first y ≡ x = cc in z) (first_seen y (all y refl))

edited_up : (id : ℕ) (es : List Edit) (v : Volume) → AscendsFrom 0 v.vnodes → AscendsFrom 0 (edited_all id es v).vnodes
edited_up id [] v up = up
edited_up id (e ∷ es) v up = edited_up id es (edited id e v).volume (edit_order id e v up)

one_size : (n : ℕ) (o : Option Vnode) (t : Table Vnode) → AscendsFrom 0 t → get n t ≡ o → length (one_at_first n o t) ≡ length t
one_size n None t up is = refl
one_size n (Some x) t up is = set_there 0 n (at_first x) x t up is

first_size : (es : List Edit) (t : Table Vnode) → AscendsFrom 0 t → length (all_at_first es t) ≡ length t
first_size [] t up = refl
first_size (e ∷ es) t up = first_size es (one_at_first (edit_number e) (get (edit_number e) t) t) (one_up (edit_number e) (get (edit_number e) t) t up) ∙ one_size (edit_number e) (get (edit_number e) t) t up refl

-- ---- what a disk keeps

rest_first : (id : ℕ) (es : List Edit) (v : Volume) → at_once id es v ≡ record v { vnodes = (at_once id es v).vnodes; counter = 1; next = (at_once id es v).next }
rest_first id es v = ap (λ (u : Volume). record u { counter = 1; vnodes = all_at_first es (edited_all id es v).vnodes }) (same_rest id es v)

pub laid_taken : (w : volumes.Volume) (es : List Edit) (d : Draft) → CanBeLaid w.head.id (volume_of w) es → IsDrafted w 0 es d
    → changed_stored 1 (at_once w.head.id es (volume_of w)).next (map image_at_first d.vnodes) d.removed (stored_of w) ≡ Some (stored_between 0 es (at_once w.head.id es (volume_of w)) (stored_of w))
laid_taken w es d can draft =
    let v = volume_of w in
    let id : ℕ = w.head.id in
    let old : Volume = counted (edited_all id es v) in
    let new : Volume = at_once id es v in
    let left = each_leaves id v es can.apart can.one in
    let up : AscendsFrom 0 v.vnodes = ascends_lower 0 1 v.vnodes (omega arith) can.sound.ascending in
    let drawn : d.vnodes ≡ images_left 0 es old = sym (images_again 0 d.vnodes draft.images) ∙ (ap (map (imaged 0)) draft.vnodes ∙ sym (images_are 0 v old es left)) in
    let gone : d.removed ≡ numbers_gone es v old = draft.removed ∙ sym (numbers_are v old es left) in
    let first : AtFirst old new es = each_first es es old new refl (each_edited es) in
    let images : map image_at_first d.vnodes ≡ images_left 0 es new = ap (map image_at_first) drawn ∙ sym (images_first 0 es old new first) in
    let numbers : d.removed ≡ numbers_gone es v new = gone ∙ sym (gone_first es v old new first) in
    let values : (n : ℕ) (x : Vnode) → get n new.vnodes ≡ Some x → value_of (image_of n 0 x) ≡ Some x =
    λ n x e. valued x n 0 (seen_by (get n old.vnodes) x (is_edited n es) (λ y k. each_seen_by w 0 es d can.apart can.one can.finds draft n y k) (sym (first_gets n es old.vnodes) ∙ e)) in
    let many = few_after id es v can.one can.fits up can.few in
    let size = first_size es (edited_all id es v).vnodes (edited_up id es v up) in
    let few : length new.vnodes ≤ most_vnodes = omega (arith, many, size) in
    rw (images, numbers) (changed_for 0 es (stored_of w) new can.sound.ascending can.laid.ascending (λ k. unedited id k es v) (rest_first id es v) values few (passes new can.laid))

pub laid_now : (w u : volumes.Volume) (es : List Edit) (d : Draft) (unique : ℕ) (xs : List image.Vnode) → CanBeLaid w.head.id (volume_of w) es → IsDrafted w 0 es d → unique ≡ (if list_any makes_vnode es then w.head.unique + 1 else w.head.unique) → xs ≡ map image_at_first d.vnodes
    → u.head ≡ w.head → u.vnodes.table ≡ w.vnodes.table → changed_stored 1 unique xs d.removed (stored_of u) ≡ Some (stored_between 0 es (at_once w.head.id es (volume_of w)) (stored_of w))
laid_now w u es d unique xs can draft next is head table =
    let same : stored_of u ≡ stored_of w = ap (λ (h : VolumeHead). stored_with h u.vnodes.table) head ∙ ap (λ (t : Table image.Vnode). stored_with w.head t) table in
    let number : unique ≡ (at_once w.head.id es (volume_of w)).next = next ∙ sym (next_is w.head.id es (volume_of w) can.apart can.one can.finds) in
    rw (same, number, is) (laid_taken w es d can draft)

pub laid_volume : (w new : volumes.Volume) (es : List Edit) → Some (stored_between 0 es (at_once w.head.id es (volume_of w)) (stored_of w)) ≡ Some (stored_of new) → volume_of new ≡ at_once w.head.id es (volume_of w)
laid_volume w new es e = sym (ap (λ (s : Stored). s.volume) (let z : stored_between 0 es (at_once w.head.id es (volume_of w)) (stored_of w) ≡ stored_of new = some_is _ _ e in z))

pub each_readable : (xs : List image.Vnode) → AllByRecursion (IsLeft 0) xs → AllByRecursion IsReadable (map image_at_first xs)
each_readable [] all = tt
each_readable (x ∷ xs) all = (all.0.readable, each_readable xs all.1)

pub each_fits : (xs : List image.Vnode) → AllByRecursion (IsLeft 0) xs → AllByRecursion FitsImage (map image_at_first xs)
each_fits [] all = tt
each_fits (x ∷ xs) all = (record { acl = all.0.fits.acl; contents = all.0.fits.contents }, each_fits xs all.1)

-- and it has the names that it had
pub listed_first : (xs : List image.Vnode) → map listed_as (map image_at_first xs) ≡ map listed_as xs
unfolding seen
listed_first [] = refl
listed_first (x ∷ xs) = ap (λ (ns : List (Option (List Name))). listed_as x ∷ ns) (listed_first xs)

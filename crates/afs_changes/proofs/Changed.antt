-- The change that the edits of an operation make of a sound volume.
use Rattle.std.proofs.Common.{◌≡◌, ℕ, ◌+◌, ◌<◌, Bool, true, false, List, [], ◌∷◌, map, Option, Some, None, refl, sym, ap, subst, ◌∙◌, ltb-true, if◌then◌else◌}
use Rattle.std.specs.Prelude.{not, nat_lt, is_some, ◌||◌}
use Rattle.std.specs.List.{list_all, list_any, AllByRecursion}
use Rattle.std.specs.Option.{option_map}
use Rattle.afs_num.specs.declared.calls.FsCall.{FsCall}
use Rattle.afs_num.specs.declared.calls.FsReply.{FsReply}
use Rattle.afs_num.specs.declared.types.Fid.{Fid}
use Rattle.afs_num.specs.declared.volumes.Change.{Change}
use Rattle.spec_ideal.specs.Operations.{Caller, changes, edit_fits, is_last_count, last_count, limits, op, IsOn}
use Rattle.spec_ideal.specs.Replies.{change_reply, stamped, vnode_at}
use Rattle.spec_ideal.specs.Soundness.{HasByKind, IsSound}
use Rattle.spec_ideal.specs.Tables.{Table, get}
use Rattle.spec_ideal.specs.Volumes.{VnodeKind, a_directory, a_file, a_link, Vnode, Volume, Amend, Edit, amends, makes, frees, amended, amends_at, makes_at, frees_at, counted, edited, edited_all, fid_of}
use Rattle.spec_ideal.proofs.Basics.{both}
use Rattle.spec_ideal.proofs.Preserved.{operations_leave_sound}
use Rattle.spec_ideal.proofs.Proper.{operations_change}
use Rattle.spec_ideal.proofs.Scopes.{accepted, all_pass}
use Rattle.spec_ideal.proofs.Tellings.{Finds, FindEach}
use Rattle.afs_changes.specs.Changes.{after, IsChangeBy, RepliesBy}
use Rattle.afs_changes.specs.Drafts.{numbers_shown, volume_drafted, IsLeftIn}
use Rattle.afs_changes.specs.Drawing.{all_freed, all_left, all_told, before_edit, makes_vnode, shown_by, with_left, CanBeDrawn, HasOwn, IsLeft, StandsAt}
use Rattle.afs_changes.specs.Planning.{edit_seen, edits_seen}
use Rattle.afs_reads.specs.Replying.{times_of, FitsReply}
use Rattle.afs_volume.specs.Giving.{volume_of}
use Rattle.afs_changes.specs.declared.drafting.Draft.{Draft}
use Rattle.afs_changes.specs.declared.edits.Edit as code
use Rattle.afs_volume.specs.declared.volume.Volume as volumes
use Rattle.afs_changes.proofs.Drawn.{counter_all, each_leaves, found_first, imaged, images_are, next_is, numbers_are, sees, versions_are, LeavesIn}
use Rattle.afs_changes.proofs.Imaged.{images_again}
use Rattle.afs_changes.proofs.Replied.{reply_fits, reply_same, stamped_left, status_same, vnode_alike, FoundAlike, SameStatus}
use Rattle.afs_changes.proofs.Left.{all_there, shown_left}

-- ---- edits that can be drawn

pub own_by : (k : VnodeKind) (x : Vnode) → HasByKind k x → HasOwn k x
own_by a_directory x h = h.contents
own_by a_file x h = (h.names, h.acl)
own_by a_link x h = (h.names, h.acl)

stands_by : (v later : Volume) (e : Edit) (o : Option Vnode) → before_edit v e ≡ o → IsSound (counted later) → LeavesIn v later e → Finds e o → StandsAt v e o
stands_by v later (amends n a) None is sound left f = tt
stands_by v later (amends n a) (Some x) is sound left f =
    own_by x.kind (amended (v.counter + 1) a x) (sound.vnodes n (amended (v.counter + 1) a x) (left ∙ ap (option_map (amended (v.counter + 1) a)) is)).body
stands_by v later (makes n x) o is sound left f = f
stands_by v later (frees n) o is sound left f = tt

each_drawn : (v later : Volume) (es : List Edit) → v.counter < last_count → IsSound (counted later) → list_all (edit_fits v) es ≡ true → AllByRecursion (LeavesIn v later) es → FindEach v es → AllByRecursion (CanBeDrawn v) es
each_drawn v later [] low sound fits left finds = tt
each_drawn v later (e ∷ es) low sound fits left finds =
    let two = both (edit_fits v e) (list_all (edit_fits v) es) fits in
    (record { counter = low; fits = two.0; stands = stands_by v later e (before_edit v e) refl sound left.0 finds.0 }, each_drawn v later es low sound two.1 left.1 finds.1)

pub not_last : (b : Bool) (n : ℕ) → nat_lt n last_count ≡ b → not (not b) ≡ true → n < last_count
not_last true n is h = ltb-true n last_count is
not_last false n is h = absurd cc

-- an accepted operation is within the limits
pub record IsWithin (v : Volume) (es : List Edit) : Type 0 where
  pub low : v.counter < last_count
  pub fits : list_all (edit_fits v) es ≡ true

pub within : (id : ℕ) (caller : Caller) (call : FsCall) (v : Volume) (es : List Edit) (n : ℕ) → op id caller call v ≡ changes es n → IsWithin v es
within id caller call v es n e =
    let passed = all_pass (limits id es v) (accepted id caller call v es n e).fits in
    let two = both (not (is_last_count v.counter)) (list_all (edit_fits v) es) passed.1.0 in
    record { low = not_last (nat_lt v.counter last_count) v.counter refl two.0; fits = two.1 }

pub counter_low : (id : ℕ) (caller : Caller) (call : FsCall) (v : Volume) (es : List Edit) (n : ℕ) → op id caller call v ≡ changes es n → v.counter < last_count
counter_low id caller call v es n e = (within id caller call v es n e).low

next_low_by : (b : Bool) (v : Volume) (e : Edit) (es : List Edit) → makes_vnode e ≡ b → edit_fits v e ≡ true → (list_any makes_vnode es ≡ true → v.next < last_count) → (b || list_any makes_vnode es) ≡ true → v.next < last_count
next_low_by true v (makes n x) es is fits more h = not_last (nat_lt v.next last_count) v.next refl (both _ _ fits).1
next_low_by true v (amends n a) es is fits more h = absurd cc
next_low_by true v (frees n) es is fits more h = absurd cc
next_low_by false v e es is fits more h = more h

pub next_low : (v : Volume) (es : List Edit) → list_all (edit_fits v) es ≡ true → list_any makes_vnode es ≡ true → v.next < last_count
next_low v [] fits h = absurd cc
next_low v (e ∷ es) fits h =
    let two = both (edit_fits v e) (list_all (edit_fits v) es) fits in
    next_low_by (makes_vnode e) v e es refl two.0 (next_low v es two.1) h

pub unique_low : (id : ℕ) (caller : Caller) (call : FsCall) (v : Volume) (es : List Edit) (n : ℕ) → op id caller call v ≡ changes es n → list_any makes_vnode es ≡ true → v.next < last_count
unique_low id caller call v es n e h = next_low v es (within id caller call v es n e).fits h

pub drawable : (id : ℕ) (caller : Caller) (call : FsCall) (v : Volume) (es : List Edit) (n : ℕ) → IsSound v → IsOn id call → op id caller call v ≡ changes es n → AllByRecursion (CanBeDrawn v) es
drawable id caller call v es n h on e =
    let w = within id caller call v es n e in
    let ch = operations_change id caller call v es n h on e in
    each_drawn v (edited_all id es v) es w.low (operations_leave_sound id caller call v es n h e).sound w.fits (each_leaves id v es ch.apart ch.one) ch.finds

-- the statuses of the reply are of vnodes that are left
pub shown_there : (id : ℕ) (caller : Caller) (call : FsCall) (v : Volume) (es : List Edit) (n : ℕ) (t : Table Vnode) → IsSound v → IsOn id call → op id caller call v ≡ changes es n → t ≡ all_left v es → AllByRecursion (IsLeftIn t) (numbers_shown n call)
shown_there id caller call v es n t h on e is =
    subst (λ (s : Table Vnode). AllByRecursion (IsLeftIn s) (numbers_shown n call)) (sym is)
    (all_there v es (numbers_shown n call) (operations_change id caller call v es n h on e).finds (shown_left id caller call v es n h e))

-- ---- the change

-- what is drafted of the edits
pub record IsDrafted (w : volumes.Volume) (now : ℕ) (es : List Edit) (d : Draft) : Type 0 where
  pub time : d.time ≡ now
  pub versions : d.versions ≡ all_told w.head.id (volume_of w) es
  pub vnodes : shown_by d.vnodes ≡ all_left (volume_of w) es
  pub removed : d.removed ≡ all_freed (volume_of w) es
  pub images : AllByRecursion (IsLeft now) d.vnodes

abbrev pub change_of : Draft → ℕ → ℕ → FsReply → Change
change_of d counter unique reply = record { versions = d.versions; vnodes = d.vnodes; removed = d.removed; counter = counter; unique = unique; reply = reply }

pub is_change : (w : volumes.Volume) (caller : Caller) (call : FsCall) (now : ℕ) (es : List Edit) (n unique : ℕ) (d : Draft) (reply : FsReply) → IsSound (volume_of w) → IsOn w.head.id call → op w.head.id caller call (volume_of w) ≡ changes es n → IsDrafted w now es d
    → unique ≡ (if list_any makes_vnode es then w.head.unique + 1 else w.head.unique) → IsChangeBy w now es n (change_of d (w.head.counter + 1) unique reply)
is_change w caller call now es n unique d reply h on e draft next =
    let v = volume_of w in
    let id : ℕ = w.head.id in
    let ch = operations_change id caller call v es n h on e in
    let left = each_leaves id v es ch.apart ch.one in
    record {
      versions = draft.versions ∙ sym (versions_are id es v ch.apart ch.one ch.finds);
      vnodes = sym (images_again now d.vnodes draft.images) ∙ (ap (map (imaged now)) draft.vnodes ∙ sym (images_are now v (after w es n) es left));
      removed = draft.removed ∙ sym (numbers_are v (after w es n) es left);
      counter = ap (λ (k : ℕ). k + 1) (sym (counter_all id es v));
      unique = next ∙ sym (next_is id es v ch.apart ch.one ch.finds);
    }

-- ---- the reply

amends_kind : (id n : ℕ) (a : Amend) (v : Volume) (o : Option Vnode) → (amends_at id n a v o).volume.kind ≡ v.kind
amends_kind id n a v None = refl
amends_kind id n a v (Some x) = refl

makes_kind : (id n : ℕ) (x : Vnode) (v : Volume) (o : Option Vnode) → (makes_at id n x v o).volume.kind ≡ v.kind
makes_kind id n x v None = refl
makes_kind id n x v (Some y) = refl

frees_kind : (id n : ℕ) (v : Volume) (o : Option Vnode) → (frees_at id n v o).volume.kind ≡ v.kind
frees_kind id n v None = refl
frees_kind id n v (Some x) = refl

one_kind : (id : ℕ) (e : Edit) (v : Volume) → (edited id e v).volume.kind ≡ v.kind
one_kind id (amends n a) v = amends_kind id n a v (get n v.vnodes)
one_kind id (makes n x) v = makes_kind id n x v (get n v.vnodes)
one_kind id (frees n) v = frees_kind id n v (get n v.vnodes)

same_kind : (id : ℕ) (es : List Edit) (v : Volume) → (edited_all id es v).kind ≡ v.kind
same_kind id [] v = refl
same_kind id (e ∷ es) v = same_kind id es (edited id e v).volume ∙ one_kind id e v

amends_release : (id n : ℕ) (a : Amend) (v : Volume) (o : Option Vnode) → (amends_at id n a v o).volume.release ≡ v.release
amends_release id n a v None = refl
amends_release id n a v (Some x) = refl

makes_release : (id n : ℕ) (x : Vnode) (v : Volume) (o : Option Vnode) → (makes_at id n x v o).volume.release ≡ v.release
makes_release id n x v None = refl
makes_release id n x v (Some y) = refl

frees_release : (id n : ℕ) (v : Volume) (o : Option Vnode) → (frees_at id n v o).volume.release ≡ v.release
frees_release id n v None = refl
frees_release id n v (Some x) = refl

one_release : (id : ℕ) (e : Edit) (v : Volume) → (edited id e v).volume.release ≡ v.release
one_release id (amends n a) v = amends_release id n a v (get n v.vnodes)
one_release id (makes n x) v = makes_release id n x v (get n v.vnodes)
one_release id (frees n) v = frees_release id n v (get n v.vnodes)

same_release : (id : ℕ) (es : List Edit) (v : Volume) → (edited_all id es v).release ≡ v.release
same_release id [] v = refl
same_release id (e ∷ es) v = same_release id es (edited id e v).volume ∙ one_release id e v

found_alike : (id : ℕ) (caller : Caller) (call : FsCall) (v : Volume) (es : List Edit) (n : ℕ) → IsSound v → IsOn id call → op id caller call v ≡ changes es n → FoundAlike (with_left (all_left v es) (all_freed v es) v) (counted (edited_all id es v))
found_alike id caller call v es n h on e =
    let ch = operations_change id caller call v es n h on e in
    record { kind = sym (same_kind id es v); release = sym (same_release id es v); vnodes = λ m. sees id es v m ch.apart ch.one ch.finds }

some_is : (o : Option Vnode) → is_some o ≡ true → (y : Vnode) × (o ≡ Some y)
some_is None h = absurd cc
some_is (Some y) h = (y, refl)

status_by : (id now : ℕ) (caller : Caller) (times : Fid → ℕ) (v w : Volume) (es : List Edit) (m : ℕ) → FoundAlike (with_left (all_left v es) (all_freed v es) v) w → IsLeftIn (all_left v es) m
    → SameStatus id caller now (stamped now (all_told id v es) times) (with_left (all_left v es) (all_freed v es) v) w m
status_by id now caller times v w es m alike left =
    let y = some_is (get m (all_left v es)) left in
    let here : vnode_at w m ≡ y.0 = sym (vnode_alike (with_left (all_left v es) (all_freed v es) v) w m alike) ∙ found_first m (all_left v es) _ y.0 y.1 in
    status_same id caller now (stamped now (all_told id v es) times) (with_left (all_left v es) (all_freed v es) v) w m alike
    (ap (λ (x : Vnode). stamped now (all_told id v es) times (fid_of id m x)) here ∙ stamped_left id now times v es m y.0 y.1)

each_status : (id now : ℕ) (caller : Caller) (times : Fid → ℕ) (v w : Volume) (es : List Edit) (ms : List ℕ) → FoundAlike (with_left (all_left v es) (all_freed v es) v) w → AllByRecursion (IsLeftIn (all_left v es)) ms
    → AllByRecursion (SameStatus id caller now (stamped now (all_told id v es) times) (with_left (all_left v es) (all_freed v es) v) w) ms
each_status id now caller times v w es [] alike left = tt
each_status id now caller times v w es (m ∷ ms) alike left = (status_by id now caller times v w es m alike left.0, each_status id now caller times v w es ms alike left.1)

reply_by : (id now : ℕ) (caller : Caller) (call : FsCall) (times : Fid → ℕ) (v : Volume) (es : List Edit) (n : ℕ) → IsSound v → IsOn id call → op id caller call v ≡ changes es n
    → change_reply id caller (λ (f : Fid). now) (with_left (all_left v es) (all_freed v es) v) n call ≡ change_reply id caller (stamped now (all_told id v es) times) (counted (edited_all id es v)) n call
reply_by id now caller call times v es n h on e =
    let alike = found_alike id caller call v es n h on e in
    reply_same id caller now (stamped now (all_told id v es) times) _ (counted (edited_all id es v)) n call alike
    (each_status id now caller times v (counted (edited_all id es v)) es (numbers_shown n call) alike (shown_there id caller call v es n (all_left v es) h on e refl))

pub replies : (w : volumes.Volume) (caller : Caller) (call : FsCall) (now : ℕ) (es : List Edit) (n counter unique : ℕ) (d : Draft) (reply : FsReply) → IsSound (volume_of w) → IsOn w.head.id call → op w.head.id caller call (volume_of w) ≡ changes es n → IsDrafted w now es d
    → change_reply w.head.id caller (λ (f : Fid). d.time) (volume_drafted d w) n call ≡ Some reply → RepliesBy w caller call now es n (change_of d counter unique reply)
replies w caller call now es n counter unique d reply h on e draft is =
    let v = volume_of w in
    let id : ℕ = w.head.id in
    let seen : change_reply id caller (λ (f : Fid). d.time) (volume_drafted d w) n call ≡ change_reply id caller (λ (f : Fid). now) (with_left (all_left v es) (all_freed v es) v) n call = rw (draft.time, draft.vnodes, draft.removed) refl in
    ap (λ ws. change_reply id caller (stamped now ws (times_of w)) (after w es n) n call) draft.versions
    ∙ (sym (reply_by id now caller call (times_of w) v es n h on e) ∙ (sym seen ∙ is))

-- and it is within its row
pub row_fits : (w : volumes.Volume) (caller : Caller) (call : FsCall) (now : ℕ) (es : List Edit) (n : ℕ) (c : Change) → RepliesBy w caller call now es n c → FitsReply c.reply
row_fits w caller call now es n c is = reply_fits w.head.id caller (stamped now c.versions (times_of w)) (after w es n) n call c.reply is

-- ---- edits of the code

pub any_seen : (es : List code.Edit) → list_any (λ (e : code.Edit). makes_vnode (edit_seen e)) es ≡ list_any makes_vnode (edits_seen es)
any_seen [] = refl
any_seen (e ∷ es) = ap (λ (b : Bool). makes_vnode (edit_seen e) || b) (any_seen es)

-- The change of an operation is one that its volume takes in.
use Rattle.std.proofs.Common.{◌≡◌, ℕ, ◌≤◌, Bool, true, false, List, [], ◌∷◌, ◌++◌, length, Option, Some, None, refl, sym, ap, subst, ◌∙◌, arith, if◌then◌else◌}
use Rattle.std.specs.Prelude.{is_some}
use Rattle.std.specs.List.{AllByRecursion}
use Rattle.afs_num.specs.declared.calls.FsCall.{FsCall}
use Rattle.afs_num.specs.declared.vnodes.Vnode as image
use Rattle.afs_num.specs.declared.volumes.Change.{Change}
use Rattle.spec_ideal.specs.Images.{image_of, value_of}
use Rattle.spec_ideal.specs.Operations.{Caller, changes, op, IsOn}
use Rattle.spec_ideal.specs.Soundness.{IsSound}
use Rattle.spec_ideal.specs.Tables.{Table, get}
use Rattle.spec_ideal.specs.VnodeImage.{FitsImage}
use Rattle.spec_ideal.specs.VnodeMaps.{most_vnodes}
use Rattle.spec_ideal.specs.Volumes.{Vnode, Edit, counted, edited_all}
use Rattle.spec_ideal.proofs.Preserved.{operations_leave_sound}
use Rattle.spec_ideal.proofs.Proper.{operations_change}
use Rattle.spec_ideal.proofs.Looks.{Distinct, MakesAs}
use Rattle.spec_ideal.proofs.Tables.{ascends_lower}
use Rattle.spec_ideal.proofs.Tellings.{FindEach}
use Rattle.spec_records.proofs.Kept.{changed_is}
use Rattle.spec_records.proofs.Tested.{passes}
use Rattle.afs_changes.specs.Changes.{IsChangeBy, IsKeptAs}
use Rattle.afs_changes.specs.Drawing.{all_freed, all_left, without, IsLeft}
use Rattle.afs_volume.specs.Giving.{volume_of}
use Rattle.afs_volume.specs.Seen.{IsReadable}
use Rattle.afs_volume.specs.Taking.{stored_of, CanTakeIn}
use Rattle.afs_changes.specs.declared.drafting.Draft.{Draft}
use Rattle.afs_volume.specs.declared.volume.Volume as volumes
use Rattle.afs_changes.proofs.Changed.{within, IsDrafted}
use Rattle.afs_changes.proofs.Drawn.{get_among, get_without, is_among, sees}
use Rattle.afs_changes.proofs.Few.{few_after}
use Rattle.afs_changes.proofs.Values.{seen_is, shown_is, value_again, IsSeenOf}

pub each_left : (P Q : image.Vnode → Type 0) (xs : List image.Vnode) → ((x : image.Vnode) → P x → Q x) → AllByRecursion P xs → AllByRecursion Q xs
each_left P Q [] f all = tt
each_left P Q (x ∷ xs) f all = (f x all.0, each_left P Q xs f all.1)

-- ---- each vnode is one that can be seen

either_by : (o p : Option Vnode) (b : Bool) (x : Vnode) → (o ≡ Some x → IsSeenOf x) → (p ≡ Some x → IsSeenOf x) → (if is_some o then o else (if b then None else p)) ≡ Some x → IsSeenOf x
either_by (Some y) p b x left other e = left e
either_by None p true x left other e = absurd cc
either_by None p false x left other e = other e

either : (n : ℕ) (s t : Table Vnode) (gone : List ℕ) (x : Vnode) → (get n s ≡ Some x → IsSeenOf x) → (get n t ≡ Some x → IsSeenOf x) → get n (s ++ without gone t) ≡ Some x → IsSeenOf x
either n s t gone x left other e =
    either_by (get n s) (get n t) (is_among gone n) x left other
    (sym (get_among n s (without gone t) ∙ ap (λ (o : Option Vnode). if is_some (get n s) then get n s else o) (get_without n gone t)) ∙ e)

pub each_seen_by : (w : volumes.Volume) (now : ℕ) (es : List Edit) (d : Draft) → Distinct es → MakesAs w.head.unique w.head.unique es → FindEach (volume_of w) es → IsDrafted w now es d
    → (m : ℕ) (x : Vnode) → get m (edited_all w.head.id es (volume_of w)).vnodes ≡ Some x → IsSeenOf x
each_seen_by w now es d apart one finds draft m x is =
    let v = volume_of w in
    let readable = each_left (IsLeft now) IsReadable d.vnodes (λ i l. l.readable) draft.images in
    either m (all_left v es) v.vnodes (all_freed v es) x
    (λ k. shown_is m d.vnodes x readable (ap (get m) draft.vnodes ∙ k))
    (λ k. seen_is m w.vnodes.table x w.readable k)
    (sees w.head.id es v m apart one finds ∙ is)

each_seen : (w : volumes.Volume) (caller : Caller) (call : FsCall) (now : ℕ) (es : List Edit) (n : ℕ) (d : Draft) → IsSound (volume_of w) → IsOn w.head.id call → op w.head.id caller call (volume_of w) ≡ changes es n → IsDrafted w now es d
    → (m : ℕ) (x : Vnode) → get m (edited_all w.head.id es (volume_of w)).vnodes ≡ Some x → IsSeenOf x
each_seen w caller call now es n d h on e draft m x is =
    let ch = operations_change w.head.id caller call (volume_of w) es n h on e in
    each_seen_by w now es d ch.apart ch.one ch.finds draft m x is

pub valued : (x : Vnode) (n time : ℕ) → IsSeenOf x → value_of (image_of n time x) ≡ Some x
valued x n time s = subst (λ (y : Vnode). value_of (image_of n time y) ≡ Some y) s.1.1 (value_again s.0 s.1.0 n time)

-- ---- the change

pub is_kept : (w : volumes.Volume) (caller : Caller) (call : FsCall) (now : ℕ) (es : List Edit) (n : ℕ) (d : Draft) (c : Change) → IsSound (volume_of w) → IsOn w.head.id call → op w.head.id caller call (volume_of w) ≡ changes es n → length (volume_of w).vnodes ≤ most_vnodes
    → IsDrafted w now es d → IsChangeBy w now es n c → IsKeptAs w now es c
is_kept w caller call now es n d c h on e few draft is =
    let v = volume_of w in
    let id : ℕ = w.head.id in
    let ch = operations_change id caller call v es n h on e in
    let sound = (operations_leave_sound id caller call v es n h e).sound in
    rw (is.counter, is.unique, is.vnodes, is.removed)
    (changed_is id now es (stored_of w) h.ascending sound.ascending (λ m x k. valued x m now (each_seen w caller call now es n d h on e draft m x k))
    (few_after id es v ch.one (within id caller call v es n e).fits (ascends_lower 0 1 v.vnodes (omega arith) h.ascending) few) (passes (counted (edited_all id es v)) sound))

pub can_take : (w : volumes.Volume) (now : ℕ) (es : List Edit) (d : Draft) (c : Change) → IsDrafted w now es d → c.vnodes ≡ d.vnodes → IsKeptAs w now es c → CanTakeIn w c
can_take w now es d c draft same kept = record {
  taken = rw kept refl;
  read = rw same (each_left (IsLeft now) IsReadable d.vnodes (λ i l. l.readable) draft.images);
  fits = rw same (each_left (IsLeft now) FitsImage d.vnodes (λ i l. l.fits) draft.images);
}

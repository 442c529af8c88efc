-- Several statuses: all are shown, or the first that is refused decides.
use Rattle.std.proofs.Common.{◌≡◌, ◌<◌, ◌≤◌, ◌++◌, ℕ, zero, suc, List, [], ◌∷◌, Option, Some, None, true, is_some, map, take, length, get_or, refl, ap, subst, arith, pos, ℤ}
use Rattle.std.specs.List.{AllByRecursion}
use Rattle.std.specs.Option.{option_map}
use Rattle.afs_num.specs.declared.types.Fid.{Fid}
use Rattle.spec_ideal.specs.Operations.{Caller, Found, Result, limited, refused, reads, shows_statuses, changes, no_operation, one_more, shows_several}
use Rattle.spec_ideal.specs.Replies.{found_status, reading_reply, vnode_or_none}
use Rattle.spec_ideal.specs.Volumes.{Vnode, Volume, vnode_of}
use Rattle.afs_num.specs.declared.calls.AfsCallBack.{AfsCallBack}
use Rattle.afs_num.specs.declared.calls.AfsFetchStatus.{AfsFetchStatus}
use Rattle.afs_num.specs.declared.calls.AfsVolSync.{AfsVolSync}
use Rattle.afs_num.specs.declared.calls.FsReply.{FsReply}
use Rattle.afs_num.specs.declared.calls.FsReply.TheVariants as replies
use Rattle.spec_shape.specs.Rows.{no_callback}
use Rattle.afs_reads.specs.Bulk.{refusal_at, IsShown, IsRefusal, found_of, status_seen, sync_beside}
use Rattle.afs_reads.specs.Replying.{refusal_of, reply_of, times_of}
use Rattle.afs_volume.specs.Giving.{volume_of}
use Rattle.afs_reads.specs.declared.faults.OpFault.{OpFault}
use Rattle.afs_reads.specs.declared.faults.OpFault.TheVariants as faults
use Rattle.afs_volume.specs.declared.volume.Volume as volumes

shown_by : (f : Fid) (t : Option ℕ) (o : Option Vnode) (r : Result) (xs : List Found) → t ≡ None → is_some o ≡ true → r ≡ reads (shows_statuses xs) → one_more f t o r ≡ reads (shows_statuses (record { fid = f; vnode = vnode_or_none o } ∷ xs))
shown_by f t None r xs passes there is = absurd cc
shown_by f t (Some x) r xs passes there is = rw (passes, is) refl

pub all_shown : (caller : Caller) (v : Volume) (fs : List Fid) → AllByRecursion (λ (f : Fid). IsShown caller v f) fs → shows_several caller v fs ≡ reads (shows_statuses (map (λ (f : Fid). found_of v f) fs))
all_shown caller v [] all = refl
all_shown caller v (f ∷ fs) all =
    shown_by f (refusal_at caller v f) (vnode_of f v) (shows_several caller v fs) (map (λ (g : Fid). found_of v g) fs) all.0.passes all.0.there (all_shown caller v fs all.1)

first_by : (f : Fid) (t : Option ℕ) (o : Option Vnode) (r : Result) (z : ℤ) → option_map pos t ≡ Some z → option_map pos (refusal_of (one_more f t o r)) ≡ Some z
first_by f None o r z is = absurd cc
first_by f (Some code) o r z is = is

later_by : (f : Fid) (t : Option ℕ) (o : Option Vnode) (r : Result) (z : ℤ) → t ≡ None → is_some o ≡ true → option_map pos (refusal_of r) ≡ Some z → option_map pos (refusal_of (one_more f t o r)) ≡ Some z
later_by f t None r z passes there is = absurd cc
later_by f t (Some x) (refused code) z passes there is = rw passes is
later_by f t (Some x) (reads shown) z passes there is = absurd cc
later_by f t (Some x) (changes es n) z passes there is = absurd cc
later_by f t (Some x) no_operation z passes there is = absurd cc

pub refused_at : (caller : Caller) (v : Volume) (fs : List Fid) (i : ℕ) (f : Fid) (z : ℤ) → i < length fs → (d : Fid) → f ≡ get_or fs i d → AllByRecursion (λ (g : Fid). IsShown caller v g) (take i fs) → option_map pos (refusal_at caller v f) ≡ Some z → option_map pos (refusal_of (shows_several caller v fs)) ≡ Some z
refused_at caller v [] i f z lt d is all refusal = absurd (omega (arith, lt))
refused_at caller v (g ∷ fs) zero f z lt d is all refusal =
    first_by g (refusal_at caller v g) (vnode_of g v) (shows_several caller v fs) z (subst (λ (h : Fid). option_map pos (refusal_at caller v h) ≡ Some z) is refusal)
refused_at caller v (g ∷ fs) (suc i) f z lt d is all refusal =
    later_by g (refusal_at caller v g) (vnode_of g v) (shows_several caller v fs) z all.0.passes all.0.there (refused_at caller v fs i f z (omega (arith, lt)) d is all.1 refusal)

pub map_twice : {A B C : Type 0} (g : B → C) (h : A → B) (xs : List A) → map g (map h xs) ≡ map (λ (x : A). g (h x)) xs
map_twice {A} {B} {C} g h [] = refl
map_twice {A} {B} {C} g h (x ∷ xs) = ap (λ (t : List C). g (h x) ∷ t) (map_twice g h xs)

pub refused_all : (caller : Caller) (v : Volume) (fs : List Fid) (i : ℕ) (f : Fid) (e : OpFault) → i < length fs → (d : Fid) → f ≡ get_or fs i d → AllByRecursion (λ (g : Fid). IsShown caller v g) (take i fs) → IsRefusal (refusal_at caller v f) e → IsRefusal (refusal_of (shows_several caller v fs)) e
refused_all caller v fs i f (faults.Code code) lt d is all refusal = refused_at caller v fs i f code.0 lt d is all refusal
refused_all caller v fs i f faults.OutOfMemory lt d is all refusal = tt

bulk_reply : (caller : Caller) (w : volumes.Volume) (fids : List Fid) → reading_reply w.head.id caller (times_of w) (volume_of w) (shows_statuses (map (λ (f : Fid). found_of (volume_of w) f) fids)) ≡ replies.BulkStatus (map (λ (f : Fid). status_seen caller w f) fids) (map (λ (f : Fid). no_callback) fids) (sync_beside (volume_of w) fids)
bulk_reply caller w [] = refl
bulk_reply caller w (f ∷ fs) =
    rw (map_twice (λ (g : Found). found_status caller (volume_of w) (times_of w) g) (λ (g : Fid). found_of (volume_of w) g) fs, map_twice (λ (g : Found). no_callback) (λ (g : Fid). found_of (volume_of w) g) fs) refl

pub bulk_replied : (caller : Caller) (w : volumes.Volume) (fids : List Fid) (r : Result) (ss : List AfsFetchStatus) (cs : List AfsCallBack) (sync : AfsVolSync) → r ≡ reads (shows_statuses (map (λ (f : Fid). found_of (volume_of w) f) fids))
    → ss ≡ map (λ (f : Fid). status_seen caller w f) fids → cs ≡ map (λ (f : Fid). no_callback) fids → sync ≡ sync_beside (volume_of w) fids → reply_of caller w (limited w.head.id (volume_of w) r) ≡ Some (replies.BulkStatus ss cs sync)
bulk_replied caller w fids r ss cs sync is told called beside = rw (is, told, called, beside) (ap (λ (x : FsReply). Some x) (bulk_reply caller w fids))

pub all_taken : (P : Fid → Type 0) (i : ℕ) (fs : List Fid) → length fs ≤ i → AllByRecursion P (take i fs) → AllByRecursion P fs
all_taken P i [] le all = tt
all_taken P zero (f ∷ fs) le all = absurd (omega (arith, le))
all_taken P (suc i) (f ∷ fs) le all = (all.0, all_taken P i fs (omega (arith, le)) all.1)

pub one_more_same : {B : Type 0} (b : B) (i k : ℕ) (fs : List Fid) → k ≡ suc i → i < length fs → map (λ (f : Fid). b) (take k fs) ≡ map (λ (f : Fid). b) (take i fs) ++ b ∷ []
one_more_same {B} b i k [] next lt = absurd (omega (arith, lt))
one_more_same {B} b zero k (f ∷ fs) next lt = rw next refl
one_more_same {B} b (suc i) k (f ∷ fs) next lt = rw next (ap (λ (t : List B). b ∷ t) (one_more_same b i (suc i) fs refl (omega (arith, lt))))

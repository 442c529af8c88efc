-- A change that a volume makes has a record: its images are within their limits, and its reply is short.
use Rattle.std.proofs.Common.{◌≡◌, ◌≤◌, ◌<◌, ◌^◌, ◌%◌, ℕ, ◌+◌, Bool, true, false, List, [], ◌∷◌, ◌++◌, length, Option, Some, None, refl, sym, subst, arith}
use Rattle.std.specs.Prelude.{◌==◌}
use Rattle.std.specs.List.{AllByRecursion}
use Rattle.std.proofs.lemmas.Bool.Decides.{nat_tests}
use Rattle.std.proofs.lemmas.List.{length-append}
use Rattle.afs_num.specs.declared.calls.FsCall.{FsCall}
use Rattle.afs_num.specs.declared.calls.FsCall.TheVariants as calls
use Rattle.afs_num.specs.declared.calls.FsReply.{FsReply}
use Rattle.afs_num.specs.declared.histories.Version.{Version}
use Rattle.afs_num.specs.declared.types.Fid.{Fid}
use Rattle.afs_num.specs.declared.volumes.Change as made
use Rattle.spec_ideal.specs.Images.{Image}
use Rattle.spec_ideal.specs.Operations.{changes, op, Caller, IsOn}
use Rattle.spec_ideal.specs.Replies.{change_reply}
use Rattle.spec_ideal.specs.Soundness.{IsSound, KindFits}
use Rattle.spec_ideal.specs.Tables.{get}
use Rattle.spec_ideal.specs.VnodeImage.{kind_fits}
use Rattle.spec_ideal.specs.Volumes.{a_directory, a_file, a_link, amends, amends_at, edited, edit_number, frees, frees_at, makes, makes_at, type_of, versions_by, Amend, Edit, VnodeKind, Vnode, Volume}
use Rattle.spec_ideal.proofs.Preserved.{operations_leave_sound}
use Rattle.spec_ideal.proofs.Proper.{operations_change}
use Rattle.spec_records.specs.Changes.{gone_between, image_left, images_left, numbers_gone}
use Rattle.afs_changes.specs.Changes.{after, IsChangeBy}
use Rattle.afs_volume.specs.Giving.{volume_of}
use Rattle.afs_volume.specs.Taking.{CanTakeIn}
use Rattle.afs_volume.specs.declared.volume.Volume as volumes
use Rattle.afs_callbacks.specs.Saving.{CanBeWritten, HasKind, IsChanged}

-- ---- kinds

fitting : (n : ℕ) (k : VnodeKind) (b : Bool) → (n % 2 == 1) ≡ b → KindFits n k → kind_fits n (type_of k) ≡ true
unfolding kind_fits
fitting n a_directory true is h = rw is refl
fitting n a_directory false is h = let odd : n % 2 ≡ 1 = h.0 refl in absurd (grind (arith, nat_tests, is, odd))
fitting n a_file true is h = let no : false ≡ true = h.1 (grind (arith, nat_tests, is)) in absurd cc
fitting n a_file false is h = rw is refl
fitting n a_link true is h = let no : false ≡ true = h.1 (grind (arith, nat_tests, is)) in absurd cc
fitting n a_link false is h = rw is refl

kind_more : (now n : ℕ) (o : Option Vnode) (is : List Image) → ((x : Vnode) → o ≡ Some x → KindFits n x.kind) → AllByRecursion HasKind is → AllByRecursion HasKind (image_left now n o ++ is)
kind_more now n None is h all = all
kind_more now n (Some x) is h all = (fitting n x.kind (n % 2 == 1) refl (h x refl), all)

kinds_left : (now : ℕ) (es : List Edit) (v : Volume) → IsSound v → AllByRecursion HasKind (images_left now es v)
kinds_left now [] v sound = tt
kinds_left now (e ∷ es) v sound = kind_more now (edit_number e) (get (edit_number e) v.vnodes) (images_left now es v) (λ x is. (sound.vnodes (edit_number e) x is).kind) (kinds_left now es v sound)

-- ---- how many there are

one_image : (now n k : ℕ) (o : Option Vnode) (is : List Image) → length is ≤ k → length (image_left now n o ++ is) ≤ k + 1
one_image now n k None is le = omega (arith, le)
one_image now n k (Some x) is le = omega (arith, le)

few_images : (now : ℕ) (es : List Edit) (v : Volume) → length (images_left now es v) ≤ length es
few_images now [] v = omega arith
few_images now (e ∷ es) v =
    let one = one_image now (edit_number e) (length es) (get (edit_number e) v.vnodes) (images_left now es v) (few_images now es v) in
    omega (arith, one)

one_number : (n k : ℕ) (o p : Option Vnode) (ns : List ℕ) → length ns ≤ k → length (gone_between n o p ++ ns) ≤ k + 1
one_number n k None None ns le = omega (arith, le)
one_number n k None (Some y) ns le = omega (arith, le)
one_number n k (Some x) None ns le = omega (arith, le)
one_number n k (Some x) (Some y) ns le = omega (arith, le)

few_numbers : (es : List Edit) (v w : Volume) → length (numbers_gone es v w) ≤ length es
few_numbers [] v w = omega arith
few_numbers (e ∷ es) v w =
    let one = one_number (edit_number e) (length es) (get (edit_number e) v.vnodes) (get (edit_number e) w.vnodes) (numbers_gone es v w) (few_numbers es v w) in
    omega (arith, one)

amends_one : (id n : ℕ) (a : Amend) (v : Volume) (o : Option Vnode) → length (amends_at id n a v o).versions ≤ 1
amends_one id n a v None = omega arith
amends_one id n a v (Some x) = omega arith

makes_one : (id n : ℕ) (x : Vnode) (v : Volume) (o : Option Vnode) → length (makes_at id n x v o).versions ≤ 1
makes_one id n x v None = omega arith
makes_one id n x v (Some y) = omega arith

frees_one : (id n : ℕ) (v : Volume) (o : Option Vnode) → length (frees_at id n v o).versions ≤ 1
frees_one id n v None = omega arith
frees_one id n v (Some x) = omega arith

one_version : (id : ℕ) (e : Edit) (v : Volume) → length (edited id e v).versions ≤ 1
one_version id (amends n a) v = amends_one id n a v (get n v.vnodes)
one_version id (makes n x) v = makes_one id n x v (get n v.vnodes)
one_version id (frees n) v = frees_one id n v (get n v.vnodes)

pub few_versions : (id : ℕ) (es : List Edit) (v : Volume) → length (versions_by id es v) ≤ length es
few_versions id [] v = omega arith
few_versions id (e ∷ es) v =
    let one = one_version id e v in
    let rest = few_versions id es (edited id e v).volume in
    let all = length-append (edited id e v).versions (versions_by id es (edited id e v).volume) in
    omega (arith, one, rest, all)

-- ---- the reply

one_changed : (q r : FsReply) → Some q ≡ Some r → IsChanged q → IsChanged r
one_changed q r e h = subst IsChanged (let z : q ≡ r = cc in z) h

reply_changed : (id : ℕ) (caller : Caller) (times : Fid → ℕ) (v : Volume) (n : ℕ) (call : FsCall) (reply : FsReply) → change_reply id caller times v n call ≡ Some reply → IsChanged reply
reply_changed id caller times v n (calls.StoreData f status position stored file_length contents) reply e = one_changed _ reply e tt
reply_changed id caller times v n (calls.StoreAcl f acl) reply e = one_changed _ reply e tt
reply_changed id caller times v n (calls.StoreStatus f status) reply e = one_changed _ reply e tt
reply_changed id caller times v n (calls.RemoveFile d name) reply e = one_changed _ reply e tt
reply_changed id caller times v n (calls.CreateFile d name status) reply e = one_changed _ reply e tt
reply_changed id caller times v n (calls.Rename d old f new) reply e = one_changed _ reply e tt
reply_changed id caller times v n (calls.Symlink d name target status) reply e = one_changed _ reply e tt
reply_changed id caller times v n (calls.Link d name f) reply e = one_changed _ reply e tt
reply_changed id caller times v n (calls.MakeDir d name status) reply e = one_changed _ reply e tt
reply_changed id caller times v n (calls.RemoveDir d name) reply e = one_changed _ reply e tt
reply_changed id caller times v n call reply e = absurd cc

-- ---- the change

pub can_be_written : (w : volumes.Volume) (caller : Caller) (call : FsCall) (now : ℕ) (es : List Edit) (n : ℕ) (x : made.Change) (times : Fid → ℕ) → IsSound (volume_of w) → IsOn w.head.id call → op w.head.id caller call (volume_of w) ≡ changes es n
    → IsChangeBy w now es n x → change_reply w.head.id caller times (after w es n) n call ≡ Some x.reply → CanTakeIn w x → CanBeWritten x
can_be_written w caller call now es n x times sound on is change reply takes =
    let v = volume_of w in
    let few = (operations_change w.head.id caller call v es n sound on is).few in
    let images = few_images now es (after w es n) in
    let numbers = few_numbers es v (after w es n) in
    let versions = few_versions w.head.id es v in
    record {
      few_versions = subst (λ (vs : List Version). length vs < 2 ^ 32) (sym change.versions) (omega (arith, few, versions));
      few = subst (λ (is : List Image). length is < 2 ^ 32) (sym change.vnodes) (omega (arith, few, images));
      few_removed = subst (λ (ns : List ℕ). length ns < 2 ^ 32) (sym change.removed) (omega (arith, few, numbers));
      images = takes.fits;
      kinds = subst (AllByRecursion HasKind) (sym change.vnodes) (kinds_left now es (after w es n) (operations_leave_sound w.head.id caller call v es n sound is).sound);
      reply = reply_changed w.head.id caller times (after w es n) n call x.reply reply;
    }

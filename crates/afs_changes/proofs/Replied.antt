-- The reply to a change: by what the change leaves, as by the volume after it.
use Rattle.std.proofs.Common.{◌≡◌, ℕ, Bool, true, false, List, [], ◌∷◌, ◌++◌, Option, Some, None, refl, sym, ap, subst, ◌∙◌, eqb-true, eq-eqb, if◌then◌else◌}
use Rattle.std.specs.Prelude.{nat_eq}
use Rattle.std.specs.List.{AllByRecursion}
use Rattle.afs_num.specs.Fids.{same_fid}
use Rattle.afs_num.specs.declared.calls.FsCall.{FsCall}
use Rattle.afs_num.specs.declared.calls.FsCall.TheVariants as calls
use Rattle.afs_num.specs.declared.calls.FsReply.{FsReply}
use Rattle.afs_num.specs.declared.histories.Version.{Version}
use Rattle.afs_num.specs.declared.types.Fid.{Fid}
use Rattle.spec_ideal.specs.Operations.{Caller, acl_of, list_for}
use Rattle.spec_ideal.specs.Replies.{change_reply, stamped, vnode_status, status_of, sync_of, vnode_at, vnode_or_none}
use Rattle.spec_ideal.specs.Tables.{Table, get}
use Rattle.spec_ideal.specs.Volumes.{VnodeKind, a_directory, a_file, a_link, Vnode, Volume, Edit, fid_of, edit_number}
use Rattle.afs_changes.specs.Drafts.{numbers_shown}
use Rattle.afs_reads.specs.Replying.{FitsReply}
use Rattle.afs_changes.specs.Drawing.{after_edit, all_left, all_told, before_edit, left_at, told_between}

-- ---- volumes that are found alike

pub record FoundAlike (v w : Volume) : Type 0 where
  pub kind : v.kind ≡ w.kind
  pub release : v.release ≡ w.release
  pub vnodes : (m : ℕ) → get m v.vnodes ≡ get m w.vnodes

list_alike : (k : VnodeKind) (x : Vnode) (v w : Volume) → FoundAlike v w → list_for k x v ≡ list_for k x w
list_alike a_directory x v w h = refl
list_alike a_file x v w h = ap acl_of (h.vnodes x.parent)
list_alike a_link x v w h = ap acl_of (h.vnodes x.parent)

status_alike : (caller : Caller) (time : ℕ) (x : Vnode) (v w : Volume) → FoundAlike v w → status_of caller v time x ≡ status_of caller w time x
status_alike caller time x v w h = rw (list_alike x.kind x v w h) refl

pub sync_alike : (v w : Volume) → FoundAlike v w → sync_of v ≡ sync_of w
sync_alike v w h = rw (h.kind, h.release) refl

pub vnode_alike : (v w : Volume) (n : ℕ) → FoundAlike v w → vnode_at v n ≡ vnode_at w n
vnode_alike v w n h = ap vnode_or_none (h.vnodes n)

-- the status of a vnode that was changed at this time
pub status_same : (id : ℕ) (caller : Caller) (now : ℕ) (times : Fid → ℕ) (v w : Volume) (n : ℕ) → FoundAlike v w → times (fid_of id n (vnode_at w n)) ≡ now → vnode_status id caller (λ (f : Fid). now) v n ≡ vnode_status id caller times w n
status_same id caller now times v w n h time =
    ap (status_of caller v now) (vnode_alike v w n h)
    ∙ (status_alike caller now (vnode_at w n) v w h ∙ ap (λ (t : ℕ). status_of caller w t (vnode_at w n)) (sym time))

-- ---- the reply

-- it has nothing that a message limits
one_fits : (q r : FsReply) → Some q ≡ Some r → FitsReply q → FitsReply r
one_fits q r e h = subst FitsReply (let z : q ≡ r = cc in z) h

pub reply_fits : (id : ℕ) (caller : Caller) (times : Fid → ℕ) (v : Volume) (n : ℕ) (call : FsCall) (r : FsReply) → change_reply id caller times v n call ≡ Some r → FitsReply r
reply_fits id caller times v n (calls.StoreData f status position stored file_length contents) r e = one_fits _ r e tt
reply_fits id caller times v n (calls.StoreAcl f acl) r e = one_fits _ r e tt
reply_fits id caller times v n (calls.StoreStatus f status) r e = one_fits _ r e tt
reply_fits id caller times v n (calls.RemoveFile d name) r e = one_fits _ r e tt
reply_fits id caller times v n (calls.RemoveDir d name) r e = one_fits _ r e tt
reply_fits id caller times v n (calls.CreateFile d name status) r e = one_fits _ r e tt
reply_fits id caller times v n (calls.Symlink d name target status) r e = one_fits _ r e tt
reply_fits id caller times v n (calls.MakeDir d name status) r e = one_fits _ r e tt
reply_fits id caller times v n (calls.Link d name f) r e = one_fits _ r e tt
reply_fits id caller times v n (calls.Rename d old e new) r is = one_fits _ r is tt
reply_fits id caller times v n call r e = absurd cc

abbrev pub SameStatus : ℕ → Caller → ℕ → (Fid → ℕ) → Volume → Volume → ℕ → Type 0
SameStatus id caller now times v w m = vnode_status id caller (λ (f : Fid). now) v m ≡ vnode_status id caller times w m

pub reply_same : (id : ℕ) (caller : Caller) (now : ℕ) (times : Fid → ℕ) (v w : Volume) (n : ℕ) (call : FsCall) → FoundAlike v w → AllByRecursion (SameStatus id caller now times v w) (numbers_shown n call) → change_reply id caller (λ (f : Fid). now) v n call ≡ change_reply id caller times w n call
reply_same id caller now times v w n (calls.StoreData f status position stored file_length contents) h s = rw (s.0, sync_alike v w h) refl
reply_same id caller now times v w n (calls.StoreAcl f acl) h s = rw (s.0, sync_alike v w h) refl
reply_same id caller now times v w n (calls.StoreStatus f status) h s = rw (s.0, sync_alike v w h) refl
reply_same id caller now times v w n (calls.RemoveFile d name) h s = rw (s.0, sync_alike v w h) refl
reply_same id caller now times v w n (calls.RemoveDir d name) h s = rw (s.0, sync_alike v w h) refl
reply_same id caller now times v w n (calls.CreateFile d name status) h s = rw (s.0, s.1.0, sync_alike v w h, vnode_alike v w n h) refl
reply_same id caller now times v w n (calls.Symlink d name target status) h s = rw (s.0, s.1.0, sync_alike v w h, vnode_alike v w n h) refl
reply_same id caller now times v w n (calls.MakeDir d name status) h s = rw (s.0, s.1.0, sync_alike v w h, vnode_alike v w n h) refl
reply_same id caller now times v w n (calls.Link d name f) h s = rw (s.0, s.1.0, sync_alike v w h) refl
reply_same id caller now times v w n (calls.Rename d old e new) h s = rw (s.0, s.1.0, sync_alike v w h) refl
reply_same id caller now times v w n call h s = refl

-- ---- times

fid_same : (f : Fid) → same_fid f f ≡ true
fid_same f = rw (eq-eqb f.volume f.volume refl, eq-eqb f.vnode f.vnode refl, eq-eqb f.unique f.unique refl) refl

either : (b : Bool) (now rest : ℕ) → rest ≡ now → (if b then now else rest) ≡ now
either true now rest is = refl
either false now rest is = is

told_more : (id n now : ℕ) (o p : Option Vnode) (ws : List Version) (times : Fid → ℕ) (f : Fid) → stamped now ws times f ≡ now → stamped now (told_between id n o p ++ ws) times f ≡ now
told_more id n now o (Some x) ws times f h = either (same_fid (fid_of id n x) f) now (stamped now ws times f) h
told_more id n now (Some x) None ws times f h = either (same_fid (fid_of id n x) f) now (stamped now ws times f) h
told_more id n now None None ws times f h = h

stamped_by : (b : Bool) (id n m now : ℕ) (o p : Option Vnode) (ws : List Version) (times : Fid → ℕ) (y : Vnode) (t : Table Vnode) → nat_eq n m ≡ b → (get m t ≡ Some y → stamped now ws times (fid_of id m y) ≡ now) → get m (left_at n p ++ t) ≡ Some y
    → stamped now (told_between id n o p ++ ws) times (fid_of id m y) ≡ now
stamped_by b id n m now o None ws times y t is more left = told_more id n now o None ws times (fid_of id m y) (more left)
stamped_by true id n m now o (Some x) ws times y t is more left =
    let one : ◌≡◌ {A = Option Vnode} (Some x) (Some y) = subst (λ (c : Bool). (if c then Some x else get m t) ≡ Some y) is left in
    let same : x ≡ y = cc in
    rw (same, eqb-true n m is, fid_same (fid_of id m y)) refl
stamped_by false id n m now o (Some x) ws times y t is more left =
    let rest : get m t ≡ Some y = subst (λ (c : Bool). (if c then Some x else get m t) ≡ Some y) is left in
    told_more id n now o (Some x) ws times (fid_of id m y) (more rest)

-- the versions of a change have its time
pub stamped_left : (id now : ℕ) (times : Fid → ℕ) (v : Volume) (es : List Edit) (m : ℕ) (y : Vnode) → get m (all_left v es) ≡ Some y → stamped now (all_told id v es) times (fid_of id m y) ≡ now
stamped_left id now times v [] m y left = absurd cc
stamped_left id now times v (e ∷ es) m y left =
    stamped_by (nat_eq (edit_number e) m) id (edit_number e) m now (before_edit v e) (after_edit v e) (all_told id v es) times y (all_left v es) refl (λ h. stamped_left id now times v es m y h) left

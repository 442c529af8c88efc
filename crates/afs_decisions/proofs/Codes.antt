-- No refusal of an operation has the code 0.
use Rattle.std.proofs.Common.{◌≡◌, ℕ, Bool, true, false, cond, not, ◌&&◌, List, [], ◌∷◌, ◌++◌, Option, Some, None, refl, subst}
use Rattle.std.specs.Prelude.{is_some, nat_eq}
use Rattle.afs_num.specs.Names.{name_ok}
use Rattle.afs_num.specs.declared.calls.FsCall.{FsCall}
use Rattle.afs_num.specs.declared.calls.FsCall.TheVariants as calls
use Rattle.afs_num.specs.declared.types.Fid.{Fid}
use Rattle.spec_ideal.specs.Operations.{is_read_write, rename_rights, is_same_name, may_move, name_in, vnode_in, has_no_names, has_room_for, by_tests, effect, first_failing, kinds_agree, limited, limits, one_more, op, read_by, refused, reads, changes, no_operation, rename_tests, rename_out_tests, shows_acl, shows_body, shows_status, shows_statuses, shows_several, tests, Caller, Found, Result, Shown, Tests}
use Rattle.spec_ideal.specs.Volumes.{Vnode, Volume, vnode_of}

abbrev AreCodes : Tests → Type 0
AreCodes [] = Unit {0}
AreCodes (t ∷ ts) = (nat_eq t.1 0 ≡ false) × AreCodes ts

-- a refusal among these results has a code
abbrev IsCoded : Result → Type 0
IsCoded (refused code) = nat_eq code 0 ≡ false
IsCoded r = Unit {0}

agree_coded : (a b : Option Vnode) (ts : Tests) → AreCodes ts → AreCodes (kinds_agree a b ++ ts)
agree_coded None b ts h = h
agree_coded (Some x) None ts h = h
agree_coded (Some x) (Some y) ts h = (refl, (refl, h))

either : (b : Bool) (ts us : Tests) → AreCodes ts → AreCodes us → AreCodes (cond b ts us)
either true ts us h k = h
either false ts us h k = k

rename_coded : (caller : Caller) (d : Fid) (old : List ℕ) (e : Fid) (new : List ℕ) (v : Volume) → AreCodes (rename_tests caller d old e new v)
rename_coded caller d old e new v =
    let rest : AreCodes (is_read_write v ∷ (rename_rights caller d e new v, 13) ∷ (name_ok new && (not (is_same_name d old e new) && may_move d e (name_in d old v) (name_in e new v) v (vnode_in d old v)), 22) ∷ (is_some (name_in d old v), 2) ∷ (has_no_names (vnode_in e new v), 39) ∷ (has_room_for d e new v, 27) ∷ []) =
    (refl, (refl, (refl, (refl, (refl, (refl, tt)))))) in
    (refl, (refl, (refl, agree_coded (vnode_in d old v) (vnode_in e new v) _ rest)))

tests_coded : (caller : Caller) (call : FsCall) (v : Volume) → AreCodes (tests caller call v)
tests_coded caller (calls.FetchData f position wanted) v = (refl, (refl, (refl, tt)))
tests_coded caller (calls.FetchAcl f) v = (refl, (refl, (refl, tt)))
tests_coded caller (calls.FetchStatus f) v = (refl, (refl, tt))
tests_coded caller (calls.StoreData f status position stored file_length contents) v = (refl, (refl, (refl, (refl, (refl, (refl, tt))))))
tests_coded caller (calls.StoreAcl f acl) v = (refl, (refl, (refl, (refl, (refl, tt)))))
tests_coded caller (calls.StoreStatus f status) v = (refl, (refl, (refl, (refl, tt))))
tests_coded caller (calls.RemoveFile d name) v = (refl, (refl, (refl, (refl, (refl, (refl, tt))))))
tests_coded caller (calls.CreateFile d name status) v = (refl, (refl, (refl, (refl, (refl, (refl, (refl, tt)))))))
tests_coded caller (calls.Rename d old e new) v =
    either (nat_eq e.volume d.volume) (rename_tests caller d old e new v) (rename_out_tests caller d v)
    (rename_coded caller d old e new v)
    (refl, (refl, (refl, (refl, (refl, tt)))))
tests_coded caller (calls.Symlink d name target status) v = (refl, (refl, (refl, (refl, (refl, (refl, (refl, tt)))))))
tests_coded caller (calls.Link d name f) v = (refl, (refl, (refl, (refl, (refl, (refl, (refl, (refl, tt))))))))
tests_coded caller (calls.MakeDir d name status) v = (refl, (refl, (refl, (refl, (refl, (refl, (refl, tt)))))))
tests_coded caller (calls.RemoveDir d name) v = (refl, (refl, (refl, (refl, (refl, (refl, (refl, tt)))))))
tests_coded caller (calls.GetVolumeStatus id) v = (refl, tt)
tests_coded caller call v = tt

abbrev IsCode : Option ℕ → Type 0
IsCode None = Unit {0}
IsCode (Some code) = nat_eq code 0 ≡ false

failing_by : (b : Bool) (code : ℕ) (o : Option ℕ) → nat_eq code 0 ≡ false → IsCode o → IsCode (cond b o (Some code))
failing_by true code o h k = k
failing_by false code o h k = h

failing_coded : (ts : Tests) → AreCodes ts → IsCode (first_failing ts)
failing_coded [] h = tt
failing_coded (t ∷ ts) h = failing_by t.0 t.1 (first_failing ts) h.0 (failing_coded ts h.1)

by_coded : (o : Option ℕ) (r : Result) → IsCode o → IsCoded r → IsCoded (by_tests o r)
by_coded (Some code) r h k = h
by_coded None r h k = k

limited_coded : (id : ℕ) (v : Volume) (r : Result) → IsCoded r → IsCoded (limited id v r)
limited_coded id v (changes es n) h = by_coded (first_failing (limits id es v)) (changes es n) (failing_coded (limits id es v) (refl, (refl, tt))) tt
limited_coded id v (refused code) h = h
limited_coded id v (reads shown) h = h
limited_coded id v no_operation h = h

read_coded : (show : Found → Shown) (f : Fid) (o : Option Vnode) → IsCoded (read_by show f o)
read_coded show f None = refl
read_coded show f (Some x) = tt

more_coded : (f : Fid) (o : Option ℕ) (q : Option Vnode) (r : Result) → IsCode o → IsCoded r → IsCoded (one_more f o q r)
more_coded f (Some code) q r h k = h
more_coded f None None r h k = refl
more_coded f None (Some x) (reads (shows_statuses xs)) h k = tt
more_coded f None (Some x) r h k = k

statuses_coded : (caller : Caller) (v : Volume) (fs : List Fid) → IsCoded (shows_several caller v fs)
statuses_coded caller v [] = tt
statuses_coded caller v (f ∷ fs) = more_coded f (first_failing (tests caller (calls.FetchStatus f) v)) (vnode_of f v) (shows_several caller v fs) (failing_coded (tests caller (calls.FetchStatus f) v) (tests_coded caller (calls.FetchStatus f) v)) (statuses_coded caller v fs)

effect_coded : (caller : Caller) (call : FsCall) (v : Volume) → IsCoded (effect caller call v)
effect_coded caller (calls.FetchData f position wanted) v = read_coded shows_body f (vnode_of f v)
effect_coded caller (calls.FetchAcl f) v = read_coded shows_acl f (vnode_of f v)
effect_coded caller (calls.FetchStatus f) v = read_coded shows_status f (vnode_of f v)
effect_coded caller (calls.BulkStatus fids) v = statuses_coded caller v fids
effect_coded caller call v = tt

op_coded : (id : ℕ) (caller : Caller) (call : FsCall) (v : Volume) → IsCoded (op id caller call v)
op_coded id caller call v = by_coded (first_failing (tests caller call v)) (limited id v (effect caller call v)) (failing_coded (tests caller call v) (tests_coded caller call v)) (limited_coded id v (effect caller call v) (effect_coded caller call v))

pub op_code : (id : ℕ) (caller : Caller) (call : FsCall) (v : Volume) (code : ℕ) → op id caller call v ≡ refused code → nat_eq code 0 ≡ false
op_code id caller call v code e = subst IsCoded e (op_coded id caller call v)

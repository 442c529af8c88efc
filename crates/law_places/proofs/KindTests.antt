-- A volume that a call changes is a read-write volume, and the versions of the change are of that volume.
use Rattle.std.proofs.Common.{◌≡◌, ◌⊎◌, inl, inr, ℕ, Bool, true, false, cond, List, [], ◌∷◌, ◌++◌, Option, Some, None, refl, sym, ap, ◌∙◌, nat_eq}
use Rattle.std.specs.Prelude.{⊤}
use Rattle.std.specs.List.{AllByRecursion}
use Rattle.afs_num.specs.declared.calls.FsCall.{FsCall}
use Rattle.afs_num.specs.declared.calls.FsCall.TheVariants as calls
use Rattle.afs_num.specs.declared.histories.Version.{Version}
use Rattle.afs_num.specs.declared.types.Fid.{Fid}
use Rattle.spec_ideal.specs.Operations.{by_tests, changes, effect, first_failing, is_read_write, kinds_agree, limited, no_operation, one_more, op, read_by, reads, refused, rename_out_tests, rename_tests, shows_acl, shows_body, shows_status, shows_statuses, shows_volume, shows_several, tests, vnode_in, Caller, Found, Result, Shown, Tests}
use Rattle.spec_ideal.specs.Tables.{get}
use Rattle.spec_ideal.specs.Volumes.{amends, amends_at, edited, frees, frees_at, makes, makes_at, versions_by, vnode_of, Amend, Edit, Vnode, Volume}

-- ---- one of the tests

abbrev IsAmong : Bool × ℕ → Tests → Type 0
IsAmong t [] = ⊥
IsAmong t (u ∷ us) = (u ≡ t) ⊎ IsAmong t us

behind : (t : Bool × ℕ) (front rest : Tests) → IsAmong t rest → IsAmong t (front ++ rest)
behind t [] rest h = h
behind t (u ∷ us) rest h = inr (behind t us rest h)

-- where none fails, each holds
passes_by : (b : Bool) (code : ℕ) (rest : Option ℕ) → cond b rest (Some code) ≡ None → (b ≡ true) × (rest ≡ None)
passes_by true code rest e = (refl, e)
passes_by false code rest e = absurd cc

passes : (t : Bool × ℕ) (ts : Tests) → first_failing ts ≡ None → IsAmong t ts → t.0 ≡ true
passes t [] e h = absurd h
passes t (u ∷ us) e (inl same) = ap (λ (x : Bool × ℕ). x.0) (sym same) ∙ (passes_by u.0 u.1 (first_failing us) e).0
passes t (u ∷ us) e (inr h) = passes t us (passes_by u.0 u.1 (first_failing us) e).1 h

-- ---- a call that changes something is tested for the volume's kind

abbrev IsNoChange : Result → Type 0
IsNoChange (changes es n) = ⊥
IsNoChange (refused code) = ⊤
IsNoChange (reads shown) = ⊤
IsNoChange no_operation = ⊤

read_not : (show : Found → Shown) (f : Fid) (o : Option Vnode) → IsNoChange (read_by show f o)
read_not show f None = tt
read_not show f (Some x) = tt

more_not : (f : Fid) (o : Option ℕ) (x : Option Vnode) (r : Result) → IsNoChange r → IsNoChange (one_more f o x r)
more_not f (Some code) x r h = tt
more_not f None None r h = tt
more_not f None (Some x) (reads (shows_statuses xs)) h = tt
more_not f None (Some x) (reads (shows_body g)) h = tt
more_not f None (Some x) (reads (shows_status g)) h = tt
more_not f None (Some x) (reads (shows_acl g)) h = tt
more_not f None (Some x) (reads shows_volume) h = tt
more_not f None (Some x) (refused code) h = tt
more_not f None (Some x) no_operation h = tt
more_not f None (Some x) (changes es n) h = absurd h

statuses_not : (caller : Caller) (v : Volume) (fs : List Fid) → IsNoChange (shows_several caller v fs)
statuses_not caller v [] = tt
statuses_not caller v (f ∷ fs) = more_not f (first_failing (tests caller (calls.FetchStatus f) v)) (vnode_of f v) (shows_several caller v fs) (statuses_not caller v fs)

either_among : (t : Bool × ℕ) (b : Bool) (x y : Tests) → IsAmong t x → IsAmong t y → IsAmong t (cond b x y)
either_among t true x y h k = h
either_among t false x y h k = k

is_tested : (caller : Caller) (call : FsCall) (v : Volume) → IsAmong (is_read_write v) (tests caller call v) ⊎ IsNoChange (effect caller call v)
is_tested caller (calls.FetchData f position wanted) v = inr (read_not shows_body f (vnode_of f v))
is_tested caller (calls.FetchAcl f) v = inr (read_not shows_acl f (vnode_of f v))
is_tested caller (calls.FetchStatus f) v = inr (read_not shows_status f (vnode_of f v))
is_tested caller (calls.StoreData f status position stored file_length contents) v = inl (inr (inr (inl refl)))
is_tested caller (calls.StoreAcl f acl) v = inl (inr (inr (inl refl)))
is_tested caller (calls.StoreStatus f status) v = inl (inr (inl refl))
is_tested caller (calls.RemoveFile d name) v = inl (inr (inr (inr (inl refl))))
is_tested caller (calls.CreateFile d name status) v = inl (inr (inr (inl refl)))
is_tested caller (calls.Rename d old e new) v =
    inl (either_among (is_read_write v) (nat_eq e.volume d.volume) (rename_tests caller d old e new v) (rename_out_tests caller d v)
    (inr (inr (inr (behind (is_read_write v) (kinds_agree (vnode_in d old v) (vnode_in e new v)) _ (inl refl))))) (inr (inr (inl refl))))
is_tested caller (calls.Symlink d name target status) v = inl (inr (inr (inl refl)))
is_tested caller (calls.Link d name f) v = inl (inr (inr (inr (inl refl))))
is_tested caller (calls.MakeDir d name status) v = inl (inr (inr (inl refl)))
is_tested caller (calls.RemoveDir d name) v = inl (inr (inr (inr (inl refl))))
is_tested caller (calls.GetVolumeStatus id) v = inr tt
is_tested caller (calls.BulkStatus fids) v = inr (statuses_not caller v fids)
is_tested caller call v = inr tt

tested_by : (o : Option ℕ) (r : Result) (es : List Edit) (n : ℕ) → by_tests o r ≡ changes es n → (o ≡ None) × (r ≡ changes es n)
tested_by None r es n e = (refl, e)
tested_by (Some code) r es n e = absurd cc

limited_not : (id : ℕ) (v : Volume) (r : Result) (es : List Edit) (n : ℕ) → IsNoChange r → limited id v r ≡ changes es n → ⊥
limited_not id v (changes fs k) es n h e = h
limited_not id v (refused code) es n h e = absurd cc
limited_not id v (reads shown) es n h e = absurd cc
limited_not id v no_operation es n h e = absurd cc

kind_by : (id : ℕ) (caller : Caller) (call : FsCall) (v : Volume) (es : List Edit) (n : ℕ) → IsAmong (is_read_write v) (tests caller call v) ⊎ IsNoChange (effect caller call v) → op id caller call v ≡ changes es n → nat_eq v.kind 0 ≡ true
kind_by id caller call v es n (inl h) e = passes (is_read_write v) (tests caller call v) (tested_by (first_failing (tests caller call v)) (limited id v (effect caller call v)) es n e).0 h
kind_by id caller call v es n (inr h) e = absurd (limited_not id v (effect caller call v) es n h (tested_by (first_failing (tests caller call v)) (limited id v (effect caller call v)) es n e).1)

pub changed_kind : (id : ℕ) (caller : Caller) (call : FsCall) (v : Volume) (es : List Edit) (n : ℕ) → op id caller call v ≡ changes es n → nat_eq v.kind 0 ≡ true
changed_kind id caller call v es n e = kind_by id caller call v es n (is_tested caller call v) e

-- ---- the versions of a change are of its volume

abbrev pub AreOf : ℕ → List Version → Type 0
AreOf id vs = AllByRecursion (λ (v : Version). v.fid.volume ≡ id) vs

amended_of : (id n : ℕ) (a : Amend) (v : Volume) (o : Option Vnode) → AreOf id (amends_at id n a v o).versions
amended_of id n a v None = tt
amended_of id n a v (Some x) = (refl, tt)

made_of : (id n : ℕ) (x : Vnode) (v : Volume) (o : Option Vnode) → AreOf id (makes_at id n x v o).versions
made_of id n x v None = (refl, tt)
made_of id n x v (Some y) = tt

freed_of : (id n : ℕ) (v : Volume) (o : Option Vnode) → AreOf id (frees_at id n v o).versions
freed_of id n v None = tt
freed_of id n v (Some x) = (refl, tt)

edited_of : (id : ℕ) (e : Edit) (v : Volume) → AreOf id (edited id e v).versions
edited_of id (amends n a) v = amended_of id n a v (get n v.vnodes)
edited_of id (makes n x) v = made_of id n x v (get n v.vnodes)
edited_of id (frees n) v = freed_of id n v (get n v.vnodes)

more_of : (id : ℕ) (xs ys : List Version) → AreOf id xs → AreOf id ys → AreOf id (xs ++ ys)
more_of id [] ys h k = k
more_of id (x ∷ xs) ys h k = (h.0, more_of id xs ys h.1 k)

pub versions_of : (id : ℕ) (es : List Edit) (v : Volume) → AreOf id (versions_by id es v)
versions_of id [] v = tt
versions_of id (e ∷ es) v = more_of id (edited id e v).versions (versions_by id es (edited id e v).volume) (edited_of id e v) (versions_of id es (edited id e v).volume)

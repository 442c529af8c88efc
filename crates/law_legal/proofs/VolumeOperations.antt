-- What the single operations are: each law by the calls.
use Rattle.spec_ideal.proofs.Scopes.{stays_in_scope}
use Rattle.spec_ideal.specs.AccessLists.{acl_at}
use Rattle.spec_ideal.specs.Operations.{acl_read, Caller, Found, Shown, shows_body, shows_status, shows_acl, shows_volume, reads, no_amend, Result, refused, changes, no_operation, by_tests, limited, limits, first_failing, tests, effect, read_by, op, volume_called, volume_changed, kind_is, is_kind, kinds_agree, vnode_in}
use Rattle.spec_ideal.specs.Tables.{get}
use Rattle.spec_ideal.specs.Volumes.{VnodeKind, a_file, a_directory, a_link, Vnode, Volume, Edit, amends, Amend, vnode_of, if_unique, versions_by, edited_all, amends_at, amended}
use Rattle.law_legal.proofs.BaseLaws.{both, some_of}
use Rattle.law_legal.proofs.VolumeEdits.{get-set, Grow, touches, touched_volume}
use Rattle.law_legal.proofs.BaseWords.{InScope, is_passing}
use Rattle.spec_history.specs.declared.lines.Line.{Line}
use Rattle.spec_rows.specs.Scopes.{is_volume}
use Rattle.std.proofs.Common.{◌≤◌, ◌≡◌, ℕ, ◌+◌, ◌⊎◌, inl, Bool, true, false, cond, nat_eq, List, [], ◌∷◌, ◌++◌, Option, Some, None, ℤ, pos, refl, sym, ap, subst, ◌∙◌, eq-eqb, eqb-true}
use Rattle.std.specs.Prelude.{⊤, is_some}
use Rattle.afs_num.specs.declared.types.Fid.{Fid}
use Rattle.afs_num.specs.declared.calls.AfsStoreStatus.{AfsStoreStatus}
use Rattle.afs_num.specs.declared.calls.FsCall.{FsCall}
use Rattle.afs_num.specs.declared.calls.FsCall.TheVariants as calls

-- ---- reading calls

-- what a reading call shows stands in the volume under the call's fid
abbrev pub IsFoundAs : Fid → Volume → Found → Type 0
IsFoundAs g v f = (g ≡ f.fid) × (vnode_of g v ≡ Some f.vnode)

abbrev pub IsShown : FsCall → Volume → Shown → Type 0
IsShown (calls.FetchData g position wanted) v (shows_body f) = IsFoundAs g v f
IsShown (calls.FetchAcl g) v (shows_acl f) = IsFoundAs g v f
IsShown (calls.FetchStatus g) v (shows_status f) = IsFoundAs g v f
IsShown (calls.GetVolumeStatus n) v shows_volume = ⊤
IsShown call v shown = ⊥

abbrev found_of : Fid → Vnode → Found
found_of f x = record { fid = f; vnode = x }

-- what is read is so
abbrev pub Shows : FsCall → Volume → Result → Type 0
Shows call v (reads shown) = IsShown call v shown
Shows call v r = ⊤

tested_shows : (call : FsCall) (v : Volume) (o : Option ℕ) (r : Result) → Shows call v r → Shows call v (by_tests o r)
tested_shows call v (Some n) r h = tt
tested_shows call v None r h = h

limited_shows : (call : FsCall) (id : ℕ) (v : Volume) (r : Result) → Shows call v r → Shows call v (limited id v r)
limited_shows call id v (refused code) h = tt
limited_shows call id v (reads shown) h = h
limited_shows call id v no_operation h = tt
limited_shows call id v (changes es n) h = tested_shows call v (first_failing (limits id es v)) (changes es n) tt

read_shows : (call : FsCall) (v : Volume) (show : Found → Shown) (g : Fid) (o : Option Vnode) → ((x : Vnode) → o ≡ Some x → IsShown call v (show (found_of g x))) → Shows call v (read_by show g o)
read_shows call v show g None h = tt
read_shows call v show g (Some x) h = h x refl

effect_shows : (id : ℕ) (caller : Caller) (call : FsCall) (v : Volume) → volume_called call ≡ Some id → Shows call v (effect caller call v)
effect_shows id caller (calls.FetchData g p w) v of = read_shows (calls.FetchData g p w) v shows_body g (vnode_of g v) (λ x at. (refl, at))
effect_shows id caller (calls.FetchAcl g) v of = read_shows (calls.FetchAcl g) v shows_acl g (vnode_of g v) (λ x at. (refl, at))
effect_shows id caller (calls.FetchStatus g) v of = read_shows (calls.FetchStatus g) v shows_status g (vnode_of g v) (λ x at. (refl, at))
effect_shows id caller (calls.StoreData g st p w l b) v of = tt
effect_shows id caller (calls.StoreAcl g acl) v of = tt
effect_shows id caller (calls.StoreStatus g st) v of = tt
effect_shows id caller (calls.RemoveFile d name) v of = tt
effect_shows id caller (calls.CreateFile d name st) v of = tt
effect_shows id caller (calls.Rename d name e other) v of = tt
effect_shows id caller (calls.Symlink d name target st) v of = tt
effect_shows id caller (calls.Link d name f) v of = tt
effect_shows id caller (calls.MakeDir d name st) v of = tt
effect_shows id caller (calls.RemoveDir d name) v of = tt
effect_shows id caller (calls.GetVolumeStatus n) v of = tt
effect_shows id caller call v of = absurd cc

pub reads_is : (id : ℕ) (caller : Caller) (call : FsCall) (v : Volume) (shown : Shown) → volume_called call ≡ Some id → op id caller call v ≡ reads shown → IsShown call v shown
reads_is id caller call v shown of e =
    subst (Shows call v) e (tested_shows call v (first_failing (tests caller call v)) (limited id v (effect caller call v)) (limited_shows call id v (effect caller call v) (effect_shows id caller call v of)))

-- what is read in a volume changes nothing
pub shown_reads : (call : FsCall) (v : Volume) (shown : Shown) → IsShown call v shown → volume_changed call ≡ None
shown_reads (calls.FetchData g p w) v shown is = refl
shown_reads (calls.FetchAcl g) v shown is = refl
shown_reads (calls.FetchStatus g) v shown is = refl
shown_reads (calls.GetVolumeStatus n) v shown is = refl
shown_reads call v shown is = absurd is

-- ---- a call of a volume is an operation on it

abbrev pub IsOperation : Result → Type 0
IsOperation no_operation = ⊥
IsOperation r = ⊤

tested_operation : (o : Option ℕ) (r : Result) → IsOperation r → IsOperation (by_tests o r)
tested_operation (Some n) r h = tt
tested_operation None r h = h

limited_operation : (id : ℕ) (v : Volume) (r : Result) → IsOperation r → IsOperation (limited id v r)
limited_operation id v (refused code) h = tt
limited_operation id v (reads shown) h = tt
limited_operation id v no_operation h = absurd h
limited_operation id v (changes es n) h = tested_operation (first_failing (limits id es v)) (changes es n) tt

read_operation : (show : Found → Shown) (g : Fid) (o : Option Vnode) → IsOperation (read_by show g o)
read_operation show g None = tt
read_operation show g (Some x) = tt

effect_operation : (id : ℕ) (caller : Caller) (call : FsCall) (v : Volume) → volume_called call ≡ Some id → IsOperation (effect caller call v)
effect_operation id caller (calls.FetchData f p w) v of = read_operation shows_body f (vnode_of f v)
effect_operation id caller (calls.FetchAcl f) v of = read_operation shows_acl f (vnode_of f v)
effect_operation id caller (calls.FetchStatus f) v of = read_operation shows_status f (vnode_of f v)
effect_operation id caller (calls.GetVolumeStatus k) v of = tt
effect_operation id caller (calls.StoreData f st p w l b) v of = tt
effect_operation id caller (calls.StoreAcl f acl) v of = tt
effect_operation id caller (calls.StoreStatus f st) v of = tt
effect_operation id caller (calls.RemoveFile d name) v of = tt
effect_operation id caller (calls.CreateFile d name st) v of = tt
effect_operation id caller (calls.Rename d name d' other) v of = tt
effect_operation id caller (calls.Symlink d name target st) v of = tt
effect_operation id caller (calls.Link d name f) v of = tt
effect_operation id caller (calls.MakeDir d name st) v of = tt
effect_operation id caller (calls.RemoveDir d name) v of = tt
effect_operation id caller call v of = absurd cc

pub op_is : (id : ℕ) (caller : Caller) (call : FsCall) (v : Volume) → volume_called call ≡ Some id → op id caller call v ≡ no_operation → ⊥
op_is id caller call v of e =
    subst IsOperation e (tested_operation (first_failing (tests caller call v)) (limited id v (effect caller call v)) (limited_operation id v (effect caller call v) (effect_operation id caller call v of)))

-- ---- codes of refusals are none of them 0, and none asks to come again

abbrev pub AreCodes : List (Bool × ℕ) → Type 0
AreCodes [] = ⊤
AreCodes (t ∷ ts) = (is_passing (pos t.1) ≡ false) × AreCodes ts

failing_by : (b : Bool) (n code : ℕ) (o : Option ℕ) → is_passing (pos n) ≡ false → (o ≡ Some code → is_passing (pos code) ≡ false) → cond b o (Some n) ≡ Some code → is_passing (pos code) ≡ false
failing_by true n code o h w e = w e
failing_by false n code o h w e = ap (λ (m : ℕ). is_passing (pos m)) (sym (some_of n code e)) ∙ h

failing : (ts : List (Bool × ℕ)) (code : ℕ) → AreCodes ts → first_failing ts ≡ Some code → is_passing (pos code) ≡ false
failing [] code h e = absurd cc
failing (t ∷ ts) code h e = failing_by t.0 t.1 code (first_failing ts) h.0 (failing ts code h.1) e

kinds_codes : (a b : Option Vnode) (ts : List (Bool × ℕ)) → AreCodes ts → AreCodes (kinds_agree a b ++ ts)
kinds_codes None b ts h = h
kinds_codes (Some x) None ts h = h
kinds_codes (Some x) (Some y) ts h = (refl, (refl, h))

either_codes : (t : Bool) (a b : List (Bool × ℕ)) → AreCodes a → AreCodes b → AreCodes (cond t a b)
either_codes true a b h k = h
either_codes false a b h k = k

tests_codes : (caller : Caller) (call : FsCall) (v : Volume) → AreCodes (tests caller call v)
tests_codes caller (calls.FetchData g p w) v = (refl, (refl, (refl, tt)))
tests_codes caller (calls.FetchAcl g) v = (refl, (refl, (refl, tt)))
tests_codes caller (calls.FetchStatus g) v = (refl, (refl, tt))
tests_codes caller (calls.StoreData g st p w l b) v = (refl, (refl, (refl, (refl, (refl, (refl, tt))))))
tests_codes caller (calls.StoreAcl g acl) v = (refl, (refl, (refl, (refl, (refl, tt)))))
tests_codes caller (calls.StoreStatus g st) v = (refl, (refl, (refl, (refl, tt))))
tests_codes caller (calls.RemoveFile d name) v = (refl, (refl, (refl, (refl, (refl, (refl, tt))))))
tests_codes caller (calls.CreateFile d name st) v = (refl, (refl, (refl, (refl, (refl, (refl, (refl, tt)))))))
tests_codes caller (calls.Rename d old e new) v =
    either_codes (nat_eq e.volume d.volume) _ _ (refl, (refl, (refl, kinds_codes (vnode_in d old v) (vnode_in e new v) _ (refl, (refl, (refl, (refl, (refl, (refl, tt)))))))))
    (refl, (refl, (refl, (refl, (refl, tt)))))
tests_codes caller (calls.Symlink d name target st) v = (refl, (refl, (refl, (refl, (refl, (refl, (refl, tt)))))))
tests_codes caller (calls.Link d name f) v = (refl, (refl, (refl, (refl, (refl, (refl, (refl, (refl, tt))))))))
tests_codes caller (calls.MakeDir d name st) v = (refl, (refl, (refl, (refl, (refl, (refl, (refl, tt)))))))
tests_codes caller (calls.RemoveDir d name) v = (refl, (refl, (refl, (refl, (refl, (refl, (refl, tt)))))))
tests_codes caller (calls.GetVolumeStatus n) v = (refl, tt)
tests_codes caller call v = tt

abbrev pub IsNone : ℤ → Type 0
IsNone code = is_passing code ≡ false

-- what is refused has such a code
abbrev pub IsNoZero : Result → Type 0
IsNoZero (refused code) = is_passing (pos code) ≡ false
IsNoZero r = ⊤

tested_code : (ts : List (Bool × ℕ)) (o : Option ℕ) (r : Result) → AreCodes ts → first_failing ts ≡ o → IsNoZero r → IsNoZero (by_tests o r)
tested_code ts (Some n) r h at z = failing ts n h at
tested_code ts None r h at z = z

limited_code : (id : ℕ) (v : Volume) (r : Result) → IsNoZero r → IsNoZero (limited id v r)
limited_code id v (refused code) z = z
limited_code id v (reads shown) z = tt
limited_code id v no_operation z = tt
limited_code id v (changes es n) z = tested_code (limits id es v) (first_failing (limits id es v)) (changes es n) (refl, (refl, tt)) refl tt

read_code : (show : Found → Shown) (f : Fid) (o : Option Vnode) → IsNoZero (read_by show f o)
read_code show f None = refl
read_code show f (Some x) = tt

effect_code : (caller : Caller) (call : FsCall) (v : Volume) (id : ℕ) → volume_called call ≡ Some id → IsNoZero (effect caller call v)
effect_code caller (calls.FetchData g p w) v id of = read_code shows_body g (vnode_of g v)
effect_code caller (calls.FetchAcl g) v id of = read_code shows_acl g (vnode_of g v)
effect_code caller (calls.FetchStatus g) v id of = read_code shows_status g (vnode_of g v)
effect_code caller (calls.StoreData g st p w l b) v id of = tt
effect_code caller (calls.StoreAcl g acl) v id of = tt
effect_code caller (calls.StoreStatus g st) v id of = tt
effect_code caller (calls.RemoveFile d name) v id of = tt
effect_code caller (calls.CreateFile d name st) v id of = tt
effect_code caller (calls.Rename d name e other) v id of = tt
effect_code caller (calls.Symlink d name target st) v id of = tt
effect_code caller (calls.Link d name f) v id of = tt
effect_code caller (calls.MakeDir d name st) v id of = tt
effect_code caller (calls.RemoveDir d name) v id of = tt
effect_code caller (calls.GetVolumeStatus n) v id of = tt
effect_code caller call v id of = absurd cc

pub op_code : (id : ℕ) (caller : Caller) (call : FsCall) (v : Volume) (code : ℕ) → volume_called call ≡ Some id → op id caller call v ≡ refused code → IsNone (pos code)
op_code id caller call v code of e =
    subst IsNoZero e (tested_code (tests caller call v) (first_failing (tests caller call v)) (limited id v (effect caller call v)) (tests_codes caller call v) refl (limited_code id v (effect caller call v) (effect_code caller call v id of)))

-- ---- a store changes its file alone

-- what a store amends
abbrev pub amend_of : FsCall → Amend
amend_of (calls.StoreData f st p w l b) = record no_amend { contents = Some b; status = Some st }
amend_of (calls.StoreAcl f acl) = record no_amend { acl = acl_read (acl_at acl) }
amend_of (calls.StoreStatus f st) = record no_amend { status = Some st }
amend_of call = no_amend

-- the fid of a store
abbrev pub stored_fid : FsCall → Option Fid
stored_fid (calls.StoreData f st p w l b) = Some f
stored_fid (calls.StoreAcl f acl) = Some f
stored_fid (calls.StoreStatus f st) = Some f
stored_fid call = None

pub record Storing (f : Fid) (a : Amend) (v : Volume) (es : List Edit) (n : ℕ) : Type 0 where
  pub vnode : Vnode
  pub found : get f.vnode v.vnodes ≡ Some vnode
  pub unique : vnode.unique ≡ f.unique
  pub edits : es ≡ amends f.vnode a ∷ []
  pub shows : n ≡ f.vnode

pub change_same : (es fs : List Edit) (a b : ℕ) → changes es a ≡ changes fs b → (es ≡ fs) × (a ≡ b)
change_same es fs a b e = (cc, cc)

limits_passed : (o : Option ℕ) (es fs : List Edit) (a b : ℕ) → by_tests o (changes es a) ≡ changes fs b → (es ≡ fs) × (a ≡ b)
limits_passed (Some n) es fs a b e = absurd cc
limits_passed None es fs a b e = change_same es fs a b e

passed_by : (o : Option ℕ) (id : ℕ) (v : Volume) (es fs : List Edit) (a b : ℕ) → by_tests o (limited id v (changes es a)) ≡ changes fs b → (o ≡ None) × ((es ≡ fs) × (a ≡ b))
passed_by (Some n) id v es fs a b e = absurd cc
passed_by None id v es fs a b e = (refl, limits_passed (first_failing (limits id es v)) es fs a b e)

-- all tests have passed
abbrev pub AllHold : List (Bool × ℕ) → Type 0
AllHold [] = ⊤
AllHold (t ∷ ts) = (t.0 ≡ true) × AllHold ts

holds_by : (b : Bool) (n : ℕ) (o : Option ℕ) (X : Type 0) → (o ≡ None → X) → cond b o (Some n) ≡ None → (b ≡ true) × X
holds_by true n o X h e = (refl, h e)
holds_by false n o X h e = absurd cc

pub all_hold : (ts : List (Bool × ℕ)) → first_failing ts ≡ None → AllHold ts
all_hold [] e = tt
all_hold (t ∷ ts) e = holds_by t.0 t.1 (first_failing ts) (AllHold ts) (all_hold ts) e

stored_unique : (t : Bool) (u : ℕ) (y : Vnode) → nat_eq y.unique u ≡ t → is_some (cond t (Some y) None) ≡ true → y.unique ≡ u
stored_unique true u y t e = eqb-true y.unique u t
stored_unique false u y t e = absurd cc

file_by : (k : VnodeKind) → is_kind k a_file ≡ true → k ≡ a_file
file_by a_file e = refl
file_by a_directory e = absurd cc
file_by a_link e = absurd cc

kept_kind : (t : Bool) (y : Vnode) → kind_is a_file (cond t (Some y) None) ≡ true → y.kind ≡ a_file
kept_kind true y e = file_by y.kind e
kept_kind false y e = absurd cc

storing_at : (f : Fid) (a : Amend) (v : Volume) (es : List Edit) (n : ℕ) (o : Option Vnode) → get f.vnode v.vnodes ≡ o → is_some (if_unique f.unique o) ≡ true
    → es ≡ amends f.vnode a ∷ [] → n ≡ f.vnode → Storing f a v es n
storing_at f a v es n None at there x y = absurd cc
storing_at f a v es n (Some y) at there x z = record { vnode = y; found = at; unique = stored_unique (nat_eq y.unique f.unique) f.unique y refl there; edits = x; shows = z }

storing_by : (id : ℕ) (caller : Caller) (call : FsCall) (f : Fid) (v : Volume) (es : List Edit) (n : ℕ) → (o : Option ℕ) → (o ≡ None → is_some (vnode_of f v) ≡ true) → by_tests o (limited id v (changes (amends f.vnode (amend_of call) ∷ []) f.vnode)) ≡ changes es n → Storing f (amend_of call) v es n
storing_by id caller call f v es n o there e =
    let q = passed_by o id v (amends f.vnode (amend_of call) ∷ []) es f.vnode n e in
    storing_at f (amend_of call) v es n (get f.vnode v.vnodes) refl (there q.0) (sym q.1.0) (sym q.1.1)

pub storing : (id : ℕ) (caller : Caller) (call : FsCall) (f : Fid) (v : Volume) (es : List Edit) (n : ℕ) → stored_fid call ≡ Some f → op id caller call v ≡ changes es n → Storing f (amend_of call) v es n
storing id caller (calls.StoreData g st p w l b) f v es n is e =
    let same : g ≡ f = cc in
    subst (λ (x : Fid). Storing x (amend_of (calls.StoreData g st p w l b)) v es n) same (storing_by id caller (calls.StoreData g st p w l b) g v es n (first_failing (tests caller (calls.StoreData g st p w l b) v)) (λ ok. (all_hold (tests caller (calls.StoreData g st p w l b) v) ok).0) e)
storing id caller (calls.StoreAcl g acl) f v es n is e =
    let same : g ≡ f = cc in
    subst (λ (x : Fid). Storing x (amend_of (calls.StoreAcl g acl)) v es n) same (storing_by id caller (calls.StoreAcl g acl) g v es n (first_failing (tests caller (calls.StoreAcl g acl) v)) (λ ok. (all_hold (tests caller (calls.StoreAcl g acl) v) ok).0) e)
storing id caller (calls.StoreStatus g st) f v es n is e =
    let same : g ≡ f = cc in
    subst (λ (x : Fid). Storing x (amend_of (calls.StoreStatus g st)) v es n) same (storing_by id caller (calls.StoreStatus g st) g v es n (first_failing (tests caller (calls.StoreStatus g st) v)) (λ ok. (all_hold (tests caller (calls.StoreStatus g st) v) ok).0) e)
storing id caller call f v es n is e = absurd cc

directory_by : (k : VnodeKind) → is_kind k a_directory ≡ true → k ≡ a_directory
directory_by a_file e = absurd cc
directory_by a_directory e = refl
directory_by a_link e = absurd cc

directory_at : (o : Option Vnode) (x : Vnode) → kind_is a_directory o ≡ true → o ≡ Some x → x.kind ≡ a_directory
directory_at None x kind e = absurd cc
directory_at (Some y) x kind e = directory_by x.kind (ap (λ (p : Option Vnode). kind_is a_directory p) (sym e) ∙ kind)

tested_reads : (o : Option ℕ) (r : Result) (shown : Shown) → by_tests o r ≡ reads shown → o ≡ None
tested_reads (Some n) r shown e = absurd cc
tested_reads None r shown e = refl

-- rights are read of directories
pub rights_of_directory : (id : ℕ) (caller : Caller) (g : Fid) (v : Volume) (shown : Shown) (x : Vnode) → op id caller (calls.FetchAcl g) v ≡ reads shown → vnode_of g v ≡ Some x → x.kind ≡ a_directory
rights_of_directory id caller g v shown x e at =
    directory_at (vnode_of g v) x (all_hold (tests caller (calls.FetchAcl g) v) (tested_reads (first_failing (tests caller (calls.FetchAcl g) v)) (limited id v (effect caller (calls.FetchAcl g) v)) shown e)).1.0 at

kept_by : (f : Fid) (v : Volume) (x : Vnode) (o : Option Vnode) → get f.vnode v.vnodes ≡ o → kind_is a_file (if_unique f.unique o) ≡ true → o ≡ Some x → x.kind ≡ a_file
kept_by f v x None at kind e = absurd cc
kept_by f v x (Some y) at kind e = let same : y ≡ x = cc in subst (λ (z : Vnode). z.kind ≡ a_file) same (kept_kind (nat_eq y.unique f.unique) y kind)

-- data is stored in files
pub stored_kind : (id : ℕ) (caller : Caller) (f : Fid) (st : AfsStoreStatus) (p w l : ℤ) (b : List ℕ) (v : Volume) (es : List Edit) (n : ℕ) → op id caller (calls.StoreData f st p w l b) v ≡ changes es n → (x : Vnode) → get f.vnode v.vnodes ≡ Some x → x.kind ≡ a_file
stored_kind id caller f st p w l b v es n e x at =
    let q = passed_by (first_failing (tests caller (calls.StoreData f st p w l b) v)) id v (amends f.vnode (record no_amend { contents = Some b; status = Some st }) ∷ []) es f.vnode n e in
    let h : AllHold (tests caller (calls.StoreData f st p w l b) v) = all_hold (tests caller (calls.StoreData f st p w l b) v) q.0 in
    kept_by f v x (get f.vnode v.vnodes) refl (both (kind_is a_file (vnode_of f v)) _ h.1.1.1.1.0).0 at

-- ---- a change is of the fids that its call may change

-- what only reads makes no change
abbrev pub Keeps : Result → Type 0
Keeps (changes es n) = ⊥
Keeps r = ⊤

tested_keeps : (o : Option ℕ) (r : Result) → Keeps r → Keeps (by_tests o r)
tested_keeps (Some n) r h = tt
tested_keeps None r h = h

limited_keeps : (id : ℕ) (v : Volume) (r : Result) → Keeps r → Keeps (limited id v r)
limited_keeps id v (refused code) h = tt
limited_keeps id v (reads shown) h = tt
limited_keeps id v no_operation h = tt
limited_keeps id v (changes es n) h = absurd h

read_keeps : (show : Found → Shown) (g : Fid) (o : Option Vnode) → Keeps (read_by show g o)
read_keeps show g None = tt
read_keeps show g (Some x) = tt

effect_keeps : (id : ℕ) (caller : Caller) (call : FsCall) (v : Volume) → volume_called call ≡ Some id → volume_changed call ≡ None → Keeps (effect caller call v)
effect_keeps id caller (calls.FetchData f p w) v of z = read_keeps shows_body f (vnode_of f v)
effect_keeps id caller (calls.FetchAcl f) v of z = read_keeps shows_acl f (vnode_of f v)
effect_keeps id caller (calls.FetchStatus f) v of z = read_keeps shows_status f (vnode_of f v)
effect_keeps id caller (calls.GetVolumeStatus k) v of z = tt
effect_keeps id caller (calls.StoreData f st p w l b) v of z = absurd cc
effect_keeps id caller (calls.StoreAcl f acl) v of z = absurd cc
effect_keeps id caller (calls.StoreStatus f st) v of z = absurd cc
effect_keeps id caller (calls.RemoveFile d name) v of z = absurd cc
effect_keeps id caller (calls.CreateFile d name st) v of z = absurd cc
effect_keeps id caller (calls.Rename d name d' other) v of z = absurd cc
effect_keeps id caller (calls.Symlink d name target st) v of z = absurd cc
effect_keeps id caller (calls.Link d name f) v of z = absurd cc
effect_keeps id caller (calls.MakeDir d name st) v of z = absurd cc
effect_keeps id caller (calls.RemoveDir d name) v of z = absurd cc
effect_keeps id caller call v of z = absurd cc

-- only a changing call changes
pub changes_is : (id : ℕ) (caller : Caller) (call : FsCall) (v : Volume) (es : List Edit) (n : ℕ) → volume_called call ≡ Some id → op id caller call v ≡ changes es n → volume_changed call ≡ None → ⊥
changes_is id caller call v es n of e z =
    subst Keeps e (tested_keeps (first_failing (tests caller call v)) (limited id v (effect caller call v)) (limited_keeps id v (effect caller call v) (effect_keeps id caller call v of z)))

volume_scope : (o : Option ℕ) (id n : ℕ) → o ≡ Some id → n ≡ id → is_volume n o ≡ true
volume_scope o id n e same = ap (is_volume n) e ∙ eq-eqb id n (sym same)

pub in_scope : (caller : Caller) (call : FsCall) (id : ℕ) (v : Volume) (es : List Edit) (n : ℕ) (g : Fid) (ls : List Line) → op id caller call v ≡ changes es n → volume_called call ≡ Some id → Grow id (versions_by id es v) ls → touches g (versions_by id es v) ≡ true → (InScope call g) ⊎ (v.next ≤ g.unique)
in_scope caller (calls.StoreData f st p w l b) id v es n g ls e at grow t = stays_in_scope id caller (calls.StoreData f st p w l b) v es n g at e t
in_scope caller (calls.StoreAcl f acl) id v es n g ls e at grow t = stays_in_scope id caller (calls.StoreAcl f acl) v es n g at e t
in_scope caller (calls.StoreStatus f st) id v es n g ls e at grow t = stays_in_scope id caller (calls.StoreStatus f st) v es n g at e t
in_scope caller (calls.CreateFile d name st) id v es n g ls e at grow t = stays_in_scope id caller (calls.CreateFile d name st) v es n g at e t
in_scope caller (calls.Symlink d name target st) id v es n g ls e at grow t = stays_in_scope id caller (calls.Symlink d name target st) v es n g at e t
in_scope caller (calls.MakeDir d name st) id v es n g ls e at grow t = stays_in_scope id caller (calls.MakeDir d name st) v es n g at e t
in_scope caller (calls.FetchData f p w) id v es n g ls e at grow t = absurd (changes_is id caller (calls.FetchData f p w) v es n at e refl)
in_scope caller (calls.FetchAcl f) id v es n g ls e at grow t = absurd (changes_is id caller (calls.FetchAcl f) v es n at e refl)
in_scope caller (calls.FetchStatus f) id v es n g ls e at grow t = absurd (changes_is id caller (calls.FetchStatus f) v es n at e refl)
in_scope caller (calls.GetVolumeStatus k) id v es n g ls e at grow t = absurd (changes_is id caller (calls.GetVolumeStatus k) v es n at e refl)
in_scope caller call id v es n g ls e at grow t = inl (volume_scope (volume_called call) id g.volume at (touched_volume g id (versions_by id es v) ls grow t))

-- the vnode, after a store
pub stored_vnode : (id : ℕ) (f : Fid) (a : Amend) (v : Volume) (es : List Edit) (n : ℕ) → (s : Storing f a v es n) → get f.vnode (edited_all id es v).vnodes ≡ Some (amended (v.counter + 1) a s.vnode)
stored_vnode id f a v es n s =
    subst (λ (x : List Edit). get f.vnode (edited_all id x v).vnodes ≡ Some (amended (v.counter + 1) a s.vnode)) (sym s.edits)
    (subst (λ (o : Option Vnode). get f.vnode (amends_at id f.vnode a v o).volume.vnodes ≡ Some (amended (v.counter + 1) a s.vnode)) (sym s.found)
    (get-set f.vnode f.vnode (amended (v.counter + 1) a s.vnode) v.vnodes ∙ rw (eq-eqb f.vnode f.vnode refl) refl))

-- What a change makes anew stands in the volume behind it: the reply to its call promises that.
use Rattle.spec_ideal.proofs.Scopes.{accepted}
use Rattle.spec_ideal.specs.Operations.{Caller, Found, changes, creating, free_number, new_directory, new_file, op, volume_called, acl_of, links_of}
use Rattle.spec_ideal.specs.Replies.{vnode_or_none}
use Rattle.spec_ideal.proofs.Tables.{free_is_free}
use Rattle.spec_ideal.specs.Tables.{AscendsFrom, get}
use Rattle.spec_ideal.specs.Volumes.{VnodeKind, a_directory, a_file, a_link, Amend, Edit, Vnode, Volume, amended, amends, amends_at, counted, edited, edited_all, fresh, makes, makes_at, version_at, versions_by, vnode_of, ascending}
use Rattle.law_legal.proofs.BaseLaws.{some_of}
use Rattle.law_legal.proofs.VolumeEdits.{Sound, fid_at, get-set, on_top, there}
use Rattle.law_legal.proofs.ServerFinds.{IsAmong}
use Rattle.law_legal.specs.Ideal.{last_version, volume_after}
use Rattle.law_legal.specs.Legal.{IsNewIn, IsPromisedBy}
use Rattle.spec_history.specs.declared.lines.Line.{Line}
use Rattle.afs_num.specs.declared.calls.AfsStoreStatus.{AfsStoreStatus}
use Rattle.afs_num.specs.declared.calls.FsCall.{FsCall}
use Rattle.afs_num.specs.declared.calls.FsCall.TheVariants as calls
use Rattle.afs_num.specs.declared.types.Fid.{Fid}
use Rattle.spec_rows.specs.Runs.{Entry}
use Rattle.spec_rows.specs.ServerRow.{found_at, granted_new}
use Rattle.std.proofs.Common.{◌≡◌, ℕ, ◌+◌, inl, inr, Bool, true, false, cond, eqb, nat_lt, List, [], ◌∷◌, Option, Some, None, refl, sym, ap, subst, ◌∙◌, eq-eqb, eqb-true}

-- ---- a new vnode is there, with the unique that it was given, whatever else is amended

abbrev IsAt : ℕ → ℕ → Volume → Type 0
IsAt n unique v = (x : Vnode) × ((get n v.vnodes ≡ Some x) × (x.unique ≡ unique))

made_at : (id n : ℕ) (x : Vnode) (v : Volume) (o : Option Vnode) → o ≡ None → IsAt n v.next (makes_at id n x v o).volume
made_at id n x v None e = (fresh (v.counter + 1) v.next x, (get-set n n (fresh (v.counter + 1) v.next x) v.vnodes ∙ rw (eq-eqb n n refl) refl, refl))
made_at id n x v (Some y) e = absurd cc

amended_by : (t : Bool) (m n u : ℕ) (a : Amend) (v : Volume) (x : Vnode) → eqb m n ≡ t → get m v.vnodes ≡ Some x → IsAt n u v → (y : Vnode) × ((cond t (Some (amended (v.counter + 1) a x)) (get n v.vnodes) ≡ Some y) × (y.unique ≡ u))
amended_by true m n u a v x t at h =
    let same : x ≡ h.0 = some_of x h.0 (sym at ∙ (ap (λ (i : ℕ). get i v.vnodes) (eqb-true m n t) ∙ h.1.0)) in
    (amended (v.counter + 1) a x, (refl, ap (λ (y : Vnode). y.unique) same ∙ h.1.1))
amended_by false m n u a v x t at h = h

amended_at : (id m n u : ℕ) (a : Amend) (v : Volume) (o : Option Vnode) → get m v.vnodes ≡ o → IsAt n u v → IsAt n u (amends_at id m a v o).volume
amended_at id m n u a v None e h = h
amended_at id m n u a v (Some x) e h =
    let z = amended_by (eqb m n) m n u a v x refl e h in
    (z.0, (get-set m n (amended (v.counter + 1) a x) v.vnodes ∙ z.1.0, z.1.1))

-- what is free stays free
free_by : (t : Bool) (m n : ℕ) (v : Volume) (x y : Vnode) → eqb m n ≡ t → get m v.vnodes ≡ Some x → get n v.vnodes ≡ None → cond t (Some y) (get n v.vnodes) ≡ None
free_by true m n v x y t at free = let no_ : None ≡ Some x = sym free ∙ (ap (λ (i : ℕ). get i v.vnodes) (sym (eqb-true m n t)) ∙ at) in absurd cc
free_by false m n v x y t at free = free

free_still : (id m n : ℕ) (a : Amend) (v : Volume) (o : Option Vnode) → get m v.vnodes ≡ o → get n v.vnodes ≡ None → get n (amends_at id m a v o).volume.vnodes ≡ None
free_still id m n a v None e free = free
free_still id m n a v (Some x) e free = get-set m n (amended (v.counter + 1) a x) v.vnodes ∙ free_by (eqb m n) m n v x (amended (v.counter + 1) a x) refl e free

next_still : (id m : ℕ) (a : Amend) (v : Volume) (o : Option Vnode) → (amends_at id m a v o).volume.next ≡ v.next
next_still id m a v None = refl
next_still id m a v (Some x) = refl

pair_at : (t : Bool) (id m n : ℕ) (a : Amend) (x : Vnode) (v : Volume) → get n v.vnodes ≡ None → IsAt n v.next (edited_all id (cond t (makes n x ∷ amends m a ∷ []) (amends m a ∷ makes n x ∷ [])) v)
pair_at true id m n a x v free =
    let made : Volume = (edited id (makes n x) v).volume in
    amended_at id m n v.next a made (get m made.vnodes) refl (made_at id n x v (get n v.vnodes) free)
pair_at false id m n a x v free =
    let amended_ : Volume = (edited id (amends m a) v).volume in
    subst (λ (u : ℕ). IsAt n u (edited id (makes n x) amended_).volume) (next_still id m a v (get m v.vnodes)) (made_at id n x amended_ (get n amended_.vnodes) (free_still id m n a v (get m v.vnodes) refl free))

number_free : (k : VnodeKind) (v : Volume) → AscendsFrom 1 v.vnodes → get (free_number k v) v.vnodes ≡ None
number_free a_file v up = free_is_free 1 2 v.vnodes up
number_free a_directory v up = free_is_free 1 3 v.vnodes up
number_free a_link v up = free_is_free 1 2 v.vnodes up

creating_at : (id : ℕ) (d : Fid) (name : List ℕ) (status : AfsStoreStatus) (links : Option ℕ) (x : Vnode) (v : Volume) → AscendsFrom 1 v.vnodes → IsAt (free_number x.kind v) v.next (edited_all id (ascending (creating d name status links x v)) v)
creating_at id d name status links x v up = pair_at (nat_lt (free_number x.kind v) d.vnode) id d.vnode (free_number x.kind v) _ _ v (number_free x.kind v up)

same_edits : (es ds : List Edit) (m n : ℕ) → changes es m ≡ changes ds n → es ≡ ds
same_edits es ds m n e = cc

same_shown : (es ds : List Edit) (m n : ℕ) → changes es m ≡ changes ds n → m ≡ n
same_shown es ds m n e = cc

shown_at : (id u : ℕ) (v : Volume) (es ds : List Edit) (m n : ℕ) → changes es m ≡ changes ds n → IsAt m u (edited_all id es v) → IsAt n u (edited_all id ds v)
shown_at id u v es ds m n e h = subst (λ (k : ℕ). IsAt k u (edited_all id ds v)) (same_shown es ds m n e) (subst (λ (xs : List Edit). IsAt m u (edited_all id xs v)) (same_edits es ds m n e) h)

-- ---- what the reply to a change promises

pub record IsNewly (id : ℕ) (v : Volume) (es : List Edit) (shown : ℕ) (call : FsCall) (past : List Entry) (f : Found) : Type 0 where
  pub asked : IsPromisedBy f.fid call (Some (changes es shown)) past
  pub at : get shown (edited_all id es v).vnodes ≡ Some f.vnode
  pub fid : f.fid ≡ fid_at id shown f.vnode.unique

-- it is the vnode that the operation shows
record IsFoundAt (id : ℕ) (v : Volume) (n u : ℕ) (f : Found) : Type 0 where
  at : get n v.vnodes ≡ Some f.vnode
  fid : f.fid ≡ fid_at id n f.vnode.unique
  unique : f.vnode.unique ≡ u

found_there : (id n u : ℕ) (v : Volume) (f : Found) → IsAt n u v → found_at id v n ≡ f → IsFoundAt id v n u f
found_there id n u v f h e =
    let same : h.0 ≡ f.vnode = sym (ap vnode_or_none h.1.0) ∙ ap (λ (x : Found). x.vnode) e in
    record { at = h.1.0 ∙ ap Some same; fid = sym (ap (λ (x : Found). x.fid) e) ∙ (ap (λ (o : Option Vnode). fid_at id n (vnode_or_none o).unique) h.1.0 ∙ ap (λ (x : Vnode). fid_at id n x.unique) same); unique = ap (λ (x : Vnode). x.unique) (sym same) ∙ h.1.1 }

newly_by : (id k n : ℕ) (v after : Volume) (es : List Edit) (past : List Entry) (f : Found) → IsFoundAt id after n v.next f → Some k ≡ Some id → volume_after id past ≡ Some v → IsNewIn k f.fid (Some (changes es n)) (volume_after k past)
newly_by id k n v after es past f h of ideal =
    let same : k ≡ id = some_of k id of in
    let is : f.fid ≡ fid_at k n v.next = h.fid ∙ (ap (fid_at id n) h.unique ∙ ap (λ (i : ℕ). fid_at i n v.next) (sym same)) in
    subst (IsNewIn k f.fid (Some (changes es n))) (sym (ap (λ (i : ℕ). volume_after i past) same ∙ ideal)) is

new_one : (id u : ℕ) (v : Volume) (es : List Edit) (n : ℕ) (f : Found) → IsAt n u (edited_all id es v) → IsAmong f (found_at id (counted (edited_all id es v)) n ∷ []) → IsFoundAt id (edited_all id es v) n u f
new_one id u v es n f h (inl e) = found_there id n u (edited_all id es v) f h e
new_one id u v es n f h (inr none) = absurd none

pub newly : (id : ℕ) (caller : Caller) (call : FsCall) (v : Volume) (es : List Edit) (shown : ℕ) (past : List Entry) (f : Found) → volume_called call ≡ Some id → op id caller call v ≡ changes es shown → volume_after id past ≡ Some v → AscendsFrom 1 v.vnodes → IsAmong f (granted_new id (counted (edited_all id es v)) shown call)
    → IsNewly id v es shown call past f
newly id caller (calls.CreateFile d name status) v es shown past f of is ideal up among =
    let q = new_one id v.next v es shown f (shown_at id v.next v _ es _ shown (accepted id caller (calls.CreateFile d name status) v es shown is).effected (creating_at id d name status None (new_file d) v up)) among in
    record { asked = newly_by id d.volume shown v (edited_all id es v) es past f q of ideal; at = q.at; fid = q.fid }
newly id caller (calls.MakeDir d name status) v es shown past f of is ideal up among =
    let q = new_one id v.next v es shown f (shown_at id v.next v _ es _ shown (accepted id caller (calls.MakeDir d name status) v es shown is).effected (creating_at id d name status (Some (links_of (vnode_of d v) + 1)) (new_directory d (acl_of (vnode_of d v))) v up)) among in
    record { asked = newly_by id d.volume shown v (edited_all id es v) es past f q of ideal; at = q.at; fid = q.fid }
newly id caller call v es shown past f of is ideal up among = absurd among

-- its version is the last one
pub made_last : (id : ℕ) (v : Volume) (es : List Edit) (shown : ℕ) (call : FsCall) (past : List Entry) (f : Found) (ls : List Line) → IsNewly id v es shown call past f → Sound id (edited_all id es v) (on_top (versions_by id es v) ls) → last_version f.fid (on_top (versions_by id es v) ls) ≡ Some (version_at id shown f.vnode)
made_last id v es shown call past f ls h sound = ap (λ (g : Fid). last_version g (on_top (versions_by id es v) ls)) h.fid ∙ there id shown (edited_all id es v) f.vnode (on_top (versions_by id es v) ls) h.at sound

-- A server's changes: of any number of versions.
use Rattle.afs_num.specs.declared.directories.Name.{Name}
use Rattle.spec_ideal.specs.Operations.{Found, the_user, Result, changes, op, changed}
use Rattle.spec_ideal.specs.Tables.{get}
use Rattle.spec_ideal.specs.Told.{AreNext}
use Rattle.spec_ideal.specs.Volumes.{or_old, with_status, Amend, Volume, Vnode, VnodeKind, a_file, a_directory, a_link, body_by, body_of, Edit, versions_by, edited_all, counted, amended}
use Rattle.law_legal.proofs.OwedPasses.{all_lines}
use Rattle.law_legal.proofs.BaseLaws.{UpTo, Below, below-true, below-false, up_to_below, Above, same_fid-true}
use Rattle.law_legal.proofs.VolumeEdits.{agrees_of, fid_at, Sound, on_top, edits_told, touches, none_has}
use Rattle.law_legal.proofs.BaseWords.{Leaves, IsReply}
use Rattle.law_legal.proofs.VolumeOperations.{stored_kind, stored_fid, amend_of}
use Rattle.law_legal.specs.Breaks.{HasStopped}
use Rattle.spec_rows.specs.Going.{next}
use Rattle.law_legal.specs.Grants.{IsWithdrawn, IsChangedByOther, change_below, IsByOther}
use Rattle.law_legal.specs.Ideal.{versions_in, last_version, HasVersion, applied_by}
use Rattle.law_legal.specs.Legal.{HasChangeBy, IsLater, HasChange, versions_first}
use Rattle.spec_history.specs.declared.lines.Line.{Line}
use Rattle.law_legal.specs.Past.{onto}
use Rattle.spec_rows.specs.Scopes.{is_volume}
use Rattle.spec_rows.specs.ServerRow.{granted, carried_by, versioned, Change}
use Rattle.spec_model.specs.Calls.{CallSeat, pair_below}
use Rattle.afs_num.specs.declared.calls.AfsStoreStatus.{AfsStoreStatus}
use Rattle.std.proofs.Common.{◌≡◌, ℕ, ◌+◌, ◌<◌, ◌≤◌, ◌⊎◌, inl, inr, Bool, true, false, cond, List, [], ◌∷◌, ◌++◌, Option, Some, None, refl, sym, ap, subst, ◌∙◌, arith, eqb-true, eqb}
use Rattle.std.specs.Prelude.{not}
use Rattle.afs_num.specs.Fids.{same_fid}
use Rattle.afs_num.specs.declared.types.Fid.{Fid}
use Rattle.afs_num.specs.declared.types.Key.{Key}
use Rattle.afs_num.specs.declared.types.Node.{Node}
use Rattle.afs_num.specs.declared.calls.FsCall.{FsCall}
use Rattle.afs_num.specs.declared.histories.Body.{Body}
use Rattle.afs_num.specs.declared.histories.Version.{Version}
use Rattle.afs_num.specs.declared.calls.FsReply.{FsReply}
use Rattle.spec_ideal.proofs.Edits as ideal_edits
use Rattle.afs_num.specs.declared.calls.FsCall.TheVariants as calls
use Rattle.afs_num.specs.declared.histories.Body.TheVariants as bodies
use Rattle.spec_history.specs.declared.lines.Line.TheVariants as lines

-- ---- versions among lines

pub onto_versioned : (vs : List Version) (tail o : List Line) → onto o (versioned vs tail) ≡ onto (on_top vs o) tail
onto_versioned [] tail o = refl
onto_versioned (v ∷ vs) tail o = onto_versioned vs tail (lines.Version v ∷ o)

pub on_withdrawn : (s c : Node) (f : Fid) (vs : List Version) (o : List Line) → IsWithdrawn s c f o → IsWithdrawn s c f (on_top vs o)
on_withdrawn s c f [] o h = h
on_withdrawn s c f (v ∷ vs) o h = on_withdrawn s c f vs (lines.Version v ∷ o) (inr h)

pub breaks_by : (t : Bool) (s c : Node) (f : Fid) (v : Version) (vs : List Version) (o : List Line) → same_fid v.fid f ≡ t → IsByOther s c (change_below o) → cond t true (touches f vs) ≡ true → (touches f vs ≡ true → IsWithdrawn s c f (on_top vs (lines.Version v ∷ o))) → IsWithdrawn s c f (on_top vs (lines.Version v ∷ o))
breaks_by true s c f v vs o t by e h = on_withdrawn s c f vs (lines.Version v ∷ o) (inl (same_fid-true v.fid f t, by))
breaks_by false s c f v vs o t by e h = h e

pub on_breaks : (s c : Node) (f : Fid) (vs : List Version) (o : List Line) → IsByOther s c (change_below o) → touches f vs ≡ true → IsWithdrawn s c f (on_top vs o)
on_breaks s c f [] o by e = absurd cc
on_breaks s c f (v ∷ vs) o by e = breaks_by (same_fid v.fid f) s c f v vs o refl by e (λ t. on_breaks s c f vs (lines.Version v ∷ o) by t)

-- the same of what the entry itself changed
on_more : (s c : Node) (f : Fid) (vs : List Version) (o : List Line) → IsChangedByOther s c f o → IsChangedByOther s c f (on_top vs o)
on_more s c f [] o h = h
on_more s c f (v ∷ vs) o h = on_more s c f vs (lines.Version v ∷ o) (inr h)

others_by : (t : Bool) (s c : Node) (f : Fid) (v : Version) (vs : List Version) (o : List Line) → same_fid v.fid f ≡ t → IsByOther s c (change_below o) → cond t true (touches f vs) ≡ true → (touches f vs ≡ true → IsChangedByOther s c f (on_top vs (lines.Version v ∷ o))) → IsChangedByOther s c f (on_top vs (lines.Version v ∷ o))
others_by true s c f v vs o t by e h = on_more s c f vs (lines.Version v ∷ o) (inl (same_fid-true v.fid f t, by))
others_by false s c f v vs o t by e h = h e

pub on_others : (s c : Node) (f : Fid) (vs : List Version) (o : List Line) → IsByOther s c (change_below o) → touches f vs ≡ true → IsChangedByOther s c f (on_top vs o)
on_others s c f [] o by e = absurd cc
on_others s c f (v ∷ vs) o by e = others_by (same_fid v.fid f) s c f v vs o refl by e (λ t. on_others s c f vs (lines.Version v ∷ o) by t)

-- grants behind that change nothing of it
pub granted_others : (s c q d : Node) (f : Fid) (x : ℕ) (fs : List Found) (o : List Line) → IsChangedByOther s c f o → IsChangedByOther s c f (onto o (granted q d x fs []))
granted_others s c q d f x [] o h = h
granted_others s c q d f x (g ∷ fs) o h = granted_others s c q d f x fs (lines.Grant q d g.fid g.vnode.index x ∷ o) h

pub granted_stopped : (s q d : Node) (x : ℕ) (fs : List Found) (o : List Line) → (HasStopped s o → ⊥) → HasStopped s (onto o (granted q d x fs [])) → ⊥
granted_stopped s q d x [] o h z = h z
granted_stopped s q d x (g ∷ fs) o h z = granted_stopped s q d x fs (lines.Grant q d g.fid g.vnode.index x ∷ o) h z

pub first_on : (vs : List Version) (tail : List Line) → versions_first tail ≡ [] → versions_first (versioned vs tail) ≡ vs
first_on [] tail e = e
first_on (v ∷ vs) tail e = ap (λ (ws : List Version). v ∷ ws) (first_on vs tail e)

-- ---- what a change leaves as it was

pub versions_by_next : (id : ℕ) (es : List Edit) (v : Volume) (ls : List Line) → Sound id v ls → AreNext id (versions_by id es v) (versions_in ls)
versions_by_next id es v ls sound = (ideal_edits.edits_told id es v (versions_in ls) (agrees_of id v ls sound)).next

-- ---- a change of client n, which ran on the volume

pub ideal_by : (t : Bool) (id other : ℕ) (user : List ℕ) (call : FsCall) (v : Volume) (es : List Edit) (shown : ℕ) (o p : Option Volume) → eqb id other ≡ t → op id (the_user user) call v ≡ changes es shown → (id ≡ other → p ≡ Some v) → o ≡ p → cond t (Some (counted (edited_all id es v))) o ≡ applied_by t other user call p
ideal_by true id other user call v es shown o p t res at same =
    let e : id ≡ other = eqb-true id other t in
    subst (λ (q : Option Volume). Some (counted (edited_all id es v)) ≡ applied_by true other user call q) (sym (at e))
    (subst (λ (i : ℕ). Some (counted (edited_all id es v)) ≡ Some (changed i (op i (the_user user) call v) v)) e (ap (λ (x : Result). Some (changed id x v)) (sym res)))
ideal_by false id other user call v es shown o p t res at same = same

pub volume_test : (id other : ℕ) (o : Option ℕ) → o ≡ Some id → is_volume other o ≡ eqb id other
volume_test id other o e = ap (is_volume other) e

-- ---- a store: its file's new version, and the index that its reply tells

-- where only the status or the rights change, the body stays
body_stays_by : (d : VnodeKind) (a : Amend) (m : ℕ) (x : Vnode) → a.contents ≡ None → a.names ≡ None → body_by d (amended m a x) ≡ body_by d x
body_stays_by a_file a m x e n = ap (λ (o : Option (List ℕ)). bodies.File (or_old o x.contents)) e
body_stays_by a_directory a m x e n = ap (λ (o : Option (List Name)). bodies.Dir (or_old o x.names)) n
body_stays_by a_link a m x e n = ap (λ (o : Option (List ℕ)). bodies.Link (or_old o x.contents)) e

status_kind : (o : Option AfsStoreStatus) (x : Vnode) → (with_status o x).kind ≡ x.kind
status_kind None x = refl
status_kind (Some st) x = refl

body_stays : (a : Amend) (m : ℕ) (x : Vnode) → a.contents ≡ None → a.names ≡ None → body_of (amended m a x) ≡ body_of x
body_stays a m x e n = ap (λ (d : VnodeKind). body_by d (amended m a x)) (status_kind a.status x) ∙ body_stays_by x.kind a m x e n

-- what a store leaves: the stored bytes, or the body of the version before
pub leaves : (call : FsCall) (f : Fid) (id m : ℕ) (user : List ℕ) (v : Volume) (es : List Edit) (shown : ℕ) (x : Vnode) (ls : List Line) → stored_fid call ≡ Some f → op id (the_user user) call v ≡ changes es shown → get f.vnode v.vnodes ≡ Some x
    → HasVersion f x.index (body_of x) ls → HasVersion f (x.index + 1) (body_of (amended m (amend_of call) x)) ls → Leaves call f (x.index + 1) ls
leaves (calls.StoreData g st p w l b) f id m user v es shown x ls is e at old new =
    let same : g ≡ f = cc in
    let kind : x.kind ≡ a_file = stored_kind id (the_user user) g st p w l b v es shown e x (ap (λ (h : Fid). get h.vnode v.vnodes) same ∙ at) in
    let body : body_of (amended m (amend_of (calls.StoreData g st p w l b)) x) ≡ bodies.File b = ap (λ (d : VnodeKind). body_by d (amended m (amend_of (calls.StoreData g st p w l b)) x)) kind in
    subst (λ (d : Body). HasVersion f (x.index + 1) d ls) body new
leaves (calls.StoreAcl g acl) f id m user v es shown x ls is e at old new =
    record { before = x.index; next = refl; body = body_of x; old = old; new = subst (λ (d : Body). HasVersion f (x.index + 1) d ls) (body_stays (amend_of (calls.StoreAcl g acl)) m x refl refl) new }
leaves (calls.StoreStatus g st) f id m user v es shown x ls is e at old new =
    record { before = x.index; next = refl; body = body_of x; old = old; new = subst (λ (d : Body). HasVersion f (x.index + 1) d ls) (body_stays (amend_of (calls.StoreStatus g st)) m x refl refl) new }
leaves call f id m user v es shown x ls is e at old new = absurd cc

-- what a change is answered is a reply with code 0
pub carried_reply : (x : ℕ) (o : Option FsReply) → IsReply (carried_by x o)
carried_reply x None = λ z. z
carried_reply x (Some r) = λ z. z

-- ---- a grant of an older boot is withdrawn: the server stopped since

pub any_change : (s : Node) (l : Key) (ls : List Line) → HasChangeBy s l ls → HasChange l ls
any_change s l [] h = absurd h
any_change s l (lines.Change q k count ∷ ls) (inl x) = inl x.1
any_change s l (lines.Change q k count ∷ ls) (inr h) = inr (any_change s l ls h)
any_change s l (x ∷ ls) h = any_change s l ls h

later_seat : (t : Bool) (e n : ℕ) (k l : Key) → pair_below e n l.epoch l.number ≡ t → Below e n k.epoch k.number → (Below e n l.epoch l.number → ⊥) → IsLater k l
later_seat true e n k l t a not = absurd (not (below-true e n l.epoch l.number t))
later_seat false e n k l t a not = up_to_below l.epoch l.number e n k.epoch k.number (below-false e n l.epoch l.number t) a

-- what isn't above a seat is below what is
pub later_by : {R : Type 0} → (o : Option (CallSeat R)) (k l : Key) → Above o k.epoch k.number → (Above o l.epoch l.number → ⊥) → IsLater k l
later_by None k l a not = absurd (not tt)
later_by (Some seat) k l a not = later_seat (pair_below seat.epoch seat.number l.epoch l.number) seat.epoch seat.number k l refl a not

-- none is later than the client's last call
pub later_not : (k l : Key) (epoch last : ℕ) → l.epoch ≡ epoch → l.number ≡ last → UpTo k.epoch k.number epoch last → IsLater k l → ⊥
later_not k l epoch last e n (inl x) (inl y) = let a : k.epoch < epoch = x in let b : l.epoch < k.epoch = y in absurd (omega arith)
later_not k l epoch last e n (inl x) (inr y) = let a : k.epoch < epoch = x in let b : l.epoch ≡ k.epoch = y.0 in absurd (omega arith)
later_not k l epoch last e n (inr x) (inl y) = let a : k.epoch ≡ epoch = x.0 in let b : l.epoch < k.epoch = y in absurd (omega arith)
later_not k l epoch last e n (inr x) (inr y) = let a : k.number ≤ last = x.1 in let b : l.number < k.number = y.1 in absurd (omega arith)

-- a fid that had a version isn't new
pub scope_of : (g : Fid) (i : ℕ) (b : Body) (id : ℕ) (v : Volume) (ls : List Line) (S : Type 0) → Sound id v ls → g.volume ≡ id → HasVersion g i b ls → S ⊎ (v.next ≤ g.unique) → S
scope_of g i b id v ls S sound at had (inl s) = s
scope_of g i b id v ls S sound at had (inr new) = absurd (none_has g i b ls (ap (λ (x : ℕ). last_version (fid_at x g.vnode g.unique) ls) at ∙ sound.new g.vnode g.unique new) had)

-- versions are neither owed nor end anything
pub versions_lines : (q : Line → Bool) (vs : List Version) (tail : List Line) → ((v : Version) → q (lines.Version v) ≡ true) → all_lines q tail ≡ true → all_lines q (versioned vs tail) ≡ true
versions_lines q [] tail h k = k
versions_lines q (v ∷ vs) tail h k = rw (h v, versions_lines q vs tail h k) refl

pub versioned_front : (vs : List Version) (a b : List Line) → versioned vs (a ++ b) ≡ versioned vs a ++ b
versioned_front [] a b = refl
versioned_front (v ∷ vs) a b = ap (λ (ls : List Line). lines.Version v ∷ ls) (versioned_front vs a b)

-- the keys that changed something, behind versions
pub on_changed : (k : Key) (vs : List Version) (o : List Line) → HasChange k (on_top vs o) → HasChange k o
on_changed k [] o h = h
on_changed k (v ∷ vs) o h = on_changed k vs (lines.Version v ∷ o) h

-- What a reply to a client's own store tells: the version that the store made, of the entry that told it.
use Rattle.spec_history.specs.declared.lines.Line.{Line}
use Rattle.spec_history.specs.declared.scripts.Script.{Script}
use Rattle.spec_ideal.specs.Operations.{Caller, changes, op, the_user, volume_called, volume_changed}
use Rattle.spec_ideal.specs.Replies.{change_reply, vnode_status, vnode_or_none}
use Rattle.spec_ideal.specs.Tables.{get}
use Rattle.spec_ideal.specs.Volumes.{Edit, Vnode, Volume, amended, body_of, counted, edited_all, if_unique, version_at}
use Rattle.law_legal.proofs.ActLines.{last_key}
use Rattle.law_legal.proofs.ClientReplyArrives.{Arrives, Based, around, not_refused}
use Rattle.law_legal.proofs.BaseLaws.{some_of}
use Rattle.law_legal.proofs.VolumeEdits.{Sound, SoundIn, fid_at, there}
use Rattle.law_legal.proofs.BaseWords.{Leaves}
use Rattle.law_legal.proofs.ReadFetches.{been_now}
use Rattle.law_legal.proofs.KeptBesideOthers.{change_of}
use Rattle.law_legal.proofs.VolumesAreIdeal.{AreBlank, blank_key, no_more}
use Rattle.law_legal.proofs.VersionsLatest.{has_onto}
use Rattle.law_legal.proofs.VolumeOperations.{Storing, amend_of, change_same, storing, stored_fid, stored_vnode}
use Rattle.law_legal.proofs.ActCalls.{under_more}
use Rattle.law_legal.proofs.VolumeVersionsTold.{AreRecorded, IsAgreed, IsSaved, below_agreed, told_at}
use Rattle.law_legal.proofs.ServerReasons.{IsRead}
use Rattle.law_legal.proofs.ServerSaves.{leaves}
use Rattle.law_legal.proofs.ServerFinds.{last_has}
use Rattle.law_legal.proofs.ServerTells.{Tells, TellsMade}
use Rattle.law_legal.specs.Ideal.{HasBeen, IsLast, TellsIn, TellsOf, call_under, change_key, last_version, shown_status, volume_after}
use Rattle.law_legal.specs.Legal.{HasChange}
use Rattle.law_legal.specs.Past.{answered_key, lines_of, sent_of}
use Rattle.afs_num.specs.declared.calls.AfsFetchStatus.{AfsFetchStatus}
use Rattle.afs_num.specs.declared.calls.FsCall.{FsCall}
use Rattle.afs_num.specs.declared.calls.FsCall.TheVariants as calls
use Rattle.afs_num.specs.declared.calls.FsReply.{FsReply}
use Rattle.afs_num.specs.declared.calls.FsReply.TheVariants as replies
use Rattle.afs_num.specs.declared.histories.ReadBody.TheVariants as seen
use Rattle.afs_num.specs.declared.histories.Version.{Version}
use Rattle.afs_num.specs.declared.messages.Carried.{Carried}
use Rattle.afs_num.specs.declared.messages.Carried.TheVariants as carried
use Rattle.afs_num.specs.declared.messages.Message.{Message}
use Rattle.afs_num.specs.declared.messages.Reply.TheVariants as tell
use Rattle.afs_num.specs.declared.types.Fid.{Fid}
use Rattle.afs_num.specs.declared.types.Key.{Key}
use Rattle.spec_records.specs.Durable.{time_in}
use Rattle.spec_rows.specs.ClientRow.{call_of, status_told}
use Rattle.spec_rows.specs.Going.{Going}
use Rattle.spec_rows.specs.Runs.{Cell, Entry}
use Rattle.spec_rows.specs.ServerRow.{Change, Reading, carried_by, promise_ticks, result, stored_by}
use Rattle.std.proofs.Common.{◌≡◌, ◌+◌, ℕ, ◌⊎◌, inl, inr, Bool, cond, eq-eqb, List, [], ◌∷◌, ◌++◌, Option, Some, None, refl, sym, ap, subst, ◌∙◌}
use Rattle.std.specs.Option.{option_map}

-- ---- where a change was told

pub under_over : (k : Key) (newer older : List Entry) (x : List ℕ × FsCall) → call_under k (sent_of older) ≡ Some x → call_under k (sent_of (newer ++ older)) ≡ Some x
under_over k [] older x e = e
under_over k (y ∷ newer) older x e = under_more k (sent_of (newer ++ older)) y.sent x (under_over k newer older x e)

pub no_key : (ls : List Line) (k : Key) → AreBlank ls → change_key ls ≡ Some k → ⊥
no_key ls k b e = let none : change_key ls ≡ None = ap change_key (sym (no_more ls)) ∙ blank_key ls [] b in let no_ : None ≡ Some k = sym none ∙ e in absurd cc

saved_key : (s : Script) (past : List Entry) (y : Entry) (z : IsSaved s past y) (k : Key) → change_key y.lines ≡ Some k → z.key ≡ k
saved_key s past y z k e = some_of z.key k (sym (ap change_key z.split ∙ blank_key z.front _ z.before) ∙ e)

-- the entry that tells a key's change
pub record IsTelling (s : Script) (k : Key) (at : Entry) (older : List Entry) : Type 0 where
  pub saved : IsSaved s older at
  pub same : saved.key ≡ k
  pub agreed : IsAgreed s older
  pub after : IsAgreed s (at ∷ older)

telling_by : (s : Script) (k : Key) (at d : Entry) (older : List Entry) → AreBlank at.lines ⊎ IsSaved s (d ∷ older) at → IsAgreed s (d ∷ older) → IsAgreed s (at ∷ (d ∷ older)) → change_key at.lines ≡ Some k → IsTelling s k at (d ∷ older)
telling_by s k at d older (inl b) A C e = absurd (no_key at.lines k b e)
telling_by s k at d older (inr z) A C e = record { saved = z; same = saved_key s (d ∷ older) at z k e; agreed = A; after = C }

here_agreed : (s : Script) (newer : List Entry) (at d : Entry) (older : List Entry) → AreRecorded s (newer ++ (at ∷ (d ∷ older))) → IsAgreed s (at ∷ (d ∷ older))
here_agreed s [] at d older h = h.0.1
here_agreed s (y ∷ newer) at d older h = here_agreed s newer at d older h.1

-- the set-up tells no change
pub telling : (s : Script) (k : Key) (newer : List Entry) (at d : Entry) (older : List Entry) → AreRecorded s (newer ++ (at ∷ (d ∷ older))) → change_key at.lines ≡ Some k → IsTelling s k at (d ∷ older)
telling s k newer at d older h e = telling_by s k at d older (told_at s newer at d older h) (below_agreed s newer at d older h) (here_agreed s newer at d older h) e

-- ---- what a store's reply tells

abbrev pub status_in : Carried → Option AfsFetchStatus
status_in (carried.Reply (tell.File (replies.StoreData status sync))) = Some status
status_in (carried.Reply (tell.File (replies.StoreAcl status sync))) = Some status
status_in (carried.Reply (tell.File (replies.StoreStatus status sync))) = Some status
status_in c = None

made_status : (call : FsCall) (f : Fid) (expiry id : ℕ) (caller : Caller) (times : Fid → ℕ) (v : Volume) (n : ℕ) → stored_fid call ≡ Some f → status_in (carried_by expiry (change_reply id caller times v n call)) ≡ Some (vnode_status id caller times v f.vnode)
made_status (calls.StoreData g st p w l b) f expiry id caller times v n is = let same : g ≡ f = cc in ap (λ (h : Fid). Some (vnode_status id caller times v h.vnode)) same
made_status (calls.StoreAcl g acl) f expiry id caller times v n is = let same : g ≡ f = cc in ap (λ (h : Fid). Some (vnode_status id caller times v h.vnode)) same
made_status (calls.StoreStatus g st) f expiry id caller times v n is = let same : g ≡ f = cc in ap (λ (h : Fid). Some (vnode_status id caller times v h.vnode)) same
made_status call f expiry id caller times v n is = absurd cc

-- the version that the store of this key made, behind the entry that tells it
pub record IsStore (call : FsCall) (f : Fid) (status : AfsFetchStatus) (k : Key) (past : List Entry) : Type 0 where
  pub newer : List Entry
  pub at : Entry
  pub older : List Entry
  pub split : past ≡ newer ++ (at ∷ older)
  pub key : change_key at.lines ≡ Some k
  pub leaves' : Leaves call f status.sync_counter (lines_of (at ∷ older))
  pub been : HasBeen f status.sync_counter (seen.Status (status_told status)) (at ∷ older)
  pub last : IsLast f status.sync_counter (lines_of (at ∷ older))
  pub before : ℕ
  pub was : IsLast f before (lines_of older)
  pub above : status.sync_counter ≡ before + 1

status_is : (id : ℕ) (caller : Caller) (times : Fid → ℕ) (V : Volume) (n : ℕ) (x : Vnode) → get n V.vnodes ≡ Some x → (vnode_status id caller times V n).sync_counter ≡ x.index
status_is id caller times V n x e = ap (λ (o : Option Vnode). (vnode_or_none o).index) e

told_is : (id : ℕ) (caller : Caller) (times : Fid → ℕ) (V : Volume) (n : ℕ) (x : Vnode) → get n V.vnodes ≡ Some x → shown_status x ≡ status_told (vnode_status id caller times V n)
told_is id caller times V n x e = ap (λ (o : Option Vnode). shown_status (vnode_or_none o)) (sym e)

unique_found : (u : ℕ) (x : Vnode) → x.unique ≡ u → if_unique u (Some x) ≡ Some x
unique_found u x e = ap (λ (t : Bool). cond t (Some x) None) (eq-eqb x.unique u e)

-- the volume before, and behind
record IsStep (f : Fid) (call : FsCall) (user : List ℕ) (id : ℕ) (v : Volume) (es : List Edit) (shown : ℕ) (at : Entry) (older : List Entry) : Type 0 where
  volume : f.volume ≡ id
  result' : op id (the_user user) call v ≡ changes es shown
  before : Sound id v (lines_of older)
  after : volume_after id (at ∷ older) ≡ Some (counted (edited_all id es v))
  behind : Sound id (counted (edited_all id es v)) (lines_of (at ∷ older))

stored : (f : Fid) (call : FsCall) (user : List ℕ) (id : ℕ) (v : Volume) (es : List Edit) (shown : ℕ) (k : Key) (newer : List Entry) (at : Entry) (older : List Entry) (caller : Caller) (times : Fid → ℕ) → stored_fid call ≡ Some f → change_key at.lines ≡ Some k → IsStep f call user id v es shown at older
    → IsStore call f (vnode_status id caller times (counted (edited_all id es v)) f.vnode) k (newer ++ (at ∷ older))
stored f call user id v es shown k newer at older caller times is key S =
    let V : Volume = counted (edited_all id es v) in
    let x : Storing f (amend_of call) v es shown = storing id (the_user user) call f v es shown is S.result' in
    let new : Vnode = amended (v.counter + 1) (amend_of call) x.vnode in
    let got : get f.vnode V.vnodes ≡ Some new = stored_vnode id f (amend_of call) v es shown x in
    let st : AfsFetchStatus = vnode_status id caller times V f.vnode in
    let on : (P : Fid → Type 0) → P (fid_at id f.vnode x.vnode.unique) → P f = λ P h. subst (λ (i : ℕ). P (fid_at i f.vnode f.unique)) (sym S.volume) (subst (λ (u : ℕ). P (fid_at id f.vnode u)) x.unique h) in
    let before : last_version f (lines_of older) ≡ Some (version_at id f.vnode x.vnode) = on (λ (g : Fid). last_version g (lines_of older) ≡ Some (version_at id f.vnode x.vnode)) (there id f.vnode v x.vnode (lines_of older) x.found S.before) in
    let last : last_version f (lines_of (at ∷ older)) ≡ Some (version_at id f.vnode new) = on (λ (g : Fid). last_version g (lines_of (at ∷ older)) ≡ Some (version_at id f.vnode new)) (there id f.vnode V new (lines_of (at ∷ older)) got S.behind) in
    let index : st.sync_counter ≡ x.vnode.index + 1 = status_is id caller times V f.vnode new got in
    record {
      newer = newer;
      at = at;
      older = older;
      split = refl;
      key = key;
      leaves' = subst (λ (i : ℕ). Leaves call f i (lines_of (at ∷ older))) (sym index)
          (leaves call f id (v.counter + 1) user v es shown x.vnode (lines_of (at ∷ older)) is S.result' x.found
          (has_onto f x.vnode.index (body_of x.vnode) at.lines (lines_of older) (last_has f (lines_of older) (version_at id f.vnode x.vnode) before))
          (last_has f (lines_of (at ∷ older)) (version_at id f.vnode new) last));
      been = been_now f st.sync_counter (seen.Status (status_told st)) (at ∷ older)
          (subst (TellsOf f st.sync_counter (seen.Status (status_told st))) (sym (ap (λ (i : ℕ). volume_after i (at ∷ older)) S.volume ∙ S.after))
          (subst (TellsIn st.sync_counter (seen.Status (status_told st))) (sym (ap (if_unique f.unique) got ∙ unique_found f.unique new x.unique)) (sym (status_is id caller times V f.vnode new got), told_is id caller times V f.vnode new got)));
      last = ap (option_map (λ (w : Version). w.index)) last ∙ ap Some (sym index);
      before = x.vnode.index;
      was = ap (option_map (λ (w : Version). w.index)) before;
      above = index;
    }

-- ---- where the reply comes

stored_volume : (call : FsCall) (f : Fid) (id : ℕ) → stored_fid call ≡ Some f → volume_called call ≡ Some id → f.volume ≡ id
stored_volume (calls.StoreData g st p w l b) f id is e = let same : g ≡ f = cc in ap (λ (h : Fid). h.volume) (sym same) ∙ some_of g.volume id e
stored_volume (calls.StoreAcl g acl) f id is e = let same : g ≡ f = cc in ap (λ (h : Fid). h.volume) (sym same) ∙ some_of g.volume id e
stored_volume (calls.StoreStatus g st) f id is e = let same : g ≡ f = cc in ap (λ (h : Fid). h.volume) (sym same) ∙ some_of g.volume id e
stored_volume call f id is e = absurd cc

-- a store isn't answered by what was read
no_read : (V : ℕ → Option Volume) (call : FsCall) (r : Reading) (f : Fid) → stored_fid call ≡ Some f → IsRead V call r → ⊥
no_read V (calls.StoreData g st p w l b) r f is h = h
no_read V (calls.StoreAcl g acl) r f is h = h
no_read V (calls.StoreStatus g st) r f is h = h
no_read V call r f is h = absurd cc

call_same : (a b : List ℕ × FsCall) → a ≡ b → (a.0 ≡ b.0) × (a.1 ≡ b.1)
call_same a b e = (ap (λ (p : List ℕ × FsCall). p.0) e, ap (λ (p : List ℕ × FsCall). p.1) e)

-- of the operation that both tell
made_step : (s : Script) (k : Key) (at : Entry) (older : List Entry) (f : Fid) (call : FsCall) (user : List ℕ) (ch : Change) → (T : IsTelling s k at older) → stored_fid call ≡ Some f → T.saved.ideal.call ≡ call → T.saved.ideal.user ≡ user → volume_called call ≡ Some ch.id → volume_after ch.id older ≡ Some ch.before.volume
    → op ch.id (the_user user) call ch.before.volume ≡ changes ch.edits ch.shown → IsStep f call user ch.id ch.before.volume ch.edits ch.shown at older
made_step s k at older f call user ch T is its_call its_user of_volume volume res =
    let I = T.saved.ideal in
    let id : I.id ≡ ch.id = some_of I.id ch.id (sym I.of_volume ∙ (ap volume_called its_call ∙ of_volume)) in
    let before : I.before ≡ ch.before.volume = some_of I.before ch.before.volume (sym I.at ∙ (ap (λ (i : ℕ). volume_after i older) id ∙ volume)) in
    let both_ : changes I.edits I.shown ≡ changes ch.edits ch.shown = sym I.result ∙ (ap (λ (i : ℕ). op i (the_user I.user) I.call I.before) id ∙ (ap (λ (u : List ℕ). op ch.id (the_user u) I.call I.before) its_user
    ∙ (ap (λ (x : FsCall). op ch.id (the_user user) x I.before) its_call ∙ (ap (op ch.id (the_user user) call) before ∙ res)))) in
    let edits : I.edits ≡ ch.edits = (change_same I.edits ch.edits I.shown ch.shown both_).0 in
    let after : volume_after ch.id (at ∷ older) ≡ Some (counted (edited_all ch.id ch.edits ch.before.volume)) = ap (λ (i : ℕ). volume_after i (at ∷ older)) (sym id) ∙ (T.saved.after ∙ (ap (λ (i : ℕ). Some (counted (edited_all i I.edits I.before))) id
    ∙ (ap (λ (es : List Edit). Some (counted (edited_all ch.id es I.before))) edits ∙ ap (λ (v : Volume). Some (counted (edited_all ch.id ch.edits v))) before))) in
    record {
      volume = stored_volume call f ch.id is of_volume;
      result' = res;
      before = subst (λ (o : Option Volume). SoundIn ch.id o (lines_of older)) volume (T.agreed.sound ch.id);
      after = after;
      behind = subst (λ (o : Option Volume). SoundIn ch.id o (lines_of (at ∷ older))) after (T.after.sound ch.id);
    }

made_store : (s : Script) (c : Cell) (past : List Entry) (n : ℕ) (act : Going) (m : Message) (call : FsCall) (f : Fid) (status : AfsFetchStatus) (V : ℕ → Option Volume) (ls : List Line) (newer : List Entry) (at : Entry) (older : List Entry) → Based s c past → (a : Arrives s c past n act m) → call_of (c.clients n) act ≡ call → stored_fid call ≡ Some f → status_in m.carried ≡ Some status
    → (z : TellsMade V a.tells.user a.tells.call m ls past) → past ≡ newer ++ (at ∷ older) → change_key at.lines ≡ Some (answered_key m.head) → volume_after z.change.id older ≡ Some z.change.before.volume → IsStore call f status (last_key n (c.clients n)) past
made_store s c past n act m call f status V ls newer at [] B a same is told z split key volume = absurd cc
made_store s c past n act m call f status V ls newer at (d ∷ older) B a same is told z split key volume =
    let k : Key = answered_key m.head in
    let ch : Change = z.change in
    let t : Tells m past = a.tells in
    let T : IsTelling s k at (d ∷ older) = telling s k newer at d older (subst (AreRecorded s) split B.recorded.all) key in
    let I = T.saved.ideal in
    let its : t.call ≡ call = a.call ∙ same in
    let one : call_under k (sent_of past) ≡ Some (I.user, I.call) = subst (λ (p : List Entry). call_under k (sent_of p) ≡ Some (I.user, I.call)) (sym split) (under_over k newer (at ∷ (d ∷ older)) (I.user, I.call) (under_more k (sent_of (d ∷ older)) at.sent (I.user, I.call)
    (subst (λ (l : Key). call_under l (sent_of (d ∷ older)) ≡ Some (I.user, I.call)) T.same I.one))) in
    let p = call_same (I.user, I.call) ((c.clients n).user, call_of (c.clients n) act) (some_of (I.user, I.call) ((c.clients n).user, call_of (c.clients n) act) (sym one ∙ (ap (λ (l : Key). call_under l (sent_of past)) a.key ∙ (around s c past n B).under act a.runs))) in
    let S : IsStep f call t.user ch.id ch.before.volume ch.edits ch.shown at (d ∷ older) = made_step s k at (d ∷ older) f call t.user ch T is (p.1 ∙ same) (p.0 ∙ sym a.user) (ap volume_called (sym its) ∙ z.making.of_volume) volume
    (ap (λ (x : FsCall). op ch.id (the_user t.user) x ch.before.volume) (sym its) ∙ z.making.result) in
    let st : AfsFetchStatus = vnode_status ch.id ch.caller (time_in (stored_by z.clock ch)) (result ch) f.vnode in
    let E : ℕ = z.clock + promise_ticks in
    let is_st : Some status ≡ Some st = sym told ∙ (ap status_in z.is ∙ (ap (λ (x : FsCall). status_in (carried_by E (change_reply ch.id ch.caller (time_in (stored_by z.clock ch)) (result ch) ch.shown x))) (z.making.called ∙ its) ∙ made_status call f E ch.id ch.caller (time_in (stored_by z.clock ch)) (result ch) ch.shown is)) in
    subst (λ (l : Key). IsStore call f status l past) a.key (subst (λ (x : AfsFetchStatus). IsStore call f x k past) (sym (some_of status st is_st))
    (subst (IsStore call f st k) (sym split) (stored f call t.user ch.id ch.before.volume ch.edits ch.shown k newer at (d ∷ older) ch.caller (time_in (stored_by z.clock ch)) is key S)))

pub store_of : (s : Script) (c : Cell) (past : List Entry) (n : ℕ) (act : Going) (m : Message) (r : FsReply) (call : FsCall) (f : Fid) (status : AfsFetchStatus) → Based s c past → (a : Arrives s c past n act m) → m.carried ≡ carried.Reply (tell.File r) → call_of (c.clients n) act ≡ call → stored_fid call ≡ Some f → status_in m.carried ≡ Some status
    → IsStore call f status (last_key n (c.clients n)) past
store_of s c past n act m r call f status B a file same is told = elim a.tells.says [
  | inl y ↦ absurd (not_refused m.carried r file y.refused)
  | inr y ↦ elim y [
    | inl z ↦ absurd (no_read _ a.tells.call z.reading f (ap stored_fid (a.call ∙ same) ∙ is) z.read.is)
    | inr z ↦ made_store s c past n act m call f status _ _ z.here.newer z.here.at z.here.older B a same is told z z.here.split z.here.key z.here.volume
  ]
]

read_unchanging : (V : ℕ → Option Volume) (call : FsCall) (r : Reading) → IsRead V call r → volume_changed call ≡ None
read_unchanging V (calls.FetchData g p w) r h = refl
read_unchanging V (calls.FetchAcl g) r h = refl
read_unchanging V (calls.FetchStatus g) r h = refl
read_unchanging V (calls.GetVolumeStatus n) r h = refl
read_unchanging V (calls.GiveUpCallBacks fids callbacks) r h = refl
read_unchanging V calls.GetTime r h = refl
read_unchanging V (calls.BulkStatus fids) r h = refl
read_unchanging V call r h = absurd h

-- the reply with code 0 to a changing call: its change was told
pub done_of : (s : Script) (c : Cell) (past : List Entry) (n : ℕ) (act : Going) (m : Message) (r : FsReply) → (a : Arrives s c past n act m) → m.carried ≡ carried.Reply (tell.File r) → (volume_changed (call_of (c.clients n) act) ≡ None) ⊎ HasChange (last_key n (c.clients n)) (lines_of past)
done_of s c past n act m r a file = elim a.tells.says [
  | inl y ↦ absurd (not_refused m.carried r file y.refused)
  | inr y ↦ elim y [
    | inl z ↦ inl (ap volume_changed (sym a.call) ∙ read_unchanging _ a.tells.call z.reading z.read.is)
    | inr z ↦ inr (subst (λ (k : Key). HasChange k (lines_of past)) a.key (change_of (answered_key m.head) past z.here.newer z.here.at z.here.older z.here.split z.here.key))
  ]
]

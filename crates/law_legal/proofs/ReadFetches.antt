-- What a reply to a reading call of a client brings: what the object was where the call ran, and the promise that was made there.
use Rattle.law_legal.proofs.ClientCallsByTable.{server_at}
use Rattle.spec_history.specs.declared.lines.Line.{Line}
use Rattle.spec_history.specs.declared.scripts.Script.{Script}
use Rattle.spec_ideal.specs.AccessLists.{acl_text}
use Rattle.spec_ideal.specs.Operations.{Caller, Found}
use Rattle.spec_ideal.specs.Volumes.{Volume, a_directory, body_of, bytes_by, type_of, version_at, vnode_of}
use Rattle.law_legal.proofs.BaseLaws.{both}
use Rattle.law_legal.proofs.VolumeEdits.{Sound, SoundIn, live_index}
use Rattle.law_legal.proofs.BaseWords.{IsBody, IsWhole}
use Rattle.law_legal.proofs.VolumesAreIdeal.{AreBlank, is_blank}
use Rattle.law_legal.proofs.VersionsLatest.{has_onto}
use Rattle.law_legal.proofs.ServerReasons.{AllSeen, IsAsked, IsOneOf, IsRead}
use Rattle.law_legal.proofs.VolumeVersionsTold.{IsAgreed}
use Rattle.law_legal.proofs.ServerFinds.{IsAmong, body_there, last_has, own_found, told_kind, told_there}
use Rattle.law_legal.proofs.ServerTells.{AreGranted, HasGrant}
use Rattle.law_legal.specs.Breaks.{HasStopped}
use Rattle.law_legal.specs.Grants.{GrantOf}
use Rattle.law_legal.specs.Ideal.{HasBeen, HasVersion, IsLast, TellsOf, IsPutAt, last_version, shown_status, volume_after}
use Rattle.law_legal.specs.Past.{IsReply, Ran, code_told, lines_of}
use Rattle.afs_num.specs.declared.calls.AfsCallBack.{AfsCallBack}
use Rattle.afs_num.specs.declared.calls.AfsFetchStatus.{AfsFetchStatus}
use Rattle.afs_num.specs.declared.calls.FsCall.{FsCall}
use Rattle.afs_num.specs.declared.calls.FsCall.TheVariants as calls
use Rattle.afs_num.specs.declared.calls.FsReply.{FsReply}
use Rattle.afs_num.specs.declared.calls.FsReply.TheVariants as replies
use Rattle.afs_num.specs.declared.histories.Actor.TheVariants as actors
use Rattle.afs_num.specs.declared.histories.Body.{Body}
use Rattle.afs_num.specs.declared.histories.ReadBody.{ReadBody}
use Rattle.afs_num.specs.declared.histories.ReadBody.TheVariants as seen
use Rattle.afs_num.specs.declared.histories.ReadStatus.{ReadStatus}
use Rattle.afs_num.specs.declared.histories.Version.{Version}
use Rattle.afs_num.specs.declared.messages.Call.TheVariants as ask
use Rattle.afs_num.specs.declared.messages.Carried.TheVariants as carried
use Rattle.afs_num.specs.declared.messages.Message.{Message}
use Rattle.afs_num.specs.declared.types.Fid.{Fid}
use Rattle.afs_num.specs.declared.types.Node.{Node}
use Rattle.afs_num.specs.declared.types.Node.TheVariants.{Client, Server}
use Rattle.spec_records.specs.Durable.{Stored}
use Rattle.spec_rows.specs.ClientRow.{body_told, status_told}
use Rattle.spec_rows.specs.Runs.{Entry, locations}
use Rattle.spec_rows.specs.ServerRow.{Reading, Sight, promise_until, promised_in, sight_status}
use Rattle.spec_shape.specs.Rows.{no_callback}
use Rattle.std.proofs.Common.{◌≡◌, ℕ, inl, inr, List, [], ◌∷◌, ◌++◌, map, Option, Some, None, pos, refl, sym, ap, subst, ◌∙◌}
use Rattle.std.specs.Option.{option_map}
use Rattle.std.specs.Prelude.{⊤}

-- ---- further entries

pub has_over : (f : Fid) (i : ℕ) (b : Body) (newer older : List Entry) → HasVersion f i b (lines_of older) → HasVersion f i b (lines_of (newer ++ older))
has_over f i b [] older h = h
has_over f i b (e ∷ newer) older h = has_onto f i b e.lines (lines_of (newer ++ older)) (has_over f i b newer older h)

pub been_over : (f : Fid) (i : ℕ) (b : ReadBody) (newer older : List Entry) → HasBeen f i b older → HasBeen f i b (newer ++ older)
been_over f i b [] older h = h
been_over f i b (e ∷ newer) older h = inr (been_over f i b newer older h)

pub been_now : (f : Fid) (i : ℕ) (b : ReadBody) (past : List Entry) → TellsOf f i b (volume_after f.volume past) → HasBeen f i b past
been_now f i b [] h = absurd h
been_now f i b (e ∷ past) h = inl h

-- ---- what was read

-- the reply, with code 0, is that of the entry that ran this call
pub record IsBy (j : ℕ) (m : Message) (past : List Entry) : Type 0 where
  pub ran : Ran m.head past
  pub reply : IsReply m
  pub told : code_told m.carried ≡ Some (pos 0)
  pub to : m.head.to ≡ Client j
  pub user : List ℕ
  pub call : FsCall
  pub carries : ran.message.carried ≡ carried.Call user (ask.File call)

-- what it brings of an object: what that was, under its last index, and the promise of the volume's server; and that server told no version
-- there, and didn't stop
pub record IsSight (s : Script) (j : ℕ) (m : Message) (past : List Entry) (q : IsBy j m past) (f : Fid) (index : ℕ) (status : ReadStatus) (body : Option Body) (expiry : ℕ) : Type 0 where
  pub line : HasGrant m.head.from (Client j) f index expiry q.ran.at.lines
  pub home : IsPutAt f.volume m.head.from s.volumes
  pub whole : IsWhole f index status body past
  pub last : IsLast f index (lines_of q.ran.older)
  pub blank : AreBlank q.ran.at.lines
  pub going : HasStopped m.head.from q.ran.at.lines → ⊥

abbrev pub grant_by : (s : Script) (j : ℕ) (m : Message) (past : List Entry) (q : IsBy j m past) (f : Fid) (index : ℕ) (status : ReadStatus) (body : Option Body) (expiry : ℕ) → IsSight s j m past q f index status body expiry → GrantOf (Client j) f expiry m past
grant_by s j m past q f index status body expiry x = record {
  is_reply = q.reply;
  told = q.told;
  to = q.to;
  ran = q.ran;
  server = m.head.from;
  node = q.ran.node ∙ ap actors.Node q.ran.callee;
  index = index;
  before = x.line.before;
  after = x.line.after;
  line = x.line.split;
}

-- what it brings of the rights of a directory
pub record IsRights (f : Fid) (index : ℕ) (text : List ℕ) (past older : List Entry) : Type 0 where
  pub is : Body
  pub told : HasVersion f index is (lines_of past)
  pub been : HasBeen f index (seen.AccessList text) past
  pub last : IsLast f index (lines_of older)

pub last_found : (f : Fid) (v : Volume) (x : _) (ls : List Line) → Sound f.volume v ls → vnode_of f v ≡ Some x → last_version f ls ≡ Some (version_at f.volume f.vnode x)
last_found f v x ls h found = live_index _ _ (h.agree f.vnode f.unique ∙ ap (option_map (version_at f.volume f.vnode)) found)

pub blank_front : (before : List Line) (l : Line) (after : List Line) → AreBlank (before ++ l ∷ after) → AreBlank before
blank_front [] l after h = refl
blank_front (x ∷ before) l after h = let q = both (is_blank x) _ h in rw (q.0, blank_front before l after q.1) refl

-- a vnode of the ideal volume, as it was found
pub seen_sound : (s : Script) (older : List Entry) (f : Fid) (v : Volume) → IsAgreed s older → volume_after f.volume older ≡ Some v → Sound f.volume v (lines_of older)
seen_sound s older f v A at = subst (λ (o : Option Volume). SoundIn f.volume o (lines_of older)) at (A.sound f.volume)

sight : (s : Script) (j : ℕ) (m : Message) (past : List Entry) (q : IsBy j m past) (expiry : ℕ) (f : Found) (st : Stored) (b : Option Body) → IsAgreed s q.ran.older → volume_after f.fid.volume q.ran.older ≡ Some st.volume → vnode_of f.fid st.volume ≡ Some f.vnode → HasGrant m.head.from m.head.to f.fid f.vnode.index expiry q.ran.at.lines
    → AreBlank q.ran.at.lines → (HasStopped m.head.from q.ran.at.lines → ⊥) → m.head.from ≡ Server (server_at (locations s) f.fid.volume) → IsBody b (body_told (type_of f.vnode.kind) (bytes_by f.vnode.kind f.vnode)) → IsSight s j m past q f.fid f.vnode.index (shown_status f.vnode) b expiry
sight s j m past q expiry f st b A at found g blank going home body =
    let older : List Entry = q.ran.older in
    let last : last_version f.fid (lines_of older) ≡ Some (version_at f.fid.volume f.fid.vnode f.vnode) = last_found f.fid st.volume f.vnode (lines_of older) (seen_sound s older f.fid st.volume A at) found in
    let back : body_told (type_of f.vnode.kind) (bytes_by f.vnode.kind f.vnode) ≡ body_of f.vnode = told_kind f.fid.vnode f.vnode.kind f.vnode ((A.fine f.fid.volume st.volume at).readable f.fid.vnode f.vnode (own_found f.fid.unique _ f.vnode found)) in
    let on : (P : List Entry → Type 0) → P (q.ran.newer ++ (q.ran.at ∷ older)) → P past = λ P h. subst P (sym q.ran.split) h in
    record {
      line = subst (λ (n : Node). HasGrant m.head.from n f.fid f.vnode.index expiry q.ran.at.lines) q.to g;
      home = subst (λ (n : Node). IsPutAt f.fid.volume n s.volumes) (sym home) (A.home f.fid.volume st.volume at);
      whole = record {
        is = body_told (type_of f.vnode.kind) (bytes_by f.vnode.kind f.vnode);
        told = on (λ (p : List Entry). HasVersion f.fid f.vnode.index (body_told (type_of f.vnode.kind) (bytes_by f.vnode.kind f.vnode)) (lines_of p)) (has_over f.fid f.vnode.index _ q.ran.newer (q.ran.at ∷ older) (has_onto f.fid f.vnode.index _ q.ran.at.lines (lines_of older)
            (subst (λ (x : Body). HasVersion f.fid f.vnode.index x (lines_of older)) (sym back) (last_has f.fid (lines_of older) (version_at f.fid.volume f.fid.vnode f.vnode) last))));
        holds = body;
        been = on (HasBeen f.fid f.vnode.index (seen.Status (shown_status f.vnode))) (been_over f.fid f.vnode.index (seen.Status (shown_status f.vnode)) q.ran.newer (q.ran.at ∷ older) (inr (been_now f.fid f.vnode.index (seen.Status (shown_status f.vnode)) older
            (told_there f.fid f.vnode.index (seen.Status (shown_status f.vnode)) (volume_after f.fid.volume older) st.volume f.vnode (sym at) found (refl, refl)))));
      };
      last = ap (option_map (λ (v : Version). v.index)) last;
      blank = blank;
      going = going;
    }

rights : (s : Script) (f : Found) (st : Stored) (newer : List Entry) (at : Entry) (older : List Entry) → IsAgreed s older → volume_after f.fid.volume older ≡ Some st.volume → vnode_of f.fid st.volume ≡ Some f.vnode → f.vnode.kind ≡ a_directory → IsRights f.fid f.vnode.index (acl_text f.vnode.acl) (newer ++ (at ∷ older)) older
rights s f st newer at older A in_volume found kind =
    let last : last_version f.fid (lines_of older) ≡ Some (version_at f.fid.volume f.fid.vnode f.vnode) = last_found f.fid st.volume f.vnode (lines_of older) (seen_sound s older f.fid st.volume A in_volume) found in
    record {
      is = body_of f.vnode;
      told = has_over f.fid f.vnode.index (body_of f.vnode) newer (at ∷ older) (has_onto f.fid f.vnode.index (body_of f.vnode) at.lines (lines_of older) (last_has f.fid (lines_of older) (version_at f.fid.volume f.fid.vnode f.vnode) last));
      been = been_over f.fid f.vnode.index (seen.AccessList (acl_text f.vnode.acl)) newer (at ∷ older) (inr (been_now f.fid f.vnode.index (seen.AccessList (acl_text f.vnode.acl)) older
          (told_there f.fid f.vnode.index (seen.AccessList (acl_text f.vnode.acl)) (volume_after f.fid.volume older) st.volume f.vnode (sym in_volume) found (refl, (refl, kind)))));
      last = ap (option_map (λ (v : Version). v.index)) last;
    }

-- ---- by the call

abbrev pub AreSights : (s : Script) (j : ℕ) (m : Message) (past : List Entry) → IsBy j m past → List Fid → List AfsFetchStatus → List AfsCallBack → Type 0
AreSights s j m past q (f ∷ fs) (t ∷ ts) (c ∷ cs) = IsSight s j m past q f t.sync_counter (status_told t) None c.expiration_time × AreSights s j m past q fs ts cs
AreSights s j m past q fs ts cs = ⊤

abbrev pub Brings : (s : Script) (j : ℕ) (m : Message) (past : List Entry) → IsBy j m past → FsCall → FsReply → Type 0
Brings s j m past q (calls.FetchData f position wanted) (replies.FetchData contents status callback sync) = IsSight s j m past q f status.sync_counter (status_told status) (Some (body_told status.file_type contents)) callback.expiration_time
Brings s j m past q (calls.FetchStatus f) (replies.FetchStatus status callback sync) = IsSight s j m past q f status.sync_counter (status_told status) None callback.expiration_time
Brings s j m past q (calls.FetchAcl f) (replies.FetchAcl text status sync) = IsRights f status.sync_counter text past q.ran.older
Brings s j m past q (calls.BulkStatus fids) (replies.BulkStatus statuses callbacks sync) = AreSights s j m past q fids statuses callbacks
Brings s j m past q call reply = ⊤

abbrev pub At : List Entry → ℕ → Option Volume
At older id = volume_after id older

sights : (s : Script) (j : ℕ) (m : Message) (past : List Entry) (q : IsBy j m past) (expiry : ℕ) (caller : Caller) (fids : List Fid) (xs : List Sight) (granted : List Found) → IsAgreed s q.ran.older → AllSeen (At q.ran.older) fids xs → ((f : Found) → IsAmong f (map (λ (x : Sight). x.found) xs) → IsAmong f granted)
    → AreGranted m.head expiry granted q.ran.at.lines → AreBlank q.ran.at.lines → (HasStopped m.head.from q.ran.at.lines → ⊥) → ((id : ℕ) → IsOneOf id fids → m.head.from ≡ Server (server_at (locations s) id))
    → AreSights s j m past q fids (map (sight_status caller) xs) (map (λ (k : AfsCallBack). promise_until expiry) (map (λ (x : Sight). no_callback) xs))
sights s j m past q expiry caller [] xs granted A seen w g blank going home = tt
sights s j m past q expiry caller (f ∷ fs) [] granted A seen w g blank going home = absurd seen
sights s j m past q expiry caller (f ∷ fs) (x ∷ xs) granted A seen w g blank going home = (
  subst (λ (z : Fid). IsSight s j m past q z x.found.vnode.index (shown_status x.found.vnode) None expiry) (sym seen.0.fid)
      (sight s j m past q expiry x.found x.stored None A seen.0.at seen.0.found (g x.found (w x.found (inl refl))) blank going (home x.found.fid.volume (inl (ap (λ (z : Fid). z.volume) seen.0.fid))) tt),
  sights s j m past q expiry caller fs xs granted A seen.1 (λ y z. w y (inr z)) g blank going (λ id z. home id (inr z)),
)

pub brings : (s : Script) (j : ℕ) (m : Message) (past : List Entry) (q : IsBy j m past) (expiry : ℕ) (call : FsCall) (r : Reading) → IsAgreed s q.ran.older → IsRead (At q.ran.older) call r → AreGranted m.head expiry r.granted q.ran.at.lines → AreBlank q.ran.at.lines → (HasStopped m.head.from q.ran.at.lines → ⊥) → ((id : ℕ) → IsAsked call id → m.head.from ≡ Server (server_at (locations s) id))
    → Brings s j m past q call (promised_in expiry r.reply)
brings s j m past q expiry (calls.FetchData g p w) r A x granted blank going home =
    let b : Option Body = Some (body_told (type_of x.found.vnode.kind) (bytes_by x.found.vnode.kind x.found.vnode)) in
    subst (λ (y : Reading). Brings s j m past q (calls.FetchData g p w) (promised_in expiry y.reply)) (sym x.is)
    (subst (λ (z : Fid). IsSight s j m past q z x.found.vnode.index (shown_status x.found.vnode) b expiry) (sym x.seen.fid)
    (sight s j m past q expiry x.found x.stored b A x.seen.at x.seen.found (granted x.found (subst (λ (y : Reading). IsAmong x.found y.granted) (sym x.is) (inl refl))) blank going (home x.found.fid.volume (ap (λ (z : Fid). Some z.volume) x.seen.fid)) (refl, body_there (type_of x.found.vnode.kind) (bytes_by x.found.vnode.kind x.found.vnode))))
brings s j m past q expiry (calls.FetchStatus g) r A x granted blank going home =
    subst (λ (y : Reading). Brings s j m past q (calls.FetchStatus g) (promised_in expiry y.reply)) (sym x.is)
    (subst (λ (z : Fid). IsSight s j m past q z x.found.vnode.index (shown_status x.found.vnode) None expiry) (sym x.seen.fid)
    (sight s j m past q expiry x.found x.stored None A x.seen.at x.seen.found (granted x.found (subst (λ (y : Reading). IsAmong x.found y.granted) (sym x.is) (inl refl))) blank going (home x.found.fid.volume (ap (λ (z : Fid). Some z.volume) x.seen.fid)) tt))
brings s j m past q expiry (calls.FetchAcl g) r A x granted blank going home =
    subst (λ (y : Reading). Brings s j m past q (calls.FetchAcl g) (promised_in expiry y.reply)) (sym x.look.is)
    (subst (λ (z : Fid). IsRights z x.look.found.vnode.index (acl_text x.look.found.vnode.acl) past q.ran.older) (sym x.look.seen.fid)
    (subst (λ (p : List Entry). IsRights x.look.found.fid x.look.found.vnode.index (acl_text x.look.found.vnode.acl) p q.ran.older) (sym q.ran.split) (rights s x.look.found x.look.stored q.ran.newer q.ran.at q.ran.older A x.look.seen.at x.look.seen.found x.kind)))
brings s j m past q expiry (calls.BulkStatus fids) r A x granted blank going home =
    subst (λ (y : Reading). Brings s j m past q (calls.BulkStatus fids) (promised_in expiry y.reply)) (sym x.is)
    (sights s j m past q expiry x.caller fids x.sights (map (λ (y : Sight). y.found) x.sights) A x.seen (λ y z. z) (λ f z. granted f (subst (λ (y : Reading). IsAmong f y.granted) (sym x.is) z)) blank going home)
brings s j m past q expiry call r A x granted blank going home = tt

-- A call that its client waits for no longer changes nothing of an object any more: it reads, was answered, was refused, or was given up.
use Rattle.law_legal.proofs.VolumesAreIdeal.{at_home, AreBlank, one_place}
use Rattle.law_legal.proofs.OwedLoadBreaks.{onto_both}
use Rattle.spec_history.specs.declared.lines.Line.{Line}
use Rattle.spec_history.specs.declared.lines.Line.TheVariants as lines
use Rattle.spec_history.specs.declared.scripts.Script.{Script}
use Rattle.spec_ideal.specs.Operations.{volume_called, volume_changed}
use Rattle.law_legal.proofs.ActLines.{last_key}
use Rattle.law_legal.proofs.ClientCallsAtHome.{AsksOf}
use Rattle.law_legal.proofs.ClientReplyArrives.{Arrives, Based, around, is_its_call, lines_more}
use Rattle.law_legal.proofs.OwedPasses.{stopped_onto}
use Rattle.law_legal.proofs.BaseLaws.{some_of, up_to_same}
use Rattle.law_legal.proofs.BaseWords.{InScope, scope_is}
use Rattle.law_legal.proofs.ClientCallsByTable.{IsPlaced, placed, server_at}
use Rattle.law_legal.proofs.VersionsLast.{stopped_or}
use Rattle.law_legal.proofs.ServerChangesLater.{HasRunSince, later_key}
use Rattle.law_legal.proofs.KeptByOwnStep.{HasDone, blank_change}
use Rattle.law_legal.proofs.ActCalls.{under_more}
use Rattle.law_legal.proofs.VolumeVersionsTold.{AreRecorded, IsSaved, told_at}
use Rattle.law_legal.proofs.ServerSaves.{later_not}
use Rattle.law_legal.proofs.ReadOwnStores.{under_over}
use Rattle.law_legal.proofs.ServerTells.{TellsNo}
use Rattle.law_legal.proofs.KeptTrusting.{IsKeyed, Stands, since_rest}
use Rattle.law_legal.specs.Breaks.{HasStopped}
use Rattle.law_legal.specs.Grants.{IsWithdrawn}
use Rattle.law_legal.specs.Ideal.{call_under, IsPutAt}
use Rattle.law_legal.specs.Legal.{HasChange}
use Rattle.law_legal.specs.Past.{Ran, answered_key, called_key, given_message, lines_of, lines_on, onto, sent_of, server_boot}
use Rattle.afs_num.specs.declared.calls.FsCall.{FsCall}
use Rattle.afs_num.specs.declared.calls.FsCall.TheVariants as calls
use Rattle.afs_num.specs.declared.histories.Actor.TheVariants as actors
use Rattle.afs_num.specs.declared.histories.Version.{Version}
use Rattle.afs_num.specs.declared.messages.Message.{Message}
use Rattle.afs_num.specs.declared.types.Fid.{Fid}
use Rattle.afs_num.specs.declared.types.Key.{Key}
use Rattle.afs_num.specs.declared.types.Node.{Node}
use Rattle.afs_num.specs.declared.types.Node.TheVariants.{Client, Server}
use Rattle.spec_rows.specs.ClientRow.{call_of}
use Rattle.spec_rows.specs.Going.{ClientState, Going}
use Rattle.spec_rows.specs.Runs.{Cell, Entry, locations}
use Rattle.spec_rows.specs.Scopes.{is_volume}
use Rattle.spec_rows.specs.ServerRow.{versioned}
use Rattle.spec_rows.specs.States.{CacheEntry}
use Rattle.std.proofs.Common.{◌≡◌, ℕ, ◌⊎◌, inl, inr, Bool, true, false, eq-eqb, eqb-true, List, [], ◌∷◌, ◌++◌, Option, Some, None, refl, sym, ap, subst, ◌∙◌}

-- ---- the scope of a call

volume_is : (o : Option ℕ) (id : ℕ) → is_volume id o ≡ true → o ≡ Some id
volume_is None id e = absurd cc
volume_is (Some k) id e = ap Some (eqb-true k id e)

scope_volume : (call : FsCall) (f : Fid) → InScope call f → volume_changed call ≡ Some f.volume
scope_volume call f h = volume_is (volume_changed call) f.volume (scope_is call f h)

-- where the call changes nothing of the object's volume
pub done_apart : (n : ℕ) (x : ClientState) (act : Going) (f : Fid) (server : Node) (past : List Entry) → x.running ≡ Some act → (volume_changed (call_of x act) ≡ Some f.volume → ⊥) → HasDone n x f server past
done_apart n x act f server past r out = (
  (λ b q scope has. out (scope_volume (call_of x act) f (subst (λ (g : Going). InScope (call_of x g) f) (some_of b act (sym q ∙ r)) scope))),
  (λ b q. inl (λ z. out (subst (λ (g : Going). volume_changed (call_of x g) ≡ Some f.volume) (some_of b act (sym q ∙ r)) z))),
)

pub done_reading : (n : ℕ) (x : ClientState) (act : Going) (f : Fid) (server : Node) (past : List Entry) → x.running ≡ Some act → volume_changed (call_of x act) ≡ None → HasDone n x f server past
done_reading n x act f server past r reading = done_apart n x act f server past r (λ z. let no_ : None ≡ Some f.volume = sym reading ∙ z in absurd cc)

-- where it was answered with code 0, and the object is none of its scope
pub done_scope : (n : ℕ) (x : ClientState) (act : Going) (f : Fid) (server : Node) (past : List Entry) → x.running ≡ Some act → (InScope (call_of x act) f → ⊥) → (volume_changed (call_of x act) ≡ None) ⊎ HasChange (last_key n x) (lines_of past) → HasDone n x f server past
done_scope n x act f server past r out (inl reading) = done_reading n x act f server past r reading
done_scope n x act f server past r out (inr has) = (
  (λ b q scope z. out (subst (λ (g : Going). InScope (call_of x g) f) (some_of b act (sym q ∙ r)) scope)),
  (λ b q. inr (inl has)),
)

-- ---- a refusal

-- an entry behind another tells a key's change, or that was told before
pub record IsBehindIn (s : Script) (k : Key) (newer : List Entry) (at : Entry) (older : List Entry) : Type 0 where
  pub later : List Entry
  pub told : Entry
  pub between : List Entry
  pub split : newer ≡ later ++ (told ∷ between)
  pub saved : IsSaved s (between ++ (at ∷ older)) told
  pub key : saved.key ≡ k

same_or : (k q : Key) (n : Node) (count : ℕ) (o : List Line) → HasChange k (lines.Change n q count ∷ o) → (q ≡ k) ⊎ HasChange k o
same_or k q n count o h = h

versions_none : (k : Key) (vs : List Version) (ls o : List Line) → AreBlank ls → HasChange k (onto o (versioned vs ls)) → HasChange k o
versions_none k [] ls o b h = blank_change k ls o b h
versions_none k (v ∷ vs) ls o b h = versions_none k vs ls (lines.Version v ∷ o) b h

change_saved : (k : Key) (q : Node) (l : Key) (count : ℕ) (front : List Line) (vs : List Version) (rest o : List Line) → AreBlank front → AreBlank rest → HasChange k (onto o (front ++ (lines.Change q l count ∷ versioned vs rest))) → (l ≡ k) ⊎ HasChange k o
change_saved k q l count front vs rest o b d h =
    elim (same_or k l q count (onto o front) (versions_none k vs rest (lines.Change q l count ∷ onto o front) d (subst (HasChange k) (onto_both o front (lines.Change q l count ∷ versioned vs rest)) h))) [
      | inl e ↦ inl e
      | inr e ↦ inr (blank_change k front o b e)
    ]

regroup : (a : List Entry) (x : Entry) (b c : List Entry) → (a ++ (x ∷ b)) ++ c ≡ a ++ (x ∷ (b ++ c))
regroup [] x b c = refl
regroup (y ∷ a) x b c = ap (λ (p : List Entry). y ∷ p) (regroup a x b c)

told_change : (s : Script) (k : Key) (past : List Entry) (y : Entry) → AreBlank y.lines ⊎ IsSaved s past y → HasChange k (lines_of (y ∷ past)) → ((z : IsSaved s past y) × (z.key ≡ k)) ⊎ HasChange k (lines_of past)
told_change s k past y (inl b) h = inr (blank_change k y.lines (lines_of past) b h)
told_change s k past y (inr z) h = elim (change_saved k (Server z.server) z.key z.count z.front z.versions z.rest (lines_of past) z.before z.behind (subst (λ (ls : List Line). HasChange k (onto (lines_of past) ls)) z.split h)) [
  | inl e ↦ inl (z, e)
  | inr e ↦ inr e
]

told_below : (s : Script) (y : Entry) (newer : List Entry) (at : Entry) (older : List Entry) → AreRecorded s (y ∷ (newer ++ (at ∷ older))) → AreBlank y.lines ⊎ IsSaved s (newer ++ (at ∷ older)) y
told_below s y [] at older h = told_at s [] y at older h
told_below s y (d ∷ newer) at older h = told_at s [] y d (newer ++ (at ∷ older)) h

find_change : (s : Script) (k : Key) (newer : List Entry) (at : Entry) (older : List Entry) → AreRecorded s (newer ++ (at ∷ older)) → HasChange k (lines_of (newer ++ (at ∷ older))) → IsBehindIn s k newer at older ⊎ HasChange k (lines_of (at ∷ older))
find_change s k [] at older R h = inr h
find_change s k (y ∷ newer) at older R h = elim (told_change s k (newer ++ (at ∷ older)) y (told_below s y newer at older R) h) [
  | inl z ↦ inl (record { later = []; told = y; between = newer; split = refl; saved = z.0; key = z.1 })
  | inr z ↦ elim (find_change s k newer at older R.1 z) [
    | inl b ↦ inl (record { later = y ∷ b.later; told = b.told; between = b.between; split = ap (λ (p : List Entry). y ∷ p) b.split; saved = b.saved; key = b.key })
    | inr b ↦ inr b
  ]
]

stopped_more : (server : Node) (later : List Entry) (o : List Line) → HasStopped server o → HasStopped server (lines_on o later)
stopped_more server [] o h = h
stopped_more server (e ∷ later) o h = stopped_onto server e.lines (lines_on o later) (stopped_more server later o h)

-- the server of a volume is the one that the clients know
known_home : (s : Script) (id : ℕ) (q : Node) → IsPutAt id q s.volumes → IsPlaced id s.volumes (locations s) → q ≡ Server (server_at (locations s) id)
known_home s id q at (inl x) = one_place id q (Server (server_at (locations s) id)) s.volumes at x
known_home s id q at (inr away) = absurd (away q at)

asks_volume : (call : FsCall) (id : ℕ) → volume_called call ≡ Some id → AsksOf call id
asks_volume (calls.GiveUpCallBacks fids callbacks) id e = absurd cc
asks_volume calls.GetTime id e = absurd cc
asks_volume (calls.BulkStatus fids) id e = absurd cc
asks_volume call id e = e

changed_called : (call : FsCall) (id : ℕ) → volume_changed call ≡ Some id → volume_called call ≡ Some id
changed_called (calls.FetchData f p w) id e = absurd cc
changed_called (calls.FetchAcl f) id e = absurd cc
changed_called (calls.FetchStatus f) id e = absurd cc
changed_called (calls.GetVolumeStatus k) id e = absurd cc
changed_called call id e = e

-- the server ran the call, refused it, and didn't stop since: it changes nothing under that key
since_refused : (s : Script) (c : Cell) (past : List Entry) (n : ℕ) (act : Going) (m : Message) → Based s c past → (a : Arrives s c past n act m) → (HasStopped m.head.from (lines_on (onto [] a.tells.ran.at.lines) a.tells.ran.newer) → ⊥) → (b : IsBehindIn s (answered_key m.head) a.tells.ran.newer a.tells.ran.at a.tells.ran.older) → ⊥
since_refused s c past n act m B a going b =
    let ran : Ran m.head past = a.tells.ran in
    let k : Key = answered_key m.head in
    let z : IsSaved s (b.between ++ (ran.at ∷ ran.older)) b.told = b.saved in
    let I = z.ideal in
    let below : List Entry = b.between ++ (ran.at ∷ ran.older) in
    let whole : past ≡ b.later ++ (b.told ∷ below) = ran.split ∙ (ap (λ (p : List Entry). p ++ (ran.at ∷ ran.older)) b.split ∙ regroup b.later b.told b.between (ran.at ∷ ran.older)) in
    let one : call_under k (sent_of past) ≡ Some (I.user, I.call) = subst (λ (p : List Entry). call_under k (sent_of p) ≡ Some (I.user, I.call)) (sym whole)
    (under_over k b.later (b.told ∷ below) (I.user, I.call) (under_more k (sent_of below) b.told.sent (I.user, I.call) (subst (λ (l : Key). call_under l (sent_of below) ≡ Some (I.user, I.call)) b.key I.one))) in
    let same : I.call ≡ a.tells.call = ap (λ (p : List ℕ × FsCall). p.1) (some_of (I.user, I.call) ((c.clients n).user, call_of (c.clients n) act) (sym one ∙ (ap (λ (l : Key). call_under l (sent_of past)) a.key ∙ (around s c past n B).under act a.runs))) ∙ sym a.call in
    let asks : AsksOf a.tells.call I.id = subst (λ (q : FsCall). AsksOf q I.id) same (asks_volume I.call I.id I.of_volume) in
    let here : Server z.server ≡ m.head.from = known_home s I.id (Server z.server) (at_home s I.id (Server z.server) (onto [] z.front ++ lines_of below) I.home) (placed I.id s.volumes) ∙ sym (a.homes I.id asks) in
    let key : called_key ran.message.head ≡ z.key = ran.key ∙ sym b.key in
    let r : HasRunSince (Server z.server) z.key below = record {
      newer = b.between;
      at = ran.at;
      older = ran.older;
      split = refl;
      message = ran.message;
      given = ran.given;
      is_call = ran.is_call;
      to = ran.callee ∙ sym here;
      from = ap (λ (l : Key). l.node) key;
      up = subst (λ (q : Node). server_boot q (lines_of ran.older) ≡ Some ran.message.head.boot) (sym here) (ran.up ∙ ap Some (sym ran.boot));
      node = ran.node ∙ (ap actors.Node ran.callee ∙ ap actors.Node (sym here));
      going = λ w. going (subst (λ (p : List Entry). HasStopped m.head.from (lines_on (onto [] ran.at.lines) p)) (sym b.split) (subst (HasStopped m.head.from) (sym (lines_more b.later (b.told ∷ b.between) (onto [] ran.at.lines)))
          (stopped_more m.head.from b.later (onto (lines_on (onto [] ran.at.lines) b.between) b.told.lines) (stopped_onto m.head.from b.told.lines (lines_on (onto [] ran.at.lines) b.between) (subst (λ (q : Node). HasStopped q (lines_on (onto [] ran.at.lines) b.between)) here w)))));
    } in
    later_not z.key (called_key ran.message.head) z.key.epoch z.key.number (ap (λ (l : Key). l.epoch) key) (ap (λ (l : Key). l.number) key) (up_to_same z.key.epoch z.key.number z.key.epoch z.key.number refl refl)
    (later_key s (Server z.server) z.key z.count below (onto [] z.front) (versioned z.versions z.rest) I r)

refused_here : (s : Script) (c : Cell) (past : List Entry) (n : ℕ) (act : Going) (m : Message) (f : Fid) (e : CacheEntry) → Based s c past → (a : Arrives s c past n act m) → TellsNo m (a.tells.ran.at ∷ a.tells.ran.older) → (S : Stands s n (c.clients n) c.clock f e past) → volume_changed (call_of (c.clients n) act) ≡ Some f.volume
    → IsWithdrawn e.server (Client n) f (since_rest s n f e past S.rests) ⊎ HasDone n (c.clients n) f e.server past
refused_here s c past n act m f e B a no_ S volume =
    let ran : Ran m.head past = a.tells.ran in
    let k : Key = last_key n (c.clients n) in
    let asks : AsksOf a.tells.call f.volume = asks_volume a.tells.call f.volume (ap volume_called a.call ∙ changed_called (call_of (c.clients n) act) f.volume volume) in
    let here : e.server ≡ m.head.from = known_home s f.volume e.server S.rests.home (placed f.volume s.volumes) ∙ sym (a.homes f.volume asks) in
    let key : called_key ran.message.head ≡ k = ran.key ∙ a.key in
    let its : IsKeyed k (given_message ran.at.lines (sent_of ran.older)) = subst (IsKeyed k) (sym ran.given) (is_its_call k ran.message.head ran.message.carried a.tells.user a.tells.call a.tells.carries key) in
    elim (stopped_or e.server (lines_on (onto [] ran.at.lines) ran.newer)) [
      | inl z ↦ inl (S.ordered act a.runs ran.newer ran.at ran.older ran.split its z)
      | inr going ↦
          (let on : HasStopped m.head.from (lines_on (onto [] ran.at.lines) ran.newer) → ⊥ = λ z. going (subst (λ (q : Node). HasStopped q (lines_on (onto [] ran.at.lines) ran.newer)) (sym here) z) in
          let R : AreRecorded s (ran.newer ++ (ran.at ∷ ran.older)) = subst (AreRecorded s) ran.split B.recorded.all in
          inr (
            (λ b q scope has. elim (find_change s (answered_key m.head) ran.newer ran.at ran.older R (subst (λ (p : List Entry). HasChange (answered_key m.head) (lines_of p)) ran.split (subst (λ (l : Key). HasChange l (lines_of past)) (sym a.key) has))) [
              | inl w ↦ since_refused s c past n act m B a on w
              | inr w ↦ no_.first w
            ]),
            (λ b q. inr (inr (record {
              run = record {
                newer = ran.newer;
                at = ran.at;
                older = ran.older;
                split = ran.split;
                message = ran.message;
                given = ran.given;
                is_call = ran.is_call;
                to = ran.callee ∙ sym here;
                from = ap (λ (l : Key). l.node) key;
                up = subst (λ (p : Node). server_boot p (lines_of ran.older) ≡ Some ran.message.head.boot) (sym here) (ran.up ∙ ap Some (sym ran.boot));
                node = ran.node ∙ (ap actors.Node ran.callee ∙ ap actors.Node (sym here));
                going = going;
              };
              key = key;
            }))),
          ))
    ]

-- a call that was refused, but where its server stopped since
refused_by : (t : Bool) (s : Script) (c : Cell) (past : List Entry) (n : ℕ) (act : Going) (m : Message) (f : Fid) (e : CacheEntry) → Based s c past → (a : Arrives s c past n act m) → TellsNo m (a.tells.ran.at ∷ a.tells.ran.older) → (S : Stands s n (c.clients n) c.clock f e past) → is_volume f.volume (volume_changed (call_of (c.clients n) act)) ≡ t
    → IsWithdrawn e.server (Client n) f (since_rest s n f e past S.rests) ⊎ HasDone n (c.clients n) f e.server past
refused_by true s c past n act m f e B a no_ S t = refused_here s c past n act m f e B a no_ S (volume_is (volume_changed (call_of (c.clients n) act)) f.volume t)
refused_by false s c past n act m f e B a no_ S t = inr (done_apart n (c.clients n) act f e.server past a.runs (λ z. let yes : is_volume f.volume (volume_changed (call_of (c.clients n) act)) ≡ true = ap (is_volume f.volume) z ∙ eq-eqb f.volume f.volume refl in absurd cc))

pub done_refused : (s : Script) (c : Cell) (past : List Entry) (n : ℕ) (act : Going) (m : Message) (f : Fid) (e : CacheEntry) → Based s c past → (a : Arrives s c past n act m) → TellsNo m (a.tells.ran.at ∷ a.tells.ran.older) → (S : Stands s n (c.clients n) c.clock f e past)
    → IsWithdrawn e.server (Client n) f (since_rest s n f e past S.rests) ⊎ HasDone n (c.clients n) f e.server past
done_refused s c past n act m f e B a no_ S = refused_by (is_volume f.volume (volume_changed (call_of (c.clients n) act))) s c past n act m f e B a no_ S refl

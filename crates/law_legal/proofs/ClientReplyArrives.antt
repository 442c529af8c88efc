-- The reply for which a client waits, where it comes: it tells what the ideal cell made of its call; and what it brings can be shown.
use Rattle.spec_model.specs.Calls.{same_key}
use Rattle.law_legal.proofs.ClientCallsByTable.{server_at}
use Rattle.law_legal.proofs.KeptPasses.{sent_left}
use Rattle.law_legal.proofs.OwedLoadBreaks.{onto_both}
use Rattle.spec_history.specs.declared.lines.Line.{Line}
use Rattle.spec_history.specs.declared.lines.Line.TheVariants as lines
use Rattle.spec_history.specs.declared.scripts.Script.{Script}
use Rattle.spec_ideal.specs.Operations.{the_user, volume_changed}
use Rattle.law_legal.proofs.ActLines.{last_key}
use Rattle.law_legal.proofs.ClientCallsAtHome.{AsksOf, IsHome, IsServer, callee_server}
use Rattle.law_legal.proofs.BaseLaws.{ByClient, Each, IfCall, OfCall, both, by_client, each_at, same_key-refl, same_node-true, some_of, yes_no}
use Rattle.law_legal.proofs.ClientReplyCaused.{is_reply, key_is, ran_one}
use Rattle.law_legal.proofs.VolumeEdits.{index_in}
use Rattle.law_legal.proofs.BaseWords.{IsWhole, Seen}
use Rattle.law_legal.proofs.ReadFetches.{Brings, IsBy, IsSight, blank_front, brings, grant_by}
use Rattle.law_legal.proofs.ServerRefusesForGood.{IsFirm}
use Rattle.law_legal.proofs.KeptBesideOthers.{IsAround, dropped_base}
use Rattle.law_legal.proofs.VolumesAreIdeal.{AreBlank, blank_last}
use Rattle.law_legal.proofs.KeptRestsInRuns.{GivenKept, kept_first, kept_kept}
use Rattle.law_legal.proofs.CallKeysOnce.{HasRun, known_pair, of_change}
use Rattle.law_legal.proofs.VersionsLast.{HasRunAt, OwnChange, fate}
use Rattle.law_legal.proofs.ActChangesOnce.{Lones, lones_first, lones_kept}
use Rattle.law_legal.proofs.RunWalk.{IsKept}
use Rattle.law_legal.proofs.VolumeOperations.{changes_is}
use Rattle.law_legal.proofs.ActAnsweredRecently.{sent_before, sent_given}
use Rattle.law_legal.proofs.VolumeVersionsTold.{AreRecorded, IsAgreed, Recorded, agreed, below_agreed, recorded_first, recorded_kept}
use Rattle.law_legal.proofs.ServerSaves.{later_not}
use Rattle.law_legal.proofs.ClientWaits.{GivenSilent, silent_first, silent_kept}
use Rattle.law_legal.proofs.ServerTells.{IsRefused, IsTold, Tells}
use Rattle.law_legal.proofs.RunClock.{HeldTicks, ticks_first, ticks_kept}
use Rattle.law_legal.proofs.KeptTrusting.{IsKeyed, Waits}
use Rattle.law_legal.proofs.ServerTellsTruth.{Truthful, asks_of, truthful_first, truthful_kept}
use Rattle.law_legal.proofs.ClientSent.{given_each, older_each}
use Rattle.law_legal.specs.Breaks.{HasStopped}
use Rattle.law_legal.specs.ClientParts.{IsUnspoiled}
use Rattle.law_legal.specs.Grants.{GrantOf, IsDropped, IsWithdrawn, since, until}
use Rattle.law_legal.specs.Ideal.{IsLast, call_under, IsPutAt, last_version, set_up_entry}
use Rattle.law_legal.specs.Past.{HasCode, IsReply, Ran, answered_key, called_key, code_told, given_message, has_sent, is_called, lines_of, lines_on, onto, sent_of}
use Rattle.afs_num.specs.Nodes.{same_node}
use Rattle.afs_num.specs.declared.calls.FsCall.{FsCall}
use Rattle.afs_num.specs.declared.calls.FsReply.{FsReply}
use Rattle.afs_num.specs.declared.histories.Actor.TheVariants as actors
use Rattle.afs_num.specs.declared.histories.Body.{Body}
use Rattle.afs_num.specs.declared.histories.ReadStatus.{ReadStatus}
use Rattle.afs_num.specs.declared.histories.Version.{Version}
use Rattle.afs_num.specs.declared.messages.Call.TheVariants as ask
use Rattle.afs_num.specs.declared.messages.Carried.{Carried}
use Rattle.afs_num.specs.declared.messages.Carried.TheVariants as carried
use Rattle.afs_num.specs.declared.messages.Message.{Message}
use Rattle.afs_num.specs.declared.messages.Reply.TheVariants as tell
use Rattle.afs_num.specs.declared.types.Fid.{Fid}
use Rattle.afs_num.specs.declared.types.Head.{Head}
use Rattle.afs_num.specs.declared.types.Key.{Key}
use Rattle.afs_num.specs.declared.types.Node.{Node}
use Rattle.afs_num.specs.declared.types.Node.TheVariants.{Client, Server}
use Rattle.spec_rows.specs.ClientRow.{call_of, is_awaited, names_call, opcode_of}
use Rattle.spec_rows.specs.Going.{ClientState, Going}
use Rattle.spec_rows.specs.Runs.{Cell, Entry, locations, message_at, start}
use Rattle.spec_rows.specs.ServerRow.{promised_in}
use Rattle.std.proofs.Common.{◌≡◌, ◌≤◌, ℕ, ◌⊎◌, inl, inr, true, false, eqb-true, nat_eq, List, [], ◌∷◌, ◌++◌, Option, Some, None, pos, refl, sym, ap, subst, ◌∙◌, le_of_eq}
use Rattle.std.specs.Option.{option_map}
use Rattle.std.specs.Prelude.{◌&&◌}
use Rattle.law_legal.proofs.OwedPasses.{entries_same, entry_same}

-- ---- what is known of a run

pub record Based (s : Script) (c : Cell) (past : List Entry) : Type 0 where
  pub truthful : Truthful s c past
  pub lones : Lones s c past
  pub recorded : Recorded s c past
  pub silent : GivenSilent s c past
  pub kept : GivenKept s c past
  pub ticks : HeldTicks s c past

pub based_kept : (s : Script) → IsKept (Based s)
based_kept s c past x so h = record { truthful = truthful_kept s c past x so h.truthful; lones = lones_kept s c past x so h.lones; recorded = recorded_kept s c past x so h.recorded; silent = silent_kept s c past x so h.silent; kept = kept_kept s c past x so h.kept; ticks = ticks_kept s c past x so h.ticks }

pub based_first : (s : Script) → Based s (start s) (set_up_entry s ∷ [])
based_first s = record { truthful = truthful_first s; lones = lones_first s; recorded = recorded_first s; silent = silent_first s; kept = kept_first s; ticks = ticks_first s }

abbrev pub told_sent : (s : Script) (c : Cell) (past : List Entry) → Based s c past → sent_of past ≡ c.sent
told_sent s c past B = B.truthful.0.0.0.0.hears.told

pub around : (s : Script) (c : Cell) (past : List Entry) (j : ℕ) → Based s c past → IsAround s j (c.clients j) past
around s c past j B = record {
  agreed = agreed s c past B.truthful.0.0.1 B.recorded.ascends.1;
  last = λ act r k own ch. B.lones.0.0.0.1.0 j act r k own ch;
  under = λ act r. ap (call_under (last_key j (c.clients j))) (told_sent s c past B) ∙ B.truthful.0.0.0.1.last j act r;
}

-- ---- the reply to the call for which it waits

pub record Arrives (s : Script) (c : Cell) (past : List Entry) (n : ℕ) (act : Going) (m : Message) : Type 0 where
  pub runs : (c.clients n).running ≡ Some act
  pub reply : IsReply m
  pub to : m.head.to ≡ Client n
  pub from : m.head.from ≡ (c.clients n).callee
  pub key : answered_key m.head ≡ last_key n (c.clients n)
  pub tells : Tells m past
  pub user : tells.user ≡ (c.clients n).user
  pub call : tells.call ≡ call_of (c.clients n) act
  pub homes : (id : ℕ) → AsksOf tells.call id → m.head.from ≡ Server (server_at (locations s) id)

home_of : (s : Script) (past : List Entry) (n : ℕ) (m : Message) (ran : Ran m.head past) (user : List ℕ) (call : FsCall) → ran.message.carried ≡ carried.Call user (ask.File call) → m.head.to ≡ Client n → Each (IfCall (IsHome s)) (sent_of past) → IsHome s ran.message.head user call
home_of s past n m ran user call is to all =
    let from : ran.message.head.from ≡ Client n = ap (λ (k : Key). k.node) ran.key ∙ to in
    let its : IfCall (IsHome s) ran.message = given_each (IfCall (IsHome s)) ran.at.lines (sent_of ran.older) ran.message ran.given (older_each (IfCall (IsHome s)) ran.newer ran.at ran.older (subst (λ (p : List Entry). Each (IfCall (IsHome s)) (sent_of p)) ran.split all)) in
    by_client n ran.message.head.from (IsHome s ran.message.head user call) from (subst (λ (x : Carried). OfCall (ByClient (IsHome s)) ran.message.head x) is its)

pub arrives : (s : Script) (c : Cell) (past : List Entry) (n place : ℕ) (act : Going) (m : Message) → Based s c past → message_at c.sent place ≡ Some m → HasCode m.carried → m.head.to ≡ Client n → (c.clients n).running ≡ Some act → is_awaited (c.clients n) act m.head ≡ true → Arrives s c past n act m
arrives s c past n place act m B at code to runs w =
    let x : ClientState = c.clients n in
    let p = both (same_node m.head.from x.callee) (nat_eq m.head.epoch x.epoch && (nat_eq m.head.number x.last && nat_eq m.head.opcode (opcode_of x act))) w in
    let q = both (nat_eq m.head.epoch x.epoch) (nat_eq m.head.number x.last && nat_eq m.head.opcode (opcode_of x act)) p.1 in
    let epoch : m.head.epoch ≡ x.epoch = eqb-true m.head.epoch x.epoch q.0 in
    let number : m.head.number ≡ x.last = eqb-true m.head.number x.last (both (nat_eq m.head.number x.last) (nat_eq m.head.opcode (opcode_of x act)) q.1).0 in
    let from : m.head.from ≡ x.callee = same_node-true m.head.from x.callee p.0 in
    let h : Truthful s c past = B.truthful in
    let server : IsServer x.callee = callee_server n c.clients act h.0.1.1.0.0 h.0.1.1.0.1 runs in
    let t : Tells m past = each_at (IsTold past) c.sent place m at h.1.sends server.0 n (from ∙ server.1) to code in
    let key : answered_key m.head ≡ last_key n x = key_is n m.head x.epoch x.last to epoch number in
    let same : Some (t.user, t.call) ≡ Some (x.user, call_of x act) = sym (ran_one past n m t.ran t.user t.call t.carries to c.sent h.0.0.0.1.ones h.0.0.0.0.hears.told) ∙ (ap (λ (k : Key). call_under k c.sent) key ∙ h.0.0.0.1.last n act runs) in
    let home : IsHome s t.ran.message.head t.user t.call = home_of s past n m t.ran t.user t.call t.carries to (subst (Each (IfCall (IsHome s))) (sym h.0.0.0.0.hears.told) h.0.1.1.1) in
    record {
      runs = runs;
      reply = is_reply m.head m.carried code (each_at (λ (y : Message). IsFirm y.head y.carried) c.sent place m at h.0.1.0.0.1);
      to = to;
      from = from;
      key = key;
      tells = t;
      user = ap (λ (z : List ℕ × FsCall). z.0) (some_of (t.user, t.call) (x.user, call_of x act) same);
      call = ap (λ (z : List ℕ × FsCall). z.1) (some_of (t.user, t.call) (x.user, call_of x act) same);
      homes = λ id a. sym t.ran.callee ∙ home.to id a;
    }

abbrev pub by_of : (s : Script) (c : Cell) (past : List Entry) (n : ℕ) (act : Going) (m : Message) → Arrives s c past n act m → code_told m.carried ≡ Some (pos 0) → IsBy n m past
by_of s c past n act m a z = record { ran = a.tells.ran; reply = a.reply; told = z; to = a.to; user = a.tells.user; call = a.tells.call; carries = a.tells.carries }

file_same : (a b : FsReply) → carried.Reply (tell.File a) ≡ carried.Reply (tell.File b) → a ≡ b
file_same a b e = cc

pub zero_told : (x : Carried) (r : FsReply) → x ≡ carried.Reply (tell.File r) → code_told x ≡ Some (pos 0)
zero_told x r e = subst (λ (y : Carried). code_told y ≡ Some (pos 0)) (sym e) refl

pub not_refused : (x : Carried) (r : FsReply) → x ≡ carried.Reply (tell.File r) → IsRefused x → ⊥
not_refused x r e h = subst IsRefused e h

none_at : (place : ℕ) (m : Message) → message_at [] place ≡ Some m → ⊥
none_at place m e = absurd cc

none_given : (ls : List Line) (m : Message) → given_message ls [] ≡ Some m → ⊥
none_given [] m e = absurd cc
none_given (lines.Given place ∷ ls) m e = none_at place m e
none_given (l ∷ ls) m e = none_given ls m e

given_agreed : (s : Script) (newer : List Entry) (at : Entry) (older : List Entry) (m : Message) → AreRecorded s (newer ++ (at ∷ older)) → given_message at.lines (sent_of older) ≡ Some m → IsAgreed s older
given_agreed s newer at [] m h e = absurd (none_given at.lines m e)
given_agreed s newer at (d ∷ older) m h e = below_agreed s newer at d older h

older_agreed : (s : Script) (c : Cell) (past : List Entry) (n : ℕ) (m : Message) (ran : Ran m.head past) → Based s c past → IsAgreed s ran.older
older_agreed s c past n m ran B = given_agreed s ran.newer ran.at ran.older ran.message (subst (AreRecorded s) ran.split B.recorded.all) ran.given

-- a reply to a reading call
pub brings_of : (s : Script) (c : Cell) (past : List Entry) (n : ℕ) (act : Going) (m : Message) (r : FsReply) → Based s c past → (a : Arrives s c past n act m) → (is : m.carried ≡ carried.Reply (tell.File r)) → volume_changed (call_of (c.clients n) act) ≡ None → Brings s n m past (by_of s c past n act m a (zero_told m.carried r is)) (call_of (c.clients n) act) r
brings_of s c past n act m r B a is reading =
    let t : Tells m past = a.tells in
    let q : IsBy n m past = by_of s c past n act m a (zero_told m.carried r is) in
    elim t.says [
      | inl y ↦ absurd (not_refused m.carried r is y.refused)
      | inr y ↦ elim y [
        | inl z ↦
            (let told : FsReply = promised_in z.expiry z.reading.reply in
            let same : r ≡ told = file_same r told (sym is ∙ z.is) in
            subst (Brings s n m past q (call_of (c.clients n) act)) (sym same) (subst (λ (k : FsCall). Brings s n m past q k told) a.call
            (brings s n m past q z.expiry t.call z.reading (older_agreed s c past n m t.ran B) z.read.is z.granted z.blank z.going (λ id w. a.homes id (asks_of t.call id w)))))
        | inr z ↦ absurd (changes_is z.change.id (the_user t.user) t.call z.change.before.volume z.change.edits z.change.shown z.making.of_volume z.making.result (ap volume_changed a.call ∙ reading))
      ]
    ]

-- ---- it can be shown

-- what was read of an object can be shown: it is whole, no older than what the client saw, and the newest, unless its promise was withdrawn
pub record IsFetched (s : Script) (n : ℕ) (m : Message) (from : Node) (k : Key) (past : List Entry) (f : Fid) (index : ℕ) (status : ReadStatus) (body : Option Body) (expiry : ℕ) : Type 0 where
  pub grant : GrantOf (Client n) f expiry m past
  pub server : grant.server ≡ from
  pub exact : grant.index ≡ index
  pub home : IsPutAt f.volume from s.volumes
  pub whole : IsWhole f index status body past
  pub least : index_in (last_version f (until (Client n) f expiry m past grant)) ≤ index
  pub kept : IsDropped from (Client n) f (since (Client n) f expiry m past grant) → ⊥
  pub low : Seen n f index past
  pub newest : IsWithdrawn from (Client n) f (since (Client n) f expiry m past grant) ⊎ IsLast f index (lines_of past)
  pub ran : HasRunAt from n grant.ran.at grant.ran.older
  pub key : called_key ran.message.head ≡ k

-- an entry that was given a call stands behind the one that sent it
record IsBehind (a : List Entry) (newer : List Entry) (at : Entry) : Type 0 where
  mid : List Entry
  split : a ≡ newer ++ (at ∷ mid)

stands_behind : (k : Key) (a : List Entry) (x : Entry) (b newer : List Entry) (at : Entry) (older : List Entry) → a ++ (x ∷ b) ≡ newer ++ (at ∷ older) → has_sent k (sent_of b) ≡ false → has_sent k (sent_of older) ≡ true → IsBehind a newer at
stands_behind k [] x b [] at older e none some = absurd (yes_no (has_sent k (sent_of older)) some (subst (λ (p : List Entry). has_sent k (sent_of p) ≡ false) (entries_same x at b older e) none))
stands_behind k [] x b (y ∷ newer) at older e none some =
    absurd (yes_no (has_sent k (sent_of b)) (subst (λ (p : List Entry). has_sent k (sent_of p) ≡ true) (sym (entries_same x y b (newer ++ (at ∷ older)) e)) (sent_before k newer (at ∷ older) (sent_left k (sent_of older) at.sent some))) none)
stands_behind k (z ∷ a) x b [] at older e none some = record { mid = a; split = ap (λ (q : Entry). q ∷ a) (entry_same z at (a ++ (x ∷ b)) older e) }
stands_behind k (z ∷ a) x b (y ∷ newer) at older e none some =
    let r : IsBehind a newer at = stands_behind k a x b newer at older (entries_same z y (a ++ (x ∷ b)) (newer ++ (at ∷ older)) e) none some in
    record { mid = r.mid; split = ap (λ (q : Entry). q ∷ a) (entry_same z y (a ++ (x ∷ b)) (newer ++ (at ∷ older)) e) ∙ ap (λ (p : List Entry). y ∷ p) r.split }

pub lines_more : (a b : List Entry) (o : List Line) → lines_on o (a ++ b) ≡ lines_on (lines_on o b) a
lines_more [] b o = refl
lines_more (e ∷ a) b o = ap (λ (ls : List Line). onto ls e.lines) (lines_more a b o)

drops_base : (s c : Node) (f : Fid) (newer : List Entry) (a b : List Line) → (IsDropped s c f a → IsDropped s c f b) → IsDropped s c f (lines_on a newer) → IsDropped s c f (lines_on b newer)
drops_base s c f [] a b w h = w h
drops_base s c f (e ∷ newer) a b w h = dropped_base s c f e.lines (lines_on a newer) (lines_on b newer) (drops_base s c f newer a b w) h

-- what was dropped since a promise was dropped since the call was sent
since_sent : (s c : Node) (f : Fid) (a newer : List Entry) (at : Entry) (before after : List Line) (l : Line) → IsBehind a newer at → at.lines ≡ before ++ l ∷ after → IsDropped s c f (lines_on (onto [] after) newer) → IsDropped s c f (lines_on [] a)
since_sent s c f a newer at before after l r line d =
    subst (λ (p : List Entry). IsDropped s c f (lines_on [] p)) (sym r.split) (subst (IsDropped s c f) (sym (lines_more newer (at ∷ r.mid) []))
    (drops_base s c f newer (onto [] after) (onto (lines_on [] r.mid) at.lines)
    (λ z. subst (IsDropped s c f) (sym (ap (onto (lines_on [] r.mid)) line ∙ onto_both (lines_on [] r.mid) before (l ∷ after))) (dropped_base s c f after [] (l ∷ onto (lines_on [] r.mid) before) (λ q. absurd q) z)) d))

pub is_its_call : (k : Key) (h : Head) (x : Carried) (user : List ℕ) (call : FsCall) → x ≡ carried.Call user (ask.File call) → called_key h ≡ k → is_called k h x ≡ true
is_its_call k h x user call e same = subst (λ (y : Carried). is_called k h y ≡ true) (sym e) (ap (λ (l : Key). same_key l k) same ∙ same_key-refl k)

abbrev run_at : (n : ℕ) (m : Message) (past : List Entry) (ran : Ran m.head past) → m.head.to ≡ Client n → (HasStopped m.head.from ran.at.lines → ⊥) → HasRunAt m.head.from n ran.at ran.older
run_at n m past ran to going = record {
  message = ran.message;
  given = ran.given;
  is_call = ran.is_call;
  to = ran.callee;
  from = ap (λ (k : Key). k.node) ran.key ∙ to;
  up = ran.up ∙ ap Some (sym ran.boot);
  node = ran.node ∙ ap actors.Node ran.callee;
  going = going;
}

-- the client changed nothing under a later key than its last
none_later : (s : Script) (c : Cell) (past : List Entry) (n : ℕ) (server : Node) (k : Key) → Based s c past → k ≡ last_key n (c.clients n) → OwnChange server n k past → ⊥
none_later s c past n server k B last o =
    let K = B.truthful.0.0.0.0.keys in
    let r : HasRun K.callees c.clients c.hosts server o.key = of_change (HasRun K.callees c.clients c.hosts) server o.key (lines_of past) o.by K.ran in
    later_not o.key k (c.clients n).epoch (c.clients n).last (ap (λ (l : Key). l.epoch) last) (ap (λ (l : Key). l.number) last) (known_pair K.callees c.clients server o.key n o.node r.known) o.later

last_up_to : (o : Option Version) (i : ℕ) → option_map (λ (v : Version). v.index) o ≡ Some i → index_in o ≤ i
last_up_to None i e = absurd cc
last_up_to (Some v) i e = le_of_eq (some_of v.index i e)

pub index_is : (o : Option Version) (i : ℕ) → option_map (λ (v : Version). v.index) o ≡ Some i → index_in o ≡ i
index_is None i e = absurd cc
index_is (Some v) i e = some_of v.index i e

-- what a reply brings of an object that its call names can be shown, unless a break overtook it
pub fetched : (s : Script) (c : Cell) (past : List Entry) (n : ℕ) (act : Going) (m : Message) (z : code_told m.carried ≡ Some (pos 0)) (f : Fid) (index : ℕ) (status : ReadStatus) (body : Option Body) (expiry : ℕ) → Based s c past → (a : Arrives s c past n act m) → (x : IsSight s n m past (by_of s c past n act m a z) f index status body expiry)
    → names_call (f ∷ []) (call_of (c.clients n) act) ≡ true → (c.clients n).spoiled ≡ false → Waits n (c.clients n) act past → IsFetched s n m (c.clients n).callee (last_key n (c.clients n)) past f index status body expiry
fetched s c past n act m z f index status body expiry B a x named unspoiled W =
    let q : IsBy n m past = by_of s c past n act m a z in
    let g : GrantOf (Client n) f expiry m past = grant_by s n m past q f index status body expiry x in
    let k : Key = last_key n (c.clients n) in
    let ran : Ran m.head past = a.tells.ran in
    let u : IsUnspoiled n (c.clients n) act past = B.silent.1 n act a.runs in
    let key : called_key ran.message.head ≡ k = ran.key ∙ a.key in
    let its : is_called k ran.message.head ran.message.carried ≡ true = is_its_call k ran.message.head ran.message.carried a.tells.user a.tells.call a.tells.carries key in
    let behind : IsBehind u.newer ran.newer ran.at = stands_behind k u.newer u.at u.older ran.newer ran.at ran.older (sym u.split ∙ ran.split) u.first (sent_given k ran.at.lines (sent_of ran.older) ran.message ran.given its) in
    let r : HasRunAt m.head.from n ran.at ran.older = run_at n m past ran a.to x.going in
    let same : last_version f (lines_of (ran.at ∷ ran.older)) ≡ last_version f (lines_of ran.older) = blank_last f ran.at.lines (lines_of ran.older) x.blank in
    let least : last_version f (onto (lines_of ran.older) x.line.before) ≡ last_version f (lines_of ran.older) = blank_last f x.line.before (lines_of ran.older) (blank_front x.line.before (lines.Grant m.head.from (Client n) f index expiry) x.line.after (subst AreBlank x.line.split x.blank)) in
    subst (λ (p : Node). IsFetched s n m p k past f index status body expiry) a.from (record {
      grant = g;
      server = refl;
      exact = refl;
      home = x.home;
      whole = x.whole;
      least = last_up_to (last_version f (onto (lines_of ran.older) x.line.before)) index (ap (option_map (λ (v : Version). v.index)) least ∙ x.last);
      kept = λ d. u.kept unspoiled f named (subst (λ (p : Node). IsDropped p (Client n) f (lines_on [] u.newer)) a.from (since_sent m.head.from (Client n) f u.newer ran.newer ran.at x.line.before x.line.after (lines.Grant m.head.from (Client n) f index expiry) behind x.line.split d));
      low = subst (λ (i : ℕ). Seen n f i past) (index_is (last_version f (lines_of ran.older)) index x.last) (W.given ran.newer ran.at ran.older ran.split (subst (IsKeyed k) (sym ran.given) its) f);
      newest = elim (fate s m.head.from n f (onto [] x.line.after) ran.newer ran.at ran.older (subst (AreRecorded s) ran.split B.recorded.all) x.home r) [
        | inl w ↦ inl w
        | inr y ↦ elim y [
          | inl last ↦ inr (ap (option_map (λ (v : Version). v.index)) (ap (λ (p : List Entry). last_version f (lines_of p)) ran.split ∙ (last ∙ same)) ∙ x.last)
          | inr o ↦ absurd (none_later s c past n m.head.from (called_key ran.message.head) B key (subst (OwnChange m.head.from n (called_key ran.message.head)) (sym ran.split) o))
        ]
      ];
      ran = r;
      key = key;
    })

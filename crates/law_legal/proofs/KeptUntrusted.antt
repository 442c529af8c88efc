-- What a client keeps of the volume of its own call that may still run, and for which it doesn't wait: it was promised in an older boot; and if
-- that call was given up, it keeps nothing. However many servers a cell has.
use Rattle.law_legal.proofs.ActLines.{runs_act}
use Rattle.law_legal.proofs.ClientCallsByTable.{server_at}
use Rattle.spec_history.specs.declared.scripts.Script.{Script}
use Rattle.spec_ideal.specs.Operations.{volume_changed}
use Rattle.law_legal.proofs.ClientCallsAtHome.{AsksOf, IsHome}
use Rattle.law_legal.proofs.BaseLaws.{Above, Below, ByClient, Each, IfCall, IfReply, OfCall, UpTo, above_up, below_up_to, each_at, runs_admitted, same_fid-true, same_key-refl, some_of, up_to_same, not_loc}
use Rattle.law_legal.proofs.ClientReplyCaused.{IsOfCallee, code_in, of_callee}
use Rattle.law_legal.proofs.BaseWords.{up_boot}
use Rattle.law_legal.proofs.ServerHeardBefore.{HasHeard, IsHeardBy, boot_known}
use Rattle.law_legal.proofs.ServerHears.{HearsIn, IsHad, IsRan}
use Rattle.law_legal.proofs.ServerHearsInRuns.{reply_ran}
use Rattle.law_legal.proofs.VolumesAreIdeal.{of_this}
use Rattle.law_legal.proofs.CallKeysOnce.{IsKnown}
use Rattle.law_legal.proofs.RunsKnown.{Known}
use Rattle.law_legal.proofs.RunWalk.{run_keeps}
use Rattle.law_legal.proofs.KeptPasses.{sent_either}
use Rattle.law_legal.proofs.ClientCallsQueued.{AreQueued, HadStates, IsFileCall, IsIn, IsOwnCall, each_in, had_state, in_at, in_front, in_over, queued_before, queued_older}
use Rattle.law_legal.proofs.ActAnsweredRecently.{sent_before}
use Rattle.law_legal.proofs.KeptSettlesInRuns.{GivenSettled, settled_first, settled_kept}
use Rattle.law_legal.proofs.KeptSettles.{IsOver, IsPassed, IsPast, Settled, before_fetch, given_in}
use Rattle.law_legal.specs.Breaks.{HasTimeout}
use Rattle.law_legal.specs.Grants.{fetch_reply, has_fetched}
use Rattle.law_legal.specs.Ideal.{set_up_entry}
use Rattle.law_legal.specs.Laws.{DeadAreUntrusted, IsAwaited, UnawaitedAreUntrusted}
use Rattle.law_legal.specs.Once.{past_of}
use Rattle.law_legal.specs.Past.{HasCode, IsCall, Ran, called_key, has_sent, is_called, lines_of, sent_of, server_boot}
use Rattle.spec_model.specs.Calls.{call_seat, same_key, key_of}
use Rattle.afs_num.specs.declared.calls.FsCall.{FsCall}
use Rattle.afs_num.specs.declared.calls.FsCall.TheVariants as calls
use Rattle.afs_num.specs.declared.messages.Call.TheVariants as ask
use Rattle.afs_num.specs.declared.messages.Carried.{Carried}
use Rattle.afs_num.specs.declared.messages.Carried.TheVariants as carried
use Rattle.afs_num.specs.declared.messages.Message.{Message}
use Rattle.afs_num.specs.declared.types.Fid.{Fid}
use Rattle.afs_num.specs.declared.types.Head.{Head}
use Rattle.afs_num.specs.declared.types.Key.{Key}
use Rattle.afs_num.specs.declared.types.Node.{Node}
use Rattle.afs_num.specs.declared.types.Node.TheVariants.{Client, Server}
use Rattle.spec_rows.specs.ClientRow.{find_cached}
use Rattle.spec_rows.specs.Runs.{Cell, Entry, Fall, RunsTo, locations, message_at, start}
use Rattle.spec_rows.specs.Scopes.{may_change, is_volume}
use Rattle.spec_rows.specs.States.{CacheEntry}
use Rattle.std.proofs.Common.{◌≡◌, ◌≤◌, ◌<◌, ℕ, inl, inr, Bool, true, false, cond, eqb-true, List, [], ◌∷◌, ◌++◌, Option, Some, None, refl, sym, ap, subst, ◌∙◌, arith, eq-or-lt_of_le}

-- ---- the volume of a changing call

scope_volume : (call : FsCall) (f : Fid) (id : ℕ) → volume_changed call ≡ Some id → may_change call f ≡ true → f.volume ≡ id
scope_volume (calls.StoreData g status position wanted file_length contents) f id some scope = ap (λ (h : Fid). h.volume) (sym (same_fid-true g f scope)) ∙ some_of g.volume id some
scope_volume (calls.StoreAcl g acl) f id some scope = ap (λ (h : Fid). h.volume) (sym (same_fid-true g f scope)) ∙ some_of g.volume id some
scope_volume (calls.StoreStatus g status) f id some scope = ap (λ (h : Fid). h.volume) (sym (same_fid-true g f scope)) ∙ some_of g.volume id some
scope_volume (calls.CreateFile d name status) f id some scope = ap (λ (h : Fid). h.volume) (sym (same_fid-true d f scope)) ∙ some_of d.volume id some
scope_volume (calls.Symlink d name target status) f id some scope = ap (λ (h : Fid). h.volume) (sym (same_fid-true d f scope)) ∙ some_of d.volume id some
scope_volume (calls.MakeDir d name status) f id some scope = ap (λ (h : Fid). h.volume) (sym (same_fid-true d f scope)) ∙ some_of d.volume id some
scope_volume call f id some scope = volume_is (volume_changed call) some scope
  where
    volume_is : (o : Option ℕ) → o ≡ Some id → is_volume f.volume o ≡ true → f.volume ≡ id
    volume_is None e h = absurd cc
    volume_is (Some n) e h = sym (eqb-true n f.volume h) ∙ some_of n id e

changed_asks : (call : FsCall) (id : ℕ) → volume_changed call ≡ Some id → AsksOf call id
changed_asks (calls.GiveUpCallBacks fids callbacks) id e = absurd cc
changed_asks calls.GetTime id e = absurd cc
changed_asks (calls.BulkStatus fids) id e = absurd cc
changed_asks (calls.FetchData f position wanted) id e = absurd cc
changed_asks (calls.FetchAcl f) id e = absurd cc
changed_asks (calls.FetchStatus f) id e = absurd cc
changed_asks (calls.GetVolumeStatus n) id e = absurd cc
changed_asks call id e = e

-- ---- what was sent before

before_next : (c : Node) (f : Fid) (m : Message) (e : Entry) (past : List Entry) (t : Bool) → (IsIn m (sent_of (before_fetch c f past)) → IsIn m (sent_of past)) → IsIn m (sent_of (cond t past (before_fetch c f past))) → IsIn m (sent_of past ++ e.sent)
before_next c f m e past true rest x = in_front m (sent_of past) e.sent x
before_next c f m e past false rest x = in_front m (sent_of past) e.sent (rest x)

before_in : (c : Node) (f : Fid) (m : Message) (past : List Entry) → IsIn m (sent_of (before_fetch c f past)) → IsIn m (sent_of past)
before_in c f m [] x = x
before_in c f m (e ∷ past) x = before_next c f m e past (has_fetched c f e.lines) (before_in c f m past) x

sent_next : (c : Node) (f : Fid) (m : Message) (k : Key) (past older : List Entry) (t : Bool) → (IsIn m (sent_of (before_fetch c f past)) → has_sent k (sent_of (before_fetch c f past)) ≡ false → IsIn m (sent_of older)) → has_sent k (sent_of past) ≡ true → IsIn m (sent_of (cond t past (before_fetch c f past))) → has_sent k (sent_of (cond t past (before_fetch c f past))) ≡ false → IsIn m (sent_of older)
sent_next c f m k past older true rest has x none = let no_ : true ≡ false = sym has ∙ none in absurd cc
sent_next c f m k past older false rest has x none = rest x none

-- what was sent before the object was fetched, where this key was not, was sent before the key
sent_first : (c : Node) (f : Fid) (m : Message) (k : Key) (newer : List Entry) (at : Entry) (older : List Entry) → IsIn m (sent_of (before_fetch c f (newer ++ (at ∷ older)))) → has_sent k (sent_of (before_fetch c f (newer ++ (at ∷ older)))) ≡ false → has_sent k (sent_of older) ≡ true → IsIn m (sent_of older)
sent_first c f m k [] at older x none has = sent_next c f m k older older (has_fetched c f at.lines) (λ y z. before_in c f m older y) has x none
sent_first c f m k (e ∷ newer) at older x none has =
    sent_next c f m k (newer ++ (at ∷ older)) older (has_fetched c f e.lines) (λ y z. sent_first c f m k newer at older y z has) (sent_before k newer (at ∷ older) (sent_before k (at ∷ []) older has)) x none

-- a file call among messages
in_sent : (k : Key) (m : Message) (ms : List Message) → called_key m.head ≡ k → IsFileCall m.carried → IsIn m ms → has_sent k ms ≡ true
in_sent k m [] e own x = absurd x
in_sent k m (n ∷ ms) e own (inl same) = ap (λ (t : Bool). cond t true (has_sent k ms)) (ap (λ (y : Message). is_called k y.head y.carried) same ∙ its m.carried own)
  where
    its : (x : Carried) → IsFileCall x → is_called k m.head x ≡ true
    its (carried.Call user (ask.File call)) own = ap (λ (l : Key). same_key l k) e ∙ same_key-refl k
    its (carried.Call user (ask.Volume call)) own = absurd own
    its (carried.Call user (ask.Location call)) own = absurd own
    its (carried.Refusal code) own = absurd own
    its (carried.Reply reply) own = absurd own
    its carried.Notice own = absurd own
in_sent k m (n ∷ ms) e own (inr x) = sent_either (is_called k n.head n.carried) (has_sent k ms) (in_sent k m ms e own x)

file_call : (P : Head → List ℕ → FsCall → Type 0) (head : Head) (x : Carried) (i : ℕ) → head.to ≡ Server i → OfCall P head x → IsCall x → IsFileCall x
file_call P head (carried.Call user (ask.File call)) i to h is = tt
file_call P head (carried.Call user (ask.Volume call)) i to h is = absurd h
file_call P head (carried.Call user (ask.Location call)) i to h is = not_loc head (Server i) _ to refl h.0
file_call P head (carried.Refusal code) i to h is = absurd is
file_call P head (carried.Reply reply) i to h is = absurd is
file_call P head carried.Notice i to h is = absurd is

up_is : (d : Option Fall) (b n : ℕ) → up_boot d b ≡ Some n → b ≡ n
up_is None b n e = some_of b n e
up_is (Some fall) b n e = absurd cc

-- ---- what is known of the call and of what the client keeps

record IsCase (s : Script) (end : Cell) (past : List Entry) (i j : ℕ) (head : Head) (user : List ℕ) (call : FsCall) (f : Fid) : Type 0 where
  reply : Message
  by : fetch_reply (Client j) f past ≡ Some reply
  was : IsIn reply (sent_of (before_fetch (Client j) f past))
  code : HasCode reply.carried
  to : reply.head.to ≡ Client j
  from : reply.head.from ≡ Server i
  passed : IsPassed j (end.clients j) f reply end.sent past head user call
  own : IsIn (record { head = head; carried = carried.Call user (ask.File call) }) end.sent

-- of any replies of the server
replied_ran : (c : Cell) (past : List Entry) (i j : ℕ) (r : Message) → HearsIn c past → IsIn r c.sent → HasCode r.carried → r.head.from ≡ Server i → r.head.to ≡ Client j → Ran r.head past
replied_ran c past i j r H x code from to = reply_ran past i j r.head r.carried code from to (each_in (IfReply (λ y. IsRan past y.head)) c.sent r H.answers x)

known_at : (s : Script) (c : Cell) (past : List Entry) → GivenSettled s c past → Known c past
known_at s c past G = G.0.timed.0.0.0.0.0.0.0

heard_at : (s : Script) (c : Cell) (past : List Entry) (i j : ℕ) (r : Message) → GivenSettled s c past → IsIn r c.sent → HasCode r.carried → r.head.from ≡ Server i → r.head.to ≡ Client j → HasHeard (c.hosts i).state r
heard_at s c past i j r G x code from to = code_in j r.head.to (IsHeardBy c.hosts r) r.carried code to (each_in (IfReply (IsHeardBy c.hosts)) c.sent r G.0.timed.0.0.1 x) i from

-- a reply to no lower key is of an older boot than that of a server that would run the call
older_boot : (s : Script) (c : Cell) (past : List Entry) (i j : ℕ) (head : Head) (r : Message) → GivenSettled s c past → IsIn r c.sent → HasCode r.carried → r.head.from ≡ Server i → r.head.to ≡ Client j → head.from ≡ Client j → Above (call_seat head.from (c.hosts i).state.seats) head.epoch head.number → UpTo head.epoch head.number r.head.epoch r.head.number → r.head.boot < (c.hosts i).state.lasting.boot
older_boot s c past i j head r G x code from to own above up =
    let H : HearsIn c past = (known_at s c past G).hears in
    let low : r.head.boot ≤ (c.hosts i).state.lasting.boot = boot_known c past i r H (replied_ran c past i j r H x code from to) from in
    elim (eq-or-lt_of_le low) [
      | inl same ↦ absurd (heard_at s c past i j r G x code from to same
          (subst (λ (q : Node). Above (call_seat q (c.hosts i).state.seats) r.head.epoch r.head.number) (own ∙ sym to) (above_up (call_seat head.from (c.hosts i).state.seats) head.epoch head.number r.head.epoch r.head.number above up)))
      | inr less ↦ less
    ]

case_of : (s : Script) (end : Cell) (past : List Entry) (i j place : ℕ) (head : Head) (user : List ℕ) (call : FsCall) (id : ℕ) (f : Fid) (e : CacheEntry) → GivenSettled s end past → message_at end.sent place ≡ Some (record { head = head; carried = carried.Call user (ask.File call) }) → head.from ≡ Client j → head.to ≡ Server i → volume_changed call ≡ Some id → f.volume ≡ id
    → find_cached f (end.clients j).cache ≡ Some e → IsCase s end past i j head user call f
case_of s end past i j place head user call id f e G at from to some vol found =
    let S : Settled s j (end.clients j) end.sent past f = (G.1 j f e found).settled in
    let home : head.to ≡ Server (server_at (locations s) id) = (of_this (IsHome s) j head (carried.Call user (ask.File call)) user call from refl (each_at (IfCall (IsHome s)) end.sent place (record { head = head; carried = carried.Call user (ask.File call) }) at G.0.homes.1)).to id (changed_asks call id some) in
    record {
      reply = S.reply;
      by = S.by;
      was = S.was;
      code = S.code;
      to = S.to;
      from = S.from ∙ (ap (λ (v : ℕ). Server (server_at (locations s) v)) vol ∙ (sym home ∙ to));
      passed = of_this (IsPassed j (end.clients j) f S.reply end.sent past) j head (carried.Call user (ask.File call)) user call from refl (each_at (IfCall (IsPassed j (end.clients j) f S.reply end.sent past)) end.sent place (record { head = head; carried = carried.Call user (ask.File call) }) at S.calls);
      own = in_at end.sent place (record { head = head; carried = carried.Call user (ask.File call) }) at;
    }

-- the boot of an entry that ran a call is that of a cell which knew all replies that were sent before
ran_above : (past : List Entry) (i j : ℕ) (r m : Message) (ran : Ran r.head past) → HadStates past → r.head.from ≡ Server i → IsIn m (sent_of ran.older) → HasCode m.carried → m.head.from ≡ Server i → m.head.to ≡ Client j → m.head.boot ≤ r.head.boot
ran_above past i j r m ran had from x code mine to =
    let c : (c : Cell) × HearsIn c ran.older = had_state ran.newer ran.at ran.older m (subst HadStates ran.split had) x in
    let boot : (c.0.hosts i).state.lasting.boot ≡ r.head.boot = up_is (c.0.hosts i).down (c.0.hosts i).state.lasting.boot r.head.boot (sym (c.1.boots.now i) ∙ subst (λ (q : Node). server_boot q (lines_of ran.older) ≡ Some r.head.boot) from ran.up) in
    let low : m.head.boot ≤ (c.0.hosts i).state.lasting.boot = boot_known c.0 ran.older i m c.1 (replied_ran c.0 ran.older i j m c.1 (subst (IsIn m) c.1.told x) code mine to) mine in
    subst (λ (b : ℕ). m.head.boot ≤ b) boot low

-- ---- the laws

settled_at : (s : Script) (h : List Entry) (end : Cell) → RunsTo h s end → GivenSettled s end (past_of (set_up_entry s ∷ []) h)
settled_at s h end r = run_keeps (GivenSettled s) (settled_kept s) r.inputs s (set_up_entry s ∷ []) h end (settled_first s) r.leads

-- a reply to it was sent since
over_boot : (s : Script) (end : Cell) (past : List Entry) (i j : ℕ) (head : Head) (user : List ℕ) (call : FsCall) (f : Fid) → GivenSettled s end past → head.from ≡ Client j → head.to ≡ Server i → Above (call_seat head.from (end.hosts i).state.seats) head.epoch head.number → (x : IsCase s end past i j head user call f) → IsOver j head f end.sent past → x.reply.head.boot < (end.hosts i).state.lasting.boot
over_boot s end past i j head user call f G from to above x o =
    let K : Known end past = known_at s end past G in
    let a : Message = o.answer in
    let k : Key = called_key head in
    let its : IsKnown K.keys.callees end.clients head.to k =
    of_this (λ h u y. IsKnown K.keys.callees end.clients h.to (key_of h)) j head (carried.Call user (ask.File call)) user call from refl (each_in (IfCall (λ h u y. IsKnown K.keys.callees end.clients h.to (key_of h))) end.sent (record { head = head; carried = carried.Call user (ask.File call) }) K.keys.calls x.own) in
    let to_client : a.head.to ≡ Client j = ap (λ (q : Key). q.node) o.key ∙ from in
    let by : a.head.from ≡ Server i = of_callee K.keys.callees end.clients j a (each_in (IfReply (IsOfCallee K.keys.callees end.clients)) end.sent a K.keys.answers o.among) o.code to_client o.from.0 o.from.1 ∙ (ap K.keys.callees o.key ∙ (sym its.called ∙ to)) in
    let less : a.head.boot < (end.hosts i).state.lasting.boot = older_boot s end past i j head a G o.among o.code by to_client from above (up_to_same head.epoch head.number a.head.epoch a.head.number (sym (ap (λ (q : Key). q.epoch) o.key)) (sym (ap (λ (q : Key). q.number) o.key))) in
    let ran : Ran a.head past = replied_ran end past i j a K.hears o.among o.code by to_client in
    let all : Each (IfCall (λ h u y. IsKnown K.keys.callees end.clients h.to (key_of h))) (sent_of past) = subst (Each (IfCall (λ h u y. IsKnown K.keys.callees end.clients h.to (key_of h)))) (sym K.hears.told) K.keys.calls in
    let mine : IsIn ran.message (sent_of ran.older) = given_in ran.at.lines (sent_of ran.older) ran.message ran.given in
    let there : IsIn ran.message (sent_of past) = subst (λ (p : List Entry). IsIn ran.message (sent_of p)) (sym ran.split) (in_over ran.message ran.newer (ran.at ∷ ran.older) (in_over ran.message (ran.at ∷ []) ran.older mine)) in
    let file : IsFileCall ran.message.carried = file_call (ByClient (λ h u y. IsKnown K.keys.callees end.clients h.to (key_of h))) ran.message.head ran.message.carried i (ran.callee ∙ by) (each_in (IfCall (λ h u y. IsKnown K.keys.callees end.clients h.to (key_of h))) (sent_of past) ran.message all there) ran.is_call in
    let has : has_sent k (sent_of ran.older) ≡ true = in_sent k ran.message (sent_of ran.older) (ran.key ∙ o.key) file mine in
    let sent : IsIn x.reply (sent_of ran.older) =
    sent_first (Client j) f x.reply k ran.newer ran.at ran.older (subst (λ (p : List Entry). IsIn x.reply (sent_of (before_fetch (Client j) f p))) ran.split x.was) (subst (λ (p : List Entry). has_sent k (sent_of (before_fetch (Client j) f p)) ≡ false) ran.split o.later) has in
    let low : x.reply.head.boot ≤ a.head.boot = ran_above past i j a x.reply ran G.0.timed.0.1.1 by sent x.code x.from x.to in
    omega arith

up_past : (j : ℕ) (head : Head) (m : Message) (past : List Entry) → IsPast j head m past → UpTo head.epoch head.number m.head.epoch m.head.number
up_past j head m past (inl below) = below_up_to head.epoch head.number m.head.epoch m.head.number below
up_past j head m past (inr same) = up_to_same head.epoch head.number m.head.epoch m.head.number same.0.0 same.0.1

reply_in : (s : Script) (end : Cell) (past : List Entry) (i j : ℕ) (head : Head) (user : List ℕ) (call : FsCall) (f : Fid) → GivenSettled s end past → (x : IsCase s end past i j head user call f) → IsIn x.reply end.sent
reply_in s end past i j head user call f G x = subst (IsIn x.reply) (known_at s end past G).hears.told (before_in (Client j) f x.reply past x.was)

pub run_untrusted : UnawaitedAreUntrusted
run_untrusted s h end r i j place head user call id at from to some runs not_ f e scope found =
    let past : List Entry = past_of (set_up_entry s ∷ []) h in
    let G : GivenSettled s end past = settled_at s h end r in
    let vol : f.volume ≡ id = scope_volume call f id some scope in
    let x : IsCase s end past i j head user call f = case_of s end past i j place head user call id f e G at from to some vol found in
    let above : Above (call_seat head.from (end.hosts i).state.seats) head.epoch head.number = (runs_admitted (end.hosts i).state.lasting.boot (end.hosts i).state.seats head runs).1 in (
      x.reply,
      (
        x.by,
        (
          x.from,
          elim (x.passed from (some ∙ ap (λ (n : ℕ). Some n) (sym vol)) not_) [
            | inl p ↦ older_boot s end past i j head x.reply G (reply_in s end past i j head user call f G x) x.code x.from x.to from above (up_past j head x.reply past p)
            | inr o ↦ over_boot s end past i j head user call f G from to above x o
          ],
        ),
      ),
    )

-- the call that its client gave up was sent before the one that its server ran, and to a boot that was then begun
dead_boot : (s : Script) (end : Cell) (past : List Entry) (i j : ℕ) (head : Head) (user : List ℕ) (call : FsCall) (f : Fid) → GivenSettled s end past → head.from ≡ Client j → head.to ≡ Server i → (x : IsCase s end past i j head user call f) → Below head.epoch head.number x.reply.head.epoch x.reply.head.number → head.boot ≤ x.reply.head.boot
dead_boot s end past i j head user call f G from to x low =
    let K : Known end past = known_at s end past G in
    let own : Message = record { head = head; carried = carried.Call user (ask.File call) } in
    let P : Head → List ℕ → FsCall → Type 0 = λ h u y. IsKnown K.keys.callees end.clients h.to (key_of h) in
    let ran : Ran x.reply.head past = replied_ran end past i j x.reply K.hears (reply_in s end past i j head user call f G x) x.code x.from x.to in
    let all : Each (IfCall P) (sent_of past) = subst (Each (IfCall P)) (sym K.hears.told) K.keys.calls in
    let y : Message = ran.message in
    let mine : IsIn y (sent_of ran.older) = given_in ran.at.lines (sent_of ran.older) y ran.given in
    let next : IsIn y (sent_of (ran.at ∷ ran.older)) = in_over y (ran.at ∷ []) ran.older mine in
    let there : IsIn y (sent_of past) = subst (λ (p : List Entry). IsIn y (sent_of p)) (sym ran.split) (in_over y ran.newer (ran.at ∷ ran.older) next) in
    let its : IsOwnCall j y = (ap (λ (q : Key). q.node) ran.key ∙ x.to, file_call (ByClient P) y.head y.carried i (ran.callee ∙ x.from) (each_in (IfCall P) (sent_of past) y all there) ran.is_call) in
    let below : Below head.epoch head.number y.head.epoch y.head.number = subst (λ (q : Key). Below head.epoch head.number q.epoch q.number) (sym ran.key) low in
    let queued : AreQueued j (ran.newer ++ (ran.at ∷ ran.older)) = subst (AreQueued j) ran.split (G.0.timed.0.1.0 j) in
    let first : IsIn own (sent_of (ran.newer ++ (ran.at ∷ ran.older))) = subst (λ (p : List Entry). IsIn own (sent_of p)) ran.split (subst (IsIn own) (sym K.hears.told) x.own) in
    let second : IsIn own (sent_of (ran.at ∷ ran.older)) = queued_before j ran.newer (ran.at ∷ ran.older) own y queued first (from, tt) next its below in
    let third : IsIn own (sent_of ran.older) = queued_before j (ran.at ∷ []) ran.older own y (queued_older j ran.newer (ran.at ∷ ran.older) queued) second (from, tt) mine its below in
    let c : (c : Cell) × HearsIn c ran.older = had_state ran.newer ran.at ran.older own (subst HadStates ran.split G.0.timed.0.1.1) third in
    let boot : (c.0.hosts i).state.lasting.boot ≡ x.reply.head.boot = up_is (c.0.hosts i).down (c.0.hosts i).state.lasting.boot x.reply.head.boot (sym (c.1.boots.now i) ∙ subst (λ (q : Node). server_boot q (lines_of ran.older) ≡ Some x.reply.head.boot) x.from ran.up) in
    let had : IsHad c.0.hosts head.to head.boot = of_this (λ h u y. IsHad c.0.hosts h.to h.boot) j head (carried.Call user (ask.File call)) user call from refl (each_in (IfCall (λ h u y. IsHad c.0.hosts h.to h.boot)) c.0.sent own c.1.calls (subst (IsIn own) c.1.told third)) in
    subst (λ (b : ℕ). head.boot ≤ b) boot (had i to)

pub run_dead : DeadAreUntrusted
run_dead s h end r i j place head user call id at from to some dead runs f e vol found =
    let past : List Entry = past_of (set_up_entry s ∷ []) h in
    let G : GivenSettled s end past = settled_at s h end r in
    let x : IsCase s end past i j head user call f = case_of s end past i j place head user call id f e G at from to some vol found in
    let a = runs_admitted (end.hosts i).state.lasting.boot (end.hosts i).state.seats head runs in
    let not_ : IsAwaited (end.clients j) head → ⊥ = λ w.
    (G.0.timed.1 j).alive w.act (runs_act (end.clients j) w.act w.runs) (Server i) (subst (λ (k : ℕ). HasTimeout (Client j) (Server i) k (end.clients j).last 3 (lines_of past)) w.epoch (subst (λ (k : ℕ). HasTimeout (Client j) (Server i) head.epoch k 3 (lines_of past)) w.number dead)) in
    elim (x.passed from (some ∙ ap (λ (n : ℕ). Some n) (sym vol)) not_) [
      | inl p ↦ elim p [
        | inl below ↦
            (let less : x.reply.head.boot < (end.hosts i).state.lasting.boot = older_boot s end past i j head x.reply G (reply_in s end past i j head user call f G x) x.code x.from x.to from a.1 (below_up_to head.epoch head.number x.reply.head.epoch x.reply.head.number below) in
            let same : head.boot ≡ (end.hosts i).state.lasting.boot = a.0 in
            let up : head.boot ≤ x.reply.head.boot = dead_boot s end past i j head user call f G from to x below in
            absurd (omega arith))
        | inr same ↦ same.1 i dead
      ]
      | inr o ↦ o.alive i dead
    ]

-- Of each object that a client keeps: its calls that may change the object's volume, and for which it doesn't wait, are no later than the call
-- by which it fetched that; or they were sent since, and a reply to them too, and none of these was given up. However many servers a cell has.
use Rattle.law_legal.proofs.ClientCallsByTable.{server_at}
use Rattle.law_legal.proofs.ActFollows.{none_runs, Follows}
use Rattle.spec_history.specs.declared.lines.Line.{Line}
use Rattle.spec_history.specs.declared.lines.Line.TheVariants as lines
use Rattle.spec_history.specs.declared.scripts.Script.{Script}
use Rattle.spec_ideal.specs.Operations.{volume_changed}
use Rattle.law_legal.proofs.ActLines.{Acts, Asks, IsTheCall, last_key, who_at, runs_act}
use Rattle.law_legal.proofs.ClientCallsAtHome.{IsServer}
use Rattle.law_legal.proofs.ClientSent.{not_front}
use Rattle.law_legal.proofs.KeptPasses.{calls_both}
use Rattle.law_legal.proofs.BaseLaws.{Below, Each, IfCall, UpTo, each_map, each_more, if_call, some_of, up_to_by}
use Rattle.law_legal.proofs.BaseWords.{IsOne}
use Rattle.law_legal.proofs.KeptRests.{Keeps}
use Rattle.law_legal.proofs.ActCalls.{Leaves, of_client}
use Rattle.law_legal.proofs.ActCallsInRuns.{same_key_at, the_calls}
use Rattle.law_legal.proofs.ClientCallsQueued.{IsIn, in_at, in_front}
use Rattle.law_legal.proofs.ClientTimesOut.{IsUntimed, Timed, Times}
use Rattle.law_legal.specs.Breaks.{HasTimeout}
use Rattle.law_legal.specs.ClientParts.{is_silent}
use Rattle.law_legal.specs.Grants.{fetch_reply, has_fetched}
use Rattle.law_legal.specs.Ideal.{call_under}
use Rattle.law_legal.specs.Laws.{IsAwaited}
use Rattle.law_legal.specs.Past.{HasCode, answered_key, called_key, given_message, has_sent, lines_of, sent_of}
use Rattle.afs_num.specs.declared.calls.FsCall.{FsCall}
use Rattle.afs_num.specs.declared.calls.FsCall.TheVariants as calls
use Rattle.afs_num.specs.declared.messages.Message.{Message}
use Rattle.afs_num.specs.declared.types.Fid.{Fid}
use Rattle.afs_num.specs.declared.types.Head.{Head}
use Rattle.afs_num.specs.declared.types.Key.{Key}
use Rattle.afs_num.specs.declared.types.Node.{Node}
use Rattle.afs_num.specs.declared.types.Node.TheVariants.{Client, Server, Loc}
use Rattle.spec_rows.specs.ClientRow.{call_of, find_cached}
use Rattle.spec_rows.specs.Going.{ClientState, Going}
use Rattle.spec_rows.specs.Runs.{Entry, locations}
use Rattle.spec_rows.specs.States.{CacheEntry}
use Rattle.spec_rows.specs.Steps.{Step}
use Rattle.std.proofs.Common.{◌≡◌, ◌+◌, ℕ, ◌⊎◌, inl, inr, Bool, true, false, cond, nat_eq, eq-eqb, eqb-true, List, [], ◌∷◌, ◌++◌, Option, Some, None, refl, sym, ap, subst, ◌∙◌}
use Rattle.std.specs.Prelude.{if◌then◌else◌}

-- ---- what is said of each call

-- the entries before that in which the client last fetched the object
abbrev pub before_fetch : Node → Fid → List Entry → List Entry
before_fetch c f [] = []
before_fetch c f (e ∷ past) = if has_fetched c f e.lines then past else before_fetch c f past

-- the client didn't give the call up
abbrev pub IsAlive : ℕ → Head → List Entry → Type 0
IsAlive j head past = (i : ℕ) → HasTimeout (Client j) (Server i) head.epoch head.number 3 (lines_of past) → ⊥

-- it was sent since the object was fetched, and a reply to it too
pub record IsOver (j : ℕ) (head : Head) (f : Fid) (sent : List Message) (past : List Entry) : Type 0 where
  pub later : has_sent (called_key head) (sent_of (before_fetch (Client j) f past)) ≡ false
  pub answer : Message
  pub among : IsIn answer sent
  pub code : HasCode answer.carried
  pub key : answered_key answer.head ≡ called_key head
  pub from : IsServer answer.head.from
  pub alive : IsAlive j head past

-- it is no later than the call that this answers, and earlier if it was given up
abbrev pub IsPast : ℕ → Head → Message → List Entry → Type 0
IsPast j head m past = Below head.epoch head.number m.head.epoch m.head.number ⊎ (((head.epoch ≡ m.head.epoch) × (head.number ≡ m.head.number)) × IsAlive j head past)

abbrev pub IsPassed : ℕ → ClientState → Fid → Message → List Message → List Entry → Head → List ℕ → FsCall → Type 0
IsPassed j x f m sent past head user call = head.from ≡ Client j → volume_changed call ≡ Some f.volume → (IsAwaited x head → ⊥) → IsPast j head m past ⊎ IsOver j head f sent past

-- of an object that the client keeps: the reply by which it fetched that, which was sent before, by the server of its volume
pub record Settled (s : Script) (j : ℕ) (x : ClientState) (sent : List Message) (past : List Entry) (f : Fid) : Type 0 where
  pub reply : Message
  pub by : fetch_reply (Client j) f past ≡ Some reply
  pub was : IsIn reply (sent_of (before_fetch (Client j) f past))
  pub code : HasCode reply.carried
  pub to : reply.head.to ≡ Client j
  pub from : reply.head.from ≡ Server (server_at (locations s) f.volume)
  pub calls : Each (IfCall (IsPassed j x f reply sent past)) sent

-- the call for which the client waits was sent since, too
abbrev pub IsFresh : ℕ → ClientState → Fid → List Entry → Type 0
IsFresh j x f past = (act : Going) → x.running ≡ Some act → has_sent (last_key j x) (sent_of (before_fetch (Client j) f past)) ≡ false

pub record Keeping (s : Script) (j : ℕ) (x : ClientState) (sent : List Message) (past : List Entry) (f : Fid) : Type 0 where
  pub settled : Settled s j x sent past f
  pub fresh : IsFresh j x f past

abbrev pub SettledOf : Script → (ℕ → ClientState) → List Message → List Entry → Type 0
SettledOf s clients sent past = (j : ℕ) (f : Fid) (e : CacheEntry) → find_cached f (clients j).cache ≡ Some e → Keeping s j (clients j) sent past f

-- ---- an entry that fetches nothing of the object

same_before : (j : ℕ) (f : Fid) (e : Entry) (past : List Entry) → has_fetched (Client j) f e.lines ≡ false → before_fetch (Client j) f (e ∷ past) ≡ before_fetch (Client j) f past
same_before j f e past none = ap (λ (t : Bool). cond t past (before_fetch (Client j) f past)) none

same_reply : (j : ℕ) (f : Fid) (e : Entry) (past : List Entry) → has_fetched (Client j) f e.lines ≡ false → fetch_reply (Client j) f (e ∷ past) ≡ fetch_reply (Client j) f past
same_reply j f e past none = ap (λ (t : Bool). cond t (given_message e.lines (sent_of past)) (fetch_reply (Client j) f past)) none

unsent_before : (j : ℕ) (k : Key) (f : Fid) (e : Entry) (past : List Entry) → has_fetched (Client j) f e.lines ≡ false → has_sent k (sent_of (before_fetch (Client j) f past)) ≡ false → has_sent k (sent_of (before_fetch (Client j) f (e ∷ past))) ≡ false
unsent_before j k f e past none h = ap (λ (p : List Entry). has_sent k (sent_of p)) (same_before j f e past none) ∙ h

past_over : (j : ℕ) (head : Head) (m : Message) (e : Entry) (past : List Entry) → (IsAlive j head past → IsAlive j head (e ∷ past)) → IsPast j head m past → IsPast j head m (e ∷ past)
past_over j head m e past w (inl x) = inl x
past_over j head m e past w (inr x) = inr (x.0, w x.1)

over_over : (j : ℕ) (head : Head) (f : Fid) (sent ms : List Message) (e : Entry) (past : List Entry) → has_fetched (Client j) f e.lines ≡ false → (IsAlive j head past → IsAlive j head (e ∷ past)) → IsOver j head f sent past → IsOver j head f (sent ++ ms) (e ∷ past)
over_over j head f sent ms e past none w x = record { later = unsent_before j (called_key head) f e past none x.later; answer = x.answer; among = in_front x.answer sent ms x.among; code = x.code; key = x.key; from = x.from; alive = w x.alive }

passed_over : (j : ℕ) (x : ClientState) (f : Fid) (m : Message) (sent ms : List Message) (e : Entry) (past : List Entry) (head : Head) (user : List ℕ) (call : FsCall) → has_fetched (Client j) f e.lines ≡ false → (IsAlive j head past → IsAlive j head (e ∷ past)) → IsPassed j x f m sent past head user call → IsPassed j x f m (sent ++ ms) (e ∷ past) head user call
passed_over j x f m sent ms e past head user call none w h from some away = elim (h from some away) [
  | inl y ↦ inl (past_over j head m e past w y)
  | inr y ↦ inr (over_over j head f sent ms e past none w y)
]

-- where the calls are said of
settled_over : (s : Script) (j : ℕ) (x y : ClientState) (sent more : List Message) (e : Entry) (past : List Entry) (f : Fid) (S : Settled s j x sent past f) → has_fetched (Client j) f e.lines ≡ false → Each (IfCall (IsPassed j y f S.reply more (e ∷ past))) more → Settled s j y more (e ∷ past) f
settled_over s j x y sent more e past f S none calls = record {
  reply = S.reply;
  by = same_reply j f e past none ∙ S.by;
  was = subst (λ (p : List Entry). IsIn S.reply (sent_of p)) (sym (same_before j f e past none)) S.was;
  code = S.code;
  to = S.to;
  from = S.from;
  calls = calls;
}

-- an entry of another node
pub else_keeping : (s : Script) (j : ℕ) (x : ClientState) (sent ms : List Message) (e : Entry) (past : List Entry) (f : Fid) → Leaves s j e.lines (lines_of past) → ((m : Message) → Each (IfCall (IsPassed j x f m (sent ++ ms) (e ∷ past))) ms) → Keeping s j x sent past f → Keeping s j x (sent ++ ms) (e ∷ past) f
else_keeping s j x sent ms e past f l new h =
    let S : Settled s j x sent past f = h.settled in
    let none : has_fetched (Client j) f e.lines ≡ false = l.fetched f in
    record {
      settled = settled_over s j x x sent (sent ++ ms) e past f S none
          (each_more (IfCall (IsPassed j x f S.reply (sent ++ ms) (e ∷ past))) sent ms
          (each_map (IfCall (IsPassed j x f S.reply sent past)) (IfCall (IsPassed j x f S.reply (sent ++ ms) (e ∷ past)))
          (if_call (IsPassed j x f S.reply sent past) (IsPassed j x f S.reply (sent ++ ms) (e ∷ past)) (λ head user call. passed_over j x f S.reply sent ms e past head user call none (λ a i z. a i (l.timed (Server i) head.epoch head.number 3 z)))) sent S.calls)
          (new S.reply));
      fresh = λ act run. unsent_before j (last_key j x) f e past none (h.fresh act run);
    }

-- ---- what becomes of the call for which a client waited

pub record Stays (c y : ClientState) : Type 0 where
  pub running : y.running ≡ c.running
  pub epoch : y.epoch ≡ c.epoch
  pub last : y.last ≡ c.last

-- a reply to it was given
pub record Answers (n : ℕ) (c : ClientState) (sent : List Message) (st : Step ClientState) : Type 0 where
  pub answer : Message
  pub among : IsIn answer sent
  pub code : HasCode answer.carried
  pub key : answered_key answer.head ≡ last_key n c
  pub from : IsServer answer.head.from
  pub quiet : IsUntimed n st

-- or what it may have changed was dropped
abbrev pub Drops : ClientState → Going → Step ClientState → Type 0
Drops c act st = (f : Fid) (e : CacheEntry) → volume_changed (call_of c act) ≡ Some f.volume → find_cached f st.state.cache ≡ Some e → ⊥

abbrev pub Ends : ℕ → ClientState → List Message → Step ClientState → Type 0
Ends n c sent st = (act : Going) → c.running ≡ Some act → Stays c st.state ⊎ (Answers n c sent st ⊎ Drops c act st)

-- what it fetches is of the reply for which it waited
pub record IsFetchedNow (s : Script) (n : ℕ) (c : ClientState) (st : Step ClientState) (f : Fid) (m : Message) : Type 0 where
  pub act : Going
  pub runs : c.running ≡ Some act
  pub epoch : m.head.epoch ≡ c.epoch
  pub number : m.head.number ≡ c.last
  pub quiet : IsUntimed n st
  pub from : m.head.from ≡ Server (server_at (locations s) f.volume)

abbrev pub Fetches : Script → ℕ → ClientState → List Entry → Step ClientState → Type 0
Fetches s n c past st = (f : Fid) (m : Message) → has_fetched (Client n) f st.lines ≡ true → given_message st.lines (sent_of past) ≡ Some m → IsFetchedNow s n c st f m

-- whether the client waits for this call
awaited_by : (c : ClientState) (head : Head) (o : Option Going) (t u : Bool) → c.running ≡ o → nat_eq head.epoch c.epoch ≡ t → nat_eq head.number c.last ≡ u → IsAwaited c head ⊎ (IsAwaited c head → ⊥)
awaited_by c head None t u r e k = inr (λ w. none_runs c.running w.act r w.runs)
awaited_by c head (Some act) true true r e k = inl (record { act = act; runs = r; epoch = eqb-true head.epoch c.epoch e; number = eqb-true head.number c.last k })
awaited_by c head (Some act) false u r e k = inr (λ w. let no_ : false ≡ true = sym e ∙ eq-eqb head.epoch c.epoch w.epoch in absurd cc)
awaited_by c head (Some act) true false r e k = inr (λ w. let no_ : false ≡ true = sym k ∙ eq-eqb head.number c.last w.number in absurd cc)

awaited_or : (c : ClientState) (head : Head) → IsAwaited c head ⊎ (IsAwaited c head → ⊥)
awaited_or c head = awaited_by c head c.running (nat_eq head.epoch c.epoch) (nat_eq head.number c.last) refl refl refl

key_at : (n : ℕ) (head : Head) (e k : ℕ) → head.from ≡ Client n → head.epoch ≡ e → head.number ≡ k → called_key head ≡ record { node = Client n; epoch = e; number = k }
key_at n head e k from epoch number =
    ap (λ (q : Node). record { node = q; epoch = head.epoch; number = head.number }) from
    ∙ (ap (λ (x : ℕ). record { node = Client n; epoch = x; number = head.number }) epoch ∙ ap (λ (x : ℕ). record { node = Client n; epoch = e; number = x }) number)

-- ---- a step of the client itself

pub record Base (s : Script) (n : ℕ) (c : ClientState) (sent : List Message) (past : List Entry) : Type 0 where
  pub told : sent_of past ≡ sent
  pub timed : Timed n c past
  pub last : (act : Going) → c.running ≡ Some act → call_under (last_key n c) sent ≡ Some (c.user, call_of c act)
  pub known : Each (IfCall (λ head user call. head.from ≡ Client n → UpTo head.epoch head.number c.epoch c.last)) sent
  pub ones : Each (IfCall (IsOne sent)) sent

no_loc : (i : ℕ) → Server i ≡ Loc → ⊥
no_loc i e = cc

-- a call that was sent before, of an entry that was there
old_passed : (s : Script) (n : ℕ) (c : ClientState) (st : Step ClientState) (sent : List Message) (past : List Entry) (f : Fid) (m : Message) (e : CacheEntry) → Base s n c sent past → Ends n c sent st → Times n c st → IsFresh n c f past → has_fetched (Client n) f st.lines ≡ false → find_cached f st.state.cache ≡ Some e
    → (head : Head) (user : List ℕ) (call : FsCall) → IsOne sent head user call → IsPassed n c f m sent past head user call → IsPassed n st.state f m (sent ++ st.sent) (of_client n st ∷ past) head user call
old_passed s n c st sent past f m e b ends times fresh none found head user call one h from some not_ = elim (awaited_or c head) [
  | inr away ↦
      (let alive : IsAlive n head past → IsAlive n head (of_client n st ∷ past) = λ a i z. elim (times (Server i) head.epoch head.number 3 (lines_of past) z) [
        | inl old ↦ a i old
        | inr new ↦ (let r = new.runs (no_loc i) in away (record { act = r.0; runs = r.1; epoch = new.epoch; number = new.number }))
      ] in
      passed_over n c f m sent st.sent (of_client n st) past head user call none alive h from some away)
  | inl w ↦ elim (ends w.act w.runs) [
    | inl stays ↦ absurd (not_ (record { act = w.act; runs = stays.running ∙ w.runs; epoch = w.epoch ∙ sym stays.epoch; number = w.number ∙ sym stays.last }))
    | inr y ↦
        (let key : called_key head ≡ last_key n c = key_at n head c.epoch c.last from w.epoch w.number in
        elim y [
          | inl ans ↦ inr (record {
            later = subst (λ (k : Key). has_sent k (sent_of (before_fetch (Client n) f (of_client n st ∷ past))) ≡ false) (sym key) (unsent_before n (last_key n c) f (of_client n st) past none (fresh w.act w.runs));
            answer = ans.answer;
            among = in_front ans.answer sent st.sent ans.among;
            code = ans.code;
            key = ans.key ∙ sym key;
            from = ans.from;
            alive = λ i z. b.timed.alive w.act (runs_act c w.act w.runs) (Server i) (subst (λ (x : ℕ). HasTimeout (Client n) (Server i) x c.last 3 (lines_of past)) w.epoch (subst (λ (x : ℕ). HasTimeout (Client n) (Server i) head.epoch x 3 (lines_of past)) w.number (ans.quiet (Server i) head.epoch head.number 3 (lines_of past) z)));
          })
          | inr drops ↦
              (let same : (user, call) ≡ (c.user, call_of c w.act) = some_of (user, call) (c.user, call_of c w.act) (sym one ∙ (ap (λ (k : Key). call_under k sent) key ∙ b.last w.act w.runs)) in
              absurd (drops f e (sym (ap (λ (p : List ℕ × FsCall). volume_changed p.1) same) ∙ some) found))
        ])
  ]
]

-- a call that is sent now is the one for which it waits
new_passed : (n : ℕ) (y : ClientState) (f : Fid) (m : Message) (sent : List Message) (past : List Entry) (head : Head) (user : List ℕ) (call : FsCall) → IsTheCall n y head user call → IsPassed n y f m sent past head user call
new_passed n y f m sent past head user call x from some not_ = absurd (not_ (record { act = x.act; runs = x.runs; epoch = ap (λ (k : Key). k.epoch) x.key; number = ap (λ (k : Key). k.number) x.key }))

-- of an entry that is fetched now, a call that was sent before
fetched_passed : (s : Script) (n : ℕ) (c : ClientState) (st : Step ClientState) (sent : List Message) (past : List Entry) (f : Fid) (m : Message) → Base s n c sent past → IsFetchedNow s n c st f m → (head : Head) (user : List ℕ) (call : FsCall) → (head.from ≡ Client n → UpTo head.epoch head.number c.epoch c.last) → IsPassed n st.state f m (sent ++ st.sent) (of_client n st ∷ past) head user call
fetched_passed s n c st sent past f m b x head user call up from some not_ = inl (elim (up_to_by head.epoch head.number c.epoch c.last (up from)) [
  | inl below ↦ inl (subst (λ (k : ℕ). Below head.epoch head.number m.head.epoch k) (sym x.number) (subst (λ (k : ℕ). Below head.epoch head.number k c.last) (sym x.epoch) below))
  | inr same ↦ inr (
    (same.0 ∙ sym x.epoch, same.1 ∙ sym x.number),
    λ i z. b.timed.alive x.act (runs_act c x.act x.runs) (Server i) (subst (λ (k : ℕ). HasTimeout (Client n) (Server i) k c.last 3 (lines_of past)) same.0 (subst (λ (k : ℕ). HasTimeout (Client n) (Server i) head.epoch k 3 (lines_of past)) same.1 (x.quiet (Server i) head.epoch head.number 3 (lines_of past) z))),
  )
])

-- what was sent before the object was fetched was sent before
older_by : (t : Bool) (k : Key) (a b : List Entry) → has_sent k (sent_of a) ≡ false → has_sent k (sent_of b) ≡ false → has_sent k (sent_of (cond t a b)) ≡ false
older_by true k a b h w = h
older_by false k a b h w = w

older_unsent : (j : ℕ) (k : Key) (f : Fid) (past : List Entry) → has_sent k (sent_of past) ≡ false → has_sent k (sent_of (before_fetch (Client j) f past)) ≡ false
older_unsent j k f [] h = h
older_unsent j k f (e ∷ past) h = let none : has_sent k (sent_of past) ≡ false = not_front k (sent_of past) e.sent h in older_by (has_fetched (Client j) f e.lines) k past (before_fetch (Client j) f past) none (older_unsent j k f past none)

silent_unfetched : (j : ℕ) (f : Fid) (ls : List Line) → is_silent ls ≡ true → has_fetched (Client j) f ls ≡ false
silent_unfetched j f [] h = refl
silent_unfetched j f (lines.Begin n act ∷ ls) h = absurd cc
silent_unfetched j f (lines.Read n g index source body ∷ ls) h = absurd cc
silent_unfetched j f (lines.Answer n code ∷ ls) h = absurd cc
silent_unfetched j f (l ∷ ls) h = silent_unfetched j f ls h

pub given_in : (ls : List Line) (sent : List Message) (m : Message) → given_message ls sent ≡ Some m → IsIn m sent
given_in [] sent m e = absurd cc
given_in (lines.Given place ∷ ls) sent m e = in_at sent place m e
given_in (l ∷ ls) sent m e = given_in ls sent m e

-- each object that it keeps behind the step
pub own_keeping : (s : Script) (n : ℕ) (c : ClientState) (st : Step ClientState) (sent : List Message) (past : List Entry) → Base s n c sent past → Acts n (who_at c) c.gifts st → Follows n c st → Keeps n c.cache past st → Ends n c sent st → Times n c st → Fetches s n c past st → (Asks n (who_at c) st → has_sent (last_key n st.state) sent ≡ false)
    → ((f : Fid) (e : CacheEntry) → find_cached f c.cache ≡ Some e → Keeping s n c sent past f) → (f : Fid) (e : CacheEntry) → find_cached f st.state.cache ≡ Some e → Keeping s n st.state (sent ++ st.sent) (of_client n st ∷ past) f
own_keeping s n c st sent past b a fo k ends times fetch nexts was f e found =
    let x' : Entry = of_client n st in
    let asked : Asks n (who_at c) st → has_sent (last_key n st.state) (sent_of past) ≡ false = λ z. subst (λ (ms : List Message). has_sent (last_key n st.state) ms ≡ false) (sym b.told) (nexts z) in
    let new : (m : Message) → Each (IfCall (IsPassed n st.state f m (sent ++ st.sent) (x' ∷ past))) st.sent = λ m.
    each_map (IfCall (IsTheCall n st.state)) (IfCall (IsPassed n st.state f m (sent ++ st.sent) (x' ∷ past))) (if_call (IsTheCall n st.state) (IsPassed n st.state f m (sent ++ st.sent) (x' ∷ past)) (new_passed n st.state f m (sent ++ st.sent) (x' ∷ past))) st.sent (the_calls n c st a.goes) in
    elim (k.each f e found) [
      | inl x ↦
          (let h : Keeping s n c sent past f = was f x.was x.found in
          let S : Settled s n c sent past f = h.settled in
          let none : has_fetched (Client n) f st.lines ≡ false = x.fetched in
          record {
            settled = settled_over s n c st.state sent (sent ++ st.sent) x' past f S none
                (each_more (IfCall (IsPassed n st.state f S.reply (sent ++ st.sent) (x' ∷ past))) sent st.sent
                (each_map (IfCall (λ head user call. IsOne sent head user call × IsPassed n c f S.reply sent past head user call)) (IfCall (IsPassed n st.state f S.reply (sent ++ st.sent) (x' ∷ past)))
                (if_call (λ head user call. IsOne sent head user call × IsPassed n c f S.reply sent past head user call) (IsPassed n st.state f S.reply (sent ++ st.sent) (x' ∷ past)) (λ head user call p. old_passed s n c st sent past f S.reply e b ends times h.fresh none found head user call p.0 p.1))
                sent (calls_both (IsOne sent) (IsPassed n c f S.reply sent past) sent b.ones S.calls))
                (new S.reply));
            fresh = λ act run. elim a.goes [
              | inl r ↦ elim r.act [
                | inl gone ↦ absurd (none_runs st.state.running act gone run)
                | inr same ↦ unsent_before n (last_key n st.state) f x' past none (subst (λ (q : Key). has_sent q (sent_of (before_fetch (Client n) f past)) ≡ false) (sym (same_key_at n c st.state r.epoch r.last)) (h.fresh act (sym same.0 ∙ run)))
              ]
              | inr y ↦ elim y [
                | inl z ↦ unsent_before n (last_key n st.state) f x' past none (older_unsent n (last_key n st.state) f past (asked z))
                | inr z ↦ absurd (none_runs st.state.running act z.act run)
              ]
            ];
          })
      | inr x ↦
          (let w : IsFetchedNow s n c st f x.reply = fetch f x.reply x.fetched x.given in
          let at : before_fetch (Client n) f (x' ∷ past) ≡ past = ap (λ (t : Bool). cond t past (before_fetch (Client n) f past)) x.fetched in
          record {
            settled = record {
              reply = x.reply;
              by = ap (λ (t : Bool). cond t (given_message st.lines (sent_of past)) (fetch_reply (Client n) f past)) x.fetched ∙ x.given;
              was = subst (λ (p : List Entry). IsIn x.reply (sent_of p)) (sym at) (given_in st.lines (sent_of past) x.reply x.given);
              code = x.is_reply.1;
              to = x.to;
              from = w.from;
              calls = each_more (IfCall (IsPassed n st.state f x.reply (sent ++ st.sent) (x' ∷ past))) sent st.sent
                  (each_map (IfCall (λ head user call. head.from ≡ Client n → UpTo head.epoch head.number c.epoch c.last)) (IfCall (IsPassed n st.state f x.reply (sent ++ st.sent) (x' ∷ past)))
                  (if_call (λ head user call. head.from ≡ Client n → UpTo head.epoch head.number c.epoch c.last) (IsPassed n st.state f x.reply (sent ++ st.sent) (x' ∷ past)) (fetched_passed s n c st sent past f x.reply b w)) sent b.known)
                  (new x.reply);
            };
            fresh = λ act run. ap (λ (p : List Entry). has_sent (last_key n st.state) (sent_of p)) at ∙ (elim a.goes [
              | inl r ↦ elim r.act [
                | inl gone ↦ absurd (none_runs st.state.running act gone run)
                | inr same ↦ (let no_ : true ≡ false = sym x.fetched ∙ silent_unfetched n f st.lines (fo.stays act run r.last).silent in absurd cc)
              ]
              | inr y ↦ elim y [
                | inl z ↦ asked z
                | inr z ↦ absurd (none_runs st.state.running act z.act run)
              ]
            ]);
          })
    ]

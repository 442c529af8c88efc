-- A client's calls are sent in the order of their keys, and at every moment of a run what is known of its servers holds, however many
-- servers a cell has.
use Rattle.law_legal.proofs.DatabaseKeeps.{loc_uncalled}
use Rattle.spec_history.specs.declared.scripts.Script.{Script}
use Rattle.law_legal.proofs.ActLines.{Acts, IsTheCall, who_at}
use Rattle.law_legal.proofs.ActSteps.{begins_acts, falls_acts, given_acts, rises_acts, waits_acts, missed_acts}
use Rattle.law_legal.proofs.BaseLaws.{Below, Each, IfCall, OfCall, OfClient, UpTo, below_not, by_client, client_number, up_to_next, below_up_to, up_to_below}
use Rattle.law_legal.proofs.ClientCalls.{IsUncalled}
use Rattle.law_legal.proofs.ServerHears.{HearsIn}
use Rattle.law_legal.proofs.ServerHeardBefore.{GivenHeard, heard_first, heard_kept}
use Rattle.law_legal.proofs.CallKeysOnce.{IsKnown, any_told, by_key}
use Rattle.law_legal.proofs.RunsKnown.{Known, served_uncalled, started_uncalled, timed_uncalled, woken_uncalled}
use Rattle.law_legal.proofs.RunWalk.{Behind, EachMove, IsKept, each_moved}
use Rattle.law_legal.proofs.ActCalls.{of_client, handed_same, later_pair}
use Rattle.law_legal.proofs.ActCallsInRuns.{the_calls, sought_acts_in}
use Rattle.law_legal.specs.Ideal.{set_up_entry}
use Rattle.law_legal.specs.Past.{sent_of}
use Rattle.afs_num.specs.declared.calls.FsCall.{FsCall}
use Rattle.afs_num.specs.declared.messages.Call.TheVariants as ask
use Rattle.afs_num.specs.declared.messages.Carried.{Carried}
use Rattle.afs_num.specs.declared.messages.Carried.TheVariants as carried
use Rattle.afs_num.specs.declared.messages.Message.{Message}
use Rattle.afs_num.specs.declared.types.Head.{Head}
use Rattle.afs_num.specs.declared.types.Key.{Key}
use Rattle.afs_num.specs.declared.messages.Received.TheVariants.{Whole}
use Rattle.afs_num.specs.declared.types.Node.TheVariants.{Client, Server}
use Rattle.spec_history.specs.declared.lines.Line.TheVariants as lines
use Rattle.spec_rows.specs.ServerSteps.{back_timeout_row, server_row, wake_row}
use Rattle.spec_rows.specs.Going.{ClientState}
use Rattle.law_legal.proofs.RunSteps.{blow_line, server_falls, server_moves, server_rises, server_set, server_stays, loc_becomes}
use Rattle.spec_rows.specs.Runs.{Cell, Entry, at_rest, begun_by_disk, in_boot, in_step, message_at, start, ticked, voided}
use Rattle.law_legal.proofs.RunSteps.{loc_becomes}
use Rattle.spec_model.specs.Calls.{key_of}
use Rattle.spec_rows.specs.Steps.{Step}
use Rattle.std.proofs.Common.{zero, suc, ◌≡◌, ◌<◌, ℕ, ◌+◌, ◌⊎◌, inl, inr, List, [], ◌∷◌, ◌++◌, Some, refl, sym, ap, subst, ◌∙◌, arith}
use Rattle.std.specs.Prelude.{⊤}

-- ---- messages among messages

abbrev pub IsIn : Message → List Message → Type 0
IsIn m [] = ⊥
IsIn m (n ∷ ms) = (n ≡ m) ⊎ IsIn m ms

pub each_in : (P : Message → Type 0) (ms : List Message) (m : Message) → Each P ms → IsIn m ms → P m
each_in P [] m h x = absurd x
each_in P (n ∷ ms) m h (inl e) = subst P e h.0
each_in P (n ∷ ms) m h (inr x) = each_in P ms m h.1 x

pub in_at : (ms : List Message) (place : ℕ) (m : Message) → message_at ms place ≡ Some m → IsIn m ms
in_at [] place m e = absurd cc
in_at (x ∷ ms) zero m e = absurd cc
in_at (x ∷ ms) (suc zero) m e = let one : x ≡ m = cc in inl one
in_at (x ∷ ms) (suc (suc place)) m e = inr (in_at ms (suc place) m e)

pub in_front : (m : Message) (a b : List Message) → IsIn m a → IsIn m (a ++ b)
in_front m [] b x = absurd x
in_front m (n ∷ a) b (inl e) = inl e
in_front m (n ∷ a) b (inr x) = inr (in_front m a b x)

in_either : (m : Message) (a b : List Message) → IsIn m (a ++ b) → IsIn m a ⊎ IsIn m b
in_either m [] b x = inr x
in_either m (n ∷ a) b (inl e) = inl (inl e)
in_either m (n ∷ a) b (inr x) = elim (in_either m a b x) [ inl y ↦ inl (inr y) | inr y ↦ inr y ]

pub in_over : (m : Message) (newer older : List Entry) → IsIn m (sent_of older) → IsIn m (sent_of (newer ++ older))
in_over m [] older x = x
in_over m (e ∷ newer) older x = in_front m (sent_of (newer ++ older)) e.sent (in_over m newer older x)

-- ---- a client's own calls

abbrev pub IsFileCall : Carried → Type 0
IsFileCall (carried.Call user (ask.File call)) = ⊤
IsFileCall x = ⊥

abbrev pub IsOwnCall : ℕ → Message → Type 0
IsOwnCall j m = (m.head.from ≡ Client j) × IsFileCall m.carried

-- what is known of such a call
record IsOwnFact (P : Head → List ℕ → FsCall → Type 0) (m : Message) : Type 0 where
  user : List ℕ
  call : FsCall
  holds : P m.head user call

own_in : (P : Head → List ℕ → FsCall → Type 0) (j : ℕ) (head : Head) (x : Carried) → head.from ≡ Client j → IsFileCall x → OfCall (λ h u c. OfClient h.from (P h u c)) head x → IsOwnFact P (record { head = head; carried = x })
own_in P j head (carried.Call user (ask.File call)) from own h = record { user = user; call = call; holds = by_client j head.from (P head user call) from h }
own_in P j head (carried.Call user (ask.Volume call)) from own h = absurd own
own_in P j head (carried.Call user (ask.Location call)) from own h = absurd own
own_in P j head (carried.Refusal code) from own h = absurd own
own_in P j head (carried.Reply reply) from own h = absurd own
own_in P j head carried.Notice from own h = absurd own

own_fact : (P : Head → List ℕ → FsCall → Type 0) (j : ℕ) (m : Message) → IsOwnCall j m → IfCall P m → IsOwnFact P m
own_fact P j m own h = own_in P j m.head m.carried own.0 own.1 h

-- ---- what holds after every entry

abbrev pub AreQueued : ℕ → List Entry → Type 0
AreQueued j [] = ⊤
AreQueued j (e ∷ past) = ((x y : Message) → IsIn x e.sent → IsOwnCall j x → IsIn y (sent_of past) → IsOwnCall j y → UpTo y.head.epoch y.head.number x.head.epoch x.head.number) × AreQueued j past

-- what is known of servers holds of a cell
abbrev pub HasState : List Entry → Type 0
HasState [] = ⊤
HasState (e ∷ past) = (c : Cell) × HearsIn c (e ∷ past)

abbrev pub HadStates : List Entry → Type 0
HadStates [] = ⊤
HadStates (e ∷ past) = HasState past × HadStates past

abbrev pub QueuedIn : Cell → List Entry → Type 0
QueuedIn c past = (j : ℕ) → AreQueued j past

abbrev pub GivenQueued : Script → Cell → List Entry → Type 0
GivenQueued s c past = GivenHeard s c past × (QueuedIn c past × HadStates past)

known_of : (s : Script) (c : Cell) (past : List Entry) → GivenQueued s c past → Known c past
known_of s c past h = h.0.0.0.0.0.0

state_of : (c : Cell) (past : List Entry) → HearsIn c past → HasState past
state_of c [] h = tt
state_of c (e ∷ past) h = (c, h)

-- an entry that sends none
quiet_queued : (past : List Entry) (e : Entry) → e.sent ≡ [] → ((j : ℕ) → AreQueued j past) → (j : ℕ) → AreQueued j (e ∷ past)
quiet_queued past e none h j = ((λ x y i own k mine. absurd (subst (IsIn x) none i)), h j)

-- one of a server
served_queued : (past : List Entry) (e : Entry) → Each IsUncalled e.sent → ((j : ℕ) → AreQueued j past) → (j : ℕ) → AreQueued j (e ∷ past)
served_queued past e none h j = ((λ x y i own k mine. absurd (own_fact (λ head user call. ⊥) j x own (each_in IsUncalled e.sent x none i)).holds), h j)

client_queued : (s : Script) (c : Cell) (past : List Entry) (n : ℕ) (st : Step ClientState) → GivenQueued s c past → Acts n (who_at (c.clients n)) (c.clients n).gifts st → (j : ℕ) → AreQueued j (of_client n st ∷ past)
client_queued s c past n st h a j =
    let K : Known c past = known_of s c past h in (
      λ x y i own k mine.
          let new = own_fact (IsTheCall n st.state) j x own (each_in (IfCall (IsTheCall n st.state)) st.sent x (the_calls n (c.clients n) st a.goes) i) in
          let old = own_fact (λ head user call. IsKnown K.keys.callees c.clients head.to (key_of head)) j y mine (each_in (IfCall (λ head user call. IsKnown K.keys.callees c.clients head.to (key_of head))) c.sent y K.keys.calls (subst (IsIn y) K.hears.told k)) in
          let same : n ≡ j = client_number n j (sym (ap (λ (q : Key). q.node) new.holds.key) ∙ own.0) in
          let its : old.holds.client ≡ n = client_number old.holds.client n (sym old.holds.node ∙ (mine.0 ∙ ap Client (sym same))) in
          let up : UpTo y.head.epoch y.head.number (c.clients n).epoch (c.clients n).last = subst (λ (m : ℕ). UpTo y.head.epoch y.head.number (c.clients m).epoch (c.clients m).last) its old.holds.behind in
          subst (λ (q : Key). UpTo y.head.epoch y.head.number q.epoch q.number) (sym new.holds.key) (later_pair n (c.clients n) st a y.head.epoch y.head.number up),
      h.1.0 j,
    )

queued_moves : (s : Script) → EachMove (GivenQueued s) (Behind QueuedIn)
queued_moves s = record {
  void = λ c past h. quiet_queued past (voided c).entry refl h.1.0;
  ticked = λ c past n h. quiet_queued past (ticked c (suc n)).entry refl h.1.0;
  begun = λ c past n act h r z. client_queued s c past n _ h (begins_acts n (c.clients n) c.clock act r z);
  told = λ c past n place m h at to un. client_queued s c past n _ h (given_acts (by_key (IsKnown h.0.0.0.0.0.0.keys.callees c.clients)) any_told n (c.clients n) c.clock place m (h.0.0.0.0.0.0.keys.replies n) (h.0.0.0.0.0.1.seats n));
  sought = λ c past n place m k h at to z e. client_queued s c past n _ h (sought_acts_in s c past n place m k h.0.0.0.0.0.1 at z e);
  missed = λ c past n k h r z. client_queued s c past n _ h (missed_acts n (c.clients n) k r z);
  waited = λ c past n act h r. client_queued s c past n _ h (waits_acts n (c.clients n) act r);
  fallen = λ c past n h. client_queued s c past n _ h (falls_acts n c.handed (c.clients n) (handed_same s c past (h.0.0.0.0.0.1) n));
  risen = λ c past n h. client_queued s c past n _ h (rises_acts n (c.clients n));
  loc = λ c past l ls ms h st. served_queued past (loc_becomes c l ls ms).entry (loc_uncalled c l ls ms st) h.1.0;
  served = λ c past i place m armed h up at to. served_queued past (server_moves c i armed (server_row (Server i) (c.hosts i).state c.clock place (Whole m))).entry (served_uncalled c past i place m (known_of s c past h) at) h.1.0;
  cut = λ c past i place m t h up at to. quiet_queued past (server_falls c i (lines.Given place ∷ blow_line i t.stops ∷ []) (in_step m c.clock t)).entry refl h.1.0;
  stopped = λ c past i h up. quiet_queued past (server_falls c i (lines.Crash (Server i) ∷ []) at_rest).entry refl h.1.0;
  stop_set = λ c past i calls pick armed h up. quiet_queued past (server_set c i (lines.Stop (Server i) calls pick) armed).entry refl h.1.0;
  fail_set = λ c past i call armed h up. quiet_queued past (server_set c i (lines.Fail (Server i) call) armed).entry refl h.1.0;
  timed = λ c past i n b armed h up at. served_queued past (server_moves c i armed (back_timeout_row (Server i) (c.hosts i).state c.clock n b)).entry (timed_uncalled c past i n b (known_of s c past h)) h.1.0;
  woken = λ c past i armed h up. served_queued past (server_moves c i armed (wake_row (Server i) (c.hosts i).state c.clock)).entry (woken_uncalled c past i (known_of s c past h)) h.1.0;
  started = λ c past i after fall h down. served_queued past (server_rises c i (begun_by_disk (Server i) (c.hosts i).state after fall)).entry (started_uncalled c past i after fall (known_of s c past h) down) h.1.0;
  early = λ c past i fall h down. quiet_queued past (server_falls c i (lines.Fault (Server i) ∷ []) fall).entry refl h.1.0;
  midway = λ c past i after fall h down. quiet_queued past (server_stays c i (begun_by_disk (Server i) (c.hosts i).state after fall) (lines.Fault (Server i)) in_boot).entry refl h.1.0;
  full = λ c past i after fall h down. quiet_queued past (server_stays c i (begun_by_disk (Server i) (c.hosts i).state after fall) (lines.Full (Server i)) at_rest).entry refl h.1.0;
}

pub queued_kept : (s : Script) → IsKept (GivenQueued s)
queued_kept s c past x so h = (heard_kept s c past x so h.0, (each_moved (GivenQueued s) (Behind QueuedIn) (queued_moves s) c past x so h, (state_of c past (known_of s c past h).hears, h.1.1)))

pub queued_first : (s : Script) → GivenQueued s (start s) (set_up_entry s ∷ [])
queued_first s = (heard_first s, ((λ j. ((λ x y i own k mine. absurd i), tt)), (tt, tt)))

-- ---- what follows

-- a call under a lower key was sent before
pub queued_before : (j : ℕ) (newer older : List Entry) (x y : Message) → AreQueued j (newer ++ older) → IsIn x (sent_of (newer ++ older)) → IsOwnCall j x → IsIn y (sent_of older) → IsOwnCall j y → Below x.head.epoch x.head.number y.head.epoch y.head.number → IsIn x (sent_of older)
queued_before j [] older x y h i own k mine low = i
queued_before j (e ∷ newer) older x y h i own k mine low = elim (in_either x (sent_of (newer ++ older)) e.sent i) [
  | inl before ↦ queued_before j newer older x y h.1 before own k mine low
  | inr now ↦ absurd (below_not x.head.epoch x.head.number y.head.epoch y.head.number low (h.0 x y now own (in_over y newer older k) mine))
]

pub queued_older : (j : ℕ) (newer older : List Entry) → AreQueued j (newer ++ older) → AreQueued j older
queued_older j [] older h = h
queued_older j (e ∷ newer) older h = queued_older j newer older h.1

pub had_state : (newer : List Entry) (at : Entry) (older : List Entry) (m : Message) → HadStates (newer ++ (at ∷ older)) → IsIn m (sent_of older) → (c : Cell) × HearsIn c older
had_state [] at older m h i = of_some older h.0 i
  where
    of_some : (past : List Entry) → HasState past → IsIn m (sent_of past) → (c : Cell) × HearsIn c past
    of_some [] x i = absurd i
    of_some (e ∷ past) x i = x
had_state (e ∷ newer) at older m h i = had_state newer at older m h.1 i

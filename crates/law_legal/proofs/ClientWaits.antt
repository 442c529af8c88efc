-- While a client waits for a call it reads nothing and is answered nothing; and unless the reply is spoiled it dropped nothing since that
-- the call names, however many servers a cell has.
use Rattle.law_legal.proofs.ActFollows.{none_runs, Follows, WaitsOn, begins_follow, falls_follow, given_follow, rises_follow, waits_follow, sought_follow, missed_follow}
use Rattle.spec_history.specs.declared.lines.Line.{Line}
use Rattle.spec_history.specs.declared.lines.Line.TheVariants as lines
use Rattle.spec_history.specs.declared.scripts.Script.{Script}
use Rattle.law_legal.proofs.ActLines.{Acts, last_key, who_at}
use Rattle.law_legal.proofs.ActSteps.{begins_acts, falls_acts, given_acts, rises_acts, waits_acts, missed_acts}
use Rattle.law_legal.proofs.OwedPasses.{all_lines}
use Rattle.law_legal.proofs.BaseLaws.{at_put, client_number, each_at, same_key-refl}
use Rattle.law_legal.proofs.ServerChooses.{disk_works, one_from, risen_from, risen_lines, serves_works, starts_works, times_works, wakes_works}
use Rattle.law_legal.proofs.ServerRefusesForGood.{IsFirm}
use Rattle.law_legal.proofs.ClientGifts.{Given, given_first, given_kept}
use Rattle.law_legal.proofs.CallKeysOnce.{IsKnown, any_told, by_key}
use Rattle.law_legal.proofs.RunWalk.{Behind, EachMove, IsKept, each_moved, run_keeps}
use Rattle.law_legal.proofs.ActCalls.{AskedIn, idle_leaves, is_idle, of_client, other_leaves, unsent, handed_same}
use Rattle.law_legal.proofs.ActCallsInRuns.{any_cut, any_message, blow_idle, idle_works, next_key, same_key_at, loc_idle, sought_acts_in, placed_in, told_in}
use Rattle.law_legal.proofs.RunsKnown.{Known}
use Rattle.law_legal.specs.ClientParts.{IsUnspoiled, WaitsAreSilent, is_silent}
use Rattle.law_legal.specs.Grants.{IsDropped}
use Rattle.law_legal.specs.Ideal.{set_up_entry}
use Rattle.law_legal.specs.Past.{has_sent, lines_on, onto, sent_of}
use Rattle.afs_num.specs.declared.histories.Actor.TheVariants as actors
use Rattle.afs_num.specs.declared.messages.Message.{Message}
use Rattle.afs_num.specs.declared.messages.Received.TheVariants.{Whole}
use Rattle.afs_num.specs.declared.types.Fid.{Fid}
use Rattle.afs_num.specs.declared.types.Key.{Key}
use Rattle.afs_num.specs.declared.types.Node.{Node}
use Rattle.afs_num.specs.declared.types.Node.TheVariants.{Client, Server}
use Rattle.spec_rows.specs.Callbacks.{put}
use Rattle.spec_rows.specs.ClientRow.{call_by, call_of, names_call}
use Rattle.spec_rows.specs.Going.{ClientState, Going, next}
use Rattle.law_legal.proofs.RunSteps.{blow_line, server_falls, server_moves, server_rises, server_set, server_stays, loc_becomes}
use Rattle.spec_rows.specs.Runs.{Cell, Entry, at_rest, begun_by_disk, in_boot, in_step, start, ticked, voided}
use Rattle.law_legal.proofs.RunSteps.{loc_becomes}
use Rattle.spec_rows.specs.ServerSteps.{back_timeout_row, server_row, wake_row}
use Rattle.spec_rows.specs.States.{Gift}
use Rattle.spec_rows.specs.Steps.{Step}
use Rattle.std.proofs.Common.{suc, ◌≡◌, ℕ, inl, inr, Bool, true, false, cond, List, [], ◌∷◌, Some, refl, sym, ap, subst, ◌∙◌}
use Rattle.std.specs.Prelude.{⊤}

-- one entry more, in which the client waits on
one_more : (j : ℕ) (x y : ClientState) (act : Going) (e : Entry) (past : List Entry) → last_key j y ≡ last_key j x → y.callee ≡ x.callee → call_of y act ≡ call_of x act → (e.actor ≡ actors.Node (Client j) → is_silent e.lines ≡ true)
    → (y.spoiled ≡ false → (x.spoiled ≡ false) × ((f : Fid) → names_call (f ∷ []) (call_of x act) ≡ true → (o : List Line) → IsDropped x.callee (Client j) f (onto o e.lines) → IsDropped x.callee (Client j) f o)) → IsUnspoiled j x act past → IsUnspoiled j y act (e ∷ past)
one_more j x y act e past key callee call quiet w h = record {
  newer = e ∷ h.newer;
  at = h.at;
  older = h.older;
  split = ap (λ (p : List Entry). e ∷ p) h.split;
  sent = subst (λ (k : Key). has_sent k h.at.sent ≡ true) (sym key) h.sent;
  first = subst (λ (k : Key). has_sent k (sent_of h.older) ≡ false) (sym key) h.first;
  silent = (quiet, h.silent);
  kept = λ z f named d.
      let v = w z in
      let named' : names_call (f ∷ []) (call_of x act) ≡ true = ap (names_call (f ∷ [])) (sym call) ∙ named in
      h.kept v.0 f named' (v.1 f named' (lines_on [] h.newer) (subst (λ (q : Node). IsDropped q (Client j) f (onto (lines_on [] h.newer) e.lines)) callee d));
}

-- every client that waits
abbrev pub SilentOf : (ℕ → ClientState) → List Entry → Type 0
SilentOf clients past = (j : ℕ) (act : Going) → (clients j).running ≡ Some act → IsUnspoiled j (clients j) act past

-- an entry of another node
abbrev IsElse : ℕ → Entry → List Entry → Type 0
IsElse j e past = (e.actor ≡ actors.Node (Client j) → ⊥) × ((q : Node) (f : Fid) (o : List Line) → IsDropped q (Client j) f (onto o e.lines) → IsDropped q (Client j) f o)

else_silent : (j : ℕ) (x : ClientState) (e : Entry) (past : List Entry) → IsElse j e past → ((act : Going) → x.running ≡ Some act → IsUnspoiled j x act past) → (act : Going) → x.running ≡ Some act → IsUnspoiled j x act (e ∷ past)
else_silent j x e past w h act r = one_more j x x act e past refl refl refl (λ z. absurd (w.0 z)) (λ z. (z, λ f named o d. w.1 x.callee f o d)) (h act r)

-- ---- a step of a client

step_silent : (c : Cell) (past : List Entry) (s : Script) (n : ℕ) (st : Step ClientState) → Known c past → AskedIn s c past → SilentOf c.clients past → Acts n (who_at (c.clients n)) (c.clients n).gifts st → Follows n (c.clients n) st → (act : Going) → st.state.running ≡ Some act → IsUnspoiled n st.state act (of_client n st ∷ past)
step_silent c past s n st K A h a f act run = elim a.goes [
  | inl r ↦ elim r.act [
    | inl none ↦ absurd (none_runs st.state.running act none run)
    | inr same ↦
        (let p : WaitsOn n (c.clients n) st = f.stays act run r.last in
        let runs : (c.clients n).running ≡ Some act = sym same.0 ∙ run in
        one_more n (c.clients n) st.state act (of_client n st) past (same_key_at n (c.clients n) st.state r.epoch r.last) p.callee (ap (λ (gs : List Gift). call_by gs (next act)) same.1.0) (λ z. p.silent)
        (λ z. (p.unspoiled z, λ g named o d. p.undropped z act runs g named o d)) (h n act runs))
  ]
  | inr y ↦ elim y [
    | inl z ↦
        (record {
          newer = [];
          at = of_client n st;
          older = past;
          split = refl;
          sent = subst (λ (ms : List Message). has_sent (last_key n st.state) ms ≡ true) (sym z.sent) (ap (λ (t : Bool). cond t true false) (same_key-refl (last_key n st.state)));
          first = subst (λ (ms : List Message). has_sent (last_key n st.state) ms ≡ false) (sym K.hears.told) (unsent K.keys.callees c.clients n (last_key n st.state) c.sent (next_key n c.clients st z) K.keys.calls).0;
          silent = tt;
          kept = λ q g named d. d;
        })
    | inr z ↦ absurd (none_runs st.state.running act z.act run)
  ]
]

-- ---- every step

abbrev pub GivenSilent : Script → Cell → List Entry → Type 0
GivenSilent s c past = Given s c past × SilentOf c.clients past

abbrev SilentIn : Cell → List Entry → Type 0
SilentIn c past = SilentOf c.clients past

other_actor : (n j : ℕ) → (n ≡ j → ⊥) → actors.Node (Client n) ≡ actors.Node (Client j) → ⊥
other_actor n j ne e = let same : Client n ≡ Client j = cc in ne (client_number n j same)

client_silent : (s : Script) (c : Cell) (past : List Entry) (n : ℕ) (st : Step ClientState) → GivenSilent s c past → Acts n (who_at (c.clients n)) (c.clients n).gifts st → Follows n (c.clients n) st → SilentOf (put n st.state c.clients) (of_client n st ∷ past)
client_silent s c past n st h a f j =
    at_put n j (λ (x : ClientState). (act : Going) → x.running ≡ Some act → IsUnspoiled j x act (of_client n st ∷ past)) st.state c.clients
    (λ same. subst (λ (i : ℕ). (act : Going) → st.state.running ≡ Some act → IsUnspoiled i st.state act (of_client n st ∷ past)) same (step_silent c past s n st h.0.0.0.0.0 h.0.0.0.0.1 h.1 a f))
    (λ other. else_silent j (c.clients j) (of_client n st) past (other_actor n j other, λ q g o d. (other_leaves s n j st.lines o a.of other).dropped q g d) (h.1 j))

idle_silent : (s : Script) (c : Cell) (past : List Entry) (e : Entry) → SilentOf c.clients past → ((j : ℕ) → e.actor ≡ actors.Node (Client j) → ⊥) → all_lines is_idle e.lines ≡ true → SilentOf c.clients (e ∷ past)
idle_silent s c past e h ne idle j = else_silent j (c.clients j) e past (ne j, λ q g o d. (idle_leaves s j e.lines o idle).dropped q g d) (h j)

silent_moves : (s : Script) → EachMove (GivenSilent s) (Behind SilentIn)
silent_moves s = record {
  void = λ c past h. idle_silent s c past (voided c).entry h.1 (λ j z. absurd cc) refl;
  ticked = λ c past n h. idle_silent s c past (ticked c (suc n)).entry h.1 (λ j z. absurd cc) refl;
  begun = λ c past n act h r z. client_silent s c past n _ h (begins_acts n (c.clients n) c.clock act r z) (begins_follow n (c.clients n) c.clock act (h.0.1 n).0 r);
  told = λ c past n place m h at to un. client_silent s c past n _ h (given_acts (by_key (IsKnown h.0.0.0.0.0.keys.callees c.clients)) any_told n (c.clients n) c.clock place m (h.0.0.0.0.0.keys.replies n) (h.0.0.0.0.1.seats n)) (given_follow n (c.clients n) c.clock place m (h.0.1 n).0 (each_at (λ m. IsFirm m.head m.carried) c.sent place m at h.0.0.1));
  sought = λ c past n place m k h at to z e. client_silent s c past n _ h (sought_acts_in s c past n place m k h.0.0.0.0.1 at z e) (sought_follow s n (c.clients n) c.clock place k m.head m.carried (placed_in s c past n k h.0.0.0.0.1 z) (told_in s c past n place m k h.0.0.0.0.1 at e) (h.0.1 n).0);
  missed = λ c past n k h r z. client_silent s c past n _ h (missed_acts n (c.clients n) k r z) (missed_follow n (c.clients n) k r (h.0.1 n).0);
  waited = λ c past n act h r. client_silent s c past n _ h (waits_acts n (c.clients n) act r) (waits_follow n (c.clients n) act (h.0.1 n).0);
  fallen = λ c past n h. client_silent s c past n _ h (falls_acts n c.handed (c.clients n) (handed_same s c past (h.0.0.0.0.1) n)) (falls_follow n c.handed (c.clients n));
  risen = λ c past n h. client_silent s c past n _ h (rises_acts n (c.clients n)) (rises_follow n (c.clients n) (h.0.1 n).0);
  loc = λ c past l ls ms h st. idle_silent s c past (loc_becomes c l ls ms).entry h.1 (λ j z. absurd cc) (loc_idle ls st.lines);
  served = λ c past i place m armed h up at to. idle_silent s c past (server_moves c i armed (server_row (Server i) (c.hosts i).state c.clock place (Whole m))).entry h.1 (λ j z. absurd cc) (idle_works any_message i (c.hosts i).state _ _ (serves_works any_message (Server i) (c.hosts i).state c.clock place m (λ rest. tt)));
  cut = λ c past i place m t h up at to. idle_silent s c past (server_falls c i (lines.Given place ∷ blow_line i t.stops ∷ []) (in_step m c.clock t)).entry h.1 (λ j z. absurd cc) (blow_idle i t.stops);
  stopped = λ c past i h up. idle_silent s c past (server_falls c i (lines.Crash (Server i) ∷ []) at_rest).entry h.1 (λ j z. absurd cc) refl;
  stop_set = λ c past i calls pick armed h up. idle_silent s c past (server_set c i (lines.Stop (Server i) calls pick) armed).entry h.1 (λ j z. absurd cc) refl;
  fail_set = λ c past i call armed h up. idle_silent s c past (server_set c i (lines.Fail (Server i) call) armed).entry h.1 (λ j z. absurd cc) refl;
  timed = λ c past i n b armed h up at. idle_silent s c past (server_moves c i armed (back_timeout_row (Server i) (c.hosts i).state c.clock n b)).entry h.1 (λ j z. absurd cc) (idle_works any_message i (c.hosts i).state _ _ (times_works any_message (Server i) (c.hosts i).state c.clock n b));
  woken = λ c past i armed h up. idle_silent s c past (server_moves c i armed (wake_row (Server i) (c.hosts i).state c.clock)).entry h.1 (λ j z. absurd cc) (idle_works any_message i (c.hosts i).state _ _ (wakes_works any_message (Server i) (c.hosts i).state c.clock));
  started = λ c past i after fall h down. idle_silent s c past (server_rises c i (begun_by_disk (Server i) (c.hosts i).state after fall)).entry h.1 (λ j z. absurd cc) (idle_works any_message i (c.hosts i).state _ _ (starts_works any_message (Server i) (c.hosts i).state c.clock c.count (begun_by_disk (Server i) (c.hosts i).state after fall) (disk_works any_message (Server i) (c.hosts i).state after fall (risen_lines (Server i) c.clock c.count (begun_by_disk (Server i) (c.hosts i).state after fall)) (any_cut fall) (risen_from (Server i) c.clock c.count (begun_by_disk (Server i) (c.hosts i).state after fall)))));
  early = λ c past i fall h down. idle_silent s c past (server_falls c i (lines.Fault (Server i) ∷ []) fall).entry h.1 (λ j z. absurd cc) refl;
  midway = λ c past i after fall h down. idle_silent s c past (server_stays c i (begun_by_disk (Server i) (c.hosts i).state after fall) (lines.Fault (Server i)) in_boot).entry h.1 (λ j z. absurd cc) (idle_works any_message i (c.hosts i).state _ _ (disk_works any_message (Server i) (c.hosts i).state after fall (lines.Fault (Server i) ∷ []) (any_cut fall) (one_from (Server i) true refl)));
  full = λ c past i after fall h down. idle_silent s c past (server_stays c i (begun_by_disk (Server i) (c.hosts i).state after fall) (lines.Full (Server i)) at_rest).entry h.1 (λ j z. absurd cc) (idle_works any_message i (c.hosts i).state _ _ (disk_works any_message (Server i) (c.hosts i).state after fall (lines.Full (Server i) ∷ []) (any_cut fall) (one_from (Server i) true refl)));
}

pub silent_kept : (s : Script) → IsKept (GivenSilent s)
silent_kept s c past x so h = (given_kept s c past x so h.0, each_moved (GivenSilent s) (Behind SilentIn) (silent_moves s) c past x so h)

pub silent_first : (s : Script) → GivenSilent s (start s) (set_up_entry s ∷ [])
silent_first s = (given_first s, λ j act r. absurd cc)

pub run_silent : WaitsAreSilent
run_silent s h end r j act run = (run_keeps (GivenSilent s) (silent_kept s) r.inputs s (set_up_entry s ∷ []) h end (silent_first s) r.leads).1 j act run

-- The call that a client waits for was sent to its callee, and each timeout of it was told, however many servers a cell has.
use Rattle.law_legal.proofs.ActFollows.{none_runs, AreOpen, Follows, WaitsOn, begins_follow, falls_follow, given_follow, more_not, rises_follow, waits_follow, sought_follow, missed_follow}
use Rattle.spec_history.specs.declared.lines.Line.{Line}
use Rattle.spec_history.specs.declared.lines.Line.TheVariants as lines
use Rattle.spec_history.specs.declared.scripts.Script.{Script}
use Rattle.law_legal.proofs.ActLines.{Acts, last_key, who_at}
use Rattle.law_legal.proofs.ActSteps.{begins_acts, falls_acts, given_acts, rises_acts, waits_acts, missed_acts}
use Rattle.law_legal.proofs.BaseLaws.{at_put, each_at, some_of}
use Rattle.law_legal.proofs.ServerRefusesForGood.{IsFirm}
use Rattle.law_legal.proofs.ClientGifts.{Given, given_first, given_kept}
use Rattle.law_legal.proofs.CallKeysOnce.{IsKnown, any_told, by_key}
use Rattle.law_legal.proofs.RunWalk.{Behind, EachMove, IsKept, each_moved}
use Rattle.law_legal.proofs.ActCalls.{of_client, handed_same}
use Rattle.law_legal.proofs.ActCallsInRuns.{same_key_at, sought_acts_in, placed_in, told_in}
use Rattle.law_legal.proofs.KeptPasses.{timeout_onto}
use Rattle.law_legal.specs.Breaks.{HasTimeout}
use Rattle.law_legal.specs.Ideal.{set_up_entry}
use Rattle.law_legal.specs.Past.{SendsTo, WasSent, lines_of, onto}
use Rattle.afs_num.specs.declared.messages.Call.TheVariants as ask
use Rattle.afs_num.specs.declared.messages.Carried.TheVariants as carried
use Rattle.afs_num.specs.declared.messages.Received.TheVariants.{Whole}
use Rattle.afs_num.specs.declared.types.Key.{Key}
use Rattle.afs_num.specs.declared.types.Node.{Node}
use Rattle.afs_num.specs.declared.types.Node.TheVariants.{Client, Server}
use Rattle.spec_rows.specs.Callbacks.{put}
use Rattle.spec_rows.specs.ClientRow.{call_by, call_of}
use Rattle.spec_rows.specs.Going.{ClientState, Going, next}
use Rattle.law_legal.proofs.RunSteps.{blow_line, server_falls, server_moves, server_rises, server_set, server_stays, loc_becomes}
use Rattle.spec_rows.specs.Runs.{Cell, Entry, at_rest, begun_by_disk, in_boot, in_step, start, ticked, voided}
use Rattle.law_legal.proofs.RunSteps.{loc_becomes}
use Rattle.spec_rows.specs.ServerSteps.{back_timeout_row, server_row, wake_row}
use Rattle.spec_rows.specs.States.{Gift}
use Rattle.spec_rows.specs.Steps.{Step}
use Rattle.std.proofs.Common.{suc, ◌≡◌, ◌≤◌, ℕ, ◌+◌, inl, inr, Bool, true, false, List, [], ◌∷◌, Some, refl, sym, ap, subst, ◌∙◌, nat_eq, eqb-true, eq-eqb, arith}

-- ---- timeouts

abbrev pub IsTried : ℕ → ClientState → List Line → Type 0
IsTried j x ls = (act : Going) → x.running ≡ Some act → (k : ℕ) → 1 ≤ k → k ≤ x.tries → HasTimeout (Client j) x.callee x.epoch x.last k ls

same_timeout : (j k : ℕ) (x y : ClientState) (ls : List Line) → y.callee ≡ x.callee → y.epoch ≡ x.epoch → y.last ≡ x.last → HasTimeout (Client j) x.callee x.epoch x.last k ls → HasTimeout (Client j) y.callee y.epoch y.last k ls
same_timeout j k x y ls q e l h =
    subst (λ (n : Node). HasTimeout (Client j) n y.epoch y.last k ls) (sym q)
    (subst (λ (i : ℕ). HasTimeout (Client j) x.callee i y.last k ls) (sym e)
    (subst (λ (i : ℕ). HasTimeout (Client j) x.callee x.epoch i k ls) (sym l) h))

-- of a call that was timed out once more
once_more : (j : ℕ) (x : ClientState) (o ls : List Line) (k : ℕ) (t : Bool) (act : Going) → IsTried j x o → x.running ≡ Some act → 1 ≤ k → k ≤ x.tries + 1 → HasTimeout (Client j) x.callee x.epoch x.last (x.tries + 1) (onto o ls) → nat_eq k (x.tries + 1) ≡ t → HasTimeout (Client j) x.callee x.epoch x.last k (onto o ls)
once_more j x o ls k true act h runs a b w t = subst (λ (i : ℕ). HasTimeout (Client j) x.callee x.epoch x.last i (onto o ls)) (sym (eqb-true k (x.tries + 1) t)) w
once_more j x o ls k false act h runs a b w t =
    timeout_onto (Client j) x.callee x.epoch x.last k o ls (h act runs k a (let ne : k ≡ x.tries + 1 → ⊥ = λ e. (let yes : nat_eq k (x.tries + 1) ≡ true = eq-eqb k (x.tries + 1) e in absurd cc) in omega arith))

on_tried : (j : ℕ) (c : ClientState) (st : Step ClientState) (o : List Line) → IsTried j c o → WaitsOn j c st → IsTried j st.state (onto o st.lines)
on_tried j c st o h p act run k a b =
    let runs : c.running ≡ Some act = sym p.running ∙ run in
    same_timeout j k c st.state (onto o st.lines) p.callee p.epoch p.last
    (elim p.tries [
      | inl same ↦ timeout_onto (Client j) c.callee c.epoch c.last k o st.lines (h act runs k a (subst (λ (n : ℕ). k ≤ n) same b))
      | inr more ↦ once_more j c o st.lines k (nat_eq k (c.tries + 1)) act h runs a (subst (λ (n : ℕ). k ≤ n) more.0 b) (more.1 o) refl
    ])

fresh_tried : (j : ℕ) (y : ClientState) (ls : List Line) → y.tries ≡ 0 → IsTried j y ls
fresh_tried j y ls none act run k a b = let le : k ≤ y.tries = b in absurd (omega arith)

-- ---- its callee

abbrev pub IsSentTo : ℕ → ClientState → List Entry → Type 0
IsSentTo j x past = (act : Going) → x.running ≡ Some act → WasSent x.callee (last_key j x) x.user (call_of x act) past

sent_same : (n : ℕ) (x y : ClientState) (act : Going) (past : List Entry) → y.callee ≡ x.callee → y.epoch ≡ x.epoch → y.last ≡ x.last → y.user ≡ x.user → y.gifts ≡ x.gifts → WasSent x.callee (last_key n x) x.user (call_of x act) past → WasSent y.callee (last_key n y) y.user (call_of y act) past
sent_same n x y act past q e l u g h =
    subst (λ (m : Node). WasSent m (last_key n y) y.user (call_of y act) past) (sym q)
    (subst (λ (k : Key). WasSent x.callee k y.user (call_of y act) past) (sym (same_key_at n x y e l))
    (subst (λ (v : List ℕ). WasSent x.callee (last_key n x) v (call_of y act) past) (sym u)
    (subst (λ (gs : List Gift). WasSent x.callee (last_key n x) x.user (call_by gs (next act)) past) (sym g) h)))

-- ---- a step of a client

pub record Waits (j : ℕ) (x : ClientState) (past : List Entry) : Type 0 where
  pub open' : AreOpen x
  pub tried : IsTried j x (lines_of past)
  pub sent : IsSentTo j x past

step_tried : (n : ℕ) (c : ClientState) (st : Step ClientState) (past : List Entry) → IsTried n c (lines_of past) → Acts n (who_at c) c.gifts st → Follows n c st → IsTried n st.state (lines_of (of_client n st ∷ past))
step_tried n c st past h a f act run = elim a.goes [
  | inl r ↦ on_tried n c st (lines_of past) h (f.stays act run r.last) act run
  | inr y ↦ elim y [
    | inl z ↦ fresh_tried n st.state (onto (lines_of past) st.lines) (f.fresh act run (more_not st.state.last c.last z.last)) act run
    | inr z ↦ absurd (none_runs st.state.running act z.act run)
  ]
]

step_sent : (n : ℕ) (c : ClientState) (st : Step ClientState) (past : List Entry) → IsSentTo n c past → Acts n (who_at c) c.gifts st → Follows n c st → IsSentTo n st.state (of_client n st ∷ past)
step_sent n c st past h a f act run = elim a.goes [
  | inl r ↦ elim r.act [
    | inl none ↦ absurd (none_runs st.state.running act none run)
    | inr same ↦ inr (sent_same n c st.state act past (f.stays act run r.last).callee r.epoch r.last a.user same.1.0 (h act (sym same.0 ∙ run)))
  ]
  | inr y ↦ elim y [
    | inl z ↦ inl (subst (SendsTo st.state.callee (last_key n st.state) st.state.user (call_of st.state act)) (sym z.sent) (inl (refl, (refl, ap (λ (g : Going). carried.Call st.state.user (ask.File (call_of st.state g))) (some_of z.act act (sym z.runs ∙ run))))))
    | inr z ↦ absurd (none_runs st.state.running act z.act run)
  ]
]

other_waits : (j : ℕ) (x : ClientState) (e : Entry) (past : List Entry) → Waits j x past → Waits j x (e ∷ past)
other_waits j x e past h = record { open' = h.open'; tried = λ act run k a b. timeout_onto (Client j) x.callee x.epoch x.last k (lines_of past) e.lines (h.tried act run k a b); sent = λ act run. inr (h.sent act run) }

client_waits : (c : Cell) (past : List Entry) (n : ℕ) (st : Step ClientState) → ((j : ℕ) → Waits j (c.clients j) past) → Acts n (who_at (c.clients n)) (c.clients n).gifts st → Follows n (c.clients n) st → (j : ℕ) → Waits j (put n st.state c.clients j) (of_client n st ∷ past)
client_waits c past n st h a f j =
    at_put n j (λ (x : ClientState). Waits j x (of_client n st ∷ past)) st.state c.clients
    (λ same. subst (λ (i : ℕ). Waits i st.state (of_client n st ∷ past)) same (record { open' = f.opens (h n).open'; tried = step_tried n (c.clients n) st past (h n).tried a f; sent = step_sent n (c.clients n) st past (h n).sent a f }))
    (λ other. other_waits j (c.clients j) (of_client n st) past (h j))

-- ---- every step

abbrev pub WaitsIn : Cell → List Entry → Type 0
WaitsIn c past = (j : ℕ) → Waits j (c.clients j) past

abbrev pub GivenWaits : Script → Cell → List Entry → Type 0
GivenWaits s c past = Given s c past × WaitsIn c past

waits_moves : (s : Script) → EachMove (GivenWaits s) (Behind WaitsIn)
waits_moves s = record {
  void = λ c past h j. other_waits j (c.clients j) (voided c).entry past (h.1 j);
  ticked = λ c past n h j. other_waits j (c.clients j) (ticked c (suc n)).entry past (h.1 j);
  begun = λ c past n act h r z. client_waits c past n _ h.1 (begins_acts n (c.clients n) c.clock act r z) (begins_follow n (c.clients n) c.clock act (h.0.1 n).0 r);
  told = λ c past n place m h at to un. client_waits c past n _ h.1 (given_acts (by_key (IsKnown h.0.0.0.0.0.keys.callees c.clients)) any_told n (c.clients n) c.clock place m (h.0.0.0.0.0.keys.replies n) (h.0.0.0.0.1.seats n)) (given_follow n (c.clients n) c.clock place m (h.0.1 n).0 (each_at (λ m. IsFirm m.head m.carried) c.sent place m at h.0.0.1));
  sought = λ c past n place m k h at to z e. client_waits c past n _ h.1 (sought_acts_in s c past n place m k h.0.0.0.0.1 at z e) (sought_follow s n (c.clients n) c.clock place k m.head m.carried (placed_in s c past n k h.0.0.0.0.1 z) (told_in s c past n place m k h.0.0.0.0.1 at e) (h.0.1 n).0);
  missed = λ c past n k h r z. client_waits c past n _ h.1 (missed_acts n (c.clients n) k r z) (missed_follow n (c.clients n) k r (h.0.1 n).0);
  waited = λ c past n act h r. client_waits c past n _ h.1 (waits_acts n (c.clients n) act r) (waits_follow n (c.clients n) act (h.0.1 n).0);
  fallen = λ c past n h. client_waits c past n _ h.1 (falls_acts n c.handed (c.clients n) (handed_same s c past (h.0.0.0.0.1) n)) (falls_follow n c.handed (c.clients n));
  risen = λ c past n h. client_waits c past n _ h.1 (rises_acts n (c.clients n)) (rises_follow n (c.clients n) (h.0.1 n).0);
  loc = λ c past l ls ms h st j. other_waits j (c.clients j) (loc_becomes c l ls ms).entry past (h.1 j);
  served = λ c past i place m armed h up at to j. other_waits j (c.clients j) (server_moves c i armed (server_row (Server i) (c.hosts i).state c.clock place (Whole m))).entry past (h.1 j);
  cut = λ c past i place m t h up at to j. other_waits j (c.clients j) (server_falls c i (lines.Given place ∷ blow_line i t.stops ∷ []) (in_step m c.clock t)).entry past (h.1 j);
  stopped = λ c past i h up j. other_waits j (c.clients j) (server_falls c i (lines.Crash (Server i) ∷ []) at_rest).entry past (h.1 j);
  stop_set = λ c past i calls pick armed h up j. other_waits j (c.clients j) (server_set c i (lines.Stop (Server i) calls pick) armed).entry past (h.1 j);
  fail_set = λ c past i call armed h up j. other_waits j (c.clients j) (server_set c i (lines.Fail (Server i) call) armed).entry past (h.1 j);
  timed = λ c past i n b armed h up at j. other_waits j (c.clients j) (server_moves c i armed (back_timeout_row (Server i) (c.hosts i).state c.clock n b)).entry past (h.1 j);
  woken = λ c past i armed h up j. other_waits j (c.clients j) (server_moves c i armed (wake_row (Server i) (c.hosts i).state c.clock)).entry past (h.1 j);
  started = λ c past i after fall h down j. other_waits j (c.clients j) (server_rises c i (begun_by_disk (Server i) (c.hosts i).state after fall)).entry past (h.1 j);
  early = λ c past i fall h down j. other_waits j (c.clients j) (server_falls c i (lines.Fault (Server i) ∷ []) fall).entry past (h.1 j);
  midway = λ c past i after fall h down j. other_waits j (c.clients j) (server_stays c i (begun_by_disk (Server i) (c.hosts i).state after fall) (lines.Fault (Server i)) in_boot).entry past (h.1 j);
  full = λ c past i after fall h down j. other_waits j (c.clients j) (server_stays c i (begun_by_disk (Server i) (c.hosts i).state after fall) (lines.Full (Server i)) at_rest).entry past (h.1 j);
}

pub waits_kept : (s : Script) → IsKept (GivenWaits s)
waits_kept s c past x so h = (given_kept s c past x so h.0, each_moved (GivenWaits s) (Behind WaitsIn) (waits_moves s) c past x so h)

pub waits_first : (s : Script) → GivenWaits s (start s) (set_up_entry s ∷ [])
waits_first s = (given_first s, λ j. record { open' = λ act r. absurd cc; tried = λ act r. absurd cc; sent = λ act r. absurd cc })

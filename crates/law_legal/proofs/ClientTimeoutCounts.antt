-- How often the call for which a client waits was timed out: no timeout of it is told with a count above that, however many servers a cell
-- has.
use Rattle.spec_history.specs.declared.scripts.Script.{Script}
use Rattle.law_legal.proofs.ActLines.{Acts, who_at}
use Rattle.law_legal.proofs.ActSteps.{begins_acts, falls_acts, given_acts, rises_acts, waits_acts, missed_acts}
use Rattle.law_legal.proofs.OwedPasses.{all_lines}
use Rattle.law_legal.proofs.BaseLaws.{UpTo, at_put, each_at}
use Rattle.law_legal.proofs.ServerChooses.{disk_works, one_from, risen_from, risen_lines, serves_works, starts_works, times_works, wakes_works}
use Rattle.law_legal.proofs.ServerRefusesForGood.{IsFirm}
use Rattle.law_legal.proofs.ActFollows.{Follows, begins_follow, falls_follow, given_follow, none_runs, rises_follow, waits_follow, sought_follow, missed_follow}
use Rattle.law_legal.proofs.CallKeysOnce.{IsKnown, any_told, by_key}
use Rattle.law_legal.proofs.RunWalk.{Behind, EachMove, IsKept, each_moved}
use Rattle.law_legal.proofs.ActCallsInRuns.{any_cut, any_message, blow_idle, idle_works, loc_idle, sought_acts_in, told_in, placed_in}
use Rattle.law_legal.proofs.ActCalls.{idle_leaves, is_idle, of_client, other_leaves, handed_same, AskedIn}
use Rattle.law_legal.proofs.ClientTimesOut.{waiting, GivenTimed, IsUntimed, Timed, begun_times, not_next, timed_first, timed_kept, told_times, sought_times}
use Rattle.law_legal.specs.Breaks.{HasTimeout}
use Rattle.law_legal.specs.Ideal.{set_up_entry}
use Rattle.law_legal.specs.Past.{lines_of, onto}
use Rattle.afs_num.specs.declared.messages.Received.TheVariants.{Whole}
use Rattle.afs_num.specs.declared.types.Node.{Node}
use Rattle.afs_num.specs.declared.types.Node.TheVariants.{Client, Server}
use Rattle.spec_history.specs.declared.lines.Line.{Line}
use Rattle.spec_history.specs.declared.lines.Line.TheVariants as lines
use Rattle.spec_rows.specs.Callbacks.{put}
use Rattle.spec_rows.specs.ClientRow.{begin_row, call_of, client_row, gives_up, timeout_row, tries_again, act_by, sought_ends, seeks_on, seek_timeout_row, act_of, timeout_line, dead_code, sought_by}
use Rattle.spec_rows.specs.Going.{ClientState, Going, Seek}
use Rattle.law_legal.proofs.RunSteps.{blow_line, server_falls, server_moves, server_rises, server_set, server_stays, loc_becomes}
use Rattle.spec_rows.specs.Runs.{Cell, Entry, at_rest, begun_by_disk, in_boot, in_step, start, ticked, voided}
use Rattle.spec_rows.specs.ServerSteps.{back_timeout_row, server_row, wake_row}
use Rattle.spec_rows.specs.Steps.{Step}
use Rattle.std.proofs.Common.{suc, ◌≡◌, ◌≤◌, ◌+◌, ℕ, ◌⊎◌, inl, inr, Bool, true, false, cond, List, [], ◌∷◌, Some, None, refl, sym, ap, subst, ◌∙◌, nat_lt, arith, Option}
use Rattle.std.proofs.Math.Nat.{le_of_eq}

-- ---- a step of a client

-- a timeout that it tells is counted, or its act is over then
abbrev CountsOn : ℕ → ClientState → Step ClientState → Type 0
CountsOn n c st = (q : Node) (e k i : ℕ) (o : List Line) → HasTimeout (Client n) q e k i (onto o st.lines) → HasTimeout (Client n) q e k i o ⊎ ((i ≤ st.state.tries) ⊎ (act_of st.state ≡ None))

none_counts : (n : ℕ) (c : ClientState) (st : Step ClientState) → IsUntimed n st → CountsOn n c st
none_counts n c st w q e k i o h = inl (w q e k i o h)

waits_counts : (n : ℕ) (c : ClientState) (act : Going) (t : Bool) → CountsOn n c (cond t (tries_again (Client n) c act) (gives_up (Client n) c (call_of c act)))
waits_counts n c act true q e k i o (inl x) = inr (inl (le_of_eq (sym x.1.1.1.1)))
waits_counts n c act true q e k i o (inr x) = inl x
waits_counts n c act false q e k i o h = inr (inr refl)

row_counts : (n : ℕ) (c : ClientState) (act : Going) → CountsOn n c (timeout_row (Client n) c act)
row_counts n c act = waits_counts n c act (nat_lt c.tries 2)

-- so is one of what it asked the location database
missed_counts : (n : ℕ) (c : ClientState) (k : Seek) (t : Bool) → c.running ≡ None → CountsOn n c (cond t (seeks_on (Client n) c k) (sought_ends (Client n) c (λ ls. timeout_line (Client n) c 3 ∷ ls) dead_code))
missed_counts n c k true none q e m i o (inl x) = inr (inl (le_of_eq (sym x.1.1.1.1)))
missed_counts n c k true none q e m i o (inr x) = inl x
missed_counts n c k false none q e m i o h = inr (inr (ap (λ (a : Option Going). act_by a None) none))

missed_row_counts : (n : ℕ) (c : ClientState) (k : Seek) → c.running ≡ None → CountsOn n c (seek_timeout_row (Client n) c k)
missed_row_counts n c k none = missed_counts n c k (nat_lt c.tries 2) none

-- ---- what holds after every entry

abbrev pub Counted : ℕ → ClientState → List Entry → Type 0
Counted j x past = (act : Going) → act_of x ≡ Some act → (q : Node) (i : ℕ) → HasTimeout (Client j) q x.epoch x.last i (lines_of past) → i ≤ x.tries

abbrev pub CountedIn : Cell → List Entry → Type 0
CountedIn c past = (j : ℕ) → Counted j (c.clients j) past

abbrev pub CountedFacts : Script → Cell → List Entry → Type 0
CountedFacts s c past = GivenTimed s c past × CountedIn c past

one_more : (i a b : ℕ) → i ≤ a → b ≡ a + 1 → i ≤ b
one_more i a b le e = omega (arith, le, e)

step_counted : (n : ℕ) (c : ClientState) (st : Step ClientState) (past : List Entry) → Timed n c past → Counted n c past → Acts n (who_at c) c.gifts st → Follows n c st → CountsOn n c st → Counted n st.state (of_client n st ∷ past)
step_counted n c st past t h a f w act run q i x = elim (w q st.state.epoch st.state.last i (lines_of past) x) [
  | inr y ↦ elim y [ inl le ↦ le | inr none ↦ absurd (none_runs (act_of st.state) act none run) ]
  | inl old ↦ elim (waiting n c st act a run) [
    | inl on ↦
        let was : i ≤ c.tries = h on.old on.was q i (subst (λ (e : ℕ). HasTimeout (Client n) q e c.last i (lines_of past)) on.epoch (subst (λ (k : ℕ). HasTimeout (Client n) q st.state.epoch k i (lines_of past)) on.last old)) in
        elim on.how [
          | inl runs ↦ elim (f.stays act runs on.last).tries [ inl e ↦ subst (λ (k : ℕ). i ≤ k) (sym e) was | inr e ↦ one_more i c.tries st.state.tries was e.0 ]
          | inr seeks ↦ elim seeks.1.tries [ inl e ↦ subst (λ (k : ℕ). i ≤ k) (sym e) was | inr e ↦ one_more i c.tries st.state.tries was e.0 ]
        ]
    | inr z ↦ absurd (not_next c.epoch c.last (subst (λ (k : ℕ). UpTo c.epoch k c.epoch c.last) z.1 (subst (λ (e : ℕ). UpTo e st.state.last c.epoch c.last) z.0 (t.behind q st.state.epoch st.state.last i old))))
  ]
]

client_counted : (s : Script) (c : Cell) (past : List Entry) (n : ℕ) (st : Step ClientState) → CountedFacts s c past → Acts n (who_at (c.clients n)) (c.clients n).gifts st → Follows n (c.clients n) st → CountsOn n (c.clients n) st → (j : ℕ) → Counted j (put n st.state c.clients j) (of_client n st ∷ past)
client_counted s c past n st h a f w j =
    at_put n j (λ (x : ClientState). Counted j x (of_client n st ∷ past)) st.state c.clients
    (λ same. subst (λ (i : ℕ). Counted i st.state (of_client n st ∷ past)) same (step_counted n (c.clients n) st past (h.0.1 n) (h.1 n) a f w))
    (λ other act run q i x. h.1 j act run q i ((other_leaves s n j st.lines (lines_of past) a.of other).timed q (c.clients j).epoch (c.clients j).last i x))

idle_counted : (s : Script) (c : Cell) (past : List Entry) (e : Entry) → CountedIn c past → all_lines is_idle e.lines ≡ true → (j : ℕ) → Counted j (c.clients j) (e ∷ past)
idle_counted s c past e h idle j act run q i x = h j act run q i ((idle_leaves s j e.lines (lines_of past) idle).timed q (c.clients j).epoch (c.clients j).last i x)

-- ---- every step

counted_moves : (s : Script) → EachMove (CountedFacts s) (Behind CountedIn)
counted_moves s = record {
  void = λ c past h. idle_counted s c past (voided c).entry h.1 refl;
  ticked = λ c past n h. idle_counted s c past (ticked c (suc n)).entry h.1 refl;
  begun = λ c past n act h r z0. (let a = begins_acts n (c.clients n) c.clock act r z0 in client_counted s c past n _ h a (begins_follow n (c.clients n) c.clock act (h.0.0.0.0.1 n).0 r) (none_counts n (c.clients n) (begin_row (Client n) (c.clients n) c.clock act) (begun_times s c past n act h.0.0 a)));
  told = λ c past n place m h at to un. (let a = given_acts (by_key (IsKnown h.0.0.0.0.0.0.0.0.keys.callees c.clients)) any_told n (c.clients n) c.clock place m (h.0.0.0.0.0.0.0.0.keys.replies n) (h.0.0.0.0.0.0.0.1.seats n) in
      client_counted s c past n _ h a (given_follow n (c.clients n) c.clock place m (h.0.0.0.0.1 n).0 (each_at (λ m. IsFirm m.head m.carried) c.sent place m at h.0.0.0.0.0.1)) (none_counts n (c.clients n) (client_row (Client n) (c.clients n) c.clock place (Whole m)) (told_times s c past n place m h.0.0 at to a)));
  sought = λ c past n place m k h at to z e. (let A : AskedIn s c past = h.0.0.0.0.0.0.0.1 in
      client_counted s c past n _ h (sought_acts_in s c past n place m k A at z e) (sought_follow s n (c.clients n) c.clock place k m.head m.carried (placed_in s c past n k A z) (told_in s c past n place m k A at e) (h.0.0.0.0.1 n).0) (none_counts n (c.clients n) (sought_by (Client n) (c.clients n) c.clock place k m.head m.carried) (sought_times s c past n place m k A at z e)));
  missed = λ c past n k h r z. client_counted s c past n _ h (missed_acts n (c.clients n) k r z) (missed_follow n (c.clients n) k r (h.0.0.0.0.1 n).0) (missed_row_counts n (c.clients n) k r);
  loc = λ c past l ls ms h st. idle_counted s c past (loc_becomes c l ls ms).entry h.1 (loc_idle ls st.lines);
  waited = λ c past n act h r. client_counted s c past n _ h (waits_acts n (c.clients n) act r) (waits_follow n (c.clients n) act (h.0.0.0.0.1 n).0) (row_counts n (c.clients n) act);
  fallen = λ c past n h. client_counted s c past n _ h (falls_acts n c.handed (c.clients n) (handed_same s c past (h.0.0.0.0.0.0.0.1) n)) (falls_follow n c.handed (c.clients n)) (λ q e k i o x. inl x);
  risen = λ c past n h. client_counted s c past n _ h (rises_acts n (c.clients n)) (rises_follow n (c.clients n) (h.0.0.0.0.1 n).0) (λ q e k i o x. inl x);
  served = λ c past i place m armed h up at to. idle_counted s c past (server_moves c i armed (server_row (Server i) (c.hosts i).state c.clock place (Whole m))).entry h.1 (idle_works any_message i (c.hosts i).state _ _ (serves_works any_message (Server i) (c.hosts i).state c.clock place m (λ rest. tt)));
  cut = λ c past i place m t h up at to. idle_counted s c past (server_falls c i (lines.Given place ∷ blow_line i t.stops ∷ []) (in_step m c.clock t)).entry h.1 (blow_idle i t.stops);
  stopped = λ c past i h up. idle_counted s c past (server_falls c i (lines.Crash (Server i) ∷ []) at_rest).entry h.1 refl;
  stop_set = λ c past i calls pick armed h up. idle_counted s c past (server_set c i (lines.Stop (Server i) calls pick) armed).entry h.1 refl;
  fail_set = λ c past i call armed h up. idle_counted s c past (server_set c i (lines.Fail (Server i) call) armed).entry h.1 refl;
  timed = λ c past i n b armed h up at. idle_counted s c past (server_moves c i armed (back_timeout_row (Server i) (c.hosts i).state c.clock n b)).entry h.1 (idle_works any_message i (c.hosts i).state _ _ (times_works any_message (Server i) (c.hosts i).state c.clock n b));
  woken = λ c past i armed h up. idle_counted s c past (server_moves c i armed (wake_row (Server i) (c.hosts i).state c.clock)).entry h.1 (idle_works any_message i (c.hosts i).state _ _ (wakes_works any_message (Server i) (c.hosts i).state c.clock));
  started = λ c past i after fall h down. idle_counted s c past (server_rises c i (begun_by_disk (Server i) (c.hosts i).state after fall)).entry h.1
      (idle_works any_message i (c.hosts i).state _ _ (starts_works any_message (Server i) (c.hosts i).state c.clock c.count (begun_by_disk (Server i) (c.hosts i).state after fall) (disk_works any_message (Server i) (c.hosts i).state after fall (risen_lines (Server i) c.clock c.count (begun_by_disk (Server i) (c.hosts i).state after fall)) (any_cut fall) (risen_from (Server i) c.clock c.count (begun_by_disk (Server i) (c.hosts i).state after fall)))));
  early = λ c past i fall h down. idle_counted s c past (server_falls c i (lines.Fault (Server i) ∷ []) fall).entry h.1 refl;
  midway = λ c past i after fall h down. idle_counted s c past (server_stays c i (begun_by_disk (Server i) (c.hosts i).state after fall) (lines.Fault (Server i)) in_boot).entry h.1 (idle_works any_message i (c.hosts i).state _ _ (disk_works any_message (Server i) (c.hosts i).state after fall (lines.Fault (Server i) ∷ []) (any_cut fall) (one_from (Server i) true refl)));
  full = λ c past i after fall h down. idle_counted s c past (server_stays c i (begun_by_disk (Server i) (c.hosts i).state after fall) (lines.Full (Server i)) at_rest).entry h.1 (idle_works any_message i (c.hosts i).state _ _ (disk_works any_message (Server i) (c.hosts i).state after fall (lines.Full (Server i) ∷ []) (any_cut fall) (one_from (Server i) true refl)));
}

pub counted_kept : (s : Script) → IsKept (CountedFacts s)
counted_kept s c past x so h = (timed_kept s c past x so h.0, each_moved (CountedFacts s) (Behind CountedIn) (counted_moves s) c past x so h)

pub counted_first : (s : Script) → CountedFacts s (start s) (set_up_entry s ∷ [])
counted_first s = (timed_first s, λ j act r. absurd cc)

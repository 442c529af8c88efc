-- What each client keeps and reads holds behind every entry, however many servers a cell has.
use Rattle.law_legal.proofs.DatabaseDoes.{IsSoundLoc}
use Rattle.spec_history.specs.declared.lines.Line.{Line}
use Rattle.spec_history.specs.declared.lines.Line.TheVariants as lines
use Rattle.spec_history.specs.declared.scripts.Script.{Script}
use Rattle.law_legal.proofs.ActLines.{Acts, who_at}
use Rattle.law_legal.proofs.ActSteps.{begins_acts, falls_acts, given_acts, rises_acts, waits_acts, missed_acts}
use Rattle.law_legal.proofs.ClientReplyArrives.{Based, around, based_first, based_kept}
use Rattle.law_legal.proofs.OwedPasses.{all_lines}
use Rattle.law_legal.proofs.BaseLaws.{at_put, both}
use Rattle.law_legal.proofs.ClientBesideOthers.{beside_idle, beside_other}
use Rattle.law_legal.proofs.ServerChooses.{disk_works, one_from, risen_from, risen_lines, serves_works, starts_works, times_works, wakes_works}
use Rattle.law_legal.proofs.VolumeEdits.{index_in}
use Rattle.law_legal.proofs.KeptBesideOthers.{trusts_beside}
use Rattle.law_legal.proofs.VolumesAreIdeal.{AreBlank}
use Rattle.law_legal.proofs.CallKeysOnce.{IsKnown, any_told, by_key}
use Rattle.law_legal.proofs.RunSetUp.{reached_first}
use Rattle.law_legal.proofs.KeptIsLookedAt.{IsShown}
use Rattle.law_legal.proofs.RunWalk.{EachMove, IsKept, each_moved}
use Rattle.law_legal.proofs.ActCallsInRuns.{any_cut, any_message, blow_idle, idle_works, loc_idle, sought_acts_in}
use Rattle.law_legal.proofs.ActCalls.{is_idle, of_client, handed_same}
use Rattle.law_legal.proofs.KeptStepAsks.{Result, trusts_own}
use Rattle.law_legal.proofs.ReadSteps.{begin_result, fall_result, message_result, rise_result, wait_result, sought_result, missed_result}
use Rattle.law_legal.proofs.VolumeVersionsTold.{IsAgreed, IsSaved, recorded_kept, told_now}
use Rattle.law_legal.proofs.KeptTrusting.{Trusts}
use Rattle.law_legal.specs.Ideal.{last_version, set_up_entry}
use Rattle.law_legal.specs.Parts.{EachLine}
use Rattle.law_legal.specs.Past.{lines_of}
use Rattle.afs_num.specs.declared.histories.Actor.{Actor}
use Rattle.afs_num.specs.declared.histories.Actor.TheVariants as actors
use Rattle.afs_num.specs.declared.messages.Received.TheVariants.{Whole}
use Rattle.afs_num.specs.declared.types.Node.{Node}
use Rattle.afs_num.specs.declared.types.Node.TheVariants.{Client, Server, Loc}
use Rattle.spec_rows.specs.Callbacks.{put}
use Rattle.spec_rows.specs.Going.{ClientState}
use Rattle.law_legal.proofs.RunSteps.{blow_line, server_falls, server_moves, server_rises, server_set, server_stays, loc_becomes}
use Rattle.spec_rows.specs.Runs.{Cell, Entry, Input, Moved, at_rest, begun_by_disk, in_boot, in_step, moved, start, ticked, voided}
use Rattle.law_legal.proofs.RunSteps.{loc_becomes}
use Rattle.spec_rows.specs.ServerSteps.{back_timeout_row, server_row, wake_row}
use Rattle.spec_rows.specs.Steps.{Step}
use Rattle.std.proofs.Common.{suc, ◌+◌, ◌≡◌, ◌≤◌, ℕ, ◌⊎◌, true, List, [], ◌∷◌, refl, subst, arith}

-- ---- what is kept, and what is asked of a step

abbrev AllTrust : Script → (ℕ → ClientState) → ℕ → List Entry → Type 0
AllTrust s clients clock past = (j : ℕ) → Trusts s j (clients j) clock past

abbrev pub Watched : Script → Cell → List Entry → Type 0
Watched s c past = Based s c past × AllTrust s c.clients c.clock past

abbrev Good : Script → Moved → List Entry → Type 0
Good s m past = AllTrust s m.cell.clients m.cell.clock (m.entry ∷ past) × EachLine (IsShown s) m.entry.actor past [] m.entry.lines

-- given what the entry tells of versions
abbrev WatchStep : Script → Cell → List Entry → Moved → Type 0
WatchStep s c past m = AreBlank m.entry.lines ⊎ IsSaved s past m.entry → IsAgreed s (m.entry ∷ past) → Good s m past

-- ---- entries of no client

pub idle_shown : (s : Script) (who : Actor) (past : List Entry) (own ls : List Line) → all_lines is_idle ls ≡ true → EachLine (IsShown s) who past own ls
idle_shown s who past own [] h = tt
idle_shown s who past own (lines.Read n f index source body ∷ ls) h = absurd cc
idle_shown s who past own (l ∷ ls) h = (tt, idle_shown s who past (l ∷ own) ls (both (is_idle l) (all_lines is_idle ls) h).1)

idle_good : (s : Script) (c : Cell) (past : List Entry) (y : Entry) (now : ℕ) → c.clock ≤ now → Watched s c past → ((j : ℕ) → y.actor ≡ actors.Node (Client j) → ⊥) → all_lines is_idle y.lines ≡ true → AreBlank y.lines ⊎ IsSaved s past y → IsAgreed s (y ∷ past)
    → AllTrust s c.clients now (y ∷ past) × EachLine (IsShown s) y.actor past [] y.lines
idle_good s c past y now le W other idle told A = (
  (λ j. trusts_beside s j (c.clients j) c.clock now past y le (beside_idle s j past y told A (other j) idle (W.1 j).reached) (around s c past j W.0) (W.1 j)),
  idle_shown s y.actor past [] y.lines idle,
)

not_clock : (j : ℕ) → actors.Clock ≡ actors.Node (Client j) → ⊥
not_clock j e = cc

not_nobody : (j : ℕ) → actors.Nobody ≡ actors.Node (Client j) → ⊥
not_nobody j e = cc

not_server : (i j : ℕ) → actors.Node (Server i) ≡ actors.Node (Client j) → ⊥
not_server i j e = cc

not_loc' : (j : ℕ) → actors.Node Loc ≡ actors.Node (Client j) → ⊥
not_loc' j e = cc

-- ---- a client's step

client_number : (i j : ℕ) → actors.Node (Client i) ≡ actors.Node (Client j) → i ≡ j
client_number i j e = cc

client_good : (s : Script) (c : Cell) (past : List Entry) (n : ℕ) (st : Step ClientState) → Watched s c past → Acts n (who_at (c.clients n)) (c.clients n).gifts st → Result s n (c.clients n) c.clock past st → IsAgreed s (of_client n st ∷ past)
    → AllTrust s (put n st.state c.clients) c.clock (of_client n st ∷ past) × EachLine (IsShown s) (actors.Node (Client n)) past [] st.lines
client_good s c past n st W a R A = (
  (λ j. at_put n j (λ (x : ClientState). Trusts s j x c.clock (of_client n st ∷ past)) st.state c.clients
      (λ same. subst (λ (i : ℕ). Trusts s i st.state c.clock (of_client n st ∷ past)) same (trusts_own s c past n st W.0 (W.1 n) a R))
      (λ other. trusts_beside s j (c.clients j) c.clock c.clock past (of_client n st) (omega arith) (beside_other s n j past (of_client n st) A (λ e. other (client_number n j e)) a.of other (W.1 j).reached) (around s c past j W.0) (W.1 j))),
  R.shown,
)

watch_moves : (s : Script) → EachMove (Watched s) (WatchStep s)
watch_moves s = record {
  void = λ c past W told A. idle_good s c past (voided c).entry c.clock (omega arith) W (λ j. not_nobody j) refl told A;
  ticked = λ c past n W told A. idle_good s c past (ticked c (suc n)).entry (c.clock + suc n) (omega arith) W (λ j. not_clock j) refl told A;
  begun = λ c past n act W r z told A. client_good s c past n _ W (begins_acts n (c.clients n) c.clock act r z) (begin_result s c past n act (W.0, W.1 n) r) A;
  told = λ c past n place m W at to un told A.
      client_good s c past n _ W (given_acts (by_key (IsKnown W.0.truthful.0.0.0.0.keys.callees c.clients)) any_told n (c.clients n) c.clock place m (W.0.truthful.0.0.0.0.keys.replies n) (W.0.truthful.0.0.0.1.seats n)) (message_result s c past n place m (W.0, W.1 n) at to) A;
  sought = λ c past n place m k W at to z e told A. client_good s c past n _ W (sought_acts_in s c past n place m k W.0.truthful.0.0.0.1 at z e) (sought_result s c past n place m k (W.0, W.1 n) W.0.truthful.0.0.0.1 at z e) A;
  missed = λ c past n k W r z told A. client_good s c past n _ W (missed_acts n (c.clients n) k r z) (missed_result s c past n k (W.0, W.1 n) r) A;
  loc = λ c past l ls ms W st told A. idle_good s c past (loc_becomes c l ls ms).entry c.clock (omega arith) W (λ j. not_loc' j) (loc_idle ls st.lines) told A;
  waited = λ c past n act W r told A. client_good s c past n _ W (waits_acts n (c.clients n) act r) (wait_result s c past n act (W.0, W.1 n) r) A;
  fallen = λ c past n W told A. client_good s c past n _ W (falls_acts n c.handed (c.clients n) (handed_same s c past (W.0.truthful.0.0.0.1) n)) (fall_result s c past n (W.0, W.1 n)) A;
  risen = λ c past n W told A. client_good s c past n _ W (rises_acts n (c.clients n)) (rise_result s c past n (W.0, W.1 n)) A;
  served = λ c past i place m armed W up at to told A. idle_good s c past (server_moves c i armed (server_row (Server i) (c.hosts i).state c.clock place (Whole m))).entry c.clock (omega arith) W (λ j. not_server i j) (idle_works any_message i (c.hosts i).state _ _ (serves_works any_message (Server i) (c.hosts i).state c.clock place m (λ rest. tt))) told A;
  cut = λ c past i place m t W up at to told A. idle_good s c past (server_falls c i (lines.Given place ∷ blow_line i t.stops ∷ []) (in_step m c.clock t)).entry c.clock (omega arith) W (λ j. not_server i j) (blow_idle i t.stops) told A;
  stopped = λ c past i W up told A. idle_good s c past (server_falls c i (lines.Crash (Server i) ∷ []) at_rest).entry c.clock (omega arith) W (λ j. not_server i j) refl told A;
  stop_set = λ c past i calls pick armed W up told A. idle_good s c past (server_set c i (lines.Stop (Server i) calls pick) armed).entry c.clock (omega arith) W (λ j. not_server i j) refl told A;
  fail_set = λ c past i call armed W up told A. idle_good s c past (server_set c i (lines.Fail (Server i) call) armed).entry c.clock (omega arith) W (λ j. not_server i j) refl told A;
  timed = λ c past i n b armed W up at told A. idle_good s c past (server_moves c i armed (back_timeout_row (Server i) (c.hosts i).state c.clock n b)).entry c.clock (omega arith) W (λ j. not_server i j) (idle_works any_message i (c.hosts i).state _ _ (times_works any_message (Server i) (c.hosts i).state c.clock n b)) told A;
  woken = λ c past i armed W up told A. idle_good s c past (server_moves c i armed (wake_row (Server i) (c.hosts i).state c.clock)).entry c.clock (omega arith) W (λ j. not_server i j) (idle_works any_message i (c.hosts i).state _ _ (wakes_works any_message (Server i) (c.hosts i).state c.clock)) told A;
  started = λ c past i after fall W down told A.
      idle_good s c past (server_rises c i (begun_by_disk (Server i) (c.hosts i).state after fall)).entry c.clock (omega arith) W (λ j. not_server i j)
      (idle_works any_message i (c.hosts i).state _ _ (starts_works any_message (Server i) (c.hosts i).state c.clock c.count (begun_by_disk (Server i) (c.hosts i).state after fall) (disk_works any_message (Server i) (c.hosts i).state after fall (risen_lines (Server i) c.clock c.count (begun_by_disk (Server i) (c.hosts i).state after fall)) (any_cut fall) (risen_from (Server i) c.clock c.count (begun_by_disk (Server i) (c.hosts i).state after fall))))) told A;
  early = λ c past i fall W down told A. idle_good s c past (server_falls c i (lines.Fault (Server i) ∷ []) fall).entry c.clock (omega arith) W (λ j. not_server i j) refl told A;
  midway = λ c past i after fall W down told A.
      idle_good s c past (server_stays c i (begun_by_disk (Server i) (c.hosts i).state after fall) (lines.Fault (Server i)) in_boot).entry c.clock (omega arith) W (λ j. not_server i j) (idle_works any_message i (c.hosts i).state _ _ (disk_works any_message (Server i) (c.hosts i).state after fall (lines.Fault (Server i) ∷ []) (any_cut fall) (one_from (Server i) true refl))) told A;
  full = λ c past i after fall W down told A.
      idle_good s c past (server_stays c i (begun_by_disk (Server i) (c.hosts i).state after fall) (lines.Full (Server i)) at_rest).entry c.clock (omega arith) W (λ j. not_server i j) (idle_works any_message i (c.hosts i).state _ _ (disk_works any_message (Server i) (c.hosts i).state after fall (lines.Full (Server i) ∷ []) (any_cut fall) (one_from (Server i) true refl))) told A;
}

good_now : (s : Script) (c : Cell) (past : List Entry) (x : Input) → IsSoundLoc c.loc.state → Watched s c past → Good s (moved c x) past
good_now s c past x so W =
    let K = recorded_kept s c past x so W.0.recorded in
    each_moved (Watched s) (WatchStep s) (watch_moves s) c past x so W (told_now s c past x so W.0.recorded) K.all.0.1

pub watched_kept : (s : Script) → IsKept (Watched s)
watched_kept s c past x so W = (based_kept s c past x so W.0, (good_now s c past x so W).0)

pub shown_now : (s : Script) (c : Cell) (past : List Entry) (x : Input) → IsSoundLoc c.loc.state → Watched s c past → EachLine (IsShown s) (moved c x).entry.actor past [] (moved c x).entry.lines
shown_now s c past x so W = (good_now s c past x so W).1

pub watched_first : (s : Script) → Watched s (start s) (set_up_entry s ∷ [])
watched_first s = (
  based_first s,
  λ j. record {
    entries = λ f e found. absurd cc;
    waits = λ act r. absurd cc;
    reached = λ f. reached_first (Client j) f (index_in (last_version f (lines_of (set_up_entry s ∷ [])))) s;
  },
)

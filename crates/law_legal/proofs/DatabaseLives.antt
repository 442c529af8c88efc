-- The location database goes on or stops while it is up, and does nothing but begin again while it is down, in the next boot that it may not have
-- written; and it sends but answers.
use Rattle.spec_history.specs.declared.lines.Line.{Line}
use Rattle.spec_history.specs.declared.lines.Line.TheVariants as lines
use Rattle.spec_history.specs.declared.scripts.Script.{Script}
use Rattle.law_legal.proofs.OwedPasses.{all_lines}
use Rattle.law_legal.proofs.BaseLaws.{Each, OfNotice, both, node_apart}
use Rattle.law_legal.proofs.ClientCalls.{placed}
use Rattle.law_legal.proofs.ServerBoots.{is_running}
use Rattle.law_legal.proofs.VolumeChanges.{run_each}
use Rattle.law_legal.proofs.ServerLives.{first_running, goes_on, reached}
use Rattle.law_legal.proofs.DatabaseDoes.{IsBackTo, AreAlone, IsUnderKey}
use Rattle.law_legal.proofs.DatabaseKeeps.{IsLocStep, LivesLoc, loc_early, loc_falls, loc_full, loc_goes, loc_midway, loc_rises}
use Rattle.law_legal.proofs.OwedLoadBreaks.{onto_both}
use Rattle.law_legal.proofs.DatabaseLines.{all_deeds, are_deeds, deed_runs, is_deed, is_of_loc, loc_node}
use Rattle.law_legal.proofs.RunWalk.{EachMove, IsKept, each_moved}
use Rattle.law_legal.proofs.ActCallsInRuns.{given_numbered}
use Rattle.law_legal.proofs.RunLinesInPlace.{Placed, PlacedStep, placed_first, placed_kept, placed_moves}
use Rattle.law_legal.proofs.RunSetUp.{all_versions}
use Rattle.law_legal.proofs.RunSteps.{blow_line, loc_becomes, server_falls, server_moves, server_rises, server_set, server_stays}
use Rattle.law_legal.proofs.BaseWords.{up_boot}
use Rattle.law_legal.specs.Ideal.{first_lines, set_up_entry}
use Rattle.law_legal.specs.Legal.{AllGoBack, IsInPlace, IsOfDisk, RisesAbove, DeedsAreCaused, TellsNoDeed}
use Rattle.law_legal.specs.Lives.{AreCalls, IsHostLived, IsStart, TellsStop, last_written, boot_written}
use Rattle.law_legal.specs.Parts.{EachEntry, EachLine}
use Rattle.law_legal.specs.Past.{given_message, last_boot, lines_of, onto, boot_risen, sent_of, server_boot, has_given}
use Rattle.afs_num.specs.Nodes.{same_node}
use Rattle.afs_num.specs.declared.histories.Actor.{Actor}
use Rattle.afs_num.specs.declared.histories.Actor.TheVariants as actors
use Rattle.afs_num.specs.declared.messages.Carried.{Carried}
use Rattle.afs_num.specs.declared.messages.Carried.TheVariants as carried
use Rattle.afs_num.specs.declared.messages.Message.{Message}
use Rattle.afs_num.specs.declared.messages.Received.TheVariants.{Whole}
use Rattle.afs_num.specs.declared.types.Node.{Node}
use Rattle.afs_num.specs.declared.types.Node.TheVariants.{Admin, Client, Loc, Server}
use Rattle.spec_records.specs.LocEffects.{deed_told}
use Rattle.spec_rows.specs.ClientRow.{begin_row, client_row, seek_timeout_row, sought_by, timeout_row}
use Rattle.spec_rows.specs.Hosts.{begun_from}
use Rattle.spec_rows.specs.LocRow.{LocDecision, LocState, drops, loc_decides, refuses, repeats, saves, shows, tells_boot}
use Rattle.spec_rows.specs.LocSteps.{LocHost, loc_begun_after, loc_kind}
use Rattle.spec_rows.specs.Runs.{Cell, Entry, Fall, Moved, RunsTo, at_rest, begun_by_disk, client_falls, client_moves, client_rises, in_boot, in_step, start, ticked, voided}
use Rattle.spec_rows.specs.ServerSteps.{back_timeout_row, server_row, wake_row}
use Rattle.spec_rows.specs.Steps.{Begun}
use Rattle.std.proofs.Common.{suc, ◌+◌, ◌≤◌, ◌<◌, ◌≡◌, ◌⊎◌, inl, inr, ℕ, Bool, true, false, cond, List, [], ◌∷◌, ◌++◌, Option, Some, None, refl, sym, ap, subst, ◌∙◌, arith}
use Rattle.std.proofs.Math.Nat.{le_of_eq, le_refl, le_trans}
use Rattle.std.specs.Prelude.{⊤}

-- ---- its boots, by lines

-- what the lines tell of it
record Alike (a b : List Line) : Type 0 where
  boot : server_boot Loc a ≡ server_boot Loc b
  last : last_boot Loc a ≡ last_boot Loc b
  written : last_written Loc a ≡ last_written Loc b

other_disk : (who : Actor) (n : Node) → (who ≡ actors.Node Loc → ⊥) → IsOfDisk who n → same_node n Loc ≡ false
other_disk who (Server k) other of = refl
other_disk who (Client k) other of = absurd of
other_disk who (Admin k) other of = absurd of
other_disk who Loc other of = absurd (other of)

-- those of other nodes' entries leave it
others_alike : (s : Script) (who : Actor) (past : List Entry) (own ls o : List Line) → (who ≡ actors.Node Loc → ⊥) → EachLine (IsInPlace s) who past own ls → Alike (onto o ls) o
others_alike s who past own [] o other p = record { boot = refl; last = refl; written = refl }
others_alike s who past own (lines.Crash n ∷ ls) o other p =
    let q : Alike (onto (lines.Crash n ∷ o) ls) (lines.Crash n ∷ o) = others_alike s who past (lines.Crash n ∷ own) ls (lines.Crash n ∷ o) other p.1 in
    let apart : same_node n Loc ≡ false = node_apart n Loc (λ e. other (p.0 ∙ ap actors.Node e)) in
    record { boot = q.boot ∙ ap (λ (t : Bool). cond t None (server_boot Loc o)) apart; last = q.last; written = q.written }
others_alike s who past own (lines.Fault n ∷ ls) o other p =
    let q : Alike (onto (lines.Fault n ∷ o) ls) (lines.Fault n ∷ o) = others_alike s who past (lines.Fault n ∷ own) ls (lines.Fault n ∷ o) other p.1 in
    let apart : same_node n Loc ≡ false = other_disk who n other p.0 in
    record {
      boot = q.boot ∙ ap (λ (t : Bool). cond t None (server_boot Loc o)) apart;
      last = q.last;
      written = q.written ∙ ap (λ (t : Bool). cond t (boot_written (server_boot Loc o) (last_written Loc o)) (last_written Loc o)) apart;
    }
others_alike s who past own (lines.Restart n boot ∷ ls) o other p =
    let q : Alike (onto (lines.Restart n boot ∷ o) ls) (lines.Restart n boot ∷ o) = others_alike s who past (lines.Restart n boot ∷ own) ls (lines.Restart n boot ∷ o) other p.1 in
    let apart : same_node n Loc ≡ false = node_apart n Loc (λ e. other (p.0.0 ∙ ap actors.Node e)) in
    record {
      boot = q.boot ∙ ap (λ (t : Bool). cond t (boot_risen (server_boot Loc o) boot) (server_boot Loc o)) apart;
      last = q.last ∙ ap (λ (t : Bool). cond t boot (last_boot Loc o)) apart;
      written = q.written ∙ ap (λ (t : Bool). cond t boot (last_written Loc o)) apart;
    }
others_alike s who past own (l ∷ ls) o other p = let q : Alike (onto (l ∷ o) ls) (l ∷ o) = others_alike s who past (l ∷ own) ls (l ∷ o) other p.1 in record { boot = q.boot; last = q.last; written = q.written }

-- so do those in which no node stops or begins again
running_alike : (ls o : List Line) → all_lines is_running ls ≡ true → Alike (onto o ls) o
running_alike [] o h = record { boot = refl; last = refl; written = refl }
running_alike (lines.Crash n ∷ ls) o h = absurd cc
running_alike (lines.Fault n ∷ ls) o h = absurd cc
running_alike (lines.Restart n boot ∷ ls) o h = absurd cc
running_alike (l ∷ ls) o h = let q : Alike (onto (l ∷ o) ls) (l ∷ o) = running_alike ls (l ∷ o) (both (is_running l) (all_lines is_running ls) h).1 in record { boot = q.boot; last = q.last; written = q.written }

running_rises : (n : ℕ) (ls : List Line) → all_lines is_running ls ≡ true → RisesAbove n ls
running_rises n [] h = tt
running_rises n (lines.Restart m boot ∷ ls) h = absurd cc
running_rises n (l ∷ ls) h = running_rises n ls (both (is_running l) (all_lines is_running ls) h).1

-- ---- what a restart finds

record Found (s : LocState) (most : ℕ) (f : Begun LocState) : Type 0 where
  front : List Line
  deeds : all_lines is_deed front ≡ true
  before : (ls : List Line) → f.before ls ≡ front ++ ls
  more : s.lasting.boot ≤ f.state.lasting.boot
  low : f.state.lasting.boot ≤ most

after_found : (s : LocState) (d : LocDecision) → Found s s.lasting.boot (loc_begun_after s d)
after_found s drops = record { front = []; deeds = refl; before = λ ls. refl; more = le_refl _; low = le_refl _ }
after_found s (tells_boot head) = record { front = []; deeds = refl; before = λ ls. refl; more = le_refl _; low = le_refl _ }
after_found s (repeats m) = record { front = []; deeds = refl; before = λ ls. refl; more = le_refl _; low = le_refl _ }
after_found s (refuses head code) = record { front = []; deeds = refl; before = λ ls. refl; more = le_refl _; low = le_refl _ }
after_found s (shows head reply) = record { front = []; deeds = refl; before = λ ls. refl; more = le_refl _; low = le_refl _ }
after_found s (saves head c) = record { front = deed_told c.deed s.lasting.entries; deeds = are_deeds c.deed s.lasting.entries; before = λ ls. refl; more = le_refl _; low = le_refl _ }

found_loc : (s : LocState) (after : Bool) (fall : Fall) → Found s (reached s.lasting.boot (Some fall)) (begun_from loc_kind s after fall)
found_loc s after at_rest = record { front = []; deeds = refl; before = λ ls. refl; more = le_refl _; low = le_refl _ }
found_loc s false (in_step m clock hit) = record { front = []; deeds = refl; before = λ ls. refl; more = le_refl _; low = le_refl _ }
found_loc s true (in_step m clock hit) = after_found s (loc_decides s (Whole m))
found_loc s false in_boot = record { front = []; deeds = refl; before = λ ls. refl; more = le_refl _; low = omega arith }
found_loc s true in_boot = record { front = []; deeds = refl; before = λ ls. refl; more = omega arith; low = le_refl _ }

start_front : (most : ℕ) (front ls : List Line) (sent : List Message) → all_lines is_deed front ≡ true → IsStart most ls sent → IsStart most (front ++ ls) sent
start_front most [] ls sent h k = k
start_front most (lines.Locked v stamp operation ∷ front) ls sent h k = start_front most front ls sent h k
start_front most (lines.Unlocked v ∷ front) ls sent h k = start_front most front ls sent h k
start_front most (lines.Recovered v ∷ front) ls sent h k = start_front most front ls sent h k
start_front most (lines.Located v server ∷ front) ls sent h k = start_front most front ls sent h k
start_front most (l ∷ front) ls sent h k = absurd cc

rises_front : (n : ℕ) (front ls : List Line) → all_lines is_deed front ≡ true → RisesAbove n ls → RisesAbove n (front ++ ls)
rises_front n [] ls h k = k
rises_front n (lines.Locked v stamp operation ∷ front) ls h k = rises_front n front ls h k
rises_front n (lines.Unlocked v ∷ front) ls h k = rises_front n front ls h k
rises_front n (lines.Recovered v ∷ front) ls h k = rises_front n front ls h k
rises_front n (lines.Located v server ∷ front) ls h k = rises_front n front ls h k
rises_front n (l ∷ front) ls h k = absurd cc

-- ---- what holds after every entry

pub record Life (l : LocHost) (ls : List Line) : Type 0 where
  pub now : server_boot Loc ls ≡ up_boot l.down l.state.lasting.boot
  pub last : last_boot Loc ls ≤ l.state.lasting.boot
  pub written : reached l.state.lasting.boot l.down ≤ last_written Loc ls

-- what its lines tell is as it is
abbrev Living : LocHost → List Line → List Line → List Message → Type 0
Living l o ls ms = Life l (onto o ls) × (IsHostLived (server_boot Loc o) (last_written Loc o + 1) ls ms × RisesAbove (last_boot Loc o) ls)

-- it falls
record Falls (ls o : List Line) : Type 0 where
  none : server_boot Loc (onto o ls) ≡ None
  last : last_boot Loc (onto o ls) ≡ last_boot Loc o
  written : last_written Loc (onto o ls) ≡ last_written Loc o
  rises : (n : ℕ) → RisesAbove n ls

crash_falls : (n : Node) (o : List Line) → n ≡ Loc → server_boot Loc (lines.Crash n ∷ o) ≡ None
crash_falls n o e = ap (λ (q : Node). server_boot Loc (lines.Crash q ∷ o)) e

fault_falls : (n : Node) (o : List Line) → n ≡ Loc → server_boot Loc (lines.Fault n ∷ o) ≡ None
fault_falls n o e = ap (λ (q : Node). server_boot Loc (lines.Fault q ∷ o)) e

stop_falls : (ls o : List Line) (b : ℕ) → TellsStop ls → all_lines is_of_loc ls ≡ true → server_boot Loc o ≡ Some b → Falls ls o
stop_falls (lines.Crash n ∷ []) o b t h up = record { none = crash_falls n o (loc_node n (both (same_node n Loc) true h).0); last = refl; written = refl; rises = λ k. tt }
stop_falls (lines.Given place ∷ lines.Crash n ∷ []) o b t h up = record { none = crash_falls n (lines.Given place ∷ o) (loc_node n (both (same_node n Loc) true h).0); last = refl; written = refl; rises = λ k. tt }
stop_falls (lines.Given place ∷ lines.Fault n ∷ []) o b t h up =
    let me : n ≡ Loc = loc_node n (both (same_node n Loc) true h).0 in
    record {
      none = fault_falls n (lines.Given place ∷ o) me;
      last = refl;
      written = ap (λ (q : Node). last_written Loc (lines.Fault q ∷ lines.Given place ∷ o)) me ∙ ap (λ (x : Option ℕ). boot_written x (last_written Loc o)) up;
      rises = λ k. tt;
    }
stop_falls ls o b t h up = absurd t

reached_fall : (b : ℕ) (fall : Fall) → (fall ≡ in_boot → ⊥) → reached b (Some fall) ≡ b
reached_fall b at_rest w = refl
reached_fall b (in_step m clock hit) w = refl
reached_fall b in_boot w = absurd (w refl)

is_down : (h : LocHost) (o : List Line) (fall : Fall) → h.down ≡ Some fall → Life h o → server_boot Loc o ≡ None
is_down h o fall down k = k.now ∙ ap (λ (d : Option Fall). up_boot d h.state.lasting.boot) down

was_reached : (h : LocHost) (o : List Line) (fall : Fall) → h.down ≡ Some fall → Life h o → reached h.state.lasting.boot (Some fall) ≤ last_written Loc o
was_reached h o fall down k = subst (λ (d : Option Fall). reached h.state.lasting.boot d ≤ last_written Loc o) down k.written

boot_is : {a b : LocState} → a ≡ b → a.lasting.boot ≡ b.lasting.boot
boot_is {a} {b} e = ap (λ (x : LocState). x.lasting.boot) e

-- behind what a restart finds
behind : (h l : LocHost) (o ls : List Line) (ms : List Message) (after : Bool) (fall : Fall) (x : Line) → h.down ≡ Some fall → ls ≡ (begun_from loc_kind h.state after fall).before (x ∷ []) → Life h o
    → ((b : List Line) → server_boot Loc b ≡ None → last_boot Loc b ≡ last_boot Loc o → last_written Loc b ≡ last_written Loc o → Life l (x ∷ b)) → IsStart (last_written Loc o + 1) (x ∷ []) ms → RisesAbove (last_boot Loc o) (x ∷ []) → Living l o ls ms
behind h l o ls ms after fall x down are k life start rises =
    let F : Found h.state (reached h.state.lasting.boot (Some fall)) (begun_from loc_kind h.state after fall) = found_loc h.state after fall in
    let A : Alike (onto o F.front) o = running_alike F.front o (all_deeds is_running deed_runs F.front F.deeds) in
    let none : server_boot Loc o ≡ None = is_down h o fall down k in
    subst (λ (y : List Line). Living l o y ms) (sym (are ∙ F.before (x ∷ []))) (
      subst (Life l) (sym (onto_both o F.front (x ∷ []))) (life (onto o F.front) (A.boot ∙ none) A.last A.written),
      (
        subst (λ (b : Option ℕ). IsHostLived b (last_written Loc o + 1) (F.front ++ (x ∷ [])) ms) (sym none) (start_front (last_written Loc o + 1) F.front (x ∷ []) ms F.deeds start),
        rises_front (last_boot Loc o) F.front (x ∷ []) F.deeds rises,
      ),
    )

life_by : (sent : List Message) (h l : LocHost) (o ls : List Line) (ms : List Message) → all_lines is_of_loc ls ≡ true → LivesLoc sent h l ls ms → Life h o → Living l o ls ms
life_by sent h l o ls ms of (loc_goes up on boot run did) k =
    let q : Alike (onto o ls) o = running_alike ls o run in
    let was : server_boot Loc o ≡ Some h.state.lasting.boot = k.now ∙ ap (λ (d : Option Fall). up_boot d h.state.lasting.boot) up in
    let low : h.state.lasting.boot ≤ last_written Loc o = subst (λ (d : Option Fall). reached h.state.lasting.boot d ≤ last_written Loc o) up k.written in (
      record {
        now = q.boot ∙ (was ∙ (ap (λ (b : ℕ). Some b) (sym boot) ∙ sym (ap (λ (d : Option Fall). up_boot d l.state.lasting.boot) on)));
        last = subst (λ (n : ℕ). n ≤ l.state.lasting.boot) (sym q.last) (subst (λ (n : ℕ). last_boot Loc o ≤ n) (sym boot) k.last);
        written = subst (λ (n : ℕ). reached l.state.lasting.boot l.down ≤ n) (sym q.written) (subst (λ (d : Option Fall). reached l.state.lasting.boot d ≤ last_written Loc o) (sym on) (subst (λ (n : ℕ). n ≤ last_written Loc o) (sym boot) low));
      },
      (subst (λ (b : Option ℕ). IsHostLived b (last_written Loc o + 1) ls ms) (sym was) (inl (goes_on ls run)), running_rises (last_boot Loc o) ls run),
    )
life_by sent h l o ls ms of (loc_falls fall up down state other stop none cut on) k =
    let boot : l.state.lasting.boot ≡ h.state.lasting.boot = boot_is state in
    let was : server_boot Loc o ≡ Some h.state.lasting.boot = k.now ∙ ap (λ (d : Option Fall). up_boot d h.state.lasting.boot) up in
    let low : h.state.lasting.boot ≤ last_written Loc o = subst (λ (d : Option Fall). reached h.state.lasting.boot d ≤ last_written Loc o) up k.written in
    let F : Falls ls o = stop_falls ls o h.state.lasting.boot stop of was in (
      record {
        now = F.none ∙ sym (ap (λ (d : Option Fall). up_boot d l.state.lasting.boot) down);
        last = subst (λ (n : ℕ). n ≤ l.state.lasting.boot) (sym F.last) (subst (λ (n : ℕ). last_boot Loc o ≤ n) (sym boot) k.last);
        written = subst (λ (n : ℕ). reached l.state.lasting.boot l.down ≤ n) (sym F.written) (subst (λ (d : Option Fall). reached l.state.lasting.boot d ≤ last_written Loc o) (sym down)
            (subst (λ (n : ℕ). n ≤ last_written Loc o) (sym (reached_fall l.state.lasting.boot fall other ∙ boot)) low));
      },
      (subst (λ (b : Option ℕ). IsHostLived b (last_written Loc o + 1) ls ms) (sym was) (inr (stop, none)), F.rises (last_boot Loc o)),
    )
life_by sent h l o ls ms of (loc_early fall down down' state are none) k =
    let boot : l.state.lasting.boot ≡ h.state.lasting.boot = boot_is state in
    let w : reached h.state.lasting.boot (Some fall) ≤ last_written Loc o = was_reached h o fall down k in
    let v : reached l.state.lasting.boot l.down ≤ last_written Loc o = subst (λ (d : Option Fall). reached l.state.lasting.boot d ≤ last_written Loc o) (sym down') (subst (λ (n : ℕ). reached n (Some fall) ≤ last_written Loc o) (sym boot) w) in
    let none_ : server_boot Loc o ≡ None = is_down h o fall down k in
    subst (λ (y : List Line). Living l o y ms) (sym are) (
      record {
        now = sym (ap (λ (d : Option Fall). up_boot d l.state.lasting.boot) down');
        last = subst (λ (n : ℕ). last_boot Loc o ≤ n) (sym boot) k.last;
        written = subst (λ (b : Option ℕ). reached l.state.lasting.boot l.down ≤ boot_written b (last_written Loc o)) (sym none_) (omega (arith, v));
      },
      (subst (λ (b : Option ℕ). IsHostLived b (last_written Loc o + 1) (lines.Fault Loc ∷ []) ms) (sym none_) (refl, none), tt),
    )
life_by sent h l o ls ms of (loc_midway after fall down down' state are none) k =
    let boot : l.state.lasting.boot ≡ (begun_from loc_kind h.state after fall).state.lasting.boot = boot_is state in
    let F : Found h.state (reached h.state.lasting.boot (Some fall)) (begun_from loc_kind h.state after fall) = found_loc h.state after fall in
    let low : (begun_from loc_kind h.state after fall).state.lasting.boot ≤ last_written Loc o = le_trans F.low (was_reached h o fall down k) in
    let more : last_boot Loc o ≤ (begun_from loc_kind h.state after fall).state.lasting.boot = le_trans k.last F.more in
    behind h l o ls ms after fall (lines.Fault Loc) down are k
    (λ b none_ last written. record {
      now = sym (ap (λ (d : Option Fall). up_boot d l.state.lasting.boot) down');
      last = subst (λ (n : ℕ). n ≤ l.state.lasting.boot) (sym last) (subst (λ (n : ℕ). last_boot Loc o ≤ n) (sym boot) more);
      written = subst (λ (d : Option Fall). reached l.state.lasting.boot d ≤ boot_written (server_boot Loc b) (last_written Loc b)) (sym down')
          (subst (λ (x : Option ℕ). l.state.lasting.boot + 1 ≤ boot_written x (last_written Loc b)) (sym none_)
          (subst (λ (n : ℕ). l.state.lasting.boot + 1 ≤ n + 1) (sym written) (subst (λ (n : ℕ). n + 1 ≤ last_written Loc o + 1) (sym boot) (omega (arith, low)))));
    }) (refl, none) tt
life_by sent h l o ls ms of (loc_full after fall down down' state are none) k =
    let boot : l.state.lasting.boot ≡ (begun_from loc_kind h.state after fall).state.lasting.boot = boot_is state in
    let F : Found h.state (reached h.state.lasting.boot (Some fall)) (begun_from loc_kind h.state after fall) = found_loc h.state after fall in
    let low : (begun_from loc_kind h.state after fall).state.lasting.boot ≤ last_written Loc o = le_trans F.low (was_reached h o fall down k) in
    let more : last_boot Loc o ≤ (begun_from loc_kind h.state after fall).state.lasting.boot = le_trans k.last F.more in
    behind h l o ls ms after fall (lines.Full Loc) down are k
    (λ b none_ last written. record {
      now = none_ ∙ sym (ap (λ (d : Option Fall). up_boot d l.state.lasting.boot) down');
      last = subst (λ (n : ℕ). n ≤ l.state.lasting.boot) (sym last) (subst (λ (n : ℕ). last_boot Loc o ≤ n) (sym boot) more);
      written = subst (λ (d : Option Fall). reached l.state.lasting.boot d ≤ last_written Loc b) (sym down') (subst (λ (n : ℕ). l.state.lasting.boot ≤ n) (sym written) (subst (λ (n : ℕ). n ≤ last_written Loc o) (sym boot) low));
    }) (refl, none) tt
life_by sent h l o ls ms of (loc_rises after fall down on state are none) k =
    let boot : l.state.lasting.boot ≡ (begun_from loc_kind h.state after fall).state.lasting.boot + 1 = boot_is state in
    let F : Found h.state (reached h.state.lasting.boot (Some fall)) (begun_from loc_kind h.state after fall) = found_loc h.state after fall in
    let n : ℕ = (begun_from loc_kind h.state after fall).state.lasting.boot in
    let low : n ≤ last_written Loc o = le_trans F.low (was_reached h o fall down k) in
    let more : last_boot Loc o ≤ n = le_trans k.last F.more in
    behind h l o ls ms after fall (lines.Restart Loc (n + 1)) down are k
    (λ b none_ last written. record {
      now = ap (λ (x : Option ℕ). boot_risen x (n + 1)) none_ ∙ sym (ap (λ (d : Option Fall). up_boot d l.state.lasting.boot) on ∙ ap (λ (i : ℕ). Some i) boot);
      last = le_of_eq (sym boot);
      written = subst (λ (d : Option Fall). reached l.state.lasting.boot d ≤ n + 1) (sym on) (le_of_eq boot);
    }) (omega (arith, low), (tt, subst AreCalls (sym none) tt)) (omega (arith, more), tt)

-- ---- what it sends

-- it sends while it is up
sends_up : (sent : List Message) (h l : LocHost) (ls : List Line) (ms : List Message) → LivesLoc sent h l ls ms → (ms ≡ []) ⊎ ((l.down ≡ None) × (l.state.lasting.boot ≡ h.state.lasting.boot))
sends_up sent h l ls ms (loc_goes up on boot run did) = inr (on, boot)
sends_up sent h l ls ms (loc_falls fall up down state other stop none cut on) = inl none
sends_up sent h l ls ms (loc_early fall down down' state are none) = inl none
sends_up sent h l ls ms (loc_midway after fall down down' state are none) = inl none
sends_up sent h l ls ms (loc_full after fall down down' state are none) = inl none
sends_up sent h l ls ms (loc_rises after fall down on state are none) = inl none

one_back : (ls : List Line) (b : ℕ) (k : Message) (ms : List Message) → server_boot Loc ls ≡ Some b → Each (IsBackTo k.head k.carried) ms → Each (IsUnderKey k.head) ms → AreAlone ms → Each (λ (m : Message). m.head.boot ≡ b) ms → AllGoBack ls (Some k) ms
one_back ls b k [] up h u a n = tt
one_back ls b k (m ∷ []) up h u a n = ((h.0.1.1, h.0.0), ((h.0.1.0, u.0), inl (up ∙ ap (λ (i : ℕ). Some i) (sym n.0))))
one_back ls b k (m ∷ x ∷ ms) up h u a n = a

goes_back : (ls : List Line) (b : ℕ) (given : Option Message) (ms : List Message) → server_boot Loc ls ≡ Some b → (given ≡ None → ms ≡ []) → ((m : Message) → given ≡ Some m → Each (IsBackTo m.head m.carried) ms) → ((m : Message) → given ≡ Some m → Each (IsUnderKey m.head) ms) → AreAlone ms → Each (λ (m : Message). m.head.boot ≡ b) ms → AllGoBack ls given ms
goes_back ls b None ms up none back keys a n = subst (AllGoBack ls None) (sym (none refl)) tt
goes_back ls b (Some k) ms up none back keys a n = one_back ls b k ms up (back k refl) (keys k refl) a n

all_back : (c : Cell) (past : List Entry) (l : LocHost) (ls : List Line) (ms : List Message) → sent_of past ≡ c.sent → IsLocStep c l ls ms → Each (λ (m : Message). m.head.boot ≡ c.loc.state.lasting.boot) ms → Life l (onto (lines_of past) ls) → AllGoBack (onto (lines_of past) ls) (given_message ls (sent_of past)) ms
all_back c past l ls ms told st now life = elim (sends_up c.sent c.loc l ls ms st.lives) [
  | inl none ↦ subst (AllGoBack (onto (lines_of past) ls) (given_message ls (sent_of past))) (sym none) tt
  | inr up ↦ subst (λ (o : Option Message). AllGoBack (onto (lines_of past) ls) o ms) (sym (st.given (sent_of past) ∙ ap (λ (all : List Message). placed st.place all) told))
      (goes_back (onto (lines_of past) ls) c.loc.state.lasting.boot (placed st.place c.sent) ms (life.now ∙ (ap (λ (d : Option Fall). up_boot d l.state.lasting.boot) up.0 ∙ ap (λ (b : ℕ). Some b) up.1)) st.none st.back st.keys st.alone now)
]

-- ---- every step

abbrev pub IsLocLived : Actor → List Entry → List Line → List Message → Type 0
IsLocLived (actors.Node Loc) past ls sent = IsHostLived (server_boot Loc (lines_of past)) (last_written Loc (lines_of past) + 1) ls sent × ((RisesAbove (last_boot Loc (lines_of past)) ls × DeedsAreCaused (server_boot Loc (lines_of past)) past ls sent) × AllGoBack (onto (lines_of past) ls) (given_message ls (sent_of past)) sent)
IsLocLived who past ls sent = ⊤

none_life : (who : Actor) (past : List Entry) (ls : List Line) (sent : List Message) → (who ≡ actors.Node Loc → ⊥) → IsLocLived who past ls sent
none_life (actors.Node (Client j)) past ls sent other = tt
none_life (actors.Node (Server i)) past ls sent other = tt
none_life (actors.Node (Admin i)) past ls sent other = tt
none_life (actors.Node Loc) past ls sent other = absurd (other refl)
none_life actors.Clock past ls sent other = tt
none_life actors.Nobody past ls sent other = tt

abbrev pub LifeFacts : Script → Cell → List Entry → Type 0
LifeFacts s c past = Placed s c past × Life c.loc (lines_of past)

pub record LifeStep (c : Cell) (past : List Entry) (m : Moved) : Type 0 where
  pub good : IsLocLived m.entry.actor past m.entry.lines m.entry.sent
  pub life : Life m.cell.loc (lines_of (m.entry ∷ past))

besides_life : (s : Script) (c : Cell) (past : List Entry) (m : Moved) → LifeFacts s c past → EachLine (IsInPlace s) m.entry.actor past [] m.entry.lines → (m.entry.actor ≡ actors.Node Loc → ⊥) → m.cell.loc ≡ c.loc → LifeStep c past m
besides_life s c past m h p other same =
    let A : Alike (lines_of (m.entry ∷ past)) (lines_of past) = others_alike s m.entry.actor past [] m.entry.lines (lines_of past) other p in
    record {
      good = none_life m.entry.actor past m.entry.lines m.entry.sent other;
      life = subst (λ (l : LocHost). Life l (lines_of (m.entry ∷ past))) (sym same) (record {
        now = A.boot ∙ h.1.now;
        last = subst (λ (n : ℕ). n ≤ c.loc.state.lasting.boot) (sym A.last) h.1.last;
        written = subst (λ (n : ℕ). reached c.loc.state.lasting.boot c.loc.down ≤ n) (sym A.written) h.1.written;
      });
    }

-- what does nothing with locks and places needs no cause for it
quiet_caused : (b : Option ℕ) (past : List Entry) (ls : List Line) (sent : List Message) → TellsNoDeed ls → DeedsAreCaused b past ls sent
quiet_caused None past ls sent h = inl h
quiet_caused (Some boot) past ls sent h = inl h

pub loc_life : (s : Script) (c : Cell) (past : List Entry) (l : LocHost) (ls : List Line) (ms : List Message) → LifeFacts s c past → IsLocStep c l ls ms → LifeStep c past (loc_becomes c l ls ms)
loc_life s c past l ls ms h st =
    let q : Living l (lines_of past) ls ms = life_by c.sent c.loc l (lines_of past) ls ms st.lines st.lives h.1 in
    let quiet : TellsNoDeed ls = st.quiet s h.0.0.1.lists (λ m at. given_numbered s c past st.place m h.0.0.1 at) in
    record { good = (q.1.0, ((q.1.1, quiet_caused (server_boot Loc (lines_of past)) past ls ms quiet), all_back c past l ls ms h.0.0.0.hears.told st (st.now s h.0.0.1.lists (λ m at. given_numbered s c past st.place m h.0.0.1 at)) q.0)); life = q.0 }

life_moves : (s : Script) → EachMove (LifeFacts s) LifeStep
life_moves s = (let q : EachMove (Placed s) (PlacedStep s) = placed_moves s in record {
  void = λ c past h. besides_life s c past (voided c) h (q.void c past h.0) (λ e. absurd cc) refl;
  ticked = λ c past n h. besides_life s c past (ticked c (suc n)) h (q.ticked c past n h.0) (λ e. absurd cc) refl;
  begun = λ c past n act h r z0. besides_life s c past (client_moves c n (begin_row (Client n) (c.clients n) c.clock act)) h (q.begun c past n act h.0 r z0) (λ e. absurd cc) refl;
  told = λ c past n place m h at to un. besides_life s c past (client_moves c n (client_row (Client n) (c.clients n) c.clock place (Whole m))) h (q.told c past n place m h.0 at to un) (λ e. absurd cc) refl;
  sought = λ c past n place m k h at to z e. besides_life s c past (client_moves c n (sought_by (Client n) (c.clients n) c.clock place k m.head m.carried)) h (q.sought c past n place m k h.0 at to z e) (λ e'. absurd cc) refl;
  missed = λ c past n k h r z. besides_life s c past (client_moves c n (seek_timeout_row (Client n) (c.clients n) k)) h (q.missed c past n k h.0 r z) (λ e. absurd cc) refl;
  loc = λ c past l ls ms h st. loc_life s c past l ls ms h st;
  waited = λ c past n act h r. besides_life s c past (client_moves c n (timeout_row (Client n) (c.clients n) act)) h (q.waited c past n act h.0 r) (λ e. absurd cc) refl;
  fallen = λ c past n h. besides_life s c past (client_falls c n) h (q.fallen c past n h.0) (λ e. absurd cc) refl;
  risen = λ c past n h. besides_life s c past (client_rises c n) h (q.risen c past n h.0) (λ e. absurd cc) refl;
  served = λ c past i place m armed h up at to. besides_life s c past (server_moves c i armed (server_row (Server i) (c.hosts i).state c.clock place (Whole m))) h (q.served c past i place m armed h.0 up at to) (λ e. absurd cc) refl;
  cut = λ c past i place m t h up at to. besides_life s c past (server_falls c i (lines.Given place ∷ blow_line i t.stops ∷ []) (in_step m c.clock t)) h (q.cut c past i place m t h.0 up at to) (λ e. absurd cc) refl;
  stopped = λ c past i h up. besides_life s c past (server_falls c i (lines.Crash (Server i) ∷ []) at_rest) h (q.stopped c past i h.0 up) (λ e. absurd cc) refl;
  stop_set = λ c past i calls pick armed h up. besides_life s c past (server_set c i (lines.Stop (Server i) calls pick) armed) h (q.stop_set c past i calls pick armed h.0 up) (λ e. absurd cc) refl;
  fail_set = λ c past i call armed h up. besides_life s c past (server_set c i (lines.Fail (Server i) call) armed) h (q.fail_set c past i call armed h.0 up) (λ e. absurd cc) refl;
  timed = λ c past i n b armed h up at. besides_life s c past (server_moves c i armed (back_timeout_row (Server i) (c.hosts i).state c.clock n b)) h (q.timed c past i n b armed h.0 up at) (λ e. absurd cc) refl;
  woken = λ c past i armed h up. besides_life s c past (server_moves c i armed (wake_row (Server i) (c.hosts i).state c.clock)) h (q.woken c past i armed h.0 up) (λ e. absurd cc) refl;
  started = λ c past i after fall h down. besides_life s c past (server_rises c i (begun_by_disk (Server i) (c.hosts i).state after fall)) h (q.started c past i after fall h.0 down) (λ e. absurd cc) refl;
  early = λ c past i fall h down. besides_life s c past (server_falls c i (lines.Fault (Server i) ∷ []) fall) h (q.early c past i fall h.0 down) (λ e. absurd cc) refl;
  midway = λ c past i after fall h down. besides_life s c past (server_stays c i (begun_by_disk (Server i) (c.hosts i).state after fall) (lines.Fault (Server i)) in_boot) h (q.midway c past i after fall h.0 down) (λ e. absurd cc) refl;
  full = λ c past i after fall h down. besides_life s c past (server_stays c i (begun_by_disk (Server i) (c.hosts i).state after fall) (lines.Full (Server i)) at_rest) h (q.full c past i after fall h.0 down) (λ e. absurd cc) refl;
})

pub life_kept : (s : Script) → IsKept (LifeFacts s)
life_kept s c past x so h = (placed_kept s c past x so h.0, (each_moved (LifeFacts s) LifeStep (life_moves s) c past x so h).life)

pub life_first : (s : Script) → LifeFacts s (start s) (set_up_entry s ∷ [])
life_first s =
    let A : Alike (lines_of (set_up_entry s ∷ [])) [] = running_alike (first_lines s.volumes) [] (first_running (first_lines s.volumes) (all_versions s.volumes)) in
    (placed_first s, record { now = A.boot; last = le_of_eq A.last; written = le_of_eq (sym A.written) })

pub run_loc_lived : (s : Script) (h : List Entry) (end : Cell) → RunsTo h s end → EachEntry (λ past e. IsLocLived e.actor past e.lines e.sent) (set_up_entry s ∷ []) h
run_loc_lived s h end r =
    run_each (LifeFacts s) (λ past e. IsLocLived e.actor past e.lines e.sent) (life_kept s) (λ c past x so k. (each_moved (LifeFacts s) LifeStep (life_moves s) c past x so k).good) r.inputs s (set_up_entry s ∷ []) h end (life_first s) r.leads

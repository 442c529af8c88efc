-- How a replay ends, by what its parts promise.
use Rattle.std.specs.Prelude.{◌≡◌, ◌≤◌, ◌<◌, ◌⊎◌, ℕ, suc, ◌+◌, List, [], ◌∷◌, ◌++◌, length, map, Bool, false, Option, Some, None, Result, Ok, Err, OnOk, OnErr}
use Rattle.std.proofs.Common.{refl, ap, sym, subst, ◌∙◌, inl, inr, arith}
use Rattle.std.specs.Option.{option_map}
use Rattle.afs_num.specs.declared.devices.Failed.{Failed}
use Rattle.afs_num.specs.declared.types.Node.{Node}
use Rattle.spec_history.specs.declared.scripts.Script.{Script}
use Rattle.afs_disk.specs.Disk.{Rose}
use Rattle.afs_disk.specs.declared.bank.Lend.{Lend}
use Rattle.afs_disk.specs.declared.bank.LendFault.{LendFault}
use Rattle.afs_disk.specs.declared.bank.LendFault.TheVariants as lending
use Rattle.afs_disk.specs.declared.bank.Place.{Place}
use Rattle.afs_disk.specs.declared.disks.Lent.{Lent}
use Rattle.afs_outside.specs.Outside.{AppendsFront}
use Rattle.spec_records.specs.Durable.{Durable}
use Rattle.spec_records.specs.LocDurable.{LocDurable}
use Rattle.spec_rows.specs.Runs.{Entry}
use Rattle.spec_runs.specs.NodeRuns.{CellInput, NodeCell}
use Rattle.afs_text.specs.FinalText.{final_text}
use Rattle.afs_text.specs.HistoryText.{history_text, text}
use Rattle.afs_text.specs.KeptText.{kept_history_text}
use Rattle.afs_text.specs.Telling.{entries_as_told}
use Rattle.afs_text.proofs.Kept.{history_told}
use Rattle.afs_volstore.specs.Stores.{Store}
use Rattle.afs_cell.specs.Lends as ends
use Rattle.afs_cell.specs.Ends.{AreAllLeft, IsRefused}
use Rattle.afs_cell.specs.Steps.{AreStanding, HasPlayedAll, HasPlayedFirst, HasPlayedSome}
use Rattle.afs_cell.specs.Lends.{disks_of, lent_from}
use Rattle.afs_host.specs.LocSeated.{loc_seat_disk}
use Rattle.afs_cell.specs.Worlds.{most_history_entries, own_falls, AllTell, IsCell, IsWorld, Runs, WorldState}
use Rattle.afs_cell.specs.declared.faults.SetupFault.{SetupFault}
use Rattle.afs_cell.specs.declared.faults.SetupFault.TheVariants as setup
use Rattle.afs_final.specs.Reading.{fault_in, part, AreFound}
use Rattle.afs_final.specs.declared.reading.Left.{Left}
use Rattle.afs_disk.specs.Fuses.{last_of_counter}
use Rattle.afs_lending.specs.Lending.{all_kept, lends, with_faults, AreLent, AreUnused, GivesBackBut, GoBack, HasFailed}
use Rattle.afs_command.specs.Spans.{span, IsUnchanged, RoseBy, Span}
use Rattle.afs_lending.specs.Outside.{DidNotRise, Outside, SoManyFailed, Writes, WritesAll, WritesText, WritesWhole}
use Rattle.afs_cell.specs.Refusing.{set_up_status}
use Rattle.afs_lending.specs.Parts.{lend_status, returned, TellsLeft}
use Rattle.afs_cell.specs.Replays.{lends_of, no_other, one_other, AreAllBut, AreOfNodes, AtBankFault, EndsReplay, EndsRun, GivesBack, GivesBackLent, GivesBackThose, HasDisk, IsFew, IsFull, IsRun, IsServerOf, LendingFails, LendingLeaves, MissedByTheBank, NoneIsMissing, NotToItsEnd, ReadingFails, Replays, ReplaysFirst, ReplaysSome, ReplaysUnread, SettingUpFails, SettingUpStops, SetUpLeaves, SomeOfIt, ToItsEnd, WritesEntries, WritesRun}
use Rattle.afs_command.specs.declared.statuses.Status.{Status}
use Rattle.afs_command.specs.declared.statuses.Status.TheVariants as statuses
use Rattle.afs_cell.proofs.Bare.{bare_history, told_length}
use Rattle.afs_cell.proofs.LentCounts.{all_but_one, all_counted, counts_lent, failed_among, failed_at, none_of, none_rose, one_disk_failed, one_rose, rose_at, rose_once, AreCounted, IsAmong, OneFailed}
use Rattle.afs_cell.proofs.RunEnds.{found_come, found_count, given_so, is_run, left_so, length_told, lent_come, lent_length, no_others, read_so, Missing}

-- ---- the disks go back

abbrev Given : Type 0
Given = Option (List (ℕ × List ℕ))

-- as the bank takes them; and their faults are counted
pub record GoesBack {D : Type 0} (seen : D → Option (List ℕ)) (faults : D → ℕ) (disks : List (Lent D)) (o : Outside) : Type 0 where
  pub back : GoBack seen disks o.given.before o.given.after o.bank_faults.before o.bank_faults.after
  pub counts : (n : ℕ) → (o.disk_faults n).after ≡ with_faults faults disks n (o.disk_faults n).before
  pub never_falls : o.bank_faults.before ≤ o.bank_faults.after

pub missed : {D : Type 0} (seen : D → Option (List ℕ)) (faults : D → ℕ) (disks : List (Lent D)) (o : Outside) → GoesBack seen faults disks o → Missing (MissedByTheBank o) seen disks o.given.before o.given.after
missed {D} seen faults disks o goes = (goes.back.missing, (goes.back.given, goes.back.failed))

missed_of : {D : Type 0} (seen : D → Option (List ℕ)) (faults : D → ℕ) (disks : List (Lent D)) (o : Outside) → GoesBack seen faults disks o → GivesBackLent seen 0 disks o
missed_of {D} seen faults disks o goes =
    let same : goes.back.missing ≡ 0 + goes.back.missing = omega (arith) in
    (goes.back.missing, (goes.back.given, subst (λ (n : ℕ). SoManyFailed n o.bank_faults) same goes.back.failed))

-- the count of each disk rises by its own
rose_by : {D : Type 0} (seen : D → Option (List ℕ)) (faults : D → ℕ) (own : ℕ → ℕ) (s : Script) (disks : List (Lent D)) (o : Outside) → GoesBack seen faults disks o → length disks ≡ s.servers + 1 → AreCounted faults own 0 disks → (i : ℕ) → HasDisk s i → RoseBy (own i) (o.disk_faults i)
rose_by {D} seen faults own s disks o goes all are i has =
    subst (λ (k : ℕ). RoseBy (own i) (span (o.disk_faults i).before k)) (sym (goes.counts i)) (rose_at faults own 0 i disks (o.disk_faults i).before are (omega arith) (omega (arith, has, all)))

-- ---- a world that played its script to its end

-- what is known of it
pub record HasEnded {D : Type 0} (seen : D → Option (List ℕ)) (may_leave : D → List ℕ → Type 0) (faults limit : D → ℕ) (s : Script) (w : WorldState D) : Type 0 where
  pub world : IsWorld seen may_leave faults limit s w
  pub going : w.is_lost ≡ false
  pub standing : AllTell seen w → (c : NodeCell) → IsCell seen may_leave limit w c → AreStanding seen limit c (disks_of w)

abbrev All : {D : Type 0} → (D → Option (List ℕ)) → (D → List ℕ → Type 0) → (D → ℕ) → (D → ℕ) → Script → WorldState D → Type 0
All {D} seen may_leave faults limit s w = AllTell seen w × HasPlayedAll seen may_leave faults limit s w

abbrev First : {D : Type 0} → (D → Option (List ℕ)) → (D → List ℕ → Type 0) → (D → ℕ) → (D → ℕ) → Script → WorldState D → Type 0
First {D} seen may_leave faults limit s w = AllTell seen w × HasPlayedFirst seen may_leave faults limit s w

-- some of its events were played
abbrev Part : {D : Type 0} → (D → Option (List ℕ)) → (D → List ℕ → Type 0) → (D → ℕ) → (D → ℕ) → Script → WorldState D → Type 0
Part {D} seen may_leave faults limit s w = AllTell seen w × HasPlayedSome seen may_leave faults limit s w

-- the text of its history
written_told : {D : Type 0} (seen : D → Option (List ℕ)) (may_leave : D → List ℕ → Type 0) (faults limit : D → ℕ) (s : Script) (w : WorldState D) (wire : Bool) (o : Outside) (inputs : List CellInput) (end : NodeCell) → IsWorld seen may_leave faults limit s w → (runs : Runs seen may_leave faults limit s w inputs end) → Writes o (kept_history_text wire w.wire w.history) → Writes o (history_text wire runs.history)
written_told {D} seen may_leave faults limit s w wire o inputs end is runs written =
    subst (λ (t : List ℕ). Writes o t) (history_told wire w.wire w.history runs.read is.safe.sent ∙ bare_history wire runs.history (entries_as_told w.wire w.history) runs.tells) written

whole_text : {D : Type 0} (seen : D → Option (List ℕ)) (may_leave : D → List ℕ → Type 0) (faults limit : D → ℕ) (s : Script) (w : WorldState D) (fs : List (Left (Store D) D)) (wire : Bool) (inputs : List CellInput) (end : NodeCell) → IsWorld seen may_leave faults limit s w → (runs : Runs seen may_leave faults limit s w inputs end) →
    kept_history_text wire w.wire w.history ++ final_text (map part fs) ≡ text wire runs.history (map part fs)
unfolding text
whole_text {D} seen may_leave faults limit s w fs wire inputs end is runs =
    ap (λ (t : List ℕ). t ++ final_text (map part fs)) (history_told wire w.wire w.history runs.read is.safe.sent ∙ bare_history wire runs.history (entries_as_told w.wire w.history) runs.tells)

-- that of its entries, whatever the disks tell
pub entries_of : {D : Type 0} (seen : D → Option (List ℕ)) (may_leave : D → List ℕ → Type 0) (faults limit : D → ℕ) (s : Script) (w : WorldState D) (IsSoMany : ℕ → Type 0) (wire : Bool) (o : Outside) → IsWorld seen may_leave faults limit s w → IsSoMany (length w.history) → Writes o (kept_history_text wire w.wire w.history) → WritesEntries IsSoMany wire o
entries_of {D} seen may_leave faults limit s w IsSoMany wire o is many written = record {
  sent = w.wire;
  entries = w.history;
  all = is.safe.sent;
  many = many;
  written = written;
}

-- each server's disk was read
parts_counted : {D : Type 0} (seen : D → Option (List ℕ)) (faults limit : D → ℕ) (ls : List (Lent D)) (fs : List (Left (Store D) D)) → AreFound seen faults limit ls fs → length (map part fs) ≡ length ls
parts_counted {D} seen faults limit [] [] found = refl
parts_counted {D} seen faults limit [] (f ∷ fs) found = absurd found
parts_counted {D} seen faults limit (l ∷ ls) [] found = absurd found
parts_counted {D} seen faults limit (l ∷ ls) (f ∷ fs) found = ap suc (parts_counted seen faults limit ls fs found.1)

-- and what was found there was told after its entries
run_of : {D : Type 0} (seen : D → Option (List ℕ)) (may_leave : D → List ℕ → Type 0) (faults limit : D → ℕ) (s : Script) (w : WorldState D) (fs : List (Left (Store D) D)) (wire : Bool) (Writes : List ℕ → Type 0)
    → IsWorld seen may_leave faults limit s w → AreFound seen faults limit (lent_from 1 w.servers) fs → Writes (kept_history_text wire w.wire w.history ++ final_text (map part fs)) → WritesRun s wire Writes
run_of {D} seen may_leave faults limit s w fs wire Writes is found written = record {
  sent = w.wire;
  entries = w.history;
  all = is.safe.sent;
  few = is.safe.entries;
  kept = map part fs;
  each = parts_counted seen faults limit (lent_from 1 w.servers) fs found ∙ (lent_length 1 w.servers ∙ is.safe.server_count);
  written = written;
}

-- its disks go back: each has counted its failures in the history
pub lent_rose : {D : Type 0} (seen : D → Option (List ℕ)) (may_leave : D → List ℕ → Type 0) (faults limit : D → ℕ) (s : Script) (w : WorldState D) (inputs : List CellInput) (end : NodeCell) (o : Outside) → IsWorld seen may_leave faults limit s w → Runs seen may_leave faults limit s w inputs end → GoesBack seen faults (disks_of w) o
    → (i : ℕ) → HasDisk s i → RoseBy (own_falls i inputs (entries_as_told w.wire w.history) + no_other i) (o.disk_faults i)
lent_rose {D} seen may_leave faults limit s w inputs end o is runs back =
    no_others s (λ (i : ℕ). own_falls i inputs (entries_as_told w.wire w.history)) o.disk_faults
    (rose_by seen faults (λ (i : ℕ). own_falls i inputs (entries_as_told w.wire w.history)) s (disks_of w) o back (omega (arith, lent_length 1 w.servers, is.safe.server_count)) (counts_lent faults (λ (i : ℕ). own_falls i inputs (entries_as_told w.wire w.history)) w runs.counts))

-- and so after they were read
found_rose : {D : Type 0} (seen : D → Option (List ℕ)) (may_leave : D → List ℕ → Type 0) (faults limit : D → ℕ) (s : Script) (w : WorldState D) (inputs : List CellInput) (end : NodeCell) (fs : List (Left (Store D) D)) (o : Outside) → IsWorld seen may_leave faults limit s w → Runs seen may_leave faults limit s w inputs end
    → AreFound seen faults limit (lent_from 1 w.servers) fs → GoesBack seen faults (all_kept (loc_seat_disk w.database) fs) o → (i : ℕ) → HasDisk s i → RoseBy (own_falls i inputs (entries_as_told w.wire w.history) + no_other i) (o.disk_faults i)
found_rose {D} seen may_leave faults limit s w inputs end fs o is runs found back =
    no_others s (λ (i : ℕ). own_falls i inputs (entries_as_told w.wire w.history)) o.disk_faults
    (rose_by seen faults (λ (i : ℕ). own_falls i inputs (entries_as_told w.wire w.history)) s (all_kept (loc_seat_disk w.database) fs) o back (omega (arith, found_count seen faults limit 1 (lent_from 1 w.servers) fs found, lent_length 1 w.servers, is.safe.server_count))
    (all_counted seen faults limit (λ (i : ℕ). own_falls i inputs (entries_as_told w.wire w.history)) (loc_seat_disk w.database) (lent_from 1 w.servers) fs found (counts_lent faults (λ (i : ℕ). own_falls i inputs (entries_as_told w.wire w.history)) w runs.counts)))

-- its history is that of its script, and what was read from its disks is what that leaves
replays : {D : Type 0} (seen : D → Option (List ℕ)) (may_leave : D → List ℕ → Type 0) (faults limit : D → ℕ) (s : Script) (w : WorldState D) (fs : List (Left (Store D) D)) (wire : Bool) (Writes : List ℕ → Type 0) (MayBeMissing : ℕ → Type 0) (o : Outside)
    → HasEnded seen may_leave faults limit s w → AreFound seen faults limit (lent_from 1 w.servers) fs → fault_in fs ≡ None → Writes (kept_history_text wire w.wire w.history ++ final_text (map part fs)) → GoesBack seen faults (all_kept (loc_seat_disk w.database) fs) o
    → Missing MayBeMissing seen (all_kept (loc_seat_disk w.database) fs) o.given.before o.given.after → All seen may_leave faults limit s w → Replays s wire Writes MayBeMissing o
replays {D} seen may_leave faults limit s w fs wire Writes MayBeMissing o is found none written back missing p =
    let cell = p.1.runs.cell_is is.going in
    let so = read_so seen may_leave faults limit w p.1.cell fs cell p.0 (is.standing p.0 p.1.cell cell) found none in
    record {
      history = p.1.runs.history;
      end = p.1.cell;
      run = is_run seen may_leave faults limit (ToItsEnd s) no_other s w o.disk_faults is.world.safe.entries p.1 (found_rose seen may_leave faults limit s w p.1.inputs p.1.cell fs o is.world p.1.runs found back);
      kept = map part fs;
      keep = so.keep;
      loc = so.loc;
      keep_loc = so.keep_loc;
      written = subst Writes (whole_text seen may_leave faults limit s w fs wire p.1.inputs p.1.cell is.world p.1.runs) written;
      given = given_so MayBeMissing seen p.1.cell (map part fs) (all_kept (loc_seat_disk w.database) fs) o.given.before o.given.after so missing;
    }

-- a disk failed while it was read
reading_fails : {D : Type 0} (seen : D → Option (List ℕ)) (may_leave : D → List ℕ → Type 0) (faults limit : D → ℕ) (s : Script) (w : WorldState D) (fs : List (Left (Store D) D)) (wire : Bool) (o : Outside)
    → HasEnded seen may_leave faults limit s w → AreFound seen faults limit (lent_from 1 w.servers) fs → fault_in fs ≡ Some lending.Failed → Writes o (kept_history_text wire w.wire w.history) → GoesBack seen faults (all_kept (loc_seat_disk w.database) fs) o → ReadingFails s wire (All seen may_leave faults limit s w) o
reading_fails {D} seen may_leave faults limit s w fs wire o is found failed written back =
    let all : length (lent_from 1 w.servers) ≡ s.servers = lent_length 1 w.servers ∙ is.world.safe.server_count in
    let count : length (all_kept (loc_seat_disk w.database) fs) ≡ s.servers + 1 = omega (arith, found_count seen faults limit 1 (lent_from 1 w.servers) fs found, all) in
    let among : IsAmong 1 (length (lent_from 1 w.servers)) (failed_at 1 fs) = failed_among seen faults limit 1 (lent_from 1 w.servers) fs found failed in
    let has : IsServerOf s (failed_at 1 fs) = (among.0, omega (arith, among.1, all)) in
    record {
      server = failed_at 1 fs;
      has = has;
      rose = one_rose (failed_at 1 fs) (o.disk_faults (failed_at 1 fs)) (rose_by seen faults (λ (j : ℕ). 0 + one_other (failed_at 1 fs) j) s (all_kept (loc_seat_disk w.database) fs) o back count (all_but_one seen faults limit (λ (j : ℕ). 0) (loc_seat_disk w.database) (lent_from 1 w.servers) fs found failed (none_of faults w)) (failed_at 1 fs) has.1);
      written = entries_of seen may_leave faults limit s w IsFew wire o is.world is.world.safe.entries written;
      told = λ p. record {
        history = p.1.runs.history;
        end = p.1.cell;
        run = is_run seen may_leave faults limit (ToItsEnd s) (one_other (failed_at 1 fs)) s w o.disk_faults is.world.safe.entries p.1
            (rose_by seen faults (λ (j : ℕ). own_falls j p.1.inputs (entries_as_told w.wire w.history) + one_other (failed_at 1 fs) j) s (all_kept (loc_seat_disk w.database) fs) o back count
            (all_but_one seen faults limit (λ (j : ℕ). own_falls j p.1.inputs (entries_as_told w.wire w.history)) (loc_seat_disk w.database) (lent_from 1 w.servers) fs found failed (counts_lent faults (λ (j : ℕ). own_falls j p.1.inputs (entries_as_told w.wire w.history)) w p.1.runs.counts)));
        written = written_told seen may_leave faults limit s w wire o p.1.inputs p.1.cell is.world p.1.runs written;
        given = found_come (MissedByTheBank o) seen faults limit s.servers w fs o.given.before o.given.after is.world.safe.server_count p.0 found (missed seen faults (all_kept (loc_seat_disk w.database) fs) o back);
      };
    }

-- memory ran out for what was found
reading_stops : {D : Type 0} (seen : D → Option (List ℕ)) (may_leave : D → List ℕ → Type 0) (faults limit : D → ℕ) (s : Script) (w : WorldState D) (fs : List (Left (Store D) D)) (wire : Bool) (o : Outside)
    → HasEnded seen may_leave faults limit s w → AreFound seen faults limit (lent_from 1 w.servers) fs → Writes o (kept_history_text wire w.wire w.history) → GoesBack seen faults (all_kept (loc_seat_disk w.database) fs) o → All seen may_leave faults limit s w → ReplaysSome s wire o
reading_stops {D} seen may_leave faults limit s w fs wire o is found written back p =
    let some : HasPlayedSome seen may_leave faults limit s w = record { inputs = p.1.inputs; cell = p.1.cell; runs = p.1.runs; played = inl p.1.played } in
    record {
      history = p.1.runs.history;
      end = p.1.cell;
      run = is_run seen may_leave faults limit (SomeOfIt s) no_other s w o.disk_faults is.world.safe.entries some (found_rose seen may_leave faults limit s w p.1.inputs p.1.cell fs o is.world p.1.runs found back);
      written = written_told seen may_leave faults limit s w wire o p.1.inputs p.1.cell is.world p.1.runs written;
      given = found_come (MissedByTheBank o) seen faults limit s.servers w fs o.given.before o.given.after is.world.safe.server_count p.0 found (missed seen faults (all_kept (loc_seat_disk w.database) fs) o back);
    }

pub ended : {D : Type 0} (seen : D → Option (List ℕ)) (may_leave : D → List ℕ → Type 0) (faults limit : D → ℕ) (s : Script) (w : WorldState D) (fs : List (Left (Store D) D)) (wire : Bool) (o : Outside) {T E : Type 0} (written : Result T E) (status : Status) (taken : Result (Unit {0}) Failed)
    → HasEnded seen may_leave faults limit s w → AreFound seen faults limit (lent_from 1 w.servers) fs → TellsLeft written (kept_history_text wire w.wire w.history) (final_text (map part fs)) (fault_in fs) o.sink o.passed o.sink_faults status
    → OnOk taken (GivesBackBut seen 0 (all_kept (loc_seat_disk w.database) fs) o.given.before o.given.after) → OnOk taken (o.bank_faults.after ≡ o.bank_faults.before) → OnErr taken (Rose o.bank_faults.before o.bank_faults.after) → GoesBack seen faults (all_kept (loc_seat_disk w.database) fs) o → EndsRun s wire (All seen may_leave faults limit s w) ⊥ o (returned status taken)
ended {D} seen may_leave faults limit s w fs wire o written statuses.Done (Ok u) is found tells all quiet cause back =
    record {
      quiet = quiet;
      written = run_of seen may_leave faults limit s w fs wire (WritesAll o) is.world found tells.1;
      told = λ p. replays seen may_leave faults limit s w fs wire (WritesAll o) NoneIsMissing o is found tells.0 tells.1 back (0, (all, refl)) p;
    }
ended {D} seen may_leave faults limit s w fs wire o written statuses.Done (Err f) is found tells all quiet cause back =
    let rose = rose_once o.bank_faults.before o.bank_faults.after cause back.never_falls in
    inr (inr (record {
      rose = rose;
      written = run_of seen may_leave faults limit s w fs wire (WritesAll o) is.world found tells.1;
      told = λ p. replays seen may_leave faults limit s w fs wire (WritesAll o) (MissedByTheBank o) o is found tells.0 tells.1 back (missed seen faults (all_kept (loc_seat_disk w.database) fs) o back) p;
    }))
ended {D} seen may_leave faults limit s w fs wire o written statuses.WriteFault taken is found tells all quiet cause back =
    record {
      rose = tells.1.1;
      written = run_of seen may_leave faults limit s w fs wire (AppendsFront o.sink.before o.sink.after) is.world found tells.1.0;
      told = λ p. replays seen may_leave faults limit s w fs wire (AppendsFront o.sink.before o.sink.after) (MissedByTheBank o) o is found tells.0 tells.1.0 back (missed seen faults (all_kept (loc_seat_disk w.database) fs) o back) p;
    }
ended {D} seen may_leave faults limit s w fs wire o written statuses.BankFault taken is found tells all quiet cause back = inr (inl (reading_fails seen may_leave faults limit s w fs wire o is found tells.0 tells.1 back))
ended {D} seen may_leave faults limit s w fs wire o written statuses.OutOfMemory taken is found tells all quiet cause back = inr (record { written = entries_of seen may_leave faults limit s w IsFew wire o is.world is.world.safe.entries tells.1; told = λ p. reading_stops seen may_leave faults limit s w fs wire o is found tells.1 back p })
ended {D} seen may_leave faults limit s w fs wire o written statuses.Usage taken is found tells all quiet cause back = absurd tells
ended {D} seen may_leave faults limit s w fs wire o written (statuses.Script line reason) taken is found tells all quiet cause back = absurd tells
ended {D} seen may_leave faults limit s w fs wire o written statuses.ReadFault taken is found tells all quiet cause back = absurd tells
ended {D} seen may_leave faults limit s w fs wire o written statuses.Limit taken is found tells all quiet cause back = absurd tells

-- ---- memory ran out in the run, or for the disks

pub stopped : {D : Type 0} (seen : D → Option (List ℕ)) (may_leave : D → List ℕ → Type 0) (faults limit : D → ℕ) (s : Script) (w : WorldState D) (wire : Bool) (o : Outside)
    → IsWorld seen may_leave faults limit s w → Writes o (kept_history_text wire w.wire w.history) → GoesBack seen faults (disks_of w) o → Part seen may_leave faults limit s w → ReplaysSome s wire o
stopped {D} seen may_leave faults limit s w wire o is written back p = record {
  history = p.1.runs.history;
  end = p.1.cell;
  run = is_run seen may_leave faults limit (SomeOfIt s) no_other s w o.disk_faults is.safe.entries p.1 (lent_rose seen may_leave faults limit s w p.1.inputs p.1.cell o is p.1.runs back);
  written = written_told seen may_leave faults limit s w wire o p.1.inputs p.1.cell is p.1.runs written;
  given = lent_come (MissedByTheBank o) seen s.servers w o.given.before o.given.after is.safe.server_count p.0 (missed seen faults (disks_of w) o back);
}

-- all was played by then
pub all_played : {D : Type 0} (seen : D → Option (List ℕ)) (may_leave : D → List ℕ → Type 0) (faults limit : D → ℕ) (s : Script) (w : WorldState D) → All seen may_leave faults limit s w → Part seen may_leave faults limit s w
all_played {D} seen may_leave faults limit s w p = (p.0, record { inputs = p.1.inputs; cell = p.1.cell; runs = p.1.runs; played = inl p.1.played })

-- ---- one whose history was full before that

pub was_cut : {D : Type 0} (seen : D → Option (List ℕ)) (may_leave : D → List ℕ → Type 0) (faults limit : D → ℕ) (s : Script) (w : WorldState D) (wire : Bool) (o : Outside)
    → HasEnded seen may_leave faults limit s w → length w.history ≡ most_history_entries → Writes o (kept_history_text wire w.wire w.history) → GoesBack seen faults (disks_of w) o → EndsRun s wire (First seen may_leave faults limit s w) ⊥ o statuses.Limit
was_cut {D} seen may_leave faults limit s w wire o is full written back = record {
  written = entries_of seen may_leave faults limit s w IsFull wire o is.world full written;
  told = λ p.
      let cell = p.1.0.runs.cell_is is.going in
      let left = left_so seen may_leave limit w p.1.0.cell cell p.0 (is.standing p.0 p.1.0.cell cell) in
      record {
        history = p.1.0.runs.history;
        end = p.1.0.cell;
        run = is_run seen may_leave faults limit (NotToItsEnd s) no_other s w o.disk_faults is.world.safe.entries p.1.0 (lent_rose seen may_leave faults limit s w p.1.0.inputs p.1.0.cell o is.world p.1.0.runs back);
        full = sym (told_length p.1.0.runs.history (entries_as_told w.wire w.history) p.1.0.runs.tells) ∙ (length_told w.wire w.history ∙ full);
        kept = left.0;
        keep = left.1.keep;
        loc = left.1.loc;
        keep_loc = left.1.keep_loc;
        written = written_told seen may_leave faults limit s w wire o p.1.0.inputs p.1.0.cell is.world p.1.0.runs written;
        given = given_so (MissedByTheBank o) seen p.1.0.cell left.0 (disks_of w) o.given.before o.given.after left.1 (missed seen faults (disks_of w) o back);
      };
}

-- ---- disks that come back unplayed

-- disks that were lent in order of number are those of the nodes
pub of_nodes : {D : Type 0} (limit : D → ℕ) (capacity i : ℕ) (ls : List (Lent D)) → AreLent limit capacity i ls → AreOfNodes i ls
of_nodes {D} limit capacity i [] are = tt
of_nodes {D} limit capacity i (l ∷ ls) are = (are.0, of_nodes limit capacity (i + 1) ls are.1.1)

-- a disk failed while it was set up
pub setting_up_fails : {D : Type 0} (seen : D → Option (List ℕ)) (may_leave : D → List ℕ → Type 0) (faults : D → ℕ) (s : Script) (disks : List (Lent D)) (n : Node) (back : List (Lent D)) (o : Outside)
    → AreUnused faults disks → IsRefused faults 0 disks (setup.Disk n, back) → AreAllLeft seen may_leave s disks back → AreOfNodes 0 back × (length back ≡ s.servers + 1) → IsUnchanged o.sink → GoesBack seen faults back o → SettingUpFails s (SetUpLeaves seen may_leave faults s o) o
setting_up_fails {D} seen may_leave faults s disks n back o unused refused left whose unwritten gone =
    let one : OneFailed faults 0 back (λ (j : ℕ). (o.disk_faults j).before) = one_disk_failed faults n 0 disks back (λ (j : ℕ). (o.disk_faults j).before) unused refused.0 refused.1 whose.0 in
    record {
      node = one.server;
      has = omega (arith, one.among.1, whose.1);
      rose = subst (λ (k : ℕ). RoseBy 1 (span (o.disk_faults one.server).before k)) (sym (gone.counts one.server)) one.rose;
      alone = λ j other. subst (λ (k : ℕ). k ≤ (o.disk_faults j).before) (sym (gone.counts j)) (one.alone j other);
      written = unwritten;
      only_set_up = record { lent = disks; unused = unused; back = back; counted = whose.1; are = whose.0; failed = inl (n, refused.1); left = left; given = missed_of seen faults back o gone };
    }

-- memory ran out
pub setting_up_stops : {D : Type 0} (seen : D → Option (List ℕ)) (may_leave : D → List ℕ → Type 0) (faults : D → ℕ) (s : Script) (disks back : List (Lent D)) (o : Outside)
    → AreUnused faults disks → IsRefused faults 0 disks (setup.OutOfMemory, back) → AreAllLeft seen may_leave s disks back → AreOfNodes 0 back × (length back ≡ s.servers + 1) → IsUnchanged o.sink → GoesBack seen faults back o → SettingUpStops (SetUpLeaves seen may_leave faults s o) o
setting_up_stops {D} seen may_leave faults s disks back o unused refused left whose unwritten gone = record {
  quiet = λ i. subst (λ (k : ℕ). k ≤ (o.disk_faults i).before) (sym (gone.counts i)) (none_rose faults disks back i (o.disk_faults i).before unused refused.1);
  written = unwritten;
  only_set_up = record { lent = disks; unused = unused; back = back; counted = whose.1; are = whose.0; failed = inr refused.1; left = left; given = missed_of seen faults back o gone };
}

pub not_set_up : {D : Type 0} (seen : D → Option (List ℕ)) (may_leave : D → List ℕ → Type 0) (faults : D → ℕ) (s : Script) (wire : Bool) (tells : Type 0) (disks : List (Lent D)) (e : SetupFault × List (Lent D)) (o : Outside)
    → AreUnused faults disks → IsRefused faults 0 disks e → AreAllLeft seen may_leave s disks e.1 → AreOfNodes 0 e.1 × (length e.1 ≡ s.servers + 1) → IsUnchanged o.sink → GoesBack seen faults e.1 o → EndsRun s wire tells (SetUpLeaves seen may_leave faults s o) o (set_up_status e.0)
not_set_up {D} seen may_leave faults s wire tells disks (setup.Disk n, back) o unused refused left whose unwritten gone = inl (setting_up_fails seen may_leave faults s disks n back o unused refused left whose unwritten gone)
not_set_up {D} seen may_leave faults s wire tells disks (setup.OutOfMemory, back) o unused refused left whose unwritten gone = inl (setting_up_stops seen may_leave faults s disks back o unused refused left whose unwritten gone)

-- ---- seen from before

-- The same was done outside since before the disks were lent.
pub record Since (o earlier : Outside) : Type 0 where
  pub sink : earlier.sink ≡ o.sink
  pub passed : earlier.passed ≡ o.passed
  pub given : earlier.given ≡ o.given
  pub sink_faults : earlier.sink_faults ≡ o.sink_faults
  pub disk_faults : (n : ℕ) → earlier.disk_faults n ≡ o.disk_faults n
  pub bank_faults : earlier.bank_faults ≡ o.bank_faults

-- the lends changed neither what was given back nor the faults of disks, and the bank didn't fail at them
pub since_lent : (sink : Span (Option (List ℕ))) (passed : Option (List ℕ)) (sink_faults : Span ℕ) (lends lends_too : Span (Option (List Lend))) (g0 g1 g2 : Given) (b0 b1 b2 : ℕ) (d0 d1 d2 : ℕ → ℕ) → g1 ≡ g0 → ((n : ℕ) → d1 n ≡ d0 n) → b1 ≡ b0 →
    Since (record { sink = sink; passed = passed; lends = lends; given = span g1 g2; sink_faults = sink_faults; bank_faults = span b1 b2; disk_faults = λ (n : ℕ). span (d1 n) (d2 n) }) (record { sink = sink; passed = passed; lends = lends_too; given = span g0 g2; sink_faults = sink_faults; bank_faults = span b0 b2; disk_faults = λ (n : ℕ). span (d0 n) (d2 n) })
since_lent sink passed sink_faults lends lends_too g0 g1 g2 b0 b1 b2 d0 d1 d2 given faults quiet = record {
  sink = refl;
  passed = refl;
  given = ap (λ (x : Given). span x g2) (sym given);
  sink_faults = refl;
  disk_faults = λ n. ap (λ (x : ℕ). span x (d2 n)) (sym (faults n));
  bank_faults = ap (λ (x : ℕ). span x b2) (sym quiet);
}

pub since_same : (o : Outside) → Since o o
since_same o = record { sink = refl; passed = refl; given = refl; sink_faults = refl; disk_faults = λ n. refl; bank_faults = refl }

-- so many failures were counted
run_as : (s : Script) (IsSoFar : List CellInput → Type 0) (others : ℕ → ℕ) (history : List Entry) (end : NodeCell) (o earlier : Outside) → Since o earlier → IsRun s IsSoFar others o.disk_faults history end → IsRun s IsSoFar others earlier.disk_faults history end
run_as s IsSoFar others history end o earlier since run = record {
  inputs = run.inputs;
  leads = run.leads;
  so_far = run.so_far;
  few = run.few;
  failures = λ i has. subst (λ (x : Span ℕ). RoseBy (own_falls i run.inputs history + others i) x) (sym (since.disk_faults i)) (run.failures i has);
}

bank_since : (o earlier : Outside) → Since o earlier → RoseBy 1 o.bank_faults → RoseBy 1 earlier.bank_faults
bank_since o earlier since rose = subst (λ (x : Span ℕ). RoseBy 1 x) (sym since.bank_faults) rose

quiet_since : (o earlier : Outside) → Since o earlier → IsUnchanged o.bank_faults → IsUnchanged earlier.bank_faults
quiet_since o earlier since quiet = subst (λ (x : Span ℕ). IsUnchanged x) (sym since.bank_faults) quiet

missed_since : (o earlier : Outside) → Since o earlier → (missing : ℕ) → MissedByTheBank o missing → MissedByTheBank earlier missing
missed_since o earlier since missing failed = subst (λ (x : Span ℕ). SoManyFailed missing x) (sym since.bank_faults) failed

but_map : (a b : ℕ → Type 0) → ((missing : ℕ) → a missing → b missing) → (count : ℕ) (disks : List (ℕ × List ℕ)) → AreAllBut a count disks → AreAllBut b count disks
but_map a b f count disks h = (h.0, (h.1.0, f h.0 h.1.1))

given_map : (a b : ℕ → Type 0) → ((missing : ℕ) → a missing → b missing) → (loc : LocDurable) (kept : List Durable) (before after : Given) → GivesBack a loc kept before after → GivesBack b loc kept before after
given_map a b f loc kept None after g = tt
given_map a b f loc kept (Some before) after g = (g.0, (g.1.0, (g.1.1.0, but_map a b f (length kept + 1) g.0 g.1.1.1)))

given_since : (a b : ℕ → Type 0) (o earlier : Outside) → Since o earlier → ((missing : ℕ) → a missing → b missing) → (loc : LocDurable) (kept : List Durable) → GivesBack a loc kept o.given.before o.given.after → GivesBack b loc kept earlier.given.before earlier.given.after
given_since a b o earlier since f loc kept g = subst (λ (x : Span Given). GivesBack b loc kept x.before x.after) (sym since.given) (given_map a b f loc kept o.given.before o.given.after g)

those_map : (a b : ℕ → Type 0) → ((missing : ℕ) → a missing → b missing) → (n : ℕ) (before after : Given) → GivesBackThose a n before after → GivesBackThose b n before after
those_map a b f n None after g = tt
those_map a b f n (Some before) after g = (g.0, (g.1.0, (g.1.1.0, but_map a b f n g.0 g.1.1.1)))

those_since : (n : ℕ) (o earlier : Outside) → Since o earlier → GivesBackThose (MissedByTheBank o) n o.given.before o.given.after → GivesBackThose (MissedByTheBank earlier) n earlier.given.before earlier.given.after
those_since n o earlier since g = subst (λ (x : Span Given). GivesBackThose (MissedByTheBank earlier) n x.before x.after) (sym since.given) (those_map _ _ (missed_since o earlier since) n o.given.before o.given.after g)

replays_since : (s : Script) (wire : Bool) (Writes WritesToo : List ℕ → Type 0) (a b : ℕ → Type 0) (o earlier : Outside) → Since o earlier → ((t : List ℕ) → Writes t → WritesToo t) → ((missing : ℕ) → a missing → b missing) → Replays s wire Writes a o → Replays s wire WritesToo b earlier
replays_since s wire Writes WritesToo a b o earlier since w f r = record {
  history = r.history;
  end = r.end;
  run = run_as s (ToItsEnd s) no_other r.history r.end o earlier since r.run;
  kept = r.kept;
  keep = r.keep;
  loc = r.loc;
  keep_loc = r.keep_loc;
  written = w (text wire r.history r.kept) r.written;
  given = given_since a b o earlier since f r.loc r.kept r.given;
}

run_since : (s : Script) (wire : Bool) (Writes WritesToo : List ℕ → Type 0) → ((t : List ℕ) → Writes t → WritesToo t) → WritesRun s wire Writes → WritesRun s wire WritesToo
run_since s wire Writes WritesToo w r = record {
  sent = r.sent;
  entries = r.entries;
  all = r.all;
  few = r.few;
  kept = r.kept;
  each = r.each;
  written = w (kept_history_text wire r.sent r.entries ++ final_text r.kept) r.written;
}

writes_since : (o earlier : Outside) → Since o earlier → (t : List ℕ) → Writes o t → Writes earlier t
writes_since o earlier since t w =
    subst (λ (x : Span (Option (List ℕ))). WritesText x earlier.passed earlier.sink_faults t) (sym since.sink)
    (subst (λ (x : Option (List ℕ)). WritesText o.sink x earlier.sink_faults t) (sym since.passed) (subst (λ (x : Span ℕ). WritesText o.sink o.passed x t) (sym since.sink_faults) w))

entries_since : (IsSoMany : ℕ → Type 0) (wire : Bool) (o earlier : Outside) → Since o earlier → WritesEntries IsSoMany wire o → WritesEntries IsSoMany wire earlier
entries_since IsSoMany wire o earlier since w = record {
  sent = w.sent;
  entries = w.entries;
  all = w.all;
  many = w.many;
  written = writes_since o earlier since (kept_history_text wire w.sent w.entries) w.written;
}

first_since : (s : Script) (wire : Bool) (o earlier : Outside) → Since o earlier → ReplaysFirst s wire o → ReplaysFirst s wire earlier
first_since s wire o earlier since r = record {
  history = r.history;
  end = r.end;
  run = run_as s (NotToItsEnd s) no_other r.history r.end o earlier since r.run;
  full = r.full;
  kept = r.kept;
  keep = r.keep;
  loc = r.loc;
  keep_loc = r.keep_loc;
  written = writes_since o earlier since (history_text wire r.history) r.written;
  given = given_since (MissedByTheBank o) (MissedByTheBank earlier) o earlier since (missed_since o earlier since) r.loc r.kept r.given;
}

some_since : (s : Script) (wire : Bool) (o earlier : Outside) → Since o earlier → ReplaysSome s wire o → ReplaysSome s wire earlier
some_since s wire o earlier since r = record {
  history = r.history;
  end = r.end;
  run = run_as s (SomeOfIt s) no_other r.history r.end o earlier since r.run;
  written = writes_since o earlier since (history_text wire r.history) r.written;
  given = those_since (s.servers + 1) o earlier since r.given;
}

whole_since : (o earlier : Outside) → Since o earlier → (t : List ℕ) → WritesAll o t → WritesAll earlier t
whole_since o earlier since t w =
    subst (λ (x : Span (Option (List ℕ))). WritesWhole x earlier.passed earlier.sink_faults t) (sym since.sink)
    (subst (λ (x : Option (List ℕ)). WritesWhole o.sink x earlier.sink_faults t) (sym since.passed) (subst (λ (x : Span ℕ). WritesWhole o.sink o.passed x t) (sym since.sink_faults) w))

front_since : (o earlier : Outside) → Since o earlier → (t : List ℕ) → AppendsFront o.sink.before o.sink.after t → AppendsFront earlier.sink.before earlier.sink.after t
front_since o earlier since t w = subst (λ (x : Span (Option (List ℕ))). AppendsFront x.before x.after t) (sym since.sink) w

unwritten_since : (o earlier : Outside) → Since o earlier → IsUnchanged o.sink → IsUnchanged earlier.sink
unwritten_since o earlier since w = subst (λ (x : Span (Option (List ℕ))). IsUnchanged x) (sym since.sink) w

disk_since : (i : ℕ) (o earlier : Outside) → Since o earlier → RoseBy 1 (o.disk_faults i) → RoseBy 1 (earlier.disk_faults i)
disk_since i o earlier since rose = subst (λ (x : Span ℕ). RoseBy 1 x) (sym (since.disk_faults i)) rose

still_since : (i : ℕ) (o earlier : Outside) → Since o earlier → DidNotRise (o.disk_faults i) → DidNotRise (earlier.disk_faults i)
still_since i o earlier since still = subst (λ (x : Span ℕ). DidNotRise x) (sym (since.disk_faults i)) still

unread_since : (s : Script) (wire : Bool) (server : ℕ) (o earlier : Outside) → Since o earlier → ReplaysUnread s wire server o → ReplaysUnread s wire server earlier
unread_since s wire server o earlier since r = record {
  history = r.history;
  end = r.end;
  run = run_as s (ToItsEnd s) (one_other server) r.history r.end o earlier since r.run;
  written = writes_since o earlier since (history_text wire r.history) r.written;
  given = those_since (s.servers + 1) o earlier since r.given;
}

bank_fault_since : (s : Script) (wire : Bool) (tells tells_too left left_too : Type 0) (o earlier : Outside) → Since o earlier → (tells_too → tells) → (left → left_too) → AtBankFault s wire tells left o → AtBankFault s wire tells_too left_too earlier
bank_fault_since s wire tells tells_too left left_too o earlier since t l (inl h) =
    inl (record {
      node = h.node;
      has = h.has;
      rose = disk_since h.node o earlier since h.rose;
      alone = λ i other. still_since i o earlier since (h.alone i other);
      written = unwritten_since o earlier since h.written;
      only_set_up = l h.only_set_up;
    })
bank_fault_since s wire tells tells_too left left_too o earlier since t l (inr (inl h)) =
    inr (inl (record {
      server = h.server;
      has = h.has;
      rose = disk_since h.server o earlier since h.rose;
      written = entries_since _ wire o earlier since h.written;
      told = λ x. unread_since s wire h.server o earlier since (h.told (t x));
    }))
bank_fault_since s wire tells tells_too left left_too o earlier since t l (inr (inr h)) =
    inr (inr (record {
      rose = bank_since o earlier since h.rose;
      written = run_since s wire _ _ (whole_since o earlier since) h.written;
      told = λ x. replays_since s wire _ _ _ _ o earlier since (whole_since o earlier since) (missed_since o earlier since) (h.told (t x));
    }))

pub ends_since : (s : Script) (wire : Bool) (tells tells_too left left_too : Type 0) (o earlier : Outside) (status : Status) → Since o earlier → (tells_too → tells) → (left → left_too) → EndsRun s wire tells left o status → EndsRun s wire tells_too left_too earlier status
ends_since s wire tells tells_too left left_too o earlier statuses.Done since t l h =
    record {
      quiet = quiet_since o earlier since h.quiet;
      written = run_since s wire _ _ (whole_since o earlier since) h.written;
      told = λ x. replays_since s wire _ _ _ _ o earlier since (whole_since o earlier since) (λ missing none. none) (h.told (t x));
    }
ends_since s wire tells tells_too left left_too o earlier statuses.WriteFault since t l h =
    record {
      rose = subst (λ (x : Span ℕ). RoseBy 1 x) (sym since.sink_faults) h.rose;
      written = run_since s wire _ _ (front_since o earlier since) h.written;
      told = λ x. replays_since s wire _ _ _ _ o earlier since (front_since o earlier since) (missed_since o earlier since) (h.told (t x));
    }
ends_since s wire tells tells_too left left_too o earlier statuses.BankFault since t l h = bank_fault_since s wire tells tells_too left left_too o earlier since t l h
ends_since s wire tells tells_too left left_too o earlier statuses.OutOfMemory since t l (inl h) = inl (record { quiet = λ i. still_since i o earlier since (h.quiet i); written = unwritten_since o earlier since h.written; only_set_up = l h.only_set_up })
ends_since s wire tells tells_too left left_too o earlier statuses.OutOfMemory since t l (inr h) = inr (record { written = entries_since _ wire o earlier since h.written; told = λ x. some_since s wire o earlier since (h.told (t x)) })
ends_since s wire tells tells_too left left_too o earlier statuses.Limit since t l h = record { written = entries_since _ wire o earlier since h.written; told = λ x. first_since s wire o earlier since (h.told (t x)) }
ends_since s wire tells tells_too left left_too o earlier statuses.Usage since t l h = absurd h
ends_since s wire tells tells_too left left_too o earlier (statuses.Script line reason) since t l h = absurd h
ends_since s wire tells tells_too left left_too o earlier statuses.ReadFault since t l h = absurd h

lent_since : {D : Type 0} (seen : D → Option (List ℕ)) (ls : List (Lent D)) (o earlier : Outside) → Since o earlier → GivesBackLent seen 0 ls o → GivesBackLent seen 0 ls earlier
lent_since {D} seen ls o earlier since back = (back.0, (subst (λ (x : Span Given). GivesBackBut seen back.0 ls x.before x.after) (sym since.given) back.1.0, missed_since o earlier since (0 + back.0) back.1.1))

pub left_since : {D : Type 0} (seen : D → Option (List ℕ)) (may_leave : D → List ℕ → Type 0) (faults : D → ℕ) (s : Script) (o earlier : Outside) → Since o earlier → SetUpLeaves seen may_leave faults s o → SetUpLeaves seen may_leave faults s earlier
left_since {D} seen may_leave faults s o earlier since l = record {
  lent = l.lent;
  unused = l.unused;
  back = l.back;
  counted = l.counted;
  are = l.are;
  failed = l.failed;
  left = l.left;
  given = lent_since seen l.back o earlier since l.given;
}

-- ---- what was lent

-- No further disk was lent: so many were, and they went back.
pub lending_fails : (s : Script) (place : Place) (Unlent : ℕ → ℕ → Type 0) (fault : LendFault) (n : ℕ) (o : Outside) (result status : Status) → n < s.servers + 1 → o.lends.after ≡ option_map (λ ls. ls ++ lends place s.capacity 0 n) o.lends.before
    → IsUnchanged o.sink → (fault ≡ lending.Failed → RoseBy 1 o.bank_faults) → (fault ≡ lending.Failed → Unlent 1 n) → (fault ≡ lending.OutOfMemory → Unlent 0 n) → result ≡ status → status ≡ lend_status fault → LendingFails s place Unlent o result
lending_fails s place Unlent lending.Failed n o result status fewer lent unwritten cause failed ran_out is meant =
    subst (λ (x : Status). LendingFails s place Unlent o x) (sym (is ∙ meant)) (record { count = n; fewer = fewer; lent = lent; written = unwritten; why = cause refl; back = failed refl })
lending_fails s place Unlent lending.OutOfMemory n o result status fewer lent unwritten cause failed ran_out is meant =
    subst (λ (x : Status). LendingFails s place Unlent o x) (sym (is ∙ meant)) (record { count = n; fewer = fewer; lent = lent; written = unwritten; why = tt; back = ran_out refl })

pub not_lent : (s : Script) (wire : Bool) (place : Place) (tells left : Type 0) (Unlent : ℕ → ℕ → Type 0) (fault : LendFault) (n : ℕ) (o : Outside) (result status : Status) → n < s.servers + 1 → o.lends.after ≡ option_map (λ ls. ls ++ lends place s.capacity 0 n) o.lends.before
    → IsUnchanged o.sink → (fault ≡ lending.Failed → RoseBy 1 o.bank_faults) → (fault ≡ lending.Failed → Unlent 1 n) → (fault ≡ lending.OutOfMemory → Unlent 0 n) → result ≡ status → status ≡ lend_status fault → EndsReplay s wire place tells left Unlent o result
not_lent s wire place tells left Unlent fault n o result status fewer lent unwritten cause failed ran_out is meant = record { how = inl (lending_fails s place Unlent fault n o result status fewer lent unwritten cause failed ran_out is meant) }

-- so many calls failed, and then so many others
both_failed : (n m b0 b1 b2 : ℕ) → b1 ≤ b2 → HasFailed n b0 b1 → HasFailed m b1 b2 → HasFailed (n + m) b0 b2
both_failed n m b0 b1 b2 falls first second = (rose first.0 second.0, λ none. quiet (omega (arith, none)) (omega (arith, none))) where
  rose : (b0 + n ≤ b1) ⊎ (last_of_counter ≤ b1) → (b1 + m ≤ b2) ⊎ (last_of_counter ≤ b2) → (b0 + (n + m) ≤ b2) ⊎ (last_of_counter ≤ b2)
  rose (inl before) (inl more) = inl (omega (arith, before, more))
  rose (inl before) (inr full) = inr full
  rose (inr full) more = inr (omega (arith, full, falls))

  quiet : n ≡ 0 → m ≡ 0 → b2 ≡ b0
  quiet none_first none_second = second.1 none_second ∙ first.1 none_first

-- those that were lent came back unused
pub leaves_lent : {D : Type 0} (seen : D → Option (List ℕ)) (faults limit : D → ℕ) (s : Script) (sink : Span (Option (List ℕ))) (passed : Option (List ℕ)) (lent : Span (Option (List Lend))) (g0 g1 g2 : Given) (sink_faults : Span ℕ) (b0 b1 b2 : ℕ) (disk_faults : ℕ → Span ℕ) (lends_failed : ℕ) (ls : List (Lent D))
    → AreLent limit s.capacity 0 ls → AreUnused faults ls → g1 ≡ g0 → HasFailed lends_failed b0 b1 → b1 ≤ b2 → GoBack seen ls g1 g2 b1 b2
    → LendingLeaves seen faults limit s (record { sink = sink; passed = passed; lends = lent; given = span g0 g2; sink_faults = sink_faults; bank_faults = span b0 b2; disk_faults = disk_faults }) lends_failed (length ls)
leaves_lent {D} seen faults limit s sink passed lent g0 g1 g2 sink_faults b0 b1 b2 disk_faults lends_failed ls are unused same failed falls back = record {
  lent = ls;
  counted = refl;
  are = are;
  unused = unused;
  given = (back.missing, (subst (λ (x : Given). GivesBackBut seen back.missing ls x g2) same back.given, both_failed lends_failed back.missing b0 b1 b2 falls failed back.failed));
}

-- a lend failed, or none
pub one_failed : (b0 b1 : ℕ) → Rose b0 b1 → b0 ≤ b1 → HasFailed 1 b0 b1
one_failed b0 b1 rose never_falls = (rose_once b0 b1 rose never_falls, λ none. absurd (omega (arith, none)))

pub none_failed : (b0 b1 : ℕ) → b1 ≡ b0 → HasFailed 0 b0 b1
none_failed b0 b1 quiet = (inl (omega (arith, quiet)), λ none. quiet)

-- what was lent, and the bank's count, after the disks went back
pub lent_before : (place : Place) (capacity n : ℕ) (l0 l1 l2 : Option (List Lend)) → l1 ≡ option_map (λ ls. ls ++ lends place capacity 0 n) l0 → l2 ≡ l1 → l2 ≡ option_map (λ ls. ls ++ lends place capacity 0 n) l0
lent_before place capacity n l0 l1 l2 some same = same ∙ some

pub rose_before : (b0 b1 b2 : ℕ) → Rose b0 b1 → b0 ≤ b1 → b1 ≤ b2 → RoseBy 1 (span b0 b2)
rose_before b0 b1 b2 rose never_falls falls = rose_once b0 b2 (rose_on rose) (omega (arith, never_falls, falls)) where
  rose_on : Rose b0 b1 → Rose b0 b2
  rose_on (inl more) = inl (omega (arith, more, falls))
  rose_on (inr full) = inr full

-- The script's replay over the disks that were lent is its replay.
pub replayed : {D : Type 0} (seen : D → Option (List ℕ)) (may_leave : D → List ℕ → Type 0) (faults : D → ℕ) (s : Script) (wire : Bool) (place : Place) (tells tells_too : Type 0) (Unlent : ℕ → ℕ → Type 0) (sink : Span (Option (List ℕ))) (passed : Option (List ℕ)) (sink_faults : Span ℕ) (l0 l1 l2 : Option (List Lend)) (g0 g1 g2 : Given) (b0 b1 b2 : ℕ) (d0 d1 d2 : ℕ → ℕ) (status : Status)
    → (tells_too → tells) → l1 ≡ option_map (λ ls. ls ++ lends_of s place) l0 → l2 ≡ l1 → g1 ≡ g0 → ((n : ℕ) → d1 n ≡ d0 n) → b1 ≡ b0
    → EndsRun s wire tells (SetUpLeaves seen may_leave faults s (record { sink = sink; passed = passed; lends = span l1 l2; given = span g1 g2; sink_faults = sink_faults; bank_faults = span b1 b2; disk_faults = λ (n : ℕ). span (d1 n) (d2 n) })) (record { sink = sink; passed = passed; lends = span l1 l2; given = span g1 g2; sink_faults = sink_faults; bank_faults = span b1 b2; disk_faults = λ (n : ℕ). span (d1 n) (d2 n) }) status
    → EndsReplay s wire place tells_too (SetUpLeaves seen may_leave faults s (record { sink = sink; passed = passed; lends = span l0 l2; given = span g0 g2; sink_faults = sink_faults; bank_faults = span b0 b2; disk_faults = λ (n : ℕ). span (d0 n) (d2 n) })) Unlent (record { sink = sink; passed = passed; lends = span l0 l2; given = span g0 g2; sink_faults = sink_faults; bank_faults = span b0 b2; disk_faults = λ (n : ℕ). span (d0 n) (d2 n) }) status
replayed {D} seen may_leave faults s wire place tells tells_too Unlent sink passed sink_faults l0 l1 l2 g0 g1 g2 b0 b1 b2 d0 d1 d2 status tell all lent given counts quiet run =
    let o : Outside = record { sink = sink; passed = passed; lends = span l1 l2; given = span g1 g2; sink_faults = sink_faults; bank_faults = span b1 b2; disk_faults = λ (n : ℕ). span (d1 n) (d2 n) } in
    let earlier : Outside = record { sink = sink; passed = passed; lends = span l0 l2; given = span g0 g2; sink_faults = sink_faults; bank_faults = span b0 b2; disk_faults = λ (n : ℕ). span (d0 n) (d2 n) } in
    let since : Since o earlier = since_lent sink passed sink_faults (span l1 l2) (span l0 l2) g0 g1 g2 b0 b1 b2 d0 d1 d2 given counts quiet in
    record {
      how = inr (lent ∙ all, ends_since s wire tells tells_too (SetUpLeaves seen may_leave faults s o) (SetUpLeaves seen may_leave faults s earlier) o earlier status since tell (left_since seen may_leave faults s o earlier since) run);
    }

-- A world of this script ended so; so did what was played on these disks.
pub played_on : (s played : Script) (wire : Bool) (tells tells_too left : Type 0) (o : Outside) (status : Status) → played ≡ s → (tells_too → tells) → EndsRun played wire tells ⊥ o status → EndsRun s wire tells_too left o status
played_on s played wire tells tells_too left o status same tell run =
    ends_since s wire tells tells_too ⊥ left o o status (since_same o) tell (λ none. absurd none) (subst (λ (x : Script). EndsRun x wire tells ⊥ o status) same run)

-- the disks that set-up handed back went back to the bank
pub refused_of : {D : Type 0} (seen : D → Option (List ℕ)) (may_leave : D → List ℕ → Type 0) (faults : D → ℕ) (s : Script) (wire : Bool) (tells : Type 0) (disks : List (Lent D)) (fault : SetupFault) (back : List (Lent D)) (o : Outside) (result status : Status)
    → AreUnused faults disks → IsRefused faults 0 disks (fault, back) → AreAllLeft seen may_leave s disks back → AreOfNodes 0 back × (length back ≡ s.servers + 1) → IsUnchanged o.sink
    → GoBack seen back o.given.before o.given.after o.bank_faults.before o.bank_faults.after → ((n : ℕ) → (o.disk_faults n).after ≡ with_faults faults back n (o.disk_faults n).before) → o.bank_faults.before ≤ o.bank_faults.after → result ≡ status → status ≡ set_up_status fault
    → EndsRun s wire tells (SetUpLeaves seen may_leave faults s o) o result
refused_of {D} seen may_leave faults s wire tells disks fault back o result status unused refused left whose unwritten goes counts never_falls is meant =
    subst (λ (x : Status). EndsRun s wire tells (SetUpLeaves seen may_leave faults s o) o x) (sym (is ∙ meant))
    (not_set_up seen may_leave faults s wire tells disks (fault, back) o unused refused left whose unwritten (record { back = goes; counts = counts; never_falls = never_falls }))

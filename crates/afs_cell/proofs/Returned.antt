-- Where a world that was played ends, by what its parts promise.
use Rattle.std.specs.Prelude.{◌≡◌, ◌≤◌, ◌⊎◌, ℕ, suc, ◌+◌, List, [], ◌∷◌, length, map, Bool, false, Option, Result, OnOk, OnErr}
use Rattle.std.proofs.Common.{refl, ap, sym, subst, inr, arith}
use Rattle.std.proofs.lemmas.List.{length-append}
use Rattle.afs_num.specs.declared.devices.Failed as bank
use Rattle.spec_history.specs.declared.scripts.Script.{Script}
use Rattle.afs_disk.specs.Disk.{Rose}
use Rattle.afs_disk.specs.declared.disks.Lent.{Lent}
use Rattle.afs_outside.specs.declared.outside.Failed.{Failed}
use Rattle.afs_text.specs.FinalText.{final_text}
use Rattle.afs_volstore.specs.Stores.{Store}
use Rattle.afs_cell.specs.Since.{whole, StandsSince}
use Rattle.afs_cell.specs.Steps.{AreStanding, HasPlayedAll, HasPlayedFirst, HasPlayedSome}
use Rattle.afs_cell.specs.Lends.{disks_of, lent_from}
use Rattle.afs_host.specs.LocSeated.{loc_seat_disk}
use Rattle.afs_cell.specs.Worlds.{most_history_entries, AllTell, HistoryTold, IsWorld, WorldState}
use Rattle.afs_final.specs.Reading.{fault_in, part, AreFound}
use Rattle.afs_final.specs.declared.reading.Left.{Left}
use Rattle.afs_lending.specs.Lending.{all_kept, with_faults, GivesBackBut, GoBack}
use Rattle.afs_lending.specs.Outside.{Outside, Writes}
use Rattle.afs_lending.specs.Parts.{returned, TellsLeft}
use Rattle.afs_cell.specs.Writing.{world_text, IsWritten}
use Rattle.afs_cell.specs.Replays.{EndsRun, IsFew, WritesEntries}
use Rattle.afs_command.specs.declared.statuses.Status.{Status}
use Rattle.afs_command.specs.declared.statuses.Status.TheVariants as statuses
use Rattle.afs_cell.proofs.Ended.{all_played, ended, entries_of, stopped, was_cut, GoesBack, HasEnded}
use Rattle.afs_cell.proofs.RunEnds.{lent_length}

-- ---- the disks that were read

found_length : {D : Type 0} (seen : D → Option (List ℕ)) (faults limit : D → ℕ) (ls : List (Lent D)) (fs : List (Left (Store D) D)) → AreFound seen faults limit ls fs → length fs ≡ length ls
found_length {D} seen faults limit [] [] found = refl
found_length {D} seen faults limit [] (f ∷ fs) found = absurd found
found_length {D} seen faults limit (l ∷ ls) [] found = absurd found
found_length {D} seen faults limit (l ∷ ls) (f ∷ fs) found = ap suc (found_length seen faults limit ls fs found.1)

pub few_left : {D : Type 0} (seen : D → Option (List ℕ)) (may_leave : D → List ℕ → Type 0) (faults limit : D → ℕ) (s : Script) (w : WorldState D) (fs : List (Left (Store D) D)) → IsWorld seen may_leave faults limit s w → AreFound seen faults limit (lent_from 1 w.servers) fs → length fs ≤ 8
few_left {D} seen may_leave faults limit s w fs is found = omega (arith, found_length seen faults limit (lent_from 1 w.servers) fs found, lent_length 1 w.servers, is.safe.server_count, is.safe.cell_script.servers.1)

-- ---- the world ends

-- what the end of a world promises, together with what was let go of it
pub record IsOver {D : Type 0} (seen : D → Option (List ℕ)) (may_leave : D → List ℕ → Type 0) (limit : D → ℕ) (w : WorldState D) (disks : List (Lent D)) : Type 0 where
  pub are : disks ≡ disks_of w
  pub standing : StandsSince seen may_leave limit w disks

pub has_ended : {D : Type 0} (seen : D → Option (List ℕ)) (may_leave : D → List ℕ → Type 0) (faults limit : D → ℕ) (wire : Bool) (start : Option (List ℕ)) (count : ℕ) (gone : HistoryTold) (w : WorldState D) (now : Option (List ℕ)) (counted : ℕ) (written : Result (Unit {0}) Failed) (disks : List (Lent D))
    → w.is_lost ≡ false → IsWritten seen may_leave faults limit wire start count gone w now counted written → IsOver seen may_leave limit w disks → HasEnded seen may_leave faults limit w.script (whole gone w)
has_ended {D} seen may_leave faults limit wire start count gone w now counted written disks going told over = record {
  world = told.world;
  going = going;
  standing = λ tells c is. subst (λ (ls : List (Lent D)). AreStanding seen limit c ls) over.are (over.standing going gone told.is told.world.safe c is);
}

module _ {D : Type 0} (seen : D → Option (List ℕ)) (may_leave : D → List ℕ → Type 0) (faults limit : D → ℕ) (wire : Bool) (start : Option (List ℕ)) (count : ℕ) (gone : HistoryTold) (w : WorldState D) (now : Option (List ℕ)) (counted : ℕ) (written : Result (Unit {0}) Failed) (disks : List (Lent D)) (o : Outside)
    (told : IsWritten seen may_leave faults limit wire start count gone w now counted written) where
  -- played to its end, and what the servers' disks keep was read
  pub end_of : (d : D) (fs : List (Left (Store D) D)) (status result : Status) (taken : Result (Unit {0}) bank.Failed) → w.is_lost ≡ false → IsOver seen may_leave limit w disks → d ≡ loc_seat_disk w.database → AreFound seen faults limit (lent_from 1 w.servers) fs
      → TellsLeft written (world_text wire (whole gone w)) (final_text (map part fs)) (fault_in fs) o.sink o.passed o.sink_faults status
      → OnOk taken (GivesBackBut seen 0 (all_kept d fs) o.given.before o.given.after) → OnOk taken (o.bank_faults.after ≡ o.bank_faults.before) → OnErr taken (Rose o.bank_faults.before o.bank_faults.after)
      → GoBack seen (all_kept d fs) o.given.before o.given.after o.bank_faults.before o.bank_faults.after
      → ((n : ℕ) → (o.disk_faults n).after ≡ with_faults faults (all_kept d fs) n (o.disk_faults n).before) → o.bank_faults.before ≤ o.bank_faults.after → result ≡ returned status taken
      → EndsRun w.script wire (AllTell seen w × HasPlayedAll seen may_leave faults limit w.script (whole gone w)) ⊥ o result
  end_of d fs status result taken going over same found tells all quiet cause goes counts never_falls are =
      let is = has_ended seen may_leave faults limit wire start count gone w now counted written disks going told over in
      let back : GoesBack seen faults (all_kept (loc_seat_disk w.database) fs) o = subst (λ (x : D). GoesBack seen faults (all_kept x fs) o) same (record { back = goes; counts = counts; never_falls = never_falls }) in
      let all_here = subst (λ (x : D). OnOk taken (GivesBackBut seen 0 (all_kept x fs) o.given.before o.given.after)) same all in
      subst (λ (x : Status). EndsRun w.script wire (AllTell seen w × HasPlayedAll seen may_leave faults limit w.script (whole gone w)) ⊥ o x) (sym are) (ended seen may_leave faults limit w.script (whole gone w) fs wire o written status taken is found tells all_here quiet cause back)

  -- what was written stands there, and the disks go back
  module _ (goes : GoBack seen disks o.given.before o.given.after o.bank_faults.before o.bank_faults.after) (counts : (n : ℕ) → (o.disk_faults n).after ≡ with_faults faults disks n (o.disk_faults n).before)
      (never_falls : o.bank_faults.before ≤ o.bank_faults.after) (over : IsOver seen may_leave limit w disks) (writes : Writes o (world_text wire (whole gone w))) (result : Status) where
    gone_back : GoesBack seen faults (disks_of w) o
    gone_back = subst (λ (ls : List (Lent D)). GoesBack seen faults ls o) over.are (record { back = goes; counts = counts; never_falls = never_falls })

    entries : WritesEntries IsFew wire o
    entries = entries_of seen may_leave faults limit w.script (whole gone w) IsFew wire o told.world told.world.safe.entries writes

    full_by : w.gone.entries + length w.history ≡ most_history_entries → length (whole gone w).history ≡ most_history_entries
    full_by full = omega (arith, full, told.is.entries, length-append gone.history w.history)

    -- its history was full before its end
    pub cut_of : w.is_lost ≡ false → w.gone.entries + length w.history ≡ most_history_entries → result ≡ statuses.Limit → EndsRun w.script wire (AllTell seen w × HasPlayedFirst seen may_leave faults limit w.script (whole gone w)) ⊥ o result
    cut_of going full are =
        subst (λ (x : Status). EndsRun w.script wire (AllTell seen w × HasPlayedFirst seen may_leave faults limit w.script (whole gone w)) ⊥ o x) (sym are)
        (was_cut seen may_leave faults limit w.script (whole gone w) wire o (has_ended seen may_leave faults limit wire start count gone w now counted written disks going told over) (full_by full) writes gone_back)

    -- memory ran out
    pub stopped_of : result ≡ statuses.OutOfMemory → EndsRun w.script wire (AllTell seen w × HasPlayedSome seen may_leave faults limit w.script (whole gone w)) ⊥ o result
    stopped_of are =
        subst (λ (x : Status). EndsRun w.script wire (AllTell seen w × HasPlayedSome seen may_leave faults limit w.script (whole gone w)) ⊥ o x) (sym are)
        (inr (record { written = entries; told = λ p. stopped seen may_leave faults limit w.script (whole gone w) wire o told.world writes gone_back p }))

    -- so it was for its disks
    pub unread_of : result ≡ statuses.OutOfMemory → EndsRun w.script wire (AllTell seen w × HasPlayedAll seen may_leave faults limit w.script (whole gone w)) ⊥ o result
    unread_of are =
        subst (λ (x : Status). EndsRun w.script wire (AllTell seen w × HasPlayedAll seen may_leave faults limit w.script (whole gone w)) ⊥ o x) (sym are)
        (inr (record { written = entries; told = λ p. stopped seen may_leave faults limit w.script (whole gone w) wire o told.world writes gone_back (all_played seen may_leave faults limit w.script (whole gone w) p) }))

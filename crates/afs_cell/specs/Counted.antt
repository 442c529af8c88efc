-- How a made script is played: its history is counted, and nothing is written but its summary at the end.
use Rattle.std.specs.Prelude.{◌≡◌, ◌≤◌, ℕ, List, [], ◌++◌, length, false, Option, Some, None}
use Rattle.spec_history.specs.declared.scripts.Script.{Script}
use Rattle.afs_outside.specs.Outside.{AppendsFront}
use Rattle.afs_schedule.specs.Settled.{places_settled}
use Rattle.afs_schedule.specs.declared.schedule.Schedule.{Schedule}
use Rattle.afs_command.specs.Spans.{IsUnchanged, RoseBy, Span}
use Rattle.afs_command.specs.declared.statuses.Status.{Status}
use Rattle.afs_command.specs.declared.statuses.Status.TheVariants as statuses
use Rattle.afs_lending.specs.Lending.{with_faults, GivesBackBut, GoBack}
use Rattle.afs_lending.specs.Outside.{Outside, WritesAll, WritesWhole}
use Rattle.afs_summary.specs.Counting.{AreCounted}
use Rattle.afs_summary.specs.Summary.{summary_text}
use Rattle.afs_summary.specs.declared.counts.Counts.{Counts}
use Rattle.afs_cell.specs.Lends.{disks_of}
use Rattle.afs_cell.specs.Since.{whole, IsBefore, StandsSince}
use Rattle.afs_cell.specs.Steps.{HasPlayedAll, HasPlayedFirst, HasPlayedSome}
use Rattle.afs_cell.specs.UnderWay.{IsUnderWay}
use Rattle.afs_cell.specs.Worlds.{most_history_entries, AllTell, HistoryTold, IsWorld, WorldState}
use Rattle.afs_cell.specs.declared.made.Counted.{Counted}
use Rattle.afs_cell.specs.declared.made.Ended.{Ended}
use Rattle.afs_cell.specs.declared.made.Ended.TheVariants as ended

-- ---- the play

-- A schedule under way: the entries that came so far are counted, and let go. The disks tell as the first ones did.
pub record CountsOn {D : Type 0} (seen : D → Option (List ℕ)) (may_leave : D → List ℕ → Type 0) (faults limit : D → ℕ) (s : Script) (tells : Type 0) (w : WorldState D) (schedule : Schedule) (counts : Option Counts) : Type 0 where
  pub script : w.script ≡ s
  pub gone : HistoryTold
  pub is : IsBefore gone w
  pub way : IsUnderWay seen may_leave faults limit w.script (whole gone w) schedule
  pub none : w.history ≡ []
  pub kept : w.gone.messages ≤ places_settled schedule
  pub tell : tells → AllTell seen w
  pub counted : AreCounted counts gone.history

-- how far it was played, where its disks tell
abbrev pub EndsAs : {D : Type 0} → (D → Option (List ℕ)) → (D → List ℕ → Type 0) → (D → ℕ) → (D → ℕ) → Script → Type 0 → Ended → WorldState D → Type 0
EndsAs {D} seen may_leave faults limit s tells ended.All w = (w.is_lost ≡ false) × (tells → AllTell seen w × HasPlayedAll seen may_leave faults limit s w)
EndsAs {D} seen may_leave faults limit s tells ended.Limit w = (w.is_lost ≡ false) × ((length w.history ≡ most_history_entries) × (tells → AllTell seen w × HasPlayedFirst seen may_leave faults limit s w))
EndsAs {D} seen may_leave faults limit s tells ended.OutOfMemory w = tells → AllTell seen w × HasPlayedSome seen may_leave faults limit s w

-- The script was played so, and the whole history is counted.
pub record IsCounted {D : Type 0} (seen : D → Option (List ℕ)) (may_leave : D → List ℕ → Type 0) (faults limit : D → ℕ) (s : Script) (tells : Type 0) (c : Counted (WorldState D)) : Type 0 where
  pub gone : HistoryTold
  pub is : IsBefore gone c.world
  pub world : IsWorld seen may_leave faults limit s (whole gone c.world)
  pub ended : EndsAs seen may_leave faults limit s tells c.ended (whole gone c.world)
  pub counted : AreCounted c.counts (gone.history ++ c.world.history)

-- ---- its end

-- a text was written and passed on; or the sink failed, and a beginning of it was written
abbrev pub Sums : List ℕ → Span (Option (List ℕ)) → Option (List ℕ) → Span ℕ → Status → Type 0
Sums text sink passed faults statuses.Done = WritesWhole sink passed faults text
Sums text sink passed faults statuses.WriteFault = RoseBy 1 faults × AppendsFront sink.before sink.after text
Sums text sink passed faults status = ⊥

-- The disks of the world went back, as it had them, and stand for what its cell keeps.
pub record IsLeftBehind {D : Type 0} (seen : D → Option (List ℕ)) (may_leave : D → List ℕ → Type 0) (faults limit : D → ℕ) (w : WorldState D) (given : Span (Option (List (ℕ × List ℕ)))) (bank_faults : Span ℕ) (disk_faults : ℕ → Span ℕ) : Type 0 where
  pub standing : StandsSince seen may_leave limit w (disks_of w)
  pub back : GoBack seen (disks_of w) given.before given.after bank_faults.before bank_faults.after
  pub counts : (n : ℕ) → (disk_faults n).after ≡ with_faults faults (disks_of w) n (disk_faults n).before
  pub never_falls : bank_faults.before ≤ bank_faults.after

-- The text was written, and all disks went back; or the sink failed, or else the bank.
abbrev pub SumsUp : {D : Type 0} → (D → Option (List ℕ)) → WorldState D → List ℕ → Outside → Status → Type 0
SumsUp {D} seen w text o statuses.Done = WritesAll o text × (IsUnchanged o.bank_faults × GivesBackBut seen 0 (disks_of w) o.given.before o.given.after)
SumsUp {D} seen w text o statuses.WriteFault = RoseBy 1 o.sink_faults × AppendsFront o.sink.before o.sink.after text
SumsUp {D} seen w text o statuses.BankFault = RoseBy 1 o.bank_faults × WritesAll o text
SumsUp {D} seen w text o status = ⊥

-- What is done where a script was played so, and this was counted: the summary of so many acts is written, and the disks go back; or nothing
-- is written.
abbrev pub FinishesBy : {D : Type 0} → (D → Option (List ℕ)) → ℕ → ℕ → WorldState D → Ended → Option Counts → Outside → Status → Type 0
FinishesBy {D} seen number acts w ended.All (Some counts) o status = SumsUp seen w (summary_text (record { number = number; acts = acts; counts = counts })) o status
FinishesBy {D} seen number acts w ended.All None o status = IsUnchanged o.sink × (status ≡ statuses.OutOfMemory)
FinishesBy {D} seen number acts w ended.Limit counts o status = IsUnchanged o.sink × (status ≡ statuses.Limit)
FinishesBy {D} seen number acts w ended.OutOfMemory counts o status = IsUnchanged o.sink × (status ≡ statuses.OutOfMemory)

abbrev pub Finishes : {D : Type 0} → (D → Option (List ℕ)) → ℕ → ℕ → Counted (WorldState D) → Outside → Status → Type 0
Finishes {D} seen number acts c o status = FinishesBy seen number acts c.world c.ended c.counts o status

-- How the run of a made script ends: its summary is written, and nothing else.
use Rattle.std.specs.Prelude.{◌≡◌, ◌≤◌, ◌⊎◌, ℕ, List, false, Option, None, length}
use Rattle.spec_history.specs.declared.lines.Entry as kept
use Rattle.spec_history.specs.declared.scripts.Script.{Script}
use Rattle.afs_disk.specs.declared.bank.Place.TheVariants.{Memory}
use Rattle.afs_outside.specs.Outside.{AppendsFront}
use Rattle.spec_records.specs.Durable.{Durable}
use Rattle.spec_records.specs.LocDurable.{LocDurable}
use Rattle.spec_rows.specs.Runs.{Entry}
use Rattle.spec_runs.specs.NodeRuns.{NodeCell}
use Rattle.afs_command.specs.Spans.{span, IsUnchanged, RoseBy}
use Rattle.afs_command.specs.declared.statuses.Status.{Status}
use Rattle.afs_command.specs.declared.statuses.Status.TheVariants as statuses
use Rattle.afs_lending.specs.Outside.{Outside, WritesAll}
use Rattle.afs_summary.specs.Summary.{kept_summary, summary}
use Rattle.afs_cell.specs.Replays.{no_other, AtLimit, AtOutOfMemory, GivesBack, IsRun, LendingFails, LendsAll, MayKeep, MissedByTheBank, NoneIsMissing, SettingUpFails, ToItsEnd}
use Rattle.afs_cell.specs.Steps.{MayBeReadAtLoc}
use Rattle.afs_cell.specs.Worlds.{most_history_entries}

-- what is done outside, but for the sink
abbrev pub unseen : Outside → Outside
unseen o = record o { sink = span None None; passed = None; sink_faults = span 0 0 }

-- The script was played to its end. What was written is the summary of its history, or a beginning of it; and the disks that were given
-- back stand for what that history leaves.
pub record IsSummed (number : ℕ) (s : Script) (Writes : List ℕ → Type 0) (MayBeMissing : ℕ → Type 0) (o : Outside) : Type 0 where
  pub history : List Entry
  pub end : NodeCell
  pub run : IsRun s (ToItsEnd s) no_other o.disk_faults history end
  pub kept : List Durable
  pub keep : MayKeep end 1 kept
  pub loc : LocDurable
  pub keep_loc : MayBeReadAtLoc end loc
  pub written : Writes (summary number s history)
  pub given : GivesBack MayBeMissing loc kept o.given.before o.given.after

-- whatever the disks tell: the summary is that of some entries
pub record SumsEntries (number : ℕ) (s : Script) (Writes : List ℕ → Type 0) : Type 0 where
  pub entries : List kept.Entry
  pub few : length entries ≤ most_history_entries
  pub written : Writes (kept_summary number s entries)

-- All is done: the summary was written and passed on, and each disk given back; neither the sink nor the bank failed.
pub record AtDone (number : ℕ) (s : Script) (tells : Type 0) (o : Outside) : Type 0 where
  pub quiet : IsUnchanged o.bank_faults
  pub written : SumsEntries number s (WritesAll o)
  pub told : tells → IsSummed number s (WritesAll o) NoneIsMissing o

-- the sink failed: a beginning of the summary was written; a disk is missing only where the bank failed too
pub record AtWriteFault (number : ℕ) (s : Script) (tells : Type 0) (o : Outside) : Type 0 where
  pub rose : RoseBy 1 o.sink_faults
  pub written : SumsEntries number s (AppendsFront o.sink.before o.sink.after)
  pub told : tells → IsSummed number s (AppendsFront o.sink.before o.sink.after) (MissedByTheBank o) o

-- a disk wasn't taken back: all else is done
pub record ReturningFails (number : ℕ) (s : Script) (tells : Type 0) (o : Outside) : Type 0 where
  pub rose : RoseBy 1 o.bank_faults
  pub written : SumsEntries number s (WritesAll o)
  pub told : tells → IsSummed number s (WritesAll o) (MissedByTheBank o) o

-- Over the disks of all servers, by its status; no other comes of it. Where memory ran out, or the history was full, nothing was written,
-- and all else is as where a replay ends so over a sink that tells nothing. No disk is read at the end.
abbrev pub EndsRunMade : ℕ → Script → Type 0 → Type 0 → Outside → Status → Type 0
EndsRunMade number s tells left o statuses.Done = AtDone number s tells o
EndsRunMade number s tells left o statuses.WriteFault = AtWriteFault number s tells o
EndsRunMade number s tells left o statuses.BankFault = SettingUpFails s left o ⊎ ReturningFails number s tells o
EndsRunMade number s tells left o statuses.OutOfMemory = IsUnchanged o.sink × AtOutOfMemory s false tells left (unseen o)
EndsRunMade number s tells left o statuses.Limit = IsUnchanged o.sink × AtLimit s false tells (unseen o)
EndsRunMade number s tells left o status = ⊥

-- Over disks in memory: not all were lent; or all were, and nothing else, and the run over them ends so.
abbrev pub EndsMade : ℕ → Script → Type 0 → Type 0 → (ℕ → ℕ → Type 0) → Outside → Status → Type 0
EndsMade number s tells left Unlent o status = LendingFails s Memory Unlent o status ⊎ (LendsAll s Memory o × EndsRunMade number s tells left o status)

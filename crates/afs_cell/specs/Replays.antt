-- What a replay of a script promises: what it writes is the text of a history of that, and the disks that it gives back stand for what that
-- history leaves.
use Rattle.std.specs.Prelude.{◌≡◌, ◌≤◌, ◌<◌, ◌⊎◌, ℕ, zero, suc, ◌+◌, List, [], ◌∷◌, ◌++◌, length, Bool, false, nat_eq, if◌then◌else◌, Option, Some, None}
use Rattle.std.specs.Option.{option_map}
use Rattle.afs_num.specs.declared.types.Parcel.{Parcel}
use Rattle.spec_history.specs.declared.lines.Entry as kept
use Rattle.spec_history.specs.declared.scripts.Script.{Script}
use Rattle.afs_disk.specs.declared.bank.Lend.{Lend}
use Rattle.afs_disk.specs.declared.bank.Place.{Place}
use Rattle.afs_disk.specs.declared.disks.Lent.{Lent}
use Rattle.afs_outside.specs.Outside.{AppendsFront}
use Rattle.spec_records.specs.Durable.{Durable}
use Rattle.spec_records.specs.LocDurable.{LocDurable}
use Rattle.afs_volstore.specs.Stands.{StandsForVolumes}
use Rattle.spec_rows.specs.Runs.{Entry}
use Rattle.spec_runs.specs.NodeRuns.{node_start, CellInput, NodeCell, NodeLeads}
use Rattle.afs_text.specs.FinalText.{final_text}
use Rattle.afs_text.specs.HistoryText.{history_text, text}
use Rattle.afs_text.specs.KeptText.{kept_history_text}
use Rattle.afs_text.specs.Telling.{sent_by}
use Rattle.afs_schedule.specs.Schedules.{events_of, first_turn, AreFirst, AreInputs}
use Rattle.afs_cell.specs.Ends.{AreAllLeft, OneRoseAtMost}
use Rattle.afs_cell.specs.Steps.{LocStands, MayBeRead, MayBeReadAtLoc}
use Rattle.afs_cell.specs.Worlds.{most_history_entries, own_falls}
use Rattle.afs_lending.specs.Lending.{lends, AreLent, AreUnused, GivesBackBut}
use Rattle.afs_command.specs.Spans.{IsUnchanged, RoseBy, Span}
use Rattle.afs_lending.specs.Outside.{DidNotRise, Outside, SoManyFailed, Writes, WritesAll}
use Rattle.afs_command.specs.declared.statuses.Status.{Status}
use Rattle.afs_command.specs.declared.statuses.Status.TheVariants as statuses

-- ---- disks

-- At this end of a history the disks of the servers, from this number on, may keep these: from each a server reads the durable part of
-- its server in the cell, and of one that is down the part before the step that was interrupted, or after it.
abbrev pub MayKeep : NodeCell → ℕ → List Durable → Type 0
MayKeep end i [] = i ≡ end.host_count + 1
MayKeep end i (d ∷ ds) = MayBeRead end i d × MayKeep end (i + 1) ds

-- the first of these disks is that of this server and stands for this, and of the others this is so
abbrev pub FirstIsKept : ℕ → Durable → List (ℕ × List ℕ) → (List (ℕ × List ℕ) → Type 0) → Type 0
FirstIsKept i d [] rest = ⊥
FirstIsKept i d (disk ∷ disks) rest = ((disk.0 ≡ i) × StandsForVolumes disk.1 d) × rest disks

-- Each of these disks, by its node and its bytes, stands for what is kept at its server, and they come in order of the servers' numbers,
-- from this one on. Some may be missing.
abbrev pub AreKept : ℕ → List Durable → List (ℕ × List ℕ) → Type 0
AreKept i [] disks = disks ≡ []
AreKept i (d ∷ ds) disks = FirstIsKept i d disks (λ rest. AreKept (i + 1) ds rest) ⊎ AreKept (i + 1) ds disks

-- the first of these disks is that of the location database and stands for this, and of the others this is so
abbrev pub LocIsKept : LocDurable → List (ℕ × List ℕ) → (List (ℕ × List ℕ) → Type 0) → Type 0
LocIsKept d [] rest = ⊥
LocIsKept d (disk ∷ disks) rest = ((disk.0 ≡ 0) × LocStands disk.1 d) × rest disks

-- So it is of all disks: the location database's comes first. It may be missing, too.
abbrev pub AreAllKept : LocDurable → List Durable → List (ℕ × List ℕ) → Type 0
AreAllKept loc ds disks = LocIsKept loc disks (λ rest. AreKept 1 ds rest) ⊎ AreKept 1 ds disks

-- of so many disks these are there, and as many are missing as may be
abbrev pub AreAllBut : (ℕ → Type 0) → ℕ → List (ℕ × List ℕ) → Type 0
AreAllBut MayBeMissing count disks = (missing : ℕ) × ((length disks + missing ≡ count) × MayBeMissing missing)

abbrev pub NoneIsMissing : ℕ → Type 0
NoneIsMissing missing = missing ≡ 0

-- the bank failed as often as a disk is missing, and where none is, it didn't
abbrev pub MissedByTheBank : Outside → ℕ → Type 0
MissedByTheBank o missing = SoManyFailed missing o.bank_faults

-- those are the disks that the bank was given back, where it tells them
abbrev pub GivesBack : (ℕ → Type 0) → LocDurable → List Durable → Option (List (ℕ × List ℕ)) → Option (List (ℕ × List ℕ)) → Type 0
GivesBack MayBeMissing loc kept None after = Unit {0}
GivesBack MayBeMissing loc kept (Some before) after = (disks : List (ℕ × List ℕ)) × ((after ≡ Some (before ++ disks)) × (AreAllKept loc kept disks × AreAllBut MayBeMissing (length kept + 1) disks))

-- the first of these disks is that of this node, whatever it holds, and of the others this is so
abbrev pub FirstIsOf : ℕ → List (ℕ × List ℕ) → (List (ℕ × List ℕ) → Type 0) → Type 0
FirstIsOf i [] rest = ⊥
FirstIsOf i (disk ∷ disks) rest = (disk.0 ≡ i) × rest disks

-- These are disks of so many nodes, in order of number from this one on, whatever they hold. Some may be missing.
abbrev pub AreOf : ℕ → ℕ → List (ℕ × List ℕ) → Type 0
AreOf i zero disks = disks ≡ []
AreOf i (suc more) disks = FirstIsOf i disks (λ rest. AreOf (i + 1) more rest) ⊎ AreOf (i + 1) more disks

-- those of so many nodes, from the location database on, are the disks that the bank was given back, where it tells them
abbrev pub GivesBackThose : (ℕ → Type 0) → ℕ → Option (List (ℕ × List ℕ)) → Option (List (ℕ × List ℕ)) → Type 0
GivesBackThose MayBeMissing count None after = Unit {0}
GivesBackThose MayBeMissing count (Some before) after = (disks : List (ℕ × List ℕ)) × ((after ≡ Some (before ++ disks)) × (AreOf 0 count disks × AreAllBut MayBeMissing count disks))

-- one disk for each node of the script that has one, in order of number, with the script's capacity: first the location database's
abbrev pub lends_of : Script → Place → List Lend
lends_of s place = lends place s.capacity 0 (s.servers + 1)

-- all of them were lent, and nothing else
abbrev pub LendsAll : Script → Place → Outside → Type 0
LendsAll s place o = o.lends.after ≡ option_map (λ ls. ls ++ lends_of s place) o.lends.before

-- These disks were given back, in their order, and nothing else, but for those at which the bank failed; and so many lends had failed.
abbrev pub GivesBackLent : {D : Type 0} → (D → Option (List ℕ)) → ℕ → List (Lent D) → Outside → Type 0
GivesBackLent {D} seen lends_failed lent o = (missing : ℕ) × (GivesBackBut seen missing lent o.given.before o.given.after × SoManyFailed (lends_failed + missing) o.bank_faults)

-- ---- histories

-- the script has a server of this number
abbrev pub IsServerOf : Script → ℕ → Type 0
IsServerOf s i = (1 ≤ i) × (i ≤ s.servers)

-- it has a node with a disk of this number: 0 is the location database
abbrev pub HasDisk : Script → ℕ → Type 0
HasDisk s i = i ≤ s.servers

-- the failures that are none of the history's: there is none, or one of the disk of this server
abbrev pub no_other : ℕ → ℕ
no_other i = 0

abbrev pub one_other : ℕ → ℕ → ℕ
one_other server i = if nat_eq server i then 1 else 0

-- A run of the script: inputs lead from its set-up through this history to this cell, and the schedule was played so far by them. The history
-- has no more entries than one may have. The count of each disk rose by each failure of that disk in it, and by its others.
pub record IsRun (s : Script) (IsSoFar : List CellInput → Type 0) (others : ℕ → ℕ) (disk_faults : ℕ → Span ℕ) (history : List Entry) (end : NodeCell) : Type 0 where
  pub inputs : List CellInput
  pub leads : NodeLeads (node_start s) inputs history end
  pub so_far : IsSoFar inputs
  pub few : length history ≤ most_history_entries
  pub failures : (i : ℕ) → HasDisk s i → RoseBy (own_falls i inputs history + others i) (disk_faults i)

-- The inputs are the events of the script's schedule, one for one, with each drain as its deliveries.
abbrev pub ToItsEnd : Script → List CellInput → Type 0
ToItsEnd s = AreInputs (first_turn s) (events_of s)

-- They are the first of these, and one is left.
abbrev pub NotToItsEnd : Script → List CellInput → Type 0
NotToItsEnd s = AreFirst (first_turn s) (events_of s)

abbrev pub SomeOfIt : Script → List CellInput → Type 0
SomeOfIt s = λ (inputs : List CellInput). AreInputs (first_turn s) (events_of s) inputs ⊎ AreFirst (first_turn s) (events_of s) inputs

-- The script was played to its end. What was written is the text of its history with what the servers' disks keep, all of it or a
-- beginning; and the disks that were given back stand for just that, and for what the location database keeps.
pub record Replays (s : Script) (wire : Bool) (Writes : List ℕ → Type 0) (MayBeMissing : ℕ → Type 0) (o : Outside) : Type 0 where
  pub history : List Entry
  pub end : NodeCell
  pub run : IsRun s (ToItsEnd s) no_other o.disk_faults history end
  pub kept : List Durable
  pub keep : MayKeep end 1 kept
  pub loc : LocDurable
  pub keep_loc : MayBeReadAtLoc end loc
  pub written : Writes (text wire history kept)
  pub given : GivesBack MayBeMissing loc kept o.given.before o.given.after

-- The first events were played, as many as a history may have. The text of their history was written, in which nothing of the final part
-- stands, or where the sink failed, a beginning of it; and the disks that were given back stand for what it leaves.
pub record ReplaysFirst (s : Script) (wire : Bool) (o : Outside) : Type 0 where
  pub history : List Entry
  pub end : NodeCell
  pub run : IsRun s (NotToItsEnd s) no_other o.disk_faults history end
  pub full : length history ≡ most_history_entries
  pub kept : List Durable
  pub keep : MayKeep end 1 kept
  pub loc : LocDurable
  pub keep_loc : MayBeReadAtLoc end loc
  pub written : Writes o (history_text wire history)
  pub given : GivesBack (MissedByTheBank o) loc kept o.given.before o.given.after

-- The first events were played, however many, and the text of their history was written, or where the sink failed, a beginning of it.
-- Nothing of the final part stands there. The disks were given back, whatever they hold.
pub record ReplaysSome (s : Script) (wire : Bool) (o : Outside) : Type 0 where
  pub history : List Entry
  pub end : NodeCell
  pub run : IsRun s (SomeOfIt s) no_other o.disk_faults history end
  pub written : Writes o (history_text wire history)
  pub given : GivesBackThose (MissedByTheBank o) (s.servers + 1) o.given.before o.given.after

-- The script was played to its end, and then the disk of this server failed: that failure is none of the history's. The text of the
-- history was written, without the final part, or where the sink failed, a beginning of it. The disks were given back, whatever they hold.
pub record ReplaysUnread (s : Script) (wire : Bool) (server : ℕ) (o : Outside) : Type 0 where
  pub history : List Entry
  pub end : NodeCell
  pub run : IsRun s (ToItsEnd s) (one_other server) o.disk_faults history end
  pub written : Writes o (history_text wire history)
  pub given : GivesBackThose (MissedByTheBank o) (s.servers + 1) o.given.before o.given.after

-- ---- texts, whatever the disks tell

-- no more entries than a history may have, or just as many
abbrev pub IsFew : ℕ → Type 0
IsFew count = count ≤ most_history_entries

abbrev pub IsFull : ℕ → Type 0
IsFull count = count ≡ most_history_entries

-- The text of so many entries was written, with all messages that they sent, or where the sink failed, a beginning of it. Nothing of the
-- final part stands there.
pub record WritesEntries (IsSoMany : ℕ → Type 0) (wire : Bool) (o : Outside) : Type 0 where
  pub sent : List Parcel
  pub entries : List kept.Entry
  pub all : sent_by entries ≡ length sent
  pub many : IsSoMany (length entries)
  pub written : Writes o (kept_history_text wire sent entries)

-- The text of some entries was written so, with all messages that they sent, and then a final part that tells of each server what its disk
-- keeps.
pub record WritesRun (s : Script) (wire : Bool) (Writes : List ℕ → Type 0) : Type 0 where
  pub sent : List Parcel
  pub entries : List kept.Entry
  pub all : sent_by entries ≡ length sent
  pub few : length entries ≤ most_history_entries
  pub kept : List Durable
  pub each : length kept ≡ s.servers
  pub written : Writes (kept_history_text wire sent entries ++ final_text kept)

-- ---- disks that come back unplayed

-- these disks are those of the nodes from this number on, in order
abbrev pub AreOfNodes : {D : Type 0} → ℕ → List (Lent D) → Type 0
AreOfNodes {D} i [] = Unit {0}
AreOfNodes {D} i (l ∷ ls) = (l.node ≡ i) × AreOfNodes (i + 1) ls

-- What comes back of disks that were lent and set up, but not played: one for each node with a disk, in order of number. No disk had failed when it
-- was lent, and since then one at most has. Where a disk told its bytes, and there were none, it comes back with the record of the script's
-- set-up, or with none. A bank need not lend empty disks.
pub record SetUpLeaves {D : Type 0} (seen : D → Option (List ℕ)) (may_leave : D → List ℕ → Type 0) (faults : D → ℕ) (s : Script) (o : Outside) : Type 0 where
  pub lent : List (Lent D)
  pub unused : AreUnused faults lent
  pub back : List (Lent D)
  pub counted : length back ≡ s.servers + 1
  pub are : AreOfNodes 0 back
  pub failed : OneRoseAtMost faults lent back
  pub left : AreAllLeft seen may_leave s lent back
  pub given : GivesBackLent seen 0 back o

-- What comes back where no further disk was lent, after so many lends had failed: so many disks, those of the first nodes in order of
-- number, each of the script's capacity, and none of which had failed, but for those at which the bank failed.
pub record LendingLeaves {D : Type 0} (seen : D → Option (List ℕ)) (faults limit : D → ℕ) (s : Script) (o : Outside) (lends_failed count : ℕ) : Type 0 where
  pub lent : List (Lent D)
  pub counted : length lent ≡ count
  pub are : AreLent limit s.capacity 0 lent
  pub unused : AreUnused faults lent
  pub given : GivesBackLent seen lends_failed lent o

-- ---- how the replay of a script ends, over disks that tell what they hold or not

-- All is done: the whole text was written and passed on, and each disk given back; neither the sink nor the bank failed. Whatever the disks
-- tell, the text is that of some entries, and of what so many servers keep.
pub record AtDone (s : Script) (wire : Bool) (tells : Type 0) (o : Outside) : Type 0 where
  pub quiet : IsUnchanged o.bank_faults
  pub written : WritesRun s wire (WritesAll o)
  pub told : tells → Replays s wire (WritesAll o) NoneIsMissing o

-- the sink failed: a beginning of the text was written; a disk is missing only where the bank failed too
pub record AtWriteFault (s : Script) (wire : Bool) (tells : Type 0) (o : Outside) : Type 0 where
  pub rose : RoseBy 1 o.sink_faults
  pub written : WritesRun s wire (AppendsFront o.sink.before o.sink.after)
  pub told : tells → Replays s wire (AppendsFront o.sink.before o.sink.after) (MissedByTheBank o) o

-- a history was full before the last event
pub record AtLimit (s : Script) (wire : Bool) (tells : Type 0) (o : Outside) : Type 0 where
  pub written : WritesEntries IsFull wire o
  pub told : tells → ReplaysFirst s wire o

-- the disk of this node failed while it was set up, and no other did: what that leaves comes back
pub record SettingUpFails (s : Script) (left : Type 0) (o : Outside) : Type 0 where
  pub node : ℕ
  pub has : HasDisk s node
  pub rose : RoseBy 1 (o.disk_faults node)
  pub alone : (i : ℕ) → nat_eq node i ≡ false → DidNotRise (o.disk_faults i)
  pub written : IsUnchanged o.sink
  pub only_set_up : left

-- the disk of a server failed while it was read for the final part, which has nothing of the location database
pub record ReadingFails (s : Script) (wire : Bool) (tells : Type 0) (o : Outside) : Type 0 where
  pub server : ℕ
  pub has : IsServerOf s server
  pub rose : RoseBy 1 (o.disk_faults server)
  pub written : WritesEntries IsFew wire o
  pub told : tells → ReplaysUnread s wire server o

-- a disk wasn't taken back: all else is done
pub record ReturningFails (s : Script) (wire : Bool) (tells : Type 0) (o : Outside) : Type 0 where
  pub rose : RoseBy 1 o.bank_faults
  pub written : WritesRun s wire (WritesAll o)
  pub told : tells → Replays s wire (WritesAll o) (MissedByTheBank o) o

-- The bank failed, or a disk. What is seen outside are counts, the sink and the disks that come back: by these alone a call that stops
-- at a disk's failure in an event isn't told from the first and the second.
abbrev pub AtBankFault : Script → Bool → Type 0 → Type 0 → Outside → Type 0
AtBankFault s wire tells left o = SettingUpFails s left o ⊎ (ReadingFails s wire tells o ⊎ ReturningFails s wire tells o)

-- memory ran out while the script was played, or for what its disks keep: the text of the first events was written
pub record RunsOutOfMemory (s : Script) (wire : Bool) (tells : Type 0) (o : Outside) : Type 0 where
  pub written : WritesEntries IsFew wire o
  pub told : tells → ReplaysSome s wire o

-- memory ran out while the disks were set up, of which none failed: what that leaves comes back
pub record SettingUpStops (left : Type 0) (o : Outside) : Type 0 where
  pub quiet : (i : ℕ) → DidNotRise (o.disk_faults i)
  pub written : IsUnchanged o.sink
  pub only_set_up : left

-- memory ran out, before the first event or after it
abbrev pub AtOutOfMemory : Script → Bool → Type 0 → Type 0 → Outside → Type 0
AtOutOfMemory s wire tells left o = SettingUpStops left o ⊎ RunsOutOfMemory s wire tells o

-- Over the disks of all servers, by its status; no other comes of it. `left` says what comes back of disks that were only set up.
abbrev pub EndsRun : Script → Bool → Type 0 → Type 0 → Outside → Status → Type 0
EndsRun s wire tells left o statuses.Done = AtDone s wire tells o
EndsRun s wire tells left o statuses.WriteFault = AtWriteFault s wire tells o
EndsRun s wire tells left o statuses.BankFault = AtBankFault s wire tells left o
EndsRun s wire tells left o statuses.OutOfMemory = AtOutOfMemory s wire tells left o
EndsRun s wire tells left o statuses.Limit = AtLimit s wire tells o
EndsRun s wire tells left o status = ⊥

-- why no further disk was lent: the bank failed, or memory ran out
abbrev pub LendsNoMore : Outside → Status → Type 0
LendsNoMore o statuses.BankFault = RoseBy 1 o.bank_faults
LendsNoMore o statuses.OutOfMemory = Unit {0}
LendsNoMore o status = ⊥

-- how many lends had failed then
abbrev pub lend_failures : Status → ℕ
lend_failures statuses.BankFault = 1
lend_failures status = 0

-- So many disks were lent, the first of them, fewer than the script has nodes with a disk, and no further one. `Unlent` says what comes back of so many.
pub record LendingFails (s : Script) (place : Place) (Unlent : ℕ → ℕ → Type 0) (o : Outside) (status : Status) : Type 0 where
  pub count : ℕ
  pub fewer : count < s.servers + 1
  pub lent : o.lends.after ≡ option_map (λ ls. ls ++ lends place s.capacity 0 count) o.lends.before
  pub written : IsUnchanged o.sink
  pub why : LendsNoMore o status
  pub back : Unlent (lend_failures status) count

-- Over disks at this place: not all were lent; or all were, and nothing else, and the replay over them ends so.
pub record EndsReplay (s : Script) (wire : Bool) (place : Place) (tells left : Type 0) (Unlent : ℕ → ℕ → Type 0) (o : Outside) (status : Status) : Type 0 where
  pub how : LendingFails s place Unlent o status ⊎ (LendsAll s place o × EndsRun s wire tells left o status)

-- How a script is played while its history is written.
use Rattle.std.specs.Prelude.{◌≡◌, ◌≤◌, ℕ, List, [], length, Bool, false, Option, Result}
use Rattle.spec_history.specs.declared.scripts.Script.{Script}
use Rattle.afs_outside.specs.Outside.{Puts}
use Rattle.afs_outside.specs.declared.outside.Failed.{Failed}
use Rattle.afs_schedule.specs.Settled.{places_settled}
use Rattle.afs_schedule.specs.declared.schedule.Schedule.{Schedule}
use Rattle.afs_text.specs.KeptText.{kept_history_text}
use Rattle.afs_cell.specs.Since.{whole, IsBefore}
use Rattle.afs_cell.specs.Steps.{HasPlayedAll, HasPlayedFirst, HasPlayedSome}
use Rattle.afs_cell.specs.UnderWay.{IsUnderWay}
use Rattle.afs_cell.specs.Worlds.{most_history_entries, AllTell, HistoryTold, IsWorld, WorldState}
use Rattle.afs_cell.specs.declared.writing.Ended.{Ended}
use Rattle.afs_cell.specs.declared.writing.Ended.TheVariants as ended
use Rattle.afs_cell.specs.declared.writing.Told.{Told}

-- the text of a world's history, with the bytes of each message or without
abbrev pub world_text : {D : Type 0} → Bool → WorldState D → List ℕ
world_text {D} wire w = kept_history_text wire w.wire w.history

-- how far it was played, where its disks tell
abbrev pub EndsSo : {D : Type 0} → (D → Option (List ℕ)) → (D → List ℕ → Type 0) → (D → ℕ) → (D → ℕ) → Script → Type 0 → Ended → WorldState D → Type 0
EndsSo {D} seen may_leave faults limit s tells ended.All w = (w.is_lost ≡ false) × (tells → AllTell seen w × HasPlayedAll seen may_leave faults limit s w)
EndsSo {D} seen may_leave faults limit s tells ended.Limit w = (w.is_lost ≡ false) × ((length w.history ≡ most_history_entries) × (tells → AllTell seen w × HasPlayedFirst seen may_leave faults limit s w))
EndsSo {D} seen may_leave faults limit s tells ended.OutOfMemory w = tells → AllTell seen w × HasPlayedSome seen may_leave faults limit s w

-- The script was played so, and the history of the whole world was written, or a beginning of it.
pub record HistoryIsWritten {D : Type 0} (seen : D → Option (List ℕ)) (may_leave : D → List ℕ → Type 0) (faults limit : D → ℕ) (s : Script) (wire : Bool) (tells : Type 0) (old new : Option (List ℕ)) (before after : ℕ) (t : Told (WorldState D)) : Type 0 where
  pub gone : HistoryTold
  pub is : IsBefore gone t.world
  pub world : IsWorld seen may_leave faults limit s (whole gone t.world)
  pub written : Puts (world_text wire (whole gone t.world)) old new before after t.written
  pub ended : EndsSo seen may_leave faults limit s tells t.ended (whole gone t.world)

-- a world of this script, together with what was let go of it, and the text of its history was written from there on, or a beginning
pub record IsWritten {D : Type 0} (seen : D → Option (List ℕ)) (may_leave : D → List ℕ → Type 0) (faults limit : D → ℕ) (wire : Bool) (start : Option (List ℕ)) (count : ℕ) (gone : HistoryTold) (w : WorldState D) (now : Option (List ℕ)) (counted : ℕ) (written : Result (Unit {0}) Failed) : Type 0 where
  pub is : IsBefore gone w
  pub world : IsWorld seen may_leave faults limit w.script (whole gone w)
  pub text : Puts (world_text wire (whole gone w)) start now count counted written

-- A schedule under way: the entries that came so far were written and let go. The disks tell as the first ones did.
pub record PlaysOn {D : Type 0} (seen : D → Option (List ℕ)) (may_leave : D → List ℕ → Type 0) (faults limit : D → ℕ) (s : Script) (wire : Bool) (tells : Type 0) (old new : Option (List ℕ)) (before after : ℕ) (w : WorldState D) (schedule : Schedule) (written : Result (Unit {0}) Failed) : Type 0 where
  pub script : w.script ≡ s
  pub gone : HistoryTold
  pub is : IsBefore gone w
  pub way : IsUnderWay seen may_leave faults limit w.script (whole gone w) schedule
  pub none : w.history ≡ []
  pub kept : w.gone.messages ≤ places_settled schedule
  pub tell : tells → AllTell seen w
  pub text : Puts (world_text wire (whole gone w)) old new before after written

-- What the call that changes a volume gives.
use Rattle.std.specs.Prelude.{◌≡◌, ℕ, List, Some, Result, Ok, Err, pos}
use Rattle.std.specs.Option.{option_map}
use Rattle.afs_num.specs.declared.calls.FsCall.{FsCall}
use Rattle.afs_num.specs.declared.volumes.Change.{Change}
use Rattle.spec_ideal.specs.Operations as op
use Rattle.spec_ideal.specs.Operations.{Caller, changed, changes, made_by}
use Rattle.spec_ideal.specs.Replies.{change_reply, stamped}
use Rattle.spec_ideal.specs.Volumes as ideal
use Rattle.spec_records.specs.Changes.{images_left, numbers_gone, stored_after}
use Rattle.spec_records.specs.Durable.{changed_stored}
use Rattle.afs_reads.specs.Replying.{refusal_of, times_of}
use Rattle.afs_volume.specs.Giving.{volume_of}
use Rattle.afs_volume.specs.Taking.{stored_of}
use Rattle.afs_reads.specs.declared.faults.OpFault.{OpFault}
use Rattle.afs_reads.specs.declared.faults.OpFault.TheVariants as faults
use Rattle.afs_volume.specs.declared.volume.Volume.{Volume}

-- the volume after these edits
abbrev pub after : Volume → List ideal.Edit → ℕ → ideal.Volume
after w es n = changed w.head.id (changes es n) (volume_of w)

-- What the edits change in a volume at this time: the versions that they tell; the vnodes that they leave, each as its image;
-- the numbers of those that go; the volume's counter and its next unique number.
pub record IsChangeBy (w : Volume) (now : ℕ) (es : List ideal.Edit) (n : ℕ) (c : Change) : Type 0 where
  pub versions : c.versions ≡ made_by w.head.id (changes es n) (volume_of w)
  pub vnodes : c.vnodes ≡ images_left now es (after w es n)
  pub removed : c.removed ≡ numbers_gone es (volume_of w) (after w es n)
  pub counter : c.counter ≡ (after w es n).counter
  pub unique : c.unique ≡ (after w es n).next

-- and the reply to the call that makes them, by the volume after them; what they told has the time of the change
abbrev pub RepliesBy : Volume → Caller → FsCall → ℕ → List ideal.Edit → ℕ → Change → Type 0
RepliesBy w caller call now es n c =
    change_reply w.head.id caller (stamped now c.versions (times_of w)) (after w es n) n call ≡ Some c.reply

-- A disk that keeps the volume makes of its record the volume after these edits.
abbrev pub IsKeptAs : Volume → ℕ → List ideal.Edit → Change → Type 0
IsKeptAs w now es c = changed_stored c.counter c.unique c.vnodes c.removed (stored_of w) ≡ Some (stored_after w.head.id now es (stored_of w))

-- The change that the operation of a call makes, or its refusal.
abbrev pub Applies : Volume → Caller → FsCall → ℕ → op.Result → Result Change OpFault → Type 0
Applies w caller call now r (Ok c) =
    (es : List ideal.Edit) × ((n : ℕ) × ((r ≡ changes es n) × (IsChangeBy w now es n c × (RepliesBy w caller call now es n c × IsKeptAs w now es c))))
Applies w caller call now r (Err (faults.Code code)) = option_map pos (refusal_of r) ≡ Some code.0
Applies w caller call now r (Err faults.OutOfMemory) = Unit {0}

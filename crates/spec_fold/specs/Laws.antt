-- Laws about the fold of all records.
use Rattle.std.specs.Prelude.{◌≡◌, ◌≤◌, ◌+◌, ℕ, List, [], ◌∷◌, ◌++◌, filter, length, map, not, true, Some}
use Rattle.std.specs.List.{AllByRecursion}
use Rattle.afs_num.specs.declared.records.RecordHead.{RecordHead}
use Rattle.afs_num.specs.declared.records.StoreRecord.{StoreRecord}
use Rattle.spec_ideal.specs.Tables.{Table, get, set}
use Rattle.spec_ideal.specs.VnodeMaps.{most_vnodes}
use Rattle.spec_ideal.specs.Volumes.{Edit}
use Rattle.spec_records.specs.Changes.{boot_record, change_record, stored_after}
use Rattle.spec_records.specs.Durable.{Durable, Stored, is_flagged, noted, placing, with_journal}
use Rattle.spec_records.specs.Laws.{CanBeStored}
use Rattle.spec_records.specs.Records.{record_bytes, FitsRecord}
use Rattle.spec_records.specs.Sound.{is_sound}
use Rattle.spec_dumps.specs.Laws.{IsTimed}
use Rattle.spec_fold.specs.Fold.{folded, StandFor}

-- ---- what a server makes itself: changes and starts

abbrev pub volume_put : ℕ → Stored → Durable → Durable
volume_put id s d = record d { volumes = set id s d.volumes }

-- The fold of a change's record puts the volume that the edits make in the place of the old one, and keeps the reply; so what
-- is on the disk is the state.
abbrev pub ChangesAreKept : Type 0
ChangesAreKept = (head : RecordHead) (id time : ℕ) (es : List Edit) (s : Stored) (d : Durable) → get id d.volumes ≡ Some s → CanBeStored id es s.volume →
    folded (change_record head id time es s.volume) d
    ≡ Some (with_journal (placing d (change_record head id time es s.volume)).journal (noted head (volume_put id (stored_after id time es s) d)))

-- what a start leaves
abbrev pub started : Durable → Durable
started d = with_journal (placing d (boot_record (d.boot + 1))).journal (record d {
  boot = d.boot + 1;
  volumes = filter (λ (p : ℕ × Stored). not (is_flagged p.1)) d.volumes;
})

abbrev pub StartsAreKept : Type 0
StartsAreKept = (d : Durable) → folded (boot_record (d.boot + 1)) d ≡ Some (started d)

-- ---- one more record

-- One that can be taken stands for what the fold makes of it.
abbrev pub OneMoreStands : Type 0
OneMoreStands = (records : List (List ℕ)) (r : StoreRecord) (d e : Durable) → StandFor records d → FitsRecord r → folded r d ≡ Some e →
    StandFor (records ++ record_bytes r ∷ []) e

-- ---- the volumes on a disk

abbrev pub numbers_in : {A : Type 0} → Table A → List ℕ
numbers_in {A} t = map (λ (p : ℕ × A). p.0) t

-- A volume that a disk may hold: it is sound and not too large, and its times are those of its vnodes.
pub record IsStorable (s : Stored) : Type 0 where
  pub sound : is_sound s.volume ≡ true
  pub few : length s.volume.vnodes ≤ most_vnodes
  pub times : numbers_in s.times ≡ numbers_in s.volume.vnodes

abbrev pub AreStorable : Durable → Type 0
AreStorable d = AllByRecursion (λ (p : ℕ × Stored). IsStorable p.1) d.volumes

-- Whatever the records, the volumes that they leave are such ones.
pub record RecordsLeaveStorable : Type 0 where
  pub one : (r : StoreRecord) (d e : Durable) → AreStorable d → folded r d ≡ Some e → AreStorable e
  pub all : (records : List (List ℕ)) (d : Durable) → StandFor records d → AreStorable d

-- and the times of such a volume are what a dump asks of them
abbrev pub StorableAreTimed : Type 0
StorableAreTimed = (s : Stored) → IsStorable s → IsTimed s

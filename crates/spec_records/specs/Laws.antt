-- Laws about records: bytes and records are one for one, and what a server's own records say and tell.
use Rattle.std.specs.Prelude.{◌≡◌, ◌≤◌, ◌<◌, ◌^◌, ℕ, List, length, true, Some}
use Rattle.spec_ideal.specs.Tables.{get, AscendsFrom}
use Rattle.afs_xdr.specs.Words.{IsBytes}
use Rattle.spec_ideal.specs.Images.{HasImage}
use Rattle.spec_ideal.specs.VnodeMaps.{most_vnodes}
use Rattle.spec_ideal.specs.AccessLists.{IsAccessList}
use Rattle.spec_ideal.specs.Directories.{IsDirectory}
use Rattle.spec_ideal.specs.ChangeLaws.{IsOneChange}
use Rattle.spec_ideal.specs.Volumes.{a_directory, Vnode, Volume, Edit, edited_all, counted, versions_by}
use Rattle.spec_ideal.specs.Soundness.{IsSound}
use Rattle.afs_num.specs.declared.records.RecordHead.{RecordHead}
use Rattle.afs_num.specs.declared.records.StoreRecord.{StoreRecord}
use Rattle.spec_records.specs.Records.{head_form, record_bytes, record_at, FitsRecord}
use Rattle.spec_records.specs.Sound.{is_sound}
use Rattle.spec_records.specs.Durable.{Stored, versions_told}
use Rattle.spec_records.specs.Changes.{change_record, images_left, numbers_gone}

-- a record within the limits is read again from its bytes
abbrev pub RecordsAreReadAgain : Type 0
RecordsAreReadAgain = (r : StoreRecord) → FitsRecord r → record_at (record_bytes r) ≡ Some r

-- bytes that are read as a record are its one spelling
abbrev pub ReadRecordsAreSpelled : Type 0
ReadRecordsAreSpelled = (bytes : List ℕ) (r : StoreRecord) → IsBytes bytes → record_at bytes ≡ Some r → FitsRecord r × (record_bytes r ≡ bytes)

-- a sound volume passes the test
abbrev pub SoundVolumesPass : Type 0
SoundVolumesPass = (v : Volume) → IsSound v → is_sound v ≡ true

-- a directory's names and access list are those of one, as they are where they were read from an image
abbrev pub IsRead : Vnode → Type 0
IsRead x = x.kind ≡ a_directory → IsDirectory x.names × IsAccessList x.acl

-- a volume that passes is sound, where its vnodes were read
abbrev pub PassingVolumesAreSound : Type 0
PassingVolumesAreSound = (v : Volume) → ((n : ℕ) (x : Vnode) → get n v.vnodes ≡ Some x → IsRead x) → is_sound v ≡ true → IsSound v

-- edits of the volume of this number that leave a volume which a disk may hold
pub record CanBeStored (id : ℕ) (es : List Edit) (v : Volume) : Type 0 where
  pub before : AscendsFrom 1 v.vnodes
  pub sound : IsSound (counted (edited_all id es v))
  pub few : length (edited_all id es v).vnodes ≤ most_vnodes
  pub images : (n : ℕ) (x : Vnode) → get n (edited_all id es v).vnodes ≡ Some x → HasImage x

-- what a change's record says fits in words
pub record IsInWords (id time : ℕ) (es : List Edit) (before after : Volume) : Type 0 where
  pub volume : id < 2 ^ 32
  pub clock : time < 2 ^ 32
  pub counter : after.counter < 2 ^ 32
  pub unique : after.next < 2 ^ 32
  pub edits : length es < 2 ^ 32
  pub left : (n : ℕ) (x : Vnode) → get n after.vnodes ≡ Some x → n < 2 ^ 32
  pub gone : (n : ℕ) (x : Vnode) → get n before.vnodes ≡ Some x → n < 2 ^ 32

-- the record of such a change is within the limits
abbrev pub ChangesFit : Type 0
ChangesFit = (head : RecordHead) (id time : ℕ) (es : List Edit) (v : Volume) → head_form.Fits head → CanBeStored id es v → IsInWords id time es v (counted (edited_all id es v)) → FitsRecord (change_record head id time es v)

-- What the record of one change tells are the versions that its edits make.
abbrev pub ChangesAreTold : Type 0
ChangesAreTold = (id time : ℕ) (es : List Edit) (s : Stored) → IsOneChange id es s.volume → CanBeStored id es s.volume →
    versions_told id (images_left time es (counted (edited_all id es s.volume))) (numbers_gone es s.volume (counted (edited_all id es s.volume))) (Some s)
    ≡ versions_by id es s.volume

-- How long the record of a change is doesn't depend on its time, nor on what the reply says, but on how long that is.
abbrev pub LengthHasNoTime : Type 0
LengthHasNoTime = (head other : RecordHead) (id time later : ℕ) (es : List Edit) (v : Volume) → length head.reply ≡ length other.reply →
    length (record_bytes (change_record head id time es v)) ≡ length (record_bytes (change_record other id later es v))

-- Volumes that set-up lays, in memory.
use Rattle.std.specs.Prelude.{◌≤◌, ℕ, List, [], ◌∷◌, length}
use Rattle.std.specs.List.{AllByRecursion}
use Rattle.spec_history.specs.declared.scripts.VolumeLine.{VolumeLine}
use Rattle.afs_num.specs.declared.volumes.VolumeHead.{VolumeHead}
use Rattle.spec_ideal.specs.SoundnessLaws.{IsLaidOut}
use Rattle.spec_ideal.specs.Tables.{Table}
use Rattle.spec_records.specs.Records.{most_name}
use Rattle.afs_volume.specs.Giving.{volume_of}
use Rattle.afs_volume.specs.Taking.{IsAtSetUp}
use Rattle.afs_volume.specs.declared.volume.Volume.{Volume}

-- a volume as set-up leaves it: it is sound, its times are 0, and nothing of it was changed
pub record IsLaid (v : Volume) : Type 0 where
  pub times : IsAtSetUp v
  pub out : IsLaidOut (volume_of v)

abbrev pub AreLaid : Table Volume → Type 0
AreLaid t = AllByRecursion (λ (p : ℕ × Volume). IsLaid p.1) t

-- the numbers of a head
abbrev pub head_words : VolumeHead → List ℕ
head_words h = h.id ∷ h.family ∷ h.kind ∷ h.flags ∷ h.quota ∷ h.unique ∷ h.counter ∷ h.release ∷ []

-- a volume may have this name
abbrev pub HasShortName : VolumeLine → Type 0
HasShortName l = length l.name ≤ most_name

abbrev pub HaveShortNames : List VolumeLine → Type 0
HaveShortNames ls = AllByRecursion HasShortName ls

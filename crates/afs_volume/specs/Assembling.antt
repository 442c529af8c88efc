-- Parts that make a volume: each vnode can be read, and they are sound together.
use Rattle.std.specs.Prelude.{ℕ, Bool, true, ◌&&◌, is_some, Option, Some, None}
use Rattle.std.specs.List.{list_all}
use Rattle.afs_num.specs.declared.vnodes.Vnode as image
use Rattle.afs_num.specs.declared.volumes.VolumeHead.{VolumeHead}
use Rattle.spec_ideal.specs.Images.{value_of, values_of}
use Rattle.spec_ideal.specs.Tables.{Table}
use Rattle.spec_ideal.specs.Volumes.{blocks_of}
use Rattle.spec_records.specs.Sound.{is_sound, is_sound_vnode}
use Rattle.afs_volume.specs.Seen.{seen, volume_seen, IsReadable}

-- what stands in a place passes, where something does
abbrev pub passes_at : {A : Type 0} → (A → Bool) → Option A → Bool
passes_at {A} q None = true
passes_at {A} q (Some x) = q x

abbrev pub can_be_read : image.Vnode → Bool
can_be_read x = is_some (value_of x)

abbrev pub reads_pair : ℕ × image.Vnode → Bool
reads_pair p = can_be_read p.1

-- each vnode is one that can be read
abbrev pub are_read : Table image.Vnode → Bool
are_read t = list_all reads_pair t

-- what stands in a place is readable
abbrev pub IsReadablePlace : Option (ℕ × image.Vnode) → Type 0
IsReadablePlace None = Unit {0}
IsReadablePlace (Some p) = IsReadable p.1

-- and its blocks
abbrev pub blocks_in_place : Option (ℕ × image.Vnode) → ℕ
blocks_in_place None = 0
blocks_in_place (Some p) = blocks_of (seen p.1)

-- each is one of a sound volume
abbrev pub is_sound_pair : VolumeHead → Table image.Vnode → ℕ × image.Vnode → Bool
is_sound_pair head t p = is_sound_vnode (volume_seen head t) p.0 (seen p.1)

-- the parts make a volume that is sound
abbrev pub make_volume : VolumeHead → Table image.Vnode → Bool
make_volume head t = is_some (values_of t) && is_sound (volume_seen head t)

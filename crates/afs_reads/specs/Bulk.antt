-- Several statuses in one reply.
use Rattle.std.specs.Prelude.{◌≡◌, ℕ, List, [], ◌∷◌, Option, Some, None, true, is_some, pos}
use Rattle.std.specs.Option.{option_map}
use Rattle.afs_num.specs.declared.types.Fid.{Fid}
use Rattle.afs_num.specs.declared.calls.AfsFetchStatus.{AfsFetchStatus}
use Rattle.afs_num.specs.declared.calls.AfsVolSync.{AfsVolSync}
use Rattle.spec_shape.specs.Rows.{no_sync}
use Rattle.afs_num.specs.declared.calls.FsCall.TheVariants as calls
use Rattle.spec_ideal.specs.Operations.{Caller, Found, first_failing, tests}
use Rattle.spec_ideal.specs.Replies.{found_status, sync_of, vnode_or_none}
use Rattle.spec_ideal.specs.Volumes as ideal
use Rattle.spec_ideal.specs.Volumes.{vnode_of}
use Rattle.afs_reads.specs.Replying.{times_of}
use Rattle.afs_volume.specs.Giving.{volume_of}
use Rattle.afs_reads.specs.declared.faults.OpFault.{OpFault}
use Rattle.afs_reads.specs.declared.faults.OpFault.TheVariants as faults
use Rattle.afs_volume.specs.declared.volume.Volume.{Volume}

abbrev pub refusal_at : Caller → ideal.Volume → Fid → Option ℕ
refusal_at caller v f = first_failing (tests caller (calls.FetchStatus f) v)

-- the status of this fid is shown
pub record IsShown (caller : Caller) (v : ideal.Volume) (f : Fid) : Type 0 where
  pub passes : refusal_at caller v f ≡ None
  pub there : is_some (vnode_of f v) ≡ true

abbrev pub found_of : ideal.Volume → Fid → Found
found_of v f = record { fid = f; vnode = vnode_or_none (vnode_of f v) }

abbrev pub status_seen : Caller → Volume → Fid → AfsFetchStatus
status_seen caller v f = found_status caller (volume_of v) (times_of v) (found_of (volume_of v) f)

-- the refusal of this fid's status
abbrev pub IsRefusal : Option ℕ → OpFault → Type 0
IsRefusal refusal (faults.Code code) = option_map pos refusal ≡ Some code.0
IsRefusal refusal faults.OutOfMemory = Unit {0}

-- the volume's words beside the statuses of these fids
abbrev pub sync_beside : ideal.Volume → List Fid → AfsVolSync
sync_beside v [] = no_sync
sync_beside v (f ∷ fs) = sync_of v

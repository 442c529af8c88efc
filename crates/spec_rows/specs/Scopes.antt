-- What a call may change of the vnodes that there were before it.
use Rattle.std.specs.Prelude.{ℕ, Bool, false, Option, Some, None, nat_eq}
use Rattle.afs_num.specs.Fids.{same_fid}
use Rattle.afs_num.specs.declared.types.Fid.{Fid}
use Rattle.afs_num.specs.declared.calls.FsCall.{FsCall}
use Rattle.afs_num.specs.declared.calls.FsCall.TheVariants as calls
use Rattle.spec_ideal.specs.Operations.{volume_changed}

abbrev pub is_volume : ℕ → Option ℕ → Bool
is_volume id None = false
is_volume id (Some n) = nat_eq n id

-- a store changes its fid, a new name its directory; what takes names away, and a further name, may change any vnode of the volume
abbrev pub may_change : FsCall → Fid → Bool
may_change (calls.StoreData g status position wanted file_length contents) f = same_fid g f
may_change (calls.StoreAcl g acl) f = same_fid g f
may_change (calls.StoreStatus g status) f = same_fid g f
may_change (calls.CreateFile d name status) f = same_fid d f
may_change (calls.Symlink d name target status) f = same_fid d f
may_change (calls.MakeDir d name status) f = same_fid d f
may_change call f = is_volume f.volume (volume_changed call)

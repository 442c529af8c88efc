-- What a server answers has a spelling.
use Rattle.std.proofs.Common.{arith}
use Rattle.afs_num.specs.declared.calls.FsCall.{FsCall}
use Rattle.afs_num.specs.declared.calls.FsCall.TheVariants as calls
use Rattle.afs_num.specs.declared.calls.FsReply.{FsReply}
use Rattle.afs_num.specs.declared.calls.FsReply.TheVariants as replies
use Rattle.afs_num.specs.declared.messages.Call.TheVariants as ask
use Rattle.afs_num.specs.declared.messages.Reply.TheVariants as tell
use Rattle.spec_shape.specs.Rows.{IsWithin}
use Rattle.spec_model.specs.CellRows.{cell_calls, cell_replies}
use Rattle.afs_reads.specs.Replying.{FitsCall, FitsReply}

-- ---- what a volume answers is within the limits of its message

pub fits_within : (reply : FsReply) → FitsReply reply → IsWithin cell_replies (tell.File reply)
fits_within (replies.FetchData contents status callback sync) le = (omega (arith, le), (tt, (tt, (tt, tt))))
fits_within (replies.FetchAcl acl status sync) le = (omega (arith, le), (tt, (tt, tt)))
fits_within (replies.FetchStatus status callback sync) le = (tt, (tt, (tt, tt)))
fits_within (replies.StoreData status sync) le = (tt, (tt, tt))
fits_within (replies.StoreAcl status sync) le = (tt, (tt, tt))
fits_within (replies.StoreStatus status sync) le = (tt, (tt, tt))
fits_within (replies.RemoveFile directory sync) le = (tt, (tt, tt))
fits_within (replies.CreateFile fid status directory callback sync) le = (tt, (tt, (tt, (tt, (tt, tt)))))
fits_within (replies.Rename old new sync) le = (tt, (tt, (tt, tt)))
fits_within (replies.Symlink fid status directory sync) le = (tt, (tt, (tt, (tt, tt))))
fits_within (replies.Link status directory sync) le = (tt, (tt, (tt, tt)))
fits_within (replies.MakeDir fid status directory callback sync) le = (tt, (tt, (tt, (tt, (tt, tt)))))
fits_within (replies.RemoveDir directory sync) le = (tt, (tt, tt))
fits_within replies.GiveUpCallBacks le = tt
fits_within (replies.GetVolumeStatus id kind quota blocks name) le = let few = le.1 in (tt, (le.0, (tt, (tt, (omega (arith, few), tt)))))
fits_within (replies.GetTime clock microseconds) le = (tt, (tt, tt))
fits_within (replies.BulkStatus statuses callbacks sync) le = let s = le.0 in let c = le.1 in (omega (arith, s), (omega (arith, c), (tt, tt)))
fits_within replies.CallBack le = tt
fits_within replies.InitCallBackState le = tt
fits_within replies.Probe le = tt

-- ---- and what it is asked is within those of its own: what a call gives a vnode fits an image

pub within_fits : (call : FsCall) → IsWithin cell_calls (ask.File call) → FitsCall call
within_fits (calls.StoreAcl f acl) w = let few = w.1.0.0 in omega (arith, few)
within_fits (calls.Symlink d name target status) w = let few = w.1.1.0.0 in omega (arith, few)
within_fits (calls.BulkStatus fids) w = let few = w.0.0 in omega (arith, few)
within_fits call w = tt

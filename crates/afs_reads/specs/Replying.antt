-- What the reading calls on a volume give, and their refusals.
use Rattle.std.specs.Prelude.{◌≡◌, ◌≤◌, ℕ, length, pos, Option, Some, None, Result, Ok, Err, Bool, true, false}
use Rattle.std.specs.Option.{option_map}
use Rattle.spec_ideal.specs.Operations as op
use Rattle.spec_ideal.specs.Operations.{Caller, the_user, all_rights, refused, reads, changes}
use Rattle.spec_ideal.specs.VnodeImage.{most_acl, most_contents}
use Rattle.spec_ideal.specs.Volumes as ideal
use Rattle.afs_volume.specs.Seen.{seen}
use Rattle.afs_num.specs.declared.calls.FsCall.{FsCall}
use Rattle.afs_num.specs.declared.calls.FsCall.TheVariants as calls
use Rattle.afs_num.specs.declared.calls.FsReply.{FsReply}
use Rattle.afs_num.specs.declared.calls.FsReply.TheVariants as replies
use Rattle.afs_num.specs.declared.calls.AfsFetchStatus.{AfsFetchStatus}
use Rattle.afs_num.specs.declared.types.Fid.{Fid}
use Rattle.spec_shape.specs.Tables.{IsVolumeKind}
use Rattle.spec_ideal.specs.Replies.{reading_reply}
use Rattle.spec_ideal.specs.Tables.{get}
use Rattle.afs_num.specs.declared.vnodes.Vnode as image
use Rattle.afs_volume.specs.declared.volume.Volume.{Volume}
use Rattle.afs_reads.specs.declared.callers.Caller as callers
use Rattle.afs_reads.specs.declared.callers.Caller.TheVariants as caller_kinds
use Rattle.afs_reads.specs.declared.faults.OpFault.{OpFault}
use Rattle.afs_reads.specs.declared.faults.OpFault.TheVariants as faults
use Rattle.afs_volume.specs.Giving.{volume_of}

abbrev pub caller_seen : callers.Caller → Caller
caller_seen (caller_kinds.User user) = the_user user.now
caller_seen caller_kinds.AllRights = all_rights

-- ---- refusals

-- what is refused with this code, or isn't refused; memory may be wanting either way
abbrev pub Passes : {A : Type 0} → Option ℕ → Result A OpFault → Type 0
Passes {A} refusal (Ok x) = refusal ≡ None
Passes {A} refusal (Err (faults.Code code)) = option_map pos refusal ≡ Some code.0
Passes {A} refusal (Err faults.OutOfMemory) = Unit {0}

-- a test and its code: it has passed
abbrev pub HasPassed : Bool × ℕ → Type 0
HasPassed t = t.0 ≡ true

-- the code of a refusal
abbrev pub refusal_of : op.Result → Option ℕ
refusal_of (refused code) = Some code
refusal_of (reads shown) = None
refusal_of (changes es n) = None
refusal_of op.no_operation = None

-- a test that fails gives its code
abbrev pub checked : Bool → ℕ → Result (Unit {0}) OpFault
checked true code = Ok tt
checked false code = Err (faults.Code (record { 0 = pos code }))

-- the vnode that is found is this one, or there is none: 102
abbrev pub Finds : {X : Type 0} → (X → image.Vnode) → Option ideal.Vnode → Result X OpFault → Type 0
Finds {X} view found (Ok x) = found ≡ Some (seen (view x))
Finds {X} view found (Err e) = (found ≡ None) × (e ≡ faults.Code (record { 0 = pos 102 }))

-- a refusal with this code
abbrev pub IsRefused : ℕ → OpFault → Type 0
IsRefused code e = e ≡ faults.Code (record { 0 = pos code })

-- ---- replies

-- the status of a vnode, to a caller with these rights where everyone has the others
pub record IsStatus (caller anonymous : ℕ) (x : image.Vnode) (s : AfsFetchStatus) : Type 0 where
  pub same : s ≡ record {
    interface_version = 1;
    file_type = ideal.type_of (seen x).kind;
    link_count = (seen x).links;
    length = ideal.size_of (seen x);
    data_version = (seen x).data_version;
    author = 0;
    owner = (seen x).owner;
    caller_access = caller;
    anonymous_access = anonymous;
    unix_mode_bits = (seen x).mode;
    parent_vnode = (seen x).parent;
    parent_unique = (seen x).parent_unique;
    seg_size = (seen x).segment_size;
    client_mod_time = (seen x).client_time;
    server_mod_time = x.server_time;
    group = (seen x).group;
    sync_counter = (seen x).index;
    spare1 = 0;
    spare2 = 0;
    spare3 = 0;
    spare4 = 0;
  }

-- the server's time of the vnode of a fid stands in its image
abbrev pub time_in : Option image.Vnode → ℕ
time_in None = 0
time_in (Some x) = x.server_time

abbrev pub times_of : Volume → Fid → ℕ
times_of v f = time_in (get f.vnode v.vnodes.table)

-- what a reading call is answered
abbrev pub reply_of : Caller → Volume → op.Result → Option FsReply
reply_of caller v (refused code) = None
reply_of caller v (reads shown) = Some (reading_reply v.head.id caller (times_of v) (volume_of v) shown)
reply_of caller v (changes es n) = None
reply_of caller v op.no_operation = None

-- the reply to this result, or its refusal
abbrev pub Replies : Caller → Volume → op.Result → Result FsReply OpFault → Type 0
Replies caller v r (Ok reply) = reply_of caller v r ≡ Some reply
Replies caller v r (Err (faults.Code code)) = option_map pos (refusal_of r) ≡ Some code.0
Replies caller v r (Err faults.OutOfMemory) = Unit {0}

-- the call reads a volume
abbrev pub is_reading : FsCall → Bool
is_reading (calls.FetchData f position wanted) = true
is_reading (calls.FetchAcl f) = true
is_reading (calls.FetchStatus f) = true
is_reading (calls.GetVolumeStatus id) = true
is_reading (calls.BulkStatus fids) = true
is_reading call = false

-- at most so many fids in a list
abbrev pub most_fids : ℕ
most_fids = 50

-- the call is within the limits of its message, as far as the volume rests on them: what it gives a vnode fits an image
abbrev pub FitsCall : FsCall → Type 0
FitsCall (calls.StoreAcl f acl) = length acl ≤ most_acl
FitsCall (calls.Symlink d name target status) = length target ≤ most_contents
FitsCall (calls.BulkStatus fids) = length fids ≤ most_fids
FitsCall call = Unit {0}

-- the reply is within the limits of its message
abbrev pub FitsReply : FsReply → Type 0
FitsReply (replies.FetchData contents status callback sync) = length contents ≤ most_contents
FitsReply (replies.FetchAcl acl status sync) = length acl ≤ most_acl
FitsReply (replies.GetVolumeStatus id kind quota blocks name) = IsVolumeKind kind × (length name ≤ 256)
FitsReply (replies.BulkStatus statuses callbacks sync) = (length statuses ≤ most_fids) × (length callbacks ≤ most_fids)
FitsReply reply = Unit {0}

-- What an unanswered call asks for.
use Rattle.std.specs.Prelude.{ℕ, List, Bool, true, false, Option, Some, None}
use Rattle.afs_num.specs.declared.types.Fid.{Fid}
use Rattle.afs_num.specs.declared.calls.FsCall.{FsCall}
use Rattle.afs_num.specs.declared.calls.FsCall.TheVariants as calls

-- the fid whose body is asked for
abbrev pub body_wanted : FsCall → Option Fid
body_wanted (calls.FetchData fid position wanted) = Some fid
body_wanted call = None

abbrev pub status_wanted : FsCall → Option Fid
status_wanted (calls.FetchStatus fid) = Some fid
status_wanted call = None

abbrev pub statuses_wanted : FsCall → Option (List Fid)
statuses_wanted (calls.BulkStatus fids) = Some fids
statuses_wanted call = None

abbrev pub rights_wanted : FsCall → Option Fid
rights_wanted (calls.FetchAcl fid) = Some fid
rights_wanted call = None

-- promises are given back
abbrev pub is_gift : FsCall → Bool
is_gift (calls.GiveUpCallBacks fids callbacks) = true
is_gift call = false

-- the bytes that are stored, and of what
abbrev pub bytes_stored : FsCall → Option (Fid × List ℕ)
bytes_stored (calls.StoreData fid set position wanted file_length contents) = Some (fid, contents)
bytes_stored call = None

-- the fid whose status or rights are stored
abbrev pub fields_stored : FsCall → Option Fid
fields_stored (calls.StoreAcl fid acl) = Some fid
fields_stored (calls.StoreStatus fid set) = Some fid
fields_stored call = None

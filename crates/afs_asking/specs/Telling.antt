-- What replies tell, item by item.
use Rattle.std.specs.Prelude.{List, [], ◌∷◌, Option, Some, None}
use Rattle.afs_num.specs.declared.types.Fid.{Fid}
use Rattle.afs_num.specs.declared.calls.AfsCallBack.{AfsCallBack}
use Rattle.afs_num.specs.declared.calls.AfsFetchStatus.{AfsFetchStatus}
use Rattle.afs_asking.specs.declared.replies.Told as program

-- a fid with its status and its promise, and what stands behind each
pub record Told : Type 0 where
  pub fid : Fid
  pub status : AfsFetchStatus
  pub callback : AfsCallBack
  pub fids : List Fid
  pub statuses : List AfsFetchStatus
  pub callbacks : List AfsCallBack

abbrev pub told_of : program.Told → Told
told_of t = record { fid = t.fid; status = t.status.now; callback = t.callback.now; fids = t.fids.now; statuses = t.statuses.now; callbacks = t.callbacks.now }

-- the first of these, and those behind it
abbrev pub first_of : {A : Type 0} → List A → Option (A × List A)
first_of [] = None
first_of (x ∷ xs) = Some (x, xs)

abbrev pub told_by : Option (Fid × List Fid) → Option (AfsFetchStatus × List AfsFetchStatus) → Option (AfsCallBack × List AfsCallBack) → Option Told
told_by None s c = None
told_by (Some f) None c = None
told_by (Some f) (Some s) None = None
told_by (Some f) (Some s) (Some c) = Some (record { fid = f.0; status = s.0; callback = c.0; fids = f.1; statuses = s.1; callbacks = c.1 })

abbrev pub first_told : List Fid → List AfsFetchStatus → List AfsCallBack → Option Told
first_told fs ss cs = told_by (first_of fs) (first_of ss) (first_of cs)

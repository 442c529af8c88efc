-- Which calls a file server refuses because of the volume on which they are, and with which code.
use Rattle.std.proofs.Common.{◌≡◌, ℕ, true, List, Option, Some, None, Err, refl, sym, ap, ◌∙◌}
use Rattle.std.specs.Prelude.{pos}
use Rattle.afs_num.specs.Nodes.{same_node}
use Rattle.afs_num.specs.declared.calls.FsCall.{FsCall}
use Rattle.afs_num.specs.declared.calls.FsCall.TheVariants as calls
use Rattle.afs_num.specs.declared.messages.Call.TheVariants as ask
use Rattle.afs_num.specs.declared.messages.Carried.TheVariants as carried
use Rattle.afs_num.specs.declared.types.Fid.{Fid}
use Rattle.afs_num.specs.declared.types.Head.{Head}
use Rattle.afs_num.specs.declared.types.Node.{Node}
use Rattle.spec_ideal.specs.Operations.{op, the_user, volume_called, Caller}
use Rattle.spec_ideal.specs.Tables.{get, Table}
use Rattle.spec_model.specs.Calls.{admitted}
use Rattle.spec_model.specs.Calls as pairs
use Rattle.spec_records.specs.Durable.{Stored}
use Rattle.spec_rows.specs.ServerRow.{decided, in_volume, is_client, refuses, serves_call, sight_by, sight_in, whole, with_volume}
use Rattle.spec_rows.specs.States.{ServerState}
use Rattle.spec_volrows.specs.FileLaws.{code_by, ClosedAreRefused}
use Rattle.spec_volrows.specs.FileRow.{file_decides, file_in, file_serves, file_sight, file_volume, missing_code, sight_unless, unless_closed}

some_is : {A : Type 0} (x y : A) → Some x ≡ Some y → x ≡ y
some_is {A} x y e = cc

-- ---- one volume

in_refused : (holds : Table ℕ) (s : ServerState) (clock : ℕ) (head : Head) (caller : Caller) (call : FsCall) (id code : ℕ) (o : Option Stored) → code_by holds s id o ≡ Some code → file_in holds s clock head caller call id o ≡ refuses head (pos code)
in_refused holds s clock head caller call id code None e = ap (λ (c : ℕ). refuses head (pos c)) (some_is (missing_code s.lasting id) code e)
in_refused holds s clock head caller call id code (Some st) e = ap (λ (c : Option ℕ). unless_closed head c (decided s clock head caller call id st (op id caller call st.volume))) e

in_served : (holds : Table ℕ) (s : ServerState) (clock : ℕ) (head : Head) (caller : Caller) (call : FsCall) (id : ℕ) (o : Option Stored) → code_by holds s id o ≡ None → file_in holds s clock head caller call id o ≡ in_volume s clock head caller call id o
in_served holds s clock head caller call id None e = absurd cc
in_served holds s clock head caller call id (Some st) e = ap (λ (c : Option ℕ). unless_closed head c (decided s clock head caller call id st (op id caller call st.volume))) e

sight_refused : (holds : Table ℕ) (s : ServerState) (caller : Caller) (f : Fid) (code : ℕ) (o : Option Stored) → code_by holds s f.volume o ≡ Some code → file_sight holds s.lasting caller f o ≡ Err code
sight_refused holds s caller f code None e = ap (λ (c : ℕ). Err c) (some_is (missing_code s.lasting f.volume) code e)
sight_refused holds s caller f code (Some st) e = ap (λ (c : Option ℕ). sight_unless c (sight_by st (op f.volume caller (calls.FetchStatus f) st.volume))) e

sight_served : (holds : Table ℕ) (s : ServerState) (caller : Caller) (f : Fid) (o : Option Stored) → code_by holds s f.volume o ≡ None → file_sight holds s.lasting caller f o ≡ sight_in caller f o
sight_served holds s caller f None e = absurd cc
sight_served holds s caller f (Some st) e = ap (λ (c : Option ℕ). sight_unless c (sight_by st (op f.volume caller (calls.FetchStatus f) st.volume))) e

-- ---- a call on it

volume_is : (holds : Table ℕ) (s : ServerState) (clock : ℕ) (head : Head) (user : List ℕ) (call : FsCall) (id : ℕ) → volume_called call ≡ Some id → file_serves holds s clock head user call ≡ file_volume holds s clock head (the_user user) call (Some id)
volume_is holds s clock head user (calls.GiveUpCallBacks fids callbacks) id e = absurd cc
volume_is holds s clock head user calls.GetTime id e = absurd cc
volume_is holds s clock head user (calls.BulkStatus fids) id e = absurd cc
volume_is holds s clock head user call id e = ap (file_volume holds s clock head (the_user user) call) e

plain_is : (s : ServerState) (clock : ℕ) (head : Head) (user : List ℕ) (call : FsCall) (id : ℕ) → volume_called call ≡ Some id → with_volume s clock head (the_user user) call (Some id) ≡ serves_call s clock head user call
plain_is s clock head user (calls.GiveUpCallBacks fids callbacks) id e = absurd cc
plain_is s clock head user calls.GetTime id e = absurd cc
plain_is s clock head user (calls.BulkStatus fids) id e = absurd cc
plain_is s clock head user call id e = ap (with_volume s clock head (the_user user) call) (sym e)

runs_it : (me : Node) (holds : Table ℕ) (s : ServerState) (clock : ℕ) (head : Head) (user : List ℕ) (call : FsCall) → same_node head.to me ≡ true → admitted s.lasting.boot s.seats head ≡ pairs.runs → is_client head.from ≡ true →
    file_decides me holds s clock (whole head (carried.Call user (ask.File call))) ≡ file_serves holds s clock head user call
runs_it me holds s clock head user call to new client = rw (to, new, client) refl

pub closed_refused : ClosedAreRefused
closed_refused = record {
  runs = runs_it;
  refused = λ holds s clock head user call id code on e. volume_is holds s clock head user call id on ∙ in_refused holds s clock head (the_user user) call id code (get id s.lasting.volumes) e;
  served = λ holds s clock head user call id on e. volume_is holds s clock head user call id on ∙ (in_served holds s clock head (the_user user) call id (get id s.lasting.volumes) e ∙ plain_is s clock head user call id on);
  unseen = λ holds s caller f code e. sight_refused holds s caller f code (get f.volume s.lasting.volumes) e;
  seen = λ holds s caller f e. sight_served holds s caller f (get f.volume s.lasting.volumes) e;
}

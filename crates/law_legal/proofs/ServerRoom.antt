use Rattle.std.specs.Prelude as outcome
use Rattle.std.specs.Prelude.{Ok, Err, ◌↔◌, ⊤}
use Rattle.std.proofs.Common.{◌≡◌, ℕ, Bool, true, false, cond, eqb, List, [], ◌∷◌, Option, Some, None, refl, ap}
use Rattle.std.specs.Prelude.{pos}
use Rattle.afs_num.specs.declared.types.Fid.{Fid}
use Rattle.afs_num.specs.declared.types.Head.{Head}
use Rattle.afs_num.specs.declared.calls.FsCall.{FsCall}
use Rattle.afs_num.specs.declared.calls.FsCall.TheVariants as calls
use Rattle.afs_num.specs.declared.messages.Carried.TheVariants as carried
use Rattle.afs_num.specs.declared.messages.Call.TheVariants as ask
use Rattle.spec_ideal.specs.Operations.{Caller, the_user, Result, refused, reads, changes, no_operation, op, volume_called, by_tests, limited, read_by, shows_status}
use Rattle.spec_ideal.specs.Tables.{Table, get}
use Rattle.spec_ideal.specs.Volumes.{Vnode, vnode_of}
use Rattle.law_legal.proofs.BaseLaws.{yes_no}
use Rattle.law_legal.specs.Laws.{LacksRoom, LacksRoomIn, LacksRoomBy}
use Rattle.spec_records.specs.Durable.{Stored, has_room}
use Rattle.spec_rows.specs.ServerRow.{Change, refuses, saves, no_room, not_served, decided, in_volume, record_of, runs, whole, several, Sight, sight_by, sight_in, sights, is_client, runs_received}
use Rattle.spec_rows.specs.States.{ServerState, durable_of}
use Rattle.spec_shape.specs.Reading.{◌>>=◌}

-- A server tells that there is no room exactly where its record doesn't fit, or the operation says so.

roomed_by : (t : Bool) (head : Head) (c : Change) → (cond t (saves head c) (refuses head no_room) ≡ refuses head no_room) ↔ (t ≡ false)
roomed_by true head c = ((λ e. absurd cc), (λ e. absurd cc))
roomed_by false head c = ((λ e. refl), (λ e. refl))

refused_room : (head : Head) (code other : ℕ) → refuses head (pos code) ≡ refuses head (pos other) → code ≡ other
refused_room head code other e = cc

roomless_by : (s : ServerState) (clock : ℕ) (head : Head) (caller : Caller) (call : FsCall) (id : ℕ) (v : Stored) (r : Result) → (decided s clock head caller call id v r ≡ refuses head no_room) ↔ LacksRoomBy s clock head caller call id v r
roomless_by s clock head caller call id v (refused code) = (refused_room head code 108, (λ e. ap (λ (n : ℕ). refuses head (pos n)) e))
roomless_by s clock head caller call id v (reads shown) = ((λ e. absurd cc), (λ e. absurd e))
roomless_by s clock head caller call id v (changes es n) =
    roomed_by (has_room (durable_of s.lasting) (record_of s.lasting.boot head clock (record { id = id; caller = caller; call = call; before = v; edits = es; shown = n }))) head
    (record { id = id; caller = caller; call = call; before = v; edits = es; shown = n })
roomless_by s clock head caller call id v no_operation = ((λ e. absurd cc), (λ e. absurd e))

roomless_in : (s : ServerState) (clock : ℕ) (head : Head) (caller : Caller) (call : FsCall) (id : ℕ) (o : Option Stored) → (in_volume s clock head caller call id o ≡ refuses head no_room) ↔ LacksRoomIn s clock head caller call id o
roomless_in s clock head caller call id None = ((λ e. absurd (yes_no (eqb 103 108) (ap (λ (n : ℕ). eqb n 108) (refused_room head 103 108 e)) refl)), (λ e. absurd e))
roomless_in s clock head caller call id (Some v) = roomless_by s clock head caller call id v (op id caller call v.volume)

-- several statuses are refused with no such code
abbrev IsRoomy : {A : Type 0} → outcome.Result A ℕ → Type 0
IsRoomy {A} (Err code) = eqb code 108 ≡ false
IsRoomy {A} (Ok x) = ⊤

sight_read : (v : Stored) (f : Fid) (o : Option Vnode) → IsRoomy (sight_by v (limited f.volume v.volume (read_by shows_status f o)))
sight_read v f None = refl
sight_read v f (Some x) = tt

sight_tested : (v : Stored) (t u : Bool) (r : Result) → IsRoomy (sight_by v r) → IsRoomy (sight_by v (by_tests (cond t (cond u None (Some 13)) (Some 102)) r))
sight_tested v true true r h = h
sight_tested v true false r h = refl
sight_tested v false u r h = refl

sight_roomy : (caller : Caller) (f : Fid) (o : Option Stored) → IsRoomy (sight_in caller f o)
sight_roomy caller f None = refl
sight_roomy caller f (Some v) = sight_tested v _ _ (limited f.volume v.volume (read_by shows_status f (vnode_of f v.volume))) (sight_read v f (vnode_of f v.volume))

sights_joined : (a : outcome.Result Sight ℕ) (b : outcome.Result (List Sight) ℕ) → IsRoomy a → IsRoomy b → IsRoomy (a >>= λ x. (b >>= λ xs. Ok (x ∷ xs)))
sights_joined (Err code) b h k = h
sights_joined (Ok x) (Err code) h k = k
sights_joined (Ok x) (Ok xs) h k = tt

sights_roomy : (volumes : Table Stored) (caller : Caller) (fids : List Fid) → IsRoomy (sights volumes caller fids)
sights_roomy volumes caller [] = tt
sights_roomy volumes caller (f ∷ fs) = sights_joined (sight_in caller f (get f.volume volumes)) (sights volumes caller fs) (sight_roomy caller f (get f.volume volumes)) (sights_roomy volumes caller fs)

several_roomy : (head : Head) (caller : Caller) (o : outcome.Result (List Sight) ℕ) → IsRoomy o → several head caller o ≡ refuses head no_room → ⊥
several_roomy head caller (Err code) h e = yes_no (eqb code 108) (ap (λ (n : ℕ). eqb n 108) (refused_room head code 108 e)) h
several_roomy head caller (Ok xs) h e = absurd cc

roomless_client : (s : ServerState) (clock : ℕ) (head : Head) (user : List ℕ) (call : FsCall) → (runs_received s clock head (whole head (carried.Call user (ask.File call))) ≡ refuses head no_room) ↔ LacksRoom s clock head (the_user user) call (volume_called call)
roomless_client s clock head user (calls.FetchData a b c) = roomless_in s clock head (the_user user) (calls.FetchData a b c) a.volume (get a.volume s.lasting.volumes)
roomless_client s clock head user (calls.FetchAcl a) = roomless_in s clock head (the_user user) (calls.FetchAcl a) a.volume (get a.volume s.lasting.volumes)
roomless_client s clock head user (calls.FetchStatus a) = roomless_in s clock head (the_user user) (calls.FetchStatus a) a.volume (get a.volume s.lasting.volumes)
roomless_client s clock head user (calls.StoreData a b c d e f) = roomless_in s clock head (the_user user) (calls.StoreData a b c d e f) a.volume (get a.volume s.lasting.volumes)
roomless_client s clock head user (calls.StoreAcl a b) = roomless_in s clock head (the_user user) (calls.StoreAcl a b) a.volume (get a.volume s.lasting.volumes)
roomless_client s clock head user (calls.StoreStatus a b) = roomless_in s clock head (the_user user) (calls.StoreStatus a b) a.volume (get a.volume s.lasting.volumes)
roomless_client s clock head user (calls.RemoveFile a b) = roomless_in s clock head (the_user user) (calls.RemoveFile a b) a.volume (get a.volume s.lasting.volumes)
roomless_client s clock head user (calls.CreateFile a b c) = roomless_in s clock head (the_user user) (calls.CreateFile a b c) a.volume (get a.volume s.lasting.volumes)
roomless_client s clock head user (calls.Rename a b c d) = roomless_in s clock head (the_user user) (calls.Rename a b c d) a.volume (get a.volume s.lasting.volumes)
roomless_client s clock head user (calls.Symlink a b c d) = roomless_in s clock head (the_user user) (calls.Symlink a b c d) a.volume (get a.volume s.lasting.volumes)
roomless_client s clock head user (calls.Link a b c) = roomless_in s clock head (the_user user) (calls.Link a b c) a.volume (get a.volume s.lasting.volumes)
roomless_client s clock head user (calls.MakeDir a b c) = roomless_in s clock head (the_user user) (calls.MakeDir a b c) a.volume (get a.volume s.lasting.volumes)
roomless_client s clock head user (calls.RemoveDir a b) = roomless_in s clock head (the_user user) (calls.RemoveDir a b) a.volume (get a.volume s.lasting.volumes)
roomless_client s clock head user (calls.GetVolumeStatus a) = roomless_in s clock head (the_user user) (calls.GetVolumeStatus a) a (get a s.lasting.volumes)
roomless_client s clock head user (calls.GiveUpCallBacks a b) = ((λ e. absurd cc), (λ e. absurd e))
roomless_client s clock head user calls.GetTime = ((λ e. absurd cc), (λ e. absurd e))
roomless_client s clock head user (calls.BulkStatus a) = ((λ e. absurd (several_roomy head (the_user user) (sights s.lasting.volumes (the_user user) a) (sights_roomy s.lasting.volumes (the_user user) a) e)), (λ e. absurd e))
roomless_client s clock head user (calls.CallBack a b) = ((λ e. absurd cc), (λ e. absurd e))
roomless_client s clock head user calls.InitCallBackState = ((λ e. absurd cc), (λ e. absurd e))
roomless_client s clock head user calls.Probe = ((λ e. absurd cc), (λ e. absurd e))

roomless_of : (t : Bool) (s : ServerState) (clock : ℕ) (head : Head) (user : List ℕ) (call : FsCall) → (cond t (runs_received s clock head (whole head (carried.Call user (ask.File call)))) (refuses head not_served) ≡ refuses head no_room) ↔ ((t ≡ true) × LacksRoom s clock head (the_user user) call (volume_called call))
roomless_of true s clock head user call = ((λ e. (refl, (roomless_client s clock head user call).0 e)), (λ h. (roomless_client s clock head user call).1 h.1))
roomless_of false s clock head user call = ((λ e. absurd cc), (λ h. let q : false ≡ true = h.0 in absurd cc))

pub roomless : (s : ServerState) (clock : ℕ) (head : Head) (user : List ℕ) (call : FsCall) → (runs s clock head (whole head (carried.Call user (ask.File call))) ≡ refuses head no_room) ↔ ((is_client head.from ≡ true) × LacksRoom s clock head (the_user user) call (volume_called call))
roomless s clock head user call = roomless_of (is_client head.from) s clock head user call

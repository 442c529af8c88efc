use Rattle.std.specs.Prelude as outcome
use Rattle.std.specs.Prelude.{Ok, Err, ◌&&◌}
use Rattle.spec_records.specs.Durable.{Stored, has_room}
use Rattle.spec_rows.specs.States.{durable_of}
use Rattle.spec_rows.specs.ServerRow.{several, Sight, sights, statuses_read, reading_in, given_up_read, time_read, is_client, runs_received}
use Rattle.spec_records.specs.Durable.{has_room}
use Rattle.std.proofs.Common.{◌≡◌, ℕ, Bool, true, false, cond, List, Option, Some, None, refl, sym, ap, ◌∙◌}
use Rattle.std.specs.Prelude.{◌↔◌}
use Rattle.afs_num.specs.declared.types.Head.{Head}
use Rattle.afs_num.specs.declared.calls.FsCall.{FsCall}
use Rattle.afs_num.specs.declared.calls.FsCall.TheVariants as calls
use Rattle.afs_num.specs.declared.messages.Carried.TheVariants as carried
use Rattle.afs_num.specs.declared.messages.Call.TheVariants as ask
use Rattle.spec_ideal.specs.Operations.{Caller, the_user, Result, refused, reads, changes, no_operation, op, volume_called}
use Rattle.spec_ideal.specs.Tables.{get}
use Rattle.law_legal.proofs.BaseLaws.{yes_no}
use Rattle.law_legal.proofs.VolumeOperations.{op_is}
use Rattle.spec_rows.specs.ServerRow.{Decision, refuses, shows, saves, not_served, no_room, decided, in_volume, record_of, serves, runs, whole}
use Rattle.spec_rows.specs.States.{ServerState}
use Rattle.spec_model.specs.FsRows.{call_number}

-- A server tells that a call isn't served exactly where its opcode is none of those that it serves.

abbrev IsServed : ServerState → ℕ → Head → Caller → FsCall → ℕ → Type 0
IsServed s clock head caller call id = (o : Option Stored) → in_volume s clock head caller call id o ≡ refuses head not_served → ⊥

abbrev is_refusal : Decision → Bool
is_refusal (refuses head code) = true
is_refusal d = false

unrefused : (a : Decision) (head : Head) → is_refusal a ≡ false → a ≡ refuses head not_served → ⊥
unrefused a head isnt e = yes_no true refl (sym (ap is_refusal e) ∙ isnt)

unroomed : (t : Bool) (head : Head) (d : Decision) → (d ≡ refuses head not_served → ⊥) → cond t d (refuses head no_room) ≡ refuses head not_served → ⊥
unroomed true head d h e = h e
unroomed false head d h e = absurd cc

undecided : (s : ServerState) (clock : ℕ) (head : Head) (caller : Caller) (call : FsCall) (id : ℕ) (v : Stored) (r : Result) → (r ≡ no_operation → ⊥) → decided s clock head caller call id v r ≡ refuses head not_served → ⊥
undecided s clock head caller call id v (refused code) h e = absurd cc
undecided s clock head caller call id v (reads shown) h e = unrefused (shows head (reading_in id caller v shown)) head refl e
undecided s clock head caller call id v (changes es n) h e = unroomed (has_room (durable_of s.lasting) (record_of s.lasting.boot head clock (record { id = id; caller = caller; call = call; before = v; edits = es; shown = n }))) head (saves head (record { id = id; caller = caller; call = call; before = v; edits = es; shown = n })) (unrefused (saves head (record { id = id; caller = caller; call = call; before = v; edits = es; shown = n })) head refl) e
undecided s clock head caller call id v no_operation h e = h refl

served : (s : ServerState) (clock : ℕ) (head : Head) (caller : Caller) (call : FsCall) (id : ℕ) → volume_called call ≡ Some id → IsServed s clock head caller call id
served s clock head caller call id of None e = absurd cc
served s clock head caller call id of (Some v) e = undecided s clock head caller call id v (op id caller call v.volume) (op_is id caller call v.volume of) e

unseveral : (head : Head) (caller : Caller) (o : outcome.Result (List Sight) ℕ) → several head caller o ≡ refuses head not_served → ⊥
unseveral head caller (Err code) e = absurd cc
unseveral head caller (Ok xs) e = unrefused (shows head (statuses_read caller xs)) head refl e

served_client : (s : ServerState) (clock : ℕ) (head : Head) (user : List ℕ) (call : FsCall) → (runs_received s clock head (whole head (carried.Call user (ask.File call))) ≡ refuses head not_served) ↔ (serves (call_number call) ≡ false)
served_client s clock head user (calls.FetchData a b c) = ((λ z. absurd (served s clock head (the_user user) (calls.FetchData a b c) _ refl _ z)), (λ z. absurd cc))
served_client s clock head user (calls.FetchAcl a) = ((λ z. absurd (served s clock head (the_user user) (calls.FetchAcl a) _ refl _ z)), (λ z. absurd cc))
served_client s clock head user (calls.FetchStatus a) = ((λ z. absurd (served s clock head (the_user user) (calls.FetchStatus a) _ refl _ z)), (λ z. absurd cc))
served_client s clock head user (calls.StoreData a b c d e f) = ((λ z. absurd (served s clock head (the_user user) (calls.StoreData a b c d e f) _ refl _ z)), (λ z. absurd cc))
served_client s clock head user (calls.StoreAcl a b) = ((λ z. absurd (served s clock head (the_user user) (calls.StoreAcl a b) _ refl _ z)), (λ z. absurd cc))
served_client s clock head user (calls.StoreStatus a b) = ((λ z. absurd (served s clock head (the_user user) (calls.StoreStatus a b) _ refl _ z)), (λ z. absurd cc))
served_client s clock head user (calls.RemoveFile a b) = ((λ z. absurd (served s clock head (the_user user) (calls.RemoveFile a b) _ refl _ z)), (λ z. absurd cc))
served_client s clock head user (calls.CreateFile a b c) = ((λ z. absurd (served s clock head (the_user user) (calls.CreateFile a b c) _ refl _ z)), (λ z. absurd cc))
served_client s clock head user (calls.Rename a b c d) = ((λ z. absurd (served s clock head (the_user user) (calls.Rename a b c d) _ refl _ z)), (λ z. absurd cc))
served_client s clock head user (calls.Symlink a b c d) = ((λ z. absurd (served s clock head (the_user user) (calls.Symlink a b c d) _ refl _ z)), (λ z. absurd cc))
served_client s clock head user (calls.Link a b c) = ((λ z. absurd (served s clock head (the_user user) (calls.Link a b c) _ refl _ z)), (λ z. absurd cc))
served_client s clock head user (calls.MakeDir a b c) = ((λ z. absurd (served s clock head (the_user user) (calls.MakeDir a b c) _ refl _ z)), (λ z. absurd cc))
served_client s clock head user (calls.RemoveDir a b) = ((λ z. absurd (served s clock head (the_user user) (calls.RemoveDir a b) _ refl _ z)), (λ z. absurd cc))
served_client s clock head user (calls.GiveUpCallBacks a b) = ((λ z. absurd (unrefused (shows head (given_up_read a)) head refl z)), (λ z. absurd cc))
served_client s clock head user (calls.GetVolumeStatus a) = ((λ z. absurd (served s clock head (the_user user) (calls.GetVolumeStatus a) a refl (get a s.lasting.volumes) z)), (λ z. absurd cc))
served_client s clock head user calls.GetTime = ((λ z. absurd (unrefused (shows head (time_read clock)) head refl z)), (λ z. absurd cc))
served_client s clock head user (calls.BulkStatus a) = ((λ z. absurd (unseveral head (the_user user) (sights s.lasting.volumes (the_user user) a) z)), (λ z. absurd cc))
served_client s clock head user (calls.CallBack a b) = ((λ z. refl), (λ z. refl))
served_client s clock head user calls.InitCallBackState = ((λ z. refl), (λ z. refl))
served_client s clock head user calls.Probe = ((λ z. refl), (λ z. refl))

unserved_by : (t : Bool) (s : ServerState) (clock : ℕ) (head : Head) (user : List ℕ) (call : FsCall) → (cond t (runs_received s clock head (whole head (carried.Call user (ask.File call)))) (refuses head not_served) ≡ refuses head not_served) ↔ ((t && serves (call_number call)) ≡ false)
unserved_by true s clock head user call = served_client s clock head user call
unserved_by false s clock head user call = ((λ z. refl), (λ z. refl))

pub unserved : (s : ServerState) (clock : ℕ) (head : Head) (user : List ℕ) (call : FsCall) → (runs s clock head (whole head (carried.Call user (ask.File call))) ≡ refuses head not_served) ↔ ((is_client head.from && serves (call_number call)) ≡ false)
unserved s clock head user call = unserved_by (is_client head.from) s clock head user call

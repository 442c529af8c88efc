-- A file server that doesn't serve a call answers as if it had read it.
use Rattle.std.specs.Prelude.{◌≡◌, ℕ, List, false, if◌then◌else◌}
use Rattle.std.proofs.Common.{refl, ap, sym, subst}
use Rattle.afs_num.specs.Nodes.{same_node}
use Rattle.afs_num.specs.declared.calls.FsCall.{FsCall}
use Rattle.afs_num.specs.declared.calls.FsCall.TheVariants as calls
use Rattle.afs_num.specs.declared.messages.Call.{Call}
use Rattle.afs_num.specs.declared.messages.Call.TheVariants as ask
use Rattle.afs_num.specs.declared.messages.Carried.{Carried}
use Rattle.afs_num.specs.declared.messages.Carried.TheVariants as carried
use Rattle.afs_num.specs.declared.messages.Message.{Message}
use Rattle.afs_num.specs.declared.messages.Received.{Received}
use Rattle.afs_num.specs.declared.messages.Received.TheVariants.{Unserved, Whole}
use Rattle.afs_num.specs.declared.types.Head.{Head}
use Rattle.afs_num.specs.declared.types.Node.{Node}
use Rattle.spec_shape.specs.Tables.{is_among}
use Rattle.spec_ideal.specs.Tables.{Table}
use Rattle.spec_model.specs.Calls.{admitted, Admitted}
use Rattle.spec_model.specs.Calls as pairs
use Rattle.spec_model.specs.CellRows.{call_number}
use Rattle.spec_model.specs.Messages.{is_unserved, is_whole, FoundBy}
use Rattle.spec_rows.specs.Callbacks.{expired, turned_in}
use Rattle.spec_rows.specs.ServerRow.{drops, is_client, not_served, refuses, whole, Decision}
use Rattle.spec_rows.specs.ServerSteps.{done}
use Rattle.spec_rows.specs.States.{ServerState}
use Rattle.spec_rows.specs.Steps.{Step}
use Rattle.spec_volrows.specs.FileRow.{file_admits, file_called, file_carried, file_decides, file_row, file_serves}
use Rattle.afs_server.specs.Handling.{calls_served}

unserved_file : (holds : Table ℕ) (s : ServerState) (clock : ℕ) (head : Head) (user : List ℕ) (call : FsCall) → is_among calls_served (call_number (ask.File call)) ≡ false → file_serves holds s clock head user call ≡ refuses head not_served
unserved_file holds s clock head user (calls.CallBack a b) e = refl
unserved_file holds s clock head user calls.InitCallBackState e = refl
unserved_file holds s clock head user calls.Probe e = refl
unserved_file holds s clock head user (calls.FetchData a b c) e = absurd cc
unserved_file holds s clock head user (calls.FetchAcl a) e = absurd cc
unserved_file holds s clock head user (calls.FetchStatus a) e = absurd cc
unserved_file holds s clock head user (calls.StoreData a b c d f g) e = absurd cc
unserved_file holds s clock head user (calls.StoreAcl a b) e = absurd cc
unserved_file holds s clock head user (calls.StoreStatus a b) e = absurd cc
unserved_file holds s clock head user (calls.RemoveFile a b) e = absurd cc
unserved_file holds s clock head user (calls.CreateFile a b c) e = absurd cc
unserved_file holds s clock head user (calls.Rename a b c d) e = absurd cc
unserved_file holds s clock head user (calls.Symlink a b c d) e = absurd cc
unserved_file holds s clock head user (calls.Link a b c) e = absurd cc
unserved_file holds s clock head user (calls.MakeDir a b c) e = absurd cc
unserved_file holds s clock head user (calls.RemoveDir a b) e = absurd cc
unserved_file holds s clock head user (calls.GiveUpCallBacks a b) e = absurd cc
unserved_file holds s clock head user (calls.GetVolumeStatus a) e = absurd cc
unserved_file holds s clock head user calls.GetTime e = absurd cc
unserved_file holds s clock head user (calls.BulkStatus a) e = absurd cc

unserved_call : (holds : Table ℕ) (s : ServerState) (clock : ℕ) (head : Head) (user : List ℕ) (call : Call) → is_among calls_served (call_number call) ≡ false → file_carried holds s clock head (carried.Call user call) ≡ refuses head not_served
unserved_call holds s clock head user (ask.File call) e = unserved_file holds s clock head user call e
unserved_call holds s clock head user (ask.Volume call) e = refl
unserved_call holds s clock head user (ask.Location call) e = refl

same_admitted : (holds : Table ℕ) (s : ServerState) (clock : ℕ) (head : Head) (user : List ℕ) (call : Call) → is_among calls_served (call_number call) ≡ false → (a : Admitted Message) →
    file_admits holds s clock head (whole head (carried.Call user call)) a ≡ file_admits holds s clock head (Unserved head) a
same_admitted holds s clock head user call e pairs.runs = ap (λ (d : Decision). if is_client head.from then d else refuses head not_served) (unserved_call holds s clock head user call e)
same_admitted holds s clock head user call e (pairs.kept reply) = refl
same_admitted holds s clock head user call e pairs.in_progress = refl
same_admitted holds s clock head user call e pairs.older = refl
same_admitted holds s clock head user call e (pairs.wrong_boot boot) = refl

same_called : (me : Node) (holds : Table ℕ) (s : ServerState) (clock : ℕ) (head : Head) (user : List ℕ) (call : Call) → is_among calls_served (call_number call) ≡ false →
    file_called me holds s clock head (whole head (carried.Call user call)) ≡ file_called me holds s clock head (Unserved head)
same_called me holds s clock head user call e = ap (λ (d : Decision). if same_node head.to me then d else drops) (same_admitted holds s clock head user call e (admitted s.lasting.boot s.seats head))

-- the decision and the row are the same, over what the server finds and over the message
pub record SameRow (me : Node) (holds : Table ℕ) (s : ServerState) (clock : ℕ) (m : Message) (found : Received) : Type 0 where
  pub decision : file_decides me holds s clock found ≡ file_decides me holds s clock (Whole m)
  pub row : (place : ℕ) → file_row me holds s clock place found ≡ file_row me holds s clock place (Whole m)

abbrev row_of : Node → ServerState → ℕ → ℕ → Decision → Received → Step ServerState
row_of me s clock place d r = done me s clock place d (turned_in me s clock (expired clock s.backs) d r)

same_head : (me : Node) (holds : Table ℕ) (s : ServerState) (clock : ℕ) (head : Head) (user : List ℕ) (call : Call) → is_among calls_served (call_number call) ≡ false → SameRow me holds s clock (record { head = head; carried = carried.Call user call }) (Unserved head)
unfolding file_row
same_head me holds s clock head user call e =
    let same = sym (same_called me holds s clock head user call e) in
    record { decision = same; row = λ place. ap (λ (d : Decision). row_of me s clock place d (Unserved head)) same }

same_carried : (me : Node) (holds : Table ℕ) (s : ServerState) (clock : ℕ) (m : Message) (c : Carried) → m.carried ≡ c → SameRow me holds s clock (record { head = m.head; carried = c }) (Unserved m.head) → SameRow me holds s clock m (Unserved m.head)
same_carried me holds s clock m c e h = subst (λ (x : Carried). SameRow me holds s clock (record { head = m.head; carried = x }) (Unserved m.head)) (sym e) h

pub same_row : (me : Node) (holds : Table ℕ) (s : ServerState) (clock : ℕ) (m : Message) (found : Received) → FoundBy calls_served m found → SameRow me holds s clock m found
same_row me holds s clock m found (is_whole e) = subst (SameRow me holds s clock m) (sym e) (record { decision = refl; row = λ place. refl })
same_row me holds s clock m found (is_unserved user call is among e) =
    subst (SameRow me holds s clock m) (sym e) (same_carried me holds s clock m (carried.Call user call) is (same_head me holds s clock m.head user call among))

-- The step of a location database that is up is its host's.
use Rattle.std.specs.Prelude.{◌≡◌, ℕ, ◌-◌, ◌*◌, List, [], ◌∷◌, false, Option, Some, None, if◌then◌else◌}
use Rattle.std.proofs.Common.{refl, ap, sym, subst, ◌∙◌, arith}
use Rattle.afs_num.specs.Nodes.{same_node}
use Rattle.afs_num.specs.declared.location_calls.LocCall.{LocCall}
use Rattle.afs_num.specs.declared.location_calls.LocCall.TheVariants as calls
use Rattle.afs_num.specs.declared.messages.Call.{Call}
use Rattle.afs_num.specs.declared.messages.Call.TheVariants as ask
use Rattle.afs_num.specs.declared.messages.Carried.{Carried}
use Rattle.afs_num.specs.declared.messages.Carried.TheVariants as carried
use Rattle.afs_num.specs.declared.messages.Message.{Message}
use Rattle.afs_num.specs.declared.messages.Received.{Received}
use Rattle.afs_num.specs.declared.messages.Received.TheVariants.{Unserved, Whole}
use Rattle.afs_num.specs.declared.types.Head.{Head}
use Rattle.afs_num.specs.declared.types.Node.TheVariants.{Loc}
use Rattle.spec_history.specs.declared.lines.Line.TheVariants as lines
use Rattle.spec_history.specs.declared.lines.Outs.{Outs}
use Rattle.spec_shape.specs.Tables.{is_among}
use Rattle.afs_disk.specs.Fuses.{Fused}
use Rattle.spec_model.specs.Calls.{admitted, Admitted}
use Rattle.spec_model.specs.Calls as pairs
use Rattle.spec_model.specs.CellRows.{call_number}
use Rattle.spec_model.specs.Messages.{is_unserved, is_whole, messages_spelled, FoundBy}
use Rattle.spec_rows.specs.Hosts.{lowered, served, served_by, steady, struck, Blow}
use Rattle.spec_rows.specs.LocRow.{admits, called, drops, loc_decides, loc_device_calls, refuses, repeats, runs, runs_carried, saves, shows, tells_boot, LocDecision, LocState}
use Rattle.spec_rows.specs.LocSteps.{loc_does, loc_kind, loc_row, LocHost}
use Rattle.spec_rows.specs.ServerRow.{not_served, whole}
use Rattle.spec_rows.specs.Steps.{Step}
use Rattle.afs_locdb.specs.Handling.{loc_calls_served, loc_record_decided, IsKeptBehind, Makes}
use Rattle.afs_locdb.specs.Seen.{loc_seen, Database}
use Rattle.afs_host.specs.LocSeats.{DatabaseRunning, IsLocStepUp, IsLocUp}
use Rattle.afs_host.proofs.Stepping.{as_host_up}

-- what holds of the host that is just the database's state holds of each for which it stands
pub as_loc_up : {D : Type 0} (r : DatabaseRunning D) (h : LocHost) (P : LocHost → Type 0) → IsLocUp r h → P (record { state = loc_seen r.store; down = None; armed = r.armed }) → P h
as_loc_up {D} r h P up p = as_host_up (λ (none : Unit {0}) (b : Database (Fused D)). loc_seen b) r h P up p

-- ---- a call that it doesn't serve is answered as if it had read it

-- it serves each call of its interface
unserved_location : (s : LocState) (head : Head) (user : List ℕ) (call : LocCall) → is_among loc_calls_served (call_number (ask.Location call)) ≡ false → runs_carried s head (carried.Call user (ask.Location call)) ≡ refuses head not_served
unserved_location s head user (calls.CreateEntry entry) e = absurd cc
unserved_location s head user (calls.DeleteEntry id) e = absurd cc
unserved_location s head user (calls.GetEntryById id) e = absurd cc
unserved_location s head user (calls.GetEntryByName name) e = absurd cc
unserved_location s head user calls.GetNewVolumeId e = absurd cc
unserved_location s head user (calls.ReplaceEntry id entry) e = absurd cc
unserved_location s head user (calls.SetLock id operation force) e = absurd cc
unserved_location s head user (calls.ReleaseLock id) e = absurd cc
unserved_location s head user (calls.ListEntry index) e = absurd cc

unserved_call : (s : LocState) (head : Head) (user : List ℕ) (call : Call) → is_among loc_calls_served (call_number call) ≡ false → runs_carried s head (carried.Call user call) ≡ refuses head not_served
unserved_call s head user (ask.File call) e = refl
unserved_call s head user (ask.Volume call) e = refl
unserved_call s head user (ask.Location call) e = unserved_location s head user call e

same_runs : (s : LocState) (head : Head) (user : List ℕ) (call : Call) → is_among loc_calls_served (call_number call) ≡ false → runs s head (whole head (carried.Call user call)) ≡ runs s head (Unserved head)
same_runs s head user call e = ap (λ (d : LocDecision). if same_node head.from Loc then refuses head not_served else d) (unserved_call s head user call e)

same_admitted : (s : LocState) (head : Head) (user : List ℕ) (call : Call) → is_among loc_calls_served (call_number call) ≡ false → (a : Admitted Message) → admits s head (whole head (carried.Call user call)) a ≡ admits s head (Unserved head) a
same_admitted s head user call e pairs.runs = same_runs s head user call e
same_admitted s head user call e (pairs.kept reply) = refl
same_admitted s head user call e pairs.in_progress = refl
same_admitted s head user call e pairs.older = refl
same_admitted s head user call e (pairs.wrong_boot boot) = refl

same_called : (s : LocState) (head : Head) (user : List ℕ) (call : Call) → is_among loc_calls_served (call_number call) ≡ false → called s head (whole head (carried.Call user call)) ≡ called s head (Unserved head)
same_called s head user call e = ap (λ (d : LocDecision). if same_node head.to Loc then d else drops) (same_admitted s head user call e (admitted s.lasting.boot s.seats head))

-- the decision and the row are the same, over what the database finds and over the message
pub record SameLocRow (s : LocState) (m : Message) (found : Received) : Type 0 where
  pub decision : loc_decides s found ≡ loc_decides s (Whole m)
  pub row : (place : ℕ) → loc_row s place found ≡ loc_row s place (Whole m)

same_head : (s : LocState) (head : Head) (user : List ℕ) (call : Call) → is_among loc_calls_served (call_number call) ≡ false → SameLocRow s (record { head = head; carried = carried.Call user call }) (Unserved head)
unfolding loc_row
same_head s head user call e =
    let same = sym (same_called s head user call e) in
    record { decision = same; row = λ place. ap (loc_does s place) same }

same_carried : (s : LocState) (m : Message) (c : Carried) → m.carried ≡ c → SameLocRow s (record { head = m.head; carried = c }) (Unserved m.head) → SameLocRow s m (Unserved m.head)
same_carried s m c e h = subst (λ (x : Carried). SameLocRow s (record { head = m.head; carried = x }) (Unserved m.head)) (sym e) h

pub same_loc_row : (s : LocState) (m : Message) (found : Received) → FoundBy loc_calls_served m found → SameLocRow s m found
same_loc_row s m found (is_whole e) = subst (SameLocRow s m) (sym e) (record { decision = refl; row = λ place. refl })
same_loc_row s m found (is_unserved user call is among e) = subst (SameLocRow s m) (sym e) (same_carried s m (carried.Call user call) is (same_head s m.head user call among))

-- ---- a step that passed

-- a step makes a record, by four device calls, or none
pub loc_made_calls : {D : Type 0} (x : LocState) (d : LocDecision) (s t : Database D) → IsKeptBehind (loc_record_decided x.lasting.boot d) s t → (t.store.count - s.store.count) * 4 ≡ loc_device_calls x d
loc_made_calls {D} x drops s t done = omega (arith, done.1)
loc_made_calls {D} x (tells_boot head) s t done = omega (arith, done.1)
loc_made_calls {D} x (repeats reply) s t done = omega (arith, done.1)
loc_made_calls {D} x (refuses head code) s t done = omega (arith, done.1)
loc_made_calls {D} x (shows head r) s t done = omega (arith, done.1)
loc_made_calls {D} x (saves head c) s t done =
    let four : (t.store.count - s.store.count) * 4 ≡ 4 = omega (arith, done.1) in
    four

-- the step was made: the host's, where nothing hit it
pub loc_up_step : {D : Type 0} (old new : DatabaseRunning D) (h : LocHost) → IsLocUp old h → (clock place : ℕ) (m : Message) (found : Received) → FoundBy loc_calls_served m found → (outs : Outs) →
    Makes (loc_row (loc_seen old.store) place found) (lines.Given place ∷ []) new.store outs → new.armed ≡ lowered (loc_device_calls (loc_seen old.store) (loc_decides (loc_seen old.store) found)) old.armed →
    struck old.armed steady (loc_device_calls (loc_seen old.store) (loc_decides (loc_seen old.store) found)) ≡ None → IsLocStepUp new (lines.Given place ∷ []) outs (served loc_kind h clock place steady m)
loc_up_step {D} old new h up clock place m found by outs makes armed none =
    let s = loc_seen old.store in
    let same = same_loc_row s m found by in
    let nothing = subst (λ (d : LocDecision). struck old.armed steady (loc_device_calls s d) ≡ None) same.decision none in
    as_loc_up old h (λ (x : LocHost). IsLocStepUp new (lines.Given place ∷ []) outs (served loc_kind x clock place steady m)) up
    (subst (λ (b : Option Blow). IsLocStepUp new (lines.Given place ∷ []) outs (served_by loc_kind (record { state = s; down = None; armed = old.armed }) clock place m b)) (sym nothing) (record {
      host = record {
        state = ap (λ (x : Step LocState). x.state) (sym (same.row place)) ∙ sym makes.state;
        down = refl;
        armed = ap (λ (d : LocDecision). lowered (loc_device_calls s d) old.armed) (sym same.decision) ∙ sym armed;
      };
      lines = makes.lines ∙ ap (λ (x : Step LocState). x.lines) (same.row place);
      sent = makes.sent ∙ ap (λ (x : Step LocState). messages_spelled x.sent) (same.row place);
    }))

-- The location database was given bytes: its step was made, or memory ran out.
use Rattle.std.specs.Prelude.{◌≡◌, ◌≤◌, ℕ, ◌+◌, List, [], ◌∷◌, Option, Some, None, Err, Ok}
use Rattle.std.proofs.Common.{refl, ap, sym, subst, ◌∙◌, arith}
use Rattle.afs_num.specs.declared.messages.Message.{Message}
use Rattle.afs_num.specs.declared.messages.Received.TheVariants.{Whole}
use Rattle.spec_history.specs.declared.lines.Line.TheVariants as lines
use Rattle.spec_history.specs.declared.lines.Outs.{Outs}
use Rattle.afs_disk.specs.Disk.{PassesAll}
use Rattle.afs_disk.specs.Fuses.{Fused}
use Rattle.spec_model.specs.Messages.{received, received_by, FindsMessages}
use Rattle.spec_records.specs.LocDurable.{LocDurable}
use Rattle.spec_records.specs.LocRecords.{LocRecord}
use Rattle.spec_rows.specs.Hosts.{given, lowered, served, steady, Armed}
use Rattle.spec_rows.specs.LocRow.{loc_device_calls}
use Rattle.spec_rows.specs.LocSteps.{loc_kind, loc_row, LocHost}
use Rattle.afs_store.specs.Stores.{StoreOf}
use Rattle.afs_locdb.specs.Handling.{loc_calls_served, loc_decided_then, IsQuiet, IsUntouched, Makes}
use Rattle.afs_locdb.specs.Saving.{KeepsStore}
use Rattle.afs_locdb.specs.Seen.{loc_seen, Database, Serves}
use Rattle.afs_server_parts.specs.declared.faults.NodeFault.TheVariants as faults
use Rattle.afs_host.specs.LocSeats.{DatabaseRunning, IsLocStepUp, IsLocUp, LocCanRun, LocGoesOn}
use Rattle.afs_host.specs.LocServing.{RunsLocRow}
use Rattle.afs_host.specs.Setting.{IsSet}
use Rattle.afs_host.proofs.LocStepping.{as_loc_up, loc_up_step}
use Rattle.afs_host.proofs.Stepping.{lowered_set, unstruck, same_set}

abbrev the_calls : {D : Type 0} → DatabaseRunning D → List ℕ → ℕ
the_calls {D} old bytes = loc_device_calls (loc_seen old.store) (loc_decided_then old.store bytes)

-- what is known of a step that was made
pub record LocPassed {D : Type 0} (bytes : List ℕ) (old new : DatabaseRunning D) (outs : Outs) : Type 0 where
  pub step : (place : ℕ) → Makes (loc_row (loc_seen old.store) place (received_by loc_calls_served bytes)) (lines.Given place ∷ []) new.store outs
  pub found : FindsMessages loc_calls_served bytes
  pub serves : Serves new.store
  pub store : KeepsStore old.store new.store
  pub armed : new.armed ≡ lowered (the_calls old bytes) old.armed
  pub calls : new.store.store.disk.calls ≡ old.store.store.disk.calls + the_calls old bytes
  pub most : new.store.store.disk.calls ≤ old.store.store.disk.calls + 4
  pub passes : PassesAll (record { stop = old.store.store.disk.stop; fail = old.store.store.disk.fail }) old.store.store.disk.calls new.store.store.disk.calls
  pub stop : new.store.store.disk.stop ≡ old.store.store.disk.stop
  pub fail : new.store.store.disk.fail ≡ old.store.store.disk.fail

passed_so : {D : Type 0} (bytes : List ℕ) (old new : DatabaseRunning D) (outs : Outs) → LocPassed bytes old new outs →
    PassesAll (record { stop = old.store.store.disk.stop; fail = old.store.store.disk.fail }) old.store.store.disk.calls (old.store.store.disk.calls + the_calls old bytes)
passed_so {D} bytes old new outs p = subst (PassesAll (record { stop = old.store.store.disk.stop; fail = old.store.store.disk.fail }) old.store.store.disk.calls) p.calls p.passes

pub loc_passed_step : {D : Type 0} (bytes : List ℕ) (old new : DatabaseRunning D) (outs : Outs) → LocCanRun old → LocPassed bytes old new outs → (h : LocHost) → IsLocUp old h → (m : Message) → received bytes ≡ Whole m → (clock place : ℕ) →
    IsLocStepUp new (lines.Given place ∷ []) outs (served loc_kind h clock place steady m)
loc_passed_step {D} bytes old new outs can p h up m whole clock place =
    loc_up_step old new h up clock place m (received_by loc_calls_served bytes) (p.found m whole) outs (p.step place) p.armed
    (unstruck old.armed old.store.store.disk (the_calls old bytes) can.set (passed_so bytes old new outs p))

-- whatever the bytes are, it is the step of the row
pub loc_row_made : {D : Type 0} (bytes : List ℕ) (old new : DatabaseRunning D) (outs : Outs) →
    ((place : ℕ) → Makes (loc_row (loc_seen old.store) place (received_by loc_calls_served bytes)) (lines.Given place ∷ []) new.store outs) → new.armed ≡ lowered (the_calls old bytes) old.armed → RunsLocRow old bytes new (Ok outs)
loc_row_made {D} bytes old new outs step armed = λ h up clock place.
    let makes = step place in
    as_loc_up old h (λ (x : LocHost). IsLocStepUp new (lines.Given place ∷ []) outs (given loc_kind x clock place (received_by loc_calls_served bytes))) up (record {
      host = record { state = sym makes.state; down = refl; armed = sym armed };
      lines = makes.lines;
      sent = makes.sent;
    })

pub loc_passed_goes_on : {D : Type 0} (bytes : List ℕ) (old new : DatabaseRunning D) (outs : Outs) → LocCanRun old → LocPassed bytes old new outs → LocGoesOn 4 old new
loc_passed_goes_on {D} bytes old new outs can p = record {
  can_run = record {
    up = ap (λ (t : StoreOf (Fused D) LocRecord LocDurable). t.closed) p.store ∙ can.up;
    serves = p.serves;
    set = subst (λ (a : Armed). IsSet a new.store.store.disk) (sym p.armed)
        (lowered_set old.armed old.store.store.disk new.store.store.disk (the_calls old bytes) can.set (passed_so bytes old new outs p) p.stop p.fail p.calls);
  };
  device_calls = p.most;
}

-- ---- memory ran out

pub loc_quiet_then : (T : Type 0) (o : Option LocRecord) → IsQuiet {T = T} o (Err faults.OutOfMemory)
loc_quiet_then T None = tt
loc_quiet_then T (Some r) = tt

pub same_loc_goes_on : {D : Type 0} (old new : DatabaseRunning D) → LocCanRun old → new.armed ≡ old.armed → IsUntouched old.store new.store → new.store.store.disk.stop ≡ old.store.store.disk.stop → new.store.store.disk.fail ≡ old.store.store.disk.fail → new.store.store.disk.calls ≡ old.store.store.disk.calls → LocGoesOn 4 old new
same_loc_goes_on {D} old new can armed store stop fail calls = record {
  can_run = record {
    up = ap (λ (b : Database (Fused D)). b.store.closed) store ∙ can.up;
    serves = subst Serves (sym store) (record { here = record { boot = can.serves.here.boot; node = can.serves.here.node }; settled = can.serves.settled });
    set = subst (λ (a : Armed). IsSet a new.store.store.disk) (sym armed) (same_set old.armed old.store.store.disk new.store.store.disk can.set stop fail calls);
  };
  device_calls = omega (arith, calls);
}

-- The disk ended a step of the location database.
use Rattle.std.specs.Prelude.{◌≡◌, ℕ, List, [], ◌∷◌, Some, None}
use Rattle.std.proofs.Common.{refl, ap, sym, ◌∙◌}
use Rattle.afs_num.specs.declared.messages.Message.{Message}
use Rattle.afs_num.specs.declared.messages.Received.{Received}
use Rattle.afs_num.specs.declared.messages.Received.TheVariants.{Whole}
use Rattle.spec_history.specs.declared.lines.Line.{Line}
use Rattle.spec_history.specs.declared.lines.Line.TheVariants as lines
use Rattle.afs_disk.specs.Disk.{Rose}
use Rattle.afs_disk.specs.Fuses.{Fused}
use Rattle.afs_disk.specs.declared.disk.Disk.{Ghosts}
use Rattle.spec_model.specs.Messages.{FoundBy}
use Rattle.spec_records.specs.LocDurable.{LocDurable}
use Rattle.spec_records.specs.LocRecords.{LocRecord}
use Rattle.spec_rows.specs.LocRow.{drops, loc_decides, loc_device_calls, refuses, repeats, saves, shows, tells_boot, LocDecision, LocState}
use Rattle.spec_rows.specs.LocSteps.{loc_begun_after, loc_kind, LocHost}
use Rattle.afs_store.specs.Stores.{StoreOf}
use Rattle.afs_locdb.specs.Handling.{loc_calls_served, loc_record_decided}
use Rattle.afs_locdb.specs.Seen.{loc_seen, Database}
use Rattle.afs_host.specs.LocSeats.{loc_disk_of, DatabaseRunning, IsLocStepDown, IsLocUp, LocCanRun}
use Rattle.afs_host.specs.LocServing.{IsLocBroken, LocHasFallen}
use Rattle.afs_host.specs.LocStanding.{loc_keeping}
use Rattle.afs_host.specs.LocStarting.{loc_sight}
use Rattle.afs_host.specs.Seats.{Resting}
use Rattle.afs_host.specs.Serving.{HasServed}
use Rattle.afs_host.proofs.Broken.{fallen_step, Ended, IsStepOf}
use Rattle.afs_host.proofs.LocStepping.{same_loc_row}

-- a step that makes a record makes four device calls
pub loc_saves_calls : (s : LocState) (d : LocDecision) → (loc_record_decided s.lasting.boot d ≡ None → ⊥) → loc_device_calls s d ≡ 4
loc_saves_calls s drops some = absurd (some refl)
loc_saves_calls s (tells_boot head) some = absurd (some refl)
loc_saves_calls s (repeats reply) some = absurd (some refl)
loc_saves_calls s (refuses head code) some = absurd (some refl)
loc_saves_calls s (shows head r) some = absurd (some refl)
loc_saves_calls s (saves head c) some = refl

-- a step that its disk ended
abbrev pub LocEnded : {D : Type 0} → Ghosts D → Received → Database (Fused D) → D → D → Type 0
LocEnded w found b before after = Ended loc_keeping w (loc_record_decided b.store.durable.boot (loc_decides (loc_seen b) found)) (loc_begun_after (loc_seen b) (loc_decides (loc_seen b) found)) b.store.durable b.store.count before after

-- what it finds of a message is decided as the message is
pub loc_decides_so : {D : Type 0} (b : Database (Fused D)) (clock : ℕ) (found : Received) (m : Message) → FoundBy loc_calls_served m found →
    IsStepOf loc_keeping (loc_seen b) m clock (loc_record_decided b.store.durable.boot (loc_decides (loc_seen b) found)) (loc_begun_after (loc_seen b) (loc_decides (loc_seen b) found)) b.store.durable
loc_decides_so {D} b clock found m by =
    let same = (same_loc_row (loc_seen b) m found by).decision in
    record {
      read = refl;
      decides = ap (loc_record_decided b.store.durable.boot) (sym same);
      begins = ap (loc_begun_after (loc_seen b)) (sym same);
    }

-- the host fell with some luck, and as the line tells
pub loc_down_step : {D : Type 0} (w : Ghosts D) → ((disk : D) (pick : ℕ) (c : List ℕ) → w.left_by disk pick ≡ Some c → w.may_leave disk c) → ((disk : D) → w.left_by disk 1 ≡ w.seen disk) → (old new : DatabaseRunning D) (found : Received) → LocCanRun old → IsLocBroken w old found new →
    (s : Resting D) (line : Line) → LocHasFallen w new s line → (h : LocHost) → IsLocUp old h → (m : Message) → found ≡ Whole m → (clock place : ℕ) →
    HasServed loc_kind h clock place m (IsLocStepDown w.seen w.may_leave w.limit s (lines.Given place ∷ line ∷ [])) (Rose (w.faults (loc_disk_of old)) (w.faults s.disk))
loc_down_step {D} w leaves reads old new found can broken s line fallen h up m whole clock place =
    fallen_step loc_keeping loc_sight w leaves reads old new m clock (record {
      armed = broken.armed;
      set = can.set;
      node = ap (λ (t : StoreOf (Fused D) LocRecord LocDurable). t.node) broken.closed ∙ can.serves.here.node;
      counted = ap (λ (t : StoreOf (Fused D) LocRecord LocDurable). t.count) broken.closed;
      lies = λ b. broken.lies m clock b whole;
      reached = broken.reached;
      left = λ b. broken.left m clock b whole;
      saves = broken.saves m whole;
      few = broken.few;
      stop = broken.stop;
      cause = broken.cause;
      capacity = broken.capacity;
    }) s line fallen h up place

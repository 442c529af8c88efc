-- The location database as a kind of node: how its disk and its state fit together, and how it is up again.
use Rattle.std.specs.Prelude.{◌≡◌, ◌<◌, ◌+◌, List, [], ◌∷◌, ◌++◌, true, ℕ, Some, nat_lt}
use Rattle.std.proofs.Common.{refl, ap, sym, ◌∙◌, arith}
use Rattle.std.proofs.lemmas.Bool.{ltb-true}
use Rattle.afs_num.specs.declared.messages.Received.TheVariants.{Whole}
use Rattle.afs_num.specs.declared.types.Node.TheVariants.{Loc}
use Rattle.spec_history.specs.declared.lines.Line.{Line}
use Rattle.spec_history.specs.declared.lines.Line.TheVariants as lines
use Rattle.spec_history.specs.declared.lines.Outs.{Outs}
use Rattle.afs_disk.specs.Fuses.{Fused}
use Rattle.afs_disk.specs.declared.disk.Disk.{Ghosts}
use Rattle.spec_ideal.specs.Operations.{last_count}
use Rattle.spec_model.specs.Messages.{messages_spelled, parcels_read}
use Rattle.spec_records.specs.LocDurable.{loc_boot_record, loc_can_boot, loc_folded, loc_has_room, LocDurable}
use Rattle.spec_records.specs.LocLaws.{loc_started, LocStartsAreKept}
use Rattle.spec_records.specs.LocRecords.{FitsLocRecord}
use Rattle.spec_records.proofs.Forms.{some_is}
use Rattle.spec_rows.specs.Hosts.{at_rest, goes, in_boot, in_step, unarmed, Fall}
use Rattle.spec_rows.specs.LocRow.{drops, loc_can_start, loc_decides, loc_durable_of, loc_lasting_started, loc_revived, refuses, repeats, saves, shows, tells_boot, LocDecision, LocLasting, LocState}
use Rattle.spec_rows.specs.LocSteps.{loc_begun_after, loc_start_row}
use Rattle.spec_rows.specs.Steps.{Begun}
use Rattle.afs_locstore.specs.LocSound.{loc_sound}
use Rattle.afs_locdb.specs.Seen.{lasting_of, loc_seen, Database}
use Rattle.afs_host.specs.LocSeats.{DatabaseRunning, IsLocStepUp}
use Rattle.afs_host.specs.LocStanding.{loc_begun_by_disk, loc_begun_state, loc_keeping}
use Rattle.afs_host.specs.LocStarting.{loc_sight, IsLocStarted, LocBootsFrom, LocBootsOver, LocHasRisen, LocRises, LocStart, LocStartsOver}
use Rattle.afs_host.specs.Seats.{Resting}
use Rattle.afs_host.specs.Starting.{IsFound, IsStartedBy, StartsOverBy}
use Rattle.afs_host.specs.declared.starting.Start.TheVariants as starts
use Rattle.afs_host.proofs.Booting.{same_start, up_by}
use Rattle.afs_host.proofs.Lying.{IsSoundKeeping}
use Rattle.afs_host.proofs.Rising.{left_true, no_head_fits}

-- ---- its disk and its state

decided_capacity : (s : LocState) (d : LocDecision) → (loc_begun_after s d).state.lasting.capacity ≡ s.lasting.capacity
decided_capacity s drops = refl
decided_capacity s (tells_boot head) = refl
decided_capacity s (repeats reply) = refl
decided_capacity s (refuses head code) = refl
decided_capacity s (shows head r) = refl
decided_capacity s (saves head c) = refl

capacity_after : (s : LocState) (fall : Fall) → (loc_begun_by_disk s true fall).state.lasting.capacity ≡ s.lasting.capacity
capacity_after s at_rest = refl
capacity_after s (in_step m clock b) = decided_capacity s (loc_decides s (Whole m))
capacity_after s in_boot = refl

-- what a start leaves on the disk, as the state reads it
started_read : (d : LocDurable) (l : LocLasting) → lasting_of d ≡ l → lasting_of (loc_started d) ≡ loc_lasting_started l
started_read d l read = ap loc_lasting_started read

starts_are_kept : LocStartsAreKept
unfolding loc_folded
starts_are_kept d = refl

revives : (s : LocState) (d e : LocDurable) → lasting_of d ≡ s.lasting → loc_folded (loc_boot_record (d.boot + 1)) d ≡ Some e → lasting_of e ≡ loc_lasting_started s.lasting
revives s d e read takes = ap lasting_of (sym (some_is (loc_started d) e (sym (starts_are_kept d) ∙ takes))) ∙ started_read d s.lasting read

pub loc_fits : IsSoundKeeping loc_keeping
loc_fits = record {
  fold = loc_sound;
  sized = λ d. refl;
  booted = λ d. refl;
  same_capacity = capacity_after;
  revives = revives;
  tells = λ s d read ls. refl;
  begins = λ d. refl;
  same_can = λ s t same. ap (λ (l : LocLasting). loc_can_boot (loc_durable_of l)) same;
}

-- ---- the record of its boot

can_fits : (d : LocDurable) → loc_can_boot d ≡ true → d.boot < last_count
can_fits d can = ltb-true d.boot last_count (left_true (nat_lt d.boot last_count) (loc_has_room d (loc_boot_record (d.boot + 1))) can)

-- the record of a boot whose number is a word has a spelling
pub fits_loc_boot : (d : LocDurable) → loc_can_boot d ≡ true → FitsLocRecord (loc_boot_record (d.boot + 1))
fits_loc_boot d can = record { head = no_head_fits; body = (omega (arith, can_fits d can), tt); caller = refl }

-- ---- it is up

-- what a restart makes of this state
started_state : (begun : Begun LocState) (s : LocState) → s.lasting ≡ begun.state.lasting → loc_revived s ≡ (loc_start_row begun).state
unfolding loc_start_row
started_state begun s same = ap (λ (l : LocLasting). record { lasting = loc_lasting_started l; seats = l.kept }) same

started_lines : (begun : Begun LocState) (front : List Line) (d : LocDurable) → lasting_of d ≡ begun.state.lasting → ((ls : List Line) → begun.before ls ≡ front ++ ls) → front ++ lines.Restart Loc (d.boot + 1) ∷ [] ≡ (loc_start_row begun).lines
unfolding loc_start_row
started_lines begun front d read before = ap (λ (l : LocLasting). front ++ lines.Restart Loc (l.boot + 1) ∷ []) read ∙ sym (before (lines.Restart Loc (begun.state.lasting.boot + 1) ∷ []))

started_sent : (begun : Begun LocState) → parcels_read [] ≡ messages_spelled (loc_start_row begun).sent
unfolding loc_start_row
started_sent begun = refl

-- what is known of a boot that was made
pub record LocBooted {D : Type 0} (b t : Database (Fused D)) : Type 0 where
  pub can : loc_can_boot b.store.durable ≡ true
  pub boot : t.store.durable.boot ≡ b.store.durable.boot + 1
  pub revived : loc_seen t ≡ loc_revived (loc_seen b)

module _ {D : Type 0} (w : Ghosts D) (front : List Line) (b t : Database (Fused D)) (booted : LocBooted b t) where
  risen_up : (begun : Begun LocState) (r : DatabaseRunning D) (outs : Outs) → lasting_of b.store.durable ≡ begun.state.lasting → ((ls : List Line) → begun.before ls ≡ front ++ ls) → LocHasRisen t front r outs → IsLocStepUp r [] outs (goes unarmed (loc_start_row begun))
  risen_up begun r outs read before risen = record {
    host = record {
      state = sym (ap loc_seen risen.store ∙ (booted.revived ∙ started_state begun (loc_seen b) read));
      down = refl;
      armed = sym risen.armed;
    };
    lines = risen.lines_are ∙ (ap (λ (n : ℕ). front ++ lines.Restart Loc n ∷ []) booted.boot ∙ started_lines begun front b.store.durable read before);
    sent = ap parcels_read risen.sent ∙ started_sent begun;
  }

  pub loc_risen_boots : (begun : Begun LocState) (records : List (List ℕ)) → IsFound loc_keeping w begun records front b.store → (result : LocStart D) → LocRises t front result → LocBootsFrom w begun records b.store.disk.disk result
  loc_risen_boots begun records found (starts.Up r outs) risen = (up_by (loc_can_start begun.state) (same_start loc_keeping loc_fits begun.state b.store.durable found.read ∙ booted.can), risen_up begun r outs found.read found.before risen)
  loc_risen_boots begun records found (starts.Down d ls) risen = absurd risen
  loc_risen_boots begun records found (starts.Unchanged d) risen = absurd risen
  loc_risen_boots begun records found (starts.Lost d) risen = absurd risen

  -- whatever the disk tells
  pub loc_risen_over : w.faults t.store.disk.disk ≡ w.faults b.store.disk.disk → (result : LocStart D) → LocRises t front result → LocBootsOver w b.store.durable front (w.faults b.store.disk.disk) result
  loc_risen_over quiet (starts.Up r outs) risen = (
    up_by (loc_can_boot b.store.durable) booted.can,
    (risen_up (record { state = loc_begun_state b.store.durable; before = λ ls. front ++ ls }) r outs refl (λ ls. refl) risen, ap (λ (x : Database (Fused D)). w.faults x.store.disk.disk) risen.store ∙ quiet),
  )
  loc_risen_over quiet (starts.Down d ls) risen = absurd risen
  loc_risen_over quiet (starts.Unchanged d) risen = absurd risen
  loc_risen_over quiet (starts.Lost d) risen = absurd risen

-- ---- it begins again as any node does, at whatever time, and is never lost

module _ {D : Type 0} (w : Ghosts D) (old : Resting D) where
  pub loc_begun_so : (result : LocStart D) → ((clock count : ℕ) → IsStartedBy loc_keeping loc_sight w clock count old result) → ((s : Resting D) → result ≡ starts.Lost s → ⊥) → IsLocStarted w old result
  loc_begun_so (starts.Up r outs) all found = λ h was clock count. all clock count h was
  loc_begun_so (starts.Down s ls) all found = λ h was clock count. all clock count h was
  loc_begun_so (starts.Unchanged s) all found = all 0 0
  loc_begun_so (starts.Lost s) all found = found s refl

  pub loc_starts_over : (result : LocStart D) → StartsOverBy loc_keeping loc_sight w loc_start_row old result → LocStartsOver w old result
  loc_starts_over (starts.Up r outs) over = over
  loc_starts_over (starts.Down s ls) over = over
  loc_starts_over (starts.Unchanged s) over = over
  loc_starts_over (starts.Lost s) over = over.boots.0

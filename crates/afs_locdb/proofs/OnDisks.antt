-- What a change, or a refusal in its place, does to the disk.
use Rattle.std.proofs.Common.{◌≡◌, ◌+◌, ℕ, Bool, true, false, List, Option, Some, None, refl, sym, ap, subst, ◌∙◌}
use Rattle.std.specs.Prelude.{pos, Result, Ok, Err, IsErrOf}
use Rattle.afs_disk.specs.declared.disk.Disk.{Ghosts}
use Rattle.spec_history.specs.declared.lines.Outs.{Outs}
use Rattle.afs_num.specs.declared.types.Head.{Head}
use Rattle.spec_records.specs.LocDurable.{loc_has_room, LocDurable}
use Rattle.spec_records.specs.LocRecords.{LocRecord}
use Rattle.spec_rows.specs.LocRow.{roomed, LocChange, LocDecision}
use Rattle.spec_rows.specs.ServerRow.{refusal}
use Rattle.afs_locdb.specs.Handling.{loc_record_decided, Answers}
use Rattle.afs_locdb.specs.Saving.{IsChangeOf, IsStill, LocStoreOf, OnDisk, Prepares}
use Rattle.afs_locdb.specs.Seen.{loc_seen, Database}
use Rattle.afs_server_parts.specs.declared.faults.NodeFault.{NodeFault}
use Rattle.afs_server_parts.specs.declared.faults.NodeFault.TheVariants as nodes
use Rattle.afs_locdb.specs.declared.saving.Planned.{Planned}
use Rattle.afs_locdb.proofs.Saves.{in_store, is_full, is_roomed}
use Rattle.afs_saving.proofs.Still.{behind, is_still}
use Rattle.afs_locstore.specs.LocFold.{loc_fold}
use Rattle.afs_disk.specs.Words.{SameDiskBy}
use Rattle.afs_journal.specs.Words.{SameCountsBy}

module _ {D : Type 0} (w : Ghosts D) (head : Head) (c : LocChange) (old new : Database D) (m : LocStoreOf D) (p : Planned) where
  abbrev On : {T : Type 0} → Option LocRecord → LocDurable → D → D → Result T NodeFault → Type 0
  On {T} decided d a b result = OnDisk w decided d a b result

  abbrev SameOf : D → D → Type 0
  SameOf a b = SameDiskBy w a b

  abbrev CountsOf : D → D → Type 0
  CountsOf a b = SameCountsBy w a b

  -- a refusal leaves the disk alone
  refused_disk : (result : Result Outs NodeFault) → Answers head (refusal m.durable.boot head (pos 108)) (in_store m old) new result → (IsErrOf result nodes.Down → ⊥) → (new.store.disk ≡ m.disk) × IsStill {R = LocRecord} None result
  refused_disk (Ok outs) answers up = (ap (λ (u : LocStoreOf D). u.disk) answers.1.1, refl)
  refused_disk (Err nodes.OutOfMemory) answers up = (ap (λ (b : Database D). b.store.disk) answers, tt)
  refused_disk (Err nodes.Down) answers up = absurd (up refl)

  pub disk_all : (result : Result Outs NodeFault) (b : Bool) → b ≡ loc_has_room old.store.durable p.rec → Prepares {E = NodeFault} p.rec old.store m (Ok b) → SameOf old.store.disk m.disk → CountsOf old.store.disk m.disk → IsChangeOf old head c p →
      (b ≡ true → On (Some p.rec) m.durable m.disk new.store.disk result) → (b ≡ false → Answers head (refusal m.durable.boot head (pos 108)) (in_store m old) new result) → (b ≡ false → IsErrOf result nodes.Down → ⊥) →
      On (loc_record_decided old.store.durable.boot (roomed (loc_seen old) head c)) old.store.durable old.store.disk new.store.disk result
  disk_all result true room prepares same counts change put answers up =
      let d = old.store.durable in
      let same_durable : m.durable ≡ d = ap (λ (u : LocStoreOf D). u.durable) prepares in
      let decided : Some p.rec ≡ loc_record_decided d.boot (roomed (loc_seen old) head c) = ap (λ (r : LocRecord). Some r) change.rec_is ∙ sym (ap (loc_record_decided d.boot) (is_roomed head c old new m p true change room refl)) in
      subst (λ (o : Option LocRecord). On o d old.store.disk new.store.disk result) decided
      (subst (λ (k : LocDurable). On (Some p.rec) k old.store.disk new.store.disk result) same_durable
      (behind loc_fold w (Some p.rec) m.durable old.store.disk m.disk new.store.disk result same counts (put refl)))
  disk_all result false room prepares same counts change put answers up =
      let d = old.store.durable in
      let none : None ≡ loc_record_decided d.boot (roomed (loc_seen old) head c) = sym (ap (loc_record_decided d.boot) (is_full head c old new m p false change room refl)) in
      let still = refused_disk result (answers refl) (up refl) in
      subst (λ (o : Option LocRecord). On o d old.store.disk new.store.disk result) none
      (subst (λ (x : D). On None d old.store.disk x result) (sym still.0)
      (is_still loc_fold w None d old.store.disk m.disk result still.1 same counts))

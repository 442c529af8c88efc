-- What a change does to the disk, whether there is room for its record or not.
use Rattle.std.proofs.Common.{◌≡◌, ℕ, Bool, true, false, List, [], Option, Some, None, refl, sym, ap, subst}
use Rattle.std.specs.Prelude.{Result, Ok, Err, pos, IsErrOf}
use Rattle.afs_disk.specs.Disk.{Setting}
use Rattle.afs_disk.specs.declared.disk.Disk.{Ghosts}
use Rattle.afs_num.specs.declared.records.StoreRecord.{StoreRecord}
use Rattle.afs_num.specs.declared.types.Head.{Head}
use Rattle.afs_num.specs.declared.volumes.Change as made_of
use Rattle.spec_history.specs.declared.lines.Outs.{Outs}
use Rattle.spec_records.specs.Durable.{has_room, Durable}
use Rattle.spec_rows.specs.Callbacks as row
use Rattle.spec_rows.specs.ServerRow.{refusal, roomed, Change}
use Rattle.afs_volstore.specs.Stores.{Store}
use Rattle.afs_decisions.specs.Deciding.{IsMade}
use Rattle.afs_server.specs.Handling.{record_decided, server_seen, Answers}
use Rattle.afs_callbacks.specs.Saving.{IsPlanned}
use Rattle.afs_server.specs.Seen.{callbacks_of, Memory}
use Rattle.afs_server_parts.specs.declared.faults.NodeFault.{NodeFault}
use Rattle.afs_server_parts.specs.declared.faults.NodeFault.TheVariants as nodes
use Rattle.afs_callbacks.specs.declared.saving.Planned.{Planned}
use Rattle.afs_server.proofs.Saves.{refused_record, saved_record}
use Rattle.afs_saving.proofs.Still.{behind, is_still}
use Rattle.afs_server_parts.specs.Turning.{answer_turn}
use Rattle.afs_volstore.specs.VolumeFold.{volume_fold}
use Rattle.afs_disk.specs.Words.{SameDiskBy}
use Rattle.afs_journal.specs.Words.{SameCountsBy}
use Rattle.afs_sharing.specs.Stores.{stand_of, OnDisk, Prepares}
use Rattle.afs_saving.specs.Saving.{IsStill}

module _ {D : Type 0} (w : Ghosts D) where
  abbrev Of : Option StoreRecord → Durable → D → D → Result Outs NodeFault → Type 0
  Of decided d old new result = OnDisk w decided d old new result

  abbrev SameD : D → D → Type 0
  SameD old new = SameDiskBy w old new

  abbrev CountsD : D → D → Type 0
  CountsD old new = SameCountsBy w old new

  none_written : (result : Result Outs NodeFault) → (IsErrOf result nodes.Down → ⊥) → IsStill {R = StoreRecord} None result
  none_written (Ok outs) up = refl
  none_written (Err nodes.OutOfMemory) up = tt
  none_written (Err nodes.Down) up = absurd (up refl)

  still_as : (d : Durable) (old mid new : D) (result : Result Outs NodeFault) → SameD old mid → CountsD old mid → new ≡ mid → (IsErrOf result nodes.Down → ⊥) → Of None d old new result
  still_as d old mid new result same counts is up =
      subst (λ (u : D). Of None d old u result) (sym is)
      (is_still volume_fold w None d old mid result (none_written result up) same counts)

  module _ (clock id : ℕ) (head : Head) (c : Change) (x : made_of.Change) (old new : Memory) (s mid t : Store D) (p : Planned) where
    abbrev Refused : Result Outs NodeFault → Type 0
    Refused result = Answers {E = NodeFault} head (refusal mid.durable.boot head (pos 108)) [] (answer_turn (refusal mid.durable.boot head (pos 108)) [] false (row.expired clock (server_seen old mid).backs)) old new mid t result

    same_disk_by : (result : Result Outs NodeFault) → Refused result → t.disk ≡ mid.disk
    same_disk_by (Ok outs) answers = ap (λ (u : Store D). u.disk) answers.1.1
    same_disk_by (Err e) answers = ap (λ (u : Store D). u.disk) answers.1

    pub disk_all : (result : Result Outs NodeFault) (b : Bool) → b ≡ has_room s.durable p.rec → Prepares {E = NodeFault} p.rec s mid (Ok b) → SameD s.disk mid.disk → CountsD s.disk mid.disk → IsMade clock id c x →
        IsPlanned (stand_of s) clock head id x (callbacks_of old) p → (b ≡ true → Of (Some p.rec) mid.durable mid.disk t.disk result) → (b ≡ false → Refused result) → (b ≡ false → IsErrOf result nodes.Down → ⊥) →
        Of (record_decided s.durable.boot clock (roomed (server_seen old s) clock head c)) s.durable s.disk t.disk result
    disk_all result true room prepares same counts is plan written answers up =
        subst (λ (o : Option StoreRecord). Of o s.durable s.disk t.disk result) (sym (saved_record clock id head c x old new s mid t p true is plan room refl))
        (behind volume_fold w (Some p.rec) s.durable s.disk mid.disk t.disk result same counts
        (subst (λ (d : Durable). Of (Some p.rec) d mid.disk t.disk result) (ap (λ (u : Store D). u.durable) prepares) (written refl)))
    disk_all result false room prepares same counts is plan written answers up =
        subst (λ (o : Option StoreRecord). Of o s.durable s.disk t.disk result) (sym (refused_record clock id head c x old new s mid t p false is plan room refl))
        (still_as s.durable s.disk mid.disk t.disk result same counts (same_disk_by result (answers refl)) (up refl))

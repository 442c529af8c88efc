-- What became of a server node that was given a message, once it has fallen where its disk ended the step.
use Rattle.std.specs.Prelude.{◌≡◌, ◌≤◌, ◌↔◌, ℕ, List, Option, Some, Err, Ok, Result, IsSome}
use Rattle.std.proofs.Common.{ap, sym, subst, ◌∙◌}
use Rattle.afs_num.specs.declared.messages.Received.{Received}
use Rattle.afs_num.specs.declared.types.Node.{Node}
use Rattle.afs_num.specs.declared.types.Parcel.{Parcel}
use Rattle.spec_history.specs.declared.lines.Line.TheVariants as lines
use Rattle.spec_history.specs.declared.lines.Outs.{Outs}
use Rattle.afs_disk.specs.Fuses.{Fused}
use Rattle.afs_disk.specs.declared.disk.Disk.{Ghosts}
use Rattle.spec_rows.specs.Hosts.{steady}
use Rattle.afs_volstore.specs.Stores.{Store}
use Rattle.afs_server_parts.specs.declared.faults.NodeFault.{NodeFault}
use Rattle.afs_server_parts.specs.declared.faults.NodeFault.TheVariants as nodes
use Rattle.afs_serverhost.specs.Seats.{disk_of, CanRun, ServerRunning}
use Rattle.afs_host.specs.Views.{count_mark}
use Rattle.afs_serverhost.specs.Serving.{disk_served, Becomes, GoesOnServed, IsHandled, IsServed, KeepsMark, MakesRow, RestsServed, RunsRow}
use Rattle.afs_serverhost.proofs.Breaking.{down_step}

module _ {D : Type 0} (w : Ghosts D) (old new : ServerRunning D) where
  abbrev Handled : ℕ → Received → Result (Outs × List Parcel) NodeFault → Type 0
  Handled clock found result = IsHandled w old clock found new result

  pub served_so : ((disk : D) (pick : ℕ) (c : List ℕ) → w.left_by disk pick ≡ Some c → w.may_leave disk c) → ((disk : D) → w.left_by disk 1 ≡ w.seen disk) → (clock : ℕ) (found : Received) (result : Result (Outs × List Parcel) NodeFault) → CanRun old → Handled clock found result
      → Becomes w (λ s. IsServed w old clock found s) new result
  served_so leaves shows clock found (Ok r) can handled = λ h up m whole place. record { luck = steady; is_luck = tt; is = handled.0 h up m whole place; blame = λ own. absurd own }
  served_so leaves shows clock found (Err nodes.OutOfMemory) can handled = handled.0
  served_so leaves shows clock found (Err nodes.Down) can broken = down_step w leaves shows old new clock found can broken

  pub row_so : (clock : ℕ) (bytes : List ℕ) (result : Result (Outs × List Parcel) NodeFault) → RunsRow old clock bytes new result → Becomes w (λ s. MakesRow old clock bytes s) new result
  row_so clock bytes (Ok r) row = row
  row_so clock bytes (Err nodes.OutOfMemory) row = tt
  row_so clock bytes (Err nodes.Down) row = λ s line fallen. row

  pub goes_on_so : (clock : ℕ) (found : Received) (result : Result (Outs × List Parcel) NodeFault) → Handled clock found result → Becomes w (λ s. GoesOnServed old s) new result
  goes_on_so clock found (Ok r) handled = handled.1
  goes_on_so clock found (Err nodes.OutOfMemory) handled = handled.1
  goes_on_so clock found (Err nodes.Down) broken = λ s line fallen. tt

  pub mark_so : (clock : ℕ) (found : Received) (result : Result (Outs × List Parcel) NodeFault) → Handled clock found result → Becomes w (λ s. KeepsMark old s) new result
  mark_so clock found (Ok r) handled = tt
  mark_so clock found (Err nodes.OutOfMemory) handled = tt
  mark_so clock found (Err nodes.Down) broken = λ s line fallen. fallen.mark ∙ ap (λ (t : Store (Fused D)). count_mark t.count) broken.closed.is

  pub rests_so : (clock : ℕ) (found : Received) (result : Result (Outs × List Parcel) NodeFault) → Handled clock found result → Becomes w (λ s. RestsServed w old.store.node s) new result
  rests_so clock found (Ok r) handled = tt
  rests_so clock found (Err nodes.OutOfMemory) handled = tt
  rests_so clock found (Err nodes.Down) broken = λ s line fallen crash. fallen.rests (crash ∙ ap (λ (n : Node). lines.Crash n) (ap (λ (t : Store (Fused D)). t.node) (sym broken.closed.is)))

  pub told_so : (result : Result (Outs × List Parcel) NodeFault) → (IsSome (w.seen (disk_of new)) ↔ IsSome (w.seen (disk_of old))) → Becomes w (λ s. IsSome (w.seen (disk_served s)) ↔ IsSome (w.seen (disk_of old))) new result
  told_so (Ok r) told = told
  told_so (Err nodes.OutOfMemory) told = told
  told_so (Err nodes.Down) told = λ s line fallen. ((λ tells. told.0 (fallen.told.0 tells)), (λ tells. fallen.told.1 (told.1 tells)))

  pub limit_so : (result : Result (Outs × List Parcel) NodeFault) → w.limit (disk_of new) ≡ w.limit (disk_of old) → Becomes w (λ s. w.limit (disk_served s) ≡ w.limit (disk_of old)) new result
  limit_so (Ok r) same = same
  limit_so (Err nodes.OutOfMemory) same = same
  limit_so (Err nodes.Down) same = λ s line fallen. fallen.same_limit ∙ same

  pub faults_so : (result : Result (Outs × List Parcel) NodeFault) → w.faults (disk_of old) ≤ w.faults (disk_of new) → Becomes w (λ s. w.faults (disk_of old) ≤ w.faults (disk_served s)) new result
  faults_so (Ok r) few = few
  faults_so (Err nodes.OutOfMemory) few = few
  faults_so (Err nodes.Down) few = λ s line fallen. subst (λ (n : ℕ). w.faults (disk_of old) ≤ n) (sym fallen.same_faults) few

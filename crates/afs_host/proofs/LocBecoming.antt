-- What became of a location database that was given a message, once it has fallen where its disk ended the step.
use Rattle.std.specs.Prelude.{◌≡◌, ◌≤◌, ◌↔◌, ℕ, List, Some, Err, Ok, Result, IsSome}
use Rattle.std.proofs.Common.{ap, sym, subst, ◌∙◌}
use Rattle.afs_num.specs.declared.messages.Received.{Received}
use Rattle.afs_num.specs.declared.types.Node.{Node}
use Rattle.afs_num.specs.declared.types.Node.TheVariants.{Loc}
use Rattle.spec_history.specs.declared.lines.Line.TheVariants as lines
use Rattle.spec_history.specs.declared.lines.Outs.{Outs}
use Rattle.afs_disk.specs.Fuses.{Fused}
use Rattle.afs_disk.specs.declared.disk.Disk.{Ghosts}
use Rattle.spec_records.specs.LocDurable.{LocDurable}
use Rattle.spec_records.specs.LocRecords.{LocRecord}
use Rattle.spec_rows.specs.Hosts.{steady}
use Rattle.afs_store.specs.Stores.{StoreOf}
use Rattle.afs_server_parts.specs.declared.faults.NodeFault.{NodeFault}
use Rattle.afs_server_parts.specs.declared.faults.NodeFault.TheVariants as nodes
use Rattle.afs_host.specs.LocSeats.{loc_disk_of, DatabaseRunning, LocCanRun}
use Rattle.afs_host.specs.LocServing.{loc_disk_served, IsLocHandled, IsLocServed, LocBecomes, LocGoesOnServed, LocKeepsMark, LocRestsServed, MakesLocRow, RunsLocRow}
use Rattle.afs_host.specs.Views.{count_mark}
use Rattle.afs_host.proofs.LocBreaking.{loc_down_step}

module _ {D : Type 0} (w : Ghosts D) (old new : DatabaseRunning D) where
  pub loc_served_so : ((disk : D) (pick : ℕ) (c : List ℕ) → w.left_by disk pick ≡ Some c → w.may_leave disk c) → ((disk : D) → w.left_by disk 1 ≡ w.seen disk) → (found : Received) (result : Result Outs NodeFault) → LocCanRun old → IsLocHandled w old found new result → LocBecomes w (λ s. IsLocServed w old found s) new result
  loc_served_so leaves shows found (Ok outs) can handled = λ h up m whole clock place. record { luck = steady; is_luck = tt; is = handled.0 h up m whole clock place; blame = λ own. absurd own }
  loc_served_so leaves shows found (Err nodes.OutOfMemory) can handled = handled.0
  loc_served_so leaves shows found (Err nodes.Down) can broken = loc_down_step w leaves shows old new found can broken

  pub loc_row_so : (bytes : List ℕ) (result : Result Outs NodeFault) → RunsLocRow old bytes new result → LocBecomes w (λ s. MakesLocRow old bytes s) new result
  loc_row_so bytes (Ok outs) row = row
  loc_row_so bytes (Err nodes.OutOfMemory) row = tt
  loc_row_so bytes (Err nodes.Down) row = λ s line fallen. row

  pub loc_goes_on_so : (found : Received) (result : Result Outs NodeFault) → IsLocHandled w old found new result → LocBecomes w (λ s. LocGoesOnServed old s) new result
  loc_goes_on_so found (Ok outs) handled = handled.1
  loc_goes_on_so found (Err nodes.OutOfMemory) handled = handled.1
  loc_goes_on_so found (Err nodes.Down) broken = λ s line fallen. tt

  pub loc_mark_so : (found : Received) (result : Result Outs NodeFault) → IsLocHandled w old found new result → LocBecomes w (λ s. LocKeepsMark old s) new result
  loc_mark_so found (Ok outs) handled = tt
  loc_mark_so found (Err nodes.OutOfMemory) handled = tt
  loc_mark_so found (Err nodes.Down) broken = λ s line fallen. fallen.mark ∙ ap (λ (t : StoreOf (Fused D) LocRecord LocDurable). count_mark t.count) broken.closed

  pub loc_rests_so : (found : Received) (result : Result Outs NodeFault) → LocCanRun old → IsLocHandled w old found new result → LocBecomes w (λ s. LocRestsServed w s) new result
  loc_rests_so found (Ok outs) can handled = tt
  loc_rests_so found (Err nodes.OutOfMemory) can handled = tt
  loc_rests_so found (Err nodes.Down) can broken = λ s line fallen crash.
      let node : Loc ≡ new.store.store.node = sym (ap (λ (t : StoreOf (Fused D) LocRecord LocDurable). t.node) broken.closed ∙ can.serves.here.node) in
      fallen.rests (crash ∙ ap (λ (n : Node). lines.Crash n) node)

  pub loc_told_so : (result : Result Outs NodeFault) → (IsSome (w.seen (loc_disk_of new)) ↔ IsSome (w.seen (loc_disk_of old))) → LocBecomes w (λ s. IsSome (w.seen (loc_disk_served s)) ↔ IsSome (w.seen (loc_disk_of old))) new result
  loc_told_so (Ok outs) told = told
  loc_told_so (Err nodes.OutOfMemory) told = told
  loc_told_so (Err nodes.Down) told = λ s line fallen. ((λ tells. told.0 (fallen.told.0 tells)), (λ tells. fallen.told.1 (told.1 tells)))

  pub loc_limit_so : (result : Result Outs NodeFault) → w.limit (loc_disk_of new) ≡ w.limit (loc_disk_of old) → LocBecomes w (λ s. w.limit (loc_disk_served s) ≡ w.limit (loc_disk_of old)) new result
  loc_limit_so (Ok outs) same = same
  loc_limit_so (Err nodes.OutOfMemory) same = same
  loc_limit_so (Err nodes.Down) same = λ s line fallen. fallen.same_limit ∙ same

  pub loc_faults_so : (result : Result Outs NodeFault) → w.faults (loc_disk_of old) ≤ w.faults (loc_disk_of new) → LocBecomes w (λ s. w.faults (loc_disk_of old) ≤ w.faults (loc_disk_served s)) new result
  loc_faults_so (Ok outs) few = few
  loc_faults_so (Err nodes.OutOfMemory) few = few
  loc_faults_so (Err nodes.Down) few = λ s line fallen. subst (λ (n : ℕ). w.faults (loc_disk_of old) ≤ n) (sym fallen.same_faults) few

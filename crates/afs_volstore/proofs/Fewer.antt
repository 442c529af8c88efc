-- However many records, a server has no more volumes than it may have.
use Rattle.std.proofs.Common.{◌≡◌, ℕ, ◌+◌, Bool, true, false, List, length, Option, Some, None, refl, sym, subst, if◌then◌else◌}
use Rattle.std.specs.Option.{option_map}
use Rattle.afs_num.specs.declared.records.RecordBody.{RecordBody}
use Rattle.afs_num.specs.declared.records.RecordHead.{RecordHead}
use Rattle.afs_num.specs.declared.records.StoreRecord.{StoreRecord}
use Rattle.spec_records.specs.Durable.{noted, Durable}
use Rattle.spec_fold.specs.Fold.{is_first, body_taken, folded}
use Rattle.spec_records.specs.Records.{record_at}
use Rattle.spec_records.proofs.Forms.{bound, some_is}
use Rattle.spec_fold.specs.Orders.{AreFew}
use Rattle.spec_fold.proofs.Ordered.{few_taken, noted_volumes, records_leave_few}
use Rattle.afs_memory.specs.States.{on_disk}
use Rattle.afs_store.specs.Folds.{taken_as, TakesOne}
use Rattle.afs_volstore.specs.VolumeFold.{volume_fold}

few_if_first : (b : Bool) (r : StoreRecord) (d e : Durable) → AreFew d.volumes → (if b then folded r d else None) ≡ Some e → AreFew e.volumes
few_if_first true r d e few h = records_leave_few.one r d e few h
few_if_first false r d e few h = absurd cc

few_as : (first : Bool) (r : StoreRecord) (d e : Durable) → AreFew d.volumes → taken_as volume_fold first r d ≡ Some e → AreFew e.volumes
few_as true r d e few h = few_if_first (is_first r.body) r d e few h
few_as false r d e few h = records_leave_few.one r d e few h

-- one record more that is read
pub few_with_one : (first : Bool) (bytes : List ℕ) (old new : Durable) → AreFew old.volumes → TakesOne volume_fold first bytes old new → AreFew new.volumes
few_with_one first bytes old new few takes =
    let e = on_disk (0 + (length bytes + 9)) 0 new in
    let a = bound (record_at bytes) (λ r. taken_as volume_fold first r (on_disk 0 0 old)) e (takes 0 0) in
    few_as first a.0 (on_disk 0 0 old) e few a.1.1

-- one that was made ready
pub few_redone : (b : RecordBody) (h : RecordHead) (d e : Durable) → AreFew d.volumes → option_map (noted h) (body_taken b d) ≡ Some e → AreFew e.volumes
few_redone b h d e few done = by (body_taken b d) done (λ f is. few_taken b d f few is)
  where
    by : (o : Option Durable) → option_map (noted h) o ≡ Some e → ((f : Durable) → o ≡ Some f → AreFew f.volumes) → AreFew e.volumes
    by None none later = absurd cc
    by (Some f) some later = subst (λ (g : Durable). AreFew g.volumes) (some_is (noted h f) e some) (subst AreFew (sym (noted_volumes h f)) (later f refl))

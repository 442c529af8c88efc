use Rattle.std.proofs.Common.{◌≡◌, ◌++◌, ℕ, map, is_some, true}
use Rattle.std.specs.List.{AllByRecursion}
use Rattle.std.specs.Vec.Iter.{into_iter_items}
use Rattle.afs_num.specs.declared.records.StoredVolume.{StoredVolume}
use Rattle.spec_records.specs.Changes.{stored_volume}
use Rattle.spec_records.specs.Durable as durable
use Rattle.spec_records.specs.Records.{volume_form}
use Rattle.afs_seats.specs.Seated.{seen_as}
use Rattle.afs_volume.specs.Taking.{stored_of}
use Rattle.afs_volstore.specs.Laying.{AreLaid}
use Rattle.afs_memory.specs.Numbered.{AreNumbered}
use Rattle.afs_setup.proofs.laying.volumes_told.Given as goal

abbrev pub invariant-loop-item : goal.invariant-loop-item
invariant-loop-item l = record {
  told : l.all ++ map (λ (q : ℕ × durable.Stored). stored_volume q.0 q.1) (seen_as stored_of (into_iter_items l.item-iterator)) ≡ map (λ (q : ℕ × durable.Stored). stored_volume q.0 q.1) (seen_as stored_of l.fn.volumes.table);
  as_set_up : AreLaid (into_iter_items l.item-iterator);
  numbered : AreNumbered (into_iter_items l.item-iterator);
  fits : AllByRecursion volume_form.Fits l.all;
  taken : AllByRecursion (λ (s : StoredVolume). is_some (durable.stored_of s) ≡ true) l.all;
}

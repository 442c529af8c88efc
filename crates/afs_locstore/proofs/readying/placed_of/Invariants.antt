use Rattle.std.proofs.Common.{◌≡◌, ◌++◌}
use Rattle.std.specs.List.{AllByRecursion}
use Rattle.std.specs.Vec.Iter.{into_iter_items}
use Rattle.spec_records.specs.LocRecords.{listed_form}
use Rattle.afs_locstore.specs.Listings.{are_placed, CanBeAllPut}
use Rattle.afs_locstore.proofs.readying.placed_of.Given as goal

abbrev pub invariant-loop-listed : goal.invariant-loop-listed
invariant-loop-listed l = record {
  told : are_placed l.placed ++ into_iter_items l.listed-iterator ≡ l.fn.entries;
  can : CanBeAllPut l.placed;
  fits : AllByRecursion listed_form.Fits (into_iter_items l.listed-iterator);
}

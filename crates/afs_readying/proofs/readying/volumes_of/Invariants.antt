use Rattle.std.proofs.Common.{◌≡◌, ◌++◌, map}
use Rattle.std.specs.List.{AllByRecursion}
use Rattle.std.specs.Vec.Iter.{into_iter_items}
use Rattle.spec_records.specs.Records.{volume_form}
use Rattle.afs_memory.specs.Redos.{told, IsMadeAgain}
use Rattle.afs_readying.proofs.readying.volumes_of.Given as goal

abbrev pub invariant-loop-one : goal.invariant-loop-one
invariant-loop-one l = record {
  told : map told l.volumes ++ into_iter_items l.one-iterator ≡ l.fn.given;
  again : AllByRecursion IsMadeAgain l.volumes;
  fits : AllByRecursion volume_form.Fits (into_iter_items l.one-iterator);
}

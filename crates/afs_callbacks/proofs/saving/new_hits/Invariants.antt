use Rattle.std.proofs.Common.{◌≡◌, ◌++◌, [], drop}
use Rattle.spec_breaks.specs.Promises.{lasting}
use Rattle.afs_callbacks.specs.Saving.{hits_fresh}
use Rattle.afs_callbacks.proofs.saving.new_hits.Given as goal

abbrev pub invariant-loop-fid : goal.invariant-loop-fid
invariant-loop-fid l =
    l.hits.items ++ hits_fresh l.except l.before.items (drop l.fid-index l.fids) (lasting l.now l.promises.promises) ≡ hits_fresh l.except [] l.fids (lasting l.now l.promises.promises)

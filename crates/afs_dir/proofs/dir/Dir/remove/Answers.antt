use Rattle.std.proofs.Common.{refl}
use Rattle.afs_dir.proofs.Finding.{found_is, found_goes}
use Rattle.afs_dir.proofs.dir.Dir.remove.Goals as goal

pub invariant_of-self : goal.invariant_of-self
invariant_of-self c = rw c.remove-removed.ensures.items (found_goes c.args.name.now c.self.inside.names.items c.in-Ok.place c.self.invariant (rw c.deref.ensures.value at c.in-Ok.ensures.found))

pub returns-clause-answer : goal.returns-clause-answer
returns-clause-answer c =
    let found = found_is c.args.name.now c.self.inside.names.items c.in-Ok.place c.remove-removed.result (rw c.deref.ensures.value at c.in-Ok.ensures.found) c.remove-removed.ensures.value in
    rw (← c.self.view_is, found) refl

use Rattle.std.proofs.Common.{◌≡◌, ◌-◌}
use Rattle.spec_ideal.specs.Operations.{leads_up}
use Rattle.spec_ideal.specs.Tables.{get}
use Rattle.afs_patch.specs.Patching.{after}
use Rattle.afs_patch.proofs.patching.Patch.leads_up.Given as goal

abbrev pub invariant-loop : goal.invariant-loop
invariant-loop l = leads_up (l.steps - l.counter) l.at 1 (after l.self.volume.now l.self.change.now) (get l.at (after l.self.volume.now l.self.change.now).vnodes)
    ≡ leads_up l.steps l.fn.number 1 (after l.self.volume.now l.self.change.now) (get l.fn.number (after l.self.volume.now l.self.change.now).vnodes)

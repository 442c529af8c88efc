use Rattle.std.proofs.Common.{◌≡◌, ◌-◌, ◌+◌, ℕ, suc, false, nat_eq, Some, arith, rules}
use Rattle.spec_ideal.specs.Operations.{leads_up}
use Rattle.spec_ideal.specs.Tables.{get}
use Rattle.spec_ideal.specs.Volumes.{Vnode}
use Rattle.afs_volume.specs.Seen.{seen}
use Rattle.afs_volume.proofs.Upward.{higher}
use Rattle.afs_patch.specs.Patching.{after}
use Rattle.afs_patch.proofs.patching.Patch.leads_up.Goals as goal

pub loop-preserved : goal.loop-preserved
unfolding seen
loop-preserved c =
    let v = after c.args.self.now.volume.now c.args.self.now.change.now in
    let x : Vnode = seen c.in-Some.field-0.now in
    let k : ℕ = c.args.steps - c.loop.counter in
    let m : ℕ = c.args.steps - (c.loop.counter + 1) in
    let next : k ≡ suc m = omega arith in
    let is : get c.loop.at v.vnodes ≡ Some x = search rules in
    let other : nat_eq c.loop.at 1 ≡ false = search rules in
    higher k m c.loop.at 1 v (get c.loop.at v.vnodes) x (leads_up c.args.steps c.args.number 1 v (get c.args.number v.vnodes)) is next other c.loop.invariant

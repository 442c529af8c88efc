use Rattle.std.proofs.Common.{◌≡◌, ◌-◌, ◌+◌, ℕ, suc, false, length, nat_eq, Some, ap, arith, rules}
use Rattle.spec_ideal.specs.Operations.{is_below, leads_up}
use Rattle.spec_ideal.specs.Tables.{get}
use Rattle.spec_ideal.specs.Volumes.{Vnode}
use Rattle.afs_volume.specs.Seen.{seen, volume_seen}
use Rattle.afs_volume.proofs.Upward.{higher, same_length}
use Rattle.afs_volume.proofs.soundness.Parts.reaches_root.Goals as goal

pub loop-init : goal.loop-init
loop-init c =
    let v = volume_seen c.args.self.now.head.now c.args.self.now.vnodes.now.table in
    let all : length c.args.self.now.vnodes.now.table - 0 ≡ length v.vnodes = omega (arith, same_length c.args.self.now.vnodes.now.table) in
    ap (λ (k : ℕ). leads_up k c.args.number 1 v (get c.args.number v.vnodes)) all

pub loop-preserved : goal.loop-preserved
unfolding seen
loop-preserved c =
    let v = volume_seen c.args.self.now.head.now c.args.self.now.vnodes.now.table in
    let x : Vnode = seen c.in-Some.field-0.now in
    let k : ℕ = length c.args.self.now.vnodes.now.table - c.loop.counter in
    let m : ℕ = length c.args.self.now.vnodes.now.table - (c.loop.counter + 1) in
    let next : k ≡ suc m = omega arith in
    let is : get c.loop.at v.vnodes ≡ Some x = search rules in
    let other : nat_eq c.loop.at 1 ≡ false = search rules in
    higher k m c.loop.at 1 v (get c.loop.at v.vnodes) x (is_below c.args.number 1 v) is next other c.loop.invariant

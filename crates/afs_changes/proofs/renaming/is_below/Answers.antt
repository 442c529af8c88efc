use Rattle.std.proofs.Common.{◌≡◌, ◌-◌, ◌+◌, ℕ, suc, false, length, nat_eq, Some, ap, arith, rules}
use Rattle.spec_ideal.specs.Operations.{is_below, leads_up}
use Rattle.spec_ideal.specs.Tables.{get}
use Rattle.spec_ideal.specs.Volumes.{Vnode}
use Rattle.afs_volume.specs.Giving.{volume_of}
use Rattle.afs_volume.specs.Seen.{seen}
use Rattle.afs_volume.proofs.Upward.{higher, same_length}
use Rattle.afs_changes.proofs.renaming.is_below.Goals as goal

pub loop-init : goal.loop-init
loop-init c =
    let v = volume_of c.args.volume.now in
    let all : length c.args.volume.now.vnodes.table - 0 ≡ length v.vnodes = omega (arith, same_length c.args.volume.now.vnodes.table) in
    ap (λ (k : ℕ). leads_up k c.args.number c.args.top v (get c.args.number v.vnodes)) all

pub loop-preserved : goal.loop-preserved
unfolding seen
loop-preserved c =
    let v = volume_of c.args.volume.now in
    let x : Vnode = seen c.in-Some.field-0.now in
    let k : ℕ = length c.args.volume.now.vnodes.table - c.loop.counter in
    let m : ℕ = length c.args.volume.now.vnodes.table - (c.loop.counter + 1) in
    let next : k ≡ suc m = omega arith in
    let is : get c.loop.at v.vnodes ≡ Some x = search rules in
    let other : nat_eq c.loop.at c.args.top ≡ false = search rules in
    higher k m c.loop.at c.args.top v (get c.loop.at v.vnodes) x (is_below c.args.number c.args.top v) is next other c.loop.invariant

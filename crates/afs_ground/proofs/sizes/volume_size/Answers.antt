use Rattle.std.proofs.Common.{◌≡◌, length, arith, rules, subst}
use Rattle.spec_ideal.specs.Tables.{AscendsFrom}
use Rattle.afs_vnode.specs.Stores.{Held}
use Rattle.afs_grammar.specs.Lines.{filled_up}
use Rattle.afs_ground.specs.Sizes.{images_size}
use Rattle.afs_ground.proofs.Measures.{volume_is}
use Rattle.afs_ground.proofs.sizes.volume_size.Goals as goal

pub returns : goal.returns
returns c =
    let v = c.args.volume.now in
    let name : c.filled_up.result ≡ filled_up (length v.head.name) = search rules in
    let vnodes : c.images_size.result ≡ images_size v.vnodes.table = search rules in
    let up : AscendsFrom 0 v.vnodes.table = subst (λ (s : Held). AscendsFrom 0 s.table) c.vnodes.ensures c.images_size.ensures.ascends in
    let is = volume_is v up in
    omega (arith, name, vnodes, is)
